use Rattle.std.proofs.Common.{◌∙◌, ap, map}
use Rattle.row_objects.specs.Grants.{without_grants}
use Rattle.row_objects.specs.View.{grant_of}
use Rattle.row_objects.proofs.grants.remove_grants.Goals as goal

pub returns : goal.returns
returns g c =
    ap (λ gs. map (λ g. grant_of g) gs) c.from.ensures ∙ c.keep_others.ensures
    ∙ ap (λ gs. without_grants c.args.columns.now c.args.roles.now (map (λ g. grant_of g) gs)) (c.into_vec-list.ensures ∙ c.replace.ensures.value)
