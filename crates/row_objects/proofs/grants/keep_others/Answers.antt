use Rattle.std.proofs.Common.{◌∙◌, ap, not, map, rules}
use Rattle.std.proofs.lemmas.Fn.{filter_same}
use Rattle.row_objects.specs.Grants.{is_revoked}
use Rattle.row_objects.specs.View.{grant_of}
use Rattle.row_ast.proofs.Filters.{map-filter}
use Rattle.row_objects.proofs.grants.keep_others.Goals as goal

pub returns : goal.returns
returns g c =
    ap (λ items. map (λ g. grant_of g) items)
    (filter_same _ (λ g. not (is_revoked c.args.columns.now c.args.roles.now (grant_of g))) (c.args.columns, c.args.roles) (λ x b f h. search rules) c.args.grants.now.items c.retain.new.self.items c.retain.ensures.filtered)
    ∙ map-filter (λ g. grant_of g) (λ g. not (is_revoked c.args.columns.now c.args.roles.now g)) c.args.grants.now.items
