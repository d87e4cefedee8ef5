use Rattle.std.proofs.Common.{◌∙◌, ap, not, map, rules}
use Rattle.std.proofs.lemmas.Fn.{filter_same}
use Rattle.std.specs.Str.{bytes_eq}
use Rattle.row_objects.specs.View.{policy_of}
use Rattle.row_ast.proofs.Filters.{map-filter}
use Rattle.row_objects.proofs.policies.keep_others.Goals as goal

pub returns : goal.returns
returns g c =
    ap (λ items. map (λ p. policy_of p) items)
    (filter_same _ (λ p. not (bytes_eq c.args.name.now (policy_of p).name)) (record { 0 = c.args.name }) (λ x b f h. search rules) c.args.policies.now.items c.retain.new.self.items c.retain.ensures.filtered)
    ∙ map-filter (λ p. policy_of p) (λ p. not (bytes_eq c.args.name.now p.name)) c.args.policies.now.items
