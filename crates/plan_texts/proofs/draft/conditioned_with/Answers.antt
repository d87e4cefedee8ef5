use Rattle.std.proofs.Common.{Some, ap}
use Rattle.std.specs.Prelude.{map}
use Rattle.row_ast.specs.View.{expr_of}
use Rattle.plan_texts.specs.Reading.{Conditioned}
use Rattle.plan_texts.specs.View.{on_of}
use Rattle.plan_texts.proofs.Additions.{other_conditioned}
use Rattle.plan_texts.proofs.draft.conditioned_with.Goals as goal

pub returns-in_ok-ons-in-On : goal.returns-in_ok-ons-in-On
returns-in_ok-ons-in-On g c = rw c.in-On.is (ap (λ os. Some (Conditioned c.args.cost (map expr_of c.args.filters) os)) c.in_ok-ons-in-On.ensures)

pub returns-in_default : goal.returns-in_default
returns-in_default g c = other_conditioned c.args.line c.args.cost (map expr_of c.args.filters) (map on_of c.args.ons) c.in_default.not-On c.in_default.not-Empty c.in_default.not-First
