use Rattle.std.specs.Prelude.{map}
use Rattle.row_ast.specs.View.{expr_of}
use Rattle.plan_texts.specs.View.{on_of, plan_code_of}
use Rattle.plan_texts.proofs.Additions.{other_coded}
use Rattle.plan_texts.proofs.draft.coded_with.Goals as goal

pub returns-in_default : goal.returns-in_default
returns-in_default g c = other_coded c.args.line c.args.cost (map expr_of c.args.filters) (map on_of c.args.ons) (plan_code_of c.args.code) c.in_default.not-Join c.in_default.not-Sort c.in_default.not-Trail
