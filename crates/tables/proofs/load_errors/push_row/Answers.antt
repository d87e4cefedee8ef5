use Rattle.std.proofs.Common.{◌++◌, ◌∙◌, ap, append_assoc}
use Rattle.std.specs.Prelude.{codes}
use Rattle.std.specs.Fmt.{decimal}
use Rattle.memory.proofs.Cases.{on_ok}
use Rattle.tables.proofs.load_errors.push_row.Goals as goal

pub returns : goal.returns
returns g c = on_ok c.push_number.result _ _ (λ h. h ∙ ap (λ s. s ++ decimal c.args.row) c.in_ok-push_str.ensures ∙ append_assoc c.args.line.now.items (codes " row ") (decimal c.args.row)) c.push_number.ensures
