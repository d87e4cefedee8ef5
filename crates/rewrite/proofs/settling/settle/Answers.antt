use Rattle.std.proofs.Common.{◌∙◌, [], if◌then◌else◌, sym, ap, map}
use Rattle.std.proofs.lemmas.Bool.{not-true}
use Rattle.row_terms.specs.View.{term_of}
use Rattle.algebra.specs.View.{step_of}
use Rattle.trailcheck.specs.Entries.{is_over}
use Rattle.rewrite.specs.Placing.{sinking}
use Rattle.rewrite.proofs.Below.{none_added_ok}
use Rattle.rewrite.proofs.settling.settle.Goals as goal

pub returns-then-branch-clause-steps : goal.returns-then-branch-clause-steps
returns-then-branch-clause-steps g c =
    none_added_ok c.filtered.result c.args.path.now (map step_of c.args.trail.now) _
    (ap (λ b. if b then sinking c.args.count c.args.condition (term_of c.args.term) else []) (not-true (is_over c.args.count c.args.condition) (sym c.in_ok-is_wanted.ensures ∙ c.if-branch.true)))
