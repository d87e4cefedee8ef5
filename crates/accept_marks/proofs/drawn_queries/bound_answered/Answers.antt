use Rattle.std.proofs.Common.{ap, map, sym, ◌∙◌}
use Rattle.tuples.specs.View.{guard_of}
use Rattle.accept_marks.proofs.drawn_queries.bound_answered.Goals as goal

-- the guards of the tables are those of the setting
pub answered_by_each-requires : goal.answered_by_each-requires
answered_by_each-requires g c =
    sym (ap (map (λ t. guard_of t.guard.now)) c.deref-3.ensures.value ∙ c.in_ok-tables.ensures ∙ ap (map guard_of) c.as_slice-2.ensures)
