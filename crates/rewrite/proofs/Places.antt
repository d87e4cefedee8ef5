-- The steps that place the conditions lead to the shape.
use Rattle.std.proofs.Common.{◌≡◌, ◌∙◌, sym, ap, ◌+◌, Bool, true, ◌&&◌, not, ◌==◌, List, [], ◌∷◌, ◌++◌, length, Ok, arith}
use Rattle.std.proofs.lemmas.Bool.{eqb-true}
use Rattle.std.proofs.lemmas.List.{length-drop, length-take}
use Rattle.predicates.proofs.Movables.{and_left, and_right}
use Rattle.expr.specs.declared.code.CodeStep.{CodeStep}
use Rattle.expr.specs.Codes as codes
use Rattle.row_terms.specs.Written.{all_joins, joins, filters}
use Rattle.trailcheck.specs.Admissible.{is_admissible, is_refuted, are_allowed_steps, are_left_steps}
use Rattle.trailcheck.specs.Settings.{Setting, inner_count}
use Rattle.trailcheck.specs.Shapes.{inner_steps, left_steps, shape}
use Rattle.rewrite.specs.Laws.{PlacesEach}
use Rattle.rewrite.specs.Placing.{all_opened, arranging, joined_back, joining, ordering, opening, from_entries, code_entries, opened_back, all_settled, settling_all, placing}
use Rattle.rewrite.specs.Trails.{led, below_filters}
use Rattle.rewrite.proofs.AllSettled.{all_settle_in}
use Rattle.rewrite.proofs.Distinct.{AreNew, are_new, code_distinct, code_count, code_within, all_placed}
use Rattle.rewrite.proofs.Emptied.{all_emptied, all_have}
use Rattle.rewrite.proofs.Leads.{led_then, led_filters}
use Rattle.rewrite.proofs.Opened.{from_joins, left_count, opens, opens_lefts, opened_shape}
use Rattle.rewrite.proofs.Ordering.{ordered}
use Rattle.rewrite.proofs.Sinking.{all_settle}

module _ (at : Setting) where
  -- what is known of the steps of an admissible code
  module _ (ss : List CodeStep) (many : length ss ≡ length at.frame) (allowed : are_allowed_steps at [] (inner_steps at ss) ≡ true) (last : are_left_steps (inner_count at) at.lefts (left_steps at ss) ≡ true) where
    pub as_many : length (inner_steps at ss) ≡ inner_count at
    as_many = let a = length-take (inner_count at) ss in omega (arith, a, many)

    pub all_lefts : inner_count at + length at.lefts ≡ length at.frame
    all_lefts =
        let a = left_count at (inner_count at) at.lefts (left_steps at ss) last in
        let b = length-drop (inner_count at) ss in
        omega (arith, a, b, many)

    pub new : AreNew (inner_count at) [] (inner_steps at ss)
    new = are_new at [] (inner_steps at ss) allowed

    abbrev inner : List CodeStep
    inner = inner_steps at ss

    joined : led at.frame (joining at (code_entries at inner)) (joins (inner_count at)) ≡ Ok (opened_back at (code_entries at inner))
    joined =
        led_then at.frame (ordering (code_entries at inner) (from_entries at)) (opening at.frame (code_entries at inner)) (joins (inner_count at)) (joined_back (code_entries at inner))
        (ap (led at.frame (ordering (code_entries at inner) (from_entries at))) (sym (from_joins (inner_count at)))
        ∙ ordered at.frame (code_entries at inner) (from_entries at) (code_count at inner as_many new) (code_distinct at inner as_many new) (code_within at inner as_many new))
        ∙ opens at (code_entries at inner)

    arranged : led at.frame (arranging at (code_entries at (left_steps at ss)) (code_entries at inner)) (all_joins (length at.frame) at.lefts) ≡ Ok (all_opened at (code_entries at inner))
    arranged = opens_lefts at at.lefts (left_steps at ss) (inner_count at) [] (joining at (code_entries at inner)) (joins (inner_count at)) (opened_back at (code_entries at inner)) last joined

    stepped : led at.frame (placing at (codes.Steps ss)) (filters at.conditions (all_joins (length at.frame) at.lefts)) ≡ Ok (shape at (codes.Steps ss))
    stepped =
        let way = arranging at (code_entries at (left_steps at ss)) (code_entries at inner) in
        let x = all_opened at (code_entries at inner) in
        led_then at.frame (below_filters (length at.conditions) way) (settling_all (length at.frame) at.conditions x)
        (filters at.conditions (all_joins (length at.frame) at.lefts)) (filters at.conditions x)
        (led_filters at.frame at.conditions way (all_joins (length at.frame) at.lefts) x arranged)
        ∙ all_settle at.frame (length at.frame) at.conditions x
        ∙ ap (λ y. Ok (all_settled (length at.frame) at.conditions y)) (opened_shape at inner)
        ∙ ap Ok (all_settle_in at inner (new, all_placed at inner as_many new) all_lefts at.conditions [])

  -- an admissible code has such steps
  module _ (ss : List CodeStep) (h : is_admissible at (codes.Steps ss) ≡ true) where
    abbrev allowed : Bool
    allowed = are_allowed_steps at [] (inner_steps at ss)

    abbrev last : Bool
    last = are_left_steps (inner_count at) at.lefts (left_steps at ss)

    both_parts : (length ss == length at.frame) && (allowed && last) ≡ true
    both_parts = and_right (not (is_refuted at)) ((length ss == length at.frame) && (allowed && last)) h

    pub has_many : length ss ≡ length at.frame
    has_many = eqb-true (length ss) (length at.frame) (and_left (length ss == length at.frame) (allowed && last) both_parts)

    pub has_allowed : allowed ≡ true
    has_allowed = and_left allowed last (and_right (length ss == length at.frame) (allowed && last) both_parts)

    pub has_last : last ≡ true
    has_last = and_right allowed last (and_right (length ss == length at.frame) (allowed && last) both_parts)

pub places_each : PlacesEach
places_each at codes.Empty h = all_emptied at.frame at.conditions (all_joins (length at.frame) at.lefts) (all_have (length at.frame) at.lefts) h
places_each at (codes.Steps ss) h = stepped at ss (has_many at ss h) (has_allowed at ss h) (has_last at ss h)
