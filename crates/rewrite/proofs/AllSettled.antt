-- A condition that settles in the shape under some conditions makes the shape under one more.
use Rattle.std.proofs.Common.{◌≡◌, ◌∙◌, refl, sym, ap, ap₂, ℕ, ◌+◌, ◌<◌, Bool, true, false, ◌&&◌, ◌||◌, not, ◌==◌, nat_lt, List, [], ◌∷◌, ◌++◌, length, filter, append-nil, append_assoc, if◌then◌else◌}
use Rattle.std.specs.List.{list_all, list_any}
use Rattle.std.proofs.lemmas.Bool as bools
use Rattle.std.proofs.lemmas.Bool.{both_ways, lt-ltb, ltb-true, or_left}
use Rattle.expr.specs.declared.bound.ColumnId.{ColumnId}
use Rattle.expr.specs.declared.code.CodeStep.{CodeStep}
use Rattle.expr.specs.Bound.{BoundExpr}
use Rattle.expr.specs.Columns.{columns}
use Rattle.predicates.proofs.Movables.{and_left, and_right}
use Rattle.predicates.proofs.Keeping.{both}
use Rattle.row_terms.specs.Terms.{Term, Filtered, covers}
use Rattle.row_terms.specs.Written.{filters}
use Rattle.trailcheck.specs.Entries.{is_among, names_none, is_over}
use Rattle.trailcheck.specs.Settings.{Setting, inner_count}
use Rattle.trailcheck.specs.Shapes.{entry_index, scan, with_entry, joined_on, joined_all, left_over, under_others}
use Rattle.rewrite.specs.Placing.{goes_deeper, passes, sunk, settled, all_settled}
use Rattle.rewrite.proofs.Distinct.{AreNew, placed_after}
use Rattle.rewrite.proofs.LeftSettled.{CoversBelow, goes_below_lefts, none_completes, reads_below, stays_at_left}
use Rattle.rewrite.proofs.Opened.{under}
use Rattle.rewrite.proofs.Settled.{AreThere, Covers, covers_next, covers_scan, filter_with, filter_without, filters_with, over_more, sinks_in, stays_out, sunk_passes, there_next}
use Rattle.rewrite.proofs.Tests.{all_some, kept_pass, none_passes, not_then}

-- two tests that follow from one another
same_tests : (a b : Bool) → (a ≡ true → b ≡ true) → (b ≡ true → a ≡ true) → a ≡ b
same_tests true b f g = sym (f refl)
same_tests false b f g = sym (not_then b false (λ h. g h) refl)

module _ (at : Setting) where
  abbrev count : ℕ
  count = length at.frame

  abbrev inner : ℕ
  inner = inner_count at

  -- the steps place all entries that are not left joined
  abbrev pub PlacesInner : List CodeStep → Type 0
  PlacesInner ss = AreNew inner [] ss × ((k : ℕ) → k < inner → is_among (placed_after [] ss) k ≡ true)

  -- ---- the entries of the steps

  there_after : (ss : List CodeStep) (placed : List ℕ) → AreThere at placed → AreNew inner placed ss → AreThere at (placed_after placed ss)
  there_after [] placed there new = there
  there_after (s ∷ ss) placed there new = there_after ss (placed ++ entry_index s ∷ []) (there_next at placed (entry_index s) there new.0) new.2

  covers_after : (known : List BoundExpr) (ss : List CodeStep) (placed : List ℕ) (x : Term) → Covers at x placed → Covers at (joined_on (under at known) placed x ss) (placed_after placed ss)
  covers_after known [] placed x fits = fits
  covers_after known (s ∷ ss) placed x fits =
      covers_after known ss (placed ++ entry_index s ∷ []) (with_entry (under at known) placed x (entry_index s)) (covers_next at known placed (entry_index s) x fits)

  joined_covers : (known : List BoundExpr) (ss : List CodeStep) → PlacesInner ss → CoversBelow (joined_all (under at known) ss) inner
  joined_covers known ss p k = placed_by ss k ∙ same_tests (is_among (placed_after [] ss) k) (nat_lt k inner) (there_after ss [] (λ j h. absurd (cc)) p.0 k) (λ h. p.1 k (ltb-true k inner h))
    where
      alone : (b : Bool) → b ≡ b || false
      alone true = refl
      alone false = refl

      placed_by : (ss : List CodeStep) (k : ℕ) → covers (joined_all (under at known) ss) k ≡ is_among (placed_after [] ss) k
      placed_by [] k = refl
      placed_by (s ∷ ss) k = covers_after known ss (entry_index s ∷ []) (scan (under at known) (entry_index s)) (λ j. covers_scan at known (entry_index s) j ∙ alone (entry_index s == j)) k

  -- ---- one condition more

  module _ (known : List BoundExpr) (e : BoundExpr) where
    abbrev less : Setting
    less = under at known

    abbrev more : Setting
    more = under at (known ++ e ∷ [])

    inner_sinks : (ss : List CodeStep) → PlacesInner ss → is_over inner e ≡ true → sunk count e (joined_all less ss) ≡ joined_all more ss
    inner_sinks [] p over =
        let test : ColumnId → Bool = λ id. nat_lt id.entry inner in
        let some = and_left (not (names_none e)) (reads_below inner e) over in
        let within = and_right (not (names_none e)) (reads_below inner e) over in
        let none = none_passes (λ (id : ColumnId). nat_lt id.entry inner) (λ id. nat_lt id.entry inner) (λ id q. absurd (both_ways false refl (p.1 id.entry (ltb-true id.entry inner q)))) (columns e) within in
        absurd (both_ways (list_any (λ (id : ColumnId). nat_lt id.entry inner) (columns e)) none (all_some (λ (id : ColumnId). nat_lt id.entry inner) (columns e) some within))
    inner_sinks (s ∷ ss) p over = sinks_in at known e s ss p.0 p.1 over

    inner_stays : (ss : List CodeStep) → PlacesInner ss → is_over inner e ≡ false → joined_all more ss ≡ joined_all less ss
    inner_stays [] p other = refl
    inner_stays (s ∷ ss) p other = stays_out at known e s ss p.0 p.1 other

    module _ (ss : List CodeStep) (places : PlacesInner ss) (lefts : inner + length at.lefts ≡ count) where
      abbrev on_top : BoundExpr → Bool
      on_top a = not (is_over count a)

      abbrev below_top : Setting → Term
      below_top to = left_over to inner at.lefts (joined_all to ss)

      -- it is over entries of the query
      lefts_sink : is_over count e ≡ true → sunk count e (below_top less) ≡ below_top more
      lefts_sink over = go (reads_below inner e) refl
        where
          some : not (names_none e) ≡ true
          some = and_left (not (names_none e)) (reads_below count e) over

          within : reads_below (inner + length at.lefts) e ≡ true
          within = ap (λ n. reads_below n e) lefts ∙ and_right (not (names_none e)) (reads_below count e) over

          go : (b : Bool) → reads_below inner e ≡ b → sunk count e (below_top less) ≡ below_top more
          go true below =
              goes_below_lefts at known e at.lefts inner (joined_all less ss) (joined_covers known ss places) below
              ∙ ap (left_over more inner at.lefts) (inner_sinks ss places (both (not (names_none e)) (reads_below inner e) some below))
          go false other =
              stays_at_left at known e at.lefts inner (joined_all less ss) (joined_covers known ss places) lefts other within
              ∙ ap (left_over more inner at.lefts) (sym (inner_stays ss places (bools.and_right (not (names_none e)) (reads_below inner e) other)))

      -- and it is not
      lefts_stay : is_over count e ≡ false → below_top more ≡ below_top less
      lefts_stay other =
          ap (left_over more inner at.lefts) (inner_stays ss places (not_then (is_over inner e) (is_over count e) (over_more at e) other))
          ∙ none_completes at known e at.lefts inner (joined_all less ss) lefts other

      settles_in : settled count e (filters (filter on_top known) (below_top less)) ≡ filters (filter on_top (known ++ e ∷ [])) (below_top more)
      settles_in = go (is_over count e) refl
        where
          go : (b : Bool) → is_over count e ≡ b →
              (if b then sunk count e (filters (filter on_top known) (below_top less)) else Filtered e (filters (filter on_top known) (below_top less))) ≡ filters (filter on_top (known ++ e ∷ [])) (below_top more)
          go true over =
              sunk_passes at e (filter on_top known) (below_top less) (kept_pass on_top (λ a. passes count e a (below_top less)) (λ a q. or_left (not (is_over count a)) (goes_deeper e (below_top less)) q) known)
              ∙ ap₂ (λ l t. filters l t) (sym (filter_without on_top known e (ap not over))) (lefts_sink over)
          go false other =
              sym (filters_with (filter on_top known) e (below_top less))
              ∙ ap₂ (λ l t. filters l t) (sym (filter_with on_top known e (ap not other))) (sym (lefts_stay other))

  -- ---- all conditions, one after another

  module _ (ss : List CodeStep) (places : PlacesInner ss) (lefts : inner + length at.lefts ≡ count) where
    -- the shape under those conditions, where the entries that are not left joined have these steps
    abbrev pub shape_under : List BoundExpr → Term
    shape_under known = under_others (under at known) (left_over (under at known) inner at.lefts (joined_all (under at known) ss))

    pub all_settle_in : (es known : List BoundExpr) → all_settled count es (shape_under known) ≡ shape_under (known ++ es)
    all_settle_in [] known = ap shape_under (sym (append-nil known))
    all_settle_in (e ∷ es) known =
        ap (all_settled count es) (settles_in known e ss places lefts)
        ∙ all_settle_in es (known ++ e ∷ [])
        ∙ ap shape_under (append_assoc known (e ∷ []) es)
