-- What is held, with one more outcome or combination, and the answer from it.
use Rattle.std.proofs.Common.{◌≡◌, ℕ, ◌+◌, ◌<◌, Bool, true, false, List, [], ◌∷◌, ◌++◌, length, get_or, map, take, refl, sym, ap, ap₂, ◌∙◌, subst, Result, Ok, Err, Option, Some, None, OnOk, option_to_list, Vec}
use Rattle.std.proofs.lemmas.List.{append-nil, map-append, take_more}
use Rattle.memory.specs.Gives.{Gives, IsFailure}
use Rattle.memory.specs.Results.{and_then}
use Rattle.memory.proofs.Cases.{some_is_not}
use Rattle.memory.specs.declared.failure.Failure.{Failure}
use Rattle.memory.specs.declared.failure.Failure.TheVariants as failures
use Rattle.bags.specs.Least.{lesser}
use Rattle.bags.proofs.Least.{lesser_none, lesser_assoc}
use Rattle.value.specs.Datum.{Row}
use Rattle.value.specs.Names.{Name}
use Rattle.value.specs.declared.faults.Fault.{Fault}
use Rattle.expr.specs.Aggregates.{AggregateCall}
use Rattle.expr.specs.BoundQuery.{BoundQuery}
use Rattle.expr.specs.Conjuncts.{fragile_conjuncts}
use Rattle.expr.specs.View.{aggregate_calls_of}
use Rattle.expr.specs.declared.bound.ColumnId.{ColumnId}
use Rattle.expr.specs.declared.query.OutputKey.{OutputKey}
use Rattle.eval.specs.Meaning.{Cells, ◌>>=◌}
use Rattle.groups.specs.Stages.{Fate, fault_cmp, fault_in, given_in, gives, gives_if, stage, unless_fault}
use Rattle.groups.specs.Progress.{Adds}
use Rattle.groups.specs.declared.stage.Stage.{Stage}
use Rattle.groups.proofs.FaultOrder.{fault_total}
use Rattle.groups.specs.declared.groups.Groups.{Groups}
use Rattle.groups.specs.Groups.{groups_of}
use Rattle.groups.specs.GroupRow.{group_rows}
use Rattle.groups.specs.Members.{Member, arguments, key_on, member_on, with_key}
use Rattle.groups.specs.Running.{finished_rows, put_running, running_groups}
use Rattle.groups.specs.Taking.{Takes, rows_of, totals_in}
use Rattle.groups.proofs.ClassLaws.{rows_finished, totals_more}
use Rattle.answer_rows.specs.Growing.{Growing, only}
use Rattle.tuples.specs.Combinations.{Combination, joined_cells}
use Rattle.tuples.specs.View.{world_of}
use Rattle.tuples.specs.World.{World, combination_at}
use Rattle.tuples.specs.declared.slot.Slot.{Slot}
use Rattle.row_marks.specs.declared.marked.Marked.{Marked}
use Rattle.row_marks.specs.declared.marks.Marks.{Marks}
use Rattle.row_marks.specs.Marks.{AreMarked, AreMarksOf, exprs_of, seen_of}
use Rattle.row_marks.proofs.Marking.{with_conditions}
use Rattle.report.specs.declared.taken_rows.TakenRows.{TakenRows}
use Rattle.report.specs.declared.answering.Answering.{Answering}
use Rattle.report.specs.declared.gathered.Gathered.{Gathered}
use Rattle.report.specs.Answer.{answer, rows_of_kept}
use Rattle.report.specs.Answering.{Gathers, HasPushed, HoldsGroups, HoldsRows, Took, all_given, least_fault}
use Rattle.report.specs.Held.{held}
use Rattle.report.specs.Pushed.{values_after}
use Rattle.report.specs.QueryStages.{arguments_fate, keeps, query_aggregates, where_fate}

-- the first elements with the next one
pub next_taken : {X : Type 0} (xs : List X) (i : ℕ) (x : X) → i < length xs → x ≡ get_or xs i x → take (i + 1) xs ≡ take i xs ++ x ∷ []
next_taken xs i x lt is = take_more xs i x lt ∙ ap (λ y. take i xs ++ y ∷ []) (sym is)

-- ---- outcomes

least_more : {Y : Type 0} (fates : List (Fate Y)) (fate : Fate Y) → least_fault (fates ++ fate ∷ []) ≡ lesser fault_cmp (least_fault fates) (fault_in fate)
least_more [] (Ok given) = refl
least_more [] (Err f) = refl
least_more (Ok given ∷ fates) fate = least_more fates fate
least_more (Err f ∷ fates) fate = ap (lesser fault_cmp (Some f)) (least_more fates fate) ∙ sym (lesser_assoc fault_cmp fault_total (Some f) (least_fault fates) (fault_in fate))

given_more : {Y : Type 0} (fates : List (Fate Y)) (fate : Fate Y) → all_given (fates ++ fate ∷ []) ≡ all_given fates ++ option_to_list (given_in fate)
given_more [] (Ok None) = refl
given_more [] (Ok (Some y)) = refl
given_more [] (Err f) = refl
given_more (Ok None ∷ fates) fate = given_more fates fate
given_more (Ok (Some y) ∷ fates) fate = ap (λ l. y ∷ l) (given_more fates fate)
given_more (Err f ∷ fates) fate = given_more fates fate

-- one that does not fault
same_least : {Y : Type 0} (fates : List (Fate Y)) (given : Option Y) → least_fault fates ≡ least_fault (fates ++ Ok given ∷ [])
same_least fates given = sym (least_more fates (Ok given) ∙ lesser_none fault_cmp (least_fault fates))

nothing_given : {Y : Type 0} (fates : List (Fate Y)) (fate : Fate Y) → given_in fate ≡ None → all_given fates ≡ all_given (fates ++ fate ∷ [])
nothing_given fates fate none = sym (given_more fates fate ∙ ap (λ o. all_given fates ++ option_to_list o) none ∙ append-nil (all_given fates))

-- ---- rows

module _ {A : Type 0} (keys : List OutputKey) (limit : Option ℕ) where
  pub row_more : (old new : TakenRows A) (fates : List (Fate Row)) (due : Result Row Fault) (row : Row) → due ≡ Ok row → old.stage.least ≡ least_fault fates →
      new.rows ≡ only (held keys limit (all_given fates ++ row ∷ [])) → new.stage.least ≡ old.stage.least → HoldsRows keys limit new (fates ++ gives due ∷ [])
  row_more old new fates due row is fault rows least =
      let whole : HoldsRows keys limit new (fates ++ Ok (Some row) ∷ []) = record {
        rows = rows ∙ ap (λ l. only (held keys limit l)) (sym (given_more fates (Ok (Some row))));
        fault = least ∙ fault ∙ same_least fates (Some row);
      } in
      subst (λ d. HoldsRows keys limit new (fates ++ gives d ∷ [])) (sym is) whole

  pub fault_more : (old new : TakenRows A) (fates : List (Fate Row)) (due : Result Row Fault) (failure : Failure Fault) → IsFailure failure due → old.rows.rows ≡ held keys limit (all_given fates) → old.stage.least ≡ least_fault fates →
      Adds (Err failure) old.stage new.stage → new.rows ≡ only old.rows.rows → HoldsRows keys limit new (fates ++ gives due ∷ [])
  fault_more old new fates due (failures.Error f) is held_rows fault adds rows =
      let whole : HoldsRows keys limit new (fates ++ Err f ∷ []) = record {
        rows = rows ∙ ap only (held_rows ∙ ap (held keys limit) (nothing_given fates (Err f) refl));
        fault = adds.1 ∙ ap (λ o. lesser fault_cmp o (Some f)) fault ∙ sym (least_more fates (Err f));
      } in
      subst (λ d. HoldsRows keys limit new (fates ++ gives d ∷ [])) (sym is) whole
  fault_more old new fates due failures.OutOfMemory is held_rows fault adds rows = absurd adds

after_none : (due : Result Row Fault) → values_after [] due ≡ due
after_none (Ok row) = refl
after_none (Err fault) = refl

-- the values of the next row are pushed
pub has_pushed : {A : Type 0} (keys : List OutputKey) (limit : Option ℕ) (old : TakenRows A) (rows : Growing) (fates : List (Fate Row)) (outcome : Result (Unit {0}) (Failure Fault)) (due : Result Row Fault) → HoldsRows keys limit old fates →
    rows.rows ≡ old.rows.rows → Gives (λ _. rows.unfinished) outcome (values_after old.rows.unfinished due) → HasPushed keys limit (record old { rows = rows }) fates outcome due
has_pushed keys limit old rows fates outcome due h same pushed = record {
  rows = same ∙ ap (λ (g : Growing). g.rows) h.rows;
  fault = h.fault;
  next = subst (Gives (λ _. rows.unfinished) outcome) (ap (λ (g : Growing). values_after g.unfinished due) h.rows ∙ after_none due) pushed;
}

-- ---- groups

finished : (columns : List ColumnId) (calls : List AggregateCall) (known : Option Fault) (ms : List Member) → and_then (unless_fault known (running_groups calls (groups_of columns ms))) (finished_rows calls) ≡ and_then (unless_fault known ms) (group_rows columns calls)
finished columns calls None ms = rows_finished columns calls ms
finished columns calls (Some f) ms = refl

-- with a fault there is a least one
some_least : (known : Option Fault) (f : Fault) → lesser fault_cmp known (Some f) ≡ None → ⊥
some_least None f h = some_is_not f h
some_least (Some g) f h = some_is_not _ h

module _ {A : Type 0} (columns : List ColumnId) (calls : List AggregateCall) where
  member_more : (cells : Cells) (role : Name) (old new : Groups A) (fates : List (Fate Member)) → HoldsGroups columns calls old fates →
      Takes calls (member_on cells role columns calls) old new → HoldsGroups columns calls new (fates ++ gives (member_on cells role columns calls) ∷ [])
  member_more cells role old new fates h = go (arguments cells role calls)
    where
      go : (r : Result Row Fault) → Takes calls (with_key (key_on cells columns) r) old new → HoldsGroups columns calls new (fates ++ gives (with_key (key_on cells columns) r) ∷ [])
      go (Ok args) takes =
          let m : Member = record { key = key_on cells columns; arguments = args } in
          record {
            totals = λ none. takes.0 ∙ ap (put_running calls m) (h.totals (sym takes.1 ∙ none)) ∙ totals_more columns calls (all_given fates) m (λ none. ap (key_on cells) none) ∙ ap (λ ms. running_groups calls (groups_of columns ms)) (sym (given_more fates (Ok (Some m))));
            fault = takes.1 ∙ h.fault ∙ same_least fates (Some m);
          }
      go (Err f) takes = record {
        totals = λ none. absurd (some_least old.stage.least f (sym takes ∙ none));
        fault = takes ∙ ap (λ o. lesser fault_cmp o (Some f)) h.fault ∙ sym (least_more fates (Err f));
      }

  -- the rows of the groups are those of the stage
  pub rows_are : (s : Groups A) (fates : List (Fate Member)) → HoldsGroups columns calls s fates → rows_of calls s ≡ and_then (stage fates) (group_rows columns calls)
  rows_are s fates h = go s.stage.least refl
    where
      go : (o : Option Fault) → s.stage.least ≡ o → rows_of calls s ≡ and_then (stage fates) (group_rows columns calls)
      go None none = ap₂ (λ o gs. and_then (unless_fault o gs) (finished_rows calls)) h.fault (h.totals none) ∙ finished columns calls (least_fault fates) (all_given fates)
      go (Some f) some =
          ap (λ o. and_then (unless_fault o (totals_in s)) (finished_rows calls)) some ∙ sym (ap (λ o. and_then (unless_fault o (all_given fates)) (group_rows columns calls)) (sym h.fault ∙ some))

-- one more combination in the groups of a query
pub combination_more : {A : Type 0} (role : Name) (q : BoundQuery) (calls : List AggregateCall) (these : List Combination) (c : Combination) (old new : Groups A) → calls ≡ query_aggregates q →
    HoldsGroups q.group_by (query_aggregates q) old (map (arguments_fate role q) these) → Takes calls (member_on (joined_cells c) role q.group_by calls) old new →
    HoldsGroups q.group_by (query_aggregates q) new (map (arguments_fate role q) (these ++ c ∷ []))
combination_more role q calls these c old new are h takes =
    subst (HoldsGroups q.group_by (query_aggregates q) new) (sym (map-append (arguments_fate role q) these (c ∷ [])))
    (member_more q.group_by (query_aggregates q) (joined_cells c) role old new (map (arguments_fate role q) these) h (subst (λ cs. Takes cs (member_on (joined_cells c) role q.group_by cs) old new) are takes))

-- ---- combinations

module _ {A : Type 0} (w : World) (s : Answering A) (these : List Combination) (c : Combination) (h : Took w s these) where
  abbrev fate_of : Combination → Fate Combination
  fate_of = where_fate w.role w.query

  abbrev test : Result Bool Fault
  test = keeps (joined_cells c) w.role (fragile_conjuncts w.query)

  -- its outcome comes last
  last_fate : (fate : Fate Combination) → fate_of c ≡ fate → map fate_of these ++ fate ∷ [] ≡ map fate_of (these ++ c ∷ [])
  last_fate fate is = ap (λ f. map fate_of these ++ f ∷ []) (sym is) ∙ sym (map-append fate_of these (c ∷ []))

  pub took_kept : (g : Gathered A) (m : Marks A) → AreMarksOf w m → test ≡ Ok true → Gathers w g (all_given (map fate_of these) ++ c ∷ []) → Took w (record s { gathered = g; marks = m }) (these ++ c ∷ [])
  took_kept g m marks is gathered =
      let last = last_fate (Ok (Some c)) (ap (gives_if c) is) in
      record {
        world = h.world;
        marks = marks;
        calls = h.calls;
        fault = h.fault ∙ same_least (map fate_of these) (Some c) ∙ ap least_fault last;
        kept = subst (Gathers w g) (sym (given_more (map fate_of these) (Ok (Some c))) ∙ ap all_given last) gathered;
      }

  pub took_dropped : (m : Marks A) → AreMarksOf w m → test ≡ Ok false → Took w (record s { marks = m }) (these ++ c ∷ [])
  took_dropped m marks is =
      let last = last_fate (Ok None) (ap (gives_if c) is) in
      record {
        world = h.world;
        marks = marks;
        calls = h.calls;
        fault = h.fault ∙ same_least (map fate_of these) None ∙ ap least_fault last;
        kept = subst (Gathers w s.gathered) (nothing_given (map fate_of these) (Ok None) refl ∙ ap all_given last) h.kept;
      }

  pub took_fault : (filter : Stage (Unit {0}) A) (m : Marks A) → AreMarksOf w m → (failure : Failure Fault) → IsFailure failure test → Adds (Err failure) s.filter filter → Took w (record s { filter = filter; marks = m }) (these ++ c ∷ [])
  took_fault filter m marks (failures.Error f) is adds =
      let last = last_fate (Err f) (ap (gives_if c) is) in
      record {
        world = h.world;
        marks = marks;
        calls = h.calls;
        fault = adds.1 ∙ ap (λ o. lesser fault_cmp o (Some f)) h.fault ∙ sym (least_more (map fate_of these) (Err f)) ∙ ap least_fault last;
        kept = subst (Gathers w s.gathered) (nothing_given (map fate_of these) (Err f) refl ∙ ap all_given last) h.kept;
      }
  took_fault filter m marks failures.OutOfMemory is adds = absurd adds

module _ {A : Type 0} (w : World) (s : Answering A) where
  -- the test of a combination, by marks, in the world that is asked
  pub test_in : (P : Result Bool Fault → Type 0) (m : Marks A) (slots : List Slot) (these : List Combination) → AreMarksOf w m → Took w s these →
      (let v = world_of s.world.now in AreMarked v m.conditions.items → P (keeps (joined_cells (combination_at v.tables slots)) v.role (exprs_of m.conditions.items)))
      → P (keeps (joined_cells (combination_at w.tables slots)) w.role (fragile_conjuncts w.query))
  test_in P m slots these are h p =
      subst (λ es. P (keeps (joined_cells (combination_at w.tables slots)) w.role es)) are.conditions
      (subst (λ v. AreMarked v m.conditions.items → P (keeps (joined_cells (combination_at v.tables slots)) v.role (exprs_of m.conditions.items))) h.world p are.marked_conditions)

  -- its marks after the test
  pub tested_in : (cs : Vec (Marked A) A) (these : List Combination) → Took w s these → map (λ c. seen_of c) cs.items ≡ map (λ c. seen_of c) s.marks.conditions.items →
      (AreMarked (world_of s.world.now) s.marks.conditions.items → AreMarked (world_of s.world.now) cs.items) → AreMarksOf w (record s.marks { conditions = cs })
  tested_in cs these h same marked = with_conditions w s.marks h.marks cs same (subst (λ v. AreMarked v s.marks.conditions.items → AreMarked v cs.items) h.world marked h.marks.marked_conditions)

  -- and what is gathered in it
  abbrev Gathering : {E : Type 0} → Result (Unit {0}) E → Gathered A → Marks A → List Slot → World → Type 0
  Gathering r g m slots v = (kept : List Combination) → aggregate_calls_of s.calls ≡ query_aggregates v.query → AreMarksOf v m → Gathers v s.gathered kept → OnOk r (Gathers v g (kept ++ combination_at v.tables slots ∷ []))

  pub gathered_in : {E : Type 0} (r : Result (Unit {0}) E) (g : Gathered A) (m : Marks A) (slots : List Slot) (these : List Combination) → Took w s these → AreMarksOf w m → Gathering r g m slots (world_of s.world.now) →
      OnOk r (Gathers w g (all_given (map (where_fate w.role w.query) these) ++ combination_at w.tables slots ∷ []))
  gathered_in r g m slots these h are more = subst (Gathering r g m slots) h.world more _ h.calls are h.kept

  -- ---- the answer

  pub kept_in : (P : Result (List Row) Fault → Type 0) (these : List Combination) → Took w s these →
      (let v = world_of s.world.now in (kept : List Combination) → Gathers v s.gathered kept → P (rows_of_kept v.role v.query kept)) → P (rows_of_kept w.role w.query (all_given (map (where_fate w.role w.query) these)))
  kept_in P these h given = subst (λ v. (kept : List Combination) → Gathers v s.gathered kept → P (rows_of_kept v.role v.query kept)) h.world given _ h.kept

  pub answer_of_kept : (these : List Combination) → Took w s these → s.filter.least ≡ None → answer w.role w.query these ≡ rows_of_kept w.role w.query (all_given (map (where_fate w.role w.query) these))
  answer_of_kept these h none = ap (λ o. unless_fault o (all_given (map (where_fate w.role w.query) these)) >>= rows_of_kept w.role w.query) (sym h.fault ∙ none)

  pub answer_of_fault : (these : List Combination) (f : Fault) → Took w s these → s.filter.least ≡ Some f → answer w.role w.query these ≡ Err f
  answer_of_fault these f h some = ap (λ o. unless_fault o (all_given (map (where_fate w.role w.query) these)) >>= rows_of_kept w.role w.query) (sym h.fault ∙ some)

-- ---- one stage after two others

pub in_turn : {X Y Z : Type 0} (r : Result X Fault) (f : X → Result Y Fault) (g : Y → Result Z Fault) → (and_then r f >>= g) ≡ (r >>= (λ x. f x >>= g))
in_turn (Ok x) f g = refl
in_turn (Err e) f g = refl

pub fails_first : {X Y : Type 0} (failure : Failure Fault) (r : Result X Fault) (f : X → Result Y Fault) → IsFailure failure r → IsFailure failure (r >>= f)
fails_first (failures.Error e) r f h = ap (λ o. o >>= f) h
fails_first failures.OutOfMemory r f h = tt
