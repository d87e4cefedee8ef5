-- Expressions of a query, each with its marks.
use Rattle.std.proofs.Common.{Bool, false, true≢false, ◌==◌, drop, ◌≡◌, ◌<◌, ◌≤◌, ◌+◌, ℕ, zero, suc, List, [], ◌∷◌, ◌++◌, length, get_or, map, slice_set, take, Option, Some, drop, refl, sym, ap, ap₂, subst, ◌∙◌, option_map, Result, Ok, Err, OnOk, None, Vec, arith}
use Rattle.std.proofs.lemmas.List.{drop_more, get_or-map, length-map, map-append, map_more}
use Rattle.expr.specs.View.{bound_expr_of}
use Rattle.expr.specs.Aggregates.{AggregateCall}
use Rattle.expr.specs.Bound.{BoundExpr}
use Rattle.expr.specs.BoundQuery.{BoundItem}
use Rattle.eval.specs.Marks.{outcome_of}
use Rattle.groups.proofs.SameGroups.{map-map}
use Rattle.tuples.specs.World.{World}
use Rattle.row_marks.specs.Marked.{drops_by, drops_first, mark_on, mark_on_null, marked_entry}
use Rattle.row_marks.specs.Marks.{AreMarked, AreMarks, AreMarkedArguments, AreMarksOf, IsMarked, IsMarkedIf, argument_seen, arguments_of, exprs_of, seen_of}
use Rattle.row_marks.specs.declared.marked.Marked.{Marked}
use Rattle.row_marks.specs.declared.marked.MarkedArgument.{MarkedArgument}
use Rattle.row_marks.specs.declared.marks.Marks.{Marks}

pub on_both : {T E P Q R : Type 0} (r : Result T E) → (P → Q → R) → OnOk r P → OnOk r Q → OnOk r R
on_both (Ok x) f h k = f h k
on_both (Err e) f h k = h

-- the first of a list, which are all
pub all_taken : {X : Type 0} (xs : List X) (n : ℕ) → length xs ≤ n → take n xs ≡ xs
all_taken [] zero le = refl
all_taken [] (suc n) le = refl
all_taken (x ∷ xs) zero le = absurd (omega arith)
all_taken (x ∷ xs) (suc n) le = ap (λ l. x ∷ l) (all_taken xs n (omega arith))

-- one more of two lists that are the same by their views
module _ {X Y Z : Type 0} (f : X → Z) (g : Y → Z) where
  pub both_more : (xs new : List X) (x : X) (ys : List Y) (i : ℕ) (y : Y) → i < length ys → y ≡ get_or ys i y → new ≡ xs ++ x ∷ [] → f x ≡ g y → map f xs ≡ map g (take i ys) → map f new ≡ map g (take (i + 1) ys)
  both_more xs new x ys i y lt is pushed same so_far =
      ap (map f) pushed ∙ map-append f xs (x ∷ []) ∙ ap₂ (λ l z. l ++ z ∷ []) so_far same
      ∙ sym (map_more g ys i y lt ∙ ap (λ v. map g (take i ys) ++ g v ∷ []) (sym is))

  -- and all
  pub both_all : (xs : List X) (ys : List Y) (i : ℕ) → length ys ≤ i → map f xs ≡ map g (take i ys) → map f xs ≡ map g ys
  both_all xs ys i past same = same ∙ ap (map g) (all_taken ys i past)

pub are_more : {A : Type 0} (w : World) (ms : List (Marked A)) (m : Marked A) → AreMarked w ms → IsMarked w m → AreMarked w (ms ++ m ∷ [])
are_more w [] m are is = (is, tt)
are_more w (n ∷ ms) m are is = (are.0, are_more w ms m are.1 is)

pub arguments_more : {A : Type 0} (w : World) (as_ : List (MarkedArgument A)) (a : MarkedArgument A) → AreMarkedArguments w as_ → IsMarkedIf w a.marked → AreMarkedArguments w (as_ ++ a ∷ [])
arguments_more w [] a are is = (is, tt)
arguments_more w (b ∷ as_) a are is = (are.0, arguments_more w as_ a are.1 is)

-- ---- one of them changes

module _ {X Z : Type 0} (f : X → Z) where
  pub same_set : (xs : List X) (i : ℕ) (old new : X) → old ≡ get_or xs i old → f new ≡ f old → map f (slice_set xs i new) ≡ map f xs
  same_set [] i old new is same = refl
  same_set (x ∷ xs) zero old new is same = ap (λ z. z ∷ map f xs) (same ∙ ap f is)
  same_set (x ∷ xs) (suc i) old new is same = ap (λ l. f x ∷ l) (same_set xs i old new is same)

pub marked_set : {A : Type 0} (w : World) (ms : List (Marked A)) (i : ℕ) (old new : Marked A) → old ≡ get_or ms i old → (IsMarked w old → IsMarked w new) → AreMarked w ms → AreMarked w (slice_set ms i new)
marked_set w [] i old new is keep are = tt
marked_set w (m ∷ ms) zero old new is keep are = (keep (subst (IsMarked w) (sym is) are.0), are.1)
marked_set w (m ∷ ms) (suc i) old new is keep are = (are.0, marked_set w ms i old new is keep are.1)

-- what is seen of it and its marks are all that counts
pub still_marked : {A : Type 0} (w : World) (old new : Marked A) → seen_of new ≡ seen_of old → new.marks ≡ old.marks → new.on_null ≡ old.on_null → IsMarked w old → IsMarked w new
still_marked w old new seen marks null is entry at =
    let was = is entry (sym (ap (λ s. s.1) seen) ∙ at) in
    let e = ap (λ s. s.0) seen in (
      ap (marked_entry w) e ∙ was.0,
      subst (λ c. AreMarks (mark_on w entry (bound_expr_of new.expression.now)) c) (sym marks) (subst (λ b. AreMarks (mark_on w entry b) old.marks) (sym e) was.1),
      λ o h. was.2 o (ap (option_map (λ mark. outcome_of mark)) (sym null) ∙ h) ∙ ap (mark_on_null w) (sym e),
    )

pub arguments_set : {A : Type 0} (w : World) (as_ : List (MarkedArgument A)) (i : ℕ) (old new : MarkedArgument A) → old ≡ get_or as_ i old → (IsMarkedIf w old.marked → IsMarkedIf w new.marked) → AreMarkedArguments w as_ → AreMarkedArguments w (slice_set as_ i new)
arguments_set w [] i old new is keep are = tt
arguments_set w (a ∷ as_) zero old new is keep are = (keep (subst (λ (b : MarkedArgument _). IsMarkedIf w b.marked) (sym is) are.0), are.1)
arguments_set w (a ∷ as_) (suc i) old new is keep are = (are.0, arguments_set w as_ i old new is keep are.1)

-- each of them is marked
pub marked_at : {A : Type 0} (w : World) (ms : List (Marked A)) (i : ℕ) (old : Marked A) → i < length ms → old ≡ get_or ms i old → AreMarked w ms → IsMarked w old
marked_at w [] i old lt is are = absurd (omega (arith, lt))
marked_at w (m ∷ ms) zero old lt is are = subst (IsMarked w) (sym is) are.0
marked_at w (m ∷ ms) (suc i) old lt is are = marked_at w ms i old (omega (arith, lt)) is are.1

pub some_there : (n : ℕ) (none : Bool) → none ≡ (n == 0) → none ≡ false → 0 < n
some_there zero none is some = absurd (true≢false (sym is ∙ some))
some_there (suc n) none is some = omega arith

-- the first of them
pub first_drops : {A : Type 0} (w : World) (ms : List (Marked A)) (first : Marked A) (entry number : ℕ) → 0 < length ms → first ≡ get_or ms 0 first → drops_by w (bound_expr_of first.expression.now) entry number ≡ drops_first w (exprs_of ms) entry number
first_drops w [] first entry number lt is = absurd (omega (arith, lt))
first_drops w (m ∷ ms) first entry number lt is = ap (λ (x : Marked _). drops_by w (bound_expr_of x.expression.now) entry number) is

first_of : List (BoundExpr × Option ℕ) → Option ℕ
first_of [] = None
first_of (p ∷ ps) = p.1

pub first_entry : {A : Type 0} (w : World) (ms : List (Marked A)) (first : Marked A) → 0 < length ms → first ≡ get_or ms 0 first → map (λ m. seen_of m) ms ≡ map (λ e. (e, marked_entry w e)) (exprs_of ms) → first.entry ≡ marked_entry w (bound_expr_of first.expression.now)
unfolding first_of
first_entry w [] first lt is same = absurd (omega (arith, lt))
first_entry w (m ∷ ms) first lt is same = ap (λ (x : Marked _). x.entry) is ∙ ap first_of same ∙ sym (ap (λ (x : Marked _). marked_entry w (bound_expr_of x.expression.now)) is)

-- ---- conditions one after another

-- the next one of those that are left
pub next_expr : {A : Type 0} (ms : List (Marked A)) (es : List BoundExpr) (i : ℕ) (m : Marked A) → i < length ms → m ≡ get_or ms i m → exprs_of ms ≡ es → drop i es ≡ (seen_of m).0 ∷ drop (i + 1) es
next_expr ms es i m lt is same =
    let f : Marked _ → BoundExpr = λ x. (seen_of x).0 in
    let below : i < length es = omega (arith, lt, ap length same, length-map ms f) in
    drop_more es i (f m) below ∙ ap (λ e. e ∷ drop (i + 1) es) (ap (λ l. get_or l i (f m)) (sym same) ∙ get_or-map f ms i m (f m) lt ∙ ap f (sym is))

-- ---- what is seen of them stays

pub same_length : {X Z : Type 0} (f : X → Z) (xs ys : List X) → map f xs ≡ map f ys → length xs ≡ length ys
same_length f xs ys same = sym (length-map xs f) ∙ ap length same ∙ length-map ys f

pub same_exprs : {A : Type 0} (xs ys : List (Marked A)) → map (λ m. seen_of m) xs ≡ map (λ m. seen_of m) ys → exprs_of xs ≡ exprs_of ys
same_exprs xs ys same =
    sym (map-map (λ s. s.0) (λ m. seen_of m) xs) ∙ ap (map (λ s. s.0)) same ∙ map-map (λ s. s.0) (λ m. seen_of m) ys

-- the expressions of items and arguments, from what is seen of them
module _ (entry_of : BoundExpr → Option ℕ) where
  pub items_seen : {A : Type 0} (ms : List (Marked A)) (is : List BoundItem) → map (λ m. seen_of m) ms ≡ map (λ i. (i.value, entry_of i.value)) is → exprs_of ms ≡ map (λ i. i.value) is
  items_seen ms is same = sym (map-map (λ (s : BoundExpr × Option ℕ). s.0) (λ m. seen_of m) ms) ∙ ap (map (λ (s : BoundExpr × Option ℕ). s.0)) same ∙ map-map (λ (s : BoundExpr × Option ℕ). s.0) (λ i. (i.value, entry_of i.value)) is

  first_again : (o : Option BoundExpr) → option_map (λ (s : BoundExpr × Option ℕ). s.0) (option_map (λ e. (e, entry_of e)) o) ≡ o
  first_again None = refl
  first_again (Some e) = refl

  each_again : (calls : List AggregateCall) → map (λ c. option_map (λ (s : BoundExpr × Option ℕ). s.0) (option_map (λ e. (e, entry_of e)) c.argument)) calls ≡ map (λ c. c.argument) calls
  each_again [] = refl
  each_again (c ∷ calls) = ap₂ ◌∷◌ (first_again c.argument) (each_again calls)

  pub arguments_seen : {A : Type 0} (as_ : List (MarkedArgument A)) (calls : List AggregateCall) → map (λ a. argument_seen a) as_ ≡ map (λ c. option_map (λ e. (e, entry_of e)) c.argument) calls
      → arguments_of as_ ≡ map (λ c. c.argument) calls
  arguments_seen as_ calls same =
      sym (map-map (λ o. option_map (λ (s : BoundExpr × Option ℕ). s.0) o) (λ a. argument_seen a) as_) ∙ ap (map (λ o. option_map (λ (s : BoundExpr × Option ℕ). s.0) o)) same
      ∙ map-map (λ o. option_map (λ (s : BoundExpr × Option ℕ). s.0) o) (λ c. option_map (λ e. (e, entry_of e)) c.argument) calls ∙ each_again calls

-- the expressions and entries of conditions, from both at once
pub with_entries : {A : Type 0} (w : World) (ms : List (Marked A)) (es : List BoundExpr) → map (λ m. seen_of m) ms ≡ map (λ e. (e, marked_entry w e)) es → (exprs_of ms ≡ es) × (map (λ m. seen_of m) ms ≡ map (λ e. (e, marked_entry w e)) (exprs_of ms))
with_entries w ms es same =
    let are : exprs_of ms ≡ es = sym (map-map (λ s. s.0) (λ m. seen_of m) ms) ∙ ap (map (λ s. s.0)) same ∙ map-map (λ s. s.0) (λ e. (e, marked_entry w e)) es ∙ map_same es in
    (are, same ∙ ap (map (λ e. (e, marked_entry w e))) (sym are))
  where
    map_same : (es : List BoundExpr) → map (λ e. e) es ≡ es
    map_same [] = refl
    map_same (e ∷ es) = ap (λ l. e ∷ l) (map_same es)

-- ---- marks of which some are made

module _ {A : Type 0} (w : World) (m : Marks A) (are : AreMarksOf w m) where
  pub with_conditions : (cs : Vec (Marked A) A) → map (λ c. seen_of c) cs.items ≡ map (λ c. seen_of c) m.conditions.items → AreMarked w cs.items → AreMarksOf w (record m { conditions = cs })
  with_conditions cs same marked =
      let exprs = same_exprs cs.items m.conditions.items same in
      record {
        conditions = exprs ∙ are.conditions;
        entries = same ∙ are.entries ∙ ap (map (λ e. (e, marked_entry w e))) (sym exprs);
        items = are.items;
        arguments = are.arguments;
        marked_conditions = marked;
        marked_items = are.marked_items;
        marked_arguments = are.marked_arguments;
      }

  pub with_items : (is : Vec (Marked A) A) → map (λ c. seen_of c) is.items ≡ map (λ c. seen_of c) m.items.items → AreMarked w is.items → AreMarksOf w (record m { items = is })
  with_items is same marked = record {
    conditions = are.conditions;
    entries = are.entries;
    items = λ h. same ∙ are.items h;
    arguments = are.arguments;
    marked_conditions = are.marked_conditions;
    marked_items = marked;
    marked_arguments = are.marked_arguments;
  }

  pub with_arguments : (as_ : Vec (MarkedArgument A) A) → map (λ a. argument_seen a) as_.items ≡ map (λ a. argument_seen a) m.arguments.items → AreMarkedArguments w as_.items → AreMarksOf w (record m { arguments = as_ })
  with_arguments as_ same marked = record {
    conditions = are.conditions;
    entries = are.entries;
    items = are.items;
    arguments = same ∙ are.arguments;
    marked_conditions = are.marked_conditions;
    marked_items = are.marked_items;
    marked_arguments = marked;
  }
