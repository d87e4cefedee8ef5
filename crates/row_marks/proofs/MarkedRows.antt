-- The rows of the entry of a mark, and those of them that the role sees.
use Rattle.std.proofs.Common.{◌≡◌, ◌≢◌, ◌<◌, ◌≤◌, ◌+◌, ◌==◌, ◌&&◌, ℕ, zero, suc, Bool, true, false, true≢false, eqb-true, nat_lt, List, [], ◌∷◌, map, length, slice_get, get_or, Option, Some, None, refl, sym, subst, ap, ◌∙◌, arith}
use Rattle.std.specs.Prelude.{if◌then◌else◌}
use Rattle.std.proofs.lemmas.Bool.{eq-eqb}
use Rattle.std.proofs.lemmas.Bool.Decides.{nat_tests}
use Rattle.eval.proofs.Movables.{and_left}
use Rattle.memory.proofs.Cases.{some_is}
use Rattle.value.specs.Datum.{row_at}
use Rattle.value.specs.Names.{Name}
use Rattle.tuples.specs.Guards.{shows}
use Rattle.tuples.specs.World.{GuardedTable, World}
use Rattle.expr.specs.Bound.{BoundExpr}
use Rattle.eval.specs.Meaning.{Outcome}
use Rattle.row_marks.specs.Marked.{entry_rows, is_seen, mark_on, rows_in, seen_mark, sees_in}
use Rattle.row_marks.specs.Marks.{mark_at}
use Rattle.row_marks.specs.declared.mark_column.MarkColumn.{MarkColumn}
use Rattle.row_marks.proofs.MarkOutcomes.{below_is}

module _ {X : Type 0} (f : X → GuardedTable) where
  pub table_at : (xs : List X) (i : ℕ) (d : X) → i < length xs → slice_get (map f xs) i ≡ Some (f (get_or xs i d))
  table_at [] i d h = absurd (omega (arith, h))
  table_at (x ∷ xs) zero d h = refl
  table_at (x ∷ xs) (suc i) d h = table_at xs i d (omega (arith, h))

  pub rows_at : (xs : List X) (i : ℕ) (d : X) → i < length xs → rows_in (slice_get (map f xs) i) ≡ (f (get_or xs i d)).rows
  rows_at xs i d h = ap rows_in (table_at xs i d h)

-- ---- that the role sees

module _ (role : Name) where
  pub none_seen : (o : Option GuardedTable) (number : ℕ) → nat_lt number (length (rows_in o)) ≡ false → sees_in role o number ≡ false
  none_seen None number h = refl
  none_seen (Some t) number h = ap (λ b. b && shows role t.guard (row_at t.rows number)) h

  pub seen_by : (o : Option GuardedTable) (t : GuardedTable) (number : ℕ) → o ≡ Some t → nat_lt number (length (rows_in o)) ≡ true → sees_in role o number ≡ shows role t.guard (row_at t.rows number)
  seen_by None t number is h = absurd (cc)
  seen_by (Some u) t number is h = ap (λ b. b && shows role u.guard (row_at u.rows number)) h ∙ ap (λ v. shows role v.guard (row_at v.rows number)) (some_is u t is)

  seen_within : (o : Option GuardedTable) (number : ℕ) → sees_in role o number ≡ true → number < length (rows_in o)
  seen_within None number h = absurd (cc)
  seen_within (Some t) number h = below_is number (length t.rows) (and_left (nat_lt number (length t.rows)) (shows role t.guard (row_at t.rows number)) h)

below : (k n : ℕ) → k < n → nat_lt k n ≡ true
below k n h = grind (arith, nat_tests)

pub seen_there : (w : World) (entry number : ℕ) → is_seen w entry number ≡ true → number < length (entry_rows w entry)
seen_there w entry number h = seen_within w.role (slice_get w.tables entry) number h

-- ---- its marks on them, row after row

module _ (w : World) (entry : ℕ) (e : BoundExpr) (number : ℕ) where
  pub mark_seen : is_seen w entry number ≡ true → seen_mark w entry e number ≡ Some (mark_on w entry e number)
  mark_seen is = ap (λ b. if b then Some (mark_on w entry e number) else None) is

  pub no_mark_seen : is_seen w entry number ≡ false → seen_mark w entry e number ≡ None
  no_mark_seen is = ap (λ b. if b then Some (mark_on w entry e number) else None) is

module _ {A : Type 0} (w : World) (entry : ℕ) (e : BoundExpr) where
  -- on the rows before one
  pub record AreMadeTo (c : MarkColumn A) (n : ℕ) : Type 0 where
    pub made : (k : ℕ) → k < n → mark_at c k ≡ seen_mark w entry e k
    pub left : (k : ℕ) → n ≤ k → mark_at c k ≡ None

  pub next_made : (old new : MarkColumn A) (n : ℕ) → AreMadeTo old n → (mark_at old n ≡ None → mark_at new n ≡ seen_mark w entry e n) → ((k : ℕ) → k ≢ n → mark_at new k ≡ mark_at old k) → AreMadeTo new (n + 1)
  next_made old new n so_far here others = record {
    made = λ k lt. go k lt (k == n) refl;
    left = λ k le. others k (λ same. omega (arith, le, same)) ∙ so_far.left k (omega (arith, le));
  }
    where
      go : (k : ℕ) → k < n + 1 → (b : Bool) → (k == n) ≡ b → mark_at new k ≡ seen_mark w entry e k
      go k lt true is =
          let same : k ≡ n = eqb-true k n is in
          subst (λ j. mark_at new j ≡ seen_mark w entry e j) (sym same) (here (so_far.left n (omega arith)))
      go k lt false is =
          let other : k ≢ n = λ same. true≢false (sym (eq-eqb k n same) ∙ is) in
          others k other ∙ so_far.made k (omega (arith, lt, other))

  pub all_made : (c : MarkColumn A) (n : ℕ) → length (entry_rows w entry) ≤ n → AreMadeTo c n → (k : ℕ) → mark_at c k ≡ seen_mark w entry e k
  all_made c n past so_far k = go (nat_lt k n) refl
    where
      go : (b : Bool) → nat_lt k n ≡ b → mark_at c k ≡ seen_mark w entry e k
      go true is = so_far.made k (below_is k n is)
      go false is = so_far.left k (grind (arith, nat_tests)) ∙ sym (no_mark_seen w entry e k (unseen (is_seen w entry k) refl))
        where
          unseen : (b : Bool) → is_seen w entry k ≡ b → is_seen w entry k ≡ false
          unseen true seen = absurd (true≢false (sym (below k n (omega (arith, past, seen_there w entry k seen))) ∙ is))
          unseen false seen = seen

-- a mark that is made so is the outcome
pub seen_is : (w : World) (entry : ℕ) (e : BoundExpr) (number : ℕ) (m : Outcome) → seen_mark w entry e number ≡ Some m → m ≡ mark_on w entry e number
seen_is w entry e number m = go (is_seen w entry number)
  where
    go : (b : Bool) → (if b then Some (mark_on w entry e number) else None) ≡ Some m → m ≡ mark_on w entry e number
    go true h = sym (some_is (mark_on w entry e number) m h)
    go false h = absurd (cc)
