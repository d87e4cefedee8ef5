-- An entry of which a query names no column needs SELECT on any part of its table.
use Rattle.std.proofs.Common.{◌≡◌, ◌⊎◌, inl, inr, ℕ, zero, suc, ◌+◌, ◌<◌, nat_eq, Bool, true, false, ◌||◌, List, [], ◌∷◌, length, map, Contains, Option, Some, None, refl, sym, ap, subst, ◌∙◌, arith}
use Rattle.std.specs.List.{Any, cons_option, filter_map, flat_map, list_any}
use Rattle.std.proofs.lemmas.Bool.{eqb-true}
use Rattle.std.proofs.lemmas.List.Elements.{Contains-append_left, Contains-append_right}
use Rattle.expr.specs.declared.bound.ColumnId.{ColumnId}
use Rattle.expr.specs.Bound.{BoundExpr}
use Rattle.expr.specs.BoundQuery.{BoundQuery}
use Rattle.expr.specs.NamedColumns.{named_columns}
use Rattle.access.specs.declared.mentions.Mention.{Mention}
use Rattle.access.specs.declared.mentions.Mention.TheVariants as mention
use Rattle.access.specs.Needed.{in_condition, in_from, in_item, is_column_of, mentions, needed, required_by, select_any}
use Rattle.access.specs.NamedLaws.{EntriesAreNeeded, column_in}
use Rattle.access.proofs.NamedMentions.{named_are_mentioned}

-- ---- an entry is mentioned

from_there : (n j : ℕ) (ons : List (Option BoundExpr)) → j < length ons → Contains (in_from n ons) (mention.From (n + j))
from_there n j [] l = absurd (omega arith)
from_there n zero (on ∷ more) l =
    let at : n ≡ n + 0 = omega arith in
    subst (λ k. Contains (in_from n (on ∷ more)) (mention.From k)) at (Contains-append_left (mention.From n ∷ in_condition on) (in_from (n + 1) more) (mention.From n) (0, omega arith, refl))
from_there n (suc j) (on ∷ more) l =
    let next : n + 1 + j ≡ n + suc j = omega arith in
    subst (λ k. Contains (in_from n (on ∷ more)) (mention.From k)) next (Contains-append_right (mention.From n ∷ in_condition on) (in_from (n + 1) more) (mention.From (n + 1 + j)) (from_there (n + 1) j more (omega arith)))

mentioned : (q : BoundQuery) (k : ℕ) → k < length q.ons → Contains (mentions q) (mention.From k)
mentioned q k l =
    let at : 0 + k ≡ k = omega arith in
    let here = subst (λ k. Contains (in_from 0 q.ons) (mention.From k)) at (from_there 0 k q.ons l) in
    Contains-append_left _ (in_condition q.having) (mention.From k)
    (Contains-append_left _ (map mention.Column q.group_by) (mention.From k)
    (Contains-append_left _ (in_condition q.filter) (mention.From k)
    (Contains-append_right (flat_map in_item q.items) (in_from 0 q.ons) (mention.From k) here)))

-- ---- so it is required, unless a column of it is

later_one : {X : Type 0} (P : X → Type 0) (x : X) (xs : List X) → Any P xs → Any P (x ∷ xs)
later_one P x xs h = (suc h.0, h.1, omega (arith, h.2), h.3, h.4)

column_named : (k : ℕ) (ms : List Mention) → list_any (is_column_of k) ms ≡ true → Any (λ (id : ColumnId). id.entry ≡ k) (filter_map column_in ms)
column_named k [] h = absurd (cc)
column_named k (mention.From n ∷ ms) h = column_named k ms h
column_named k (mention.Column id ∷ ms) h = go (nat_eq id.entry k) refl (column_named k ms) h
  where
    go : (b : Bool) → nat_eq id.entry k ≡ b → (list_any (is_column_of k) ms ≡ true → Any (λ (id : ColumnId). id.entry ≡ k) (filter_map column_in ms)) → (b || list_any (is_column_of k) ms) ≡ true → Any (λ (id : ColumnId). id.entry ≡ k) (id ∷ filter_map column_in ms)
    go true is rest e = (0, id, omega arith, refl, eqb-true id.entry k is)
    go false is rest e = later_one (λ (id : ColumnId). id.entry ≡ k) id (filter_map column_in ms) (rest e)

given_there : {X Y : Type 0} (f : X → Option Y) (xs : List X) (x : X) (y : Y) → Contains xs x → f x ≡ Some y → Contains (filter_map f xs) y
given_there {X} {Y} f [] x y c e = absurd (omega (arith, c.1))
given_there {X} {Y} f (z ∷ xs) x y (zero, l, is) e = let same : f z ≡ Some y = ap f is ∙ e in subst (λ o. Contains (cons_option o (filter_map f xs)) y) (sym same) (0, omega arith, refl)
given_there {X} {Y} f (z ∷ xs) x y (suc k, l, is) e = past (f z) (given_there f xs x y (k, omega (arith, l), is) e)
  where
    past : (o : Option Y) → Contains (filter_map f xs) y → Contains (cons_option o (filter_map f xs)) y
    past None h = h
    past (Some w) h = (suc h.0, omega (arith, h.1), h.2)

pub entries_are_needed : EntriesAreNeeded
entries_are_needed entries q k e l at = go (list_any (is_column_of k) (mentions q)) refl
  where
    go : (b : Bool) → list_any (is_column_of k) (mentions q) ≡ b → Any (λ (id : ColumnId). id.entry ≡ k) (named_columns q) ⊎ Contains (needed entries q) (select_any e.table)
    go true is = inl (subst (Any (λ (id : ColumnId). id.entry ≡ k)) (named_are_mentioned q) (column_named k (mentions q) is))
    go false is =
        let required : required_by entries (mentions q) (mention.From k) ≡ Some (select_any e.table) = rw (is, at) refl in
        inr (given_there (required_by entries (mentions q)) (mentions q) (mention.From k) (select_any e.table) (mentioned q k l) required)
