-- A step at the node of a path keeps the bag and the entries where it does at the node.
use Rattle.std.proofs.Common.{◌≡◌, ℕ, ◌<◌, Bool, true, false, ◌&&◌, ◌||◌, List, [], ◌∷◌, length, Ok, Err, refl, ap, subst, sum_by, arith}
use Rattle.std.specs.List.{range_with_len}
use Rattle.bags.specs.LeftProducts.{left_product}
use Rattle.bags.proofs.Order.{SameSums}
use Rattle.bags.proofs.Bags.{SameSums-filter}
use Rattle.bags.proofs.Products.{SameSums-product}
use Rattle.bags.proofs.LeftProducts.{SameSums-left_product}
use Rattle.bags.proofs.Members.{filter-same}
use Rattle.expr.specs.Bound.{BoundExpr}
use Rattle.std.proofs.lemmas.Bool.{and_from}
use Rattle.predicates.proofs.Movables.{and_left, and_right}
use Rattle.expr.specs.Movable.{movable}
use Rattle.tuples.specs.World.{World}
use Rattle.row_terms.specs.declared.path.Branch.{Branch}
use Rattle.row_terms.specs.declared.path.Branch.TheVariants.{First, Second}
use Rattle.row_terms.specs.Terms.{Term, Guarded, Filtered, Joined, LeftJoined, covers, entries_in}
use Rattle.row_terms.specs.Means.{union, null_rows, shows_entry, passes, mean}
use Rattle.row_terms.proofs.Ranges.{each_range}
use Rattle.algebra.specs.Rules.{Outcome, where_met}
use Rattle.algebra.specs.Rewrites.{inside, at_node}
use Rattle.algebra.specs.Keeping.{is_movable_term}

-- of so many entries both cover the same
abbrev pub SameEntries : ℕ → Term → Term → Type 0
SameEntries count x y = (i : ℕ) → i < count → covers x i ≡ covers y i

same_entries : (count : ℕ) (x y : Term) → SameEntries count x y → entries_in count x ≡ entries_in count y
same_entries count x y h = filter-same (covers x) (covers y) (range_with_len 0 count) (each_range (λ i. covers x i ≡ covers y i) 0 count (λ i a b. h i (omega (arith, b))))

-- where there is a term after a step, its conditions cannot fault, it covers the same entries, and the bag is the same
abbrev pub Keeps : World → Term → Outcome → Type 0
Keeps w x (Ok y) = (is_movable_term y ≡ true) × SameEntries (length w.tables) x y × SameSums (mean w x) (mean w y)
Keeps w x (Err reason) = Unit {0}

pub same_list : {X : Type 0} {xs ys : List X} → xs ≡ ys → (f : X → ℕ) → sum_by f xs ≡ sum_by f ys
same_list e f = ap (sum_by f) e

-- where the condition is met
pub when : (w : World) (x y : Term) (b : Bool) → (b ≡ true → Keeps w x (Ok y)) → Keeps w x (where_met b y)
when w x y true h = h refl
when w x y false h = tt

keeps-inside : (w : World) (g : Term → Term) (x whole : Term) → ((y : Term) → Keeps w x (Ok y) → Keeps w whole (Ok (g y))) → (o : Outcome) → Keeps w x o → Keeps w whole (inside g o)
keeps-inside w g x whole lift (Ok y) h = lift y h
keeps-inside w g x whole lift (Err reason) h = tt

-- either side of a left join, whose null rows are those of the same entries
left_join-first : (w : World) (on : BoundExpr) (x y z : Term) → is_movable_term (LeftJoined on x y) ≡ true → Keeps w x (Ok z) → Keeps w (LeftJoined on x y) (Ok (LeftJoined on z y))
left_join-first w on x y z m h = (
  and_from (movable on) (is_movable_term z && is_movable_term y) (and_left (movable on) (is_movable_term x && is_movable_term y) m)
      (and_from (is_movable_term z) (is_movable_term y) h.0 (and_right (is_movable_term x) (is_movable_term y) (and_right (movable on) (is_movable_term x && is_movable_term y) m))),
  λ i b. ap (λ c. c || covers y i) (h.1 i b),
  SameSums-left_product union (passes w on) (null_rows (entries_in (length w.tables) y)) (mean w x) (mean w z) (mean w y) (mean w y) h.2 (λ f. refl),
)

left_join-second : (w : World) (on : BoundExpr) (x y z : Term) → is_movable_term (LeftJoined on x y) ≡ true → Keeps w y (Ok z) → Keeps w (LeftJoined on x y) (Ok (LeftJoined on x z))
left_join-second w on x y z m h = (
  and_from (movable on) (is_movable_term x && is_movable_term z) (and_left (movable on) (is_movable_term x && is_movable_term y) m)
      (and_from (is_movable_term x) (is_movable_term z) (and_left (is_movable_term x) (is_movable_term y) (and_right (movable on) (is_movable_term x && is_movable_term y) m)) h.0),
  λ i b. ap (λ c. covers x i || c) (h.1 i b),
  subst (λ is. SameSums (mean w (LeftJoined on x y)) (left_product union (passes w on) (null_rows is) (mean w x) (mean w z))) (same_entries (length w.tables) y z h.1)
      (SameSums-left_product union (passes w on) (null_rows (entries_in (length w.tables) y)) (mean w x) (mean w x) (mean w y) (mean w z) (λ f. refl) h.2),
)

pub at_node-keeps : (w : World) (f : Term → Outcome) → ((x : Term) → is_movable_term x ≡ true → Keeps w x (f x)) → (path : List Branch) (x : Term) → is_movable_term x ≡ true → Keeps w x (at_node f path x)
at_node-keeps w f k [] x m = k x m
at_node-keeps w f k (First ∷ path) (Guarded i x) m =
    keeps-inside w (Guarded i) x (Guarded i x) (λ y h. (h.0, h.1, SameSums-filter (mean w x) (mean w y) h.2 (shows_entry w i))) (at_node f path x) (at_node-keeps w f k path x m)
at_node-keeps w f k (First ∷ path) (Filtered e x) m =
    keeps-inside w (Filtered e) x (Filtered e x) (λ y h. (and_from (movable e) (is_movable_term y) (and_left (movable e) (is_movable_term x) m) h.0, h.1, SameSums-filter (mean w x) (mean w y) h.2 (passes w e)))
    (at_node f path x) (at_node-keeps w f k path x (and_right (movable e) (is_movable_term x) m))
at_node-keeps w f k (First ∷ path) (Joined x y) m =
    keeps-inside w (λ z. Joined z y) x (Joined x y)
    (λ z h. (and_from (is_movable_term z) (is_movable_term y) h.0 (and_right (is_movable_term x) (is_movable_term y) m), λ i b. ap (λ c. c || covers y i) (h.1 i b), SameSums-product union (mean w x) (mean w z) (mean w y) (mean w y) h.2 (λ g. refl)))
    (at_node f path x) (at_node-keeps w f k path x (and_left (is_movable_term x) (is_movable_term y) m))
at_node-keeps w f k (Second ∷ path) (Joined x y) m =
    keeps-inside w (Joined x) y (Joined x y)
    (λ z h. (and_from (is_movable_term x) (is_movable_term z) (and_left (is_movable_term x) (is_movable_term y) m) h.0, λ i b. ap (λ c. covers x i || c) (h.1 i b), SameSums-product union (mean w x) (mean w x) (mean w y) (mean w z) (λ g. refl) h.2))
    (at_node f path y) (at_node-keeps w f k path y (and_right (is_movable_term x) (is_movable_term y) m))
at_node-keeps w f k (First ∷ path) (LeftJoined on x y) m =
    keeps-inside w (λ z. LeftJoined on z y) x (LeftJoined on x y) (λ z h. left_join-first w on x y z m h) (at_node f path x)
    (at_node-keeps w f k path x (and_left (is_movable_term x) (is_movable_term y) (and_right (movable on) (is_movable_term x && is_movable_term y) m)))
at_node-keeps w f k (Second ∷ path) (LeftJoined on x y) m =
    keeps-inside w (LeftJoined on x) y (LeftJoined on x y) (λ z h. left_join-second w on x y z m h) (at_node f path y)
    (at_node-keeps w f k path y (and_right (is_movable_term x) (is_movable_term y) (and_right (movable on) (is_movable_term x && is_movable_term y) m)))
at_node-keeps w f k (b ∷ path) _ m = tt
