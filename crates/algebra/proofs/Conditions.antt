-- The conditions that rules make hold where those that they are made of hold.
use Rattle.std.proofs.Common.{◌≡◌, ℕ, Bool, true, false, List, [], ◌∷◌, slice_get, Option, Some, None, if◌then◌else◌, option_and_then, option_map, Result, Ok, Err, refl, sym, ap, ◌∙◌, subst}
use Rattle.memory.proofs.Cases.{some_is}
use Rattle.value.specs.Datum.{Datum, null, int, text, bool}
use Rattle.value.specs.Names.{Name}
use Rattle.value.specs.Orders.{is_true}
use Rattle.value.specs.declared.order.Truth.{Truth}
use Rattle.value.specs.declared.faults.Fault.{Fault}
use Rattle.value.specs.declared.operators.Comparison.TheVariants.{Equal}
use Rattle.expr.specs.declared.bound.ColumnId.{ColumnId}
use Rattle.expr.specs.Bound.{BoundExpr, Column, Literal, Comparison, is_column}
use Rattle.expr.specs.Movable.{movable}
use Rattle.predicates.specs.Meaning.{Cells, Outcome, meaning, condition, holds, is_true_outcome}
use Rattle.bags.proofs.Members.{Each}
use Rattle.tuples.specs.declared.slot.Slot.{Slot}
use Rattle.tuples.specs.Combinations.{joined_cells}
use Rattle.tuples.specs.World.{World, combination_at}
use Rattle.row_terms.specs.Terms.{Term}
use Rattle.row_terms.specs.Means.{passes, mean}
use Rattle.predicates.specs.Equalities.{column_equals, column_sides, columns_equal, literal_side, unless_null}
use Rattle.predicates.specs.Inward.{inward}
use Rattle.predicates.specs.Folded.{folded, folded_node}
use Rattle.predicates.proofs.Equal.{column_exact}
use Rattle.predicates.proofs.Keeping.{movable_kept, meaning_kept}
use Rattle.predicates.proofs.NodeForms.{folded_node_movable, folded_node_meaning}
use Rattle.predicates.proofs.Sides.{equality_turns, equalities_chain}
use Rattle.predicates.proofs.Truth.{inward_truth}
use Rattle.algebra.specs.Runs.{run}
use Rattle.algebra.specs.Rules.{other_columns, other_column, equality_of, constant_of, following, by_run}
use Rattle.algebra.proofs.Held.{run_held}

-- ---- two conditions that both hold

module _ {X : Type 0} (p q r : X → Bool) (follows : (x : X) → p x ≡ true → q x ≡ true → r x ≡ true) where
  pub each_follows : (xs : List X) → Each (λ x. p x ≡ true) xs → Each (λ x. q x ≡ true) xs → Each (λ x. r x ≡ true) xs
  each_follows [] h k = tt
  each_follows (x ∷ xs) h k = (follows x h.0 k.0, each_follows xs h.1 k.1)

-- ---- equalities

then_some : {X Y : Type 0} (f : X → Option Y) (o : Option X) (y : Y) → option_and_then f o ≡ Some y → (x : X) × (o ≡ Some x) × (f x ≡ Some y)
then_some f None y h = absurd (cc)
then_some f (Some x) y h = (x, refl, h)

map_some : {X Y : Type 0} (f : X → Y) (o : Option X) (y : Y) → option_map f o ≡ Some y → (x : X) × (o ≡ Some x) × (f x ≡ y)
map_some f None y h = absurd (cc)
map_some f (Some x) y h = (x, refl, some_is _ _ h)

module _ (cells : Cells) (role : Name) where
  abbrev Hold : BoundExpr → Type 0
  Hold e = holds cells role e ≡ true

  sides_hold : (e : BoundExpr) (p : ColumnId × ColumnId) → column_sides e ≡ Some p → Hold e → Hold (columns_equal p.0 p.1)
  sides_hold (Comparison Equal offset (Column a) (Column b)) p h k = subst (λ (p : ColumnId × ColumnId). Hold (columns_equal p.0 p.1)) (some_is _ _ h) k
  sides_hold _ p h k = absurd (cc)

  unless_null_is : (a : ColumnId) (d : Datum) (q : ColumnId × Datum) → unless_null a d ≡ Some q → ◌≡◌ {A = ColumnId × Datum} (a, d) q
  unless_null_is a null q h = absurd (cc)
  unless_null_is a (int n) q h = some_is _ _ h
  unless_null_is a (text t) q h = some_is _ _ h
  unless_null_is a (bool b) q h = some_is _ _ h

  literal_holds : (e : BoundExpr) (q : ColumnId × Datum) → literal_side e ≡ Some q → Hold e → Hold (column_equals q.0 q.1)
  literal_holds (Comparison Equal offset (Column a) (Literal d)) q h k = subst (λ (q : ColumnId × Datum). Hold (column_equals q.0 q.1)) (unless_null_is a d q h) k
  literal_holds (Comparison Equal offset (Literal d) (Column a)) q h k = subst (λ (q : ColumnId × Datum). Hold (column_equals q.0 q.1)) (unless_null_is a d q h) (sym (equality_turns (Literal d) (Column a) offset 0 cells role) ∙ k)
  literal_holds _ q h k = absurd (cc)

  turned : (a b : ColumnId) → Hold (columns_equal a b) → Hold (columns_equal b a)
  turned a b h = sym (equality_turns (Column a) (Column b) 0 0 cells role) ∙ h

  chained : (a b c : ColumnId) → Hold (columns_equal a b) → Hold (columns_equal b c) → Hold (columns_equal a c)
  chained a b c h k = equalities_chain (Column a) (Column b) (Column c) 0 0 0 cells role h k

  others_hold : (p q c : ColumnId × ColumnId) → other_columns p q ≡ Some c → Hold (columns_equal p.0 p.1) → Hold (columns_equal q.0 q.1) → Hold (columns_equal c.0 c.1)
  others_hold p q c h hp hq = first (is_column p.0 q.0) refl h
    where
      given : (d : ColumnId × ColumnId) → ◌≡◌ {A = Option (ColumnId × ColumnId)} (Some d) (Some c) → Hold (columns_equal d.0 d.1) → Hold (columns_equal c.0 c.1)
      given d e k = subst (λ (d : ColumnId × ColumnId). Hold (columns_equal d.0 d.1)) (some_is d c e) k

      fourth : (b : Bool) → is_column p.1 q.1 ≡ b → (if b then Some (p.0, q.0) else None) ≡ Some c → Hold (columns_equal c.0 c.1)
      fourth true e k = given (p.0, q.0) k (chained p.0 p.1 q.0 hp (subst (λ a. Hold (columns_equal a q.0)) (sym (column_exact p.1 q.1 e)) (turned q.0 q.1 hq)))
      fourth false e k = absurd (cc)

      third : (b : Bool) → is_column p.1 q.0 ≡ b → (if b then Some (p.0, q.1) else if is_column p.1 q.1 then Some (p.0, q.0) else None) ≡ Some c → Hold (columns_equal c.0 c.1)
      third true e k = given (p.0, q.1) k (chained p.0 p.1 q.1 hp (subst (λ a. Hold (columns_equal a q.1)) (sym (column_exact p.1 q.0 e)) hq))
      third false e k = fourth (is_column p.1 q.1) refl k

      second : (b : Bool) → is_column p.0 q.1 ≡ b → (if b then Some (p.1, q.0) else if is_column p.1 q.0 then Some (p.0, q.1) else if is_column p.1 q.1 then Some (p.0, q.0) else None) ≡ Some c → Hold (columns_equal c.0 c.1)
      second true e k = given (p.1, q.0) k (chained p.1 p.0 q.0 (turned p.0 p.1 hp) (subst (λ a. Hold (columns_equal a q.0)) (sym (column_exact p.0 q.1 e)) (turned q.0 q.1 hq)))
      second false e k = third (is_column p.1 q.0) refl k

      first : (b : Bool) → is_column p.0 q.0 ≡ b → (if b then Some (p.1, q.1) else if is_column p.0 q.1 then Some (p.1, q.0) else if is_column p.1 q.0 then Some (p.0, q.1) else if is_column p.1 q.1 then Some (p.0, q.0) else None) ≡ Some c → Hold (columns_equal c.0 c.1)
      first true e k = given (p.1, q.1) k (chained p.1 p.0 q.1 (turned p.0 p.1 hp) (subst (λ a. Hold (columns_equal a q.1)) (sym (column_exact p.0 q.0 e)) hq))
      first false e k = second (is_column p.0 q.1) refl k

  equality_holds : (e f g : BoundExpr) → equality_of e f ≡ Some g → Hold e → Hold f → Hold g
  equality_holds e f g h he hf =
      let s = then_some _ (column_sides e) g h in
      let t = then_some _ (column_sides f) g s.2 in
      let u = map_some (λ (c : ColumnId × ColumnId). columns_equal c.0 c.1) (other_columns s.0 t.0) g t.2 in
      subst Hold u.2 (others_hold s.0 t.0 u.0 u.1 (sides_hold e s.0 s.1 he) (sides_hold f t.0 t.1 hf))

  other_holds : (p : ColumnId × ColumnId) (a b : ColumnId) (d : Datum) → other_column p a ≡ Some b → Hold (columns_equal p.0 p.1) → Hold (column_equals a d) → Hold (column_equals b d)
  other_holds p a b d h hp ha = first (is_column a p.0) refl h
    where
      from : (x y : ColumnId) → Hold (columns_equal x y) → y ≡ a → ◌≡◌ {A = Option ColumnId} (Some x) (Some b) → Hold (column_equals b d)
      from x y k e s = subst (λ x. Hold (column_equals x d)) (some_is x b s) (equalities_chain (Column x) (Column y) (Literal d) 0 0 0 cells role k (subst (λ y. Hold (column_equals y d)) (sym e) ha))

      second : (t : Bool) → is_column a p.1 ≡ t → (if t then Some p.0 else None) ≡ Some b → Hold (column_equals b d)
      second true e k = from p.0 p.1 hp (sym (column_exact a p.1 e)) k
      second false e k = absurd (cc)

      first : (t : Bool) → is_column a p.0 ≡ t → (if t then Some p.1 else if is_column a p.1 then Some p.0 else None) ≡ Some b → Hold (column_equals b d)
      first true e k = from p.1 p.0 (turned p.0 p.1 hp) (sym (column_exact a p.0 e)) k
      first false e k = second (is_column a p.1) refl k

  constant_holds : (e f g : BoundExpr) → constant_of e f ≡ Some g → Hold e → Hold f → Hold g
  constant_holds e f g h he hf =
      let s = then_some _ (column_sides e) g h in
      let t = then_some _ (literal_side f) g s.2 in
      let u = map_some (λ b. column_equals b t.0.1) (other_column s.0 t.0.0) g t.2 in
      subst Hold u.2 (other_holds s.0 t.0.0 u.0 t.0.1 u.1 (sides_hold e s.0 s.1 he) (literal_holds f t.0 t.1 hf))

  following_holds : (is_constant : Bool) (e f g : BoundExpr) → following is_constant e f ≡ Some g → Hold e → Hold f → Hold g
  following_holds false = equality_holds
  following_holds true = constant_holds

-- ---- what follows from two filters of a run

two_of : (f : BoundExpr → BoundExpr → Option BoundExpr) (p q : ℕ) (es : List BoundExpr) (g : BoundExpr) → by_run f p q es ≡ Some g → (e h : BoundExpr) × (slice_get es p ≡ Some e) × (slice_get es q ≡ Some h) × (f e h ≡ Some g)
two_of f p q es g h =
    let s = then_some _ (slice_get es p) g h in
    let t = then_some (f s.0) (slice_get es q) g s.2 in
    (s.0, t.0, s.1, t.1, t.2)

equality_movable : (e f g : BoundExpr) → equality_of e f ≡ Some g → movable g ≡ true
equality_movable e f g h =
    let s = then_some _ (column_sides e) g h in
    let t = then_some _ (column_sides f) g s.2 in
    let u = map_some (λ (c : ColumnId × ColumnId). columns_equal c.0 c.1) (other_columns s.0 t.0) g t.2 in
    subst (λ g. movable g ≡ true) u.2 refl

constant_movable : (e f g : BoundExpr) → constant_of e f ≡ Some g → movable g ≡ true
constant_movable e f g h =
    let s = then_some _ (column_sides e) g h in
    let t = then_some _ (literal_side f) g s.2 in
    let u = map_some (λ b. column_equals b t.0.1) (other_column s.0 t.0.0) g t.2 in
    subst (λ g. movable g ≡ true) u.2 refl

pub derived_movable : (is_constant : Bool) (p q : ℕ) (es : List BoundExpr) (g : BoundExpr) → by_run (following is_constant) p q es ≡ Some g → movable g ≡ true
derived_movable false p q es g h = let t = two_of equality_of p q es g h in equality_movable t.0 t.1 g t.4
derived_movable true p q es g h = let t = two_of constant_of p q es g h in constant_movable t.0 t.1 g t.4

pub derived_holds : (w : World) (is_constant : Bool) (p q : ℕ) (x : Term) (g : BoundExpr) → by_run (following is_constant) p q (run x) ≡ Some g → Each (λ c. passes w g c ≡ true) (mean w x)
derived_holds w is_constant p q x g h =
    let t = two_of (following is_constant) p q (run x) g h in
    each_follows (passes w t.0) (passes w t.1) (passes w g) (λ c a b. following_holds (joined_cells (combination_at w.tables c)) w.role is_constant t.0 t.1 g t.4 a b)
    (mean w x) (run_held w t.0 p x t.2) (run_held w t.1 q x t.3)

-- ---- the other forms, on a combination

abbrev by_condition : Result Truth Fault → Bool
by_condition (Ok t) = is_true t
by_condition (Err fault) = false

truth_holds : (o : Outcome) → is_true_outcome o ≡ by_condition (condition o)
truth_holds (Ok d) = refl
truth_holds (Err fault) = refl

pub inward_rows : (w : World) (e : BoundExpr) (c : List Slot) → passes w (inward e) c ≡ passes w e c
inward_rows w e c =
    let cells = joined_cells (combination_at w.tables c) in
    truth_holds (meaning cells w.role (inward e)) ∙ ap by_condition (inward_truth cells w.role e) ∙ sym (truth_holds (meaning cells w.role e))

pub folded_movable : (e : BoundExpr) → movable e ≡ true → movable (folded e) ≡ true
folded_movable e m = movable_kept folded_node folded_node_movable e m

pub folded_rows : (w : World) (e : BoundExpr) → movable e ≡ true → (c : List Slot) → passes w (folded e) c ≡ passes w e c
folded_rows w e m c =
    let cells = joined_cells (combination_at w.tables c) in
    ap is_true_outcome (meaning_kept folded_node folded_node_movable cells w.role (λ e h. folded_node_meaning cells w.role e) e m)
