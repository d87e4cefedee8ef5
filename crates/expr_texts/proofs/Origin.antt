-- An expression of a text that nests d deep is written at most 7 * d + 5 deep.
use Rattle.std.proofs.Common.{◌≡◌, ℕ, zero, suc, ◌+◌, ◌*◌, ◌≤◌, ◌⊎◌, inl, inr, Bool, true, false, List, [], ◌∷◌, ◌++◌, Option, Some, None, refl, sym, ap, ◌∙◌, subst, arith}
use Rattle.std.specs.Prelude.{map, max}
use Rattle.std.specs.List.{flat_map}
use Rattle.row_grammar.specs.Meaning.{Many, Room, one_less, room_of}
use Rattle.row_grammar.specs.Limits.{Deep, Derives, can_open}
use Rattle.value.specs.declared.operators.Arithmetic as arithmetic
use Rattle.value.specs.declared.operators.Comparison as compare
use Rattle.row_tokens.specs.Tokens.{Token}
use Rattle.row_ast.specs.Ast.{Expr, Exprs, exprs_of, list_of, arms_of, and_members, or_members, Otherwise, Arithmetic, And, Or, no_expr, one_expr}
use Rattle.row_reader.specs.Language.{Located, Rule}
use Rattle.row_reader.specs.Expressions.{grammar, folded_left, and_of, or_of, compared, ranged, Range, Bounds, Values, null_tested, CallSuffix, Star, Argument, Dotted, counted, called, parenthesized, cast, case, arm, arms, otherwise, constant, plain_column, count, aggregate, primary, unary, product, sum, range_tail, negated_range, range, between, in_list, ranged_sum, compared_with, comparison, null_test, negation, and_operand, conjunction, or_operand, expression}
use Rattle.row_reader.specs.Language.{an_expression, a_negation, maybe}
use Rattle.value.specs.declared.operators.Aggregate.{Aggregate}
use Rattle.row_reader.specs.Expressions.{run_limit, depth_limit}
use Rattle.expr_texts.specs.Filters.{QueriesFit, levels, most_levels, arms_levels, else_levels}

listed : (es : Exprs) → exprs_of (list_of es) ≡ es
listed no_expr = refl
listed (one_expr e es) = ap (one_expr e) (listed es)

joined_within : (n : ℕ) (xs ys : List Expr) → most_levels (exprs_of xs) ≤ n → most_levels (exprs_of ys) ≤ n → most_levels (exprs_of (xs ++ ys)) ≤ n
joined_within n [] ys h k = k
joined_within n (x ∷ xs) ys h k = let more = joined_within n xs ys (omega arith) k in omega arith

module _ (w : ℕ) where
  abbrev S : {A : Type 0} → ℕ → Rule A → List Token → A → List Token → Type 0
  S d f ts t us = Derives grammar w d f ts t us

  -- every expression of the rule is written at most n deep
  abbrev Within : ℕ → ℕ → Rule Located → Type 0
  Within n d f = (ts : List Token) (t : Located) (us : List Token) → S d f ts t us → levels t.1 ≤ n

  -- a tree is as deep as an equal one
  made_within : {n : ℕ} (t x : Located) → t ≡ x → levels x.1 ≤ n → levels t.1 ≤ n
  made_within t x e h = let same = ap (λ (y : Located). levels y.1) e in omega arith

  -- ---- runs of operators

  folded_within : (n : ℕ) (x : Located) (ys : List ((ℕ × arithmetic.Arithmetic) × Located)) → levels x.1 ≤ n → levels (folded_left x ys).1 ≤ n
  folded_within n x [] h = h
  folded_within n x (y ∷ ys) h = folded_within n (x.0, Arithmetic y.0.1 y.0.0 x.1 y.1.1) ys (omega arith)

  product_within : (n d : ℕ) → Within n d unary → Within n d product
  unfolding product
  product_within n d h ts t us s = made_within t _ s.2 (folded_within n s.0.0 s.0.1 (h ts s.0.0 s.1.0 s.1.1))

  sum_within : (n d : ℕ) → Within n d unary → Within n d sum
  unfolding sum
  sum_within n d h ts t us s = made_within t _ s.2 (folded_within n s.0.0 s.0.1 (product_within n d h ts s.0.0 s.1.0 s.1.1))

  -- ---- ranges: a list in IN opens a level

  abbrev BoundsWithin : ℕ → Option (Option ℕ × Range) → Type 0
  BoundsWithin n None = Unit {0}
  BoundsWithin n (Some (m, Bounds at a b)) = (levels a ≤ n) × (levels b ≤ n)
  BoundsWithin n (Some (m, Values at vs)) = 1 ≤ n

  ranged_within : (n : ℕ) (x : Located) (r : Option (Option ℕ × Range)) → levels x.1 ≤ n → BoundsWithin n r → levels (ranged x r).1 ≤ suc n
  ranged_within n x None h b = omega arith
  ranged_within n x (Some (m, Bounds at l u)) h b = omega (arith, b.0, b.1)
  ranged_within n x (Some (m, Values at vs)) h b = omega arith

  opened : (d : ℕ) → can_open d ≡ true → 1 ≤ 7 * d
  opened zero e = cc
  opened (suc d) e = omega arith

  between_within : (n d : ℕ) → Within n d unary → (ts : List Token) (r : Range) (us : List Token) → S d between ts r us → (m : Option ℕ) → BoundsWithin n (Some (m, r))
  unfolding between
  between_within n d h ts r us s m =
      subst (λ x. BoundsWithin n (Some (m, x))) (sym s.2)
      (sum_within n d h s.1.0 s.0.1.0 s.1.2.0 s.1.2.1, (let inner = s.1.2.2 in let deep = sum_within n d h inner.1.0 inner.0.1 us inner.1.2 in let same = ap (λ (y : Located). levels y.1) inner.2 in omega arith))

  in_within : (d : ℕ) (ts : List Token) (r : Range) (us : List Token) → S d in_list ts r us → (m : Option ℕ) → BoundsWithin (7 * d) (Some (m, r))
  unfolding in_list
  in_within d ts r us s m = subst (λ x. BoundsWithin (7 * d) (Some (m, x))) (sym s.2) (opened d s.1.2.1.0)

  tail_within : (d : ℕ) → Within (7 * d) d unary → (ts : List Token) (r : Option (Option ℕ × Range)) (us : List Token) → S d range_tail ts r us → BoundsWithin (7 * d) r
  unfolding range_tail negated_range range
  tail_within d h ts r us s =
      elim s [
        | inl a ↦ subst (BoundsWithin (7 * d)) (sym (a.2 ∙ ap (λ (p : ℕ × Range). let o : Option (Option ℕ × Range) = Some (Some p.0, p.1) in o) a.1.2)) (either_within a.1.1.0 a.1.0.1 us a.1.1.2 (Some a.1.0.0.at))
        | inr (inl a) ↦ subst (BoundsWithin (7 * d)) (sym a.2) (between_within (7 * d) d h ts a.0 us a.1 None)
        | inr (inr (inl a)) ↦ subst (BoundsWithin (7 * d)) (sym a.2) (in_within d ts a.0 us a.1 None)
        | inr (inr (inr a)) ↦ subst (BoundsWithin (7 * d)) (sym a.1) tt
      ]
    where
      either_within : (ms : List Token) (x : Range) (vs : List Token) → S d between ms x vs ⊎ S d in_list ms x vs → (m : Option ℕ) → BoundsWithin (7 * d) (Some (m, x))
      either_within ms x vs (inl a) m = between_within (7 * d) d h ms x vs a m
      either_within ms x vs (inr a) m = in_within d ms x vs a m

  ranged_sum_within : (d : ℕ) → Within (7 * d) d unary → Within (suc (7 * d)) d ranged_sum
  unfolding ranged_sum
  ranged_sum_within d h ts t us s = made_within t _ s.2 (ranged_within (7 * d) s.0.0 s.0.1 (sum_within (7 * d) d h ts s.0.0 s.1.0 s.1.1) (tail_within d h s.1.0 s.0.1 us s.1.2))

  -- ---- comparisons and IS NULL

  compared_within : (n : ℕ) (x : Located) (p : Option ((ℕ × compare.Comparison) × Located)) → levels x.1 ≤ n → ((q : (ℕ × compare.Comparison) × Located) → p ≡ Some q → levels q.1.1 ≤ n) → levels (compared x p).1 ≤ suc n
  compared_within n x None h k = omega arith
  compared_within n x (Some q) h k = let b = k q refl in omega arith

  comparison_within : (d : ℕ) → Within (7 * d) d unary → Within (suc (suc (7 * d))) d comparison
  unfolding comparison compared_with
  comparison_within d h ts t us s = made_within t _ s.2 (compared_within (suc (7 * d)) s.0.0 s.0.1 (ranged_sum_within d h ts s.0.0 s.1.0 s.1.1) (λ q e. go q e s.1.2))
    where
      go : (q : (ℕ × compare.Comparison) × Located) → s.0.1 ≡ Some q → S d (maybe compared_with) s.1.0 s.0.1 us → levels q.1.1 ≤ suc (7 * d)
      go q e (inl a) = let same : a.0 ≡ q = cc in let deep = ranged_sum_within d h a.1.0 a.0.1 us a.1.2 in let eq = ap (λ (y : (ℕ × compare.Comparison) × Located). levels y.1.1) same in omega arith
      go q e (inr a) = cc

  tested_within : (n : ℕ) (x : Located) (p : Option (ℕ × Bool)) → levels x.1 ≤ n → levels (null_tested x p).1 ≤ suc n
  tested_within n x None h = omega arith
  tested_within n x (Some p) h = omega arith

  null_test_within : (d : ℕ) → Within (7 * d) d unary → Within (suc (suc (suc (7 * d)))) d null_test
  unfolding null_test
  null_test_within d h ts t us s = made_within t _ s.2 (tested_within (suc (suc (7 * d))) s.0.0 s.0.1 (comparison_within d h ts s.0.0 s.1.0 s.1.1))

  -- ---- operands

  -- an expression a level deeper leaves room for its parenthesis and one level more
  abbrev InnerWithin : ℕ → Type 0
  InnerWithin d = (ts : List Token) (t : Located) (us : List Token) → Deep grammar w d an_expression ts t us → suc (suc (levels t.1)) ≤ 7 * d

  parens_within : (d : ℕ) → InnerWithin d → Within (7 * d) d parenthesized
  unfolding parenthesized
  parens_within d h ts t us s = made_within t _ s.2 (let inner = s.1.1.3 in let deep = h s.1.1.0 s.0.1.0 inner.0 inner.1 in omega arith)

  arm_within : (d : ℕ) → InnerWithin d → (ts : List Token) (t : Expr × Expr) (us : List Token) → S d arm ts t us → (suc (suc (levels t.0)) ≤ 7 * d) × (suc (suc (levels t.1)) ≤ 7 * d)
  unfolding arm
  arm_within d h ts t us s =
      let a = s.1.1 in
      let b = s.1.2 in
      let when = h a.1.0 a.0.1 s.1.0 a.1.2 in
      let then_ = h b.1.0 b.0.1 us b.1.2 in
      let e = ap (λ (p : Expr × Expr). levels p.0) s.2 in
      let f = ap (λ (p : Expr × Expr). levels p.1) s.2 in
      let e' = ap (λ (y : Located). levels y.1) a.2 in
      let f' = ap (λ (y : Located). levels y.1) b.2 in
      (omega arith, omega arith)

  arms_within : (d : ℕ) → InnerWithin d → (room : Room) (ts : List Token) (xs : List (Expr × Expr)) (us : List Token) → Many (S d arm) room ts xs us → suc (suc (arms_levels (arms_of xs))) ≤ max 2 (7 * d)
  arms_within d h room ts [] us s = omega arith
  arms_within d h room ts (x ∷ xs) us s =
      let a = arm_within d h ts x s.1.0 s.1.1 in
      let more = arms_within d h (one_less room) s.1.0 xs us s.1.2 in
      omega (arith, a.0, a.1)

  else_within : (d : ℕ) → InnerWithin d → (ts : List Token) (o : Otherwise) (us : List Token) → S d otherwise ts o us → suc (suc (else_levels o)) ≤ max 2 (7 * d)
  unfolding otherwise
  else_within d h ts o us s =
      elim s [
        | inl a ↦ (let b = a.1 in let deep = h b.1.0 b.0.1 us b.1.2 in let e = ap else_levels a.2 in let f = ap (λ (y : Located). levels y.1) b.2 in omega arith)
        | inr a ↦ (let e = ap else_levels a.1 in omega arith)
      ]

  case_within : (d : ℕ) → InnerWithin d → Within (7 * d) d case
  unfolding case arms
  case_within d h ts t us s =
      let opens = opened d s.1.0 in
      let seven : 7 ≤ 7 * d = sevens d s.1.0 in
      let as_ = s.1.1.3 in
      let list = as_.1 in
      let a = arm_within d h s.1.1.0 list.0.0 list.1.0 list.1.1 in
      let more = arms_within d h (room_of false w) list.1.0 list.0.1 as_.0 list.1.2 in
      let o = else_within d h as_.0 s.0.1.1.0 as_.2.0 as_.2.1 in
      let e = ap (λ (xs : List (Expr × Expr)). arms_levels (arms_of xs)) list.2 in
      made_within t _ s.2 (omega (arith, a.0, a.1))
    where
      sevens : (d : ℕ) → can_open d ≡ true → 7 ≤ 7 * d
      sevens zero e = cc
      sevens (suc d) e = omega arith

  -- an expression that is no operation of a plan has no level
  flat_within : (n : ℕ) (t x : Located) → t ≡ x → levels x.1 ≡ 0 → levels t.1 ≤ n
  flat_within n t x e h = let same = ap (λ (y : Located). levels y.1) e in omega arith

  counted_flat : (v : Token) (c : CallSuffix) → levels (counted v c) ≡ 0
  counted_flat v Star = refl
  counted_flat v (Argument a) = refl
  counted_flat v (Dotted n) = refl

  called_flat : (p : Token × Aggregate) (c : CallSuffix) → levels (called p c) ≡ 0
  called_flat p Star = refl
  called_flat p (Argument a) = refl
  called_flat p (Dotted n) = refl

  constant_within : (n d : ℕ) → Within n d constant
  unfolding constant
  constant_within n d ts t us s = elim s [ inl a ↦ flat_within n t _ a.2 refl | inr a ↦ flat_within n t _ a.2 refl ]

  primary_within : (d : ℕ) → InnerWithin d → Within (7 * d) d primary
  unfolding primary cast plain_column count aggregate
  primary_within d h ts t us s =
      elim s [
        | inl a ↦ parens_within d h ts t us a
        | inr (inl a) ↦ flat_within (7 * d) t _ a.2 refl
        | inr (inr (inl a)) ↦ case_within d h ts t us a
        | inr (inr (inr (inl a))) ↦ flat_within (7 * d) t _ a.2 refl
        | inr (inr (inr (inr (inl a)))) ↦ flat_within (7 * d) t _ a.2 (counted_flat a.0.0 a.0.1)
        | inr (inr (inr (inr (inr (inl a))))) ↦ flat_within (7 * d) t _ a.2 (called_flat a.0.0 a.0.1)
        | inr (inr (inr (inr (inr (inr a))))) ↦ constant_within (7 * d) d ts t us a
      ]

  unary_within : (d : ℕ) → InnerWithin d → Within (7 * d) d unary
  unfolding unary
  unary_within d h ts t us s = elim s [ inl a ↦ flat_within (7 * d) t _ a.2 refl | inr a ↦ primary_within d h ts t us a ]

  -- ---- NOT, AND, OR

  -- a negation a level deeper
  abbrev NegatedWithin : ℕ → Type 0
  NegatedWithin d = (ts : List Token) (t : Located) (us : List Token) → Deep grammar w d a_negation ts t us → suc (suc (levels t.1)) ≤ 7 * d + 3

  negation_within : (d : ℕ) → InnerWithin d → NegatedWithin d → Within (7 * d + 3) d negation
  unfolding negation
  negation_within d h k ts t us s =
      elim s [
        | inl a ↦ made_within t _ a.2 (k a.1.1.0 a.0.1 us a.1.1.3)
        | inr a ↦ (let deep = null_test_within d (unary_within d h) ts t us a in omega arith)
      ]

  -- the members of an operand are no deeper than it is
  and_members_within : (n : ℕ) (e : Expr) → levels e ≤ n → most_levels (exprs_of (and_members e)) ≤ n
  and_members_within n (And at es) h = let same = ap most_levels (listed es) in omega arith
  and_members_within n e h = omega arith

  or_members_within : (n : ℕ) (e : Expr) → levels e ≤ n → most_levels (exprs_of (or_members e)) ≤ n
  or_members_within n (Or at es) h = let same = ap most_levels (listed es) in omega arith
  or_members_within n e h = omega arith

  -- the further operands of a run, each with the word before it
  abbrev AllWithin : ℕ → List (Token × Located) → Type 0
  AllWithin n [] = Unit {0}
  AllWithin n (y ∷ ys) = (levels y.1.1 ≤ n) × AllWithin n ys

  all_within : (n d : ℕ) (f : Rule (Token × Located)) → ((ts : List Token) (y : Token × Located) (us : List Token) → S d f ts y us → levels y.1.1 ≤ n)
      → (room : Room) (ts : List Token) (ys : List (Token × Located)) (us : List Token) → Many (S d f) room ts ys us → AllWithin n ys
  all_within n d f h room ts [] us s = tt
  all_within n d f h room ts (y ∷ ys) us s = (h ts y s.1.0 s.1.1, all_within n d f h (one_less room) s.1.0 ys us s.1.2)

  flat_members : (n : ℕ) (members : Expr → List Expr) → ((e : Expr) → levels e ≤ n → most_levels (exprs_of (members e)) ≤ n)
      → (ys : List (Token × Located)) → AllWithin n ys → most_levels (exprs_of (flat_map members (map (λ (z : Token × Located). z.1.1) ys))) ≤ n
  flat_members n members h [] a = omega arith
  flat_members n members h (y ∷ ys) a = joined_within n (members y.1.1) (flat_map members (map (λ (z : Token × Located). z.1.1) ys)) (h y.1.1 a.0) (flat_members n members h ys a.1)

  and_within : (n : ℕ) (x : Located) (ys : List (Token × Located)) → levels x.1 ≤ n → AllWithin n ys → levels (and_of x ys).1 ≤ suc n
  and_within n x [] h a = omega arith
  and_within n x (y ∷ ys) h a =
      let more = flat_members n and_members (and_members_within n) (y ∷ ys) a in
      let all = joined_within n (and_members x.1) (flat_map and_members (map (λ (z : Token × Located). z.1.1) (y ∷ ys))) (and_members_within n x.1 h) more in
      omega (arith, all)

  or_within : (n : ℕ) (x : Located) (ys : List (Token × Located)) → levels x.1 ≤ n → AllWithin n ys → levels (or_of x ys).1 ≤ suc n
  or_within n x [] h a = omega arith
  or_within n x (y ∷ ys) h a =
      let more = flat_members n or_members (or_members_within n) (y ∷ ys) a in
      let all = joined_within n (or_members x.1) (flat_map or_members (map (λ (z : Token × Located). z.1.1) (y ∷ ys))) (or_members_within n x.1 h) more in
      omega (arith, all)

  conjunction_within : (n d : ℕ) → Within n d negation → Within (suc n) d conjunction
  unfolding conjunction and_operand
  conjunction_within n d h ts t us s =
      made_within t _ s.2 (and_within n s.0.0 s.0.1 (h ts s.0.0 s.1.0 s.1.1) (all_within n d and_operand (λ a y b r. h r.0 y.1 b r.2) (room_of true w) s.1.0 s.0.1 us s.1.2))

  expression_within : (n d : ℕ) → Within n d negation → Within (suc (suc n)) d expression
  unfolding expression or_operand
  expression_within n d h ts t us s =
      made_within t _ s.2
      (or_within (suc n) s.0.0 s.0.1 (conjunction_within n d h ts s.0.0 s.1.0 s.1.1) (all_within (suc n) d or_operand (λ a y b r. conjunction_within n d h r.0 y.1 b r.2) (room_of true w) s.1.0 s.0.1 us s.1.2))

  -- ---- level by level

  record Shallow (d : ℕ) : Type 0 where
    inner : InnerWithin d
    negated : NegatedWithin d

  shallow : (d : ℕ) → Shallow d
  unfolding Deep
  shallow zero = record { inner = λ ts t us h. absurd h; negated = λ ts t us h. absurd h }
  shallow (suc d) =
      let below = shallow d in
      let negation_at : Within (7 * d + 3) d negation = negation_within d below.inner below.negated in
      record {
        inner = λ ts t us s. (let deep = expression_within (7 * d + 3) d negation_at ts t us s in omega arith);
        negated = λ ts t us s. (let deep = negation_at ts t us s in omega arith);
      }

  -- an expression that is derived at a depth is written within these levels
  pub derived_within : (d : ℕ) → Within (7 * d + 5) d expression
  derived_within d ts t us s =
      let here = shallow d in
      let deep = expression_within (7 * d + 3) d (negation_within d here.inner here.negated) ts t us s in
      omega arith

pub queries_fit : QueriesFit
unfolding depth_limit
queries_fit ts us start e s = let l = derived_within run_limit 64 ts (start, e) us s in omega arith
