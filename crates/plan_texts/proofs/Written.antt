-- The text of a plan, written part by part.
use Rattle.std.proofs.Common.{◌≡◌, ℕ, suc, ◌+◌, ◌<◌, length, drop, drop-cons, get_or, List, [], ◌∷◌, ◌++◌, codes, refl, sym, ap, ◌∙◌, append_assoc, arith}
use Rattle.std.specs.Prelude.{map}
use Rattle.std.specs.Fmt.{decimal}
use Rattle.row_ast.specs.Ast.{Expr}
use Rattle.expr_texts.specs.ExprTexts.{expr_text}
use Rattle.plan_texts.specs.Plans.{PlanEntry, OnCondition, Plan}
use Rattle.plan_texts.specs.PlanTexts.{text_of_lines, filter_lines, on_text, code_lines, sort_lines, step_text, plan_text}

-- lines after lines
lines_append : (ls ms : List (List ℕ)) → text_of_lines (ls ++ ms) ≡ text_of_lines ls ++ text_of_lines ms
lines_append [] ms = refl
lines_append (l ∷ ls) ms = ap (λ t. (l ++ codes "\n") ++ t) (lines_append ls ms) ∙ sym (append_assoc (l ++ codes "\n") (text_of_lines ls) (text_of_lines ms))

-- one further filter
pub filter_next : (o o1 o2 o3 o4 o5 all : List ℕ) (n : ℕ) (e : Expr) (es : List Expr) → o1 ≡ o ++ codes "filter " → o2 ≡ o1 ++ decimal n → o3 ≡ o2 ++ codes " " → o4 ≡ o3 ++ expr_text e → o5 ≡ o4 ++ codes "\n"
    → o ++ text_of_lines (filter_lines n (e ∷ es)) ≡ all → o5 ++ text_of_lines (filter_lines (n + 1) es) ≡ all
filter_next o o1 o2 o3 o4 o5 all n e es a b c d h rest =
    let next : suc n ≡ n + 1 = omega arith in
    let more = text_of_lines (filter_lines (suc n) es) in
    let same : o5 ++ more ≡ o ++ text_of_lines (filter_lines n (e ∷ es)) = rw (h, d, c, b, a) (simp append_assoc) in
    ap (λ m. o5 ++ text_of_lines (filter_lines m es)) (sym next) ∙ same ∙ rest

-- one further ON
pub on_next : {Y : Type 0} (entries : List PlanEntry) (view : Y → OnCondition) (ys : List Y) (k : ℕ) (y : Y) (o o1 o2 all : List ℕ) → k < length ys → y ≡ get_or ys k y → o1 ≡ o ++ on_text entries (view y) → o2 ≡ o1 ++ codes "\n"
    → o ++ text_of_lines (map (on_text entries) (map view (drop k ys))) ≡ all → o2 ++ text_of_lines (map (on_text entries) (map view (drop (k + 1) ys))) ≡ all
on_next entries view ys k y o o1 o2 all more is a b so_far =
    let e : k + 1 ≡ suc k = omega arith in
    let split : map view (drop k ys) ≡ view y ∷ map view (drop (k + 1) ys) = rw (e, drop-cons ys k y more, ← is) refl in
    let t = on_text entries (view y) in
    let rest = text_of_lines (map (on_text entries) (map view (drop (k + 1) ys))) in
    ap (λ v. v ++ rest) (b ∙ ap (λ v. v ++ codes "\n") a ∙ append_assoc o t (codes "\n")) ∙ append_assoc o (t ++ codes "\n") rest ∙ ap (λ os. o ++ text_of_lines (map (on_text entries) os)) (sym split) ∙ so_far

module _ (entries : List PlanEntry) (p : Plan) where
  abbrev filters : List ℕ
  filters = text_of_lines (filter_lines 1 p.filters)

  abbrev ons : List ℕ
  ons = text_of_lines (map (on_text entries) p.ons)

  abbrev code : List ℕ
  code = text_of_lines (code_lines entries p.code)

  abbrev sort : List ℕ
  sort = text_of_lines (sort_lines entries p.sort)

  abbrev trail : List ℕ
  trail = text_of_lines (map step_text p.trail)

  in_parts : plan_text entries p ≡ (codes "cost " ++ decimal p.cost ++ codes "\n") ++ (filters ++ (ons ++ (code ++ (sort ++ (codes "trail\n" ++ trail)))))
  in_parts =
      ap (λ t. (codes "cost " ++ decimal p.cost ++ codes "\n") ++ t)
      (lines_append (filter_lines 1 p.filters) _
      ∙ ap (λ t. filters ++ t) (lines_append (map (on_text entries) p.ons) _ ∙ ap (λ t. ons ++ t) (lines_append (code_lines entries p.code) _ ∙ ap (λ t. code ++ t) (lines_append (sort_lines entries p.sort) _))))

  pub plan_written : (o o1 o2 o3 o4 o5 o6 o7 o8 o9 : List ℕ) → o ≡ [] → o1 ≡ o ++ codes "cost " → o2 ≡ o1 ++ decimal p.cost → o3 ≡ o2 ++ codes "\n" → o4 ≡ o3 ++ filters → o5 ≡ o4 ++ ons → o6 ≡ o5 ++ code → o7 ≡ o6 ++ sort → o8 ≡ o7 ++ codes "trail\n" → o9 ≡ o8 ++ trail
      → o9 ≡ plan_text entries p
  plan_written o o1 o2 o3 o4 o5 o6 o7 o8 o9 z a b c d e f g h i =
      let same : o9 ≡ (codes "cost " ++ decimal p.cost ++ codes "\n") ++ (filters ++ (ons ++ (code ++ (sort ++ (codes "trail\n" ++ trail))))) = rw (i, h, g, f, e, d, c, b, a, z) (simp append_assoc) in
      same ∙ sym in_parts
