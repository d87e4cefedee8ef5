-- The text of a plan is read as the plan.
use Rattle.std.proofs.Common.{◌≡◌, ℕ, suc, ◌+◌, ◌<◌, ◌≤◌, ◌^◌, Bool, true, false, if◌then◌else◌, List, [], ◌∷◌, ◌++◌, length, codes, Option, Some, None, refl, sym, ap, ◌∙◌, subst, arith}
use Rattle.std.specs.Prelude.{map, flat_map, option_and_then}
use Rattle.std.specs.List.{list_all}
use Rattle.row_tokens.specs.Tokens.{goes_on}
use Rattle.std.specs.Fmt.{decimal}
use Rattle.std.proofs.lemmas.Bool.{eq-eqb}
use Rattle.std.proofs.lemmas.List.{append_assoc, append-nil, length-append}
use Rattle.row_ast.specs.Ast.{Expr}
use Rattle.expr_texts.specs.Trees.{without_offsets}
use Rattle.expr_texts.specs.ExprTexts.{expr_text}
use Rattle.plan_texts.specs.Lines.{lines_of}
use Rattle.expr.specs.declared.code.Access.{Access}
use Rattle.expr.specs.declared.code.Access.TheVariants.{Full, Index, Range}
use Rattle.expr.specs.declared.code.CodeStep.{CodeStep}
use Rattle.expr.specs.declared.code.Method.{Method}
use Rattle.expr.specs.declared.code.Method.TheVariants.{Nested, Hash, Merge}
use Rattle.row_terms.specs.declared.path.Branch.{Branch}
use Rattle.row_terms.specs.declared.path.Branch.TheVariants.{First, Second}
use Rattle.algebra.specs.Steps.{Step}
use Rattle.plan_texts.specs.declared.plan.PlanStep.{PlanStep}
use Rattle.plan_texts.specs.declared.plan.SortColumn.{SortColumn}
use Rattle.plan_texts.specs.Plans.{PlanEntry, OnCondition, PlanCode, Empty, Steps, Plan}
use Rattle.plan_texts.specs.PlanTexts.{branch_digit, argument_text, alias, column_name, access_text, scan_text, method_text, left_word, join_text, on_text, code_lines, sort_lines, path_text, step_text, filter_lines, plan_lines}
use Rattle.plan_texts.specs.Reading.{Line, CostLine, FilterLine, OnLine, EmptyLine, FirstLine, JoinLine, SortLine, TrailLine, StepLine, content_at, Draft, Begun, Costed, Conditioned, Coded, Sorted, Whole, after_filters, with_line, first_step, or_stops, read_lines, AreAll, HasEntry, IsFilter, IsAccess, IsScan, IsMethod, IsJoin, IsCode, IsSort, IsStep, IsPlan, on_without_offsets, plan_without_offsets, PlansReadBack}
use Rattle.plan_texts.proofs.Quiet.{IsQuiet, quiet_line, both_quiet, word_quiet, decimal_quiet, expr_quiet, filter_quiet, on_quiet, left_quiet, blank_quiet, cost_quiet, full_quiet, index_quiet, by_quiet, nested_quiet, hash_quiet, merge_quiet, empty_quiet, first_quiet, sort_word_quiet, dot_quiet, trail_quiet, minus_quiet, nothing_quiet}
use Rattle.plan_texts.proofs.LinesBack.{utf8_line, cost_back, filter_back, on_back, first_back, join_back, sort_back, step_back}

module _ (entries : List PlanEntry) where
  -- ---- the lines of a text

  pub joined : (P : List ℕ → Type 0) (ls ms : List (List ℕ)) → AreAll P ls → AreAll P ms → AreAll P (ls ++ ms)
  joined P [] ms p q = q
  joined P (l ∷ ls) ms p q = (p.0, joined P ls ms p.1 q)

  text_lines : (ls : List (List ℕ)) → AreAll IsQuiet ls → lines_of (flat_map (λ l. l ++ codes "\n") ls) ≡ (ls, [])
  text_lines [] q = refl
  text_lines (l ∷ ls) q =
      let rest = flat_map (λ m. m ++ codes "\n") ls in
      let more = text_lines ls q.1 in
      ap lines_of (append_assoc l (10 ∷ []) rest) ∙ quiet_line l rest q.0 ∙ ap (λ (x : List (List ℕ) × List ℕ). let y : List (List ℕ) × List ℕ = (l ∷ x.0, x.1) in y) more

  filters_quiet : (number : ℕ) (es : List Expr) → number + length es ≤ 2 ^ 64 → AreAll (IsFilter entries) es → AreAll IsQuiet (filter_lines number es)
  filters_quiet number [] l are = tt
  filters_quiet number (e ∷ es) l are = (
    both_quiet (codes "filter " ++ decimal number ++ codes " ") (expr_text e) (both_quiet (codes "filter " ++ decimal number) (codes " ") (both_quiet (codes "filter ") (decimal number) filter_quiet (decimal_quiet number (omega arith))) blank_quiet) (expr_quiet e are.0.written are.0.utf8),
    filters_quiet (suc number) es (omega arith) are.1,
  )

  on_lines_quiet : (os : List OnCondition) → AreAll (λ o. HasEntry entries o.entry) os → AreAll (λ o. IsFilter entries o.condition) os → AreAll IsQuiet (map (on_text entries) os)
  on_lines_quiet [] there are = tt
  on_lines_quiet (o ∷ os) there are = (
    both_quiet (codes "on " ++ alias entries o.entry ++ codes " ") (expr_text o.condition)
        (both_quiet (codes "on " ++ alias entries o.entry) (codes " ") (both_quiet (codes "on ") (alias entries o.entry) on_quiet (word_quiet (alias entries o.entry) there.0.1.goes_well)) blank_quiet)
        (expr_quiet o.condition are.0.written are.0.utf8),
    on_lines_quiet os there.1 are.1,
  )

  access_quiet : (entry : ℕ) (a : Access) → IsAccess entries entry a → IsQuiet (access_text entries entry a)
  access_quiet entry Full is = full_quiet
  access_quiet entry (Index column) is = both_quiet (codes "index ") (column_name entries entry column) index_quiet (word_quiet (column_name entries entry column) is.1.goes_well)
  access_quiet entry (Range column bound) is =
      both_quiet (codes "index " ++ column_name entries entry column ++ codes " by ") (decimal bound)
      (both_quiet (codes "index " ++ column_name entries entry column) (codes " by ") (both_quiet (codes "index ") (column_name entries entry column) index_quiet (word_quiet (column_name entries entry column) is.0.1.goes_well)) by_quiet)
      (decimal_quiet bound (omega (arith, is.1)))

  scan_quiet : (s : CodeStep) → IsScan entries s → IsQuiet (scan_text entries s)
  scan_quiet s is =
      both_quiet (alias entries s.entry ++ codes " ") (access_text entries s.entry s.access) (both_quiet (alias entries s.entry) (codes " ") (word_quiet (alias entries s.entry) is.0.1.goes_well) blank_quiet) (access_quiet s.entry s.access is.1)

  method_quiet : (m : Method) → IsMethod entries m → IsQuiet (method_text m)
  method_quiet Nested l = nested_quiet
  method_quiet (Hash k) l = both_quiet (codes "hash " ++ decimal k) (codes " ") (both_quiet (codes "hash ") (decimal k) hash_quiet (decimal_quiet k (omega (arith, l)))) blank_quiet
  method_quiet (Merge k) l = both_quiet (codes "merge " ++ decimal k) (codes " ") (both_quiet (codes "merge ") (decimal k) merge_quiet (decimal_quiet k (omega (arith, l)))) blank_quiet

  left_word_quiet : (is_left : Bool) → IsQuiet (left_word is_left)
  left_word_quiet true = left_quiet
  left_word_quiet false = nothing_quiet

  joins_quiet : (js : List PlanStep) → AreAll (IsJoin entries) js → AreAll IsQuiet (map (join_text entries) js)
  joins_quiet [] are = tt
  joins_quiet (j ∷ js) are = (
    both_quiet (left_word j.is_left) (method_text j.step.method ++ scan_text entries j.step) (left_word_quiet j.is_left) (both_quiet (method_text j.step.method) (scan_text entries j.step) (method_quiet j.step.method are.0.1) (scan_quiet j.step are.0.2)),
    joins_quiet js are.1,
  )

  pub code_quiet : (code : PlanCode) → IsCode entries code → AreAll IsQuiet (code_lines entries code)
  code_quiet Empty is = (empty_quiet, tt)
  code_quiet (Steps []) is = absurd is
  code_quiet (Steps (first ∷ joins)) is = (both_quiet (codes "first ") (scan_text entries first.step) first_quiet (scan_quiet first.step is.0.2), joins_quiet joins is.1)

  pub sort_quiet : (sort : Option SortColumn) → IsSort entries sort → AreAll IsQuiet (sort_lines entries sort)
  sort_quiet None is = tt
  sort_quiet (Some c) is = (
    both_quiet (codes "sort " ++ alias entries c.entry ++ codes ".") (column_name entries c.entry c.column)
        (both_quiet (codes "sort " ++ alias entries c.entry) (codes ".") (both_quiet (codes "sort ") (alias entries c.entry) sort_word_quiet (word_quiet (alias entries c.entry) is.0.1.goes_well)) dot_quiet)
        (word_quiet (column_name entries c.entry c.column) is.1.1.goes_well),
    tt,
  )

  branches_word : (bs : List Branch) → list_all goes_on (map branch_digit bs) ≡ true
  branches_word [] = refl
  branches_word (Second ∷ bs) = branches_word bs
  branches_word (First ∷ bs) = branches_word bs

  path_quiet : (path : List Branch) → IsQuiet (path_text path)
  path_quiet [] = dot_quiet
  path_quiet (b ∷ bs) = word_quiet (map branch_digit (b ∷ bs)) (branches_word (b ∷ bs))

  args_quiet : (args : List ℕ) → AreAll (λ n. n < 2 ^ 64) args → IsQuiet (flat_map argument_text args)
  args_quiet [] are = nothing_quiet
  args_quiet (a ∷ args) are = both_quiet (codes " " ++ decimal a) (flat_map argument_text args) (both_quiet (codes " ") (decimal a) blank_quiet (decimal_quiet a (omega (arith, are.0)))) (args_quiet args are.1)

  sign_quiet : (reverse : Bool) → IsQuiet (if reverse then codes "-" else [])
  sign_quiet true = minus_quiet
  sign_quiet false = nothing_quiet

  step_quiet : (s : Step) → IsStep s → IsQuiet (step_text s)
  step_quiet s is =
      both_quiet (decimal s.rule ++ (if s.is_reverse then codes "-" else []) ++ codes " " ++ path_text s.path) (flat_map argument_text s.arguments)
      (both_quiet (decimal s.rule ++ (if s.is_reverse then codes "-" else []) ++ codes " ") (path_text s.path)
      (both_quiet (decimal s.rule ++ (if s.is_reverse then codes "-" else [])) (codes " ")
      (both_quiet (decimal s.rule) (if s.is_reverse then codes "-" else []) (decimal_quiet s.rule (omega (arith, is.rule))) (sign_quiet s.is_reverse)) blank_quiet)
      (path_quiet s.path))
      (args_quiet s.arguments is.arguments)

  pub steps_quiet : (steps : List Step) → AreAll IsStep steps → AreAll IsQuiet (map step_text steps)
  steps_quiet [] are = tt
  steps_quiet (s ∷ steps) are = (step_quiet s are.0, steps_quiet steps are.1)

  lines_quiet : (p : Plan) → IsPlan entries p → AreAll IsQuiet (plan_lines entries p)
  lines_quiet p is = (
    both_quiet (codes "cost ") (decimal p.cost) cost_quiet (decimal_quiet p.cost (omega (arith, is.sound.cost))),
    joined IsQuiet (filter_lines 1 p.filters) _ (filters_quiet 1 p.filters (omega (arith, is.few)) is.filters)
        (joined IsQuiet (map (on_text entries) p.ons) _ (on_lines_quiet p.ons is.sound.lefts is.ons)
        (joined IsQuiet (code_lines entries p.code) _ (code_quiet p.code is.sound.code)
        (joined IsQuiet (sort_lines entries p.sort) _ (sort_quiet p.sort is.sound.sort) (trail_quiet, steps_quiet p.trail is.sound.trail)))),
  )

  -- reading goes from one draft to another over these lines, before any further ones
  abbrev pub Goes : Draft → List (List ℕ) → Draft → Type 0
  Goes from lines to = (number : ℕ) (more : List (List ℕ)) (rest : List ℕ) → (next : ℕ) × (read_lines entries number from (lines ++ more) rest ≡ read_lines entries next to more rest)

  pub stays : (from : Draft) → Goes from [] from
  stays from number more rest = (number, refl)

  pub one : (from to : Draft) (l : List ℕ) (x : Line) → IsQuiet l → content_at entries l ≡ Some x → with_line from x ≡ Some to → Goes from (l ∷ []) to
  one from to l x q e f number more rest = (
    suc number,
    ap (λ o. or_stops number (option_and_then (with_line from) o) (λ d. read_lines entries (suc number) d more rest)) (utf8_line entries l x q.utf8 e)
        ∙ ap (λ o. or_stops number o (λ d. read_lines entries (suc number) d more rest)) f,
  )

  pub both : (from via to : Draft) (ls ms : List (List ℕ)) → Goes from ls via → Goes via ms to → Goes from (ls ++ ms) to
  both from via to ls ms g h number more rest =
      let a = g number (ms ++ more) rest in
      let b = h a.0 more rest in
      (b.0, ap (λ ns. read_lines entries number from ns rest) (append_assoc ls ms more) ∙ a.1 ∙ b.1)

  filters_go : (n : ℕ) (done : List Expr) (number : ℕ) (es : List Expr) → number ≡ length done + 1 → number + length es ≤ 2 ^ 64 → AreAll (IsFilter entries) es
      → Goes (Costed n done) (filter_lines number es) (Costed n (done ++ map without_offsets es))
  filters_go n done number [] e l are = subst (λ xs. Goes (Costed n done) [] (Costed n xs)) (sym (append-nil done)) (stays (Costed n done))
  filters_go n done number (x ∷ es) e l are =
      both (Costed n done) (Costed n (done ++ without_offsets x ∷ [])) (Costed n (done ++ without_offsets x ∷ map without_offsets es)) ((codes "filter " ++ decimal number ++ codes " " ++ expr_text x) ∷ []) (filter_lines (suc number) es)
      (one (Costed n done) (Costed n (done ++ without_offsets x ∷ [])) (codes "filter " ++ decimal number ++ codes " " ++ expr_text x) (FilterLine number (without_offsets x)) (filters_quiet number (x ∷ []) (omega arith) (are.0, tt)).0 (filter_back entries number x (omega arith) are.0) (rw (eq-eqb number (length done + 1) e) refl))
      (subst (λ xs. Goes (Costed n (done ++ without_offsets x ∷ [])) (filter_lines (suc number) es) (Costed n xs)) (append_assoc done (without_offsets x ∷ []) (map without_offsets es))
      (filters_go n (done ++ without_offsets x ∷ []) (suc number) es (let size = length-append done (without_offsets x ∷ []) in omega (arith, size, e)) (omega arith) are.1))

  -- ---- ONs

  -- filters and ONs; none where there are none
  abbrev pub with_ons : ℕ → List Expr → List OnCondition → Draft
  with_ons n es [] = Costed n es
  with_ons n es (o ∷ os) = Conditioned n es (o ∷ os)

  pub goes_after : (n : ℕ) (es : List Expr) (os : List OnCondition) (l : List ℕ) (x : Line) (to : Draft) → IsQuiet l → content_at entries l ≡ Some x → after_filters n es os x ≡ Some to → with_line (Costed n es) x ≡ after_filters n es [] x → Goes (with_ons n es os) (l ∷ []) to
  goes_after n es [] l x to q e f g = one (Costed n es) to l x q e (g ∙ f)
  goes_after n es (o ∷ os) l x to q e f g = one (Conditioned n es (o ∷ os)) to l x q e f

  -- with one more ON there are ONs
  some_ons : (n : ℕ) (es : List Expr) (os : List OnCondition) (o : OnCondition) → Conditioned n es (os ++ o ∷ []) ≡ with_ons n es (os ++ o ∷ [])
  some_ons n es [] o = refl
  some_ons n es (p ∷ os) o = refl

  pub on_goes : (n : ℕ) (es : List Expr) (os : List OnCondition) (l : List ℕ) (o : OnCondition) → IsQuiet l → content_at entries l ≡ Some (OnLine o) → Goes (with_ons n es os) (l ∷ []) (with_ons n es (os ++ o ∷ []))
  on_goes n es os l o q e = goes_after n es os l (OnLine o) (with_ons n es (os ++ o ∷ [])) q e (ap Some (some_ons n es os o)) refl

  ons_go : (n : ℕ) (es : List Expr) (done os : List OnCondition) → AreAll (λ o. HasEntry entries o.entry) os → AreAll (λ o. IsFilter entries o.condition) os → Goes (with_ons n es done) (map (on_text entries) os) (with_ons n es (done ++ map on_without_offsets os))
  ons_go n es done [] there are = subst (λ xs. Goes (with_ons n es done) [] (with_ons n es xs)) (sym (append-nil done)) (stays (with_ons n es done))
  ons_go n es done (o ∷ os) there are =
      both (with_ons n es done) (with_ons n es (done ++ on_without_offsets o ∷ [])) (with_ons n es (done ++ on_without_offsets o ∷ map on_without_offsets os)) (on_text entries o ∷ []) (map (on_text entries) os)
      (on_goes n es done (on_text entries o) (on_without_offsets o) (on_lines_quiet (o ∷ []) (there.0, tt) (are.0, tt)).0 (on_back entries o there.0 are.0))
      (subst (λ xs. Goes (with_ons n es (done ++ on_without_offsets o ∷ [])) (map (on_text entries) os) (with_ons n es xs)) (append_assoc done (on_without_offsets o ∷ []) (map on_without_offsets os))
      (ons_go n es (done ++ on_without_offsets o ∷ []) os there.1 are.1))

  -- ---- the code

  joins_go : (n : ℕ) (es : List Expr) (os : List OnCondition) (done js : List PlanStep) → AreAll (IsJoin entries) js → Goes (Coded n es os (Steps done)) (map (join_text entries) js) (Coded n es os (Steps (done ++ js)))
  joins_go n es os done [] are = subst (λ xs. Goes (Coded n es os (Steps done)) [] (Coded n es os (Steps xs))) (sym (append-nil done)) (stays (Coded n es os (Steps done)))
  joins_go n es os done (j ∷ js) are =
      both (Coded n es os (Steps done)) (Coded n es os (Steps (done ++ j ∷ []))) (Coded n es os (Steps (done ++ j ∷ js))) (join_text entries j ∷ []) (map (join_text entries) js)
      (one (Coded n es os (Steps done)) (Coded n es os (Steps (done ++ j ∷ []))) (join_text entries j) (JoinLine j) (joins_quiet (j ∷ []) (are.0, tt)).0 (join_back entries j are.0) refl)
      (subst (λ xs. Goes (Coded n es os (Steps (done ++ j ∷ []))) (map (join_text entries) js) (Coded n es os (Steps xs))) (append_assoc done (j ∷ []) js) (joins_go n es os (done ++ j ∷ []) js are.1))

  -- the first step is no left join
  first_is : (s : PlanStep) → s.is_left ≡ false → first_step s.step ≡ s
  first_is s e = ap (λ b. let t : PlanStep = record { step = s.step; is_left = b } in t) (sym e)

  pub code_goes : (n : ℕ) (es : List Expr) (os : List OnCondition) (code : PlanCode) → IsCode entries code → Goes (with_ons n es os) (code_lines entries code) (Coded n es os code)
  code_goes n es os Empty is = goes_after n es os (codes "empty") EmptyLine (Coded n es os Empty) empty_quiet refl refl refl
  code_goes n es os (Steps []) is = absurd is
  code_goes n es os (Steps (first ∷ joins)) is =
      both (with_ons n es os) (Coded n es os (Steps (first ∷ []))) (Coded n es os (Steps (first ∷ joins))) ((codes "first " ++ scan_text entries first.step) ∷ []) (map (join_text entries) joins)
      (goes_after n es os (codes "first " ++ scan_text entries first.step) (FirstLine first.step) (Coded n es os (Steps (first ∷ []))) (code_quiet (Steps (first ∷ joins)) is).0 (first_back entries first is.0) (ap (λ s. Some (Coded n es os (Steps (s ∷ [])))) (first_is first is.0.0)) refl)
      (joins_go n es os (first ∷ []) joins is.1)

  abbrev pub begun : ℕ → List Expr → List OnCondition → PlanCode → Option SortColumn → List Step → Plan
  begun n es os code sort steps = record { cost = n; filters = es; ons = os; code = code; sort = sort; trail = steps }

  pub trail_goes : (n : ℕ) (es : List Expr) (os : List OnCondition) (code : PlanCode) (sort : Option SortColumn) → IsSort entries sort → Goes (Coded n es os code) (sort_lines entries sort ++ codes "trail" ∷ []) (Whole (begun n es os code sort []))
  trail_goes n es os code None is = one (Coded n es os code) (Whole (begun n es os code None [])) (codes "trail") TrailLine trail_quiet refl refl
  trail_goes n es os code (Some c) is =
      both (Coded n es os code) (Sorted n es os code c) (Whole (begun n es os code (Some c) [])) (sort_lines entries (Some c)) (codes "trail" ∷ [])
      (one (Coded n es os code) (Sorted n es os code c) (codes "sort " ++ alias entries c.entry ++ codes "." ++ column_name entries c.entry c.column) (SortLine c) (sort_quiet (Some c) is).0 (sort_back entries c is.0 is.1) refl)
      (one (Sorted n es os code c) (Whole (begun n es os code (Some c) [])) (codes "trail") TrailLine trail_quiet refl refl)

  pub steps_go : (n : ℕ) (es : List Expr) (os : List OnCondition) (code : PlanCode) (sort : Option SortColumn) (done steps : List Step) → AreAll IsStep steps → Goes (Whole (begun n es os code sort done)) (map step_text steps) (Whole (begun n es os code sort (done ++ steps)))
  steps_go n es os code sort done [] are = subst (λ xs. Goes (Whole (begun n es os code sort done)) [] (Whole (begun n es os code sort xs))) (sym (append-nil done)) (stays (Whole (begun n es os code sort done)))
  steps_go n es os code sort done (s ∷ steps) are =
      both (Whole (begun n es os code sort done)) (Whole (begun n es os code sort (done ++ s ∷ []))) (Whole (begun n es os code sort (done ++ s ∷ steps))) (step_text s ∷ []) (map step_text steps)
      (one (Whole (begun n es os code sort done)) (Whole (begun n es os code sort (done ++ s ∷ []))) (step_text s) (StepLine s) (step_quiet s are.0) (step_back entries s are.0) refl)
      (subst (λ xs. Goes (Whole (begun n es os code sort (done ++ s ∷ []))) (map step_text steps) (Whole (begun n es os code sort xs))) (append_assoc done (s ∷ []) steps) (steps_go n es os code sort (done ++ s ∷ []) steps are.1))

  -- ---- the plan

  lines_go : (p : Plan) → IsPlan entries p → Goes Begun (plan_lines entries p) (Whole (plan_without_offsets p))
  lines_go p is =
      let n = p.cost in
      let es = map without_offsets p.filters in
      let os = map on_without_offsets p.ons in
      let end : List (List ℕ) = sort_lines entries p.sort ++ (codes "trail" ∷ map step_text p.trail) in
      let code : List (List ℕ) = code_lines entries p.code ++ end in
      let ons : List (List ℕ) = map (on_text entries) p.ons ++ code in
      let filters : List (List ℕ) = filter_lines 1 p.filters ++ ons in
      both Begun (Costed n []) (Whole (plan_without_offsets p)) ((codes "cost " ++ decimal n) ∷ []) filters
      (one Begun (Costed n []) (codes "cost " ++ decimal n) (CostLine n) (both_quiet (codes "cost ") (decimal n) cost_quiet (decimal_quiet n (omega (arith, is.sound.cost)))) (cost_back entries n is.sound.cost) refl)
      (both (Costed n []) (Costed n es) (Whole (plan_without_offsets p)) (filter_lines 1 p.filters) ons (filters_go n [] 1 p.filters refl (omega (arith, is.few)) is.filters)
      (both (Costed n es) (with_ons n es os) (Whole (plan_without_offsets p)) (map (on_text entries) p.ons) code (ons_go n es [] p.ons is.sound.lefts is.ons)
      (both (with_ons n es os) (Coded n es os p.code) (Whole (plan_without_offsets p)) (code_lines entries p.code) end (code_goes n es os p.code is.sound.code)
      (subst (λ ls. Goes (Coded n es os p.code) ls (Whole (plan_without_offsets p))) (append_assoc (sort_lines entries p.sort) (codes "trail" ∷ []) (map step_text p.trail))
      (both (Coded n es os p.code) (Whole (begun n es os p.code p.sort [])) (Whole (plan_without_offsets p)) (sort_lines entries p.sort ++ codes "trail" ∷ []) (map step_text p.trail)
      (trail_goes n es os p.code p.sort is.sound.sort) (steps_go n es os p.code p.sort [] p.trail is.sound.trail))))))

pub plans_read_back : PlansReadBack
plans_read_back entries p is =
    let ls = plan_lines entries p in
    let go = lines_go entries p is 1 [] [] in
    ap (λ (x : List (List ℕ) × List ℕ). read_lines entries 1 Begun x.0 x.1) (text_lines entries ls (lines_quiet entries p is))
    ∙ ap (λ ms. read_lines entries 1 Begun ms []) (sym (append-nil ls))
    ∙ go.1
