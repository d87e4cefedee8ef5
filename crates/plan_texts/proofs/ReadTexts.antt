-- A text that is read as a plan is a text of the plan.
use Rattle.std.proofs.Common.{◌≡◌, ℕ, suc, ◌==◌, ◌+◌, Bool, true, false, if◌then◌else◌, List, [], ◌∷◌, ◌++◌, length, codes, Option, Some, None, Ok, refl, sym, ap, ◌∙◌, subst, arith}
use Rattle.std.specs.Prelude.{map, flat_map, option_and_then}
use Rattle.std.specs.Fmt.{decimal}
use Rattle.std.proofs.lemmas.Bool.{eqb-true}
use Rattle.std.proofs.lemmas.List.{append_assoc, append-nil, length-append}
use Rattle.row_ast.specs.Ast.{Expr}
use Rattle.row_grammar.proofs.Facts.{and_left}
use Rattle.plan_texts.specs.Lines.{Lines, ends, quotes, ended, with_byte, lines_from, lines_of}
use Rattle.algebra.specs.Steps.{Step}
use Rattle.plan_texts.specs.declared.plan.PlanStep.{PlanStep}
use Rattle.plan_texts.specs.declared.plan.SortColumn.{SortColumn}
use Rattle.plan_texts.specs.Plans.{PlanEntry, OnCondition, PlanCode, Empty, Steps, Plan}
use Rattle.plan_texts.specs.PlanTexts.{scan_text, join_text, code_lines, sort_lines, step_text}
use Rattle.plan_texts.specs.Reading.{Line, CostLine, FilterLine, OnLine, EmptyLine, FirstLine, JoinLine, SortLine, TrailLine, StepLine, line_at, Draft, Begun, Costed, Conditioned, Coded, Sorted, Whole, with_line, first_step, plan_in, or_stops, read_lines, IsTextOfLine, AreFilters, AreOns, IsTextOf, ReadIsText}
use Rattle.plan_texts.proofs.LineTexts.{where_true, chained, lines_are_texts}

-- ---- the lines of a text give it back

abbrev glued : List (List ℕ) → List ℕ
glued ls = flat_map (λ l. l ++ codes "\n") ls

with_byte_glued : (b : ℕ) (ls : Lines) → glued (with_byte b ls).0 ++ (with_byte b ls).1 ≡ b ∷ (glued ls.0 ++ ls.1)
with_byte_glued b ([], rest) = refl
with_byte_glued b (l ∷ ls, rest) = refl

glued_back : (quoted : Bool) (text : List ℕ) → glued (lines_from quoted text).0 ++ (lines_from quoted text).1 ≡ text
glued_back quoted [] = refl
glued_back quoted (b ∷ bs) = go (ends b quoted) refl (glued_back false bs) (glued_back (quotes b quoted) bs)
  where
    go : (t : Bool) → ends b quoted ≡ t → glued (lines_from false bs).0 ++ (lines_from false bs).1 ≡ bs → glued (lines_from (quotes b quoted) bs).0 ++ (lines_from (quotes b quoted) bs).1 ≡ bs
        → glued (if t then ended (lines_from false bs) else with_byte b (lines_from (quotes b quoted) bs)).0 ++ (if t then ended (lines_from false bs) else with_byte b (lines_from (quotes b quoted) bs)).1 ≡ b ∷ bs
    go true e h k = ap (λ v. 10 ∷ v) h ∙ ap (λ c. c ∷ bs) (sym (eqb-true b 10 (and_left (b == 10) _ e)))
    go false e h k = with_byte_glued b (lines_from (quotes b quoted) bs) ∙ ap (λ v. b ∷ v) k

-- ---- the lines that bring a draft to a plan

module _ (entries : List PlanEntry) where
  abbrev steps_lines : Plan → List (List ℕ)
  steps_lines p = codes "trail" ∷ map step_text p.trail

  abbrev ending : Plan → List (List ℕ)
  ending p = sort_lines entries p.sort ++ steps_lines p

  record Filtered (n : ℕ) (es : List Expr) (ls : List (List ℕ)) (p : Plan) : Type 0 where
    more : List Expr
    filters : List (List ℕ)
    ons : List (List ℕ)
    are : AreFilters entries (suc (length es)) filters more
    are_ons : AreOns entries ons p.ons
    cost : p.cost ≡ n
    all : p.filters ≡ es ++ more
    lines : ls ≡ filters ++ (ons ++ (code_lines entries p.code ++ ending p))

  record Listed (n : ℕ) (es : List Expr) (os : List OnCondition) (ls : List (List ℕ)) (p : Plan) : Type 0 where
    more : List OnCondition
    ons : List (List ℕ)
    are : AreOns entries ons more
    cost : p.cost ≡ n
    all : p.filters ≡ es
    all_ons : p.ons ≡ os ++ more
    lines : ls ≡ ons ++ (code_lines entries p.code ++ ending p)

  record Joined (n : ℕ) (es : List Expr) (os : List OnCondition) (steps : List PlanStep) (ls : List (List ℕ)) (p : Plan) : Type 0 where
    more : List PlanStep
    cost : p.cost ≡ n
    all : p.filters ≡ es
    all_ons : p.ons ≡ os
    code : p.code ≡ Steps (steps ++ more)
    lines : ls ≡ map (join_text entries) more ++ ending p

  record Emptied (n : ℕ) (es : List Expr) (os : List OnCondition) (ls : List (List ℕ)) (p : Plan) : Type 0 where
    cost : p.cost ≡ n
    all : p.filters ≡ es
    all_ons : p.ons ≡ os
    code : p.code ≡ Empty
    lines : ls ≡ ending p

  record Ordered (n : ℕ) (es : List Expr) (os : List OnCondition) (code : PlanCode) (c : SortColumn) (ls : List (List ℕ)) (p : Plan) : Type 0 where
    cost : p.cost ≡ n
    all : p.filters ≡ es
    all_ons : p.ons ≡ os
    coded : p.code ≡ code
    sort : p.sort ≡ Some c
    lines : ls ≡ steps_lines p

  record Stepped (q : Plan) (ls : List (List ℕ)) (p : Plan) : Type 0 where
    more : List Step
    is : p ≡ record q { trail = q.trail ++ more }
    lines : ls ≡ map step_text more

  abbrev Completes : Draft → List (List ℕ) → Plan → Type 0
  Completes Begun ls p = IsTextOf entries p (glued ls)
  Completes (Costed n es) ls p = Filtered n es ls p
  Completes (Conditioned n es os) ls p = Listed n es os ls p
  Completes (Coded n es os Empty) ls p = Emptied n es os ls p
  Completes (Coded n es os (Steps steps)) ls p = Joined n es os steps ls p
  Completes (Sorted n es os code c) ls p = Ordered n es os code c ls p
  Completes (Whole q) ls p = Stepped q ls p

  abbrev plan_of : ℕ → List Expr → List OnCondition → PlanCode → Option SortColumn → Plan
  plan_of n es os code sort = record { cost = n; filters = es; ons = os; code = code; sort = sort; trail = [] }

  -- ONs that end the filters
  filtered : (n : ℕ) (es : List Expr) (ls : List (List ℕ)) (p : Plan) → Listed n es [] ls p → Filtered n es ls p
  filtered n es ls p c = record { more = []; filters = []; ons = c.ons; are = tt; are_ons = subst (AreOns entries c.ons) (sym c.all_ons) c.are; cost = c.cost; all = c.all ∙ sym (append-nil es); lines = c.lines }

  -- a code with no further steps
  emptied : (n : ℕ) (es : List Expr) (os : List OnCondition) (l : List ℕ) (ls : List (List ℕ)) (p : Plan) → l ≡ codes "empty" → Emptied n es os ls p → Listed n es os (l ∷ ls) p
  emptied n es os l ls p s c = record { more = []; ons = []; are = tt; cost = c.cost; all = c.all; all_ons = c.all_ons ∙ sym (append-nil os); lines = ap (λ m. m ∷ ls) s ∙ ap (λ ms. codes "empty" ∷ ms) c.lines ∙ ap (λ code. code_lines entries code ++ ending p) (sym c.code) }

  begun_code : (n : ℕ) (es : List Expr) (os : List OnCondition) (first : PlanStep) (l : List ℕ) (ls : List (List ℕ)) (p : Plan) → l ≡ codes "first " ++ scan_text entries first.step → Joined n es os (first ∷ []) ls p → Listed n es os (l ∷ ls) p
  begun_code n es os first l ls p s c = record { more = []; ons = []; are = tt; cost = c.cost; all = c.all; all_ons = c.all_ons ∙ sym (append-nil os); lines = ap (λ m. m ∷ ls) s ∙ ap (λ ms. code_lines entries (Steps (first ∷ [])) ++ ms) c.lines ∙ ap (λ code. code_lines entries code ++ ending p) (sym c.code) }

  one_more : (n : ℕ) (es : List Expr) (os : List OnCondition) (o : OnCondition) (l : List ℕ) (ls : List (List ℕ)) (p : Plan) → IsTextOfLine entries (OnLine o) l → Listed n es (os ++ o ∷ []) ls p → Listed n es os (l ∷ ls) p
  one_more n es os o l ls p s c = record { more = o ∷ c.more; ons = l ∷ c.ons; are = (s, c.are); cost = c.cost; all = c.all; all_ons = c.all_ons ∙ append_assoc os (o ∷ []) c.more; lines = ap (λ ms. l ∷ ms) c.lines }

  advance : (d : Draft) (x : Line) (l : List ℕ) (next : Draft) → with_line d x ≡ Some next → IsTextOfLine entries x l → (ls : List (List ℕ)) (p : Plan) → Completes next ls p → Completes d (l ∷ ls) p
  advance Begun (CostLine n) l next e s ls p c =
      let here : Costed n [] ≡ next = cc in
      let c' : Filtered n [] ls p = subst (λ d. Completes d ls p) (sym here) c in
      record {
        filters = c'.filters;
        ons = c'.ons;
        are_filters = subst (λ es. AreFilters entries 1 c'.filters es) (sym c'.all) c'.are;
        are_ons = c'.are_ons;
        lines = ap (λ m. glued (m ∷ ls)) (s.0 ∙ ap (λ k. codes "cost " ++ decimal k) (sym c'.cost)) ∙ ap (λ ms. glued ((codes "cost " ++ decimal p.cost) ∷ ms)) c'.lines;
      }
  advance (Costed n es) (FilterLine k x) l next e s ls p c =
      let h = where_true (k == length es + 1) (Some (Costed n (es ++ x ∷ []))) next e in
      let here : Costed n (es ++ x ∷ []) ≡ next = cc (h.1) in
      let c' : Filtered n (es ++ x ∷ []) ls p = subst (λ d. Completes d ls p) (sym here) c in
      let number : k ≡ suc (length es) = (let q = eqb-true k (length es + 1) h.0 in omega arith) in
      let longer : suc (length (es ++ x ∷ [])) ≡ suc (suc (length es)) = (let size = length-append es (x ∷ []) in omega arith) in
      record {
        more = x ∷ c'.more;
        filters = l ∷ c'.filters;
        ons = c'.ons;
        are = (subst (λ j. IsTextOfLine entries (FilterLine j x) l) number s, subst (λ j. AreFilters entries j c'.filters c'.more) longer c'.are);
        are_ons = c'.are_ons;
        cost = c'.cost;
        all = c'.all ∙ append_assoc es (x ∷ []) c'.more;
        lines = ap (λ ms. l ∷ ms) c'.lines;
      }
  advance (Costed n es) (OnLine o) l next e s ls p c =
      let here : Conditioned n es (o ∷ []) ≡ next = cc in
      filtered n es (l ∷ ls) p (one_more n es [] o l ls p s (subst (λ d. Completes d ls p) (sym here) c))
  advance (Costed n es) EmptyLine l next e s ls p c =
      let here : Coded n es [] Empty ≡ next = cc in
      filtered n es (l ∷ ls) p (emptied n es [] l ls p s (subst (λ d. Completes d ls p) (sym here) c))
  advance (Costed n es) (FirstLine first) l next e s ls p c =
      let here : Coded n es [] (Steps (first_step first ∷ [])) ≡ next = cc in
      filtered n es (l ∷ ls) p (begun_code n es [] (first_step first) l ls p s.0 (subst (λ d. Completes d ls p) (sym here) c))
  advance (Conditioned n es os) (OnLine o) l next e s ls p c =
      let here : Conditioned n es (os ++ o ∷ []) ≡ next = cc in
      one_more n es os o l ls p s (subst (λ d. Completes d ls p) (sym here) c)
  advance (Conditioned n es os) EmptyLine l next e s ls p c =
      let here : Coded n es os Empty ≡ next = cc in
      emptied n es os l ls p s (subst (λ d. Completes d ls p) (sym here) c)
  advance (Conditioned n es os) (FirstLine first) l next e s ls p c =
      let here : Coded n es os (Steps (first_step first ∷ [])) ≡ next = cc in
      begun_code n es os (first_step first) l ls p s.0 (subst (λ d. Completes d ls p) (sym here) c)
  advance (Coded n es os (Steps js)) (JoinLine j) l next e s ls p c =
      let here : Coded n es os (Steps (js ++ j ∷ [])) ≡ next = cc in
      let c' : Joined n es os (js ++ j ∷ []) ls p = subst (λ d. Completes d ls p) (sym here) c in
      record { more = j ∷ c'.more; cost = c'.cost; all = c'.all; all_ons = c'.all_ons; code = c'.code ∙ ap (λ more. Steps more) (append_assoc js (j ∷ []) c'.more); lines = ap (λ m. m ∷ ls) s ∙ ap (λ ms. join_text entries j ∷ ms) c'.lines }
  advance (Coded n es os (Steps js)) (SortLine col) l next e s ls p c =
      let here : Sorted n es os (Steps js) col ≡ next = cc in
      let c' : Ordered n es os (Steps js) col ls p = subst (λ d. Completes d ls p) (sym here) c in
      record { more = []; cost = c'.cost; all = c'.all; all_ons = c'.all_ons; code = c'.coded ∙ ap (λ more. Steps more) (sym (append-nil js)); lines = ap (λ m. m ∷ ls) s ∙ ap (λ ms. sort_lines entries (Some col) ++ ms) c'.lines ∙ ap (λ o. sort_lines entries o ++ steps_lines p) (sym c'.sort) }
  advance (Coded n es os Empty) (SortLine col) l next e s ls p c =
      let here : Sorted n es os Empty col ≡ next = cc in
      let c' : Ordered n es os Empty col ls p = subst (λ d. Completes d ls p) (sym here) c in
      record { cost = c'.cost; all = c'.all; all_ons = c'.all_ons; code = c'.coded; lines = ap (λ m. m ∷ ls) s ∙ ap (λ ms. sort_lines entries (Some col) ++ ms) c'.lines ∙ ap (λ o. sort_lines entries o ++ steps_lines p) (sym c'.sort) }
  advance (Coded n es os (Steps js)) TrailLine l next e s ls p c =
      let here : Whole (plan_of n es os (Steps js) None) ≡ next = cc in
      let c' : Stepped (plan_of n es os (Steps js) None) ls p = subst (λ d. Completes d ls p) (sym here) c in
      record {
        more = [];
        cost = ap (λ (q : Plan). q.cost) c'.is;
        all = ap (λ (q : Plan). q.filters) c'.is;
        all_ons = ap (λ (q : Plan). q.ons) c'.is;
        code = ap (λ (q : Plan). q.code) c'.is ∙ ap (λ more. Steps more) (sym (append-nil js));
        lines = ap (λ m. m ∷ ls) s ∙ ap (λ ms. codes "trail" ∷ ms) (c'.lines ∙ ap (map step_text) (sym (ap (λ (q : Plan). q.trail) c'.is))) ∙ ap (λ o. sort_lines entries o ++ steps_lines p) (sym (ap (λ (q : Plan). q.sort) c'.is));
      }
  advance (Coded n es os Empty) TrailLine l next e s ls p c =
      let here : Whole (plan_of n es os Empty None) ≡ next = cc in
      let c' : Stepped (plan_of n es os Empty None) ls p = subst (λ d. Completes d ls p) (sym here) c in
      record {
        cost = ap (λ (q : Plan). q.cost) c'.is;
        all = ap (λ (q : Plan). q.filters) c'.is;
        all_ons = ap (λ (q : Plan). q.ons) c'.is;
        code = ap (λ (q : Plan). q.code) c'.is;
        lines = ap (λ m. m ∷ ls) s ∙ ap (λ ms. codes "trail" ∷ ms) (c'.lines ∙ ap (map step_text) (sym (ap (λ (q : Plan). q.trail) c'.is))) ∙ ap (λ o. sort_lines entries o ++ steps_lines p) (sym (ap (λ (q : Plan). q.sort) c'.is));
      }
  advance (Sorted n es os code col) TrailLine l next e s ls p c =
      let here : Whole (plan_of n es os code (Some col)) ≡ next = cc in
      let c' : Stepped (plan_of n es os code (Some col)) ls p = subst (λ d. Completes d ls p) (sym here) c in
      record {
        cost = ap (λ (q : Plan). q.cost) c'.is;
        all = ap (λ (q : Plan). q.filters) c'.is;
        all_ons = ap (λ (q : Plan). q.ons) c'.is;
        coded = ap (λ (q : Plan). q.code) c'.is;
        sort = ap (λ (q : Plan). q.sort) c'.is;
        lines = ap (λ m. m ∷ ls) s ∙ ap (λ ms. codes "trail" ∷ ms) (c'.lines ∙ ap (map step_text) (sym (ap (λ (q : Plan). q.trail) c'.is)));
      }
  advance (Whole q) (StepLine x) l next e s ls p c =
      let here : Whole (record q { trail = q.trail ++ x ∷ [] }) ≡ next = cc in
      let c' : Stepped (record q { trail = q.trail ++ x ∷ [] }) ls p = subst (λ d. Completes d ls p) (sym here) c in
      record { more = x ∷ c'.more; is = c'.is ∙ ap (λ ss. let r : Plan = record q { trail = ss } in r) (append_assoc q.trail (x ∷ []) c'.more); lines = ap (λ m. m ∷ ls) s ∙ ap (λ ms. step_text x ∷ ms) c'.lines }
  advance d x l next e s ls p c = cc

  reads : (ls : List (List ℕ)) (number : ℕ) (d : Draft) (rest : List ℕ) (p : Plan) → read_lines entries number d ls rest ≡ Ok p → (rest ≡ []) × Completes d ls p
  reads [] number d rest p e = last d rest e
    where
      last : (d : Draft) (rest : List ℕ) → plan_in number d rest ≡ Ok p → (rest ≡ []) × Completes d [] p
      last (Whole q) [] e = (refl, record { more = []; is = (let same : q ≡ p = cc in sym same) ∙ ap (λ ss. let r : Plan = record q { trail = ss } in r) (sym (append-nil q.trail)); lines = refl })
      last d rest e = cc
  reads (l ∷ ls) number d rest p e = go (option_and_then (with_line d) (line_at entries l)) refl e (λ next f. reads ls (suc number) next rest p f)
    where
      go : (o : Option Draft) → option_and_then (with_line d) (line_at entries l) ≡ o → or_stops number o (λ next. read_lines entries (suc number) next ls rest) ≡ Ok p
          → ((next : Draft) → read_lines entries (suc number) next ls rest ≡ Ok p → (rest ≡ []) × Completes next ls p) → (rest ≡ []) × Completes d (l ∷ ls) p
      go None h f more = cc
      go (Some next) h f more =
          let m = chained (with_line d) (line_at entries l) next h in
          let c = more next f in
          (c.0, advance d m.0 l next m.2 (lines_are_texts entries l m.0 m.1) ls p c.1)

pub read_is_text : ReadIsText
read_is_text entries text p e =
    let c = reads entries (lines_of text).0 1 Begun (lines_of text).1 p e in
    let whole : glued (lines_of text).0 ≡ text = sym (append-nil (glued (lines_of text).0)) ∙ ap (λ v. glued (lines_of text).0 ++ v) (sym c.0) ∙ glued_back false text in
    subst (IsTextOf entries p) whole c.1
