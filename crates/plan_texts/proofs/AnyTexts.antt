-- Each text of a plan is read as the plan.
use Rattle.std.proofs.Common.{◌≡◌, ℕ, suc, ◌+◌, List, [], ◌∷◌, ◌++◌, length, codes, Some, Ok, refl, sym, ap, ◌∙◌, subst, arith}
use Rattle.std.specs.Prelude.{map, flat_map, option_and_then}
use Rattle.std.specs.Fmt.{decimal}
use Rattle.std.proofs.lemmas.Bool.{eq-eqb}
use Rattle.std.proofs.lemmas.List.{append_assoc, append-nil, length-append}
use Rattle.row_ast.specs.Ast.{Expr}
use Rattle.plan_texts.specs.Lines.{lines_of}
use Rattle.plan_texts.specs.Plans.{PlanEntry, OnCondition, Plan}
use Rattle.plan_texts.specs.PlanTexts.{alias, code_lines, sort_lines, step_text}
use Rattle.plan_texts.specs.Reading.{Line, CostLine, FilterLine, OnLine, cut, filter_at, on_at, content_at, Draft, Begun, Costed, Conditioned, Coded, Whole, after_filters, with_line, or_stops, read_lines, plan_at, AreAll, HasEntry, IsTextOfLine, AreFilters, AreOns, IsLine, IsSound, IsTextOf, TextsAreRead}
use Rattle.plan_texts.proofs.Quiet.{IsQuiet, quiet_line, both_quiet, decimal_quiet, cost_quiet, trail_quiet}
use Rattle.plan_texts.proofs.LinesBack.{utf8_line, cost_back, filter_is, on_is}
use Rattle.plan_texts.proofs.PlansBack.{joined, code_quiet, sort_quiet, steps_quiet, Goes, stays, both, one, with_ons, begun, code_goes, trail_goes, steps_go}

module _ (entries : List PlanEntry) where
  lines_are : (ls : List (List ℕ)) → AreAll IsQuiet ls → AreAll IsLine ls
  lines_are [] q = tt
  lines_are (l ∷ ls) q = (record { one = λ rest. quiet_line l rest q.0; utf8 = q.0.utf8 }, lines_are ls q.1)

  text_lines : (ls : List (List ℕ)) → AreAll IsLine ls → lines_of (flat_map (λ l. l ++ codes "\n") ls) ≡ (ls, [])
  text_lines [] q = refl
  text_lines (l ∷ ls) q =
      ap lines_of (append_assoc l (10 ∷ []) (flat_map (λ m. m ++ codes "\n") ls)) ∙ q.0.one (flat_map (λ m. m ++ codes "\n") ls)
      ∙ ap (λ (x : List (List ℕ) × List ℕ). let y : List (List ℕ) × List ℕ = (l ∷ x.0, x.1) in y) (text_lines ls q.1)

  -- a line that is one, by what it says
  one_line : (from to : Draft) (l : List ℕ) (x : Line) → IsLine l → content_at entries l ≡ Some x → with_line from x ≡ Some to → Goes entries from (l ∷ []) to
  one_line from to l x line said stands k more rest = (
    suc k,
    ap (λ o. or_stops k (option_and_then (with_line from) o) (λ d. read_lines entries (suc k) d more rest)) (utf8_line entries l x line.utf8 said)
        ∙ ap (λ o. or_stops k o (λ d. read_lines entries (suc k) d more rest)) stands,
  )

  -- any line of a filter
  one_filter : (n : ℕ) (done : List Expr) (number : ℕ) (l : List ℕ) (e : Expr) → number ≡ length done + 1 → IsTextOfLine entries (FilterLine number e) l → IsLine l → Goes entries (Costed n done) (l ∷ []) (Costed n (done ++ e ∷ []))
  one_filter n done number l e at s line =
      one_line (Costed n done) (Costed n (done ++ e ∷ [])) l (FilterLine number e) line
      (ap (content_at entries) s.1 ∙ ap (λ bs. filter_at entries (cut bs)) (append_assoc (decimal number) (32 ∷ []) s.0) ∙ filter_is entries number s.0 e s.2 s.3 s.4)
      (rw (eq-eqb number (length done + 1) at) refl)

  filters_go : (n : ℕ) (done : List Expr) (number : ℕ) (ls : List (List ℕ)) (es : List Expr) → number ≡ length done + 1 → AreFilters entries number ls es → AreAll IsLine ls
      → Goes entries (Costed n done) ls (Costed n (done ++ es))
  filters_go n done number [] [] at are lines = subst (λ xs. Goes entries (Costed n done) [] (Costed n xs)) (sym (append-nil done)) (stays entries (Costed n done))
  filters_go n done number (l ∷ ls) (e ∷ es) at are lines =
      both entries (Costed n done) (Costed n (done ++ e ∷ [])) (Costed n (done ++ e ∷ es)) (l ∷ []) ls (one_filter n done number l e at are.0 lines.0)
      (subst (λ xs. Goes entries (Costed n (done ++ e ∷ [])) ls (Costed n xs)) (append_assoc done (e ∷ []) es)
      (filters_go n (done ++ e ∷ []) (suc number) ls es (let size = length-append done (e ∷ []) in omega (arith, size, at)) are.1 lines.1))
  filters_go n done number [] (e ∷ es) at are lines = absurd are
  filters_go n done number (l ∷ ls) [] at are lines = absurd are

  -- any line of an ON
  one_on : (n : ℕ) (es : List Expr) (done : List OnCondition) (l : List ℕ) (o : OnCondition) → HasEntry entries o.entry → IsTextOfLine entries (OnLine o) l → IsLine l → Goes entries (with_ons entries n es done) (l ∷ []) (with_ons entries n es (done ++ o ∷ []))
  one_on n es done l o there s line = go done
    where
      said : content_at entries l ≡ Some (OnLine o)
      said = ap (content_at entries) s.1 ∙ ap (λ bs. on_at entries (cut bs)) (append_assoc (alias entries o.entry) (32 ∷ []) s.0) ∙ on_is entries o.entry s.0 o.condition there s.2 s.3

      go : (done : List OnCondition) → Goes entries (with_ons entries n es done) (l ∷ []) (with_ons entries n es (done ++ o ∷ []))
      go [] = one_line (Costed n es) (Conditioned n es (o ∷ [])) l (OnLine o) line said refl
      go (d ∷ done) = one_line (Conditioned n es (d ∷ done)) (Conditioned n es (d ∷ done ++ o ∷ [])) l (OnLine o) line said refl

  ons_go : (n : ℕ) (es : List Expr) (done : List OnCondition) (ls : List (List ℕ)) (os : List OnCondition) → AreAll (λ o. HasEntry entries o.entry) os → AreOns entries ls os → AreAll IsLine ls
      → Goes entries (with_ons entries n es done) ls (with_ons entries n es (done ++ os))
  ons_go n es done [] [] there are lines = subst (λ xs. Goes entries (with_ons entries n es done) [] (with_ons entries n es xs)) (sym (append-nil done)) (stays entries (with_ons entries n es done))
  ons_go n es done (l ∷ ls) (o ∷ os) there are lines =
      both entries (with_ons entries n es done) (with_ons entries n es (done ++ o ∷ [])) (with_ons entries n es (done ++ o ∷ os)) (l ∷ []) ls (one_on n es done l o there.0 are.0 lines.0)
      (subst (λ xs. Goes entries (with_ons entries n es (done ++ o ∷ [])) ls (with_ons entries n es xs)) (append_assoc done (o ∷ []) os) (ons_go n es (done ++ o ∷ []) ls os there.1 are.1 lines.1))
  ons_go n es done [] (o ∷ os) there are lines = absurd are
  ons_go n es done (l ∷ ls) [] there are lines = absurd are

  module _ (p : Plan) (text : List ℕ) (sound : IsSound entries p) (is : IsTextOf entries p text) (filters_are : AreAll IsLine is.filters) (ons_are : AreAll IsLine is.ons) where
    abbrev end : List (List ℕ)
    end = sort_lines entries p.sort ++ (codes "trail" ∷ map step_text p.trail)

    abbrev after_ons : List (List ℕ)
    after_ons = code_lines entries p.code ++ end

    abbrev whole : List (List ℕ)
    whole = (codes "cost " ++ decimal p.cost) ∷ (is.filters ++ (is.ons ++ after_ons))

    cost_line : IsQuiet (codes "cost " ++ decimal p.cost)
    cost_line = both_quiet (codes "cost ") (decimal p.cost) cost_quiet (decimal_quiet p.cost (omega (arith, sound.cost)))

    whole_lines : AreAll IsLine whole
    whole_lines = (
      (lines_are ((codes "cost " ++ decimal p.cost) ∷ []) (cost_line, tt)).0,
      joined entries IsLine is.filters (is.ons ++ after_ons) filters_are
          (joined entries IsLine is.ons after_ons ons_are
          (joined entries IsLine (code_lines entries p.code) end (lines_are (code_lines entries p.code) (code_quiet entries p.code sound.code))
          (joined entries IsLine (sort_lines entries p.sort) (codes "trail" ∷ map step_text p.trail) (lines_are (sort_lines entries p.sort) (sort_quiet entries p.sort sound.sort))
          (lines_are (codes "trail" ∷ map step_text p.trail) (trail_quiet, steps_quiet entries p.trail sound.trail))))),
    )

    goes : Goes entries Begun whole (Whole p)
    goes =
        let n = p.cost in
        let es = p.filters in
        let os = p.ons in
        both entries Begun (Costed n []) (Whole p) ((codes "cost " ++ decimal n) ∷ []) (is.filters ++ (is.ons ++ after_ons))
        (one entries Begun (Costed n []) (codes "cost " ++ decimal n) (CostLine n) cost_line (cost_back entries n sound.cost) refl)
        (both entries (Costed n []) (Costed n es) (Whole p) is.filters (is.ons ++ after_ons) (filters_go n [] 1 is.filters es refl is.are_filters filters_are)
        (both entries (Costed n es) (with_ons entries n es os) (Whole p) is.ons after_ons (ons_go n es [] is.ons os sound.lefts is.are_ons ons_are)
        (both entries (with_ons entries n es os) (Coded n es os p.code) (Whole p) (code_lines entries p.code) end (code_goes entries n es os p.code sound.code)
        (subst (λ ls. Goes entries (Coded n es os p.code) ls (Whole p)) (append_assoc (sort_lines entries p.sort) (codes "trail" ∷ []) (map step_text p.trail))
        (both entries (Coded n es os p.code) (Whole (begun entries n es os p.code p.sort [])) (Whole p) (sort_lines entries p.sort ++ codes "trail" ∷ []) (map step_text p.trail)
        (trail_goes entries n es os p.code p.sort sound.sort) (steps_go entries n es os p.code p.sort [] p.trail sound.trail))))))

    is_read : plan_at entries (flat_map (λ l. l ++ codes "\n") whole) ≡ Ok p
    is_read =
        let go = goes 1 [] [] in
        ap (λ (x : List (List ℕ) × List ℕ). read_lines entries 1 Begun x.0 x.1) (text_lines whole whole_lines) ∙ ap (λ ms. read_lines entries 1 Begun ms []) (sym (append-nil whole)) ∙ go.1

pub texts_are_read : TextsAreRead
texts_are_read entries p text sound is filters ons = ap (plan_at entries) is.lines ∙ is_read entries p text sound is filters ons
