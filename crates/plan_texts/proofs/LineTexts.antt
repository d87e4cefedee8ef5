-- A line that is read is the text of its content.
use Rattle.std.proofs.Common.{◌≡◌, ℕ, zero, suc, ◌==◌, ◌&&◌, ◌||◌, ◌+◌, ◌<◌, ◌^◌, nat_lt, Bool, true, false, if◌then◌else◌, ◌⊎◌, inl, inr, List, [], ◌∷◌, ◌++◌, codes, Option, Some, None, refl, sym, ap, ◌∙◌, subst, arith}
use Rattle.std.specs.Prelude.{map, flat_map, option_map, option_and_then}
use Rattle.std.specs.Fmt.{decimal}
use Rattle.std.specs.List.{list_all, slice_split, slice_get, join_with_byte}
use Rattle.std.specs.Str.{bytes_eq, is_utf8}
use Rattle.std.specs.Str.Parse.{digits_value}
use Rattle.std.proofs.lemmas.Bool.{ltb-true, eqb-true}
use Rattle.std.proofs.lemmas.List.{append_assoc, append-nil}
use Rattle.std.proofs.lemmas.List.Splits.{join_with_byte-slice_split}
use Rattle.std.proofs.lemmas.Slice.Eq.{bytes_eq-Decides}
use Rattle.value.specs.Names.{Name}
use Rattle.row_grammar.proofs.Facts.{and_left, and_right}
use Rattle.expr_texts.specs.Filters.{expr_at}
use Rattle.plan_texts.proofs.Pieces.{with_minus}
use Rattle.expr.specs.declared.code.Access.{Access}
use Rattle.expr.specs.declared.code.Access.TheVariants.{Full, Index, Range}
use Rattle.expr.specs.declared.code.CodeStep.{CodeStep}
use Rattle.expr.specs.declared.code.Method.{Method}
use Rattle.expr.specs.declared.code.Method.TheVariants.{Nested, Hash, Merge}
use Rattle.row_terms.specs.declared.path.Branch.{Branch}
use Rattle.algebra.specs.Steps.{Step}
use Rattle.plan_texts.specs.declared.plan.PlanStep.{PlanStep}
use Rattle.plan_texts.specs.declared.plan.SortColumn.{SortColumn}
use Rattle.plan_texts.specs.Plans.{PlanEntry, OnCondition}
use Rattle.plan_texts.specs.Columns.{all_columns}
use Rattle.plan_texts.specs.PlanTexts.{item_at, or_nothing, alias_of, column_of, alias, column_name, access_text, scan_text, method_text, branch_digit, path_text, argument_text, step_text}
use Rattle.value.specs.Numbers.{number_below, number_at}
use Rattle.plan_texts.specs.Reading.{numbered_from, number_of, Line, CostLine, FilterLine, OnLine, EmptyLine, FirstLine, JoinLine, SortLine, TrailLine, StepLine, is_full, inner_line, left_line, on_line, on_at, left_step, parts, cut, is_branch, branch_of, branches_of, path_at, arguments_at, last_minus, but_last, rule_at, step_at, entry_at, columns_from, columns_at, column_at, is_found, filter_line, filter_at, access_at, scan_at, by_conjunct, sort_column_at, cost_at, sort_at, other_line, after_word, content_at, IsTextOfLine, LinesAreTexts}
use Rattle.plan_texts.proofs.LinesBack.{sign_of}

-- a test that led to a value
chosen : {X : Type 0} (b : Bool) (x y : Option X) (z : X) → (if b then x else y) ≡ Some z → ((b ≡ true) × (x ≡ Some z)) ⊎ (y ≡ Some z)
chosen true x y z e = inl (refl, e)
chosen false x y z e = inr e

pub where_true : {X : Type 0} (b : Bool) (x : Option X) (z : X) → (if b then x else None) ≡ Some z → (b ≡ true) × (x ≡ Some z)
where_true true x z e = (refl, e)
where_true false x z e = cc

mapped : {X Y : Type 0} (f : X → Y) (o : Option X) (y : Y) → option_map f o ≡ Some y → (x : X) × (o ≡ Some x) × (y ≡ f x)
mapped f None y e = cc
mapped f (Some x) y e = (x, refl, cc)

pub chained : {X Y : Type 0} (f : X → Option Y) (o : Option X) (y : Y) → option_and_then f o ≡ Some y → (x : X) × (o ≡ Some x) × (f x ≡ Some y)
chained f None y e = cc
chained f (Some x) y e = (x, refl, e)

same : (t s : List ℕ) → bytes_eq t s ≡ true → t ≡ s
same t s e = (bytes_eq-Decides t s).0 e

-- ---- numbers and names

number_own : (limit : ℕ) (t : List ℕ) (n : ℕ) → number_below limit t ≡ Some n → (t ≡ decimal n) × (n < limit)
number_own limit t n e =
    let h = where_true (bytes_eq t (decimal (digits_value 10 t)) && nat_lt (digits_value 10 t) limit) (Some (digits_value 10 t)) n e in
    let value : digits_value 10 t ≡ n = cc (h.1) in
    (same t _ (and_left _ _ h.0) ∙ ap decimal value, subst (λ m. m < limit) value (ltb-true (digits_value 10 t) limit (and_right (bytes_eq t (decimal (digits_value 10 t))) _ h.0)))

numbered_own : (k : ℕ) (names : List Name) (name : Name) (p : ℕ) → numbered_from k names name ≡ Some p → (q : ℕ) × (p ≡ k + q) × (slice_get names q ≡ Some name)
numbered_own k [] name p e = cc
numbered_own k (n ∷ ns) name p e =
    elim (chosen (bytes_eq name n) (Some k) (numbered_from (suc k) ns name) p e) [
      | inl h ↦ (0, (let here : k ≡ p = cc (h.1) in omega (arith, here)), ap Some (sym (same name n h.0)))
      | inr h ↦ (let more = numbered_own (suc k) ns name p h in (suc more.0, omega (arith, more.1), more.2))
    ]

named_own : (names : List Name) (name : Name) (p : ℕ) → number_of names name ≡ Some p → item_at names p ≡ Some name
named_own names name p e = let own = numbered_own 1 names name p e in subst (λ n. item_at names n ≡ Some name) (let at : suc own.0 ≡ p = omega (arith, own.1) in at) own.2

alias_found : (entries : List PlanEntry) (i : ℕ) (name : Name) → slice_get (map (λ (e : PlanEntry). e.alias) entries) i ≡ Some name → alias_of (slice_get entries i) ≡ name
alias_found [] i name e = cc
alias_found (x ∷ xs) zero name e = cc
alias_found (x ∷ xs) (suc i) name e = alias_found xs i name e

alias_numbered : (entries : List PlanEntry) (i : ℕ) (name : Name) → item_at (map (λ (e : PlanEntry). e.alias) entries) i ≡ Some name → alias_of (item_at entries i) ≡ name
alias_numbered entries zero name e = cc
alias_numbered entries (suc i) name e = alias_found entries i name e

no_item : (c : ℕ) (name : Name) → item_at [] c ≡ Some name → ⊥
no_item zero name e = cc
no_item (suc c) name e = cc

column_found : (entries : List PlanEntry) (i c : ℕ) (name : Name) → item_at (columns_from entries i) c ≡ Some name → column_of (slice_get entries i) c ≡ name
column_found [] i c name e = absurd (no_item c name e)
column_found (x ∷ xs) zero c name e = ap or_nothing e
column_found (x ∷ xs) (suc i) c name e = column_found xs i c name e

column_numbered : (entries : List PlanEntry) (i c : ℕ) (name : Name) → item_at (columns_at entries i) c ≡ Some name → column_of (item_at entries i) c ≡ name
column_numbered entries zero c name e = absurd (no_item c name e)
column_numbered entries (suc i) c name e = column_found entries i c name e

-- ---- the words of a line

abbrev joined : List (List ℕ) → List ℕ
joined ps = join_with_byte 32 ps

-- a word, a space and further words
joined_with : (w p : List ℕ) (ps : List (List ℕ)) → joined (w ∷ p ∷ ps) ≡ w ++ codes " " ++ joined (p ∷ ps)
joined_with w p ps = sym (append_assoc w (32 ∷ []) (joined (p ∷ ps)))

module _ (entries : List PlanEntry) where
  alias_own : (i : ℕ) (name : Name) → entry_at entries name ≡ Some i → alias entries i ≡ name
  alias_own i name e = alias_numbered entries i name (named_own (map (λ (x : PlanEntry). x.alias) entries) name i e)

  column_own : (i c : ℕ) (name : Name) → column_at entries i name ≡ Some c → column_name entries i c ≡ name
  column_own i c name e = column_numbered entries i c name (named_own (columns_at entries i) name c e)

  access_own : (i : ℕ) (ps : List (List ℕ)) (a : Access) → access_at entries i ps ≡ Some a → joined ps ≡ access_text entries i a
  access_own i [] a e = cc
  access_own i (w ∷ []) a e =
      let h = where_true (bytes_eq w (codes "full")) (Some Full) a e in
      let is : Full ≡ a = cc (h.1) in
      same w (codes "full") h.0 ∙ ap (access_text entries i) is
  access_own i (w ∷ name ∷ []) a e =
      let h = where_true (bytes_eq w (codes "index")) _ a e in
      let m = mapped (λ c. Index c) (column_at entries i name) a h.1 in
      ap (λ v. v ++ 32 ∷ name) (same w (codes "index") h.0) ∙ ap (λ v. codes "index " ++ v) (sym (column_own i m.0 name m.1)) ∙ ap (access_text entries i) (sym m.2)
  access_own i (w ∷ name ∷ b ∷ []) a e = cc
  access_own i (w ∷ name ∷ b ∷ k ∷ []) a e =
      let h = where_true (bytes_eq w (codes "index") && bytes_eq b (codes "by")) _ a e in
      let m = chained (λ c. option_map (λ n. Range c n) (number_at k)) (column_at entries i name) a h.1 in
      let n = mapped (λ x. Range m.0 x) (number_at k) a m.2 in
      ap (λ v. v ++ 32 ∷ (name ++ 32 ∷ (b ++ 32 ∷ k))) (same w (codes "index") (and_left _ _ h.0))
      ∙ ap (λ v. codes "index " ++ (name ++ 32 ∷ (v ++ 32 ∷ k))) (same b (codes "by") (and_right (bytes_eq w (codes "index")) _ h.0))
      ∙ ap (λ v. codes "index " ++ (name ++ 32 ∷ (98 ∷ 121 ∷ 32 ∷ v))) (number_own (2 ^ 64) k n.0 n.1).0
      ∙ ap (λ v. codes "index " ++ (v ++ 32 ∷ (98 ∷ 121 ∷ 32 ∷ decimal n.0))) (sym (column_own i m.0 name m.1))
      ∙ ap (λ v. codes "index " ++ v) (sym (append_assoc (column_name entries i m.0) (codes " by ") (decimal n.0)))
      ∙ ap (access_text entries i) (sym n.2)
  access_own i (w ∷ name ∷ b ∷ k ∷ x ∷ ps) a e = cc

  scan_own : (method : Method) (ps : List (List ℕ)) (s : CodeStep) → scan_at entries method ps ≡ Some s → (joined ps ≡ scan_text entries s) × (s.method ≡ method)
  scan_own method [] s e = cc
  scan_own method (name ∷ access) s e =
      let m = chained (λ i. option_map (λ a. let x : CodeStep = record { entry = i; access = a; method = method } in x) (access_at entries i access)) (entry_at entries name) s e in
      let n = mapped (λ a. let x : CodeStep = record { entry = m.0; access = a; method = method } in x) (access_at entries m.0 access) s m.2 in
      (words m.0 n.0 access (access_own m.0 access n.0 n.1) n.1 ∙ ap (λ v. v ++ codes " " ++ access_text entries m.0 n.0) (sym (alias_own m.0 name m.1)) ∙ ap (scan_text entries) (sym n.2), ap (λ (x : CodeStep). x.method) n.2)
    where
      words : (i : ℕ) (a : Access) (ps : List (List ℕ)) → joined ps ≡ access_text entries i a → access_at entries i ps ≡ Some a → joined (name ∷ ps) ≡ name ++ codes " " ++ access_text entries i a
      words i a [] e f = cc
      words i a (p ∷ ps) e f = joined_with name p ps ∙ ap (λ v. name ++ codes " " ++ v) e

  -- a word before a scan
  after_own : (w : List ℕ) (method : Method) (ps : List (List ℕ)) (s : CodeStep) → scan_at entries method ps ≡ Some s → joined (w ∷ ps) ≡ w ++ codes " " ++ scan_text entries s
  after_own w method [] s e = cc
  after_own w method (p ∷ ps) s e = joined_with w p ps ∙ ap (λ v. w ++ codes " " ++ v) (scan_own method (p ∷ ps) s e).0

  -- the words of a join
  abbrev step_words : CodeStep → List ℕ
  step_words s = method_text s.method ++ scan_text entries s

  nested_own : (ps : List (List ℕ)) (s : CodeStep) → scan_at entries Nested ps ≡ Some s → joined (codes "nested" ∷ ps) ≡ step_words s
  nested_own ps s e = after_own (codes "nested") Nested ps s e ∙ ap (λ m. method_text m ++ scan_text entries s) (sym (scan_own Nested ps s e).1)

  by_own : (method : ℕ → Method) (w : List ℕ) (ps : List (List ℕ)) (s : CodeStep) → by_conjunct entries method ps ≡ Some s → ((k : ℕ) → method_text (method k) ≡ w ++ codes " " ++ decimal k ++ codes " ") → joined (w ∷ ps) ≡ step_words s
  by_own method w [] s e t = cc
  by_own method w (k ∷ ps) s e t =
      let m = chained (λ n. scan_at entries (method n) ps) (number_at k) s e in
      joined_with w k ps ∙ ap (λ v. w ++ codes " " ++ v) (after_own k (method m.0) ps s m.2 ∙ ap (λ v. v ++ codes " " ++ scan_text entries s) (number_own (2 ^ 64) k m.0 m.1).0)
      ∙ sym (append_assoc (w ++ codes " ") (decimal m.0 ++ codes " ") (scan_text entries s)) ∙ ap (λ v. v ++ scan_text entries s) (sym (append_assoc (w ++ codes " ") (decimal m.0) (codes " ")) ∙ sym (t m.0))
      ∙ ap (λ v. method_text v ++ scan_text entries s) (sym (scan_own (method m.0) ps s m.2).1)

  -- the line of a join that is no left join
  inner_own : (o : Option CodeStep) (l : List ℕ) (x : Line) → option_map inner_line o ≡ Some x → ((s : CodeStep) → o ≡ Some s → l ≡ step_words s) → IsTextOfLine entries x l
  inner_own o l x e words = let m = mapped inner_line o x e in subst (λ y. IsTextOfLine entries y l) (sym m.2) (words m.0 m.1)

  left_words : (ps : List (List ℕ)) (s : CodeStep) → left_step entries ps ≡ Some s → joined (codes "left" ∷ ps) ≡ codes "left " ++ step_words s
  left_words [] s e = cc
  left_words (w ∷ more) s e =
      elim (chosen (bytes_eq w (codes "nested")) (scan_at entries Nested more) _ s e) [
        | inl h ↦ joined_with (codes "left") w more ∙ ap (λ v. codes "left " ++ joined (v ∷ more)) (same w (codes "nested") h.0) ∙ ap (λ v. codes "left " ++ v) (nested_own more s h.1)
        | inr k ↦ (let h = where_true (bytes_eq w (codes "hash")) (by_conjunct entries (λ n. Hash n) more) s k in
            joined_with (codes "left") w more ∙ ap (λ v. codes "left " ++ joined (v ∷ more)) (same w (codes "hash") h.0) ∙ ap (λ v. codes "left " ++ v) (by_own (λ n. Hash n) (codes "hash") more s h.1 (λ n. refl)))
      ]

  left_own : (ps : List (List ℕ)) (x : Line) → option_and_then left_line (left_step entries ps) ≡ Some x → IsTextOfLine entries x (joined (codes "left" ∷ ps))
  left_own ps x e =
      let m = chained left_line (left_step entries ps) x e in
      let h = where_true (is_full m.0.access) (Some (JoinLine (record { step = m.0; is_left = true }))) x m.2 in
      let is : JoinLine (record { step = m.0; is_left = true }) ≡ x = cc (h.1) in
      subst (λ y. IsTextOfLine entries y (joined (codes "left" ∷ ps))) is (left_words ps m.0 m.1)

  sort_own : (name : List ℕ) (c : SortColumn) → sort_column_at entries (slice_split (λ b. b == 46) name) ≡ Some c → codes "sort " ++ name ≡ codes "sort " ++ alias entries c.entry ++ codes "." ++ column_name entries c.entry c.column
  sort_own name x e = go (slice_split (λ b. b == 46) name) e (join_with_byte-slice_split 46 name)
    where
      go : (ps : List (List ℕ)) → sort_column_at entries ps ≡ Some x → join_with_byte 46 ps ≡ name → codes "sort " ++ name ≡ codes "sort " ++ alias entries x.entry ++ codes "." ++ column_name entries x.entry x.column
      go [] e j = cc
      go (a ∷ []) e j = cc
      go (a ∷ c ∷ []) e j =
          let m = chained (λ i. option_map (λ k. let y : SortColumn = record { entry = i; column = k } in y) (column_at entries i c)) (entry_at entries a) x e in
          let n = mapped (λ k. let y : SortColumn = record { entry = m.0; column = k } in y) (column_at entries m.0 c) x m.2 in
          ap (λ v. codes "sort " ++ v) (sym j) ∙ ap (λ v. codes "sort " ++ (v ++ 46 ∷ c)) (sym (alias_own m.0 a m.1)) ∙ ap (λ v. codes "sort " ++ (alias entries m.0 ++ 46 ∷ v)) (sym (column_own m.0 n.0 c n.1))
          ∙ sym (append_assoc (codes "sort " ++ alias entries m.0) (codes ".") (column_name entries m.0 n.0))
          ∙ ap (λ (y : SortColumn). codes "sort " ++ alias entries y.entry ++ codes "." ++ column_name entries y.entry y.column) (sym n.2)
      go (a ∷ c ∷ d ∷ ps) e j = cc

-- ---- steps

rule_own : (t : List ℕ) (r : ℕ × Bool) → rule_at t ≡ Some r → t ≡ decimal r.0 ++ sign_of r.1
rule_own t r e = go (last_minus t) refl e
  where
    go : (b : Bool) → last_minus t ≡ b → (if b then option_map (λ n. let p : ℕ × Bool = (n, true) in p) (number_at (but_last t)) else option_map (λ n. let p : ℕ × Bool = (n, false) in p) (number_at t)) ≡ Some r → t ≡ decimal r.0 ++ sign_of r.1
    go true h f =
        let m = mapped (λ n. let p : ℕ × Bool = (n, true) in p) (number_at (but_last t)) r f in
        sym (with_minus t h) ∙ ap (λ v. v ++ codes "-") (number_own (2 ^ 64) (but_last t) m.0 m.1).0 ∙ ap (λ (q : ℕ × Bool). decimal q.0 ++ sign_of q.1) (sym m.2)
    go false h f =
        let m = mapped (λ n. let p : ℕ × Bool = (n, false) in p) (number_at t) r f in
        (number_own (2 ^ 64) t m.0 m.1).0 ∙ sym (append-nil (decimal m.0)) ∙ ap (λ (q : ℕ × Bool). decimal q.0 ++ sign_of q.1) (sym m.2)

branch_own : (b : ℕ) → is_branch b ≡ true → branch_digit (branch_of b) ≡ b
branch_own b e = go (b == 48) (b == 49) refl refl e
  where
    go : (x y : Bool) → (b == 48) ≡ x → (b == 49) ≡ y → (x || y) ≡ true → branch_digit (branch_of b) ≡ b
    go x true h k e = rw k (sym (eqb-true b 49 k))
    go true false h k e = rw k (sym (eqb-true b 48 h))
    go false false h k e = cc

branches_own : (bs : List ℕ) → list_all is_branch bs ≡ true → map branch_digit (branches_of bs) ≡ bs
branches_own [] e = refl
branches_own (b ∷ bs) e = ap (λ c. c ∷ map branch_digit (branches_of bs)) (branch_own b (and_left _ _ e)) ∙ ap (λ v. b ∷ v) (branches_own bs (and_right (is_branch b) _ e))

path_own : (t : List ℕ) (p : List Branch) → path_at t ≡ Some p → t ≡ path_text p
path_own [] p e = cc
path_own (b ∷ bs) p e =
    elim (chosen (bytes_eq (b ∷ bs) (codes ".")) (Some []) (if list_all is_branch (b ∷ bs) then Some (branches_of (b ∷ bs)) else None) p e) [
      | inl h ↦ same (b ∷ bs) (codes ".") h.0 ∙ ap path_text (let empty : [] ≡ p = cc (h.1) in empty)
      | inr h ↦ (let t = where_true (list_all is_branch (b ∷ bs)) (Some (branches_of (b ∷ bs))) p h in sym (branches_own (b ∷ bs) t.0) ∙ ap path_text (let is : branches_of (b ∷ bs) ≡ p = cc (t.1) in is))
    ]

-- a part, and the arguments after it
args_own : (w : List ℕ) (ps : List (List ℕ)) (args : List ℕ) → arguments_at ps ≡ Some args → joined (w ∷ ps) ≡ w ++ flat_map argument_text args
args_own w [] args e = sym (append-nil w) ∙ ap (λ v. w ++ flat_map argument_text v) (let none : [] ≡ args = cc (e) in none)
args_own w (a ∷ []) args e =
    let m = mapped (λ n. n ∷ []) (number_at a) args e in
    ap (λ v. w ++ 32 ∷ v) ((number_own (2 ^ 64) a m.0 m.1).0 ∙ sym (append-nil (decimal m.0))) ∙ ap (λ v. w ++ flat_map argument_text v) (sym m.2)
args_own w (a ∷ b ∷ []) args e =
    let m = chained (λ j. option_map (λ n. j ∷ n ∷ []) (number_at b)) (number_at a) args e in
    let n = mapped (λ n. m.0 ∷ n ∷ []) (number_at b) args m.2 in
    ap (λ v. w ++ 32 ∷ (v ++ 32 ∷ b)) (number_own (2 ^ 64) a m.0 m.1).0 ∙ ap (λ v. w ++ 32 ∷ (decimal m.0 ++ 32 ∷ v)) ((number_own (2 ^ 64) b n.0 n.1).0 ∙ sym (append-nil (decimal n.0)))
    ∙ ap (λ v. w ++ flat_map argument_text v) (sym n.2)
args_own w (a ∷ b ∷ c ∷ ps) args e = cc

step_own : (ps : List (List ℕ)) (s : Step) → step_at ps ≡ Some s → joined ps ≡ step_text s
step_own [] s e = cc
step_own (r ∷ []) s e = cc
step_own (r ∷ p ∷ args) s e =
    let m = chained (λ q. option_and_then (λ v. option_map (λ as_. let x : Step = record { rule = q.0; is_reverse = q.1; path = v; arguments = as_ } in x) (arguments_at args)) (path_at p)) (rule_at r) s e in
    let n = chained (λ v. option_map (λ as_. let x : Step = record { rule = m.0.0; is_reverse = m.0.1; path = v; arguments = as_ } in x) (arguments_at args)) (path_at p) s m.2 in
    let o = mapped (λ as_. let x : Step = record { rule = m.0.0; is_reverse = m.0.1; path = n.0; arguments = as_ } in x) (arguments_at args) s n.2 in
    joined_with r p args ∙ ap (λ v. r ++ codes " " ++ v) (args_own p args o.0 o.1) ∙ ap (λ v. v ++ codes " " ++ (p ++ flat_map argument_text o.0)) (rule_own r m.0 m.1)
    ∙ ap (λ v. decimal m.0.0 ++ sign_of m.0.1 ++ codes " " ++ (v ++ flat_map argument_text o.0)) (path_own p n.0 n.1)
    ∙ sym (append_assoc (decimal m.0.0 ++ sign_of m.0.1 ++ codes " ") (path_text n.0) (flat_map argument_text o.0)) ∙ ap step_text (sym o.2)

-- ---- a line

cut_own : (l : List ℕ) (p : List ℕ × List ℕ) → cut l ≡ Some p → l ≡ p.0 ++ codes " " ++ p.1
cut_own [] p e = cc
cut_own (b ∷ bs) p e =
    elim (chosen (b == 32) (Some ([], bs)) (option_map (λ (q : List ℕ × List ℕ). let r : List ℕ × List ℕ = (b ∷ q.0, q.1) in r) (cut bs)) p e) [
      | inl h ↦ ap (λ c. c ∷ bs) (eqb-true b 32 h.0) ∙ ap (λ (q : List ℕ × List ℕ). q.0 ++ codes " " ++ q.1) (let is : ([], bs) ≡ p = cc (h.1) in is)
      | inr h ↦ (let m = mapped (λ (q : List ℕ × List ℕ). let r : List ℕ × List ℕ = (b ∷ q.0, q.1) in r) (cut bs) p h in ap (λ v. b ∷ v) (cut_own bs m.0 m.1) ∙ ap (λ (q : List ℕ × List ℕ). q.0 ++ codes " " ++ q.1) (sym m.2))
    ]

module _ (entries : List PlanEntry) where
  -- words that are read otherwise than as a filter or an ON
  other_own : (ps : List (List ℕ)) (x : Line) → other_line entries ps ≡ Some x → IsTextOfLine entries x (joined ps)
  other_own [] x e = cc
  other_own (w ∷ more) x e =
      elim (chosen (bytes_eq w (codes "cost")) (cost_at more) _ x e) [
        | inl h ↦ subst (λ v. IsTextOfLine entries x (joined (v ∷ more))) (sym (same w (codes "cost") h.0)) (costs more h.1)
        | inr e1 ↦ elim (chosen (bytes_eq w (codes "first")) (option_map FirstLine (scan_at entries Nested more)) _ x e1) [
          | inl h ↦ subst (λ v. IsTextOfLine entries x (joined (v ∷ more))) (sym (same w (codes "first") h.0)) (firsts h.1)
          | inr e2 ↦ elim (chosen (bytes_eq w (codes "nested")) (option_map inner_line (scan_at entries Nested more)) _ x e2) [
            | inl h ↦ subst (λ v. IsTextOfLine entries x (joined (v ∷ more))) (sym (same w (codes "nested") h.0)) (inner_own entries (scan_at entries Nested more) (joined (codes "nested" ∷ more)) x h.1 (nested_own entries more))
            | inr e3 ↦ elim (chosen (bytes_eq w (codes "hash")) (option_map inner_line (by_conjunct entries (λ n. Hash n) more)) _ x e3) [
              | inl h ↦ subst (λ v. IsTextOfLine entries x (joined (v ∷ more))) (sym (same w (codes "hash") h.0)) (inner_own entries (by_conjunct entries (λ n. Hash n) more) (joined (codes "hash" ∷ more)) x h.1 (λ s f. by_own entries (λ n. Hash n) (codes "hash") more s f (λ k. refl)))
              | inr e4 ↦ elim (chosen (bytes_eq w (codes "merge")) (option_map inner_line (by_conjunct entries (λ n. Merge n) more)) _ x e4) [
                | inl h ↦ subst (λ v. IsTextOfLine entries x (joined (v ∷ more))) (sym (same w (codes "merge") h.0)) (inner_own entries (by_conjunct entries (λ n. Merge n) more) (joined (codes "merge" ∷ more)) x h.1 (λ s f. by_own entries (λ n. Merge n) (codes "merge") more s f (λ k. refl)))
                | inr e5 ↦ elim (chosen (bytes_eq w (codes "left")) (option_and_then left_line (left_step entries more)) _ x e5) [
                  | inl h ↦ subst (λ v. IsTextOfLine entries x (joined (v ∷ more))) (sym (same w (codes "left") h.0)) (left_own entries more x h.1)
                  | inr e6 ↦ elim (chosen (bytes_eq w (codes "sort")) (sort_at entries more) _ x e6) [
                    | inl h ↦ subst (λ v. IsTextOfLine entries x (joined (v ∷ more))) (sym (same w (codes "sort") h.0)) (sorts more h.1)
                    | inr e7 ↦ (let m = mapped (λ s. StepLine s) (step_at (w ∷ more)) x e7 in subst (λ y. IsTextOfLine entries y (joined (w ∷ more))) (sym m.2) (step_own (w ∷ more) m.0 m.1))
                  ]
                ]
              ]
            ]
          ]
        ]
      ]
    where
      costs : (ps : List (List ℕ)) → cost_at ps ≡ Some x → IsTextOfLine entries x (joined (codes "cost" ∷ ps))
      costs [] f = cc
      costs (n ∷ []) f =
          let m = mapped (λ k. CostLine k) (number_below (2 ^ 128) n) x f in
          let own = number_own (2 ^ 128) n m.0 m.1 in
          subst (λ y. IsTextOfLine entries y (codes "cost " ++ n)) (sym m.2) (ap (λ v. codes "cost " ++ v) own.0, own.1)
      costs (n ∷ k ∷ ps) f = cc

      firsts : option_map FirstLine (scan_at entries Nested more) ≡ Some x → IsTextOfLine entries x (joined (codes "first" ∷ more))
      firsts f =
          let m = mapped (λ s. FirstLine s) (scan_at entries Nested more) x f in
          subst (λ y. IsTextOfLine entries y (joined (codes "first" ∷ more))) (sym m.2) (after_own entries (codes "first") Nested more m.0 m.1, (scan_own entries Nested more m.0 m.1).1)

      sorts : (ps : List (List ℕ)) → sort_at entries ps ≡ Some x → IsTextOfLine entries x (joined (codes "sort" ∷ ps))
      sorts [] f = cc
      sorts (name ∷ []) f =
          let m = mapped (λ c. SortLine c) (sort_column_at entries (slice_split (λ b. b == 46) name)) x f in
          subst (λ y. IsTextOfLine entries y (codes "sort " ++ name)) (sym m.2) (sort_own entries name m.0 m.1)
      sorts (name ∷ k ∷ ps) f = cc

  filter_own : (l : List ℕ) (x : Line) → filter_at entries (cut l) ≡ Some x → IsTextOfLine entries x (codes "filter " ++ l)
  filter_own l x e = go (cut l) refl e
    where
      go : (o : Option (List ℕ × List ℕ)) → cut l ≡ o → filter_at entries o ≡ Some x → IsTextOfLine entries x (codes "filter " ++ l)
      go None h f = cc
      go (Some p) h f =
          let m = chained (λ n. option_and_then (filter_line entries n) (expr_at p.1)) (number_at p.0) x f in
          let n = chained (filter_line entries m.0) (expr_at p.1) x m.2 in
          let found = where_true (all_columns (is_found entries) n.0) (Some (FilterLine m.0 n.0)) x n.2 in
          let is : FilterLine m.0 n.0 ≡ x = cc (found.1) in
          let own = number_own (2 ^ 64) p.0 m.0 m.1 in
          subst (λ y. IsTextOfLine entries y (codes "filter " ++ l)) is
          (p.1, ap (λ v. codes "filter " ++ v) (cut_own l p h) ∙ ap (λ v. codes "filter " ++ (v ++ codes " " ++ p.1)) own.0, own.1, n.1, found.0)

  on_own : (l : List ℕ) (x : Line) → on_at entries (cut l) ≡ Some x → IsTextOfLine entries x (codes "on " ++ l)
  on_own l x e = go (cut l) refl e
    where
      go : (o : Option (List ℕ × List ℕ)) → cut l ≡ o → on_at entries o ≡ Some x → IsTextOfLine entries x (codes "on " ++ l)
      go None h f = cc
      go (Some p) h f =
          let m = chained (λ i. option_and_then (on_line entries i) (expr_at p.1)) (entry_at entries p.0) x f in
          let n = chained (on_line entries m.0) (expr_at p.1) x m.2 in
          let on : OnCondition = record { entry = m.0; condition = n.0 } in
          let found = where_true (all_columns (is_found entries) n.0) (Some (OnLine on)) x n.2 in
          let is : OnLine on ≡ x = cc (found.1) in
          subst (λ y. IsTextOfLine entries y (codes "on " ++ l)) is
          (p.1, ap (λ v. codes "on " ++ v) (cut_own l p h) ∙ ap (λ v. codes "on " ++ (v ++ codes " " ++ p.1)) (sym (alias_own entries m.0 p.0 m.1)), n.1, found.0)

  after_word_own : (l : List ℕ) (x : Line) → after_word entries (cut l) (parts l) ≡ Some x → IsTextOfLine entries x l
  after_word_own l x e = go (cut l) refl e
    where
      words : other_line entries (parts l) ≡ Some x → IsTextOfLine entries x l
      words f = subst (IsTextOfLine entries x) (join_with_byte-slice_split 32 l) (other_own (parts l) x f)

      go : (o : Option (List ℕ × List ℕ)) → cut l ≡ o → after_word entries o (parts l) ≡ Some x → IsTextOfLine entries x l
      go None h f = words f
      go (Some p) h f =
          elim (chosen (bytes_eq p.0 (codes "filter")) (filter_at entries (cut p.1)) _ x f) [
            | inl k ↦ subst (IsTextOfLine entries x) (sym (cut_own l p h ∙ ap (λ v. v ++ codes " " ++ p.1) (same p.0 (codes "filter") k.0))) (filter_own p.1 x k.1)
            | inr f1 ↦ elim (chosen (bytes_eq p.0 (codes "on")) (on_at entries (cut p.1)) (other_line entries (parts l)) x f1) [
              | inl k ↦ subst (IsTextOfLine entries x) (sym (cut_own l p h ∙ ap (λ v. v ++ codes " " ++ p.1) (same p.0 (codes "on") k.0))) (on_own p.1 x k.1)
              | inr k ↦ words k
            ]
          ]

  content_own : (l : List ℕ) (x : Line) → content_at entries l ≡ Some x → IsTextOfLine entries x l
  content_own l x e =
      elim (chosen (bytes_eq l (codes "empty")) (Some EmptyLine) _ x e) [
        | inl h ↦ subst (λ y. IsTextOfLine entries y l) (let is : EmptyLine ≡ x = cc (h.1) in is) (same l (codes "empty") h.0)
        | inr e1 ↦ elim (chosen (bytes_eq l (codes "trail")) (Some TrailLine) _ x e1) [
          | inl h ↦ subst (λ y. IsTextOfLine entries y l) (let is : TrailLine ≡ x = cc (h.1) in is) (same l (codes "trail") h.0)
          | inr e2 ↦ after_word_own l x e2
        ]
      ]

pub lines_are_texts : LinesAreTexts
lines_are_texts entries l x e = content_own entries l x (where_true (is_utf8 l) (content_at entries l) x e).1
