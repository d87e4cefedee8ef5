-- The text of each line of a plan is read as the line.
use Rattle.std.proofs.Common.{◌≡◌, ℕ, sym, ◌==◌, ◌<◌, ◌≤◌, ◌^◌, nat_eq, nat_lt, Bool, true, false, if◌then◌else◌, List, [], ◌∷◌, ◌++◌, length, codes, Some, None, refl, ap, ◌∙◌, arith}
use Rattle.std.specs.Prelude.{map, flat_map, option_map, option_and_then}
use Rattle.std.specs.Char.{is_ascii_digit}
use Rattle.std.specs.Fmt.{decimal}
use Rattle.std.specs.List.{list_all, slice_split, onto_first}
use Rattle.std.specs.Str.{IsUtf8}
use Rattle.std.proofs.lemmas.Bool.{and_parts}
use Rattle.std.proofs.lemmas.Bool.Decides.{nat_tests}
use Rattle.std.proofs.lemmas.Fmt.{decimal_is_IsNumeral_wide}
use Rattle.std.proofs.lemmas.Str.{is_utf8-from_IsUtf8}
use Rattle.std.proofs.lemmas.List.{append_assoc, append-nil}
use Rattle.row_ast.specs.Ast.{Expr}
use Rattle.value.specs.Names.{Name}
use Rattle.expr_texts.specs.Trees.{without_offsets}
use Rattle.expr_texts.specs.ExprTexts.{expr_text}
use Rattle.expr_texts.specs.Filters.{IsName, expr_at}
use Rattle.expr_texts.proofs.ReadsBack.{texts_read_back}
use Rattle.expr.specs.declared.code.Access.{Access}
use Rattle.expr.specs.declared.code.Access.TheVariants.{Full, Index, Range}
use Rattle.expr.specs.declared.code.CodeStep.{CodeStep}
use Rattle.expr.specs.declared.code.Method.{Method}
use Rattle.expr.specs.declared.code.Method.TheVariants.{Nested, Hash, Merge}
use Rattle.row_terms.specs.declared.path.Branch.{Branch}
use Rattle.row_terms.specs.declared.path.Branch.TheVariants.{First, Second}
use Rattle.algebra.specs.Steps.{Step}
use Rattle.plan_texts.specs.declared.plan.PlanStep.{PlanStep}
use Rattle.plan_texts.specs.declared.plan.SortColumn.{SortColumn}
use Rattle.plan_texts.specs.Plans.{PlanEntry, OnCondition}
use Rattle.plan_texts.specs.Columns.{all_columns}
use Rattle.plan_texts.specs.PlanTexts.{alias, column_name, access_text, scan_text, method_text, left_word, join_text, on_text, branch_digit, path_text, argument_text, step_text}
use Rattle.value.specs.Numbers.{number_at}
use Rattle.plan_texts.specs.Reading.{Line, CostLine, FilterLine, OnLine, FirstLine, JoinLine, SortLine, StepLine, is_full, inner_line, left_line, is_found, filter_line, filter_at, on_line, on_at, entry_at, left_step, is_branch, branches_of, path_at, arguments_at, last_minus, rule_at, step_at, column_at, access_at, scan_at, by_conjunct, sort_column_at, content_at, line_at, IsFilter, AreAll, HasEntry, HasColumn, IsAccess, IsScan, IsFirst, IsMethod, IsLeft, IsJoin, first_step, on_without_offsets, IsStep, cut, after_word}
use Rattle.plan_texts.proofs.Found.{still_found}
use Rattle.plan_texts.proofs.Quiet.{decimal_digits, decimal_word}
use Rattle.value.proofs.NumberTexts.{number_is}
use Rattle.plan_texts.proofs.Pieces.{Lacks, split_at, split_none, cut_at, word_lacks_blank, word_lacks_dot, minus_last, without_minus}

abbrev blank : ℕ → Bool
blank b = b == 32

decimal_lacks : (n : ℕ) → n < 10 ^ 64 → Lacks blank (decimal n)
decimal_lacks n h = word_lacks_blank (decimal n) (decimal_word n h)

decimal_cut : (n : ℕ) → n < 10 ^ 64 → slice_split blank (decimal n) ≡ decimal n ∷ []
decimal_cut n h = split_none blank (decimal n) (decimal_lacks n h)

wide : (n : ℕ) → n < 2 ^ 64 → n < 10 ^ 64
wide n h = omega arith

widest : (n : ℕ) → n < 2 ^ 128 → n < 10 ^ 64
widest n h = omega arith

a_number : (n : ℕ) → n < 2 ^ 64 → number_at (decimal n) ≡ Some n
a_number n h = number_is (2 ^ 64) n h (wide n h)

module _ (entries : List PlanEntry) where
  pub cost_back : (n : ℕ) → n < 2 ^ 128 → content_at entries (codes "cost " ++ decimal n) ≡ Some (CostLine n)
  cost_back n h = rw (decimal_cut n (widest n h)) (ap (option_map CostLine) (number_is (2 ^ 128) n h (widest n h)))

  pub filter_is : (n : ℕ) (source : List ℕ) (e : Expr) → n < 2 ^ 64 → expr_at source ≡ Some e → all_columns (is_found entries) e ≡ true → filter_at entries (cut (decimal n ++ 32 ∷ source)) ≡ Some (FilterLine n e)
  filter_is n source e h r found =
      ap (filter_at entries) (cut_at (decimal n) source (decimal_lacks n (wide n h)))
      ∙ ap (option_and_then (λ m. option_and_then (filter_line entries m) (expr_at source))) (a_number n h) ∙ ap (option_and_then (filter_line entries n)) r
      ∙ ap (λ b. if b then Some (FilterLine n e) else None) found

  pub filter_back : (n : ℕ) (e : Expr) → n < 2 ^ 64 → IsFilter entries e → content_at entries (codes "filter " ++ decimal n ++ codes " " ++ expr_text e) ≡ Some (FilterLine n (without_offsets e))
  filter_back n e h is =
      ap (λ bs. filter_at entries (cut bs)) (append_assoc (decimal n) (32 ∷ []) (expr_text e))
      ∙ filter_is n (expr_text e) (without_offsets e) h (texts_read_back e is.written is.shallow) (still_found entries e ∙ is.found)

  -- ---- ONs

  pub on_is : (i : ℕ) (source : List ℕ) (e : Expr) → HasEntry entries i → expr_at source ≡ Some e → all_columns (is_found entries) e ≡ true → on_at entries (cut (alias entries i ++ 32 ∷ source)) ≡ Some (OnLine (record { entry = i; condition = e }))
  on_is i source e there r found =
      ap (on_at entries) (cut_at (alias entries i) source (word_lacks_blank (alias entries i) there.1.goes_well))
      ∙ ap (option_and_then (λ k. option_and_then (on_line entries k) (expr_at source))) there.0 ∙ ap (option_and_then (on_line entries i)) r
      ∙ ap (λ b. if b then Some (OnLine (record { entry = i; condition = e })) else None) found

  pub on_back : (o : OnCondition) → HasEntry entries o.entry → IsFilter entries o.condition → content_at entries (on_text entries o) ≡ Some (OnLine (on_without_offsets o))
  on_back o there is =
      ap (λ bs. on_at entries (cut bs)) (append_assoc (alias entries o.entry) (32 ∷ []) (expr_text o.condition))
      ∙ on_is o.entry (expr_text o.condition) (without_offsets o.condition) there (texts_read_back o.condition is.written is.shallow) (still_found entries o.condition ∙ is.found)

  -- ---- scans

  name_cut : (name : Name) → IsName name → slice_split blank name ≡ name ∷ []
  name_cut name n = split_none blank name (word_lacks_blank name n.goes_well)

  access_back : (entry : ℕ) (a : Access) → IsAccess entries entry a → access_at entries entry (slice_split blank (access_text entries entry a)) ≡ Some a
  access_back entry Full is = refl
  access_back entry (Index column) is = rw (name_cut (column_name entries entry column) is.1) (ap (option_map (λ c. Index c)) is.0)
  access_back entry (Range column bound) is =
      let name = column_name entries entry column in
      let assoc : (name ++ codes " by ") ++ decimal bound ≡ name ++ 32 ∷ (98 ∷ 121 ∷ 32 ∷ decimal bound) = append_assoc name (codes " by ") (decimal bound) in
      let cut : slice_split blank ((name ++ codes " by ") ++ decimal bound) ≡ name ∷ codes "by" ∷ decimal bound ∷ [] =
      ap (slice_split blank) assoc ∙ split_at blank name 32 (98 ∷ 121 ∷ 32 ∷ decimal bound) (word_lacks_blank name is.0.1.goes_well) refl
      ∙ ap (λ ps. name ∷ onto_first 98 (onto_first 121 ([] ∷ ps))) (decimal_cut bound (wide bound is.1)) in
      rw cut (ap (option_and_then (λ c. option_map (λ k. Range c k) (number_at (decimal bound)))) is.0.0 ∙ ap (option_map (λ k. Range column k)) (a_number bound is.1))

  -- the step with this method
  abbrev by_method : CodeStep → Method → CodeStep
  by_method s m = record { entry = s.entry; access = s.access; method = m }

  scan_back : (m : Method) (s : CodeStep) → IsScan entries s → scan_at entries m (slice_split blank (scan_text entries s)) ≡ Some (by_method s m)
  scan_back m s is =
      let name = alias entries s.entry in
      let access = access_text entries s.entry s.access in
      let cut : slice_split blank (scan_text entries s) ≡ name ∷ slice_split blank access =
      ap (slice_split blank) (append_assoc name (32 ∷ []) access) ∙ split_at blank name 32 access (word_lacks_blank name is.0.1.goes_well) refl in
      ap (scan_at entries m) cut
      ∙ ap (option_and_then (λ i. option_map (λ a. let x : CodeStep = record { entry = i; access = a; method = m } in x) (access_at entries i (slice_split blank access)))) is.0.0
      ∙ ap (option_map (λ a. let x : CodeStep = record { entry = s.entry; access = a; method = m } in x)) (access_back s.entry s.access is.1)

  pub first_back : (s : PlanStep) → IsFirst entries s → content_at entries (codes "first " ++ scan_text entries s.step) ≡ Some (FirstLine s.step)
  first_back s is = ap (option_map FirstLine) (scan_back Nested s.step is.2) ∙ ap (λ m. Some (FirstLine (by_method s.step m))) (sym is.1)

  by_back : (method : ℕ → Method) (n : ℕ) (s : CodeStep) → n < 2 ^ 64 → IsScan entries s → by_conjunct entries method (slice_split blank ((decimal n ++ 32 ∷ []) ++ scan_text entries s)) ≡ Some (by_method s (method n))
  by_back method n s h is =
      let more = scan_text entries s in
      ap (λ bs. by_conjunct entries method (slice_split blank bs)) (append_assoc (decimal n) (32 ∷ []) more)
      ∙ ap (by_conjunct entries method) (split_at blank (decimal n) 32 more (decimal_lacks n (wide n h)) refl)
      ∙ ap (option_and_then (λ k. scan_at entries (method k) (slice_split blank more))) (a_number n h)
      ∙ scan_back (method n) s is

  inner_back : (s : CodeStep) → IsMethod entries s.method → IsScan entries s → content_at entries (method_text s.method ++ scan_text entries s) ≡ Some (inner_line s)
  inner_back s is scan = go s.method is
    where
      go : (m : Method) → IsMethod entries m → content_at entries (method_text m ++ scan_text entries s) ≡ Some (inner_line (by_method s m))
      go Nested l = ap (option_map inner_line) (scan_back Nested s scan)
      go (Hash k) l = ap (option_map inner_line) (by_back (λ n. Hash n) k s l scan)
      go (Merge k) l = ap (option_map inner_line) (by_back (λ n. Merge n) k s l scan)

  left_back : (s : CodeStep) → IsLeft s → IsMethod entries s.method → IsScan entries s → content_at entries (codes "left " ++ (method_text s.method ++ scan_text entries s)) ≡ left_line s
  left_back s left is scan = go s.method is left.no_merge
    where
      go : (m : Method) → IsMethod entries m → ((k : ℕ) → m ≡ Merge k → ⊥) → content_at entries (codes "left " ++ (method_text m ++ scan_text entries s)) ≡ left_line (by_method s m)
      go Nested l other = ap (option_and_then left_line) (scan_back Nested s scan)
      go (Hash k) l other = ap (option_and_then left_line) (by_back (λ n. Hash n) k s l scan)
      go (Merge k) l other = absurd (other k refl)

  left_is : (s : CodeStep) → s.access ≡ Full → left_line s ≡ Some (JoinLine (record { step = s; is_left = true }))
  left_is s full = ap (λ a. if is_full a then Some (JoinLine (record { step = s; is_left = true })) else None) full

  pub join_back : (j : PlanStep) → IsJoin entries j → content_at entries (join_text entries j) ≡ Some (JoinLine j)
  join_back j is = go j.is_left refl
    where
      go : (b : Bool) → j.is_left ≡ b → content_at entries (left_word b ++ (method_text j.step.method ++ scan_text entries j.step)) ≡ Some (JoinLine (record { step = j.step; is_left = b }))
      go true e = let left = is.0 e in left_back j.step left is.1 is.2 ∙ left_is j.step left.full
      go false e = inner_back j.step is.1 is.2

  -- ---- the last sort

  lacks_both : (p : ℕ → Bool) (v w : List ℕ) → Lacks p v → Lacks p w → Lacks p (v ++ w)
  lacks_both p [] w l m = m
  lacks_both p (b ∷ v) w l m = (l.0, lacks_both p v w l.1 m)

  sorted : (c : SortColumn) → HasEntry entries c.entry → HasColumn entries c.entry c.column → sort_column_at entries (alias entries c.entry ∷ column_name entries c.entry c.column ∷ []) ≡ Some c
  sorted c e is =
      ap (option_and_then (λ i. option_map (λ x. let y : SortColumn = record { entry = i; column = x } in y) (column_at entries i (column_name entries c.entry c.column)))) e.0
      ∙ ap (option_map (λ x. let y : SortColumn = record { entry = c.entry; column = x } in y)) is.0

  pub sort_back : (c : SortColumn) → HasEntry entries c.entry → HasColumn entries c.entry c.column → content_at entries (codes "sort " ++ alias entries c.entry ++ codes "." ++ column_name entries c.entry c.column) ≡ Some (SortLine c)
  sort_back c e is =
      let a = alias entries c.entry in
      let name = column_name entries c.entry c.column in
      let assoc : (a ++ 46 ∷ []) ++ name ≡ a ++ 46 ∷ name = append_assoc a (46 ∷ []) name in
      let cut : slice_split blank ((a ++ 46 ∷ []) ++ name) ≡ (a ++ 46 ∷ name) ∷ [] =
      ap (slice_split blank) assoc ∙ split_none blank (a ++ 46 ∷ name) (lacks_both blank a (46 ∷ name) (word_lacks_blank a e.1.goes_well) (refl, word_lacks_blank name is.1.goes_well)) in
      rw cut
      (ap (λ ps. option_map SortLine (sort_column_at entries ps)) (split_at (λ b. b == 46) a 46 name (word_lacks_dot a e.1.goes_well) refl ∙ ap (λ ps. a ∷ ps) (split_none (λ b. b == 46) name (word_lacks_dot name is.1.goes_well)))
      ∙ ap (option_map SortLine) (sorted c e is))

-- ---- steps

digit_is : (d c : ℕ) → is_ascii_digit d ≡ true → nat_lt 57 c ≡ true → nat_eq d c ≡ false
digit_is d c e h = grind (arith, nat_tests)

no_minus : (b : ℕ) → is_ascii_digit b ≡ true → (b == 45) ≡ false
no_minus b e = grind (arith, nat_tests)

no_minus_last : (w : List ℕ) → list_all is_ascii_digit w ≡ true → last_minus w ≡ false
no_minus_last [] all = refl
no_minus_last (b ∷ []) all = no_minus b (and_parts (is_ascii_digit b) true all).0
no_minus_last (b ∷ c ∷ w) all = no_minus_last (c ∷ w) (and_parts (is_ascii_digit b) (list_all is_ascii_digit (c ∷ w)) all).1

abbrev pub sign_of : Bool → List ℕ
sign_of reverse = if reverse then codes "-" else []

rule_back : (n : ℕ) (reverse : Bool) → n < 2 ^ 64 → rule_at (decimal n ++ sign_of reverse) ≡ Some (n, reverse)
rule_back n true h = rw (minus_last (decimal n)) (ap (λ w. option_map (λ m. let p : ℕ × Bool = (m, true) in p) (number_at w)) (without_minus (decimal n)) ∙ ap (option_map (λ m. let p : ℕ × Bool = (m, true) in p)) (a_number n h))
rule_back n false h =
    ap rule_at (append-nil (decimal n)) ∙ rw (no_minus_last (decimal n) (decimal_digits n (wide n h))) (ap (option_map (λ m. let p : ℕ × Bool = (m, false) in p)) (a_number n h))

-- ---- paths

branches : (bs : List Branch) → list_all is_branch (map branch_digit bs) ≡ true
branches [] = refl
branches (Second ∷ bs) = branches bs
branches (First ∷ bs) = branches bs

branched : (bs : List Branch) → branches_of (map branch_digit bs) ≡ bs
branched [] = refl
branched (Second ∷ bs) = ap (λ x. Second ∷ x) (branched bs)
branched (First ∷ bs) = ap (λ x. First ∷ x) (branched bs)

path_back : (path : List Branch) → path_at (path_text path) ≡ Some path
path_back [] = refl
path_back (Second ∷ bs) = rw (branches bs) (ap (λ x. Some (Second ∷ x)) (branched bs))
path_back (First ∷ bs) = rw (branches bs) (ap (λ x. Some (First ∷ x)) (branched bs))

path_lacks : (bs : List Branch) → Lacks blank (map branch_digit bs)
path_lacks [] = tt
path_lacks (Second ∷ bs) = (refl, path_lacks bs)
path_lacks (First ∷ bs) = (refl, path_lacks bs)

path_text_lacks : (path : List Branch) → Lacks blank (path_text path)
path_text_lacks [] = (refl, tt)
path_text_lacks (b ∷ bs) = path_lacks (b ∷ bs)

-- ---- a step

args_back : (args : List ℕ) → AreAll (λ n. n < 2 ^ 64) args → length args ≤ 2 → arguments_at (map decimal args) ≡ Some args
args_back [] are few = refl
args_back (a ∷ []) are few = ap (option_map (λ n. n ∷ [])) (a_number a are.0)
args_back (a ∷ b ∷ []) are few = ap (option_and_then (λ m. option_map (λ n. m ∷ n ∷ []) (number_at (decimal b)))) (a_number a are.0) ∙ ap (option_map (λ n. a ∷ n ∷ [])) (a_number b are.1.0)
args_back (a ∷ b ∷ c ∷ args) are few = absurd (omega arith)

-- the parts of a path and arguments
args_cut : (w : List ℕ) → Lacks blank w → (args : List ℕ) → AreAll (λ n. n < 2 ^ 64) args → slice_split blank (w ++ flat_map argument_text args) ≡ w ∷ map decimal args
args_cut w l [] are = ap (slice_split blank) (append-nil w) ∙ split_none blank w l
args_cut w l (a ∷ args) are = split_at blank w 32 (decimal a ++ flat_map argument_text args) l refl ∙ ap (λ ps. w ∷ ps) (args_cut (decimal a) (decimal_lacks a (wide a are.0)) args are.1)

-- a line whose first word starts with a branch_digit is a step's
module _ (entries : List PlanEntry) where
  step_line : (d : ℕ) (ds more : List ℕ) → is_ascii_digit d ≡ true → Lacks blank (d ∷ ds) → content_at entries ((d ∷ ds) ++ 32 ∷ more) ≡ option_map StepLine (step_at ((d ∷ ds) ∷ slice_split blank more))
  step_line d ds more e l =
      rw (digit_is d 101 e refl, digit_is d 116 e refl)
      (ap (λ o. after_word entries o (slice_split blank ((d ∷ ds) ++ 32 ∷ more))) (cut_at (d ∷ ds) more l)
      ∙ rw (digit_is d 102 e refl, digit_is d 111 e refl, split_at blank (d ∷ ds) 32 more l refl)
      (rw (digit_is d 99 e refl, digit_is d 102 e refl, digit_is d 110 e refl, digit_is d 104 e refl, digit_is d 109 e refl, digit_is d 108 e refl, digit_is d 115 e refl) refl))

  step_words : (s : Step) → IsStep s → step_at ((decimal s.rule ++ sign_of s.is_reverse) ∷ slice_split blank (path_text s.path ++ flat_map argument_text s.arguments)) ≡ Some s
  step_words s is =
      ap (λ ps. step_at ((decimal s.rule ++ sign_of s.is_reverse) ∷ ps)) (args_cut (path_text s.path) (path_text_lacks s.path) s.arguments is.arguments)
      ∙ ap (option_and_then (λ r. option_and_then (λ p. option_map (λ as_. let x : Step = record { rule = r.0; is_reverse = r.1; path = p; arguments = as_ } in x) (arguments_at (map decimal s.arguments))) (path_at (path_text s.path)))) (rule_back s.rule s.is_reverse is.rule)
      ∙ ap (option_and_then (λ p. option_map (λ as_. let x : Step = record { rule = s.rule; is_reverse = s.is_reverse; path = p; arguments = as_ } in x) (arguments_at (map decimal s.arguments)))) (path_back s.path)
      ∙ ap (option_map (λ as_. let x : Step = record { rule = s.rule; is_reverse = s.is_reverse; path = s.path; arguments = as_ } in x)) (args_back s.arguments is.arguments is.few)

  sign_lacks : (reverse : Bool) → Lacks blank (sign_of reverse)
  sign_lacks true = (refl, tt)
  sign_lacks false = tt

  pub step_back : (s : Step) → IsStep s → content_at entries (step_text s) ≡ Some (StepLine s)
  step_back s is =
      ap (content_at entries) (append_assoc (decimal s.rule ++ sign_of s.is_reverse ++ 32 ∷ []) (path_text s.path) (flat_map argument_text s.arguments) ∙ append_assoc (decimal s.rule ++ sign_of s.is_reverse) (32 ∷ []) (path_text s.path ++ flat_map argument_text s.arguments))
      ∙ go (decimal s.rule) refl (decimal_is_IsNumeral_wide s.rule (wide s.rule is.rule)).0.0 (decimal_digits s.rule (wide s.rule is.rule)) (decimal_lacks s.rule (wide s.rule is.rule)) (step_words s is)
    where
      more : List ℕ
      more = path_text s.path ++ flat_map argument_text s.arguments

      go : (w : List ℕ) → decimal s.rule ≡ w → 0 < length w → list_all is_ascii_digit w ≡ true → Lacks blank w → step_at ((w ++ sign_of s.is_reverse) ∷ slice_split blank (path_text s.path ++ flat_map argument_text s.arguments)) ≡ Some s
          → content_at entries ((w ++ sign_of s.is_reverse) ++ 32 ∷ (path_text s.path ++ flat_map argument_text s.arguments)) ≡ Some (StepLine s)
      go [] q some all l r = absurd (omega arith)
      go (d ∷ ds) q some all l r =
          step_line d (ds ++ sign_of s.is_reverse) more (and_parts (is_ascii_digit d) (list_all is_ascii_digit ds) all).0 (lacks_both entries blank (d ∷ ds) (sign_of s.is_reverse) l (sign_lacks s.is_reverse))
          ∙ ap (option_map StepLine) r

  -- a line in UTF-8
  pub utf8_line : (l : List ℕ) (x : Line) → IsUtf8 l → content_at entries l ≡ Some x → line_at entries l ≡ Some x
  utf8_line l x u e = rw (is_utf8-from_IsUtf8 l u) e
