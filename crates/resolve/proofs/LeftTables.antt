-- The tables of left joins go on the last comma item.
use Rattle.std.proofs.Common.{◌≡◌, ℕ, suc, ◌+◌, ◌-◌, ◌<◌, List, [], ◌∷◌, ◌++◌, length, map, get_or, append-nil, arith, refl, sym, ap, ◌∙◌}
use Rattle.std.proofs.lemmas.List.{get_or-map, length-map}
use Rattle.row_ast.specs.Ast as ast
use Rattle.resolve.specs.Entries.{JoinedTable, first_of_last, first_table, item_tables, joined, joined_by, last_first, left_table, tables_of}

joined_first : (first : ℕ) (j : ast.Join) → (joined_by first j).first ≡ first
joined_first first (ast.Inner table condition) = refl
joined_first first (ast.Cross table) = refl

-- the tables of one item
of_item : (first : ℕ) (js : List ast.Join) (t : JoinedTable) → t.first ≡ first → first_of_last (t ∷ map (joined_by first) js) ≡ first
of_item first [] t is = is
of_item first (j ∷ js) t is = of_item first js (joined_by first j) (joined_first first j)

-- those before others
before_others : (js : List JoinedTable) (k : JoinedTable) (ks : List JoinedTable) → first_of_last (js ++ k ∷ ks) ≡ first_of_last (k ∷ ks)
before_others [] k ks = refl
before_others (j ∷ []) k ks = refl
before_others (j ∷ i ∷ js) k ks = before_others (i ∷ js) k ks

of_items : (first : ℕ) (f : ast.FromItem) (fs : List ast.FromItem) → first_of_last (joined first (f ∷ fs)) ≡ last_first first (f ∷ fs)
of_items first f [] = ap first_of_last (append-nil (item_tables first f)) ∙ of_item first f.joins (first_table first f.first) refl
of_items first f (g ∷ more) =
    let next = first + length (item_tables first f) in
    before_others (item_tables first f) (first_table next g.first) (map (joined_by next) g.joins ++ joined (next + length (item_tables next g)) more) ∙ of_items next g more

first_is : (fs : List ast.FromItem) → first_of_last (joined 0 fs) ≡ last_first 0 fs
first_is [] = refl
first_is (f ∷ fs) = of_items 0 f fs

-- the last of some tables, as they are viewed
last_given : (js : List JoinedTable) (d : JoinedTable) → 0 < length js → (get_or js (length js - 1) d).first ≡ first_of_last js
last_given [] d some = absurd (omega arith)
last_given (j ∷ []) d some = refl
last_given (j ∷ k ∷ js) d some =
    let next : length (j ∷ k ∷ js) - 1 ≡ suc (length (k ∷ js) - 1) = omega arith in
    ap (λ n. (get_or (j ∷ k ∷ js) n d).first) next ∙ last_given (k ∷ js) d (omega arith)

pub last_viewed : {X : Type 0} (v : X → JoinedTable) (xs : List X) (x : X) → 0 < length xs → x ≡ get_or xs (length xs - 1) x → (v x).first ≡ first_of_last (map v xs)
last_viewed v xs x some is =
    let as_many = length-map xs v in
    ap (λ y. (v y).first) is
    ∙ ap (λ j. j.first) (sym (get_or-map v xs (length xs - 1) x (v x) (omega (arith, some))))
    ∙ ap (λ n. (get_or (map v xs) (n - 1) (v x)).first) (sym as_many)
    ∙ last_given (map v xs) (v x) (omega (arith, some, as_many))

-- the tables of comma items, and then those of left joins
pub all_tables : (q : ast.Query) (before after : List JoinedTable) (first : ℕ) → before ≡ joined 0 q.from → first ≡ first_of_last before → after ≡ before ++ map (left_table first) q.lefts → after ≡ tables_of q
all_tables q before after first b f a = rw (a, f, b, first_is q.from) refl
