-- The aggregates of a group are those of the rows of its class.
use Rattle.std.proofs.Common.{◌≡◌, ℕ, zero, suc, ◌+◌, Bool, true, false, cond, List, [], ◌∷◌, map, filter, nat_eq, Option, Some, None, Result, Ok, Err, refl, sym, ap, ap₂, subst, ◌∙◌, arith}
use Rattle.std.specs.Prelude.{slice_index_or}
use Rattle.std.specs.List.{All, AllZip, cons_option, filter_map, slice_get}
use Rattle.std.proofs.lemmas.Bool.{eq-eqb, eqb-true}
use Rattle.std.proofs.lemmas.List.Elements.{All-cons, All-head, All-nil, All-tail}
use Rattle.std.proofs.lemmas.Option.{get_or_from_slice_get, slice_get-get_or, slice_get_within}
use Rattle.bags.specs.Least.{least, lesser}
use Rattle.memory.specs.Results.{first_then}
use Rattle.memory.proofs.Cases.{ok_is, some_is, some_is_not}
use Rattle.value.specs.Datum.{Datum, Row, cell}
use Rattle.value.specs.declared.faults.Fault.{Fault}
use Rattle.value.specs.Names.{Name}
use Rattle.expr.specs.declared.bound.ColumnId.{ColumnId}
use Rattle.expr.specs.Aggregates.{AggregateCall}
use Rattle.eval.specs.Meaning.{Cells}
use Rattle.groups.specs.Stages.{fault_cmp, fault_in, given_in, gives, stage, unless_fault}
use Rattle.groups.specs.Aggregates.{aggregate_of, not_null, totals, values_at}
use Rattle.groups.specs.ClassValues.{AggregatesOfClasses, AreMembers, CountsEachRow, HaveOffsets, argument_values, class_of, value_in}
use Rattle.groups.specs.Groups.{Group, all_in_one, group_with, groups_of, has_key, same_key}
use Rattle.groups.specs.GroupRow.{GroupRow, group_row, total_at, with_totals}
use Rattle.groups.specs.Members.{Member, argument, arguments, key_on, with_key}

-- ---- a stage that has no fault

pub no_least : (f : Fault) (o : Option Fault) → lesser fault_cmp (Some f) o ≡ None → ⊥
no_least f None e = some_is_not f e
no_least f (Some g) e = cc

stage_given : {Y : Type 0} (o : Option Fault) (given ys : List Y) → unless_fault o given ≡ Ok ys → (o ≡ None) × (given ≡ ys)
stage_given None given ys e = (refl, ok_is given ys e)
stage_given (Some f) given ys e = absurd (cc)

module _ {X Y : Type 0} (f : X → Result Y Fault) where
  abbrev fates : List X → List (Result (Option Y) Fault)
  fates xs = map (λ x. gives (f x)) xs

  all_given : (xs : List X) → least fault_cmp (filter_map fault_in (fates xs)) ≡ None → AllZip (λ x y. f x ≡ Ok y) xs (filter_map given_in (fates xs))
  all_given [] e = tt
  all_given (x ∷ xs) e = go (f x) refl (all_given xs) e
    where
      go : (r : Result Y Fault) → f x ≡ r → (least fault_cmp (filter_map fault_in (fates xs)) ≡ None → AllZip (λ x y. f x ≡ Ok y) xs (filter_map given_in (fates xs)))
          → least fault_cmp (cons_option (fault_in (gives r)) (filter_map fault_in (fates xs))) ≡ None → AllZip (λ x y. f x ≡ Ok y) (x ∷ xs) (cons_option (given_in (gives r)) (filter_map given_in (fates xs)))
      go (Ok y) is rest e = (is, rest e)
      go (Err fault) is rest e = absurd (no_least fault (least fault_cmp (filter_map fault_in (fates xs))) e)

  each_given : (xs : List X) (ys : List Y) → stage (fates xs) ≡ Ok ys → AllZip (λ x y. f x ≡ Ok y) xs ys
  each_given xs ys e =
      let it = stage_given (least fault_cmp (filter_map fault_in (fates xs))) (filter_map given_in (fates xs)) ys e in
      subst (AllZip (λ x y. f x ≡ Ok y) xs) it.1 (all_given xs it.0)

-- ---- two lists, element by element

zipped : {X Y : Type 0} (R : X → Y → Type 0) (P : X → Type 0) (Q : Y → Type 0) → ((x : X) (y : Y) → R x y → P x → Q y) → (xs : List X) (ys : List Y) → AllZip R xs ys → All P xs → All Q ys
zipped R P Q h [] [] z p = All-nil Q
zipped R P Q h [] (y ∷ ys) z p = absurd z
zipped R P Q h (x ∷ xs) [] z p = absurd z
zipped R P Q h (x ∷ xs) (y ∷ ys) z p = All-cons Q y ys (h x y z.0 (All-head P x xs p)) (zipped R P Q h xs ys z.1 (All-tail P x xs p))

-- ---- values one after another

both_given : {X : Type 0} (r : Result X Fault) (rs : Result (List X) Fault) (xs : List X) → first_then r rs ≡ Ok xs → (x : X) × (more : List X) × (r ≡ Ok x) × (rs ≡ Ok more) × (x ∷ more ≡ xs)
both_given (Ok x) (Ok more) xs e = (x, more, refl, refl, ok_is (x ∷ more) xs e)
both_given (Ok x) (Err fault) xs e = absurd (cc)
both_given (Err fault) rs xs e = absurd (cc)

-- the total of each aggregate
each_total : (calls : List AggregateCall) (index : ℕ) (members : List Row) (ts : Row) → totals calls index members ≡ Ok ts → (j : ℕ) (c : AggregateCall) → slice_get calls j ≡ Some c →
    (d : Datum) × (slice_get ts j ≡ Some d) × (aggregate_of c.aggregate c.offset (values_at (index + j) members) ≡ Ok d)
each_total [] index members ts e j c at = absurd (cc)
each_total (x ∷ calls) index members ts e zero c at =
    let it = both_given (aggregate_of x.aggregate x.offset (values_at index members)) (totals calls (index + 1) members) ts e in
    let same : x ≡ c = some_is x c at in
    let here : index ≡ index + 0 = omega arith in
    (it.0, ap (λ ts. slice_get ts 0) (sym it.4), subst (λ n. aggregate_of c.aggregate c.offset (values_at n members) ≡ Ok it.0) here (subst (λ (y : AggregateCall). aggregate_of y.aggregate y.offset (values_at index members) ≡ Ok it.0) same it.2))
each_total (x ∷ calls) index members ts e (suc j) c at =
    let it = both_given (aggregate_of x.aggregate x.offset (values_at index members)) (totals calls (index + 1) members) ts e in
    let rest = each_total calls (index + 1) members it.1 it.3 j c at in
    let next : index + 1 + j ≡ index + suc j = omega arith in
    (rest.0, ap (λ ts. slice_get ts (suc j)) (sym it.4) ∙ rest.1, subst (λ n. aggregate_of c.aggregate c.offset (values_at n members) ≡ Ok rest.0) next rest.2)

-- the total at the offset of an aggregate is its own
total_there : (calls : List AggregateCall) (ts : Row) (j : ℕ) (c : AggregateCall) (d : Datum) → HaveOffsets calls → slice_get calls j ≡ Some c → slice_get ts j ≡ Some d → total_at calls ts c.offset ≡ d
total_there [] ts j c d h at there = absurd (cc)
total_there (x ∷ calls) [] j c d h at there = absurd (cc)
total_there (x ∷ calls) (y ∷ ts) zero c d h at there =
    let same : x.offset ≡ c.offset = ap (λ (x : AggregateCall). x.offset) (some_is x c at) in
    rw (eq-eqb x.offset c.offset same) (some_is y d there)
total_there (x ∷ calls) (y ∷ ts) (suc j) c d h at there = go (nat_eq x.offset c.offset) refl (total_there calls ts j c d (λ i k e l m. h (suc i) (suc k) e (omega arith) (omega arith)) at there)
  where
    other : x.offset ≡ c.offset → ⊥
    other same =
        let l = slice_get_within calls j c at in
        let is : slice_index_or calls j c ≡ c = get_or_from_slice_get calls j c c at in
        h 0 (suc j) c (omega arith) (omega arith) (same ∙ ap (λ (c : AggregateCall). c.offset) (sym is))

    go : (b : Bool) → nat_eq x.offset c.offset ≡ b → total_at calls ts c.offset ≡ d → cond b y (total_at calls ts c.offset) ≡ d
    go true is rest = absurd (other (eqb-true x.offset c.offset is))
    go false is rest = rest

-- ---- the arguments of members

module _ (role : Name) where
  argument_at : (cells : Cells) (calls : List AggregateCall) (args : Row) → arguments cells role calls ≡ Ok args → (j : ℕ) (c : AggregateCall) → slice_get calls j ≡ Some c → not_null (cell args j) ≡ value_in (argument cells role c.argument)
  argument_at cells [] args e j c at = absurd (cc)
  argument_at cells (x ∷ calls) args e zero c at =
      let it = both_given (argument cells role x.argument) (arguments cells role calls) args e in
      let same : x ≡ c = some_is x c at in
      ap (λ args. not_null (cell args 0)) (sym it.4) ∙ sym (ap value_in it.2) ∙ ap (λ (x : AggregateCall). value_in (argument cells role x.argument)) same
  argument_at cells (x ∷ calls) args e (suc j) c at =
      let it = both_given (argument cells role x.argument) (arguments cells role calls) args e in
      ap (λ args. not_null (cell args (suc j))) (sym it.4) ∙ argument_at cells calls it.1 it.3 j c at

  member_given : (key : Row) (r : Result Row Fault) (m : Member) → with_key key r ≡ Ok m → (key ≡ m.key) × (r ≡ Ok m.arguments)
  member_given key (Ok args) m e =
      let same = ok_is (record { key = key; arguments = args }) m e in
      (ap (λ (m : Member). m.key) same, ap (λ (m : Member). Ok m.arguments) same)
  member_given key (Err fault) m e = absurd (cc)

  module _ (columns : List ColumnId) (calls : List AggregateCall) (j : ℕ) (c : AggregateCall) (at : slice_get calls j ≡ Some c) where
    class_values : (key : Row) (rows : List Cells) (members : List Member) → AreMembers role columns calls rows members →
        values_at j (map (λ m. m.arguments) (filter (has_key key) members)) ≡ argument_values role c.argument (class_of columns key rows)
    class_values key [] [] z = refl
    class_values key [] (m ∷ members) z = absurd z
    class_values key (r ∷ rows) [] z = absurd z
    class_values key (r ∷ rows) (m ∷ members) z = ap (λ b. values_at j (map (λ m. m.arguments) (cond b (m ∷ filter (has_key key) members) (filter (has_key key) members)))) same ∙ go (same_key (key_on r columns) key) (class_values key rows members z.1)
      where
        same : has_key key m ≡ same_key (key_on r columns) key
        same = ap (λ k. same_key k key) (sym (member_given (key_on r columns) (arguments r role calls) m z.0).0)

        go : (b : Bool) → values_at j (map (λ m. m.arguments) (filter (has_key key) members)) ≡ argument_values role c.argument (class_of columns key rows)
            → values_at j (map (λ m. m.arguments) (cond b (m ∷ filter (has_key key) members) (filter (has_key key) members))) ≡ argument_values role c.argument (cond b (r ∷ class_of columns key rows) (class_of columns key rows))
        go true rest = ap₂ cons_option (argument_at r calls m.arguments (member_given (key_on r columns) (arguments r role calls) m z.0).1 j c at) rest
        go false rest = rest

-- ---- the groups

-- its members are those that have its key
abbrev IsOfClass : List Member → Group → Type 0
IsOfClass members g = g.members ≡ map (λ m. m.arguments) (filter (has_key g.key) members)

one_class : (role : Name) (calls : List AggregateCall) (rows : List Cells) (members : List Member) → AreMembers role [] calls rows members → filter (has_key []) members ≡ members
one_class role calls [] [] z = refl
one_class role calls [] (m ∷ members) z = absurd z
one_class role calls (r ∷ rows) [] z = absurd z
one_class role calls (r ∷ rows) (m ∷ members) z =
    let none : has_key [] m ≡ true = ap (λ k. same_key k []) (sym (member_given role [] (arguments r role calls) m z.0).0) in
    ap (λ b. cond b (m ∷ filter (has_key []) members) (filter (has_key []) members)) none ∙ ap (λ ms. m ∷ ms) (one_class role calls rows members z.1)

each_class : (members : List Member) (ks : List Row) → All (IsOfClass members) (map (group_with members) ks)
each_class members [] = All-nil (IsOfClass members)
each_class members (k ∷ ks) = All-cons (IsOfClass members) (group_with members k) (map (group_with members) ks) refl (each_class members ks)

of_classes : (role : Name) (columns : List ColumnId) (calls : List AggregateCall) (rows : List Cells) (members : List Member) → AreMembers role columns calls rows members → All (IsOfClass members) (groups_of columns members)
of_classes role [] calls rows members z = All-cons (IsOfClass members) (all_in_one members) [] (ap (map (λ m. m.arguments)) (sym (one_class role calls rows members z))) (All-nil (IsOfClass members))
of_classes role (column ∷ columns) calls rows members z = each_class members _

-- ---- the laws

row_given : (key : Row) (r : Result Row Fault) (g : GroupRow) → with_totals key r ≡ Ok g → (key ≡ g.key) × (r ≡ Ok g.totals)
row_given key (Ok ts) g e =
    let same = ok_is (record { key = key; totals = ts }) g e in
    (ap (λ (g : GroupRow). g.key) same, ap (λ (g : GroupRow). Ok g.totals) same)
row_given key (Err fault) g e = absurd (cc)

module _ (role : Name) (columns : List ColumnId) (calls : List AggregateCall) (rows : List Cells) (members : List Member) (offsets : HaveOffsets calls) (z : AreMembers role columns calls rows members) where
  abbrev IsOfItsClass : GroupRow → Type 0
  IsOfItsClass g = All (λ call. aggregate_of call.aggregate call.offset (argument_values role call.argument (class_of columns g.key rows)) ≡ Ok (total_at calls g.totals call.offset)) calls

  one_group : (group : Group) (g : GroupRow) → group_row calls group ≡ Ok g → IsOfClass members group → IsOfItsClass g
  one_group group g e is k d l =
      let given = row_given group.key (totals calls 0 group.members) g e in
      let c = slice_index_or calls k d in
      let at : slice_get calls k ≡ Some c = slice_get-get_or calls k d l in
      let total = each_total calls 0 group.members g.totals given.1 k c at in
      let here : 0 + k ≡ k = omega arith in
      let values : values_at (0 + k) group.members ≡ argument_values role c.argument (class_of columns g.key rows) =
      ap (λ n. values_at n group.members) here ∙ ap (values_at k) is ∙ class_values role columns calls k c at group.key rows members z ∙ ap (λ key. argument_values role c.argument (class_of columns key rows)) given.0 in
      ap (aggregate_of c.aggregate c.offset) (sym values) ∙ total.2 ∙ ap (λ d. Ok d) (sym (total_there calls g.totals k c total.0 offsets at total.1))

pub aggregates_of_classes : AggregatesOfClasses
aggregates_of_classes role columns calls rows members groups offsets z e =
    zipped (λ (group : Group) (g : GroupRow). group_row calls group ≡ Ok g) (IsOfClass members) (IsOfItsClass role columns calls rows members offsets z) (one_group role columns calls rows members offsets z)
    (groups_of columns members) groups (each_given (group_row calls) (groups_of columns members) groups e) (of_classes role columns calls rows members z)

pub counts_each_row : CountsEachRow
counts_each_row role [] = refl
counts_each_row role (r ∷ rows) = ap (λ n. suc n) (counts_each_row role rows)
