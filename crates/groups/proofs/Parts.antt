-- Groups part the members by their keys.
use Rattle.std.proofs.Common.{◌≡◌, false, List, [], ◌∷◌, ◌++◌, map, refl, sym, ap, subst, Ordering, Less, Equal, Greater, is_eq, IsPermutation}
use Rattle.std.specs.List.{IsDistinct, flat_map}
use Rattle.std.specs.Ordering.{match_ordering}
use Rattle.std.proofs.lemmas.List.{append-nil, append_assoc, map-append}
use Rattle.std.proofs.lemmas.List.Sorted.{IsPermutation-refl, IsPermutation-sym, IsPermutation-trans, IsPermutation-cons, IsPermutation-middle, IsPermutation-append_right, IsPermutation-to_front}
use Rattle.bags.proofs.Order.{all_weaker}
use Rattle.value.specs.Datum.{Row}
use Rattle.value.specs.Orders.{row_cmp}
use Rattle.expr.specs.declared.bound.ColumnId.{ColumnId}
use Rattle.groups.specs.Members.{Member}
use Rattle.groups.specs.Groups.{Group, same_key, group_with, classes, groups_of}
use Rattle.groups.specs.Classes.{grouped, put}
use Rattle.groups.proofs.KeyLaws.{Rise, each_key, each_rises}
use Rattle.groups.proofs.ClassLaws.{classes_more}

-- ---- no key twice

distinct : (ks : List Row) → Rise ks → IsDistinct same_key ks
unfolding IsDistinct
distinct [] up = tt
distinct (k ∷ ks) up = (all_weaker _ (λ l. same_key k l ≡ false) (λ l e. ap is_eq e) ks up.0, distinct ks up.1)

-- the keys of the groups of some keys
keys_with : (ms : List Member) (ks : List Row) → map (λ g. g.key) (map (group_with ms) ks) ≡ ks
keys_with ms [] = refl
keys_with ms (k ∷ ks) = ap (λ l. k ∷ l) (keys_with ms ks)

pub keys_differ : (columns : List ColumnId) (members : List Member) → IsDistinct same_key (map (λ g. g.key) (groups_of columns members))
unfolding IsDistinct
keys_differ [] members = (tt, tt)
keys_differ (column ∷ columns) members = subst (IsDistinct same_key) (sym (keys_with members (each_key members))) (distinct (each_key members) (each_rises members))

-- ---- no member is lost

abbrev all_members : List Group → List Row
all_members gs = flat_map (λ g. g.members) gs

all_with : (m : Member) (gs : List Group) → IsPermutation (all_members (put m gs)) (m.arguments ∷ all_members gs)
all_with m [] = IsPermutation-refl _
all_with m (g ∷ gs) = go (row_cmp m.key g.key) (all_with m gs)
  where
    go : (o : Ordering) → IsPermutation (all_members (put m gs)) (m.arguments ∷ all_members gs) →
        IsPermutation (all_members (match_ordering o (grouped m.key (m.arguments ∷ []) ∷ g ∷ gs) (grouped g.key (g.members ++ m.arguments ∷ []) ∷ gs) (g ∷ put m gs))) (m.arguments ∷ (g.members ++ all_members gs))
    go Less more = IsPermutation-refl _
    go Equal more = subst (λ l. IsPermutation l (m.arguments ∷ (g.members ++ all_members gs))) (sym (append_assoc g.members (m.arguments ∷ []) (all_members gs))) (IsPermutation-middle g.members m.arguments (all_members gs))
    go Greater more =
        IsPermutation-trans _ (g.members ++ m.arguments ∷ all_members gs) _ (IsPermutation-append_right g.members (all_members (put m gs)) (m.arguments ∷ all_members gs) more)
        (IsPermutation-middle g.members m.arguments (all_members gs))

abbrev none_lost : List Member → Type 0
none_lost ms = IsPermutation (all_members (classes ms)) (map (λ m. m.arguments) ms)

one_more : (ms : List Member) (m : Member) → none_lost ms → none_lost (ms ++ m ∷ [])
one_more ms m h =
    let rows = map (λ (n : Member). n.arguments) ms in
    let put_in : IsPermutation (all_members (put m (classes ms))) (rows ++ m.arguments ∷ []) =
    IsPermutation-trans _ (m.arguments ∷ all_members (classes ms)) _ (all_with m (classes ms))
    (IsPermutation-trans _ (m.arguments ∷ rows) _ (IsPermutation-cons m.arguments (all_members (classes ms)) rows h) (IsPermutation-sym _ _ (IsPermutation-to_front rows m.arguments))) in
    subst (λ l. IsPermutation (all_members (classes (ms ++ m ∷ []))) l) (sym (map-append (λ (n : Member). n.arguments) ms (m ∷ [])))
    (subst (λ gs. IsPermutation (all_members gs) (rows ++ m.arguments ∷ [])) (sym (classes_more ms m)) put_in)

after_some : (done ms : List Member) → none_lost done → none_lost (done ++ ms)
after_some done [] h = subst none_lost (sym (append-nil done)) h
after_some done (m ∷ ms) h = subst none_lost (append_assoc done (m ∷ []) ms) (after_some (done ++ m ∷ []) ms (one_more done m h))

pub no_member_lost : (columns : List ColumnId) (members : List Member) → IsPermutation (flat_map (λ g. g.members) (groups_of columns members)) (map (λ m. m.arguments) members)
no_member_lost [] members = subst (λ l. IsPermutation l (map (λ m. m.arguments) members)) (sym (append-nil (map (λ m. m.arguments) members))) (IsPermutation-refl _)
no_member_lost (column ∷ columns) members = after_some [] members (IsPermutation-refl _)
