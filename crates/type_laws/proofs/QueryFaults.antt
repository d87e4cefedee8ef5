-- The checks of a query find the least offsets of the faults of its clauses.
use Rattle.std.proofs.Common.{◌≡◌, ℕ, ◌+◌, Bool, false, List, [], ◌∷◌, ◌++◌, flat_map, Option, Some, None, refl, sym, ap₂, ◌∙◌}
use Rattle.row_ast.specs.Ast as ast
use Rattle.value.specs.declared.types.ColType.TheVariants.{Boolean}
use Rattle.expr.specs.declared.bound.ColumnId.{ColumnId}
use Rattle.scope.specs.declared.lookup.Scope.{Scope}
use Rattle.scope.specs.Entry.{Entry}
use Rattle.scope.specs.Lookup.{everywhere, on_scope}
use Rattle.expr.specs.Offsets.{least_of}
use Rattle.typing.specs.Grouping.{misplaced}
use Rattle.typing.specs.Typing.{fits, type_if, typed, typed_condition}
use Rattle.typing.specs.Clauses.{every_grouped, first_fault, is_grouped, misplaced_condition, misplaced_in, misplaced_ons, misplaced_select, misplaced_star, mistyped, mistyped_condition, mistyped_in, mistyped_ons, mistyped_select}
use Rattle.type_laws.specs.Faults.{QueryFaultIsLeast, misplacements, misplacements_in, misplacements_of_condition, misplacements_of_select, mistypings, mistypings_in, mistypings_of_condition, mistypings_of_ons, mistypings_of_select}
use Rattle.type_laws.proofs.Leasts.{least_each, least_in, least_one, least_two}
use Rattle.type_laws.proofs.Misplacements.{misplaced_least}
use Rattle.type_laws.proofs.Mistypings.{mistyped_least, mistyped_at, mistyped_is_least, operation_least}

-- of four parts
least_four : (a b c d : Option ℕ) (as_ bs cs ds : List ℕ) → a ≡ least_in as_ → b ≡ least_in bs → c ≡ least_in cs → d ≡ least_in ds → least_of a (least_of b (least_of c d)) ≡ least_in (as_ ++ (bs ++ (cs ++ ds)))
least_four a b c d as_ bs cs ds h k l m =
    least_two a (least_of b (least_of c d)) as_ (bs ++ (cs ++ ds)) h (least_two b (least_of c d) bs (cs ++ ds) k (least_two c d cs ds l m))

module _ (entries : List Entry) where
  -- ---- misplaced parts

  module _ (group_by : List ColumnId) where
    select_misplaced : (g : Bool) (s : ast.SelectList) → misplaced_select entries group_by g s ≡ least_in (misplacements_of_select entries group_by g s)
    select_misplaced g (ast.All offset) = sym (least_one (misplaced_star g (every_grouped group_by 0 entries) offset))
    select_misplaced g (ast.Items items) = least_each (λ i. misplaced entries (everywhere entries) group_by g i.value) (λ i. misplacements entries (everywhere entries) group_by g i.value) (λ i. misplaced_least entries (everywhere entries) group_by g i.value) items

    condition_misplaced : (g : Bool) (c : Option ast.Condition) → misplaced_condition entries group_by g c ≡ least_in (misplacements_of_condition entries group_by g c)
    condition_misplaced g None = refl
    condition_misplaced g (Some c) = misplaced_least entries (everywhere entries) group_by g c.predicate

    ons_misplaced : misplaced_ons entries group_by ≡ least_in (flat_map (λ e. misplacements_of_condition entries group_by false e.on) entries)
    ons_misplaced = least_each (λ e. misplaced_condition entries group_by false e.on) (λ e. misplacements_of_condition entries group_by false e.on) (λ e. condition_misplaced false e.on) entries

    query_misplaced : (q : ast.Query) → misplaced_in entries group_by q ≡ least_in (misplacements_in entries group_by q)
    query_misplaced q =
        let g : Bool = is_grouped entries q in
        least_four (misplaced_select entries group_by g q.select) (misplaced_ons entries group_by) (misplaced_condition entries group_by false q.filter) (misplaced_condition entries group_by g q.having)
        (misplacements_of_select entries group_by g q.select) (flat_map (λ e. misplacements_of_condition entries group_by false e.on) entries) (misplacements_of_condition entries group_by false q.filter)
        (misplacements_of_condition entries group_by g q.having) (select_misplaced g q.select) ons_misplaced (condition_misplaced false q.filter) (condition_misplaced g q.having)

  -- ---- mistyped operations

  select_mistyped : (s : ast.SelectList) → mistyped_select entries s ≡ least_in (mistypings_of_select entries s)
  select_mistyped (ast.All offset) = refl
  select_mistyped (ast.Items items) = least_each (λ i. mistyped (typed entries (everywhere entries) i.value)) (λ i. mistypings entries (everywhere entries) i.value) (λ i. mistyped_is_least entries (everywhere entries) i.value) items

  condition_mistyped : (scope : Scope) (c : Option ast.Condition) → mistyped_condition entries scope c ≡ least_in (mistypings_of_condition entries scope c)
  condition_mistyped scope None = refl
  condition_mistyped scope (Some c) =
      mistyped_at (typed_condition entries scope c.offset c.predicate)
      ∙ operation_least (λ t. type_if c.offset (fits Boolean t) t) (typed entries scope c.predicate) (mistypings entries scope c.predicate) (mistyped_least entries scope c.predicate)

  ons_mistyped : (number : ℕ) (es : List Entry) → mistyped_ons entries number es ≡ least_in (mistypings_of_ons entries number es)
  ons_mistyped number [] = refl
  ons_mistyped number (e ∷ more) =
      least_two (mistyped_condition entries (on_scope number e) e.on) (mistyped_ons entries (number + 1) more) (mistypings_of_condition entries (on_scope number e) e.on) (mistypings_of_ons entries (number + 1) more)
      (condition_mistyped (on_scope number e) e.on) (ons_mistyped (number + 1) more)

  query_mistyped : (q : ast.Query) → mistyped_in entries q ≡ least_in (mistypings_in entries q)
  query_mistyped q =
      least_four (mistyped_select entries q.select) (mistyped_ons entries 0 entries) (mistyped_condition entries (everywhere entries) q.filter) (mistyped_condition entries (everywhere entries) q.having)
      (mistypings_of_select entries q.select) (mistypings_of_ons entries 0 entries) (mistypings_of_condition entries (everywhere entries) q.filter) (mistypings_of_condition entries (everywhere entries) q.having)
      (select_mistyped q.select) (ons_mistyped 0 entries) (condition_mistyped (everywhere entries) q.filter) (condition_mistyped (everywhere entries) q.having)

pub query_fault_is_least : QueryFaultIsLeast
query_fault_is_least entries group_by q = ap₂ first_fault (query_misplaced entries group_by q) (query_mistyped entries q)
