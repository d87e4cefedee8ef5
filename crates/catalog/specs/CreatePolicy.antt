-- CREATE POLICY name ON table [AS RESTRICTIVE] TO roles USING (predicate).
use Rattle.std.specs.Prelude.{◌≡◌, ◌⊎◌, ℕ, true, not, List, [], ◌∷◌, Option, Some, None, option_map, Result, Ok, Err}
use Rattle.std.specs.List.{list_all}
use Rattle.value.specs.declared.refusal.Refusal.{Refusal}
use Rattle.value.specs.declared.refusal.Refusal.TheVariants as r
use Rattle.value.specs.Names.{Name}
use Rattle.row_ast.specs.Ast.{CreatePolicy}
use Rattle.expr.specs.Bound.{BoundExpr}
use Rattle.row_objects.specs.Objects.{Table}
use Rattle.row_objects.specs.Policies.{has_policy, has_policy_room, new_policy}
use Rattle.scope.specs.declared.error.BindError.{BindError}
use Rattle.row_objects.specs.TableChanges.{with_new_policy}
use Rattle.catalog.specs.PolicyPredicate.{bound_predicate, checks_predicate}
use Rattle.catalog.specs.Catalog.{Catalog, is_known, owns, table_named, table_index}
use Rattle.catalog.specs.Checks.{Check, if_found, with_table}

-- ---- checks

abbrev pub checks_create_policy : Catalog → Name → CreatePolicy → List Check
checks_create_policy cat actor p = if_found ((true, r.UndefinedTable) ∷ []) (λ t.
    (not (owns cat actor t), r.InsufficientPrivilege)
    ∷ (not (list_all (is_known cat) p.roles), r.UndefinedObject)
    ∷ (has_policy t.policies p.name, r.DuplicateObject)
    ∷ checks_predicate (has_policy_room cat.tables) t p.predicate) (table_named p.table cat)

-- the checks of the statement found a refusal, or none, the index of the table, and the bound condition, unless memory
-- ran out
abbrev pub CheckedPolicy : Result (ℕ × BoundExpr) Refusal → Option Refusal → Catalog → CreatePolicy → Type 0
CheckedPolicy (Err why) refusal cat p = (why ≡ r.OutOfMemory) ⊎ (refusal ≡ Some why)
CheckedPolicy (Ok found) refusal cat p =
    (refusal ≡ None) × (table_index p.table cat ≡ Some found.0) × (option_map (λ t. bound_predicate t p.predicate) (table_named p.table cat) ≡ Some (Ok found.1))

-- ---- effect

-- a condition whose names do not resolve is refused, and does not come this far
abbrev pub with_bound : CreatePolicy → Table → Result BoundExpr BindError → Table
with_bound p t (Ok e) = with_new_policy (new_policy p e) t
with_bound p t (Err fault) = t

-- one more policy at the end, with the bound condition
abbrev pub with_policy : CreatePolicy → Table → Table
with_policy p t = with_bound p t (bound_predicate t p.predicate)

abbrev pub after_create_policy : Catalog → CreatePolicy → Catalog
after_create_policy cat p = with_table cat p.table (with_policy p)
