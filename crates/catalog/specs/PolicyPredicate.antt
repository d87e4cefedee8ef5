-- The condition of a policy: USING (predicate).
use Rattle.std.specs.Prelude.{◌≡◌, ◌⊎◌, Bool, true, not, List, [], ◌∷◌, Option, Some, None, Result, Ok, Err}
use Rattle.value.specs.declared.refusal.Refusal.{Refusal}
use Rattle.value.specs.declared.refusal.Refusal.TheVariants as r
use Rattle.row_ast.specs.Ast.{Expr}
use Rattle.expr.specs.Bound.{BoundExpr}
use Rattle.expr.specs.Movable.{movable}
use Rattle.row_objects.specs.Objects.{Table}
use Rattle.scope.specs.declared.error.BindError.{BindError}
use Rattle.scope.specs.Entry.{Entry}
use Rattle.scope.specs.Lookup.{everywhere}
use Rattle.scope.specs.BoundExprs.{bound_expr}
use Rattle.typing.specs.Clauses.{condition_error}
use Rattle.catalog.specs.PredicateChecks.{Check}

-- the condition has the table alone in scope, under its own name
abbrev pub policy_entry : Table → Entry
policy_entry t = record { table = t; alias = t.name; first = 0; on = None }

abbrev pub policy_entries : Table → List Entry
policy_entries t = policy_entry t ∷ []

-- the condition with each column found, or its first name that does not resolve
abbrev pub bound_predicate : Table → Expr → Result BoundExpr BindError
bound_predicate t e = bound_expr (policy_entries t) (everywhere (policy_entries t)) e

-- its aggregates and types; the statement is refused with no offset
abbrev pub predicate_fault : Table → Expr → Option BindError
predicate_fault t e = condition_error (policy_entries t) 0 e

-- names, aggregates and types, that it never faults, and that there is room for one more policy
abbrev pub checks_bound : Bool → Result BoundExpr BindError → Option BindError → List Check
checks_bound has_room (Err fault) mistake = (true, fault.code) ∷ []
checks_bound has_room (Ok bound) (Some fault) = (true, fault.code) ∷ []
checks_bound has_room (Ok bound) None =
    (not (movable bound), r.InvalidObjectDefinition)
    ∷ (not has_room, r.ProgramLimitExceeded) ∷ []

abbrev pub checks_predicate : Bool → Table → Expr → List Check
checks_predicate has_room t e = checks_bound has_room (bound_predicate t e) (predicate_fault t e)

-- the checks found a refusal, or none and the bound condition, unless memory ran out
abbrev pub CheckedPredicate : Result BoundExpr Refusal → Option Refusal → Result BoundExpr BindError → Type 0
CheckedPredicate (Err why) refusal bound = (why ≡ r.OutOfMemory) ⊎ (refusal ≡ Some why)
CheckedPredicate (Ok e) refusal bound = (refusal ≡ None) × (bound ≡ Ok e)
