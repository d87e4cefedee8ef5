use Rattle.std.proofs.Common.{◌≡◌, ◌⊎◌, inr, ℕ, Bool, true, false, List, Some, None, Ok, refl, sym, ap}
use Rattle.std.specs.List.{list_all}
use Rattle.value.specs.declared.refusal.Refusal.{Refusal}
use Rattle.value.specs.declared.refusal.Refusal.TheVariants as r
use Rattle.row_ast.specs.Ast.{CreatePolicy, Expr}
use Rattle.value.specs.Names.{Name}
use Rattle.row_ast.specs.View.{create_policy_of, expr_of}
use Rattle.expr.specs.Bound.{BoundExpr}
use Rattle.row_objects.specs.Objects.{Policy, Table}
use Rattle.row_objects.specs.Policies.{has_policy, has_policy_room}
use Rattle.row_objects.specs.View.{table_of}
use Rattle.catalog.specs.PolicyPredicate.{bound_predicate, checks_predicate}
use Rattle.catalog.specs.Catalog.{Catalog, is_known, owns, table_named, table_index}
use Rattle.catalog.specs.Checks.{first_refusal}
use Rattle.catalog.specs.CreatePolicy.{checks_create_policy, CheckedPolicy}
use Rattle.catalog.proofs.create_policy.check_create_policy.Goals as goal

module _ (cat : Catalog) (actor : Name) (p : CreatePolicy) (name : Name) (is : name ≡ p.table) where
  no_table : None ≡ table_named name cat → first_refusal (checks_create_policy cat actor p) ≡ Some r.UndefinedTable
  no_table none = rw (← is, ← none) refl

  module _ (t : Table) (found : Some t ≡ table_named name cat) where
    no_owner : false ≡ owns cat actor t → first_refusal (checks_create_policy cat actor p) ≡ Some r.InsufficientPrivilege
    no_owner other = rw (← is, ← found, ← other) refl

    module _ (owner : true ≡ owns cat actor t) (roles : List Name) (same : roles ≡ p.roles) where
      no_roles : false ≡ list_all (is_known cat) roles → first_refusal (checks_create_policy cat actor p) ≡ Some r.UndefinedObject
      no_roles unknown = rw (← is, ← found, ← owner, ← same, ← unknown) refl

      module _ (known : true ≡ list_all (is_known cat) roles) (policies : List Policy) (its : policies ≡ t.policies) (new : Name) (named : new ≡ p.name) where
        named_twice : true ≡ has_policy policies new → first_refusal (checks_create_policy cat actor p) ≡ Some r.DuplicateObject
        named_twice taken = rw (← is, ← found, ← owner, ← same, ← known, ← its, ← named, ← taken) refl

        module _ (free : false ≡ has_policy policies new) (e : Expr) (condition : e ≡ p.predicate) (room : Bool) (has_room : room ≡ has_policy_room cat.tables) where
          as_predicate : first_refusal (checks_create_policy cat actor p) ≡ first_refusal (checks_predicate room t e)
          as_predicate = rw (← is, ← found, ← owner, ← same, ← known, ← its, ← named, ← free, ← condition, has_room) refl

          refused : (why : Refusal) → (why ≡ r.OutOfMemory) ⊎ (first_refusal (checks_predicate room t e) ≡ Some why) → (why ≡ r.OutOfMemory) ⊎ (first_refusal (checks_create_policy cat actor p) ≡ Some why)
          refused why h = rw as_predicate h

          passed : (index : ℕ) (bound : BoundExpr) → Some index ≡ table_index name cat → (first_refusal (checks_predicate room t e) ≡ None) × (bound_predicate t e ≡ Ok bound)
              → CheckedPolicy (Ok (index, bound)) (first_refusal (checks_create_policy cat actor p)) cat p
          passed index bound at h = (rw as_predicate h.0, rw (← is) (sym at), rw (← is, ← found, ← condition) (ap (λ b. Some b) h.1))

pub returns-in_default : goal.returns-in_default
returns-in_default g c = record {
  checked = inr (no_table c.args.catalog.now c.args.actor.now (create_policy_of c.args.policy.now) c.as_str.result.now c.as_str.ensures (rw (c.in_default.is) at c.find_table.ensures.table));
  within = tt;
}

pub returns-then-not-owns : goal.returns-then-not-owns
returns-then-not-owns g c = record {
  checked = inr (no_owner c.args.catalog.now c.args.actor.now (create_policy_of c.args.policy.now) c.as_str.result.now c.as_str.ensures (table_of c.in-Some.table) c.in-Some.ensures.table
      c.if-not-owns.ensures);
  within = tt;
}

pub returns-then-not-are_known : goal.returns-then-not-are_known
returns-then-not-are_known g c = record {
  checked = inr (no_roles c.args.catalog.now c.args.actor.now (create_policy_of c.args.policy.now) c.as_str.result.now c.as_str.ensures (table_of c.in-Some.table) c.in-Some.ensures.table
      c.if-not-owns.ensures c.as_slice.result.now c.as_slice.ensures c.if-not-are_known.ensures);
  within = tt;
}

pub returns-then-has_policy : goal.returns-then-has_policy
returns-then-has_policy g c = record {
  checked = inr (named_twice c.args.catalog.now c.args.actor.now (create_policy_of c.args.policy.now) c.as_str.result.now c.as_str.ensures (table_of c.in-Some.table) c.in-Some.ensures.table
      c.if-not-owns.ensures c.as_slice.result.now c.as_slice.ensures c.if-not-are_known.ensures _ c.policies.ensures c.as_str-else-not-are_known.result.now c.as_str-else-not-are_known.ensures
      c.if-has_policy.ensures);
  within = tt;
}

pub returns-in-Err : goal.returns-in-Err
returns-in-Err g c = record {
  checked = refused c.args.catalog.now c.args.actor.now (create_policy_of c.args.policy.now) c.as_str.result.now c.as_str.ensures (table_of c.in-Some.table) c.in-Some.ensures.table
      c.if-not-owns.ensures c.as_slice.result.now c.as_slice.ensures c.if-not-are_known.ensures _ c.policies.ensures c.as_str-else-not-are_known.result.now c.as_str-else-not-are_known.ensures
      c.if-has_policy.ensures _ (ap (λ e. expr_of e) c.deref.ensures) c.has_policy_room-has_room.result c.has_policy_room-has_room.ensures c.in-Err.why c.in-Err.ensures;
  within = tt;
}

pub returns-in-Ok : goal.returns-in-Ok
returns-in-Ok g c = record {
  checked = passed c.args.catalog.now c.args.actor.now (create_policy_of c.args.policy.now) c.as_str.result.now c.as_str.ensures (table_of c.in-Some.table) c.in-Some.ensures.table
      c.if-not-owns.ensures c.as_slice.result.now c.as_slice.ensures c.if-not-are_known.ensures _ c.policies.ensures c.as_str-else-not-are_known.result.now c.as_str-else-not-are_known.ensures
      c.if-has_policy.ensures _ (ap (λ e. expr_of e) c.deref.ensures) c.has_policy_room-has_room.result c.has_policy_room-has_room.ensures c.in-Some.index _ c.in-Some.ensures.index c.in-Ok.ensures;
  within = c.in-Some.ensures.within;
}
