-- No statements make a loop.
use Rattle.std.proofs.Common.{◌≡◌, zero, suc, nat_le, arith, Bool, true, false, not, ◌&&◌, cond, List, [], ◌∷◌, ◌++◌, filter, Contains, Option, Some, None, refl}
use Rattle.std.specs.List.{list_any}
use Rattle.memory.proofs.Cases.{some_is_not}
use Rattle.value.specs.declared.refusal.Refusal.{Refusal}
use Rattle.value.specs.declared.refusal.Refusal.TheVariants as r
use Rattle.value.specs.Names.{Name}
use Rattle.row_ast.specs.Statements.{Statement, CreateRole, GrantRole, RevokeRole, CreateTable, SetOwner, SetRowSecurity, CreateIndex, GrantSelect, RevokeSelect, CreatePolicy, DropPolicy}
use Rattle.row_objects.specs.Memberships.{HasNoLoop, is_membership}
use Rattle.row_objects.proofs.Loops.{none_after, none_among, none_at_first}
use Rattle.catalog.specs.Catalog.{Catalog, at_first, belongs, is_role, is_superuser}
use Rattle.catalog.specs.Checks.{Check, first_refusal, unless}
use Rattle.catalog.specs.GrantRole.{checks_grant_role}
use Rattle.catalog.specs.Changes.{after, changed, checks, counted, most_changes}
use Rattle.catalog.specs.Run.{or_same, run}

-- a check that is passed
passed : (b : Bool) (why : Refusal) (more : List Check) → first_refusal ((b, why) ∷ more) ≡ None → (b ≡ false) × (first_refusal more ≡ None)
passed true why more e = absurd (some_is_not why e)
passed false why more e = (refl, e)

-- a membership that is left was there
left_among : {X : Type 0} (keeps : X → Bool) (xs : List X) (x : X) → Contains (filter keeps xs) x → Contains xs x
left_among keeps [] x h = h
left_among keeps (y ∷ ys) x h = go (keeps y) h (left_among keeps ys x)
  where
    go : (b : Bool) → Contains (cond b (y ∷ filter keeps ys) (filter keeps ys)) x → (Contains (filter keeps ys) x → Contains ys x) → Contains (y ∷ ys) x
    go true (zero, below, is) more = (zero, omega arith, is)
    go true (suc k, below, is) more = let m = more (k, omega (arith, below), is) in (suc m.0, omega (arith, m.1), m.2)
    go false h more = let m = more h in (suc m.0, omega (arith, m.1), m.2)

module _ (cat : Catalog) (none : HasNoLoop cat.memberships) where
  one_more : (group member : Name) (b : Bool) → belongs cat group member ≡ false → HasNoLoop (cond b cat.memberships (cat.memberships ++ record { member = member; group = group } ∷ []))
  one_more group member true absent = none
  one_more group member false absent = none_after cat.memberships (record { member = member; group = group }) none absent

  granted : (actor group member : Name) → first_refusal (checks_grant_role cat actor group member) ≡ None → HasNoLoop (after cat actor (GrantRole group member)).memberships
  granted actor group member e =
      let one = passed (not (is_superuser cat actor)) r.InsufficientPrivilege ((not (is_role cat group && is_role cat member), r.UndefinedObject) ∷ (belongs cat group member, r.InvalidGrantOperation) ∷ []) e in
      let two = passed (not (is_role cat group && is_role cat member)) r.UndefinedObject ((belongs cat group member, r.InvalidGrantOperation) ∷ []) one.1 in
      let three = passed (belongs cat group member) r.InvalidGrantOperation [] two.1 in
      one_more group member (list_any (is_membership group member) cat.memberships) three.0

  revoked : (actor group member : Name) → HasNoLoop (after cat actor (RevokeRole group member)).memberships
  revoked actor group member = none_among _ cat.memberships (λ m among. left_among (λ m. not (is_membership group member m)) cat.memberships m among) none

  after_one : (actor : Name) (s : Statement) → first_refusal (checks cat actor s) ≡ None → HasNoLoop (after cat actor s).memberships
  after_one actor (CreateRole name superuser bypass_rls) e = none
  after_one actor (GrantRole group member) e = granted actor group member e
  after_one actor (RevokeRole group member) e = revoked actor group member
  after_one actor (CreateTable name columns) e = none
  after_one actor (SetOwner table owner) e = none
  after_one actor (SetRowSecurity table setting) e = none
  after_one actor (CreateIndex name table column) e = none
  after_one actor (GrantSelect grant) e = none
  after_one actor (RevokeSelect grant) e = none
  after_one actor (CreatePolicy policy) e = none
  after_one actor (DropPolicy name table) e = none

  by_refusal : (actor : Name) (s : Statement) (o : Option Refusal) → (o ≡ None → HasNoLoop (after cat actor s).memberships) → HasNoLoop (or_same cat (unless o (counted cat (after cat actor s)))).memberships
  by_refusal actor s (Some why) h = none
  by_refusal actor s None h = h refl

  step : (actor : Name) (s : Statement) → HasNoLoop (or_same cat (changed cat actor s)).memberships
  step actor s = by_refusal actor s _ (λ e.
      let one = passed (nat_le most_changes cat.change_number) r.ProgramLimitExceeded ((not (is_role cat actor), r.UndefinedObject) ∷ checks cat actor s) e in
      let two = passed (not (is_role cat actor)) r.UndefinedObject (checks cat actor s) one.1 in
      after_one actor s two.1)

no_loop_after : (statements : List (Name × Statement)) (cat : Catalog) → HasNoLoop cat.memberships → HasNoLoop (run statements cat).memberships
no_loop_after [] cat none = none
no_loop_after (s ∷ ss) cat none = no_loop_after ss (or_same cat (changed cat s.0 s.1)) (step cat none s.0 s.1)

pub no_loop : (statements : List (Name × Statement)) → HasNoLoop (run statements at_first).memberships
no_loop statements = no_loop_after statements at_first none_at_first
