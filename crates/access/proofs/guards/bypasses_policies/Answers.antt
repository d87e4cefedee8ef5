use Rattle.std.proofs.Common.{◌≡◌, ◌&&◌, ◌||◌, ◌∙◌, Bool, true, false, not, refl, sym, ap}
use Rattle.value.specs.Names.{Name}
use Rattle.catalog.specs.Catalog.{Catalog, belongs, bypasses_rls, is_superuser}
use Rattle.access.proofs.guards.bypasses_policies.Goals.{then-not-row_security, else-not-row_security, then-is_superuser, else-is_superuser}
use Rattle.access.proofs.guards.bypasses_policies.Goals as goal

-- ---- one after another

by_first : (v a b : Bool) → v ≡ a → a ≡ true → v ≡ (a || b)
by_first v a b e t = rw (e, t) refl

by_second : (v a b : Bool) → v ≡ b → a ≡ false → v ≡ (a || b)
by_second v a b e f = rw (e, f) refl

one_of : (a b c d : Bool) → ((a || b) || c) ≡ true → true ≡ (a || b || c || d)
one_of true b c d h = refl
one_of false true c d h = refl
one_of false false true d h = refl
one_of false false false d h = cc

none_of : (a b c d : Bool) → ((a || b) || c) ≡ false → d ≡ (a || b || c || d)
none_of true b c d h = cc
none_of false true c d h = cc
none_of false false true d h = cc
none_of false false false d h = refl

-- ---- the owner

module _ (cat : Catalog) (r owner its_owner : Name) (is : owner ≡ its_owner) (forced : Bool) where
  for_member : (f : Bool) → f ≡ forced → true ≡ belongs cat r owner → not f ≡ (belongs cat r its_owner && not forced)
  for_member f e h = rw (← is, ← h, e) refl

  for_others : (m : Bool) → m ≡ false → false ≡ belongs cat r owner → m ≡ (belongs cat r its_owner && not forced)
  for_others m e h = rw (← is, ← h) e

pub returns-then-bypasses_rls : goal.returns-then-bypasses_rls
returns-then-bypasses_rls g c =
    let one : c.if-not-row_security.value ≡ (not c.args.table.parts.now.row_security || is_superuser c.args.catalog.now c.args.role.now) = elim c.if-not-row_security.branch [
      | then-not-row_security w ↦ by_first _ _ _ (w.value-is ∙ ap not c.row_security.ensures) (ap not (sym w.if-not-row_security.ensures))
      | else-not-row_security w ↦ by_second _ _ _ (w.value-is ∙ w.is_superuser.ensures) (ap not (sym w.if-not-row_security.ensures))
    ] in
    let two : c.if-is_superuser.value ≡ (c.if-not-row_security.value || bypasses_rls c.args.catalog.now c.args.role.now) = elim c.if-is_superuser.branch [
      | then-is_superuser w ↦ by_first _ _ _ w.value-is w.if-is_superuser.true
      | else-is_superuser w ↦ by_second _ _ _ (w.value-is ∙ w.bypasses_rls.ensures) w.if-is_superuser.false
    ] in
    c.if-bypasses_rls.true ∙ one_of (not c.args.table.parts.now.row_security) (is_superuser c.args.catalog.now c.args.role.now) (bypasses_rls c.args.catalog.now c.args.role.now) (belongs c.args.catalog.now c.args.role.now c.args.table.parts.now.owner && not c.args.table.parts.now.forced)
    (sym (two ∙ ap (λ v. v || bypasses_rls c.args.catalog.now c.args.role.now) one) ∙ c.if-bypasses_rls.true)

pub returns-then-reaches : goal.returns-then-reaches
returns-then-reaches g c =
    let one : c.if-not-row_security.value ≡ (not c.args.table.parts.now.row_security || is_superuser c.args.catalog.now c.args.role.now) = elim c.if-not-row_security.branch [
      | then-not-row_security w ↦ by_first _ _ _ (w.value-is ∙ ap not c.row_security.ensures) (ap not (sym w.if-not-row_security.ensures))
      | else-not-row_security w ↦ by_second _ _ _ (w.value-is ∙ w.is_superuser.ensures) (ap not (sym w.if-not-row_security.ensures))
    ] in
    let two : c.if-is_superuser.value ≡ (c.if-not-row_security.value || bypasses_rls c.args.catalog.now c.args.role.now) = elim c.if-is_superuser.branch [
      | then-is_superuser w ↦ by_first _ _ _ w.value-is w.if-is_superuser.true
      | else-is_superuser w ↦ by_second _ _ _ (w.value-is ∙ w.bypasses_rls.ensures) w.if-is_superuser.false
    ] in
    for_member c.args.catalog.now c.args.role.now c.owner.result.now c.args.table.parts.now.owner c.owner.ensures c.args.table.parts.now.forced c.forced.result c.forced.ensures c.if-reaches.ensures
    ∙ none_of (not c.args.table.parts.now.row_security) (is_superuser c.args.catalog.now c.args.role.now) (bypasses_rls c.args.catalog.now c.args.role.now) (belongs c.args.catalog.now c.args.role.now c.args.table.parts.now.owner && not c.args.table.parts.now.forced)
    (sym (two ∙ ap (λ v. v || bypasses_rls c.args.catalog.now c.args.role.now) one) ∙ c.if-bypasses_rls.false)

pub returns-else-reaches : goal.returns-else-reaches
returns-else-reaches g c =
    let one : c.if-not-row_security.value ≡ (not c.args.table.parts.now.row_security || is_superuser c.args.catalog.now c.args.role.now) = elim c.if-not-row_security.branch [
      | then-not-row_security w ↦ by_first _ _ _ (w.value-is ∙ ap not c.row_security.ensures) (ap not (sym w.if-not-row_security.ensures))
      | else-not-row_security w ↦ by_second _ _ _ (w.value-is ∙ w.is_superuser.ensures) (ap not (sym w.if-not-row_security.ensures))
    ] in
    let two : c.if-is_superuser.value ≡ (c.if-not-row_security.value || bypasses_rls c.args.catalog.now c.args.role.now) = elim c.if-is_superuser.branch [
      | then-is_superuser w ↦ by_first _ _ _ w.value-is w.if-is_superuser.true
      | else-is_superuser w ↦ by_second _ _ _ (w.value-is ∙ w.bypasses_rls.ensures) w.if-is_superuser.false
    ] in
    for_others c.args.catalog.now c.args.role.now c.owner.result.now c.args.table.parts.now.owner c.owner.ensures c.args.table.parts.now.forced c.reaches.result c.if-reaches.false c.if-reaches.ensures
    ∙ none_of (not c.args.table.parts.now.row_security) (is_superuser c.args.catalog.now c.args.role.now) (bypasses_rls c.args.catalog.now c.args.role.now) (belongs c.args.catalog.now c.args.role.now c.args.table.parts.now.owner && not c.args.table.parts.now.forced)
    (sym (two ∙ ap (λ v. v || bypasses_rls c.args.catalog.now c.args.role.now) one) ∙ c.if-bypasses_rls.false)
