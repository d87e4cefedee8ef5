use Rattle.std.proofs.Common.{◌≡◌, ◌<◌, ℕ, false, List, [], ◌∷◌, ◌++◌, length, map, Result, Ok, Err, OnOk, OnErr, refl, sym, ap, ◌∙◌, subst, arith}
use Rattle.std.proofs.lemmas.List.{length-map}
use Rattle.std.specs.Str.{bytes_eq}
use Rattle.value.specs.Names.{Name}
use Rattle.row_objects.specs.Memberships.{Membership, most_roles}
use Rattle.row_objects.specs.MembershipView.{membership_of}
use Rattle.row_objects.specs.Objects.{Table}
use Rattle.row_objects.specs.View.{role_of, table_entry}
use Rattle.row_objects.specs.declared.objects.Role.{Role}
use Rattle.catalog.specs.Catalog.{Catalog, is_role}
use Rattle.catalog.specs.CreateRole.{after_create_role}
use Rattle.row_objects.proofs.Positions.{one_more}
use Rattle.catalog.proofs.MoreRoles.{roles_after}
use Rattle.catalog.proofs.Named.{none_there}
use Rattle.catalog.proofs.catalog.Catalog.add_role.Goals as goal

module _ (memberships : List Membership) (tables : List Table) (changes : ℕ) (old new : List (Name × Role)) (now : Catalog) where
  abbrev with_roles : List (Name × Role) → Catalog
  with_roles roles = record { roles = map role_of roles; memberships = memberships; tables = tables; change_number = changes }

  module _ (is : with_roles old ≡ now) {T E : Type 0} where
    one_made : (r : Result T E) (name : Name) (role : Role) → OnOk r (new ≡ old ++ (name, role) ∷ []) → OnOk r (with_roles new ≡ after_create_role now name role.superuser role.bypass_rls)
    one_made (Ok x) name role h = rw (← is) (ap (λ rs. let c : Catalog = record { roles = rs; memberships = memberships; tables = tables; change_number = changes } in c) (one_more role_of old new (name, role) _ h refl))
    one_made (Err e) name role h = tt

    none_made : (r : Result T E) → OnErr r (new ≡ old) → OnErr r (with_roles new ≡ now)
    none_made (Ok x) h = tt
    none_made (Err e) h = ap with_roles h ∙ is

pub insert-requires : goal.insert-requires
insert-requires g c = none_there role_of (λ role. bytes_eq c.args.name.now role.name) c.self.inside.roles (subst (λ (cat : Catalog). is_role cat c.args.name.now ≡ false) (sym c.self.view_is) c.requires.fresh)

pub invariant_of-self : goal.invariant_of-self
invariant_of-self g c =
    let few = subst (λ (cat : Catalog). length cat.roles < most_roles) (sym c.self.view_is) c.requires.room in
    let room = simp length-map at few in
    roles_after c.insert.result c.self.inside.roles c.insert.new.self _ (map membership_of c.self.inside.memberships.items)
    (omega (arith, room)) c.self.invariant.1 c.insert.ensures.ok c.insert.ensures.err

pub returns-clause-done : goal.returns-clause-done
returns-clause-done g c =
    one_made (map membership_of c.self.inside.memberships.items) (map (λ t. table_entry t) c.self.inside.tables) c.self.inside.change_number c.self.inside.roles c.insert.new.self c.args.self.now c.self.view_is
    c.insert.result c.args.name.now _ c.insert.ensures.ok

pub returns-clause-unchanged : goal.returns-clause-unchanged
returns-clause-unchanged g c =
    none_made (map membership_of c.self.inside.memberships.items) (map (λ t. table_entry t) c.self.inside.tables) c.self.inside.change_number c.self.inside.roles c.insert.new.self c.args.self.now c.self.view_is
    c.insert.result c.insert.ensures.err
