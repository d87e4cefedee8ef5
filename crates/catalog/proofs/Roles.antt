-- Roles as they are found by name.
use Rattle.std.proofs.Common.{◌≡◌, Bool, false, List, map, find, Option, Some, None, is_some, option_map, bytes_eq, refl, sym, ap, ◌∙◌}
use Rattle.value.specs.Names.{Name}
use Rattle.row_objects.specs.Named.{entry_named}
use Rattle.row_objects.specs.View.{role_of}
use Rattle.row_objects.specs.declared.objects.Role.{Role}
use Rattle.row_objects.specs.Objects as spec
use Rattle.catalog.specs.Catalog.{has_bypass_rls, has_superuser}
use Rattle.catalog.proofs.Named.{find-map, is_some-map}

-- the role by its name
abbrev named : Name → List (Name × Role) → Option spec.Role
named n roles = find (λ role. bytes_eq n role.name) (map role_of roles)

pub is_there : (n : Name) (roles : List (Name × Role)) → is_some (option_map (λ e. e.1) (entry_named n roles)) ≡ is_some (named n roles)
is_there n roles = is_some-map (λ e. e.1) (entry_named n roles) ∙ sym (is_some-map role_of (entry_named n roles)) ∙ sym (ap is_some (find-map role_of (λ role. bytes_eq n role.name) roles))

-- a flag of the role that is found
abbrev pub flag_by : {R : Type 0} → (R → Bool) → Option R → Bool
flag_by f None = false
flag_by f (Some role) = f role

flag_of : (f : Role → Bool) (g : spec.Role → Bool) → ((e : Name × Role) → f e.1 ≡ g (role_of e)) → (o : Option (Name × Role)) → flag_by f (option_map (λ e. e.1) o) ≡ flag_by g (option_map role_of o)
flag_of f g same None = refl
flag_of f g same (Some e) = same e

its_flag : (f : Role → Bool) (g : spec.Role → Bool) → ((e : Name × Role) → f e.1 ≡ g (role_of e)) → (n : Name) (roles : List (Name × Role)) → flag_by f (option_map (λ e. e.1) (entry_named n roles)) ≡ flag_by g (named n roles)
its_flag f g same n roles = flag_of f g same (entry_named n roles) ∙ sym (ap (flag_by g) (find-map role_of (λ role. bytes_eq n role.name) roles))

superuser_of : (o : Option spec.Role) → flag_by (λ role. role.superuser) o ≡ has_superuser o
superuser_of None = refl
superuser_of (Some role) = refl

bypass_of : (o : Option spec.Role) → flag_by (λ role. role.bypass_rls) o ≡ has_bypass_rls o
bypass_of None = refl
bypass_of (Some role) = refl

pub its_superuser : (n : Name) (roles : List (Name × Role)) → flag_by (λ role. role.superuser) (option_map (λ e. e.1) (entry_named n roles)) ≡ has_superuser (named n roles)
its_superuser n roles = its_flag (λ role. role.superuser) (λ role. role.superuser) (λ e. refl) n roles ∙ superuser_of (named n roles)

pub its_bypass : (n : Name) (roles : List (Name × Role)) → flag_by (λ role. role.bypass_rls) (option_map (λ e. e.1) (entry_named n roles)) ≡ has_bypass_rls (named n roles)
its_bypass n roles = its_flag (λ role. role.bypass_rls) (λ role. role.bypass_rls) (λ e. refl) n roles ∙ bypass_of (named n roles)
