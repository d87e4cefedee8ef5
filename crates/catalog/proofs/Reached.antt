-- Marks of roles by their names and by the roles of the catalogue.
use Rattle.std.proofs.Common.{◌≡◌, ◌≤◌, Bool, ◌||◌, List, length, map, bytes_eq, sym, ap, ◌∙◌, arith}
use Rattle.std.proofs.lemmas.List.{length-map}
use Rattle.value.specs.Names.{Name}
use Rattle.row_objects.specs.Objects as spec
use Rattle.row_objects.specs.Reached.{is_reached, mark_at}
use Rattle.row_objects.specs.View.{role_of}
use Rattle.row_objects.specs.declared.objects.Role.{Role}
use Rattle.catalog.specs.Catalog.{Catalog, belongs}
use Rattle.catalog.specs.Reached.{role_index, AreMarksOf}
use Rattle.catalog.proofs.Named.{index-map}

module _ (roles : List (Name × Role)) (now : Catalog) (is : map role_of roles ≡ now.roles) (marks : List Bool) (r : Name) where
  same_mark : (s : Name) → (bytes_eq r s || mark_at marks (role_index s now)) ≡ is_reached roles r marks s
  same_mark s = rw (← is) (ap (λ o. bytes_eq r s || mark_at marks o) (index-map role_of (λ role. bytes_eq s role.name) 0 roles))

  pub marks_of : length roles ≤ length marks → ((s : Name) → is_reached roles r marks s ≡ belongs now r s) → AreMarksOf now r marks
  marks_of long each = (rw (← is) (simp length-map long), λ s. same_mark s ∙ each s)

  pub long_enough : AreMarksOf now r marks → length roles ≤ length marks
  long_enough are = let l : length (map role_of roles) ≤ length marks = rw is are.0 in simp length-map at l

  pub by_marks : AreMarksOf now r marks → (s : Name) → is_reached roles r marks s ≡ belongs now r s
  by_marks are s = sym (same_mark s) ∙ are.1 s
