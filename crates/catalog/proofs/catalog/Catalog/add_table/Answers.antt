use Rattle.std.proofs.Common.{◌≡◌, ℕ, List, false, map, sym, ap, subst}
use Rattle.std.proofs.lemmas.Result.{on_ok_weaker, on_err_weaker}
use Rattle.std.specs.Str.{bytes_eq}
use Rattle.row_objects.specs.Memberships.{Membership}
use Rattle.row_objects.specs.Objects.{Role, Table}
use Rattle.row_objects.specs.MembershipView.{membership_of}
use Rattle.row_objects.specs.View.{role_of, table_entry}
use Rattle.catalog.specs.Catalog.{Catalog, is_table}
use Rattle.row_objects.proofs.Positions.{one_more}
use Rattle.catalog.proofs.Named.{none_there}
use Rattle.catalog.proofs.catalog.Catalog.add_table.Goals as goal

abbrev with_tables : List Role → List Membership → ℕ → List Table → Catalog
with_tables roles memberships changes tables = record { roles = roles; memberships = memberships; tables = tables; change_number = changes }

pub insert-requires : goal.insert-requires
insert-requires g c = none_there table_entry (λ t. bytes_eq c.args.name.now t.name) c.self.inside.tables (subst (λ (cat : Catalog). is_table cat c.args.name.now ≡ false) (sym c.self.view_is) c.requires)

pub returns-clause-done : goal.returns-clause-done
returns-clause-done g c = rw (← c.self.view_is) (on_ok_weaker c.insert.result (λ d. ap (with_tables (map role_of c.self.inside.roles) (map membership_of c.self.inside.memberships.items) c.self.inside.change_number) (one_more table_entry c.self.inside.tables c.insert.new.self _ _ d (c.in_ok-table.ensures c.args.name.now))) c.insert.ensures.ok)

pub returns-clause-unchanged : goal.returns-clause-unchanged
returns-clause-unchanged g c = rw (← c.self.view_is) (on_err_weaker c.insert.result (λ d. ap (λ ts. with_tables (map role_of c.self.inside.roles) (map membership_of c.self.inside.memberships.items) c.self.inside.change_number (map table_entry ts)) d) c.insert.ensures.err)
