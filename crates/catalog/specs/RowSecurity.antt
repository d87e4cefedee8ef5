-- ALTER TABLE table ENABLE, DISABLE, FORCE or NO FORCE ROW LEVEL SECURITY.
use Rattle.std.specs.Prelude.{true, not, List, [], ◌∷◌}
use Rattle.value.specs.declared.refusal.Refusal.TheVariants as r
use Rattle.value.specs.Names.{Name}
use Rattle.row_ast.specs.declared.statement.RowSecurity.{RowSecurity}
use Rattle.row_objects.specs.TableChanges.{with_row_security}
use Rattle.catalog.specs.Catalog.{Catalog, owns, table_named}
use Rattle.catalog.specs.Checks.{Check, if_found, with_table}

abbrev pub checks_row_security : Catalog → Name → Name → List Check
checks_row_security cat actor table = if_found ((true, r.UndefinedTable) ∷ []) (λ t.
    (not (owns cat actor t), r.InsufficientPrivilege) ∷ []) (table_named table cat)

abbrev pub after_row_security : Catalog → Name → RowSecurity → Catalog
after_row_security cat table setting = with_table cat table (with_row_security setting)
