-- GRANT SELECT [(columns)] ON table TO roles.
use Rattle.std.specs.Prelude.{true, not, List, [], ◌∷◌}
use Rattle.std.specs.List.{list_all}
use Rattle.value.specs.declared.refusal.Refusal.TheVariants as r
use Rattle.row_ast.specs.Ast as ast
use Rattle.value.specs.Names.{Name}
use Rattle.row_objects.specs.ColumnNames.{are_columns}
use Rattle.row_objects.specs.TableChanges.{with_grants_to}
use Rattle.catalog.specs.Catalog.{Catalog, is_known, owns, table_named}
use Rattle.catalog.specs.Checks.{Check, if_found, with_table}

-- the checks of GRANT SELECT and of REVOKE SELECT
abbrev pub checks_select : Catalog → Name → ast.Grant → List Check
checks_select cat actor grant = if_found ((true, r.UndefinedTable) ∷ []) (λ t.
    (not (owns cat actor t), r.InsufficientPrivilege)
    ∷ (not (are_columns t.columns grant.columns), r.UndefinedColumn)
    ∷ (not (list_all (is_known cat) grant.roles), r.UndefinedObject) ∷ []) (table_named grant.table cat)

abbrev pub after_grant_select : Catalog → ast.Grant → Catalog
after_grant_select cat grant = with_table cat grant.table (with_grants_to grant)
