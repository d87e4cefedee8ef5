-- REVOKE SELECT [(columns)] ON table FROM roles; its checks are those of GRANT SELECT.
use Rattle.row_ast.specs.Ast as ast
use Rattle.row_objects.specs.TableChanges.{without_grants_to}
use Rattle.catalog.specs.Catalog.{Catalog}
use Rattle.catalog.specs.Checks.{with_table}

abbrev pub after_revoke_select : Catalog → ast.Grant → Catalog
after_revoke_select cat grant = with_table cat grant.table (without_grants_to grant)
