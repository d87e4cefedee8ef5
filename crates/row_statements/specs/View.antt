-- The views of the parts of statements that the parser joins, as spec data.
use Rattle.row_ast.specs.View.{grant_of}
use Rattle.row_statements.specs.Schemas as rules
use Rattle.row_statements.specs.declared.statements.GrantBody.{GrantBody}
use Rattle.row_statements.specs.declared.statements.GrantBody.TheVariants as body

abbrev pub granting_of : {A : Type 0} → GrantBody A → rules.GrantBody
granting_of (body.Select g) = rules.of_select (grant_of g)
granting_of (body.Role group member) = rules.of_role group member
