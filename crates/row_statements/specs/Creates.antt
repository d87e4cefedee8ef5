-- The grammar of CREATE statements: a definition for each rule.
use Rattle.std.specs.Prelude.{Bool, true, false, List, [], ◌∷◌, Option, Some, None}
use Rattle.row_grammar.specs.Grammar.{word, nothing, both, either, made, inner}
use Rattle.row_tokens.specs.declared.token.TokenKind.TheVariants as k
use Rattle.row_tokens.specs.Tokens.{Token}
use Rattle.value.specs.declared.types.ColType.{ColType}
use Rattle.value.specs.declared.types.ColType.TheVariants as types
use Rattle.value.specs.Columns.{Column}
use Rattle.value.specs.Names.{Name, everyone}
use Rattle.row_ast.specs.Statements.{Statement, CreateRole, CreateTable, CreateIndex, CreatePolicy}
use Rattle.row_reader.specs.Language.{an_expression, Located, Rule, is, maybe, after, enclosed, inside, comma_list}
use Rattle.row_reader.specs.Expressions.{name, names, type_name}

-- [SUPERUSER]
unfoldable pub superuser : Rule Bool
superuser = either (made (λ w. true) (word (is k.Superuser))) (nothing false)

-- [BYPASSRLS]
unfoldable pub bypass_rls : Rule Bool
bypass_rls = either (made (λ w. true) (word (is k.Bypassrls))) (nothing false)

-- ROLE n [SUPERUSER] [BYPASSRLS]
unfoldable pub new_role : Rule Statement
new_role = made (λ p. CreateRole p.0 p.1.0 p.1.1) (after (is k.Role) (both name (both superuser bypass_rls)))

-- bigint | text | boolean
unfoldable pub column_type : Rule ColType
column_type = either (made (λ w. types.Boolean) (word (is k.Boolean))) type_name

-- [NOT NULL]
unfoldable pub not_null : Rule Bool
not_null = either (made (λ w. true) (after (is k.Not) (word (is k.Null)))) (nothing false)

-- c type [NOT NULL]
unfoldable pub column_def : Rule Column
column_def = made (λ p. record { name = p.0; data_type = p.1.0; not_null = p.1.1 }) (both name (both column_type not_null))

unfoldable pub column_defs : Rule (List Column)
column_defs = comma_list column_def

-- TABLE t ( c type [NOT NULL], .. )
unfoldable pub new_table : Rule Statement
new_table = made (λ p. CreateTable p.0 p.1) (after (is k.Table) (both name (enclosed column_defs)))

-- INDEX i ON t ( c )
unfoldable pub new_index : Rule Statement
new_index = made (λ p. CreateIndex p.0 p.1.0 p.1.1) (after (is k.Index) (both name (after (is k.On) (both name (enclosed name)))))

-- [AS PERMISSIVE | AS RESTRICTIVE]
unfoldable pub strength : Rule Bool
strength = either (after (is k.As) (either (made (λ w. true) (word (is k.Restrictive))) (made (λ w. false) (word (is k.Permissive))))) (nothing false)

-- [FOR ALL | FOR SELECT]
unfoldable pub command : Rule (Option Token)
command = maybe (after (is k.For) (either (word (is k.All)) (word (is k.Select))))

-- everyone, where no roles are named
abbrev pub roles_or_everyone : Option (List Name) → List Name
roles_or_everyone None = everyone ∷ []
roles_or_everyone (Some roles) = roles

-- [TO roles]
unfoldable pub policy_roles : Rule (List Name)
policy_roles = made roles_or_everyone (maybe (after (is k.To) names))

-- USING ( expr )
unfoldable pub using : Rule Located
using = after (is k.Using) (inside (inner an_expression))

-- POLICY p ON t [AS ..] [FOR ..] [TO roles] USING ( expr )
unfoldable pub new_policy : Rule Statement
new_policy =
    made (λ p. CreatePolicy record { name = p.0; table = p.1.0; restrictive = p.1.1.0; roles = p.1.1.1.1.0; predicate = p.1.1.1.1.1.1 })
    (after (is k.Policy) (both name (after (is k.On) (both name (both strength (both command (both policy_roles using)))))))

-- CREATE and a role, a table, an index or a policy
unfoldable pub create : Rule Statement
create = after (is k.Create) (either new_role (either new_table (either new_index new_policy)))
