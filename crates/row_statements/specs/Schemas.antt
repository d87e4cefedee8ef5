-- The grammar of schema statements: a definition for each rule.
use Rattle.std.specs.Prelude.{false, List, Option}
use Rattle.row_grammar.specs.Grammar.{word, both, either, made, many}
use Rattle.row_tokens.specs.declared.token.TokenKind.{TokenKind}
use Rattle.row_tokens.specs.declared.token.TokenKind.TheVariants as k
use Rattle.value.specs.Names.{Name}
use Rattle.row_ast.specs.Ast.{Grant}
use Rattle.row_ast.specs.Statements.{Statement, GrantRole, RevokeRole, SetOwner, SetRowSecurity, GrantSelect, RevokeSelect, DropPolicy}
use Rattle.row_reader.specs.Language.{Rule, is, maybe, after, enclosed}
use Rattle.row_reader.specs.Expressions.{name, names}
use Rattle.row_ast.specs.declared.statement.RowSecurity.{RowSecurity}
use Rattle.row_ast.specs.declared.statement.RowSecurity.TheVariants as setting
use Rattle.row_statements.specs.Creates.{create}

-- ---- ALTER

-- OWNER TO r
unfoldable pub owner : Rule Name
owner = after (is k.Owner) (after (is k.To) name)

-- ENABLE | DISABLE | FORCE | NO FORCE
unfoldable pub security_setting : Rule RowSecurity
security_setting =
    either (made (λ w. setting.Enable) (word (is k.Enable)))
    (either (made (λ w. setting.Disable) (word (is k.Disable)))
    (either (made (λ w. setting.Force) (word (is k.Force)))
    (made (λ w. setting.NoForce) (after (is k.No) (word (is k.Force))))))

-- setting ROW LEVEL SECURITY
unfoldable pub security : Rule RowSecurity
security = made (λ p. p.0) (both security_setting (after (is k.Row) (after (is k.Level) (word (is k.Security)))))

-- a change of a table
pub data Alteration : Type 0 where
  new_owner : Name → Alteration
  new_security : RowSecurity → Alteration

abbrev pub altered : Name → Alteration → Statement
altered table (new_owner role) = SetOwner table role
altered table (new_security to) = SetRowSecurity table to

unfoldable pub alteration : Rule Alteration
alteration = either (made new_owner owner) (made new_security security)

-- ALTER TABLE t and a new owner, or row security
unfoldable pub alter : Rule Statement
alter = made (λ p. altered p.0 p.1) (after (is k.Alter) (after (is k.Table) (both name alteration)))

-- ---- GRANT and REVOKE

-- [( c, .. )]
unfoldable pub grant_columns : Rule (Option (List Name))
grant_columns = maybe (enclosed names)

-- SELECT [( c, .. )] ON t
unfoldable pub granted : Rule (Option (List Name) × Name)
granted = after (is k.Select) (both grant_columns (after (is k.On) name))

abbrev pub grant_to : Option (List Name) × Name → List Name → Grant
grant_to p roles = record { columns = p.0; table = p.1; roles = roles }

-- the part of a statement after GRANT or REVOKE
pub data GrantBody : Type 0 where
  of_select : Grant → GrantBody
  of_role : (group member : Name) → GrantBody

abbrev pub given : GrantBody → Statement
given (of_select g) = GrantSelect g
given (of_role group member) = GrantRole group member

abbrev pub taken : GrantBody → Statement
taken (of_select g) = RevokeSelect g
taken (of_role group member) = RevokeRole group member

-- SELECT .. TO roles | g TO m, with this word for TO
unfoldable pub granting : TokenKind → Rule GrantBody
granting w = either
    (made (λ p. of_select (grant_to p.0 p.1)) (both granted (after (is w) names)))
    (made (λ p. of_role p.0 p.1) (both name (after (is w) name)))

-- GRANT SELECT .. TO roles | GRANT g TO m
unfoldable pub grant : Rule Statement
grant = made given (after (is k.Grant) (granting k.To))

-- REVOKE SELECT .. FROM roles | REVOKE g FROM m
unfoldable pub revoke : Rule Statement
revoke = made taken (after (is k.Revoke) (granting k.From))

-- ---- DROP, and all of them

-- DROP POLICY p ON t
unfoldable pub drop : Rule Statement
drop = made (λ p. DropPolicy p.0 p.1) (after (is k.Drop) (after (is k.Policy) (both name (after (is k.On) name))))

unfoldable pub statement : Rule Statement
statement = either create (either alter (either grant (either revoke drop)))

-- statement ;
unfoldable pub ended_statement : Rule Statement
ended_statement = made (λ p. p.0) (both statement (word (is k.Semicolon)))

-- {statement ;}
unfoldable pub schema : Rule (List Statement)
schema = many false ended_statement
