-- The policies of a table, each under a name of its own, and of all tables.
use Rattle.std.specs.Prelude.{ℕ, ◌+◌, nat_lt, Bool, not, List, [], ◌∷◌, length, filter}
use Rattle.std.specs.Str.{bytes_eq}
use Rattle.std.specs.List.{list_any}
use Rattle.value.specs.Names.{Name}
use Rattle.row_ast.specs.Ast.{CreatePolicy}
use Rattle.expr.specs.Bound.{BoundExpr}
use Rattle.row_objects.specs.Objects.{Policy, Table, most_policies}

abbrev pub has_policy : List Policy → Name → Bool
has_policy ps name = list_any (λ p. bytes_eq name p.name) ps

abbrev pub without_policy : Name → List Policy → List Policy
without_policy name ps = filter (λ p. not (bytes_eq name p.name)) ps

-- the policy of a statement, with its bound condition
abbrev pub new_policy : CreatePolicy → BoundExpr → Policy
new_policy p predicate = record { name = p.name; restrictive = p.restrictive; roles = p.roles; predicate = predicate }

-- ---- all tables

abbrev pub policy_count : List Table → ℕ
policy_count [] = 0
policy_count (t ∷ ts) = length t.policies + policy_count ts

-- one more policy is within the limit
abbrev pub has_policy_room : List Table → Bool
has_policy_room tables = nat_lt (policy_count tables) most_policies
