-- The keys of ORDER BY.
use Rattle.std.specs.Prelude.{ℕ, zero, suc, nat_lt, ◌+◌, List, [], ◌∷◌, length, Result, Ok, Err, if◌then◌else◌}
use Rattle.std.specs.Str.{bytes_eq}
use Rattle.value.specs.declared.refusal.Refusal.TheVariants as r
use Rattle.row_ast.specs.Ast as ast
use Rattle.value.specs.Names.{Name}
use Rattle.scope.specs.declared.error.BindError.{BindError}
use Rattle.expr.specs.declared.query.OutputKey.{OutputKey}
use Rattle.scope.specs.Entry.{fault}
use Rattle.memory.specs.Results.{and_then}
use Rattle.expr.specs.BoundQuery.{BoundItem}

-- the indices of the output columns that have a heading, from an index on
abbrev pub indexes_of : Name → ℕ → List BoundItem → List ℕ
indexes_of heading index [] = []
indexes_of heading index (i ∷ more) = if bytes_eq i.heading heading then index ∷ indexes_of heading (index + 1) more else indexes_of heading (index + 1) more

-- no output column has the heading, one has, or several
abbrev pub one_index : ℕ → List ℕ → Result ℕ BindError
one_index offset [] = Err (fault r.UndefinedColumn offset)
one_index offset (index ∷ []) = Ok index
one_index offset (index ∷ other ∷ more) = Err (fault r.AmbiguousColumn offset)

-- a position in the text counts from 1
abbrev pub index_within : ℕ → ℕ → ℕ → Result ℕ BindError
index_within offset count zero = Err (fault r.InvalidColumnReference offset)
index_within offset count (suc n) = if nat_lt n count then Ok n else Err (fault r.InvalidColumnReference offset)

abbrev pub target_index : List BoundItem → ℕ → ast.SortTarget → Result ℕ BindError
target_index items offset (ast.Heading heading) = one_index offset (indexes_of heading 0 items)
target_index items offset (ast.Position n) = index_within offset (length items) n

abbrev pub output_key : List BoundItem → ast.SortKey → Result OutputKey BindError
output_key items k = and_then (target_index items k.offset k.target) (λ index. Ok record { index = index; descending = k.descending })
