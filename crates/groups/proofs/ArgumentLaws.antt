-- The outcomes of arguments one after another, and what they give on a row.
use Rattle.std.proofs.Common.{◌≡◌, List, [], ◌∷◌, ap, refl}
use Rattle.value.specs.Names.{Name}
use Rattle.expr.specs.declared.bound.ColumnId.{ColumnId}
use Rattle.expr.specs.Aggregates.{AggregateCall}
use Rattle.eval.specs.Meaning.{Cells}
use Rattle.memory.specs.Results.{first_then}
use Rattle.groups.specs.Members.{all_of, argument, argument_outcomes, arguments, key_on, member_on, with_key}

module _ (cells : Cells) (role : Name) where
  pub arguments_are : (calls : List AggregateCall) → all_of (argument_outcomes cells role calls) ≡ arguments cells role calls
  arguments_are [] = refl
  arguments_are (c ∷ calls) = ap (first_then (argument cells role c.argument)) (arguments_are calls)

  -- the member of the arguments that are evaluated on the row is that of the row
  pub member_is : (columns : List ColumnId) (calls : List AggregateCall) → with_key (key_on cells columns) (all_of (argument_outcomes cells role calls)) ≡ member_on cells role columns calls
  member_is columns calls = ap (with_key (key_on cells columns)) (arguments_are calls)
