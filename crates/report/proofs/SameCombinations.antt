-- The answer is a function of the bag of combinations.
use Rattle.std.proofs.Common.{◌≡◌, Bool, true, false, List, map, ap, Ok, IsPermutation}
use Rattle.bags.proofs.Order.{SameSums, SameSums-IsPermutation}
use Rattle.bags.proofs.Bags.{SameSums-map}
use Rattle.value.specs.Datum.{Row}
use Rattle.value.specs.Names.{Name}
use Rattle.eval.specs.Meaning.{◌>>=◌}
use Rattle.groups.proofs.SameStage.{alike_stage, alike_next}
use Rattle.groups.specs.Members.{Member}
use Rattle.groups.proofs.SameGroups.{same_group_rows}
use Rattle.expr.specs.BoundQuery.{BoundQuery}
use Rattle.tuples.specs.Combinations.{Combination}
use Rattle.report.specs.QueryStages.{query_aggregates, where_fate, where_stage, items_fate, items_stage, arguments_fate, arguments_stage, sums_stage, rows_of_group_rows, rows_of_members, rows_of_groups}
use Rattle.report.specs.Answer.{rows_of, in_order, rows_of_kept, answer}
use Rattle.report.proofs.OutputOrder.{same_ordered}

module _ (role : Name) (q : BoundQuery) where
  same_in_order : (xs ys : List Row) → SameSums xs ys → in_order role q xs ≡ in_order role q ys
  same_in_order xs ys same = ap Ok (same_ordered q.order_by q.limit xs ys same)

  same_sums : (xs ys : List Member) → SameSums xs ys → sums_stage role q xs ≡ sums_stage role q ys
  same_sums xs ys same = same_group_rows q.group_by (query_aggregates q) xs ys same

  same_members : (xs ys : List Member) → SameSums xs ys → rows_of_members role q xs ≡ rows_of_members role q ys
  same_members xs ys same = ap (λ r. r >>= rows_of_group_rows role q) (same_sums xs ys same)

  same_groups : (xs ys : List Combination) → SameSums xs ys → rows_of_groups role q xs ≡ rows_of_groups role q ys
  same_groups xs ys same =
      alike_next (λ r. r >>= rows_of_members role q) same_members (arguments_stage role q xs) (arguments_stage role q ys)
      (alike_stage (map (arguments_fate role q) xs) (map (arguments_fate role q) ys) (SameSums-map xs ys same (arguments_fate role q)))

  same_rows : (grouped : Bool) (xs ys : List Combination) → SameSums xs ys → (rows_of role q grouped xs >>= in_order role q) ≡ (rows_of role q grouped ys >>= in_order role q)
  same_rows true xs ys same = ap (λ r. r >>= in_order role q) (same_groups xs ys same)
  same_rows false xs ys same =
      alike_next (λ r. r >>= in_order role q) same_in_order (items_stage role q xs) (items_stage role q ys)
      (alike_stage (map (items_fate role q) xs) (map (items_fate role q) ys) (SameSums-map xs ys same (items_fate role q)))

  same_kept : (xs ys : List Combination) → SameSums xs ys → rows_of_kept role q xs ≡ rows_of_kept role q ys
  same_kept xs ys same = same_rows q.is_grouped xs ys same

  pub same_bag_answer : (xs ys : List Combination) → SameSums xs ys → answer role q xs ≡ answer role q ys
  same_bag_answer xs ys same =
      alike_next (λ r. r >>= rows_of_kept role q) same_kept (where_stage role q xs) (where_stage role q ys)
      (alike_stage (map (where_fate role q) xs) (map (where_fate role q) ys) (SameSums-map xs ys same (where_fate role q)))

  pub same_answer : (one other : List Combination) → IsPermutation one other → answer role q one ≡ answer role q other
  same_answer one other same = same_bag_answer one other (SameSums-IsPermutation one other same)
