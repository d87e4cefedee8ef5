-- The limits on the size of a query.
use Rattle.std.specs.Prelude.{ℕ, ◌+◌, Bool, ◌&&◌, nat_le, List, length, map, Option, Some, None}
use Rattle.std.specs.List.{sum}
use Rattle.value.specs.Limits.{most_entries, most_conjuncts}
use Rattle.row_ast.specs.Ast.{and_members, Condition, SelectList, All, Items, Join, Inner, Cross, FromItem, LeftJoin, Query}

-- the most items of SELECT
abbrev pub most_items : ℕ
most_items = 64

-- the most columns of GROUP BY
abbrev pub most_groups : ℕ
most_groups = 64

-- the most keys of ORDER BY
abbrev pub most_keys : ℕ
most_keys = 64

-- the tables of comma items
abbrev pub item_entries : List FromItem → ℕ
item_entries items = sum (map (λ c. 1 + length c.joins) items)

-- the tables of FROM
abbrev pub entries : Query → ℕ
entries q = item_entries q.from + length q.lefts

-- the conjuncts of a condition: the members of an AND, or itself
abbrev pub members : Condition → ℕ
members c = length (and_members c.predicate)

abbrev pub join_members : Join → ℕ
join_members (Inner table on_) = members on_
join_members (Cross table) = 0

abbrev pub filter_members : Option Condition → ℕ
filter_members None = 0
filter_members (Some c) = members c

-- the conjuncts of the ON conditions of comma items
abbrev pub from_members : List FromItem → ℕ
from_members items = sum (map (λ c. sum (map join_members c.joins)) items)

-- and of left joins
abbrev pub left_members : List LeftJoin → ℕ
left_members lefts = sum (map (λ l. members l.on_) lefts)

abbrev pub on_members : Query → ℕ
on_members q = from_members q.from + left_members q.lefts

-- those of ON and WHERE together
abbrev pub conjuncts : Query → ℕ
conjuncts q = on_members q + filter_members q.filter

abbrev pub item_count : SelectList → ℕ
item_count (All offset) = 0
item_count (Items list) = length list

-- FROM and the conditions
abbrev pub within_joined : Query → Bool
within_joined q = nat_le (entries q) most_entries && nat_le (conjuncts q) most_conjuncts

abbrev pub within_lists : Query → Bool
within_lists q = nat_le (length q.group_by) most_groups && nat_le (length q.order_by) most_keys

-- the items, and the columns of GROUP BY and ORDER BY
abbrev pub within_columns : Query → Bool
within_columns q = nat_le (item_count q.select) most_items && within_lists q

abbrev pub within_limits : Query → Bool
within_limits q = within_joined q && within_columns q
