-- The columns that a query names, and those for which it needs a grant.
use Rattle.std.specs.Prelude.{◌≡◌, ◌⊎◌, ◌<◌, ℕ, Bool, List, length, Contains, filter, Option, Some, None, option_and_then, slice_get, is_some}
use Rattle.std.specs.List.{Any, filter_map}
use Rattle.expr.specs.declared.bound.ColumnId.{ColumnId}
use Rattle.access.specs.Access.{RequiredPrivilege}
use Rattle.scope.specs.Entry.{Entry}
use Rattle.expr.specs.BoundQuery.{BoundQuery}
use Rattle.access.specs.declared.mentions.Mention.{Mention}
use Rattle.access.specs.declared.mentions.Mention.TheVariants as mention
use Rattle.expr.specs.NamedColumns.{named_columns}
use Rattle.access.specs.Needed.{mentions, needed, on_column, select_any}

abbrev pub column_in : Mention → Option ColumnId
column_in (mention.From entry) = None
column_in (mention.Column id) = Some id

-- the columns among the mentions of a query are those that it names, in the same order
abbrev pub NamedAreMentioned : Type 0
NamedAreMentioned = (q : BoundQuery) → filter_map column_in (mentions q) ≡ named_columns q

-- SELECT on the column, where it is there
abbrev pub on_named : List Entry → ColumnId → Option RequiredPrivilege
on_named entries id = option_and_then (on_column id.column) (slice_get entries id.entry)

abbrev pub is_on_column : RequiredPrivilege → Bool
is_on_column p = is_some p.column

-- the privileges on columns that a query needs are those on the columns that it names, in the same order
abbrev pub NamedAreNeeded : Type 0
NamedAreNeeded = (entries : List Entry) (q : BoundQuery) → filter is_on_column (needed entries q) ≡ filter_map (on_named entries) (named_columns q)

-- each entry of which no column is named needs SELECT on any part of its table
abbrev pub EntriesAreNeeded : Type 0
EntriesAreNeeded = (entries : List Entry) (q : BoundQuery) (k : ℕ) (e : Entry) → k < length q.ons → slice_get entries k ≡ Some e →
    Any (λ id. id.entry ≡ k) (named_columns q) ⊎ Contains (needed entries q) (select_any e.table)
