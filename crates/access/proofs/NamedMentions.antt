-- The columns of the mentions are those that a query names, and the privileges on columns that it needs are theirs.
use Rattle.std.proofs.Common.{◌≡◌, ℕ, ◌+◌, Bool, true, false, List, [], ◌∷◌, ◌++◌, map, filter, Option, Some, None, refl, ap, ap₂, ◌∙◌}
use Rattle.std.specs.Prelude.{if◌then◌else◌, option_map, option_and_then, slice_get}
use Rattle.std.specs.List.{cons_option, filter_map, flat_map, list_any}
use Rattle.std.proofs.lemmas.List.{append_assoc}
use Rattle.std.proofs.lemmas.List.Elements.{filter_map-append}
use Rattle.expr.specs.declared.bound.ColumnId.{ColumnId}
use Rattle.expr.specs.Bound.{BoundExpr}
use Rattle.expr.specs.Columns.{columns}
use Rattle.row_objects.specs.Objects.{Table}
use Rattle.access.specs.Access.{RequiredPrivilege, select_on}
use Rattle.scope.specs.Entry.{Entry}
use Rattle.expr.specs.BoundQuery.{BoundItem, BoundQuery}
use Rattle.access.specs.declared.mentions.Mention.{Mention}
use Rattle.access.specs.declared.mentions.Mention.TheVariants as mention
use Rattle.expr.specs.NamedColumns.{item_columns, condition_columns, named_columns}
use Rattle.access.specs.Needed.{in_condition, in_from, in_item, mentions, needed, on_column, on_entry, is_column_of, required_by}
use Rattle.access.specs.NamedLaws.{column_in, on_named, is_on_column}

-- ---- part by part

of_ids : (ids : List ColumnId) → filter_map column_in (map mention.Column ids) ≡ ids
of_ids [] = refl
of_ids (id ∷ ids) = ap (λ l. id ∷ l) (of_ids ids)

of_condition : (c : Option BoundExpr) → filter_map column_in (in_condition c) ≡ condition_columns c
of_condition None = refl
of_condition (Some e) = of_ids (columns e)

of_items : (items : List BoundItem) → filter_map column_in (flat_map in_item items) ≡ flat_map item_columns items
of_items [] = refl
of_items (i ∷ more) = filter_map-append column_in (in_item i) (flat_map in_item more) ∙ ap₂ (λ a b. a ++ b) (of_ids (columns i.value)) (of_items more)

of_from : (entry : ℕ) (ons : List (Option BoundExpr)) → filter_map column_in (in_from entry ons) ≡ flat_map condition_columns ons
of_from entry [] = refl
of_from entry (on ∷ more) = filter_map-append column_in (in_condition on) (in_from (entry + 1) more) ∙ ap₂ (λ a b. a ++ b) (of_condition on) (of_from (entry + 1) more)

joined : (a b c d e : List Mention) → filter_map column_in ((((a ++ b) ++ c) ++ d) ++ e)
    ≡ (((filter_map column_in a ++ filter_map column_in b) ++ filter_map column_in c) ++ filter_map column_in d) ++ filter_map column_in e
joined a b c d e =
    filter_map-append column_in (((a ++ b) ++ c) ++ d) e
    ∙ ap (λ l. l ++ filter_map column_in e) (filter_map-append column_in ((a ++ b) ++ c) d
    ∙ ap (λ l. l ++ filter_map column_in d) (filter_map-append column_in (a ++ b) c
    ∙ ap (λ l. l ++ filter_map column_in c) (filter_map-append column_in a b)))

regrouped : (a b c d e : List ColumnId) → (((a ++ b) ++ c) ++ d) ++ e ≡ a ++ ((b ++ c) ++ (d ++ e))
regrouped a b c d e =
    append_assoc ((a ++ b) ++ c) d e
    ∙ ap (λ l. l ++ (d ++ e)) (append_assoc a b c)
    ∙ append_assoc a (b ++ c) (d ++ e)

-- ---- all mentions

pub named_are_mentioned : (q : BoundQuery) → filter_map column_in (mentions q) ≡ named_columns q
named_are_mentioned q =
    joined (flat_map in_item q.items) (in_from 0 q.ons) (in_condition q.filter) (map mention.Column q.group_by) (in_condition q.having)
    ∙ rw (of_items q.items, of_from 0 q.ons, of_condition q.filter, of_ids q.group_by, of_condition q.having) (regrouped (flat_map item_columns q.items) (flat_map condition_columns q.ons) (condition_columns q.filter) q.group_by (condition_columns q.having))

-- ---- what is required for a mark

-- an entry needs no privilege on a column
entry_apart : (entry : Option Entry) (named : Bool) (more : List RequiredPrivilege) → filter is_on_column (cons_option (if named then None else option_map on_entry entry) more) ≡ filter is_on_column more
entry_apart entry true more = refl
entry_apart None false more = refl
entry_apart (Some e) false more = refl

column_kept : {X : Type 0} (column : Option X) (table : Table) (name : X → List ℕ) (more : List RequiredPrivilege)
    → filter is_on_column (cons_option (option_map (λ c. select_on table (name c)) column) more) ≡ cons_option (option_map (λ c. select_on table (name c)) column) (filter is_on_column more)
column_kept None table name more = refl
column_kept (Some c) table name more = refl

-- a column that is there needs SELECT on it
named_kept : (column : ℕ) (entry : Option Entry) (more : List RequiredPrivilege)
    → filter is_on_column (cons_option (option_and_then (on_column column) entry) more) ≡ cons_option (option_and_then (on_column column) entry) (filter is_on_column more)
named_kept column None more = refl
named_kept column (Some e) more = column_kept (slice_get e.table.columns column) e.table (λ c. c.name) more

module _ (entries : List Entry) (all : List Mention) where
  of_mentions : (some : List Mention) → filter is_on_column (filter_map (required_by entries all) some) ≡ filter_map (on_named entries) (filter_map column_in some)
  of_mentions [] = refl
  of_mentions (mention.From k ∷ more) = entry_apart (slice_get entries k) (list_any (is_column_of k) all) (filter_map (required_by entries all) more) ∙ of_mentions more
  of_mentions (mention.Column id ∷ more) =
      named_kept id.column (slice_get entries id.entry) (filter_map (required_by entries all) more) ∙ ap (λ ps. cons_option (on_named entries id) ps) (of_mentions more)

pub named_are_needed : (entries : List Entry) (q : BoundQuery) → filter is_on_column (needed entries q) ≡ filter_map (on_named entries) (named_columns q)
named_are_needed entries q = of_mentions entries (mentions q) (mentions q) ∙ ap (filter_map (on_named entries)) (named_are_mentioned q)
