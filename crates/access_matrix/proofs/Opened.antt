-- A change that opens nothing: what is read after it was read before it.
use Rattle.std.proofs.Common.{◌≡◌, ℕ, zero, suc, ◌+◌, ◌<◌, ◌≤◌, Bool, true, false, not, ◌&&◌, ◌||◌, cond, List, [], ◌∷◌, length, map, filter, find, Option, Some, None, bytes_eq, refl, sym, ap, ◌∙◌, true≢false, arith, ◌⊎◌, inl, inr, ⊎_elim}
use Rattle.std.specs.Prelude.{is_some, slice_get}
use Rattle.std.specs.List.{flat_map, list_any, range_with_len}
use Rattle.std.proofs.lemmas.Bool.{and_from, and_parts, or_parts, or_left, or_right, both_ways, cases_lt, not-false, not_from_false}
use Rattle.std.proofs.lemmas.List.Folds.{list_any-append}
use Rattle.std.proofs.lemmas.Map.Views.{any-filter_same}
use Rattle.std.proofs.lemmas.Option.{slice_get_within}
use Rattle.value.specs.Datum.{Row}
use Rattle.value.specs.Names.{Name}
use Rattle.row_objects.proofs.Paths.{text_same}
use Rattle.row_objects.specs.Objects.{Table}
use Rattle.catalog.specs.Catalog.{Catalog, is_role, table_named}
use Rattle.store.specs.Database.{Database, rows_of}
use Rattle.access_matrix.specs.Changes.{are_any, columns_gained, either, gains, is_among, is_pair, opens, roles_of, rows_gained, tables_of}
use Rattle.access_matrix.specs.Reading.{columns_read, reads_cell, reads_of, reads_row}

-- ---- names of either list

-- what is found has its name among the names
pub found_among : {X : Type 0} (f : X → Name) (name : Name) (xs : List X) → is_some (find (λ x. bytes_eq name (f x)) xs) ≡ is_among name (map f xs)
found_among f name [] = refl
found_among f name (x ∷ xs) = go (bytes_eq name (f x)) (found_among f name xs)
  where
    go : (b : Bool) → is_some (find (λ x. bytes_eq name (f x)) xs) ≡ is_among name (map f xs) → is_some (cond b (Some x) (find (λ x. bytes_eq name (f x)) xs)) ≡ (b || is_among name (map f xs))
    go true h = refl
    go false h = h

absent : (name : Name) (first : List Name) → is_among name first ≡ false → (other : Name) → bytes_eq name other ≡ true → not (is_among other first) ≡ true
absent name first none other same = not_from_false _ (ap (λ n. is_among n first) (sym (text_same name other same)) ∙ none)

among_either : (name : Name) (first second : List Name) → is_among name second ≡ true → is_among name (either first second) ≡ true
among_either name first second h =
    list_any-append (bytes_eq name) first (filter (λ other. not (is_among other first)) second) ∙ go (is_among name first) refl
  where
    go : (b : Bool) → is_among name first ≡ b → (is_among name first || is_among name (filter (λ other. not (is_among other first)) second)) ≡ true
    go true e = or_left _ _ e
    go false e = or_right _ _ (any-filter_same (bytes_eq name) (λ other. not (is_among other first)) true (absent name first e) second ∙ h)

-- ---- each pair

module _ (f : Name × Name → Bool) (role table : Name) where
  each_table : (tables : List Name) → is_among table tables ≡ true → list_any f (map (λ t. (role, t)) tables) ≡ false → f (role, table) ≡ false
  each_table [] among none = absurd (true≢false (sym among))
  each_table (t ∷ ts) among none =
      let parts = or_parts (f (role, t)) (list_any f (map (λ t. (role, t)) ts)) none in
      go (bytes_eq table t) refl among parts (each_table ts)
    where
      go : (b : Bool) → bytes_eq table t ≡ b → (b || is_among table ts) ≡ true → (f (role, t) ≡ false) × (list_any f (map (λ t. (role, t)) ts) ≡ false)
          → (is_among table ts ≡ true → list_any f (map (λ t. (role, t)) ts) ≡ false → f (role, table) ≡ false) → f (role, table) ≡ false
      go true e h parts more = ap (λ t. f (role, t)) (text_same table t e) ∙ parts.0
      go false e h parts more = more h parts.1

  each_pair : (roles tables : List Name) → is_among role roles ≡ true → is_among table tables ≡ true → list_any f (flat_map (λ r. map (λ t. (r, t)) tables) roles) ≡ false → f (role, table) ≡ false
  each_pair [] tables among there none = absurd (true≢false (sym among))
  each_pair (r ∷ rs) tables among there none =
      let parts = or_parts (list_any f (map (λ t. (r, t)) tables)) (list_any f (flat_map (λ r. map (λ t. (r, t)) tables) rs))
      (sym (list_any-append f (map (λ t. (r, t)) tables) (flat_map (λ r. map (λ t. (r, t)) tables) rs)) ∙ none) in
      go (bytes_eq role r) refl among parts (λ among none. each_pair rs tables among there none)
    where
      go : (b : Bool) → bytes_eq role r ≡ b → (b || is_among role rs) ≡ true
          → (list_any f (map (λ t. (r, t)) tables) ≡ false) × (list_any f (flat_map (λ r. map (λ t. (r, t)) tables) rs) ≡ false)
          → (is_among role rs ≡ true → list_any f (flat_map (λ r. map (λ t. (r, t)) tables) rs) ≡ false → f (role, table) ≡ false) → f (role, table) ≡ false
      go true e h parts more = each_table tables there (ap (λ r. list_any f (map (λ t. (r, t)) tables)) (text_same role r e) ∙ parts.0)
      go false e h parts more = more h parts.1

-- ---- what is gained

pub any_kept : {X : Type 0} (p : X → Bool) (xs : List X) → are_any (filter p xs) ≡ list_any p xs
any_kept p [] = refl
any_kept p (x ∷ xs) = go (p x) (any_kept p xs)
  where
    go : (b : Bool) → are_any (filter p xs) ≡ list_any p xs → are_any (cond b (x ∷ filter p xs) (filter p xs)) ≡ (b || list_any p xs)
    go true h = refl
    go false h = h

leb_cases : (a b : ℕ) → a ≤ b → (a ≡ b) ⊎ (a + 1 ≤ b)
leb_cases a b l = ⊎_elim (λ h. inr (omega arith)) (λ h. inl (omega arith)) (cases_lt a b)

-- a number of the range that passes
in_range : (p : ℕ → Bool) (number first n : ℕ) → first ≤ number → number < first + n → p number ≡ true → list_any p (range_with_len first n) ≡ true
in_range p number first zero low high h = absurd (omega arith)
in_range p number first (suc n) low high h = ⊎_elim
    (λ e. or_left (p first) _ (ap p e ∙ h))
    (λ l. or_right (p first) _ (in_range p number (first + 1) n l (omega arith) h))
    (leb_cases first number low)

row_before : (now before : ℕ → Bool) (number n : ℕ) → number < n → now number ≡ true → are_any (filter (λ k. now k && not (before k)) (range_with_len 0 n)) ≡ false → before number ≡ true
row_before now before number n below h none = go (before number) refl
  where
    go : (b : Bool) → before number ≡ b → b ≡ true
    go true e = refl
    go false e = absurd (both_ways _ (sym (any_kept (λ k. now k && not (before k)) (range_with_len 0 n)) ∙ none)
        (in_range (λ k. now k && not (before k)) number 0 n (omega arith) (omega arith) (and_from (now number) (not (before number)) h (not_from_false _ e))))

column_in : (column : Name) (before now : List Name) → is_among column now ≡ true → list_any (λ c. not (is_among c before)) now ≡ false → is_among column before ≡ true
column_in column before [] among none = absurd (true≢false (sym among))
column_in column before (c ∷ cs) among none =
    let parts = or_parts (not (is_among c before)) (list_any (λ c. not (is_among c before)) cs) none in
    go (bytes_eq column c) refl among parts (column_in column before cs)
  where
    go : (b : Bool) → bytes_eq column c ≡ b → (b || is_among column cs) ≡ true → (not (is_among c before) ≡ false) × (list_any (λ c. not (is_among c before)) cs ≡ false)
        → (is_among column cs ≡ true → list_any (λ c. not (is_among c before)) cs ≡ false → is_among column before ≡ true) → is_among column before ≡ true
    go true e h parts more = ap (λ c. is_among c before) (text_same column c e) ∙ not-false _ parts.0
    go false e h parts more = more h parts.1

column_before : (column : Name) (now before : List Name) → is_among column now ≡ true → are_any (filter (λ c. not (is_among c before)) now) ≡ false → is_among column before ≡ true
column_before column now before among none = column_in column before now among (sym (any_kept (λ c. not (is_among c before)) now) ∙ none)

-- ---- what is read

module _ (cat : Catalog) (role : Name) where
  table_there : (t : Option Table) (row : Option Row) → reads_of cat role t row ≡ true → is_some t ≡ true
  table_there None row h = absurd (true≢false (sym h))
  table_there (Some t) row h = refl

  row_there : (t : Option Table) (row : Option Row) → reads_of cat role t row ≡ true → (r : Row) × (row ≡ Some r)
  row_there None row h = absurd (true≢false (sym h))
  row_there (Some t) None h = absurd (true≢false (sym h))
  row_there (Some t) (Some r) h = (r, refl)

only_allowed : (g a : Bool) → (g && not a) ≡ false → a ≡ false → g ≡ false
only_allowed false a h e = refl
only_allowed true false h e = absurd (true≢false h)
only_allowed true true h e = absurd (true≢false e)

pub nothing_opens : (old new : Database) (allowed : List (Name × Name)) (role table column : Name) (number : ℕ) → opens old new allowed ≡ false
    → list_any (λ other. is_pair (role, table) other) allowed ≡ false → reads_cell new role table number column ≡ true → reads_cell old role table number column ≡ true
nothing_opens old new allowed role table column number closed free h =
    let both : (reads_row new role table number ≡ true) × (is_among column (columns_read new role table) ≡ true) = and_parts (reads_row new role table number) (is_among column (columns_read new role table)) h in
    let row : (is_role new.catalog role ≡ true) × (reads_of new.catalog role (table_named table new.catalog) (slice_get (rows_of new table) number) ≡ true)
    = and_parts (is_role new.catalog role) (reads_of new.catalog role (table_named table new.catalog) (slice_get (rows_of new table) number)) both.0 in
    let there : is_some (table_named table new.catalog) ≡ true = table_there new.catalog role (table_named table new.catalog) (slice_get (rows_of new table) number) row.1 in
    let one : (r : Row) × (slice_get (rows_of new table) number ≡ Some r) = row_there new.catalog role (table_named table new.catalog) (slice_get (rows_of new table) number) row.1 in
    let role_among : is_among role (either (roles_of old) (roles_of new)) ≡ true
    = among_either role (roles_of old) (roles_of new) (sym (found_among (λ r. r.name) role new.catalog.roles) ∙ row.0) in
    let table_among : is_among table (either (tables_of old) (tables_of new)) ≡ true
    = among_either table (tables_of old) (tables_of new) (sym (found_among (λ t. t.name) table new.catalog.tables) ∙ there) in
    let shut : (gains old new role table && not (list_any (λ other. is_pair (role, table) other) allowed)) ≡ false
    = each_pair (λ pair. gains old new pair.0 pair.1 && not (list_any (λ other. is_pair pair other) allowed)) role table (either (roles_of old) (roles_of new)) (either (tables_of old) (tables_of new)) role_among table_among closed in
    let none : (are_any (rows_gained old new role table) ≡ false) × (are_any (columns_gained old new role table) ≡ false)
    = or_parts (are_any (rows_gained old new role table)) (are_any (columns_gained old new role table)) (only_allowed (gains old new role table) (list_any (λ other. is_pair (role, table) other) allowed) shut free) in
    and_from (reads_row old role table number) (is_among column (columns_read old role table))
    (row_before (reads_row new role table) (reads_row old role table) number (length (rows_of new table)) (slice_get_within (rows_of new table) number one.0 one.1) both.0 none.0)
    (column_before column (columns_read new role table) (columns_read old role table) both.1 none.1)
