-- Rows that are added, and reports of roles and tables.
use Rattle.std.proofs.Common.{◌≡◌, ℕ, ◌+◌, ◌<◌, ◌≤◌, Bool, true, false, ◌||◌, cond, List, [], ◌∷◌, ◌++◌, append_assoc, append-nil, length, map, filter, get_or, take, Result, Ok, Err, OnOk, Bor, refl, sym, ap, ◌∙◌, subst}
use Rattle.std.specs.Prelude.{pos}
use Rattle.std.specs.List.{flat_map, list_any}
use Rattle.std.proofs.lemmas.List.{map-append, take_all, take_more}
use Rattle.std.proofs.lemmas.List.Concat.{flat_map-append}
use Rattle.std.proofs.lemmas.List.Elements.{filter-append}
use Rattle.std.proofs.lemmas.List.Folds.{list_any-append}
use Rattle.value.specs.Datum.{Datum, Row, int, text}
use Rattle.value.specs.Names.{Name}
use Rattle.answer_rows.specs.Growing.{Growing, finished, only, with_value}
use Rattle.row_objects.specs.Objects.{Table}
use Rattle.store.specs.Database.{Database, rows_of}
use Rattle.access_matrix.specs.Changes.{change_row, change_rows, columns_gained, either, gains, is_changed, names_value, opens, pairs, roles_of, rows_gained, tables_of}
use Rattle.access_matrix.specs.Matrix.{columns_words, count, matrix_row}
use Rattle.access_matrix.specs.Reading.{read_columns, reads}
use Rattle.access_matrix.specs.Reasons.{reason_words}
use Rattle.access_matrix.specs.Sights.{IsGain, IsReported, is_any, is_opened}
use Rattle.access_matrix.specs.declared.gains.Gain.{Gain}
use Rattle.access_matrix.proofs.Gained.{any_gain}
use Rattle.access_matrix.specs.declared.report.Report.{Report}

-- ---- one row

pub only_of : (g : Growing) → g.unfinished ≡ [] → g ≡ only g.rows
only_of g h = ap (λ u. let r : Growing = record { rows = g.rows; unfinished = u } in r) h

-- six values, and the end of the row
pub row_done : {E : Type 0} (res : Result (Unit {0}) E) (g0 g1 g2 g3 g4 g5 g6 g7 : Growing) (a b c d e f : Datum) → g0.unfinished ≡ []
    → g1 ≡ with_value g0 a → g2 ≡ with_value g1 b → g3 ≡ with_value g2 c → g4 ≡ with_value g3 d → g5 ≡ with_value g4 e → g6 ≡ with_value g5 f
    → OnOk res (g7 ≡ finished g6) → OnOk res (g7 ≡ only (g0.rows ++ (a ∷ b ∷ c ∷ d ∷ e ∷ f ∷ []) ∷ []))
row_done (Err error) g0 g1 g2 g3 g4 g5 g6 g7 a b c d e f h h1 h2 h3 h4 h5 h6 h7 = tt
row_done (Ok u) g0 g1 g2 g3 g4 g5 g6 g7 a b c d e f h h1 h2 h3 h4 h5 h6 h7 =
    h7 ∙ ap (λ g. finished g) (h6 ∙ ap (λ g. with_value g f) (h5 ∙ ap (λ g. with_value g e) (h4 ∙ ap (λ g. with_value g d) (h3 ∙ ap (λ g. with_value g c) (h2 ∙ ap (λ g. with_value g b) (h1 ∙ ap (λ g. with_value g a) (only_of g0 h)))))))

-- the same row by other words
pub row_is : {E : Type 0} (res : Result (Unit {0}) E) (g : Growing) (rows : List Row) (row other : Row) → row ≡ other → OnOk res (g ≡ only (rows ++ row ∷ [])) → OnOk res (g ≡ only (rows ++ other ∷ []))
row_is (Err error) g rows row other same h = tt
row_is (Ok u) g rows row other same h = h ∙ ap (λ r. only (rows ++ r ∷ [])) same

-- ---- the row of a role and a table

pub matrix_row_is : (db : Database) (role : Name) (t : Table) (name columns why : List ℕ) (read all : ℕ) → name ≡ t.name → columns ≡ columns_words t (read_columns db.catalog role t)
    → read ≡ length (filter (reads db.catalog role t) (rows_of db t.name)) → all ≡ length (rows_of db t.name) → why ≡ reason_words db.catalog role t
    → text role ∷ text name ∷ text columns ∷ int (pos read) ∷ int (pos all) ∷ text why ∷ [] ≡ matrix_row db role t
matrix_row_is db role t name columns why read all e1 e2 e3 e4 e5 =
    ap (λ n. text role ∷ text n ∷ text columns ∷ int (pos read) ∷ int (pos all) ∷ text why ∷ []) e1
    ∙ ap (λ n. text role ∷ text t.name ∷ text n ∷ int (pos read) ∷ int (pos all) ∷ text why ∷ []) e2
    ∙ ap (λ n. text role ∷ text t.name ∷ text (columns_words t (read_columns db.catalog role t)) ∷ int (pos n) ∷ int (pos all) ∷ text why ∷ []) e3
    ∙ ap (λ n. text role ∷ text t.name ∷ text (columns_words t (read_columns db.catalog role t)) ∷ count (filter (reads db.catalog role t) (rows_of db t.name)) ∷ int (pos n) ∷ text why ∷ []) e4
    ∙ ap (λ n. text role ∷ text t.name ∷ text (columns_words t (read_columns db.catalog role t)) ∷ count (filter (reads db.catalog role t) (rows_of db t.name)) ∷ count (rows_of db t.name) ∷ text n ∷ []) e5

pub change_row_is : (old new : Database) (pair : Name × Name) (more less : ℕ) (opened closed : List Name) → more ≡ length (rows_gained old new pair.0 pair.1) → less ≡ length (rows_gained new old pair.0 pair.1)
    → opened ≡ columns_gained old new pair.0 pair.1 → closed ≡ columns_gained new old pair.0 pair.1
    → text pair.0 ∷ text pair.1 ∷ int (pos more) ∷ int (pos less) ∷ names_value opened ∷ names_value closed ∷ [] ≡ change_row old new pair
change_row_is old new pair more less opened closed e1 e2 e3 e4 =
    ap (λ n. text pair.0 ∷ text pair.1 ∷ int (pos n) ∷ int (pos less) ∷ names_value opened ∷ names_value closed ∷ []) e1
    ∙ ap (λ n. text pair.0 ∷ text pair.1 ∷ count (rows_gained old new pair.0 pair.1) ∷ int (pos n) ∷ names_value opened ∷ names_value closed ∷ []) e2
    ∙ ap (λ n. text pair.0 ∷ text pair.1 ∷ count (rows_gained old new pair.0 pair.1) ∷ count (rows_gained new old pair.0 pair.1) ∷ names_value n ∷ names_value closed ∷ []) e3
    ∙ ap (λ n. text pair.0 ∷ text pair.1 ∷ count (rows_gained old new pair.0 pair.1) ∷ count (rows_gained new old pair.0 pair.1) ∷ names_value (columns_gained old new pair.0 pair.1) ∷ names_value n ∷ []) e4

-- ---- the row of a change

pub changed_by : {A : Type 0} (old new : Database) (pair : Name × Name) (more less : Gain A) → IsGain old new pair.0 pair.1 more → IsGain new old pair.0 pair.1 less → (is_any more || is_any less) ≡ is_changed old new pair
changed_by old new pair more less m l =
    ap (λ b. b || is_any less) (any_gain old new pair.0 pair.1 more m)
    ∙ ap (λ b. gains old new pair.0 pair.1 || b) (any_gain new old pair.0 pair.1 less l)

module _ (old new : Database) (pair : Name × Name) (before after : Growing) where
  pub one_row : is_changed old new pair ≡ true → after ≡ only (before.rows ++ change_row old new pair ∷ [])
      → after ≡ only (before.rows ++ map (λ p. change_row old new p) (filter (λ p. is_changed old new p) (pair ∷ [])))
  one_row t h = h ∙ ap (λ b. only (before.rows ++ map (λ p. change_row old new p) (cond b (pair ∷ []) []))) (sym t)

  pub no_row : is_changed old new pair ≡ false → before.unfinished ≡ [] → after ≡ before → after ≡ only (before.rows ++ map (λ p. change_row old new p) (filter (λ p. is_changed old new p) (pair ∷ [])))
  no_row t u h =
      h ∙ only_of before u ∙ ap (λ rows. only rows) (sym (append-nil before.rows))
      ∙ ap (λ b. only (before.rows ++ map (λ p. change_row old new p) (cond b (pair ∷ []) []))) (sym t)

-- ---- reports

or_assoc : (a b c : Bool) → ((a || b) || c) ≡ (a || (b || c))
or_assoc true b c = refl
or_assoc false b c = refl

or_nothing : (a : Bool) → a ≡ (a || false)
or_nothing true = refl
or_nothing false = refl

-- it opens something, or not
pub opened : (a b : Bool) → b ≡ true → true ≡ (a || (b || false))
opened true b h = refl
opened false b h = ap (λ b. b || false) (sym h)

pub shut : (a b : Bool) → b ≡ false → a ≡ (a || (b || false))
shut a b h = or_nothing a ∙ ap (λ b. a || (b || false)) (sym h)

module _ {A : Type 0} (old new : Database) (allowed : List (Name × Name)) where
  pub reported_none : (a : Report A) → a.rows.unfinished ≡ [] → IsReported old new allowed [] a a
  reported_none a h = record { rows = only_of a.rows h ∙ ap (λ rows. only rows) (sym (append-nil a.rows.rows)); opens = or_nothing a.opens }

  pub reported_both : (ps qs : List (Name × Name)) (a b c : Report A) → IsReported old new allowed ps a b → IsReported old new allowed qs b c → IsReported old new allowed (ps ++ qs) a c
  reported_both ps qs a b c p q = record {
    rows =
        q.rows
        ∙ ap (λ (g : Growing). only (g.rows ++ map (λ pair. change_row old new pair) (filter (λ pair. is_changed old new pair) qs))) p.rows
        ∙ ap (λ rows. only rows) (
        append_assoc a.rows.rows (map (λ pair. change_row old new pair) (filter (λ pair. is_changed old new pair) ps)) (map (λ pair. change_row old new pair) (filter (λ pair. is_changed old new pair) qs))
        ∙ ap (λ rows. a.rows.rows ++ rows) (
        sym (map-append (λ pair. change_row old new pair) (filter (λ pair. is_changed old new pair) ps) (filter (λ pair. is_changed old new pair) qs))
        ∙ ap (λ pairs. map (λ pair. change_row old new pair) pairs) (sym (filter-append (λ pair. is_changed old new pair) ps qs))));
    opens =
        q.opens
        ∙ ap (λ o. o || list_any (λ pair. is_opened old new allowed pair) qs) p.opens
        ∙ or_assoc a.opens (list_any (λ pair. is_opened old new allowed pair) ps) (list_any (λ pair. is_opened old new allowed pair) qs)
        ∙ ap (λ o. a.opens || o) (sym (list_any-append (λ pair. is_opened old new allowed pair) ps qs));
  }

  -- after one more item of a loop, whose pairs are those that f makes of it
  module _ {Y : Type 0} (f : Y → List (Name × Name)) (ys : List Y) (k : ℕ) (a b : Report A) (so_far : IsReported old new allowed (flat_map f (take k ys)) a b) where
    pub reported_next : (y : Y) → k < length ys → y ≡ get_or ys k y → (c : Report A) → IsReported old new allowed (f y) b c → IsReported old new allowed (flat_map f (take (k + 1) ys)) a c
    reported_next y more is c h =
        let items : take (k + 1) ys ≡ take k ys ++ y ∷ [] = take_more ys k y more ∙ ap (λ y. take k ys ++ y ∷ []) (sym is) in
        let pairs : flat_map f (take (k + 1) ys) ≡ flat_map f (take k ys) ++ f y = ap (λ l. flat_map f l) items ∙ flat_map-append f (take k ys) (y ∷ []) ∙ ap (λ l. flat_map f (take k ys) ++ l) (append-nil (f y)) in
        subst (λ (pairs : List (Name × Name)). IsReported old new allowed pairs a c) (sym pairs) (reported_both (flat_map f (take k ys)) (f y) a b c so_far h)

    pub reported_over : length ys ≤ k → IsReported old new allowed (flat_map f ys) a b
    reported_over none = subst (λ (items : List Y). IsReported old new allowed (flat_map f items) a b) (take_all k ys none) so_far

  module _ {Y : Type 0} (f : Y → Name × Name) (ys : List Y) (k : ℕ) (a b : Report A) (so_far : IsReported old new allowed (map f (take k ys)) a b) where
    pub pair_at : (d : Y) → k < length ys → (c : Report A) → IsReported old new allowed (f (get_or ys k d) ∷ []) b c → IsReported old new allowed (map f (take (k + 1) ys)) a c
    pair_at d more c h =
        let pairs : map f (take (k + 1) ys) ≡ map f (take k ys) ++ f (get_or ys k d) ∷ [] = ap (λ l. map f l) (take_more ys k d more) ∙ map-append f (take k ys) (get_or ys k d ∷ []) in
        subst (λ (pairs : List (Name × Name)). IsReported old new allowed pairs a c) (sym pairs) (reported_both (map f (take k ys)) (f (get_or ys k d) ∷ []) a b c so_far h)

    pub pairs_over : length ys ≤ k → IsReported old new allowed (map f ys) a b
    pairs_over none = subst (λ (items : List Y). IsReported old new allowed (map f items) a b) (take_all k ys none) so_far

lent_tables : (role : Name) (tables : List (Bor Name)) → map {B = Name × Name} (λ table. (role, table.now)) tables ≡ map {B = Name × Name} (λ table. (role, table)) (map (λ t. t.now) tables)
lent_tables role [] = refl
lent_tables role (t ∷ ts) = ap (λ l. (role, t.now) ∷ l) (lent_tables role ts)

-- pairs of names that are lent
pub lent_pairs : (roles tables : List (Bor Name))
    → flat_map {A = Name × Name} (λ role. map (λ table. (role.now, table.now)) tables) roles ≡ flat_map {A = Name × Name} (λ role. map (λ table. (role, table)) (map (λ t. t.now) tables)) (map (λ r. r.now) roles)
lent_pairs [] tables = refl
lent_pairs (r ∷ rs) tables =
    ap (λ (l : List (Name × Name)). l ++ flat_map {A = Name × Name} (λ role. map (λ table. (role.now, table.now)) tables) rs) (lent_tables r.now tables)
    ∙ ap (λ (l : List (Name × Name)). map {B = Name × Name} (λ table. (r.now, table)) (map (λ t. t.now) tables) ++ l) (lent_pairs rs tables)

-- all pairs of two databases, from the names that are found of either
pub all_pairs : (old new : Database) (roles tables : List (Bor Name)) → map (λ n. n.now) roles ≡ either (roles_of old) (roles_of new) → map (λ n. n.now) tables ≡ either (tables_of old) (tables_of new)
    → flat_map {A = Name × Name} (λ role. map (λ table. (role.now, table.now)) tables) roles ≡ pairs old new
all_pairs old new roles tables r t =
    lent_pairs roles tables
    ∙ ap (λ names. flat_map {A = Name × Name} (λ role. map (λ table. (role, table)) names) (map (λ n. n.now) roles)) t
    ∙ ap (λ names. flat_map {A = Name × Name} (λ role. map (λ table. (role, table)) (either (tables_of old) (tables_of new))) names) r

-- the report of all pairs, after one of none
module _ {A : Type 0} (old new : Database) (allowed : List (Name × Name)) (found : List (Name × Name)) (all : found ≡ pairs old new) (before after : Report A) (h : IsReported old new allowed found before after) where
  pub reported_rows : before.rows ≡ only [] → after.rows.rows ≡ change_rows old new
  reported_rows none =
      ap (λ g. g.rows) h.rows
      ∙ ap (λ (g : Growing). g.rows ++ map (λ pair. change_row old new pair) (filter (λ pair. is_changed old new pair) found)) none
      ∙ ap (λ pairs. map (λ pair. change_row old new pair) (filter (λ pair. is_changed old new pair) pairs)) all

  pub reported_opens : before.opens ≡ false → after.opens ≡ opens old new allowed
  reported_opens shut = h.opens ∙ ap (λ b. b || list_any (λ pair. is_opened old new allowed pair) found) shut ∙ ap (λ pairs. list_any (λ pair. is_opened old new allowed pair) pairs) all
