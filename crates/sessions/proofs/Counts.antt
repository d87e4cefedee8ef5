-- The numbers of changes and loads after an event.
use Rattle.std.proofs.Common.{◌≡◌, ◌⊎◌, inl, inr, ℕ, ◌+◌, ◌<◌, ◌≤◌, Bool, true, false, nat_le, List, Option, Some, None, Result, Ok, Err, find, if◌then◌else◌, refl, sym, subst, ap, ◌∙◌, arith}
use Rattle.memory.proofs.Cases.{ok_is}
use Rattle.value.specs.Datum.{Row}
use Rattle.value.specs.Names.{Name}
use Rattle.value.specs.declared.refusal.Refusal.{Refusal}
use Rattle.value.specs.declared.refusal.Refusal.TheVariants as r
use Rattle.csv_records.specs.Left.{records_of}
use Rattle.row_ast.specs.Statements.{Statement}
use Rattle.tables.specs.Loading.{TableRows}
use Rattle.tables.specs.declared.LoadError.{LoadError}
use Rattle.syntax.specs.Parsing.{parsed_statement}
use Rattle.syntax.specs.declared.error.ParseError.{ParseError}
use Rattle.replies.specs.Reply as engine
use Rattle.catalog.specs.Catalog.{Catalog}
use Rattle.catalog.specs.Changes.{after, changed, counted}
use Rattle.catalog.specs.Checks.{unless as unless_refused}
use Rattle.store.specs.Database.{Database, changed_database, is_named, with_catalog}
use Rattle.store.specs.Loads.{due_rows}
use Rattle.sessions.specs.declared.reply.Reply as declared
use Rattle.sessions.specs.Events.{Step, act_in, change, changed_state, cursor_refusal, database_after, if_parsed, keep, keep_rows, load, load_into, loaded_state, or_refusal, settled, unless}
use Rattle.sessions.specs.Reply.{Reply, refused_by}
use Rattle.sessions.specs.State.{Session, State, current_role, most_counted, session_numbered}
use Rattle.sessions.specs.Taking.{Takes}

module _ (s : State) where
  -- database and loads are as before
  abbrev pub IsSameData : State → Type 0
  IsSameData new = (new.database ≡ s.database) × (new.loads ≡ s.loads)

  -- they are; or no number is less, and one is more
  abbrev pub IsLater : State → Type 0
  IsLater new = IsSameData new
      ⊎ ((s.database.catalog.change_number ≤ new.database.catalog.change_number) × (s.loads ≤ new.loads) × (s.database.catalog.change_number + s.loads < new.database.catalog.change_number + new.loads))

  abbrev Goes : Result Step Reply → Type 0
  Goes stated = IsLater (settled s stated).1

  in_step : (P : State → Type 0) → P s → (o : Option Session) (act : Session → Result Step Reply) → ((x : Session) → P (settled s (act x)).1) → P (settled s (act_in act o)).1
  in_step P same None act h = same
  in_step P same (Some x) act h = h x

  -- ---- an accepted statement counts

  abbrev Counts : Database → Type 0
  Counts d = d.catalog.change_number ≡ s.database.catalog.change_number + 1

  numbered : (actor : Name) (statement : Statement) (o : Option Refusal) (cat : Catalog) → unless_refused o (counted s.database.catalog (after s.database.catalog actor statement)) ≡ Ok cat → cat.change_number ≡ s.database.catalog.change_number + 1
  numbered actor statement (Some why) cat h = absurd (cc)
  numbered actor statement None cat h = ap (λ (c : Catalog). c.change_number) (sym (ok_is _ cat h))

  catalog_counts : (statement : Statement) (stated : Result Catalog Refusal) (d : Database) → ((cat : Catalog) → stated ≡ Ok cat → cat.change_number ≡ s.database.catalog.change_number + 1) → or_refusal (with_catalog s.database statement stated) ≡ Ok d → Counts d
  catalog_counts statement (Err why) d h e = absurd (cc)
  catalog_counts statement (Ok cat) d h e = ap (λ (x : Database). x.catalog.change_number) (sym (ok_is _ d e)) ∙ h cat refl

  text_counts : (role : Name) (tree : Result Statement ParseError) (d : Database) → if_parsed tree (λ statement. or_refusal (changed_database s.database role statement)) ≡ Ok d → Counts d
  text_counts role (Err fault) d e = absurd (cc)
  text_counts role (Ok statement) d e = catalog_counts statement (changed s.database.catalog role statement) d (λ cat is. numbered role statement _ cat is) e

  state_goes : (stated : Result Database Reply) → ((d : Database) → stated ≡ Ok d → Counts d) → Goes (changed_state s stated)
  state_goes (Err refusal) h = inl (refl, refl)
  state_goes (Ok d) h = let e = h d refl in inr (omega (arith, e), omega arith, omega (arith, e))

  change_goes : (n : ℕ) (text : List ℕ) → Goes (change s n text)
  change_goes n text = in_step IsLater (inl (refl, refl)) (session_numbered n s) (λ x. changed_state s (database_after s.database (current_role x) text))
      (λ x. state_goes (database_after s.database (current_role x) text) (λ d is. text_counts (current_role x) (parsed_statement text) d is))

  -- ---- an accepted load counts

  rows_go : (table : Name) (rows : Result (List Row) LoadError) → Goes (loaded_state s table rows)
  rows_go table (Err e) = inl (refl, refl)
  rows_go table (Ok rows) = inr (omega arith, omega arith, omega arith)

  into_goes : (table : Name) (bytes : List ℕ) (o : Option (Name × TableRows)) → Goes (load_into s table bytes o)
  into_goes table bytes None = inl (refl, refl)
  into_goes table bytes (Some t) = rows_go table (due_rows t.1 (records_of bytes))

  if_goes : (b : Bool) (x y : Result Step Reply) → Goes x → Goes y → Goes (if b then x else y)
  if_goes true x y p q = p
  if_goes false x y p q = q

  load_goes : (table : Name) (bytes : List ℕ) → Goes (load s table bytes)
  load_goes table bytes =
      if_goes (nat_le most_counted s.loads) (Err (refused_by r.ProgramLimitExceeded)) (load_into s table bytes (find (is_named table) s.database.tables)) (inl (refl, refl)) (into_goes table bytes (find (is_named table) s.database.tables))

  -- ---- a cursor is made of rows

  rows_kept : (n : ℕ) (x : Session) (name : Name) (given : engine.Reply) → IsSameData (keep_rows s n x name given).1
  rows_kept n x name (engine.Rows headings rows) = (refl, refl)
  rows_kept n x name (engine.Refused code offset) = (refl, refl)
  rows_kept n x name (engine.Denied column table) = (refl, refl)
  rows_kept n x name (engine.Faulted fault) = (refl, refl)

  unless_stays : (o : Option Refusal) (step : Step) → IsSameData step.1 → IsSameData (settled s (unless o step)).1
  unless_stays None step h = h
  unless_stays (Some code) step h = (refl, refl)

  keep_stays : (n : ℕ) (name : Name) (given : engine.Reply) → IsSameData (settled s (keep s n name given)).1
  keep_stays n name given =
      in_step IsSameData (refl, refl) (session_numbered n s) (λ x. unless (cursor_refusal x name) (keep_rows s n x name given)) (λ x. unless_stays (cursor_refusal x name) (keep_rows s n x name given) (rows_kept n x name given))

  -- ---- the calls

  takes_step : {A E : Type 0} (P : State → Type 0) → P s → (stated : Result Step Reply) → P (settled s stated).1 → (new : State) (result : Result (declared.Reply A) E) → Takes stated s new result → P new
  takes_step P same stated goes new (Ok given) h = subst P (sym h.1) goes
  takes_step P same stated goes new (Err e) h = subst P (sym h) same

  pub change_later : {A E : Type 0} (n : ℕ) (text : List ℕ) (new : State) (result : Result (declared.Reply A) E) → Takes (change s n text) s new result → IsLater new
  change_later n text new result h = takes_step IsLater (inl (refl, refl)) (change s n text) (change_goes n text) new result h

  pub load_later : {A E : Type 0} (table : Name) (bytes : List ℕ) (new : State) (result : Result (declared.Reply A) E) → Takes (load s table bytes) s new result → IsLater new
  load_later table bytes new result h = takes_step IsLater (inl (refl, refl)) (load s table bytes) (load_goes table bytes) new result h

  pub keep_same : {A E : Type 0} (n : ℕ) (name : Name) (given : engine.Reply) (new : State) (result : Result (declared.Reply A) E) → Takes (keep s n name given) s new result → IsSameData new
  keep_same n name given new result h = takes_step IsSameData (refl, refl) (keep s n name given) (keep_stays n name given) new result h
