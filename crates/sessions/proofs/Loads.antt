-- A load whose rows have an error.
use Rattle.std.proofs.Common.{◌≡◌, List, ℕ, Some, Result, Ok, Err, nat_le, false, find, refl, sym, subst}
use Rattle.std.specs.Result.{IfOk}
use Rattle.value.specs.Names.{Name}
use Rattle.csv_records.specs.Left.{records_of}
use Rattle.tables.specs.Loading.{TableRows}
use Rattle.tables.specs.declared.LoadError.{LoadError}
use Rattle.tables.specs.LoadErrors.{column_name}
use Rattle.store.specs.Database.{Database, columns_in, is_named}
use Rattle.store.specs.Loads.{due_rows}
use Rattle.sessions.specs.declared.reply.Reply as declared
use Rattle.sessions.specs.Reply.{Data as data_reply}
use Rattle.sessions.specs.View.{reply_of}
use Rattle.sessions.specs.State.{State, most_counted}
use Rattle.sessions.specs.Events.{data_refusal, load}
use Rattle.sessions.specs.Taking.{Takes}

module _ (s : State) (name : Name) (bytes : List ℕ) (below : nat_le most_counted s.loads ≡ false) where
  abbrev IsFirst : LoadError → Type 0
  IsFirst e = (table : Name × TableRows) × (find (is_named name) s.database.tables ≡ Some table) × (due_rows table.1 (records_of bytes) ≡ Err e)

  unchanged : {A E : Type 0} (e : LoadError) (r : Result (declared.Reply A) E) → IfOk r (λ given. reply_of given ≡ data_refusal s name e) → IsFirst e → Takes (load s name bytes) s s r
  unchanged e (Ok given) is h = rw (below, h.1, h.2) (is, refl)
  unchanged e (Err x) is h = refl

  -- it is refused by the first error of its rows
  pub data_refused : {A E : Type 0} (e : LoadError) (r : Result (declared.Reply A) E) (after : Database) → after ≡ s.database → IfOk r (λ given. reply_of given ≡ data_reply name (column_name (columns_in after.tables name) e) e)
      → IsFirst e → Takes (load s name bytes) s (record s { database = after }) r
  data_refused e r after same is h =
      subst (λ d. IfOk r (λ given. reply_of given ≡ data_reply name (column_name (columns_in d.tables name) e) e) → Takes (load s name bytes) s (record s { database = d }) r)
      (sym same) (λ is. unchanged e r is h) is
