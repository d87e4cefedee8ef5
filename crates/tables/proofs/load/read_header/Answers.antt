use Rattle.std.proofs.Common.{ℕ, ◌≡◌, true, false, List, [], ◌∷◌, Option, Some, None, Err, map, refl, sym, ap, ◌∙◌}
use Rattle.std.proofs.lemmas.Result.{err_from_is_err_and}
use Rattle.std.specs.Option.{unwrap_or}
use Rattle.std.specs.Prelude.{MatchOption}
use Rattle.csv_records.specs.Left.{Left, NextIsUneven, TakesFirst}
use Rattle.csv_records.specs.declared.RecordError.{RecordError}
use Rattle.memory.specs.declared.failure.Failure.{Failure}
use Rattle.memory.specs.declared.failure.Failure.TheVariants.{Error, OutOfMemory}
use Rattle.value.specs.Columns.{Column, column_of}
use Rattle.tables.specs.declared.LoadError.{LoadError}
use Rattle.tables.specs.declared.LoadError.TheVariants as error
use Rattle.tables.specs.Loading.{Fields, is_fault, load_of, names, reported}
use Rattle.tables.specs.Reading.{HeaderIs, Refuses}
use Rattle.tables.proofs.Follow.{refuses_unread}
use Rattle.tables.proofs.load.read_header.Goals as goal

-- a header that was not read is no error of the records
unread_header : (cols : List Column) (old new : Left) (e : Failure LoadError) → old.expected ≡ None → Refuses 0 old new e → HeaderIs cols old new (Err e)
unread_header cols old new OutOfMemory none refuses = tt
unread_header cols old new (Error e) none refuses = by_failure new.failure refuses where
  by_failure : (failure : Option (Failure RecordError)) → MatchOption failure ((Error e ≡ Error (error.Reader 0)) × NextIsUneven old) (λ why. Error e ≡ reported why 0)
      → (is_fault failure e ≡ true → (room : ℕ) → load_of cols room (unwrap_or old.records []) ≡ Err e) × ((row : ℕ) → e ≡ error.Reader row → row ≡ 0)
  by_failure None (is, next) = cc (next.1, none)
  by_failure (Some OutOfMemory) is = cc is
  by_failure (Some (Error why)) is = let same : e ≡ error.Reader 0 = cc is in rw same (λ fault. cc fault, λ row s. cc s)

no_names : (cols : List Column) (known left : Option (List Fields)) (h : Fields) → TakesFirst known left true h → names cols h ≡ false → (room : ℕ) → load_of cols room (unwrap_or known []) ≡ Err error.Header
no_names cols None left h gives other room = refl
no_names cols (Some []) left h gives other room = refl
no_names cols (Some (r ∷ rs)) left h gives other room = rw (← gives.1, other) refl

no_first : (cols : List Column) (known left : Option (List Fields)) (h : Fields) → TakesFirst known left false h → (room : ℕ) → load_of cols room (unwrap_or known []) ≡ Err error.Header
no_first cols None left h gives room = refl
no_first cols (Some []) left h gives room = refl
no_first cols (Some (r ∷ rs)) left h gives room = cc gives.0

pub returns-in_err-next_record-clause-expected : goal.returns-in_err-next_record-clause-expected
returns-in_err-next_record-clause-expected g c =
    let p = err_from_is_err_and c.from_residual.result c.from_residual.ensures.1 in
    rw p.1 tt

pub returns-in_err-next_record-clause-given : goal.returns-in_err-next_record-clause-given
returns-in_err-next_record-clause-given g c =
    let p = err_from_is_err_and c.from_residual.result c.from_residual.ensures.1 in
    rw p.1 tt

pub returns-in_err-next_record-clause-fresh : goal.returns-in_err-next_record-clause-fresh
returns-in_err-next_record-clause-fresh g c =
    let p = err_from_is_err_and c.from_residual.result c.from_residual.ensures.1 in
    rw p.1 tt

pub returns-in_err-next_record-clause-failed : goal.returns-in_err-next_record-clause-failed
returns-in_err-next_record-clause-failed g c =
    let p = err_from_is_err_and c.from_residual.result c.from_residual.ensures.1 in
    let given = c.in_err-next_record.ensures.no_more ∙ c.requires.given in
    rw (p.1, p.2) (refuses_unread _ 0 _ c.args.records.now c.next_record.new.records _ given c.in_err-next_record.ensures.refuses)

pub returns-in_err-next_record-clause-header : goal.returns-in_err-next_record-clause-header
returns-in_err-next_record-clause-header g c =
    let p = err_from_is_err_and c.from_residual.result c.from_residual.ensures.1 in
    rw (p.1, p.2) (unread_header (map column_of c.args.columns.now) c.args.records.now c.next_record.new.records _ c.requires.expected c.in_err-next_record.ensures.refuses)

pub returns-then-has_names-clause-expected : goal.returns-then-has_names-clause-expected
returns-then-has_names-clause-expected g c =
    let gives = rw (c.if-branch.true, ← c.record.ensures) at c.in_ok-next_record.ensures.gives in
    (gives.1 refl).1 ∙ ap Some (c.has_names.ensures.len c.if-has_names.true)

pub returns-then-has_names-clause-given : goal.returns-then-has_names-clause-given
returns-then-has_names-clause-given g c = rw (c.if-branch.true, c.requires.given) at c.in_ok-next_record.ensures.given

pub returns-then-has_names-clause-fresh : goal.returns-then-has_names-clause-fresh
returns-then-has_names-clause-fresh g c = c.in_ok-next_record.ensures.goes_on ∙ c.requires.fresh

pub returns-then-has_names-clause-failed : goal.returns-then-has_names-clause-failed
returns-then-has_names-clause-failed g c = rw (c.in_ok-next_record.ensures.goes_on ∙ c.requires.fresh) tt

pub returns-then-has_names-clause-header : goal.returns-then-has_names-clause-header
returns-then-has_names-clause-header g c =
    let gives = rw (c.if-branch.true, ← c.record.ensures) at c.in_ok-next_record.ensures.gives in
    (c.record.result, sym c.has_names.ensures.names ∙ c.if-has_names.true, gives.0)
