-- The entries of tables after others.
use Rattle.std.proofs.Common.{◌≡◌, List, [], ◌∷◌, ◌++◌, append-nil, Result, Ok, Err, refl, ap}
use Rattle.memory.specs.Results.{and_then, first_then}
use Rattle.memory.proofs.Each.{after, after_first}
use Rattle.catalog.specs.Catalog.{Catalog}
use Rattle.scope.specs.declared.error.BindError.{BindError}
use Rattle.scope.specs.Entry.{Entry}
use Rattle.resolve.specs.Entries.{JoinedTable, entries_in, entry_in}

module _ (cat : Catalog) where
  abbrev pub all_after : List Entry → List JoinedTable → Result (List Entry) BindError
  all_after known js = after known (entries_in cat known js)

  pub next_after : (known : List Entry) (j : JoinedTable) (js : List JoinedTable) → all_after known (j ∷ js) ≡ and_then (entry_in cat known j) (λ e. all_after (known ++ e ∷ []) js)
  next_after known j js = go (entry_in cat known j)
    where
      go : (r : Result Entry BindError) → after known (and_then r (λ e. first_then (Ok e) (entries_in cat (known ++ e ∷ []) js))) ≡ and_then r (λ e. all_after (known ++ e ∷ []) js)
      go (Ok e) = after_first known e (entries_in cat (known ++ e ∷ []) js)
      go (Err fault) = refl

  pub over_after : (known : List Entry) → all_after known [] ≡ Ok known
  over_after known = ap Ok (append-nil known)
