-- The view of the Rust type of terms as spec data.
use Rattle.row_terms.specs.declared.term.Term.{Term, Raw, Guarded', Filtered', Joined', LeftJoined', Empty}
use Rattle.row_terms.specs.Terms as spec

abbrev pub term_of : {A : Type 0} → Term A → spec.Term
term_of (Raw entry) = spec.Raw entry
term_of (Guarded' entry p x) = spec.Guarded entry (term_of x)
term_of (Filtered' condition p x) = spec.Filtered condition (term_of x)
term_of (Joined' p x q y) = spec.Joined (term_of x) (term_of y)
term_of (LeftJoined' on p x q y) = spec.LeftJoined on (term_of x) (term_of y)
term_of (Empty entries) = spec.Empty entries
