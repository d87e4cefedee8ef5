-- An event keeps what holds of the plans, and of what is known of the rows that roles see.
use Rattle.std.proofs.Common.{◌≡◌, inl, inr, ◌+◌, ◌<◌, ◌≤◌, ◌==◌, ◌&&◌, Bool, true, false, if◌then◌else◌, List, [], refl, sym, subst, arith}
use Rattle.std.proofs.lemmas.Bool.{eqb-true}
use Rattle.engine.specs.Database.{Database}
use Rattle.engine.specs.Plans.{Plan}
use Rattle.engine.specs.Seen.{SeenTable}
use Rattle.engine.specs.SeenTables.{AreSeenIn}
use Rattle.engine.proofs.SeenTables.{none_seen}
use Rattle.shared_plans.specs.Recent.{Key}
use Rattle.shared_plans.proofs.Looks.{nothing_in}
use Rattle.sessions.specs.State.{State}
use Rattle.value.proofs.Spelling.{both}
use Rattle.sessions.proofs.Counts.{IsLater, IsSameData}
use Rattle.session.specs.Kept.{AreKept}

-- later numbers are those of no plan
later : (s new : State) (entries : List (Key × Plan)) → s.database.catalog.change_number ≤ new.database.catalog.change_number → s.loads ≤ new.loads → s.database.catalog.change_number + s.loads < new.database.catalog.change_number + new.loads
    → AreKept s.database s.loads entries → AreKept new.database new.loads entries
unfolding AreKept
later s new entries a b more kept = λ e c. let h = kept e c in let h0 = h.0 in let h1 = h.1 in (omega arith, omega arith, λ p q. absurd (omega arith))

-- the same database keeps what is known
pub seen_same : (s new : State) (seen : List SeenTable) → IsSameData s new → AreSeenIn s.database seen → AreSeenIn new.database seen
seen_same s new seen h right = subst (λ d. AreSeenIn d seen) (sym h.0) right

pub keeps : (s new : State) (entries : List (Key × Plan)) → IsLater s new → AreKept s.database s.loads entries → AreKept new.database new.loads entries
keeps s new entries (inl h) kept = subst (λ d. AreKept d new.loads entries) (sym h.0) (subst (λ n. AreKept s.database n entries) (sym h.1) kept)
keeps s new entries (inr h) kept = later s new entries h.0 h.1 h.2 kept

-- at first there is none
pub none_kept : (database : Database) → AreKept database 0 []
unfolding AreKept
none_kept database = λ e c. absurd (nothing_in e c)

-- what is known is forgotten where the numbers are later ones
module _ (s new : State) (old seen : List SeenTable) where
  known_or_none : (same : Bool) → (same ≡ true → AreSeenIn new.database old) → seen ≡ (if same then old else []) → AreSeenIn new.database seen
  known_or_none true h is = subst (AreSeenIn new.database) (sym is) (h refl)
  known_or_none false h is = subst (AreSeenIn new.database) (sym is) (none_seen new.database)

  pub seen_keeps : IsLater s new → AreSeenIn s.database old → seen ≡ (if (new.database.catalog.change_number == s.database.catalog.change_number) && (new.loads == s.loads) then old else []) → AreSeenIn new.database seen
  seen_keeps (inl h) right is = known_or_none _ (λ _. seen_same s new old h right) is
  seen_keeps (inr h) right is =
      known_or_none _ (λ same.
      let numbers = both (new.database.catalog.change_number == s.database.catalog.change_number) (new.loads == s.loads) same in
      let changes = eqb-true new.database.catalog.change_number s.database.catalog.change_number numbers.0 in
      let loads = eqb-true new.loads s.loads numbers.1 in
      let more = h.2 in
      absurd (omega arith)) is
