use Rattle.std.proofs.Common.{◌≡◌, ◌⊎◌, inr, ℕ, ◌+◌, ◌<◌, ◌≤◌, nat_le, true, false, Result, Ok, Err, refl, sym, ap, ◌∙◌, arith}
use Rattle.std.proofs.lemmas.Bool.Decides.{nat_tests}
use Rattle.value.specs.declared.refusal.Refusal.{Refusal}
use Rattle.value.specs.declared.refusal.Refusal.TheVariants as r
use Rattle.value.specs.Names.{Name}
use Rattle.row_ast.specs.Statements.{Statement}
use Rattle.row_ast.specs.View.{statement_of}
use Rattle.catalog.specs.Catalog.{Catalog, is_role}
use Rattle.catalog.specs.Checks.{first_refusal, unless}
use Rattle.catalog.specs.Changes.{after, changed, checks, counted, most_changes}
use Rattle.catalog.proofs.Counts.{counted_change, refused_same, refused_still}
use Rattle.catalog.proofs.catalog.Catalog.apply.Goals as goal

full : (m n : ℕ) → m ≤ n → nat_le m n ≡ true
full m n h = grind (arith, nat_tests)

room : (m n : ℕ) → n < m → nat_le m n ≡ false
room m n h = grind (arith, nat_tests)

module _ (cat : Catalog) (actor : Name) (s : Statement) (n : ℕ) (is : n ≡ cat.change_number) where
  no_more : most_changes ≤ n → changed cat actor s ≡ Err r.ProgramLimitExceeded
  no_more h = rw (← is, full most_changes n h) refl

  module _ (below : n < most_changes) where
    no_role : false ≡ is_role cat actor → changed cat actor s ≡ Err r.UndefinedObject
    no_role none = rw (← is, room most_changes n below, ← none) refl

    module _ (role : true ≡ is_role cat actor) where
      as_checked : changed cat actor s ≡ unless (first_refusal (checks cat actor s)) (counted cat (after cat actor s))
      as_checked = rw (← is, room most_changes n below, ← role) refl

      accepted : (made new : Catalog) → unless (first_refusal (checks cat actor s)) (after cat actor s) ≡ Ok made → new ≡ record made { change_number = n + 1 } → changed cat actor s ≡ Ok new
      accepted made new e set =
          let so : new ≡ counted cat made = set ∙ ap (λ k. let c : Catalog = record made { change_number = k + 1 } in c) is in
          as_checked ∙ counted_change (first_refusal (checks cat actor s)) cat (after cat actor s) made e ∙ ap (λ k. let o : Result Catalog Refusal = Ok k in o) (sym so)

      refused : (why : Refusal) → (why ≡ r.OutOfMemory) ⊎ (unless (first_refusal (checks cat actor s)) (after cat actor s) ≡ Err why) → (why ≡ r.OutOfMemory) ⊎ (changed cat actor s ≡ Err why)
      refused why h = rw as_checked (refused_still (first_refusal (checks cat actor s)) (after cat actor s) (counted cat (after cat actor s)) why h)

      refused_exactly : (why : Refusal) → unless (first_refusal (checks cat actor s)) (after cat actor s) ≡ Err why → changed cat actor s ≡ Err why
      refused_exactly why h = as_checked ∙ refused_same (first_refusal (checks cat actor s)) (after cat actor s) (counted cat (after cat actor s)) why h

pub returns-then-before-ge18446744073709551615 : goal.returns-then-before-ge18446744073709551615
returns-then-before-ge18446744073709551615 g c =
    let e = no_more c.args.self.now c.args.actor.now (statement_of c.args.statement.now) c.change_number-before.result c.change_number-before.ensures c.if-before-ge18446744073709551615.true in
    record { change = (refl, inr e); exact = λ none. (refl, e) }

pub returns-then-not-is_role : goal.returns-then-not-is_role
returns-then-not-is_role g c =
    let e = no_role c.args.self.now c.args.actor.now (statement_of c.args.statement.now) c.change_number-before.result c.change_number-before.ensures c.if-before-ge18446744073709551615.false
    c.if-not-is_role.ensures in
    record { change = (refl, inr e); exact = λ none. (refl, e) }

pub returns-in-Ok : goal.returns-in-Ok
returns-in-Ok g c =
    let e = accepted c.args.self.now c.args.actor.now (statement_of c.args.statement.now) c.change_number-before.result c.change_number-before.ensures c.if-before-ge18446744073709551615.false
    c.if-not-is_role.ensures c.apply_statement.new.self c.set_change_number.new.self c.in-Ok.ensures.change c.set_change_number.ensures in
    record { change = e; exact = λ none. e }

pub returns-in-Err : goal.returns-in-Err
returns-in-Err g c = record {
  change = (
    c.in-Err.ensures.change.0,
    refused c.args.self.now c.args.actor.now (statement_of c.args.statement.now) c.change_number-before.result c.change_number-before.ensures
        c.if-before-ge18446744073709551615.false c.if-not-is_role.ensures c.in-Err.why c.in-Err.ensures.change.1,
  );
  exact = λ none. (
    c.in-Err.ensures.change.0,
    refused_exactly c.args.self.now c.args.actor.now (statement_of c.args.statement.now) c.change_number-before.result c.change_number-before.ensures
        c.if-before-ge18446744073709551615.false c.if-not-is_role.ensures c.in-Err.why (c.in-Err.ensures.exact none).1,
  );
}
