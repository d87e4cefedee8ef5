use Rattle.std.proofs.Common.{◌≡◌, ◌⊎◌, ◌∙◌, [], ◌∷◌, ◌++◌, Err, ap, refl, subst, map, rules}
use Rattle.std.proofs.lemmas.List.{map_push}
use Rattle.std.proofs.lemmas.List.Elements.{All-push, All-same}
use Rattle.value.specs.Columns.{columns_of}
use Rattle.value.specs.Names.{Name}
use Rattle.tables.specs.Loading.{TableRows}
use Rattle.value.specs.declared.refusal.Refusal.TheVariants.{OutOfMemory}
use Rattle.row_ast.specs.View.{statement_of}
use Rattle.catalog.specs.Changes.{changed}
use Rattle.store.specs.View.{stored_of}
use Rattle.store.specs.Derived.{IsDerived}
use Rattle.store.proofs.Agreement.{new_agrees}
use Rattle.store.proofs.Derivations.{still_held}
use Rattle.store.proofs.Indexes.{indexes_added}
use Rattle.store.proofs.Loads.{added_table, same_database, still_refused, taken_back}
use Rattle.store.proofs.store.Store.add_table.Goals as goal

pub returns-in-Err : goal.returns-in-Err
returns-in-Err g c =
    let kept = c.truncate.ensures.items ∙ (rw c.push.ensures.items (taken_back _ _ _ _ (c.len-before.ensures ∙ c.self.inside.tables.ok.0))) in
    let cat = ap (λ d. d.catalog) c.self.view_is in
    let refused = subst (λ cat. (c.in-Err.code ≡ OutOfMemory) ⊎ (changed cat c.args.actor.now (statement_of c.args.statement.now) ≡ Err c.in-Err.code)) cat c.in-Err.ensures.change.1 in (
      rw (← c.self.view_is) (same_database _ _ _ _ c.in-Err.ensures.change.0 (ap (λ ts. map (λ t. stored_of t) ts) kept)),
      still_refused c.args.self.now (statement_of c.args.statement.now) _ _ refused,
    )

pub invariant_of-self : goal.invariant_of-self
invariant_of-self g c = still_held c.self.inside _ refl (rw c.if-is_err.ensures.negation at c.push.ensures.items) c.self.invariant

pub invariant_of-self-in-Err : goal.invariant_of-self-in-Err
invariant_of-self-in-Err g c =
    let kept = c.truncate.ensures.items ∙ (rw c.push.ensures.items (taken_back _ _ _ _ (c.len-before.ensures ∙ c.self.inside.tables.ok.0))) in
    still_held c.self.inside _ c.in-Err.ensures.change.0 kept c.self.invariant

pub invariant_of-self-in-Ok-apply : goal.invariant_of-self-in-Ok-apply
invariant_of-self-in-Ok-apply g c =
    let pushed : c.push.new.self.items ≡ c.self.inside.tables.items ++ c.in-Ok.table ∷ [] = search rules in record {
      agrees = new_agrees (λ t. stored_of t) c.self.inside.tables.items _ c.in-Ok.table c.self.inside.catalog _ c.args.actor.now c.args.name.now (statement_of c.args.statement.now) _ pushed c.in-Ok.ensures.stored c.requires c.in-Ok-apply.ensures.change c.self.invariant.agrees;
      derived = All-same (λ t. IsDerived t) _ _ pushed (All-push (λ t. IsDerived t) c.self.inside.tables.items c.in-Ok.table c.self.invariant.derived c.in-Ok.ensures.derived);
      indexed = indexes_added c.self.inside.tables.items c.push.new.self.items c.in-Ok.table c.self.inside.catalog _ c.args.actor.now c.args.name.now (statement_of c.args.statement.now) _ pushed c.in-Ok.ensures.indexes c.requires c.in-Ok-apply.ensures.change c.self.invariant.indexed;
    }

pub returns-in-Ok-apply : goal.returns-in-Ok-apply
returns-in-Ok-apply g c =
    let pushed : c.push.new.self.items ≡ c.self.inside.tables.items ++ c.in-Ok.table ∷ [] = search rules in
    added_table c.args.self.now c.self.inside.catalog c.apply.new.self (map (λ t. stored_of t) c.self.inside.tables.items) (map (λ t. stored_of t) c.push.new.self.items) c.args.actor.now (statement_of c.args.statement.now) c.args.name.now (columns_of c.args.columns.now)
    c.self.view_is c.requires c.in-Ok-apply.ensures.change
    (ap (λ ts. map (λ t. stored_of t) ts) pushed ∙ map_push (λ t. stored_of t) c.self.inside.tables.items c.in-Ok.table ∙ ap (λ (x : Name × TableRows). map (λ t. stored_of t) c.self.inside.tables.items ++ x ∷ []) c.in-Ok.ensures.stored)
