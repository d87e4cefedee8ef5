use Rattle.std.proofs.Common.{◌≡◌, ◌⊎◌, inl, ◌∙◌, List, Result, Ok, Err, ap, length, map, refl, subst, sym, take}
use Rattle.std.proofs.lemmas.List.{get_or-set_same, get_or_default, length-map}
use Rattle.tables.specs.Loading.{TableRows}
use Rattle.value.specs.Names.{Name}
use Rattle.value.specs.declared.refusal.Refusal.{Refusal}
use Rattle.value.specs.declared.refusal.Refusal.TheVariants.{OutOfMemory}
use Rattle.row_ast.specs.View.{statement_of}
use Rattle.catalog.specs.Changes.{changed}
use Rattle.catalog.specs.TableColumns.{table_columns}
use Rattle.store.specs.Database.{Database, changed_database}
use Rattle.store.specs.Derived.{IsDerived, kept_columns, table_indexes}
use Rattle.store.specs.View.{database_of, stored_of}
use Rattle.store.proofs.Agreement.{same_place}
use Rattle.store.proofs.Derivations.{derived_at, index_within}
use Rattle.store.proofs.Indexes.{dropped, one_kept, replaced, same_columns, same_entries, same_kept, set_twice, with_index_made}
use Rattle.store.proofs.Loads.{same_database, still_refused}
use Rattle.store.proofs.store.Store.add_index.Goals as goal

pub add_index-requires : goal.add_index-requires
add_index-requires g c = derived_at c.self.inside.tables.items c.in-Some.index c.index_mut.result.now (index_within c.self.inside c.args.self.now c.in-Some.index c.self.view_is c.in-Some.ensures.within) c.index_mut.ensures.value c.self.invariant.derived

pub truncate_indexes-requires : goal.truncate_indexes-requires
truncate_indexes-requires g c =
    let items = c.self.inside.tables.items in
    let i = c.in-Some.index in
    let was = c.index_mut-in-Err-apply.result.now in
    let is : was ≡ c.add_index.new.self = c.index_mut-in-Err-apply.ensures.value ∙ get_or-set_same items i c.add_index.new.self was (index_within c.self.inside c.args.self.now i c.self.view_is c.in-Some.ensures.within) in
    subst (λ t. IsDerived t) (sym is) c.add_index.ensures.derived

pub invariant_of-self-in-Err : goal.invariant_of-self-in-Err
invariant_of-self-in-Err g c =
    let made = c.add_index.ensures in
    let same = same_kept c.self.inside c.self.invariant c.in-Some.index c.index_mut.result.now c.add_index.new.self c.index_mut.ensures.value made.name made.contents c.in-Err.ensures.unchanged in
    replaced c.self.inside c.self.invariant c.in-Some.index c.index_mut.result.now c.add_index.new.self c.index_mut.ensures.value made.name made.contents _ made.derived refl refl same

pub returns-in-Err : goal.returns-in-Err
returns-in-Err g c =
    let made = c.add_index.ensures in (
      same_database _ _ _ _ refl (same_entries c.self.inside c.self.invariant c.in-Some.index c.index_mut.result.now c.add_index.new.self c.index_mut.ensures.value made.name made.contents) ∙ c.self.view_is,
      inl refl,
    )

pub invariant_of-self-in-Ok-apply : goal.invariant_of-self-in-Ok-apply
invariant_of-self-in-Ok-apply g c =
    let s = c.self.inside in
    let st = statement_of c.args.statement.now in
    let made = c.add_index.ensures in
    let change = c.in-Ok-apply.ensures.change in
    let at = sym (rw (← c.self.view_is) at c.in-Some.ensures.index) in
    let place = sym (same_place c.args.table.now 0 (map (λ t. stored_of t) s.tables.items) s.catalog.tables c.self.invariant.agrees) ∙ at in
    let indexed = one_kept s c.self.invariant c.in-Some.index c.index_mut.result.now c.add_index.new.self c.index_mut.ensures.value made.name made.contents c.args.table.now c.args.column.now _ c.args.actor.now st place c.in-Ok.ensures.made c.requires change in
    replaced s c.self.invariant c.in-Some.index c.index_mut.result.now c.add_index.new.self c.index_mut.ensures.value made.name made.contents _ made.derived refl
    (same_columns s.catalog _ c.args.actor.now st c.args.table.now c.args.column.now c.requires change) indexed

pub returns-in-Ok-apply : goal.returns-in-Ok-apply
returns-in-Ok-apply g c =
    let s = c.self.inside in
    let made = c.add_index.ensures in
    let same = same_entries s c.self.invariant c.in-Some.index c.index_mut.result.now c.add_index.new.self c.index_mut.ensures.value made.name made.contents in
    let st = statement_of c.args.statement.now in
    ap (λ d. changed_database d c.args.actor.now st) (sym c.self.view_is)
    ∙ with_index_made (database_of s) c.apply-in-Ok.new.self c.args.actor.now st c.args.table.now c.args.column.now c.requires c.in-Ok-apply.ensures.change
    ∙ ap (λ (ts : List (Name × TableRows)). let r : Result Database Refusal = Ok record { catalog = c.apply-in-Ok.new.self; tables = ts } in r) (sym same)

pub invariant_of-self-in-Err-apply : goal.invariant_of-self-in-Err-apply
invariant_of-self-in-Err-apply g c =
    let s = c.self.inside in
    let i = c.in-Some.index in
    let x = c.index_mut.result.now in
    let y = c.add_index.new.self in
    let was = c.index_mut-in-Err-apply.result.now in
    let within = index_within s c.args.self.now i c.self.view_is c.in-Some.ensures.within in
    let is : was ≡ y = c.index_mut-in-Err-apply.ensures.value ∙ get_or-set_same s.tables.items i y was within in
    let made = c.add_index.ensures in
    let back = c.truncate_indexes.ensures in
    let same_name = back.name ∙ ap (λ t. t.name) is ∙ made.name in
    let same_contents = back.contents ∙ ap (λ t. t.contents) is ∙ made.contents in
    let count : c.len-before.result ≡ length (kept_columns x.indexes.items) = c.len-before.ensures ∙ c.index.result.now.indexes.ok.0 ∙ ap (λ t. length t.indexes.items) (c.index.ensures ∙ get_or_default s.tables.items i c.index.result.now x within ∙ sym c.index_mut.ensures.value) ∙ sym (length-map x.indexes.items (λ i. i.column)) in
    let kept : kept_columns c.truncate_indexes.new.self.indexes.items ≡ kept_columns x.indexes.items =
    back.indexes ∙ ap (λ t. take c.len-before.result (kept_columns t.indexes.items)) is ∙ ap (take c.len-before.result) c.in-Ok.ensures.made ∙ dropped (kept_columns x.indexes.items) _ c.len-before.result count in
    let same = same_kept s c.self.invariant i x c.truncate_indexes.new.self c.index_mut.ensures.value same_name same_contents kept in
    replaced s c.self.invariant i x c.truncate_indexes.new.self c.index_mut.ensures.value same_name same_contents _ back.derived (set_twice s.tables.items i y c.truncate_indexes.new.self) (ap table_columns c.in-Err-apply.ensures.change.0) (same ∙ sym (ap table_indexes c.in-Err-apply.ensures.change.0))

pub returns-in-Err-apply : goal.returns-in-Err-apply
returns-in-Err-apply g c =
    let s = c.self.inside in
    let i = c.in-Some.index in
    let x = c.index_mut.result.now in
    let y = c.add_index.new.self in
    let was = c.index_mut-in-Err-apply.result.now in
    let within = index_within s c.args.self.now i c.self.view_is c.in-Some.ensures.within in
    let is : was ≡ y = c.index_mut-in-Err-apply.ensures.value ∙ get_or-set_same s.tables.items i y was within in
    let made = c.add_index.ensures in
    let back = c.truncate_indexes.ensures in
    let same = same_entries s c.self.invariant i x c.truncate_indexes.new.self c.index_mut.ensures.value (back.name ∙ ap (λ t. t.name) is ∙ made.name) (back.contents ∙ ap (λ t. t.contents) is ∙ made.contents) in
    let cat = ap (λ d. d.catalog) c.self.view_is in
    let code = c.in-Err-apply.code in
    let refused = subst (λ cat. (code ≡ OutOfMemory) ⊎ (changed cat c.args.actor.now (statement_of c.args.statement.now) ≡ Err code)) cat c.in-Err-apply.ensures.change.1 in (
      rw (← c.self.view_is) (same_database _ _ _ _ c.in-Err-apply.ensures.change.0 (ap (map (λ t. stored_of t)) (set_twice s.tables.items i y c.truncate_indexes.new.self) ∙ same)),
      still_refused c.args.self.now (statement_of c.args.statement.now) _ _ refused,
    )
