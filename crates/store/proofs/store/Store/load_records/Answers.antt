use Rattle.std.proofs.Common.{◌≡◌, [], Err, map, sym, refl, ap, ap₂, ◌∙◌}
use Rattle.std.proofs.lemmas.List.Elements.{All-set}
use Rattle.std.proofs.Math.Seq.{map-set_same}
use Rattle.store.specs.Database.{is_named}
use Rattle.store.specs.View.{stored_of}
use Rattle.store.proofs.Places.{none_found}
use Rattle.store.specs.Derived.{IsDerived, kept_columns}
use Rattle.store.proofs.Agreement.{columns_kept}
use Rattle.store.proofs.Derivations.{derived_at, entry_of, index_within}
use Rattle.store.proofs.Loads.{IfSome-all, IfSome-map, rows_loaded, fault_reported, same_database, stops_loaded}
use Rattle.store.proofs.store.Store.load_records.Goals as goal
use Rattle.store.proofs.store.Store.load_records.Goals.{in-Ok, in-Err}

pub returns-in_default-clause-exact : goal.returns-in_default-clause-exact
returns-in_default-clause-exact g c =
    λ fine. IfSome-all c.args.records.now.records _ (λ recs. none_found (is_named c.args.table.now) _ (sym c.in_default.ensures.index))

pub returns-in_default-clause-some_records : goal.returns-in_default-clause-some_records
returns-in_default-clause-some_records g c =
    λ fine. ([], none_found (is_named c.args.table.now) _ (sym c.in_default.ensures.index), tt)

pub returns-clause-exact : goal.returns-clause-exact
returns-clause-exact g c =
    λ fine.
    let entries = c.self.inside.tables.items in
    let at = sym (rw (← c.self.view_is) at c.in-Some.ensures.index) in
    elim c.match-append_records.branch [
      | in-Ok w ↦ rw (← c.self.view_is, w.result-is) (IfSome-map c.args.records.now.records _ _ (λ recs h. rows_loaded (λ e. stored_of e) c.args.table.now c.index_mut.result.now entries c.in-Some.i at c.index_mut.ensures.value recs c.append_records.new.self _ c.append_records.ensures.name c.append_records.ensures.columns h) ((rw w.in-Ok.is at c.append_records.ensures.exact) fine))
      | in-Err w ↦ rw (← c.self.view_is, w.result-is, w.store_failure.ensures) (IfSome-map c.args.records.now.records _ _ (λ recs h. fault_reported (λ e. stored_of e) c.args.table.now c.index_mut.result.now entries c.in-Some.i at c.index_mut.ensures.value recs (map (λ e. stored_of e) entries) _ h) ((rw w.in-Err.is at c.append_records.ensures.exact) fine))
    ]

pub returns-clause-some_records : goal.returns-clause-some_records
returns-clause-some_records g c =
    λ fine.
    let entries = c.self.inside.tables.items in
    let at = sym (rw (← c.self.view_is) at c.in-Some.ensures.index) in
    elim c.match-append_records.branch [
      | in-Ok w ↦ let h = (rw w.in-Ok.is at c.append_records.ensures.some_records) fine in rw (← c.self.view_is, w.result-is) (h.0, rows_loaded (λ e. stored_of e) c.args.table.now c.index_mut.result.now entries c.in-Some.i at c.index_mut.ensures.value h.0 c.append_records.new.self _ c.append_records.ensures.name c.append_records.ensures.columns h.1, h.2)
      | in-Err w ↦ let h = (rw w.in-Err.is at c.append_records.ensures.some_records) fine in rw (← c.self.view_is, w.result-is, w.store_failure.ensures) (h.0, fault_reported (λ e. stored_of e) c.args.table.now c.index_mut.result.now entries c.in-Some.i at c.index_mut.ensures.value h.0 (map (λ e. stored_of e) entries) _ h.1, tt)
    ]

pub returns-clause-stops : goal.returns-clause-stops
returns-clause-stops g c =
    let entries = c.self.inside.tables.items in
    let at = sym (rw (← c.self.view_is) at c.in-Some.ensures.index) in
    elim c.match-append_records.branch [
      | in-Ok w ↦ rw w.result-is (IfSome-all c.args.records.now.records _ (λ recs. tt))
      | in-Err w ↦ rw (← c.self.view_is, w.result-is, w.store_failure.ensures) (IfSome-map c.args.records.now.records _ _ (λ recs h. stops_loaded (λ e. stored_of e) c.args.table.now c.index_mut.result.now entries c.in-Some.i at c.index_mut.ensures.value recs (Err _) h) (rw w.in-Err.is at c.append_records.ensures.stops))
    ]

pub append_records-requires-clause-derived : goal.append_records-requires-clause-derived
append_records-requires-clause-derived g c =
    derived_at c.self.inside.tables.items c.in-Some.i c.index_mut.result.now (index_within c.self.inside c.args.self.now c.in-Some.i c.self.view_is c.in-Some.ensures.within) c.index_mut.ensures.value c.self.invariant.derived

pub invariant_of-self : goal.invariant_of-self
invariant_of-self g c = record {
  agrees = columns_kept (λ e. stored_of e) c.self.inside.tables.items c.in-Some.i c.index_mut.result.now c.append_records.new.self c.index_mut.ensures.value c.append_records.ensures.name c.append_records.ensures.columns ∙ c.self.invariant.agrees;
  derived = All-set (λ e. IsDerived e) c.self.inside.tables.items c.in-Some.i c.append_records.new.self c.append_records.ensures.derived c.self.invariant.derived;
  indexed = map-set_same (λ e. kept_columns e.indexes.items) c.self.inside.tables.items c.in-Some.i c.append_records.new.self c.index_mut.result.now (c.append_records.ensures.indexes ∙ ap (λ e. kept_columns e.indexes.items) c.index_mut.ensures.value) ∙ c.self.invariant.indexed;
}

pub returns-clause-unchanged : goal.returns-clause-unchanged
returns-clause-unchanged g c =
    elim c.match-append_records.branch [
      | in-Ok w ↦ rw w.result-is tt
      | in-Err w ↦
          let kept : c.append_records.new.self.contents ≡ c.index_mut.result.now.contents = rw w.in-Err.is at c.append_records.ensures.unchanged in
          let entry = ap₂ entry_of c.append_records.ensures.name kept ∙ ap (λ e. stored_of e) c.index_mut.ensures.value in
          rw (w.result-is, ← c.self.view_is) (same_database _ _ _ _ refl (map-set_same (λ e. stored_of e) c.self.inside.tables.items c.in-Some.i c.append_records.new.self c.index_mut.result.now entry))
    ]
