use Rattle.std.proofs.Common.{Result, Ok, Err, OnErr, ap, ap₂, refl, ◌∙◌}
use Rattle.std.proofs.lemmas.List.Elements.{All-set}
use Rattle.std.proofs.Math.Seq.{map-set_same}
use Rattle.store.specs.View.{stored_of}
use Rattle.store.specs.Derived.{IsDerived, kept_columns}
use Rattle.store.proofs.Agreement.{columns_kept}
use Rattle.store.proofs.Derivations.{derived_at, entry_of, index_within}
use Rattle.store.proofs.Loads.{loaded_from, same_database}
use Rattle.store.proofs.store.Store.append_at.Goals as goal

on_err : {T E : Type 0} (r : Result T E) (P Q : Type 0) → (P → Q) → OnErr r P → OnErr r Q
on_err (Ok x) P Q f h = tt
on_err (Err e) P Q f h = f h

pub append-requires : goal.append-requires
append-requires g c = derived_at c.self.inside.tables.items c.args.index c.index_mut.result.now (index_within c.self.inside c.args.self.now c.args.index c.self.view_is c.requires) c.index_mut.ensures.value c.self.invariant.derived

pub invariant_of-self : goal.invariant_of-self
invariant_of-self g c = record {
  agrees = columns_kept (λ e. stored_of e) c.self.inside.tables.items c.args.index c.index_mut.result.now c.append.new.self c.index_mut.ensures.value c.append.ensures.name c.append.ensures.columns ∙ c.self.invariant.agrees;
  derived = All-set (λ e. IsDerived e) c.self.inside.tables.items c.args.index c.append.new.self c.append.ensures.derived c.self.invariant.derived;
  indexed = map-set_same (λ e. kept_columns e.indexes.items) c.self.inside.tables.items c.args.index c.append.new.self c.index_mut.result.now (c.append.ensures.indexes ∙ ap (λ e. kept_columns e.indexes.items) c.index_mut.ensures.value) ∙ c.self.invariant.indexed;
}

pub returns-clause-unchanged : goal.returns-clause-unchanged
returns-clause-unchanged g c =
    on_err c.append.result _ _ (λ kept.
    let entry = ap₂ entry_of c.append.ensures.name kept ∙ ap (λ e. stored_of e) c.index_mut.ensures.value in
    same_database _ _ _ _ refl (map-set_same (λ e. stored_of e) c.self.inside.tables.items c.args.index c.append.new.self c.index_mut.result.now entry) ∙ c.self.view_is)
    c.append.ensures.unchanged

pub returns-clause-loaded : goal.returns-clause-loaded
returns-clause-loaded g c =
    λ name first.
    let at = rw (← c.self.view_is) at first in
    rw (← c.self.view_is) (loaded_from (λ e. stored_of e) name c.index_mut.result.now c.self.inside.tables.items c.args.index at c.index_mut.ensures.value c.append.new.self c.append.ensures.name c.append.ensures.columns
    (g.R.Read.remaining c.args.reader) c.append.result c.append.ensures.exact c.append.ensures.some_records c.append.ensures.stops)
