use Rattle.std.proofs.Common.{◌∙◌, ◌-◌, All, ap, map, option_map, subst, sym}
use Rattle.indexes.specs.Indexes.{IsIndex}
use Rattle.store.specs.Database.{rows_held}
use Rattle.store.specs.Derived.{IsDerived, kept_columns}
use Rattle.store.specs.View.{stored_of}
use Rattle.store.proofs.Agreement.{same_place}
use Rattle.store.proofs.Derivations.{derived_at, found_within}
use Rattle.store.proofs.Indexes.{indexes_found}
use Rattle.store.proofs.Loads.{found}
use Rattle.store.proofs.store.Store.indexes.Goals as goal

pub returns : goal.returns
returns g c =
    λ t named.
    let s = c.self.inside in
    let items = s.tables.items in
    let i = c.unwrap-index.result in
    let table = c.index.result.now in
    let name = c.args.name.now in
    let at = rw (← c.self.view_is) at (sym c.table_index.ensures.index ∙ c.unwrap-index.ensures) in
    let place = sym (same_place name 0 (map (λ t. stored_of t) items) s.catalog.tables c.self.invariant.agrees) ∙ at in
    let derived : IsDerived table = derived_at items i table (found_within s c.args.self.now c.table_index.result i c.self.view_is c.table_index.ensures.within c.unwrap-index.ensures) c.index.ensures c.self.invariant.derived in
    let columns = indexes_found items s.catalog c.self.invariant.agrees c.self.invariant.indexed name i place table t (rw (← c.self.view_is) at named) in
    let rows = ap (λ o. rows_held (option_map (λ t. t.1) o)) (found (λ t. stored_of t) name table items i at c.index.ensures) in
    rw c.deref.ensures.value (rw (← c.self.view_is) (
      ap (λ x. kept_columns x.indexes.items) c.index.ensures ∙ columns,
      subst (λ rows. All (λ x. IsIndex rows (x.column - 1) x.numbers) table.indexes.items) (sym rows) derived,
    ))
