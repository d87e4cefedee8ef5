use Rattle.std.proofs.Common.{Option, option_map, sym, ap}
use Rattle.value.specs.Names.{Name}
use Rattle.tables.specs.Loading.{TableRows}
use Rattle.store.specs.Database.{is_named}
use Rattle.store.specs.View.{stored_of}
use Rattle.store.proofs.Places.{none_found}
use Rattle.store.proofs.Loads.{found}
use Rattle.store.proofs.store.Store.contents.Goals as goal

pub returns-in-Some-clause-contents : goal.returns-in-Some-clause-contents
returns-in-Some-clause-contents g c =
    let at = sym (rw (← c.self.view_is) at c.in-Some.ensures.index) in
    rw (← c.self.view_is) (ap (λ (o : Option (Name × TableRows)). option_map (λ t. t.1) o) (sym (found (λ t. stored_of t) c.args.name.now c.index.result.now c.self.inside.tables.items c.in-Some.index at c.index.ensures)))

pub returns-in-None-clause-contents : goal.returns-in-None-clause-contents
returns-in-None-clause-contents g c = ap (λ (o : Option (Name × TableRows)). option_map (λ t. t.1) o) (sym (none_found (is_named c.args.name.now) c.args.self.now.tables (sym c.in-None.ensures.index)))
