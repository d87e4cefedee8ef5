use Rattle.std.proofs.Common.{◌≡◌, ◌∙◌, Some, ap, inl, sym}
use Rattle.std.specs.List.{slice_get}
use Rattle.std.proofs.lemmas.Option.{slice_get-map}
use Rattle.memory.proofs.Cases.{on_ok}
use Rattle.setup.specs.Loads.{names_of}
use Rattle.setup.proofs.Tables.{if_err}
use Rattle.setup.proofs.load.load_at.Goals as goal

pub returns-in_default-clause-fault : goal.returns-in_default-clause-fault
returns-in_default-clause-fault g c = (c.table_name.result.now, slice_get-map (λ e. e.0) c.args.store.now.tables c.args.index ∙ c.table_name.ensures.name, inl tt)

pub load_named-loaded-requires : goal.load_named-loaded-requires
load_named-loaded-requires g c = rw (c.as_str.ensures, c.in-Ok.ensures) c.table_name.ensures.there

pub returns-clause-loaded : goal.returns-clause-loaded
returns-clause-loaded g c =
    let at : slice_get (names_of c.args.store.now.tables) c.args.index ≡ Some c.table_name.result.now = slice_get-map (λ e. e.0) c.args.store.now.tables c.args.index ∙ c.table_name.ensures.name in
    on_ok c.load_named-loaded.result _ _ (λ h. (c.as_str.result.now, at ∙ ap Some (sym (c.as_str.ensures ∙ c.in-Ok.ensures)), h)) c.load_named-loaded.ensures.loaded

pub returns-clause-fault : goal.returns-clause-fault
returns-clause-fault g c =
    let at : slice_get (names_of c.args.store.now.tables) c.args.index ≡ Some c.table_name.result.now = slice_get-map (λ e. e.0) c.args.store.now.tables c.args.index ∙ c.table_name.ensures.name in
    if_err c.load_named-loaded.result _ _ (λ f h. (c.as_str.result.now, at ∙ ap Some (sym (c.as_str.ensures ∙ c.in-Ok.ensures)), h)) c.load_named-loaded.ensures.fault
