use Rattle.std.proofs.Common.{◌∙◌, ap, sym, subst, refl, length, map}
use Rattle.std.specs.List.{slice_get}
use Rattle.std.proofs.lemmas.Simd.{map-map}
use Rattle.tuples.specs.View.{guarded_table_of, world_of}
use Rattle.trailcheck.specs.View.{setting_of}
use Rattle.access_paths.specs.Indexed.{AreIndexes}
use Rattle.fixture_plans.proofs.AreThere.{are_there}
use Rattle.fixture_plans.proofs.worlds.run_over.Goals as goal

pub run-requires-clause-indexes : goal.run-requires-clause-indexes
run-requires-clause-indexes g c =
    let w = world_of c.args.world.now in
    let at = setting_of c.args.setting.now in
    let lent = ap (map (λ xs. xs.now)) c.deref.ensures.value ∙ c.in_ok-lent.ensures ∙ c.as_slice-2.ensures in
    subst (AreIndexes w at) (sym lent) (are_there c.args.world.now.tables.now w at c.in_ok-indexes.indexes refl (c.in_ok-indexes.ensures.long ∙ ap length c.as_slice.ensures) (λ entry columns e. c.in_ok-indexes.ensures.each entry columns (ap (λ l. slice_get l entry) c.as_slice.ensures ∙ e)))

pub run-requires-clause-frame : goal.run-requires-clause-frame
run-requires-clause-frame g c = c.requires ∙ sym (map-map (λ t. t.guard) (λ t. guarded_table_of t) c.args.world.now.tables.now)
