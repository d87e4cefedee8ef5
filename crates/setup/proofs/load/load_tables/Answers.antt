use Rattle.std.proofs.Common.{◌≡◌, ◌+◌, ◌∙◌, Some, drop, take}
use Rattle.std.specs.List.{slice_get}
use Rattle.setup.specs.Loads.{names_of}
use Rattle.setup.proofs.Tables.{loaded_more, names_kept, parted}
use Rattle.setup.proofs.load.load_tables.Goals as goal

pub returns-in-Err-clause-stops : goal.returns-in-Err-clause-stops
returns-in-Err-clause-stops g c =
    let names = names_of c.args.store.now.tables in
    let h = c.in-Err.ensures.fault in
    let at : slice_get names c.loop-i.i ≡ Some h.0 = rw c.loop-i.invariant.2 at h.1 in
    rw c.in-Err.ensures.unchanged (take c.loop-i.i names, h.0, drop (c.loop-i.i + 1) names, parted names c.loop-i.i h.0 at, c.loop-i.invariant.3, h.2)

pub loop-i-preserved : goal.loop-i-preserved
loop-i-preserved g c =
    let names = names_of c.args.store.now.tables in
    let h = c.in-Ok.ensures.loaded in
    let at : slice_get names c.loop-i.i ≡ Some h.0 = rw c.loop-i.invariant.2 at h.1 in (
      c.loop-i.invariant.0,
      c.in-Ok.ensures.catalog ∙ c.loop-i.invariant.1,
      names_kept (g.F.Folder.bytes c.args.folder.now h.0) c.loop-i.store.tables c.load_at.new.store.tables h.0 h.2 ∙ c.loop-i.invariant.2,
      loaded_more names c.loop-i.i h.0 at (g.F.Folder.bytes c.args.folder.now) c.args.store.now.tables c.loop-i.store.tables c.load_at.new.store.tables c.loop-i.invariant.3 h.2,
    )
