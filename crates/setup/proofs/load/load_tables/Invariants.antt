use Rattle.std.proofs.Common.{◌≡◌, length, take}
use Rattle.setup.specs.Loads.{AreLoaded, names_of}
use Rattle.setup.proofs.load.load_tables.Given as goal

abbrev pub invariant-loop-i : goal.invariant-loop-i
invariant-loop-i g l =
    (l.i-end ≡ length l.fn.store.tables)
    × (l.store.catalog ≡ l.fn.store.catalog)
    × (names_of l.store.tables ≡ names_of l.fn.store.tables)
    × AreLoaded (g.F.Folder.bytes l.folder) (take l.i (names_of l.fn.store.tables)) l.fn.store.tables l.store.tables
