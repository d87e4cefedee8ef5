-- The last values of named things, once a `&mut` into one of them has ended.
use Rattle.std.specs.Prelude.{ℕ, List}
use Rattle.std.specs.Borrow.{Fml, RattleType, MutBor, Lends}
use Rattle.std.specs.declared.alloc.Allocator as alloc
use Rattle.indexmap.specs.IndexMap.{set_value_at}
use Rattle.row_objects.specs.contracts.by_name.ByName.{the_row}

module _ (V A : RattleType) (heap : alloc.Ghosts A.Denot) where
  -- the entry has the last thing written through r
  abbrev pub lends_thing : MutBor (List (List ℕ × V.Denot)) → ℕ → MutBor V.Denot → Fml
  lends_thing s i r = Lends (the_row V A heap) V s r (λ w. set_value_at s.now i w)
