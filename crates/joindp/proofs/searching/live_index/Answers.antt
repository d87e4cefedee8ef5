use Rattle.std.proofs.Common.{◌∙◌, sym}
use Rattle.joindp.specs.Search.{set_of}
use Rattle.joindp.proofs.searching.live_index.Goals as goal

pub order_index-requires : goal.order_index-requires
order_index-requires g c = c.requires.of_live (set_of c.args.set) c.args.order (sym c.is_live.ensures ∙ c.if-is_live.true)
