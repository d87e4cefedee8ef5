use Rattle.std.proofs.Common.{◌∙◌, ◌==◌, ◌&&◌, true, false, nat_lt, refl, sym}
use Rattle.trailcheck.proofs.FirstNumbers.{across_before}
use Rattle.trailcheck.proofs.equalities.are_across.Goals as goal

pub returns-then-faces : goal.returns-then-faces
returns-then-faces c =
    c.if-faces.true ∙ across_before c.args.entry c.args.a c.args.b true (nat_lt c.args.b.entry c.args.entry && (c.args.a.entry == c.args.entry)) (sym c.if-faces.true ∙ c.faces.ensures) refl

pub returns-else-faces : goal.returns-else-faces
returns-else-faces c = across_before c.args.entry c.args.a c.args.b false c.faces-else-faces.result (sym c.if-faces.false ∙ c.faces.ensures) c.faces-else-faces.ensures
