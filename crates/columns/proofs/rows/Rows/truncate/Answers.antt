use Rattle.std.proofs.Common.{◌≤◌, List, map, take, length, sym, ap, subst, ◌∙◌, arith}
use Rattle.value.specs.Datum.{Datum}
use Rattle.columns.specs.Data.{cells_of}
use Rattle.columns.specs.Held.{HoldRows}
use Rattle.columns.specs.Rows.{TypedRows, rows_from}
use Rattle.columns.proofs.Growth.{length-rows, hold_long, cut_held, rows_cut}
use Rattle.columns.proofs.rows.Rows.truncate.Goals as goal

pub truncate_all-requires : goal.truncate_all-requires
truncate_all-requires g c k d lt =
    let cols = map cells_of c.self.inside.columns.items in
    omega (arith, c.requires, ap (λ (t : TypedRows). length t.rows) c.self.view_is, length-rows cols 0 c.self.inside.len, hold_long c.self.inside.len c.self.inside.started cols c.self.invariant k d lt)

pub invariant_of-self : goal.invariant_of-self
invariant_of-self g c =
    let cols = map cells_of c.self.inside.columns.items in
    let n = c.self.inside.len in
    let le : c.args.len ≤ n = omega (arith, c.requires, ap (λ (t : TypedRows). length t.rows) c.self.view_is, length-rows cols 0 n) in
    subst (HoldRows c.args.len 0) (sym c.truncate_all.ensures.cells) (cut_held n c.self.inside.started c.args.len cols c.self.invariant le)

pub returns-clause-rows : goal.returns-clause-rows
returns-clause-rows g c =
    let cols = map cells_of c.self.inside.columns.items in
    let n = c.self.inside.len in
    let le : c.args.len ≤ n = omega (arith, c.requires, ap (λ (t : TypedRows). length t.rows) c.self.view_is, length-rows cols 0 n) in
    ap (λ (l : List (List Datum)). rows_from l 0 c.args.len) c.truncate_all.ensures.cells ∙ rows_cut cols n c.args.len le ∙ ap (λ (t : TypedRows). take c.args.len t.rows) c.self.view_is
