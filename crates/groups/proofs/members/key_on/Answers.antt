use Rattle.std.proofs.Common.{◌≡◌, ◌++◌, List, [], ◌∷◌, ap, sym, ◌∙◌, arith}
use Rattle.std.proofs.lemmas.List.{append_assoc, append-nil, at_drop_all, drop_more, map-append}
use Rattle.value.specs.Datum.{Datum, datum, row_of}
use Rattle.value.specs.declared.types.Value.{Value}
use Rattle.groups.specs.Members.{key_on}
use Rattle.groups.proofs.members.key_on.Goals as goal

-- a cell is put: the part that is done, and then the rest, is still the whole
cell_put : {A : Type 0} (done new : List (Value A)) (v : Value A) (d : Datum) (rest here whole : List Datum) → here ≡ d ∷ rest → row_of done ++ here ≡ whole → datum v ≡ d → new ≡ done ++ v ∷ [] → row_of new ++ rest ≡ whole
cell_put {A} done new v d rest here whole is so_far given pushed =
    ap (λ l. row_of l ++ rest) pushed ∙ ap (λ l. l ++ rest) (map-append (λ (w : Value A). datum w) done (v ∷ [])) ∙ append_assoc (row_of done) (datum v ∷ []) rest
    ∙ ap (λ x. row_of done ++ x ∷ rest) given ∙ ap (λ l. row_of done ++ l) (sym is) ∙ so_far

pub loop-column-init : goal.loop-column-init
loop-column-init g c = ap (λ l. row_of l ++ key_on (g.R.Row.cells c.args.row.now) c.args.columns.now) c.new-key.ensures

pub loop-column-preserved : goal.loop-column-preserved
loop-column-preserved g c =
    let first = drop_more c.args.columns.now c.loop-column.column-index _ c.loop-column-test.true in
    cell_put c.loop-column.key _ _ _ _ _ _ (ap (λ l. key_on (g.R.Row.cells c.args.row.now) l) first) c.loop-column.invariant (c.in_ok-to_value.ensures ∙ c.cell.ensures) c.in_ok-push.ensures.ok

pub returns : goal.returns
returns g c =
    sym (append-nil (row_of c.loop-column.key)) ∙ sym (at_drop_all (λ l. row_of c.loop-column.key ++ key_on (g.R.Row.cells c.args.row.now) l) c.args.columns.now c.loop-column.column-index (omega arith)) ∙ c.loop-column.invariant
