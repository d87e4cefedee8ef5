use Rattle.std.proofs.Common.{◌≡◌, ◌<◌, [], length, map, take, get_or, set, sym, ap, ◌∙◌, arith, below_more}
use Rattle.std.proofs.lemmas.List.{length-map, length-set}
use Rattle.std.proofs.Math.Seq.{map-set_same}
use Rattle.columns.specs.Data.{cells_of, type_of}
use Rattle.columns.proofs.Growth.{set_here, set_there, cut_by, item_is}
use Rattle.columns.proofs.rows.truncate_all.Goals as goal

pub truncate-requires : goal.truncate-requires
truncate-requires g c =
    let old = c.args.columns.now.items in
    let xs = c.loop-i.columns.items in
    let i = c.loop-i.i in
    let within : i < length xs = omega (arith, c.loop-i.invariant.long) in
    let here = item_is cells_of xs i c.index_mut.result.now [] within c.index_mut.ensures.value ∙ c.loop-i.invariant.left i (omega arith) in
    omega (arith, ap length here, c.requires i [] (omega (arith, length-map old cells_of, c.loop-i.invariant.long)))

pub loop-i-preserved : goal.loop-i-preserved
loop-i-preserved g c =
    let old = c.args.columns.now.items in
    let xs = c.loop-i.columns.items in
    let i = c.loop-i.i in
    let x = c.index_mut.result.now in
    let new = c.truncate.new.self in
    let within : i < length xs = omega (arith, c.loop-i.invariant.long) in
    let was : cells_of x ≡ get_or (map cells_of old) i [] = item_is cells_of xs i x [] within c.index_mut.ensures.value ∙ c.loop-i.invariant.left i (omega arith) in
    record {
      long = length-set xs i new ∙ c.loop-i.invariant.long;
      types = map-set_same type_of xs i new x (c.truncate.ensures.data_type ∙ ap type_of c.index_mut.ensures.value) ∙ c.loop-i.invariant.types;
      cut = below_more (λ j. get_or (map cells_of (set xs i new)) j [] ≡ take c.args.len (get_or (map cells_of old) j [])) i
          (λ j lt. set_there cells_of xs i new [] j (λ e. omega (arith, e)) ∙ c.loop-i.invariant.cut j lt)
          (set_here cells_of xs i new [] within ∙ c.truncate.ensures.cells ∙ ap (take c.args.len) was);
      left = λ j le. set_there cells_of xs i new [] j (λ e. omega (arith, e)) ∙ c.loop-i.invariant.left j (omega arith);
    }

pub returns-clause-cells : goal.returns-clause-cells
returns-clause-cells g c =
    let old = c.args.columns.now.items in
    let xs = c.loop-i.columns.items in
    cut_by (map cells_of old) (map cells_of xs) c.args.len (length-map xs cells_of ∙ c.loop-i.invariant.long ∙ sym (length-map old cells_of))
    (λ j lt. c.loop-i.invariant.cut j (omega (arith, length-map old cells_of, c.loop-i.invariant.long, c.len-i-end.ensures)))
