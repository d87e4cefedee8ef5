use Rattle.std.proofs.Common.{◌≡◌, ◌<◌, ◌++◌, ◌∷◌, List, [], map, take, length, get_or, set, sym, ap, subst, ◌∙◌, arith}
use Rattle.std.proofs.lemmas.List.{length-map, map-set}
use Rattle.std.proofs.Math.Seq.{map-set_same}
use Rattle.memory.proofs.Cases.{at_err}
use Rattle.value.specs.Columns.{fits_type}
use Rattle.value.specs.Datum.{Datum, null_or}
use Rattle.value.specs.declared.types.ColType.{ColType}
use Rattle.value.specs.declared.types.ColType.TheVariants.{Bigint}
use Rattle.columns.specs.Data.{cells_of, type_of}
use Rattle.columns.specs.Held.{HoldRows}
use Rattle.columns.specs.Rows.{TypedRows, row_across, rows_from}
use Rattle.columns.proofs.Growth.{item_is, length-rows, length-unfinished, one_held, one_more, rows_kept}
use Rattle.columns.proofs.rows.Rows.push_cell.Goals as goal

pub index_mut-requires : goal.index_mut-requires
index_mut-requires g c =
    let xs = c.self.inside.columns.items in
    omega (
      arith,
      c.requires.within,
      ap (λ (t : TypedRows). length t.types) c.self.view_is,
      ap (λ (t : TypedRows). length t.unfinished) c.self.view_is,
      length-map xs type_of,
      length-unfinished c.self.inside.len c.self.inside.started (map cells_of xs) c.self.invariant.within,
    )

pub push-requires-clause-room : goal.push-requires-clause-room
push-requires-clause-room g c =
    let xs = c.self.inside.columns.items in
    let cols = map cells_of xs in
    let n = c.self.inside.len in
    let s = c.self.inside.started in
    let within : s < length xs = omega (arith, c.requires.within, ap (λ (t : TypedRows). length t.types) c.self.view_is, ap (λ (t : TypedRows). length t.unfinished) c.self.view_is, length-map xs type_of, length-unfinished n s cols c.self.invariant.within) in
    omega (
      arith,
      c.requires.room,
      ap (λ (t : TypedRows). length t.rows) c.self.view_is,
      length-rows cols 0 n,
      ap length (item_is cells_of xs s c.index_mut.result.now [] within c.index_mut.ensures.value),
      c.self.invariant.others s (omega arith) (omega (arith, length-map xs cells_of)),
    )

pub push-requires-clause-fits : goal.push-requires-clause-fits
push-requires-clause-fits g c =
    let xs = c.self.inside.columns.items in
    let cols = map cells_of xs in
    let n = c.self.inside.len in
    let s = c.self.inside.started in
    let within : s < length xs = omega (arith, c.requires.within, ap (λ (t : TypedRows). length t.types) c.self.view_is, ap (λ (t : TypedRows). length t.unfinished) c.self.view_is, length-map xs type_of, length-unfinished n s cols c.self.invariant.within) in
    let count : length c.args.self.now.unfinished ≡ s = sym (ap (λ (t : TypedRows). length t.unfinished) c.self.view_is) ∙ length-unfinished n s cols c.self.invariant.within in
    let its_type : type_of c.index_mut.result.now ≡ get_or c.args.self.now.types (length c.args.self.now.unfinished) Bigint =
    item_is type_of xs s c.index_mut.result.now Bigint within c.index_mut.ensures.value ∙ (λ i. get_or (ap (λ (t : TypedRows). t.types) c.self.view_is i) (sym count i) Bigint) in
    ap (λ (t : ColType). fits_type t (null_or c.args.value)) its_type ∙ c.requires.fits

pub invariant_of-self : goal.invariant_of-self
invariant_of-self g c =
    let xs = c.self.inside.columns.items in
    let s = c.self.inside.started in
    subst (HoldRows c.self.inside.len s) (sym (map-set_same cells_of xs s c.push.new.self c.index_mut.result.now (c.in_err-push.ensures.err ∙ ap cells_of c.index_mut.ensures.value))) c.self.invariant

pub returns-in_err-push-clause-types : goal.returns-in_err-push-clause-types
returns-in_err-push-clause-types g c =
    map-set_same type_of c.self.inside.columns.items c.self.inside.started c.push.new.self c.index_mut.result.now (c.push.ensures.data_type ∙ ap type_of c.index_mut.ensures.value) ∙ ap (λ (t : TypedRows). t.types) c.self.view_is

pub returns-in_err-push-clause-rows : goal.returns-in_err-push-clause-rows
returns-in_err-push-clause-rows g c =
    let same = map-set_same cells_of c.self.inside.columns.items c.self.inside.started c.push.new.self c.index_mut.result.now (c.in_err-push.ensures.err ∙ ap cells_of c.index_mut.ensures.value) in
    ap (λ (l : List (List Datum)). rows_from l 0 c.self.inside.len) same ∙ ap (λ (t : TypedRows). t.rows) c.self.view_is

pub returns-in_err-push-clause-err : goal.returns-in_err-push-clause-err
returns-in_err-push-clause-err g c =
    let n = c.self.inside.len in
    let s = c.self.inside.started in
    let same = map-set_same cells_of c.self.inside.columns.items s c.push.new.self c.index_mut.result.now (c.in_err-push.ensures.err ∙ ap cells_of c.index_mut.ensures.value) in
    let types = map-set_same type_of c.self.inside.columns.items s c.push.new.self c.index_mut.result.now (c.push.ensures.data_type ∙ ap type_of c.index_mut.ensures.value) in
    at_err c.from_residual.result ((λ i. record { types = types i; rows = rows_from (same i) 0 n; unfinished = take s (row_across (same i) n) }) ∙ c.self.view_is)

pub invariant_of-self-2 : goal.invariant_of-self-2
invariant_of-self-2 g c =
    let xs = c.self.inside.columns.items in
    let cols = map cells_of xs in
    let n = c.self.inside.len in
    let s = c.self.inside.started in
    let within : s < length xs = omega (arith, c.requires.within, ap (λ (t : TypedRows). length t.types) c.self.view_is, ap (λ (t : TypedRows). length t.unfinished) c.self.view_is, length-map xs type_of, length-unfinished n s cols c.self.invariant.within) in
    let was = item_is cells_of xs s c.index_mut.result.now [] within c.index_mut.ensures.value in
    one_held n s cols (map cells_of (set xs s c.push.new.self)) (null_or c.args.value) c.self.invariant (omega (arith, length-map xs cells_of))
    (map-set cells_of xs s c.push.new.self ∙ ap (λ l. set cols s l) (c.in_ok-push.ensures.ok ∙ ap (λ (l : List Datum). l ++ null_or c.args.value ∷ []) was))

pub returns-clause-types : goal.returns-clause-types
returns-clause-types g c =
    map-set_same type_of c.self.inside.columns.items c.self.inside.started c.push.new.self c.index_mut.result.now (c.push.ensures.data_type ∙ ap type_of c.index_mut.ensures.value) ∙ ap (λ (t : TypedRows). t.types) c.self.view_is

pub returns-clause-rows : goal.returns-clause-rows
returns-clause-rows g c =
    let xs = c.self.inside.columns.items in
    let cols = map cells_of xs in
    let n = c.self.inside.len in
    let s = c.self.inside.started in
    let within : s < length xs = omega (arith, c.requires.within, ap (λ (t : TypedRows). length t.types) c.self.view_is, ap (λ (t : TypedRows). length t.unfinished) c.self.view_is, length-map xs type_of, length-unfinished n s cols c.self.invariant.within) in
    let was = item_is cells_of xs s c.index_mut.result.now [] within c.index_mut.ensures.value in
    rows_kept n s cols (map cells_of (set xs s c.push.new.self)) (null_or c.args.value) c.self.invariant (omega (arith, length-map xs cells_of))
    (map-set cells_of xs s c.push.new.self ∙ ap (λ l. set cols s l) (c.in_ok-push.ensures.ok ∙ ap (λ (l : List Datum). l ++ null_or c.args.value ∷ []) was))
    ∙ ap (λ (t : TypedRows). t.rows) c.self.view_is

pub returns-clause-ok : goal.returns-clause-ok
returns-clause-ok g c =
    let xs = c.self.inside.columns.items in
    let cols = map cells_of xs in
    let n = c.self.inside.len in
    let s = c.self.inside.started in
    let within : s < length xs = omega (arith, c.requires.within, ap (λ (t : TypedRows). length t.types) c.self.view_is, ap (λ (t : TypedRows). length t.unfinished) c.self.view_is, length-map xs type_of, length-unfinished n s cols c.self.invariant.within) in
    let was = item_is cells_of xs s c.index_mut.result.now [] within c.index_mut.ensures.value in
    one_more n s cols (map cells_of (set xs s c.push.new.self)) (null_or c.args.value) c.self.invariant (omega (arith, length-map xs cells_of))
    (map-set cells_of xs s c.push.new.self ∙ ap (λ l. set cols s l) (c.in_ok-push.ensures.ok ∙ ap (λ (l : List Datum). l ++ null_or c.args.value ∷ []) was))
    ∙ ap (λ (t : TypedRows). t.unfinished ++ null_or c.args.value ∷ []) c.self.view_is
