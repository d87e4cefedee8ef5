use Rattle.std.proofs.Common.{◌≡◌, ◌++◌, ◌∷◌, [], length, map, sym, ap, ap₂, ◌∙◌, arith}
use Rattle.std.specs.List.{range_with_len}
use Rattle.std.proofs.lemmas.List.{length-map}
use Rattle.std.proofs.lemmas.List.FromFn.{map-range_with_len_more}
use Rattle.value.specs.Columns.{column_of}
use Rattle.stats.specs.Marked.{marked}
use Rattle.stats.specs.Statistics.{Known}
use Rattle.stats.proofs.Seen.{counted, counted_alone}
use Rattle.stats.proofs.marked_stats.MarkedStats.statistics.Goals as goal

pub loop-column-preserved : goal.loop-column-preserved
loop-column-preserved g c =
    let rows = c.args.table.now.rows in
    let columns = c.args.columns.now in
    let column = c.loop-column.column in
    record {
      all =
          c.in_ok-push.ensures.ok
          ∙ ap₂ (λ done stats. done ++ stats ∷ []) c.loop-column.invariant.all (c.in_ok-column_if.ensures.value ∙ ap (λ m. counted columns (marked m rows) column) c.loop-column.invariant.marks)
          ∙ sym (map-range_with_len_more (counted columns (marked c.args.self.now.marks rows)) 0 column column (omega arith));
      marks = c.column_if.ensures.marks ∙ c.loop-column.invariant.marks;
      stats = c.column_if.ensures.stats;
    }

pub returns-clause-value : goal.returns-clause-value
returns-clause-value g c =
    let table = c.args.table.now in
    let columns = c.args.columns.now in
    let kept = marked c.args.self.now.marks table.rows in
    let all : c.loop-column.column ≡ length table.columns = omega (arith, ap length c.columns-column-end.ensures, length-map c.columns-column-end.result.now column_of) in
    ap₂ Known (ap (λ s. s.rows) c.self.view_is ∙ c.loop-column.invariant.stats.count ∙ ap (λ m. length (marked m table.rows)) c.loop-column.invariant.marks)
    (c.loop-column.invariant.all ∙ ap (λ n. map (counted columns kept) (range_with_len 0 n)) all)
    ∙ sym (counted_alone columns (length table.columns) kept)
