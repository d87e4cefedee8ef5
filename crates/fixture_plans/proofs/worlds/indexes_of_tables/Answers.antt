use Rattle.std.proofs.Common.{[], ◌∷◌, ◌+◌, length, refl, sym, ap, subst, ◌∙◌, arith}
use Rattle.std.proofs.lemmas.List.{length-append}
use Rattle.std.proofs.lemmas.Option.{slice_get-get_or, slice_get_read, slice_get_within}
use Rattle.indexes.specs.Indexes.{AreIndexes}
use Rattle.fixture_plans.proofs.EachIndexed.{one_more, some_same}
use Rattle.fixture_plans.proofs.worlds.indexes_of_tables.Goals as goal

pub loop-entry-preserved : goal.loop-entry-preserved
loop-entry-preserved g c = record {
  long = ap length c.in_ok-push.ensures.ok ∙ length-append c.loop-entry.all (c.in_ok-indexes_of.field-0 ∷ []) ∙ ap (λ k. k + 1) c.loop-entry.invariant.long;
  each = one_more c.args.tables.now c.args.indexed.now c.loop-entry.entry c.loop-entry.all c.push.new.self c.in_ok-indexes_of.field-0 c.loop-entry.invariant.long c.in_ok-push.ensures.ok
      (λ columns at.
      let tables = c.args.tables.now in
      let these = c.in_ok-indexes_of.field-0 in
      let listed = slice_get-get_or c.args.indexed.now c.loop-entry.entry c.index-indexed-entry.result c.loop-entry-test.true in
      let same = c.as_slice.ensures ∙ c.index-indexed-entry.is ∙ some_same _ columns (sym listed ∙ at) in
      record {
        table = c.in-Some.table.now;
        at = slice_get_read tables (length tables) c.loop-entry.entry c.in-Some.table.now refl c.in-Some.ensures.lookup.3.0 c.in-Some.ensures.lookup.1;
        are = subst (λ cs. AreIndexes c.in-Some.table.now.rows.now.rows cs these) same c.in_ok-indexes_of.ensures;
      }) c.loop-entry.invariant.each;
}

pub returns-clause-each : goal.returns-clause-each
returns-clause-each g c = λ entry columns at. c.loop-entry.invariant.each entry [] (omega (arith, slice_get_within c.args.indexed.now entry columns at, c.loop-entry-test.false)) columns at
