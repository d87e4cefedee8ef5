use Rattle.std.proofs.Common.{◌≡◌, Some, sym, ap, ◌∙◌, arith}
use Rattle.std.specs.Prelude.{map, option_map, option_and_then}
use Rattle.plan_texts.specs.Reading.{with_line, line_at}
use Rattle.plan_texts.specs.View.{draft_of, plan_entry_of}
use Rattle.plan_texts.proofs.Progress.{reads_on, some_byte}
use Rattle.plan_texts.proofs.reading.read_plan.Goals as goal

pub loop-next-preserved : goal.loop-next-preserved
loop-next-preserved g c =
    let entries = map plan_entry_of c.args.entries.now in
    let d = draft_of c.loop-next.draft in
    let line = c.in-Some.next.line.now in
    let stands : option_and_then (with_line d) (line_at entries line) ≡ Some (draft_of c.in-Some-2.longer) = sym c.in_ok-longer.ensures ∙ ap (option_map draft_of) c.in-Some-2.is in
    record {
      known = c.loop-next.invariant.known ∙ reads_on entries c.loop-next.number d c.loop-next.rest.now line c.in-Some.next.rest.now (draft_of c.in-Some-2.longer) c.in-Some.ensures.line stands;
      near = (let some = some_byte entries d (draft_of c.in-Some-2.longer) line stands in omega (arith, some, c.in-Some.ensures.shorter, c.loop-next.invariant.near));
    }
