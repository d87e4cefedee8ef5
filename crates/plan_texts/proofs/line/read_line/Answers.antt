use Rattle.std.proofs.Common.{sym, ap, ◌∙◌}
use Rattle.std.specs.Prelude.{map}
use Rattle.plan_texts.specs.Reading.{content_at}
use Rattle.plan_texts.specs.View.{plan_entry_of}
use Rattle.plan_texts.proofs.Progress.{in_utf8, not_utf8}
use Rattle.plan_texts.proofs.line.read_line.Goals as goal

pub returns-in-Ok : goal.returns-in-Ok
returns-in-Ok g c =
    let entries = map plan_entry_of c.args.entries.now in
    rw (in_utf8 entries c.args.line.now c.in-Ok.ensures.cases.1 ∙ ap (content_at entries) (sym c.in-Ok.ensures.cases.0)) c.read_content.ensures

pub returns-in-Err : goal.returns-in-Err
returns-in-Err g c = sym (not_utf8 (map plan_entry_of c.args.entries.now) c.args.line.now c.in-Err.ensures.cases.0)
