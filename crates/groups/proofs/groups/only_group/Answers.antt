use Rattle.std.proofs.Common.{◌++◌, ap, ◌∙◌}
use Rattle.std.specs.BTreeMap.{insert_entry}
use Rattle.value.specs.Datum.{row_of}
use Rattle.expr.specs.View.{aggregate_calls_of}
use Rattle.groups.specs.Running.{fresh}
use Rattle.groups.specs.View.{running_in, totals_of}
use Rattle.groups.proofs.ClassLaws.{key_cmp, only_group}
use Rattle.groups.proofs.groups.only_group.Goals as goal

pub returns : goal.returns
returns g c =
    let calls = aggregate_calls_of c.args.calls.now in
    ap running_in (c.in_ok-insert.ensures.entries ∙ ap (λ es. insert_entry (key_cmp calls) es (record { values = c.new.result }) c.push_fresh.new.totals) c.new-groups.ensures.empty)
    ∙ only_group calls _ _ (ap row_of c.new.ensures) (c.in_ok-push_fresh.ensures ∙ ap (λ l. totals_of l ++ fresh calls) c.new-totals.ensures.items)
