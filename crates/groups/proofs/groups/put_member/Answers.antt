use Rattle.std.proofs.Common.{◌≡◌, Ok, ap, ◌∙◌, arith}
use Rattle.std.specs.BTreeMap.Entry.{map_with_value, entry_value}
use Rattle.memory.specs.Results.{and_then}
use Rattle.expr.specs.View.{aggregate_calls_of}
use Rattle.groups.specs.Members.{all_of, with_key}
use Rattle.groups.specs.Running.{put_running}
use Rattle.groups.specs.View.{key_of, running_in, totals_of}
use Rattle.groups.proofs.Adding.{has_memory, put_gives}
use Rattle.groups.proofs.ClassLaws.{arguments_in_place, has_group, put_entry}
use Rattle.groups.proofs.groups.put_member.Goals as goal

pub returns-clause-added : goal.returns-clause-added
returns-clause-added g c =
    let e = c.in_ok-groups.field-0 in
    let new = c.add_arguments.new.totals in
    let calls = aggregate_calls_of c.args.calls.now in
    let due = all_of (g.G.Arguments.outcomes c.args.arguments.now) in
    let entries = c.args.groups.now.entries in
    let all : and_then (with_key (key_of c.args.key) due) (λ m. Ok (put_running calls m (running_in entries))) ≡ Ok (running_in (map_with_value e new).entries) =
    put_gives calls (key_of c.args.key) due _ (totals_of new.items) (running_in entries) (running_in (map_with_value e new).entries) (rw c.or_insert-totals.ensures.value at c.in_ok-add_arguments.ensures.added)
    (λ ds taken. ap running_in (c.in_ok-groups.ensures.update.1 new) ∙ put_entry calls c.args.key c.new.result new (entry_value e) ds c.new.ensures.items taken entries c.in_ok-groups.ensures.ordered c.in_ok-groups.ensures.value) in
    grind (arith, all)

pub returns-in_err-groups-clause-in_place : goal.returns-in_err-groups-clause-in_place
returns-in_err-groups-clause-in_place g c = λ there place. absurd (has_group c.args.key (g.G.Arguments.outcomes c.args.arguments.now) c.args.groups.now.entries c.in_err-groups.ensures.absent place)

pub returns-in_err-add_arguments-clause-in_place : goal.returns-in_err-add_arguments-clause-in_place
returns-in_err-add_arguments-clause-in_place g c = λ there place.
    let it = arguments_in_place c.args.key (g.G.Arguments.outcomes c.args.arguments.now) c.args.groups.now.entries (entry_value c.in_ok-groups.field-0) c.new.result c.in_ok-groups.ensures.value c.new.ensures.items place in
    has_memory _ c.in_err-add_arguments.field-0.0 c.from_residual-in_err-add_arguments.ensures.1 ((rw c.or_insert-totals.ensures.value at c.in_err-add_arguments.ensures.in_place) there it.0 it.1)
