use Rattle.std.proofs.Common.{◌≡◌, ◌∙◌, Some, ap, bytes_eq, option_copied, rules, sym, tests, true}
use Rattle.std.proofs.lemmas.Result.{on_ok_weaker}
use Rattle.row_objects.specs.View.{grant_of}
use Rattle.row_objects.proofs.HeldColumns.{held_of_column}
use Rattle.row_objects.proofs.grants.push_held.Goals as goal

pub returns-in_ok-new-in-Some : goal.returns-in_ok-new-in-Some
returns-in_ok-new-in-Some g c =
    let same : bytes_eq c.args.grant.now.to c.args.to.now ≡ true = search (rules, tests) in
    let on : c.args.grant.now.column ≡ Some c.in_ok-new-in-Some.field-0 = search rules in
    on_ok_weaker c.push.result (λ e. λ column. rw e (held_of_column c.args.held.now (grant_of c.args.grant.now) c.args.to.now c.in_ok-new-in-Some.field-0 column same on)) c.push.ensures.ok
