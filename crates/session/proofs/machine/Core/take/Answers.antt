use Rattle.std.proofs.Common.{rules}
use Rattle.session.proofs.machine.Core.take.Goals as goal

pub invariant_of-self : goal.invariant_of-self
invariant_of-self g c =
    let kept = c.self.invariant.0 in
    let seen = c.self.invariant.1 in
    (search rules, search rules)

pub invariant_of-self-in-Prepare : goal.invariant_of-self-in-Prepare
invariant_of-self-in-Prepare g c =
    let kept = c.self-in-Prepare.invariant.0 in
    let seen = c.self-in-Prepare.invariant.1 in
    (search rules, search rules)

pub invariant_of-self-in-Fetch : goal.invariant_of-self-in-Fetch
invariant_of-self-in-Fetch g c =
    let kept = c.self-in-Fetch.invariant.0 in
    let seen = c.self-in-Fetch.invariant.1 in
    (search rules, search rules)

pub invariant_of-self-in-Close : goal.invariant_of-self-in-Close
invariant_of-self-in-Close g c =
    let kept = c.self-in-Close.invariant.0 in
    let seen = c.self-in-Close.invariant.1 in
    (search rules, search rules)
