use Rattle.std.proofs.Common.{◌≡◌, Bool, false, not, ◌&&◌, ◌||◌, ap, ◌∙◌}
use Rattle.stats.specs.View.{members}
use Rattle.joindp.specs.Following.{is_joined_to, some_joined}
use Rattle.code_costs.specs.View.{problem_of}
use Rattle.joindp.proofs.following.may_be_next.Goals as goal

-- an entry that is neither placed nor joined may be next where none is joined
where_none : (placed joined some any : Bool) → false ≡ placed → false ≡ joined → some ≡ any → not some ≡ (not placed && (joined || not any))
where_none placed joined some any p j s = ap (λ b. not b) s ∙ ap (λ b. b || not any) j ∙ ap (λ b. not b && (joined || not any)) p

pub returns-else-is_joined_to : goal.returns-else-is_joined_to
returns-else-is_joined_to g c =
    let at = (problem_of c.args.problem.now).setting in
    let placed = members c.args.placed in
    where_none (placed c.args.entry) (is_joined_to at placed c.args.entry) c.args.some (some_joined at placed) c.if-not-contains.ensures c.if-is_joined_to.ensures c.requires
