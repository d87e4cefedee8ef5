use Rattle.std.proofs.Common.{◌∙◌, ap}
use Rattle.std.specs.Map.{lookup}
use Rattle.shared_plans.specs.Recent.{same_key}
use Rattle.shared_plans.specs.View.{key_of}
use Rattle.shared_plans.proofs.Looks.{missed}
use Rattle.accept_base.proofs.kept_plans.asked.Goals as goal

pub keep-requires : goal.keep-requires
keep-requires c =
    let key = key_of c.args.key in
    let none = missed key c.args.plans.now c.look_up.new.self c.if-look_up.ensures.found c.if-look_up.ensures.entries c.if-look_up.ensures.hits in
    ap (λ plans. lookup (same_key key) plans.entries) none.0 ∙ none.1
