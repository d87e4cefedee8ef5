use Rattle.std.proofs.Common.{◌≡◌, ℕ, ◌≤◌, List, [], ◌++◌, Option, length, map, drop, sym, ap, ◌∙◌, append-nil}
use Rattle.std.specs.List.{filter_map}
use Rattle.std.proofs.Math.ListN.{drop_of_length-le}
use Rattle.std.proofs.lemmas.Result.{err_from_is_err_and}
use Rattle.scope.specs.View.{entry_of}
use Rattle.access.specs.Needed.{required_by}
use Rattle.access.proofs.requirements.required.Goals as goal

pub returns-in_err-push_required : goal.returns-in_err-push_required
returns-in_err-push_required g c =
    let p = err_from_is_err_and c.from_residual.result c.from_residual.ensures.1 in
    rw p.1 tt

-- none is left
over : {Y Z : Type 0} (f : Y → Option Z) (ys : List Y) (k : ℕ) (known whole : List Z) → known ++ filter_map f (drop k ys) ≡ whole → length ys ≤ k → known ≡ whole
over f ys k known whole so_far l =
    let e : drop k ys ≡ [] = drop_of_length-le ys l in
    sym (append-nil known) ∙ ap (λ zs. known ++ filter_map f zs) (sym e) ∙ so_far

pub returns : goal.returns
returns g c = over (required_by (map (λ e. entry_of e) c.args.entries.now) c.args.mentions.now) c.args.mentions.now c.loop-mention.mention-index _ _ c.loop-mention.invariant c.loop-mention-test.false
