use Rattle.std.proofs.Common.{[], ◌∙◌, sym, append-nil}
use Rattle.row_objects.proofs.grants.push_grant.Goals as goal

pub returns-in_err-push-clause-front : goal.returns-in_err-push-clause-front
returns-in_err-push-clause-front g c = ([], c.in_err-push.ensures.items ∙ sym (append-nil c.args.grants.now.items))
