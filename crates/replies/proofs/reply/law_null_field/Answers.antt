use Rattle.replies.proofs.Fields.{null_field}
use Rattle.replies.proofs.reply.law_null_field.Goals as goal

pub returns : goal.returns
returns c = null_field
