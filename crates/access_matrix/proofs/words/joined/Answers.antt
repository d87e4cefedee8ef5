use Rattle.access_matrix.proofs.Joined.{joined_done}
use Rattle.access_matrix.proofs.words.joined.Goals as goal

pub returns : goal.returns
returns g c = joined_done (λ n. n.now) c.args.names.now _ _ c.in-Some.ensures.cases.0 _ _ _ c.new-words.ensures.bytes c.in_ok-push_str.ensures.bytes c.in_ok-push_further.ensures
