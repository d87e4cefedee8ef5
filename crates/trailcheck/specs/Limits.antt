-- The limits of a trail and of the terms that it makes.
use Rattle.std.specs.Prelude.{ℕ, suc, ◌+◌, Bool, nat_le}
use Rattle.row_terms.specs.Terms.{Term, Raw, Guarded, Filtered, Joined, LeftJoined, Empty}

-- the steps of a trail
abbrev pub most_steps : ℕ
most_steps = 16384

-- the nodes of a term
abbrev pub most_nodes : ℕ
most_nodes = 4096

abbrev pub node_count : Term → ℕ
node_count (Raw i) = 1
node_count (Guarded i x) = suc (node_count x)
node_count (Filtered e x) = suc (node_count x)
node_count (Joined x y) = suc (node_count x + node_count y)
node_count (LeftJoined on x y) = suc (node_count x + node_count y)
node_count (Empty is) = 1

-- the term has no more nodes than a trail may make
abbrev pub is_within_nodes : Term → Bool
is_within_nodes x = nat_le (node_count x) most_nodes
