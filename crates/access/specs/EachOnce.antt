-- Mentions of which a column counts once.
use Rattle.std.specs.Prelude.{Bool, false, List, [], ◌∷◌, ◌++◌, if◌then◌else◌}
use Rattle.std.specs.List.{list_any}
use Rattle.expr.specs.Bound.{is_column}
use Rattle.expr.specs.declared.bound.ColumnId.{ColumnId}
use Rattle.access.specs.declared.mentions.Mention.{Mention}
use Rattle.access.specs.declared.mentions.Mention.TheVariants as mention

abbrev pub is_mention_of : ColumnId → Mention → Bool
is_mention_of id (mention.From entry) = false
is_mention_of id (mention.Column other) = is_column other id

-- it is a column that is among the mentions
abbrev pub is_again : List Mention → Mention → Bool
is_again mentions (mention.From entry) = false
is_again mentions (mention.Column id) = list_any (is_mention_of id) mentions

-- one more at the end, unless it is a column that is there
abbrev pub with_mention : List Mention → Mention → List Mention
with_mention mentions m = if is_again mentions m then mentions else mentions ++ m ∷ []

abbrev pub with_mentions : List Mention → List Mention → List Mention
with_mentions mentions [] = mentions
with_mentions mentions (m ∷ more) = with_mentions (with_mention mentions m) more

-- a column only where it comes first
abbrev pub each_once : List Mention → List Mention
each_once mentions = with_mentions [] mentions
