-- The description of a role's text: the name and the type of each output column, or the refusal or denial of the text.
use Rattle.std.specs.Prelude.{ℕ, codes, List, [], ◌∷◌, map, Some, None, Result, Ok, Err}
use Rattle.value.specs.Datum.{Datum, Row, null, text}
use Rattle.value.specs.Names.{Name}
use Rattle.value.specs.declared.types.ColType.TheVariants.{Bigint, Text, Boolean}
use Rattle.expr.specs.BoundQuery.{BoundItem}
use Rattle.scope.specs.Entry.{Entry}
use Rattle.typing.specs.Typing.{TypeOf}
use Rattle.catalog.specs.Catalog.{Catalog}
use Rattle.resolve.specs.Resolved.{Bound}
use Rattle.replies.specs.Reply.{Reply, Rows}
use Rattle.analysis.specs.Analysis.{admitted}
use Rattle.descriptions.specs.Types.{bound_type}

-- the word of a type; that of NULL is null
abbrev pub type_value : TypeOf → Datum
type_value None = null
type_value (Some Bigint) = text (codes "bigint")
type_value (Some Text) = text (codes "text")
type_value (Some Boolean) = text (codes "boolean")

-- the name and the type of an output column
abbrev pub description_row : List Entry → BoundItem → Row
description_row entries i = text i.heading ∷ type_value (bound_type entries i.value) ∷ []

abbrev pub description_headings : List Name
description_headings = codes "column" ∷ codes "type" ∷ []

abbrev pub described_query : Result Bound Reply → Reply
described_query (Ok b) = Rows description_headings (map (description_row b.entries) b.query.items)
described_query (Err reply) = reply

-- the name and the type of each output column of a role's text, or its refusal or denial
abbrev pub described : Catalog → Name → List ℕ → Reply
described cat role asked = described_query (admitted cat role asked)
