use Rattle.descriptions.proofs.TypeRules.{described_types}
use Rattle.descriptions.proofs.laws.law_described_types.Goals as goal

pub returns : goal.returns
returns c = described_types
