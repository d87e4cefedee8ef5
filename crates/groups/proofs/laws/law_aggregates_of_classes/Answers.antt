use Rattle.groups.proofs.ClassValues.{aggregates_of_classes, counts_each_row}
use Rattle.groups.proofs.laws.law_aggregates_of_classes.Goals as goal

pub returns-clause-aggregates : goal.returns-clause-aggregates
returns-clause-aggregates c = aggregates_of_classes

pub returns-clause-count : goal.returns-clause-count
returns-clause-count c = counts_each_row
