use Rattle.access.proofs.NamedEntries.{entries_are_needed}
use Rattle.access.proofs.NamedMentions.{named_are_mentioned, named_are_needed}
use Rattle.access.proofs.needed_laws.law_named_are_needed.Goals as goal

pub returns-clause-mentioned : goal.returns-clause-mentioned
returns-clause-mentioned c = named_are_mentioned

pub returns-clause-needed : goal.returns-clause-needed
returns-clause-needed c = named_are_needed

pub returns-clause-entries : goal.returns-clause-entries
returns-clause-entries c = entries_are_needed
