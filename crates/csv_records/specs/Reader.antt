-- What a reader of records has left.
use Rattle.std.specs.Prelude.{ℕ, List, Option, None, Some}
use Rattle.memory.specs.declared.failure.Failure.{Failure}
use Rattle.csv_records.specs.Left.{Left}
use Rattle.csv_records.specs.declared.RecordError.{RecordError}
use Rattle.csv_records.specs.declared.records.Records.TheInside.{Inside}

-- the records are not known after a read that failed
abbrev pub unless_failed : Option (Failure RecordError) → Option (List (List (List ℕ))) → Option (List (List (List ℕ)))
unless_failed None records = records
unless_failed (Some why) records = None

abbrev pub left_of : {R : Type 0} → Inside R → Left
left_of a = record {
  records = unless_failed a.failure a.source.records;
  fields = a.source.fields;
  expected = a.expected;
  given = a.given;
  failure = a.failure;
}
