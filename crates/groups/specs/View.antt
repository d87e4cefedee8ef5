-- The views of the Rust types of groups and their rows as spec data.
use Rattle.std.specs.Prelude.{List, map, option_map, Vec}
use Rattle.value.specs.Datum.{Row, datum, row_of}
use Rattle.groups.specs.declared.keys.Key as key
use Rattle.groups.specs.declared.group_row.GroupRow as row
use Rattle.groups.specs.declared.totals.Total as total
use Rattle.groups.specs.declared.totals.Total.TheVariants as totals
use Rattle.groups.specs.GroupRow.{GroupRow}
use Rattle.groups.specs.Running.{Total, Count, Sum, Best, RunningGroup}

abbrev pub key_of : {A : Type 0} → key.Key A → Row
key_of k = row_of k.values

abbrev pub total_of : {A : Type 0} → total.Total A → Total
total_of (totals.Count n) = Count n
total_of (totals.Sum z) = Sum z
total_of (totals.Best descends best) = Best descends (option_map (λ v. datum v) best)

abbrev pub totals_of : {A : Type 0} → List (total.Total A) → List Total
totals_of ts = map (λ t. total_of t) ts

-- a key and the totals of its members
abbrev pub running_of : {A : Type 0} → key.Key A × Vec (total.Total A) A → RunningGroup
running_of entry = record { key = key_of entry.0; totals = totals_of entry.1.items }

abbrev pub running_in : {A : Type 0} → List (key.Key A × Vec (total.Total A) A) → List RunningGroup
running_in entries = map (λ entry. running_of entry) entries

abbrev pub group_row_of : {A : Type 0} → row.GroupRow A → GroupRow
group_row_of g = record { key = row_of g.key; totals = row_of g.totals }
