-- The aggregates of an admitted query stand at different offsets.
use Rattle.std.proofs.Common.{◌≡◌, ℕ, ◌<◌, List, Result, Ok, Err, sym, ap, subst, arith}
use Rattle.std.specs.List.{AllPairs}
use Rattle.std.proofs.lemmas.List.{get_or-map, length-map}
use Rattle.value.specs.Names.{Name}
use Rattle.row_ast.specs.Ast.{Query}
use Rattle.expr.specs.Aggregates.{AggregateCall}
use Rattle.syntax.specs.Parsing.{parsed_query}
use Rattle.scope.specs.declared.error.BindError.{BindError}
use Rattle.catalog.specs.Catalog.{Catalog, is_role}
use Rattle.resolve.specs.Resolved.{Bound, bound}
use Rattle.resolve.proofs.EntryTables.{given}
use Rattle.access.specs.Access.{denial}
use Rattle.access.specs.Needed.{needed}
use Rattle.analysis.specs.Analysis.{admitted, admitted_query, permitted, query_read}
use Rattle.report.specs.QueryStages.{query_aggregates}
use Rattle.groups.specs.ClassValues.{HaveOffsets}
use Rattle.group_laws.specs.Calls.{query_call_offsets}
use Rattle.group_laws.specs.Offsets.{AggregatesHaveOffsets, TextOffsetsAscend, offsets_of}
use Rattle.group_laws.proofs.KeptOffsets.{binding_keeps_offsets}
use Rattle.analysis.proofs.Admitted.{not_denied, was_parsed}

-- ---- an admitted query is bound of that of its text

was_bound : (cat : Catalog) (role : Name) (r : Result Bound BindError) (b : Bound) → permitted cat role r ≡ Ok b → r ≡ Ok b
was_bound cat role (Err fault) b e = absurd (cc)
was_bound cat role (Ok c) b e = ap Ok (not_denied c b (denial cat role (needed c.entries c.query)) e)

bound_of_text : (cat : Catalog) (role : Name) (text : List ℕ) (b : Bound) → admitted cat role text ≡ Ok b → (q : Query) × (parsed_query text ≡ Ok q) × (bound cat q ≡ Ok b)
bound_of_text cat role text b e =
    let read = given (admitted_query cat role) b (query_read cat role text) e in
    (read.0, was_parsed (is_role cat role) (parsed_query text) _ read.0 read.1, was_bound cat role (bound cat read.0) b read.2)

-- ---- offsets that ascend differ

differ : (calls : List AggregateCall) (ns : List ℕ) → offsets_of calls ≡ ns → AllPairs (λ m n. m < n) ns → HaveOffsets calls
differ calls ns is h i j d less within same =
    let ascend : AllPairs (λ m n. m < n) (offsets_of calls) = subst (AllPairs (λ m n. m < n)) (sym is) h in
    let offset : AggregateCall → ℕ = λ c. c.offset in
    let long = length-map calls offset in
    let first = get_or-map offset calls i d d.offset (omega arith) in
    let second = get_or-map offset calls j d d.offset within in
    let below = ascend i j d.offset less (omega arith) in
    omega arith

pub have_offsets : TextOffsetsAscend → AggregatesHaveOffsets
have_offsets ascend cat role text b e =
    let it = bound_of_text cat role text b e in
    differ (query_aggregates b.query) (query_call_offsets it.0) (binding_keeps_offsets cat it.0 b it.2) (ascend text it.0 it.1)
