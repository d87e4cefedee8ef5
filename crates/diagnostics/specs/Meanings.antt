-- The lines that list codes with their meaning.
use Rattle.std.specs.Prelude.{ℕ, List, [], ◌∷◌, ◌++◌, codes, flat_map}
use Rattle.value.specs.Codes.{code_of, meaning_of}
use Rattle.value.specs.Faults.{kind_code, kind_meaning}
use Rattle.value.specs.declared.types.FaultKind.{FaultKind}
use Rattle.value.specs.declared.types.FaultKind.TheVariants as kind
use Rattle.value.specs.declared.refusal.Refusal.{Refusal}
use Rattle.value.specs.declared.refusal.Refusal.TheVariants as r

abbrev pub refusal_line : Refusal → List ℕ
refusal_line code = code_of code ++ codes ": " ++ meaning_of code ++ codes "\n"

abbrev pub fault_line : FaultKind → List ℕ
fault_line kind = kind_code kind ++ codes ": " ++ kind_meaning kind ++ codes "\n"

-- the refusals of a query or a schema from 42501 on, in the order of their codes; those of sessions cannot occur
abbrev pub later_refusals : List Refusal
later_refusals =
    r.InsufficientPrivilege ∷ r.SyntaxError ∷ r.DuplicateColumn ∷ r.AmbiguousColumn ∷ r.UndefinedColumn ∷ r.UndefinedObject ∷ r.DuplicateObject ∷ r.DuplicateAlias
    ∷ r.GroupingError ∷ r.DatatypeMismatch ∷ r.UndefinedTable ∷ r.DuplicateTable ∷ r.InvalidColumnReference ∷ r.InvalidObjectDefinition ∷ r.OutOfMemory ∷ r.ProgramLimitExceeded ∷ []

-- each code that a reply or a refused schema may have, in the order of the codes
abbrev pub codes_text : List ℕ
codes_text = refusal_line r.InvalidGrantOperation ++ flat_map fault_line (kind.Range ∷ kind.Div0 ∷ kind.BadText ∷ []) ++ flat_map refusal_line later_refusals
