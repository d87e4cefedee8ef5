-- The diagnostics of a refusal or a denial.
use Rattle.std.specs.Prelude.{ℕ, List, [], ◌++◌, codes, Option, Some, None}
use Rattle.replies.specs.Reply.{Reply, Refused, Denied, Faulted, Rows}
use Rattle.diagnostics.specs.Meanings.{refusal_line}
use Rattle.diagnostics.specs.Carets.{caret_lines}

abbrev pub lacking : Option (List ℕ) → List ℕ → List ℕ
lacking (Some column) table = codes "column " ++ column ++ codes " of table " ++ table ++ codes " or on the table"
lacking None table = codes "table " ++ table ++ codes " or on a column of it"

abbrev pub denial_line : Option (List ℕ) → List ℕ → List ℕ
denial_line column table = codes "42501: the role needs SELECT on " ++ lacking column table ++ codes ", granted to it, to a role that it belongs to, or to PUBLIC\n"

-- there are none of rows, nor of a fault, which rows decide
abbrev pub hint : List ℕ → Reply → List ℕ
hint text (Refused code (Some offset)) = refusal_line code ++ caret_lines text offset
hint text (Refused code None) = refusal_line code
hint text (Denied column table) = denial_line column table
hint text (Faulted fault) = []
hint text (Rows headings rows) = []
