-- The views of the parts of expressions that the parser joins, as spec data.
use Rattle.std.specs.Prelude.{ℕ, Option, map, Box}
use Rattle.value.specs.Datum.{datum}
use Rattle.row_ast.specs.Ast as ast
use Rattle.row_ast.specs.View.{expr_of}
use Rattle.row_ast.specs.declared.expr.Expr.{Expr}
use Rattle.row_reader.specs.Expressions as rules
use Rattle.row_expressions.specs.declared.build.Range.{Range}
use Rattle.row_expressions.specs.declared.build.Range.TheVariants as range
use Rattle.row_expressions.specs.declared.build.Otherwise.{Otherwise}
use Rattle.row_expressions.specs.declared.build.Otherwise.TheVariants as otherwise
use Rattle.row_expressions.specs.declared.build.CallSuffix.{CallSuffix}
use Rattle.row_expressions.specs.declared.build.CallSuffix.TheVariants as suffix

-- an expression with its offset
abbrev pub located : {A : Type 0} → ℕ × Box (Expr A) A → ℕ × ast.Expr
located p = (p.0, expr_of p.1.value)

abbrev pub range_of : {A : Type 0} → Range A → rules.Range
range_of (range.Bounds offset low high) = rules.Bounds offset (expr_of low.value) (expr_of high.value)
range_of (range.Values offset vs) = rules.Values offset (map datum vs)

abbrev pub signed_of : {A : Type 0} → Option ℕ × Range A → Option ℕ × rules.Range
signed_of p = (p.0, range_of p.1)

abbrev pub otherwise_of : {A : Type 0} → Otherwise A → ast.Otherwise
otherwise_of otherwise.Nothing = ast.Nothing
otherwise_of (otherwise.Value e) = ast.Value (expr_of e.value)

abbrev pub suffix_of : {A : Type 0} → CallSuffix A → rules.CallSuffix
suffix_of suffix.Star = rules.Star
suffix_of (suffix.Argument e) = rules.Argument (expr_of e.value)
suffix_of (suffix.Dotted n) = rules.Dotted n
