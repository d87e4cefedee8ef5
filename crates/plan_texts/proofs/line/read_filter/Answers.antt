use Rattle.std.proofs.Common.{◌≡◌, ℕ, true, if◌then◌else◌, List, Some, None, sym, ap, ◌∙◌}
use Rattle.std.specs.Prelude.{map, option_map, option_and_then}
use Rattle.row_ast.specs.Ast.{Expr}
use Rattle.row_ast.specs.View.{expr_of}
use Rattle.expr_texts.specs.Filters.{expr_at}
use Rattle.plan_texts.specs.Plans.{PlanEntry}
use Rattle.plan_texts.specs.Columns.{all_columns}
use Rattle.value.specs.Numbers.{number_at}
use Rattle.plan_texts.specs.Reading.{FilterLine, cut, is_found, filter_line, filter_at}
use Rattle.plan_texts.specs.View.{plan_entry_of, pair_of}
use Rattle.plan_texts.proofs.line.read_filter.Goals as goal

filter_is : (entries : List PlanEntry) (rest number source : List ℕ) (n : ℕ) (e : Expr) → cut rest ≡ Some (number, source) → number_at number ≡ Some n → expr_at source ≡ Some e → all_columns (is_found entries) e ≡ true
    → Some (FilterLine n e) ≡ filter_at entries (cut rest)
filter_is entries rest number source n e c k r found =
    sym (ap (filter_at entries) c ∙ ap (option_and_then (λ m. option_and_then (filter_line entries m) (expr_at source))) k ∙ ap (option_and_then (filter_line entries n)) r
    ∙ ap (λ b. if b then Some (FilterLine n e) else None) found)

pub returns : goal.returns
returns g c =
    filter_is (map plan_entry_of c.args.entries.now) c.args.rest.now c.in-Some.number.now c.in-Some.source.now c.in-Some-read_number.number (expr_of c.in-Some-2.filter.value)
    (sym c.cut.ensures ∙ ap (option_map pair_of) c.in-Some.is) (sym c.read_number.ensures ∙ c.in-Some-read_number.is) (sym c.in_ok-filter.ensures ∙ ap (option_map (λ b. expr_of b.value)) c.in-Some-2.is)
    (ap (λ x. all_columns (is_found (map plan_entry_of c.args.entries.now)) (expr_of x)) (sym c.deref.ensures) ∙ sym c.columns_found.ensures ∙ c.if-not-columns_found.false)
