use Rattle.std.proofs.Common.{◌≡◌, ℕ, true, if◌then◌else◌, List, Some, None, sym, ap, ◌∙◌}
use Rattle.std.specs.Prelude.{map, option_map, option_and_then}
use Rattle.row_ast.specs.Ast.{Expr}
use Rattle.row_ast.specs.View.{expr_of}
use Rattle.expr_texts.specs.Filters.{expr_at}
use Rattle.plan_texts.specs.Plans.{PlanEntry}
use Rattle.plan_texts.specs.Columns.{all_columns}
use Rattle.plan_texts.specs.Reading.{OnLine, cut, entry_at, is_found, on_line, on_at}
use Rattle.plan_texts.specs.View.{plan_entry_of, pair_of}
use Rattle.plan_texts.proofs.line.read_on.Goals as goal

on_is : (entries : List PlanEntry) (rest alias source : List ℕ) (i : ℕ) (e : Expr) → cut rest ≡ Some (alias, source) → entry_at entries alias ≡ Some i → expr_at source ≡ Some e → all_columns (is_found entries) e ≡ true
    → Some (OnLine (record { entry = i; condition = e })) ≡ on_at entries (cut rest)
on_is entries rest alias source i e c k r found =
    sym (ap (on_at entries) c ∙ ap (option_and_then (λ m. option_and_then (on_line entries m) (expr_at source))) k ∙ ap (option_and_then (on_line entries i)) r
    ∙ ap (λ b. if b then Some (OnLine (record { entry = i; condition = e })) else None) found)

pub returns : goal.returns
returns g c =
    on_is (map plan_entry_of c.args.entries.now) c.args.rest.now c.in-Some.alias.now c.in-Some.source.now c.in-Some-entry_number.entry (expr_of c.in-Some-2.condition.value)
    (sym c.cut.ensures ∙ ap (option_map pair_of) c.in-Some.is) (sym c.entry_number.ensures ∙ c.in-Some-entry_number.is) (sym c.in_ok-condition.ensures ∙ ap (option_map (λ b. expr_of b.value)) c.in-Some-2.is)
    (ap (λ x. all_columns (is_found (map plan_entry_of c.args.entries.now)) (expr_of x)) (sym c.deref.ensures) ∙ sym c.columns_found.ensures ∙ c.if-not-columns_found.false)
