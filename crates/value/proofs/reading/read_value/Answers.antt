use Rattle.std.proofs.Common.{ℤ, Ok, ap, sym, ◌∙◌, rules, FitsSigned, w64}
use Rattle.std.proofs.lemmas.Int.{to_z-of_z}
use Rattle.value.specs.Datum.{int}
use Rattle.value.specs.Exact.{as_number}
use Rattle.value.specs.Texts.{value_in}
use Rattle.value.proofs.NoUtf8.{bigint_in, boolean_in}
use Rattle.value.proofs.reading.read_value.Goals as goal

pub returns-in-Ok : goal.returns-in-Ok
returns-in-Ok c =
    let fits : FitsSigned w64 c.in-Ok.n = search rules in
    ap (λ (z : ℤ). Ok (int z)) (to_z-of_z w64 c.in-Ok.n fits) ∙ ap as_number c.in-Ok.ensures ∙ bigint_in c.args.text.now ∙ ap (λ k. value_in k c.args.text.now) (sym c.in-Bigint.is)

pub returns-in-Err : goal.returns-in-Err
returns-in-Err c = ap as_number c.in-Err.ensures ∙ bigint_in c.args.text.now ∙ ap (λ k. value_in k c.args.text.now) (sym c.in-Bigint.is)

pub returns-in-Boolean : goal.returns-in-Boolean
returns-in-Boolean c = c.read_boolean.ensures ∙ boolean_in c.args.text.now ∙ ap (λ k. value_in k c.args.text.now) (sym c.in-Boolean.is)
