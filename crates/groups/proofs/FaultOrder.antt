-- The order of faults is total, and distinguishes all faults.
use Rattle.std.proofs.Common.{◌≡◌, ℕ, refl, ap, arith}
use Rattle.std.specs.Cmp.{IsTotalOrder}
use Rattle.std.proofs.lemmas.Cmp.{nat_cmp_total, then_total, on_total}
use Rattle.std.proofs.lemmas.Map.Lookups.{CmpEqualImpliesEq, exact_unsigned, exact_pairs}
use Rattle.std.specs.Ordering.{nat_cmp}
use Rattle.value.specs.Faults.{kind_rank, kind_cmp}
use Rattle.value.specs.declared.types.FaultKind.{FaultKind}
use Rattle.value.specs.declared.types.FaultKind.TheVariants.{Div0, Range, BadText}
use Rattle.value.specs.declared.faults.Fault.{Fault}
use Rattle.groups.specs.Stages.{fault_cmp}

pub fault_total : IsTotalOrder fault_cmp
fault_total = then_total (on_total (λ f. f.offset) nat_cmp_total) (on_total (λ f. f.kind) (on_total kind_rank nat_cmp_total))

same_kind : (a b : FaultKind) → kind_rank a ≡ kind_rank b → a ≡ b
same_kind Div0 Div0 e = refl
same_kind Range Range e = refl
same_kind BadText BadText e = refl
same_kind Div0 Range e = absurd (omega (arith, e))
same_kind Div0 BadText e = absurd (omega (arith, e))
same_kind Range Div0 e = absurd (omega (arith, e))
same_kind Range BadText e = absurd (omega (arith, e))
same_kind BadText Div0 e = absurd (omega (arith, e))
same_kind BadText Range e = absurd (omega (arith, e))

exact_kind : CmpEqualImpliesEq kind_cmp
exact_kind a b e = same_kind a b (exact_unsigned _ _ e)

pub fault_exact : CmpEqualImpliesEq fault_cmp
fault_exact a b e = ap (λ (p : ℕ × FaultKind). let f : Fault = record { offset = p.0; kind = p.1 } in f) (exact_pairs nat_cmp kind_cmp exact_unsigned exact_kind (a.offset, a.kind) (b.offset, b.kind) e)
