use Rattle.std.proofs.Common.{◌≡◌, ◌∙◌, Bool, Ordering, refl, sym}
use Rattle.value.specs.Datum.{Datum, null, int, text, bool, datum_of}
use Rattle.value.specs.Orders.{compared}
use Rattle.value.specs.declared.order.Truth.TheVariants.{Unknown}
use Rattle.value.proofs.order.unless_null.Goals.{then-is_null, else-is_null}
use Rattle.value.proofs.order.unless_null.Goals as goal

module _ (test : Ordering → Bool) (x y : Datum) where
  first_null : x ≡ null → Unknown ≡ compared test x y
  first_null e = rw e refl

  second_null : y ≡ null → Unknown ≡ compared test x y
  second_null e = rw e (go x)
    where
      go : (x : Datum) → Unknown ≡ compared test x null
      go null = refl
      go (int n) = refl
      go (text t) = refl
      go (bool b) = refl

pub returns-then-is_null-2 : goal.returns-then-is_null-2
returns-then-is_null-2 g c = elim c.if-is_null.branch [
  | then-is_null w ↦ first_null (λ _. c.args.holds) (datum_of c.args.a.now) (datum_of c.args.b.now) (c.is_null.ensures.0 w.if-is_null.true)
  | else-is_null w ↦ second_null (λ _. c.args.holds) (datum_of c.args.a.now) (datum_of c.args.b.now) (w.is_null-else-is_null.ensures.0 (sym w.value-is ∙ c.if-is_null-2.true))
]
