use Rattle.std.proofs.Common.{◌≡◌, ℕ, ◌+◌, ◌<◌, Bool, true, false, ◌&&◌, List, length, get_or, drop, drop-cons, add-one, refl, sym, ap, ◌∙◌, arith}
use Rattle.std.proofs.lemmas.List.{drop_all}
use Rattle.std.specs.List.{list_all}
use Rattle.value.specs.Names.{Name}
use Rattle.catalog.specs.Catalog.{is_known}
use Rattle.catalog.proofs.catalog.Catalog.are_known.Goals as goal

module _ (p : Name → Bool) (xs : List Name) (i : ℕ) (x : Name) (lt : i < length xs) (is : x ≡ get_or xs i x) (so_far : list_all p (drop i xs) ≡ list_all p xs) where
  here : list_all p (drop i xs) ≡ (p x && list_all p (drop (i + 1) xs))
  here = rw (add-one, drop-cons xs i x, ← is) refl

  module _ (y : Name) (same : y ≡ x) where
    not_all : false ≡ p y → false ≡ list_all p xs
    not_all none = ap (λ b. b && list_all p (drop (i + 1) xs)) (none ∙ ap p same) ∙ sym here ∙ so_far

    still_all : true ≡ p y → list_all p (drop (i + 1) xs) ≡ list_all p xs
    still_all one = ap (λ b. b && list_all p (drop (i + 1) xs)) (one ∙ ap p same) ∙ sym here ∙ so_far

pub loop-name-init : goal.loop-name-init
loop-name-init g c = refl

pub returns-then-not-is_known : goal.returns-then-not-is_known
returns-then-not-is_known g c =
    not_all (is_known c.args.self.now) c.args.names.now c.loop-name.name-index c.name-item.result c.loop-name-test.true c.name-item.is c.loop-name.invariant
    c.as_str.result.now c.as_str.ensures c.if-not-is_known.ensures

pub loop-name-preserved : goal.loop-name-preserved
loop-name-preserved g c =
    still_all (is_known c.args.self.now) c.args.names.now c.loop-name.name-index c.name-item.result c.loop-name-test.true c.name-item.is c.loop-name.invariant
    c.as_str.result.now c.as_str.ensures c.if-not-is_known.ensures

pub returns : goal.returns
returns g c = sym (ap (λ l. list_all (is_known c.args.self.now) l) (drop_all c.loop-name.name-index c.args.names.now (omega (arith, c.loop-name-test.false)))) ∙ c.loop-name.invariant
