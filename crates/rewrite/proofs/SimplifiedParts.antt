-- The steps that simplify each condition and part the ANDs, from a term under the filters.
use Rattle.std.proofs.Common.{◌≡◌, refl, sym, ap, ◌∙◌, List, [], ◌∷◌, ◌++◌, length, map, flat_map, Ok, sub-one}
use Rattle.expr.specs.Bound.{BoundExpr, And, BoundExprs, no_expr, one_expr}
use Rattle.expr.specs.Conjuncts.{members}
use Rattle.predicates.specs.Connectives.{and_of}
use Rattle.tuples.specs.Guards.{Guard}
use Rattle.row_terms.specs.Terms.{Term, Filtered}
use Rattle.row_terms.specs.Written.{filters}
use Rattle.algebra.specs.PlanningList.{simplified, parts_of}
use Rattle.algebra.specs.Steps.{Step}
use Rattle.rewrite.specs.Simplifying.{simplifying_each, repeated, parting, parting_each}
use Rattle.rewrite.specs.Trails.{led, at_root, below_filters}
use Rattle.rewrite.proofs.Leads.{led_then, led_filters}

-- the filters of two lists, one after the other
pub filters_append : (es fs : List BoundExpr) (x : Term) → filters (es ++ fs) x ≡ filters fs (filters es x)
filters_append [] fs x = refl
filters_append (e ∷ es) fs x = filters_append es fs (Filtered e x)

module _ (frame : List Guard) where
  -- steps after steps, to the end
  pub led_on : (ss ts : List Step) (x y z : Term) → led frame ss x ≡ Ok y → led frame ts y ≡ Ok z → led frame (ss ++ ts) x ≡ Ok z
  led_on ss ts x y z h k = led_then frame ss ts x y h ∙ k

  pub each_simplified : (es : List BoundExpr) (x : Term) → led frame (simplifying_each es) (filters es x) ≡ Ok (filters (map simplified es) x)
  each_simplified [] x = refl
  each_simplified (e ∷ es) x =
      led_on (below_filters (length es) (at_root 13 ∷ at_root 14 ∷ [])) (simplifying_each es) (filters es (Filtered e x)) (filters es (Filtered (simplified e) x)) _
      (led_filters frame es (at_root 13 ∷ at_root 14 ∷ []) (Filtered e x) (Filtered (simplified e) x) refl)
      (each_simplified es (Filtered (simplified e) x))

  -- ---- ANDs

  members_parted : (f : BoundExpr) (es : BoundExprs) (x : Term) → led frame (repeated (length (members es)) (at_root 1)) (Filtered (and_of (one_expr f es)) x) ≡ Ok (filters (f ∷ members es) x)
  members_parted f no_expr x = refl
  members_parted f (one_expr g es) x = members_parted g es (Filtered f x)

  pub parted_in_all : (e : BoundExpr) (x : Term) → led frame (parting e) (Filtered e x) ≡ Ok (filters (parts_of e) x)
  parted_in_all (And offset (one_expr e (one_expr f es))) x = rw (sub-one (length (e ∷ f ∷ members es))) (members_parted f es (Filtered e x))
  parted_in_all _ x = refl

  pub each_parted : (es : List BoundExpr) (x : Term) → led frame (parting_each es) (filters es x) ≡ Ok (filters (flat_map parts_of es) x)
  each_parted [] x = refl
  each_parted (e ∷ es) x =
      led_on (below_filters (length es) (parting e)) (parting_each es) (filters es (Filtered e x)) (filters es (filters (parts_of e) x)) _
      (led_filters frame es (parting e) (Filtered e x) (filters (parts_of e) x) (parted_in_all e x))
      (each_parted es (filters (parts_of e) x) ∙ ap Ok (sym (filters_append (parts_of e) (flat_map parts_of es) x)))
