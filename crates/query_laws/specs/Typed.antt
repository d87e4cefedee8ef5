-- The types of an admitted query.
use Rattle.std.specs.Prelude.{◌≡◌, ℕ, List, Some, option_to_list, Ok}
use Rattle.std.specs.List.{All}
use Rattle.value.specs.declared.types.ColType.TheVariants.{Boolean}
use Rattle.value.specs.Names.{Name}
use Rattle.expr.specs.Bound.{BoundExpr}
use Rattle.expr.specs.BoundQuery.{BoundQuery}
use Rattle.scope.specs.Entry.{Entry}
use Rattle.typing.specs.Typing.{TypeOf}
use Rattle.type_laws.specs.Rules.{IsOfFitting, IsOfType}
use Rattle.catalog_laws.specs.Catalog.{Catalog}
use Rattle.analysis.specs.Resolved.{Bound}
use Rattle.analysis.specs.Analysis.{admitted}

module _ (entries : List Entry) where
  -- it has a type by the rules
  abbrev pub HasSomeType : BoundExpr → Type 0
  HasSomeType e = (t : TypeOf) × IsOfType entries e t

  -- that of a condition, or NULL's
  abbrev pub IsCondition : BoundExpr → Type 0
  IsCondition e = IsOfFitting (IsOfType entries e) (Some Boolean)

  -- each item has a type, and each ON, WHERE and HAVING is a condition
  pub record IsTyped (q : BoundQuery) : Type 0 where
    pub items : All (λ i. HasSomeType i.value) q.items
    pub ons : All (λ on. All IsCondition (option_to_list on)) q.ons
    pub filter : All IsCondition (option_to_list q.filter)
    pub having : All IsCondition (option_to_list q.having)

-- so it is of an admitted query
abbrev pub AdmittedAreTyped : Type 0
AdmittedAreTyped = (cat : Catalog) (role : Name) (text : List ℕ) (b : Bound) → admitted cat role text ≡ Ok b → IsTyped b.entries b.query
