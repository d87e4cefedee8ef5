use Rattle.std.proofs.lemmas.Bool.{ltb-false, ltb-true}
use Rattle.std.proofs.Common.{ap, ◌≡◌, ◌∙◌, refl, sym, ℕ, nat_lt, Bor, List, length, map, get_or, Option, Some, None, option_map, slice_get}
use Rattle.std.specs.Option.{is_some, IfSome}
use Rattle.std.proofs.lemmas.Option.{slice_get-map, slice_get_past, slice_get_read}
use Rattle.expr.specs.Conjuncts.{conjuncts_of}
use Rattle.expr.specs.View.{bound_expr_of}
use Rattle.expr.proofs.Conjoined.{members_of}
use Rattle.expr.proofs.Walks.{and_is}
use Rattle.predicates.proofs.numbering.conjunct_at.Goals as goal

-- the view of what is found at an index
viewed : {X Y : Type 0} (v : X → Y) (xs : List X) (i : ℕ) (r : Option (Bor X)) → is_some r ≡ nat_lt i (length xs) → IfSome r (λ x. x.now ≡ get_or xs i x.now) → option_map (λ e. v e.now) r ≡ slice_get (map v xs) i
viewed v xs i (Some x) s h = ap (option_map v) (sym (slice_get_read xs (length xs) i x.now refl (ltb-true i (length xs) (sym s)) h)) ∙ sym (slice_get-map v xs i)
viewed v xs i None s h = ap (option_map v) (sym (slice_get_past xs i (ltb-false i (length xs) (sym s)))) ∙ sym (slice_get-map v xs i)

pub returns-in-And : goal.returns-in-And
returns-in-And g c =
    let items = c.deref.ensures.value in
    let whole = and_is c.args.expression.now c.in-And.offset c.in-And.members c.in-And.members.items refl c.in-And.is in
    viewed (λ e. bound_expr_of e) c.deref.result.now c.args.index c.get.result c.get.ensures.lookup.0 c.get.ensures.lookup.1
    ∙ ap (λ xs. slice_get (map (λ e. bound_expr_of e) xs) c.args.index) items
    ∙ ap (λ xs. slice_get xs c.args.index) (sym (members_of c.in-And.members.items))
    ∙ ap (λ e. slice_get (conjuncts_of e) c.args.index) (sym whole)
