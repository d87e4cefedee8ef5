use Rattle.std.proofs.Common.{◌≡◌, List, [], ◌∷◌, length, refl, ap, sym, ◌∙◌, arith}
use Rattle.std.specs.Ordering.{ordering_then}
use Rattle.std.specs.declared.cmp.Ordering.TheVariants.{Equal}
use Rattle.value.specs.Datum.{Row}
use Rattle.expr.specs.declared.query.OutputKey.{OutputKey}
use Rattle.answer_rows.specs.Ordered.{by_key, by_keys}
use Rattle.answer_rows.proofs.comparing.+cmp_by_keys.Goals as goal

by_none : (keys : List OutputKey) (a b : Row) → length keys ≡ 0 → Equal ≡ by_keys keys a b
by_none [] a b none = refl
by_none (key ∷ keys) a b none = absurd (omega arith)

by_more : (keys rest : List OutputKey) (key : OutputKey) (a b : Row) → keys ≡ key ∷ rest → Equal ≡ by_key key a b → by_keys rest a b ≡ by_keys keys a b
by_more keys rest key a b e same = ap (λ o. ordering_then o (by_keys rest a b)) same ∙ sym (ap (λ ks. by_keys ks a b) e)

pub returns-in-None : goal.returns-in-None
returns-in-None g t c = by_none c.args.keys.now c.args.a.now c.args.b.now c.in-None.ensures.cases

pub returns-in-Equal : goal.returns-in-Equal
returns-in-Equal g t c = c.cmp_by_keys.ensures ∙ by_more c.args.keys.now c.in-Some.keys.now c.in-Some.key.now c.args.a.now c.args.b.now c.in-Some.ensures.cases.0 c.in-Equal.ensures
