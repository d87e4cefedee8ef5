use Rattle.std.proofs.Common.{◌≡◌, Option, Some, None, IfSome, Result, Ok, Err, refl, subst, sym}
use Rattle.store.specs.Derived.{AreDerived}
use Rattle.store.specs.Loads.{due_rows}
use Rattle.store.proofs.Derivations.{first_kept}
use Rattle.store.proofs.stored.Stored.append_records.Goals as goal

no_failure : {X : Type 0} (o : Option X) (P : X → Type 0) → ((x : X) → P x → ⊥) → IfSome o P → o ≡ None
no_failure None P f h = refl
no_failure (Some x) P f h = absurd (f x h)

ok_is_not : {X E : Type 0} (x : X) (e : E) → ◌≡◌ {A = Result X E} (Ok x) (Err e) → ⊥
ok_is_not x e is = cc

pub derive_anew-requires : goal.derive_anew-requires
derive_anew-requires g c =
    let old = c.args.self.now in
    let h = c.in_ok-append_records.ensures in
    let read = h.some_records (no_failure c.append_records.new.records.failure _ (λ why e. ok_is_not _ _ e) h.failed) in
    subst (λ t. AreDerived t old.indexes.items)
    (sym (first_kept old.contents c.append_records.new.self c.rows-before.result (due_rows old.contents read.0) c.rows-before.ensures.rows h.columns read.1)) c.requires.derived
