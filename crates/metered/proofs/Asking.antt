-- The call of `refuses`: its premises, and its effect. Assumes `Logic`.
use Rattle.std.proofs.Common.{◌≡◌, ℕ, Bool, List, [], ◌∷◌, refl, ap}
use seplogic.Ra.Ura.{Ura}
use mir.Val.{Val, vbool, vptr}
use base.Logic.{SProp, ent, sep, ex, guard, id⊢}
use base.Fml.{Fml, Lft, Share, ftrue, fsep, flft}
use prog.Memory.{Memory}
use prog.Routine.{Routine}
use types.Logic.{Logic, sem}
use contract.Monad.{Fun}
use types.Kit.{‵, ◌⊛◌, raw, some, later, ◌$◌, ◌∵◌, !, qed, move, keep, use1, split, join, pick, fjoin, feq_i, feq_l, check, show, await, updating, now as at_once, done}
use denote.Memory.{hidden_shr}
use denote.Builtin.{u64, bool}
use denote.Steps.{nothing, only}
use denote.Triple.Statement.{Contract}
use denote.Triple.Spec.{triple_of}
use Rattle.std.specs.contracts.cell.Cell as cell
use Rattle.metered.specs.contracts.refuses as refuses

-- the shared cell of the count, at an address, for a lifetime
abbrev pub count_at : Lft → ℕ × ℕ → Fml
count_at κ c = hidden_shr (cell.the_row u64) κ (record { value = tt }) c.0 c.1

module _ {M : Type 1} {𝓤 : Ura M} (𝓛 : Logic 𝓤) (at_mem : Memory → SProp 𝓤) (run : Routine → Fun 𝓤) where
  abbrev pub Asks : Contract 𝓤
  Asks = triple_of 𝓛 refuses.signature (refuses.spec 𝓛 at_mem run)

  module _ (κ : Lft) (q : Share) (c : ℕ × ℕ) where
    open 𝓛 use {H, A}

    abbrev pub asked : Asks.Ghost
    asked = (((κ, tt), (q, tt), tt, (record { ref_ptr = c; now = record { value = tt } }, tt), (vptr c.0 c.1 ∷ [], tt)), tt)

    -- the answer as a caller knows it, and the lifetime that it has again
    abbrev pub Told : Val → Bool → SProp 𝓤
    Told v refused = guard 𝓤 (v ≡ vbool refused) (A.lft κ q)

    pub asks-takes : ent 𝓤 (sep 𝓤 (sem 𝓛 (count_at κ c)) (A.lft κ q)) (Asks.pre asked)
    asks-takes =
        qed 𝓛 (‵ (count_at κ c) ∷ ‵ (flft κ q) ∷ []) ∵ feq_i ! (List Val) (vptr c.0 c.1 ∷ []) (vptr c.0 c.1 ∷ []) refl $ fjoin ! $ nothing ! $ move ! (1 ∷ []) $ fjoin ! $
        nothing ! $ move ! (2 ∷ []) $ join ! $ join ! $ nothing ! $ move ! (1 ∷ []) $ done !

    pub asks-leaves : (v : Val) → ent 𝓤 (Asks.post asked v) (H.⇛ (ex 𝓤 (Told v)))
    asks-leaves v =
        qed 𝓛 (raw (Asks.post asked v) ∷ []) ∵ updating ! $
        use1 𝓛 (later (some (λ (r : Bool). ((‵ (flft κ q) ⊛ ‵ ftrue) ⊛ ‵ (bool.own_val r (v ∷ []))) ⊛ some (λ (ws : Unit {0} × Unit {0}). ‵ (fsep ftrue ftrue) ⊛ ‵ ftrue)))) (id⊢ 𝓤 _) $
        await ! tt $ pick ! (λ r. split ! $ split ! $ move ! (1 ∷ []) $ feq_l ! (λ is_r. split ! $ at_once ! $ show ! (Told v) r $ check ! (ap only is_r) $ keep ! (0 ∷ []) $ done !))
