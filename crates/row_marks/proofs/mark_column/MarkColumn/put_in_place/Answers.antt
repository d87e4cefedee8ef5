use Rattle.std.proofs.Common.{◌≡◌, ◌+◌, suc, length, slice_set, Some, subst, sym, arith}
use Rattle.eval.specs.Marks.{outcome_of}
use Rattle.row_marks.proofs.Putting.{at, put_each, put_other, put_same}
use Rattle.row_marks.proofs.mark_column.MarkColumn.put_in_place.Goals as goal

pub returns-clause-marks : goal.returns-clause-marks
returns-clause-marks g c =
    let old = c.args.self.now in
    let place : c.len-place.result + 1 ≡ suc (length old.made.items) = omega (arith, c.len-place.ensures) in
    λ outcome are is k m h.
    put_each (λ mark. outcome_of mark) old.places.items old.made.items old.within c.args.number c.requires c.args.mark (c.len-place.result + 1) place (λ k m. m ≡ outcome k) are is k m
    (subst (λ l. at (λ mark. outcome_of mark) (slice_set old.places.items c.args.number (c.len-place.result + 1)) l k ≡ Some m) c.in_ok-push.ensures.items h)

pub returns-clause-put : goal.returns-clause-put
returns-clause-put g c =
    let old = c.args.self.now in
    let place : c.len-place.result + 1 ≡ suc (length old.made.items) = omega (arith, c.len-place.ensures) in
    subst (λ l. at (λ mark. outcome_of mark) (slice_set old.places.items c.args.number (c.len-place.result + 1)) l c.args.number ≡ Some (outcome_of c.args.mark)) (sym c.in_ok-push.ensures.items)
    (put_same (λ mark. outcome_of mark) old.places.items old.made.items old.within c.args.number c.requires c.args.mark (c.len-place.result + 1) place)

pub returns-clause-others : goal.returns-clause-others
returns-clause-others g c =
    let old = c.args.self.now in
    let place : c.len-place.result + 1 ≡ suc (length old.made.items) = omega (arith, c.len-place.ensures) in
    λ k ne.
    subst (λ l. at (λ mark. outcome_of mark) (slice_set old.places.items c.args.number (c.len-place.result + 1)) l k ≡ at (λ mark. outcome_of mark) old.places.items old.made.items k) (sym c.in_ok-push.ensures.items)
    (put_other (λ mark. outcome_of mark) old.places.items old.made.items old.within c.args.number c.requires c.args.mark (c.len-place.result + 1) place k ne)
