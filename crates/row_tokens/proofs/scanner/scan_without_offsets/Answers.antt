use Rattle.std.proofs.Common.{◌≡◌, ◌∙◌, Some, None, slice_get, sym, ap, subst}
use Rattle.std.specs.Str.{IsCharBoundary}
use Rattle.row_tokens.specs.declared.lexeme.Lexeme.{Lexeme}
use Rattle.row_tokens.proofs.Starts.{Found, token_of, space_ends, past_space, token_ends, past_token, past_last, past_all}
use Rattle.row_tokens.proofs.scanner.scan_without_offsets.Goals as goal

pub range_from-rest-requires : goal.range_from-rest-requires
range_from-rest-requires g c =
    let first : Some c.in-Some.byte.now ≡ slice_get c.loop-byte.rest.now 0 = c.in-Some.ensures.value ∙ ap (λ bs. slice_get bs 0) c.as_bytes.ensures.value in
    λ _. space_ends c.loop-byte.invariant _ first (sym c.if-is_space.ensures)

pub loop-byte-preserved-then-is_space : goal.loop-byte-preserved-then-is_space
loop-byte-preserved-then-is_space g c =
    let first : Some c.in-Some.byte.now ≡ slice_get c.loop-byte.rest.now 0 = c.in-Some.ensures.value ∙ ap (λ bs. slice_get bs 0) c.as_bytes.ensures.value in
    subst (λ bs. Found c.args.text.now c.loop-byte.tokens.items bs) (sym c.range_from-rest.ensures.value)
    (past_space c.loop-byte.invariant _ first (sym c.if-is_space.ensures))

pub split_at-requires : goal.split_at-requires
split_at-requires g c =
    let first : Some c.in-Some.byte.now ≡ slice_get c.loop-byte.rest.now 0 = c.in-Some.ensures.value ∙ ap (λ bs. slice_get bs 0) c.as_bytes.ensures.value in
    subst (λ (l : Lexeme). IsCharBoundary c.loop-byte.rest.now l.size) (sym c.first_lexeme-lexeme.ensures) (token_ends c.loop-byte.invariant _ first)

pub returns-then-lexeme-eq0 : goal.returns-then-lexeme-eq0
returns-then-lexeme-eq0 g c =
    let first : Some c.in-Some.byte.now ≡ slice_get c.loop-byte.rest.now 0 = c.in-Some.ensures.value ∙ ap (λ bs. slice_get bs 0) c.as_bytes.ensures.value in
    past_last c.loop-byte.invariant c.in-Some.byte.now first c.first_lexeme-lexeme.result _ c.first_lexeme-lexeme.ensures (sym c.if-is_space.ensures) (ap (token_of c.first_lexeme-lexeme.result) c.split_at.ensures.front) c.push.new.self.items c.in_ok-push.ensures.items c.if-lexeme-eq0.true

pub loop-byte-preserved : goal.loop-byte-preserved
loop-byte-preserved g c =
    let first : Some c.in-Some.byte.now ≡ slice_get c.loop-byte.rest.now 0 = c.in-Some.ensures.value ∙ ap (λ bs. slice_get bs 0) c.as_bytes.ensures.value in
    past_token c.loop-byte.invariant c.in-Some.byte.now first c.first_lexeme-lexeme.result _ c.first_lexeme-lexeme.ensures (sym c.if-is_space.ensures) (ap (token_of c.first_lexeme-lexeme.result) c.split_at.ensures.front) c.push.new.self.items c.split_at.result.1.now c.in_ok-push.ensures.items c.split_at.ensures.back c.if-lexeme-eq0.false

pub returns : goal.returns
returns g c =
    let none : None ≡ slice_get c.loop-byte.rest.now 0 = c.in_default.ensures.value ∙ ap (λ bs. slice_get bs 0) c.as_bytes.ensures.value in
    past_all _ _ _ c.loop-byte.invariant none
