use Rattle.std.proofs.Common.{◌≡◌, ◌++◌, ℕ, ◌-◌, true, false, ◌∷◌, List, map, Ok, Err, refl, sym, ap, ◌∙◌, arith}
use Rattle.std.proofs.lemmas.Result.{err_from_is_err_and}
use Rattle.std.proofs.lemmas.List.{length-map}
use Rattle.std.specs.List.{flat_map}
use Rattle.std.specs.Prelude.{Result, Box, IfOk}
use denote.Ref.{Bor}
use Rattle.memory.specs.Gives.{Gives}
use Rattle.row_grammar.specs.Decoder.{first, head_in, Outcome}
use Rattle.row_grammar.specs.declared.error.ReadError.{ReadError}
use Rattle.row_grammar.specs.Limits.{reads}
use Rattle.row_grammar.proofs.Steps.{fault_along, run_start, run_err}
use Rattle.row_tokens.specs.declared.token.TokenKind.TheVariants as k
use Rattle.row_tokens.specs.Tokens.{Token}
use Rattle.row_tokens.specs.View.{word_of, words_of}
use Rattle.row_tokens.specs.declared.token.Token.{Token as Lexed}
use Rattle.row_ast.specs.Ast.{Expr, And, Or, exprs_of, and_members, or_members}
use Rattle.row_reader.specs.Language.{language, Located, is, of, next_at, kind_of}
use Rattle.row_reader.specs.Expressions as rules
use Rattle.row_reader.specs.Expressions.{grammar, nested_first, folded_left, and_of, or_of}
use Rattle.row_ast.specs.View.{expr_of, arm_pair}
use Rattle.row_ast.specs.declared.expr.Expr.{Expr as Tree}
use Rattle.row_reader.specs.Reading.{with_rest}
use Rattle.row_expressions.specs.Connectives.{connective_word, joined_expr, members_of}
use Rattle.row_expressions.specs.Levels.{connected_rule, member_rule, next_member_rule, next_rule, operand_rule, run_rule, sign_class}
use Rattle.row_expressions.specs.GoesOn.{case_step}
use Rattle.row_expressions.specs.View.{located, otherwise_of}
use Rattle.row_expressions.proofs.GoesOn.{goes_on}
use Rattle.row_expressions.specs.declared.build.Connective.{Connective}
use Rattle.row_expressions.specs.declared.build.Connective.TheVariants as word
use Rattle.row_expressions.specs.declared.expressions.Level.{Level}
use Rattle.row_expressions.specs.declared.expressions.Level.TheVariants as level
use Rattle.row_reader.proofs.Lists.{listed_stop, listed_over, listed_fail, listed_go, listed_first, listed_none}
use Rattle.row_expressions.proofs.Runs.{run_on, run_stop, run_full, run_fail, run_go, run_more, word_is_next, joined, joined_go, joined_end}
use Rattle.row_expressions.proofs.expressions.+expression.Goals as goal

-- ---- the expression made at the end

kept : {A F : Type 0} (made : Result (ℕ × Box (Tree A) A) F) (rest : Bor (List Lexed)) (whole : Located) (due : Outcome Token Located) → IfOk made (λ p. located p ≡ whole) → due ≡ Ok (whole, words_of rest.now)
    → Gives (λ x. (located x.0, words_of x.1.now)) (with_rest made rest) due
kept (Ok p) rest whole due h r = r ∙ ap (λ (x : Located). let o : Outcome Token Located = Ok (x, words_of rest.now) in o) (sym h)
kept (Err e) rest whole due h r = tt

-- ---- arms

begins_arm : first language nested_first rules.arm ≡ is k.When
unfolding rules.arm
begins_arm = refl

pub arms-returns-in_err-first : goal.arms-returns-in_err-first
unfolding rules.arms
arms-returns-in_err-first g t c =
    let p = err_from_is_err_and c.from_residual.result c.from_residual.ensures.1 in
    rw (p.1, p.2) (listed_none c.args.reader.run_limit c.args.reader.depth_limit rules.arm rules.arm (map word_of c.args.tokens.now) c.in_err-first.field-0.0 c.in_err-first.ensures)

pub arms-loop-init : goal.arms-loop-init
unfolding rules.arms
arms-loop-init g t c =
    listed_first c.args.reader.run_limit c.args.reader.depth_limit (λ a. arm_pair a) rules.arm (is k.When) rules.arm (map word_of c.args.tokens.now) begins_arm c.in_ok-first.first (map word_of c.in_ok-first.rest.now) _ c.new-all.result c.push.new.self
    c.in_ok-first.ensures c.new-all.ensures c.in_ok-push.ensures.ok (omega (arith, length-map c.in_ok-first.rest.now word_of))

pub arms-returns-then-not-sees : goal.arms-returns-then-not-sees
arms-returns-then-not-sees g t c = listed_stop c.args.reader.run_limit c.args.reader.depth_limit (λ a. arm_pair a) rules.arm (is k.When) (reads grammar c.args.reader.run_limit c.args.reader.depth_limit rules.arms (map word_of c.args.tokens.now)) c.loop.all _ (map word_of c.loop.rest.now) c.loop.invariant (cc (c.sees.ensures, c.if-not-sees.true))

pub arms-returns : goal.arms-returns
arms-returns g t c = listed_over c.args.reader.run_limit c.args.reader.depth_limit (λ a. arm_pair a) rules.arm (is k.When) (reads grammar c.args.reader.run_limit c.args.reader.depth_limit rules.arms (map word_of c.args.tokens.now)) c.loop.all _ (map word_of c.loop.rest.now) c.loop.invariant (omega arith)

pub arms-returns-in_err-next : goal.arms-returns-in_err-next
arms-returns-in_err-next g t c =
    let p = err_from_is_err_and c.from_residual-in_err-next.result c.from_residual-in_err-next.ensures.1 in
    rw (p.1, p.2) (listed_fail c.args.reader.run_limit c.args.reader.depth_limit (λ a. arm_pair a) rules.arm (is k.When) (reads grammar c.args.reader.run_limit c.args.reader.depth_limit rules.arms (map word_of c.args.tokens.now)) c.loop.all _ (map word_of c.loop.rest.now) c.loop.invariant c.in_err-next.field-0.0 (omega arith) (cc (c.sees.ensures, c.if-not-sees.false)) c.in_err-next.ensures)

pub arms-loop-preserved : goal.arms-loop-preserved
arms-loop-preserved g t c =
    listed_go c.args.reader.run_limit c.args.reader.depth_limit (λ a. arm_pair a) rules.arm (is k.When) (reads grammar c.args.reader.run_limit c.args.reader.depth_limit rules.arms (map word_of c.args.tokens.now)) c.loop.all _ (map word_of c.loop.rest.now) c.loop.invariant c.in_ok-next.next (map word_of c.in_ok-next.after.now) c.push-in-loop.new.self _ (omega arith) (cc (c.sees.ensures, c.if-not-sees.false))
    c.in_ok-next.ensures c.in_ok-push-2.ensures.ok (omega arith)

-- ---- operations

begins : (l : Level) → first language nested_first (next_rule l) ≡ of (sign_class l)
unfolding rules.factor rules.addend rules.multiplication rules.addition of
begins level.Product = refl
begins level.Sum = refl

start_run : (l : Level) (w d n : _) (ts : List Token) (x : Located) (us : List Token) → reads grammar w d (operand_rule l) ts ≡ Ok (x, us) → n ≡ w → run_on w d (next_rule l) (of (sign_class l)) (folded_left x) n us ≡ reads grammar w d (run_rule l) ts
unfolding rules.product rules.sum
start_run level.Product w d n ts x us e j = rw (j, ← begins level.Product) (run_start grammar w d (λ x ys. folded_left x ys) rules.unary true rules.factor ts x us e)
start_run level.Sum w d n ts x us e j = rw (j, ← begins level.Sum) (run_start grammar w d (λ x ys. folded_left x ys) rules.product true rules.addend ts x us e)

no_run : (l : Level) (w d : _) (ts : List Token) (stop : ReadError) → reads grammar w d (operand_rule l) ts ≡ Err stop → reads grammar w d (run_rule l) ts ≡ Err stop
unfolding rules.product rules.sum
no_run level.Product w d ts stop r = run_err grammar w d (λ x ys. folded_left x ys) rules.unary true rules.factor ts stop r
no_run level.Sum w d ts stop r = run_err grammar w d (λ x ys. folded_left x ys) rules.product true rules.addend ts stop r

pub operations-returns-in_err-left : goal.operations-returns-in_err-left
operations-returns-in_err-left g t c =
    let p = err_from_is_err_and c.from_residual.result c.from_residual.ensures.1 in
    rw (p.1, p.2) (fault_along c.in_err-left.field-0.0 (reads grammar c.args.reader.run_limit c.args.reader.depth_limit (operand_rule c.args.level) (map word_of c.args.tokens.now)) (reads grammar c.args.reader.run_limit c.args.reader.depth_limit (run_rule c.args.level) (map word_of c.args.tokens.now))
    (no_run c.args.level c.args.reader.run_limit c.args.reader.depth_limit (map word_of c.args.tokens.now)) c.in_err-left.ensures)

pub operations-loop-init : goal.operations-loop-init
operations-loop-init g t c = start_run c.args.level c.args.reader.run_limit c.args.reader.depth_limit _ (map word_of c.args.tokens.now) (located c.in_ok-left.left) (map word_of c.in_ok-left.rest.now) c.in_ok-left.ensures (omega arith)

pub operations-returns-then-not-sees_any : goal.operations-returns-then-not-sees_any
operations-returns-then-not-sees_any g t c = run_stop c.args.reader.run_limit c.args.reader.depth_limit (next_rule c.args.level) (of (sign_class c.args.level)) (folded_left (located c.loop.left)) (reads grammar c.args.reader.run_limit c.args.reader.depth_limit (run_rule c.args.level) (map word_of c.args.tokens.now)) (c.args.reader.run_limit - c.loop.counter) (map word_of c.loop.rest.now) c.loop.invariant (cc (c.sign_class-signs.ensures, c.sees_any.ensures, c.if-not-sees_any.true))

pub operations-returns : goal.operations-returns
operations-returns g t c = run_stop c.args.reader.run_limit c.args.reader.depth_limit (next_rule c.args.level) (of (sign_class c.args.level)) (folded_left (located c.loop.left)) (reads grammar c.args.reader.run_limit c.args.reader.depth_limit (run_rule c.args.level) (map word_of c.args.tokens.now)) (c.args.reader.run_limit - c.loop.counter) (map word_of c.loop.rest.now) c.loop.invariant (cc (c.sign_class-signs.ensures, c.sees_any-2.ensures, c.if-sees_any.false))

pub operations-returns-then-sees_any : goal.operations-returns-then-sees_any
operations-returns-then-sees_any g t c = rw (← length-map c.loop.rest.now word_of) (run_full c.args.reader.run_limit c.args.reader.depth_limit (next_rule c.args.level) (of (sign_class c.args.level)) (folded_left (located c.loop.left)) (reads grammar c.args.reader.run_limit c.args.reader.depth_limit (run_rule c.args.level) (map word_of c.args.tokens.now)) (c.args.reader.run_limit - c.loop.counter) (map word_of c.loop.rest.now) c.loop.invariant (omega arith) (cc (c.sign_class-signs.ensures, c.sees_any-2.ensures, c.if-sees_any.true)))

pub operations-returns-in_err-sign : goal.operations-returns-in_err-sign
operations-returns-in_err-sign g t c =
    let p = err_from_is_err_and c.from_residual-in_err-sign.result c.from_residual-in_err-sign.ensures.1 in
    rw (p.1, p.2) (run_fail c.args.reader.run_limit c.args.reader.depth_limit (next_rule c.args.level) (of (sign_class c.args.level)) (folded_left (located c.loop.left)) (reads grammar c.args.reader.run_limit c.args.reader.depth_limit (run_rule c.args.level) (map word_of c.args.tokens.now)) (c.args.reader.run_limit - c.loop.counter) (map word_of c.loop.rest.now) c.loop.invariant c.in_err-sign.field-0.0 (omega arith) (cc (c.sign_class-signs.ensures, c.sees_any.ensures, c.if-not-sees_any.false)) c.in_err-sign.ensures)

pub operations-loop-preserved : goal.operations-loop-preserved
operations-loop-preserved g t c =
    run_go c.args.reader.run_limit c.args.reader.depth_limit (next_rule c.args.level) (of (sign_class c.args.level)) (folded_left (located c.loop.left)) (reads grammar c.args.reader.run_limit c.args.reader.depth_limit (run_rule c.args.level) (map word_of c.args.tokens.now)) (c.args.reader.run_limit - c.loop.counter) (map word_of c.loop.rest.now) c.loop.invariant
    (c.in_ok-sign.sign, located c.in_ok-sign.right) (map word_of c.in_ok-sign.after.now) _ _ (omega arith) (cc (c.sign_class-signs.ensures, c.sees_any.ensures, c.if-not-sees_any.false)) c.in_ok-sign.ensures
    (λ xs. ap (λ x. folded_left x xs) (sym c.in_ok-left-2.ensures)) (omega arith)

-- ---- AND and OR

begins_member : (l : Connective) → first language nested_first (next_member_rule l) ≡ is (connective_word l)
unfolding rules.and_operand rules.or_operand
begins_member word.And = refl
begins_member word.Or = refl

next_member_word : (l : Connective) (w d : _) (us : List Token) (y : Token × Located) (vs : List Token) → reads grammar w d (next_member_rule l) us ≡ Ok (y, vs) → y.0.at ≡ next_at us
unfolding rules.and_operand rules.or_operand
next_member_word word.And w d us y vs e = word_is_next w d (is k.And) rules.negation us y vs e
next_member_word word.Or w d us y vs e = word_is_next w d (is k.Or) rules.conjunction us y vs e

alone : (l : Connective) (w d : _) (ts : List Token) (x : Located) (us : List Token) → reads grammar w d (member_rule l) ts ≡ Ok (x, us) → head_in kind_of (is (connective_word l)) us ≡ false → reads grammar w d (connected_rule l) ts ≡ Ok (x, us)
unfolding rules.conjunction rules.expression is rules.and_operand rules.or_operand
alone word.And w d ts x us e n =
    run_stop w d rules.and_operand (is k.And) (and_of x) (reads grammar w d rules.conjunction ts) w us
    (rw (← begins_member word.And) (run_start grammar w d (λ x ys. and_of x ys) rules.negation true rules.and_operand ts x us e)) n
alone word.Or w d ts x us e n =
    run_stop w d rules.or_operand (is k.Or) (or_of x) (reads grammar w d rules.expression ts) w us
    (rw (← begins_member word.Or) (run_start grammar w d (λ x ys. or_of x ys) rules.conjunction true rules.or_operand ts x us e)) n

start : (l : Connective) (w d n : _) (ts : List Token) (x : Located) (us : List Token) (at : _) (ms : List Expr) → reads grammar w d (member_rule l) ts ≡ Ok (x, us) → head_in kind_of (is (connective_word l)) us ≡ true → at ≡ next_at us → ms ≡ members_of l x.1 → n ≡ w
    → run_on w d (next_member_rule l) (is (connective_word l)) (joined (λ ms. joined_expr l at ms) (λ e. members_of l e) x.0 ms) n us ≡ reads grammar w d (connected_rule l) ts
unfolding rules.conjunction rules.expression rules.and_operand rules.or_operand
start word.And w d n ts x us at ms e h a m j =
    rw (a, m, j) (run_more w d rules.and_operand (is k.And) (joined (λ ms. And (next_at us) (exprs_of ms)) and_members x.0 (and_members x.1)) (and_of x) w us h
    (λ y vs ys r. ap (λ n. (x.0, And n (exprs_of (and_members x.1 ++ flat_map and_members (map (λ z. z.1.1) (y ∷ ys)))))) (sym (next_member_word word.And w d us y vs r)))
    ∙ rw (← begins_member word.And) (run_start grammar w d (λ x ys. and_of x ys) rules.negation true rules.and_operand ts x us e))
start word.Or w d n ts x us at ms e h a m j =
    rw (a, m, j) (run_more w d rules.or_operand (is k.Or) (joined (λ ms. Or (next_at us) (exprs_of ms)) or_members x.0 (or_members x.1)) (or_of x) w us h
    (λ y vs ys r. ap (λ n. (x.0, Or n (exprs_of (or_members x.1 ++ flat_map or_members (map (λ z. z.1.1) (y ∷ ys)))))) (sym (next_member_word word.Or w d us y vs r)))
    ∙ rw (← begins_member word.Or) (run_start grammar w d (λ x ys. or_of x ys) rules.conjunction true rules.or_operand ts x us e))

no_member : (l : Connective) (w d : _) (ts : List Token) (stop : ReadError) → reads grammar w d (member_rule l) ts ≡ Err stop → reads grammar w d (connected_rule l) ts ≡ Err stop
unfolding rules.conjunction rules.expression
no_member word.And w d ts stop r = run_err grammar w d (λ x ys. and_of x ys) rules.negation true rules.and_operand ts stop r
no_member word.Or w d ts stop r = run_err grammar w d (λ x ys. or_of x ys) rules.conjunction true rules.or_operand ts stop r

pub connected-returns-in_err-start : goal.connected-returns-in_err-start
connected-returns-in_err-start g t c =
    let p = err_from_is_err_and c.from_residual.result c.from_residual.ensures.1 in
    rw (p.1, p.2) (fault_along c.in_err-start.field-0.0 (reads grammar c.args.reader.run_limit c.args.reader.depth_limit (member_rule c.args.connective) (map word_of c.args.tokens.now)) (reads grammar c.args.reader.run_limit c.args.reader.depth_limit (connected_rule c.args.connective) (map word_of c.args.tokens.now))
    (no_member c.args.connective c.args.reader.run_limit c.args.reader.depth_limit (map word_of c.args.tokens.now)) c.in_err-start.ensures)

pub connected-returns-then-not-sees : goal.connected-returns-then-not-sees
connected-returns-then-not-sees g t c = alone c.args.connective c.args.reader.run_limit c.args.reader.depth_limit (map word_of c.args.tokens.now) (c.in_ok-start.start, expr_of c.in_ok-start.first.value) (map word_of c.in_ok-start.rest.now) c.in_ok-start.ensures (cc (c.connective_word-word.ensures, c.sees.ensures, c.if-not-sees.true))

pub connected-loop-init : goal.connected-loop-init
connected-loop-init g t c = start c.args.connective c.args.reader.run_limit c.args.reader.depth_limit _ (map word_of c.args.tokens.now) (c.in_ok-start.start, expr_of c.in_ok-start.first.value) (map word_of c.in_ok-start.rest.now) c.next_offset-offset.result (map (λ e. expr_of e) c.in_ok-members.members.items)
    c.in_ok-start.ensures (cc (c.connective_word-word.ensures, c.sees.ensures, c.if-not-sees.false)) c.next_offset-offset.ensures c.in_ok-members.ensures (omega arith)

pub connected-returns-then-not-sees-2 : goal.connected-returns-then-not-sees-2
connected-returns-then-not-sees-2 g t c =
    rw c.with_rest.ensures (kept c.joined-whole.result c.loop.rest _ _ c.joined-whole.ensures
    (run_stop c.args.reader.run_limit c.args.reader.depth_limit (next_member_rule c.args.connective) (is (connective_word c.args.connective)) (joined (λ ms. joined_expr c.args.connective c.next_offset-offset.result ms) (λ e. members_of c.args.connective e) c.in_ok-start.start (map (λ e. expr_of e) c.loop.members.items)) (reads grammar c.args.reader.run_limit c.args.reader.depth_limit (connected_rule c.args.connective) (map word_of c.args.tokens.now)) (c.args.reader.run_limit - c.loop.counter) (map word_of c.loop.rest.now) c.loop.invariant (cc (c.connective_word-word.ensures, c.sees-in-loop.ensures, c.if-not-sees-2.true)) ∙ ap (λ (p : Located). let o : Outcome Token Located = Ok (p, map word_of c.loop.rest.now) in o) (joined_end (λ ms. joined_expr c.args.connective c.next_offset-offset.result ms) (λ e. members_of c.args.connective e) c.in_ok-start.start (map (λ e. expr_of e) c.loop.members.items))))

pub connected-returns : goal.connected-returns
connected-returns g t c =
    rw c.with_rest-2.ensures (kept c.joined-whole-2.result c.loop.rest _ _ c.joined-whole-2.ensures
    (run_stop c.args.reader.run_limit c.args.reader.depth_limit (next_member_rule c.args.connective) (is (connective_word c.args.connective)) (joined (λ ms. joined_expr c.args.connective c.next_offset-offset.result ms) (λ e. members_of c.args.connective e) c.in_ok-start.start (map (λ e. expr_of e) c.loop.members.items)) (reads grammar c.args.reader.run_limit c.args.reader.depth_limit (connected_rule c.args.connective) (map word_of c.args.tokens.now)) (c.args.reader.run_limit - c.loop.counter) (map word_of c.loop.rest.now) c.loop.invariant (cc (c.connective_word-word.ensures, c.sees-2.ensures, c.if-sees.false)) ∙ ap (λ (p : Located). let o : Outcome Token Located = Ok (p, map word_of c.loop.rest.now) in o) (joined_end (λ ms. joined_expr c.args.connective c.next_offset-offset.result ms) (λ e. members_of c.args.connective e) c.in_ok-start.start (map (λ e. expr_of e) c.loop.members.items))))

pub connected-returns-then-sees : goal.connected-returns-then-sees
connected-returns-then-sees g t c = rw (← length-map c.loop.rest.now word_of) (run_full c.args.reader.run_limit c.args.reader.depth_limit (next_member_rule c.args.connective) (is (connective_word c.args.connective)) (joined (λ ms. joined_expr c.args.connective c.next_offset-offset.result ms) (λ e. members_of c.args.connective e) c.in_ok-start.start (map (λ e. expr_of e) c.loop.members.items)) (reads grammar c.args.reader.run_limit c.args.reader.depth_limit (connected_rule c.args.connective) (map word_of c.args.tokens.now)) (c.args.reader.run_limit - c.loop.counter) (map word_of c.loop.rest.now) c.loop.invariant (omega arith) (cc (c.connective_word-word.ensures, c.sees-2.ensures, c.if-sees.true)))

pub connected-returns-in_err-next : goal.connected-returns-in_err-next
connected-returns-in_err-next g t c =
    let p = err_from_is_err_and c.from_residual-in_err-next.result c.from_residual-in_err-next.ensures.1 in
    rw (p.1, p.2) (run_fail c.args.reader.run_limit c.args.reader.depth_limit (next_member_rule c.args.connective) (is (connective_word c.args.connective)) (joined (λ ms. joined_expr c.args.connective c.next_offset-offset.result ms) (λ e. members_of c.args.connective e) c.in_ok-start.start (map (λ e. expr_of e) c.loop.members.items)) (reads grammar c.args.reader.run_limit c.args.reader.depth_limit (connected_rule c.args.connective) (map word_of c.args.tokens.now)) (c.args.reader.run_limit - c.loop.counter) (map word_of c.loop.rest.now) c.loop.invariant c.in_err-next.field-0.0 (omega arith) (cc (c.connective_word-word.ensures, c.sees-in-loop.ensures, c.if-not-sees-2.false)) c.in_err-next.ensures)

pub connected-loop-preserved : goal.connected-loop-preserved
connected-loop-preserved g t c =
    run_go c.args.reader.run_limit c.args.reader.depth_limit (next_member_rule c.args.connective) (is (connective_word c.args.connective)) (joined (λ ms. joined_expr c.args.connective c.next_offset-offset.result ms) (λ e. members_of c.args.connective e) c.in_ok-start.start (map (λ e. expr_of e) c.loop.members.items)) (reads grammar c.args.reader.run_limit c.args.reader.depth_limit (connected_rule c.args.connective) (map word_of c.args.tokens.now)) (c.args.reader.run_limit - c.loop.counter) (map word_of c.loop.rest.now) c.loop.invariant
    (word_of c.in_ok-next.field-0-0-0, (c.in_ok-next.field-0-0-1-0, expr_of c.in_ok-next.next.value)) (map word_of c.in_ok-next.after.now) _ _ (omega arith) (cc (c.connective_word-word.ensures, c.sees-in-loop.ensures, c.if-not-sees-2.false)) c.in_ok-next.ensures
    (λ xs. joined_go (λ ms. joined_expr c.args.connective c.next_offset-offset.result ms) (λ e. members_of c.args.connective e) c.in_ok-start.start (map (λ e. expr_of e) c.loop.members.items) (word_of c.in_ok-next.field-0-0-0, (c.in_ok-next.field-0-0-1-0, expr_of c.in_ok-next.next.value)) xs
    ∙ ap (λ l. joined (λ ms. joined_expr c.args.connective c.next_offset-offset.result ms) (λ e. members_of c.args.connective e) c.in_ok-start.start l xs) (sym c.in_ok-extend.ensures))
    (omega arith)

-- ---- CASE

pub case-returns : goal.case-returns
case-returns g t c =
    rw c.in_ok-arms.ensures
    (goes_on (λ t. otherwise_of t) (case_step c.args.offset (map (λ a. arm_pair a) c.in_ok-arms.arms)) (λ t. located t) c.otherwise.result c.case_ended.result _ c.case_ended.ensures c.otherwise.ensures)
