use Rattle.std.proofs.Common.{map, refl, arith}
use Rattle.std.proofs.lemmas.Result.{err_from_is_err_and}
use Rattle.std.proofs.lemmas.List.{length-map}
use Rattle.row_tokens.specs.declared.token.TokenKind.TheVariants as k
use Rattle.row_tokens.specs.View.{word_of}
use Rattle.row_reader.specs.Language.{after, is}
use Rattle.row_reader.proofs.Lists.{listed_stop, listed_over, listed_fail, listed_go, listed_first, listed_none}
use Rattle.row_reader.proofs.comma_list.comma_list.Goals as goal

pub returns-in_err-first : goal.returns-in_err-first
returns-in_err-first g c =
    let p = err_from_is_err_and c.from_residual.result c.from_residual.ensures.1 in
    rw (p.1, p.2) (listed_none c.args.reader.run_limit c.args.reader.depth_limit g.I.Parser.rule (after (is k.Comma) g.I.Parser.rule) (map word_of c.args.tokens.now) _ c.in_err-first.ensures)

pub loop-init : goal.loop-init
loop-init g c =
    listed_first c.args.reader.run_limit c.args.reader.depth_limit g.I.Parser.view (after (is k.Comma) g.I.Parser.rule) (is k.Comma) g.I.Parser.rule (map word_of c.args.tokens.now) refl c.in_ok-first.first (map word_of c.in_ok-first.rest.now) _ c.new-all.result c.push.new.self
    c.in_ok-first.ensures c.new-all.ensures c.in_ok-push.ensures.ok (omega (arith, length-map c.in_ok-first.rest.now word_of))

pub returns-then-not-sees : goal.returns-then-not-sees
returns-then-not-sees g c = listed_stop c.args.reader.run_limit c.args.reader.depth_limit g.I.Parser.view (after (is k.Comma) g.I.Parser.rule) (is k.Comma) _ c.loop.all _ (map word_of c.loop.rest.now) c.loop.invariant (cc)

pub returns : goal.returns
returns g c = listed_over c.args.reader.run_limit c.args.reader.depth_limit g.I.Parser.view (after (is k.Comma) g.I.Parser.rule) (is k.Comma) _ c.loop.all _ (map word_of c.loop.rest.now) c.loop.invariant (omega arith)

pub returns-in_err-next : goal.returns-in_err-next
returns-in_err-next g c =
    let p = err_from_is_err_and c.from_residual-in_err-next.result c.from_residual-in_err-next.ensures.1 in
    rw (p.1, p.2) (listed_fail c.args.reader.run_limit c.args.reader.depth_limit g.I.Parser.view (after (is k.Comma) g.I.Parser.rule) (is k.Comma) _ c.loop.all _ (map word_of c.loop.rest.now) c.loop.invariant _ (omega arith) (cc) c.in_err-next.ensures)

pub loop-preserved : goal.loop-preserved
loop-preserved g c =
    listed_go c.args.reader.run_limit c.args.reader.depth_limit g.I.Parser.view (after (is k.Comma) g.I.Parser.rule) (is k.Comma) _ c.loop.all _ (map word_of c.loop.rest.now) c.loop.invariant c.in_ok-next.next (map word_of c.in_ok-next.after.now) c.push-in-loop.new.self _ (omega arith) (cc)
    c.in_ok-next.ensures c.in_ok-push-2.ensures.ok (omega arith)
