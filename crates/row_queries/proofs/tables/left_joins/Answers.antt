use Rattle.std.proofs.Common.{map, length, refl, ap, arith}
use Rattle.std.proofs.lemmas.Result.{err_from_is_err_and}
use Rattle.std.proofs.lemmas.List.{length-map}
use Rattle.row_tokens.specs.declared.token.TokenKind.TheVariants as k
use Rattle.row_tokens.specs.View.{word_of}
use Rattle.row_reader.specs.Language.{is}
use Rattle.row_queries.specs.From.{left_join, left_joins}
use Rattle.row_ast.specs.View.{left_join_of}
use Rattle.row_reader.proofs.Lists.{listed_stop, listed_over, listed_fail, listed_go, listed_start}
use Rattle.row_queries.proofs.tables.left_joins.Goals as goal

pub loop-init : goal.loop-init
unfolding left_join left_joins
loop-init g c =
    listed_start c.args.reader.run_limit c.args.reader.depth_limit (λ j. left_join_of j) left_join (is k.Left) (map word_of c.args.tokens.now) _ _ c.new-all.result refl c.new-all.ensures
    (ap (λ ts. map word_of ts) c.split_at.ensures.back) (omega (arith, length-map c.args.tokens.now word_of, ap length c.split_at.ensures.back))

pub returns-then-not-sees : goal.returns-then-not-sees
returns-then-not-sees g c = listed_stop c.args.reader.run_limit c.args.reader.depth_limit (λ j. left_join_of j) left_join (is k.Left) _ c.loop.all _ (map word_of c.loop.rest.now) c.loop.invariant (cc)

pub returns : goal.returns
returns g c = listed_over c.args.reader.run_limit c.args.reader.depth_limit (λ j. left_join_of j) left_join (is k.Left) _ c.loop.all _ (map word_of c.loop.rest.now) c.loop.invariant (omega arith)

pub returns-in_err-next : goal.returns-in_err-next
returns-in_err-next g c =
    let p = err_from_is_err_and c.from_residual.result c.from_residual.ensures.1 in
    rw (p.1, p.2) (listed_fail c.args.reader.run_limit c.args.reader.depth_limit (λ j. left_join_of j) left_join (is k.Left) _ c.loop.all _ (map word_of c.loop.rest.now) c.loop.invariant _ (omega arith) (cc) c.in_err-next.ensures)

pub loop-preserved : goal.loop-preserved
loop-preserved g c =
    listed_go c.args.reader.run_limit c.args.reader.depth_limit (λ j. left_join_of j) left_join (is k.Left) _ c.loop.all _ (map word_of c.loop.rest.now) c.loop.invariant c.in_ok-next.next (map word_of c.in_ok-next.after.now) c.push.new.self _ (omega arith) (cc)
    c.in_ok-next.ensures c.in_ok-push.ensures.ok (omega arith)
