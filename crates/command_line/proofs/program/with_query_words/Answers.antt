use Rattle.std.proofs.Common.{refl}
use Rattle.std.proofs.lemmas.Result.{IfOk-weaker}
use Rattle.command_line.proofs.Commands.{stays_local, with_argument}
use Rattle.command_line.proofs.program.with_query_words.Goals as goal

pub returns-clause-rules : goal.returns-clause-rules
returns-clause-rules c =
    let schema = with_argument _ _ _ _ c.in_ok-arg.ensures c.schema_option.ensures _ refl in
    let dir = with_argument _ _ _ _ c.in_ok-arg-2.ensures c.dir_option.ensures _ schema in
    let role = with_argument _ _ _ _ c.in_ok-arg-3.ensures c.role_option.ensures _ dir in
    let file = with_argument _ _ _ _ c.in_ok-arg-4.ensures c.in_ok-file_option.ensures.rule _ role in
    let refusal = with_argument _ _ _ _ c.in_ok-arg-5.ensures c.explain_refusal.ensures _ file in
    IfOk-weaker c.arg-6.result _ _ (λ new h. with_argument _ new _ _ h c.in_ok-text_word.ensures.rule _ refusal) c.arg-6.ensures

pub returns-clause-local : goal.returns-clause-local
returns-clause-local c =
    IfOk-weaker c.arg-6.result _ _ (λ new h before.
    stays_local _ new _ _ h c.in_ok-text_word.ensures.rule
    (stays_local _ _ _ _ c.in_ok-arg-5.ensures c.explain_refusal.ensures
    (stays_local _ _ _ _ c.in_ok-arg-4.ensures c.in_ok-file_option.ensures.rule
    (stays_local _ _ _ _ c.in_ok-arg-3.ensures c.role_option.ensures
    (stays_local _ _ _ _ c.in_ok-arg-2.ensures c.dir_option.ensures
    (stays_local _ _ _ _ c.in_ok-arg.ensures c.schema_option.ensures before)))))) c.arg-6.ensures
