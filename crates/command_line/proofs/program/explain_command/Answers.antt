use Rattle.std.proofs.Common.{◌≡◌, ◌∙◌, ap, codes, fold}
use Rattle.std.proofs.lemmas.Result.{IfOk-weaker}
use Rattle.clap.specs.Words.{App, app_of, new_app, with_rule}
use Rattle.clap.specs.Simple.{app_of_fields}
use Rattle.command_line.specs.Program.{query_rules}
use Rattle.command_line.proofs.Commands.{stays_local, with_argument}
use Rattle.command_line.proofs.program.explain_command.Goals as goal

pub returns : goal.returns
returns c =
    let start : app_of c.about-command.result ≡ new_app (codes "explain") = ap app_of_fields c.about-command.ensures ∙ c.new.ensures.app in
    let words = c.in_ok-with_query_words.ensures.rules ∙ ap (λ a. fold with_rule a query_rules) start in
    let local = c.in_ok-with_query_words.ensures.local (ap (λ f. f.has_globals) c.about-command.ensures ∙ c.new.ensures.local) in
    IfOk-weaker c.arg.result _ _ (λ new h. (
      ap (λ (a : App). a.top) (with_argument _ new _ _ h c.plan_format_option.ensures _ words),
      stays_local _ new _ _ h c.plan_format_option.ensures local,
    )) c.arg.ensures
