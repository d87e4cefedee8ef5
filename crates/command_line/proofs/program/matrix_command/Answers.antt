use Rattle.std.proofs.Common.{◌≡◌, ◌∙◌, ap, codes}
use Rattle.std.proofs.lemmas.Result.{IfOk-weaker}
use Rattle.clap.specs.Words.{App, app_of, new_app}
use Rattle.clap.specs.Simple.{app_of_fields}
use Rattle.command_line.proofs.Commands.{stays_local, with_argument}
use Rattle.command_line.proofs.program.matrix_command.Goals as goal

pub returns : goal.returns
returns c =
    let start : app_of c.about.result ≡ new_app (codes "matrix") = ap app_of_fields c.about.ensures ∙ c.new.ensures.app in
    let schema = with_argument _ _ _ _ c.in_ok-arg.ensures c.schema_option.ensures _ start in
    let dir = with_argument _ _ _ _ c.in_ok-arg-2.ensures c.dir_option.ensures _ schema in
    let role = with_argument _ _ _ _ c.in_ok-arg-3.ensures c.repeated_option.ensures _ dir in
    IfOk-weaker c.arg-4.result _ _ (λ new h. (
      ap (λ (a : App). a.top) (with_argument _ new _ _ h c.format_option.ensures _ role),
      stays_local _ new _ _ h c.format_option.ensures
          (stays_local _ _ _ _ c.in_ok-arg-3.ensures c.repeated_option.ensures
          (stays_local _ _ _ _ c.in_ok-arg-2.ensures c.dir_option.ensures
          (stays_local _ _ _ _ c.in_ok-arg.ensures c.schema_option.ensures (ap (λ f. f.has_globals) c.about.ensures ∙ c.new.ensures.local)))),
    )) c.arg-4.ensures
