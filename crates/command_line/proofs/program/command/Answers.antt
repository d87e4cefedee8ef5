use Rattle.std.proofs.Common.{◌≡◌, ◌∙◌, true, ap, codes}
use Rattle.std.proofs.lemmas.Result.{IfOk-weaker}
use Rattle.clap.specs.Words.{Shape, app_of, new_app}
use Rattle.clap.specs.Simple.{app_of_fields, on_top}
use Rattle.command_line.specs.Program.{program}
use Rattle.command_line.proofs.Commands.{with_command}
use Rattle.command_line.proofs.program.command.Goals as goal

abbrev versioned : Shape → Shape
versioned s = record s { has_version = true }

abbrev needing : Shape → Shape
needing s = record s { subcommand_required = true }

pub returns : goal.returns
unfolding program
returns c =
    let versioned_is : app_of c.version.result ≡ on_top versioned (new_app (codes "rowplan")) =
    ap app_of_fields c.version.ensures ∙ ap (on_top versioned) c.new.ensures.app in
    let start : app_of c.after_help.result ≡ on_top needing (on_top versioned (new_app (codes "rowplan"))) =
    ap app_of_fields c.after_help.ensures ∙ ap app_of_fields c.subcommand_required.ensures
    ∙ ap (on_top needing) (ap app_of_fields c.about.ensures ∙ versioned_is) in
    let query = with_command _ _ _ _ _ c.in_ok-subcommand.ensures c.in_ok-query_command.ensures start in
    let explain = with_command _ _ _ _ _ c.in_ok-subcommand-2.ensures c.in_ok-explain_command.ensures query in
    let verify = with_command _ _ _ _ _ c.in_ok-subcommand-3.ensures c.in_ok-verify_command.ensures explain in
    let session = with_command _ _ _ _ _ c.in_ok-subcommand-4.ensures c.in_ok-session_command.ensures verify in
    let matrix = with_command _ _ _ _ _ c.in_ok-subcommand-5.ensures c.in_ok-matrix_command.ensures session in
    let changes = with_command _ _ _ _ _ c.in_ok-subcommand-6.ensures c.in_ok-changes_command.ensures matrix in
    IfOk-weaker c.subcommand-7.result _ _ (λ new h. with_command _ _ new _ _ h c.codes_command.ensures changes) c.subcommand-7.ensures
