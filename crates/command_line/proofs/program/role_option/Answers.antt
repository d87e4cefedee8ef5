use Rattle.std.proofs.Common.{◌∙◌, ap, true}
use Rattle.clap.specs.Words.{Rule, rule_of}
use Rattle.clap.specs.declared.builder.Arg.{Arg}
use Rattle.command_line.proofs.program.role_option.Goals as goal

pub returns : goal.returns
returns c = (
  ap rule_of c.required.ensures ∙ ap (λ (r : Rule). record r { required = true }) c.option.ensures.rule.0,
  ap (λ (a : Arg). a.global) c.required.ensures ∙ c.option.ensures.rule.1,
)
