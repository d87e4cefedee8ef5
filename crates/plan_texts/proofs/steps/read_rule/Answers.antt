use Rattle.std.proofs.Common.{true, false, Some, None, sym, ap, ◌∙◌, arith}
use Rattle.std.specs.Prelude.{option_map}
use Rattle.std.proofs.lemmas.Str.Pattern.{strip_suffix_char}
use Rattle.plan_texts.proofs.Splits.{rule_with, reverse_rule, forward_rule}
use Rattle.plan_texts.proofs.steps.read_rule.Goals as goal

pub returns-in_err-read_number-in-Some : goal.returns-in_err-read_number-in-Some
returns-in_err-read_number-in-Some c =
    c.from_residual.ensures
    ∙ sym (reverse_rule c.args.part.now c.in-Some.number.now (strip_suffix_char 45 c.args.part.now (Some c.in-Some.number) c.in-Some.ensures.cases (omega arith)) ∙ ap (option_map (rule_with true)) (sym c.read_number.ensures ∙ c.in_err-read_number-in-Some.was))

pub returns-in_err-read_number-in-None : goal.returns-in_err-read_number-in-None
returns-in_err-read_number-in-None c =
    c.from_residual-in_err-read_number-in-None.ensures
    ∙ sym (forward_rule c.args.part.now (strip_suffix_char 45 c.args.part.now None c.in-None.ensures.cases (omega arith)) ∙ ap (option_map (rule_with false)) (sym c.read_number-in-None.ensures ∙ c.in_err-read_number-in-None.was))

pub returns-in_ok-read_number-in-Some : goal.returns-in_ok-read_number-in-Some
returns-in_ok-read_number-in-Some c =
    sym (reverse_rule c.args.part.now c.in-Some.number.now (strip_suffix_char 45 c.args.part.now (Some c.in-Some.number) c.in-Some.ensures.cases (omega arith)) ∙ ap (option_map (rule_with true)) (sym c.read_number.ensures ∙ c.in_ok-read_number-in-Some.was))

pub returns-in_ok-read_number-in-None : goal.returns-in_ok-read_number-in-None
returns-in_ok-read_number-in-None c =
    sym (forward_rule c.args.part.now (strip_suffix_char 45 c.args.part.now None c.in-None.ensures.cases (omega arith)) ∙ ap (option_map (rule_with false)) (sym c.read_number-in-None.ensures ∙ c.in_ok-read_number-in-None.was))
