use Rattle.std.proofs.Common.{◌≡◌, ◌∙◌, List, ℕ, Result, Err, map, sym, ap, ap₂}
use denote.Ref.{Bor}
use Rattle.std.proofs.lemmas.Result.{IfOk-weaker}
use Rattle.memory.specs.Gives.{IsFailure}
use Rattle.memory.specs.declared.failure.Failure.{Failure}
use Rattle.memory.specs.declared.failure.Failure.TheVariants.{Error}
use Rattle.scope.specs.View.{entries_of}
use Rattle.plan_texts.specs.Plans.{Plan}
use Rattle.plan_texts.specs.Reading.{plan_at}
use Rattle.plan_texts.specs.View.{plan_entry_of, plan_of}
use Rattle.plan_trees.specs.PlanTrees.{tree_text}
use Rattle.setup.specs.PlanTree.{tree_if_read}
use Rattle.setup.proofs.plan_tree.tree_of.Goals as goal

failed_is : (failure : Failure ℕ) (line : ℕ) (read : Result Plan ℕ) → failure ≡ Error line → IsFailure failure read → read ≡ Err line
failed_is failure line read is failed = let found = (rw is at failed) in found

pub returns-in-Ok : goal.returns-in-Ok
returns-in-Ok g c =
    let entries = entries_of c.args.entries.now in
    let named = ap (map plan_entry_of) c.as_slice.ensures ∙ c.in_ok-named.ensures in
    let named-2 = ap (map plan_entry_of) c.as_slice-in-Ok.ensures ∙ c.in_ok-named.ensures in
    let tables = ap (map (λ (t : Bor (List ℕ)). t.now)) c.as_slice-in-Ok-2.ensures.value ∙ c.in_ok-tables.ensures in
    let read = sym (ap (λ es. plan_at es c.args.text.now) named) ∙ c.in-Ok.ensures in
    IfOk-weaker c.write_tree.result _ _ (λ tree h. h ∙ ap₂ (λ es ts. tree_text es ts (plan_of c.in-Ok.plan)) named-2 tables ∙ sym (ap (tree_if_read entries) read)) c.write_tree.ensures

pub returns-in-Err-Error : goal.returns-in-Err-Error
returns-in-Err-Error g c =
    let named = ap (map plan_entry_of) c.as_slice.ensures ∙ c.in_ok-named.ensures in
    let read = sym (ap (λ es. plan_at es c.args.text.now) named) ∙ failed_is _ _ _ c.in-Err-Error.field-0-is c.in-Err-Error.ensures in
    c.new.ensures.items ∙ sym (ap (tree_if_read (entries_of c.args.entries.now)) read)
