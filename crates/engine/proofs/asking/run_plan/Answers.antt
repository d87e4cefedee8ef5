use Rattle.std.proofs.Common.{◌≡◌, List, Result, refl}
use Rattle.memory.specs.Gives.{IsFailure}
use Rattle.memory.specs.declared.failure.Failure.{Failure}
use Rattle.memory.specs.declared.failure.Failure.TheVariants.{Error as Faults}
use Rattle.value.specs.Datum.{Row}
use Rattle.value.specs.declared.faults.Fault.{Fault}
use Rattle.value.specs.Names.{Name}
use Rattle.replies.specs.Reply.{Faulted}
use Rattle.resolve.specs.View.{bound_of}
use Rattle.engine.specs.Answer.{headings, rows_reply}
use Rattle.engine.proofs.OfText.{text_lefts, text_tables}
use Rattle.engine.proofs.asking.run_plan.Goals as goal

fault_is : (columns : List Name) (rows : Result (List Row) Fault) (failure : Failure Fault) (fault : Fault) → failure ≡ Faults fault → IsFailure failure rows → Faulted fault ≡ rows_reply columns rows
fault_is columns rows failure fault is failed = let r = (rw is at failed) in rw r refl

pub returns-in-Err-Error : goal.returns-in-Err-Error
returns-in-Err-Error g c = rw c.in-Err-Error.field-0-is (fault_is (headings (bound_of c.args.bound.now).query.items) _ _ _ c.in-Err-Error.field-0-is c.in-Err-Error.ensures)

pub answer_rows-requires-clause-tables : goal.answer_rows-requires-clause-tables
answer_rows-requires-clause-tables g c = text_tables c.args.store.now.catalog c.args.role.now (bound_of c.args.bound.now) c.requires.admitted

pub answer_rows-requires-clause-lefts : goal.answer_rows-requires-clause-lefts
answer_rows-requires-clause-lefts g c = text_lefts c.args.store.now.catalog c.args.role.now (bound_of c.args.bound.now) c.requires.admitted c.law_queries_have_tables.ensures
