use Rattle.plan_laws.specs.Said.{IsSaid}
use Rattle.plan_laws.proofs.AdmittedSaid.{admitted_aliases, admitted_lefts_said, admitted_said}
use Rattle.plan_laws.proofs.PlanningSaid.{planning_said}
use Rattle.plan_laws.proofs.SaidFilters.{said_filter}
use Rattle.audit_laws.proofs.ExplainedPlans.{explained_accepted}
use Rattle.audit_laws.proofs.laws.law_explained_plans_are_accepted.Goals as goal

pub returns : goal.returns
returns c =
    explained_accepted (record {
      back = c.law_plans_read_back.ensures;
      bind = c.law_names_bind_back.ensures;
      found = c.law_columns_are_found.ensures;
      marks = c.law_marks_are_right.ensures;
      accept = c.law_plans_are_accepted.ensures.accepted;
      there = c.law_best_is_there.ensures;
      tables = c.law_queries_have_tables.ensures;
      small = λ text q is. (c.law_parsing_is_determined.ensures.query.found text q is).2;
      granted = c.law_admitted.ensures.granted;
    }) IsSaid said_filter admitted_said admitted_lefts_said planning_said admitted_aliases
