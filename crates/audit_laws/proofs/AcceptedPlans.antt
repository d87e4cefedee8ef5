-- An accepted plan is right in every content.
use Rattle.std.proofs.Common.{◌≡◌, ◌<◌, ℕ, suc, Bool, true, false, if◌then◌else◌, List, [], ◌∷◌, map, length, Result, Ok, Err, refl, sym, ap, ap₂, subst}
use Rattle.std.specs.List.Sorted.{IsPermutation}
use Rattle.std.proofs.lemmas.List.Sorted.{IsPermutation-refl}
use Rattle.value.specs.Names.{Name}
use Rattle.expr.specs.BoundQuery.{BoundQuery}
use Rattle.expr.specs.Codes.{Code}
use Rattle.expr.specs.Conjuncts.{left_ons, movable_conjuncts}
use Rattle.tuples.specs.Combinations.{Combination, passing}
use Rattle.tuples.specs.LeftCombinations.{left_combinations}
use Rattle.tuples.specs.Guards.{shows}
use Rattle.tuples.specs.World.{seen_rows}
use Rattle.row_terms.specs.Laws.{WrittenMeans}
use Rattle.row_terms.specs.Means.{mean}
use Rattle.row_terms.specs.Terms.{Term}
use Rattle.row_terms.specs.Written.{written}
use Rattle.trailcheck.specs.Admissible.{is_admissible}
use Rattle.trailcheck.specs.Settings.{Setting}
use Rattle.trailcheck.specs.Shapes.{shape}
use Rattle.trailcheck.specs.Verdicts.{verdict}
use Rattle.trailcheck.specs.declared.verdict.Refusal.{Refusal}
use Rattle.trailcheck.specs.declared.verdict.Verdict.{Verdict}
use Rattle.trailcheck.specs.declared.verdict.Verdict.TheVariants.{Accepted, Refused}
use Rattle.planning.specs.Laws.{ShapesMeanSame}
use Rattle.report.specs.Answer as report
use Rattle.scope.specs.Entry.{Entry}
use Rattle.catalog.specs.Catalog.{Catalog}
use Rattle.catalog_laws.specs.WellFormed.{GuardsShow, IsWellFormed}
use Rattle.access.specs.Access.{sees}
use Rattle.access.specs.Guards.{frame, guard}
use Rattle.syntax.specs.Tables.{HaveTables}
use Rattle.resolve.specs.EntryTables.{AreTables}
use Rattle.resolve.specs.Resolved.{Bound}
use Rattle.plan_texts.specs.Plans.{Plan}
use Rattle.plan_texts.specs.Reading.{plan_at}
use Rattle.bound_plans.specs.Entries.{plan_entries}
use Rattle.bound_plans.specs.LeftJoins.{plain_code}
use Rattle.replies.specs.Reply.{Reply}
use Rattle.store.specs.Database.{Rows}
use Rattle.analysis.specs.Analysis.{admitted}
use Rattle.engine.specs.Answer.{seen}
use Rattle.engine.specs.Audits.{Judged, admitted_audit, audit_of, judged}
use Rattle.engine.specs.Guarded.{guarded_tables}
use Rattle.engine.specs.Settings.{setting}
use Rattle.engine.proofs.OfText.{lefts_inner, lefts_sound, setting_of_query, text_lefts, text_tables}
use Rattle.engine.proofs.Planned.{code_passing}
use Rattle.engine.proofs.Readable.{found_in}
use Rattle.engine.proofs.Steps.{filter_same}
use Rattle.audit_laws.specs.AcceptedPlans.{AcceptedAreRight, given_by, world_over}

-- ---- what is accepted

then_accepted : (b : Bool) (v : Verdict) (r : Refusal) → (if b then v else Refused r) ≡ Accepted → (b ≡ true) × (v ≡ Accepted)
then_accepted true v r is = (refl, is)
then_accepted false v r is = absurd (cc)

-- its code is one that a plan may have
admissible : (at : Setting) (x : Term) (es : List Entry) (p : Plan) → judged at x es p ≡ Accepted → is_admissible at (plain_code p.code) ≡ true
admissible at x es p is = (then_accepted (is_admissible at (plain_code p.code)) _ _ (then_accepted _ (verdict at x p.trail (plain_code p.code)) _ is).1).0

judged_accepted : (v : Verdict) → Judged v ≡ Judged Accepted → v ≡ Accepted
judged_accepted v is = cc

module _ (cat : Catalog) (role : Name) where
  -- a plan is read
  plan_read : (b : Bound) (r : Result Plan ℕ) → audit_of cat role b r ≡ Judged Accepted → (p : Plan) × (r ≡ Ok p) × (is_admissible (setting cat role b) (plain_code p.code) ≡ true)
  plan_read b (Err line) is = absurd (cc)
  plan_read b (Ok p) is = (p, refl, admissible (setting cat role b) (written (length b.entries) b.query) b.entries p (judged_accepted _ is))

  -- for a text that may be asked
  text_admitted : (plan : List ℕ) (r : Result Bound Reply) → admitted_audit cat role plan r ≡ Judged Accepted → (b : Bound) × (r ≡ Ok b) × (audit_of cat role b (plan_at (plan_entries b.entries) plan) ≡ Judged Accepted)
  text_admitted plan (Err refusal) is = absurd (cc)
  text_admitted plan (Ok b) is = (b, refl, is)

-- ---- the tables of its entries

module _ (cat : Catalog) (role : Name) (rows : Rows) where
  their_guards : (es : List Entry) → map (λ t. t.guard) (guarded_tables rows es (frame cat role es)) ≡ frame cat role es
  their_guards [] = refl
  their_guards (e ∷ es) = ap (λ l. guard cat role e.table ∷ l) (their_guards es)

  as_many : (es : List Entry) → length (guarded_tables rows es (frame cat role es)) ≡ length es
  as_many [] = refl
  as_many (e ∷ es) = ap suc (as_many es)

  -- their guards leave the rows that the role sees
  left_rows : GuardsShow → IsWellFormed cat → (es : List Entry) → AreTables cat es → map (seen_rows role) (guarded_tables rows es (frame cat role es)) ≡ seen cat rows role es
  left_rows shown fit [] are = refl
  left_rows shown fit (e ∷ es) are =
      ap₂ ◌∷◌ (filter_same (shows role (guard cat role e.table)) (sees cat role e.table) (λ row. shown cat role e.table row fit (found_in e.table.name cat.tables e.table are.0)) (rows e.table.name))
      (left_rows shown fit es are.1)

-- ---- the law

abbrev pub OrderPlaysNoPart : Type 0
OrderPlaysNoPart = (role : Name) (q : BoundQuery) (one other : List Combination) → IsPermutation one other → report.answer role q one ≡ report.answer role q other

module _ (means : WrittenMeans) (same : ShapesMeanSame) (shown : GuardsShow) (have : HaveTables) (order : OrderPlaysNoPart) where
  code_passes : (cat : Catalog) (role : Name) (text : List ℕ) (b : Bound) → IsWellFormed cat → admitted cat role text ≡ Ok b → (code : Code) → is_admissible (setting cat role b) code ≡ true → (rows : Rows)
      → IsPermutation (given_by cat rows role b code) (passing role (movable_conjuncts b.query) (left_combinations role (left_ons b.query) (seen cat rows role b.entries)))
  code_passes cat role text b fit is code fits rows =
      let w = world_over cat rows role b in
      let at = setting cat role b in
      let known = text_lefts cat role b (text, is) have in
      let inner : length (left_ons b.query) < length w.tables = subst (λ n. length (left_ons b.query) < n) (sym (as_many cat role rows b.entries)) (lefts_inner b known) in
      subst (λ tables. IsPermutation (given_by cat rows role b code) (passing role (movable_conjuncts b.query) (left_combinations role (left_ons b.query) tables)))
      (left_rows cat role rows shown fit b.entries (text_tables cat role b (text, is)))
      (code_passing means same w inner (lefts_sound b known) at (their_guards cat role rows b.entries) (setting_of_query cat role b known) code fits (mean w (shape at code)) (IsPermutation-refl (mean w (shape at code))))

  pub accepted_are_right : AcceptedAreRight
  accepted_are_right cat role text plan fit is =
      let asked = text_admitted cat role plan (admitted cat role text) is in
      let b = asked.0 in
      let read = plan_read cat role b (plan_at (plan_entries b.entries) plan) asked.2 in
      let passes = code_passes cat role text b fit asked.1 (plain_code read.0.code) read.2 in
      record {
        query = b;
        read = read.0;
        is_admitted = asked.1;
        is_read = read.1;
        passes = passes;
        answers = λ rows. order role b.query _ _ (passes rows);
      }
