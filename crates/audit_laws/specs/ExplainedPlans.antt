-- The plan that explains a text, and its audit.
use Rattle.std.specs.Prelude.{◌≡◌, ◌<◌, ◌^◌, ℕ, List, length, Some, Ok}
use Rattle.std.specs.Str.{IsUtf8}
use Rattle.value.specs.Names.{Name}
use Rattle.plan_laws.specs.Names.{AreNames}
use Rattle.trailcheck.specs.declared.verdict.Verdict.TheVariants.{Accepted}
use Rattle.plan_texts.specs.Plans.{Plan}
use Rattle.plan_texts.specs.PlanTexts.{plan_text}
use Rattle.bound_plans.specs.Entries.{plan_entries}
use Rattle.catalog.specs.Catalog.{Catalog}
use Rattle.catalog_laws.specs.WellFormed.{IsWellFormed}
use Rattle.resolve.specs.Resolved.{Bound}
use Rattle.store.specs.Database.{Rows}
use Rattle.analysis.specs.Analysis.{admitted}
use Rattle.engine.specs.Audits.{Judged, audit}
use Rattle.engine.specs.Explained.{best_plan, explained}
use Rattle.engine.specs.SeenStatistics.{seen_statistics}

-- no table has more rows than a number of 64 bits
abbrev pub HaveFewRows : Rows → Type 0
HaveFewRows rows = (name : Name) → length (rows name) < 2 ^ 64

-- the plan that explains an admitted text is accepted
abbrev pub ExplainedAreAccepted : Type 0
ExplainedAreAccepted = (cat : Catalog) (rows : Rows) (role : Name) (text plan : List ℕ) → IsWellFormed cat → AreNames cat → HaveFewRows rows → IsUtf8 text
    → explained cat rows role text ≡ Ok plan → audit cat role text plan ≡ Judged Accepted

-- what explains an admitted text is the text of a plan: the one with the best code, which is always there
abbrev pub ExplainedArePlans : Type 0
ExplainedArePlans = (cat : Catalog) (rows : Rows) (role : Name) (text : List ℕ) (b : Bound) → admitted cat role text ≡ Ok b
    → (p : Plan) × (best_plan cat role b (seen_statistics cat rows role b) ≡ Some p) × (explained cat rows role text ≡ Ok (plan_text (plan_entries b.entries) p))
