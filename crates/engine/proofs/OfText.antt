-- The bound query of a text that a role may ask.
use Rattle.std.proofs.Common.{◌≡◌, ◌<◌, ◌≤◌, ℕ, suc, Bool, true, false, cond, ◌&&◌, ◌-◌, ◌∙◌, ap, ap₂, refl, sym, subst, List, [], ◌∷◌, All, filter, length, map, Ok, arith}
use Rattle.std.specs.List.{list_all, sum_by}
use Rattle.std.proofs.lemmas.List.{length-map}
use Rattle.std.proofs.lemmas.List.Elements.{All-head, All-tail}
use Rattle.value.specs.Limits.{most_conjuncts, most_entries}
use Rattle.value.specs.Names.{Name}
use Rattle.row_ast.specs.Ast.{Query}
use Rattle.expr.specs.Bound.{BoundExpr}
use Rattle.expr.specs.Conjuncts.{left_ons, movable_conjuncts}
use Rattle.expr.specs.Movable.{movable}
use Rattle.predicates.specs.Offsets.{without_offsets}
use Rattle.row_terms.specs.Written.{left_conditions}
use Rattle.algebra.specs.PlanningList.{HasLeftsInOrder, entries_before_lefts, reach}
use Rattle.algebra.proofs.Reach.{in_reach}
use Rattle.planning.specs.Laws.{IsSettingOf}
use Rattle.access.specs.Guards.{guard}
use Rattle.catalog.specs.Catalog.{Catalog}
use Rattle.syntax.specs.Limits.{within_limits}
use Rattle.syntax.specs.Parsing.{parsed_query}
use Rattle.syntax.specs.Tables.{HaveTables}
use Rattle.resolve.specs.EntryTables.{AreTables}
use Rattle.resolve.specs.Resolved.{Bound, bound}
use Rattle.resolve.proofs.EntryTables.{given}
use Rattle.analysis.specs.Analysis.{admitted_query, query_read}
use Rattle.query_laws.specs.LeftJoins.{HasLeftJoins}
use Rattle.query_laws.proofs.LeftJoins.{left_joins_are_bound}
use Rattle.query_laws.proofs.Parts.{permitted_bound}
use Rattle.engine.specs.Plans.{IsAdmitted}
use Rattle.engine.specs.Settings.{setting}
use Rattle.engine.proofs.Few.{admitted_few}
use Rattle.engine.proofs.FewConjuncts.{admitted_conjuncts, admitted_lefts, member_count}
use Rattle.engine.proofs.Tables.{admitted_entries, admitted_tables, read_parsed}

-- the query of a text is within limits
abbrev pub AreSmall : Type 0
AreSmall = (text : List ℕ) (q : Query) → parsed_query text ≡ Ok q → within_limits q ≡ true

both : (a b : Bool) → a ≡ true → b ≡ true → a && b ≡ true
both true b p q = q
both false b p q = cc

all_pass : {X : Type 0} (p : X → Bool) (xs : List X) → All (λ x. p x ≡ true) xs → list_all p xs ≡ true
all_pass p [] h = refl
all_pass p (x ∷ xs) h = both (p x) (list_all p xs) (All-head (λ x. p x ≡ true) x xs h) (all_pass p xs (All-tail (λ x. p x ≡ true) x xs h))

filter_all : (ons : List BoundExpr) → All (λ on. movable on ≡ true) ons → filter movable ons ≡ ons
filter_all [] h = refl
filter_all (on ∷ ons) h = ap₂ (λ t l. cond t (on ∷ l) l) (All-head (λ on. movable on ≡ true) on ons h) (filter_all ons (All-tail (λ on. movable on ≡ true) on ons h))

few_kept : {X : Type 0} (p : X → Bool) (xs : List X) → length (filter p xs) ≤ length xs
few_kept p [] = omega arith
few_kept p (x ∷ xs) = go (p x) (few_kept p xs)
  where
    go : (b : Bool) → length (filter p xs) ≤ length xs → length (cond b (x ∷ filter p xs) (filter p xs)) ≤ suc (length xs)
    go true h = omega (arith, h)
    go false h = omega (arith, h)

-- those that cannot fault are fewer than the entries
pub few_left_conditions : (b : Bound) → HasLeftJoins b → length (left_conditions b.query) < length b.entries
few_left_conditions b known =
    let fewer = few_kept movable (left_ons b.query) in
    let inner = known.inner in
    let many = known.as_many in
    let viewed : length (left_conditions b.query) ≡ length (filter movable (left_ons b.query)) = length-map (filter movable (left_ons b.query)) _ in
    omega (arith, fewer, inner, many, viewed)

-- an entry comes before those, and each names no later entry than its own
pub in_order : (b : Bound) → HasLeftJoins b → HasLeftsInOrder b.query
in_order b known =
    let few = few_left_conditions b known in
    let ons = known.ons in
    let inner = known.inner in
    let many = known.as_many in
    let all : left_conditions b.query ≡ map without_offsets (left_ons b.query) = ap (map without_offsets) (filter_all (left_ons b.query) known.movable) in
    let viewed = length-map (left_ons b.query) without_offsets in
    let as_many = ap length all in
    let first : length b.entries - b.query.left_count ≡ entries_before_lefts b.query = omega (arith, ons, many, viewed, as_many) in
    record {
      inner = omega (arith, few, ons);
      reach = ap₂ reach (sym first) all ∙ in_reach (left_ons b.query) (length b.entries - b.query.left_count) known.reach;
    }

-- so what plans are made from is of the query
pub setting_of_query : (cat : Catalog) (role : Name) (b : Bound) → HasLeftJoins b → IsSettingOf b.query (setting cat role b)
setting_of_query cat role b known = record { entries = length-map b.entries (λ e. guard cat role e.table) ∙ sym known.ons; conditions = refl; lefts = refl; order = in_order b known }

-- fewer entries are left joined than there are, and their ONs cannot fault
pub lefts_inner : (b : Bound) → HasLeftJoins b → length (left_ons b.query) < length b.entries
lefts_inner b known = let inner = known.inner in subst (λ n. n < length b.entries) (sym known.as_many) inner

pub lefts_sound : (b : Bound) → HasLeftJoins b → list_all movable (left_ons b.query) ≡ true
lefts_sound b known = all_pass movable (left_ons b.query) known.movable

-- what is known of the left joins of a query that is admitted
pub query_lefts : (cat : Catalog) (role : Name) (q : Query) (b : Bound) → 0 < length q.from → admitted_query cat role q ≡ Ok b → HasLeftJoins b
query_lefts cat role q b some e = left_joins_are_bound cat q b some (permitted_bound cat role (bound cat q) b e).0

module _ (cat : Catalog) (role : Name) (b : Bound) (is : IsAdmitted cat role b) where
  -- the query that was bound
  parts : (q : Query) × (query_read cat role is.0 ≡ Ok q) × (admitted_query cat role q ≡ Ok b)
  parts = given (admitted_query cat role) b (query_read cat role is.0) is.1

  parsed : parsed_query is.0 ≡ Ok parts.0
  parsed = read_parsed cat role is.0 parts.0 parts.1

  pub text_tables : AreTables cat b.entries
  text_tables = admitted_tables cat role parts.0 b parts.2

  pub text_entries : HaveTables → 0 < length b.entries
  text_entries have = admitted_entries cat role parts.0 b (have is.0 parts.0 parsed) parts.2

  pub text_few : AreSmall → length b.entries ≤ most_entries
  text_few small = admitted_few cat role parts.0 b (small is.0 parts.0 parsed) parts.2

  pub text_conjuncts : AreSmall → length (movable_conjuncts b.query) ≤ most_conjuncts
  text_conjuncts small = admitted_conjuncts cat role parts.0 b (small is.0 parts.0 parsed) parts.2

  -- what is known of its left joins
  pub text_lefts : HaveTables → HasLeftJoins b
  text_lefts have = query_lefts cat role parts.0 b (have is.0 parts.0 parsed) parts.2

  -- the members of their ONs
  pub text_members : AreSmall → sum_by member_count (left_ons b.query) ≤ most_conjuncts
  text_members small = admitted_lefts cat role parts.0 b (small is.0 parts.0 parsed) parts.2
