-- The parts of a query are bound one after another, in written order.
use Rattle.std.proofs.Common.{◌≡◌, ℕ, zero, suc, ◌+◌, List, [], ◌∷◌, ◌++◌, length, take, append-nil, append_assoc, Option, Some, None, Result, Ok, refl, sym, ap, subst, ◌∙◌, arith}
use Rattle.std.specs.List.{slice_get}
use Rattle.row_ast.specs.Ast as ast
use Rattle.memory.specs.Results.{first_then, on_each}
use Rattle.memory.proofs.Cases.{ok_is, some_is}
use Rattle.catalog_laws.specs.Catalog.{Catalog}
use Rattle.scope.specs.declared.lookup.Scope.{Scope}
use Rattle.scope.specs.Entry.{Entry}
use Rattle.scope.specs.Lookup.{on_scope}
use Rattle.scope.specs.BoundExprs.{bound_arms, bound_expr, bound_members, bound_otherwise, choice, conjunction, disjunction, pair}
use Rattle.scope.proofs.Found.{first_given}
use Rattle.analysis.specs.BoundQueries.{bound_condition, bound_ons}
use Rattle.analysis.specs.Entries.{JoinedTable, entries_in, entry_in}
use Rattle.analysis.proofs.EntryTables.{given}
use Rattle.query_laws.specs.InOrder.{ArmsInOrder, EntriesInOrder, MembersInOrder, OnsInOrder, numbered}

module _ (entries : List Entry) (scope : Scope) where
  members_are : (es : List ast.Expr) → bound_members entries scope (ast.exprs_of es) ≡ on_each (bound_expr entries scope) es
  members_are [] = refl
  members_are (e ∷ es) = ap (first_then (bound_expr entries scope e)) (members_are es)

  arms_are : (arms : List (ast.Expr × ast.Expr)) → bound_arms entries scope (ast.arms_of arms) ≡ on_each (λ a. pair (bound_expr entries scope a.0) (bound_expr entries scope a.1)) arms
  arms_are [] = refl
  arms_are (a ∷ arms) = ap (first_then (pair (bound_expr entries scope a.0) (bound_expr entries scope a.1))) (arms_are arms)

pub members_in_order : MembersInOrder
members_in_order entries scope offset es = (ap (conjunction offset) (members_are entries scope es), ap (disjunction offset) (members_are entries scope es))

pub arms_in_order : ArmsInOrder
arms_in_order entries scope offset arms o = ap (λ r. choice offset r (bound_otherwise entries scope o)) (arms_are entries scope arms)

ons_are : (entries : List Entry) (n : ℕ) (more : List Entry) → bound_ons entries n more ≡ on_each (λ e. bound_condition entries (on_scope e.0 e.1) e.1.on) (numbered n more)
ons_are entries n [] = refl
ons_are entries n (e ∷ more) = ap (first_then (bound_condition entries (on_scope n e) e.on)) (ons_are entries (n + 1) more)

pub ons_in_order : OnsInOrder
ons_in_order entries = ons_are entries 0 entries

-- ---- the entries of FROM

module _ (cat : Catalog) where
  abbrev IsBehind : List Entry → List Entry → ℕ → JoinedTable → Type 0
  IsBehind before es k j = (e : Entry) × (slice_get es k ≡ Some e) × (entry_in cat (before ++ take k es) j ≡ Ok e)

  each_behind : (before : List Entry) (js : List JoinedTable) (es : List Entry) → entries_in cat before js ≡ Ok es
      → (length es ≡ length js) × ((k : ℕ) (j : JoinedTable) → slice_get js k ≡ Some j → IsBehind before es k j)
  each_behind before [] es h = (sym (ap length (ok_is [] es h)), λ k j e. absurd (cc))
  each_behind before (first ∷ more) es h =
      let step = given (λ e. first_then (Ok e) (entries_in cat (before ++ e ∷ []) more)) es (entry_in cat before first) h in
      let rest = first_given (Ok step.0) (entries_in cat (before ++ step.0 ∷ []) more) es step.2 in
      let same : step.0 ∷ rest.1 ≡ es = ap (λ (e : Entry). e ∷ rest.1) (ok_is step.0 rest.0 rest.2) ∙ rest.4 in
      let those = each_behind (before ++ step.0 ∷ []) more rest.1 rest.3 in
      subst (λ (es : List Entry). (length es ≡ length (first ∷ more)) × ((k : ℕ) (j : JoinedTable) → slice_get (first ∷ more) k ≡ Some j → IsBehind before es k j)) same
      (ap suc those.0, each step.0 rest.1 step.1 those.1)
    where
      each : (e : Entry) (es : List Entry) → entry_in cat before first ≡ Ok e → ((k : ℕ) (j : JoinedTable) → slice_get more k ≡ Some j → IsBehind (before ++ e ∷ []) es k j)
          → (k : ℕ) (j : JoinedTable) → slice_get (first ∷ more) k ≡ Some j → IsBehind before (e ∷ es) k j
      each e es here later zero j is = (e, refl, ap (λ l. entry_in cat l j) (append-nil before) ∙ ap (entry_in cat before) (sym (some_is first j is)) ∙ here)
      each e es here later (suc k) j is = let it = later k j is in (it.0, it.1, ap (λ l. entry_in cat l j) (sym (append_assoc before (e ∷ []) (take k es))) ∙ it.2)

pub entries_in_order : EntriesInOrder
entries_in_order cat js es h = each_behind cat [] js es h
