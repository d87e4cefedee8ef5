use Rattle.std.proofs.Common.{◌≡◌, ◌∙◌, ◌+◌, ◌++◌, List, ◌∷◌, append-nil, append_assoc, arith, length, length-append, map, sym, ap}
use Rattle.std.proofs.lemmas.List.{at_drop_all, length-map}
use Rattle.row_ast.specs.Ast as ast
use Rattle.row_ast.specs.View.{from_item_of}
use Rattle.resolve.specs.Entries.{JoinedTable, item_tables, joined}
use Rattle.resolve.specs.View.{joined_table_of}
use Rattle.memory.proofs.Lists.{known_next}
use Rattle.resolve.proofs.from.joined.Goals as goal

-- the tables that are known, and those of the items behind them
abbrev behind : List JoinedTable → List ast.FromItem → List JoinedTable
behind known fs = known ++ joined (length known) fs

one_behind : (known : List JoinedTable) (f : ast.FromItem) (fs : List ast.FromItem) → behind known (f ∷ fs) ≡ behind (known ++ item_tables (length known) f) fs
one_behind known f fs =
    let here = item_tables (length known) f in
    sym (append_assoc known here (joined (length known + length here) fs)) ∙ ap (λ n. (known ++ here) ++ joined n fs) (sym (length-append known here))

pub loop-item-preserved : goal.loop-item-preserved
loop-item-preserved g c =
    known_next behind (λ known f. known ++ item_tables (length known) f) (λ f. from_item_of f) c.args.from.now c.loop-item.item-index one_behind c.item-item.result c.loop-item-test.true c.item-item.is _ _ _ c.loop-item.invariant
    (c.in_ok-push_item.ensures ∙ ap (λ n. map (λ j. joined_table_of j) c.loop-item.tables ++ item_tables n (from_item_of c.item-item.result)) (sym (length-map c.loop-item.tables (λ j. joined_table_of j))))

pub returns : goal.returns
returns g c =
    sym (append-nil (map (λ j. joined_table_of j) c.loop-item.tables))
    ∙ sym (at_drop_all (λ l. behind (map (λ j. joined_table_of j) c.loop-item.tables) (map (λ f. from_item_of f) l)) c.args.from.now c.loop-item.item-index (omega (arith, c.loop-item-test.false)))
    ∙ c.loop-item.invariant
