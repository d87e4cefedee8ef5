-- The mentions of a query, part by part.
use Rattle.std.proofs.Common.{◌≡◌, List, [], ◌++◌, map, Option, refl}
use Rattle.std.specs.List.{flat_map}
use Rattle.expr.specs.declared.bound.ColumnId.{ColumnId}
use Rattle.expr.specs.Bound.{BoundExpr}
use Rattle.expr.specs.BoundQuery.{BoundItem, BoundQuery}
use Rattle.access.specs.declared.mentions.Mention.{Mention}
use Rattle.access.specs.declared.mentions.Mention.TheVariants as mention
use Rattle.access.specs.Needed.{in_condition, in_from, in_item, mentions}

-- each part is added after those before it
pub all_parts : (q : BoundQuery) (items : List BoundItem) (ons : List (Option BoundExpr)) (group_by : List ColumnId) (m0 m1 m2 m3 m4 m5 : List Mention)
    → items ≡ q.items → ons ≡ q.ons → group_by ≡ q.group_by
    → m0 ≡ [] → m1 ≡ m0 ++ flat_map in_item items → m2 ≡ m1 ++ in_from 0 ons → m3 ≡ m2 ++ in_condition q.filter → m4 ≡ m3 ++ map mention.Column group_by → m5 ≡ m4 ++ in_condition q.having
    → m5 ≡ mentions q
all_parts q items ons group_by m0 m1 m2 m3 m4 m5 i o g e0 e1 e2 e3 e4 e5 = rw (e5, e4, e3, e2, e1, e0, i, o, g) refl
