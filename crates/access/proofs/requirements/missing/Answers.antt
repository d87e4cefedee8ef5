use Rattle.std.proofs.Common.{◌∙◌, map}
use Rattle.expr.specs.View.{bound_query_of}
use Rattle.scope.specs.View.{entry_of}
use Rattle.access.specs.Needed.{mentions}
use Rattle.access.proofs.ColumnsOnce.{denial_once}
use Rattle.access.proofs.requirements.missing.Goals as goal

pub returns : goal.returns
returns g c =
    (rw (c.as_slice-3.ensures, c.in_ok-required.ensures, c.as_slice-2.ensures, c.in_ok-once.ensures, c.as_slice.ensures, c.in_ok-mentions.ensures) at c.denied.ensures)
    ∙ denial_once c.args.catalog.now c.args.role.now (map (λ e. entry_of e) c.args.entries.now) (mentions (bound_query_of c.args.query.now))
