use Rattle.std.proofs.Common.{sym}
use Rattle.row_ast.proofs.Trees.{appended}
use Rattle.row_expressions.proofs.build.extend.Goals as goal

pub returns : goal.returns
returns g c = sym (appended _ c.in_ok-more.more.items _ _ c.in_ok-append.ensures.items c.in_ok-more.ensures)
