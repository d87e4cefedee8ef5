use Rattle.row_objects.proofs.Paths.{reached, all_reached}
use Rattle.row_objects.proofs.memberships.law_belongs_by_paths.Goals as goal

pub returns : goal.returns
returns c = record { path = λ ms r s h. reached ms r s h; all = λ ms path r s h. all_reached ms path r s h }
