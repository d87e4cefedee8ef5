-- The reply of `rowplan changes`, and its status.
use Rattle.std.specs.Prelude.{ℕ, zero, suc, Bool, if◌then◌else◌}
use Rattle.engine.specs.Database.{Database}
use Rattle.replies.specs.Reply.{Reply, Rows}
use Rattle.access_matrix.specs.Changes.{change_headings, change_rows}

-- what roles gain and lose by a change of the schema
abbrev pub changes_reply : (old new : Database) → Reply
changes_reply old new = Rows change_headings (change_rows old new)

-- 9 where a role gains something that is not allowed
abbrev pub changes_status : (opens : Bool) → ℕ
changes_status opens = if opens then 9 else 0

-- the same after the status with which rows were written; that of a failure stays
abbrev pub status_after : (opens : Bool) → (status : ℕ) → ℕ
status_after opens zero = changes_status opens
status_after opens (suc status) = suc status
