-- The errors of a command line, and their exit statuses.
use Rattle.std.specs.Prelude.{ℕ}
use Rattle.std.specs.declared.io.ErrorKind.{ErrorKind}
use Rattle.std.specs.declared.io.ErrorKind.TheVariants as kind
use Rattle.command_line.specs.declared.error.CommandLineError.{CommandLineError}
use Rattle.command_line.specs.declared.error.CommandLineError.TheVariants.{Usage, InvalidUtf8, Help, OutOfMemory}

-- of words that are not read: out of memory, or else one of them is no UTF-8
abbrev pub unread_words : ErrorKind → CommandLineError
unread_words kind.OutOfMemory = OutOfMemory
unread_words _ = InvalidUtf8

abbrev pub exit_status : CommandLineError → ℕ
exit_status (Usage text) = 2
exit_status InvalidUtf8 = 2
exit_status (Help text) = 0
exit_status OutOfMemory = 7
