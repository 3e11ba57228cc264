-- The exit number of each status.
use Rattle.std.specs.Prelude.{ℕ}
use Rattle.pide_base.specs.declared.status.Status.{Status}
use Rattle.pide_base.specs.declared.status.Status.TheVariants as status

-- this project's own numbers: 0 is success, 2 a faulty command line, as shells have it
abbrev pub exit_number : Status → ℕ
exit_number status.Done = 0
exit_number status.Usage = 2
exit_number status.ReadFault = 3
exit_number status.WriteFault = 4
exit_number (status.BadFrame at) = 5
exit_number (status.Truncated at) = 6
exit_number status.LongInput = 7
exit_number status.NoMemory = 8
exit_number (status.BadText at) = 9
exit_number (status.BadReply len) = 10
