-- The numbers of statuses.
use Rattle.std.specs.Prelude.{ℕ}
use Rattle.ae_jobs.specs.declared.status.Status.{Status}
use Rattle.ae_jobs.specs.declared.status.Status.TheVariants.{Ok, Usage, BadLine, BadType, TooLarge, NoSchedule, BadWords, BadModule, LongRun, ReadFault, WriteFault, TooLong, Memory, BadWave, NotMoves}

abbrev pub status_number : Status → ℕ
status_number Ok = 0
status_number Usage = 1
status_number (BadLine line) = 2
status_number (BadType line) = 3
status_number (TooLarge line) = 4
status_number (NoSchedule line) = 5
status_number (BadWords row column) = 6
status_number (BadModule fault) = 7
status_number (LongRun size) = 8
status_number ReadFault = 9
status_number WriteFault = 10
status_number TooLong = 11
status_number Memory = 12
status_number (BadWave at) = 13
status_number (NotMoves line) = 14
