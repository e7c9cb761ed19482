-- The numbers of the statuses.
use Rattle.std.specs.Prelude.{ℤ, pos, negsuc}
use Rattle.host_record.specs.declared.status.Status.{Status}
use Rattle.host_record.specs.declared.status.Status.TheVariants as status

-- the number of a status, where negsuc n is -(n + 1)
abbrev pub status_number : Status → ℤ
status_number status.Ok = pos 0
status_number status.NotSupported = negsuc 1
status_number status.NoMemory = negsuc 3
status_number status.InvalidArgs = negsuc 9
status_number status.OutOfRange = negsuc 13
status_number status.TooSmall = negsuc 14
status_number status.NotFound = negsuc 24
status_number status.Io = negsuc 39
