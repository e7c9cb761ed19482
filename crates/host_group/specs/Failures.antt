-- The word of a failure: an index and a status, packed so that the index decides first.
use Rattle.std.specs.Prelude.{ℕ, ◌+◌, ◌*◌, ◌%◌, ◌==◌, cond}
use Rattle.host_record.specs.declared.status.Status.{Status}
use Rattle.host_record.specs.declared.status.Status.TheVariants.{Ok, NotSupported, NoMemory}
use Rattle.host_record.specs.declared.status.Status.TheVariants.{InvalidArgs, OutOfRange, TooSmall}
use Rattle.host_record.specs.declared.status.Status.TheVariants.{NotFound, Io}

-- the word where nobody failed, the greatest of all
abbrev pub no_failure : ℕ
no_failure = 18446744073709551615

-- how a member with this index ended, as one number
abbrev pub failure_word : ℕ → Status → ℕ
failure_word index Ok = no_failure
failure_word index NotSupported = 8 * index + 1
failure_word index NoMemory = 8 * index + 2
failure_word index InvalidArgs = 8 * index + 3
failure_word index OutOfRange = 8 * index + 4
failure_word index TooSmall = 8 * index + 5
failure_word index NotFound = 8 * index + 6
failure_word index Io = 8 * index + 7

-- the status of a failure, by the last three bits of its word
abbrev pub status_of_bits : ℕ → Status
status_of_bits n =
    cond (n == 1) NotSupported (cond (n == 2) NoMemory (cond (n == 3) InvalidArgs
    (cond (n == 4) OutOfRange (cond (n == 5) TooSmall (cond (n == 6) NotFound Io)))))

-- the status that a word tells
abbrev pub status_of : ℕ → Status
status_of n = cond (n == no_failure) Ok (status_of_bits (n % 8))
