-- What the command of a request says.
use Rattle.std.specs.Prelude.{ℕ, ◌%◌, Bool, true, false, not, ◌==◌, ◌&&◌, ◌||◌, if◌then◌else◌}
use Rattle.std.specs.Prelude.{bit_and, Option, Some, None}
use Rattle.host_record.specs.declared.request.Request.{Request}
use Rattle.host_record.specs.declared.opcode.Opcode.{Opcode}
use Rattle.host_record.specs.declared.opcode.Opcode.TheVariants.{Read, Write, Flush, Trim, Close}

-- what the low eight bits of the command ask for
unfoldable pub opcode : Request → Option Opcode
opcode r =
    let code = r.command % 256 in
    if code == 1 then Some Read
    else (if code == 2 then Some Write
    else (if code == 3 then Some Flush
    else (if code == 4 then Some Trim else (if code == 5 then Some Close else None))))

-- whether one of the bits of the mask is set in the command
abbrev pub has_bit_of : ℕ → Request → Bool
has_bit_of mask r = not (bit_and r.command mask == 0)

-- 0x800 is "member of group", 0x400 is "last of group"
abbrev pub is_grouped : Request → Bool
is_grouped r = has_bit_of 0xc00 r

-- whether the request closes its group
abbrev pub is_last : Request → Bool
is_last r = has_bit_of 0x400 r

-- 0x1000 is "force": the answer waits until what was written is durable
abbrev pub is_forced : Request → Bool
is_forced r = has_bit_of 0x1000 r

-- whether it is a write
abbrev pub is_write : Option Opcode → Bool
is_write (Some Write) = true
is_write _ = false

-- every bit but the opcode and these three is unknown, and so is "force" on anything but a write
abbrev pub has_unknown_bit : Request → Bool
has_unknown_bit r = has_bit_of 0xffffe300 r || (is_forced r && not (is_write (opcode r)))

-- a read, write or trim names blocks of the device
abbrev pub names_blocks : Option Opcode → Bool
names_blocks (Some Read) = true
names_blocks (Some Write) = true
names_blocks (Some Trim) = true
names_blocks _ = false

-- a read, write or close names a buffer
abbrev pub names_buffer : Option Opcode → Bool
names_buffer (Some Read) = true
names_buffer (Some Write) = true
names_buffer (Some Close) = true
names_buffer _ = false

-- a read or write moves blocks between a buffer and the device
abbrev pub is_transfer : Option Opcode → Bool
is_transfer (Some Read) = true
is_transfer (Some Write) = true
is_transfer _ = false

-- whether it is a close
abbrev pub is_close : Option Opcode → Bool
is_close (Some Close) = true
is_close _ = false
