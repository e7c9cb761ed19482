-- What a line says by itself.
use Rattle.std.specs.Prelude.{ℕ, ◌+◌, ◌==◌, if◌then◌else◌, List, length, get_or, Result, Ok}
use Rattle.host_record.specs.declared.request.Request.{Request}
use Rattle.host_record.specs.declared.opcode.Opcode.{Opcode}
use Rattle.host_record.specs.declared.opcode.Opcode.TheVariants as op
use Rattle.host_record.specs.declared.finish.Finish.{Finish}
use Rattle.host_record.specs.declared.finish.Finish.TheVariants.{Drain, Abort}
use Rattle.host_record.specs.Request.{request_bytes}
use Rattle.script_model.specs.declared.cause.ScriptCause.{ScriptCause}
use Rattle.script_model.specs.declared.keyword.Keyword.{Keyword}
use Rattle.script_model.specs.declared.keyword.Keyword.TheVariants as key
use Rattle.script_model.specs.declared.statement.Statement.{Statement}
use Rattle.script_model.specs.declared.statement.Statement.TheVariants.{Begin, Do, End}
use Rattle.script_model.specs.declared.script.ScriptLine.TheVariants as line
use Rattle.script_model.specs.Arguments.{word, has_count, u16_at, u32_at, u64_at, count_at}
use Rattle.script_model.specs.Arguments.{force_bit, group_bits, group_number, write_count}
use Rattle.script_model.specs.Numbers.{number, hex_bytes}
use Rattle.script_model.specs.Steps.{◌>>=◌}

unfoldable pub session_line : List (List ℕ) → Result Statement ScriptCause
session_line ws = do
  count ← has_count 2 ws
  part ← number 1 1024 (word ws 1)
  Ok (Begin part)

unfoldable pub attach_line : List (List ℕ) → Result Statement ScriptCause
attach_line ws = do
  count ← has_count 2 ws
  pages ← count_at ws 1
  Ok (Do (line.Attach pages))

unfoldable pub fill_line : List (List ℕ) → Result Statement ScriptCause
fill_line ws = do
  words ← has_count 5 ws
  id ← u16_at ws 1
  block ← u16_at ws 2
  count ← count_at ws 3
  byte ← hex_bytes 1 (word ws 4)
  Ok (Do (line.Fill id block count (get_or byte 0 0)))

unfoldable pub show_line : List (List ℕ) → Result Statement ScriptCause
show_line ws = do
  words ← has_count 4 ws
  id ← u16_at ws 1
  block ← u16_at ws 2
  count ← count_at ws 3
  Ok (Do (line.Show id block count))

-- the number of an opcode
abbrev pub opcode_number : Opcode → ℕ
opcode_number op.Read = 1
opcode_number op.Write = 2
opcode_number op.Flush = 3
opcode_number op.Trim = 4
opcode_number op.Close = 5

-- a line that sends this request
abbrev pub sends : Request → Statement
sends r = Do (line.Send (request_bytes r))

-- a read or write, of so many words before those of its group; the command begins with this number
unfoldable pub transfer_line : ℕ → ℕ → List (List ℕ) → Result Statement ScriptCause
transfer_line command n ws = do
  bits ← group_bits n ws
  reqid ← u32_at ws 1
  id ← u16_at ws 2
  offset ← u64_at ws 3
  block ← u64_at ws 4
  len ← u32_at ws 5
  group ← group_number n ws
  Ok (sends (record { command = command + bits; reqid = reqid; group = group; vmoid = id; length = len; vmo_offset = offset; dev_offset = block }))

-- a write may be forced
unfoldable pub write_line : List (List ℕ) → Result Statement ScriptCause
write_line ws = do
  force ← force_bit ws
  transfer_line (opcode_number op.Write + force) (write_count ws) ws

unfoldable pub flush_line : List (List ℕ) → Result Statement ScriptCause
flush_line ws = do
  bits ← group_bits 2 ws
  reqid ← u32_at ws 1
  group ← group_number 2 ws
  Ok (sends (record { command = opcode_number op.Flush + bits; reqid = reqid; group = group; vmoid = 0; length = 0; vmo_offset = 0; dev_offset = 0 }))

unfoldable pub trim_line : List (List ℕ) → Result Statement ScriptCause
trim_line ws = do
  bits ← group_bits 4 ws
  reqid ← u32_at ws 1
  block ← u64_at ws 2
  len ← u32_at ws 3
  group ← group_number 4 ws
  Ok (sends (record { command = opcode_number op.Trim + bits; reqid = reqid; group = group; vmoid = 0; length = len; vmo_offset = 0; dev_offset = block }))

unfoldable pub close_line : List (List ℕ) → Result Statement ScriptCause
close_line ws = do
  bits ← group_bits 3 ws
  reqid ← u32_at ws 1
  id ← u16_at ws 2
  group ← group_number 3 ws
  Ok (sends (record { command = opcode_number op.Close + bits; reqid = reqid; group = group; vmoid = id; length = 0; vmo_offset = 0; dev_offset = 0 }))

unfoldable pub raw_line : List (List ℕ) → Result Statement ScriptCause
raw_line ws = do
  count ← has_count 2 ws
  bytes ← hex_bytes 32 (word ws 1)
  Ok (Do (line.Send bytes))

-- with one word it waits for all that is owed, with two for that many
unfoldable pub wait_line : List (List ℕ) → Result Statement ScriptCause
wait_line ws = if length ws == 1 then Ok (Do line.WaitAll) else do
  count ← has_count 2 ws
  total ← number 1 0xffff_ffff (word ws 1)
  Ok (Do (line.WaitFor total))

unfoldable pub end_line : Finish → List (List ℕ) → Result Statement ScriptCause
end_line finish ws = do
  count ← has_count 1 ws
  Ok (End finish)

-- what a line that begins with this word says
unfoldable pub statement : Keyword → List (List ℕ) → Result Statement ScriptCause
statement key.Session ws = session_line ws
statement key.Attach ws = attach_line ws
statement key.Fill ws = fill_line ws
statement key.Show ws = show_line ws
statement key.Read ws = transfer_line (opcode_number op.Read) 6 ws
statement key.Write ws = write_line ws
statement key.Flush ws = flush_line ws
statement key.Trim ws = trim_line ws
statement key.Close ws = close_line ws
statement key.Raw ws = raw_line ws
statement key.Wait ws = wait_line ws
statement key.Drain ws = end_line Drain ws
statement key.Abort ws = end_line Abort ws
