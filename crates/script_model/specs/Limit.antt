-- The limits of a script.
use Rattle.std.specs.Prelude.{ℕ, ◌*◌, Bool, true, false, ◌&&◌, nat_lt, nat_le, if◌then◌else◌, List}
use Rattle.std.specs.Prelude.{length, Option, Some, None}
use Rattle.std.specs.List.{list_any, count_by, sum_by}
use Rattle.host_record.specs.Request.{request_of}
use Rattle.host_record.specs.Command.{opcode, names_blocks}
use Rattle.host_record.specs.declared.request.Request.{Request}
use Rattle.script_model.specs.declared.limit.Limit.{Limit}
use Rattle.script_model.specs.declared.limit.Limit.TheVariants.{Sessions, Records, Moved}
use Rattle.script_model.specs.declared.script.ScriptLine.{ScriptLine}
use Rattle.script_model.specs.declared.script.ScriptLine.TheVariants.{Fill, Show, Send}
use Rattle.script_model.specs.Plans.{PlannedSession}

abbrev pub is_record : ScriptLine → Bool
is_record (Send bytes) = true
is_record _ = false

-- the blocks that a record moves: its opcode decides, and a length above 65,536 moves none
abbrev pub moved_by_request : Request → ℕ
moved_by_request r = if names_blocks (opcode r) && nat_le r.length 65536 then r.length else 0

-- the blocks that a line moves
unfoldable pub moved_by : ScriptLine → ℕ
moved_by (Fill id block count byte) = count
moved_by (Show id block count) = count
moved_by (Send bytes) = moved_by_request (request_of bytes)
moved_by _ = 0

unfoldable pub moved_by_lines : List ScriptLine → ℕ
moved_by_lines lines = sum_by moved_by lines

unfoldable pub has_many_records : List ScriptLine → Bool
has_many_records lines = nat_lt 65535 (count_by is_record lines)

-- the first limit that is passed, for blocks of that size
unfoldable pub limit_of : ℕ → List PlannedSession → Option Limit
limit_of size plans =
    if nat_lt 16 (length plans) then Some Sessions
    else if list_any (λ s. has_many_records s.lines) plans then Some Records
    else if nat_lt 134217728 (size * sum_by (λ s. moved_by_lines s.lines) plans) then Some Moved
    else None
