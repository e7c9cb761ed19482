-- How many entries the histories of a run get at most, by the script that it plays.
use Rattle.std.specs.Prelude.{ℕ, ◌+◌, Bool, true, false, ◌&&◌, nat_le, if◌then◌else◌, List, Option}
use Rattle.std.specs.Prelude.{Some}
use Rattle.std.specs.List.{sum_by}
use Rattle.host_model.specs.declared.memory.MemEvent.{MemEvent}
use Rattle.host_model.specs.declared.memory.MemEvent.TheVariants.{Lift, Land}
use Rattle.host_record.specs.Command.{opcode, is_forced, is_transfer}
use Rattle.host_record.specs.Request.{request_of}
use Rattle.host_record.specs.declared.opcode.Opcode.{Opcode}
use Rattle.host_record.specs.declared.opcode.Opcode.TheVariants.{Flush, Write}
use Rattle.host_record.specs.declared.request.Request.{Request}
use Rattle.script_model.specs.declared.script.ScriptLine.{ScriptLine}
use Rattle.script_model.specs.declared.script.ScriptLine.TheVariants.{Send}
use Rattle.script_model.specs.Limit.{moved_by_request}
use Rattle.script_model.specs.Plans.{PlannedSession}

-- what f gives of the line's record
abbrev pub by_record : (Request → ℕ) → ScriptLine → ℕ
by_record f (Send bytes) = f (request_of bytes)
by_record f _ = 0

-- ---- the device's steps

-- a flush makes one step, and a forced write has one flush
abbrev pub flush_steps : Option Opcode → Bool → ℕ
flush_steps (Some Flush) forced = 1
flush_steps (Some Write) forced = if forced then 1 else 0
flush_steps _ forced = 0

-- a record makes one step for each block that it moves, and those of its flush
abbrev pub steps_by_request : Request → ℕ
steps_by_request r = moved_by_request r + flush_steps (opcode r) (is_forced r)

unfoldable pub steps_in : List ScriptLine → ℕ
steps_in lines = sum_by (by_record steps_by_request) lines

-- the steps of all sessions, and the closing flush
unfoldable pub steps_ahead : List PlannedSession → ℕ
steps_ahead plans = sum_by (λ s. steps_in s.lines) plans + 1

-- ---- the buffers' lifts and landings

abbrev pub is_move : MemEvent → Bool
is_move (Lift index k id block bytes) = true
is_move (Land index k id block bytes) = true
is_move _ = false

-- a read or write lifts or lands one page for each of its blocks
abbrev pub moves_by_request : Request → ℕ
moves_by_request r = if is_transfer (opcode r) && nat_le r.length 65536 then r.length else 0

unfoldable pub moves_in : List ScriptLine → ℕ
moves_in lines = sum_by (by_record moves_by_request) lines
