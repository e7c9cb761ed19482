-- How many lines of a kind a client has.
use Rattle.std.specs.Prelude.{ℕ, Bool, true, false, List}
use Rattle.std.specs.List.{count_by}
use Rattle.script_model.specs.Limit.{is_record}
use Rattle.script_model.specs.declared.script.ScriptLine.{ScriptLine}
use Rattle.script_model.specs.declared.script.ScriptLine.TheVariants.{Attach, WaitAll, WaitFor}

abbrev pub is_attach_line : ScriptLine → Bool
is_attach_line (Attach pages) = true
is_attach_line _ = false

-- whether the line asks for a call, and not to wait
abbrev pub is_call : ScriptLine → Bool
is_call WaitAll = false
is_call (WaitFor total) = false
is_call _ = true

abbrev pub attach_count : List ScriptLine → ℕ
attach_count lines = count_by is_attach_line lines

abbrev pub record_count : List ScriptLine → ℕ
record_count lines = count_by is_record lines

abbrev pub call_count : List ScriptLine → ℕ
call_count lines = count_by is_call lines
