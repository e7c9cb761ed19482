-- The answers that are owed by the lines of a session.
use Rattle.std.specs.Prelude.{ℕ, Bool, false, List, length, filter}
use Rattle.host_record.specs.Request.{request_of}
use Rattle.host_model.specs.Groups.{is_owing}
use Rattle.script_model.specs.declared.script.ScriptLine.{ScriptLine}
use Rattle.script_model.specs.declared.script.ScriptLine.TheVariants.{Send}

-- whether the line sends a record that is owed an answer
abbrev pub owes : ScriptLine → Bool
owes (Send bytes) = is_owing (request_of bytes)
owes _ = false

-- how many answers are owed by the records of these lines
unfoldable pub owed : List ScriptLine → ℕ
owed lines = length (filter owes lines)
