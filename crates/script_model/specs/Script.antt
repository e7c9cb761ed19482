-- What a text means: a script, or the first bad line with its cause.
use Rattle.std.specs.Prelude.{◌≡◌, ℕ, ◌+◌, ◌==◌, List, [], ◌∷◌, length, if◌then◌else◌, Result, Ok}
use Rattle.std.specs.Prelude.{Err}
use Rattle.std.specs.Str.Lines.{lines}
use Rattle.script_model.specs.declared.cause.ScriptCause.{ScriptCause}
use Rattle.script_model.specs.declared.parse_error.ParseError.{ParseError}
use Rattle.script_model.specs.declared.parse_error.ParseError.TheVariants as error
use Rattle.script_model.specs.declared.statement.Statement.{Statement}
use Rattle.script_model.specs.declared.script.Script.{Script}
use Rattle.script_model.specs.Draft.{Draft, nothing_yet, added, plans, meaning}
use Rattle.script_model.specs.Plans.{PlannedSession, plans_of}
use Rattle.script_model.specs.Words.{words}

-- the draft after a line, which is as before where the line has no word
abbrev pub after_statement : Draft → Result Statement ScriptCause → Result Draft ScriptCause
after_statement d (Ok s) = Ok (added d s)
after_statement d (Err cause) = Err cause

unfoldable pub after_line : Draft → List (List ℕ) → Result Draft ScriptCause
after_line d ws = if length ws == 0 then Ok d else after_statement d (meaning d ws)

-- the draft after these lines, the first of which has that number
abbrev pub after_lines : ℕ → Draft → List (List ℕ) → Result Draft ParseError
after_lines n d [] = Ok d
after_lines n d (line ∷ lines) = elim (after_line d (words line)) [
  | Ok e ↦ after_lines (n + 1) e lines
  | Err cause ↦ Err (error.Bad n cause)
]

abbrev pub plans_after : Result Draft ParseError → Result (List PlannedSession) ParseError
plans_after (Ok d) = Ok (plans d)
plans_after (Err e) = Err e

-- what the text means
abbrev pub script_of : List ℕ → Result (List PlannedSession) ParseError
script_of text = plans_after (after_lines 1 nothing_yet (lines text))

-- ---- what the code gives

-- what `parse` gives for a text that means this, unless memory runs out
abbrev pub Fails : ParseError → Result (List PlannedSession) ParseError → Type 0
Fails error.Oom meant = Unit {0}
Fails (error.Bad line cause) meant = meant ≡ Err (error.Bad line cause)

abbrev pub Parses : Result Script ParseError → Result (List PlannedSession) ParseError → Type 0
Parses (Ok script) meant = meant ≡ Ok (plans_of script)
Parses (Err e) meant = Fails e meant

-- what reading line n gives, where it means this
abbrev pub ReadsLine : ℕ → Result Draft ScriptCause → Draft → Result (Unit {0}) ParseError → Type 0
ReadsLine n meant new (Ok u) = meant ≡ Ok new
ReadsLine n meant new (Err error.Oom) = Unit {0}
ReadsLine n meant new (Err (error.Bad line cause)) = (line ≡ n) × (meant ≡ Err cause)
