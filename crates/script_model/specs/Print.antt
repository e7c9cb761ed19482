-- The text of a script.
use Rattle.std.specs.Prelude.{ℕ, Bool, false, ◌==◌, if◌then◌else◌, List, [], ◌∷◌, ◌++◌, flat_map}
use Rattle.std.specs.Prelude.{codes, decimal, Option, Some, None, Result, Ok}
use Rattle.std.specs.Str.{bytes_eq}
use Rattle.host_record.specs.declared.request.Request.{Request}
use Rattle.host_record.specs.declared.opcode.Opcode.{Opcode}
use Rattle.host_record.specs.declared.opcode.Opcode.TheVariants as op
use Rattle.host_record.specs.declared.finish.Finish.{Finish}
use Rattle.host_record.specs.declared.finish.Finish.TheVariants.{Drain, Abort}
use Rattle.host_record.specs.Request.{request_of}
use Rattle.host_record.specs.Command.{is_forced, opcode}
use Rattle.host_text.specs.Words.{hex_byte, hex, line}
use Rattle.script_model.specs.declared.cause.ScriptCause.{ScriptCause}
use Rattle.script_model.specs.declared.statement.Statement.{Statement}
use Rattle.script_model.specs.declared.statement.Statement.TheVariants.{Do}
use Rattle.script_model.specs.declared.script.ScriptLine.{ScriptLine}
use Rattle.script_model.specs.declared.script.ScriptLine.TheVariants.{Attach, Fill, Show, Send}
use Rattle.script_model.specs.declared.script.ScriptLine.TheVariants.{WaitAll, WaitFor}
use Rattle.script_model.specs.Plans.{PlannedSession}
use Rattle.script_model.specs.Steps.{◌>>=◌}
use Rattle.script_model.specs.Arguments.{word}
use Rattle.script_model.specs.Keyword.{keyword_of}
use Rattle.script_model.specs.Lines.{statement}
use Rattle.script_model.specs.Named.{high_bits}

-- ---- records

-- the two words that put a record into its group
abbrev pub group_words : Request → List (List ℕ)
group_words r =
    if high_bits r == 0x800 then codes "member" ∷ decimal r.group ∷ []
    else if high_bits r == 0xc00 then codes "last" ∷ decimal r.group ∷ []
    else []

-- the word that forces a write
abbrev pub force_words : Request → List (List ℕ)
force_words r = if is_forced r then codes "force" ∷ [] else []

-- the line that names what the record asks for
abbrev pub named_words : Opcode → Request → List (List ℕ)
named_words op.Read r =
    codes "read" ∷ decimal r.reqid ∷ decimal r.vmoid ∷ decimal r.vmo_offset ∷ decimal r.dev_offset
    ∷ decimal r.length ∷ group_words r
named_words op.Write r =
    codes "write" ∷ decimal r.reqid ∷ decimal r.vmoid ∷ decimal r.vmo_offset ∷ decimal r.dev_offset
    ∷ decimal r.length ∷ (force_words r ++ group_words r)
named_words op.Flush r = codes "flush" ∷ decimal r.reqid ∷ group_words r
named_words op.Trim r =
    codes "trim" ∷ decimal r.reqid ∷ decimal r.dev_offset ∷ decimal r.length ∷ group_words r
named_words op.Close r = codes "close" ∷ decimal r.reqid ∷ decimal r.vmoid ∷ group_words r

-- whether a line sends just these bytes
abbrev pub is_sending : List ℕ → Result Statement ScriptCause → Bool
is_sending bytes (Ok (Do (Send sent))) = bytes_eq sent bytes
is_sending bytes _ = false

abbrev pub says : List (List ℕ) → Result Statement ScriptCause
says ws = keyword_of (word ws 0) >>= λ key. statement key ws

abbrev pub raw_words : List ℕ → List (List ℕ)
raw_words bytes = codes "raw" ∷ hex bytes ∷ []

-- whether the named line gives the same bytes
unfoldable pub is_named : Opcode → List ℕ → Bool
is_named code bytes = is_sending bytes (says (named_words code (request_of bytes)))

-- the named line where it gives the same bytes, else the bytes
abbrev pub named_or_raw : List ℕ → Option Opcode → List (List ℕ)
named_or_raw bytes None = raw_words bytes
named_or_raw bytes (Some code) =
    if is_named code bytes then named_words code (request_of bytes) else raw_words bytes

unfoldable pub send_words : List ℕ → List (List ℕ)
send_words bytes = named_or_raw bytes (opcode (request_of bytes))

-- ---- lines

abbrev pub line_words : ScriptLine → List (List ℕ)
line_words (Attach pages) = codes "attach" ∷ decimal pages ∷ []
line_words (Fill id block count byte) =
    codes "fill" ∷ decimal id ∷ decimal block ∷ decimal count ∷ hex_byte byte ∷ []
line_words (Show id block count) = codes "show" ∷ decimal id ∷ decimal block ∷ decimal count ∷ []
line_words (Send bytes) = send_words bytes
line_words WaitAll = codes "wait" ∷ []
line_words (WaitFor total) = codes "wait" ∷ decimal total ∷ []

abbrev pub end_word : Finish → List ℕ
end_word Drain = codes "drain"
end_word Abort = codes "abort"

abbrev pub line_text : ScriptLine → List ℕ
line_text l = line (line_words l)

-- a line that begins the session, one for each thing to do, and one that ends it
abbrev pub session_script_text : PlannedSession → List ℕ
session_script_text s =
    line (codes "session" ∷ decimal s.part ∷ []) ++ flat_map line_text s.lines
    ++ line (end_word s.finish ∷ [])

abbrev pub script_text : List PlannedSession → List ℕ
script_text plans = flat_map session_script_text plans
