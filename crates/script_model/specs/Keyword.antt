-- The first words of lines.
use Rattle.std.specs.Prelude.{ℕ, if◌then◌else◌, List, codes, Result, Ok, Err}
use Rattle.std.specs.Str.{bytes_eq}
use Rattle.script_model.specs.declared.cause.ScriptCause.{ScriptCause}
use Rattle.script_model.specs.declared.cause.ScriptCause.TheVariants.{UnknownWord}
use Rattle.script_model.specs.declared.keyword.Keyword.{Keyword}
use Rattle.script_model.specs.declared.keyword.Keyword.TheVariants as key

-- the keyword that a word is
unfoldable pub keyword_of : List ℕ → Result Keyword ScriptCause
keyword_of w =
    if bytes_eq w (codes "session") then Ok key.Session
    else if bytes_eq w (codes "attach") then Ok key.Attach
    else if bytes_eq w (codes "fill") then Ok key.Fill
    else if bytes_eq w (codes "show") then Ok key.Show
    else if bytes_eq w (codes "read") then Ok key.Read
    else if bytes_eq w (codes "write") then Ok key.Write
    else if bytes_eq w (codes "flush") then Ok key.Flush
    else if bytes_eq w (codes "trim") then Ok key.Trim
    else if bytes_eq w (codes "close") then Ok key.Close
    else if bytes_eq w (codes "raw") then Ok key.Raw
    else if bytes_eq w (codes "wait") then Ok key.Wait
    else if bytes_eq w (codes "drain") then Ok key.Drain
    else if bytes_eq w (codes "abort") then Ok key.Abort
    else Err UnknownWord
