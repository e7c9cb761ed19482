-- Steps of which each may name a cause.
use Rattle.std.specs.Prelude.{Bool, if◌then◌else◌, Result, Ok, Err}
use Rattle.script_model.specs.declared.cause.ScriptCause.{ScriptCause}

-- the second step, where the first gave a value
infixl 10 ◌>>=◌
abbrev pub ◌>>=◌ : {A B : Type 0} → Result A ScriptCause → (A → Result B ScriptCause)
    → Result B ScriptCause
Ok x >>= f = f x
Err e >>= f = Err e

-- what holds, or else this cause
abbrev pub holds : Bool → ScriptCause → Result (Unit {0}) ScriptCause
holds b cause = if b then Ok tt else Err cause
