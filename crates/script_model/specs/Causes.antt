-- The words that name what is wrong with a line.
use Rattle.std.specs.Prelude.{ℕ, List, codes}
use Rattle.script_model.specs.declared.cause.ScriptCause.{ScriptCause}
use Rattle.script_model.specs.declared.cause.ScriptCause.TheVariants.{BadByte, UnknownWord}
use Rattle.script_model.specs.declared.cause.ScriptCause.TheVariants.{NoSession, AfterEnd}
use Rattle.script_model.specs.declared.cause.ScriptCause.TheVariants.{WrongCount, BadNumber, BadHex}
use Rattle.script_model.specs.declared.cause.ScriptCause.TheVariants.{TooMany}

abbrev pub cause_word : ScriptCause → List ℕ
cause_word BadByte = codes "byte"
cause_word UnknownWord = codes "word"
cause_word NoSession = codes "session"
cause_word AfterEnd = codes "ended"
cause_word WrongCount = codes "count"
cause_word BadNumber = codes "number"
cause_word BadHex = codes "hex"
cause_word TooMany = codes "wait"
