-- What single words mean.
use Rattle.std.specs.Prelude.{ℕ, ◌+◌, ◌-◌, ◌*◌, Bool, ◌&&◌, nat_le, if◌then◌else◌, List, [], ◌∷◌}
use Rattle.std.specs.Prelude.{length, Option, Some, None, Result, Ok, Err}
use Rattle.hex.specs.Hex.{decode_sized}
use Rattle.hex.specs.declared.error.FromHexError.{FromHexError}
use Rattle.script_model.specs.declared.cause.ScriptCause.{ScriptCause}
use Rattle.script_model.specs.declared.cause.ScriptCause.TheVariants.{BadNumber, BadHex}

abbrev pub is_digit : ℕ → Bool
is_digit b = nat_le 48 b && nat_le b 57

-- the number that n becomes by these further decimal digits
abbrev pub digits_after : ℕ → List ℕ → Option ℕ
digits_after n [] = Some n
digits_after n (b ∷ bs) = if is_digit b then digits_after (n * 10 + (b - 48)) bs else None

-- the value of 1 to 20 decimal digits
unfoldable pub decimal_value : List ℕ → Option ℕ
decimal_value word =
    if nat_le 1 (length word) && nat_le (length word) 20 then digits_after 0 word else None

-- a value from low to high, both among them
abbrev pub in_range : ℕ → ℕ → Option ℕ → Result ℕ ScriptCause
in_range low high None = Err BadNumber
in_range low high (Some n) = if nat_le low n && nat_le n high then Ok n else Err BadNumber

unfoldable pub number : ℕ → ℕ → List ℕ → Result ℕ ScriptCause
number low high word = in_range low high (decimal_value word)

-- the bytes, or the cause where there are none
abbrev pub hex_result : Result (List ℕ) FromHexError → Result (List ℕ) ScriptCause
hex_result (Ok bytes) = Ok bytes
hex_result (Err e) = Err BadHex

-- n bytes as two hexadecimal digits each
unfoldable pub hex_bytes : ℕ → List ℕ → Result (List ℕ) ScriptCause
hex_bytes n word = hex_result (decode_sized word n)
