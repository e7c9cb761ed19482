-- What single words say.
use Rattle.std.specs.Prelude.{ℕ, ◌+◌, ◌-◌, ◌*◌, ◌==◌, ◌||◌, Bool, true, false, ◌&&◌, nat_le}
use Rattle.std.specs.Prelude.{if◌then◌else◌, List, [], ◌∷◌, Option, Some, None, option_map}
use Rattle.host_words.specs.Given.{Word}

abbrev pub is_digit : ℕ → Bool
is_digit b = nat_le 48 b && nat_le b 57

-- the number that n becomes by these further decimal digits
abbrev pub word_digits_after : ℕ → Word → Option ℕ
word_digits_after n [] = Some n
word_digits_after n (b ∷ bs) = if is_digit b then word_digits_after (n * 10 + (b - 48)) bs else None

-- the value of one or more decimal digits
abbrev pub decimal : Word → Option ℕ
decimal [] = None
decimal (b ∷ bs) = word_digits_after 0 (b ∷ bs)

abbrev pub word_in_range : ℕ → ℕ → Option ℕ → Option ℕ
word_in_range low high None = None
word_in_range low high (Some n) = if nat_le low n && nat_le n high then Some n else None

-- a number from low to high, both among them
unfoldable pub number : ℕ → ℕ → Word → Option ℕ
number low high word = word_in_range low high (decimal word)

-- the number of bytes of a block
abbrev pub size_word : Option ℕ → Option ℕ
size_word None = None
size_word (Some n) = if n == 512 || n == 1024 || n == 2048 || n == 4096 then Some n else None

unfoldable pub block_size : Word → Option ℕ
block_size word = size_word (number 512 4096 word)

-- the values of an option that may be left out: none, or one
abbrev pub optional : (Word → Option ℕ) → List Word → Option (Option ℕ)
optional read [] = Some None
optional read (w ∷ []) = option_map (λ n. Some n) (read w)
optional read (w ∷ x ∷ ws) = None

-- whether an option without a value stands there, at most once
abbrev pub is_set : List Word → Option Bool
is_set [] = Some false
is_set (w ∷ []) = Some true
is_set (w ∷ x ∷ ws) = None
