-- The two tables of hexadecimal digits are the same.
use Rattle.std.proofs.Common.{◌≡◌, ℕ, zero, suc, ◌<◌, ◌≤◌, ◌/◌, ◌%◌, Bool, true, false, ◌&&◌, List, [], ◌∷◌, get_or, refl, arith, inl, inr}
use Rattle.std.specs.Prelude.{◌==◌, nat_lt}
use Rattle.std.specs.Fmt.{digit_glyph}
use Rattle.std.specs.List.{list_all}
use Rattle.std.proofs.lemmas.Bool.{cases_lt, eqb-true}
use Rattle.hex.specs.Hex.{encode_lower, encode_with, lower_digits}
use Rattle.host_text.specs.{hex}
use Rattle.script_model.proofs.PrintedValues.{and_true, le_from}

abbrev is_same : ℕ → Bool
is_same d = digit_glyph false d == get_or lower_digits d 0

abbrev are_same : ℕ → Bool
are_same zero = true
are_same (suc n) = is_same n && are_same n

same_below : (n d : ℕ) → are_same n ≡ true → d < n → is_same d ≡ true
same_below zero d h lt = absurd (omega arith)
same_below (suc n) d h lt =
    let both = and_true (is_same n) (are_same n) h in
    elim (cases_lt d n) [
      | inl below ↦ same_below n d both.1 below
      | inr top ↦
          let e : d ≡ n = omega arith in
          rw e both.0
    ]

same_digit : (d : ℕ) → d < 16 → digit_glyph false d ≡ get_or lower_digits d 0
same_digit d h = eqb-true (digit_glyph false d) (get_or lower_digits d 0) (same_below 16 d refl h)

pub hex-encode_lower : (bytes : List ℕ) → list_all (λ b. nat_lt b 256) bytes ≡ true → hex bytes ≡ encode_lower bytes
unfolding encode_with
hex-encode_lower [] h = refl
hex-encode_lower (b ∷ bytes) h =
    let both = and_true (nat_lt b 256) (list_all (λ c. nat_lt c 256) bytes) h in
    let small : suc b ≤ 256 = le_from (suc b) 256 both.0 in
    rw (same_digit (b / 16) (omega arith), same_digit (b % 16) (omega arith), hex-encode_lower bytes both.1)
