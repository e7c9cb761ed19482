-- The hyphenated text of the swapped bytes is the text of the stored ones.
use Rattle.std.proofs.Common.{◌≡◌, ◌<◌, ◌+◌, ◌-◌, ◌/◌, ◌%◌, ◌∙◌, ℕ, false, cond, ap, List, [], ◌∷◌, length, get_or, arith}
use Rattle.std.specs.Prelude.{nat_lt}
use Rattle.std.specs.Fmt.{digit_glyph}
use Rattle.uuid.specs.Parts.{swap_fields}
use Rattle.uuid.specs.Text.{by_index, hex_digit, hyphenated_text, lower}
use Rattle.host_list.specs.{guid_text}

same_digit : (d : ℕ) → hex_digit lower d ≡ digit_glyph false d
same_digit d = let letters : 97 + d - 10 ≡ 87 + d = omega arith in ap (λ (n : ℕ). cond (nat_lt d 10) (48 + d) n) letters

high : (b : ℕ) → b < 256 → hex_digit lower (b / 16 % 16) ≡ digit_glyph false (b / 16)
high b h = let small : b / 16 % 16 ≡ b / 16 = omega arith in same_digit (b / 16 % 16) ∙ ap (digit_glyph false) small

low : (b : ℕ) → hex_digit lower (b % 16) ≡ digit_glyph false (b % 16)
low b = same_digit (b % 16)

pub guid_is : (id : List ℕ) → length id ≡ 16 → ((k : ℕ) → get_or id k 0 < 256) → hyphenated_text lower (swap_fields id) ≡ guid_text id
unfolding by_index guid_text
guid_is ([]) len fits = absurd (omega arith)
guid_is (a ∷ []) len fits = absurd (omega arith)
guid_is (a ∷ b ∷ []) len fits = absurd (omega arith)
guid_is (a ∷ b ∷ c ∷ []) len fits = absurd (omega arith)
guid_is (a ∷ b ∷ c ∷ d ∷ []) len fits = absurd (omega arith)
guid_is (a ∷ b ∷ c ∷ d ∷ e ∷ []) len fits = absurd (omega arith)
guid_is (a ∷ b ∷ c ∷ d ∷ e ∷ f ∷ []) len fits = absurd (omega arith)
guid_is (a ∷ b ∷ c ∷ d ∷ e ∷ f ∷ g ∷ []) len fits = absurd (omega arith)
guid_is (a ∷ b ∷ c ∷ d ∷ e ∷ f ∷ g ∷ h ∷ []) len fits = absurd (omega arith)
guid_is (a ∷ b ∷ c ∷ d ∷ e ∷ f ∷ g ∷ h ∷ i ∷ []) len fits = absurd (omega arith)
guid_is (a ∷ b ∷ c ∷ d ∷ e ∷ f ∷ g ∷ h ∷ i ∷ j ∷ []) len fits = absurd (omega arith)
guid_is (a ∷ b ∷ c ∷ d ∷ e ∷ f ∷ g ∷ h ∷ i ∷ j ∷ k ∷ []) len fits = absurd (omega arith)
guid_is (a ∷ b ∷ c ∷ d ∷ e ∷ f ∷ g ∷ h ∷ i ∷ j ∷ k ∷ l ∷ []) len fits = absurd (omega arith)
guid_is (a ∷ b ∷ c ∷ d ∷ e ∷ f ∷ g ∷ h ∷ i ∷ j ∷ k ∷ l ∷ m ∷ []) len fits = absurd (omega arith)
guid_is (a ∷ b ∷ c ∷ d ∷ e ∷ f ∷ g ∷ h ∷ i ∷ j ∷ k ∷ l ∷ m ∷ n ∷ []) len fits = absurd (omega arith)
guid_is (a ∷ b ∷ c ∷ d ∷ e ∷ f ∷ g ∷ h ∷ i ∷ j ∷ k ∷ l ∷ m ∷ n ∷ o ∷ []) len fits = absurd (omega arith)
guid_is (a ∷ b ∷ c ∷ d ∷ e ∷ f ∷ g ∷ h ∷ i ∷ j ∷ k ∷ l ∷ m ∷ n ∷ o ∷ p ∷ []) len fits = λ z. high d (fits 3) z ∷ low d z ∷ high c (fits 2) z ∷ low c z ∷ high b (fits 1) z ∷ low b z ∷ high a (fits 0) z ∷ low a z ∷ 45 ∷ high f (fits 5) z ∷ low f z ∷ high e (fits 4) z ∷ low e z ∷ 45 ∷ high h (fits 7) z ∷ low h z ∷ high g (fits 6) z ∷ low g z ∷ 45 ∷ high i (fits 8) z ∷ low i z ∷ high j (fits 9) z ∷ low j z ∷ 45 ∷ high k (fits 10) z ∷ low k z ∷ high l (fits 11) z ∷ low l z ∷ high m (fits 12) z ∷ low m z ∷ high n (fits 13) z ∷ low n z ∷ high o (fits 14) z ∷ low o z ∷ high p (fits 15) z ∷ low p z ∷ []
guid_is (a ∷ b ∷ c ∷ d ∷ e ∷ f ∷ g ∷ h ∷ i ∷ j ∷ k ∷ l ∷ m ∷ n ∷ o ∷ p ∷ q ∷ rest) len fits = absurd (omega arith)
