-- Numbers and bytes that were printed are read again.
use Rattle.std.proofs.Common.{◌≡◌, ℕ, ◌+◌, ◌-◌, ◌*◌, ◌/◌, ◌%◌, ◌<◌, ◌≤◌, ◌^◌, Bool, true, false, cond, ◌&&◌, List, [], ◌∷◌, ◌++◌, length, refl, inl, inr, ap, sym, ◌∙◌, arith, Option, Some, None, Ok, decimal, nat_le}
use Rattle.std.proofs.lemmas.Fmt.{decimal_by_steps, length-decimal-le, decimal_nonempty}
use Rattle.std.proofs.lemmas.Bool.Decides.{leb_tells}
use Rattle.script_model.specs.{is_digit, digits_after, decimal_value, number}

pub le_true : (a b : ℕ) → a ≤ b → nat_le a b ≡ true
le_true a b h = elim (leb_tells a b) [ inl t ↦ t.0 | inr f ↦ absurd (omega (arith, f.1)) ]

pub le_from : (a b : ℕ) → nat_le a b ≡ true → a ≤ b
le_from a b h = elim (leb_tells a b) [ inl t ↦ t.1 | inr f ↦ absurd (let e : true ≡ false = sym h ∙ f.0 in cc) ]

pub and_true : (a b : Bool) → (a && b) ≡ true → (a ≡ true) × (b ≡ true)
and_true true b h = (refl, h)
and_true false b h = cc

digit_at : (n : ℕ) → n < 10 → is_digit (48 + n) ≡ true
digit_at n h = rw (le_true 48 (48 + n) (omega arith), le_true (48 + n) 57 (omega arith))

-- one digit more
digits_push_step : (b : Bool) (m : Option ℕ) (k : ℕ) → cond b m None ≡ Some k → (b ≡ true) × (m ≡ Some k)
digits_push_step true m k h = (refl, h)
digits_push_step false m k h = cc

digits_push : (m : ℕ) (ds : List ℕ) (c k : ℕ) → digits_after m ds ≡ Some k → is_digit c ≡ true → digits_after m (ds ++ c ∷ []) ≡ Some (k * 10 + (c - 48))
digits_push m [] c k h d = rw d (let e : m ≡ k = cc in ap (λ n. Some (n * 10 + (c - 48))) e)
digits_push m (b ∷ ds) c k h d =
    let step = digits_push_step (is_digit b) (digits_after (m * 10 + (b - 48)) ds) k h in
    let here : is_digit b ≡ true = step.0 in
    rw here (digits_push (m * 10 + (b - 48)) ds c k step.1 d)

digits_of_decimal : (n : ℕ) → n < 2 ^ 64 → digits_after 0 (decimal n) ≡ Some n
digits_of_decimal n h =
    decimal_by_steps (λ n ds. digits_after 0 ds ≡ Some n)
    (λ n k. rw (digit_at n k) (ap Some (omega arith)))
    (λ n ds k e. digits_push 0 ds (48 + n % 10) (n / 10) e (digit_at (n % 10) (omega arith)) ∙ ap Some (omega arith))
    n h

pub decimal_value-decimal : (n : ℕ) → n < 2 ^ 64 → decimal_value (decimal n) ≡ Some n
unfolding decimal_value
decimal_value-decimal n h =
    let some = decimal_nonempty n h in
    let few = length-decimal-le 20 n (omega arith) (omega arith) h in
    rw (le_true 1 (length (decimal n)) (omega arith), le_true (length (decimal n)) 20 few) (digits_of_decimal n h)

-- a number in its range
pub number-decimal : (low high n : ℕ) → low ≤ n → n ≤ high → n < 2 ^ 64 → number low high (decimal n) ≡ Ok n
unfolding number
number-decimal low high n l u h = rw (decimal_value-decimal n h, le_true low n l, le_true n high u)
