-- The bytes of the number that stands in some bytes are these bytes.
use Rattle.std.proofs.Common.{◌≡◌, ℕ, zero, suc, ◌+◌, ◌*◌, ◌/◌, ◌%◌, ◌^◌, ◌<◌, ◌≤◌, List, [], ◌∷◌, ◌++◌, length, take, drop, slice_index, refl, sym, ap, ◌∙◌, arith}
use Rattle.std.proofs.Math.Nat.{div-div-eq-div-mul, pow-succ'}
use Rattle.std.proofs.lemmas.List.{take-append-drop, drop-drop, get_or-drop, length-drop}
use Rattle.std.specs.Int.{byte_at, bytes_low_first}
use Rattle.byteorder.specs.Endian.{little_from, little_number, little_bytes}
use Rattle.byteorder.specs.Numbers.{little_from-cons}

-- byte j + 1 of a number is byte j of what is left above its lowest byte
byte_at-suc : (j a m : ℕ) → a < 256 → byte_at (suc j) (a + 256 * m) ≡ byte_at j m
byte_at-suc zero a m h = omega arith
byte_at-suc (suc j) a m h =
    let above : (a + 256 * m) / 256 ≡ m = omega arith in
    ap (λ (p : ℕ). (a + 256 * m) / p % 256) (pow-succ' 256 (suc j))
    ∙ ap (λ (q : ℕ). q % 256) (sym (div-div-eq-div-mul (a + 256 * m) 256 (256 ^ suc j)))
    ∙ ap (λ (q : ℕ). q / 256 ^ suc j % 256) above

bytes_low_first-suc : (j n a m : ℕ) → a < 256 → bytes_low_first (suc j) n (a + 256 * m) ≡ bytes_low_first j n m
bytes_low_first-suc j zero a m h = refl
bytes_low_first-suc j (suc n) a m h =
    ap (λ (b : ℕ). b ∷ bytes_low_first (suc (suc j)) n (a + 256 * m)) (byte_at-suc j a m h)
    ∙ ap (λ (bs : List ℕ). byte_at j m ∷ bs) (bytes_low_first-suc (suc j) n a m h)

-- the bytes of the number in the first n bytes are these n bytes
pub little_bytes-little_number : (n : ℕ) (xs : List ℕ) → ((k : ℕ) → slice_index xs k < 256) → n ≤ length xs
    → little_bytes n (little_number n xs) ≡ take n xs
little_bytes-little_number zero xs fits h = refl
little_bytes-little_number (suc n) [] fits h = absurd (omega arith)
little_bytes-little_number (suc n) (x ∷ xs) fits h =
    let low : x < 256 = fits 0 in
    let rest : little_from 1 n (x ∷ xs) ≡ little_number n xs = little_from-cons 0 n x xs in
    let first : (x + 256 * little_number n xs) % 256 ≡ x = omega arith in
    ap (λ (m : ℕ). little_bytes (suc n) (x + 256 * m)) rest
    ∙ ap (λ (b : ℕ). b ∷ bytes_low_first 1 n (x + 256 * little_number n xs)) first
    ∙ ap (λ (bs : List ℕ). x ∷ bs) (bytes_low_first-suc 0 n x (little_number n xs) low ∙ little_bytes-little_number n xs (λ k. fits (suc k)) (omega arith))

-- the bytes of the number at a place, followed by what stands after it, are all that stands from the place on
pub little_bytes-at : (i n j : ℕ) (xs : List ℕ) → ((k : ℕ) → slice_index xs k < 256) → j ≡ i + n → j ≤ length xs
    → little_bytes n (little_number n (drop i xs)) ++ drop j xs ≡ drop i xs
little_bytes-at i n j xs fits e h =
    let len = length-drop i xs in
    let fits_here : (k : ℕ) → slice_index (drop i xs) k < 256 = λ k. rw (get_or-drop i xs k 0) (fits (i + k)) in
    let here : little_bytes n (little_number n (drop i xs)) ≡ take n (drop i xs) = little_bytes-little_number n (drop i xs) fits_here (omega arith) in
    let after : drop j xs ≡ drop n (drop i xs) = ap (λ (k : ℕ). drop k xs) e ∙ sym (drop-drop n i xs) in
    ap (λ (bs : List ℕ). bs ++ drop j xs) here ∙ ap (λ (bs : List ℕ). take n (drop i xs) ++ bs) after ∙ take-append-drop n (drop i xs)
