-- The frames of a word whose bits are set, and the claim bits.
use Rattle.std.proofs.Common.{◌≡◌, ◌≢◌, ℕ, zero, suc, ◌+◌, ◌-◌, ◌*◌, ◌/◌, ◌%◌, ◌^◌, ◌<◌, ◌≤◌, List, length, get_or, set, min, ◌∷◌, sym, refl, ap, ◌∙◌, bit_and, bit_or, get_or-set_same, get_or-set_other, arith}
use Rattle.std.specs.Int.{bit_at, bit_not, w64}
use Rattle.std.proofs.lemmas.Nat.{pow_below, mod_below, div_below}
use Rattle.std.proofs.lemmas.Nat.Bits.{bit_at-lt, bit_at_and, bit_at_or, bit_at_not, bit_at-zero, bit_at-pow_same, bit_at-pow_other}
use mathlib.Core.Logic.{dite}
use native.Mathlib.Decide.{ℕ_discrete}
use Rattle.host_frames.specs.{claim_bit, put_where, set_frames, frames_in, won_in}
use Rattle.host_log.specs.{same, occurrences}
use Rattle.host_log.proofs.Counts.{same_here, same_else}

-- ---- the frames of a word
count_put : (g b x : ℕ) (xs : List ℕ) → b < 2 → (same g x ≡ 0 → occurrences g (put_where b x xs) ≡ occurrences g xs) × (same g x ≡ 1 → occurrences g (put_where b x xs) ≡ b + occurrences g xs)
count_put g zero x xs lt = ((λ e. refl), λ e. omega arith)
count_put g (suc b) x xs lt = ((λ e. omega arith), λ e. omega arith)

length_put : (b x : ℕ) (xs : List ℕ) → b < 2 → length (put_where b x xs) ≡ b + length xs
length_put zero x xs lt = omega arith
length_put (suc b) x xs lt = omega arith

pub frames_from : (i n : ℕ) → frames_in i n ≡ set_frames i n 0 64
unfolding frames_in
frames_from i n = refl

module _ (i n : ℕ) where
  set_outside : (j k g : ℕ) → ((b : ℕ) → j ≤ b → b < j + k → g ≢ 64 * i + b) → occurrences g (set_frames i n j k) ≡ 0
  set_outside j zero g h = refl
  set_outside j (suc k) g h = let x : ℕ = 64 * i + j in let none = same_else g x (h j (omega arith) (omega arith)) in
      (count_put g (bit_at n j) x (set_frames i n (j + 1) k) (bit_at-lt n j)).0 none ∙ set_outside (j + 1) k g (λ b le lt. h b (omega arith) (omega arith))

  set_inside : (j k g b : ℕ) → g ≡ 64 * i + b → j ≤ b → b < j + k → occurrences g (set_frames i n j k) ≡ bit_at n b
  set_inside j zero g b e le lt = absurd (omega arith)
  set_inside j (suc k) g b e le lt = let x : ℕ = 64 * i + j in let rest : List ℕ = set_frames i n (j + 1) k in let put = count_put g (bit_at n j) x rest (bit_at-lt n j) in dite (ℕ_discrete b j)
      (λ here. let one : same g x ≡ 1 = ap (λ z. same g z) (let s : x ≡ g = omega arith in s) ∙ same_here g in let none = set_outside (j + 1) k g (λ c le' lt' no. absurd (omega arith)) in
      put.1 one ∙ (let s : bit_at n j + occurrences g rest ≡ bit_at n j = omega arith in s) ∙ ap (bit_at n) (sym here))
      (λ no. let none = same_else g x (λ s. no (omega arith)) in put.0 none ∙ set_inside (j + 1) k g b e (omega arith) (omega arith))

  pub in_word : (g : ℕ) → g / 64 ≡ i → occurrences g (frames_in i n) ≡ bit_at n (g % 64)
  in_word g here = ap (occurrences g) (frames_from i n) ∙ set_inside 0 64 g (g % 64) (omega arith) (omega arith) (mod_below g 64 (omega arith))

  pub not_in_word : (g : ℕ) → g / 64 ≢ i → occurrences g (frames_in i n) ≡ 0
  not_in_word g ne = ap (occurrences g) (frames_from i n) ∙ set_outside 0 64 g (λ b le lt e. ne (omega arith))

-- how many bits are set doesn't depend on the word
pub length_le : (i i' n n' j k : ℕ) → ((b : ℕ) → j ≤ b → b < j + k → bit_at n b ≤ bit_at n' b) → length (set_frames i n j k) ≤ length (set_frames i' n' j k)
length_le i i' n n' j zero h = omega arith
length_le i i' n n' j (suc k) h = let more = length_le i i' n n' (j + 1) k (λ b le lt. h b (omega arith) (omega arith)) in let here = h j (omega arith) (omega arith) in
    let a = length_put (bit_at n j) (64 * i + j) (set_frames i n (j + 1) k) (bit_at-lt n j) in let b = length_put (bit_at n' j) (64 * i' + j) (set_frames i' n' (j + 1) k) (bit_at-lt n' j) in omega arith

none_from : (i j k : ℕ) → length (set_frames i 0 j k) ≡ 0
none_from i j zero = refl
none_from i j (suc k) = let put = length_put (bit_at 0 j) (64 * i + j) (set_frames i 0 (j + 1) k) (bit_at-lt 0 j) in let none = bit_at-zero j in let more = none_from i (j + 1) k in omega arith

pub none_set : (i : ℕ) → length (frames_in i 0) ≡ 0
none_set i = ap length (frames_from i 0) ∙ none_from i 0 64

pub count_anywhere : (i i' n : ℕ) → length (frames_in i n) ≤ length (frames_in i' n)
count_anywhere i i' n = let le = length_le i i' n n 0 64 (λ b x y. omega arith) in let a = ap length (frames_from i n) in let b = ap length (frames_from i' n) in omega arith

-- one more bit
pub length_more : (i n n' c j k : ℕ) → ((b : ℕ) → b ≢ c → bit_at n' b ≡ bit_at n b) → length (set_frames i n' j k) ≤ length (set_frames i n j k) + 1
length_more i n n' c j zero h = omega arith
length_more i n n' c j (suc k) h = let a = length_put (bit_at n j) (64 * i + j) (set_frames i n (j + 1) k) (bit_at-lt n j) in let b = length_put (bit_at n' j) (64 * i + j) (set_frames i n' (j + 1) k) (bit_at-lt n' j) in dite (ℕ_discrete j c)
    (λ here. let more = length_le i i n' n (j + 1) k (λ d le lt. let e = h d (λ z. absurd (omega arith)) in omega arith) in let one = bit_at-lt n' j in omega arith)
    (λ no. let more = length_more i n n' c (j + 1) k h in let e = h j no in omega arith)

-- the first frame of a word
pub first_set : (i n j k : ℕ) → bit_at n j ≡ 1 → set_frames i n j (suc k) ≡ (64 * i + j) ∷ set_frames i n (j + 1) k
first_set i n j k e = ap (λ z. put_where z (64 * i + j) (set_frames i n (j + 1) k)) e

pub first_clear : (i n j k : ℕ) → bit_at n j ≡ 0 → set_frames i n j (suc k) ≡ set_frames i n (j + 1) k
first_clear i n j k e = ap (λ z. put_where z (64 * i + j) (set_frames i n (j + 1) k)) e

-- the same, up to the end of the word
pub next_set : (i n j : ℕ) → j < 64 → bit_at n j ≡ 1 → set_frames i n j (64 - j) ≡ (64 * i + j) ∷ set_frames i n (j + 1) (64 - (j + 1))
next_set i n j lt set = ap (set_frames i n j) (let e : 64 - j ≡ suc (64 - (j + 1)) = omega arith in e) ∙ first_set i n j (64 - (j + 1)) set

pub next_clear : (i n j : ℕ) → j < 64 → bit_at n j ≡ 0 → set_frames i n j (64 - j) ≡ set_frames i n (j + 1) (64 - (j + 1))
next_clear i n j lt clear = ap (set_frames i n j) (let e : 64 - j ≡ suc (64 - (j + 1)) = omega arith in e) ∙ first_clear i n j (64 - (j + 1)) clear

-- ---- claim bits
pub claim_bit_le : (ws : List ℕ) (f : ℕ) → claim_bit ws f ≤ 1
claim_bit_le ws f = let lt = bit_at-lt (get_or ws (f / 64) 0) (f % 64) in omega arith

-- a bit that is set is in a word of the list
pub claimed_word : (ws : List ℕ) (f : ℕ) → f < length ws * 64 → f / 64 < length ws
claimed_word ws f lt = div_below f 64 (length ws) (omega arith) lt

module _ (ws : List ℕ) (i : ℕ) where
  set_bit_here : (y g : ℕ) → i < length ws → g / 64 ≡ i → claim_bit (set ws i y) g ≡ bit_at y (g % 64)
  set_bit_here y g lt e = ap (λ z. bit_at (get_or (set ws i y) z 0) (g % 64)) e ∙ ap (λ z. bit_at z (g % 64)) (get_or-set_same ws i y 0 lt)

  set_bit_else : (y g : ℕ) → g / 64 ≢ i → claim_bit (set ws i y) g ≡ claim_bit ws g
  set_bit_else y g ne = ap (λ z. bit_at z (g % 64)) (get_or-set_other ws i (g / 64) y 0 ne)

  bit_here : (g : ℕ) → g / 64 ≡ i → claim_bit ws g ≡ bit_at (get_or ws i 0) (g % 64)
  bit_here g e = ap (λ z. bit_at (get_or ws z 0) (g % 64)) e

  -- the frames that are found taken are claimed
  pub found_taken : (g : ℕ) → occurrences g (frames_in i (get_or ws i 0)) ≤ claim_bit ws g
  found_taken g = dite (ℕ_discrete (g / 64) i)
      (λ e. let a = in_word i (get_or ws i 0) g e in let b = bit_here g e in omega arith)
      (λ no. let a = not_in_word i (get_or ws i 0) g no in omega arith)

  module _ (m : ℕ) where
    pub mask_taken : (g : ℕ) → occurrences g (frames_in i (bit_and m (get_or ws i 0))) ≤ claim_bit ws g
    mask_taken g = dite (ℕ_discrete (g / 64) i)
        (λ e. let a = in_word i (bit_and m (get_or ws i 0)) g e in let b = bit_here g e in let c = bit_at_and m (get_or ws i 0) (g % 64) in omega arith)
        (λ no. let a = not_in_word i (bit_and m (get_or ws i 0)) g no in omega arith)

    -- the bits that are set more are those of the frames that are won
    pub won_bits : (g : ℕ) → i < length ws → get_or ws i 0 < 18446744073709551616 → claim_bit (set ws i (bit_or (get_or ws i 0) m)) g ≡ claim_bit ws g + occurrences g (won_in i m (get_or ws i 0))
    won_bits g lt small = dite (ℕ_discrete (g / 64) i)
        (λ e. let y : ℕ = get_or ws i 0 in let b : ℕ = g % 64 in let low = mod_below g 64 (omega arith) in
        let now = set_bit_here (bit_or y m) g lt e in let or = bit_at_or y m b in let was = bit_here g e in let won = in_word i (bit_and m (bit_not w64 y)) g e in let and = bit_at_and m (bit_not w64 y) b in let not = bit_at_not w64 y b small low in
        let p = bit_at-lt y b in let q = bit_at-lt m b in omega arith)
        (λ no. let now = set_bit_else (bit_or (get_or ws i 0) m) g no in let none = not_in_word i (bit_and m (bit_not w64 (get_or ws i 0))) g no in omega arith)

-- a frame of the mask is won or found taken
pub met_bits : (i m y g : ℕ) → y < 18446744073709551616 → occurrences g (won_in i m y) + occurrences g (frames_in i (bit_and m y)) ≡ occurrences g (frames_in i m)
met_bits i m y g small = dite (ℕ_discrete (g / 64) i)
    (λ e. let b : ℕ = g % 64 in let low = mod_below g 64 (omega arith) in let won = in_word i (bit_and m (bit_not w64 y)) g e in let taken = in_word i (bit_and m y) g e in let all = in_word i m g e in
    let a = bit_at_and m (bit_not w64 y) b in let not = bit_at_not w64 y b small low in let c = bit_at_and m y b in let p = bit_at-lt y b in let q = bit_at-lt m b in omega arith)
    (λ no. let won = not_in_word i (bit_and m (bit_not w64 y)) g no in let taken = not_in_word i (bit_and m y) g no in let all = not_in_word i m g no in omega arith)

-- a mask wins no more than it has bits
pub won_le : (i m y : ℕ) → length (won_in i m y) ≤ length (frames_in i m)
won_le i m y = let few = length_le i i (bit_and m (bit_not w64 y)) m 0 64 (λ b le lt. let a = bit_at_and m (bit_not w64 y) b in omega arith) in let a = ap length (frames_from i (bit_and m (bit_not w64 y))) in let b = ap length (frames_from i m) in omega arith

-- all bits of a word but one
abbrev pub but : ℕ → ℕ
but j = bit_not w64 (2 ^ j)

module _ (ws : List ℕ) (f : ℕ) where
  abbrev pub cleared : List ℕ
  cleared = set ws (f / 64) (bit_and (get_or ws (f / 64) 0) (but (f % 64)))

  but_bit : (b : ℕ) → b < 64 → bit_at (bit_and (get_or ws (f / 64) 0) (but (f % 64))) b ≡ min (bit_at (get_or ws (f / 64) 0) b) (1 - bit_at (2 ^ (f % 64)) b)
  but_bit b lt = bit_at_and (get_or ws (f / 64) 0) (but (f % 64)) b ∙ ap (min (bit_at (get_or ws (f / 64) 0) b)) (bit_at_not w64 (2 ^ (f % 64)) b (pow_below (f % 64) 64 (mod_below f 64 (omega arith))) lt)

  pub cleared_here : f / 64 < length ws → claim_bit cleared f ≡ 0
  cleared_here lt = let now = set_bit_here ws (f / 64) (bit_and (get_or ws (f / 64) 0) (but (f % 64))) f lt refl in let b = but_bit (f % 64) (mod_below f 64 (omega arith)) in let one = bit_at-pow_same (f % 64) in omega arith

  pub cleared_else : (g : ℕ) → f / 64 < length ws → g ≢ f → claim_bit cleared g ≡ claim_bit ws g
  cleared_else g lt ne = dite (ℕ_discrete (g / 64) (f / 64))
      (λ e. let now = set_bit_here ws (f / 64) (bit_and (get_or ws (f / 64) 0) (but (f % 64))) g lt e in let was = bit_here ws (f / 64) g e in let b = but_bit (g % 64) (mod_below g 64 (omega arith)) in
      let other : g % 64 ≢ f % 64 = (λ s. ne (omega arith)) in let none = bit_at-pow_other (f % 64) (g % 64) other in let p = bit_at-lt (get_or ws (f / 64) 0) (g % 64) in omega arith)
      (λ no. set_bit_else ws (f / 64) (bit_and (get_or ws (f / 64) 0) (but (f % 64))) g no)
