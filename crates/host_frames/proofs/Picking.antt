-- A mask of the lowest clear bits of a word.
use Rattle.std.proofs.Common.{◌≡◌, ◌≢◌, ◌+◌, ◌*◌, ◌%◌, ◌^◌, ◌<◌, ◌≤◌, ℕ, length, sym, ap, ◌∙◌, bit_and, bit_or, arith}
use Rattle.std.specs.Int.{bit_at, w64}
use Rattle.std.proofs.lemmas.Nat.{one_shl}
use Rattle.std.proofs.lemmas.Nat.Bits.{bit_at-lt, bit_at-zero, bit_at_and, bit_at-pow_same, and_pow, bit_at_set_same, bit_at_set_other}
use mathlib.Core.Logic.{dite}
use native.Mathlib.Decide.{ℕ_discrete}
use Rattle.host_frames.specs.{frames_in, IsPick}
use Rattle.host_frames.proofs.Bits.{frames_from, length_more}

module _ (n j : ℕ) (low : j < 64) where
  -- the test `n & 1 << j`
  pub is_clear : bit_and n (1 * 2 ^ j % 2 ^ 64) ≡ 0 → bit_at n j ≡ 0
  is_clear e = let none : bit_at (bit_and n (2 ^ j)) j ≡ 0 = ap (λ m. bit_at (bit_and n m) j) (sym (one_shl j 64 low)) ∙ (ap (λ z. bit_at z j) e ∙ bit_at-zero j) in let a = bit_at_and n (2 ^ j) j in let p = bit_at-pow_same j in omega arith

  pub is_set : bit_and n (1 * 2 ^ j % 2 ^ 64) ≢ 0 → bit_at n j ≡ 1
  is_set ne = dite (ℕ_discrete (bit_at n j) 0)
      (λ e. absurd (ne (ap (bit_and n) (one_shl j 64 low) ∙ (and_pow n j ∙ (ap (λ d. d * 2 ^ j) e ∙ (let z : 0 * 2 ^ j ≡ 0 = omega arith in z))))))
      (λ no. let lt = bit_at-lt n j in omega arith)

-- no bit yet
pub pick_starts : (n from : ℕ) → IsPick n from from 0
pick_starts n from b = ((λ le lt. absurd (omega arith)), (λ lt. bit_at-zero b), λ le. bit_at-zero b)

-- a clear bit is taken
pub pick_takes : (n from j mask : ℕ) → j < 64 → from ≤ j → bit_at n j ≡ 0 → IsPick n from j mask → IsPick n from (j + 1) (bit_or mask (1 * 2 ^ j % 2 ^ 64))
pick_takes n from j mask low le clear h b = let old = h b in dite (ℕ_discrete b j)
    (λ e. let new = ap (bit_at (bit_or mask (1 * 2 ^ j % 2 ^ 64))) e ∙ bit_at_set_same w64 mask j low in let was = ap (bit_at n) e ∙ clear in ((λ x y. omega arith), (λ x. absurd (omega arith)), λ x. absurd (omega arith)))
    (λ ne. let same = bit_at_set_other w64 mask j low b ne in ((λ x y. let z = old.0 x (omega arith) in omega arith), (λ x. same ∙ old.1 x), λ x. same ∙ old.2 (omega arith)))

-- a set bit is passed
pub pick_passes : (n from j mask : ℕ) → from ≤ j → bit_at n j ≡ 1 → IsPick n from j mask → IsPick n from (j + 1) mask
pick_passes n from j mask le set h b = let old = h b in dite (ℕ_discrete b j)
    (λ e. let none = old.2 (omega arith) in let was = ap (bit_at n) e ∙ set in ((λ x y. omega arith), (λ x. old.1 x), λ x. none))
    (λ ne. ((λ x y. old.0 x (omega arith)), old.1, λ x. old.2 (omega arith)))

pub pick_counts : (mask j : ℕ) → j < 64 → length (frames_in 0 (bit_or mask (1 * 2 ^ j % 2 ^ 64))) ≤ length (frames_in 0 mask) + 1
pick_counts mask j low = let more = length_more 0 mask (bit_or mask (1 * 2 ^ j % 2 ^ 64)) j 0 64 (λ b ne. bit_at_set_other w64 mask j low b ne) in let a = ap length (frames_from 0 (bit_or mask (1 * 2 ^ j % 2 ^ 64))) in let b = ap length (frames_from 0 mask) in omega arith
