-- That blocks in one run of bytes, and writes that fit them, are of their number and size.
use Rattle.std.specs.Prelude.{◌≡◌, ℕ, ◌+◌, ◌*◌, ◌<◌, ◌≤◌, List, length, take, drop, All, refl}
use Rattle.std.proofs.Common.{zero, suc, ◌∙◌, ap, arith, length-drop}
use Rattle.std.proofs.lemmas.Nat.{mul-le}
use Rattle.std.proofs.lemmas.List.{drop-drop, length-take-le}
use Rattle.std.proofs.lemmas.List.Elements.{All-map, All-contains}
use Rattle.host_block.specs.Disk.{block_at, IsOfSize}
use Rattle.host_io.specs.Flat.{cut}
use Rattle.host_io.specs.Waiting.{pairs_of, IsFitting}
use Rattle.host_io.specs.declared.flat.Waiting.{Waiting}

-- a block lies within all blocks
pub block_fits : (b blocks size : ℕ) → b < blocks → b * size + size ≤ blocks * size
block_fits b blocks size below =
    let le : (b + 1) * size ≤ blocks * size = mul-le (b + 1) size blocks size (omega arith)
    (omega arith) in
    omega (arith, le)

pub length-cut : (size n : ℕ) (bytes : List ℕ) → length (cut size n bytes) ≡ n
length-cut size zero bytes = refl
length-cut size (suc n) bytes = ap suc (length-cut size n (drop size bytes))

-- block b stands at b times the size
pub block_at-cut : (size n b : ℕ) (bytes : List ℕ) → b < n
    → block_at (cut size n bytes) b ≡ take size (drop (b * size) bytes)
block_at-cut size zero b bytes below = absurd (omega arith)
block_at-cut size (suc n) zero bytes below =
    let none : 0 ≡ 0 * size = omega arith in ap (λ (k : ℕ). take size (drop k bytes)) none
block_at-cut size (suc n) (suc b) bytes below =
    let at : size + b * size ≡ suc b * size = omega arith in
    block_at-cut size n b (drop size bytes) (omega arith)
    ∙ ap (λ (l : List ℕ). take size l) (drop-drop (b * size) size bytes)
    ∙ ap (λ (k : ℕ). take size (drop k bytes)) at

pub cut_of_size : (blocks size : ℕ) (bytes : List ℕ) (waiting : List Waiting)
    → blocks * size ≤ length bytes → All (IsFitting blocks size) waiting
    → IsOfSize blocks size (record { durable = cut size blocks bytes; pending = pairs_of waiting })
cut_of_size blocks size bytes waiting whole fitting = record {
  count = length-cut size blocks bytes;
  each = λ b below. ap length (block_at-cut size blocks b bytes below) ∙ length-take-le size
      (drop (b * size) bytes)
      (omega (arith, length-drop (b * size) bytes, block_fits b blocks size below));
  pending = λ w there. All-contains (λ (w : ℕ × List ℕ). (w.0 < blocks) × (length w.1 ≡ size))
      (pairs_of waiting) w (All-map (λ (w : ℕ × List ℕ). (w.0 < blocks) × (length w.1 ≡ size))
      (λ (w : Waiting). (w.block, w.bytes)) waiting fitting) there;
}
