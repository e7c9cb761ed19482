-- The disk model on small values.
use Rattle.std.proofs.Common.{ℕ, ◌<◌, zero, suc, inl, inr, [], ◌∷◌, refl, arith}
use Rattle.host_block.specs.{IsVersion, IsCrashImage, block_at, added, fresh, IsCandidate, IsCrashOf, IsCrashInside}
use Rattle.model_rows.specs.Disk.{image, history}
use Rattle.model_rows.specs.{disk, DisksAreAsWritten}

left_over : IsCrashOf disk ((1 ∷ 1 ∷ []) ∷ (3 ∷ 3 ∷ []) ∷ [])
left_over = record { blocks = refl; each = each }
  where
    each : (b : ℕ) → b < 2 → IsCandidate disk b (block_at ((1 ∷ 1 ∷ []) ∷ (3 ∷ 3 ∷ []) ∷ []) b)
    each zero within = inl refl
    each (suc zero) within = inr (0, omega arith, refl)
    each (suc (suc b)) within = absurd (omega arith)

left_inside : IsCrashInside (fresh image) (added (fresh image) 1 (3 ∷ 3 ∷ [])) ((1 ∷ 1 ∷ [])
    ∷ (3 ∷ 3 ∷ []) ∷ [])
left_inside = inr (record { blocks = refl; each = each })
  where
    each : (b : ℕ) → b < 2
        → IsCandidate (added (fresh image) 1 (3 ∷ 3 ∷ [])) b (block_at ((1 ∷ 1 ∷ []) ∷ (3 ∷ 3 ∷ [])
        ∷ []) b)
    each zero within = inl refl
    each (suc zero) within = inr (0, omega arith, refl)
    each (suc (suc b)) within = absurd (omega arith)

left_after : IsCrashImage image history ((7 ∷ 7 ∷ []) ∷ (2 ∷ 2 ∷ []) ∷ [])
left_after = record { blocks = refl; each = each }
  where
    each : (b : ℕ) → b < 2
        → IsVersion image history b (block_at ((7 ∷ 7 ∷ []) ∷ (2 ∷ 2 ∷ []) ∷ []) b)
    each zero within = record {
      place = 2;
      after_barrier = omega arith;
      within = omega arith;
      is = refl;
    }
    each (suc zero) within = record {
      place = 3;
      after_barrier = omega arith;
      within = omega arith;
      is = refl;
    }
    each (suc (suc b)) within = absurd (omega arith)

pub disks_are_as_written : DisksAreAsWritten
disks_are_as_written = record {
  last_within = (omega arith, omega arith);
  one_past = λ w. omega (arith, w.1);
  far_past = λ w. omega (arith, w.1);
  all_within = (omega arith, omega arith);
  longer_than_all = λ w. omega (arith, w.0);
  begins = (3 ∷ [], refl);
  two_more_fit = refl;
  last_write = refl;
  half_synced = refl;
  all_synced = refl;
  write_lost = inl refl;
  write_there = inr refl;
  sync_half = (1, refl);
  first_pick = refl;
  far_pick = refl;
  no_pick = refl;
  left_over = left_over;
  left_inside = left_inside;
  at_start = refl;
  written = refl;
  trimmed = refl;
  before_trim = refl;
  flushed = refl;
  never_flushed = refl;
  left_after = left_after;
  largest_size = inr (inr (inr refl));
  size_between = λ size. elim size [
    | inl e ↦ omega (arith, e)
    | inr (inl e) ↦ omega (
      arith,
      e,
    )
    | inr (inr (inl e)) ↦ omega (arith, e)
    | inr (inr (inr e)) ↦ omega (arith, e)
  ];
  too_large = λ size. elim size [
    | inl e ↦ omega (arith, e)
    | inr (inl e) ↦ omega (
      arith,
      e,
    )
    | inr (inr (inl e)) ↦ omega (arith, e)
    | inr (inr (inr e)) ↦ omega (arith, e)
  ];
}
