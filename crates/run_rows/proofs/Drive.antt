-- The table of the small disk, and its partition.
use Rattle.std.proofs.Common.{◌≡◌, ◌≢◌, ℕ, zero, suc, ◌<◌, List, [], ◌∷◌, length, inl, inr, refl, arith, lit<, lit≤}
use Rattle.std.specs.Prelude.{replicate, slice_index_or, Contains, IsTrue, not}
use Rattle.host_gpt.specs.{AreUsed, entries_from, is_zero, units, used, Agrees, number_at, IsTable, IsValid, Entry, Primary}
use Rattle.host_part.specs.{IsRangeOf, Layout, Shares}
use Rattle.run_rows.specs.{header, partition}
use Rattle.run_rows.specs.Drive.{image}

abbrev pub entry : Entry
entry = record { number = 1; type_id = replicate 16 1; id = replicate 16 2; first = 3; last = 4; attributes = 0; name = 97 ∷ replicate 35 0 }

agrees : Agrees 1 header
unfolding number_at
agrees = record { begins = refl; long = omega arith; fits = omega arith; crc = refl; place = refl; entries = (0, refl) }

is_valid : IsValid image 1
unfolding number_at
is_valid = record {
  agrees = agrees;
  small = λ large. elim large [ inl many ↦ omega (arith, many) | inr long ↦ omega (arith, long) ];
  inside = λ k below. omega (arith, below);
  crc = refl;
}

pub is_table : IsTable image Primary (replicate 16 9) 3 4 (entry ∷ [])
unfolding number_at units used entries_from
is_table = record {
  chosen = (omega arith, is_valid);
  read = record { disk_id = refl; first_usable = refl; last_usable = refl; used = refl };
}

-- ---- the partition

abbrev pub layout : Layout
layout = record { first_usable = 3; last_usable = 4; blocks = 5; entries = entry ∷ [] }

-- its one entry is a used one
its_type : (k : ℕ) (e : Entry) → k < 1 → IsTrue (not (is_zero (slice_index_or (entry ∷ []) k e).type_id))
its_type zero e within = refl
its_type (suc k) e within = absurd (omega (arith, within))

pub are_used : AreUsed layout.entries
are_used = record { used = its_type; rising = λ k within. absurd (omega (arith, within)) }

-- the table has this entry alone
pub only_entry : (e : Entry) → Contains (entry ∷ []) e → entry ≡ e
only_entry e found = at found.0 found.1 found.2
  where
    at : (k : ℕ) → k < 1 → slice_index_or (entry ∷ []) k e ≡ e → entry ≡ e
    at zero within is = is
    at (suc k) within is = absurd (omega (arith, within))

alone : (k : ℕ) (e : Entry) → k < 1 → (slice_index_or (entry ∷ []) k e).number ≢ 1 → ¬ Shares entry (slice_index_or (entry ∷ []) k e)
alone zero e within other = absurd (other refl)
alone (suc k) e within other = absurd (omega (arith, within))

pub is_partition : IsRangeOf layout 1 partition
is_partition = record {
  entry = entry;
  is = record { listed = (0, lit< tt, refl); number = refl };
  served = record { above = lit≤ tt; order = lit≤ tt; below = lit≤ tt; inside = lit< tt; alone = alone };
  starts = refl;
  counts = refl;
}

-- each block has 512 bytes
pub is_of_size : (k : ℕ) (block : List ℕ) → k < 5 → length (slice_index_or image k block) ≡ 512
is_of_size zero block within = refl
is_of_size (suc zero) block within = refl
is_of_size (suc (suc zero)) block within = refl
is_of_size (suc (suc (suc zero))) block within = refl
is_of_size (suc (suc (suc (suc zero)))) block within = refl
is_of_size (suc (suc (suc (suc (suc k))))) block within = absurd (omega (arith, within))
