-- What a cache holds, and the calls that it makes.
use Rattle.std.specs.Prelude.{◌≡◌, ℕ, Some, None, List, [], ◌∷◌}
use Prim.Native.Nat.{zero, suc}
use Rattle.host_block.specs.Disk.{DiskState, fresh, done, failed, write}
use Rattle.host_cache.specs.Calls.{clean_line, dirty_line, victim_writes, with_room, dirty_below}
use Rattle.host_cache.specs.Calls.{write_calls, cleaned_below}
use Rattle.host_cache.specs.Held.{Held, cached, in_front}
use Rattle.host_cache.specs.declared.line.Line.{Line}

-- blocks 3 and 1 in the list, block 2 the victim, over four blocks of zeros
abbrev pub two : List (ℕ × Line)
two = (3, dirty_line (7 ∷ [])) ∷ (1, dirty_line (5 ∷ [])) ∷ []

abbrev pub zeros : DiskState
zeros = fresh ((0 ∷ []) ∷ (0 ∷ []) ∷ (0 ∷ []) ∷ (0 ∷ []) ∷ [])

abbrev pub held : Held
held = record { lines = two; victim = Some (record { block = 2; bytes = 8 ∷ [] }) }

-- dirty entries of the first n blocks, block 0 the least recently used
abbrev pub filled : ℕ → List (ℕ × Line)
filled zero = []
filled (suc n) = (n, dirty_line (n ∷ [])) ∷ filled n

pub record CacheIsAsWritten : Type 0 where
  pub content_on_disk : cached held zeros 0 ≡ 0 ∷ []
  pub content_in_list : cached held zeros 1 ≡ 5 ∷ []
  pub content_of_victim : cached held zeros 2 ≡ 8 ∷ []
  pub moved_to_front : in_front 1 (dirty_line (5 ∷ [])) two ≡ (1, dirty_line (5 ∷ []))
      ∷ (3, dirty_line (7 ∷ [])) ∷ []
  pub rising : dirty_below two 4 ≡ (1, 5 ∷ []) ∷ (3, 7 ∷ []) ∷ []
  pub rising_calls : write_calls done (dirty_below two 4) ≡ write 1 (5 ∷ []) done
      ∷ write 3 (7 ∷ []) done ∷ []
  pub clean_below_two : cleaned_below 2 two ≡ (3, dirty_line (7 ∷ [])) ∷ (1, clean_line (5 ∷ []))
      ∷ []
  pub victim_call : victim_writes held.victim failed ≡ write 2 (8 ∷ []) failed ∷ []
  pub evicted : (with_room (record { lines = filled 32; victim = None })).victim
      ≡ Some (record { block = 0; bytes = 0 ∷ [] })
  pub not_evicted : with_room (record { lines = filled 31; victim = None }) ≡ record {
    lines = filled 31;
    victim = None;
  }
