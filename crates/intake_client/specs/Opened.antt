-- What a bench is made of.
use Rattle.std.specs.Prelude.{◌≡◌, ℕ, [], length, replicate, Some, true}
use Rattle.atomic_table.specs.Seated.{TableId}
use Rattle.host_frames.specs.Seats.{SeenPages, contents, pages_pool}
use Rattle.host_memory.specs.declared.limits.MemoryPlan.{MemoryPlan}
use Rattle.host_intake.specs.State.{MemorySeat}
use Rattle.host_turn.specs.Seats.{IsOutside, fixed_part, number, seat_book, seen_by}

-- the fixed part of its buffers
abbrev pub plan_for : ℕ → TableId × ℕ → MemoryPlan
plan_for size pool =
    record {
      limits = record
          { size = size; ids = 8; room = 64; records = 128; moves = 8; hands = 1; keeps = true };
      pool = pool;
    }

-- a new seat of that number at a book of such buffers
pub record IsSeatFor (book : TableId) (plan : MemoryPlan) (n : ℕ) (q : MemorySeat) : Type 0 where
  pub book_is : seat_book q ≡ book
  pub outside : IsOutside q
  pub number_is : number q ≡ n
  pub nothing : seen_by q ≡ []
  pub plan_is : fixed_part q ≡ Some plan

-- blank pages of this pool
pub record AreBlank (size : ℕ) (pool : TableId × ℕ) (p : SeenPages) : Type 0 where
  pub of_pool : pages_pool p ≡ pool
  pub zero : contents p ≡ replicate (length (contents p)) (replicate size 0)
