-- A buffer that a record holds, while the record is carried out.
use Rattle.std.specs.Prelude.{◌≡◌, ℕ, ◌+◌, ◌<◌, ◌≤◌, false, List, [], ◌∷◌, length, IsTrue, Option}
use Rattle.std.specs.Prelude.{Some, None, MatchOption}
use Rattle.std.specs.List.{list_any}
use Rattle.std.specs.Option.{ForSome}
use Rattle.atomic_table.specs.Seated.{TableId}
use Rattle.host_frames.specs.Seats.{SeenPages, contents, pages_pool}
use Rattle.host_intake.specs.State.{MemorySeat}
use Rattle.host_intake.specs.Takings.{under}
use Rattle.host_memory.specs.Held.{is_block_of}
use Rattle.host_memory.specs.Pins.{is_done_for, is_pin_by}
use Rattle.host_memory.specs.State.{events}
use Rattle.host_model.specs.declared.memory.MemEntry.{MemEntry}
use Rattle.host_model.specs.declared.memory.MemEvent.{MemEvent}
use Rattle.host_model.specs.declared.memory.MemEvent.TheVariants.{Done, Release}
use Rattle.host_log.specs.History.{entries_of}
use Rattle.host_turn.specs.Seats.{IsOutside, fixed_part, number, seat_book}
use Rattle.host_hand.specs.declared.errand.Errand.{Errand}
use Rattle.host_hand.specs.Frames.{released_by}
use Rattle.host_log.specs.Growth.{EachOwn, HasGrown}
use Rattle.host_hand.specs.Records.{HasReleasedBuffer, IsClosedBefore}

-- A seat at the buffers that has neither a ticket nor the turn, with this number; their pages are
-- so long.
pub record IsAtBuffers (book : TableId) (n size : ℕ) (seat : MemorySeat) : Type 0 where
  pub book_is : seat_book seat ≡ book
  pub outside : IsOutside seat
  pub number_is : number seat ≡ n
  pub size_is : ForSome (fixed_part seat) (λ plan. plan.limits.size ≡ size)

-- their pages are of this pool
abbrev pub IsOfPool : TableId × ℕ → MemorySeat → Type 0
IsOfPool pool seat = ForSome (fixed_part seat) (λ plan. plan.pool ≡ pool)

-- The record has pinned its buffer, for this hand; the hand hasn't let go of it; and all blocks of
-- the record are in it.
pub record IsHeld (e : Errand) (h : List MemEntry) : Type 0 where
  pub pinned : IsTrue (list_any (is_pin_by e.hand e.index e.request.vmoid) (events h))
  pub undone : list_any (is_done_for e.index) (events (entries_of (λ x. x.hand) e.hand h)) ≡ false
  pub blocks : (k : ℕ) → k < e.request.length
      → IsTrue (is_block_of e.request.vmoid (events h) (e.request.vmo_offset + k))

-- the release of buffer v, where pages came out
abbrev pub release_of : ℕ → Option (ℕ × SeenPages) → List MemEvent
release_of v None = []
release_of v (Some freed) = Release v ∷ []

-- how many pages came out
abbrev pub pages_freed : Option (ℕ × SeenPages) → ℕ
pages_freed None = 0
pages_freed (Some freed) = length (contents freed.1)

-- The pages are of this pool, and the close that waits for them, and the release, stand below the
-- front.
abbrev pub IsBufferFreed : Errand → TableId × ℕ → ℕ → List MemEntry → Option (ℕ × SeenPages)
    → Type 0
IsBufferFreed e pool front h freed =
    MatchOption freed (Unit {0})
    (λ f. (pages_pool f.1 ≡ pool) × HasReleasedBuffer e.hand f.0 e.request.vmoid front h)

-- The hand let go of the record's buffer. Where a close waited for that, the buffer's pages came
-- out.
pub record HasLetGo (e : Errand) (pool : TableId × ℕ) (front : ℕ) (old new : List MemEntry)
    (freed : Option (ℕ × SeenPages)) : Type 0 where
  pub grown : HasGrown (λ x. x.hand) e.hand e.memory_front front
      (under e.hand (Done e.index e.request.vmoid ∷ release_of e.request.vmoid freed)) old new
  pub is_freed : IsBufferFreed e pool front new freed
  pub closers : EachOwn (λ x. x.hand) e.hand (λ p x. length old ≤ p → IsClosedBefore new p x) new
  pub frames : released_by e.hand new ≡ released_by e.hand old + pages_freed freed
  pub front_is : front ≡ length new
