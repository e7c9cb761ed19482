-- What the client finds at the buffers, and leaves there.
use Rattle.std.specs.Prelude.{◌≡◌, ℕ, ◌≤◌, Bool, true, false, List, [], ◌∷◌, ◌++◌, length}
use Rattle.host_intake.specs.State.{MemorySeat}
use Rattle.host_memory.specs.Held.{has_blocks}
use Rattle.host_memory.specs.State.{events}
use Rattle.host_model.specs.declared.memory.MemEntry.{MemEntry}
use Rattle.host_model.specs.declared.memory.MemEvent.{MemEvent}
use Rattle.host_log.specs.History.{Continues}
use Rattle.host_turn.specs.Seats.{IsOutside, IsSameSeat, number, seen_by}

-- The client's seat entered and found the history h, which goes on from what the seat had seen,
-- with no entries of its own, and has at least so many entries. It left it with these.
pub record IsVisit (front : ℕ) (old new : MemorySeat) (h own : List MemEntry) : Type 0 where
  pub seat : IsSameSeat old new × IsOutside new
  pub later : Continues (λ e. e.hand) (number old) (seen_by old) h
  pub past : front ≤ length h
  pub left : seen_by new ≡ h ++ own

-- the client's entry
abbrev pub entry_by : ℕ → MemEvent → MemEntry
entry_by client what = record { hand = client; what = what }

-- it is made where something is done
abbrev pub entry_where : Bool → ℕ → MemEvent → List MemEntry
entry_where true client what = entry_by client what ∷ []
entry_where false client what = []

-- A fill or show found the blocks in its buffer, and has an entry; or it didn't, and has none.
pub record HasTried (front client id block count : ℕ) (what : MemEvent) (done : Bool)
    (old new : MemorySeat) : Type 0 where
  pub found : List MemEntry
  pub visit : IsVisit front old new found (entry_where done client what)
  pub answer : done ≡ has_blocks id (events found) block count
