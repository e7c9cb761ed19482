-- Which disk calls a call of a cache makes, in order, how it ends, and what it holds then.
use Prim.Native.Nat.{zero, suc}
use Rattle.std.specs.Prelude.{◌≡◌, ◌≢◌, ◌⊎◌, ℕ, ◌-◌, ◌<◌, ◌==◌, Bool, true, false, Option, Some}
use Rattle.std.specs.Prelude.{None, List, [], ◌∷◌, ◌++◌, length, take, map, replicate, nat_lt}
use Rattle.std.specs.Prelude.{slice_get, if◌then◌else◌}
use Rattle.host_block.specs.Disk.{Outcome, done, failed, refused, DiskCall, read, write, sync}
use Rattle.host_cache.specs.Held.{Held, line_at, in_front}
use Rattle.host_cache.specs.declared.line.Line.{Line}
use Rattle.host_cache.specs.declared.line.Victim.{Victim}
use Rattle.host_cache.specs.declared.line.TheConstants.{ENTRIES}

-- A rule ties what was held, the disk calls with their outcomes, how it ended, and what is held
-- then.
abbrev pub Rule : Type 1
Rule = Held → List DiskCall → Outcome → Held → Type 0

-- ---- one rule after the other

-- the first rule doesn't succeed, and so ends the call
pub record EndsEarly (first : Rule) (old : Held) (calls : List DiskCall) (outcome : Outcome)
    (new : Held) : Type 0 where
  pub ran : first old calls outcome new
  pub ended : outcome ≢ done

-- the first rule succeeds, and the second follows
pub record GoesOn (first second : Rule) (old : Held) (calls : List DiskCall) (outcome : Outcome)
    (new : Held) : Type 0 where
  pub mid : Held
  pub front : List DiskCall
  pub back : List DiskCall
  pub first_ran : first old front done mid
  pub second_ran : second mid back outcome new
  pub in_order : calls ≡ front ++ back

abbrev pub Then : Rule → Rule → Rule
Then first second old calls outcome new =
    EndsEarly first old calls outcome new ⊎ GoesOn first second old calls outcome new

-- ---- the victim

abbrev pub victim_writes : Option Victim → Outcome → List DiskCall
victim_writes None outcome = []
victim_writes (Some v) outcome = write v.block v.bytes outcome ∷ []

-- its place is empty once it is written
abbrev pub after_victim : Outcome → Held → Held
after_victim done held = record { lines = held.lines; victim = None }
after_victim failed held = held
after_victim refused held = held

-- The disk gets the victim, where there is one, which is gone once that write has succeeded.
pub record WritesVictim (old : Held) (calls : List DiskCall) (outcome : Outcome) (new : Held)
    : Type 0 where
  pub calls_are : calls ≡ victim_writes old.victim outcome
  pub idle : old.victim ≡ None → outcome ≡ done
  pub leaves : new ≡ after_victim outcome old

-- ---- room

-- an entry that leaves the list becomes the victim where it is dirty
abbrev pub victim_from : Option (ℕ × Line) → Option Victim
victim_from None = None
victim_from (Some e) = if e.1.dirty then Some (record { block = e.0; bytes = e.1.bytes }) else None

-- without the last entry, the least recently used, where the list is full
abbrev pub with_room : Held → Held
with_room held =
    if length held.lines == ENTRIES
    then record {
      lines = take (length held.lines - 1) held.lines;
      victim = victim_from (slice_get held.lines (length held.lines - 1));
    } else held

-- Where the list is full its last entry leaves it; a dirty one becomes the victim and is written.
abbrev pub MakesRoom : Rule
MakesRoom old calls outcome new = WritesVictim (with_room old) calls outcome new

-- ---- an entry put in front

abbrev pub put_lines : Outcome → ℕ → Line → List (ℕ × Line) → List (ℕ × Line)
put_lines done b line lines = in_front b line lines
put_lines failed b line lines = lines
put_lines refused b line lines = lines

-- The entry of block b is put in front without a disk call; only want of memory hinders it.
pub record PutsInFront (b : ℕ) (line : Line) (old : Held) (calls : List DiskCall)
    (outcome : Outcome) (new : Held) : Type 0 where
  pub calls_are : calls ≡ []
  pub not_failed : outcome ≢ failed
  pub leaves : new ≡ record { lines = put_lines outcome b line old.lines; victim = old.victim }

abbrev pub clean_line : List ℕ → Line
clean_line bytes = record { bytes = bytes; dirty = false }

abbrev pub dirty_line : List ℕ → Line
dirty_line bytes = record { bytes = bytes; dirty = true }

-- ---- a read that gives these bytes

-- The block is in the list: its bytes are given and it moves to the front, with no disk call.
pub record Finds (b : ℕ) (given : List ℕ) (line : Line) (old : Held) (calls : List DiskCall)
    (outcome : Outcome) (new : Held) : Type 0 where
  pub calls_are : calls ≡ []
  pub succeeds : outcome ≡ done
  pub bytes : given ≡ line.bytes
  pub leaves : new ≡ record { lines = in_front b line old.lines; victim = old.victim }

-- Block b is read from the disk.
pub record ReadsDisk (b : ℕ) (old : Held) (calls : List DiskCall) (outcome : Outcome) (new : Held)
    : Type 0 where
  pub calls_are : calls ≡ read b outcome ∷ []
  pub leaves : new ≡ old

-- A block that the list hasn't is read from the disk into a place in front, once there is room.
abbrev pub Loads : ℕ → List ℕ → Rule
Loads b given = Then MakesRoom (Then (ReadsDisk b) (PutsInFront b (clean_line given)))

abbrev pub GivesFound : ℕ → List ℕ → Option Line → Rule
GivesFound b given (Some line) = Finds b given line
GivesFound b given None = Loads b given

abbrev pub Gives : ℕ → List ℕ → Rule
Gives b given old calls outcome new = GivesFound b given (line_at old.lines b) old calls outcome new

abbrev pub IsRead : ℕ → List ℕ → Rule
IsRead b given = Then WritesVictim (Gives b given)

-- ---- a write of these bytes, and a trim

-- Nothing is done.
pub record Idles (old : Held) (calls : List DiskCall) (outcome : Outcome) (new : Held)
    : Type 0 where
  pub calls_are : calls ≡ []
  pub succeeds : outcome ≡ done
  pub leaves : new ≡ old

-- room is made for a block that the list hasn't
abbrev pub RoomUnless : Option Line → Rule
RoomUnless (Some line) = Idles
RoomUnless None = MakesRoom

abbrev pub MakesRoomFor : ℕ → Rule
MakesRoomFor b old calls outcome new = RoomUnless (line_at old.lines b) old calls outcome new

-- The victim is written, and room made for block b where it isn't in the list.
abbrev pub Prepares : ℕ → Rule
Prepares b = Then WritesVictim (MakesRoomFor b)

abbrev pub IsWrite : ℕ → List ℕ → Rule
IsWrite b bytes = Then (Prepares b) (PutsInFront b (dirty_line bytes))

abbrev pub IsTrim : ℕ → ℕ → Rule
IsTrim size b = IsWrite b (replicate size 0)

-- ---- a flush

abbrev pub is_dirty : Option Line → Bool
is_dirty None = false
is_dirty (Some line) = line.dirty

-- the write that the disk lacks for block b, where there is one
abbrev pub dirty_at : ℕ → Option Line → List (ℕ × List ℕ)
dirty_at b None = []
dirty_at b (Some line) = if line.dirty then (b, line.bytes) ∷ [] else []

-- the writes that the disk lacks for the first n blocks, by rising block number
abbrev pub dirty_below : List (ℕ × Line) → ℕ → List (ℕ × List ℕ)
dirty_below lines zero = []
dirty_below lines (suc b) = dirty_below lines b ++ dirty_at b (line_at lines b)

-- the entries of the first n blocks are clean
abbrev pub cleaned_below : ℕ → List (ℕ × Line) → List (ℕ × Line)
cleaned_below n lines = map (λ e. (e.0, (if nat_lt e.0 n then clean_line e.1.bytes else e.1))) lines

-- calls that make these writes, and end in this way
abbrev pub write_calls : Outcome → List (ℕ × List ℕ) → List DiskCall
write_calls outcome writes = map (λ w. write w.0 w.1 outcome) writes

-- the entry of block b is clean
abbrev pub cleaned_at : ℕ → List (ℕ × Line) → List (ℕ × Line)
cleaned_at b lines = map (λ e. (e.0, (if e.0 == b then clean_line e.1.bytes else e.1))) lines

abbrev pub clean_lines : Outcome → ℕ → List (ℕ × Line) → List (ℕ × Line)
clean_lines done b lines = cleaned_at b lines
clean_lines failed b lines = lines
clean_lines refused b lines = lines

-- A dirty entry is written, and is clean once the write succeeded.
pub record Cleans (b : ℕ) (old : Held) (calls : List DiskCall) (outcome : Outcome) (new : Held)
    : Type 0 where
  pub calls_are : calls ≡ write_calls outcome (dirty_at b (line_at old.lines b))
  pub leaves : new ≡ record { lines = clean_lines outcome b old.lines; victim = old.victim }

-- all dirty entries are written, and are clean
pub record WritesAll (blocks : ℕ) (old : Held) (calls : List DiskCall) (outcome : Outcome)
    (new : Held) : Type 0 where
  pub calls_are : calls ≡ write_calls done (dirty_below old.lines blocks)
  pub succeeds : outcome ≡ done
  pub leaves : new ≡ record { lines = cleaned_below blocks old.lines; victim = old.victim }

-- the write of block b doesn't succeed; the dirty entries before it were written, and are clean
pub record StopsAt (blocks b : ℕ) (old : Held) (calls : List DiskCall) (outcome : Outcome)
    (new : Held) : Type 0 where
  pub within : b < blocks
  pub dirty : is_dirty (line_at old.lines b) ≡ true
  pub calls_are : calls
      ≡ write_calls done (dirty_below old.lines b)
      ++ write_calls outcome (dirty_at b (line_at old.lines b))
  pub ended : outcome ≢ done
  pub leaves : new ≡ record { lines = cleaned_below b old.lines; victim = old.victim }

-- The dirty blocks go to the disk one by one, the lowest number first, and each that got there is
-- clean.
abbrev pub WritesDirty : ℕ → Rule
WritesDirty blocks old calls outcome new =
    WritesAll blocks old calls outcome new ⊎ ((b : ℕ) × StopsAt blocks b old calls outcome new)

-- The disk is synced once.
pub record Syncs (old : Held) (calls : List DiskCall) (outcome : Outcome) (new : Held)
    : Type 0 where
  pub calls_are : calls ≡ sync outcome ∷ []
  pub leaves : new ≡ old

abbrev pub IsFlush : ℕ → Rule
IsFlush blocks = Then WritesVictim (Then (WritesDirty blocks) Syncs)
