-- The course of a client end: each event of its log, with what came with it and what the end knew
-- after it.
use Rattle.std.specs.Prelude.{◌≡◌, ℕ, ◌-◌, ◌≤◌, ◌<◌, Bool, true, false, ◌&&◌, nat_lt, if◌then◌else◌}
use Rattle.std.specs.Prelude.{is_some, IsTrue, List, [], ◌∷◌, map, length, take, filter, filter_map}
use Rattle.std.specs.Prelude.{slice_get, Option, Some, None}
use Rattle.host_model.specs.declared.event.Event.{Event}
use Rattle.host_model.specs.declared.event.Event.TheVariants.{Attached, Filled, Shown, Sent}
use Rattle.host_model.specs.declared.event.Event.TheVariants.{Received, Drained}
use Rattle.host_model.specs.declared.memory.MemEntry.{MemEntry}
use Rattle.host_model.specs.ClientEntries.{is_client}
use Rattle.host_model.specs.Groups.{owed}
use Rattle.host_model.specs.Lists.{below, last, places}
use Rattle.host_model.specs.Log.{received, requests, sent}
use Rattle.host_intake.specs.declared.entry.IntakeEntry.{IntakeEntry}
use Rattle.host_intake.specs.Told.{memory_front_in}
use Rattle.host_memory.specs.Held.{has_blocks}
use Rattle.host_memory.specs.State.{events}
use Rattle.host_record.specs.Response.{response_of}
use Rattle.host_rings.specs.declared.envelope.Envelope.{Envelope}
use Rattle.host_rings.specs.declared.slip.Slip.{Slip}
use Rattle.host_session.specs.declared.fronts.Fronts.{Fronts}
use Rattle.host_session.specs.Client.{AreWithin, no_fronts, slip_fronts}
use Rattle.host_session.specs.Told.{is_release}

pub record Act : Type 0 where
  pub event : Event
  -- the envelope of a record that was sent, the slip of an answer that was received
  pub envelope : Option Envelope
  pub slip : Option Slip
  -- how long the end then knew both histories to be
  pub fronts : Fronts

abbrev pub log_of : List Act → List Event
log_of acts = map (λ a. a.event) acts

abbrev pub envelopes_of : List Act → List Envelope
envelopes_of acts = filter_map (λ a. a.envelope) acts

abbrev pub slips_of : List Act → List Slip
slips_of acts = filter_map (λ a. a.slip) acts

abbrev pub fronts_after : List Act → Fronts
fronts_after acts = last no_fronts (map (λ a. a.fronts) acts)

-- ---- one act

-- an event that has an entry in the buffer history
abbrev pub has_entry : Event → Bool
has_entry (Attached pages id) = true
has_entry (Filled id block count byte done) = done
has_entry (Shown id block count done bytes) = done
has_entry _ = false

-- where that entry stands: it is the last that the end then knew of
abbrev pub entry_place : Act → Option ℕ
entry_place a = if has_entry a.event then Some (a.fronts.memory - 1) else None

abbrev pub is_drain_event : Event → Bool
is_drain_event Drained = true
is_drain_event _ = false

-- nothing came with it, and the end then knew no less than before
pub record IsPlain (known : Fronts) (a : Act) : Type 0 where
  pub envelope : a.envelope ≡ None
  pub slip : a.slip ≡ None
  pub fronts : AreWithin known a.fronts

-- Its entry stands at a place not below the front known before.
pub record HasPlace (known : Fronts) (a : Act) : Type 0 where
  pub plain : IsPlain known a
  pub past : known.memory < a.fronts.memory

-- It found no such blocks in the buffer, in the history up to what the end then knew.
pub record FoundNoBlocks (h : List MemEntry) (known : Fronts) (a : Act) (id block count : ℕ)
    : Type 0 where
  pub plain : IsPlain known a
  pub within : a.fronts.memory ≤ length h
  pub none : has_blocks id (events (take a.fronts.memory h)) block count ≡ false

-- the envelope of the next record, with these fronts
abbrev pub next_envelope : List Event → List ℕ → Fronts → Envelope
next_envelope log bytes f =
    record {
      bytes = bytes;
      index = length (sent log);
      device_front = f.device;
      memory_front = f.memory;
    }

-- Its envelope has the fronts that the end knew.
pub record IsSending (before : List Act) (a : Act) (index : ℕ) (bytes : List ℕ) : Type 0 where
  pub next : index ≡ length (sent (log_of before))
  pub envelope : a.envelope ≡ Some (next_envelope (log_of before) bytes a.fronts)
  pub slip : a.slip ≡ None
  pub fronts : AreWithin (fronts_after before) a.fronts

-- a slip that answers one of the records sent so far
abbrev pub is_answer : ℕ → Slip → Bool
is_answer sent s = nat_lt s.index sent && is_some (response_of s.bytes)

-- Its slip answers a record that was sent before, and the end then knew the slip's fronts.
pub record IsReceiving (before : List Act) (a : Act) (bytes : List ℕ) : Type 0 where
  pub received : Slip
  pub slip : a.slip ≡ Some received
  pub bytes_are : received.bytes ≡ bytes
  pub answer : IsTrue (is_answer (length (sent (log_of before))) received)
  pub envelope : a.envelope ≡ None
  pub fronts : AreWithin (fronts_after before) a.fronts
  pub raised : AreWithin (slip_fronts received) a.fronts

-- no fewer answers were received than are owed
pub record IsDrain (before : List Act) (a : Act) : Type 0 where
  pub plain : IsPlain (fronts_after before) a
  pub answered : length (owed (requests (log_of before))) ≤ length (received (log_of before))

-- an event after these acts, where the client has seen the buffer history h
abbrev pub IsEventAfter : List MemEntry → List Act → Act → Event → Type 0
IsEventAfter h before a (Attached pages id) = HasPlace (fronts_after before) a
IsEventAfter h before a (Filled id block count byte true) = HasPlace (fronts_after before) a
IsEventAfter h before a (Filled id block count byte false) =
    FoundNoBlocks h (fronts_after before) a id block count
IsEventAfter h before a (Shown id block count true bytes) = HasPlace (fronts_after before) a
IsEventAfter h before a (Shown id block count false bytes) =
    FoundNoBlocks h (fronts_after before) a id block count
IsEventAfter h before a (Sent index bytes) = IsSending before a index bytes
IsEventAfter h before a (Received bytes) = IsReceiving before a bytes
IsEventAfter h before a Drained = IsDrain before a
IsEventAfter h before a _ = IsPlain (fronts_after before) a

abbrev pub IsAct : List MemEntry → List Act → Act → Type 0
IsAct h before a = IsEventAfter h before a a.event

-- ---- the course

-- the first list has some elements of the second, in their order
pub record IsPart {A : Type 0} (some all : List A) : Type 0 where
  pub marked : List (A × Bool)
  pub all_are : map (λ m. m.0) marked ≡ all
  pub some_are : map (λ m. m.0) (filter (λ m. m.1) marked) ≡ some

-- The acts of a client end that has this log, pushed these envelopes, took these slips, has seen
-- the buffer history h, and knows these fronts. Slips that answer no record sent before were thrown
-- away.
pub record IsCourse (log : List Event) (pushed : List Envelope) (taken : List Slip)
    (h : List MemEntry) (known : Fronts) (acts : List Act) : Type 0 where
  pub events_are : log_of acts ≡ log
  pub envelopes : envelopes_of acts ≡ pushed
  pub sent : map (λ (e : Envelope). e.bytes) pushed ≡ sent log
  pub numbered : map (λ (e : Envelope). e.index) pushed ≡ below (length pushed)
  pub slips : IsPart (slips_of acts) taken
  pub received : map (λ (s : Slip). s.bytes) (slips_of acts) ≡ received log
  pub fronts : AreWithin (fronts_after acts) known
  pub places : places is_client (events h) ≡ filter_map entry_place acts
  pub each : (n : ℕ) (a : Act) → slice_get acts n ≡ Some a → IsAct h (take n acts) a

-- ---- the client's releases

abbrev pub is_drain_act : Act → Bool
is_drain_act a = is_drain_event a.event

-- the acts before the session was closed after a drain
abbrev pub before_drained : List Act → List Act
before_drained [] = []
before_drained (a ∷ acts) = if is_drain_act a then [] else a ∷ before_drained acts

-- Each release that the client made stands at a place not below the fronts of the slips received
-- before, and not below what any verdict was judged on.
abbrev pub AreLate : ℕ → List IntakeEntry → List MemEntry → List Act → Type 0
AreLate client es h acts =
    (n : ℕ) (e : MemEntry) → slice_get h n ≡ Some e → e.hand ≡ client → is_release e.what ≡ true
    → ((fronts_after (before_drained acts)).memory ≤ n) × (memory_front_in es ≤ n)
