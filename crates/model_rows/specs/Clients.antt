-- The course of a client: it attaches a buffer, sends a read, receives its answer, fills the
-- buffer, and is shown none of another.
use Rattle.std.specs.Prelude.{◌≡◌, ℕ, Bool, true, false, List, [], ◌∷◌, ◌++◌, take, Some, None}
use Rattle.host_intake.specs.Admissions.{taking_entry}
use Rattle.host_intake.specs.Answers.{lone_slip}
use Rattle.host_intake.specs.Takings.{under}
use Rattle.host_intake.specs.declared.entry.IntakeEntry.{IntakeEntry}
use Rattle.host_intake.specs.declared.entry.IntakeEntry.TheVariants.{Landed, Passed}
use Rattle.host_model.specs.declared.event.Event.{Event}
use Rattle.host_model.specs.declared.event.Event.TheVariants.{Attached, Filled, Shown, Sent}
use Rattle.host_model.specs.declared.event.Event.TheVariants.{Received}
use Rattle.host_model.specs.declared.memory.MemEntry.{MemEntry}
use Rattle.host_model.specs.declared.memory.MemEvent.TheVariants as mem
use Rattle.host_record.specs.declared.finish.Finish.TheVariants.{Drain, Abort}
use Rattle.host_record.specs.declared.status.Status.TheVariants as status
use Rattle.host_rings.specs.declared.slip.Slip.{Slip}
use Rattle.host_session.specs.Acts.{Act, AreLate, IsAct, IsCourse}
use Rattle.host_session.specs.Endings.{is_undone}
use Rattle.host_session.specs.declared.fronts.Fronts.{Fronts}
use Rattle.model_rows.specs.Intakes.{asked, ended, read, sent}

-- ---- a course
abbrev pub fronts : ℕ → ℕ → Fronts
fronts device memory = record { device = device; memory = memory }

-- the answer to the read, which ended after three entries of the device
abbrev pub answer : Slip
answer = record (lone_slip (asked 1 10 0 1) 0 (ended status.Ok)) {
  device_front = 3;
  memory_front = 1;
}

-- an answer to a record that was never sent
abbrev pub other : Slip
other = record answer { index = 5 }

abbrev pub log : List Event
log = Attached 2 1 ∷ Sent 0 (sent 0 (asked 1 10 0 1)).bytes ∷ Received answer.bytes
    ∷ Filled 1 0 1 7 true ∷ Shown 9 0 1 false [] ∷ []

abbrev pub buffers : List MemEntry
buffers = under 1 (mem.Attach 1 2 0 ∷ mem.Fill 1 0 1 7 ∷ [])

abbrev pub attaching : Act
attaching = record { event = Attached 2 1; envelope = None; slip = None; fronts = fronts 0 1 }

abbrev pub sending : Act
sending = record {
  event = Sent 0 (sent 0 (asked 1 10 0 1)).bytes;
  envelope = Some (sent 0 (asked 1 10 0 1));
  slip = None;
  fronts = fronts 0 1;
}

abbrev pub receiving : Act
receiving = record {
  event = Received answer.bytes;
  envelope = None;
  slip = Some answer;
  fronts = fronts 3 1;
}

abbrev pub filling : Act
filling = record { event = Filled 1 0 1 7 true; envelope = None; slip = None; fronts = fronts 3 2 }

abbrev pub looking : Act
looking = record { event = Shown 9 0 1 false []; envelope = None; slip = None; fronts = fronts 3 2 }

abbrev pub acts : List Act
acts = attaching ∷ sending ∷ receiving ∷ filling ∷ looking ∷ []

-- ---- what keeps a session from being closed
abbrev pub landed : Bool → List IntakeEntry
landed kept = taking_entry read ∷ Landed 0 0 (ended status.Ok) (Some answer) kept ∷ []

pub record ClientsAreAsWritten : Type 0 where
  pub attaches : IsAct buffers [] attaching
  pub sends : IsAct buffers (take 1 acts) sending
  pub receives : IsAct buffers (take 2 acts) receiving
  pub fills : IsAct buffers (take 3 acts) filling
  pub finds_none : IsAct buffers (take 4 acts) looking
  pub course : IsCourse log (sent 0 (asked 1 10 0 1) ∷ []) (other ∷ answer
      ∷ []) buffers (fronts 3 2) acts
  -- a front that an answer showed is left out of the next envelope
  pub forgetful :
      ¬ IsAct buffers (take 3 acts) (record {
        event = Sent 1 (sent 1 (asked 3 11 0 0)).bytes;
        envelope = Some (sent 1 (asked 3 11 0 0));
        slip = None;
        fronts = fronts 0 1;
      })
  -- an answer is received before its record was sent
  pub too_early : ¬ IsAct buffers (take 1 acts) receiving
  -- a fill stands where the client had looked before
  pub in_the_past : ¬ IsAct buffers (take 3 acts) (record filling { fronts = fronts 3 1 })
  -- a fill is refused, though the buffer has the block
  pub wrongly_refused : ¬ IsAct buffers (take 3 acts) (record filling {
    event = Filled 1 0 1 7 false;
  })
  -- a buffer is released before a place that a received answer showed
  pub released_early : ¬ AreLate 1 [] (under 1 (mem.Release 1 ∷ [])) (attaching ∷ sending
      ∷ receiving ∷ [])
  -- a record in flight, an answer kept, a pin: after a drain and after an abort
  pub undone : (is_undone (Some Abort) (take 2 log) (taking_entry read ∷ []) [] ≡ true)
      × (is_undone (Some Abort) (take 2 log) (landed true) [] ≡ true)
      × (is_undone (Some Abort) (take 2 log) (landed false) (under 2 (mem.Pin 0 1 0 ∷ [])) ≡ true)
  -- a record that wasn't taken, or an answer that wasn't received: after a drain alone
  pub undone_after_a_drain : (is_undone (Some Drain) (take 2 log) [] [] ≡ true)
      × (is_undone (Some Abort) (take 2 log) [] [] ≡ false)
      × (is_undone (Some Drain) (take 2 log) (landed false) [] ≡ true)
      × (is_undone (Some Abort) (take 2 log) (landed false) [] ≡ false)
  pub done : is_undone (Some Drain) log (landed true ++ Passed 0 ∷ []) (under 2 (mem.Pin 0 1 0 ∷ [])
      ++ under 0 (mem.Done 0 1 ∷ [])) ≡ false
