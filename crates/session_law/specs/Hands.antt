-- What the hands of a session did for its records, over the whole histories. Hands have the numbers
-- below the client's.
use Rattle.std.specs.Prelude.{◌≡◌, ℕ, ◌+◌, ◌<◌, ◌≤◌, ◌==◌, true, false, List, filter, length}
use Rattle.std.specs.Prelude.{slice_get, Some}
use Rattle.host_intake.specs.Entries.{Landing, Taking, request_in}
use Rattle.host_intake.specs.Takings.{made}
use Rattle.host_model.specs.declared.memory.MemEntry.{MemEntry}
use Rattle.host_model.specs.declared.memory.MemEvent.TheVariants.{Release}
use Rattle.host_model.specs.declared.step.Step.{Step}
use Rattle.host_model.specs.declared.verdict.Verdict.TheVariants.{Accepted}
use Rattle.host_model.specs.RecordEntries.{index_of}
use Rattle.session_law.specs.Gathered.{ReleaseClosed}

-- record i ended so
abbrev pub Ended : List Landing → ℕ → Landing → Type 0
Ended ls i l = (k : ℕ) × (slice_get ls k ≡ Some l) × (l.index ≡ i)

-- A step of an accepted record, at a place not below the device front of the record's envelope, and
-- below that of its end.
pub record IsStepDone (ts : List Taking) (ls : List Landing) (p : ℕ) (step : Step) : Type 0 where
  pub taking : Taking
  pub stands : slice_get ts step.index ≡ Some taking
  pub accepted : taking.verdict ≡ Accepted
  pub front : taking.envelope.device_front ≤ p
  pub ended : (l : Landing) → Ended ls step.index l → p < l.end.device_front

-- What a hand did to the buffers for record i: it took the record, which was accepted and doesn't
-- wait. It stands behind what taking the record left, and below the memory front of the record's
-- end.
pub record IsMoveDone (ts : List Taking) (ls : List Landing) (hand p i : ℕ) : Type 0 where
  pub taking : Taking
  pub stands : slice_get ts i ≡ Some taking
  pub by : taking.hand ≡ hand
  pub waits : taking.waits ≡ false
  pub accepted : taking.verdict ≡ Accepted
  pub behind : taking.seen + length (made taking) ≤ p
  pub ended : (l : Landing) → Ended ls i l → p < l.end.memory_front

-- The end of a record that was taken so is past what taking it left; the end of a close that
-- waited, past the release too.
pub record IsEndPast (h : List MemEntry) (l : Landing) (t : Taking) : Type 0 where
  pub left : (m : ℕ) → m < length (made t) → t.seen + m < l.end.memory_front
  pub released : t.waits ≡ true
      → (p : ℕ) × (e : MemEntry) × (slice_get h p ≡ Some e)
      × (e.what ≡ Release (request_in t).vmoid) × (p < l.end.memory_front)

-- What hands do stands between the fronts of the record's envelope and those of its end. The
-- device's history is that of all sessions; this one has this number.
pub record KeepFronts (session client : ℕ) (ts : List Taking) (ls : List Landing)
    (h : List MemEntry) (steps : List Step) : Type 0 where
  pub steps_done : (p : ℕ) (step : Step) → slice_get steps p ≡ Some step → step.session ≡ session
      → IsStepDone ts ls p step
  pub moves_done : (p i : ℕ) (e : MemEntry) → slice_get h p ≡ Some e → e.hand < client
      → index_of e.what ≡ Some i → IsMoveDone ts ls e.hand p i
  pub ends_past : (k : ℕ) (l : Landing) (t : Taking) → slice_get ls k ≡ Some l
      → slice_get ts l.index ≡ Some t → IsEndPast h l t
  pub releases : ReleaseClosed client h

-- the steps of a session
abbrev pub steps_in : ℕ → List Step → List Step
steps_in session steps = filter (λ step. step.session == session) steps
