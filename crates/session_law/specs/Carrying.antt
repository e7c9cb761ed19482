-- How the hands of a session carried its records out, by the session's own steps.
use Rattle.std.specs.Prelude.{◌≡◌, ℕ, List, slice_get, IsTrue, Some}
use Rattle.host_block.specs.declared.range.Range.{Range}
use Rattle.host_model.specs.declared.memory.MemEntry.{MemEntry}
use Rattle.host_model.specs.declared.step.Step.{Step}
use Rattle.host_model.specs.Carrying.{asked, carries_out, outcome_of, steps_of}
use Rattle.host_intake.specs.Entries.{Landing, Taking, request_in}
use Rattle.host_session.specs.Moves.{moves_for, moves_owed}

-- A record that was taken so was carried out by the steps made for it, with their outcome, and what
-- its hand did to its buffer is what these steps ask for.
pub record IsLandingCarried (part : Range) (h : List MemEntry) (steps : List Step) (l : Landing)
    (t : Taking) : Type 0 where
  pub carried : IsTrue (carries_out (asked t.verdict part (request_in t)) (steps_of l.index steps))
  pub outcome : l.end.outcome
      ≡ outcome_of t.verdict (asked t.verdict part (request_in t)) (steps_of l.index steps)
  pub moved : moves_for t.hand l.index h
      ≡ moves_owed t.verdict l.end.outcome l.index (request_in t) (steps_of l.index steps)
      (moves_for t.hand l.index h)

-- each record that ended was carried out
abbrev pub AreCarried : Range → List MemEntry → List Step → List Taking → List Landing → Type 0
AreCarried part h steps ts ls =
    (k : ℕ) (l : Landing) (t : Taking) → slice_get ls k ≡ Some l → slice_get ts l.index ≡ Some t
    → IsLandingCarried part h steps l t
