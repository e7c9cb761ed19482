-- A write or trim that ended well was made in each of its blocks, and is kept there.
use Rattle.std.proofs.Common.{◌≡◌, ℕ, ◌+◌, ◌<◌, ◌==◌, true, List, Some}
use Rattle.std.specs.List.{slice_get}
use Rattle.std.proofs.lemmas.Bool.{eqb-true}
use Rattle.host_block.proofs.Places.{from_filter}
use Rattle.host_record.specs.{Opcode, Flush}
use Rattle.host_model.specs.{Step, IsLawfulSession, request_at, requests, sending, HadBefore}
use Rattle.host_report.specs.{Report, SessionReport, IsLawful, session_of}
use Rattle.crash_law.specs.{EndedWritesSurvive, HasSurvived, HasSucceeded, changes_blocks, KeepsFlushed, WasFlushed, WroteBlock}
use Rattle.crash_law.proofs.Steps.{flushing, writing}
use Rattle.crash_law.proofs.Survival.{session_lawful}

module _ (image : List (List ℕ)) (report : Report) (left : List (List ℕ)) (lawful : IsLawful image report) (keeps : KeepsFlushed image report report.steps.items left)
    (n : ℕ) (e : SessionReport) (there : slice_get report.sessions.items n ≡ Some e) where
  is_lawful : IsLawfulSession (session_of report e)
  is_lawful = session_lawful image report lawful n e there

  survives : (w f : ℕ) (kind : Opcode) → changes_blocks kind ≡ true → HasSucceeded (session_of report e) w kind → HasSucceeded (session_of report e) f Flush → HadBefore (session_of report e) (sending e.log.items f) w
      → (k : ℕ) → k < (request_at (requests e.log.items) w).length → HasSurvived image report.steps.items e.number w (e.range.first + (request_at (requests e.log.items) w).dev_offset + k) left
  survives w f kind is done flush had k lt =
      let b : ℕ = e.range.first + (request_at (requests e.log.items) w).dev_offset + k in
      let x = writing (session_of report e) is_lawful w kind is done k lt in
      let y = flushing (session_of report e) is_lawful f flush in
      let early = from_filter (λ (step : Step). step.session == e.number) report.steps.items x.place x.step x.stands in
      let late = from_filter (λ (step : Step). step.session == e.number) report.steps.items y.place y.step y.stands in
      let wrote : WroteBlock report.steps.items e.number w b early.0 = record {
        step = x.step;
        stands = early.1;
        names = (eqb-true x.step.session e.number early.2, eqb-true x.step.index w x.index);
        writes = x.writes;
      } in
      let flushed : WasFlushed report.steps.items e.number f = record {
        place = late.0;
        step = y.step;
        stands = late.1;
        names = (eqb-true y.step.session e.number late.2, eqb-true y.step.index f y.index);
        flushes = y.flushes;
      } in
      record { place = early.0; wrote = wrote; left = keeps n e there w f had flushed b early.0 wrote }

pub ended_writes_survive : EndedWritesSurvive
ended_writes_survive image report left lawful keeps n e there w f kind is done flush had k lt = survives image report left lawful keeps n e there w f kind is done flush had k lt
