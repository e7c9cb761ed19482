-- A forced write that was answered 0 outlives a crash.
use Rattle.std.proofs.Common.{◌≡◌, ℕ, ◌+◌, ◌<◌, ◌==◌, not, List, length, take, Some, refl, sym, subst, arith}
use Rattle.std.specs.List.{slice_get}
use Rattle.std.proofs.lemmas.Bool.{eqb-true}
use Rattle.std.proofs.lemmas.List.{take_all}
use Rattle.host_block.specs.{is_flush, puts_bytes, IsCrashImage}
use Rattle.host_block.proofs.Places.{from_filter, from_take}
use Rattle.host_record.specs.{Write}
use Rattle.host_model.specs.{Step, changes_of, IsLawfulSession, request_at, requests}
use Rattle.host_model.proofs.ListTests.{both}
use Rattle.host_report.specs.{Report, SessionReport, IsLawful, session_of}
use Rattle.crash_law.specs.{HasSurvived, ForcedWritesSurvive, IsForcedWrite, KeepsOwnFlushed, OwnFlushesKeep, WasFlushed, WroteBlock}
use Rattle.crash_law.proofs.Steps.{forcing, last_two, writing}
use Rattle.crash_law.proofs.Survival.{own_before, session_lawful, survives_flush}

pub own_flushes_keep : OwnFlushesKeep
own_flushes_keep image report lawful count left crash n e there w flushed b place wrote =
    let flush = from_take report.steps.items count flushed.place flushed.step flushed.stands in
    survives_flush image report lawful n e there count left crash w w flushed b place wrote
    (own_before image report lawful n e there w place flushed.place wrote.step flushed.step wrote.stands wrote.names
    (last_two (not wrote.step.faulted) (puts_bytes wrote.step.op) (wrote.step.block == b) wrote.writes).0
    flush.0 flushed.names (both (not flushed.step.faulted) (is_flush flushed.step.op) flushed.flushes).1)

-- once all steps are made
kept_at_the_end : (image : List (List ℕ)) (report : Report) (left : List (List ℕ)) → IsLawful image report → IsCrashImage image (changes_of report.steps.items) left → KeepsOwnFlushed image report report.steps.items left
kept_at_the_end image report left lawful crash =
    let all : take (length report.steps.items) report.steps.items ≡ report.steps.items = take_all (length report.steps.items) report.steps.items (omega arith) in
    subst (λ (made : List Step). KeepsOwnFlushed image report made left) all
    (own_flushes_keep image report lawful (length report.steps.items) left (subst (λ (made : List Step). IsCrashImage image (changes_of made) left) (sym all) crash))

module _ (image : List (List ℕ)) (report : Report) (left : List (List ℕ)) (lawful : IsLawful image report) (keeps : KeepsOwnFlushed image report report.steps.items left)
    (n : ℕ) (e : SessionReport) (there : slice_get report.sessions.items n ≡ Some e) where
  is_lawful : IsLawfulSession (session_of report e)
  is_lawful = session_lawful image report lawful n e there

  survives : (w : ℕ) → IsForcedWrite (session_of report e) w → (k : ℕ) → k < (request_at (requests e.log.items) w).length
      → HasSurvived image report.steps.items e.number w (e.range.first + (request_at (requests e.log.items) w).dev_offset + k) left
  survives w write k lt =
      let b : ℕ = e.range.first + (request_at (requests e.log.items) w).dev_offset + k in
      let x = writing (session_of report e) is_lawful w Write refl write.done k lt in
      let y = forcing (session_of report e) is_lawful w write.done write.forced in
      let early = from_filter (λ (step : Step). step.session == e.number) report.steps.items x.place x.step x.stands in
      let late = from_filter (λ (step : Step). step.session == e.number) report.steps.items y.place y.step y.stands in
      let wrote : WroteBlock report.steps.items e.number w b early.0 = record {
        step = x.step;
        stands = early.1;
        names = (eqb-true x.step.session e.number early.2, eqb-true x.step.index w x.index);
        writes = x.writes;
      } in
      let flushed : WasFlushed report.steps.items e.number w = record {
        place = late.0;
        step = y.step;
        stands = late.1;
        names = (eqb-true y.step.session e.number late.2, eqb-true y.step.index w y.index);
        flushes = y.flushes;
      } in
      record { place = early.0; wrote = wrote; left = keeps n e there w flushed b early.0 wrote }

pub forced_writes_survive : ForcedWritesSurvive
forced_writes_survive image report left lawful crash n e there w write k lt = survives image report left lawful (kept_at_the_end image report left lawful crash) n e there w write k lt
