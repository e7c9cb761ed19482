-- What the clause on flushed writes speaks of, and what it doesn't: each of its parts excludes
-- something.
use Rattle.std.specs.Prelude.{true, List, [], ◌∷◌, take}
use Rattle.crash_law.specs.Survival.{WasFlushed, WerePutSince, WroteBlock}
use Rattle.host_block.specs.declared.op.Op.TheVariants as op
use Rattle.host_model.specs.Log.{sending}
use Rattle.host_model.specs.Order.{HadBefore}
use Rattle.host_model.specs.declared.step.Step.{Step}
use Rattle.host_report.specs.Lawful.{session_of}
use Rattle.run_rows.specs.Crash.{log, report, session, step, steps}

-- a write of byte 1 to block 0 that failed, and a flush that failed
abbrev pub failed : List Step
failed =
    record (step 0 op.Write (1 ∷ [])) { faulted = true }
    ∷ record (step 1 op.Flush []) { faulted = true } ∷ []

pub record FlushedPartsExclude : Type 0 where
  -- The answer to the first write was had before the flush was sent: not before it was received,
  -- and the second write's wasn't.
  pub had : HadBefore (session_of report session) (sending log 1) 0
  pub not_had_yet : ¬ HadBefore (session_of report session) (sending log 0) 0
  pub not_had_later : ¬ HadBefore (session_of report session) (sending log 1) 2
  -- The flush's step is among the first two: not among fewer, not for another record or session,
  -- not where it failed.
  pub flushed : WasFlushed (take 2 steps) 1 1
  pub not_flushed_yet : ¬ WasFlushed (take 1 steps) 1 1
  pub not_flushed_so : ¬ WasFlushed steps 1 0
  pub not_flushed_there : ¬ WasFlushed steps 2 1
  pub not_flushed_well : ¬ WasFlushed failed 1 1
  -- The first step wrote block 0 for the first write: no other place, record or block, and not
  -- where it failed.
  pub wrote : WroteBlock steps 1 0 0 0
  pub not_wrote_there : ¬ WroteBlock steps 1 0 0 2
  pub not_wrote_so : ¬ WroteBlock steps 1 2 0 0
  pub not_wrote_beside : ¬ WroteBlock steps 1 0 1 0
  pub not_wrote_well : ¬ WroteBlock failed 1 0 0 0
  -- Byte 1 was put into block 0 since the first step: not since the third, not into block 1, and no
  -- byte 3 nor what failed.
  pub put : WerePutSince steps 1 0 0 (1 ∷ [])
  pub not_put_since : ¬ WerePutSince steps 1 0 2 (1 ∷ [])
  pub not_put_beside : ¬ WerePutSince steps 1 1 0 (1 ∷ [])
  pub not_put_else : ¬ WerePutSince steps 1 0 0 (3 ∷ [])
  pub not_put_well : ¬ WerePutSince failed 1 0 0 (1 ∷ [])
