-- How far a client has played its lines, by its log.
use Rattle.std.specs.Prelude.{ℕ, true, List, [], ◌∷◌, ◌++◌, take, replicate}
use Rattle.host_model.specs.declared.event.Event.{Event}
use Rattle.host_model.specs.declared.event.Event.TheVariants.{Attached, Drained, Filled, Received}
use Rattle.host_model.specs.declared.event.Event.TheVariants.{Sent, Shown}
use Rattle.host_play.specs.Logs.{HasPlayed, HasPlayedOut}
use Rattle.host_record.specs.declared.finish.Finish.TheVariants.{Abort, Drain}
use Rattle.run_rows.specs.Opened.{read, lines}

-- the answer to the read: status 0, its reqid, no group, one record
abbrev pub answer : List ℕ
answer = 0 ∷ 0 ∷ 0 ∷ 0 ∷ 20 ∷ replicate 7 0 ++ 1 ∷ replicate 19 0

abbrev pub log : List Event
log =
    Attached 8 1 ∷ Filled 1 0 4 0xa1 true ∷ Sent 0 read ∷ Received answer ∷ Shown 1 4 4 true [] ∷ []

pub record PlaysLines : Type 0 where
  pub waited : HasPlayed (take 4 lines) (take 4 log)
  pub all : HasPlayed lines log
  -- the wait isn't over before the answer came
  pub no_answer : ¬ HasPlayed (take 4 lines) (take 3 log)
  -- each call has its event, with its arguments, and there is no other
  pub no_fill : ¬ HasPlayed (take 3 lines) (Attached 8 1 ∷ Sent 0 read ∷ [])
  pub another_fill : ¬ HasPlayed (take 2 lines) (Attached 8 1 ∷ Filled 1 0 4 0xa2 true ∷ [])
  pub one_more : ¬ HasPlayed (take 2 lines) (take 3 log)
  -- no more answers came than are owed
  pub two_answers : ¬ HasPlayed (take 3 lines) (take 4 log ++ Received answer ∷ [])
  -- the end is the one asked for
  pub drained : HasPlayedOut Drain lines (log ++ Drained ∷ [])
  pub not_aborted : ¬ HasPlayedOut Abort lines (log ++ Drained ∷ [])
  pub not_ended : ¬ HasPlayedOut Drain lines log
