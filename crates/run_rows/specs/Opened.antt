-- What two sessions of a script are opened with.
use Rattle.std.specs.Prelude.{◌≡◌, ℕ, List, [], ◌∷◌, replicate, true}
use Rattle.host_block.specs.declared.range.Range.{Range}
use Rattle.host_play.specs.Opened.{specs_from}
use Rattle.host_play.specs.Pieces.{piece_lengths}
use Rattle.script_played.specs.Room.{steps_ahead}
use Rattle.host_record.specs.declared.finish.Finish.TheVariants.{Abort, Drain}
use Rattle.script_model.specs.Plans.{PlannedSession}
use Rattle.script_model.specs.declared.script.ScriptLine.{ScriptLine}
use Rattle.script_model.specs.declared.script.ScriptLine.TheVariants.{Attach, Fill, Send, Show}
use Rattle.script_model.specs.declared.script.ScriptLine.TheVariants.{WaitAll}

-- the bytes of a read of two blocks into buffer 1, with reqid 20
abbrev pub read : List ℕ
read = 1 ∷ 0 ∷ 0 ∷ 0 ∷ 20 ∷ 0 ∷ 0 ∷ 0 ∷ 0 ∷ 0 ∷ 1 ∷ 0 ∷ 2 ∷ replicate 19 0

-- a session that attaches, fills, reads, waits and shows
abbrev pub lines : List ScriptLine
lines = Attach 8 ∷ Fill 1 0 4 0xa1 ∷ Send read ∷ WaitAll ∷ Show 1 4 4 ∷ []

-- and one that does nothing
abbrev pub plans : List PlannedSession
plans =
    record { part = 1; lines = lines; finish = Drain }
    ∷ record { part = 2; lines = []; finish = Abort } ∷ []

abbrev pub alpha : Range
alpha = record { first = 34; count = 30 }

abbrev pub beta : Range
beta = record { first = 64; count = 31 }

pub record OpensSessions : Type 0 where
  -- room for one record, one buffer, an event for each of four calls and one answer, and two
  -- landings
  pub specs : specs_from 1 plans (alpha ∷ beta ∷ []) 512 128
      ≡ record {
        number = 1;
        part_number = 1;
        part = alpha;
        size = 512;
        depth = 128;
        records = 1;
        attaches = 1;
        events = 5;
        memory_room = 2;
        keeps = true;
      }
      ∷ record {
        number = 2;
        part_number = 2;
        part = beta;
        size = 512;
        depth = 128;
        records = 0;
        attaches = 0;
        events = 0;
        memory_room = 0;
        keeps = true;
      } ∷ []
  -- two steps and the closing flush
  pub steps : steps_ahead plans ≡ 3
  -- one piece of four blocks for what is shown
  pub pieces : piece_lengths 512 lines ≡ 2048 ∷ []
