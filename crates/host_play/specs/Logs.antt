-- How far a client has played its lines, by its log.
use Rattle.std.specs.Prelude.{◌≡◌, ◌≤◌, Bool, true, false, ◌&&◌, List, [], ◌∷◌, ◌++◌, map, length}
use Rattle.host_record.specs.declared.finish.Finish.{Finish}
use Rattle.host_model.specs.declared.event.Event.{Event}
use Rattle.host_model.specs.Lists.{all_with_before}
use Rattle.host_model.specs.Log.{received}
use Rattle.host_report.specs.Played.{LineAsk, are_calls_for, calls_asked, calls_in, is_call_for}
use Rattle.host_report.specs.Played.{is_waited_for}
use Rattle.host_session.specs.Endings.{owed_count}
use Rattle.script_model.specs.declared.script.ScriptLine.{ScriptLine}
use Rattle.script_played.specs.Played.{ask_of}

abbrev pub asks_of : List ScriptLine → List LineAsk
asks_of lines = map ask_of lines

-- one event for each call asked for, in order
abbrev pub are_calls : List LineAsk → List Event → Bool
are_calls [] [] = true
are_calls (a ∷ asks) (e ∷ log) = is_call_for a e && are_calls asks log
are_calls _ _ = false

-- The client has played these lines, and no more. It has received no more answers than it is owed.
pub record HasPlayed (lines : List ScriptLine) (log : List Event) : Type 0 where
  pub calls : are_calls (calls_asked (asks_of lines)) (calls_in log) ≡ true
  pub waits : all_with_before (is_waited_for log) (asks_of lines) ≡ true
  pub few : length (received log) ≤ owed_count log

-- A client that had played some lines has then played this one too.
abbrev pub PlaysNext : ScriptLine → List Event → List Event → Type 0
PlaysNext line old new =
    (lines : List ScriptLine) → HasPlayed lines old → HasPlayed (lines ++ line ∷ []) new

-- The client has played these lines, and has ended so.
pub record HasPlayedOut (finish : Finish) (lines : List ScriptLine) (log : List Event)
    : Type 0 where
  pub calls : are_calls_for finish (calls_asked (asks_of lines)) (calls_in log) ≡ true
  pub waits : all_with_before (is_waited_for log) (asks_of lines) ≡ true

-- A client that had played some lines has then ended.
abbrev pub EndsAfter : Finish → List Event → List Event → Type 0
EndsAfter finish old new =
    (lines : List ScriptLine) → HasPlayed lines old → HasPlayedOut finish lines new
