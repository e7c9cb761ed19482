-- A script as far as it was read, and what a line may say there.
use Rattle.std.specs.Prelude.{ℕ, Bool, true, false, nat_le, List, [], ◌∷◌, ◌++◌, Option, Some, None}
use Rattle.std.specs.Prelude.{is_none, Result, Ok, Err, if◌then◌else◌}
use Rattle.host_record.specs.declared.finish.Finish.{Finish}
use Rattle.host_record.specs.declared.finish.Finish.TheVariants.{Drain}
use Rattle.script_model.specs.declared.cause.ScriptCause.{ScriptCause}
use Rattle.script_model.specs.declared.cause.ScriptCause.TheVariants.{BadByte, NoSession, AfterEnd}
use Rattle.script_model.specs.declared.cause.ScriptCause.TheVariants.{TooMany}
use Rattle.script_model.specs.declared.keyword.Keyword.{Keyword}
use Rattle.script_model.specs.declared.keyword.Keyword.TheVariants.{Session}
use Rattle.script_model.specs.declared.statement.Statement.{Statement}
use Rattle.script_model.specs.declared.statement.Statement.TheVariants.{Begin, Do, End}
use Rattle.script_model.specs.declared.script.ScriptLine.{ScriptLine}
use Rattle.script_model.specs.declared.script.ScriptLine.TheVariants.{WaitFor}
use Rattle.script_model.specs.Steps.{◌>>=◌, holds}
use Rattle.script_model.specs.Arguments.{word}
use Rattle.script_model.specs.Keyword.{keyword_of}
use Rattle.script_model.specs.Lines.{statement}
use Rattle.script_model.specs.Owed.{owed}
use Rattle.script_model.specs.Plans.{PlannedSession}
use Rattle.script_model.specs.Words.{all_allowed}

-- the session that is being read; it has a finish once its end was read
pub record OpenPlan : Type 0 where
  pub part : ℕ
  pub lines : List ScriptLine
  pub finish : Option Finish

-- the sessions before, and the one that is being read
pub record Draft : Type 0 where
  pub past : List PlannedSession
  pub current : Option OpenPlan

abbrev pub nothing_yet : Draft
nothing_yet = record { past = []; current = None }

-- ---- adding a statement

-- a session without an end is drained
abbrev pub finish_or_drain : Option Finish → Finish
finish_or_drain None = Drain
finish_or_drain (Some finish) = finish

abbrev pub closed_plan : OpenPlan → PlannedSession
closed_plan s = record { part = s.part; lines = s.lines; finish = finish_or_drain s.finish }

abbrev pub closed_plans : Option OpenPlan → List PlannedSession
closed_plans None = []
closed_plans (Some s) = closed_plan s ∷ []

-- all sessions, the one that is being read too
abbrev pub plans : Draft → List PlannedSession
plans d = d.past ++ closed_plans d.current

abbrev pub with_line : Option OpenPlan → ScriptLine → Option OpenPlan
with_line None line = None
with_line (Some s) line = Some (record s { lines = s.lines ++ line ∷ [] })

abbrev pub with_finish : Option OpenPlan → Finish → Option OpenPlan
with_finish None finish = None
with_finish (Some s) finish = Some (record s { finish = Some finish })

unfoldable pub added : Draft → Statement → Draft
added d (Begin part) =
    record { past = plans d; current = Some (record { part = part; lines = []; finish = None }) }
added d (Do line) = record d { current = with_line d.current line }
added d (End finish) = record d { current = with_finish d.current finish }

-- ---- what may stand

abbrev pub is_session : Keyword → Bool
is_session Session = true
is_session _ = false

-- every line but `session` stands in a session that has not ended
abbrev pub in_session : Option OpenPlan → Result (Unit {0}) ScriptCause
in_session None = Err NoSession
in_session (Some s) = holds (is_none s.finish) AfterEnd

unfoldable pub may_stand : Draft → Keyword → Result (Unit {0}) ScriptCause
may_stand d key = if is_session key then Ok tt else in_session d.current

-- answers that are owed by the records of the session's lines so far
abbrev pub owed_so_far : Option OpenPlan → ℕ
owed_so_far None = 0
owed_so_far (Some s) = owed s.lines

abbrev pub waits_enough : ℕ → Statement → Bool
waits_enough answers (Do (WaitFor total)) = nat_le total answers
waits_enough answers _ = true

-- `wait N` waits for no more answers than are owed
unfoldable pub may_wait : Draft → Statement → Result (Unit {0}) ScriptCause
may_wait d s = holds (waits_enough (owed_so_far d.current) s) TooMany

-- ---- a line

-- what a line of these words says, after the draft; the causes in their order
unfoldable pub meaning : Draft → List (List ℕ) → Result Statement ScriptCause
meaning d ws = do
  allowed ← holds (all_allowed ws) BadByte
  key ← keyword_of (word ws 0)
  stands ← may_stand d key
  s ← statement key ws
  waits ← may_wait d s
  Ok s
