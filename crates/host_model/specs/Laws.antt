-- Laws over the definitions, as sentences.
use Rattle.std.specs.Prelude.{◌≡◌, ◌↔◌, ℕ, ◌+◌, ◌≤◌, ◌<◌, Bool, true, IsFalse, List, map, length}
use Rattle.std.specs.Prelude.{take, drop, slice_get, Contains, Option, Some, ⊤}
use Rattle.std.specs.List.{AllByRecursion}
use Rattle.std.specs.Str.{bytes_eq}
use Rattle.host_block.specs.declared.range.Range.{Range}
use Rattle.host_block.specs.declared.op.Op.{Op}
use Rattle.host_block.specs.declared.op.Op.TheVariants.{Flush}
use Rattle.host_record.specs.declared.request.Request.{Request}
use Rattle.host_record.specs.declared.status.Status.{Status}
use Rattle.host_record.specs.declared.finish.Finish.TheVariants.{Drain}
use Rattle.host_model.specs.declared.step.Step.{Step}
use Rattle.host_model.specs.declared.verdict.Verdict.{Verdict}
use Rattle.host_model.specs.declared.verdict.Verdict.TheVariants.{Accepted, Refused}
use Rattle.host_model.specs.Answers.{answer_bytes}
use Rattle.host_model.specs.Groups.{owed}
use Rattle.host_model.specs.LawfulSession.{IsLawfulSession}
use Rattle.host_model.specs.Lists.{count}
use Rattle.host_model.specs.Log.{requests, received, sent, sending}
use Rattle.host_model.specs.Order.{HadBefore, KeepsOrder, step_places, entry_places, client_places}
use Rattle.host_model.specs.Order.{told_by}
use Rattle.host_model.specs.Session.{Session}
use Rattle.host_model.specs.Verdict.{checks, judged}

-- ---- the verdict

-- this check fails with that status, and each before it is passed
pub record FailsFirst (checks : List (Bool × Status)) (status : Status) : Type 0 where
  pub place : ℕ
  pub fails : slice_get checks place ≡ Some (true, status)
  pub before : AllByRecursion (λ check. IsFalse check.0) (take place checks)

-- the verdict is the status of the first check that fails; accepted where each is passed
abbrev pub IsByFirstCheck : List (Bool × Status) → Verdict → Type 0
IsByFirstCheck checks Accepted = AllByRecursion (λ check. IsFalse check.0) checks
IsByFirstCheck checks (Refused status) = FailsFirst checks status

abbrev pub FirstCheckDecides : Type 0
FirstCheckDecides =
    (range : Range) (pages : Option ℕ) (r : Request)
    → IsByFirstCheck (checks range pages r) (judged range pages r)

-- ---- the partition

-- a flush is on no block; each other step is on a block of the range
abbrev pub StaysIn : Range → Op → ℕ → Type 0
StaysIn range Flush block = ⊤
StaysIn range _ block = (range.first ≤ block) × (block < range.first + range.count)

abbrev pub StepsStayInside : Type 0
StepsStayInside =
    (s : Session) → IsLawfulSession s
    → AllByRecursion (λ (step : Step). StaysIn s.range step.op step.block) s.steps

-- ---- answers

-- as many answers were received as there are lone records and closed groups, and each as often as
-- it is one of theirs
pub record CameOnce (s : Session) : Type 0 where
  pub as_many : length (received s.log) ≡ length (owed (requests s.log))
  pub as_often : (bytes : List ℕ)
      → count (bytes_eq bytes) (received s.log)
      ≡ count (bytes_eq bytes)
      (map (answer_bytes (requests s.log) s.rows) (owed (requests s.log)))

abbrev pub AnswersComeOnce : Type 0
AnswersComeOnce = (s : Session) → IsLawfulSession s → s.finish ≡ Drain → CameOnce s

-- ---- order

-- each of these places is before each of those
abbrev pub StandBefore : List ℕ → List ℕ → Type 0
StandBefore these those = (p q : ℕ) → Contains these p → Contains those q → p < q

-- the order rule, without tests
pub record IsInOrder (s : Session) : Type 0 where
  pub records : (r i : ℕ) → r < length (sent s.log) → i < length (sent s.log) → HadBefore s (sending s.log i) r → StandBefore (step_places s r) (step_places s i) × StandBefore (entry_places s r) (entry_places s i)
  pub client : (i : ℕ) → i < length (sent s.log)
      → StandBefore (take (told_by s (sending s.log i)) (client_places s)) (entry_places s i)
  pub events : (r n : ℕ) → r < length (sent s.log) → n < length s.log → HadBefore s n r
      → told_by s n < told_by s (n + 1)
      → StandBefore (entry_places s r) (take 1 (drop (told_by s n) (client_places s)))

abbrev pub OrderIsKept : Type 0
OrderIsKept = (s : Session) → KeepsOrder s ↔ IsInOrder s
