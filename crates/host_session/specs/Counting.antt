-- The answers that a client received, by the records that they answer.
use Rattle.std.specs.Prelude.{◌≡◌, ℕ, ◌<◌, ◌≤◌, nat_eq, nat_lt, List, filter, length, map, take}
use Rattle.std.specs.Prelude.{IsTrue}
use Rattle.std.specs.Str.{bytes_eq}
use Rattle.host_model.specs.declared.event.Event.{Event}
use Rattle.host_model.specs.declared.row.TakenRow.{TakenRow}
use Rattle.host_model.specs.Answers.{answer_bytes, due, is_answered_at_most, is_answered_exactly}
use Rattle.host_model.specs.Groups.{owed}
use Rattle.host_model.specs.Lists.{count}
use Rattle.host_model.specs.Log.{received, requests, sent}

-- how often a record stands in the list
abbrev pub times : ℕ → List ℕ → ℕ
times i is = count (nat_eq i) is

-- the records that are due an answer: the owing ones that were taken
abbrev pub due_records : List Event → List TakenRow → List ℕ
due_records log rows = filter (λ i. nat_lt i (length rows)) (owed (requests log))

-- The answers received are those to these records: each is due one, and none was answered twice.
pub record AreAnswered (log : List Event) (rows : List TakenRow) (answered : List ℕ) : Type 0 where
  pub bytes : received log ≡ map (answer_bytes (requests log) rows) answered
  pub due : (i : ℕ) → 0 < times i answered → 0 < times i (due_records log rows)
  pub once : (i : ℕ) → times i answered ≤ 1

-- these bytes were received as often as they are due
abbrev pub AreReceivedAsOften : List Event → List TakenRow → List ℕ → Type 0
AreReceivedAsOften log rows bytes =
    count (bytes_eq bytes) (received log) ≡ count (bytes_eq bytes) (due log rows)

-- what counting tells of them
pub record AreCounted (log : List Event) (rows : List TakenRow) (answered : List ℕ) : Type 0 where
  -- no answer was received more often than it is due
  pub at_most : IsTrue (is_answered_at_most log rows)
  -- where an answer was received as often as it is due, each record that is due it was answered
  pub each : (i : ℕ) → 0 < times i (due_records log rows)
      → AreReceivedAsOften log rows (answer_bytes (requests log) rows i) → 0 < times i answered
  -- there are no more of them than are due; where there are as many, each was received as often as
  -- it is due
  pub few : length answered ≤ length (due_records log rows)
  pub exactly : length (due_records log rows) ≤ length answered
      → IsTrue (is_answered_exactly log rows)

-- the first of these records, as many as answers were received in the first n events
abbrev pub answered_in : List Event → List ℕ → ℕ → List ℕ
answered_in log answered n = take (length (received (take n log))) answered

-- each answer was received after the records that it answers were sent
abbrev pub AreSentBefore : List Event → List ℕ → Type 0
AreSentBefore log answered =
    (n i : ℕ) → 0 < times i (answered_in log answered n) → i < length (sent (take n log))

-- ---- the laws

abbrev pub CountingTells : Type 0
CountingTells =
    (log : List Event) (rows : List TakenRow) (answered : List ℕ) → AreAnswered log rows answered
    → AreCounted log rows answered

-- what holds of a log's answers holds of its first events
abbrev pub CountingHoldsBefore : Type 0
CountingHoldsBefore =
    (log : List Event) (rows : List TakenRow) (answered : List ℕ) → AreAnswered log rows answered
    → AreSentBefore log answered → (n : ℕ)
    → AreAnswered (take n log) rows (answered_in log answered n)
