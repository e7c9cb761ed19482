-- The order rule: what was answered before a record was sent stands before what that record does.
use Rattle.std.specs.Prelude.{ℕ, ◌+◌, ◌≤◌, ◌<◌, Bool, ◌==◌, ◌&&◌, false, nat_lt, List, length, take}
use Rattle.std.specs.Prelude.{drop, Option, Some, IsTrue}
use Rattle.std.specs.List.{list_any}
use Rattle.std.specs.Option.{option_eq, option_map_or}
use Rattle.std.specs.Str.{bytes_eq}
use Rattle.host_model.specs.declared.event.Event.{Event}
use Rattle.host_model.specs.declared.memory.MemEvent.{MemEvent}
use Rattle.host_model.specs.declared.memory.MemEvent.TheVariants.{Release}
use Rattle.host_model.specs.Answers.{answer_bytes, due}
use Rattle.host_model.specs.ClientEntries.{is_client, told}
use Rattle.host_model.specs.Groups.{owing_record}
use Rattle.host_model.specs.Lists.{all_before, below, count, implies, places}
use Rattle.host_model.specs.Log.{requests, sent, received, sending}
use Rattle.host_model.specs.RecordEntries.{index_of}
use Rattle.host_model.specs.Session.{Session}
use Rattle.host_model.specs.Verdict.{close_of}

-- ---- what was had

-- whether the answer of owing record o was received as often as it is due, in these events
abbrev pub was_answered : Session → List Event → ℕ → Bool
was_answered s log o =
    let bytes = answer_bytes (requests log) s.rows o in
    count (bytes_eq bytes) (received log) == count (bytes_eq bytes) (due log s.rows)

-- whether the answer to record r was had in these events: its owing record was sent and taken, and
-- the answer was received as often as it is due
abbrev pub had_in : Session → List Event → ℕ → Bool
had_in s log r =
    option_map_or (λ o. nat_lt o (length s.rows) && was_answered s log o)
    (owing_record (requests log) r) false

-- whether it was had in some of the first n events
abbrev pub had_before : Session → ℕ → ℕ → Bool
had_before s n r = list_any (λ m. had_in s (take m s.log) r) (below (n + 1))

-- the same as a sentence
abbrev pub HadBefore : Session → ℕ → ℕ → Type 0
HadBefore s n r = (m : ℕ) × (m ≤ n) × IsTrue (had_in s (take m s.log) r)

-- ---- where records and clients left their entries

-- the record that an entry belongs to; a release belongs to the record that closes its buffer,
-- taken or not
abbrev pub owner : Session → MemEvent → Option ℕ
owner s (Release v) = close_of s.log s.range v
owner s e = index_of e

abbrev pub step_places : Session → ℕ → List ℕ
step_places s i = places (λ step. step.index == i) s.steps

abbrev pub entry_places : Session → ℕ → List ℕ
entry_places s i = places (λ e. option_eq ◌==◌ (owner s e) (Some i)) s.memory

abbrev pub client_places : Session → List ℕ
client_places s = places is_client s.memory

-- how many of the first n events have an entry
abbrev pub told_by : Session → ℕ → ℕ
told_by s n = length (told (take n s.log))

-- ---- the rule

-- what record r did stands before what record i did, if its answer was had before i was sent
abbrev pub follows_record : Session → ℕ → ℕ → Bool
follows_record s r i =
    implies (had_before s (sending s.log i) r) (all_before (step_places s r) (step_places s i)
    && all_before (entry_places s r) (entry_places s i))

-- what the client did before it sent record i stands before what the record did
abbrev pub follows_client : Session → ℕ → Bool
follows_client s i =
    all_before (take (told_by s (sending s.log i)) (client_places s)) (entry_places s i)

-- what record r did stands before the entry of event n, if its answer was had before that event and
-- the event has an entry
abbrev pub precedes_event : Session → ℕ → ℕ → Bool
precedes_event s r n = implies (had_before s n r && nat_lt (told_by s n) (told_by s (n + 1)))
    (all_before (entry_places s r) (take 1 (drop (told_by s n) (client_places s))))

pub record KeepsOrder (s : Session) : Type 0 where
  pub records : (r i : ℕ) → r < length (sent s.log) → i < length (sent s.log) → IsTrue (follows_record s r i)
  pub client : (i : ℕ) → i < length (sent s.log) → IsTrue (follows_client s i)
  pub events : (r n : ℕ) → r < length (sent s.log) → n < length s.log
      → IsTrue (precedes_event s r n)
