-- When an answer was had, from the lists that a session consists of.
use Rattle.std.specs.Prelude.{ℕ, ◌+◌, Bool, false, ◌==◌, ◌&&◌, nat_lt, List, drop, filter, length}
use Rattle.std.specs.Prelude.{map, take, Some}
use Rattle.std.specs.List.{list_all, list_any}
use Rattle.std.specs.Option.{option_eq, option_map_or}
use Rattle.std.specs.Str.{bytes_eq}
use Rattle.host_record.specs.declared.request.Request.{Request}
use Rattle.host_model.specs.declared.event.Event.{Event}
use Rattle.host_model.specs.declared.memory.MemEvent.{MemEvent}
use Rattle.host_model.specs.declared.row.TakenRow.{TakenRow}
use Rattle.host_model.specs.declared.step.Step.{Step}
use Rattle.host_model.specs.declared.verdict.Verdict.{Verdict}
use Rattle.host_model.specs.Answers.{answer_bytes}
use Rattle.host_model.specs.ClientEntries.{is_client, told}
use Rattle.host_model.specs.Groups.{owed, owing_record}
use Rattle.host_model.specs.Lists.{all_before, below, count, implies, places}
use Rattle.host_model.specs.Log.{received, requests, sending, sent}
use Rattle.buffer_check.specs.Owners.{owner_by}

-- whether the answer of owing record o was received in these events as often as it is due
abbrev pub is_received_by : List Request → List Event → List TakenRow → ℕ → Bool
is_received_by rs log rows o =
    let bytes = answer_bytes rs rows o in
    count (bytes_eq bytes) (received log)
    == count (bytes_eq bytes)
    (map (answer_bytes rs rows) (filter (λ i. nat_lt i (length rows)) (owed rs)))

abbrev pub had_by : List Request → List Event → List TakenRow → ℕ → Bool
had_by rs log rows r =
    option_map_or (λ o. nat_lt o (length rows) && is_received_by rs log rows o) (owing_record rs r)
    false

-- whether one of the first n + 1 of these holds
abbrev pub some_of : List Bool → ℕ → Bool
some_of had n = list_any (λ b. b) (take (n + 1) had)

-- the places of the entries that belong to record i, and of its steps
abbrev pub entries_at : List Request → List Verdict → List MemEvent → ℕ → List ℕ
entries_at rs verdicts history i =
    places (λ e. option_eq ◌==◌ (owner_by rs verdicts e) (Some i)) history

abbrev pub steps_at : List Step → ℕ → List ℕ
steps_at steps i = places (λ step. step.index == i) steps

-- what a record did, with its steps and entries at these places, stands before what record i did,
-- if its answer was had
abbrev pub follows_by : List Request → List Verdict → List Event → List Step → List MemEvent
    → List Bool → List ℕ → List ℕ → ℕ → Bool
follows_by rs verdicts log steps history had steps_r entries_r i =
    implies (some_of had (sending log i)) (all_before steps_r (steps_at steps i)
    && all_before entries_r (entries_at rs verdicts history i))

-- it stands before the entry of event n, if its answer was had and the event has an entry
abbrev pub precedes_by : List Event → List MemEvent → List Bool → List ℕ → ℕ → Bool
precedes_by log history had entries_r n =
    implies
    (some_of had n && nat_lt (length (told (take n log))) (length (told (take (n + 1) log))))
    (all_before entries_r (take 1 (drop (length (told (take n log))) (places is_client history))))

-- what the client did before it sent record i stands before what that record did
abbrev pub client_by : List Request → List Verdict → List Event → List MemEvent → ℕ → Bool
client_by rs verdicts log history i =
    all_before (take (length (told (take (sending log i) log))) (places is_client history))
    (entries_at rs verdicts history i)

-- the order rule for an answer that was had in these prefixes, and a record with its steps and
-- entries at these places
abbrev pub is_ordered_after : List Request → List Verdict → List Event → List Step → List MemEvent
    → List Bool → List ℕ → List ℕ → Bool
is_ordered_after rs verdicts log steps history had steps_r entries_r =
    list_all (follows_by rs verdicts log steps history had steps_r entries_r)
    (below (length (sent log)))
    && list_all (precedes_by log history had entries_r) (below (length log))

-- the prefixes of the log in which the answer to record r was had
abbrev pub had_of : List Event → List TakenRow → ℕ → List Bool
had_of log rows r =
    map (λ m. had_by (requests (take m log)) (take m log) rows r) (below (length log + 1))

-- the order rule for the answer to record r
abbrev pub is_ordered_by : List Request → List Verdict → List Event → List TakenRow → List Step
    → List MemEvent → ℕ → Bool
is_ordered_by rs verdicts log rows steps history r =
    is_ordered_after rs verdicts log steps history (had_of log rows r) (steps_at steps r)
    (entries_at rs verdicts history r)

-- the order rule for all records that were sent
abbrev pub is_order_kept : List Request → List Verdict → List Event → List TakenRow → List Step
    → List MemEvent → Bool
is_order_kept rs verdicts log rows steps history =
    list_all (is_ordered_by rs verdicts log rows steps history) (below (length (sent log)))
    && list_all (client_by rs verdicts log history) (below (length (sent log)))
