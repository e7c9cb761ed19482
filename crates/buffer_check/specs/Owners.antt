-- The record that an entry belongs to, and a fill or show rightly used, from the lists that a
-- session consists of.
use Rattle.std.specs.Prelude.{ℕ, Bool, true, false, not, if◌then◌else◌, ◌&&◌, ◌||◌, nat_lt, List}
use Rattle.std.specs.Prelude.{length, get_or, Option}
use Rattle.std.specs.List.{list_any}
use Rattle.std.specs.Option.{option_map_or}
use Rattle.host_record.specs.declared.request.Request.{Request}
use Rattle.host_model.specs.declared.event.Event.{Event}
use Rattle.host_model.specs.declared.event.Event.TheVariants.{Filled, Shown}
use Rattle.host_model.specs.declared.memory.MemEvent.{MemEvent}
use Rattle.host_model.specs.declared.memory.MemEvent.TheVariants.{Release}
use Rattle.host_model.specs.declared.verdict.Verdict.{Verdict}
use Rattle.host_model.specs.Buffers.{is_in_buffer}
use Rattle.host_model.specs.ClientEntries.{is_client, told}
use Rattle.host_model.specs.Lists.{places}
use Rattle.host_model.specs.Log.{sent}
use Rattle.host_model.specs.RecordEntries.{index_of}
use Rattle.host_model.specs.Releases.{is_release_of}
use Rattle.host_model.specs.Verdict.{close_in}

abbrev pub owner_by : List Request → List Verdict → MemEvent → Option ℕ
owner_by rs verdicts (Release v) = close_in v rs verdicts
owner_by rs verdicts e = index_of e

-- whether the record that closes the buffer was sent in these events, and is one of the first n
abbrev pub was_closed_by : Option ℕ → ℕ → List Event → Bool
was_closed_by closing n before =
    option_map_or (λ i. nat_lt i (length (sent before)) && nat_lt i n) closing false

-- where the client's next entry after these events stands
abbrev pub next_place : List MemEvent → List Event → ℕ
next_place history before =
    get_or (places is_client history) (length (told before)) (length history)

abbrev pub was_released_by : Option ℕ → ℕ → List MemEvent → List Event → ℕ → Bool
was_released_by closing n history before v =
    was_closed_by closing n before
    && list_any (λ q. nat_lt q (next_place history before)) (places (is_release_of v) history)

abbrev pub is_answer_by : List Request → List Verdict → ℕ → List MemEvent → List Event → ℕ → ℕ → ℕ
    → Bool → Bool
is_answer_by rs verdicts n history before v block count done =
    if done then is_in_buffer before v block count
    else not (is_in_buffer before v block count)
    || was_released_by (close_in v rs verdicts) n history before v

abbrev pub is_used_by : List Request → List Verdict → ℕ → List MemEvent → List Event → Event → Bool
is_used_by rs verdicts n history before (Filled v block count byte done) =
    is_answer_by rs verdicts n history before v block count done
is_used_by rs verdicts n history before (Shown v block count done bytes) =
    is_answer_by rs verdicts n history before v block count done
is_used_by rs verdicts n history before _ = true
