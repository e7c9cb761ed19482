-- The history of a session's buffers: what it has to contain.
use Rattle.std.specs.Prelude.{ℕ, Bool, true, false, not, ◌&&◌, ◌||◌, nat_lt, List, length, get_or}
use Rattle.std.specs.Prelude.{IsTrue}
use Rattle.std.specs.List.{list_any}
use Rattle.std.specs.Option.{option_map_or}
use Rattle.host_model.specs.declared.event.Event.{Event}
use Rattle.host_model.specs.declared.event.Event.TheVariants.{Filled, Shown}
use Rattle.host_model.specs.ClientEntries.{IsToldByLog, is_client, told}
use Rattle.host_model.specs.Lists.{all_with_before, places}
use Rattle.host_model.specs.Log.{sent, pages_given}
use Rattle.host_model.specs.Pages.{HasPages}
use Rattle.host_model.specs.RecordEntries.{HaveEntries}
use Rattle.host_model.specs.Releases.{AreReleased, is_release_of}
use Rattle.host_model.specs.Session.{Session}
use Rattle.host_model.specs.Verdict.{close_of, is_within}

-- whether buffer v was given in these events and has so many pages from this one on
abbrev pub is_in_buffer : List Event → ℕ → ℕ → ℕ → Bool
is_in_buffer before v block count =
    option_map_or (λ pages. is_within block count pages) (pages_given v before) false

-- whether the record that closes buffer v was sent in these events, and was taken
abbrev pub was_closed : Session → List Event → ℕ → Bool
was_closed s before v =
    option_map_or (λ i. nat_lt i (length (sent before)) && nat_lt i (length s.rows))
    (close_of s.log s.range v) false

-- where the client's next entry after these events stands; the end of the history where it makes
-- none
abbrev pub next_client_place : Session → List Event → ℕ
next_client_place s before =
    get_or (places is_client s.memory) (length (told before)) (length s.memory)

-- whether the buffer was closed before, and is released before the client's next entry
abbrev pub was_released : Session → List Event → ℕ → Bool
was_released s before v =
    was_closed s before v
    && list_any (λ q. nat_lt q (next_client_place s before)) (places (is_release_of v) s.memory)

-- whether a fill or show was rightly done, or rightly not done
abbrev pub is_answer_for : Session → List Event → ℕ → ℕ → ℕ → Bool → Bool
is_answer_for s before v block count true = is_in_buffer before v block count
is_answer_for s before v block count false =
    not (is_in_buffer before v block count) || was_released s before v

abbrev pub is_used_rightly : Session → List Event → Event → Bool
is_used_rightly s before (Filled v block count byte done) =
    is_answer_for s before v block count done
is_used_rightly s before (Shown v block count done bytes) =
    is_answer_for s before v block count done
is_used_rightly s before _ = true

pub record IsBufferHistory (s : Session) : Type 0 where
  pub client : IsToldByLog s
  pub pages : HasPages s
  pub records : HaveEntries s
  pub releases : AreReleased s
  -- a fill or show was done, or not, as its buffer stood
  pub used : IsTrue (all_with_before (is_used_rightly s) s.log)
