-- The text of a client's log.
use Rattle.std.specs.Prelude.{ℕ, ◌+◌, ◌*◌, true, List, [], ◌∷◌, ◌++◌, take, drop, flat_map, decimal}
use Rattle.std.specs.Prelude.{codes}
use Rattle.std.specs.Fmt.{signed_decimal}
use Rattle.host_record.specs.declared.response.Response.{Response}
use Rattle.host_record.specs.Response.{response_fields}
use Rattle.host_model.specs.declared.event.AttachError.{AttachError}
use Rattle.host_model.specs.declared.event.AttachError.TheVariants as attach
use Rattle.host_model.specs.declared.event.Event.{Event}
use Rattle.host_model.specs.declared.event.Event.TheVariants.{Attached, NotAttached, Filled, Sent}
use Rattle.host_model.specs.declared.event.Event.TheVariants.{Received, Shown, Drained, Aborted}
use Rattle.host_model.specs.Lists.{below}
use Rattle.host_report.specs.Words.{inner, innermost, yes_or_no}
use Rattle.host_text.specs.Words.{hex, hex_byte, block_word}

abbrev pub attach_cause_word : AttachError → List ℕ
attach_cause_word attach.NoFrames = codes "no-frames"
attach_cause_word attach.NoIds = codes "no-ids"
attach_cause_word attach.Oom = codes "no-memory"
attach_cause_word attach.Closed = codes "closed"

abbrev pub answer_line : Response → List ℕ
answer_line a =
    inner (codes "answer" ∷ signed_decimal a.status ∷ codes "reqid" ∷ decimal a.reqid
    ∷ codes "group" ∷ decimal a.group ∷ codes "count" ∷ decimal a.count ∷ [])

-- the line of an event
abbrev pub event_line : Event → List ℕ
event_line (Attached pages id) =
    inner (codes "attach" ∷ decimal pages ∷ codes "id" ∷ decimal id ∷ [])
event_line (NotAttached pages cause) =
    inner (codes "attach" ∷ decimal pages ∷ attach_cause_word cause ∷ [])
event_line (Filled id block count byte done) =
    inner (codes "fill" ∷ decimal id ∷ decimal block ∷ decimal count ∷ hex_byte byte
    ∷ yes_or_no done ∷ [])
event_line (Sent index bytes) = inner (codes "send" ∷ decimal index ∷ hex bytes ∷ [])
event_line (Received bytes) = answer_line (response_fields bytes)
event_line (Shown id block count done bytes) =
    inner (codes "show" ∷ decimal id ∷ decimal block ∷ decimal count ∷ yes_or_no done ∷ [])
event_line Drained = inner (codes "drained" ∷ [])
event_line Aborted = inner (codes "aborted" ∷ [])

-- the k-th block of so many bytes
abbrev pub block_of : ℕ → List ℕ → ℕ → List ℕ
block_of size bytes k = take size (drop (k * size) bytes)

-- the line of the k-th block that was shown, from this block on
abbrev pub shown_line : ℕ → ℕ → List ℕ → ℕ → List ℕ
shown_line size block bytes k =
    innermost (decimal (block + k) ∷ block_word (block_of size bytes k) ∷ [])

-- the lines of so many blocks that were shown, from this block on
abbrev pub shown_text : ℕ → ℕ → ℕ → List ℕ → List ℕ
shown_text size block count bytes = flat_map (shown_line size block bytes) (below count)

-- the lines of the blocks that an event showed
abbrev pub shown_lines : ℕ → Event → List ℕ
shown_lines size (Shown id block count true bytes) = shown_text size block count bytes
shown_lines size _ = []

abbrev pub event_text : ℕ → Event → List ℕ
event_text size e = event_line e ++ shown_lines size e
