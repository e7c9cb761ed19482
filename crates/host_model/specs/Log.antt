-- What a client's log tells of what was sent, received and given.
use Rattle.std.specs.Prelude.{ℕ, zero, suc, ◌∷◌, ◌==◌, if◌then◌else◌, List, [], map, length}
use Rattle.std.specs.Prelude.{filter_map, get_or, slice_get, Option, Some, None}
use Rattle.host_record.specs.declared.request.Request.{Request}
use Rattle.host_record.specs.Request.{request_of}
use Rattle.host_model.specs.declared.event.Event.{Event}
use Rattle.host_model.specs.declared.event.Event.TheVariants.{Attached, Sent, Received}

-- the record that was sent, and its index
abbrev pub sent_bytes : Event → Option (List ℕ)
sent_bytes (Sent index bytes) = Some bytes
sent_bytes _ = None

abbrev pub sent_index : Event → Option ℕ
sent_index (Sent index bytes) = Some index
sent_index _ = None

-- the answer that was received
abbrev pub received_bytes : Event → Option (List ℕ)
received_bytes (Received bytes) = Some bytes
received_bytes _ = None

-- the buffer that was given
abbrev pub given_id : Event → Option ℕ
given_id (Attached pages id) = Some id
given_id _ = None

-- the pages of buffer v, where the event gave it
abbrev pub pages_of : ℕ → Event → Option ℕ
pages_of v (Attached pages id) = if id == v then Some pages else None
pages_of v _ = None

-- the records sent, in order
abbrev pub sent : List Event → List (List ℕ)
sent log = filter_map sent_bytes log

-- the answers received, in order
abbrev pub received : List Event → List (List ℕ)
received log = filter_map received_bytes log

-- the buffer ids given, in order
abbrev pub given : List Event → List ℕ
given log = filter_map given_id log

-- the pages of buffer v, where these events gave it
abbrev pub pages_given : ℕ → List Event → Option ℕ
pages_given v log = slice_get (filter_map (pages_of v) log) 0

-- the requests sent, in order
abbrev pub requests : List Event → List Request
requests log = map request_of (sent log)

-- the request of that index
abbrev pub request_at : List Request → ℕ → Request
request_at rs i = get_or rs i (request_of [])

-- the events before record i was sent; all where it wasn't
abbrev pub before_sent : List Event → ℕ → List Event
before_sent [] i = []
before_sent (Sent index bytes ∷ log) zero = []
before_sent (Sent index bytes ∷ log) (suc i) = Sent index bytes ∷ before_sent log i
before_sent (e ∷ log) i = e ∷ before_sent log i

-- how many those are
abbrev pub sending : List Event → ℕ → ℕ
sending log i = length (before_sent log i)

-- the pages of buffer v, where it was given before record i was sent
abbrev pub given_before : List Event → ℕ → ℕ → Option ℕ
given_before log i v = pages_given v (before_sent log i)
