-- The pages that go out of the pool, and come back: what the seats of hands keep, beside what logs
-- and histories tell.
use Rattle.std.specs.Prelude.{◌≡◌, ℕ, ◌+◌, ◌≤◌, true, List, map, sum_by}
use Rattle.std.specs.List.{list_any}
use Rattle.host_frames.specs.declared.seat.PoolSeat.{PoolSeat}
use Rattle.host_frames.specs.Seats.{SomeSeatRefused, frames_asked, claims, given_back, granted}
use Rattle.host_frames.specs.Seats.{seat_pool}
use Rattle.host_log.specs.Sums.{total}
use Rattle.host_hand.specs.Frames.{frames_out, released_by}
use Rattle.host_io.specs.declared.disk.Disk as disk
use Rattle.host_model.specs.declared.event.Event.{Event}
use Rattle.host_model.specs.declared.event.Event.TheVariants.{Attached}
use Rattle.host_report.specs.Lawful.{is_short_of_frames, pages_asked_by}
use Rattle.host_session.specs.Client.{ClientState}
use Rattle.host_turn.specs.Seats.{seen_by}
use Rattle.host_worker.specs.declared.hand.Hand.{Hand}

-- the pages of a buffer that was attached
abbrev pub pages_attached_by : Event → ℕ
pages_attached_by (Attached pages id) = pages
pages_attached_by _ = 0

-- the pages of the buffers that a client attached; that all its attaches asked for; and whether one
-- was refused for want of frames
abbrev pub pages_attached : ClientState → ℕ
pages_attached client = sum_by pages_attached_by client.log

abbrev pub pages_wanted : ClientState → ℕ
pages_wanted client = sum_by pages_asked_by client.log

-- the pages of the buffers that a client released
abbrev pub released_of : ClientState → ℕ
released_of client = released_by client.plan.hands (seen_by client.memory_seat)

module _ {D : Type 0} {g : disk.Ghosts D} where
  -- the pages that a hand took out of buffers
  abbrev pub frames_of : Hand D g → ℕ
  frames_of hand = sum_by (frames_out hand.number) hand.sessions.items

  -- The hand's seat at the pool has made no claim, and has given back as many pages as the hand
  -- took out of buffers.
  pub record HasWorked (old new : Hand D g) : Type 0 where
    pub number : new.number ≡ old.number
    pub pool : (seat_pool new.pool_seat ≡ seat_pool old.pool_seat)
        × (claims new.pool_seat ≡ claims old.pool_seat)
        × (granted new.pool_seat ≡ granted old.pool_seat)
    pub frames : given_back new.pool_seat + frames_of old ≡ given_back old.pool_seat + frames_of new

  -- The same of a hand with a client, which also took pages out of buffers.
  pub record HaveWorked (old new : Hand D g) (client client' : ClientState) : Type 0 where
    pub number : new.number ≡ old.number
    pub pool : (seat_pool new.pool_seat ≡ seat_pool old.pool_seat)
        × (claims new.pool_seat ≡ claims old.pool_seat)
        × (granted new.pool_seat ≡ granted old.pool_seat)
    pub frames : given_back new.pool_seat + (frames_of old + released_of client)
        ≡ given_back old.pool_seat + (frames_of new + released_of client')

  abbrev pub pool_seats_of : List (Hand D g) → List PoolSeat
  pool_seats_of hands = map (λ hand. hand.pool_seat) hands

  -- The hands' seats keep no claims but those that the clients' attaches made, and the pages given
  -- back with these seats are as many as the clients and hands took out of buffers.
  pub record AreAccounted (hands : List (Hand D g)) (clients : List ClientState) : Type 0 where
    pub granted_are : total granted (pool_seats_of hands) ≡ sum_by pages_attached clients
    pub asked_are : total frames_asked (pool_seats_of hands) ≤ sum_by pages_wanted clients
    pub refused : list_any (λ client. list_any is_short_of_frames client.log) clients ≡ true
        → SomeSeatRefused 4096 (pool_seats_of hands)
    pub given_back_are : total given_back (pool_seats_of hands)
        ≡ sum_by frames_of hands + sum_by released_of clients
