-- What a line of a client leaves, beside its log.
use Rattle.std.specs.Prelude.{◌≡◌, ◌⊎◌, ◌+◌, ◌<◌, ◌≤◌, true, length, None, Some, if◌then◌else◌}
use Rattle.std.specs.List.{list_any}
use Rattle.host_frames.specs.Claims.{SomeIsRefused}
use Rattle.host_frames.specs.Seats.{frames_asked, claims, given_back, granted}
use Rattle.host_io.specs.declared.disk.Disk as disk
use Rattle.host_model.specs.Log.{given, sent}
use Rattle.host_record.specs.declared.finish.Finish.{Finish}
use Rattle.host_report.specs.Lawful.{is_short_of_frames}
use Rattle.host_session.specs.Client.{ClientState, room_left}
use Rattle.host_worker.specs.Accounts.{frames_of, pages_attached, pages_wanted, released_of}
use Rattle.host_worker.specs.Hands.{IsHandOf, pool_seat_of}
use Rattle.host_worker.specs.Servers.{session_count}
use Rattle.host_worker.specs.Turns.{EachOf, IsClosed}
use Rattle.host_worker.specs.Waits.{MayWait}
use Rattle.host_worker.specs.declared.hand.Hand.{Hand}
use Rattle.host_worker.specs.declared.server.Server.{Server}
use Rattle.script_model.specs.declared.script.ScriptLine.{ScriptLine}
use Rattle.script_model.specs.declared.script.ScriptLine.TheVariants.{Attach}
use Rattle.script_model.specs.Limit.{is_record}
use Rattle.host_play.specs.Counts.{is_attach_line, is_call}
use Rattle.host_play.specs.Logs.{EndsAfter, PlaysNext}

-- a line whose call the client's end allows: a buffer has at least one page, and no more than the
-- pool has
abbrev pub CanPlay : ScriptLine → Type 0
CanPlay (Attach pages) = (1 ≤ pages) × (pages ≤ 4096)
CanPlay _ = Unit {0}

-- A client that may play this line: there is room for its event, and for all answers that are still
-- to come; for a record that it sends, and for a buffer that it attaches.
pub record MayPlay (line : ScriptLine) (client : ClientState) : Type 0 where
  pub waits : MayWait (if is_call line then 1 else 0) client
  pub room : is_call line ≡ true → 1 ≤ room_left client
  pub records : is_record line ≡ true → length (sent client.log) < client.plan.spec.records
  pub ids : is_attach_line line ≡ true
      → (length (given client.log) < client.plan.spec.attaches)
      ⊎ (length (given client.log) ≡ 65535)

-- It played the line, and its session goes on.
pub record HasDone (line : ScriptLine) (old new : ClientState) : Type 0 where
  pub plan : new.plan ≡ old.plan
  pub open_still : new.finish ≡ None
  pub log : PlaysNext line old.log new.log

-- A client attached no buffer, and none was refused for want of frames; it released none.
pub record IsAsBefore (old new : ClientState) : Type 0 where
  pub attached : pages_attached new ≡ pages_attached old
  pub wanted : pages_wanted new ≡ pages_wanted old
  pub short : list_any is_short_of_frames new.log ≡ list_any is_short_of_frames old.log
  pub released : released_of new ≡ released_of old

-- It ended its session, which is closed.
pub record HasClosedClient (finish : Finish) (old new : ClientState) : Type 0 where
  pub plan : new.plan ≡ old.plan
  pub finish_is : new.finish ≡ Some finish
  pub closed_is : new.closed ≡ true
  pub log : EndsAfter finish old.log new.log

module _ {D : Type 0} {g : disk.Ghosts D} where
  -- The seat of a hand at the pool has the claims of its client: as many frames as the buffers have
  -- that were attached; and all pages went back with it that the hand and its client took out of
  -- buffers.
  pub record IsSquare (hand : Hand D g) (client : ClientState) : Type 0 where
    pub granted_is : granted (pool_seat_of hand) ≡ pages_attached client
    pub asked_within : frames_asked (pool_seat_of hand) ≤ pages_wanted client
    pub refused : list_any is_short_of_frames client.log ≡ true
        → SomeIsRefused 4096 (claims (pool_seat_of hand))
    pub given_back_is : given_back (pool_seat_of hand) ≡ frames_of hand + released_of client

  -- The same of a hand without a client.
  pub record IsSquareAlone (hand : Hand D g) : Type 0 where
    pub granted_is : granted (pool_seat_of hand) ≡ 0
    pub asked_is : frames_asked (pool_seat_of hand) ≡ 0
    pub given_back_is : given_back (pool_seat_of hand) ≡ frames_of hand

  -- A hand that helped its client is still the server's, and square with it if it was.
  pub record HasHelped (server : Server D g) (old new : Hand D g) (client client' : ClientState)
      : Type 0 where
    pub hand : IsHandOf server new
    pub number_is : new.number ≡ old.number
    pub account : IsSquare old client → IsSquare new client'

  -- A hand that worked alone, until each session of the server was closed, as it has seen them.
  pub record HasWorkedAlone (server : Server D g) (old new : Hand D g) : Type 0 where
    pub hand : IsHandOf server new
    pub number_is : new.number ≡ old.number
    pub account : IsSquareAlone old → IsSquareAlone new
    pub closed : EachOf 0 (session_count server) IsClosed new
