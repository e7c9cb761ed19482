-- What is defined here, by file.
--   Accounts pages_attached_by: the pages of a buffer that was attached
--   Accounts pages_attached: the pages of the buffers that a client attached; that all its ..
--   Accounts pages_wanted
--   Accounts released_of: the pages of the buffers that a client released
--   Accounts frames_of: the pages that a hand took out of buffers
--   Accounts HasWorked: The hand's seat at the pool has made no claim, and has given back as ..
--   Accounts HaveWorked: The same of a hand with a client, which also took pages out of buffers
--   Accounts pool_seats_of
--   Accounts AreAccounted: The hands' seats keep no claims but those that the clients' attaches ..
--   Ends HandEnd: What is left of a hand: the device's steps that it has seen, and what it has ..
--   Ends hand_end
--   Ends EndsState: what contracts see of the ends: the sessions, whether they are kept, how ..
--   Ends ends_seen
--   Ends shares_in: what the hands have of session k
--   Ends IsSessionEnd: Session k as it ended: whole, with its client and what its hands have of ..
--   Ends IsStory: The device's steps are those of the hands, and each is of one of so many sessions
--   Ends frames_by: the pages that the hands took out of buffers
--   Ends frames_from: the pages that hands, counted from n, and clients took out of buffers
--   Ends AreEnded: The ends of a server that had these clients and hands
--   Ends IsEnded: ends of some server that was started and finished
--   Finishes IsToEnd: A session with its client and all its hands, to be ended, whose histories ..
--   Finishes IsSessionEndOf: It ended so
--   Finishes AreToEnd: each with its client
--   Finishes AreSessionsEnded
--   Finishes AreClosed: All clients of a server, by their sessions, each closed
--   Finishes AreHands: all hands of a server, by their numbers
--   Finishes HasRoomFor: there is room for the parts of so many hands
--   Finishes parts_in: what hands have of session k
--   Finishes without_room: a hand without the room for closing
--   Finishes AreBack: each session has what the hands had of it
--   Finishes HasTakenBack: The hands were taken apart, and each part came to its place
--   Forced IsForcedLanding: The record that landed is a forced write, taken so, that ended well
--   Forced KeepsForcedWrites: Whichever history of the device begins with these steps, each ..
--   Forced KeepsForcedOfEach: at each of its sessions
--   Gathered reported: the report that was gathered
--   Gathered report_on: the report of these ends, whether or not it is kept
--   Gathered IsReportGathered: A report of these ends, which are those of a server with these ..
--   Hands AreNamed: all steps of hand n name one of so many sessions
--   Hands IsPartOf: what hand n has of a session: its seats, with all that a hand keeps there
--   Hands IsClosingRoom: room for the seats of so many hands, and for the ends of so many ..
--   Hands pool_seat_of
--   Hands with_pool_seat
--   Hands IsHandOf: A hand of this server: its seats have its number, at the device, the pool ..
--   Hands IsNewHand: it has seen and done nothing
--   Laws is_in_range: whether the block lies in the range
--   Laws inside: a history without the changes of blocks outside the range
--   Laws ContentIsOfOwnEntries: What the blocks of a range have after a history is what they ..
--   Servers plan_of_session: the fixed part of a session
--   Servers shared_of: what its client and its hands share
--   Servers IsSession: Session k of a server with so many hands, over a device with so many ..
--   Servers pool_of
--   Servers session_count
--   Servers block_count: how many blocks the device has
--   Servers block_size: how long a block is
--   Servers keeps_of: whether its histories are kept
--   Servers IsSessionShared: what is shared of the session of this number
--   Servers IsServer: A server that runs: the device had no steps at first, the pool has all ..
--   Servers IsClientOf: the client of a session of this server
--   SessionEnds listed_log: the entries of a log, kept or not, as a list with room
--   SessionEnds report_of
--   SessionEnds IsSessionReportOf: The report says of the session what its end says
--   SessionEnds HasPutReport: One report more stands at the end, that of this session
--   Shares specs_of: the specs of the sessions, and their clients as they were opened
--   Shares openings_of
--   Shares HasHands: a session that has its first n hands
--   Shares IsSessionOpenedFor: a session that was opened for so many hands, and has the first n ..
--   Shares AreOpenedFor
--   Shares HasOneMore: The second is the first session with one hand more
--   Shares HaveOneMore: Each session has one hand more: its own part of a share
--   Shares IsNewShare: what hand n has of sessions that were opened so: nothing done yet
--   Starts IsPlanned: a session that can be opened over blocks of this size
--   Starts AreSpecs: At most sixteen, numbered from 1, each on a range of a device with so many ..
--   Starts AreOpened: Sessions of these specs, with new clients; the first n hands of each are ..
--   Starts HasOpened: one session more was opened
--   Starts HasGiven: the last hand of session k was taken out
--   Starts AreShares: the share of each hand, by their numbers
--   Starts AreSharesDealt: All hands of the sessions were dealt out, to so many shares
--   Starts IsPrepared: sessions of these specs, all dealt out, a pool with its seats, and room ..
--   Starts IsStarted: A server over this device, with a session for each spec
--   Turns IsClosed: the session is closed, as the hand has seen it
--   Turns IsHandQuiet: it is closed, or no record could be taken there, by one that wasn't told ..
--   Turns HasBegunOne: hand n has begun one thing at the session
--   Turns is_did
--   Turns has_done
--   Turns things_in: how many things a turn did
--   Turns found_after: what was found, with a visit more that did nothing
--   Turns joined_turns: what two rounds found together
--   Turns EachOf: this holds of what the hand has of each session at a place from one on and ..
--   Turns SomeOpen: some session in between isn't closed, as the hand has seen it
--   Turns HasBegun: the hand has begun one thing at a session in between
--   Turns IsRound: What a hand found at the sessions in between
--   Turns IsFound: the same, of a round that has done nothing yet
--   Turns AreOthersSame: what it has of the other sessions is as it was
--   Turns begun_in: how much the hand has begun at all its sessions together
--   Turns IsNoteFor: the note is of what was sent to session k
--   Turns IsOwnTold: Where a turn did nothing, no record could be taken at session k, of as ..
--   Turns HasVisited: The hand visited session k, where it was told so, and brought a note of ..
--   Waits received_events: the events of these answers
--   Waits HasAnswerRoom: The log has room for an answer to each record sent that wasn't ..
--   Waits KeepsRoom: there is as much room for it as before
--   Waits KeepsRoomBut: the same, but for so many events
--   Waits MayWait: the client hasn't drained or aborted, and its log has such room
--   Waits ReceivesOwed: A log that goes on by answers received has more of them only as far as ..
--   Waits HasReceived: The client received these answers, and did nothing else
--   Waits HasSent: It received answers, and then sent a record with these bytes and this index
--   Waits HasDrained: It was ended by a drain, received answers, and was closed
--   Waits HasAborted: It was ended by an abort, received nothing more, and was closed
pub mod Accounts
pub mod Ends
pub mod Finishes
pub mod Forced
pub mod Gathered
pub mod Hands
pub mod Laws
pub mod Servers
pub mod SessionEnds
pub mod Shares
pub mod Starts
pub mod Turns
pub mod Waits
pub use Accounts.{pages_attached_by, pages_attached, pages_wanted, released_of, frames_of}
pub use Accounts.{HasWorked, HaveWorked, pool_seats_of, AreAccounted}
pub use Ends.{HandEnd, hand_end, EndsState, ends_seen, shares_in, IsSessionEnd, IsStory, frames_by}
pub use Ends.{frames_from, AreEnded}
pub use Finishes.{IsToEnd, IsSessionEndOf, AreToEnd, AreSessionsEnded, AreClosed, AreHands}
pub use Finishes.{HasRoomFor, parts_in, without_room, AreBack, HasTakenBack}
pub use Gathered.{IsReportGathered}
pub use Hands.{AreNamed, IsPartOf, IsClosingRoom, pool_seat_of, with_pool_seat, IsHandOf, IsNewHand}
pub use Laws.{is_in_range, inside, ContentIsOfOwnEntries}
pub use Servers.{plan_of_session, shared_of, IsSession, pool_of, session_count, block_count}
pub use Servers.{block_size, keeps_of, IsSessionShared, IsServer, IsClientOf}
pub use SessionEnds.{report_of, IsSessionReportOf}
pub use Shares.{specs_of, openings_of, HasHands, IsSessionOpenedFor, AreOpenedFor, HasOneMore}
pub use Shares.{HaveOneMore, IsNewShare}
pub use Starts.{IsPlanned, AreSpecs, AreOpened, HasOpened, HasGiven, AreShares, AreSharesDealt}
pub use Starts.{IsStarted}
pub use Turns.{IsClosed, IsHandQuiet, HasBegunOne, is_did, has_done, things_in, found_after}
pub use Turns.{joined_turns, EachOf, SomeOpen, HasBegun, IsRound, IsFound, AreOthersSame, begun_in}
pub use Turns.{IsNoteFor, IsOwnTold, HasVisited}
pub use Waits.{received_events, HasAnswerRoom, KeepsRoom, KeepsRoomBut, MayWait, ReceivesOwed}
pub use Waits.{HasReceived, HasSent, HasDrained, HasAborted}
pub use declared.hand.Hand.{Hand}
pub use declared.prepare.Opened.{Opened}
pub use declared.room.ClosingRoom.{ClosingRoom}
pub use declared.server.Server.{Server}
pub use declared.session.Session.{Session}
pub use declared.session_end.SessionEnd.{SessionEnd}
pub use declared.started.Started.{Started}
pub use declared.turned.Turn.{Turn}
pub use declared.turned.Turn.TheVariants.{AllClosed, Did, Idle}
