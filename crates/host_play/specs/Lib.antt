-- What is defined here, by file.
--   Actors session_number: the number of a client's session
--   Actors IsClientReady: A client that has done nothing yet, with what it needs to play its ..
--   Actors HasPlayedSession: It played its session of these plans, and closed it
--   Actors HasActed
--   Actors IsCast: One that may begin: its hand is the server's, and new; so is its client, if ..
--   Actors IsSquareWith
--   Actors HasStayed: A worker stays until each session is closed, as its hand has seen them
--   Actors HasPlayedPart: It has done its part
--   Calls CanPlay: a line whose call the client's end allows: a buffer has at least one page, ..
--   Calls MayPlay: A client that may play this line: there is room for its event, and for all ..
--   Calls HasDone: It played the line, and its session goes on
--   Calls IsAsBefore: A client attached no buffer, and none was refused for want of frames; it ..
--   Calls HasClosedClient: It ended its session, which is closed
--   Calls IsSquare: The seat of a hand at the pool has the claims of its client: as many frames ..
--   Calls IsSquareAlone: The same of a hand without a client
--   Calls HasHelped: A hand that helped its client is still the server's, and square with it if ..
--   Calls HasWorkedAlone: A hand that worked alone, until each session of the server was ..
--   Casts AreAllPieces: pieces for each session, by their plans
--   Casts HasTakenClient: the last client was taken, with its pieces, if there is one
--   Casts told_by_client: what is told of a client, if there is one
--   Casts ends_of_client: the end of a client, if there is one
--   Casts IsOneOf: one of these clients, with the pieces at its place
--   Casts IsMadeOf: its client, if it has one, is one of these
--   Casts numbers_of: the numbers of their hands, and what is told of their clients, by their ..
--   Casts of_clients
--   Casts hands_in: their hands, and their clients, by their numbers
--   Casts clients_in
--   Casts AllHavePlayed: each has done its part
--   Counts is_attach_line
--   Counts is_call: whether the line asks for a call, and not to wait
--   Counts attach_count
--   Counts record_count
--   Counts call_count
--   Logs asks_of
--   Logs are_calls: one event for each call asked for, in order
--   Logs HasPlayed: The client has played these lines, and no more
--   Logs PlaysNext: A client that had played some lines has then played this one too
--   Logs HasPlayedOut: The client has played these lines, and has ended so
--   Logs EndsAfter: A client that had played some lines has then ended
--   Opened spec_for: There is room for all that the lines can make: a record for each that ..
--   Opened specs_from: the specs of these sessions on these ranges, numbered from n
--   Opened HasRoomForLines: a spec with such room for these lines
--   Pieces FitsShow: a show is of few enough blocks that its piece's length fits a number of 32 ..
--   Pieces piece_length: how long the piece of a line is, with blocks of this size
--   Pieces piece_lengths
--   Pieces ArePieces: a piece for each line that shows, the last line's first
--   Pieces IsNextPiece: the next one has this length, if one is asked for
--   Pieces WasTaken: it was taken
--   Plays HasPerformed: A server ended so, once its clients had played these plans
--   Plays IsReportOf: The report was gathered from a server that was started with a session for ..
--   Plays KeepsImage: A disk that opened with this image has this history: it is legal, and a ..
--   Stages AreSessionsPlayable: Sessions that can be played: at most sixteen, with few enough ..
--   Stages IsGround: a disk that is attached, with so many blocks of this size, and with ..
--   Stages IsSetting
--   Stages HasRoomForAll: room for so many hands, and for the clients of these specs
--   Stages AreProps
--   Stages IsStaged: A server over this device with these specs, and all that take part: its ..
--   Stages IsSet: A server over this disk with a session for each plan, whose histories are ..
pub mod Actors
pub mod Calls
pub mod Casts
pub mod Counts
pub mod Logs
pub mod Opened
pub mod Pieces
pub mod Plays
pub mod Stages
pub use Actors.{session_number, IsClientReady, HasPlayedSession, HasActed, IsCast, IsSquareWith}
pub use Actors.{HasPlayedPart}
pub use Calls.{CanPlay, MayPlay, HasDone, IsAsBefore, HasClosedClient, IsSquare, IsSquareAlone}
pub use Calls.{HasHelped, HasWorkedAlone}
pub use Casts.{AreAllPieces, HasTakenClient, told_by_client, ends_of_client, IsOneOf, IsMadeOf}
pub use Casts.{numbers_of, of_clients, hands_in, clients_in, AllHavePlayed}
pub use Counts.{is_attach_line, is_call, attach_count, record_count, call_count}
pub use Logs.{asks_of, are_calls, HasPlayed, HasPlayedOut}
pub use Opened.{spec_for, specs_from, HasRoomForLines}
pub use Pieces.{FitsShow, piece_length, piece_lengths, ArePieces, IsNextPiece, WasTaken}
pub use Plays.{HasPerformed, IsReportOf, KeepsImage}
pub use Stages.{AreSessionsPlayable, AreProps, IsStaged, IsSet}
pub use declared.actor.Actor.{Actor}
pub use declared.actor.Client.{Client}
pub use declared.played.Setting.{Setting}
pub use declared.stage.Props.{Props}
pub use declared.stage.Stage.{Stage}
