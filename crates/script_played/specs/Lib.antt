-- What is defined here, by file.
--   Laws log_after: what the log tells of before the call that follows these lines
--   Laws OwedAsWritten: before each line's call the records of the log owe as many answers as ..
--   Laws FitIn: the device makes no more steps than this, and each session no more lifts and ..
--   Laws HistoriesFit: the histories of a lawful run fit into the room that its script asks for
--   Played ask_of: what a line asks of its client
--   Played asked_of: what the lines of one session ask of its client
--   Played PlaysPlans: the run played these plans
--   Played Plays: the run played the script
--   Room by_record: what f gives of the line's record
--   Room flush_steps: a flush makes one step, and a forced write has one flush
--   Room steps_by_request: a record makes one step for each block that it moves, and those of ..
--   Room steps_in
--   Room steps_ahead: the steps of all sessions, and the closing flush
--   Room is_move
--   Room moves_by_request: a read or write lifts or lands one page for each of its blocks
--   Room moves_in
pub mod Laws
pub mod Played
pub mod Room
pub use Laws.{OwedAsWritten, HistoriesFit}
pub use Played.{ask_of, asked_of, PlaysPlans}
pub use Room.{by_record, flush_steps, steps_by_request, is_move, moves_by_request}
unfoldable pub use Room.{steps_in, steps_ahead, moves_in}
