-- What is defined here, by file.
--   Desk DeskState: the ring of its taker, for how many records that was made, the envelopes ..
--   Desk desk_of
--   Desk DeskFoundEmpty: what an empty ring can tell a desk: all that it heard to be pushed was ..
--   DeskFields desk_state
--   DeskFields IsDesk: there is a row for each envelope taken, and room for all
--   Hands AreAllHands: these are all hands of the taker's ring, by their numbers
pub mod Desk
pub mod DeskFields
pub mod Hands
pub use Hands.{AreAllHands}
pub use declared.rings.hand.Hand.{Hand}
