-- What is defined here, by file.
--   Entries is_attach_entry
--   Entries is_fill_or_show
--   Entries given_count: how many buffers were given
--   Entries used_room: how much of its room the client has used
--   Entries pin_count
--   Held Attachment: with how many pages a buffer was attached, and how many records had been ..
--   Held attachment_by: how buffer v was attached, where the entry tells it
--   Held attachment_of
--   Held closer_by: the record that closed buffer v, where the entry tells it
--   Held closer_of
--   Held is_released
--   Held pages_held: the pages of buffer v, which was given and isn't released
--   Held has_blocks: buffer v holds pages, and these blocks are within them
--   Held is_before_close: whether a buffer that was closed by this record, or by none, is still ..
--   Held pages_for
--   Held standing_in: The pages of buffer v, where it stands for record i: it was attached ..
--   Held holds_pages
--   Held first_held: the lowest buffer that holds pages
--   Held is_block_of: buffer v was attached with this block, whether its pages are still here ..
--   Held page_count_of: how many pages buffer v was attached with
--   Held is_given_by: the entry gives buffer v
--   Kept listed: one or no element
--   Kept IsToldBy: a buffer is as its entries tell
--   Kept close_owed: how many entries a buffer may still have, for its close and its release
--   Kept release_owed
--   Kept buffers_owed
--   Kept AreTold: the buffers are as the history tells; those not given yet have no entries
--   Kept IsHistorySound: The history has no entry of a buffer after its release, no pin after ..
--   Kept HasMemoryRoom: there is room for all entries that may come
--   Kept AreNumbered: each entry has the number of the seat that makes such entries
--   Kept IsMemoryKept
--   Numbers is_number_of: what the client does has its number, and what admissions do theirs
--   Numbers is_numbered
--   Numbers is_hand_of: what a record does to its buffer is done by the hand that its pin names
--   Numbers is_by_its_hand
--   PagesHeld ArePagesOf: n pages of this pool, with what the history put into buffer v
--   PagesHeld contents_held: the bytes of each page, where there are pages
--   PagesHeld page_held: page k, where there are pages
--   PagesHeld outline: which pool pages are of, and how many they are
--   PagesHeld is_among: whether block k is one of these
--   PagesHeld page_filled_upto: page k once the blocks from one on, below the other, were filled
--   PagesHeld page_filled: page k once these blocks were filled
--   PagesHeld has_pages_at: whether there are pages, and these blocks are within them
--   PagesHeld pages_standing: the pages of a buffer for record i, by what is kept of it
--   Pins is_pin_for
--   Pins is_done_for
--   Pins is_left: a pin whose record has no done in this history
--   Pins pins_left: the pins without a done
--   Pins is_pin_by: the pin of record i on buffer v, which names this hand
--   Pins is_pinned_by: record i, which this hand carries out, has pinned buffer v
--   Pins pins_on: how many records have pinned buffer v
--   Pins closer_due: the record that closed buffer v, where no pin is left on it
--   State MemoryState
--   State events: what was done
--   State history
--   State block_size_of: the bytes of a page
--   State client_of: the numbers of the client and of the admissions
--   State admissions_of
pub mod Entries
pub mod Held
pub mod Kept
pub mod Numbers
pub mod PagesHeld
pub mod Pins
pub mod State
pub use Entries.{is_attach_entry, is_fill_or_show, given_count, used_room, pin_count}
pub use Held.{Attachment, attachment_by, attachment_of, closer_by, closer_of, is_released}
pub use Held.{pages_held, has_blocks, is_before_close, pages_for, standing_in, holds_pages}
pub use Held.{first_held, is_block_of, page_count_of, is_given_by}
pub use Kept.{listed, IsToldBy, close_owed, release_owed, buffers_owed, AreTold, IsHistorySound}
pub use Kept.{AreNumbered, IsMemoryKept}
pub use Numbers.{is_numbered, is_hand_of, is_by_its_hand}
pub use PagesHeld.{ArePagesOf, contents_held, page_held, outline, is_among, page_filled}
pub use PagesHeld.{has_pages_at, pages_standing}
pub use Pins.{is_pin_for, is_done_for, is_left, pins_left, is_pin_by, is_pinned_by, pins_on}
pub use Pins.{closer_due}
pub use State.{MemoryState, events, history, block_size_of, client_of, admissions_of}
pub use declared.buffer.Buffer.{Buffer}
pub use declared.limits.MemoryLimits.{MemoryLimits}
pub use declared.limits.MemoryPlan.{MemoryPlan}
