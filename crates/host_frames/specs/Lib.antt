-- What is defined here, by file.
--   Badges frames_of_pages: the frames of pages, the last first
--   Badges IsInWords: the claim bit of the page's frame is in one of these words
--   Badges badge_frames: the frames that a badge names
--   Badges badge_page_size
--   Badges alone: what the views of a badge are: one view, of pages that are out, or none
--   Badges seen_page: a page as contracts see it
--   Badges ArePagesWhole: what holds of pages and the badge that goes with them
--   Claims won_by: how often a frame was won by the claims
--   Claims taken_by: how often they found it taken
--   Claims frames_in_claims: how many frames they asked for
--   Claims times_met: how often the claim has won a frame or found it taken
--   Claims Covers: the claim has won each frame below a number, or found it taken
--   Claims IsFair: it won no more than it asked for
--   Claims AreFair
--   Claims IsClaimRefused: the claim went over all frames of the pool, and got too few
--   Claims SomeIsRefused
--   Homes IsBlankPage: a page of n bytes that are all zero
--   Homes IsBlankSlot: a slot with such a page
--   Homes pages_at_home: how many of the slots have their page
--   Moments IsIdle: a seat that claims nothing just now
--   Moments IsNextToFetch: this frame's page is fetched next
--   Moments IsNextHome: this frame comes home next
--   Moments IsFetching: these frames were won, and their pages go to pages with those frames
--   Moments HasPutPage: this frame's slot is out with the seat, with a blank page in it
--   Moments fetched_view: the seat has these frames still to fetch, and those pages
--   Moments IsMaskBelow: the frames of a mask at word i are below a number
--   Moments IsPick: the mask has just those bits between two places that are clear in n
--   Moments claiming_view: the view of a seat whose claim has come so far, with the pages of ..
--   Moments refusing_view: a claim that is taken back, whose seat still has these frames
--   Moments returning_view: frames that come home, of which these are still out
--   Moments HasBlankPages: blank pages with these frames
--   Moments HasClaimed: a claim of n frames that began at the view v, with a page for each ..
--   Moments HasGoneOn: a later moment of a claim, which has met no frame less often
--   Moments HasMetWord: the claim has won each frame of word i, or found it taken
--   PageLending with_bytes: the page with other bytes
--   PageLending LendsBytes
--   PagesLending written: as many of these bytes as fit, before what is left of the old ones
--   PagesLending with_page: the page i with other bytes
--   PagesLending LendsPage
--   Rule OnePlace: the rule, over any type of page
--   Seats SeenPages: pages as contracts see them: which pool it is, how many pages fit, and the ..
--   Seats contents: the bytes of each page
--   Seats room: how many pages fit
--   Seats pool_id: which pool it is: its table, and how long a page is
--   Seats seat_pool: which pool a seat is of
--   Seats pages_pool: which pool claimed pages are of
--   Seats page_size: how long a page is
--   Seats frame_count: how many frames the pool was made with
--   Seats seat_count: how many seats it was made with
--   Seats claims: the claims of a seat, the last first
--   Seats frames_asked: how many frames its claims asked for
--   Seats granted: how many frames its claims got, a refused one none
--   Seats given_back: how many frames were given back with it
--   Seats IsNewSeat: a seat of this pool that has claimed nothing yet
--   Seats SomeSeatRefused: a claim of some seat was refused
--   Seats all_claims: the claims of all seats
--   Seats StandsForAll: a seat stands for all these, with their claims and numbers
--   Seats HasGathered: a seat with the view v has taken in all these
--   Steps Seated
--   Steps BeginsClaim: a claim begins, for as many frames as the step's operand
--   Steps LooksAtWord: the frames whose bits are set were found taken
--   Steps WinsFrames: of the bits that the operand sets, those that were clear are won, and the ..
--   Steps FetchesPage: the slot of the first frame to fetch is taken, with its blank page
--   Steps LeavesSlot: the slot that was taken last goes home empty
--   Steps TakesSlot: the empty slot of the first frame that is out is taken
--   Steps BringsHome: a bit is cleared, and the slot goes home with its page
--   Steps GivesUp: the same, in a claim that is refused
--   Sums claim_bit: the claim bit of a frame: the bit j of word i is that of frame 64 i + j
--   Sums put_where: x before xs, unless the bit is 0
--   Sums set_frames: the frames of word i whose bits in n are set, of k bits from the bit j on
--   Sums frames_in: the frames of word i whose bits in n are set
--   Views times_out: ---- what the rule counts how often the view names a frame whose page is out
--   Views times_to_fetch: how often it names a frame that it has won, and whose page is in its slot
--   Views times_held: how often it names a frame whose slot is out with the seat
--   Views named_count: how many frames it names
--   Views share_of
--   Views granted_of
--   Views given_back_of
--   Views times_won
--   Views times_taken
--   Views IsViewQuiet: a view that stands for no seat has no claim and no number
--   Views idle_view: ---- views of seats a seat that has claimed nothing yet, and stands for n ..
--   Views first_view: the view that the pool is made with: it makes the seats
--   Views view_after_making: the maker, after it has made the next seat
--   Views new_seat_view: the seat that the maker makes
--   Views gathered_view: it has taken in another seat for good
--   Views spent_view: it was taken in
--   Views out_view: ---- views of pages that are out the view of pages with these frames
--   Views packed_view: the frames of one claim, under a view of their own
--   Views emptied_view: the seat without them
--   Views unpacked_view: the seat with the frames of pages that come back
--   Views new_claim: ---- what a step makes of a view
--   Views asking_view: a claim of n frames begins
--   Views looks: the claim finds taken those frames of word i whose bits in n are set
--   Views won_in: the frames of word i that a mask wins where it finds n
--   Views wins: the claim wins them, and finds the others of the mask taken
--   Views on_first: the last claim changes
--   Views looking_view: the last claim looks at word i, and finds n
--   Views winning_view: the last claim sets the bits of a mask in word i, and finds n
--   Views first_of
--   Views others
--   Views fetching_view: the slot of a frame that was won is taken
--   Views settled_view: the slot goes home, and its page is out
--   Views reached_view: the slot of a page that is out is taken
--   Views returned_view: a frame is given back
--   Views yielded_view: a refused claim gives up a frame
pub mod Sums
pub mod Claims
pub mod Views
pub mod Rule
pub mod Steps
pub mod Homes
pub mod Badges
pub mod Moments
pub mod Seats
pub mod PageLending
pub mod PagesLending
pub use Sums.{claim_bit, put_where, set_frames}
unfoldable pub use Sums.{frames_in}
pub use Claims.{won_by, taken_by, frames_in_claims, times_met, Covers, IsFair, AreFair}
pub use Claims.{SomeIsRefused}
pub use Views.{times_out, times_to_fetch, times_held, named_count, share_of, granted_of}
pub use Views.{given_back_of, times_won, times_taken, IsViewQuiet, idle_view, first_view}
pub use Views.{view_after_making, new_seat_view, gathered_view, spent_view, out_view, packed_view}
pub use Views.{emptied_view, unpacked_view, new_claim, asking_view, looks, won_in, wins, on_first}
pub use Views.{looking_view, winning_view, first_of, others, fetching_view, settled_view}
pub use Views.{reached_view, returned_view, yielded_view}
pub use Rule.{OnePlace}
pub use Steps.{BeginsClaim, LooksAtWord, WinsFrames, FetchesPage, LeavesSlot, TakesSlot, BringsHome}
pub use Steps.{GivesUp}
pub use Homes.{IsBlankPage, IsBlankSlot, pages_at_home}
pub use Badges.{frames_of_pages, IsInWords, badge_page_size, alone, seen_page, ArePagesWhole}
pub use Moments.{IsIdle, IsNextToFetch, IsNextHome, IsFetching, fetched_view, IsPick, claiming_view}
pub use Moments.{refusing_view, returning_view, HasClaimed, HasGoneOn}
pub use Seats.{SeenPages, contents, pool_id, seat_pool, pages_pool, page_size, frame_count, claims}
pub use Seats.{frames_asked, granted, given_back, IsNewSeat, SomeSeatRefused, all_claims}
pub use Seats.{StandsForAll, HasGathered}
pub use PageLending.{with_bytes}
pub use PagesLending.{with_page}
pub use declared.page.Page.{Page}
pub use declared.pool.Pool.{Pool}
pub use declared.rule.Opening.{Opening}
pub use declared.seat.PoolSeat.{PoolSeat}
pub use declared.view.Claim.{Claim}
pub use declared.view.View.{View}
