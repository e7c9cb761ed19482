-- What is defined here, by file.
--   Blocks HoldsFor: a read or write holds its buffer; a trim needs none, and a flush has no blocks
--   Blocks IsErrandInside: the record lies within its partition
--   Blocks HasRunInTurn: A read's step was made, and its page landed, while the turn of the ..
--   Buffers IsAtBuffers: A seat at the buffers that has neither a ticket nor the turn, with ..
--   Buffers IsOfPool: their pages are of this pool
--   Buffers IsHeld: The record has pinned its buffer, for this hand; the hand hasn't let go of ..
--   Buffers release_of: the release of buffer v, where pages came out
--   Buffers pages_freed: how many pages came out
--   Buffers IsBufferFreed: The pages are of this pool, and the close that waits for them, and ..
--   Buffers HasLetGo: The hand let go of the record's buffer
--   Ends IsRightTo: the right to settle the member of that index, not yet used
--   Ends HasRightTo: it is there exactly for a member
--   Ends IsUsedWith: the right was used with this end, and is still that of the same member
--   Ends WasUsed
--   Ends sender_with_slips: these slips were pushed
--   Ends slips_pushed: the slip that was pushed: the answer, unless there is none or it is kept
--   Ends HasLandedClose: The close of that index, which waited, has landed by this hand, with a ..
--   Ends IsInFlightBy: Record i was taken so by hand n, doesn't wait, and the hand hasn't told ..
--   Ends IsRecordEndOf: The record has ended so: its right was used with that, and the answer ..
--   Ends HasLandedCloseInTurn: The same within a turn: the landing is the last entry
--   Ends LandsFreed: the close whose pages came out, if some did, has landed
--   Errands errand_of: the record in this envelope, for a hand at a session
--   Errands ask_at: the step on its block k
--   Errands asks_upto: the steps on its first n blocks
--   Errands flushes_after: whether a flush comes after its blocks, as after those of a forced write
--   Errands errand_asks: all steps of a transfer: one on each block, and that flush
--   Errands IsStepFor: a step that was made for it
--   Frames pages_released_in: the pages of the buffer that an entry releases
--   Frames pages_by
--   Frames released_by: the pages of the buffers that hand n released
--   Frames is_closer: the record closed a buffer that nothing pinned, so that its pages came out
--   Frames pages_named: the pages of the buffer that a record closed
--   Frames closed_by: the pages of the buffers that the closes took out, of the records that ..
--   Frames taken_out: all pages that hand n took out of buffers
--   Frames frames_out: the same, as its seats have seen it
--   Jobs HasDoneBelow: the hand has let go of no buffer for a record that is still to be taken
--   Jobs HasPassed: The oldest answer that was kept was pushed, and left the intake
--   Jobs HasTakenNext: The next record was taken so by hand n, which has seen the buffer ..
--   Jobs IsJobOf: The record that was taken is this job, and doesn't wait: its verdict is that ..
--   Jobs IsNext: what a look at the session found, by a hand that was told how many records had ..
--   Jobs HasJob: The hand has taken this job, and before that kept the session
--   Kept own_takings: the records that hand n took, and those whose end it told
--   Kept own_landings
--   Kept is_settled: a record has ended, or waits
--   Kept is_judged_within: the record was judged on a beginning of this history
--   Kept IsAtSession: What hand n keeps at a session, over what its own seats have seen of the ..
--   Kept KeepsSession: the same of a hand, which has a seat at the device that has seen these steps
--   Posts IsOnDevice: the partition lies in the device, whose blocks are as long as the session's
--   Posts IsAtDevice: A seat at the device that has neither a ticket nor the turn, with this number
--   Posts IsPosted: The hand is of this session, which was opened with this spec and has its ..
--   Posts IsSameHand: The same hand, at another time, with neither a ticket nor a turn
--   Posts KeepsClaims: the same seat of the pool, with the claims that it had
--   Records steps_for: the steps that it made for record i of session s
--   Records asks_in: the steps that a record asks for
--   Records IsTakenBy: record i was taken so, by hand n, and is to be carried out
--   Records IsStepTaken: a step of a record that the hand took, at a place not below the device ..
--   Records IsPastTaking: The place p is not below the memory front of the record's envelope, ..
--   Records IsMoveTaken: an entry that was made for a record that the hand took, at such a place
--   Records IsClosedBefore: a buffer that was released had been closed by a record
--   Records HasEnded: The record that landed was taken so by hand n, and didn't wait
--   Records HasReleasedBuffer: Hand n released buffer v below the front, and record i had ..
--   Records HasClosedBuffer: The record that landed is a close that waited, and the last pin of ..
--   Records IsEndingRecord: how a record ended whose end hand n told
--   Runs status_by: how a record ends whose last step answered so
--   Runs moved_by: what steps of this kind leave with the buffer
--   Runs IsLiftAt: the lift for the step on block k alone
--   Runs IsSpare: a write that was refused memory before the step on block k may have lifted ..
--   Runs IsRun: These steps were made for the record, the first of those asked for, of which ..
--   Runs HasRun: The run left these entries with the device and the buffers, which had seen so ..
--   Serves HasStepped: These steps were made, all of them for this session
--   Serves HasServed: Hand n visited the session, with its seats at the device and at the pool, ..
--   Visits is_begun: whether an entry begins something: a record was taken, or a kept answer ..
--   Visits begun_by: how much hand n has begun
--   Visits done_at: one thing at a visit that did something, and none at any other
--   Visits is_closed_visit
--   Visits count_told: how many records a note tells to be sent; without one a hand is told of none
--   Visits IsNoteAt: the note is of the requests of the intake at which this seat is
--   Visits MayTake: the session isn't over, and fewer records are in flight and answers kept ..
--   Visits CannotTake: No record can be taken: the session is over; as many records are in ..
--   Visits IsVisitTold: what a visit tells of the intake's history, as the hand's seat has seen ..
--   Visits HasSeenMore: The hand has seen more of the histories of the intake and of the buffers
--   WorkKinds work_for
--   WorkKinds next_for: the record in this envelope is taken to do this, or waits where there ..
--   Works work_verdict: the verdict under which it is work of this kind
--   Works IsFor: what it asks for; a refused record may ask for anything
--   Works IsTransferBy: the op of a transfer, by what the record asks for
--   Works work_by
--   Works IsInPart: a read, write or trim lies within the partition
--   Works HoldsBuffer: a read or write holds its buffer
--   Works IsWithPages: the pages that come with a close are of the pool
--   Works pages_with: how many pages come with it
--   Works IsWork: All that carrying it out may rest on
--   Works IsMoveFor: an entry that was made for record i, other than its pin
--   Works IsOutcome: The record with this verdict ended so, by these steps and these entries at ..
--   Works IsPastBuffers: the end of a record that uses a buffer has seen all of the buffers' ..
--   Works HasCarried: The record was carried out, which left these entries with the device and ..
pub mod Records
pub mod Frames
pub mod Kept
pub mod Posts
pub mod Errands
pub mod Runs
pub mod Buffers
pub mod Blocks
pub mod WorkKinds
pub mod Works
pub mod Ends
pub mod Visits
pub mod Jobs
pub mod Serves
pub use Records.{steps_for, asks_in, IsTakenBy, IsStepTaken, IsPastTaking, IsMoveTaken}
pub use Records.{IsClosedBefore, HasEnded, HasReleasedBuffer, HasClosedBuffer, IsEndingRecord}
pub use Frames.{pages_released_in, pages_by, released_by, is_closer, pages_named, closed_by}
pub use Frames.{taken_out, frames_out}
pub use Kept.{own_takings, own_landings, is_settled, is_judged_within, IsAtSession, KeepsSession}
pub use Posts.{IsOnDevice, IsAtDevice, IsPosted, IsSameHand, KeepsClaims}
pub use Errands.{errand_of, ask_at, asks_upto, flushes_after, errand_asks, IsStepFor}
pub use Runs.{status_by, moved_by, IsSpare, IsRun, HasRun}
pub use Buffers.{IsAtBuffers, IsOfPool, IsHeld, release_of, pages_freed, IsBufferFreed, HasLetGo}
pub use Blocks.{HoldsFor, HasRunInTurn}
pub use WorkKinds.{work_for, next_for}
pub use Works.{work_verdict, IsFor, IsTransferBy, work_by, pages_with, IsWork, IsMoveFor, IsOutcome}
pub use Works.{IsPastBuffers, HasCarried}
pub use Ends.{HasRightTo, WasUsed, sender_with_slips, slips_pushed, HasLandedClose, IsInFlightBy}
pub use Ends.{IsRecordEndOf, HasLandedCloseInTurn, LandsFreed}
pub use Visits.{is_begun, begun_by, done_at, is_closed_visit, count_told, CannotTake, finished}
pub use Visits.{at_limit, all_taken, stalled, IsVisitTold, HasSeenMore}
pub use Jobs.{HasDoneBelow, HasPassed, HasTakenNext, IsJobOf, IsNext, HasJob}
pub use Serves.{HasStepped, HasServed}
pub use declared.carry.Carried.{Carried}
pub use declared.errand.Errand.{Errand}
pub use declared.job.Job.{Job}
pub use declared.next.Next.{Next}
pub use declared.run.Run.{Run}
pub use declared.visit.Visit.{Visit}
pub use declared.work.Work.{Work}
