-- What is defined here, by file.
--   Admissions load_in: how much is in flight or kept
--   Admissions IsOpen: records may still be taken
--   Admissions FoundNoRecord: no record is held, each one popped was taken, and nothing was ..
--   Admissions IsGroupInFlight: a member of a closed instance of the group is in flight
--   Admissions IsMemberAdmitted: A member was added to the cells' list under its group's ..
--   Admissions IsStalled: the record is a member of a group of whose number a closed instance ..
--   Admissions taking_entry
--   Admissions HasTaken: The next record was taken so
--   Admissions AreBlocksSeen: the record's blocks lie within the buffer, as the seat has seen ..
--   Admissions ArePagesClosed: the pages of a buffer that the record closed
--   Admissions GivesSeenPages: pages come out exactly where the record closed a buffer that ..
--   Admissions IsRightOut: A close that waits keeps its right, and stands behind those that ..
--   Admissions IsRecordRefused
--   Admissions IsAdmitted
--   Admissions IsAdmission: what each answer tells of the intake before and after the call, and ..
--   Admissions IsTakenOrStalled: the same of a record that is held: it is taken, or it stays held
--   Admissions admission_of: the answer about a record that was taken with this verdict, and ..
--   Answers lone_slip: the answer to a lone record that ended so
--   Answers group_slip: the answer to an instance of group g that ended so
--   Answers row_slip: the answer that a member made due by settling, if it ended its instance
--   Answers answer_owed: the answer that a record makes due as it ends; a member comes with its ..
--   Entries maker_of: who made an entry
--   Entries Taking: that a record was taken
--   Entries Landing: that a record ended
--   Entries taking_of
--   Entries landing_of
--   Entries takings: the records taken, in order
--   Entries landings: the records that ended, in the order in which they did
--   Entries place_of: the index of a record that was taken
--   Entries envelope_of
--   Entries request_in: what it asks for
--   Entries requests_of: the requests taken, in order
--   Entries is_landing_of
--   IntakeFields intake_state
--   IntakeFields IsIntakeKept: there is room for all closes that may wait
--   Intaken ArePopped: What was popped is what was taken and at most one record more, which is ..
--   Intaken is_turned_below: a turn was made under the client's number, one below the admissions'
--   Intaken AreTurned: The session was turned by the client alone, and ended before it was closed
--   Intaken IsResting: the seat that rests in the intake
--   Intaken IsIntake
--   Laws IsUnforced: buffer v was attached once at most in this history, and released only ..
--   Laws Lends: what the history on which record i was judged lends to it
--   Laws VerdictsAreDefined: While no buffer was released but by a close, the verdicts on the ..
--   Laws HaveOutcomes: each member came back with the outcome that its record has
--   Laws EndsAreAnswers: The end of an instance, as the cells tell it, is the answer of the ..
--   Laws OwnRecordsFly: A record that a hand took, that doesn't wait for pins, and whose end ..
--   Ledgers LedgerState: a ledger, as contracts see it: for how many records it has room, ..
--   Ledgers is_shut
--   Ledgers is_last_turn: the phases that may follow the first one
--   Ledgers slips_to_keep: the answer that a record's end leaves with the intake, if it is to ..
--   Ledgers is_course: a session runs, is told to end, and is closed
--   Ledgers is_taken_open: a record is taken only before the session is closed
--   Ledgers is_before: the record that ended is one of the first n
--   Ledgers IsLedger: what is kept is what the history tells, and there is room for all entries ..
--   Members member_at: record i as a member of its instance; a lone record is none
--   Members members: the members among these requests
--   Members Ending: how a record ended, and the answer that this made due
--   Members landing_ending
--   Members row_ending
--   Members is_of_member: the record that ended is a member
--   Members IsAnswered: a lone record's end made its own answer due
--   Members is_lander: record i was taken by this hand, or waits for pins
--   Members is_by_taker: the record that ended was taken by the hand that tells its end, unless ..
--   Members AreLanded: The records that ended were taken, and each ended once; a lone record ..
--   Members is_member_at
--   Members is_right_out: a member that has not ended
--   Members backs: how many rights that came back are of such records
--   Members AreInCells: The cells were told of the members among the records taken, in order; ..
--   Rights IsRightFor: the right to settle a record that was taken so, not yet used
--   Rights HasRight: it is there exactly for a member
--   Rights IsRightSettled: the right of record i, which was settled as the record ended
--   Rights AreSettled: a member has its right, settled as the record ended; a lone record has none
--   Rows and_row: one row more
--   Rows IsRowSettled: the same rows, but that of this index has this outcome
--   Rows AreRows: so many records were taken, and what is kept of them are the rows that the ..
--   State MemorySeat: a seat at the book of a session's buffers
--   State IntakeState
--   State plan_of_intake: the fixed part
--   State IsForAdmissions: The seat has the admissions' number, one above the client's, of a ..
--   Takings made_for: What an accepted record does to its buffer as it is taken: a read or ..
--   Takings made_under: a refused record does nothing
--   Takings made
--   Takings under: these events, under one number
--   Takings left_by: the entries that a taking left, under the admissions' number
--   Takings judged_on: the buffer history on which a record was judged, as a part of the whole
--   Takings IsJudged: The record was judged on a beginning of the history that is no shorter ..
--   Takings IsPastJudging: an entry that was made for a record stands, at place n, not within ..
--   Takings AreTaken: The records taken have the indexes 0, 1, 2 and so on, and were judged one ..
--   Told turn_of
--   Told turns: the phases that the session was turned to, in order
--   Told phase_in
--   Told is_aborted_phase
--   Told is_over: no record is taken any more
--   Told is_ending: the session was told to end
--   Told was_aborted: the session was aborted at some time
--   Told flights_in
--   Told is_open: whether record i is none of those that ended
--   Told is_out: whether record i is one of so many that were taken, and has not ended
--   Told is_flying
--   Told kept_by
--   Told is_passed
--   Told kept_slips: the answers that wait to be handed on, the oldest first; none once the ..
--   Told seen_of
--   Told memory_front_in: the greatest beginning of the buffer history on which a verdict was ..
--   Told outcome_in: how a record ended; Ok before that
--   Told row_in
--   Told rows_in: the rows of the records taken, by their index
--   Touching IsPinReady: buffer v stands for record i, which has not pinned it, and no record ..
--   Touching IsReadyFor: an accepted record finds its buffer ready
--   Waits is_waiting_at: a close of that index waits
--   Waits IsRecordWaiting: the close that waits is that of a record that was taken so and is in ..
--   Waits IsOfTaking: some taking of these is that of the close that waits
--   Waits AreWaiting: each close that waits is of a record in flight, and no two are of one record
--   Waits HasLeft: The first close of that index left the list: it is that of a record in ..
pub mod Admissions
pub mod Answers
pub mod Entries
pub mod IntakeFields
pub mod Intaken
pub mod Laws
pub mod Ledgers
pub mod Members
pub mod Rights
pub mod State
pub mod Takings
pub mod Rows
pub mod Told
pub mod Touching
pub mod Waits
pub use Admissions.{load_in, IsOpen, FoundNoRecord, IsMemberAdmitted, IsStalled, taking_entry}
pub use Admissions.{HasTaken, AreBlocksSeen, ArePagesClosed, GivesSeenPages, IsRightOut}
pub use Admissions.{IsRecordRefused, IsAdmitted, IsAdmission, IsTakenOrStalled, admission_of}
pub use Answers.{lone_slip, group_slip, row_slip, answer_owed}
pub use Entries.{maker_of, Taking, Landing, taking_of, landing_of, takings, landings, place_of}
pub use Entries.{envelope_of, request_in, requests_of, is_landing_of}
pub use IntakeFields.{intake_state}
pub use Intaken.{ArePopped, is_turned_below, AreTurned, IsResting, IsIntake}
pub use Laws.{Lends, HaveOutcomes}
pub use Ledgers.{LedgerState, is_shut, is_last_turn, slips_to_keep, is_course, is_taken_open}
pub use Ledgers.{is_before, IsLedger}
pub use Members.{member_at, members, Ending, landing_ending, row_ending, is_of_member, IsAnswered}
pub use Members.{is_lander, is_by_taker, AreLanded, is_member_at, is_right_out, backs, AreInCells}
pub use Rights.{HasRight, AreSettled}
pub use State.{MemorySeat, IntakeState, plan_of_intake, IsForAdmissions}
pub use Takings.{made_for, made_under, made, under, left_by, judged_on, IsJudged, IsPastJudging}
pub use Takings.{AreTaken}
pub use Rows.{and_row, IsRowSettled, AreRows}
pub use Told.{turn_of, turns, phase_in, is_aborted_phase, is_over, is_ending, was_aborted}
pub use Told.{flights_in, is_open, is_out, is_flying, kept_by, is_passed, kept_slips, seen_of}
pub use Told.{memory_front_in, outcome_in, row_in, rows_in}
pub use Touching.{IsPinReady}
pub use Waits.{is_waiting_at, IsRecordWaiting, IsOfTaking, AreWaiting, HasLeft}
pub use declared.admission.Admission.{Admission}
pub use declared.entry.IntakeEntry.{IntakeEntry}
pub use declared.entry.IntakeEntry.TheVariants.{Landed, Passed, Took, Turned}
pub use declared.entry.Phase.{Phase}
pub use declared.entry.Phase.TheVariants.{Aborted, Closed, Draining, Running}
pub use declared.entry.RecordEnd.{RecordEnd}
pub use declared.plan.IntakePlan.{IntakePlan}
pub use declared.waiting.Waiting.{Waiting}
