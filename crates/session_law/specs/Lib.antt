-- What is defined here, by file.
--   Answering DueAnswers: where each hand pushed just what its own entries at the intake handed on
--   Buffers AreBuffersTold: The client's entries are those of its log; each show gave what the ..
--   Buffers BuffersTold
--   Carrying IsLandingCarried: A record that was taken so was carried out by the steps made for ..
--   Carrying AreCarried: each record that ended was carried out
--   Draining DrainsComeLast: No answer follows the drain, since as many were received before it ..
--   Fronts envelope_fronts: the fronts in an envelope
--   Fronts DoFrontsRise: From act to act a client end only knows more of both histories
--   Fronts FrontsRise
--   Gathered IsSessionGathered: The session of this client end and these hands: its log, its ..
--   Gathered EndsDrained: a drained log ends with its end event
--   Gathered ReleaseClosed: a hand releases only buffers that were closed before; hands have ..
--   Handing PushedAsTold: each hand pushed just what its own entries handed on
--   Hands Ended: record i ended so
--   Hands IsStepDone: A step of an accepted record, at a place not below the device front of ..
--   Hands IsMoveDone: What a hand did to the buffers for record i: it took the record, which ..
--   Hands IsEndPast: The end of a record that was taken so is past what taking it left; the end ..
--   Hands KeepFronts: What hands do stands between the fronts of the record's envelope and ..
--   Hands steps_in: the steps of a session
--   Idle IdleVisitsTell: A visit isn't idle where one record was sent and nothing has been ..
--   KeptHands HasKept: Hand n kept the session, over what its seat at the device has seen: a ..
--   KeptHands HaveKept: All hands of the session kept it, and made all the steps that name it
--   KeptHands HandsKeepSessions
--   Lawful AreKept: What is known of a session besides its two ends: the hands handed on, ..
--   Lawful SessionsAreLawful
--   Ordering OrderKept
--   Pages attached_by: the pages of a buffer that was attached
--   Pages taken_from: the pages that hands, counted from n, took out of buffers
--   Pages PagesComeBack: by the hands, and by the client as it closed the session
--   Taking TakenInOrder: the rows are those of the first records sent, with the verdicts that ..
--   Using UsedRightly
pub mod Fronts
pub mod Gathered
pub mod Taking
pub mod Buffers
pub mod Handing
pub mod Answering
pub mod Hands
pub mod Ordering
pub mod Using
pub mod Carrying
pub mod Lawful
pub mod Draining
pub mod KeptHands
pub mod Pages
pub mod Idle
pub use Fronts.{envelope_fronts, DoFrontsRise, FrontsRise}
pub use Gathered.{IsSessionGathered, EndsDrained, ReleaseClosed}
pub use Taking.{TakenInOrder}
pub use Buffers.{AreBuffersTold, BuffersTold}
pub use Handing.{PushedAsTold}
pub use Answering.{DueAnswers}
pub use Hands.{Ended, IsStepDone, IsMoveDone, IsEndPast, KeepFronts, steps_in}
pub use Ordering.{OrderKept}
pub use Using.{UsedRightly}
pub use Carrying.{IsLandingCarried}
pub use Lawful.{AreKept, SessionsAreLawful}
pub use Draining.{DrainsComeLast}
pub use KeptHands.{HasKept, HaveKept, HandsKeepSessions}
pub use Pages.{attached_by, taken_from, PagesComeBack}
pub use Idle.{IdleVisitsTell}
