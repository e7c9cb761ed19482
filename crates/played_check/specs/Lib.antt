-- What is defined here, by file.
--   Plans played_ask
--   Plans played_plan
--   Plans calls_by
--   Plans is_waited_at: whether as much was received before the client's call of this number as ..
--   Plans are_waited_from
pub mod Plans
pub use Plans.{played_ask, calls_by, is_waited_at, are_waited_from}
pub use declared.plan.Ask.{Ask}
