-- What is defined here, by file.
--   Asks script_ask
pub mod Asks
pub use Asks.{script_ask}
