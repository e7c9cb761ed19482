-- Whether a session's histories are kept in memory.
use Rattle.std.specs.Prelude.{◌≡◌, Bool}
use Rattle.host_session.specs.declared.close.SessionLogs.{SessionLogs}

-- all three are kept, or none
pub record AreKeptAs (keeps : Bool) (logs : SessionLogs) : Type 0 where
  pub log : logs.log.kept ≡ keeps
  pub rows : logs.rows.kept ≡ keeps
  pub memory : logs.memory.kept ≡ keeps
