-- Two sessions are opened.
use Rattle.std.proofs.Common.{refl}
use Rattle.host_record.specs.{opcode}
use Rattle.run_rows.specs.{OpensSessions}
use Rattle.script_played.specs.{moves_in, steps_ahead, steps_in}

pub opens_sessions : OpensSessions
unfolding opcode moves_in steps_ahead steps_in
opens_sessions = record { specs = refl; steps = refl; pieces = refl }
