use Rattle.std.proofs.Common.{refl, codes}
use Rattle.host_words.specs.{run_meaning, run_options, IsProper}
use Rattle.host_words.proofs.Answered.{accepted, meaningless, refused_up}
use Rattle.host_words.proofs.reader.read_run.Goals as goal

proper : IsProper run_options
proper = record { valued = refl; plain = refl }

pub returns-in_err-matches : goal.returns-in_err-matches
returns-in_err-matches c = refused_up run_options run_meaning _ c.from_residual-in_err-matches.result _ c.from_residual-in_err-matches.ensures.1
    (c.in_err-matches.ensures (codes "run") run_options proper c.in_ok-command.ensures)

pub returns-in-Some : goal.returns-in-Some
returns-in-Some c = accepted run_options run_meaning _ c.in_ok-matches.matches _
    (c.in_ok-matches.ensures (codes "run") run_options proper c.in_ok-command.ensures) c.in-Some.ensures

pub returns : goal.returns
returns c = meaningless run_options run_meaning _ c.in_ok-matches.matches
    (c.in_ok-matches.ensures (codes "run") run_options proper c.in_ok-command.ensures) c.in-None.ensures
