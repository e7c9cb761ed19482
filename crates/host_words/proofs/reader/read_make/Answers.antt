use Rattle.std.proofs.Common.{refl, codes}
use Rattle.host_words.specs.{make_meaning, make_options, IsProper}
use Rattle.host_words.proofs.Answered.{accepted, meaningless, refused_up}
use Rattle.host_words.proofs.reader.read_make.Goals as goal

proper : IsProper make_options
proper = record { valued = refl; plain = refl }

pub returns-in_err-matches : goal.returns-in_err-matches
returns-in_err-matches c = refused_up make_options make_meaning _ c.from_residual-in_err-matches.result _ c.from_residual-in_err-matches.ensures.1
    (c.in_err-matches.ensures (codes "make") make_options proper c.in_ok-command.ensures)

pub returns-in-Some : goal.returns-in-Some
returns-in-Some c = accepted make_options make_meaning _ c.in_ok-matches.matches _
    (c.in_ok-matches.ensures (codes "make") make_options proper c.in_ok-command.ensures) c.in-Some.ensures

pub returns : goal.returns
returns c = meaningless make_options make_meaning _ c.in_ok-matches.matches
    (c.in_ok-matches.ensures (codes "make") make_options proper c.in_ok-command.ensures) c.in-None.ensures
