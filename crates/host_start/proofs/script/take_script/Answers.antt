use Rattle.host_start.proofs.ReadLemmas.{source_gives, source_script}
use Rattle.host_start.proofs.script.take_script.Goals as goal

pub returns-in-Err-clause-text : goal.returns-in-Err-clause-text
returns-in-Err-clause-text g c = λ told. source_gives _ _ c.in-Err.error c.in-Err.ensures.cause

pub returns-in-Err-clause-cause : goal.returns-in-Err-clause-cause
returns-in-Err-clause-cause g c = source_script c.in-Err.error c.in-Err.ensures.cause
