-- The lines of refusals.
use Rattle.std.specs.Prelude.{◌≡◌, [], codes}
use Rattle.host_run.specs.Refusals.{refusal_line}
use Rattle.host_run.specs.declared.status.RunStatus.TheVariants.{BadScript, ClosingFault, Done}
use Rattle.host_run.specs.declared.status.RunStatus.TheVariants.{NoPart, SinkFault, TooLarge}
use Rattle.host_start.specs.declared.error.Limit.TheVariants as limit
use Rattle.script_model.specs.declared.cause.ScriptCause.TheVariants.{BadHex, UnknownWord}

pub record RefusalsHaveLines : Type 0 where
  pub word : refusal_line (BadScript 7 UnknownWord) ≡ codes "refused 4 line 7 word\n"
  pub hex : refusal_line (BadScript 1000 BadHex) ≡ codes "refused 4 line 1000 hex\n"
  pub blocks : refusal_line (TooLarge limit.Blocks) ≡ codes "refused 9 blocks\n"
  pub script : refusal_line (TooLarge limit.ScriptBytes) ≡ codes "refused 9 script\n"
  pub part : refusal_line (NoPart 1 3) ≡ codes "refused 10 session 1 part 3\n"
  pub none : (refusal_line Done ≡ []) × (refusal_line ClosingFault ≡ [])
      × (refusal_line SinkFault ≡ [])
