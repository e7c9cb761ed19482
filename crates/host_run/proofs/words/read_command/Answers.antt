use Rattle.std.proofs.Common.{map}
use Rattle.host_run.proofs.Numbers.{reads}
use Rattle.host_run.proofs.words.read_command.Goals as goal

pub returns : goal.returns
returns c = reads (map (λ w. w.now) c.args.words.now) c.read_words.result c.read_words.ensures.command c.read_words.ensures.refused
