use Rattle.host_start.proofs.ReadLemmas.{means, means_fit}
use Rattle.host_start.proofs.script.meant.Goals as goal

pub returns-in-Ok-clause-means : goal.returns-in-Ok-clause-means
returns-in-Ok-clause-means c = means c.args.size c.args.text.now c.in-Ok.script c.judge.result c.in-Ok.ensures c.judge.ensures.judges

pub returns-in-Ok-clause-fit : goal.returns-in-Ok-clause-fit
returns-in-Ok-clause-fit c = means_fit c.args.size c.args.text.now c.judge.result (means c.args.size c.args.text.now c.in-Ok.script c.judge.result c.in-Ok.ensures c.judge.ensures.judges)
