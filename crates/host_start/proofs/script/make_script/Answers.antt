use Rattle.host_start.proofs.ReadLemmas.{makes, makes_fit}
use Rattle.host_start.proofs.script.make_script.Goals as goal

pub returns-clause-script : goal.returns-clause-script
returns-clause-script c = makes c.args.size _ c.in_ok-script.script c.judge.result c.in_ok-script.ensures c.judge.ensures.judges

pub returns-clause-fit : goal.returns-clause-fit
returns-clause-fit c = makes_fit c.args.size c.args.seed c.args.sessions c.args.requests c.judge.result c.requires.sessions (makes c.args.size _ c.in_ok-script.script c.judge.result c.in_ok-script.ensures c.judge.ensures.judges)
