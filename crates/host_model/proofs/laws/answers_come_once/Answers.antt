use Rattle.host_model.proofs.Exactly.{answers_come_once}
use Rattle.host_model.proofs.laws.answers_come_once.Goals as goal

pub returns : goal.returns
returns c = answers_come_once
