use Rattle.host_intake.proofs.EndAnswers.{answer_is, index_within}
use Rattle.host_intake.proofs.laws.ends_are_answers.Goals as goal

pub returns : goal.returns
returns c rs rows back g j e have end = (index_within rs rows back g j e have end, answer_is rs rows back g j e have end)
