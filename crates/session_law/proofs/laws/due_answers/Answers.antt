use Rattle.session_law.proofs.Due.{due_answers}
use Rattle.session_law.proofs.laws.due_answers.Goals as goal

pub returns : goal.returns
returns c = due_answers
