-- What makes one session of a run lawful.
use Rattle.host_model.specs.Answers.{AreDueAnswers}
use Rattle.host_model.specs.Buffers.{IsBufferHistory}
use Rattle.host_model.specs.Carrying.{AreCarriedOut}
use Rattle.host_model.specs.Order.{KeepsOrder}
use Rattle.host_model.specs.Session.{Session}
use Rattle.host_model.specs.Taking.{IsTakenInOrder}

pub record IsLawfulSession (s : Session) : Type 0 where
  pub taken : IsTakenInOrder s
  pub carried : AreCarriedOut s
  pub answered : AreDueAnswers s
  pub buffers : IsBufferHistory s
  pub ordered : KeepsOrder s
