use Rattle.std.proofs.Common.{◌↔◌, IsTrue, subst, sym}
use Rattle.host_block.specs.{IsLegal}
use Rattle.host_model.specs.{changes_of}
use Rattle.host_check.proofs.LegalLemmas.{legal_is}
use Rattle.host_check.proofs.legal.is_legal.Goals as goal

pub returns : goal.returns
returns c = subst (λ b. IsTrue b ↔ IsLegal c.args.image.now (changes_of c.args.steps.now)) (sym c.in_ok-legal.ensures) (legal_is c.args.image.now c.args.steps.now)
