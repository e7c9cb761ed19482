use Rattle.std.proofs.Common.{refl}
use Rattle.host_start.proofs.ImageLemmas.{content_of}
use Rattle.host_start.proofs.ready.not_ready.Goals as goal

pub returns-in_default-clause-handed : goal.returns-in_default-clause-handed
returns-in_default-clause-handed c = (λ some. content_of c.args.error c.requires.of_table c.in_default.not-Oom c.requires.no_fault, λ content. refl)
