-- The bytes written are the response's, so they read as the response.
use Rattle.std.proofs.Common.{rules, ap, ◌∙◌}
use Rattle.host_record.specs.{response_of}
use Rattle.host_record.proofs.ResponseLemmas.{response_of_bytes}
use Rattle.host_record.proofs.response.encoded.Goals as goal

pub returns-clause-bytes : goal.returns-clause-bytes
returns-clause-bytes c = search rules

pub returns-clause-again : goal.returns-clause-again
returns-clause-again c = ap response_of (returns-clause-bytes c) ∙ response_of_bytes c.args.response (search rules) (search rules) (search rules) (search rules)
