use Rattle.std.proofs.Common.{ap, length, map, ◌∙◌}
use Rattle.record_check.proofs.AnswerLemmas.{answer_is}
use Rattle.host_model.specs.{first_failure, row_at}
use Rattle.record_check.proofs.answers.answer_of.Goals as goal

pub returns : goal.returns
returns c = c.response.ensures ∙ answer_is c.args.rs.now c.args.rows.now c.args.i _ _ _ _ _ c.request-r.ensures c.in_ok-records.ensures (c.in_ok-status.ensures ∙ ap (λ ks. first_failure (map (λ k. (row_at c.args.rows.now k).outcome) ks)) c.deref.ensures.value) c.group_of.ensures (ap length c.deref-2.ensures.value)
