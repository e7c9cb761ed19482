use Rattle.std.proofs.Common.{ap, filter, length, map, nat_lt, ◌∙◌}
use Rattle.std.specs.Str.{bytes_eq}
use Rattle.host_model.specs.{answer_bytes, owed, same_counts, received}
use Rattle.record_check.proofs.answered.exactly_due.Goals as goal

pub returns : goal.returns
returns c =
    c.are_as_often.ensures
    ∙ ap (λ got. same_counts bytes_eq got c.deref-3.result.now) (c.deref-2.ensures.value ∙ c.in_ok-received.ensures)
    ∙ ap (λ due. same_counts bytes_eq (received c.args.log.now) due) (c.deref-3.ensures.value ∙ c.in_ok-due.ensures)
    ∙ ap (λ rs. same_counts bytes_eq (received c.args.log.now) (map (answer_bytes rs c.args.rows.now) (filter (λ i. nat_lt i (length c.args.rows.now)) (owed rs)))) (c.deref.ensures.value ∙ c.in_ok-rs.ensures)
