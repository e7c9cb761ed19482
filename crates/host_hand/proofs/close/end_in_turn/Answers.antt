-- The close that waited is settled, and its answer is the one owed.
use Rattle.std.proofs.Common.{◌≡◌, sym, ap, subst, ◌∙◌}
use Rattle.host_group.specs.{cells_id}
use Rattle.host_intake.specs.{RecordEnd, answer_owed, landings, requests_of, takings, AreSettled, IntakeState, IsOfTaking}
use Rattle.host_model.specs.{request_at}
use Rattle.host_record.specs.{request_of}
use Rattle.host_record.specs.declared.status.Status.TheVariants as status
use Rattle.host_hand.specs.{WasUsed}
use Rattle.host_hand.proofs.Landed.{waiting_owed, waiting_settled}
use Rattle.host_hand.proofs.close.end_in_turn.Goals as goal

pub landed-requires-clause-right : goal.landed-requires-clause-right
landed-requires-clause-right g c =
    let w = c.in-Some.field-0 in
    let end : RecordEnd = record { outcome = status.Ok; device_front = 0; memory_front = c.args.front } in
    let k = c.in-Some.ensures in
    let es = c.args.intake.now.entries in let right = c.settle-answer.result.right in
    let request : c.from_bytes-request.result ≡ request_of w.envelope.bytes = c.from_bytes-request.ensures.fields in
    subst (λ l. AreSettled (cells_id c.args.cells.now) (requests_of (takings l)) c.args.index end right) (sym (ap (λ (s : IntakeState). s.entries) k.1))
    (waiting_settled (cells_id c.args.cells.now) (takings es) (landings es) w c.args.index end right k.0 (subst (λ x. IsOfTaking x (takings es) (landings es) w) c.requires k.4)
    (subst (λ r. WasUsed (cells_id c.args.cells.now) r end w.right right) request c.settle-answer.ensures.used))

pub landed-requires-clause-answer : goal.landed-requires-clause-answer
landed-requires-clause-answer g c =
    let w = c.in-Some.field-0 in
    let end : RecordEnd = record { outcome = status.Ok; device_front = 0; memory_front = c.args.front } in
    let k = c.in-Some.ensures in
    let es = c.args.intake.now.entries in let right = c.settle-answer.result.right in
    let request : c.from_bytes-request.result ≡ request_of w.envelope.bytes = c.from_bytes-request.ensures.fields in
    c.settle-answer.ensures.answer
    ∙ (ap (λ r. answer_owed r c.args.index end right) request
    ∙ (waiting_owed (cells_id c.args.cells.now) (takings es) (landings es) w c.args.index end right k.0 (subst (λ x. IsOfTaking x (takings es) (landings es) w) c.requires k.4)
    (subst (λ r. WasUsed (cells_id c.args.cells.now) r end w.right right) request c.settle-answer.ensures.used)
    ∙ ap (λ l. answer_owed (request_at (requests_of (takings l)) c.args.index) c.args.index end right) (sym (ap (λ (s : IntakeState). s.entries) k.1))))
