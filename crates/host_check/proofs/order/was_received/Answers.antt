use Rattle.std.proofs.Common.{ap, filter, length, map, nat_eq, nat_lt, ◌∙◌}
use Rattle.std.specs.Str.{bytes_eq}
use Rattle.host_model.specs.{answer_bytes, owed, count, received}
use Rattle.host_check.proofs.order.was_received.Goals as goal

pub returns : goal.returns
returns c =
    ap (λ n. nat_eq n c.times-2.result) (c.times.ensures ∙ ap (count (bytes_eq c.in_ok-bytes.bytes)) (c.deref.ensures.value ∙ c.in_ok-received.ensures))
    ∙ ap (λ n. nat_eq (count (bytes_eq c.in_ok-bytes.bytes) (received c.args.log.now)) n) (c.times-2.ensures ∙ ap (count (bytes_eq c.in_ok-bytes.bytes)) (c.deref-2.ensures.value ∙ c.in_ok-due.ensures))
    ∙ ap (λ bytes. nat_eq (count (bytes_eq bytes) (received c.args.log.now)) (count (bytes_eq bytes) (map (answer_bytes c.args.rs.now c.args.rows.now) (filter (λ i. nat_lt i (length c.args.rows.now)) (owed c.args.rs.now))))) c.in_ok-bytes.ensures
