use Rattle.std.proofs.Common.{◌≡◌, not, length, filter, ap, arith}
use Rattle.host_model.specs.{Event, count, is_end}
use Rattle.host_session.specs.{ClientState, ends_logged}
use Rattle.host_session.proofs.Times.{count_split}
use Rattle.host_session.proofs.client.ClientEnd.event_count.Goals as goal

pub overflow_sub-result : goal.overflow_sub-result
overflow_sub-result c =
    let a = c.self.inside in
    let n : length (filter is_end a.log.items) ≡ length (ends_logged a.finish a.closed) = ap length c.self.invariant.client.ended.logged in
    omega (arith, n, count_split is_end a.log.items, c.end_count.ensures, c.len.ensures)

pub returns : goal.returns
returns c =
    let a = c.self.inside in
    let n : length (filter is_end a.log.items) ≡ length (ends_logged a.finish a.closed) = ap length c.self.invariant.client.ended.logged in
    let here : count (λ (e : Event). not (is_end e)) a.log.items ≡ count (λ (e : Event). not (is_end e)) c.args.self.now.log = ap (λ (s : ClientState). count (λ (e : Event). not (is_end e)) s.log) c.self.view_is in
    omega (arith, here, n, count_split is_end a.log.items, c.end_count.ensures, c.len.ensures)
