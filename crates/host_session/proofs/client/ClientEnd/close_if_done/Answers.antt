use Rattle.std.proofs.Common.{◌≡◌, ◌&&◌, false, true, cond, nat_lt, IsSome, inr, sym, ap, subst, ◌∙◌}
use Rattle.host_log.specs.{SwitchedLog}
use Rattle.host_model.specs.{Event}
use Rattle.host_session.specs.{ClientState, is_aborted, is_drained, client_state, IsClosing, IsStillOpen, owed_count}
use Rattle.host_session.proofs.EndedFields.{abort_kept, aborted_else, closed_answer, drain_event, drain_kept, no_event, none_ended, open_answer, open_kept, waiting_answer}
use Rattle.host_log.proofs.Bools.{not_false, not_true}
use Rattle.host_session.proofs.Logged.{end_fits}
use Rattle.host_session.proofs.Shutting.{when_false, when_true}
use Rattle.host_session.proofs.client.ClientEnd.close_if_done.Goals as goal

pub returns-then-is_waiting : goal.returns-then-is_waiting
returns-then-is_waiting g c =
    let a = c.self.inside in
    let k = c.self.invariant in
    let waits : (is_drained a.finish && nat_lt a.received a.owed) ≡ true = ap (λ d. d && nat_lt a.received a.owed) (sym c.is_drained-drained.ensures) ∙ (sym c.is_waiting.ensures ∙ c.if-is_waiting.true) in
    subst (λ (s : ClientState). (s.closed ≡ false) × IsStillOpen s s c.args.seat.now c.args.seat.now) c.self.view_is
    (waiting_answer (client_state a) c.args.seat.now k.client c.if-self.false
    (subst (λ n. (is_drained a.finish && nat_lt n (owed_count a.log.items)) ≡ true) k.counted.received (subst (λ n. (is_drained a.finish && nat_lt a.received n) ≡ true) k.counted.owed waits)))

pub invariant_of-self : goal.invariant_of-self
invariant_of-self g c =
    let a = c.self.inside in
    let r = c.try_to_close-attempt in
    let wanted : c.wanted_for.result ≡ cond (is_drained a.finish) a.sent 0 = c.wanted_for.ensures ∙ ap (λ d. cond d a.sent 0) c.is_drained-drained.ensures in
    let answered : (is_drained a.finish && nat_lt a.received a.owed) ≡ false = ap (λ d. d && nat_lt a.received a.owed) (sym c.is_drained-drained.ensures) ∙ (sym c.is_waiting.ensures ∙ c.if-is_waiting.false) in
    open_kept a c.self.invariant c.if-self.false r.new.intake_seat r.new.memory_seat c.args.seat.now r.new.seat c.wanted_for.result r.result.memory_front wanted answered
    (when_false _ _ r.result.closed (not_true r.result.closed c.if-not-attempt.true) r.ensures)

pub returns-then-not-attempt : goal.returns-then-not-attempt
returns-then-not-attempt g c =
    let a = c.self.inside in
    let r = c.try_to_close-attempt in
    let wanted : c.wanted_for.result ≡ cond (is_drained a.finish) a.sent 0 = c.wanted_for.ensures ∙ ap (λ d. cond d a.sent 0) c.is_drained-drained.ensures in
    let answered : (is_drained a.finish && nat_lt a.received a.owed) ≡ false = ap (λ d. d && nat_lt a.received a.owed) (sym c.is_drained-drained.ensures) ∙ (sym c.is_waiting.ensures ∙ c.if-is_waiting.false) in
    let new : ClientState = client_state (record a { fronts = record { device = a.fronts.device; memory = r.result.memory_front }; intake_seat = r.new.intake_seat; memory_seat = r.new.memory_seat }) in
    subst (λ (s : ClientState). (s.closed ≡ false) × IsStillOpen s new c.args.seat.now r.new.seat) c.self.view_is
    (open_answer a c.self.invariant c.if-self.false r.new.intake_seat r.new.memory_seat c.args.seat.now r.new.seat c.wanted_for.result r.result.memory_front wanted answered
    (when_false _ _ r.result.closed (not_true r.result.closed c.if-not-attempt.true) r.ensures))

pub invariant_of-self-then-not-drained : goal.invariant_of-self-then-not-drained
invariant_of-self-then-not-drained g c =
    let a = c.self.inside in
    let r = c.try_to_close-attempt in
    let wanted : c.wanted_for.result ≡ cond (is_drained a.finish) a.sent 0 = c.wanted_for.ensures ∙ ap (λ d. cond d a.sent 0) c.is_drained-drained.ensures in
    let answered : (is_drained a.finish && nat_lt a.received a.owed) ≡ false = ap (λ d. d && nat_lt a.received a.owed) (sym c.is_drained-drained.ensures) ∙ (sym c.is_waiting.ensures ∙ c.if-is_waiting.false) in
    let aborted : is_aborted a.finish ≡ true = aborted_else a.finish (subst (λ (s : ClientState). IsSome s.finish) (sym c.self.view_is) c.requires.ended) (sym c.is_drained-drained.ensures ∙ c.if-not-drained.true) in
    abort_kept a c.self.invariant c.if-self.false r.new.intake_seat r.new.memory_seat c.args.seat.now r.new.seat c.wanted_for.result r.result.memory_front wanted answered
    (when_true _ _ r.result.closed (not_false r.result.closed c.if-not-attempt.false) r.ensures) aborted

pub returns-then-not-drained : goal.returns-then-not-drained
returns-then-not-drained g c =
    let a = c.self.inside in
    let r = c.try_to_close-attempt in
    let wanted : c.wanted_for.result ≡ cond (is_drained a.finish) a.sent 0 = c.wanted_for.ensures ∙ ap (λ d. cond d a.sent 0) c.is_drained-drained.ensures in
    let answered : (is_drained a.finish && nat_lt a.received a.owed) ≡ false = ap (λ d. d && nat_lt a.received a.owed) (sym c.is_drained-drained.ensures) ∙ (sym c.is_waiting.ensures ∙ c.if-is_waiting.false) in
    let aborted : is_aborted a.finish ≡ true = aborted_else a.finish (subst (λ (s : ClientState). IsSome s.finish) (sym c.self.view_is) c.requires.ended) (sym c.is_drained-drained.ensures ∙ c.if-not-drained.true) in
    let new : ClientState = client_state (record a { closed = true; fronts = record { device = a.fronts.device; memory = r.result.memory_front }; intake_seat = r.new.intake_seat; memory_seat = r.new.memory_seat }) in
    inr (subst (λ (s : ClientState). (s.closed ≡ false) × IsClosing s new c.args.seat.now r.new.seat) c.self.view_is
    (closed_answer a c.self.invariant c.if-self.false r.new.intake_seat r.new.memory_seat c.args.seat.now r.new.seat c.wanted_for.result r.result.memory_front wanted answered
    (when_true _ _ r.result.closed (not_false r.result.closed c.if-not-attempt.false) r.ensures) a.log (no_event a.finish a.log.items aborted)))

pub push-requires : goal.push-requires
push-requires g c =
    let a = c.self.inside in
    end_fits a c.self.invariant (none_ended a.finish a.closed (sym c.is_drained-drained.ensures ∙ c.if-not-drained.false) c.if-self.false)

pub invariant_of-self-2 : goal.invariant_of-self-2
invariant_of-self-2 g c =
    let a = c.self.inside in
    let r = c.try_to_close-attempt in
    let wanted : c.wanted_for.result ≡ cond (is_drained a.finish) a.sent 0 = c.wanted_for.ensures ∙ ap (λ d. cond d a.sent 0) c.is_drained-drained.ensures in
    let answered : (is_drained a.finish && nat_lt a.received a.owed) ≡ false = ap (λ d. d && nat_lt a.received a.owed) (sym c.is_drained-drained.ensures) ∙ (sym c.is_waiting.ensures ∙ c.if-is_waiting.false) in
    drain_kept a c.self.invariant c.if-self.false r.new.intake_seat r.new.memory_seat c.args.seat.now r.new.seat c.wanted_for.result r.result.memory_front wanted answered
    (when_true _ _ r.result.closed (not_false r.result.closed c.if-not-attempt.false) r.ensures) c.push.new.self c.push.ensures (sym c.is_drained-drained.ensures ∙ c.if-not-drained.false)

pub returns : goal.returns
returns g c =
    let a = c.self.inside in
    let r = c.try_to_close-attempt in
    let wanted : c.wanted_for.result ≡ cond (is_drained a.finish) a.sent 0 = c.wanted_for.ensures ∙ ap (λ d. cond d a.sent 0) c.is_drained-drained.ensures in
    let answered : (is_drained a.finish && nat_lt a.received a.owed) ≡ false = ap (λ d. d && nat_lt a.received a.owed) (sym c.is_drained-drained.ensures) ∙ (sym c.is_waiting.ensures ∙ c.if-is_waiting.false) in
    let drained : is_drained a.finish ≡ true = sym c.is_drained-drained.ensures ∙ c.if-not-drained.false in
    let new : ClientState = client_state (record a { log = c.push.new.self; closed = true; fronts = record { device = a.fronts.device; memory = r.result.memory_front }; intake_seat = r.new.intake_seat; memory_seat = r.new.memory_seat }) in
    inr (subst (λ (s : ClientState). (s.closed ≡ false) × IsClosing s new c.args.seat.now r.new.seat) c.self.view_is
    (closed_answer a c.self.invariant c.if-self.false r.new.intake_seat r.new.memory_seat c.args.seat.now r.new.seat c.wanted_for.result r.result.memory_front wanted answered
    (when_true _ _ r.result.closed (not_false r.result.closed c.if-not-attempt.false) r.ensures) c.push.new.self (ap (λ (x : SwitchedLog Event). x.items) c.push.ensures ∙ drain_event a.finish a.log.items drained)))
