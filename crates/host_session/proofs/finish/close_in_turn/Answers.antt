use Rattle.std.proofs.Common.{◌≡◌, max, MatchBool, true, ap, sym, subst, ◌∙◌}
use Rattle.host_session.specs.{IsClosedInTurn, IsOpenInTurn, is_landed}
use Rattle.host_session.proofs.Shutting.{closed_in_turn, open_in_turn, unlanded_in_turn, when_false, when_true}
use Rattle.host_session.proofs.finish.close_in_turn.Goals as goal

pub returns-then-not-is_landed-clause-answer : goal.returns-then-not-is_landed-clause-answer
returns-then-not-is_landed-clause-answer g c =
    let a = c.args in
    unlanded_in_turn a.client a.wanted a.front a.intake.now a.memory_seat.now a.seat.now (sym c.is_landed.ensures ∙ c.if-not-is_landed.true) c.requires.memory.1 c.requires.front

pub returns-then-attempt-clause-answer : goal.returns-then-attempt-clause-answer
returns-then-attempt-clause-answer g c =
    let a = c.args in
    let s = a.intake.now in
    let r = c.release_all-attempt in
    let landed : is_landed a.wanted s.entries ≡ true = sym c.is_landed.ensures ∙ c.if-not-is_landed.false in
    let f = c.max-front.ensures ∙ ap (λ n. max a.front n) c.memory_front.ensures in
    subst (λ b. MatchBool b (IsClosedInTurn a.client a.wanted a.front s c.shut.new.self a.memory_seat.now r.new.memory_seat a.seat.now r.new.seat r.result.memory_front) (IsOpenInTurn a.client a.wanted a.front s c.shut.new.self a.memory_seat.now r.new.memory_seat a.seat.now r.new.seat r.result.memory_front)) (sym c.if-attempt.true)
    (closed_in_turn a.client a.wanted a.front c.max-front.result s c.shut.new.self a.memory_seat.now r.new.memory_seat a.seat.now r.new.seat r.result.memory_front landed f r.ensures.0 c.shut.ensures.entry
    (when_true _ _ r.result.closed c.if-attempt.true r.ensures.1))

pub returns-else-attempt-clause-answer : goal.returns-else-attempt-clause-answer
returns-else-attempt-clause-answer g c =
    let a = c.args in
    let s = a.intake.now in
    let r = c.release_all-attempt in
    let landed : is_landed a.wanted s.entries ≡ true = sym c.is_landed.ensures ∙ c.if-not-is_landed.false in
    let f = c.max-front.ensures ∙ ap (λ n. max a.front n) c.memory_front.ensures in
    subst (λ b. MatchBool b (IsClosedInTurn a.client a.wanted a.front s s a.memory_seat.now r.new.memory_seat a.seat.now r.new.seat r.result.memory_front) (IsOpenInTurn a.client a.wanted a.front s s a.memory_seat.now r.new.memory_seat a.seat.now r.new.seat r.result.memory_front)) (sym c.if-attempt.false)
    (open_in_turn a.client a.wanted a.front c.max-front.result s s a.memory_seat.now r.new.memory_seat a.seat.now r.new.seat r.result.memory_front landed f r.ensures.0
    (when_false _ _ r.result.closed c.if-attempt.false r.ensures.1))
