use Rattle.std.proofs.Common.{◌≡◌, ℕ, ◌<◌, ◌++◌, true, List, Some, length, sym, ap, subst, ◌∙◌, arith}
use Rattle.std.specs.List.{list_all}
use Rattle.std.specs.Option.{is_some}
use Rattle.host_model.specs.{MemEntry}
use Rattle.host_memory.specs.{standing_in, is_numbered, MemoryState, admissions_of, client_of, history}
use Rattle.host_record.specs.{opcode}
use Rattle.host_log.specs.{Adds, Continues}
use Rattle.host_turn.specs.{number, seen_by, fixed_part}
use Rattle.host_intake.specs.{takings, made_for, made_under, under, IsPinReady}
use Rattle.host_intake.proofs.Accepting.{accepted_attached}
use Rattle.host_intake.proofs.Judging.{hand_of, taken_longer}
use Rattle.host_intake.proofs.NextTaken.{plan_of_seat, taken_next, pages_next}
use Rattle.host_intake.proofs.Readiness.{ready}
use Rattle.host_intake.proofs.judge.judge_next.Goals as goal

pub touch-touched-requires : goal.touch-touched-requires
touch-touched-requires g c accepted names =
    let memory = c.enter_past-memory.result in let ts = takings c.args.ledger.now.entries in let first = seen_by c.args.seat.now in
    let same = c.enter_past-memory.ensures.seat.0 in let story = c.enter_past-memory.ensures.story in
    let more : Continues hand_of (number c.args.seat.now) first memory.entries = subst (λ (w : List MemEntry). Continues hand_of (number c.args.seat.now) first w) (sym story) c.enter_past-memory.ensures.later in
    let fixed : fixed_part c.args.seat.now ≡ Some memory.plan = sym same.3 ∙ c.enter_past-memory.ensures.fixed_part in
    let admits = plan_of_seat c.args.ledger.now.room c.args.seat.now memory.plan fixed c.requires.seat.1 in
    let k = taken_longer c.args.part.now (number c.args.seat.now) first memory.entries ts more c.requires.taken in
    let numbered = subst (λ (n : ℕ). list_all (is_numbered (client_of memory) n) memory.entries ≡ true) (sym admits.0) c.vouch.ensures.numbers in
    let r = c.from_bytes-request.result in let index = c.taken-index.ensures in
    let stands = subst (λ (n : ℕ). is_some (standing_in r.vmoid n (history memory)) ≡ true) index
    (accepted_attached c.args.part.now (standing_in r.vmoid c.taken-index.result (history memory)) r (sym c.verdict_on-verdict.ensures ∙ accepted) names) in
    let few : length ts < memory.plan.limits.records = (let a = c.requires.room in let b = admits.1 in omega arith) in
    subst (λ (n : ℕ). IsPinReady (history memory) memory.plan.limits.records n r.vmoid) (sym index)
    (ready c.args.part.now (client_of memory) (number c.args.seat.now) memory.entries ts k numbered memory.plan.limits.records r.vmoid few stands)

pub leave-requires-clause-story : goal.leave-requires-clause-story
leave-requires-clause-story g c =
    let memory = c.enter_past-memory.result in let ts = takings c.args.ledger.now.entries in let first = seen_by c.args.seat.now in
    let same = c.enter_past-memory.ensures.seat.0 in let story = c.enter_past-memory.ensures.story in
    let more : Continues hand_of (number c.args.seat.now) first memory.entries = subst (λ (w : List MemEntry). Continues hand_of (number c.args.seat.now) first w) (sym story) c.enter_past-memory.ensures.later in
    let fixed : fixed_part c.args.seat.now ≡ Some memory.plan = sym same.3 ∙ c.enter_past-memory.ensures.fixed_part in
    let admits = plan_of_seat c.args.ledger.now.room c.args.seat.now memory.plan fixed c.requires.seat.1 in
    subst (λ (n : ℕ). Adds hand_of n (seen_by c.enter_past-memory.new.seat) c.touch-touched.new.memory.entries) (sym admits.0 ∙ sym same.2)
    (subst (λ (w : List MemEntry). Adds hand_of (admissions_of memory) w c.touch-touched.new.memory.entries) story c.touch-touched.ensures.adds)

pub returns-clause-taken : goal.returns-clause-taken
returns-clause-taken g c =
    let memory = c.enter_past-memory.result in let ts = takings c.args.ledger.now.entries in let first = seen_by c.args.seat.now in
    let same = c.enter_past-memory.ensures.seat.0 in let story = c.enter_past-memory.ensures.story in
    let more : Continues hand_of (number c.args.seat.now) first memory.entries = subst (λ (w : List MemEntry). Continues hand_of (number c.args.seat.now) first w) (sym story) c.enter_past-memory.ensures.later in
    let fixed : fixed_part c.args.seat.now ≡ Some memory.plan = sym same.3 ∙ c.enter_past-memory.ensures.fixed_part in
    let admits = plan_of_seat c.args.ledger.now.room c.args.seat.now memory.plan fixed c.requires.seat.1 in
    let r = c.from_bytes-request.result in
    let is = c.leave.ensures.story ∙ (ap (λ (m : MemoryState). m.entries) c.touch-touched.ensures.entries ∙ ap (λ n. memory.entries ++ under n (made_under c.verdict_on-verdict.result (made_for (opcode r) c.taken-index.result r.vmoid c.args.hand c.touch-touched.result.waits))) (sym admits.0)) in
    taken_next c.args.part.now (number c.args.seat.now) first memory.entries (seen_by c.leave.new.seat) ts
    record { hand = c.args.hand; envelope = c.args.envelope.now; verdict = c.verdict_on-verdict.result; waits = c.touch-touched.result.waits; seen = c.length-seen.result }
    r c.taken-index.result c.from_bytes-request.ensures.fields (c.taken-index.ensures ∙ sym c.requires.index)
    c.requires.taken more c.requires.index c.length-seen.ensures c.enter_past-memory.ensures.past c.verdict_on-verdict.ensures c.touch-touched.ensures.waits is

pub returns-clause-pages : goal.returns-clause-pages
returns-clause-pages g c =
    let memory = c.enter_past-memory.result in let ts = takings c.args.ledger.now.entries in let first = seen_by c.args.seat.now in
    let same = c.enter_past-memory.ensures.seat.0 in let story = c.enter_past-memory.ensures.story in
    let more : Continues hand_of (number c.args.seat.now) first memory.entries = subst (λ (w : List MemEntry). Continues hand_of (number c.args.seat.now) first w) (sym story) c.enter_past-memory.ensures.later in
    let fixed : fixed_part c.args.seat.now ≡ Some memory.plan = sym same.3 ∙ c.enter_past-memory.ensures.fixed_part in
    let admits = plan_of_seat c.args.ledger.now.room c.args.seat.now memory.plan fixed c.requires.seat.1 in
    let r = c.from_bytes-request.result in
    pages_next c.leave.new.seat memory.plan memory.entries _
    record { hand = c.args.hand; envelope = c.args.envelope.now; verdict = c.verdict_on-verdict.result; waits = c.touch-touched.result.waits; seen = c.length-seen.result }
    r c.touch-touched.result.pages c.from_bytes-request.ensures.fields (c.leave.ensures.seat.0.3 ∙ c.enter_past-memory.ensures.fixed_part) c.length-seen.ensures
    (c.leave.ensures.story ∙ ap (λ (m : MemoryState). m.entries) c.touch-touched.ensures.entries) c.touch-touched.ensures.some c.touch-touched.ensures.pages
