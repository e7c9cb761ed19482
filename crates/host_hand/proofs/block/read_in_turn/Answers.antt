use Rattle.std.proofs.Common.{◌≡◌, ◌++◌, ◌∷◌, [], ℕ, List, Result, Ok, Err, refl, ap, subst, ◌∙◌}
use Rattle.std.specs.Prelude.{IfOk}
use Rattle.host_block.specs.{Read}
use Rattle.host_device.specs.{StepError, answer_alone, entries_added, step_made}
use Rattle.host_memory.specs.{MemoryState}
use Rattle.host_model.specs.{Land, Step}
use Rattle.host_turn.specs.{seen_by}
use Rattle.host_hand.specs.{ask_at}
use Rattle.host_log.specs.{HasGrown}
use Rattle.host_hand.proofs.BlockTurns.{failed_in_turn, landed_in_turn, on_block, refused_in_turn}
use Rattle.host_hand.proofs.block.read_in_turn.Goals as goal

pub returns-in_default-clause-run : goal.returns-in_default-clause-run
returns-in_default-clause-run g c =
    let e = c.args.errand.now in
    refused_in_turn e Read c.args.k (ask_at e Read c.args.k) c.refused.result c.args.front c.args.memory.now.entries c.room_to_land.new.memory.entries (seen_by c.args.device_seat.now) c.refused.ensures c.requires.front
    (ap (λ (s : MemoryState). s.entries) c.room_to_land.ensures.same)

pub returns-in-Ok-answer-clause-run : goal.returns-in-Ok-answer-clause-run
returns-in-Ok-answer-clause-run g c =
    let e = c.args.errand.now in
    let r = c.read_at-read in
    let w = r.new.into in
    let s = seen_by c.args.device_seat.now in
    let u = seen_by r.new.seat in
    let mid = c.room_to_land.new.memory.entries in
    let is : c.in-Ok-answer.bytes ≡ w = subst (λ (a : Result (List ℕ) StepError). IfOk a (λ bytes. bytes ≡ w)) c.in-Ok-answer.is r.ensures.bytes in
    let step = subst (λ (a : Result (List ℕ) StepError). HasGrown (λ (y : Step). y.hand) e.hand e.device_front r.result.front (entries_added (answer_alone a) (step_made e.hand e.session e.index c.args.k Read c.block.result w)) s u) c.in-Ok-answer.is r.ensures.step in
    landed_in_turn e c.args.k c.args.page (record { answer = Ok tt; front = r.result.front }) tt w c.args.memory.now.entries mid c.land.new.self.entries s u refl
    (on_block e c.args.k c.block.result Read w (Ok tt) r.result.front s u c.block.ensures step) r.ensures.front c.requires.page.1
    (ap (λ (s : MemoryState). s.entries) c.room_to_land.ensures.same)
    (c.land.ensures.entry ∙ ap (λ b. mid ++ record { hand = e.hand; what = Land e.index c.args.k e.request.vmoid c.args.page b } ∷ []) is)

pub returns-clause-run : goal.returns-clause-run
returns-clause-run g c =
    let e = c.args.errand.now in
    let r = c.read_at-read in
    let w = r.new.into in
    let s = seen_by c.args.device_seat.now in
    let u = seen_by r.new.seat in
    let step = subst (λ (a : Result (List ℕ) StepError). HasGrown (λ (y : Step). y.hand) e.hand e.device_front r.result.front (entries_added (answer_alone a) (step_made e.hand e.session e.index c.args.k Read c.block.result w)) s u) c.in-Err.is r.ensures.step in
    failed_in_turn e c.args.k (record { answer = Err c.in-Err.error; front = r.result.front }) c.in-Err.error w c.args.memory.now.entries c.room_to_land.new.memory.entries s u refl
    (on_block e c.args.k c.block.result Read w (Err c.in-Err.error) r.result.front s u c.block.ensures step) r.ensures.front
    (ap (λ (s : MemoryState). s.entries) c.room_to_land.ensures.same)
