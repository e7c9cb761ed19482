-- One block of a record, in a turn of the buffers and after it.
use Rattle.std.proofs.Common.{◌≡◌, ℕ, ◌+◌, ◌<◌, ◌≤◌, Result, Ok, Err, List, [], ◌∷◌, ◌++◌, length, refl, sym, ap, subst, ◌∙◌, arith, append-nil}
use Rattle.std.specs.Prelude.{IfOk, OnErr}
use Rattle.host_block.specs.{Op, Read, Write, Trim}
use Rattle.host_device.specs.{StepError, Oom, entries_added, step_made}
use Rattle.host_intake.specs.{under}
use Rattle.host_model.specs.{MemEntry, Lift, Land, Step, Ask, lift_for}
use Rattle.host_log.specs.{Continues, HasGrown}
use Rattle.host_hand.specs.{Errand, Run, HasRunInTurn, IsHeld, ask_at, HasRun}
use Rattle.host_hand.proofs.BlockRuns.{failed_run, landed_run, plain_run, refused_run, run_keeps, write_run}
use Rattle.host_log.proofs.Growing.{grown_nothing, grown_refl, grown_turn}
use Rattle.host_hand.proofs.HoldPins.{all_under, held_grown, held_still}

-- the step was made on the record's block
pub on_block : (e : Errand) (k block : ℕ) (op : Op) (bytes : List ℕ) (answer : Result Unit StepError) (front : ℕ) (s u : List Step) → block ≡ e.part.first + e.request.dev_offset + k
    → HasGrown (λ (y : Step). y.hand) e.hand e.device_front front (entries_added answer (step_made e.hand e.session e.index k op block bytes)) s u
    → HasGrown (λ (y : Step). y.hand) e.hand e.device_front front (entries_added answer (step_made e.hand e.session e.index k op (e.part.first + e.request.dev_offset + k) bytes)) s u
on_block e k block op bytes answer front s u is g = subst (λ b. HasGrown (λ (y : Step). y.hand) e.hand e.device_front front (entries_added answer (step_made e.hand e.session e.index k op b bytes)) s u) is g

-- ---- a lift

module _ (e : Errand) (k page : ℕ) (old mid : List MemEntry) (later : Continues (λ (x : MemEntry). x.hand) e.hand old mid) (past : e.memory_front ≤ length mid) (is : page ≡ e.request.vmo_offset + k) where
  lifted_one : (piece : List ℕ) (new : List MemEntry) → new ≡ mid ++ record { hand = e.hand; what = Lift e.index k e.request.vmoid page piece } ∷ []
      → HasGrown (λ (x : MemEntry). x.hand) e.hand e.memory_front (length new) (under e.hand (lift_for e.index e.request k piece ∷ [])) old new
  lifted_one piece new added =
      grown_turn (λ (x : MemEntry). x.hand) e.hand e.memory_front (length new) (under e.hand (lift_for e.index e.request k piece ∷ [])) old mid new later
      (added ∙ ap (λ (p : ℕ). mid ++ record { hand = e.hand; what = Lift e.index k e.request.vmoid p piece } ∷ []) is)
      (all_under e.hand (lift_for e.index e.request k piece ∷ [])) past (omega arith)

  pub lifted_grown : {X : Type 0} (result : Result (List ℕ) X) (after new : List MemEntry) → new ≡ after
      → IfOk result (λ piece. (length piece ≡ e.size) × (after ≡ mid ++ record { hand = e.hand; what = Lift e.index k e.request.vmoid page piece } ∷ []))
      → IfOk result (λ piece. (length piece ≡ e.size) × HasGrown (λ (x : MemEntry). x.hand) e.hand e.memory_front (length new) (under e.hand (lift_for e.index e.request k piece ∷ [])) old new)
  lifted_grown (Ok piece) after new left m = (m.0, lifted_one piece new (left ∙ m.1))
  lifted_grown (Err x) after new left m = m

  pub unlifted_grown : {X : Type 0} (result : Result (List ℕ) X) (after new : List MemEntry) → new ≡ after → OnErr result (after ≡ mid) → OnErr result (HasGrown (λ (x : MemEntry). x.hand) e.hand e.memory_front (length new) [] old new)
  unlifted_grown (Ok piece) after new left m = m
  unlifted_grown (Err x) after new left m = grown_nothing (λ (x : MemEntry). x.hand) e.hand e.memory_front (length new) old new (subst (λ l. Continues (λ (x : MemEntry). x.hand) e.hand old l) (sym (left ∙ m)) later)

  pub lifted_held : {X : Type 0} (result : Result (List ℕ) X) (after new : List MemEntry) → new ≡ after
      → IfOk result (λ piece. (length piece ≡ e.size) × (after ≡ mid ++ record { hand = e.hand; what = Lift e.index k e.request.vmoid page piece } ∷ [])) → OnErr result (after ≡ mid) → IsHeld e old → IsHeld e new
  lifted_held (Ok piece) after new left m n held = held_grown e e.memory_front (length new) (lift_for e.index e.request k piece ∷ []) old new refl (lifted_one piece new (left ∙ m.1)) held
  lifted_held (Err x) after new left m n held = held_still e old new (subst (λ l. Continues (λ (x : MemEntry). x.hand) e.hand old l) (sym (left ∙ n)) later) held

-- ---- within the turn

-- memory was refused before the step
pub refused_in_turn : (e : Errand) (op : Op) (k : ℕ) (ask : Ask) (run : Run) (front : ℕ) (old new : List MemEntry) (s : List Step) → (run.answer ≡ Err Oom) × (run.front ≡ front) → front ≤ length s → new ≡ old → HasRunInTurn e op k (ask ∷ []) run old new s s
refused_in_turn e op k ask run front old new s is le same = record {
  steps = [];
  moves = [];
  run_is = refused_run e op k ask [] run.answer is.0;
  device = grown_refl (λ (x : Step). x.hand) e.hand e.device_front run.front s;
  buffers = same ∙ sym (append-nil old);
  front = let f = is.1 in omega arith;
}

pub landed_in_turn : (e : Errand) (k page : ℕ) (run : Run) (x : Unit) (bytes : List ℕ) (old mid new : List MemEntry) (s u : List Step) → run.answer ≡ Ok x
    → HasGrown (λ (y : Step). y.hand) e.hand e.device_front run.front (entries_added run.answer (step_made e.hand e.session e.index k Read (e.part.first + e.request.dev_offset + k) bytes)) s u → run.front ≡ length u
    → page ≡ e.request.vmo_offset + k → mid ≡ old → new ≡ mid ++ record { hand = e.hand; what = Land e.index k e.request.vmoid page bytes } ∷ [] → HasRunInTurn e Read k (ask_at e Read k ∷ []) run old new s u
landed_in_turn e k page run x bytes old mid new s u ok g front at same added = record {
  steps = entries_added run.answer (step_made e.hand e.session e.index k Read (e.part.first + e.request.dev_offset + k) bytes);
  moves = Land e.index k e.request.vmoid (e.request.vmo_offset + k) bytes ∷ [];
  run_is = landed_run e k (e.part.first + e.request.dev_offset + k) bytes run.answer x ok;
  device = g;
  buffers = added ∙ (ap (λ l. l ++ record { hand = e.hand; what = Land e.index k e.request.vmoid page bytes } ∷ []) same ∙ ap (λ (p : ℕ). old ++ record { hand = e.hand; what = Land e.index k e.request.vmoid p bytes } ∷ []) at);
  front = omega arith;
}

pub failed_in_turn : (e : Errand) (k : ℕ) (run : Run) (x : StepError) (bytes : List ℕ) (old new : List MemEntry) (s u : List Step) → run.answer ≡ Err x
    → HasGrown (λ (y : Step). y.hand) e.hand e.device_front run.front (entries_added run.answer (step_made e.hand e.session e.index k Read (e.part.first + e.request.dev_offset + k) bytes)) s u → run.front ≡ length u
    → new ≡ old → HasRunInTurn e Read k (ask_at e Read k ∷ []) run old new s u
failed_in_turn e k run x bytes old new s u is g front same = record {
  steps = entries_added run.answer (step_made e.hand e.session e.index k Read (e.part.first + e.request.dev_offset + k) bytes);
  moves = [];
  run_is = failed_run e k (e.part.first + e.request.dev_offset + k) bytes run.answer x is;
  device = g;
  buffers = same ∙ sym (append-nil old);
  front = omega arith;
}

-- ---- after the turn

pub left_turn : (e : Errand) (op : Op) (k : ℕ) (asks : List Ask) (run : Run) (old mid after new : List MemEntry) (s u : List Step) → Continues (λ (x : MemEntry). x.hand) e.hand old mid → e.memory_front ≤ length mid → new ≡ after
    → HasRunInTurn e op k asks run mid after s u → HasRun e op k asks run old new s u
left_turn e op k asks run old mid after new s u later past left r = record {
  steps = r.steps;
  moves = r.moves;
  run_is = r.run_is;
  device = r.device;
  buffers = grown_turn (λ (x : MemEntry). x.hand) e.hand e.memory_front (length new) (under e.hand r.moves) old mid new later (left ∙ r.buffers) (all_under e.hand r.moves) past (omega arith);
  front = r.front;
}

pub run_held : (e : Errand) (op : Op) (k : ℕ) (asks : List Ask) (run : Run) (old new : List MemEntry) (s u : List Step) → HasRun e op k asks run old new s u → IsHeld e old → IsHeld e new
run_held e op k asks run old new s u r held = held_grown e e.memory_front (length new) r.moves old new (run_keeps e op k asks r.steps r.moves run.answer r.run_is) r.buffers held

-- ---- no turn was taken, or one before the step

pub refused_before : (e : Errand) (op : Op) (k : ℕ) (ask : Ask) (run : Run) (front : ℕ) (old new : List MemEntry) (s : List Step) → (run.answer ≡ Err Oom) × (run.front ≡ front) → front ≤ length s
    → HasGrown (λ (x : MemEntry). x.hand) e.hand e.memory_front (length new) [] old new → HasRun e op k (ask ∷ []) run old new s s
refused_before e op k ask run front old new s is le g = record {
  steps = [];
  moves = [];
  run_is = refused_run e op k ask [] run.answer is.0;
  device = grown_refl (λ (x : Step). x.hand) e.hand e.device_front run.front s;
  buffers = g;
  front = let f = is.1 in omega arith;
}

module _ (e : Errand) (k : ℕ) (run : Run) (s u : List Step) (front : run.front ≡ length u) where
  pub written_before : (piece : List ℕ) (old new : List MemEntry) → k < e.request.length → HasGrown (λ (x : MemEntry). x.hand) e.hand e.memory_front (length new) (under e.hand (lift_for e.index e.request k piece ∷ [])) old new
      → HasGrown (λ (y : Step). y.hand) e.hand e.device_front run.front (entries_added run.answer (step_made e.hand e.session e.index k Write (e.part.first + e.request.dev_offset + k) piece)) s u → HasRun e Write k (ask_at e Write k ∷ []) run old new s u
  written_before piece old new lt lifted g = record {
    steps = entries_added run.answer (step_made e.hand e.session e.index k Write (e.part.first + e.request.dev_offset + k) piece);
    moves = lift_for e.index e.request k piece ∷ [];
    run_is = write_run e k (e.part.first + e.request.dev_offset + k) piece run.answer lt;
    device = g;
    buffers = lifted;
    front = omega arith;
  }

  pub trimmed : (bytes : List ℕ) (h : List MemEntry) → HasGrown (λ (y : Step). y.hand) e.hand e.device_front run.front (entries_added run.answer (step_made e.hand e.session e.index k Trim (e.part.first + e.request.dev_offset + k) bytes)) s u
      → HasRun e Trim k (ask_at e Trim k ∷ []) run h h s u
  trimmed bytes h g = record {
    steps = entries_added run.answer (step_made e.hand e.session e.index k Trim (e.part.first + e.request.dev_offset + k) bytes);
    moves = [];
    run_is = plain_run e (ask_at e Trim k) bytes run.answer;
    device = g;
    buffers = grown_refl (λ (x : MemEntry). x.hand) e.hand e.memory_front (length h) h;
    front = omega arith;
  }
