-- What one step of a record, made or refused, comes to.
use Rattle.std.proofs.Common.{◌≡◌, inl, inr, ℕ, ◌+◌, ◌<◌, Bool, true, false, not, ◌||◌, ◌&&◌, cond, Result, Ok, Err, List, [], ◌∷◌, ◌++◌, length, map, filter, refl, sym, ap, ap₂, subst, ◌∙◌, arith, append-nil, eq-eqb}
use Rattle.std.specs.List.{All, list_any}
use Rattle.std.proofs.lemmas.List.Elements.{All-nil}
use Rattle.std.proofs.lemmas.List.Folds.{list_any-append}
use Rattle.host_block.specs.{Op, Read, Write, Trim, Flush}
use Rattle.host_device.specs.{StepError, Fault, Oom, entries_added, step_made}
use Rattle.host_memory.specs.{is_done_for}
use Rattle.host_model.specs.{MemEvent, Step, Ask, carries_out, ended, flush_ask, is_step_for, same_op, land_for, lift_for, writes_of}
use Rattle.host_record.specs.declared.request.Request.{Request}
use Rattle.host_hand.specs.{Errand, IsStepFor, IsRun, IsSpare, moved_by, status_by}
use Rattle.host_session.specs.{lands_of, lifts_of}
use Rattle.host_hand.proofs.StepMade.{all_added}

-- ---- nothing was made

pub no_spare : (op : Op) (answer : Result Unit StepError) (k i : ℕ) (r : Request) → IsSpare op answer k i r []
no_spare Write (Ok x) k i r = refl
no_spare Write (Err Fault) k i r = refl
no_spare Write (Err Oom) k i r = inl refl
no_spare Read answer k i r = refl
no_spare Trim answer k i r = refl
no_spare Flush answer k i r = refl

pub no_moves : (op : Op) (i : ℕ) (r : Request) → moved_by op i r [] ≡ []
no_moves Read i r = refl
no_moves Write i r = refl
no_moves Trim i r = refl
no_moves Flush i r = refl

pub refused_run : (e : Errand) (op : Op) (from : ℕ) (ask : Ask) (asks : List Ask) (answer : Result Unit StepError) → answer ≡ Err Oom → IsRun e op from (ask ∷ asks) [] [] answer
refused_run e op from ask asks answer is = subst (λ a. IsRun e op from (ask ∷ asks) [] [] a) (sym is) (record {
  made = All-nil (IsStepFor e);
  carried = refl;
  answered = refl;
  spare = [];
  is_spare = no_spare op (Err Oom) (from + 0) e.index e.request;
  moved = sym (ap (λ l. l ++ []) (no_moves op e.index e.request));
})

-- ---- one step

same_op_self : (op : Op) → same_op op op ≡ true
same_op_self Read = refl
same_op_self Write = refl
same_op_self Trim = refl
same_op_self Flush = refl

-- the entry of a step for the record
abbrev pub made_for : Errand → Ask → List ℕ → Bool → Step
made_for e ask bytes = step_made e.hand e.session e.index ask.k ask.op ask.block bytes

module _ (e : Errand) (ask : Ask) (bytes : List ℕ) where
  asked_for : (b : Bool) → is_step_for ask (made_for e ask bytes b) ≡ true
  asked_for b = ap₂ (λ x y. x && same_op ask.op ask.op && y) (eq-eqb ask.k ask.k refl) (eq-eqb ask.block ask.block refl) ∙ ap (λ x. true && x && true) (same_op_self ask.op)

  one_carried : (answer : Result Unit StepError) → carries_out (ask ∷ []) (entries_added answer (made_for e ask bytes)) ≡ true
  one_carried (Ok x) = ap (λ b. b && true) (asked_for false)
  one_carried (Err Fault) = ap (λ b. b && true) (asked_for true)
  one_carried (Err Oom) = refl

  one_ended : (answer : Result Unit StepError) → ended (ask ∷ []) (entries_added answer (made_for e ask bytes)) ≡ status_by answer
  one_ended (Ok x) = refl
  one_ended (Err Fault) = refl
  one_ended (Err Oom) = refl

  one_made : (answer : Result Unit StepError) → All (IsStepFor e) (entries_added answer (made_for e ask bytes))
  one_made answer = all_added (IsStepFor e) answer (made_for e ask bytes) (λ b. record { hand = refl; session = refl; index = refl })

  -- with just the entries that its kind leaves
  pub plain_run : (answer : Result Unit StepError) → IsRun e ask.op ask.k (ask ∷ []) (entries_added answer (made_for e ask bytes)) (moved_by ask.op e.index e.request (entries_added answer (made_for e ask bytes))) answer
  plain_run answer = record {
    made = one_made answer;
    carried = one_carried answer;
    answered = one_ended answer;
    spare = [];
    is_spare = no_spare ask.op answer (ask.k + length (entries_added answer (made_for e ask bytes))) e.index e.request;
    moved = sym (append-nil (moved_by ask.op e.index e.request (entries_added answer (made_for e ask bytes))));
  }

-- a write lifted the page before its step
pub write_run : (e : Errand) (k block : ℕ) (bytes : List ℕ) (answer : Result Unit StepError) → k < e.request.length
    → IsRun e Write k (record { k = k; op = Write; block = block } ∷ []) (entries_added answer (step_made e.hand e.session e.index k Write block bytes)) (lift_for e.index e.request k bytes ∷ []) answer
write_run e k block bytes (Ok x) lt = plain_run e (record { k = k; op = Write; block = block }) bytes (Ok x)
write_run e k block bytes (Err Fault) lt = plain_run e (record { k = k; op = Write; block = block }) bytes (Err Fault)
write_run e k block bytes (Err Oom) lt =
    let n : k ≡ k + 0 = omega arith in
    record {
      made = All-nil (IsStepFor e);
      carried = refl;
      answered = refl;
      spare = lift_for e.index e.request k bytes ∷ [];
      is_spare = inr (bytes, ap (λ (j : ℕ). lift_for e.index e.request j bytes ∷ []) n, omega arith);
      moved = refl;
    }

-- a write's flush leaves nothing with the buffer
pub flush_run : (e : Errand) (k : ℕ) (bytes : List ℕ) (answer : Result Unit StepError) → IsRun e Write k (flush_ask k ∷ []) (entries_added answer (made_for e (flush_ask k) bytes)) [] answer
flush_run e k bytes answer = record {
  made = one_made e (flush_ask k) bytes answer;
  carried = one_carried e (flush_ask k) bytes answer;
  answered = one_ended e (flush_ask k) bytes answer;
  spare = [];
  is_spare = no_spare Write answer (k + length (entries_added answer (made_for e (flush_ask k) bytes))) e.index e.request;
  moved = none answer;
}
  where
    none : (a : Result Unit StepError) → [] ≡ moved_by Write e.index e.request (entries_added a (made_for e (flush_ask k) bytes)) ++ []
    none (Ok x) = refl
    none (Err Fault) = refl
    none (Err Oom) = refl

-- a read landed what its step gave
pub landed_run : (e : Errand) (k block : ℕ) (bytes : List ℕ) (answer : Result Unit StepError) (x : Unit) → answer ≡ Ok x
    → IsRun e Read k (record { k = k; op = Read; block = block } ∷ []) (entries_added answer (step_made e.hand e.session e.index k Read block bytes)) (land_for e.index e.request k bytes ∷ []) answer
landed_run e k block bytes answer x is = subst (λ a. IsRun e Read k (record { k = k; op = Read; block = block } ∷ []) (entries_added a (step_made e.hand e.session e.index k Read block bytes)) (land_for e.index e.request k bytes ∷ []) a) (sym is)
    (plain_run e (record { k = k; op = Read; block = block }) bytes (Ok x))

-- a read that failed landed nothing
pub failed_run : (e : Errand) (k block : ℕ) (bytes : List ℕ) (answer : Result Unit StepError) (x : StepError) → answer ≡ Err x
    → IsRun e Read k (record { k = k; op = Read; block = block } ∷ []) (entries_added answer (step_made e.hand e.session e.index k Read block bytes)) [] answer
failed_run e k block bytes answer x is = subst (λ a. IsRun e Read k (record { k = k; op = Read; block = block } ∷ []) (entries_added a (step_made e.hand e.session e.index k Read block bytes)) [] a) (sym is) (at x)
  where
    at : (y : StepError) → IsRun e Read k (record { k = k; op = Read; block = block } ∷ []) (entries_added (Err y) (step_made e.hand e.session e.index k Read block bytes)) [] (Err y)
    at Fault = plain_run e (record { k = k; op = Read; block = block }) bytes (Err Fault)
    at Oom = plain_run e (record { k = k; op = Read; block = block }) bytes (Err Oom)

-- ---- no step lets go of the buffer

lifts_keep : (i j : ℕ) (r : Request) (steps : List Step) → list_any (is_done_for i) (lifts_of j r steps) ≡ false
lifts_keep i j r [] = refl
lifts_keep i j r (s ∷ steps) = at (same_op s.op Write) (lifts_keep i j r steps)
  where
    at : (b : Bool) → list_any (is_done_for i) (lifts_of j r steps) ≡ false → list_any (is_done_for i) (map (λ step. lift_for j r step.k step.bytes) (cond b (s ∷ writes_of steps) (writes_of steps))) ≡ false
    at true rest = rest
    at false rest = rest

lands_keep : (i j : ℕ) (r : Request) (steps : List Step) → list_any (is_done_for i) (lands_of j r steps) ≡ false
lands_keep i j r [] = refl
lands_keep i j r (s ∷ steps) = at (not s.faulted) (lands_keep i j r steps)
  where
    at : (b : Bool) → list_any (is_done_for i) (lands_of j r steps) ≡ false → list_any (is_done_for i) (map (λ step. land_for j r step.k step.bytes) (cond b (s ∷ filter (λ step. not step.faulted) steps) (filter (λ step. not step.faulted) steps))) ≡ false
    at true rest = rest
    at false rest = rest

moved_keep : (op : Op) (i j : ℕ) (r : Request) (steps : List Step) → list_any (is_done_for i) (moved_by op j r steps) ≡ false
moved_keep Read i j r steps = lands_keep i j r steps
moved_keep Write i j r steps = lifts_keep i j r steps
moved_keep Trim i j r steps = refl
moved_keep Flush i j r steps = refl

nil_keep : (i : ℕ) (spare : List MemEvent) → spare ≡ [] → list_any (is_done_for i) spare ≡ false
nil_keep i spare is = ap (list_any (is_done_for i)) is

spare_keep : (op : Op) (answer : Result Unit StepError) (k i : ℕ) (r : Request) (spare : List MemEvent) → IsSpare op answer k i r spare → list_any (is_done_for i) spare ≡ false
spare_keep Write (Ok x) k i r spare is = nil_keep i spare is
spare_keep Write (Err Fault) k i r spare is = nil_keep i spare is
spare_keep Write (Err Oom) k i r spare (inl is) = nil_keep i spare is
spare_keep Write (Err Oom) k i r spare (inr (bytes, is, lt)) = ap (list_any (is_done_for i)) is
spare_keep Read answer k i r spare is = nil_keep i spare is
spare_keep Trim answer k i r spare is = nil_keep i spare is
spare_keep Flush answer k i r spare is = nil_keep i spare is

pub run_keeps : (e : Errand) (op : Op) (from : ℕ) (asks : List Ask) (steps : List Step) (moves : List MemEvent) (answer : Result Unit StepError) → IsRun e op from asks steps moves answer → list_any (is_done_for e.index) moves ≡ false
run_keeps e op from asks steps moves answer run =
    ap (list_any (is_done_for e.index)) run.moved ∙ (list_any-append (is_done_for e.index) (moved_by op e.index e.request steps) run.spare
    ∙ ap₂ (λ a b. a || b) (moved_keep op e.index e.index e.request steps) (spare_keep op answer (from + length steps) e.index e.request run.spare run.is_spare))
