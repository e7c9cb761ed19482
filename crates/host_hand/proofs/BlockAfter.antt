-- One run of steps after another.
use Rattle.std.proofs.Common.{◌≡◌, ℕ, ◌+◌, ◌≤◌, Bool, true, false, not, ◌&&◌, cond, Result, Ok, Err, List, [], ◌∷◌, ◌++◌, length, map, filter, take, drop, refl, sym, ap, ap₂, subst, ◌∙◌, arith, append_assoc, append-nil, length-append}
use Rattle.std.specs.Prelude.{is_err}
use Rattle.std.specs.List.{All}
use Rattle.std.proofs.lemmas.List.{map-append, take-append-drop}
use Rattle.std.proofs.lemmas.List.Elements.{All-append, All-nil, filter-append}
use Rattle.std.proofs.lemmas.List.FromFn.{length-map-range_with_len, map-range_with_len_more, take-map-range_with_len}
use Rattle.host_block.specs.{Op, Read, Write, Trim, Flush}
use Rattle.host_device.specs.{StepError, Fault, Oom, entries_added, step_made}
use Rattle.host_intake.specs.{under}
use Rattle.host_model.specs.{MemEntry, MemEvent, Step, Ask, carries_out, ended, flush_ask, is_step_for, same_op, is_nil, land_for, lift_for, writes_of}
use Rattle.host_record.specs.declared.request.Request.{Request}
use Rattle.host_hand.specs.{Errand, Run, IsStepFor, ask_at, errand_asks, asks_upto, flushes_after, HasRun, IsRun, IsSpare, moved_by, status_by}
use Rattle.host_hand.proofs.BlockRuns.{flush_run, no_moves, no_spare}
use Rattle.host_log.specs.{HasGrown}
use Rattle.host_log.proofs.Growing.{grown_after, grown_as, grown_refl}
use Rattle.host_log.proofs.Places.{longer_length}

-- ---- one run after another

-- all asked for was made
pub whole_run : (asks : List Ask) (steps : List Step) → carries_out asks steps ≡ true → ended asks steps ≡ status_by (Ok tt) → length steps ≡ length asks
whole_run [] [] c e = refl
whole_run (a ∷ asks) [] c e = absurd (cc e)
whole_run [] (s ∷ steps) c e = absurd (cc c)
whole_run (a ∷ asks) (s ∷ steps) c e = at s.faulted (is_step_for a s) c e (whole_run asks steps)
  where
    at : (f m : Bool) → (m && cond f (is_nil steps) (carries_out asks steps)) ≡ true → cond f (status_by (Err Fault)) (ended asks steps) ≡ status_by (Ok tt)
        → (carries_out asks steps ≡ true → ended asks steps ≡ status_by (Ok tt) → length steps ≡ length asks) → length (s ∷ steps) ≡ length (a ∷ asks)
    at true m c e more = absurd (cc e)
    at false true c e more = let l = more c e in omega arith
    at false false c e more = absurd (cc c)

module _ (m : Bool) (steps : List Step) where
  longer_step : (f : Bool) (l k : Bool) → (m && cond f (is_nil steps) l) ≡ true → (l ≡ true → k ≡ true) → (m && cond f (is_nil steps) k) ≡ true
  longer_step true l k c more = c
  longer_step false l k c more = at m c
    where
      at : (b : Bool) → (b && l) ≡ true → (b && k) ≡ true
      at true e = more e
      at false e = absurd (cc e)

-- the first of more steps asked for
carried_longer : (asks more : List Ask) (steps : List Step) → carries_out asks steps ≡ true → carries_out (asks ++ more) steps ≡ true
carried_longer asks more [] c = refl
carried_longer [] more (s ∷ steps) c = absurd (cc c)
carried_longer (a ∷ asks) more (s ∷ steps) c = longer_step (is_step_for a s) steps s.faulted (carries_out asks steps) (carries_out (asks ++ more) steps) c (λ d. carried_longer asks more steps d)

ok_not_err : (x : StepError) → status_by (Ok tt) ≡ status_by (Err x) → ⊥
ok_not_err Fault e = absurd (cc e)
ok_not_err Oom e = absurd (cc e)

ended_longer : (asks more : List Ask) (steps : List Step) (x : StepError) → carries_out asks steps ≡ true → ended asks steps ≡ status_by (Err x) → ended (asks ++ more) steps ≡ status_by (Err x)
ended_longer [] more [] x c e = absurd (ok_not_err x e)
ended_longer [] more (s ∷ steps) x c e = absurd (cc c)
ended_longer (a ∷ asks) more [] x c e = e
ended_longer (a ∷ asks) more (s ∷ steps) x c e = at s.faulted (is_step_for a s) c e (λ d f. ended_longer asks more steps x d f)
  where
    at : (f m : Bool) → (m && cond f (is_nil steps) (carries_out asks steps)) ≡ true → cond f (status_by (Err Fault)) (ended asks steps) ≡ status_by (Err x)
        → (carries_out asks steps ≡ true → ended asks steps ≡ status_by (Err x) → ended (asks ++ more) steps ≡ status_by (Err x)) → cond f (status_by (Err Fault)) (ended (asks ++ more) steps) ≡ status_by (Err x)
    at true m c e next = e
    at false true c e next = next c e
    at false false c e next = absurd (cc c)

pub run_longer : (e : Errand) (op : Op) (from : ℕ) (asks more : List Ask) (steps : List Step) (moves : List MemEvent) (answer : Result Unit StepError) (x : StepError) → answer ≡ Err x → IsRun e op from asks steps moves answer → IsRun e op from (asks ++ more) steps moves answer
run_longer e op from asks more steps moves answer x is run = record {
  made = run.made;
  carried = carried_longer asks more steps run.carried;
  answered = subst (λ a. ended (asks ++ more) steps ≡ status_by a) (sym is) (ended_longer asks more steps x run.carried (run.answered ∙ ap status_by is));
  spare = run.spare;
  is_spare = run.is_spare;
  moved = run.moved;
}

-- what is asked for next
carried_after : (asks these : List Ask) (steps those : List Step) → carries_out asks steps ≡ true → ended asks steps ≡ status_by (Ok tt) → carries_out these those ≡ true → carries_out (asks ++ these) (steps ++ those) ≡ true
carried_after [] these [] those c e d = d
carried_after (a ∷ asks) these [] those c e d = absurd (cc e)
carried_after [] these (s ∷ steps) those c e d = absurd (cc c)
carried_after (a ∷ asks) these (s ∷ steps) those c e d = at s.faulted (is_step_for a s) c e (λ f g. carried_after asks these steps those f g d)
  where
    at : (f m : Bool) → (m && cond f (is_nil steps) (carries_out asks steps)) ≡ true → cond f (status_by (Err Fault)) (ended asks steps) ≡ status_by (Ok tt)
        → (carries_out asks steps ≡ true → ended asks steps ≡ status_by (Ok tt) → carries_out (asks ++ these) (steps ++ those) ≡ true) → (m && cond f (is_nil (steps ++ those)) (carries_out (asks ++ these) (steps ++ those))) ≡ true
    at true m c e next = absurd (cc e)
    at false true c e next = next c e
    at false false c e next = absurd (cc c)

ended_after : (asks these : List Ask) (steps those : List Step) → carries_out asks steps ≡ true → ended asks steps ≡ status_by (Ok tt) → ended (asks ++ these) (steps ++ those) ≡ ended these those
ended_after [] these [] those c e = refl
ended_after (a ∷ asks) these [] those c e = absurd (cc e)
ended_after [] these (s ∷ steps) those c e = absurd (cc c)
ended_after (a ∷ asks) these (s ∷ steps) those c e = at s.faulted (is_step_for a s) c e (λ f g. ended_after asks these steps those f g)
  where
    at : (f m : Bool) → (m && cond f (is_nil steps) (carries_out asks steps)) ≡ true → cond f (status_by (Err Fault)) (ended asks steps) ≡ status_by (Ok tt)
        → (carries_out asks steps ≡ true → ended asks steps ≡ status_by (Ok tt) → ended (asks ++ these) (steps ++ those) ≡ ended these those) → cond f (status_by (Err Fault)) (ended (asks ++ these) (steps ++ those)) ≡ ended these those
    at true m c e next = absurd (cc e)
    at false true c e next = next c e
    at false false c e next = absurd (cc c)

-- what the steps leave with the buffer
moved_append : (op : Op) (i : ℕ) (r : Request) (steps those : List Step) → moved_by op i r (steps ++ those) ≡ moved_by op i r steps ++ moved_by op i r those
moved_append Write i r steps those = ap (map (λ (s : Step). lift_for i r s.k s.bytes)) (filter-append (λ (s : Step). same_op s.op Write) steps those) ∙ map-append (λ (s : Step). lift_for i r s.k s.bytes) (writes_of steps) (writes_of those)
moved_append Read i r steps those = ap (map (λ (s : Step). land_for i r s.k s.bytes)) (filter-append (λ (s : Step). not s.faulted) steps those) ∙ map-append (λ (s : Step). land_for i r s.k s.bytes) (filter (λ (s : Step). not s.faulted) steps) (filter (λ (s : Step). not s.faulted) those)
moved_append Trim i r steps those = refl
moved_append Flush i r steps those = refl

spare_none : (op : Op) (x : Unit) (k i : ℕ) (r : Request) (spare : List MemEvent) → IsSpare op (Ok x) k i r spare → spare ≡ []
spare_none Write x k i r spare is = is
spare_none Read x k i r spare is = is
spare_none Trim x k i r spare is = is
spare_none Flush x k i r spare is = is

pub run_after : (e : Errand) (op : Op) (from place : ℕ) (asks these : List Ask) (steps those : List Step) (moves more : List MemEvent) (x : Unit) (answer : Result Unit StepError) → place ≡ from + length asks
    → IsRun e op from asks steps moves (Ok x) → IsRun e op place these those more answer → IsRun e op from (asks ++ these) (steps ++ those) (moves ++ more) answer
run_after e op from place asks these steps those moves more x answer is a b =
    let all = whole_run asks steps a.carried a.answered in
    record {
      made = All-append (IsStepFor e) steps those a.made b.made;
      carried = carried_after asks these steps those a.carried a.answered b.carried;
      answered = ended_after asks these steps those a.carried a.answered ∙ b.answered;
      spare = b.spare;
      is_spare = subst (λ k. IsSpare op answer k e.index e.request b.spare) (let n = length-append steps those in omega arith) b.is_spare;
      moved = ap₂ (λ l m. l ++ m) (a.moved ∙ (ap (λ l. moved_by op e.index e.request steps ++ l) (spare_none op x (from + length steps) e.index e.request a.spare a.is_spare) ∙ append-nil (moved_by op e.index e.request steps))) b.moved
          ∙ (sym (append_assoc (moved_by op e.index e.request steps) (moved_by op e.index e.request those) b.spare) ∙ ap (λ l. l ++ b.spare) (sym (moved_append op e.index e.request steps those)));
    }

-- ---- the steps on one block after another

pub upto_length : (e : Errand) (op : Op) (k : ℕ) → length (asks_upto e op k) ≡ k
upto_length e op k = length-map-range_with_len (ask_at e op) 0 k

pub upto_more : (e : Errand) (op : Op) (k : ℕ) → asks_upto e op (k + 1) ≡ asks_upto e op k ++ ask_at e op k ∷ []
upto_more e op k = map-range_with_len_more (ask_at e op) 0 k k (omega arith)

take_drop : {A : Type 0} (k : ℕ) (xs : List A) → xs ≡ take k xs ++ drop k xs
take_drop k xs = sym (take-append-drop k xs)

pub upto_rest : (e : Errand) (op : Op) (k n : ℕ) → k ≤ n → asks_upto e op n ≡ asks_upto e op k ++ drop k (asks_upto e op n)
upto_rest e op k n le = take_drop k (asks_upto e op n) ∙ ap (λ l. l ++ drop k (asks_upto e op n)) (take-map-range_with_len (ask_at e op) 0 n k le)

pub under_append : (n : ℕ) (moves more : List MemEvent) → under n (moves ++ more) ≡ under n moves ++ under n more
under_append n moves more = map-append (λ (what : MemEvent). record { hand = n; what = what }) moves more

All-none : (e : Errand) → All (IsStepFor e) []
All-none e = All-nil (IsStepFor e)

none_spare : (op : Op) (i : ℕ) (r : Request) → IsSpare op (Ok tt) (0 + 0) i r []
none_spare op i r = no_spare op (Ok tt) (0 + 0) i r

none_moved : (op : Op) (i : ℕ) (r : Request) → [] ≡ moved_by op i r [] ++ []
none_moved op i r = sym (ap (λ l. l ++ []) (no_moves op i r))

-- nothing was made yet
pub run_none : (e : Errand) (op : Op) (front : ℕ) (h : List MemEntry) (s : List Step) → front ≤ length s → HasRun e op 0 (asks_upto e op 0) (record { answer = Ok tt; front = front }) h h s s
run_none e op front h s le = record {
  steps = [];
  moves = [];
  run_is = record { made = All-none e; carried = refl; answered = refl; spare = []; is_spare = none_spare op e.index e.request; moved = none_moved op e.index e.request };
  device = grown_refl (λ (x : Step). x.hand) e.hand e.device_front front s;
  buffers = grown_refl (λ (x : MemEntry). x.hand) e.hand e.memory_front (length h) h;
  front = le;
}

pub has_after : (e : Errand) (op : Op) (place : ℕ) (asks these : List Ask) (a b : Run) (x : Unit) (h mid new : List MemEntry) (s t u : List Step) → place ≡ length asks → a.answer ≡ Ok x → a.front ≤ b.front
    → HasRun e op 0 asks a h mid s t → HasRun e op place these b mid new t u → HasRun e op 0 (asks ++ these) b h new s u
has_after e op place asks these a b x h mid new s t u is ok le p q = record {
  steps = p.steps ++ q.steps;
  moves = p.moves ++ q.moves;
  run_is = run_after e op 0 place asks these p.steps q.steps p.moves q.moves x b.answer (omega arith) (subst (λ z. IsRun e op 0 asks p.steps p.moves z) ok p.run_is) q.run_is;
  device = grown_after (λ (y : Step). y.hand) e.hand e.device_front a.front b.front p.steps q.steps s t u le p.device q.device;
  buffers = grown_as (λ (y : MemEntry). y.hand) e.hand e.memory_front (length new) (under e.hand p.moves ++ under e.hand q.moves) (under e.hand (p.moves ++ q.moves)) h new (sym (under_append e.hand p.moves q.moves))
      (grown_after (λ (y : MemEntry). y.hand) e.hand e.memory_front (length mid) (length new) (under e.hand p.moves) (under e.hand q.moves) h mid new (longer_length mid new q.buffers.begins) p.buffers q.buffers);
  front = q.front;
}

-- it ended early
pub has_stopped : (e : Errand) (op : Op) (asks more : List Ask) (a : Run) (x : StepError) (h new : List MemEntry) (s u : List Step) → a.answer ≡ Err x → HasRun e op 0 asks a h new s u → HasRun e op 0 (asks ++ more) a h new s u
has_stopped e op asks more a x h new s u is p = record {
  steps = p.steps;
  moves = p.moves;
  run_is = run_longer e op 0 asks more p.steps p.moves a.answer x is p.run_is;
  device = p.device;
  buffers = p.buffers;
  front = p.front;
}

-- ---- the flush after the blocks

pub has_forced : (e : Errand) (op : Op) (a b : Run) (bytes : List ℕ) (h new : List MemEntry) (s t u : List Step) → flushes_after e op ≡ true → a.answer ≡ Ok tt → HasRun e op 0 (asks_upto e op e.request.length) a h new s t
    → HasGrown (λ (x : Step). x.hand) e.hand e.device_front b.front (entries_added b.answer (step_made e.hand e.session e.index e.request.length Flush 0 bytes)) t u → b.front ≡ length u → HasRun e op 0 (errand_asks e op) b h new s u
has_forced e Write a b bytes h new s t u forced ok p g front =
    let n = e.request.length in
    let le : a.front ≤ b.front = (let f = p.front in let l = longer_length t u g.begins in omega arith) in
    subst (λ f. HasRun e Write 0 (asks_upto e Write n ++ cond f (flush_ask n ∷ []) []) b h new s u) (sym forced)
    (has_after e Write n (asks_upto e Write n) (flush_ask n ∷ []) a b tt h new new s t u (sym (upto_length e Write n)) ok le p (record {
      steps = entries_added b.answer (step_made e.hand e.session e.index n Flush 0 bytes);
      moves = [];
      run_is = flush_run e n bytes b.answer;
      device = g;
      buffers = grown_refl (λ (x : MemEntry). x.hand) e.hand e.memory_front (length new) new;
      front = omega arith;
    }))
has_forced e Read a b bytes h new s t u forced ok p g front = absurd (cc forced)
has_forced e Trim a b bytes h new s t u forced ok p g front = absurd (cc forced)
has_forced e Flush a b bytes h new s t u forced ok p g front = absurd (cc forced)

pub has_unforced : (e : Errand) (op : Op) (a : Run) (h new : List MemEntry) (s u : List Step) → flushes_after e op ≡ false → HasRun e op 0 (asks_upto e op e.request.length) a h new s u → HasRun e op 0 (errand_asks e op) a h new s u
has_unforced e op a h new s u forced p =
    let blocks = asks_upto e op e.request.length in
    subst (λ asks. HasRun e op 0 asks a h new s u) (sym (ap (λ f. blocks ++ cond f (flush_ask e.request.length ∷ []) []) forced ∙ append-nil blocks)) p

-- where a block failed, no flush comes after
pub has_failed : (e : Errand) (op : Op) (a : Run) (h new : List MemEntry) (s u : List Step) → is_err a.answer ≡ true → HasRun e op 0 (asks_upto e op e.request.length) a h new s u → HasRun e op 0 (errand_asks e op) a h new s u
has_failed e op a h new s u err p = at a.answer refl err
  where
    at : (answer : Result Unit StepError) → a.answer ≡ answer → is_err answer ≡ true → HasRun e op 0 (errand_asks e op) a h new s u
    at (Ok x) is f = absurd (cc f)
    at (Err x) is f = has_stopped e op (asks_upto e op e.request.length) (cond (flushes_after e op) (flush_ask e.request.length ∷ []) []) a x h new s u is p
