-- What the steps of a record leave with its buffer, as its end tells.
use Rattle.std.proofs.Common.{◌≡◌, ◌≢◌, inl, inr, ℕ, zero, suc, ◌+◌, ◌<◌, ◌==◌, Bool, true, false, not, ◌&&◌, cond, nat_lt, Result, Ok, Err, List, [], ◌∷◌, ◌++◌, length, map, filter, filter_map, take, Some, None, refl, sym, ap, subst, ◌∙◌, arith, append-nil, eq-eqb, ne_eqb}
use Rattle.std.specs.Bool.{then_some}
use Rattle.std.specs.List.{All, cons_option, range_with_len}
use Rattle.std.proofs.lemmas.Bool.{eqb-true, lt-ltb}
use Rattle.std.proofs.lemmas.List.Elements.{All-nil, All-cons, All-head, All-tail, All-append, All-map, filter_map-append}
use Rattle.host_block.specs.{Op, Read, Write, Trim, Flush}
use Rattle.host_device.specs.{StepError, Fault, Oom}
use Rattle.host_intake.specs.{under}
use Rattle.host_model.specs.{MemEntry, MemEvent, Done, Release, Step, Ask, carries_out, flush_ask, is_step_for, same_op, is_nil, index_of, land_for, lift_at, lift_for, writes_of}
use Rattle.host_model.specs.RecordEntries as entries
use Rattle.host_record.specs.declared.request.Request.{Request}
use Rattle.host_record.specs.{is_forced}
use Rattle.host_hand.specs.{Errand, ask_at, errand_asks, IsRun, IsSpare, moved_by, status_by, IsMoveFor}
use Rattle.host_session.specs.{lands_of, lifts_of}

-- ---- they name the record

lift_named : (i : ℕ) (r : Request) (k : ℕ) (bytes : List ℕ) → IsMoveFor i (lift_for i r k bytes)
lift_named i r k bytes = record { index_is = refl; entry_is = ap (λ b. then_some b (lift_for i r k bytes)) (eq-eqb i i refl) }

land_named : (i : ℕ) (r : Request) (k : ℕ) (bytes : List ℕ) → IsMoveFor i (land_for i r k bytes)
land_named i r k bytes = record { index_is = refl; entry_is = ap (λ b. then_some b (land_for i r k bytes)) (eq-eqb i i refl) }

pub done_named : (i v : ℕ) → IsMoveFor i (Done i v)
done_named i v = record { index_is = refl; entry_is = ap (λ b. then_some b (Done i v)) (eq-eqb i i refl) }

lifts_named : (i : ℕ) (r : Request) (steps : List Step) → All (IsMoveFor i) (lifts_of i r steps)
lifts_named i r [] = All-nil (IsMoveFor i)
lifts_named i r (s ∷ steps) = at (same_op s.op Write) (lifts_named i r steps)
  where
    at : (b : Bool) → All (IsMoveFor i) (lifts_of i r steps) → All (IsMoveFor i) (map (λ (step : Step). lift_for i r step.k step.bytes) (cond b (s ∷ writes_of steps) (writes_of steps)))
    at true rest = All-cons (IsMoveFor i) (lift_for i r s.k s.bytes) (lifts_of i r steps) (lift_named i r s.k s.bytes) rest
    at false rest = rest

lands_named : (i : ℕ) (r : Request) (steps : List Step) → All (IsMoveFor i) (lands_of i r steps)
lands_named i r [] = All-nil (IsMoveFor i)
lands_named i r (s ∷ steps) = at (not s.faulted) (lands_named i r steps)
  where
    at : (b : Bool) → All (IsMoveFor i) (lands_of i r steps) → All (IsMoveFor i) (map (λ (step : Step). land_for i r step.k step.bytes) (cond b (s ∷ filter (λ (step : Step). not step.faulted) steps) (filter (λ (step : Step). not step.faulted) steps)))
    at true rest = All-cons (IsMoveFor i) (land_for i r s.k s.bytes) (lands_of i r steps) (land_named i r s.k s.bytes) rest
    at false rest = rest

moved_named : (op : Op) (i : ℕ) (r : Request) (steps : List Step) → All (IsMoveFor i) (moved_by op i r steps)
moved_named Read i r steps = lands_named i r steps
moved_named Write i r steps = lifts_named i r steps
moved_named Trim i r steps = All-nil (IsMoveFor i)
moved_named Flush i r steps = All-nil (IsMoveFor i)

nil_named : (i : ℕ) (spare : List MemEvent) → spare ≡ [] → All (IsMoveFor i) spare
nil_named i spare is = subst (λ l. All (IsMoveFor i) l) (sym is) (All-nil (IsMoveFor i))

spare_named : (op : Op) (answer : Result Unit StepError) (k i : ℕ) (r : Request) (spare : List MemEvent) → IsSpare op answer k i r spare → All (IsMoveFor i) spare
spare_named Write (Ok x) k i r spare is = nil_named i spare is
spare_named Write (Err Fault) k i r spare is = nil_named i spare is
spare_named Write (Err Oom) k i r spare (inl is) = nil_named i spare is
spare_named Write (Err Oom) k i r spare (inr (bytes, is, lt)) = subst (λ l. All (IsMoveFor i) l) (sym is) (All-cons (IsMoveFor i) (lift_for i r k bytes) [] (lift_named i r k bytes) (All-nil (IsMoveFor i)))
spare_named Read answer k i r spare is = nil_named i spare is
spare_named Trim answer k i r spare is = nil_named i spare is
spare_named Flush answer k i r spare is = nil_named i spare is

pub run_named : (e : Errand) (op : Op) (from : ℕ) (asks : List Ask) (steps : List Step) (moves : List MemEvent) (answer : Result Unit StepError) → IsRun e op from asks steps moves answer → All (IsMoveFor e.index) moves
run_named e op from asks steps moves answer run = subst (λ l. All (IsMoveFor e.index) l) (sym run.moved)
    (All-append (IsMoveFor e.index) (moved_by op e.index e.request steps) run.spare (moved_named op e.index e.request steps) (spare_named op answer (from + length steps) e.index e.request run.spare run.is_spare))

pub named_under : (i n : ℕ) (moves : List MemEvent) → All (IsMoveFor i) moves → All (λ (x : MemEntry). IsMoveFor i x.what) (under n moves)
named_under i n moves all = All-map (λ (x : MemEntry). IsMoveFor i x.what) (λ (what : MemEvent). record { hand = n; what = what }) moves all

-- none of them is a release
pub no_release : (i v : ℕ) (m : MemEvent) → IsMoveFor i m → m ≡ Release v → ⊥
no_release i v m named is = let e : None ≡ Some i = sym (ap index_of is) ∙ named.index_is in cc

-- ---- the spare lift

step_is : (ask : Ask) (s : Step) (rest : Bool) → (is_step_for ask s && rest) ≡ true → (s.k ≡ ask.k) × (rest ≡ true)
step_is ask s rest c = at (s.k == ask.k) (same_op s.op ask.op) (s.block == ask.block) refl c
  where
    at : (x y z : Bool) → (s.k == ask.k) ≡ x → ((x && y && z) && rest) ≡ true → (s.k ≡ ask.k) × (rest ≡ true)
    at true true true is c = (eqb-true s.k ask.k is, c)
    at true true false is c = absurd (cc c)
    at true false z is c = absurd (cc c)
    at false y z is c = absurd (cc c)

-- the flush that comes after so many blocks, where it is asked for
abbrev flush_at : Bool → ℕ → List Ask
flush_at forced n = cond forced (flush_ask n ∷ []) []

none_more : (f : Bool) (top : ℕ) (rest : List Step) → cond f (is_nil rest) (carries_out [] rest) ≡ true → All (λ (s : Step). s.k < top) rest
none_more f top [] c = All-nil (λ (s : Step). s.k < top)
none_more true top (s ∷ rest) c = absurd (cc c)
none_more false top (s ∷ rest) c = absurd (cc c)

flush_number : (forced : Bool) (n top : ℕ) (steps : List Step) → carries_out (flush_at forced n) steps ≡ true → top ≡ n + length steps → All (λ (s : Step). s.k < top) steps
flush_number forced n top [] c is = All-nil (λ (s : Step). s.k < top)
flush_number false n top (s ∷ steps) c is = absurd (cc c)
flush_number true n top (s ∷ steps) c is =
    let parts = step_is (flush_ask n) s (cond s.faulted (is_nil steps) (carries_out [] steps)) c in
    let first = parts.0 in
    All-cons (λ (s : Step). s.k < top) s steps (omega arith) (none_more s.faulted top steps parts.1)

numbers : (e : Errand) (op : Op) (forced : Bool) (a m n top : ℕ) (steps : List Step) → a + m ≡ n → carries_out (map (ask_at e op) (range_with_len a m) ++ flush_at forced n) steps ≡ true → top ≡ a + length steps
    → All (λ (s : Step). s.k < top) steps
numbers e op forced a m n top [] all c is = All-nil (λ (s : Step). s.k < top)
numbers e op forced a zero n top (s ∷ steps) all c is = flush_number forced n top (s ∷ steps) c (omega arith)
numbers e op forced a (suc m) n top (s ∷ steps) all c is =
    let parts = step_is (ask_at e op a) s (cond s.faulted (is_nil steps) (carries_out (map (ask_at e op) (range_with_len (a + 1) m) ++ flush_at forced n) steps)) c in
    let first = parts.0 in
    All-cons (λ (s : Step). s.k < top) s steps (omega arith) (at s.faulted steps parts.1 (λ d. numbers e op forced (a + 1) m n top steps (omega arith) d (omega arith)))
  where
    at : (f : Bool) (rest : List Step) → cond f (is_nil rest) (carries_out (map (ask_at e op) (range_with_len (a + 1) m) ++ flush_at forced n) rest) ≡ true
        → (carries_out (map (ask_at e op) (range_with_len (a + 1) m) ++ flush_at forced n) rest ≡ true → All (λ (s : Step). s.k < top) rest) → All (λ (s : Step). s.k < top) rest
    at true [] c more = All-nil (λ (s : Step). s.k < top)
    at true (t ∷ rest) c more = absurd (cc c)
    at false rest c more = more c

no_lift : (n i : ℕ) (r : Request) (steps : List Step) → All (λ (s : Step). s.k < n) steps → filter_map (lift_at n i r) (lifts_of i r steps) ≡ []
no_lift n i r [] all = refl
no_lift n i r (s ∷ steps) all = at (same_op s.op Write) (no_lift n i r steps (All-tail (λ (s : Step). s.k < n) s steps all))
  where
    lt : s.k < n
    lt = All-head (λ (s : Step). s.k < n) s steps all

    no : s.k ≢ n
    no = λ is. omega (arith, lt, is)

    at : (b : Bool) → filter_map (lift_at n i r) (lifts_of i r steps) ≡ [] → filter_map (lift_at n i r) (map (λ (step : Step). lift_for i r step.k step.bytes) (cond b (s ∷ writes_of steps) (writes_of steps))) ≡ []
    at true rest = ap (λ b. cons_option (then_some b (lift_for i r n s.bytes)) (filter_map (lift_at n i r) (lifts_of i r steps))) (ne_eqb s.k n no) ∙ rest
    at false rest = rest

either_none : {A : Type 0} (b : Bool) (xs : List A) → xs ≡ [] → cond b xs [] ≡ []
either_none true xs is = is
either_none false xs is = refl

module _ (e : Errand) (steps : List Step) (spare : List MemEvent) (all : All (λ (s : Step). s.k < length steps) steps) where
  own : List MemEvent
  own = (lifts_of e.index e.request steps ++ spare) ++ Done e.index e.request.vmoid ∷ []

  spare_alone : filter_map (lift_at (length steps) e.index e.request) own ≡ filter_map (lift_at (length steps) e.index e.request) spare
  unfolding own
  spare_alone =
      let f = lift_at (length steps) e.index e.request in let lifts = lifts_of e.index e.request steps in
      filter_map-append f (lifts ++ spare) (Done e.index e.request.vmoid ∷ []) ∙ (append-nil (filter_map f (lifts ++ spare)) ∙ (filter_map-append f lifts spare ∙ ap (λ l. l ++ filter_map f spare) (no_lift (length steps) e.index e.request steps all)))

  spare_told : (answer : Result Unit StepError) (k : ℕ) → k ≡ length steps → IsSpare Write answer k e.index e.request spare → entries.spare (status_by answer) (length steps) e.index e.request own ≡ spare
  spare_told (Ok x) k at is = sym is
  spare_told (Err Fault) k at is = sym is
  spare_told (Err Oom) k at (inl is) = either_none (nat_lt (length steps) e.request.length) (take 1 (filter_map (lift_at (length steps) e.index e.request) own)) (ap (λ l. take 1 l) (spare_alone ∙ ap (filter_map (lift_at (length steps) e.index e.request)) is)) ∙ sym is
  spare_told (Err Oom) k at (inr (bytes, is, lt)) =
      let here : spare ≡ lift_for e.index e.request (length steps) bytes ∷ [] = is ∙ ap (λ j. lift_for e.index e.request j bytes ∷ []) at in
      let few : length steps < e.request.length = omega (arith, lt, at) in
      ap (λ b. cond b (take 1 (filter_map (lift_at (length steps) e.index e.request) own)) []) (lt-ltb (length steps) e.request.length few)
      ∙ (ap (λ l. take 1 l) (spare_alone ∙ (ap (filter_map (lift_at (length steps) e.index e.request)) here ∙ ap (λ b. cons_option (then_some b (lift_for e.index e.request (length steps) bytes)) []) (eq-eqb (length steps) (length steps) refl))) ∙ sym here)

  write_owed : (answer : Result Unit StepError) (k : ℕ) → k ≡ length steps → IsSpare Write answer k e.index e.request spare
      → own ≡ lifts_of e.index e.request steps ++ entries.spare (status_by answer) (length steps) e.index e.request own ++ Done e.index e.request.vmoid ∷ []
  unfolding own
  write_owed answer k at is = ap (λ l. lifts_of e.index e.request steps ++ l ++ Done e.index e.request.vmoid ∷ []) (sym (spare_told answer k at is))

-- what a write did to its buffer
pub write_moves : (e : Errand) (steps : List Step) (moves : List MemEvent) (answer : Result Unit StepError) → IsRun e Write 0 (errand_asks e Write) steps moves answer
    → moves ++ Done e.index e.request.vmoid ∷ [] ≡ lifts_of e.index e.request steps ++ entries.spare (status_by answer) (length steps) e.index e.request (moves ++ Done e.index e.request.vmoid ∷ []) ++ Done e.index e.request.vmoid ∷ []
unfolding own
write_moves e steps moves answer run =
    subst (λ l. l ++ Done e.index e.request.vmoid ∷ [] ≡ lifts_of e.index e.request steps ++ entries.spare (status_by answer) (length steps) e.index e.request (l ++ Done e.index e.request.vmoid ∷ []) ++ Done e.index e.request.vmoid ∷ []) (sym run.moved)
    (write_owed e steps run.spare (numbers e Write (is_forced e.request) 0 e.request.length e.request.length (length steps) steps (omega arith) run.carried (omega arith)) answer (0 + length steps) (omega arith) run.is_spare)

-- what a read did to its buffer
pub read_moves : (e : Errand) (from : ℕ) (asks : List Ask) (steps : List Step) (moves : List MemEvent) (answer : Result Unit StepError) → IsRun e Read from asks steps moves answer
    → moves ++ Done e.index e.request.vmoid ∷ [] ≡ lands_of e.index e.request steps ++ Done e.index e.request.vmoid ∷ []
read_moves e from asks steps moves answer run = ap (λ l. l ++ Done e.index e.request.vmoid ∷ []) (run.moved ∙ (ap (λ l. lands_of e.index e.request steps ++ l) run.is_spare ∙ append-nil (lands_of e.index e.request steps)))

-- a trim or flush does nothing to buffers
pub trim_moves : (e : Errand) (from : ℕ) (asks : List Ask) (steps : List Step) (moves : List MemEvent) (answer : Result Unit StepError) → IsRun e Trim from asks steps moves answer → moves ≡ []
trim_moves e from asks steps moves answer run = run.moved ∙ run.is_spare
