-- A record that ended well made every step that it asked for.
use Rattle.std.proofs.Common.{◌≡◌, ℕ, zero, suc, ◌+◌, ◌<◌, ◌==◌, Bool, true, false, not, ◌&&◌, cond, List, [], ◌∷◌, ◌++◌, length, Some, refl, sym, ap, ◌∙◌, arith}
use Rattle.std.specs.List.{slice_get}
use Rattle.std.proofs.lemmas.List.FromFn.{length-map-range_with_len}
use Rattle.host_block.specs.{Op, changes_block, is_barrier, is_flush, puts_bytes}
use Rattle.host_block.specs.declared.op.Op.TheVariants as op
use Rattle.host_block.specs.declared.range.Range.{Range}
use Rattle.host_block.proofs.Places.{from_filter, in_map, range_at}
use Rattle.host_record.specs.{Opcode, Read, Write, Flush, Trim, Close, is_forced}
use Rattle.host_record.specs.declared.request.Request.{Request}
use Rattle.host_record.specs.declared.status.Status.TheVariants as status
use Rattle.host_model.specs.{Step, Ask, asked, asked_by, asked_in, carries_out, ended, flush_after, flush_ask, for_each_block, is_step_for, outcome_of, same_op, steps_of, change_of, IsLawfulSession, below, is_nil, request_at, requests}
use Rattle.host_model.specs.Session.{Session}
use Rattle.host_model.proofs.ListTests.{both}
use Rattle.crash_law.specs.{HasSucceeded, changes_blocks}
use Rattle.crash_law.proofs.Accepted.{accepted_so}

-- ---- all steps

pub all_made : (asks : List Ask) (steps : List Step) (k : ℕ) (ask : Ask) → carries_out asks steps ≡ true → ended asks steps ≡ status.Ok → slice_get asks k ≡ Some ask
    → (x : Step) × (slice_get steps k ≡ Some x) × (is_step_for ask x ≡ true) × (x.faulted ≡ false)
all_made [] steps zero ask c e at = absurd (cc)
all_made [] steps (suc k) ask c e at = absurd (cc)
all_made (a ∷ asks) [] k ask c e at = absurd (cc)
all_made (a ∷ asks) (made ∷ steps) k ask c e at = step made.faulted refl c e k at (λ i u v w. all_made asks steps i ask u v w)
  where
    step : (f : Bool) → made.faulted ≡ f → (is_step_for a made && cond f (is_nil steps) (carries_out asks steps)) ≡ true → cond f status.Io (ended asks steps) ≡ status.Ok → (j : ℕ) → slice_get (a ∷ asks) j ≡ Some ask
        → ((i : ℕ) → carries_out asks steps ≡ true → ended asks steps ≡ status.Ok → slice_get asks i ≡ Some ask → (x : Step) × (slice_get steps i ≡ Some x) × (is_step_for ask x ≡ true) × (x.faulted ≡ false))
        → (x : Step) × (slice_get (made ∷ steps) j ≡ Some x) × (is_step_for ask x ≡ true) × (x.faulted ≡ false)
    step true g u v j w more = absurd (cc)
    step false g u v zero w more =
        let t = both (is_step_for a made) (carries_out asks steps) u in
        let same : a ≡ ask = cc in
        (made, refl, ap (λ (y : Ask). is_step_for y made) (sym same) ∙ t.0, g)
    step false g u v (suc j) w more = let t = both (is_step_for a made) (carries_out asks steps) u in more j t.1 v w

-- ---- what a step is for

pub last_two : (a b c : Bool) → (a && b && c) ≡ true → (b ≡ true) × (c ≡ true)
last_two true true true e = (refl, refl)
last_two true true false e = absurd (cc)
last_two true false c e = absurd (cc)
last_two false b c e = absurd (cc)

pub changes : (f p q : Bool) → f ≡ false → p ≡ true → q ≡ true → (not f && p && q) ≡ true
changes false true true e g h = refl
changes true p q e g h = absurd (cc)
changes false false q e g h = absurd (cc)
changes false true false e g h = absurd (cc)

pub flushes : (f p : Bool) → f ≡ false → p ≡ true → (not f && p) ≡ true
flushes false true e g = refl
flushes true p e g = absurd (cc)
flushes false false e g = absurd (cc)

write_puts : (o : Op) → same_op o op.Write ≡ true → puts_bytes o ≡ true
write_puts op.Write e = refl
write_puts op.Read e = absurd (cc)
write_puts op.Trim e = absurd (cc)
write_puts op.Flush e = absurd (cc)

trim_puts : (o : Op) → same_op o op.Trim ≡ true → puts_bytes o ≡ true
trim_puts op.Trim e = refl
trim_puts op.Read e = absurd (cc)
trim_puts op.Write e = absurd (cc)
trim_puts op.Flush e = absurd (cc)

pub flush_is : (o : Op) → same_op o op.Flush ≡ true → is_flush o ≡ true
flush_is op.Flush e = refl
flush_is op.Read e = absurd (cc)
flush_is op.Write e = absurd (cc)
flush_is op.Trim e = absurd (cc)

pub in_front : {A : Type 0} (xs ys : List A) (n : ℕ) (x : A) → slice_get xs n ≡ Some x → slice_get (xs ++ ys) n ≡ Some x
in_front [] ys zero x at = absurd (cc)
in_front [] ys (suc n) x at = absurd (cc)
in_front (y ∷ xs) ys zero x at = at
in_front (y ∷ xs) ys (suc n) x at = in_front xs ys n x at

pub at_end : {A : Type 0} (xs : List A) (n : ℕ) (x : A) → n ≡ length xs → slice_get (xs ++ x ∷ []) n ≡ Some x
at_end [] zero x is = refl
at_end [] (suc n) x is = absurd (omega (arith, is))
at_end (y ∷ xs) zero x is = absurd (omega (arith, is))
at_end (y ∷ xs) (suc n) x is = at_end xs n x (omega (arith, is))

-- the step that a write or trim asks for on its block k
pub asks_for : (kind : Opcode) (range : Range) (r : Request) (k : ℕ) → changes_blocks kind ≡ true → k < r.length
    → (ask : Ask) × (slice_get (asked_by (Some kind) range r) k ≡ Some ask) × (ask.block ≡ range.first + r.dev_offset + k) × ((o : Op) → same_op o ask.op ≡ true → puts_bytes o ≡ true)
asks_for kind range r k is lt = at kind is
  where
    place : slice_get (below r.length) k ≡ Some k
    place = let same : 0 + k ≡ k = omega arith in range_at 0 r.length k lt ∙ ap Some same

    at : (o : Opcode) → changes_blocks o ≡ true → (ask : Ask) × (slice_get (asked_by (Some o) range r) k ≡ Some ask) × (ask.block ≡ range.first + r.dev_offset + k) × ((p : Op) → same_op p ask.op ≡ true → puts_bytes p ≡ true)
    at Write e = (record { k = k; op = op.Write; block = range.first + r.dev_offset + k }, in_front (for_each_block op.Write range r) (flush_after r) k (record { k = k; op = op.Write; block = range.first + r.dev_offset + k }) (in_map (λ (n : ℕ). record { k = n; op = op.Write; block = range.first + r.dev_offset + n }) (below r.length) k k place), refl, write_puts)
    at Trim e = (record { k = k; op = op.Trim; block = range.first + r.dev_offset + k }, in_map (λ (n : ℕ). record { k = n; op = op.Trim; block = range.first + r.dev_offset + n }) (below r.length) k k place, refl, trim_puts)
    at Read e = absurd (cc)
    at Flush e = absurd (cc)
    at Close e = absurd (cc)

-- ---- the steps of a record that is done

module _ (s : Session) (l : IsLawfulSession s) (i : ℕ) (kind : Opcode) (d : HasSucceeded s i kind) where
  asked_is : asked_in s i ≡ asked_by (Some kind) s.range (request_at (requests s.log) i)
  asked_is = ap (λ v. asked v s.range (request_at (requests s.log) i)) (accepted_so s l i d.taken d.ended) ∙ ap (λ o. asked_by o s.range (request_at (requests s.log) i)) d.asks

  ended_well : ended (asked_in s i) (steps_of i s.steps) ≡ status.Ok
  ended_well = sym ((l.carried.each i d.taken).outcome ∙ ap (λ v. outcome_of v (asked_in s i) (steps_of i s.steps)) (accepted_so s l i d.taken d.ended)) ∙ d.ended

  -- a step of this record
  pub record IsStepOf (ask : Ask) : Type 0 where
    pub step : Step
    pub place : ℕ
    pub stands : slice_get s.steps place ≡ Some step
    pub index : (step.index == i) ≡ true
    pub for_ask : is_step_for ask step ≡ true
    pub good : step.faulted ≡ false

  made : (k : ℕ) (ask : Ask) → slice_get (asked_by (Some kind) s.range (request_at (requests s.log) i)) k ≡ Some ask → IsStepOf ask
  made k ask at =
      let m = all_made (asked_in s i) (steps_of i s.steps) k ask (l.carried.each i d.taken).steps ended_well (ap (λ a. slice_get a k) asked_is ∙ at) in
      let f = from_filter (λ (x : Step). x.index == i) s.steps k m.0 m.1 in
      record { step = m.0; place = f.0; stands = f.1; index = f.2; for_ask = m.2; good = m.3 }

-- the step of a write or trim on its block k
pub record IsWriting (s : Session) (i b : ℕ) : Type 0 where
  pub step : Step
  pub place : ℕ
  pub stands : slice_get s.steps place ≡ Some step
  pub index : (step.index == i) ≡ true
  pub writes : changes_block (change_of step) b ≡ true

pub writing : (s : Session) (l : IsLawfulSession s) (i : ℕ) (kind : Opcode) → changes_blocks kind ≡ true → HasSucceeded s i kind → (k : ℕ) → k < (request_at (requests s.log) i).length
    → IsWriting s i (s.range.first + (request_at (requests s.log) i).dev_offset + k)
writing s l i kind is d k lt =
    let r : Request = request_at (requests s.log) i in
    let a = asks_for kind s.range (request_at (requests s.log) i) k is lt in
    let m = made s l i kind d k a.0 a.1 in
    let t = last_two (m.step.k == a.0.k) (same_op m.step.op a.0.op) (m.step.block == a.0.block) m.for_ask in
    let block : (m.step.block == s.range.first + (request_at (requests s.log) i).dev_offset + k) ≡ true = ap (λ n. m.step.block == n) (sym a.2) ∙ t.1 in
    record {
      step = m.step;
      place = m.place;
      stands = m.stands;
      index = m.index;
      writes = changes m.step.faulted (puts_bytes m.step.op) (m.step.block == s.range.first + (request_at (requests s.log) i).dev_offset + k) m.good (a.3 m.step.op t.0) block;
    }

-- the step of a flush
pub record IsFlushing (s : Session) (i : ℕ) : Type 0 where
  pub step : Step
  pub place : ℕ
  pub stands : slice_get s.steps place ≡ Some step
  pub index : (step.index == i) ≡ true
  pub flushes : is_barrier (change_of step) ≡ true

pub flushing : (s : Session) (l : IsLawfulSession s) (i : ℕ) → HasSucceeded s i Flush → IsFlushing s i
flushing s l i d =
    let ask : Ask = record { k = 0; op = op.Flush; block = 0 } in
    let m = made s l i Flush d 0 ask refl in
    let t = last_two (m.step.k == 0) (same_op m.step.op op.Flush) (m.step.block == 0) m.for_ask in
    record { step = m.step; place = m.place; stands = m.stands; index = m.index; flushes = flushes m.step.faulted (is_flush m.step.op) m.good (flush_is m.step.op t.0) }

-- the flush of a forced write
pub forcing : (s : Session) (l : IsLawfulSession s) (i : ℕ) → HasSucceeded s i Write → is_forced (request_at (requests s.log) i) ≡ true → IsFlushing s i
forcing s l i d forced =
    let r : Request = request_at (requests s.log) i in
    let blocks = for_each_block op.Write s.range (request_at (requests s.log) i) in
    let last : (request_at (requests s.log) i).length ≡ length blocks = sym (length-map-range_with_len (λ (k : ℕ). let a : Ask = record { k = k; op = op.Write; block = s.range.first + (request_at (requests s.log) i).dev_offset + k } in a) 0 (request_at (requests s.log) i).length) in
    let ask : Ask = flush_ask r.length in
    let at = ap (λ f. slice_get (blocks ++ cond f (flush_ask (request_at (requests s.log) i).length ∷ []) []) (request_at (requests s.log) i).length) forced ∙ at_end blocks (request_at (requests s.log) i).length (flush_ask (request_at (requests s.log) i).length) last in
    let m = made s l i Write d (request_at (requests s.log) i).length (flush_ask (request_at (requests s.log) i).length) at in
    let t = last_two (m.step.k == (request_at (requests s.log) i).length) (same_op m.step.op op.Flush) (m.step.block == 0) m.for_ask in
    record { step = m.step; place = m.place; stands = m.stands; index = m.index; flushes = flushes m.step.faulted (is_flush m.step.op) m.good (flush_is m.step.op t.0) }
