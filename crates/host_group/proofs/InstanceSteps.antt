-- What one step does to the words and the tally of one instance.
use Rattle.std.proofs.Common.{◌≡◌, ◌≢◌, ℕ, zero, suc, ◌+◌, ◌-◌, ◌/◌, ◌%◌, ◌^◌, ◌<◌, refl, ap, ◌∙◌, arith}
use Rattle.std.specs.Prelude.{min, max, true, false}
use Rattle.host_group.specs.{Member, Row, Progress, Unsettled, Last, TookError, TookDeviceFront, TookMemoryFront, TookClosing, Ended, Passed, no_failure, failure_word, Cell, Folds, IsCellCurrent, IsInstanceOver, IsLast, Tally, nothing, both, if_last, tally_of, bit, name_of, fresh_row}
use Rattle.host_record.specs.declared.status.Status.{Status}
use Rattle.host_record.specs.{Ok}
use Rattle.host_group.proofs.Tallies.{Sound}

-- the rule of a word that folds numbers: one more number is put in, while the word isn't taken out
folds_put : {empty out word whole taken out' word' whole' taken' : ℕ} → Folds empty out word whole taken → out ≡ 0 → out' ≡ 0 → (word ≡ whole → word' ≡ whole') → Folds empty out' word' whole' taken'
folds_put h in' still step = ((λ _. step (h.0 in')), λ e. absurd (omega arith))

-- the word is taken out
folds_take : {empty out word whole taken out' taken' : ℕ} → Folds empty out word whole taken → out ≡ 0 → out' ≡ 1 → taken' ≡ word → Folds empty out' empty whole taken'
folds_take h in' gone same = ((λ e. absurd (omega arith)), λ e. (refl, same ∙ h.0 in'))

abbrev pub being : Progress → Row → Row
being p r = record r { progress = p }

module _ (c : Cell) (q name : ℕ) (r : Row) (R : Tally) (sound : Sound R) (unit : both nothing R ≡ R) where
  abbrev pub With : Row → Tally
  With x = both (tally_of x) R

  pub put_error : (x : ℕ) (s : Status) → x ≡ failure_word r.member.index s → r.status ≡ Ok → IsCellCurrent c q name (With (being Unsettled r)) → IsCellCurrent record c { error = min c.error x } q name (With record (being Unsettled r) { status = s })
  put_error x s word e h = let clear : failure_word r.member.index r.status ≡ no_failure = ap (failure_word r.member.index) e in let i = h.idle in let z0 = i (omega arith) in let z : R.ending ≡ 0 = omega arith in let t = sound.error in let u : min no_failure R.error ≡ R.error = ap (λ z. z.error) unit in record {
    left = h.left;
    few = h.few;
    many = h.many;
    single = h.single;
    error = folds_put h.error (omega arith) (omega arith) (λ w. omega arith);
    device_front = h.device_front;
    memory_front = h.memory_front;
    closing = h.closing;
    due = h.due;
    idle = h.idle;
    early = h.early;
    ended = h.ended;
    count = h.count;
    claimed = h.claimed;
    named = h.named;
  }

  pub put_device_front : (x : ℕ) → r.device_front ≡ 0 → IsCellCurrent c q name (With (being Unsettled r)) → IsCellCurrent record c { device_front = max c.device_front x } q name (With record (being Unsettled r) { device_front = x })
  put_device_front x e h = let i = h.idle in let z0 = i (omega arith) in let z : R.ending ≡ 0 = omega arith in let t = sound.device_front in record {
    left = h.left;
    few = h.few;
    many = h.many;
    single = h.single;
    error = h.error;
    device_front = folds_put h.device_front (omega arith) (omega arith) (λ w. omega arith);
    memory_front = h.memory_front;
    closing = h.closing;
    due = h.due;
    idle = h.idle;
    early = h.early;
    ended = h.ended;
    count = h.count;
    claimed = h.claimed;
    named = h.named;
  }

  pub put_memory_front : (x : ℕ) → r.memory_front ≡ 0 → IsCellCurrent c q name (With (being Unsettled r)) → IsCellCurrent record c { memory_front = max c.memory_front x } q name (With record (being Unsettled r) { memory_front = x })
  put_memory_front x e h = let i = h.idle in let z0 = i (omega arith) in let z : R.ending ≡ 0 = omega arith in let t = sound.memory_front in record {
    left = h.left;
    few = h.few;
    many = h.many;
    single = h.single;
    error = h.error;
    device_front = h.device_front;
    memory_front = folds_put h.memory_front (omega arith) (omega arith) (λ w. omega arith);
    closing = h.closing;
    due = h.due;
    idle = h.idle;
    early = h.early;
    ended = h.ended;
    count = h.count;
    claimed = h.claimed;
    named = h.named;
  }

  -- it is the last of a closed instance
  pub settle_last : (n : ℕ) → n ≡ c.left → IsLast n → IsCellCurrent c q name (With (being Unsettled r)) → IsCellCurrent record c { left = (n + (2 ^ 64 - 1)) % 2 ^ 64 } q name (With record (being Last r) { found = n })
  settle_last n e last h = let left = h.left in let few = h.few in let many = h.many in let single = h.single in let i = h.idle in let z0 = i (omega arith) in let z : R.ending ≡ 0 = omega arith in let d : R.ended ≡ 0 = (let x = h.ended in omega arith) in
      let quiet = sound.quiet z d in let sl = sound.error in let sd = sound.device_front in let sm = sound.memory_front in let sc = sound.closing in record {
        left = omega arith;
        few = omega arith;
        many = h.many;
        single = h.single;
        error = (h.error.0, λ x. absurd (omega arith));
        device_front = (h.device_front.0, λ x. absurd (omega arith));
        memory_front = (h.memory_front.0, λ x. absurd (omega arith));
        closing = λ m. ((h.closing m).0, λ x. absurd (omega arith));
        due = λ _ _. omega arith;
        idle = λ k. absurd (omega arith);
        early = λ k. absurd (omega arith);
        ended = h.ended;
        count = λ _. let k = quiet.4 in omega arith;
        claimed = h.claimed;
        named = h.named;
      }

  pub settle_else : (n : ℕ) → n ≡ c.left → (IsLast n → ⊥) → IsCellCurrent c q name (With (being Unsettled r)) → IsCellCurrent record c { left = (n + (2 ^ 64 - 1)) % 2 ^ 64 } q name (With record (being Passed r) { found = n })
  settle_else n e not h = let left = h.left in let few = h.few in let many = h.many in let single = h.single in let i = h.idle in let z0 = i (omega arith) in let z : R.ending ≡ 0 = omega arith in record {
    left = omega arith;
    few = omega arith;
    many = h.many;
    single = h.single;
    error = h.error;
    device_front = h.device_front;
    memory_front = h.memory_front;
    closing = h.closing;
    due = λ k l. absurd (not (omega arith));
    idle = λ _. omega arith;
    early = λ _. omega arith;
    ended = h.ended;
    count = h.count;
    claimed = h.claimed;
    named = h.named;
  }

  -- what is known where the instance ends with this row
  abbrev pub Ends : Progress → Type 0
  Ends p = (R.ending ≡ 0) × (R.error_out ≡ 0) × (R.device_front_out ≡ 0) × (R.memory_front_out ≡ 0) × (R.closing_out ≡ 0) × (R.end_error ≡ 0) × (R.end_device_front ≡ 0) × (R.end_memory_front ≡ 0) × (R.end_closing ≡ 0) × (R.end_count ≡ 0) × ((With (being p r)).closers ≡ 1) × (R.unsettled ≡ 0)

  -- an ending row, by what its progress counts
  pub ends : (p : Progress) → (tally_of (being p r)).ending ≡ 1 → (tally_of (being p r)).unsettled ≡ 0 → IsCellCurrent c q name (With (being p r)) → Ends p
  ends p e u h = let early = h.early in let single = h.single in let idle = h.idle in
      let m0 : (With (being p r)).closers ≢ 0 = λ k. let x = early k in omega arith in
      let m : (With (being p r)).closers ≡ 1 = omega arith in
      let z : R.unsettled ≢ 0 → ⊥ = λ k. let x = idle (omega arith) in omega arith in
      let u0 : R.unsettled ≡ 0 = zero_or (R.unsettled) z in
      let d = h.due m (omega arith) in let rz : R.ending ≡ 0 = omega arith in let en : R.ended ≡ 0 = (let x = h.ended in omega arith) in
      let quiet = sound.quiet rz en in let a = sound.error in let b = sound.device_front in let f = sound.memory_front in let g = sound.closing in
      (rz, omega arith, omega arith, omega arith, omega arith, quiet.0, quiet.1, quiet.2, quiet.3, quiet.4, m, u0)
    where
      zero_or : (n : ℕ) → ((n ≢ 0) → ⊥) → n ≡ 0
      zero_or zero f = refl
      zero_or (suc n) f = absurd (f (λ e. omega arith))

  pub take_error : (n : ℕ) → n ≡ c.error → IsCellCurrent c q name (With (being Last r)) → IsCellCurrent record c { error = no_failure } q name (With record (being TookError r) { end_error = n })
  take_error n e h = let k = ends Last refl refl h in let a : R.error_out ≡ 0 = k.1 in let b : R.end_error ≡ 0 = k.5 in record {
    left = h.left;
    few = h.few;
    many = h.many;
    single = h.single;
    error = folds_take h.error (omega arith) (omega arith) (omega arith);
    device_front = h.device_front;
    memory_front = h.memory_front;
    closing = h.closing;
    due = h.due;
    idle = h.idle;
    early = h.early;
    ended = h.ended;
    count = h.count;
    claimed = h.claimed;
    named = h.named;
  }

  pub take_device_front : (n : ℕ) → n ≡ c.device_front → IsCellCurrent c q name (With (being TookError r)) → IsCellCurrent record c { device_front = 0 } q name (With record (being TookDeviceFront r) { end_device_front = n })
  take_device_front n e h = let k = ends TookError refl refl h in let a : R.device_front_out ≡ 0 = k.2 in let b : R.end_device_front ≡ 0 = k.6 in record {
    left = h.left;
    few = h.few;
    many = h.many;
    single = h.single;
    error = h.error;
    device_front = folds_take h.device_front (omega arith) (omega arith) (omega arith);
    memory_front = h.memory_front;
    closing = h.closing;
    due = h.due;
    idle = h.idle;
    early = h.early;
    ended = h.ended;
    count = h.count;
    claimed = h.claimed;
    named = h.named;
  }

  pub take_memory_front : (n : ℕ) → n ≡ c.memory_front → IsCellCurrent c q name (With (being TookDeviceFront r)) → IsCellCurrent record c { memory_front = 0 } q name (With record (being TookMemoryFront r) { end_memory_front = n })
  take_memory_front n e h = let k = ends TookDeviceFront refl refl h in let a : R.memory_front_out ≡ 0 = k.3 in let b : R.end_memory_front ≡ 0 = k.7 in record {
    left = h.left;
    few = h.few;
    many = h.many;
    single = h.single;
    error = h.error;
    device_front = h.device_front;
    memory_front = folds_take h.memory_front (omega arith) (omega arith) (omega arith);
    closing = h.closing;
    due = h.due;
    idle = h.idle;
    early = h.early;
    ended = h.ended;
    count = h.count;
    claimed = h.claimed;
    named = h.named;
  }

  pub take_closing : (n : ℕ) → n ≡ c.closing → IsCellCurrent c q name (With (being TookMemoryFront r)) → IsCellCurrent record c { closing = 0 } q name (With record (being TookClosing r) { end_closing = n })
  take_closing n e h = let k = ends TookMemoryFront refl refl h in let a : R.closing_out ≡ 0 = k.4 in let b : R.end_closing ≡ 0 = k.8 in let marked = k.10 in record {
    left = h.left;
    few = h.few;
    many = h.many;
    single = h.single;
    error = h.error;
    device_front = h.device_front;
    memory_front = h.memory_front;
    closing = λ m. folds_take (h.closing m) (omega arith) (omega arith) (omega arith);
    due = h.due;
    idle = h.idle;
    early = h.early;
    ended = h.ended;
    count = h.count;
    claimed = h.claimed;
    named = λ x. let f = h.claimed in let y = f (omega arith) in absurd (omega arith);
  }

  -- the ending one frees the words
  pub over : IsCellCurrent c q name (With (being TookClosing r)) → IsInstanceOver (With (being Ended r))
  over h = let k = ends TookClosing refl refl h in let a : R.error_out ≡ 0 = k.1 in let b : R.device_front_out ≡ 0 = k.2 in let d : R.memory_front_out ≡ 0 = k.3 in let f : R.closing_out ≡ 0 = k.4 in
      let z : R.ending ≡ 0 = k.0 in let u : R.unsettled ≡ 0 = k.11 in let en = h.ended in let m = k.10 in record {
        unsettled = omega arith;
        ending = omega arith;
        closers = m;
        ended = omega arith;
        count = h.count (omega arith);
        error = (h.error.1 (omega arith)).1;
        device_front = (h.device_front.1 (omega arith)).1;
        memory_front = (h.memory_front.1 (omega arith)).1;
        closing = ((h.closing m).1 (omega arith)).1;
      }

  pub free : IsCellCurrent c q name (With (being TookClosing r)) → (name' : ℕ) → IsCellCurrent record c { left = 0 } 0 name' nothing
  free h name' = let k = ends TookClosing refl refl h in let a : R.error_out ≡ 0 = k.1 in let b : R.device_front_out ≡ 0 = k.2 in let d : R.memory_front_out ≡ 0 = k.3 in let f : R.closing_out ≡ 0 = k.4 in let m = k.10 in record {
    left = refl;
    few = omega arith;
    many = omega arith;
    single = omega arith;
    error = ((λ _. (h.error.1 (omega arith)).0), λ x. absurd (omega arith));
    device_front = ((λ _. (h.device_front.1 (omega arith)).0), λ x. absurd (omega arith));
    memory_front = ((λ _. (h.memory_front.1 (omega arith)).0), λ x. absurd (omega arith));
    closing = λ x. absurd (omega arith);
    due = λ x. absurd (omega arith);
    idle = λ x. absurd (omega arith);
    early = λ _. refl;
    ended = refl;
    count = λ x. absurd (omega arith);
    claimed = λ _. refl;
    named = λ x. absurd (omega arith);
  }

module _ (c : Cell) (q name : ℕ) (t : Tally) where
  -- what the admitting seat is about to do changes
  pub reclaim : (q' name' : ℕ) → (0 < q' → t.closers ≡ 0) → (q' ≡ 2 → c.closing ≡ name') → IsCellCurrent c q name t → IsCellCurrent c q' name' t
  reclaim q' name' x y h = record {
    left = h.left;
    few = h.few;
    many = h.many;
    single = h.single;
    error = h.error;
    device_front = h.device_front;
    memory_front = h.memory_front;
    closing = h.closing;
    due = h.due;
    idle = h.idle;
    early = h.early;
    ended = h.ended;
    count = h.count;
    claimed = x;
    named = y;
  }

  pub place : (x : ℕ) → t.closers ≡ 0 → IsCellCurrent c q name t → IsCellCurrent record c { closing = x } 2 x t
  place x m h = record {
    left = h.left;
    few = h.few;
    many = h.many;
    single = h.single;
    error = h.error;
    device_front = h.device_front;
    memory_front = h.memory_front;
    closing = λ k. absurd (omega arith);
    due = h.due;
    idle = h.idle;
    early = h.early;
    ended = h.ended;
    count = h.count;
    claimed = λ _. m;
    named = λ _. refl;
  }

  pub unmarked : IsCellCurrent c q name t → c.left / 128 % 2 ≡ t.closers
  unmarked h = let left = h.left in let few = h.few in let single = h.single in omega arith

  module _ (sound : Sound t) (unit : both nothing t ≡ t) where
    pub add : (m : Member) → m.last ≡ false → t.unsettled + 1 < 128 → t.rows + 1 < 2 ^ 32 → IsCellCurrent c 1 name t → IsCellCurrent record c { left = (c.left + 257) % 2 ^ 64 } 0 name (both (tally_of (fresh_row m)) t)
    add m b few many h = let mark : (tally_of (fresh_row m)).closers ≡ 0 = ap bit b in let z : t.closers ≡ 0 = (let f = h.claimed in f (omega arith)) in let e : t.ending ≡ 0 = (let f = h.early in f z) in let left = h.left in
        let u : min no_failure t.error ≡ t.error = ap (λ k. k.error) unit in let sl = sound.error in let sd = sound.device_front in let sm = sound.memory_front in record {
          left = omega arith;
          few = omega arith;
          many = omega arith;
          single = omega arith;
          error = folds_put h.error (omega arith) (omega arith) (λ w. omega arith);
          device_front = folds_put h.device_front (omega arith) (omega arith) (λ w. omega arith);
          memory_front = folds_put h.memory_front (omega arith) (omega arith) (λ w. omega arith);
          closing = λ x. absurd (omega arith);
          due = λ x. absurd (omega arith);
          idle = λ _. omega arith;
          early = λ _. omega arith;
          ended = (let f = h.ended in omega arith);
          count = λ x. absurd (omega arith);
          claimed = λ x. absurd (omega arith);
          named = λ x. absurd (omega arith);
        }

    pub add_last : (m : Member) → m.last ≡ true → (name_of m) ≡ name → t.unsettled + 1 < 128 → t.rows + 1 < 2 ^ 32 → IsCellCurrent c 2 name t → IsCellCurrent record c { left = (c.left + 385) % 2 ^ 64 } 0 name (both (tally_of (fresh_row m)) t)
    add_last m b is few many h = let mark : (tally_of (fresh_row m)).closers ≡ 1 = ap bit b in let nm : (tally_of (fresh_row m)).closing ≡ (name_of m) = ap (λ k. if_last k (name_of m)) b in
        let z : t.closers ≡ 0 = (let f = h.claimed in f (omega arith)) in let e : t.ending ≡ 0 = (let f = h.early in f z) in let left = h.left in
        let u : min no_failure t.error ≡ t.error = ap (λ k. k.error) unit in let sl = sound.error in let sd = sound.device_front in let sm = sound.memory_front in let sc = sound.closing in
        let nc : t.closing ≡ 0 = sound.unnamed z in let w = h.named refl in record {
          left = omega arith;
          few = omega arith;
          many = omega arith;
          single = omega arith;
          error = folds_put h.error (omega arith) (omega arith) (λ w. omega arith);
          device_front = folds_put h.device_front (omega arith) (omega arith) (λ w. omega arith);
          memory_front = folds_put h.memory_front (omega arith) (omega arith) (λ w. omega arith);
          closing = λ _. ((λ _. omega arith), λ x. absurd (omega arith));
          due = λ _ x. absurd (omega arith);
          idle = λ _. omega arith;
          early = λ _. omega arith;
          ended = (let f = h.ended in omega arith);
          count = λ x. absurd (omega arith);
          claimed = λ x. absurd (omega arith);
          named = λ x. absurd (omega arith);
        }
