-- A close that waited leaves the list.
use Rattle.std.proofs.Common.{◌≡◌, ◌⊎◌, inl, inr, ℕ, ◌<◌, ◌==◌, Bool, true, false, cond, List, length, get_or, Some, None, refl, sym, subst, ◌∙◌, arith, remove}
use Rattle.std.specs.Prelude.{slice_get, position, nat_lt}
use Rattle.std.specs.List.{list_any, position_or_len}
use Rattle.std.proofs.lemmas.Bool.{ltb-false}
use Rattle.std.proofs.lemmas.Bool.Decides.{eqb_tells}
use Rattle.std.proofs.lemmas.List.Sums.{fails_before_first}
use Rattle.std.proofs.lemmas.List.Quantifiers.{position-Some}
use Rattle.std.proofs.lemmas.Option.{slice_get_read}
use Rattle.host_intake.specs.{Waiting, IsIntake, IntakeState, HasLeft, is_waiting_at}
use Rattle.host_intake.proofs.Removing.{left_stood, count_remove, none_left, past_any}

-- where no element is found, none passes
pub position_none : {A : Type 0} (p : A → Bool) (xs : List A) → position p xs ≡ None → list_any p xs ≡ false
position_none {A} p xs e = past_any p xs (λ k d h. fails_before_first p xs k d (let n = ltb-false (position_or_len p xs) (length xs) (off (nat_lt (position_or_len p xs) (length xs)) (position_or_len p xs) e) in omega arith))
  where
    off : (b : Bool) (n : ℕ) → cond b (Some n) None ≡ None → b ≡ false
    off true n e = absurd (cc)
    off false n e = refl

equal_of : (a b : ℕ) → (a == b) ≡ true → a ≡ b
equal_of a b e = step (eqb_tells a b)
  where
    step : (((a == b) ≡ true) × (a ≡ b)) ⊎ (((a == b) ≡ false) × (a ≡ b → ⊥)) → a ≡ b
    step (inl s) = s.1
    step (inr s) = absurd (let f : false ≡ true = sym s.0 ∙ e in cc)

module _ (s : IntakeState) (k : IsIntake s) (i n : ℕ) (w : Waiting) (found : position (is_waiting_at i) s.waiting ≡ Some n) (at : w ≡ get_or s.waiting n w) where
  within : n < length s.waiting
  within = (position-Some (is_waiting_at i) s.waiting n w found).0

  stands : slice_get s.waiting n ≡ Some w
  stands = slice_get_read s.waiting (length s.waiting) n w refl within at

  passes : is_waiting_at i w ≡ true
  passes = subst (λ (z : Waiting). is_waiting_at i z ≡ true) (sym at) ((position-Some (is_waiting_at i) s.waiting n w found).1)

  pub intake_left : IsIntake (record s { waiting = remove s.waiting n })
  intake_left = record {
    popped = k.popped;
    resting = k.resting;
    taken = k.taken;
    landed = k.landed;
    cells = k.cells;
    waiting = record {
      each = λ m x e. let r = left_stood s.waiting n m x e in k.waiting.each r.0 x r.1;
      apart = λ j. let a = count_remove (is_waiting_at j) s.waiting n in let b = k.waiting.apart j in omega arith;
    };
    turned = k.turned;
    limit = k.limit;
  }

  pub has_left : HasLeft i s (record s { waiting = remove s.waiting n }) w
  has_left = (
    equal_of w.envelope.index i passes,
    refl,
    none_left (is_waiting_at i) s.waiting n w within (subst (λ (z : Waiting). is_waiting_at i z ≡ true) at passes) (k.waiting.apart i),
    (n, refl, stands),
    k.waiting.each n w stands,
  )
