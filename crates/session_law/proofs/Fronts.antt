-- How the fronts that a client end knows grow from act to act.
use Rattle.std.proofs.Common.{◌≡◌, ◌⊎◌, inl, inr, ℕ, zero, suc, ◌-◌, ◌<◌, ◌≤◌, Bool, true, false, cond, List, take, Option, Some, None, sym, ap, subst, ◌∙◌, arith}
use Rattle.std.specs.List.{slice_get}
use Rattle.host_model.specs.{Event, Attached, NotAttached, Filled, Shown, Sent, Received, Drained, Aborted, MemEntry}
use Rattle.host_rings.specs.{Envelope, Slip}
use Rattle.host_session.specs.{Fronts, Act, IsAct, IsEventAfter, fronts_after, has_entry, AreWithin, slip_fronts}
use Rattle.host_session.proofs.Course.{fronts_of_last, within_refl, within_trans}
use Rattle.session_law.specs.{DoFrontsRise, FrontsRise, envelope_fronts}
use Rattle.session_law.proofs.Places.{one_before, take_one}

-- ---- one act

module _ (h : List MemEntry) (before : List Act) (a : Act) where
  -- what was known stays known
  no_less : (e : Event) → IsEventAfter h before a e → AreWithin (fronts_after before) a.fronts
  no_less (Attached pages id) is = is.plain.fronts
  no_less (NotAttached pages cause) is = is.fronts
  no_less (Filled id block count byte true) is = is.plain.fronts
  no_less (Filled id block count byte false) is = is.plain.fronts
  no_less (Shown id block count true bytes) is = is.plain.fronts
  no_less (Shown id block count false bytes) is = is.plain.fronts
  no_less (Sent index bytes) is = is.fronts
  no_less (Received bytes) is = is.fronts
  no_less Drained is = is.plain.fronts
  no_less Aborted is = is.fronts

  none_is : {B : Type 0} (o : Option B) (x : B) (G : Type 0) → o ≡ None → o ≡ Some x → G
  none_is o x G e f = absurd (cc)

  -- an envelope has the fronts that were known
  in_envelope : (e : Event) → IsEventAfter h before a e → (v : Envelope) → a.envelope ≡ Some v → envelope_fronts v ≡ a.fronts
  in_envelope (Attached pages id) is v at = none_is a.envelope v (envelope_fronts v ≡ a.fronts) is.plain.envelope at
  in_envelope (NotAttached pages cause) is v at = none_is a.envelope v (envelope_fronts v ≡ a.fronts) is.envelope at
  in_envelope (Filled id block count byte true) is v at = none_is a.envelope v (envelope_fronts v ≡ a.fronts) is.plain.envelope at
  in_envelope (Filled id block count byte false) is v at = none_is a.envelope v (envelope_fronts v ≡ a.fronts) is.plain.envelope at
  in_envelope (Shown id block count true bytes) is v at = none_is a.envelope v (envelope_fronts v ≡ a.fronts) is.plain.envelope at
  in_envelope (Shown id block count false bytes) is v at = none_is a.envelope v (envelope_fronts v ≡ a.fronts) is.plain.envelope at
  in_envelope (Sent index bytes) is v at = let e = sym at ∙ is.envelope in ap (λ (o : Option Envelope). elim o as (λ o. Fronts) [ Some w ↦ envelope_fronts w | None ↦ a.fronts ]) e
  in_envelope (Received bytes) is v at = none_is a.envelope v (envelope_fronts v ≡ a.fronts) is.envelope at
  in_envelope Drained is v at = none_is a.envelope v (envelope_fronts v ≡ a.fronts) is.plain.envelope at
  in_envelope Aborted is v at = none_is a.envelope v (envelope_fronts v ≡ a.fronts) is.envelope at

  -- what a slip told is known
  in_slip : (e : Event) → IsEventAfter h before a e → (s : Slip) → a.slip ≡ Some s → AreWithin (slip_fronts s) a.fronts
  in_slip (Attached pages id) is s at = none_is a.slip s (AreWithin (slip_fronts s) a.fronts) is.plain.slip at
  in_slip (NotAttached pages cause) is s at = none_is a.slip s (AreWithin (slip_fronts s) a.fronts) is.slip at
  in_slip (Filled id block count byte true) is s at = none_is a.slip s (AreWithin (slip_fronts s) a.fronts) is.plain.slip at
  in_slip (Filled id block count byte false) is s at = none_is a.slip s (AreWithin (slip_fronts s) a.fronts) is.plain.slip at
  in_slip (Shown id block count true bytes) is s at = none_is a.slip s (AreWithin (slip_fronts s) a.fronts) is.plain.slip at
  in_slip (Shown id block count false bytes) is s at = none_is a.slip s (AreWithin (slip_fronts s) a.fronts) is.plain.slip at
  in_slip (Sent index bytes) is s at = none_is a.slip s (AreWithin (slip_fronts s) a.fronts) is.slip at
  in_slip (Received bytes) is s at = let same : is.received ≡ s = cc (is.slip, at) in subst (λ w. AreWithin (slip_fronts w) a.fronts) same is.raised
  in_slip Drained is s at = none_is a.slip s (AreWithin (slip_fronts s) a.fronts) is.plain.slip at
  in_slip Aborted is s at = none_is a.slip s (AreWithin (slip_fronts s) a.fronts) is.slip at

  -- an entry stands between what was known before and after
  at_place : (b : Bool) (p : ℕ) → cond b (Some (a.fronts.memory - 1)) None ≡ Some p → (fronts_after before).memory < a.fronts.memory → ((fronts_after before).memory ≤ p) × (p < a.fronts.memory)
  at_place true p e past = let q : a.fronts.memory - 1 ≡ p = cc in (omega arith, omega arith)
  at_place false p e past = absurd (cc)

  in_entry : (e : Event) → IsEventAfter h before a e → (p : ℕ) → cond (has_entry e) (Some (a.fronts.memory - 1)) None ≡ Some p → ((fronts_after before).memory ≤ p) × (p < a.fronts.memory)
  in_entry (Attached pages id) is p at = at_place true p at is.past
  in_entry (NotAttached pages cause) is p at = absurd (cc)
  in_entry (Filled id block count byte true) is p at = at_place true p at is.past
  in_entry (Filled id block count byte false) is p at = absurd (cc)
  in_entry (Shown id block count true bytes) is p at = at_place true p at is.past
  in_entry (Shown id block count false bytes) is p at = absurd (cc)
  in_entry (Sent index bytes) is p at = absurd (cc)
  in_entry (Received bytes) is p at = absurd (cc)
  in_entry Drained is p at = absurd (cc)
  in_entry Aborted is p at = absurd (cc)

-- ---- all acts

le_split : (m n : ℕ) → m ≤ suc n → (m ≤ n) ⊎ (m ≡ suc n)
le_split zero n le = inl (omega arith)
le_split (suc m) zero le = inr (omega arith)
le_split (suc m) (suc n) le = elim (le_split m n (omega arith)) as (λ s. (suc m ≤ suc n) ⊎ (suc m ≡ suc (suc n))) [ inl x ↦ inl (omega arith) | inr x ↦ inr (omega arith) ]

module _ (h : List MemEntry) (acts : List Act) (each : (n : ℕ) (a : Act) → slice_get acts n ≡ Some a → IsAct h (take n acts) a) where
  pub after_act : (n : ℕ) (a : Act) → slice_get acts n ≡ Some a → fronts_after (take (suc n) acts) ≡ a.fronts
  after_act n a at = ap fronts_after (take_one acts n a at) ∙ fronts_of_last (take n acts) a

  same_act : (m n : ℕ) (a b : Act) → slice_get acts m ≡ Some a → slice_get acts n ≡ Some b → m ≡ n → AreWithin a.fronts b.fronts
  same_act m n a b at bt e = let same : a ≡ b = cc (ap (slice_get acts) e, at, bt) in subst (λ (w : Act). AreWithin a.fronts w.fronts) same (within_refl a.fronts)

  one_later : (m n : ℕ) (a b : Act) → slice_get acts m ≡ Some a → slice_get acts (suc n) ≡ Some b → (m ≤ n) ⊎ (m ≡ suc n) → (m ≤ n → AreWithin a.fronts b.fronts) → AreWithin a.fronts b.fronts
  one_later m n a b at bt (inl l) more = more l
  one_later m n a b at bt (inr e) more = same_act m (suc n) a b at bt e

  -- from one act to a later one
  pub known_after : (m n : ℕ) (a b : Act) → slice_get acts m ≡ Some a → slice_get acts n ≡ Some b → m ≤ n → AreWithin a.fronts b.fronts
  known_after m zero a b at bt le = same_act m 0 a b at bt (omega arith)
  known_after m (suc n) a b at bt le =
      let mid = one_before acts n (suc n) b bt (omega arith) in
      one_later m n a b at bt (le_split m n le) (λ l. within_trans a.fronts mid.0.fronts b.fronts (known_after m n a mid.0 at mid.1 l)
      (subst (λ f. AreWithin f b.fronts) (after_act n mid.0 mid.1) (no_less h (take (suc n) acts) b b.event (each (suc n) b bt))))

  -- what was known after an act, was known before a later one
  pub known_before : (m n : ℕ) (a b : Act) → slice_get acts m ≡ Some a → slice_get acts n ≡ Some b → m < n → AreWithin a.fronts (fronts_after (take n acts))
  known_before m zero a b at bt lt = absurd (omega arith)
  known_before m (suc n) a b at bt lt =
      let mid = one_before acts n (suc n) b bt (omega arith) in
      subst (λ f. AreWithin a.fronts f) (sym (after_act n mid.0 mid.1)) (known_after m n a mid.0 at mid.1 (omega arith))

  pub rises : DoFrontsRise acts
  rises = record {
    known = known_after;
    sent = λ n b e bt is. in_envelope h (take n acts) b b.event (each n b bt) e is;
    received = λ m n a b s at bt lt is. within_trans (slip_fronts s) a.fronts b.fronts (in_slip h (take m acts) a a.event (each m a at) s is) (known_after m n a b at bt lt);
    entered = λ m n p a b at bt le is. let w = known_after m n a b at bt le in let g = (in_entry h (take m acts) a a.event (each m a at) p is).1 in omega (arith, w.memory, g);
    late = λ m n p a b at bt lt is. let w = known_before m n a b at bt lt in let g = (in_entry h (take n acts) b b.event (each n b bt) p is).0 in omega (arith, w.memory, g);
  }

pub fronts_rise : FrontsRise
fronts_rise log pushed taken h front acts c = rises h acts c.each
