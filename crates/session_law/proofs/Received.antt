-- The slips of a client end's acts, and the answers in its log.
use Rattle.std.proofs.Common.{◌≡◌, ℕ, suc, ◌<◌, true, false, nat_lt, List, [], ◌∷◌, length, take, drop, Option, Some, None, refl, sym, ap, ◌∙◌, arith}
use Rattle.std.specs.Prelude.{is_some, unwrap_or}
use Rattle.std.specs.List.{cons_option, slice_get}
use Rattle.std.proofs.lemmas.Bool.{ltb-true}
use Rattle.std.proofs.lemmas.List.{take-append-drop, take-map, take_at}
use Rattle.std.proofs.lemmas.List.Elements.{filter_map-append}
use Rattle.host_block.proofs.Places.{from_take}
use Rattle.host_model.specs.{Event, Attached, NotAttached, Filled, Shown, Sent, Received, Drained, Aborted, MemEntry, received, received_bytes, sent}
use Rattle.host_model.proofs.ListTests.{both}
use Rattle.host_record.specs.{response_of}
use Rattle.host_rings.specs.{Slip}
use Rattle.host_session.specs.{Act, IsAct, IsEventAfter, log_of, slips_of}
use Rattle.session_law.proofs.Places.{found_at}
use Rattle.session_law.proofs.Sending.{none_is, sent_until}

no_slip : {B : Type 0} (o : Option B) → o ≡ None → is_some o ≡ false
no_slip None e = refl
no_slip (Some x) e = absurd (cc)

module _ (h : List MemEntry) (before : List Act) (a : Act) where
  -- a slip comes with an answer, and with nothing else
  slip_there : (e : Event) → IsEventAfter h before a e → is_some a.slip ≡ is_some (received_bytes e)
  slip_there (Attached pages id) is = no_slip a.slip is.plain.slip
  slip_there (NotAttached pages cause) is = no_slip a.slip is.slip
  slip_there (Filled id block count byte true) is = no_slip a.slip is.plain.slip
  slip_there (Filled id block count byte false) is = no_slip a.slip is.plain.slip
  slip_there (Shown id block count true bytes) is = no_slip a.slip is.plain.slip
  slip_there (Shown id block count false bytes) is = no_slip a.slip is.plain.slip
  slip_there (Sent index bytes) is = no_slip a.slip is.slip
  slip_there (Received bytes) is = ap is_some is.slip
  slip_there Drained is = no_slip a.slip is.plain.slip
  slip_there Aborted is = no_slip a.slip is.slip

  -- it answers a record that was sent before
  slip_before : (x : Slip) → a.slip ≡ Some x → (e : Event) → IsEventAfter h before a e → x.index < length (sent (log_of before))
  slip_before x at (Attached pages id) is = none_is a.slip x (x.index < length (sent (log_of before))) is.plain.slip at
  slip_before x at (NotAttached pages cause) is = none_is a.slip x (x.index < length (sent (log_of before))) is.slip at
  slip_before x at (Filled id block count byte true) is = none_is a.slip x (x.index < length (sent (log_of before))) is.plain.slip at
  slip_before x at (Filled id block count byte false) is = none_is a.slip x (x.index < length (sent (log_of before))) is.plain.slip at
  slip_before x at (Shown id block count true bytes) is = none_is a.slip x (x.index < length (sent (log_of before))) is.plain.slip at
  slip_before x at (Shown id block count false bytes) is = none_is a.slip x (x.index < length (sent (log_of before))) is.plain.slip at
  slip_before x at (Sent index bytes) is = none_is a.slip x (x.index < length (sent (log_of before))) is.slip at
  slip_before x at (Received bytes) is =
      let same : is.received ≡ x = ap (λ (o : Option Slip). unwrap_or o x) (sym is.slip ∙ at) in
      let lt : is.received.index < length (sent (log_of before)) = ltb-true is.received.index (length (sent (log_of before))) (both (nat_lt is.received.index (length (sent (log_of before)))) (is_some (response_of is.received.bytes)) is.answer).0 in
      let index : is.received.index ≡ x.index = ap (λ (s : Slip). s.index) same in
      omega (arith, lt, index)
  slip_before x at Drained is = none_is a.slip x (x.index < length (sent (log_of before))) is.plain.slip at
  slip_before x at Aborted is = none_is a.slip x (x.index < length (sent (log_of before))) is.slip at

-- as many answers as slips
as_many : (xs : List Act) → ((n : ℕ) (a : Act) → slice_get xs n ≡ Some a → is_some a.slip ≡ is_some (received_bytes a.event)) → length (received (log_of xs)) ≡ length (slips_of xs)
as_many [] h = refl
as_many (a ∷ xs) h = step (received_bytes a.event) a.slip (h 0 a refl) (as_many xs (λ n b at. h (suc n) b at))
  where
    step : (o : Option (List ℕ)) (p : Option Slip) → is_some p ≡ is_some o → length (received (log_of xs)) ≡ length (slips_of xs) → length (cons_option o (received (log_of xs))) ≡ length (cons_option p (slips_of xs))
    step None None e r = r
    step None (Some y) e r = absurd (cc)
    step (Some x) None e r = absurd (cc)
    step (Some x) (Some y) e r = ap suc r

module _ (h : List MemEntry) (acts : List Act) (each : (n : ℕ) (a : Act) → slice_get acts n ≡ Some a → IsAct h (take n acts) a) where
  -- the answers in the first events come in the slips of the first acts
  pub received_count : (n : ℕ) → length (received (take n (log_of acts))) ≡ length (slips_of (take n acts))
  received_count n =
      ap (λ l. length (received l)) (take-map (λ (a : Act). a.event) n acts)
      ∙ as_many (take n acts) (λ m a at. let p = from_take acts n m a at in slip_there h (take m acts) a a.event (each m a p.0))

  pub first_slips : (n : ℕ) → take (length (received (take n (log_of acts)))) (slips_of acts) ≡ slips_of (take n acts)
  first_slips n =
      ap (λ k. take k (slips_of acts)) (received_count n)
      ∙ (ap (λ l. take (length (slips_of (take n acts))) (slips_of l)) (sym (take-append-drop n acts))
      ∙ (ap (take (length (slips_of (take n acts)))) (filter_map-append (λ (a : Act). a.slip) (take n acts) (drop n acts))
      ∙ take_at (slips_of (take n acts)) (slips_of (drop n acts)) (length (slips_of (take n acts))) refl))

  -- the act that received a slip
  pub record IsReceivedBy (x : Slip) (n m : ℕ) (a : Act) : Type 0 where
    pub at : slice_get acts m ≡ Some a
    pub slip : a.slip ≡ Some x
    pub early : m < n
    pub sent : x.index < sent_until acts m

  pub received_by : (n j : ℕ) (x : Slip) → slice_get (slips_of (take n acts)) j ≡ Some x → (m : ℕ) × (a : Act) × IsReceivedBy x n m a
  received_by n j x at =
      let r = found_at (λ (a : Act). a.slip) (take n acts) j x at in
      let p = from_take acts n r.0 r.1 r.2 in
      (r.0, r.1, record { at = p.0; slip = r.3; early = p.1; sent = slip_before h (take r.0 acts) r.1 x r.3 r.1.event (each r.0 r.1 p.0) })
