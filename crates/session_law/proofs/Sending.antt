-- Which act of a client end sent a record, and which one left an entry.
use Rattle.std.proofs.Common.{◌≡◌, ℕ, zero, suc, ◌+◌, ◌-◌, ◌<◌, ◌≤◌, Bool, true, false, nat_lt, cond, List, [], ◌∷◌, ◌++◌, length, filter, filter_map, take, Option, Some, None, refl, sym, ap, ◌∙◌, arith, append_assoc}
use Rattle.std.specs.Prelude.{is_some, unwrap_or}
use Rattle.std.specs.List.{cons_option, slice_get}
use Rattle.std.specs.Option.{option_map}
use Rattle.std.proofs.lemmas.Bool.{ltb-false, ltb-true}
use Rattle.std.proofs.lemmas.Option.{slice_get-map}
use Rattle.host_memory.specs.{events}
use Rattle.host_model.specs.{Event, Attached, NotAttached, Filled, Shown, Sent, Received, Drained, Aborted, MemEntry, MemEvent, Attach, entry_after, is_client, told, map_after, sent, sent_bytes}
use Rattle.host_rings.specs.{Envelope, Slip}
use Rattle.host_session.specs.{Fronts, Act, IsCourse, IsEventAfter, entry_place, envelopes_of, has_entry, log_of, next_envelope}
use Rattle.session_law.specs.{DoFrontsRise}
use Rattle.session_law.proofs.Fronts.{rises}
use Rattle.session_law.proofs.Places.{fewer_told, found_at, rank, told_here}

-- how many records were sent in the first acts
abbrev pub sent_until : List Act → ℕ → ℕ
sent_until acts n = length (sent (log_of (take n acts)))

event_bytes : Act → Option (List ℕ)
event_bytes a = sent_bytes a.event

told_of_acts : (acts : List Act) → filter_map sent_bytes (log_of acts) ≡ filter_map event_bytes acts
unfolding event_bytes
told_of_acts [] = refl
told_of_acts (a ∷ acts) = ap (λ l. cons_option (sent_bytes a.event) l) (told_of_acts acts)

pub more_sent : (acts : List Act) (m n : ℕ) → m ≤ n → sent_until acts m ≤ sent_until acts n
more_sent acts m n le =
    let a : length (filter_map sent_bytes (log_of (take m acts))) ≡ length (filter_map event_bytes (take m acts)) = ap length (told_of_acts (take m acts)) in
    let b : length (filter_map sent_bytes (log_of (take n acts))) ≡ length (filter_map event_bytes (take n acts)) = ap length (told_of_acts (take n acts)) in
    omega (arith, a, b, fewer_told event_bytes acts m n le)

pub one_sent : (acts : List Act) (n : ℕ) (a : Act) (bytes : List ℕ) → slice_get acts n ≡ Some a → sent_bytes a.event ≡ Some bytes → sent_until acts (suc n) ≡ sent_until acts n + 1
unfolding event_bytes
one_sent acts n a bytes at is =
    let x : length (filter_map sent_bytes (log_of (take n acts))) ≡ length (filter_map event_bytes (take n acts)) = ap length (told_of_acts (take n acts)) in
    let y : length (filter_map sent_bytes (log_of (take (suc n) acts))) ≡ length (filter_map event_bytes (take (suc n) acts)) = ap length (told_of_acts (take (suc n) acts)) in
    omega (arith, x, y, told_here event_bytes acts n a bytes at is)

-- ---- one act

pub none_is : {B : Type 0} (o : Option B) (x : B) (G : Type 0) → o ≡ None → o ≡ Some x → G
none_is o x G e f = absurd (cc)

-- an envelope comes with a record, and has its index
module _ (h : List MemEntry) (before : List Act) (a : Act) (v : Envelope) (at : a.envelope ≡ Some v) where
  abbrev IsIndexed : Event → Type 0
  IsIndexed e = (v.index ≡ length (sent (log_of before))) × ((bytes : List ℕ) × (sent_bytes e ≡ Some bytes) × (v.bytes ≡ bytes))

  pub indexed : (e : Event) → IsEventAfter h before a e → IsIndexed e
  indexed (Attached pages id) is = none_is a.envelope v (IsIndexed (Attached pages id)) is.plain.envelope at
  indexed (NotAttached pages cause) is = none_is a.envelope v (IsIndexed (NotAttached pages cause)) is.envelope at
  indexed (Filled id block count byte true) is = none_is a.envelope v (IsIndexed (Filled id block count byte true)) is.plain.envelope at
  indexed (Filled id block count byte false) is = none_is a.envelope v (IsIndexed (Filled id block count byte false)) is.plain.envelope at
  indexed (Shown id block count true bytes) is = none_is a.envelope v (IsIndexed (Shown id block count true bytes)) is.plain.envelope at
  indexed (Shown id block count false bytes) is = none_is a.envelope v (IsIndexed (Shown id block count false bytes)) is.plain.envelope at
  indexed (Sent index bytes) is =
      let same : next_envelope (log_of before) bytes a.fronts ≡ v = ap (λ (o : Option Envelope). unwrap_or o v) (sym is.envelope ∙ at) in
      (ap (λ (w : Envelope). w.index) (sym same), (bytes, refl, ap (λ (w : Envelope). w.bytes) (sym same)))
  indexed (Received bytes) is = none_is a.envelope v (IsIndexed (Received bytes)) is.envelope at
  indexed Drained is = none_is a.envelope v (IsIndexed Drained) is.plain.envelope at
  indexed Aborted is = none_is a.envelope v (IsIndexed Aborted) is.envelope at

-- an event has an entry, or none
pub entry_there : (before : List Event) (e : Event) → is_some (entry_after before e) ≡ has_entry e
entry_there before (Attached pages id) = refl
entry_there before (NotAttached pages cause) = refl
entry_there before (Filled id block count byte true) = refl
entry_there before (Filled id block count byte false) = refl
entry_there before (Shown id block count true bytes) = refl
entry_there before (Shown id block count false bytes) = refl
entry_there before (Sent index bytes) = refl
entry_there before (Received bytes) = refl
entry_there before Drained = refl
entry_there before Aborted = refl

-- an attach tells how many records were sent before it
pub attached_from : (before : List Event) (e : Event) (id pages from : ℕ) → entry_after before e ≡ Some (Attach id pages from) → from ≡ length (sent before)
attached_from before (Attached p i) id pages from e = cc
attached_from before (NotAttached p cause) id pages from e = absurd (cc)
attached_from before (Filled i block count byte true) id pages from e = absurd (cc)
attached_from before (Filled i block count byte false) id pages from e = absurd (cc)
attached_from before (Shown i block count true bytes) id pages from e = absurd (cc)
attached_from before (Shown i block count false bytes) id pages from e = absurd (cc)
attached_from before (Sent index bytes) id pages from e = absurd (cc)
attached_from before (Received bytes) id pages from e = absurd (cc)
attached_from before Drained id pages from e = absurd (cc)
attached_from before Aborted id pages from e = absurd (cc)

-- ---- the act of an entry

pub record IsActOf (acts : List Act) (before : List Event) (n : ℕ) (w : MemEvent) (m : ℕ) (a : Act) : Type 0 where
  pub at : slice_get acts m ≡ Some a
  pub place : entry_place a ≡ Some n
  pub entry : entry_after (before ++ log_of (take m acts)) a.event ≡ Some w

act_later : (a x : Act) (acts : List Act) (before : List Event) (n : ℕ) (w : MemEvent) (m : ℕ) → IsActOf acts (before ++ x.event ∷ []) n w m a → IsActOf (x ∷ acts) before n w (suc m) a
act_later a x acts before n w m is = record {
  at = is.at;
  place = is.place;
  entry = ap (λ l. entry_after l a.event) (sym (append_assoc before (x.event ∷ []) (log_of (take m acts)))) ∙ is.entry;
}

act_first : (x : Act) (acts : List Act) (before : List Event) (n : ℕ) (w : MemEvent) → entry_place x ≡ Some n → entry_after before x.event ≡ Some w → IsActOf (x ∷ acts) before n w 0 x
act_first x acts before n w place entry = record {
  at = refl;
  place = place;
  entry = ap (λ l. entry_after l x.event) (append_none before) ∙ entry;
}
  where
    append_none : (l : List Event) → l ++ [] ≡ l
    append_none [] = refl
    append_none (e ∷ l) = ap (λ r. e ∷ r) (append_none l)

pub told_act : (acts : List Act) (before : List Event) (j n : ℕ) (w : MemEvent) → slice_get (filter_map entry_place acts) j ≡ Some n → slice_get (map_after entry_after before (log_of acts)) j ≡ Some w
    → (m : ℕ) × (a : Act) × IsActOf acts before n w m a
told_act [] before zero n w f g = absurd (cc)
told_act [] before (suc j) n w f g = absurd (cc)
told_act (x ∷ acts) before j n w f g = step (has_entry x.event) (entry_after before x.event) refl refl (entry_there before x.event) j f g (λ i p q. told_act acts (before ++ x.event ∷ []) i n w p q)
  where
    more : (m : ℕ) × (a : Act) × IsActOf acts (before ++ x.event ∷ []) n w m a → (m : ℕ) × (a : Act) × IsActOf (x ∷ acts) before n w m a
    more r = (suc r.0, r.1, act_later r.1 x acts before n w r.0 r.2)

    step : (b : Bool) (o : Option MemEvent) → has_entry x.event ≡ b → entry_after before x.event ≡ o → is_some o ≡ b
        → (j : ℕ) → slice_get (cons_option (cond b (Some (x.fronts.memory - 1)) None) (filter_map entry_place acts)) j ≡ Some n
        → slice_get (cons_option o (map_after entry_after (before ++ x.event ∷ []) (log_of acts))) j ≡ Some w
        → ((i : ℕ) → slice_get (filter_map entry_place acts) i ≡ Some n → slice_get (map_after entry_after (before ++ x.event ∷ []) (log_of acts)) i ≡ Some w → (m : ℕ) × (a : Act) × IsActOf acts (before ++ x.event ∷ []) n w m a)
        → (m : ℕ) × (a : Act) × IsActOf (x ∷ acts) before n w m a
    step true None p q s j f g rest = absurd (cc)
    step true (Some y) p q s zero f g rest = (0, x, act_first x acts before n w (ap (λ b. cond b (Some (x.fronts.memory - 1)) None) p ∙ f) (q ∙ g))
    step true (Some y) p q s (suc j) f g rest = more (rest j f g)
    step false None p q s j f g rest = more (rest j f g)
    step false (Some y) p q s j f g rest = absurd (cc)

not_after : (m k : ℕ) → (suc k ≤ m → ⊥) → m ≤ k
not_after m k never = at (nat_lt k m) refl
  where
    at : (b : Bool) → nat_lt k m ≡ b → m ≤ k
    at true e = absurd (never (let l = ltb-true k m e in omega arith))
    at false e = ltb-false k m e

-- ---- the course

module _ (log : List Event) (pushed : List Envelope) (taken : List Slip) (h : List MemEntry) (known : Fronts) (acts : List Act) (c : IsCourse log pushed taken h known acts) where
  pub fronts_of : DoFrontsRise acts
  fronts_of = rises h acts c.each

  -- the act that sent a record
  pub record IsSentBy (v : Envelope) (k : ℕ) (a : Act) : Type 0 where
    pub at : slice_get acts k ≡ Some a
    pub envelope : a.envelope ≡ Some v
    pub before : sent_until acts k ≡ v.index
    pub after : sent_until acts (suc k) ≡ v.index + 1
    pub bytes : sent_bytes a.event ≡ Some v.bytes

  pub sent_by : (i : ℕ) (v : Envelope) → slice_get pushed i ≡ Some v → (k : ℕ) × (a : Act) × IsSentBy v k a
  sent_by i v at =
      let e : slice_get (envelopes_of acts) i ≡ Some v = ap (λ l. slice_get l i) c.envelopes ∙ at in
      let r = found_at (λ (a : Act). a.envelope) acts i v e in
      let k : ℕ = r.0 in let a : Act = r.1 in let there : slice_get acts k ≡ Some a = r.2 in
      let d : IsIndexed h (take k acts) a v r.3 a.event = indexed h (take k acts) a v r.3 a.event (c.each k a there) in
      let one : sent_until acts (suc k) ≡ sent_until acts k + 1 = one_sent acts k a d.1.0 there d.1.1 in (
        k,
        a,
        record {
          at = there;
          envelope = r.3;
          before = sym d.0;
          after = one ∙ ap (λ n. n + 1) (sym d.0);
          bytes = d.1.1 ∙ ap Some (sym d.1.2);
        },
      )

  module _ (entries : filter is_client (events h) ≡ told log) where
    -- the act that left an entry of the client's
    pub entered_by : (n : ℕ) (e : MemEntry) → slice_get h n ≡ Some e → is_client e.what ≡ true → (m : ℕ) × (a : Act) × IsActOf acts [] n e.what m a
    entered_by n e at is =
        let there : slice_get (events h) n ≡ Some e.what = slice_get-map (λ (x : MemEntry). x.what) h n ∙ ap (option_map (λ (x : MemEntry). x.what)) at in
        let r = rank is_client 0 (events h) n e.what there is in
        let z : 0 + n ≡ n = omega arith in
        told_act acts [] r.0 n e.what
        (ap (λ l. slice_get l r.0) (sym c.places) ∙ (r.2 ∙ ap Some z))
        (ap (λ l. slice_get (told l) r.0) c.events_are ∙ (ap (λ l. slice_get l r.0) (sym entries) ∙ r.1))

    -- what was attached before a record was sent stands below its envelope's memory front
    pub attached_before : (i n : ℕ) (v : Envelope) (e : MemEntry) (id pages from : ℕ) → slice_get pushed i ≡ Some v → slice_get h n ≡ Some e → e.what ≡ Attach id pages from → from ≤ v.index → n < v.memory_front
    attached_before i n v e id pages from sent_at at what le =
        let s = sent_by i v sent_at in
        let client : is_client e.what ≡ true = ap is_client what in
        let r = entered_by n e at client in
        let m : ℕ = r.0 in let a : Act = r.1 in
        let k : ℕ = s.0 in let b : Act = s.1 in
        let before : from ≡ sent_until acts m = attached_from (log_of (take m acts)) a.event id pages from (r.2.entry ∙ ap Some what) in
        let earlier : m ≤ k = not_after m k (λ lt. let more : sent_until acts (suc k) ≤ sent_until acts m = more_sent acts (suc k) m lt in let last : sent_until acts (suc k) ≡ v.index + 1 = s.2.after in omega (arith, more, last, before, le)) in
        let past : n < b.fronts.memory = fronts_of.entered m k n a b r.2.at s.2.at earlier r.2.place in
        let front : v.memory_front ≡ b.fronts.memory = ap (λ (f : Fronts). f.memory) (fronts_of.sent k b v s.2.at s.2.envelope) in
        omega (arith, past, front)
