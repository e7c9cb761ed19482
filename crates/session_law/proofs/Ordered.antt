-- What was answered before a record was sent stands before what the record does.
use Rattle.std.proofs.Common.{◌≡◌, ◌⊎◌, inl, inr, ℕ, suc, ◌+◌, ◌<◌, ◌≤◌, ◌==◌, Bool, true, false, List, [], filter_map, length, take, drop, Option, Some, None, refl, sym, ap, ◌∙◌, arith}
use Rattle.std.specs.Prelude.{Contains, unwrap_or}
use Rattle.std.specs.List.{slice_get}
use Rattle.std.specs.Option.{option_eq}
use Rattle.std.proofs.lemmas.Bool.{eqb-true}
use Rattle.std.proofs.lemmas.List.{take-map, length-map}
use Rattle.host_block.proofs.Places.{from_take, in_map}
use Rattle.host_model.specs.{Event, Attached, NotAttached, Filled, Shown, Sent, Received, Drained, Aborted, MemEntry, Release, Step, is_client, told as host_told, IsInOrder, StandBefore, below, count, places, sending, sent, sent_bytes, client_places, entry_places, owner, step_places, told_by, index_of, is_end, close_of}
use Rattle.host_model.specs.Session.{Session}
use Rattle.host_model.proofs.Ordering.{order_is_kept}
use Rattle.host_rings.specs.{Envelope}
use Rattle.host_intake.specs.{Landing, Taking, landings, request_in, takings, made}
use Rattle.host_intake.proofs.Verdicts.{numbered_place}
use Rattle.host_session.specs.{Fronts, SessionHand, Act, entry_place, AreWithin, ClientState, slip_fronts}
use Rattle.session_law.specs.{DoFrontsRise, envelope_fronts, EndsDrained, IsSessionGathered, PushedAsTold, Ended, KeepFronts, steps_in, OrderKept}
use Rattle.session_law.proofs.Closers.{IsClosing}
use Rattle.session_law.proofs.Draining.{drains_come_last}
use Rattle.session_law.proofs.Due.{all_landed, log_acts}
use Rattle.session_law.proofs.Gathered.{course, envelope_at, sent_count, taken_whole}
use Rattle.session_law.proofs.Had.{IsHad, had}
use Rattle.session_law.proofs.Owners.{IsCloseEntry, client_none, close_says, close_taken, hand_is, late_release, own_entry, owner_cases, release_place, released_by_taken}
use Rattle.session_law.proofs.Places.{found_at, from_drop, has_found, none_told, only_at, unrank}
use Rattle.host_log.proofs.Places.{some_at}
use Rattle.session_law.proofs.Prefixes.{count_between}
use Rattle.session_law.proofs.Released.{entry_at, one_release}
use Rattle.session_law.proofs.Returned.{landing_at}
use Rattle.session_law.proofs.Sending.{fronts_of, sent_by}
use Rattle.session_law.proofs.Spots.{filter_at, in_contains, sending_is, take_told, told_count}

owned_is : (o : Option ℕ) (r : ℕ) → option_eq ◌==◌ o (Some r) ≡ true → o ≡ Some r
owned_is None r e = absurd (cc)
owned_is (Some k) r e = ap Some (eqb-true k r e)

-- an event that sends a record doesn't end the log
goes_on : (e : Event) (b : List ℕ) → sent_bytes e ≡ Some b → is_end e ≡ false
goes_on (Attached pages id) b s = refl
goes_on (NotAttached pages cause) b s = refl
goes_on (Filled id block c byte done) b s = refl
goes_on (Shown id block c done bytes) b s = refl
goes_on (Sent index bytes) b s = refl
goes_on (Received bytes) b s = refl
goes_on Drained b s = absurd (cc)
goes_on Aborted b s = absurd (cc)

module _ (client : ClientState) (hands : List SessionHand) (h : List MemEntry) (steps : List Step) (s : Session) (g : IsSessionGathered client hands h s) (drained : EndsDrained client) (told : PushedAsTold hands g.whole.intake.entries)
    (keeps : KeepFronts client.plan.spec.number client.plan.hands (takings g.whole.intake.entries) (landings g.whole.intake.entries) h steps) where
  abbrev ts : List Taking
  ts = takings g.whole.intake.entries

  abbrev ls : List Landing
  ls = landings g.whole.intake.entries

  abbrev acts : List Act
  acts = g.whole.client_of.acts

  rises : DoFrontsRise acts
  rises = fronts_of client.log client.sender.pushed client.taker.taken h client.fronts acts (course client hands h s g)

  end_of_record : (r : ℕ) → r < length ts → (l : Landing) × Ended ls r l
  end_of_record r lt = let e = landing_at ts ls g.whole.intake.cell_seat (all_landed client hands h s g told) r lt in (e.1, (e.0, e.2, e.3))

  -- ---- what a record did to the buffers stands between its fronts

  stands_below : (r p : ℕ) (e : MemEntry) (l : Landing) → slice_get h p ≡ Some e → owner s e.what ≡ Some r → r < length ts → Ended ls r l → p < l.end.memory_front
  stands_below r p e l at own lt ended = step (owner_cases s e.what r own)
    where
      past_left : (t : Taking) (n : ℕ) → slice_get ts r ≡ Some t → n < length (made t) → t.seen + n < l.end.memory_front
      past_left t n stands some = (keeps.ends_past ended.0 l t ended.1 (ap (slice_get ts) ended.2 ∙ stands)).left n some

      by_hand : index_of e.what ≡ Some r → (e.hand < client.plan.hands) ⊎ ((e.hand ≡ client.plan.hands) ⊎ (e.hand ≡ client.plan.hands + 1)) → p < l.end.memory_front
      by_hand is (inl hand) = (keeps.moves_done p r e at hand is).ended l ended
      by_hand is (inr (inl hand)) = absurd (client_none client hands h s g drained keeps.releases p r e at hand is)
      by_hand is (inr (inr hand)) =
          let o = own_entry client hands h s g drained keeps.releases p r e at hand is in
          let f = past_left o.0 0 o.1 o.3 in let q = o.2 in omega (arith, f, q)

      freed : (v : ℕ) (t : Taking) → e.what ≡ Release v → slice_get ts r ≡ Some t → IsClosing v (request_in t) t.verdict → (b : Bool) → t.waits ≡ b → p < l.end.memory_front
      freed v t what stands c false w =
          let q = release_place client hands h s g drained keeps.releases p r v e t at what stands c w in
          let f = past_left t 1 stands q.1 in let k = q.0 in omega (arith, f, k)
      freed v t what stands c true w =
          let q = (keeps.ends_past ended.0 l t ended.1 (ap (slice_get ts) ended.2 ∙ stands)).released w in
          let same : p ≡ q.0 = one_release h v p q.0 e q.1 g.whole.memory_history.last at q.2 what (q.3 ∙ ap Release c.buffer) in
          let f = q.4 in omega (arith, same, f)

      step : (index_of e.what ≡ Some r) ⊎ ((v : ℕ) × (e.what ≡ Release v) × (close_of s.log s.range v ≡ Some r)) → p < l.end.memory_front
      step (inl is) = by_hand is (hand_is client hands h s g drained keeps.releases p e at)
      step (inr o) =
          let t = some_at ts r lt in
          freed o.0 t.0 o.1 t.1 (close_says client hands h s g drained keeps.releases r o.0 t.0 o.2 t.1) t.0.waits refl

  -- the record's envelope
  same_envelope : (i : ℕ) (t : Taking) (v : Envelope) → slice_get ts i ≡ Some t → slice_get client.sender.pushed i ≡ Some v → t.envelope ≡ v
  same_envelope i t v stands at = only_at client.sender.pushed i t.envelope v (envelope_at client hands h s g i t stands) at

  seen_past : (i : ℕ) (t : Taking) (v : Envelope) → slice_get ts i ≡ Some t → slice_get client.sender.pushed i ≡ Some v → v.memory_front ≤ t.seen
  seen_past i t v stands at =
      let f : t.envelope.memory_front ≤ t.seen = ((taken_whole client hands h s g).judged i t stands).front in
      let e : t.envelope.memory_front ≡ v.memory_front = ap (λ (x : Envelope). x.memory_front) (same_envelope i t v stands at) in
      omega (arith, f, e)

  past : (i q : ℕ) (e : MemEntry) (v : Envelope) → slice_get h q ≡ Some e → owner s e.what ≡ Some i → slice_get client.sender.pushed i ≡ Some v → v.memory_front ≤ q
  past i q e v at own pushed_at = step (owner_cases s e.what i own)
    where
      by_hand : index_of e.what ≡ Some i → (e.hand < client.plan.hands) ⊎ ((e.hand ≡ client.plan.hands) ⊎ (e.hand ≡ client.plan.hands + 1)) → v.memory_front ≤ q
      by_hand is (inl hand) =
          let m = keeps.moves_done q i e at hand is in
          let f = seen_past i m.taking v m.stands pushed_at in let b = m.behind in omega (arith, f, b)
      by_hand is (inr (inl hand)) = absurd (client_none client hands h s g drained keeps.releases q i e at hand is)
      by_hand is (inr (inr hand)) =
          let o = own_entry client hands h s g drained keeps.releases q i e at hand is in
          let f = seen_past i o.0 v o.1 pushed_at in let p = o.2 in omega (arith, f, p)

      released : (w : ℕ) → e.what ≡ Release w → close_of s.log s.range w ≡ Some i → (e.hand ≡ client.plan.hands) ⊎ ((c : ℕ) × (j : ℕ) × (c < q) × IsCloseEntry client hands h s g drained keeps.releases c j w) → v.memory_front ≤ q
      released w what close (inl hand) =
          let k = sent_by client.log client.sender.pushed client.taker.taken h client.fronts acts (course client hands h s g) i v pushed_at in
          let b : Act = k.1 in
          let f = late_release client hands h s g drained keeps.releases q w k.0 e b at hand what k.2.at (goes_on b.event v.bytes k.2.bytes) in
          let same : v.memory_front ≡ b.fronts.memory = ap (λ (x : Fronts). x.memory) (rises.sent k.0 b v k.2.at k.2.envelope) in
          omega (arith, f, same)
      released w what close (inr c) =
          let o = c.3 in
          let j : Some c.1 ≡ Some i = sym (close_taken client hands h s g drained keeps.releases c.1 w o.taking o.stands o.closing) ∙ close in
          let index : c.1 ≡ i = ap (λ (x : Option ℕ). unwrap_or x i) j in
          let f = seen_past i o.taking v (ap (slice_get ts) (sym index) ∙ o.stands) pushed_at in
          let p = o.place in let lt = c.2 in omega (arith, f, p, lt)

      step : (index_of e.what ≡ Some i) ⊎ ((w : ℕ) × (e.what ≡ Release w) × (close_of s.log s.range w ≡ Some i)) → v.memory_front ≤ q
      step (inl is) = by_hand is (hand_is client hands h s g drained keeps.releases q e at)
      step (inr o) = released o.0 o.1 o.2 (released_by_taken client hands h s g drained keeps.releases q o.0 e at o.1)

  -- ---- when a record was sent

  pub record IsSentAt (i : ℕ) : Type 0 where
    pub envelope : Envelope
    pub act : Act
    pub pushed : slice_get client.sender.pushed i ≡ Some envelope
    pub at : slice_get acts (sending s.log i) ≡ Some act
    pub fronts : envelope_fronts envelope ≡ act.fronts

  sent_at : (i : ℕ) → i < length (sent s.log) → IsSentAt i
  sent_at i lt =
      let c = course client hands h s g in
      let v = some_at client.sender.pushed i (let n = sent_count client hands h s g in omega (arith, lt, n)) in
      let k = sent_by client.log client.sender.pushed client.taker.taken h client.fronts acts c i v.0 v.1 in
      let numbered : slice_get (below (length client.sender.pushed)) i ≡ Some v.0.index = ap (λ l. slice_get l i) (sym c.numbered) ∙ in_map (λ (x : Envelope). x.index) client.sender.pushed i v.0 v.1 in
      let index : v.0.index ≡ i = let p = numbered_place 0 (length client.sender.pushed) i v.0.index numbered in omega arith in
      let when : sending s.log i ≡ k.0 = ap (λ l. sending l i) (log_acts client hands h s g told) ∙ sending_is acts k.0 i k.1 v.0.bytes k.2.at k.2.bytes (k.2.before ∙ index) in
      record {
        envelope = v.0;
        act = k.1;
        pushed = v.1;
        at = ap (slice_get acts) when ∙ k.2.at;
        fronts = rises.sent k.0 k.1 v.0 k.2.at k.2.envelope;
      }

  -- the slip of an answer that was had is known by then
  had_within : (n r k : ℕ) (b : Act) (a : IsHad client hands h s g told n r) → slice_get acts k ≡ Some b → n ≤ k → AreWithin (slip_fronts a.slip) b.fronts
  had_within n r k b a at le = rises.received a.m k a.act b a.slip a.at at (let l = a.early in omega (arith, l, le)) a.carries

  -- ---- what stands where

  -- a record's entry at the buffers
  entry_at_place : (r p : ℕ) → Contains (entry_places s r) p → (e : MemEntry) × (slice_get h p ≡ Some e) × (owner s e.what ≡ Some r)
  entry_at_place r p c =
      let k = in_contains (entry_places s r) p c in
      let u = unrank (λ w. option_eq ◌==◌ (owner s w) (Some r)) 0 s.memory k.0 p k.1 in
      let place : p ≡ u.0 = let q = u.2 in omega arith in
      let e = entry_at h u.0 u.1 (ap (λ l. slice_get l u.0) (sym g.memory) ∙ u.3) in
      (e.0, ap (slice_get h) place ∙ e.1, ap (owner s) e.2 ∙ owned_is (owner s u.1) r u.4)

  -- a step of a record, in the device's history
  pub record IsStepAt (r p : ℕ) : Type 0 where
    pub step : Step
    pub place : ℕ
    pub at : slice_get steps place ≡ Some step
    pub own : (step.session == client.plan.spec.number) ≡ true
    pub index : step.index ≡ r
    pub rank : p ≡ count (λ (x : Step). x.session == client.plan.spec.number) (take place steps)

  step_at_place : s.steps ≡ steps_in client.plan.spec.number steps → (r p : ℕ) → Contains (step_places s r) p → IsStepAt r p
  step_at_place steps_are r p c =
      let k = in_contains (step_places s r) p c in
      let u = unrank (λ (x : Step). x.index == r) 0 s.steps k.0 p k.1 in
      let place : p ≡ u.0 = let q = u.2 in omega arith in
      let f = filter_at (λ (x : Step). x.session == client.plan.spec.number) steps u.0 u.1 (ap (λ l. slice_get l u.0) (sym steps_are) ∙ u.3) in
      record { step = u.1; place = f.0; at = f.1; own = f.2; index = eqb-true u.1.index r u.4; rank = place ∙ f.3 }

  entries_before : (n r p : ℕ) (a : IsHad client hands h s g told n r) → Contains (entry_places s r) p → p < a.slip.memory_front
  entries_before n r p a c =
      let e = entry_at_place r p c in
      let l = end_of_record r a.taken in
      let b = stands_below r p e.0 l.0 e.1 e.2 a.taken l.1 in
      let d = (a.covers l.0 l.1).1 in omega (arith, b, d)

  entries_after : (i q : ℕ) (v : Envelope) → slice_get client.sender.pushed i ≡ Some v → Contains (entry_places s i) q → v.memory_front ≤ q
  entries_after i q v at c = let e = entry_at_place i q c in past i q e.0 v e.1 e.2 at

  steps_ordered : s.steps ≡ steps_in client.plan.spec.number steps → (r i : ℕ) (v : IsSentAt i) (a : IsHad client hands h s g told (sending s.log i) r) → StandBefore (step_places s r) (step_places s i)
  steps_ordered steps_are r i v a p q in_these in_those =
      let x = step_at_place steps_are r p in_these in
      let y = step_at_place steps_are i q in_those in
      let d = keeps.steps_done x.place x.step x.at (eqb-true x.step.session client.plan.spec.number x.own) in
      let f = keeps.steps_done y.place y.step y.at (eqb-true y.step.session client.plan.spec.number y.own) in
      let l = end_of_record r a.taken in
      let first : x.place < l.0.end.device_front = d.ended l.0 (l.1.0, l.1.1, l.1.2 ∙ sym x.index) in
      let covered : l.0.end.device_front ≤ a.slip.device_front = (a.covers l.0 l.1).0 in
      let known : a.slip.device_front ≤ v.act.fronts.device = (had_within (sending s.log i) r (sending s.log i) v.act a v.at (omega arith)).device in
      let front : v.envelope.device_front ≡ v.act.fronts.device = ap (λ (w : Fronts). w.device) v.fronts in
      let same : f.taking.envelope.device_front ≡ v.envelope.device_front = ap (λ (w : Envelope). w.device_front) (same_envelope i f.taking v.envelope (ap (slice_get ts) (sym y.index) ∙ f.stands) v.pushed) in
      let last : f.taking.envelope.device_front ≤ y.place = f.front in
      let lt : x.place < y.place = omega (arith, first, covered, known, front, same, last) in
      let between = count_between (λ (w : Step). w.session == client.plan.spec.number) steps x.place y.place x.step x.at x.own lt in
      let rx = x.rank in let ry = y.rank in omega (arith, between, rx, ry)

  entries_ordered : (r i : ℕ) (v : IsSentAt i) (a : IsHad client hands h s g told (sending s.log i) r) → StandBefore (entry_places s r) (entry_places s i)
  entries_ordered r i v a p q in_these in_those =
      let first = entries_before (sending s.log i) r p a in_these in
      let known : a.slip.memory_front ≤ v.act.fronts.memory = (had_within (sending s.log i) r (sending s.log i) v.act a v.at (omega arith)).memory in
      let front : v.envelope.memory_front ≡ v.act.fronts.memory = ap (λ (w : Fronts). w.memory) v.fronts in
      let last = entries_after i q v.envelope v.pushed in_those in
      omega (arith, first, known, front, last)

  -- ---- the client's entries

  told_acts : (n : ℕ) → told_by s n ≡ length (filter_map entry_place (take n acts))
  told_acts n =
      ap (λ l. length (host_told (take n l))) (log_acts client hands h s g told)
      ∙ (ap (λ l. length (host_told l)) (take-map (λ (a : Act). a.event) n acts) ∙ told_count (take n acts) [])

  places_are : client_places s ≡ filter_map entry_place acts
  places_are = ap (places is_client) g.memory ∙ (course client hands h s g).places

  client_ordered : (i : ℕ) → IsSentAt i → StandBefore (take (told_by s (sending s.log i)) (client_places s)) (entry_places s i)
  client_ordered i v p q in_these in_those =
      let n : ℕ = sending s.log i in
      let first : take (told_by s (sending s.log i)) (client_places s) ≡ filter_map entry_place (take (sending s.log i) acts) =
      ap (λ k. take k (client_places s)) (told_acts (sending s.log i)) ∙ (ap (take (length (filter_map entry_place (take (sending s.log i) acts)))) places_are ∙ take_told entry_place acts (sending s.log i)) in
      let k = in_contains (take (told_by s (sending s.log i)) (client_places s)) p in_these in
      let f = found_at entry_place (take (sending s.log i) acts) k.0 p (ap (λ l. slice_get l k.0) (sym first) ∙ k.1) in
      let m = from_take acts (sending s.log i) f.0 f.1 f.2 in
      let entered = rises.entered f.0 (sending s.log i) p f.1 v.act m.0 v.at (let lt = m.1 in omega (arith, lt)) f.3 in
      let front : v.envelope.memory_front ≡ v.act.fronts.memory = ap (λ (w : Fronts). w.memory) v.fronts in
      let last = entries_after i q v.envelope v.pushed in_those in
      omega (arith, entered, front, last)

  events_ordered : (r n : ℕ) → n < length s.log → IsHad client hands h s g told n r → told_by s n < told_by s (n + 1) → StandBefore (entry_places s r) (take 1 (drop (told_by s n) (client_places s)))
  events_ordered r n lt a more p q in_these in_those =
      let c : ℕ = length (filter_map entry_place (take n acts)) in
      let k = in_contains (take 1 (drop (told_by s n) (client_places s))) q in_those in
      let one = from_take (drop (told_by s n) (client_places s)) 1 k.0 q k.1 in
      let z : k.0 ≡ 0 = let l = one.1 in omega arith in
      let there : slice_get (drop (told_by s n) (client_places s)) 0 ≡ Some q = ap (slice_get (drop (told_by s n) (client_places s))) (sym z) ∙ one.0 in
      let at_rank : slice_get (client_places s) (told_by s n + 0) ≡ Some q = from_drop (client_places s) (told_by s n) 0 q there in
      let y : told_by s n + 0 ≡ length (filter_map entry_place (take n acts)) = let t = told_acts n in omega (arith, t) in
      let found : slice_get (filter_map entry_place acts) (length (filter_map entry_place (take n acts))) ≡ Some q = ap (λ l. slice_get l (length (filter_map entry_place (take n acts)))) (sym places_are) ∙ (ap (slice_get (client_places s)) (sym y) ∙ at_rank) in
      let many : length acts ≡ length s.log = sym (ap length (log_acts client hands h s g told) ∙ length-map acts (λ (w : Act). w.event)) in
      let b = some_at acts n (omega (arith, lt, many)) in
      let place : entry_place b.0 ≡ Some q = step b.0 (entry_place b.0) refl b.1 found (told_acts n) (told_acts (n + 1)) in
      let first = entries_before n r p a in_these in
      let slip_known : a.slip.memory_front ≤ a.act.fronts.memory = (rises.received a.m a.m a.act a.act a.slip a.at a.at (omega arith) a.carries).memory in
      let late = rises.late a.m n q a.act b.0 a.at b.1 a.early place in
      omega (arith, first, slip_known, late)
    where
      step : (b : Act) (o : Option ℕ) → entry_place b ≡ o → slice_get acts n ≡ Some b → slice_get (filter_map entry_place acts) (length (filter_map entry_place (take n acts))) ≡ Some q
          → told_by s n ≡ length (filter_map entry_place (take n acts)) → told_by s (n + 1) ≡ length (filter_map entry_place (take (n + 1) acts)) → entry_place b ≡ Some q
      step b (Some x) e at found t u = e ∙ (sym (has_found entry_place acts n b x at e) ∙ found)
      step b None e at found t u =
          let z : n + 1 ≡ suc n = omega arith in
          let w : length (filter_map entry_place (take (n + 1) acts)) ≡ length (filter_map entry_place (take (suc n) acts)) = ap (λ k. length (filter_map entry_place (take k acts))) z in
          let none = none_told entry_place acts n b at e in
          absurd (omega (arith, more, t, u, w, none))

  pub in_order : s.steps ≡ steps_in client.plan.spec.number steps → IsInOrder s
  in_order steps_are = record {
    records = λ r i lr li before.
        let v = sent_at i li in let a = had client hands h s g told (sending s.log i) r before in
        (steps_ordered steps_are r i v a, entries_ordered r i v a);
    client = λ i li. client_ordered i (sent_at i li);
    events = λ r n lr ln before more. events_ordered r n ln (had client hands h s g told n r before) more;
  }

pub order_kept : OrderKept
order_kept client hands h steps s g told keeps steps_are = (order_is_kept s).1 (in_order client hands h steps s g (drains_come_last client hands h s g told) told keeps steps_are)
