-- The course of a client end, once one event was added.
use Rattle.std.proofs.Common.{◌≡◌, ℕ, Bool, true, false, ◌==◌, cond, IsTrue, List, [], ◌∷◌, ◌++◌, length, take, filter, map, Some, None, refl, sym, ap, ap₂, subst, ◌∙◌, arith, length-append, append_assoc}
use Rattle.std.specs.List.{list_all}
use Rattle.std.specs.Option.{unwrap_or}
use Rattle.std.proofs.lemmas.List.{length-map, map-append, take-append-le}
use Rattle.host_model.proofs.ListTests.{both}
use Rattle.host_model.specs.{Event, Attached, NotAttached, Filled, Shown, Sent, Received, Drained, Aborted, MemEntry, MemEvent, Attach, Fill, Show, Pin, Lift, Land, Done, Release, is_client, below, last, places, received, received_bytes, sent, sent_bytes}
use Rattle.host_model.specs.declared.memory.MemEvent.TheVariants as mem
use Rattle.host_memory.specs.{has_blocks, is_numbered, events}
use Rattle.host_rings.specs.{Envelope, Slip}
use Rattle.host_log.specs.{entries_of}
use Rattle.host_session.specs.{Fronts, Act, FoundNoBlocks, IsAct, IsCourse, IsEventAfter, IsPart, envelopes_of, entry_place, fronts_after, is_answer, next_envelope, slips_of, AreWithin, no_fronts, slip_fronts}
use Rattle.host_session.proofs.Snoc.{each_more, filter_rest, found_none, found_one, places_one, places_rest}
use Rattle.host_intake.proofs.Counting.{below_more}
use Rattle.host_memory.proofs.Pushed.{filter_add, last_or_snoc}

-- ---- parts of lists

module _ {A : Type 0} where
  all_thrown : List A → List (A × Bool)
  all_thrown [] = []
  all_thrown (x ∷ xs) = (x, false) ∷ all_thrown xs

  thrown_are : (xs : List A) → map (λ (m : A × Bool). m.0) (all_thrown xs) ≡ xs
  unfolding all_thrown
  thrown_are [] = refl
  thrown_are (x ∷ xs) = ap (λ l. x ∷ l) (thrown_are xs)

  none_kept : (xs : List A) → filter (λ (m : A × Bool). m.1) (all_thrown xs) ≡ []
  unfolding all_thrown
  none_kept [] = refl
  none_kept (x ∷ xs) = none_kept xs

  -- some more were thrown away
  pub part_thrown : (some all thrown : List A) → IsPart some all → IsPart some (all ++ thrown)
  part_thrown some all thrown p = record {
    marked = p.marked ++ all_thrown thrown;
    all_are = map-append (λ (m : A × Bool). m.0) p.marked (all_thrown thrown) ∙ ap₂ (λ xs ys. xs ++ ys) p.all_are (thrown_are thrown);
    some_are = ap (map (λ (m : A × Bool). m.0)) (filter_rest (λ (m : A × Bool). m.1) p.marked (all_thrown thrown) (none_kept thrown)) ∙ p.some_are;
  }

  part_kept : (some all : List A) (x : A) → IsPart some all → IsPart (some ++ x ∷ []) (all ++ x ∷ [])
  part_kept some all x p = record {
    marked = p.marked ++ (x, true) ∷ [];
    all_are = map-append (λ (m : A × Bool). m.0) p.marked ((x, true) ∷ []) ∙ ap (λ l. l ++ x ∷ []) p.all_are;
    some_are = ap (map (λ (m : A × Bool). m.0)) (filter_add (λ (m : A × Bool). m.1) p.marked (x, true) refl)
        ∙ (map-append (λ (m : A × Bool). m.0) (filter (λ (m : A × Bool). m.1) p.marked) ((x, true) ∷ []) ∙ ap (λ l. l ++ x ∷ []) p.some_are);
  }

  -- after some that were thrown away, one was kept
  pub part_more : (some all thrown : List A) (x : A) → IsPart some all → IsPart (some ++ x ∷ []) (all ++ (thrown ++ x ∷ []))
  part_more some all thrown x p = subst (λ l. IsPart (some ++ x ∷ []) l) (append_assoc all thrown (x ∷ [])) (part_kept some (all ++ thrown) x (part_thrown some all thrown p))

-- ---- the last act

pub fronts_of_last : (acts : List Act) (a : Act) → fronts_after (acts ++ a ∷ []) ≡ a.fronts
fronts_of_last acts a = ap (last no_fronts) (map-append (λ (x : Act). x.fronts) acts (a ∷ [])) ∙ ap (λ o. unwrap_or o no_fronts) (last_or_snoc None (map (λ (x : Act). x.fronts) acts) a.fronts)

pub within_trans : (f g k : Fronts) → AreWithin f g → AreWithin g k → AreWithin f k
within_trans f g k p q = record { device = omega (arith, p.device, q.device); memory = omega (arith, p.memory, q.memory) }

pub within_refl : (f : Fronts) → AreWithin f f
within_refl f = record { device = omega arith; memory = omega arith }

-- ---- more of the history

found_still : (h rest : List MemEntry) (known : Fronts) (a : Act) (id block count : ℕ) → FoundNoBlocks h known a id block count → FoundNoBlocks (h ++ rest) known a id block count
found_still h rest known a id block count f = record {
  plain = f.plain;
  within = omega (arith, f.within, length-append h rest);
  none = ap (λ l. has_blocks id (events l) block count) (take-append-le a.fronts.memory h rest f.within) ∙ f.none;
}

event_still : (h rest : List MemEntry) (before : List Act) (a : Act) (e : Event) → IsEventAfter h before a e → IsEventAfter (h ++ rest) before a e
event_still h rest before a (Attached pages id) is = is
event_still h rest before a (NotAttached pages cause) is = is
event_still h rest before a (Filled id block count byte true) is = is
event_still h rest before a (Filled id block count byte false) is = found_still h rest (fronts_after before) a id block count is
event_still h rest before a (Sent index bytes) is = is
event_still h rest before a (Received bytes) is = is
event_still h rest before a (Shown id block count true bytes) is = is
event_still h rest before a (Shown id block count false bytes) is = found_still h rest (fronts_after before) a id block count is
event_still h rest before a Drained is = is
event_still h rest before a Aborted is = is

module _ (log : List Event) (pushed : List Envelope) (taken : List Slip) (h : List MemEntry) (known : Fronts) (acts : List Act) (c : IsCourse log pushed taken h known acts) where
  -- more of the history was seen, with no entry of the client's
  pub course_seen : (rest : List MemEntry) (known' : Fronts) → filter is_client (events rest) ≡ [] → AreWithin known known' → IsCourse log pushed taken (h ++ rest) known' acts
  course_seen rest known' none within = record {
    events_are = c.events_are;
    envelopes = c.envelopes;
    sent = c.sent;
    numbered = c.numbered;
    slips = c.slips;
    received = c.received;
    fronts = within_trans (fronts_after acts) known known' c.fronts within;
    places = ap (places is_client) (map-append (λ (e : MemEntry). e.what) h rest) ∙ (places_rest is_client (events h) (events rest) none ∙ c.places);
    each = λ n a at. event_still h rest (take n acts) a a.event (c.each n a at);
  }

  -- one act more, which leaves no entry
  course_more : (a : Act) (pushed' : List Envelope) (taken' : List Slip) → entry_place a ≡ None → envelopes_of (acts ++ a ∷ []) ≡ pushed' → IsPart (slips_of (acts ++ a ∷ [])) taken'
      → map (λ (e : Envelope). e.bytes) pushed' ≡ sent (log ++ a.event ∷ []) → map (λ (e : Envelope). e.index) pushed' ≡ below (length pushed') → map (λ (s : Slip). s.bytes) (slips_of (acts ++ a ∷ [])) ≡ received (log ++ a.event ∷ [])
      → IsAct h acts a → IsCourse (log ++ a.event ∷ []) pushed' taken' h a.fronts (acts ++ a ∷ [])
  course_more a pushed' taken' none env slips sent_are numbered_are received_are is = record {
    events_are = map-append (λ (x : Act). x.event) acts (a ∷ []) ∙ ap (λ l. l ++ a.event ∷ []) c.events_are;
    envelopes = env;
    sent = sent_are;
    numbered = numbered_are;
    slips = slips;
    received = received_are;
    fronts = subst (λ f. AreWithin f a.fronts) (sym (fronts_of_last acts a)) (within_refl a.fronts);
    places = c.places ∙ sym (found_none entry_place acts a none);
    each = each_more (λ before x. IsAct h before x) acts a c.each is;
  }

  -- one act more, whose entry stands last
  pub course_entry : (a : Act) (e : MemEntry) → entry_place a ≡ Some (length h) → is_client e.what ≡ true → a.envelope ≡ None → a.slip ≡ None → sent_bytes a.event ≡ None → received_bytes a.event ≡ None → IsAct (h ++ e ∷ []) acts a
      → IsCourse (log ++ a.event ∷ []) pushed taken (h ++ e ∷ []) a.fronts (acts ++ a ∷ [])
  course_entry a e place client no_env no_slip none none' is = record {
    events_are = map-append (λ (x : Act). x.event) acts (a ∷ []) ∙ ap (λ l. l ++ a.event ∷ []) c.events_are;
    envelopes = found_none (λ (x : Act). x.envelope) acts a no_env ∙ c.envelopes;
    sent = c.sent ∙ sym (found_none sent_bytes log a.event none);
    numbered = c.numbered;
    slips = subst (λ l. IsPart l taken) (sym (found_none (λ (x : Act). x.slip) acts a no_slip)) c.slips;
    received = ap (map (λ (s : Slip). s.bytes)) (found_none (λ (x : Act). x.slip) acts a no_slip) ∙ (c.received ∙ sym (found_none received_bytes log a.event none'));
    fronts = subst (λ f. AreWithin f a.fronts) (sym (fronts_of_last acts a)) (within_refl a.fronts);
    places = ap (places is_client) (map-append (λ (x : MemEntry). x.what) h (e ∷ []))
        ∙ (places_one is_client (events h) e.what client
        ∙ (ap (λ n. places is_client (events h) ++ n ∷ []) (length-map h (λ (x : MemEntry). x.what))
        ∙ (ap (λ l. l ++ length h ∷ []) c.places ∙ sym (found_one entry_place acts a (length h) place))));
    each = each_more (λ before x. IsAct (h ++ e ∷ []) before x) acts a (λ n x at. event_still h (e ∷ []) (take n acts) x x.event (c.each n x at)) is;
  }

  -- an event that sends and receives nothing, and leaves no entry
  pub course_quiet : (a : Act) → entry_place a ≡ None → a.envelope ≡ None → a.slip ≡ None → sent_bytes a.event ≡ None → received_bytes a.event ≡ None → IsAct h acts a → IsCourse (log ++ a.event ∷ []) pushed taken h a.fronts (acts ++ a ∷ [])
  course_quiet a place no_env no_slip none none' is = course_more a pushed taken place
      (found_none (λ (x : Act). x.envelope) acts a no_env ∙ c.envelopes)
      (subst (λ l. IsPart l taken) (sym (found_none (λ (x : Act). x.slip) acts a no_slip)) c.slips)
      (c.sent ∙ sym (found_none sent_bytes log a.event none))
      c.numbered
      (ap (map (λ (s : Slip). s.bytes)) (found_none (λ (x : Act). x.slip) acts a no_slip) ∙ (c.received ∙ sym (found_none received_bytes log a.event none')))
      is

  -- the next record was sent, in an envelope with these fronts
  pub course_sent : (bytes : List ℕ) (f : Fronts) → AreWithin known f
      → IsCourse (log ++ Sent (length (sent log)) bytes ∷ []) (pushed ++ next_envelope log bytes f ∷ []) taken h f (acts ++ record { event = Sent (length (sent log)) bytes; envelope = Some (next_envelope log bytes f); slip = None; fronts = f } ∷ [])
  course_sent bytes f within =
      let e : Envelope = next_envelope log bytes f in
      let a : Act = record { event = Sent (length (sent log)) bytes; envelope = Some e; slip = None; fronts = f } in
      let n : length pushed ≡ length (sent log) = sym (length-map pushed (λ (x : Envelope). x.bytes)) ∙ ap length c.sent in
      course_more a (pushed ++ e ∷ []) taken refl
      (found_one (λ (x : Act). x.envelope) acts a e refl ∙ ap (λ l. l ++ e ∷ []) c.envelopes)
      (subst (λ l. IsPart l taken) (sym (found_none (λ (x : Act). x.slip) acts a refl)) c.slips)
      (map-append (λ (x : Envelope). x.bytes) pushed (e ∷ []) ∙ (ap (λ l. l ++ bytes ∷ []) c.sent ∙ sym (found_one sent_bytes log a.event bytes refl)))
      (map-append (λ (x : Envelope). x.index) pushed (e ∷ []) ∙ (ap (λ l. l ++ length (sent log) ∷ []) c.numbered ∙ (ap (λ k. below (length pushed) ++ k ∷ []) (sym n) ∙ (sym (below_more (length pushed)) ∙ ap below (sym (length-append pushed (e ∷ [])))))))
      (ap (map (λ (s : Slip). s.bytes)) (found_none (λ (x : Act). x.slip) acts a refl) ∙ (c.received ∙ sym (found_none received_bytes log a.event refl)))
      record {
        next = ap (λ l. length (sent l)) (sym c.events_are);
        envelope = ap (λ l. Some (next_envelope l bytes f)) (sym c.events_are);
        slip = refl;
        fronts = within_trans (fronts_after acts) known f c.fronts within;
      }

  -- an answer was received, after some slips that were thrown away
  pub course_received : (thrown : List Slip) (s : Slip) (f : Fronts) → IsTrue (is_answer (length (sent log)) s) → AreWithin known f → AreWithin (slip_fronts s) f
      → IsCourse (log ++ Received s.bytes ∷ []) pushed (taken ++ (thrown ++ s ∷ [])) h f (acts ++ record { event = Received s.bytes; envelope = None; slip = Some s; fronts = f } ∷ [])
  course_received thrown s f answers within raised =
      let a : Act = record { event = Received s.bytes; envelope = None; slip = Some s; fronts = f } in
      let all : slips_of (acts ++ a ∷ []) ≡ slips_of acts ++ s ∷ [] = found_one (λ (x : Act). x.slip) acts a s refl in
      course_more a pushed (taken ++ (thrown ++ s ∷ [])) refl
      (found_none (λ (x : Act). x.envelope) acts a refl ∙ c.envelopes)
      (subst (λ l. IsPart l (taken ++ (thrown ++ s ∷ []))) (sym all) (part_more (slips_of acts) taken thrown s c.slips))
      (c.sent ∙ sym (found_none sent_bytes log a.event refl))
      c.numbered
      (ap (map (λ (x : Slip). x.bytes)) all ∙ (map-append (λ (x : Slip). x.bytes) (slips_of acts) (s ∷ []) ∙ (ap (λ l. l ++ s.bytes ∷ []) c.received ∙ sym (found_one received_bytes log a.event s.bytes refl))))
      record {
        received = s;
        slip = refl;
        bytes_are = refl;
        answer = subst (λ l. IsTrue (is_answer (length (sent l)) s)) (sym c.events_are) answers;
        envelope = refl;
        fronts = within_trans (fronts_after acts) known f c.fronts within;
        raised = raised;
      }

  -- some slips were thrown away
  pub course_thrown : (thrown : List Slip) → IsCourse log pushed (taken ++ thrown) h known acts
  course_thrown thrown = record {
    events_are = c.events_are;
    envelopes = c.envelopes;
    sent = c.sent;
    numbered = c.numbered;
    slips = part_thrown (slips_of acts) taken thrown c.slips;
    received = c.received;
    fronts = c.fronts;
    places = c.places;
    each = c.each;
  }

-- ---- what others did

-- the client's entries have its number
client_number : (client admissions n : ℕ) (what : MemEvent) → is_numbered client admissions (record { hand = n; what = what }) ≡ true → is_client what ≡ true → (n == client) ≡ true
client_number client admissions n (Attach id pages from) e f = e
client_number client admissions n (Fill id block count byte) e f = e
client_number client admissions n (Show id block count) e f = e
client_number client admissions n (Pin index id by) e f = absurd (cc f)
client_number client admissions n (Lift index k id block bytes) e f = absurd (cc f)
client_number client admissions n (Land index k id block bytes) e f = absurd (cc f)
client_number client admissions n (Done index id) e f = absurd (cc f)
client_number client admissions n (mem.Close index id) e f = absurd (cc f)
client_number client admissions n (Release id) e f = absurd (cc f)

-- where none of the entries has the client's number, none is the client's
pub no_client : (client admissions : ℕ) (rest : List MemEntry) → list_all (is_numbered client admissions) rest ≡ true → entries_of (λ e. e.hand) client rest ≡ [] → filter is_client (events rest) ≡ []
no_client client admissions [] numbered none = refl
no_client client admissions (e ∷ rest) numbered none =
    let t = both (is_numbered client admissions e) (list_all (is_numbered client admissions) rest) numbered in
    at (e.hand == client) refl none (is_client e.what) refl t.0 (no_client client admissions rest t.1)
  where
    at : (b : Bool) → (e.hand == client) ≡ b → cond b (e ∷ entries_of (λ x. x.hand) client rest) (entries_of (λ x. x.hand) client rest) ≡ [] → (d : Bool) → is_client e.what ≡ d → is_numbered client admissions e ≡ true
        → (entries_of (λ x. x.hand) client rest ≡ [] → filter is_client (events rest) ≡ []) → cond d (e.what ∷ filter is_client (events rest)) (filter is_client (events rest)) ≡ []
    at true p g d q num ih = absurd (cc g)
    at false p g true q num ih = absurd (cc (sym p ∙ client_number client admissions e.hand e.what num q))
    at false p g false q num ih = ih g
