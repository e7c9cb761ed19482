-- What is known of a session as it was gathered, in plain lists.
use Rattle.std.proofs.Common.{◌≡◌, ℕ, zero, suc, ◌+◌, ◌≤◌, Bool, true, false, List, [], ◌∷◌, ◌++◌, length, map, take, drop, Option, Some, None, refl, sym, ap, subst, ◌∙◌, arith, append_assoc, length-append}
use Rattle.std.specs.List.{list_all, slice_get}
use Rattle.std.specs.Option.{option_map}
use Rattle.std.proofs.lemmas.List.{length-map, map-append, take-append-drop}
use Rattle.std.proofs.lemmas.Option.{slice_get-map}
use Rattle.host_block.specs.declared.range.Range.{Range}
use Rattle.host_group.specs.{greatest}
use Rattle.host_intake.specs.{IntakeEntry, IntakePlan, Taking, envelope_of, maker_of, place_of, request_in, requests_of, takings, is_turned_below, AreTaken, memory_front_in, seen_of, turns}
use Rattle.host_intake.specs.declared.entry.Phase.TheVariants as phase
use Rattle.host_intake.proofs.Judging.{taken_longer}
use Rattle.host_intake.proofs.Verdicts.{numbered_place}
use Rattle.host_model.specs.{MemEntry, requests, sent, last}
use Rattle.host_model.specs.Session.{Session}
use Rattle.host_record.specs.{Finish, Drain, Abort, request_of}
use Rattle.host_record.specs.declared.request.Request.{Request}
use Rattle.host_rings.specs.{Envelope}
use Rattle.host_log.specs.{entries_of}
use Rattle.host_turn.specs.{number, seen_by}
use Rattle.host_session.specs.{SessionHand, IsCourse, ClientState, turns_made}
use Rattle.host_session.proofs.Turning.{turns_same}
use Rattle.session_law.specs.{IsSessionGathered}
use Rattle.host_log.proofs.Places.{stands_append}

-- ---- lists

pub greatest_at : (ns : List ℕ) (k n : ℕ) → slice_get ns k ≡ Some n → n ≤ greatest ns
greatest_at [] zero n e = absurd (cc)
greatest_at [] (suc k) n e = absurd (cc)
greatest_at (m ∷ ns) zero n e = let same : m ≡ n = cc in omega arith
greatest_at (m ∷ ns) (suc k) n e = let le = greatest_at ns k n e in omega arith

asked_for : (ts : List Taking) → map request_of (map (λ (e : Envelope). e.bytes) (map envelope_of ts)) ≡ requests_of ts
asked_for [] = refl
asked_for (t ∷ ts) = ap (λ l. request_in t ∷ l) (asked_for ts)

-- the session was closed, and so the client was told to end it
closed_is : (f : Option Finish) (b : Bool) → last phase.Running (turns_made f b) ≡ phase.Closed → b ≡ true
closed_is None b e = absurd (cc)
closed_is (Some Drain) false e = absurd (cc)
closed_is (Some Abort) false e = absurd (cc)
closed_is (Some how) true e = refl

module _ (client : ClientState) (hands : List SessionHand) (h : List MemEntry) (s : Session) (g : IsSessionGathered client hands h s) where
  abbrev pub es_of : List IntakeEntry
  es_of = g.whole.intake.entries

  abbrev pub ts_of : List Taking
  ts_of = takings g.whole.intake.entries

  pub part_is : g.whole.intake.part ≡ client.plan.spec.part
  part_is = ap (λ (p : IntakePlan). p.part) g.whole.intake_history.plan

  pub number_is : number g.whole.intake.memory_seat ≡ client.plan.hands + 1
  number_is = ap (λ (p : IntakePlan). p.admissions) g.whole.intake_history.plan

  -- the records were taken on the whole history of the buffers
  pub taken_whole : AreTaken client.plan.spec.part (client.plan.hands + 1) h ts_of
  taken_whole =
      let t = taken_longer g.whole.intake.part (number g.whole.intake.memory_seat) (seen_by g.whole.intake.memory_seat) h ts_of g.whole.memory_history.of_admissions g.whole.intake_history.intake.taken in
      subst (λ (n : ℕ). AreTaken client.plan.spec.part n h ts_of) number_is (subst (λ (p : Range). AreTaken p (number g.whole.intake.memory_seat) h ts_of) part_is t)

  pub index_is : (i : ℕ) (t : Taking) → slice_get ts_of i ≡ Some t → t.envelope.index ≡ i
  index_is i t at =
      let e = numbered_place 0 (length ts_of) i (place_of t) (ap (λ l. slice_get l i) (sym taken_whole.indexes) ∙ (slice_get-map place_of ts_of i ∙ ap (λ o. option_map place_of o) at)) in omega arith

  -- ---- what was sent

  more : List Envelope
  more = drop (length ts_of) g.whole.intake.taker.taken ++ g.whole.joined.requests.0

  pushed_are : client.sender.pushed ≡ map envelope_of ts_of ++ more
  unfolding more
  pushed_are =
      let taken : List Envelope = g.whole.intake.taker.taken in let n : ℕ = length ts_of in
      sym g.whole.joined.requests.1
      ∙ (ap (λ l. l ++ g.whole.joined.requests.0) (sym (take-append-drop n taken))
      ∙ (append_assoc (take n taken) (drop n taken) g.whole.joined.requests.0
      ∙ ap (λ l. l ++ (drop n taken ++ g.whole.joined.requests.0)) g.whole.intake_history.intake.popped.taken))

  -- the envelope of a record that was taken is the one that was sent
  pub envelope_at : (i : ℕ) (t : Taking) → slice_get ts_of i ≡ Some t → slice_get client.sender.pushed i ≡ Some t.envelope
  envelope_at i t at =
      ap (λ l. slice_get l i) pushed_are ∙ stands_append (map envelope_of ts_of) more i t.envelope (slice_get-map envelope_of ts_of i ∙ ap (λ o. option_map envelope_of o) at)

  pub log_same : client.log ≡ s.log
  log_same = sym g.whole.log_is

  pub course : IsCourse client.log client.sender.pushed client.taker.taken h client.fronts g.whole.client_of.acts
  course = g.whole.client_of.course

  later : List Request
  later = map request_of (map (λ (e : Envelope). e.bytes) more)

  -- the records taken are the first of those sent
  pub requests_are : (rest : List Request) × (requests s.log ≡ requests_of ts_of ++ rest)
  unfolding later
  requests_are =
      let bytes : Envelope → List ℕ = λ e. e.bytes in (
        later,
        ap requests (sym log_same)
            ∙ (ap (map request_of) (sym course.sent)
            ∙ (ap (λ l. map request_of (map (λ (e : Envelope). e.bytes) l)) pushed_are
            ∙ (ap (map request_of) (map-append (λ (e : Envelope). e.bytes) (map envelope_of ts_of) more)
            ∙ (map-append request_of (map (λ (e : Envelope). e.bytes) (map envelope_of ts_of)) (map (λ (e : Envelope). e.bytes) more)
            ∙ ap (λ l. l ++ later) (asked_for ts_of))))),
      )

  pub sent_count : length (sent s.log) ≡ length client.sender.pushed
  sent_count = ap (λ l. length (sent l)) (sym log_same) ∙ (ap length (sym course.sent) ∙ length-map client.sender.pushed (λ (e : Envelope). e.bytes))

  pub taken_few : length ts_of ≤ length (sent s.log)
  taken_few =
      let a : length client.sender.pushed ≡ length (map envelope_of ts_of ++ more) = ap length pushed_are in
      omega (arith, sent_count, a, length-append (map envelope_of ts_of) more, length-map ts_of envelope_of)

  -- ---- how it was ended

  pub closed : client.closed ≡ true
  closed =
      let i = g.whole.intake_history.intake in let k = g.whole.client_of.kept in let later_es = g.whole.intake_history.of_client in
      let by : list_all (is_turned_below (client.plan.hands + 1)) es_of ≡ true = subst (λ (n : ℕ). list_all (is_turned_below n) es_of ≡ true) number_is i.turned.by_client in
      let own : entries_of maker_of client.plan.hands es_of ≡ entries_of maker_of client.plan.hands (seen_by client.intake_seat) =
      subst (λ (n : ℕ). entries_of maker_of n es_of ≡ entries_of maker_of n (seen_by client.intake_seat)) k.intake_seat.number_is later_es.1 in
      let same : turns es_of ≡ turns_made client.finish client.closed = turns_same client.plan.hands (seen_by client.intake_seat) later_es.0.0 es_of later_es.0.1 own by ∙ k.ended.turned in
      closed_is client.finish client.closed (ap (last phase.Running) (sym same) ∙ g.whole.intake_history.closed)

  -- ---- the greatest beginning that a verdict was judged on

  pub front_past : (i : ℕ) (t : Taking) → slice_get ts_of i ≡ Some t → t.seen ≤ memory_front_in es_of
  front_past i t at = greatest_at (map seen_of ts_of) i t.seen (slice_get-map seen_of ts_of i ∙ ap (λ o. option_map seen_of o) at)
