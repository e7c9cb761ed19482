-- The records of a session were taken in order.
use Rattle.std.proofs.Common.{◌≡◌, ◌⊎◌, inl, inr, ℕ, ◌+◌, ◌<◌, ◌≤◌, Bool, true, false, not, cond, IsTrue, List, [], ◌∷◌, ◌++◌, filter, filter_map, length, map, take, Some, refl, sym, ap, subst, ◌∙◌, arith, append-nil}
use Rattle.std.specs.Prelude.{is_some}
use Rattle.std.specs.List.{slice_get}
use Rattle.std.proofs.lemmas.Bool.{leb-true}
use Rattle.std.proofs.lemmas.List.{length-map}
use Rattle.std.proofs.lemmas.List.Elements.{filter-append}
use Rattle.host_block.proofs.Places.{any_at, from_take}
use Rattle.host_intake.specs.{Taking, landings, request_in, requests_of, Lends, judged_on, memory_front_in, row_in}
use Rattle.host_intake.proofs.Verdicts.{verdicts_are}
use Rattle.host_memory.specs.{attachment_by, closer_of, is_released, events}
use Rattle.host_model.specs.{Event, Drained, Aborted, MemEntry, MemEvent, Attach, Release, TakenRow, is_client, told, all_with_before, below, given_before, requests, sent, sent_index, is_release_of, IsTakenInOrder, end_event, is_drain, is_end, runs_out_rightly, verdicts, verdicts_on}
use Rattle.host_model.specs.declared.verdict.Verdict.{Verdict}
use Rattle.host_model.specs.Session.{Session}
use Rattle.host_model.proofs.Growth.{verdicts_on-append}
use Rattle.host_record.specs.{Finish, Drain, Abort}
use Rattle.host_session.specs.{SessionHand, ClientState, ends_logged, is_aborted, is_drained, is_release}
use Rattle.host_session.proofs.Whole.{map_twice}
use Rattle.session_law.specs.{EndsDrained, IsSessionGathered, ReleaseClosed, TakenInOrder}
use Rattle.session_law.proofs.Draining.{drains_come_last}
use Rattle.session_law.proofs.Gathered.{closed, course, envelope_at, es_of, front_past, index_is, log_same, requests_are, taken_few, taken_whole, ts_of}
use Rattle.session_law.proofs.Lending.{attached_once, few_before, is_attached_for, lent_before, lent_by_log}
use Rattle.session_law.proofs.Released.{closed_still, entry_at, release_is, released_closed}
use Rattle.session_law.proofs.Sending.{attached_before}

-- ---- what an attach is

attach_is : (i : ℕ) (w : MemEvent) → is_attached_for i w ≡ true → (id : ℕ) × (pages : ℕ) × (from : ℕ) × (w ≡ Attach id pages from) × (from ≤ i)
attach_is i (Attach id pages from) e = (id, pages, from, refl, leb-true from i e)
attach_is i _ e = absurd (cc)

-- ---- how a log ends

pub nothing_of : {A : Type 0} (xs : List A) (x y : A) → xs ++ x ∷ [] ≡ y ∷ [] → xs ≡ []
nothing_of [] x y e = refl
nothing_of (z ∷ zs) x y e = let n : length (zs ++ x ∷ []) ≡ 0 = let m = ap length e in omega arith in absurd (let k = length_one zs x in omega arith)
  where
    length_one : {A : Type 0} (xs : List A) (x : A) → length (xs ++ x ∷ []) ≡ length xs + 1
    length_one [] x = omega arith
    length_one (w ∷ ws) x = let r = length_one ws x in omega arith

all_kept : (p : Event → Bool) (xs : List Event) → filter p xs ≡ [] → filter (λ e. not (p e)) xs ≡ xs
all_kept p [] e = refl
all_kept p (x ∷ xs) e = step (p x) e (λ f. all_kept p xs f)
  where
    step : (b : Bool) → cond b (x ∷ filter p xs) (filter p xs) ≡ [] → (filter p xs ≡ [] → filter (λ y. not (p y)) xs ≡ xs) → cond (not b) (x ∷ filter (λ y. not (p y)) xs) (filter (λ y. not (p y)) xs) ≡ x ∷ xs
    step true f more = absurd (cc)
    step false f more = ap (λ l. x ∷ l) (more f)

-- a log that ends with its one end event
ends_so : (log before : List Event) (e : Event) → is_end e ≡ true → log ≡ before ++ e ∷ [] → filter is_end log ≡ e ∷ [] → log ≡ filter (λ x. not (is_end x)) log ++ e ∷ []
ends_so log before e is split only =
    let joined : filter is_end before ++ filter is_end (e ∷ []) ≡ e ∷ [] = sym (filter-append is_end before (e ∷ [])) ∙ (ap (filter is_end) (sym split) ∙ only) in
    let one : filter is_end (e ∷ []) ≡ e ∷ [] = ap (λ b. cond b (e ∷ []) []) is in
    let none : filter is_end before ≡ [] = nothing_of (filter is_end before) e e (ap (λ l. filter is_end before ++ l) (sym one) ∙ joined) in
    let rest : filter (λ x. not (is_end x)) (e ∷ []) ≡ [] = ap (λ b. cond (not b) (e ∷ []) []) is in
    let kept : filter (λ x. not (is_end x)) log ≡ before =
    ap (filter (λ x. not (is_end x))) split ∙ (filter-append (λ x. not (is_end x)) before (e ∷ [])
    ∙ (ap (λ l. filter (λ x. not (is_end x)) before ++ l) rest ∙ (append-nil (filter (λ x. not (is_end x)) before) ∙ all_kept is_end before none))) in
    split ∙ ap (λ l. l ++ e ∷ []) (sym kept)

module _ (client : ClientState) (hands : List SessionHand) (h : List MemEntry) (s : Session) (g : IsSessionGathered client hands h s) (drained : EndsDrained client) (due : ReleaseClosed client.plan.hands h) where
  -- ---- what a record was lent

  pub entries_told : filter is_client (events h) ≡ told client.log
  entries_told = g.whole.client_of.told.entries

  once_attached : (v : ℕ) → length (filter_map (attachment_by v) (events h)) ≤ 1
  once_attached v = attached_once v client.log (events h) entries_told g.whole.client_of.told.ids

  closed_in : (i n v : ℕ) (t : Taking) (e : MemEntry) → slice_get (ts_of client hands h s g) i ≡ Some t → n < t.seen → slice_get h n ≡ Some e → e.what ≡ Release v
      → (e.hand ≡ client.plan.hands) ⊎ (is_some (closer_of v (events (take n h))) ≡ true) → is_some (closer_of v (judged_on h t)) ≡ true
  closed_in i n v t e at lt there what (inl own) =
      let late = g.whole.client_of.late n e there own (ap is_release what) in
      let front : t.seen ≤ memory_front_in (es_of client hands h s g) = front_past client hands h s g i t at in
      let past : memory_front_in (es_of client hands h s g) ≤ n = late.1 in
      absurd (omega (arith, front, past, lt))
  closed_in i n v t e at lt there what (inr c) = closed_still v n t.seen h (omega arith) c

  -- what was released before a record was judged had been closed
  closed_first : (i : ℕ) (t : Taking) (v : ℕ) → slice_get (ts_of client hands h s g) i ≡ Some t → is_released v (judged_on h t) ≡ true → is_some (closer_of v (judged_on h t)) ≡ true
  closed_first i t v at released =
      let r = any_at (is_release_of v) (events (take t.seen h)) released in
      let e = entry_at (take t.seen h) r.0 r.1 r.2 in
      let p = from_take h t.seen r.0 e.0 e.1 in
      let what : e.0.what ≡ Release v = e.2 ∙ release_is v r.1 r.3 in
      closed_in i r.0 v t e.0 at p.1 p.0 what
      (released_closed client.plan.spec.part (client.plan.hands + 1) h (ts_of client hands h s g) (taken_whole client hands h s g) client.plan.hands refl g.whole.memory_history.others due g.whole.memory_history.last r.0 v e.0 p.0 what)

  below_front : (i : ℕ) (t : Taking) (k : ℕ) (e : MemEntry) → slice_get (ts_of client hands h s g) i ≡ Some t → slice_get h k ≡ Some e → is_attached_for i e.what ≡ true → k < t.envelope.memory_front
  below_front i t k e at there on =
      let a = attach_is i e.what on in
      let index : t.envelope.index ≡ i = index_is client hands h s g i t at in
      let le : a.2 ≤ t.envelope.index = let l = a.4 in omega arith in
      attached_before client.log client.sender.pushed client.taker.taken h client.fronts g.whole.client_of.acts (course client hands h s g) entries_told i k t.envelope e a.0 a.1 a.2
      (envelope_at client hands h s g i t at) there a.3 le

  lends : (i : ℕ) (t : Taking) → slice_get (ts_of client hands h s g) i ≡ Some t → Lends (given_before client.log) h i t
  lends i t at =
      let v : ℕ = (request_in t).vmoid in
      let j = (taken_whole client hands h s g).judged i t at in
      let few : length (filter_map (attachment_by v) (judged_on h t)) ≤ length (filter_map (attachment_by v) (events h)) = few_before (attachment_by v) h t.seen in (
        (omega (arith, few, once_attached v), closed_first i t v at),
        lent_before i v t.seen h j.seen (λ k e there on. let b : k < t.envelope.memory_front = below_front i t k e at there on in let f : t.envelope.memory_front ≤ t.seen = j.front in omega (arith, b, f))
            ∙ lent_by_log client.log (events h) entries_told i v,
      )

  -- ---- the verdicts

  abbrev pub verdict_in : Taking → Verdict
  verdict_in t = t.verdict

  pub taken_verdicts : map verdict_in (ts_of client hands h s g) ≡ verdicts_on (requests_of (ts_of client hands h s g)) (given_before client.log) client.plan.spec.part (length (ts_of client hands h s g))
  taken_verdicts = verdicts_are client.plan.spec.part client.plan.hands (client.plan.hands + 1) h (ts_of client hands h s g) (taken_whole client hands h s g) g.whole.memory_history.numbers (given_before client.log) lends

  pub row_count : length s.rows ≡ length (ts_of client hands h s g)
  row_count = ap length g.whole.rows_are ∙ length-map (ts_of client hands h s g) (row_in (landings (es_of client hands h s g)))

  pub sent_verdicts : verdicts_on (requests_of (ts_of client hands h s g)) (given_before client.log) client.plan.spec.part (length (ts_of client hands h s g)) ≡ verdicts s.log s.range (length s.rows)
  sent_verdicts =
      let ts : List Taking = ts_of client hands h s g in let n : ℕ = length ts in
      let r = requests_are client hands h s g in
      let long : length (requests_of ts) ≡ n = length-map ts request_in in
      sym (verdicts_on-append (requests_of ts) r.0 (given_before client.log) client.plan.spec.part n (omega (arith, long)))
      ∙ (ap (λ rs. verdicts_on rs (given_before client.log) client.plan.spec.part n) (sym r.1)
      ∙ (ap (λ l. verdicts_on (requests s.log) (given_before l) client.plan.spec.part n) (log_same client hands h s g)
      ∙ (ap (λ p. verdicts_on (requests s.log) (given_before s.log) p n) (sym g.range)
      ∙ ap (λ k. verdicts_on (requests s.log) (given_before s.log) s.range k) (sym row_count))))

  pub row_verdicts : map (λ (row : TakenRow). row.verdict) s.rows ≡ verdicts s.log s.range (length s.rows)
  row_verdicts =
      ap (map (λ (row : TakenRow). row.verdict)) g.whole.rows_are
      ∙ (map_twice (row_in (landings (es_of client hands h s g))) (λ (row : TakenRow). row.verdict) (ts_of client hands h s g)
      ∙ (taken_verdicts ∙ sent_verdicts))

  -- ---- the end

  ended_so : (f : Finish) → client.finish ≡ Some f → client.log ≡ filter (λ e. not (is_end e)) client.log ++ end_event f ∷ []
  ended_so Drain e =
      let d = drained (ap is_drained e) in
      ends_so client.log d.0 Drained refl d.1 (g.whole.client_of.kept.ended.logged ∙ (ap (λ o. ends_logged o client.closed) e ∙ ap (ends_logged (Some Drain)) (closed client hands h s g)))
  ended_so Abort e =
      let d = g.whole.client_of.kept.ended.last (ap is_aborted e) in
      ends_so client.log d.0 Aborted refl d.1 (g.whole.client_of.kept.ended.logged ∙ (ap (λ o. ends_logged o client.closed) e ∙ ap (ends_logged (Some Abort)) (closed client hands h s g)))

  drain_same : (f : Finish) → is_drain f ≡ true → is_drained (Some f) ≡ true
  drain_same Drain e = refl
  drain_same Abort e = absurd (cc)

  pub in_order : IsTakenInOrder s
  in_order = record {
    numbered = subst (λ l. filter_map sent_index l ≡ below (length (sent l))) (log_same client hands h s g) g.whole.client_of.kept.log.numbered;
    only_sent = omega (arith, row_count, taken_few client hands h s g);
    verdicts = row_verdicts;
    ends = subst (λ l. l ≡ filter (λ e. not (is_end e)) l ++ end_event s.finish ∷ []) (log_same client hands h s g) (ended_so s.finish g.finish);
    all_taken = λ d. let t = g.whole.client_of.over.taken (ap is_drained g.finish ∙ drain_same s.finish d) in
        let u : length (sent s.log) ≤ length (ts_of client hands h s g) = subst (λ l. length (sent l) ≤ length (ts_of client hands h s g)) (log_same client hands h s g) t in
        omega (arith, row_count, taken_few client hands h s g, u);
    ids = subst (λ l. IsTrue (all_with_before runs_out_rightly l)) (log_same client hands h s g) g.whole.client_of.kept.log.ids;
  }

pub taken_in_order : TakenInOrder
taken_in_order client hands h s g told due = in_order client hands h s g (drains_come_last client hands h s g told) due
