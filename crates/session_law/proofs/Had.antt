-- An answer that was had before an event was received in a slip of an earlier act, whose fronts are past all that it answers.
use Rattle.std.proofs.Common.{◌≡◌, ℕ, ◌<◌, ◌≤◌, true, false, ◌&&◌, nat_lt, cond, List, ◌++◌, length, filter_map, map, take, drop, Option, Some, None, refl, sym, ap, ◌∙◌, arith}
use Rattle.std.specs.Str.{bytes_eq}
use Rattle.std.specs.List.{slice_get}
use Rattle.std.specs.Option.{option_map_or}
use Rattle.std.proofs.lemmas.Bool.{eqb-true, lt-ltb, ltb-true}
use Rattle.std.proofs.lemmas.List.{map-append, take-append-drop}
use Rattle.std.proofs.lemmas.List.Elements.{filter_map-append}
use Rattle.std.proofs.lemmas.List.FromFn.{length-range_with_len}
use Rattle.host_block.proofs.Places.{within}
use Rattle.host_record.specs.declared.request.Request.{Request}
use Rattle.host_record.specs.{request_of}
use Rattle.host_model.specs.{Event, MemEntry, answer_bytes, due, answers_for, is_owing, owed, owing_record, below, count, received, request_at, requests, sent, sent_bytes, HadBefore, was_answered}
use Rattle.host_model.specs.Session.{Session}
use Rattle.host_model.proofs.ListTests.{both}
use Rattle.host_rings.specs.{Slip}
use Rattle.host_intake.specs.{Landing, requests_of}
use Rattle.host_intake.proofs.Verdicts.{numbered_place}
use Rattle.host_session.specs.{SessionHand, Act, ClientState, answered_in, due_records, times}
use Rattle.host_session.proofs.Counting.{counting_tells}
use Rattle.host_session.proofs.Requests.{counting_holds_before, answers_before}
use Rattle.host_session.proofs.Times.{range_has, times-filter}
use Rattle.session_law.specs.{IsSessionGathered, PushedAsTold, Ended}
use Rattle.session_law.proofs.Due.{acts_of, answered, answered_by_act, are_answered, asked_count, ls_of, received_right, row_many, sent_before}
use Rattle.session_law.proofs.Finding.{find_place}
use Rattle.session_law.proofs.Gathered.{requests_are, ts_of}
use Rattle.session_law.proofs.Places.{has_found}
use Rattle.session_law.proofs.Prefixes.{answers_earlier, owing_from}

-- the requests of the first events are the first of all
requests_split : (log : List Event) (n : ℕ) → (rest : List Request) × (requests log ≡ requests (take n log) ++ rest)
requests_split log n = (
  map request_of (sent (drop n log)),
  ap requests (sym (take-append-drop n log))
      ∙ (ap (map request_of) (filter_map-append sent_bytes (take n log) (drop n log)) ∙ map-append request_of (sent (take n log)) (sent (drop n log))),
)

module _ (client : ClientState) (hands : List SessionHand) (h : List MemEntry) (s : Session) (g : IsSessionGathered client hands h s) (told : PushedAsTold hands g.whole.intake.entries) where
  -- The answer to record r was received by an act before event n. Its slip's fronts are no smaller than those of the
  -- record's end.
  pub record IsHad (n r : ℕ) : Type 0 where
    pub slip : Slip
    pub m : ℕ
    pub act : Act
    pub at : slice_get (acts_of client hands h s g told) m ≡ Some act
    pub carries : act.slip ≡ Some slip
    pub early : m < n
    pub taken : r < length (ts_of client hands h s g)
    pub covers : (l : Landing) → Ended (ls_of client hands h s g told) r l → (l.end.device_front ≤ slip.device_front) × (l.end.memory_front ≤ slip.memory_front)

  -- record o answers r, by the first m events
  module _ (m o r : ℕ) (sent_yet : o < length (requests (take m s.log))) (for_it : answers_for (requests (take m s.log)) o r ≡ true) (taken : o < length s.rows) where
    due_yet : 0 < times o (due_records (take m s.log) s.rows)
    due_yet =
        let rs : List Request = requests (take m s.log) in
        let there : 0 < times o (below (length rs)) = range_has o 0 (length rs) (omega arith) (omega (arith, sent_yet)) in
        let owing : is_owing (request_at (requests (take m s.log)) o) ≡ true = owing_from rs o r for_it in
        let a : times o (owed (requests (take m s.log))) ≡ cond (is_owing (request_at (requests (take m s.log)) o)) (times o (below (length (requests (take m s.log))))) 0 = times-filter (λ k. is_owing (request_at (requests (take m s.log)) k)) o (below (length (requests (take m s.log)))) in
        let b : times o (owed (requests (take m s.log))) ≡ times o (below (length (requests (take m s.log)))) = a ∙ ap (λ c. cond c (times o (below (length (requests (take m s.log))))) 0) owing in
        let t : nat_lt o (length s.rows) ≡ true = lt-ltb o (length s.rows) taken in
        let c : times o (due_records (take m s.log) s.rows) ≡ cond (nat_lt o (length s.rows)) (times o (owed (requests (take m s.log)))) 0 = times-filter (λ k. nat_lt k (length s.rows)) o (owed (requests (take m s.log))) in
        let d : times o (due_records (take m s.log) s.rows) ≡ times o (owed (requests (take m s.log))) = c ∙ ap (λ e. cond e (times o (owed (requests (take m s.log)))) 0) t in
        omega (arith, there, b, d)

    taken_too : r < length (ts_of client hands h s g)
    taken_too =
        let e = answers_earlier (requests (take m s.log)) o r sent_yet for_it in
        let k = row_many client hands h s g told in
        omega (arith, e, k, taken)

    -- it does so by the records taken
    for_taken : answers_for (requests_of (ts_of client hands h s g)) o r ≡ true
    for_taken =
        let a = requests_split s.log m in
        let b = requests_are client hands h s g in
        let e = answers_earlier (requests (take m s.log)) o r sent_yet for_it in
        let k = row_many client hands h s g told in
        let c = asked_count client hands h s g told in
        let first : answers_for (requests s.log) o r ≡ true = ap (λ q. answers_for q o r) a.1 ∙ (answers_before (requests (take m s.log)) a.0 o r sent_yet (omega (arith, e, sent_yet)) ∙ for_it) in
        sym (answers_before (requests_of (ts_of client hands h s g)) b.0 o r (omega (arith, taken, k, c)) (omega (arith, e, taken, k, c)))
        ∙ (ap (λ q. answers_for q o r) (sym b.1) ∙ first)

    pub had_so : (n : ℕ) → m ≤ n → count (bytes_eq (answer_bytes (requests (take m s.log)) s.rows o)) (received (take m s.log)) ≡ count (bytes_eq (answer_bytes (requests (take m s.log)) s.rows o)) (due (take m s.log) s.rows) → IsHad n r
    had_so n le often =
        let answered_first = counting_holds_before s.log s.rows (answered client hands h s g told) (are_answered client hands h s g told) (sent_before client hands h s g told) m in
        let some = (counting_tells (take m s.log) s.rows (answered_in s.log (answered client hands h s g told) m) answered_first).each o due_yet often in
        let b = answered_by_act client hands h s g told m o some in
        let x : Slip = b.0 in
        let e : ℕ = length (filter_map (λ (a : Act). a.slip) (take b.1 (acts_of client hands h s g told))) in
        let there : slice_get (filter_map (λ (a : Act). a.slip) (acts_of client hands h s g told)) e ≡ Some x = has_found (λ (a : Act). a.slip) (acts_of client hands h s g told) b.1 b.2 x b.3.at b.3.slip in
        let right = received_right client hands h s g told e x there in
        record {
          slip = x;
          m = b.1;
          act = b.2;
          at = b.3.at;
          carries = b.3.slip;
          early = let l = b.3.early in omega (arith, l, le);
          taken = taken_too;
          covers = λ l ended. right.covers ended.0 l ended.1 (ap (λ k. answers_for (requests_of (ts_of client hands h s g)) x.index k) ended.2 ∙ (ap (λ k. answers_for (requests_of (ts_of client hands h s g)) k r) b.4 ∙ for_taken));
        }

  pub had : (n r : ℕ) → HadBefore s n r → IsHad n r
  had n r before = step (owing_record (requests (take before.0 s.log)) r) refl before.2
    where
      step : (o : Option ℕ) → owing_record (requests (take before.0 s.log)) r ≡ o → option_map_or (λ k. nat_lt k (length s.rows) && was_answered s (take before.0 s.log) k) o false ≡ true → IsHad n r
      step None e f = absurd (cc)
      step (Some o) e f =
          let m : ℕ = before.0 in
          let rs : List Request = requests (take before.0 s.log) in
          let t = both (nat_lt o (length s.rows)) (was_answered s (take before.0 s.log) o) f in
          let p = find_place (λ k. answers_for (requests (take before.0 s.log)) k r) (below (length rs)) o e in
          let place = numbered_place 0 (length rs) p.0 o p.1 in
          let inside = within (below (length rs)) p.0 o p.1 in
          let long = length-range_with_len 0 (length rs) in
          had_so m o r (omega (arith, place, inside, long)) p.2 (ltb-true o (length s.rows) t.0) n before.1
          (eqb-true (count (bytes_eq (answer_bytes (requests (take before.0 s.log)) s.rows o)) (received (take before.0 s.log))) (count (bytes_eq (answer_bytes (requests (take before.0 s.log)) s.rows o)) (due (take before.0 s.log) s.rows)) t.1)
