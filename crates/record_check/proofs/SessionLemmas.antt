-- A session is lawful where each of its tests holds.
use Rattle.std.proofs.Common.{◌≡◌, ◌↔◌, ℕ, ◌+◌, ◌<◌, ◌≤◌, Bool, not, ◌&&◌, IsTrue, nat_lt, [], ◌∷◌, ◌++◌, length, map, filter, filter_map, take, sym, ◌∙◌, arith}
use Rattle.std.specs.List.{list_all}
use Rattle.host_model.specs.{AreDueAnswers, is_answered_at_most, is_answered_exactly, AreCarriedOut, all_with_before, below, requests, sent, sent_index, IsTakenInOrder, end_event, is_drain, is_end, runs_out_rightly, verdicts}
use Rattle.host_model.specs.Session.{Session}
use Rattle.host_model.proofs.ListTests.{and-from, both, tested_below}
use Rattle.record_check.specs.{IsCarriedBy}
use Rattle.record_check.proofs.GroupLemmas.{all_below-from}

pub taken_is : (s : Session) (a b c d e f : Bool)
    → (IsTrue a ↔ (filter_map sent_index s.log ≡ below (length (sent s.log))))
    → (IsTrue b ↔ (length s.rows ≤ length (sent s.log)))
    → (IsTrue c ↔ (map (λ row. row.verdict) s.rows ≡ verdicts s.log s.range (length s.rows)))
    → (IsTrue d ↔ (s.log ≡ filter (λ e. not (is_end e)) s.log ++ end_event s.finish ∷ []))
    → (IsTrue e ↔ (IsTrue (is_drain s.finish) → length s.rows ≡ length (sent s.log)))
    → f ≡ all_with_before runs_out_rightly s.log
    → IsTrue (a && b && c && d && e && f) ↔ IsTakenInOrder s
taken_is s a b c d e f ha hb hc hd he hf = (
  λ t.
      let t5 : IsTrue (a && b && c && d && e) × IsTrue f = both _ _ t in
      let t4 : IsTrue (a && b && c && d) × IsTrue e = both _ _ t5.0 in
      let t3 : IsTrue (a && b && c) × IsTrue d = both _ _ t4.0 in
      let t2 : IsTrue (a && b) × IsTrue c = both _ _ t3.0 in
      let t1 : IsTrue a × IsTrue b = both _ _ t2.0 in
      record { numbered = ha.0 t1.0; only_sent = hb.0 t1.1; verdicts = hc.0 t2.1; ends = hd.0 t3.1; all_taken = he.0 t4.1; ids = sym hf ∙ t5.1 },
  λ h. and-from _ _ (and-from _ _ (and-from _ _ (and-from _ _ (and-from _ _ (ha.1 h.numbered) (hb.1 h.only_sent)) (hc.1 h.verdicts)) (hd.1 h.ends)) (he.1 h.all_taken)) (hf ∙ h.ids),
)

pub carried_is : (s : Session) (a b : Bool) → (IsTrue a ↔ ((i : ℕ) → i < length s.rows → IsCarriedBy s.range (requests s.log) s.rows s.steps i))
    → b ≡ list_all (λ step. nat_lt step.index (length s.rows)) s.steps → IsTrue (a && b) ↔ AreCarriedOut s
carried_is s a b ha hb = (
  λ t. let u : IsTrue a × IsTrue b = both a b t in
      record { each = λ i p. (let h : IsCarriedBy s.range (requests s.log) s.rows s.steps i = ha.0 u.0 i p in record { steps = h.0; outcome = h.1 }); others = sym hb ∙ u.1 },
  λ h. and-from a b (ha.1 (λ i p. ((h.each i p).steps, (h.each i p).outcome))) (hb ∙ h.others),
)

pub answered_is : (s : Session) (a b : Bool) → a ≡ list_all (λ n. is_answered_at_most (take n s.log) s.rows) (below (length s.log + 1))
    → (IsTrue b ↔ (IsTrue (is_drain s.finish) → IsTrue (is_answered_exactly s.log s.rows))) → IsTrue (a && b) ↔ AreDueAnswers s
answered_is s a b ha hb = (
  λ t. let u : IsTrue a × IsTrue b = both a b t in
      record { at_most = λ n h. tested_below (λ n. is_answered_at_most (take n s.log) s.rows) (length s.log + 1) (sym ha ∙ u.0) n (omega (arith, h)); exactly = hb.0 u.1 },
  λ h. and-from a b (ha ∙ all_below-from (λ n. is_answered_at_most (take n s.log) s.rows) (length s.log + 1) (λ n p. h.at_most n (omega (arith, p)))) (hb.1 h.exactly),
)
