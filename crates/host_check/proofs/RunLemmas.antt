-- A run is lawful where its tests hold.
use Rattle.std.proofs.Common.{◌≡◌, ◌↔◌, ℕ, ◌+◌, ◌<◌, ◌≤◌, ◌∙◌, Bool, true, false, ◌&&◌, IsTrue, List, length, map, min, nat_lt, refl, sym, ap, arith}
use Rattle.std.proofs.lemmas.Bool.{le-ltb, lt-ltb, ltb-false, ltb-true}
use Rattle.std.proofs.lemmas.List.{length-map}
use Rattle.std.specs.List.{range_with_len}
use Rattle.host_model.proofs.ListTests.{and-from, both}
use Rattle.host_report.specs.{IsLawful, IsLawfulRun, IsOfImage, IsOnTable, Report, SessionReport}
use Rattle.host_check.specs.{TellsParts, RunParts}
use Rattle.record_check.specs.{counts_from}
use Rattle.record_check.proofs.TakingLemmas.{counts_is}

pub numbers_are : (sessions : List SessionReport) → IsTrue (counts_from 1 (map (λ s. s.number) sessions)) ↔ (map (λ s. s.number) sessions ≡ range_with_len 1 (length sessions))
numbers_are sessions = (
  λ t. (counts_is 1 (map (λ s. s.number) sessions)).0 t ∙ ap (range_with_len 1) (length-map sessions (λ s. s.number)),
  λ e. (counts_is 1 (map (λ s. s.number) sessions)).1 (e ∙ ap (range_with_len 1) (sym (length-map sessions (λ s. s.number)))),
)

pub more_than : (n : ℕ) → nat_lt 4096 (min 4097 (0 + n)) ≡ nat_lt 4096 n
more_than n = at (nat_lt 4096 n) refl
  where
    at : (b : Bool) → nat_lt 4096 n ≡ b → nat_lt 4096 (min 4097 (0 + n)) ≡ b
    at true e = let few : 4096 < n = ltb-true 4096 n e in let some : 4096 < min 4097 (0 + n) = omega (arith, few) in lt-ltb 4096 (min 4097 (0 + n)) some
    at false e = let few : n ≤ 4096 = ltb-false 4096 n e in let none : min 4097 (0 + n) ≤ 4096 = omega (arith, few) in le-ltb 4096 (min 4097 (0 + n)) none

pub run_is : (image : List (List ℕ)) (report : Report) (p : RunParts) → TellsParts image report p
    → IsTrue (p.numbers && p.sessions && p.closing && p.legal && p.frames && p.home) ↔ IsLawfulRun image report
run_is image report p h = (
  λ t.
      let t5 : IsTrue (p.numbers && p.sessions && p.closing && p.legal && p.frames) × IsTrue p.home = both _ _ t in
      let t4 : IsTrue (p.numbers && p.sessions && p.closing && p.legal) × IsTrue p.frames = both _ _ t5.0 in
      let t3 : IsTrue (p.numbers && p.sessions && p.closing) × IsTrue p.legal = both _ _ t4.0 in
      let t2 : IsTrue (p.numbers && p.sessions) × IsTrue p.closing = both _ _ t3.0 in
      let t1 : IsTrue p.numbers × IsTrue p.sessions = both _ _ t2.0 in
      record { numbers = h.numbers.0 t1.0; sessions = h.sessions.0 t1.1; closing = h.closing.0 t2.1; legal = h.legal.0 t3.1; frames = sym h.frames ∙ t4.1; home = h.home.0 t5.1 },
  λ l. and-from _ _ (and-from _ _ (and-from _ _ (and-from _ _ (and-from _ _ (h.numbers.1 l.numbers) (h.sessions.1 l.sessions)) (h.closing.1 l.closing)) (h.legal.1 l.legal)) (h.frames ∙ l.frames)) (h.home.1 l.home),
)

pub report_is : (image : List (List ℕ)) (report : Report) (a b c : Bool) → (IsTrue a ↔ IsOfImage image report) → (IsTrue b ↔ IsOnTable image report) → (IsTrue c ↔ IsLawfulRun image report)
    → IsTrue (a && b && c) ↔ IsLawful image report
report_is image report a b c ha hb hc = (
  λ t.
      let t2 : IsTrue (a && b) × IsTrue c = both _ _ t in
      let t1 : IsTrue a × IsTrue b = both _ _ t2.0 in
      record { of_image = ha.0 t1.0; on_table = hb.0 t1.1; run = hc.0 t2.1 },
  λ h. and-from _ _ (and-from _ _ (ha.1 h.of_image) (hb.1 h.on_table)) (hc.1 h.run),
)
