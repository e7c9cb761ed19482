-- A session is lawful where each of its tests holds.
use Rattle.std.proofs.Common.{◌≡◌, ◌↔◌, ℕ, ◌<◌, Bool, true, false, ◌&&◌, IsTrue, nat_eq, List, [], ◌∷◌, ◌++◌, length, filter, filter_map, refl, sym, ap, ◌∙◌}
use Rattle.std.specs.List.{list_all, range_with_len}
use Rattle.host_model.specs.{IsBufferHistory, is_answer_for, is_used_rightly, is_client, told, all_after, all_with_before, map_with_before, same_counts, given, requests, sent, found_by, lifts_page, shown_bytes, HasEntries, names_taken, comes_before_release, pins_before_close, released, verdicts, Event, Attached, NotAttached, Filled, Sent, Received, Shown, Drained, Aborted}
use Rattle.host_model.specs.Session.{Session}
use Rattle.host_model.proofs.ListTests.{and-from, both}
use Rattle.buffer_check.specs.{is_answer_by, is_used_by}

pub buffers_is : (s : Session) (a b c d e f g h i j : Bool)
    → (IsTrue a ↔ (filter is_client s.memory ≡ told s.log))
    → (IsTrue b ↔ (given s.log ≡ range_with_len 1 (length (given s.log))))
    → (IsTrue c ↔ (filter_map shown_bytes s.log ≡ map_with_before (found_by s.size) s.memory))
    → d ≡ all_with_before (lifts_page s.size) s.memory
    → (IsTrue e ↔ ((k : ℕ) → k < length s.rows → HasEntries s k))
    → f ≡ list_all (names_taken (length s.rows)) s.memory
    → g ≡ same_counts nat_eq (released s.memory) (given s.log)
    → h ≡ all_with_before comes_before_release s.memory
    → i ≡ all_with_before pins_before_close s.memory
    → j ≡ all_with_before (is_used_rightly s) s.log
    → IsTrue (a && b && c && d && e && f && g && h && i && j) ↔ IsBufferHistory s
buffers_is s a b c d e f g h i j ha hb hc hd he hf hg hh hi hj = (
  λ t.
      let t9 : IsTrue (a && b && c && d && e && f && g && h && i) × IsTrue j = both _ _ t in
      let t8 : IsTrue (a && b && c && d && e && f && g && h) × IsTrue i = both _ _ t9.0 in
      let t7 : IsTrue (a && b && c && d && e && f && g) × IsTrue h = both _ _ t8.0 in
      let t6 : IsTrue (a && b && c && d && e && f) × IsTrue g = both _ _ t7.0 in
      let t5 : IsTrue (a && b && c && d && e) × IsTrue f = both _ _ t6.0 in
      let t4 : IsTrue (a && b && c && d) × IsTrue e = both _ _ t5.0 in
      let t3 : IsTrue (a && b && c) × IsTrue d = both _ _ t4.0 in
      let t2 : IsTrue (a && b) × IsTrue c = both _ _ t3.0 in
      let t1 : IsTrue a × IsTrue b = both _ _ t2.0 in
      record {
        client = record { entries = ha.0 t1.0; ids = hb.0 t1.1 };
        pages = record { shows = hc.0 t2.1; lifts = sym hd ∙ t3.1 };
        records = record { each = he.0 t4.1; others = sym hf ∙ t5.1 };
        releases = record { once = sym hg ∙ t6.1; last = sym hh ∙ t7.1; closes = sym hi ∙ t8.1 };
        used = sym hj ∙ t9.1;
      },
  λ w. and-from _ _ (and-from _ _ (and-from _ _ (and-from _ _ (and-from _ _ (and-from _ _ (and-from _ _ (and-from _ _ (and-from _ _
      (ha.1 w.client.entries) (hb.1 w.client.ids)) (hc.1 w.pages.shows)) (hd ∙ w.pages.lifts)) (he.1 w.records.each)) (hf ∙ w.records.others))
      (hg ∙ w.releases.once)) (hh ∙ w.releases.last)) (hi ∙ w.releases.closes)) (hj ∙ w.used),
)

-- ---- fills and shows

all_after-same : {A : Type 0} (f g : List A → A → Bool) → ((before : List A) (x : A) → f before x ≡ g before x) → (before xs : List A) → all_after f before xs ≡ all_after g before xs
all_after-same f g h before [] = refl
all_after-same f g h before (x ∷ xs) = ap (λ b. b && all_after f (before ++ x ∷ []) xs) (h before x) ∙ ap (λ b. g before x && b) (all_after-same f g h (before ++ x ∷ []) xs)

answer_is : (s : Session) (before : List Event) (v block count : ℕ) (done : Bool)
    → is_answer_by (requests s.log) (verdicts s.log s.range (length (sent s.log))) (length s.rows) s.memory before v block count done ≡ is_answer_for s before v block count done
answer_is s before v block count true = refl
answer_is s before v block count false = refl

used_is : (s : Session) (before : List Event) (e : Event)
    → is_used_by (requests s.log) (verdicts s.log s.range (length (sent s.log))) (length s.rows) s.memory before e ≡ is_used_rightly s before e
used_is s before (Attached pages id) = refl
used_is s before (NotAttached pages cause) = refl
used_is s before (Filled v block count byte done) = answer_is s before v block count done
used_is s before (Sent index bytes) = refl
used_is s before (Received bytes) = refl
used_is s before (Shown v block count done bytes) = answer_is s before v block count done
used_is s before Drained = refl
used_is s before Aborted = refl

pub all_used_is : (s : Session) → all_with_before (is_used_by (requests s.log) (verdicts s.log s.range (length (sent s.log))) (length s.rows) s.memory) s.log ≡ all_with_before (is_used_rightly s) s.log
all_used_is s = all_after-same _ (is_used_rightly s) (used_is s) [] s.log
