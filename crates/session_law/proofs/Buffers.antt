-- What the history of a session's buffers has, by the two ends of the session alone.
use Rattle.std.proofs.Common.{◌≡◌, ℕ, suc, ◌==◌, Bool, true, false, nat_eq, nat_le, cond, IsTrue, List, [], ◌∷◌, filter, filter_map, length, refl, sym, ap, subst, ◌∙◌, arith}
use Rattle.std.specs.List.{range_with_len}
use Rattle.std.proofs.lemmas.Bool.{le-leb}
use Rattle.host_memory.specs.{events}
use Rattle.host_model.specs.{MemEntry, MemEvent, Release, is_client, told, all_with_before, count, map_with_before, same_counts, within_counts, given, found_by, lifts_page, shown_bytes, comes_before_release, is_release_of, pins_before_close, released}
use Rattle.host_model.specs.Session.{Session}
use Rattle.host_model.proofs.ListTests.{all_pass, and-from}
use Rattle.host_session.specs.{SessionHand, ClientState, times}
use Rattle.session_law.specs.{AreBuffersTold, BuffersTold, IsSessionGathered}
use Rattle.session_law.proofs.Gathered.{log_same}
use Rattle.session_law.proofs.Lending.{attached_times, eq_flip}
use Rattle.host_memory.proofs.Remaining.{given_times}

-- ---- counts

pub released_times : (v : ℕ) (h : List MemEvent) → times v (released h) ≡ count (is_release_of v) h
released_times v [] = refl
released_times v (Release id ∷ h) = step (id == v) (nat_eq v id) (eq_flip id v) (released_times v h)
  where
    step : (b c : Bool) → b ≡ c → times v (released h) ≡ count (is_release_of v) h
        → length (cond c (id ∷ filter (nat_eq v) (released h)) (filter (nat_eq v) (released h))) ≡ length (cond b (Release id ∷ filter (is_release_of v) h) (filter (is_release_of v) h))
    step true true e g = ap suc g
    step true false e g = absurd (cc)
    step false true e g = absurd (cc)
    step false false e g = g
released_times v (_ ∷ h) = released_times v h

same_times : (xs ys : List ℕ) → ((v : ℕ) → times v xs ≡ times v ys) → same_counts nat_eq xs ys ≡ true
same_times xs ys e =
    and-from (within_counts nat_eq xs ys) (within_counts nat_eq ys xs)
    (all_pass (λ x. nat_le (count (nat_eq x) xs) (count (nat_eq x) ys)) xs (λ x _. le-leb (times x xs) (times x ys) (let f = e x in omega arith)))
    (all_pass (λ x. nat_le (count (nat_eq x) ys) (count (nat_eq x) xs)) ys (λ x _. le-leb (times x ys) (times x xs) (let f = e x in omega arith)))

module _ (client : ClientState) (hands : List SessionHand) (h : List MemEntry) (s : Session) (g : IsSessionGathered client hands h s) where
  once : same_counts nat_eq (released s.memory) (given s.log) ≡ true
  once = same_times (released s.memory) (given s.log) (λ v.
      ap (λ m. times v (released m)) g.memory
      ∙ (released_times v (events h)
      ∙ (g.whole.memory_history.once v
      ∙ (given_times v (events h)
      ∙ (attached_times v client.log (events h) g.whole.client_of.told.entries
      ∙ ap (λ l. times v (given l)) (log_same client hands h s g))))))

  pub told_so : AreBuffersTold s
  told_so =
      let same : client.log ≡ s.log = log_same client hands h s g in
      let m : s.memory ≡ events h = g.memory in
      record {
        client = record {
          entries = ap (filter is_client) m ∙ (g.whole.client_of.told.entries ∙ ap told same);
          ids = subst (λ l. given l ≡ range_with_len 1 (length (given l))) same g.whole.client_of.told.ids;
        };
        pages = record {
          shows = ap (filter_map shown_bytes) (sym same) ∙ (g.whole.client_of.told.shows ∙ (ap (λ n. map_with_before (found_by n) (events h)) (sym g.size) ∙ ap (map_with_before (found_by s.size)) (sym m)));
          lifts = subst (λ l. IsTrue (all_with_before (lifts_page s.size) l)) (sym m) (subst (λ n. IsTrue (all_with_before (lifts_page n) (events h))) (sym g.size) g.whole.memory_history.lifts);
        };
        releases = record {
          once = once;
          last = subst (λ l. IsTrue (all_with_before comes_before_release l)) (sym m) g.whole.memory_history.last;
          closes = subst (λ l. IsTrue (all_with_before pins_before_close l)) (sym m) g.whole.memory_history.closes;
        };
      }

pub buffers_told : BuffersTold
buffers_told client hands h s g = told_so client hands h s g
