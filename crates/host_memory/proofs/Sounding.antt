-- What is sound of a history once an entry was added.
use Rattle.std.proofs.Common.{◌≡◌, ℕ, Bool, true, false, List, [], ◌∷◌, ◌++◌, IsTrue, sym, ◌∙◌, arith}
use Rattle.host_model.specs.{MemEvent, all_with_before, lifts_page, comes_before_release, pins_before_close}
use Rattle.host_model.proofs.Growth.{all_with_before-push}
use Rattle.host_memory.specs.{IsHistorySound, is_pin_for, is_done_for}
use Rattle.host_memory.proofs.Pushed.{any_skip, count_skip}
use Rattle.host_log.proofs.Bools.{and_both}

pub tests_pushed : (test : List MemEvent → MemEvent → Bool) (h : List MemEvent) (e : MemEvent) → IsTrue (all_with_before test h) → test h e ≡ true → IsTrue (all_with_before test (h ++ e ∷ []))
tests_pushed test h e p q = all_with_before-push test h e ∙ and_both (all_with_before test h) (test h e) p q

-- an entry that is no pin and no done
pub sound_pushed : (size : ℕ) (h : List MemEvent) (e : MemEvent) → IsHistorySound size h → comes_before_release h e ≡ true → pins_before_close h e ≡ true → lifts_page size h e ≡ true
    → ((i : ℕ) → is_pin_for i e ≡ false) → ((i : ℕ) → is_done_for i e ≡ false) → IsHistorySound size (h ++ e ∷ [])
sound_pushed size h e s r c l np nd = record {
  released = tests_pushed comes_before_release h e s.released r;
  closed = tests_pushed pins_before_close h e s.closed c;
  lifts = tests_pushed (lifts_page size) h e s.lifts l;
  one_pin = λ i. (let same = count_skip (is_pin_for i) h e (np i) in let old = s.one_pin i in omega arith);
  done = λ i d. count_skip (is_pin_for i) h e (np i) ∙ s.done i (sym (any_skip (is_done_for i) h e (nd i)) ∙ d);
}
