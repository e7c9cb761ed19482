-- The order rule as a sentence.
use Rattle.std.proofs.Common.{◌≡◌, ℕ, ◌+◌, ◌<◌, true, ◌&&◌, IsTrue, nat_lt, take, arith}
use Rattle.std.proofs.lemmas.Bool.{ltb-true, lt-ltb}
use Rattle.host_model.specs.{IsInOrder, OrderIsKept, all_before, sending, HadBefore, KeepsOrder, had_before, had_in, step_places, entry_places, told_by}
use Rattle.host_model.specs.Session.{Session}
use Rattle.host_model.proofs.ListTests.{and-from, any_below, before-from, both, found_below, implied, implies-from, stand_before}

pub had-from : (s : Session) (n r : ℕ) → HadBefore s n r → had_before s n r ≡ true
had-from s n r h = any_below (λ m. had_in s (take m s.log) r) (n + 1) h.0 (omega (arith, h.1)) h.2

pub had-is : (s : Session) (n r : ℕ) → had_before s n r ≡ true → HadBefore s n r
had-is s n r e =
    let some : (m : ℕ) × (m < n + 1) × IsTrue (had_in s (take m s.log) r) = found_below (λ m. had_in s (take m s.log) r) (n + 1) e in
    (some.0, omega (arith, some.1), some.2)

kept : (s : Session) → KeepsOrder s → IsInOrder s
kept s h = record {
  records = λ r i p q had.
      let t : IsTrue (all_before (step_places s r) (step_places s i)) × IsTrue (all_before (entry_places s r) (entry_places s i)) =
      both _ _ (implied (had_before s (sending s.log i) r) _ (h.records r i p q) (had-from s (sending s.log i) r had)) in
      (stand_before _ _ t.0, stand_before _ _ t.1);
  client = λ i p. stand_before _ _ (h.client i p);
  events = λ r n p q had more. stand_before _ _ (implied (had_before s n r && nat_lt (told_by s n) (told_by s (n + 1))) _ (h.events r n p q)
      (and-from (had_before s n r) _ (had-from s n r had) (lt-ltb (told_by s n) (told_by s (n + 1)) more)));
}

tested : (s : Session) → IsInOrder s → KeepsOrder s
tested s h = record {
  records = λ r i p q. implies-from (had_before s (sending s.log i) r) _ (λ e.
      let t : _ = h.records r i p q (had-is s (sending s.log i) r e) in and-from _ _ (before-from _ _ t.0) (before-from _ _ t.1));
  client = λ i p. before-from _ _ (h.client i p);
  events = λ r n p q. implies-from (had_before s n r && nat_lt (told_by s n) (told_by s (n + 1))) _ (λ e.
      let t : IsTrue (had_before s n r) × IsTrue (nat_lt (told_by s n) (told_by s (n + 1))) = both _ _ e in
      before-from _ _ (h.events r n p q (had-is s n r t.0) (ltb-true _ _ t.1)));
}

pub order_is_kept : OrderIsKept
order_is_kept s = (kept s, tested s)
