-- The order rule, from its tests.
use Rattle.std.proofs.Common.{◌≡◌, ◌↔◌, ℕ, zero, suc, ◌+◌, ◌<◌, ◌≤◌, Bool, ◌&&◌, ◌||◌, IsTrue, nat_lt, List, [], ◌∷◌, length, map, take, drop, refl, sym, ap, ◌∙◌, subst, arith}
use Rattle.std.proofs.lemmas.List.{length-map}
use Rattle.std.specs.List.{list_all, list_any, range_with_len}
use Rattle.host_model.specs.{Event, Attached, NotAttached, Filled, Sent, Received, Shown, Drained, Aborted, TakenRow, all_before, below, implies, requests, sending, sent, KeepsOrder, follows_record, had_in, precedes_event, entry_places, step_places, client_places, told_by, verdicts}
use Rattle.host_model.specs.Session.{Session}
use Rattle.host_model.proofs.ListTests.{and-from, both, tested_below}
use Rattle.host_check.specs.{client_by, follows_by, had_of, is_order_kept, is_ordered_by, precedes_by, some_of}
use Rattle.record_check.proofs.GroupLemmas.{all_below-from, length-below}

pub length-had : (log : List Event) (rows : List TakenRow) (r : ℕ) (had : List Bool) → had ≡ had_of log rows r → length had ≡ length log + 1
length-had log rows r had e = ap length e ∙ length-map (below (length log + 1)) _ ∙ length-below (length log + 1)

-- ---- what is had before

any_map_take : (f : ℕ → Bool) (a n k : ℕ) → k ≤ n → list_any (λ b. b) (take k (map f (range_with_len a n))) ≡ list_any f (range_with_len a k)
any_map_take f a n zero h = refl
any_map_take f a zero (suc k) h = absurd (omega (arith, h))
any_map_take f a (suc n) (suc k) h = let p : k ≤ n = omega (arith, h) in ap (λ b. f a || b) (any_map_take f (a + 1) n k p)

pub some_is : (f : ℕ → Bool) (l n : ℕ) → n ≤ l → some_of (map f (below (l + 1))) n ≡ list_any f (below (n + 1))
some_is f l n h = let p : n + 1 ≤ l + 1 = omega (arith, h) in any_map_take f 0 (l + 1) (n + 1) p

sending_within : (log : List Event) (i : ℕ) → sending log i ≤ length log
sending_within [] i = omega arith
sending_within (Attached pages id ∷ log) i = omega (arith, sending_within log i)
sending_within (NotAttached pages cause ∷ log) i = omega (arith, sending_within log i)
sending_within (Filled id block count byte done ∷ log) i = omega (arith, sending_within log i)
sending_within (Sent index bytes ∷ log) zero = omega arith
sending_within (Sent index bytes ∷ log) (suc i) = omega (arith, sending_within log i)
sending_within (Received bytes ∷ log) i = omega (arith, sending_within log i)
sending_within (Shown id block count done bytes ∷ log) i = omega (arith, sending_within log i)
sending_within (Drained ∷ log) i = omega (arith, sending_within log i)
sending_within (Aborted ∷ log) i = omega (arith, sending_within log i)

-- ---- the rule

abbrev pub IsTested : Session → Type 0
IsTested s =
    let rs = requests s.log in
    let vs = verdicts s.log s.range (length (sent s.log)) in
    IsTrue (list_all (is_ordered_by rs vs s.log s.rows s.steps s.memory) (below (length (sent s.log))))
    × IsTrue (list_all (client_by rs vs s.log s.memory) (below (length (sent s.log))))

same_record : (s : Session) (r i : ℕ) → implies (some_of (had_of s.log s.rows r) (sending s.log i)) (all_before (step_places s r) (step_places s i) && all_before (entry_places s r) (entry_places s i)) ≡ follows_record s r i
same_record s r i = ap (λ b. implies b (all_before (step_places s r) (step_places s i) && all_before (entry_places s r) (entry_places s i)))
    (some_is (λ m. had_in s (take m s.log) r) (length s.log) (sending s.log i) (sending_within s.log i))

same_event : (s : Session) (r n : ℕ) → n < length s.log
    → implies (some_of (had_of s.log s.rows r) n && nat_lt (told_by s n) (told_by s (n + 1))) (all_before (entry_places s r) (take 1 (drop (told_by s n) (client_places s)))) ≡ precedes_event s r n
same_event s r n h =
    let few : n ≤ length s.log = omega (arith, h) in
    ap (λ b. implies (b && nat_lt (told_by s n) (told_by s (n + 1))) (all_before (entry_places s r) (take 1 (drop (told_by s n) (client_places s)))))
    (some_is (λ m. had_in s (take m s.log) r) (length s.log) n few)

parts : (s : Session) → IsTested s → (r : ℕ) → r < length (sent s.log)
    → IsTrue (list_all (follows_by (requests s.log) (verdicts s.log s.range (length (sent s.log))) s.log s.steps s.memory (had_of s.log s.rows r) (step_places s r) (entry_places s r)) (below (length (sent s.log))))
    × IsTrue (list_all (precedes_by s.log s.memory (had_of s.log s.rows r) (entry_places s r)) (below (length s.log)))
parts s t r p =
    both _ _ (tested_below (is_ordered_by (requests s.log) (verdicts s.log s.range (length (sent s.log))) s.log s.rows s.steps s.memory) (length (sent s.log)) t.0 r p)

order-from : (s : Session) → IsTested s → KeepsOrder s
order-from s t = record {
  records = λ r i p q. subst (λ b. IsTrue b) (same_record s r i) (tested_below _ (length (sent s.log)) (parts s t r p).0 i q);
  client = λ i p. tested_below _ (length (sent s.log)) t.1 i p;
  events = λ r n p q. subst (λ b. IsTrue b) (same_event s r n q) (tested_below _ (length s.log) (parts s t r p).1 n q);
}

order-tests : (s : Session) → KeepsOrder s → IsTested s
order-tests s h = (
  all_below-from _ (length (sent s.log)) (λ r p. and-from _ _
      (all_below-from _ (length (sent s.log)) (λ i q. subst (λ b. IsTrue b) (sym (same_record s r i)) (h.records r i p q)))
      (all_below-from _ (length s.log) (λ n q. subst (λ b. IsTrue b) (sym (same_event s r n q)) (h.events r n p q)))),
  all_below-from _ (length (sent s.log)) h.client,
)

pub order_is_tested : (s : Session) → IsTrue (is_order_kept (requests s.log) (verdicts s.log s.range (length (sent s.log))) s.log s.rows s.steps s.memory) ↔ KeepsOrder s
order_is_tested s = (λ t. order-from s (both _ _ t), λ h. let t : IsTested s = order-tests s h in and-from _ _ t.0 t.1)
