-- The next record was judged, and did to its buffer what taking it does.
use Rattle.std.proofs.Common.{◌≡◌, ℕ, ◌+◌, ◌≤◌, ◌==◌, not, ◌&&◌, List, [], ◌∷◌, ◌++◌, length, take, Option, Some, None, MatchOption, refl, sym, ap, subst, ◌∙◌, arith}
use Rattle.std.specs.Option.{is_some}
use Rattle.host_block.specs.declared.range.Range.{Range}
use Rattle.host_frames.specs.{SeenPages}
use Rattle.host_record.specs.declared.request.Request.{Request}
use Rattle.host_record.specs.{opcode, is_close}
use Rattle.host_model.specs.{MemEntry, judged, is_accepted}
use Rattle.host_memory.specs.{MemoryPlan, standing_in, page_count_of, ArePagesOf, pins_on, events}
use Rattle.host_log.specs.{Continues}
use Rattle.host_turn.specs.{number, seen_by, fixed_part}
use Rattle.host_intake.specs.{ArePagesClosed, GivesSeenPages, Taking, place_of, request_in, IsForAdmissions, MemorySeat, AreTaken, judged_on, left_by, made_for, made_under, under}
use Rattle.host_intake.proofs.Judging.{hand_of, taken_longer, taken_one}

-- what is known of the admissions' seat once its memory is known
pub plan_of_seat : (records : ℕ) (seat : MemorySeat) (plan : MemoryPlan) → fixed_part seat ≡ Some plan → IsForAdmissions records seat → (number seat ≡ plan.limits.hands + 1) × (records ≤ plan.limits.records)
plan_of_seat records seat plan e m = subst (λ (o : Option MemoryPlan). MatchOption o ⊥ (λ plan. (number seat ≡ plan.limits.hands + 1) × (records ≤ plan.limits.records))) e m

module _ (part : Range) (n : ℕ) (old seen new : List MemEntry) (ts : List Taking) (t : Taking) (r : Request) (i : ℕ) (named : r ≡ request_in t) (placed : i ≡ place_of t) where
  pub taken_next : AreTaken part n old ts → Continues hand_of n old seen → place_of t ≡ length ts → t.seen ≡ length seen → t.envelope.memory_front ≤ length seen
      → t.verdict ≡ judged part (standing_in r.vmoid i (events seen)) r
      → t.waits ≡ (is_accepted t.verdict && is_close (opcode r) && not (pins_on r.vmoid (events seen) == 0))
      → new ≡ seen ++ under n (made_under t.verdict (made_for (opcode r) i r.vmoid t.hand t.waits))
      → AreTaken part n new (ts ++ t ∷ [])
  taken_next k more next at front verdict waits is =
      let v : t.verdict ≡ judged part (standing_in (request_in t).vmoid (place_of t) (events seen)) (request_in t) =
      subst (λ (j : ℕ). t.verdict ≡ judged part (standing_in (request_in t).vmoid j (events seen)) (request_in t)) placed
      (subst (λ (q : Request). t.verdict ≡ judged part (standing_in q.vmoid i (events seen)) q) named verdict) in
      let w : t.waits ≡ (is_accepted t.verdict && is_close (opcode (request_in t)) && not (pins_on (request_in t).vmoid (events seen) == 0)) =
      subst (λ (q : Request). t.waits ≡ (is_accepted t.verdict && is_close (opcode q) && not (pins_on q.vmoid (events seen) == 0))) named waits in
      let l : new ≡ seen ++ left_by n t =
      subst (λ (j : ℕ). new ≡ seen ++ under n (made_under t.verdict (made_for (opcode (request_in t)) j (request_in t).vmoid t.hand t.waits))) placed
      (subst (λ (q : Request). new ≡ seen ++ under n (made_under t.verdict (made_for (opcode q) i q.vmoid t.hand t.waits))) named is) in
      subst (λ (w : List MemEntry). AreTaken part n w (ts ++ t ∷ [])) (sym l)
      (taken_one part n seen ts t (taken_longer part n old seen ts more k) next at (let a = at in omega arith) v w)

take_begin : (xs ys zs : List MemEntry) → ys ≡ xs ++ zs → take (length xs) ys ≡ xs
take_begin xs ys zs e = ap (λ l. take (length xs) l) e ∙ front xs zs
  where
    front : (xs zs : List MemEntry) → take (length xs) (xs ++ zs) ≡ xs
    front [] zs = refl
    front (x ∷ xs) zs = ap (λ l. x ∷ l) (front xs zs)

pub pages_next : (seat : MemorySeat) (plan : MemoryPlan) (seen left : List MemEntry) (t : Taking) (r : Request) (pages : Option SeenPages) → r ≡ request_in t → fixed_part seat ≡ Some plan → t.seen ≡ length seen → seen_by seat ≡ seen ++ left
    → is_some pages ≡ (is_accepted t.verdict && is_close (opcode r) && not t.waits)
    → MatchOption pages (Unit {0}) (λ p. ArePagesOf plan.pool plan.limits.size (events seen) r.vmoid (page_count_of r.vmoid (events seen)) p)
    → GivesSeenPages seat t pages
pages_next seat plan seen left t r pages named fixed at is some closed =
    (subst (λ (q : Request). is_some pages ≡ (is_accepted t.verdict && is_close (opcode q) && not t.waits)) named some, of_pages pages closed)
  where
    same : judged_on (seen_by seat) t ≡ events seen
    same = ap events (ap (λ n. take n (seen_by seat)) at ∙ take_begin seen (seen_by seat) left is)

    of_pages : (pages : Option SeenPages) → MatchOption pages (Unit {0}) (λ p. ArePagesOf plan.pool plan.limits.size (events seen) r.vmoid (page_count_of r.vmoid (events seen)) p) → MatchOption pages (Unit {0}) (λ p. ArePagesClosed seat t p)
    of_pages None m = tt
    of_pages (Some p) m =
        subst (λ (o : Option MemoryPlan). MatchOption o ⊥ (λ plan. let v = (request_in t).vmoid in let h = judged_on (seen_by seat) t in ArePagesOf plan.pool plan.limits.size h v (page_count_of v h) p)) (sym fixed)
        (subst (λ h. ArePagesOf plan.pool plan.limits.size h (request_in t).vmoid (page_count_of (request_in t).vmoid h) p) (sym same)
        (subst (λ (q : Request). ArePagesOf plan.pool plan.limits.size (events seen) q.vmoid (page_count_of q.vmoid (events seen)) p) named m))
