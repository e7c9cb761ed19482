-- No answer is handed on more often than it was made due.
use Rattle.std.proofs.Common.{◌≡◌, ℕ, zero, suc, ◌+◌, ◌<◌, ◌≤◌, ◌==◌, Bool, true, false, ◌||◌, cond, List, [], ◌∷◌, ◌++◌, length, filter, filter_map, map, drop, get_or, Option, None, refl, sym, ap, ◌∙◌, arith, append-nil, append_assoc}
use Rattle.std.specs.List.{cons_option, list_any, slice_get}
use Rattle.std.proofs.lemmas.List.{drop-drop, length-map}
use Rattle.std.proofs.lemmas.List.Elements.{filter_map-append}
use Rattle.std.proofs.lemmas.List.Folds.{list_any-append}
use Rattle.host_intake.specs.{IntakeEntry, Took, Landed, Passed, Turned, Landing, landings, maker_of, is_aborted_phase, is_passed, kept_by, kept_slips, turn_of, turns, was_aborted}
use Rattle.host_model.specs.{count, map_after}
use Rattle.host_rings.specs.{Slip, AllBelow, ComeFrom, Marked, slips_sent_by, slips}
use Rattle.host_session.specs.{SessionHand, handed_by, slip_by, slip_in}
use Rattle.host_session.proofs.Snoc.{found_none, found_one}
use Rattle.host_memory.proofs.Pushed.{filter_add, filter_skip}
use Rattle.session_law.specs.{PushedAsTold}
use Rattle.session_law.proofs.Sums.{bit, count_both, count_one, count_option, hits, only_at_one, sum_below, sum_both, sum_few, sum_none, sum_one, sum_one_few, sum_same}

-- the answers that records' ends made due
abbrev pub answers_of : List Landing → List Slip
answers_of ls = filter_map (λ l. l.answer) ls

-- the answer that an entry made due
abbrev pub made_due : IntakeEntry → Option Slip
made_due (Landed hand index end answer kept) = answer
made_due _ = None

module _ (p : Slip → Bool) where
  -- ---- by one hand, or by any

  some_is : (b : Bool) (o : Option Slip) → hits p (cond b o None) ≡ cond b (hits p o) 0
  some_is true o = refl
  some_is false o = refl

  handed_is : (n : ℕ) (before : List IntakeEntry) (e : IntakeEntry) → hits p (slip_by n before e) ≡ only_at_one (maker_of e) (hits p (slip_in before e)) n
  handed_is n before e = some_is (maker_of e == n) (slip_in before e)

  all_hands : (n : ℕ) (before es : List IntakeEntry) → sum_below n (λ k. count p (map_after (slip_by k) before es)) ≤ count p (map_after slip_in before es)
  all_hands n before [] = let z = sum_none n in omega arith
  all_hands n before (e ∷ es) =
      let c : ℕ = hits p (slip_in before e) in
      let split : sum_below n (λ k. count p (map_after (slip_by k) before (e ∷ es))) ≡ sum_below n (λ k. only_at_one (maker_of e) c k + count p (map_after (slip_by k) (before ++ e ∷ []) es)) =
      sum_same n (λ k. count p (map_after (slip_by k) before (e ∷ es))) (λ k. only_at_one (maker_of e) c k + count p (map_after (slip_by k) (before ++ e ∷ []) es))
      (λ k _. count_option p (slip_by k before e) (map_after (slip_by k) (before ++ e ∷ []) es) ∙ ap (λ x. x + count p (map_after (slip_by k) (before ++ e ∷ []) es)) (handed_is k before e)) in
      let both : sum_below n (λ k. only_at_one (maker_of e) c k + count p (map_after (slip_by k) (before ++ e ∷ []) es)) ≡ sum_below n (only_at_one (maker_of e) c) + sum_below n (λ k. count p (map_after (slip_by k) (before ++ e ∷ []) es)) =
      sum_both n (only_at_one (maker_of e) c) (λ k. count p (map_after (slip_by k) (before ++ e ∷ []) es)) in
      let one : sum_below n (only_at_one (maker_of e) c) ≤ c = sum_one_few n (maker_of e) c in
      let rest : sum_below n (λ k. count p (map_after (slip_by k) (before ++ e ∷ []) es)) ≤ count p (map_after slip_in (before ++ e ∷ []) es) = all_hands n (before ++ e ∷ []) es in
      let whole : count p (map_after slip_in before (e ∷ es)) ≡ c + count p (map_after slip_in (before ++ e ∷ []) es) = count_option p (slip_in before e) (map_after slip_in (before ++ e ∷ []) es) in
      omega (arith, split, both, one, rest, whole)

  -- ---- what is kept

  first_of : (l : List Slip) → hits p (slice_get l 0) + count p (drop 1 l) ≡ count p l
  first_of [] = refl
  first_of (x ∷ l) = sym (count_one p x l)

  drop_few : (n : ℕ) (xs ys : List Slip) → count p (drop n (xs ++ ys)) ≤ count p (drop n xs) + count p ys
  drop_few zero xs ys = omega (arith, count_both p xs ys)
  drop_few (suc n) [] ys = dropped (suc n) ys
    where
      dropped : (n : ℕ) (ys : List Slip) → count p (drop n ys) ≤ 0 + count p ys
      dropped zero ys = omega arith
      dropped (suc n) [] = omega arith
      dropped (suc n) (y ∷ ys) = let r = dropped n ys in omega (arith, count_one p y ys, r)
  drop_few (suc n) (x ∷ xs) ys = drop_few n xs ys

  module _ (before : List IntakeEntry) where
    abbrev kept_in : Bool → ℕ → List Slip → List Slip
    kept_in aborted n l = cond aborted [] (drop n l)

    same_kept : (e : IntakeEntry) → turn_of e ≡ None → is_passed e ≡ false → kept_by e ≡ None → kept_slips (before ++ e ∷ []) ≡ kept_slips before
    same_kept e t q k =
        let a : was_aborted (before ++ e ∷ []) ≡ was_aborted before = ap (list_any is_aborted_phase) (found_none turn_of before e t) in
        let n : count is_passed (before ++ e ∷ []) ≡ count is_passed before = ap length (filter_skip is_passed before e q) in
        let l : filter_map kept_by (before ++ e ∷ []) ≡ filter_map kept_by before = found_none kept_by before e k in
        ap (λ b. cond b [] (drop (count is_passed (before ++ e ∷ [])) (filter_map kept_by (before ++ e ∷ [])))) a
        ∙ (ap (λ m. cond (was_aborted before) [] (drop m (filter_map kept_by (before ++ e ∷ [])))) n
        ∙ ap (λ m. cond (was_aborted before) [] (drop (count is_passed before) m)) l)

    -- an entry hands on or keeps no more than was kept and than it made due
    step : (e : IntakeEntry) → hits p (slip_in before e) + count p (kept_slips (before ++ e ∷ [])) ≤ count p (kept_slips before) + hits p (made_due e)
    step (Took hand envelope verdict waits seen) = let k = ap (count p) (same_kept (Took hand envelope verdict waits seen) refl refl refl) in omega arith
    step (Landed hand index end answer false) = let k = ap (count p) (same_kept (Landed hand index end answer false) refl refl refl) in omega arith
    step (Landed hand index end answer true) =
        let e : IntakeEntry = Landed hand index end answer true in
        let a : was_aborted (before ++ e ∷ []) ≡ was_aborted before = ap (list_any is_aborted_phase) (found_none turn_of before e refl) in
        let n : count is_passed (before ++ e ∷ []) ≡ count is_passed before = ap length (filter_skip is_passed before e refl) in
        let l : filter_map kept_by (before ++ e ∷ []) ≡ filter_map kept_by before ++ filter_map kept_by (e ∷ []) = filter_map-append kept_by before (e ∷ []) in
        let whole : kept_slips (before ++ e ∷ []) ≡ kept_in (was_aborted before) (count is_passed before) (filter_map kept_by before ++ cons_option answer []) =
        ap (λ b. cond b [] (drop (count is_passed (before ++ e ∷ [])) (filter_map kept_by (before ++ e ∷ [])))) a
        ∙ (ap (λ m. cond (was_aborted before) [] (drop m (filter_map kept_by (before ++ e ∷ [])))) n
        ∙ ap (λ m. cond (was_aborted before) [] (drop (count is_passed before) m)) l) in
        let few : count p (kept_in (was_aborted before) (count is_passed before) (filter_map kept_by before ++ cons_option answer [])) ≤ count p (kept_slips before) + count p (cons_option answer []) =
        either (was_aborted before) (count is_passed before) (filter_map kept_by before) (cons_option answer []) in
        let one : count p (cons_option answer []) ≡ hits p answer + 0 = count_option p answer [] in
        let c = ap (count p) whole in
        omega (arith, c, few, one)
      where
        either : (b : Bool) (n : ℕ) (xs ys : List Slip) → count p (cond b [] (drop n (xs ++ ys))) ≤ count p (cond b [] (drop n xs)) + count p ys
        either true n xs ys = omega arith
        either false n xs ys = drop_few n xs ys
    step (Passed hand) =
        let e : IntakeEntry = Passed hand in
        let a : was_aborted (before ++ e ∷ []) ≡ was_aborted before = ap (list_any is_aborted_phase) (found_none turn_of before e refl) in
        let n : count is_passed (before ++ e ∷ []) ≡ count is_passed before + 1 = ap length (filter_add is_passed before e refl) ∙ one_longer (filter is_passed before) e in
        let l : filter_map kept_by (before ++ e ∷ []) ≡ filter_map kept_by before = found_none kept_by before e refl in
        let whole : kept_slips (before ++ e ∷ []) ≡ kept_in (was_aborted before) (count is_passed before + 1) (filter_map kept_by before) =
        ap (λ b. cond b [] (drop (count is_passed (before ++ e ∷ [])) (filter_map kept_by (before ++ e ∷ [])))) a
        ∙ (ap (λ m. cond (was_aborted before) [] (drop m (filter_map kept_by (before ++ e ∷ [])))) n
        ∙ ap (λ m. cond (was_aborted before) [] (drop (count is_passed before + 1) m)) l) in
        let c = ap (count p) whole in
        let few = either (was_aborted before) (count is_passed before) (filter_map kept_by before) in
        omega (arith, c, few)
      where
        one_longer : (xs : List IntakeEntry) (x : IntakeEntry) → length (xs ++ x ∷ []) ≡ length xs + 1
        one_longer [] x = omega arith
        one_longer (y ∷ ys) x = let r = one_longer ys x in omega arith

        either : (b : Bool) (n : ℕ) (xs : List Slip) → hits p (slice_get (cond b [] (drop n xs)) 0) + count p (cond b [] (drop (n + 1) xs)) ≤ count p (cond b [] (drop n xs)) + 0
        either true n xs = omega arith
        either false n xs = let d : count p (drop 1 (drop n xs)) ≡ count p (drop (n + 1) xs) = ap (count p) (drop-drop 1 n xs) in omega (arith, d, first_of (drop n xs))
    step (Turned hand phase) =
        let e : IntakeEntry = Turned hand phase in
        let a : was_aborted (before ++ e ∷ []) ≡ (was_aborted before || (is_aborted_phase phase || false)) = ap (list_any is_aborted_phase) (found_one turn_of before e phase refl) ∙ list_any-append is_aborted_phase (turns before) (phase ∷ []) in
        let n : count is_passed (before ++ e ∷ []) ≡ count is_passed before = ap length (filter_skip is_passed before e refl) in
        let l : filter_map kept_by (before ++ e ∷ []) ≡ filter_map kept_by before = found_none kept_by before e refl in
        let whole : kept_slips (before ++ e ∷ []) ≡ kept_in (was_aborted before || (is_aborted_phase phase || false)) (count is_passed before) (filter_map kept_by before) =
        ap (λ b. cond b [] (drop (count is_passed (before ++ e ∷ [])) (filter_map kept_by (before ++ e ∷ [])))) a
        ∙ (ap (λ m. cond (was_aborted before || (is_aborted_phase phase || false)) [] (drop m (filter_map kept_by (before ++ e ∷ [])))) n
        ∙ ap (λ m. cond (was_aborted before || (is_aborted_phase phase || false)) [] (drop (count is_passed before) m)) l) in
        let c = ap (count p) whole in
        let few = either (was_aborted before) (is_aborted_phase phase) (drop (count is_passed before) (filter_map kept_by before)) in
        omega (arith, c, few)
      where
        either : (b d : Bool) (xs : List Slip) → count p (cond (b || (d || false)) [] xs) ≤ count p (cond b [] xs)
        either true d xs = omega arith
        either false true xs = omega arith
        either false false xs = omega arith

  due_step : (e : IntakeEntry) (es : List IntakeEntry) → hits p (made_due e) + count p (answers_of (landings es)) ≡ count p (answers_of (landings (e ∷ es)))
  due_step (Took hand envelope verdict waits seen) es = omega arith
  due_step (Landed hand index end answer kept) es = sym (count_option p answer (answers_of (landings es)))
  due_step (Passed hand) es = omega arith
  due_step (Turned hand phase) es = omega arith

  all_due : (before es : List IntakeEntry) → count p (map_after slip_in before es) + count p (kept_slips (before ++ es)) ≤ count p (kept_slips before) + count p (answers_of (landings es))
  all_due before [] = let e = ap (λ l. count p (kept_slips l)) (append-nil before) in omega arith
  all_due before (e ∷ es) =
      let same : (before ++ e ∷ []) ++ es ≡ before ++ e ∷ es = append_assoc before (e ∷ []) es in
      let k : count p (kept_slips ((before ++ e ∷ []) ++ es)) ≡ count p (kept_slips (before ++ e ∷ es)) = ap (λ l. count p (kept_slips l)) same in
      let rest = all_due (before ++ e ∷ []) es in
      let one = step before e in
      let c : count p (map_after slip_in before (e ∷ es)) ≡ hits p (slip_in before e) + count p (map_after slip_in (before ++ e ∷ []) es) = count_option p (slip_in before e) (map_after slip_in (before ++ e ∷ []) es) in
      omega (arith, k, rest, one, c, due_step e es)

  pub handed_due : (es : List IntakeEntry) → count p (map_after slip_in [] es) ≤ count p (answers_of (landings es))
  handed_due es = let a = all_due [] es in omega arith

  -- ---- what came through the ring

  all_sent : (n : ℕ) (ms : List Marked) → AllBelow n ms → sum_below n (λ k. count p (slips_sent_by k ms)) ≡ count p (slips ms)
  all_sent n [] b = sum_none n
  all_sent n (m ∷ ms) b =
      let c : ℕ = bit (p m.1) in
      let split : sum_below n (λ k. count p (slips_sent_by k (m ∷ ms))) ≡ sum_below n (λ k. only_at_one m.0 c k + count p (slips_sent_by k ms)) =
      sum_same n (λ k. count p (slips_sent_by k (m ∷ ms))) (λ k. only_at_one m.0 c k + count p (slips_sent_by k ms)) (λ k _. one (m.0 == k) (slips_sent_by k ms)) in
      let both = sum_both n (only_at_one m.0 c) (λ k. count p (slips_sent_by k ms)) in
      let first = sum_one n m.0 c b.0 in
      let rest = all_sent n ms b.1 in
      omega (arith, split, both, first, rest, count_one p m.1 (slips ms))
    where
      one : (b : Bool) (l : List Slip) → count p (cond b (m.1 ∷ l) l) ≡ cond b (bit (p m.1)) 0 + count p l
      one true l = count_one p m.1 l
      one false l = omega arith

  prefix_few : (xs ys zs : List Slip) → xs ++ ys ≡ zs → count p xs ≤ count p zs
  prefix_few xs ys zs e = let c = ap (count p) e in omega (arith, c, count_both p xs ys)

  pub taken_due : (hands : List SessionHand) (es : List IntakeEntry) (taken : List Slip) → ComeFrom (map (λ (hand : SessionHand). hand.sender.pushed) hands) taken → PushedAsTold hands es
      → count p taken ≤ count p (answers_of (landings es))
  taken_due hands es taken from told =
      let n : ℕ = length hands in
      let long : length (map (λ (hand : SessionHand). hand.sender.pushed) hands) ≡ n = length-map hands (λ (hand : SessionHand). hand.sender.pushed) in
      let ms : List Marked = from.0 in
      let below : AllBelow n ms = subst_below (length (map (λ (hand : SessionHand). hand.sender.pushed) hands)) n ms long from.2 in
      let a : count p taken ≡ count p (slips ms) = ap (count p) (sym from.1) in
      let b : sum_below n (λ k. count p (slips_sent_by k ms)) ≡ count p (slips ms) = all_sent n ms below in
      let c : sum_below n (λ k. count p (slips_sent_by k ms)) ≤ sum_below n (λ k. count p (handed_by k es)) =
      sum_few n (λ k. count p (slips_sent_by k ms)) (λ k. count p (handed_by k es)) (λ k lt. each k lt) in
      omega (arith, a, b, c, all_hands n [] es, handed_due es)
    where
      subst_below : (m n : ℕ) (ms : List Marked) → m ≡ n → AllBelow m ms → AllBelow n ms
      subst_below m n [] e b = b
      subst_below m n (x ∷ ms) e b = (let l = b.0 in omega arith, subst_below m n ms e b.1)

      pushed_at : (xs : List SessionHand) (k : ℕ) → k < length xs → (x : SessionHand) × (get_or xs k x ≡ x) × (get_or (map (λ (hand : SessionHand). hand.sender.pushed) xs) k x.sender.pushed ≡ x.sender.pushed)
      pushed_at [] k lt = absurd (omega arith)
      pushed_at (x ∷ xs) zero lt = (x, refl, refl)
      pushed_at (x ∷ xs) (suc k) lt = pushed_at xs k (omega arith)

      each : (k : ℕ) → k < length hands → count p (slips_sent_by k from.0) ≤ count p (handed_by k es)
      each k lt =
          let r = pushed_at hands k lt in
          let x : SessionHand = r.0 in
          let is : x.sender.pushed ≡ handed_by k es = ap (λ (hand : SessionHand). hand.sender.pushed) (sym r.1) ∙ told k x lt in
          let pre = from.3 k x.sender.pushed (let e = length-map hands (λ (hand : SessionHand). hand.sender.pushed) in omega arith) in
          prefix_few (slips_sent_by k from.0) pre.0 (handed_by k es) (pre.1 ∙ (r.2 ∙ is))
