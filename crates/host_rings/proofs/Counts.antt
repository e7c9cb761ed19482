-- No slip was taken more often than all senders together pushed it.
use Rattle.std.proofs.Common.{◌≡◌, ◌⊎◌, inl, inr, ℕ, suc, ◌+◌, ◌<◌, ◌≤◌, Bool, true, false, cond, eqb, leb, List, [], ◌∷◌, ◌++◌, length, map, sym, refl, ap, ◌∙◌, subst, ⊎_elim, arith}
use Rattle.std.specs.List.{count_by, sum_by}
use Rattle.std.proofs.lemmas.List.Sums.{sum_by-cons, sum_by-append}
use Rattle.std.proofs.lemmas.Bool.{eq-eqb, ne_eqb, le-leb, lt-leb, cases_order}
use mathlib.Core.Option.{some}
use lib.ListN.{get_elem?}
use Rattle.host_rings.specs.{Slip, Marked, slips, slips_sent_by, AllBelow, ComeFrom, SlipSenderState}
use Rattle.host_block.specs.{IsPrefix}
use Rattle.host_rings.proofs.Lists.{at_each}

module _ (test : Slip → Bool) where
  abbrev one : Slip → ℕ
  one x = cond (test x) 1 0

  abbrev tally : List Slip → ℕ
  tally [] = 0
  tally (x ∷ xs) = one x + tally xs

  -- the slips of the senders from o on
  abbrev from_on : ℕ → List Marked → ℕ
  from_on o [] = 0
  from_on o (m ∷ ms) = cond (leb o m.0) (one m.1) 0 + from_on o ms

  tally_is : (xs : List Slip) → tally xs ≡ count_by test xs
  tally_is [] = refl
  tally_is (x ∷ xs) = ap (λ n. one x + n) (tally_is xs) ∙ sym (sum_by-cons one x xs)

  all_from : (ms : List Marked) → from_on 0 ms ≡ tally (slips ms)
  all_from [] = refl
  all_from (m ∷ ms) = ap (λ b. cond b (one m.1) 0 + from_on 0 ms) (le-leb 0 m.0 (omega arith)) ∙ ap (λ n. one m.1 + n) (all_from ms)

  piece : (x : Slip) (a b c : Bool) (s : List Slip) (r q : ℕ) → r ≡ tally s + q
      → ((a ≡ false) × (b ≡ false) × (c ≡ false)) ⊎ (((a ≡ true) × (b ≡ true) × (c ≡ false)) ⊎ ((a ≡ true) × (b ≡ false) × (c ≡ true)))
      → cond a (one x) 0 + r ≡ tally (cond b (x ∷ s) s) + (cond c (one x) 0 + q)
  piece x a b c s r q e h = ⊎_elim (λ (t : (a ≡ false) × (b ≡ false) × (c ≡ false)). rw (t.0, t.1, t.2) (omega arith))
      (λ (k : ((a ≡ true) × (b ≡ true) × (c ≡ false)) ⊎ ((a ≡ true) × (b ≡ false) × (c ≡ true))). ⊎_elim (λ (t : (a ≡ true) × (b ≡ true) × (c ≡ false)). rw (t.0, t.1, t.2) (omega arith)) (λ (t : (a ≡ true) × (b ≡ false) × (c ≡ true)). rw (t.0, t.1, t.2) (omega arith)) k) h

  places : (o n : ℕ)
      → ((leb o n ≡ false) × (eqb n o ≡ false) × (leb (suc o) n ≡ false)) ⊎ (((leb o n ≡ true) × (eqb n o ≡ true) × (leb (suc o) n ≡ false)) ⊎ ((leb o n ≡ true) × (eqb n o ≡ false) × (leb (suc o) n ≡ true)))
  places o n = ⊎_elim (λ (e : n ≡ o). inr (inl (le-leb o n (omega arith), eq-eqb n o e, lt-leb (suc o) n (omega arith))))
      (λ k. ⊎_elim (λ (l : n < o). inl (lt-leb o n l, ne_eqb n o (λ e. omega arith), lt-leb (suc o) n (omega arith)))
      (λ (l : o < n). inr (inr (le-leb o n (omega arith), ne_eqb n o (λ e. omega arith), le-leb (suc o) n l))) k) (cases_order n o)

  one_sender : (o : ℕ) (ms : List Marked) → from_on o ms ≡ tally (slips_sent_by o ms) + from_on (suc o) ms
  one_sender o [] = refl
  one_sender o (m ∷ ms) = piece m.1 (leb o m.0) (eqb m.0 o) (leb (suc o) m.0) (slips_sent_by o ms) (from_on o ms) (from_on (suc o) ms) (one_sender o ms) (places o m.0)

  none_from : (o : ℕ) (ms : List Marked) → AllBelow o ms → from_on o ms ≡ 0
  none_from o [] a = refl
  none_from o (m ∷ ms) a = ap (λ b. cond b (one m.1) 0 + from_on o ms) (lt-leb o m.0 a.0) ∙ (let e : from_on o ms ≡ 0 = none_from o ms a.1 in omega arith)

  fewer : (front whole : List Slip) → IsPrefix front whole → tally front ≤ count_by test whole
  fewer front whole p = let e = tally_is front in let f : count_by test whole ≡ count_by test (front ++ p.0) = ap (count_by test) (sym p.1) in omega (arith, sum_by-append one front p.0)

  bounded : (o : ℕ) (lists : List (List Slip)) (ms : List Marked) → AllBelow (o + length lists) ms
      → ((k : ℕ) (l : List Slip) → get_elem? lists k ≡ some l → IsPrefix (slips_sent_by (o + k) ms) l) → from_on o ms ≤ sum_by (count_by test) lists
  bounded o [] ms a p = let z : o + 0 ≡ o = omega arith in let e = none_from o ms (subst (λ n. AllBelow n ms) z a) in omega arith
  bounded o (l ∷ ls) ms a p = let z : o + suc (length ls) ≡ suc o + length ls = omega arith in
      let rest : from_on (suc o) ms ≤ sum_by (count_by test) ls = bounded (suc o) ls ms (subst (λ n. AllBelow n ms) z a)
      (λ k x e. let y : o + suc k ≡ suc o + k = omega arith in subst (λ n. IsPrefix (slips_sent_by n ms) x) y (p (suc k) x e)) in
      let z : o + 0 ≡ o = omega arith in let here : tally (slips_sent_by o ms) ≤ count_by test l = fewer (slips_sent_by o ms) l (subst (λ n. IsPrefix (slips_sent_by n ms) l) z (p 0 l refl)) in
      let e = one_sender o ms in let f : sum_by (count_by test) (l ∷ ls) ≡ count_by test l + sum_by (count_by test) ls = sum_by-cons (count_by test) l ls in omega arith

  sums : (senders : List SlipSenderState) → sum_by (count_by test) (map (λ s. s.pushed) senders) ≡ sum_by (λ s. count_by test s.pushed) senders
  sums [] = refl
  sums (s ∷ ss) = sum_by-cons (count_by test) s.pushed (map (λ s. s.pushed) ss) ∙ ap (λ n. count_by test s.pushed + n) (sums ss) ∙ sym (sum_by-cons (λ (s : SlipSenderState). count_by test s.pushed) s ss)

  pub at_most_pushed : (senders : List SlipSenderState) (taken : List Slip) → ComeFrom (map (λ s. s.pushed) senders) taken → count_by test taken ≤ sum_by (λ s. count_by test s.pushed) senders
  at_most_pushed senders taken c = let lists : List (List Slip) = map (λ s. s.pushed) senders in
      let z : 0 + length lists ≡ length lists = omega arith in
      let b : from_on 0 c.0 ≤ sum_by (count_by test) lists = bounded 0 lists c.0 (subst (λ n. AllBelow n c.0) (sym z) c.2) (λ k l e. let y : 0 + k ≡ k = omega arith in subst (λ n. IsPrefix (slips_sent_by n c.0) l) (sym y) (at_each (λ k p. IsPrefix (slips_sent_by k c.0) p) lists c.3 k l e)) in
      let e : from_on 0 c.0 ≡ count_by test taken = all_from c.0 ∙ ap tally c.1 ∙ tally_is taken in let f = sums senders in omega arith
