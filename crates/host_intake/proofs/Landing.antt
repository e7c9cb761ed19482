-- What is true of an intake stays true once a record ended.
use Rattle.std.proofs.Common.{◌≡◌, ◌≢◌, ◌⊎◌, inl, inr, ℕ, zero, suc, ◌+◌, ◌<◌, ◌==◌, Bool, true, false, not, ◌&&◌, nat_lt, cond, List, [], ◌∷◌, ◌++◌, length, filter, map, reverse, Option, Some, None, MatchOption, refl, sym, ap, subst, ◌∙◌, arith, length-append}
use Rattle.std.specs.Prelude.{slice_get, unwrap_or}
use Rattle.std.specs.List.{list_any}
use Rattle.std.proofs.lemmas.Bool.{ltb-true, ne_eqb, eqb-false}
use Rattle.std.proofs.lemmas.Bool.Decides.{eqb_tells}
use Rattle.std.proofs.lemmas.List.{map-append, reverse-append}
use Rattle.std.proofs.lemmas.List.Folds.{list_all-append}
use Rattle.atomic_table.specs.Seated.{TableId}
use Rattle.host_model.specs.{below, count}
use Rattle.host_group.specs.{CellSeat, Row, IsAdmittingOf, seat_cells, admitted, back, next}
use Rattle.host_memory.proofs.Pushed.{filter_skip, filter_add}
use Rattle.host_intake.specs.{Waiting, Taking, Landing, requests_of, AreLanded, AreInCells, IsAnswered, backs, is_by_taker, is_lander, is_member_at, is_of_member, is_right_out, landing_ending, member_at, row_ending, Ending, is_open, is_out, AreWaiting, IsRecordWaiting, is_waiting_at}
use Rattle.host_intake.proofs.Counting.{but_for, count_cut, count_agree}
use Rattle.host_intake.proofs.Pushing.{open_landed}
use Rattle.host_intake.proofs.Removing.{get_snoc}
use Rattle.host_log.proofs.Bools.{or_left, or_right, and_end, and_left, and_right}

pub match_map : {A : Type 0} (P Q : A → Type 0) (o : Option A) → ((x : A) → P x → Q x) → MatchOption o ⊥ P → MatchOption o ⊥ Q
match_map P Q None f m = m
match_map P Q (Some x) f m = f x m

module _ (ts : List Taking) (ls : List Landing) (m : Landing) (flying : is_out m.index (length ts) ls ≡ true) where
  is_in : m.index < length ts
  is_in = ltb-true m.index (length ts) (and_left (nat_lt m.index (length ts)) (is_open ls m.index) flying)

  is_open_yet : is_open ls m.index ≡ true
  is_open_yet = and_right (nat_lt m.index (length ts)) (is_open ls m.index) flying

  cut : count (is_open ls) (below (length ts)) ≡ count (is_open (ls ++ m ∷ [])) (below (length ts)) + 1
  cut =
      let c = count_cut (is_open ls) m.index (length ts) is_in is_open_yet in
      let s = count_agree (is_open (ls ++ m ∷ [])) (but_for m.index (is_open ls)) 0 (length ts) (λ j lo hi. open_landed ls m j) in omega arith

  -- fewer records ended than were taken
  pub less_ended : AreLanded ts ls → length ls < length ts
  less_ended k = let o = k.once in let c = cut in omega arith

  -- the record that ended was taken, and ended once
  pub landed_more : AreLanded ts ls → is_lander m.hand m.index ts ≡ true → IsAnswered (requests_of ts) m → AreLanded ts (ls ++ m ∷ [])
  landed_more k lander answered = record {
    by_taker = list_all-append (is_by_taker ts) ls (m ∷ []) ∙ (ap (λ b. b && (is_by_taker ts m && true)) k.by_taker ∙ ap (λ b. b && true) lander);
    once = let o = k.once in let c = cut in let n = length-append ls (m ∷ []) in omega arith;
    answers = λ i l e. one i l (get_snoc ls m i l e);
  }
    where
      one : (i : ℕ) (l : Landing) → (slice_get ls i ≡ Some l) ⊎ ((i ≡ length ls) × (m ≡ l)) → IsAnswered (requests_of ts) l
      one i l (inl e) = k.answers i l e
      one i l (inr e) = subst (λ (z : Landing). IsAnswered (requests_of ts) z) e.1 answered

  -- a close that waits is of another record
  pub waiting_more : (cells : TableId) (ws : List Waiting) → list_any (is_waiting_at m.index) ws ≡ false → AreWaiting cells ts ls ws → AreWaiting cells ts (ls ++ m ∷ []) ws
  waiting_more cells ws none k = record {
    each = λ n w e. match_map (λ t. IsRecordWaiting cells ts ls w t) (λ t. IsRecordWaiting cells ts (ls ++ m ∷ []) w t) (slice_get ts w.envelope.index) (λ t x. still w (apart ws none n w e) t x) (k.each n w e);
    apart = k.apart;
  }
    where
      apart : (ws : List Waiting) → list_any (is_waiting_at m.index) ws ≡ false → (n : ℕ) (w : Waiting) → slice_get ws n ≡ Some w → is_waiting_at m.index w ≡ false
      apart [] none n w e = absurd (none_get n e)
        where
          none_get : (n : ℕ) → slice_get [] n ≡ Some w → ⊥
          none_get zero e = cc
          none_get (suc n) e = cc
      apart (x ∷ xs) none zero w e = subst (λ (z : Waiting). is_waiting_at m.index z ≡ false) (ap (λ (o : Option Waiting). unwrap_or o x) e) (or_left (is_waiting_at m.index x) (list_any (is_waiting_at m.index) xs) none)
      apart (x ∷ xs) none (suc n) w e = apart xs (or_right (is_waiting_at m.index x) (list_any (is_waiting_at m.index) xs) none) n w e

      flip : (a b : ℕ) → (a == b) ≡ false → (b == a) ≡ false
      flip a b e = ne_eqb b a (λ z. absurd (eqb-false a b e (sym z)))

      still : (w : Waiting) → is_waiting_at m.index w ≡ false → (t : Taking) → IsRecordWaiting cells ts ls w t → IsRecordWaiting cells ts (ls ++ m ∷ []) w t
      still w other t x =
          let was = x.flying in let i = w.envelope.index in
          record {
            envelope = x.envelope;
            waits = x.waits;
            flying = ap (λ b. nat_lt i (length ts) && b) (open_landed ls m i) ∙ (ap (λ b. nat_lt i (length ts) && (is_open ls i && not b)) (flip i m.index other)
                ∙ (ap (λ b. b && (is_open ls i && true)) (and_left (nat_lt i (length ts)) (is_open ls i) was) ∙ ap (λ b. b && true) (and_right (nat_lt i (length ts)) (is_open ls i) was)));
            right = x.right;
          }

  -- ---- the cells

  module _ (q : CellSeat) (k : AreInCells ts ls q) where
    lone_same : is_member_at (requests_of ts) m.index ≡ false → (p : ℕ → Bool) (j : ℕ) → (p j && is_right_out (requests_of ts) (ls ++ m ∷ []) j) ≡ (p j && is_right_out (requests_of ts) ls j)
    lone_same lone p j = ap (λ b. p j && (is_member_at (requests_of ts) j && b)) (open_landed ls m j) ∙ ap (λ b. p j && b) (step j (eqb_tells m.index j))
      where
        step : (j : ℕ) → (((m.index == j) ≡ true) × (m.index ≡ j)) ⊎ (((m.index == j) ≡ false) × (m.index ≢ j))
            → (is_member_at (requests_of ts) j && (is_open ls j && not (m.index == j))) ≡ (is_member_at (requests_of ts) j && is_open ls j)
        step j (inl s) = let here : is_member_at (requests_of ts) j ≡ false = subst (λ (z : ℕ). is_member_at (requests_of ts) z ≡ false) s.1 lone in
            ap (λ b. b && (is_open ls j && not (m.index == j))) here ∙ ap (λ b. b && is_open ls j) (sym here)
        step j (inr s) = ap (λ b. is_member_at (requests_of ts) j && (is_open ls j && not b)) s.0 ∙ and_end (is_member_at (requests_of ts) j) (is_open ls j)

    -- a lone record ended
    pub cells_lone : is_member_at (requests_of ts) m.index ≡ false → AreInCells ts (ls ++ m ∷ []) q
    cells_lone lone = record {
      resting = k.resting;
      told = k.told;
      above = k.above;
      came_back = k.came_back ∙ ap (λ (z : List Landing). reverse (map landing_ending z)) (sym (filter_skip (is_of_member (requests_of ts)) ls m lone));
      of_members = k.of_members;
      out = λ p. let s = count_agree (λ j. p j && is_right_out (requests_of ts) (ls ++ m ∷ []) j) (λ j. p j && is_right_out (requests_of ts) ls j) 0 (length ts) (λ j lo hi. lone_same lone p j) in let o = k.out p in omega arith;
    }

    three : (a b c d : Bool) → (a && (b && (c && d))) ≡ ((a && (b && c)) && d)
    three true true c d = refl
    three true false c d = refl
    three false b c d = refl

    same_out : (p : ℕ → Bool) (j : ℕ) → (p j && is_right_out (requests_of ts) (ls ++ m ∷ []) j) ≡ but_for m.index (λ i. p i && is_right_out (requests_of ts) ls i) j
    same_out p j = ap (λ b. p j && (is_member_at (requests_of ts) j && b)) (open_landed ls m j) ∙ three (p j) (is_member_at (requests_of ts) j) (is_open ls j) (not (m.index == j))

    -- as one right comes back, one less is out
    member_out : is_member_at (requests_of ts) m.index ≡ true → (r : Row) → r.member.index ≡ m.index → (p : ℕ → Bool)
        → backs p (r ∷ back q) + count (λ i. p i && is_right_out (requests_of ts) (ls ++ m ∷ []) i) (below (length ts)) ≡ count (λ i. p i && is_member_at (requests_of ts) i) (below (length ts))
    member_out mem r at p =
        let o = k.out p in
        let s = count_agree (λ i. p i && is_right_out (requests_of ts) (ls ++ m ∷ []) i) (but_for m.index (λ i. p i && is_right_out (requests_of ts) ls i)) 0 (length ts) (λ j lo hi. same_out p j) in
        step (p m.index) refl o s
      where
        here : is_right_out (requests_of ts) ls m.index ≡ true
        here = ap (λ b. b && is_open ls m.index) mem ∙ is_open_yet

        back_on : p m.index ≡ true → backs p (r ∷ back q) ≡ suc (backs p (back q))
        back_on y = ap (λ b. length (cond b (r ∷ filter (λ (z : Row). p z.member.index) (back q)) (filter (λ (z : Row). p z.member.index) (back q)))) (ap p at ∙ y)

        back_off : p m.index ≡ false → backs p (r ∷ back q) ≡ backs p (back q)
        back_off y = ap (λ b. length (cond b (r ∷ filter (λ (z : Row). p z.member.index) (back q)) (filter (λ (z : Row). p z.member.index) (back q)))) (ap p at ∙ y)

        off_same : p m.index ≡ false → count (but_for m.index (λ i. p i && is_right_out (requests_of ts) ls i)) (below (length ts)) ≡ count (λ i. p i && is_right_out (requests_of ts) ls i) (below (length ts))
        off_same y = count_agree (but_for m.index (λ i. p i && is_right_out (requests_of ts) ls i)) (λ i. p i && is_right_out (requests_of ts) ls i) 0 (length ts) (λ j lo hi. one j (eqb_tells m.index j))
          where
            keep : (a b : Bool) → b ≡ false → (a && not b) ≡ a
            keep true b e = ap not e
            keep false b e = refl

            one : (j : ℕ) → (((m.index == j) ≡ true) × (m.index ≡ j)) ⊎ (((m.index == j) ≡ false) × (m.index ≢ j)) → but_for m.index (λ i. p i && is_right_out (requests_of ts) ls i) j ≡ (p j && is_right_out (requests_of ts) ls j)
            one j (inl s) = let off : p j ≡ false = subst (λ (z : ℕ). p z ≡ false) s.1 y in
                ap (λ b. (b && is_right_out (requests_of ts) ls j) && not (m.index == j)) off ∙ ap (λ b. b && is_right_out (requests_of ts) ls j) (sym off)
            one j (inr s) = keep (p j && is_right_out (requests_of ts) ls j) (m.index == j) s.0

        step : (b : Bool) → p m.index ≡ b → backs p (back q) + count (λ i. p i && is_right_out (requests_of ts) ls i) (below (length ts)) ≡ count (λ i. p i && is_member_at (requests_of ts) i) (below (length ts))
            → count (λ i. p i && is_right_out (requests_of ts) (ls ++ m ∷ []) i) (below (length ts)) ≡ count (but_for m.index (λ i. p i && is_right_out (requests_of ts) ls i)) (below (length ts))
            → backs p (r ∷ back q) + count (λ i. p i && is_right_out (requests_of ts) (ls ++ m ∷ []) i) (below (length ts)) ≡ count (λ i. p i && is_member_at (requests_of ts) i) (below (length ts))
        step true y o s = let c = count_cut (λ i. p i && is_right_out (requests_of ts) ls i) m.index (length ts) is_in (ap (λ b. b && is_right_out (requests_of ts) ls m.index) y ∙ here) in let n = back_on y in omega arith
        step false y o s = let c = off_same y in let n = back_off y in omega arith

    -- a member ended, and its right came back
    pub cells_member : is_member_at (requests_of ts) m.index ≡ true → (p : CellSeat) (r : Row) → IsAdmittingOf (seat_cells p) p → admitted p ≡ admitted q → next p ≡ next q → back p ≡ r ∷ back q
        → row_ending r ≡ landing_ending m → member_at (requests_of ts) m.index ≡ Some r.member → r.member.index ≡ m.index → AreInCells ts (ls ++ m ∷ []) p
    cells_member mem p r resting same above came is of at = record {
      resting = resting;
      told = same ∙ k.told;
      above = let a = k.above in omega arith;
      came_back = ap (λ (z : List Row). map row_ending z) came ∙ (ap (λ (z : Ending). z ∷ map row_ending (back q)) is ∙ (ap (λ (z : List Ending). landing_ending m ∷ z) k.came_back
          ∙ (sym (reverse-append (map landing_ending (filter (is_of_member (requests_of ts)) ls)) (landing_ending m ∷ []))
          ∙ (ap (λ (z : List Ending). reverse z) (sym (map-append landing_ending (filter (is_of_member (requests_of ts)) ls) (m ∷ [])))
          ∙ ap (λ (z : List Landing). reverse (map landing_ending z)) (sym (filter_add (is_of_member (requests_of ts)) ls m mem))))));
      of_members = λ n z e. one n z (subst (λ (l : List Row). slice_get l n ≡ Some z) came e);
      out = λ f. subst (λ (l : List Row). backs f l + count (λ i. f i && is_right_out (requests_of ts) (ls ++ m ∷ []) i) (below (length ts)) ≡ count (λ i. f i && is_member_at (requests_of ts) i) (below (length ts))) (sym came) (member_out mem r at f);
    }
      where
        one : (n : ℕ) (z : Row) → slice_get (r ∷ back q) n ≡ Some z → (z.member.index < length ts) × (member_at (requests_of ts) z.member.index ≡ Some z.member)
        one zero z e = subst (λ (w : Row). (w.member.index < length ts) × (member_at (requests_of ts) w.member.index ≡ Some w.member)) (ap (λ (o : Option Row). unwrap_or o r) e) ((let b = is_in in omega arith), ap (λ j. member_at (requests_of ts) j) at ∙ of)
        one (suc n) z e = k.of_members n z e
