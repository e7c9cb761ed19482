-- What is true of the records taken, as one more is taken.
use Rattle.std.proofs.Common.{◌≡◌, ◌≢◌, ◌⊎◌, inl, inr, ℕ, zero, suc, ◌+◌, ◌≤◌, ◌<◌, ◌==◌, Bool, true, false, not, ◌&&◌, ◌||◌, nat_lt, cond, List, [], ◌∷◌, ◌++◌, length, filter, map, reverse, Option, Some, None, MatchOption, refl, sym, ap, subst, ◌∙◌, arith, length-append, append-nil}
use Rattle.std.specs.Prelude.{slice_get, unwrap_or}
use Rattle.std.specs.List.{list_any, list_all, cons_option}
use Rattle.std.specs.Option.{option_map_or}
use Rattle.std.proofs.lemmas.Bool.{ltb-true, lt-ltb, ne_eqb}
use Rattle.std.proofs.lemmas.Bool.Decides.{eqb_tells}
use Rattle.std.proofs.lemmas.List.{map-append, length-map}
use Rattle.std.proofs.lemmas.Option.{slice_get_within}
use Rattle.atomic_table.specs.Seated.{TableId}
use Rattle.host_record.specs.declared.request.Request.{Request}
use Rattle.host_record.specs.{is_last}
use Rattle.host_model.specs.{closings, is_member, below, count, request_at}
use Rattle.host_group.specs.{CellSeat, Member, Row, IsAdmittingOf, seat_cells, admitted, back, member, next}
use Rattle.host_group.specs.Views as cell
use Rattle.host_memory.proofs.Pushed.{count_add, count_skip}
use Rattle.host_rings.specs.{Envelope}
use Rattle.host_intake.specs.{Waiting, lone_slip, Taking, Landing, is_landing_of, place_of, request_in, requests_of, AreLanded, AreInCells, backs, is_by_taker, is_lander, is_member_at, is_of_member, is_right_out, landing_ending, member_at, members, row_ending, HasRight, is_open, is_out, AreWaiting, IsOfTaking, IsRecordWaiting, is_waiting_at}
use Rattle.host_intake.proofs.Counting.{count_agree, count_more, count_no_more}
use Rattle.host_intake.proofs.Judging.{get_more}
use Rattle.host_log.proofs.Places.{get_last}
use Rattle.host_intake.proofs.Membering.{closings_same, member_after, member_last, member_more, members_more, request_more}
use Rattle.host_intake.proofs.Removing.{get_snoc}
use Rattle.host_log.proofs.Bools.{and_end, and_left, and_right}

module _ (ts : List Taking) (t : Taking) where
  pub requests_more : requests_of (ts ++ t ∷ []) ≡ requests_of ts ++ request_in t ∷ []
  requests_more = map-append request_in ts (t ∷ [])

  count_of : length (requests_of ts) ≡ length ts
  count_of = length-map ts request_in

  pub request_same : (i : ℕ) → i < length ts → request_at (requests_of (ts ++ t ∷ [])) i ≡ request_at (requests_of ts) i
  request_same i h = ap (λ rs. request_at rs i) requests_more ∙ request_more (requests_of ts) (request_in t) i (let n = count_of in omega arith)

  pub member_same : (i : ℕ) → i < length ts → member_at (requests_of (ts ++ t ∷ [])) i ≡ member_at (requests_of ts) i
  member_same i h = ap (λ rs. member_at rs i) requests_more ∙ member_more (requests_of ts) (request_in t) i (let n = count_of in omega arith)

  pub member_new : member_at (requests_of (ts ++ t ∷ [])) (length ts) ≡ member_after (request_in t) (requests_of ts) (length ts)
  member_new = ap (λ rs. member_at rs (length ts)) requests_more
      ∙ (ap (λ n. member_at (requests_of ts ++ request_in t ∷ []) n) (sym count_of) ∙ (member_last (requests_of ts) (request_in t) ∙ ap (λ n. member_after (request_in t) (requests_of ts) n) count_of))

  pub members_new : members (requests_of (ts ++ t ∷ [])) ≡ members (requests_of ts) ++ cons_option (member_after (request_in t) (requests_of ts) (length ts)) []
  members_new = ap members requests_more ∙ (members_more (requests_of ts) (request_in t) ∙ ap (λ n. members (requests_of ts) ++ cons_option (member_after (request_in t) (requests_of ts) n) []) count_of)

-- ---- the records that ended

module _ (ts : List Taking) where
  pub lander_taken : (hand i : ℕ) → is_lander hand i ts ≡ true → i < length ts
  lander_taken hand i e = step (slice_get ts i) refl e
    where
      step : (o : Option Taking) → slice_get ts i ≡ o → option_map_or (λ (u : Taking). u.hand == hand || u.waits) o false ≡ true → i < length ts
      step None is e = absurd (cc)
      step (Some u) is e = slice_get_within ts i u is

  lander_more : (t : Taking) (hand i : ℕ) → is_lander hand i ts ≡ true → is_lander hand i (ts ++ t ∷ []) ≡ true
  lander_more t hand i e = step (slice_get ts i) refl e
    where
      step : (o : Option Taking) → slice_get ts i ≡ o → option_map_or (λ (u : Taking). u.hand == hand || u.waits) o false ≡ true → is_lander hand i (ts ++ t ∷ []) ≡ true
      step None is e = absurd (cc)
      step (Some u) is e = ap (λ (o : Option Taking). option_map_or (λ (u : Taking). u.hand == hand || u.waits) o false) (get_more ts t u i is) ∙ e

  all_more : (t : Taking) (ls : List Landing) → list_all (is_by_taker ts) ls ≡ true → list_all (is_by_taker (ts ++ t ∷ [])) ls ≡ true
  all_more t [] h = refl
  all_more t (l ∷ ls) h =
      ap (λ b. b && list_all (is_by_taker (ts ++ t ∷ [])) ls) (lander_more t l.hand l.index (and_left (is_by_taker ts l) (list_all (is_by_taker ts) ls) h))
      ∙ all_more t ls (and_right (is_by_taker ts l) (list_all (is_by_taker ts) ls) h)

  pub taken_at : (ls : List Landing) → list_all (is_by_taker ts) ls ≡ true → (k : ℕ) (l : Landing) → slice_get ls k ≡ Some l → l.index < length ts
  taken_at [] h zero l e = absurd (cc)
  taken_at [] h (suc k) l e = absurd (cc)
  taken_at (m ∷ ls) h zero l e = subst (λ (z : Landing). z.index < length ts) (ap (λ (o : Option Landing). unwrap_or o m) e) (lander_taken m.hand m.index (and_left (is_by_taker ts m) (list_all (is_by_taker ts) ls) h))
  taken_at (m ∷ ls) h (suc k) l e = taken_at ls (and_right (is_by_taker ts m) (list_all (is_by_taker ts) ls) h) k l e

  -- the next record has not ended
  pub next_open : (ls : List Landing) → list_all (is_by_taker ts) ls ≡ true → list_any (is_landing_of (length ts)) ls ≡ false
  next_open [] h = refl
  next_open (l ∷ ls) h =
      let before = lander_taken l.hand l.index (and_left (is_by_taker ts l) (list_all (is_by_taker ts) ls) h) in
      ap (λ b. b || list_any (is_landing_of (length ts)) ls) (ne_eqb l.index (length ts) (λ z. absurd (omega arith))) ∙ next_open ls (and_right (is_by_taker ts l) (list_all (is_by_taker ts) ls) h)

  filter_same : (t : Taking) (ls : List Landing) → list_all (is_by_taker ts) ls ≡ true → filter (is_of_member (requests_of (ts ++ t ∷ []))) ls ≡ filter (is_of_member (requests_of ts)) ls
  filter_same t [] h = refl
  filter_same t (l ∷ ls) h =
      let before = lander_taken l.hand l.index (and_left (is_by_taker ts l) (list_all (is_by_taker ts) ls) h) in
      ap (λ b. cond b (l ∷ filter (is_of_member (requests_of (ts ++ t ∷ []))) ls) (filter (is_of_member (requests_of (ts ++ t ∷ []))) ls)) (ap is_member (request_same ts t l.index before))
      ∙ ap (λ (z : List Landing). cond (is_of_member (requests_of ts) l) (l ∷ z) z) (filter_same t ls (and_right (is_by_taker ts l) (list_all (is_by_taker ts) ls) h))

module _ (ts : List Taking) (ls : List Landing) (t : Taking) (k : AreLanded ts ls) where
  open_next : is_open ls (length ts) ≡ true
  open_next = ap not (next_open ts ls k.by_taker)

  one_more : length (ts ++ t ∷ []) ≡ length ts + 1
  one_more = length-append ts (t ∷ [])

  pub landed_taken : AreLanded (ts ++ t ∷ []) ls
  landed_taken = record {
    by_taker = all_more ts t ls k.by_taker;
    once = ap (λ n. length ls + count (is_open ls) (below n)) one_more ∙ (let c = count_more (is_open ls) (length ts) open_next in let o = k.once in let n = one_more in omega arith);
    answers = λ i l e. subst (λ (q : Request). is_member q ≡ false → l.answer ≡ Some (lone_slip q l.index l.end)) (sym (request_same ts t l.index (taken_at ts ls k.by_taker i l e))) (k.answers i l e);
  }

  -- ---- the cells

  module _ (q : CellSeat) (c : AreInCells ts ls q) where
    out_more : (p : ℕ → Bool) → backs p (back q) + count (λ i. p i && is_right_out (requests_of (ts ++ t ∷ [])) ls i) (below (length (ts ++ t ∷ []))) ≡ count (λ i. p i && is_member_at (requests_of (ts ++ t ∷ [])) i) (below (length (ts ++ t ∷ [])))
    out_more p =
        let rs = requests_of ts in let new = requests_of (ts ++ t ∷ []) in let n = length ts in
        let a : count (λ i. p i && is_right_out new ls i) (below n) ≡ count (λ i. p i && is_right_out rs ls i) (below n) =
        count_agree (λ i. p i && is_right_out new ls i) (λ i. p i && is_right_out rs ls i) 0 n (λ j lo hi. ap (λ (r : Request). p j && (is_member r && is_open ls j)) (request_same ts t j (omega arith))) in
        let b : count (λ i. p i && is_member_at new i) (below n) ≡ count (λ i. p i && is_member_at rs i) (below n) =
        count_agree (λ i. p i && is_member_at new i) (λ i. p i && is_member_at rs i) 0 n (λ j lo hi. ap (λ (r : Request). p j && is_member r) (request_same ts t j (omega arith))) in
        let same : (p n && is_right_out new ls n) ≡ (p n && is_member_at new n) = ap (λ b. p n && (is_member_at new n && b)) open_next ∙ and_end (p n) (is_member_at new n) in
        let o = c.out p in
        ap (λ m. backs p (back q) + count (λ i. p i && is_right_out new ls i) (below m)) one_more ∙ (step p (p n && is_member_at new n) refl same a b o ∙ ap (λ m. count (λ i. p i && is_member_at new i) (below m)) (sym one_more))
      where
        step : (p : ℕ → Bool) (d : Bool) → (p (length ts) && is_member_at (requests_of (ts ++ t ∷ [])) (length ts)) ≡ d
            → (p (length ts) && is_right_out (requests_of (ts ++ t ∷ [])) ls (length ts)) ≡ (p (length ts) && is_member_at (requests_of (ts ++ t ∷ [])) (length ts))
            → count (λ i. p i && is_right_out (requests_of (ts ++ t ∷ [])) ls i) (below (length ts)) ≡ count (λ i. p i && is_right_out (requests_of ts) ls i) (below (length ts))
            → count (λ i. p i && is_member_at (requests_of (ts ++ t ∷ [])) i) (below (length ts)) ≡ count (λ i. p i && is_member_at (requests_of ts) i) (below (length ts))
            → backs p (back q) + count (λ i. p i && is_right_out (requests_of ts) ls i) (below (length ts)) ≡ count (λ i. p i && is_member_at (requests_of ts) i) (below (length ts))
            → backs p (back q) + count (λ i. p i && is_right_out (requests_of (ts ++ t ∷ [])) ls i) (below (length ts + 1)) ≡ count (λ i. p i && is_member_at (requests_of (ts ++ t ∷ [])) i) (below (length ts + 1))
        step p true y same a b o =
            let x = count_more (λ i. p i && is_right_out (requests_of (ts ++ t ∷ [])) ls i) (length ts) (same ∙ y) in
            let z = count_more (λ i. p i && is_member_at (requests_of (ts ++ t ∷ [])) i) (length ts) y in omega arith
        step p false y same a b o =
            let x = count_no_more (λ i. p i && is_right_out (requests_of (ts ++ t ∷ [])) ls i) (length ts) (same ∙ y) in
            let z = count_no_more (λ i. p i && is_member_at (requests_of (ts ++ t ∷ [])) i) (length ts) y in omega arith

    rows_same : (n : ℕ) (r : Row) → slice_get (back q) n ≡ Some r → (r.member.index < length (ts ++ t ∷ [])) × (member_at (requests_of (ts ++ t ∷ [])) r.member.index ≡ Some r.member)
    rows_same n r e = let m = c.of_members n r e in ((let a = m.0 in let b = one_more in omega arith), member_same ts t r.member.index m.0 ∙ m.1)

    -- a lone record was taken
    pub cells_taken_lone : is_member (request_in t) ≡ false → AreInCells (ts ++ t ∷ []) ls q
    cells_taken_lone lone = record {
      resting = c.resting;
      told = c.told ∙ (sym (append-nil (members (requests_of ts))) ∙ (ap (λ b. members (requests_of ts) ++ cons_option (cond b (Some (member (request_in t).group (closings (request_in t).group (requests_of ts)) (length ts) (request_in t).reqid (is_last (request_in t)))) None) []) (sym lone) ∙ sym (members_new ts t)));
      above = let a = c.above in let n = one_more in omega arith;
      came_back = c.came_back ∙ ap (λ (z : List Landing). reverse (map landing_ending z)) (sym (filter_same ts t ls k.by_taker));
      of_members = rows_same;
      out = out_more;
    }

    -- a member was taken, and admitted to its group
    pub cells_taken_member : is_member (request_in t) ≡ true → (p : CellSeat) → IsAdmittingOf (seat_cells p) p → back p ≡ back q → next p ≡ length ts + 1
        → admitted p ≡ admitted q ++ member (request_in t).group (cell.members_closing (request_in t).group (admitted q)) (length ts) (request_in t).reqid (is_last (request_in t)) ∷ []
        → AreInCells (ts ++ t ∷ []) ls p
    cells_taken_member mem p resting came above told = record {
      resting = resting;
      told = told ∙ (ap (λ n. admitted q ++ member (request_in t).group n (length ts) (request_in t).reqid (is_last (request_in t)) ∷ []) (ap (λ l. cell.members_closing (request_in t).group l) c.told ∙ closings_same (request_in t).group (requests_of ts))
          ∙ (ap (λ (l : List Member). l ++ member (request_in t).group (closings (request_in t).group (requests_of ts)) (length ts) (request_in t).reqid (is_last (request_in t)) ∷ []) c.told
          ∙ (ap (λ b. members (requests_of ts) ++ cons_option (cond b (Some (member (request_in t).group (closings (request_in t).group (requests_of ts)) (length ts) (request_in t).reqid (is_last (request_in t)))) None) []) (sym mem) ∙ sym (members_new ts t))));
      above = let n = one_more in omega arith;
      came_back = ap (λ (l : List Row). map row_ending l) came ∙ (c.came_back ∙ ap (λ (z : List Landing). reverse (map landing_ending z)) (sym (filter_same ts t ls k.by_taker)));
      of_members = λ n r e. rows_same n r (subst (λ (l : List Row). slice_get l n ≡ Some r) came e);
      out = λ f. subst (λ (l : List Row). backs f l + count (λ i. f i && is_right_out (requests_of (ts ++ t ∷ [])) ls i) (below (length (ts ++ t ∷ []))) ≡ count (λ i. f i && is_member_at (requests_of (ts ++ t ∷ [])) i) (below (length (ts ++ t ∷ [])))) (sym came) (out_more f);
    }

  -- ---- the closes that wait

  still_out : (i : ℕ) → is_out i (length ts) ls ≡ true → is_out i (length (ts ++ t ∷ [])) ls ≡ true
  still_out i e =
      let a = ltb-true i (length ts) (and_left (nat_lt i (length ts)) (is_open ls i) e) in let n = one_more in
      ap (λ b. b && is_open ls i) (lt-ltb i (length (ts ++ t ∷ [])) (omega arith)) ∙ and_right (nat_lt i (length ts)) (is_open ls i) e

  right_same : (cells : TableId) (u : Taking) (right : Option CellSeat) → place_of u < length ts → HasRight cells ts u right → HasRight cells (ts ++ t ∷ []) u right
  right_same cells u None h m = m
  right_same cells u (Some q) h m = (m.0, record { right_of = m.1.right_of; unused = m.1.unused; member = member_same ts t (place_of u) h ∙ m.1.member })

  waiting_same : (cells : TableId) (w : Waiting) → IsOfTaking cells ts ls w → IsOfTaking cells (ts ++ t ∷ []) ls w
  waiting_same cells w m = step (slice_get ts w.envelope.index) refl m
    where
      step : (o : Option Taking) → slice_get ts w.envelope.index ≡ o → MatchOption o ⊥ (λ u. IsRecordWaiting cells ts ls w u) → IsOfTaking cells (ts ++ t ∷ []) ls w
      step None e m = absurd m
      step (Some u) e m = subst (λ (o : Option Taking). MatchOption o ⊥ (λ u. IsRecordWaiting cells (ts ++ t ∷ []) ls w u)) (sym (get_more ts t u w.envelope.index e))
          (record {
            envelope = m.envelope;
            waits = m.waits;
            flying = still_out w.envelope.index m.flying;
            right = right_same cells u w.right (subst (λ (z : Envelope). z.index < length ts) (sym m.envelope) (slice_get_within ts w.envelope.index u e)) m.right;
          })

  pub waiting_taken : (cells : TableId) (ws : List Waiting) → AreWaiting cells ts ls ws → AreWaiting cells (ts ++ t ∷ []) ls ws
  waiting_taken cells ws w = record { each = λ n x e. waiting_same cells x (w.each n x e); apart = w.apart }

  -- the one that was taken waits
  pub waiting_one : (cells : TableId) (ws : List Waiting) (right : Option CellSeat) → AreWaiting cells ts ls ws → place_of t ≡ length ts → t.waits ≡ true → HasRight cells (ts ++ t ∷ []) t right
      → AreWaiting cells (ts ++ t ∷ []) ls (ws ++ record { envelope = t.envelope; right = right } ∷ [])
  waiting_one cells ws right w next waits has = record {
    each = λ n x e. one n x (get_snoc ws (record { envelope = t.envelope; right = right }) n x e);
    apart = λ i. apart i (eqb_tells t.envelope.index i);
  }
    where
      new : IsOfTaking cells (ts ++ t ∷ []) ls (record { envelope = t.envelope; right = right })
      new = subst (λ (o : Option Taking). MatchOption o ⊥ (λ u. IsRecordWaiting cells (ts ++ t ∷ []) ls (record { envelope = t.envelope; right = right }) u)) (sym (ap (λ i. slice_get (ts ++ t ∷ []) i) next ∙ get_last ts t))
          (record {
            envelope = refl;
            waits = waits;
            flying = ap (λ i. is_out i (length (ts ++ t ∷ [])) ls) next ∙ (ap (λ b. b && is_open ls (length ts)) (lt-ltb (length ts) (length (ts ++ t ∷ [])) (let n = one_more in omega arith)) ∙ open_next);
            right = has;
          })

      one : (n : ℕ) (x : Waiting) → (slice_get ws n ≡ Some x) ⊎ ((n ≡ length ws) × (record { envelope = t.envelope; right = right } ≡ x)) → IsOfTaking cells (ts ++ t ∷ []) ls x
      one n x (inl e) = waiting_same cells x (w.each n x e)
      one n x (inr e) = subst (λ (z : Waiting). IsOfTaking cells (ts ++ t ∷ []) ls z) e.1 new

      before : (n : ℕ) (x : Waiting) → slice_get ws n ≡ Some x → x.envelope.index < length ts
      before n x e = found (slice_get ts x.envelope.index) refl (w.each n x e)
        where
          found : (o : Option Taking) → slice_get ts x.envelope.index ≡ o → MatchOption o ⊥ (λ u. IsRecordWaiting cells ts ls x u) → x.envelope.index < length ts
          found None e m = absurd m
          found (Some u) e m = slice_get_within ts x.envelope.index u e

      none_waits : count (is_waiting_at (length ts)) ws ≡ 0
      none_waits = none_here ws before
        where
          none_here : (l : List Waiting) → ((n : ℕ) (x : Waiting) → slice_get l n ≡ Some x → x.envelope.index < length ts) → count (is_waiting_at (length ts)) l ≡ 0
          none_here [] h = refl
          none_here (x ∷ l) h = ap (λ b. length (cond b (x ∷ filter (is_waiting_at (length ts)) l) (filter (is_waiting_at (length ts)) l))) (ne_eqb x.envelope.index (length ts) (λ z. absurd (let b = h 0 x refl in omega arith))) ∙ none_here l (λ n y e. h (suc n) y e)

      apart : (i : ℕ) → (((t.envelope.index == i) ≡ true) × (t.envelope.index ≡ i)) ⊎ (((t.envelope.index == i) ≡ false) × (t.envelope.index ≢ i)) → count (is_waiting_at i) (ws ++ record { envelope = t.envelope; right = right } ∷ []) ≤ 1
      apart i (inl s) =
          let a = count_add (is_waiting_at i) ws (record { envelope = t.envelope; right = right }) s.0 in
          let b : count (is_waiting_at i) ws ≡ 0 = subst (λ n. count (is_waiting_at n) ws ≡ 0) (sym next ∙ s.1) none_waits in omega arith
      apart i (inr s) = let a = count_skip (is_waiting_at i) ws (record { envelope = t.envelope; right = right }) s.0 in let b = w.apart i in omega arith
