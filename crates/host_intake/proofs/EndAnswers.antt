-- The end of an instance is the answer of the record that closed it.
use Rattle.std.proofs.Common.{◌≡◌, ◌≢◌, ◌⊎◌, inl, inr, ℕ, zero, suc, ◌+◌, ◌-◌, ◌≤◌, ◌<◌, ◌==◌, Bool, true, false, ◌&&◌, cond, List, [], ◌∷◌, ◌++◌, length, filter, filter_map, get_or, map, take, Option, Some, None, refl, sym, ap, subst, ◌∙◌, arith, length-append, append-nil, ne_eqb, eq-eqb}
use Rattle.std.specs.Prelude.{slice_get, unwrap_or}
use Rattle.std.specs.List.{cons_option, range_with_len}
use Rattle.std.specs.Option.{option_map_or}
use Rattle.std.proofs.lemmas.Bool.Decides.{eqb_tells}
use Rattle.std.proofs.lemmas.List.{length-map}
use Rattle.std.proofs.lemmas.List.Elements.{filter-append}
use Rattle.std.proofs.lemmas.List.FromFn.{length-range_with_len}
use Rattle.std.proofs.lemmas.Option.{slice_get_within}
use Rattle.host_record.specs.declared.request.Request.{Request}
use Rattle.host_record.specs.declared.status.Status.{Status}
use Rattle.host_record.specs.{is_last, request_of, status_number}
use Rattle.host_model.specs.{TakenRow, answer, first_failure, answered_by, answers_for, closings, instance_of, is_closing, is_member, same_instance, below, count, request_at, row_at}
use Rattle.host_group.specs.{GroupEnd, Member, Row, IsEnd, closers_of, instance_rows, members_of, row_of, member}
use Rattle.host_intake.specs.{HaveOutcomes, member_at, members}
use Rattle.host_intake.proofs.Membering.{take_next}
use Rattle.host_intake.proofs.Stalling.{in_instance, is_of, of_instance}
use Rattle.host_intake.proofs.Verdicts.{numbered_place}

-- ---- lists

range_split : (a m p : ℕ) → range_with_len a (m + p) ≡ range_with_len a m ++ range_with_len (a + m) p
range_split a zero p = ap (λ n. range_with_len a n) (none p) ∙ ap (λ n. range_with_len n p) (sym_zero a)
  where
    none : (p : ℕ) → 0 + p ≡ p
    none p = omega arith

    sym_zero : (a : ℕ) → a ≡ a + 0
    sym_zero a = omega arith
range_split a (suc m) p = ap (λ n. range_with_len a n) (more m p) ∙ (ap (λ l. a ∷ l) (range_split (a + 1) m p) ∙ ap (λ n. a ∷ range_with_len (a + 1) m ++ range_with_len n p) (later a m))
  where
    more : (m p : ℕ) → suc m + p ≡ suc (m + p)
    more m p = omega arith

    later : (a m : ℕ) → a + 1 + m ≡ a + suc m
    later a m = omega arith

filter_none : (f : ℕ → Bool) (a n : ℕ) → ((k : ℕ) → a ≤ k → k < a + n → f k ≡ false) → filter f (range_with_len a n) ≡ []
filter_none f a zero h = refl
filter_none f a (suc n) h = ap (λ b. cond b (a ∷ filter f (range_with_len (a + 1) n)) (filter f (range_with_len (a + 1) n))) (h a (omega arith) (omega arith)) ∙ filter_none f (a + 1) n (λ k lo hi. h k (omega arith) (omega arith))

filter_same : (f h : ℕ → Bool) (xs : List ℕ) → ((k : ℕ) → f k ≡ h k) → filter f xs ≡ filter h xs
filter_same f h [] e = refl
filter_same f h (x ∷ xs) e = ap (λ b. cond b (x ∷ filter f xs) (filter f xs)) (e x) ∙ ap (λ l. cond (h x) (x ∷ l) l) (filter_same f h xs e)

filtered_at : (p : ℕ → Bool) (xs : List ℕ) (m x : ℕ) → slice_get (filter p xs) m ≡ Some x → (p x ≡ true) × ((n : ℕ) × (slice_get xs n ≡ Some x))
filtered_at p [] zero x e = absurd (cc)
filtered_at p [] (suc m) x e = absurd (cc)
filtered_at p (y ∷ ys) m x e = step (p y) refl m e (λ n h. filtered_at p ys n x h)
  where
    step : (b : Bool) → p y ≡ b → (m : ℕ) → slice_get (cond b (y ∷ filter p ys) (filter p ys)) m ≡ Some x → ((n : ℕ) → slice_get (filter p ys) n ≡ Some x → (p x ≡ true) × ((k : ℕ) × (slice_get ys k ≡ Some x)))
        → (p x ≡ true) × ((n : ℕ) × (slice_get (y ∷ ys) n ≡ Some x))
    step true h zero e more = (subst (λ z. p z ≡ true) (ap (λ (o : Option ℕ). unwrap_or o y) e) h, (0, e))
    step true h (suc m) e more = let r = more m e in (r.0, (suc r.1.0, r.1.1))
    step false h m e more = let r = more m e in (r.0, (suc r.1.0, r.1.1))

eq_sym : (a b : ℕ) → (a == b) ≡ (b == a)
eq_sym a b = step (eqb_tells a b)
  where
    step : (((a == b) ≡ true) × (a ≡ b)) ⊎ (((a == b) ≡ false) × (a ≢ b)) → (a == b) ≡ (b == a)
    step (inl s) = s.0 ∙ sym (eq-eqb b a (sym s.1))
    step (inr s) = s.0 ∙ sym (ne_eqb b a (λ z. s.1 (sym z)))

-- ---- the rows of an instance

module _ (rs : List Request) (rows : List TakenRow) (back : List Row) (g j : ℕ) (have : HaveOutcomes rs rows back) where
  members_are : (ns : List ℕ) → members_of g j (filter_map (member_at rs) ns) ≡ filter_map (member_at rs) (filter (is_of g j rs) ns)
  members_are [] = refl
  members_are (n ∷ ns) = step (member_at rs n) refl (members_are ns)
    where
      step : (o : Option Member) → member_at rs n ≡ o → members_of g j (filter_map (member_at rs) ns) ≡ filter_map (member_at rs) (filter (is_of g j rs) ns)
          → members_of g j (cons_option o (filter_map (member_at rs) ns)) ≡ filter_map (member_at rs) (cond (option_map_or (in_instance g j) o false) (n ∷ filter (is_of g j rs) ns) (filter (is_of g j rs) ns))
      step None e h = h
      step (Some m) e h = both (m.number == g) (m.instance == j)
        where
          both : (a b : Bool) → cond a (cond b (m ∷ members_of g j (filter_map (member_at rs) ns)) (members_of g j (filter_map (member_at rs) ns))) (members_of g j (filter_map (member_at rs) ns))
              ≡ filter_map (member_at rs) (cond (a && b) (n ∷ filter (is_of g j rs) ns) (filter (is_of g j rs) ns))
          both true true = ap (λ l. m ∷ l) h ∙ ap (λ o. cons_option o (filter_map (member_at rs) (filter (is_of g j rs) ns))) (sym e)
          both true false = h
          both false b = h

  abbrev rows_of : List ℕ → List Row
  rows_of ns = map (row_of back) (filter_map (member_at rs) (filter (is_of g j rs) ns))

  outcomes_are : (ns : List ℕ) → map (λ (r : Row). r.status) (rows_of ns) ≡ map (λ k. (row_at rows k).outcome) (filter (is_of g j rs) ns)
  outcomes_are [] = refl
  outcomes_are (n ∷ ns) = step (member_at rs n) refl (outcomes_are ns)
    where
      step : (o : Option Member) → member_at rs n ≡ o → map (λ (r : Row). r.status) (rows_of ns) ≡ map (λ k. (row_at rows k).outcome) (filter (is_of g j rs) ns)
          → map (λ (r : Row). r.status) (map (row_of back) (filter_map (member_at rs) (cond (option_map_or (in_instance g j) o false) (n ∷ filter (is_of g j rs) ns) (filter (is_of g j rs) ns))))
          ≡ map (λ k. (row_at rows k).outcome) (cond (option_map_or (in_instance g j) o false) (n ∷ filter (is_of g j rs) ns) (filter (is_of g j rs) ns))
      step None e h = h
      step (Some m) e h = in_it (in_instance g j m)
        where
          in_it : (b : Bool) → map (λ (r : Row). r.status) (map (row_of back) (filter_map (member_at rs) (cond b (n ∷ filter (is_of g j rs) ns) (filter (is_of g j rs) ns)))) ≡ map (λ k. (row_at rows k).outcome) (cond b (n ∷ filter (is_of g j rs) ns) (filter (is_of g j rs) ns))
          in_it true = ap (λ o. map (λ (r : Row). r.status) (map (row_of back) (cons_option o (filter_map (member_at rs) (filter (is_of g j rs) ns))))) e
              ∙ (ap (λ s. s ∷ map (λ (r : Row). r.status) (rows_of ns)) ((have n m e).1) ∙ ap (λ l. (row_at rows n).outcome ∷ l) h)
          in_it false = h

  abbrev name_of_row : Row → ℕ × ℕ
  name_of_row r = (r.member.index, r.member.reqid)

  abbrev name_at : ℕ → ℕ × ℕ
  name_at k = (k, (request_at rs k).reqid)

  abbrev last_at : ℕ → Bool
  last_at k = is_last (request_at rs k)

  named_by : (n : ℕ) (m : Member) → member_at rs n ≡ Some m → (m.last ≡ last_at n) × ((m.index, m.reqid) ≡ name_at n)
  named_by n m e = let r = request_at rs n in step (is_member r) e
    where
      step : (b : Bool) → cond b (Some (member (request_at rs n).group (closings (request_at rs n).group (take n rs)) n (request_at rs n).reqid (is_last (request_at rs n)))) None ≡ Some m → (m.last ≡ last_at n) × ((m.index, m.reqid) ≡ name_at n)
      step true e = let is = ap (λ (o : Option Member). unwrap_or o m) (sym e) in (ap (λ (z : Member). z.last) is, ap (λ (z : Member). (z.index, z.reqid)) is)
      step false e = absurd (cc)

  closers_are : (ns : List ℕ) → closers_of (rows_of ns) ≡ map name_at (filter last_at (filter (is_of g j rs) ns))
  closers_are [] = refl
  closers_are (n ∷ ns) = step (member_at rs n) refl (closers_are ns)
    where
      step : (o : Option Member) → member_at rs n ≡ o → closers_of (rows_of ns) ≡ map name_at (filter last_at (filter (is_of g j rs) ns))
          → closers_of (map (row_of back) (filter_map (member_at rs) (cond (option_map_or (in_instance g j) o false) (n ∷ filter (is_of g j rs) ns) (filter (is_of g j rs) ns))))
          ≡ map name_at (filter last_at (cond (option_map_or (in_instance g j) o false) (n ∷ filter (is_of g j rs) ns) (filter (is_of g j rs) ns)))
      step None e h = h
      step (Some m) e h = in_it (in_instance g j m)
        where
          closes : (r : Row) → r.member ≡ m → (b : Bool) → m.last ≡ b → last_at n ≡ b → (m.index, m.reqid) ≡ name_at n
              → closers_of (r ∷ rows_of ns) ≡ map name_at (cond (last_at n) (n ∷ filter last_at (filter (is_of g j rs) ns)) (filter last_at (filter (is_of g j rs) ns)))
          closes r of b l k name =
              ap (λ c. map name_of_row (cond c (r ∷ filter (λ (q : Row). q.member.last) (rows_of ns)) (filter (λ (q : Row). q.member.last) (rows_of ns)))) (ap (λ (z : Member). z.last) of ∙ l)
              ∙ (one b (ap (λ (z : Member). (z.index, z.reqid)) of ∙ name) ∙ ap (λ c. map name_at (cond c (n ∷ filter last_at (filter (is_of g j rs) ns)) (filter last_at (filter (is_of g j rs) ns)))) (sym k))
            where
              one : (b : Bool) → name_of_row r ≡ name_at n → map name_of_row (cond b (r ∷ filter (λ (q : Row). q.member.last) (rows_of ns)) (filter (λ (q : Row). q.member.last) (rows_of ns)))
                  ≡ map name_at (cond b (n ∷ filter last_at (filter (is_of g j rs) ns)) (filter last_at (filter (is_of g j rs) ns)))
              one true y = ap (λ x. x ∷ map name_of_row (filter (λ (q : Row). q.member.last) (rows_of ns))) y ∙ ap (λ l. name_at n ∷ l) h
              one false y = h

          in_it : (b : Bool) → closers_of (map (row_of back) (filter_map (member_at rs) (cond b (n ∷ filter (is_of g j rs) ns) (filter (is_of g j rs) ns)))) ≡ map name_at (filter last_at (cond b (n ∷ filter (is_of g j rs) ns) (filter (is_of g j rs) ns)))
          in_it true = ap (λ o. closers_of (map (row_of back) (cons_option o (filter_map (member_at rs) (filter (is_of g j rs) ns))))) e
              ∙ closes (row_of back m) ((have n m e).0) m.last refl (sym ((named_by n m e).0)) ((named_by n m e).1)
          in_it false = h

-- ---- the record that closed the instance

one_named : (f : ℕ → ℕ × ℕ) (cs : List ℕ) (x : ℕ × ℕ) → map f cs ≡ x ∷ [] → (k : ℕ) × (cs ≡ k ∷ []) × (f k ≡ x)
one_named f [] x e = absurd (let n = ap length e in omega arith)
one_named f (k ∷ []) x e = (k, refl, ap (λ (l : List (ℕ × ℕ)). get_or l 0 x) e)
one_named f (k ∷ l ∷ cs) x e = absurd (let n = ap length e in omega arith)

module _ (g : ℕ) (rs : List Request) where
  abbrev closes_g : Request → Bool
  closes_g q = is_closing q && q.group == g

  closings_next : (n : ℕ) → n < length rs → closings g (take (suc n) rs) ≡ closings g (take n rs) + length (filter closes_g (request_at rs n ∷ []))
  closings_next n h = ap (λ l. count closes_g l) (take_next n rs (request_of []) h) ∙ (ap length (filter-append closes_g (take n rs) (request_at rs n ∷ [])) ∙ length-append (filter closes_g (take n rs)) (filter closes_g (request_at rs n ∷ [])))

  suc_past : (a d : ℕ) → a + suc d ≡ suc (a + d)
  suc_past a d = omega arith

  closings_grow : (a d : ℕ) → a + d ≤ length rs → closings g (take a rs) ≤ closings g (take (a + d) rs)
  closings_grow a zero h = let e = ap (λ n. closings g (take n rs)) (none a) in omega arith
    where
      none : (a : ℕ) → a + 0 ≡ a
      none a = omega arith
  closings_grow a (suc d) h =
      let r = closings_grow a d (omega arith) in let n = closings_next (a + d) (omega arith) in let e = ap (λ n. closings g (take n rs)) (suc_past a d) in omega arith

module _ (rs : List Request) (rows : List TakenRow) (back : List Row) (g j : ℕ) (e : GroupEnd) (have : HaveOutcomes rs rows back) (end : IsEnd (instance_rows g j (members rs) back) e) where
  abbrev inside : List ℕ
  inside = filter (is_of g j rs) (below (length rs))

  rows_are : instance_rows g j (members rs) back ≡ rows_of rs rows back g j have (below (length rs))
  rows_are = ap (λ l. map (row_of back) l) (members_are rs rows back g j have (below (length rs)))

  closer : (k : ℕ) × (filter (last_at rs rows back g j have) inside ≡ k ∷ []) × (name_at rs rows back g j have k ≡ (e.index, e.reqid))
  closer = one_named (name_at rs rows back g j have) (filter (last_at rs rows back g j have) inside) (e.index, e.reqid)
      (sym (closers_are rs rows back g j have (below (length rs))) ∙ (ap closers_of (sym rows_are) ∙ end.closed_by))

  index_is : closer.0 ≡ e.index
  index_is = ap (λ (p : ℕ × ℕ). p.0) closer.2

  found : (last_at rs rows back g j have e.index ≡ true) × (is_of g j rs e.index ≡ true) × (e.index < length rs)
  found =
      let f = filtered_at (last_at rs rows back g j have) inside 0 e.index (ap (λ l. slice_get l 0) closer.1 ∙ ap (λ (n : ℕ). Some n) index_is) in
      let h = filtered_at (is_of g j rs) (below (length rs)) f.1.0 e.index f.1.1 in
      let place = numbered_place 0 (length rs) h.1.0 e.index h.1.1 in let within = slice_get_within (below (length rs)) h.1.0 e.index h.1.1 in
      let long = length-range_with_len 0 (length rs) in
      (f.0, h.0, omega arith)

  instance_is : instance_of rs e.index ≡ Some (g, j)
  instance_is = of_instance g j rs e.index found.1

  -- what the closing record says of itself
  member_is : (is_member (request_at rs e.index) ≡ true) × ((request_at rs e.index).group ≡ g) × (closings (request_at rs e.index).group (take e.index rs) ≡ j)
  member_is = let r = request_at rs e.index in step (is_member r) r.group (closings r.group (take e.index rs)) instance_is
    where
      step : (b : Bool) (h c : ℕ) → cond {A = Option (ℕ × ℕ)} b (Some (h, c)) None ≡ Some (g, j) → (b ≡ true) × (h ≡ g) × (c ≡ j)
      step true h c is = (refl, ap (λ (o : Option (ℕ × ℕ)). (unwrap_or o (h, c)).0) is, ap (λ (o : Option (ℕ × ℕ)). (unwrap_or o (h, c)).1) is)
      step false h c is = absurd (cc)

  same_is : (k : ℕ) → same_instance (Some (g, j)) (instance_of rs k) ≡ is_of g j rs k
  same_is k = let r = request_at rs k in step (is_member r) r.group (closings r.group (take k rs)) r.reqid (is_last r)
    where
      step : (b : Bool) (h c q : ℕ) (l : Bool) → same_instance (Some (g, j)) (cond {A = Option (ℕ × ℕ)} b (Some (h, c)) None) ≡ option_map_or (in_instance g j) (cond b (Some (member h c k q l)) None) false
      step true h c q l = ap (λ b. b && j == c) (eq_sym g h) ∙ ap (λ b. h == g && b) (eq_sym j c)
      step false h c q l = refl

  answers_is : (k : ℕ) → answers_for rs e.index k ≡ is_of g j rs k
  answers_is k =
      ap (λ b. cond b ((b && last_at rs rows back g j have e.index) && same_instance (instance_of rs e.index) (instance_of rs k)) (e.index == k)) member_is.0
      ∙ (ap (λ b. b && same_instance (instance_of rs e.index) (instance_of rs k)) found.0 ∙ (ap (λ o. same_instance o (instance_of rs k)) instance_is ∙ same_is k))

  -- no member of the instance comes after it
  none_after : (k : ℕ) → e.index + 1 ≤ k → k < length rs → is_of g j rs k ≡ false
  none_after k lo hi = step (is_of g j rs k) refl
    where
      counted : closings g (take (suc e.index) rs) ≡ j + 1
      counted =
          let n = closings_next g rs e.index found.2 in
          let is : closings g (take e.index rs) ≡ j = ap (λ h. closings h (take e.index rs)) (sym member_is.1) ∙ member_is.2 in
          let one : length (filter (closes_g g rs) (request_at rs e.index ∷ [])) ≡ 1 =
          ap (λ b. length (cond ((b && is_last (request_at rs e.index)) && (request_at rs e.index).group == g) (request_at rs e.index ∷ []) [])) member_is.0
          ∙ (ap (λ b. length (cond (b && (request_at rs e.index).group == g) (request_at rs e.index ∷ []) [])) found.0
          ∙ ap (λ b. length (cond b (request_at rs e.index ∷ []) [])) (eq-eqb (request_at rs e.index).group g member_is.1)) in omega arith

      past : closings g (take k rs) ≡ j → ⊥
      past is =
          let grow = closings_grow g rs (suc e.index) (k - suc e.index) (omega arith) in
          let same : suc e.index + (k - suc e.index) ≡ k = omega arith in
          let at = ap (λ n. closings g (take n rs)) same in let c = counted in omega arith

      step : (b : Bool) → is_of g j rs k ≡ b → b ≡ false
      step true y = absurd (past (late (of_instance g j rs k y)))
        where
          late : instance_of rs k ≡ Some (g, j) → closings g (take k rs) ≡ j
          late is = let r = request_at rs k in let p = both (is_member r) r.group (closings r.group (take k rs)) is in ap (λ n. closings n (take k rs)) (sym p.0) ∙ p.1
            where
              both : (b : Bool) (h c : ℕ) → cond {A = Option (ℕ × ℕ)} b (Some (h, c)) None ≡ Some (g, j) → (h ≡ g) × (c ≡ j)
              both true h c is = (ap (λ (o : Option (ℕ × ℕ)). (unwrap_or o (h, c)).0) is, ap (λ (o : Option (ℕ × ℕ)). (unwrap_or o (h, c)).1) is)
              both false h c is = absurd (cc)
      step false y = refl

  answered_is : answered_by rs e.index ≡ inside
  answered_is =
      filter_same (answers_for rs e.index) (is_of g j rs) (below (e.index + 1)) answers_is
      ∙ (sym (append-nil (filter (is_of g j rs) (below (e.index + 1))))
      ∙ (ap (λ l. filter (is_of g j rs) (below (e.index + 1)) ++ l) (sym (filter_none (is_of g j rs) (0 + (e.index + 1)) (length rs - (e.index + 1)) (λ k lo hi. none_after k (omega arith) (let h = found.2 in omega arith))))
      ∙ (sym (filter-append (is_of g j rs) (below (e.index + 1)) (range_with_len (0 + (e.index + 1)) (length rs - (e.index + 1))))
      ∙ (ap (λ l. filter (is_of g j rs) l) (sym (range_split 0 (e.index + 1) (length rs - (e.index + 1)))) ∙ ap (λ n. filter (is_of g j rs) (below n)) (let h = found.2 in omega arith)))))

  -- the answer of the closing record
  pub answer_is : answer rs rows e.index ≡ record { status = status_number e.status; reqid = e.reqid; group = g; count = e.count }
  answer_is =
      let statuses : map (λ k. (row_at rows k).outcome) (answered_by rs e.index) ≡ map (λ (r : Row). r.status) (instance_rows g j (members rs) back) =
      ap (λ l. map (λ k. (row_at rows k).outcome) l) answered_is ∙ (sym (outcomes_are rs rows back g j have (below (length rs))) ∙ ap (λ l. map (λ (r : Row). r.status) l) (sym rows_are)) in
      let many : length (answered_by rs e.index) ≡ e.count =
      sym (length-map (answered_by rs e.index) (λ k. (row_at rows k).outcome)) ∙ (ap length statuses ∙ (length-map (instance_rows g j (members rs) back) (λ (r : Row). r.status) ∙ sym end.count)) in
      let named : (request_at rs e.index).reqid ≡ e.reqid = ap (λ k. (request_at rs k).reqid) (sym index_is) ∙ ap (λ (p : ℕ × ℕ). p.1) closer.2 in
      ap (λ (l : List Status). record { status = status_number (first_failure l); reqid = (request_at rs e.index).reqid; group = cond (is_member (request_at rs e.index)) (request_at rs e.index).group 0; count = length (answered_by rs e.index) }) statuses
      ∙ (ap (λ (s : Status). record { status = status_number s; reqid = (request_at rs e.index).reqid; group = cond (is_member (request_at rs e.index)) (request_at rs e.index).group 0; count = length (answered_by rs e.index) }) (sym end.status)
      ∙ (ap (λ n. record { status = status_number e.status; reqid = n; group = cond (is_member (request_at rs e.index)) (request_at rs e.index).group 0; count = length (answered_by rs e.index) }) named
      ∙ (ap (λ b. record { status = status_number e.status; reqid = e.reqid; group = cond b (request_at rs e.index).group 0; count = length (answered_by rs e.index) }) member_is.0
      ∙ (ap (λ n. record { status = status_number e.status; reqid = e.reqid; group = n; count = length (answered_by rs e.index) }) member_is.1
      ∙ ap (λ n. record { status = status_number e.status; reqid = e.reqid; group = g; count = n }) many))))

  pub index_within : e.index < length rs
  index_within = found.2
