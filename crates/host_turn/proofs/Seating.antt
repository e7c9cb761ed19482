-- How the rule begins, how seats are made and joined, and what it tells at the end.
use Rattle.std.proofs.Common.{◌≡◌, ◌≢◌, ◌⊎◌, ℕ, ◌+◌, ◌^◌, ◌<◌, ◌≤◌, List, [], ◌∷◌, ◌++◌, length, length-append, set, sym, refl, ap, ap₂, subst, ◌∙◌, inl, inr, ⊎_elim, arith}
use Rattle.std.specs.Prelude.{Option, Some}
use mathlib.Core.Option.{none, some, some-injective, some-ne-none}
use mathlib.Core.Option as maybe
use mathlib.Core.Logic.{dite}
use native.Mathlib.Decide.{ℕ_discrete}
use lib.ListN.{get_elem?}
use Rattle.atomic_table.specs.Table.{State, Splits, Joins, opening, Final, Seen}
use Rattle.atomic_table.proofs.Lists.{at_set, set_else}
use Rattle.host_turn.specs.{Opening, View, Stage, Maker, Outside, Waiting, Inside, Note, Closing, Spent, has_ticket, is_at_rest, tickets_of, share_of, note_view, told_view, view_after_making, new_seat_view, gathered_view, spent_view, members_at, members_of, IsMember, AreMembers, Owns, Knows, Apart, AtHome, Away, OneHistory, first_view}
use Rattle.host_log.specs.{entries_of, HasNumber, AnyHasSeen, Holder, total}
use Rattle.host_log.proofs.Totals.{total_set, total_snoc, total_two}
use Rattle.host_log.proofs.Histories.{prefix_refl, prefix_nil}
use Rattle.host_turn.proofs.Stepping as m
use Rattle.host_log.proofs.Places.{here, at_snoc, at_longer}
use Rattle.host_log.proofs.Seeing.{join, number_either, number_left, number_right, number_some, seen_left, seen_right, seen_some}

module _ {S E F : Type 0} (story : S → List E) (maker : E → ℕ) (fixed : S → F) (k : Opening S) where
  abbrev V : Type 0
  V = View E F

  abbrev St : Type 0
  St = State (Option S) V

  abbrev K : St → Type 0
  K = OneHistory story maker fixed k

  abbrev first : List E
  first = story k.state.value

  abbrev fixed_value : F
  fixed_value = fixed k.state.value

  abbrev Kn : ℕ → ℕ → ℕ → List E → ℕ → V → Stage → Type 0
  Kn next serving made last j u a = Knows maker next serving made k.seats first last fixed_value j u a

  abbrev Ap : ℕ → V → ℕ → V → Type 0
  Ap = Apart story maker fixed

  pub opens : (x : S) → k.state.value ≡ x → k.seats < 2 ^ 32 → K (opening (0 ∷ 0 ∷ []) (Some x ∷ []) (first_view story maker fixed k))
  opens x is few = let v : V = first_view story maker fixed k in
      let only : (j : ℕ) (u : V) → get_elem? (v ∷ []) j ≡ some u → (j ≡ 0) × (v ≡ u) = λ j u e. ⊎_elim (λ t. absurd (some-ne-none u (sym t))) (λ t. t) (at_snoc [] v u j e) in record {
        next = 0;
        serving = 0;
        made = 0;
        last = first;
        words = refl;
        drawn = refl;
        shares = (let e : k.seats + 0 ≡ k.seats = omega arith in e);
        few = few;
        within = omega arith;
        others = λ n none. refl;
        each = λ j u e. let t = only j u e in subst (λ (z : ℕ × V). Kn 0 0 0 first z.0 z.1 z.1.stage) (λ i. (sym t.0 i, t.1 i)) record { is_first = refl; next_number = refl; to_make = omega arith; seen_first = refl; has_fixed = refl; begins = prefix_refl first };
        apart = λ i j a b ea eb. let e : i ≡ j = (only i a ea).0 ∙ sym (only j b eb).0 in ((λ _ _ _. e), λ _ _ _. e);
        witnessed = inl refl;
        slot = inl record { state = x; in_slot = refl; history = ap story (sym is); has_fixed = ap fixed (sym is); nobody = λ j u e. m.out story maker fixed k u.stage (ap (λ (z : V). m.is_inside story maker fixed k z.stage) (sym (only j u e).1)) };
      }

  Slot : List ℕ → List (maybe.Option (Option S)) → List V → List E → Type 0
  Slot ws hs vs last = AtHome story maker fixed k record { words = ws; homes = hs; views = vs } last ⊎ Away story maker fixed k record { words = ws; homes = hs; views = vs } last

  slot_longer : (ws : List ℕ) (hs : List (maybe.Option (Option S))) (vs : List V) (u : V) (last : List E) → m.is_inside story maker fixed k u.stage ≡ 0 → Slot ws hs vs last → Slot ws hs (vs ++ u ∷ []) last
  unfolding Slot
  slot_longer ws hs vs u last out c = ⊎_elim
      (λ home. inl record {
        state = home.state;
        in_slot = home.in_slot;
        history = home.history;
        has_fixed = home.has_fixed;
        nobody = λ j w e. ⊎_elim (λ z. home.nobody j w z) (λ z. m.out story maker fixed k w.stage (ap (λ (y : V). m.is_inside story maker fixed k y.stage) (sym z.1) ∙ out)) (at_snoc vs u w j e);
      })
      (λ away. inr record { holder = away.holder; view = away.view; found = at_longer vs (u ∷ []) away.holder away.view away.found; has_turn = away.has_turn; slot_out = away.slot_out })
      c

  -- one view is cut in two
  cut : (s : St) (r : K s) (id : ℕ) (v left right : V) (made' : ℕ) → get_elem? s.views id ≡ some v → r.made ≤ made' → made' ≤ k.seats → share_of left + share_of right ≡ share_of v → tickets_of left ≡ tickets_of v → tickets_of right ≡ 0
      → m.is_inside story maker fixed k v.stage ≡ 0 → m.is_inside story maker fixed k left.stage ≡ 0 → m.is_inside story maker fixed k right.stage ≡ 0
      → Kn r.next r.serving made' r.last id left left.stage → Kn r.next r.serving made' r.last (length (set s.views id left)) right right.stage
      → ((j : ℕ) (u : V) → j ≢ id → get_elem? s.views j ≡ some u → Kn r.next r.serving made' r.last j u u.stage) → ((j : ℕ) (u : V) → j ≢ id → get_elem? s.views j ≡ some u → Ap id left j u)
      → ((j : ℕ) (u : V) → get_elem? (set s.views id left) j ≡ some u → Ap (length (set s.views id left)) right j u)
      → (AnyHasSeen (members_of v) r.last → AnyHasSeen (members_of left) r.last) → ((n : ℕ) → HasNumber (members_of v) n → HasNumber (members_of left) n)
      → K record { words = s.words; homes = s.homes; views = set s.views id left ++ right ∷ [] }
  unfolding Slot
  cut s r id v left right made' at more within share q p a b c mine new rest apart far still names =
      let vs : List V = set s.views id left in let n : ℕ = length vs in
      let tq = total_set tickets_of s.views id v left at in let tp = total_set share_of s.views id v left at in let sq = total_snoc tickets_of vs right in let sp = total_snoc share_of vs right in let d = r.drawn in
      let each : (j : ℕ) (u : V) → get_elem? vs j ≡ some u → Kn r.next r.serving made' r.last j u u.stage = λ j u e.
      ⊎_elim (λ t. subst (λ (z : ℕ × V). Kn r.next r.serving made' r.last z.0 z.1 z.1.stage) (λ i. (sym t.0 i, t.1 i)) mine) (λ t. rest j u t.0 t.1) (at_set s.views id j left u e) in
      let near : (i j : ℕ) (x y : V) → get_elem? vs i ≡ some x → get_elem? vs j ≡ some y → Ap i x j y = λ i j x y ex ey. ⊎_elim
      (λ t. ⊎_elim (λ t'. let e : i ≡ j = t.0 ∙ sym t'.0 in ((λ _ _ _. e), λ _ _ _. e)) (λ t'. subst (λ (z : ℕ × V). Ap z.0 z.1 j y) (λ l. (sym t.0 l, t.1 l)) (apart j y t'.0 t'.1)) (at_set s.views id j left y ey))
      (λ t. ⊎_elim (λ t'. m.apart_sym story maker fixed k j y i x (subst (λ (z : ℕ × V). Ap z.0 z.1 i x) (λ l. (sym t'.0 l, t'.1 l)) (apart i x t.0 t.1))) (λ t'. r.apart i j x y t.1 t'.1) (at_set s.views id j left y ey))
      (at_set s.views id i left x ex) in record {
        next = r.next;
        serving = r.serving;
        made = made';
        last = r.last;
        words = r.words;
        drawn = omega arith;
        shares = (let e : total share_of (vs ++ right ∷ []) ≡ total share_of s.views = omega arith in e) ∙ r.shares;
        few = r.few;
        within = within;
        others = λ i none. r.others i (m.free_before story maker fixed k s.views id v left i at (names i) (λ j u e. none j u (at_longer vs (right ∷ []) j u e)));
        each = λ j u e. ⊎_elim (λ t. each j u t) (λ t. subst (λ (z : ℕ × V). Kn r.next r.serving made' r.last z.0 z.1 z.1.stage) (λ i. (sym t.0 i, t.1 i)) new) (at_snoc vs right u j e);
        apart = λ i j x y ex ey. ⊎_elim
            (λ t. ⊎_elim (λ t'. near i j x y t t') (λ t'. m.apart_sym story maker fixed k j y i x (subst (λ (z : ℕ × V). Ap z.0 z.1 i x) (λ l. (sym t'.0 l, t'.1 l)) (far i x t))) (at_snoc vs right y j ey))
            (λ t. ⊎_elim (λ t'. subst (λ (z : ℕ × V). Ap z.0 z.1 j y) (λ l. (sym t.0 l, t.1 l)) (far j y t')) (λ t'. let e : i ≡ j = t.0 ∙ sym t'.0 in ((λ _ _ _. e), λ _ _ _. e)) (at_snoc vs right y j ey))
            (at_snoc vs right x i ex);
        witnessed = ⊎_elim (λ t. inl t) (λ t. inr (t.0, t.1, at_longer vs (right ∷ []) t.0 t.1 t.2, t.3)) (m.witness_stays story maker fixed k s.views id v left r.last at still r.witnessed);
        slot = slot_longer s.words s.homes vs right r.last c (m.slot_stays story maker fixed k s id v left s.words r.last at a b r.slot);
      }

  pub notes : (id : ℕ) (v : V) → v.stage ≡ Outside → Splits K id v v (note_view v)
  notes id v is s r at = let own = m.knows story maker fixed k s r id v Outside at is in let out = ap (m.is_inside story maker fixed k) is in
      cut s r id v v (note_view v) r.made at (omega arith) r.within (omega arith) refl refl out out refl (r.each id v at) record { begins = own.member.0.0; has_fixed = own.has_fixed; stands_for_none = refl } (λ j u _ e. r.each j u e) (λ j u _ e. r.apart id j v u at e)
      (λ j u e. ((λ n none _. absurd none), λ z _ _. absurd (omega arith))) (λ e. e) (λ n p. p)

  -- members stay so when more seats were made
  members_widen : (made more : ℕ) (last : List E) (ms : List (Holder E)) → made ≤ more → AreMembers maker made last ms → AreMembers maker more last ms
  members_widen made more last ms le h = (h.0, λ n p. let lt = h.1 n p in omega arith)

  one_member : (made : ℕ) (last : List E) (x : Holder E) → IsMember maker made last x → AreMembers maker made last (x ∷ [])
  one_member made last x h = ((h.0, tt), λ n p. ⊎_elim (λ e. let lt = h.1 in omega arith) (λ none. absurd none) p)

  owns_more : (made : ℕ) (last : List E) (u : V) → Owns maker made last fixed_value u → Owns maker (made + 1) last fixed_value u
  owns_more made last u h = let lt = h.member.1 in record { member = (h.member.0, omega arith); told_begins = h.told_begins; has_fixed = h.has_fixed; stands_for_one = h.stands_for_one; told_has_fixed = h.told_has_fixed }

  one_more : (next serving made : ℕ) (last : List E) (j : ℕ) (u : V) (a : Stage) → j ≢ 0 → Kn next serving made last j u a → Kn next serving (made + 1) last j u a
  one_more next serving made last j u Maker ne h = absurd (ne h.is_first)
  one_more next serving made last j u Outside ne h = owns_more made last u h
  one_more next serving made last j u Waiting ne h = record { owns = owns_more made last u h.owns; not_past = h.not_past; drawn = h.drawn }
  one_more next serving made last j u Inside ne h = record { owns = owns_more made last u h.owns; served = h.served; drawn = h.drawn; seen_all = h.seen_all }
  one_more next serving made last j u Note ne h = h
  one_more next serving made last j u Closing ne h = record { has_fixed = h.has_fixed; members = members_widen made (made + 1) last u.members (omega arith) h.members; counted = h.counted }
  one_more next serving made last j u Spent ne h = h

  has_below : (next serving made : ℕ) (last : List E) (j : ℕ) (u : V) (a : Stage) (n : ℕ) → Kn next serving made last j u a → HasNumber (members_at a u) n → n < made
  has_below next serving made last j u Maker n h p = absurd p
  has_below next serving made last j u Outside n h p = (one_member made last (u.number, u.seen) h.member).1 n p
  has_below next serving made last j u Waiting n h p = (one_member made last (u.number, u.seen) h.owns.member).1 n p
  has_below next serving made last j u Inside n h p = (one_member made last (u.number, u.seen) h.owns.member).1 n p
  has_below next serving made last j u Note n h p = absurd p
  has_below next serving made last j u Closing n h p = h.members.1 n p
  has_below next serving made last j u Spent n h p = absurd p

  pub makes : (id : ℕ) (v : V) → v.stage ≡ Maker → 0 < v.share → Splits K id v (view_after_making v) (new_seat_view v)
  makes id v is pos s r at = let kn = m.knows story maker fixed k s r id v Maker at is in let out = ap (m.is_inside story maker fixed k) is in let left : V = view_after_making v in let right : V = new_seat_view v in
      let all = kn.to_make in let num = kn.next_number in let none : (n : ℕ) → HasNumber (members_at v.stage left) n → ⊥ = λ n p. subst (λ (z : Stage). HasNumber (members_at z left) n) is p in
      let free : has_ticket v.stage ≡ 0 = ap has_ticket is in
      cut s r id v left right (r.made + 1) at (omega arith) (omega arith) (omega arith) refl refl out out refl
      (subst (λ (z : Stage). Kn r.next r.serving (r.made + 1) r.last id left z) (sym is) record { is_first = kn.is_first; next_number = omega arith; to_make = omega arith; seen_first = kn.seen_first; has_fixed = kn.has_fixed; begins = kn.begins })
      record { member = ((kn.begins, ap (λ n. entries_of maker n r.last) num ∙ (r.others r.made (λ j u e p. let lt = has_below r.next r.serving r.made r.last j u u.stage r.made (r.each j u e) p in absurd (omega arith)) ∙ ap₂ (λ n l. entries_of maker n l) (sym num) (sym kn.seen_first))), omega arith); told_begins = prefix_nil r.last; has_fixed = kn.has_fixed; stands_for_one = refl; told_has_fixed = kn.has_fixed }
      (λ j u ne e. one_more r.next r.serving r.made r.last j u u.stage (λ z. ne (z ∙ sym kn.is_first)) (r.each j u e))
      (λ j u ne e. ((λ n p _. absurd (none n p)), λ z _ _. absurd (omega arith)))
      (λ j u e. (
        (λ n p q. ⊎_elim (λ same. ⊎_elim
            (λ t. absurd (none n (subst (λ (z : V). HasNumber (members_of z) n) (sym t.1) q)))
            (λ t. let lt = has_below r.next r.serving r.made r.last j u u.stage n (r.each j u t.1) q in absurd (omega arith))
            (at_set s.views id j left u e)) (λ no. absurd no) p),
        λ z _ _. absurd (omega arith),
      ))
      (λ e. absurd (subst (λ (z : Stage). AnyHasSeen (members_at z v) r.last) is e))
      (λ n p. absurd (subst (λ (z : Stage). HasNumber (members_at z v) n) is p))

  pub tells : (id : ℕ) (v : V) (other : ℕ) (w : V) → v.stage ≡ Outside → w.stage ≡ Note → Joins K id v other w (told_view v w) spent_view
  tells id v other w is is' s r at ne at' =
      let at0 : get_elem? s.views other ≡ some w = sym (set_else s.views id other (told_view v w) ne) ∙ at' in
      let own = m.knows story maker fixed k s r id v Outside at is in let note = m.knows story maker fixed k s r other w Note at0 is' in
      let out = ap (m.is_inside story maker fixed k) is in let free : has_ticket w.stage ≡ 0 = ap has_ticket is' in
      let r' = m.moved story maker fixed k s r id v (told_view v w) s.words s.homes r.next r.serving r.last at r.words refl refl
      (λ n p. subst (λ (z : Stage). HasNumber (members_at z (told_view v w)) n) (sym is) (subst (λ (z : Stage). HasNumber (members_at z v) n) is p)) (λ _ _. refl)
      (subst (λ (z : Stage). Kn r.next r.serving r.made r.last id (told_view v w) z) (sym is) record { member = own.member; told_begins = note.begins; has_fixed = own.has_fixed; stands_for_one = own.stands_for_one; told_has_fixed = note.has_fixed })
      (λ j u _ e. r.each j u e)
      (λ j u _ e. ((λ n p q. m.names_apart story maker fixed k s r id v Outside at is j u e n (subst (λ (z : Stage). HasNumber (members_at z (told_view v w)) n) is p) q), (r.apart id j v u at e).1))
      (m.slot_stays story maker fixed k s id v (told_view v w) s.words r.last at out out r.slot)
      (m.witness_stays story maker fixed k s.views id v (told_view v w) r.last at (λ e. subst (λ (z : Stage). AnyHasSeen (members_at z (told_view v w)) r.last) (sym is) (subst (λ (z : Stage). AnyHasSeen (members_at z v) r.last) is e)) r.witnessed) in
      let s' : St = record { words = s.words; homes = s.homes; views = set s.views id (told_view v w) } in
      m.moved story maker fixed k s' r' other w spent_view s.words s.homes r'.next r'.serving r'.last at' r'.words (omega arith) (sym note.stands_for_none)
      (λ n p. absurd (subst (λ (z : Stage). HasNumber (members_at z w) n) is' p)) (λ _ _. refl) refl (λ j u _ e. r'.each j u e)
      (λ j u _ e. ((λ n p _. absurd p), λ z _ _. absurd (omega arith)))
      (m.slot_stays story maker fixed k s' other w spent_view s.words r'.last at' (ap (m.is_inside story maker fixed k) is') refl r'.slot)
      (m.witness_stays story maker fixed k s'.views other w spent_view r'.last at' (λ e. absurd (subst (λ (z : Stage). AnyHasSeen (members_at z w) r'.last) is' e)) r'.witnessed)

  members_append : (made : ℕ) (last : List E) (xs ys : List (Holder E)) → AreMembers maker made last xs → AreMembers maker made last ys → AreMembers maker made last (xs ++ ys)
  members_append made last xs ys g h = (join maker last xs ys g.0 h.0, λ n p. ⊎_elim (λ q. g.1 n q) (λ q. h.1 n q) (number_either xs ys n p))

  still_members : (next serving made : ℕ) (last : List E) (j : ℕ) (u : V) (a : Stage) → is_at_rest a ≡ 1 → Kn next serving made last j u a → (u.fixed ≡ Some fixed_value) × AreMembers maker made last (members_at a u) × (u.share ≡ length (members_at a u))
  still_members next serving made last j u Maker z h = absurd (omega arith)
  still_members next serving made last j u Outside z h = (h.has_fixed, one_member made last (u.number, u.seen) h.member, h.stands_for_one)
  still_members next serving made last j u Waiting z h = absurd (omega arith)
  still_members next serving made last j u Inside z h = absurd (omega arith)
  still_members next serving made last j u Note z h = absurd (omega arith)
  still_members next serving made last j u Closing z h = (h.has_fixed, h.members, h.counted)
  still_members next serving made last j u Spent z h = absurd (omega arith)

  still_free : (a : Stage) → is_at_rest a ≡ 1 → (has_ticket a ≡ 0) × (m.is_inside story maker fixed k a ≡ 0)
  still_free Maker z = absurd (omega arith)
  still_free Outside z = (refl, refl)
  still_free Waiting z = absurd (omega arith)
  still_free Inside z = absurd (omega arith)
  still_free Note z = absurd (omega arith)
  still_free Closing z = (refl, refl)
  still_free Spent z = absurd (omega arith)

  -- each view after a join is the joined one, the spent one or one of the others
  after_join : (vs : List V) (id other : ℕ) (b c : V) → (P : ℕ → V → Type 0) → P id b → P other c → ((j : ℕ) (u : V) → j ≢ id → j ≢ other → get_elem? vs j ≡ some u → P j u)
      → (j : ℕ) (u : V) → get_elem? (set (set vs id b) other c) j ≡ some u → P j u
  after_join vs id other b c P x y z j u e = ⊎_elim
      (λ t. subst (λ (q : ℕ × V). P q.0 q.1) (λ i. (sym t.0 i, t.1 i)) y)
      (λ t. ⊎_elim (λ t'. subst (λ (q : ℕ × V). P q.0 q.1) (λ i. (sym t'.0 i, t'.1 i)) x) (λ t'. z j u t'.0 t.0 t'.1) (at_set vs id j b u t.1))
      (at_set (set vs id b) other j c u e)

  pub gathers : (id : ℕ) (v : V) (other : ℕ) (w : V) → is_at_rest v.stage ≡ 1 → is_at_rest w.stage ≡ 1 → Joins K id v other w (gathered_view v w) spent_view
  gathers id v other w is is' s r at ne at' =
      let b : V = gathered_view v w in let c : V = spent_view in let vs : List V = s.views in
      let at0 : get_elem? vs other ≡ some w = sym (set_else vs id other b ne) ∙ at' in
      let kv = still_members r.next r.serving r.made r.last id v v.stage is (r.each id v at) in let kw = still_members r.next r.serving r.made r.last other w w.stage is' (r.each other w at0) in
      let fv = still_free v.stage is in let fw = still_free w.stage is' in
      let qv : has_ticket v.stage ≡ 0 = fv.0 in let qw : has_ticket w.stage ≡ 0 = fw.0 in
      let q1 = total_set tickets_of vs id v b at in let q2 = total_set tickets_of (set vs id b) other w c at' in
      let p1 = total_set share_of vs id v b at in let p2 = total_set share_of (set vs id b) other w c at' in let d = r.drawn in
      let at_b : get_elem? (set (set vs id b) other c) id ≡ some b = set_else (set vs id b) other id c (λ z. ne (sym z)) ∙ here vs id v b at in
      let with_c : (i j : ℕ) (u : V) → Ap i c j u = λ i j u. ((λ n p _. absurd p), λ z _ _. absurd (omega arith)) in
      let with_b : (j : ℕ) (u : V) → j ≢ id → j ≢ other → get_elem? vs j ≡ some u → Ap id b j u = λ j u nid no e.
      ((λ n p q. ⊎_elim (λ t. absurd (no (sym ((r.apart other j w u at0 e).0 n t q)))) (λ t. absurd (nid (sym ((r.apart id j v u at e).0 n t q)))) (number_either (members_of w) (members_of v) n p)), λ z _ _. absurd (omega arith)) in record {
        next = r.next;
        serving = r.serving;
        made = r.made;
        last = r.last;
        words = r.words;
        drawn = omega arith;
        shares = (let e : total share_of (set (set vs id b) other c) ≡ total share_of vs = omega arith in e) ∙ r.shares;
        few = r.few;
        within = r.within;
        others = λ n none. r.others n (λ j u e p. dite (ℕ_discrete j id)
            (λ same. none id b at_b (number_right (members_of w) (members_of v) n (subst (λ (z : V). HasNumber (members_of z) n) (m.same_view story maker fixed k vs j id u v e at same) p)))
            (λ no. dite (ℕ_discrete j other)
            (λ same. none id b at_b (number_left (members_of w) (members_of v) n (subst (λ (z : V). HasNumber (members_of z) n) (m.same_view story maker fixed k vs j other u w e at0 same) p)))
            (λ not. none j u (set_else (set vs id b) other j c not ∙ (set_else vs id j b no ∙ e)) p)));
        each = after_join vs id other b c (λ j u. Kn r.next r.serving r.made r.last j u u.stage) record { has_fixed = kv.0; members = members_append r.made r.last (members_of w) (members_of v) kw.1 kv.1; counted = (let pv = kv.2 in let pw = kw.2 in let la = length-append (members_of w) (members_of v) in omega arith) } refl (λ j u _ _ e. r.each j u e);
        apart = λ i j x y ex ey. after_join vs id other b c (λ i x. Ap i x j y)
            (after_join vs id other b c (λ j y. Ap id b j y) ((λ _ _ _. refl), λ _ _ _. refl) (m.apart_sym story maker fixed k other c id b (with_c other id b)) with_b j y ey)
            (with_c other j y)
            (λ i x ni no e. after_join vs id other b c (λ j y. Ap i x j y) (m.apart_sym story maker fixed k id b i x (with_b i x ni no e)) (m.apart_sym story maker fixed k other c i x (with_c other i x)) (λ j y _ _ e'. r.apart i j x y e e') j y ey)
            i x ex;
        witnessed = ⊎_elim (λ t. inl t) (λ t. inr (dite (ℕ_discrete t.0 id)
            (λ e. (id, b, at_b, seen_right (members_of w) (members_of v) r.last (subst (λ (z : V). AnyHasSeen (members_of z) r.last) (m.same_view story maker fixed k vs t.0 id t.1 v t.2 at e) t.3)))
            (λ no. dite (ℕ_discrete t.0 other)
            (λ e. (id, b, at_b, seen_left (members_of w) (members_of v) r.last (subst (λ (z : V). AnyHasSeen (members_of z) r.last) (m.same_view story maker fixed k vs t.0 other t.1 w t.2 at0 e) t.3)))
            (λ not. (t.0, t.1, set_else (set vs id b) other t.0 c not ∙ (set_else vs id t.0 b no ∙ t.2), t.3))))) r.witnessed;
        slot = m.slot_stays story maker fixed k record { words = s.words; homes = s.homes; views = set vs id b } other w c s.words r.last at' fw.1 refl (m.slot_stays story maker fixed k s id v b s.words r.last at fv.1 refl r.slot);
      }

  named_parts : (next serving made : ℕ) (last : List E) (j : ℕ) (u : V) (a : Stage) → Kn next serving made last j u a → 0 < length (members_at a u) → 0 < u.share
  named_parts next serving made last j u Maker h p = absurd (omega arith)
  named_parts next serving made last j u Outside h p = let one = h.stands_for_one in omega arith
  named_parts next serving made last j u Waiting h p = let one = h.owns.stands_for_one in omega arith
  named_parts next serving made last j u Inside h p = let one = h.owns.stands_for_one in omega arith
  named_parts next serving made last j u Note h p = absurd (omega arith)
  named_parts next serving made last j u Closing h p = let one = h.counted in omega arith
  named_parts next serving made last j u Spent h p = absurd (omega arith)

  -- beside a view that stands for all seats no other has a number
  nobody_else : (s : St) (r : K s) (id : ℕ) (v : V) (j : ℕ) (u : V) → get_elem? s.views id ≡ some v → v.share ≡ k.seats → j ≢ id → get_elem? s.views j ≡ some u → 0 < length (members_of u) → ⊥
  nobody_else s r id v j u at all ne e named = let two = total_two share_of s.views id j v u (λ z. ne (sym z)) at e in
      let some = named_parts r.next r.serving r.made r.last j u u.stage (r.each j u e) named in let sum = r.shares in omega arith

  -- who has taken in all seats knows where the state is
  pub ends : (id : ℕ) (v : V) (ws : List ℕ) (xs : List (Option S)) → is_at_rest v.stage ≡ 1 → v.share ≡ k.seats → Final (Seen K id v) ws xs
      → (x : S) × (get_elem? xs 0 ≡ some (Some x)) × (fixed x ≡ fixed_value) × AreMembers maker k.seats (story x) (members_of v) × ((n : ℕ) → ¬ HasNumber (members_of v) n → entries_of maker n (story x) ≡ entries_of maker n first) × ((story x ≡ first) ⊎ AnyHasSeen (members_of v) (story x))
  ends id v ws xs is all f = let s : St = f.0 in let r = f.1.0 in let at = f.1.1 in let kv = still_members r.next r.serving r.made r.last id v v.stage is (r.each id v at) in ⊎_elim
      (λ home. let x : S = home.state in (
        x,
        f.4 0 (Some x) (ap (λ l. get_elem? l 0) home.in_slot),
        home.has_fixed,
        subst (λ (l : List E). AreMembers maker k.seats l (members_of v)) (sym home.history) (members_widen r.made k.seats r.last (members_of v) r.within kv.1),
        (λ n none. ap (entries_of maker n) home.history ∙ r.others n (λ j u e p. dite (ℕ_discrete j id)
            (λ same. none (subst (λ (z : V). HasNumber (members_of z) n) (m.same_view story maker fixed k s.views j id u v e at same) p))
            (λ no. nobody_else s r id v j u at all no e (number_some (members_of u) n p)))),
        ⊎_elim (λ t. inl (home.history ∙ t)) (λ t. inr (subst (λ (l : List E). AnyHasSeen (members_of v) l) (sym home.history) (dite (ℕ_discrete t.0 id)
            (λ e. subst (λ (z : V). AnyHasSeen (members_of z) r.last) (m.same_view story maker fixed k s.views t.0 id t.1 v t.2 at e) t.3)
            (λ no. absurd (nobody_else s r id v t.0 t.1 at all no t.2 (seen_some (members_of t.1) r.last t.3)))))) r.witnessed,
      ))
      (λ away. let h : ℕ = away.holder in let u : V = away.view in let ku = m.knows story maker fixed k s r h u Inside away.found away.has_turn in
      let apart : id ≢ h = λ e. m.out story maker fixed k v.stage (still_free v.stage is).1 (ap (λ (z : V). z.stage) (sym (m.same_view story maker fixed k s.views h id u v away.found at (sym e))) ∙ away.has_turn) in
      let two = total_two share_of s.views id h v u apart at away.found in let one = ku.owns.stands_for_one in let sum = r.shares in absurd (omega arith))
      r.slot
