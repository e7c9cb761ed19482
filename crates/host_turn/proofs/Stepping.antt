-- The steps of a seat keep the rule of the turn lock.
use Rattle.std.proofs.Common.{◌≡◌, ◌≢◌, ◌⊎◌, ℕ, ◌+◌, ◌%◌, ◌^◌, ◌<◌, ◌≤◌, List, [], ◌∷◌, get_or, set, sym, refl, ap, subst, ◌∙◌, inl, inr, ⊎_elim, append-nil, arith}
use Rattle.std.proofs.Math.Nat.{mod-add-mod}
use Rattle.std.specs.Prelude.{Option, Some, None}
use Rattle.std.specs.Option.{unwrap_or}
use mathlib.Core.Option.{none, some, some-injective, some-ne-none}
use mathlib.Core.Option as maybe
use mathlib.Core.List.{IsPrefix}
use mathlib.Core.Logic.{dite}
use native.Mathlib.Decide.{ℕ_discrete}
use lib.ListN.{get_elem?}
use Rattle.atomic_table.specs.Table.{State, Me, step, keeps, takes, gives, Allows, homes_after, rest}
use Rattle.atomic_table.proofs.Lists.{at_set, set_again, set_else, one_turn}
use Rattle.host_turn.specs.{Opening, View, Stage, Maker, Outside, Waiting, Inside, Note, Closing, Spent, has_ticket, tickets_of, share_of, waiting_view, inside_view, outside_view, merged_view, members_at, members_of, IsOpeningOrSeen, IsFree, Owns, Knows, Apart, AtHome, Away, OneHistory, DrawsTicket, TakesTurn, PassesTurn, MergesTold, held_history}
use Rattle.host_log.specs.{entries_of, Adds, longer, Continues, HasNumber, AnyHasSeen, total}
use Rattle.host_log.proofs.Totals.{total_set, total_le}
use Rattle.host_log.proofs.Histories.{prefix_nil, prefix_trans, adds_none, prefix_same}
use Rattle.host_log.proofs.Places.{here}
use Rattle.host_log.proofs.Seeing.{continues_on, all_go_on, seen_all, is_told}

module _ {S E F : Type 0} (story : S → List E) (maker : E → ℕ) (fixed : S → F) (k : Opening S) where
  abbrev pub V : Type 0
  V = View E F

  abbrev pub St : Type 0
  St = State (Option S) V

  abbrev pub K : St → Type 0
  K = OneHistory story maker fixed k

  abbrev pub first : List E
  first = story k.state.value

  abbrev pub fixed_value : F
  fixed_value = fixed k.state.value

  abbrev pub Kn : ℕ → ℕ → ℕ → List E → ℕ → V → Type 0
  Kn next serving made last j u = Knows maker next serving made k.seats first last fixed_value j u u.stage

  abbrev pub Ap : ℕ → V → ℕ → V → Type 0
  Ap = Apart story maker fixed

  pub apart_sym : (i : ℕ) (v : V) (j : ℕ) (w : V) → Ap i v j w → Ap j w i v
  apart_sym i v j w a = ((λ n p q. sym (a.0 n q p)), λ p q e. sym (a.1 q p (sym e)))

  pub same_view : (views : List V) (h id : ℕ) (u v : V) → get_elem? views h ≡ some u → get_elem? views id ≡ some v → h ≡ id → u ≡ v
  same_view views h id u v a b e = some-injective u v (sym a ∙ (ap (λ i. get_elem? views i) e ∙ b))

  -- a number that is free where one view changed was so before, if the view keeps its numbers
  pub free_before : (views : List V) (id : ℕ) (v w : V) (n : ℕ) → get_elem? views id ≡ some v → (HasNumber (members_of v) n → HasNumber (members_of w) n) → IsFree story maker fixed (set views id w) n → IsFree story maker fixed views n
  free_before views id v w n at names free j u e p = dite (ℕ_discrete j id)
      (λ same. free id w (here views id v w at) (names (subst (λ (z : V). HasNumber (members_of z) n) (same_view views j id u v e at same) p)))
      (λ ne. free j u (set_else views id j w ne ∙ e) p)

  -- what stays where one view changes
  pub moved : (s : St) (r : K s) (id : ℕ) (v w : V) (words' : List ℕ) (homes' : List (maybe.Option (Option S))) (next' serving' : ℕ) (last' : List E)
      → get_elem? s.views id ≡ some v → words' ≡ next' % 2 ^ 64 ∷ serving' % 2 ^ 64 ∷ [] → next' + r.serving + tickets_of v ≡ r.next + serving' + tickets_of w → share_of w ≡ share_of v
      → ((n : ℕ) → HasNumber (members_of v) n → HasNumber (members_of w) n) → ((n : ℕ) → ¬ HasNumber (members_of v) n → entries_of maker n last' ≡ entries_of maker n r.last) → Kn next' serving' r.made last' id w
      → ((j : ℕ) (u : V) → j ≢ id → get_elem? s.views j ≡ some u → Kn next' serving' r.made last' j u)
      → ((j : ℕ) (u : V) → j ≢ id → get_elem? s.views j ≡ some u → Ap id w j u)
      → AtHome story maker fixed k record { words = words'; homes = homes'; views = set s.views id w } last' ⊎ Away story maker fixed k record { words = words'; homes = homes'; views = set s.views id w } last'
      → IsOpeningOrSeen story maker fixed first (set s.views id w) last'
      → K record { words = words'; homes = homes'; views = set s.views id w }
  moved s r id v w words' homes' next' serving' last' at words count same names still mine rest apart slot witnessed =
      let q = total_set tickets_of s.views id v w at in let p = total_set share_of s.views id v w at in let d = r.drawn in record {
        next = next';
        serving = serving';
        made = r.made;
        last = last';
        words = words;
        drawn = omega arith;
        shares = (let e : total share_of (set s.views id w) ≡ total share_of s.views = omega arith in e) ∙ r.shares;
        few = r.few;
        within = r.within;
        others = λ n none. let before = free_before s.views id v w n at (names n) none in still n (before id v at) ∙ r.others n before;
        each = λ j u e. ⊎_elim (λ t. subst (λ (z : ℕ × V). Kn next' serving' r.made last' z.0 z.1) (λ i. (sym t.0 i, t.1 i)) mine) (λ t. rest j u t.0 t.1) (at_set s.views id j w u e);
        apart = λ i j a b ea eb. ⊎_elim
            (λ t. ⊎_elim (λ t'. let e : i ≡ j = t.0 ∙ sym t'.0 in ((λ _ _ _. e), λ _ _ _. e)) (λ t'. subst (λ (z : ℕ × V). Ap z.0 z.1 j b) (λ l. (sym t.0 l, t.1 l)) (apart j b t'.0 t'.1)) (at_set s.views id j w b eb))
            (λ t. ⊎_elim (λ t'. apart_sym j b i a (subst (λ (z : ℕ × V). Ap z.0 z.1 i a) (λ l. (sym t'.0 l, t'.1 l)) (apart i a t.0 t.1))) (λ t'. r.apart i j a b t.1 t'.1) (at_set s.views id j w b eb))
            (at_set s.views id i w a ea);
        witnessed = witnessed;
        slot = slot;
      }

  abbrev pub M : Type 0
  M = Me (Option S) V

  abbrev pub is_inside : Stage → ℕ
  is_inside Inside = 1
  is_inside _ = 0

  pub out : (a : Stage) → is_inside a ≡ 0 → a ≢ Inside
  out a z e = let o : is_inside a ≡ 1 = ap is_inside e in omega arith

  -- the slot, where a view changes that hasn't the turn
  pub slot_stays : (s : St) (id : ℕ) (v w : V) (words' : List ℕ) (last : List E) → get_elem? s.views id ≡ some v → is_inside v.stage ≡ 0 → is_inside w.stage ≡ 0
      → AtHome story maker fixed k s last ⊎ Away story maker fixed k s last
      → AtHome story maker fixed k record { words = words'; homes = s.homes; views = set s.views id w } last ⊎ Away story maker fixed k record { words = words'; homes = s.homes; views = set s.views id w } last
  slot_stays s id v w words' last at a b c = ⊎_elim
      (λ home. inl record {
        state = home.state;
        in_slot = home.in_slot;
        history = home.history;
        has_fixed = home.has_fixed;
        nobody = λ j u e. ⊎_elim (λ z. out u.stage (ap (λ (y : V). is_inside y.stage) (sym z.1) ∙ b)) (λ z. home.nobody j u z.1) (at_set s.views id j w u e);
      })
      (λ away. let ne : away.holder ≢ id = λ e. out v.stage a (ap (λ (y : V). y.stage) (sym (same_view s.views away.holder id away.view v away.found at e)) ∙ away.has_turn) in
      inr record { holder = away.holder; view = away.view; found = set_else s.views id away.holder w ne ∙ away.found; has_turn = away.has_turn; slot_out = away.slot_out })
      c

  -- somebody has still seen the whole story
  pub witness_stays : (views : List V) (id : ℕ) (v w : V) (last : List E) → get_elem? views id ≡ some v → (AnyHasSeen (members_of v) last → AnyHasSeen (members_of w) last) → IsOpeningOrSeen story maker fixed first views last → IsOpeningOrSeen story maker fixed first (set views id w) last
  witness_stays views id v w last at f c = ⊎_elim (λ t. inl t)
      (λ t. dite (ℕ_discrete t.0 id)
      (λ e. inr (id, w, here views id v w at, f (subst (λ (z : V). AnyHasSeen (members_of z) last) (same_view views t.0 id t.1 v t.2 at e) t.3)))
      (λ ne. inr (t.0, t.1, set_else views id t.0 w ne ∙ t.2, t.3)))
      c

  later_ticket : (next next' serving made : ℕ) (last : List E) (j : ℕ) (u : V) (a : Stage) → next ≤ next' → Knows maker next serving made k.seats first last fixed_value j u a
      → Knows maker next' serving made k.seats first last fixed_value j u a
  later_ticket next next' serving made last j u Maker le h = h
  later_ticket next next' serving made last j u Outside le h = h
  later_ticket next next' serving made last j u Waiting le h = let drawn = h.drawn in record { owns = h.owns; not_past = h.not_past; drawn = omega arith }
  later_ticket next next' serving made last j u Inside le h = let drawn = h.drawn in record { owns = h.owns; served = h.served; drawn = omega arith; seen_all = h.seen_all }
  later_ticket next next' serving made last j u Note le h = h
  later_ticket next next' serving made last j u Closing le h = h
  later_ticket next next' serving made last j u Spent le h = h

  below_next : (next serving made : ℕ) (last : List E) (j : ℕ) (u : V) (a : Stage) → has_ticket a ≡ 1 → Knows maker next serving made k.seats first last fixed_value j u a → u.ticket < next
  below_next next serving made last j u Maker q h = absurd (omega arith)
  below_next next serving made last j u Outside q h = absurd (omega arith)
  below_next next serving made last j u Waiting q h = h.drawn
  below_next next serving made last j u Inside q h = h.drawn
  below_next next serving made last j u Note q h = absurd (omega arith)
  below_next next serving made last j u Closing q h = absurd (omega arith)
  below_next next serving made last j u Spent q h = absurd (omega arith)

  pub knows : (s : St) (r : K s) (id : ℕ) (v : V) (a : Stage) → get_elem? s.views id ≡ some v → v.stage ≡ a → Knows maker r.next r.serving r.made k.seats first r.last fixed_value id v a
  knows s r id v a at is = subst (λ (z : Stage). Knows maker r.next r.serving r.made k.seats first r.last fixed_value id v z) is (r.each id v at)

  -- the numbers of a seat stay apart from the others'
  pub names_apart : (s : St) (r : K s) (id : ℕ) (v : V) (a : Stage) → get_elem? s.views id ≡ some v → v.stage ≡ a → (j : ℕ) (u : V) → get_elem? s.views j ≡ some u
      → (n : ℕ) → HasNumber (members_at a v) n → HasNumber (members_of u) n → id ≡ j
  names_apart s r id v a at is j u e n p q = (r.apart id j v u at e).0 n (subst (λ (z : Stage). HasNumber (members_at z v) n) (sym is) p) q

  pub draw_allowed : (n id : ℕ) (me : M) → me.0.stage ≡ Outside → Allows K n id me 0 (λ x. (x + 1) % 2 ^ 64) (DrawsTicket story maker fixed (step n 0 1 0 none) me)
  draw_allowed n id me is s r wide at small = let v : V = me.0 in let t : ℕ = r.next in let w : V = waiting_view v t in let own = knows s r id v Outside at is in let d = r.drawn in
      let q : has_ticket v.stage ≡ 0 = ap has_ticket is in (
        w,
        keeps,
        tt,
        moved s r id v w (set s.words 0 ((get_or s.words 0 0 + 1) % 2 ^ 64)) s.homes (t + 1) r.serving r.last at
            ((λ i. set (r.words i) 0 ((get_or (r.words i) 0 0 + 1) % 2 ^ 64)) ∙ ap (λ z. z ∷ r.serving % 2 ^ 64 ∷ []) (mod-add-mod t (2 ^ 64) 1))
            (omega arith) refl (λ m p. subst (λ (z : Stage). HasNumber (members_at z v) m) is p) (λ _ _. refl) record {
              owns = record { member = own.member; told_begins = own.told_begins; has_fixed = own.has_fixed; stands_for_one = own.stands_for_one; told_has_fixed = own.told_has_fixed };
              not_past = omega arith;
              drawn = omega arith;
            } (λ j u _ e. later_ticket t (t + 1) r.serving r.made r.last j u u.stage (omega arith) (r.each j u e))
            (λ j u ne e. (names_apart s r id v Outside at is j u e, λ _ two same. let l = below_next t r.serving r.made r.last j u u.stage two (r.each j u e) in absurd (omega arith)))
            (slot_stays s id v w (set s.words 0 ((get_or s.words 0 0 + 1) % 2 ^ 64)) r.last at (ap is_inside is) refl r.slot)
            (witness_stays s.views id v w r.last at (λ e. subst (λ (z : Stage). AnyHasSeen (members_at z v) r.last) is e) r.witnessed),
        (t, refl, ap (λ l. get_or l 0 0) r.words),
      )

  ticket_le_share : (next serving made : ℕ) (last : List E) (j : ℕ) (u : V) (a : Stage) → Knows maker next serving made k.seats first last fixed_value j u a → has_ticket a ≤ u.share
  ticket_le_share next serving made last j u Maker h = omega arith
  ticket_le_share next serving made last j u Outside h = omega arith
  ticket_le_share next serving made last j u Waiting h = let one = h.owns.stands_for_one in omega arith
  ticket_le_share next serving made last j u Inside h = let one = h.owns.stands_for_one in omega arith
  ticket_le_share next serving made last j u Note h = omega arith
  ticket_le_share next serving made last j u Closing h = omega arith
  ticket_le_share next serving made last j u Spent h = omega arith

  -- fewer tickets are out than a word can tell apart
  pub short_queue : (s : St) (r : K s) → r.next < r.serving + 2 ^ 64
  short_queue s r = let few = r.few in let all = r.shares in let d = r.drawn in
      let le = total_le tickets_of share_of s.views (λ j v e. ticket_le_share r.next r.serving r.made r.last j v v.stage (r.each j v e)) in omega arith

  same_word : (s : St) (r : K s) → set s.words 1 (get_or s.words 1 0) ≡ r.next % 2 ^ 64 ∷ r.serving % 2 ^ 64 ∷ []
  same_word s r = λ i. set (r.words i) 1 (get_or (r.words i) 1 0)

  -- a load that tells nothing
  unmoved : (s : St) (r : K s) (id : ℕ) (v : V) → get_elem? s.views id ≡ some v → K record { words = set s.words 1 (get_or s.words 1 0); homes = s.homes; views = set s.views id v }
  unmoved s r id v at = let p : s.words ≡ set s.words 1 (get_or s.words 1 0) = r.words ∙ sym (same_word s r) in
      subst K (λ i. record { words = p i; homes = s.homes; views = sym (set_again s.views id v at) i }) r

  pub take_allowed : (n id : ℕ) (me : M) → me.0.stage ≡ Waiting → Allows K n id me 1 (λ x. x) (TakesTurn story maker fixed (step n 1 0 0 none) me)
  take_allowed n id me is s r wide at small = let v : V = me.0 in let t : ℕ = v.ticket in let y : ℕ = get_or s.words 1 0 in let kn = knows s r id v Waiting at is in let own = kn.owns in
      let found : y ≡ r.serving % 2 ^ 64 = ap (λ l. get_or l 1 0) r.words in dite (ℕ_discrete y (t % 2 ^ 64))
      (λ hit. let few = short_queue s r in let above = kn.not_past in let below = kn.drawn in
      let same : r.serving ≡ t = one_turn r.serving t (2 ^ 64) above (omega arith) (sym found ∙ hit) in ⊎_elim
      (λ home. let x : S = home.state in let w : V = inside_view v (story x) in let told : story x ≡ r.last = home.history in (
        w,
        takes 0 (Some x),
        ap (λ l. get_elem? l 0) home.in_slot,
        moved s r id v w (set s.words 1 y) (set s.homes 0 none) r.next r.serving r.last at (same_word s r) (let q : has_ticket v.stage ≡ 1 = ap has_ticket is in omega arith) refl (λ m p. subst (λ (z : Stage). HasNumber (members_at z v) m) is p) (λ _ _. refl)
            record {
              owns = record { member = ((([], append-nil (story x) ∙ told), ap (entries_of maker v.number) (sym told)), own.member.1); told_begins = own.told_begins; has_fixed = own.has_fixed; stands_for_one = own.stands_for_one; told_has_fixed = own.told_has_fixed };
              served = sym same;
              drawn = below;
              seen_all = told;
            }
            (λ j u _ e. r.each j u e) (λ j u _ e. (names_apart s r id v Waiting at is j u e, λ _ two eq. (r.apart id j v u at e).1 (ap has_ticket is) two eq))
            (inr record { holder = id; view = w; found = here s.views id v w at; has_turn = refl; slot_out = ap (λ l. set l 0 none) home.in_slot }) (inr (id, w, here s.views id v w at, inl told)),
        (
          (λ _. (x, refl, (subst (λ (l : List E). Continues maker v.number v.seen l) (sym told) own.member.0, own.has_fixed ∙ ap Some (sym home.has_fixed)))),
          λ ne. absurd (ne hit),
        ),
      ))
      (λ away. let h : ℕ = away.holder in let u : V = away.view in let held = knows s r h u Inside away.found away.has_turn in
      let e : h ≡ id = (r.apart h id u v away.found at).1 (ap has_ticket away.has_turn) (ap has_ticket is) (held.served ∙ same) in
      absurd (out v.stage (ap is_inside is) (ap (λ (z : V). z.stage) (sym (same_view s.views h id u v away.found at e)) ∙ away.has_turn)))
      r.slot)
      (λ miss. (v, keeps, tt, unmoved s r id v at, ((λ hit. absurd (miss hit)), λ _. refl)))

  owns_on : (made : ℕ) (last last' : List E) (u : V) → IsPrefix last last' → entries_of maker u.number last' ≡ entries_of maker u.number last → Owns maker made last fixed_value u → Owns maker made last' fixed_value u
  owns_on made last last' u ext same h = record { member = (continues_on maker u.number u.seen last last' h.member.0 (ext, same), h.member.1); told_begins = prefix_trans u.told last last' h.told_begins ext; has_fixed = h.has_fixed; stands_for_one = h.stands_for_one; told_has_fixed = h.told_has_fixed }

  -- the turn passes on, after entries that aren't of this seat
  served : (next serving made : ℕ) (last last' : List E) (j : ℕ) (u : V) (a : Stage) → IsPrefix last last' → ((n : ℕ) → HasNumber (members_at a u) n → entries_of maker n last' ≡ entries_of maker n last) → (has_ticket a ≡ 1 → u.ticket ≢ serving)
      → Knows maker next serving made k.seats first last fixed_value j u a → Knows maker next (serving + 1) made k.seats first last' fixed_value j u a
  served next serving made last last' j u Maker ext same ne h = record { is_first = h.is_first; next_number = h.next_number; to_make = h.to_make; seen_first = h.seen_first; has_fixed = h.has_fixed; begins = prefix_trans u.seen last last' h.begins ext }
  served next serving made last last' j u Outside ext same ne h = owns_on made last last' u ext (same u.number (inl refl)) h
  served next serving made last last' j u Waiting ext same ne h = let n = ne refl in let le = h.not_past in
      record { owns = owns_on made last last' u ext (same u.number (inl refl)) h.owns; not_past = omega arith; drawn = h.drawn }
  served next serving made last last' j u Inside ext same ne h = absurd (ne refl h.served)
  served next serving made last last' j u Note ext same ne h = record { begins = prefix_trans u.seen last last' h.begins ext; has_fixed = h.has_fixed; stands_for_none = h.stands_for_none }
  served next serving made last last' j u Closing ext same ne h = record { has_fixed = h.has_fixed; members = (all_go_on maker last last' u.members ext same h.members.0, h.members.1); counted = h.counted }
  served next serving made last last' j u Spent ext same ne h = h

  pub pass_allowed : (n id : ℕ) (me : M) (x : S) → me.0.stage ≡ Inside → me.1 ≡ (0, Some x) ∷ [] → me.0.fixed ≡ Some (fixed x) → Adds maker me.0.number me.0.seen (story x)
      → Allows K n id me 1 (λ y. (y + 1) % 2 ^ 64) (PassesTurn story maker fixed (step n 1 1 0 none) me)
  pass_allowed n id me x is has same_fixed add s r wide at small = let v : V = me.0 in let ys : List E = held_history story maker fixed me.1 in let w : V = outside_view v ys in
      let kn = knows s r id v Inside at is in let own = kn.owns in let its : ys ≡ story x = ap (held_history story maker fixed) has in
      let more : Adds maker v.number r.last ys = subst (λ (z : List E × List E). Adds maker v.number z.0 z.1) (λ i. (kn.seen_all i, sym its i)) add in
      let ext : IsPrefix r.last ys = (more.0, sym more.1) in let d = r.drawn in ⊎_elim
      (λ home. absurd (home.nobody id v at is))
      (λ away. (
        w,
        gives,
        tt,
        moved s r id v w (set s.words 1 ((get_or s.words 1 0 + 1) % 2 ^ 64)) (homes_after s.homes me.1 gives) r.next (r.serving + 1) ys at
            ((λ i. set (r.words i) 1 ((get_or (r.words i) 1 0 + 1) % 2 ^ 64)) ∙ ap (λ z. r.next % 2 ^ 64 ∷ z ∷ []) (mod-add-mod r.serving (2 ^ 64) 1))
            (let q : has_ticket v.stage ≡ 1 = ap has_ticket is in omega arith) refl
            (λ m p. subst (λ (z : Stage). HasNumber (members_at z v) m) is p)
            (λ m none. adds_none maker v.number m r.last ys (λ e. none (subst (λ (z : Stage). HasNumber (members_at z v) m) (sym is) (inl (sym e)))) more)
            record { member = (seen_all maker ys v.number, own.member.1); told_begins = prefix_trans v.told r.last ys own.told_begins ext; has_fixed = own.has_fixed; stands_for_one = own.stands_for_one; told_has_fixed = own.told_has_fixed }
            (λ j u ne e. served r.next r.serving r.made r.last ys j u u.stage ext
            (λ m p. adds_none maker v.number m r.last ys (λ same. ne (sym (names_apart s r id v Inside at is j u e m (inl (sym same)) p))) more)
            (λ two same. ne (sym ((r.apart id j v u at e).1 (ap has_ticket is) two (kn.served ∙ sym same))))
            (r.each j u e))
            (λ j u ne e. (names_apart s r id v Inside at is j u e, λ z _ _. absurd (omega arith)))
            (inl record {
              state = x;
              in_slot = λ i. homes_after (away.slot_out i) (has i) gives;
              history = sym its;
              has_fixed = ap (λ o. unwrap_or o fixed_value) (sym same_fixed ∙ own.has_fixed);
              nobody = λ j u e. ⊎_elim (λ t. out u.stage (ap (λ (z : V). is_inside z.stage) (sym t.1)))
                  (λ t ins. t.0 (sym ((r.apart id j v u at t.1).1 (ap has_ticket is) (ap has_ticket ins) (kn.served ∙ sym (knows s r j u Inside t.1 ins).served))))
                  (at_set s.views id j w u e);
            })
            (inr (id, w, here s.views id v w at, inl refl)),
        refl,
      ))
      r.slot

  pub merge_allowed : (n id : ℕ) (me : M) → me.0.stage ≡ Outside → Allows K n id me 1 (λ x. x) (MergesTold story maker fixed (step n 1 0 0 none) me)
  merge_allowed n id me is s r wide at small = let v : V = me.0 in let w : V = merged_view v in let own = knows s r id v Outside at is in
      let meeting = is_told maker r.last (v.number, v.seen) v.told own.member.0 own.told_begins in (
        w,
        keeps,
        tt,
        moved s r id v w (set s.words 1 (get_or s.words 1 0)) s.homes r.next r.serving r.last at (same_word s r) refl refl
            (λ m p. subst (λ (z : Stage). HasNumber (members_at z w) m) (sym is) (subst (λ (z : Stage). HasNumber (members_at z v) m) is p)) (λ _ _. refl)
            (subst (λ (z : Stage). Knows maker r.next r.serving r.made k.seats first r.last fixed_value id w z) (sym is)
            record { member = (meeting.0, own.member.1); told_begins = prefix_nil r.last; has_fixed = own.has_fixed; stands_for_one = own.stands_for_one; told_has_fixed = own.told_has_fixed })
            (λ j u _ e. r.each j u e)
            (λ j u ne e. (subst (λ (z : Stage). (m : ℕ) → HasNumber (members_at z w) m → HasNumber (members_of u) m → id ≡ j) (sym is) (names_apart s r id v Outside at is j u e), (r.apart id j v u at e).1))
            (slot_stays s id v w (set s.words 1 (get_or s.words 1 0)) r.last at (ap is_inside is) (ap is_inside is) r.slot)
            (witness_stays s.views id v w r.last at
            (λ e. subst (λ (z : Stage). AnyHasSeen (members_at z w) r.last) (sym is) (⊎_elim (λ whole. inl (prefix_same v.seen (longer v.seen v.told) r.last meeting.1.0 meeting.0.0 whole)) (λ none. absurd none) (subst (λ (z : Stage). AnyHasSeen (members_at z v) r.last) is e)))
            r.witnessed),
        (refl, meeting.2, meeting.1, own.told_has_fixed ∙ sym own.has_fixed),
      )

  -- the same, for a seat that has just put its state into the slot
  pub hands_on : (n id : ℕ) (me old : M) (x : S) → me ≡ (old.0, (0, Some x) ∷ rest old.1) → old.0.stage ≡ Inside → old.1 ≡ (0, None) ∷ [] → old.0.fixed ≡ Some (fixed x) → Adds maker old.0.number old.0.seen (story x)
      → Allows K n id me 1 (λ y. (y + 1) % 2 ^ 64) (PassesTurn story maker fixed (step n 1 1 0 none) me)
  hands_on n id me old x is st has same_fixed add = let P : M → Type 0 = λ z. Allows K n id z 1 (λ y. (y + 1) % 2 ^ 64) (PassesTurn story maker fixed (step n 1 1 0 none) z) in
      subst P (sym is) (pass_allowed n id (old.0, (0, Some x) ∷ rest old.1) x st (ap (λ l. (0, Some x) ∷ rest l) has) same_fixed add)

first_held : {A : Type 0} (l old : List (ℕ × A)) (x : A) → l ≡ (0, x) ∷ old → (y : A) × (l ≡ (0, y) ∷ rest l)
first_held l old x e = (x, e ∙ ap (λ t. (0, x) ∷ t) (sym (ap rest e)))

-- a seat that is served has the slot
pub served_slot : {S E F : Type 0} (story : S → List E) (maker : E → ℕ) (fixed : S → F) (n : ℕ) (me : Me (Option S) (View E F)) (r ticket : ℕ) (me' : Me (Option S) (View E F)) → TakesTurn story maker fixed (step n 1 0 0 none) me r me'
    → ticket ≡ me.0.ticket % 2 ^ 64 → r ≡ ticket → (y : Option S) × (me'.1 ≡ (0, y) ∷ rest me'.1)
served_slot story maker fixed n me r ticket me' told is hit = let got = told.0 (hit ∙ is) in first_held me'.1 me.1 (Some got.0) (ap (λ m. m.1) got.1)
