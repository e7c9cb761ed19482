-- The hands are taken apart, and the sessions are ended.
use Rattle.std.proofs.Common.{◌≡◌, ◌⊎◌, inl, inr, ℕ, zero, suc, ◌+◌, ◌<◌, ◌≤◌, List, [], ◌∷◌, ◌++◌, length, map, reverse, All, Option, Some, None, refl, sym, ap, subst, ◌∙◌, arith, length-append, append-nil, append_assoc, vec_capacity, Bool}
use Rattle.std.specs.Prelude.{slice_get, slice_set}
use Rattle.std.specs.List.{cons_option}
use Rattle.std.proofs.lemmas.Bool.{cases_lt}
use Rattle.std.proofs.lemmas.List.{length-reverse, length-set, map-append, reverse-append, reverse-reverse}
use Rattle.std.proofs.lemmas.List.Elements.{All-head, All-tail}
use Rattle.std.proofs.lemmas.Option.{none-some, same_Some, slice_get_within}
use Rattle.host_io.specs.declared.disk.Disk as disk
use Rattle.host_model.specs.{Event, MemEntry, TakenRow}
use Rattle.host_report.specs.{SessionReport}
use Rattle.host_session.specs.{SessionHand, ClientState, IsSessionWhole}
use Rattle.host_session.proofs.Snoc.{found_one}
use Rattle.host_worker.specs.{Hand, Session, SessionEnd, AreSessionsEnded, AreToEnd, IsSessionEndOf, IsToEnd, parts_in, IsSessionReportOf, report_of, HasOneMore, HaveOneMore}
use Rattle.host_worker.proofs.Dealt.{from_end}
use Rattle.host_log.proofs.Places.{some_at, get_middle, nil_of}
use Rattle.host_worker.proofs.Lists.{at_place, each_place, set_elsewhere, set_here}
use Rattle.host_worker.proofs.Places.{both_longer, both_one_less, from_above, last_below, not_last, reflexive, room_left, unlike_above, unlike_below, wider, within_equal}

-- ---- a share comes back

-- the sessions below place k got their part of a share
pub record IsPutBack (k : ℕ) (share : List SessionHand) (old now : List Session) : Type 0 where
  pub count : length now ≡ length old
  pub done : (j : ℕ) (s s' : Session) (h : SessionHand) → j < k → slice_get old j ≡ Some s → slice_get now j ≡ Some s' → slice_get share j ≡ Some h → HasOneMore s s' h
  pub rest : (j : ℕ) → k ≤ j → slice_get now j ≡ slice_get old j

pub back_more : (k : ℕ) (share : List SessionHand) (old mid new : List Session) (before after : Session) (h : SessionHand) → IsPutBack k share old mid → slice_get share k ≡ Some h → slice_get mid k ≡ Some before → new ≡ slice_set mid k after → HasOneMore before after h → IsPutBack (k + 1) share old new
back_more k share old mid new before after h b here stood left one = record {
  count = ap length left ∙ (length-set mid k after ∙ b.count);
  done = λ j s s' x less at at' there. done j s s' x (cases_lt j k) less at at' there;
  rest = λ j le. elsewhere j (unlike_above j k le) ∙ b.rest j (from_above j k le);
}
  where
    elsewhere : (j : ℕ) → (j ≡ k → ⊥) → slice_get new j ≡ slice_get mid j
    elsewhere j other = ap (λ (l : List Session). slice_get l j) left ∙ set_elsewhere mid k j after other

    done : (j : ℕ) (s s' : Session) (x : SessionHand) → (j < k) ⊎ (k ≤ j) → j < k + 1 → slice_get old j ≡ Some s → slice_get new j ≡ Some s' → slice_get share j ≡ Some x → HasOneMore s s' x
    done j s s' x (inl below) less at at' there = b.done j s s' x below at (sym (elsewhere j (unlike_below j k below)) ∙ at') there
    done j s s' x (inr above) less at at' there =
        let e : j ≡ k = last_below j k less above in
        let is_after : s' ≡ after = set_here mid k after s' (sym (ap (λ (l : List Session). slice_get l k) left) ∙ (ap (λ (n : ℕ). slice_get new n) (sym e) ∙ at')) in
        let q : Some before ≡ Some s = sym stood ∙ (b.rest k (reflexive k) ∙ (ap (λ (n : ℕ). slice_get old n) (sym e) ∙ at)) in
        let r : Some h ≡ Some x = sym here ∙ (ap (λ (n : ℕ). slice_get share n) (sym e) ∙ there) in
        let is_before : before ≡ s = same_Some before s q in
        let is_h : h ≡ x = same_Some h x r in
        subst (λ (y : SessionHand). HasOneMore s s' y) is_h (subst (λ (y : Session). HasOneMore s y h) (sym is_after) (subst (λ (y : Session). HasOneMore y after h) is_before one))

pub back_all : (share : List SessionHand) (old now : List Session) → length share ≡ length old → IsPutBack (length share) share old now → HaveOneMore old now share
back_all share old now n b = record { count = (b.count, n); each = λ k s s' h at at' here. b.done k s s' h (slice_get_within share k h here) at at' here }

-- ---- all shares come back

module _ {D : Type 0} {g : disk.Ghosts D} where
  -- these hands' parts came back
  pub record AreTakenBack (hands : List (Hand D g)) (old now : List Session) : Type 0 where
    pub count : length now ≡ length old
    pub each : (k : ℕ) (s s' : Session) → slice_get old k ≡ Some s → slice_get now k ≡ Some s' → (s'.spec ≡ s.spec) × (s'.shared ≡ s.shared) × (s'.opened ≡ s.opened) × (s'.hands.items ≡ s.hands.items ++ parts_in k hands) × (vec_capacity s'.hands ≡ vec_capacity s.hands)

  pub taken_more : (hands : List (Hand D g)) (hand : Hand D g) (old mid new : List Session) → AreTakenBack hands old mid → HaveOneMore mid new hand.sessions.items → AreTakenBack (hands ++ hand ∷ []) old new
  taken_more hands hand old mid new t m = record {
    count = m.count.0 ∙ t.count;
    each = λ k s s' at at'.
        let b = some_at mid k (within_equal k (length old) (length mid) (slice_get_within old k s at) t.count) in
        let h = some_at hand.sessions.items k (within_equal k (length mid) (length hand.sessions.items) (slice_get_within mid k b.0 b.1) m.count.1) in
        let e = t.each k s b.0 at b.1 in
        let o = m.each k b.0 s' h.0 b.1 at' h.1 in (
          o.same.0 ∙ e.0,
          o.same.1 ∙ e.1,
          o.same.2 ∙ e.2,
          o.hands ∙ (ap (λ (l : List SessionHand). l ++ h.0 ∷ []) e.3 ∙ (append_assoc s.hands.items (parts_in k hands) (h.0 ∷ [])
              ∙ ap (λ (l : List SessionHand). s.hands.items ++ l) (sym (found_one (λ (x : Hand D g). slice_get x.sessions.items k) hands hand h.0 h.1)))),
          o.room ∙ e.4,
        );
  }

  few_parts : (k : ℕ) (hands : List (Hand D g)) → length (parts_in k hands) ≤ length hands
  few_parts k [] = omega arith
  few_parts k (hand ∷ hands) = one (slice_get hand.sessions.items k) (few_parts k hands)
    where
      one : (o : Option SessionHand) → length (parts_in k hands) ≤ length hands → length (cons_option o (parts_in k hands)) ≤ length (hand ∷ hands)
      one None le = wider (length (parts_in k hands)) (length hands) le
      one (Some h) le = both_longer (length (parts_in k hands)) (length hands) le

  -- there is room for one more
  pub room_still : (hands : List (Hand D g)) (all : ℕ) (old now : List Session) → AreTakenBack hands old now → length hands < all → All (λ (s : Session). length s.hands.items + all ≤ vec_capacity s.hands) old → All (λ (s : Session). length s.hands.items < vec_capacity s.hands) now
  room_still hands all old now t less room = each_place (λ (s : Session). length s.hands.items < vec_capacity s.hands) now (λ k s' at'.
      let s = some_at old k (within_equal k (length now) (length old) (slice_get_within now k s' at') (sym t.count)) in
      let e = t.each k s.0 s' s.1 at' in
      let r = at_place (λ (x : Session). length x.hands.items + all ≤ vec_capacity x.hands) old k s.0 room s.1 in
      room_left (length s'.hands.items) (length s.0.hands.items) (length (parts_in k hands)) (length hands) all (vec_capacity s'.hands) (vec_capacity s.0.hands) (ap length e.3 ∙ length-append s.0.hands.items (parts_in k hands)) (few_parts k hands) less e.4 r)

  -- each hand has a part of session k
  pub part_at : (k : ℕ) (hands : List (Hand D g)) → All (λ (hand : Hand D g). k < length hand.sessions.items) hands → (n : ℕ) (h : SessionHand) → slice_get (parts_in k hands) n ≡ Some h → (hand : Hand D g) × (slice_get hands n ≡ Some hand) × (slice_get hand.sessions.items k ≡ Some h)
  part_at k [] all n h at = absurd (none-some h at)
  part_at k (hand ∷ hands) all n h at =
      let p = some_at hand.sessions.items k (All-head (λ (x : Hand D g). k < length x.sessions.items) hand hands all) in
      at_number n p.0 p.1 (ap (λ (o : Option SessionHand). slice_get (cons_option o (parts_in k hands)) n) (sym p.1) ∙ at) (λ m here. part_at k hands (All-tail (λ (x : Hand D g). k < length x.sessions.items) hand hands all) m h here)
    where
      at_number : (n : ℕ) (p : SessionHand) → slice_get hand.sessions.items k ≡ Some p → slice_get (p ∷ parts_in k hands) n ≡ Some h → ((m : ℕ) → slice_get (parts_in k hands) m ≡ Some h → (x : Hand D g) × (slice_get hands m ≡ Some x) × (slice_get x.sessions.items k ≡ Some h)) → (x : Hand D g) × (slice_get (hand ∷ hands) n ≡ Some x) × (slice_get x.sessions.items k ≡ Some h)
      at_number zero p is here rest = (hand, refl, is ∙ here)
      at_number (suc m) p is here rest = rest m here

  pub all_parts : (k : ℕ) (hands : List (Hand D g)) → All (λ (hand : Hand D g). k < length hand.sessions.items) hands → length (parts_in k hands) ≡ length hands
  all_parts k [] all = refl
  all_parts k (hand ∷ hands) all =
      let p = some_at hand.sessions.items k (All-head (λ (x : Hand D g). k < length x.sessions.items) hand hands all) in
      ap (λ (o : Option SessionHand). length (cons_option o (parts_in k hands))) p.1 ∙ ap suc (all_parts k hands (All-tail (λ (x : Hand D g). k < length x.sessions.items) hand hands all))

-- ---- the sessions are ended

-- the first sessions were ended; the others are left, the last first
pub record AreEndedSoFar (sessions : List Session) (clients : List ClientState) (left_s : List Session) (left_c : List ClientState) (ends : List SessionReport) : Type 0 where
  pub done_s : List Session
  pub done_c : List ClientState
  pub s_are : sessions ≡ done_s ++ reverse left_s
  pub c_are : clients ≡ done_c ++ reverse left_c
  pub even : length done_c ≡ length done_s
  pub left_even : length left_c ≡ length left_s
  pub ended : AreSessionsEnded done_s done_c ends

pub ended_none : (sessions : List Session) (clients : List ClientState) (left_s : List Session) (left_c : List ClientState) → length clients ≡ length sessions → left_s ≡ reverse sessions → left_c ≡ reverse clients → AreEndedSoFar sessions clients left_s left_c []
ended_none sessions clients left_s left_c n s c = record {
  done_s = [];
  done_c = [];
  s_are = sym (ap reverse s ∙ reverse-reverse sessions);
  c_are = sym (ap reverse c ∙ reverse-reverse clients);
  even = refl;
  left_even = ap length c ∙ (length-reverse clients ∙ (n ∙ (sym (length-reverse sessions) ∙ sym (ap length s))));
  ended = record { count = refl; each = λ k s c e at. absurd (none-some s at) };
}

-- what a report says of a session that ended so
pub end_as_reported : (s : Session) (c : ClientState) (end : SessionEnd) (report : SessionReport) → IsSessionEndOf s c (report_of end) → IsSessionReportOf end report → IsSessionEndOf s c report
end_as_reported s c end report is says = record {
  spec = (says.place.0 ∙ is.spec.0, says.place.1 ∙ is.spec.1, says.place.2 ∙ is.spec.2);
  finish = is.finish ∙ ap Some (sym says.finish);
  whole = subst (λ (l : List Event). IsSessionWhole c s.hands.items l report.taken.items report.memory.items) (sym says.log)
      (subst (λ (l : List TakenRow). IsSessionWhole c s.hands.items end.logs.log.items l report.memory.items) (sym says.rows)
      (subst (λ (l : List MemEntry). IsSessionWhole c s.hands.items end.logs.log.items end.logs.rows.items l) (sym says.memory) is.whole));
}

module _ (sessions : List Session) (clients : List ClientState) (left_s more_s : List Session) (left_c more_c : List ClientState) (ends : List SessionReport)
    (keeps : Bool) (t : AreToEnd keeps sessions clients) (d : AreEndedSoFar sessions clients left_s left_c ends) (s : Session) (c : ClientState) (s_is : left_s ≡ more_s ++ s ∷ []) (c_is : left_c ≡ more_c ++ c ∷ []) where
  s_rest : sessions ≡ d.done_s ++ s ∷ reverse more_s
  s_rest = d.s_are ∙ ap (λ (l : List Session). d.done_s ++ l) (ap reverse s_is ∙ reverse-append more_s (s ∷ []))

  c_rest : clients ≡ d.done_c ++ c ∷ reverse more_c
  c_rest = d.c_are ∙ ap (λ (l : List ClientState). d.done_c ++ l) (ap reverse c_is ∙ reverse-append more_c (c ∷ []))

  pub next_to_end : IsToEnd keeps s c
  next_to_end =
      t.each (length d.done_s) s c (ap (λ (l : List Session). slice_get l (length d.done_s)) s_rest ∙ get_middle d.done_s s (reverse more_s))
      (ap (λ (l : List ClientState). slice_get l (length d.done_s)) c_rest ∙ (ap (λ (n : ℕ). slice_get (d.done_c ++ c ∷ reverse more_c) n) (sym d.even) ∙ get_middle d.done_c c (reverse more_c)))

  pub own_to_end : IsToEnd c.plan.spec.keeps s c
  own_to_end = let t = next_to_end in record { spec = t.spec; shared = t.shared; hands = t.hands; closed = t.closed; keeps_is = refl }

  pub ended_more : (e : SessionReport) → IsSessionEndOf s c e → AreEndedSoFar sessions clients more_s more_c (ends ++ e ∷ [])
  ended_more e is = record {
    done_s = d.done_s ++ s ∷ [];
    done_c = d.done_c ++ c ∷ [];
    s_are = s_rest ∙ sym (append_assoc d.done_s (s ∷ []) (reverse more_s));
    c_are = c_rest ∙ sym (append_assoc d.done_c (c ∷ []) (reverse more_c));
    even = length-append d.done_c (c ∷ []) ∙ (ap (λ (n : ℕ). n + 1) d.even ∙ sym (length-append d.done_s (s ∷ [])));
    left_even = both_one_less (length more_c) (length more_s) (length left_c) (length left_s) d.left_even (ap length s_is ∙ length-append more_s (s ∷ [])) (ap length c_is ∙ length-append more_c (c ∷ []));
    ended = record {
      count = length-append ends (e ∷ []) ∙ (ap (λ (n : ℕ). n + 1) d.ended.count ∙ sym (length-append d.done_s (s ∷ [])));
      each = λ k x y z at bt ct. one k x y z (from_end d.done_s s x k at) (from_end d.done_c c y k bt) (from_end ends e z k ct);
    };
  }
    where
      one : (k : ℕ) (x : Session) (y : ClientState) (z : SessionReport) → (slice_get d.done_s k ≡ Some x) ⊎ ((k ≡ length d.done_s) × (x ≡ s)) → (slice_get d.done_c k ≡ Some y) ⊎ ((k ≡ length d.done_c) × (y ≡ c)) → (slice_get ends k ≡ Some z) ⊎ ((k ≡ length ends) × (z ≡ e)) → IsSessionEndOf x y z
      one k x y z (inl a) (inl b) (inl f) = d.ended.each k x y z a b f
      one k x y z (inr a) (inr b) (inr f) = subst (λ (v : Session). IsSessionEndOf v y z) (sym a.1) (subst (λ (v : ClientState). IsSessionEndOf s v z) (sym b.1) (subst (λ (v : SessionReport). IsSessionEndOf s c v) (sym f.1) is))
      one k x y z (inl a) (inr b) f = absurd (not_last k (length d.done_c) (length d.done_s) (slice_get_within d.done_s k x a) b.0 d.even)
      one k x y z (inr a) (inl b) f = absurd (not_last k (length d.done_s) (length d.done_c) (slice_get_within d.done_c k y b) a.0 (sym d.even))
      one k x y z (inl a) (inl b) (inr f) = absurd (not_last k (length ends) (length d.done_s) (slice_get_within d.done_s k x a) f.0 d.ended.count)
      one k x y z (inr a) (inr b) (inl f) = absurd (not_last k (length d.done_s) (length ends) (slice_get_within ends k z f) a.0 (sym d.ended.count))

-- what a loop has come to stands in the list
pub place_of : {A : Type 0} (xs ys zs : List A) (x : A) (k : ℕ) → xs ≡ (ys ++ x ∷ []) ++ zs → k ≡ length ys → slice_get xs k ≡ Some x
place_of {A} xs ys zs x k are is =
    ap (λ (l : List A). slice_get l k) (are ∙ append_assoc ys (x ∷ []) zs) ∙ (ap (λ (n : ℕ). slice_get (ys ++ x ∷ zs) n) is ∙ get_middle ys x zs)

-- one element more of a mapped list was pushed
pub pushed_map : {A B : Type 0} (f : A → B) (base : List B) (xs : List A) (x : A) (now new : List B) → new ≡ now ++ f x ∷ [] → now ≡ base ++ map f xs → new ≡ base ++ map f (xs ++ x ∷ [])
pushed_map {A} {B} f base xs x now new is was =
    is ∙ (ap (λ (l : List B). l ++ f x ∷ []) was ∙ (append_assoc base (map f xs) (f x ∷ []) ∙ ap (λ (l : List B). base ++ l) (sym (map-append f xs (x ∷ [])))))

-- what a loop over a list has come to, and what it hasn't
pub one_yielded : {A : Type 0} (all yielded rest more : List A) (x : A) → all ≡ yielded ++ rest → rest ≡ x ∷ more → all ≡ (yielded ++ x ∷ []) ++ more
one_yielded {A} all yielded rest more x e f = e ∙ (ap (λ (l : List A). yielded ++ l) f ∙ sym (append_assoc yielded (x ∷ []) more))

pub all_yielded : {A : Type 0} (all yielded rest : List A) → all ≡ yielded ++ rest → length rest ≡ 0 → all ≡ yielded
all_yielded {A} all yielded rest e n = e ∙ (ap (λ (l : List A). yielded ++ l) (nil_of rest n) ∙ append-nil yielded)
