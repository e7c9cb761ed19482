-- What hands have of the sessions is dealt out.
use Rattle.std.proofs.Common.{◌≡◌, ◌⊎◌, inl, inr, ℕ, zero, suc, ◌+◌, ◌<◌, ◌≤◌, List, [], ◌∷◌, ◌++◌, length, map, reverse, All, Some, refl, sym, ap, subst, ◌∙◌, arith, length-append, Vec, vec_capacity}
use Rattle.std.proofs.lemmas.List.{length-map, length-reverse, length-set, reverse-append}
use Rattle.std.specs.Prelude.{slice_get}
use Rattle.std.specs.declared.alloc.Global.{Global}
use Rattle.std.proofs.lemmas.Option.{none-some, same_Some, slice_get_within}
use Rattle.host_session.specs.{SessionHand, ClientState, IsFreshHand, IsHand}
use Rattle.host_worker.specs.{Session, plan_of_session, HasHands, HasOneMore, HaveOneMore, IsNewShare, openings_of, specs_of, AreSharesDealt, HasGiven}
use Rattle.host_worker.proofs.Lists.{at_place, each_place, map_from, set_elsewhere, set_here}
use Rattle.host_worker.proofs.Places.{from_above, none_plus, one_less, plus_none, positive, reflexive, shift, unlike_above, unlike_below, within_equal}
use Rattle.host_log.proofs.Places.{some_at, get_last, stands_append, get_snoc}

-- ---- lists

-- an element stands where it stood, and the next one behind
pub before_end : {A : Type 0} (xs : List A) (y x : A) (k : ℕ) → slice_get xs k ≡ Some x → slice_get (xs ++ y ∷ []) k ≡ Some x
before_end xs y x k at = stands_append xs (y ∷ []) k x at

pub from_end : {A : Type 0} (xs : List A) (y x : A) (k : ℕ) → slice_get (xs ++ y ∷ []) k ≡ Some x → (slice_get xs k ≡ Some x) ⊎ ((k ≡ length xs) × (x ≡ y))
from_end xs y x k at = elim (get_snoc xs y x k at) [ inl b ↦ inl b | inr b ↦ inr (b.0, sym b.1) ]

-- two lists that agree at each place give the same
pub map_same : {A B : Type 0} (f : A → B) (xs ys : List A) → length xs ≡ length ys → ((k : ℕ) (x y : A) → slice_get xs k ≡ Some x → slice_get ys k ≡ Some y → f x ≡ f y) → map f xs ≡ map f ys
map_same f [] [] n e = refl
map_same f [] (y ∷ ys) n e = absurd (omega (arith, n))
map_same f (x ∷ xs) [] n e = absurd (omega (arith, n))
map_same f (x ∷ xs) (y ∷ ys) n e =
    ap (λ z. z ∷ map f xs) (e zero x y refl refl) ∙ ap (λ l. f y ∷ l) (map_same f xs ys (omega (arith, n)) (λ k a b s t. e (suc k) a b s t))

-- ---- one hand of each

module _ (less more : List Session) (share : List SessionHand) (d : HaveOneMore less more share) where
  pub one_more : (k : ℕ) (s s' : Session) → slice_get less k ≡ Some s → slice_get more k ≡ Some s' → (h : SessionHand) × (slice_get share k ≡ Some h) × HasOneMore s s' h
  one_more k s s' at at' =
      let h = some_at share k (within_equal k (length less) (length share) (slice_get_within less k s at) d.count.1) in
      (h.0, h.1, d.each k s s' h.0 at at' h.1)

  pub same_specs : specs_of less ≡ specs_of more
  same_specs = map_same (λ (s : Session). s.spec) less more (sym d.count.0) (λ k s s' at at'. let m = one_more k s s' at at' in sym m.2.same.0)

  pub same_openings : openings_of less ≡ openings_of more
  same_openings = map_same (λ (s : Session). s.opened.value) less more (sym d.count.0) (λ k s s' at at'. let m = one_more k s s' at at' in ap (λ o. o.value) (sym m.2.same.2))

  pub same_shared : map (λ (s : Session). s.shared) less ≡ map (λ (s : Session). s.shared) more
  same_shared = map_same (λ (s : Session). s.shared) less more (sym d.count.0) (λ k s s' at at'. let m = one_more k s s' at at' in sym m.2.same.1)

  pub same_room : map (λ (s : Session). vec_capacity s.hands) less ≡ map (λ (s : Session). vec_capacity s.hands) more
  same_room = map_same (λ (s : Session). vec_capacity s.hands) less more (sym d.count.0) (λ k s s' at at'. let m = one_more k s s' at at' in sym m.2.room)

  module _ (left : ℕ) (full : All (HasHands (left + 1)) more) where
    one_fewer : (s s' : Session) (h : SessionHand) → HasOneMore s s' h → HasHands (left + 1) s' → HasHands left s
    one_fewer s s' h m f = record {
      count = one_less (length s.hands.items) (length s'.hands.items) left f.count (ap length m.hands ∙ length-append s.hands.items (h ∷ []));
      each = λ k x at.
          let was = f.each k x (ap (λ (l : List SessionHand). slice_get l k) m.hands ∙ before_end s.hands.items h x k at) in
          (subst (λ o. IsHand (o.value).plan k x) m.same.2 was.0, was.1);
    }

    pub all_fewer : All (HasHands left) less
    all_fewer = each_place (HasHands left) less (λ k s at.
        let b = some_at more k (within_equal k (length less) (length more) (slice_get_within less k s at) d.count.0) in
        let m = one_more k s b.0 at b.1 in
        one_fewer s b.0 m.0 m.2 (at_place (HasHands (left + 1)) more k b.0 full b.1))

    last_one : (s s' : Session) (h : SessionHand) → HasOneMore s s' h → HasHands (left + 1) s' → IsHand (plan_of_session s') left h × IsFreshHand h
    last_one s s' h m f =
        let n : length s.hands.items ≡ left = one_less (length s.hands.items) (length s'.hands.items) left f.count (ap length m.hands ∙ length-append s.hands.items (h ∷ [])) in
        f.each left h (ap (λ (l : List SessionHand). slice_get l left) m.hands ∙ subst (λ (k : ℕ). slice_get (s.hands.items ++ h ∷ []) k ≡ Some h) n (get_last s.hands.items h))

    pub is_share : IsNewShare (openings_of more) left share
    is_share = record {
      count = d.count.1 ∙ (sym d.count.0 ∙ sym (length-map more (λ (s : Session). s.opened.value)));
      each = λ k c h at here.
          let b = map_from (λ (s : Session). s.opened.value) more k c at in
          let a = some_at less k (within_equal k (length more) (length less) (slice_get_within more k b.0 b.1) (sym d.count.0)) in
          let m = d.each k a.0 b.0 h a.1 b.1 here in
          subst (λ (x : ClientState). IsHand x.plan left h × IsFreshHand h) (sym b.2) (last_one a.0 b.0 h m (at_place (HasHands (left + 1)) more k b.0 full b.1));
    }

-- ---- one session after another

-- the sessions below place k gave one hand each, and the others none
pub record AreGiven (k : ℕ) (old new : List Session) (share : List SessionHand) : Type 0 where
  pub count : length new ≡ length old
  pub taken : length share ≡ k
  pub done : (j : ℕ) (s s' : Session) (h : SessionHand) → slice_get new j ≡ Some s → slice_get old j ≡ Some s' → slice_get share j ≡ Some h → HasOneMore s s' h
  pub rest : (j : ℕ) → k ≤ j → slice_get new j ≡ slice_get old j

pub given_more : (k : ℕ) (old mid new : List Session) (share : List SessionHand) (h : SessionHand) → AreGiven k old mid share → HasGiven k mid new h → AreGiven (k + 1) old new (share ++ h ∷ [])
given_more k old mid new share h g v = record {
  count = ap length v.left ∙ (length-set mid k v.after ∙ g.count);
  taken = length-append share (h ∷ []) ∙ ap (λ (n : ℕ). n + 1) g.taken;
  done = λ j s s' x at at' here. done j s s' x at at' (from_end share h x j here);
  rest = λ j le. elsewhere j (unlike_above j k le) ∙ g.rest j (from_above j k le);
}
  where
    elsewhere : (j : ℕ) → (j ≡ k → ⊥) → slice_get new j ≡ slice_get mid j
    elsewhere j other = ap (λ (l : List Session). slice_get l j) v.left ∙ set_elsewhere mid k j v.after other

    done : (j : ℕ) (s s' : Session) (x : SessionHand) → slice_get new j ≡ Some s → slice_get old j ≡ Some s' → (slice_get share j ≡ Some x) ⊎ ((j ≡ length share) × (x ≡ h)) → HasOneMore s s' x
    done j s s' x at at' (inl here) = g.done j s s' x (sym (elsewhere j (unlike_below j k (within_equal j (length share) k (slice_get_within share j x here) (sym g.taken)))) ∙ at) at' here
    done j s s' x at at' (inr last) =
        let e : j ≡ k = last.0 ∙ g.taken in
        let is_after : s ≡ v.after = set_here mid k v.after s (sym (ap (λ (l : List Session). slice_get l k) v.left) ∙ (ap (λ (n : ℕ). slice_get new n) (sym e) ∙ at)) in
        let same : Some v.before ≡ Some s' = sym v.stood ∙ (g.rest k (reflexive k) ∙ (ap (λ (n : ℕ). slice_get old n) (sym e) ∙ at')) in
        let is_before : v.before ≡ s' = same_Some _ _ same in
        subst (λ (y : SessionHand). HasOneMore s s' y) (sym last.1) (subst (λ (y : Session). HasOneMore y s' h) (sym is_after) (subst (λ (y : Session). HasOneMore v.after y h) is_before v.more))

-- ---- one share after another

-- the shares from number `left` on were dealt out, the last first
pub record AreDealtFrom (left : ℕ) (old now : List Session) (shares : List (Vec SessionHand Global)) : Type 0 where
  pub specs_same : specs_of now ≡ specs_of old
  pub openings_same : openings_of now ≡ openings_of old
  pub shared_same : map (λ (s : Session). s.shared) now ≡ map (λ (s : Session). s.shared) old
  pub room_same : map (λ (s : Session). vec_capacity s.hands) now ≡ map (λ (s : Session). vec_capacity s.hands) old
  pub hands_left : All (HasHands left) now
  pub shares_are : (n : ℕ) (share : Vec SessionHand Global) → slice_get (reverse shares) n ≡ Some share → IsNewShare (openings_of old) (left + n) share.items

pub dealt_none : (left : ℕ) (old : List Session) (shares : List (Vec SessionHand Global)) → shares ≡ [] → All (HasHands left) old → AreDealtFrom left old old shares
dealt_none left old shares none full = record {
  specs_same = refl;
  openings_same = refl;
  shared_same = refl;
  room_same = refl;
  hands_left = full;
  shares_are = λ n share at. absurd (no n share (ap (λ (l : List (Vec SessionHand Global)). slice_get (reverse l) n) (sym none) ∙ at));
}
  where
    no : (n : ℕ) (share : Vec SessionHand Global) → slice_get [] n ≡ Some share → ⊥
    no n share at = none-some share at

pub dealt_more : (left : ℕ) (old mid new : List Session) (shares : List (Vec SessionHand Global)) (share : Vec SessionHand Global) → AreDealtFrom (left + 1) old mid shares → HaveOneMore new mid share.items → AreDealtFrom left old new (shares ++ share ∷ [])
dealt_more left old mid new shares share d m = record {
  specs_same = same_specs new mid share.items m ∙ d.specs_same;
  openings_same = same_openings new mid share.items m ∙ d.openings_same;
  shared_same = same_shared new mid share.items m ∙ d.shared_same;
  room_same = same_room new mid share.items m ∙ d.room_same;
  hands_left = all_fewer new mid share.items m left d.hands_left;
  shares_are = λ n x at. at_number n x (ap (λ (l : List (Vec SessionHand Global)). slice_get l n) (sym (reverse-append shares (share ∷ []))) ∙ at);
}
  where
    new_share : IsNewShare (openings_of old) left share.items
    new_share = subst (λ (l : List ClientState). IsNewShare l left share.items) d.openings_same (is_share new mid share.items m left d.hands_left)

    at_number : (n : ℕ) (x : Vec SessionHand Global) → slice_get (share ∷ reverse shares) n ≡ Some x → IsNewShare (openings_of old) (left + n) x.items
    at_number zero x at =
        let same : share ≡ x = same_Some _ _ at in
        let plain : left + 0 ≡ left = plus_none left in
        subst (λ (k : ℕ). IsNewShare (openings_of old) k x.items) (sym plain) (subst (λ (y : Vec SessionHand Global). IsNewShare (openings_of old) left y.items) same new_share)
    at_number (suc n) x at =
        let plain : (left + 1) + n ≡ left + suc n = shift left n in
        subst (λ (k : ℕ). IsNewShare (openings_of old) k x.items) plain (d.shares_are n x at)

-- all are dealt out
pub dealt_all : (hands left : ℕ) (old new : List Session) (shares : List (Vec SessionHand Global)) → left ≡ 0 → length shares ≡ hands → AreDealtFrom left old new shares → AreSharesDealt hands old new (reverse shares)
dealt_all hands left old new shares none count d =
    let e = subst (λ (n : ℕ). AreDealtFrom n old new shares) none d in
    record {
      same = (e.specs_same, e.openings_same, e.shared_same);
      room = e.room_same;
      empty = e.hands_left;
      count = length-reverse shares ∙ count;
      shares_are = λ n share at.
          let plain : 0 + n ≡ n = none_plus n in
          subst (λ (k : ℕ). IsNewShare (openings_of old) k share.items) plain (e.shares_are n share at);
    }

-- each session has a hand left
pub some_left : (left : ℕ) (sessions : List Session) → 0 < left → All (HasHands left) sessions → All (λ (s : Session). 0 < length s.hands.items) sessions
some_left left sessions some all = each_place (λ (s : Session). 0 < length s.hands.items) sessions (λ k s at. let h = at_place (HasHands left) sessions k s all at in positive left (length s.hands.items) some h.count)
