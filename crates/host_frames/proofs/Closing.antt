-- How a pool is made and closed.
use Rattle.std.proofs.Common.{◌≡◌, ℕ, zero, suc, ◌+◌, ◌*◌, ◌<◌, ◌≤◌, List, [], ◌∷◌, ◌++◌, length, get_or, set, take, replicate, Bool, get_or-set_same, get_or-set_other, sym, refl, ap, subst, ◌∙◌, inl, inr, ⊎_elim, All, Vec, Global, append_assoc, length-append, arith}
use Rattle.std.specs.Prelude.{Option, Some, None, is_some, true, false}
use mathlib.Core.Logic.{dite}
use native.Mathlib.Decide.{ℕ_discrete}
use mathlib.Core.Option.{some, some-injective, some-ne-none}
use lib.ListN.{get_elem?}
use Rattle.atomic_table.specs.Table.{Me, Splits, opening}
use Rattle.host_frames.specs.{Opening, View, Claim, PoolSeat, frames_in_claims, SomeIsRefused, first_view, view_after_making, new_seat_view, gathered_view, idle_view, IsBlankPage, IsBlankSlot, pages_at_home, IsIdle, HasGathered, StandsForAll, SomeSeatRefused, all_claims, claims, frames_asked, granted, given_back}
use Rattle.host_log.specs.{total}
use Rattle.host_log.proofs.Totals.{total_append}
use Rattle.host_frames.proofs.Stepping as m
use Rattle.host_frames.proofs.Seating.{opens, makes}

pub elem_of : {A : Type 0} (xs : List A) (i : ℕ) (d a : A) → i < length xs → get_or xs i d ≡ a → get_elem? xs i ≡ some a
elem_of [] i d a lt e = absurd (omega arith)
elem_of (x ∷ xs) zero d a lt e = ap some e
elem_of (x ∷ xs) (suc i) d a lt e = elem_of xs i d a (omega arith) e

pub opened : (k : Opening) (n : ℕ) (ws : List ℕ) (xs : List (Option (Vec ℕ Global))) → ws ≡ replicate n 0 → k.frames ≤ n * 64 → length xs ≡ k.frames → All (IsBlankSlot k.page_size) xs → m.K IsBlankPage k (opening ws xs (first_view k))
opened k n ws xs zeros le len blank = subst (λ (z : List ℕ). m.K IsBlankPage k (opening z xs (first_view k))) (sym zeros) (opens IsBlankPage k n xs le
    (λ f lt. let here = blank f None (omega arith) in (here.0, elem_of xs f None (Some here.0) (omega arith) here.1, here.2)))

pub making : (k : Opening) (id : ℕ) (v : View) (n b : ℕ) → v ≡ idle_view (n + 1) b → Splits (m.K IsBlankPage k) id v (view_after_making v) (new_seat_view v)
making k id v n b e = subst (λ (z : View). Splits (m.K IsBlankPage k) id z (view_after_making z) (new_seat_view z)) (sym e) (makes IsBlankPage k id n b)

module _ {S : Type 0} where
  pub gather_begins : (v : View) (m : Me S View) → m.0 ≡ v → IsIdle m → HasGathered v [] m
  gather_begins v m same is = (λ i. (same i, is.4 i)) ∙ (λ i. (record { share = (let z : m.0.share ≡ 0 + 1 = (let e = is.0 in omega arith) in ap (λ (u : View). u.share) (sym same) ∙ z) i; page_size = v.page_size; granted = (let z : v.granted ≡ 0 + v.granted = omega arith in z) i; given_back = (let z : v.given_back ≡ 0 + v.given_back = omega arith in z) i; claims = v.claims; to_fetch = (ap (λ (u : View). u.to_fetch) (sym same) ∙ is.1) i; frames_out = (ap (λ (u : View). u.frames_out) (sym same) ∙ is.2) i; slots_held = (ap (λ (u : View). u.slots_held) (sym same) ∙ is.3) i }, []))

  pub gather_more : (v : View) (m m' : Me S View) (qs : List PoolSeat) (q : PoolSeat) → HasGathered v qs m → m' ≡ (gathered_view m.0 q.seat.me.0, m.1) → HasGathered v (q ∷ qs) m'
  gather_more v m m' qs q h e = let w : View = q.seat.me.0 in e ∙ ((λ i. (gathered_view (h i).0 w, (h i).1)) ∙ (λ i. (
    record {
      share = (let z : length qs + 1 + w.share ≡ length (q ∷ qs) + 1 = (let one = q.idle.0 in omega arith) in z) i;
      page_size = v.page_size;
      granted = (let z : total granted qs + v.granted + w.granted ≡ w.granted + total granted qs + v.granted = omega arith in z) i;
      given_back = (let z : total given_back qs + v.given_back + w.given_back ≡ w.given_back + total given_back qs + v.given_back = omega arith in z) i;
      claims = sym (append_assoc w.claims (all_claims qs) v.claims) i;
      to_fetch = ap (λ l. l ++ []) q.idle.1 i;
      frames_out = ap (λ l. l ++ []) q.idle.2 i;
      slots_held = ap (λ l. l ++ []) q.idle.3 i;
    },
    [],
  )))

pub asked_append : (cs ds : List Claim) → frames_in_claims (cs ++ ds) ≡ frames_in_claims cs + frames_in_claims ds
asked_append cs ds = total_append (λ (c : Claim). c.asked) cs ds

pub asked_all : (qs : List PoolSeat) → frames_in_claims (all_claims qs) ≡ total frames_asked qs
asked_all [] = refl
asked_all (q ∷ qs) = let more = asked_all qs in let split = asked_append (claims q) (all_claims qs) in omega arith

refused_left : (n : ℕ) (cs ds : List Claim) → SomeIsRefused n cs → SomeIsRefused n (cs ++ ds)
refused_left n [] ds p = absurd p
refused_left n (c ∷ cs) ds p = ⊎_elim (λ t. inl t) (λ t. inr (refused_left n cs ds t)) p

refused_right : (n : ℕ) (cs ds : List Claim) → SomeIsRefused n ds → SomeIsRefused n (cs ++ ds)
refused_right n [] ds p = p
refused_right n (c ∷ cs) ds p = inr (refused_right n cs ds p)

pub refused_all : (n : ℕ) (qs : List PoolSeat) (q : PoolSeat) → SomeSeatRefused n (qs ++ q ∷ []) → SomeIsRefused n (all_claims qs ++ claims q)
refused_all n [] q p = ⊎_elim (λ t. t) (λ t. absurd t) p
refused_all n (r ∷ qs) q p = subst (SomeIsRefused n) (sym (append_assoc (claims r) (all_claims qs) (claims q))) (⊎_elim (λ t. refused_left n (claims r) (all_claims qs ++ claims q) t) (λ t. refused_right n (claims r) (all_claims qs ++ claims q) (refused_all n qs q t)) p)

-- what the last seat stands for, once it has taken in all others
pub standing : {S : Type 0} (qs all : List PoolSeat) (q : PoolSeat) (m : Me S View) → all ≡ qs ++ q ∷ [] → HasGathered q.seat.me.0 qs m → StandsForAll all m
standing qs all q m is has = let v : View = m.0 in let one = q.idle.0 in
    let long : length all ≡ length qs + 1 = ap length is ∙ (let l = length-append qs (q ∷ []) in omega arith) in
    let shares : v.share ≡ length qs + 1 = ap (λ z. z.0.share) has in
    let gots : v.granted ≡ total granted qs + granted q = ap (λ z. z.0.granted) has in let backs : v.given_back ≡ total given_back qs + given_back q = ap (λ z. z.0.given_back) has in let cs : v.claims ≡ all_claims qs ++ claims q = ap (λ z. z.0.claims) has in
    let g : total granted all ≡ total granted qs + (granted q + 0) = ap (total granted) is ∙ total_append granted qs (q ∷ []) in
    let b : total given_back all ≡ total given_back qs + (given_back q + 0) = ap (total given_back) is ∙ total_append given_back qs (q ∷ []) in
    let a : total frames_asked all ≡ total frames_asked qs + (frames_asked q + 0) = ap (total frames_asked) is ∙ total_append frames_asked qs (q ∷ []) in
    let sum : frames_in_claims v.claims ≡ frames_in_claims (all_claims qs) + frames_asked q = ap frames_in_claims cs ∙ asked_append (all_claims qs) (claims q) in let each = asked_all qs in (
      omega arith,
      omega arith,
      omega arith,
      omega arith,
      (λ n p. subst (SomeIsRefused n) (sym cs) (refused_all n qs q (subst (SomeSeatRefused n) is p))),
      ap (λ z. z.0.to_fetch) has,
      ap (λ z. z.0.slots_held) has,
      ap (λ z. z.1) has,
    )

-- one more slot is counted
home_next : (xs : List (Option (Vec ℕ Global))) (i : ℕ) (o : Option (Vec ℕ Global)) → get_elem? xs i ≡ some o → pages_at_home (take (suc i) xs) ≡ pages_at_home (take i xs) + pages_at_home (o ∷ [])
home_next [] i o e = absurd (some-ne-none o (sym e))
home_next (x ∷ xs) zero o e = let same : pages_at_home (x ∷ []) ≡ pages_at_home (o ∷ []) = ap (λ z. pages_at_home (z ∷ [])) (some-injective x o e) in omega arith
home_next (Some p ∷ xs) (suc i) o e = let more = home_next xs i o e in omega arith
home_next (None ∷ xs) (suc i) o e = let more = home_next xs i o e in omega arith

pub home_more : (xs : List (Option (Vec ℕ Global))) (i : ℕ) (o : Option (Vec ℕ Global)) → get_elem? xs i ≡ some o → pages_at_home (take (i + 1) xs) ≡ pages_at_home (take i xs) + pages_at_home (o ∷ [])
home_more xs i o e = let n : i + 1 ≡ suc i = omega arith in ap (λ (z : ℕ). pages_at_home (take z xs)) n ∙ home_next xs i o e

abbrev truth : Bool → ℕ
truth true = 1
truth false = 0

pub home_some : (o : Option (Vec ℕ Global)) → is_some o ≡ true → pages_at_home (o ∷ []) ≡ 1
home_some (Some p) e = omega arith
home_some None e = let z : ◌≡◌ {A = ℕ} 0 1 = ap truth e in absurd (omega arith)

pub home_none : (o : Option (Vec ℕ Global)) → is_some o ≡ false → pages_at_home (o ∷ []) ≡ 0
home_none (Some p) e = let z : ◌≡◌ {A = ℕ} 1 0 = ap truth e in absurd (omega arith)
home_none None e = refl

pub home_most : (o : Option (Vec ℕ Global)) → pages_at_home (o ∷ []) ≤ 1
home_most (Some p) = omega arith
home_most None = omega arith

-- the flags of slots that are emptied_view in turn
pub flags_after : (fs : List Bool) (i n : ℕ) → n ≡ length fs → i < n → ((k : ℕ) → i ≤ k → k < n → get_or fs k false ≡ true) → ((k : ℕ) → k < i → get_or fs k false ≡ false)
    → ((k : ℕ) → i + 1 ≤ k → k < n → get_or (set fs i false) k false ≡ true) × ((k : ℕ) → k < i + 1 → get_or (set fs i false) k false ≡ false)
flags_after fs i n len lt high low = (
  (λ k le b. get_or-set_other fs i k false false (λ e. absurd (omega arith)) ∙ high k (omega arith) b),
  (λ k b. dite (ℕ_discrete k i)
      (λ e. ap (λ j. get_or (set fs i false) j false) e ∙ get_or-set_same fs i false false (omega arith))
      (λ ne. get_or-set_other fs i k false false ne ∙ low k (omega arith))),
)
