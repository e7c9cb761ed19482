-- What a hand found at some sessions, with one visit more, and with another round.
use Rattle.std.proofs.Common.{◌≡◌, inl, inr, ℕ, ◌+◌, ◌<◌, ◌≤◌, ◌==◌, Bool, true, false, List, Option, Some, refl, sym, ap, subst, ◌∙◌, arith}
use Rattle.std.specs.Prelude.{MatchOption, nat_lt, slice_get, slice_set, sum_by}
use Rattle.std.proofs.lemmas.Bool.{eqb-false, eqb-true, ltb-false, ltb-true}
use Rattle.host_hand.specs.{CannotTake, IsVisitTold, begun_by, done_at, finished, Visit}
use Rattle.host_hand.specs.declared.visit.Visit.TheVariants as visit
use Rattle.host_intake.specs.{is_over}
use Rattle.host_io.specs.declared.disk.Disk as disk
use Rattle.host_session.specs.{SessionHand}
use Rattle.host_turn.specs.{seen_by}
use Rattle.host_worker.specs.{Hand, Turn, Did, Idle, AllClosed, AreOthersSame, EachOf, HasBegun, IsOwnTold, things_in, HasBegunOne, HasVisited, IsClosed, IsFound, IsHandQuiet, IsRound, SomeOpen, found_after, has_done, is_did, joined_turns}
use Rattle.host_worker.proofs.Lists.{set_at, set_elsewhere, sum_set}

pub did_is : (a : Visit) → is_did a ≡ true → a ≡ visit.Did
did_is visit.Did e = refl
did_is visit.Idle e = absurd (cc e)
did_is visit.Closed e = absurd (cc e)

pub done_is : (t : Turn) → has_done t ≡ true → t ≡ Did
done_is Did e = refl
done_is Idle e = absurd (cc e)
done_is AllClosed e = absurd (cc e)

pub not_done : (t : Turn) → has_done t ≡ false → t ≡ Did → ⊥
not_done Did e is = cc e
not_done Idle e is = cc is
not_done AllClosed e is = cc is

-- a visit that did nothing began nothing
pub not_did : (a : Visit) → is_did a ≡ false → done_at a ≡ 0
not_did visit.Did e = absurd (cc e)
not_did visit.Idle e = refl
not_did visit.Closed e = refl

pub nothing_in : (t : Turn) → has_done t ≡ false → things_in t ≡ 0
nothing_in Did e = absurd (cc e)
nothing_in Idle e = refl
nothing_in AllClosed e = refl

pub things_joined : (first second : Turn) → has_done first ≡ false → things_in (joined_turns first second) ≡ things_in second
things_joined Did second e = absurd (cc e)
things_joined Idle Did e = refl
things_joined Idle Idle e = refl
things_joined Idle AllClosed e = refl
things_joined AllClosed second e = refl

pub found_undone : (found : Turn) (answer : Visit) → has_done found ≡ false → has_done (found_after found answer) ≡ false
found_undone found visit.Did e = e
found_undone found visit.Idle e = refl
found_undone found visit.Closed e = e

-- why no record could be taken, by a visit that did nothing
pub cannot_by : (sent : ℕ) (answer : Visit) (h : SessionHand) → is_did answer ≡ false → IsVisitTold sent answer (seen_by h.intake) → CannotTake sent (seen_by h.intake)
cannot_by sent visit.Did h e told = absurd (cc e)
cannot_by sent visit.Idle h e told = told
cannot_by sent visit.Closed h e told = finished (ap is_over told)

-- what hand n began at one session it began in all
pub begun_more : (n k more : ℕ) (xs : List SessionHand) (before after : SessionHand) → slice_get xs k ≡ Some before → begun_by n (seen_by after.intake) ≡ begun_by n (seen_by before.intake) + more
    → sum_by (λ (h : SessionHand). begun_by n (seen_by h.intake)) (slice_set xs k after) ≡ sum_by (λ (h : SessionHand). begun_by n (seen_by h.intake)) xs + more
begun_more n k more xs before after at begun =
    let sums = sum_set (λ (h : SessionHand). begun_by n (seen_by h.intake)) xs k before after at in omega (arith, sums, begun)

module _ {D : Type 0} {g : disk.Ghosts D} where
  pub found_nothing : (from to : ℕ) (hand : Hand D g) (found : Turn) → IsFound from to hand found → things_in found ≡ 0
  found_nothing from to hand Did f = absurd f
  found_nothing from to hand Idle f = refl
  found_nothing from to hand AllClosed f = refl

  -- what was told at a place stands there after rounds behind it and before it
  pub own_told : (k sent count : ℕ) (old mid between new : Hand D g) (answer : Visit) (turn : Turn) → is_did answer ≡ false → HasVisited k sent old mid answer → AreOthersSame (k + 1) count mid between → AreOthersSame 0 k between new → IsOwnTold k sent new turn
  own_told k sent count old mid between new answer turn e v behind before undone =
      let there : slice_get new.sessions.items k ≡ Some v.after =
      before k (inr (omega arith)) ∙ (behind k (inl (omega arith)) ∙ (ap (λ (x : List SessionHand). slice_get x k) v.sessions_are ∙ set_at old.sessions.items k v.after v.before v.stood)) in
      subst (λ (o : Option SessionHand). MatchOption o ⊥ (λ h. CannotTake sent (seen_by h.intake))) (sym there) (cannot_by sent answer v.after e v.told)

  -- ---- one visit more

  module _ (from k : ℕ) (sent : ℕ) (mid new : Hand D g) (answer : Visit) (v : HasVisited k sent mid new answer) where
    elsewhere : (j : ℕ) → (j ≡ k → ⊥) → slice_get new.sessions.items j ≡ slice_get mid.sessions.items j
    elsewhere j other = ap (λ (x : List SessionHand). slice_get x j) v.sessions_are ∙ set_elsewhere mid.sessions.items k j v.after other

    stands_now : slice_get new.sessions.items k ≡ Some v.after
    stands_now = ap (λ (x : List SessionHand). slice_get x k) v.sessions_are ∙ set_at mid.sessions.items k v.after v.before v.stood

    each_more : (P : SessionHand → Type 0) → EachOf from k P mid → P v.after → EachOf from (k + 1) P new
    each_more P e p j h le less at = by_place (j == k) refl
      where
        by_place : (w : Bool) → (j == k) ≡ w → P h
        by_place true q =
            let same : Some h ≡ Some v.after = sym at ∙ (ap (λ (m : ℕ). slice_get new.sessions.items m) (eqb-true j k q) ∙ stands_now) in
            let is : v.after ≡ h = cc same in
            subst P is p
        by_place false q = let other = eqb-false j k q in e j h le (omega (arith, less, other)) (sym (elsewhere j other) ∙ at)

    pub here_open : from ≤ k → (IsClosed v.after → ⊥) → SomeOpen from (k + 1) new
    here_open le not = record { place = k; within = (le, omega arith); session = v.after; stands = stands_now; not_closed = not }

    open_still : SomeOpen from k mid → SomeOpen from (k + 1) new
    open_still o = record {
      place = o.place;
      within = (o.within.0, omega (arith, o.within.1));
      session = o.session;
      stands = elsewhere o.place (λ e. omega (arith, e, o.within.1)) ∙ o.stands;
      not_closed = o.not_closed;
    }

    pub others_more : (old : Hand D g) → from ≤ k → AreOthersSame from k old mid → AreOthersSame from (k + 1) old new
    others_more old le o j out = elsewhere j (λ e. elim out [ inl a ↦ omega (arith, a, e, le) | inr b ↦ omega (arith, b, e) ])
        ∙ o j (elim out [ inl a ↦ inl a | inr b ↦ inr (omega (arith, b)) ])

  pub found_idle : (from k : ℕ) (mid new : Hand D g) (v : HasVisited k 0 mid new visit.Idle) (found : Turn) → from ≤ k → IsFound from k mid found → IsFound from (k + 1) new Idle
  found_idle from k mid new v AllClosed le f = (each_more from k 0 mid new visit.Idle v IsHandQuiet (λ j h low less at. inl (f j h low less at)) (inr v.told), here_open from k 0 mid new visit.Idle v le (v.open_still refl))
  found_idle from k mid new v Idle le f = (each_more from k 0 mid new visit.Idle v IsHandQuiet f.0 (inr v.told), here_open from k 0 mid new visit.Idle v le (v.open_still refl))
  found_idle from k mid new v Did le f = absurd f

  pub found_closed : (from k : ℕ) (mid new : Hand D g) (v : HasVisited k 0 mid new visit.Closed) (found : Turn) → IsFound from k mid found → IsFound from (k + 1) new found
  found_closed from k mid new v AllClosed f = each_more from k 0 mid new visit.Closed v IsClosed f v.told
  found_closed from k mid new v Idle f = (each_more from k 0 mid new visit.Closed v IsHandQuiet f.0 (inl v.told), open_still from k 0 mid new visit.Closed v f.1)
  found_closed from k mid new v Did f = absurd f

  pub found_did : (from k to : ℕ) (old mid new last : Hand D g) → last.sessions.items ≡ new.sessions.items → HasVisited k 0 mid new visit.Did → from ≤ k → k < to → mid.number ≡ old.number → AreOthersSame from k old mid → IsRound from to old last Did
  found_did from k to old mid new last same_parts v le less same o =
      let there : slice_get last.sessions.items k ≡ Some v.after = ap (λ (x : List SessionHand). slice_get x k) same_parts ∙ stands_now from k 0 mid new visit.Did v in (
        record {
          place = k;
          within = (le, less);
          before = v.before;
          after = v.after;
          stood = sym (o k (inr (omega arith))) ∙ v.stood;
          stands = there;
          begun = subst (λ (n : ℕ). HasBegunOne n v.before v.after) same v.begun;
        },
        record { place = k; within = (le, less); session = v.after; stands = there; not_closed = v.open_still refl },
      )

  pub found_more : (from k : ℕ) (mid new : Hand D g) (answer : Visit) (found : Turn) → is_did answer ≡ false → from ≤ k → HasVisited k 0 mid new answer → IsFound from k mid found → IsFound from (k + 1) new (found_after found answer)
  found_more from k mid new visit.Did found e le v f = absurd (cc e)
  found_more from k mid new visit.Idle found e le v f = found_idle from k mid new v found le f
  found_more from k mid new visit.Closed found e le v f = found_closed from k mid new v found f

  pub found_all : (from to : ℕ) (old new : Hand D g) (found : Turn) → IsFound from to new found → IsRound from to old new found
  found_all from to old new AllClosed f = f
  found_all from to old new Idle f = f
  found_all from to old new Did f = absurd f

  -- something done in between was done at one of all
  pub did_wide : (start count : ℕ) (old new : Hand D g) → IsRound start count old new Did → IsRound 0 count old new Did
  did_wide start count old new r = (
    record { place = r.0.place; within = (omega arith, r.0.within.1); before = r.0.before; after = r.0.after; stood = r.0.stood; stands = r.0.stands; begun = r.0.begun },
    record { place = r.1.place; within = (omega arith, r.1.within.1); session = r.1.session; stands = r.1.stands; not_closed = r.1.not_closed },
  )

  -- ---- two rounds

  module _ (start count : ℕ) (fits : start ≤ count) (old mid new : Hand D g) (same : mid.number ≡ old.number) (left : AreOthersSame start count old mid) (right : AreOthersSame 0 start mid new) where
    all_of : (P : SessionHand → Type 0) → EachOf start count P mid → EachOf 0 start P new → EachOf 0 count P new
    all_of P f s j h le less at = by_place (nat_lt j start) refl
      where
        by_place : (w : Bool) → nat_lt j start ≡ w → P h
        by_place true q = s j h le (ltb-true j start q) at
        by_place false q = let high = ltb-false j start q in f j h high less (sym (right j (inr high)) ∙ at)

    open_left : SomeOpen start count mid → SomeOpen 0 count new
    open_left o = record { place = o.place; within = (omega arith, o.within.1); session = o.session; stands = right o.place (inr o.within.0) ∙ o.stands; not_closed = o.not_closed }

    open_right : SomeOpen 0 start new → SomeOpen 0 count new
    open_right o = record { place = o.place; within = (omega arith, omega (arith, o.within.1, fits)); session = o.session; stands = o.stands; not_closed = o.not_closed }

    begun_right : HasBegun 0 start mid new → HasBegun 0 count old new
    begun_right b = record {
      place = b.place;
      within = (omega arith, omega (arith, b.within.1, fits));
      before = b.before;
      after = b.after;
      stood = sym (left b.place (inl b.within.1)) ∙ b.stood;
      stands = b.stands;
      begun = subst (λ (n : ℕ). HasBegunOne n b.before b.after) same b.begun;
    }

    pub two_rounds : (first second : Turn) → (first ≡ Did → ⊥) → IsRound start count old mid first → IsRound 0 start mid new second → IsRound 0 count old new (joined_turns first second)
    two_rounds Did second other f s = absurd (other refl)
    two_rounds Idle Did other f s = (begun_right s.0, open_right s.1)
    two_rounds Idle Idle other f s = (all_of IsHandQuiet f.0 s.0, open_left f.1)
    two_rounds Idle AllClosed other f s = (all_of IsHandQuiet f.0 (λ j h le less at. inl (s j h le less at)), open_left f.1)
    two_rounds AllClosed Did other f s = (begun_right s.0, open_right s.1)
    two_rounds AllClosed Idle other f s = (all_of IsHandQuiet (λ j h le less at. inl (f j h le less at)) s.0, open_right s.1)
    two_rounds AllClosed AllClosed other f s = all_of IsClosed f s
