-- A hand is one of its server still, after a visit at one session.
use Rattle.std.proofs.Common.{◌≡◌, ℕ, ◌+◌, ◌<◌, ◌≤◌, ◌==◌, Bool, true, false, List, [], ◌∷◌, ◌++◌, length, All, Option, Some, refl, sym, ap, subst, ◌∙◌}
use Rattle.std.proofs.lemmas.List.{length-set}
use Rattle.std.specs.Prelude.{nat_le, MatchOption, slice_get, slice_set, sum_by}
use Rattle.std.specs.List.{list_all}
use Rattle.std.specs.Option.{ForSome}
use Rattle.std.proofs.lemmas.Bool.{eqb-false, eqb-true, le-leb}
use Rattle.std.proofs.lemmas.Option.{same_Some, slice_get_within}
use Rattle.host_frames.specs.{PoolSeat, given_back, seat_pool, pool_id}
use Rattle.host_hand.specs.{frames_out, Visit, IsAtDevice, IsOnDevice, IsPosted, IsSameHand, HasServed}
use Rattle.host_device.specs.{DeviceFixed, fixed_of}
use Rattle.host_io.specs.declared.disk.Disk as disk
use Rattle.host_model.specs.{Step}
use Rattle.host_report.specs.{is_of_sessions}
use Rattle.host_session.specs.{SessionHand, SessionShared, IsHand, IsShared, SessionPlan}
use Rattle.host_log.specs.{entries_of, HasAdded}
use Rattle.host_turn.specs.{book_id, fixed_part, opening_of, seen_by}
use Rattle.host_worker.specs.{Hand, ClosingRoom, Server, Session, HasWorked, frames_of, AreNamed, IsClosingRoom, IsHandOf, IsPartOf, with_pool_seat, IsServer, plan_of_session, shared_of, keeps_of}
use Rattle.host_hand.proofs.Others.{at_session_others}
use Rattle.std.proofs.lemmas.List.Elements.{All-head, All-tail}
use Rattle.host_worker.proofs.Lists.{set_elsewhere, set_here, sum_set}
use Rattle.host_worker.proofs.Places.{from_one, same_change, unlike_numbers, up_to_count}
use Rattle.host_log.proofs.Bools.{and_both, and_left, and_right}

-- ---- own steps name sessions of the server

module _ (count n session : ℕ) (within : (1 ≤ session) × (session ≤ count)) where
  of_session : (x : Step) → x.session ≡ session → is_of_sessions count x ≡ true
  of_session x e = and_both (nat_le 1 x.session) (nat_le x.session count) (le-leb 1 x.session (subst (λ (m : ℕ). 1 ≤ m) (sym e) within.0)) (le-leb x.session count (subst (λ (m : ℕ). m ≤ count) (sym e) within.1))

  all_of_session : (xs : List Step) → All (λ (x : Step). x.session ≡ session) xs → list_all (is_of_sessions count) xs ≡ true
  all_of_session [] all = refl
  all_of_session (x ∷ xs) all = and_both (is_of_sessions count x) (list_all (is_of_sessions count) xs)
      (of_session x (All-head (λ (y : Step). y.session ≡ session) x xs all)) (all_of_session xs (All-tail (λ (y : Step). y.session ≡ session) x xs all))

  append_named : (xs ys : List Step) → list_all (is_of_sessions count) xs ≡ true → list_all (is_of_sessions count) ys ≡ true → list_all (is_of_sessions count) (xs ++ ys) ≡ true
  append_named [] ys a b = b
  append_named (x ∷ xs) ys a b = and_both (is_of_sessions count x) (list_all (is_of_sessions count) (xs ++ ys))
      (and_left (is_of_sessions count x) (list_all (is_of_sessions count) xs) a) (append_named xs ys (and_right (is_of_sessions count x) (list_all (is_of_sessions count) xs) a) b)

  pub named_still : (added old new : List Step) → HasAdded (λ step. step.hand) n added old new → All (λ (x : Step). x.session ≡ session) added → AreNamed count n old → AreNamed count n new
  named_still added old new a named k = subst (λ (l : List Step). list_all (is_of_sessions count) l ≡ true) (sym a.own) (append_named (entries_of (λ step. step.hand) n old) added k (all_of_session added named))

-- ---- a visit at session k

-- the same hand is hand n of the session still
hand_still : (p : SessionPlan) (n : ℕ) (old new : SessionHand) → IsSameHand old new → IsHand p n old → IsHand p n new
hand_still p n old new same is = record {
  intake = record { book_is = same.intake.0.0 ∙ is.intake.book_is; outside = same.intake.1; number_is = same.intake.0.2 ∙ is.intake.number_is; plan_is = same.intake.0.3 ∙ is.intake.plan_is };
  memory = record { book_is = same.memory.0.0 ∙ is.memory.book_is; outside = same.memory.1; number_is = same.memory.0.2 ∙ is.memory.number_is; plan_is = same.memory.0.3 ∙ is.memory.plan_is };
  sender = (same.sender.0 ∙ is.sender.0, same.sender.1 ∙ is.sender.1);
}

module _ {D : Type 0} {g : disk.Ghosts D} (server : Server D g) (hand : Hand D g) (k : ℕ) (s : Session) (h : SessionHand) (running : IsServer server) (own : IsHandOf server hand)
    (here : slice_get server.sessions.items k ≡ Some s) (there : slice_get hand.sessions.items k ≡ Some h) where
  pub its_post : (shared : SessionShared) → shared ≡ shared_of s → IsPosted s.spec hand.number (pool_id server.pool) shared h
  its_post shared is =
      let r = running.sessions k s here in
      record {
        plan = plan_of_session s;
        spec_is = r.spec;
        pool_is = r.plan.1;
        of_session = subst (λ (x : SessionShared). IsShared (plan_of_session s) x) (sym is) r.shared;
        hand_is = (own.each k s h here there).hand;
      }

  on_device : ForSome (fixed_part hand.device_seat) (λ fixed. IsOnDevice s.spec.part s.spec.size fixed)
  on_device fixed is =
      let r = running.sessions k s here in
      let q : Some (fixed_of (opening_of server.device)) ≡ Some fixed = sym own.device.plan_is ∙ is in
      let e : fixed_of (opening_of server.device) ≡ fixed = same_Some _ _ q in
      subst (λ (f : DeviceFixed D). IsOnDevice s.spec.part s.spec.size f) e (record { size_is = sym r.size_is; within = r.part.0 })

  pub its_device : IsAtDevice (book_id server.device) hand.number s.spec.part s.spec.size hand.device_seat
  its_device = record { fits = (running.sessions k s here).part.1; book_is = own.device.book_is; outside = own.device.outside; number_is = own.device.number_is; on_device = on_device }

module _ {D : Type 0} {g : disk.Ghosts D} (server : Server D g) (old new : Hand D g) (k : ℕ) (s : Session) (before after : SessionHand) where
  -- what a visit leaves
  pub record HasLeft : Type 0 where
    pub number : new.number ≡ old.number
    pub next : new.next ≡ old.next
    pub closing : new.room ≡ old.room
    pub stood : slice_get old.sessions.items k ≡ Some before
    pub sessions_are : new.sessions.items ≡ slice_set old.sessions.items k after
    pub sent : ℕ
    pub answer : Visit
    pub served : HasServed s.spec old.number before after old.device_seat new.device_seat old.pool_seat new.pool_seat sent answer

  module _ (running : IsServer server) (own : IsHandOf server old) (here : slice_get server.sessions.items k ≡ Some s) (l : HasLeft) where
    apart : (j : ℕ) (t : Session) → slice_get server.sessions.items j ≡ Some t → (j ≡ k → ⊥) → t.spec.number ≡ s.spec.number → ⊥
    apart j t at other e = unlike_numbers j k t.spec.number s.spec.number (running.sessions j t at).number (running.sessions k s here).number other e

    part_at : (j : ℕ) (t : Session) (h : SessionHand) → slice_get server.sessions.items j ≡ Some t → slice_get (slice_set old.sessions.items k after) j ≡ Some h → (w : Bool) → (j == k) ≡ w → IsPartOf t old.number h (seen_by new.device_seat)
    part_at j t h there stands true e =
        let same : j ≡ k = eqb-true j k e in
        let is_s : t ≡ s = let q : Some t ≡ Some s = sym there ∙ (ap (λ (m : ℕ). slice_get server.sessions.items m) same ∙ here) in same_Some t s q in
        let is_after : h ≡ after = set_here old.sessions.items k after h (sym (ap (λ (m : ℕ). slice_get (slice_set old.sessions.items k after) m) same) ∙ stands) in
        let was = own.each k s before here l.stood in
        subst (λ (x : SessionHand). IsPartOf t old.number x (seen_by new.device_seat)) (sym is_after)
        (subst (λ (y : Session). IsPartOf y old.number after (seen_by new.device_seat)) (sym is_s)
        (record { hand = hand_still (plan_of_session s) old.number before after l.served.hand was.hand; keeps = l.served.keeps }))
    part_at j t h there stands false e =
        let other : j ≡ k → ⊥ = eqb-false j k e in
        let was = own.each j t h there (sym (set_elsewhere old.sessions.items k j after other) ∙ stands) in
        record {
          hand = was.hand;
          keeps = at_session_others t.spec s.spec.number old.number (seen_by h.intake) (seen_by h.memory) (seen_by old.device_seat) (seen_by new.device_seat) l.served.stepped.steps h.sender.pushed l.served.stepped.added l.served.stepped.named (λ e. apart j t there other (sym e)) was.keeps;
        }

    pub still_its_hand : IsHandOf server new
    still_its_hand =
        record {
          number = subst (λ (n : ℕ). n < server.hands) (sym l.number) own.number;
          device = record {
            book_is = l.served.stepped.seat.0.0 ∙ own.device.book_is;
            outside = l.served.stepped.seat.1;
            number_is = l.served.stepped.seat.0.2 ∙ (own.device.number_is ∙ sym l.number);
            plan_is = l.served.stepped.seat.0.3 ∙ own.device.plan_is;
          };
          pool = l.served.claims.pool_is ∙ own.pool;
          count = ap length l.sessions_are ∙ (length-set old.sessions.items k after ∙ own.count);
          next = subst (λ (n : ℕ). n ≤ length server.sessions.items) (sym l.next) own.next;
          each = λ j t h there stands. subst (λ (n : ℕ). IsPartOf t n h (seen_by new.device_seat)) (sym l.number) (part_at j t h there (ap (λ (x : List SessionHand). slice_get x j) (sym l.sessions_are) ∙ stands) (j == k) refl);
          named = subst (λ (n : ℕ). AreNamed (length server.sessions.items) n (seen_by new.device_seat)) (sym l.number)
              (named_still (length server.sessions.items) old.number s.spec.number (from_one k s.spec.number (running.sessions k s here).number, up_to_count k s.spec.number (length server.sessions.items) (running.sessions k s here).number (slice_get_within server.sessions.items k s here)) l.served.stepped.steps (seen_by old.device_seat) (seen_by new.device_seat) l.served.stepped.added l.served.stepped.named own.named);
          closing = λ e. subst (λ (r : Option (ClosingRoom D g)). MatchOption r ⊥ (IsClosingRoom (keeps_of server) server.hands (length server.sessions.items))) (sym l.closing) (own.closing (sym l.number ∙ e));
        }

    pub has_worked : HasWorked old new
    has_worked = record {
      number = l.number;
      pool = (l.served.claims.pool_is, l.served.claims.claims_are, l.served.claims.granted_is);
      frames =
          let sums : frames_of new + frames_out old.number before ≡ frames_of old + frames_out old.number after =
          ap (λ (n : ℕ). sum_by (frames_out n) new.sessions.items + frames_out old.number before) l.number
          ∙ (ap (λ (x : List SessionHand). sum_by (frames_out old.number) x + frames_out old.number before) l.sessions_are
          ∙ sum_set (frames_out old.number) old.sessions.items k before after l.stood) in
          same_change (given_back new.pool_seat) (given_back old.pool_seat) (frames_of new) (frames_of old) (frames_out old.number before) (frames_out old.number after) sums l.served.frames;
    }

-- the same hand with another state of its seat at the pool
pub with_seat_still : {D : Type 0} {g : disk.Ghosts D} (server : Server D g) (hand : Hand D g) (seat : PoolSeat) → seat_pool seat ≡ seat_pool hand.pool_seat → IsHandOf server hand → IsHandOf server (with_pool_seat hand seat)
with_seat_still server hand seat same h = record { number = h.number; device = h.device; pool = same ∙ h.pool; count = h.count; next = h.next; each = h.each; named = h.named; closing = h.closing }
