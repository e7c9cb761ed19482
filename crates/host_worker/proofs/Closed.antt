-- How a client ends its session, step by step.
use Rattle.std.proofs.Common.{◌≡◌, inl, inr, ℕ, ◌+◌, Bool, true, false, List, [], ◌∷◌, ◌++◌, length, Option, Some, None, IsSome, refl, sym, ap, ap₂, subst, ◌∙◌, arith, append-nil, append_assoc}
use Rattle.std.proofs.lemmas.List.{map-append}
use Rattle.host_frames.specs.{PoolSeat, claims, given_back, granted, seat_pool}
use Rattle.host_hand.specs.{released_by}
use Rattle.host_io.specs.declared.disk.Disk as disk
use Rattle.host_model.specs.{Event, Aborted, Received, MemEntry, received}
use Rattle.host_record.specs.{Finish, Abort, Drain}
use Rattle.host_session.specs.{IsFinished, ClientState, owed_count, IsCloseAnswer, IsClosing, IsStillOpen, closing_event, pages_of_ids, IsClient, SessionPlan}
use Rattle.host_log.specs.{Continues}
use Rattle.host_turn.specs.{number, seen_by}
use Rattle.host_worker.specs.{Hand, Server, HasWorked, HaveWorked, frames_of, released_of, IsHandOf, with_pool_seat, IsClientOf, HasAborted, HasDrained, HasReceived, HasAnswerRoom, KeepsRoom, MayWait, ReceivesOwed, received_events}
use Rattle.host_worker.proofs.Receiving.{owed_nothing, owed_still, owed_twice}
use Rattle.host_worker.proofs.Released.{released_all}
use Rattle.host_hand.proofs.Framing.{released_still}
use Rattle.host_worker.proofs.Shared.{client_still}
use Rattle.host_worker.proofs.Visited.{with_seat_still}

-- ---- pages

-- what an attempt to close gave back is what the client took out
pub record IsEven (old new : ClientState) (seat seat' : PoolSeat) : Type 0 where
  pub pool : (seat_pool seat' ≡ seat_pool seat) × (claims seat' ≡ claims seat) × (granted seat' ≡ granted seat)
  pub frames : given_back seat' + released_of old ≡ given_back seat + released_of new

same_even : (old new : ClientState) (seat seat' : PoolSeat) → seat' ≡ seat → released_of new ≡ released_of old → IsEven old new seat seat'
same_even old new seat seat' e r = record {
  pool = (ap seat_pool e, ap (λ (q : PoolSeat). claims q) e, ap granted e);
  frames = let g : given_back seat' ≡ given_back seat = ap given_back e in omega (arith, g, r);
}

-- the client's number at the buffers
continues_client : (old : ClientState) (k : IsClient old) (h : List MemEntry) → Continues (λ e. e.hand) (number old.memory_seat) (seen_by old.memory_seat) h → released_by old.plan.hands h ≡ released_of old
continues_client old k h c = released_still old.plan.hands (seen_by old.memory_seat) h (subst (λ (n : ℕ). Continues (λ e. e.hand) n (seen_by old.memory_seat) h) k.memory_seat.number_is c)

even_open : (old new : ClientState) (seat seat' : PoolSeat) → IsClient old → IsStillOpen old new seat seat' → IsEven old new seat seat'
even_open old new seat seat' k o =
    same_even old new seat seat' o.pool
    (ap (λ (p : SessionPlan). released_by p.hands (seen_by new.memory_seat)) (ap (λ (s : ClientState). s.plan) o.left) ∙ continues_client old k (seen_by new.memory_seat) o.later)

even_closing : (old new : ClientState) (seat seat' : PoolSeat) → IsClient old → IsClosing old new seat seat' → IsEven old new seat seat'
even_closing old new seat seat' k c =
    let r = c.released in
    let n : ℕ = old.plan.hands in
    let taken : released_of new ≡ released_of old + pages_of_ids r.found r.ids =
    ap (λ (p : SessionPlan). released_by p.hands (seen_by new.memory_seat)) (ap (λ (s : ClientState). s.plan) c.left)
    ∙ (ap (λ (h : List MemEntry). released_by n h) r.visit.left
    ∙ (released_all n r.found r.ids
    ∙ ap (λ (m : ℕ). m + pages_of_ids r.found r.ids) (continues_client old k r.found r.visit.later))) in
    record {
      pool = (r.home.pool, r.home.claims, r.home.granted);
      frames = omega (arith, taken, r.home.given_back);
    }

pub is_even : (old new : ClientState) (seat seat' : PoolSeat) (answer : Bool) → IsClient old → IsCloseAnswer old new seat seat' answer → IsEven old new seat seat'
is_even old new seat seat' true k a = elim a [ inl b ↦ same_even old new seat seat' b.2 (ap released_of b.1) | inr c ↦ even_closing old new seat seat' k c.1 ]
is_even old new seat seat' false k a = even_open old new seat seat' k a.1

module _ {D : Type 0} {g : disk.Ghosts D} where
  pub closed_worked : (old new : Hand D g) (client client' : ClientState) (answer : Bool) → new ≡ with_pool_seat old new.pool_seat → IsClient client → IsCloseAnswer client client' old.pool_seat new.pool_seat answer → HaveWorked old new client client'
  closed_worked old new client client' answer same k a =
      let e = is_even client client' old.pool_seat new.pool_seat answer k a in
      let f : frames_of new ≡ frames_of old = ap (λ (h : Hand D g). frames_of h) same in
      record { number = ap (λ (h : Hand D g). h.number) same; pool = e.pool; frames = omega (arith, f, e.frames) }

  pub worked_with : (old new : Hand D g) (client client' : ClientState) → released_of client' ≡ released_of client → HasWorked old new → HaveWorked old new client client'
  worked_with old new client client' same w = record { number = w.number; pool = w.pool; frames = omega (arith, same, w.frames) }

  pub worked_then : (a b c : Hand D g) (x y z : ClientState) → HaveWorked a b x y → HaveWorked b c y z → HaveWorked a c x z
  worked_then a b c x y z p q = record {
    number = q.number ∙ p.number;
    pool = (q.pool.0 ∙ p.pool.0, q.pool.1 ∙ p.pool.1, q.pool.2 ∙ p.pool.2);
    frames = omega (arith, p.frames, q.frames);
  }

  pub has_worked_then : (a b c : Hand D g) → HasWorked a b → HasWorked b c → HasWorked a c
  has_worked_then a b c p q = record {
    number = q.number ∙ p.number;
    pool = (q.pool.0 ∙ p.pool.0, q.pool.1 ∙ p.pool.1, q.pool.2 ∙ p.pool.2);
    frames = omega (arith, p.frames, q.frames);
  }

  pub has_worked_none : (a : Hand D g) → HasWorked a a
  has_worked_none a = record { number = refl; pool = (refl, refl, refl); frames = refl }

  pub have_worked_none : (a : Hand D g) (x y : ClientState) → released_of y ≡ released_of x → HaveWorked a a x y
  have_worked_none a x y e = worked_with a a x y e (has_worked_none a)

pub received_released : (old new : ClientState) → HasReceived old new → released_of new ≡ released_of old
received_released old new r = ap released_of r.left

-- ---- a client that ends its session

-- it was told to end so, and logged this since
pub record IsEnding (how : Finish) (more : List Event) (old now : ClientState) : Type 0 where
  pub plan : now.plan ≡ old.plan
  pub log_is : now.log ≡ old.log ++ more
  pub finish_is : now.finish ≡ Some how
  pub open_still : now.closed ≡ false

-- the events that are logged as it is told
abbrev pub told_events : Finish → List Event
told_events Drain = []
told_events Abort = Aborted ∷ []

pub ending_told : (how : Finish) (old new : ClientState) → IsClient old → old.finish ≡ None → IsFinished how old new → IsEnding how (told_events how) old new
ending_told Drain old new k o f = record {
  plan = ap (λ (s : ClientState). s.plan) f.left;
  log_is = ap (λ (s : ClientState). s.log) f.left;
  finish_is = ap (λ (s : ClientState). s.finish) f.left;
  open_still = ap (λ (s : ClientState). s.closed) f.left ∙ k.ended.first o;
}
ending_told Abort old new k o f = record {
  plan = ap (λ (s : ClientState). s.plan) f.left;
  log_is = ap (λ (s : ClientState). s.log) f.left;
  finish_is = ap (λ (s : ClientState). s.finish) f.left;
  open_still = ap (λ (s : ClientState). s.closed) f.left ∙ k.ended.first o;
}

pub told_released : (how : Finish) (old new : ClientState) → IsFinished how old new → released_of new ≡ released_of old
told_released how old new f = ap released_of f.left

pub told_room : (old new : ClientState) → IsFinished Drain old new → KeepsRoom old new
told_room old new f more h = subst (λ (s : ClientState). HasAnswerRoom more s) (sym f.left) (subst (λ (l : List Event). HasAnswerRoom more (record old { log = l })) (sym (append-nil old.log)) h)

-- it received answers
pub ending_received : (answers : List (List ℕ)) (old mid new : ClientState) → IsEnding Drain (received_events answers) old mid → (r : HasReceived mid new) → IsEnding Drain (received_events (answers ++ r.answers)) old new
ending_received answers old mid new e r = record {
  plan = ap (λ (s : ClientState). s.plan) r.left ∙ e.plan;
  log_is =
      ap (λ (s : ClientState). s.log) r.left
      ∙ (ap (λ (l : List Event). l ++ received_events r.answers) e.log_is
      ∙ (append_assoc old.log (received_events answers) (received_events r.answers)
      ∙ ap (λ (l : List Event). old.log ++ l) (sym (map-append Received answers r.answers))));
  finish_is = ap (λ (s : ClientState). s.finish) r.left ∙ e.finish_is;
  open_still = ap (λ (s : ClientState). s.closed) r.left ∙ e.open_still;
}

-- it wasn't closed yet
pub ending_open : (how : Finish) (more : List Event) (old mid new : ClientState) (seat seat' : PoolSeat) → IsEnding how more old mid → IsCloseAnswer mid new seat seat' false → IsEnding how more old new
ending_open how more old mid new seat seat' e a = record {
  plan = ap (λ (s : ClientState). s.plan) a.1.left ∙ e.plan;
  log_is = ap (λ (s : ClientState). s.log) a.1.left ∙ e.log_is;
  finish_is = ap (λ (s : ClientState). s.finish) a.1.left ∙ e.finish_is;
  open_still = ap (λ (s : ClientState). s.closed) a.1.left ∙ e.open_still;
}

pub open_room : (mid new : ClientState) (seat seat' : PoolSeat) → IsCloseAnswer mid new seat seat' false → KeepsRoom mid new
open_room mid new seat seat' a more h = subst (λ (s : ClientState). HasAnswerRoom more s) (sym a.1.left) h

-- it was closed
pub record IsEndedBy (how : Finish) (more : List Event) (old new : ClientState) : Type 0 where
  pub plan : new.plan ≡ old.plan
  pub log_is : new.log ≡ (old.log ++ more) ++ closing_event (Some how)
  pub finish_is : new.finish ≡ Some how
  pub closed_is : new.closed ≡ true

pub ending_closed : (how : Finish) (more : List Event) (old mid new : ClientState) (seat seat' : PoolSeat) → IsEnding how more old mid → IsCloseAnswer mid new seat seat' true → IsEndedBy how more old new
ending_closed how more old mid new seat seat' e a = elim a [
  | inl b ↦ absurd (cc (sym e.open_still ∙ b.0))
  | inr c ↦ record {
    plan = ap (λ (s : ClientState). s.plan) c.1.left ∙ e.plan;
    log_is = ap (λ (s : ClientState). s.log) c.1.left ∙ ap₂ (λ (l : List Event) (f : Option Finish). l ++ closing_event f) e.log_is e.finish_is;
    finish_is = ap (λ (s : ClientState). s.finish) c.1.left ∙ e.finish_is;
    closed_is = ap (λ (s : ClientState). s.closed) c.1.left;
  }
]

pub has_aborted : (old new : ClientState) → IsEndedBy Abort (Aborted ∷ []) old new → HasAborted old new
has_aborted old new e = record { plan = e.plan; log_is = e.log_is ∙ append-nil (old.log ++ Aborted ∷ []); finish_is = e.finish_is; closed_is = e.closed_is }

-- ---- a drain

-- It was told to drain, and received answers since.
pub record IsDraining (old now : ClientState) : Type 0 where
  pub answers : List (List ℕ)
  pub ending : IsEnding Drain (received_events answers) old now
  pub few : ReceivesOwed old.log (old.log ++ received_events answers)

pub drains_first : (old new : ClientState) → IsClient old → old.finish ≡ None → IsFinished Drain old new → IsDraining old new
drains_first old new k o f = record {
  answers = [];
  ending = ending_told Drain old new k o f;
  few = subst (λ (l : List Event). ReceivesOwed old.log l) (sym (append-nil old.log)) (owed_nothing old.log);
}

pub drains_on : (old mid new : ClientState) → IsDraining old mid → HasReceived mid new → IsDraining old new
drains_on old mid new d r =
    let e = ending_received d.answers old mid new d.ending r in
    record {
      answers = d.answers ++ r.answers;
      ending = e;
      few = subst (λ (l : List Event). ReceivesOwed old.log l) e.log_is
          (owed_twice (length (received old.log)) (length (received mid.log)) (length (received new.log)) (owed_count old.log) (owed_count mid.log)
          (ap owed_count d.ending.log_is ∙ owed_still old.log d.answers)
          (subst (λ (l : List Event). ReceivesOwed old.log l) (sym d.ending.log_is) d.few) r.few);
    }

pub drains_open : (old mid new : ClientState) (seat seat' : PoolSeat) → IsDraining old mid → IsCloseAnswer mid new seat seat' false → IsDraining old new
drains_open old mid new seat seat' d a = record { answers = d.answers; ending = ending_open Drain (received_events d.answers) old mid new seat seat' d.ending a; few = d.few }

pub drains_closed : (old mid new : ClientState) (seat seat' : PoolSeat) → IsDraining old mid → IsCloseAnswer mid new seat seat' true → HasDrained old new
drains_closed old mid new seat seat' d a =
    let e = ending_closed Drain (received_events d.answers) old mid new seat seat' d.ending a in
    record { plan = e.plan; answers = d.answers; log_is = e.log_is; few = d.few; finish_is = e.finish_is; closed_is = e.closed_is }

-- ---- with the hand that helps

module _ {D : Type 0} {g : disk.Ghosts D} (server : Server D g) (hand : Hand D g) (client : ClientState) where
  -- A hand and a client, since the client was told to drain.
  pub record IsDrainingWith (hand' : Hand D g) (client' : ClientState) : Type 0 where
    pub hand_is : IsHandOf server hand'
    pub worked : HaveWorked hand hand' client client'
    pub room : HasAnswerRoom 0 client'
    pub draining : IsDraining client client'

  -- the same of an abort
  pub record IsAbortingWith (hand' : Hand D g) (client' : ClientState) : Type 0 where
    pub hand_is : IsHandOf server hand'
    pub worked : HaveWorked hand hand' client client'
    pub aborting : IsEnding Abort (Aborted ∷ []) client client'

  pub drains_with : (client' : ClientState) → IsHandOf server hand → IsClient client → MayWait 0 client → IsFinished Drain client client' → IsDrainingWith hand client'
  drains_with client' h k m f = record {
    hand_is = h;
    worked = have_worked_none hand client client' (told_released Drain client client' f);
    room = told_room client client' f 0 m.room;
    draining = drains_first client client' k m.open_still f;
  }

  pub aborts_with : (client' : ClientState) → IsHandOf server hand → IsClient client → MayWait 0 client → IsFinished Abort client client' → IsAbortingWith hand client'
  aborts_with client' h k m f = record {
    hand_is = h;
    worked = have_worked_none hand client client' (told_released Abort client client' f);
    aborting = ending_told Abort client client' k m.open_still f;
  }

  module _ (hand' hand'' : Hand D g) (client' client'' : ClientState) where
    -- an attempt to close
    still_its_hand : IsHandOf server hand' → hand'' ≡ with_pool_seat hand' hand''.pool_seat → HaveWorked hand' hand'' client' client'' → IsHandOf server hand''
    still_its_hand h same w = subst (λ (x : Hand D g). IsHandOf server x) (sym same) (with_seat_still server hand' hand''.pool_seat w.pool.0 h)

    pub drain_open : IsDrainingWith hand' client' → hand'' ≡ with_pool_seat hand' hand''.pool_seat → IsCloseAnswer client' client'' hand'.pool_seat hand''.pool_seat false → HaveWorked hand' hand'' client' client'' → IsDrainingWith hand'' client''
    drain_open d same a w = record {
      hand_is = still_its_hand d.hand_is same w;
      worked = worked_then hand hand' hand'' client client' client'' d.worked w;
      room = open_room client' client'' hand'.pool_seat hand''.pool_seat a 0 d.room;
      draining = drains_open client client' client'' hand'.pool_seat hand''.pool_seat d.draining a;
    }

    pub abort_open : IsAbortingWith hand' client' → hand'' ≡ with_pool_seat hand' hand''.pool_seat → IsCloseAnswer client' client'' hand'.pool_seat hand''.pool_seat false → HaveWorked hand' hand'' client' client'' → IsAbortingWith hand'' client''
    abort_open d same a w = record {
      hand_is = still_its_hand d.hand_is same w;
      worked = worked_then hand hand' hand'' client client' client'' d.worked w;
      aborting = ending_open Abort (Aborted ∷ []) client client' client'' hand'.pool_seat hand''.pool_seat d.aborting a;
    }

    -- it is closed
    pub drain_hand : IsDrainingWith hand' client' → hand'' ≡ with_pool_seat hand' hand''.pool_seat → HaveWorked hand' hand'' client' client'' → IsHandOf server hand'' × HaveWorked hand hand'' client client''
    drain_hand d same w = (still_its_hand d.hand_is same w, worked_then hand hand' hand'' client client' client'' d.worked w)

    pub abort_hand : IsAbortingWith hand' client' → hand'' ≡ with_pool_seat hand' hand''.pool_seat → HaveWorked hand' hand'' client' client'' → IsHandOf server hand'' × HaveWorked hand hand'' client client''
    abort_hand d same w = (still_its_hand d.hand_is same w, worked_then hand hand' hand'' client client' client'' d.worked w)

    pub drain_ends : IsDrainingWith hand' client' → IsCloseAnswer client' client'' hand'.pool_seat hand''.pool_seat true → HasDrained client client''
    drain_ends d a = drains_closed client client' client'' hand'.pool_seat hand''.pool_seat d.draining a

    pub abort_ends : IsAbortingWith hand' client' → IsCloseAnswer client' client'' hand'.pool_seat hand''.pool_seat true → HasAborted client client''
    abort_ends d a = has_aborted client client'' (ending_closed Abort (Aborted ∷ []) client client' client'' hand'.pool_seat hand''.pool_seat d.aborting a)

    -- it was helped
    pub drain_helped : IsDrainingWith hand' client' → IsHandOf server hand'' → HasWorked hand' hand'' → HasReceived client' client'' → KeepsRoom client' client'' → IsDrainingWith hand'' client''
    drain_helped d h w r keeps = record {
      hand_is = h;
      worked = worked_then hand hand' hand'' client client' client'' d.worked (worked_with hand' hand'' client' client'' (received_released client' client'' r) w);
      room = keeps 0 d.room;
      draining = drains_on client client' client'' d.draining r;
    }

  pub abort_helped : (hand' hand'' : Hand D g) (client' : ClientState) → IsAbortingWith hand' client' → IsHandOf server hand'' → HasWorked hand' hand'' → IsAbortingWith hand'' client'
  abort_helped hand' hand'' client' d h w = record {
    hand_is = h;
    worked = worked_then hand hand' hand'' client client' client' d.worked (worked_with hand' hand'' client' client' refl w);
    aborting = d.aborting;
  }

  -- the client is the server's own, and was ended
  pub draining_client : (hand' : Hand D g) (client' : ClientState) → IsDrainingWith hand' client' → IsClientOf server client → IsClientOf server client' × IsSome client'.finish
  draining_client hand' client' d c = (client_still server client client' d.draining.ending.plan c, subst (λ (f : Option Finish). IsSome f) (sym d.draining.ending.finish_is) refl)

  pub aborting_client : (hand' : Hand D g) (client' : ClientState) → IsAbortingWith hand' client' → IsClientOf server client → IsClientOf server client' × IsSome client'.finish
  aborting_client hand' client' d c = (client_still server client client' d.aborting.plan c, subst (λ (f : Option Finish). IsSome f) (sym d.aborting.finish_is) refl)
