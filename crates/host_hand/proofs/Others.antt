-- What a hand keeps at other sessions, and at the start.
use Rattle.std.proofs.Common.{◌≡◌, ◌≢◌, ℕ, ◌≤◌, ◌&&◌, ◌==◌, cond, List, [], ◌∷◌, ◌++◌, length, filter, Some, refl, sym, ap, subst, ◌∙◌, ◌⊎◌, inl, inr, arith, append-nil, ne_eqb}
use Rattle.std.specs.List.{All, slice_get}
use Rattle.std.proofs.lemmas.List.Elements.{All-nil, All-head, All-tail, filter-append}
use Rattle.host_model.specs.{MemEntry, Step, carries_out, outcome_of}
use Rattle.host_rings.specs.{Slip}
use Rattle.host_log.specs.{entries_of, HasAdded}
use Rattle.host_intake.specs.{IntakeEntry, Landing, request_in}
use Rattle.host_session.specs.{SessionSpec, moves_for, moves_owed}
use Rattle.host_hand.specs.{IsAtSession, own_landings, IsEndingRecord, asks_in, steps_for}
use Rattle.host_hand.proofs.Endings.{all_map, is_step_of}
use Rattle.host_log.proofs.Growing.{own_place}
use Rattle.host_log.proofs.Places.{longer_length}

-- steps for another session are none for this one
other_steps : (s i session : ℕ) (steps : List Step) → session ≢ s → All (λ (step : Step). step.session ≡ session) steps → filter (is_step_of s i) steps ≡ []
other_steps s i session [] ne all = refl
other_steps s i session (step ∷ steps) ne all =
    ap (λ b. cond (b && step.index == i) (step ∷ filter (is_step_of s i) steps) (filter (is_step_of s i) steps)) (ne_eqb step.session s (λ e. ne (sym (All-head (λ (x : Step). x.session ≡ session) step steps all) ∙ e)))
    ∙ other_steps s i session steps ne (All-tail (λ (x : Step). x.session ≡ session) step steps all)

module _ (spec : SessionSpec) (session n : ℕ) (es : List IntakeEntry) (h : List MemEntry) (made made' steps : List Step) (pushed : List Slip)
    (a : HasAdded (λ step. step.hand) n steps made made') (named : All (λ (step : Step). step.session ≡ session) steps) (ne : session ≢ spec.number) where
  same_steps : (i : ℕ) → steps_for n spec.number i made' ≡ steps_for n spec.number i made
  same_steps i = ap (filter (is_step_of spec.number i)) a.own ∙ (filter-append (is_step_of spec.number i) (entries_of (λ step. step.hand) n made) steps
      ∙ (ap (λ l. steps_for n spec.number i made ++ l) (other_steps spec.number i session steps ne named) ∙ append-nil (steps_for n spec.number i made)))

  old_one : (p : ℕ) (step : Step) → slice_get made' p ≡ Some step → step.hand ≡ n → step.session ≡ spec.number → slice_get made p ≡ Some step
  old_one p step at by mine = sorted (own_place (λ step. step.hand) n (λ (step : Step). step.session ≡ session) steps made made' p step a.begins a.own named at by)
    where
      sorted : (slice_get made p ≡ Some step) ⊎ ((length made ≤ p) × (step.session ≡ session)) → slice_get made p ≡ Some step
      sorted (inl o) = o
      sorted (inr q) = absurd (ne (sym q.1 ∙ mine))

  other_ending : (l : Landing) → IsEndingRecord spec.part spec.number n es h made l → IsEndingRecord spec.part spec.number n es h made' l
  other_ending l (inr k) = inr k
  other_ending l (inl (t, k)) = inl (
    t,
    record {
      stands = k.stands;
      by = k.by;
      waits = k.waits;
      carried = ap (carries_out (asks_in spec.part t)) (same_steps l.index) ∙ k.carried;
      outcome = k.outcome ∙ ap (outcome_of t.verdict (asks_in spec.part t)) (sym (same_steps l.index));
      moved = k.moved ∙ ap (λ m. moves_owed t.verdict l.end.outcome l.index (request_in t) m (moves_for n l.index h)) (sym (same_steps l.index));
      device_front = λ p step at by session index. k.device_front p step (old_one p step at by session) by session index;
      memory_front = k.memory_front;
      taking_front = k.taking_front;
      device_reached = omega (arith, k.device_reached, longer_length made made' a.begins);
      memory_reached = k.memory_reached;
    },
  )

  -- a hand keeps a session while it makes steps for another one
  pub at_session_others : IsAtSession spec n es h made pushed → IsAtSession spec n es h made' pushed
  at_session_others k = record {
    steps = λ p step at by session. k.steps p step (old_one p step at by session) by session;
    moves = k.moves;
    releases = k.releases;
    settled = k.settled;
    endings = all_map (IsEndingRecord spec.part spec.number n es h made) (IsEndingRecord spec.part spec.number n es h made') (own_landings n es) other_ending k.endings;
    slips = k.slips;
    seen = k.seen;
  }

-- a hand that has done and seen nothing keeps each session
begun : (spec : SessionSpec) (n : ℕ) → IsAtSession spec n [] [] [] []
begun spec n = record {
  steps = λ p step at by session. absurd (cc at);
  moves = λ p e at by. absurd (cc at);
  releases = λ p e at by. absurd (cc at);
  settled = refl;
  endings = All-nil (IsEndingRecord spec.part spec.number n [] [] []);
  slips = refl;
  seen = refl;
}

pub begins : (spec : SessionSpec) (n : ℕ) (es : List IntakeEntry) (h : List MemEntry) (made : List Step) (pushed : List Slip) → es ≡ [] → h ≡ [] → made ≡ [] → pushed ≡ [] → IsAtSession spec n es h made pushed
begins spec n es h made pushed a b c d =
    subst (λ l. IsAtSession spec n es h made l) (sym d) (subst (λ l. IsAtSession spec n es h l []) (sym c) (subst (λ l. IsAtSession spec n es l [] []) (sym b) (subst (λ l. IsAtSession spec n l [] [] []) (sym a) (begun spec n))))
