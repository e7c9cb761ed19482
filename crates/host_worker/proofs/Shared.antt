-- A client of a server, and what it shares with the hands.
use Rattle.std.proofs.Common.{◌≡◌, ℕ, ◌-◌, Some, ◌≤◌, sym, ap, subst, ◌∙◌, arith}
use Rattle.std.specs.Prelude.{slice_get}
use Rattle.std.proofs.lemmas.Option.{same_Some, slice_get_within}
use Rattle.host_frames.specs.{pool_id}
use Rattle.host_intake.specs.{IntakePlan}
use Rattle.host_io.specs.declared.disk.Disk as disk
use Rattle.host_rings.specs.{NoteState}
use Rattle.host_session.specs.{SessionShared, ClientState, IsItsPool, IsShared, SessionPlan, intake_plan}
use Rattle.host_worker.specs.{Hand, Server, IsHandOf, IsNoteFor, IsClientOf, IsServer, IsSession, IsSessionShared, block_count, block_size, keeps_of, plan_of_session, session_count}

module _ {D : Type 0} {g : disk.Ghosts D} (server : Server D g) (client : ClientState) where
  pub client_still : (new : ClientState) → new.plan ≡ client.plan → IsClientOf server client → IsClientOf server new
  client_still new same c = record {
    session = c.session;
    stands = ap (λ (p : SessionPlan). slice_get server.sessions.items (p.spec.number - 1)) same ∙ c.stands;
    plan = same ∙ c.plan;
  }

  module _ (running : IsServer server) (c : IsClientOf server client) where
    its_session : IsSession (keeps_of server) (block_count server) (block_size server) server.hands (pool_id server.pool) (client.plan.spec.number - 1) c.session
    its_session = running.sessions (client.plan.spec.number - 1) c.session c.stands

    number_is : client.plan.spec.number ≡ c.session.spec.number
    number_is = ap (λ (p : SessionPlan). p.spec.number) c.plan ∙ ap (λ s. s.number) its_session.spec

    pub number_within : (1 ≤ client.plan.spec.number) × (client.plan.spec.number ≤ session_count server)
    number_within = (omega (arith, number_is, its_session.number), omega (arith, number_is, its_session.number, slice_get_within server.sessions.items (client.plan.spec.number - 1) c.session c.stands))

    pub shares : (shared : SessionShared) → IsSessionShared server client.plan.spec.number shared → IsShared client.plan shared
    shares shared is =
        subst (λ (p : SessionPlan). IsShared p shared) (sym c.plan)
        (subst (λ (x : SessionShared). IsShared (plan_of_session c.session) x) (sym (is c.session c.stands)) its_session.shared)

    -- a note of what this client sent is of the requests of its session
    pub note_fits : (hand : Hand D g) → IsHandOf server hand → (place : ℕ) (note : NoteState) → place ≡ client.plan.spec.number - 1 → note.ring ≡ client.plan.requests → IsNoteFor place hand (Some note)
    note_fits hand own place note at of h there plan is =
        let part = (own.each place c.session h (ap (λ (k : ℕ). slice_get server.sessions.items k) at ∙ c.stands) there).hand.intake.plan_is in
        let same : Some (intake_plan (plan_of_session c.session)) ≡ Some plan = sym part ∙ is in
        of ∙ (ap (λ (p : SessionPlan). p.requests) c.plan ∙ ap (λ (p : IntakePlan). p.ring) (same_Some (intake_plan (plan_of_session c.session)) plan same))

    pub its_pool : (hand : Hand D g) → IsHandOf server hand → IsItsPool client.plan server.pool hand.pool_seat
    its_pool hand h =
        let p : client.plan.pool ≡ pool_id server.pool = ap (λ (q : SessionPlan). q.pool) c.plan ∙ its_session.plan.1 in
        (sym p, h.pool ∙ sym p)
