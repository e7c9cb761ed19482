-- The session of a client in its script.
use Rattle.std.proofs.Common.{◌≡◌, ℕ, ◌-◌, List, map, Some, None, true, sym, ap, subst, ◌∙◌}
use Rattle.std.specs.Prelude.{slice_get}
use Rattle.host_session.specs.{ClientState}
use Rattle.host_worker.proofs.Lists.{map_at, map_from}
use Rattle.script_model.specs.{SessionScript, PlannedSession, plan_of}
use Rattle.host_play.specs.{Client, HasPlayedSession, IsClientReady, session_number, HasPlayedOut, HasRoomForLines, ArePieces}
use Rattle.host_play.proofs.Reversed.{some_same}

module _ (sessions : List SessionScript) (client : Client) (r : IsClientReady (map plan_of sessions) client) (place : ℕ) (at : place ≡ session_number client.end - 1) where
  -- there is one
  pub stands_there : None ≡ slice_get sessions place → ⊥
  stands_there none =
      let from = map_from plan_of sessions place r.plan (ap (slice_get (map plan_of sessions)) at ∙ r.stands) in
      some_none from.0 (sym from.1 ∙ sym none)
    where
      some_none : (s : SessionScript) → Some s ≡ None → ⊥
      some_none s h = cc h

  module _ (session : SessionScript) (here : Some session ≡ slice_get sessions place) where
    placed : slice_get (map plan_of sessions) (session_number client.end - 1) ≡ Some (plan_of session)
    placed = ap (slice_get (map plan_of sessions)) (sym at) ∙ map_at plan_of sessions place session (sym here)

    its_plan : r.plan ≡ plan_of session
    its_plan = some_same (sym r.stands ∙ placed)

    pub its_room : HasRoomForLines session.lines.items client.end.plan.spec
    its_room = subst (λ (p : PlannedSession). HasRoomForLines p.lines client.end.plan.spec) its_plan r.room

    pub its_pieces : ArePieces client.end.plan.spec.size session.lines.items client.pieces.items
    its_pieces = subst (λ (p : PlannedSession). ArePieces client.end.plan.spec.size p.lines client.pieces.items) its_plan r.pieces

    -- it was played
    pub played_so : (new : ClientState) → new.plan ≡ client.end.plan → new.finish ≡ Some session.finish → new.closed ≡ true → HasPlayedOut session.finish session.lines.items new.log → HasPlayedSession (map plan_of sessions) client.end new
    played_so new same finish closed out = record {
      same_plan = same;
      plan = plan_of session;
      stands = placed;
      finish_is = finish;
      closed_is = closed;
      played = out;
    }
