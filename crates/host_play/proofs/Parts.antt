-- One has done its part: the account of a hand from its beginning on.
use Rattle.std.proofs.Common.{◌≡◌, ℕ, true, false, List, [], ◌∷◌, All, Some, None, refl, sym, ap, ◌∙◌, arith}
use Rattle.std.specs.List.{list_any, sum_by}
use Rattle.std.proofs.lemmas.List.Elements.{All-head, All-tail}
use Rattle.std.proofs.lemmas.List.Sums.{sum_by-cons}
use Rattle.host_frames.specs.{frames_in_claims, frames_asked}
use Rattle.host_hand.specs.{frames_out, released_by, taken_out}
use Rattle.host_intake.specs.{IntakeEntry}
use Rattle.host_io.specs.declared.disk.Disk as disk
use Rattle.host_report.specs.{is_short_of_frames}
use Rattle.host_session.specs.{ClientState, IsNewClient, IsFreshHand, SessionHand}
use Rattle.host_turn.specs.{seen_by}
use Rattle.host_worker.specs.{Hand, Server, frames_of, pages_attached_by, released_of, IsNewHand, pool_seat_of}
use Rattle.script_model.specs.{PlannedSession}
use Rattle.host_play.specs.{Client, HasPlayedPart, HasPlayedSession, IsClientReady, HasHelped, HasWorkedAlone, IsSquare, IsSquareAlone}

-- a hand that has seen nothing took out no pages
frames_none : (n : ℕ) (hands : List SessionHand) → All IsFreshHand hands → sum_by (frames_out n) hands ≡ 0
frames_none n [] all = refl
frames_none n (h ∷ hands) all =
    let fresh = All-head IsFreshHand h hands all in
    let none : frames_out n h ≡ 0 = ap (λ (es : List IntakeEntry). taken_out n es (seen_by h.memory)) fresh.intake ∙ ap (taken_out n []) fresh.memory in
    let sums = sum_by-cons (frames_out n) h hands in
    omega (arith, sums, none, frames_none n hands (All-tail IsFreshHand h hands all))

module _ {D : Type 0} {g : disk.Ghosts D} (hand : Hand D g) (new : IsNewHand hand) where
  frames_new : frames_of hand ≡ 0
  frames_new = frames_none hand.number hand.sessions.items new.sessions

  asked_new : frames_asked (pool_seat_of hand) ≡ 0
  asked_new = ap frames_in_claims new.pool.0

  pub square_alone_new : IsSquareAlone hand
  square_alone_new = record { granted_is = new.pool.1; asked_is = asked_new; given_back_is = new.pool.2 ∙ sym frames_new }

  pub square_new : (client : ClientState) → IsNewClient client → IsSquare hand client
  square_new client c = record {
    granted_is = new.pool.1 ∙ sym (ap (sum_by pages_attached_by) c.log);
    asked_within = omega (arith, asked_new);
    refused = λ short. nothing_short (sym (ap (list_any is_short_of_frames) c.log) ∙ short);
    given_back_is = let none : released_of client ≡ 0 = ap (released_by client.plan.hands) c.seen.1 in omega (arith, new.pool.2, frames_new, none);
  }
    where
      nothing_short : {A : Type 0} → false ≡ true → A
      nothing_short h = cc h

module _ {D : Type 0} {g : disk.Ghosts D} (server : Server D g) (plans : List PlannedSession) (old new : Hand D g) (fresh : IsNewHand old) where
  pub client_part : (client client' : Client) → IsClientReady plans client → HasPlayedSession plans client.end client'.end → HasHelped server old new client.end client'.end
      → HasPlayedPart server plans (record { hand = old; client = Some client }) (record { hand = new; client = Some client' })
  client_part client client' r played helped = record {
    hand = helped.hand;
    number_is = helped.number_is;
    square = helped.account (square_new old fresh client.end r.new);
    acted = played;
    stayed = tt;
  }

  pub worker_part : HasWorkedAlone server old new → HasPlayedPart server plans (record { hand = old; client = None }) (record { hand = new; client = None })
  worker_part worked = record {
    hand = worked.hand;
    number_is = worked.number_is;
    square = worked.account (square_alone_new old fresh);
    acted = tt;
    stayed = worked.closed;
  }
