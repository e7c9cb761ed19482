-- Lines that leave the account of a client as it was.
use Rattle.std.proofs.Common.{◌≡◌, ℕ, Bool, List, [], ◌∷◌, ◌++◌, refl, ap}
use Rattle.host_model.specs.{Aborted, Drained, Filled, Sent, Shown}
use Rattle.host_session.specs.{IsFilled, IsShown, ClientState}
use Rattle.host_worker.specs.{released_of, HasReceived, HasSent, received_events}
use Rattle.host_play.specs.{IsAsBefore}
use Rattle.host_play.proofs.Accounts.{AreSilent, as_before, as_before_trans, silent_answers, silent_then}

pub filled_before : (id block count byte : ℕ) (old new : ClientState) (done : Bool) → IsFilled id block count byte old new done → released_of new ≡ released_of old → IsAsBefore old new
filled_before id block count byte old new done w released =
    as_before old new (Filled id block count byte done ∷ []) (ap (λ (c : ClientState). c.log) w.left) (record { attached = refl; wanted = refl; short = refl }) released

pub shown_before : (id block count : ℕ) (old new : ClientState) (done : Bool) → IsShown id block count old new done → released_of new ≡ released_of old → IsAsBefore old new
shown_before id block count old new done w released =
    as_before old new (Shown id block count done w.bytes ∷ []) (ap (λ (c : ClientState). c.log) w.left) (record { attached = refl; wanted = refl; short = refl }) released

pub received_before : (old new : ClientState) → HasReceived old new → IsAsBefore old new
received_before old new w = as_before old new (received_events w.answers) (ap (λ (c : ClientState). c.log) w.left) (silent_answers w.answers) (ap released_of w.left)

pub sent_before : (bytes : List ℕ) (index : ℕ) (old new : ClientState) → HasSent bytes index old new → IsAsBefore old new
sent_before bytes index old new w =
    as_before_trans old w.before new (received_before old w.before w.receives)
    (as_before w.before new (Sent index bytes ∷ []) (ap (λ (c : ClientState). c.log) w.sends.2) (record { attached = refl; wanted = refl; short = refl }) (ap released_of w.sends.2))

-- the events of an end
pub silent_drain : (answers : List (List ℕ)) → AreSilent (received_events answers ++ Drained ∷ [])
silent_drain answers = silent_then (received_events answers) (Drained ∷ []) (silent_answers answers) (record { attached = refl; wanted = refl; short = refl })

pub silent_abort : AreSilent (Aborted ∷ [])
silent_abort = record { attached = refl; wanted = refl; short = refl }
