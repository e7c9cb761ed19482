-- What each kind of line leaves, from what the calls of the client's end give.
use Rattle.std.proofs.Common.{◌≡◌, ℕ, ◌≤◌, max, Bool, true, false, ◌&&◌, ◌==◌, List, [], ◌∷◌, ◌++◌, length, None, Result, Ok, Err, refl, sym, ap, subst, ◌∙◌, arith, eq-eqb, is_some}
use Rattle.std.proofs.lemmas.Slice.Eq.{bytes_eq-Decides}
use Rattle.script_model.proofs.Said.{and_both}
use Rattle.host_frames.specs.{PoolSeat, seat_pool}
use Rattle.host_model.specs.{AttachError, Event, Attached, NotAttached, Filled, Sent, Shown, Drained, Aborted, received}
use Rattle.host_model.specs.declared.event.AttachError.TheVariants as attach
use Rattle.host_record.specs.{Abort, Drain}
use Rattle.host_report.specs.{is_call_for, is_wait}
use Rattle.host_session.specs.{IsAttachAnswer, IsFilled, IsShown, ClientState, owed_count}
use Rattle.host_worker.specs.{HasAborted, HasDrained, HasReceived, HasSent, received_events}
use Rattle.script_model.specs.{ScriptLine, Attach, Fill, Show, Send, WaitAll, WaitFor}
use Rattle.script_played.specs.{ask_of}
use Rattle.host_play.specs.{HasClosedClient, HasDone, HasPlayed, HasPlayedOut}
use Rattle.host_play.proofs.SoFar.{calls_on, ends_on, receives, waited_all, waited_for}
use Rattle.host_play.proofs.Waits.{owed_more as owed_still}

same_number : (n : ℕ) → (n == n) ≡ true
same_number n = eq-eqb n n refl

-- a call was logged
pub done_by : (line : ScriptLine) (e : Event) (old new : ClientState) → is_wait (ask_of line) ≡ false → is_call_for (ask_of line) e ≡ true → new.plan ≡ old.plan → new.finish ≡ old.finish → old.finish ≡ None → new.log ≡ old.log ++ e ∷ [] → HasDone line old new
done_by line e old new call made plan finish still log_is = record {
  plan = plan;
  open_still = finish ∙ still;
  log = λ lines p. subst (λ l. HasPlayed (lines ++ line ∷ []) l) (sym log_is) (calls_on lines line old.log p e call made);
}

-- ---- attach

not_closed : (pages : ℕ) (cause : AttachError) (old new : ClientState) → is_call_for (ask_of (Attach pages)) (NotAttached pages cause) ≡ true → new ≡ (record old { log = old.log ++ NotAttached pages cause ∷ [] }) → old.finish ≡ None → HasDone (Attach pages) old new
not_closed pages cause old new made left still =
    done_by (Attach pages) (NotAttached pages cause) old new refl made (ap (λ (c : ClientState). c.plan) left) (ap (λ (c : ClientState). c.finish) left) still (ap (λ (c : ClientState). c.log) left)

pub attach_done : (pages : ℕ) (old new : ClientState) (seat seat' : PoolSeat) (r : Result ℕ AttachError) → IsAttachAnswer 4096 pages old new seat seat' r → old.finish ≡ None → HasDone (Attach pages) old new
attach_done pages old new seat seat' (Ok id) w still =
    let left = w.1.left in
    done_by (Attach pages) (Attached pages id) old new refl (same_number pages) (ap (λ (c : ClientState). c.plan) left) (ap (λ (c : ClientState). c.finish) left) still (ap (λ (c : ClientState). c.log) left)
attach_done pages old new seat seat' (Err attach.NoFrames) w still = not_closed pages attach.NoFrames old new (and_both (pages == pages) true (same_number pages) refl) w.2 still
attach_done pages old new seat seat' (Err attach.NoIds) w still = not_closed pages attach.NoIds old new (and_both (pages == pages) true (same_number pages) refl) w.2 still
attach_done pages old new seat seat' (Err attach.Oom) w still = not_closed pages attach.Oom old new (and_both (pages == pages) true (same_number pages) refl) w.2 still
attach_done pages old new seat seat' (Err attach.Closed) w still = cc (subst (λ f. is_some f ≡ true) still w.0)

-- the seat is of the same pool
pub attach_seat : (pages : ℕ) (old new : ClientState) (seat seat' : PoolSeat) (r : Result ℕ AttachError) → IsAttachAnswer 4096 pages old new seat seat' r → seat_pool seat' ≡ seat_pool seat
attach_seat pages old new seat seat' (Ok id) w = w.2.pool
attach_seat pages old new seat seat' (Err attach.NoFrames) w = w.3.pool
attach_seat pages old new seat seat' (Err attach.NoIds) w = ap seat_pool w.3
attach_seat pages old new seat seat' (Err attach.Oom) w = ap seat_pool w.3
attach_seat pages old new seat seat' (Err attach.Closed) w = ap seat_pool w.2

-- ---- fill and show

pub fill_done : (id block count byte : ℕ) (old new : ClientState) (done : Bool) → IsFilled id block count byte old new done → old.finish ≡ None → HasDone (Fill id block count byte) old new
fill_done id block count byte old new done w still =
    done_by (Fill id block count byte) (Filled id block count byte done) old new refl
    (and_both (id == id && block == block && count == count) (byte == byte) (and_both (id == id && block == block) (count == count) (and_both (id == id) (block == block) (same_number id) (same_number block)) (same_number count)) (same_number byte))
    (ap (λ (c : ClientState). c.plan) w.left) (ap (λ (c : ClientState). c.finish) w.left) still (ap (λ (c : ClientState). c.log) w.left)

pub show_done : (id block count : ℕ) (old new : ClientState) (done : Bool) → IsShown id block count old new done → old.finish ≡ None → HasDone (Show id block count) old new
show_done id block count old new done w still =
    done_by (Show id block count) (Shown id block count done w.bytes) old new refl
    (and_both (id == id && block == block) (count == count) (and_both (id == id) (block == block) (same_number id) (same_number block)) (same_number count))
    (ap (λ (c : ClientState). c.plan) w.left) (ap (λ (c : ClientState). c.finish) w.left) still (ap (λ (c : ClientState). c.log) w.left)

-- ---- answers

-- what the guard of a receiving client keeps
pub few_still : (log : List Event) (answers : List (List ℕ)) → length (received log) ≤ owed_count log → length (received (log ++ received_events answers)) ≤ max (length (received log)) (owed_count log) → length (received (log ++ received_events answers)) ≤ owed_count (log ++ received_events answers)
few_still log answers few guard =
    let owed = owed_still log answers in
    omega (arith, few, guard, owed)

-- it received answers
pub received_so : (old new : ClientState) → HasReceived old new → (lines : List ScriptLine) → HasPlayed lines old.log → HasPlayed lines new.log
received_so old new w lines p =
    let log_is : new.log ≡ old.log ++ received_events w.answers = ap (λ (c : ClientState). c.log) w.left in
    let guard : length (received (old.log ++ received_events w.answers)) ≤ max (length (received old.log)) (owed_count old.log) = subst (λ l. length (received l) ≤ max (length (received old.log)) (owed_count old.log)) log_is w.few in
    subst (λ l. HasPlayed lines l) (sym log_is) (receives lines old.log w.answers p (few_still old.log w.answers p.few guard))

pub send_done : (bytes : List ℕ) (index : ℕ) (old new : ClientState) → HasSent bytes index old new → old.finish ≡ None → HasDone (Send bytes) old new
send_done bytes index old new w still =
    let mid = w.before in
    let sends = w.sends in
    let plan : new.plan ≡ old.plan = ap (λ (c : ClientState). c.plan) sends.2 ∙ ap (λ (c : ClientState). c.plan) w.receives.left in
    let log_is : new.log ≡ mid.log ++ Sent index bytes ∷ [] = ap (λ (c : ClientState). c.log) sends.2 in
    record {
      plan = plan;
      open_still = ap (λ (c : ClientState). c.finish) sends.2 ∙ sends.0;
      log = λ lines p. subst (λ l. HasPlayed (lines ++ Send bytes ∷ []) l) (sym log_is)
          (calls_on lines (Send bytes) mid.log (received_so old mid w.receives lines p) (Sent index bytes) refl ((bytes_eq-Decides bytes bytes).1 refl));
    }

pub wait_all_done : (old new : ClientState) → HasReceived old new → owed_count old.log ≤ length (received new.log) → old.finish ≡ None → HasDone WaitAll old new
wait_all_done old new w enough still =
    let log_is : new.log ≡ old.log ++ received_events w.answers = ap (λ (c : ClientState). c.log) w.left in
    let same : owed_count new.log ≡ owed_count old.log = ap owed_count log_is ∙ owed_still old.log w.answers in
    record {
      plan = ap (λ (c : ClientState). c.plan) w.left;
      open_still = ap (λ (c : ClientState). c.finish) w.left ∙ still;
      log = λ lines p. waited_all lines new.log (received_so old new w lines p) (omega (arith, enough, same));
    }

pub wait_for_done : (total : ℕ) (old new : ClientState) → HasReceived old new → total ≤ length (received new.log) → old.finish ≡ None → HasDone (WaitFor total) old new
wait_for_done total old new w enough still = record {
  plan = ap (λ (c : ClientState). c.plan) w.left;
  open_still = ap (λ (c : ClientState). c.finish) w.left ∙ still;
  log = λ lines p. waited_for lines total new.log (received_so old new w lines p) enough;
}

-- ---- the end

pub drain_closed : (old new : ClientState) → HasDrained old new → HasClosedClient Drain old new
drain_closed old new w = record {
  plan = w.plan;
  finish_is = w.finish_is;
  closed_is = w.closed_is;
  log = λ lines p.
      let guard = w.few in
      subst (λ l. HasPlayedOut Drain lines l) (sym w.log_is)
      (ends_on Drain lines (old.log ++ received_events w.answers) Drained (receives lines old.log w.answers p (few_still old.log w.answers p.few guard)) refl);
}

pub abort_closed : (old new : ClientState) → HasAborted old new → HasClosedClient Abort old new
abort_closed old new w = record {
  plan = w.plan;
  finish_is = w.finish_is;
  closed_is = w.closed_is;
  log = λ lines p. subst (λ l. HasPlayedOut Abort lines l) (sym w.log_is) (ends_on Abort lines old.log Aborted p refl);
}
