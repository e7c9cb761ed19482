-- The account of a hand with its client, as the log grows.
use Rattle.std.proofs.Common.{◌≡◌, ℕ, ◌+◌, ◌≤◌, Bool, true, false, ◌||◌, cond, List, [], ◌∷◌, ◌++◌, Option, Some, None, Result, Ok, Err, refl, sym, ap, subst, ◌∙◌, inl, inr, arith}
use Rattle.std.proofs.Math.Bool.{or-false}
use Rattle.std.specs.Prelude.{sum, ◌==◌, is_some}
use Rattle.std.specs.List.{cons_option, list_any, sum_by}
use Rattle.std.proofs.lemmas.List.Sums.{sum_by-append, sum_by-cons, sum_by_push}
use Rattle.host_frames.specs.{PoolSeat, SomeIsRefused, frames_in_claims, frames_asked, claims, given_back, granted}
use Rattle.host_hand.specs.{pages_by, pages_released_in}
use Rattle.host_io.specs.declared.disk.Disk as disk
use Rattle.host_memory.specs.{events}
use Rattle.host_model.specs.{AttachError, Event, Attached, NotAttached, Received, MemEntry, MemEvent, Attach, Fill, Show, Pin, Lift, Land, Done, Close, Release, map_after}
use Rattle.host_model.specs.declared.event.AttachError.TheVariants as attach
use Rattle.host_report.specs.{is_short_of_frames, pages_asked_by}
use Rattle.host_session.specs.{IsAttachAnswer, with_event, ClientState, IsClient, is_release}
use Rattle.host_log.specs.{entries_of}
use Rattle.host_turn.specs.{seen_by}
use Rattle.host_worker.specs.{Hand, HasWorked, HaveWorked, frames_of, pages_attached, pages_attached_by, pages_wanted, released_of, Server, IsHandOf, pool_seat_of, with_pool_seat, session_count, EachOf, IsClosed, received_events}
use Rattle.host_play.specs.{HasWorkedAlone, IsAsBefore, IsSquare, IsSquareAlone}
use Rattle.host_log.proofs.Bools.{or_parts}

-- ---- releases of a client that isn't closed

-- what isn't a release takes out no pages
pages_none : (before : List MemEntry) (what : MemEvent) → is_release what ≡ false → pages_released_in before what ≡ None
pages_none before (Attach id pages from) h = refl
pages_none before (Fill id block count byte) h = refl
pages_none before (Show id block count) h = refl
pages_none before (Pin index id by) h = refl
pages_none before (Lift index k id block bytes) h = refl
pages_none before (Land index k id block bytes) h = refl
pages_none before (Done index id) h = refl
pages_none before (Close index id) h = refl
pages_none before (Release id) h = cc

either_none : (b : Bool) (o : Option ℕ) → o ≡ None → cond b o None ≡ None
either_none true o e = e
either_none false o e = refl

skipped : (o : Option ℕ) (l : List ℕ) → o ≡ None → l ≡ [] → cons_option o l ≡ []
skipped None l e h = h
skipped (Some x) l e h = cc

-- one entry more
one_from : (n : ℕ) (before h : List MemEntry) (e : MemEntry) → (list_any is_release (events (entries_of (λ x. x.hand) n h)) ≡ false → map_after (pages_by n) (before ++ e ∷ []) h ≡ []) → (b : Bool) → (e.hand == n) ≡ b
    → list_any is_release (events (cond (e.hand == n) (e ∷ entries_of (λ x. x.hand) n h) (entries_of (λ x. x.hand) n h))) ≡ false → map_after (pages_by n) before (e ∷ h) ≡ []
one_from n before h e more true own none =
    let parts = or_parts (is_release e.what) (list_any is_release (events (entries_of (λ x. x.hand) n h)))
    (subst (λ b. list_any is_release (events (cond b (e ∷ entries_of (λ x. x.hand) n h) (entries_of (λ x. x.hand) n h))) ≡ false) own none) in
    skipped (pages_by n before e) (map_after (pages_by n) (before ++ e ∷ []) h) (either_none (e.hand == n) (pages_released_in before e.what) (pages_none before e.what parts.0)) (more parts.1)
one_from n before h e more false other none =
    let rest = subst (λ b. list_any is_release (events (cond b (e ∷ entries_of (λ x. x.hand) n h) (entries_of (λ x. x.hand) n h))) ≡ false) other none in
    skipped (pages_by n before e) (map_after (pages_by n) (before ++ e ∷ []) h) (ap (λ b. cond b (pages_released_in before e.what) None) other) (more rest)

-- of a maker without releases among its own entries nothing is counted
none_from : (n : ℕ) (before h : List MemEntry) → list_any is_release (events (entries_of (λ e. e.hand) n h)) ≡ false → map_after (pages_by n) before h ≡ []
none_from n before [] none = refl
none_from n before (e ∷ h) none = one_from n before h e (λ rest. none_from n (before ++ e ∷ []) h rest) (e.hand == n) refl none

-- a client that goes on has released nothing
pub released_none : (client : ClientState) → IsClient client → client.finish ≡ None → released_of client ≡ 0
released_none client is still = ap sum (none_from client.plan.hands [] (seen_by client.memory_seat) (is.ended.running (is.ended.first still)))

-- ---- sums over a log

-- events of which nothing is counted
pub record AreSilent (es : List Event) : Type 0 where
  pub attached : sum_by pages_attached_by es ≡ 0
  pub wanted : sum_by pages_asked_by es ≡ 0
  pub short : list_any is_short_of_frames es ≡ false

pub silent_answers : (answers : List (List ℕ)) → AreSilent (received_events answers)
silent_answers [] = record { attached = refl; wanted = refl; short = refl }
silent_answers (b ∷ answers) =
    let rest = silent_answers answers in
    record {
      attached = let t = sum_by-cons pages_attached_by (Received b) (received_events answers) in omega (arith, t, rest.attached);
      wanted = let t = sum_by-cons pages_asked_by (Received b) (received_events answers) in omega (arith, t, rest.wanted);
      short = rest.short;
    }

any-append : (p : Event → Bool) (xs ys : List Event) → list_any p (xs ++ ys) ≡ (list_any p xs || list_any p ys)
any-append p [] ys = refl
any-append p (x ∷ xs) ys = ap (λ b. p x || b) (any-append p xs ys) ∙ or_assoc (p x) (list_any p xs) (list_any p ys)
  where
    or_assoc : (a b c : Bool) → (a || (b || c)) ≡ ((a || b) || c)
    or_assoc true b c = refl
    or_assoc false b c = refl

pub silent_then : (xs ys : List Event) → AreSilent xs → AreSilent ys → AreSilent (xs ++ ys)
silent_then xs ys a b = record {
  attached = let t = sum_by-append pages_attached_by xs ys in omega (arith, t, a.attached, b.attached);
  wanted = let t = sum_by-append pages_asked_by xs ys in omega (arith, t, a.wanted, b.wanted);
  short = any-append is_short_of_frames xs ys ∙ ap (λ p. p || list_any is_short_of_frames ys) a.short ∙ b.short;
}

-- they leave the sums as they were
pub silent_more : (log es : List Event) → AreSilent es
    → (sum_by pages_attached_by (log ++ es) ≡ sum_by pages_attached_by log) × (sum_by pages_asked_by (log ++ es) ≡ sum_by pages_asked_by log) × (list_any is_short_of_frames (log ++ es) ≡ list_any is_short_of_frames log)
silent_more log es s = (
  let a = sum_by-append pages_attached_by log es in omega (arith, a, s.attached),
  let w = sum_by-append pages_asked_by log es in omega (arith, w, s.wanted),
  any-append is_short_of_frames log es ∙ ap (λ b. list_any is_short_of_frames log || b) s.short ∙ or-false (list_any is_short_of_frames log),
)

-- a client whose log grew by such events, and that released nothing before and after
pub as_before : (old new : ClientState) (es : List Event) → new.log ≡ old.log ++ es → AreSilent es → released_of new ≡ released_of old → IsAsBefore old new
as_before old new es log_is s released =
    let sums = silent_more old.log es s in
    record {
      attached = ap (sum_by pages_attached_by) log_is ∙ sums.0;
      wanted = ap (sum_by pages_asked_by) log_is ∙ sums.1;
      short = ap (list_any is_short_of_frames) log_is ∙ sums.2;
      released = released;
    }

pub as_before_trans : (a b c : ClientState) → IsAsBefore a b → IsAsBefore b c → IsAsBefore a c
as_before_trans a b c f s = record { attached = s.attached ∙ f.attached; wanted = s.wanted ∙ f.wanted; short = s.short ∙ f.short; released = s.released ∙ f.released }

pub or_left : (b : Bool) → (b || false) ≡ true → b ≡ true
or_left true h = refl
or_left false h = cc

-- one event more at the end
short_snoc : (log : List Event) (e : Event) → is_short_of_frames e ≡ false → list_any is_short_of_frames (log ++ e ∷ []) ≡ true → list_any is_short_of_frames log ≡ true
short_snoc log e quiet h =
    or_left (list_any is_short_of_frames log)
    (sym (any-append is_short_of_frames log (e ∷ []) ∙ ap (λ b. list_any is_short_of_frames log || (b || false)) quiet) ∙ h)

module _ {D : Type 0} {g : disk.Ghosts D} where
  -- ---- the hand did nothing

  pub square_still : (hand : Hand D g) (client client' : ClientState) → IsAsBefore client client' → IsSquare hand client → IsSquare hand client'
  square_still hand client client' same sq = record {
    granted_is = sq.granted_is ∙ sym same.attached;
    asked_within = subst (λ n. frames_asked (pool_seat_of hand) ≤ n) (sym same.wanted) sq.asked_within;
    refused = λ short. sq.refused (sym same.short ∙ short);
    given_back_is = sq.given_back_is ∙ ap (λ n. frames_of hand + n) (sym same.released);
  }

  -- ---- the hand worked

  pub square_worked : (old new : Hand D g) (client client' : ClientState) → HasWorked old new → IsAsBefore client client' → IsSquare old client → IsSquare new client'
  square_worked old new client client' w same sq = square_still new client client' same (record {
    granted_is = w.pool.2 ∙ sq.granted_is;
    asked_within = subst (λ cs. frames_in_claims cs ≤ pages_wanted client) (sym w.pool.1) sq.asked_within;
    refused = λ short. subst (λ cs. SomeIsRefused 4096 cs) (sym w.pool.1) (sq.refused short);
    given_back_is = omega (arith, w.frames, sq.given_back_is);
  })

  pub square_alone_worked : (old new : Hand D g) → HasWorked old new → IsSquareAlone old → IsSquareAlone new
  square_alone_worked old new w sq = record {
    granted_is = w.pool.2 ∙ sq.granted_is;
    asked_is = ap frames_in_claims w.pool.1 ∙ sq.asked_is;
    given_back_is = omega (arith, w.frames, sq.given_back_is);
  }

  -- a hand that works alone, so far
  pub record WorksAlone (server : Server D g) (old new : Hand D g) : Type 0 where
    pub hand : IsHandOf server new
    pub number_is : new.number ≡ old.number
    pub account : IsSquareAlone old → IsSquareAlone new

  pub works_alone_then : (server : Server D g) (a b c : Hand D g) → WorksAlone server a b → IsHandOf server c → HasWorked b c → WorksAlone server a c
  works_alone_then server a b c before hand w = record {
    hand = hand;
    number_is = w.number ∙ before.number_is;
    account = λ sq. square_alone_worked b c w (before.account sq);
  }

  pub worked_alone : (server : Server D g) (old new : Hand D g) → WorksAlone server old new → EachOf 0 (session_count server) IsClosed new → HasWorkedAlone server old new
  worked_alone server old new work closed = record { hand = work.hand; number_is = work.number_is; account = work.account; closed = closed }

  -- ---- both ended the session

  pub square_ended : (old new : Hand D g) (client client' : ClientState) (es : List Event) → HaveWorked old new client client' → client'.log ≡ client.log ++ es → AreSilent es → IsSquare old client → IsSquare new client'
  square_ended old new client client' es w log_is s sq =
      let sums = silent_more client.log es s in
      record {
        granted_is = w.pool.2 ∙ sq.granted_is ∙ sym (ap (sum_by pages_attached_by) log_is ∙ sums.0);
        asked_within = subst (λ n. frames_asked (pool_seat_of new) ≤ n) (sym (ap (sum_by pages_asked_by) log_is ∙ sums.1)) (subst (λ cs. frames_in_claims cs ≤ pages_wanted client) (sym w.pool.1) sq.asked_within);
        refused = λ short. subst (λ cs. SomeIsRefused 4096 cs) (sym w.pool.1) (sq.refused (sym (ap (list_any is_short_of_frames) log_is ∙ sums.2) ∙ short));
        given_back_is = omega (arith, w.frames, sq.given_back_is);
      }

  -- ---- an attach

  -- an attach that made no claim
  square_refused : (pages : ℕ) (cause : AttachError) (hand : Hand D g) (old new : ClientState) (seat' : PoolSeat) → is_short_of_frames (NotAttached pages cause) ≡ false → released_of new ≡ released_of old
      → new ≡ with_event old (NotAttached pages cause) → seat' ≡ pool_seat_of hand → IsSquare hand old → IsSquare (with_pool_seat hand seat') new
  square_refused pages cause hand old new seat' quiet released left same sq =
      let log_is : new.log ≡ old.log ++ NotAttached pages cause ∷ [] = ap (λ (c : ClientState). c.log) left in
      let got = sum_by_push pages_attached_by old.log (NotAttached pages cause) in
      let wanted = sum_by_push pages_asked_by old.log (NotAttached pages cause) in
      record {
        granted_is =
            let grown : pages_attached new ≡ pages_attached old + 0 = ap (sum_by pages_attached_by) log_is ∙ got in
            let kept : granted seat' ≡ granted (pool_seat_of hand) = ap granted same in
            omega (arith, kept, sq.granted_is, grown);
        asked_within =
            let grown : pages_wanted new ≡ pages_wanted old + pages = ap (sum_by pages_asked_by) log_is ∙ wanted in
            let kept : frames_asked seat' ≡ frames_asked (pool_seat_of hand) = ap frames_asked same in
            omega (arith, kept, sq.asked_within, grown);
        refused = λ short.
            let before = short_snoc old.log (NotAttached pages cause) quiet (sym (ap (list_any is_short_of_frames) log_is) ∙ short) in
            subst (λ q. SomeIsRefused 4096 (claims q)) (sym same) (sq.refused before);
        given_back_is = let kept : given_back seat' ≡ given_back (pool_seat_of hand) = ap given_back same in omega (arith, kept, sq.given_back_is, released);
      }

  -- The frames that the claim got are those of the buffer; a refused one is told in the log.
  pub square_attached : (pages : ℕ) (hand : Hand D g) (old new : ClientState) (seat' : PoolSeat) (r : Result ℕ AttachError) → released_of new ≡ released_of old
      → IsAttachAnswer 4096 pages old new (pool_seat_of hand) seat' r → old.finish ≡ None → IsSquare hand old → IsSquare (with_pool_seat hand seat') new
  square_attached pages hand old new seat' (Ok id) released w open_still sq =
      let claimed = w.2 in
      let log_is : new.log ≡ old.log ++ Attached pages id ∷ [] = ap (λ (c : ClientState). c.log) w.1.left in
      let got = sum_by_push pages_attached_by old.log (Attached pages id) in
      let wanted = sum_by_push pages_asked_by old.log (Attached pages id) in
      record {
        granted_is =
            let grown : pages_attached new ≡ pages_attached old + pages = ap (sum_by pages_attached_by) log_is ∙ got in
            omega (arith, claimed.granted, sq.granted_is, grown);
        asked_within =
            let grown : pages_wanted new ≡ pages_wanted old + pages = ap (sum_by pages_asked_by) log_is ∙ wanted in
            let more : frames_asked seat' ≡ claimed.claim.asked + frames_asked (pool_seat_of hand) = ap frames_in_claims claimed.claims in
            omega (arith, more, claimed.asked, sq.asked_within, grown);
        refused = λ short.
            let before = short_snoc old.log (Attached pages id) refl (sym (ap (list_any is_short_of_frames) log_is) ∙ short) in
            subst (λ cs. SomeIsRefused 4096 cs) (sym claimed.claims) (inr (sq.refused before));
        given_back_is = omega (arith, claimed.given_back, sq.given_back_is, released);
      }
  square_attached pages hand old new seat' (Err attach.NoFrames) released w open_still sq =
      let was = w.3 in
      let log_is : new.log ≡ old.log ++ NotAttached pages attach.NoFrames ∷ [] = ap (λ (c : ClientState). c.log) w.2 in
      let got = sum_by_push pages_attached_by old.log (NotAttached pages attach.NoFrames) in
      let wanted = sum_by_push pages_asked_by old.log (NotAttached pages attach.NoFrames) in
      record {
        granted_is =
            let grown : pages_attached new ≡ pages_attached old + 0 = ap (sum_by pages_attached_by) log_is ∙ got in
            omega (arith, was.granted, sq.granted_is, grown);
        asked_within =
            let grown : pages_wanted new ≡ pages_wanted old + pages = ap (sum_by pages_asked_by) log_is ∙ wanted in
            let more : frames_asked seat' ≡ was.claim.asked + frames_asked (pool_seat_of hand) = ap frames_in_claims was.claims in
            omega (arith, more, was.asked, sq.asked_within, grown);
        refused = λ short. subst (λ cs. SomeIsRefused 4096 cs) (sym was.claims) (inl was.refused);
        given_back_is = omega (arith, was.given_back, sq.given_back_is, released);
      }
  square_attached pages hand old new seat' (Err attach.Oom) released w open_still sq = square_refused pages attach.Oom hand old new seat' refl released w.2 w.3 sq
  square_attached pages hand old new seat' (Err attach.NoIds) released w open_still sq = square_refused pages attach.NoIds hand old new seat' refl released w.2 w.3 sq
  square_attached pages hand old new seat' (Err attach.Closed) released w open_still sq = cc (subst (λ f. is_some f ≡ true) open_still w.0)
