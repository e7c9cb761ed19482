-- A record was carried out.
use Rattle.std.proofs.Common.{◌≡◌, ◌⊎◌, inl, inr, ℕ, ◌+◌, ◌≤◌, ◌==◌, Bool, true, false, cond, List, [], ◌∷◌, ◌++◌, length, Option, Some, None, refl, sym, ap, ap₂, subst, ◌∙◌, arith, append_assoc, append-nil}
use Rattle.std.specs.Prelude.{slice_get, sum}
use Rattle.std.specs.List.{All, cons_option}
use Rattle.std.proofs.lemmas.List.Elements.{All-nil, All-cons, All-head, All-tail, All-append}
use Rattle.std.proofs.lemmas.Option.{slice_get_within}
use Rattle.atomic_table.specs.Seated.{TableId}
use Rattle.host_block.specs.{Op, Read, Write, Trim, Flush}
use Rattle.host_frames.specs.{SeenPages}
use Rattle.host_intake.specs.{RecordEnd, under}
use Rattle.host_model.specs.{MemEntry, MemEvent, Attach, Fill, Show, Pin, Lift, Land, Done, Release, Step, Accepted, asked_by, carries_out, ended, map_after, map_with_before}
use Rattle.host_model.specs.declared.memory.MemEvent.TheVariants as mem
use Rattle.host_record.specs.{Opcode, opcode}
use Rattle.host_record.specs.declared.opcode.Opcode.TheVariants as opcode
use Rattle.host_record.specs.declared.status.Status.{Status}
use Rattle.host_record.specs.declared.status.Status.TheVariants as status
use Rattle.host_log.specs.{Continues, entries_of, EachOwn, HasGrown, IsReached}
use Rattle.host_log.proofs.Histories.{prefix_refl}
use Rattle.host_hand.specs.{Errand, Run, Work, HasLetGo, pages_freed, release_of, IsStepFor, errand_asks, asks_upto, pages_by, pages_released_in, released_by, IsClosedBefore, HasRun, IsRun, status_by, HasCarried, IsMoveFor, IsOutcome, IsPastBuffers, IsTransferBy, work_verdict, work_by}
use Rattle.host_hand.specs.declared.work.Work.TheVariants as work
use Rattle.host_session.specs.{moves_by}
use Rattle.host_hand.proofs.BlockAfter.{under_append}
use Rattle.host_hand.proofs.CarryMoves.{done_named, named_under, no_release, read_moves, run_named, trim_moves, write_moves}
use Rattle.host_hand.proofs.Entered.{map_with_before_append}
use Rattle.host_hand.proofs.Framing.{released_still}
use Rattle.host_log.proofs.Growing.{grown_after, grown_as, grown_continues, grown_nothing, grown_refl, not_between, own_place, own_rest}
use Rattle.host_log.proofs.Places.{longer_length, get_append}

-- ---- nothing was done to buffers

module _ (n : ℕ) (old new : List MemEntry) (c : Continues (λ (x : MemEntry). x.hand) n old new) where
  none_closed : EachOwn (λ (x : MemEntry). x.hand) n (λ p x. length old ≤ p → IsClosedBefore new p x) new
  none_closed p x at by from = absurd (not_between (λ (y : MemEntry). y.hand) n old new p x c at by from)

  none_freed : released_by n new ≡ released_by n old + 0
  none_freed = let s = released_still n old new c in omega arith

-- ---- entries that release nothing

module _ (i n : ℕ) where
  keep_pages : (before : List MemEntry) (x : MemEntry) (what : MemEvent) → x.what ≡ what → IsMoveFor i what → pages_released_in before what ≡ None
  keep_pages before x (Attach id pages from) is m = refl
  keep_pages before x (Fill id block count byte) is m = refl
  keep_pages before x (Show id block count) is m = refl
  keep_pages before x (Pin index id by) is m = refl
  keep_pages before x (Lift index k id block bytes) is m = refl
  keep_pages before x (Land index k id block bytes) is m = refl
  keep_pages before x (Done index id) is m = refl
  keep_pages before x (mem.Close index id) is m = refl
  keep_pages before x (Release id) is m = absurd (no_release i id (Release id) m refl)

  moves_keep : (before rest : List MemEntry) → All (λ (x : MemEntry). IsMoveFor i x.what) (entries_of (λ (x : MemEntry). x.hand) n rest) → map_after (pages_by n) before rest ≡ []
  moves_keep before [] all = refl
  moves_keep before (x ∷ rest) all = at (x.hand == n) all (λ more. moves_keep (before ++ x ∷ []) rest more)
    where
      at : (b : Bool) → All (λ (y : MemEntry). IsMoveFor i y.what) (cond b (x ∷ entries_of (λ (y : MemEntry). y.hand) n rest) (entries_of (λ (y : MemEntry). y.hand) n rest))
          → (All (λ (y : MemEntry). IsMoveFor i y.what) (entries_of (λ (y : MemEntry). y.hand) n rest) → map_after (pages_by n) (before ++ x ∷ []) rest ≡ [])
          → cons_option (cond b (pages_released_in before x.what) None) (map_after (pages_by n) (before ++ x ∷ []) rest) ≡ []
      at true all next = ap₂ cons_option (keep_pages before x x.what refl (All-head (λ (y : MemEntry). IsMoveFor i y.what) x (entries_of (λ (y : MemEntry). y.hand) n rest) all)) (next (All-tail (λ (y : MemEntry). IsMoveFor i y.what) x (entries_of (λ (y : MemEntry). y.hand) n rest) all))
      at false all next = next all

  released_moves : (front stop : ℕ) (moves : List MemEvent) (old new : List MemEntry) → All (IsMoveFor i) moves → HasGrown (λ (x : MemEntry). x.hand) n front stop (under n moves) old new → released_by n new ≡ released_by n old
  released_moves front stop moves old new named g =
      let rest : entries_of (λ (x : MemEntry). x.hand) n g.begins.0 ≡ under n moves = own_rest (λ (x : MemEntry). x.hand) n (under n moves) old new g.begins g.own in
      ap (released_by n) (sym g.begins.1)
      ∙ ap sum (map_with_before_append (pages_by n) old g.begins.0 ∙ (ap (λ l. map_with_before (pages_by n) old ++ l) (moves_keep old g.begins.0 (subst (λ l. All (λ (x : MemEntry). IsMoveFor i x.what) l) (sym rest) (named_under i n moves named))) ∙ append-nil (map_with_before (pages_by n) old)))

-- ---- a read or a write

asked_is : (e : Errand) (op : Op) → IsTransferBy (opcode e.request) op → asked_by (opcode e.request) e.part e.request ≡ errand_asks e op
asked_is e Read kind = ap (λ o. asked_by o e.part e.request) kind ∙ sym (append-nil (asks_upto e Read e.request.length))
asked_is e Write kind = ap (λ o. asked_by o e.part e.request) kind
asked_is e Trim kind = absurd kind
asked_is e Flush kind = absurd kind

module _ (e : Errand) (pool : TableId × ℕ) (run : Run) (freed : Option (ℕ × SeenPages)) (front : ℕ) (h mid new : List MemEntry) (s u : List Step) where
  abbrev ending : RecordEnd
  ending = record { outcome = status_by run.answer; device_front = run.front; memory_front = front }

  -- by its end, its steps and what was done to its buffer
  gone_carried : (w : Work) (op : Op) → work_verdict w ≡ Accepted → IsPastBuffers w ending new → asked_by (opcode e.request) e.part e.request ≡ errand_asks e op → (r : HasRun e op 0 (errand_asks e op) run h mid s u)
      → r.moves ++ Done e.index e.request.vmoid ∷ [] ≡ moves_by (opcode e.request) (status_by run.answer) e.index e.request r.steps (r.moves ++ Done e.index e.request.vmoid ∷ [])
      → HasLetGo e pool front mid new freed → HasCarried e w pool (record { end = ending; freed = freed }) h new s u
  gone_carried w op verdict past asks r moved gone = record {
    steps = r.steps;
    moves = r.moves ++ Done e.index e.request.vmoid ∷ [];
    outcome_is = subst (λ v. IsOutcome e v ending r.steps (r.moves ++ Done e.index e.request.vmoid ∷ [])) (sym verdict) (record {
      made = r.run_is.made;
      named = All-append (IsMoveFor e.index) r.moves (Done e.index e.request.vmoid ∷ []) named (All-cons (IsMoveFor e.index) (Done e.index e.request.vmoid) [] (done_named e.index e.request.vmoid) (All-nil (IsMoveFor e.index)));
      carried = ap (λ l. carries_out l r.steps) asks ∙ r.run_is.carried;
      outcome = sym (ap (λ l. ended l r.steps) asks ∙ r.run_is.answered);
      moved = moved;
    });
    device = r.device;
    buffers = grown_as (λ (x : MemEntry). x.hand) e.hand e.memory_front front (under e.hand r.moves ++ under e.hand (Done e.index e.request.vmoid ∷ release_of e.request.vmoid freed)) (under e.hand ((r.moves ++ Done e.index e.request.vmoid ∷ []) ++ release_of e.request.vmoid freed)) h new
        (sym (under_append e.hand r.moves (Done e.index e.request.vmoid ∷ release_of e.request.vmoid freed)) ∙ ap (under e.hand) (sym (append_assoc r.moves (Done e.index e.request.vmoid ∷ []) (release_of e.request.vmoid freed))))
        (grown_after (λ (x : MemEntry). x.hand) e.hand e.memory_front (length mid) front (under e.hand r.moves) (under e.hand (Done e.index e.request.vmoid ∷ release_of e.request.vmoid freed)) h mid new (let f = gone.front_is in let l = longer_length mid new gone.grown.begins in omega arith) r.buffers gone.grown);
    past_buffers = past;
    device_reached = r.front;
    memory_reached = omega (arith, gone.front_is);
    is_freed = gone.is_freed;
    closers = λ p x at by from. closed p x at by from (get_append mid gone.grown.begins.0 p x (ap (λ l. slice_get l p) gone.grown.begins.1 ∙ at));
    frames = gone.frames ∙ ap (λ k. k + pages_freed freed) (released_moves e.index e.hand e.memory_front (length mid) r.moves h mid named r.buffers);
  }
    where
      named : All (IsMoveFor e.index) r.moves
      named = run_named e op 0 (errand_asks e op) r.steps r.moves run.answer r.run_is

      unreleased : (p : ℕ) (x : MemEntry) → length h ≤ p → (slice_get h p ≡ Some x) ⊎ ((length h ≤ p) × IsMoveFor e.index x.what) → IsClosedBefore new p x
      unreleased p x from (inl there) = absurd (let w = slice_get_within h p x there in omega arith)
      unreleased p x from (inr (le, m)) = λ v is. absurd (no_release e.index v x.what m is)

      closed : (p : ℕ) (x : MemEntry) → slice_get new p ≡ Some x → x.hand ≡ e.hand → length h ≤ p → (slice_get mid p ≡ Some x) ⊎ ((m : ℕ) × (p ≡ length mid + m) × (slice_get gone.grown.begins.0 m ≡ Some x)) → IsClosedBefore new p x
      closed p x at by from (inl there) = unreleased p x from (own_place (λ (y : MemEntry). y.hand) e.hand (λ (y : MemEntry). IsMoveFor e.index y.what) (under e.hand r.moves) h mid p x r.buffers.begins r.buffers.own (named_under e.index e.hand r.moves named) there by)
      closed p x at by from (inr (m, is, there)) = gone.closers p x at by (omega arith)

  pub transfer_carried : (op : Op) → IsTransferBy (opcode e.request) op → HasRun e op 0 (errand_asks e op) run h mid s u → HasLetGo e pool front mid new freed
      → HasCarried e (work_by op) pool (record { end = ending; freed = freed }) h new s u
  transfer_carried Read kind r gone = gone_carried work.Read Read refl gone.front_is (asked_is e Read kind) r
      (subst (λ o. r.moves ++ Done e.index e.request.vmoid ∷ [] ≡ moves_by o (status_by run.answer) e.index e.request r.steps (r.moves ++ Done e.index e.request.vmoid ∷ [])) (sym kind) (read_moves e 0 (errand_asks e Read) r.steps r.moves run.answer r.run_is)) gone
  transfer_carried Write kind r gone = gone_carried work.Write Write refl gone.front_is (asked_is e Write kind) r
      (subst (λ o. r.moves ++ Done e.index e.request.vmoid ∷ [] ≡ moves_by o (status_by run.answer) e.index e.request r.steps (r.moves ++ Done e.index e.request.vmoid ∷ [])) (sym kind) (write_moves e r.steps r.moves run.answer r.run_is)) gone
  transfer_carried Trim kind r gone = absurd kind
  transfer_carried Flush kind r gone = absurd kind

-- ---- a record that does nothing to buffers

module _ (e : Errand) (pool : TableId × ℕ) (h new : List MemEntry) (s u : List Step) (c : Continues (λ (x : MemEntry). x.hand) e.hand h new) where
  pub bare_carried : (w : Work) (end : RecordEnd) (steps : List Step) → IsOutcome e (work_verdict w) end steps [] → HasGrown (λ (x : Step). x.hand) e.hand e.device_front end.device_front steps s u → IsPastBuffers w end new
      → IsReached end.device_front u → IsReached end.memory_front new → HasCarried e w pool (record { end = end; freed = None }) h new s u
  bare_carried w end steps outcome device past device_reached memory_reached = record {
    steps = steps;
    moves = [];
    outcome_is = outcome;
    device = device;
    buffers = grown_nothing (λ (x : MemEntry). x.hand) e.hand e.memory_front end.memory_front h new c;
    past_buffers = past;
    device_reached = device_reached;
    memory_reached = memory_reached;
    is_freed = tt;
    closers = none_closed e.hand h new c;
    frames = none_freed e.hand h new c;
  }

pub refused_carried : (e : Errand) (pool : TableId × ℕ) (status : Status) (h : List MemEntry) (s : List Step) → HasCarried e (work.Refuse status) pool (record { end = record { outcome = status; device_front = 0; memory_front = 0 }; freed = None }) h h s s
refused_carried e pool status h s = bare_carried e pool h h s s (prefix_refl h, refl) (work.Refuse status) (record { outcome = status; device_front = 0; memory_front = 0 }) []
    (record { made = All-nil (IsStepFor e); named = All-nil (IsMoveFor e.index); carried = refl; outcome = refl; moved = refl }) (grown_refl (λ (x : Step). x.hand) e.hand e.device_front 0 s) tt (omega arith) (omega arith)

-- an accepted record, by what it asks for
plain_outcome : (e : Errand) (o : Option Opcode) (end : RecordEnd) (steps : List Step) → opcode e.request ≡ o → All (IsStepFor e) steps → carries_out (asked_by o e.part e.request) steps ≡ true → end.outcome ≡ ended (asked_by o e.part e.request) steps
    → [] ≡ moves_by o end.outcome e.index e.request steps [] → IsOutcome e Accepted end steps []
plain_outcome e o end steps is made carried outcome moved = record {
  made = made;
  named = All-nil (IsMoveFor e.index);
  carried = ap (λ q. carries_out (asked_by q e.part e.request) steps) is ∙ carried;
  outcome = outcome ∙ ap (λ q. ended (asked_by q e.part e.request) steps) (sym is);
  moved = moved ∙ ap (λ q. moves_by q end.outcome e.index e.request steps []) (sym is);
}

pub closed_carried : (e : Errand) (pool : TableId × ℕ) (pages : SeenPages) (front : ℕ) (h new : List MemEntry) (s : List Step) → opcode e.request ≡ Some opcode.Close → front ≡ length new → HasGrown (λ (x : MemEntry). x.hand) e.hand e.memory_front front [] h new
    → HasCarried e (work.Close pages) pool (record { end = record { outcome = status.Ok; device_front = 0; memory_front = front }; freed = None }) h new s s
closed_carried e pool pages front h new s is front_is g = bare_carried e pool h new s s (grown_continues (λ (x : MemEntry). x.hand) e.hand e.memory_front front h new g) (work.Close pages) (record { outcome = status.Ok; device_front = 0; memory_front = front }) []
    (plain_outcome e (Some opcode.Close) (record { outcome = status.Ok; device_front = 0; memory_front = front }) [] is (All-nil (IsStepFor e)) refl refl refl) (grown_refl (λ (x : Step). x.hand) e.hand e.device_front 0 s) front_is (omega arith) (omega (arith, front_is))

pub trim_carried : (e : Errand) (pool : TableId × ℕ) (run : Run) (h new : List MemEntry) (s u : List Step) → opcode e.request ≡ Some opcode.Trim → HasRun e Trim 0 (asks_upto e Trim e.request.length) run h new s u
    → HasCarried e work.Trim pool (record { end = record { outcome = status_by run.answer; device_front = run.front; memory_front = 0 }; freed = None }) h new s u
trim_carried e pool run h new s u is r =
    let none = trim_moves e 0 (asks_upto e Trim e.request.length) r.steps r.moves run.answer r.run_is in
    let still = grown_continues (λ (x : MemEntry). x.hand) e.hand e.memory_front (length new) h new (grown_as (λ (x : MemEntry). x.hand) e.hand e.memory_front (length new) (under e.hand r.moves) [] h new (ap (under e.hand) none) r.buffers) in
    bare_carried e pool h new s u still work.Trim (record { outcome = status_by run.answer; device_front = run.front; memory_front = 0 }) r.steps
    (plain_outcome e (Some opcode.Trim) (record { outcome = status_by run.answer; device_front = run.front; memory_front = 0 }) r.steps is r.run_is.made r.run_is.carried (sym r.run_is.answered) refl) r.device tt r.front (omega arith)

pub flush_carried : (e : Errand) (pool : TableId × ℕ) (run : Run) (steps : List Step) (h : List MemEntry) (s u : List Step) → opcode e.request ≡ Some opcode.Flush → IsRun e Flush 0 (record { k = 0; op = Flush; block = 0 } ∷ []) steps [] run.answer
    → HasGrown (λ (x : Step). x.hand) e.hand e.device_front run.front steps s u → IsReached run.front u → HasCarried e work.Flush pool (record { end = record { outcome = status_by run.answer; device_front = run.front; memory_front = 0 }; freed = None }) h h s u
flush_carried e pool run steps h s u is r g reached =
    bare_carried e pool h h s u (prefix_refl h, refl) work.Flush (record { outcome = status_by run.answer; device_front = run.front; memory_front = 0 }) steps
    (plain_outcome e (Some opcode.Flush) (record { outcome = status_by run.answer; device_front = run.front; memory_front = 0 }) steps is r.made r.carried (sym r.answered) refl) g tt reached (omega arith)
