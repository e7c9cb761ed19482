-- Runs in which each write that ended well is kept in the end, and a step is lost all the same.
use Rattle.std.proofs.Common.{◌≡◌, ◌∙◌, inl, inr, ℕ, zero, suc, ◌+◌, ◌<◌, Bool, true, false, List, [], ◌∷◌, length, take, Option, Some, None, refl, sym, ap, subst, arith, lit<, lit≤, replicate}
use Rattle.std.specs.List.{slice_get}
use Rattle.std.proofs.lemmas.Bool.{eqb-true}
use Rattle.crash_law.proofs.Survival.{flushed_at_the_end, flushed_writes_survive}
use Rattle.crash_law.specs.{HasSurvived, HasSucceeded, KeepsEnded, changes_blocks, KeepsFlushed, WasFlushed, WerePutSince, WroteBlock}
use Rattle.host_block.specs.{changes_block, content, put_by, IsCrashImage, IsVersion, IsCandidate, IsCrashOf, block_at, fresh}
use Rattle.host_block.specs.declared.op.Op.TheVariants as op
use Rattle.host_model.specs.{change_of, changes_of, IsLawfulSession, request_at, requests, sending, HadBefore, judged, Step}
use Rattle.host_record.specs.{opcode, Opcode, Flush, Read}
use Rattle.host_record.specs.declared.status.Status.TheVariants as status
use Rattle.host_report.specs.{IsLawful, session_of, SessionReport}
use Rattle.host_run.specs.{KeepsWhatWasFlushed}
use Rattle.model_rows.proofs.Lawful.{lawful_from}
use Rattle.model_rows.proofs.Legal.{legal-from}
use Rattle.play_law.specs.{IsLawfulOnAnyDisk}
use Rattle.run_rows.proofs.Crash.{first_byte}
use Rattle.run_rows.proofs.Drive.{entry, is_of_size, is_partition, is_table}
use Rattle.run_rows.specs.{cells, LostStepsAreRefused, failed_log, failed_session, failed_write, flushed_early, disk_in, partition, session_on, written}
use Rattle.run_rows.specs.Drive.{image}
use Rattle.run_rows.specs.Run.{log, step}

pub never : false ≡ true → ⊥
never e = cc e

-- what holds of a session holds of the one in a list of it alone
of_the_one : (P : SessionReport → Type 0) (s e : SessionReport) (n : ℕ) → slice_get (s ∷ []) n ≡ Some e → P s → P e
of_the_one P s e zero at p = let same : s ≡ e = cc in subst P same p
of_the_one P s e (suc zero) at p = absurd (cc)
of_the_one P s e (suc (suc n)) at p = absurd (cc)

abbrev pub changes_of_step : ℕ → Option Step → Bool
changes_of_step b (Some x) = changes_block (change_of x) b
changes_of_step b None = false

abbrev pub byte_of : Option Step → ℕ
byte_of (Some x) = first_byte (put_by 512 x.op x.bytes)
byte_of None = 0

-- neither a flush nor a read changes blocks
no_change : (made kind : Opcode) → changes_blocks made ≡ false → Some made ≡ Some kind → changes_blocks kind ≡ true → ⊥
no_change made kind is at does =
    let same : made ≡ kind = cc in
    never (sym is ∙ (ap changes_blocks same ∙ does))

-- ---- the failed write

failed_is_lawful : IsLawfulSession (session_of failed_write failed_session)
unfolding opcode judged
failed_is_lawful = lawful_from (session_of failed_write failed_session) (
  record { numbered = refl; only_sent = lit≤ tt; verdicts = refl; ends = refl; all_taken = λ _. refl; ids = refl },
  (record { steps = refl; outcome = refl }, (record { steps = refl; outcome = refl }, tt)),
  refl,
  refl,
  λ _. refl,
  record { entries = refl; ids = refl },
  record { shows = refl; lifts = refl },
  (refl, (refl, tt)),
  refl,
  refl,
  refl,
  refl,
  refl,
  refl,
  refl,
  refl,
)

on_any_disk : IsLawfulOnAnyDisk failed_write
on_any_disk = record { numbers = refl; sessions = (failed_is_lawful, tt); closing = refl; frames = refl; home = refl }

on_image : IsLawful image failed_write
on_image = record {
  of_image = record { blocks = refl; size = is_of_size };
  on_table = record { disk_id = replicate 16 9; first_usable = 3; last_usable = 4; entries = entry ∷ []; table = is_table; ranges = (is_partition, tt) };
  run = record {
    numbers = refl;
    sessions = (failed_is_lawful, tt);
    closing = refl;
    legal = legal-from image (changes_of failed_write.steps.items) refl;
    frames = refl;
    home = refl;
  };
}

none_done : (w : ℕ) (kind : Opcode) → changes_blocks kind ≡ true → ¬ HasSucceeded (session_of failed_write failed_session) w kind
unfolding opcode
none_done zero kind is done = let same : status.Io ≡ status.Ok = done.ended in absurd (cc)
none_done (suc zero) kind is done = no_change Flush kind refl done.asks is
none_done (suc (suc w)) kind is done = absurd (let taken : suc (suc w) < 2 = done.taken in omega (arith, taken))

none_ended : (left : List (List ℕ)) → KeepsEnded image failed_write left
none_ended left n e at = of_the_one
    (λ (s : SessionReport). (w f : ℕ) (kind : Opcode) → changes_blocks kind ≡ true → HasSucceeded (session_of failed_write s) w kind → HasSucceeded (session_of failed_write s) f Flush → HadBefore (session_of failed_write s) (sending s.log.items f) w
    → (k : ℕ) → k < (request_at (requests s.log.items) w).length
    → HasSurvived image failed_write.steps.items s.number w (s.range.first + (request_at (requests s.log.items) w).dev_offset + k) left)
    failed_session e n at
    (λ w f kind is done flush had k less. absurd (none_done w kind is done))

-- what is durable is the content after all steps
is_content : (b : ℕ) → b < 5 → block_at written.durable b ≡ content image (changes_of failed_write.steps.items) 4 b
is_content zero within = refl
is_content (suc zero) within = refl
is_content (suc (suc zero)) within = refl
is_content (suc (suc (suc zero))) within = refl
is_content (suc (suc (suc (suc zero)))) within = refl
is_content (suc (suc (suc (suc (suc b))))) within = absurd (omega (arith, within))

version : (b : ℕ) (bytes : List ℕ) → b < 5 → IsCandidate written b bytes → IsVersion image (changes_of failed_write.steps.items) b bytes
version b bytes within (inl durable) = record { place = 4; after_barrier = lit≤ tt; within = lit≤ tt; is = durable ∙ is_content b within }
version b bytes within (inr pending) = absurd (let none : pending.0 < 0 = pending.1 in omega (arith, none))

crash : (left : List (List ℕ)) → IsCrashOf written left → IsCrashImage image (changes_of failed_write.steps.items) left
crash left of = record { blocks = of.blocks; each = λ b within. version b (block_at left b) within (of.each b within) }

step_kept : KeepsWhatWasFlushed (disk_in written) failed_write
step_kept = record {
  kept = λ told left of. flushed_at_the_end image failed_write left on_image (crash left of);
  moments = λ told. flushed_writes_survive image failed_write on_image;
}

failed_had : HadBefore (session_of failed_write failed_session) (sending failed_log 1) 0
failed_had = (4, lit≤ tt, refl)

failed_wrote : WroteBlock failed_write.steps.items 1 0 3 0
failed_wrote = record { step = step 0 op.Write 3 (cells 7); stands = refl; names = (refl, refl); writes = refl }

failed_flushed : WasFlushed failed_write.steps.items 1 1
failed_flushed = record { place = 2; step = step 1 op.Flush 0 []; stands = refl; names = (refl, refl); flushes = refl }

-- a step that changed block 3 put the written bytes there
put_there : (p : ℕ) (x : Step) → slice_get failed_write.steps.items p ≡ Some x → changes_block (change_of x) 3 ≡ true → first_byte (put_by 512 x.op x.bytes) ≡ 7
put_there zero x stands writes = sym (ap byte_of stands)
put_there (suc zero) x stands writes = absurd (never (ap (changes_of_step 3) stands ∙ writes))
put_there (suc (suc zero)) x stands writes = absurd (never (ap (changes_of_step 3) stands ∙ writes))
put_there (suc (suc (suc zero))) x stands writes = absurd (never (ap (changes_of_step 3) stands ∙ writes))
put_there (suc (suc (suc (suc p)))) x stands writes = absurd (never (ap (changes_of_step 3) stands ∙ writes))

step_lost : ¬ KeepsWhatWasFlushed (disk_in (fresh image)) failed_write
step_lost h =
    let as_before : IsCrashOf (fresh image) image = record { blocks = refl; each = λ b within. inl refl } in
    let since : WerePutSince failed_write.steps.items 512 3 0 (cells 0) = h.kept refl image as_before 0 failed_session refl 0 1 failed_had failed_flushed 3 0 failed_wrote in
    let q : 0 ≡ 7 = ap first_byte since.are ∙ put_there since.later since.step since.stands since.writes in
    absurd (omega (arith, q))

-- ---- the early flush

-- in the end block 3 has the written bytes
in_three : (left : List (List ℕ)) → IsCrashOf written left → WerePutSince flushed_early.steps.items 512 3 1 (block_at left 3)
in_three left of = record { later = 1; step = step 0 op.Write 3 (cells 7); stands = refl; since = lit≤ tt; writes = refl; are = durable (of.each 3 (lit< tt)) }
  where
    durable : IsCandidate written 3 (block_at left 3) → block_at left 3 ≡ cells 7
    durable (inl is) = is
    durable (inr pending) = absurd (let none : pending.0 < 0 = pending.1 in omega (arith, none))

-- and no other block was changed
kept_at : (left : List (List ℕ)) → IsCrashOf written left → (place b : ℕ) (x : Step) → slice_get flushed_early.steps.items place ≡ Some x → changes_block (change_of x) b ≡ true
    → WerePutSince flushed_early.steps.items (length (block_at image b)) b place (block_at left b)
kept_at left of zero b x stands writes = absurd (never (ap (changes_of_step b) stands ∙ writes))
kept_at left of (suc zero) b x stands writes =
    let three : 3 ≡ b = eqb-true 3 b (ap (changes_of_step b) stands ∙ writes) in
    subst (λ (c : ℕ). WerePutSince flushed_early.steps.items (length (block_at image c)) c 1 (block_at left c)) three (in_three left of)
kept_at left of (suc (suc zero)) b x stands writes = absurd (never (ap (changes_of_step b) stands ∙ writes))
kept_at left of (suc (suc (suc zero))) b x stands writes = absurd (never (ap (changes_of_step b) stands ∙ writes))
kept_at left of (suc (suc (suc (suc p)))) b x stands writes = absurd (never (ap (changes_of_step b) stands ∙ writes))

in_the_end : (left : List (List ℕ)) → IsCrashOf written left → KeepsFlushed image flushed_early flushed_early.steps.items left
in_the_end left of n e at w f had flushed b place wrote = kept_at left of place b wrote.step wrote.stands wrote.writes

early_wrote : WroteBlock flushed_early.steps.items 1 0 3 1
early_wrote = record { step = step 0 op.Write 3 (cells 7); stands = refl; names = (refl, refl); writes = refl }

ended : (left : List (List ℕ)) → IsCrashOf written left → (w : ℕ) (kind : Opcode) → changes_blocks kind ≡ true → HasSucceeded (session_of flushed_early (session_on 1 partition log)) w kind
    → (k : ℕ) → k < (request_at (requests log) w).length → HasSurvived image flushed_early.steps.items 1 w (3 + (request_at (requests log) w).dev_offset + k) left
unfolding opcode
ended left of zero kind is done zero less = record { place = 1; wrote = early_wrote; left = in_three left of }
ended left of zero kind is done (suc k) less = absurd (let small : suc k < 1 = less in omega (arith, small))
ended left of (suc zero) kind is done k less = absurd (no_change Flush kind refl done.asks is)
ended left of (suc (suc zero)) kind is done k less = absurd (no_change Read kind refl done.asks is)
ended left of (suc (suc (suc w))) kind is done k less = absurd (let taken : suc (suc (suc w)) < 3 = done.taken in omega (arith, taken))

ended_kept : (left : List (List ℕ)) → IsCrashOf written left → KeepsEnded image flushed_early left
ended_kept left of n e at = of_the_one
    (λ (s : SessionReport). (w f : ℕ) (kind : Opcode) → changes_blocks kind ≡ true → HasSucceeded (session_of flushed_early s) w kind → HasSucceeded (session_of flushed_early s) f Flush → HadBefore (session_of flushed_early s) (sending s.log.items f) w
    → (k : ℕ) → k < (request_at (requests s.log.items) w).length
    → HasSurvived image flushed_early.steps.items s.number w (s.range.first + (request_at (requests s.log.items) w).dev_offset + k) left)
    (session_on 1 partition log) e n at
    (λ w f kind is done flush had k less. ended left of w kind is done k less)

early_had : HadBefore (session_of flushed_early (session_on 1 partition log)) (sending log 1) 0
early_had = (4, lit≤ tt, refl)

early_flushed : WasFlushed (take 1 flushed_early.steps.items) 1 1
early_flushed = record { place = 0; step = step 1 op.Flush 0 []; stands = refl; names = (refl, refl); flushes = refl }

-- after the flush alone a crash leaves what stood there before
after_flush : IsCrashImage image (changes_of (take 1 flushed_early.steps.items)) image
after_flush = record { blocks = refl; each = λ b within. record { place = 1; after_barrier = lit≤ tt; within = lit≤ tt; is = refl } }

-- no step but the flush was made by then
none_later : (later : ℕ) (x : Step) → slice_get (take 1 flushed_early.steps.items) later ≡ Some x → changes_block (change_of x) 3 ≡ true → ⊥
none_later zero x stands writes = never (ap (changes_of_step 3) stands ∙ writes)
none_later (suc zero) x stands writes = never (ap (changes_of_step 3) stands ∙ writes)
none_later (suc (suc p)) x stands writes = never (ap (changes_of_step 3) stands ∙ writes)

in_the_middle : ¬ KeepsWhatWasFlushed (disk_in written) flushed_early
in_the_middle h =
    let since = h.moments refl 1 image after_flush 0 (session_on 1 partition log) refl 0 1 early_had early_flushed 3 1 early_wrote in
    none_later since.later since.step since.stands since.writes

-- ---- the rows

pub lost_steps_are_refused : LostStepsAreRefused
lost_steps_are_refused = record {
  lawful = on_any_disk;
  none_ended = none_ended;
  step_kept = step_kept;
  step_lost = step_lost;
  ended_kept = ended_kept;
  in_the_end = in_the_end;
  in_the_middle = in_the_middle;
}
