-- A run of one forced write, and runs that claim the same without its flush.
use Rattle.std.proofs.Common.{◌≡◌, ◌∙◌, inl, inr, ℕ, zero, suc, ◌<◌, true, false, List, [], ◌∷◌, Some, refl, sym, ap, arith, lit<, lit≤, replicate}
use Rattle.std.specs.List.{slice_get}
use Rattle.crash_law.proofs.Forced.{forced_writes_survive, own_flushes_keep}
use Rattle.crash_law.specs.{HasSurvived, IsForcedWrite, WerePutSince}
use Rattle.host_block.specs.{changes_block, content, IsCrashImage, IsVersion, IsCandidate, IsCrashOf, block_at, fresh}
use Rattle.host_block.specs.{put_by}
use Rattle.host_model.specs.{change_of, changes_of, IsLawfulSession, judged, Step}
use Rattle.host_record.specs.{opcode}
use Rattle.host_record.specs.declared.status.Status.TheVariants as status
use Rattle.host_report.specs.{IsLawful, session_of}
use Rattle.host_run.specs.Headline.{KeepsWhatWasForced}
use Rattle.model_rows.proofs.Lawful.{lawful_from}
use Rattle.model_rows.proofs.Legal.{legal-from}
use Rattle.play_law.specs.{IsLawfulOnAnyDisk}
use Rattle.run_rows.proofs.Crash.{first_byte}
use Rattle.run_rows.proofs.Drive.{entry, is_of_size, is_partition, is_table}
use Rattle.run_rows.proofs.LostSteps.{byte_of, changes_of_step, never}
use Rattle.run_rows.specs.ForcedWrites.{ForcedWritesAreKept, flushed_by_another, flushed_first, forced_session, forced_write, never_flushed}
use Rattle.run_rows.specs.{cells, disk_in, written}
use Rattle.run_rows.specs.Drive.{image}

session_is_lawful : IsLawfulSession (session_of forced_write forced_session)
unfolding opcode judged
session_is_lawful = lawful_from (session_of forced_write forced_session) (
  record { numbered = refl; only_sent = lit≤ tt; verdicts = refl; ends = refl; all_taken = λ _. refl; ids = refl },
  (record { steps = refl; outcome = refl }, tt),
  refl,
  refl,
  λ _. refl,
  record { entries = refl; ids = refl },
  record { shows = refl; lifts = refl },
  (refl, tt),
  refl,
  refl,
  refl,
  refl,
  refl,
  refl,
  refl,
  refl,
)

on_any_disk : IsLawfulOnAnyDisk forced_write
on_any_disk = record { numbers = refl; sessions = (session_is_lawful, tt); closing = refl; frames = refl; home = refl }

on_image : IsLawful image forced_write
on_image = record {
  of_image = record { blocks = refl; size = is_of_size };
  on_table = record { disk_id = replicate 16 9; first_usable = 3; last_usable = 4; entries = entry ∷ []; table = is_table; ranges = (is_partition, tt) };
  run = record {
    numbers = refl;
    sessions = (session_is_lawful, tt);
    closing = refl;
    legal = legal-from image (changes_of forced_write.steps.items) refl;
    frames = refl;
    home = refl;
  };
}

-- ---- the disk that has the block

is_content : (b : ℕ) → b < 5 → block_at written.durable b ≡ content image (changes_of forced_write.steps.items) 3 b
is_content zero within = refl
is_content (suc zero) within = refl
is_content (suc (suc zero)) within = refl
is_content (suc (suc (suc zero))) within = refl
is_content (suc (suc (suc (suc zero)))) within = refl
is_content (suc (suc (suc (suc (suc b))))) within = absurd (omega (arith, within))

version : (b : ℕ) (bytes : List ℕ) → b < 5 → IsCandidate written b bytes → IsVersion image (changes_of forced_write.steps.items) b bytes
version b bytes within (inl durable) = record { place = 3; after_barrier = lit≤ tt; within = lit≤ tt; is = durable ∙ is_content b within }
version b bytes within (inr pending) = absurd (let none : pending.0 < 0 = pending.1 in omega (arith, none))

crash : (left : List (List ℕ)) → IsCrashOf written left → IsCrashImage image (changes_of forced_write.steps.items) left
crash left of = record { blocks = of.blocks; each = λ b within. version b (block_at left b) within (of.each b within) }

kept : KeepsWhatWasForced (disk_in written) forced_write
kept = record {
  kept = λ told left of. forced_writes_survive image forced_write left on_image (crash left of);
  moments = λ told. own_flushes_keep image forced_write on_image;
}

-- ---- the disk that has lost it

is_forced_write : IsForcedWrite (session_of forced_write forced_session) 0
unfolding opcode
is_forced_write = record { done = record { taken = lit< tt; asks = refl; ended = refl }; forced = refl }

put_there : (p : ℕ) (x : Step) → slice_get forced_write.steps.items p ≡ Some x → changes_block (change_of x) 3 ≡ true → first_byte (put_by 512 x.op x.bytes) ≡ 7
put_there zero x stands writes = sym (ap byte_of stands)
put_there (suc zero) x stands writes = absurd (never (ap (changes_of_step 3) stands ∙ writes))
put_there (suc (suc zero)) x stands writes = absurd (never (ap (changes_of_step 3) stands ∙ writes))
put_there (suc (suc (suc p))) x stands writes = absurd (never (ap (changes_of_step 3) stands ∙ writes))

lost : ¬ KeepsWhatWasForced (disk_in (fresh image)) forced_write
lost h =
    let as_before : IsCrashOf (fresh image) image = record { blocks = refl; each = λ b within. inl refl } in
    let survived : HasSurvived image forced_write.steps.items 1 0 3 image = h.kept refl image as_before 0 forced_session refl 0 is_forced_write 0 (lit< tt) in
    let since : WerePutSince forced_write.steps.items 512 3 survived.place (cells 0) = survived.left in
    let q : 0 ≡ 7 = ap first_byte since.are ∙ put_there since.later since.step since.stands since.writes in
    absurd (omega (arith, q))

-- ---- no flush of its own after the block

never_lawful : ¬ IsLawfulOnAnyDisk never_flushed
unfolding opcode
never_lawful h = let same : status.Ok ≡ status.NoMemory = (h.sessions.0.carried.each 0 (lit< tt)).outcome in absurd (cc)

first_lawful : ¬ IsLawfulOnAnyDisk flushed_first
unfolding opcode
first_lawful h = let same : false ≡ true = (h.sessions.0.carried.each 0 (lit< tt)).steps in absurd (cc)

another_lawful : ¬ IsLawfulOnAnyDisk flushed_by_another
unfolding opcode
another_lawful h = let same : status.Ok ≡ status.NoMemory = (h.sessions.0.carried.each 0 (lit< tt)).outcome in absurd (cc)

pub forced_writes_are_kept : ForcedWritesAreKept
forced_writes_are_kept = record {
  lawful = on_any_disk;
  kept = kept;
  lost = lost;
  never = never_lawful;
  first = first_lawful;
  another = another_lawful;
}
