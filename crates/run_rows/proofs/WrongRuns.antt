-- Each wrong run is refused by its field.
use Rattle.std.proofs.Common.{◌≡◌, ◌≢◌, ◌∙◌, inl, ℕ, zero, suc, ◌<◌, Bool, true, false, List, [], ◌∷◌, Option, Some, None, Result, Ok, Err, refl, sym, ap, subst, arith, lit<, lit≤, replicate}
use Rattle.std.specs.Prelude.{Contains}
use Rattle.std.specs.List.{slice_get}
use Rattle.crash_law.specs.{WasFlushed, WerePutSince, WroteBlock}
use Rattle.host_block.specs.{changes_block, put_by, fresh}
use Rattle.host_block.specs.declared.op.Op.TheVariants as op
use Rattle.host_gpt.proofs.LawLemmas.{one_table}
use Rattle.host_gpt.specs.{Entry, Primary}
use Rattle.model_rows.proofs.Lawful.{lawful_from}
use Rattle.host_model.specs.{change_of, IsLawfulSession, sending, HadBefore, judged, Step}
use Rattle.host_model.specs.Session.{Session}
use Rattle.host_block.specs.declared.range.Range.{Range}
use Rattle.host_part.proofs.RangeLemmas.{one_range, range_lies_inside, ranges_share_no_block}
use Rattle.host_record.specs.{opcode}
use Rattle.host_report.specs.{session_of}
use Rattle.host_run.specs.{IsPlayed, IsLawfulOn, KeepsWhatWasFlushed, OutlivesCrash}
use Rattle.play_law.specs.{IsLaidOut, IsLawfulOnAnyDisk}
use Rattle.run_rows.proofs.Crash.{first_byte, loses, one_version, written_is_missed}
use Rattle.run_rows.proofs.Drive.{entry, is_table, only_entry}
use Rattle.run_rows.proofs.Script.{another_means, another_plans}
use Rattle.run_rows.specs.{cells, image_of, disk_in, partition, scene, session_on, unsynced, written, WrongRunsAreRefused, another_text, no_answer, on_range, shared_block, stale_read, stale_session, step_outside, two_answers, two_ranges, with_log}
use Rattle.run_rows.specs.Drive.{image}
use Rattle.run_rows.specs.Run.{log, report, step}
use Rattle.script_model.specs.{PlannedSession, ParseError}
use Rattle.script_played.specs.{PlaysPlans}

never : false ≡ true → ⊥
unfolding opcode judged
never e = cc e

-- ---- played

abbrev plans_in : Result (List PlannedSession) ParseError → List PlannedSession
plans_in (Ok plans) = plans
plans_in (Err e) = []

not_played : ¬ PlaysPlans another_plans report
not_played h = never h.0.calls

another_script : ¬ IsPlayed (scene true another_text written) report
another_script h =
    let same : another_plans ≡ h.plans = ap plans_in (sym another_means ∙ (h.script refl).is.meant) in
    not_played (subst (λ (plans : List PlannedSession). PlaysPlans plans report) (sym same) h.is.played)

-- ---- answered

answered_twice : ¬ IsLawfulOnAnyDisk (with_log two_answers)
unfolding opcode judged
answered_twice h = never (h.sessions.0.answered.at_most 5 (lit≤ tt))

unanswered : ¬ IsLawfulOnAnyDisk (with_log no_answer)
unfolding opcode judged
unanswered h = never (h.sessions.0.answered.exactly refl)

outside : ¬ IsLawfulOnAnyDisk step_outside
unfolding opcode judged
outside h = never (h.sessions.0.carried.each 0 (lit< tt)).steps

-- ---- laid out

shares : ¬ IsLaidOut shared_block
shares h =
    let other : 1 ≢ 2 = λ e. absurd (omega (arith, e)) in
    let second = h.ranges.1 in
    ranges_share_no_block h.layout 1 2 partition (record { first = 4; count = 1 }) other h.ranges.0 second.0 4 (lit≤ tt, lit< tt) (lit≤ tt, lit< tt)

past_the_image : ¬ IsLaidOut (on_range (record { first = 3; count = 3 }))
past_the_image h =
    let inside = range_lies_inside h.layout 1 (record { first = 3; count = 3 }) h.ranges.0 5 (lit≤ tt, lit< tt) in
    let below : 5 < h.layout.blocks = inside.2 in
    let blocks : h.layout.blocks ≡ 5 = h.blocks in
    absurd (omega (arith, below, blocks))

one_partition : ¬ IsLaidOut two_ranges
one_partition h =
    let second = h.ranges.1 in
    let same = one_range h.layout 1 partition (record { first = 4; count = 1 }) h.used h.ranges.0 second.0 in
    let first : 3 ≡ 4 = ap (λ (r : Range). r.first) same in
    absurd (omega (arith, first))

-- ---- lawful

stale_is_lawful : IsLawfulSession (session_of stale_read stale_session)
unfolding opcode judged
stale_is_lawful = lawful_from (session_of stale_read stale_session) (
  record { numbered = refl; only_sent = lit≤ tt; verdicts = refl; ends = refl; all_taken = λ _. refl; ids = refl },
  (record { steps = refl; outcome = refl }, (record { steps = refl; outcome = refl }, (record { steps = refl; outcome = refl }, tt))),
  refl,
  refl,
  λ _. refl,
  record { entries = refl; ids = refl },
  record { shows = refl; lifts = refl },
  (refl, (refl, (refl, tt))),
  refl,
  refl,
  refl,
  refl,
  refl,
  refl,
  refl,
  refl,
)

other_bytes : IsLawfulOnAnyDisk stale_read
other_bytes = record { numbers = refl; sessions = (stale_is_lawful, tt); closing = refl; frames = refl; home = refl }

stale : ¬ IsLawfulOn (disk_in written) stale_read
stale h = let q : 0 ≡ 7 = ap first_byte ((h refl).run.legal 2 _ refl refl) in absurd (omega (arith, q))

off_the_table : ¬ IsLawfulOn (disk_in written) (on_range (record { first = 4; count = 1 }))
off_the_table h =
    let on = (h refl).on_table in
    let same = one_table image Primary Primary on.disk_id (replicate 16 9) on.first_usable 3 on.last_usable 4 on.entries (entry ∷ []) on.table is_table in
    let range = on.ranges.0 in
    let listed : Contains (entry ∷ []) range.entry = subst (λ (entries : List Entry). Contains entries range.entry) same.same_entries range.is.listed in
    let first : 3 ≡ range.entry.first = ap (λ (e : Entry). e.first) (only_entry range.entry listed) in
    let starts : 4 ≡ range.entry.first = range.starts in
    absurd (omega (arith, first, starts))

-- ---- crashes

not_durable : ¬ OutlivesCrash (disk_in unsynced) report
not_durable h = written_is_missed (h refl image loses)

beside : ¬ OutlivesCrash (disk_in (fresh (image_of (cells 7) (cells 9)))) report
beside h =
    let q : 9 ≡ 0 = one_version 4 (cells 9) ((h refl (image_of (cells 7) (cells 9)) (record { blocks = refl; each = λ b within. inl refl })).each 4 (lit< tt)) in
    absurd (omega (arith, q))

-- ---- what was flushed

abbrev session : Session
session = session_of report (session_on 1 partition log)

wrote : WroteBlock report.steps.items 1 0 3 0
wrote = record { step = step 0 op.Write 3 (cells 7); stands = refl; names = (refl, refl); writes = refl }

flushed : WasFlushed report.steps.items 1 1
flushed = record { place = 1; step = step 1 op.Flush 0 []; stands = refl; names = (refl, refl); flushes = refl }

had : HadBefore session (sending log 1) 0
had = (4, lit≤ tt, refl)

abbrev byte_of : Option Step → ℕ
byte_of (Some x) = first_byte (put_by 512 x.op x.bytes)
byte_of None = 0

abbrev changes_three : Option Step → Bool
changes_three (Some x) = changes_block (change_of x) 3
changes_three None = false

-- a step that put bytes into block 3 put the written ones there
put_there : (p : ℕ) (x : Step) → slice_get report.steps.items p ≡ Some x → changes_block (change_of x) 3 ≡ true → first_byte (put_by 512 x.op x.bytes) ≡ 7
put_there zero x stands writes = sym (ap byte_of stands)
put_there (suc zero) x stands writes = absurd (never (ap changes_three stands ∙ writes))
put_there (suc (suc zero)) x stands writes = absurd (never (ap changes_three stands ∙ writes))
put_there (suc (suc (suc zero))) x stands writes = absurd (never (ap changes_three stands ∙ writes))
put_there (suc (suc (suc (suc p)))) x stands writes = absurd (never (ap changes_three stands ∙ writes))

lost : ¬ KeepsWhatWasFlushed (disk_in unsynced) report
lost h =
    let since : WerePutSince report.steps.items 512 3 0 (cells 0) = h.kept refl image loses 0 (session_on 1 partition log) refl 0 1 had flushed 3 0 wrote in
    let q : 0 ≡ 7 = ap first_byte since.are ∙ put_there since.later since.step since.stands since.writes in
    absurd (omega (arith, q))

-- ---- the rows

pub wrong_runs_are_refused : WrongRunsAreRefused
wrong_runs_are_refused = record {
  another_script = another_script;
  answered_twice = answered_twice;
  unanswered = unanswered;
  outside = outside;
  shares = shares;
  past_the_image = past_the_image;
  one_partition = one_partition;
  other_bytes = other_bytes;
  stale = stale;
  off_the_table = off_the_table;
  not_durable = not_durable;
  lost = lost;
  beside = beside;
}
