-- A run whose image has no table.
use Rattle.std.proofs.Common.{◌≡◌, ◌⊎◌, inl, inr, ℕ, ◌<◌, ◌≤◌, true, false, List, length, Some, None, [], refl, sym, ap, subst, arith, lit≤}
use Rattle.std.specs.Prelude.{codes}
use Rattle.host_gpt.specs.{HasLarge, HasValid, IsChosen, TableIsAbsent, Which, Backup, Primary}
use Rattle.host_io.specs.declared.mem_disk.MemDisk.{MemDisk}
use Rattle.host_report.specs.{Report}
use Rattle.host_run.specs.{IsNoScript, IsNoStart, ListLeaves, SaysCause, start_status, RunLeaves, opening_image, site_of, RunStatus, NoTable, TooLarge}
use Rattle.host_run.specs.Scene.{Scene}
use Rattle.host_start.specs.{IsSmallEnough, StartError}
use Rattle.host_start.specs.declared.error.Limit.TheVariants as limit
use Rattle.host_start.specs.declared.error.StartError.TheVariants as error
use Rattle.run_rows.proofs.Drive.{is_table}
use Rattle.run_rows.proofs.Script.{within_limits}
use Rattle.run_rows.specs.Drive.{image}
use Rattle.run_rows.specs.{NoTableIsTold, bare, dry_on, list_on, scene_on}
use Rattle.run_rows.specs.Run.{plans}
use Rattle.script_model.specs.{PlannedSession}

none_valid : (which : Which) → ¬ HasValid bare which
none_valid which valid = absurd (let blocks : 2 ≤ 1 = valid.0 in omega (arith, blocks))

none_large : (which : Which) → ¬ HasLarge bare which
none_large which large = absurd (let blocks : 2 ≤ 1 = large.0 in omega (arith, blocks))

none_chosen : (which : Which) → ¬ IsChosen bare which
none_chosen Primary chosen = none_valid Primary chosen
none_chosen Backup chosen = none_valid Backup chosen.1

absent : TableIsAbsent bare
absent = record { none = record { primary = none_valid Primary; backup = none_valid Backup }; primary = none_large Primary; backup = none_large Backup }

told : RunLeaves (scene_on bare) NoTable None
told = record {
  headline = tt;
  refused = record {
    error = error.NoTable;
    is = refl;
    why = inr (record {
      cause = tt;
      plans = plans;
      script = λ tells. record { end = refl; is = within_limits };
      says = record {
        told = λ tells. (lit≤ tt, absent);
        found = tt;
        found_blocks = tt;
        blocks = lit≤ tt;
        attached = λ after. record { attached = refl; writable = refl; of_size = refl };
      };
    });
  };
  playable = λ playable good. absurd (none_chosen playable.which playable.on_image.table.chosen);
  complete = tt;
  disks = record {
    reads = record { writes = refl; syncs = refl; reads = lit≤ tt; later = lit≤ tt; still = λ h. h; no_fault = λ h. refl };
    opened = λ tells. tt;
  };
  text = tt;
}

not_played : (status : RunStatus) (report : Report) → ¬ RunLeaves (scene_on bare) status (Some report)
not_played status report h = let on = (h.headline.lawful refl).on_table in none_chosen report.which on.table.chosen

-- ---- its cause

-- what the refusal says
abbrev CauseOf : Scene → StartError → Type 0
CauseOf scene e = (plans : List PlannedSession) × SaysCause (site_of scene) plans e

-- no other error has the status
by_status : (scene : Scene) (e : StartError) → NoTable ≡ start_status e → IsNoScript scene e ⊎ IsNoStart scene e → CauseOf scene error.NoTable
by_status scene error.NoTable is (inl unread) = absurd unread.cause
by_status scene error.NoTable is (inr read) = (read.plans, read.says)
by_status scene error.Source is why = absurd (cc is)
by_status scene (error.BadScript n cause) is why = absurd (cc is)
by_status scene (error.TooLarge what) is why = absurd (cc is)
by_status scene error.Disk is why = absurd (cc is)
by_status scene (error.NoPart session part) is why = absurd (cc is)
by_status scene error.Oom is why = absurd (cc is)

cause_of : (scene : Scene) → RunLeaves scene NoTable None → CauseOf scene error.NoTable
cause_of scene h = by_status scene h.refused.error h.refused.is h.refused.why

has_table : ¬ RunLeaves (scene_on image) NoTable None
has_table h = let says = (cause_of (scene_on image) h).1.told refl in says.1.none.primary is_table.chosen

-- ---- on a disk that tells nothing

never : false ≡ true → ⊥
never e = cc e

always : true ≡ false → ⊥
always e = cc e

copied : (copy : MemDisk) → opening_image 512 copy ≡ bare → RunLeaves (dry_on false 1 copy) NoTable None
copied copy opened = record {
  headline = tt;
  refused = record {
    error = error.NoTable;
    is = refl;
    why = inr (record {
      cause = tt;
      plans = plans;
      script = λ tells. record { end = refl; is = within_limits };
      says = record {
        told = λ tells. absurd (never tells);
        found = subst (λ (i : List (List ℕ)). IsSmallEnough i × TableIsAbsent i) (sym opened) (lit≤ tt, absent);
        found_blocks = ap (λ (i : List (List ℕ)). length i) opened;
        blocks = lit≤ tt;
        attached = λ after. record { attached = refl; writable = refl; of_size = refl };
      };
    });
  };
  playable = λ playable good. absurd (never playable.disk_tells);
  complete = tt;
  disks = record {
    reads = record { writes = refl; syncs = refl; reads = lit≤ tt; later = lit≤ tt; still = λ h. h; no_fault = λ h. refl };
    opened = λ tells. absurd (never tells);
  };
  text = tt;
}

copy_has_table : (copy : MemDisk) → opening_image 512 copy ≡ image → ¬ RunLeaves (dry_on false 5 copy) NoTable None
copy_has_table copy opened h =
    let none : TableIsAbsent (opening_image 512 copy) = (cause_of (dry_on false 5 copy) h).1.found.1 in
    (subst (λ (i : List (List ℕ)). TableIsAbsent i) opened none).none.primary is_table.chosen

other_blocks : (copy : MemDisk) → opening_image 512 copy ≡ bare → ¬ RunLeaves (dry_on false 5 copy) NoTable None
other_blocks copy opened h =
    let five : length (opening_image 512 copy) ≡ 5 = (cause_of (dry_on false 5 copy) h).1.found_blocks in
    let one : length (opening_image 512 copy) ≡ 1 = ap (λ (i : List (List ℕ)). length i) opened in
    absurd (omega (arith, five, one))

to_be_written : (copy : MemDisk) → ¬ RunLeaves (dry_on true 1 copy) NoTable None
to_be_written copy h = always ((cause_of (dry_on true 1 copy) h).1.attached tt).writable

-- too many blocks are those of the disk
large_by : (scene : Scene) (e : StartError) → TooLarge limit.Blocks ≡ start_status e → IsNoScript scene e ⊎ IsNoStart scene e → 262144 < scene.new_disk.shape.blocks
large_by scene (error.TooLarge limit.Blocks) is (inl unread) = absurd unread.cause
large_by scene (error.TooLarge limit.Blocks) is (inr read) = read.says.blocks
large_by scene (error.TooLarge limit.Table) is why = absurd (cc is)
large_by scene (error.TooLarge limit.ScriptBytes) is why = absurd (cc is)
large_by scene (error.TooLarge limit.Sessions) is why = absurd (cc is)
large_by scene (error.TooLarge limit.Records) is why = absurd (cc is)
large_by scene (error.TooLarge limit.Moved) is why = absurd (cc is)
large_by scene error.Source is why = absurd (cc is)
large_by scene (error.BadScript n cause) is why = absurd (cc is)
large_by scene error.Disk is why = absurd (cc is)
large_by scene error.NoTable is why = absurd (cc is)
large_by scene (error.NoPart session part) is why = absurd (cc is)
large_by scene error.Oom is why = absurd (cc is)

not_large : (copy : MemDisk) → ¬ RunLeaves (dry_on false 5 copy) (TooLarge limit.Blocks) None
not_large copy h = absurd (let many : 262144 < 5 = large_by (dry_on false 5 copy) h.refused.error h.refused.is h.refused.why in omega (arith, many))

-- ---- a list

listed : ListLeaves (list_on false 1) NoTable
listed = record {
  line = record { front = λ told. (codes "refused 3 no table\n", ([], refl), refl); whole = λ told good. refl };
  told = λ tells. absurd (never tells);
  blocks = lit≤ tt;
  attached = record { attached = refl; not_writable = refl; of_size = refl };
}

listed_to_be_written : ¬ ListLeaves (list_on true 1) NoTable
listed_to_be_written h = always h.attached.not_writable

listed_not_large : ¬ ListLeaves (list_on false 5) (TooLarge limit.Blocks)
listed_not_large h = absurd (let many : 262144 < 5 = h.blocks in omega (arith, many))

pub no_table_is_told : NoTableIsTold
no_table_is_told = record {
  told = told;
  not_played = not_played;
  has_table = has_table;
  copied = copied;
  copy_has_table = copy_has_table;
  other_blocks = other_blocks;
  to_be_written = to_be_written;
  not_large = not_large;
  listed = listed;
  listed_to_be_written = listed_to_be_written;
  listed_not_large = listed_not_large;
}
