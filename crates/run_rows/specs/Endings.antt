-- How sessions end, and which slip answers a record.
use Rattle.std.specs.Prelude.{◌≡◌, ℕ, true, false, [], ◌∷◌, Some, None}
use Rattle.host_group.specs.declared.group_end.GroupEnd.{GroupEnd}
use Rattle.host_intake.specs.declared.entry.RecordEnd.{RecordEnd}
use Rattle.host_intake.specs.Answers.{group_slip, lone_slip}
use Rattle.host_model.specs.declared.event.Event.TheVariants.{Aborted, Drained}
use Rattle.host_model.specs.Groups.{is_owing}
use Rattle.host_record.specs.declared.finish.Finish.TheVariants.{Abort, Drain}
use Rattle.host_record.specs.declared.request.Request.{Request}
use Rattle.host_record.specs.declared.status.Status.TheVariants.{Io, Ok}
use Rattle.host_session.specs.Client.{ends_logged, is_aborted, is_drained}

-- a write of one block, of group 3: a member, the last one, or, without the two bits, a lone record
abbrev pub write_by : ℕ → Request
write_by command =
    record {
      command = command;
      reqid = 10;
      group = 3;
      vmoid = 1;
      length = 1;
      vmo_offset = 0;
      dev_offset = 0;
    }

-- the last of two members ended so
abbrev pub last_end : RecordEnd
last_end = record { outcome = Ok; device_front = 5; memory_front = 7 }

-- and their group, of which the first had failed, after a front that is longer
abbrev pub group_end : GroupEnd
group_end =
    record { status = Io; count = 2; reqid = 10; index = 1; device_front = 6; memory_front = 7 }

pub record EndingsAreAsWritten : Type 0 where
  -- a session that drained or aborted is closed with the event that says so
  pub finish : (ends_logged (Some Drain) true ≡ Drained ∷ [])
      × (ends_logged (Some Abort) true ≡ Aborted ∷ [])
  pub not_drained : (is_drained (Some Abort) ≡ false) × (is_drained None ≡ false)
  pub not_aborted : (is_aborted (Some Drain) ≡ false) × (is_aborted None ≡ false)
  -- an answer is owed for a lone record, and for the last of a group alone
  pub owing : (is_owing (write_by 2) ≡ true) × (is_owing (write_by 0xc02) ≡ true)
      × (is_owing (write_by 0x802) ≡ false)
  -- the answer to a group isn't that to its last member
  pub not_by_itself : ¬ (group_slip 3 group_end ≡ lone_slip (write_by 0xc02) 1 last_end)
