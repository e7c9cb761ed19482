-- The script of the realistic session, and its run.
use Rattle.std.specs.Prelude.{◌≡◌, ℕ, List, [], ◌∷◌, ◌++◌, map, codes, Ok}
use Rattle.host_record.specs.Request.{request_bytes}
use Rattle.host_record.specs.declared.finish.Finish.TheVariants.{Drain}
use Rattle.model_rows.specs.Reports.{plan, report}
use Rattle.script_model.specs.Plans.{PlannedSession}
use Rattle.script_model.specs.Script.{script_of}
use Rattle.script_model.specs.declared.script.ScriptLine.{ScriptLine}
use Rattle.script_model.specs.declared.script.ScriptLine.TheVariants.{Attach, Fill, Send, Show}
use Rattle.script_model.specs.declared.script.ScriptLine.TheVariants.{WaitAll}
use Rattle.script_played.specs.Played.{PlaysPlans, asked_of}

abbrev pub text : List ℕ
text =
    codes "session 1\nattach 8\nfill 1 0 4 a1\n" ++
    codes "write 10 1 0 0 1 member 3\nwrite 11 1 1 1 1 member 3\n" ++
    codes "write 12 1 2 2 1 member 3\nwrite 13 1 3 3 1 last 3\nwait\n" ++
    codes "flush 20\nwait\nread 30 1 4 0 4\nwait\nshow 1 4 4\ndrain\n"

abbrev pub write : ℕ → ℕ → ℕ → ScriptLine
write command reqid block =
    Send (request_bytes (record {
      command = command;
      reqid = reqid;
      group = 3;
      vmoid = 1;
      length = 1;
      vmo_offset = block;
      dev_offset = block;
    }))

abbrev pub plans : List PlannedSession
plans = record {
  part = 1;
  lines = Attach 8
      ∷ Fill 1 0 4 0xa1
      ∷ write 0x802 10 0
      ∷ write 0x802 11 1
      ∷ write 0x802 12 2
      ∷ write 0xc02 13 3
      ∷ WaitAll
      ∷ Send (request_bytes (record {
        command = 3;
        reqid = 20;
        group = 0;
        vmoid = 0;
        length = 0;
        vmo_offset = 0;
        dev_offset = 0;
      }))
      ∷ WaitAll
      ∷ Send (request_bytes (record {
        command = 1;
        reqid = 30;
        group = 0;
        vmoid = 1;
        length = 4;
        vmo_offset = 4;
        dev_offset = 0;
      }))
      ∷ WaitAll
      ∷ Show 1 4 4
      ∷ [];
  finish = Drain;
} ∷ []

pub record RealisticScriptIsPlayed : Type 0 where
  pub read : script_of text ≡ Ok plans
  pub asked : map asked_of plans ≡ plan ∷ []
  pub plays : PlaysPlans plans report
