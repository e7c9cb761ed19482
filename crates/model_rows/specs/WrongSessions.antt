-- Sessions that differ in one thing from lawful ones, each refused by the part that it breaks.
use Rattle.std.specs.Prelude.{ℕ, ◌+◌, true, false, List, [], ◌∷◌, ◌++◌, take, drop, set}
use Rattle.host_block.specs.declared.op.Op.TheVariants as op
use Rattle.host_model.specs.LawfulSession.{IsLawfulSession}
use Rattle.host_model.specs.declared.event.Event.TheVariants.{Attached, Filled}
use Rattle.host_model.specs.declared.memory.MemEvent.TheVariants as mem
use Rattle.host_record.specs.declared.status.Status.TheVariants as status
use Rattle.model_rows.specs.Parts.{accepted, cells, got, send, step}
use Rattle.model_rows.specs.Sessions.{aborted, closed_buffer, failed_group, faults, short, twins}
use Rattle.model_rows.specs.Sessions.{untaken_close, filled, realistic}

-- xs with x before element n
abbrev pub put_in : {A : Type 0} → ℕ → A → List A → List A
put_in n x xs = take n xs ++ x ∷ drop n xs

-- xs without element n
abbrev pub without : {A : Type 0} → ℕ → List A → List A
without n xs = take n xs ++ drop (n + 1) xs

pub record WrongSessionsAreRefused : Type 0 where
  pub answer_twice :
      ¬ IsLawfulSession (record realistic { log = put_in 7 (got status.Ok 13 3 4) realistic.log })
  pub answer_missing : ¬ IsLawfulSession (record realistic { log = without 10 realistic.log })
  pub wrong_count :
      ¬ IsLawfulSession (record realistic { log = set realistic.log 6 (got status.Ok 13 3 3) })
  pub wrong_reqid :
      ¬ IsLawfulSession (record realistic { log = set realistic.log 6 (got status.Ok 10 3 4) })
  pub answer_before_its_request :
      ¬ IsLawfulSession (record realistic {
        log = put_in 5 (got status.Ok 13 3 4) (without 6 realistic.log);
      })
  pub last_failure :
      ¬ IsLawfulSession (record failed_group {
        log = set failed_group.log 4 (got status.NotFound 3 3 3);
      })
  pub answer_after_abort :
      ¬ IsLawfulSession (record aborted { log = aborted.log ++ got status.Ok 7 0 1 ∷ [] })
  pub not_taken : ¬ IsLawfulSession (record failed_group { rows = take 2 failed_group.rows })
  pub accepted_after_close :
      ¬ IsLawfulSession (record closed_buffer {
        rows = set closed_buffer.rows 2 (accepted status.Ok);
      })
  pub step_outside :
      ¬ IsLawfulSession (record realistic {
        steps = set realistic.steps 0 (step 0 0 op.Write 64 filled false);
      })
  pub step_of_refused :
      ¬ IsLawfulSession (record failed_group {
        steps = step 0 0 op.Read 64 (cells 0) false
            ∷ failed_group.steps;
      })
  pub step_after_fault :
      ¬ IsLawfulSession (record realistic {
        steps = set realistic.steps 5 (step 5 0 op.Read 34 [] true);
      })
  pub hidden_fault :
      ¬ IsLawfulSession (record faults { rows = set faults.rows 1 (accepted status.Ok) })
  pub write_without_lift :
      ¬ IsLawfulSession (record realistic { memory = without 3 realistic.memory })
  pub spare_lift : ¬ IsLawfulSession (record short { rows = accepted status.Ok ∷ [] })
  pub release_before_done :
      ¬ IsLawfulSession (record realistic {
        memory = put_in 19 (mem.Release 1) (take 21 realistic.memory);
      })
  pub never_released : ¬ IsLawfulSession (record realistic { memory = take 21 realistic.memory })
  pub fill_after_release : ¬ IsLawfulSession (record closed_buffer {
    memory = closed_buffer.memory
        ++ mem.Fill 1 0 1 7 ∷ [];
    log = set closed_buffer.log 7 (Filled 1 0 1 7 true);
  })
  pub id_twice :
      ¬ IsLawfulSession (record untaken_close {
        log = set untaken_close.log 0 (Attached 1 2);
        memory = set untaken_close.memory 0 (mem.Attach 2 1 0);
      })
  pub refused_fill :
      ¬ IsLawfulSession (record realistic { log = put_in 2 (Filled 1 0 4 9 false) realistic.log })
  pub answer_before_the_step :
      ¬ IsLawfulSession (record realistic {
        steps = step 4 0 op.Flush 0 [] false
            ∷ without 4 realistic.steps;
      })
  pub show_before_the_landings :
      ¬ IsLawfulSession (record realistic {
        memory = put_in 14 (mem.Show 1 4 4) (without 20 realistic.memory);
      })
  pub fill_after_the_lift :
      ¬ IsLawfulSession (record realistic {
        memory = put_in 2 (mem.Fill 1 0 4 0xa1) (without 1 realistic.memory);
      })
  pub overtaken : ¬ IsLawfulSession (record twins {
    log = send 0 3 7 0 0 0 0 0 ∷ got status.Ok 7 0 1
        ∷ take 1 (drop 1 twins.log) ++ drop 3 twins.log;
  })
  -- the release of a buffer whose close was sent, but never taken, belongs to that close: it
  -- stands after what was answered
  -- before, and after what the client did before
  pub release_before_the_answered : ¬ IsLawfulSession (record untaken_close {
    memory = put_in 2 (mem.Release 1) (without 5 untaken_close.memory);
  })
  pub release_before_the_attach : ¬ IsLawfulSession (record untaken_close {
    memory = put_in 1 (mem.Release 1) (without 5 untaken_close.memory);
  })
