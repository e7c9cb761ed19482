-- A run whose script has a bad line.
use Rattle.std.proofs.Common.{◌≡◌, ◌⊎◌, ◌∙◌, inl, inr, ℕ, ◌+◌, ◌≤◌, List, [], ◌++◌, length, Some, None, Result, Ok, Err, refl, sym, ap, subst, arith, lit≤}
use Rattle.std.proofs.lemmas.List.{length-append}
use Rattle.host_report.specs.{Report}
use Rattle.host_run.specs.{IsItsScript, IsNoScript, IsNoStart, start_status, RunLeaves, RunStatus, BadScript, Done, NoTable, OutOfMemory, ScriptFault, TooLarge}
use Rattle.host_start.specs.{SaysOfScript, IsOfScript, Limit, StartError}
use Rattle.host_start.specs.declared.error.Limit.TheVariants as limit
use Rattle.host_start.specs.declared.error.StartError.TheVariants as error
use Rattle.run_rows.proofs.Script.{bad_is_no_script, bad_means}
use Rattle.run_rows.specs.{BadScriptIsTold, bad_text, unplayed}
use Rattle.script_model.specs.{PlannedSession, BadNumber, UnknownWord, ParseError, Bad, Oom}

no_plans : (plans : List PlannedSession) → IsItsScript unplayed plans → ⊥
no_plans plans script = bad_is_no_script plans (script refl).is.meant

told : RunLeaves unplayed (BadScript 2 UnknownWord) None
told = record {
  headline = tt;
  refused = record {
    error = error.BadScript 2 UnknownWord;
    is = refl;
    why = inl (record { cause = tt; says = λ tells. record { end = refl; is = record { short = lit≤ tt; is = bad_means } } });
  };
  playable = λ playable good. absurd (bad_is_no_script playable.plans playable.script.1.meant);
  complete = tt;
  disks = record {
    reads = record { writes = refl; syncs = refl; reads = lit≤ tt; later = lit≤ tt; still = λ h. h; no_fault = λ h. refl };
    opened = λ tells. tt;
  };
  text = tt;
}

-- ---- no other status

-- this one, or that of a failure outside or of want of memory
abbrev IsEnd : RunStatus → Type 0
IsEnd status = (status ≡ BadScript 2 UnknownWord) ⊎ ((status ≡ ScriptFault) ⊎ (status ≡ OutOfMemory))

abbrev status_in : Result (List PlannedSession) ParseError → RunStatus
status_in (Ok plans) = Done
status_in (Err Oom) = Done
status_in (Err (Bad n cause)) = BadScript n cause

too_long : (taken : List ℕ) → 1048577 ≤ length taken → bad_text ≡ taken ++ [] → ⊥
too_long taken many is = absurd (let n : 16 ≡ length taken + 0 = ap (λ (l : List ℕ). length l) is ∙ length-append taken [] in omega (arith, n, many))

said : (e : StartError) → IsOfScript e → SaysOfScript 512 bad_text [] e → IsEnd (start_status e)
said error.Source of says = inr (inl refl)
said error.Oom of says = inr (inr refl)
said (error.BadScript n cause) of says = inl (ap status_in (sym says.is.is ∙ bad_means))
said (error.TooLarge limit.ScriptBytes) of says = absurd (too_long says.0 says.1 says.2)
said (error.TooLarge limit.Sessions) of says = absurd (bad_is_no_script says.is.plans says.is.meant)
said (error.TooLarge limit.Records) of says = absurd (bad_is_no_script says.is.plans says.is.meant)
said (error.TooLarge limit.Moved) of says = absurd (bad_is_no_script says.is.plans says.is.meant)
said (error.TooLarge limit.Blocks) of says = absurd of
said (error.TooLarge limit.Table) of says = absurd of
said error.Disk of says = absurd of
said error.NoTable of says = absurd of
said (error.NoPart session part) of says = absurd of

why : (e : StartError) → IsNoScript unplayed e ⊎ IsNoStart unplayed e → IsEnd (start_status e)
why e (inl unread) = said e unread.cause (unread.says refl)
why e (inr read) = absurd (no_plans read.plans read.script)

ends : (status : RunStatus) → RunLeaves unplayed status None → IsEnd status
ends status h = subst (λ (s : RunStatus). IsEnd s) (sym h.refused.is) (why h.refused.error h.refused.why)

abbrev line_of : RunStatus → ℕ
line_of (BadScript n cause) = n
line_of _ = 0

not_line : ¬ RunLeaves unplayed (BadScript 1 UnknownWord) None
not_line h = elim (ends (BadScript 1 UnknownWord) h) [ inl e ↦ absurd (let q : 1 ≡ 2 = ap line_of e in omega (arith, q)) | inr (inl e) ↦ cc e | inr (inr e) ↦ cc e ]

not_cause : ¬ RunLeaves unplayed (BadScript 2 BadNumber) None
not_cause h = elim (ends (BadScript 2 BadNumber) h) [ inl e ↦ cc e | inr (inl e) ↦ cc e | inr (inr e) ↦ cc e ]

not_large : (what : Limit) → ¬ RunLeaves unplayed (TooLarge what) None
not_large what h = elim (ends (TooLarge what) h) [ inl e ↦ cc e | inr (inl e) ↦ cc e | inr (inr e) ↦ cc e ]

not_table : ¬ RunLeaves unplayed NoTable None
not_table h = elim (ends NoTable h) [ inl e ↦ cc e | inr (inl e) ↦ cc e | inr (inr e) ↦ cc e ]

not_played : (report : Report) → ¬ RunLeaves unplayed Done (Some report)
not_played report h = no_plans h.headline.played.plans h.headline.played.script

pub bad_script_is_told : BadScriptIsTold
bad_script_is_told = record { told = told; not_line = not_line; not_cause = not_cause; not_large = not_large; not_table = not_table; not_played = not_played }
