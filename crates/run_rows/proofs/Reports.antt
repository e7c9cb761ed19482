-- Which statuses come with a report, and with a copy.
use Rattle.std.proofs.Common.{◌≡◌, Bool, true, false, refl}
use Rattle.host_report.specs.{Cut, Fault, Good}
use Rattle.host_run.specs.{refused_status, played_status, Refusal, ClosingFault, Done, NoTable, OutOfMemory, SinkFault}
use Rattle.host_run.specs.declared.refusal.Refusal.TheVariants as refusal
use Rattle.host_start.specs.declared.error.StartError.TheVariants as error
use Rattle.run_rows.specs.{StatusesComeWithReports}

never : ¬ (false ≡ true)
never e = cc e

fault_is_told : (b : Bool) → ¬ (Done ≡ played_status Fault b)
fault_is_told b e = cc e

fault_is_no_sink : (b : Bool) → ¬ (SinkFault ≡ played_status Fault b)
fault_is_no_sink b e = cc e

cut_has_memory : (b : Bool) → ¬ (OutOfMemory ≡ played_status Cut b)
cut_has_memory true e = cc e
cut_has_memory false e = cc e

good_has_table : (b : Bool) → ¬ (NoTable ≡ played_status Good b)
good_has_table true e = cc e
good_has_table false e = cc e

done_is_no_refusal : (r : Refusal) → ¬ (Done ≡ refused_status r)
done_is_no_refusal refusal.Words e = cc e
done_is_no_refusal (refusal.NoStart error.Source) e = cc e
done_is_no_refusal (refusal.NoStart (error.BadScript n cause)) e = cc e
done_is_no_refusal (refusal.NoStart (error.TooLarge what)) e = cc e
done_is_no_refusal (refusal.NoStart error.Disk) e = cc e
done_is_no_refusal (refusal.NoStart error.NoTable) e = cc e
done_is_no_refusal (refusal.NoStart (error.NoPart session part)) e = cc e
done_is_no_refusal (refusal.NoStart error.Oom) e = cc e

closing_is_no_refusal : (r : Refusal) → ¬ (ClosingFault ≡ refused_status r)
closing_is_no_refusal refusal.Words e = cc e
closing_is_no_refusal (refusal.NoStart error.Source) e = cc e
closing_is_no_refusal (refusal.NoStart (error.BadScript n cause)) e = cc e
closing_is_no_refusal (refusal.NoStart (error.TooLarge what)) e = cc e
closing_is_no_refusal (refusal.NoStart error.Disk) e = cc e
closing_is_no_refusal (refusal.NoStart error.NoTable) e = cc e
closing_is_no_refusal (refusal.NoStart (error.NoPart session part)) e = cc e
closing_is_no_refusal (refusal.NoStart error.Oom) e = cc e

pub statuses_come_with_reports : StatusesComeWithReports
statuses_come_with_reports = record {
  good = (λ report. (true, refl), λ report. (false, refl));
  fault = (λ report. (true, refl), λ report h. fault_is_told h.0 h.1, λ report h. fault_is_no_sink h.0 h.1);
  no_memory = (λ report. (true, refl), λ report h. cut_has_memory h.0 h.1);
  refused = (λ report h. good_has_table h.0 h.1, (refusal.NoStart error.NoTable, refl), λ h. done_is_no_refusal h.0 h.1, λ h. closing_is_no_refusal h.0 h.1);
  copy = λ dry. ((λ h. tt, λ h. refl), λ h. never (h.1 tt), (λ h. absurd (never h), λ h. absurd (h)), λ h. absurd (h.0 refl), λ h. cc h);
}
