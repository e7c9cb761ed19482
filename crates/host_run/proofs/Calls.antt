-- What a call leaves, in terms of the words that ask for it.
use Rattle.std.proofs.Common.{◌≢◌, Option, Some, None, refl}
use Rattle.std.specs.Prelude.{IfNone}
use Rattle.host_report.specs.{Report}
use Rattle.host_run.specs.{ListLeaves, Listing, refusal_line, PutsText, RunStatus}
use Rattle.host_run.specs.declared.status.RunStatus.TheVariants as status
use Rattle.host_start.specs.declared.error.Limit.TheVariants as limit

pub if_none : (report : Option Report) (P : Type 0) → P → IfNone report P
if_none None P holds = holds
if_none (Some report) P holds = tt

-- ---- the line of a refused list

pub listed_line : (l : Listing) (s : RunStatus) → ListLeaves l s → s ≢ status.Done → s ≢ status.SinkFault → PutsText l.sink l.new_sink (refusal_line s)
listed_line l status.Done leaves not_done not_sink = absurd (not_done refl)
listed_line l status.SinkFault leaves not_done not_sink = absurd (not_sink refl)
listed_line l status.NoTable leaves not_done not_sink = leaves.line
listed_line l (status.TooLarge limit.Blocks) leaves not_done not_sink = leaves.line
listed_line l (status.TooLarge limit.Table) leaves not_done not_sink = leaves.line
listed_line l (status.TooLarge limit.ScriptBytes) leaves not_done not_sink = absurd leaves
listed_line l (status.TooLarge limit.Sessions) leaves not_done not_sink = absurd leaves
listed_line l (status.TooLarge limit.Records) leaves not_done not_sink = absurd leaves
listed_line l (status.TooLarge limit.Moved) leaves not_done not_sink = absurd leaves
listed_line l status.DiskFault leaves not_done not_sink = leaves
listed_line l status.OutOfMemory leaves not_done not_sink = leaves
listed_line l status.ClosingFault leaves not_done not_sink = absurd leaves
listed_line l status.BadWords leaves not_done not_sink = absurd leaves
listed_line l (status.BadScript line cause) leaves not_done not_sink = absurd leaves
listed_line l status.ScriptFault leaves not_done not_sink = absurd leaves
listed_line l (status.NoPart session part) leaves not_done not_sink = absurd leaves
