-- Each wrong end is refused by a field of what a run leaves.
use Rattle.std.proofs.Common.{◌≡◌, ◌∙◌, inl, inr, ℕ, zero, suc, ◌<◌, ◌≤◌, true, false, length, Some, None, refl, ap, arith, lit≤, replicate, []}
use Rattle.std.specs.Prelude.{◌∷◌, slice_index_or}
use Rattle.host_gpt.specs.{Primary}
use Rattle.host_run.specs.{IsScenePlayable, RunLeaves, NoneFaulted, ClosingFault, DiskFault, Done}
use Rattle.host_start.specs.{IsServedPart}
use Rattle.run_rows.proofs.Drive.{is_partition, is_table, layout}
use Rattle.run_rows.proofs.Headline.{prints}
use Rattle.run_rows.proofs.Script.{within_limits}
use Rattle.run_rows.specs.{partition, WrongEndsAreRefused, cut_short, here, to_be_cut, to_be_dry, untold_with}
use Rattle.run_rows.specs.Run.{plans, report}

not_risen : ¬ (1 ≤ 0)
not_risen rose = absurd (omega (arith, rose))

unfaulted : NoneFaulted here
unfaulted = record { source = not_risen; disk = not_risen; sink = not_risen }

served : (k part : ℕ) → k < 1 → IsServedPart layout (slice_index_or (1 ∷ []) k part)
served zero part within = (partition, is_partition)
served (suc k) part within = absurd (omega (arith, within))

playable : IsScenePlayable here
playable = record {
  plans = plans;
  script = (refl, within_limits);
  disk_tells = refl;
  few = lit≤ tt;
  which = Primary;
  layout = layout;
  on_image = record { disk_id = replicate 16 9; table = is_table; blocks = refl };
  served = served;
}

not_refused : ¬ RunLeaves here DiskFault None
not_refused h = elim (h.playable playable unfaulted) [ inl done ↦ cc done | inr memory ↦ cc memory ]

closing_fault : ¬ RunLeaves here ClosingFault (Some report)
closing_fault h = elim (h.complete.done not_risen not_risen) [ inl done ↦ cc done | inr memory ↦ cc memory ]

not_whole : ¬ RunLeaves (cut_short 100) Done (Some report)
not_whole h = absurd (let short : 100 ≡ 461 = ap length (h.text.whole refl refl ∙ prints) in omega (arith, short))

never : false ≡ true → ⊥
never e = cc e

not_cut : ¬ RunLeaves to_be_cut Done (Some report)
not_cut h = cc (h.disks.cut_is.1 refl)

no_copy : ¬ RunLeaves to_be_dry Done (Some report)
no_copy h = never (h.disks.copy_is.1 refl)

other_blocks : ¬ RunLeaves (untold_with true 6) Done (Some report)
other_blocks h = absurd (let own : 5 ≡ 6 = h.disks.own_blocks in omega (arith, own))

not_writable : ¬ RunLeaves (untold_with false 5) Done (Some report)
not_writable h = never h.disks.attached.writable

pub wrong_ends_are_refused : WrongEndsAreRefused
wrong_ends_are_refused = record { not_refused = not_refused; closing_fault = closing_fault; not_whole = not_whole; not_cut = not_cut; no_copy = no_copy; other_blocks = other_blocks; not_writable = not_writable }
