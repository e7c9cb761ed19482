-- The answers that the hands of a session handed on to its client, as its intake's history tells
-- them.
use Rattle.std.specs.Prelude.{ℕ, false, ◌==◌, if◌then◌else◌, List, slice_get, Option, None}
use Rattle.host_model.specs.Lists.{map_with_before}
use Rattle.host_rings.specs.declared.slip.Slip.{Slip}
use Rattle.host_intake.specs.declared.entry.IntakeEntry.{IntakeEntry}
use Rattle.host_intake.specs.declared.entry.IntakeEntry.TheVariants.{Landed, Passed}
use Rattle.host_intake.specs.Entries.{maker_of}
use Rattle.host_intake.specs.Told.{kept_slips}

-- the answer that an entry tells to be handed on: one that wasn't kept, or the oldest that was kept
-- until then
abbrev pub slip_in : List IntakeEntry → IntakeEntry → Option Slip
slip_in before (Landed hand index end answer false) = answer
slip_in before (Passed hand) = slice_get (kept_slips before) 0
slip_in before _ = None

abbrev pub slip_by : ℕ → List IntakeEntry → IntakeEntry → Option Slip
slip_by n before e = if maker_of e == n then slip_in before e else None

-- the answers that hand n handed on, in order
abbrev pub handed_by : ℕ → List IntakeEntry → List Slip
handed_by n es = map_with_before (slip_by n) es
