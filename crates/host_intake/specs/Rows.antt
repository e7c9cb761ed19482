-- The rows of the records taken, as they are kept.
use Rattle.std.specs.Prelude.{◌≡◌, ℕ, ◌≤◌, List, [], ◌∷◌, ◌++◌, length, set, get_or, Bool, Option}
use Rattle.std.specs.Prelude.{IfSome, is_some}
use Rattle.host_block.specs.Room.{WithRoom}
use Rattle.host_model.specs.declared.row.TakenRow.{TakenRow}
use Rattle.host_record.specs.declared.status.Status.{Status}
use Rattle.host_intake.specs.declared.entry.IntakeEntry.{IntakeEntry}
use Rattle.host_intake.specs.Entries.{takings}
use Rattle.host_intake.specs.Told.{rows_in}

-- one row more
abbrev pub and_row : TakenRow → WithRoom TakenRow → WithRoom TakenRow
and_row row rows = record rows { items = rows.items ++ row ∷ [] }

-- the same rows, but that of this index has this outcome
abbrev pub IsRowSettled : ℕ → Status → WithRoom TakenRow → WithRoom TakenRow → Type 0
IsRowSettled index outcome old new =
    (row : TakenRow) × (row ≡ get_or old.items index row)
    × (new ≡ record old { items = set old.items index (record row { outcome = outcome }) })

-- so many records were taken, and what is kept of them are the rows that the history tells
pub record AreRows (room : ℕ) (entries : List IntakeEntry) (taken : ℕ)
    (rows : Option (WithRoom TakenRow)) : Type 0 where
  pub count : taken ≡ length (takings entries)
  pub kept : IfSome rows (λ r. (r.items ≡ rows_in entries) × (r.room ≡ room))
