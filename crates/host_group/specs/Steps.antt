-- What each step of a seat tells. A step finds the number r, and m becomes m', a view with the
-- slots that the seat holds.
use Rattle.std.specs.Prelude.{◌≡◌, ◌≢◌, ℕ, ◌+◌, ◌*◌, ◌/◌, ◌%◌, ◌^◌, ◌<◌, Bool}
use Rattle.atomic_table.specs.Table.{Me, Step}
use Rattle.host_group.specs.declared.view.View.{View}
use Rattle.host_group.specs.declared.view.Progress.TheVariants.{Last, TookError, TookDeviceFront}
use Rattle.host_group.specs.declared.view.Progress.TheVariants.{TookMemoryFront, TookClosing, Ended}
use Rattle.host_group.specs.declared.view.Progress.TheVariants.{Passed}
use Rattle.host_group.specs.Failures.{status_of}
use Rattle.host_group.specs.Views.{members_closing, member_count, row_count, refused_view}
use Rattle.host_group.specs.Views.{looking_cell_view, placed_view, added_view, with_row}

abbrev pub Seated : Type 0
Seated = Me (Unit {0}) View

-- the last instance of the number is closed, and not all of its rights came back
abbrev pub IsBusy : ℕ → View → Type 0
IsBusy g v =
    (j : ℕ) × (members_closing g v.admitted ≡ j + 1)
    × (row_count g j v.back < member_count g j v.admitted)

-- where the word shows a closed instance that is counted, else the member's name is noted
abbrev pub Looks : Step (Unit {0}) → Seated → ℕ → Seated → Type 0
Looks st m r m' =
    (g : ℕ) × (st.word ≡ 5 * g) × (r / 128 % 2 ≡ 0 → m' ≡ (looking_cell_view m.0 g st.second, m.1))
    × (r / 128 % 2 ≢ 0 → (m' ≡ (refused_view m.0, m.1)) × IsBusy g m.0)

-- the name of a closing member stands in the closing word
abbrev pub Places : Step (Unit {0}) → Seated → ℕ → Seated → Type 0
Places st m r m' = m' ≡ (placed_view m.0, m.1)

abbrev pub AddsMember : Bool → Step (Unit {0}) → Seated → ℕ → Seated → Type 0
AddsMember last st m r m' = m' ≡ (added_view last m.0, m.1)

abbrev pub PutsError : Step (Unit {0}) → Seated → ℕ → Seated → Type 0
PutsError st m r m' = m' ≡ (with_row m.0 record m.0.row { status = status_of st.first }, m.1)

abbrev pub PutsDeviceFront : Step (Unit {0}) → Seated → ℕ → Seated → Type 0
PutsDeviceFront st m r m' = m' ≡ (with_row m.0 record m.0.row { device_front = st.first }, m.1)

abbrev pub PutsMemoryFront : Step (Unit {0}) → Seated → ℕ → Seated → Type 0
PutsMemoryFront st m r m' = m' ≡ (with_row m.0 record m.0.row { memory_front = st.first }, m.1)

-- the word shows one unsettled member, and the closed mark: whoever settles that member is the last
abbrev pub IsLast : ℕ → Type 0
IsLast found = found % 256 ≡ 129

-- the member is settled, and its row has what the subtraction found
abbrev pub Settles : Step (Unit {0}) → Seated → ℕ → Seated → Type 0
Settles st m r m' =
    (r / 256 < 2 ^ 32)
    × (IsLast r → m' ≡ (with_row m.0 record m.0.row { progress = Last; found = r }, m.1))
    × ((IsLast r → ⊥) → m' ≡ (with_row m.0 record m.0.row { progress = Passed; found = r }, m.1))

abbrev pub TakesError : Step (Unit {0}) → Seated → ℕ → Seated → Type 0
TakesError st m r m' =
    m' ≡ (with_row m.0 record m.0.row { progress = TookError; end_error = r }, m.1)

abbrev pub TakesDeviceFront : Step (Unit {0}) → Seated → ℕ → Seated → Type 0
TakesDeviceFront st m r m' =
    m' ≡ (with_row m.0 record m.0.row { progress = TookDeviceFront; end_device_front = r }, m.1)

abbrev pub TakesMemoryFront : Step (Unit {0}) → Seated → ℕ → Seated → Type 0
TakesMemoryFront st m r m' =
    m' ≡ (with_row m.0 record m.0.row { progress = TookMemoryFront; end_memory_front = r }, m.1)

abbrev pub TakesClosing : Step (Unit {0}) → Seated → ℕ → Seated → Type 0
TakesClosing st m r m' =
    m' ≡ (with_row m.0 record m.0.row { progress = TookClosing; end_closing = r }, m.1)

-- the number can be used again
abbrev pub Frees : Step (Unit {0}) → Seated → ℕ → Seated → Type 0
Frees st m r m' = m' ≡ (with_row m.0 record m.0.row { progress = Ended }, m.1)
