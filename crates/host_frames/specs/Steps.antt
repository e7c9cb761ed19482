-- What each step of a seat tells. A step finds the number r, and m becomes m', a view with the
-- slots that the seat holds.
use Rattle.std.specs.Prelude.{◌≡◌, ℕ, ◌∷◌, Option, Some, None}
use Rattle.host_frames.specs.declared.view.View.{View}
use Rattle.host_frames.specs.Views.{asking_view, looking_view, winning_view, fetching_view}
use Rattle.host_frames.specs.Views.{first_of, settled_view, reached_view, returned_view}
use Rattle.host_frames.specs.Views.{yielded_view}
use Rattle.atomic_table.specs.Table.{Me, Step, rest}

module _ {P : Type 0} (IsBlank : ℕ → P → Type 0) where
  abbrev pub Seated : Type 0
  Seated = Me (Option P) View

  -- a claim begins, for as many frames as the step's operand
  abbrev pub BeginsClaim : Step (Option P) → Seated → ℕ → Seated → Type 0
  BeginsClaim st m r m' = m' ≡ (asking_view st.first m.0, m.1)

  -- the frames whose bits are set were found taken
  abbrev pub LooksAtWord : Step (Option P) → Seated → ℕ → Seated → Type 0
  LooksAtWord st m r m' = m' ≡ (looking_view st.word r m.0, m.1)

  -- of the bits that the operand sets, those that were clear are won, and the others were found
  -- taken
  abbrev pub WinsFrames : Step (Option P) → Seated → ℕ → Seated → Type 0
  WinsFrames st m r m' = m' ≡ (winning_view st.word st.first r m.0, m.1)

  -- the slot of the first frame to fetch is taken, with its blank page
  abbrev pub FetchesPage : Step (Option P) → Seated → ℕ → Seated → Type 0
  FetchesPage st m r m' =
      (p : P) × (m' ≡ (fetching_view m.0, (first_of m.0.to_fetch, Some p) ∷ m.1))
      × IsBlank m.0.page_size p

  -- the slot that was taken last goes home empty
  abbrev pub LeavesSlot : Step (Option P) → Seated → ℕ → Seated → Type 0
  LeavesSlot st m r m' = m' ≡ (settled_view m.0, rest m.1)

  -- the empty slot of the first frame that is out is taken
  abbrev pub TakesSlot : Step (Option P) → Seated → ℕ → Seated → Type 0
  TakesSlot st m r m' = m' ≡ (reached_view m.0, (first_of m.0.frames_out, None) ∷ m.1)

  -- a bit is cleared, and the slot goes home with its page
  abbrev pub BringsHome : Step (Option P) → Seated → ℕ → Seated → Type 0
  BringsHome st m r m' = m' ≡ (returned_view m.0, rest m.1)

  -- the same, in a claim that is refused
  abbrev pub GivesUp : Step (Option P) → Seated → ℕ → Seated → Type 0
  GivesUp st m r m' = m' ≡ (yielded_view m.0, rest m.1)
