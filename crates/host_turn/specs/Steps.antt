-- What each step of a seat tells. A step finds the number r, and m becomes m', a view with the
-- slots that the seat holds.
use Rattle.std.specs.Prelude.{◌≡◌, ◌≢◌, ℕ, ◌%◌, ◌^◌, List, [], ◌∷◌, Option, Some, None}
use mathlib.Core.List.{IsPrefix}
use Rattle.host_turn.specs.declared.view.View.{View}
use Rattle.host_log.specs.History.{Continues}
use Rattle.host_turn.specs.Views.{waiting_view, inside_view, outside_view, merged_view}
use Rattle.atomic_table.specs.Table.{Me, Step, rest}

module _ {S E F : Type 0} (story : S → List E) (maker : E → ℕ) (fixed : S → F) where
  abbrev pub Seated : Type 0
  Seated = Me (Option S) (View E F)

  -- the seat has a ticket, which the word has modulo 2^64
  abbrev pub DrawsTicket : Step (Option S) → Seated → ℕ → Seated → Type 0
  DrawsTicket st m r m' = (t : ℕ) × (m' ≡ (waiting_view m.0 t, m.1)) × (r ≡ t % 2 ^ 64)

  -- the state goes on from what this view has seen, and has its fixed part
  abbrev pub IsStateFor : View E F → S → Type 0
  IsStateFor v x = Continues maker v.number v.seen (story x) × (v.fixed ≡ Some (fixed x))

  -- where its ticket is served the seat has the turn and the slot, else nothing changes
  abbrev pub TakesTurn : Step (Option S) → Seated → ℕ → Seated → Type 0
  TakesTurn st m r m' =
      (r ≡ m.0.ticket % 2 ^ 64
      → (x : S) × (m' ≡ (inside_view m.0 (story x), (0, Some x) ∷ m.1)) × IsStateFor m.0 x)
      × (r ≢ m.0.ticket % 2 ^ 64 → m' ≡ m)

  abbrev pub history_of : Option S → List E
  history_of None = []
  history_of (Some x) = story x

  -- the history of the state in the slot that is held
  abbrev pub held_history : List (ℕ × Option S) → List E
  held_history [] = []
  held_history (x ∷ xs) = history_of x.1

  -- the seat has given the slot back, and has seen what it left there
  abbrev pub PassesTurn : Step (Option S) → Seated → ℕ → Seated → Type 0
  PassesTurn st m r m' = m' ≡ (outside_view m.0 (held_history m.1), rest m.1)

  -- the seat has seen what it was told, and what told it has the same fixed part
  abbrev pub MergesTold : Step (Option S) → Seated → ℕ → Seated → Type 0
  MergesTold st m r m' =
      (m' ≡ (merged_view m.0, m.1)) × IsPrefix m.0.told m'.0.seen
      × Continues maker m.0.number m.0.seen m'.0.seen × (m.0.told_fixed ≡ m.0.fixed)
