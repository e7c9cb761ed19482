-- The history of a lock, and its seats: entries are a maker's number with what it said.
use Rattle.std.specs.Prelude.{◌≡◌, ℕ, List, [], ◌∷◌, Some}
use Rattle.host_log.specs.History.{entries_of, Adds, Continues, longer}
use Rattle.host_turn.specs.Rule.{IsMember}
use Rattle.host_turn.specs.Views.{tickets_of, share_of, members_of, waiting_view, inside_view}
use Rattle.host_turn.specs.Views.{told_view, merged_view, view_after_making, new_seat_view}
use Rattle.host_turn.specs.Views.{note_view, gathered_view}
use Rattle.host_log.specs.Seen.{HasNumber, AnyHasSeen}
use Rattle.host_log.specs.Sums.{total}
use Rattle.host_turn.specs.declared.view.Stage.TheVariants.{Maker}
use Rattle.host_turn.specs.declared.view.View.{View}

abbrev pub Entry : Type 0
Entry = ℕ × ℕ

abbrev pub maker : Entry → ℕ
maker e = e.0

-- 0 made two entries, and 1 made one between them
abbrev pub history : List Entry
history = (0, 7) ∷ (1, 8) ∷ (0, 9) ∷ []

-- a book with three seats, of which none was made yet
abbrev pub seatless : View Entry ℕ
seatless = record {
  stage = Maker;
  number = 0;
  ticket = 0;
  share = 3;
  fixed = Some 5;
  seen = [];
  told = [];
  told_fixed = Some 5;
  members = [];
}

-- the seat 0 has drawn ticket 4, the seat 1 has the turn
abbrev pub seat_0 : View Entry ℕ
seat_0 = waiting_view (new_seat_view seatless) 4

abbrev pub seat_1 : View Entry ℕ
seat_1 = inside_view (new_seat_view (view_after_making seatless)) history

abbrev pub views : List (View Entry ℕ)
views = view_after_making (view_after_making seatless) ∷ seat_0 ∷ seat_1 ∷ []

pub record TurnsAreAsWritten : Type 0 where
  pub first_maker : entries_of maker 0 history ≡ (0, 7) ∷ (0, 9) ∷ []
  pub nobody : entries_of maker 2 history ≡ []
  -- the last turn was 0's, and added one entry
  pub last_turn : Adds maker 0 ((0, 7) ∷ (1, 8) ∷ []) history
  pub not_by_another : ¬ (entries_of maker 1 history ≡ (1, 8) ∷ (0, 9) ∷ [])
  -- 1 has seen two entries, and goes on to the whole history, which has no more of its own
  pub goes_on : Continues maker 1 ((0, 7) ∷ (1, 8) ∷ []) history
  -- 0 would miss its last entry
  pub misses_its_own : ¬ Continues maker 0 ((0, 7) ∷ (1, 8) ∷ []) history
  pub second_longer : longer {E = ℕ} (1 ∷ []) (1 ∷ 2 ∷ []) ≡ 1 ∷ 2 ∷ []
  pub first_as_long : longer {E = ℕ} (1 ∷ []) (2 ∷ []) ≡ 1 ∷ []
  pub member : IsMember maker 2 history (1, (0, 7) ∷ (1, 8) ∷ [])
  pub two_tickets : total tickets_of views ≡ 2
  pub three_seats : total share_of views ≡ 3
  pub its_member : members_of seat_1 ≡ (1, history) ∷ []
  -- the seat 0 is told what the seat 1 has seen, and has then seen it
  pub told_all : (merged_view (told_view seat_0 (note_view seat_1))).seen ≡ history
  pub both_taken_in : members_of (gathered_view seat_0 seat_1) ≡ (1, history) ∷ (0, []) ∷ []
  pub has_both_numbers : HasNumber (members_of (gathered_view seat_0 seat_1)) 0
      × HasNumber (members_of (gathered_view seat_0 seat_1)) 1
  pub one_has_seen_all : AnyHasSeen (members_of (gathered_view seat_0 seat_1)) history
