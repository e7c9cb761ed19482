-- What a seat's view says, and how it changes.
use Rattle.std.specs.Prelude.{ℕ, ◌+◌, ◌-◌, List, [], ◌∷◌, ◌++◌, None}
use Rattle.host_turn.specs.declared.view.View.{View}
use Rattle.host_turn.specs.declared.view.Stage.{Stage}
use Rattle.host_turn.specs.declared.view.Stage.TheVariants.{Outside, Waiting, Inside, Note, Closing}
use Rattle.host_turn.specs.declared.view.Stage.TheVariants.{Spent}
use Rattle.host_log.specs.History.{longer}
use Rattle.host_log.specs.Seen.{Holder}

-- 1 where the stage has a ticket
abbrev pub has_ticket : Stage → ℕ
has_ticket Waiting = 1
has_ticket Inside = 1
has_ticket _ = 0

-- 1 where the stage can take in another seat for good
abbrev pub is_at_rest : Stage → ℕ
is_at_rest Outside = 1
is_at_rest Closing = 1
is_at_rest _ = 0

module _ {E F : Type 0} where
  -- how many tickets the view has
  abbrev pub tickets_of : View E F → ℕ
  tickets_of v = has_ticket v.stage

  -- how many of the book's seats the view stands for
  abbrev pub share_of : View E F → ℕ
  share_of v = v.share

  -- the members that the view stands for, by its stage
  abbrev pub members_at : Stage → View E F → List (Holder E)
  members_at Outside v = (v.number, v.seen) ∷ []
  members_at Waiting v = (v.number, v.seen) ∷ []
  members_at Inside v = (v.number, v.seen) ∷ []
  members_at Closing v = v.members
  members_at _ v = []

  abbrev pub members_of : View E F → List (Holder E)
  members_of v = members_at v.stage v

  -- it has drawn the ticket t
  abbrev pub waiting_view : View E F → ℕ → View E F
  waiting_view v t = record v { stage = Waiting; ticket = t }

  -- it has the turn, and with it the whole history xs
  abbrev pub inside_view : View E F → List E → View E F
  inside_view v xs = record v { stage = Inside; seen = xs }

  -- it has left the history xs
  abbrev pub outside_view : View E F → List E → View E F
  outside_view v xs = record v { stage = Outside; seen = xs }

  -- a note of what the view has seen
  abbrev pub note_view : View E F → View E F
  note_view v =
      record {
        stage = Note;
        number = 0;
        ticket = 0;
        share = 0;
        fixed = v.fixed;
        seen = v.seen;
        told = [];
        told_fixed = v.fixed;
        members = [];
      }

  -- it has taken in a note
  abbrev pub told_view : View E F → View E F → View E F
  told_view v note = record v { told = note.seen; told_fixed = note.fixed }

  -- it has seen what it was told
  abbrev pub merged_view : View E F → View E F
  merged_view v = record v { seen = longer v.seen v.told; told = [] }

  -- the maker, after it has made the next seat
  abbrev pub view_after_making : View E F → View E F
  view_after_making v = record v { number = v.number + 1; share = v.share - 1 }

  -- the seat that the maker makes
  abbrev pub new_seat_view : View E F → View E F
  new_seat_view v =
      record {
        stage = Outside;
        number = v.number;
        ticket = 0;
        share = 1;
        fixed = v.fixed;
        seen = v.seen;
        told = [];
        told_fixed = v.fixed;
        members = [];
      }

  -- it has taken in another seat for good
  abbrev pub gathered_view : View E F → View E F → View E F
  gathered_view v w =
      record {
        stage = Closing;
        number = 0;
        ticket = 0;
        share = v.share + w.share;
        fixed = v.fixed;
        seen = [];
        told = [];
        told_fixed = v.fixed;
        members = members_of w ++ members_of v;
      }

  -- it was taken in
  abbrev pub spent_view : View E F
  spent_view =
      record {
        stage = Spent;
        number = 0;
        ticket = 0;
        share = 0;
        fixed = None;
        seen = [];
        told = [];
        told_fixed = None;
        members = [];
      }
