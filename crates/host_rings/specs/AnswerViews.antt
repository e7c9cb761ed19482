-- What the passes of an answer ring know, and how each step changes that.
use Rattle.std.specs.Prelude.{ℕ, ◌+◌, true, false, List, [], ◌∷◌, ◌++◌}
use Rattle.host_rings.specs.declared.slip.Slip.{Slip}
use Rattle.host_rings.specs.declared.answer_view.AnswerView.{AnswerView}

-- the taker's
abbrev pub reader_view : ℕ → List (List Slip) → List Slip → List Slip → AnswerView
reader_view senders closed taken heard =
    record {
      pushes = false;
      pops = true;
      number = 0;
      senders = senders;
      pushed = [];
      taken = taken;
      closed = closed;
      heard = heard;
    }

-- a sender's
abbrev pub hand_view : ℕ → List Slip → AnswerView
hand_view number pushed =
    record {
      pushes = true;
      pops = false;
      number = number;
      senders = 0;
      pushed = pushed;
      taken = [];
      closed = [];
      heard = [];
    }

-- one more sender was made
abbrev pub making_view : AnswerView → AnswerView
making_view v = reader_view (v.senders + 1) v.closed v.taken v.heard

-- one more sender was closed, which had pushed these
abbrev pub closing_view : AnswerView → List Slip → AnswerView
closing_view v pushed = reader_view v.senders (v.closed ++ pushed ∷ []) v.taken v.heard

-- a pass that was taken in knows nothing more
abbrev pub spent_answer_view : AnswerView
spent_answer_view =
    record {
      pushes = false;
      pops = false;
      number = 0;
      senders = 0;
      pushed = [];
      taken = [];
      closed = [];
      heard = [];
    }
