-- What a seat's view says, and how it changes.
use Rattle.std.specs.Prelude.{ℕ, ◌+◌, ◌*◌, ◌/◌, ◌%◌, ◌^◌, ◌≤◌, ◌==◌, List, [], ◌∷◌, ◌++◌, cond, ltb}
use Rattle.std.specs.Prelude.{Bool, true, false}
use Rattle.host_log.specs.Sums.{total}
use Rattle.host_record.specs.declared.status.Status.TheVariants.{Ok}
use Rattle.host_group.specs.declared.view.View.{View}
use Rattle.host_group.specs.declared.view.Row.{Row}
use Rattle.host_group.specs.declared.view.Member.{Member}
use Rattle.host_group.specs.declared.view.Stage.TheVariants.{Resting, Looked, Placed, Added, Right}
use Rattle.host_group.specs.declared.view.Stage.TheVariants.{Spent}
use Rattle.host_group.specs.declared.view.Progress.TheVariants.{Unsettled}

abbrev pub bit : Bool → ℕ
bit true = 1
bit false = 0

-- x for a member of the instance j of the number g, else y
abbrev pub where_in : {T : Type 0} → ℕ → ℕ → Member → T → T → T
where_in g j m x y = cond (m.number == g) (cond (m.instance == j) x y) y

-- 1 for a member of the instance
abbrev pub is_in_instance : ℕ → ℕ → Member → ℕ
is_in_instance g j m = where_in g j m 1 0

-- how many members of the instance there are
abbrev pub member_count : ℕ → ℕ → List Member → ℕ
member_count g j ms = total (is_in_instance g j) ms

-- how many rows of the instance there are
abbrev pub row_count : ℕ → ℕ → List Row → ℕ
row_count g j rs = total (λ (r : Row). is_in_instance g j r.member) rs

-- 1 for a closing member of the number g
abbrev pub closes_of_group : ℕ → Member → ℕ
closes_of_group g m = cond (m.number == g) (bit m.last) 0

-- how many closing members of the number there are
abbrev pub members_closing : ℕ → List Member → ℕ
members_closing g ms = total (closes_of_group g) ms

-- 1 where no cell has the member's number
abbrev pub is_beyond : Member → ℕ
is_beyond m = cond (ltb m.number 8) 0 1

-- the index and the reqid in one word
abbrev pub name_of : Member → ℕ
name_of m = m.index + 2 ^ 32 * m.reqid

-- the indexes rise from one number on, and stay below another
abbrev pub IsRising : List Member → ℕ → ℕ → Type 0
IsRising [] from end = from ≤ end
IsRising (m ∷ ms) from end = (from ≤ m.index) × IsRising ms (m.index + 1) end

abbrev pub no_member : Member
no_member = record { number = 0; instance = 0; index = 0; reqid = 0; last = false }

-- a member that has settled nothing
abbrev pub fresh_row : Member → Row
fresh_row m =
    record {
      member = m;
      progress = Unsettled;
      status = Ok;
      device_front = 0;
      memory_front = 0;
      found = 0;
      end_error = 0;
      end_device_front = 0;
      end_memory_front = 0;
      end_closing = 0;
    }

-- the admitting seat of new cells
abbrev pub first_cell_view : View
first_cell_view =
    record {
      stage = Resting;
      row = fresh_row no_member;
      admitted = [];
      back = [];
      next = 0;
      refusals = 0;
    }

-- a seat that was joined to another
abbrev pub spent_cell_view : View
spent_cell_view =
    record {
      stage = Spent;
      row = fresh_row no_member;
      admitted = [];
      back = [];
      next = 0;
      refusals = 0;
    }

-- it found a closed instance
abbrev pub refused_view : View → View
refused_view v = record v { refusals = v.refusals + 1 }

-- it found the number g without a closed instance, for a member with this name
abbrev pub looking_cell_view : View → ℕ → ℕ → View
looking_cell_view v g name =
    record v {
      stage = Looked;
      row = fresh_row record {
        number = g;
        instance = members_closing g v.admitted;
        index = name % 2 ^ 32;
        reqid = name / 2 ^ 32;
        last = false;
      };
    }

-- it put that name into the closing word
abbrev pub placed_view : View → View
placed_view v = record v { stage = Placed }

abbrev pub new_member : Bool → View → Member
new_member last v = record v.row.member { last = last }

-- it added the member
abbrev pub added_view : Bool → View → View
added_view last v =
    record v {
      stage = Added;
      row = fresh_row (new_member last v);
      admitted = v.admitted ++ new_member last v ∷ [];
      next = v.row.member.index + 1;
    }

-- it gave the right away
abbrev pub view_after_splitting : View → View
view_after_splitting v = record v { stage = Resting }

-- the right to settle the member that was added
abbrev pub right_view : View → View
right_view v =
    record { stage = Right; row = v.row; admitted = []; back = []; next = 0; refusals = 0 }

-- a right came back
abbrev pub joined_view : View → View → View
joined_view v w = record v { back = w.row ∷ v.back }

abbrev pub with_row : View → Row → View
with_row v r = record v { row = r }
