-- What an intake's cells have of its records.
use Rattle.std.specs.Prelude.{◌≡◌, ℕ, ◌+◌, ◌≤◌, ◌<◌, Bool, false, ◌==◌, ◌||◌, ◌&&◌, if◌then◌else◌}
use Rattle.std.specs.Prelude.{List, length, map, filter, filter_map, take, reverse, slice_get}
use Rattle.std.specs.Prelude.{IsTrue, Option, Some, None}
use Rattle.std.specs.List.{list_all}
use Rattle.std.specs.Option.{option_map_or}
use Rattle.host_record.specs.declared.request.Request.{Request}
use Rattle.host_record.specs.Command.{is_last}
use Rattle.host_model.specs.Groups.{is_member, closings}
use Rattle.host_model.specs.Lists.{below, count}
use Rattle.host_model.specs.Log.{request_at}
use Rattle.host_group.specs.declared.seat.CellSeat.{CellSeat}
use Rattle.host_group.specs.declared.view.Member.{Member}
use Rattle.host_group.specs.declared.view.Row.{Row}
use Rattle.host_group.specs.Seats.{IsAdmittingOf, seat_cells, admitted, back, next, member}
use Rattle.host_rings.specs.declared.slip.Slip.{Slip}
use Rattle.host_intake.specs.declared.entry.RecordEnd.{RecordEnd}
use Rattle.host_intake.specs.Answers.{lone_slip, row_slip}
use Rattle.host_intake.specs.Entries.{Taking, Landing, requests_of}
use Rattle.host_intake.specs.Told.{is_open}

-- record i as a member of its instance; a lone record is none
abbrev pub member_at : List Request → ℕ → Option Member
member_at rs i =
    let r = request_at rs i in
    if is_member r then Some (member r.group (closings r.group (take i rs)) i r.reqid (is_last r))
    else None

-- the members among these requests
abbrev pub members : List Request → List Member
members rs = filter_map (member_at rs) (below (length rs))

-- how a record ended, and the answer that this made due
abbrev pub Ending : Type 0
Ending = ℕ × (RecordEnd × Option Slip)

abbrev pub landing_ending : Landing → Ending
landing_ending l = (l.index, (l.end, l.answer))

abbrev pub row_ending : Row → Ending
row_ending q = (
  q.member.index,
  (
    record { outcome = q.status; device_front = q.device_front; memory_front = q.memory_front },
    row_slip q,
  ),
)

-- the record that ended is a member
abbrev pub is_of_member : List Request → Landing → Bool
is_of_member rs l = is_member (request_at rs l.index)

-- a lone record's end made its own answer due
abbrev pub IsAnswered : List Request → Landing → Type 0
IsAnswered rs l =
    is_of_member rs l ≡ false → l.answer ≡ Some (lone_slip (request_at rs l.index) l.index l.end)

-- record i was taken by this hand, or waits for pins
abbrev pub is_lander : ℕ → ℕ → List Taking → Bool
is_lander hand i ts =
    option_map_or (λ (t : Taking). t.hand == hand || t.waits) (slice_get ts i) false

-- the record that ended was taken by the hand that tells its end, unless it waited for pins
abbrev pub is_by_taker : List Taking → Landing → Bool
is_by_taker ts l = is_lander l.hand l.index ts

-- The records that ended were taken, and each ended once; a lone record with its own answer.
pub record AreLanded (ts : List Taking) (ls : List Landing) : Type 0 where
  pub by_taker : IsTrue (list_all (is_by_taker ts) ls)
  pub once : length ls + count (is_open ls) (below (length ts)) ≡ length ts
  pub answers : (k : ℕ) (l : Landing) → slice_get ls k ≡ Some l → IsAnswered (requests_of ts) l

abbrev pub is_member_at : List Request → ℕ → Bool
is_member_at rs i = is_member (request_at rs i)

-- a member that has not ended
abbrev pub is_right_out : List Request → List Landing → ℕ → Bool
is_right_out rs ls i = is_member_at rs i && is_open ls i

-- how many rights that came back are of such records
abbrev pub backs : (ℕ → Bool) → List Row → ℕ
backs p qs = count (λ (q : Row). p q.member.index) qs

-- The cells were told of the members among the records taken, in order; the rights of those that
-- ended came back, and say how each ended and which answer that made due. Of the members of any
-- kind some came back and the others are out.
pub record AreInCells (ts : List Taking) (ls : List Landing) (seat : CellSeat) : Type 0 where
  pub resting : IsAdmittingOf (seat_cells seat) seat
  pub told : admitted seat ≡ members (requests_of ts)
  pub above : next seat ≤ length ts
  pub came_back : map row_ending (back seat)
      ≡ reverse (map landing_ending (filter (is_of_member (requests_of ts)) ls))
  pub of_members : (k : ℕ) (q : Row) → slice_get (back seat) k ≡ Some q
      → (q.member.index < length ts) × (member_at (requests_of ts) q.member.index ≡ Some q.member)
  pub out : (p : ℕ → Bool)
      → backs p (back seat)
      + count (λ i. p i && is_right_out (requests_of ts) ls i) (below (length ts))
      ≡ count (λ i. p i && is_member_at (requests_of ts) i) (below (length ts))
