-- How instances end, by their rows in the order in which the members were admitted.
use Rattle.std.specs.Prelude.{◌≡◌, ℕ, ◌/◌, ◌%◌, ◌^◌, ◌<◌, ◌≤◌, ◌==◌, List, [], ◌∷◌, length, map}
use Rattle.std.specs.Prelude.{filter, find, max, Option, Some, None, unwrap_or}
use Rattle.std.specs.List.{cons_option}
use Rattle.host_model.specs.Answers.{first_failure}
use Rattle.host_group.specs.declared.view.Row.{Row}
use Rattle.host_group.specs.declared.view.Member.{Member}
use Rattle.host_group.specs.declared.view.Progress.{Progress}
use Rattle.host_group.specs.declared.view.Progress.TheVariants.{Ended}
use Rattle.host_group.specs.declared.group_end.GroupEnd.{GroupEnd}
use Rattle.host_group.specs.Failures.{status_of}
use Rattle.host_group.specs.Views.{where_in, members_closing, fresh_row}
use Rattle.host_log.specs.Sums.{total}

abbrev pub greatest : List ℕ → ℕ
greatest [] = 0
greatest (n ∷ ns) = max n (greatest ns)

-- index and reqid of each closing member among these rows
abbrev pub closers_of : List Row → List (ℕ × ℕ)
closers_of rows = map (λ r. (r.member.index, r.member.reqid)) (filter (λ r. r.member.last) rows)

-- the end of an instance with these rows
pub record IsEnd (rows : List Row) (e : GroupEnd) : Type 0 where
  pub status : e.status ≡ first_failure (map (λ r. r.status) rows)
  pub count : e.count ≡ length rows
  pub closed_by : closers_of rows ≡ (e.index, e.reqid) ∷ []
  pub device_front : e.device_front ≡ greatest (map (λ r. r.device_front) rows)
  pub memory_front : e.memory_front ≡ greatest (map (λ r. r.memory_front) rows)

-- the members of the instance j of the number g
abbrev pub members_of : ℕ → ℕ → List Member → List Member
members_of g j [] = []
members_of g j (m ∷ ms) = where_in g j m (m ∷ members_of g j ms) (members_of g j ms)

-- the row with which a member came back
abbrev pub row_of : List Row → Member → Row
row_of back m = unwrap_or (find (λ r. r.member.index == m.index) back) (fresh_row m)

-- the rows of the instance, in the order in which its members were admitted
abbrev pub instance_rows : ℕ → ℕ → List Member → List Row → List Row
instance_rows g j admitted back = map (row_of back) (members_of g j admitted)

-- the end in the words that a row took out
abbrev pub end_in_row : Row → GroupEnd
end_in_row r =
    record {
      status = status_of r.end_error;
      count = r.found / 256;
      reqid = r.end_closing / 2 ^ 32;
      index = r.end_closing % 2 ^ 32;
      device_front = r.end_device_front;
      memory_front = r.end_memory_front;
    }

abbrev pub end_at : Progress → Row → Option GroupEnd
end_at Ended r = Some (end_in_row r)
end_at _ r = None

-- the end that a member's settling told
abbrev pub end_of : Row → Option GroupEnd
end_of r = end_at r.progress r

-- the ends that the members of these rows were told
abbrev pub ends_of : List Row → List GroupEnd
ends_of [] = []
ends_of (r ∷ rs) = cons_option (end_of r) (ends_of rs)

-- one of the members was told an end, and it is that of the instance
abbrev pub HasOneEnd : List Row → Type 0
HasOneEnd rows = (e : GroupEnd) × (ends_of rows ≡ e ∷ []) × IsEnd rows e

-- a closed instance has its end, and one that isn't closed has none
abbrev pub HasItsEnd : ℕ → ℕ → List Member → List Row → Type 0
HasItsEnd g j admitted back =
    (j < members_closing g admitted → HasOneEnd (instance_rows g j admitted back))
    × (members_closing g admitted ≤ j → ends_of (instance_rows g j admitted back) ≡ [])

-- the rows that came back are those of the members that were admitted
abbrev pub AreThoseAdmitted : List Member → List Row → Type 0
AreThoseAdmitted admitted back =
    (φ : Member → ℕ) → total φ admitted ≡ total (λ (r : Row). φ r.member) back

-- each member has its row
abbrev pub HaveRows : List Member → List Row → Type 0
HaveRows [] back = Unit {0}
HaveRows (m ∷ ms) back = ((row_of back m).member ≡ m) × HaveRows ms back
