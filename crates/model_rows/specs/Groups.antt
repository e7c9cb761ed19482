-- An instance of three members, of which the second and the third fail, and the third settled
-- first.
use Rattle.std.specs.Prelude.{◌≡◌, ◌<◌, List, [], ◌∷◌, true, false, Some}
use Rattle.host_group.specs.Ends.{IsEnd, members_of, instance_rows, end_of, ends_of, HasOneEnd}
use Rattle.host_group.specs.Failures.{no_failure, failure_word, status_of}
use Rattle.host_group.specs.Rule.{cell}
use Rattle.host_group.specs.Seats.{member}
use Rattle.host_group.specs.Tallies.{rows_tally}
use Rattle.host_group.specs.Views.{members_closing, member_count, IsRising, fresh_row}
use Rattle.host_group.specs.declared.group_end.GroupEnd.{GroupEnd}
use Rattle.host_group.specs.declared.view.Member.{Member}
use Rattle.host_group.specs.declared.view.Progress.TheVariants.{Ended, Passed}
use Rattle.host_group.specs.declared.view.Row.{Row}
use Rattle.host_record.specs.declared.status.Status.TheVariants.{Ok, NotFound, Io}

abbrev pub first : Member
first = member 3 0 10 100 false

abbrev pub second : Member
second = member 3 0 11 101 false

abbrev pub third : Member
third = member 3 0 13 103 true

-- a member of the number's next instance, and one of another number
abbrev pub next : Member
next = member 3 1 14 104 false

abbrev pub other : Member
other = member 4 0 12 102 true

abbrev pub admitted : List Member
admitted = first ∷ second ∷ other ∷ third ∷ next ∷ []

abbrev pub first_row : Row
first_row = record (fresh_row first) { progress = Passed; device_front = 7; memory_front = 2 }

-- it settled last: the word left had one unsettled member, the mark, and three members
abbrev pub second_row : Row
second_row = record (fresh_row second) {
  progress = Ended;
  status = NotFound;
  device_front = 9;
  memory_front = 1;
  found = 897;
  end_error = 94;
  end_device_front = 9;
  end_memory_front = 4;
  end_closing = 442381631501;
}

abbrev pub third_row : Row
third_row = record (fresh_row third) {
  progress = Passed;
  status = Io;
  device_front = 3;
  memory_front = 4;
}

abbrev pub back : List Row
back = second_row ∷ first_row ∷ third_row ∷ []

abbrev pub end : GroupEnd
end = record {
  status = NotFound;
  count = 3;
  reqid = 103;
  index = 13;
  device_front = 9;
  memory_front = 4;
}

pub record GroupsAreAsWritten : Type 0 where
  -- the index decides first
  pub lesser_index : failure_word 5 Io < failure_word 6 NotFound
  pub told_status : (status_of (failure_word 5 NotFound) ≡ NotFound) × (status_of no_failure ≡ Ok)
  pub three : members_of 3 0 admitted ≡ first ∷ second ∷ third ∷ []
  pub in_order : instance_rows 3 0 admitted back ≡ first_row ∷ second_row ∷ third_row ∷ []
  pub counts : (members_closing 3 admitted ≡ 1) × (member_count 3 0 admitted ≡ 3)
      × ((rows_tally 3 0 back).rows ≡ 3)
  pub rises : IsRising (first ∷ second ∷ third ∷ []) 0 14
  -- what the words come to
  pub words : ((rows_tally 3 0 back).error ≡ 94) × ((rows_tally 3 0 back).device_front ≡ 9)
      × ((rows_tally 3 0 back).memory_front ≡ 4)
  pub told : end_of second_row ≡ Some end
  pub is_end : IsEnd (first_row ∷ second_row ∷ third_row ∷ []) end
  pub one_end : HasOneEnd (instance_rows 3 0 admitted back)
  -- the next instance isn't closed, and has no end
  pub none : ends_of (instance_rows 3 1 admitted back) ≡ []
  -- the words of the number 1
  pub second_cell : (cell (0 ∷ 0 ∷ 0 ∷ 0 ∷ 0 ∷ 897 ∷ 94 ∷ 9 ∷ 4 ∷ 13 ∷ []) 1).error ≡ 94
