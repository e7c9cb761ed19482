-- What is true of every client end.
use Rattle.std.specs.Prelude.{◌≡◌, ◌≤◌, not, List, length, filter_map, IsTrue}
use Rattle.host_model.specs.declared.event.Event.{Event}
use Rattle.host_model.specs.Lists.{all_with_before, below, count}
use Rattle.host_model.specs.Log.{given, sent, sent_index}
use Rattle.host_model.specs.Taking.{is_end, runs_out_rightly}
use Rattle.host_turn.specs.Seats.{seen_by}
use Rattle.host_session.specs.declared.spec.SessionSpec.{SessionSpec}
use Rattle.host_session.specs.Acts.{Act, AreLate, IsCourse}
use Rattle.host_session.specs.Client.{ClientState}
use Rattle.host_session.specs.Endings.{IsEndedSoFar}
use Rattle.host_session.specs.Plan.{IsSeatIn, id_limit, intake_plan, memory_plan}
use Rattle.host_session.specs.Told.{IsClientTold}

-- The records sent are numbered from 0, an attach is refused for want of ids just where 65,535 were
-- given, and all is within the spec's numbers.
pub record IsLog (spec : SessionSpec) (log : List Event) : Type 0 where
  pub numbered : filter_map sent_index log ≡ below (length (sent log))
  pub ids : IsTrue (all_with_before runs_out_rightly log)
  pub records : length (sent log) ≤ spec.records
  pub given : length (given log) ≤ id_limit spec
  pub room : count (λ e. not (is_end e)) log ≤ spec.events

-- its ends of the rings
pub record HasRings (s : ClientState) : Type 0 where
  pub sender : (s.sender.ring ≡ s.plan.requests) × (s.sender.records ≡ s.plan.spec.records)
  pub taker : (s.taker.ring ≡ s.plan.answers) × (s.taker.senders ≡ s.plan.hands)

pub record IsClient (s : ClientState) : Type 0 where
  pub intake_seat : IsSeatIn s.plan.intake (intake_plan s.plan) s.plan.hands s.intake_seat
  pub memory_seat : IsSeatIn s.plan.memory (memory_plan s.plan) s.plan.hands s.memory_seat
  pub page_size : s.plan.pool.1 ≡ s.plan.spec.size
  pub rings : HasRings s
  pub log : IsLog s.plan.spec s.log
  pub told : IsClientTold s.plan.hands s.plan.spec.size s.log (seen_by s.memory_seat)
  pub seen : length (seen_by s.memory_seat) ≤ s.fronts.memory
  pub ended : IsEndedSoFar s.plan.hands s.finish s.closed s.log (seen_by s.intake_seat)
      (seen_by s.memory_seat)
  pub acts : List Act
  pub course : IsCourse s.log s.sender.pushed s.taker.taken (seen_by s.memory_seat) s.fronts acts
  pub late : AreLate s.plan.hands (seen_by s.intake_seat) (seen_by s.memory_seat) acts
