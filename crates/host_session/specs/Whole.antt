-- One session as a whole, once its two ends were put together.
use Rattle.std.specs.Prelude.{◌≡◌, ℕ, ◌+◌, ◌<◌, List, [], map, All, IsTrue, None}
use Rattle.std.specs.List.{list_all}
use Rattle.host_block.specs.Lists.{IsPrefix}
use Rattle.host_group.specs.Ends.{AreThoseAdmitted, HasItsEnd, HaveRows}
use Rattle.host_group.specs.Seats.{admitted, back}
use Rattle.host_intake.specs.declared.entry.IntakeEntry.{IntakeEntry}
use Rattle.host_intake.specs.declared.entry.Phase.TheVariants as phase
use Rattle.host_intake.specs.Entries.{maker_of}
use Rattle.host_intake.specs.Intaken.{IsIntake}
use Rattle.host_intake.specs.State.{IntakeState, plan_of_intake}
use Rattle.host_intake.specs.Told.{phase_in, rows_in}
use Rattle.host_memory.specs.Held.{first_held, is_given_by}
use Rattle.host_memory.specs.Numbers.{is_by_its_hand, is_numbered}
use Rattle.host_memory.specs.State.{events}
use Rattle.host_model.specs.declared.event.Event.{Event}
use Rattle.host_model.specs.declared.memory.MemEntry.{MemEntry}
use Rattle.host_model.specs.declared.row.TakenRow.{TakenRow}
use Rattle.host_model.specs.Lists.{all_with_before, count}
use Rattle.host_model.specs.Pages.{lifts_page}
use Rattle.host_model.specs.Releases.{comes_before_release, is_release_of, pins_before_close}
use Rattle.host_rings.specs.Slips.{ComeFrom}
use Rattle.host_turn.specs.declared.seat.BookSeat.{BookSeat}
use Rattle.host_log.specs.History.{Continues, entries_of}
use Rattle.host_turn.specs.Seats.{number, seen_by}
use Rattle.host_session.specs.declared.hand.SessionHand.{SessionHand}
use Rattle.host_session.specs.Acts.{Act, AreLate, IsCourse}
use Rattle.host_session.specs.Client.{ClientState}
use Rattle.host_session.specs.Endings.{IsSessionOver}
use Rattle.host_session.specs.Kept.{IsClient}
use Rattle.host_session.specs.Plan.{intake_plan}
use Rattle.host_session.specs.Told.{IsClientTold}

-- A history has all that a seat has seen, and of the seat's own entries no others.
abbrev pub HasAllOf : {S E F : Type 0} → (E → ℕ) → List E → BookSeat S E F → Type 0
HasAllOf maker whole q = Continues maker (number q) (seen_by q) whole

-- The intake's history: that of all hands, and of the client.
pub record IsIntakeHistory (client : ClientState) (hands : List SessionHand) (s : IntakeState)
    : Type 0 where
  pub intake : IsIntake s
  pub plan : plan_of_intake s ≡ intake_plan client.plan
  pub closed : phase_in s.entries ≡ phase.Closed
  pub of_hands : All (λ hand. HasAllOf maker_of s.entries hand.intake) hands
  pub of_client : HasAllOf maker_of s.entries client.intake_seat
  pub others : (n : ℕ) → client.plan.hands < n → entries_of maker_of n s.entries ≡ []

-- The buffers' history: that of all hands, of the client and of the admissions. All pages are home.
pub record IsMemoryHistory (client : ClientState) (hands : List SessionHand) (s : IntakeState)
    (h : List MemEntry) : Type 0 where
  pub of_hands : All (λ hand. HasAllOf (λ e. e.hand) h hand.memory) hands
  pub of_client : HasAllOf (λ e. e.hand) h client.memory_seat
  pub of_admissions : HasAllOf (λ e. e.hand) h s.memory_seat
  pub others : (n : ℕ) → client.plan.hands + 1 < n → entries_of (λ e. e.hand) n h ≡ []
  pub numbers : IsTrue (list_all (is_numbered client.plan.hands (client.plan.hands + 1)) h)
  pub carriers : IsTrue (list_all (is_by_its_hand (events h)) h)
  pub home : first_held (events h) ≡ None
  pub once : (v : ℕ) → count (is_release_of v) (events h) ≡ count (is_given_by v) (events h)
  pub last : IsTrue (all_with_before comes_before_release (events h))
  pub closes : IsTrue (all_with_before pins_before_close (events h))
  pub lifts : IsTrue (all_with_before (lifts_page client.plan.spec.size) (events h))

-- What went through the rings and the cells: what was taken is a beginning of what was sent, each
-- slip received was sent back by a hand, and each closed group has one end.
pub record AreJoined (client : ClientState) (hands : List SessionHand) (s : IntakeState)
    : Type 0 where
  pub requests : IsPrefix s.taker.taken client.sender.pushed
  pub answers : ComeFrom (map (λ hand. hand.sender.pushed) hands) client.taker.taken
  pub rows : HaveRows (admitted s.cell_seat) (back s.cell_seat)
  pub those : AreThoseAdmitted (admitted s.cell_seat) (back s.cell_seat)
  pub ends : (g j : ℕ) → g < 8 → HasItsEnd g j (admitted s.cell_seat) (back s.cell_seat)

-- What the client knew of a part of both histories holds of the whole.
pub record IsClientOf (client : ClientState) (es : List IntakeEntry) (h : List MemEntry)
    : Type 0 where
  pub kept : IsClient client
  pub told : IsClientTold client.plan.hands client.plan.spec.size client.log h
  pub acts : List Act
  pub course : IsCourse client.log client.sender.pushed client.taker.taken h client.fronts acts
  pub late : AreLate client.plan.hands es h acts
  pub over : IsSessionOver client.finish client.log es h

-- A session of this client end and these hands, which ended with this log, these rows and this
-- history of its buffers.
pub record IsSessionWhole (client : ClientState) (hands : List SessionHand) (log : List Event)
    (rows : List TakenRow) (h : List MemEntry) : Type 0 where
  pub intake : IntakeState
  pub log_is : log ≡ client.log
  pub rows_are : rows ≡ rows_in intake.entries
  pub intake_history : IsIntakeHistory client hands intake
  pub memory_history : IsMemoryHistory client hands intake h
  pub joined : AreJoined client hands intake
  pub client_of : IsClientOf client intake.entries h
