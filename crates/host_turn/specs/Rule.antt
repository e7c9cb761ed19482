-- The rule of the turn lock: one history, of which every seat has seen a beginning, with all of the
-- seat's own entries. Word 0 is the next ticket, and word 1 the ticket that is served, both modulo
-- 2^64. The one slot holds the state while nobody has the turn.
use Rattle.std.specs.Prelude.{◌≡◌, ◌≢◌, ◌⊎◌, ℕ, ◌+◌, ◌%◌, ◌^◌, ◌<◌, ◌≤◌, List, [], ◌∷◌, length}
use Rattle.std.specs.Prelude.{Option, Some}
use mathlib.Core.Option.{none, some}
use mathlib.Core.List.{IsPrefix}
use lib.ListN.{get_elem?}
use Rattle.host_turn.specs.declared.rule.Opening.{Opening}
use Rattle.host_turn.specs.declared.view.View.{View}
use Rattle.host_turn.specs.declared.view.Stage.{Stage}
use Rattle.host_turn.specs.declared.view.Stage.TheVariants.{Maker, Outside, Waiting, Inside, Note}
use Rattle.host_turn.specs.declared.view.Stage.TheVariants.{Closing, Spent}
use Rattle.host_log.specs.History.{entries_of}
use Rattle.host_turn.specs.Views.{has_ticket, tickets_of, share_of, members_of}
use Rattle.host_log.specs.Seen.{Holder, HasNumber, AnyHasSeen, HasSeen, AllHaveSeen}
use Rattle.host_log.specs.Sums.{total}
use Rattle.atomic_table.specs.Table.{State}

module _ {E : Type 0} (maker : E → ℕ) where
  -- one of the seats that were made has seen this of the history `last`
  abbrev pub IsMember : ℕ → List E → Holder E → Type 0
  IsMember made last m = HasSeen maker last m × (m.0 < made)

  -- each of these is a seat that was made, and has seen this
  abbrev pub AreMembers : ℕ → List E → List (Holder E) → Type 0
  AreMembers made last ms = AllHaveSeen maker last ms × ((n : ℕ) → HasNumber ms n → n < made)

module _ {E F : Type 0} (maker : E → ℕ) where
  -- what each seat knows of itself
  pub record Owns (made : ℕ) (last : List E) (fixed_value : F) (v : View E F) : Type 0 where
    pub member : IsMember maker made last (v.number, v.seen)
    pub told_begins : IsPrefix v.told last
    pub has_fixed : v.fixed ≡ Some fixed_value
    pub stands_for_one : v.share ≡ 1
    pub told_has_fixed : v.told_fixed ≡ Some fixed_value

  -- the first view makes the seats, and stands for those that it hasn't made
  pub record MakesSeats (made seats : ℕ) (first last : List E) (fixed_value : F) (j : ℕ)
      (v : View E F) : Type 0 where
    pub is_first : j ≡ 0
    pub next_number : v.number ≡ made
    pub to_make : v.share + made ≡ seats
    pub seen_first : v.seen ≡ first
    pub has_fixed : v.fixed ≡ Some fixed_value
    pub begins : IsPrefix v.seen last

  -- a seat waits with a ticket that is drawn and not past
  pub record Waits (next serving made : ℕ) (last : List E) (fixed_value : F) (v : View E F)
      : Type 0 where
    pub owns : Owns made last fixed_value v
    pub not_past : serving ≤ v.ticket
    pub drawn : v.ticket < next

  -- a seat whose ticket is served has seen the whole history
  pub record HasTurn (next serving made : ℕ) (last : List E) (fixed_value : F) (v : View E F)
      : Type 0 where
    pub owns : Owns made last fixed_value v
    pub served : v.ticket ≡ serving
    pub drawn : v.ticket < next
    pub seen_all : v.seen ≡ last

  -- a note has what its seat had seen, and stands for no seat
  pub record Tells (last : List E) (fixed_value : F) (v : View E F) : Type 0 where
    pub begins : IsPrefix v.seen last
    pub has_fixed : v.fixed ≡ Some fixed_value
    pub stands_for_none : v.share ≡ 0

  -- a closing seat stands for the members that it has taken in
  pub record HasTakenIn (made : ℕ) (last : List E) (fixed_value : F) (v : View E F) : Type 0 where
    pub has_fixed : v.fixed ≡ Some fixed_value
    pub members : AreMembers maker made last v.members
    pub counted : v.share ≡ length v.members

  -- what the j-th view knows, by its stage, where `last` is the history as it was last left
  abbrev pub Knows : ℕ → ℕ → ℕ → ℕ → List E → List E → F → ℕ → View E F → Stage → Type 0
  Knows next serving made seats first last fixed_value j v Maker =
      MakesSeats made seats first last fixed_value j v
  Knows next serving made seats first last fixed_value j v Outside = Owns made last fixed_value v
  Knows next serving made seats first last fixed_value j v Waiting =
      Waits next serving made last fixed_value v
  Knows next serving made seats first last fixed_value j v Inside =
      HasTurn next serving made last fixed_value v
  Knows next serving made seats first last fixed_value j v Note = Tells last fixed_value v
  Knows next serving made seats first last fixed_value j v Closing =
      HasTakenIn made last fixed_value v
  Knows next serving made seats first last fixed_value j v Spent = v.share ≡ 0

module _ {S E F : Type 0} (story : S → List E) (maker : E → ℕ) (fixed : S → F) where
  -- two views have no number in common, and different tickets
  abbrev pub Apart : ℕ → View E F → ℕ → View E F → Type 0
  Apart i v j w =
      ((n : ℕ) → HasNumber (members_of v) n → HasNumber (members_of w) n → i ≡ j)
      × (has_ticket v.stage ≡ 1 → has_ticket w.stage ≡ 1 → v.ticket ≡ w.ticket → i ≡ j)

  module _ (k : Opening S) (s : State (Option S) (View E F)) (last : List E) where
    -- nobody has the turn, and the state is in the slot
    pub record AtHome : Type 0 where
      pub state : S
      pub in_slot : s.homes ≡ some (Some state) ∷ []
      pub history : story state ≡ last
      pub has_fixed : fixed state ≡ fixed k.state.value
      pub nobody : (j : ℕ) (v : View E F) → get_elem? s.views j ≡ some v → v.stage ≢ Inside

    -- a seat has the turn, and the slot
    pub record Away : Type 0 where
      pub holder : ℕ
      pub view : View E F
      pub found : get_elem? s.views holder ≡ some view
      pub has_turn : view.stage ≡ Inside
      pub slot_out : s.homes ≡ none ∷ []

  -- nothing was added yet, or some seat has seen the whole history
  abbrev pub IsOpeningOrSeen : List E → List (View E F) → List E → Type 0
  IsOpeningOrSeen first views last =
      (last ≡ first)
      ⊎ ((j : ℕ) × (v : View E F) × (get_elem? views j ≡ some v) × AnyHasSeen (members_of v) last)

  -- no view has this number
  abbrev pub IsFree : List (View E F) → ℕ → Type 0
  IsFree views n =
      (j : ℕ) (v : View E F) → get_elem? views j ≡ some v → ¬ HasNumber (members_of v) n

  -- the rule
  pub record OneHistory (k : Opening S) (s : State (Option S) (View E F)) : Type 0 where
    pub next : ℕ
    pub serving : ℕ
    pub made : ℕ
    pub last : List E
    pub words : s.words ≡ next % 2 ^ 64 ∷ serving % 2 ^ 64 ∷ []
    pub drawn : next ≡ serving + total tickets_of s.views
    pub shares : total share_of s.views ≡ k.seats
    pub few : k.seats < 2 ^ 32
    pub within : made ≤ k.seats
    pub others : (n : ℕ) → IsFree s.views n
        → entries_of maker n last ≡ entries_of maker n (story k.state.value)
    pub each : (j : ℕ) (v : View E F) → get_elem? s.views j ≡ some v
        → Knows maker next serving made k.seats (story k.state.value) last (fixed k.state.value) j v
        v.stage
    pub apart : (i j : ℕ) (v w : View E F) → get_elem? s.views i ≡ some v
        → get_elem? s.views j ≡ some w → Apart i v j w
    pub witnessed : IsOpeningOrSeen (story k.state.value) s.views last
    pub slot : AtHome k s last ⊎ Away k s last

  -- the view that the book is made with: it makes the seats
  abbrev pub first_view : Opening S → View E F
  first_view k =
      record {
        stage = Maker;
        number = 0;
        ticket = 0;
        share = k.seats;
        fixed = Some (fixed k.state.value);
        seen = story k.state.value;
        told = [];
        told_fixed = Some (fixed k.state.value);
        members = [];
      }
