-- A record that a hand took and has yet to end, as the history goes on.
use Rattle.std.proofs.Common.{◌≡◌, ℕ, ◌<◌, false, List, [], ◌∷◌, ◌++◌, length, Option, Some, None, refl, sym, ap, subst, ◌∙◌}
use Rattle.std.specs.Prelude.{slice_get}
use Rattle.std.specs.List.{list_any}
use Rattle.std.proofs.lemmas.Option.{slice_get_within}
use Rattle.atomic_table.specs.Seated.{TableId}
use Rattle.host_group.specs.{CellSeat}
use Rattle.host_intake.specs.{IntakeEntry, taking_entry, Landing, Taking, is_landing_of, landing_of, landings, maker_of, place_of, requests_of, taking_of, takings, AreLanded, member_at, HasRight}
use Rattle.host_intake.proofs.Admitting.{next_open}
use Rattle.host_log.proofs.Places.{get_last}
use Rattle.host_rings.specs.{Envelope}
use Rattle.host_memory.proofs.Pushed.{filter_map_add, filter_map_skip}
use mathlib.Core.List.{IsPrefix}
use Rattle.host_log.specs.{Adds, Continues, entries_of}
use Rattle.session_client.specs.{Task, IsOwnOpen, IsToDo}
use Rattle.session_client.proofs.Own.{get_front, member_front, own_none, own_same, takings_append}

-- ---- as it is taken

module _ (hand : ℕ) (es fs : List IntakeEntry) (t : Taking) (k : AreLanded (takings es) (landings es)) (next : t.envelope.index ≡ length (takings es)) (by : t.hand ≡ hand) (stays : t.waits ≡ false) (now : fs ≡ es ++ taking_entry t ∷ []) where
  taken_more : takings fs ≡ takings es ++ t ∷ []
  taken_more = ap takings now ∙ filter_map_add taking_of es (taking_entry t) t refl

  landed_same : landings fs ≡ landings es
  landed_same = ap landings now ∙ filter_map_skip landing_of es (taking_entry t) refl

  none : list_any (is_landing_of t.envelope.index) (landings fs) ≡ false
  none = ap (λ (ls : List Landing). list_any (is_landing_of t.envelope.index) ls) landed_same
      ∙ (ap (λ n. list_any (is_landing_of n) (landings es)) next ∙ next_open (takings es) (landings es) k.by_taker)

  pub own_taken : IsOwnOpen hand fs t.envelope t
  own_taken = record {
    at = ap (λ (ts : List Taking). slice_get ts t.envelope.index) taken_more ∙ (ap (λ n. slice_get (takings es ++ t ∷ []) n) next ∙ get_last (takings es) t);
    envelope = refl;
    by = by;
    stays = stays;
    open_still = own_none t.envelope.index hand fs none;
  }

-- ---- as the history goes on

module _ (cells : TableId) (hand : ℕ) (es fs : List IntakeEntry) (grows : IsPrefix es fs) (task : Task) (d : IsToDo cells hand es task) where
  grown : takings fs ≡ takings es ++ takings grows.0
  grown = ap takings (sym grows.1) ∙ takings_append es grows.0

  place : place_of d.taking ≡ task.envelope.index
  place = ap (λ (e : Envelope). e.index) d.own.envelope

  same_member : member_at (requests_of (takings fs)) (place_of d.taking) ≡ member_at (requests_of (takings es)) (place_of d.taking)
  same_member =
      ap (λ (ts : List Taking). member_at (requests_of ts) (place_of d.taking)) grown
      ∙ member_front (takings es) (takings grows.0) (place_of d.taking)
      (subst (λ n. n < length (takings es)) (sym place) (slice_get_within (takings es) task.envelope.index d.taking d.own.at))

  right_still : (right : Option CellSeat) → HasRight cells (takings es) d.taking right → HasRight cells (takings fs) d.taking right
  right_still None h = h
  right_still (Some q) h = (h.0, record { right_of = h.1.right_of; unused = h.1.unused; member = same_member ∙ h.1.member })

  pub still_to_do : list_any (is_landing_of task.envelope.index) (landings (entries_of maker_of hand fs)) ≡ false → IsToDo cells hand fs task
  still_to_do none = record {
    taking = d.taking;
    own = record {
      at = ap (λ (ts : List Taking). slice_get ts task.envelope.index) grown ∙ get_front (takings es) (takings grows.0) task.envelope.index d.taking d.own.at;
      envelope = d.own.envelope;
      by = d.own.by;
      stays = d.own.stays;
      open_still = none;
    };
    right = right_still task.right d.right;
  }

-- others made entries
pub after_others : (cells : TableId) (hand : ℕ) (es fs : List IntakeEntry) → Continues maker_of hand es fs → (task : Task) → IsToDo cells hand es task → IsToDo cells hand fs task
after_others cells hand es fs later task d =
    still_to_do cells hand es fs later.0 task d (ap (λ (xs : List IntakeEntry). list_any (is_landing_of task.envelope.index) (landings xs)) later.1 ∙ d.own.open_still)

-- the hand made entries, none of which is a landing
pub after_taking : (cells : TableId) (hand : ℕ) (es fs : List IntakeEntry) → Adds maker_of hand es fs → landings fs ≡ landings es → (task : Task) → IsToDo cells hand es task → IsToDo cells hand fs task
after_taking cells hand es fs adds same task d =
    still_to_do cells hand es fs (adds.0, sym adds.1) task d (own_same task.envelope.index hand es fs adds.0 adds.1 same d.own.open_still)

-- a hand entered the intake
pub entered_to_do : (cells : TableId) (hand n : ℕ) (es fs story : List IntakeEntry) → n ≡ hand → Continues maker_of n es fs → story ≡ fs → (task : Task) → IsToDo cells hand es task → IsToDo cells hand story task
entered_to_do cells hand n es fs story same later is task d =
    subst (λ (xs : List IntakeEntry). IsToDo cells hand xs task) (sym is) (after_others cells hand es fs (subst (λ m. Continues maker_of m es fs) same later) task d)

-- no record ended as one was taken
pub landings_taken : (es fs : List IntakeEntry) (t : Taking) → fs ≡ es ++ taking_entry t ∷ [] → landings fs ≡ landings es
landings_taken es fs t now = ap landings now ∙ filter_map_skip landing_of es (taking_entry t) refl

-- the same record with another end
pub ended_to_do : (cells : TableId) (hand : ℕ) (es : List IntakeEntry) (task ended : Task) → IsToDo cells hand es task → (ended.envelope ≡ task.envelope) × (ended.right ≡ task.right) → IsToDo cells hand es ended
ended_to_do cells hand es task ended d same = record {
  taking = d.taking;
  own = subst (λ (e : Envelope). IsOwnOpen hand es e d.taking) (sym same.0) d.own;
  right = subst (λ (r : Option CellSeat). HasRight cells (takings es) d.taking r) (sym same.1) d.right;
}
