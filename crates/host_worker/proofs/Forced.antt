-- A forced write that a hand answered 0 outlives a crash.
use Rattle.std.proofs.Common.{◌≡◌, inl, inr, ℕ, zero, suc, ◌+◌, ◌<◌, ◌==◌, ◌&&◌, Bool, true, false, List, [], ◌∷◌, Option, Some, sym, ap, subst, ◌∙◌}
use Rattle.std.specs.Prelude.{All, MatchOption}
use Rattle.std.specs.List.{slice_get}
use Rattle.std.proofs.lemmas.Bool.{eqb-true}
use Rattle.std.proofs.lemmas.List.Elements.{All-head, All-tail}
use mathlib.Core.List.{IsPrefix}
use Rattle.crash_law.proofs.CarriedOut.{StandSo, forced_kept, in_whole}
use Rattle.crash_law.proofs.Steps.{in_front}
use Rattle.crash_law.specs.Ended.{HasSurvived}
use Rattle.host_block.proofs.Places.{from_filter}
use Rattle.host_hand.specs.Kept.{IsAtSession, own_landings}
use Rattle.host_hand.specs.Records.{HasEnded, IsEndingRecord, steps_for}
use Rattle.host_intake.specs.Entries.{Taking, request_in}
use Rattle.host_intake.specs.declared.entry.IntakeEntry.{IntakeEntry}
use Rattle.host_io.specs.declared.disk.Disk as disk
use Rattle.host_log.specs.History.{entries_of}
use Rattle.host_model.specs.Carrying.{asked, asked_by, carries_out, ended, outcome_of}
use Rattle.host_model.specs.declared.memory.MemEntry.{MemEntry}
use Rattle.host_model.specs.declared.step.Step.{Step}
use Rattle.host_model.proofs.ListTests.{both}
use Rattle.host_record.specs.declared.opcode.Opcode.TheVariants.{Write}
use Rattle.host_rings.specs.declared.slip.Slip.{Slip}
use Rattle.host_session.specs.declared.spec.SessionSpec.{SessionSpec}
use Rattle.host_worker.specs.Forced.{KeepsForcedOfEach, KeepsForcedWrites}
use Rattle.host_worker.specs.Hands.{IsHandOf}
use Rattle.host_worker.specs.declared.hand.Hand.{Hand}
use Rattle.host_worker.specs.declared.server.Server.{Server}

-- one of those of which something holds
one_of_all : {A : Type 0} (P : A → Type 0) (xs : List A) (n : ℕ) (x : A) → All P xs → slice_get xs n ≡ Some x → P x
one_of_all P [] zero x all at = absurd (cc)
one_of_all P [] (suc n) x all at = absurd (cc)
one_of_all P (y ∷ ys) zero x all at = let same : y ≡ x = cc in subst P same (All-head P y ys all)
one_of_all P (y ∷ ys) (suc n) x all at = one_of_all P ys n x (All-tail P y ys all) at

-- ---- the steps of one record stand in the whole history in their order

module _ (n s i : ℕ) (made history : List Step) (begins : IsPrefix made history) where
  abbrev is_own : Step → Bool
  is_own step = step.session == s && step.index == i

  in_history : (p : ℕ) (x : Step) → slice_get made p ≡ Some x → slice_get history p ≡ Some x
  in_history p x at = subst (λ l. slice_get l p ≡ Some x) begins.1 (in_front made begins.0 p x at)

  in_order : (m j : ℕ) (x y : Step) → m < j → slice_get (steps_for n s i made) m ≡ Some x → slice_get (steps_for n s i made) j ≡ Some y → StandSo history x y × ((x.session ≡ s) × (x.index ≡ i))
  in_order m j x y lt at bt =
      let own = in_whole (λ (step : Step). step.session == s && step.index == i) (entries_of (λ (step : Step). step.hand) n made) m j x y lt at bt in
      let all = in_whole (λ (step : Step). step.hand == n) made own.first own.last x y own.before own.first_is own.last_is in
      let named = both (x.session == s) (x.index == i) (from_filter (λ (step : Step). step.session == s && step.index == i) (entries_of (λ (step : Step). step.hand) n made) m x at).2 in (
        record { first = all.first; last = all.last; before = all.before; first_is = in_history all.first x all.first_is; last_is = in_history all.last y all.last_is },
        (eqb-true x.session s named.0, eqb-true x.index i named.1),
      )

-- ---- a hand at a session

module _ (spec : SessionSpec) (n : ℕ) (es : List IntakeEntry) (h : List MemEntry) (made : List Step) (pushed : List Slip) (keeps : IsAtSession spec n es h made pushed) where
  pub kept_at : KeepsForcedWrites spec n es made
  kept_at j l t at is history begins image left crash k lt inside = by (one_of_all (IsEndingRecord spec.part spec.number n es h made) (own_landings n es) j l keeps.endings at)
    where
      -- what it asks for
      asks : asked t.verdict spec.part (request_in t) ≡ asked_by (Some Write) spec.part (request_in t)
      asks = ap (λ v. asked v spec.part (request_in t)) is.accepted ∙ ap (λ o. asked_by o spec.part (request_in t)) is.asks

      same_taking : (u : Taking) → HasEnded spec.part spec.number n es h made l u → u ≡ t
      same_taking u e = let stands = is.stands in let there = e.stands in let both_are : Some u ≡ Some t = sym there ∙ stands in cc

      ended_so : HasEnded spec.part spec.number n es h made l t → HasSurvived image history spec.number l.index (spec.part.first + (request_in t).dev_offset + k) left
      ended_so e =
          forced_kept image left history crash (steps_for n spec.number l.index made) spec.number l.index spec.part (request_in t) (in_order n spec.number l.index made history begins) is.forced
          (ap (λ asks. carries_out asks (steps_for n spec.number l.index made)) (sym asks) ∙ e.carried)
          (ap (λ asks. ended asks (steps_for n spec.number l.index made)) (sym asks) ∙ (sym (e.outcome ∙ ap (λ v. outcome_of v (asked t.verdict spec.part (request_in t)) (steps_for n spec.number l.index made)) is.accepted) ∙ is.ended))
          k lt inside

      by : IsEndingRecord spec.part spec.number n es h made l → HasSurvived image history spec.number l.index (spec.part.first + (request_in t).dev_offset + k) left
      by (inl (u, e)) = ended_so (subst (λ v. HasEnded spec.part spec.number n es h made l v) (same_taking u e) e)
      by (inr closed) =
          let waits : t.waits ≡ true = subst (λ (o : Option Taking). MatchOption o ⊥ (λ u. u.waits ≡ true)) is.stands closed.waits in
          absurd (let z : false ≡ true = sym is.waits ∙ waits in cc)

-- ---- a hand

pub forced_of_each : {D : Type 0} {g : disk.Ghosts D} (server : Server D g) (hand : Hand D g) → IsHandOf server hand → KeepsForcedOfEach server hand
forced_of_each server hand of k s h at bt = let part = of.each k s h at bt in kept_at s.spec hand.number _ _ _ _ part.keeps
