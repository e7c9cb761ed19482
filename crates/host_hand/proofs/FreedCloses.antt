-- The closes whose last pin was let go of.
use Rattle.std.proofs.Common.{◌≡◌, ℕ, Bool, true, false, List, [], ◌∷◌, ◌++◌, filter_map, Option, Some, None, refl, sym, ap, subst, ◌∙◌, inr, append-nil}
use Rattle.std.specs.List.{All, list_all}
use Rattle.std.proofs.lemmas.List.Elements.{All-nil, All-cons}
use mathlib.Core.List.{IsPrefix}
use Rattle.atomic_table.specs.Seated.{TableId}
use Rattle.host_frames.specs.{SeenPages}
use Rattle.host_model.specs.{MemEntry, Step, count}
use Rattle.host_record.specs.declared.status.Status.TheVariants as status
use Rattle.host_rings.specs.{Slip, SlipSenderState}
use Rattle.host_log.specs.{entries_of, HasAdded, IsReached}
use Rattle.host_intake.specs.{IntakeEntry, Landed, RecordEnd, Landing, landings, maker_of, takings}
use Rattle.host_session.specs.{SessionSpec}
use Rattle.host_hand.specs.{Errand, IsBufferFreed, LandsFreed, slips_pushed, is_begun, HasClosedBuffer, HasReleasedBuffer, IsEndingRecord}
use Rattle.host_hand.proofs.Entered.{is_no_pass, slip_now, taking_longer}

pub slip_now_pushed : (n i : ℕ) (end : RecordEnd) (answer : Option Slip) (kept : Bool) → filter_map slip_now (Landed n i end answer kept ∷ []) ≡ slips_pushed kept answer
slip_now_pushed n i end answer true = refl
slip_now_pushed n i end None false = refl
slip_now_pushed n i end (Some slip) false = refl

pub record FreedClose (spec : SessionSpec) (n : ℕ) (es more last : List IntakeEntry) (h : List MemEntry) (made : List Step) (was pushed : List Slip) : Type 0 where
  pub added : List IntakeEntry
  pub has_added : HasAdded maker_of n added es more
  pub takes : takings added ≡ []
  pub passes : list_all is_no_pass added ≡ true
  pub begins : count is_begun added ≡ 0
  pub endings : All (IsEndingRecord spec.part spec.number n last h made) (landings added)
  pub slips : pushed ≡ was ++ filter_map slip_now added

pub freed_close : (spec : SessionSpec) (n : ℕ) (e : Errand) (pool : TableId × ℕ) (front : ℕ) (freed : Option (ℕ × SeenPages)) (es more last : List IntakeEntry) (h : List MemEntry) (made : List Step) (s s' : SlipSenderState)
    → e.hand ≡ n → IsPrefix more last → IsBufferFreed e pool front h freed → IsReached front h → LandsFreed n front freed es more s s' → FreedClose spec n es more last h made s.pushed s'.pushed
freed_close spec n e pool front None es more last h made s s' by b f reached k = record {
  added = [];
  has_added = record { begins = ([], append-nil es ∙ sym k.0); own = ap (entries_of maker_of n) k.0 ∙ sym (append-nil (entries_of maker_of n es)) };
  takes = refl;
  passes = refl;
  begins = refl;
  endings = All-nil (IsEndingRecord spec.part spec.number n last h made);
  slips = ap (λ (x : SlipSenderState). x.pushed) k.1 ∙ sym (append-nil s.pushed);
}
freed_close spec n e pool front (Some freed) es more last h made s s' by b f reached k =
    let end : RecordEnd = record { outcome = status.Ok; device_front = 0; memory_front = front } in
    let l : Landing = record { hand = n; index = freed.0; end = end; answer = k.answer; kept = k.kept } in
    let closed : HasClosedBuffer n last h l = record {
      waits = taking_longer (λ t. t.waits ≡ true) more last freed.0 b k.waits;
      outcome = refl;
      buffer = e.request.vmoid;
      released = subst (λ m. HasReleasedBuffer m freed.0 e.request.vmoid front h) by f.1;
      device_front = refl;
      memory_reached = reached;
    } in
    record {
      added = Landed n freed.0 end k.answer k.kept ∷ [];
      has_added = k.added;
      takes = refl;
      passes = refl;
      begins = refl;
      endings = All-cons (IsEndingRecord spec.part spec.number n last h made) l [] (inr closed) (All-nil (IsEndingRecord spec.part spec.number n last h made));
      slips = ap (λ (x : SlipSenderState). x.pushed) k.sender ∙ ap (λ m. s.pushed ++ m) (sym (slip_now_pushed n freed.0 end k.answer k.kept));
    }
