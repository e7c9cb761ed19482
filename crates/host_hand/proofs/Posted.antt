-- Where a hand stands, and what it takes from there.
use Rattle.std.proofs.Common.{◌≡◌, ℕ, List, Some, sym, ap, subst, ◌∙◌}
use Rattle.atomic_table.specs.Seated.{TableId}
use Rattle.host_memory.specs.{MemoryPlan}
use Rattle.host_intake.specs.{IntakeEntry}
use Rattle.host_model.specs.{MemEntry, Step}
use Rattle.host_rings.specs.{Envelope, Slip}
use Rattle.host_turn.specs.{book_id}
use Rattle.host_session.specs.{SessionHand, SessionShared, SessionSpec, IsHand, SessionPlan, intake_plan, memory_plan}
use Rattle.host_session.proofs.Visiting.{seat_still}
use Rattle.host_hand.specs.{Job, IsAtBuffers, IsOfPool, errand_of, HasJob, IsPosted, IsSameHand, IsWork}

pub hand_still : (p : SessionPlan) (n : ℕ) (old new : SessionHand) → IsHand p n old → IsSameHand old new → IsHand p n new
hand_still p n old new k s = record {
  intake = seat_still p.intake (intake_plan p) n old.intake new.intake k.intake s.intake.0 s.intake.1;
  memory = seat_still p.memory (memory_plan p) n old.memory new.memory k.memory s.memory.0 s.memory.1;
  sender = (s.sender.0 ∙ k.sender.0, s.sender.1 ∙ k.sender.1);
}

pub posted_still : (spec : SessionSpec) (n : ℕ) (pool : TableId × ℕ) (shared : SessionShared) (old new : SessionHand) → IsPosted spec n pool shared old → IsSameHand old new → IsPosted spec n pool shared new
posted_still spec n pool shared old new k s = record {
  plan = k.plan;
  spec_is = k.spec_is;
  pool_is = k.pool_is;
  of_session = k.of_session;
  hand_is = hand_still k.plan n old new k.hand_is s;
}

-- its seat at the buffers
pub at_buffers : (spec : SessionSpec) (n : ℕ) (pool : TableId × ℕ) (shared : SessionShared) (hand : SessionHand) → IsPosted spec n pool shared hand → IsAtBuffers (book_id shared.memory) n spec.size hand.memory × IsOfPool pool hand.memory
at_buffers spec n pool shared hand k =
    let seat = k.hand_is.memory in (
      record {
        book_is = seat.book_is ∙ sym k.of_session.books.1;
        outside = seat.outside;
        number_is = seat.number_is;
        size_is = λ plan is. ap (λ (p : MemoryPlan). p.limits.size) (same plan (sym is ∙ seat.plan_is)) ∙ ap (λ (s : SessionSpec). s.size) k.spec_is;
      },
      λ plan is. ap (λ (p : MemoryPlan). p.pool) (same plan (sym is ∙ seat.plan_is)) ∙ k.pool_is,
    )
  where
    same : (plan : MemoryPlan) → Some plan ≡ Some (memory_plan k.plan) → plan ≡ memory_plan k.plan
    same plan e = cc

-- the work of a job
pub job_work : (cells : TableId) (spec : SessionSpec) (pool : TableId × ℕ) (n : ℕ) (es : List IntakeEntry) (h : List MemEntry) (steps : List Step) (slips : List Slip) (job : Job) → HasJob cells spec pool n es h steps slips job → IsWork (errand_of n spec job.envelope) pool h job.work
job_work cells spec pool n es h steps slips job k =
    subst (λ (e : Envelope). IsWork (errand_of n spec e) pool h job.work) k.job_is.envelope
    (subst (λ m. IsWork (errand_of m spec k.taking.envelope) pool h job.work) k.taken.by k.job_is.work_is)
