-- What one more change makes of a history.
use Rattle.std.proofs.Common.{◌≡◌, inl, inr, ℕ, ◌+◌, ◌<◌, Bool, true, false, IsTrue, List, [], ◌∷◌, ◌++◌, length, refl, sym, ◌∙◌, ap, subst, arith}
use Rattle.std.specs.Prelude.{not, ◌&&◌, replicate, if◌then◌else◌}
use Rattle.std.proofs.lemmas.List.{length_push}
use Rattle.std.proofs.lemmas.Option.{slice_get_within}
use Rattle.host_block.specs.{Op, Read, Write, Trim, Flush, DiskState, block_at, Outcome, done, DiskCall, LeadAll, Change, is_read, changes_block, put_by, changed, content, IsLegal, is_barrier, barrier, IsCurrent, Keeps, LeadThrough}
use Rattle.host_block.proofs.ChangeLemmas.{content_earlier, content_push, barrier_push_flush}
use Rattle.host_block.proofs.KeptLemmas.{change_keeps_proof}
use Rattle.host_cache.specs.Held.{Held}
use Rattle.host_cache.specs.{IsFlush, IsHeldOver}
use Rattle.host_cache.proofs.LawLemmas.{read_survives_proof, write_survives_proof, flush_survives_proof, flush_is_kept_proof, last_keeps}
use Rattle.host_device.specs.{IsCacheCall, CrashInsideStep, CrashAfterFlush}
use Rattle.host_device.proofs.CrashLemmas.{crashes_along}
use Rattle.host_log.proofs.Places.{get_snoc}

module _ (image : List (List ℕ)) (history : List Change) where
  pub legal_push : (c : Change) → IsLegal image history → (IsTrue (is_read c.op && not c.faulted) → c.bytes ≡ content image history (length history) c.block) → IsLegal image (history ++ c ∷ [])
  legal_push c legal gives p d at reads =
      elim (get_snoc history c d p at) [
        | inl old ↦ legal p d old reads ∙ sym (content_earlier image history c p d.block (let within = slice_get_within history p d old in omega (arith, within)))
        | inr new ↦
            let here : c.bytes ≡ content image history (length history) c.block = gives (subst (λ (e : Change). IsTrue (is_read e.op && not e.faulted)) (sym new.1) reads) in
            subst (λ (e : Change). e.bytes ≡ content image (history ++ c ∷ []) p e.block) new.1
            (subst (λ (q : ℕ). c.bytes ≡ content image (history ++ c ∷ []) q c.block) (sym new.0)
            (here ∙ sym (content_earlier image history c (length history) c.block (omega arith))))
      ]

  pub current_push : (c : Change) (size : ℕ) (before after : ℕ → List ℕ) → ((b : ℕ) → b < length image → length (block_at image b) ≡ size)
      → IsCurrent image history before → ((b : ℕ) → b < length image → after b ≡ changed size (c ∷ []) b (before b)) → IsCurrent image (history ++ c ∷ []) after
  current_push c size before after sized current made = record {
    each = λ b below.
        made b below
        ∙ ap (λ (bytes : List ℕ). if changes_block c b then put_by size c.op c.bytes else bytes) (current.each b below)
        ∙ ap (λ (n : ℕ). if changes_block c b then put_by n c.op c.bytes else content image history (length history) b) (sym (sized b below))
        ∙ sym (content_push image history c b)
        ∙ ap (λ (n : ℕ). content image (history ++ c ∷ []) n b) (sym (length_push history c));
  }

  pub current_same : (before after : ℕ → List ℕ) → IsCurrent image history before → ((b : ℕ) → b < length image → after b ≡ before b) → IsCurrent image history after
  current_same before after current same = record { each = λ b below. same b below ∙ current.each b below }

  -- ---- the calls of a step

  pub step_survives : (op : Op) (size b : ℕ) (bytes : List ℕ) (old new : Held) (calls : List DiskCall) (outcome : Outcome) (s t : DiskState)
      → IsHeldOver image history size old s → IsCacheCall op (length image) size b bytes old calls outcome new → LeadAll calls s t → LeadThrough (Keeps image history) calls s t
  step_survives Read size b bytes old new calls outcome s t over rule lead = read_survives_proof image b bytes history size old new calls outcome s t over rule lead
  step_survives Write size b bytes old new calls outcome s t over rule lead = write_survives_proof image b bytes history size old new calls outcome s t over rule lead
  step_survives Trim size b bytes old new calls outcome s t over rule lead = write_survives_proof image b (replicate size 0) history size old new calls outcome s t over rule lead
  step_survives Flush size b bytes old new calls outcome s t over rule lead = flush_survives_proof image history size old new calls outcome s t over rule lead

  -- ---- the last state keeps the history with the step's entry

  abbrev change : Op → ℕ → List ℕ → Bool → Change
  change op block entered faulted = record { op = op; block = block; bytes = entered; faulted = faulted }

  other_kept : (op : Op) (size b : ℕ) (bytes : List ℕ) (old new : Held) (calls : List DiskCall) (outcome : Outcome) (s t : DiskState)
      → IsHeldOver image history size old s → IsCacheCall op (length image) size b bytes old calls outcome new → LeadAll calls s t
      → (c : Change) → is_barrier c ≡ false → Keeps image (history ++ c ∷ []) t
  other_kept op size b bytes old new calls outcome s t over rule lead c other =
      change_keeps_proof image history c t (last_keeps image history size calls s t (step_survives op size b bytes old new calls outcome s t over rule lead)) other

  no_barrier : (faulted : Bool) → (not faulted && false) ≡ false
  no_barrier true = refl
  no_barrier false = refl

  flush_kept : (size : ℕ) (old new : Held) (calls : List DiskCall) (outcome : Outcome) (s t : DiskState)
      → IsHeldOver image history size old s → IsFlush (length image) old calls outcome new → LeadAll calls s t → outcome ≡ done
      → (block : ℕ) (entered : List ℕ) → Keeps image (history ++ change Flush block entered false ∷ []) t
  flush_kept size old new calls outcome s t over rule lead is block entered =
      flush_is_kept_proof image history (change Flush block entered false) size old new calls s t over refl (subst (λ (o : Outcome). IsFlush (length image) old calls o new) is rule) lead

  pub step_kept : (op : Op) (size b : ℕ) (bytes : List ℕ) (old new : Held) (calls : List DiskCall) (outcome : Outcome) (s t : DiskState)
      → IsHeldOver image history size old s → IsCacheCall op (length image) size b bytes old calls outcome new → LeadAll calls s t
      → (block : ℕ) (entered : List ℕ) (faulted : Bool) → (faulted ≡ false → outcome ≡ done) → Keeps image (history ++ change op block entered faulted ∷ []) t
  step_kept Read size b bytes old new calls outcome s t over rule lead block entered faulted ended = other_kept Read size b bytes old new calls outcome s t over rule lead (change Read block entered faulted) (no_barrier faulted)
  step_kept Write size b bytes old new calls outcome s t over rule lead block entered faulted ended = other_kept Write size b bytes old new calls outcome s t over rule lead (change Write block entered faulted) (no_barrier faulted)
  step_kept Trim size b bytes old new calls outcome s t over rule lead block entered faulted ended = other_kept Trim size b bytes old new calls outcome s t over rule lead (change Trim block entered faulted) (no_barrier faulted)
  step_kept Flush size b bytes old new calls outcome s t over rule lead block entered true ended = other_kept Flush size b bytes old new calls outcome s t over rule lead (change Flush block entered true) refl
  step_kept Flush size b bytes old new calls outcome s t over rule lead block entered false ended = flush_kept size old new calls outcome s t over rule lead (ended refl) block entered

pub crash_inside_step_proof : CrashInsideStep
crash_inside_step_proof image history op size b bytes old new calls outcome s t over rule lead =
    crashes_along image history calls s t (step_survives image history op size b bytes old new calls outcome s t over rule lead)

pub crash_after_flush_proof : CrashAfterFlush
crash_after_flush_proof image history flush left is_flush crash = record {
  each = λ b below.
      let v = crash.each b below in
      let long = length_push history flush in
      let at_end : barrier (history ++ flush ∷ []) ≡ length history + 1 = barrier_push_flush history flush (grind arith) in
      let last : v.place ≡ length (history ++ flush ∷ []) = omega (arith, v.after_barrier, v.within, at_end, long) in
      v.is ∙ ap (λ (p : ℕ). content image (history ++ flush ∷ []) p b) last;
}
