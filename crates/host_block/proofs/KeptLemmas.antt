-- The laws on states that keep a history.
use Rattle.std.proofs.Common.{◌≡◌, inl, inr, ⊎_elim, ℕ, ◌+◌, ◌<◌, Bool, true, List, [], ◌∷◌, ◌++◌, length, take, sym, ◌∙◌, ap, subst, arith}
use Rattle.std.specs.Prelude.{Contains, cond}
use Rattle.std.proofs.lemmas.List.{length_push}
use Rattle.std.proofs.lemmas.List.Elements.{Contains-push_cases}
use Rattle.host_block.specs.{DiskState, block_at, overwritten, settled, read_of, added, part_synced, synced, IsCandidate, read, write, sync, done, failed, refused, Change, content, is_barrier, barrier, put_by, IsVersion, Keeps, WrittenReads, SyncedIsDurable, RunKeeps, CallKeeps, FlushKeeps, ChangeKeeps, CrashOfKept, CrashInsideCall}
use Rattle.host_block.proofs.DiskLemmas.{read_of-added, read_of-synced, length-settled, block_at-settled, overwritten_cases, Contains-take, Contains-drop}
use Rattle.host_block.proofs.ChangeLemmas.{barrier_le, barrier_push_flush, barrier_push_other, content_earlier, content_push, barrier_changes}

pub written_reads_proof : WrittenReads
written_reads_proof old new a b bytes leads = ap (λ (s : DiskState). read_of s b) leads ∙ read_of-added old a b bytes

pub synced_is_durable_proof : SyncedIsDurable
synced_is_durable_proof old new b within leads = (ap (λ (s : DiskState). block_at s.durable b) leads ∙ read_of-synced old b within, ap (λ (s : DiskState). s.pending) leads)

-- writes that have reached the disk give no block anything new
settled_candidate : (s : DiskState) (ws : List (ℕ × List ℕ)) (b : ℕ) (bytes : List ℕ) → b < length s.durable → ((x : ℕ × List ℕ) → Contains ws x → Contains s.pending x)
    → bytes ≡ block_at (settled s.durable ws) b → IsCandidate s b bytes
settled_candidate s ws b bytes within among is =
    let whole : bytes ≡ overwritten ws b (block_at s.durable b) = is ∙ block_at-settled ws s.durable b within in
    ⊎_elim (λ stays. inl (whole ∙ stays)) (λ there. inr (subst (λ (x : List ℕ). Contains s.pending (b, x)) (sym whole) (among _ there))) (overwritten_cases ws b (block_at s.durable b))

kept_by_fewer : (image : List (List ℕ)) (history : List Change) (old new : DiskState) → Keeps image history old → length new.durable ≡ length old.durable
    → ((b : ℕ) (bytes : List ℕ) → b < length old.durable → IsCandidate new b bytes → IsCandidate old b bytes) → Keeps image history new
kept_by_fewer image history old new keeps long fewer = record {
  blocks = long ∙ keeps.blocks;
  each = λ b bytes within candidate. keeps.each b bytes within (fewer b bytes (omega (arith, within, keeps.blocks)) candidate);
}

part_synced_keeps : (image : List (List ℕ)) (history : List Change) (s : DiskState) (n : ℕ) → Keeps image history s → Keeps image history (part_synced s n)
part_synced_keeps image history s n keeps =
    kept_by_fewer image history s (part_synced s n) keeps (length-settled (take n s.pending) s.durable) (λ b bytes within candidate.
    ⊎_elim
    (λ is. settled_candidate s (take n s.pending) b bytes within (Contains-take n s.pending) is)
    (λ there. inr (Contains-drop n s.pending (b, bytes) there)) candidate)

synced_keeps : (image : List (List ℕ)) (history : List Change) (s : DiskState) → Keeps image history s → Keeps image history (synced s)
synced_keeps image history s keeps =
    kept_by_fewer image history s (synced s) keeps (length-settled s.pending s.durable) (λ b bytes within candidate.
    ⊎_elim
    (λ is. settled_candidate s s.pending b bytes within (λ x had. had) is)
    (λ there. absurd (omega (arith, there.1))) candidate)

current_version : (image : List (List ℕ)) (history : List Change) (b : ℕ) (bytes : List ℕ) → bytes ≡ content image history (length history) b → IsVersion image history b bytes
current_version image history b bytes is = record { place = length history; after_barrier = barrier_le history; within = omega arith; is = is }

added_keeps : (image : List (List ℕ)) (history : List Change) (s : DiskState) (b : ℕ) (bytes : List ℕ) → Keeps image history s → bytes ≡ content image history (length history) b → Keeps image history (added s b bytes)
added_keeps image history s b bytes keeps is = record {
  blocks = keeps.blocks;
  each = λ k x within candidate.
      ⊎_elim
      (λ stays. keeps.each k x within (inl stays))
      (λ there. ⊎_elim
      (λ had. keeps.each k x within (inr had))
      (λ (new : (b, bytes) ≡ (k, x)).
      current_version image history k x (sym (ap (λ (p : ℕ × List ℕ). p.1) new) ∙ is ∙ ap (λ (p : ℕ × List ℕ). content image history (length history) p.0) new))
      (Contains-push_cases s.pending (b, bytes) (k, x) there)) candidate;
}

moved : (image : List (List ℕ)) (history : List Change) (old new : DiskState) → new ≡ old → Keeps image history old → Keeps image history new
moved image history old new same keeps = subst (λ (s : DiskState). Keeps image history s) (sym same) keeps

pub call_keeps_proof : CallKeeps
call_keeps_proof image history (read b outcome) old new keeps faithful leads = moved image history old new leads keeps
call_keeps_proof image history (write b bytes done) old new keeps faithful leads = moved image history (added old b bytes) new leads (added_keeps image history old b bytes keeps faithful.1)
call_keeps_proof image history (write b bytes failed) old new keeps faithful (inl same) = moved image history old new same keeps
call_keeps_proof image history (write b bytes failed) old new keeps faithful (inr more) = moved image history (added old b bytes) new more (added_keeps image history old b bytes keeps faithful.1)
call_keeps_proof image history (write b bytes refused) old new keeps faithful leads = moved image history old new leads keeps
call_keeps_proof image history (sync done) old new keeps faithful leads = moved image history (synced old) new leads (synced_keeps image history old keeps)
call_keeps_proof image history (sync failed) old new keeps faithful leads = moved image history (part_synced old leads.0) new leads.1 (part_synced_keeps image history old leads.0 keeps)
call_keeps_proof image history (sync refused) old new keeps faithful leads = moved image history old new leads keeps

pub run_keeps_proof : RunKeeps
run_keeps_proof image history [] old new keeps faithful lead = (keeps, lead)
run_keeps_proof image history (call ∷ calls) old new keeps faithful lead =
    (keeps, (lead.0, lead.1, run_keeps_proof image history calls lead.0 new (call_keeps_proof image history call old lead.0 keeps faithful.0 lead.1) faithful.1 lead.2))

pub flush_keeps_proof : FlushKeeps
flush_keeps_proof image history flush old new keeps current is_flush leads =
    let barrier_is : is_barrier flush ≡ true = grind arith in
    let at_end : barrier (history ++ flush ∷ []) ≡ length history + 1 = barrier_push_flush history flush barrier_is in
    moved image (history ++ flush ∷ []) (synced old) new leads (record {
      blocks = length-settled old.pending old.durable ∙ keeps.blocks;
      each = λ b bytes within candidate. ⊎_elim
          (λ (is : bytes ≡ block_at (settled old.durable old.pending) b).
          let now : bytes ≡ content image history (length history) b = is ∙ block_at-settled old.pending old.durable b (omega (arith, within, keeps.blocks)) ∙ current.each b within in
          let then : content image (history ++ flush ∷ []) (length history + 1) b ≡ content image history (length history) b =
          content_push image history flush b ∙ ap (λ (t : Bool). cond t (put_by (length (block_at image b)) flush.op flush.bytes) (content image history (length history) b)) (barrier_changes flush b barrier_is) in
          record { place = length history + 1; after_barrier = omega (arith, at_end); within = omega (arith, length_push history flush); is = now ∙ sym then })
          (λ there. absurd (omega (arith, there.1))) candidate;
    })

pub change_keeps_proof : ChangeKeeps
change_keeps_proof image history change s keeps other = record {
  blocks = keeps.blocks;
  each = λ b bytes within candidate.
      let v = keeps.each b bytes within candidate in
      record {
        place = v.place;
        after_barrier = omega (arith, v.after_barrier, barrier_push_other history change other);
        within = omega (arith, v.within, length_push history change);
        is = v.is ∙ sym (content_earlier image history change v.place b v.within);
      };
}

crash_of_kept_proof : CrashOfKept
crash_of_kept_proof image history s left keeps crash = record {
  blocks = crash.blocks ∙ keeps.blocks;
  each = λ b within. keeps.each b (block_at left b) within (crash.each b (omega (arith, within, keeps.blocks)));
}

pub crash_inside_call_proof : CrashInsideCall
crash_inside_call_proof image history call old new left keeps faithful leads (inl before) = crash_of_kept_proof image history old left keeps before
crash_inside_call_proof image history call old new left keeps faithful leads (inr after) = crash_of_kept_proof image history new left (call_keeps_proof image history call old new keeps faithful leads) after
