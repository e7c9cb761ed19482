-- What a step keeps of a device.
use Rattle.std.proofs.Common.{◌≡◌, ℕ, ◌<◌, Bool, true, false, IsTrue, Result, Ok, Err, List, [], ◌∷◌, ◌++◌, length, sym, ◌∙◌, subst, arith, append-nil}
use Rattle.std.specs.Prelude.{not, ◌&&◌}
use Rattle.host_block.specs.{Op, Read, Write, Trim, Flush, block_at, done, Change, is_read, IsLegal, IsCurrent, Keeps, LeadThrough}
use Rattle.host_io.specs.declared.disk.Disk as disk
use Rattle.host_cache.specs.{Rule, IsCacheKept, IsHeldOver, disk_of, shape_of, held_of, content_of, Cache}
use Rattle.host_cache.proofs.LawLemmas.{last_keeps}
use Rattle.host_model.specs.{changes_of}
use Rattle.host_device.specs.{StepError, Fault, Oom, CallsCache, HasContentBy, AreGiven, IsCacheCall, IsOnDisk, entry_bytes, step_made, entries_added}
use Rattle.host_device.proofs.HistoryLemmas.{legal_push, current_push, current_same, step_survives, step_kept}

-- a read is of a block of the disk
read_within : (op : Op) (b blocks : ℕ) (more : Bool) → IsTrue (is_read op && more) → IsOnDisk op b blocks → b < blocks
read_within Read b blocks more reads on = on
read_within Write b blocks more reads on = on
read_within Trim b blocks more reads on = on
read_within Flush b blocks more reads on = cc

module _ {D : Type 0} {g : disk.Ghosts D} where
  -- what a device keeps over a disk that tells
  pub record Told (image : List (List ℕ)) (history : List Change) (cache : Cache D g) : Type 0 where
    pub legal : IsLegal image history
    pub current : IsCurrent image history (content_of cache)
    pub keeps : Keeps image history (g.state (disk_of cache))

  pub over_of : (image : List (List ℕ)) (history : List Change) (cache : Cache D g) → IsTrue (shape_of cache).tells → length image ≡ (shape_of cache).blocks
      → Told image history cache → IsHeldOver image history (shape_of cache).size (held_of cache) (g.state (disk_of cache))
  over_of image history cache told blocks facts = record {
    keeps = facts.keeps;
    kept = subst (λ (n : ℕ). IsCacheKept n (shape_of cache).size (held_of cache)) (sym blocks) cache.kept;
    clean = cache.clean told;
    current = facts.current;
  }

  module _ (image : List (List ℕ)) (history : List Change) (op : Op) (b : ℕ) (given : List ℕ) (old new : Cache D g) (told : IsTrue (shape_of old).tells) (blocks : length image ≡ (shape_of old).blocks)
      (sized : (k : ℕ) → k < length image → length (block_at image k) ≡ (shape_of old).size) (on : IsOnDisk op b (shape_of old).blocks) (facts : Told image history old) where
    abbrev rule : ℕ → Rule
    rule n = IsCacheCall op n (shape_of old).size b given

    over : IsHeldOver image history (shape_of old).size (held_of old) (g.state (disk_of old))
    over = over_of image history old told blocks facts

    -- each state along the disk calls keeps the history
    pub along : (answer : Result Unit StepError) (ran : CallsCache (rule (shape_of old).blocks) old answer new) → LeadThrough (Keeps image history) ran.runs.calls (g.state (disk_of old)) (g.state (disk_of new))
    along answer ran =
        step_survives image history op (shape_of old).size b given (held_of old) (held_of new) ran.runs.calls ran.outcome (g.state (disk_of old)) (g.state (disk_of new)) over
        (subst (λ (n : ℕ). rule n (held_of old) ran.runs.calls ran.outcome (held_of new)) (sym blocks) ran.runs.ruled) (ran.runs.made.state told)

    -- with one entry more
    one_told : (answer : Result Unit StepError) (faulted : Bool) (ran : CallsCache (rule (shape_of old).blocks) old answer new) → (faulted ≡ false → ran.outcome ≡ done)
        → (bytes : List ℕ) → AreGiven (record { op = op; block = b; bytes = bytes; faulted = faulted } ∷ []) old → HasContentBy (record { op = op; block = b; bytes = bytes; faulted = faulted } ∷ []) old new
        → Told image (history ++ record { op = op; block = b; bytes = bytes; faulted = faulted } ∷ []) new
    one_told answer faulted ran ended bytes gives content =
        let c : Change = record { op = op; block = b; bytes = bytes; faulted = faulted } in
        record {
          legal = legal_push image history c facts.legal (λ reads.
              gives.0 told reads ∙ facts.current.each b (let within = read_within op b (shape_of old).blocks (not faulted) reads on in omega (arith, within, blocks)));
          current = current_push image history c (shape_of old).size (content_of old) (content_of new) sized facts.current (λ k below. content told k (omega (arith, below, blocks)));
          keeps = step_kept image history op (shape_of old).size b given (held_of old) (held_of new) ran.runs.calls ran.outcome (g.state (disk_of old)) (g.state (disk_of new)) over
              (subst (λ (n : ℕ). rule n (held_of old) ran.runs.calls ran.outcome (held_of new)) (sym blocks) ran.runs.ruled) (ran.runs.made.state told) b bytes faulted ended;
        }

    none_told : (answer : Result Unit StepError) (ran : CallsCache (rule (shape_of old).blocks) old answer new) → HasContentBy [] old new → Told image history new
    none_told answer ran content = record {
      legal = facts.legal;
      current = current_same image history (content_of old) (content_of new) facts.current (λ k below. content told k (omega (arith, below, blocks)));
      keeps = last_keeps image history (shape_of old).size ran.runs.calls (g.state (disk_of old)) (g.state (disk_of new)) (along answer ran);
    }

    pub step_told : (hand session index k : ℕ) (answer : Result Unit StepError) → CallsCache (rule (shape_of old).blocks) old answer new
        → AreGiven (changes_of (entries_added answer (step_made hand session index k op b given))) old
        → HasContentBy (changes_of (entries_added answer (step_made hand session index k op b given))) old new
        → Told image (history ++ changes_of (entries_added answer (step_made hand session index k op b given))) new
    step_told hand session index k (Ok x) ran gives content = one_told (Ok x) false ran (λ is. ran.ended) (entry_bytes op given false) gives content
    step_told hand session index k (Err Fault) ran gives content = one_told (Err Fault) true ran (λ is. let wrong : ◌≡◌ {A = Bool} true false = is in cc) (entry_bytes op given true) gives content
    step_told hand session index k (Err Oom) ran gives content = subst (λ (h : List Change). Told image h new) (sym (append-nil history)) (none_told (Err Oom) ran content)
