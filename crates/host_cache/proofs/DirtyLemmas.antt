-- The dirty entries are written one by one, by rising block number.
use Rattle.std.proofs.Common.{◌≡◌, inl, inr, ℕ, ◌+◌, ◌<◌, ◌≤◌, true, false, Option, Some, None, List, ◌++◌, refl, sym, ◌∙◌, ap, subst}
use Rattle.std.proofs.lemmas.List.{map-append}
use Rattle.host_block.specs.{Outcome, done, DiskCall, write}
use Rattle.host_io.specs.declared.disk.Disk as disk
use Rattle.host_cache.specs.Held.{Held}
use Rattle.host_cache.specs.{line_at, is_dirty, dirty_at, dirty_below, write_calls, cleaned_below, cleaned_at, Cleans, WritesDirty, cache_error_outcome, first_dirty, disk_of, shape_of, held_of, Runs, Cache, CacheError, Line}
use Rattle.host_cache.specs.Made.{Made}
use Rattle.host_cache.proofs.EntryLemmas.{Entries}
use Rattle.host_cache.proofs.StepLemmas.{holding}
use Rattle.host_cache.proofs.CleanLemmas.{NoneDirty, dirty_same, dirty_more, cleaned_same, cleaned_step, cleaned_above, cleaned_none}
use Rattle.host_cache.proofs.ListLemmas.{dirty_entry, clean_error}
use Rattle.host_cache.proofs.MadeLemmas.{made_none, made_append, error_not_done}
use Rattle.host_cache.proofs.ScanLemmas.{first_none, first_some}

module _ {D : Type 0} {g : disk.Ghosts D} where
  -- what stands before a further block is written: the dirty entries below `from` are written, and clean
  pub record HasWrittenBelow (from : ℕ) (old m : Cache D g) : Type 0 where
    pub held : held_of m ≡ holding (cleaned_below from (held_of old).lines) (held_of old).victim
    pub made : Made g (write_calls done (dirty_below (held_of old).lines from)) (disk_of old) (disk_of m)

  pub written_none : (old : Cache D g) → HasWrittenBelow 0 old old
  written_none old = record {
    held = sym (ap (λ (l : Entries). holding l (held_of old).victim) (cleaned_none (held_of old).lines));
    made = made_none g (disk_of old);
  }

  module _ (from : ℕ) (old m : Cache D g) (before : HasWrittenBelow from old m) where
    same_above : (k : ℕ) → from ≤ k → line_at (held_of m).lines k ≡ line_at (held_of old).lines k
    same_above k above = ap (λ (h : Held). line_at h.lines k) before.held ∙ cleaned_above (held_of old).lines from k above

    none_before : (n : ℕ) → ((k : ℕ) → from ≤ k → k < n → is_dirty (line_at (held_of m).lines k) ≡ false) → NoneDirty (held_of old).lines from n
    none_before n none k above below = sym (ap (λ (o : Option Line). is_dirty o) (same_above k above)) ∙ none k above below

    calls_to : (b : ℕ) (o : Outcome) → from ≤ b → NoneDirty (held_of old).lines from b
        → write_calls done (dirty_below (held_of old).lines b) ++ write_calls o (dirty_at b (line_at (held_of old).lines b)) ≡ write_calls done (dirty_below (held_of old).lines from) ++ write_calls o (dirty_at b (line_at (held_of m).lines b))
    calls_to b o le none = λ i. write_calls done (dirty_same (held_of old).lines from b le none i) ++ write_calls o (dirty_at b (sym (same_above b le) i))

    more_calls : (b : ℕ) → from ≤ b → NoneDirty (held_of old).lines from b
        → write_calls done (dirty_below (held_of old).lines (b + 1)) ≡ write_calls done (dirty_below (held_of old).lines from) ++ write_calls done (dirty_at b (line_at (held_of m).lines b))
    more_calls b le none =
        ap (λ (ws : List (ℕ × List ℕ)). write_calls done ws) (dirty_more (held_of old).lines b)
        ∙ map-append (λ (w : ℕ × List ℕ). write w.0 w.1 done) (dirty_below (held_of old).lines b) (dirty_at b (line_at (held_of old).lines b))
        ∙ calls_to b done le none

    made_more : (b : ℕ) (o : Outcome) (n : Cache D g) → Runs (Cleans b) m o n → Made g (write_calls done (dirty_below (held_of old).lines from) ++ write_calls o (dirty_at b (line_at (held_of m).lines b))) (disk_of old) (disk_of n)
    made_more b o n runs =
        made_append g (write_calls done (dirty_below (held_of old).lines from)) (write_calls o (dirty_at b (line_at (held_of m).lines b))) (disk_of old) (disk_of m) (disk_of n) before.made
        (subst (λ (cs : List DiskCall). Made g cs (disk_of m) (disk_of n)) runs.ruled.calls_are runs.made)

    -- one more entry is written
    pub written_more : (b : ℕ) (n : Cache D g) → first_dirty from (held_of m).lines ≡ Some b → Runs (Cleans b) m done n → HasWrittenBelow (b + 1) old n
    written_more b n first runs =
        let found = first_some from (held_of m).lines b m.kept.apart first in
        let none = none_before b found.2 in
        record {
          held =
              runs.ruled.leaves
              ∙ ap (λ (h : Held). holding (cleaned_at b h.lines) h.victim) before.held
              ∙ ap (λ (l : Entries). holding l (held_of old).victim) (cleaned_step (held_of old).lines from b old.kept.apart found.0 none);
          made = subst (λ (cs : List DiskCall). Made g cs (disk_of old) (disk_of n)) (sym (more_calls b found.0 none)) (made_more b done n runs);
        }

    -- the write of an entry doesn't succeed
    pub runs_stopped : (b : ℕ) (e : CacheError) (n : Cache D g) → first_dirty from (held_of m).lines ≡ Some b → Runs (Cleans b) m (cache_error_outcome e) n → Runs (WritesDirty (shape_of old).blocks) old (cache_error_outcome e) n
    runs_stopped b e n first runs =
        let o = cache_error_outcome e in
        let lines = (held_of old).lines in
        let found = first_some from (held_of m).lines b m.kept.apart first in
        let none = none_before b found.2 in
        let dirty : is_dirty (line_at lines b) ≡ true = sym (ap (λ (l : Option Line). is_dirty l) (same_above b found.0)) ∙ found.1 in
        let entry = dirty_entry lines b (line_at lines b) refl dirty in
        record {
          calls = write_calls done (dirty_below lines from) ++ write_calls o (dirty_at b (line_at (held_of m).lines b));
          ruled = inr (
            b,
            record {
              within = (old.kept.lines b entry.line entry.at).0;
              dirty = dirty;
              calls_are = sym (calls_to b o found.0 none);
              ended = error_not_done e;
              leaves =
                  runs.ruled.leaves
                  ∙ ap (λ (l : Entries). holding l (held_of m).victim) (clean_error e b (held_of m).lines)
                  ∙ before.held
                  ∙ ap (λ (l : Entries). holding l (held_of old).victim) (sym (cleaned_same lines from b old.kept.apart found.0 none));
            },
          );
          made = made_more b o n runs;
        }

    -- no dirty entry is left
    pub runs_written : from ≤ (shape_of old).blocks → first_dirty from (held_of m).lines ≡ None → Runs (WritesDirty (shape_of old).blocks) old done m
    runs_written within first =
        let lines = (held_of old).lines in
        let blocks = (shape_of old).blocks in
        let none = none_before blocks (λ k above below. first_none from (held_of m).lines first k above) in
        record {
          calls = write_calls done (dirty_below lines from);
          ruled = inl (record {
            calls_are = ap (λ (ws : List (ℕ × List ℕ)). write_calls done ws) (sym (dirty_same lines from blocks within none));
            succeeds = refl;
            leaves = before.held ∙ ap (λ (l : Entries). holding l (held_of old).victim) (sym (cleaned_same lines from blocks old.kept.apart within none));
          });
          made = before.made;
        }

    pub dirty_within : (b : ℕ) → first_dirty from (held_of m).lines ≡ Some b → (from ≤ b) × (b < (shape_of m).blocks) × (is_dirty (line_at (held_of m).lines b) ≡ true)
    dirty_within b first =
        let found = first_some from (held_of m).lines b m.kept.apart first in
        let entry = dirty_entry (held_of m).lines b (line_at (held_of m).lines b) refl found.1 in
        (found.0, (m.kept.lines b entry.line entry.at).0, found.1)
