-- Runs of disk calls, one after the other.
use Rattle.std.proofs.Common.{◌≡◌, ◌≢◌, inl, inr, ℕ, IsTrue, List, [], ◌∷◌, ◌++◌, refl, sym, ◌∙◌, ap, subst, arith}
use Rattle.host_block.specs.{DiskState, Outcome, done, DiskCall, read, write, sync, LeadAll}
use Rattle.host_io.specs.{next_count, Shape, read_counted, write_counted, sync_counted, Counts}
use Rattle.host_io.specs.declared.disk.Disk as disk
use Rattle.host_cache.specs.{Rule, Then, counted, cache_error_outcome, disk_of, held_of, Runs, Cache, CacheError, Disk, Oom}
use Rattle.host_cache.specs.Made.{Made}

pub LeadAll-append : (xs ys : List DiskCall) (s t u : DiskState) → LeadAll xs s t → LeadAll ys t u → LeadAll (xs ++ ys) s u
LeadAll-append [] ys s t u first second = subst (λ (v : DiskState). LeadAll ys v u) first second
LeadAll-append (x ∷ xs) ys s t u first second = (first.0, first.1, LeadAll-append xs ys first.0 t u first.2 second)

counted-append : (xs ys : List DiskCall) (c : Counts) → counted (xs ++ ys) c ≡ counted ys (counted xs c)
counted-append [] ys c = refl
counted-append (read b o ∷ xs) ys c = counted-append xs ys (read_counted c)
counted-append (write b bytes o ∷ xs) ys c = counted-append xs ys (write_counted c)
counted-append (sync o ∷ xs) ys c = counted-append xs ys (sync_counted c)

same_reads : (calls : List DiskCall) (c d : Counts) → c.reads ≡ d.reads → (counted calls c).reads ≡ (counted calls d).reads
same_reads [] c d same = same
same_reads (read b o ∷ calls) c d same = same_reads calls (read_counted c) (read_counted d) (ap (λ (n : ℕ). next_count n) same)
same_reads (write b bytes o ∷ calls) c d same = same_reads calls (write_counted c) (write_counted d) same
same_reads (sync o ∷ calls) c d same = same_reads calls (sync_counted c) (sync_counted d) same

same_writes : (calls : List DiskCall) (c d : Counts) → c.writes ≡ d.writes → (counted calls c).writes ≡ (counted calls d).writes
same_writes [] c d same = same
same_writes (read b o ∷ calls) c d same = same_writes calls (read_counted c) (read_counted d) same
same_writes (write b bytes o ∷ calls) c d same = same_writes calls (write_counted c) (write_counted d) (ap (λ (n : ℕ). next_count n) same)
same_writes (sync o ∷ calls) c d same = same_writes calls (sync_counted c) (sync_counted d) same

same_syncs : (calls : List DiskCall) (c d : Counts) → c.syncs ≡ d.syncs → (counted calls c).syncs ≡ (counted calls d).syncs
same_syncs [] c d same = same
same_syncs (read b o ∷ calls) c d same = same_syncs calls (read_counted c) (read_counted d) same
same_syncs (write b bytes o ∷ calls) c d same = same_syncs calls (write_counted c) (write_counted d) same
same_syncs (sync o ∷ calls) c d same = same_syncs calls (sync_counted c) (sync_counted d) (ap (λ (n : ℕ). next_count n) same)

pub error_not_done : (e : CacheError) → cache_error_outcome e ≢ done
error_not_done Disk is = cc
error_not_done Oom is = cc

module _ {D : Type 0} (g : disk.Ghosts D) where
  pub made_none : (d : D) → Made g [] d d
  made_none d = record {
    shape = refl;
    opening = refl;
    state = λ told. refl;
    reads = refl;
    writes = refl;
    syncs = refl;
    later = omega arith;
    still = λ never. never;
    no_fault = λ never. refl;
  }

  pub made_append : (xs ys : List DiskCall) (a b c : D) → Made g xs a b → Made g ys b c → Made g (xs ++ ys) a c
  made_append xs ys a b c p q = record {
    shape = q.shape ∙ p.shape;
    opening = q.opening ∙ p.opening;
    state = λ told. LeadAll-append xs ys (g.state a) (g.state b) (g.state c) (p.state told) (q.state (subst (λ (sh : Shape). IsTrue sh.tells) (sym p.shape) told));
    reads = q.reads ∙ same_reads ys (g.counts b) (counted xs (g.counts a)) p.reads ∙ sym (ap (λ (n : Counts). n.reads) (counted-append xs ys (g.counts a)));
    writes = q.writes ∙ same_writes ys (g.counts b) (counted xs (g.counts a)) p.writes ∙ sym (ap (λ (n : Counts). n.writes) (counted-append xs ys (g.counts a)));
    syncs = q.syncs ∙ same_syncs ys (g.counts b) (counted xs (g.counts a)) p.syncs ∙ sym (ap (λ (n : Counts). n.syncs) (counted-append xs ys (g.counts a)));
    later = omega (arith, p.later, q.later);
    still = λ never. q.still (p.still never);
    no_fault = λ never. q.no_fault (p.still never) ∙ p.no_fault never;
  }

module _ {D : Type 0} {g : disk.Ghosts D} where
  pub runs_then : (first second : Rule) (o : Outcome) (a m b : Cache D g) → Runs first a done m → Runs second m o b → Runs (Then first second) a o b
  runs_then first second o a m b p q = record {
    calls = p.calls ++ q.calls;
    ruled = inr (record { mid = held_of m; front = p.calls; back = q.calls; first_ran = p.ruled; second_ran = q.ruled; in_order = refl });
    made = made_append g p.calls q.calls (disk_of a) (disk_of m) (disk_of b) p.made q.made;
  }

  pub runs_early : (first second : Rule) (e : CacheError) (a m : Cache D g) → Runs first a (cache_error_outcome e) m → Runs (Then first second) a (cache_error_outcome e) m
  runs_early first second e a m p = record {
    calls = p.calls;
    ruled = inl (record { ran = p.ruled; ended = error_not_done e });
    made = p.made;
  }
