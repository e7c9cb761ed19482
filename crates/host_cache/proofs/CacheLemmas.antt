-- What a cache keeps when its disk was called.
use Rattle.std.proofs.Common.{◌≡◌, ℕ, ◌<◌, length, arith, Option, Some, List, [], ◌∷◌, IsTrue, sym, ◌∙◌, subst}
use Rattle.host_block.specs.{DiskState, Outcome, DiskCall, read, write, sync, Leads, LeadAll}
use Rattle.host_io.specs.{Shape}
use Rattle.host_io.specs.declared.disk.Disk as disk
use Rattle.host_cache.specs.{victim_writes, after_victim, cached, IsCacheKept, AreClean, held_of, content_of, Cache, Victim}
use Rattle.host_cache.specs.Held.{Held}
use Rattle.host_cache.specs.Made.{Made}
use Rattle.host_cache.proofs.ListLemmas.{clean_synced, content_synced}
use Rattle.host_cache.proofs.StepLemmas.{kept_victim, clean_victim, content_victim}

pub kept_on : (old new : Shape) (held : Held) → new ≡ old → IsCacheKept old.blocks old.size held → IsCacheKept new.blocks new.size held
kept_on old new held same kept = subst (λ (sh : Shape). IsCacheKept sh.blocks sh.size held) (sym same) kept

module _ {D : Type 0} {g : disk.Ghosts D} where
  pub told_before : (calls : List DiskCall) (old new : D) → Made g calls old new → IsTrue (g.shape new).tells → IsTrue (g.shape old).tells
  told_before calls old new made told = subst (λ (sh : Shape). IsTrue sh.tells) made.shape told

  module _ (cache : Cache D g) (new : D) (v : Victim) (bytes : List ℕ) (o : Outcome) (is : cache.victim ≡ Some v) (same : bytes ≡ v.bytes) (made : Made g (write v.block bytes o ∷ []) cache.disk new) where
    victim_lead : IsTrue (g.shape cache.disk).tells → LeadAll (victim_writes cache.victim o) (g.state cache.disk) (g.state new)
    victim_lead told =
        subst (λ (w : Option Victim). LeadAll (victim_writes w o) (g.state cache.disk) (g.state new)) (sym is)
        (subst (λ (x : List ℕ). LeadAll (write v.block x o ∷ []) (g.state cache.disk) (g.state new)) same (made.state told))

    pub kept_written : IsCacheKept (g.shape new).blocks (g.shape new).size (after_victim o (held_of cache))
    kept_written = kept_on (g.shape cache.disk) (g.shape new) (after_victim o (held_of cache)) made.shape (kept_victim (g.shape cache.disk).blocks (g.shape cache.disk).size o (held_of cache) cache.kept)

    pub clean_written : IsTrue (g.shape new).tells → AreClean (g.state new) cache.lines.entries
    clean_written told =
        let before = told_before (write v.block bytes o ∷ []) cache.disk new made told in
        clean_victim o (g.state cache.disk) (g.state new) cache.lines.entries cache.victim (λ w at. (cache.kept.victim w at).1) (victim_lead before) (cache.clean before)

    pub content_written : IsTrue (g.shape cache.disk).tells → (k : ℕ) → cached (after_victim o (held_of cache)) (g.state new) k ≡ content_of cache k
    content_written told k = content_victim o (g.state cache.disk) (g.state new) cache.lines.entries cache.victim (victim_lead told) k

  -- ---- a block that is read

  pub state_read : (old new : D) (b : ℕ) (o : Outcome) → Made g (read b o ∷ []) old new → IsTrue (g.shape old).tells → g.state new ≡ g.state old
  state_read old new b o made told = let lead = made.state told in lead.2 ∙ lead.1

  pub clean_read : (cache : Cache D g) (new : D) (b : ℕ) (o : Outcome) → Made g (read b o ∷ []) cache.disk new → IsTrue (g.shape new).tells → AreClean (g.state new) cache.lines.entries
  clean_read cache new b o made told =
      let before = told_before (read b o ∷ []) cache.disk new made told in
      subst (λ (s : DiskState). AreClean s cache.lines.entries) (sym (state_read cache.disk new b o made before)) (cache.clean before)

  -- ---- a sync

  sync_leads : (old new : D) (o : Outcome) → Made g (sync o ∷ []) old new → IsTrue (g.shape old).tells → Leads (sync o) (g.state old) (g.state new)
  sync_leads old new o made told = let lead = made.state told in subst (λ (u : DiskState). Leads (sync o) (g.state old) u) (sym lead.2) lead.1

  pub clean_sync : (cache : Cache D g) (new : D) (o : Outcome) → ((told : IsTrue (g.shape cache.disk).tells) → length (g.state cache.disk).durable ≡ (g.shape cache.disk).blocks) → Made g (sync o ∷ []) cache.disk new → IsTrue (g.shape new).tells
      → AreClean (g.state new) cache.lines.entries
  clean_sync cache new o count made told =
      let before = told_before (sync o ∷ []) cache.disk new made told in
      clean_synced o (g.state cache.disk) (g.state new) cache.lines.entries (λ b line at. omega (arith, (cache.kept.lines b line at).0, count before)) (sync_leads cache.disk new o made before) (cache.clean before)

  pub content_sync : (cache : Cache D g) (new : D) (o : Outcome) → ((told : IsTrue (g.shape cache.disk).tells) → length (g.state cache.disk).durable ≡ (g.shape cache.disk).blocks) → Made g (sync o ∷ []) cache.disk new → IsTrue (g.shape cache.disk).tells
      → (k : ℕ) → k < (g.shape cache.disk).blocks → cached (held_of cache) (g.state new) k ≡ content_of cache k
  content_sync cache new o count made told k below =
      content_synced o (g.state cache.disk) (g.state new) (held_of cache) k (omega (arith, below, count told)) (sync_leads cache.disk new o made told)
