-- What calls on the list of a cache keep.
use Rattle.std.proofs.Common.{◌≡◌, ◌≢◌, ◌⊎◌, inl, ℕ, ◌<◌, Bool, true, false, Option, Some, None, Result, Ok, Err, List, [], ◌∷◌, length, refl, sym, ◌∙◌, ap, subst}
use Rattle.std.specs.Prelude.{nat_eq, MatchOption, OnOk, OnErr, if◌then◌else◌}
use Rattle.lru.specs.LruCache.{promoted}
use Rattle.host_block.specs.{DiskState, read_of, Outcome, done, failed, refused, DiskCall, write, sync, Leads, LeadAll}
use Rattle.host_block.proofs.DiskLemmas.{read_of-sync}
use Rattle.host_cache.specs.Held.{Held}
use Rattle.host_cache.specs.{line_at, over_line, over_victim, cached, put_lines, clean_lines, is_dirty, dirty_at, write_calls, Finds, IsBlock, IsCacheKept, AreClean, cache_outcome, cache_error_outcome, CacheError, Disk, Oom, Line, Victim}
use Rattle.host_cache.specs.declared.line.TheConstants.{ENTRIES}
use Rattle.host_cache.proofs.EntryLemmas.{Entries}
use Rattle.host_cache.proofs.LruLemmas.{promoted_found, promoted_absent}
use Rattle.host_cache.proofs.StepLemmas.{holding, kept_put, clean_put, content_found}
use Rattle.host_cache.proofs.CleanLemmas.{kept_cleaned, clean_cleaned, clean_tried, content_tried, content_cleaned}

-- ---- a block that is looked for

kept_moved : (blocks size b : ℕ) (held : Held) (o : Option Line) → line_at held.lines b ≡ o → IsCacheKept blocks size held → held.victim ≡ None → IsCacheKept blocks size (holding (promoted (nat_eq b) held.lines) held.victim)
kept_moved blocks size b held None at kept empty = subst (λ (l : Entries). IsCacheKept blocks size (holding l held.victim)) (sym (promoted_absent held.lines b at)) kept
kept_moved blocks size b held (Some line) at kept empty =
    subst (λ (l : Entries). IsCacheKept blocks size (holding l held.victim)) (sym (promoted_found held.lines b line at))
    (kept_put blocks size b line held kept empty (kept.lines b line at) (inl (λ none. let wrong : Some line ≡ None = sym at ∙ none in cc)))

pub kept_promoted : (blocks size b : ℕ) (held : Held) → IsCacheKept blocks size held → held.victim ≡ None → IsCacheKept blocks size (holding (promoted (nat_eq b) held.lines) held.victim)
kept_promoted blocks size b held kept empty = kept_moved blocks size b held (line_at held.lines b) refl kept empty

clean_moved : (s : DiskState) (b : ℕ) (lines : Entries) (o : Option Line) → line_at lines b ≡ o → AreClean s lines → AreClean s (promoted (nat_eq b) lines)
clean_moved s b lines None at clean = subst (λ (l : Entries). AreClean s l) (sym (promoted_absent lines b at)) clean
clean_moved s b lines (Some line) at clean = subst (λ (l : Entries). AreClean s l) (sym (promoted_found lines b line at)) (clean_put s b line lines (λ is_clean. clean b line at is_clean) clean)

pub clean_promoted : (s : DiskState) (b : ℕ) (lines : Entries) → AreClean s lines → AreClean s (promoted (nat_eq b) lines)
clean_promoted s b lines clean = clean_moved s b lines (line_at lines b) refl clean

content_moved : (s : DiskState) (b : ℕ) (held : Held) (o : Option Line) → line_at held.lines b ≡ o → (k : ℕ) → cached (holding (promoted (nat_eq b) held.lines) held.victim) s k ≡ cached held s k
content_moved s b held None at k = ap (λ (l : Entries). cached (holding l held.victim) s k) (promoted_absent held.lines b at)
content_moved s b held (Some line) at k = ap (λ (l : Entries). cached (holding l held.victim) s k) (promoted_found held.lines b line at) ∙ content_found s b line held at k

pub content_promoted : (s : DiskState) (b : ℕ) (held : Held) (k : ℕ) → cached (holding (promoted (nat_eq b) held.lines) held.victim) s k ≡ cached held s k
content_promoted s b held k = content_moved s b held (line_at held.lines b) refl k

finds_moved : (b : ℕ) (held : Held) (found : Bool) (into : List ℕ) (o : Option Line) → line_at held.lines b ≡ o → MatchOption o (found ≡ false) (λ line. (found ≡ true) × (into ≡ line.bytes))
    → MatchOption o ((found ≡ false) × (holding (promoted (nat_eq b) held.lines) held.victim ≡ held)) (λ line. (found ≡ true) × Finds b into line held [] done (holding (promoted (nat_eq b) held.lines) held.victim))
finds_moved b held found into None at m = (m, ap (λ (l : Entries). holding l held.victim) (promoted_absent held.lines b at))
finds_moved b held found into (Some line) at m =
    (m.0, record { calls_are = refl; succeeds = refl; bytes = m.1; leaves = ap (λ (l : Entries). holding l held.victim) (promoted_found held.lines b line at) })

pub finds_promoted : (b : ℕ) (held : Held) (found : Bool) (into : List ℕ) → MatchOption (line_at held.lines b) (found ≡ false) (λ line. (found ≡ true) × (into ≡ line.bytes))
    → MatchOption (line_at held.lines b) ((found ≡ false) × (holding (promoted (nat_eq b) held.lines) held.victim ≡ held)) (λ line. (found ≡ true) × Finds b into line held [] done (holding (promoted (nat_eq b) held.lines) held.victim))
finds_promoted b held found into m = finds_moved b held found into (line_at held.lines b) refl m

-- ---- an entry that is put

pub kept_put_lines : (o : Outcome) (blocks size b : ℕ) (line : Line) (held : Held) → IsCacheKept blocks size held → held.victim ≡ None → IsBlock blocks size b line.bytes → (line_at held.lines b ≢ None) ⊎ (length held.lines < ENTRIES)
    → IsCacheKept blocks size (holding (put_lines o b line held.lines) held.victim)
kept_put_lines done blocks size b line held kept empty is_block room = kept_put blocks size b line held kept empty is_block room
kept_put_lines failed blocks size b line held kept empty is_block room = kept
kept_put_lines refused blocks size b line held kept empty is_block room = kept

pub clean_put_lines : (o : Outcome) (s : DiskState) (b : ℕ) (line : Line) (lines : Entries) → (line.dirty ≡ false → line.bytes ≡ read_of s b) → AreClean s lines → AreClean s (put_lines o b line lines)
clean_put_lines done s b line lines new clean = clean_put s b line lines new clean
clean_put_lines failed s b line lines new clean = clean
clean_put_lines refused s b line lines new clean = clean

pub put_error : (e : CacheError) (b : ℕ) (line : Line) (lines : Entries) → put_lines (cache_error_outcome e) b line lines ≡ lines
put_error Disk b line lines = refl
put_error Oom b line lines = refl

pub not_failed : (r : Result Unit CacheError) → r ≢ Err Disk → cache_outcome r ≢ failed
not_failed (Ok x) other is = cc
not_failed (Err Disk) other is = other refl
not_failed (Err Oom) other is = cc

-- ---- by how a call ended

pub on_ok : (r : Result Unit CacheError) (P : Type 0) → (cache_outcome r ≡ done → P) → OnOk r P
on_ok (Ok x) P f = f refl
on_ok (Err e) P f = tt

pub on_err : (r : Result Unit CacheError) (P : Type 0) → ((e : CacheError) → cache_outcome r ≡ cache_error_outcome e → P) → OnErr r P
on_err (Ok x) P f = tt
on_err (Err e) P f = f e refl

-- ---- an entry that is written

pub record IsDirtyAt (lines : Entries) (b : ℕ) : Type 0 where
  pub line : Line
  pub at : line_at lines b ≡ Some line
  pub dirty : line.dirty ≡ true

pub dirty_entry : (lines : Entries) (b : ℕ) (o : Option Line) → line_at lines b ≡ o → is_dirty o ≡ true → IsDirtyAt lines b
dirty_entry lines b None at is = cc
dirty_entry lines b (Some line) at is = record { line = line; at = at; dirty = is }

dirty_write : (o : Outcome) (lines : Entries) (b : ℕ) (entry : IsDirtyAt lines b) → write_calls o (dirty_at b (line_at lines b)) ≡ write b entry.line.bytes o ∷ []
dirty_write o lines b entry =
    ap (λ (l : Option Line). write_calls o (dirty_at b l)) entry.at
    ∙ ap (λ (d : Bool). write_calls o (if d then (b, entry.line.bytes) ∷ [] else [])) entry.dirty

dirty_leads : (o : Outcome) (lines : Entries) (b : ℕ) (entry : IsDirtyAt lines b) (s t : DiskState) → LeadAll (write_calls o (dirty_at b (line_at lines b))) s t → Leads (write b entry.line.bytes o) s t
dirty_leads o lines b entry s t lead =
    let one : LeadAll (write b entry.line.bytes o ∷ []) s t = subst (λ (cs : List DiskCall). LeadAll cs s t) (dirty_write o lines b entry) lead in
    subst (λ (u : DiskState). Leads (write b entry.line.bytes o) s u) (sym one.2) one.1

pub kept_clean_lines : (o : Outcome) (blocks size b : ℕ) (lines : Entries) (victim : Option Victim) → IsCacheKept blocks size (holding lines victim) → IsCacheKept blocks size (holding (clean_lines o b lines) victim)
kept_clean_lines done blocks size b lines victim kept = kept_cleaned blocks size b lines victim kept
kept_clean_lines failed blocks size b lines victim kept = kept
kept_clean_lines refused blocks size b lines victim kept = kept

clean_by : (o : Outcome) (s t : DiskState) (lines : Entries) (b : ℕ) (line : Line) → line_at lines b ≡ Some line → line.dirty ≡ true → Leads (write b line.bytes o) s t → AreClean s lines → AreClean t (clean_lines o b lines)
clean_by done s t lines b line at dirty leads clean = clean_cleaned s t lines b line at leads clean
clean_by failed s t lines b line at dirty leads clean = clean_tried failed s t lines b line at dirty leads clean
clean_by refused s t lines b line at dirty leads clean = clean_tried refused s t lines b line at dirty leads clean

pub clean_clean_lines : (o : Outcome) (s t : DiskState) (lines : Entries) (b : ℕ) → is_dirty (line_at lines b) ≡ true → LeadAll (write_calls o (dirty_at b (line_at lines b))) s t → AreClean s lines → AreClean t (clean_lines o b lines)
clean_clean_lines o s t lines b is lead clean =
    let entry = dirty_entry lines b (line_at lines b) refl is in
    clean_by o s t lines b entry.line entry.at entry.dirty (dirty_leads o lines b entry s t lead) clean

lines_content : (o : Outcome) (t : DiskState) (lines : Entries) (victim : Option Victim) (b k : ℕ) → cached (holding (clean_lines o b lines) victim) t k ≡ cached (holding lines victim) t k
lines_content done t lines victim b k = content_cleaned t lines victim b k
lines_content failed t lines victim b k = refl
lines_content refused t lines victim b k = refl

pub content_clean_lines : (o : Outcome) (s t : DiskState) (lines : Entries) (victim : Option Victim) (b : ℕ) → is_dirty (line_at lines b) ≡ true → LeadAll (write_calls o (dirty_at b (line_at lines b))) s t → (k : ℕ)
    → cached (holding (clean_lines o b lines) victim) t k ≡ cached (holding lines victim) s k
content_clean_lines o s t lines victim b is lead k =
    let entry = dirty_entry lines b (line_at lines b) refl is in
    lines_content o t lines victim b k ∙ content_tried o s t lines victim b entry.line entry.at (dirty_leads o lines b entry s t lead) k

-- ---- a sync

pub clean_synced : (o : Outcome) (s t : DiskState) (lines : Entries) → ((b : ℕ) (line : Line) → line_at lines b ≡ Some line → b < length s.durable) → Leads (sync o) s t → AreClean s lines → AreClean t lines
clean_synced o s t lines within leads clean b line at is_clean = clean b line at is_clean ∙ sym (read_of-sync o s t b (within b line at) leads)

pub content_synced : (o : Outcome) (s t : DiskState) (held : Held) (k : ℕ) → k < length s.durable → Leads (sync o) s t → cached held t k ≡ cached held s k
content_synced o s t held k within leads = ap (λ (bytes : List ℕ). over_line (line_at held.lines k) (over_victim held.victim k bytes)) (read_of-sync o s t k within leads)

pub clean_error : (e : CacheError) (b : ℕ) (lines : Entries) → clean_lines (cache_error_outcome e) b lines ≡ lines
clean_error Disk b lines = refl
clean_error Oom b lines = refl
