-- What the steps of a cache keep, and what they leave of the content.
use Rattle.std.proofs.Common.{◌≡◌, ◌≢◌, ◌⊎◌, inl, inr, ⊎_elim, ℕ, ◌-◌, ◌<◌, ◌≤◌, Bool, true, false, Option, Some, None, List, [], ◌∷◌, ◌++◌, length, length-append, take, refl, sym, ◌∙◌, ap, subst, arith}
use Rattle.std.specs.Prelude.{cond, slice_get, if◌then◌else◌, ◌==◌}
use Rattle.std.proofs.lemmas.Bool.{cases_eq, eq-eqb}
use Rattle.std.proofs.lemmas.Bool.Decides.{nat_tests}
use Rattle.host_block.specs.{DiskState, read_of, Outcome, done, failed, refused, write, Leads, LeadAll}
use Rattle.host_block.proofs.DiskLemmas.{read_of-added, put_here, put_elsewhere}
use Rattle.host_cache.specs.Held.{Held}
use Rattle.host_cache.specs.{line_at, over_line, over_victim, cached, in_front, victim_writes, after_victim, victim_from, with_room, cache_error_outcome, CacheError, Disk, Oom, AreApart, IsBlock, IsCacheKept, AreClean, Line, Victim}
use Rattle.host_cache.specs.declared.line.TheConstants.{ENTRIES}
use Rattle.host_cache.proofs.EntryLemmas.{Entries, front_here, front_other, apart_front, length_front_found, length_front_absent, push_other, push_here, front_none, apart_pushed, split_last, IsSplit}

-- ---- one write on the disk

-- it leaves, however it ends, what reads of other blocks give
pub read_other : (o : Outcome) (s t : DiskState) (b k : ℕ) (bytes : List ℕ) → b ≢ k → Leads (write b bytes o) s t → read_of t k ≡ read_of s k
read_other done s t b k bytes other leads = ap (λ (u : DiskState). read_of u k) leads ∙ read_of-added s b k bytes ∙ put_elsewhere b k bytes (read_of s k) other
read_other failed s t b k bytes other (inl same) = ap (λ (u : DiskState). read_of u k) same
read_other failed s t b k bytes other (inr more) = ap (λ (u : DiskState). read_of u k) more ∙ read_of-added s b k bytes ∙ put_elsewhere b k bytes (read_of s k) other
read_other refused s t b k bytes other leads = ap (λ (u : DiskState). read_of u k) leads

pub read_same : (s t : DiskState) (b : ℕ) (bytes : List ℕ) → Leads (write b bytes done) s t → read_of t b ≡ bytes
read_same s t b bytes leads = ap (λ (u : DiskState). read_of u b) leads ∙ read_of-added s b b bytes ∙ put_here b b bytes (read_of s b) refl

-- ---- the victim is written

pub kept_victim : (blocks size : ℕ) (o : Outcome) (held : Held) → IsCacheKept blocks size held → IsCacheKept blocks size (after_victim o held)
kept_victim blocks size done held kept = record { apart = kept.apart; room = kept.room; lines = kept.lines; victim = λ v is. cc }
kept_victim blocks size failed held kept = kept
kept_victim blocks size refused held kept = kept

clean_written : (o : Outcome) (s t : DiskState) (lines : Entries) (v : Victim) → line_at lines v.block ≡ None → Leads (write v.block v.bytes o) s t → AreClean s lines → AreClean t lines
clean_written o s t lines v absent leads clean b line at is_clean = elim (cases_eq v.block b) [
  | inl same ↦ let wrong : Some line ≡ None = sym at ∙ ap (λ (k : ℕ). line_at lines k) (sym same) ∙ absent in cc
  | inr other ↦ clean b line at is_clean ∙ sym (read_other o s t v.block b v.bytes other leads)
]

pub clean_victim : (o : Outcome) (s t : DiskState) (lines : Entries) (victim : Option Victim) → ((v : Victim) → victim ≡ Some v → line_at lines v.block ≡ None) → LeadAll (victim_writes victim o) s t → AreClean s lines → AreClean t lines
clean_victim o s t lines None absent lead clean = subst (λ (u : DiskState). AreClean u lines) (sym lead) clean
clean_victim o s t lines (Some v) absent lead clean =
    subst (λ (u : DiskState). AreClean u lines) (sym lead.2) (clean_written o s lead.0 lines v (absent v refl) lead.1 clean)

abbrev pub holding : Entries → Option Victim → Held
holding lines victim = record { lines = lines; victim = victim }

pub after_error : (e : CacheError) (held : Held) → after_victim (cache_error_outcome e) held ≡ held
after_error Disk held = refl
after_error Oom held = refl

-- the content stays, whatever the write makes of the victim
victim_read : (s t : DiskState) (lines : Entries) (v : Victim) (k : ℕ) → Leads (write v.block v.bytes done) s t → cached (holding lines None) t k ≡ cached (holding lines (Some v)) s k
victim_read s t lines v k leads = ap (λ (bytes : List ℕ). over_line (line_at lines k) bytes) (ap (λ (u : DiskState). read_of u k) leads ∙ read_of-added s v.block k v.bytes)

victim_over : (o : Outcome) (s t : DiskState) (lines : Entries) (v : Victim) (k : ℕ) → Leads (write v.block v.bytes o) s t → cached (holding lines (Some v)) t k ≡ cached (holding lines (Some v)) s k
victim_over o s t lines v k leads = ap (λ (bytes : List ℕ). over_line (line_at lines k) bytes) (elim (cases_eq v.block k) [
  | inl same ↦ put_here v.block k v.bytes (read_of t k) same ∙ sym (put_here v.block k v.bytes (read_of s k) same)
  | inr other ↦ ap (λ (bytes : List ℕ). if v.block == k then v.bytes else bytes) (read_other o s t v.block k v.bytes other leads)
])

pub content_victim : (o : Outcome) (s t : DiskState) (lines : Entries) (victim : Option Victim) → LeadAll (victim_writes victim o) s t → (k : ℕ) → cached (after_victim o (holding lines victim)) t k ≡ cached (holding lines victim) s k
content_victim done s t lines None lead k = ap (λ (u : DiskState). cached (holding lines None) u k) lead
content_victim failed s t lines None lead k = ap (λ (u : DiskState). cached (holding lines None) u k) lead
content_victim refused s t lines None lead k = ap (λ (u : DiskState). cached (holding lines None) u k) lead
content_victim done s t lines (Some v) lead k = ap (λ (u : DiskState). cached (holding lines None) u k) lead.2 ∙ victim_read s lead.0 lines v k lead.1
content_victim failed s t lines (Some v) lead k = ap (λ (u : DiskState). cached (holding lines (Some v)) u k) lead.2 ∙ victim_over failed s lead.0 lines v k lead.1
content_victim refused s t lines (Some v) lead k = ap (λ (u : DiskState). cached (holding lines (Some v)) u k) lead.2 ∙ victim_over refused s lead.0 lines v k lead.1

-- ---- the last entry leaves a full list

abbrev shortened : Held → Held
shortened held = record { lines = take (length held.lines - 1) held.lines; victim = victim_from (slice_get held.lines (length held.lines - 1)) }

pub room_full : (held : Held) → length held.lines ≡ ENTRIES → with_room held ≡ shortened held
room_full held full = ap (λ (t : Bool). cond t (shortened held) held) (eq-eqb (length held.lines) ENTRIES full)

pub room_free : (held : Held) → length held.lines ≢ ENTRIES → with_room held ≡ held
room_free held free =
    let not : (length held.lines == ENTRIES) ≡ false = grind (arith, nat_tests) in
    ap (λ (t : Bool). cond t (shortened held) held) not

-- the entries before the last one stand in the whole list too
was_there : (es front : Entries) (last : ℕ × Line) → es ≡ front ++ last ∷ [] → AreApart es → (b : ℕ) (line : Line) → line_at front b ≡ Some line → line_at es b ≡ Some line
was_there es front last whole apart b line at = elim (cases_eq last.0 b) [
  | inl same ↦
      let none = (push_here front last (subst (λ (l : Entries). AreApart l) whole apart)).0 in
      let wrong : Some line ≡ None = sym at ∙ ap (λ (k : ℕ). line_at front k) (sym same) ∙ none in
      cc
  | inr other ↦ ap (λ (l : Entries). line_at l b) whole ∙ push_other front last b other ∙ at
]

last_there : (es front : Entries) (last : ℕ × Line) → es ≡ front ++ last ∷ [] → AreApart es → line_at es last.0 ≡ Some last.1
last_there es front last whole apart = ap (λ (l : Entries). line_at l last.0) whole ∙ (push_here front last (subst (λ (l : Entries). AreApart l) whole apart)).1

evicted_victim : (blocks size : ℕ) (front : Entries) (last : ℕ × Line) (v : Victim) → IsBlock blocks size last.0 last.1.bytes → line_at front last.0 ≡ None
    → (d : Bool) → (if d then Some (record { block = last.0; bytes = last.1.bytes }) else None) ≡ Some v → IsBlock blocks size v.block v.bytes × (line_at front v.block ≡ None)
evicted_victim blocks size front last v is_block absent true is =
    let same : record { block = last.0; bytes = last.1.bytes } ≡ v = cc in
    subst (λ (w : Victim). IsBlock blocks size w.block w.bytes × (line_at front w.block ≡ None)) same (is_block, absent)
evicted_victim blocks size front last v is_block absent false is = cc

kept_evicted : (blocks size : ℕ) (held : Held) (front : Entries) (last : ℕ × Line) → held.lines ≡ front ++ last ∷ [] → IsCacheKept blocks size held → IsCacheKept blocks size (holding front (victim_from (Some last)))
kept_evicted blocks size held front last whole kept =
    let apart : AreApart (front ++ last ∷ []) = subst (λ (l : Entries). AreApart l) whole kept.apart in
    let long : length held.lines ≡ length (front ++ last ∷ []) = ap (λ (l : Entries). length l) whole in
    record {
      apart = apart_pushed front last apart;
      room = omega (arith, kept.room, long, length-append front (last ∷ []));
      lines = λ b line at. kept.lines b line (was_there held.lines front last whole kept.apart b line at);
      victim = λ v is. evicted_victim blocks size front last v (kept.lines last.0 last.1 (last_there held.lines front last whole kept.apart)) (push_here front last apart).0 last.1.dirty is;
    }

over_evicted : (s : DiskState) (last : ℕ × Line) → (last.1.dirty ≡ false → last.1.bytes ≡ read_of s last.0) → (d : Bool) → last.1.dirty ≡ d
    → over_victim (if d then Some (record { block = last.0; bytes = last.1.bytes }) else None) last.0 (read_of s last.0) ≡ last.1.bytes
over_evicted s last clean true is = put_here last.0 last.0 last.1.bytes (read_of s last.0) refl
over_evicted s last clean false is = sym (clean is)

past_evicted : (s : DiskState) (last : ℕ × Line) (k : ℕ) → last.0 ≢ k → (d : Bool)
    → over_victim (if d then Some (record { block = last.0; bytes = last.1.bytes }) else None) k (read_of s k) ≡ read_of s k
past_evicted s last k other true = put_elsewhere last.0 k last.1.bytes (read_of s k) other
past_evicted s last k other false = refl

content_evicted : (s : DiskState) (lines front : Entries) (last : ℕ × Line) → lines ≡ front ++ last ∷ [] → AreApart lines → AreClean s lines → (k : ℕ) → cached (holding front (victim_from (Some last))) s k ≡ cached (holding lines None) s k
content_evicted s lines front last whole apart clean k =
    let parts = push_here front last (subst (λ (l : Entries). AreApart l) whole apart) in
    let there = last_there lines front last whole apart in
    elim (cases_eq last.0 k) [
      | inl same ↦ subst (λ (j : ℕ). cached (holding front (victim_from (Some last))) s j ≡ cached (holding lines None) s j) same
          (ap (λ (o : Option Line). over_line o (over_victim (victim_from (Some last)) last.0 (read_of s last.0))) parts.0
          ∙ over_evicted s last (clean last.0 last.1 there) last.1.dirty refl
          ∙ sym (ap (λ (o : Option Line). over_line o (read_of s last.0)) there))
      | inr other ↦
          ap (λ (bytes : List ℕ). over_line (line_at front k) bytes) (past_evicted s last k other last.1.dirty)
          ∙ ap (λ (o : Option Line). over_line o (read_of s k)) (sym (push_other front last k other) ∙ ap (λ (l : Entries). line_at l k) (sym whole))
    ]

-- what a full list is without its last entry
split_full : (held : Held) → length held.lines ≡ ENTRIES → IsSplit (length held.lines - 1) held.lines
split_full held full = split_last (length held.lines - 1) held.lines (omega arith)

shortened_is : (held : Held) (split : IsSplit (length held.lines - 1) held.lines) → shortened held ≡ holding split.front (victim_from (Some split.last))
shortened_is held split = λ i. holding (split.taken i) (victim_from (split.read i))

evicted_is : (held : Held) (full : length held.lines ≡ ENTRIES) → with_room held ≡ holding (split_full held full).front (victim_from (Some (split_full held full).last))
evicted_is held full = room_full held full ∙ shortened_is held (split_full held full)

pub kept_room : (blocks size : ℕ) (held : Held) → IsCacheKept blocks size held → IsCacheKept blocks size (with_room held)
kept_room blocks size held kept = elim (cases_eq (length held.lines) ENTRIES) [
  | inl full ↦
      let split = split_full held full in
      subst (λ (h : Held). IsCacheKept blocks size h) (sym (evicted_is held full)) (kept_evicted blocks size held split.front split.last split.whole kept)
  | inr free ↦ subst (λ (h : Held). IsCacheKept blocks size h) (sym (room_free held free)) kept
]

pub clean_room : (blocks size : ℕ) (s : DiskState) (held : Held) → IsCacheKept blocks size held → AreClean s held.lines → AreClean s (with_room held).lines
clean_room blocks size s held kept clean = elim (cases_eq (length held.lines) ENTRIES) [
  | inl full ↦
      let split = split_full held full in
      subst (λ (h : Held). AreClean s h.lines) (sym (evicted_is held full)) (λ b line at is_clean. clean b line (was_there held.lines split.front split.last split.whole kept.apart b line at) is_clean)
  | inr free ↦ subst (λ (h : Held). AreClean s h.lines) (sym (room_free held free)) clean
]

pub content_room : (blocks size : ℕ) (s : DiskState) (held : Held) → IsCacheKept blocks size held → AreClean s held.lines → held.victim ≡ None → (k : ℕ) → cached (with_room held) s k ≡ cached held s k
content_room blocks size s held kept clean empty k = elim (cases_eq (length held.lines) ENTRIES) [
  | inl full ↦
      let split = split_full held full in
      ap (λ (h : Held). cached h s k) (evicted_is held full)
      ∙ content_evicted s held.lines split.front split.last split.whole kept.apart clean k
      ∙ sym (ap (λ (v : Option Victim). cached (holding held.lines v) s k) empty)
  | inr free ↦ ap (λ (h : Held). cached h s k) (room_free held free)
]

pub absent_room : (held : Held) (b : ℕ) → line_at held.lines b ≡ None → line_at (with_room held).lines b ≡ None
absent_room held b absent = elim (cases_eq (length held.lines) ENTRIES) [
  | inl full ↦
      let split = split_full held full in
      ap (λ (h : Held). line_at h.lines b) (evicted_is held full) ∙ front_none split.front (split.last ∷ []) b (ap (λ (l : Entries). line_at l b) (sym split.whole) ∙ absent)
  | inr free ↦ ap (λ (h : Held). line_at h.lines b) (room_free held free) ∙ absent
]

-- ---- an entry is put in front

room_in_front : (b : ℕ) (line : Line) (es : Entries) (o : Option Line) → line_at es b ≡ o → length es ≤ ENTRIES → (o ≢ None) ⊎ (length es < ENTRIES) → length (in_front b line es) ≤ ENTRIES
room_in_front b line es (Some old) at room fits = omega (arith, length_front_found b line old es at, room)
room_in_front b line es None at room (inl found) = absurd (found refl)
room_in_front b line es None at room (inr free) = omega (arith, length_front_absent b line es at, free)

put_line : (b k : ℕ) (line l : Line) (es : Entries) → line_at (in_front b line es) k ≡ Some l → ((b ≡ k) × (line ≡ l)) ⊎ (line_at es k ≡ Some l)
put_line b k line l es at = elim (cases_eq b k) [
  | inl same ↦
      let here : Some line ≡ Some l = sym (front_here b line es) ∙ ap (λ (j : ℕ). line_at (in_front b line es) j) same ∙ at in
      let both : line ≡ l = cc in
      inl (same, both)
  | inr other ↦ inr (sym (front_other b k line es other) ∙ at)
]

pub kept_put : (blocks size b : ℕ) (line : Line) (held : Held) → IsCacheKept blocks size held → held.victim ≡ None → IsBlock blocks size b line.bytes → (line_at held.lines b ≢ None) ⊎ (length held.lines < ENTRIES)
    → IsCacheKept blocks size (record { lines = in_front b line held.lines; victim = held.victim })
kept_put blocks size b line held kept empty is_block fits = record {
  apart = apart_front b line held.lines kept.apart;
  room = room_in_front b line held.lines (line_at held.lines b) refl kept.room fits;
  lines = λ k l at. ⊎_elim
      (λ (new : (b ≡ k) × (line ≡ l)). let P : ℕ → Line → Type 0 = λ j m. IsBlock blocks size j m.bytes in subst (λ (m : Line). P k m) new.1 (subst (λ (j : ℕ). P j line) new.0 is_block))
      (λ was. kept.lines k l was) (put_line b k line l held.lines at);
  victim = λ v is. let wrong : None ≡ Some v = sym empty ∙ is in cc;
}

pub clean_put : (s : DiskState) (b : ℕ) (line : Line) (es : Entries) → (line.dirty ≡ false → line.bytes ≡ read_of s b) → AreClean s es → AreClean s (in_front b line es)
clean_put s b line es new clean k l at is_clean = ⊎_elim
    (λ (put : (b ≡ k) × (line ≡ l)). ap (λ (m : Line). m.bytes) (sym put.1) ∙ new (ap (λ (m : Line). m.dirty) put.1 ∙ is_clean) ∙ ap (λ (j : ℕ). read_of s j) put.0)
    (λ was. clean k l was is_clean) (put_line b k line l es at)

pub content_put : (s : DiskState) (b : ℕ) (line : Line) (held : Held) (k : ℕ) → cached (record { lines = in_front b line held.lines; victim = held.victim }) s k ≡ (if b == k then line.bytes else cached held s k)
content_put s b line held k = elim (cases_eq b k) [
  | inl same ↦ subst (λ (j : ℕ). cached (holding (in_front b line held.lines) held.victim) s j ≡ (if b == j then line.bytes else cached held s j)) same
      (ap (λ (o : Option Line). over_line o (over_victim held.victim b (read_of s b))) (front_here b line held.lines) ∙ sym (put_here b b line.bytes (cached held s b) refl))
  | inr other ↦
      ap (λ (o : Option Line). over_line o (over_victim held.victim k (read_of s k))) (front_other b k line held.lines other)
      ∙ sym (put_elsewhere b k line.bytes (cached held s k) other)
]

-- an entry that the list has goes to the front
pub content_found : (s : DiskState) (b : ℕ) (line : Line) (held : Held) → line_at held.lines b ≡ Some line → (k : ℕ) → cached (record { lines = in_front b line held.lines; victim = held.victim }) s k ≡ cached held s k
content_found s b line held at k = content_put s b line held k ∙ (elim (cases_eq b k) [
  | inl same ↦
      put_here b k line.bytes (cached held s k) same
      ∙ subst (λ (j : ℕ). line.bytes ≡ cached held s j) same (sym (ap (λ (o : Option Line). over_line o (over_victim held.victim b (read_of s b))) at))
  | inr other ↦ put_elsewhere b k line.bytes (cached held s k) other
])
