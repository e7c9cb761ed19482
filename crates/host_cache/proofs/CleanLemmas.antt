-- Entries that become clean.
use Rattle.std.proofs.Common.{◌≡◌, ◌≢◌, inl, inr, ℕ, zero, suc, ◌+◌, ◌-◌, ◌<◌, ◌≤◌, Bool, true, false, Option, Some, None, List, [], ◌∷◌, ◌++◌, length, refl, sym, ◌∙◌, ap, subst, append-nil, arith}
use Rattle.std.specs.Prelude.{nat_eq, nat_lt, cond, option_map, if◌then◌else◌, ◌==◌}
use Rattle.std.specs.Map.{set_value}
use Rattle.std.proofs.lemmas.Bool.{cases_eq, cases_lt, eq-eqb, lt-ltb, le-ltb}
use Rattle.std.proofs.lemmas.Bool.Decides.{nat_tests}
use Rattle.std.proofs.lemmas.List.{length-map}
use Rattle.host_block.specs.{DiskState, read_of, Outcome, done, write, Leads}
use Rattle.host_cache.specs.{line_at, over_line, over_victim, cached, clean_line, is_dirty, dirty_at, dirty_below, cleaned_below, cleaned_at, AreApart, IsBlock, IsCacheKept, AreClean, Line, Victim}
use Rattle.host_cache.proofs.EntryLemmas.{Entries, at_here, at_other, each_line, at_each, apart_each}
use Rattle.host_cache.proofs.StepLemmas.{holding, read_other, read_same}

-- ---- what one entry becomes

abbrev pub below_line : ℕ → ℕ → Line → Line
below_line n b l = if nat_lt b n then clean_line l.bytes else l

abbrev pub at_line : ℕ → ℕ → Line → Line
at_line a b l = if b == a then clean_line l.bytes else l

below_yes : (n b : ℕ) (l : Line) → b < n → below_line n b l ≡ clean_line l.bytes
below_yes n b l below = ap (λ (t : Bool). cond t (clean_line l.bytes) l) (lt-ltb b n below)

below_no : (n b : ℕ) (l : Line) → n ≤ b → below_line n b l ≡ l
below_no n b l above = ap (λ (t : Bool). cond t (clean_line l.bytes) l) (le-ltb b n above)

at_yes : (a b : ℕ) (l : Line) → b ≡ a → at_line a b l ≡ clean_line l.bytes
at_yes a b l same = ap (λ (t : Bool). cond t (clean_line l.bytes) l) (eq-eqb b a same)

at_no : (a b : ℕ) (l : Line) → b ≢ a → at_line a b l ≡ l
at_no a b l other =
    let not : (b == a) ≡ false = grind (arith, nat_tests) in
    ap (λ (t : Bool). cond t (clean_line l.bytes) l) not

clean_is : (l : Line) → l.dirty ≡ false → clean_line l.bytes ≡ l
clean_is l clean = λ i. record { bytes = l.bytes; dirty = sym clean i }

same_bytes : (a b : ℕ) (l : Line) → (at_line a b l).bytes ≡ l.bytes
same_bytes a b l = elim (cases_eq b a) [
  | inl same ↦ ap (λ (m : Line). m.bytes) (at_yes a b l same)
  | inr other ↦ ap (λ (m : Line). m.bytes) (at_no a b l other)
]

-- ---- what holds of each entry

abbrev pub EachOf : (ℕ → Line → Type 0) → Entries → Type 0
EachOf P [] = Unit {0}
EachOf P (e ∷ es) = P e.0 e.1 × EachOf P es

each_found : (P : ℕ → Line → Type 0) (es : Entries) → AreApart es → ((k : ℕ) (line : Line) → line_at es k ≡ Some line → P k line) → EachOf P es
each_found P [] apart found = tt
each_found P (e ∷ es) apart found = (
  found e.0 e.1 (at_here e es e.0 refl),
  each_found P es apart.1 (λ k line at.
      let other : e.0 ≢ k = λ same. let wrong : Some line ≡ None = sym at ∙ ap (λ (j : ℕ). line_at es j) (sym same) ∙ apart.0 in cc in
      found k line (at_other e es k other ∙ at)),
)

each_same : (f h : ℕ → Line → Line) (es : Entries) → EachOf (λ b l. f b l ≡ h b l) es → each_line f es ≡ each_line h es
each_same f h [] same = refl
each_same f h (e ∷ es) same = λ i. (e.0, same.0 i) ∷ each_same f h es same.1 i

each_each : (f h : ℕ → Line → Line) (es : Entries) → each_line h (each_line f es) ≡ each_line (λ b l. h b (f b l)) es
each_each f h [] = refl
each_each f h (e ∷ es) = ap (λ (l : Entries). (e.0, h e.0 (f e.0 e.1)) ∷ l) (each_each f h es)

-- ---- the dirty entries by rising number

abbrev pub NoneDirty : Entries → ℕ → ℕ → Type 0
NoneDirty lines from n = (k : ℕ) → from ≤ k → k < n → is_dirty (line_at lines k) ≡ false

not_dirty : (b : ℕ) (line : Option Line) → is_dirty line ≡ false → dirty_at b line ≡ []
not_dirty b None clean = refl
not_dirty b (Some line) clean = ap (λ (t : Bool). if t then (b, line.bytes) ∷ [] else []) clean

dirty_gap : (lines : Entries) (from d : ℕ) → NoneDirty lines from (from + d) → dirty_below lines (from + d) ≡ dirty_below lines from
dirty_gap lines from zero none = let n : from + 0 ≡ from = omega arith in ap (λ (k : ℕ). dirty_below lines k) n
dirty_gap lines from (suc d) none =
    let n : from + suc d ≡ suc (from + d) = omega arith in
    ap (λ (k : ℕ). dirty_below lines k) n
    ∙ ap (λ (ws : List (ℕ × List ℕ)). dirty_below lines (from + d) ++ ws) (not_dirty (from + d) (line_at lines (from + d)) (none (from + d) (omega arith) (omega arith)))
    ∙ append-nil (dirty_below lines (from + d))
    ∙ dirty_gap lines from d (λ k above below. none k above (omega (arith, below)))

pub dirty_same : (lines : Entries) (from n : ℕ) → from ≤ n → NoneDirty lines from n → dirty_below lines n ≡ dirty_below lines from
dirty_same lines from n le none =
    let e : from + (n - from) ≡ n = omega arith in
    ap (λ (k : ℕ). dirty_below lines k) (sym e) ∙ dirty_gap lines from (n - from) (λ k above below. none k above (omega (arith, below, e)))

pub dirty_more : (lines : Entries) (b : ℕ) → dirty_below lines (b + 1) ≡ dirty_below lines b ++ dirty_at b (line_at lines b)
dirty_more lines b = let next : b + 1 ≡ suc b = omega arith in ap (λ (n : ℕ). dirty_below lines n) next

-- ---- the entries of the first blocks are clean

line_clean : (lines : Entries) (k : ℕ) (line : Line) → line_at lines k ≡ Some line → is_dirty (line_at lines k) ≡ false → line.dirty ≡ false
line_clean lines k line at none = sym (ap (λ (o : Option Line). is_dirty o) at) ∙ none

same_line : (lines : Entries) (from n k : ℕ) (line : Line) → from ≤ n → NoneDirty lines from n → line_at lines k ≡ Some line → below_line n k line ≡ below_line from k line
same_line lines from n k line le none at = elim (cases_lt k from) [
  | inl early ↦ below_yes n k line (omega arith) ∙ sym (below_yes from k line early)
  | inr late ↦ (elim (cases_lt k n) [
    | inl below ↦ below_yes n k line below ∙ clean_is line (line_clean lines k line at (none k late below)) ∙ sym (below_no from k line late)
    | inr above ↦ below_no n k line above ∙ sym (below_no from k line late)
  ])
]

pub cleaned_same : (lines : Entries) (from n : ℕ) → AreApart lines → from ≤ n → NoneDirty lines from n → cleaned_below n lines ≡ cleaned_below from lines
cleaned_same lines from n apart le none =
    each_same (below_line n) (below_line from) lines
    (each_found (λ k line. below_line n k line ≡ below_line from k line) lines apart (λ k line at. same_line lines from n k line le none at))

step_line : (lines : Entries) (from b k : ℕ) (line : Line) → from ≤ b → NoneDirty lines from b → line_at lines k ≡ Some line → at_line b k (below_line from k line) ≡ below_line (b + 1) k line
step_line lines from b k line le none at = elim (cases_lt k from) [
  | inl early ↦
      at_no b k (below_line from k line) (λ e. omega (arith, e, early, le))
      ∙ below_yes from k line early
      ∙ sym (below_yes (b + 1) k line (omega arith))
  | inr late ↦ (elim (cases_eq k b) [
    | inl same ↦
        at_yes b k (below_line from k line) same
        ∙ ap (λ (m : Line). clean_line m.bytes) (below_no from k line late)
        ∙ sym (below_yes (b + 1) k line (omega arith))
    | inr other ↦
        at_no b k (below_line from k line) other
        ∙ below_no from k line late
        ∙ (elim (cases_lt k b) [
          | inl below ↦ sym (clean_is line (line_clean lines k line at (none k late below))) ∙ sym (below_yes (b + 1) k line (omega arith))
          | inr above ↦ sym (below_no (b + 1) k line (omega arith))
        ])
  ])
]

pub cleaned_step : (lines : Entries) (from b : ℕ) → AreApart lines → from ≤ b → NoneDirty lines from b → cleaned_at b (cleaned_below from lines) ≡ cleaned_below (b + 1) lines
cleaned_step lines from b apart le none =
    each_each (below_line from) (at_line b) lines
    ∙ each_same (λ k l. at_line b k (below_line from k l)) (below_line (b + 1)) lines
    (each_found (λ k line. at_line b k (below_line from k line) ≡ below_line (b + 1) k line) lines apart (λ k line at. step_line lines from b k line le none at))

above_line : (from k : ℕ) (o : Option Line) → from ≤ k → option_map (below_line from k) o ≡ o
above_line from k None above = refl
above_line from k (Some line) above = ap (λ (l : Line). Some l) (below_no from k line above)

pub cleaned_above : (lines : Entries) (from k : ℕ) → from ≤ k → line_at (cleaned_below from lines) k ≡ line_at lines k
cleaned_above lines from k above = at_each (below_line from) lines k ∙ above_line from k (line_at lines k) above

pub cleaned_none : (lines : Entries) → cleaned_below 0 lines ≡ lines
cleaned_none [] = refl
cleaned_none (e ∷ es) = λ i. (e.0, below_no 0 e.0 e.1 (omega arith) i) ∷ cleaned_none es i

-- ---- the entry of one block is clean

untouched : (es : Entries) (b : ℕ) → line_at es b ≡ None → cleaned_at b es ≡ es
untouched [] b absent = refl
untouched (e ∷ es) b absent =
    let other : e.0 ≢ b = λ same. let wrong : Some e.1 ≡ None = sym (at_here e es b same) ∙ absent in cc in
    λ i. (e.0, at_no b e.0 e.1 other i) ∷ untouched es b (sym (at_other e es b other) ∙ absent) i

pub cleaned_absent : (es : Entries) (b : ℕ) → line_at es b ≡ None → cleaned_at b es ≡ es
cleaned_absent = untouched

pub set_cleaned : (es : Entries) (b : ℕ) (line : Line) → AreApart es → line_at es b ≡ Some line → set_value (nat_eq b) es (clean_line line.bytes) ≡ cleaned_at b es
set_cleaned [] b line apart at = cc
set_cleaned (e ∷ es) b line apart at = elim (cases_eq e.0 b) [
  | inl same ↦
      let test : nat_eq b e.0 ≡ true = eq-eqb b e.0 (sym same) in
      let here : Some e.1 ≡ Some line = sym (at_here e es b same) ∙ at in
      let is : line ≡ e.1 = cc in
      let rest : cleaned_at b es ≡ es = untouched es b (ap (λ (k : ℕ). line_at es k) (sym same) ∙ apart.0) in
      ap (λ (t : Bool). cond t ((e.0, clean_line line.bytes) ∷ es) (e ∷ set_value (nat_eq b) es (clean_line line.bytes))) test
      ∙ ap (λ (l : Line). (e.0, clean_line l.bytes) ∷ es) is
      ∙ (λ i. (e.0, sym (at_yes b e.0 e.1 same) i) ∷ sym rest i)
  | inr other ↦
      let test : nat_eq b e.0 ≡ false = grind (arith, nat_tests) in
      ap (λ (t : Bool). cond t ((e.0, clean_line line.bytes) ∷ es) (e ∷ set_value (nat_eq b) es (clean_line line.bytes))) test
      ∙ (λ i. (e.0, sym (at_no b e.0 e.1 other) i) ∷ set_cleaned es b line apart.1 (sym (at_other e es b other) ∙ at) i)
]

mapped : (f : Line → Line) (o : Option Line) (line : Line) → option_map f o ≡ Some line → (l : Line) × (o ≡ Some l) × (f l ≡ line)
mapped f None line is = cc
mapped f (Some l) line is = let same : f l ≡ line = cc in (l, refl, same)

-- what stands at k once the entry of b is clean
stood : (b : ℕ) (es : Entries) (k : ℕ) (line : Line) → line_at (cleaned_at b es) k ≡ Some line → (l : Line) × (line_at es k ≡ Some l) × (at_line b k l ≡ line)
stood b es k line at = mapped (at_line b k) (line_at es k) line (sym (at_each (at_line b) es k) ∙ at)

pub kept_cleaned : (blocks size b : ℕ) (lines : Entries) (victim : Option Victim) → IsCacheKept blocks size (holding lines victim) → IsCacheKept blocks size (holding (cleaned_at b lines) victim)
kept_cleaned blocks size b lines victim kept = record {
  apart = apart_each (at_line b) lines kept.apart;
  room = let long : length (cleaned_at b lines) ≡ length lines = length-map lines (λ e. (e.0, at_line b e.0 e.1)) in omega (arith, long, kept.room);
  lines = λ k line at.
      let was = stood b lines k line at in
      subst (λ (bytes : List ℕ). IsBlock blocks size k bytes) (sym (same_bytes b k was.0) ∙ ap (λ (m : Line). m.bytes) was.2) (kept.lines k was.0 was.1);
  victim = λ v is. ((kept.victim v is).0, at_each (at_line b) lines v.block ∙ ap (λ (o : Option Line). option_map (at_line b v.block) o) (kept.victim v is).1);
}

pub clean_cleaned : (s t : DiskState) (lines : Entries) (b : ℕ) (line : Line) → line_at lines b ≡ Some line → Leads (write b line.bytes done) s t → AreClean s lines → AreClean t (cleaned_at b lines)
clean_cleaned s t lines b line at leads clean k l found is_clean =
    let was = stood b lines k l found in
    let bytes : l.bytes ≡ was.0.bytes = sym (ap (λ (m : Line). m.bytes) was.2) ∙ same_bytes b k was.0 in
    elim (cases_eq b k) [
      | inl same ↦
          let both : Some was.0 ≡ Some line = sym was.1 ∙ ap (λ (j : ℕ). line_at lines j) (sym same) ∙ at in
          let is : was.0 ≡ line = cc in
          bytes ∙ ap (λ (m : Line). m.bytes) is ∙ sym (read_same s t b line.bytes leads) ∙ ap (λ (j : ℕ). read_of t j) same
      | inr other ↦
          let is : was.0 ≡ l = sym (at_no b k was.0 (λ e. other (sym e))) ∙ was.2 in
          bytes ∙ clean k was.0 was.1 (ap (λ (m : Line). m.dirty) is ∙ is_clean) ∙ sym (read_other done s t b k line.bytes other leads)
    ]

-- clean entries stay clean while a dirty one is written
pub clean_tried : (o : Outcome) (s t : DiskState) (lines : Entries) (b : ℕ) (line : Line) → line_at lines b ≡ Some line → line.dirty ≡ true → Leads (write b line.bytes o) s t → AreClean s lines → AreClean t lines
clean_tried o s t lines b line at dirty leads clean k l found is_clean = elim (cases_eq b k) [
  | inl same ↦
      let both : Some line ≡ Some l = sym at ∙ ap (λ (j : ℕ). line_at lines j) same ∙ found in
      let flags : line.dirty ≡ l.dirty = cc in
      let wrong : ◌≡◌ {A = Bool} true false = sym dirty ∙ flags ∙ is_clean in
      cc
  | inr other ↦ clean k l found is_clean ∙ sym (read_other o s t b k line.bytes other leads)
]

over_same : (b k : ℕ) (o : Option Line) (bytes : List ℕ) → over_line (option_map (at_line b k) o) bytes ≡ over_line o bytes
over_same b k None bytes = refl
over_same b k (Some l) bytes = same_bytes b k l

-- the write of an entry of the list leaves the content, whatever it makes of it
pub content_tried : (o : Outcome) (s t : DiskState) (lines : Entries) (victim : Option Victim) (b : ℕ) (line : Line) → line_at lines b ≡ Some line → Leads (write b line.bytes o) s t → (k : ℕ)
    → cached (holding lines victim) t k ≡ cached (holding lines victim) s k
content_tried o s t lines victim b line at leads k = elim (cases_eq b k) [
  | inl same ↦ subst (λ (j : ℕ). cached (holding lines victim) t j ≡ cached (holding lines victim) s j) same
      (ap (λ (l : Option Line). over_line l (over_victim victim b (read_of t b))) at ∙ sym (ap (λ (l : Option Line). over_line l (over_victim victim b (read_of s b))) at))
  | inr other ↦ ap (λ (bytes : List ℕ). over_line (line_at lines k) (over_victim victim k bytes)) (read_other o s t b k line.bytes other leads)
]

pub content_cleaned : (s : DiskState) (lines : Entries) (victim : Option Victim) (b k : ℕ) → cached (holding (cleaned_at b lines) victim) s k ≡ cached (holding lines victim) s k
content_cleaned s lines victim b k =
    ap (λ (o : Option Line). over_line o (over_victim victim k (read_of s k))) (at_each (at_line b) lines k)
    ∙ over_same b k (line_at lines k) (over_victim victim k (read_of s k))
