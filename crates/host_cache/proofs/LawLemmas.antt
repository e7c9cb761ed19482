-- The disk calls of a cache write nothing but its content.
use Rattle.std.proofs.Common.{◌≡◌, ◌≢◌, inl, inr, ℕ, zero, suc, ◌<◌, ◌≤◌, Bool, true, false, IsTrue, Option, Some, None, List, [], ◌∷◌, ◌++◌, length, refl, sym, ◌∙◌, ap, subst, arith}
use Rattle.std.specs.Prelude.{if◌then◌else◌}
use Rattle.std.proofs.lemmas.Bool.{cases_eq}
use Rattle.std.proofs.lemmas.List.{map-append}
use Rattle.host_block.specs.{DiskState, read_of, Outcome, done, failed, refused, DiskCall, write, sync, Leads, LeadAll, Change, content, is_barrier, Keeps, IsCurrent, AreFaithful, LeadThrough}
use Rattle.host_block.proofs.DiskLemmas.{put_here}
use Rattle.host_block.proofs.KeptLemmas.{run_keeps_proof, flush_keeps_proof}
use Rattle.host_cache.specs.Held.{Held}
use Rattle.host_cache.specs.{line_at, over_line, over_victim, cached, Rule, Then, victim_writes, after_victim, WritesVictim, with_room, MakesRoom, PutsInFront, ReadsDisk, GivesFound, Gives, IsRead, RoomUnless, MakesRoomFor, Prepares, IsWrite, clean_line, dirty_line, dirty_at, dirty_below, write_calls, WritesDirty, Syncs, IsFlush, AreClean, IsHeldOver, ReadSurvives, WriteSurvives, FlushSurvives, FlushIsKept, Line, Victim}
use Rattle.host_cache.proofs.EntryLemmas.{Entries}
use Rattle.host_cache.proofs.StepLemmas.{holding, read_other, read_same, kept_victim, clean_victim, content_victim, kept_room, clean_room, content_room}

pub LeadAll-split : (xs ys : List DiskCall) (s u : DiskState) → LeadAll (xs ++ ys) s u → (t : DiskState) × LeadAll xs s t × LeadAll ys t u
LeadAll-split [] ys s u lead = (s, refl, lead)
LeadAll-split (x ∷ xs) ys s u lead = let rest = LeadAll-split xs ys lead.0 u lead.2 in (rest.0, (lead.0, lead.1, rest.1), rest.2)

module _ (image : List (List ℕ)) (history : List Change) (size : ℕ) where
  faithful-append : (xs ys : List DiskCall) → AreFaithful image history xs → AreFaithful image history ys → AreFaithful image history (xs ++ ys)
  faithful-append [] ys p q = q
  faithful-append (x ∷ xs) ys p q = (p.0, faithful-append xs ys p.1 q)

  pub last_keeps : (calls : List DiskCall) (s t : DiskState) → LeadThrough (Keeps image history) calls s t → Keeps image history t
  last_keeps [] s t through = subst (λ (v : DiskState). Keeps image history v) (sym through.1) through.0
  last_keeps (call ∷ calls) s t through = last_keeps calls through.1.0 t through.1.2

  along : (calls : List DiskCall) (s t : DiskState) → Keeps image history s → AreFaithful image history calls → LeadAll calls s t → LeadThrough (Keeps image history) calls s t
  along calls s t keeps faithful lead = run_keeps_proof image history calls s t keeps faithful lead

  abbrev Over : Held → DiskState → Type 0
  Over held s = IsHeldOver image history size held s

  -- faithful calls that lead to another cache over another state
  record Carries (calls : List DiskCall) (new : Held) (t : DiskState) : Type 0 where
    faithful : AreFaithful image history calls
    over : Over new t

  -- ---- the victim

  faithful_writes : (o : Outcome) (lines : Entries) (victim : Option Victim) (s : DiskState) → Over (holding lines victim) s → AreFaithful image history (victim_writes victim o)
  faithful_writes o lines None s over = tt
  faithful_writes o lines (Some v) s over =
      let at = over.kept.victim v refl in
      let is : v.bytes ≡ cached (holding lines (Some v)) s v.block =
      sym (put_here v.block v.block v.bytes (read_of s v.block) refl) ∙ sym (ap (λ (l : Option Line). over_line l (over_victim (Some v) v.block (read_of s v.block))) at.1) in
      ((at.0.0, is ∙ over.current.each v.block at.0.0), tt)

  carried_writes : (o : Outcome) (held : Held) (s t : DiskState) → Over held s → LeadAll (victim_writes held.victim o) s t → Carries (victim_writes held.victim o) (after_victim o held) t
  carried_writes o held s t over lead =
      let faithful = faithful_writes o held.lines held.victim s over in
      record {
        faithful = faithful;
        over = record {
          keeps = last_keeps (victim_writes held.victim o) s t (along (victim_writes held.victim o) s t over.keeps faithful lead);
          kept = kept_victim (length image) size o held over.kept;
          clean = clean_after o held t (clean_victim o s t held.lines held.victim (λ v at. (over.kept.victim v at).1) lead over.clean);
          current = record { each = λ b below. content_victim o s t held.lines held.victim lead b ∙ over.current.each b below };
        };
      }
    where
      clean_after : (o : Outcome) (held : Held) (t : DiskState) → AreClean t held.lines → AreClean t (after_victim o held).lines
      clean_after done held t clean = clean
      clean_after failed held t clean = clean
      clean_after refused held t clean = clean

  carried_victim : (o : Outcome) (old new : Held) (calls : List DiskCall) (s t : DiskState) → Over old s → WritesVictim old calls o new → LeadAll calls s t → Carries calls new t
  carried_victim o old new calls s t over rule lead =
      let lead' : LeadAll (victim_writes old.victim o) s t = subst (λ (cs : List DiskCall). LeadAll cs s t) rule.calls_are lead in
      let both = carried_writes o old s t over lead' in
      record {
        faithful = subst (λ (cs : List DiskCall). AreFaithful image history cs) (sym rule.calls_are) both.faithful;
        over = subst (λ (h : Held). Over h t) (sym rule.leaves) both.over;
      }

  victim_gone : (old new : Held) (calls : List DiskCall) → WritesVictim old calls done new → new.victim ≡ None
  victim_gone old new calls rule = ap (λ (h : Held). h.victim) rule.leaves

  carried_room : (o : Outcome) (old new : Held) (calls : List DiskCall) (s t : DiskState) → Over old s → old.victim ≡ None → MakesRoom old calls o new → LeadAll calls s t → Carries calls new t
  carried_room o old new calls s t over empty rule lead =
      carried_victim o (with_room old) new calls s t (record {
        keeps = over.keeps;
        kept = kept_room (length image) size old over.kept;
        clean = clean_room (length image) size s old over.kept over.clean;
        current = record { each = λ b below. content_room (length image) size s old over.kept over.clean empty b ∙ over.current.each b below };
      }) rule lead

  -- ---- one rule after the other

  abbrev Faithful : List DiskCall → Type 0
  Faithful calls = AreFaithful image history calls

  then_faithful : (first second : Rule) (o : Outcome) (old new : Held) (calls : List DiskCall) (s t : DiskState)
      → ((p : Outcome) (mid : Held) (front : List DiskCall) (m : DiskState) → first old front p mid → LeadAll front s m → Faithful front)
      → ((mid : Held) (front back : List DiskCall) (m : DiskState) → first old front done mid → LeadAll front s m → second mid back o new → LeadAll back m t → Faithful back)
      → Then first second old calls o new → LeadAll calls s t → Faithful calls
  then_faithful first second o old new calls s t one two (inl early) lead = one o new calls t early.ran lead
  then_faithful first second o old new calls s t one two (inr on) lead =
      let parts = LeadAll-split on.front on.back s t (subst (λ (cs : List DiskCall). LeadAll cs s t) on.in_order lead) in
      subst (λ (cs : List DiskCall). Faithful cs) (sym on.in_order)
      (faithful-append on.front on.back (one done on.mid on.front parts.0 on.first_ran parts.1) (two on.mid on.front on.back parts.0 on.first_ran parts.1 on.second_ran parts.2))

  none_faithful : (calls : List DiskCall) → calls ≡ [] → Faithful calls
  none_faithful calls is = subst (λ (cs : List DiskCall). Faithful cs) (sym is) tt

  -- ---- a read

  fetch_faithful : (b : ℕ) (given : List ℕ) (o : Outcome) (old new : Held) (calls : List DiskCall) (s t : DiskState) → Then (ReadsDisk b) (PutsInFront b (clean_line given)) old calls o new → LeadAll calls s t → Faithful calls
  fetch_faithful b given o old new calls s t rule lead = then_faithful (ReadsDisk b) (PutsInFront b (clean_line given)) o old new calls s t
      (λ p mid front m reads lead. subst (λ (cs : List DiskCall). Faithful cs) (sym reads.calls_are) (tt, tt))
      (λ mid front back m reads lead puts more. none_faithful back puts.calls_are) rule lead

  found_faithful : (b : ℕ) (given : List ℕ) (found : Option Line) (o : Outcome) (old new : Held) (calls : List DiskCall) (s t : DiskState)
      → Over old s → old.victim ≡ None → GivesFound b given found old calls o new → LeadAll calls s t → Faithful calls
  found_faithful b given (Some line) o old new calls s t over empty rule lead = none_faithful calls rule.calls_are
  found_faithful b given None o old new calls s t over empty rule lead = then_faithful MakesRoom (Then (ReadsDisk b) (PutsInFront b (clean_line given))) o old new calls s t
      (λ p mid front m room lead. (carried_room p old mid front s m over empty room lead).faithful)
      (λ mid front back m room lead fetch more. fetch_faithful b given o mid new back m t fetch more) rule lead

  read_faithful : (b : ℕ) (given : List ℕ) (o : Outcome) (old new : Held) (calls : List DiskCall) (s t : DiskState) → Over old s → IsRead b given old calls o new → LeadAll calls s t → Faithful calls
  read_faithful b given o old new calls s t over rule lead = then_faithful WritesVictim (Gives b given) o old new calls s t
      (λ p mid front m writes lead. (carried_victim p old mid front s m over writes lead).faithful)
      (λ mid front back m writes lead rest more.
      found_faithful b given (line_at mid.lines b) o mid new back m t (carried_victim done old mid front s m over writes lead).over (victim_gone old mid front writes) rest more) rule lead

  -- ---- a write

  room_faithful : (found : Option Line) (o : Outcome) (old new : Held) (calls : List DiskCall) (s t : DiskState) → Over old s → old.victim ≡ None → RoomUnless found old calls o new → LeadAll calls s t → Faithful calls
  room_faithful (Some line) o old new calls s t over empty rule lead = none_faithful calls rule.calls_are
  room_faithful None o old new calls s t over empty rule lead = (carried_room o old new calls s t over empty rule lead).faithful

  prepare_faithful : (b : ℕ) (o : Outcome) (old new : Held) (calls : List DiskCall) (s t : DiskState) → Over old s → Prepares b old calls o new → LeadAll calls s t → Faithful calls
  prepare_faithful b o old new calls s t over rule lead = then_faithful WritesVictim (MakesRoomFor b) o old new calls s t
      (λ p mid front m writes lead. (carried_victim p old mid front s m over writes lead).faithful)
      (λ mid front back m writes lead rest more.
      room_faithful (line_at mid.lines b) o mid new back m t (carried_victim done old mid front s m over writes lead).over (victim_gone old mid front writes) rest more) rule lead

  write_faithful : (b : ℕ) (bytes : List ℕ) (o : Outcome) (old new : Held) (calls : List DiskCall) (s t : DiskState) → Over old s → IsWrite b bytes old calls o new → LeadAll calls s t → Faithful calls
  write_faithful b bytes o old new calls s t over rule lead = then_faithful (Prepares b) (PutsInFront b (dirty_line bytes)) o old new calls s t
      (λ p mid front m prepares lead. prepare_faithful b p old mid front s m over prepares lead)
      (λ mid front back m prepares lead puts more. none_faithful back puts.calls_are) rule lead

  -- ---- a flush

  faithful_at : (o : Outcome) (b : ℕ) (line : Option Line) (below : List ℕ) → b < length image → over_line line below ≡ content image history (length history) b → Faithful (write_calls o (dirty_at b line))
  faithful_at o b None below within is = tt
  faithful_at o b (Some line) below within is = go line.dirty
    where
      go : (dirty : Bool) → Faithful (write_calls o (if dirty then (b, line.bytes) ∷ [] else []))
      go true = ((within, is), tt)
      go false = tt

  abbrev covered : Held → DiskState → ℕ → List ℕ
  covered held s b = over_victim held.victim b (read_of s b)

  faithful_below : (held : Held) (s : DiskState) (n : ℕ) → n ≤ length image → IsCurrent image history (cached held s) → Faithful (write_calls done (dirty_below held.lines n))
  faithful_below held s zero within current = tt
  faithful_below held s (suc n) within current =
      subst (λ (cs : List DiskCall). Faithful cs) (sym (map-append (λ (w : ℕ × List ℕ). write w.0 w.1 done) (dirty_below held.lines n) (dirty_at n (line_at held.lines n))))
      (faithful-append (write_calls done (dirty_below held.lines n)) (write_calls done (dirty_at n (line_at held.lines n)))
      (faithful_below held s n (omega (arith, within)) current)
      (faithful_at done n (line_at held.lines n) (covered held s n) (omega (arith, within)) (current.each n (omega (arith, within)))))

  dirty_faithful : (o : Outcome) (old new : Held) (calls : List DiskCall) (s : DiskState) → Over old s → WritesDirty (length image) old calls o new → Faithful calls
  dirty_faithful o old new calls s over (inl whole) =
      subst (λ (cs : List DiskCall). Faithful cs) (sym whole.calls_are) (faithful_below old s (length image) (omega arith) over.current)
  dirty_faithful o old new calls s over (inr stopped) =
      let b = stopped.0 in
      let stop = stopped.1 in
      subst (λ (cs : List DiskCall). Faithful cs) (sym stop.calls_are)
      (faithful-append (write_calls done (dirty_below old.lines b)) (write_calls o (dirty_at b (line_at old.lines b)))
      (faithful_below old s b (omega (arith, stop.within)) over.current)
      (faithful_at o b (line_at old.lines b) (covered old s b) stop.within (over.current.each b stop.within)))

  rest_faithful : (o : Outcome) (old new : Held) (calls : List DiskCall) (s t : DiskState) → Over old s → Then (WritesDirty (length image)) Syncs old calls o new → LeadAll calls s t → Faithful calls
  rest_faithful o old new calls s t over rule lead = then_faithful (WritesDirty (length image)) Syncs o old new calls s t
      (λ p mid front m writes lead. dirty_faithful p old mid front s over writes)
      (λ mid front back m writes lead syncs more. subst (λ (cs : List DiskCall). Faithful cs) (sym syncs.calls_are) (tt, tt)) rule lead

  flush_faithful : (o : Outcome) (old new : Held) (calls : List DiskCall) (s t : DiskState) → Over old s → IsFlush (length image) old calls o new → LeadAll calls s t → Faithful calls
  flush_faithful o old new calls s t over rule lead = then_faithful WritesVictim (Then (WritesDirty (length image)) Syncs) o old new calls s t
      (λ p mid front m writes lead. (carried_victim p old mid front s m over writes lead).faithful)
      (λ mid front back m writes lead rest more. rest_faithful o mid new back m t (carried_victim done old mid front s m over writes lead).over rest more) rule lead

  -- ---- once all is written, reads give the content

  written_own : (s t u : DiskState) (b : ℕ) (line : Option Line) → read_of t b ≡ read_of s b → ((l : Line) → line ≡ Some l → l.dirty ≡ false → l.bytes ≡ read_of s b) → LeadAll (write_calls done (dirty_at b line)) t u
      → read_of u b ≡ over_line line (read_of s b)
  written_own s t u b None before clean ran = ap (λ (v : DiskState). read_of v b) ran ∙ before
  written_own s t u b (Some line) before clean ran = go line.dirty (clean line refl) ran
    where
      go : (dirty : Bool) → (dirty ≡ false → line.bytes ≡ read_of s b) → LeadAll (write_calls done (if dirty then (b, line.bytes) ∷ [] else [])) t u → read_of u b ≡ line.bytes
      go true clean ran = ap (λ (v : DiskState). read_of v b) ran.2 ∙ read_same t ran.0 b line.bytes ran.1
      go false clean ran = ap (λ (v : DiskState). read_of v b) ran ∙ before ∙ sym (clean refl)

  written_other : (t u : DiskState) (b k : ℕ) (line : Option Line) → b ≢ k → LeadAll (write_calls done (dirty_at b line)) t u → read_of u k ≡ read_of t k
  written_other t u b k None other ran = ap (λ (v : DiskState). read_of v k) ran
  written_other t u b k (Some line) other ran = go line.dirty ran
    where
      go : (dirty : Bool) → LeadAll (write_calls done (if dirty then (b, line.bytes) ∷ [] else [])) t u → read_of u k ≡ read_of t k
      go true ran = ap (λ (v : DiskState). read_of v k) ran.2 ∙ read_other done t ran.0 b k line.bytes other ran.1
      go false ran = ap (λ (v : DiskState). read_of v k) ran

  written_below : (lines : Entries) (s u : DiskState) (n : ℕ) → AreClean s lines → LeadAll (write_calls done (dirty_below lines n)) s u
      → ((k : ℕ) → k < n → read_of u k ≡ over_line (line_at lines k) (read_of s k)) × ((k : ℕ) → n ≤ k → read_of u k ≡ read_of s k)
  written_below lines s u zero clean ran = (λ k below. absurd (omega (arith, below)), λ k above. ap (λ (v : DiskState). read_of v k) ran)
  written_below lines s u (suc n) clean ran =
      let parts = LeadAll-split (write_calls done (dirty_below lines n)) (write_calls done (dirty_at n (line_at lines n))) s u
      (subst (λ (cs : List DiskCall). LeadAll cs s u) (map-append (λ (w : ℕ × List ℕ). write w.0 w.1 done) (dirty_below lines n) (dirty_at n (line_at lines n))) ran) in
      let before = written_below lines s parts.0 n clean parts.1 in (
        λ k below. elim (cases_eq n k) [
          | inl same ↦ subst (λ (j : ℕ). read_of u j ≡ over_line (line_at lines j) (read_of s j)) same (written_own s parts.0 u n (line_at lines n) (before.1 n (omega arith)) (clean n) parts.2)
          | inr other ↦ written_other parts.0 u n k (line_at lines n) other parts.2 ∙ before.0 k (omega (arith, below, other))
        ],
        λ k above. written_other parts.0 u n k (line_at lines n) (λ e. omega (arith, e, above)) parts.2 ∙ before.1 k (omega (arith, above)),
      )

  synced_keeps : (flush : Change) (old new mid : Held) (front back : List DiskCall) (s m t : DiskState) → Over old s → old.victim ≡ None → IsTrue (is_barrier flush)
      → WritesDirty (length image) old front done mid → LeadAll front s m → Syncs mid back done new → LeadAll back m t → Keeps image (history ++ flush ∷ []) t
  synced_keeps flush old new mid front back s m t over empty barrier (inr stopped) lead syncs more = absurd (stopped.1.ended refl)
  synced_keeps flush old new mid front back s m t over empty barrier (inl whole) lead syncs more =
      let reads = (written_below old.lines s m (length image) over.clean (subst (λ (cs : List DiskCall). LeadAll cs s m) whole.calls_are lead)).0 in
      let keeps = last_keeps front s m (along front s m over.keeps (dirty_faithful done old mid front s over (inl whole)) lead) in
      let one : LeadAll (sync done ∷ []) m t = subst (λ (cs : List DiskCall). LeadAll cs m t) syncs.calls_are more in
      let last : Leads (sync done) m t = subst (λ (u : DiskState). Leads (sync done) m u) (sym one.2) one.1 in
      flush_keeps_proof image history flush m t keeps (record {
        each = λ b below. reads b below ∙ sym (ap (λ (v : Option Victim). cached (holding old.lines v) s b) empty) ∙ over.current.each b below;
      }) barrier last

  rest_keeps : (flush : Change) (old new : Held) (calls : List DiskCall) (s t : DiskState) → Over old s → old.victim ≡ None → IsTrue (is_barrier flush)
      → Then (WritesDirty (length image)) Syncs old calls done new → LeadAll calls s t → Keeps image (history ++ flush ∷ []) t
  rest_keeps flush old new calls s t over empty barrier (inl early) lead = absurd (early.ended refl)
  rest_keeps flush old new calls s t over empty barrier (inr on) lead =
      let parts = LeadAll-split on.front on.back s t (subst (λ (cs : List DiskCall). LeadAll cs s t) on.in_order lead) in
      synced_keeps flush old new on.mid on.front on.back s parts.0 t over empty barrier on.first_ran parts.1 on.second_ran parts.2

  flushed_keeps : (flush : Change) (old new : Held) (calls : List DiskCall) (s t : DiskState) → Over old s → IsTrue (is_barrier flush) → IsFlush (length image) old calls done new → LeadAll calls s t
      → Keeps image (history ++ flush ∷ []) t
  flushed_keeps flush old new calls s t over barrier (inl early) lead = absurd (early.ended refl)
  flushed_keeps flush old new calls s t over barrier (inr on) lead =
      let parts = LeadAll-split on.front on.back s t (subst (λ (cs : List DiskCall). LeadAll cs s t) on.in_order lead) in
      let first = carried_victim done old on.mid on.front s parts.0 over on.first_ran parts.1 in
      rest_keeps flush on.mid new on.back parts.0 t first.over (victim_gone old on.mid on.front on.first_ran) barrier on.second_ran parts.2

pub read_survives_proof : ReadSurvives
read_survives_proof image b given history size old new calls outcome s t over rule lead =
    along image history size calls s t over.keeps (read_faithful image history size b given outcome old new calls s t over rule lead) lead

pub write_survives_proof : WriteSurvives
write_survives_proof image b bytes history size old new calls outcome s t over rule lead =
    along image history size calls s t over.keeps (write_faithful image history size b bytes outcome old new calls s t over rule lead) lead

pub flush_survives_proof : FlushSurvives
flush_survives_proof image history size old new calls outcome s t over rule lead =
    along image history size calls s t over.keeps (flush_faithful image history size outcome old new calls s t over rule lead) lead

pub flush_is_kept_proof : FlushIsKept
flush_is_kept_proof image history flush size old new calls s t over barrier rule lead = flushed_keeps image history size flush old new calls s t over barrier rule lead
