-- Calls of a cache, one after the other.
use Rattle.std.proofs.Common.{◌≡◌, ◌≢◌, ℕ, ◌<◌, ◌≤◌, Bool, true, false, IsTrue, Option, Some, None, Result, Ok, Err, List, [], refl, sym, ◌∙◌, ap, subst, arith}
use Rattle.std.specs.Prelude.{is_some, MatchOption, OnOk}
use Rattle.host_block.specs.{read_of, Outcome, done, failed, refused, DiskCall}
use Rattle.host_io.specs.{next_count, Shape}
use Rattle.host_io.specs.declared.disk.Disk as disk
use Rattle.host_cache.specs.Held.{Held}
use Rattle.host_cache.specs.{line_at, over_line, over_victim, cached, Rule, WritesVictim, after_victim, with_room, MakesRoom, Finds, Loads, GivesFound, Gives, RoomUnless, MakesRoomFor, disk_of, shape_of, held_of, content_of, HasSameContent, HasFaulted, Runs, Cache, CacheError, Line}
use Rattle.host_cache.specs.Made.{Made}
use Rattle.host_cache.proofs.EntryLemmas.{Entries}
use Rattle.host_cache.proofs.MadeLemmas.{made_none}
use Rattle.host_cache.proofs.StepLemmas.{absent_room}

victim_lines : (o : Outcome) (held : Held) → (after_victim o held).lines ≡ held.lines
victim_lines done held = refl
victim_lines failed held = refl
victim_lines refused held = refl

pub written_lines : (old new : Held) (calls : List DiskCall) (o : Outcome) → WritesVictim old calls o new → new.lines ≡ old.lines
written_lines old new calls o rule = ap (λ (h : Held). h.lines) rule.leaves ∙ victim_lines o old

some_at : (o : Option Line) → is_some o ≡ true → (line : Line) × (o ≡ Some line)
some_at None is = cc
some_at (Some line) is = (line, refl)

none_at : (o : Option Line) → is_some o ≡ false → o ≡ None
none_at None is = refl
none_at (Some line) is = cc

pub on_ok_map : {P Q : Type 0} (r : Result Unit CacheError) → (P → Q) → OnOk r P → OnOk r Q
on_ok_map (Ok x) f p = f p
on_ok_map (Err e) f p = tt

next_rises : (a b : ℕ) → a ≤ b → next_count a ≤ next_count b
next_rises a b le = omega arith

module _ {D : Type 0} {g : disk.Ghosts D} where
  -- ---- content and faults

  pub same_then : (a m b : Cache D g) → shape_of m ≡ shape_of a → HasSameContent a m → HasSameContent m b → HasSameContent a b
  same_then a m b shape p q told k below =
      q (subst (λ (sh : Shape). IsTrue sh.tells) (sym shape) told) k (subst (λ (sh : Shape). k < sh.blocks) (sym shape) below) ∙ p told k below

  pub same_as : (a m b : Cache D g) → disk_of m ≡ disk_of a → HasSameContent a m → HasSameContent m b → HasSameContent a b
  same_as a m b same p q = same_then a m b (ap (λ (d : D). g.shape d) same) p q

  pub faulted_then : (rule : Rule) (o : Outcome) (a m b : Cache D g) → Runs rule a o m → HasFaulted m b → HasFaulted a b
  faulted_then rule o a m b runs faulted =
      let rises = next_rises (g.counts (disk_of a)).faults (g.counts (disk_of m)).faults runs.made.later in omega (arith, rises, faulted)

  pub faulted_as : (a m b : Cache D g) → disk_of m ≡ disk_of a → HasFaulted m b → HasFaulted a b
  faulted_as a m b same faulted = subst (λ (d : D). next_count (g.counts d).faults ≤ (g.counts (disk_of b)).faults) same faulted

  -- ---- the same rule from another beginning

  pub runs_from : (rule : Rule) (o : Outcome) (a m b : Cache D g) → held_of m ≡ held_of a → disk_of m ≡ disk_of a → Runs rule m o b → Runs rule a o b
  runs_from rule o a m b held same p = record {
    calls = p.calls;
    ruled = subst (λ (h : Held). rule h p.calls o (held_of b)) held p.ruled;
    made = subst (λ (d : D). Made g p.calls d (disk_of b)) same p.made;
  }

  pub runs_room : (o : Outcome) (a m b : Cache D g) → held_of m ≡ with_room (held_of a) → disk_of m ≡ disk_of a → Runs WritesVictim m o b → Runs MakesRoom a o b
  runs_room o a m b held same p = record {
    calls = p.calls;
    ruled = subst (λ (h : Held). WritesVictim h p.calls o (held_of b)) held p.ruled;
    made = subst (λ (d : D). Made g p.calls d (disk_of b)) same p.made;
  }

  -- ---- room for a block

  pub runs_idle : (b : ℕ) (m : Cache D g) → is_some (line_at (held_of m).lines b) ≡ true → Runs (MakesRoomFor b) m done m
  runs_idle b m there =
      let at = some_at (line_at (held_of m).lines b) there in
      record {
        calls = [];
        ruled = subst (λ (o : Option Line). RoomUnless o (held_of m) [] done (held_of m)) (sym at.1) (record { calls_are = refl; succeeds = refl; leaves = refl });
        made = made_none g (disk_of m);
      }

  pub runs_room_for : (b : ℕ) (o : Outcome) (m n : Cache D g) → is_some (line_at (held_of m).lines b) ≡ false → Runs MakesRoom m o n → Runs (MakesRoomFor b) m o n
  runs_room_for b o m n absent p = record {
    calls = p.calls;
    ruled = subst (λ (l : Option Line). RoomUnless l (held_of m) p.calls o (held_of n)) (sym (none_at (line_at (held_of m).lines b) absent)) p.ruled;
    made = p.made;
  }

  pub there_at : (b : ℕ) (m : Cache D g) → is_some (line_at (held_of m).lines b) ≡ true → line_at (held_of m).lines b ≢ None
  there_at b m there none = let at = some_at (line_at (held_of m).lines b) there in let wrong : Some at.0 ≡ None = sym at.1 ∙ none in cc

  -- ---- a read

  abbrev pub HasRecalled : ℕ → List ℕ → Bool → Cache D g → Cache D g → Type 0
  HasRecalled b into found m n = MatchOption (line_at (held_of m).lines b) ((found ≡ false) × (held_of n ≡ held_of m)) (λ line. (found ≡ true) × Finds b into line (held_of m) [] done (held_of n))

  -- the block was in the list
  record WasFound (b : ℕ) (into : List ℕ) (m n : Cache D g) : Type 0 where
    line : Line
    at : line_at (held_of m).lines b ≡ Some line
    finds : Finds b into line (held_of m) [] done (held_of n)

  was_found : (b : ℕ) (into : List ℕ) (m n : Cache D g) (o : Option Line) → line_at (held_of m).lines b ≡ o → (found : Bool) → found ≡ true
      → MatchOption o ((found ≡ false) × (held_of n ≡ held_of m)) (λ line. (found ≡ true) × Finds b into line (held_of m) [] done (held_of n)) → WasFound b into m n
  was_found b into m n None at found hit r = let wrong : ◌≡◌ {A = Bool} true false = sym hit ∙ r.0 in cc
  was_found b into m n (Some line) at found hit r = record { line = line; at = at; finds = r.1 }

  was_missed : (b : ℕ) (into : List ℕ) (m n : Cache D g) (o : Option Line) → line_at (held_of m).lines b ≡ o → (found : Bool) → found ≡ false
      → MatchOption o ((found ≡ false) × (held_of n ≡ held_of m)) (λ line. (found ≡ true) × Finds b into line (held_of m) [] done (held_of n)) → (line_at (held_of m).lines b ≡ None) × (held_of n ≡ held_of m)
  was_missed b into m n None at found miss r = (at, r.1)
  was_missed b into m n (Some line) at found miss r = let wrong : ◌≡◌ {A = Bool} true false = sym r.0 ∙ miss in cc

  pub missed : (b : ℕ) (into : List ℕ) (found : Bool) (m n : Cache D g) → found ≡ false → HasRecalled b into found m n → (line_at (held_of m).lines b ≡ None) × (held_of n ≡ held_of m)
  missed b into found m n miss r = was_missed b into m n (line_at (held_of m).lines b) refl found miss r

  pub runs_found : (b : ℕ) (into : List ℕ) (found : Bool) (m n : Cache D g) → found ≡ true → HasRecalled b into found m n → disk_of n ≡ disk_of m → Runs (Gives b into) m done n
  runs_found b into found m n hit r same =
      let w = was_found b into m n (line_at (held_of m).lines b) refl found hit r in
      record {
        calls = [];
        ruled = subst (λ (o : Option Line). GivesFound b into o (held_of m) [] done (held_of n)) (sym w.at) w.finds;
        made = subst (λ (d : D). Made g [] (disk_of m) d) (sym same) (made_none g (disk_of m));
      }

  pub found_bytes : (b : ℕ) (into : List ℕ) (found : Bool) (m n : Cache D g) → found ≡ true → HasRecalled b into found m n → into ≡ content_of m b
  found_bytes b into found m n hit r =
      let w = was_found b into m n (line_at (held_of m).lines b) refl found hit r in
      w.finds.bytes ∙ sym (ap (λ (o : Option Line). over_line o (over_victim (held_of m).victim b (read_of (g.state (disk_of m)) b))) w.at)

  pub runs_missed : (b : ℕ) (into given : List ℕ) (found : Bool) (o : Outcome) (m n r : Cache D g) → found ≡ false → HasRecalled b into found m n → disk_of n ≡ disk_of m → Runs (Loads b given) n o r → Runs (Gives b given) m o r
  runs_missed b into given found o m n r miss recalled same p =
      let w = missed b into found m n miss recalled in
      let q = runs_from (Loads b given) o m n r w.1 same p in
      record {
        calls = q.calls;
        ruled = subst (λ (l : Option Line). GivesFound b given l (held_of m) q.calls o (held_of r)) (sym w.0) q.ruled;
        made = q.made;
      }

  pub absent_after : (b : ℕ) (o : Outcome) (m n : Cache D g) → line_at (held_of m).lines b ≡ None → Runs MakesRoom m o n → line_at (held_of n).lines b ≡ None
  absent_after b o m n absent p =
      ap (λ (l : Entries). line_at l b) (written_lines (with_room (held_of m)) (held_of n) p.calls o p.ruled) ∙ absent_room (held_of m) b absent

  -- ---- a block that was read from the disk

  pub read_same_content : (a m : Cache D g) → held_of m ≡ held_of a → (IsTrue (shape_of a).tells → g.state (disk_of m) ≡ g.state (disk_of a)) → HasSameContent a m
  read_same_content a m held state told k below = λ i. cached (held i) (state told i) k
