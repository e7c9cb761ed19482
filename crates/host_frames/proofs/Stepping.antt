-- The steps of a seat keep the rule of the pool.
use Rattle.std.proofs.Common.{◌≡◌, ◌≢◌, ℕ, zero, suc, ◌+◌, ◌*◌, ◌/◌, ◌%◌, ◌<◌, ◌≤◌, List, [], ◌∷◌, length, get_or, set, bit_and, bit_or, length-append, sym, refl, ap, subst, ◌∙◌, ⊎_elim, eqb, arith}
use Rattle.std.proofs.lemmas.List.{set-get_or}
use Rattle.std.specs.Prelude.{Option, Some, None}
use mathlib.Core.Option.{none, some}
use mathlib.Core.Option as maybe
use mathlib.Core.Logic.{dite}
use native.Mathlib.Decide.{ℕ_discrete, dec_lt}
use lib.ListN.{get_elem?}
use prog.Atomic.{either}
use Rattle.atomic_table.specs.Table.{State, Me, step, keeps, takes, gives, Allows, put_back}
use Rattle.atomic_table.proofs.Lists.{at_set, set_else, set_here, exchanged}
use Rattle.host_frames.specs.{Opening, View, Claim, claim_bit, frames_in, won_by, taken_by, IsFair, AreFair, times_to_fetch, times_out, times_held, named_count, share_of, granted_of, given_back_of, times_won, times_taken, IsViewQuiet, asking_view, looks, wins, won_in, on_first, looking_view, winning_view, fetching_view, first_of, others, settled_view, reached_view, returned_view, yielded_view, OnePlace, BeginsClaim, LooksAtWord, WinsFrames, FetchesPage, LeavesSlot, TakesSlot, BringsHome, GivesUp}
use Rattle.std.specs.Int.{bit_at, bit_not, w64}
use Rattle.std.proofs.lemmas.Nat.{mod_below}
use Rattle.std.proofs.lemmas.Nat.Bits.{bit_at-lt, bit_at_and}
use Rattle.host_log.specs.{total, occurrences, same}
use Rattle.host_log.proofs.Totals.{total_set, total_at}
use Rattle.host_log.proofs.Counts.{count_append, same_here, same_else}
use Rattle.host_frames.proofs.Bits.{claim_bit_le, claimed_word, in_word, not_in_word, found_taken, mask_taken, won_bits, won_le, but, cleared, cleared_here, cleared_else}

pub length_set : {A : Type 0} (xs : List A) (i : ℕ) (a : A) → length (set xs i a) ≡ length xs
length_set [] i a = refl
length_set (x ∷ xs) zero a = refl
length_set (x ∷ xs) (suc i) a = let more = length_set xs i a in omega arith

-- what the last claim gains at a look
pub won_looks : (f i n : ℕ) (cs : List Claim) → won_by f (on_first (looks i n) cs) ≡ won_by f cs
won_looks f i n [] = refl
won_looks f i n (c ∷ cs) = refl

pub taken_looks : (f i n : ℕ) (cs : List Claim) → taken_by f (on_first (looks i n) cs) ≤ occurrences f (frames_in i n) + taken_by f cs
taken_looks f i n [] = omega arith
taken_looks f i n (c ∷ cs) = let a = count_append f (frames_in i n) c.taken in omega arith

pub fair_looks : (i n : ℕ) (cs : List Claim) → AreFair cs → AreFair (on_first (looks i n) cs)
fair_looks i n [] h = h
fair_looks i n (c ∷ cs) h = h

-- what it gains where it sets bits
pub won_wins : (f i mask n : ℕ) (c : Claim) (cs : List Claim) → won_by f (on_first (wins i mask n) (c ∷ cs)) ≡ occurrences f (won_in i mask n) + won_by f (c ∷ cs)
won_wins f i mask n c cs = let a = count_append f (won_in i mask n) c.won in omega arith

pub taken_wins : (f i mask n : ℕ) (c : Claim) (cs : List Claim) → taken_by f (on_first (wins i mask n) (c ∷ cs)) ≡ occurrences f (frames_in i (bit_and mask n)) + taken_by f (c ∷ cs)
taken_wins f i mask n c cs = let a = count_append f (frames_in i (bit_and mask n)) c.taken in omega arith

pub fair_wins : (i mask n : ℕ) (c : Claim) → length c.won + length (frames_in i mask) ≤ c.asked → IsFair (wins i mask n c)
fair_wins i mask n c le = let a = length-append (won_in i mask n) c.won in let b = won_le i mask n in omega arith

module _ {P : Type 0} (IsBlank : ℕ → P → Type 0) (k : Opening) where
  abbrev pub St : Type 0
  St = State (Option P) View

  abbrev pub K : St → Type 0
  K = OnePlace IsBlank k

  abbrev pub M : Type 0
  M = Me (Option P) View

  abbrev pub Home : List (maybe.Option (Option P)) → ℕ → Type 0
  Home hs f = (p : P) × (get_elem? hs f ≡ some (some (Some p))) × IsBlank k.page_size p

  abbrev pub Known : View → Type 0
  Known v = AreFair v.claims × IsViewQuiet v × (v.share ≢ 0 → v.page_size ≡ k.page_size)

  -- what stays where one view changes
  pub moved : (s : St) (r : K s) (id : ℕ) (v w : View) (words' : List ℕ) (homes' : List (maybe.Option (Option P))) → get_elem? s.views id ≡ some v → length words' ≡ length s.words
      → ((f : ℕ) → times_to_fetch f w + times_out f w + times_held f w + claim_bit s.words f ≡ times_to_fetch f v + times_out f v + times_held f v + claim_bit words' f)
      → ((f : ℕ) → k.frames ≤ f → claim_bit words' f ≡ 0)
      → ((f : ℕ) → f < k.frames → claim_bit words' f ≤ total (times_to_fetch f) (set s.views id w) → Home homes' f)
      → ((f : ℕ) → 1 ≤ total (times_out f) (set s.views id w) → get_elem? homes' f ≡ some (some None))
      → named_count w + given_back_of w + granted_of v ≡ named_count v + given_back_of v + granted_of w
      → ((f : ℕ) → times_won f v ≤ times_won f w)
      → ((f : ℕ) → 1 ≤ claim_bit words' f + times_taken f w → 1 ≤ claim_bit s.words f + times_taken f v + times_won f w)
      → share_of w ≡ share_of v → Known w
      → K record { words = words'; homes = homes'; views = set s.views id w }
  moved s r id v w words' homes' at len one inside home away lent more known same mine = record {
    words_suffice = (let l = r.words_suffice in omega arith);
    one_place = λ f. let a = total_set (times_to_fetch f) s.views id v w at in let b = total_set (times_out f) s.views id v w at in let h = total_set (times_held f) s.views id v w at in let o = one f in let was = r.one_place f in omega arith;
    none_beyond = inside;
    page_at_home = home;
    slot_empty = away;
    granted_or_back = (let a = total_set named_count s.views id v w at in let b = total_set given_back_of s.views id v w at in let g = total_set granted_of s.views id v w at in let was = r.granted_or_back in omega arith);
    taken_is_won = λ f h. let t = total_set (times_taken f) s.views id v w at in let n = total_set (times_won f) s.views id v w at in let tv = total_at (times_taken f) s.views id v at in let nv = total_at (times_won f) s.views id v at in
        let m = more f in let was = r.taken_is_won f in let new = known f in dite (dec_lt 0 (claim_bit words' f + times_taken f w))
        (λ some. let y = new (omega arith) in dite (dec_lt 0 (times_won f w)) (λ z. omega arith) (λ no. let old = was (omega arith) in omega arith))
        (λ none. let old = was (omega arith) in omega arith);
    shares = (let p = total_set share_of s.views id v w at in let was = r.shares in let e : total share_of (set s.views id w) ≡ total share_of s.views = omega arith in e ∙ was);
    each = λ j u e. ⊎_elim (λ t. subst Known t.1 mine) (λ t. r.each j u t.1) (at_set s.views id j w u e);
  }

  -- a step that leaves the words
  pub unmoved : (ws ws' : List ℕ) (hs : List (maybe.Option (Option P))) (vs : List View) → ws' ≡ ws → K record { words = ws; homes = hs; views = vs } → K record { words = ws'; homes = hs; views = vs }
  unmoved ws ws' hs vs e r = subst (λ (z : List ℕ). K record { words = z; homes = hs; views = vs }) (sym e) r

  exchange_same : (n a : ℕ) → either (eqb n a) a n ≡ n
  exchange_same n a = exchanged n a a (λ z. z ≡ n) (λ e. sym e) (λ _. refl)

  -- a view that fetches no more frames than before
  same_fetch : (s : St) (id : ℕ) (v w : View) (f : ℕ) → get_elem? s.views id ≡ some v → times_to_fetch f w ≡ times_to_fetch f v → {b : ℕ} → b ≤ total (times_to_fetch f) (set s.views id w) → b ≤ total (times_to_fetch f) s.views
  same_fetch s id v w f at e le = let t = total_set (times_to_fetch f) s.views id v w at in omega arith

  -- a frame whose slot is out has no page at home
  held_apart : (s : St) (r : K s) (id : ℕ) (v : View) (f g : ℕ) → get_elem? s.views id ≡ some v → 1 ≤ times_held f v → claim_bit s.words f ≡ 1 → claim_bit s.words g ≤ total (times_to_fetch g) s.views → g ≢ f
  held_apart s r id v f g at held bit le e = let h = total_at (times_held f) s.views id v at in let o = r.one_place f in let a : claim_bit s.words g ≡ claim_bit s.words f = ap (claim_bit s.words) e in let b : total (times_to_fetch g) s.views ≡ total (times_to_fetch f) s.views = ap (λ z. total (times_to_fetch z) s.views) e in absurd (omega arith)

  less_long : (xs : List ℕ) → xs ≡ first_of xs ∷ others xs → length xs ≡ 1 + length (others xs)
  less_long xs its = ap length its ∙ (let e : length (first_of xs ∷ others xs) ≡ 1 + length (others xs) = omega arith in e)

  pub begins_keeps : (n id a : ℕ) (me : M) → me.0.share ≡ 1 → Allows K n id me 0 (λ x. either (eqb x a) a x) (BeginsClaim IsBlank (step n 0 a a none) me)
  begins_keeps n id a me seat s r wide at small = let v : View = me.0 in let w : View = asking_view a v in let known = r.each id v at in (
    w,
    keeps,
    tt,
    unmoved s.words (set s.words 0 (either (eqb (get_or s.words 0 0) a) a (get_or s.words 0 0))) s.homes (set s.views id w) (ap (λ z. set s.words 0 z) (exchange_same (get_or s.words 0 0) a) ∙ set-get_or s.words 0 0)
        (moved s r id v w s.words s.homes at refl (λ f. refl) r.none_beyond (λ f b le. r.page_at_home f b (same_fetch s id v w f at refl le)) (λ f h. let b = total_set (times_out f) s.views id v w at in r.slot_empty f (omega arith)) refl (λ f. omega arith) (λ f h. omega arith) refl
        ((omega arith, known.0), (λ z. absurd (omega arith)), known.2)),
    refl,
  )

  -- a frame that some view names is claimed
  is_claimed : (s : St) (r : K s) (id : ℕ) (v : View) (f : ℕ) → get_elem? s.views id ≡ some v → 1 ≤ times_to_fetch f v + times_out f v + times_held f v → (claim_bit s.words f ≡ 1) × (f < k.frames) × (f / 64 < length s.words)
  is_claimed s r id v f at has = let a = total_at (times_to_fetch f) s.views id v at in let b = total_at (times_out f) s.views id v at in let h = total_at (times_held f) s.views id v at in let one = r.one_place f in let le = claim_bit_le s.words f in
      let set : claim_bit s.words f ≡ 1 = omega arith in let below : f < k.frames = dite (dec_lt f k.frames) (λ lt. lt) (λ no. let none = r.none_beyond f (omega arith) in absurd (omega arith)) in let l = r.words_suffice in
      (set, below, claimed_word s.words f (omega arith))

  cleared_same : (ws : List ℕ) (f g : ℕ) → f / 64 < length ws → claim_bit ws f ≡ 1 → same g f + claim_bit (cleared ws f) g ≡ claim_bit ws g
  cleared_same ws f g lt taken = dite (ℕ_discrete g f)
      (λ e. let a : same g f ≡ 1 = ap (λ z. same z f) e ∙ same_here f in let b : claim_bit (cleared ws f) g ≡ 0 = ap (claim_bit (cleared ws f)) e ∙ cleared_here ws f lt in let c : claim_bit ws g ≡ 1 = ap (claim_bit ws) e ∙ taken in omega arith)
      (λ ne. let a = same_else g f ne in let b = cleared_else ws f g lt ne in omega arith)

  pub looks_keeps : (n id i : ℕ) (me : M) → me.0.share ≡ 1 → Allows K n id me i (λ x. x) (LooksAtWord IsBlank (step n i 0 0 none) me)
  looks_keeps n id i me seat s r wide at small = let v : View = me.0 in let x : ℕ = get_or s.words i 0 in let w : View = looking_view i x v in let known = r.each id v at in (
    w,
    keeps,
    tt,
    unmoved s.words (set s.words i (get_or s.words i 0)) s.homes (set s.views id w) (set-get_or s.words i 0)
        (moved s r id v w s.words s.homes at refl (λ f. refl) r.none_beyond (λ f b le. r.page_at_home f b (same_fetch s id v w f at refl le)) (λ f h. let b = total_set (times_out f) s.views id v w at in r.slot_empty f (omega arith)) refl
        (λ f. let e = won_looks f i x v.claims in omega arith)
        (λ f h. let e = taken_looks f i x v.claims in let b = found_taken s.words i f in omega arith)
        refl (fair_looks i x v.claims known.0, (λ z. absurd (omega arith)), known.2)),
    refl,
  )

  pub wins_keeps : (n id i mask : ℕ) (me : M) (c : Claim) (cs : List Claim) → me.0.share ≡ 1 → me.0.claims ≡ c ∷ cs → length c.won + length (frames_in i mask) ≤ c.asked → 64 * i < k.frames → ((b : ℕ) → b < 64 → bit_at mask b ≡ 1 → 64 * i + b < k.frames)
      → Allows K n id me i (λ x. bit_or x mask) (WinsFrames IsBlank (step n i mask 0 none) me)
  wins_keeps n id i mask me c cs seat its few word_in mask_in s r wide at small = let v : View = me.0 in let x : ℕ = get_or s.words i 0 in let w : View = winning_view i mask x v in let ws : List ℕ = set s.words i (bit_or x mask) in let known = r.each id v at in let l = r.words_suffice in
      let lt : i < length s.words = omega arith in
      let bits : (f : ℕ) → claim_bit ws f ≡ claim_bit s.words f + occurrences f (won_in i mask x) = λ f. won_bits s.words i mask f lt small in
      let fetch : (f : ℕ) → times_to_fetch f w ≡ occurrences f (won_in i mask x) + times_to_fetch f v = λ f. count_append f (won_in i mask x) v.to_fetch in
      let won : (f : ℕ) → times_won f w ≡ occurrences f (won_in i mask x) + times_won f v = λ f. ap (λ z. won_by f (on_first (wins i mask x) z)) its ∙ (won_wins f i mask x c cs ∙ ap (λ z. occurrences f (won_in i mask x) + won_by f z) (sym its)) in
      let taken : (f : ℕ) → times_taken f w ≡ occurrences f (frames_in i (bit_and mask x)) + times_taken f v = λ f. ap (λ z. taken_by f (on_first (wins i mask x) z)) its ∙ (taken_wins f i mask x c cs ∙ ap (λ z. occurrences f (frames_in i (bit_and mask x)) + taken_by f z) (sym its)) in
      let long = length-append (won_in i mask x) v.to_fetch in let fair : AreFair (c ∷ cs) = subst AreFair its known.0 in (
        w,
        keeps,
        tt,
        moved s r id v w ws s.homes at (length_set s.words i (bit_or x mask))
            (λ f. let a = fetch f in let b = bits f in omega arith)
            (λ f le. let b = bits f in let o = r.none_beyond f le in let none : occurrences f (won_in i mask x) ≡ 0 = beyond f le in omega arith)
            (λ f b le. let t = total_set (times_to_fetch f) s.views id v w at in let a = fetch f in let e = bits f in r.page_at_home f b (omega arith))
            (λ f h. let b = total_set (times_out f) s.views id v w at in r.slot_empty f (omega arith))
            (omega arith)
            (λ f. let a = won f in omega arith)
            (λ f h. let a = won f in let t = taken f in let b = bits f in let m = mask_taken s.words i mask f in omega arith)
            refl
            (subst (λ z. AreFair (on_first (wins i mask x) z)) (sym its) (fair_wins i mask x c few, fair.1), (λ z. absurd (omega arith)), known.2),
        refl,
      )
    where
      beyond : (f : ℕ) → k.frames ≤ f → occurrences f (won_in i mask (get_or s.words i 0)) ≡ 0
      beyond f le = let y : ℕ = get_or s.words i 0 in dite (ℕ_discrete (f / 64) i)
          (λ e. let b : ℕ = f % 64 in let low = mod_below f 64 (omega arith) in let here = in_word i (bit_and mask (bit_not w64 y)) f e in let and = bit_at_and mask (bit_not w64 y) b in let one = bit_at-lt mask b in dite (ℕ_discrete (bit_at mask b) 1)
          (λ set. let no = mask_in b low set in absurd (omega arith))
          (λ clear. omega arith))
          (λ no. not_in_word i (bit_and mask (bit_not w64 y)) f no)

  -- the slot of a frame that was won is taken
  pub fetches_keeps : (n id : ℕ) (me : M) → me.0.share ≡ 1 → me.0.to_fetch ≡ first_of me.0.to_fetch ∷ others me.0.to_fetch → Allows K n id me 0 (λ x. x) (FetchesPage IsBlank (step n 0 0 0 none) me)
  fetches_keeps n id me seat its s r wide at small = let v : View = me.0 in let f : ℕ = first_of v.to_fetch in let w : View = fetching_view v in let known = r.each id v at in
      let was : (g : ℕ) → times_to_fetch g v ≡ same g f + occurrences g (others v.to_fetch) = λ g. ap (occurrences g) its in
      let long = less_long v.to_fetch its in let has : 1 ≤ times_to_fetch f v = (let a = was f in let b = same_here f in omega arith) in
      let taken = is_claimed s r id v f at (omega arith) in let all = total_at (times_to_fetch f) s.views id v at in let bit = taken.0 in
      let home = r.page_at_home f taken.1 (omega arith) in let bytes : v.page_size ≡ k.page_size = known.2 (λ z. absurd (omega arith)) in (
        w,
        takes f (Some home.0),
        home.1,
        unmoved s.words (set s.words 0 (get_or s.words 0 0)) (set s.homes f none) (set s.views id w) (set-get_or s.words 0 0)
            (moved s r id v w s.words (set s.homes f none) at refl
            (λ g. let a = was g in omega arith)
            r.none_beyond
            (λ g b le. let t = total_set (times_to_fetch g) s.views id v w at in let a = was g in
            let ne : g ≢ f = (λ e. let d : same g f ≡ 1 = ap (λ z. same z f) e ∙ same_here f in let one : claim_bit s.words g ≡ 1 = ap (claim_bit s.words) e ∙ bit in let o = r.one_place g in absurd (omega arith)) in
            let d = same_else g f ne in let old = r.page_at_home g b (omega arith) in (old.0, set_else s.homes f g none ne ∙ old.1, old.2))
            (λ g h. let b = total_set (times_out g) s.views id v w at in
            let ne : g ≢ f = (λ e. let one : claim_bit s.words g ≡ 1 = ap (claim_bit s.words) e ∙ bit in let o = r.one_place g in let fe : total (times_to_fetch g) s.views ≡ total (times_to_fetch f) s.views = ap (λ z. total (times_to_fetch z) s.views) e in absurd (omega arith)) in
            set_else s.homes f g none ne ∙ r.slot_empty g (omega arith))
            (omega arith) (λ g. omega arith) (λ g h. omega arith) refl (known.0, (λ z. absurd (omega arith)), known.2)),
        (home.0, refl, subst (λ z. IsBlank z home.0) (sym bytes) home.2),
      )

  pub leaves_keeps : (n id : ℕ) (me : M) (l : List (ℕ × Option P)) → n ≡ k.frames → me.0.share ≡ 1 → me.0.slots_held ≡ first_of me.0.slots_held ∷ others me.0.slots_held → me.1 ≡ (first_of me.0.slots_held, None) ∷ l
      → Allows K n id me 0 (λ x. x) (LeavesSlot IsBlank (step n 0 0 0 none) me)
  leaves_keeps n id me l slots seat its has s r wide at small = let v : View = me.0 in let f : ℕ = first_of v.slots_held in let w : View = settled_view v in let known = r.each id v at in
      let was : (g : ℕ) → times_held g v ≡ same g f + occurrences g (others v.slots_held) = λ g. ap (occurrences g) its in
      let long = less_long v.slots_held its in let held : 1 ≤ times_held f v = (let a = was f in let b = same_here f in omega arith) in
      let taken = is_claimed s r id v f at (omega arith) in let bit = taken.0 in
      let put : put_back s.homes me.1 ≡ set s.homes f (some None) = ap (put_back s.homes) has in (
        w,
        gives,
        tt,
        unmoved s.words (set s.words 0 (get_or s.words 0 0)) (put_back s.homes me.1) (set s.views id w) (set-get_or s.words 0 0)
            (moved s r id v w s.words (put_back s.homes me.1) at refl
            (λ g. let a = was g in omega arith)
            r.none_beyond
            (λ g b le. let le' = same_fetch s id v w g at refl le in let old = r.page_at_home g b le' in (old.0, ap (λ hs. get_elem? hs g) put ∙ (set_else s.homes f g (some None) (held_apart s r id v f g at held bit le') ∙ old.1), old.2))
            (λ g h. ap (λ hs. get_elem? hs g) put ∙ dite (ℕ_discrete g f)
            (λ e. ap (λ i. get_elem? (set s.homes f (some None)) i) e ∙ set_here s.homes f (some None) (let lt = taken.1 in omega arith))
            (λ ne. let b = total_set (times_out g) s.views id v w at in let d = same_else g f ne in set_else s.homes f g (some None) ne ∙ r.slot_empty g (omega arith)))
            (omega arith) (λ g. omega arith) (λ g h. omega arith) refl (known.0, (λ z. absurd (omega arith)), known.2)),
        refl,
      )

  pub takes_keeps : (n id : ℕ) (me : M) → me.0.share ≡ 1 → me.0.frames_out ≡ first_of me.0.frames_out ∷ others me.0.frames_out → Allows K n id me 0 (λ x. x) (TakesSlot IsBlank (step n 0 0 0 none) me)
  takes_keeps n id me seat its s r wide at small = let v : View = me.0 in let f : ℕ = first_of v.frames_out in let w : View = reached_view v in let known = r.each id v at in
      let was : (g : ℕ) → times_out g v ≡ same g f + occurrences g (others v.frames_out) = λ g. ap (occurrences g) its in
      let long = less_long v.frames_out its in
      let pos : 1 ≤ times_out f v = (let a = was f in let b = same_here f in omega arith) in
      let taken = is_claimed s r id v f at (omega arith) in let bit = taken.0 in let all = total_at (times_out f) s.views id v at in (
        w,
        takes f None,
        r.slot_empty f (omega arith),
        unmoved s.words (set s.words 0 (get_or s.words 0 0)) (set s.homes f none) (set s.views id w) (set-get_or s.words 0 0)
            (moved s r id v w s.words (set s.homes f none) at refl
            (λ g. let a = was g in omega arith)
            r.none_beyond
            (λ g b le. let le' = same_fetch s id v w g at refl le in let ne : g ≢ f = (λ e. let one : claim_bit s.words g ≡ 1 = ap (claim_bit s.words) e ∙ bit in let o = r.one_place g in let oe : total (times_out g) s.views ≡ total (times_out f) s.views = ap (λ z. total (times_out z) s.views) e in absurd (omega arith)) in
            let old = r.page_at_home g b le' in (old.0, set_else s.homes f g none ne ∙ old.1, old.2))
            (λ g h. let b = total_set (times_out g) s.views id v w at in let a = was g in dite (ℕ_discrete g f)
            (λ e. let d : same g f ≡ 1 = ap (λ z. same z f) e ∙ same_here f in let o = r.one_place g in let one : claim_bit s.words g ≡ 1 = ap (claim_bit s.words) e ∙ bit in absurd (omega arith))
            (λ ne. let d = same_else g f ne in set_else s.homes f g none ne ∙ r.slot_empty g (omega arith)))
            (omega arith) (λ g. omega arith) (λ g h. omega arith) refl (known.0, (λ z. absurd (omega arith)), known.2)),
        refl,
      )

  -- a bit is cleared, and the page is at home
  clears : (n id : ℕ) (me : M) (w : View) (p : P) (l : List (ℕ × Option P)) → n ≡ k.frames → me.0.share ≡ 1 → me.0.slots_held ≡ first_of me.0.slots_held ∷ others me.0.slots_held → me.1 ≡ (first_of me.0.slots_held, Some p) ∷ l → IsBlank me.0.page_size p
      → w.to_fetch ≡ me.0.to_fetch → w.frames_out ≡ me.0.frames_out → w.slots_held ≡ others me.0.slots_held → named_count w + given_back_of w + granted_of me.0 ≡ named_count me.0 + given_back_of me.0 + granted_of w → w.claims ≡ me.0.claims → w.share ≡ me.0.share → w.page_size ≡ me.0.page_size
      → (s : St) → K s → length s.homes ≡ n → get_elem? s.views id ≡ some me.0 → K record { words = cleared s.words (first_of me.0.slots_held); homes = put_back s.homes me.1; views = set s.views id w }
  clears n id me w p l slots seat its has blank ef eo eh count_same ec ep ey s r wide at = let v : View = me.0 in let f : ℕ = first_of v.slots_held in let known = r.each id v at in
      let was : (g : ℕ) → times_held g v ≡ same g f + occurrences g (others v.slots_held) = λ g. ap (occurrences g) its in
      let held : 1 ≤ times_held f v = (let a = was f in let b = same_here f in omega arith) in
      let taken = is_claimed s r id v f at (omega arith) in let bit = taken.0 in let lt = taken.2 in let ws : List ℕ = cleared s.words f in
      let put : put_back s.homes me.1 ≡ set s.homes f (some (Some p)) = ap (put_back s.homes) has in let bytes : v.page_size ≡ k.page_size = known.2 (λ z. absurd (omega arith)) in
      moved s r id v w ws (put_back s.homes me.1) at (length_set s.words (f / 64) (bit_and (get_or s.words (f / 64) 0) (but (f % 64))))
      (λ g. let a = was g in let d = ap (occurrences g) ef in let b = ap (occurrences g) eo in let h = ap (occurrences g) eh in let c = cleared_same s.words f g lt bit in omega arith)
      (λ g le. let below = taken.1 in cleared_else s.words f g lt (λ e. absurd (omega arith)) ∙ r.none_beyond g le)
      (λ g b le. dite (ℕ_discrete g f)
      (λ e. (p, ap (λ hs. get_elem? hs g) put ∙ (ap (λ i. get_elem? (set s.homes f (some (Some p))) i) e ∙ set_here s.homes f (some (Some p)) (let below = taken.1 in omega arith)), subst (λ z. IsBlank z p) bytes blank))
      (λ ne. let same_bit = cleared_else s.words f g lt ne in let le' = same_fetch s id v w g at (ap (occurrences g) ef) (omega arith) in let old = r.page_at_home g b le' in (old.0, ap (λ hs. get_elem? hs g) put ∙ (set_else s.homes f g (some (Some p)) ne ∙ old.1), old.2)))
      (λ g h. let b = total_set (times_out g) s.views id v w at in let e = ap (occurrences g) eo in let ne : g ≢ f = (λ e'. let o = r.one_place g in let one : claim_bit s.words g ≡ 1 = ap (claim_bit s.words) e' ∙ bit in
      let d : same g f ≡ 1 = ap (λ z. same z f) e' ∙ same_here f in let a = was g in let th = total_at (times_held g) s.views id v at in absurd (omega arith)) in ap (λ hs. get_elem? hs g) put ∙ (set_else s.homes f g (some (Some p)) ne ∙ r.slot_empty g (omega arith)))
      count_same
      (λ g. let e = ap (won_by g) ec in omega arith)
      (λ g h. let e = ap (taken_by g) ec in let c = cleared_same s.words f g lt bit in omega arith)
      ep
      (subst AreFair (sym ec) known.0, (λ z. absurd (omega arith)), λ z. ey ∙ bytes)

  pub brings_keeps : (n id : ℕ) (me : M) (p : P) (l : List (ℕ × Option P)) → n ≡ k.frames → me.0.share ≡ 1 → me.0.slots_held ≡ first_of me.0.slots_held ∷ others me.0.slots_held → me.1 ≡ (first_of me.0.slots_held, Some p) ∷ l → IsBlank me.0.page_size p
      → Allows K n id me (first_of me.0.slots_held / 64) (λ x. bit_and x (but (first_of me.0.slots_held % 64))) (BringsHome IsBlank (step n (first_of me.0.slots_held / 64) (but (first_of me.0.slots_held % 64)) 0 none) me)
  brings_keeps n id me p l slots seat its has blank s r wide at small = let long = less_long me.0.slots_held its in
      (returned_view me.0, gives, tt, clears n id me (returned_view me.0) p l slots seat its has blank refl refl refl (omega arith) refl refl refl s r wide at, refl)

  pub gives_up_keeps : (n id : ℕ) (me : M) (p : P) (l : List (ℕ × Option P)) → n ≡ k.frames → me.0.share ≡ 1 → 1 ≤ me.0.granted → me.0.slots_held ≡ first_of me.0.slots_held ∷ others me.0.slots_held → me.1 ≡ (first_of me.0.slots_held, Some p) ∷ l → IsBlank me.0.page_size p
      → Allows K n id me (first_of me.0.slots_held / 64) (λ x. bit_and x (but (first_of me.0.slots_held % 64))) (GivesUp IsBlank (step n (first_of me.0.slots_held / 64) (but (first_of me.0.slots_held % 64)) 0 none) me)
  gives_up_keeps n id me p l slots seat pos its has blank s r wide at small = let long = less_long me.0.slots_held its in
      (yielded_view me.0, gives, tt, clears n id me (yielded_view me.0) p l slots seat its has blank refl refl refl (omega arith) refl refl refl s r wide at, refl)
