-- A claim from frame to frame, and its pages.
use Rattle.std.proofs.Common.{◌≡◌, ℕ, ◌+◌, ◌-◌, ◌*◌, ◌/◌, ◌%◌, ◌^◌, ◌<◌, ◌≤◌, List, [], ◌∷◌, ◌++◌, length, map, reverse, sym, refl, ap, subst, ◌∙◌, All, append-nil, length-append, bit_and, arith}
use Rattle.std.specs.Prelude.{Some, option_to_list}
use Rattle.std.proofs.lemmas.List.{reverse-append, length-reverse, map-append, length-map}
use Rattle.std.proofs.lemmas.List.Elements.{All-nil}
use Rattle.atomic_table.specs.Table.{Me}
use Rattle.std.proofs.lemmas.Nat.{one_shl}
use Rattle.std.specs.Int.{bit_at}
use Rattle.host_frames.specs.{View, Claim, Page, frames_in, times_met, others, looks, wins, won_in, new_claim, asking_view, looking_view, winning_view, fetching_view, settled_view, IsBlankPage, frames_of_pages, IsIdle, IsNextToFetch, IsFetching, HasClaimed, HasGoneOn, claiming_view, fetched_view}
use Rattle.host_log.specs.{occurrences}
use Rattle.host_log.proofs.Counts.{count_append}
use Rattle.host_frames.proofs.Bits.{but, in_word, met_bits}

pub named_snoc : (ps : List Page) (p : Page) → frames_of_pages (ps ++ p ∷ []) ≡ p.frame ∷ frames_of_pages ps
named_snoc ps p = ap reverse (map-append (λ (q : Page). q.frame) ps (p ∷ [])) ∙ reverse-append (map (λ (q : Page). q.frame) ps) (p.frame ∷ [])

pub named_length : (ps : List Page) → length (frames_of_pages ps) ≡ length ps
named_length ps = length-reverse (map (λ (q : Page). q.frame) ps) ∙ length-map ps (λ (q : Page). q.frame)

-- a look at a word meets each frame at least as often
pub looks_on : (i x : ℕ) (c : Claim) → HasGoneOn c (looks i x c)
looks_on i x c f = let a = count_append f (frames_in i x) c.taken in omega arith

-- a frame whose bit is set was met at a look
pub looks_meets : (i x : ℕ) (c : Claim) (f : ℕ) → f / 64 ≡ i → bit_at x (f % 64) ≡ 1 → 1 ≤ times_met f (looks i x c)
looks_meets i x c f here set = let a = count_append f (frames_in i x) c.taken in let b = in_word i x f here in omega arith

pub wins_meet : (i mask x : ℕ) (c : Claim) (f : ℕ) → x < 18446744073709551616 → times_met f c + occurrences f (frames_in i mask) ≤ times_met f (wins i mask x c)
wins_meet i mask x c f small = let a = count_append f (won_in i mask x) c.won in let b = count_append f (frames_in i (bit_and mask x)) c.taken in let all = met_bits i mask x f small in omega arith

first_asked : List Claim → ℕ
first_asked [] = 0
first_asked (c ∷ cs) = c.asked

module _ {S : Type 0} where
  pub claim_begins : (n : ℕ) (v : View) (m m' : Me S View) (ps : List Page) → m.0 ≡ v → IsIdle m → m' ≡ (asking_view n m.0, m.1) → ps ≡ [] → HasClaimed n v (new_claim n) m' ps
  claim_begins n v m m' ps same is e none = subst (HasClaimed n v (new_claim n) m') (sym none) (
    e ∙ (λ i. (record { share = is.0 i; page_size = m.0.page_size; granted = (let z : m.0.granted ≡ m.0.granted + 0 = omega arith in z) i; given_back = m.0.given_back; claims = new_claim n ∷ m.0.claims; to_fetch = is.1 i; frames_out = is.2 i; slots_held = is.3 i }, is.4 i)) ∙ (λ i. (claiming_view (same i) (new_claim n) [], [])),
    refl,
    refl,
    omega arith,
    All-nil (λ (p : Page). IsBlankPage v.page_size p.bytes),
  )

  -- a look at a word
  pub claim_looks : (n i x : ℕ) (v : View) (c : Claim) (m m' : Me S View) (ps : List Page) → HasClaimed n v c m ps → m' ≡ (looking_view i x m.0, m.1) → HasClaimed n v (looks i x c) m' ps
  claim_looks n i x v c m m' ps h e = (e ∙ (λ j. (looking_view i x (h.0 j).0, (h.0 j).1)), h.1, h.2, h.3, h.4)

  -- bits that are set, and the pages of the frames that were won
  pub claim_wins : (n i mask x : ℕ) (v : View) (c : Claim) (m m1 m2 : Me S View) (ps ps' : List Page) → HasClaimed n v c m ps → m1 ≡ (winning_view i mask x m.0, m.1) → m2 ≡ (fetched_view m1.0 [] (frames_of_pages ps'), [])
      → length ps' ≡ length ps + length (won_in i mask x) → length ps' ≤ n → All (λ p. IsBlankPage v.page_size p.bytes) ps' → HasClaimed n v (wins i mask x c) m2 ps'
  claim_wins n i mask x v c m m1 m2 ps ps' h e d occurrences few blank = let won = length-append (won_in i mask x) c.won in let was = h.2 in
      let more : v.granted + length c.won + length (won_in i mask x) ≡ v.granted + length (won_in i mask x ++ c.won) = omega arith in (
        d ∙ ((λ j. (fetched_view (e j).0 [] (frames_of_pages ps'), [])) ∙ ((λ j. (fetched_view (winning_view i mask x (h.0 j).0) [] (frames_of_pages ps'), []))
            ∙ (λ j. (record { share = 1; page_size = v.page_size; granted = more j; given_back = v.given_back; claims = wins i mask x c ∷ v.claims; to_fetch = []; frames_out = frames_of_pages ps'; slots_held = [] }, [])))),
        h.1,
        omega arith,
        few,
        blank,
      )

  -- a seat has one claim under way
  pub same_number : (n n' : ℕ) (v v' : View) (c c' : Claim) (m : Me S View) (ps : List Page) → HasClaimed n v c m ps → HasClaimed n' v' c' m ps → n ≡ n'
  unfolding first_asked
  same_number n n' v v' c c' m ps h h' = sym h.1 ∙ (ap (λ z. first_asked z.0.claims) (sym h.0 ∙ h'.0) ∙ h'.1)

  -- what the seat has while it fetches
  pub fetch_begins : (n i mask x : ℕ) (v : View) (c : Claim) (m m' : Me S View) (ps : List Page) → HasClaimed n v c m ps → m' ≡ (winning_view i mask x m.0, m.1) → IsFetching (won_in i mask x) (frames_of_pages ps) m'
  fetch_begins n i mask x v c m m' ps h e = let is : m' ≡ (winning_view i mask x (claiming_view v c (frames_of_pages ps)), []) = e ∙ (λ j. (winning_view i mask x (h.0 j).0, (h.0 j).1)) in
      (ap (λ z. z.0.share) is, ap (λ z. z.0.to_fetch) is ∙ append-nil (won_in i mask x), ap (λ z. z.0.frames_out) is, ap (λ z. z.0.slots_held) is, ap (λ z. z.1) is)

  -- the pages are fetched one by one
  pub fetch_starts : (v : View) (m : Me S View) (won fs : List ℕ) → m.0 ≡ v → IsFetching won fs m → m ≡ (fetched_view v won fs, [])
  fetch_starts v m won fs same is = (λ i. (same i, is.4 i)) ∙ (λ i. (record v { to_fetch = (sym (ap (λ (z : View). z.to_fetch) same) ∙ is.1) i; frames_out = (sym (ap (λ (z : View). z.frames_out) same) ∙ is.2) i; slots_held = (sym (ap (λ (z : View). z.slots_held) same) ∙ is.3) i }, []))

  pub fetch_next : (v : View) (m : Me S View) (won won' fs : List ℕ) (f : ℕ) → m ≡ (fetched_view v won fs, []) → won ≡ f ∷ won' → v.share ≡ 1 → IsNextToFetch f m
  fetch_next v m won won' fs f e is seat = (ap (λ z. z.0.share) e ∙ seat, subst (λ z. z ≡ f ∷ others z) (sym (ap (λ z. z.0.to_fetch) e ∙ is)) refl, ap (λ z. z.0.slots_held) e, ap (λ z. z.1) e)

  pub fetch_more : (v : View) (m m' : Me S View) (won won' fs fs' : List ℕ) (f : ℕ) → m ≡ (fetched_view v won fs, []) → won ≡ f ∷ won' → m' ≡ (settled_view (fetching_view m.0), []) → fs' ≡ f ∷ fs → m' ≡ (fetched_view v won' fs', [])
  fetch_more v m m' won won' fs fs' f e is d named = d ∙ ((λ i. (settled_view (fetching_view (e i).0), [])) ∙ ((λ i. (settled_view (fetching_view (fetched_view v (is i) fs)), [])) ∙ (λ i. (fetched_view v won' (sym named i), []))))

-- a page that is popped, and those that are left
pub named_pop : (all ps : List Page) (p : Page) → all ≡ ps ++ option_to_list (Some p) → frames_of_pages all ≡ p.frame ∷ frames_of_pages ps
named_pop all ps p e = ap frames_of_pages e ∙ named_snoc ps p

-- `!(1 << j)`
pub mask_of : (j : ℕ) → j < 64 → 18446744073709551615 - 1 * 2 ^ j % 2 ^ 64 ≡ but j
mask_of j lt = ap (λ z. 18446744073709551615 - z) (one_shl j 64 lt)
