-- What a seat knows at a moment of a call.
use Rattle.std.specs.Prelude.{◌≡◌, ℕ, ◌+◌, ◌-◌, ◌*◌, ◌/◌, ◌<◌, ◌≤◌, List, [], ◌∷◌, length, All}
use Rattle.std.specs.Prelude.{Option, Some, Vec}
use Rattle.std.specs.declared.alloc.Global.{Global}
use Rattle.std.specs.Int.{bit_at}
use Rattle.atomic_table.specs.Table.{Me}
use Rattle.host_frames.specs.declared.view.View.{View}
use Rattle.host_frames.specs.declared.view.Claim.{Claim}
use Rattle.host_frames.specs.declared.page.Page.{Page}
use Rattle.host_frames.specs.Claims.{times_met}
use Rattle.host_frames.specs.Views.{others}
use Rattle.host_frames.specs.Homes.{IsBlankPage}
use Rattle.host_frames.specs.Badges.{frames_of_pages}

module _ {S : Type 0} where
  -- a seat that claims nothing just now
  abbrev pub IsIdle : Me S View → Type 0
  IsIdle m =
      (m.0.share ≡ 1) × (m.0.to_fetch ≡ []) × (m.0.frames_out ≡ []) × (m.0.slots_held ≡ [])
      × (m.1 ≡ [])

  -- this frame's page is fetched next
  abbrev pub IsNextToFetch : ℕ → Me S View → Type 0
  IsNextToFetch frame m =
      (m.0.share ≡ 1) × (m.0.to_fetch ≡ frame ∷ others m.0.to_fetch) × (m.0.slots_held ≡ [])
      × (m.1 ≡ [])

  -- this frame comes home next
  abbrev pub IsNextHome : ℕ → Me S View → Type 0
  IsNextHome frame m =
      (m.0.share ≡ 1) × (m.0.frames_out ≡ frame ∷ others m.0.frames_out) × (m.0.slots_held ≡ [])
      × (m.1 ≡ [])

  -- these frames were won, and their pages go to pages with those frames
  abbrev pub IsFetching : List ℕ → List ℕ → Me S View → Type 0
  IsFetching won fs m =
      (m.0.share ≡ 1) × (m.0.to_fetch ≡ won) × (m.0.frames_out ≡ fs) × (m.0.slots_held ≡ [])
      × (m.1 ≡ [])

-- this frame's slot is out with the seat, with a blank page in it
abbrev pub HasPutPage : ℕ → Me (Option (Vec ℕ Global)) View → Type 0
HasPutPage frame m =
    (m.0.share ≡ 1) × (m.0.slots_held ≡ frame ∷ []) × (p : Vec ℕ Global)
    × (m.1 ≡ (frame, Some p) ∷ []) × IsBlankPage m.0.page_size p

-- the seat has these frames still to fetch, and those pages
abbrev pub fetched_view : View → List ℕ → List ℕ → View
fetched_view v won fs = record v { to_fetch = won; frames_out = fs; slots_held = [] }

-- the frames of a mask at word i are below a number
abbrev pub IsMaskBelow : ℕ → ℕ → ℕ → Type 0
IsMaskBelow frames i mask = (b : ℕ) → b < 64 → bit_at mask b ≡ 1 → 64 * i + b < frames

-- the mask has just those bits between two places that are clear in n
abbrev pub IsPick : ℕ → ℕ → ℕ → ℕ → Type 0
IsPick n from end mask =
    (b : ℕ)
    → (from ≤ b → b < end → bit_at n b + bit_at mask b ≡ 1) × (b < from → bit_at mask b ≡ 0)
    × (end ≤ b → bit_at mask b ≡ 0)

-- the view of a seat whose claim has come so far, with the pages of these frames
abbrev pub claiming_view : View → Claim → List ℕ → View
claiming_view v c fs =
    record {
      share = 1;
      page_size = v.page_size;
      granted = v.granted + length c.won;
      given_back = v.given_back;
      claims = c ∷ v.claims;
      to_fetch = [];
      frames_out = fs;
      slots_held = [];
    }

-- a claim that is taken back, whose seat still has these frames
abbrev pub refusing_view : View → List ℕ → View
refusing_view v fs =
    record v
    { frames_out = fs; granted = v.granted - length v.frames_out + length fs; slots_held = [] }

-- frames that come home, of which these are still out
abbrev pub returning_view : View → List ℕ → View
returning_view v fs =
    record v {
      frames_out = fs;
      given_back = v.given_back + (length v.frames_out - length fs);
      slots_held = [];
    }

-- blank pages with these frames
abbrev pub HasBlankPages : ℕ → List ℕ → List Page → Type 0
HasBlankPages b fs ps = (frames_of_pages ps ≡ fs) × All (λ p. IsBlankPage b p.bytes) ps

-- a claim of n frames that began at the view v, with a page for each frame that it has won
abbrev pub HasClaimed : {S : Type 0} → ℕ → View → Claim → Me S View → List Page → Type 0
HasClaimed n v c m ps =
    (m ≡ (claiming_view v c (frames_of_pages ps), [])) × (c.asked ≡ n) × (length c.won ≡ length ps)
    × (length ps ≤ n) × All (λ p. IsBlankPage v.page_size p.bytes) ps

-- a later moment of a claim, which has met no frame less often
abbrev pub HasGoneOn : Claim → Claim → Type 0
HasGoneOn c d = (f : ℕ) → times_met f c ≤ times_met f d

-- the claim has won each frame of word i, or found it taken
abbrev pub HasMetWord : ℕ → ℕ → Claim → Type 0
HasMetWord frames i c = (f : ℕ) → f < frames → f / 64 ≡ i → 1 ≤ times_met f c
