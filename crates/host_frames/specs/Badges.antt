-- Pages that are out, and the badge that goes with them.
use Rattle.std.specs.Prelude.{◌≡◌, ℕ, ◌/◌, ◌^◌, ◌<◌, List, [], ◌∷◌, map, reverse, length, All}
use Rattle.host_frames.specs.declared.view.View.{View}
use Rattle.host_frames.specs.declared.page.Page.{Page}
use Rattle.host_frames.specs.Views.{out_view}

-- the frames of pages, the last first
abbrev pub frames_of_pages : List Page → List ℕ
frames_of_pages ps = reverse (map (λ p. p.frame) ps)

-- the claim bit of the page's frame is in one of these words
abbrev pub IsInWords : ℕ → Page → Type 0
IsInWords words p = p.frame / 64 < words

-- the frames that a badge names
abbrev pub badge_frames : List View → List ℕ
badge_frames [] = []
badge_frames (v ∷ vs) = v.frames_out

abbrev pub badge_page_size : List View → ℕ
badge_page_size [] = 0
badge_page_size (v ∷ vs) = v.page_size

-- what the views of a badge are: one view, of pages that are out, or none
abbrev pub alone : List View → List View
alone [] = []
alone (v ∷ vs) = out_view v.page_size v.frames_out ∷ []

-- a page as contracts see it
abbrev pub seen_page : Page → ℕ × List ℕ
seen_page q = (q.frame, q.bytes.items)

-- what holds of pages and the badge that goes with them
pub record ArePagesWhole (views : List View) (words : ℕ) (ps : List Page) : Type 0 where
  pub is_alone : views ≡ alone views
  pub named : badge_frames views ≡ frames_of_pages ps
  pub few : length ps < 2 ^ 32
  pub in_words : All (IsInWords words) ps
  pub long : All (λ p. length p.bytes.items ≡ badge_page_size views) ps
