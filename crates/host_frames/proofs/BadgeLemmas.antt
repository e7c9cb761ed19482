-- Pages that are out, and the badge that names their frames.
use Rattle.std.proofs.Common.{◌≡◌, ℕ, zero, suc, List, [], ◌∷◌, length, get_or, set, ◌<◌, map, reverse, replicate, sym, refl, ap, ap₂, subst, ◌∙◌, All, arith}
use Rattle.std.proofs.lemmas.List.Elements.{All-head, All-tail, All-set}
use Rattle.atomic_table.specs.Table.{Joins}
use Rattle.host_frames.specs.{Opening, View, Page, unpacked_view, spent_view, out_view, IsBlankPage, IsInWords, ArePagesWhole, alone, badge_page_size, seen_page, with_bytes}
use Rattle.std.proofs.lemmas.List.{length-set}
use Rattle.host_frames.proofs.Stepping as m
use Rattle.host_frames.proofs.Seating.{unpacks}

first_view_or : View → List View → View
first_view_or d [] = d
first_view_or d (v ∷ vs) = v

pub alone_is : (vs : List View) (w : View) → vs ≡ alone vs → vs ≡ w ∷ [] → w ≡ out_view w.page_size w.frames_out
unfolding first_view_or
alone_is vs w a e = ap (first_view_or w) (sym e ∙ (a ∙ ap alone e))

pub unpacking : (k : Opening) (id : ℕ) (v : View) (other : ℕ) (w : View) (vs : List View) → vs ≡ alone vs → vs ≡ w ∷ [] → Joins (m.K IsBlankPage k) id v other w (unpacked_view v w) spent_view
unpacking k id v other w vs a e = subst (λ (z : View). Joins (m.K IsBlankPage k) id v other z (unpacked_view v z) spent_view) (sym (alone_is vs w a e)) (unpacks IsBlankPage k id v other w.page_size w.frames_out)

pub blank_contents : (b : ℕ) (ps : List Page) → All (λ p. IsBlankPage b p.bytes) ps → map (λ (q : ℕ × List ℕ). q.1) (map seen_page ps) ≡ replicate (length ps) (replicate b 0)
blank_contents b [] h = refl
blank_contents b (p ∷ ps) h = ap₂ (λ x l. x ∷ l) (All-head (λ (q : Page). IsBlankPage b q.bytes) p ps h) (blank_contents b ps (All-tail (λ (q : Page). IsBlankPage b q.bytes) p ps h))

-- an element changes, and what is looked at doesn't
pub map_kept : {A B : Type 0} (f : A → B) (xs : List A) (i : ℕ) (a d : A) → i < length xs → f a ≡ f (get_or xs i d) → map f (set xs i a) ≡ map f xs
map_kept f [] i a d lt e = refl
map_kept f (x ∷ xs) zero a d lt e = ap (λ y. y ∷ map f xs) e
map_kept f (x ∷ xs) (suc i) a d lt e = ap (λ l. f x ∷ l) (map_kept f xs i a d (omega arith) e)

-- pages of which one has other bytes
pub whole_written : (views : List View) (words : ℕ) (xs : List Page) (i : ℕ) (p : Page) (ws : List ℕ) → i < length xs → p ≡ get_or xs i p → ArePagesWhole views words xs → ArePagesWhole views words (set xs i (with_bytes p ws))
whole_written views words xs i p ws lt at h = let q : Page = with_bytes p ws in record {
  is_alone = h.is_alone;
  named = h.named ∙ sym (ap reverse (map_kept (λ (z : Page). z.frame) xs i q p lt (ap (λ (z : Page). z.frame) at)));
  few = (let l = length-set xs i q in let f = h.few in omega arith);
  in_words = All-set (IsInWords words) xs i q (subst (IsInWords words) (sym at) (h.in_words i p lt)) h.in_words;
  long = All-set (λ (z : Page). length z.bytes.items ≡ badge_page_size views) xs i q (sym q.bytes.ok.0 ∙ (p.bytes.ok.0 ∙ (ap (λ (z : Page). length z.bytes.items) at ∙ h.long i p lt))) h.long;
}
