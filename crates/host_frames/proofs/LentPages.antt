-- Pages of which one was written.
use Rattle.std.proofs.Common.{◌≡◌, ◌<◌, ◌∙◌, ℕ, zero, suc, List, [], ◌∷◌, ◌++◌, length, map, get_or, set, take, drop, slice_get, Some, sym, refl, ap, arith}
use Rattle.std.proofs.lemmas.List.{take-append-le}
use Rattle.std.proofs.Math.Seq.{take-length}
use Rattle.host_frames.specs.{Page, with_bytes, with_page, seen_page}

pub page_written : (xs : List Page) (i : ℕ) (p : Page) (ws : List ℕ) → i < length xs → p ≡ get_or xs i p → map seen_page (set xs i (with_bytes p ws)) ≡ with_page (map seen_page xs) i ws
page_written [] i p ws lt e = absurd (omega arith)
page_written (x ∷ xs) zero p ws lt e = ap (λ (z : Page). (z.frame, take z.bytes.len (ws ++ drop (length ws) z.bytes.items)) ∷ map seen_page xs) e ∙ ap (λ n. (x.frame, take n (ws ++ drop (length ws) x.bytes.items)) ∷ map seen_page xs) x.bytes.ok.0
page_written (x ∷ xs) (suc i) p ws lt e = ap (λ l. seen_page x ∷ l) (page_written xs i p ws (omega arith) e)

pub page_read : (xs : List Page) (i : ℕ) (p : Page) → i < length xs → p ≡ get_or xs i p → slice_get (map (λ (q : ℕ × List ℕ). q.1) (map seen_page xs)) i ≡ Some p.bytes.items
page_read [] i p lt e = absurd (omega arith)
page_read (x ∷ xs) zero p lt e = ap (λ (z : Page). Some z.bytes.items) (sym e)
page_read (x ∷ xs) (suc i) p lt e = page_read xs i p (omega arith) e

-- what a caller knows of the pages once a page was lent
pub contents_length : (qs : List (ℕ × List ℕ)) (i : ℕ) (ws : List ℕ) → length (map (λ (q : ℕ × List ℕ). q.1) (with_page qs i ws)) ≡ length (map (λ (q : ℕ × List ℕ). q.1) qs)
contents_length [] i ws = refl
contents_length (q ∷ qs) zero ws = omega arith
contents_length (q ∷ qs) (suc i) ws = let more = contents_length qs i ws in omega arith

-- a slice keeps its length, so the page is just what was written
pub contents_written : (qs : List (ℕ × List ℕ)) (i : ℕ) (ws : List ℕ) → length ws ≡ length (get_or (map (λ (q : ℕ × List ℕ). q.1) qs) i []) → map (λ (q : ℕ × List ℕ). q.1) (with_page qs i ws) ≡ set (map (λ (q : ℕ × List ℕ). q.1) qs) i ws
contents_written [] i ws e = refl
contents_written (q ∷ qs) zero ws e = ap (λ l. l ∷ map (λ (z : ℕ × List ℕ). z.1) qs) (take-append-le (length q.1) ws (drop (length ws) q.1) (omega arith) ∙ (ap (λ n. take n ws) (sym e) ∙ take-length ws))
contents_written (q ∷ qs) (suc i) ws e = ap (λ l. q.1 ∷ l) (contents_written qs i ws e)
