-- What is taken before the sessions begin, one session and one line after the other.
use Rattle.std.proofs.Common.{◌≡◌, ◌⊎◌, inl, inr, ℕ, ◌+◌, ◌≤◌, ◌<◌, List, [], ◌∷◌, ◌++◌, false, cond, length, get_or, map, take, reverse, Option, Some, None, Vec, sym, ap, subst, ◌∙◌, arith, append-nil, length-append}
use Rattle.std.specs.declared.alloc.Global.{Global}
use Rattle.std.specs.Prelude.{slice_get, Result, Ok, Err, is_ok, is_err}
use Rattle.std.specs.List.{cons_option}
use Rattle.std.proofs.lemmas.List.{length-map, length-take-le, map-append, take_all, take_more}
use Rattle.std.proofs.lemmas.List.Elements.{filter_map-append}
use Rattle.std.proofs.lemmas.Option.{slice_get_within}
use Rattle.host_block.specs.declared.range.Range.{Range}
use Rattle.host_log.proofs.Places.{get_snoc}
use Rattle.script_model.specs.{ScriptLine, SessionScript, PlannedSession, plan_of}
use Rattle.host_play.specs.{AreAllPieces, spec_for, specs_from, ArePieces, piece_length, piece_lengths}
use Rattle.host_play.proofs.Reporting.{specs_length}
use Rattle.host_play.proofs.Reversed.{map-reverse}

-- what was pushed
pub pushed : {E A : Type 0} (r : Result Unit E) (xs ys new : List A) → is_err r ≡ false → new ≡ cond (is_ok r) ys xs → new ≡ ys
pushed (Ok u) xs ys new no_error is = is
pushed (Err e) xs ys new no_error is = cc

-- one element more was gone over
taken_more : {A : Type 0} (xs : List A) (k : ℕ) (x : A) → k < length xs → x ≡ get_or xs k x → take (k + 1) xs ≡ take k xs ++ x ∷ []
taken_more {A} xs k x less is = take_more xs k x less ∙ ap (λ (a : A). take k xs ++ a ∷ []) (sym is)

-- one session more
plans_more : (sessions : List SessionScript) (k : ℕ) (session : SessionScript) → k < length sessions → session ≡ get_or sessions k session → map plan_of (take (k + 1) sessions) ≡ map plan_of (take k sessions) ++ plan_of session ∷ []
plans_more sessions k session less is = ap (map plan_of) (taken_more sessions k session less is) ∙ map-append plan_of (take k sessions) (session ∷ [])

-- ---- specs

-- one session more
specs_more : (n : ℕ) (plans : List PlannedSession) (ranges : List Range) (plan : PlannedSession) (range : Range) (size depth : ℕ) → length ranges ≡ length plans
    → specs_from n (plans ++ plan ∷ []) (ranges ++ range ∷ []) size depth ≡ specs_from n plans ranges size depth ++ spec_for (n + length plans) plan range size depth ∷ []
specs_more n [] [] plan range size depth same = ap (λ m. spec_for m plan range size depth ∷ []) (omega arith)
specs_more n [] (r ∷ ranges) plan range size depth same = absurd (omega arith)
specs_more n (p ∷ plans) [] plan range size depth same = absurd (omega arith)
specs_more n (p ∷ plans) (r ∷ ranges) plan range size depth same =
    ap (λ l. spec_for n p r size depth ∷ l)
    (specs_more (n + 1) plans ranges plan range size depth (omega arith) ∙ ap (λ m. specs_from (n + 1) plans ranges size depth ++ spec_for m plan range size depth ∷ []) (omega arith))

pub next_spec : (sessions : List SessionScript) (ranges : List Range) (size depth k : ℕ) (session : SessionScript) (d : Range) → length ranges ≡ length sessions → k < length sessions → session ≡ get_or sessions k session
    → specs_from 1 (map plan_of (take (k + 1) sessions)) (take (k + 1) ranges) size depth ≡ specs_from 1 (map plan_of (take k sessions)) (take k ranges) size depth ++ spec_for (k + 1) (plan_of session) (get_or ranges k d) size depth ∷ []
next_spec sessions ranges size depth k session d same less is =
    let plans : List PlannedSession = map plan_of (take k sessions) in
    let count : length plans ≡ k = length-map (take k sessions) plan_of ∙ length-take-le k sessions (omega (arith, less)) in
    let many : length (take k ranges) ≡ k = length-take-le k ranges (omega (arith, less, same)) in
    ap (λ l. specs_from 1 l (take (k + 1) ranges) size depth) (plans_more sessions k session less is)
    ∙ ap (λ l. specs_from 1 (plans ++ plan_of session ∷ []) l size depth) (take_more ranges k d (omega (arith, less, same)))
    ∙ specs_more 1 plans (take k ranges) (plan_of session) (get_or ranges k d) size depth (many ∙ sym count)
    ∙ ap (λ m. specs_from 1 plans (take k ranges) size depth ++ spec_for m (plan_of session) (get_or ranges k d) size depth ∷ []) (omega (arith, count))

-- as many as were gone over
pub spec_count : (n : ℕ) (sessions : List SessionScript) (ranges : List Range) (size depth k : ℕ) → length ranges ≡ length sessions → k ≤ length sessions → length (specs_from n (map plan_of (take k sessions)) (take k ranges) size depth) ≡ k
spec_count n sessions ranges size depth k same within =
    specs_length n (map plan_of (take k sessions)) (take k ranges) size depth
    (length-take-le k ranges (omega (arith, same, within)) ∙ sym (length-map (take k sessions) plan_of ∙ length-take-le k sessions within))
    ∙ length-map (take k sessions) plan_of ∙ length-take-le k sessions within

-- ---- the pieces of lines

module _ (size : ℕ) (lines : List ScriptLine) (i : ℕ) (d : ScriptLine) (less : i < length lines) (old new : List (List ℕ)) (so_far : map (λ (piece : List ℕ). length piece) old ≡ piece_lengths size (take i lines)) where
  lengths_more : piece_lengths size (take (i + 1) lines) ≡ piece_lengths size (take i lines) ++ cons_option (piece_length size (get_or lines i d)) []
  lengths_more = ap (piece_lengths size) (take_more lines i d less) ∙ filter_map-append (piece_length size) (take i lines) (get_or lines i d ∷ [])

  -- a piece was put to them
  pub piece_put : (n : ℕ) (piece : List ℕ) → piece_length size (get_or lines i d) ≡ Some n → length piece ≡ n → new ≡ old ++ piece ∷ [] → map (λ (piece : List ℕ). length piece) new ≡ piece_lengths size (take (i + 1) lines)
  piece_put n piece some long put =
      ap (map (λ (p : List ℕ). length p)) put ∙ map-append (λ (p : List ℕ). length p) old (piece ∷ [])
      ∙ ap (λ l. l ++ length piece ∷ []) so_far ∙ ap (λ (m : ℕ). piece_lengths size (take i lines) ++ m ∷ []) long
      ∙ sym (lengths_more ∙ ap (λ (o : Option ℕ). piece_lengths size (take i lines) ++ cons_option o []) some)

  -- the line needs none
  pub none_put : piece_length size (get_or lines i d) ≡ None → new ≡ old → map (λ (piece : List ℕ). length piece) new ≡ piece_lengths size (take (i + 1) lines)
  none_put none same =
      ap (map (λ (p : List ℕ). length p)) same ∙ so_far
      ∙ sym (lengths_more ∙ ap (λ (o : Option ℕ). piece_lengths size (take i lines) ++ cons_option o []) none ∙ append-nil (piece_lengths size (take i lines)))

-- turned round
pub turned : (size : ℕ) (lines : List ScriptLine) (i : ℕ) (pieces other : List (List ℕ)) → length lines ≤ i → map (λ (piece : List ℕ). length piece) pieces ≡ piece_lengths size (take i lines) → other ≡ reverse pieces → ArePieces size lines other
turned size lines i pieces other all so_far is =
    ap (map (λ (p : List ℕ). length p)) is ∙ map-reverse (λ (p : List ℕ). length p) pieces ∙ ap reverse (so_far ∙ ap (piece_lengths size) (take_all i lines all))

-- ---- the pieces of sessions

one_more : (size : ℕ) (plans : List PlannedSession) (plan : PlannedSession) (all : List (Vec (List ℕ) Global)) (some : Vec (List ℕ) Global) → AreAllPieces size plans all → ArePieces size plan.lines some.items → AreAllPieces size (plans ++ plan ∷ []) (all ++ some ∷ [])
one_more size plans plan all some so_far its = record {
  count = omega (arith, so_far.count, length-append plans (plan ∷ []), length-append all (some ∷ []));
  each = λ k p s at there. both k p s (get_snoc plans plan p k at) (get_snoc all some s k there);
}
  where
    both : (k : ℕ) (p : PlannedSession) (s : Vec (List ℕ) Global) → (slice_get plans k ≡ Some p) ⊎ ((k ≡ length plans) × (plan ≡ p)) → (slice_get all k ≡ Some s) ⊎ ((k ≡ length all) × (some ≡ s)) → ArePieces size p.lines s.items
    both k p s (inl at) (inl there) = so_far.each k p s at there
    both k p s (inl at) (inr there) = absurd (omega (arith, slice_get_within plans k p at, there.0, so_far.count))
    both k p s (inr at) (inl there) = absurd (omega (arith, slice_get_within all k s there, at.0, so_far.count))
    both k p s (inr at) (inr there) = subst (λ (q : PlannedSession). ArePieces size q.lines s.items) at.1 (subst (λ (v : Vec (List ℕ) Global). ArePieces size plan.lines v.items) there.1 its)

pub next_pieces : (size : ℕ) (sessions : List SessionScript) (k : ℕ) (session : SessionScript) (all new : List (Vec (List ℕ) Global)) (some : Vec (List ℕ) Global) → k < length sessions → session ≡ get_or sessions k session
    → AreAllPieces size (map plan_of (take k sessions)) all → ArePieces size session.lines.items some.items → new ≡ all ++ some ∷ [] → AreAllPieces size (map plan_of (take (k + 1) sessions)) new
next_pieces size sessions k session all new some less is so_far its put =
    subst (λ l. AreAllPieces size (map plan_of (take (k + 1) sessions)) l) (sym put)
    (subst (λ l. AreAllPieces size l (all ++ some ∷ [])) (sym (plans_more sessions k session less is)) (one_more size (map plan_of (take k sessions)) (plan_of session) all some so_far its))
