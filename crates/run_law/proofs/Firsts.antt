-- An image has one first session that it doesn't serve.
use Rattle.std.proofs.Common.{◌≡◌, ℕ, suc, ◌+◌, List, [], ◌∷◌, ◌++◌, length, get_or, map, refl, sym, ◌∙◌, ap, subst, arith}
use Rattle.std.specs.Prelude.{All}
use Rattle.std.specs.List.{AllByRecursion, AllZip}
use Rattle.host_gpt.proofs.LawLemmas.{one_table}
use Rattle.host_gpt.specs.{Which}
use Rattle.host_part.specs.{IsRangeOf, Layout}
use Rattle.host_report.specs.{IsPlayedBy, SessionReport}
use Rattle.host_run.specs.{NoPart}
use Rattle.host_start.specs.{IsFirstUnserved, IsLayoutOn, IsServedPart, LacksPart, parts_of}
use Rattle.script_model.specs.{PlannedSession}
use Rattle.script_played.specs.{asked_of}

-- an image has one layout
pub same_layout : (image : List (List ℕ)) (which which' : Which) (layout layout' : Layout) → IsLayoutOn image which layout → IsLayoutOn image which' layout' → layout ≡ layout'
same_layout image which which' layout layout' on on' =
    let same = one_table image which which' on.disk_id on'.disk_id layout.first_usable layout'.first_usable layout.last_usable layout'.last_usable layout.entries layout'.entries on.table on'.table in
    (λ i. record { first_usable = same.same_first i; last_usable = same.same_last i; blocks = (on.blocks ∙ sym on'.blocks) i; entries = same.same_entries i })

-- ---- lists

the_first : (x y : ℕ) (xs ys : List ℕ) → x ∷ xs ≡ y ∷ ys → x ≡ y
the_first x y xs ys is = ap (λ (l : List ℕ). get_or l 0 x) is

the_rest : (x y : ℕ) (xs ys : List ℕ) → x ∷ xs ≡ y ∷ ys → xs ≡ ys
the_rest x y xs ys is = cc

tail_all : (P : ℕ → Type 0) (x : ℕ) (xs : List ℕ) → All P (x ∷ xs) → All P xs
tail_all P x xs all k d within = all (suc k) d (omega (arith, within))

head_all : (P : ℕ → Type 0) (x : ℕ) (xs : List ℕ) → All P (x ∷ xs) → P x
head_all P x xs all = all 0 x (omega arith)

-- two beginnings of a list, each up to the first element that fails, are one
one_first : (P : ℕ → Type 0) (before before' after after' : List ℕ) (x x' : ℕ) → before ++ x ∷ after ≡ before' ++ x' ∷ after' → All P before → All P before' → ¬ P x → ¬ P x' → (length before ≡ length before') × (x ≡ x')
one_first P [] [] after after' x x' is all all' not not' = (refl, the_first x x' after after' is)
one_first P [] (y ∷ ys) after after' x x' is all all' not not' = absurd (not (subst P (sym (the_first x y after (ys ++ x' ∷ after') is)) (head_all P y ys all')))
one_first P (z ∷ zs) [] after after' x x' is all all' not not' = absurd (not' (subst P (the_first z x' (zs ++ x ∷ after) after' is) (head_all P z zs all)))
one_first P (z ∷ zs) (y ∷ ys) after after' x x' is all all' not not' =
    let more = one_first P zs ys after after' x x' (the_rest z y (zs ++ x ∷ after) (ys ++ x' ∷ after') is) (tail_all P z zs all) (tail_all P y ys all') not not' in
    (ap suc more.0, more.1)

-- ---- sessions

one_unserved : (layout : Layout) (parts : List ℕ) (session session' part part' : ℕ) → IsFirstUnserved layout parts session part → IsFirstUnserved layout parts session' part' → (session' ≡ session) × (part' ≡ part)
one_unserved layout parts session session' part part' a b =
    let one = one_first (IsServedPart layout) a.before b.before a.after b.after part part' (sym a.is ∙ b.is) a.served b.served a.unserved b.unserved in
    (b.number ∙ (ap (λ (n : ℕ). n + 1) (sym one.0) ∙ sym a.number), sym one.1)

pub one_lack : (image : List (List ℕ)) (parts : List ℕ) (session session' part part' : ℕ) → LacksPart image parts session part → LacksPart image parts session' part' → NoPart session' part' ≡ NoPart session part
one_lack image parts session session' part part' a b =
    let one = one_unserved a.layout parts session session' part part' a.first
    (subst (λ (l : Layout). IsFirstUnserved l parts session' part') (same_layout image b.which a.which b.layout a.layout b.on_image a.on_image) b.first) in
    ap (λ (n : ℕ). NoPart n part') one.0 ∙ ap (λ (p : ℕ). NoPart session p) one.1

-- the partition of each session that was played on a layout is served
pub served_each : (layout : Layout) (plans : List PlannedSession) (sessions : List SessionReport) (before after : List ℕ) (part : ℕ) → AllZip IsPlayedBy (map asked_of plans) sessions
    → AllByRecursion (λ (s : SessionReport). IsRangeOf layout s.part s.range) sessions → parts_of plans ≡ before ++ part ∷ after → IsServedPart layout part
served_each layout [] [] [] after part played ranges is = absurd (cc)
served_each layout [] [] (x ∷ xs) after part played ranges is = absurd (cc)
served_each layout [] (s ∷ ss) before after part played ranges is = absurd played
served_each layout (p ∷ ps) [] before after part played ranges is = absurd played
served_each layout (p ∷ ps) (s ∷ ss) [] after part played ranges is =
    (s.range, subst (λ (n : ℕ). IsRangeOf layout n s.range) (played.0.part ∙ the_first p.part part (parts_of ps) after is) ranges.0)
served_each layout (p ∷ ps) (s ∷ ss) (x ∷ xs) after part played ranges is =
    served_each layout ps ss xs after part played.1 ranges.1 (the_rest p.part x (parts_of ps) (xs ++ part ∷ after) is)
