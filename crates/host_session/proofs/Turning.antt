-- The phases of an intake are those to which its client turned it.
use Rattle.std.proofs.Common.{◌≡◌, ℕ, ◌+◌, Bool, true, false, cond, List, [], ◌∷◌, ◌++◌, Option, Some, None, MatchOption, nat_eq, refl, sym, ap, subst, ◌∙◌, arith}
use Rattle.std.specs.List.{cons_option, list_all}
use Rattle.std.proofs.lemmas.Bool.{eqb-true, eq-eqb}
use Rattle.std.proofs.lemmas.List.Folds.{list_all-append}
use Rattle.host_intake.specs.{IntakeEntry, Took, Landed, Passed, Turned, Phase, IntakePlan, maker_of, IsIntake, is_turned_below, IntakeState, plan_of_intake, turn_of, turns}
use Rattle.host_model.proofs.ListTests.{both}
use Rattle.host_log.specs.{Continues, entries_of}
use Rattle.host_turn.specs.{BookSeat, IsSameSeat, fixed_part, number, seen_by}
use Rattle.host_session.specs.{IntakeSeat, IsTurnedTo}
use Rattle.host_session.proofs.Snoc.{found_one}

-- an entry under another number turned nothing
turned_by : (c : ℕ) (e : IntakeEntry) → is_turned_below (c + 1) e ≡ true → nat_eq (maker_of e) c ≡ false → turn_of e ≡ None
turned_by c (Took hand envelope verdict waits seen) e f = refl
turned_by c (Landed hand index end answer kept) e f = refl
turned_by c (Passed hand) e f = refl
turned_by c (Turned hand phase) e f = let n : hand + 1 ≡ c + 1 = eqb-true (hand + 1) (c + 1) e in absurd (cc (sym f ∙ eq-eqb hand c (omega (arith, n))))

turns_own : (c : ℕ) (es : List IntakeEntry) → list_all (is_turned_below (c + 1)) es ≡ true → turns (entries_of maker_of c es) ≡ turns es
turns_own c [] h = refl
turns_own c (e ∷ es) h = let t = both (is_turned_below (c + 1) e) (list_all (is_turned_below (c + 1)) es) h in at (nat_eq (maker_of e) c) refl t.0 (turns_own c es t.1)
  where
    at : (b : Bool) → nat_eq (maker_of e) c ≡ b → is_turned_below (c + 1) e ≡ true → turns (entries_of maker_of c es) ≡ turns es → turns (cond b (e ∷ entries_of maker_of c es) (entries_of maker_of c es)) ≡ cons_option (turn_of e) (turns es)
    at true f g ih = ap (cons_option (turn_of e)) ih
    at false f g ih = ih ∙ sym (ap (λ o. cons_option o (turns es)) (turned_by c e g f))

-- what others did since turned nothing
pub turns_same : (c : ℕ) (seen rest es : List IntakeEntry) → seen ++ rest ≡ es → entries_of maker_of c es ≡ entries_of maker_of c seen → list_all (is_turned_below (c + 1)) es ≡ true → turns es ≡ turns seen
turns_same c seen rest es whole same by =
    let first : list_all (is_turned_below (c + 1)) seen ≡ true = (both (list_all (is_turned_below (c + 1)) seen) (list_all (is_turned_below (c + 1)) rest) (sym (list_all-append (is_turned_below (c + 1)) seen rest) ∙ (ap (list_all (is_turned_below (c + 1))) whole ∙ by))).0 in
    sym (turns_own c es by) ∙ (ap turns same ∙ turns_own c seen first)

pub turned_more : (c : ℕ) (es : List IntakeEntry) (phase : Phase) → turns (es ++ Turned c phase ∷ []) ≡ turns es ++ phase ∷ []
turned_more c es phase = found_one turn_of es (Turned c phase) phase refl

-- the number of the admissions' seat
pub admissions_are : (o : Option IntakePlan) (plan : IntakePlan) (n : ℕ) → MatchOption o ⊥ (λ p. p.admissions ≡ n) → o ≡ Some plan → plan.admissions ≡ n
admissions_are o plan n is e = subst (λ p. MatchOption p ⊥ (λ q. q.admissions ≡ n)) e is

pub same_seat : {S E F : Type 0} (p q r : BookSeat S E F) → IsSameSeat p q → IsSameSeat q r → IsSameSeat p r
same_seat p q r e f = (f.0 ∙ e.0, f.1 ∙ e.1, f.2 ∙ e.2, f.3 ∙ e.3)

-- The intake that the client entered has the phases that the client had seen.
pub entered_turns : (c : ℕ) (phases : List Phase) (old mid : IntakeSeat) (s : IntakeState) → IsTurnedTo c phases old → IsSameSeat old mid → s.entries ≡ seen_by mid → Continues maker_of (number old) (seen_by old) (seen_by mid) → fixed_part mid ≡ Some (plan_of_intake s) → IsIntake s
    → turns s.entries ≡ phases
entered_turns c phases old mid s to same story later fixed is =
    let adm : number s.memory_seat ≡ c + 1 = admissions_are (fixed_part old) (plan_of_intake s) (c + 1) to.admissions (sym same.3 ∙ fixed) in
    let by : list_all (is_turned_below (c + 1)) s.entries ≡ true = subst (λ (n : ℕ). list_all (is_turned_below n) s.entries ≡ true) adm is.turned.by_client in
    let own : entries_of maker_of c s.entries ≡ entries_of maker_of c (seen_by old) = subst (λ (n : ℕ). entries_of maker_of n s.entries ≡ entries_of maker_of n (seen_by old)) to.number_is (ap (entries_of maker_of (number old)) story ∙ later.1) in
    turns_same c (seen_by old) later.0.0 s.entries (later.0.1 ∙ sym story) own by ∙ to.turned
