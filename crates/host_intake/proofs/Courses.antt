-- How the phases of a session follow each other.
use Rattle.std.proofs.Common.{◌≡◌, true, false, ◌&&◌, List, [], ◌∷◌, ◌++◌, refl, sym, ap, ◌∙◌}
use Rattle.host_model.specs.{is_nil, last}
use Rattle.host_intake.specs.{Phase, Running, Draining, Aborted, Closed, is_course, is_last_turn, is_shut, is_ending}
use Rattle.host_log.proofs.Bools.{and_left, and_right}

never : {A : Type 0} → false ≡ true → A
never e = absurd (cc)

-- the second turn closes, and is the last
second_shuts : (p q : Phase) (ps : List Phase) → is_course (p ∷ q ∷ ps) ≡ true → (is_shut q ≡ true) × (is_nil ps ≡ true)
second_shuts p q ps h = let t = and_right (is_ending p) (is_last_turn (q ∷ ps)) h in (and_left (is_shut q) (is_nil ps) t, and_right (is_shut q) (is_nil ps) t)

last_of_two : (p q : Phase) (ps : List Phase) → is_nil ps ≡ true → last Running (p ∷ q ∷ ps) ≡ q
last_of_two p q [] n = refl
last_of_two p q (r ∷ ps) n = never n

-- a session that runs may be told to end
pub course_begun : (ps : List Phase) (p : Phase) → is_course ps ≡ true → last Running ps ≡ Running → is_ending p ≡ true → is_course (ps ++ p ∷ []) ≡ true
course_begun [] p h r e = ap (λ b. b && true) e
course_begun (q ∷ []) p h r e = never (sym (ap is_ending r) ∙ and_left (is_ending q) true h)
course_begun (q ∷ t ∷ ps) p h r e = let two = second_shuts q t ps h in never (sym (ap is_shut (sym (last_of_two q t ps two.1) ∙ r)) ∙ two.0)

-- a session that was told to end may be closed
pub course_shut : (ps : List Phase) → is_course ps ≡ true → is_ending (last Running ps) ≡ true → is_course (ps ++ Closed ∷ []) ≡ true
course_shut [] h e = never e
course_shut (p ∷ []) h e = ap (λ b. b && true) e
course_shut (p ∷ q ∷ ps) h e = let two = second_shuts p q ps h in never (shut_or_ending q two.0 (ap is_ending (sym (last_of_two p q ps two.1)) ∙ e))
  where
    shut_or_ending : (q : Phase) → is_shut q ≡ true → is_ending q ≡ true → false ≡ true
    shut_or_ending Running s e = s
    shut_or_ending Draining s e = s
    shut_or_ending Aborted s e = s
    shut_or_ending Closed s e = e
