-- One more request, and one more session, of a generated script.
use Rattle.std.proofs.Common.{◌≡◌, ℕ, suc, ◌+◌, ◌-◌, ◌<◌, List, [], ◌∷◌, ◌++◌, map, ap, sym, ◌∙◌, append_assoc, arith}
use Rattle.std.proofs.lemmas.List.{map-append}
use Rattle.script_model.specs.{ScriptLine, SessionScript, PlannedSession, plan_of, request_line, waits, request_lines, after_request, after_requests, session_from, sessions_from}

one_less : (n m : ℕ) → n < m → m - n ≡ suc (m - (n + 1))
one_less n m h = omega arith

pub state_more : (x y n requests z : ℕ) → n < requests → y ≡ after_request x → after_requests x (requests - n) ≡ z → after_requests y (requests - (n + 1)) ≡ z
state_more x y n requests z h e whole =
    ap (λ s. after_requests s (requests - (n + 1))) e ∙ sym (ap (after_requests x) (one_less n requests h)) ∙ whole

pub lines_more : (items more whole : List ScriptLine) (x y n requests : ℕ) → n < requests → more ≡ items ++ request_line x n ∷ waits n (requests - (n + 1)) → y ≡ after_request x → items ++ request_lines x n (requests - n) ≡ whole → more ++ request_lines y (n + 1) (requests - (n + 1)) ≡ whole
lines_more items more whole x y n requests h e s all =
    let left = requests - (n + 1) in
    ap (λ xs. xs ++ request_lines y (n + 1) left) e
    ∙ ap (λ (z : ℕ). (items ++ request_line x n ∷ waits n left) ++ request_lines z (n + 1) left) s
    ∙ append_assoc items (request_line x n ∷ waits n left) (request_lines (after_request x) (n + 1) left)
    ∙ ap (λ k. items ++ request_lines x n k) (sym (one_less n requests h))
    ∙ all

pub sessions_more : (made more : List SessionScript) (s : SessionScript) (whole : List PlannedSession) (x y i count requests : ℕ) → i < count → more ≡ made ++ s ∷ [] → plan_of s ≡ session_from x (i + 1) requests → y ≡ after_requests x requests → map plan_of made ++ sessions_from x (i + 1) requests (count - i) ≡ whole → map plan_of more ++ sessions_from y (i + 1 + 1) requests (count - (i + 1)) ≡ whole
sessions_more made more s whole x y i count requests h e p t all =
    let left = count - (i + 1) in
    ap (λ xs. map plan_of xs ++ sessions_from y (i + 1 + 1) requests left) e
    ∙ ap (λ ps. ps ++ sessions_from y (i + 1 + 1) requests left) (map-append plan_of made (s ∷ []))
    ∙ append_assoc (map plan_of made) (plan_of s ∷ []) (sessions_from y (i + 1 + 1) requests left)
    ∙ ap (λ q. map plan_of made ++ q ∷ sessions_from y (i + 1 + 1) requests left) p
    ∙ ap (λ (z : ℕ). map plan_of made ++ session_from x (i + 1) requests ∷ sessions_from z (i + 1 + 1) requests left) t
    ∙ ap (λ k. map plan_of made ++ sessions_from x (i + 1) requests k) (sym (one_less i count h))
    ∙ all
