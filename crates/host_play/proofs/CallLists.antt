-- Lists of calls, as a log grows by an event.
use Rattle.std.proofs.Common.{◌≡◌, ℕ, zero, suc, ◌≤◌, ◌<◌, true, false, not, List, [], ◌∷◌, ◌++◌, length, refl, ap, ◌∙◌, arith, length-append}
use Rattle.std.proofs.lemmas.List.Elements.{filter-append}
use Rattle.script_model.proofs.PrintedValues.{and_true}
use Rattle.script_model.proofs.Said.{and_both}
use Rattle.host_record.specs.{Finish}
use Rattle.host_model.specs.{Event, Received}
use Rattle.host_report.specs.{LineAsk, are_calls_for, before_call, calls_asked, calls_in, is_call_for, is_end_of, is_received, is_wait}
use Rattle.host_play.specs.{are_calls}

-- as many calls as were asked for
pub calls_length : (asks : List LineAsk) (log : List Event) → are_calls asks log ≡ true → length asks ≡ length log
calls_length [] [] h = refl
calls_length (a ∷ asks) (e ∷ log) h = ap suc (calls_length asks log (and_true (is_call_for a e) (are_calls asks log) h).1)
calls_length [] (e ∷ log) h = cc
calls_length (a ∷ asks) [] h = cc

-- one more of both
pub calls_snoc : (asks : List LineAsk) (log : List Event) (a : LineAsk) (e : Event) → are_calls asks log ≡ true → is_call_for a e ≡ true → are_calls (asks ++ a ∷ []) (log ++ e ∷ []) ≡ true
calls_snoc [] [] a e h c = and_both (is_call_for a e) true c refl
calls_snoc (b ∷ asks) (f ∷ log) a e h c =
    let parts = and_true (is_call_for b f) (are_calls asks log) h in
    and_both (is_call_for b f) _ parts.0 (calls_snoc asks log a e parts.1 c)
calls_snoc [] (f ∷ log) a e h c = cc
calls_snoc (b ∷ asks) [] a e h c = cc

-- the end after all calls
pub calls_end : (finish : Finish) (asks : List LineAsk) (log : List Event) (e : Event) → are_calls asks log ≡ true → is_end_of finish e ≡ true → are_calls_for finish asks (log ++ e ∷ []) ≡ true
calls_end finish [] [] e h c = c
calls_end finish (b ∷ asks) (f ∷ log) e h c =
    let parts = and_true (is_call_for b f) (are_calls asks log) h in
    and_both (is_call_for b f) _ parts.0 (calls_end finish asks log e parts.1 c)
calls_end finish [] (f ∷ log) e h c = cc
calls_end finish (b ∷ asks) [] e h c = cc

-- ---- before a call

-- what comes later than the call isn't before it
pub before_less : (k : ℕ) (xs ys : List Event) → k < length (calls_in xs) → before_call k (xs ++ ys) ≡ before_call k xs
before_less k [] ys h = absurd (omega arith)
before_less k (Received bytes ∷ xs) ys h = ap (λ l. Received bytes ∷ l) (before_less k xs ys h)
before_less zero (e ∷ xs) ys h = refl
before_less (suc k) (e ∷ xs) ys h = ap (λ l. e ∷ l) (before_less k xs ys (omega arith))

-- all stands before a call that wasn't made yet
pub before_all : (k : ℕ) (xs : List Event) → length (calls_in xs) ≤ k → before_call k xs ≡ xs
before_all k [] h = refl
before_all k (Received bytes ∷ xs) h = ap (λ l. Received bytes ∷ l) (before_all k xs h)
before_all zero (e ∷ xs) h = absurd (omega arith)
before_all (suc k) (e ∷ xs) h = ap (λ l. e ∷ l) (before_all k xs (omega arith))

-- one event more, which isn't an answer, stands before no earlier call
pub before_stop : (k : ℕ) (xs : List Event) (e : Event) → is_received e ≡ false → k ≤ length (calls_in xs) → before_call k (xs ++ e ∷ []) ≡ before_call k xs
before_stop k (Received bytes ∷ xs) e c h = ap (λ l. Received bytes ∷ l) (before_stop k xs e c h)
before_stop zero (x ∷ xs) e c h = refl
before_stop (suc k) (x ∷ xs) e c h = ap (λ l. x ∷ l) (before_stop k xs e c (omega arith))
before_stop zero [] (Received bytes) c h = cc
before_stop zero [] e c h = refl
before_stop (suc k) [] e c h = absurd (omega arith)

-- ---- the asks before one

pub asked-append : (front back : List LineAsk) → calls_asked (front ++ back) ≡ calls_asked front ++ calls_asked back
asked-append front back = filter-append (λ a. not (is_wait a)) front back

pub asked_within : (front back asks : List LineAsk) → asks ≡ front ++ back → length (calls_asked front) ≤ length (calls_asked asks)
asked_within front back asks e =
    let split : length (calls_asked asks) ≡ length (calls_asked front ++ calls_asked back) = ap (λ l. length (calls_asked l)) e ∙ ap (λ (l : List LineAsk). length l) (asked-append front back) in
    omega (arith, length-append (calls_asked front) (calls_asked back))
