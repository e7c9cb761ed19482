-- Slips that are thrown away, until one answers a record that was sent.
use Rattle.std.proofs.Common.{◌≡◌, ℕ, true, false, not, ◌&&◌, [], ◌∷◌, ◌++◌, Some, refl, sym, ap, ◌∙◌, append_assoc, append-nil}
use Rattle.std.specs.List.{list_all}
use Rattle.std.proofs.lemmas.List.Folds.{list_all-append}
use Rattle.host_model.proofs.ListTests.{and-from}
use Rattle.host_record.specs.declared.response.Response.{Response}
use Rattle.host_record.specs.{response_of}
use Rattle.host_rings.specs.{Slip, SlipTakerState, with_slip_taken}
use Rattle.host_session.specs.{is_answer, HasThrown, IsNextAnswer}

module _ (sent : ℕ) where
  pub thrown_none : (t : SlipTakerState) → HasThrown sent t t
  thrown_none t = record { thrown = []; no_answers = refl; taken = ap (λ l. record t { taken = l }) (sym (append-nil t.taken)) }

  module _ (t u v : SlipTakerState) (s : Slip) (h : HasThrown sent t u) (is : v ≡ with_slip_taken u s) where
    pub thrown_one : is_answer sent s ≡ false → HasThrown sent t v
    thrown_one none = record {
      thrown = h.thrown ++ s ∷ [];
      no_answers = list_all-append (λ x. not (is_answer sent x)) h.thrown (s ∷ []) ∙ and-from (list_all (λ x. not (is_answer sent x)) h.thrown) (not (is_answer sent s) && true) h.no_answers (ap (λ b. not b && true) none);
      taken = is ∙ (ap (λ x. with_slip_taken x s) h.taken ∙ ap (λ l. record t { taken = l }) (append_assoc t.taken h.thrown (s ∷ [])));
    }

    pub answer_found : (r : Response) → is_answer sent s ≡ true → response_of s.bytes ≡ Some r → IsNextAnswer sent t v s r
    answer_found r answers read = record {
      thrown = h.thrown;
      no_answers = h.no_answers;
      answer = answers;
      read = read;
      taken = is ∙ (ap (λ x. with_slip_taken x s) h.taken ∙ ap (λ l. record t { taken = l }) (append_assoc t.taken h.thrown (s ∷ [])));
    }
