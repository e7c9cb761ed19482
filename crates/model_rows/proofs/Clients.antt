-- The course of a client on worked values.
use Rattle.std.proofs.Common.{◌≡◌, ◌≤◌, ℕ, zero, suc, true, false, [], ◌∷◌, take, Option, Some, refl, lit≤, lit<, ap, sym, subst, arith}
use Rattle.std.specs.Prelude.{slice_get, unwrap_or, IsTrue}
use Rattle.host_model.specs.declared.memory.MemEvent.TheVariants as mem
use Rattle.host_record.specs.{all_zero, is_padded}
use Rattle.host_rings.specs.{Slip}
use Rattle.host_session.specs.{Act, IsAct, is_answer}
use Rattle.model_rows.specs.{attaching, acts, looking, filling, receiving, sending, ClientsAreAsWritten}
use Rattle.model_rows.specs.Clients.{buffers, answer, other}

attaches : IsAct buffers [] attaching
attaches = record {
  plain = record {
    envelope = refl;
    slip = refl;
    fronts = record { device = lit≤ tt; memory = lit≤ tt };
  };
  past = lit< tt;
}

sends : IsAct buffers (take 1 acts) sending
sends = record {
  next = refl;
  envelope = refl;
  slip = refl;
  fronts = record {
    device = lit≤ tt;
    memory = lit≤ tt;
  };
}

receives : IsAct buffers (take 2 acts) receiving
unfolding is_padded all_zero
receives = record {
  received = answer;
  slip = refl;
  bytes_are = refl;
  answer = refl;
  envelope = refl;
  fronts = record { device = lit≤ tt; memory = lit≤ tt };
  raised = record { device = lit≤ tt; memory = lit≤ tt };
}

fills : IsAct buffers (take 3 acts) filling
fills = record {
  plain = record {
    envelope = refl;
    slip = refl;
    fronts = record {
      device = lit≤ tt;
      memory = lit≤ tt;
    };
  };
  past = lit< tt;
}

finds_none : IsAct buffers (take 4 acts) looking
finds_none = record {
  plain = record {
    envelope = refl;
    slip = refl;
    fronts = record { device = lit≤ tt; memory = lit≤ tt };
  };
  within = lit≤ tt;
  none = refl;
}

same_of : (a b : Act) → Some a ≡ Some b → a ≡ b
same_of a b e = ap (λ (o : Option Act). unwrap_or o a) e

each_act : (n : ℕ) (a : Act) → slice_get acts n ≡ Some a → IsAct buffers (take n acts) a
each_act zero a e = subst (λ (x : Act). IsAct buffers [] x) (same_of attaching a e) attaches
each_act (suc zero) a e =
    subst (λ (x : Act). IsAct buffers (take 1 acts) x) (same_of sending a e) sends
each_act (suc (suc zero)) a e =
    subst (λ (x : Act). IsAct buffers (take 2 acts) x) (same_of receiving a e) receives
each_act (suc (suc (suc zero))) a e =
    subst (λ (x : Act). IsAct buffers (take 3 acts) x) (same_of filling a e) fills
each_act (suc (suc (suc (suc zero)))) a e =
    subst (λ (x : Act). IsAct buffers (take 4 acts) x) (same_of looking a e) finds_none
each_act (suc (suc (suc (suc (suc zero))))) a e = absurd (cc)
each_act (suc (suc (suc (suc (suc (suc n)))))) a e = absurd (cc)

never : true ≡ false → ⊥
never e = cc e

pub clients_are_as_written : ClientsAreAsWritten
clients_are_as_written = record {
  attaches = attaches;
  sends = sends;
  receives = receives;
  fills = fills;
  finds_none = finds_none;
  course = record {
    events_are = refl;
    envelopes = refl;
    sent = refl;
    numbered = refl;
    slips = record {
      marked = (other, false) ∷ (answer, true) ∷ [];
      all_are = refl;
      some_are = refl;
    };
    received = refl;
    fronts = record { device = lit≤ tt; memory = lit≤ tt };
    places = refl;
    each = each_act;
  };
  forgetful = λ h. absurd (let f = h.fronts.device in omega arith);
  too_early = λ h. absurd (let e = ap (λ (o : Option Slip). unwrap_or o answer) h.slip in let f =
      subst (λ (s : Slip). IsTrue (is_answer 0 s)) (sym e) h.answer in cc);
  in_the_past = λ h. absurd (let p = h.past in omega arith);
  wrongly_refused = λ h. never h.none;
  released_early = λ late. absurd (let p : 1 ≤ 0 =
      (late 0 (record { hand = 1; what = mem.Release 1 }) refl refl refl).0 in omega arith);
  undone = (refl, refl, refl);
  undone_after_a_drain = (refl, refl, refl, refl);
  done = refl;
}
