-- Each field of a lawful session refuses a session.
use Rattle.std.proofs.Common.{◌≡◌, ℕ, ◌≤◌, true, false, List, [], length, get_or, refl, lit≤, lit<, ap, arith}
use Rattle.host_model.specs.{judged}
use Rattle.host_record.specs.{opcode}
use Rattle.model_rows.specs.{AnswersAreNeeded, BuffersAreNeeded, CarryingIsNeeded, EachSessionFieldIsNeeded, OrderIsNeeded, TakingIsNeeded}

never : false ≡ true → ⊥
never e = cc e

abbrev first_of : List ℕ → ℕ
first_of xs = get_or xs 0 0

taking : TakingIsNeeded
unfolding opcode judged
taking = record {
  numbered = λ h. let q : 7 ≡ 0 = ap first_of h.numbered in absurd (omega (arith, q));
  only_sent = λ h. let few : 2 ≤ 1 = h.only_sent in absurd (omega (arith, few));
  verdicts = λ h. absurd (cc h.verdicts);
  never_ends = λ h. let q : 1 ≡ 2 = ap length h.ends in absurd (omega (arith, q));
  ends = λ h. absurd (cc h.ends);
  all_taken = λ h. let q : 2 ≡ 3 = h.all_taken refl in absurd (omega (arith, q));
  ids = λ h. never h.ids;
}

carrying : CarryingIsNeeded
unfolding opcode judged
carrying = record {
  steps = λ h. never (h.each 0 (lit< tt)).steps;
  outcome = λ h. absurd (cc (h.each 1 (lit< tt)).outcome);
  others = λ h. never h.others;
}

answers : AnswersAreNeeded
unfolding opcode judged
answers = record {
  at_most = λ h. never (h.at_most 2 (lit≤ tt));
  exactly = λ h. never (h.exactly refl);
}

-- the first byte that the first show gave
abbrev shown_first : List (List ℕ) → ℕ
shown_first xs = first_of (get_or xs 0 [])

buffers : BuffersAreNeeded
unfolding opcode judged
buffers = record {
  entries = λ h. let q : 2 ≡ 3 = ap length h.entries in absurd (omega (arith, q));
  ids = λ h. let q : 2 ≡ 1 = ap first_of h.ids in absurd (omega (arith, q));
  shows = λ h. let q : 0 ≡ 0xc1 = ap shown_first h.shows in absurd (omega (arith, q));
  lifts = λ h. never h.lifts;
  each = λ h. let q : 3 ≡ 4 = ap length (h.each 0 (lit< tt)) in absurd (omega (arith, q));
  others = λ h. never h.others;
  never_released = λ h. never h.once;
  once = λ h. never h.once;
  last = λ h. never h.last;
  closes = λ h. never h.closes;
  used = λ h. never h.used;
}

order : OrderIsNeeded
unfolding opcode judged
order = record {
  records = λ h. never (h.records 0 2 (lit< tt) (lit< tt));
  client = λ h. never (h.client 0 (lit< tt));
  events = λ h. never (h.events 2 8 (lit< tt) (lit< tt));
}

pub each_session_field_is_needed : EachSessionFieldIsNeeded
each_session_field_is_needed = record {
  taking = taking;
  carrying = carrying;
  answers = answers;
  buffers = buffers;
  order = order;
}
