-- Each session of a gathered report is lawful.
use Rattle.std.proofs.Common.{◌≡◌, ℕ, zero, suc, ◌<◌, ◌==◌, Bool, true, false, nat_lt, List, [], ◌∷◌, filter, get_or, length, Some, refl, sym, ap, ◌∙◌, arith, eq-eqb}
use Rattle.std.specs.List.{slice_get}
use Rattle.std.proofs.lemmas.Bool.{ltb-false, ltb-true}
use Rattle.host_block.proofs.Places.{within}
use Rattle.host_model.specs.{Step, IsLawfulSession}
use Rattle.host_report.specs.{Report, SessionReport, session_of}
use Rattle.host_log.specs.{entries_of}
use Rattle.host_session.specs.{ClientState}
use Rattle.host_worker.specs.{EndsState, HandEnd, shares_in, IsReportGathered}
use Rattle.session_law.specs.{IsSessionGathered as IsSession, steps_in, HaveKept}
use Rattle.session_law.proofs.Lawful.{sessions_are_lawful}
use Rattle.host_log.proofs.Places.{some_at, in_filter}
use Rattle.session_law.proofs.Kept.{hands_keep_sessions}
use Rattle.session_law.proofs.Whole.{all_one}
use Rattle.play_law.specs.{GatheredSessionsAreLawful}
use Rattle.play_law.proofs.Shares.{all_by, own_steps, share_at, shares_many}

module _ (ends : EndsState) (report : Report) (g : IsReportGathered ends report) (k : ℕ) (client : ClientState) (e : SessionReport) (c : slice_get g.clients k ≡ Some client) (s : slice_get ends.sessions k ≡ Some e) where
  there : (n : ℕ) (hand : HandEnd) → slice_get g.hands n ≡ Some hand → k < length hand.shares
  there = (g.ended.each k client e c s).there

  pub gathered : IsSession client (shares_in k g.hands) e.memory.items (session_of report e)
  gathered = record {
    whole = (g.ended.each k client e c s).whole;
    size = g.size_is ∙ sym (all_one (λ (x : ClientState). x.plan.spec.size ≡ ends.size) g.clients g.ended.sizes k client c);
    range = (g.ended.each k client e c s).plan.1;
    memory = refl;
    finish = (g.ended.each k client e c s).finish_is;
  }

  hands_many : length (shares_in k g.hands) ≡ client.plan.hands
  hands_many = shares_many k g.hands there ∙ sym (g.ended.each k client e c s).plan.2

  -- each step was made by one of the hands
  made_by : (p : ℕ) (step : Step) → slice_get ends.story p ≡ Some step → step.hand < client.plan.hands
  made_by p step at = split (nat_lt step.hand (length g.hands)) refl
    where
      nothing : (xs : List Step) (j : ℕ) (x : Step) → xs ≡ [] → slice_get xs j ≡ Some x → ⊥
      nothing [] zero x n y = cc
      nothing [] (suc j) x n y = cc
      nothing (z ∷ xs) j x n y = cc n

      split : (b : Bool) → nat_lt step.hand (length g.hands) ≡ b → step.hand < client.plan.hands
      split true f = let l = ltb-true step.hand (length g.hands) f in let n = (g.ended.each k client e c s).plan.2 in omega (arith, l, n)
      split false f =
          let r = in_filter (λ (x : Step). x.hand == step.hand) ends.story p step at (eq-eqb step.hand step.hand refl) in
          absurd (nothing (entries_of (λ (x : Step). x.hand) step.hand ends.story) r.0 step (g.ended.steps.others step.hand (ltb-false step.hand (length g.hands) f)) r.1)

  pub have_kept : HaveKept client (shares_in k g.hands) ends.story
  have_kept = record {
    dealt = (hands_many, λ n d lt. let x = share_at k g.hands there n d lt in ((g.ended.each k client e c s).kept n x.hand (get_or (shares_in k g.hands) n d) x.stands x.share).0);
    each = λ n d lt.
        let x = share_at k g.hands there n d lt in
        record {
          seen = x.hand.steps;
          later = g.ended.steps.of_hands n x.hand x.stands;
          keeps = ((g.ended.each k client e c s).kept n x.hand (get_or (shares_in k g.hands) n d) x.stands x.share).1;
        };
    made = λ p step at _. made_by p step at;
  }

  pub own_are : (session_of report e).steps ≡ steps_in client.plan.spec.number ends.story
  own_are =
      let number : e.number ≡ client.plan.spec.number = (g.ended.each k client e c s).number_is.0 ∙ sym (g.ended.each k client e c s).number_is.1 in
      ap (filter (λ (x : Step). x.session == e.number)) g.steps_are
      ∙ (own_steps e.number report.closing ends.story (let n = (g.ended.each k client e c s).number_is.0 in omega arith)
      ∙ ap (λ n. filter (λ (x : Step). x.session == n) ends.story) number)

  pub session_lawful : IsLawfulSession (session_of report e)
  session_lawful =
      sessions_are_lawful client (shares_in k g.hands) e.memory.items ends.story (session_of report e) gathered
      (hands_keep_sessions client (shares_in k g.hands) e.memory.items ends.story (session_of report e) gathered have_kept own_are)

pub gathered_sessions_are_lawful : GatheredSessionsAreLawful
gathered_sessions_are_lawful ends report g =
    all_by (λ e. IsLawfulSession (session_of report e)) report.sessions.items (λ k e at.
    let s : slice_get ends.sessions k ≡ Some e = ap (λ l. slice_get l k) (sym g.sessions_are) ∙ at in
    let c = some_at g.clients k (let w = within ends.sessions k e s in let n = g.ended.count in omega (arith, w, n)) in
    session_lawful ends report g k c.0 e c.1 s)
