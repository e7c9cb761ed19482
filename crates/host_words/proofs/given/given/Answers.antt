use Rattle.std.proofs.Common.{Err, ◌∙◌, ap, sym, subst, map}
use Rattle.clap.specs.Faults.{fault_of, is_simple_and_free}
use Rattle.clap.specs.Kinds.{HasKind}
use Rattle.clap.specs.Simple.{App, matches_of}
use Rattle.host_words.specs.{IsGiven}
use Rattle.clap.proofs.WalkLemmas.{both}
use Rattle.host_words.proofs.Rules.{is_simple_syntax}
use Rattle.host_words.proofs.Parsed.{given_failed, given_ok}
use Rattle.host_words.proofs.given.given.Goals as goal

pub returns-in-Ok : goal.returns-in-Ok
returns-in-Ok c = λ name o proper app.
    let free = ap is_simple_and_free app ∙ is_simple_syntax name o in
    let none = c.in-Ok.ensures.kinds free in
    let rows = c.in-Ok.ensures.matches (both _ _ free).0 in
    given_ok name o proper c.args.words.now c.in-Ok.matches c.requires (ap (λ (a : App). fault_of a (map (λ w. w.now) c.args.words.now)) (sym app) ∙ none)
    (rows.0 ∙ ap (λ (a : App). matches_of a (map (λ w. w.now) c.args.words.now)) app)

pub returns-in-Err : goal.returns-in-Err
returns-in-Err c = λ name o proper app.
    let free = ap is_simple_and_free app ∙ is_simple_syntax name o in
    let kinds = subst (λ (a : App). HasKind (fault_of a (map (λ w. w.now) c.args.words.now)) c.in-Err.error) app (c.in-Err.ensures.kinds free) in
    subst (λ r. IsGiven o (map (λ w. w.now) c.args.words.now) (Err r)) (sym c.refusal.ensures) (given_failed name o proper c.args.words.now c.in-Err.error c.requires kinds)
