use Rattle.std.proofs.Common.{◌≡◌, ◌++◌, ◌∷◌, [], Bool, List, length, refl, sym, ap, subst, ◌∙◌, arith, length-append}
use Rattle.std.specs.Option.{option_to_list}
use Rattle.std.proofs.lemmas.List.{length-reverse}
use Rattle.host_report.specs.{SessionReport}
use Rattle.host_session.specs.{AreKeptAs}
use Rattle.host_worker.proofs.Taking.{AreEndedSoFar, end_as_reported, ended_more, ended_none, next_to_end, own_to_end}
use Rattle.host_worker.proofs.finish.end_all.Goals as goal

pub loop-session-init : goal.loop-session-init
loop-session-init c = (
  subst (λ (l : List SessionReport). AreEndedSoFar c.args.sessions.items c.args.clients.items c.reverse.new.self.items c.reverse-2.new.self.items l) (sym c.requires.room.0)
      (ended_none c.args.sessions.items c.args.clients.items c.reverse.new.self.items c.reverse-2.new.self.items c.requires.sessions.count c.reverse.ensures.items c.reverse-2.ensures.items),
  omega (arith, ap length c.requires.room.0, c.requires.room.1, ap length c.reverse.ensures.items, length-reverse c.args.sessions.items),
  refl,
)

pub end_session-requires : goal.end_session-requires
end_session-requires c =
    own_to_end c.args.sessions.items c.args.clients.items c.loop-session.sessions.items c.pop.new.self.items c.loop-session.clients.items c.pop-in-Some.new.self.items c.loop-session.ends.items
    c.args.ends.kept c.requires.sessions c.loop-session.invariant.0 c.in-Some.session c.unwrap-client.result
    (c.pop.ensures.items ∙ ap (λ o. c.pop.new.self.items ++ option_to_list o) c.in-Some.is)
    (c.pop-in-Some.ensures.items ∙ ap (λ o. c.pop-in-Some.new.self.items ++ option_to_list o) c.unwrap-client.ensures)

pub put_end-requires-clause-kept : goal.put_end-requires-clause-kept
put_end-requires-clause-kept c =
    let t = next_to_end c.args.sessions.items c.args.clients.items c.loop-session.sessions.items c.pop.new.self.items c.loop-session.clients.items c.pop-in-Some.new.self.items c.loop-session.ends.items
    c.args.ends.kept c.requires.sessions c.loop-session.invariant.0 c.in-Some.session c.unwrap-client.result
    (c.pop.ensures.items ∙ ap (λ o. c.pop.new.self.items ++ option_to_list o) c.in-Some.is)
    (c.pop-in-Some.ensures.items ∙ ap (λ o. c.pop-in-Some.new.self.items ++ option_to_list o) c.unwrap-client.ensures) in
    subst (λ (b : Bool). AreKeptAs b c.end_session.result.logs) (t.keeps_is ∙ sym c.loop-session.invariant.2) c.end_session.ensures.kept

pub loop-session-preserved : goal.loop-session-preserved
loop-session-preserved c =
    let s = c.pop.ensures.items ∙ ap (λ o. c.pop.new.self.items ++ option_to_list o) c.in-Some.is in
    let p = c.put_end.ensures in
    let more = ended_more c.args.sessions.items c.args.clients.items c.loop-session.sessions.items c.pop.new.self.items c.loop-session.clients.items c.pop-in-Some.new.self.items c.loop-session.ends.items
    c.args.ends.kept c.requires.sessions c.loop-session.invariant.0 c.in-Some.session c.unwrap-client.result s
    (c.pop-in-Some.ensures.items ∙ ap (λ o. c.pop-in-Some.new.self.items ++ option_to_list o) c.unwrap-client.ensures)
    p.report (end_as_reported c.in-Some.session c.unwrap-client.result c.end_session.result p.report c.end_session.ensures.end p.says) in
    let pushed : c.put_end.new.ends.items ≡ c.loop-session.ends.items ++ p.report ∷ [] = ap (λ l. l.items) p.put in
    let room : c.put_end.new.ends.room ≡ c.loop-session.ends.room = ap (λ l. l.room) p.put in
    let kept : c.put_end.new.ends.kept ≡ c.loop-session.ends.kept = ap (λ l. l.kept) p.put in (
      subst (λ (l : List SessionReport). AreEndedSoFar c.args.sessions.items c.args.clients.items c.pop.new.self.items c.pop-in-Some.new.self.items l) (sym pushed) more,
      omega (arith, c.loop-session.invariant.1, ap length s, length-append c.pop.new.self.items (c.in-Some.session ∷ []), ap length pushed, length-append c.loop-session.ends.items (p.report ∷ []), room),
      kept ∙ c.loop-session.invariant.2,
    )
