use Rattle.std.proofs.Common.{◌≡◌, Some, IsSome, refl, sym, ap, subst, ◌∙◌, arith}
use Rattle.std.proofs.lemmas.Option.{slice_get_read}
use Rattle.host_worker.proofs.Unroomed.{given_room}
use Rattle.host_worker.proofs.finish.room_in.Goals as goal

pub unwrap-requires : goal.unwrap-requires
unwrap-requires g c =
    let there = slice_get_read c.args.hands.now.items _ 0 c.index_mut.result.now refl (omega arith) c.index_mut.ensures.value in
    subst (λ o. IsSome o) (sym c.take.ensures.value) (c.requires.kept c.index_mut.result.now there)

pub returns-clause-room : goal.returns-clause-room
returns-clause-room g c =
    let there = slice_get_read c.args.hands.now.items _ 0 c.index_mut.result.now refl (omega arith) c.index_mut.ensures.value in
    λ hand at.
    let q : Some hand ≡ Some c.index_mut.result.now = sym at ∙ there in
    let same : hand ≡ c.index_mut.result.now = cc q in
    ap (λ h. h.room) same ∙ (sym c.take.ensures.value ∙ c.unwrap.ensures)

pub returns-clause-hands : goal.returns-clause-hands
returns-clause-hands g c =
    let there = slice_get_read c.args.hands.now.items _ 0 c.index_mut.result.now refl (omega arith) c.index_mut.ensures.value in
    given_room c.args.hands.now.items 0 c.index_mut.result.now _ there refl
