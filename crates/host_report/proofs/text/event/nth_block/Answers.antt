use Rattle.std.proofs.Common.{◌≡◌, ℕ, ◌*◌, ◌-◌, min, List, length, take, drop, ap, ◌∙◌}
use Rattle.std.proofs.lemmas.List.{drop_min, take_min, take_rest}
use Rattle.host_report.proofs.text.event.nth_block.Goals as goal

nth_part : (bytes : List ℕ) (w k s m size : ℕ) → w ≡ size → s ≡ min (k * w) (length bytes)
    → m ≡ min w (length (take (length bytes - s) (drop s bytes))) → take m (take (length bytes - s) (drop s bytes)) ≡ take size (drop (k * size) bytes)
nth_part bytes w k s m size width start end =
    let rest : List ℕ = take (length bytes - s) (drop s bytes) in
    ap (λ (n : ℕ). take n rest) end
    ∙ (take_min w rest
    ∙ (ap (λ (l : List ℕ). take w l) (take_rest bytes s)
    ∙ (ap (λ (n : ℕ). take w (drop n bytes)) start
    ∙ (ap (λ (l : List ℕ). take w l) (drop_min (k * w) bytes)
    ∙ ap (λ (v : ℕ). take v (drop (k * v) bytes)) width))))

pub returns : goal.returns
returns c = nth_part c.args.bytes.now c.bytes-width.result c.args.k c.min-start.result c.min.result c.args.size c.bytes-width.ensures.value c.min-start.ensures c.min.ensures
