use Rattle.std.proofs.Common.{◌≡◌, ℕ, ◌+◌, ◌-◌, List, length, ◌++◌, take, drop, sym, ◌∙◌, refl, arith, length-append, length-drop, length-take}
use Rattle.std.proofs.lemmas.List.{take_at, drop-drop, take-append-drop, drop_all}
use Rattle.host_io.specs.{next_count}
use Rattle.host_io.proofs.FailLemmas.{listed_here}
use Rattle.host_io.proofs.mem_source.MemSourceSource.take.Goals as goal

-- the next n bytes stand in front of what is left
taken : (at n k : ℕ) (all all' got rest : List ℕ) → k ≡ n → all' ≡ all → got ≡ take k (drop at all') → length got ≡ n → drop at all ≡ take n (got ++ rest) ++ drop (at + n) all
taken at n k all all' got rest width same is long =
    let front : take n (got ++ rest) ≡ take n (drop at all) = take_at got rest n long ∙ is ∙ (λ i. take (width i) (drop at (same i))) in
    sym (take-append-drop n (drop at all)) ∙ (λ i. (sym front) i ++ drop-drop n at all i)

pub returns-clause-bytes : goal.returns-clause-bytes
returns-clause-bytes c =
    let s = c.args.self.now in
    let n = c.min-count.result in
    let into = c.args.into.now in
    let got = c.copy_from_slice.new.self in
    record {
      bytes = λ told. taken s.at n ((s.at + n) - s.at) s.bytes.items c.deref-2.result.now got (drop n into) (omega arith) c.deref-2.ensures.value c.copy_from_slice.ensures.after (omega (arith, c.copy_from_slice.ensures.len, length-take n into, c.min-count.ensures));
      end = λ told none wanted. drop_all s.at s.bytes.items (omega (arith, none, wanted, s.bytes.ok.0, c.len.ensures, c.min-count.ensures, c.copy_from_slice.ensures.len, length-append got (drop n into), length-take n into, length-drop n into));
    }

pub returns-then-is_listed-clause-fails : goal.returns-then-is_listed-clause-fails
returns-then-is_listed-clause-fails c =
    let nr : c.saturating_add-self.result ≡ next_count c.args.self.now.calls = omega (arith, c.saturating_add-self.ensures, c.fits-self) in
    (λ _. listed_here c.deref.result.now c.args.self.now.fails.items _ _ c.is_listed.result c.deref.ensures.value nr c.is_listed.ensures c.if-is_listed.true, λ _. refl)
