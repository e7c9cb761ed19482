-- Calls that a list names as failing.
use Rattle.std.proofs.Common.{◌≡◌, ℕ, ◌+◌, ◌<◌, Bool, true, List, length, drop, get_or, sym, ◌∙◌, ap, subst, Option, Some, Err, rules, min, eq-eqb}
use Rattle.std.specs.Prelude.{if◌then◌else◌, ◌==◌, ◌&&◌, ◌↔◌, IsTrue, Contains}
use Rattle.std.proofs.lemmas.List.{drop_more}
use Rattle.host_block.specs.{DiskState, part_synced}
use Rattle.host_io.specs.{SyncsAsListed, Failed, kind_number, names_call, part_listed, CallKind, FailAt}

is_named : (f : FailAt) (kind : CallKind) (nr : ℕ) → f.kind ≡ kind → f.nr ≡ nr → names_call f kind nr ≡ true
is_named f kind nr same_kind same_nr =
    (λ i. eq-eqb (kind_number f.kind) (kind_number kind) (ap kind_number same_kind) i && (f.nr == nr))
    ∙ eq-eqb f.nr nr same_nr

-- the entry at which the search stands names the call
pub part_found : (fails : List FailAt) (i : ℕ) (kind : CallKind) (nr : ℕ) (d : FailAt) → i < length fails → (get_or fails i d).kind ≡ kind → (get_or fails i d).nr ≡ nr
    → Some (get_or fails i d).part ≡ part_listed (drop i fails) kind nr
part_found fails i kind nr d within same_kind same_nr =
    let f = get_or fails i d in
    let rest = drop (i + 1) fails in
    sym (ap (λ (l : List FailAt). part_listed l kind nr) (drop_more fails i d within)
    ∙ ap (λ (b : Bool). if b then Some f.part else part_listed rest kind nr) (is_named f kind nr same_kind same_nr))

-- the list of numbers names a call where the test says so, and the other way round
pub listed_here : (seen listed : List ℕ) (counted nr : ℕ) (answer : Bool) → seen ≡ listed → counted ≡ nr → IsTrue answer ↔ Contains seen counted → answer ≡ true → Contains listed nr
listed_here seen listed counted nr answer same number iff listed_so = subst (λ (p : List ℕ × ℕ). Contains p.0 p.1) (λ i. (same i, number i)) (iff.0 listed_so)

pub listed_there : (seen listed : List ℕ) (counted nr : ℕ) (answer : Bool) → seen ≡ listed → counted ≡ nr → IsTrue answer ↔ Contains seen counted → Contains listed nr → answer ≡ true
listed_there seen listed counted nr answer same number iff there = iff.1 (subst (λ (p : List ℕ × ℕ). Contains p.0 p.1) (λ i. (sym same i, sym number i)) there)

-- a sync that fails where it is listed, once so many writes are durable
pub synced_as_listed : (listed : Option ℕ) (part n len : ℕ) (old new : DiskState) → listed ≡ Some part → n ≡ min part len → len ≡ length old.pending → new ≡ part_synced old n
    → SyncsAsListed listed old new (Err Failed)
synced_as_listed listed part n len old new is_listed done all made =
    subst (λ (o : Option ℕ). SyncsAsListed o old new (Err Failed)) (sym is_listed) (record {
      fails = search rules;
      part = made ∙ ap (λ (k : ℕ). part_synced old k) (done ∙ ap (λ (k : ℕ). min part k) all);
    })
