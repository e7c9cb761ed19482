-- A step that was entered.
use Rattle.std.proofs.Common.{◌≡◌, ℕ, Bool, true, false, Result, Ok, Err, List, [], ◌∷◌, refl, sym, ◌∙◌, ap}
use Rattle.std.specs.Prelude.{IfOk}
use Rattle.host_block.specs.{Op, Read}
use Rattle.host_model.specs.{Step}
use Rattle.host_device.specs.{Stored, StepError, Owner, answered, step_by, step_entry, answer_alone, entry_bytes, entries_added}

added_is : (faulted : Bool) (entry : Bool → Step) → entries_added (answered faulted) entry ≡ entry faulted ∷ []
added_is true entry = refl
added_is false entry = refl

-- the one entry that was stored is the one that the answer tells
pub entered : (owner : Owner) (op : Op) (b : ℕ) (given : List ℕ) (stored : Stored) (answer : Result Unit StepError) → stored.bytes ≡ entry_bytes op given stored.faulted → answer ≡ answered stored.faulted
    → step_by owner op b stored ∷ [] ≡ entries_added answer (step_entry owner op b given)
entered owner op b given stored answer bytes is =
    ap (λ (x : List ℕ). step_by owner op b (record { bytes = x; faulted = stored.faulted }) ∷ []) bytes
    ∙ sym (added_is stored.faulted (step_entry owner op b given))
    ∙ ap (λ (a : Result Unit StepError). entries_added a (step_entry owner op b given)) (sym is)

unfaulted : (into : List ℕ) (faulted : Bool) → ◌≡◌ {A = Result Unit StepError} (Ok tt) (answered faulted) → entry_bytes Read into faulted ≡ into
unfaulted into true is = cc
unfaulted into false is = refl

-- a read that didn't fail hands out what it read
pub given_bytes : (into given : List ℕ) (stored : Stored) (r : Result (List ℕ) StepError) → stored.bytes ≡ entry_bytes Read into stored.faulted → given ≡ stored.bytes
    → answer_alone r ≡ answered stored.faulted → IfOk r (λ bytes. bytes ≡ given) → IfOk r (λ bytes. bytes ≡ into)
given_bytes into given stored (Err e) entered same answer is = tt
given_bytes into given stored (Ok bytes) entered same answer is = is ∙ same ∙ entered ∙ unfaulted into stored.faulted answer
