-- What a start gives to the sessions that are played on it.
use Rattle.std.proofs.Common.{◌≡◌, ℕ, ◌+◌, ◌≤◌, List, length, map, Option, Some, None, Result, Ok, Err, refl, sym, ◌∙◌, ap, subst}
use Rattle.std.specs.Prelude.{◌↔◌, All, IfOk, IfSome, IsSome}
use Rattle.std.proofs.lemmas.List.{length-map}
use Rattle.std.proofs.lemmas.List.Elements.{All-map}
use Rattle.host_block.specs.declared.range.Range.{Range}
use Rattle.host_io.specs.{image_of, opening_of}
use Rattle.host_io.specs.declared.mem_disk.MemDisk.{MemDisk}
use Rattle.host_run.specs.{opening_image}
use Rattle.host_start.specs.{image_in, parts_of, ImageCopy, Place}
use Rattle.script_model.specs.{PlannedSession}

-- the ranges of places that lie in the image lie there
pub ranges_inside : (blocks : ℕ) (places : List Place) → All (λ (p : Place). p.range.first + p.range.count ≤ blocks) places → All (λ (r : Range). r.first + r.count ≤ blocks) (map (λ (p : Place). p.range) places)
ranges_inside blocks places inside = All-map (λ (r : Range). r.first + r.count ≤ blocks) (λ (p : Place). p.range) places inside

-- there are as many places as sessions
pub as_many : (plans : List PlannedSession) (places : List Place) → map (λ (p : Place). p.part) places ≡ parts_of plans → length places ≡ length plans
as_many plans places named = sym (length-map places (λ (p : Place). p.part)) ∙ (ap (λ (l : List ℕ). length l) named ∙ length-map plans (λ (plan : PlannedSession). plan.part))

-- three facts of a success give a fourth
pub on_three : {T E : Type 0} (r : Result T E) (P Q R S : T → Type 0) → ((t : T) → P t → Q t → R t → S t) → IfOk r P → IfOk r Q → IfOk r R → IfOk r S
on_three (Ok t) P Q R S from p q s = from t p q s
on_three (Err e) P Q R S from p q s = tt

-- two facts of a success give a third
pub on_two : {T E : Type 0} (r : Result T E) (P Q R : T → Type 0) → ((t : T) → P t → Q t → R t) → IfOk r P → IfOk r Q → IfOk r R
on_two (Ok t) P Q R from p q = from t p q
on_two (Err e) P Q R from p q = tt

-- one fact of a success gives another
pub on_one : {T E : Type 0} (r : Result T E) (P Q : T → Type 0) → ((t : T) → P t → Q t) → IfOk r P → IfOk r Q
on_one (Ok t) P Q from p = from t p
on_one (Err e) P Q from p = tt

-- ---- a copy that is handed out

-- what holds of the image of a copy holds of what its disk opened with
pub of_its_disk : (P : List (List ℕ) → Type 0) (size : ℕ) (copy : Option ImageCopy) (disk : Option MemDisk) → IsSome disk ↔ IsSome copy → IfSome disk (λ (d : MemDisk). IfSome copy (λ (c : ImageCopy). d ≡ c.disk))
    → IfSome copy (λ (c : ImageCopy). c.size ≡ size) → IfSome copy (λ (c : ImageCopy). P (image_in c)) → IfSome disk (λ (d : MemDisk). P (opening_image size d))
of_its_disk P size copy None both same sized holds = tt
of_its_disk P size None (Some d) both same sized holds = absurd (cc (both.0 refl))
of_its_disk P size (Some c) (Some d) both same sized holds = subst P (λ i. image_of (sized i) (opening_of (sym same i))) holds
