-- What a crash leaves of the disk of the written run.
use Rattle.std.proofs.Common.{◌≡◌, ◌∙◌, inl, inr, ℕ, zero, suc, ◌<◌, ◌≤◌, List, [], ◌∷◌, refl, ap, arith, lit<, lit≤}
use Rattle.host_block.specs.{Change, content, IsCrashImage, IsVersion, IsCandidate, IsCrashOf, block_at}
use Rattle.host_model.specs.{changes_of}
use Rattle.run_rows.specs.{cells, unsynced, written}
use Rattle.run_rows.specs.Drive.{image}
use Rattle.run_rows.specs.Run.{report}

abbrev pub changes : List Change
changes = changes_of report.steps.items

-- what is durable is the content after all steps
is_content : (b : ℕ) → b < 5 → block_at written.durable b ≡ content image changes 4 b
is_content zero within = refl
is_content (suc zero) within = refl
is_content (suc (suc zero)) within = refl
is_content (suc (suc (suc zero))) within = refl
is_content (suc (suc (suc (suc zero)))) within = refl
is_content (suc (suc (suc (suc (suc b))))) within = absurd (omega (arith, within))

version : (b : ℕ) (bytes : List ℕ) → b < 5 → IsCandidate written b bytes → IsVersion image changes b bytes
version b bytes within (inl durable) = record { place = 4; after_barrier = lit≤ tt; within = lit≤ tt; is = durable ∙ is_content b within }
version b bytes within (inr pending) = absurd (let none : pending.0 < 0 = pending.1 in omega (arith, none))

pub crash : (left : List (List ℕ)) → IsCrashOf written left → IsCrashImage image changes left
crash left of = record { blocks = of.blocks; each = λ b within. version b (block_at left b) within (of.each b within) }

-- ---- what it can't leave

abbrev pub first_byte : List ℕ → ℕ
first_byte [] = 0
first_byte (b ∷ bytes) = b

-- after the closing flush a block has one version
pub one_version : (b : ℕ) (bytes : List ℕ) → IsVersion image changes b bytes → first_byte bytes ≡ first_byte (content image changes 4 b)
one_version b bytes v =
    let after : 4 ≤ v.place = v.after_barrier in
    let within : v.place ≤ 4 = v.within in
    let place : v.place ≡ 4 = omega (arith, after, within) in
    ap first_byte (v.is ∙ ap (λ p. content image changes p b) place)

pub loses : IsCrashOf unsynced image
loses = record { blocks = refl; each = λ b within. inl refl }

-- what stood there before is no version of the block that was written
pub written_is_missed : ¬ IsCrashImage image changes image
written_is_missed crash = let q : 0 ≡ 7 = one_version 3 (cells 0) (crash.each 3 (lit< tt)) in absurd (omega (arith, q))
