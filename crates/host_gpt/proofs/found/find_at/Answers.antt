use Rattle.std.proofs.Common.{◌≡◌, ◌<◌, ℕ, List, length, refl, sym, ◌∙◌, ap, subst, Option, IsTrue, inl, inr}
use Rattle.std.proofs.lemmas.Bool.{cases_lt}
use Rattle.host_block.specs.{DiskState, block_at}
use Rattle.host_io.specs.{Shape}
use Rattle.host_gpt.proofs.BlockLemmas.{image_length, block_length}
use Rattle.host_gpt.proofs.FoundLemmas.{finds_none, finds_large, finds_outside, finds_wrong, finds_valid}
use Rattle.host_gpt.specs.{crc_of, entries_from, IsLarge, array_length, current_image, HeaderAt, IsHeaderAt, array_of}
use Rattle.host_gpt.specs.declared.header.Header.{Header}
use Rattle.host_gpt.proofs.found.find_at.Goals as goal

pub returns-in-None-clause-found : goal.returns-in-None-clause-found
returns-in-None-clause-found g c told =
    let image = current_image (g.D.Disk.state c.args.disk.now) in
    finds_none image c.args.place c.args.which (subst (λ (f : Option Header). HeaderAt image c.args.place f) c.in-None.is (c.in_ok-header.ensures.header told))

pub returns-then-is_large-clause-found : goal.returns-then-is_large-clause-found
returns-then-is_large-clause-found g c told =
    let image = current_image (g.D.Disk.state c.args.disk.now) in
    let at : IsHeaderAt image c.args.place c.in-Some.header = subst (λ (f : Option Header). HeaderAt image c.args.place f) c.in-Some.is (c.in_ok-header.ensures.header told) in
    finds_large image c.args.place c.args.which c.in-Some.header at (c.if-is_large.ensures.0 refl)

pub returns-then-not-are_inside-clause-found : goal.returns-then-not-are_inside-clause-found
returns-then-not-are_inside-clause-found g c told =
    let s = g.D.Disk.state c.args.disk.now in
    let shape = g.D.Disk.shape c.args.disk.now in
    let image = current_image s in
    let of_size = g.met.D.Disk.of_size c.args.disk.now told in
    let at : IsHeaderAt image c.args.place c.in-Some.header = subst (λ (f : Option Header). HeaderAt image c.args.place f) c.in-Some.is (c.in_ok-header.ensures.header told) in
    let count : length image ≡ c.args.blocks = image_length shape.blocks shape.size s of_size ∙ sym c.requires.blocks in
    let long : length (block_at image c.args.place) ≡ c.bytes-2.result = block_length shape.blocks shape.size s c.args.place of_size (subst (λ (n : ℕ). c.args.place < n) c.requires.blocks c.requires.place) ∙ sym c.requires.size ∙ sym c.bytes-2.ensures.value in
    let small : ¬ IsLarge c.in-Some.header = λ large. let h = c.if-is_large.ensures.1 large in cc in
    finds_outside image c.args.place c.args.blocks c.bytes-2.result c.args.which c.in-Some.header at count long small
    (λ ins. let h = c.if-not-are_inside.ensures.1 ((c.array_blocks-count.ensures.inside c.args.blocks).1 ins) in cc)

pub read_array-requires-clause-inside : goal.read_array-requires-clause-inside
read_array-requires-clause-inside g c = c.if-not-are_inside.ensures.0 refl

pub returns-then-crc32-header-clause-found : goal.returns-then-crc32-header-clause-found
returns-then-crc32-header-clause-found g c told =
    let s = g.D.Disk.state c.args.disk.now in
    let image = current_image s in
    let at : IsHeaderAt image c.args.place c.in-Some.header = subst (λ (f : Option Header). HeaderAt image c.args.place f) c.in-Some.is (c.in_ok-header.ensures.header told) in
    let told1 : IsTrue (g.D.Disk.shape c.read_header.new.disk).tells = subst (λ (sh : Shape). IsTrue sh.tells) (sym c.in_ok-header.ensures.shape) told in
    let array : c.in_ok-array.array.items ≡ array_of image c.in-Some.header = c.in_ok-array.ensures.bytes told1 ∙ ap (λ (st : DiskState). array_of (current_image st) c.in-Some.header) c.in_ok-header.ensures.state in
    let small : ¬ IsLarge c.in-Some.header = λ large. let h = c.if-is_large.ensures.1 large in cc in
    finds_wrong image c.args.place c.args.which c.in-Some.header c.in_ok-array.array.items at array small
    (λ e. c.if-crc32-header.true (c.crc32.ensures ∙ ap crc_of c.deref.ensures.value ∙ e))

pub returns-clause-found : goal.returns-clause-found
returns-clause-found g c told =
    let s = g.D.Disk.state c.args.disk.now in
    let shape = g.D.Disk.shape c.args.disk.now in
    let image = current_image s in
    let header = c.in-Some.header in
    let of_size = g.met.D.Disk.of_size c.args.disk.now told in
    let at : IsHeaderAt image c.args.place header = subst (λ (f : Option Header). HeaderAt image c.args.place f) c.in-Some.is (c.in_ok-header.ensures.header told) in
    let told1 : IsTrue (g.D.Disk.shape c.read_header.new.disk).tells = subst (λ (sh : Shape). IsTrue sh.tells) (sym c.in_ok-header.ensures.shape) told in
    let array : c.in_ok-array.array.items ≡ array_of image header = c.in_ok-array.ensures.bytes told1 ∙ ap (λ (st : DiskState). array_of (current_image st) c.in-Some.header) c.in_ok-header.ensures.state in
    let count : length image ≡ c.args.blocks = image_length shape.blocks shape.size s of_size ∙ sym c.requires.blocks in
    let long : length (block_at image c.args.place) ≡ c.bytes-2.result = block_length shape.blocks shape.size s c.args.place of_size (subst (λ (n : ℕ). c.args.place < n) c.requires.blocks c.requires.place) ∙ sym c.requires.size ∙ sym c.bytes-2.ensures.value in
    let small : ¬ IsLarge header = λ large. let h = c.if-is_large.ensures.1 large in cc in
    let found = finds_valid image c.args.place c.args.blocks c.bytes-2.result header c.in_ok-array.array.items c.in_ok-entries.entries.items at count long array small
    ((c.array_blocks-count.ensures.inside c.args.blocks).0 (c.if-not-are_inside.ensures.0 refl))
    (ap crc_of (sym c.deref.ensures.value) ∙ sym c.crc32.ensures ∙ c.if-crc32-header.false)
    (c.in_ok-entries.ensures.entries ∙ ap (λ (l : List ℕ). entries_from 1 header.entry_size header.entry_count l) c.deref-2.ensures.value) in
    (found.0, refl, found.1)

pub read_array-requires-clause-small : goal.read_array-requires-clause-small
read_array-requires-clause-small g c = elim (cases_lt 1048576 (array_length c.in-Some.header)) [
  | inl above ↦ let large = c.if-is_large.ensures.1 (inr above) in absurd (cc)
  | inr within ↦ within
]
