-- Partitions of a layout, and the first of a list of sessions that isn't served.
use Rattle.std.proofs.Common.{◌≡◌, ℕ, false, cond, ◌+◌, ◌<◌, List, [], ◌∷◌, ◌++◌, length, map, take, drop, get_or, refl, sym, ◌∙◌, ap, subst, arith, take-append-drop, take-suc, drop-cons, suc}
use Rattle.std.specs.Prelude.{◌↔◌, All, IsErrOf, Result, Ok, Err, is_ok, is_err}
use Rattle.std.proofs.lemmas.List.{get_or-map, length-map, map-append}
use Rattle.std.proofs.lemmas.List.Elements.{All-map, All-push, All-same, All-weaker}
use Rattle.host_block.specs.declared.range.Range.{Range}
use Rattle.host_gpt.specs.{AreUsed, IsTableOf, Which}
use Rattle.host_part.specs.{IsBad, IsRangeOf, IsNumberUnused, Layout, layout_of, PartError, Unused, BadEntry}
use Rattle.host_part.proofs.RangeLemmas.{entry_not_unused, served_not_bad}
use Rattle.host_gpt.specs.declared.table.Table.{Table}
use Rattle.host_start.specs.{ArePlaces, FindsPlaces, IsFirstUnserved, IsLayoutOn, IsServedPart, SaysOfTable, parts_of, StartError, Place}
use Rattle.host_start.specs.declared.error.StartError.TheVariants as error
use Rattle.script_model.specs.{plan_of, SessionScript}

-- a number without a range isn't served
pub not_served : (layout : Layout) (part : ℕ) (error : PartError) → AreUsed layout.entries → IsErrOf {T = Range} (Err error) Unused ↔ IsNumberUnused layout part
    → IsErrOf {T = Range} (Err error) BadEntry ↔ IsBad layout part → ¬ IsServedPart layout part
not_served layout part Unused used unused bad (range, is) = entry_not_unused layout part is.entry is.is (unused.0 refl)
not_served layout part BadEntry used unused bad (range, is) = served_not_bad layout part is.entry used is.is is.served (bad.0 refl)

-- the partitions that sessions name, as their plans say
pub same_parts : (sessions : List SessionScript) → parts_of (map plan_of sessions) ≡ map (λ (s : SessionScript). s.part) sessions
same_parts [] = refl
same_parts (s ∷ sessions) = ap (λ (l : List ℕ). s.part ∷ l) (same_parts sessions)

-- the partitions of the first n sessions were found
pub record AreFirst (layout : Layout) (parts : List ℕ) (places : List Place) (n : ℕ) : Type 0 where
  pub named : map (λ (p : Place). p.part) places ≡ take n parts
  pub ranges : All (λ (p : Place). IsRangeOf layout p.part p.range) places

-- one more
pub more_first : (layout : Layout) (parts : List ℕ) (places : List Place) (n : ℕ) (place : Place) → AreFirst layout parts places n → n < length parts → get_or parts n 0 ≡ place.part
    → IsRangeOf layout place.part place.range → AreFirst layout parts (places ++ place ∷ []) (n + 1)
more_first layout parts places n place first within is range = record {
  named =
      map-append (λ (p : Place). p.part) places (place ∷ [])
      ∙ (λ i. first.named i ++ sym is i ∷ [])
      ∙ sym (take-suc parts n 0 within)
      ∙ ap (λ (k : ℕ). take k parts) (let more : suc n ≡ n + 1 = omega arith in more);
  ranges = All-push (λ (p : Place). IsRangeOf layout p.part p.range) places place first.ranges range;
}

-- the next session is the first that isn't served
pub first_unserved : (layout : Layout) (parts : List ℕ) (places : List Place) (n part : ℕ) → AreFirst layout parts places n → n < length parts → get_or parts n 0 ≡ part → ¬ IsServedPart layout part
    → IsFirstUnserved layout parts (length places + 1) part
first_unserved layout parts places n part first within is unserved = record {
  before = take n parts;
  after = drop (suc n) parts;
  is = sym (take-append-drop n parts) ∙ ap (λ (l : List ℕ). take n parts ++ l) (drop-cons parts n 0 within ∙ ap (λ (p : ℕ). p ∷ drop (suc n) parts) is);
  number = ap (λ (k : ℕ). k + 1) (sym (length-map places (λ (p : Place). p.part)) ∙ ap length first.named);
  served = All-same (IsServedPart layout) (take n parts) (map (λ (p : Place). p.part) places) (sym first.named)
      (All-map (IsServedPart layout) (λ (p : Place). p.part) places
      (All-weaker (λ (p : Place). IsRangeOf layout p.part p.range) (λ (p : Place). IsServedPart layout p.part) (λ p is. (p.range, is)) places first.ranges));
  unserved = unserved;
}

-- what was pushed
pub pushed : {E A : Type 0} (r : Result Unit E) (xs ys new : List A) → is_err r ≡ false → new ≡ cond (is_ok r) ys xs → new ≡ ys
pushed (Ok u) xs ys new no_error is = is
pushed (Err e) xs ys new no_error is = cc

-- the part of session n
pub part_at : (sessions : List SessionScript) (n : ℕ) (session : SessionScript) → n < length sessions → session ≡ get_or sessions n session → get_or (map (λ (s : SessionScript). s.part) sessions) n 0 ≡ session.part
part_at sessions n session within is = get_or-map (λ (s : SessionScript). s.part) sessions n session 0 within ∙ ap (λ (s : SessionScript). s.part) (sym is)

-- ---- on an image

-- a table of the image has this layout there
pub layout_on : (image : List (List ℕ)) (table : Table) (blocks : ℕ) → IsTableOf image table → blocks ≡ length image → IsLayoutOn image table.which (layout_of table blocks)
layout_on image table blocks is count = record { disk_id = table.disk_id; table = is; blocks = count }

-- all sessions were found
pub all_placed : (layout laid : Layout) (sessions slice : List SessionScript) (places : List Place) → layout ≡ laid → slice ≡ sessions → ArePlaces layout (map (λ (s : SessionScript). s.part) slice) places
    → ArePlaces laid (parts_of (map plan_of sessions)) places
all_placed layout laid sessions slice places same is placed =
    subst (λ (l : Layout). ArePlaces l (parts_of (map plan_of sessions)) places) same
    (subst (λ (ps : List ℕ). ArePlaces layout ps places) (ap (λ (l : List SessionScript). map (λ (s : SessionScript). s.part) l) is ∙ sym (same_parts sessions)) placed)

-- the first that isn't
lacks : (image : List (List ℕ)) (which : Which) (layout : Layout) (parts : List ℕ) (e : StartError) → IsLayoutOn image which layout → FindsPlaces layout parts (Err e) → SaysOfTable image parts e
lacks image which layout parts (error.NoPart session part) on first = record { which = which; layout = layout; on_image = on; first = first }
lacks image which layout parts error.Oom on first = tt
lacks image which layout parts error.Source on first = absurd first
lacks image which layout parts (error.BadScript line cause) on first = absurd first
lacks image which layout parts (error.TooLarge what) on first = absurd first
lacks image which layout parts error.Disk on first = absurd first
lacks image which layout parts error.NoTable on first = absurd first

pub one_lacking : (image : List (List ℕ)) (table : Table) (blocks : ℕ) (layout : Layout) (sessions slice : List SessionScript) (e : StartError) → IsTableOf image table → blocks ≡ length image → layout ≡ layout_of table blocks → slice ≡ sessions
    → FindsPlaces layout (map (λ (s : SessionScript). s.part) slice) (Err e) → SaysOfTable image (parts_of (map plan_of sessions)) e
one_lacking image table blocks layout sessions slice e is count same same_slice found =
    lacks image table.which (layout_of table blocks) (parts_of (map plan_of sessions)) e (layout_on image table blocks is count)
    (subst (λ (l : Layout). FindsPlaces l (parts_of (map plan_of sessions)) (Err e)) same
    (subst (λ (ps : List ℕ). FindsPlaces layout ps (Err e)) (ap (λ (l : List SessionScript). map (λ (s : SessionScript). s.part) l) same_slice ∙ sym (same_parts sessions)) found))
