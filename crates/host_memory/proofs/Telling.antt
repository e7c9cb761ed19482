-- What buffers are told to be, once an entry was added.
use Rattle.std.proofs.Common.{◌≡◌, ◌≢◌, ◌⊎◌, inl, inr, ℕ, suc, ◌+◌, ◌<◌, ◌==◌, Bool, true, false, ◌&&◌, ◌||◌, nat_le, nat_lt, if◌then◌else◌, List, [], ◌∷◌, ◌++◌, length, get_or, set, replicate, Option, Some, None, refl, sym, ap, subst, ◌∙◌, arith, eq-eqb, filter_map}
use Rattle.std.specs.Bool.{then_some}
use Rattle.std.specs.Prelude.{slice_get}
use Rattle.std.specs.List.{cons_option, list_any}
use Rattle.std.proofs.lemmas.Bool.{ne_eqb}
use Rattle.std.proofs.lemmas.Bool.Decides.{eqb_tells}
use Rattle.std.proofs.lemmas.Grind.{get_or-set_at}
use Rattle.std.proofs.lemmas.Option.{slice_get_within}
use Rattle.std.proofs.lemmas.List.{get_or-set_other, length-set, length-replicate}
use Rattle.atomic_table.specs.Seated.{TableId}
use Rattle.host_frames.specs.{SeenPages}
use Rattle.host_model.specs.{MemEvent, Attach, Fill, Show, Pin, Lift, Land, Done, Release, page_at, page_put_by, buffer_of, is_release_of}
use Rattle.host_model.specs.declared.memory.MemEvent.TheVariants as mem
use Rattle.host_memory.specs.{Buffer, attachment_by, closer_by, is_released, AreTold, IsToldBy, listed, contents_held, page_held, outline, is_among, page_filled, pins_on, is_attach_entry}
use Rattle.host_memory.proofs.Pushed.{any_add, any_skip, count_skip, filter_map_add, filter_map_skip, page_same, page_put}
use Rattle.host_memory.proofs.Replacing.{slice_get-set}
use Rattle.host_log.proofs.Bools.{or_parts}

-- an entry that tells nothing of buffer v but what pins it
pub record LeavesAlone (size v : ℕ) (e : MemEvent) : Type 0 where
  pub attachment : attachment_by v e ≡ None
  pub closer : closer_by v e ≡ None
  pub release : is_release_of v e ≡ false
  pub put : (k : ℕ) → page_put_by size v k e ≡ None

pub leaves_alone : (size v : ℕ) (e : MemEvent) → (buffer_of e == v) ≡ false → LeavesAlone size v e
leaves_alone size v (Attach id pages from) n = record { attachment = ap (λ b. then_some b (record { pages = pages; from = from })) n; closer = refl; release = refl; put = λ k. refl }
leaves_alone size v (Fill id block cnt byte) n = record { attachment = refl; closer = refl; release = refl; put = λ k. ap (λ b. then_some (b && nat_le block k && nat_lt k (block + cnt)) (replicate size byte)) n }
leaves_alone size v (Show id block cnt) n = record { attachment = refl; closer = refl; release = refl; put = λ k. refl }
leaves_alone size v (Pin index id by) n = record { attachment = refl; closer = refl; release = refl; put = λ k. refl }
leaves_alone size v (Lift index j id block bytes) n = record { attachment = refl; closer = refl; release = refl; put = λ k. refl }
leaves_alone size v (Land index j id block bytes) n = record { attachment = refl; closer = refl; release = refl; put = λ k. ap (λ b. then_some (b && block == k) bytes) n }
leaves_alone size v (Done index id) n = record { attachment = refl; closer = refl; release = refl; put = λ k. refl }
leaves_alone size v (mem.Close index id) n = record { attachment = refl; closer = ap (λ b. then_some b index) n; release = refl; put = λ k. refl }
leaves_alone size v (Release id) n = record { attachment = refl; closer = refl; release = n; put = λ k. refl }

-- pages of one outline are as many
count_outlined : Option ((TableId × ℕ) × ℕ) → ℕ
count_outlined None = 0
count_outlined (Some o) = o.1

length_outlined : (p : Option SeenPages) → length (contents_held p) ≡ count_outlined (outline p)
unfolding count_outlined
length_outlined None = refl
length_outlined (Some p) = refl

pub same_length : (p q : Option SeenPages) → outline p ≡ outline q → length (contents_held p) ≡ length (contents_held q)
same_length p q e = length_outlined p ∙ (ap count_outlined e ∙ sym (length_outlined q))

module _ (pool : TableId × ℕ) (size : ℕ) (h : List MemEvent) (v : ℕ) (b : Buffer) where
  -- an entry that leaves the buffer as it was
  pub told_still : (e : MemEvent) → LeavesAlone size v e → pins_on v (h ++ e ∷ []) ≡ pins_on v h → IsToldBy pool size h v b → IsToldBy pool size (h ++ e ∷ []) v b
  told_still e a p t = let same = any_skip (is_release_of v) h e a.release in record {
    attached = filter_map_skip (attachment_by v) h e a.attachment ∙ t.attached;
    closed = filter_map_skip (closer_by v) h e a.closer ∙ t.closed;
    pinned = p ∙ t.pinned;
    held = t.held ∙ ap (λ z. if z then None else Some (pool, b.page_count)) (sym same);
    unpinned = λ r. t.unpinned (sym same ∙ r);
    bytes = λ k lt. t.bytes k lt ∙ sym (page_same size h v k e (a.put k));
    long = t.long;
    few = t.few;
  }

  fill_step : (block cnt byte k : ℕ) (t : Bool) → page_put_by size v k (Fill v block cnt byte) ≡ then_some t (replicate size byte) → (old : List ℕ) → length old ≡ size → old ≡ page_at size h v k
      → (if t then replicate (length old) byte else old) ≡ page_at size (h ++ Fill v block cnt byte ∷ []) v k
  fill_step block cnt byte k true put old long is = ap (λ n. replicate n byte) long ∙ sym (page_put size h v k (Fill v block cnt byte) (replicate size byte) put)
  fill_step block cnt byte k false put old long is = is ∙ sym (page_same size h v k (Fill v block cnt byte) put)

  filled_long : (byte : ℕ) (t : Bool) (old : List ℕ) → length old ≡ size → length (if t then replicate (length old) byte else old) ≡ size
  filled_long byte true old long = length-replicate (length old) byte ∙ long
  filled_long byte false old long = long

  -- some blocks of the buffer were filled
  pub told_filled : (block cnt byte : ℕ) (q : Option SeenPages) → outline q ≡ outline b.pages → ((k : ℕ) → page_held q k ≡ page_filled block cnt byte b.pages k)
      → pins_on v (h ++ Fill v block cnt byte ∷ []) ≡ pins_on v h → IsToldBy pool size h v b → IsToldBy pool size (h ++ Fill v block cnt byte ∷ []) v (record b { pages = q })
  told_filled block cnt byte q o f p t = let e = Fill v block cnt byte in
      let n = same_length q b.pages o in
      let put : (k : ℕ) → page_put_by size v k e ≡ then_some (is_among block cnt k) (replicate size byte) = (λ k. ap (λ z. then_some (z && nat_le block k && nat_lt k (block + cnt)) (replicate size byte)) (eq-eqb v v refl)) in
      record {
        attached = filter_map_skip (attachment_by v) h e refl ∙ t.attached;
        closed = filter_map_skip (closer_by v) h e refl ∙ t.closed;
        pinned = p ∙ t.pinned;
        held = o ∙ (t.held ∙ ap (λ z. if z then None else Some (pool, b.page_count)) (sym (any_skip (is_release_of v) h e refl)));
        unpinned = λ r. t.unpinned (sym (any_skip (is_release_of v) h e refl) ∙ r);
        bytes = λ k lt. (let l : k < length (contents_held b.pages) = omega arith in f k ∙ fill_step block cnt byte k (is_among block cnt k) (put k) (page_held b.pages k) (t.long k l) (t.bytes k l));
        long = λ k lt. (let l : k < length (contents_held b.pages) = omega arith in ap length (f k) ∙ filled_long byte (is_among block cnt k) (page_held b.pages k) (t.long k l));
        few = t.few;
      }

  land_step : (index j block k : ℕ) (ws : List ℕ) (cs : List (List ℕ)) → block < length cs → (t : ((block == k) ≡ true) × (block ≡ k) ⊎ ((block == k) ≡ false) × (block ≢ k)) → get_or cs k [] ≡ page_at size h v k
      → get_or (set cs block ws) k [] ≡ page_at size (h ++ Land index j v block ws ∷ []) v k
  land_step index j block k ws cs lt (inl s) is =
      let e = Land index j v block ws in
      let put : page_put_by size v k e ≡ Some ws = ap (λ z. then_some (z && block == k) ws) (eq-eqb v v refl) ∙ ap (λ z. then_some z ws) s.0 in
      get_or-set_at cs block k ws [] (sym s.1) lt ∙ sym (page_put size h v k e ws put)
  land_step index j block k ws cs lt (inr s) is =
      let e = Land index j v block ws in
      let put : page_put_by size v k e ≡ None = ap (λ z. then_some (z && block == k) ws) (eq-eqb v v refl) ∙ ap (λ z. then_some z ws) s.0 in
      get_or-set_other cs block k ws [] (λ z. s.1 (sym z)) ∙ (is ∙ sym (page_same size h v k e put))

  landed_long : (block k : ℕ) (ws : List ℕ) (cs : List (List ℕ)) → block < length cs → length ws ≡ size → (t : ((block == k) ≡ true) × (block ≡ k) ⊎ ((block == k) ≡ false) × (block ≢ k)) → length (get_or cs k []) ≡ size → length (get_or (set cs block ws) k []) ≡ size
  landed_long block k ws cs lt long (inl s) is = ap length (get_or-set_at cs block k ws [] (sym s.1) lt) ∙ long
  landed_long block k ws cs lt long (inr s) is = ap length (get_or-set_other cs block k ws [] (λ z. s.1 (sym z))) ∙ is

  -- a page of the buffer was written
  pub told_landed : (index j block : ℕ) (ws : List ℕ) (q : Option SeenPages) → outline q ≡ outline b.pages → contents_held q ≡ set (contents_held b.pages) block ws → block < length (contents_held b.pages) → length ws ≡ size
      → pins_on v (h ++ Land index j v block ws ∷ []) ≡ pins_on v h → IsToldBy pool size h v b → IsToldBy pool size (h ++ Land index j v block ws ∷ []) v (record b { pages = q })
  told_landed index j block ws q o f lt ws_long p t = let e = Land index j v block ws in
      let n = same_length q b.pages o in
      record {
        attached = filter_map_skip (attachment_by v) h e refl ∙ t.attached;
        closed = filter_map_skip (closer_by v) h e refl ∙ t.closed;
        pinned = p ∙ t.pinned;
        held = o ∙ (t.held ∙ ap (λ z. if z then None else Some (pool, b.page_count)) (sym (any_skip (is_release_of v) h e refl)));
        unpinned = λ r. t.unpinned (sym (any_skip (is_release_of v) h e refl) ∙ r);
        bytes = λ k l. (let m : k < length (contents_held b.pages) = omega arith in ap (λ c. get_or c k []) f ∙ land_step index j block k ws (contents_held b.pages) lt (eqb_tells block k) (t.bytes k m));
        long = λ k l. (let m : k < length (contents_held b.pages) = omega arith in ap (λ c. length (get_or c k [])) f ∙ landed_long block k ws (contents_held b.pages) lt ws_long (eqb_tells block k) (t.long k m));
        few = t.few;
      }

  -- a pin came or went
  pub told_counted : (e : MemEvent) (n : ℕ) → LeavesAlone size v e → pins_on v (h ++ e ∷ []) ≡ n → (is_released v h ≡ true → n ≡ 0) → IsToldBy pool size h v b → IsToldBy pool size (h ++ e ∷ []) v (record b { pins = n })
  told_counted e n a p u t = let same = any_skip (is_release_of v) h e a.release in record {
    attached = filter_map_skip (attachment_by v) h e a.attachment ∙ t.attached;
    closed = filter_map_skip (closer_by v) h e a.closer ∙ t.closed;
    pinned = p;
    held = t.held ∙ ap (λ z. if z then None else Some (pool, b.page_count)) (sym same);
    unpinned = λ r. u (sym same ∙ r);
    bytes = λ k lt. t.bytes k lt ∙ sym (page_same size h v k e (a.put k));
    long = t.long;
    few = t.few;
  }

  -- the buffer was closed
  pub told_closed : (index : ℕ) → pins_on v (h ++ mem.Close index v ∷ []) ≡ pins_on v h → b.closer ≡ None → IsToldBy pool size h v b → IsToldBy pool size (h ++ mem.Close index v ∷ []) v (record b { closer = Some index })
  told_closed index p none t = let e = mem.Close index v in let same = any_skip (is_release_of v) h e refl in record {
    attached = filter_map_skip (attachment_by v) h e refl ∙ t.attached;
    closed = filter_map_add (closer_by v) h e index (ap (λ z. then_some z index) (eq-eqb v v refl)) ∙ ap (λ l. l ++ index ∷ []) (t.closed ∙ ap listed none);
    pinned = p ∙ t.pinned;
    held = t.held ∙ ap (λ z. if z then None else Some (pool, b.page_count)) (sym same);
    unpinned = λ r. t.unpinned (sym same ∙ r);
    bytes = λ k lt. t.bytes k lt ∙ sym (page_same size h v k e refl);
    long = t.long;
    few = t.few;
  }

  -- the buffer's pages left
  pub told_released : pins_on v (h ++ Release v ∷ []) ≡ pins_on v h → pins_on v h ≡ 0 → IsToldBy pool size h v b → IsToldBy pool size (h ++ Release v ∷ []) v (record b { pages = None })
  told_released p free t = let e = Release v in record {
    attached = filter_map_skip (attachment_by v) h e refl ∙ t.attached;
    closed = filter_map_skip (closer_by v) h e refl ∙ t.closed;
    pinned = p ∙ t.pinned;
    held = ap (λ z. if z then None else Some (pool, b.page_count)) (sym (any_add (is_release_of v) h e (eq-eqb v v refl)));
    unpinned = λ r. sym t.pinned ∙ free;
    bytes = λ k lt. absurd (omega arith);
    long = λ k lt. absurd (omega arith);
    few = t.few;
  }

-- of a buffer that has no entries nothing is told
module _ (v : ℕ) where
  pub no_map : {B : Type 0} (f : MemEvent → Option B) → ((e : MemEvent) → (buffer_of e == v) ≡ false → f e ≡ None) → (h : List MemEvent) → list_any (λ e. buffer_of e == v) h ≡ false → filter_map f h ≡ []
  no_map f n [] e = refl
  no_map f n (x ∷ xs) e = let parts = or_parts (buffer_of x == v) (list_any (λ y. buffer_of y == v) xs) e in ap (λ o. cons_option o (filter_map f xs)) (n x parts.0) ∙ no_map f n xs parts.1

  pub no_any : (p : MemEvent → Bool) → ((e : MemEvent) → (buffer_of e == v) ≡ false → p e ≡ false) → (h : List MemEvent) → list_any (λ e. buffer_of e == v) h ≡ false → list_any p h ≡ false
  no_any p n [] e = refl
  no_any p n (x ∷ xs) e = let parts = or_parts (buffer_of x == v) (list_any (λ y. buffer_of y == v) xs) e in ap (λ b. b || list_any p xs) (n x parts.0) ∙ no_any p n xs parts.1

module _ (pool : TableId × ℕ) (size : ℕ) (h : List MemEvent) (bs : List Buffer) (t : AreTold pool size h bs) where
  -- buffer i + 1 has an entry more
  pub told_set : (i : ℕ) (b c : Buffer) (e : MemEvent) → slice_get bs i ≡ Some b → buffer_of e ≡ suc i → is_attach_entry e ≡ false
      → ((w : ℕ) → w ≢ suc i → pins_on w (h ++ e ∷ []) ≡ pins_on w h) → IsToldBy pool size (h ++ e ∷ []) (suc i) c → AreTold pool size (h ++ e ∷ []) (set bs i c)
  told_set i b c e at of n p told = record {
    given = count_skip is_attach_entry h e n ∙ (t.given ∙ sym (length-set bs i c));
    each = λ j d g. elim (slice_get-set bs i j c d g) as (λ _. IsToldBy pool size (h ++ e ∷ []) (suc j) d) [
      | inl q ↦ subst (λ k. IsToldBy pool size (h ++ e ∷ []) (suc k) d) (sym q.0) (subst (λ x. IsToldBy pool size (h ++ e ∷ []) (suc i) x) q.1 told)
      | inr q ↦ (let apart : suc j ≢ suc i = (λ z. q.0 (omega arith)) in
          told_still pool size h (suc j) d e (leaves_alone size (suc j) e (ne_eqb (buffer_of e) (suc j) (λ z. apart (sym z ∙ of)))) (p (suc j) apart) (t.each j d q.1))
    ];
    never = any_skip (λ x. buffer_of x == 0) h e (ne_eqb (buffer_of e) 0 (λ z. absurd (let s = sym of ∙ z in omega arith))) ∙ t.never;
    fresh = λ v out. (let within = slice_get_within bs i b at in let same = length-set bs i c in
        any_skip (λ x. buffer_of x == v) h e (ne_eqb (buffer_of e) v (λ z. absurd (let s = sym of ∙ z in omega arith))) ∙ t.fresh v (omega arith));
  }
