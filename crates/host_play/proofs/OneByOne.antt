-- Those that take part, as they are put together and taken apart one by one.
use Rattle.std.proofs.Common.{◌≡◌, ℕ, suc, ◌≤◌, List, [], ◌∷◌, ◌++◌, length, map, reverse, IfSome, Option, Some, None, refl, sym, ap, ◌∙◌, arith, append_assoc, length-append, append-nil, Vec}
use Rattle.std.specs.declared.alloc.Global.{Global}
use Rattle.std.specs.Prelude.{slice_get}
use Rattle.std.specs.List.{cons_option, filter_map}
use Rattle.std.proofs.lemmas.List.{map-append}
use Rattle.std.proofs.lemmas.List.Elements.{filter_map-append}
use Rattle.host_io.specs.declared.disk.Disk as disk
use Rattle.host_session.specs.{ClientState}
use Rattle.host_play.specs.{Actor, Client, HasTakenClient, IsOneOf, clients_in, ends_of_client, hands_in, told_by_client}
use Rattle.host_play.proofs.Reversed.{reverse_snoc}

-- the element behind a front
pub stands_behind : {A : Type 0} (xs ys : List A) (x : A) → slice_get (xs ++ x ∷ ys) (length xs) ≡ Some x
stands_behind [] ys x = refl
stands_behind (a ∷ xs) ys x = stands_behind xs ys x

-- ---- a pop of one list, and a push to the other

-- one element goes from the end of a list to the end of those reversed behind it
pub goes_over : {A : Type 0} (old new all : List A) (x : A) (behind behind' : List A) → old ≡ new ++ x ∷ [] → behind' ≡ x ∷ behind → old ++ behind ≡ all → new ++ behind' ≡ all
goes_over old new all x behind behind' popped pushed is =
    ap (λ l. new ++ l) pushed ∙ sym (append_assoc new (x ∷ []) behind) ∙ ap (λ l. l ++ behind) (sym popped) ∙ is

module _ {D : Type 0} {g : disk.Ghosts D} where
  pub hands_snoc : (actors : List (Actor D g)) (a : Actor D g) → hands_in (actors ++ a ∷ []) ≡ a.hand ∷ hands_in actors
  hands_snoc actors a = ap reverse (map-append (λ (actor : Actor D g). actor.hand) actors (a ∷ [])) ∙ reverse_snoc (map (λ (actor : Actor D g). actor.hand) actors) a.hand

  found_snoc : (actors : List (Actor D g)) (a : Actor D g) → filter_map (λ (actor : Actor D g). told_by_client (λ client. client) actor.client) (actors ++ a ∷ []) ≡ filter_map (λ (actor : Actor D g). told_by_client (λ client. client) actor.client) actors ++ cons_option (told_by_client (λ client. client) a.client) []
  found_snoc actors a = filter_map-append (λ (actor : Actor D g). told_by_client (λ client. client) actor.client) actors (a ∷ [])

  pub clients_snoc_some : (actors : List (Actor D g)) (a : Actor D g) (c : Client) → a.client ≡ Some c → clients_in (actors ++ a ∷ []) ≡ c.end ∷ clients_in actors
  clients_snoc_some actors a c is =
      ap reverse (found_snoc actors a ∙ ap (λ o. filter_map (λ (actor : Actor D g). told_by_client (λ client. client) actor.client) actors ++ cons_option (told_by_client (λ client. client) o) []) is)
      ∙ reverse_snoc (filter_map (λ (actor : Actor D g). told_by_client (λ client. client) actor.client) actors) c.end

  pub clients_snoc_none : (actors : List (Actor D g)) (a : Actor D g) → a.client ≡ None → clients_in (actors ++ a ∷ []) ≡ clients_in actors
  clients_snoc_none actors a is =
      ap reverse (found_snoc actors a ∙ ap (λ o. filter_map (λ (actor : Actor D g). told_by_client (λ client. client) actor.client) actors ++ cons_option (told_by_client (λ client. client) o) []) is ∙ append-nil _)

  -- the end of its client goes before the others
  pub clients_snoc : (actors : List (Actor D g)) (a : Actor D g) → clients_in (actors ++ a ∷ []) ≡ ends_of_client a.client ++ clients_in actors
  clients_snoc actors a = by a.client refl
    where
      by : (o : Option Client) → a.client ≡ o → clients_in (actors ++ a ∷ []) ≡ ends_of_client o ++ clients_in actors
      by None is = clients_snoc_none actors a is
      by (Some c) is = clients_snoc_some actors a c is

-- ---- the last client and its pieces are taken

-- it is one of all
pub taken_one : (all_clients clients clients' behind : List ClientState) (all_pieces pieces pieces' rest : List (Vec (List ℕ) Global)) (o : Option Client)
    → HasTakenClient clients clients' pieces pieces' o → clients ++ behind ≡ all_clients → pieces ++ rest ≡ all_pieces → length pieces ≡ length clients → IfSome o (IsOneOf all_clients all_pieces)
taken_one all_clients clients clients' behind all_pieces pieces pieces' rest None taken these those same = tt
taken_one all_clients clients clients' behind all_pieces pieces pieces' rest (Some c) taken these those same =
    let n : length pieces' ≡ length clients' =
    let a = ap (λ (l : List ClientState). length l) taken.0 in
    let b = ap (λ (l : List (Vec (List ℕ) Global)). length l) taken.1 in
    omega (arith, a, b, same, length-append clients' (c.end ∷ []), length-append pieces' (c.pieces ∷ [])) in
    let clients_are : all_clients ≡ clients' ++ c.end ∷ behind = sym these ∙ ap (λ l. l ++ behind) taken.0 ∙ append_assoc clients' (c.end ∷ []) behind in
    let pieces_are : all_pieces ≡ pieces' ++ c.pieces ∷ rest = sym those ∙ ap (λ l. l ++ rest) taken.1 ∙ append_assoc pieces' (c.pieces ∷ []) rest in
    record {
      place = length clients';
      end_is = ap (λ l. slice_get l (length clients')) clients_are ∙ stands_behind clients' behind c.end;
      pieces_are = ap (λ l. slice_get l (length clients')) pieces_are ∙ (ap (slice_get (pieces' ++ c.pieces ∷ rest)) (sym n) ∙ stands_behind pieces' rest c.pieces);
    }

-- the pieces that are left are the first ones
pub front_left : (clients clients' : List ClientState) (all pieces pieces' rest : List (Vec (List ℕ) Global)) (o : Option Client) → HasTakenClient clients clients' pieces pieces' o → pieces ++ rest ≡ all
    → (rest' : List (Vec (List ℕ) Global)) × (pieces' ++ rest' ≡ all)
front_left clients clients' all pieces pieces' rest None taken those = (rest, ap (λ l. l ++ rest) taken.2 ∙ those)
front_left clients clients' all pieces pieces' rest (Some c) taken those =
    (c.pieces ∷ rest, sym (append_assoc pieces' (c.pieces ∷ []) rest) ∙ ap (λ l. l ++ rest) (sym taken.1) ∙ those)

-- as many of both are left
pub left_same : (clients clients' : List ClientState) (pieces pieces' : List (Vec (List ℕ) Global)) (o : Option Client) → HasTakenClient clients clients' pieces pieces' o → length pieces ≡ length clients → length pieces' ≡ length clients'
left_same clients clients' pieces pieces' None taken same =
    let a = ap (λ (l : List ClientState). length l) taken.1 in
    let b = ap (λ (l : List (Vec (List ℕ) Global)). length l) taken.2 in
    omega (arith, a, b, same)
left_same clients clients' pieces pieces' (Some c) taken same =
    let a = ap (λ (l : List ClientState). length l) taken.0 in
    let b = ap (λ (l : List (Vec (List ℕ) Global)). length l) taken.1 in
    omega (arith, a, b, same, length-append clients' (c.end ∷ []), length-append pieces' (c.pieces ∷ []))

-- no more clients are left than hands
pub left_enough : (n : ℕ) (clients clients' : List ClientState) (pieces pieces' : List (Vec (List ℕ) Global)) (o : Option Client) → HasTakenClient clients clients' pieces pieces' o → length clients ≤ suc n → length clients' ≤ n
left_enough n clients clients' pieces pieces' None taken enough =
    let a = ap (λ (l : List ClientState). length l) taken.0 in
    let b = ap (λ (l : List ClientState). length l) taken.1 in
    omega (arith, a, b)
left_enough n clients clients' pieces pieces' (Some c) taken enough =
    let a = ap (λ (l : List ClientState). length l) taken.0 in
    omega (arith, a, enough, length-append clients' (c.end ∷ []))

module _ {D : Type 0} {g : disk.Ghosts D} where
  pub clients_next : (all clients clients' : List ClientState) (pieces pieces' : List (Vec (List ℕ) Global)) (actors : List (Actor D g)) (a : Actor D g) → HasTakenClient clients clients' pieces pieces' a.client → clients ++ clients_in actors ≡ all → clients' ++ clients_in (actors ++ a ∷ []) ≡ all
  clients_next all clients clients' pieces pieces' actors a taken these = by a.client refl taken
    where
      by : (o : Option Client) → a.client ≡ o → HasTakenClient clients clients' pieces pieces' o → clients' ++ clients_in (actors ++ a ∷ []) ≡ all
      by None is taken = ap (λ l. clients' ++ l) (clients_snoc_none actors a is) ∙ ap (λ l. l ++ clients_in actors) taken.1 ∙ these
      by (Some c) is taken = goes_over clients clients' all c.end (clients_in actors) (clients_in (actors ++ a ∷ [])) taken.0 (clients_snoc_some actors a c is) these
