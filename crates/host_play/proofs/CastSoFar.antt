-- How far the list of all is put together, and taken apart.
use Rattle.std.proofs.Common.{◌≡◌, ℕ, ◌+◌, ◌≤◌, List, [], ◌∷◌, ◌++◌, length, All, Option, sym, ap, subst, ◌∙◌, arith, append-nil, append_assoc, length-append, Vec}
use Rattle.std.specs.declared.alloc.Global.{Global}
use Rattle.std.proofs.lemmas.List.Elements.{All-append, All-cons, All-nil}
use Rattle.host_io.specs.declared.disk.Disk as disk
use Rattle.host_session.specs.{ClientState}
use Rattle.host_worker.specs.{Hand}
use Rattle.host_play.specs.{Actor, Client, HasTakenClient, IsMadeOf, clients_in, ends_of_client, hands_in}
use Rattle.host_play.proofs.OneByOne.{clients_next, clients_snoc, front_left, goes_over, hands_snoc, left_enough, left_same, taken_one}

module _ {D : Type 0} {g : disk.Ghosts D} where
  -- ---- put together

  -- These are cast, and these hands, clients and pieces are left.
  pub record IsCastSoFar (all_hands : List (Hand D g)) (all_clients : List ClientState) (all_pieces : List (Vec (List ℕ) Global)) (hands : List (Hand D g)) (clients : List ClientState) (pieces : List (Vec (List ℕ) Global)) (actors : List (Actor D g)) : Type 0 where
    pub hands_are : hands ++ hands_in actors ≡ all_hands
    pub clients_are : clients ++ clients_in actors ≡ all_clients
    pub behind : List (Vec (List ℕ) Global)
    pub pieces_are : pieces ++ behind ≡ all_pieces
    pub as_many : length pieces ≡ length clients
    pub enough : length clients ≤ length hands
    pub made : All (IsMadeOf all_clients all_pieces) actors

  pub none_cast : (hands : List (Hand D g)) (clients : List ClientState) (pieces : List (Vec (List ℕ) Global)) (room : List (Actor D g)) → room ≡ [] → length clients ≤ length hands → length pieces ≡ length clients → IsCastSoFar hands clients pieces hands clients pieces room
  none_cast hands clients pieces room empty enough as_many = subst (λ (l : List (Actor D g)). IsCastSoFar hands clients pieces hands clients pieces l) (sym empty) (record {
    hands_are = append-nil hands;
    clients_are = append-nil clients;
    behind = [];
    pieces_are = append-nil pieces;
    as_many = as_many;
    enough = enough;
    made = All-nil (IsMadeOf clients pieces);
  })

  pub one_cast : (all_hands : List (Hand D g)) (all_clients : List ClientState) (all_pieces : List (Vec (List ℕ) Global)) (hands hands' : List (Hand D g)) (clients clients' : List ClientState) (pieces pieces' : List (Vec (List ℕ) Global)) (actors : List (Actor D g))
      → IsCastSoFar all_hands all_clients all_pieces hands clients pieces actors → (hand : Hand D g) (client : Option Client) → hands ≡ hands' ++ hand ∷ [] → HasTakenClient clients clients' pieces pieces' client
      → IsCastSoFar all_hands all_clients all_pieces hands' clients' pieces' (actors ++ record { hand = hand; client = client } ∷ [])
  one_cast all_hands all_clients all_pieces hands hands' clients clients' pieces pieces' actors so hand client popped taken =
      let a : Actor D g = record { hand = hand; client = client } in
      let front = front_left clients clients' all_pieces pieces pieces' so.behind client taken so.pieces_are in
      let one : IsMadeOf all_clients all_pieces a = taken_one all_clients clients clients' (clients_in actors) all_pieces pieces pieces' so.behind client taken so.clients_are so.pieces_are so.as_many in
      record {
        hands_are = goes_over hands hands' all_hands hand (hands_in actors) (hands_in (actors ++ a ∷ [])) popped (hands_snoc actors a) so.hands_are;
        clients_are = clients_next all_clients clients clients' pieces pieces' actors a taken so.clients_are;
        behind = front.0;
        pieces_are = front.1;
        as_many = left_same clients clients' pieces pieces' client taken so.as_many;
        enough = left_enough (length hands') clients clients' pieces pieces' client taken
            (let n = ap (λ (l : List (Hand D g)). length l) popped in omega (arith, so.enough, n, length-append hands' (hand ∷ [])));
        made = All-append (IsMadeOf all_clients all_pieces) actors (a ∷ []) so.made (All-cons (IsMadeOf all_clients all_pieces) a [] one (All-nil (IsMadeOf all_clients all_pieces)));
      }

  -- ---- taken apart

  -- These hands and clients came back, and these are still in the list.
  pub record AreBackSoFar (all_hands : List (Hand D g)) (all_clients : List ClientState) (hands : List (Hand D g)) (clients : List ClientState) (actors : List (Actor D g)) : Type 0 where
    pub hands_are : hands ++ hands_in actors ≡ all_hands
    pub clients_are : clients ++ clients_in actors ≡ all_clients

  pub one_back : (all_hands : List (Hand D g)) (all_clients : List ClientState) (hands hands' : List (Hand D g)) (clients clients' : List ClientState) (actors actors' : List (Actor D g))
      → AreBackSoFar all_hands all_clients hands clients actors → (a : Actor D g) → actors ≡ actors' ++ a ∷ [] → hands' ≡ hands ++ a.hand ∷ [] → clients' ≡ clients ++ ends_of_client a.client
      → AreBackSoFar all_hands all_clients hands' clients' actors'
  one_back all_hands all_clients hands hands' clients clients' actors actors' so a popped hand client = record {
    hands_are =
        ap (λ (l : List (Hand D g)). l ++ hands_in actors') hand ∙ append_assoc hands (a.hand ∷ []) (hands_in actors')
        ∙ ap (λ (l : List (Hand D g)). hands ++ l) (sym (hands_snoc actors' a) ∙ ap hands_in (sym popped)) ∙ so.hands_are;
    clients_are =
        ap (λ (l : List ClientState). l ++ clients_in actors') client ∙ append_assoc clients (ends_of_client a.client) (clients_in actors')
        ∙ ap (λ (l : List ClientState). clients ++ l) (sym (clients_snoc actors' a) ∙ ap clients_in (sym popped)) ∙ so.clients_are;
  }

  -- as many clients are left as fit
  pub room_back : (actors actors' : List (Actor D g)) (a : Actor D g) → actors ≡ actors' ++ a ∷ [] → length (clients_in actors) ≡ length (ends_of_client a.client) + length (clients_in actors')
  room_back actors actors' a popped =
      ap (λ (l : List (Actor D g)). length (clients_in l)) popped ∙ ap (λ (l : List ClientState). length l) (clients_snoc actors' a) ∙ length-append (ends_of_client a.client) (clients_in actors')
