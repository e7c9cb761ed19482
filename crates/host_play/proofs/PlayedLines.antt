-- A client that goes over its lines.
use Rattle.std.proofs.Common.{◌≡◌, ℕ, ◌+◌, ◌<◌, List, [], ◌∷◌, ◌++◌, length, get_or, take, drop, All, None, refl, sym, ap, subst, ◌∙◌, arith}
use Rattle.std.proofs.lemmas.List.{drop_more, take-append-drop, take_all, take_more}
use Rattle.std.proofs.lemmas.List.Elements.{All-get_or}
use Rattle.host_io.specs.declared.disk.Disk as disk
use Rattle.host_session.specs.{ClientState, IsClient, IsNewClient}
use Rattle.host_worker.specs.{Hand, Server, IsHandOf}
use Rattle.script_model.specs.{ScriptLine}
use Rattle.host_play.specs.{CanPlay, HasDone, HasHelped, MayPlay, HasPlayed, HasRoomForLines, ArePieces, IsNextPiece, WasTaken, piece_length}
use Rattle.host_play.proofs.Rooms.{may_play}
use Rattle.host_play.proofs.Showing.{left_pieces, next_piece}
use Rattle.host_play.proofs.SoFar.{played_none}

module _ (lines : List ScriptLine) (i : ℕ) (line : ScriptLine) (less : i < length lines) (is : line ≡ get_or lines i line) where
  pub split_here : lines ≡ take i lines ++ line ∷ drop (i + 1) lines
  split_here = sym (take-append-drop i lines) ∙ ap (λ l. take i lines ++ l) (drop_more lines i line less ∙ ap (λ (x : ScriptLine). x ∷ drop (i + 1) lines) (sym is))

  pub taken_here : take (i + 1) lines ≡ take i lines ++ line ∷ []
  taken_here = take_more lines i line less ∙ ap (λ (x : ScriptLine). take i lines ++ x ∷ []) (sym is)

  pub may_next : (client : ClientState) → IsClient client → HasPlayed (take i lines) client.log → HasRoomForLines lines client.plan.spec → client.finish ≡ None → MayPlay line client
  may_next client is_client p room still = may_play client lines (take i lines) (drop (i + 1) lines) line split_here is_client p room still

  rest_here : (size : ℕ) (pieces : List (List ℕ)) → ArePieces size (drop i lines) pieces → ArePieces size (line ∷ drop (i + 1) lines) pieces
  rest_here size pieces h = subst (λ l. ArePieces size l pieces) (drop_more lines i line less ∙ ap (λ (x : ScriptLine). x ∷ drop (i + 1) lines) (sym is)) h

  pub piece_next : (size : ℕ) (pieces : List (List ℕ)) → ArePieces size (drop i lines) pieces → IsNextPiece (piece_length size line) pieces
  piece_next size pieces h = next_piece size line (drop (i + 1) lines) pieces (rest_here size pieces h)

  pub pieces_next : (size : ℕ) (old new : List (List ℕ)) → ArePieces size (drop i lines) old → WasTaken (piece_length size line) old new → ArePieces size (drop (i + 1) lines) new
  pieces_next size old new h taken = left_pieces size line (drop (i + 1) lines) old new (rest_here size old h) taken

  pub played_next : (old new : ClientState) → HasPlayed (take i lines) old.log → HasDone line old new → HasPlayed (take (i + 1) lines) new.log
  played_next old new p done = subst (λ l. HasPlayed l new.log) (sym taken_here) (done.log (take i lines) p)

  pub can_here : All CanPlay lines → CanPlay line
  can_here all = subst CanPlay (sym is) (All-get_or CanPlay lines i line less all)

-- nothing was played yet
pub starts : (lines : List ScriptLine) (client : ClientState) → IsNewClient client → HasPlayed (take 0 lines) client.log
starts lines client new = subst (λ l. HasPlayed [] l) (sym new.log) played_none

-- all were played
pub played_all : (lines : List ScriptLine) (client : ClientState) (n : ℕ) → n ≡ length lines → HasPlayed (take n lines) client.log → HasPlayed lines client.log
played_all lines client n all p = subst (λ l. HasPlayed l client.log) (take_all n lines (omega (arith, all))) p

module _ {D : Type 0} {g : disk.Ghosts D} (server : Server D g) where
  pub helped_none : (hand : Hand D g) (client : ClientState) → IsHandOf server hand → HasHelped server hand hand client client
  helped_none hand client h = record { hand = h; number_is = refl; account = λ sq. sq }

  pub helped_then : (a b c : Hand D g) (x y z : ClientState) → HasHelped server a b x y → HasHelped server b c y z → HasHelped server a c x z
  helped_then a b c x y z f s = record { hand = s.hand; number_is = s.number_is ∙ f.number_is; account = λ sq. s.account (f.account sq) }
