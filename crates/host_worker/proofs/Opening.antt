-- Sessions are opened one after another.
use Rattle.std.proofs.Common.{◌≡◌, ◌⊎◌, inl, inr, ℕ, ◌+◌, List, [], ◌∷◌, ◌++◌, length, map, take, All, Some, sym, ap, ap₂, subst, ◌∙◌, arith, length-append, Vec, vec_capacity, vec_len}
use Rattle.std.specs.Prelude.{slice_get}
use Rattle.std.specs.declared.alloc.Global.{Global}
use Rattle.std.proofs.lemmas.List.{map-append, take_all, take_more}
use Rattle.std.proofs.lemmas.List.Elements.{All-nil, All-push}
use Rattle.std.proofs.lemmas.Option.{get_or_from_slice_get, slice_get_within}
use Rattle.atomic_table.specs.Seated.{TableId}
use Rattle.host_session.specs.{SessionHand, SessionShared, SessionSpec, ClientState, IsNewClient, IsSessionOpened, IsFreshHand, IsHand, IsShared}
use Rattle.crossbeam_utils.specs.Padded.{padded_value}
use Rattle.host_worker.specs.{Opened, Session, plan_of_session, shared_of, AreOpenedFor, HasHands, IsSessionOpenedFor, openings_of, specs_of, AreSharesDealt, AreOpened, AreShares, HasOpened}
use Rattle.host_worker.proofs.Dealt.{from_end}
use Rattle.host_worker.proofs.Lists.{at_place, each_place, map_at, map_from}

-- no session yet
pub opened_none : (specs : List SessionSpec) (hands : ℕ) (pool : TableId × ℕ) (opened : Opened) → opened.sessions.items ≡ [] → opened.clients.items ≡ [] → AreOpened (take 0 specs) hands hands pool opened
opened_none specs hands pool opened a b = record {
  specs_are = ap (λ (l : List Session). specs_of l) a;
  clients_are = ap (λ (l : List Session). openings_of l) a ∙ sym b;
  new = subst (λ (l : List ClientState). All IsNewClient l) (sym b) (All-nil IsNewClient);
  sessions = λ k s at. absurd (none k s (ap (λ (l : List Session). slice_get l k) (sym a) ∙ at));
}
  where
    none : (k : ℕ) (s : Session) → slice_get [] k ≡ Some s → ⊥
    none k s at = cc at

-- one more in a list
pub count_more : {A : Type 0} (old new : Vec A Global) (x : A) (k : ℕ) → new.items ≡ old.items ++ x ∷ [] → vec_len old ≡ k → vec_len new ≡ k + 1
count_more old new x k are n = omega (arith, new.ok.0, old.ok.0, ap length are, length-append old.items (x ∷ []), n)

-- one more
pub opened_more : (specs : List SessionSpec) (k hands : ℕ) (pool : TableId × ℕ) (spec : SessionSpec) (old new : Opened) → slice_get specs k ≡ Some spec → AreOpened (take k specs) hands hands pool old → HasOpened spec hands pool old new → AreOpened (take (k + 1) specs) hands hands pool new
opened_more specs k hands pool spec old new at a h = record {
  specs_are =
      ap (λ (l : List Session). specs_of l) h.sessions_are
      ∙ (map-append (λ (s : Session). s.spec) old.sessions.items (h.session ∷ [])
      ∙ (ap₂ (λ (l : List SessionSpec) (x : SessionSpec). l ++ x ∷ []) a.specs_are (h.names.0 ∙ sym (get_or_from_slice_get specs k spec spec at))
      ∙ sym (take_more specs k spec (slice_get_within specs k spec at))));
  clients_are =
      ap (λ (l : List Session). openings_of l) h.sessions_are
      ∙ (map-append (λ (s : Session). s.opened.value) old.sessions.items (h.session ∷ [])
      ∙ (ap₂ (λ (l : List ClientState) (x : ClientState). l ++ x ∷ []) a.clients_are h.names.1
      ∙ sym h.clients_are));
  new = subst (λ (l : List ClientState). All IsNewClient l) (sym h.clients_are) (All-push IsNewClient old.clients.items h.client a.new h.new_client);
  sessions = λ j s here. one j s (from_end old.sessions.items h.session s j (ap (λ (l : List Session). slice_get l j) (sym h.sessions_are) ∙ here));
}
  where
    one : (j : ℕ) (s : Session) → (slice_get old.sessions.items j ≡ Some s) ⊎ ((j ≡ length old.sessions.items) × (s ≡ h.session)) → IsSessionOpenedFor hands hands pool s
    one j s (inl here) = a.sessions j s here
    one j s (inr last) = subst (λ (x : Session). IsSessionOpenedFor hands hands pool x) (sym last.1) h.opened

pub opened_all : (specs : List SessionSpec) (hands : ℕ) (pool : TableId × ℕ) (opened : Opened) → AreOpened (take (length specs) specs) hands hands pool opened → AreOpened specs hands hands pool opened
opened_all specs hands pool opened a = subst (λ (l : List SessionSpec). AreOpened l hands hands pool opened) (take_all (length specs) specs (omega arith)) a

-- a session that was just opened
pub is_opened : (spec : SessionSpec) (hands : ℕ) (pool : TableId × ℕ) (s : Session) (shared : SessionShared) (client : ClientState) → IsSessionOpened spec hands pool shared client s.hands.items → s.spec ≡ spec → s.opened.value ≡ client → shared_of s ≡ shared → IsSessionOpenedFor hands hands pool s
is_opened spec hands pool s shared client o is named shares = record {
  spec = ap (λ (c : ClientState). c.plan.spec) named ∙ (o.plan.0 ∙ sym is);
  plan = (ap (λ (c : ClientState). c.plan.hands) named ∙ o.plan.1, ap (λ (c : ClientState). c.plan.pool) named ∙ o.plan.2);
  shared = subst (λ (c : ClientState). IsShared c.plan (shared_of s)) (sym named) (subst (λ (x : SessionShared). IsShared client.plan x) (sym shares) o.part);
  dealt = record {
    count = o.dealt.0 ∙ o.plan.1;
    each = λ k h at.
        let d = at_each k h at in
        (subst (λ (c : ClientState). IsHand c.plan k h) (sym named) d, at_place IsFreshHand s.hands.items k h o.fresh at);
  };
  room = omega (arith, o.dealt.0, o.plan.1, s.hands.ok.0, s.hands.ok.1);
}
  where
    at_each : (k : ℕ) (h : SessionHand) → slice_get s.hands.items k ≡ Some h → IsHand client.plan k h
    at_each k h at = subst (λ (x : SessionHand). IsHand client.plan k x) (get_or_from_slice_get s.hands.items k h h at) (o.dealt.1 k h (slice_get_within s.hands.items k h at))

-- ---- once all are dealt out

-- what stands at a place of one list has its like there in another
pub like_at : {A B : Type 0} (f : A → B) (xs ys : List A) (k : ℕ) (x : A) → map f xs ≡ map f ys → slice_get xs k ≡ Some x → (y : A) × (slice_get ys k ≡ Some y) × (f x ≡ f y)
like_at f xs ys k x same at =
    let e = ap (λ l. slice_get l k) (sym same) ∙ map_at f xs k x at in
    let m = map_from f ys k (f x) e in
    (m.0, m.1, m.2)

pub alike : {A B : Type 0} (f : A → B) (xs ys : List A) (k : ℕ) (x y : A) → map f xs ≡ map f ys → slice_get xs k ≡ Some x → slice_get ys k ≡ Some y → f x ≡ f y
alike f xs ys k x y same at at' =
    let e = sym (map_at f xs k x at) ∙ (ap (λ l. slice_get l k) same ∙ map_at f ys k y at') in
    cc e

pub still_opened : (hands : ℕ) (pool : TableId × ℕ) (old new : List Session) → AreOpenedFor hands hands pool old → map (λ (s : Session). s.spec) new ≡ map (λ (s : Session). s.spec) old → openings_of new ≡ openings_of old
    → map (λ (s : Session). s.shared) new ≡ map (λ (s : Session). s.shared) old → map (λ (s : Session). vec_capacity s.hands) new ≡ map (λ (s : Session). vec_capacity s.hands) old → All (HasHands 0) new → AreOpenedFor hands 0 pool new
still_opened hands pool old new o specs openings shared room empty k s at =
    let l = like_at (λ (s : Session). s.spec) new old k s specs at in
    let w = o k l.0 l.1 in
    let named : s.opened.value ≡ l.0.opened.value = alike (λ (s : Session). s.opened.value) new old k s l.0 openings at l.1 in
    let shares : s.shared ≡ l.0.shared = alike (λ (s : Session). s.shared) new old k s l.0 shared at l.1 in
    let rooms : vec_capacity s.hands ≡ vec_capacity l.0.hands = alike (λ (s : Session). vec_capacity s.hands) new old k s l.0 room at l.1 in
    record {
      spec = ap (λ (c : ClientState). c.plan.spec) named ∙ (w.spec ∙ sym l.2);
      plan = (ap (λ (c : ClientState). c.plan.hands) named ∙ w.plan.0, ap (λ (c : ClientState). c.plan.pool) named ∙ w.plan.1);
      shared = subst (λ (c : ClientState). IsShared c.plan (shared_of s)) (sym named) (subst (λ x. IsShared (plan_of_session l.0) (padded_value x)) (sym shares) w.shared);
      dealt = at_place (HasHands 0) new k s empty at;
      room = omega (arith, w.room, rooms);
    }

module _ (specs : List SessionSpec) (hands : ℕ) (pool : TableId × ℕ) (opened : Opened) (a : AreOpened specs hands hands pool opened) where
  -- each session has all its hands
  pub all_there : All (HasHands hands) opened.sessions.items
  all_there = each_place (HasHands hands) opened.sessions.items (λ k s at. let o = a.sessions k s at in o.dealt)

  module _ (sessions : Vec Session Global) (shares : List (Vec SessionHand Global)) (d : AreSharesDealt hands opened.sessions.items sessions.items shares) where
    -- the sessions, all dealt out
    pub opened_still : AreOpened specs hands 0 pool (record opened { sessions = sessions })
    opened_still = record {
      specs_are = d.same.0 ∙ a.specs_are;
      clients_are = d.same.1 ∙ a.clients_are;
      new = a.new;
      sessions = still_opened hands pool opened.sessions.items sessions.items a.sessions d.same.0 d.same.1 d.same.2 d.room d.empty;
    }

    pub shares_of_clients : AreShares opened.clients.items shares
    shares_of_clients = subst (λ (l : List ClientState). AreShares l shares) a.clients_are d.shares_are
