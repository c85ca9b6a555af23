-- Which request a life ends by: the oldest that waits, a close that names it.
use Rattle.std.proofs.Common.{◌≡◌, ℕ, ◌<◌, ◌==◌, nat_lt, Bool, true, false, not, ◌&&◌, ◌||◌, List, [], ◌∷◌, ◌++◌, length, Option, Some, None, refl, sym, ap, ◌∙◌, subst, arith}
use Rattle.std.specs.List.{list_any}
use Rattle.beep_session.specs.beep_frame.specs.declared.head.Head.{Head}
use Rattle.beep_session.specs.beep_frame.specs.declared.kind.Kind.{Kind}
use Rattle.beep_session.specs.beep_frame.specs.Frame.{is_msg, is_ans, is_reply, same_kind}
use Rattle.beep_session.specs.beep_mgmt.specs.Form.{Form, greeting, start, chosen, close, okay, fault}
use Rattle.beep_session.specs.beep_mgmt.specs.Message.{message_said}
use Rattle.beep_session.specs.beep_history.specs.declared.journal.Side.{Side}
use Rattle.beep_session.specs.beep_history.specs.Journal.{Item, passed, other}
use Rattle.beep_session.specs.beep_history.specs.Broken.{KeepsExchangeRules}
use Rattle.beep_session.specs.beep_journal.specs.Lives.{Event, has_ended, is_live, has_release}
use Rattle.beep_session.specs.beep_journal.specs.Zero.{zero_events, gathered}
use Rattle.beep_session.specs.beep_standing.specs.Moving.{BeginsWhere, EndsWhere}
use Rattle.beep_session.specs.beep_decide.specs.Asks.{is_close_of}
use Rattle.beep_session.specs.beep_asked.specs.Kept.{Kept, grants, closes_one, closes, is_leaving}
use Rattle.beep_session.specs.beep_asked.specs.Asked.{AreWaiting, EndsReply}
use Rattle.beep_session.specs.beep_asked.specs.Granting.{IsGrantedAs}
use Rattle.beep_session.specs.beep_asked.proofs.LawsLemmas.{part-events, request-moves, request-releases, reply-waits, refusal-moves, refusal-releases, grant-moves, grant-releases}

-- ---- by the moment

module _ (n : ℕ) (before after : List Event) (live : is_live n before ≡ true) (over : is_live n after ≡ false) where
  not-still : is_live n after ≡ is_live n before → ⊥
  not-still same = let bad : true ≡ false = sym live ∙ sym same ∙ over in cc

  by-begin : (b : Bool) (number : ℕ) → BeginsWhere b number before after → ⊥
  by-begin false number m = not-still (m.live n)
  by-begin true number m =
      not-still (ap (is_live n) m.granted ∙ ap (λ (c : ℕ). nat_lt 0 c && not (has_ended n c before)) (rw (off (number == n) (is_live n before) live) refl))
    where
      off : (a b : Bool) → b ≡ true → (a && not b) ≡ false
      off true b e = ap not e
      off false b e = refl

  by-end : (names : Bool) (number : ℕ) → EndsWhere names number before after → ((number == n) ≡ true) × (names ≡ true)
  by-end false number m = absurd (not-still (m.live n))
  by-end true number m = (of (number == n) refl, refl)
    where
      of : (b : Bool) → (number == n) ≡ b → (number == n) ≡ true
      of true e = e
      of false e = absurd (not-still (ap (is_live n) m.granted ∙ rw e refl))

  granted-closes : (live_now : ℕ → Bool) (form : Option Form) (names : Bool) → IsGrantedAs live_now form names before after
      → (is_close_of n form ≡ true) × (names ≡ true)
  granted-closes live_now None names m = absurd (not-still (m.live n))
  granted-closes live_now (Some (greeting features localize profiles)) names m = absurd (not-still (m.live n))
  granted-closes live_now (Some (start number server profiles)) names m = absurd (by-begin (nat_lt 0 number && not (live_now number)) number m)
  granted-closes live_now (Some (chosen profile)) names m = absurd (not-still (m.live n))
  granted-closes live_now (Some (close number code note)) names m = by-end names number m
  granted-closes live_now (Some okay) names m = absurd (not-still (m.live n))
  granted-closes live_now (Some (fault code note)) names m = absurd (not-still (m.live n))

-- ---- by the reply

parted : (requests : List Kept) → 0 < length requests → (later : List Kept) × (one : Kept) × (requests ≡ later ++ one ∷ [])
parted [] some = absurd (omega (arith, some))
parted (kept ∷ []) some = ([], kept, refl)
parted (kept ∷ next ∷ requests) some =
    let p = parted (next ∷ requests) (omega arith) in (kept ∷ p.0, p.1, ap (λ (ks : List Kept). kept ∷ ks) p.2)

rpy-reply : (kind : Kind) → same_kind Kind.Rpy kind ≡ true → (is_reply kind ≡ true) × (is_ans kind ≡ false)
rpy-reply Kind.Msg e = cc
rpy-reply Kind.Rpy e = (refl, refl)
rpy-reply Kind.Err e = cc
rpy-reply Kind.Ans e = cc
rpy-reply Kind.Nul e = cc

-- the oldest of some requests is a close that names the live life of a number
pub record Closes (n : ℕ) (requests : List Kept) : Type 0 where
  pub later : List Kept
  pub one : Kept
  pub is : requests ≡ later ++ one ∷ []
  pub close : is_close_of n one.said ≡ true
  pub names : one.names ≡ true

module _ (by : Side) (head : Head) (payload : List ℕ) (zero : List Item) (u : KeepsExchangeRules (passed by head payload ∷ zero)) (n : ℕ)
    (live : is_live n (zero_events zero) ≡ true) (over : is_live n (zero_events (passed by head payload ∷ zero)) ≡ false) where
  not-same : zero_events (passed by head payload ∷ zero) ≡ zero_events zero → ⊥
  not-same same = not-still n (zero_events zero) (zero_events (passed by head payload ∷ zero)) live over (ap (is_live n) same)

  pub is-last : head.more ≡ false
  is-last = of head.more refl
    where
      of : (b : Bool) → head.more ≡ b → b ≡ false
      of true e = absurd (not-same (part-events head payload zero e by))
      of false e = refl

  no-request : is_msg head.kind ≡ false
  no-request = of (is_msg head.kind) refl
    where
      of : (b : Bool) → is_msg head.kind ≡ b → b ≡ false
      of true e =
          absurd (not-still n (zero_events zero) (zero_events (passed by head payload ∷ zero)) live over
          ((request-moves by head payload zero (record { keeps = u.2; under = u.0; last = is-last; request = e })).live n))
      of false e = refl

  pub is-rpy : same_kind Kind.Rpy head.kind ≡ true
  is-rpy = of (same_kind Kind.Rpy head.kind) refl
    where
      of : (b : Bool) → same_kind Kind.Rpy head.kind ≡ b → b ≡ true
      of true e = refl
      of false e = absurd (not-same (rw (is-last, no-request, e) refl))

  ends : EndsReply by head zero
  ends =
      let k = rpy-reply head.kind is-rpy in
      record { keeps = u.2; under = u.0; last = is-last; reply = k.0; alone = k.1 }

  by-grant : (later : List Kept) (one : Kept) → AreWaiting (other by) zero (later ++ one ∷ []) → (b : Bool)
      → grants head.kind (message_said (gathered by zero ++ payload)) one ≡ b → (is_close_of n one.said ≡ true) × (one.names ≡ true)
  by-grant later one w true g =
      granted-closes n (zero_events zero) (zero_events (passed by head payload ∷ zero)) live over (λ m. is_live m (zero_events zero)) one.said one.names
      (grant-moves by head payload zero ends later one w g (λ m. is_live m (zero_events zero)) (λ m e. refl))
  by-grant later one w false g =
      absurd (not-still n (zero_events zero) (zero_events (passed by head payload ∷ zero)) live over ((refusal-moves by head payload zero ends later one w g).live n))

  pub oldest-closes : (requests : List Kept) → AreWaiting (other by) zero requests → Closes n requests
  oldest-closes requests w =
      let p = parted requests (reply-waits by head payload zero ends requests w) in
      let c = by-grant p.0 p.1 (subst (AreWaiting (other by) zero) p.2 w) (grants head.kind (message_said (gathered by zero ++ payload)) p.1) refl in
      record { later = p.0; one = p.1; is = p.2; close = c.0; names = c.1 }

-- so a close of that number waits
any-last : (f : Kept → Bool) (xs : List Kept) (x : Kept) → f x ≡ true → list_any f (xs ++ x ∷ []) ≡ true
any-last f [] x e = rw e refl
any-last f (y ∷ xs) x e = of (f y) (any-last f xs x e)
  where
    of : (b : Bool) → list_any f (xs ++ x ∷ []) ≡ true → (b || list_any f (xs ++ x ∷ [])) ≡ true
    of true e = refl
    of false e = e

pub one-closes : (n : ℕ) (requests : List Kept) (c : Closes n requests) → closes_one n c.one ≡ true
one-closes n requests c = both (is_close_of n c.one.said) (n == 0) c.one.names c.close c.names
  where
    both : (a b d : Bool) → a ≡ true → d ≡ true → (a && (b || d)) ≡ true
    both true true d e f = refl
    both true false d e f = f
    both false b d e f = cc

pub close-waits : (n : ℕ) (requests : List Kept) → Closes n requests → closes n requests ≡ true
close-waits n requests c = ap (closes n) c.is ∙ any-last (closes_one n) c.later c.one (one-closes n requests c)

-- ---- a release

-- the oldest of some requests is a close of 0
pub record Leaves (requests : List Kept) : Type 0 where
  pub later : List Kept
  pub one : Kept
  pub is : requests ≡ later ++ one ∷ []
  pub close : is_close_of 0 one.said ≡ true

module _ (by : Side) (head : Head) (payload : List ℕ) (zero : List Item) (u : KeepsExchangeRules (passed by head payload ∷ zero))
    (before : has_release (zero_events zero) ≡ false) (after : has_release (zero_events (passed by head payload ∷ zero)) ≡ true) where
  not-kept : has_release (zero_events (passed by head payload ∷ zero)) ≡ has_release (zero_events zero) → ⊥
  not-kept same = let bad : true ≡ false = sym after ∙ same ∙ before in cc

  pub release-last : head.more ≡ false
  release-last = of head.more refl
    where
      of : (b : Bool) → head.more ≡ b → b ≡ false
      of true e = absurd (not-kept (ap has_release (part-events head payload zero e by)))
      of false e = refl

  release-reply : is_msg head.kind ≡ false
  release-reply = of (is_msg head.kind) refl
    where
      of : (b : Bool) → is_msg head.kind ≡ b → b ≡ false
      of true e = absurd (not-kept (request-releases by head payload zero (record { keeps = u.2; under = u.0; last = release-last; request = e })))
      of false e = refl

  pub release-rpy : same_kind Kind.Rpy head.kind ≡ true
  release-rpy = of (same_kind Kind.Rpy head.kind) refl
    where
      of : (b : Bool) → same_kind Kind.Rpy head.kind ≡ b → b ≡ true
      of true e = refl
      of false e =
          let same : zero_events (passed by head payload ∷ zero) ≡ zero_events zero = rw (release-last, release-reply, e) refl in
          absurd (not-kept (ap has_release same))

  release-ends : EndsReply by head zero
  release-ends =
      let k = rpy-reply head.kind release-rpy in
      record { keeps = u.2; under = u.0; last = release-last; reply = k.0; alone = k.1 }

  by-leave : (later : List Kept) (one : Kept) → AreWaiting (other by) zero (later ++ one ∷ []) → (b : Bool)
      → grants head.kind (message_said (gathered by zero ++ payload)) one ≡ b → is_close_of 0 one.said ≡ true
  by-leave later one w true g =
      first (is_close_of 0 one.said) (has_release (zero_events zero)) (sym (grant-releases by head payload zero release-ends later one w g) ∙ after) before
    where
      first : (a b : Bool) → (a || b) ≡ true → b ≡ false → a ≡ true
      first true b e f = refl
      first false b e f = let bad : true ≡ false = sym e ∙ f in cc
  by-leave later one w false g = absurd (not-kept (refusal-releases by head payload zero release-ends later one w g))

  pub oldest-leaves : (requests : List Kept) → AreWaiting (other by) zero requests → Leaves requests
  oldest-leaves requests w =
      let p = parted requests (reply-waits by head payload zero release-ends requests w) in
      record {
        later = p.0;
        one = p.1;
        is = p.2;
        close = by-leave p.0 p.1 (subst (AreWaiting (other by) zero) p.2 w) (grants head.kind (message_said (gathered by zero ++ payload)) p.1) refl;
      }

pub leave-waits : (requests : List Kept) → Leaves requests → is_leaving requests ≡ true
leave-waits requests c = ap is_leaving c.is ∙ any-last (λ (kept : Kept). is_close_of 0 kept.said) c.later c.one c.close
