-- What a call leaves of a session in which nothing more may go out.
use Rattle.std.proofs.Common.{◌≡◌, ◌∙◌, refl, sym, ap, subst, arith, ℕ, suc, ◌+◌, ◌≤◌, ◌==◌, nat_lt, Bool, true, false, not, ◌||◌, ◌&&◌, if◌then◌else◌, List, [], ◌∷◌, length, Option, None, Some}
use Rattle.std.specs.Prelude.{is_some}
use Rattle.std.specs.List.{list_any}
use Rattle.std.proofs.lemmas.Bool.Decides.{nat_tests}
use Rattle.beep_session.specs.beep_history.specs.Journal.{Item}
use Rattle.beep_session.specs.beep_history.specs.declared.limits.TheConstants.{MAX_MESSAGE}
use Rattle.beep_session.specs.beep_journal.specs.Log.{Moment}
use Rattle.beep_session.specs.beep_asked.specs.Kept.{Kept, oldest}
use Rattle.beep_session.specs.beep_outbox.specs.declared.give_error.GiveError.{GiveError}
use Rattle.beep_session.specs.beep_outbox.specs.Queue.{Message as Unsent}
use Rattle.beep_session.specs.beep_outbox.specs.Unsent.{give_refusal}
use Rattle.beep_session.specs.beep_channel.specs.Held.{Held as Channel, Live, is_held_ready, is_seq_due_of, limit_of, reply_refusal}
use Rattle.beep_session.specs.beep_lives.specs.Lives.{can_send, live_at, owes_seq}
use Rattle.beep_session.specs.beep_giving.specs.Giving.{reply_refusal_at}
use Rattle.beep_session.specs.beep_giving.specs.Looks.{owes_of}
use Rattle.beep_session.specs.beep_hearing.specs.declared.ear.Ear.{Ear}
use Rattle.beep_session.specs.beep_standing.specs.Standing.{Marks}
use Rattle.beep_session.specs.beep_speaking.specs.declared.emit.Emit.{Emit}
use Rattle.beep_session.specs.beep_peer.specs.declared.peer.Peer.{Peer}
use Rattle.beep_session.specs.beep_peer.specs.Acts.{IsUnchanged, held_of}
use Rattle.beep_session.specs.beep_peer.specs.Calls.{Speaks, TakesTurn}
use Rattle.beep_session.specs.beep_peer.specs.Peering.{IsPeer, is_met, is_over, zero_waits}
use Rattle.beep_session.specs.Session.{Held}
use Rattle.beep_steps.specs.Logs.{StandsOn}
use Rattle.beep_steps.specs.Resting.{HasRepliedAt, HasSaidAll, HoldsStill, IsAwake, RestsAfter}

-- ---- all channels

-- where a test holds of none, it holds of that of no number
none-at : (test : Live → Bool) (cs : List Live) → list_any test cs ≡ false → (n : ℕ) (c : Live) → live_at n cs ≡ Some c → test c ≡ false
none-at test [] none n c at = absurd (let g : None ≡ Some c = at in cc)
none-at test (d ∷ cs) none n c at = of (d.held.number == n) at (test d) refl none (λ rest at. none-at test cs rest n c at)
  where
    of : (b : Bool) → (if b then Some d else live_at n cs) ≡ Some c → (t : Bool) → test d ≡ t → (t || list_any test cs) ≡ false
        → (list_any test cs ≡ false → live_at n cs ≡ Some c → test c ≡ false) → test c ≡ false
    of b at true e none others = absurd (let g : true ≡ false = none in cc)
    of true at false e none others = let g : d ≡ c = cc in subst (λ (l : Live). test l ≡ false) g e
    of false at false e none others = others none at

pub held-at : (o : Option Live) (h : Channel) → held_of o ≡ Some h → (c : Live) × (o ≡ Some c) × (c.held ≡ h)
held-at None h e = absurd (let g : None ≡ Some h = e in cc)
held-at (Some c) h e = (c, refl, let g : Some c.held ≡ Some h = e in cc)

pub said-all : (session : Held) → TakesTurn Emit.Nothing session.peer → HasSaidAll session
said-all session t = record {
  no_frame = λ n h at. let c = held-at (live_at n session.peer.lives) h at in subst (λ (x : Channel). is_held_ready x ≡ false) c.2 (none-at can_send session.peer.lives t.1 n c.0 c.1);
  no_seq = λ greeted n h at.
      let c = held-at (live_at n session.peer.lives) h at in subst (λ (x : Channel). is_seq_due_of x ≡ false) c.2 (none-at owes_seq session.peer.lives (t.0 greeted) n c.0 c.1);
}

-- ---- a session that holds still

pub still-none : (session : Held) → HoldsStill session session
still-none session = record { ear = refl; released = refl; held = λ n. refl; greeted = refl }

pub still-more : (a b c : Held) → HoldsStill a b → HoldsStill b c → HoldsStill a c
still-more a b c p q = record {
  ear = q.ear ∙ p.ear;
  released = q.released ∙ p.released;
  held = λ n. q.held n ∙ p.held n;
  greeted = q.greeted ∙ p.greeted;
}

pub unchanged-still : (old new : Held) → IsUnchanged old.peer new.peer → HoldsStill old new
unchanged-still old new u = record {
  ear = u.ear;
  released = u.released;
  held = u.held;
  greeted = ap (λ (requests : List Kept). is_met (oldest requests)) u.kept.theirs.requests;
}

module _ (old new : Held) (e : HoldsStill old new) where
  over-same : is_over new.peer ≡ is_over old.peer
  over-same = ap (λ (b : Bool). b || is_some new.peer.ear.broken) e.released ∙ ap (λ (x : Ear). old.peer.released || is_some x.broken) e.ear

  pub awake-before : IsAwake new → IsAwake old
  awake-before a = record {
    going = sym over-same ∙ a.going;
    settled = sym (ap (λ (b : Bool). not b && is_some new.peer.ear.waits) over-same ∙ ap (λ (x : Ear). not (is_over old.peer) && is_some x.waits) e.ear) ∙ a.settled;
  }

  pub still-said : HasSaidAll old → HasSaidAll new
  still-said s = record {
    no_frame = λ n h at. s.no_frame n h (sym (e.held n) ∙ at);
    no_seq = λ greeted n h at. s.no_seq (sym e.greeted ∙ greeted) n h (sym (e.held n) ∙ at);
  }

  pub still-replied : (n : ℕ) → HasRepliedAt n old → HasRepliedAt n new
  still-replied n r h at = r h (sym (e.held n) ∙ at)

-- ---- what goes out

pub emits-rests : (said : Emit) (old new : Held) (before after : List ℕ) (most : ℕ) (log : List Moment) → StandsOn old log → (over : Bool) → is_over old.peer ≡ over
    → (is_over old.peer ≡ false → TakesTurn said old.peer)
    → ((fed rest : List ℕ) (journal : List Item) (given taken : Marks) → is_over old.peer ≡ false → IsPeer old.limits.window fed rest journal given taken old.peer
    → Speaks said old.limits.window most fed rest journal given taken old.peer new.peer before after)
    → (is_over old.peer ≡ true → new ≡ old) → RestsAfter said new
emits-rests (Emit.Data head) old new before after most log s over is turn speaks same = tt
emits-rests (Emit.Seq seq) old new before after most log s over is turn speaks same = tt
emits-rests Emit.Nothing old new before after most log s true is turn speaks same =
    λ awake. absurd (let g : true ≡ false = sym is ∙ sym (ap (λ (x : Held). is_over x.peer) (same is)) ∙ awake.going in cc)
emits-rests Emit.Nothing old new before after most log s false is turn speaks same =
    λ awake. said-all new (subst (λ (p : Peer). TakesTurn Emit.Nothing p) (sym (speaks s.fed s.rest s.journal s.given s.taken is s.stands.stands).0) (turn is))

-- ---- what is refused

-- nothing is owed on a channel
pub none-owed : (n : ℕ) (session : Held) → owes_of (live_at n session.peer.lives) ≡ false → HasRepliedAt n session
none-owed n session none h at =
    let c = held-at (live_at n session.peer.lives) h at in
    let owes : nat_lt 0 h.life.given.owed ≡ false = sym (ap owes_of c.1 ∙ ap (λ (x : Channel). nat_lt 0 x.life.given.owed) c.2) ∙ none in
    ap (λ (b : Bool). not b || nat_lt 0 (length h.queue)) owes

-- a channel that isn't there owes nothing
pub none-there : (n : ℕ) (session : Held) → is_some (live_at n session.peer.lives) ≡ false → HasRepliedAt n session
none-there n session none h at =
    let c = held-at (live_at n session.peer.lives) h at in absurd (let g : true ≡ false = sym (ap is_some c.1) ∙ none in cc)

-- alone a reply finds room
none-refused : (zero : Bool) (size : ℕ) → size ≤ MAX_MESSAGE → give_refusal (record { messages = []; limit = if zero then None else Some MAX_MESSAGE; spare = 0; places = 0 }) size ≡ None
none-refused true size small = refl
none-refused false size small = ap (λ (b : Bool). if b then Some (GiveError.Full 0 MAX_MESSAGE) else None) (within size small)
  where
    within : (n : ℕ) → n ≤ MAX_MESSAGE → nat_lt MAX_MESSAGE (0 + n) ≡ false
    within n h = grind (arith, nat_tests)

-- so something is unsent where one finds none
unsent-some : (queue : List Unsent) (channel : Channel) → channel.queue ≡ queue → (size : ℕ) (error : GiveError) → reply_refusal channel size ≡ Some error → size ≤ MAX_MESSAGE → nat_lt 0 (length queue) ≡ true
unsent-some [] channel is size error refused small =
    let h : give_refusal (record { messages = []; limit = limit_of channel.number; spare = 0; places = 0 }) size ≡ Some error =
    sym (ap (λ (q : List Unsent). give_refusal (record { messages = q; limit = limit_of channel.number; spare = 0; places = 0 }) size) is) ∙ refused in
    absurd (let g : None ≡ Some error = sym (none-refused (channel.number == 0) size small) ∙ h in cc)
unsent-some (m ∷ queue) channel is size error refused small = some (length queue)
  where
    some : (n : ℕ) → nat_lt 0 (suc n) ≡ true
    some n = grind (arith, nat_tests)

pub full-replied : (n : ℕ) (session : Held) (size : ℕ) (error : GiveError) → reply_refusal_at (live_at n session.peer.lives) size ≡ Some error → size ≤ MAX_MESSAGE → HasRepliedAt n session
full-replied n session size error refused small h at =
    let c = held-at (live_at n session.peer.lives) h at in
    let here : reply_refusal h size ≡ Some error = sym (ap (λ o. reply_refusal_at o size) c.1 ∙ ap (λ (x : Channel). reply_refusal x size) c.2) ∙ refused in
    ap (λ (b : Bool). not (nat_lt 0 h.life.given.owed) || b) (unsent-some h.queue h refl size error here small) ∙ either (not (nat_lt 0 h.life.given.owed))
  where
    either : (b : Bool) → (b || true) ≡ true
    either true = refl
    either false = refl

-- a channel that isn't open, while the session goes on, isn't there
pub shut-there : (n : ℕ) (session : Held) → (n == 0) ≡ false → IsAwake session
    → (not (zero_waits session.peer) && (not (is_over session.peer) && (not (n == 0) && is_some (live_at n session.peer.lives)))) ≡ false → is_some (live_at n session.peer.lives) ≡ false
shut-there n session above awake shut =
    sym (ap (λ (b : Bool). not b && (not (is_over session.peer) && (not (n == 0) && is_some (live_at n session.peer.lives)))) awake.settled
    ∙ ap (λ (b : Bool). not b && (not (n == 0) && is_some (live_at n session.peer.lives))) awake.going ∙ ap (λ (b : Bool). not b && is_some (live_at n session.peer.lives)) above) ∙ shut
