-- A channel in which a life has just begun can be opened by an end that asks nothing on channel zero: it goes on, and no close of its own waits.
use Rattle.std.proofs.Common.{◌≡◌, ◌∙◌, refl, sym, ap, ℕ, zero, suc, ◌-◌, ◌==◌, Bool, true, false, not, ◌&&◌, ◌||◌, if◌then◌else◌, List, [], ◌∷◌, ◌++◌, length, map, drop, reverse, Option, None, Some, arith}
use Rattle.std.specs.Prelude.{is_some, nat_lt}
use Rattle.std.specs.List.{list_any}
use Rattle.std.proofs.lemmas.Bool.Decides.{nat_tests}
use Rattle.beep_session.specs.beep_frame.specs.Frame.{is_msg}
use Rattle.beep_session.specs.beep_history.specs.declared.journal.Side.{Side}
use Rattle.beep_session.specs.beep_history.specs.Journal.{Item}
use Rattle.beep_session.specs.beep_history.specs.Marks.{Mark, octet, end}
use Rattle.beep_session.specs.beep_outbox.specs.Queue.{marks_of as unsent_marks}
use Rattle.beep_session.specs.beep_channel.specs.Held.{Live}
use Rattle.beep_session.specs.beep_channel.specs.Stands.{Stands}
use Rattle.beep_session.specs.beep_lives.specs.Lives.{live_at}
use Rattle.beep_session.specs.beep_mgmt.specs.Form.{Form}
use Rattle.beep_session.specs.beep_journal.specs.Life.{is_released, is_there}
use Rattle.beep_session.specs.beep_journal.specs.Log.{Moment}
use Rattle.beep_session.specs.beep_journal.specs.Zero.{asked, zero_history}
use Rattle.beep_session.specs.beep_decide.specs.Asks.{is_close_of}
use Rattle.beep_session.specs.beep_spoken.specs.Spoken.{Spoken, kinds_of}
use Rattle.beep_session.specs.beep_standing.specs.Standing.{AreLiveBy, Marks}
use Rattle.beep_session.specs.beep_hearing.specs.Hears.{Hears}
use Rattle.beep_session.specs.beep_hearing.specs.declared.ear.Ear.{Ear}
use Rattle.beep_session.specs.beep_asked.specs.Kept.{Kept, closes, closes_one}
use Rattle.beep_session.specs.beep_management.specs.Managed.{Managed, requests_among}
use Rattle.beep_session.specs.beep_management.specs.Manages.{Manages}
use Rattle.beep_session.specs.beep_peer.specs.declared.peer.Peer.{Peer}
use Rattle.beep_session.specs.beep_peer.specs.Peering.{IsPeer, is_over}
use Rattle.beep_session.specs.Channels.{is_closing}
use Rattle.beep_session.specs.Session.{Held}
use Rattle.beep_desk.specs.beep_talk.specs.Plan.{PlainPlan}
use Rattle.beep_desk.specs.beep_script.specs.Requested.{requests_from}
use Rattle.beep_desk.proofs.OwnLemmas.{any-append, any-reverse, form_said, own-waiting}
use Rattle.beep_steps.specs.Serving.{ServesOn}

-- ---- tests

left-false : (a b : Bool) → (a || b) ≡ false → a ≡ false
left-false true b e = absurd (let h : true ≡ false = e in cc)
left-false false b e = refl

right-false : (a b : Bool) → (a || b) ≡ false → b ≡ false
right-false true b e = absurd (let h : true ≡ false = e in cc)
right-false false b e = e

-- ---- own requests

-- no message is a request where no request ends among the marks that were given
none-among : (begun : List ℕ) (ms : List Mark) (spoken : List Spoken) → kinds_of ms ≡ map (λ (one : Spoken). one.kind) spoken → requests_from begun ms ≡ [] → requests_among spoken ≡ []
none-among begun [] [] kinds none = refl
none-among begun [] (one ∷ spoken) kinds none = absurd cc
none-among begun (octet tag value ∷ ms) spoken kinds none = none-among (begun ++ value ∷ []) ms spoken kinds none
none-among begun (end tag ∷ ms) [] kinds none = absurd cc
none-among begun (end tag ∷ ms) (one ∷ spoken) kinds none =
    let same : tag.kind ≡ one.kind = cc in
    let rest : kinds_of ms ≡ map (λ (other : Spoken). other.kind) spoken = cc in
    ap (λ (k : Bool). if k then one ∷ requests_among spoken else requests_among spoken) (sym (ap is_msg same))
    ∙ of (is_msg tag.kind) none (λ e. none-among [] ms spoken rest e)
  where
    of : (b : Bool) → (if b then begun ∷ requests_from [] ms else requests_from [] ms) ≡ [] → (requests_from [] ms ≡ [] → requests_among spoken ≡ [])
        → (if b then one ∷ requests_among spoken else requests_among spoken) ≡ []
    of true e f = absurd (let h : begun ∷ requests_from [] ms ≡ [] = e in cc)
    of false e f = f e

-- requests of which none says anything close nothing
says-none : (n : ℕ) (kepts : List Kept) (forms : List (Option Form)) → map (λ (kept : Kept). kept.said) kepts ≡ forms → list_any is_some forms ≡ false → closes n kepts ≡ false
says-none n [] forms are none = refl
says-none n (kept ∷ kepts) [] are none = absurd (let h : kept.said ∷ map (λ (k : Kept). k.said) kepts ≡ [] = are in cc)
says-none n (kept ∷ kepts) (Some form ∷ forms) are none = absurd (let h : true ≡ false = none in cc)
says-none n (kept ∷ kepts) (None ∷ forms) are none =
    let said : kept.said ≡ None = cc in
    let rest : map (λ (k : Kept). k.said) kepts ≡ forms = cc in
    ap (λ (form : Option Form). (is_close_of n form && (n == 0 || kept.names)) || closes n kepts) said ∙ says-none n kepts forms rest none

-- the implied request says nothing
implied-none : (k : ℕ) → list_any is_some (drop k (None ∷ map form_said [])) ≡ false
implied-none zero = refl
implied-none (suc zero) = refl
implied-none (suc (suc k)) = refl

-- no own close waits where no request was given to channel zero
module _ (n size : ℕ) (journal : List Item) (given taken : Marks) (channels : List Live) (m : Managed) (live : AreLiveBy size journal given taken channels) (manages : Manages size journal given m)
    (none : requests_from [] (given 0) ≡ []) where
  zero-stands : (c : Live) × Stands size c.held (zero_history journal) (given 0) (taken 0)
  zero-stands = of (live_at 0 channels) refl (sym (live.there 0))
    where
      of : (o : Option Live) → live_at 0 channels ≡ o → is_some o ≡ true → (c : Live) × Stands size c.held (zero_history journal) (given 0) (taken 0)
      of None at e = absurd (let h : false ≡ true = e in cc)
      of (Some c) at e = (c, live.zero c at)

  none-given : requests_among manages.spoken ≡ []
  none-given = none-among [] (given 0) manages.spoken manages.is.spoken_is.kinds none

  pub own-unclosed : (closes n m.mine.requests || closes n m.acts.requests) ≡ false
  own-unclosed =
      let mine = m.mine.requests in
      let acts = m.acts.requests in
      let past = zero_history journal in
      let c = zero-stands in
      let waits = length (asked Side.Sent past) - length mine in
      sym (any-append (closes_one n) (reverse mine) (reverse acts)
      ∙ ap (λ b. b || closes n (reverse acts)) (any-reverse (closes_one n) mine)
      ∙ ap (λ b. closes n mine || b) (any-reverse (closes_one n) acts))
      ∙ says-none n (reverse mine ++ reverse acts) (drop waits (None ∷ map form_said []))
      (own-waiting journal (given 0) (unsent_marks c.0.held.queue) manages.spoken c.1.held.exchange.unbroken manages.is.spoken_is c.1.all_given mine acts manages.is.mine manages.is.acts
      ∙ ap (λ l. drop waits (None ∷ map form_said l)) none-given)
      (implied-none waits)

  -- neither of an own request that has passed
  pub mine-unclosed : closes n m.mine.requests ≡ false
  mine-unclosed = left-false (closes n m.mine.requests) (closes n m.acts.requests) own-unclosed

  -- nor of one that has not
  pub acts-unclosed : closes n m.acts.requests ≡ false
  acts-unclosed = right-false (closes n m.mine.requests) (closes n m.acts.requests) own-unclosed

-- ---- a session that goes on

-- no rule is broken where an ear stands for a journal
pub unbroken-on : (fed rest : List ℕ) (journal : List Item) (ear : Ear) → Hears fed rest journal ear → is_some ear.broken ≡ false
unbroken-on fed rest journal ear hears = ap is_some hears.going

-- a peer that stands for a journal that isn't released goes on
pub going-on : (size : ℕ) (fed rest : List ℕ) (journal : List Item) (given taken : Marks) (peer : Peer) → IsPeer size fed rest journal given taken peer → is_released journal ≡ false
    → is_over peer ≡ false
going-on size fed rest journal given taken peer is going =
    ap (λ b. b || is_some peer.ear.broken) (is.released ∙ going) ∙ unbroken-on fed rest journal peer.ear is.hears

-- ---- a channel is opened

all-true : (a b c d : Bool) → a ≡ false → b ≡ true → c ≡ true → d ≡ false → (not a && (b && (c && not d))) ≡ true
all-true a b c d over above live closing = rw (over, above, live, closing) refl

-- a number is above zero where it isn't zero
above-zero : (n : ℕ) → (n == 0) ≡ false → nat_lt 0 n ≡ true
above-zero n e = grind (arith, nat_tests, e)

-- the channel of a live life opens, in a session that asked nothing on channel zero and isn't released
pub opens : (n : ℕ) (session : Held) (fed rest : List ℕ) (journal : List Item) (given taken : Marks) → IsPeer session.limits.window fed rest journal given taken session.peer
    → requests_from [] (given 0) ≡ [] → (n == 0) ≡ false → is_there n journal ≡ true → is_released journal ≡ false
    → (not (is_over session.peer) && (nat_lt 0 n && (is_some (live_at n session.peer.lives) && not (is_closing n session)))) ≡ true
opens n session fed rest journal given taken is none above there going =
    let size = session.limits.window in
    all-true (is_over session.peer) (nat_lt 0 n) (is_some (live_at n session.peer.lives)) (is_closing n session)
    (going-on size fed rest journal given taken session.peer is going)
    (above-zero n above)
    (sym (is.holds.live.there n) ∙ there)
    (own-unclosed n size journal given taken session.peer.lives session.peer.management is.holds.live is.holds.manages none)

-- so does one of a listener on the log of its link
pub opens-on : (plan : PlainPlan) (session : Held) (log : List Moment) (s : ServesOn plan session log) (n : ℕ) → (n == 0) ≡ false → is_there n s.on.journal ≡ true
    → is_released s.on.journal ≡ false
    → (not (is_over session.peer) && (nat_lt 0 n && (is_some (live_at n session.peer.lives) && not (is_closing n session)))) ≡ true
opens-on plan session log s n above there going =
    opens n session s.on.fed s.on.rest s.on.journal s.on.given s.on.taken s.on.stands.stands s.serves.no_request above there going
