-- An end on the log of its link.
use Rattle.std.proofs.Common.{◌≡◌, ◌⊎◌, inl, inr, ℕ, ◌+◌, ◌-◌, ◌<◌, arith, Bool, true, false, ◌||◌, List, [], ◌∷◌, ◌++◌, length, None, Some, Option, refl, sym, ap, ◌∙◌, subst, take, drop, take-append-drop, take-add}
use Rattle.std.proofs.lemmas.List.{take_rest, length-drop}
use Rattle.std.proofs.Math.Seq.{take-length}
use Rattle.std.specs.Prelude.{is_some, Result, Ok, Err, IfOk, IfErr, OnOk}
use Rattle.beep_session.specs.beep_frame.specs.Modulo.{modulo_2_64}
use Rattle.beep_session.specs.beep_frame.specs.declared.rule.Rule.{Rule}
use Rattle.beep_session.specs.beep_history.specs.Journal.{Item}
use Rattle.beep_session.specs.beep_journal.specs.Log.{Moment, got, got_all}
use Rattle.beep_session.specs.beep_journal.specs.Life.{is_released}
use Rattle.beep_session.specs.beep_lawful.specs.declared.terms.Terms.{Terms}
use Rattle.beep_session.specs.beep_standing.specs.Standing.{Marks}
use Rattle.beep_session.specs.beep_peer.specs.Peering.{IsPeer, is_over}
use Rattle.beep_session.specs.Session.{Held}
use Rattle.beep_session.specs.Lawfully.{terms_of, IsLawfulSession, FeedsLawfully}
use Rattle.beep_session.specs.declared.event.Event.{Event}
use Rattle.beep_session.specs.Channels.{IsOfPeer}
use Rattle.beep_session.specs.Feeds.{Feeds}
use Rattle.beep_logged.proofs.EndLemmas.{released-gots, broken-gots, reads-lawful, sound-of}
use Rattle.beep_logged.proofs.ReadLemmas.{first-logged}
use Rattle.beep_link.specs.beep_wires.specs.Log.{Entry, read, wrote, quiet, ended}
use Rattle.beep_link.specs.Causes.{WhereKnown, ended_by}
use Rattle.beep_link.specs.declared.ended.Ended.{Ended}
use Rattle.beep_link.specs.declared.ended.Stop.{Stop}
use Rattle.beep_steps.specs.Logs.{moments, IsLawfulOn, StandsOn, WaitsOn, Shows, ShowsRelease, ShowsFault, ShowsCut, StopsInRead, StopsOn, SaysNothing}
use Rattle.beep_steps.specs.Refusing.{RefusesOn}
use Rattle.beep_steps.proofs.CallLemmas.{Fed, fed-on, left-false}

-- ---- a session that stops within a read

module _ (session : Held) (log : List Entry) (s : StandsOn session (moments log)) where
  pub stops-in : (octets : List ℕ) → StopsInRead (terms_of session) (read octets ∷ log)
  stops-in octets = (
    sound-of (terms_of session) s.rest s.journal (moments log) s.logged,
    reads-lawful (terms_of session) s.rest octets s.journal (moments log) s.logged,
  )

  pub stopped-on : (octets : List ℕ) (stop : Stop) → StopsOn (terms_of session) stop (got_all octets (moments log)) → RefusesOn (terms_of session) stop (got_all octets (moments log))
      → Shows (terms_of session) (ended_by stop) (read octets ∷ log)
  stopped-on octets Stop.Released h r = h
  stopped-on octets (Stop.Broken rule place) h r = (h, stops-in octets)
  stopped-on octets Stop.WriteFault h r = stops-in octets
  stopped-on octets Stop.NoMemory h r = inr (stops-in octets)
  stopped-on octets (Stop.Refused code) h r = (stops-in octets, r)

stops-lawful : (terms : Terms) (log : List Entry) → StopsInRead terms log → IsLawfulOn terms log
stops-lawful terms [] h = absurd h
stops-lawful terms (read octets ∷ log) h = h.1
stops-lawful terms (wrote octets ∷ log) h = absurd h
stops-lawful terms (quiet ∷ log) h = absurd h
stops-lawful terms (ended ∷ log) h = absurd h

-- ---- a session that is over, or is cut

released-of : (a : Bool) {A : Type 0} (b : Option A) → (a || is_some b) ≡ true → b ≡ None → a ≡ true
released-of true b e f = refl
released-of false b e f = absurd (let h : false ≡ true = ap is_some (sym f) ∙ e in cc)

module _ (session : Held) (log : List Moment) (s : StandsOn session log) where
  pub released-on : session.peer.released ≡ true → is_released s.journal ≡ true
  released-on e = sym s.stands.stands.released ∙ e

  pub over-on : is_over session.peer ≡ true → is_released s.journal ≡ true
  over-on e = released-on (released-of session.peer.released session.peer.ear.broken e s.stands.stands.hears.going)

  pub shows-release : is_released s.journal ≡ true → ShowsRelease (terms_of session) log
  shows-release e = record {
    sound = record { past = s.logged.shown.past; shows = s.logged.shown.shows; going = s.logged.shown.going; lawful = s.logged.lawful };
    whole = s.logged.shown.whole;
    released = ap is_released s.logged.shown.journal_is ∙ e;
  }

  -- octets that come after the release
  pub release-goes-on : (octets : List ℕ) → is_released s.journal ≡ true → ShowsRelease (terms_of session) (got_all octets log)
  release-goes-on octets e =
      let l = released-gots (terms_of session) s.rest octets s.journal log e s.logged in
      record {
        sound = record { past = l.shown.past; shows = l.shown.shows; going = l.shown.going; lawful = l.lawful };
        whole = l.shown.whole;
        released = ap is_released l.shown.journal_is ∙ e;
      }

  pub unreleased-on : is_over session.peer ≡ false → is_released s.journal ≡ false
  unreleased-on e = sym s.stands.stands.released ∙ left-false session.peer.released (is_some session.peer.ear.broken) e

  pub shows-cut : (left : ℕ) → ((fed rest : List ℕ) (journal : List Item) (given taken : Marks) → IsPeer session.limits.window fed rest journal given taken session.peer
      → left ≡ modulo_2_64 (length rest)) → is_over session.peer ≡ false → ShowsCut (terms_of session) left log
  shows-cut left f going = record {
    sound = record { past = s.logged.shown.past; shows = s.logged.shown.shows; going = s.logged.shown.going; lawful = s.logged.lawful };
    whole = s.logged.shown.whole;
    unreleased = ap is_released s.logged.shown.journal_is ∙ unreleased-on going;
    left_is = f s.fed s.rest s.journal s.given s.taken s.stands.stands ∙ ap (λ (x : List ℕ). modulo_2_64 (length x)) (sym s.logged.shown.rest_is);
  }

-- ---- octets in pieces

pub got-append : (one two : List ℕ) (log : List Moment) → got_all (one ++ two) log ≡ got_all two (got_all one log)
got-append [] two log = refl
got-append (octet ∷ one) two log = got-append one two (got octet ∷ log)

pub got-rest : (n : ℕ) (octets : List ℕ) (log : List Moment) → got_all (drop n octets) (got_all (take n octets) log) ≡ got_all octets log
got-rest n octets log = sym (got-append (take n octets) (drop n octets) log) ∙ ap (λ (x : List ℕ). got_all x log) (take-append-drop n octets)

-- so many octets more
pub got-more : (at n : ℕ) (bytes : List ℕ) (log : List Moment) → got_all (take n (take (length bytes - at) (drop at bytes))) (got_all (take at bytes) log) ≡ got_all (take (at + n) bytes) log
got-more at n bytes log =
    ap (λ (x : List ℕ). got_all (take n x) (got_all (take at bytes) log)) (take_rest bytes at) ∙ sym (got-append (take at bytes) (take n (drop at bytes)) log)
    ∙ ap (λ (x : List ℕ). got_all x log) (sym (take-add at n bytes))

-- the others
pub got-last : (at : ℕ) (bytes : List ℕ) (log : List Moment) → got_all (take (length bytes - at) (drop at bytes)) (got_all (take at bytes) log) ≡ got_all bytes log
got-last at bytes log = ap (λ (x : List ℕ). got_all x (got_all (take at bytes) log)) (take_rest bytes at) ∙ got-rest at bytes log

-- what is read after a stop changes nothing of it
pub fault-goes-on : (terms : Terms) (rule : Rule) (place : ℕ) (octets : List ℕ) (log : List Moment) → ShowsFault terms rule place log → ShowsFault terms rule place (got_all octets log)
fault-goes-on terms rule place octets log f = record { octet = f.octet; place_is = f.place_is; broken = broken-gots terms rule f.octet octets log f.broken }

pub length-rest : (at : ℕ) (bytes : List ℕ) → length (take (length bytes - at) (drop at bytes)) ≡ length bytes - at
length-rest at bytes = ap length (take_rest bytes at) ∙ length-drop at bytes

-- there are others
pub rest-some : (at : ℕ) (bytes : List ℕ) → at < length bytes → 0 < length (take (length bytes - at) (drop at bytes))
rest-some at bytes h =
    omega (arith, length-rest at bytes, h)

-- they are all
pub got-whole : (at : ℕ) (bytes : List ℕ) (log : List Moment) → at ≡ length bytes → got_all (take at bytes) log ≡ got_all bytes log
got-whole at bytes log e = ap (λ (x : List ℕ). got_all x log) (ap (λ (n : ℕ). take n bytes) e ∙ take-length bytes)

-- a stop of which a log shows nothing
pub nothing-stops : (terms : Terms) (stop : Stop) (log : List Moment) → SaysNothing stop → StopsOn terms stop log
nothing-stops terms Stop.Released log h = absurd h
nothing-stops terms (Stop.Broken rule place) log h = absurd h
nothing-stops terms Stop.WriteFault log h = tt
nothing-stops terms Stop.NoMemory log h = tt
nothing-stops terms (Stop.Refused code) log h = tt

pub err-map : {A E : Type 0} (result : Result A E) (P Q : E → Type 0) → ((e : E) → P e → Q e) → IfErr result P → IfErr result Q
err-map (Ok value) P Q f h = h
err-map (Err error) P Q f h = f error h

pub ok-then : {A E : Type 0} (result : Result A E) (P Q : Type 0) → (P → Q) → OnOk result P → OnOk result Q
ok-then (Ok value) P Q f h = f h
ok-then (Err error) P Q f h = h

pub ok-map : {A E : Type 0} (result : Result A E) (P Q : A → Type 0) → ((a : A) → P a → Q a) → IfOk result P → IfOk result Q
ok-map (Ok value) P Q f h = f value h
ok-map (Err error) P Q f h = h

-- ---- a feed

-- what an event leaves that came as of so many of these octets
abbrev pub Heard : Event → Terms → Held → ℕ → List ℕ → List Moment → Type 0
Heard Event.More terms new count bytes log = StandsOn new (got_all (take count bytes) log)
Heard (Event.Arrived number) terms new count bytes log = StandsOn new (got_all (take count bytes) log)
Heard Event.Zero terms new count bytes log = WaitsOn new (got_all (take count bytes) log)
Heard Event.Released terms new count bytes log = ShowsRelease terms (got_all bytes log)
Heard (Event.Broken rule place) terms new count bytes log = ShowsFault terms rule place (got_all bytes log)
Heard Event.NoMemory terms new count bytes log = StandsOn new (got_all (take count bytes) log)

module _ (count : ℕ) (bytes : List ℕ) (old new : Held) (log : List Moment) where
  heard-by : (event : Event) → Fed event (terms_of old) new (got_all (take count bytes) log) → Heard event (terms_of old) new count bytes log
  heard-by Event.More f = f
  heard-by (Event.Arrived number) f = f
  heard-by Event.Zero f = f
  heard-by Event.Released f = absurd f
  heard-by (Event.Broken rule place) f =
      subst (ShowsFault (terms_of old) rule place) (got-rest count bytes log) (fault-goes-on (terms_of old) rule place (drop count bytes) (got_all (take count bytes) log) f)
  heard-by Event.NoMemory f = f

  pub hears-on : (event : Event) (released : Bool) → old.peer.released ≡ released → IsOfPeer old new → new.peer.released ≡ old.peer.released
      → ((fed rest : List ℕ) (journal : List Item) (given taken : Marks) → old.peer.released ≡ false → IsPeer old.limits.window fed rest journal given taken old.peer
      → Feeds event old.limits.window (take count bytes) fed journal given taken new.peer)
      → ((fed rest : List ℕ) (journal : List Item) (given taken : Marks) → old.peer.released ≡ false → IsLawfulSession old fed rest journal given taken
      → FeedsLawfully event (terms_of old) (take count bytes) fed journal given taken new.peer)
      → (old.peer.released ≡ true → (count ≡ 0) × (event ≡ Event.Released) × (new ≡ old)) → StandsOn old log → Heard event (terms_of old) new count bytes log
  hears-on event true e same kept answers lawful rests s =
      subst (λ (x : Event). Heard x (terms_of old) new count bytes log) (sym (rests e).1) (release-goes-on old log s bytes (released-on old log s e))
  hears-on event false e same kept answers lawful rests s =
      heard-by event (fed-on (take count bytes) old new log same s e event kept (answers s.fed s.rest s.journal s.given s.taken e s.stands.stands)
      (lawful s.fed s.rest s.journal s.given s.taken e s.stands))

-- ---- before the first octet

abbrev pub begins-on : (session : Held) (given taken : Marks) → IsLawfulSession session [] [] [] given taken → StandsOn session []
begins-on session given taken s = record {
  fed = [];
  rest = [];
  journal = [];
  given = given;
  taken = taken;
  stands = s;
  framed = tt;
  logged = first-logged (terms_of session);
}

-- before the first octet the log shows no broken rule
pub none-shown : (terms : Terms) → Shows terms Ended.NoMemory []
none-shown terms = inl (sound-of terms [] [] [] (first-logged terms))

-- whatever ended the session, what was written is lawful
pub shows-lawful : (terms : Terms) (cause : Ended) (log : List Entry) → Shows terms cause log → IsLawfulOn terms log
shows-lawful terms Ended.Released log h = h.sound.lawful
shows-lawful terms (Ended.Broken rule place) log h = h.0.broken.lawful
shows-lawful terms Ended.WriteFault log h = stops-lawful terms log h
shows-lawful terms Ended.WireFault log h = h.lawful
shows-lawful terms Ended.NoMemory log (inl h) = h.lawful
shows-lawful terms Ended.NoMemory log (inr h) = stops-lawful terms log h
shows-lawful terms (Ended.Refused code) log h = stops-lawful terms log h.0
shows-lawful terms (Ended.Cut left) log h = h.sound.lawful
shows-lawful terms (Ended.Idle count) log h = h.sound.lawful
shows-lawful terms (Ended.Spent count) log h = h.sound.lawful

pub known-lawful : (terms : Terms) (cause : Ended) (log : Option (List Entry)) → WhereKnown (Shows terms cause) log → WhereKnown (IsLawfulOn terms) log
known-lawful terms cause None h = tt
known-lawful terms cause (Some log) h = shows-lawful terms cause log h

-- nothing was read or written
pub none-known : (P : List Entry → Type 0) (log : Option (List Entry)) → P [] → (log ≡ None) ⊎ (log ≡ Some []) → WhereKnown P log
none-known P log p (inl e) = subst (WhereKnown P) (sym e) tt
none-known P log p (inr e) = subst (WhereKnown P) (sym e) p
