-- What comes leaves of a sender's script above channel zero.
use Rattle.std.proofs.Common.{◌≡◌, ℕ, ◌≤◌, Bool, true, false, ◌||◌, List, [], ◌∷◌, ◌++◌, take, sym, ◌∙◌, subst}
use Rattle.std.specs.List.{list_any}
use Rattle.beep_session.specs.beep_history.specs.Journal.{Item}
use Rattle.beep_session.specs.beep_journal.specs.Lives.{Event as Moment_of_life, lives}
use Rattle.beep_session.specs.beep_journal.specs.Zero.{events}
use Rattle.beep_session.specs.beep_journal.specs.Log.{Moment, got_all}
use Rattle.beep_session.specs.beep_standing.specs.Standing.{Marks}
use Rattle.beep_session.specs.beep_hearing.specs.Hears.{Join, ends_zero}
use Rattle.beep_session.specs.beep_peer.proofs.GainLemmas.{gained-events}
use Rattle.beep_session.specs.declared.event.Event.{Event}
use Rattle.beep_session.specs.Channels.{IsOfPeer}
use Rattle.beep_session.specs.Lawfully.{terms_of, IsLawfulSession, FeedsLawfully, GainsLawfully, WaitsLawfully}
use Rattle.beep_session.specs.Session.{Held}
use Rattle.beep_desk.specs.beep_talk.specs.Plan.{PlainPlan}
use Rattle.beep_steps.specs.Sending.{Progress, Sends}
use Rattle.beep_steps.specs.Scripting.{Scripts, ScriptedOn, ScriptedWaiting}
use Rattle.beep_steps.proofs.HeardSends.{received-item, gained-sends, few, gained-sending, waits-sending}
use Rattle.beep_steps.proofs.ScriptLemmas.{item-scripts, quiet-carries}

-- ---- items that come

later-false : (a b : Bool) → (a || b) ≡ false → b ≡ false
later-false true b e = absurd cc
later-false false b e = e

pub gained-scripts : (plan : PlainPlan) (p : Progress) (gained journal : List Item) (given : Marks) → Join gained journal → list_any ends_zero gained ≡ false
    → lives 1 (events journal) ≤ 1 → Sends plan p journal given → Scripts plan p journal given → Scripts plan p (gained ++ journal) given
gained-scripts plan p [] journal given join quiet few s x = x
gained-scripts plan p (item ∷ gained) journal given join quiet few s x =
    item-scripts plan p item (gained ++ journal) given given (gained-sends plan p gained journal given join.1 later few s) (gained-scripts plan p gained journal given join.1 later few s x)
    (received-item item (gained ++ journal) join.0) (quiet-carries item (gained ++ journal) given same)
    (subst (λ (es : List Moment_of_life). lives 1 es ≤ 1) (sym (gained-events (item ∷ gained) journal quiet)) few)
  where
    later : list_any ends_zero gained ≡ false
    later = later-false (ends_zero item) (list_any ends_zero gained) quiet

    same : events (item ∷ gained ++ journal) ≡ events (gained ++ journal)
    same = gained-events (item ∷ gained) journal quiet ∙ sym (gained-events gained journal later)

-- ---- a session that uses octets

-- what an event leaves of a sender, after these octets
abbrev pub FedScripting : PlainPlan → Progress → Event → Held → List Moment → Type 0
FedScripting plan p Event.More new log = ScriptedOn plan p new log
FedScripting plan p (Event.Arrived number) new log = ScriptedOn plan p new log
FedScripting plan p Event.Zero new log = ScriptedWaiting plan p new log
FedScripting plan p Event.Released new log = Unit {0}
FedScripting plan p (Event.Broken rule place) new log = Unit {0}
FedScripting plan p Event.NoMemory new log = Unit {0}

module _ (plan : PlainPlan) (p : Progress) (octets : List ℕ) (old new : Held) (log : List Moment) (same : IsOfPeer old new) (s : ScriptedOn plan p old log) (going : old.peer.released ≡ false) where
  gained-scripting : GainsLawfully (terms_of old) octets s.sends.on.fed s.sends.on.journal s.sends.on.given s.sends.on.taken new.peer → ScriptedOn plan p new (got_all octets log)
  gained-scripting g = record {
    sends = gained-sending plan p octets old new log same s.sends going g;
    scripts = gained-scripts plan p g.gained s.sends.on.journal s.sends.on.given g.gains.join g.gains.quiet (few plan p octets old new log same s.sends going) s.sends.sends s.scripts;
  }

  waits-scripting : new.peer.released ≡ old.peer.released → WaitsLawfully (terms_of old) octets s.sends.on.fed s.sends.on.journal s.sends.on.given s.sends.on.taken new.peer
      → ScriptedWaiting plan p new (got_all octets log)
  waits-scripting kept g = record {
    sends = waits-sending plan p octets old new log same s.sends going kept g;
    scripts = gained-scripts plan p g.zero.gained s.sends.on.journal s.sends.on.given g.zero.join g.zero.quiet (few plan p octets old new log same s.sends going) s.sends.sends s.scripts;
  }

  pub fed-scripting : (event : Event) → new.peer.released ≡ old.peer.released
      → FeedsLawfully event (terms_of old) octets s.sends.on.fed s.sends.on.journal s.sends.on.given s.sends.on.taken new.peer → FedScripting plan p event new (got_all octets log)
  fed-scripting Event.More kept g = gained-scripting g
  fed-scripting (Event.Arrived number) kept g = gained-scripting g
  fed-scripting Event.Zero kept g = waits-scripting kept g
  fed-scripting Event.Released kept g = tt
  fed-scripting (Event.Broken rule place) kept g = tt
  fed-scripting Event.NoMemory kept g = tt

module _ (plan : PlainPlan) (p : Progress) (count : ℕ) (bytes : List ℕ) (old new : Held) (log : List Moment) where
  pub hears-scripting : (event : Event) (released : Bool) → old.peer.released ≡ released → IsOfPeer old new → new.peer.released ≡ old.peer.released
      → ((fed rest : List ℕ) (journal : List Item) (given taken : Marks) → old.peer.released ≡ false → IsLawfulSession old fed rest journal given taken
      → FeedsLawfully event (terms_of old) (take count bytes) fed journal given taken new.peer)
      → (old.peer.released ≡ true → (count ≡ 0) × (event ≡ Event.Released) × (new ≡ old)) → ScriptedOn plan p old log → FedScripting plan p event new (got_all (take count bytes) log)
  hears-scripting event true e same kept lawful rests s =
      subst (λ (x : Event). FedScripting plan p x new (got_all (take count bytes) log)) (sym (rests e).1) tt
  hears-scripting event false e same kept lawful rests s =
      fed-scripting plan p (take count bytes) old new log same s e event kept (lawful s.sends.on.fed s.sends.on.rest s.sends.on.journal s.sends.on.given s.sends.on.taken e s.sends.on.stands)
