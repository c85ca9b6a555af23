-- What comes leaves of a sender that stands for a log.
use Rattle.std.proofs.Common.{◌≡◌, ℕ, ◌≤◌, Bool, true, false, ◌||◌, List, [], ◌∷◌, ◌++◌, refl, sym, ap, ◌∙◌, subst}
use Rattle.std.specs.List.{list_any}
use Rattle.beep_session.specs.beep_history.specs.declared.journal.Side.{Side}
use Rattle.beep_session.specs.beep_history.specs.Journal.{Item, began, passed, told}
use Rattle.beep_session.specs.beep_journal.specs.Lives.{Event as Moment_of_life, lives, is_live}
use Rattle.beep_session.specs.beep_journal.specs.Zero.{events}
use Rattle.beep_session.specs.beep_journal.specs.Life.{is_there}
use Rattle.beep_session.specs.beep_journal.specs.Log.{Moment, got_all}
use Rattle.beep_session.specs.beep_lawful.specs.declared.terms.Terms.{Terms}
use Rattle.beep_session.specs.beep_standing.specs.Standing.{Marks}
use Rattle.beep_session.specs.beep_hearing.specs.Hears.{Join, MayJoin, ends_zero}
use Rattle.beep_session.specs.beep_peer.proofs.GainLemmas.{gained-events}
use Rattle.beep_session.specs.declared.event.Event.{Event}
use Rattle.beep_session.specs.Channels.{IsOfPeer}
use Rattle.beep_session.specs.Feeds.{Feeds}
use Rattle.beep_session.specs.Lawfully.{terms_of, IsLawfulSession, FeedsLawfully, GainsLawfully, WaitsLawfully}
use Rattle.beep_session.specs.Session.{Held}
use Rattle.beep_desk.specs.beep_talk.specs.Plan.{PlainPlan}
use Rattle.beep_desk.specs.beep_script.proofs.LineLemmas.{IsNoSent}
use Rattle.beep_steps.specs.Logs.{ShowsFault}
use Rattle.beep_steps.specs.Sending.{Progress, Sends, IsSender, SendsOn, SendsWaiting}
use Rattle.beep_steps.proofs.CallLemmas.{gained-on, waits-on, breaks-on}
use Rattle.beep_steps.proofs.CallSends.{sender-so}
use Rattle.beep_steps.proofs.SendsLemmas.{few-lives, item-sends}

-- ---- items that come

first-false : (a b : Bool) → (a || b) ≡ false → a ≡ false
first-false true b e = absurd cc
first-false false b e = refl

later-false : (a b : Bool) → (a || b) ≡ false → b ≡ false
later-false true b e = absurd cc
later-false false b e = e

pub received-item : (item : Item) (journal : List Item) → MayJoin item journal → IsNoSent item
received-item (began by head) journal may = tt
received-item (passed Side.Received head payload) journal may = tt
received-item (passed Side.Sent head payload) journal may = absurd (let e : Side.Sent ≡ Side.Received = may.0 in cc)
received-item (told by seq) journal may = tt

pub gained-sends : (plan : PlainPlan) (p : Progress) (gained journal : List Item) (given : Marks) → Join gained journal → list_any ends_zero gained ≡ false
    → lives 1 (events journal) ≤ 1 → Sends plan p journal given → Sends plan p (gained ++ journal) given
gained-sends plan p [] journal given join quiet few s = s
gained-sends plan p (item ∷ gained) journal given join quiet few s =
    item-sends plan p item (gained ++ journal) given given (gained-sends plan p gained journal given join.1 later few s) (received-item item (gained ++ journal) join.0)
    (record {
      asked = refl;
      same = λ was. refl;
      fresh = λ dead alive. absurd (let g : is_there 1 (gained ++ journal) ≡ true = ap (is_live 1) (sym same) ∙ alive in cc (dead, g));
    })
    (subst (λ (es : List Moment_of_life). lives 1 es ≤ 1) (sym (gained-events (item ∷ gained) journal quiet)) few)
  where
    later : list_any ends_zero gained ≡ false
    later = later-false (ends_zero item) (list_any ends_zero gained) quiet

    same : events (item ∷ gained ++ journal) ≡ events (gained ++ journal)
    same = gained-events (item ∷ gained) journal quiet ∙ sym (gained-events gained journal later)

-- ---- a session that uses octets

-- one life of channel 1 at most has begun
pub few-now : (plan : PlainPlan) (p : Progress) (session : Held) (fed rest : List ℕ) (journal : List Item) (given taken : Marks) → IsSender plan session
    → IsLawfulSession session fed rest journal given taken → Sends plan p journal given → lives 1 (events journal) ≤ 1
few-now plan p session fed rest journal given taken who is s =
    few-lives plan.raw_uri who.texts (terms_of session) who.role journal given taken session.peer.lives is.stands.holds.live p.asked s.asked is.lawful

-- what an event leaves of a sender, after these octets
abbrev pub FedSending : PlainPlan → Progress → Event → Terms → Held → List Moment → Type 0
FedSending plan p Event.More terms new log = SendsOn plan p new log
FedSending plan p (Event.Arrived number) terms new log = SendsOn plan p new log
FedSending plan p Event.Zero terms new log = SendsWaiting plan p new log
FedSending plan p Event.Released terms new log = ⊥
FedSending plan p (Event.Broken rule place) terms new log = ShowsFault terms rule place log
FedSending plan p Event.NoMemory terms new log = Unit {0}

module _ (plan : PlainPlan) (p : Progress) (octets : List ℕ) (old new : Held) (log : List Moment) (same : IsOfPeer old new) (s : SendsOn plan p old log) (going : old.peer.released ≡ false) where
  pub few : lives 1 (events s.on.journal) ≤ 1
  few = few-now plan p old s.on.fed s.on.rest s.on.journal s.on.given s.on.taken s.sender s.on.stands s.sends

  abbrev pub gained-sending : GainsLawfully (terms_of old) octets s.on.fed s.on.journal s.on.given s.on.taken new.peer → SendsOn plan p new (got_all octets log)
  gained-sending g = record {
    sender = sender-so plan old new same s.sender;
    on = gained-on octets old new log same s.on going g;
    sends = gained-sends plan p g.gained s.on.journal s.on.given g.gains.join g.gains.quiet few s.sends;
  }

  abbrev pub waits-sending : new.peer.released ≡ old.peer.released → WaitsLawfully (terms_of old) octets s.on.fed s.on.journal s.on.given s.on.taken new.peer
      → SendsWaiting plan p new (got_all octets log)
  waits-sending kept g = record {
    sender = sender-so plan old new same s.sender;
    on = waits-on octets old new log same s.on going kept g;
    sends = gained-sends plan p g.zero.gained s.on.journal s.on.given g.zero.join g.zero.quiet few s.sends;
  }

  pub fed-sending : (event : Event) → new.peer.released ≡ old.peer.released → Feeds event old.limits.window octets s.on.fed s.on.journal s.on.given s.on.taken new.peer
      → FeedsLawfully event (terms_of old) octets s.on.fed s.on.journal s.on.given s.on.taken new.peer → FedSending plan p event (terms_of old) new (got_all octets log)
  fed-sending Event.More kept f g = gained-sending g
  fed-sending (Event.Arrived number) kept f g = gained-sending g
  fed-sending Event.Zero kept f g = waits-sending kept g
  fed-sending Event.Released kept f g = absurd f
  fed-sending (Event.Broken rule place) kept f g = breaks-on octets old new log same s.on going rule place f
  fed-sending Event.NoMemory kept f g = tt
