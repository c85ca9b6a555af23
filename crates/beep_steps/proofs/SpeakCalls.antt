-- What each call of a session leaves of a listener that keeps its script.
use Rattle.std.proofs.Common.{◌≡◌, ℕ, ◌<◌, ◌==◌, Bool, true, false, not, ◌||◌, if◌then◌else◌, List, [], ◌∷◌, ◌++◌, Option, None, Some, refl, sym, ap, ◌∙◌, subst}
use Rattle.std.specs.Prelude.{IfSome, IfNone, is_some}
use Rattle.beep_session.specs.beep_frame.specs.declared.head.Head.{Head}
use Rattle.beep_session.specs.beep_frame.specs.declared.rule.Rule.{Rule}
use Rattle.beep_session.specs.beep_frame.specs.Frame.{framed, seq_frame}
use Rattle.beep_session.specs.beep_frame.specs.Spelling.{spelling}
use Rattle.beep_session.specs.beep_history.specs.declared.journal.Side.{Side}
use Rattle.beep_session.specs.beep_history.specs.Journal.{Item, began, passed, told}
use Rattle.beep_session.specs.beep_history.specs.Broken.{first_of}
use Rattle.beep_session.specs.beep_journal.specs.Broken.{none_tunes, or_else, session_rules, broken_head, breaks_size, breaks_no_greeting, breaks_no_such_channel}
use Rattle.beep_session.specs.beep_journal.specs.Lives.{Event, has_release, lives, is_live}
use Rattle.beep_session.specs.beep_journal.specs.Zero.{events}
use Rattle.beep_session.specs.beep_journal.specs.Life.{is_released, is_there, life_now}
use Rattle.beep_session.specs.beep_journal.specs.Log.{Moment, got_all, put_all}
use Rattle.beep_session.specs.beep_journal.proofs.JournalLemmas.{began-events, told-events}
use Rattle.beep_session.specs.beep_decide.specs.Decide.{is_among}
use Rattle.beep_session.specs.beep_lawful.specs.declared.terms.Terms.{Terms}
use Rattle.beep_session.specs.beep_lawful.specs.Lawful.{IsLawful}
use Rattle.beep_session.specs.beep_lawful.proofs.LawfulLemmas.{head-unbroken, item-lawful}
use Rattle.beep_session.specs.beep_channel.specs.Held.{Live}
use Rattle.beep_session.specs.beep_inbox.specs.declared.part.Part.{Part}
use Rattle.beep_session.specs.beep_standing.specs.Standing.{Marks, AreLiveBy}
use Rattle.beep_session.specs.beep_standing.proofs.ZeroLemmas.{none-live}
use Rattle.beep_session.specs.beep_hearing.specs.declared.ear.Ear.{Ear}
use Rattle.beep_session.specs.beep_hearing.specs.Hears.{Hears}
use Rattle.beep_session.specs.beep_giving.proofs.CountLemmas.{turned}
use Rattle.beep_session.specs.beep_speaking.specs.declared.emit.Emit.{Emit}
use Rattle.beep_session.specs.beep_upright.specs.Frames.{AreFrames, IsFramed}
use Rattle.beep_session.specs.beep_peer.specs.Calls.{Begins}
use Rattle.beep_session.specs.beep_peer.specs.Lawfully.{SpeaksLawfully}
use Rattle.beep_session.specs.beep_peer.specs.Peering.{Carries, IsPeer, is_over}
use Rattle.beep_session.specs.declared.event.Event.{Event as Heard}
use Rattle.beep_session.specs.Channels.{IsOfPeer, IsStill, Takes}
use Rattle.beep_session.specs.Lawfully.{terms_of, IsLawfulSession, KeepsUpright, FeedsLawfully, GainsLawfully, WaitsLawfully}
use Rattle.beep_session.specs.Session.{Held}
use Rattle.beep_logged.proofs.EndLemmas.{put-append}
use Rattle.beep_logged.proofs.WriteLemmas.{frame-written, seq-written, lawful-frame}
use Rattle.beep_desk.specs.beep_talk.specs.declared.plan.Command.{Command}
use Rattle.beep_desk.specs.beep_talk.specs.Plan.{PlainPlan}
use Rattle.beep_desk.specs.beep_talk.specs.Talk.{has_peer_release}
use Rattle.beep_served.specs.Served.{HaveProfile, IsServing}
use Rattle.beep_replies.specs.Replies.{first_said}
use Rattle.beep_steps.specs.Logs.{StandsOn}
use Rattle.beep_steps.specs.Serving.{ShowsServing}
use Rattle.beep_steps.specs.Speaking.{Notes, IsSaid, KeepsSaid, SpeaksSo, AreNoted, SpeaksOn, SpeaksWaiting, SpeaksGone, IsBorn, IsUnspoken, KeepsSpeaking}
use Rattle.beep_steps.proofs.BornLemmas.{born-going, born-unclosed, one-born}
use Rattle.beep_steps.proofs.CallLemmas.{on-so, gained-on, waits-on}
use Rattle.beep_steps.proofs.SpeakLemmas.{first-begun, asks-now, no-release, sent-release}
use Rattle.beep_steps.proofs.SpeakLives.{given-said, nothing-said}
use Rattle.beep_steps.proofs.SpeakSteps.{Quiet, Passing, SaidAt, quiet-passing, passing-then, item-quiet, frame-passing, gained-quiet, gained-said, live-of, dead-of, now-of, said-on, silent-on, seq-said, sent-said}
use Rattle.beep_steps.proofs.StepLemmas.{frame-turns}

-- ---- what is kept as a journal goes on

clash : {A : Type 0} (b : Bool) → b ≡ true → b ≡ false → A
clash b e f = absurd (let g : true ≡ false = sym e ∙ f in cc)

pub carries-all : (old new : List Item) (given : Marks) → ((n : ℕ) → is_there n new ≡ is_there n old) → Carries old new given given
carries-all old new given same = record { same = λ n above was. refl; fresh = λ n was there. clash (is_there n new) there (same n ∙ was) }

pub quiet-there : (plan : PlainPlan) (old new : List Item) → Quiet plan old new → (n : ℕ) → is_there n new ≡ is_there n old
quiet-there plan old new q n = ap (λ (es : List Event). n == 0 || is_live n es) q.events_are

module _ (plan : PlainPlan) (notes : Notes) (old new : List Item) (given now : Marks) (p : Passing plan old new) (carries : Carries old new given now)
    (s : SpeaksSo plan notes old given) (noted : AreNoted notes old) where
  pub scripts-on : (leaving : Bool) → has_peer_release (events new) ≡ leaving → KeepsSaid plan new → SpeaksSo plan (record notes { leaving = leaving }) new now
  scripts-on leaving left keeps = record {
    said = λ n above there among.
        let was = noted.spoken n above among in
        said-on plan old new given now p carries n above was there (s.said n above was among);
    silent = λ n above there none. silent-on plan old new given now p carries n above (λ was. s.silent n above was none) there;
    leaving = left;
    keeps = keeps;
  }

pub noted-same : (notes : Notes) (old new : List Item) → ((n : ℕ) → is_there n new ≡ is_there n old) → AreNoted notes old → AreNoted notes new
noted-same notes old new same noted = record {
  spoken = λ n above among. same n ∙ noted.spoken n above among;
  all = λ n above there. noted.all n above (sym (same n) ∙ there);
}

-- what comes without a whole message of channel zero, or a SEQ that goes out
pub scripts-quiet : (plan : PlainPlan) (notes : Notes) (old new : List Item) (given : Marks) → Quiet plan old new → KeepsSaid plan new → SpeaksSo plan notes old given → AreNoted notes old
    → SpeaksSo plan notes new given
scripts-quiet plan notes old new given q keeps s noted =
    scripts-on plan notes old new given given (quiet-passing plan old new q) (carries-all old new given (quiet-there plan old new q)) s noted notes.leaving
    (ap has_peer_release q.events_are ∙ s.leaving) keeps

-- what was given above channel zero stays
pub scripts-same : (plan : PlainPlan) (notes : Notes) (journal : List Item) (given now : Marks) → ((n : ℕ) → (n == 0) ≡ false → now n ≡ given n) → SpeaksSo plan notes journal given
    → SpeaksSo plan notes journal now
scripts-same plan notes journal given now same s = record {
  said = λ n above there among. subst (IsSaid plan (first_said plan n (life_now n journal) journal)) (sym (same n above)) (s.said n above there among);
  silent = λ n above there none. same n above ∙ s.silent n above there none;
  leaving = s.leaving;
  keeps = s.keeps;
}

-- ---- a call that brings nothing and sends nothing

module _ (plan : PlainPlan) (before after : Notes) (old new : Held) (same : IsOfPeer old new) where
  abbrev Moves : Type 0
  Moves = (fed rest : List ℕ) (journal : List Item) (given taken : Marks) → IsPeer old.limits.window fed rest journal given taken old.peer
      → (now : Marks) × (later : Marks) × IsPeer old.limits.window fed rest journal now later new.peer

  pub peer-speaking : (f : Moves) → KeepsUpright old new
      → ((fed rest : List ℕ) (journal : List Item) (given taken : Marks) (is : IsPeer old.limits.window fed rest journal given taken old.peer)
      → SpeaksSo plan before journal given → AreNoted before journal → SpeaksSo plan after journal (f fed rest journal given taken is).0 × AreNoted after journal)
      → KeepsSpeaking plan before after old new
  peer-speaking f upright step log s =
      let on = s.on in
      let m = f on.fed on.rest on.journal on.given on.taken on.stands.stands in
      let next = step on.fed on.rest on.journal on.given on.taken on.stands.stands s.scripts s.noted in
      record {
        listens = s.listens;
        on = on-so old new same on.fed on.rest on.journal m.0 m.1 log
            (record { stands = m.2; upright = upright on.fed on.rest on.journal on.given on.taken on.stands.stands on.stands.upright; lawful = on.stands.lawful }) on.framed on.logged;
        scripts = next.0;
        noted = next.1;
      }

module _ (plan : PlainPlan) (notes : Notes) (old new : Held) where
  pub still-speaking : IsStill old new → KeepsUpright old new → KeepsSpeaking plan notes notes old new
  still-speaking s upright =
      let g = s.peer in
      peer-speaking plan notes notes old new s.same (λ fed rest journal given taken is. (
        given,
        taken,
        record {
          hears = subst (λ (x : Ear). Hears fed rest journal x) (sym g.ear) is.hears;
          holds = g.holds old.limits.window journal given taken is.holds;
          released = g.released ∙ is.released;
        },
      )) upright (λ fed rest journal given taken is scripts noted. (scripts, noted))

  pub takes-speaking : (number : ℕ) (part : Part) (octets : List ℕ) → Takes number part octets old new → KeepsUpright old new → KeepsSpeaking plan notes notes old new
  takes-speaking number part octets g upright =
      peer-speaking plan notes notes old new g.same (λ fed rest journal given taken is. let m = g.takes fed rest journal given taken is in (m.given_now, _, m.stands)) upright
      (λ fed rest journal given taken is scripts noted. (
        scripts-same plan notes journal given (g.takes fed rest journal given taken is).given_now (λ n above. (g.takes fed rest journal given taken is).same n (turned n above)) scripts,
        noted,
      ))

pub took-speaking : (plan : PlainPlan) (notes : Notes) (result : Option Part) (number : ℕ) (octets : List ℕ) (old mid new : Held) → mid ≡ old
    → IfSome result (λ part. Takes number part octets mid new) → KeepsUpright mid new → IfNone result (new ≡ mid) → KeepsSpeaking plan notes notes old new
took-speaking plan notes None number octets old mid new same some upright none = subst (KeepsSpeaking plan notes notes old) (sym (none ∙ same)) (λ log s. s)
took-speaking plan notes (Some part) number octets old mid new same some upright none =
    subst (λ (x : Held). KeepsSpeaking plan notes notes x new) same (takes-speaking plan notes mid new number part octets some upright)

pub same-speaking : (plan : PlainPlan) (before after : Notes) (old mid new : Held) → mid ≡ old → KeepsSpeaking plan before after mid new → KeepsSpeaking plan before after old new
same-speaking plan before after old mid new same h = subst (λ (x : Held). KeepsSpeaking plan before after x new) same h

-- ---- a session that begins

abbrev nothing : Notes
nothing = record { spoken = []; leaving = false }

empty-said : (plan : PlainPlan) → KeepsSaid plan []
empty-said plan n c above = record { rest = _; whole_is = refl }

pub begins-speaking : (plan : PlainPlan) (session : Held) (size : ℕ) (greeting : List ℕ) (b : Begins size greeting session.peer) (taken : Marks) → plan.command ≡ Command.Listen
    → (on : StandsOn session []) → on.journal ≡ [] → on.given ≡ b.given → SpeaksOn plan (record { spoken = []; leaving = false }) session []
begins-speaking plan session size greeting b taken listens on empty is = record {
  listens = listens;
  on = on;
  scripts = subst (λ (journal : List Item). SpeaksSo plan nothing journal on.given) (sym empty) (subst (SpeaksSo plan nothing []) (sym is) (record {
    said = λ n above there among. clash false among refl;
    silent = λ n above there none. b.same n (turned n above);
    leaving = no-release;
    keeps = empty-said plan;
  }));
  noted = record {
    spoken = λ n above among. clash false among refl;
    all = λ n above there. absurd (let g : true ≡ false = sym there ∙ ap (is_there n) empty ∙ ap (λ (b : Bool). b || is_live n (events [])) above ∙ none-live n in cc);
  };
}

-- ---- what comes

-- what an event leaves that came as of so many of these octets
abbrev pub HeardScripted : PlainPlan → Notes → Heard → Held → List Moment → Type 0
HeardScripted plan notes Heard.More new log = SpeaksOn plan notes new log
HeardScripted plan notes (Heard.Arrived number) new log = SpeaksOn plan notes new log
HeardScripted plan notes Heard.Zero new log = SpeaksWaiting plan notes new log
HeardScripted plan notes Heard.Released new log = Unit {0}
HeardScripted plan notes (Heard.Broken rule place) new log = Unit {0}
HeardScripted plan notes Heard.NoMemory new log = Unit {0}

module _ (plan : PlainPlan) (notes : Notes) (octets : List ℕ) (old new : Held) (log : List Moment) (same : IsOfPeer old new) (s : SpeaksOn plan notes old log) where
  module _ (going : old.peer.released ≡ false) where
    gained-speaking : GainsLawfully (terms_of old) octets s.on.fed s.on.journal s.on.given s.on.taken new.peer → SpeaksOn plan notes new (got_all octets log)
    gained-speaking g =
        let q = gained-quiet plan g.gained s.on.journal g.gains.quiet in
        record {
          listens = s.listens;
          on = gained-on octets old new log same s.on going g;
          scripts = scripts-quiet plan notes s.on.journal (g.gained ++ s.on.journal) s.on.given q (gained-said plan g.gained s.on.journal g.gains.join s.scripts.keeps) s.scripts s.noted;
          noted = noted-same notes s.on.journal (g.gained ++ s.on.journal) (quiet-there plan s.on.journal (g.gained ++ s.on.journal) q) s.noted;
        }

    waits-speaking : new.peer.released ≡ old.peer.released → WaitsLawfully (terms_of old) octets s.on.fed s.on.journal s.on.given s.on.taken new.peer → SpeaksWaiting plan notes new (got_all octets log)
    waits-speaking kept g =
        let z = g.zero in
        let q = gained-quiet plan z.gained s.on.journal z.quiet in
        record {
          listens = s.listens;
          on = waits-on octets old new log same s.on going kept g;
          scripts = scripts-quiet plan notes s.on.journal (z.gained ++ s.on.journal) s.on.given q (gained-said plan z.gained s.on.journal z.join s.scripts.keeps) s.scripts s.noted;
          noted = noted-same notes s.on.journal (z.gained ++ s.on.journal) (quiet-there plan s.on.journal (z.gained ++ s.on.journal) q) s.noted;
        }

    fed-speaking : (event : Heard) → new.peer.released ≡ old.peer.released
        → FeedsLawfully event (terms_of old) octets s.on.fed s.on.journal s.on.given s.on.taken new.peer → HeardScripted plan notes event new (got_all octets log)
    fed-speaking Heard.More kept g = gained-speaking g
    fed-speaking (Heard.Arrived number) kept g = gained-speaking g
    fed-speaking Heard.Zero kept g = waits-speaking kept g
    fed-speaking Heard.Released kept g = tt
    fed-speaking (Heard.Broken rule place) kept g = tt
    fed-speaking Heard.NoMemory kept g = tt

  pub hears-speaking : (event : Heard) (released : Bool) → old.peer.released ≡ released → new.peer.released ≡ old.peer.released
      → ((fed rest : List ℕ) (journal : List Item) (given taken : Marks) → old.peer.released ≡ false → IsLawfulSession old fed rest journal given taken
      → FeedsLawfully event (terms_of old) octets fed journal given taken new.peer)
      → (old.peer.released ≡ true → event ≡ Heard.Released) → HeardScripted plan notes event new (got_all octets log)
  hears-speaking event true e kept lawful rests = subst (λ (x : Heard). HeardScripted plan notes x new (got_all octets log)) (sym (rests e)) tt
  hears-speaking event false e kept lawful rests = fed-speaking e event kept (lawful s.on.fed s.on.rest s.on.journal s.on.given s.on.taken e s.on.stands)

-- ---- what goes out

-- an end that served one profile has its lives begin with it
pub serving-at : (plan : PlainPlan) (session : Held) (log : List Moment) → ShowsServing plan log → (s : StandsOn session log) → IsServing plan.raw_uri s.journal
serving-at plan session log shows s = subst (IsServing plan.raw_uri) s.logged.shown.journal_is (shows s.logged.shown.past s.logged.shown.shows)

next-rule : (holds : Bool) (rule : Rule) (others : Option Rule) → (if holds then Some rule else others) ≡ None → (holds ≡ false) × (others ≡ None)
next-rule true rule others e = absurd cc
next-rule false rule others e = (refl, e)

first-none : (a b : Option Rule) → or_else a b ≡ None → a ≡ None
first-none None b e = refl
first-none (Some rule) b e = absurd cc

not-not : (b : Bool) → not b ≡ false → b ≡ true
not-not true e = refl
not-not false e = absurd cc

unbroken-there : (journal : List Item) (head : Head) → broken_head none_tunes Side.Sent journal head ≡ None → is_there head.channel journal ≡ true
unfolding broken_head
unbroken-there journal head e =
    let one = first-none (first_of (session_rules none_tunes Side.Sent journal head)) _ e in
    let size = next-rule (breaks_size head) Rule.Size _ one in
    let greeting = next-rule (breaks_no_greeting Side.Sent journal head) Rule.NoGreeting _ size.1 in
    let there = next-rule (breaks_no_such_channel journal head) Rule.NoSuchChannel _ greeting.1 in
    not-not (is_there head.channel journal) there.0

-- a lawful frame is of a channel that is there
pub lawful-there : (terms : Terms) (journal : List Item) (head : Head) (payload : List ℕ) → IsLawful terms none_tunes (passed Side.Sent head payload ∷ began Side.Sent head ∷ journal)
    → is_there head.channel journal ≡ true
lawful-there terms journal head payload lawful =
    unbroken-there journal head (head-unbroken terms none_tunes journal head (item-lawful terms none_tunes (passed Side.Sent head payload ∷ []) journal (began Side.Sent head) lawful))

module _ (plan : PlainPlan) (notes : Notes) (head : Head) (payload : List ℕ) (journal : List Item) (given now : Marks) (listens : plan.command ≡ Command.Listen)
    (s : SpeaksSo plan notes journal given) (noted : AreNoted notes journal) where
  abbrev next : List Item
  next = passed Side.Sent head payload ∷ began Side.Sent head ∷ journal

  began-quiet : Quiet plan journal (began Side.Sent head ∷ journal)
  began-quiet = item-quiet plan (began Side.Sent head) journal (began-events Side.Sent head journal)

  passing : Passing plan journal next
  passing = passing-then plan journal (began Side.Sent head ∷ journal) next began-quiet (frame-passing plan Side.Sent head payload (began Side.Sent head ∷ journal))

  release : has_peer_release (events next) ≡ notes.leaving
  release = sent-release head payload (began Side.Sent head ∷ journal) ∙ ap has_peer_release (began-events Side.Sent head journal) ∙ s.leaving

  -- what was sent of a live life is of its script
  here : (size : ℕ) (taken : Marks) (channels : List Live) → AreLiveBy size next now taken channels → Carries journal next given now → HaveProfile plan.raw_uri next
      → (n : ℕ) → (n == 0) ≡ false → is_there n next ≡ true → SaidAt plan n (life_now n next) next
  here size taken channels live carries have n above there = of (is_among n notes.spoken) refl
    where
      of : (b : Bool) → is_among n notes.spoken ≡ b → SaidAt plan n (life_now n next) next
      of true among =
          let was = noted.spoken n above among in
          given-said plan listens size next now taken channels live n above there have (said-on plan journal next given now passing carries n above was there (s.said n above was among))
      of false none =
          nothing-said plan listens size next now taken channels live n above there
          (silent-on plan journal next given now passing carries n above (λ was. s.silent n above was none) there)

  pub gone-scripts : (size : ℕ) (taken : Marks) (channels : List Live) → AreLiveBy size next now taken channels → Carries journal next given now → HaveProfile plan.raw_uri next
      → is_there head.channel journal ≡ true → SpeaksSo plan notes next now
  gone-scripts size taken channels live carries have there =
      scripts-on plan notes journal next given now passing carries s noted notes.leaving release
      (sent-said plan head payload journal there s.keeps (λ above alive. here size taken channels live carries have head.channel above alive))

  -- one in which nothing was spoken begins by the frame
  not-live : (n : ℕ) → IsUnspoken notes n next → is_live n (events (began Side.Sent head ∷ journal)) ≡ false
  not-live n u = ap (is_live n) (began-events Side.Sent head journal) ∙ dead-of n journal u.above (dead (is_there n journal) refl)
    where
      dead : (b : Bool) → is_there n journal ≡ b → b ≡ false
      dead true there = clash (is_among n notes.spoken) (noted.all n u.above there) u.none
      dead false there = refl

  is-live : (n : ℕ) → IsUnspoken notes n next → is_live n (events next) ≡ true
  is-live n u = live-of n next u.above u.there

  -- no close of it waits, and what is asked first is by what has come
  pub gone-born : HaveProfile plan.raw_uri next → is_released journal ≡ false → (n : ℕ) → IsUnspoken notes n next → IsBorn plan notes n next
  gone-born have going n u = record {
    going = born-going (passed Side.Sent head payload) (began Side.Sent head ∷ journal) n (ap has_release (began-events Side.Sent head journal) ∙ going) (not-live n u) (is-live n u);
    unclosed = born-unclosed (passed Side.Sent head payload) (began Side.Sent head ∷ journal) n (not-live n u) (is-live n u);
    first = ap (λ (k : ℕ). first_said plan n k next) (now-of n next u.above u.there)
        ∙ first-begun plan n (passed Side.Sent head payload) (began Side.Sent head ∷ journal) have more
        ∙ asks-now plan.command (events (began Side.Sent head ∷ journal)) notes.leaving listens (ap has_peer_release (began-events Side.Sent head journal) ∙ s.leaving);
  }
    where
      more : lives n (events (began Side.Sent head ∷ journal)) < lives n (events next)
      more = (frame-turns n Side.Sent head payload (began Side.Sent head ∷ journal)).begins (not-live n u) (is-live n u)

  -- and one begins at most
  pub gone-one : (n m : ℕ) → IsUnspoken notes n next → IsUnspoken notes m next → n ≡ m
  gone-one n m u v =
      one-born (passed Side.Sent head payload) (began Side.Sent head ∷ journal) n m (not-live n u) (not-live m v) (is-live n u) (is-live m v)

-- where no life begins all are noted
pub gone-same : (plan : PlainPlan) (notes : Notes) (session : Held) (log : List Moment) (journal : List Item) → plan.command ≡ Command.Listen → (on : StandsOn session log) → SpeaksSo plan notes on.journal on.given
    → AreNoted notes journal → ((n : ℕ) → is_there n on.journal ≡ is_there n journal) → SpeaksGone plan notes session log
gone-same plan notes session log journal listens on s noted same = record {
  listens = listens;
  on = on;
  scripts = s;
  born = λ n u. absurd (none n u);
  one = λ n m u v. absurd (none n u);
}
  where
    none : (n : ℕ) → IsUnspoken notes n on.journal → ⊥
    none n u = clash (is_among n notes.spoken) (noted.all n u.above (sym (same n) ∙ u.there)) u.none

pub rests-gone : (plan : PlainPlan) (notes : Notes) (session : Held) (log : List Moment) → SpeaksOn plan notes session log → SpeaksGone plan notes session log
rests-gone plan notes session log s = gone-same plan notes session log s.on.journal s.listens s.on s.scripts s.noted (λ n. refl)

unreleased : (a b : Bool) → (a || b) ≡ false → a ≡ false
unreleased true b e = clash true refl e
unreleased false b e = refl

module _ (plan : PlainPlan) (notes : Notes) (old new : Held) (before after : List ℕ) (log : List Moment) (s : SpeaksOn plan notes old (put_all before log)) (same : IsOfPeer old new)
    (serving : (on : StandsOn new (put_all after log)) → HaveProfile plan.raw_uri on.journal) where
  speaks-speaking : is_released s.on.journal ≡ false → (result : Emit) → IsFramed result → SpeaksLawfully result (terms_of old) s.on.fed s.on.rest s.on.journal s.on.given s.on.taken old.peer new.peer before after
      → SpeaksGone plan notes new (put_all after log)
  speaks-speaking going (Emit.Seq seq) is m =
      let octets = spelling (seq_frame seq) in
      let journal = told Side.Sent seq ∷ s.on.journal in
      let q = item-quiet plan (told Side.Sent seq) s.on.journal (told-events Side.Sent seq s.on.journal) in
      subst (SpeaksGone plan notes new) (sym (ap (λ (x : List ℕ). put_all x log) m.0 ∙ put-append before octets log))
      (gone-same plan notes new (put_all octets (put_all before log)) s.on.journal s.listens
      (on-so old new same s.on.fed s.on.rest journal s.on.given s.on.taken (put_all octets (put_all before log)) m.1 (is, s.on.framed)
      (seq-written (terms_of old) s.on.rest s.on.journal (put_all before log) seq s.on.logged is m.1.lawful))
      (scripts-quiet plan notes s.on.journal journal s.on.given q (seq-said plan Side.Sent seq s.on.journal s.scripts.keeps) s.scripts s.noted) s.noted (quiet-there plan s.on.journal journal q))
  speaks-speaking going (Emit.Data head) is m =
      let octets = spelling (framed head m.payload) in
      let all = put_all octets (put_all before log) in
      let where_is : put_all after log ≡ all = ap (λ (x : List ℕ). put_all x log) m.spelled ∙ put-append before octets log in
      let is_frame = lawful-frame (terms_of old) s.on.journal head m.payload is m.lawful in
      let on : StandsOn new all =
      on-so old new same s.on.fed s.on.rest (passed Side.Sent head m.payload ∷ began Side.Sent head ∷ s.on.journal) m.sent.given_now m.sent.taken_now all
      (record { stands = m.sent.stands; upright = m.upright; lawful = m.lawful }) (is_frame, (is, s.on.framed))
      (frame-written (terms_of old) s.on.rest s.on.journal (put_all before log) head m.payload s.on.logged is_frame m.lawful) in
      let have : HaveProfile plan.raw_uri (passed Side.Sent head m.payload ∷ began Side.Sent head ∷ s.on.journal) =
      subst (λ (x : List Moment). (o : StandsOn new x) → HaveProfile plan.raw_uri o.journal) where_is serving on in
      subst (SpeaksGone plan notes new) (sym where_is) (record {
        listens = s.listens;
        on = on;
        scripts = gone-scripts plan notes head m.payload s.on.journal s.on.given m.sent.given_now s.listens s.scripts s.noted (terms_of old).window m.sent.taken_now new.peer.lives
            m.sent.stands.holds.live m.sent.given_is have (lawful-there (terms_of old) s.on.journal head m.payload m.lawful);
        born = gone-born plan notes head m.payload s.on.journal s.on.given m.sent.given_now s.listens s.scripts s.noted have going;
        one = gone-one plan notes head m.payload s.on.journal s.on.given m.sent.given_now s.listens s.scripts s.noted;
      })
  speaks-speaking going Emit.Nothing is m =
      subst (λ (x : List ℕ). SpeaksGone plan notes new (put_all x log)) (sym m.0)
      (gone-same plan notes new (put_all before log) s.on.journal s.listens
      (on-so old new same s.on.fed s.on.rest s.on.journal s.on.given s.on.taken (put_all before log) m.1 s.on.framed s.on.logged) s.scripts s.noted (λ n. refl))

  pub emits-speaking : (result : Emit) (over : Bool) → is_over old.peer ≡ over
      → ((fed rest : List ℕ) (journal : List Item) (given taken : Marks) → is_over old.peer ≡ false → IsLawfulSession old fed rest journal given taken
      → SpeaksLawfully result (terms_of old) fed rest journal given taken old.peer new.peer before after)
      → ((fed rest : List ℕ) (journal : List Item) (given taken : Marks) → is_over old.peer ≡ false → IsLawfulSession old fed rest journal given taken → AreFrames journal
      → IsFramed result)
      → (is_over old.peer ≡ true → (result ≡ Emit.Nothing) × (new ≡ old) × (after ≡ before)) → SpeaksGone plan notes new (put_all after log)
  emits-speaking result true e speaks frames rests =
      let r = rests e in
      subst (λ (x : List ℕ). SpeaksGone plan notes new (put_all x log)) (sym r.2) (subst (λ (x : Held). SpeaksGone plan notes x (put_all before log)) (sym r.1) (rests-gone plan notes old (put_all before log) s))
  emits-speaking result false e speaks frames rests =
      speaks-speaking (sym s.on.stands.stands.released ∙ unreleased old.peer.released (is_some old.peer.ear.broken) e) result (frames s.on.fed s.on.rest s.on.journal s.on.given s.on.taken e s.on.stands s.on.framed)
      (speaks s.on.fed s.on.rest s.on.journal s.on.given s.on.taken e s.on.stands)
