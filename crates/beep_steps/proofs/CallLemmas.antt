-- What each call of a session leaves of what it stands for.
use Rattle.std.proofs.Common.{◌≡◌, ℕ, Bool, true, false, not, ◌||◌, ◌&&◌, ◌==◌, if◌then◌else◌, ◌-◌, ◌+◌, List, [], ◌∷◌, ◌++◌, length, None, Some, Option, refl, sym, ap, ◌∙◌, subst, arith, length-append, append_assoc}
use Rattle.std.specs.Prelude.{is_some, IfSome, IfNone, Result, Ok, Err, OnOk, OnErr}
use Rattle.beep_session.specs.beep_frame.specs.declared.head.Head.{Head}
use Rattle.beep_session.specs.beep_frame.specs.declared.kind.Kind.{Kind}
use Rattle.beep_session.specs.beep_frame.specs.declared.rule.Rule.{Rule}
use Rattle.beep_session.specs.beep_frame.specs.Frame.{framed, seq_frame, is_msg}
use Rattle.beep_session.specs.beep_frame.specs.Modulo.{modulo_2_64}
use Rattle.beep_session.specs.beep_frame.specs.Spelling.{spelling}
use Rattle.beep_session.specs.beep_history.specs.declared.journal.Side.{Side}
use Rattle.beep_session.specs.beep_history.specs.Journal.{Item, began, passed, told}
use Rattle.beep_session.specs.beep_journal.specs.Zero.{zero_history, completes_form}
use Rattle.beep_session.specs.beep_journal.specs.Broken.{none_tunes, broken_content}
use Rattle.beep_session.specs.beep_journal.specs.Life.{is_released}
use Rattle.beep_session.specs.beep_journal.specs.Journal.{spelled}
use Rattle.beep_session.specs.beep_journal.specs.Log.{Moment, got_all, put_all}
use Rattle.beep_session.specs.beep_inbox.specs.declared.part.Part.{Part}
use Rattle.beep_session.specs.beep_standing.specs.Standing.{Marks}
use Rattle.beep_session.specs.beep_hearing.specs.Hears.{Breaks, Hears, Join}
use Rattle.beep_session.specs.beep_hearing.specs.declared.ear.Ear.{Ear}
use Rattle.beep_session.specs.beep_lawful.specs.declared.terms.Terms.{Terms}
use Rattle.beep_session.specs.beep_lawful.specs.Lawful.{IsLawful}
use Rattle.beep_session.specs.beep_speaking.specs.declared.emit.Emit.{Emit}
use Rattle.beep_session.specs.beep_upright.specs.Frames.{AreFrames, IsFramed}
use Rattle.beep_session.specs.beep_upright.specs.Upright.{IsUpright}
use Rattle.beep_session.specs.beep_peer.specs.Acts.{IsUnchanged}
use Rattle.beep_session.specs.beep_peer.specs.Calls.{Settles}
use Rattle.beep_session.specs.beep_peer.specs.Peering.{IsPeer, WaitsIn, is_over}
use Rattle.beep_session.specs.beep_peer.specs.Lawfully.{IsLawfulPeer, SpeaksLawfully}
use Rattle.beep_session.specs.declared.event.Event.{Event}
use Rattle.beep_session.specs.Acts.{AsksZero}
use Rattle.beep_session.specs.Channels.{IsOfPeer, IsStill, Gives, Takes, Closes}
use Rattle.beep_session.specs.Feeds.{Feeds}
use Rattle.beep_session.specs.Lawfully.{terms_of, IsLawfulSession, KeepsUpright, FeedsLawfully, GainsLawfully, WaitsLawfully}
use Rattle.beep_session.specs.Session.{Held}
use Rattle.beep_logged.specs.Logged.{IsLogged, IsLoggedWaiting}
use Rattle.beep_logged.proofs.ReadLemmas.{read-joins, read-waits, read-breaks, settled, broken-settled}
use Rattle.beep_logged.proofs.EndLemmas.{put-append}
use Rattle.beep_logged.proofs.WriteLemmas.{frame-written, seq-written, lawful-frame}
use Rattle.beep_session.specs.beep_inbox.specs.Laws.{part_marks}
use Rattle.beep_steps.specs.Logs.{StandsOn, WaitsOn, StaysOn, ShowsFault}
use Rattle.beep_steps.proofs.TakenLemmas.{TakesMore, from-more, same-more, to-all, with-more}

-- ---- what stays

pub stays : (session : Held) → StaysOn session session
stays session = record { terms = refl; offers = refl; taken = λ log s a. a; stands = λ log s. s }

pub stays-trans : (a b c : Held) → StaysOn a b → StaysOn b c → StaysOn a c
stays-trans a b c p q = record {
  terms = q.terms ∙ p.terms;
  offers = q.offers ∙ p.offers;
  taken = λ log s a. q.taken log (p.stands log s) (p.taken log s a);
  stands = λ log s. q.stands log (p.stands log s);
}

module _ (old new : Held) (same : IsOfPeer old new) where
  pub terms-stay : terms_of new ≡ terms_of old
  terms-stay = ap terms_of same

  pub stands-so : (fed rest : List ℕ) (journal : List Item) (given taken : Marks) → IsLawfulPeer (terms_of old) fed rest journal given taken new.peer
      → IsLawfulSession new fed rest journal given taken
  stands-so fed rest journal given taken p = subst (λ (t : Terms). IsLawfulPeer t fed rest journal given taken new.peer) (sym terms-stay) p

  abbrev pub on-so : (fed rest : List ℕ) (journal : List Item) (given taken : Marks) (log : List Moment) → IsLawfulPeer (terms_of old) fed rest journal given taken new.peer → AreFrames journal
      → IsLogged (terms_of old) rest journal log → StandsOn new log
  on-so fed rest journal given taken log p f l = record {
    fed = fed;
    rest = rest;
    journal = journal;
    given = given;
    taken = taken;
    stands = stands-so fed rest journal given taken p;
    framed = f;
    logged = subst (λ (t : Terms). IsLogged t rest journal log) (sym terms-stay) l;
  }

  -- a call that brings nothing and sends nothing
  peer-stays : ((fed rest : List ℕ) (journal : List Item) (given taken : Marks) → IsPeer old.limits.window fed rest journal given taken old.peer
      → (now : Marks) × (later : Marks) × TakesMore taken later × IsPeer old.limits.window fed rest journal now later new.peer) → KeepsUpright old new → StaysOn old new
  peer-stays f u = record {
    terms = terms-stay;
    offers = ap (λ (s : Held). s.offers) same;
    taken = λ log s a.
        let m = f s.fed s.rest s.journal s.given s.taken s.stands.stands in
        from-more old.limits.window s.journal m.0 m.1 new.peer.lives m.3.holds.live s.taken m.2
        (to-all old.limits.window s.journal s.given s.taken old.peer.lives s.stands.stands.holds.live a);
    stands = λ log s.
        let m = f s.fed s.rest s.journal s.given s.taken s.stands.stands in
        on-so s.fed s.rest s.journal m.0 m.1 log
        (record { stands = m.3; upright = u s.fed s.rest s.journal s.given s.taken s.stands.stands s.stands.upright; lawful = s.stands.lawful }) s.framed s.logged;
  }

  pub unchanged-stays : IsUnchanged old.peer new.peer → KeepsUpright old new → StaysOn old new
  unchanged-stays g u = peer-stays (λ fed rest journal given taken p. (
    given,
    taken,
    same-more taken,
    record {
      hears = subst (λ (x : Ear). Hears fed rest journal x) (sym g.ear) p.hears;
      holds = g.holds old.limits.window journal given taken p.holds;
      released = g.released ∙ p.released;
    },
  )) u

  pub asks-stays : (octets : List ℕ) → ((fed rest : List ℕ) (journal : List Item) (given taken : Marks) → IsPeer old.limits.window fed rest journal given taken old.peer
      → AsksZero old.limits.window fed rest journal given taken octets new.peer) → KeepsUpright old new → StaysOn old new
  asks-stays octets f u = peer-stays (λ fed rest journal given taken p. (_, taken, same-more taken, (f fed rest journal given taken p).stands)) u

pub still-stays : (old new : Held) → IsStill old new → KeepsUpright old new → StaysOn old new
still-stays old new s u = unchanged-stays old new s.same s.peer u

pub gives-stays : (number : ℕ) (kind : Kind) (octets : List ℕ) (old new : Held) → Gives number kind octets old new → KeepsUpright old new → StaysOn old new
gives-stays number kind octets old new g u =
    peer-stays old new g.same (λ fed rest journal given taken p. (_, taken, same-more taken, (g.gives fed rest journal given taken p).stands)) u

pub closes-stays : (number : ℕ) (old new : Held) → Closes number old new → KeepsUpright old new → StaysOn old new
closes-stays number old new g u =
    peer-stays old new g.same (λ fed rest journal given taken p. (_, taken, same-more taken, (g.closes fed rest journal given taken p).stands)) u

pub takes-stays : (number : ℕ) (part : Part) (octets : List ℕ) (old new : Held) → Takes number part octets old new → KeepsUpright old new → StaysOn old new
takes-stays number part octets old new g u =
    peer-stays old new g.same (λ fed rest journal given taken p. let m = g.takes fed rest journal given taken p in (m.given_now, _, with-more number (part_marks part octets) taken, m.stands)) u

-- ---- what comes

pub joined : (gained journal : List Item) → Join gained journal → AreFrames journal → AreFrames (gained ++ journal)
joined [] journal j are = are
joined (began side head ∷ gained) journal j are = (j.0.1, joined gained journal j.1 are)
joined (passed side head payload ∷ gained) journal j are = (j.0.1, joined gained journal j.1 are)
joined (told side seq ∷ gained) journal j are = (j.0.1, joined gained journal j.1 are)

pub over-none : (a : Bool) {A : Type 0} (b : Option A) → a ≡ false → b ≡ None → (a || is_some b) ≡ false
over-none true b e f = absurd (let h : true ≡ false = e in cc)
over-none false b e f = ap is_some f

-- what an event leaves, after these octets
abbrev pub Fed : Event → Terms → Held → List Moment → Type 0
Fed Event.More terms new log = StandsOn new log
Fed (Event.Arrived number) terms new log = StandsOn new log
Fed Event.Zero terms new log = WaitsOn new log
Fed Event.Released terms new log = ⊥
Fed (Event.Broken rule place) terms new log = ShowsFault terms rule place log
Fed Event.NoMemory terms new log = StandsOn new log

module _ (octets : List ℕ) (old new : Held) (log : List Moment) (same : IsOfPeer old new) (s : StandsOn old log) (going : old.peer.released ≡ false) where
  pub unreleased : is_released s.journal ≡ false
  unreleased = sym s.stands.stands.released ∙ going

  abbrev pub gained-on : GainsLawfully (terms_of old) octets s.fed s.journal s.given s.taken new.peer → StandsOn new (got_all octets log)
  gained-on g =
      on-so old new same (s.fed ++ octets) g.gains.rest (g.gained ++ s.journal) s.given g.gains.taken_now (got_all octets log) g.lawful
      (joined g.gained s.journal g.gains.join s.framed)
      (read-joins (terms_of old) s.fed s.rest octets s.journal g.gained log old.peer.ear.decoder old.peer.ear.used s.logged s.stands.stands.hears.is_fed g.gains.join g.gains.quiet unreleased
      g.gains.rest new.peer.ear.decoder new.peer.ear.used g.gains.stands.hears.is_fed)

  abbrev pub waits-on : new.peer.released ≡ old.peer.released → WaitsLawfully (terms_of old) octets s.fed s.journal s.given s.taken new.peer → WaitsOn new (got_all octets log)
  waits-on kept g =
      let z = g.zero in
      let e = terms-stay old new same in
      record {
        fed = s.fed ++ octets;
        journal = z.gained ++ s.journal;
        given = s.given;
        taken = z.taken_now;
        head = z.head;
        payload = z.payload;
        waits = subst (λ (t : Terms). WaitsIn t.window (s.fed ++ octets) (z.gained ++ s.journal) s.given z.taken_now z.head z.payload new.peer) (sym e) z.waits;
        upright = subst (λ (t : Terms). IsUpright t (z.gained ++ s.journal) new.peer.lives new.peer.management) (sym e) g.upright;
        lawful = subst (λ (t : Terms). IsLawful t none_tunes (z.gained ++ s.journal)) (sym e) g.lawful;
        framed = joined z.gained s.journal z.join s.framed;
        going = over-none new.peer.released new.peer.ear.broken (kept ∙ going) z.waits.waits.going;
        logged = subst (λ (t : Terms). IsLoggedWaiting t z.head z.payload (z.gained ++ s.journal) (got_all octets log)) (sym e)
            (read-waits (terms_of old) s.fed s.rest octets s.journal z.gained log old.peer.ear.decoder old.peer.ear.used s.logged s.stands.stands.hears.is_fed z.join z.quiet unreleased
            old.limits.window s.given z.taken_now z.head z.payload new.peer.ear new.peer.lives z.waits.waits);
      }

  pub breaks-on : (rule : Rule) (place : ℕ) → Breaks rule place old.limits.window octets s.fed s.journal s.given s.taken new.peer.ear new.peer.lives
      → ShowsFault (terms_of old) rule place (got_all octets log)
  breaks-on rule place b = record {
    octet = length (s.fed ++ b.before);
    place_is = b.place_is;
    broken = read-breaks (terms_of old) s.fed s.rest octets s.journal log old.peer.ear.decoder old.peer.ear.used s.logged s.stands.stands.hears.is_fed unreleased rule place old.limits.window
        s.given s.taken new.peer.ear new.peer.lives b;
  }

  pub fed-on : (event : Event) → new.peer.released ≡ old.peer.released → Feeds event old.limits.window octets s.fed s.journal s.given s.taken new.peer
      → FeedsLawfully event (terms_of old) octets s.fed s.journal s.given s.taken new.peer → Fed event (terms_of old) new (got_all octets log)
  fed-on Event.More kept f g = gained-on g
  fed-on (Event.Arrived number) kept f g = gained-on g
  fed-on Event.Zero kept f g = waits-on kept g
  fed-on Event.Released kept f g = absurd f
  fed-on (Event.Broken rule place) kept f g = breaks-on rule place f
  fed-on Event.NoMemory kept f g = gained-on g

-- ---- a message that waits

-- content breaks no rule in a request, and in a reply of its form
pub content-none : (journal : List Item) (head : Head) (payload : List ℕ) → (is_msg head.kind ≡ false → completes_form Side.Received head payload (zero_history journal) ≡ true)
    → broken_content Side.Received journal head payload ≡ None
unfolding broken_content
content-none journal head payload fits = by (head.channel == 0) (is_msg head.kind) (not head.more) (completes_form Side.Received head payload (zero_history journal)) fits
  where
    by : (a m c d : Bool) → (m ≡ false → d ≡ true) → (if a && not m && c && not d then Some Rule.ZeroReply else None) ≡ None
    by false m c d f = refl
    by true true c d f = refl
    by true false false d f = refl
    by true false true true f = refl
    by true false true false f = absurd (let h : false ≡ true = f refl in cc)

pub content-breaks : (journal : List Item) (head : Head) (payload : List ℕ) → (head.channel == 0) ≡ true → head.more ≡ false → is_msg head.kind ≡ false
    → completes_form Side.Received head payload (zero_history journal) ≡ false → broken_content Side.Received journal head payload ≡ Some Rule.ZeroReply
unfolding broken_content
content-breaks journal head payload a l m d = by (head.channel == 0) (is_msg head.kind) head.more (completes_form Side.Received head payload (zero_history journal)) a m l d
  where
    by : (a m l d : Bool) → a ≡ true → m ≡ false → l ≡ false → d ≡ false → (if a && not m && not l && not d then Some Rule.ZeroReply else None) ≡ Some Rule.ZeroReply
    by false m l d x y z e = cc
    by true true l d x y z e = cc
    by true false true d x y z e = cc
    by true false false true x y z e = cc
    by true false false false x y z e = refl

pub left-false : (a b : Bool) → (a || b) ≡ false → a ≡ false
left-false true b e = cc
left-false false b e = refl

-- the number of an octet that comes after these
one-less : (fed before text : List ℕ) (rest : List ℕ) (octet : ℕ) → fed ≡ before ++ text → rest ++ octet ∷ [] ≡ text → length fed - 1 ≡ length (before ++ rest)
one-less fed before text rest octet is spelled =
    let whole : length fed ≡ length (before ++ rest) + 1 =
    ap length (is ∙ ap (λ (x : List ℕ). before ++ x) (sym spelled) ∙ sym (append_assoc before rest (octet ∷ []))) ∙ length-append (before ++ rest) (octet ∷ []) in
    omega (arith, whole)

-- the log shows it then
pub settles-logged : (old : Held) (log : List Moment) (w : WaitsOn old log) → (is_msg w.head.kind ≡ false → completes_form Side.Received w.head w.payload (zero_history w.journal) ≡ true)
    → IsLogged (terms_of old) [] (passed Side.Received w.head w.payload ∷ w.journal) log
settles-logged old log w fits =
    settled (terms_of old) w.head w.payload w.journal log w.logged w.waits.waits.is_frame (sym w.waits.released ∙ left-false old.peer.released (is_some old.peer.ear.broken) w.going)
    (content-none w.journal w.head w.payload fits)

module _ (old new : Held) (same : IsOfPeer old new) (log : List Moment) (w : WaitsOn old log) where
  pub unreleased-waiting : is_released w.journal ≡ false
  unreleased-waiting = sym w.waits.released ∙ left-false old.peer.released (is_some old.peer.ear.broken) w.going

  abbrev pub settles-on : Settles old.limits.window w.fed w.journal w.given w.taken w.head w.payload new.peer
      → IsUpright (terms_of old) (passed Side.Received w.head w.payload ∷ w.journal) new.peer.lives new.peer.management
      → (is_msg w.head.kind ≡ false → completes_form Side.Received w.head w.payload (zero_history w.journal) ≡ true) → StandsOn new log
  settles-on m u fits =
      on-so old new same w.fed [] (passed Side.Received w.head w.payload ∷ w.journal) m.given_now m.taken_now log
      (record { stands = m.stands; upright = u; lawful = w.lawful }) (w.waits.waits.is_frame, w.framed)
      (settled (terms_of old) w.head w.payload w.journal log w.logged w.waits.waits.is_frame unreleased-waiting (content-none w.journal w.head w.payload fits))

  pub fault-on : (rule : Rule) (place : ℕ) → (rule ≡ Rule.ZeroReply) × (place ≡ modulo_2_64 (length w.fed - 1)) × (is_msg w.head.kind ≡ false)
      × (completes_form Side.Received w.head w.payload (zero_history w.journal) ≡ false) → ShowsFault (terms_of old) rule place log
  fault-on rule place h =
      let k = w.waits.waits in
      record {
        octet = length (spelled Side.Received w.journal ++ w.logged.rest);
        place_is = h.1 ∙ ap modulo_2_64 (one-less w.fed (spelled Side.Received w.journal) (spelling (framed w.head w.payload)) w.logged.rest w.logged.octet k.fed_is w.logged.spelled);
        broken = broken-settled (terms_of old) w.head w.payload w.journal log w.logged k.is_frame unreleased-waiting rule
            (content-breaks w.journal w.head w.payload k.zero_is k.last h.2 h.3 ∙ ap Some (sym h.0));
      }

-- ---- what goes out

module _ (old new : Held) (same : IsOfPeer old new) (before after : List ℕ) (log : List Moment) (s : StandsOn old (put_all before log)) where
  speaks-on : (result : Emit) → IsFramed result → SpeaksLawfully result (terms_of old) s.fed s.rest s.journal s.given s.taken old.peer new.peer before after
      → StandsOn new (put_all after log)
  speaks-on (Emit.Seq seq) is m =
      subst (StandsOn new) (sym (ap (λ (x : List ℕ). put_all x log) m.0 ∙ put-append before (spelling (seq_frame seq)) log))
      (on-so old new same s.fed s.rest (told Side.Sent seq ∷ s.journal) s.given s.taken (put_all (spelling (seq_frame seq)) (put_all before log)) m.1 (is, s.framed)
      (seq-written (terms_of old) s.rest s.journal (put_all before log) seq s.logged is m.1.lawful))
  speaks-on (Emit.Data head) is m =
      let is_frame = lawful-frame (terms_of old) s.journal head m.payload is m.lawful in
      subst (StandsOn new) (sym (ap (λ (x : List ℕ). put_all x log) m.spelled ∙ put-append before (spelling (framed head m.payload)) log))
      (on-so old new same s.fed s.rest (passed Side.Sent head m.payload ∷ began Side.Sent head ∷ s.journal) m.sent.given_now m.sent.taken_now
      (put_all (spelling (framed head m.payload)) (put_all before log)) (record { stands = m.sent.stands; upright = m.upright; lawful = m.lawful })
      (is_frame, (is, s.framed)) (frame-written (terms_of old) s.rest s.journal (put_all before log) head m.payload s.logged is_frame m.lawful))
  speaks-on Emit.Nothing is m =
      subst (λ (x : List ℕ). StandsOn new (put_all x log)) (sym m.0)
      (on-so old new same s.fed s.rest s.journal s.given s.taken (put_all before log) m.1 s.framed s.logged)

  pub emits-on : (result : Emit) (over : Bool) → is_over old.peer ≡ over
      → ((fed rest : List ℕ) (journal : List Item) (given taken : Marks) → is_over old.peer ≡ false → IsLawfulSession old fed rest journal given taken
      → SpeaksLawfully result (terms_of old) fed rest journal given taken old.peer new.peer before after)
      → ((fed rest : List ℕ) (journal : List Item) (given taken : Marks) → is_over old.peer ≡ false → IsLawfulSession old fed rest journal given taken → AreFrames journal
      → IsFramed result)
      → (is_over old.peer ≡ true → (result ≡ Emit.Nothing) × (new ≡ old) × (after ≡ before)) → StandsOn new (put_all after log)
  emits-on result true e speaks frames rests =
      let r = rests e in
      subst (λ (x : List ℕ). StandsOn new (put_all x log)) (sym r.2) (subst (λ (x : Held). StandsOn x (put_all before log)) (sym r.1) s)
  emits-on result false e speaks frames rests =
      speaks-on result (frames s.fed s.rest s.journal s.given s.taken e s.stands s.framed) (speaks s.fed s.rest s.journal s.given s.taken e s.stands)

-- ---- a part that is taken

pub took-stays : (result : Option Part) (number : ℕ) (octets : List ℕ) (old mid new : Held) → mid ≡ old → IfSome result (λ part. Takes number part octets mid new) → KeepsUpright mid new
    → IfNone result (new ≡ mid) → StaysOn old new
took-stays None number octets old mid new same some upright none = subst (StaysOn old) (sym (none ∙ same)) (stays old)
took-stays (Some part) number octets old mid new same some upright none = subst (λ (x : Held). StaysOn x new) same (takes-stays number part octets mid new some upright)

-- ---- what is given, or refused

pub same-stays : (old mid new : Held) → mid ≡ old → StaysOn mid new → StaysOn old new
same-stays old mid new same h = subst (λ (x : Held). StaysOn x new) same h

module _ {A E : Type 0} (result : Result A E) (old new : Held) (upright : KeepsUpright old new) where
  pub given-stays : (number : ℕ) (kind : Kind) (octets : List ℕ) → OnOk result (Gives number kind octets old new) → OnErr result (IsStill old new) → StaysOn old new
  given-stays number kind octets ok err = by result ok err
    where
      by : (r : Result A E) → OnOk r (Gives number kind octets old new) → OnErr r (IsStill old new) → StaysOn old new
      by (Ok value) g e = gives-stays number kind octets old new g upright
      by (Err error) g e = still-stays old new e upright

  pub closed-stays : (number : ℕ) → OnOk result (Closes number old new) → OnErr result (IsStill old new) → StaysOn old new
  closed-stays number ok err = by result ok err
    where
      by : (r : Result A E) → OnOk r (Closes number old new) → OnErr r (IsStill old new) → StaysOn old new
      by (Ok value) g e = closes-stays number old new g upright
      by (Err error) g e = still-stays old new e upright

  pub asked-stays : (octets : List ℕ) → IsOfPeer old new → ((fed rest : List ℕ) (journal : List Item) (given taken : Marks) → IsPeer old.limits.window fed rest journal given taken old.peer
      → OnOk result (AsksZero old.limits.window fed rest journal given taken octets new.peer)) → OnErr result (IsUnchanged old.peer new.peer) → StaysOn old new
  asked-stays octets same ok err = by result ok err
    where
      by : (r : Result A E) → ((fed rest : List ℕ) (journal : List Item) (given taken : Marks) → IsPeer old.limits.window fed rest journal given taken old.peer
          → OnOk r (AsksZero old.limits.window fed rest journal given taken octets new.peer)) → OnErr r (IsUnchanged old.peer new.peer) → StaysOn old new
      by (Ok value) f e = asks-stays old new same octets f upright
      by (Err error) f e = unchanged-stays old new same e upright

-- what was given by a call that gave its handle up
pub gone-stays : {A E : Type 0} (result : Result A E) (value : A) (number : ℕ) (kind : Kind) (octets : List ℕ) (old mid new : Held) → result ≡ Ok value → mid ≡ old
    → OnOk result (Gives number kind octets mid new × KeepsUpright mid new) → StaysOn old new
gone-stays {A} {E} result value number kind octets old mid new is same g =
    let h : Gives number kind octets mid new × KeepsUpright mid new = subst (λ (r : Result A E). OnOk r (Gives number kind octets mid new × KeepsUpright mid new)) is g in
    same-stays old mid new same (gives-stays number kind octets mid new h.0 h.1)
