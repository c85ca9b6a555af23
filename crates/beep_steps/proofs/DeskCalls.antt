-- What each call of a session leaves of an end that keeps its script on channel zero.
use Rattle.std.proofs.Common.{◌≡◌, ◌∙◌, refl, sym, ap, subst, ℕ, ◌==◌, Bool, true, false, not, ◌&&◌, ◌||◌, List, [], ◌∷◌, ◌++◌, Option, None, Some}
use Rattle.std.specs.Prelude.{is_some}
use Rattle.std.specs.List.{list_any}
use Rattle.beep_session.specs.beep_frame.specs.declared.head.Head.{Head}
use Rattle.beep_session.specs.beep_frame.specs.declared.seq.Seq.{Seq}
use Rattle.beep_session.specs.beep_frame.specs.Frame.{framed, is_msg, seq_frame}
use Rattle.beep_session.specs.beep_frame.specs.Spelling.{spelling}
use Rattle.beep_session.specs.beep_history.specs.declared.journal.Side.{Side}
use Rattle.beep_session.specs.beep_history.specs.Journal.{Item, began, passed, told}
use Rattle.beep_session.specs.beep_history.specs.Marks.{Mark}
use Rattle.beep_session.specs.beep_history.specs.Broken.{KeepsExchangeRules}
use Rattle.beep_session.specs.beep_mgmt.specs.Message.{message_said}
use Rattle.beep_session.specs.beep_journal.specs.Broken.{none_tunes}
use Rattle.beep_session.specs.beep_journal.specs.Journal.{Past}
use Rattle.beep_session.specs.beep_journal.specs.Log.{Moment, got_all, put_all}
use Rattle.beep_session.specs.beep_journal.specs.Zero.{completes_form, gathered, zero_history}
use Rattle.beep_session.specs.beep_journal.proofs.ShownLemmas.{one-shown}
use Rattle.beep_session.specs.beep_channel.specs.Held.{Live}
use Rattle.beep_session.specs.beep_lives.specs.Lives.{live_at}
use Rattle.beep_session.specs.beep_standing.specs.Standing.{Marks, AreLiveBy, with_marks}
use Rattle.beep_session.specs.beep_hearing.specs.Hears.{ends_zero, is_above}
use Rattle.beep_session.specs.beep_inbox.specs.declared.part.Part.{Part}
use Rattle.beep_session.specs.beep_inbox.specs.Laws.{part_marks}
use Rattle.beep_session.specs.beep_management.specs.Managed.{Managed, Prepared}
use Rattle.beep_session.specs.beep_management.specs.Manages.{Manages}
use Rattle.beep_session.specs.beep_answering.specs.declared.settled.Settled.{Settled}
use Rattle.beep_session.specs.beep_decide.specs.Decide.{PlainStanding}
use Rattle.beep_session.specs.beep_speaking.specs.declared.emit.Emit.{Emit}
use Rattle.beep_session.specs.beep_upright.specs.Frames.{IsFramed}
use Rattle.beep_session.specs.beep_upright.specs.Upright.{IsUpright}
use Rattle.beep_session.specs.beep_peer.specs.declared.peer.Peer.{Peer}
use Rattle.beep_session.specs.beep_peer.specs.Calls.{Settles, SettlesReply, SettlesRequest}
use Rattle.beep_session.specs.beep_peer.specs.Lawfully.{IsLawfulPeer, SendsLawfully}
use Rattle.beep_session.specs.beep_peer.specs.Peering.{Holds}
use Rattle.beep_session.specs.beep_peer.specs.Standing.{standing_of}
use Rattle.beep_session.specs.beep_peer.specs.Waiting.{IsStuck}
use Rattle.beep_session.specs.Channels.{IsOfPeer, Takes}
use Rattle.beep_session.specs.Lawfully.{terms_of, GainsLawfully, KeepsUpright, WaitsLawfully}
use Rattle.beep_session.specs.Session.{Held}
use Rattle.beep_logged.proofs.EndLemmas.{put-append}
use Rattle.beep_logged.proofs.WriteLemmas.{frame-written, lawful-frame, seq-written}
use Rattle.beep_desk.specs.beep_talk.specs.Plan.{PlainPlan}
use Rattle.beep_desk.specs.beep_script.specs.Desk.{asks, grants_own}
use Rattle.beep_desk.specs.Desks.{AreDoneFor, IsCalledFor, IsDeskOf, IsDeskWithin, StandsIn, is_part}
use Rattle.beep_desk.specs.Waiting.{SaysAll}
use Rattle.beep_desk.specs.Listed.{AskInTurn}
use Rattle.beep_desk.proofs.OnceLemmas.{granting}
use Rattle.beep_desk.proofs.OpenLemmas.{open-none, opens-request}
use Rattle.beep_desk.proofs.TagLemmas.{begins-within}
use Rattle.beep_desk.proofs.StepLemmas.{ends-step, goes-step, part-step, parts-placed, quiet-placed}
use Rattle.beep_steps.specs.Desking.{DesksOn, DesksWaiting, DesksWithin, GrantsFirst, IsPlanOf, Meets}
use Rattle.beep_steps.specs.Logs.{AreTaken, StandsOn, WaitsOn}
use Rattle.beep_steps.specs.Steps.{CameFrame, CameMore}
use Rattle.beep_steps.proofs.CallLemmas.{gained-on, on-so, settles-on, waits-on}
use Rattle.beep_steps.proofs.DeskMet.{greets-first, meets-begun, meets-join, meets-sent, meets-settled, meets-told, request-met}
use Rattle.beep_steps.proofs.DeskSaid.{said-began, said-came, said-join, said-seq}

-- ---- items that end no message

or-left : (a b : Bool) → (a || b) ≡ false → a ≡ false
or-left true b e = absurd cc
or-left false b e = refl

or-right : (a b : Bool) → (a || b) ≡ false → b ≡ false
or-right true b e = absurd cc
or-right false b e = e

part-of : (item : Item) → ends_zero item ≡ false → is_above item ≡ false → is_part item ≡ true
part-of (began by head) quiet below = refl
part-of (told by seq) quiet below = refl
part-of (passed by head payload) quiet below = of (head.channel == 0) head.more quiet below
  where
    of : (z m : Bool) → (z && not m) ≡ false → not z ≡ false → (z && m) ≡ true
    of true true e f = refl
    of true false e f = absurd cc
    of false m e f = absurd cc

pub parts-on : (plan : PlainPlan) (gained journal : List Item) (given : List Mark) (answers : List Prepared) → list_any ends_zero gained ≡ false
    → list_any is_above gained ≡ false → IsDeskOf plan journal given answers → IsDeskOf plan (gained ++ journal) given answers
parts-on plan [] journal given answers quiet below d = d
parts-on plan (item ∷ gained) journal given answers quiet below d =
    part-step plan item (gained ++ journal) given answers
    (part-of item (or-left (ends_zero item) (list_any ends_zero gained) quiet) (or-left (is_above item) (list_any is_above gained) below))
    (parts-on plan gained journal given answers (or-right (ends_zero item) (list_any ends_zero gained) quiet) (or-right (is_above item) (list_any is_above gained) below) d)

pub asks-on : (plan : PlainPlan) (gained journal : List Item) → list_any ends_zero gained ≡ false → list_any is_above gained ≡ false → AskInTurn plan journal → AskInTurn plan (gained ++ journal)
asks-on plan [] journal quiet below placed = placed
asks-on plan (item ∷ gained) journal quiet below placed =
    parts-placed plan item (gained ++ journal)
    (part-of item (or-left (ends_zero item) (list_any ends_zero gained) quiet) (or-left (is_above item) (list_any is_above gained) below))
    (asks-on plan gained journal (or-right (ends_zero item) (list_any ends_zero gained) quiet) (or-right (is_above item) (list_any is_above gained) below) placed)

-- ---- what a session stands for

some-at : (o : Option Live) → is_some o ≡ true → (c : Live) × (o ≡ Some c)
some-at None e = absurd cc
some-at (Some c) e = (c, refl)

keeps-of : (size : ℕ) (journal : List Item) (given taken : Marks) (channels : List Live) → AreLiveBy size journal given taken channels → KeepsExchangeRules (zero_history journal)
keeps-of size journal given taken channels live =
    let c = some-at (live_at 0 channels) (sym (live.there 0)) in (live.zero c.0 c.1).held.exchange.unbroken

stands-in : (size : ℕ) (journal : List Item) (given taken : Marks) (peer : Peer) → AreLiveBy size journal given taken peer.lives → Manages size journal given peer.management
    → StandsIn size journal given taken peer
stands-in size journal given taken peer live manages = record { keeps = keeps-of size journal given taken peer.lives live; live = live; manages = manages }

pub holds-in : (size : ℕ) (journal : List Item) (given taken : Marks) (peer : Peer) → Holds size journal given taken peer.lives peer.management → StandsIn size journal given taken peer
holds-in size journal given taken peer h = stands-in size journal given taken peer h.live h.manages

-- a log shows one journal
pub one-journal : (session : Held) (log : List Moment) (a b : StandsOn session log) → a.journal ≡ b.journal
one-journal session log a b =
    let p = a.logged.shown in
    let q = b.logged.shown in
    sym p.journal_is ∙ ap (λ (past : Past). past.journal) (one-shown none_tunes log p.past q.past p.shows q.shows) ∙ q.journal_is

pub plan-on : (plan : PlainPlan) (old new : Held) → IsOfPeer old new → IsPlanOf plan old → IsPlanOf plan new
plan-on plan old new same p = record {
  role = p.role ∙ sym (ap (λ (s : Held). s.role) same);
  offers = p.offers ∙ sym (ap (λ (s : Held). s.offers) same);
  none = p.none;
}

-- a frame above zero grants nothing
above-grants : (head : Head) (payload : List ℕ) (journal : List Item) → (head.channel == 0) ≡ false → GrantsFirst (passed Side.Received head payload) journal
above-grants head payload journal above = record {
  going = λ position e. absurd (none position e);
  first = λ e. absurd (none 0 e);
}
  where
    none : (position : ℕ) → grants_own position (passed Side.Received head payload) journal ≡ true → ⊥
    none position e = absurd (let h : true ≡ false = sym (granting position head payload journal e).zero ∙ above in cc)

-- ---- what comes

module _ (plan : PlainPlan) (octets : List ℕ) (old new : Held) (log : List Moment) (same : IsOfPeer old new) (d : DesksOn plan old log) (going : old.peer.released ≡ false)
    (kept : new.peer.management ≡ old.peer.management) (stuck : IsStuck old.peer.lives old.peer.management → IsStuck new.peer.lives new.peer.management) where
  desk-kept : IsDeskOf plan d.on.journal (d.on.given 0) new.peer.management.answers
  desk-kept = subst (λ (m : Managed). IsDeskOf plan d.on.journal (d.on.given 0) m.answers) (sym kept) d.desk

  gained-meets : (g : GainsLawfully (terms_of old) octets d.on.fed d.on.journal d.on.given d.on.taken new.peer) → Meets (g.gained ++ d.on.journal)
  gained-meets g =
      meets-join g.gained d.on.journal g.gains.join
      (keeps-of old.limits.window (g.gained ++ d.on.journal) d.on.given g.gains.taken_now new.peer.lives g.gains.stands.holds.live) d.meets

  pub more-desk : GainsLawfully (terms_of old) octets d.on.fed d.on.journal d.on.given d.on.taken new.peer → CameMore old new d.on.journal (got_all octets log)
      → DesksOn plan new (got_all octets log)
  more-desk g c =
      let on : StandsOn new (got_all octets log) = gained-on octets old new log same d.on going g in
      let is : c.gained ++ d.on.journal ≡ g.gained ++ d.on.journal = sym c.came.journal_is ∙ one-journal new (got_all octets log) c.on on in
      record {
        plan_is = plan-on plan old new same d.plan_is;
        on = gained-on octets old new log same d.on going g;
        meets = gained-meets g;
        listed = said-join plan g.gained d.on.journal g.gains.join d.listed;
        placed = subst (AskInTurn plan) is (asks-on plan c.gained d.on.journal c.came.quiet c.came.none_above d.placed);
        desk = subst (λ (j : List Item). IsDeskOf plan j (d.on.given 0) new.peer.management.answers) is
            (parts-on plan c.gained d.on.journal (d.on.given 0) new.peer.management.answers c.came.quiet c.came.none_above desk-kept);
        stuck = stuck d.stuck;
      }

  pub frame-desk : (number : ℕ) → GainsLawfully (terms_of old) octets d.on.fed d.on.journal d.on.given d.on.taken new.peer → CameFrame number old new d.on.journal (got_all octets log)
      → DesksWithin plan new (got_all octets log)
  frame-desk number g c =
      let on : StandsOn new (got_all octets log) = gained-on octets old new log same d.on going g in
      record {
        plan_is = plan-on plan old new same d.plan_is;
        on = gained-on octets old new log same d.on going g;
        meets = gained-meets g;
        listed = said-join plan g.gained d.on.journal g.gains.join d.listed;
        item = passed Side.Received c.head c.payload;
        before = c.before;
        journal_is = one-journal new (got_all octets log) on c.on ∙ c.journal_is;
        grants = above-grants c.head c.payload c.before c.above;
        placed = subst (AskInTurn plan) (sym c.came.journal_is) (asks-on plan c.gained d.on.journal c.came.quiet c.came.none_above d.placed);
        desk = open-none plan (passed Side.Received c.head c.payload) c.before (d.on.given 0) new.peer.management.answers (asks-none (c.head.channel == 0) c.above)
            (subst (λ (j : List Item). IsDeskOf plan j (d.on.given 0) new.peer.management.answers) (sym c.came.journal_is)
            (parts-on plan c.gained d.on.journal (d.on.given 0) new.peer.management.answers c.came.quiet c.came.none_above desk-kept));
        stuck = stuck d.stuck;
      }
    where
      asks-none : (z : Bool) → z ≡ false → not (z && is_msg c.head.kind && not c.head.more) ≡ true
      asks-none true e = absurd cc
      asks-none false e = refl

  pub zero-desk : (released : new.peer.released ≡ old.peer.released) → WaitsLawfully (terms_of old) octets d.on.fed d.on.journal d.on.given d.on.taken new.peer
      → DesksWaiting plan new (got_all octets log)
  zero-desk released g = record {
    plan_is = plan-on plan old new same d.plan_is;
    on = waits-on octets old new log same d.on going released g;
    meets = meets-join g.zero.gained d.on.journal g.zero.join
        (keeps-of old.limits.window (g.zero.gained ++ d.on.journal) d.on.given g.zero.taken_now new.peer.lives g.zero.waits.waits.live) d.meets;
    listed = said-join plan g.zero.gained d.on.journal g.zero.join d.listed;
    placed = asks-on plan g.zero.gained d.on.journal g.zero.quiet g.zero.none_above d.placed;
    desk = parts-on plan g.zero.gained d.on.journal (d.on.given 0) new.peer.management.answers g.zero.quiet g.zero.none_above desk-kept;
  }

-- ---- all that came is taken, and all is said

-- where nothing is asked
pub ends-desk : (plan : PlainPlan) (session : Held) (log : List Moment) (d : DesksWithin plan session log) → asks plan.command plan d.item d.before ≡ [] → AreTaken session
    → SaysAll plan d.on.journal d.on.given → DesksOn plan session log
ends-desk plan session log d quiet taken says = record {
  plan_is = d.plan_is;
  on = d.on;
  meets = d.meets;
  listed = d.listed;
  placed = subst (AskInTurn plan) (sym d.journal_is) (quiet-placed plan d.item d.before quiet d.placed);
  desk = subst (λ (j : List Item). IsDeskOf plan j (d.on.given 0) session.peer.management.answers) (sym d.journal_is)
      (ends-step plan session.limits.window d.item d.before d.placed d.on.given d.on.taken session.peer d.desk
      (subst (λ (j : List Item). StandsIn session.limits.window j d.on.given d.on.taken session.peer) d.journal_is
      (holds-in session.limits.window d.on.journal d.on.given d.on.taken session.peer d.on.stands.stands.holds))
      taken (subst (λ (j : List Item). SaysAll plan j d.on.given) d.journal_is says) d.stuck quiet d.plan_is.none (terms_of session)
      (subst (λ (j : List Item). IsUpright (terms_of session) j session.peer.lives session.peer.management) d.journal_is d.on.stands.upright));
  stuck = d.stuck;
}

-- ---- a part that is taken

pub takes-desk : (plan : PlainPlan) (number : ℕ) (part : Part) (octets : List ℕ) (old new : Held) (g : Takes number part octets old new) → KeepsUpright old new
    → IsStuck new.peer.lives new.peer.management → (log : List Moment) (d : DesksWithin plan old log)
    → AreDoneFor plan d.on.journal (g.takes d.on.fed d.on.rest d.on.journal d.on.given d.on.taken d.on.stands.stands).given_now old.peer.management.answers
    → DesksWithin plan new log
takes-desk plan number part octets old new g upright stuck log d done =
    let on = d.on in
    let m = g.takes on.fed on.rest on.journal on.given on.taken on.stands.stands in
    let later = with_marks number (on.taken number ++ part_marks part octets) on.taken in
    record {
      plan_is = plan-on plan old new g.same d.plan_is;
      on = on-so old new g.same on.fed on.rest on.journal m.given_now later log
          (record { stands = m.stands; upright = upright on.fed on.rest on.journal on.given on.taken on.stands.stands on.stands.upright; lawful = on.stands.lawful }) on.framed on.logged;
      meets = d.meets;
      listed = d.listed;
      item = d.item;
      before = d.before;
      journal_is = d.journal_is;
      grants = d.grants;
      placed = d.placed;
      desk = goes-step plan old.limits.window d.item d.before d.placed on.given m.given_now later old.peer.management.answers new.peer d.desk m.gives
          (subst (λ (j : List Item). StandsIn old.limits.window j m.given_now later new.peer) d.journal_is
          (holds-in old.limits.window on.journal m.given_now later new.peer m.stands.holds))
          (subst (λ (j : List Item). AreDoneFor plan j m.given_now old.peer.management.answers) d.journal_is done);
      stuck = stuck;
    }

-- ---- a message of channel zero

module _ (plan : PlainPlan) (old new : Held) (same : IsOfPeer old new) (log : List Moment) (d : DesksWaiting plan old log) where
  abbrev o : WaitsOn old log
  o = d.on

  abbrev item : Item
  item = passed Side.Received o.head o.payload

  abbrev next : List Item
  next = item ∷ o.journal

  -- it is settled, and some answers go
  went : (m : Settles old.limits.window o.fed o.journal o.given o.taken o.head o.payload new.peer) → IsUpright (terms_of old) next new.peer.lives new.peer.management
      → (is_msg o.head.kind ≡ false → completes_form Side.Received o.head o.payload (zero_history o.journal) ≡ true) → IsStuck new.peer.lives new.peer.management
      → IsDeskWithin plan item o.journal (o.given 0) m.answers → AreDoneFor plan next m.given_now m.answers → DesksWithin plan new log
  went m upright fits stuck w done = record {
    plan_is = plan-on plan old new same d.plan_is;
    on = settles-on old new same log o m upright fits;
    meets = meets-settled o.head o.payload o.journal o.waits.waits.begun
        (keeps-of old.limits.window next m.given_now m.taken_now new.peer.lives m.stands.holds.live) d.meets;
    listed = said-came plan o.head o.payload o.journal d.listed;
    item = item;
    before = o.journal;
    journal_is = refl;
    grants = record {
      going = λ position e. sym o.waits.released ∙ or-left old.peer.released (is_some old.peer.ear.broken) o.going;
      first = λ e. greets-first item o.journal (keeps-of old.limits.window next m.given_now m.taken_now new.peer.lives m.stands.holds.live) d.meets e;
    };
    placed = d.placed;
    desk = goes-step plan old.limits.window item o.journal d.placed o.given m.given_now m.taken_now m.answers new.peer w m.gives
        (holds-in old.limits.window next m.given_now m.taken_now new.peer m.stands.holds) done;
    stuck = stuck;
  }

  pub reply-desk : (r : SettlesReply old.limits.window o.fed o.journal o.given o.taken o.head o.payload old.peer.management.answers new.peer)
      → IsUpright (terms_of old) next new.peer.lives new.peer.management
      → (is_msg o.head.kind ≡ false → completes_form Side.Received o.head o.payload (zero_history o.journal) ≡ true) → IsStuck new.peer.lives new.peer.management
      → is_msg o.head.kind ≡ false → AreDoneFor plan next r.settles.given_now old.peer.management.answers → DesksWithin plan new log
  reply-desk r upright fits stuck reply done =
      went r.settles upright fits stuck
      (subst (IsDeskWithin plan item o.journal (o.given 0)) (sym r.joined)
      (open-none plan item o.journal (o.given 0) old.peer.management.answers (asks-none (o.head.channel == 0) (is_msg o.head.kind) reply) d.desk))
      (subst (AreDoneFor plan next r.settles.given_now) (sym r.joined) done)
    where
      asks-none : (z b : Bool) → b ≡ false → not (z && b && not o.head.more) ≡ true
      asks-none true true e = absurd cc
      asks-none false b e = refl
      asks-none true false e = refl

  pub request-desk : (settled : Settled)
      (r : SettlesRequest old.limits.window o.fed o.journal o.given o.taken o.head o.payload (standing_of old.role old.offers old.peer)
      (message_said (gathered Side.Received (zero_history o.journal) ++ o.payload)) settled old.peer.management.answers new.peer)
      → IsUpright (terms_of old) next new.peer.lives new.peer.management
      → (is_msg o.head.kind ≡ false → completes_form Side.Received o.head o.payload (zero_history o.journal) ≡ true) → IsStuck new.peer.lives new.peer.management
      → is_msg o.head.kind ≡ true
      → AreDoneFor plan next r.settles.given_now (old.peer.management.answers ++ r.answer ∷ []) → DesksWithin plan new log
  request-desk settled r upright fits stuck request done =
      went r.settles upright fits stuck
      (subst (IsDeskWithin plan item o.journal (o.given 0)) (sym r.joined)
      (opens-request plan o.journal d.placed d.plan_is.none old.limits.window o.given o.taken old.peer
      (stands-in old.limits.window o.journal o.given o.taken old.peer o.waits.waits.live o.waits.manages) d.desk
      o.head o.payload o.waits.waits.zero_is request o.waits.waits.last
      (request-met o.journal o.head o.waits.waits.begun o.waits.waits.zero_is request d.meets) settled r.answer
      (subst (λ (st : PlainStanding). IsCalledFor st o.journal o.payload settled r.answer) (sym (standing-is (plan.terms.role) plan.offers d.plan_is.role d.plan_is.offers))
      (record { kind = r.kind; says = r.says; by = r.by }))))
      (subst (AreDoneFor plan next r.settles.given_now) (sym r.joined) done)
    where
      standing-is : (role : _) (offers : _) → role ≡ old.role → offers ≡ old.offers → standing_of role offers old.peer ≡ standing_of old.role old.offers old.peer
      standing-is role offers e f = ap (λ r. standing_of r offers old.peer) e ∙ ap (λ os. standing_of old.role os old.peer) f

-- ---- what goes out

module _ (plan : PlainPlan) (old new : Held) (before after : List ℕ) (log : List Moment) (d : DesksOn plan old (put_all before log)) (same : IsOfPeer old new) where
  pub sent-desk : (head : Head) → IsFramed (Emit.Data head)
      → (m : SendsLawfully (terms_of old) d.on.fed d.on.rest d.on.journal d.on.given d.on.taken head old.peer new.peer before after)
      → IsStuck new.peer.lives new.peer.management
      → AreDoneFor plan (passed Side.Sent head m.payload ∷ began Side.Sent head ∷ d.on.journal) m.sent.given_now old.peer.management.answers → DesksWithin plan new (put_all after log)
  sent-desk head is m stuck done =
      let s = d.on in
      let octets = spelling (framed head m.payload) in
      let next = passed Side.Sent head m.payload ∷ began Side.Sent head ∷ s.journal in
      let is_frame = lawful-frame (terms_of old) s.journal head m.payload is m.lawful in
      let placed : AskInTurn plan (began Side.Sent head ∷ s.journal) = parts-placed plan (began Side.Sent head) s.journal refl d.placed in
      let within : IsDeskWithin plan (passed Side.Sent head m.payload) (began Side.Sent head ∷ s.journal) (m.sent.given_now 0) new.peer.management.answers =
      goes-step plan old.limits.window (passed Side.Sent head m.payload) (began Side.Sent head ∷ s.journal) placed s.given m.sent.given_now m.sent.taken_now
      old.peer.management.answers new.peer
      (open-none plan (passed Side.Sent head m.payload) (began Side.Sent head ∷ s.journal) (s.given 0) old.peer.management.answers refl
      (part-step plan (began Side.Sent head) s.journal (s.given 0) old.peer.management.answers refl d.desk))
      m.sent.gives (holds-in old.limits.window next m.sent.given_now m.sent.taken_now new.peer m.sent.stands.holds) done in
      subst (DesksWithin plan new) (sym (ap (λ (x : List ℕ). put_all x log) m.spelled ∙ put-append before octets log)) (record {
        plan_is = plan-on plan old new same d.plan_is;
        on = on-so old new same s.fed s.rest next m.sent.given_now m.sent.taken_now (put_all octets (put_all before log))
            (record { stands = m.sent.stands; upright = m.upright; lawful = m.lawful }) (is_frame, (is, s.framed))
            (frame-written (terms_of old) s.rest s.journal (put_all before log) head m.payload s.logged is_frame m.lawful);
        listed = (
          (λ count. begins-within plan (passed Side.Sent head m.payload) (began Side.Sent head ∷ s.journal) placed d.plan_is.none old.limits.window m.sent.given_now m.sent.taken_now
              new.peer (holds-in old.limits.window next m.sent.given_now m.sent.taken_now new.peer m.sent.stands.holds) within count),
          said-began plan Side.Sent head s.journal d.listed,
        );
        meets = meets-sent head m.payload (began Side.Sent head ∷ s.journal) (meets-begun head s.journal d.meets);
        item = passed Side.Sent head m.payload;
        before = began Side.Sent head ∷ s.journal;
        journal_is = refl;
        grants = record { going = λ position e. absurd (let h : false ≡ true = e in cc); first = λ e. absurd (let h : false ≡ true = e in cc) };
        placed = placed;
        desk = within;
        stuck = stuck;
      })

  pub told-desk : (seq : Seq) → IsFramed (Emit.Seq seq) → after ≡ before ++ spelling (seq_frame seq)
      → IsLawfulPeer (terms_of old) d.on.fed d.on.rest (told Side.Sent seq ∷ d.on.journal) d.on.given d.on.taken new.peer
      → new.peer.management ≡ old.peer.management → (IsStuck old.peer.lives old.peer.management → IsStuck new.peer.lives new.peer.management) → DesksOn plan new (put_all after log)
  told-desk seq is spelled m kept still =
      let s = d.on in
      let octets = spelling (seq_frame seq) in
      let next = told Side.Sent seq ∷ s.journal in
      subst (DesksOn plan new) (sym (ap (λ (x : List ℕ). put_all x log) spelled ∙ put-append before octets log)) (record {
        plan_is = plan-on plan old new same d.plan_is;
        on = on-so old new same s.fed s.rest next s.given s.taken (put_all octets (put_all before log)) m (is, s.framed)
            (seq-written (terms_of old) s.rest s.journal (put_all before log) seq s.logged is m.lawful);
        meets = meets-told Side.Sent seq s.journal d.meets;
        listed = said-seq plan Side.Sent seq s.journal d.listed;
        placed = parts-placed plan (told Side.Sent seq) s.journal refl d.placed;
        desk = part-step plan (told Side.Sent seq) s.journal (s.given 0) new.peer.management.answers refl
            (subst (λ (k : Managed). IsDeskOf plan s.journal (s.given 0) k.answers) (sym kept) d.desk);
        stuck = still d.stuck;
      })
