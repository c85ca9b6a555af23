-- What an end that acts, sends or takes makes of a world.
use Rattle.std.proofs.Common.{◌≡◌, ℕ, min, Bool, true, false, if◌then◌else◌, List, [], ◌++◌, length, Option, None, Some, refl, sym, ap, ◌∙◌, subst, append-nil}
use Rattle.beep_two_sessions.specs.beep_frame.specs.Frame.{Frame, framed, seq_frame}
use Rattle.beep_two_sessions.specs.beep_peer.specs.Peering.{is_over}
use Rattle.beep_two_sessions.specs.beep_speaking.specs.declared.emit.Emit.{Emit}
use Rattle.beep_two_sessions.specs.beep_inbox.specs.declared.part.Part.{Part}
use Rattle.beep_two_sessions.specs.beep_upright.specs.Frames.{AreFrames}
use Rattle.beep_two_sessions.specs.beep_session.specs.Session.{Held}
use Rattle.beep_two_sessions.specs.beep_session.specs.Lawfully.{KeepsUpright}
use Rattle.beep_schedule.specs.declared.event.End.{End}
use Rattle.beep_schedule.specs.declared.event.Act.{Act}
use Rattle.beep_report.specs.beep_tally.specs.declared.account.Account.{Account}
use Rattle.beep_two_sessions.specs.End.{End as OneEnd, goes, StandsAs}
use Rattle.beep_two_sessions.specs.Acts.{Act as Deed, takes, sends, pauses, rests, used_by, sent_by, Does, SendsAs, LeadsTo}
use Rattle.beep_two_sessions.specs.World.{World as Two}
use Rattle.beep_two_sessions.proofs.CallLemmas.{takes-step, frame-step, seq-step, nothing-step, over-step}
use Rattle.beep_report.specs.declared.answer.Answer.{Answer}
use Rattle.beep_pair.specs.Sessions.{Acts, acted, message_from, Sends, SendsOnto, TakesPart, counted_take}
use Rattle.beep_pair.specs.Ends.{other_end}
use Rattle.beep_pair.specs.World.{World, end_of, wire_to, session_of, DoesAt, IsWorld}
use Rattle.beep_pair.specs.Steps.{is_done, deed_of, DoesStep, SentAt, SendsStep, TakesStep}
use Rattle.beep_report.specs.beep_tally.specs.Accounts.{lives_noted}
use Rattle.beep_two_sessions.specs.beep_peer.specs.Standing.{live_above}
use Rattle.beep_two_sessions.proofs.BookLemmas.{BookedEnd}
use Rattle.beep_pair.specs.Totals.{View, view_of, AreOfLives}
use Rattle.beep_pair.proofs.NotedLemmas.{IsEmptyView}
use Rattle.beep_pair.proofs.DeedLemmas.{Noted, sends-noted, paused-noted, taken-part, acted-lives}
use Rattle.beep_pair.proofs.ActLemmas.{act-leads, channel_goes, stood-at}
use Rattle.beep_pair.proofs.WorldLemmas.{Led, led-by, stands-now, frames-at, lives-at, books-at, empty-at}

-- ---- an act

quiet-used : (act : Act) (n : ℕ) (octets : List ℕ) → used_by (deed_of act n octets) ≡ []
quiet-used Act.Start n octets = refl
quiet-used Act.Ask n octets = refl
quiet-used Act.Reply n octets = refl
quiet-used Act.Refuse n octets = refl
quiet-used Act.Answer n octets = refl
quiet-used Act.Done n octets = refl
quiet-used Act.Close n octets = refl
quiet-used Act.Release n octets = refl

quiet-sent : (act : Act) (n : ℕ) (octets : List ℕ) → sent_by (deed_of act n octets) ≡ []
quiet-sent Act.Start n octets = refl
quiet-sent Act.Ask n octets = refl
quiet-sent Act.Reply n octets = refl
quiet-sent Act.Refuse n octets = refl
quiet-sent Act.Answer n octets = refl
quiet-sent Act.Done n octets = refl
quiet-sent Act.Close n octets = refl
quiet-sent Act.Release n octets = refl

goes-after : (act : Act) (n : ℕ) (octets : List ℕ) (old new : OneEnd) → Does (deed_of act n octets) old new → new.doing ≡ goes
goes-after Act.Start n octets old new d = ap (λ (one : OneEnd). one.doing) d.new_is ∙ d.going
goes-after Act.Ask n octets old new d = ap (λ (one : OneEnd). one.doing) d.new_is ∙ d.going
goes-after Act.Reply n octets old new d = ap (λ (one : OneEnd). one.doing) d.new_is ∙ d.going
goes-after Act.Refuse n octets old new d = ap (λ (one : OneEnd). one.doing) d.new_is ∙ d.going
goes-after Act.Answer n octets old new d = ap (λ (one : OneEnd). one.doing) d.new_is ∙ d.going
goes-after Act.Done n octets old new d = ap (λ (one : OneEnd). one.doing) d.new_is ∙ d.going
goes-after Act.Close n octets old new d = ap (λ (one : OneEnd). one.doing) d.new_is ∙ d.going
goes-after Act.Release n octets old new d = ap (λ (one : OneEnd). one.doing) d.new_is ∙ d.going

if-used : (b : Bool) (deed : Deed) → used_by deed ≡ [] → used_by (if b then deed else rests) ≡ []
if-used true deed e = e
if-used false deed e = refl

if-sent : (b : Bool) (deed : Deed) → sent_by deed ≡ [] → sent_by (if b then deed else rests) ≡ []
if-sent true deed e = e
if-sent false deed e = refl

if-goes : (b : Bool) (deed : Deed) (old new : OneEnd) → old.doing ≡ goes → (Does deed old new → new.doing ≡ goes) → Does (if b then deed else rests) old new → new.doing ≡ goes
if-goes true deed old new e f d = f d
if-goes false deed old new e f d = ap (λ (one : OneEnd). one.doing) d.new_is ∙ e

pub act-world : (at : End) (act : Act) (n len fill : ℕ) (answer : Answer) (first : World) (session : Held) → IsWorld first → (act ≡ Act.Done → len ≡ 0)
    → Acts act n (message_from fill len) (session_of at first) session answer → KeepsUpright (session_of at first) session
    → Led at (DoesStep at act n len fill answer) first session (wire_to at first.two) (wire_to (other_end at) first.two) (acted at act n len answer first.accounts)
act-world at act n len fill answer first session w bare a u =
    let octets = message_from fill len in
    let deed : Deed = if is_done answer then deed_of act n octets else rests in
    let none : sent_by deed ≡ [] = if-sent (is_done answer) (deed_of act n octets) (quiet-sent act n octets) in
    let used : used_by deed ≡ [] = if-used (is_done answer) (deed_of act n octets) (quiet-used act n octets) in
    let noted = acted at act n len answer first.accounts in
    let from : wire_to (other_end at) first.two ++ sent_by deed ≡ wire_to (other_end at) first.two = ap (λ (xs : List ℕ). wire_to (other_end at) first.two ++ xs) none ∙ append-nil (wire_to (other_end at) first.two) in
    subst (λ (xs : List ℕ). Led at (DoesStep at act n len fill answer) first session (wire_to at first.two) xs noted) from
    (led-by at deed (DoesStep at act n len fill answer) first session (wire_to at first.two) noted w
    (act-leads act n octets (end_of at first.two) session answer (w.going at) (stands-now at first w) u a)
    (ap (λ (xs : List ℕ). xs ++ wire_to at first.two) (sym used))
    (λ new d. if-goes (is_done answer) (deed_of act n octets) (end_of at first.two) new (w.going at) (goes-after act n octets (end_of at first.two) new) d)
    (λ next d e wire. record {
      acts = subst (λ (s : Held). Acts act n octets (session_of at first) s answer) (sym e) a;
      does = d;
      accounts_are = refl;
    })
    (λ new d e. acted-lives at act n len fill answer (end_of at first.two) new session (view_of (end_of (other_end at) first.two)) first.accounts bare a d
    (empty-at (other_end at) w.moves first.two w.reached) (lives-at at first.two first.accounts w.lives)))

-- ---- what goes out

-- what an end said is a deed
record Spoken (at : End) (one : OneEnd) (session : Held) (emit : Emit) (said : List ℕ) : Type 0 where
  pub deed : Deed
  pub leads : LeadsTo deed one session
  pub none : used_by deed ≡ []
  pub said_is : said ≡ sent_by deed
  pub goes_on : (new : OneEnd) → Does deed one new → new.doing ≡ goes
  pub is : (two next : Two) → DoesAt at deed two next → SentAt at emit two next
  pub noted : (new : OneEnd) (theirs : View) (accounts : List Account) → Does deed one new → IsEmptyView theirs → AreOfLives at (view_of one) theirs accounts → Noted at theirs accounts one new

frame-goes : (frame : Frame) (old new : OneEnd) → SendsAs frame old new → new.doing ≡ goes
frame-goes (framed head payload) old new s = ap (λ (one : OneEnd). one.doing) s.new_is ∙ s.going
frame-goes (seq_frame seq) old new s = ap (λ (one : OneEnd). one.doing) s.new_is ∙ s.going

paused : (at : End) (one : OneEnd) (session : Held) (said : List ℕ) → StandsAs goes one → BookedEnd one → said ≡ [] → LeadsTo pauses one session → Spoken at one session Emit.Nothing said
paused at one session said s b e l = record {
  deed = pauses;
  leads = l;
  none = refl;
  said_is = e;
  goes_on = λ new d. ap (λ (x : OneEnd). x.doing) d.still ∙ d.going;
  is = λ two next d. d;
  noted = λ new theirs accounts d none all. paused-noted at one new theirs accounts none all s b d.still;
}

module _ (at : End) (max : ℕ) (one : OneEnd) (session : Held) (said : List ℕ) (e : one.doing ≡ goes) (l : StandsAs goes one) (f : AreFrames one.journal) (b : BookedEnd one) where
  spoken-on : (emit : Emit) → Sends max one.session session emit said → is_over one.session.peer ≡ false → Spoken at one session emit said
  spoken-on (Emit.Data head) s on =
      let r = frame-step head (min max one.session.limits.piece) [] said one session e (s.framed one.fed one.rest one.journal one.given one.taken on l f)
      (s.speaks one.fed one.rest one.journal one.given one.taken on l.stands) (s.lawful one.fed one.rest one.journal one.given one.taken on l) s.same in
      record {
        deed = sends (framed head r.0);
        leads = r.2;
        none = refl;
        said_is = r.1;
        goes_on = λ new d. frame-goes (framed head r.0) one new d;
        is = λ two next d. (r.0, d);
        noted = λ new theirs accounts d none all. sends-noted at one new theirs accounts none all (framed head r.0) l b d;
      }
  spoken-on (Emit.Seq seq) s on =
      let r = seq-step seq [] said one session e (s.framed one.fed one.rest one.journal one.given one.taken on l f)
      (s.lawful one.fed one.rest one.journal one.given one.taken on l) s.same in
      record {
        deed = sends (seq_frame seq);
        leads = r.1;
        none = refl;
        said_is = r.0;
        goes_on = λ new d. frame-goes (seq_frame seq) one new d;
        is = λ two next d. d;
        noted = λ new theirs accounts d none all. sends-noted at one new theirs accounts none all (seq_frame seq) l b d;
      }
  spoken-on Emit.Nothing s on =
      let r = nothing-step (min max one.session.limits.piece) [] said one session e (s.speaks one.fed one.rest one.journal one.given one.taken on l.stands) s.same in
      paused at one session said l b r.0 r.1

  spoken : (emit : Emit) → Sends max one.session session emit said → Spoken at one session emit said
  spoken emit s = by (is_over one.session.peer) refl
    where
      by : (b : Bool) → is_over one.session.peer ≡ b → Spoken at one session emit said
      by true o =
          let k = s.over o in
          subst (λ (x : Emit). Spoken at one session x said) (sym k.0)
          (paused at one session said l b k.2 (subst (λ (x : Held). LeadsTo pauses one x) (sym k.1) (over-step one e o)))
      by false o = spoken-on emit s o

pub send-world : (at : End) (max : ℕ) (emit : Emit) (first : World) (session : Held) (after : List ℕ) (noted : List Account) → IsWorld first
    → SendsOnto at max emit (session_of at first) session (wire_to (other_end at) first.two) after first.accounts noted
    → Led at (SendsStep at max emit) first session (wire_to at first.two) after noted
send-world at max emit first session after noted w k =
    let wire = wire_to (other_end at) first.two in
    let s = spoken at max (end_of at first.two) session k.said (w.going at) (stands-now at first w) (frames-at at w.moves first.two w.reached) (books-at at w.moves first.two w.reached) emit k.sends in
    let from : wire ++ sent_by s.deed ≡ after = ap (λ (xs : List ℕ). wire ++ xs) (sym s.said_is) ∙ sym k.wire_is in
    subst (λ (xs : List ℕ). Led at (SendsStep at max emit) first session (wire_to at first.two) xs noted) from
    (led-by at s.deed (SendsStep at max emit) first session (wire_to at first.two) noted w s.leads
    (ap (λ (xs : List ℕ). xs ++ wire_to at first.two) (sym s.none)) s.goes_on
    (λ next d e to. record {
      sends = subst (λ (xs : List ℕ). SendsOnto at max emit (session_of at first) (end_of at next).session wire xs first.accounts noted) (sym (d.sent ∙ from))
          (subst (λ (x : Held). SendsOnto at max emit (session_of at first) x wire after first.accounts noted) (sym e) k);
      sent = s.is first.two next d;
      wire_stays = to;
    })
    (λ new d e.
    subst (λ (xs : List Account). AreOfLives at (view_of new) (view_of (end_of (other_end at) first.two)) xs) (sym k.accounts_are)
    (subst (λ (x : Held). AreOfLives at (view_of new) (view_of (end_of (other_end at) first.two)) (lives_noted at (live_above (session_of at first).peer) (live_above x.peer) first.accounts)) e
    (s.noted new (view_of (end_of (other_end at) first.two)) first.accounts d (empty-at (other_end at) w.moves first.two w.reached) (lives-at at first.two first.accounts w.lives)))))

-- ---- what is taken

pub take-world : (at : End) (n count : ℕ) (part : Option Part) (octets : List ℕ) (first : World) (session : Held) → IsWorld first → length octets ≡ count
    → TakesPart n part octets (session_of at first) session
    → Led at (TakesStep at n count part octets) first session (wire_to at first.two) (wire_to (other_end at) first.two) (counted_take at n part first.accounts)
take-world at n count None octets first session w room t = record {
  last = first;
  is_world = w;
  step = record {
    room = room;
    takes = (refl, t.1);
    took = refl;
    accounts_are = refl;
  };
  session_is = sym t.0;
  other_is = refl;
  to_is = refl;
  from_is = refl;
  accounts_are = refl;
}
take-world at n count (Some part) octets first session w room t =
    let noted = counted_take at n (Some part) first.accounts in
    let from : wire_to (other_end at) first.two ++ [] ≡ wire_to (other_end at) first.two = append-nil (wire_to (other_end at) first.two) in
    subst (λ (xs : List ℕ). Led at (TakesStep at n count (Some part) octets) first session (wire_to at first.two) xs noted) from
    (led-by at (takes n part octets) (TakesStep at n count (Some part) octets) first session (wire_to at first.two) noted w
    (takes-step n part octets (end_of at first.two) session (w.going at) (channel_goes n (session_of at first) t.0)
    (stood-at (end_of at first.two) (w.going at) (stands-now at first w)) t.1 t.2)
    refl
    (λ new d. ap (λ (one : OneEnd). one.doing) d.new_is ∙ d.going)
    (λ next d e wire. record {
      room = room;
      takes = subst (λ (x : Held). TakesPart n (Some part) octets (session_of at first) x) (sym e) t;
      took = d;
      accounts_are = refl;
    })
    (λ new d e. taken-part at (end_of at first.two) new (view_of (end_of (other_end at) first.two)) first.accounts (empty-at (other_end at) w.moves first.two w.reached)
    (lives-at at first.two first.accounts w.lives) n part octets t.3 d))
