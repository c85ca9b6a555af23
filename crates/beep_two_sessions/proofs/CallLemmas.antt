-- What each call of a session does is a step.
use Rattle.std.proofs.Common.{◌≡◌, ◌≢◌, ◌||◌, inl, inr, ℕ, true, false, List, [], ◌∷◌, ◌++◌, refl, sym, ap, ◌∙◌, subst}
use Rattle.std.proofs.lemmas.List.{append_cancel_left, append_cancel_right}
use Rattle.beep_session.specs.beep_frame.specs.declared.head.Head.{Head}
use Rattle.beep_session.specs.beep_frame.specs.declared.kind.Kind.{Kind}
use Rattle.beep_session.specs.beep_frame.specs.declared.rule.Rule.{Rule}
use Rattle.beep_session.specs.beep_frame.specs.declared.seq.Seq.{Seq}
use Rattle.beep_session.specs.beep_frame.specs.Frame.{framed, seq_frame, is_msg, IsHead, IsSeq}
use Rattle.beep_session.specs.beep_frame.specs.Spelling.{spelling, header, trailer}
use Rattle.beep_session.specs.beep_frame.specs.Stream.{IsHeadOf}
use Rattle.beep_session.specs.beep_history.specs.declared.journal.Side.{Side}
use Rattle.beep_session.specs.beep_history.specs.Journal.{Item, began, passed, told}
use Rattle.beep_session.specs.beep_history.specs.Broken.{under_way}
use Rattle.beep_session.specs.beep_journal.specs.Zero.{zero_history, completes_form}
use Rattle.beep_session.specs.beep_journal.specs.Broken.{none_tunes}
use Rattle.beep_session.specs.beep_decide.specs.Numbers.{other_role}
use Rattle.beep_session.specs.beep_inbox.specs.declared.part.Part.{Part}
use Rattle.beep_session.specs.beep_outbox.specs.Queue.{marks_of}
use Rattle.beep_session.specs.beep_standing.specs.Standing.{Marks, no_marks}
use Rattle.beep_session.specs.beep_hearing.specs.Hears.{Breaks, Hears}
use Rattle.beep_session.specs.beep_hearing.specs.declared.ear.Ear.{Ear}
use Rattle.beep_session.specs.beep_lawful.specs.declared.terms.Terms.{Terms}
use Rattle.beep_session.specs.beep_lawful.specs.Lawful.{IsLawful}
use Rattle.beep_session.specs.beep_speaking.specs.declared.emit.Emit.{Emit}
use Rattle.beep_session.specs.beep_upright.specs.Upright.{IsUpright}
use Rattle.beep_two_journals.proofs.KeptLemmas.{frame_keeps, follows-header}
use Rattle.beep_session.specs.beep_peer.specs.declared.peer.Peer.{Peer}
use Rattle.beep_session.specs.beep_peer.specs.Acts.{IsUnchanged}
use Rattle.beep_session.specs.beep_peer.specs.Calls.{Begins as BeginsPeer, Settles, Speaks, IsLawfulNext}
use Rattle.beep_session.specs.beep_peer.specs.Peering.{IsPeer, WaitsIn, is_over, zero_waits}
use Rattle.beep_session.specs.beep_peer.specs.Lawfully.{IsLawfulPeer, SpeaksLawfully}
use Rattle.beep_session.specs.declared.event.Event.{Event}
use Rattle.beep_session.specs.Acts.{AsksZero}
use Rattle.beep_session.specs.Channels.{IsOfPeer, Gives, Takes}
use Rattle.beep_session.specs.Lawfully.{terms_of, IsLawfulSession, KeepsUpright, FeedsLawfully, GainsLawfully, WaitsLawfully}
use Rattle.beep_session.specs.Session.{Held, AreLimits}
use Rattle.beep_two_sessions.specs.End.{End, Doing, goes, waits, end_of_new, EndStands, StandsAs, Awaits}
use Rattle.beep_two_sessions.specs.Acts.{Act, gives, asks, takes, settles, stops, sends, pauses, gets, rests, sent_by, used_by, LeadsTo}
use Rattle.beep_two_sessions.specs.World.{World, Move, a_does, b_does, IsReached}

module _ (old : End) (session : Held) (same : IsOfPeer old.session session) where
  -- the terms of a session stay
  terms-stay : terms_of session ≡ terms_of old.session
  terms-stay = ap terms_of same

  stands-so : (fed rest : List ℕ) (journal : List Item) (given taken : Marks) → IsLawfulPeer (terms_of old.session) fed rest journal given taken session.peer
      → IsLawfulSession session fed rest journal given taken
  stands-so fed rest journal given taken p =
      subst (λ (t : Terms). IsLawfulPeer t fed rest journal given taken session.peer) (sym terms-stay) p

-- what is known of an end that goes on
stood : (old : End) → old.doing ≡ goes → EndStands old → IsLawfulSession old.session old.fed old.rest old.journal old.given old.taken
stood old e s = subst (λ (d : Doing). StandsAs d old) e s

stood-waiting : (head : Head) (payload : List ℕ) (old : End) → old.doing ≡ waits head payload → EndStands old → Awaits head payload old
stood-waiting head payload old e s = subst (λ (d : Doing). StandsAs d old) e s

-- ---- what a program gives and takes

pub gives-step : (number : ℕ) (kind : Kind) (octets : List ℕ) (old : End) (session : Held) → old.doing ≡ goes → is_over old.session.peer ≡ false → EndStands old
    → Gives number kind octets old.session session → KeepsUpright old.session session → LeadsTo (gives number kind octets) old session
gives-step number kind octets old session e on s g u =
    let l = stood old e s in
    let m = g.gives old.fed old.rest old.journal old.given old.taken l.stands in (
      _,
      refl,
      record {
        going = e;
        on = on;
        session = session;
        same = g.same;
        new_is = refl;
        stands = stands-so old session g.same old.fed old.rest old.journal _ old.taken
            (record { stands = m.stands; upright = u old.fed old.rest old.journal old.given old.taken l.stands l.upright; lawful = l.lawful });
      },
    )

pub asks-step : (octets : List ℕ) (old : End) (session : Held) → old.doing ≡ goes → EndStands old
    → ((fed rest : List ℕ) (journal : List Item) (given taken : Marks) → IsPeer old.session.limits.window fed rest journal given taken old.session.peer
    → AsksZero old.session.limits.window fed rest journal given taken octets session.peer)
    → IsOfPeer old.session session → KeepsUpright old.session session → LeadsTo (asks octets) old session
asks-step octets old session e s f same u =
    let l = stood old e s in
    let m = f old.fed old.rest old.journal old.given old.taken l.stands in (
      _,
      refl,
      record {
        going = e;
        session = session;
        same = same;
        ask = m.ask;
        is_msg = m.is_msg;
        is_text = m.is_text;
        new_is = refl;
        stands = stands-so old session same old.fed old.rest old.journal _ old.taken
            (record { stands = m.stands; upright = u old.fed old.rest old.journal old.given old.taken l.stands l.upright; lawful = l.lawful });
      },
    )

pub takes-step : (number : ℕ) (part : Part) (octets : List ℕ) (old : End) (session : Held) → old.doing ≡ goes → is_over old.session.peer ≡ false → EndStands old
    → Takes number part octets old.session session → KeepsUpright old.session session → LeadsTo (takes number part octets) old session
takes-step number part octets old session e on s g u =
    let l = stood old e s in
    let m = g.takes old.fed old.rest old.journal old.given old.taken l.stands in (
      _,
      refl,
      record {
        going = e;
        on = on;
        session = session;
        same = g.same;
        given_now = m.given_now;
        above = m.same;
        grows = (marks_of m.gives.messages, m.gives.given_is);
        new_is = refl;
        stands = stands-so old session g.same old.fed old.rest old.journal m.given_now _
            (record { stands = m.stands; upright = u old.fed old.rest old.journal old.given old.taken l.stands l.upright; lawful = l.lawful });
      },
    )

pub rests-step : (old : End) (session : Held) → old.doing ≡ goes → EndStands old → IsUnchanged old.session.peer session.peer → IsOfPeer old.session session
    → KeepsUpright old.session session → LeadsTo rests old session
rests-step old session e s g same u =
    let l = stood old e s in (
      record old { session = session },
      refl,
      record {
        session = session;
        same = same;
        new_is = refl;
        stands = subst (λ (d : Doing). StandsAs d (record old { session = session })) (sym e)
            (stands-so old session same old.fed old.rest old.journal old.given old.taken (record {
              stands = record {
                hears = subst (λ (x : Ear). Hears old.fed old.rest old.journal x) (sym g.ear) l.stands.hears;
                holds = g.holds old.session.limits.window old.journal old.given old.taken l.stands.holds;
                released = g.released ∙ l.stands.released;
              };
              upright = u old.fed old.rest old.journal old.given old.taken l.stands l.upright;
              lawful = l.lawful;
            }));
      },
    )

-- ---- a message that waits

pub settles-step : (head : Head) (payload : List ℕ) (old : End) (session : Held) → old.doing ≡ waits head payload → EndStands old
    → Settles old.session.limits.window old.fed old.journal old.given old.taken head payload session.peer
    → IsUpright (terms_of old.session) (passed Side.Received head payload ∷ old.journal) session.peer.lives session.peer.management
    → IsOfPeer old.session session → LeadsTo settles old session
settles-step head payload old session e s m u same =
    let l = stood-waiting head payload old e s in (
      _,
      refl,
      record {
        head = head;
        payload = payload;
        waiting = e;
        session = session;
        same = same;
        given_now = m.given_now;
        taken_now = m.taken_now;
        given_is = m.given_is;
        grows = (marks_of m.gives.messages, m.gives.given_is);
        taken_is = m.taken_is;
        new_is = refl;
        stands = stands-so old session same old.fed [] (passed Side.Received head payload ∷ old.journal) m.given_now m.taken_now
            (record { stands = m.stands; upright = u; lawful = l.lawful });
      },
    )

pub stops-step : (head : Head) (payload : List ℕ) (rule : Rule) (place : ℕ) (old : End) (session : Held) → old.doing ≡ waits head payload
    → is_msg head.kind ≡ false → completes_form Side.Received head payload (zero_history old.journal) ≡ false → IsOfPeer old.session session
    → LeadsTo (stops rule place) old session
stops-step head payload rule place old session e k f same =
    (_, refl, record { head = head; payload = payload; waiting = e; session = session; same = same; reply = k; formless = f; new_is = refl })

pub waits-step : (head : Head) (payload : List ℕ) (old : End) (session : Held) → old.doing ≡ waits head payload → EndStands old
    → WaitsIn old.session.limits.window old.fed old.journal old.given old.taken head payload session.peer
    → IsUpright (terms_of old.session) old.journal session.peer.lives session.peer.management → IsOfPeer old.session session → LeadsTo rests old session
waits-step head payload old session e s w u same =
    let l = stood-waiting head payload old e s in (
      record old { session = session },
      refl,
      record {
        session = session;
        same = same;
        new_is = refl;
        stands = subst (λ (d : Doing). StandsAs d (record old { session = session })) (sym e) (still l.lawful);
      },
    )
  where
    still : IsLawful (terms_of old.session) none_tunes old.journal → Awaits head payload (record old { session = session })
    still lawful = record {
      waits = subst (λ (t : Terms). WaitsIn t.window old.fed old.journal old.given old.taken head payload session.peer) (sym (terms-stay old session same)) w;
      upright = subst (λ (t : Terms). IsUpright t old.journal session.peer.lives session.peer.management) (sym (terms-stay old session same)) u;
      lawful = subst (λ (t : Terms). IsLawful t none_tunes old.journal) (sym (terms-stay old session same)) lawful;
    }

-- ---- what goes out

same-payload : (before : List ℕ) (head : Head) (p q : List ℕ) → before ++ spelling (framed head p) ≡ before ++ spelling (framed head q) → p ≡ q
same-payload before head p q e =
    append_cancel_left (header head) p q
    (append_cancel_right (header head ++ p) (header head ++ q) trailer (append_cancel_left before (spelling (framed head p)) (spelling (framed head q)) e))

pub frame-step : (head : Head) (most : ℕ) (before after : List ℕ) (old : End) (session : Held) → old.doing ≡ goes → IsHead head
    → Speaks (Emit.Data head) old.session.limits.window most old.fed old.rest old.journal old.given old.taken old.session.peer session.peer before after
    → SpeaksLawfully (Emit.Data head) (terms_of old.session) old.fed old.rest old.journal old.given old.taken old.session.peer session.peer before after
    → IsOfPeer old.session session
    → (payload : List ℕ) × (after ≡ before ++ spelling (framed head payload)) × LeadsTo (sends (framed head payload)) old session
frame-step head most before after old session e h s m same = (
  m.payload,
  m.spelled,
  (
    _,
    refl,
    record {
      going = e;
      session = session;
      same = same;
      is_frame = (
        h,
        (follows-header (began Side.Sent head ∷ old.journal) head m.payload
            (frame_keeps (terms_of old.session) (began Side.Sent head ∷ old.journal) head m.payload m.lawful).apart).size,
      );
      most = most;
      next = subst (λ (p : List ℕ). IsLawfulNext old.session.limits.window most old.journal old.given old.taken head p)
          (same-payload before head s.0 m.payload (sym s.1 ∙ m.spelled)) s.2;
      given_now = m.sent.given_now;
      taken_now = m.sent.taken_now;
      given_is = m.sent.given_is;
      grows = (marks_of m.sent.gives.messages, m.sent.gives.given_is);
      taken_is = m.sent.taken_is;
      new_is = refl;
      stands = stands-so old session same old.fed old.rest (passed Side.Sent head m.payload ∷ began Side.Sent head ∷ old.journal) m.sent.given_now m.sent.taken_now
          (record { stands = m.sent.stands; upright = m.upright; lawful = m.lawful });
    },
  ),
)

pub seq-step : (seq : Seq) (before after : List ℕ) (old : End) (session : Held) → old.doing ≡ goes → IsSeq seq
    → SpeaksLawfully (Emit.Seq seq) (terms_of old.session) old.fed old.rest old.journal old.given old.taken old.session.peer session.peer before after
    → IsOfPeer old.session session → (after ≡ before ++ spelling (seq_frame seq)) × LeadsTo (sends (seq_frame seq)) old session
seq-step seq before after old session e h m same = (
  m.0,
  (
    _,
    refl,
    record {
      going = e;
      session = session;
      same = same;
      is_seq = h;
      new_is = refl;
      stands = stands-so old session same old.fed old.rest (told Side.Sent seq ∷ old.journal) old.given old.taken m.1;
    },
  ),
)

pub nothing-step : (most : ℕ) (before after : List ℕ) (old : End) (session : Held) → old.doing ≡ goes
    → Speaks Emit.Nothing old.session.limits.window most old.fed old.rest old.journal old.given old.taken old.session.peer session.peer before after
    → IsOfPeer old.session session → (after ≡ before) × LeadsTo pauses old session
nothing-step most before after old session e m same = (
  m.1,
  (
    old,
    sym (same ∙ ap (λ (p : Peer). record old.session { peer = p }) m.0),
    record { going = e; quiet = inl (record { no_seq = m.2; no_frame = m.3 }); still = refl },
  ),
)

pub over-step : (old : End) → old.doing ≡ goes → is_over old.session.peer ≡ true → LeadsTo pauses old old.session
over-step old e o = (old, refl, record { going = e; quiet = inr o; still = refl })

-- ---- what comes

module _ (octets : List ℕ) (old : End) (session : Held) (e : old.doing ≡ goes) (same : IsOfPeer old.session session) where
  gained-step : GainsLawfully (terms_of old.session) octets old.fed old.journal old.given old.taken session.peer
      → LeadsTo (gets octets Event.More) old session
  gained-step g = (
    _,
    refl,
    inr (record {
      going = e;
      session = session;
      same = same;
      gained = g.gained;
      gains = g.gains;
      new_is = refl;
      stands = stands-so old session same (old.fed ++ octets) g.gains.rest (g.gained ++ old.journal) old.given g.gains.taken_now g.lawful;
    }),
  )

  waits-by : WaitsLawfully (terms_of old.session) octets old.fed old.journal old.given old.taken session.peer → LeadsTo (gets octets Event.Zero) old session
  waits-by g = (
    _,
    refl,
    inr (record {
      going = e;
      session = session;
      same = same;
      zero = g.zero;
      new_is = refl;
      stands = record {
        waits = subst (λ (t : Terms). WaitsIn t.window (old.fed ++ octets) (g.zero.gained ++ old.journal) old.given g.zero.taken_now g.zero.head g.zero.payload session.peer)
            (sym (terms-stay old session same)) g.zero.waits;
        upright = subst (λ (t : Terms). IsUpright t (g.zero.gained ++ old.journal) session.peer.lives session.peer.management) (sym (terms-stay old session same)) g.upright;
        lawful = subst (λ (t : Terms). IsLawful t none_tunes (g.zero.gained ++ old.journal)) (sym (terms-stay old session same)) g.lawful;
      };
    }),
  )

  pub feeds-step : (event : Event) → ((rule : Rule) (place : ℕ) → event ≡ Event.Broken rule place → ⊥) → event ≢ Event.Released
      → FeedsLawfully event (terms_of old.session) octets old.fed old.journal old.given old.taken session.peer → LeadsTo (gets octets event) old session
  feeds-step Event.More b r g = gained-step g
  feeds-step (Event.Arrived number) b r g = gained-step g
  feeds-step Event.Zero b r g = waits-by g
  feeds-step Event.Released b r g = absurd (r refl)
  feeds-step (Event.Broken rule place) b r g = absurd (b rule place refl)
  feeds-step Event.NoMemory b r g = gained-step g

  pub breaks-step : (rule : Rule) (place : ℕ)
      → Breaks rule place old.session.limits.window octets old.fed old.journal old.given old.taken session.peer.ear session.peer.lives
      → LeadsTo (gets octets (Event.Broken rule place)) old session
  breaks-step rule place s = (
    _,
    refl,
    inr (record {
      going = e;
      session = session;
      same = same;
      breaks = s;
      new_is = refl;
    }),
  )

pub busy-step : (event : Event) (old : End) → (is_over old.session.peer || zero_waits old.session.peer) ≡ true → LeadsTo (gets [] event) old old.session
busy-step event old b = (old, refl, inl (record { busy = b; none = refl; still = refl }))

-- ---- a world begins and goes on

pub begins : (a b : Held) (greeting_a greeting_b : List ℕ) → AreLimits a.limits → AreLimits b.limits → b.role ≡ other_role a.role
    → (begun_a : BeginsPeer a.limits.window greeting_a a.peer) → (begun_b : BeginsPeer b.limits.window greeting_b b.peer)
    → IsLawfulSession a [] [] [] begun_a.given no_marks → IsLawfulSession b [] [] [] begun_b.given no_marks
    → IsReached [] (record { a = end_of_new a begun_a.given; b = end_of_new b begun_b.given; to_a = []; to_b = [] })
begins a b greeting_a greeting_b limits_a limits_b roles begun_a begun_b s t = record {
  a = record { session = a; given = begun_a.given; new_is = refl; limits = limits_a; above = begun_a.same; stands = s };
  b = record { session = b; given = begun_b.given; new_is = refl; limits = limits_b; above = begun_b.same; stands = t };
  roles = roles;
  no_wire_to_a = refl;
  no_wire_to_b = refl;
}

pub leads-a : (moves : List Move) (world : World) (act : Act) (session : Held) (later : List ℕ) → IsReached moves world → LeadsTo act world.a session
    → world.to_a ≡ used_by act ++ later
    → (next : World) × (next.a.session ≡ session) × (next.b ≡ world.b) × (next.to_a ≡ later) × (next.to_b ≡ world.to_b ++ sent_by act)
    × IsReached (a_does act ∷ moves) next
leads-a moves world act session later r s wire = (
  record { a = s.0; b = world.b; to_a = later; to_b = world.to_b ++ sent_by act },
  s.1,
  refl,
  refl,
  refl,
  (world, s.2, refl, wire, refl, r),
)

pub leads-b : (moves : List Move) (world : World) (act : Act) (session : Held) (later : List ℕ) → IsReached moves world → LeadsTo act world.b session
    → world.to_b ≡ used_by act ++ later
    → (next : World) × (next.b.session ≡ session) × (next.a ≡ world.a) × (next.to_b ≡ later) × (next.to_a ≡ world.to_a ++ sent_by act)
    × IsReached (b_does act ∷ moves) next
leads-b moves world act session later r s wire = (
  record { a = world.a; b = s.0; to_a = world.to_a ++ sent_by act; to_b = later },
  s.1,
  refl,
  refl,
  refl,
  (world, s.2, refl, wire, refl, r),
)
