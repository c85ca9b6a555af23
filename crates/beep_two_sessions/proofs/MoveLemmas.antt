-- What each act leaves of two ends and their wires.
use Rattle.std.proofs.Common.{◌≡◌, ◌≤◌, ◌⊎◌, inl, inr, ℕ, true, false, List, [], ◌∷◌, ◌++◌, refl, sym, ap, ◌∙◌, subst, append_assoc, append-nil}
use Rattle.beep_session.specs.beep_frame.specs.declared.head.Head.{Head}
use Rattle.beep_session.specs.beep_frame.specs.declared.kind.Kind.{Kind}
use Rattle.beep_session.specs.beep_frame.specs.declared.rule.Rule.{Rule}
use Rattle.beep_session.specs.beep_frame.specs.declared.seq.Seq.{Seq}
use Rattle.beep_session.specs.beep_frame.specs.Frame.{Frame, framed, seq_frame, is_msg}
use Rattle.beep_session.specs.beep_frame.specs.Spelling.{spelling}
use Rattle.beep_session.specs.beep_frame.specs.Stream.{IsHeadOf}
use Rattle.beep_session.specs.beep_seq.specs.declared.limits.TheConstants.{MIN_WINDOW, MAX_WINDOW}
use Rattle.beep_session.specs.beep_history.specs.declared.journal.Side.{Side}
use Rattle.beep_session.specs.beep_history.specs.Journal.{Item, began, passed, told}
use Rattle.beep_session.specs.beep_history.specs.Broken.{under_way}
use Rattle.beep_session.specs.beep_journal.specs.Zero.{zero_history, completes_form}
use Rattle.beep_session.specs.beep_journal.specs.Life.{life_now}
use Rattle.beep_session.specs.beep_journal.specs.Broken.{none_tunes}
use Rattle.beep_session.specs.beep_journal.specs.Journal.{spelled}
use Rattle.beep_session.specs.beep_inbox.specs.declared.part.Part.{Part}
use Rattle.beep_session.specs.beep_inbox.specs.Laws.{part_marks}
use Rattle.beep_session.specs.beep_outbox.specs.Queue.{message_marks}
use Rattle.beep_session.specs.beep_standing.specs.Standing.{with_marks}
use Rattle.beep_session.specs.beep_lawful.specs.declared.terms.Terms.{Terms}
use Rattle.beep_session.specs.beep_lawful.specs.Lawful.{IsLawful}
use Rattle.beep_session.specs.beep_hearing.specs.Hears.{Breaks}
use Rattle.beep_session.specs.declared.event.Event.{Event}
use Rattle.beep_session.specs.Channels.{IsOfPeer}
use Rattle.beep_session.specs.Lawfully.{terms_of}
use Rattle.beep_session.specs.Session.{Held}
use Rattle.beep_two_sessions.specs.End.{End, Doing, goes, waits, stopped, with_more, EndStands, StandsAs, StandsSo, StandsUnbroken, Awaits}
use Rattle.beep_two_sessions.specs.Acts.{Act, gives, asks, takes, settles, stops, sends, pauses, gets, rests, sent_by, used_by, given_marks, HasGiven, HasAsked, HasTaken, HasSettled, HasStopped, HasSent, HasTold, SendsAs, HasGained, HasMessage, GetsAs, UsesNone, HasRested, Does}
use Rattle.beep_two_sessions.specs.World.{World, IsBegun, Move, a_does, b_does, IsReached}
use Rattle.beep_two_sessions.proofs.ReadLemmas.{all-come, head-of-fed, head-of-whole, head-of-none}
use Rattle.beep_two_sessions.proofs.WireLemmas.{Wired, wired-flips, gains, sends-frame, sends-seq}
use Rattle.beep_two_sessions.proofs.BreakLemmas.{none-breaks, waiting-fine}

-- ---- two ends that stand

pub record Linked (of_a of_b : Terms) (a b : End) (to_a to_b : List ℕ) : Type 0 where
  pub a_terms : terms_of a.session ≡ of_a
  pub b_terms : terms_of b.session ≡ of_b
  pub wired : Wired of_a of_b a.journal b.journal a.fed b.fed to_a to_b
  pub a_stands : StandsUnbroken a
  pub b_stands : StandsUnbroken b

pub linked-flips : (of_a of_b : Terms) (a b : End) (to_a to_b : List ℕ) → Linked of_a of_b a b to_a to_b → Linked of_b of_a b a to_b to_a
linked-flips of_a of_b a b to_a to_b l = record {
  a_terms = l.b_terms;
  b_terms = l.a_terms;
  wired = wired-flips of_a of_b a.journal b.journal a.fed b.fed to_a to_b l.wired;
  a_stands = l.b_stands;
  b_stands = l.a_stands;
}

-- ---- one act

module _ (of_a of_b : Terms) (a b : End) (to_a to_b : List ℕ) (l : Linked of_a of_b a b to_a to_b) where
  same-terms : (session : Held) → IsOfPeer a.session session → terms_of session ≡ of_a
  same-terms session same = ap terms_of same ∙ l.a_terms

  -- an end whose journal stays
  stays : (a' : End) → a'.journal ≡ a.journal → a'.fed ≡ a.fed → terms_of a'.session ≡ of_a → StandsUnbroken a' → Linked of_a of_b a' b to_a to_b
  stays a' journal fed terms stands = record {
    a_terms = terms;
    b_terms = l.b_terms;
    wired = subst (λ (xs : List ℕ). Wired of_a of_b a'.journal b.journal xs b.fed to_a to_b) (sym fed)
        (subst (λ (xs : List Item). Wired of_a of_b xs b.journal a.fed b.fed to_a to_b) (sym journal) l.wired);
    a_stands = stands;
    b_stands = l.b_stands;
  }

  going : a.doing ≡ goes → StandsAs goes a
  going e = subst (λ (d : Doing). StandsSo d a) e l.a_stands

  pub waiting : (head : Head) (payload : List ℕ) → a.doing ≡ waits head payload → Awaits head payload a
  waiting head payload e = subst (λ (d : Doing). StandsSo d a) e l.a_stands

  lawful : (session : Held) → IsOfPeer a.session session → (journal : List Item) → IsLawful (terms_of session) none_tunes journal → IsLawful of_a none_tunes journal
  lawful session same journal w = subst (λ (t : Terms). IsLawful t none_tunes journal) (same-terms session same) w

  -- ---- an end that goes on, with the same journal

  at-goes : (new : End) → new.doing ≡ goes → StandsAs goes new → StandsUnbroken new
  at-goes new e s = subst (λ (d : Doing). StandsSo d new) (sym e) s

  given-goes : (number : ℕ) (kind : Kind) (octets : List ℕ) (new : End) → HasGiven number kind octets a new → Linked of_a of_b new b to_a to_b
  given-goes number kind octets new s =
      let now : End = record a {
        session = s.session;
        given = with_marks number (a.given number ++ given_marks number kind octets a) a.given;
        gave = with_more number (life_now number a.journal) (given_marks number kind octets a) a.gave;
      } in
      subst (λ (e : End). Linked of_a of_b e b to_a to_b) (sym s.new_is)
      (stays now refl refl (same-terms s.session s.same) (at-goes now s.going s.stands))

  asked-goes : (octets : List ℕ) (new : End) → HasAsked octets a new → Linked of_a of_b new b to_a to_b
  asked-goes octets new s =
      let now : End = record a { session = s.session; given = with_marks 0 (a.given 0 ++ message_marks s.ask) a.given } in
      subst (λ (e : End). Linked of_a of_b e b to_a to_b) (sym s.new_is)
      (stays now refl refl (same-terms s.session s.same) (at-goes now s.going s.stands))

  taken-goes : (number : ℕ) (part : Part) (octets : List ℕ) (new : End) → HasTaken number part octets a new → Linked of_a of_b new b to_a to_b
  taken-goes number part octets new s =
      let now : End = record a {
        session = s.session;
        given = s.given_now;
        taken = with_marks number (a.taken number ++ part_marks part octets) a.taken;
        took = with_more number (life_now number a.journal) (part_marks part octets) a.took;
      } in
      subst (λ (e : End). Linked of_a of_b e b to_a to_b) (sym s.new_is)
      (stays now refl refl (same-terms s.session s.same) (at-goes now s.going s.stands))

  rested-goes : (new : End) → HasRested a new → Linked of_a of_b new b to_a to_b
  rested-goes new s =
      let now : End = record a { session = s.session } in
      subst (λ (e : End). Linked of_a of_b e b to_a to_b) (sym s.new_is)
      (stays now refl refl (same-terms s.session s.same) (by-doing a.doing refl s.stands))
    where
      by-doing : (d : Doing) → a.doing ≡ d → StandsAs d (record a { session = s.session }) → StandsSo d (record a { session = s.session })
      by-doing goes e t = t
      by-doing (waits head payload) e t = t
      by-doing (stopped rule place) e t = subst (λ (d : Doing). StandsSo d a) e l.a_stands

  paused-goes : (new : End) → new ≡ a → Linked of_a of_b new b to_a to_b
  paused-goes new e = subst (λ (x : End). Linked of_a of_b x b to_a to_b) (sym e) l

  -- ---- what goes out

  frame-goes : (head : Head) (payload : List ℕ) (new : End) → HasSent head payload a new → Linked of_a of_b new b to_a (to_b ++ spelling (framed head payload))
  frame-goes head payload new s =
      let now : End = record a {
        session = s.session;
        journal = passed Side.Sent head payload ∷ began Side.Sent head ∷ a.journal;
        given = s.given_now;
        taken = s.taken_now;
      } in
      subst (λ (e : End). Linked of_a of_b e b to_a (to_b ++ spelling (framed head payload))) (sym s.new_is) (record {
        a_terms = same-terms s.session s.same;
        b_terms = l.b_terms;
        wired = sends-frame of_a of_b a.journal b.journal a.fed b.fed to_a to_b l.wired head payload s.is_frame
            (lawful s.session s.same now.journal s.stands.lawful);
        a_stands = at-goes now s.going s.stands;
        b_stands = l.b_stands;
      })

  seq-goes : (seq : Seq) (new : End) → HasTold seq a new → Linked of_a of_b new b to_a (to_b ++ spelling (seq_frame seq))
  seq-goes seq new s =
      let now : End = record a { session = s.session; journal = told Side.Sent seq ∷ a.journal } in
      subst (λ (e : End). Linked of_a of_b e b to_a (to_b ++ spelling (seq_frame seq))) (sym s.new_is) (record {
        a_terms = same-terms s.session s.same;
        b_terms = l.b_terms;
        wired = sends-seq of_a of_b a.journal b.journal a.fed b.fed to_a to_b l.wired seq s.is_seq
            (lawful s.session s.same now.journal s.stands.lawful);
        a_stands = at-goes now s.going s.stands;
        b_stands = l.b_stands;
      })

  sends-goes : (frame : Frame) (new : End) → SendsAs frame a new → Linked of_a of_b new b to_a (to_b ++ spelling frame)
  sends-goes (framed head payload) new s = frame-goes head payload new s
  sends-goes (seq_frame seq) new s = seq-goes seq new s

  -- ---- a message that waits

  settled-goes : (new : End) → HasSettled a new → Linked of_a of_b new b to_a to_b
  settled-goes new s =
      let t : Awaits s.head s.payload a = waiting s.head s.payload s.waiting in
      let w = t.waits.waits in
      subst (λ (e : End). Linked of_a of_b e b to_a to_b) (sym s.new_is) (record {
        a_terms = same-terms s.session s.same;
        b_terms = l.b_terms;
        wired = gains of_a of_b a.journal b.journal a.fed b.fed to_a to_b l.wired (passed Side.Received s.head s.payload ∷ [])
            ((refl, w.is_frame, w.begun), tt) a.fed [] to_a
            (w.fed_is ∙ sym (append-nil (spelled Side.Received a.journal ++ spelling (framed s.head s.payload)))) head-of-none refl;
        a_stands = s.stands;
        b_stands = l.b_stands;
      })

  pub reply-fine : (head : Head) (payload : List ℕ) → a.doing ≡ waits head payload → is_msg head.kind ≡ false
      → completes_form Side.Received head payload (zero_history a.journal) ≡ true
  reply-fine head payload e k =
      let t : Awaits head payload a = waiting head payload e in
      let w = t.waits.waits in
      waiting-fine of_a of_b a.journal b.journal a.fed b.fed to_a to_b l.wired head payload w.zero_is w.last w.is_frame w.begun w.fed_is k

  stopped-never : (rule : Rule) (place : ℕ) (new : End) → HasStopped rule place a new → ⊥
  stopped-never rule place new s =
      let bad : true ≡ false = sym (reply-fine s.head s.payload s.waiting s.reply) ∙ s.formless in cc

  -- ---- what comes

  module _ (octets later : List ℕ) (wire : to_a ≡ octets ++ later) where
    all : (a.fed ++ octets) ++ later ≡ a.fed ++ to_a
    all = append_assoc a.fed octets later ∙ ap (λ (xs : List ℕ). a.fed ++ xs) (sym wire)

    gained-goes : (new : End) → HasGained octets a new → Linked of_a of_b new b later to_b
    gained-goes new s =
        let now : End = record a {
          session = s.session;
          fed = a.fed ++ octets;
          rest = s.gains.rest;
          journal = s.gained ++ a.journal;
          taken = s.gains.taken_now;
        } in
        let g = s.gains in
        let f = g.stands.hears.is_fed in
        subst (λ (e : End). Linked of_a of_b e b later to_b) (sym s.new_is) (record {
          a_terms = same-terms s.session s.same;
          b_terms = l.b_terms;
          wired = gains of_a of_b a.journal b.journal a.fed b.fed to_a to_b l.wired s.gained (all-come s.gained a.journal g.join)
              (a.fed ++ octets) g.rest later f.fed_is
              (head-of-fed (a.fed ++ octets) g.rest (s.gained ++ a.journal) s.session.peer.ear.decoder s.session.peer.ear.used f) all;
          a_stands = at-goes now s.going s.stands;
          b_stands = l.b_stands;
        })

    message-goes : (new : End) → HasMessage octets a new → Linked of_a of_b new b later to_b
    message-goes new s =
        let now : End = record a {
          session = s.session;
          doing = waits s.zero.head s.zero.payload;
          fed = a.fed ++ octets;
          rest = spelling (framed s.zero.head s.zero.payload);
          journal = s.zero.gained ++ a.journal;
          taken = s.zero.taken_now;
        } in
        let t : EndStands now = subst EndStands s.new_is s.stands in
        let z = s.zero in
        let w = t.waits.waits in
        subst (λ (e : End). Linked of_a of_b e b later to_b) (sym s.new_is) (record {
          a_terms = same-terms s.session s.same;
          b_terms = l.b_terms;
          wired = gains of_a of_b a.journal b.journal a.fed b.fed to_a to_b l.wired z.gained (all-come z.gained a.journal z.join)
              (a.fed ++ octets) (spelling (framed z.head z.payload)) later w.fed_is
              (subst (IsHeadOf (spelling (framed z.head z.payload))) (sym w.begun) (head-of-whole z.head z.payload w.is_frame)) all;
          a_stands = t;
          b_stands = l.b_stands;
        })

    pub breaks-never : (rule : Rule) (place : ℕ) (session : Held)
        → Breaks rule place a.session.limits.window octets a.fed a.journal a.given a.taken session.peer.ear session.peer.lives → ⊥
    breaks-never rule place session s =
        none-breaks of_a of_b (s.gained ++ a.journal) b.journal (a.fed ++ s.before) b.fed later to_b s.rest s.octet
        (gains of_a of_b a.journal b.journal a.fed b.fed to_a to_b l.wired s.gained (all-come s.gained a.journal s.join)
        (a.fed ++ s.before) s.rest (s.octet ∷ later) s.fed_is s.is_head
        (append_assoc a.fed s.before (s.octet ∷ later)
        ∙ ap (λ (xs : List ℕ). a.fed ++ xs) (sym (append_assoc s.before (s.octet ∷ []) later) ∙ ap (λ (xs : List ℕ). xs ++ later) (sym s.octets_are) ∙ sym wire)))
        s.fed_is s.is_head rule s.breaks

    gets-goes : (event : Event) (new : End) → GetsAs event octets a new → Linked of_a of_b new b later to_b
    gets-goes Event.More new s = gained-goes new s
    gets-goes (Event.Arrived number) new s = gained-goes new s
    gets-goes Event.Zero new s = message-goes new s
    gets-goes Event.Released new s = absurd s
    gets-goes (Event.Broken rule place) new s = absurd (breaks-never rule place s.session s.breaks)
    gets-goes Event.NoMemory new s = gained-goes new s

    used-goes : (event : Event) (new : End) → UsesNone octets a new ⊎ GetsAs event octets a new → Linked of_a of_b new b later to_b
    used-goes event new (inl s) =
        subst (λ (xs : List ℕ). Linked of_a of_b new b xs to_b) (wire ∙ ap (λ (xs : List ℕ). xs ++ later) s.none) (paused-goes new s.still)
    used-goes event new (inr s) = gets-goes event new s

-- ---- any act

module _ (of_a of_b : Terms) (a b new : End) (to_a to_b later out : List ℕ) (l : Linked of_a of_b a b to_a to_b) where
  same-wires : to_a ≡ later → out ≡ to_b ++ [] → Linked of_a of_b new b to_a to_b → Linked of_a of_b new b later out
  same-wires e f n =
      subst (λ (xs : List ℕ). Linked of_a of_b new b later xs) (sym (f ∙ append-nil to_b))
      (subst (λ (xs : List ℕ). Linked of_a of_b new b xs to_b) e n)

  pub does : (act : Act) → Does act a new → to_a ≡ used_by act ++ later → out ≡ to_b ++ sent_by act → Linked of_a of_b new b later out
  does (gives number kind octets) s e f = same-wires e f (given-goes of_a of_b a b to_a to_b l number kind octets new s)
  does (asks octets) s e f = same-wires e f (asked-goes of_a of_b a b to_a to_b l octets new s)
  does (takes number part octets) s e f = same-wires e f (taken-goes of_a of_b a b to_a to_b l number part octets new s)
  does settles s e f = same-wires e f (settled-goes of_a of_b a b to_a to_b l new s)
  does (stops rule place) s e f = absurd (stopped-never of_a of_b a b to_a to_b l rule place new s)
  does (sends frame) s e f =
      subst (λ (xs : List ℕ). Linked of_a of_b new b later xs) (sym f)
      (subst (λ (xs : List ℕ). Linked of_a of_b new b xs (to_b ++ spelling frame)) e (sends-goes of_a of_b a b to_a to_b l frame new s))
  does pauses s e f = same-wires e f (paused-goes of_a of_b a b to_a to_b l new s.still)
  does (gets octets event) s e f =
      subst (λ (xs : List ℕ). Linked of_a of_b new b later xs) (sym (f ∙ append-nil to_b)) (used-goes of_a of_b a b to_a to_b l octets later e event new s)
  does rests s e f = same-wires e f (rested-goes of_a of_b a b to_a to_b l new s)

-- ---- any moves

-- the terms of the two ends stay those of the beginning
pub record Joined (world : World) : Type 0 where
  pub of_a : Terms
  pub of_b : Terms
  pub linked : Linked of_a of_b world.a world.b world.to_a world.to_b
  pub a_wide : MIN_WINDOW ≤ of_a.window
  pub b_wide : MIN_WINDOW ≤ of_b.window

begun : (world : World) → IsBegun world → Joined world
begun world i = record {
  of_a = terms_of world.a.session;
  of_b = terms_of world.b.session;
  linked = record {
    a_terms = refl;
    b_terms = refl;
    wired = wired;
    a_stands = subst StandsUnbroken (sym i.a.new_is) i.a.stands;
    b_stands = subst StandsUnbroken (sym i.b.new_is) i.b.stands;
  };
  a_wide = subst (λ (e : End). MIN_WINDOW ≤ e.session.limits.window) (sym i.a.new_is) i.a.limits.least;
  b_wide = subst (λ (e : End). MIN_WINDOW ≤ e.session.limits.window) (sym i.b.new_is) i.b.limits.least;
}
  where
    window-a : (terms_of world.a.session).window ≤ MAX_WINDOW
    window-a = subst (λ (e : End). e.session.limits.window ≤ MAX_WINDOW) (sym i.a.new_is) i.a.limits.greatest

    window-b : (terms_of world.b.session).window ≤ MAX_WINDOW
    window-b = subst (λ (e : End). e.session.limits.window ≤ MAX_WINDOW) (sym i.b.new_is) i.b.limits.greatest

    none : Wired (terms_of world.a.session) (terms_of world.b.session) [] [] [] [] [] []
    none = record {
      ends = record { roles = i.roles; a_window = window-a; b_window = window-b };
      steps = [];
      items_a = [];
      items_b = [];
      run = (refl, refl, refl, refl);
      a_sends = record { each = tt; items = refl };
      b_sends = record { each = tt; items = refl };
      a_reads = record { each = tt; items = refl };
      b_reads = record { each = tt; items = refl };
      to_a_is = refl;
      to_b_is = refl;
    }

    wired : Wired (terms_of world.a.session) (terms_of world.b.session) world.a.journal world.b.journal world.a.fed world.b.fed world.to_a world.to_b
    wired =
        rw (
          ap (λ (e : End). e.journal) i.a.new_is,
          ap (λ (e : End). e.journal) i.b.new_is,
          ap (λ (e : End). e.fed) i.a.new_is,
          ap (λ (e : End). e.fed) i.b.new_is,
          i.no_wire_to_a,
          i.no_wire_to_b,
        ) none

pub reached : (moves : List Move) (world : World) → IsReached moves world → Joined world
reached [] world r = begun world r
reached (a_does act ∷ moves) world (before, s, same, used, put, r) =
    let j = reached moves before r in
    record {
      of_a = j.of_a;
      of_b = j.of_b;
      a_wide = j.a_wide;
      b_wide = j.b_wide;
      linked = subst (λ (e : End). Linked j.of_a j.of_b world.a e world.to_a world.to_b) (sym same)
          (does j.of_a j.of_b before.a before.b world.a before.to_a before.to_b world.to_a world.to_b j.linked act s used put);
    }
reached (b_does act ∷ moves) world (before, s, same, used, put, r) =
    let j = reached moves before r in
    record {
      of_a = j.of_a;
      of_b = j.of_b;
      a_wide = j.a_wide;
      b_wide = j.b_wide;
      linked = subst (λ (e : End). Linked j.of_a j.of_b e world.b world.to_a world.to_b) (sym same)
          (linked-flips j.of_b j.of_a world.b before.a world.to_b world.to_a
          (does j.of_b j.of_a before.b before.a world.b before.to_b before.to_a world.to_b world.to_a
          (linked-flips j.of_a j.of_b before.a before.b before.to_a before.to_b j.linked) act s used put));
    }

pub stands-a : (moves : List Move) (world : World) → IsReached moves world → StandsUnbroken world.a
stands-a moves world r = (reached moves world r).linked.a_stands

pub stands-b : (moves : List Move) (world : World) → IsReached moves world → StandsUnbroken world.b
stands-b moves world r = (reached moves world r).linked.b_stands
