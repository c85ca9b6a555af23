-- What is given above channel zero leaves what an end said there, and holds back what was held back.
use Rattle.std.proofs.Common.{◌≡◌, ◌∙◌, refl, sym, ap, subst, ℕ, ◌==◌, Bool, true, false, if◌then◌else◌, List, [], ◌∷◌, ◌++◌, length, map, Option, None, Some, arith, length-append}
use Rattle.std.specs.Prelude.{is_some, IfSome}
use Rattle.beep_session.specs.beep_frame.specs.declared.kind.Kind.{Kind}
use Rattle.beep_session.specs.beep_history.specs.declared.journal.Side.{Side}
use Rattle.beep_session.specs.beep_history.specs.Journal.{Item}
use Rattle.beep_session.specs.beep_history.specs.Marks.{Mark, end, marks, mark_modulo_2_64, octet}
use Rattle.beep_session.specs.beep_journal.specs.Life.{history}
use Rattle.beep_session.specs.beep_journal.specs.Log.{Moment}
use Rattle.beep_session.specs.beep_journal.proofs.MomentLemmas.{equal-number}
use Rattle.beep_session.specs.beep_channel.specs.Held.{Live, is_held_drained}
use Rattle.beep_session.specs.beep_channel.specs.Stands.{Stands}
use Rattle.beep_session.specs.beep_channel.specs.Drained.{IsDrained}
use Rattle.beep_session.specs.beep_channel.proofs.DrainedLemmas.{held-drained, is-drained}
use Rattle.beep_session.specs.beep_outbox.specs.Queue.{Message, marks_of as unsent_marks, message_marks}
use Rattle.beep_session.specs.beep_lives.specs.Lives.{live_at}
use Rattle.beep_session.specs.beep_standing.specs.Standing.{Marks, AreLiveBy, with_marks}
use Rattle.beep_session.specs.beep_asked.specs.Kept.{asks_otherwise}
use Rattle.beep_session.specs.beep_management.specs.declared.wait.Wait.{Wait}
use Rattle.beep_session.specs.beep_management.specs.Managed.{Managed, Prepared, first_of}
use Rattle.beep_session.specs.beep_hearing.specs.declared.ear.Ear.{Ear}
use Rattle.beep_session.specs.beep_hearing.specs.Hears.{Hears}
use Rattle.beep_session.specs.beep_peer.specs.Acts.{IsUnchanged, held_of}
use Rattle.beep_session.specs.beep_peer.specs.Waiting.{HasCome, IsDrainedAt, IsStuck}
use Rattle.beep_session.specs.beep_giving.specs.Giving.{next_message}
use Rattle.beep_session.specs.Channels.{Gives, IsStill}
use Rattle.beep_session.specs.Lawfully.{KeepsUpright}
use Rattle.beep_session.specs.Session.{Held}
use Rattle.beep_desk.specs.beep_talk.specs.Plan.{PlainPlan}
use Rattle.beep_desk.specs.Desks.{IsDeskOf, IsDeskWithin}
use Rattle.beep_steps.specs.Desking.{DesksOn, DesksWithin}
use Rattle.beep_steps.specs.Logs.{StandsOn}
use Rattle.beep_steps.proofs.CallLemmas.{on-so}
use Rattle.beep_steps.proofs.DeskCalls.{plan-on}

-- ---- what an answer waits for

some-at : (o : Option Live) → is_some o ≡ true → (c : Live) × (o ≡ Some c)
some-at None e = absurd cc
some-at (Some c) e = (c, refl)

-- what comes after comes before, where a channel that is drained after was so before
come-back : (old new : List Live) (m : Managed) → ((n : ℕ) → IsDrainedAt n new → IsDrainedAt n old) → (waits : Wait) → HasCome waits new m → HasCome waits old m
come-back old new m back Wait.Nothing come = tt
come-back old new m back (Wait.Life n) come = back n come
come-back old new m back Wait.All come = (come.0, come.1, λ n. back n (come.2 n))

pub stuck-back : (old new : List Live) (m : Managed) → ((n : ℕ) → IsDrainedAt n new → IsDrainedAt n old) → IsStuck old m → IsStuck new m
stuck-back old new m back stuck = of m.answers stuck
  where
    of : (answers : List Prepared) → IfSome (first_of answers) (λ first. HasCome first.waits old m → ⊥) → IfSome (first_of answers) (λ first. HasCome first.waits new m → ⊥)
    of [] s = tt
    of (first ∷ answers) s = λ come. s (come-back old new m back first.waits come)

-- ---- a message that is given

more-than : (xs us : List Mark) (m : Message) → xs ≡ (xs ++ us) ++ message_marks m → ⊥
more-than xs us m e =
    let whole : length xs ≡ length ((xs ++ us) ++ message_marks m) = ap length e in
    let parts = length-append (xs ++ us) (message_marks m) in
    let first = length-append xs us in
    let last = length-append (map (octet m.tag) m.octets) (end m.tag ∷ []) in
    absurd (omega (arith, whole, parts, first, last))

module _ (size : ℕ) (journal : List Item) (given taken : Marks) (number : ℕ) (message : Message) (old new : List Live) (was : AreLiveBy size journal given taken old)
    (is : AreLiveBy size journal (with_marks number (given number ++ message_marks message) given) taken new) where
  abbrev now : Marks
  now = with_marks number (given number ++ message_marks message) given

  given-back : (n : ℕ) → IsDrainedAt n new → IsDrainedAt n old
  given-back n drained above c at =
      let there = some-at (live_at n new) (sym (is.there n) ∙ was.there n ∙ ap is_some at) in
      let stands : Stands size c.held (history n journal) (given n) (taken n) = was.above n c above at in
      let d : IsDrained (history n journal) (now n) (taken n) =
      is-drained size there.0.held (history n journal) (now n) (taken n) (is.above n there.0 above there.1) (drained above there.0 there.1) in
      held-drained size c.held (history n journal) (given n) (taken n) stands (of stands d (number == n) refl)
    where
      of : Stands size c.held (history n journal) (given n) (taken n) → IsDrained (history n journal) (now n) (taken n) → (b : Bool) → (number == n) ≡ b → IsDrained (history n journal) (given n) (taken n)
      of stands d true e =
          absurd (more-than (map mark_modulo_2_64 (marks Side.Sent (history n journal))) (unsent_marks c.held.queue) message
          (d.sent ∙ ap (λ (b : Bool). if b then given number ++ message_marks message else given n) e
          ∙ ap (λ (k : ℕ). given k ++ message_marks message) (equal-number number n e) ∙ ap (λ (ms : List Mark). ms ++ message_marks message) stands.all_given))
      of stands d false e = subst (λ (ms : List Mark). IsDrained (history n journal) ms (taken n)) (ap (λ (b : Bool). if b then given number ++ message_marks message else given n) e) d

module _ (plan : PlainPlan) (number : ℕ) (above : (number == 0) ≡ false) (kind : Kind) (octets : List ℕ) (old new : Held) (g : Gives number kind octets old new) (upright : KeepsUpright old new)
    (log : List Moment) where
  module _ (on : StandsOn old log) where
    abbrev ones : List Mark
    ones = on.given number ++ message_marks (next_message kind octets (on.given number))

    abbrev gives_on : StandsOn new log
    gives_on =
        let m = g.gives on.fed on.rest on.journal on.given on.taken on.stands.stands in
        on-so old new g.same on.fed on.rest on.journal (with_marks number ones on.given) on.taken log
        (record { stands = m.stands; upright = upright on.fed on.rest on.journal on.given on.taken on.stands.stands on.stands.upright; lawful = on.stands.lawful }) on.framed on.logged

    zero-same : with_marks number ones on.given 0 ≡ on.given 0
    zero-same = ap (λ (b : Bool). if b then ones else on.given 0) above

    gives-stuck : IsStuck old.peer.lives old.peer.management → IsStuck new.peer.lives new.peer.management
    gives-stuck stuck =
        let m = g.gives on.fed on.rest on.journal on.given on.taken on.stands.stands in
        subst (IsStuck new.peer.lives) (sym g.kept)
        (stuck-back old.peer.lives new.peer.lives old.peer.management
        (given-back old.limits.window on.journal on.given on.taken number (next_message kind octets (on.given number)) old.peer.lives new.peer.lives on.stands.stands.holds.live m.stands.holds.live) stuck)

  -- what is given in a life above zero leaves channel zero
  pub gives-desk : DesksOn plan old log → DesksOn plan new log
  gives-desk d = record {
    plan_is = plan-on plan old new g.same d.plan_is;
    on = gives_on d.on;
    meets = d.meets;
    listed = d.listed;
    placed = d.placed;
    desk = subst (λ (m : Managed). IsDeskOf plan d.on.journal (with_marks number (ones d.on) d.on.given 0) m.answers) (sym g.kept)
        (subst (λ (ms : List Mark). IsDeskOf plan d.on.journal ms old.peer.management.answers) (sym (zero-same d.on)) d.desk);
    stuck = gives-stuck d.on d.stuck;
  }

  pub gives-within : DesksWithin plan old log → DesksWithin plan new log
  gives-within d = record {
    plan_is = plan-on plan old new g.same d.plan_is;
    on = gives_on d.on;
    meets = d.meets;
    listed = d.listed;
    item = d.item;
    before = d.before;
    journal_is = d.journal_is;
    grants = d.grants;
    placed = d.placed;
    desk = subst (λ (m : Managed). IsDeskWithin plan d.item d.before (with_marks number (ones d.on) d.on.given 0) m.answers) (sym g.kept)
        (subst (λ (ms : List Mark). IsDeskWithin plan d.item d.before ms old.peer.management.answers) (sym (zero-same d.on)) d.desk);
    stuck = gives-stuck d.on d.stuck;
  }

-- ---- room that is made

held-at : (o p : Option Live) → held_of p ≡ held_of o → (c : Live) → o ≡ Some c → (e : Live) × (p ≡ Some e) × (e.held ≡ c.held)
held-at None p h c at = absurd (let x : None ≡ Some c = at in cc)
held-at (Some a) None h c at = absurd (let x : None ≡ Some a.held = h in cc)
held-at (Some a) (Some b) h c at =
    let same : b.held ≡ a.held = (let x : Some b.held ≡ Some a.held = h in cc) in
    let one : a ≡ c = (let x : Some a ≡ Some c = at in cc) in
    (b, refl, same ∙ ap (λ (x : Live). x.held) one)

module _ (plan : PlainPlan) (old new : Held) (s : IsStill old new) (upright : KeepsUpright old new) (log : List Moment) where
  abbrev p : IsUnchanged old.peer new.peer
  p = s.peer

  still-back : (n : ℕ) → IsDrainedAt n new.peer.lives → IsDrainedAt n old.peer.lives
  still-back n drained above c at =
      let e = held-at (live_at n old.peer.lives) (live_at n new.peer.lives) (p.held n) c at in
      sym (ap is_held_drained e.2) ∙ drained above e.0 e.1

  still-stuck : IsStuck old.peer.lives old.peer.management → IsStuck new.peer.lives new.peer.management
  still-stuck stuck = of old.peer.management.answers new.peer.management.answers p.kept.answers stuck
    where
      back : (waits : Wait) → HasCome waits new.peer.lives new.peer.management → HasCome waits old.peer.lives old.peer.management
      back Wait.Nothing come = tt
      back (Wait.Life n) come = still-back n come
      back Wait.All come =
          (sym (ap asks_otherwise p.kept.mine.requests) ∙ come.0, sym (ap asks_otherwise p.kept.acts.requests) ∙ come.1, λ n. still-back n (come.2 n))

      of : (xs ys : List Prepared) → ys ≡ xs → IfSome (first_of xs) (λ first. HasCome first.waits old.peer.lives old.peer.management → ⊥)
          → IfSome (first_of ys) (λ first. HasCome first.waits new.peer.lives new.peer.management → ⊥)
      of xs ys same stuck = subst (λ l. IfSome (first_of l) (λ first. HasCome first.waits new.peer.lives new.peer.management → ⊥)) (sym same) (by xs stuck)
        where
          by : (l : List Prepared) → IfSome (first_of l) (λ first. HasCome first.waits old.peer.lives old.peer.management → ⊥)
              → IfSome (first_of l) (λ first. HasCome first.waits new.peer.lives new.peer.management → ⊥)
          by [] x = tt
          by (first ∷ l) x = λ come. x (back first.waits come)

  abbrev still_on : StandsOn old log → StandsOn new log
  still_on on =
      on-so old new s.same on.fed on.rest on.journal on.given on.taken log
      (record {
        stands = record {
          hears = subst (λ (x : Ear). Hears on.fed on.rest on.journal x) (sym p.ear) on.stands.stands.hears;
          holds = p.holds old.limits.window on.journal on.given on.taken on.stands.stands.holds;
          released = p.released ∙ on.stands.stands.released;
        };
        upright = upright on.fed on.rest on.journal on.given on.taken on.stands.stands on.stands.upright;
        lawful = on.stands.lawful;
      }) on.framed on.logged

  pub still-desk : DesksOn plan old log → DesksOn plan new log
  still-desk d = record {
    plan_is = plan-on plan old new s.same d.plan_is;
    on = still_on d.on;
    meets = d.meets;
    listed = d.listed;
    placed = d.placed;
    desk = subst (IsDeskOf plan d.on.journal (d.on.given 0)) (sym p.kept.answers) d.desk;
    stuck = still-stuck d.stuck;
  }

  pub still-within : DesksWithin plan old log → DesksWithin plan new log
  still-within d = record {
    plan_is = plan-on plan old new s.same d.plan_is;
    on = still_on d.on;
    meets = d.meets;
    listed = d.listed;
    item = d.item;
    before = d.before;
    journal_is = d.journal_is;
    grants = d.grants;
    placed = d.placed;
    desk = subst (IsDeskWithin plan d.item d.before (d.on.given 0)) (sym p.kept.answers) d.desk;
    stuck = still-stuck d.stuck;
  }
