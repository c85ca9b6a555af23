-- What goes out leaves of a sender that stands for a log.
use Rattle.std.proofs.Common.{◌≡◌, ℕ, zero, suc, ◌≤◌, ◌==◌, nat_lt, ltb-true, eqb-true, Bool, true, false, not, ◌||◌, ◌&&◌, if◌then◌else◌, List, [], ◌∷◌, ◌++◌, map, slice_get, Option, None, Some, refl, sym, ap, ◌∙◌, subst, arith}
use Rattle.std.specs.Prelude.{is_some}
use Rattle.beep_session.specs.beep_frame.specs.declared.head.Head.{Head}
use Rattle.beep_session.specs.beep_frame.specs.declared.seq.Seq.{Seq}
use Rattle.beep_session.specs.beep_frame.specs.Frame.{framed, seq_frame, is_nul}
use Rattle.beep_session.specs.beep_frame.specs.Spelling.{spelling}
use Rattle.beep_session.specs.beep_history.specs.declared.journal.Side.{Side}
use Rattle.beep_session.specs.beep_history.specs.Journal.{Item, began, passed, told}
use Rattle.beep_session.specs.beep_history.specs.Marks.{marks, mark_modulo_2_64}
use Rattle.beep_session.specs.beep_history.specs.Broken.{KeepsExchangeRules}
use Rattle.beep_session.specs.beep_journal.specs.Lives.{Event, lives, is_live, has_ended}
use Rattle.beep_session.specs.beep_journal.specs.Zero.{events}
use Rattle.beep_session.specs.beep_journal.specs.Life.{life, life_now, is_there, history}
use Rattle.beep_session.specs.beep_journal.specs.Log.{Moment, put_all}
use Rattle.beep_session.specs.beep_channel.specs.Held.{Live}
use Rattle.beep_session.specs.beep_channel.specs.Stands.{Stands}
use Rattle.beep_session.specs.beep_outbox.specs.Queue.{marks_of as unsent_marks}
use Rattle.beep_session.specs.beep_standing.specs.Standing.{Marks}
use Rattle.beep_session.specs.beep_lives.specs.Lives.{live_at, can_send, IsFirstOf}
use Rattle.beep_session.specs.beep_speaking.specs.declared.emit.Emit.{Emit}
use Rattle.beep_session.specs.beep_upright.specs.Frames.{AreFrames, IsFramed}
use Rattle.beep_session.specs.beep_peer.specs.Calls.{TakesTurn}
use Rattle.beep_session.specs.beep_peer.specs.Lawfully.{SpeaksLawfully, SendsLawfully}
use Rattle.beep_session.specs.beep_peer.specs.Peering.{is_over}
use Rattle.beep_session.specs.beep_peer.proofs.GainLemmas.{quiet-events}
use Rattle.beep_session.specs.Channels.{IsOfPeer}
use Rattle.beep_session.specs.Lawfully.{terms_of, IsLawfulSession}
use Rattle.beep_session.specs.Session.{Held}
use Rattle.beep_logged.proofs.EndLemmas.{put-append}
use Rattle.beep_logged.proofs.WriteLemmas.{frame-written, seq-written, lawful-frame}
use Rattle.beep_desk.specs.beep_talk.specs.Plan.{PlainPlan}
use Rattle.beep_desk.specs.beep_script.specs.Requested.{requests_from}
use Rattle.beep_desk.specs.beep_script.specs.Sending.{LinesGiven, SentSome, SentWhole}
use Rattle.beep_desk.specs.beep_script.proofs.LineLemmas.{whole-goes-on, nul-ends, some-goes-on, frame-life}
use Rattle.beep_steps.specs.Sending.{Progress, Sends, SendsOn, went_by}
use Rattle.beep_steps.proofs.CallLemmas.{on-so}
use Rattle.beep_steps.proofs.CallSends.{sender-so, first-none, prepared-none}
use Rattle.beep_steps.proofs.HeardSends.{few-now}
use Rattle.beep_steps.proofs.SendsLemmas.{few-lives, item-sends, item-step, LivesStep, Follows, lines-on, fresh-on}

-- ---- tests

or-false : (a b : Bool) → (a || b) ≡ false → (a ≡ false) × (b ≡ false)
or-false true b e = absurd cc
or-false false b e = (refl, e)

or-there : (a b : Bool) → (a || b) ≡ true → a ≡ false → b ≡ true
or-there true b e f = absurd cc
or-there false b e f = e

pub there-at : (channels : List Live) (place : ℕ) (channel : Live) (number : ℕ) → slice_get channels place ≡ Some channel → (channel.held.number == number) ≡ true
    → is_some (live_at number channels) ≡ true
there-at [] place channel number at named = absurd (let g : None ≡ Some channel = at in cc)
there-at (c ∷ channels) zero channel number at named =
    ap (λ (b : Bool). is_some (if b then Some c else live_at number channels)) (ap (λ (x : Live). x.held.number == number) (same-some c channel (let g : Some c ≡ Some channel = at in g)) ∙ named)
  where
    same-some : (a b : Live) → Some a ≡ Some b → a ≡ b
    same-some a b e = cc
there-at (c ∷ channels) (suc place) channel number at named = of (c.held.number == number) (there-at channels place channel number at named)
  where
    of : (b : Bool) → is_some (live_at number channels) ≡ true → is_some (if b then Some c else live_at number channels) ≡ true
    of true there = refl
    of false there = there

some-there : (o : Option Live) → is_some o ≡ true → (c : Live) × (o ≡ Some c)
some-there None is = absurd (let g : false ≡ true = is in cc)
some-there (Some c) is = (c, refl)

-- the one life that has begun is live
pub only-life : (es : List Event) → is_live 1 es ≡ true → lives 1 es ≤ 1 → (if is_live 1 es then lives 1 es else 0) ≡ 1
only-life es alive few =
    ap (λ (b : Bool). if b then lives 1 es else 0) alive
    ∙ (let some = ltb-true 0 (lives 1 es) (left (nat_lt 0 (lives 1 es)) (not (has_ended 1 (lives 1 es) es)) alive) in omega (arith, some, few))
  where
    left : (a b : Bool) → (a && b) ≡ true → a ≡ true
    left true b e = refl
    left false b e = absurd cc

-- ---- a frame

module _ (plan : PlainPlan) (p : Progress) (old new : Held) (before after : List ℕ) (log : List Moment) (s : SendsOn plan p old (put_all before log)) where
  abbrev journal : List Item
  journal = s.on.journal

  pub few-before : lives 1 (events journal) ≤ 1
  few-before = few-now plan p old s.on.fed s.on.rest journal s.on.given s.on.taken s.sender s.on.stands s.sends

  module _ (head : Head) (m : SendsLawfully (terms_of old) s.on.fed s.on.rest journal s.on.given s.on.taken head old.peer new.peer before after)
      (turn : IsFirstOf can_send head.channel old.peer.lives) where
    abbrev now : List Item
    now = passed Side.Sent head m.payload ∷ began Side.Sent head ∷ journal

    pub begun-same : events (began Side.Sent head ∷ journal) ≡ events journal
    begun-same = quiet-events journal (began Side.Sent head) refl

    pub step : LivesStep (events journal) (events now)
    step = subst (λ (es : List Event). LivesStep es (events now)) begun-same (item-step (passed Side.Sent head m.payload) (began Side.Sent head ∷ journal))

    pub asked : requests_from [] (m.sent.given_now 0) ≡ requests_from [] (s.on.given 0)
    asked =
        let manages = s.on.stands.stands.holds.manages in
        first-none s.on.given m.sent.given_now old.peer.management.answers new.peer (prepared-none old.peer.management.answers manages.prepared manages.is.answers)
        manages.is.spoken_is.whole m.sent.gives

    pub few : lives 1 (events now) ≤ 1
    few =
        few-lives plan.raw_uri s.sender.texts (terms_of old) s.sender.role now m.sent.given_now m.sent.taken_now new.peer.lives m.sent.stands.holds.live p.asked
        (asked ∙ s.sends.asked) m.lawful

    follows : Follows (is_there 1 journal) (is_there 1 now) s.on.given m.sent.given_now
    follows = record { asked = asked; same = m.sent.given_is.same 1 refl; fresh = m.sent.given_is.fresh 1 }

    lines : is_there 1 now ≡ true → LinesGiven plan.lines p.next (m.sent.given_now 1)
    lines = lines-on plan p journal now s.on.given m.sent.given_now s.sends step follows few

    -- ---- on channel 1

    module _ (one : (head.channel == 1) ≡ true) where
      number : head.channel ≡ 1
      number = eqb-true head.channel 1 one

      above : (head.channel == 0) ≡ false
      above = ap (λ (n : ℕ). n == 0) number

      pub there : is_there 1 journal ≡ true
      there =
          s.on.stands.stands.holds.live.there 1
          ∙ there-at old.peer.lives turn.place turn.channel 1 turn.first.at (ap (λ (n : ℕ). n == 1) turn.named ∙ one)

      same-events : events now ≡ events journal
      same-events = quiet-events (began Side.Sent head ∷ journal) (passed Side.Sent head m.payload) (ap (λ (b : Bool). b && not head.more) above) ∙ begun-same

      there-now : is_there 1 now ≡ true
      there-now = ap (is_live 1) same-events ∙ there

      pub first-before : life_now 1 journal ≡ 1
      first-before = only-life (events journal) there few-before

      first-now : life_now 1 now ≡ 1
      first-now = only-life (events now) there-now few

      life-is : life 1 1 now ≡ passed Side.Sent head m.payload ∷ began Side.Sent head ∷ life 1 1 journal
      life-is = frame-life head m.payload journal true (ap (λ (b : Bool). b && life_now 1 journal == 1) one ∙ ap (λ (n : ℕ). n == 1) first-before)

      history-is : history 1 now ≡ passed Side.Sent head m.payload ∷ began Side.Sent head ∷ life 1 1 journal
      history-is = ap (λ (n : ℕ). life 1 n now) first-now ∙ life-is

      channel : (c : Live) × (live_at 1 new.peer.lives ≡ Some c)
      channel = some-there (live_at 1 new.peer.lives) (sym (m.sent.stands.holds.live.there 1) ∙ there-now)

      stands : Stands old.limits.window channel.0.held (history 1 now) (m.sent.given_now 1) (m.sent.taken_now 1)
      stands = m.sent.stands.holds.live.above 1 channel.0 refl channel.1

      pub keeps : KeepsExchangeRules (passed Side.Sent head m.payload ∷ began Side.Sent head ∷ life 1 1 journal)
      keeps = subst KeepsExchangeRules history-is stands.held.exchange.unbroken

      sent-so : m.sent.given_now 1 ≡ map mark_modulo_2_64 (marks Side.Sent (passed Side.Sent head m.payload ∷ began Side.Sent head ∷ life 1 1 journal)) ++ unsent_marks channel.0.held.queue
      sent-so = stands.all_given ∙ ap (λ (past : List Item). map mark_modulo_2_64 (marks Side.Sent past) ++ unsent_marks channel.0.held.queue) history-is

      some-one : (p.is_sent || (head.channel == 1 && is_nul head.kind)) ≡ false → SentSome (life 1 1 now)
      some-one is =
          let both = or-false p.is_sent (head.channel == 1 && is_nul head.kind) is in
          subst SentSome (sym life-is)
          (some-goes-on (life 1 1 journal) head m.payload plan.lines p.next (m.sent.given_now 1) (unsent_marks channel.0.held.queue) keeps above (lines there-now) sent-so (s.sends.some both.0)
          (ap (λ (b : Bool). b && is_nul head.kind) (sym one) ∙ both.1))

      whole-one : (b : Bool) → p.is_sent ≡ b → (p.is_sent || (head.channel == 1 && is_nul head.kind)) ≡ true → SentWhole plan.lines (life 1 1 now)
      whole-one true was is =
          subst (SentWhole plan.lines) (sym life-is)
          (whole-goes-on (life 1 1 journal) head m.payload plan.lines p.next (m.sent.given_now 1) (unsent_marks channel.0.held.queue) keeps above (lines there-now) sent-so (s.sends.whole was))
      whole-one false was is =
          subst (SentWhole plan.lines) (sym life-is)
          (nul-ends (life 1 1 journal) head m.payload plan.lines p.next (m.sent.given_now 1) (unsent_marks channel.0.held.queue) keeps above (lines there-now) sent-so (s.sends.some was)
          (ap (λ (b : Bool). b && is_nul head.kind) (sym one) ∙ or-there p.is_sent (head.channel == 1 && is_nul head.kind) is was))

    -- ---- elsewhere

    module _ (apart : (head.channel == 1) ≡ false) where
      life-same : life 1 1 now ≡ life 1 1 journal
      life-same = frame-life head m.payload journal false (ap (λ (b : Bool). b && life_now 1 journal == 1) apart)

      some-apart : (p.is_sent || (head.channel == 1 && is_nul head.kind)) ≡ false → SentSome (life 1 1 now)
      some-apart is = subst SentSome (sym life-same) (s.sends.some (or-false p.is_sent (head.channel == 1 && is_nul head.kind) is).0)

      whole-apart : (b : Bool) → p.is_sent ≡ b → (p.is_sent || (head.channel == 1 && is_nul head.kind)) ≡ true → SentWhole plan.lines (life 1 1 now)
      whole-apart true was is = subst (SentWhole plan.lines) (sym life-same) (s.sends.whole was)
      whole-apart false was is =
          absurd (let nul = or-there p.is_sent (head.channel == 1 && is_nul head.kind) is was in
          let none : (head.channel == 1 && is_nul head.kind) ≡ false = ap (λ (b : Bool). b && is_nul head.kind) apart in
          cc (nul, none))

    by-channel : (b : Bool) → (head.channel == 1) ≡ b
        → ((p.is_sent || (head.channel == 1 && is_nul head.kind)) ≡ false → SentSome (life 1 1 now))
        × ((p.is_sent || (head.channel == 1 && is_nul head.kind)) ≡ true → SentWhole plan.lines (life 1 1 now))
    by-channel true is = (some-one is, whole-one is p.is_sent refl)
    by-channel false is = (some-apart is, whole-apart is p.is_sent refl)

    pub frame-sends : Sends plan (went_by (Emit.Data head) p) now m.sent.given_now
    frame-sends = record {
      asked = asked ∙ s.sends.asked;
      lines = lines;
      fresh = fresh-on plan p journal now s.on.given m.sent.given_now s.sends step follows few;
      some = (by-channel (head.channel == 1) refl).0;
      whole = (by-channel (head.channel == 1) refl).1;
      closes = λ two. ap (λ (b : Bool). b || (head.channel == 1 && is_nul head.kind)) (s.sends.closes two);
    }

  -- ---- a SEQ

  pub seq-sends : (seq : Seq) → Sends plan p (told Side.Sent seq ∷ journal) s.on.given
  seq-sends seq =
      let same : events (told Side.Sent seq ∷ journal) ≡ events journal = quiet-events journal (told Side.Sent seq) refl in
      item-sends plan p (told Side.Sent seq) journal s.on.given s.on.given s.sends tt
      (record {
        asked = refl;
        same = λ was. refl;
        fresh = λ dead alive. absurd (let g : is_there 1 journal ≡ true = ap (is_live 1) (sym same) ∙ alive in cc (dead, g));
      })
      (subst (λ (es : List Event). lives 1 es ≤ 1) (sym same) few-before)

  -- ---- what an emit answers

  module _ (same : IsOfPeer old new) where
    speaks-sends : (result : Emit) → IsFramed result → TakesTurn result old.peer
        → SpeaksLawfully result (terms_of old) s.on.fed s.on.rest journal s.on.given s.on.taken old.peer new.peer before after → SendsOn plan (went_by result p) new (put_all after log)
    speaks-sends (Emit.Seq seq) is turn m =
        subst (SendsOn plan p new) (sym (ap (λ (x : List ℕ). put_all x log) m.0 ∙ put-append before (spelling (seq_frame seq)) log))
        (record {
          sender = sender-so plan old new same s.sender;
          on = on-so old new same s.on.fed s.on.rest (told Side.Sent seq ∷ journal) s.on.given s.on.taken (put_all (spelling (seq_frame seq)) (put_all before log)) m.1 (is, s.on.framed)
              (seq-written (terms_of old) s.on.rest journal (put_all before log) seq s.on.logged is m.1.lawful);
          sends = seq-sends seq;
        })
    speaks-sends (Emit.Data head) is turn m =
        let is_frame = lawful-frame (terms_of old) journal head m.payload is m.lawful in
        subst (SendsOn plan (went_by (Emit.Data head) p) new) (sym (ap (λ (x : List ℕ). put_all x log) m.spelled ∙ put-append before (spelling (framed head m.payload)) log))
        (record {
          sender = sender-so plan old new same s.sender;
          on = on-so old new same s.on.fed s.on.rest (passed Side.Sent head m.payload ∷ began Side.Sent head ∷ journal) m.sent.given_now m.sent.taken_now
              (put_all (spelling (framed head m.payload)) (put_all before log)) (record { stands = m.sent.stands; upright = m.upright; lawful = m.lawful })
              (is_frame, (is, s.on.framed)) (frame-written (terms_of old) s.on.rest journal (put_all before log) head m.payload s.on.logged is_frame m.lawful);
          sends = frame-sends head m turn.1;
        })
    speaks-sends Emit.Nothing is turn m =
        subst (λ (x : List ℕ). SendsOn plan p new (put_all x log)) (sym m.0)
        (record {
          sender = sender-so plan old new same s.sender;
          on = on-so old new same s.on.fed s.on.rest journal s.on.given s.on.taken (put_all before log) m.1 s.on.framed s.on.logged;
          sends = s.sends;
        })

    pub emits-sending : (result : Emit) (over : Bool) → is_over old.peer ≡ over
        → ((fed rest : List ℕ) (journal : List Item) (given taken : Marks) → is_over old.peer ≡ false → IsLawfulSession old fed rest journal given taken
        → SpeaksLawfully result (terms_of old) fed rest journal given taken old.peer new.peer before after)
        → ((fed rest : List ℕ) (journal : List Item) (given taken : Marks) → is_over old.peer ≡ false → IsLawfulSession old fed rest journal given taken → AreFrames journal
        → IsFramed result)
        → (is_over old.peer ≡ false → TakesTurn result old.peer)
        → (is_over old.peer ≡ true → (result ≡ Emit.Nothing) × (new ≡ old) × (after ≡ before)) → SendsOn plan (went_by result p) new (put_all after log)
    emits-sending result true e speaks frames turn rests =
        let r = rests e in
        subst (λ (one : Emit). SendsOn plan (went_by one p) new (put_all after log)) (sym r.0)
        (subst (λ (x : List ℕ). SendsOn plan p new (put_all x log)) (sym r.2) (subst (λ (x : Held). SendsOn plan p x (put_all before log)) (sym r.1) s))
    emits-sending result false e speaks frames turn rests =
        speaks-sends result (frames s.on.fed s.on.rest journal s.on.given s.on.taken e s.on.stands s.on.framed) (turn e) (speaks s.on.fed s.on.rest journal s.on.given s.on.taken e s.on.stands)
