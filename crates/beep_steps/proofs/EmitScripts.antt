-- What goes out leaves of a sender's script above channel zero.
use Rattle.std.proofs.Common.{◌≡◌, ℕ, ◌≤◌, ◌==◌, nat_lt, ltb-true, eqb-true, Bool, true, false, not, ◌||◌, ◌&&◌, if◌then◌else◌, List, [], ◌∷◌, ◌++◌, map, Option, None, Some, refl, sym, ap, ◌∙◌, subst, arith}
use Rattle.std.specs.Prelude.{is_some}
use Rattle.std.proofs.lemmas.List.{append_assoc}
use Rattle.beep_session.specs.beep_frame.specs.declared.head.Head.{Head}
use Rattle.beep_session.specs.beep_frame.specs.declared.seq.Seq.{Seq}
use Rattle.beep_session.specs.beep_frame.specs.Frame.{framed, seq_frame}
use Rattle.beep_session.specs.beep_frame.specs.Spelling.{spelling}
use Rattle.beep_session.specs.beep_history.specs.declared.journal.Side.{Side}
use Rattle.beep_session.specs.beep_history.specs.Journal.{Item, began, passed, told}
use Rattle.beep_session.specs.beep_history.specs.Marks.{Mark, marks, mark_modulo_2_64}
use Rattle.beep_session.specs.beep_history.specs.Broken.{KeepsExchangeRules}
use Rattle.beep_session.specs.beep_journal.specs.Laws.{IsLiveLife}
use Rattle.beep_session.specs.beep_journal.specs.Lives.{Event, lives, is_live, has_ended}
use Rattle.beep_session.specs.beep_journal.specs.Zero.{zero_history, events}
use Rattle.beep_session.specs.beep_journal.specs.Life.{life, life_now, is_there, history}
use Rattle.beep_session.specs.beep_journal.specs.Log.{Moment, put_all}
use Rattle.beep_session.specs.beep_channel.specs.Held.{Live}
use Rattle.beep_session.specs.beep_channel.specs.Stands.{Stands}
use Rattle.beep_session.specs.beep_outbox.specs.Queue.{marks_of as unsent_marks}
use Rattle.beep_session.specs.beep_standing.specs.Standing.{Marks}
use Rattle.beep_session.specs.beep_lives.specs.Lives.{live_at, can_send, IsFirstOf}
use Rattle.beep_session.specs.beep_speaking.specs.declared.emit.Emit.{Emit}
use Rattle.beep_session.specs.beep_upright.specs.Frames.{AreFrames, IsFramed}
use Rattle.beep_session.specs.beep_peer.specs.Calls.{TakesTurn}
use Rattle.beep_session.specs.beep_peer.specs.Lawfully.{SpeaksLawfully, SendsLawfully}
use Rattle.beep_session.specs.beep_peer.specs.Peering.{is_over}
use Rattle.beep_session.specs.beep_peer.proofs.GainLemmas.{quiet-events}
use Rattle.beep_session.specs.Channels.{IsOfPeer}
use Rattle.beep_session.specs.Lawfully.{terms_of, IsLawfulSession}
use Rattle.beep_session.specs.Session.{Held}
use Rattle.beep_logged.proofs.EndLemmas.{put-append}
use Rattle.beep_logged.proofs.WriteLemmas.{frame-written, seq-written, lawful-frame}
use Rattle.beep_desk.specs.beep_talk.specs.Plan.{PlainPlan}
use Rattle.beep_desk.specs.beep_talk.specs.Talk.{has_profile}
use Rattle.beep_desk.specs.beep_script.specs.Script.{script_marks}
use Rattle.beep_replies.specs.Replies.{KeepsAt, KeepsAbove}
use Rattle.beep_replies.proofs.StayLemmas.{stays-at}
use Rattle.beep_replies.proofs.LogLemmas.{first-empty, kept-at}
use Rattle.beep_steps.specs.Sending.{Progress, SendsOn, went_by}
use Rattle.beep_steps.specs.Scripting.{Scripts, ScriptedOn}
use Rattle.beep_steps.proofs.CallLemmas.{on-so}
use Rattle.beep_steps.proofs.CallSends.{sender-so}
use Rattle.beep_steps.proofs.EmitSends.{there-at, only-life, few-before, few, step, asked, frame-sends, seq-sends}
use Rattle.beep_steps.proofs.ScriptLemmas.{Agrees, agrees, item-scripts, quiet-carries, given-on, none-on, began-with}

some-there : (o : Option Live) → is_some o ≡ true → (c : Live) × (o ≡ Some c)
some-there None is = absurd (let g : false ≡ true = is in cc)
some-there (Some c) is = (c, refl)

left : (a b : Bool) → (a && b) ≡ true → a ≡ true
left true b e = refl
left false b e = absurd cc

right : (a b : Bool) → (a && b) ≡ true → b ≡ true
right true b e = e
right false b e = absurd cc

-- where nothing was given nothing was sent
none-sent : (ms : List Mark) (rest : List Mark) → map mark_modulo_2_64 ms ++ rest ≡ [] → ms ≡ []
none-sent [] rest e = refl
none-sent (m ∷ ms) rest e = absurd (let g : mark_modulo_2_64 m ∷ (map mark_modulo_2_64 ms ++ rest) ≡ [] = e in cc)

-- the one life that has begun is live
first-live : (es : List Event) → is_live 1 es ≡ true → lives 1 es ≤ 1 → IsLiveLife 1 1 es
first-live es alive few =
    let some = ltb-true 0 (lives 1 es) (left (nat_lt 0 (lives 1 es)) (not (has_ended 1 (lives 1 es) es)) alive) in
    let one : lives 1 es ≡ 1 = omega (arith, some, few) in
    record {
      first = omega arith;
      begun = omega (arith, some);
      goes_on = subst (λ (n : ℕ). has_ended 1 n es ≡ false) one (not-true (has_ended 1 (lives 1 es) es) (right (nat_lt 0 (lives 1 es)) (not (has_ended 1 (lives 1 es) es)) alive));
    }
  where
    not-true : (b : Bool) → not b ≡ true → b ≡ false
    not-true true e = absurd cc
    not-true false e = refl

-- ---- a frame

module _ (plan : PlainPlan) (p : Progress) (old new : Held) (before after : List ℕ) (log : List Moment) (s : SendsOn plan p old (put_all before log))
    (x : Scripts plan p s.on.journal s.on.given) where
  abbrev journal : List Item
  journal = s.on.journal

  module _ (head : Head) (m : SendsLawfully (terms_of old) s.on.fed s.on.rest journal s.on.given s.on.taken head old.peer new.peer before after)
      (turn : IsFirstOf can_send head.channel old.peer.lives) where
    abbrev now : List Item
    now = passed Side.Sent head m.payload ∷ began Side.Sent head ∷ journal

    few-now : lives 1 (events now) ≤ 1
    few-now = few plan p old new before after log s head m turn

    -- ---- in the life of its channel

    module _ (n k : ℕ) (above : (n == 0) ≡ false) (is : (head.channel == n && life_now n journal == k) ≡ true) where
      number : head.channel ≡ n
      number = eqb-true head.channel n (left (head.channel == n) (life_now n journal == k) is)

      head-above : (head.channel == 0) ≡ false
      head-above = ap (λ (c : ℕ). c == 0) number ∙ above

      there : is_there n journal ≡ true
      there =
          s.on.stands.stands.holds.live.there n
          ∙ there-at old.peer.lives turn.place turn.channel n turn.first.at (ap (λ (c : ℕ). c == n) turn.named ∙ left (head.channel == n) (life_now n journal == k) is)

      same-events : events now ≡ events journal
      same-events =
          quiet-events (began Side.Sent head ∷ journal) (passed Side.Sent head m.payload) (ap (λ (b : Bool). b && not head.more) head-above)
          ∙ quiet-events journal (began Side.Sent head) refl

      there-now : is_there n now ≡ true
      there-now = ap (λ (es : List Event). n == 0 || is_live n es) same-events ∙ there

      life-is : life_now n now ≡ k
      life-is = ap (λ (es : List Event). if is_live n es then lives n es else 0) same-events ∙ eqb-true (life_now n journal) k (right (head.channel == n) (life_now n journal == k) is)

      history-is : history n now ≡ life n k now
      history-is =
          ap (λ (b : Bool). if b then zero_history now else life n (life_now n now) now) above ∙ ap (λ (c : ℕ). life n c now) life-is

      channel : (c : Live) × (live_at n new.peer.lives ≡ Some c)
      channel = some-there (live_at n new.peer.lives) (sym (m.sent.stands.holds.live.there n) ∙ there-now)

      stands : Stands old.limits.window channel.0.held (history n now) (m.sent.given_now n) (m.sent.taken_now n)
      stands = m.sent.stands.holds.live.above n channel.0 above channel.1

      keeps : KeepsExchangeRules (life n k now)
      keeps = subst KeepsExchangeRules history-is stands.held.exchange.unbroken

      sent-so : map mark_modulo_2_64 (marks Side.Sent (life n k now)) ++ unsent_marks channel.0.held.queue ≡ s.on.given n
      sent-so =
          ap (λ (past : List Item). map mark_modulo_2_64 (marks Side.Sent past) ++ unsent_marks channel.0.held.queue) (sym history-is)
          ∙ sym stands.all_given ∙ m.sent.given_is.same n above there

      -- on a channel on which nothing was given
      kept-other : (n == 1) ≡ false → KeepsAt plan n k now
      kept-other apart = record {
        rest = script_marks plan n k now;
        whole_is = ap (λ (ms : List Mark). ms ++ script_marks plan n k now)
            (sym (none-sent (marks Side.Sent (life n k now)) (unsent_marks channel.0.held.queue) (sent-so ∙ x.none n above apart there)));
      }

    -- on channel 1
    kept-one : (k : ℕ) → (head.channel == 1 && life_now 1 journal == k) ≡ true → KeepsAt plan 1 k now
    kept-one k is = subst (λ (c : ℕ). KeepsAt plan 1 c now) one-is here
      where
        alive : is_live 1 (events journal) ≡ true
        alive = there 1 k refl is

        first-now : life_now 1 journal ≡ 1
        first-now = only-life (events journal) alive (few-before plan p old new before after log s)

        one-is : 1 ≡ k
        one-is = sym first-now ∙ eqb-true (life_now 1 journal) k (right (head.channel == 1) (life_now 1 journal == k) is)

        is-one : (head.channel == 1 && life_now 1 journal == 1) ≡ true
        is-one = subst (λ (c : ℕ). (head.channel == 1 && life_now 1 journal == c) ≡ true) (sym one-is) is

        live : IsLiveLife 1 1 (events now)
        live = first-live (events now) (there-now 1 k refl is) few-now

        profile : has_profile plan.raw_uri 1 1 now ≡ true
        profile =
            began-with plan s.sender.texts (terms_of old) s.sender.role now m.sent.given_now m.sent.taken_now new.peer.lives m.sent.stands.holds.live p.asked
            (asked plan p old new before after log s head m turn ∙ s.sends.asked) m.lawful live.begun

        agree : Agrees plan (s.on.given 1)
        agree = agrees plan p.next (s.on.given 1) s.sender.command (x.lines alive)

        here : KeepsAt plan 1 1 now
        here =
            kept-at plan 1 1 now agree.many (unsent_marks (channel 1 1 refl is-one).0.held.queue ++ agree.rest) refl (keeps 1 1 refl is-one) live profile (first-empty plan 1 1 now s.sender.command)
            (sym (append_assoc (map mark_modulo_2_64 (marks Side.Sent (life 1 1 now))) (unsent_marks (channel 1 1 refl is-one).0.held.queue) agree.rest)
            ∙ ap (λ (ms : List Mark). ms ++ agree.rest) (sent-so 1 1 refl is-one) ∙ agree.same)

    -- ---- everywhere

    kept-all : KeepsAbove plan now
    kept-all n k above = of (head.channel == n && life_now n journal == k) refl
      where
        under : (c : Bool) → (head.channel == n) ≡ c → (c && (if c then life_now n journal else 0) == k) ≡ (c && life_now n journal == k)
        under true e = refl
        under false e = refl

        by-number : (b : Bool) → (n == 1) ≡ b → (head.channel == n && life_now n journal == k) ≡ true → KeepsAt plan n k now
        by-number true one is =
            let at : n ≡ 1 = eqb-true n 1 one in
            subst (λ (c : ℕ). KeepsAt plan c k now) (sym at) (kept-one k (subst (λ (c : ℕ). (head.channel == c && life_now c journal == k) ≡ true) at is))
        by-number false apart is = kept-other n k above is apart

        of : (b : Bool) → (head.channel == n && life_now n journal == k) ≡ b → KeepsAt plan n k now
        of true is = by-number (n == 1) refl is
        of false none =
            stays-at plan n k (passed Side.Sent head m.payload) (began Side.Sent head ∷ journal) above (under (head.channel == n) refl ∙ none)
            (stays-at plan n k (began Side.Sent head) journal above refl (x.kept n k above))

    frame-scripts : Scripts plan (went_by (Emit.Data head) p) now m.sent.given_now
    frame-scripts =
        let move = step plan p old new before after log s head m turn in
        record {
          kept = kept-all;
          lines = given-on plan p journal now s.on.given m.sent.given_now s.sends x move m.sent.given_is few-now;
          none = none-on plan p journal now s.on.given m.sent.given_now s.sends x move m.sent.given_is few-now;
        }

  -- ---- a SEQ

  seq-scripts : (seq : Seq) → Scripts plan p (told Side.Sent seq ∷ journal) s.on.given
  seq-scripts seq =
      let same : events (told Side.Sent seq ∷ journal) ≡ events journal = quiet-events journal (told Side.Sent seq) refl in
      item-scripts plan p (told Side.Sent seq) journal s.on.given s.on.given s.sends x tt (quiet-carries (told Side.Sent seq) journal s.on.given same)
      (subst (λ (es : List Event). lives 1 es ≤ 1) (sym same) (few-before plan p old new before after log s))

  -- ---- what an emit answers

  module _ (same : IsOfPeer old new) where
    speaks-scripts : (result : Emit) → IsFramed result → TakesTurn result old.peer
        → SpeaksLawfully result (terms_of old) s.on.fed s.on.rest journal s.on.given s.on.taken old.peer new.peer before after → ScriptedOn plan (went_by result p) new (put_all after log)
    speaks-scripts (Emit.Seq seq) is turn m =
        subst (ScriptedOn plan p new) (sym (ap (λ (y : List ℕ). put_all y log) m.0 ∙ put-append before (spelling (seq_frame seq)) log))
        (record {
          sends = record {
            sender = sender-so plan old new same s.sender;
            on = on-so old new same s.on.fed s.on.rest (told Side.Sent seq ∷ journal) s.on.given s.on.taken (put_all (spelling (seq_frame seq)) (put_all before log)) m.1 (is, s.on.framed)
                (seq-written (terms_of old) s.on.rest journal (put_all before log) seq s.on.logged is m.1.lawful);
            sends = seq-sends plan p old new before after log s seq;
          };
          scripts = seq-scripts seq;
        })
    speaks-scripts (Emit.Data head) is turn m =
        let is_frame = lawful-frame (terms_of old) journal head m.payload is m.lawful in
        subst (ScriptedOn plan (went_by (Emit.Data head) p) new) (sym (ap (λ (y : List ℕ). put_all y log) m.spelled ∙ put-append before (spelling (framed head m.payload)) log))
        (record {
          sends = record {
            sender = sender-so plan old new same s.sender;
            on = on-so old new same s.on.fed s.on.rest (passed Side.Sent head m.payload ∷ began Side.Sent head ∷ journal) m.sent.given_now m.sent.taken_now
                (put_all (spelling (framed head m.payload)) (put_all before log)) (record { stands = m.sent.stands; upright = m.upright; lawful = m.lawful })
                (is_frame, (is, s.on.framed)) (frame-written (terms_of old) s.on.rest journal (put_all before log) head m.payload s.on.logged is_frame m.lawful);
            sends = frame-sends plan p old new before after log s head m turn.1;
          };
          scripts = frame-scripts head m turn.1;
        })
    speaks-scripts Emit.Nothing is turn m =
        subst (λ (y : List ℕ). ScriptedOn plan p new (put_all y log)) (sym m.0)
        (record {
          sends = record {
            sender = sender-so plan old new same s.sender;
            on = on-so old new same s.on.fed s.on.rest journal s.on.given s.on.taken (put_all before log) m.1 s.on.framed s.on.logged;
            sends = s.sends;
          };
          scripts = x;
        })

pub emits-scripting : (plan : PlainPlan) (p : Progress) (old new : Held) (before after : List ℕ) (log : List Moment) (s : ScriptedOn plan p old (put_all before log)) → IsOfPeer old new
    → (result : Emit) (over : Bool) → is_over old.peer ≡ over
    → ((fed rest : List ℕ) (journal : List Item) (given taken : Marks) → is_over old.peer ≡ false → IsLawfulSession old fed rest journal given taken
    → SpeaksLawfully result (terms_of old) fed rest journal given taken old.peer new.peer before after)
    → ((fed rest : List ℕ) (journal : List Item) (given taken : Marks) → is_over old.peer ≡ false → IsLawfulSession old fed rest journal given taken → AreFrames journal
    → IsFramed result)
    → (is_over old.peer ≡ false → TakesTurn result old.peer)
    → (is_over old.peer ≡ true → (result ≡ Emit.Nothing) × (new ≡ old) × (after ≡ before)) → ScriptedOn plan (went_by result p) new (put_all after log)
emits-scripting plan p old new before after log s same result true e speaks frames turn rests =
    let r = rests e in
    subst (λ (one : Emit). ScriptedOn plan (went_by one p) new (put_all after log)) (sym r.0)
    (subst (λ (y : List ℕ). ScriptedOn plan p new (put_all y log)) (sym r.2) (subst (λ (y : Held). ScriptedOn plan p y (put_all before log)) (sym r.1) s))
emits-scripting plan p old new before after log s same result false e speaks frames turn rests =
    let o = s.sends.on in
    speaks-scripts plan p old new before after log s.sends s.scripts same result (frames o.fed o.rest o.journal o.given o.taken e o.stands o.framed) (turn e) (speaks o.fed o.rest o.journal o.given o.taken e o.stands)
