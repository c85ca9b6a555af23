-- A message that is given leaves a listener one that keeps its script: what is asked first, and each refusal at its position.
use Rattle.std.proofs.Common.{◌≡◌, ℕ, ◌+◌, ◌==◌, Bool, true, false, if◌then◌else◌, List, [], ◌∷◌, ◌++◌, map, flat_map, refl, sym, ap, ◌∙◌, subst, arith, append-nil, append_assoc}
use Rattle.std.specs.Prelude.{is_some, Option, Result, Ok, OnOk}
use Rattle.std.proofs.lemmas.List.{map-append}
use Rattle.std.proofs.lemmas.List.Concat.{flat_map-append}
use Rattle.beep_session.specs.beep_frame.specs.declared.kind.Kind.{Kind}
use Rattle.beep_session.specs.beep_frame.specs.declared.tag.Tag.{Tag}
use Rattle.beep_session.specs.beep_frame.specs.Modulo.{modulo_2_64 as count_modulo}
use Rattle.beep_session.specs.beep_history.specs.Journal.{Item}
use Rattle.beep_session.specs.beep_history.specs.Marks.{Mark, octet, end, modulo_2_64, mark_modulo_2_64}
use Rattle.beep_session.specs.beep_history.specs.Messages.{Message}
use Rattle.beep_session.specs.beep_mgmt.specs.Form.{fault}
use Rattle.beep_session.specs.beep_mgmt.specs.Message.{message_text}
use Rattle.beep_session.specs.beep_journal.specs.Life.{is_there, life_now}
use Rattle.beep_session.specs.beep_journal.specs.Zero.{events}
use Rattle.beep_session.specs.beep_journal.specs.Log.{Moment}
use Rattle.beep_session.specs.beep_journal.proofs.MomentLemmas.{equal-number, same-number}
use Rattle.beep_session.specs.beep_decide.specs.Decide.{is_among, note_of}
use Rattle.beep_session.specs.beep_exchange.specs.Given.{ends_reply}
use Rattle.beep_session.specs.beep_outbox.specs.Queue.{message_marks as given_marks}
use Rattle.beep_session.specs.beep_channel.specs.Stands.{ends_of}
use Rattle.beep_session.specs.beep_standing.specs.Standing.{Marks, with_marks}
use Rattle.beep_session.specs.beep_standing.proofs.SendLemmas.{with-other}
use Rattle.beep_session.specs.beep_lives.specs.Lives.{live_at}
use Rattle.beep_session.specs.beep_giving.specs.Giving.{next_message}
use Rattle.beep_session.specs.beep_giving.specs.Looks.{answers_of}
use Rattle.beep_session.specs.Channels.{Gives}
use Rattle.beep_session.specs.Lawfully.{KeepsUpright}
use Rattle.beep_session.specs.Session.{Held}
use Rattle.beep_desk.specs.beep_talk.specs.declared.plan.Command.{Command}
use Rattle.beep_desk.specs.beep_talk.specs.Plan.{PlainPlan}
use Rattle.beep_desk.specs.beep_talk.specs.Talk.{has_peer_release, ready, refusal, reply_of}
use Rattle.beep_desk.specs.beep_script.specs.Script.{message_marks}
use Rattle.beep_replies.specs.Replies.{first_said, replies}
use Rattle.beep_replies.proofs.SaidLemmas.{next-reply}
use Rattle.beep_steps.specs.Speaking.{Notes, asked_now, modulo_marks, AreNoted, IsSaid, KeepsSpeaking, KeepsSaid, SpeaksNew, SpeaksOn, SpeaksSo}
use Rattle.beep_steps.proofs.CallLemmas.{on-so}
use Rattle.beep_steps.proofs.SpeakCalls.{peer-speaking, same-speaking}
use Rattle.beep_steps.proofs.SpeakLives.{no-answers, one-reply, said-ends}

-- ---- marks

modulo-octets : (tag : Tag) (os : List ℕ) (ms : List Mark) → map mark_modulo_2_64 (map (octet tag) os ++ ms) ≡ map (octet (modulo_2_64 tag)) os ++ map mark_modulo_2_64 ms
modulo-octets tag [] ms = refl
modulo-octets tag (o ∷ os) ms = ap (λ (rest : List Mark). octet (modulo_2_64 tag) o ∷ rest) (modulo-octets tag os ms)

-- one message, its position modulo 2^64
pub one-modulo : (m : Message) → modulo_marks (m ∷ []) ≡ given_marks (record { tag = modulo_2_64 m.tag; octets = m.content })
one-modulo m = ap (map mark_modulo_2_64) (append-nil (message_marks m)) ∙ modulo-octets m.tag m.content (end m.tag ∷ [])

modulo-append : (xs ys : List Message) → modulo_marks (xs ++ ys) ≡ modulo_marks xs ++ modulo_marks ys
modulo-append xs ys = ap (map mark_modulo_2_64) (flat_map-append message_marks xs ys) ∙ map-append mark_modulo_2_64 (flat_map message_marks xs) (flat_map message_marks ys)

-- ---- a refusal

abbrev refusal-as : ℕ → ℕ → Tag
refusal-as request ansno = record { kind = Kind.Err; request = request; ansno = ansno }

module _ (plan : PlainPlan) (listens : plan.command ≡ Command.Listen) where
  -- one more refusal
  pub refusal-said : (n c : ℕ) (journal : List Item) (given : List Mark) → IsSaid plan (first_said plan n c journal) given
      → IsSaid plan (first_said plan n c journal) (given ++ given_marks (next_message Kind.Err (message_text (fault 550 (note_of 550))) given))
  refusal-said n c journal given s = record {
    count = s.count + 1;
    given_is =
        ap (λ (k : ℕ). given ++ given_marks (record { tag = refusal-as (count_modulo k) 0; octets = message_text (fault 550 (note_of 550)) })) count-is
        ∙ ap (λ (ms : List Mark). ms ++ given_marks (record { tag = refusal-as (count_modulo s.count) 0; octets = message_text (fault 550 (note_of 550)) })) s.given_is
        ∙ ap (λ (ms : List Mark). modulo_marks (first ++ replies plan 0 s.count) ++ ms) (sym (one-modulo (refusal s.count)))
        ∙ sym (modulo-append (first ++ replies plan 0 s.count) (refusal s.count ∷ []))
        ∙ ap modulo_marks (append_assoc first (replies plan 0 s.count) (refusal s.count ∷ []) ∙ ap (λ (ms : List Message). first ++ ms) (sym next));
  }
    where
      first : List Message
      first = first_said plan n c journal

      count-is : ends_of ends_reply given ≡ s.count
      count-is = ap (ends_of ends_reply) s.given_is ∙ said-ends plan listens n c s.count journal

      next : replies plan 0 (s.count + 1) ≡ replies plan 0 s.count ++ refusal s.count ∷ []
      next =
          next-reply plan 0 s.count
          ∙ ap (λ (k : ℕ). replies plan 0 s.count ++ reply_of plan.command plan.lines k) (let e : 0 + s.count ≡ s.count = omega arith in e)
          ∙ ap (λ (ms : List Message). replies plan 0 s.count ++ ms) (one-reply plan listens s.count)

-- ---- what is asked first

abbrev ready-octets : List ℕ
ready-octets = ready.content

pub ready-said : (plan : PlainPlan) → IsSaid plan (ready ∷ []) ([] ++ given_marks (next_message Kind.Msg ready.content []))
ready-said plan = record { count = 0; given_is = sym (one-modulo ready) }

pub none-said : (plan : PlainPlan) → IsSaid plan [] []
none-said plan = record { count = 0; given_is = refl }

-- ---- what is noted

pub with-own : (number : ℕ) (ones : List Mark) (marks : Marks) → with_marks number ones marks number ≡ ones
with-own number ones marks = ap (λ (b : Bool). if b then ones else marks number) (same-number number)

module _ (plan : PlainPlan) (notes : Notes) (number : ℕ) (journal : List Item) (given now : Marks) (others : (n : ℕ) → (number == n) ≡ false → now n ≡ given n)
    (s : SpeaksSo plan notes journal given) where
  said-as : (n : ℕ) → (number == n) ≡ false → IsSaid plan (first_said plan n (life_now n journal) journal) (given n) → IsSaid plan (first_said plan n (life_now n journal) journal) (now n)
  said-as n apart is = subst (IsSaid plan (first_said plan n (life_now n journal) journal)) (sym (others n apart)) is

  -- more was said in a life that is noted
  pub more-scripts : is_among number notes.spoken ≡ true → ((number == 0) ≡ false → is_there number journal ≡ true → IsSaid plan (first_said plan number (life_now number journal) journal) (given number)
      → IsSaid plan (first_said plan number (life_now number journal) journal) (now number)) → SpeaksSo plan notes journal now
  more-scripts noted more = record {
    said = λ n above there among. of n above there among (number == n) refl;
    silent = λ n above there none. still n above there none (number == n) refl;
    leaving = s.leaving;
    keeps = s.keeps;
  }
    where
      own : (n : ℕ) → number ≡ n → (n == 0) ≡ false → is_there n journal ≡ true → IsSaid plan (first_said plan n (life_now n journal) journal) (given n)
          → IsSaid plan (first_said plan n (life_now n journal) journal) (now n)
      own n is =
          subst (λ (m : ℕ). (m == 0) ≡ false → is_there m journal ≡ true → IsSaid plan (first_said plan m (life_now m journal) journal) (given m)
          → IsSaid plan (first_said plan m (life_now m journal) journal) (now m)) is more

      of : (n : ℕ) → (n == 0) ≡ false → is_there n journal ≡ true → is_among n notes.spoken ≡ true → (b : Bool) → (number == n) ≡ b → IsSaid plan (first_said plan n (life_now n journal) journal) (now n)
      of n above there among true e = own n (equal-number number n e) above there (s.said n above there among)
      of n above there among false e = said-as n e (s.said n above there among)

      still : (n : ℕ) → (n == 0) ≡ false → is_there n journal ≡ true → is_among n notes.spoken ≡ false → (b : Bool) → (number == n) ≡ b → now n ≡ []
      still n above there none true e = absurd (let g : true ≡ false = sym noted ∙ ap (λ (m : ℕ). is_among m notes.spoken) (equal-number number n e) ∙ none in cc)
      still n above there none false e = others n e ∙ s.silent n above there none

-- what is asked first was given in a life that has just begun
pub first-scripts : (plan : PlainPlan) (notes : Notes) (number : ℕ) (journal : List Item) (given now : Marks) → ((n : ℕ) → (number == n) ≡ false → now n ≡ given n) → AreNoted notes journal
    → ((n : ℕ) → (n == 0) ≡ false → is_there n journal ≡ true → (number == n) ≡ false → IsSaid plan (first_said plan n (life_now n journal) journal) (given n))
    → has_peer_release (events journal) ≡ notes.leaving → KeepsSaid plan journal → IsSaid plan (first_said plan number (life_now number journal) journal) (now number) → SpeaksSo plan notes journal now
first-scripts plan notes number journal given now same noted others leaving keeps first = record {
  said = λ n above there among. of n above there (number == n) refl;
  silent = λ n above there none. absurd (let g : true ≡ false = sym (noted.all n above there) ∙ none in cc);
  leaving = leaving;
  keeps = keeps;
}
  where
    of : (n : ℕ) → (n == 0) ≡ false → is_there n journal ≡ true → (b : Bool) → (number == n) ≡ b → IsSaid plan (first_said plan n (life_now n journal) journal) (now n)
    of n above there true e = subst (λ (m : ℕ). IsSaid plan (first_said plan m (life_now m journal) journal) (now m)) (equal-number number n e) first
    of n above there false e = subst (IsSaid plan (first_said plan n (life_now n journal) journal)) (sym (same n e)) (others n above there e)

-- ---- calls

module _ (plan : PlainPlan) (notes : Notes) (old new : Held) (number : ℕ) (octets : List ℕ) where
  -- a refusal in a life that is noted
  pub refuses-speaking : is_among number notes.spoken ≡ true → octets ≡ message_text (fault 550 (note_of 550)) → Gives number Kind.Err octets old new → KeepsUpright old new
      → KeepsSpeaking plan notes notes old new
  refuses-speaking noted text g upright log s =
      peer-speaking plan notes notes old new g.same (λ fed rest journal given taken is. (_, taken, (g.gives fed rest journal given taken is).stands)) upright
      (λ fed rest journal given taken is scripts noted_are.
      let ones = given number ++ given_marks (next_message Kind.Err octets (given number)) in (
        more-scripts plan notes number journal given (with_marks number ones given) (λ n apart. with-other number n ones given apart) scripts noted (λ above there is_said.
            subst (IsSaid plan (first_said plan number (life_now number journal) journal)) (sym (with-own number ones given))
            (subst (λ (os : List ℕ). IsSaid plan (first_said plan number (life_now number journal) journal) (given number ++ given_marks (next_message Kind.Err os (given number)))) (sym text)
            (refusal-said plan s.listens number (life_now number journal) journal (given number) is_said))),
        noted_are,
      )) log s

  -- what is asked first in a life that begins
  pub asks-speaking : octets ≡ ready.content → Gives number Kind.Msg octets old new → KeepsUpright old new → (log : List Moment) → SpeaksNew plan notes number old log
      → notes.leaving ≡ false → SpeaksOn plan notes new log
  asks-speaking text g upright log s going =
      let ones = s.on.given number ++ given_marks (next_message Kind.Msg octets (s.on.given number)) in
      let on = s.on in
      let m = g.gives on.fed on.rest on.journal on.given on.taken on.stands.stands in
      record {
        listens = s.listens;
        on = on-so old new g.same on.fed on.rest on.journal (with_marks number ones on.given) on.taken log
            (record { stands = m.stands; upright = upright on.fed on.rest on.journal on.given on.taken on.stands.stands on.stands.upright; lawful = on.stands.lawful }) on.framed on.logged;
        scripts = first-scripts plan notes number on.journal on.given (with_marks number ones on.given) (λ n apart. with-other number n ones on.given apart) s.noted s.others s.leaving s.keeps
            (subst (λ (f : List Message). IsSaid plan f (with_marks number ones on.given number)) (sym (s.born.first ∙ ap asked_now going))
            (subst (IsSaid plan (ready ∷ [])) (sym (with-own number ones on.given))
            (subst (λ (ms : List Mark). IsSaid plan (ready ∷ []) (ms ++ given_marks (next_message Kind.Msg octets ms))) (sym s.none)
            (subst (λ (os : List ℕ). IsSaid plan (ready ∷ []) ([] ++ given_marks (next_message Kind.Msg os []))) (sym text) (ready-said plan)))));
        noted = s.noted;
      }

-- nothing is asked in a life that begins once the peer asked to close the session
pub leaves-speaking : (plan : PlainPlan) (notes : Notes) (session : Held) (number : ℕ) (log : List Moment) → SpeaksNew plan notes number session log → notes.leaving ≡ true
    → SpeaksOn plan notes session log
leaves-speaking plan notes session number log s gone = record {
  listens = s.listens;
  on = s.on;
  scripts = first-scripts plan notes number s.on.journal s.on.given s.on.given (λ n apart. refl) s.noted s.others s.leaving s.keeps
      (subst (λ (f : List Message). IsSaid plan f (s.on.given number)) (sym (s.born.first ∙ ap asked_now gone))
      (subst (IsSaid plan []) (sym s.none) (none-said plan)));
  noted = s.noted;
}

-- ---- by what a call answers

module _ (plan : PlainPlan) (notes : Notes) (old mid new : Held) (same : mid ≡ old) (number : ℕ) where
  -- what is asked first was asked
  pub asked-speaking : (octets : List ℕ) → octets ≡ ready.content → Gives number Kind.Msg octets mid new → KeepsUpright mid new → (log : List Moment)
      → SpeaksNew plan notes number old log → notes.leaving ≡ false → SpeaksOn plan notes new log
  asked-speaking octets text g upright log s going =
      subst (λ (x : Held). SpeaksNew plan notes number x log → SpeaksOn plan notes new log) same
      (λ t. asks-speaking plan notes mid new number octets text g upright log t going) s

  -- a refusal was given by a call that gave its handle up
  pub gone-speaking : {A E : Type 0} (result : Result A E) (value : A) (octets : List ℕ) → result ≡ Ok value → OnOk result (Gives number Kind.Err octets mid new × KeepsUpright mid new)
      → is_among number notes.spoken ≡ true → octets ≡ message_text (fault 550 (note_of 550)) → KeepsSpeaking plan notes notes old new
  gone-speaking {A} {E} result value octets is g noted text =
      let h : Gives number Kind.Err octets mid new × KeepsUpright mid new = subst (λ (r : Result A E). OnOk r (Gives number Kind.Err octets mid new × KeepsUpright mid new)) is g in
      same-speaking plan notes notes old mid new same (refuses-speaking plan notes mid new number octets noted text h.0 h.1)

-- no request of a life that is noted has answers
pub begun-speaking : (plan : PlainPlan) (notes : Notes) (old new : Held) (number : ℕ) → (number == 0) ≡ false → is_some (answers_of (live_at number old.peer.lives)) ≡ true
    → is_among number notes.spoken ≡ true → KeepsSpeaking plan notes notes old new
begun-speaking plan notes old new number above begun noted log s =
    absurd (let there = s.noted.spoken number above noted in
    let none = no-answers plan s.listens old.limits.window s.on.journal s.on.given s.on.taken old.peer.lives s.on.stands.stands.holds.live number (life_now number s.on.journal) above
    (s.scripts.said number above there noted) in
    let g : true ≡ false = sym begun ∙ ap (λ (o : Option ℕ). is_some o) none in cc)
