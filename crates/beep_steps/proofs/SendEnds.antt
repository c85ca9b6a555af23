-- A frame ends a sender's lines, as its script says, where it is the first NUL that goes out on channel 1.
use Rattle.std.proofs.Common.{◌≡◌, ◌∙◌, refl, sym, ap, subst, ℕ, ◌-◌, ◌<◌, ◌==◌, Bool, true, false, not, ◌&&◌, if◌then◌else◌, List, ◌∷◌, length, Option, arith}
use Rattle.std.specs.Prelude.{nat_lt}
use Rattle.std.specs.Option.{option_map_or}
use Rattle.std.proofs.lemmas.Bool.Decides.{nat_tests}
use Rattle.beep_session.specs.beep_frame.specs.declared.head.Head.{Head}
use Rattle.beep_session.specs.beep_frame.specs.declared.kind.Kind.{Kind}
use Rattle.beep_session.specs.beep_frame.specs.Frame.{is_msg, is_nul, is_reply}
use Rattle.beep_session.specs.beep_history.specs.declared.journal.Side.{Side}
use Rattle.beep_session.specs.beep_history.specs.Journal.{Item, began, passed}
use Rattle.beep_session.specs.beep_history.specs.Marks.{Request, is_answered, latest, position_of, requests}
use Rattle.beep_session.specs.beep_history.proofs.SoundLemmas.{IsDue, Sound}
use Rattle.beep_session.specs.beep_history.proofs.PassedLemmas.{sound}
use Rattle.beep_session.specs.beep_journal.specs.Life.{life, life_now, life_under_way}
use Rattle.beep_session.specs.beep_journal.specs.Lives.{has_ended, lives}
use Rattle.beep_session.specs.beep_journal.specs.Log.{Moment, put_all}
use Rattle.beep_session.specs.beep_journal.specs.Zero.{events}
use Rattle.beep_session.specs.beep_lives.specs.Lives.{can_send}
use Rattle.beep_session.specs.beep_standing.specs.Standing.{Marks}
use Rattle.beep_session.specs.beep_speaking.specs.declared.emit.Emit.{Emit}
use Rattle.beep_session.specs.beep_peer.specs.Lawfully.{SendsLawfully, SpeaksLawfully}
use Rattle.beep_session.specs.beep_peer.specs.Peering.{is_over}
use Rattle.beep_session.specs.Lawfully.{terms_of, IsLawfulSession}
use Rattle.beep_session.specs.Session.{Held}
use Rattle.beep_desk.specs.beep_talk.specs.Plan.{PlainPlan}
use Rattle.beep_desk.specs.beep_talk.specs.Talk.{has_profile}
use Rattle.beep_desk.specs.beep_script.specs.Desk.{ends_lines}
use Rattle.beep_steps.specs.Desking.{EndsLinesSo}
use Rattle.beep_steps.specs.Scripting.{ScriptedOn}
use Rattle.beep_steps.specs.Sending.{Progress, SendsOn}
use Rattle.beep_steps.proofs.EmitSends.{first-before, keeps, there}
use Rattle.beep_steps.proofs.ScriptLemmas.{began-with}
use Rattle.beep_session.specs.beep_history.specs.Broken.{KeepsExchangeRules}
use Rattle.beep_session.specs.beep_lives.specs.Lives.{can_send, IsFirstOf}
use Rattle.beep_session.specs.beep_peer.specs.Calls.{TakesTurn}

-- ---- tests

-- all of six hold where the fifth does
six : (n m c l q r : Bool) → n ≡ true → m ≡ true → c ≡ true → l ≡ true → r ≡ true → (n && m && c && l && q && r) ≡ q
six true true true true true true e f g h i = refl
six true true true true false true e f g h i = refl
six false m c l q r e f g h i = absurd cc
six true false c l q r e f g h i = absurd cc
six true true false l q r e f g h i = absurd cc
six true true true false q r e f g h i = absurd cc
six true true true true true false e f g h i = absurd cc
six true true true true false false e f g h i = absurd cc

no-nul : (m c l q r s : Bool) → (false && m && c && l && q && r) ≡ (not s && (c && false))
no-nul m true l q r true = refl
no-nul m true l q r false = refl
no-nul m false l q r true = refl
no-nul m false l q r false = refl

no-channel : (n m l q r s : Bool) → (n && m && false && l && q && r) ≡ (not s && (false && n))
no-channel true true l q r true = refl
no-channel true true l q r false = refl
no-channel true false l q r true = refl
no-channel true false l q r false = refl
no-channel false m l q r true = refl
no-channel false m l q r false = refl

nul-reply : (kind : Kind) → is_nul kind ≡ true → (is_reply kind ≡ true) × (is_msg kind ≡ false)
nul-reply Kind.Msg e = absurd cc
nul-reply Kind.Rpy e = absurd cc
nul-reply Kind.Err e = absurd cc
nul-reply Kind.Ans e = absurd cc
nul-reply Kind.Nul e = (refl, refl)

first-where : (n : ℕ) (b : Bool) → nat_lt 0 n ≡ b → (n == 0) ≡ not b
first-where n true e = grind (arith, nat_tests, e)
first-where n false e = grind (arith, nat_tests, e)

-- ---- a frame that goes out

module _ (plan : PlainPlan) (p : Progress) (old new : Held) (before after : List ℕ) (log : List Moment) (x : ScriptedOn plan p old (put_all before log)) (head : Head)
    (m : SendsLawfully (terms_of old) x.sends.on.fed x.sends.on.rest x.sends.on.journal x.sends.on.given x.sends.on.taken head old.peer new.peer before after)
    (turn : IsFirstOf can_send head.channel old.peer.lives) where
  abbrev s : SendsOn plan p old (put_all before log)
  s = x.sends

  abbrev journal : List Item
  journal = s.on.journal

  abbrev begun : List Item
  begun = began Side.Sent head ∷ journal

  module _ (one : (head.channel == 1) ≡ true) (nul : is_nul head.kind ≡ true) where
    past : List Item
    past = began Side.Sent head ∷ life 1 1 journal

    keeps-one : KeepsExchangeRules (passed Side.Sent head m.payload ∷ began Side.Sent head ∷ life 1 1 journal)
    keeps-one = keeps plan p old new before after log s head m turn one

    now-one : life_now 1 journal ≡ 1
    now-one = first-before plan p old new before after log s head m turn one

    sound-one : Sound Side.Received (began Side.Sent head ∷ life 1 1 journal)
    sound-one = sound Side.Received (began Side.Sent head ∷ life 1 1 journal) keeps-one.2

    due : IsDue Side.Received sound-one.oldest (began Side.Sent head ∷ life 1 1 journal) head
    due = sound-one.due head keeps-one.0 (nul-reply head.kind nul).0

    last : head.more ≡ false
    last = due.alone nul

    place : position_of Side.Sent (began Side.Sent head ∷ life 1 1 journal) head ≡ sound-one.oldest
    place =
        ap (λ (b : Bool). if b then length (requests Side.Sent (began Side.Sent head ∷ life 1 1 journal)) - 1
        else option_map_or (λ (r : Request). r.position) (latest Side.Received head.msgno (began Side.Sent head ∷ life 1 1 journal)) 0) (nul-reply head.kind nul).1
        ∙ ap (λ (o : Option Request). option_map_or (λ (r : Request). r.position) o 0) due.found ∙ due.at

    answered : is_answered Side.Received 0 (life 1 1 journal) ≡ p.is_sent
    answered = of p.is_sent refl
      where
        of : (b : Bool) → p.is_sent ≡ b → is_answered Side.Received 0 (life 1 1 journal) ≡ b
        of true e = (s.sends.whole e).answered
        of false e = (s.sends.some e).unanswered

    first-place : (position_of Side.Sent (began Side.Sent head ∷ life 1 1 journal) head == 0) ≡ not p.is_sent
    first-place = ap (λ (n : ℕ). n == 0) place ∙ first-where sound-one.oldest p.is_sent (sym (sound-one.answered 0) ∙ answered)

    under-one : life_under_way 1 Side.Sent begun ≡ 1
    under-one = ap (λ (b : Bool). if b then life_now 1 journal else 0) one ∙ now-one

    life-begun : life 1 1 begun ≡ began Side.Sent head ∷ life 1 1 journal
    life-begun =
        ap (λ (b : Bool). if b && life_now 1 journal == 1 then began Side.Sent head ∷ life 1 1 journal else life 1 1 journal) one
        ∙ ap (λ (n : ℕ). if true && n == 1 then began Side.Sent head ∷ life 1 1 journal else life 1 1 journal) now-one

    profile : has_profile plan.raw_uri 1 1 begun ≡ true
    profile =
        began-with plan s.sender.texts (terms_of old) s.sender.role journal s.on.given s.on.taken old.peer.lives s.on.stands.stands.holds.live p.asked s.sends.asked s.on.stands.lawful
        (some (lives 1 (events journal)) (left (nat_lt 0 (lives 1 (events journal))) (not (has_ended 1 (lives 1 (events journal)) (events journal)))
        (there plan p old new before after log s head m turn one)))
      where
        left : (a b : Bool) → (a && b) ≡ true → a ≡ true
        left true b e = refl
        left false b e = absurd cc

        some : (n : ℕ) → nat_lt 0 n ≡ true → 0 < n
        some n e = grind (arith, nat_tests, e)

    first-nul : (payload : List ℕ) → ends_lines plan (passed Side.Sent head payload) begun ≡ not p.is_sent
    first-nul payload =
        six (is_nul head.kind) (not head.more) (head.channel == 1) (life_under_way 1 Side.Sent begun == 1) (position_of Side.Sent (life 1 1 begun) head == 0)
        (has_profile plan.raw_uri 1 1 begun) nul (ap not last) one (ap (λ (n : ℕ). n == 1) under-one) profile
        ∙ ap (λ (past : List Item). position_of Side.Sent past head == 0) life-begun ∙ first-place

  pub ends-so : (payload : List ℕ) → ends_lines plan (passed Side.Sent head payload) (began Side.Sent head ∷ journal) ≡ (not p.is_sent && (head.channel == 1 && is_nul head.kind))
  ends-so payload = of (head.channel == 1) (is_nul head.kind) refl refl
    where
      more : Bool
      more = not head.more

      under : Bool
      under = life_under_way 1 Side.Sent (began Side.Sent head ∷ journal) == 1

      at : Bool
      at = position_of Side.Sent (life 1 1 (began Side.Sent head ∷ journal)) head == 0

      with_profile : Bool
      with_profile = has_profile plan.raw_uri 1 1 (began Side.Sent head ∷ journal)

      of : (c n : Bool) → (head.channel == 1) ≡ c → is_nul head.kind ≡ n
          → ends_lines plan (passed Side.Sent head payload) (began Side.Sent head ∷ journal) ≡ (not p.is_sent && (head.channel == 1 && is_nul head.kind))
      of true true one nul =
          first-nul one nul payload ∙ sym (ap (λ (b : Bool). not p.is_sent && (b && is_nul head.kind)) one ∙ ap (λ (b : Bool). not p.is_sent && (true && b)) nul ∙ both (not p.is_sent))
        where
          both : (b : Bool) → (b && (true && true)) ≡ b
          both true = refl
          both false = refl
      of false n one nul =
          ap (λ (b : Bool). is_nul head.kind && not head.more && b && life_under_way 1 Side.Sent (began Side.Sent head ∷ journal) == 1
          && position_of Side.Sent (life 1 1 (began Side.Sent head ∷ journal)) head == 0 && has_profile plan.raw_uri 1 1 (began Side.Sent head ∷ journal)) one
          ∙ no-channel (is_nul head.kind) (not head.more) (life_under_way 1 Side.Sent (began Side.Sent head ∷ journal) == 1)
          (position_of Side.Sent (life 1 1 (began Side.Sent head ∷ journal)) head == 0) (has_profile plan.raw_uri 1 1 (began Side.Sent head ∷ journal)) p.is_sent
          ∙ sym (ap (λ (b : Bool). not p.is_sent && (b && is_nul head.kind)) one)
      of true false one nul =
          ap (λ (b : Bool). b && not head.more && head.channel == 1 && life_under_way 1 Side.Sent (began Side.Sent head ∷ journal) == 1
          && position_of Side.Sent (life 1 1 (began Side.Sent head ∷ journal)) head == 0 && has_profile plan.raw_uri 1 1 (began Side.Sent head ∷ journal)) nul
          ∙ no-nul (not head.more) (head.channel == 1) (life_under_way 1 Side.Sent (began Side.Sent head ∷ journal) == 1)
          (position_of Side.Sent (life 1 1 (began Side.Sent head ∷ journal)) head == 0) (has_profile plan.raw_uri 1 1 (began Side.Sent head ∷ journal)) p.is_sent
          ∙ sym (ap (λ (b : Bool). not p.is_sent && (head.channel == 1 && b)) nul)

-- ---- what an emit answers

pub emits-ends : (plan : PlainPlan) (p : Progress) (old new : Held) (before after : List ℕ) (log : List Moment) (x : ScriptedOn plan p old (put_all before log)) (result : Emit) (over : Bool)
    → is_over old.peer ≡ over
    → ((fed rest : List ℕ) (journal : List Item) (given taken : Marks) → is_over old.peer ≡ false → IsLawfulSession old fed rest journal given taken
    → SpeaksLawfully result (terms_of old) fed rest journal given taken old.peer new.peer before after)
    → (is_over old.peer ≡ false → TakesTurn result old.peer)
    → (is_over old.peer ≡ true → result ≡ Emit.Nothing) → EndsLinesSo plan p result x.sends.on.journal
emits-ends plan p old new before after log x result true e speaks turn rests = subst (λ (y : Emit). EndsLinesSo plan p y x.sends.on.journal) (sym (rests e)) tt
emits-ends plan p old new before after log x result false e speaks turn rests =
    let o = x.sends.on in
    of result (speaks o.fed o.rest o.journal o.given o.taken e o.stands) (turn e)
  where
    of : (y : Emit) → SpeaksLawfully y (terms_of old) x.sends.on.fed x.sends.on.rest x.sends.on.journal x.sends.on.given x.sends.on.taken old.peer new.peer before after → TakesTurn y old.peer
        → EndsLinesSo plan p y x.sends.on.journal
    of (Emit.Seq seq) m t = tt
    of (Emit.Data head) m t = λ payload. ends-so plan p old new before after log x head m t.1 payload
    of Emit.Nothing m t = tt
