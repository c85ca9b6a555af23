-- What each call of a session leaves of what a sender has said.
use Rattle.std.proofs.Common.{◌≡◌, ℕ, ◌+◌, ◌≤◌, ◌==◌, nat_lt, Bool, true, false, not, ◌&&◌, ◌||◌, if◌then◌else◌, List, [], ◌∷◌, ◌++◌, map, take, length, Option, None, Some, refl, sym, ap, ◌∙◌, subst, arith}
use Rattle.std.specs.Prelude.{is_some}
use Rattle.beep_session.specs.beep_frame.specs.declared.head.Head.{Head}
use Rattle.beep_session.specs.beep_frame.specs.declared.kind.Kind.{Kind}
use Rattle.beep_session.specs.beep_frame.specs.Frame.{is_msg, same_kind}
use Rattle.beep_session.specs.beep_history.specs.declared.journal.Side.{Side}
use Rattle.beep_session.specs.beep_history.specs.Journal.{Item, began, passed, told, other}
use Rattle.beep_session.specs.beep_history.specs.Marks.{Mark, position_of, marks, mark_modulo_2_64}
use Rattle.beep_session.specs.beep_history.specs.Broken.{KeepsExchangeRules}
use Rattle.beep_session.specs.beep_mgmt.specs.Form.{Form, greeting, start, chosen, close, okay, fault}
use Rattle.beep_session.specs.beep_mgmt.specs.Message.{message_said}
use Rattle.beep_session.specs.beep_journal.specs.declared.role.Role.{Role}
use Rattle.beep_session.specs.beep_journal.specs.Broken.{none_tunes}
use Rattle.beep_session.specs.beep_journal.specs.Laws.{rest_from}
use Rattle.beep_session.specs.beep_journal.specs.Lives.{Event, close_came, start_granted, close_granted, lives, has_ended, life_named, is_live}
use Rattle.beep_session.specs.beep_journal.specs.Zero.{channel_of, zero_history, zero_events, gathered, asked, said_to, completes_form, effect, coming, granting, events}
use Rattle.beep_session.specs.beep_journal.specs.Life.{is_there}
use Rattle.beep_session.specs.beep_lawful.specs.declared.terms.Terms.{Terms}
use Rattle.beep_session.specs.beep_lawful.specs.Lawful.{IsLawful}
use Rattle.beep_session.specs.beep_channel.specs.Held.{Live}
use Rattle.beep_session.specs.beep_channel.specs.Stands.{Stands}
use Rattle.beep_session.specs.beep_lives.specs.Lives.{live_at}
use Rattle.beep_session.specs.beep_outbox.specs.Queue.{marks_of as unsent_marks}
use Rattle.beep_session.specs.beep_standing.specs.Standing.{Marks, AreLiveBy}
use Rattle.beep_desk.specs.beep_talk.specs.Plan.{PlainPlan}
use Rattle.beep_desk.specs.beep_script.specs.Requested.{requests_from, sender_texts, SenderTexts}
use Rattle.beep_desk.specs.beep_script.specs.Sending.{LinesGiven, some_given, answers_of}
use Rattle.beep_desk.specs.beep_script.proofs.RequestedLemmas.{requests-append, requests-modulo, own_forms}
use Rattle.beep_desk.specs.beep_script.proofs.StartedLemmas.{StartsOnce, started-once}
use Rattle.beep_desk.specs.beep_script.proofs.OwnLemmas.{starts-once}
use Rattle.beep_desk.specs.beep_script.proofs.LineLemmas.{IsNoSent, life-some, life-whole}
use Rattle.beep_steps.specs.Sending.{Progress, Sends}

-- ---- what stands for a lawful journal of an initiator

some-there : (o : Option Live) → is_some o ≡ true → (c : Live) × (o ≡ Some c)
some-there None is = absurd (let g : false ≡ true = is in cc)
some-there (Some c) is = (c, refl)

module _ (uri : List ℕ) (said : SenderTexts uri) (terms : Terms) (role : terms.role ≡ Role.Initiator) (journal : List Item) (given taken : Marks) (channels : List Live)
    (live : AreLiveBy terms.window journal given taken channels) (count : ℕ) (asked : requests_from [] (given 0) ≡ take count (sender_texts uri)) where
  zero-there : (c : Live) × (live_at 0 channels ≡ Some c)
  zero-there = some-there (live_at 0 channels) (sym (live.there 0))

  zero-stands : Stands terms.window zero-there.0.held (zero_history journal) (given 0) (taken 0)
  zero-stands = live.zero zero-there.0 zero-there.1

  pub keeps-zero : KeepsExchangeRules (zero_history journal)
  keeps-zero = zero-stands.held.exchange.unbroken

  -- what was sent of the requests is their beginning
  abbrev pub sent_texts : List (List ℕ)
  sent_texts = requests_from [] (marks Side.Sent (zero_history journal))

  pub later : List (List ℕ)
  later = requests_from (rest_from [] (map mark_modulo_2_64 (marks Side.Sent (zero_history journal)))) (unsent_marks zero-there.0.held.queue)

  pub texts-are : sent_texts ++ later ≡ take count (sender_texts uri)
  unfolding later
  texts-are =
      ap (λ (ts : List (List ℕ)). ts ++ requests_from (rest_from [] (map mark_modulo_2_64 (marks Side.Sent (zero_history journal)))) (unsent_marks zero-there.0.held.queue))
      (sym (requests-modulo [] (marks Side.Sent (zero_history journal))))
      ∙ sym (requests-append [] (map mark_modulo_2_64 (marks Side.Sent (zero_history journal))) (unsent_marks zero-there.0.held.queue))
      ∙ sym (ap (requests_from []) zero-stands.all_given) ∙ asked

  starts : StartsOnce (own_forms (zero_history journal))
  starts = starts-once uri said sent_texts later count texts-are

  -- one life of channel 1 at most has begun
  pub few-lives : IsLawful terms none_tunes journal → lives 1 (events journal) ≤ 1
  few-lives lawful = (started-once terms journal role keeps-zero starts lawful).few

-- ---- lives, moment by moment

-- one moment or none
abbrev IsShort : List Event → Type 0
IsShort [] = Unit {0}
IsShort (e ∷ []) = Unit {0}
IsShort (e ∷ f ∷ es) = ⊥

coming-short : (by : Side) (p : ℕ) (form : Option Form) → IsShort (coming by p form)
coming-short by p None = tt
coming-short by p (Some (greeting features localize profiles)) = tt
coming-short by p (Some (start number server profiles)) = tt
coming-short by p (Some (chosen profile)) = tt
coming-short by p (Some (close number code note)) = tt
coming-short by p (Some okay) = tt
coming-short by p (Some (fault code note)) = tt

granting-short : (by : Side) (p : ℕ) (form : Option Form) → IsShort (granting by p form)
granting-short by p None = tt
granting-short by p (Some (greeting features localize profiles)) = tt
granting-short by p (Some (start number server profiles)) = of (nat_lt 0 number)
  where
    of : (b : Bool) → IsShort (if b then start_granted number ∷ [] else [])
    of true = tt
    of false = tt
granting-short by p (Some (chosen profile)) = tt
granting-short by p (Some (close number code note)) = tt
granting-short by p (Some okay) = tt
granting-short by p (Some (fault code note)) = tt

effect-short : (by : Side) (head : Head) (payload : List ℕ) (past : List Item) → IsShort (effect by head payload past)
effect-short by head payload past =
    more head.more (is_msg head.kind) (same_kind Kind.Rpy head.kind && completes_form by head payload past)
  where
    more : (m k g : Bool) → IsShort (if m then [] else (if k then coming by (length (asked by past)) (message_said (gathered by past ++ payload))
        else (if g then granting (other by) (position_of by past head) (said_to by head past) else [])))
    more true k g = tt
    more false true g = coming-short by (length (asked by past)) (message_said (gathered by past ++ payload))
    more false false true = granting-short (other by) (position_of by past head) (said_to by head past)
    more false false false = tt

-- what some moments make of the lives of channel 1: their count never falls, and where one begins it
-- is one more
pub record LivesStep (old new : List Event) : Type 0 where
  pub grows : lives 1 old ≤ lives 1 new
  pub begins : is_live 1 old ≡ false → is_live 1 new ≡ true → lives 1 new ≡ lives 1 old + 1

same-step : (old new : List Event) → new ≡ old → LivesStep old new
same-step old new same = record {
  grows = subst (λ (es : List Event). lives 1 old ≤ lives 1 es) (sym same) (omega arith);
  begins = λ dead alive. absurd (let g : is_live 1 old ≡ true = ap (is_live 1) (sym same) ∙ alive in cc (dead, g));
}

moment-step : (e : Event) (es : List Event) → LivesStep es (e ∷ es)
moment-step (close_came side position of) es = record {
  grows = omega arith;
  begins = λ dead alive. absurd (cc (dead, alive));
}
moment-step (close_granted side position of) es = record {
  grows = omega arith;
  begins = λ dead alive. absurd (still (nat_lt 0 (lives 1 es)) (of == 1 && life_named 1 side position es == lives 1 es) (has_ended 1 (lives 1 es) es) dead alive);
}
  where
    still : (a x h : Bool) → (a && not h) ≡ false → (a && not (x || h)) ≡ true → ⊥
    still true true h dead alive = absurd cc
    still true false h dead alive = cc (dead, alive)
    still false x h dead alive = absurd cc
moment-step (start_granted of) es = of-test (of == 1 && not (nat_lt 0 (lives 1 es) && not (has_ended 1 (lives 1 es) es))) refl
  where
    of-test : (b : Bool) → (of == 1 && not (nat_lt 0 (lives 1 es) && not (has_ended 1 (lives 1 es) es))) ≡ b → LivesStep es (start_granted of ∷ es)
    of-test true is =
        let one : lives 1 (start_granted of ∷ es) ≡ lives 1 es + 1 = ap (λ (b : Bool). if b then lives 1 es + 1 else lives 1 es) is in
        record { grows = omega (arith, one); begins = λ dead alive. one }
    of-test false is =
        let same : lives 1 (start_granted of ∷ es) ≡ lives 1 es = ap (λ (b : Bool). if b then lives 1 es + 1 else lives 1 es) is in
        let live_same : is_live 1 (start_granted of ∷ es) ≡ is_live 1 es = ap (λ (n : ℕ). nat_lt 0 n && not (has_ended 1 n es)) same in
        record { grows = omega (arith, same); begins = λ dead alive. absurd (let g : is_live 1 es ≡ true = sym live_same ∙ alive in cc (dead, g)) }

short-step : (moments es : List Event) → IsShort moments → LivesStep es (moments ++ es)
short-step [] es short = same-step es es refl
short-step (e ∷ []) es short = moment-step e es
short-step (e ∷ f ∷ moments) es short = absurd short

item-moments : (item : Item) (past : List Item) → LivesStep (zero_events past) (zero_events (item ∷ past))
item-moments (began by head) past = same-step (zero_events past) (zero_events past) refl
item-moments (told by seq) past = same-step (zero_events past) (zero_events past) refl
item-moments (passed by head payload) past = short-step (effect by head payload past) (zero_events past) (effect-short by head payload past)

pub item-step : (item : Item) (journal : List Item) → LivesStep (events journal) (events (item ∷ journal))
item-step item journal = of (channel_of item == 0)
  where
    of : (b : Bool) → LivesStep (events journal) (zero_events (if b then item ∷ zero_history journal else zero_history journal))
    of true = item-moments item (zero_history journal)
    of false = same-step (events journal) (events journal) refl

-- ---- what is known goes on

-- the requests that were given, and in a life that goes on what was given in it, stay; in one that
-- begins nothing was
pub record Follows (old_there new_there : Bool) (old new : Marks) : Type 0 where
  pub asked : requests_from [] (new 0) ≡ requests_from [] (old 0)
  pub same : old_there ≡ true → new 1 ≡ old 1
  pub fresh : old_there ≡ false → new_there ≡ true → new 1 ≡ []

module _ (plan : PlainPlan) (p : Progress) (old new : List Item) (given now : Marks) (s : Sends plan p old given) (step : LivesStep (events old) (events new))
    (follows : Follows (is_there 1 old) (is_there 1 new) given now) (few : lives 1 (events new) ≤ 1) where
  none-before : is_there 1 old ≡ false → is_there 1 new ≡ true → p.next ≡ 0
  none-before dead alive =
      let one : lives 1 (events new) ≡ lives 1 (events old) + 1 = step.begins dead alive in
      s.fresh (omega (arith, one, few))

  pub lines-on : is_there 1 new ≡ true → LinesGiven plan.lines p.next (now 1)
  lines-on alive = of (is_there 1 old) refl
    where
      of : (b : Bool) → is_there 1 old ≡ b → LinesGiven plan.lines p.next (now 1)
      of true was = subst (λ (ms : List Mark). LinesGiven plan.lines p.next ms) (sym (follows.same was)) (s.lines was)
      of false was =
          some_given (follows.fresh was alive
          ∙ sym (ap (λ (n : ℕ). answers_of (take n plan.lines)) (none-before was alive)))

  pub fresh-on : lives 1 (events new) ≡ 0 → p.next ≡ 0
  fresh-on none = s.fresh (let g = step.grows in omega (arith, g, none))

-- an item that isn't a frame that was sent
pub item-sends : (plan : PlainPlan) (p : Progress) (item : Item) (journal : List Item) (given now : Marks) → Sends plan p journal given → IsNoSent item
    → Follows (is_there 1 journal) (is_there 1 (item ∷ journal)) given now → lives 1 (events (item ∷ journal)) ≤ 1 → Sends plan p (item ∷ journal) now
item-sends plan p item journal given now s other follows few = record {
  asked = follows.asked ∙ s.asked;
  lines = lines-on plan p journal (item ∷ journal) given now s (item-step item journal) follows few;
  fresh = fresh-on plan p journal (item ∷ journal) given now s (item-step item journal) follows few;
  some = λ going. life-some item journal other (s.some going);
  whole = λ is. life-whole plan.lines item journal other (s.whole is);
  closes = s.closes;
}

-- what was given alone changes
pub given-sends : (plan : PlainPlan) (p : Progress) (journal : List Item) (given now : Marks) → Sends plan p journal given
    → requests_from [] (now 0) ≡ requests_from [] (given 0) → (is_there 1 journal ≡ true → now 1 ≡ given 1) → Sends plan p journal now
given-sends plan p journal given now s asked same = record {
  asked = asked ∙ s.asked;
  lines = λ alive. subst (λ (ms : List Mark). LinesGiven plan.lines p.next ms) (sym (same alive)) (s.lines alive);
  fresh = s.fresh;
  some = s.some;
  whole = s.whole;
  closes = s.closes;
}
