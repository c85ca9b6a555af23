-- A sender that was released, and refused nowhere, had its close of channel 1 granted.
use Rattle.std.proofs.Common.{◌≡◌, ℕ, zero, suc, ◌<◌, ◌≤◌, ◌==◌, nat_lt, Bool, true, false, not, ◌&&◌, if◌then◌else◌, List, [], ◌∷◌, ◌++◌, map, take, drop, length, Option, None, Some, is_some, refl, sym, ap, ◌∙◌, subst, arith, ⊎_elim}
use Rattle.std.specs.List.{list_any}
use Rattle.std.specs.Option.{is_none}
use Rattle.std.proofs.lemmas.Bool.{eqb-true}
use Rattle.std.proofs.lemmas.List.{append_assoc}
use Rattle.beep_script.specs.beep_chars.proofs.BoolLemmas.{left_of, right_of}
use Rattle.beep_script.specs.beep_frame.specs.declared.head.Head.{Head}
use Rattle.beep_script.specs.beep_frame.specs.declared.kind.Kind.{Kind}
use Rattle.beep_script.specs.beep_frame.specs.Frame.{is_msg, same_kind}
use Rattle.beep_script.specs.beep_history.specs.declared.journal.Side.{Side}
use Rattle.beep_script.specs.beep_history.specs.Journal.{Item, began, passed, told}
use Rattle.beep_script.specs.beep_history.specs.Marks.{requests, waiting, is_answered, position_of, marks}
use Rattle.beep_script.specs.beep_history.specs.Broken.{KeepsExchangeRules}
use Rattle.beep_script.specs.beep_history.proofs.SoundLemmas.{requests-numbered}
use Rattle.beep_script.specs.beep_mgmt.specs.Form.{Form, greeting, start, chosen, close, okay, fault}
use Rattle.beep_script.specs.beep_mgmt.specs.Message.{message_said}
use Rattle.beep_script.specs.beep_journal.specs.Broken.{none_tunes}
use Rattle.beep_script.specs.beep_journal.specs.Laws.{IsUnbroken}
use Rattle.beep_script.specs.beep_journal.specs.Lives.{lives}
use Rattle.beep_script.specs.beep_journal.specs.Life.{is_released}
use Rattle.beep_script.specs.beep_journal.specs.Zero.{channel_of, zero_history, gathered, asked, said_at, said_to, has_form, completes_form, events}
use Rattle.beep_script.specs.beep_journal.proofs.MomentLemmas.{equal-number}
use Rattle.beep_script.specs.beep_decide.specs.Asks.{is_close_of}
use Rattle.beep_script.specs.beep_lawful.specs.declared.breach.Breach.{Breach}
use Rattle.beep_script.specs.beep_lawful.specs.declared.terms.Terms.{Terms}
use Rattle.beep_script.specs.beep_lawful.specs.Closing.{has_begun, none_waits_before, was_idle_since}
use Rattle.beep_script.specs.beep_lawful.specs.Lawful.{first_breach, breaks_apart, breaks_content, breaks_ok_too_soon, breaks_close_unanswered, content_tests, request_said, granted_said, granted_position, unlawful_frame, unlawful_item, is_lawful}
use Rattle.beep_script.specs.beep_talk.specs.declared.plan.Command.{Command}
use Rattle.beep_script.specs.Desk.{grants_own}
use Rattle.beep_script.specs.Refused.{refusal}
use Rattle.beep_script.specs.EachEnd.{WasGranted}
use Rattle.beep_script.specs.Requested.{requests_from, sender_texts, SenderTexts}
use Rattle.beep_script.proofs.RequestedLemmas.{nth, asked-so}
use Rattle.beep_released.proofs.ReleaseLemmas.{Passing, passing-later, ReleasedAt, released-moment}
use Rattle.beep_released.proofs.MomentLemmas.{refused-none, unbroken-at, lawful-at, keeps-at, none-said, ReadyAt, ok-ready, begun-at, said-before, any-numbered, waits-as-release}
use Rattle.beep_released.proofs.GrantLemmas.{replied-at, reply-grants, granted-in}
use Rattle.beep_released.proofs.TextsLemmas.{AreTexts, texts-at, third-alone, asked-begun}

-- ---- the own close of 0

-- it passed at some moment
record OwnAt (p : ℕ) (journal : List Item) : Type 0 where
  moment : Passing Side.Sent journal
  msg : is_msg moment.head.kind ≡ true
  place : (length (asked Side.Sent (zero_history moment.earlier)) == p) ≡ true
  says : is_close_of 0 (message_said (gathered Side.Sent (zero_history moment.earlier) ++ moment.payload)) ≡ true

own-later : (p : ℕ) (item : Item) (journal : List Item) → OwnAt p journal → OwnAt p (item ∷ journal)
own-later p item journal o = record { moment = passing-later Side.Sent item journal o.moment; msg = o.msg; place = o.place; says = o.says }

own-item : (item : Item) (journal : List Item) (p : ℕ) → (channel_of item == 0) ≡ true
    → (is_close_of 0 (said_at p (asked Side.Sent (zero_history journal))) ≡ true → OwnAt p journal)
    → is_close_of 0 (said_at p (asked Side.Sent (item ∷ zero_history journal))) ≡ true → OwnAt p (item ∷ journal)
own-item (began by head) journal p at_zero before is = own-later p (began by head) journal (before is)
own-item (told by seq) journal p at_zero before is = own-later p (told by seq) journal (before is)
own-item (passed Side.Received head payload) journal p at_zero before is = own-later p (passed Side.Received head payload) journal (before is)
own-item (passed Side.Sent head payload) journal p at_zero before is = by (is_msg head.kind && not head.more) refl is
  where
    past : List Item
    past = zero_history journal

    either : (b : Bool) → (length (asked Side.Sent past) == p) ≡ b → is_msg head.kind ≡ true → not head.more ≡ true
        → is_close_of 0 (if b then message_said (gathered Side.Sent past ++ payload) else said_at p (asked Side.Sent past)) ≡ true
        → OwnAt p (passed Side.Sent head payload ∷ journal)
    either true at msg last said = record {
      moment = record { later = []; head = head; payload = payload; earlier = journal; is = refl; zero = at_zero; last = last };
      msg = msg;
      place = at;
      says = said;
    }
    either false at msg last said = own-later p (passed Side.Sent head payload) journal (before said)

    by : (b : Bool) → (is_msg head.kind && not head.more) ≡ b
        → is_close_of 0 (said_at p (if b then message_said (gathered Side.Sent past ++ payload) ∷ asked Side.Sent past else asked Side.Sent past)) ≡ true
        → OwnAt p (passed Side.Sent head payload ∷ journal)
    by true ends said =
        either (length (asked Side.Sent past) == p) refl (left_of (is_msg head.kind) (not head.more) ends) (right_of (is_msg head.kind) (not head.more) ends) said
    by false ends said = own-later p (passed Side.Sent head payload) journal (before said)

own-at : (journal : List Item) (p : ℕ) → is_close_of 0 (said_at p (asked Side.Sent (zero_history journal))) ≡ true → OwnAt p journal
own-at [] p is = absurd (none-said p 0 is)
own-at (item ∷ journal) p is = by (channel_of item == 0) refl is (own-at journal p)
  where
    by : (b : Bool) → (channel_of item == 0) ≡ b → is_close_of 0 (said_at p (asked Side.Sent (if b then item ∷ zero_history journal else zero_history journal))) ≡ true
        → (is_close_of 0 (said_at p (asked Side.Sent (zero_history journal))) ≡ true → OwnAt p journal) → OwnAt p (item ∷ journal)
    by true at_zero said before = own-item item journal p at_zero before said
    by false at_zero said before = own-later p item journal (before said)

-- ---- it goes only where no own request before it waits

four : (a b c d : Bool) (w x y z : Breach) (rest : List (Breach × Bool)) → is_none (first_breach ((w, a) ∷ (x, b) ∷ (y, c) ∷ (z, d) ∷ rest)) ≡ true → d ≡ false
four true b c d w x y z rest is = absurd cc
four false true c d w x y z rest is = absurd cc
four false false true d w x y z rest is = absurd cc
four false false false true w x y z rest is = absurd cc
four false false false false w x y z rest is = refl

close-answered : (terms : Terms) (journal : List Item) (head : Head) (payload : List ℕ) → is_none (unlawful_frame terms none_tunes journal head payload) ≡ true
    → breaks_close_unanswered journal (request_said journal head payload) ≡ false
unfolding unlawful_frame
close-answered terms journal head payload is =
    four (breaks_apart journal head payload) (breaks_content journal head payload) (breaks_ok_too_soon journal (granted_position journal head) (granted_said journal head))
    (breaks_close_unanswered journal (request_said journal head payload))
    Breach.Apart Breach.Rule Breach.OkTooSoon Breach.CloseUnanswered
    (drop 2 (content_tests terms none_tunes journal (request_said journal head payload) (granted_position journal head) (granted_said journal head))) is

said-asked : (journal : List Item) (head : Head) (payload : List ℕ) → (head.channel == 0) ≡ true → is_msg head.kind ≡ true → not head.more ≡ true
    → request_said journal head payload ≡ message_said (gathered Side.Sent (zero_history journal) ++ payload)
said-asked journal head payload at_zero msg last = rw (at_zero, msg, last) refl

not-false : (b : Bool) → not b ≡ false → b ≡ true
not-false true is = refl
not-false false is = absurd cc

record WasIdle (journal : List Item) : Type 0 where
  count : ℕ
  was : was_idle_since (length (asked Side.Sent (zero_history journal))) 0 count journal ≡ true

was-idle : (journal : List Item) (form : Option Form) → is_close_of 0 form ≡ true → breaks_close_unanswered journal form ≡ false → WasIdle journal
was-idle journal None says fine = absurd cc
was-idle journal (Some (greeting features localize profiles)) says fine = absurd cc
was-idle journal (Some (start number server profiles)) says fine = absurd cc
was-idle journal (Some (chosen profile)) says fine = absurd cc
was-idle journal (Some okay) says fine = absurd cc
was-idle journal (Some (fault code note)) says fine = absurd cc
was-idle journal (Some (close number code note)) is fine = record {
  count = lives number (events journal);
  was = subst (λ (n : ℕ). was_idle_since (length (asked Side.Sent (zero_history journal))) n (lives number (events journal)) journal ≡ true) (equal-number number 0 is)
      (not-false (was_idle_since (length (asked Side.Sent (zero_history journal))) number (lives number (events journal)) journal) fine);
}

idle-now : (journal : List Item) (position count : ℕ) → (position == 3) ≡ true → (length (asked Side.Sent (zero_history journal)) == 3) ≡ true
    → was_idle_since position 0 count journal ≡ true → none_waits_before position (zero_history journal) ≡ true
idle-now [] position count at whole was = absurd (let g : false ≡ true = whole in cc)
idle-now (item ∷ journal) position count at whole was =
    left_of (none_waits_before position (zero_history (item ∷ journal))) (if has_begun position (item ∷ journal) then was_idle_since position 0 count journal else true) was

none-waits : (past : List Item) (position : ℕ) → position ≡ 3 → 2 < length (requests Side.Sent past) → none_waits_before position past ≡ true → is_answered Side.Sent 2 past ≡ true
none-waits past position at begun none = by (is_answered Side.Sent 2 past) refl
  where
    now : not (list_any (λ request. nat_lt request.position 3) (waiting Side.Sent past)) ≡ true
    now = subst (λ (n : ℕ). none_waits_before n past ≡ true) at none

    odd : (b : Bool) → b ≡ true → not b ≡ true → ⊥
    odd true is not_so = absurd cc
    odd false is not_so = absurd cc

    by : (b : Bool) → is_answered Side.Sent 2 past ≡ b → is_answered Side.Sent 2 past ≡ true
    by true e = e
    by false e = absurd (odd (list_any (λ request. nat_lt request.position 3) (waiting Side.Sent past))
        (any-numbered (λ p. nat_lt p 3) (λ p. not (is_answered Side.Sent p past)) 2 (requests Side.Sent past) (requests-numbered Side.Sent past) begun refl (ap not e)) now)

-- ---- all of it

module _ (uri : List ℕ) (said : SenderTexts uri) (terms : Terms) (journal : List Item) (count : ℕ) (kept : KeepsExchangeRules (zero_history journal))
    (asks : AreTexts uri count (zero_history journal)) (whole : IsUnbroken none_tunes journal) (fine : is_lawful terms none_tunes journal ≡ true)
    (unrefused : refusal Command.Send journal ≡ None) where
  -- what holds of the whole journal holds at each moment
  record Held (now : List Item) : Type 0 where
    keeps : KeepsExchangeRules (zero_history now)
    texts : AreTexts uri count (zero_history now)
    unbroken : IsUnbroken none_tunes now
    lawful : is_lawful terms none_tunes now ≡ true
    none : refusal Command.Send now ≡ None

  held-now : Held journal
  held-now = record { keeps = kept; texts = asks; unbroken = whole; lawful = fine; none = unrefused }

  held-at : (all later now : List Item) → all ≡ later ++ now → Held all → Held now
  held-at all later now is h =
      let g = subst Held is h in
      record {
        keeps = keeps-at later now g.keeps;
        texts = texts-at uri count later now g.texts;
        unbroken = unbroken-at later now g.unbroken;
        lawful = lawful-at terms later now g.lawful;
        none = refused-none Command.Send later now g.none;
      }

  -- an answer at some moment
  answered-then : (later now : List Item) → journal ≡ later ++ now → Held now → is_answered Side.Sent 2 (zero_history now) ≡ true → WasGranted 2 journal
  answered-then later now is h answered =
      subst (WasGranted 2) (sym is) (granted-in later now (reply-grants now h.none h.unbroken (replied-at now answered)))

  -- this end asked a close of 0
  by-own : (later now : List Item) → journal ≡ later ++ now → Held now → (p : ℕ) → is_close_of 0 (said_at p (asked Side.Sent (zero_history now))) ≡ true → WasGranted 2 journal
  by-own later now is h p says =
      let three = third-alone uri count now p said h.keeps h.texts says in
      let own = own-at now p says in
      let m = own.moment in
      let item : Item = passed Side.Sent m.head m.payload in
      let passing = held-at now m.later (item ∷ m.earlier) m.is h in
      let before = held-at (item ∷ m.earlier) (item ∷ []) m.earlier refl passing in
      let place : length (asked Side.Sent (zero_history m.earlier)) ≡ 3 =
      eqb-true (length (asked Side.Sent (zero_history m.earlier))) p own.place ∙ eqb-true p 3 three in
      let test = close-answered terms m.earlier m.head m.payload
      (left_of (is_none (unlawful_item terms none_tunes m.earlier item)) (is_lawful terms none_tunes m.earlier) passing.lawful) in
      let idle = was-idle m.earlier (request_said m.earlier m.head m.payload)
      (ap (is_close_of 0) (said-asked m.earlier m.head m.payload m.zero own.msg m.last) ∙ own.says) test in
      let third : (length (asked Side.Sent (zero_history m.earlier)) == 3) ≡ true = ap (λ (n : ℕ). n == 3) place in
      let waits = idle-now m.earlier (length (asked Side.Sent (zero_history m.earlier))) idle.count third third idle.was in
      let begun = asked-begun (zero_history m.earlier) before.keeps in
      let answered = none-waits (zero_history m.earlier) (length (asked Side.Sent (zero_history m.earlier))) place (omega (arith, place, begun)) waits in
      answered-then (later ++ (m.later ++ item ∷ [])) m.earlier (joined m.later item m.earlier m.is) before answered
    where
      joined : (between : List Item) (item : Item) (earlier : List Item) → now ≡ between ++ item ∷ earlier → journal ≡ (later ++ (between ++ item ∷ [])) ++ earlier
      joined between item earlier at =
          is ∙ ap (λ (xs : List Item). later ++ xs) at ∙ sym (append_assoc later (between ++ item ∷ []) earlier ∙ ap (λ (xs : List Item). later ++ xs) (append_assoc between (item ∷ []) earlier))

  by-ours : ReleasedAt Side.Received journal → WasGranted 2 journal
  by-ours r =
      let m = r.moment in
      let item : Item = passed Side.Received m.head m.payload in
      let before = held-at (item ∷ m.earlier) (item ∷ []) m.earlier refl (held-at journal m.later (item ∷ m.earlier) m.is held-now) in
      by-own (m.later ++ item ∷ []) m.earlier (m.is ∙ sym (append_assoc m.later (item ∷ []) m.earlier)) before (position_of Side.Received (zero_history m.earlier) m.head) r.close

  -- the peer's close of 0 was granted: the own request at 2 was answered, since it says none
  by-answer : (later now : List Item) → journal ≡ later ++ now → Held now → (earlier : List Item) → KeepsExchangeRules (zero_history earlier) → AreTexts uri count (zero_history earlier)
      → {p : ℕ} → (ready : ReadyAt p (asked Side.Sent (zero_history earlier)) earlier) → ready.now ≡ now
      → has_begun 2 now ≡ true → (b : Bool) → is_answered Side.Sent 2 (zero_history now) ≡ b → WasGranted 2 journal
  by-answer later now is h earlier keeps_then texts_then ready same begun true answered = answered-then later now is h answered
  by-answer later now is h earlier keeps_then texts_then ready same begun false waits =
      absurd (odd (third-alone uri count earlier 2 said keeps_then texts_then
      (waits-as-release (asked Side.Sent (zero_history earlier)) (zero_history ready.now) ready.ready
      (subst (λ (j : List Item). has_begun 2 j ≡ true) (sym same) begun) (ap (λ (j : List Item). is_answered Side.Sent 2 (zero_history j)) same ∙ waits))))
    where
      odd : false ≡ true → ⊥
      odd e = absurd cc

  by-theirs : ReleasedAt Side.Sent journal → WasGranted 2 journal
  by-theirs r =
      let m = r.moment in
      let item : Item = passed Side.Sent m.head m.payload in
      let p = granted_position m.earlier m.head in
      let passing = held-at journal m.later (item ∷ m.earlier) m.is held-now in
      let before = held-at (item ∷ m.earlier) (item ∷ []) m.earlier refl passing in
      let ready = ok-ready terms m.earlier m.head m.payload passing.lawful m.zero r.rpy m.last r.close in
      let close_now = said-before ready.later ready.now p ready.come
      (subst (λ (j : List Item). is_close_of 0 (said_at p (asked Side.Received (zero_history j))) ≡ true) ready.is r.close) in
      let come = held-at m.earlier ready.later ready.now ready.is before in
      let begun = begun-at ready.now p come.none close_now in
      by-answer (m.later ++ item ∷ ready.later) ready.now
      (m.is ∙ ap (λ (xs : List Item). m.later ++ item ∷ xs) ready.is ∙ sym (append_assoc m.later (item ∷ ready.later) ready.now))
      come m.earlier before.keeps before.texts ready refl begun (is_answered Side.Sent 2 (zero_history ready.now)) refl

  pub granted : is_released journal ≡ true → WasGranted 2 journal
  granted released = ⊎_elim by-ours by-theirs (released-moment journal released)

pub close-granted : (uri : List ℕ) (terms : Terms) (journal : List Item) (rest : List (List ℕ)) (count : ℕ) → SenderTexts uri → KeepsExchangeRules (zero_history journal)
    → requests_from [] (marks Side.Sent (zero_history journal)) ++ rest ≡ take count (sender_texts uri) → IsUnbroken none_tunes journal
    → is_lawful terms none_tunes journal ≡ true → refusal Command.Send journal ≡ None → is_released journal ≡ true → WasGranted 2 journal
close-granted uri terms journal rest count said keeps are unbroken lawful none released =
    granted uri said terms journal count keeps (rest, are) unbroken lawful none released

-- ---- what was granted was asked

some-said : (kind : Kind) (p : ℕ) (request reply : Option Form) → same_kind Kind.Rpy kind ≡ true → p ≡ 2 → has_form kind p request reply ≡ true → is_some request ≡ true
some-said Kind.Msg p request reply rpy at form = absurd cc
some-said Kind.Err p request reply rpy at form = absurd cc
some-said Kind.Ans p request reply rpy at form = absurd cc
some-said Kind.Nul p request reply rpy at form = absurd cc
some-said Kind.Rpy p (Some request) reply rpy at form = refl
some-said Kind.Rpy p None None rpy at form = absurd cc
some-said Kind.Rpy p None (Some (start number server profiles)) rpy at form = absurd cc
some-said Kind.Rpy p None (Some (chosen profile)) rpy at form = absurd cc
some-said Kind.Rpy p None (Some (close number code note)) rpy at form = absurd cc
some-said Kind.Rpy p None (Some okay) rpy at form = absurd cc
some-said Kind.Rpy p None (Some (fault code note)) rpy at form = absurd cc
some-said Kind.Rpy p None (Some (greeting features localize profiles)) rpy at form =
    absurd (let g : false ≡ true = subst (λ (n : ℕ). (n == 0) ≡ true) at form in cc)

two-asked : (texts : List (List ℕ)) → is_some (nth 2 (None ∷ map message_said texts)) ≡ true → 2 ≤ length texts
two-asked [] is = absurd (let g : false ≡ true = is in cc)
two-asked (x ∷ []) is = absurd (let g : false ≡ true = is in cc)
two-asked (x ∷ y ∷ texts) is = omega arith

two-counted : (count : ℕ) (uri : List ℕ) (texts rest : List (List ℕ)) → texts ++ rest ≡ take count (sender_texts uri) → 2 ≤ length texts → 2 ≤ count
two-counted (suc (suc count)) uri texts rest are two = omega arith
two-counted count uri [] rest are two = absurd (omega (arith, two))
two-counted count uri (x ∷ []) rest are two = absurd (omega (arith, two))
two-counted zero uri (x ∷ y ∷ texts) rest are two = absurd (cc are)
two-counted (suc zero) uri (x ∷ y ∷ texts) rest are two = absurd (cc are)

grant-parts : (a b c d e : Bool) → (a && b && c && d && e) ≡ true → (b ≡ true) × (d ≡ true) × (e ≡ true)
grant-parts true true true true e is = (refl, refl, is)
grant-parts false b c d e is = absurd cc
grant-parts true false c d e is = absurd cc
grant-parts true true false d e is = absurd cc
grant-parts true true true false e is = absurd cc

granted-asked : (item : Item) (earlier : List Item) → KeepsExchangeRules (zero_history earlier) → grants_own 2 item earlier ≡ true → 2 ≤ length (requests_from [] (marks Side.Sent (zero_history earlier)))
granted-asked (began by head) earlier keeps is = absurd cc
granted-asked (told by seq) earlier keeps is = absurd cc
granted-asked (passed Side.Sent head payload) earlier keeps is = absurd cc
granted-asked (passed Side.Received head payload) earlier keeps is =
    let past = zero_history earlier in
    let p = position_of Side.Received past head in
    let parts = grant-parts (head.channel == 0) (same_kind Kind.Rpy head.kind) (not head.more) (p == 2) (completes_form Side.Received head payload past) is in
    let place = eqb-true p 2 parts.1 in
    let some = some-said head.kind p (said_to Side.Received head past) (message_said (gathered Side.Received past ++ payload)) parts.0 place parts.2 in
    two-asked (requests_from [] (marks Side.Sent past))
    (sym (ap (λ (f : Option Form). is_some f) ((asked-so earlier keeps).said 2)) ∙ ap (λ (n : ℕ). is_some (said_at n (asked Side.Sent past))) (sym place) ∙ some)

pub granted-count : (uri : List ℕ) (journal : List Item) (rest : List (List ℕ)) (count : ℕ) → KeepsExchangeRules (zero_history journal)
    → requests_from [] (marks Side.Sent (zero_history journal)) ++ rest ≡ take count (sender_texts uri) → WasGranted 2 journal → 2 ≤ count
granted-count uri journal rest count keeps are g =
    let at = subst (λ (j : List Item). KeepsExchangeRules (zero_history j)) g.is keeps in
    let earlier = keeps-at (g.item ∷ []) g.earlier (keeps-at g.later (g.item ∷ g.earlier) at) in
    let t = texts-at uri count (g.item ∷ []) g.earlier
    (texts-at uri count g.later (g.item ∷ g.earlier) (subst (λ (j : List Item). AreTexts uri count (zero_history j)) g.is (rest, are))) in
    two-counted count uri (requests_from [] (marks Side.Sent (zero_history g.earlier))) t.0 t.1 (granted-asked g.item g.earlier earlier g.grants)
