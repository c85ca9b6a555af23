-- What a call of one channel makes of the list.
use Rattle.std.proofs.Common.{arith, ◌≡◌, ℕ, ◌<◌, ◌==◌, Bool, true, false, if◌then◌else◌, List, [], ◌∷◌, length, get_or, map, slice_get, slice_set, Option, None, Some, Result, Ok, Err, refl, sym, ap, ◌∙◌, subst, IfSome, IfNone, OnOk, OnErr}
use Rattle.std.specs.Prelude.{is_some}
use Rattle.std.specs.List.{position}
use Rattle.std.proofs.lemmas.Bool.{eq-eqb}
use Rattle.std.proofs.lemmas.List.{length-map}
use Rattle.std.proofs.lemmas.Option.{slice_get_read}
use Rattle.beep_frame.specs.declared.head.Head.{Head}
use Rattle.beep_channel.specs.Held.{Live, Held, next_head, head_from, next_size, HasRoomOut, SameRoomOut}
use Rattle.beep_channel.specs.Stands.{TakesPart}
use Rattle.beep_inbox.specs.declared.part.Part.{Part}
use Rattle.beep_exchange.specs.Kept.{Kept}
use Rattle.beep_outbox.specs.Queue.{Message}
use Rattle.beep_turns.proofs.PlaceLemmas.{IsPlace, found, none-found, place-any, place-within}
use Rattle.beep_lives.specs.Lives.{live_at, numbers, has_begun, receiving_of, judged_at, lives_judged, IsAscendingFrom, IsFirstOf, can_send, AreKept}
use Rattle.beep_lives.specs.Edits.{Edits, EditsWhere, KeepsHeld}
use Rattle.beep_lives.specs.Place.{IsLiveAt}
use Rattle.beep_turns.specs.Order.{first_true}
use Rattle.beep_lives.proofs.ListLemmas.{live-any, none-live, own-place, first-test, turn-place, turn-any}
use Rattle.beep_lives.proofs.LivesLemmas.{IsHere, here-at, set-live, edited}

-- ---- where a channel is

pub found-some : (number : ℕ) (turns : List ℕ) (cs now : List Live) (r : Option ℕ) → r ≡ position (λ n. n == number) turns
    → turns ≡ numbers cs → cs ≡ now → IfSome r (λ i. IsLiveAt number i now)
found-some number turns cs now None e f same = tt
found-some number turns cs now (Some i) e f same =
    let at : position (λ n. n == number) (numbers now) ≡ Some i =
    ap (λ (ms : List ℕ). position (λ n. n == number) ms) (sym (f ∙ ap numbers same)) ∙ sym e in
    record {
      within = subst (λ (k : ℕ). i < k) (length-map now (λ c. c.held.number))
          (place-within (λ n. n == number) (numbers now) i (found (λ n. n == number) (numbers now) i at));
      is = at;
    }

pub found-none : (number : ℕ) (turns : List ℕ) (cs now : List Live) (r : Option ℕ) → r ≡ position (λ n. n == number) turns
    → turns ≡ numbers cs → cs ≡ now → IfNone r (live_at number now ≡ None)
found-none number turns cs now (Some i) e f same = tt
found-none number turns cs now None e f same =
    none-live number now (none-found (λ n. n == number) (numbers now)
    (ap (λ (ms : List ℕ). position (λ n. n == number) ms) (sym (f ∙ ap numbers same)) ∙ sym e))

pub is-live : (number : ℕ) (now : List Live) (r : Option ℕ) → IfSome r (λ i. IsLiveAt number i now) → IfNone r (live_at number now ≡ None)
    → is_some r ≡ is_some (live_at number now)
is-live number now None some none = sym (ap is_some none)
is-live number now (Some i) some none =
    sym (live-any number now ∙ place-any (λ n. n == number) (numbers now) i (found (λ n. n == number) (numbers now) i some.is))

-- what the list had at the number
pub was-now : (number i : ℕ) (now cs : List Live) (b : Live) → cs ≡ now → IsHere number i cs b → live_at number now ≡ Some b
was-now number i now cs b same h = subst (λ (xs : List Live). live_at number xs ≡ Some b) same h.was

-- what it has there after the step
pub is-after : (number i : ℕ) (cs : List Live) (b a : Live) → IsHere number i cs b → a.held.number ≡ b.held.number
    → live_at number (slice_set cs i a) ≡ Some a
is-after number i cs b a h stays =
    set-live number i cs a h.place (stays ∙ h.number_is) number
    ∙ ap (λ (t : Bool). if t then Some a else live_at number cs) (eq-eqb number number refl)

-- the first channel whose flag is set
pub first-here : (test : Live → Bool) (flags got : List Bool) (cs : List Live) (r : Option ℕ) (i : ℕ) → got ≡ flags → flags ≡ map test cs
    → r ≡ position (λ flag. flag) got → r ≡ Some i → IsPlace (λ flag. flag) i (map test cs)
first-here test flags got cs r i e f is some =
    found (λ flag. flag) (map test cs) i (ap (λ (xs : List Bool). position (λ flag. flag) xs) (sym (e ∙ f)) ∙ (sym is ∙ some))

pub read-at : (test : Live → Bool) (cs : List Live) (i : ℕ) (b : Live) → IsPlace (λ flag. flag) i (map test cs) → b ≡ get_or cs i b
    → slice_get cs i ≡ Some b
read-at test cs i b at e =
    slice_get_read cs (length cs) i b refl
    (subst (λ (k : ℕ). i < k) (length-map cs test) (place-within (λ flag. flag) (map test cs) i at)) e

pub own-here : (cs : List Live) (i : ℕ) (b : Live) → IsAscendingFrom 0 cs → slice_get cs i ≡ Some b → IsHere b.held.number i cs b
own-here cs i b asc read = here-at b.held.number i cs b (own-place 0 i cs b asc read) read

pub is-first : (test : Live → Bool) (number i : ℕ) (now cs : List Live) (b : Live) → cs ≡ now → IsPlace (λ flag. flag) i (map test cs)
    → slice_get cs i ≡ Some b → b.held.number ≡ number → IsFirstOf test number now
is-first test number i now cs b same at read named =
    subst (λ (xs : List Live). IsFirstOf test number xs) same
    (record { place = i; channel = b; first = first-test test i cs b at read; named = named })

-- the channel that has the turn
pub record HasTurn (number i : ℕ) (cs : List Live) : Type 0 where
  pub place : IsPlace (λ n. n == number) i (numbers cs)
  pub set : IsPlace (λ flag. flag) i (map can_send cs)

module _ (cs : List Live) (turns more : List ℕ) (ready due got : List Bool) (number : ℕ) (next find : Option ℕ) (k : AreKept turns cs ready due)
    (e : got ≡ ready) (chosen : next ≡ first_true got turns) (some : next ≡ Some number) (same : more ≡ turns)
    (is : find ≡ position (λ n. n == number) more) where
  chosen-of : Some number ≡ first_true (map can_send cs) (numbers cs)
  chosen-of =
      subst (λ (ns : List ℕ). Some number ≡ first_true (map can_send cs) ns) k.turns_are
      (subst (λ (xs : List Bool). Some number ≡ first_true xs turns) (e ∙ k.ready_are) (sym some ∙ chosen))

  place-of : find ≡ position (λ n. n == number) (numbers cs)
  place-of = is ∙ ap (λ (ns : List ℕ). position (λ n. n == number) ns) (same ∙ k.turns_are)

  pub turn-here : (i : ℕ) → find ≡ Some i → HasTurn number i cs
  turn-here i f =
      let at = found (λ n. n == number) (numbers cs) i (sym place-of ∙ f) in
      record { place = at; set = turn-place can_send cs number i k.ascending chosen-of at }

  pub turn-found : find ≡ None → ⊥
  turn-found f =
      let there = turn-any can_send cs number k.ascending chosen-of in
      let missing = none-found (λ n. n == number) (numbers cs) (sym place-of ∙ f) in
      cc (there, missing)

-- ---- a received frame

pub judged-here : (now : List Live) (b : Live) (head : Head) → live_at head.channel now ≡ Some b → judged_at (Some b) head ≡ lives_judged now head
judged-here now b head was = ap (λ (o : Option Live). judged_at o head) (sym was)

pub not-begun : (o : Option Live) (b : Live) → o ≡ Some b → has_begun o ≡ false → b.held.life.received.under_way ≡ None
not-begun o b e f = of b.held.life.received.under_way (ap has_begun (sym e) ∙ f)
  where
    of : (under : Option Head) → is_some under ≡ false → under ≡ None
    of None g = refl
    of (Some head) g = absurd (let h : true ≡ false = g in cc)

pub begun-here : (o : Option Live) (b : Live) (head : Head) → o ≡ Some b → has_begun o ≡ true
    → ((begun : Head) → receiving_of o ≡ Some begun → begun ≡ head) → b.held.life.received.under_way ≡ Some head
begun-here o b head e f same = of b.held.life.received.under_way refl (ap has_begun (sym e) ∙ f)
  where
    of : (under : Option Head) → b.held.life.received.under_way ≡ under → is_some under ≡ true → under ≡ Some head
    of None g h = absurd (let k : false ≡ true = h in cc)
    of (Some begun) g h = ap (λ (x : Head). Some x) (same begun (ap receiving_of e ∙ g))

-- no frame is under way, or one is
pub not-here : (o : Option Live) (b : Live) (under : Option Head) → o ≡ Some b → under ≡ b.held.life.received.under_way → is_some under ≡ false
    → false ≡ has_begun o
not-here o b None e f g = ap is_some f ∙ sym (ap has_begun e)
not-here o b (Some head) e f g = absurd (let h : true ≡ false = g in cc)

pub is-begun : (o : Option Live) (b : Live) (under : Option Head) → o ≡ Some b → under ≡ b.held.life.received.under_way → is_some under ≡ true
    → has_begun o ≡ true
is-begun o b None e f g = absurd (let h : false ≡ true = g in cc)
is-begun o b (Some head) e f g = ap has_begun e ∙ sym (ap is_some f)

pub begun-is : (o : Option Live) → is_some (receiving_of o) ≡ has_begun o
begun-is None = refl
begun-is (Some c) = refl

-- ---- an own frame

-- the frame's header has the channel's number
head-number : (size number seqno : ℕ) (queue : List Message) (mine theirs : Kept) → (head_from size queue number seqno mine theirs).channel ≡ number
head-number size number seqno [] mine theirs = refl
head-number size number seqno (m ∷ ms) mine theirs = refl

pub cut-number : (most : ℕ) (c : Held) (head : Head) → head ≡ next_head most c → head.channel ≡ c.number
cut-number most c head e =
    ap (λ (h : Head). h.channel) e
    ∙ head-number (next_size most c.sends.room c.queue) c.number c.seqno c.queue c.life.sent c.life.received

-- ---- answers

pub at-live : (o : Option Live) (b : Live) (P : Live → Type 0) → o ≡ Some b → P b → IfSome o P
at-live o b P e p = subst (λ (q : Option Live). IfSome q P) (sym e) p

pub live-of : (o : Option Live) (b : Live) (P : Live → Type 0) → o ≡ Some b → IfSome o P → P b
live-of o b P e p = subst (λ (q : Option Live). IfSome q P) e p

pub on-ok : {T E : Type 0} (r : Result T E) (P Q : Type 0) → (P → Q) → OnOk r P → OnOk r Q
on-ok (Ok x) P Q f p = f p
on-ok (Err e) P Q f p = tt

pub on-err : {T E : Type 0} (r : Result T E) (P Q : Type 0) → (P → Q) → OnErr r P → OnErr r Q
on-err (Ok x) P Q f p = tt
on-err (Err e) P Q f p = f p

pub if-some : {T : Type 0} (o : Option T) (P Q : T → Type 0) → ((x : T) → P x → Q x) → IfSome o P → IfSome o Q
if-some None P Q f p = tt
if-some (Some x) P Q f p = f x p

pub if-none : {T : Type 0} (o : Option T) (P Q : Type 0) → (P → Q) → IfNone o P → IfNone o Q
if-none None P Q f p = f p
if-none (Some x) P Q f p = tt

-- the same room is no less room
pub same-room : (b a : Live) → SameRoomOut b a → HasRoomOut b a 0 0
same-room b a s =
    let octets = s.octets in
    let messages = s.messages in
    record { octets_left = omega (arith, octets); messages_left = omega (arith, messages) }

pub both-err : {T E : Type 0} (r : Result T E) (P Q R : Type 0) → (P → Q → R) → OnErr r P → OnErr r Q → OnErr r R
both-err (Ok x) P Q R f p q = tt
both-err (Err e) P Q R f p q = f p q

-- room alone changed
pub keeps : (number i : ℕ) (now cs : List Live) (b a : Live) → cs ≡ now → IsHere number i cs b → a.held ≡ b.held → HasRoomOut b a 0 0
    → Edits number KeepsHeld now (slice_set cs i a)
keeps number i now cs b a same h e room =
    edited number i KeepsHeld now cs b a same h (ap (λ (x : Held). x.number) e) (record { held = e; keeps = room })

pub keeps-where : (number i : ℕ) (now cs : List Live) (b a : Live) → cs ≡ now → IsHere number i cs b → a.held ≡ b.held → HasRoomOut b a 0 0
    → EditsWhere (is_some (live_at number now)) number KeepsHeld now (slice_set cs i a)
keeps-where number i now cs b a same h e room =
    subst (λ (t : Bool). EditsWhere t number KeepsHeld now (slice_set cs i a)) (sym (ap is_some (was-now number i now cs b same h)))
    (keeps number i now cs b a same h e room)

-- a take leaves the channel's number
pub taken-number : (r : Option Part) (b a : Live) (before after : List ℕ) → IfSome r (λ part. TakesPart part b.held a.held before after)
    → IfNone r (a ≡ b) → a.held.number ≡ b.held.number
taken-number None b a before after some none = ap (λ (x : Live). x.held.number) none
taken-number (Some part) b a before after some none = some.same.number
