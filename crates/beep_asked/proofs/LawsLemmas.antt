-- What each item of channel zero leaves of the requests that wait.
use Rattle.std.proofs.Common.{◌≡◌, ℕ, ◌+◌, ◌<◌, ◌==◌, nat_lt, Bool, true, false, not, ◌&&◌, ◌||◌, if◌then◌else◌, List, [], ◌∷◌, ◌++◌, length, Option, Some, None, refl, sym, ap, ◌∙◌, arith, subst}
use Rattle.std.proofs.lemmas.Bool.Decides.{nat_tests}
use Rattle.std.proofs.lemmas.List.{length-map}
use Rattle.beep_standing.specs.beep_frame.specs.declared.head.Head.{Head}
use Rattle.beep_standing.specs.beep_frame.specs.declared.kind.Kind.{Kind}
use Rattle.beep_standing.specs.beep_frame.specs.declared.seq.Seq.{Seq}
use Rattle.beep_standing.specs.beep_frame.specs.Frame.{is_msg, is_reply, same_kind}
use Rattle.beep_standing.specs.beep_text.specs.Said.{element_said}
use Rattle.beep_standing.specs.beep_mgmt.specs.Form.{Form, greeting, start, chosen, close, okay, fault}
use Rattle.beep_standing.specs.beep_mgmt.specs.Message.{message_said}
use Rattle.beep_standing.specs.beep_history.specs.declared.journal.Side.{Side}
use Rattle.beep_standing.specs.beep_history.specs.Journal.{Item, began, passed, told, same_side, other, opening}
use Rattle.beep_standing.specs.beep_history.specs.Marks.{ends_reply, position_of}
use Rattle.beep_standing.specs.beep_history.proofs.SoundLemmas.{IsDue, Sound}
use Rattle.beep_standing.specs.beep_journal.specs.Lives.{Event, lives, is_live, life_named, has_release}
use Rattle.beep_standing.specs.beep_journal.specs.Zero.{zero_events, coming, granting, gathered, asked, said_to, has_form, completes_form}
use Rattle.beep_standing.specs.beep_journal.proofs.MomentLemmas.{same-number, apart-more, and-false, above-zero}
use Rattle.beep_standing.specs.Moving.{MovesNone}
use Rattle.beep_decide.specs.Asks.{is_close_of}
use Rattle.beep_asked.specs.Kept.{Kept, implied_request, names_one, new_kept, place_of, fits, grants, clear_one, cleared_by, after_grant}
use Rattle.beep_asked.specs.Asked.{names_live, names_life, IsAsked, AreAsked, AreWaiting, EndsRequest, EndsReply, SaysLive}
use Rattle.beep_asked.specs.Granting.{IsGranted}
use Rattle.beep_asked.proofs.AskedLemmas.{asked-stays, asked-same}
use Rattle.beep_asked.proofs.MovesLemmas.{none-of-zero, moves-coming, release-coming, names-coming, release-granting, asked-granted, moves-granted}
use Rattle.beep_asked.proofs.QueueLemmas.{mine-on, mine-new, theirs-on, due-of, some-waits, oldest-asked, rest-asked, theirs-less}

-- ---- a new session

-- the implied request says nothing
says-nothing : message_said [] ≡ None
unfolding message_said element_said
says-nothing = refl

one-in : (p : ℕ) → ((1 == p + 1) || false) ≡ nat_lt p 1
one-in p = grind (arith, nat_tests)

none-yet : (p : ℕ) → false ≡ nat_lt (p + 1) 1
none-yet p = grind (arith, nat_tests)

first-asked : (side : Side) (es : List Event) → IsAsked side es 0 implied_request (message_said [])
first-asked side es =
    record { said = sym says-nothing; implied = refl; names = ap (λ (o : Option Form). names_life side 0 o es) (sym says-nothing) }

pub new-session : (side : Side) → AreWaiting side opening (implied_request ∷ [])
new-session Side.Received =
    record { begun = omega arith; whole = λ p. one-in p; answered = λ p. none-yet p; within = omega arith; asked = (first-asked Side.Received (zero_events opening), tt) }
new-session Side.Sent =
    record { begun = omega arith; whole = λ p. one-in p; answered = λ p. none-yet p; within = omega arith; asked = (first-asked Side.Sent (zero_events opening), tt) }

-- ---- a header and a SEQ

pub header-leaves : (side by : Side) (head : Head) (zero : List Item) (requests : List Kept) → AreWaiting side zero requests → AreWaiting side (began by head ∷ zero) requests
header-leaves side by head zero requests w = record { begun = w.begun; whole = w.whole; answered = w.answered; within = w.within; asked = w.asked }

pub seq-leaves : (side by : Side) (seq : Seq) (zero : List Item) (requests : List Kept) → AreWaiting side zero requests → AreWaiting side (told by seq ∷ zero) requests
seq-leaves side by seq zero requests w = record { begun = w.begun; whole = w.whole; answered = w.answered; within = w.within; asked = w.asked }

-- ---- a part of a message

module _ (head : Head) (payload : List ℕ) (zero : List Item) (part : head.more ≡ true) where
  pub part-events : (by : Side) → zero_events (passed by head payload ∷ zero) ≡ zero_events zero
  part-events by = rw part refl

  part-asked : (side by : Side) (requests : List Kept) → AreWaiting side zero requests
      → AreAsked side (zero_events (passed by head payload ∷ zero)) requests (asked side zero)
  part-asked side by requests w = subst (λ (es : List Event). AreAsked side es requests (asked side zero)) (sym (part-events by)) w.asked

  no-request : (is_msg head.kind && not head.more) ≡ false
  no-request = rw part (and-false (is_msg head.kind))

  no-reply : (is_reply head.kind && ends_reply head) ≡ false
  no-reply = rw part (and-false (is_reply head.kind))

  pub part-leaves : (side by : Side) (requests : List Kept) → AreWaiting side zero requests → AreWaiting side (passed by head payload ∷ zero) requests
  part-leaves Side.Received Side.Received requests w = mine-on Side.Received zero head payload requests requests w refl (part-asked Side.Received Side.Received requests w) no-request
  part-leaves Side.Received Side.Sent requests w = theirs-on Side.Sent zero head payload requests w (part-asked Side.Received Side.Sent requests w) no-reply
  part-leaves Side.Sent Side.Received requests w = theirs-on Side.Received zero head payload requests w (part-asked Side.Sent Side.Received requests w) no-reply
  part-leaves Side.Sent Side.Sent requests w = mine-on Side.Sent zero head payload requests requests w refl (part-asked Side.Sent Side.Sent requests w) no-request

-- ---- a request

same-mine : (side : Side) → same_side side side ≡ true
same-mine Side.Received = refl
same-mine Side.Sent = refl

same-theirs : (side : Side) → same_side side (other side) ≡ false
same-theirs Side.Received = refl
same-theirs Side.Sent = refl

not-first : (n : ℕ) → 0 < n → false ≡ (n == 0)
not-first n some = grind (arith, nat_tests)

module _ (by : Side) (head : Head) (payload : List ℕ) (zero : List Item) (r : EndsRequest by head zero) where
  abbrev place : ℕ
  place = length (asked by zero)

  abbrev form : Option Form
  form = message_said (gathered by zero ++ payload)

  request-events : zero_events (passed by head payload ∷ zero) ≡ coming by place form ++ zero_events zero
  request-events = rw (r.last, r.request) refl

  pub request-moves : MovesNone (zero_events zero) (zero_events (passed by head payload ∷ zero))
  request-moves = subst (λ (es : List Event). MovesNone (zero_events zero) es) (sym request-events) (moves-coming by place (zero_events zero) form)

  pub request-releases : has_release (zero_events (passed by head payload ∷ zero)) ≡ has_release (zero_events zero)
  request-releases = ap has_release request-events ∙ release-coming by place (zero_events zero) form

  request-names : (side : Side) (n p : ℕ) → (same_side by side && place == p) ≡ false
      → names_live n side p (zero_events (passed by head payload ∷ zero)) ≡ names_live n side p (zero_events zero)
  request-names side n p e = ap (λ (es : List Event). names_live n side p es) request-events ∙ names-coming by place (zero_events zero) form side n p e

  pub request-theirs : (requests : List Kept) → AreWaiting (other by) zero requests → AreWaiting (other by) (passed by head payload ∷ zero) requests
  request-theirs requests w =
      theirs-on by zero head payload requests w
      (asked-same (other by) (zero_events zero) (zero_events (passed by head payload ∷ zero))
      (λ n p. request-names (other by) n p (rw (same-theirs by) refl)) requests (asked (other by) zero) w.asked)
      (rw r.request refl)

  -- a close names the life that is live as it comes
  names-new : (live : ℕ → Bool) → SaysLive live (zero_events zero) → (o : Option Form) → names_one live o ≡ names_life by place o (coming by place o ++ zero_events zero)
  names-new live says None = refl
  names-new live says (Some (greeting features localize profiles)) = refl
  names-new live says (Some (start number server profiles)) = refl
  names-new live says (Some (chosen profile)) = refl
  names-new live says (Some (close number code note)) = of (nat_lt 0 number) refl
    where
      named : (if same_side by by && place == place then lives number (zero_events zero) else life_named number by place (zero_events zero)) ≡ lives number (zero_events zero)
      named = rw (same-mine by, same-number place) refl

      and-true : (b : Bool) → b ≡ (b && true)
      and-true true = refl
      and-true false = refl

      of : (b : Bool) → nat_lt 0 number ≡ b → (b && live number)
          ≡ (b && (is_live number (zero_events zero) && (if same_side by by && place == place then lives number (zero_events zero) else life_named number by place (zero_events zero)) == lives number (zero_events zero)))
      of false e = refl
      of true e =
          says number (above-zero number e) ∙ and-true (is_live number (zero_events zero))
          ∙ ap (λ (b : Bool). is_live number (zero_events zero) && b)
          (sym (ap (λ (k : ℕ). k == lives number (zero_events zero)) named ∙ same-number (lives number (zero_events zero))))
  names-new live says (Some okay) = refl
  names-new live says (Some (fault code note)) = refl

  pub request-mine : (live : ℕ → Bool) (requests : List Kept) → SaysLive live (zero_events zero) → AreWaiting by zero requests
      → AreWaiting by (passed by head payload ∷ zero) (new_kept live form ∷ requests)
  request-mine live requests says w =
      mine-new by zero head payload requests requests w refl
      (asked-stays by (zero_events zero) (zero_events (passed by head payload ∷ zero)) place
      (λ n p below. request-names by n p (rw (apart-more place p below) (and-false (same_side by by)))) requests (asked by zero) (omega arith) w.asked)
      r.request r.last r.keeps r.under (new_kept live form)
      (record {
        said = refl;
        implied = not-first place w.begun;
        names = names-new live says form ∙ ap (λ (es : List Event). names_life by place form es) (sym request-events);
      })

-- ---- a reply

length-cleared : (form : Option Form) (names : Bool) (requests : List Kept) → length (cleared_by form names requests) ≡ length requests
length-cleared None names requests = refl
length-cleared (Some (greeting features localize profiles)) names requests = refl
length-cleared (Some (start number server profiles)) names requests = refl
length-cleared (Some (chosen profile)) names requests = refl
length-cleared (Some (close number code note)) true requests = length-map requests (clear_one number)
length-cleared (Some (close number code note)) false requests = refl
length-cleared (Some okay) names requests = refl
length-cleared (Some (fault code note)) names requests = refl

-- only the implied one has place 0
form-place : (kind : Kind) (p : ℕ) (implied : Bool) (o reply : Option Form) → implied ≡ (p == 0) → has_form kind p o reply ≡ has_form kind (if implied then 0 else 1) o reply
form-place Kind.Msg p implied o reply e = refl
form-place Kind.Rpy p implied o reply e = by o reply
  where
    same : (b : Bool) → b ≡ (p == 0) → (p == 0) ≡ ((if b then 0 else 1) == 0)
    same true f = sym f
    same false f = sym f

    by : (o reply : Option Form) → has_form Kind.Rpy p o reply ≡ has_form Kind.Rpy (if implied then 0 else 1) o reply
    by None None = refl
    by None (Some (greeting features localize profiles)) = same implied e
    by None (Some (start number server profiles)) = refl
    by None (Some (chosen profile)) = refl
    by None (Some (close number code note)) = refl
    by None (Some okay) = refl
    by None (Some (fault code note)) = refl
    by (Some (greeting f l ps)) None = refl
    by (Some (greeting f l ps)) (Some reply) = refl
    by (Some (start n s ps)) None = refl
    by (Some (start n s ps)) (Some (greeting features localize profiles)) = refl
    by (Some (start n s ps)) (Some (start number server profiles)) = refl
    by (Some (start n s ps)) (Some (chosen profile)) = refl
    by (Some (start n s ps)) (Some (close number code note)) = refl
    by (Some (start n s ps)) (Some okay) = refl
    by (Some (start n s ps)) (Some (fault code note)) = refl
    by (Some (chosen c)) None = refl
    by (Some (chosen c)) (Some reply) = refl
    by (Some (close n c t)) None = refl
    by (Some (close n c t)) (Some (greeting features localize profiles)) = refl
    by (Some (close n c t)) (Some (start number server profiles)) = refl
    by (Some (close n c t)) (Some (chosen profile)) = refl
    by (Some (close n c t)) (Some (close number code note)) = refl
    by (Some (close n c t)) (Some okay) = refl
    by (Some (close n c t)) (Some (fault code note)) = refl
    by (Some okay) None = refl
    by (Some okay) (Some reply) = refl
    by (Some (fault c t)) None = refl
    by (Some (fault c t)) (Some reply) = refl
form-place Kind.Err p implied o reply e = refl
form-place Kind.Ans p implied o reply e = refl
form-place Kind.Nul p implied o reply e = refl

module _ (by : Side) (head : Head) (payload : List ℕ) (zero : List Item) (r : EndsReply by head zero) where
  due : (s : Sound (other by) zero) × IsDue (other by) s.oldest zero head
  due = due-of by zero head r.keeps r.under r.reply

  ends : ends_reply head ≡ true
  ends = rw (r.last, r.alone) refl

  not-request : is_msg head.kind ≡ false
  not-request = not-true (is_msg head.kind) r.reply
    where
      not-true : (b : Bool) → not b ≡ true → b ≡ false
      not-true true e = cc
      not-true false e = refl

  pub reply-waits : (requests : List Kept) → AreWaiting (other by) zero requests → 0 < length requests
  reply-waits requests w = some-waits by zero head r.reply requests w due.0 due.1

  module _ (later : List Kept) (one : Kept) (w : AreWaiting (other by) zero (later ++ one ∷ [])) where
    abbrev position : ℕ
    position = position_of by zero head

    one-asked : IsAsked (other by) (zero_events zero) position one (said_to by head zero)
    one-asked = oldest-asked by zero head r.reply (later ++ one ∷ []) w due.0 due.1 later one refl

    pub reply-said : said_to by head zero ≡ one.said
    reply-said = sym one-asked.said

    pub reply-implied : (position_of by zero head == 0) ≡ one.implied
    reply-implied = sym one-asked.implied

    pub reply-form : completes_form by head payload zero ≡ fits head.kind (message_said (gathered by zero ++ payload)) one
    reply-form =
        form-place head.kind position one.implied (said_to by head zero) (message_said (gathered by zero ++ payload)) one-asked.implied
        ∙ ap (λ (o : Option Form). has_form head.kind (place_of one) o (message_said (gathered by zero ++ payload))) reply-said

    abbrev granted-events : Bool → List Event
    granted-events b = (if b then granting (other by) position one.said else []) ++ zero_events zero

    reply-events : (b : Bool) → grants head.kind (message_said (gathered by zero ++ payload)) one ≡ b → zero_events (passed by head payload ∷ zero) ≡ granted-events b
    reply-events b e =
        ap (λ (xs : List Event). xs ++ zero_events zero)
        (pick head.more (is_msg head.kind) (same_kind Kind.Rpy head.kind && completes_form by head payload zero) b
        (coming by (length (asked by zero)) (message_said (gathered by zero ++ payload)))
        (granting (other by) position (said_to by head zero)) (granting (other by) position one.said) r.last not-request
        (ap (λ (f : Bool). same_kind Kind.Rpy head.kind && f) reply-form ∙ e)
        (ap (λ (o : Option Form). granting (other by) position o) reply-said))
      where
        pick : (a m g b : Bool) (x y z : List Event) → a ≡ false → m ≡ false → g ≡ b → y ≡ z → (if a then [] else if m then x else if g then y else []) ≡ (if b then z else [])
        pick true m g b x y z e f h i = cc
        pick false true g b x y z e f h i = cc
        pick false false true true x y z e f h i = i
        pick false false true false x y z e f h i = cc
        pick false false false true x y z e f h i = cc
        pick false false false false x y z e f h i = refl

    -- what joins a side's requests, by the moments
    pub mine-by : (requests new : List Kept) → AreWaiting by zero requests → length new ≡ length requests
        → AreAsked by (zero_events (passed by head payload ∷ zero)) new (asked by zero) → AreWaiting by (passed by head payload ∷ zero) new
    mine-by requests new v size moved = mine-on by zero head payload requests new v size moved (rw not-request refl)

    pub theirs-by : (new : List Kept) → length new ≡ length later
        → AreAsked (other by) (zero_events (passed by head payload ∷ zero)) new (asked (other by) zero) → AreWaiting (other by) (passed by head payload ∷ zero) new
    theirs-by new size moved = theirs-less by zero head r.reply (later ++ one ∷ []) w due.0 due.1 later one refl payload new size moved ends

    later-asked : AreAsked (other by) (zero_events zero) later (asked (other by) zero)
    later-asked = rest-asked by zero head r.reply (later ++ one ∷ []) w due.0 due.1 later one refl

    module _ (refused : grants head.kind (message_said (gathered by zero ++ payload)) one ≡ false) where
      refused-events : zero_events (passed by head payload ∷ zero) ≡ zero_events zero
      refused-events = reply-events false refused

      pub refusal-theirs : AreWaiting (other by) (passed by head payload ∷ zero) later
      refusal-theirs = theirs-by later refl (subst (λ (es : List Event). AreAsked (other by) es later (asked (other by) zero)) (sym refused-events) later-asked)

      pub refusal-mine : (requests : List Kept) → AreWaiting by zero requests → AreWaiting by (passed by head payload ∷ zero) requests
      refusal-mine requests v = mine-by requests requests v refl (subst (λ (es : List Event). AreAsked by es requests (asked by zero)) (sym refused-events) v.asked)

      pub refusal-moves : MovesNone (zero_events zero) (zero_events (passed by head payload ∷ zero))
      refusal-moves = subst (λ (es : List Event). MovesNone (zero_events zero) es) (sym refused-events) (record { lives = λ n. refl; live = λ n. refl })

      pub refusal-releases : has_release (zero_events (passed by head payload ∷ zero)) ≡ has_release (zero_events zero)
      refusal-releases = ap has_release refused-events

    module _ (granted : grants head.kind (message_said (gathered by zero ++ payload)) one ≡ true) where
      names : one.names ≡ names_life (other by) position one.said (zero_events zero)
      names = one-asked.names ∙ ap (λ (o : Option Form). names_life (other by) position o (zero_events zero)) reply-said

      left-asked : (side : Side) (requests : List Kept) → AreAsked side (zero_events zero) requests (asked side zero)
          → AreAsked side (zero_events (passed by head payload ∷ zero)) (after_grant one requests) (asked side zero)
      left-asked side requests a =
          subst (λ (es : List Event). AreAsked side es (after_grant one requests) (asked side zero)) (sym (reply-events true granted))
          (asked-granted (other by) position (zero_events zero) (none-of-zero zero) one.said one.names names side requests (asked side zero) a)

      pub grant-theirs : AreWaiting (other by) (passed by head payload ∷ zero) (after_grant one later)
      grant-theirs = theirs-by (after_grant one later) (length-cleared one.said one.names later) (left-asked (other by) later later-asked)

      pub grant-mine : (requests : List Kept) → AreWaiting by zero requests → AreWaiting by (passed by head payload ∷ zero) (after_grant one requests)
      grant-mine requests v = mine-by requests (after_grant one requests) v (length-cleared one.said one.names requests) (left-asked by requests v.asked)

      pub grant-moves : (live : ℕ → Bool) → SaysLive live (zero_events zero) → IsGranted live one (zero_events zero) (zero_events (passed by head payload ∷ zero))
      grant-moves live says =
          subst (λ (es : List Event). IsGranted live one (zero_events zero) es) (sym (reply-events true granted))
          (moves-granted (other by) position (zero_events zero) (none-of-zero zero) live says one.said one.names names)

      pub grant-releases : has_release (zero_events (passed by head payload ∷ zero)) ≡ (is_close_of 0 one.said || has_release (zero_events zero))
      grant-releases = ap has_release (reply-events true granted) ∙ release-granting (other by) position (zero_events zero) one.said
