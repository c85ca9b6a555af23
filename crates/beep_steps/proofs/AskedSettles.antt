-- What a reply that is settled has a sender ask: its start where the peer greets, and the release where the close was granted.
use Rattle.std.proofs.Common.{◌≡◌, ◌∙◌, refl, sym, ap, subst, ℕ, zero, suc, ◌+◌, ◌-◌, ◌<◌, ◌≤◌, ◌==◌, Bool, true, false, not, ◌&&◌, ◌||◌, if◌then◌else◌, List, [], ◌∷◌, ◌++◌, length, map, take, Option, None, Some, arith, ◌⊎◌, inl, inr}
use Rattle.std.specs.Prelude.{nat_lt, slice_get}
use Rattle.std.specs.Option.{option_map_or}
use Rattle.std.proofs.lemmas.Bool.Decides.{nat_tests}
use Rattle.std.proofs.lemmas.List.{take-map}
use Rattle.beep_session.specs.beep_frame.specs.declared.head.Head.{Head}
use Rattle.beep_session.specs.beep_frame.specs.declared.kind.Kind.{Kind}
use Rattle.beep_session.specs.beep_frame.specs.Frame.{is_msg, is_reply, same_kind}
use Rattle.beep_session.specs.beep_history.specs.declared.journal.Side.{Side}
use Rattle.beep_session.specs.beep_history.specs.Journal.{Item, passed}
use Rattle.beep_session.specs.beep_history.specs.Marks.{Request, latest, marks, position_of, requests}
use Rattle.beep_session.specs.beep_history.specs.Broken.{KeepsExchangeRules}
use Rattle.beep_session.specs.beep_history.proofs.SoundLemmas.{IsDue, Sound}
use Rattle.beep_session.specs.beep_history.proofs.PassedLemmas.{sound}
use Rattle.beep_session.specs.beep_mgmt.specs.Form.{Form, PlainProfile, greeting, start, chosen, close, okay, fault}
use Rattle.beep_session.specs.beep_mgmt.specs.Message.{message_said}
use Rattle.beep_session.specs.beep_journal.specs.Lives.{Event}
use Rattle.beep_session.specs.beep_journal.specs.Log.{Moment}
use Rattle.beep_session.specs.beep_journal.specs.Zero.{asked, completes_form, gathered, has_form, is_grant, said_at, said_to, zero_events, zero_history}
use Rattle.beep_session.specs.beep_journal.proofs.MomentLemmas.{equal-number, same-number}
use Rattle.beep_session.specs.beep_asked.specs.Kept.{Kept, oldest}
use Rattle.beep_session.specs.beep_asked.specs.Asked.{AreAsked, AreWaiting}
use Rattle.beep_session.specs.beep_answering.specs.declared.settled.Settled.{Settled}
use Rattle.beep_session.specs.beep_answering.specs.Decided.{IsBegunBy, IsClosedBy, IsSettledAs, IsSettledBy, SettledBy, closed_as, refused_as}
use Rattle.beep_session.specs.beep_decide.specs.Decide.{Decision, choose, grant_close, refuse, tune}
use Rattle.beep_session.specs.beep_management.specs.declared.wait.Wait.{Wait}
use Rattle.beep_session.specs.Lawfully.{terms_of}
use Rattle.beep_session.specs.Session.{Held}
use Rattle.beep_desk.specs.beep_talk.specs.AtZero.{profile_of}
use Rattle.beep_desk.specs.beep_talk.specs.Plan.{PlainPlan}
use Rattle.beep_desk.specs.beep_script.specs.Desk.{grants_own}
use Rattle.beep_desk.specs.beep_script.specs.Requested.{SenderTexts, requests_from, sender_texts}
use Rattle.beep_desk.specs.beep_script.proofs.RequestedLemmas.{asked-so, nth, own_forms}
use Rattle.beep_steps.specs.Desking.{AsksSo, closes_own}
use Rattle.beep_steps.specs.Logs.{WaitsOn}
use Rattle.beep_steps.specs.Sending.{Progress, SendsWaiting}
use Rattle.beep_steps.proofs.DeskMet.{zero-under}
use Rattle.beep_steps.proofs.SendsLemmas.{keeps-zero, later, texts-are}
use Rattle.beep_desk.proofs.OnceLemmas.{Granting, granting}

-- ---- what is said

-- a message says a greeting
abbrev pub says_greeting : Option Form → Bool
says_greeting None = false
says_greeting (Some (greeting features localize profiles)) = true
says_greeting (Some (start number server profiles)) = false
says_greeting (Some (chosen profile)) = false
says_greeting (Some (close number code note)) = false
says_greeting (Some okay) = false
says_greeting (Some (fault code note)) = false

-- it says `ok`
abbrev pub says_okay : Option Form → Bool
says_okay None = false
says_okay (Some (greeting features localize profiles)) = false
says_okay (Some (start number server profiles)) = false
says_okay (Some (chosen profile)) = false
says_okay (Some (close number code note)) = false
says_okay (Some okay) = true
says_okay (Some (fault code note)) = false

-- it says a close
abbrev pub says_close : Option Form → Bool
says_close None = false
says_close (Some (greeting features localize profiles)) = false
says_close (Some (start number server profiles)) = false
says_close (Some (chosen profile)) = false
says_close (Some (close number code note)) = true
says_close (Some okay) = false
says_close (Some (fault code note)) = false

-- a greeting answers the request at 0, and an `ok` a close
greeting-form : (kind : Kind) (p : ℕ) (request said : Option Form) → says_greeting said ≡ true → has_form kind p request said ≡ true → (same_kind Kind.Rpy kind ≡ true) × ((p == 0) ≡ true)
greeting-form Kind.Msg p request said e f = absurd cc
greeting-form Kind.Rpy p request None e f = absurd cc
greeting-form Kind.Rpy p None (Some (greeting features localize profiles)) e f = (refl, f)
greeting-form Kind.Rpy p (Some (greeting features2 localize2 profiles2)) (Some (greeting features localize profiles)) e f = absurd cc
greeting-form Kind.Rpy p (Some (start number2 server2 profiles2)) (Some (greeting features localize profiles)) e f = absurd cc
greeting-form Kind.Rpy p (Some (chosen profile2)) (Some (greeting features localize profiles)) e f = absurd cc
greeting-form Kind.Rpy p (Some (close number2 code2 note2)) (Some (greeting features localize profiles)) e f = absurd cc
greeting-form Kind.Rpy p (Some okay) (Some (greeting features localize profiles)) e f = absurd cc
greeting-form Kind.Rpy p (Some (fault code2 note2)) (Some (greeting features localize profiles)) e f = absurd cc
greeting-form Kind.Rpy p request (Some (start number server profiles)) e f = absurd cc
greeting-form Kind.Rpy p request (Some (chosen profile)) e f = absurd cc
greeting-form Kind.Rpy p request (Some (close number code note)) e f = absurd cc
greeting-form Kind.Rpy p request (Some okay) e f = absurd cc
greeting-form Kind.Rpy p request (Some (fault code note)) e f = absurd cc
greeting-form Kind.Err p request None e f = absurd cc
greeting-form Kind.Err p request (Some (greeting features localize profiles)) e f = absurd cc
greeting-form Kind.Err p request (Some (start number server profiles)) e f = absurd cc
greeting-form Kind.Err p request (Some (chosen profile)) e f = absurd cc
greeting-form Kind.Err p request (Some (close number code note)) e f = absurd cc
greeting-form Kind.Err p request (Some okay) e f = absurd cc
greeting-form Kind.Err p request (Some (fault code note)) e f = absurd cc
greeting-form Kind.Ans p request said e f = absurd cc
greeting-form Kind.Nul p request said e f = absurd cc

okay-form : (kind : Kind) (p : ℕ) (request said : Option Form) → says_okay said ≡ true → has_form kind p request said ≡ true → (same_kind Kind.Rpy kind ≡ true) × (says_close request ≡ true)
okay-form Kind.Msg p request said e f = absurd cc
okay-form Kind.Rpy p request None e f = absurd cc
okay-form Kind.Rpy p request (Some (greeting features localize profiles)) e f = absurd cc
okay-form Kind.Rpy p request (Some (start number server profiles)) e f = absurd cc
okay-form Kind.Rpy p request (Some (chosen profile)) e f = absurd cc
okay-form Kind.Rpy p request (Some (close number code note)) e f = absurd cc
okay-form Kind.Rpy p None (Some okay) e f = absurd cc
okay-form Kind.Rpy p (Some (greeting features2 localize2 profiles2)) (Some okay) e f = absurd cc
okay-form Kind.Rpy p (Some (start number2 server2 profiles2)) (Some okay) e f = absurd cc
okay-form Kind.Rpy p (Some (chosen profile2)) (Some okay) e f = absurd cc
okay-form Kind.Rpy p (Some (close number2 code2 note2)) (Some okay) e f = (refl, refl)
okay-form Kind.Rpy p (Some okay) (Some okay) e f = absurd cc
okay-form Kind.Rpy p (Some (fault code2 note2)) (Some okay) e f = absurd cc
okay-form Kind.Rpy p request (Some (fault code note)) e f = absurd cc
okay-form Kind.Err p request None e f = absurd cc
okay-form Kind.Err p request (Some (greeting features localize profiles)) e f = absurd cc
okay-form Kind.Err p request (Some (start number server profiles)) e f = absurd cc
okay-form Kind.Err p request (Some (chosen profile)) e f = absurd cc
okay-form Kind.Err p request (Some (close number code note)) e f = absurd cc
okay-form Kind.Err p request (Some okay) e f = absurd cc
okay-form Kind.Err p request (Some (fault code note)) e f = absurd cc
okay-form Kind.Ans p request said e f = absurd cc
okay-form Kind.Nul p request said e f = absurd cc

first-grant : (p : ℕ) (said : Option Form) → is_grant p None said ≡ true → says_greeting said ≡ true
first-grant p None e = absurd cc
first-grant p (Some (greeting features localize profiles)) e = refl
first-grant p (Some (start number server profiles)) e = absurd cc
first-grant p (Some (chosen profile)) e = absurd cc
first-grant p (Some (close number code note)) e = absurd cc
first-grant p (Some okay) e = absurd cc
first-grant p (Some (fault code note)) e = absurd cc

none-grant : (p : ℕ) (said : Option Form) → is_grant p None said ≡ true → (p == 0) ≡ true
none-grant p None e = absurd cc
none-grant p (Some (greeting features localize profiles)) e = e
none-grant p (Some (start number server profiles)) e = absurd cc
none-grant p (Some (chosen profile)) e = absurd cc
none-grant p (Some (close number code note)) e = absurd cc
none-grant p (Some okay) e = absurd cc
none-grant p (Some (fault code note)) e = absurd cc

close-grant : (p number code : ℕ) (note : List ℕ) (said : Option Form) → is_grant p (Some (close number code note)) said ≡ true → says_okay said ≡ true
close-grant p number code note None e = absurd cc
close-grant p number code note (Some (greeting features2 localize2 profiles2)) e = absurd cc
close-grant p number code note (Some (start number2 server2 profiles2)) e = absurd cc
close-grant p number code note (Some (chosen profile2)) e = absurd cc
close-grant p number code note (Some (close number2 code2 note2)) e = absurd cc
close-grant p number code note (Some okay) e = refl
close-grant p number code note (Some (fault code2 note2)) e = absurd cc

-- ---- what it is settled as

abbrev is_greeted : Settled → Bool
is_greeted Settled.Greeted = true
is_greeted (Settled.Denied code) = false
is_greeted (Settled.Begun number place content) = false
is_greeted (Settled.NotBegun number code) = false
is_greeted (Settled.PeerStarts number place) = false
is_greeted (Settled.PeerRefused code) = false
is_greeted (Settled.PeerCloses number code) = false
is_greeted (Settled.Closed number) = false
is_greeted (Settled.NotClosed number code) = false
is_greeted (Settled.Stale code) = false
is_greeted Settled.Released = false

refused-closes : (code : ℕ) (said : Option Form) (names : Bool) → closes_own (refused_as code said names) ≡ false
refused-closes code None names = refl
refused-closes code (Some (greeting features2 localize2 profiles2)) names = refl
refused-closes code (Some (start number2 server2 profiles2)) names = refl
refused-closes code (Some (chosen profile2)) names = refl
refused-closes code (Some (close number2 code2 note2)) names = of (number2 == 0 || names)
  where
    of : (b : Bool) → closes_own (if b then Settled.NotClosed number2 code else Settled.Stale (Some code)) ≡ false
    of true = refl
    of false = refl
refused-closes code (Some okay) names = refl
refused-closes code (Some (fault code2 note2)) names = refl

refused-greets : (code : ℕ) (said : Option Form) (names : Bool) → is_greeted (refused_as code said names) ≡ false
refused-greets code None names = refl
refused-greets code (Some (greeting features2 localize2 profiles2)) names = refl
refused-greets code (Some (start number2 server2 profiles2)) names = refl
refused-greets code (Some (chosen profile2)) names = refl
refused-greets code (Some (close number2 code2 note2)) names = of (number2 == 0 || names)
  where
    of : (b : Bool) → is_greeted (if b then Settled.NotClosed number2 code else Settled.Stale (Some code)) ≡ false
    of true = refl
    of false = refl
refused-greets code (Some okay) names = refl
refused-greets code (Some (fault code2 note2)) names = refl

begun-closes : (said : Option Form) (profile : PlainProfile) (settled : Settled) → IsBegunBy said profile settled → closes_own settled ≡ false
begun-closes None profile settled b = absurd b
begun-closes (Some (greeting features2 localize2 profiles2)) profile settled b = absurd b
begun-closes (Some (start number2 server2 profiles2)) profile settled b = ap closes_own b.is
begun-closes (Some (chosen profile2)) profile settled b = absurd b
begun-closes (Some (close number2 code2 note2)) profile settled b = absurd b
begun-closes (Some okay) profile settled b = absurd b
begun-closes (Some (fault code2 note2)) profile settled b = absurd b

begun-greets : (said : Option Form) (profile : PlainProfile) (settled : Settled) → IsBegunBy said profile settled → is_greeted settled ≡ false
begun-greets None profile settled b = absurd b
begun-greets (Some (greeting features2 localize2 profiles2)) profile settled b = absurd b
begun-greets (Some (start number2 server2 profiles2)) profile settled b = ap is_greeted b.is
begun-greets (Some (chosen profile2)) profile settled b = absurd b
begun-greets (Some (close number2 code2 note2)) profile settled b = absurd b
begun-greets (Some okay) profile settled b = absurd b
begun-greets (Some (fault code2 note2)) profile settled b = absurd b

closed-greets : (said : Option Form) (names : Bool) (settled : Settled) → IsClosedBy said names settled → is_greeted settled ≡ false
closed-greets None names settled b = absurd b
closed-greets (Some (greeting features2 localize2 profiles2)) names settled b = absurd b
closed-greets (Some (start number2 server2 profiles2)) names settled b = absurd b
closed-greets (Some (chosen profile2)) names settled b = absurd b
closed-greets (Some (close number2 code2 note2)) names settled b = ap is_greeted b ∙ of (number2 == 0) names
  where
    of : (z n : Bool) → is_greeted (if z then Settled.Released else if n then Settled.Closed number2 else Settled.Stale None) ≡ false
    of true n = refl
    of false true = refl
    of false false = refl
closed-greets (Some okay) names settled b = absurd b
closed-greets (Some (fault code2 note2)) names settled b = absurd b

apart : (b : Bool) → b ≡ true → b ≡ false → ⊥
apart true e f = absurd cc
apart false e f = absurd cc

-- what greets is settled so, and nothing else
settled-greets : (kept : Kept) (said : Option Form) (settled : Settled) → IsSettledAs kept said settled → is_greeted settled ≡ true → says_greeting said ≡ true
settled-greets kept None settled i e = absurd i
settled-greets kept (Some (greeting features localize profiles)) settled i e = refl
settled-greets kept (Some (start number server profiles)) settled i e = absurd i
settled-greets kept (Some (chosen profile)) settled i e = absurd (apart (is_greeted settled) e (begun-greets kept.said profile settled i))
settled-greets kept (Some (close number code note)) settled i e = absurd i
settled-greets kept (Some okay) settled i e = absurd (apart (is_greeted settled) e (closed-greets kept.said kept.names settled i))
settled-greets kept (Some (fault code note)) settled i e = absurd (apart (is_greeted settled) e (ap is_greeted i ∙ refused-greets code kept.said kept.names))

greets-settled : (kept : Kept) (said : Option Form) (settled : Settled) → IsSettledAs kept said settled → says_greeting said ≡ true → settled ≡ Settled.Greeted
greets-settled kept None settled i e = absurd cc
greets-settled kept (Some (greeting features localize profiles)) settled i e = i
greets-settled kept (Some (start number server profiles)) settled i e = absurd cc
greets-settled kept (Some (chosen profile)) settled i e = absurd cc
greets-settled kept (Some (close number code note)) settled i e = absurd cc
greets-settled kept (Some okay) settled i e = absurd cc
greets-settled kept (Some (fault code note)) settled i e = absurd cc

-- an own close of a channel that was granted
settled-closes : (kept : Kept) (said : Option Form) (settled : Settled) → IsSettledAs kept said settled → closes_own settled ≡ true → says_okay said ≡ true
settled-closes kept None settled i e = absurd i
settled-closes kept (Some (greeting features localize profiles)) settled i e = absurd (apart (closes_own settled) e (ap closes_own i))
settled-closes kept (Some (start number server profiles)) settled i e = absurd i
settled-closes kept (Some (chosen profile)) settled i e = absurd (apart (closes_own settled) e (begun-closes kept.said profile settled i))
settled-closes kept (Some (close number code note)) settled i e = absurd i
settled-closes kept (Some okay) settled i e = refl
settled-closes kept (Some (fault code note)) settled i e = absurd (apart (closes_own settled) e (ap closes_own i ∙ refused-closes code kept.said kept.names))

closes-settled : (kept : Kept) (said : Option Form) (settled : Settled) → kept.said ≡ Some (close 1 200 []) → IsSettledAs kept said settled → says_okay said ≡ true → closes_own settled ≡ true
closes-settled kept None settled one i e = absurd cc
closes-settled kept (Some (greeting features localize profiles)) settled one i e = absurd cc
closes-settled kept (Some (start number server profiles)) settled one i e = absurd cc
closes-settled kept (Some (chosen profile)) settled one i e = absurd cc
closes-settled kept (Some (close number code note)) settled one i e = absurd cc
closes-settled kept (Some okay) settled one i e =
    let is : settled ≡ closed_as 1 kept.names = subst (λ (o : Option Form). IsClosedBy o kept.names settled) one i in
    ap closes_own is ∙ of kept.names
  where
    of : (n : Bool) → closes_own (if n then Settled.Closed 1 else Settled.Stale None) ≡ true
    of true = refl
    of false = refl
closes-settled kept (Some (fault code note)) settled one i e = absurd cc

-- ---- the requests of a sender

-- what they say, in order
abbrev pub three_forms : List ℕ → List (Option Form)
three_forms uri = Some (start 1 None (profile_of uri ∷ [])) ∷ Some (close 1 200 []) ∷ Some (close 0 200 []) ∷ []

pub texts-said : (uri : List ℕ) → SenderTexts uri → map message_said (sender_texts uri) ≡ three_forms uri
texts-said uri s =
    ap (λ (f : Option Form). f ∷ map message_said (take 2 (rest_texts (sender_texts uri)))) s.start_said
    ∙ ap (λ (f : Option Form). Some (start 1 None (profile_of uri ∷ [])) ∷ f ∷ map message_said (rest_texts (rest_texts (sender_texts uri)))) s.close_said
    ∙ ap (λ (f : Option Form). Some (start 1 None (profile_of uri ∷ [])) ∷ Some (close 1 200 []) ∷ f ∷ []) s.release_said
  where
    rest_texts : List (List ℕ) → List (List ℕ)
    rest_texts [] = []
    rest_texts (x ∷ xs) = xs

pub front-take : {X : Type 0} (xs ys zs : List X) (n : ℕ) → xs ++ ys ≡ take n zs → (xs ≡ take (length xs) zs) × (length xs ≤ n)
front-take [] ys zs n e = (refl, omega arith)
front-take (x ∷ xs) ys [] zero e = absurd (cc e)
front-take (x ∷ xs) ys [] (suc n) e = absurd (cc e)
front-take (x ∷ xs) ys (z ∷ zs) zero e = absurd (cc e)
front-take {X} (x ∷ xs) ys (z ∷ zs) (suc n) e =
    let first : x ≡ z = cc (e) in
    let others : xs ++ ys ≡ take n zs = cc (e) in
    let rest = front-take xs ys zs n others in
    let few = rest.1 in
    (ap (λ (y : X). y ∷ xs) first ∙ ap (λ (l : List X). z ∷ l) rest.0, omega (arith, few))

-- at 2 stands the close of channel 1 or nothing yet
nth-two : (uri : List ℕ) (m : ℕ) → (nth 2 (None ∷ take m (three_forms uri)) ≡ None) ⊎ (nth 2 (None ∷ take m (three_forms uri)) ≡ Some (close 1 200 []))
nth-two uri zero = inl refl
nth-two uri (suc zero) = inl refl
nth-two uri (suc (suc m)) = inr refl

two-sent : (uri : List ℕ) (m : ℕ) → says_close (nth 2 (None ∷ take m (three_forms uri))) ≡ true → 2 ≤ m
two-sent uri zero e = absurd cc
two-sent uri (suc zero) e = absurd cc
two-sent uri (suc (suc m)) e = omega arith

-- a close among the first two stands there
nth-close : (uri : List ℕ) (m p : ℕ) → m ≤ 2 → says_close (nth p (None ∷ take m (three_forms uri))) ≡ true → p ≡ 2
nth-close uri zero zero few e = absurd cc
nth-close uri zero (suc p) few e = absurd cc
nth-close uri (suc zero) zero few e = absurd cc
nth-close uri (suc zero) (suc zero) few e = absurd cc
nth-close uri (suc zero) (suc (suc p)) few e = absurd cc
nth-close uri (suc (suc zero)) zero few e = absurd cc
nth-close uri (suc (suc zero)) (suc zero) few e = absurd cc
nth-close uri (suc (suc zero)) (suc (suc zero)) few e = refl
nth-close uri (suc (suc zero)) (suc (suc (suc p))) few e = absurd cc
nth-close uri (suc (suc (suc m))) p few e = absurd (omega (arith, few))

-- ---- the oldest that is kept

asked-nth : (side : Side) (es : List Event) (kepts : List Kept) (forms : List (Option Form)) (i : ℕ) (kept : Kept) → AreAsked side es kepts forms → slice_get kepts i ≡ Some kept
    → kept.said ≡ nth i forms
asked-nth side es [] forms i kept a at = absurd (let h : None ≡ Some kept = at in cc)
asked-nth side es (k ∷ kepts) [] i kept a at = absurd a
asked-nth side es (k ∷ kepts) (form ∷ forms) zero kept a at = ap (λ (x : Kept). x.said) (sym (same k kept at)) ∙ a.0.said
  where
    same : (x y : Kept) → Some x ≡ Some y → x ≡ y
    same x y e = cc (e)
asked-nth side es (k ∷ kepts) (form ∷ forms) (suc i) kept a at = asked-nth side es kepts forms i kept a.1 at

-- positions number a list from its end
nth-said : (forms : List (Option Form)) (i p : ℕ) → p + suc i ≡ length forms → nth i forms ≡ said_at p forms
nth-said [] i p e = absurd (omega (arith, e))
nth-said (form ∷ forms) zero p e =
    sym (ap (λ (n : ℕ). if length forms == n then form else said_at n forms) (let same : p ≡ length forms = omega (arith, e) in same)
    ∙ ap (λ (b : Bool). if b then form else said_at (length forms) forms) (same-number (length forms)))
nth-said (form ∷ forms) (suc i) p e =
    nth-said forms i p (omega (arith, e))
    ∙ sym (ap (λ (b : Bool). if b then form else said_at p forms) (apart-from (length forms) p (omega (arith, e))))
  where
    apart-from : (n q : ℕ) → q < n → (n == q) ≡ false
    apart-from n q less = grind (arith, nat_tests, less)

reply-kind : (kind : Kind) → is_msg kind ≡ false → is_reply kind ≡ true
reply-kind Kind.Msg e = absurd cc
reply-kind Kind.Rpy e = refl
reply-kind Kind.Err e = refl
reply-kind Kind.Ans e = refl
reply-kind Kind.Nul e = refl

-- ---- a reply that waits

module _ (plan : PlainPlan) (p : Progress) (session : Held) (log : List Moment) (w : SendsWaiting plan p session log) (reply : is_msg w.on.head.kind ≡ false)
    (fits : completes_form Side.Received w.on.head w.on.payload (zero_history w.on.journal) ≡ true) (kept : Kept) (there : oldest session.peer.management.mine.requests ≡ Some kept)
    (settled : Settled) (is : IsSettledAs kept (message_said (gathered Side.Received (zero_history w.on.journal) ++ w.on.payload)) settled) where
  abbrev o : WaitsOn session log
  o = w.on

  abbrev past : List Item
  past = zero_history o.journal

  abbrev said : Option Form
  said = message_said (gathered Side.Received past ++ o.payload)

  abbrev item : Item
  item = passed Side.Received o.head o.payload

  abbrev place : ℕ
  place = position_of Side.Received past o.head

  abbrev request : Option Form
  request = said_to Side.Received o.head past

  keeps : KeepsExchangeRules past
  keeps = keeps-zero plan.raw_uri w.sender.texts (terms_of session) w.sender.role o.journal o.given o.taken session.peer.lives o.waits.waits.live p.asked w.sends.asked

  abbrev sent : List (List ℕ)
  sent = requests_from [] (marks Side.Sent past)

  front : (sent ≡ take (length sent) (sender_texts plan.raw_uri)) × (length sent ≤ p.asked)
  front =
      front-take sent (later plan.raw_uri w.sender.texts (terms_of session) w.sender.role o.journal o.given o.taken session.peer.lives o.waits.waits.live p.asked w.sends.asked)
      (sender_texts plan.raw_uri) p.asked
      (texts-are plan.raw_uri w.sender.texts (terms_of session) w.sender.role o.journal o.given o.taken session.peer.lives o.waits.waits.live p.asked w.sends.asked)

  own-are : own_forms past ≡ None ∷ take (length sent) (three_forms plan.raw_uri)
  own-are =
      ap (λ (ts : List (List ℕ)). None ∷ map message_said ts) front.0
      ∙ ap (λ (l : List (Option Form)). None ∷ l) (sym (take-map message_said (length sent) (sender_texts plan.raw_uri)) ∙ ap (take (length sent)) (texts-said plan.raw_uri w.sender.texts))

  request-is : request ≡ nth place (None ∷ take (length sent) (three_forms plan.raw_uri))
  request-is = (asked-so o.journal keeps).said place ∙ ap (nth place) own-are

  -- the oldest that is kept is the request that the reply names
  s : Sound Side.Sent past
  s = sound Side.Sent past keeps

  due : IsDue Side.Sent s.oldest past o.head
  due = s.due o.head (zero-under o.journal o.head o.waits.waits.zero_is o.waits.waits.begun) (reply-kind o.head.kind reply)

  at-oldest : place ≡ s.oldest
  at-oldest =
      ap (λ (b : Bool). if b then length (requests Side.Received past) - 1 else option_map_or (λ (r : Request). r.position) (latest Side.Sent o.head.msgno past) 0) reply
      ∙ ap (λ (x : Option Request). option_map_or (λ (r : Request). r.position) x 0) due.found ∙ due.at

  abbrev mine : List Kept
  mine = session.peer.management.mine.requests

  waiting : AreWaiting Side.Sent past mine
  waiting = o.waits.manages.is.mine

  count-is : s.oldest + length mine ≡ length (asked Side.Sent past)
  count-is = of s.oldest refl
    where
      upper : (n m a : ℕ) → nat_lt (n + m) a ≡ nat_lt n n → a ≤ n + m
      upper n m a e = grind (arith, nat_tests, e)

      lower : (q m a : ℕ) → nat_lt q (suc q) ≡ nat_lt (q + m) a → suc q + m ≤ a
      lower q m a e = grind (arith, nat_tests, e)

      of : (n : ℕ) → s.oldest ≡ n → s.oldest + length mine ≡ length (asked Side.Sent past)
      of n same = by n same
        where
          most : length (asked Side.Sent past) ≤ s.oldest + length mine
          most = upper s.oldest (length mine) (length (asked Side.Sent past)) (sym (waiting.answered s.oldest) ∙ s.answered s.oldest)

          by : (n : ℕ) → s.oldest ≡ n → s.oldest + length mine ≡ length (asked Side.Sent past)
          by zero e = let within = waiting.within in omega (arith, e, most, within)
          by (suc q) e =
              let least = lower q (length mine) (length (asked Side.Sent past))
              (sym (s.answered q ∙ ap (λ (n : ℕ). nat_lt q n) e) ∙ waiting.answered q) in
              omega (arith, e, most, least)

  kept-is : kept.said ≡ request
  kept-is =
      asked-nth Side.Sent (zero_events past) mine (asked Side.Sent past) (length mine - 1) kept waiting.asked there
      ∙ nth-said (asked Side.Sent past) (length mine - 1) place
      (let at = at-oldest in let count = count-is in let some = some-mine mine there in omega (arith, at, count, some))
    where
      some-mine : (kepts : List Kept) → slice_get kepts (length kepts - 1) ≡ Some kept → 0 < length kepts
      some-mine [] e = absurd (let h : None ≡ Some kept = e in cc)
      some-mine (k ∷ kepts) e = omega arith

  granted : (n : ℕ) → place ≡ n → same_kind Kind.Rpy o.head.kind ≡ true → grants_own n item o.journal ≡ true
  granted n at rpy =
      all-five (o.head.channel == 0) (same_kind Kind.Rpy o.head.kind) (not o.head.more) (place == n) (completes_form Side.Received o.head o.payload past) o.waits.waits.zero_is rpy
      (ap not o.waits.waits.last) (ap (λ (i : ℕ). i == n) at ∙ same-number n) fits
    where
      all-five : (a b c d e : Bool) → a ≡ true → b ≡ true → c ≡ true → d ≡ true → e ≡ true → (a && b && c && d && e) ≡ true
      all-five true true true true true f g h i j = refl
      all-five true true true true false f g h i j = absurd cc
      all-five true true true false e f g h i j = absurd cc
      all-five true true false d e f g h i j = absurd cc
      all-five true false c d e f g h i j = absurd cc
      all-five false b c d e f g h i j = absurd cc

  rpy-form : same_kind Kind.Rpy o.head.kind ≡ true → is_grant place request said ≡ true
  rpy-form rpy = of o.head.kind rpy fits
    where
      of : (k : Kind) → same_kind Kind.Rpy k ≡ true → has_form k place request said ≡ true → is_grant place request said ≡ true
      of Kind.Msg e f = absurd cc
      of Kind.Rpy e f = f
      of Kind.Err e f = absurd cc
      of Kind.Ans e f = absurd cc
      of Kind.Nul e f = absurd cc

  -- the peer's greeting
  pub greeted-asks : settled ≡ Settled.Greeted → grants_own 0 item o.journal ≡ true
  greeted-asks e =
      let f = greeting-form o.head.kind place request said (settled-greets kept said settled is (ap is_greeted e)) fits in
      granted 0 (equal-number place 0 f.1) f.0

  pub asks-greeted : grants_own 0 item o.journal ≡ true → settled ≡ Settled.Greeted
  asks-greeted e =
      let g = granting 0 o.head o.payload o.journal e in
      let none : request ≡ None = request-is ∙ ap (λ (i : ℕ). nth i (None ∷ take (length sent) (three_forms plan.raw_uri))) g.at in
      greets-settled kept said settled is (first-grant place said (ap (λ (r : Option Form). is_grant place r said) (sym none) ∙ rpy-form g.rpy))

  -- the grant of the own close
  pub asks-closed : grants_own 2 item o.journal ≡ true → closes_own settled ≡ true
  asks-closed e = of (nth-two plan.raw_uri (length sent))
    where
      g : Granting 2 o.head o.journal
      g = granting 2 o.head o.payload o.journal e

      at-two : request ≡ nth 2 (None ∷ take (length sent) (three_forms plan.raw_uri))
      at-two = request-is ∙ ap (λ (i : ℕ). nth i (None ∷ take (length sent) (three_forms plan.raw_uri))) g.at

      of : (nth 2 (None ∷ take (length sent) (three_forms plan.raw_uri)) ≡ None) ⊎ (nth 2 (None ∷ take (length sent) (three_forms plan.raw_uri)) ≡ Some (close 1 200 [])) → closes_own settled ≡ true
      of (inl none) =
          absurd (let h : false ≡ true = ap (λ (i : ℕ). i == 0) (sym g.at) ∙ none-grant place said (ap (λ (r : Option Form). is_grant place r said) (sym (at-two ∙ none)) ∙ rpy-form g.rpy) in cc)
      of (inr one) =
          closes-settled kept said settled (kept-is ∙ at-two ∙ one) is
          (close-grant place 1 200 [] said (ap (λ (r : Option Form). is_grant place r said) (sym (at-two ∙ one)) ∙ rpy-form g.rpy))

  -- which was asked
  pub two-asked : grants_own 2 item o.journal ≡ true → 2 ≤ p.asked
  two-asked e =
      let g = granting 2 o.head o.payload o.journal e in
      let f = okay-form o.head.kind place request said (settled-closes kept said settled is (asks-closed e)) fits in
      let sent_two = two-sent plan.raw_uri (length sent) (ap says_close (sym (request-is ∙ ap (λ (i : ℕ). nth i (None ∷ take (length sent) (three_forms plan.raw_uri))) g.at)) ∙ f.1) in
      let within = front.1 in
      omega (arith, sent_two, within)

  pub closed-asks : closes_own settled ≡ true → p.asked ≤ 2 → grants_own 2 item o.journal ≡ true
  closed-asks e few =
      let f = okay-form o.head.kind place request said (settled-closes kept said settled is e) fits in
      let within = front.1 in
      granted 2 (nth-close plan.raw_uri (length sent) place (omega (arith, within, few)) (ap says_close (sym request-is) ∙ f.1)) f.0

  pub reply-asks : AsksSo p.asked settled item o.journal
  reply-asks = record { greeted = greeted-asks; greets = asks-greeted; closed = closed-asks; closes = asks-closed; two = two-asked }

-- ---- a request that waits

request-settled : (d : Decision) (said : Option Form) (settled : Settled) (waits : Wait) → SettledBy d said settled waits → (is_greeted settled ≡ false) × (closes_own settled ≡ false)
request-settled (refuse code) None settled waits b = (ap is_greeted b.0, ap closes_own b.0)
request-settled (refuse code) (Some (greeting features2 localize2 profiles2)) settled waits b = (ap is_greeted b.0, ap closes_own b.0)
request-settled (refuse code) (Some (start number2 server2 profiles2)) settled waits b = (ap is_greeted b.0, ap closes_own b.0)
request-settled (refuse code) (Some (chosen profile2)) settled waits b = (ap is_greeted b.0, ap closes_own b.0)
request-settled (refuse code) (Some (close number2 code2 note2)) settled waits b = (ap is_greeted b.0, ap closes_own b.0)
request-settled (refuse code) (Some okay) settled waits b = (ap is_greeted b.0, ap closes_own b.0)
request-settled (refuse code) (Some (fault code2 note2)) settled waits b = (ap is_greeted b.0, ap closes_own b.0)
request-settled (choose place) None settled waits b = absurd b
request-settled (choose place) (Some (greeting features2 localize2 profiles2)) settled waits b = absurd b
request-settled (choose place) (Some (start number2 server2 profiles2)) settled waits b = (ap is_greeted b.0, ap closes_own b.0)
request-settled (choose place) (Some (chosen profile2)) settled waits b = absurd b
request-settled (choose place) (Some (close number2 code2 note2)) settled waits b = absurd b
request-settled (choose place) (Some okay) settled waits b = absurd b
request-settled (choose place) (Some (fault code2 note2)) settled waits b = absurd b
request-settled (tune place content) said settled waits b = absurd b
request-settled grant_close None settled waits b = absurd b
request-settled grant_close (Some (greeting features2 localize2 profiles2)) settled waits b = absurd b
request-settled grant_close (Some (start number2 server2 profiles2)) settled waits b = absurd b
request-settled grant_close (Some (chosen profile2)) settled waits b = absurd b
request-settled grant_close (Some (close number2 code2 note2)) settled waits b = (ap is_greeted b.0, ap closes_own b.0)
request-settled grant_close (Some okay) settled waits b = absurd b
request-settled grant_close (Some (fault code2 note2)) settled waits b = absurd b

-- it has a sender ask nothing
request-asks : (asked : ℕ) (d : Decision) (said : Option Form) (settled : Settled) → IsSettledBy d said settled → (head : Head) (payload : List ℕ) (journal : List Item) → is_msg head.kind ≡ true
    → AsksSo asked settled (passed Side.Received head payload) journal
request-asks asked d said settled by head payload journal request =
    let none = request-settled d said settled by.waits by.by in
    record {
      greeted = λ e. absurd (apart (is_greeted settled) (ap is_greeted e) none.0);
      greets = λ e. absurd (no-reply (granting 0 head payload journal e).rpy);
      closed = λ e few. absurd (apart (closes_own settled) e none.1);
      closes = λ e. absurd (no-reply (granting 2 head payload journal e).rpy);
      two = λ e. absurd (no-reply (granting 2 head payload journal e).rpy);
    }
  where
    no-reply : same_kind Kind.Rpy head.kind ≡ true → ⊥
    no-reply rpy = of head.kind request rpy
      where
        of : (k : Kind) → is_msg k ≡ true → same_kind Kind.Rpy k ≡ true → ⊥
        of Kind.Msg e f = absurd cc
        of Kind.Rpy e f = absurd cc
        of Kind.Err e f = absurd cc
        of Kind.Ans e f = absurd cc
        of Kind.Nul e f = absurd cc

-- ---- either

pub settled-asks : (plan : PlainPlan) (p : Progress) (session : Held) (log : List Moment) (w : SendsWaiting plan p session log) (d : Decision) (settled : Settled)
    → (is_msg w.on.head.kind ≡ true → IsSettledBy d (message_said (gathered Side.Received (zero_history w.on.journal) ++ w.on.payload)) settled)
    → (is_msg w.on.head.kind ≡ false → completes_form Side.Received w.on.head w.on.payload (zero_history w.on.journal) ≡ true)
    → (is_msg w.on.head.kind ≡ false → (one : Kept) → oldest session.peer.management.mine.requests ≡ Some one
    → IsSettledAs one (message_said (gathered Side.Received (zero_history w.on.journal) ++ w.on.payload)) settled)
    → (is_msg w.on.head.kind ≡ false → (one : Kept) × (oldest session.peer.management.mine.requests ≡ Some one))
    → AsksSo p.asked settled (passed Side.Received w.on.head w.on.payload) w.on.journal
settled-asks plan p session log w d settled asked fits replied there = of (is_msg w.on.head.kind) refl
  where
    of : (b : Bool) → is_msg w.on.head.kind ≡ b → AsksSo p.asked settled (passed Side.Received w.on.head w.on.payload) w.on.journal
    of true msg =
        request-asks p.asked d (message_said (gathered Side.Received (zero_history w.on.journal) ++ w.on.payload)) settled (asked msg) w.on.head w.on.payload w.on.journal msg
    of false reply =
        let one = there reply in
        reply-asks plan p session log w reply (fits reply) one.0 one.1 settled (replied reply one.0 one.1)
