-- The life of channel 1 that a sender starts began with the profile that it asked for.
use Rattle.std.proofs.Common.{◌≡◌, ℕ, zero, suc, ◌+◌, ◌<◌, ◌==◌, nat_lt, Bool, true, false, not, ◌&&◌, ◌||◌, if◌then◌else◌, List, [], ◌∷◌, ◌++◌, map, take, drop, length, Option, None, Some, ◌⊎◌, inl, inr, refl, sym, ap, ◌∙◌, subst, arith, ⊎_elim}
use Rattle.std.specs.Prelude.{bytes_eq}
use Rattle.std.specs.Option.{is_none}
use Rattle.std.proofs.lemmas.Bool.{eqb-true, lt-ltb}
use Rattle.std.proofs.lemmas.Bool.Decides.{nat_tests}
use Rattle.std.proofs.lemmas.List.{append_assoc, take-append-drop}
use Rattle.beep_script.specs.beep_frame.specs.declared.head.Head.{Head}
use Rattle.beep_script.specs.beep_frame.specs.declared.kind.Kind.{Kind}
use Rattle.beep_script.specs.beep_frame.specs.Frame.{is_msg, same_kind}
use Rattle.beep_script.specs.beep_history.specs.declared.journal.Side.{Side}
use Rattle.beep_script.specs.beep_history.specs.Journal.{Item, began, passed, told}
use Rattle.beep_script.specs.beep_history.specs.Marks.{Mark, position_of, marks}
use Rattle.beep_script.specs.beep_history.specs.Broken.{KeepsExchangeRules}
use Rattle.beep_script.specs.beep_mgmt.specs.Form.{Form, PlainProfile, greeting, start, chosen, close, okay, fault}
use Rattle.beep_script.specs.beep_mgmt.specs.Message.{message_said, message_text}
use Rattle.beep_script.specs.beep_journal.specs.declared.role.Role.{Role}
use Rattle.beep_script.specs.beep_journal.specs.Broken.{none_tunes}
use Rattle.beep_script.specs.beep_journal.specs.Lives.{Event, start_granted, lives, has_ended}
use Rattle.beep_script.specs.beep_journal.specs.Zero.{channel_of, zero_history, zero_events, gathered, asked, said_at, said_to, is_choice_of, is_grant, has_form, completes_form, coming, granting, effect, events}
use Rattle.beep_script.specs.beep_decide.specs.Asks.{is_start_of}
use Rattle.beep_script.specs.beep_decide.specs.Numbers.{may_start, other_role}
use Rattle.beep_script.specs.beep_lawful.specs.declared.breach.Breach.{Breach}
use Rattle.beep_script.specs.beep_lawful.specs.declared.terms.Terms.{Terms}
use Rattle.beep_script.specs.beep_lawful.specs.Lawful.{first_breach, breaks_apart, breaks_content, content_tests, request_said, breaks_grant_number, granted_said, granted_position, unlawful_frame, unlawful_item, is_lawful}
use Rattle.beep_script.specs.beep_talk.specs.AtZero.{profile_of}
use Rattle.beep_script.specs.beep_talk.specs.Talk.{says_profile, chooses, begins_with, has_profile}
use Rattle.beep_script.specs.Requested.{requests_from, sender_texts, SenderTexts}
use Rattle.beep_script.proofs.RequestedLemmas.{nth, own_forms, requests-append, asked-so}
use Rattle.beep_replies.proofs.CountLemmas.{keeps-where}

-- ---- what an own request says

-- a start is of this profile alone
abbrev pub StartsSo : List ℕ → Option Form → Type 0
StartsSo uri None = Unit {0}
StartsSo uri (Some (greeting features localize profiles)) = Unit {0}
StartsSo uri (Some (start number server profiles)) = profiles ≡ profile_of uri ∷ []
StartsSo uri (Some (chosen profile)) = Unit {0}
StartsSo uri (Some (close number code note)) = Unit {0}
StartsSo uri (Some okay) = Unit {0}
StartsSo uri (Some (fault code note)) = Unit {0}

-- each of the own requests
abbrev pub AreStartsSo : List ℕ → List (Option Form) → Type 0
AreStartsSo uri forms = (p : ℕ) → StartsSo uri (nth p forms)

front-so : (uri : List ℕ) (xs ys : List (Option Form)) (p : ℕ) → StartsSo uri (nth p (xs ++ ys)) → StartsSo uri (nth p xs)
front-so uri [] ys p so = tt
front-so uri (x ∷ xs) ys zero so = so
front-so uri (x ∷ xs) ys (suc p) so = front-so uri xs ys p so

map-append : (xs ys : List (List ℕ)) → map message_said (xs ++ ys) ≡ map message_said xs ++ map message_said ys
map-append [] ys = refl
map-append (x ∷ xs) ys = ap (λ rest. message_said x ∷ rest) (map-append xs ys)

abbrev all_forms : List ℕ → List (Option Form)
all_forms uri = None ∷ Some (start 1 None (profile_of uri ∷ [])) ∷ Some (close 1 200 []) ∷ Some (close 0 200 []) ∷ []

whole-forms : (uri : List ℕ) → SenderTexts uri → None ∷ map message_said (sender_texts uri) ≡ all_forms uri
whole-forms uri said =
    ap (λ (f : Option Form). None ∷ f ∷ message_said (message_text (close 1 200 [])) ∷ message_said (message_text (close 0 200 [])) ∷ []) said.start_said
    ∙ ap (λ (f : Option Form). None ∷ Some (start 1 None (profile_of uri ∷ [])) ∷ f ∷ message_said (message_text (close 0 200 [])) ∷ []) said.close_said
    ∙ ap (λ (f : Option Form). None ∷ Some (start 1 None (profile_of uri ∷ [])) ∷ Some (close 1 200 []) ∷ f ∷ []) said.release_said

all-so : (uri : List ℕ) → AreStartsSo uri (all_forms uri)
all-so uri zero = tt
all-so uri (suc zero) = refl
all-so uri (suc (suc zero)) = tt
all-so uri (suc (suc (suc zero))) = tt
all-so uri (suc (suc (suc (suc p)))) = tt

-- what is asked so far is the first of all
pub sender-so : (uri : List ℕ) → SenderTexts uri → (texts rest : List (List ℕ)) (count : ℕ) → texts ++ rest ≡ take count (sender_texts uri)
    → AreStartsSo uri (None ∷ map message_said texts)
sender-so uri said texts rest count are p =
    front-so uri (None ∷ map message_said texts) (map message_said (rest ++ drop count (sender_texts uri))) p
    (subst (λ (forms : List (Option Form)). StartsSo uri (nth p forms)) (sym grown) (all-so uri p))
  where
    grown : (None ∷ map message_said texts) ++ map message_said (rest ++ drop count (sender_texts uri)) ≡ all_forms uri
    grown =
        ap (λ (fs : List (Option Form)). None ∷ fs) (sym (map-append texts (rest ++ drop count (sender_texts uri)))
        ∙ ap (map message_said) (sym (append_assoc texts rest (drop count (sender_texts uri))) ∙ ap (λ (ts : List (List ℕ)). ts ++ drop count (sender_texts uri)) are ∙ take-append-drop count (sender_texts uri)))
        ∙ whole-forms uri said

-- ---- the own requests before are the first of those now

grown-so : (uri : List ℕ) (old new more : List Mark) → new ≡ old ++ more → AreStartsSo uri (None ∷ map message_said (requests_from [] new)) → AreStartsSo uri (None ∷ map message_said (requests_from [] old))
grown-so uri old new more is so p =
    let grown : None ∷ map message_said (requests_from [] new) ≡ (None ∷ map message_said (requests_from [] old)) ++ map message_said (requests_from _ more) =
    ap (λ (ms : List Mark). None ∷ map message_said (requests_from [] ms)) is
    ∙ ap (λ (ts : List (List ℕ)). None ∷ map message_said ts) (requests-append [] old more)
    ∙ ap (λ (fs : List (Option Form)). None ∷ fs) (map-append (requests_from [] old) _) in
    front-so uri (None ∷ map message_said (requests_from [] old)) (map message_said (requests_from _ more)) p
    (subst (λ (fs : List (Option Form)). StartsSo uri (nth p fs)) grown (so p))

item-so : (uri : List ℕ) (item : Item) (past : List Item) → AreStartsSo uri (own_forms (item ∷ past)) → AreStartsSo uri (own_forms past)
item-so uri (began by head) past so = so
item-so uri (told by seq) past so = so
item-so uri (passed by head payload) past so = grown-so uri (marks Side.Sent past) (marks Side.Sent (passed by head payload ∷ past)) _ refl so

where-so : (uri : List ℕ) (b : Bool) (item : Item) (past : List Item) → AreStartsSo uri (own_forms (if b then item ∷ past else past)) → AreStartsSo uri (own_forms past)
where-so uri true item past so = item-so uri item past so
where-so uri false item past so = so

-- ---- moments

abbrev count_one : List Event → ℕ
count_one es = lives 1 es

coming-lives : (by : Side) (p : ℕ) (form : Option Form) (es : List Event) → count_one (coming by p form ++ es) ≡ count_one es
coming-lives by p None es = refl
coming-lives by p (Some (greeting features localize profiles)) es = refl
coming-lives by p (Some (start number server profiles)) es = refl
coming-lives by p (Some (chosen profile)) es = refl
coming-lives by p (Some (close number code note)) es = refl
coming-lives by p (Some okay) es = refl
coming-lives by p (Some (fault code note)) es = refl

other-start : (number : ℕ) (es : List Event) → (number == 1) ≡ false → count_one ((if nat_lt 0 number then start_granted number ∷ [] else []) ++ es) ≡ count_one es
other-start number es apart = by (nat_lt 0 number)
  where
    by : (b : Bool) → count_one ((if b then start_granted number ∷ [] else []) ++ es) ≡ count_one es
    by true = ap (λ (b : Bool). if b && not (nat_lt 0 (lives 1 es) && not (has_ended 1 (lives 1 es) es)) then lives 1 es + 1 else lives 1 es) apart
    by false = refl

granting-other : (by : Side) (p : ℕ) (form : Option Form) (es : List Event) → is_start_of 1 form ≡ false → count_one (granting by p form ++ es) ≡ count_one es
granting-other by p None es none = refl
granting-other by p (Some (greeting features localize profiles)) es none = refl
granting-other by p (Some (start number server profiles)) es none = other-start number es none
granting-other by p (Some (chosen profile)) es none = refl
granting-other by p (Some (close number code note)) es none = refl
granting-other by p (Some okay) es none = refl
granting-other by p (Some (fault code note)) es none = refl

-- a life more, and the profile is the one
abbrev Grows : List ℕ → Option Form → List Event → List Event → Type 0
Grows uri reply old new = (lives 1 new ≡ lives 1 old) ⊎ ((lives 1 new ≡ lives 1 old + 1) × (says_profile uri reply ≡ true))

start-lives : (uri : List ℕ) (reply : Option Form) (number : ℕ) (es : List Event) → says_profile uri reply ≡ true
    → Grows uri reply es ((if nat_lt 0 number then start_granted number ∷ [] else []) ++ es)
start-lives uri reply number es says = by (nat_lt 0 number)
  where
    begins : (b : Bool) → (number == 1 && not (nat_lt 0 (lives 1 es) && not (has_ended 1 (lives 1 es) es))) ≡ b → Grows uri reply es (start_granted number ∷ es)
    begins true is = inr (ap (λ (b : Bool). if b then lives 1 es + 1 else lives 1 es) is, says)
    begins false is = inl (ap (λ (b : Bool). if b then lives 1 es + 1 else lives 1 es) is)

    by : (b : Bool) → Grows uri reply es ((if b then start_granted number ∷ [] else []) ++ es)
    by true = begins (number == 1 && not (nat_lt 0 (lives 1 es) && not (has_ended 1 (lives 1 es) es))) refl
    by false = inl refl

turned : (xs ys : List ℕ) → bytes_eq xs ys ≡ true → bytes_eq ys xs ≡ true
turned [] [] e = refl
turned [] (y ∷ ys) e = absurd cc
turned (x ∷ xs) [] e = absurd cc
turned (x ∷ xs) (y ∷ ys) e = both (x == y) refl e (turned xs ys)
  where
    swap : (a b : ℕ) → (a == b) ≡ true → (b == a) ≡ true
    swap a b same = grind (arith, nat_tests)

    both : (b : Bool) → (x == y) ≡ b → (b && bytes_eq xs ys) ≡ true → (bytes_eq xs ys ≡ true → bytes_eq ys xs ≡ true) → ((y == x) && bytes_eq ys xs) ≡ true
    both true same rest later = ap (λ (c : Bool). c && bytes_eq ys xs) (swap x y same) ∙ later rest
    both false same rest later = absurd cc

-- what is chosen of this profile alone is this profile
choice-so : (uri : List ℕ) (profiles : List PlainProfile) (profile : PlainProfile) → profiles ≡ profile_of uri ∷ [] → is_choice_of profiles profile ≡ true → bytes_eq profile.uri uri ≡ true
choice-so uri profiles profile one is =
    turned uri profile.uri (first (bytes_eq uri profile.uri) profile.readable (ap (λ (ps : List PlainProfile). is_choice_of ps profile) (sym one) ∙ is))
  where
    first : (a b : Bool) → ((a || false) && b) ≡ true → a ≡ true
    first true b e = refl
    first false b e = absurd cc

grant-lives : (uri : List ℕ) (p : ℕ) (request reply : Option Form) (es : List Event) → is_grant p request reply ≡ true → StartsSo uri request → Grows uri reply es (granting Side.Sent p request ++ es)
grant-lives uri p None reply es is so = inl refl
grant-lives uri p (Some (greeting features localize profiles)) reply es is so = inl refl
grant-lives uri p (Some (start number server profiles)) None es is so = absurd (let g : false ≡ true = is in cc)
grant-lives uri p (Some (start number server profiles)) (Some (greeting features localize others)) es is so = absurd (let g : false ≡ true = is in cc)
grant-lives uri p (Some (start number server profiles)) (Some (start other_number from others)) es is so = absurd (let g : false ≡ true = is in cc)
grant-lives uri p (Some (start number server profiles)) (Some (chosen profile)) es is so = start-lives uri (Some (chosen profile)) number es (choice-so uri profiles profile so is)
grant-lives uri p (Some (start number server profiles)) (Some (close other_number code note)) es is so = absurd (let g : false ≡ true = is in cc)
grant-lives uri p (Some (start number server profiles)) (Some okay) es is so = absurd (let g : false ≡ true = is in cc)
grant-lives uri p (Some (start number server profiles)) (Some (fault code note)) es is so = absurd (let g : false ≡ true = is in cc)
grant-lives uri p (Some (chosen profile)) reply es is so = inl refl
grant-lives uri p (Some (close number code note)) reply es is so = inl refl
grant-lives uri p (Some okay) reply es is so = inl refl
grant-lives uri p (Some (fault code note)) reply es is so = inl refl

rpy-form : (kind : Kind) (p : ℕ) (request reply : Option Form) → (same_kind Kind.Rpy kind && has_form kind p request reply) ≡ true → is_grant p request reply ≡ true
rpy-form Kind.Msg p request reply is = absurd (let g : false ≡ true = is in cc)
rpy-form Kind.Rpy p request reply is = is
rpy-form Kind.Err p request reply is = absurd (let g : false ≡ true = is in cc)
rpy-form Kind.Ans p request reply is = absurd (let g : false ≡ true = is in cc)
rpy-form Kind.Nul p request reply is = absurd (let g : false ≡ true = is in cc)

-- ---- a lawful initiator grants no start of channel 1

fifth : (a b c d e f g : Bool) (t u v w x y z : Breach) (rest : List (Breach × Bool))
    → is_none (first_breach ((t, a) ∷ (u, b) ∷ (v, c) ∷ (w, d) ∷ (x, e) ∷ (y, f) ∷ (z, g) ∷ rest)) ≡ true → g ≡ false
fifth true b c d e f g t u v w x y z rest is = absurd cc
fifth false true c d e f g t u v w x y z rest is = absurd cc
fifth false false true d e f g t u v w x y z rest is = absurd cc
fifth false false false true e f g t u v w x y z rest is = absurd cc
fifth false false false false true f g t u v w x y z rest is = absurd cc
fifth false false false false false true g t u v w x y z rest is = absurd cc
fifth false false false false false false true t u v w x y z rest is = absurd cc
fifth false false false false false false false t u v w x y z rest is = refl

grant-number : (terms : Terms) (journal : List Item) (head : Head) (payload : List ℕ) → is_none (unlawful_frame terms none_tunes journal head payload) ≡ true
    → breaks_grant_number terms.role journal (granted_said journal head) ≡ false
unfolding unlawful_frame
grant-number terms journal head payload is =
    fifth (breaks_apart journal head payload) (breaks_content journal head payload) _ _ _ _ (breaks_grant_number terms.role journal (granted_said journal head))
    Breach.Apart Breach.Rule Breach.OkTooSoon Breach.CloseUnanswered Breach.AfterEnd Breach.StartNumber Breach.GrantNumber
    (drop 5 (content_tests terms none_tunes journal (request_said journal head payload) (granted_position journal head) (granted_said journal head))) is

no-own-start : (role : Role) (journal : List Item) (form : Option Form) → role ≡ Role.Initiator → breaks_grant_number role journal form ≡ false → is_start_of 1 form ≡ false
no-own-start role journal None is fine = refl
no-own-start role journal (Some (greeting features localize profiles)) is fine = refl
no-own-start role journal (Some (chosen profile)) is fine = refl
no-own-start role journal (Some (close number code note)) is fine = refl
no-own-start role journal (Some okay) is fine = refl
no-own-start role journal (Some (fault code note)) is fine = refl
no-own-start role journal (Some (start number server profiles)) is fine = by (number == 1) refl
  where
    may-not : (b : Bool) → (number == 1) ≡ b → may_start (other_role role) number ≡ true → b ≡ false
    may-not false e may = refl
    may-not true e may =
        absurd (let here : may_start Role.Listener 1 ≡ true = subst (λ (r : Role). may_start (other_role r) 1 ≡ true) is (subst (λ (n : ℕ). may_start (other_role role) n ≡ true) (eqb-true number 1 e) may) in odd here)
      where
        odd : false ≡ true → ⊥
        odd e = absurd cc

    first-false : (a b c : Bool) → (not a || b || c) ≡ false → a ≡ true
    first-false true b c e = refl
    first-false false b c e = absurd cc

    by : (b : Bool) → (number == 1) ≡ b → (number == 1) ≡ false
    by false e = e
    by true e = e ∙ may-not true e (first-false (may_start (other_role role) number) _ _ fine)

said-granted : (journal : List Item) (head : Head) → (head.channel == 0) ≡ true → same_kind Kind.Rpy head.kind ≡ true → head.more ≡ false
    → granted_said journal head ≡ said_to Side.Sent head (zero_history journal)
said-granted journal head at_zero rpy last = rw (at_zero, rpy, last) refl

-- ---- an item

left-true : (a b : Bool) → (a && b) ≡ true → a ≡ true
left-true true b e = refl
left-true false b e = absurd cc

right-true : (a b : Bool) → (a && b) ≡ true → b ≡ true
right-true true b e = e
right-true false b e = absurd cc

-- lives stay, or one more begins with the profile
abbrev StepsSo : List ℕ → Item → List Item → Type 0
StepsSo uri item journal = (lives 1 (events (item ∷ journal)) ≡ lives 1 (events journal))
    ⊎ ((lives 1 (events (item ∷ journal)) ≡ lives 1 (events journal) + 1) × (chooses uri item journal ≡ true))

module _ (uri : List ℕ) (terms : Terms) (role : terms.role ≡ Role.Initiator) (head : Head) (payload : List ℕ) (journal : List Item) where
  abbrev past : List Item
  past = zero_history journal

  abbrev es : List Event
  es = events journal

  abbrev Effects : Side → List Event → Type 0
  Effects by moments = (lives 1 (moments ++ es) ≡ lives 1 es)
      ⊎ ((lives 1 (moments ++ es) ≡ lives 1 es + 1) × ((not head.more && says_profile uri (message_said (gathered by past ++ payload))) ≡ true))

  received-step : ((p : ℕ) → StartsSo uri (said_at p (asked Side.Sent past))) → (m k g : Bool) → head.more ≡ m
      → (same_kind Kind.Rpy head.kind && completes_form Side.Received head payload past) ≡ g → Effects Side.Received
      (if m then [] else (if k then coming Side.Received (length (asked Side.Received past)) (message_said (gathered Side.Received past ++ payload))
      else (if g then granting Side.Sent (position_of Side.Received past head) (said_to Side.Received head past) else [])))
  received-step so true k g more is = inl refl
  received-step so false true g more is = inl (coming-lives Side.Received (length (asked Side.Received past)) (message_said (gathered Side.Received past ++ payload)) es)
  received-step so false false false more is = inl refl
  received-step so false false true more is =
      ⊎_elim (λ same. inl same) (λ one. inr (one.0, ap (λ (b : Bool). not b && says_profile uri (message_said (gathered Side.Received past ++ payload))) more ∙ one.1))
      (grant-lives uri (position_of Side.Received past head) (said_to Side.Received head past) (message_said (gathered Side.Received past ++ payload)) es
      (rpy-form head.kind (position_of Side.Received past head) (said_to Side.Received head past) (message_said (gathered Side.Received past ++ payload)) is)
      (so (position_of Side.Received past head)))

  sent-step : (head.channel == 0) ≡ true → is_none (unlawful_frame terms none_tunes journal head payload) ≡ true → (m k g : Bool) → head.more ≡ m
      → (same_kind Kind.Rpy head.kind && completes_form Side.Sent head payload past) ≡ g → Effects Side.Sent
      (if m then [] else (if k then coming Side.Sent (length (asked Side.Sent past)) (message_said (gathered Side.Sent past ++ payload))
      else (if g then granting Side.Received (position_of Side.Sent past head) (said_to Side.Sent head past) else [])))
  sent-step at_zero lawful true k g more is = inl refl
  sent-step at_zero lawful false true g more is = inl (coming-lives Side.Sent (length (asked Side.Sent past)) (message_said (gathered Side.Sent past ++ payload)) es)
  sent-step at_zero lawful false false false more is = inl refl
  sent-step at_zero lawful false false true more is =
      inl (granting-other Side.Received (position_of Side.Sent past head) (said_to Side.Sent head past) es
      (ap (is_start_of 1) (sym (said-granted journal head at_zero (left-true (same_kind Kind.Rpy head.kind) (completes_form Side.Sent head payload past) is) more))
      ∙ no-own-start terms.role journal (granted_said journal head) role (grant-number terms journal head payload lawful)))

  placed-step : (by : Side) → (head.channel == 0) ≡ true → Effects by (effect by head payload past) → StepsSo uri (passed by head payload) journal
  placed-step by at_zero step =
      ⊎_elim (λ same. inl (now ∙ same)) (λ one. inr (now ∙ one.0, ap (λ (b : Bool). b && not head.more && says_profile uri (message_said (gathered by past ++ payload))) at_zero ∙ one.1)) step
    where
      now : lives 1 (events (passed by head payload ∷ journal)) ≡ lives 1 (effect by head payload past ++ es)
      now = ap (λ (b : Bool). lives 1 (zero_events (if b then passed by head payload ∷ past else past))) at_zero

step-so : (uri : List ℕ) (terms : Terms) → terms.role ≡ Role.Initiator → (item : Item) (journal : List Item) → ((p : ℕ) → StartsSo uri (said_at p (asked Side.Sent (zero_history journal))))
    → is_none (unlawful_item terms none_tunes journal item) ≡ true → StepsSo uri item journal
step-so uri terms role (began by head) journal so lawful = inl (none (head.channel == 0))
  where
    none : (b : Bool) → lives 1 (zero_events (if b then began by head ∷ zero_history journal else zero_history journal)) ≡ lives 1 (events journal)
    none true = refl
    none false = refl
step-so uri terms role (told by seq) journal so lawful = inl (none (seq.channel == 0))
  where
    none : (b : Bool) → lives 1 (zero_events (if b then told by seq ∷ zero_history journal else zero_history journal)) ≡ lives 1 (events journal)
    none true = refl
    none false = refl
step-so uri terms role (passed Side.Received head payload) journal so lawful = of (head.channel == 0) refl
  where
    of : (b : Bool) → (head.channel == 0) ≡ b → StepsSo uri (passed Side.Received head payload) journal
    of true at = placed-step uri terms role head payload journal Side.Received at
        (received-step uri terms role head payload journal so head.more (is_msg head.kind) (same_kind Kind.Rpy head.kind && completes_form Side.Received head payload (zero_history journal)) refl refl)
    of false at = inl (ap (λ (b : Bool). lives 1 (zero_events (if b then passed Side.Received head payload ∷ zero_history journal else zero_history journal))) at)
step-so uri terms role (passed Side.Sent head payload) journal so lawful = of (head.channel == 0) refl
  where
    of : (b : Bool) → (head.channel == 0) ≡ b → StepsSo uri (passed Side.Sent head payload) journal
    of true at = placed-step uri terms role head payload journal Side.Sent at
        (sent-step uri terms role head payload journal at lawful head.more (is_msg head.kind) (same_kind Kind.Rpy head.kind && completes_form Side.Sent head payload (zero_history journal)) refl refl)
    of false at = inl (ap (λ (b : Bool). lives 1 (zero_events (if b then passed Side.Sent head payload ∷ zero_history journal else zero_history journal))) at)

-- ---- the first life

first-lives : lives 1 (events []) ≡ 0
first-lives = coming-lives Side.Sent 0 (message_said []) (coming Side.Received 0 (message_said []) ++ []) ∙ coming-lives Side.Received 0 (message_said []) []

or-right : (a b : Bool) → b ≡ true → (a || b) ≡ true
or-right true b e = refl
or-right false b e = e

pub began-so : (uri : List ℕ) (terms : Terms) (journal : List Item) → terms.role ≡ Role.Initiator → KeepsExchangeRules (zero_history journal)
    → AreStartsSo uri (own_forms (zero_history journal)) → is_lawful terms none_tunes journal ≡ true → 0 < lives 1 (events journal) → has_profile uri 1 1 journal ≡ true
began-so uri terms [] role keeps so lawful some = absurd (let g = first-lives in omega (arith, g, some))
began-so uri terms (item ∷ journal) role keeps so lawful some =
    of (nat_lt 0 (lives 1 (events journal))) refl step (began-so uri terms journal role earlier before lawful_then)
  where
    earlier : KeepsExchangeRules (zero_history journal)
    earlier = keeps-where (channel_of item == 0) item (zero_history journal) keeps

    before : AreStartsSo uri (own_forms (zero_history journal))
    before = where-so uri (channel_of item == 0) item (zero_history journal) so

    lawful_then : is_lawful terms none_tunes journal ≡ true
    lawful_then = right-true (is_none (unlawful_item terms none_tunes journal item)) (is_lawful terms none_tunes journal) lawful

    step : StepsSo uri item journal
    step = step-so uri terms role item journal (λ p. subst (StartsSo uri) (sym ((asked-so journal earlier).said p)) (before p))
        (left-true (is_none (unlawful_item terms none_tunes journal item)) (is_lawful terms none_tunes journal) lawful)

    positive : (n : ℕ) → nat_lt 0 n ≡ true → 0 < n
    positive n e = grind (arith, nat_tests)

    no-lives : (n : ℕ) → nat_lt 0 n ≡ false → n ≡ 0
    no-lives n e = grind (arith, nat_tests)

    of : (b : Bool) → nat_lt 0 (lives 1 (events journal)) ≡ b → StepsSo uri item journal → (0 < lives 1 (events journal) → has_profile uri 1 1 journal ≡ true) → has_profile uri 1 1 (item ∷ journal) ≡ true
    of true is taken had = or-right (begins_with uri 1 1 item journal) (has_profile uri 1 1 journal) (had (positive (lives 1 (events journal)) is))
    of false is (inl same) had = absurd (let none = no-lives (lives 1 (events journal)) is in omega (arith, same, none, some))
    of false is (inr one) had =
        let none = no-lives (lives 1 (events journal)) is in
        let at : (lives 1 (events journal) + 1 == 1) ≡ true = ap (λ (n : ℕ). n + 1 == 1) none in
        let more : nat_lt (lives 1 (events journal)) (lives 1 (events (item ∷ journal))) ≡ true = lt-ltb (lives 1 (events journal)) (lives 1 (events (item ∷ journal))) (let e = one.0 in omega (arith, e)) in
        ap (λ (b : Bool). (b && (lives 1 (events journal) + 1 == 1 && nat_lt (lives 1 (events journal)) (lives 1 (events (item ∷ journal))))) || has_profile uri 1 1 journal) one.1
        ∙ ap (λ (b : Bool). (b && nat_lt (lives 1 (events journal)) (lives 1 (events (item ∷ journal)))) || has_profile uri 1 1 journal) at
        ∙ ap (λ (b : Bool). b || has_profile uri 1 1 journal) more

-- the life of channel 1 of a lawful sender began with the profile that it asks for
pub sender-began : (uri : List ℕ) (terms : Terms) (journal : List Item) (rest : List (List ℕ)) (count : ℕ) → SenderTexts uri → terms.role ≡ Role.Initiator → KeepsExchangeRules (zero_history journal)
    → requests_from [] (marks Side.Sent (zero_history journal)) ++ rest ≡ take count (sender_texts uri) → is_lawful terms none_tunes journal ≡ true → 0 < lives 1 (events journal)
    → has_profile uri 1 1 journal ≡ true
sender-began uri terms journal rest count said role keeps are lawful some =
    began-so uri terms journal role keeps (sender-so uri said (requests_from [] (marks Side.Sent (zero_history journal))) rest count are) lawful some
