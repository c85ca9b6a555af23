-- One start of channel 1 at the own request of position 1 begins one life of it at most.
use Rattle.std.proofs.Common.{◌≡◌, ℕ, zero, suc, ◌+◌, ◌-◌, ◌<◌, ◌≤◌, ◌==◌, nat_lt, Bool, true, false, not, ◌&&◌, ◌||◌, if◌then◌else◌, List, [], ◌∷◌, ◌++◌, map, drop, length, Option, None, Some, refl, sym, ap, ◌∙◌, subst, arith}
use Rattle.std.specs.List.{list_any}
use Rattle.std.specs.Option.{is_none, option_map_or}
use Rattle.std.proofs.lemmas.Bool.{eqb-true}
use Rattle.std.proofs.lemmas.Bool.Decides.{nat_tests}
use Rattle.std.proofs.lemmas.List.{append-nil}
use Rattle.beep_frame.specs.declared.head.Head.{Head}
use Rattle.beep_frame.specs.declared.kind.Kind.{Kind}
use Rattle.beep_frame.specs.Frame.{is_msg, is_ans, is_reply, same_kind}
use Rattle.beep_history.specs.declared.journal.Side.{Side}
use Rattle.beep_history.specs.Journal.{Item, began, passed, told, other}
use Rattle.beep_history.specs.Marks.{Mark, Request, latest, named, reply, answers, ends_reply, is_answered, position_of, marks}
use Rattle.beep_history.specs.Broken.{under_way, KeepsExchangeRules}
use Rattle.beep_history.proofs.PassedLemmas.{sound}
use Rattle.beep_mgmt.specs.Form.{Form, greeting, start, chosen, close, okay, fault}
use Rattle.beep_mgmt.specs.Message.{message_said}
use Rattle.beep_journal.specs.declared.role.Role.{Role}
use Rattle.beep_journal.specs.Broken.{none_tunes}
use Rattle.beep_journal.specs.Lives.{Event, close_came, start_granted, close_granted, lives, has_ended}
use Rattle.beep_journal.specs.Zero.{channel_of, zero_history, zero_events, gathered, asked, said_at, said_to, completes_form, coming, granting, effect, events}
use Rattle.beep_decide.specs.Asks.{is_start_of}
use Rattle.beep_decide.specs.Numbers.{may_start, other_role}
use Rattle.beep_lawful.specs.declared.breach.Breach.{Breach}
use Rattle.beep_lawful.specs.declared.terms.Terms.{Terms}
use Rattle.beep_lawful.specs.Lawful.{first_breach, breaks_apart, breaks_content, content_tests, request_said, breaks_grant_number, granted_said, granted_position, unlawful_frame, unlawful_item, is_lawful}
use Rattle.beep_script.specs.Requested.{requests_from}
use Rattle.beep_script.proofs.SentLemmas.{or-right}
use Rattle.beep_script.proofs.OnceLemmas.{keeps-where}
use Rattle.beep_script.proofs.GrantLemmas.{said-granted}
use Rattle.beep_script.proofs.RequestedLemmas.{nth, own_forms, requests-append, AreAskedSo, asked-so}

-- ---- moments and lives

-- what begins no life of a number leaves their count
abbrev count_one : List Event → ℕ
count_one es = lives 1 es

coming-lives : (by : Side) (p : ℕ) (form : Option Form) (es : List Event) → count_one (coming by p form ++ es) ≡ count_one es
coming-lives by p None es = refl
coming-lives by p (Some (greeting features localize profiles)) es = refl
coming-lives by p (Some (start number server profiles)) es = refl
coming-lives by p (Some (chosen profile)) es = refl
coming-lives by p (Some (close number code note)) es = refl
coming-lives by p (Some okay) es = refl
coming-lives by p (Some (fault code note)) es = refl

other-start : (number : ℕ) (es : List Event) → (number == 1) ≡ false → count_one ((if nat_lt 0 number then start_granted number ∷ [] else []) ++ es) ≡ count_one es
other-start number es apart = by (nat_lt 0 number)
  where
    by : (b : Bool) → count_one ((if b then start_granted number ∷ [] else []) ++ es) ≡ count_one es
    by true = ap (λ (b : Bool). if b && not (nat_lt 0 (lives 1 es) && not (has_ended 1 (lives 1 es) es)) then lives 1 es + 1 else lives 1 es) apart
    by false = refl

granting-other : (by : Side) (p : ℕ) (form : Option Form) (es : List Event) → is_start_of 1 form ≡ false → count_one (granting by p form ++ es) ≡ count_one es
granting-other by p None es none = refl
granting-other by p (Some (greeting features localize profiles)) es none = refl
granting-other by p (Some (start number server profiles)) es none = other-start number es none
granting-other by p (Some (chosen profile)) es none = refl
granting-other by p (Some (close number code note)) es none = refl
granting-other by p (Some okay) es none = refl
granting-other by p (Some (fault code note)) es none = refl

one-start : (number : ℕ) (es : List Event) → count_one ((if nat_lt 0 number then start_granted number ∷ [] else []) ++ es) ≤ count_one es + 1
one-start number es = by (nat_lt 0 number)
  where
    either : (b : Bool) → (if b then lives 1 es + 1 else lives 1 es) ≤ lives 1 es + 1
    either true = omega arith
    either false = omega arith

    by : (b : Bool) → count_one ((if b then start_granted number ∷ [] else []) ++ es) ≤ count_one es + 1
    by true = either (number == 1 && not (nat_lt 0 (lives 1 es) && not (has_ended 1 (lives 1 es) es)))
    by false = omega arith

granting-one : (by : Side) (p : ℕ) (form : Option Form) (es : List Event) → count_one (granting by p form ++ es) ≤ count_one es + 1
granting-one by p None es = omega arith
granting-one by p (Some (greeting features localize profiles)) es = omega arith
granting-one by p (Some (start number server profiles)) es = one-start number es
granting-one by p (Some (chosen profile)) es = omega arith
granting-one by p (Some (close number code note)) es = omega arith
granting-one by p (Some okay) es = omega arith
granting-one by p (Some (fault code note)) es = omega arith

-- ---- which own request is the start

-- only the own request at position 1 is a start of channel 1
abbrev pub StartsOnce : List (Option Form) → Type 0
StartsOnce forms = (p : ℕ) → (p == 1) ≡ false → is_start_of 1 (nth p forms) ≡ false

nth-before : (xs ys : List (Option Form)) (p : ℕ) → is_start_of 1 (nth p (xs ++ ys)) ≡ false → is_start_of 1 (nth p xs) ≡ false
nth-before [] ys p none = refl
nth-before (x ∷ xs) ys zero none = none
nth-before (x ∷ xs) ys (suc p) none = nth-before xs ys p none

-- the own requests before are the first of those now
map-append : (xs ys : List (List ℕ)) → map message_said (xs ++ ys) ≡ map message_said xs ++ map message_said ys
map-append [] ys = refl
map-append (x ∷ xs) ys = ap (λ rest. message_said x ∷ rest) (map-append xs ys)

once-grown : (old new more : List Mark) → new ≡ old ++ more → StartsOnce (None ∷ map message_said (requests_from [] new)) → StartsOnce (None ∷ map message_said (requests_from [] old))
once-grown old new more is once p apart =
    let grown : None ∷ map message_said (requests_from [] new) ≡ (None ∷ map message_said (requests_from [] old)) ++ map message_said (requests_from _ more) =
    ap (λ (ms : List Mark). None ∷ map message_said (requests_from [] ms)) is
    ∙ ap (λ (ts : List (List ℕ)). None ∷ map message_said ts) (requests-append [] old more)
    ∙ ap (λ (fs : List (Option Form)). None ∷ fs) (map-append (requests_from [] old) _) in
    nth-before (None ∷ map message_said (requests_from [] old)) (map message_said (requests_from _ more)) p
    (subst (λ (fs : List (Option Form)). is_start_of 1 (nth p fs) ≡ false) grown (once p apart))

once-item : (item : Item) (past : List Item) → StartsOnce (own_forms (item ∷ past)) → StartsOnce (own_forms past)
once-item (began by head) past once = once
once-item (told by seq) past once = once
once-item (passed by head payload) past once = once-grown (marks Side.Sent past) (marks Side.Sent (passed by head payload ∷ past)) _ refl once

once-where : (b : Bool) (item : Item) (past : List Item) → StartsOnce (own_forms (if b then item ∷ past else past)) → StartsOnce (own_forms past)
once-where true item past once = once-item item past once
once-where false item past once = once

-- ---- the moment of a frame

effect-more : (by : Side) (head : Head) (payload : List ℕ) (past : List Item) → head.more ≡ true → effect by head payload past ≡ []
effect-more by head payload past more = rw (more) refl

effect-msg : (by : Side) (head : Head) (payload : List ℕ) (past : List Item) → head.more ≡ false → is_msg head.kind ≡ true
    → effect by head payload past ≡ coming by (length (asked by past)) (message_said (gathered by past ++ payload))
effect-msg by head payload past more msg = rw (more, msg) refl

effect-if : (by : Side) (head : Head) (payload : List ℕ) (past : List Item) (b : Bool) → head.more ≡ false → is_msg head.kind ≡ false
    → (same_kind Kind.Rpy head.kind && completes_form by head payload past) ≡ b
    → effect by head payload past ≡ (if b then granting (other by) (position_of by past head) (said_to by head past) else [])
effect-if by head payload past b more msg grants =
    by-more ∙ by-msg
    ∙ ap (λ (c : Bool). if c then granting (other by) (position_of by past head) (said_to by head past) else []) grants
  where
    inner : List Event
    inner = if same_kind Kind.Rpy head.kind && completes_form by head payload past
        then granting (other by) (position_of by past head) (said_to by head past) else []

    middle : List Event
    middle = if is_msg head.kind then coming by (length (asked by past)) (message_said (gathered by past ++ payload)) else inner

    by-more : effect by head payload past ≡ middle
    by-more = ap (λ (c : Bool). if c then [] else middle) more

    by-msg : middle ≡ inner
    by-msg = ap (λ (c : Bool). if c then coming by (length (asked by past)) (message_said (gathered by past ++ payload)) else inner) msg

-- ---- whether the request at 1 is answered

reply-if : (b : Bool) (head : Head) (frames : List Head) → ends_reply head ≡ false → list_any ends_reply (if b then head ∷ frames else frames) ≡ list_any ends_reply frames
reply-if true head frames none = ap (λ (c : Bool). c || list_any ends_reply frames) none
reply-if false head frames none = refl

reply-fewer : (b : Bool) (head : Head) (frames : List Head) → list_any ends_reply (if b then head ∷ frames else frames) ≡ false → list_any ends_reply frames ≡ false
reply-fewer true head frames none = right-false (ends_reply head) (list_any ends_reply frames) none
  where
    right-false : (a b : Bool) → (a || b) ≡ false → b ≡ false
    right-false true b e = absurd cc
    right-false false b e = e
reply-fewer false head frames none = none

-- ---- at most one life, and none before its start is answered

pub record IsOnce (past : List Item) : Type 0 where
  pub none : is_answered Side.Sent 1 past ≡ false → lives 1 (zero_events past) ≡ 0
  pub few : lives 1 (zero_events past) ≤ 1

once-same : (old new : List Item) → (is_answered Side.Sent 1 new ≡ false → is_answered Side.Sent 1 old ≡ false)
    → lives 1 (zero_events new) ≡ lives 1 (zero_events old) → IsOnce old → IsOnce new
once-same old new answered same once = record {
  none = λ no. same ∙ once.none (answered no);
  few = subst (λ (n : ℕ). n ≤ 1) (sym same) once.few;
}

-- what the own requests say, but for the one at 1, is no start of channel 1
abbrev pub SaysOnce : List Item → Type 0
SaysOnce past = (p : ℕ) → (p == 1) ≡ false → is_start_of 1 (said_at p (asked Side.Sent past)) ≡ false

not-msg : (b : Bool) → b ≡ false → not b ≡ true
not-msg true e = absurd cc
not-msg false e = refl

-- a reply under way names the oldest request, which isn't answered
module _ (past : List Item) (head : Head) (keeps : KeepsExchangeRules past) (under : under_way Side.Received past ≡ Some head) (replies : is_reply head.kind ≡ true) where
  due-found : latest Side.Sent head.msgno past ≡ Some ((sound Side.Sent past keeps).due head under replies).request
  due-found = ((sound Side.Sent past keeps).due head under replies).found

  not-a-msg : is_msg head.kind ≡ false
  not-a-msg = by (is_msg head.kind) replies
    where
      by : (b : Bool) → not b ≡ true → b ≡ false
      by true e = absurd cc
      by false e = refl

  pub reply-place : position_of Side.Received past head ≡ (sound Side.Sent past keeps).oldest
  reply-place = rw (not-a-msg, due-found) ((sound Side.Sent past keeps).due head under replies).at

  pub reply-answers : (p : ℕ) → (position_of Side.Received past head == p) ≡ true → answers Side.Sent p past Side.Received head ≡ true
  reply-answers p at = rw (replies, due-found) (ap (λ (n : ℕ). n == p) (((sound Side.Sent past keeps).due head under replies).at ∙ sym reply-place) ∙ at)

-- ---- an item of channel zero

ends-whole : (head : Head) → head.more ≡ false → is_ans head.kind ≡ false → ends_reply head ≡ true
ends-whole head more ans = ap (λ (c : Bool). not c && not (is_ans head.kind)) more ∙ ap (λ (c : Bool). not c) ans

ends-not : (head : Head) → head.more ≡ true → ends_reply head ≡ false
ends-not head more = ap (λ (c : Bool). not c && not (is_ans head.kind)) more

rpy-alone : (kind : Kind) → same_kind Kind.Rpy kind ≡ true → is_ans kind ≡ false
rpy-alone Kind.Rpy is = refl
rpy-alone Kind.Msg is = absurd cc
rpy-alone Kind.Err is = absurd cc
rpy-alone Kind.Ans is = absurd cc
rpy-alone Kind.Nul is = absurd cc

left-true : (a b : Bool) → (a && b) ≡ true → a ≡ true
left-true true b is = refl
left-true false b is = absurd cc

less-zero : (n : ℕ) → nat_lt n n ≡ false
less-zero n = grind (arith, nat_tests)

-- a whole reply that came
module _ (past : List Item) (head : Head) (payload : List ℕ) (keeps : KeepsExchangeRules past) (under : under_way Side.Received past ≡ Some head)
    (says : SaysOnce past) (once : IsOnce past) where
  abbrev es : List Event
  es = zero_events past

  abbrev new : List Item
  new = passed Side.Received head payload ∷ past

  abbrev answers-it : Bool
  answers-it = answers Side.Sent 1 past Side.Received head

  lives-as : (moment : List Event) → effect Side.Received head payload past ≡ moment → lives 1 (moment ++ es) ≡ lives 1 es → lives 1 (zero_events new) ≡ lives 1 es
  lives-as moment is same = ap (λ (m : List Event). lives 1 (m ++ es)) is ∙ same

  fewer : is_answered Side.Sent 1 new ≡ false → is_answered Side.Sent 1 past ≡ false
  fewer none = reply-fewer answers-it head (reply Side.Sent 1 past) none

  part : head.more ≡ true → IsOnce new
  part more = once-same past new fewer (lives-as [] (effect-more Side.Received head payload past more) refl) once

  asks : head.more ≡ false → is_msg head.kind ≡ true → IsOnce new
  asks more msg =
      once-same past new fewer
      (lives-as (coming Side.Received (length (asked Side.Received past)) (message_said (gathered Side.Received past ++ payload)))
      (effect-msg Side.Received head payload past more msg)
      (coming-lives Side.Received (length (asked Side.Received past)) (message_said (gathered Side.Received past ++ payload)) es)) once

  abbrev place : ℕ
  place = position_of Side.Received past head

  abbrev said : Option Form
  said = said_to Side.Received head past

  grants-other : effect Side.Received head payload past ≡ granting Side.Sent place said → is_start_of 1 said ≡ false → IsOnce new
  grants-other is none = once-same past new fewer (lives-as (granting Side.Sent place said) is (granting-other Side.Sent place said es none)) once

  grants-first : effect Side.Received head payload past ≡ granting Side.Sent place said → is_reply head.kind ≡ true → head.more ≡ false → is_ans head.kind ≡ false
      → (place == 1) ≡ true → IsOnce new
  grants-first is replies more ans at =
      let unanswered : is_answered Side.Sent 1 past ≡ false =
      (sound Side.Sent past keeps).answered 1
      ∙ ap (λ (n : ℕ). nat_lt 1 n) (sym (reply-place past head keeps under replies) ∙ eqb-true place 1 at) ∙ less-zero 1 in
      let before : lives 1 es ≡ 0 = once.none unanswered in
      let most : lives 1 (granting Side.Sent place said ++ es) ≤ lives 1 es + 1 = granting-one Side.Sent place said es in
      record {
        none = λ unanswered-now. absurd (ended unanswered-now);
        few = subst (λ (m : List Event). lives 1 (m ++ es) ≤ 1) (sym is) (omega (arith, most, before));
      }
    where
      ended : is_answered Side.Sent 1 new ≡ false → ⊥
      ended none =
          let here : is_answered Side.Sent 1 new ≡ true =
          ap (λ (b : Bool). list_any ends_reply (if b then head ∷ reply Side.Sent 1 past else reply Side.Sent 1 past))
          (reply-answers past head keeps under replies 1 at)
          ∙ ap (λ (b : Bool). b || list_any ends_reply (reply Side.Sent 1 past)) (ends-whole head more ans) in
          let g : true ≡ false = sym here ∙ none in cc

  grants : (b : Bool) → (same_kind Kind.Rpy head.kind && completes_form Side.Received head payload past) ≡ b → head.more ≡ false → is_msg head.kind ≡ false → IsOnce new
  grants false is more msg = once-same past new fewer (lives-as [] (effect-if Side.Received head payload past false more msg is) refl) once
  grants true is more msg =
      by (place == 1) refl
    where
      effect-is : effect Side.Received head payload past ≡ granting Side.Sent place said
      effect-is = effect-if Side.Received head payload past true more msg is

      by : (b : Bool) → (place == 1) ≡ b → IsOnce new
      by true at = grants-first effect-is (not-msg (is_msg head.kind) msg) more
          (rpy-alone head.kind (left-true (same_kind Kind.Rpy head.kind) (completes_form Side.Received head payload past) is)) at
      by false at = grants-other effect-is (says place at)

  pub once-received : IsOnce (passed Side.Received head payload ∷ past)
  once-received = more head.more (is_msg head.kind) refl refl
    where
      more : (m k : Bool) → head.more ≡ m → is_msg head.kind ≡ k → IsOnce new
      more true k is kind = part is
      more false true is kind = asks is kind
      more false false is kind = grants (same_kind Kind.Rpy head.kind && completes_form Side.Received head payload past) refl is kind

-- a frame that goes out: no start of channel 1 is granted by it
sent-same : (past : List Item) (head : Head) (payload : List ℕ) → lives 1 (zero_events (passed Side.Sent head payload ∷ past)) ≡ lives 1 (zero_events past)
    → IsOnce past → IsOnce (passed Side.Sent head payload ∷ past)
sent-same past head payload same once = once-same past (passed Side.Sent head payload ∷ past) (λ none. none) same once

abbrev pub GrantsNone : List Item → Head → Type 0
GrantsNone past head = same_kind Kind.Rpy head.kind ≡ true → head.more ≡ false → is_start_of 1 (said_to Side.Sent head past) ≡ false

once-sent : (past : List Item) (head : Head) (payload : List ℕ) → GrantsNone past head → IsOnce past → IsOnce (passed Side.Sent head payload ∷ past)
once-sent past head payload ours once = by head.more (is_msg head.kind) refl refl
  where
    of : (moment : List Event) → effect Side.Sent head payload past ≡ moment → lives 1 (moment ++ zero_events past) ≡ lives 1 (zero_events past)
        → IsOnce (passed Side.Sent head payload ∷ past)
    of moment is same = sent-same past head payload (ap (λ (m : List Event). lives 1 (m ++ zero_events past)) is ∙ same) once

    grant : (b : Bool) → (same_kind Kind.Rpy head.kind && completes_form Side.Sent head payload past) ≡ b → head.more ≡ false → is_msg head.kind ≡ false
        → IsOnce (passed Side.Sent head payload ∷ past)
    grant false is more msg = of [] (effect-if Side.Sent head payload past false more msg is) refl
    grant true is more msg =
        of (granting Side.Received (position_of Side.Sent past head) (said_to Side.Sent head past)) (effect-if Side.Sent head payload past true more msg is)
        (granting-other Side.Received (position_of Side.Sent past head) (said_to Side.Sent head past) (zero_events past)
        (ours (left-true (same_kind Kind.Rpy head.kind) (completes_form Side.Sent head payload past) is) more))

    by : (m k : Bool) → head.more ≡ m → is_msg head.kind ≡ k → IsOnce (passed Side.Sent head payload ∷ past)
    by true k is kind = of [] (effect-more Side.Sent head payload past is) refl
    by false true is kind =
        of (coming Side.Sent (length (asked Side.Sent past)) (message_said (gathered Side.Sent past ++ payload))) (effect-msg Side.Sent head payload past is kind)
        (coming-lives Side.Sent (length (asked Side.Sent past)) (message_said (gathered Side.Sent past ++ payload)) (zero_events past))
    by false false is kind = grant (same_kind Kind.Rpy head.kind && completes_form Side.Sent head payload past) refl is kind

-- ---- a lawful initiator grants no start of channel 1

fifth : (a b c d e f g : Bool) (t u v w x y z : Breach) (rest : List (Breach × Bool))
    → is_none (first_breach ((t, a) ∷ (u, b) ∷ (v, c) ∷ (w, d) ∷ (x, e) ∷ (y, f) ∷ (z, g) ∷ rest)) ≡ true → g ≡ false
fifth true b c d e f g t u v w x y z rest is = absurd cc
fifth false true c d e f g t u v w x y z rest is = absurd cc
fifth false false true d e f g t u v w x y z rest is = absurd cc
fifth false false false true e f g t u v w x y z rest is = absurd cc
fifth false false false false true f g t u v w x y z rest is = absurd cc
fifth false false false false false true g t u v w x y z rest is = absurd cc
fifth false false false false false false true t u v w x y z rest is = absurd cc
fifth false false false false false false false t u v w x y z rest is = refl

grant-number : (terms : Terms) (journal : List Item) (head : Head) (payload : List ℕ) → is_none (unlawful_frame terms none_tunes journal head payload) ≡ true
    → breaks_grant_number terms.role journal (granted_said journal head) ≡ false
unfolding unlawful_frame
grant-number terms journal head payload is =
    fifth (breaks_apart journal head payload) (breaks_content journal head payload) _ _ _ _ (breaks_grant_number terms.role journal (granted_said journal head))
    Breach.Apart Breach.Rule Breach.OkTooSoon Breach.CloseUnanswered Breach.AfterEnd Breach.StartNumber Breach.GrantNumber
    (drop 5 (content_tests terms none_tunes journal (request_said journal head payload) (granted_position journal head) (granted_said journal head))) is

no-own-start : (role : Role) (journal : List Item) (form : Option Form) → role ≡ Role.Initiator → breaks_grant_number role journal form ≡ false → is_start_of 1 form ≡ false
no-own-start role journal None is fine = refl
no-own-start role journal (Some (greeting features localize profiles)) is fine = refl
no-own-start role journal (Some (chosen profile)) is fine = refl
no-own-start role journal (Some (close number code note)) is fine = refl
no-own-start role journal (Some okay) is fine = refl
no-own-start role journal (Some (fault code note)) is fine = refl
no-own-start role journal (Some (start number server profiles)) is fine = by (number == 1) refl
  where
    may-not : (b : Bool) → (number == 1) ≡ b → may_start (other_role role) number ≡ true → b ≡ false
    may-not false e may = refl
    may-not true e may =
        absurd (let here : may_start Role.Listener 1 ≡ true = subst (λ (r : Role). may_start (other_role r) 1 ≡ true) is (subst (λ (n : ℕ). may_start (other_role role) n ≡ true) (eqb-true number 1 e) may) in odd here)
      where
        odd : false ≡ true → ⊥
        odd e = absurd cc

    first-false : (a b c : Bool) → (not a || b || c) ≡ false → a ≡ true
    first-false true b c e = refl
    first-false false b c e = absurd cc

    by : (b : Bool) → (number == 1) ≡ b → (number == 1) ≡ false
    by false e = e
    by true e = e ∙ may-not true e (first-false (may_start (other_role role) number) _ _ fine)

not-true : (b : Bool) → b ≡ false → not b ≡ true
not-true true e = absurd cc
not-true false e = refl

grants-none : (terms : Terms) (journal : List Item) (head : Head) (payload : List ℕ) → terms.role ≡ Role.Initiator
    → is_none (unlawful_frame terms none_tunes journal head payload) ≡ true → (head.channel == 0) ≡ true → GrantsNone (zero_history journal) head
grants-none terms journal head payload role lawful at_zero rpy more =
    let said = said-granted journal head at_zero rpy (not-true head.more more) in
    ap (is_start_of 1) (sym said) ∙ no-own-start terms.role journal (granted_said journal head) role (grant-number terms journal head payload lawful)

-- ---- over the whole journal

says-so : (past : List Item) → AreAskedSo past → StartsOnce (own_forms past) → SaysOnce past
says-so past a starts p apart = ap (is_start_of 1) (a.said p) ∙ starts p apart

once-one : (terms : Terms) (item : Item) (journal : List Item) → terms.role ≡ Role.Initiator → KeepsExchangeRules (item ∷ zero_history journal)
    → AreAskedSo (zero_history journal) → StartsOnce (own_forms (zero_history journal)) → is_none (unlawful_item terms none_tunes journal item) ≡ true
    → (channel_of item == 0) ≡ true → IsOnce (zero_history journal) → IsOnce (item ∷ zero_history journal)
once-one terms (began by head) journal role keeps a starts lawful at_zero once = once-same (zero_history journal) (began by head ∷ zero_history journal) (λ none. none) refl once
once-one terms (told by seq) journal role keeps a starts lawful at_zero once = once-same (zero_history journal) (told by seq ∷ zero_history journal) (λ none. none) refl once
once-one terms (passed Side.Received head payload) journal role keeps a starts lawful at_zero once =
    once-received (zero_history journal) head payload keeps.2 keeps.0 (says-so (zero_history journal) a starts) once
once-one terms (passed Side.Sent head payload) journal role keeps a starts lawful at_zero once =
    once-sent (zero_history journal) head payload (grants-none terms journal head payload role lawful at_zero) once

left-is : (a b : Bool) → (a && b) ≡ true → a ≡ true
left-is true b is = refl
left-is false b is = absurd cc

right-is : (a b : Bool) → (a && b) ≡ true → b ≡ true
right-is true b is = is
right-is false b is = absurd cc

-- a lawful initiator whose own request at 1 alone is a start of channel 1 has one life of it at most
pub started-once : (terms : Terms) (journal : List Item) → terms.role ≡ Role.Initiator → KeepsExchangeRules (zero_history journal)
    → StartsOnce (own_forms (zero_history journal)) → is_lawful terms none_tunes journal ≡ true → IsOnce (zero_history journal)
started-once terms [] role keeps starts lawful = record { none = λ unanswered. none-yet; few = subst (λ (n : ℕ). n ≤ 1) (sym none-yet) (omega arith) }
  where
    none-yet : lives 1 (zero_events (zero_history [])) ≡ 0
    none-yet =
        coming-lives Side.Sent 0 (message_said []) (coming Side.Received 0 (message_said []) ++ [])
        ∙ coming-lives Side.Received 0 (message_said []) []
started-once terms (item ∷ journal) role keeps starts lawful =
    by (channel_of item == 0) refl keeps starts
    (λ earlier first. started-once terms journal role earlier first (right-is (is_none (unlawful_item terms none_tunes journal item)) (is_lawful terms none_tunes journal) lawful))
  where
    by : (b : Bool) → (channel_of item == 0) ≡ b → KeepsExchangeRules (if b then item ∷ zero_history journal else zero_history journal)
        → StartsOnce (own_forms (if b then item ∷ zero_history journal else zero_history journal))
        → (KeepsExchangeRules (zero_history journal) → StartsOnce (own_forms (zero_history journal)) → IsOnce (zero_history journal))
        → IsOnce (if b then item ∷ zero_history journal else zero_history journal)
    by true at_zero keeps starts before =
        let earlier = keeps-where true item (zero_history journal) keeps in
        let first = once-item item (zero_history journal) starts in
        once-one terms item journal role keeps (asked-so journal earlier) first
        (left-is (is_none (unlawful_item terms none_tunes journal item)) (is_lawful terms none_tunes journal) lawful) at_zero (before earlier first)
    by false at_zero keeps starts before = before keeps starts
