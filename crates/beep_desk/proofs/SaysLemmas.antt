-- An end that offers nothing chooses no profile, by what it lists, by what it gave and by what went out; its close of channel 1 comes once its start was answered.
use Rattle.std.proofs.Common.{◌≡◌, ◌∙◌, refl, sym, ap, subst, ℕ, zero, suc, ◌==◌, Bool, true, false, not, ◌&&◌, ◌||◌, if◌then◌else◌, List, [], ◌∷◌, ◌++◌, length, map, take, drop, Option, None, Some, arith}
use Rattle.std.specs.Prelude.{nat_le}
use Rattle.std.specs.List.{list_any, prefix_len}
use Rattle.beep_peer.specs.beep_frame.specs.declared.head.Head.{Head}
use Rattle.beep_peer.specs.beep_frame.specs.declared.kind.Kind.{Kind}
use Rattle.beep_peer.specs.beep_frame.specs.Frame.{is_msg, same_kind}
use Rattle.beep_peer.specs.beep_history.specs.declared.journal.Side.{Side}
use Rattle.beep_peer.specs.beep_history.specs.Journal.{Item, began, passed, told, same_side}
use Rattle.beep_peer.specs.beep_history.specs.Marks.{is_answered}
use Rattle.beep_peer.specs.beep_mgmt.specs.Form.{Form, PlainProfile, greeting, start, chosen, close, okay, fault}
use Rattle.beep_peer.specs.beep_mgmt.specs.Message.{message_said}
use Rattle.beep_peer.specs.beep_text.specs.Said.{element_said}
use Rattle.beep_peer.specs.beep_journal.specs.Broken.{none_tunes}
use Rattle.beep_peer.specs.beep_journal.specs.Laws.{completed, contents}
use Rattle.beep_peer.specs.beep_journal.specs.Zero.{asked, channel_of, gathered, said_at, zero_history}
use Rattle.beep_peer.specs.beep_asked.specs.Kept.{Kept, fits, place_of}
use Rattle.beep_peer.specs.beep_decide.specs.Asks.{has_own_start, has_waiting, is_start, is_start_of}
use Rattle.beep_peer.specs.beep_decide.specs.Decide.{Decision, PlainOffer, PlainStanding, choose, decide, decide_profile, decide_start, first_offered, grant_close, is_among, is_used, refuse, tune, used_count}
use Rattle.beep_peer.specs.beep_decide.specs.Numbers.{may_start, other_role}
use Rattle.beep_peer.specs.beep_turns.specs.declared.turns.TheConstants.{MAX_CHANNELS}
use Rattle.beep_peer.specs.beep_lawful.specs.declared.breach.Breach.{Breach}
use Rattle.beep_peer.specs.beep_lawful.specs.declared.terms.Terms.{Terms}
use Rattle.beep_peer.specs.beep_lawful.specs.Lawful.{IsLawful, breaks_after_end, breaks_apart, breaks_close_starting, request_said, unlawful_frame}
use Rattle.beep_peer.specs.beep_lawful.proofs.LawfulLemmas.{item-lawful, lawful-before}
use Rattle.beep_peer.specs.beep_management.specs.Managed.{number_started, numbers_granted}
use Rattle.beep_peer.specs.beep_management.specs.Manages.{AllFit}
use Rattle.beep_peer.specs.beep_spoken.specs.Spoken.{AllSaid, Spoken, text_of}
use Rattle.beep_script.specs.beep_talk.specs.declared.plan.Command.{Command}
use Rattle.beep_script.specs.beep_talk.specs.AtZero.{Answer, ZeroMessage, answer_message, profile_of}
use Rattle.beep_script.specs.beep_talk.specs.Plan.{PlainPlan}
use Rattle.beep_script.specs.Desk.{answered, asks, asks_where, decided, desk, ends_lines, grants_own, is_clear, standing}
use Rattle.beep_desk.specs.Listed.{spoken_as, spoken_of}
use Rattle.beep_desk.proofs.LifeLemmas.{AllSaySo, OwnSaid, SaysSo, own-where, own_at, rpy-grant, says_chosen, unchosen-grant}
use Rattle.beep_desk.proofs.OwnLemmas.{any-append, any-map}

-- ---- tests

either-none : (a b : Bool) → (a || b) ≡ false → (a ≡ false) × (b ≡ false)
either-none true b e = absurd cc
either-none false b e = (refl, e)

both-none : (a b : Bool) → a ≡ false → b ≡ false → (a || b) ≡ false
both-none true b e f = absurd cc
both-none false b e f = f

any-take : {X : Type 0} (q : X → Bool) (n : ℕ) (xs : List X) → list_any q xs ≡ false → list_any q (take n xs) ≡ false
any-take q zero xs e = refl
any-take q (suc n) [] e = refl
any-take q (suc n) (x ∷ xs) e =
    let both = either-none (q x) (list_any q xs) e in both-none (q x) (list_any q (take n xs)) both.0 (any-take q n xs both.1)

any-drop : {X : Type 0} (q : X → Bool) (n : ℕ) (xs : List X) → list_any q xs ≡ false → list_any q (drop n xs) ≡ false
any-drop q zero xs e = e
any-drop q (suc n) [] e = refl
any-drop q (suc n) (x ∷ xs) e = any-drop q n xs (either-none (q x) (list_any q xs) e).1

any-both : {X : Type 0} (q : X → Bool) (xs ys : List X) → list_any q xs ≡ false → list_any q ys ≡ false → list_any q (xs ++ ys) ≡ false
any-both q xs ys e f = any-append q xs ys ∙ both-none (list_any q xs) (list_any q ys) e f

-- no octets say nothing
pub says-nothing : message_said [] ≡ None
unfolding message_said element_said
says-nothing = refl

-- ---- what is decided without an offer

abbrev chooses_place : Decision → Bool
chooses_place (refuse code) = false
chooses_place (choose place) = true
chooses_place (tune place content) = false
chooses_place grant_close = false

none-offered : (profiles : List PlainProfile) → first_offered [] profiles ≡ None
none-offered [] = refl
none-offered (profile ∷ profiles) = none-offered profiles

start-refused : (s : PlainStanding) (number : ℕ) (profiles : List PlainProfile) → s.offers ≡ [] → chooses_place (decide_start s number profiles) ≡ false
start-refused s number profiles none =
    of s.leaving (not (may_start (other_role s.role) number)) (is_used s number) (nat_le MAX_CHANNELS (used_count s)) (decide_profile s (first_offered s.offers profiles))
    (ap (decide_profile s) (ap (λ (os : List PlainOffer). first_offered os profiles) none ∙ none-offered profiles))
  where
    of : (a b c d : Bool) (last : Decision) → last ≡ refuse 550
        → chooses_place (if a then refuse 550 else if b then refuse 553 else if c then refuse 550 else if d then refuse 450 else last) ≡ false
    of true b c d last is = refl
    of false true c d last is = refl
    of false false true d last is = refl
    of false false false true last is = refl
    of false false false false last is = ap chooses_place is

close-granted : (b : Bool) → chooses_place (if b then grant_close else refuse 550) ≡ false
close-granted true = refl
close-granted false = refl

never-chooses : (s : PlainStanding) (request : Option Form) → s.offers ≡ [] → chooses_place (decide s request) ≡ false
never-chooses s None none = refl
never-chooses s (Some (greeting features localize profiles)) none = refl
never-chooses s (Some (start number server profiles)) none = start-refused s number profiles none
never-chooses s (Some (chosen profile)) none = refl
never-chooses s (Some (close number code note)) none = close-granted ((number == 0 || is_among number s.live) && not (is_among number s.closing))
never-chooses s (Some okay) none = refl
never-chooses s (Some (fault code note)) none = refl

-- ---- what is listed and owed

abbrev pub chooses_one : ZeroMessage → Bool
chooses_one one = says_chosen (Some one.form)

abbrev pub chooses_answer : Answer → Bool
chooses_answer answer = says_chosen (Some answer.form)

answered-unchosen : (s : PlainStanding) (position : ℕ) (request : Option Form) (decision : Decision) → chooses_place decision ≡ false
    → list_any chooses_answer (answered s position request decision) ≡ false
answered-unchosen s position request (refuse code) e = refl
answered-unchosen s position request (choose place) e = absurd cc
answered-unchosen s position request (tune place content) e = refl
answered-unchosen s position request grant_close e = refl

module _ (plan : PlainPlan) (none : plan.offers ≡ []) where
  decided-unchosen : (item : Item) (journal : List Item) → list_any chooses_answer (decided plan (desk plan journal) item journal) ≡ false
  decided-unchosen (began by head) journal = refl
  decided-unchosen (told by seq) journal = refl
  decided-unchosen (passed Side.Sent head payload) journal = refl
  decided-unchosen (passed Side.Received head payload) journal = of (head.channel == 0 && is_msg head.kind && not head.more)
    where
      s : PlainStanding
      s = standing plan (desk plan journal) journal

      request : Option Form
      request = message_said (gathered Side.Received (zero_history journal) ++ payload)

      of : (b : Bool) → list_any chooses_answer (if b then answered s (length (asked Side.Received (zero_history journal))) request (decide s request) else []) ≡ false
      of true = answered-unchosen s (length (asked Side.Received (zero_history journal))) request (decide s request) (never-chooses s request none)
      of false = refl

  where-unchosen : (a b c : Bool) → list_any chooses_one (asks_where a 1 (start 1 None (profile_of plan.raw_uri ∷ [])) ++ asks_where b 2 (close 1 200 []) ++ asks_where c 3 (close 0 200 [])) ≡ false
  where-unchosen true true true = refl
  where-unchosen true true false = refl
  where-unchosen true false true = refl
  where-unchosen true false false = refl
  where-unchosen false true true = refl
  where-unchosen false true false = refl
  where-unchosen false false true = refl
  where-unchosen false false false = refl

  asks-unchosen : (item : Item) (journal : List Item) → list_any chooses_one (asks plan.command plan item journal) ≡ false
  asks-unchosen item journal = of plan.command
    where
      of : (c : Command) → list_any chooses_one (asks c plan item journal) ≡ false
      of Command.Send = where-unchosen (grants_own 0 item journal) (ends_lines plan item journal) (grants_own 2 item journal)
      of Command.Listen = refl

  pub messages-unchosen : (answers : List Answer) → list_any chooses_answer answers ≡ false → list_any chooses_one (map answer_message answers) ≡ false
  messages-unchosen answers e = any-map chooses_one answer_message answers ∙ e

  -- none of it chooses a profile
  pub desk-unchosen : (journal : List Item) → (list_any chooses_one (desk plan journal).listed ≡ false) × (list_any chooses_answer (desk plan journal).owed ≡ false)
  desk-unchosen [] = (refl, refl)
  desk-unchosen (item ∷ journal) =
      let before = desk-unchosen journal in
      let d = desk plan journal in
      let queue = d.owed ++ decided plan d item journal in
      let count = prefix_len (is_clear plan d.listed (item ∷ journal)) queue in
      let all = any-both chooses_answer d.owed (decided plan d item journal) before.1 (decided-unchosen item journal) in (
        any-both chooses_one (d.listed ++ map answer_message (take count queue)) (asks plan.command plan item journal)
            (any-both chooses_one d.listed (map answer_message (take count queue)) before.0 (messages-unchosen (take count queue) (any-take chooses_answer count queue all)))
            (asks-unchosen item journal),
        any-drop chooses_answer count queue all,
      )

  -- nor what is owed once an item has happened
  pub queue-unchosen : (item : Item) (journal : List Item) → list_any chooses_answer ((desk plan journal).owed ++ decided plan (desk plan journal) item journal) ≡ false
  queue-unchosen item journal = any-both chooses_answer (desk plan journal).owed (decided plan (desk plan journal) item journal) (desk-unchosen journal).1 (decided-unchosen item journal)

-- ---- what was given

abbrev pub chooses_spoken : Spoken → Bool
chooses_spoken one = says_chosen (Some one.form)

pub spoken-unchosen : (listed : List ZeroMessage) → list_any chooses_one listed ≡ false → list_any chooses_spoken (map spoken_of listed) ≡ false
spoken-unchosen listed e = any-map chooses_spoken spoken_of listed ∙ e

pub prepared-unchosen : (answers : List Answer) → list_any chooses_answer answers ≡ false → list_any chooses_spoken (map spoken_as answers) ≡ false
prepared-unchosen answers e = any-map chooses_spoken spoken_as answers ∙ e

-- the octets of a message say so
abbrev pub chooses_text : List ℕ → Bool
chooses_text text = says_chosen (message_said text)

pub texts-unchosen : (spoken : List Spoken) → AllSaid spoken → list_any chooses_spoken spoken ≡ false → list_any chooses_text (map text_of spoken) ≡ false
texts-unchosen [] said e = refl
texts-unchosen (one ∷ spoken) said e =
    let both = either-none (chooses_spoken one) (list_any chooses_spoken spoken) e in
    both-none (chooses_text (text_of one)) (list_any chooses_text (map text_of spoken)) (ap says_chosen said.0 ∙ both.0) (texts-unchosen spoken said.1 both.1)

pub first-unchosen : (n : ℕ) (spoken : List Spoken) → list_any chooses_spoken spoken ≡ false → list_any chooses_spoken (take n spoken) ≡ false
first-unchosen n spoken e = any-take chooses_spoken n spoken e

pub rest-unchosen : (n : ℕ) (spoken : List Spoken) → list_any chooses_spoken spoken ≡ false → list_any chooses_spoken (drop n spoken) ≡ false
rest-unchosen n spoken e = any-drop chooses_spoken n spoken e

no-number : (request : Option Form) → is_start request ≡ false → number_started request ≡ []
no-number None e = refl
no-number (Some (greeting features localize profiles)) e = refl
no-number (Some (start number server profiles)) e = absurd cc
no-number (Some (chosen profile)) e = refl
no-number (Some (close number code note)) e = refl
no-number (Some okay) e = refl
no-number (Some (fault code note)) e = refl

-- so no start of the peer is to be granted
pub grants-nothing : (replies : List Spoken) (requests : List Kept) → AllFit replies requests → list_any chooses_spoken replies ≡ false → numbers_granted replies requests ≡ []
grants-nothing [] requests f e = refl
grants-nothing (reply ∷ replies) [] f e = absurd f
grants-nothing (reply ∷ replies) (kept ∷ requests) f e = by (same_kind Kind.Rpy reply.kind) refl (grants-nothing replies requests f.1 both.1)
  where
    both : (chooses_spoken reply ≡ false) × (list_any chooses_spoken replies ≡ false)
    both = either-none (chooses_spoken reply) (list_any chooses_spoken replies) e

    grant : same_kind Kind.Rpy reply.kind ≡ true → number_started kept.said ≡ []
    grant rpy =
        let fit : fits reply.kind (Some reply.form) kept ≡ true = f.0 in
        let r = rpy-grant reply.kind (place_of kept) kept.said (Some reply.form) (ap (λ (b : Bool). b && fits reply.kind (Some reply.form) kept) rpy ∙ fit) in
        no-number kept.said (unchosen-grant (place_of kept) kept.said (Some reply.form) r.1 both.0)

    by : (b : Bool) → same_kind Kind.Rpy reply.kind ≡ b → numbers_granted replies requests ≡ []
        → (if b then number_started kept.said ++ numbers_granted replies requests else numbers_granted replies requests) ≡ []
    by true rpy rest = ap (λ (l : List ℕ). l ++ numbers_granted replies requests) (grant rpy) ∙ rest
    by false rpy rest = rest

-- ---- a frame that lawfully went out

next-none : (holds : Bool) (breach : Breach) (others : Option Breach) → (if holds then Some breach else others) ≡ None → (holds ≡ false) × (others ≡ None)
next-none true breach others e = absurd cc
next-none false breach others e = (refl, e)

-- the session went on, and no own close comes while its start waits
pub frame-goes : (terms : Terms) (journal : List Item) (head : Head) (payload : List ℕ) → unlawful_frame terms none_tunes journal head payload ≡ None
    → (breaks_apart journal head payload ≡ false) × (breaks_after_end none_tunes journal ≡ false) × (breaks_close_starting journal (request_said journal head payload) ≡ false)
unfolding unlawful_frame
frame-goes terms journal head payload e =
    let one = next-none (breaks_apart journal head payload) Breach.Apart _ e in
    let two = next-none _ Breach.Rule _ one.1 in
    let three = next-none _ Breach.OkTooSoon _ two.1 in
    let four = next-none _ Breach.CloseUnanswered _ three.1 in
    let five = next-none (breaks_after_end none_tunes journal) Breach.AfterEnd _ four.1 in
    let six = next-none _ Breach.StartNumber _ five.1 in
    let seven = next-none _ Breach.GrantNumber _ six.1 in
    let eight = next-none (breaks_close_starting journal (request_said journal head payload)) Breach.CloseStarting _ seven.1 in
    (one.0, five.0, eight.0)

request-is : (journal : List Item) (head : Head) (payload : List ℕ) → (head.channel == 0) ≡ true → is_msg head.kind ≡ true → not head.more ≡ true
    → request_said journal head payload ≡ message_said (gathered Side.Sent (zero_history journal) ++ payload)
request-is journal head payload at_zero msg last = rw (at_zero, msg, last) refl

turned : (b : Bool) → not b ≡ false → b ≡ true
turned true e = refl
turned false e = absurd cc

-- of two own requests that are whole the start doesn't wait
start-answered : (past : List Item) (forms : List (Option Form)) (profiles : List PlainProfile) → length forms ≡ 2 → said_at 1 forms ≡ Some (start 1 None profiles)
    → has_waiting (is_start_of 1) Side.Sent past forms ≡ false → is_answered Side.Sent 1 past ≡ true
start-answered past [] profiles two says e = absurd (omega (arith, two))
start-answered past (f ∷ []) profiles two says e = absurd (omega (arith, two))
start-answered past (f ∷ g ∷ []) profiles two says e =
    let first = (either-none (is_start_of 1 f && not (is_answered Side.Sent 1 past)) (has_waiting (is_start_of 1) Side.Sent past (g ∷ [])) e).0 in
    turned (is_answered Side.Sent 1 past) (sym (ap (λ (o : Option Form). is_start_of 1 o && not (is_answered Side.Sent 1 past)) says) ∙ first)
start-answered past (f ∷ g ∷ h ∷ forms) profiles two says e = absurd (omega (arith, two))

-- ---- the whole journal

module _ (uri : List ℕ) (terms : Terms) where
  item-says : (item : Item) (journal : List Item) → (channel_of item == 0) ≡ true → IsLawful terms none_tunes (item ∷ journal) → OwnSaid uri (asked Side.Sent (item ∷ zero_history journal))
      → list_any chooses_text (completed Side.Sent item (zero_history journal)) ≡ false → SaysSo item (zero_history journal)
  item-says (began by head) journal at_zero lawful own none = tt
  item-says (told by seq) journal at_zero lawful own none = tt
  item-says (passed Side.Received head payload) journal at_zero lawful own none = tt
  item-says (passed Side.Sent head payload) journal at_zero lawful own none = ((λ last. text last), (λ last msg two. second last msg two))
    where
      form : Option Form
      form = message_said (gathered Side.Sent (zero_history journal) ++ payload)

      forms : List (Option Form)
      forms = asked Side.Sent (zero_history journal)

      text : head.more ≡ false → says_chosen form ≡ false
      text last =
          (either-none (says_chosen form) false
          (sym (ap (λ (m : Bool). list_any chooses_text (if not m then (gathered Side.Sent (zero_history journal) ++ payload) ∷ [] else [])) last) ∙ none)).0

      second : head.more ≡ false → is_msg head.kind ≡ true → length forms ≡ 2 → is_answered Side.Sent 1 (zero_history journal) ≡ true
      second last msg two =
          let grown : asked Side.Sent (passed Side.Sent head payload ∷ zero_history journal) ≡ form ∷ forms =
          ap (λ (b : Bool). if b && not head.more then form ∷ forms else forms) msg ∙ ap (λ (b : Bool). if not b then form ∷ forms else forms) last in
          let said : OwnSaid uri (form ∷ forms) = subst (OwnSaid uri) grown own in
          let closing : form ≡ own_at uri 2 =
          sym (ap (λ (n : ℕ). if n == 2 then form else said_at 2 forms) two) ∙ said 2 (omega (arith, two)) in
          let starting : said_at 1 forms ≡ own_at uri 1 =
          sym (ap (λ (n : ℕ). if n == 1 then form else said_at 1 forms) two) ∙ said 1 (omega (arith, two)) in
          let tests = frame-goes terms journal head payload (item-lawful terms none_tunes [] journal (passed Side.Sent head payload) lawful) in
          let waits : has_own_start 1 journal ≡ false =
          sym (ap (breaks_close_starting journal) (request-is journal head payload at_zero msg (ap not last) ∙ closing)) ∙ tests.2 in
          start-answered (zero_history journal) forms (profile_of uri ∷ []) two starting waits

  own-item : (item : Item) (past : List Item) → OwnSaid uri (asked Side.Sent (item ∷ past)) → OwnSaid uri (asked Side.Sent past)
  own-item (began by head) past own = own
  own-item (told by seq) past own = own
  own-item (passed by head payload) past own =
      own-where uri (same_side by Side.Sent && (is_msg head.kind && not head.more)) (message_said (gathered Side.Sent past ++ payload)) (asked Side.Sent past) own

  unchosen-where : (b : Bool) (xs ys : List (List ℕ)) → list_any chooses_text (if b then xs ++ ys else xs) ≡ false
      → (list_any chooses_text xs ≡ false) × (b ≡ true → list_any chooses_text ys ≡ false)
  unchosen-where true xs ys none =
      let both = either-none (list_any chooses_text xs) (list_any chooses_text ys) (sym (any-append chooses_text xs ys) ∙ none) in (both.0, λ is. both.1)
  unchosen-where false xs ys none = (none, λ is. absurd (let g : false ≡ true = is in cc))

  pub all-say : (journal : List Item) → IsLawful terms none_tunes journal → OwnSaid uri (asked Side.Sent (zero_history journal)) → list_any chooses_text (contents Side.Sent journal) ≡ false
      → AllSaySo (zero_history journal)
  all-say [] lawful own none =
      (((λ last. ap says_chosen says-nothing), (λ last msg two. absurd (omega (arith, two)))), (tt, (tt, (tt, tt))))
  all-say (item ∷ journal) lawful own none =
      by (channel_of item == 0) refl own (λ before. all-say journal (lawful-before terms none_tunes (item ∷ []) journal lawful) before parts.0)
    where
      parts : (list_any chooses_text (contents Side.Sent journal) ≡ false) × ((channel_of item == 0) ≡ true → list_any chooses_text (completed Side.Sent item (zero_history journal)) ≡ false)
      parts = unchosen-where (channel_of item == 0) (contents Side.Sent journal) (completed Side.Sent item (zero_history journal)) none

      by : (b : Bool) → (channel_of item == 0) ≡ b → OwnSaid uri (asked Side.Sent (if b then item ∷ zero_history journal else zero_history journal))
          → (OwnSaid uri (asked Side.Sent (zero_history journal)) → AllSaySo (zero_history journal)) → AllSaySo (if b then item ∷ zero_history journal else zero_history journal)
      by true at_zero own rest = (item-says item journal at_zero lawful own (parts.1 at_zero), rest (own-item item (zero_history journal) own))
      by false at_zero own rest = rest own
