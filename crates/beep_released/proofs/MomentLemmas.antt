-- What a lawful sender that the peer refused nothing tells of its close of channel 1, moment by moment.
use Rattle.std.proofs.Common.{◌≡◌, ℕ, suc, ◌<◌, ◌==◌, nat_lt, Bool, true, false, not, ◌&&◌, ◌||◌, if◌then◌else◌, List, [], ◌∷◌, ◌++◌, filter, drop, length, Option, None, Some, refl, sym, ap, ◌∙◌, subst, arith, ⊎_elim}
use Rattle.std.specs.List.{list_any}
use Rattle.std.specs.Option.{is_none}
use Rattle.std.proofs.lemmas.Bool.{ltb-true, lt-ltb}
use Rattle.std.proofs.lemmas.Bool.Decides.{nat_tests}
use Rattle.beep_script.specs.beep_chars.proofs.BoolLemmas.{left_of, right_of}
use Rattle.beep_script.specs.beep_frame.specs.declared.head.Head.{Head}
use Rattle.beep_script.specs.beep_frame.specs.declared.kind.Kind.{Kind}
use Rattle.beep_script.specs.beep_frame.specs.Frame.{is_msg, same_kind}
use Rattle.beep_script.specs.beep_history.specs.declared.journal.Side.{Side}
use Rattle.beep_script.specs.beep_history.specs.Journal.{Item, began, passed, told, same_side}
use Rattle.beep_script.specs.beep_history.specs.Marks.{Request, requests, is_answered, begins_request}
use Rattle.beep_script.specs.beep_history.specs.Broken.{KeepsExchangeRules}
use Rattle.beep_script.specs.beep_history.proofs.ListsLemmas.{IsNumbered}
use Rattle.beep_script.specs.beep_history.proofs.SoundLemmas.{requests-numbered}
use Rattle.beep_script.specs.beep_mgmt.specs.Form.{Form, greeting, start, chosen, close, okay, fault}
use Rattle.beep_script.specs.beep_mgmt.specs.Message.{message_said}
use Rattle.beep_script.specs.beep_text.specs.Said.{element_said}
use Rattle.beep_script.specs.beep_journal.specs.Broken.{none_tunes}
use Rattle.beep_script.specs.beep_journal.specs.Laws.{IsUnbroken}
use Rattle.beep_script.specs.beep_journal.specs.Lives.{Event, life_named, is_live}
use Rattle.beep_script.specs.beep_journal.specs.Zero.{channel_of, zero_history, gathered, asked, said_at, said_to, events}
use Rattle.beep_script.specs.beep_journal.proofs.MomentLemmas.{equal-number, apart-more}
use Rattle.beep_script.specs.beep_decide.specs.Asks.{is_close_of}
use Rattle.beep_script.specs.beep_lawful.specs.declared.breach.Breach.{Breach}
use Rattle.beep_script.specs.beep_lawful.specs.declared.terms.Terms.{Terms}
use Rattle.beep_script.specs.beep_lawful.specs.Closing.{has_begun, has_come, has_other_asking, is_ready, are_drained, was_ready_since}
use Rattle.beep_script.specs.beep_lawful.specs.Lawful.{first_breach, breaks_apart, breaks_content, content_tests, request_said, breaks_ok_too_soon, granted_said, granted_position, unlawful_frame, unlawful_item, is_lawful}
use Rattle.beep_script.specs.beep_talk.specs.declared.plan.Command.{Command}
use Rattle.beep_script.specs.Refused.{close_code, refused_at, first_code, refusal}
use Rattle.beep_released.proofs.ReleaseLemmas.{Passing, passing-later, either-of}

-- ---- at an earlier moment

first-none : (a b : Option ℕ) → first_code a b ≡ None → (a ≡ None) × (b ≡ None)
first-none None b is = (refl, is)
first-none (Some code) b is = absurd cc

pub refused-none : (command : Command) (later journal : List Item) → refusal command (later ++ journal) ≡ None → refusal command journal ≡ None
refused-none command [] journal is = is
refused-none command (item ∷ later) journal is =
    refused-none command later journal (first-none (refusal command (later ++ journal)) (refused_at command item (later ++ journal)) is).0

pub refused-here : (command : Command) (item : Item) (journal : List Item) → refusal command (item ∷ journal) ≡ None → refused_at command item journal ≡ None
refused-here command item journal is = (first-none (refusal command journal) (refused_at command item journal) is).1

unbroken-before : (item : Item) (journal : List Item) → IsUnbroken none_tunes (item ∷ journal) → IsUnbroken none_tunes journal
unbroken-before (began by head) journal is = is.1
unbroken-before (passed by head payload) journal is = is.1
unbroken-before (told by seq) journal is = is.1

pub unbroken-at : (later journal : List Item) → IsUnbroken none_tunes (later ++ journal) → IsUnbroken none_tunes journal
unbroken-at [] journal is = is
unbroken-at (item ∷ later) journal is = unbroken-at later journal (unbroken-before item (later ++ journal) is)

pub lawful-at : (terms : Terms) (later journal : List Item) → is_lawful terms none_tunes (later ++ journal) ≡ true → is_lawful terms none_tunes journal ≡ true
lawful-at terms [] journal is = is
lawful-at terms (item ∷ later) journal is =
    lawful-at terms later journal (right_of (is_none (unlawful_item terms none_tunes (later ++ journal) item)) (is_lawful terms none_tunes (later ++ journal)) is)

keeps-before : (item : Item) (past : List Item) → KeepsExchangeRules (item ∷ past) → KeepsExchangeRules past
keeps-before (began by head) past keeps = keeps.2
keeps-before (passed by head payload) past keeps = keeps.2
keeps-before (told by seq) past keeps = keeps

keeps-where : (b : Bool) (item : Item) (past : List Item) → KeepsExchangeRules (if b then item ∷ past else past) → KeepsExchangeRules past
keeps-where true item past keeps = keeps-before item past keeps
keeps-where false item past keeps = keeps

pub keeps-at : (later journal : List Item) → KeepsExchangeRules (zero_history (later ++ journal)) → KeepsExchangeRules (zero_history journal)
keeps-at [] journal keeps = keeps
keeps-at (item ∷ later) journal keeps = keeps-at later journal (keeps-where (channel_of item == 0) item (zero_history (later ++ journal)) keeps)

-- ---- the own `ok` to the peer's close of 0

three : (a b c : Bool) (x y z : Breach) (rest : List (Breach × Bool)) → is_none (first_breach ((x, a) ∷ (y, b) ∷ (z, c) ∷ rest)) ≡ true → c ≡ false
three true b c x y z rest is = absurd cc
three false true c x y z rest is = absurd cc
three false false true x y z rest is = absurd cc
three false false false x y z rest is = refl

ok-late : (terms : Terms) (journal : List Item) (head : Head) (payload : List ℕ) → is_none (unlawful_frame terms none_tunes journal head payload) ≡ true
    → breaks_ok_too_soon journal (granted_position journal head) (granted_said journal head) ≡ false
unfolding unlawful_frame
ok-late terms journal head payload is =
    three (breaks_apart journal head payload) (breaks_content journal head payload) (breaks_ok_too_soon journal (granted_position journal head) (granted_said journal head))
    Breach.Apart Breach.Rule Breach.OkTooSoon
    (drop 1 (content_tests terms none_tunes journal (request_said journal head payload) (granted_position journal head) (granted_said journal head))) is

pub said-granted : (journal : List Item) (head : Head) → (head.channel == 0) ≡ true → same_kind Kind.Rpy head.kind ≡ true → not head.more ≡ true
    → granted_said journal head ≡ said_to Side.Sent head (zero_history journal)
said-granted journal head zero rpy last = rw (zero, rpy, last) refl

-- at some moment nothing was waited for
pub record WasReady (position : ℕ) (journal : List Item) : Type 0 where
  pub count : ℕ
  pub was : was_ready_since position 0 count (asked Side.Sent (zero_history journal)) journal ≡ true

not-false : (b : Bool) → not b ≡ false → b ≡ true
not-false true is = refl
not-false false is = absurd cc

was-ready : (journal : List Item) (position : ℕ) (form : Option Form) → is_close_of 0 form ≡ true → breaks_ok_too_soon journal position form ≡ false → WasReady position journal
was-ready journal position None says ok = absurd cc
was-ready journal position (Some (greeting features localize profiles)) says ok = absurd cc
was-ready journal position (Some (start number server profiles)) says ok = absurd cc
was-ready journal position (Some (chosen profile)) says ok = absurd cc
was-ready journal position (Some okay) says ok = absurd cc
was-ready journal position (Some (fault code note)) says ok = absurd cc
was-ready journal position (Some (close number code note)) is ok = record {
  count = life_named number Side.Received position (events journal);
  was = subst (λ (n : ℕ). was_ready_since position n (life_named number Side.Received position (events journal)) (asked Side.Sent (zero_history journal)) journal ≡ true)
      (equal-number number 0 is)
      (not-false (was_ready_since position number (life_named number Side.Received position (events journal)) (asked Side.Sent (zero_history journal)) journal) ok);
}

pub record ReadyAt (position : ℕ) (forms : List (Option Form)) (journal : List Item) : Type 0 where
  pub later : List Item
  pub now : List Item
  pub is : journal ≡ later ++ now
  pub come : has_come position now ≡ true
  pub ready : has_other_asking forms (zero_history now) ≡ false

not-true : (b : Bool) → not b ≡ true → b ≡ false
not-true true is = absurd cc
not-true false is = refl

ready-at : (position count : ℕ) (forms : List (Option Form)) (journal : List Item) → was_ready_since position 0 count forms journal ≡ true → ReadyAt position forms journal
ready-at position count forms [] is = absurd cc
ready-at position count forms (item ∷ journal) is =
    let come = left_of (has_come position (item ∷ journal)) (is_ready 0 count forms (item ∷ journal) || was_ready_since position 0 count forms journal) is in
    let rest = right_of (has_come position (item ∷ journal)) (is_ready 0 count forms (item ∷ journal) || was_ready_since position 0 count forms journal) is in
    ⊎_elim (λ now. record {
      later = [];
      now = item ∷ journal;
      is = refl;
      come = come;
      ready = not-true (has_other_asking forms (zero_history (item ∷ journal)))
          (right_of (are_drained (events (item ∷ journal)) (item ∷ journal)) (not (has_other_asking forms (zero_history (item ∷ journal)))) now);
    }) (λ before. longer (ready-at position count forms journal before))
    (either-of (is_ready 0 count forms (item ∷ journal)) (was_ready_since position 0 count forms journal) rest)
  where
    longer : ReadyAt position forms journal → ReadyAt position forms (item ∷ journal)
    longer r = record { later = item ∷ r.later; now = r.now; is = ap (λ xs. item ∷ xs) r.is; come = r.come; ready = r.ready }

-- so at some moment since the peer's close came no own request waited that is no close of 0
pub ok-ready : (terms : Terms) (journal : List Item) (head : Head) (payload : List ℕ) → is_lawful terms none_tunes (passed Side.Sent head payload ∷ journal) ≡ true
    → (head.channel == 0) ≡ true → same_kind Kind.Rpy head.kind ≡ true → not head.more ≡ true → is_close_of 0 (said_to Side.Sent head (zero_history journal)) ≡ true
    → ReadyAt (granted_position journal head) (asked Side.Sent (zero_history journal)) journal
ok-ready terms journal head payload lawful zero rpy last says =
    let said = said-granted journal head zero rpy last in
    let late = ok-late terms journal head payload
    (left_of (is_none (unlawful_item terms none_tunes journal (passed Side.Sent head payload))) (is_lawful terms none_tunes journal) lawful) in
    let ready = was-ready journal (granted_position journal head) (granted_said journal head) (ap (is_close_of 0) said ∙ says) late in
    ready-at (granted_position journal head) ready.count (asked Side.Sent (zero_history journal)) journal ready.was

-- ---- the peer's close

-- the implied request says nothing
says-nothing : message_said [] ≡ None
unfolding message_said element_said
says-nothing = refl

pub none-said : (p n : ℕ) → is_close_of 0 (if n == p then message_said [] else None) ≡ true → ⊥
none-said p n is = by (n == p) (subst (λ (said : Option Form). is_close_of 0 (if n == p then said else None) ≡ true) says-nothing is)
  where
    by : (b : Bool) → is_close_of 0 (if b then None else None) ≡ true → ⊥
    by true e = absurd cc
    by false e = absurd cc

-- what a request said stays
said-item : (item : Item) (past : List Item) (p : ℕ) → nat_lt p (length (asked Side.Received past)) ≡ true
    → (said_at p (asked Side.Received (item ∷ past)) ≡ said_at p (asked Side.Received past)) × (nat_lt p (length (asked Side.Received (item ∷ past))) ≡ true)
said-item (began by head) past p within = (refl, within)
said-item (told by seq) past p within = (refl, within)
said-item (passed by head payload) past p within = here (same_side by Side.Received && (is_msg head.kind && not head.more))
  where
    forms : List (Option Form)
    forms = asked Side.Received past

    form : Option Form
    form = message_said (gathered Side.Received past ++ payload)

    here : (b : Bool) → (said_at p (if b then form ∷ forms else forms) ≡ said_at p forms) × (nat_lt p (length (if b then form ∷ forms else forms)) ≡ true)
    here true = (
      ap (λ b. if b then form else said_at p forms) (apart-more (length forms) p (ltb-true p (length forms) within)),
      lt-ltb p (suc (length forms)) (omega (arith, ltb-true p (length forms) within)),
    )
    here false = (refl, within)

said-where : (b : Bool) (item : Item) (past : List Item) (p : ℕ) → nat_lt p (length (asked Side.Received past)) ≡ true
    → (said_at p (asked Side.Received (if b then item ∷ past else past)) ≡ said_at p (asked Side.Received past))
    × (nat_lt p (length (asked Side.Received (if b then item ∷ past else past))) ≡ true)
said-where true item past p within = said-item item past p within
said-where false item past p within = (refl, within)

said-later : (later journal : List Item) (p : ℕ) → nat_lt p (length (asked Side.Received (zero_history journal))) ≡ true
    → (said_at p (asked Side.Received (zero_history (later ++ journal))) ≡ said_at p (asked Side.Received (zero_history journal)))
    × (nat_lt p (length (asked Side.Received (zero_history (later ++ journal)))) ≡ true)
said-later [] journal p within = (refl, within)
said-later (item ∷ later) journal p within =
    let before = said-later later journal p within in
    let now = said-where (channel_of item == 0) item (zero_history (later ++ journal)) p before.1 in
    (now.0 ∙ before.0, now.1)

-- it came at some moment
pub record CameAt (journal : List Item) : Type 0 where
  pub moment : Passing Side.Received journal
  pub msg : is_msg moment.head.kind ≡ true
  pub says : is_close_of 0 (message_said (gathered Side.Received (zero_history moment.earlier) ++ moment.payload)) ≡ true

came-later : (item : Item) (journal : List Item) → CameAt journal → CameAt (item ∷ journal)
came-later item journal c = record { moment = passing-later Side.Received item journal c.moment; msg = c.msg; says = c.says }

came-item : (item : Item) (journal : List Item) (p : ℕ) → (channel_of item == 0) ≡ true
    → (is_close_of 0 (said_at p (asked Side.Received (zero_history journal))) ≡ true → CameAt journal)
    → is_close_of 0 (said_at p (asked Side.Received (item ∷ zero_history journal))) ≡ true → CameAt (item ∷ journal)
came-item (began by head) journal p zero before is = came-later (began by head) journal (before is)
came-item (told by seq) journal p zero before is = came-later (told by seq) journal (before is)
came-item (passed Side.Sent head payload) journal p zero before is = came-later (passed Side.Sent head payload) journal (before is)
came-item (passed Side.Received head payload) journal p zero before is = by (is_msg head.kind && not head.more) refl is
  where
    past : List Item
    past = zero_history journal

    either : (b : Bool) → is_msg head.kind ≡ true → not head.more ≡ true
        → is_close_of 0 (if b then message_said (gathered Side.Received past ++ payload) else said_at p (asked Side.Received past)) ≡ true
        → CameAt (passed Side.Received head payload ∷ journal)
    either true msg last said = record {
      moment = record { later = []; head = head; payload = payload; earlier = journal; is = refl; zero = zero; last = last };
      msg = msg;
      says = said;
    }
    either false msg last said = came-later (passed Side.Received head payload) journal (before said)

    by : (b : Bool) → (is_msg head.kind && not head.more) ≡ b
        → is_close_of 0 (said_at p (if b then message_said (gathered Side.Received past ++ payload) ∷ asked Side.Received past else asked Side.Received past)) ≡ true
        → CameAt (passed Side.Received head payload ∷ journal)
    by true ends said =
        either (length (asked Side.Received past) == p) (left_of (is_msg head.kind) (not head.more) ends) (right_of (is_msg head.kind) (not head.more) ends) said
    by false ends said = came-later (passed Side.Received head payload) journal (before said)

came-at : (journal : List Item) (p : ℕ) → is_close_of 0 (said_at p (asked Side.Received (zero_history journal))) ≡ true → CameAt journal
came-at [] p is = absurd (none-said p 0 is)
came-at (item ∷ journal) p is = by (channel_of item == 0) refl is (came-at journal p)
  where
    by : (b : Bool) → (channel_of item == 0) ≡ b → is_close_of 0 (said_at p (asked Side.Received (if b then item ∷ zero_history journal else zero_history journal))) ≡ true
        → (is_close_of 0 (said_at p (asked Side.Received (zero_history journal))) ≡ true → CameAt journal) → CameAt (item ∷ journal)
    by true zero said before = came-item item journal p zero before said
    by false zero said before = came-later item journal (before said)

-- ---- that refused nothing, so the own close had begun

msg-no-err : (kind : Kind) → is_msg kind ≡ true → same_kind Kind.Err kind ≡ false
msg-no-err Kind.Msg is = refl
msg-no-err Kind.Rpy is = absurd cc
msg-no-err Kind.Err is = absurd cc
msg-no-err Kind.Ans is = absurd cc
msg-no-err Kind.Nul is = absurd cc

close-coded : (es : List Event) (form : Option Form) → is_close_of 0 form ≡ true → close_code es form ≡ None → ⊥
close-coded es None says none = absurd cc
close-coded es (Some (greeting features localize profiles)) says none = absurd cc
close-coded es (Some (start number server profiles)) says none = absurd cc
close-coded es (Some (chosen profile)) says none = absurd cc
close-coded es (Some okay) says none = absurd cc
close-coded es (Some (fault code note)) says none = absurd cc
close-coded es (Some (close number code note)) says none = some code (sym (ap (λ b. if b || (number == 1 && is_live 1 es) then Some code else None) says) ∙ none)
  where
    some : (code : ℕ) → Some code ≡ None → ⊥
    some code e = absurd cc

begun-then : (journal : List Item) (head : Head) (payload : List ℕ) → (head.channel == 0) ≡ true → not head.more ≡ true → is_msg head.kind ≡ true
    → is_close_of 0 (message_said (gathered Side.Received (zero_history journal) ++ payload)) ≡ true
    → refused_at Command.Send (passed Side.Received head payload) journal ≡ None → has_begun 2 journal ≡ true
begun-then journal head payload zero last msg says none =
    by (has_begun 2 journal) refl (sym (test zero last msg (msg-no-err head.kind msg)) ∙ none)
  where
    said : Option Form
    said = message_said (gathered Side.Received (zero_history journal) ++ payload)

    test : (head.channel == 0) ≡ true → not head.more ≡ true → is_msg head.kind ≡ true → same_kind Kind.Err head.kind ≡ false
        → refused_at Command.Send (passed Side.Received head payload) journal ≡ (if not (has_begun 2 journal) then close_code (events journal) said else None)
    test zero last msg err = rw (zero, last, err, msg) refl

    by : (b : Bool) → has_begun 2 journal ≡ b → (if not b then close_code (events journal) said else None) ≡ None → has_begun 2 journal ≡ true
    by true e none = e
    by false e none = absurd (close-coded (events journal) said says none)

-- ---- and stays begun

more-requests : (item : Item) (past : List Item) → nat_lt 2 (length (requests Side.Sent past)) ≡ true → nat_lt 2 (length (requests Side.Sent (item ∷ past))) ≡ true
more-requests (began by head) past is = here (same_side by Side.Sent && begins_request Side.Sent past head)
  where
    here : (b : Bool) → nat_lt 2 (length (if b then record { position = length (requests Side.Sent past); number = head.msgno } ∷ requests Side.Sent past else requests Side.Sent past)) ≡ true
    here true = lt-ltb 2 (suc (length (requests Side.Sent past))) (omega (arith, ltb-true 2 (length (requests Side.Sent past)) is))
    here false = is
more-requests (passed by head payload) past is = is
more-requests (told by seq) past is = is

more-where : (b : Bool) (item : Item) (past : List Item) → nat_lt 2 (length (requests Side.Sent past)) ≡ true
    → nat_lt 2 (length (requests Side.Sent (if b then item ∷ past else past))) ≡ true
more-where true item past is = more-requests item past is
more-where false item past is = is

begun-later : (later journal : List Item) → has_begun 2 journal ≡ true → has_begun 2 (later ++ journal) ≡ true
begun-later [] journal is = is
begun-later (item ∷ later) journal is = more-where (channel_of item == 0) item (zero_history (later ++ journal)) (begun-later later journal is)

-- where the peer's close of 0 had come, the own close of channel 1 had begun
pub begun-at : (journal : List Item) (p : ℕ) → refusal Command.Send journal ≡ None → is_close_of 0 (said_at p (asked Side.Received (zero_history journal))) ≡ true
    → has_begun 2 journal ≡ true
begun-at journal p none is =
    let came = came-at journal p is in
    let m = came.moment in
    let earlier = refused-none Command.Send m.later (passed Side.Received m.head m.payload ∷ m.earlier) (subst (λ (j : List Item). refusal Command.Send j ≡ None) m.is none) in
    let begun = begun-then m.earlier m.head m.payload m.zero m.last came.msg came.says (refused-here Command.Send (passed Side.Received m.head m.payload) m.earlier earlier) in
    subst (λ (j : List Item). has_begun 2 j ≡ true) (sym m.is)
    (begun-later m.later (passed Side.Received m.head m.payload ∷ m.earlier) (begun-later (passed Side.Received m.head m.payload ∷ []) m.earlier begun))

pub said-before : (later journal : List Item) (p : ℕ) → has_come p journal ≡ true → is_close_of 0 (said_at p (asked Side.Received (zero_history (later ++ journal)))) ≡ true
    → is_close_of 0 (said_at p (asked Side.Received (zero_history journal))) ≡ true
said-before later journal p come is = ap (is_close_of 0) (sym (said-later later journal p come).0) ∙ is

-- ---- a request that doesn't wait

or-first : (a b : Bool) → a ≡ true → (a || b) ≡ true
or-first true b is = refl
or-first false b is = absurd cc

or-second : (a b : Bool) → b ≡ true → (a || b) ≡ true
or-second true b is = refl
or-second false b is = is

kept-any : (b : Bool) (p : Request → Bool) (r : Request) (rs : List Request) → list_any p rs ≡ true → list_any p (if b then r ∷ rs else rs) ≡ true
kept-any true p r rs is = or-second (p r) (list_any p rs) is
kept-any false p r rs is = is

less : (a n : ℕ) → a < suc n → (a == n) ≡ false → a < n
less a n within apart = grind (arith, within, apart, nat_tests)

pub any-numbered : (f g : ℕ → Bool) (p : ℕ) (rs : List Request) → IsNumbered rs → p < length rs → f p ≡ true → g p ≡ true
    → list_any (λ r. f r.position) (filter (λ r. g r.position) rs) ≡ true
any-numbered f g p [] numbered within one two = absurd (omega arith)
any-numbered f g p (r ∷ rs) numbered within one two = by (p == length rs) refl (any-numbered f g p rs numbered.1)
  where
    rest : List Request
    rest = filter (λ (x : Request). g x.position) rs

    by : (b : Bool) → (p == length rs) ≡ b → (p < length rs → f p ≡ true → g p ≡ true → list_any (λ (x : Request). f x.position) rest ≡ true)
        → list_any (λ (x : Request). f x.position) (if g r.position then r ∷ rest else rest) ≡ true
    by true same before =
        let at : r.position ≡ p = numbered.0 ∙ sym (equal-number p (length rs) same) in
        subst (λ (b : Bool). list_any (λ (x : Request). f x.position) (if b then r ∷ rest else rest) ≡ true) (sym (ap g at ∙ two))
        (or-first (f r.position) (list_any (λ (x : Request). f x.position) rest) (ap f at ∙ one))
    by false apart before =
        kept-any (g r.position) (λ (x : Request). f x.position) r rest (before (less p (length rs) within apart) one two)

-- where the own request at 2 waits, it says a close of 0
pub waits-as-release : (forms : List (Option Form)) (past : List Item) → has_other_asking forms past ≡ false → nat_lt 2 (length (requests Side.Sent past)) ≡ true
    → is_answered Side.Sent 2 past ≡ false → is_close_of 0 (said_at 2 forms) ≡ true
waits-as-release forms past none begun waits = by (is_close_of 0 (said_at 2 forms)) refl
  where
    contradiction : true ≡ false → ⊥
    contradiction e = absurd cc

    by : (b : Bool) → is_close_of 0 (said_at 2 forms) ≡ b → is_close_of 0 (said_at 2 forms) ≡ true
    by true e = e
    by false e = absurd (contradiction (sym (any-numbered (λ p. not (is_close_of 0 (said_at p forms))) (λ p. not (is_answered Side.Sent p past)) 2 (requests Side.Sent past)
        (requests-numbered Side.Sent past) (ltb-true 2 (length (requests Side.Sent past)) begun) (ap not e) (ap not waits)) ∙ none))
