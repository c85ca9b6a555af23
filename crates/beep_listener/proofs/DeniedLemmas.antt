-- A listener that the peer refused has no lines: what refuses it is the peer's greeting, before which no life begins.
use Rattle.std.proofs.Common.{◌≡◌, ◌∙◌, refl, sym, ap, subst, ℕ, ◌+◌, ◌<◌, ◌==◌, Bool, true, false, not, ◌&&◌, ◌||◌, if◌then◌else◌, List, [], ◌∷◌, ◌++◌, map, length, flat_map, Option, None, Some, ◌⊎◌, inl, inr, arith}
use Rattle.std.specs.Prelude.{is_some, nat_lt, take, find}
use Rattle.std.specs.List.{list_any}
use Rattle.std.proofs.lemmas.Bool.Decides.{nat_tests}
use Rattle.beep_steps.specs.beep_frame.specs.declared.head.Head.{Head}
use Rattle.beep_steps.specs.beep_frame.specs.declared.kind.Kind.{Kind}
use Rattle.beep_steps.specs.beep_frame.specs.declared.rule.Rule.{Rule}
use Rattle.beep_steps.specs.beep_frame.specs.declared.seq.Seq.{Seq}
use Rattle.beep_steps.specs.beep_frame.specs.Frame.{is_ans, is_msg, is_reply, same_kind}
use Rattle.beep_steps.specs.beep_history.specs.declared.journal.Side.{Side}
use Rattle.beep_steps.specs.beep_history.specs.declared.limits.TheConstants.{MAX_REQUESTS}
use Rattle.beep_steps.specs.beep_history.specs.Journal.{Item, began, passed, told, other, same_side}
use Rattle.beep_steps.specs.beep_history.specs.Marks.{Mark, Request, is_answered, is_whole, latest, marks, mark_modulo_2_64, position_of, previous, requests}
use Rattle.beep_steps.specs.beep_history.specs.Broken.{KeepsExchangeRules, broken_rule, exchange_rule, first_of, is_limit, octet_rules, under_way, with_octets}
use Rattle.beep_steps.specs.beep_history.specs.Windows.{window_edge}
use Rattle.beep_steps.specs.beep_history.proofs.KeptLemmas.{Kept, KeptReply, kept, kept_reply}
use Rattle.beep_steps.specs.beep_history.proofs.ListsLemmas.{find-take}
use Rattle.beep_steps.specs.beep_history.proofs.PassedLemmas.{sound}
use Rattle.beep_steps.specs.beep_history.proofs.RulesLemmas.{octets-between}
use Rattle.beep_steps.specs.beep_history.proofs.SoundLemmas.{IsDue, Sound, at-some, some-of}
use Rattle.beep_steps.specs.beep_mgmt.specs.Form.{Form, greeting, start, chosen, close, okay, fault}
use Rattle.beep_steps.specs.beep_mgmt.specs.Message.{message_said}
use Rattle.beep_steps.specs.beep_journal.specs.declared.role.Role.{Role}
use Rattle.beep_steps.specs.beep_journal.specs.Broken.{breaks_zero_reply, broken_head, broken_seq, none_tunes, or_else, session_rules}
use Rattle.beep_steps.specs.beep_journal.specs.Journal.{Past, Shows, TakesOctet, TakesWhere, begins, goes_on, seq_ends}
use Rattle.beep_steps.specs.beep_journal.specs.Laws.{rest_from}
use Rattle.beep_steps.specs.beep_journal.specs.Life.{history, is_released, life, life_now, life_under_way}
use Rattle.beep_steps.specs.beep_journal.specs.Lives.{Event, is_live, lives}
use Rattle.beep_steps.specs.beep_journal.specs.Log.{Moment, got, got_all}
use Rattle.beep_steps.specs.beep_journal.specs.Zero.{asked, channel_of, coming, completes_form, effect, events, gathered, granting, said_at, said_to, zero_events, zero_history}
use Rattle.beep_steps.specs.beep_journal.proofs.ShownLemmas.{one-shown}
use Rattle.beep_steps.specs.beep_channel.specs.Held.{Live}
use Rattle.beep_steps.specs.beep_channel.specs.Stands.{Stands}
use Rattle.beep_steps.specs.beep_lives.specs.Lives.{live_at}
use Rattle.beep_steps.specs.beep_outbox.specs.Queue.{marks_of as unsent_marks}
use Rattle.beep_steps.specs.beep_standing.specs.Standing.{AreLiveBy, Marks}
use Rattle.beep_steps.specs.beep_desk.proofs.EventLemmas.{answered-more}
use Rattle.beep_steps.specs.beep_desk.proofs.SaysLemmas.{says-nothing}
use Rattle.beep_steps.specs.beep_replies.proofs.LogLemmas.{IsReceived, comes-so}
use Rattle.beep_steps.specs.beep_replies.proofs.SaidLemmas.{lives-grow}
use Rattle.beep_steps.specs.beep_session.specs.Session.{Held}
use Rattle.beep_steps.specs.beep_session.specs.Lawfully.{terms_of}
use Rattle.beep_steps.specs.beep_lawful.specs.declared.terms.Terms.{Terms}
use Rattle.beep_steps.specs.beep_link.specs.declared.ended.Stop.{Stop}
use Rattle.beep_steps.specs.beep_link.specs.Causes.{ended_by}
use Rattle.beep_steps.specs.beep_talk.specs.declared.plan.Command.{Command}
use Rattle.beep_steps.specs.beep_talk.specs.Plan.{PlainPlan}
use Rattle.beep_steps.specs.beep_talk.specs.Talk.{chooses, has_profile}
use Rattle.beep_steps.specs.prof_raw.specs.Line.{line_of}
use Rattle.beep_steps.specs.beep_script.specs.Lines.{Heard, content_with, entries_in, heard, heard_at, lines}
use Rattle.beep_steps.specs.beep_script.specs.Refused.{fault_code, refusal}
use Rattle.beep_steps.specs.beep_script.specs.Requested.{requests_from}
use Rattle.beep_steps.specs.beep_script.specs.Script.{BeginsWith}
use Rattle.beep_steps.specs.beep_script.proofs.RequestedLemmas.{AreAskedSo, asked-so, requests-append, requests-modulo}
use Rattle.beep_steps.specs.Desking.{DesksOn, IsGreetingDue, IsGreetingOpen, Meets}
use Rattle.beep_steps.specs.Logs.{ShowsRefused, command_of}
use Rattle.beep_steps.specs.Refusing.{RefusesOn}
use Rattle.beep_steps.specs.Serving.{ServesOn}
use Rattle.beep_steps.proofs.DeskCalls.{one-journal}
use Rattle.beep_steps.proofs.DeskMet.{zero-under}
use Rattle.beep_steps.proofs.RefusalLemmas.{refusal-same}
use Rattle.beep_listener.specs.Listening.{UnrefusedOn, WritesLines, is_gathered, is_whole as ends_whole}
use Rattle.beep_listener.proofs.UnderLemmas.{KnowsOf, first-true, goes-clear, shown-knows, under-frame}

-- ---- tests

left-false : (a b : Bool) → (a || b) ≡ false → a ≡ false
left-false true b e = absurd cc
left-false false b e = refl

right-false : (a b : Bool) → (a || b) ≡ false → b ≡ false
right-false true b e = absurd cc
right-false false b e = e

and-false : (a b : Bool) → b ≡ false → (a && b) ≡ false
and-false true b e = e
and-false false b e = refl

no-form : (form : Option Form) → is_some form ≡ false → form ≡ None
no-form None e = refl
no-form (Some form) e = absurd cc

clash : {A : Type 0} (b : Bool) → b ≡ true → b ≡ false → A
clash b e f = absurd (let g : true ≡ false = sym e ∙ f in cc)

-- ---- where no request says anything, no life begins

abbrev AreSilent : List (Option Form) → Type 0
AreSilent forms = list_any is_some forms ≡ false

silent-at : (p : ℕ) (forms : List (Option Form)) → AreSilent forms → said_at p forms ≡ None
silent-at p [] none = refl
silent-at p (form ∷ forms) none = of (length forms == p) (silent-at p forms (right-false (is_some form) (list_any is_some forms) none))
  where
    of : (b : Bool) → said_at p forms ≡ None → (if b then form else said_at p forms) ≡ None
    of true rest = no-form form (left-false (is_some form) (list_any is_some forms) none)
    of false rest = rest

-- the requests before an item, and what it says where it ends one
asked-before : (side : Side) (item : Item) (zero : List Item) → AreSilent (asked side (item ∷ zero)) → AreSilent (asked side zero)
asked-before side (began by head) zero none = none
asked-before side (told by seq) zero none = none
asked-before side (passed by head payload) zero none = of (same_side by side && (is_msg head.kind && not head.more)) none
  where
    of : (b : Bool) → AreSilent (if b then message_said (gathered side zero ++ payload) ∷ asked side zero else asked side zero) → AreSilent (asked side zero)
    of true e = right-false (is_some (message_said (gathered side zero ++ payload))) (list_any is_some (asked side zero)) e
    of false e = e

asked-now : (by : Side) (head : Head) (payload : List ℕ) (zero : List Item) → AreSilent (asked by (passed by head payload ∷ zero)) → head.more ≡ false → is_msg head.kind ≡ true
    → message_said (gathered by zero ++ payload) ≡ None
asked-now by head payload zero none last msg = of by none
  where
    ends : (is_msg head.kind && not head.more) ≡ true
    ends = ap (λ (b : Bool). b && not head.more) msg ∙ ap not last

    first : (side : Side) → AreSilent (if is_msg head.kind && not head.more then message_said (gathered side zero ++ payload) ∷ asked side zero else asked side zero)
        → message_said (gathered side zero ++ payload) ≡ None
    first side e =
        no-form (message_said (gathered side zero ++ payload)) (left-false (is_some (message_said (gathered side zero ++ payload))) (list_any is_some (asked side zero))
        (subst (λ (b : Bool). AreSilent (if b then message_said (gathered side zero ++ payload) ∷ asked side zero else asked side zero)) ends e))

    of : (side : Side) → AreSilent (asked side (passed side head payload ∷ zero)) → message_said (gathered side zero ++ payload) ≡ None
    of Side.Received e = first Side.Received e
    of Side.Sent e = first Side.Sent e

effect-none : (by : Side) (head : Head) (payload : List ℕ) (zero : List Item) → (head.more ≡ false → is_msg head.kind ≡ true → message_said (gathered by zero ++ payload) ≡ None)
    → AreSilent (asked (other by) zero) → effect by head payload zero ≡ []
effect-none by head payload zero none silent = of head.more (is_msg head.kind) (same_kind Kind.Rpy head.kind && completes_form by head payload zero) refl refl
  where
    of : (m k g : Bool) → head.more ≡ m → is_msg head.kind ≡ k
        → (if m then [] else (if k then coming by (length (asked by zero)) (message_said (gathered by zero ++ payload))
        else (if g then granting (other by) (position_of by zero head) (said_to by head zero) else []))) ≡ []
    of true k g more msg = refl
    of false true g more msg = ap (coming by (length (asked by zero))) (none more msg)
    of false false true more msg = ap (granting (other by) (position_of by zero head)) (silent-at (position_of by zero head) (asked (other by) zero) silent)
    of false false false more msg = refl

silent-events : (zero : List Item) → AreSilent (asked Side.Received zero) → AreSilent (asked Side.Sent zero) → zero_events zero ≡ []
silent-events [] theirs ours = refl
silent-events (began by head ∷ zero) theirs ours = silent-events zero theirs ours
silent-events (told by seq ∷ zero) theirs ours = silent-events zero theirs ours
silent-events (passed by head payload ∷ zero) theirs ours =
    ap (λ (es : List Event). effect by head payload zero ++ es) (silent-events zero (before Side.Received theirs) (before Side.Sent ours)) ∙ ap (λ (es : List Event). es ++ []) (of by theirs ours)
  where
    before : (side : Side) → AreSilent (asked side (passed by head payload ∷ zero)) → AreSilent (asked side zero)
    before side e = asked-before side (passed by head payload) zero e

    of : (side : Side) → AreSilent (asked Side.Received (passed side head payload ∷ zero)) → AreSilent (asked Side.Sent (passed side head payload ∷ zero)) → effect side head payload zero ≡ []
    of Side.Received r s = effect-none Side.Received head payload zero (asked-now Side.Received head payload zero r) s
    of Side.Sent r s = effect-none Side.Sent head payload zero (asked-now Side.Sent head payload zero s) r

-- ---- what comes begins no life of an end that asks nothing

-- no life has begun, and the end asked nothing
record Unstarted (journal : List Item) : Type 0 where
  none : (n : ℕ) → lives n (events journal) ≡ 0
  silent : AreSilent (asked Side.Sent (zero_history journal))

coming-lives : (n : ℕ) (by : Side) (p : ℕ) (form : Option Form) (es : List Event) → lives n (coming by p form ++ es) ≡ lives n es
coming-lives n by p None es = refl
coming-lives n by p (Some (greeting features localize profiles)) es = refl
coming-lives n by p (Some (start number server profiles)) es = refl
coming-lives n by p (Some (chosen profile)) es = refl
coming-lives n by p (Some (close number code note)) es = refl
coming-lives n by p (Some okay) es = refl
coming-lives n by p (Some (fault code note)) es = refl

came-lives : (n : ℕ) (head : Head) (payload : List ℕ) (zero : List Item) → AreSilent (asked Side.Sent zero) → lives n (effect Side.Received head payload zero ++ zero_events zero) ≡ lives n (zero_events zero)
came-lives n head payload zero silent = of head.more (is_msg head.kind) (same_kind Kind.Rpy head.kind && completes_form Side.Received head payload zero)
  where
    of : (m k g : Bool)
        → lives n ((if m then [] else (if k then coming Side.Received (length (asked Side.Received zero)) (message_said (gathered Side.Received zero ++ payload))
        else (if g then granting Side.Sent (position_of Side.Received zero head) (said_to Side.Received head zero) else []))) ++ zero_events zero) ≡ lives n (zero_events zero)
    of true k g = refl
    of false true g = coming-lives n Side.Received (length (asked Side.Received zero)) (message_said (gathered Side.Received zero ++ payload)) (zero_events zero)
    of false false true =
        ap (λ (form : Option Form). lives n (granting Side.Sent (position_of Side.Received zero head) form ++ zero_events zero))
        (silent-at (position_of Side.Received zero head) (asked Side.Sent zero) silent)
    of false false false = refl

unstarted-item : (item : Item) (journal : List Item) → IsReceived item → Unstarted journal → Unstarted (item ∷ journal)
unstarted-item item journal is u = record {
  none = λ n. live n (channel_of item == 0) ∙ u.none n;
  silent = asks (channel_of item == 0);
}
  where
    one : (n : ℕ) (i : Item) → IsReceived i → lives n (zero_events (i ∷ zero_history journal)) ≡ lives n (events journal)
    one n (began by head) r = refl
    one n (told by seq) r = refl
    one n (passed Side.Received head payload) r = came-lives n head payload (zero_history journal) u.silent
    one n (passed Side.Sent head payload) r = absurd r

    live : (n : ℕ) (b : Bool) → lives n (zero_events (if b then item ∷ zero_history journal else zero_history journal)) ≡ lives n (events journal)
    live n true = one n item is
    live n false = refl

    ask : (i : Item) → IsReceived i → asked Side.Sent (i ∷ zero_history journal) ≡ asked Side.Sent (zero_history journal)
    ask (began by head) r = refl
    ask (told by seq) r = refl
    ask (passed Side.Received head payload) r = refl
    ask (passed Side.Sent head payload) r = absurd r

    asks : (b : Bool) → AreSilent (asked Side.Sent (if b then item ∷ zero_history journal else zero_history journal))
    asks true = ap (list_any is_some) (ask item is) ∙ u.silent
    asks false = u.silent

-- ---- where no life has begun no answer was heard

none-before : (n : ℕ) (item : Item) (journal : List Item) → lives n (events (item ∷ journal)) ≡ 0 → lives n (events journal) ≡ 0
none-before n item journal e = let grown = lives-grow n item journal in omega (arith, grown, e)

no-profile : (uri : List ℕ) (n : ℕ) (journal : List Item) → has_profile uri n 0 journal ≡ false
no-profile uri n [] = refl
no-profile uri n (item ∷ journal) =
    of (chooses uri item journal) (lives n (events journal) + 1 == 0) (nat_lt (lives n (events journal)) (lives n (events (item ∷ journal)))) (has_profile uri n 0 journal)
    (apart (lives n (events journal))) (no-profile uri n journal)
  where
    apart : (m : ℕ) → (m + 1 == 0) ≡ false
    apart m = grind (arith, nat_tests)

    of : (a b c d : Bool) → b ≡ false → d ≡ false → ((a && (b && c)) || d) ≡ false
    of true true c d e f = absurd (let g : true ≡ false = e in cc)
    of true false c d e f = f
    of false b c d e f = f

none-heard : (plan : PlainPlan) (journal : List Item) → ((n : ℕ) → lives n (events journal) ≡ 0) → heard plan journal ≡ []
none-heard plan [] none = refl
none-heard plan (item ∷ journal) none =
    ap (λ (hs : List Heard). hs ++ heard_at plan item journal) (none-heard plan journal before) ∙ one item
  where
    before : (n : ℕ) → lives n (events journal) ≡ 0
    before n = none-before n item journal (none n)

    now : (n : ℕ) → life_now n journal ≡ 0
    now n = of (is_live n (events journal))
      where
        of : (b : Bool) → (if b then lives n (events journal) else 0) ≡ 0
        of true = before n
        of false = refl

    profile : (n : ℕ) → has_profile plan.raw_uri n (life_now n journal) journal ≡ false
    profile n = ap (λ (count : ℕ). has_profile plan.raw_uri n count journal) (now n) ∙ no-profile plan.raw_uri n journal

    one : (i : Item) → heard_at plan i journal ≡ []
    one (began by head) = refl
    one (told by seq) = refl
    one (passed Side.Sent head payload) = refl
    one (passed Side.Received head payload) =
        ap (λ (b : Bool). if b then record {
          number = head.channel;
          count = life_now head.channel journal;
          content = content_with head payload (life head.channel (life_now head.channel journal) journal);
        } ∷ [] else [])
        (and-false (is_ans head.kind && not head.more && life_under_way head.channel Side.Received journal == life_now head.channel journal
        && position_of Side.Received (life head.channel (life_now head.channel journal) journal) head == 0)
        (has_profile plan.raw_uri head.channel (life_now head.channel journal) journal) (profile head.channel))

none-lines : (plan : PlainPlan) (journal : List Item) → Unstarted journal → lines plan journal ≡ []
none-lines plan journal u = ap (λ (hs : List Heard). flat_map line_of (entries_in hs)) (none-heard plan journal u.none)

-- ---- own requests that are whole

some-asked : (journal : List Item) → 0 < length (asked Side.Sent (zero_history journal))
some-asked [] = omega arith
some-asked (item ∷ journal) = of (channel_of item == 0) (some-asked journal)
  where
    past : List Item
    past = zero_history journal

    more : (i : Item) → 0 < length (asked Side.Sent past) → 0 < length (asked Side.Sent (i ∷ past))
    more (began by head) some = some
    more (told by seq) some = some
    more (passed by head payload) some = either (same_side by Side.Sent && (is_msg head.kind && not head.more))
      where
        either : (b : Bool) → 0 < length (if b then message_said (gathered Side.Sent past ++ payload) ∷ asked Side.Sent past else asked Side.Sent past)
        either true = omega arith
        either false = some

    of : (b : Bool) → 0 < length (asked Side.Sent past) → 0 < length (asked Side.Sent (if b then item ∷ past else past))
    of true some = more item some
    of false some = some

-- the one own request that is whole is the implied one
abbrev OneOwn : List Item → Type 0
OneOwn zero = length (asked Side.Sent zero) ≡ 1 → (p : ℕ) → is_whole Side.Sent p zero ≡ true → p ≡ 0

first-own : (journal : List Item) → OneOwn (zero_history journal)
first-own [] one p whole = of (1 == p + 1) refl whole
  where
    place : (1 == p + 1) ≡ true → p ≡ 0
    place e = grind (arith, nat_tests)

    of : (b : Bool) → (1 == p + 1) ≡ b → (b || false) ≡ true → p ≡ 0
    of true e f = place e
    of false e f = absurd cc
first-own (item ∷ journal) one p whole = of (channel_of item == 0) (first-own journal) one p whole
  where
    past : List Item
    past = zero_history journal

    more : (i : Item) → OneOwn past → OneOwn (i ∷ past)
    more (began by head) rest o p w = rest o p w
    more (told by seq) rest o p w = rest o p w
    more (passed Side.Received head payload) rest o p w = rest o p w
    more (passed Side.Sent head payload) rest o p w = either (is_msg head.kind) head.more (length (requests Side.Sent past) == p + 1) o w
      where
        either : (k m n : Bool) → length (if k && not m then message_said (gathered Side.Sent past ++ payload) ∷ asked Side.Sent past else asked Side.Sent past) ≡ 1
            → (k && not m && n || is_whole Side.Sent p past) ≡ true → p ≡ 0
        either true false n o w = absurd (let some = some-asked journal in omega (arith, some, o))
        either true true n o w = rest o p w
        either false m n o w = rest o p w

    of : (b : Bool) → OneOwn past → OneOwn (if b then item ∷ past else past)
    of true rest = more item rest
    of false rest = rest

-- ---- once the peer's greeting has come nothing is refused

-- the implied request is answered, no other one is whole, and no reply is under way
record Greeted (journal : List Item) : Type 0 where
  answered : is_answered Side.Sent 0 (zero_history journal) ≡ true
  first : (p : ℕ) → is_whole Side.Sent p (zero_history journal) ≡ true → p ≡ 0
  quiet : (head : Head) → under_way Side.Received journal ≡ Some head → (head.channel == 0) ≡ true → is_reply head.kind ≡ false
  none : refusal Command.Listen journal ≡ None

exchange-kept : (journal : List Item) (head : Head) → broken_head none_tunes Side.Received journal head ≡ None → (head.channel == 0) ≡ true → Kept Side.Received (zero_history journal) head
unfolding broken_head broken_rule
exchange-kept journal head e zero =
    kept Side.Received (zero_history journal) head
    (first (exchange_rule Side.Received (zero_history journal) head) (first_of (octet_rules (window_edge Side.Received (zero_history journal)) Side.Received (zero_history journal) head))
    (sym (octets-between (window_edge Side.Received (zero_history journal)) Side.Received (zero_history journal) head)
    ∙ sym (ap (λ (b : Bool). broken_rule Side.Received (if b then zero_history journal else life head.channel (life_now head.channel journal) journal) head) zero)
    ∙ one (first_of (session_rules none_tunes Side.Received journal head)) (broken_rule Side.Received (history head.channel journal) head)
    (first_of ((Rule.ZeroReply, breaks_zero_reply head) ∷ [])) e))
  where
    one : (a b c : Option Rule) → or_else a (or_else b c) ≡ None → b ≡ None
    one None None c e = refl
    one None (Some rule) c e = absurd cc
    one (Some rule) b c e = absurd cc

    limited : (b : Bool) (rule other : Rule) → (if b then Some other else Some rule) ≡ None → Some rule ≡ None
    limited true rule other e = absurd cc
    limited false rule other e = e

    first : (a b : Option Rule) → with_octets a b ≡ None → a ≡ None
    first None b e = refl
    first (Some rule) None e = e
    first (Some rule) (Some other) e = limited (is_limit rule) rule other e

-- no reply begins
new-quiet : (head : Head) (journal : List Item) → broken_head none_tunes Side.Received journal head ≡ None → (head.channel == 0) ≡ true → Greeted journal → is_reply head.kind ≡ false
new-quiet head journal e zero g = of (is_reply head.kind) refl
  where
    past : List Item
    past = zero_history journal

    of : (b : Bool) → is_reply head.kind ≡ b → is_reply head.kind ≡ false
    of false is = is
    of true is =
        let r : KeptReply Side.Sent past head = kept_reply Side.Sent past head (exchange-kept journal head e zero) is in
        let some = some-of (find (λ (x : Request). x.number == head.msgno) (take MAX_REQUESTS (requests Side.Sent past))) r.asked in
        let found : latest Side.Sent head.msgno past ≡ Some some.0 = find-take (λ (x : Request). x.number == head.msgno) MAX_REQUESTS (requests Side.Sent past) some.0 some.1 in
        let whole : not (is_whole Side.Sent some.0.position past) ≡ false =
        sym (at-some (λ (x : Request). not (is_whole Side.Sent x.position past)) (latest Side.Sent head.msgno past) some.0 false found) ∙ r.whole in
        let fresh : is_answered Side.Sent some.0.position past ≡ false =
        sym (at-some (λ (x : Request). is_answered Side.Sent x.position past) (latest Side.Sent head.msgno past) some.0 false found) ∙ r.fresh in
        let place : some.0.position ≡ 0 = g.first some.0.position (positive (is_whole Side.Sent some.0.position past) whole) in
        clash (is_answered Side.Sent 0 past) g.answered (ap (λ (p : ℕ). is_answered Side.Sent p past) (sym place) ∙ fresh)
      where
        positive : (b : Bool) → not b ≡ false → b ≡ true
        positive true e = refl
        positive false e = absurd cc

same-head : (a b : Head) → Some a ≡ Some b → a ≡ b
same-head a b e = cc (e)

began-greeted : (head : Head) (journal : List Item) → broken_head none_tunes Side.Received journal head ≡ None → Greeted journal → Greeted (began Side.Received head ∷ journal)
began-greeted head journal e g = record {
  answered = answered-more Side.Sent 0 (began Side.Received head) journal g.answered;
  first = λ p. of p (head.channel == 0);
  quiet = λ h is zero.
      let same : head ≡ h = same-head head h is in
      subst (λ (x : Head). is_reply x.kind ≡ false) same (new-quiet head journal e (subst (λ (x : Head). (x.channel == 0) ≡ true) (sym same) zero) g);
  none = refusal-same Command.Listen (began Side.Received head) journal refl ∙ g.none;
}
  where
    of : (p : ℕ) (b : Bool) → is_whole Side.Sent p (if b then began Side.Received head ∷ zero_history journal else zero_history journal) ≡ true → p ≡ 0
    of p true w = g.first p w
    of p false w = g.first p w

told-greeted : (seq : Seq) (journal : List Item) → Greeted journal → Greeted (told Side.Received seq ∷ journal)
told-greeted seq journal g = record {
  answered = answered-more Side.Sent 0 (told Side.Received seq) journal g.answered;
  first = λ p. of p (seq.channel == 0);
  quiet = g.quiet;
  none = refusal-same Command.Listen (told Side.Received seq) journal refl ∙ g.none;
}
  where
    of : (p : ℕ) (b : Bool) → is_whole Side.Sent p (if b then told Side.Received seq ∷ zero_history journal else zero_history journal) ≡ true → p ≡ 0
    of p true w = g.first p w
    of p false w = g.first p w

error-reply : (kind : Kind) → is_reply kind ≡ false → same_kind Kind.Err kind ≡ false
error-reply Kind.Msg e = refl
error-reply Kind.Rpy e = refl
error-reply Kind.Err e = absurd (let g : true ≡ false = e in cc)
error-reply Kind.Ans e = refl
error-reply Kind.Nul e = refl

passed-greeted : (head : Head) (payload : List ℕ) (journal : List Item) → under_way Side.Received journal ≡ Some head → Greeted journal → Greeted (passed Side.Received head payload ∷ journal)
passed-greeted head payload journal under g = record {
  answered = answered-more Side.Sent 0 (passed Side.Received head payload) journal g.answered;
  first = λ p. of p (head.channel == 0);
  quiet = λ h is zero. absurd (let x : None ≡ Some h = is in cc);
  none = refusal-same Command.Listen (passed Side.Received head payload) journal (quiet (head.channel == 0) refl) ∙ g.none;
}
  where
    of : (p : ℕ) (b : Bool) → is_whole Side.Sent p (if b then passed Side.Received head payload ∷ zero_history journal else zero_history journal) ≡ true → p ≡ 0
    of p true w = g.first p w
    of p false w = g.first p w

    said : Option Form
    said = message_said (gathered Side.Received (zero_history journal) ++ payload)

    no-code : (b c : Bool) → c ≡ false → (if b then (if c then fault_code said else None) else None) ≡ None
    no-code true true e = absurd (let x : true ≡ false = e in cc)
    no-code true false e = refl
    no-code false c e = refl

    quiet : (z : Bool) → (head.channel == 0) ≡ z → (if z && not head.more then (if same_kind Kind.Err head.kind then fault_code said else None) else None) ≡ None
    quiet true zero = no-code (not head.more) (same_kind Kind.Err head.kind) (error-reply head.kind (g.quiet head under zero))
    quiet false zero = refl

-- ---- octets that come

begins-greeted : (broken : Option Rule) (octet : ℕ) (head : Head) (old : Past) → broken_head none_tunes Side.Received old.journal head ≡ broken → Greeted old.journal
    → Greeted (begins broken Side.Received octet head old).journal
begins-greeted None octet head old e g = began-greeted head old.journal e g
begins-greeted (Some rule) octet head old e g = g

ends-greeted : (broken : Option Rule) (seq : Seq) (old : Past) → Greeted old.journal → Greeted (seq_ends broken Side.Received seq old).journal
ends-greeted None seq old g = told-greeted seq old.journal g
ends-greeted (Some rule) seq old g = g

abbrev GreetedOf : Past → Type 0
GreetedOf past = Greeted past.journal

octet-greeted : (octet : ℕ) (old new : Past) → TakesOctet none_tunes Side.Received octet old new → KnowsOf old → GreetedOf old → GreetedOf new
octet-greeted octet old new (inl on) k g = subst GreetedOf (sym on.new_is) g
octet-greeted octet old new (inr (inl h)) k g =
    subst GreetedOf (sym h.new_is) (begins-greeted (broken_head none_tunes Side.Received old.journal h.head) octet h.head old refl g)
octet-greeted octet old new (inr (inr (inl f))) k g =
    subst GreetedOf (sym f.new_is) (passed-greeted f.head f.payload old.journal
    (under-frame (old.rest Side.Received) (under_way Side.Received old.journal) octet f.head f.payload k f.is_frame.0 f.whole) g)
octet-greeted octet old new (inr (inr (inr (inl s)))) k g = subst GreetedOf (sym s.new_is) (ends-greeted (broken_seq Side.Received old.journal s.seq) s.seq old g)
octet-greeted octet old new (inr (inr (inr (inr d)))) k g = subst GreetedOf (sym d.new_is) g

where-greeted : (b : Bool) (octet : ℕ) (old new : Past) → (b ≡ true → KnowsOf old) → TakesWhere b none_tunes Side.Received octet old new → GreetedOf old → GreetedOf new
where-greeted true octet old new knows takes g = octet-greeted octet old new takes (knows refl) g
where-greeted false octet old new knows takes g = subst GreetedOf (sym takes) g

comes-greeted : (octets : List ℕ) (log : List Moment) (before after : Past) → Shows none_tunes log before → Shows none_tunes (got_all octets log) after → GreetedOf before → GreetedOf after
comes-greeted [] log before after one other g = subst GreetedOf (one-shown none_tunes log before after one other) g
comes-greeted (octet ∷ octets) log before after one other g =
    let mid = middle octets (got octet ∷ log) after other in
    let old = mid.1.0 in
    let same : before ≡ old = one-shown none_tunes log before old one mid.1.1 in
    comes-greeted octets (got octet ∷ log) mid.0 after mid.1 other
    (where-greeted (goes_on old && not (is_released old.journal)) octet old mid.0
    (λ e. shown-knows log old mid.1.1 (goes-clear old (first-true (goes_on old) (not (is_released old.journal)) e))) mid.1.2 (subst GreetedOf same g))
  where
    middle : (octets : List ℕ) (log : List Moment) (after : Past) → Shows none_tunes (got_all octets log) after → (mid : Past) × Shows none_tunes log mid
    middle [] log after shows = (after, shows)
    middle (octet ∷ octets) log after shows = let next = middle octets (got octet ∷ log) after shows in (next.1.0, next.1.1)

-- ---- before the peer's greeting

-- before the first frame of the peer passes it has asked nothing
due-silent : (journal : List Item) → previous Side.Received journal ≡ None → AreSilent (asked Side.Received (zero_history journal))
due-silent [] none = ap (λ (form : Option Form). is_some form || false) says-nothing
due-silent (item ∷ journal) none = of item none (due-silent journal)
  where
    past : List Item
    past = zero_history journal

    same : (i : Item) (b : Bool) → asked Side.Received (i ∷ past) ≡ asked Side.Received past → AreSilent (asked Side.Received past)
        → AreSilent (asked Side.Received (if b then i ∷ past else past))
    same i true e silent = ap (list_any is_some) e ∙ silent
    same i false e silent = silent

    of : (i : Item) → previous Side.Received (i ∷ journal) ≡ None → (previous Side.Received journal ≡ None → AreSilent (asked Side.Received past))
        → AreSilent (asked Side.Received (zero_history (i ∷ journal)))
    of (began by head) e rest = same (began by head) (head.channel == 0) refl (rest e)
    of (told by seq) e rest = same (told by seq) (seq.channel == 0) refl (rest e)
    of (passed Side.Sent head payload) e rest = same (passed Side.Sent head payload) (head.channel == 0) refl (rest e)
    of (passed Side.Received head payload) e rest = absurd (let h : Some head ≡ None = e in cc)

-- so it is until its greeting is whole
unmet-silent : (journal : List Item) → IsGreetingDue journal ⊎ IsGreetingOpen (zero_history journal) → AreSilent (asked Side.Received (zero_history journal))
unmet-silent journal (inl due) = due-silent journal due.none
unmet-silent journal (inr open_now) = ap (list_any is_some) open_now.unasked

unmet-unstarted : (journal : List Item) → AreSilent (asked Side.Received (zero_history journal)) → AreSilent (asked Side.Sent (zero_history journal)) → Unstarted journal
unmet-unstarted journal theirs ours = record { none = λ n. ap (lives n) (silent-events (zero_history journal) theirs ours); silent = ours }

-- ---- a listener on its log

some-there : (o : Option Live) → is_some o ≡ true → (c : Live) × (o ≡ Some c)
some-there None is = absurd (let g : false ≡ true = is in cc)
some-there (Some c) is = (c, refl)

nothing-left : (xs ys : List (List ℕ)) → xs ++ ys ≡ [] → xs ≡ []
nothing-left [] ys e = refl
nothing-left (x ∷ xs) ys e = absurd (let g : (x ∷ xs) ++ ys ≡ [] = e in cc)

module _ (window : ℕ) (journal : List Item) (given taken : Marks) (channels : List Live) (live : AreLiveBy window journal given taken channels) (none : requests_from [] (given 0) ≡ []) where
  zero-there : (c : Live) × (live_at 0 channels ≡ Some c)
  zero-there = some-there (live_at 0 channels) (sym (live.there 0))

  zero-stands : Stands window zero-there.0.held (zero_history journal) (given 0) (taken 0)
  zero-stands = live.zero zero-there.0 zero-there.1

  keeps : KeepsExchangeRules (zero_history journal)
  keeps = zero-stands.held.exchange.unbroken

  abbrev sent : List Mark
  sent = marks Side.Sent (zero_history journal)

  -- it asked nothing
  no-texts : requests_from [] sent ≡ []
  no-texts =
      sym (requests-modulo [] sent)
      ∙ nothing-left (requests_from [] (map mark_modulo_2_64 sent)) (requests_from (rest_from [] (map mark_modulo_2_64 sent)) (unsent_marks zero-there.0.held.queue))
      (sym (requests-append [] (map mark_modulo_2_64 sent) (unsent_marks zero-there.0.held.queue)) ∙ sym (ap (requests_from []) zero-stands.all_given) ∙ none)

  one-asked : length (asked Side.Sent (zero_history journal)) ≡ 1
  one-asked =
      let a : AreAskedSo (zero_history journal) = asked-so journal keeps in
      a.count ∙ ap (λ (ts : List (List ℕ)). length (None ∷ map message_said ts)) no-texts

  own-silent : AreSilent (asked Side.Sent (zero_history journal))
  own-silent =
      let a : AreAskedSo (zero_history journal) = asked-so journal keeps in
      one-silent (asked Side.Sent (zero_history journal)) one-asked (a.said 0)
    where
      one-silent : (forms : List (Option Form)) → length forms ≡ 1 → said_at 0 forms ≡ None → AreSilent forms
      one-silent [] count said = refl
      one-silent (form ∷ []) count said = ap (λ (f : Option Form). is_some f || false) said
      one-silent (form ∷ other ∷ forms) count said = absurd (omega (arith, count))

  met-greeted : is_answered Side.Sent 0 (zero_history journal) ≡ true → refusal Command.Listen journal ≡ None → Greeted journal
  met-greeted answered unrefused = record { answered = answered; first = first-own journal one-asked; quiet = quiet; none = unrefused }
    where
      s : Sound Side.Sent (zero_history journal)
      s = sound Side.Sent (zero_history journal) keeps

      quiet : (head : Head) → under_way Side.Received journal ≡ Some head → (head.channel == 0) ≡ true → is_reply head.kind ≡ false
      quiet head under zero = of (is_reply head.kind) refl
        where
          of : (b : Bool) → is_reply head.kind ≡ b → is_reply head.kind ≡ false
          of false is = is
          of true is =
              let due : IsDue Side.Sent s.oldest (zero_history journal) head = s.due head (zero-under journal head zero under) is in
              let oldest : s.oldest ≡ 0 = first-own journal one-asked s.oldest due.whole in
              clash (is_answered Side.Sent 0 (zero_history journal)) answered (s.answered 0 ∙ ap (nat_lt 0) oldest)

module _ (plan : PlainPlan) (session : Held) (log : List Moment) (s : ServesOn plan session log) (d : DesksOn plan session log) (u : UnrefusedOn session log) where
  -- where a read brings a refusal the log shows no lines
  pub denied-lines : (octets : List ℕ) (code : ℕ) → ShowsRefused (terms_of session) code (got_all octets log)
      → (past : Past) → Shows none_tunes (got_all octets log) past → lines plan past.journal ≡ []
  denied-lines octets code refused past shows = of (subst Meets (one-journal session log d.on s.on) d.meets)
    where
      journal : List Item
      journal = s.on.journal

      live : AreLiveBy session.limits.window journal s.on.given s.on.taken session.peer.lives
      live = s.on.stands.stands.holds.live

      before : Past
      before = s.on.logged.shown.past

      same : before.journal ≡ journal
      same = s.on.logged.shown.journal_is

      of : Meets journal → lines plan past.journal ≡ []
      of (inl answered) =
          let g : Greeted before.journal =
          subst Greeted (sym same) (met-greeted session.limits.window journal s.on.given s.on.taken session.peer.lives live s.serves.no_request answered
          (subst (λ (j : List Item). refusal Command.Listen j ≡ None) same (u.unrefused before s.on.logged.shown.shows).none)) in
          let after : Greeted past.journal = comes-greeted octets log before past s.on.logged.shown.shows shows g in
          let now : refusal Command.Listen past.journal ≡ Some code =
          subst (λ (r : Role). refusal (command_of r) past.journal ≡ Some code) u.role (refused past shows) in
          absurd (let apart : None ≡ Some code = sym after.none ∙ now in cc)
      of (inr unmet) =
          none-lines plan past.journal (comes-so Unstarted unstarted-item octets log before past s.on.logged.shown.shows shows
          (subst Unstarted (sym same) (unmet-unstarted journal (unmet-silent journal unmet)
          (own-silent session.limits.window journal s.on.given s.on.taken session.peer.lives live s.serves.no_request))))

-- ---- what a listener wrote

no-more : (all text : List ℕ) → BeginsWith all text → all ≡ [] → text ≡ all
no-more all text b none = first text b.rest (sym none ∙ b.whole_is) ∙ sym none
  where
    first : (xs ys : List ℕ) → [] ≡ xs ++ ys → xs ≡ []
    first [] ys e = refl
    first (x ∷ xs) ys e = absurd cc

-- a beginning of no lines is all of them
pub denied-writes : (plan : PlainPlan) (terms : Terms) (stop : Stop) (log : List Moment) (text : List ℕ)
    → ((code : ℕ) → ShowsRefused terms code log → (past : Past) → Shows none_tunes log past → lines plan past.journal ≡ []) → RefusesOn terms stop log
    → WritesLines plan (is_gathered stop) log text → WritesLines plan (ends_whole (ended_by stop)) log text
denied-writes plan terms Stop.Released log text none refuses w = w
denied-writes plan terms (Stop.Broken rule place) log text none refuses w = w
denied-writes plan terms Stop.WriteFault log text none refuses w = w
denied-writes plan terms Stop.NoMemory log text none refuses w = w
denied-writes plan terms (Stop.Refused code) log text none refuses w = λ past shows served. no-more (lines plan past.journal) text (w past shows served) (none code refuses past shows)
