-- No request of the peer on channel zero comes before its greeting.
use Rattle.std.proofs.Common.{◌≡◌, ◌∙◌, refl, sym, ap, subst, ℕ, ◌==◌, Bool, true, false, not, ◌&&◌, ◌||◌, if◌then◌else◌, List, [], ◌∷◌, ◌++◌, Option, None, Some, arith, ◌⊎◌, inl, inr}
use Rattle.std.specs.Prelude.{is_some, nat_lt}
use Rattle.std.specs.List.{list_any}
use Rattle.std.specs.Option.{option_map_or}
use Rattle.std.proofs.lemmas.Bool.Decides.{nat_tests}
use Rattle.beep_session.specs.beep_frame.specs.declared.head.Head.{Head}
use Rattle.beep_session.specs.beep_frame.specs.declared.kind.Kind.{Kind}
use Rattle.beep_session.specs.beep_frame.specs.declared.rule.Rule.{Rule}
use Rattle.beep_session.specs.beep_frame.specs.declared.seq.Seq.{Seq}
use Rattle.beep_session.specs.beep_frame.specs.Frame.{is_ans, is_msg, is_nul, is_reply, same_kind}
use Rattle.beep_session.specs.beep_history.specs.declared.journal.Side.{Side}
use Rattle.beep_session.specs.beep_history.specs.Journal.{Item, began, passed, told}
use Rattle.beep_session.specs.beep_history.specs.Marks.{Request, answers, ends_reply, goes_on, is_answered, latest, previous, reply}
use Rattle.beep_session.specs.beep_history.specs.Broken.{KeepsExchangeRules, broken_rule, changes_message, changes_reply, first_of, goes_on_request, under_way}
use Rattle.beep_session.specs.beep_history.proofs.KeptLemmas.{Kept, kept}
use Rattle.beep_session.specs.beep_history.proofs.PassedLemmas.{sound}
use Rattle.beep_session.specs.beep_history.proofs.SoundLemmas.{IsDue, Sound}
use Rattle.beep_session.specs.beep_journal.specs.Broken.{breaks_no_greeting, breaks_size, broken_head, is_greeting, none_tunes, or_else, session_rules}
use Rattle.beep_session.specs.beep_journal.specs.Life.{history}
use Rattle.beep_session.specs.beep_mgmt.specs.Form.{Form}
use Rattle.beep_session.specs.beep_mgmt.specs.Message.{message_said}
use Rattle.beep_session.specs.beep_journal.specs.Zero.{asked, channel_of, gathered, zero_history}
use Rattle.beep_session.specs.beep_hearing.specs.Hears.{Join}
use Rattle.beep_desk.specs.beep_script.specs.Desk.{grants_own}
use Rattle.beep_replies.proofs.CountLemmas.{keeps-where}
use Rattle.beep_desk.proofs.EventLemmas.{answered-more}
use Rattle.beep_desk.proofs.OnceLemmas.{grant-answers}
use Rattle.beep_desk.proofs.SaysLemmas.{says-nothing}
use Rattle.beep_steps.specs.Desking.{IsGreetingDue, IsGreetingOpen, Meets, is_single}

-- ---- kinds

single-apart : (k : Kind) → is_single k ≡ true → is_msg k ≡ false
single-apart Kind.Msg e = absurd (let h : false ≡ true = e in cc)
single-apart Kind.Rpy e = refl
single-apart Kind.Err e = refl
single-apart Kind.Ans e = refl
single-apart Kind.Nul e = refl

single-reply : (k : Kind) → is_single k ≡ true → is_reply k ≡ true
single-reply Kind.Msg e = absurd (let h : false ≡ true = e in cc)
single-reply Kind.Rpy e = refl
single-reply Kind.Err e = refl
single-reply Kind.Ans e = refl
single-reply Kind.Nul e = refl

single-whole : (k : Kind) → is_single k ≡ true → is_ans k ≡ false
single-whole Kind.Msg e = refl
single-whole Kind.Rpy e = refl
single-whole Kind.Err e = refl
single-whole Kind.Ans e = absurd (let h : false ≡ true = e in cc)
single-whole Kind.Nul e = refl

single-same : (a b : Kind) → same_kind a b ≡ true → is_single a ≡ true → is_single b ≡ true
single-same Kind.Msg b s e = absurd (let h : false ≡ true = e in cc)
single-same Kind.Rpy Kind.Msg s e = absurd (let h : false ≡ true = s in cc)
single-same Kind.Rpy Kind.Rpy s e = refl
single-same Kind.Rpy Kind.Err s e = refl
single-same Kind.Rpy Kind.Ans s e = absurd (let h : false ≡ true = s in cc)
single-same Kind.Rpy Kind.Nul s e = absurd (let h : false ≡ true = s in cc)
single-same Kind.Err Kind.Msg s e = absurd (let h : false ≡ true = s in cc)
single-same Kind.Err Kind.Rpy s e = refl
single-same Kind.Err Kind.Err s e = refl
single-same Kind.Err Kind.Ans s e = absurd (let h : false ≡ true = s in cc)
single-same Kind.Err Kind.Nul s e = absurd (let h : false ≡ true = s in cc)
single-same Kind.Ans b s e = absurd (let h : false ≡ true = e in cc)
single-same Kind.Nul b s e = absurd (let h : false ≡ true = e in cc)

both-left : (a b : Bool) → (a && b) ≡ true → a ≡ true
both-left true b e = refl
both-left false b e = absurd cc

both-right : (a b : Bool) → (a && b) ≡ true → b ≡ true
both-right true b e = e
both-right false b e = absurd cc

greeting-single : (head : Head) → is_greeting head ≡ true → is_single head.kind ≡ true
greeting-single head g = both-left (is_single head.kind) (head.channel == 0) (both-left (is_single head.kind && head.channel == 0) (head.msgno == 0) g)

greeting-zero : (head : Head) → is_greeting head ≡ true → (head.channel == 0) ≡ true
greeting-zero head g = both-right (is_single head.kind) (head.channel == 0) (both-left (is_single head.kind && head.channel == 0) (head.msgno == 0) g)

-- ---- rules on a header

next-rule : (holds : Bool) (rule : Rule) (others : Option Rule) → (if holds then Some rule else others) ≡ None → (holds ≡ false) × (others ≡ None)
next-rule true rule others e = absurd cc
next-rule false rule others e = (refl, e)

first-none : (a b : Option Rule) → or_else a b ≡ None → a ≡ None
first-none None b e = refl
first-none (Some rule) b e = absurd cc

-- the first frame of the peer is of its greeting
first-greets : (journal : List Item) (head : Head) → broken_head none_tunes Side.Received journal head ≡ None → previous Side.Received journal ≡ None → is_greeting head ≡ true
unfolding broken_head
first-greets journal head e none =
    let one = first-none (first_of (session_rules none_tunes Side.Received journal head)) _ e in
    let size = next-rule (breaks_size head) Rule.Size _ one in
    let greeting = next-rule (breaks_no_greeting Side.Received journal head) Rule.NoGreeting _ size.1 in
    of (is_greeting head) (sym (ap (λ (o : Option Head). not (is_some o) && not (is_greeting head)) none) ∙ greeting.0)
  where
    of : (g : Bool) → not g ≡ false → g ≡ true
    of true f = refl
    of false f = absurd cc

second-none : (a b : Option Rule) → or_else a b ≡ None → b ≡ None
second-none None b e = e
second-none (Some rule) b e = absurd cc

-- no reply on channel zero is a NUL
zero-whole : (journal : List Item) (head : Head) → broken_head none_tunes Side.Received journal head ≡ None → (head.channel == 0) ≡ true → is_nul head.kind ≡ false
unfolding broken_head
zero-whole journal head e zero =
    let two = second-none (first_of (session_rules none_tunes Side.Received journal head)) _ e in
    let three = second-none (broken_rule Side.Received (history head.channel journal) head) _ two in
    of (head.channel == 0) (is_ans head.kind) (is_nul head.kind) zero three
  where
    of : (z a n : Bool) → z ≡ true → (if z && (a || n) then Some Rule.ZeroReply else None) ≡ None → n ≡ false
    of false a n z e = absurd cc
    of true true n z e = absurd cc
    of true false true z e = absurd cc
    of true false false z e = refl

-- a message that isn't complete goes on as one of its kind
goes-on-single : (past : List Item) (head before : Head) → Kept Side.Received past head → previous Side.Received past ≡ Some before → before.more ≡ true → is_single before.kind ≡ true
    → is_nul head.kind ≡ false → is_single head.kind ≡ true
goes-on-single past head before k last more single whole = by (before.msgno == head.msgno) refl
  where
    or-first : (a b : Bool) → (a || b) ≡ false → a ≡ false
    or-first true b e = absurd cc
    or-first false b e = refl

    unless : (a b : Bool) → a ≡ true → (a && not b) ≡ false → b ≡ true
    unless true true e f = refl
    unless true false e f = absurd cc
    unless false b e f = absurd cc

    changed : changes_message Side.Received past head ≡ (goes_on head before && not (same_kind before.kind head.kind))
    changed = ap (λ (o : Option Head). option_map_or (λ b. goes_on head b && not (same_kind b.kind head.kind)) o false) last

    unchanged : changes_message Side.Received past head ≡ false
    unchanged =
        or-first (changes_message Side.Received past head) (is_reply head.kind && changes_reply Side.Received past head)
        (ap (λ (n : Bool). if n then goes_on_request Side.Received past head else (changes_message Side.Received past head || (is_reply head.kind && changes_reply Side.Received past head))) (sym whole)
        ∙ k.kind_changed)

    by : (m : Bool) → (before.msgno == head.msgno) ≡ m → is_single head.kind ≡ true
    by false apart =
        absurd (let h : true ≡ false = sym (ap (λ (o : Option Head). option_map_or (λ b. b.more && not (b.msgno == head.msgno)) o false) last
        ∙ ap (λ (b : Bool). b && not (before.msgno == head.msgno)) more ∙ ap not apart) ∙ k.not_continued in cc)
    by true same =
        single-same before.kind head.kind
        (unless (goes_on head before) (same_kind before.kind head.kind) (ap (λ (b : Bool). b && before.msgno == head.msgno) more ∙ same) (sym changed ∙ unchanged)) single

-- ---- each item

same-some : (a b : Head) → Some a ≡ Some b → a ≡ b
same-some a b e = cc (e)

-- the same, of a journal whose item is one of channel zero or isn't
abbrev MeetsBy : List Item → List Item → Type 0
MeetsBy journal zero = (is_answered Side.Sent 0 zero ≡ true) ⊎ (IsGreetingDue journal ⊎ IsGreetingOpen zero)

pub meets-told : (by : Side) (seq : Seq) (journal : List Item) → Meets journal → Meets (told by seq ∷ journal)
meets-told by seq journal (inl e) = inl (answered-more Side.Sent 0 (told by seq) journal e)
meets-told by seq journal (inr (inl a)) = inr (inl (record { none = a.none; under = a.under }))
meets-told by seq journal (inr (inr b)) = inr (inr (of (seq.channel == 0)))
  where
    of : (z : Bool) → IsGreetingOpen (if z then told by seq ∷ zero_history journal else zero_history journal)
    of true = record { before = b.before; last = b.last; more = b.more; single = b.single; under = b.under; unasked = b.unasked }
    of false = b

pub meets-begun : (head : Head) (journal : List Item) → Meets journal → Meets (began Side.Sent head ∷ journal)
meets-begun head journal (inl e) = inl (answered-more Side.Sent 0 (began Side.Sent head) journal e)
meets-begun head journal (inr (inl a)) = inr (inl (record { none = a.none; under = a.under }))
meets-begun head journal (inr (inr b)) = inr (inr (of (head.channel == 0)))
  where
    of : (z : Bool) → IsGreetingOpen (if z then began Side.Sent head ∷ zero_history journal else zero_history journal)
    of true = record { before = b.before; last = b.last; more = b.more; single = b.single; under = b.under; unasked = b.unasked }
    of false = b

pub meets-sent : (head : Head) (payload : List ℕ) (journal : List Item) → Meets journal → Meets (passed Side.Sent head payload ∷ journal)
meets-sent head payload journal (inl e) = inl (answered-more Side.Sent 0 (passed Side.Sent head payload) journal e)
meets-sent head payload journal (inr (inl a)) = inr (inl (record { none = a.none; under = a.under }))
meets-sent head payload journal (inr (inr b)) = inr (inr (of (head.channel == 0)))
  where
    of : (z : Bool) → IsGreetingOpen (if z then passed Side.Sent head payload ∷ zero_history journal else zero_history journal)
    of true = record { before = b.before; last = b.last; more = b.more; single = b.single; under = b.under; unasked = b.unasked }
    of false = b

meets-began : (head : Head) (journal : List Item) → broken_head none_tunes Side.Received journal head ≡ None → KeepsExchangeRules (zero_history (began Side.Received head ∷ journal)) → Meets journal
    → Meets (began Side.Received head ∷ journal)
meets-began head journal e keeps (inl met) = inl (answered-more Side.Sent 0 (began Side.Received head) journal met)
meets-began head journal e keeps (inr (inl a)) =
    inr (inl (record { none = a.none; under = λ h is. subst (λ (x : Head). is_greeting x ≡ true) (same-some head h is) (first-greets journal head e a.none) }))
meets-began head journal e keeps (inr (inr b)) = inr (inr (of (head.channel == 0) refl keeps))
  where
    of : (z : Bool) → (head.channel == 0) ≡ z → KeepsExchangeRules (if z then began Side.Received head ∷ zero_history journal else zero_history journal)
        → IsGreetingOpen (if z then began Side.Received head ∷ zero_history journal else zero_history journal)
    of true zero k = record {
      before = b.before;
      last = b.last;
      more = b.more;
      single = b.single;
      under = λ h is. subst (λ (x : Head). is_single x.kind ≡ true) (same-some head h is)
          (goes-on-single (zero_history journal) head b.before (kept Side.Received (zero_history journal) head k.1) b.last b.more b.single (zero-whole journal head e zero));
      unasked = b.unasked;
    }
    of false zero k = b

-- the last frame of such a reply answers the implied request
ends-first : (head : Head) (payload : List ℕ) (zero : List Item) → KeepsExchangeRules (passed Side.Received head payload ∷ zero) → is_single head.kind ≡ true → head.more ≡ false
    → is_answered Side.Sent 0 (passed Side.Received head payload ∷ zero) ≡ true
ends-first head payload zero keeps single last = of (is_answered Side.Sent 0 zero) refl
  where
    s : Sound Side.Sent zero
    s = sound Side.Sent zero keeps.2

    due : IsDue Side.Sent s.oldest zero head
    due = s.due head keeps.0 (single-reply head.kind single)

    ends : ends_reply head ≡ true
    ends = ap (λ (b : Bool). not b && not (is_ans head.kind)) last ∙ ap not (single-whole head.kind single)

    first-place : (n : ℕ) → nat_lt 0 n ≡ false → (n == 0) ≡ true
    first-place n e = grind (arith, nat_tests, e)

    more : (b : Bool) → list_any ends_reply (reply Side.Sent 0 zero) ≡ true → list_any ends_reply (if b then head ∷ reply Side.Sent 0 zero else reply Side.Sent 0 zero) ≡ true
    more true e = ap (λ (b : Bool). b || list_any ends_reply (reply Side.Sent 0 zero)) ends
    more false e = e

    of : (b : Bool) → is_answered Side.Sent 0 zero ≡ b → is_answered Side.Sent 0 (passed Side.Received head payload ∷ zero) ≡ true
    of true e = more (answers Side.Sent 0 zero Side.Received head) e
    of false e =
        let oldest : (s.oldest == 0) ≡ true = first-place s.oldest (sym (s.answered 0) ∙ e) in
        let named : answers Side.Sent 0 zero Side.Received head ≡ true =
        ap (λ (b : Bool). b && option_map_or (λ request. request.position == 0) (latest Side.Sent head.msgno zero) false) (single-reply head.kind single)
        ∙ ap (λ (o : Option Request). option_map_or (λ request. request.position == 0) o false) due.found ∙ ap (λ (n : ℕ). n == 0) due.at ∙ oldest in
        ap (λ (b : Bool). list_any ends_reply (if b then head ∷ reply Side.Sent 0 zero else reply Side.Sent 0 zero)) named
        ∙ ap (λ (b : Bool). b || list_any ends_reply (reply Side.Sent 0 zero)) ends

meets-zero : (head : Head) (payload : List ℕ) (journal zero : List Item) → KeepsExchangeRules (passed Side.Received head payload ∷ zero) → is_single head.kind ≡ true
    → asked Side.Received zero ≡ None ∷ [] → MeetsBy journal (passed Side.Received head payload ∷ zero)
meets-zero head payload journal zero keeps single unasked = of head.more refl
  where
    still : asked Side.Received (passed Side.Received head payload ∷ zero) ≡ None ∷ []
    still =
        ap (λ (b : Bool). if b && not head.more then message_said (gathered Side.Received zero ++ payload) ∷ asked Side.Received zero else asked Side.Received zero) (single-apart head.kind single)
        ∙ unasked

    of : (m : Bool) → head.more ≡ m → MeetsBy journal (passed Side.Received head payload ∷ zero)
    of true more =
        inr (inr (record { before = head; last = refl; more = more; single = single; under = λ h is. absurd (let x : None ≡ Some h = is in cc); unasked = still }))
    of false last = inl (ends-first head payload zero keeps single last)

-- before the first frame of the peer passes it has asked nothing
due-unasked : (journal : List Item) → previous Side.Received journal ≡ None → asked Side.Received (zero_history journal) ≡ None ∷ []
due-unasked [] none = ap (λ (f : Option Form). f ∷ []) says-nothing
due-unasked (began by head ∷ journal) none = of (head.channel == 0) (due-unasked journal none)
  where
    of : (b : Bool) → asked Side.Received (zero_history journal) ≡ None ∷ [] → asked Side.Received (if b then began by head ∷ zero_history journal else zero_history journal) ≡ None ∷ []
    of true e = e
    of false e = e
due-unasked (told by seq ∷ journal) none = of (seq.channel == 0) (due-unasked journal none)
  where
    of : (b : Bool) → asked Side.Received (zero_history journal) ≡ None ∷ [] → asked Side.Received (if b then told by seq ∷ zero_history journal else zero_history journal) ≡ None ∷ []
    of true e = e
    of false e = e
due-unasked (passed Side.Sent head payload ∷ journal) none = of (head.channel == 0) (due-unasked journal none)
  where
    of : (b : Bool) → asked Side.Received (zero_history journal) ≡ None ∷ []
        → asked Side.Received (if b then passed Side.Sent head payload ∷ zero_history journal else zero_history journal) ≡ None ∷ []
    of true e = e
    of false e = e
due-unasked (passed Side.Received head payload ∷ journal) none = absurd (let h : Some head ≡ None = none in cc)

meets-passed : (head : Head) (payload : List ℕ) (journal : List Item) → under_way Side.Received journal ≡ Some head
    → KeepsExchangeRules (zero_history (passed Side.Received head payload ∷ journal)) → Meets journal → Meets (passed Side.Received head payload ∷ journal)
meets-passed head payload journal under keeps (inl met) = inl (answered-more Side.Sent 0 (passed Side.Received head payload) journal met)
meets-passed head payload journal under keeps (inr (inl a)) = of (head.channel == 0) (greeting-zero head (a.under head under)) keeps
  where
    of : (z : Bool) → z ≡ true → KeepsExchangeRules (if z then passed Side.Received head payload ∷ zero_history journal else zero_history journal)
        → MeetsBy (passed Side.Received head payload ∷ journal) (if z then passed Side.Received head payload ∷ zero_history journal else zero_history journal)
    of true e k = meets-zero head payload (passed Side.Received head payload ∷ journal) (zero_history journal) k (greeting-single head (a.under head under)) (due-unasked journal a.none)
    of false e k = absurd cc
meets-passed head payload journal under keeps (inr (inr b)) = of (head.channel == 0) keeps
  where
    of : (z : Bool) → KeepsExchangeRules (if z then passed Side.Received head payload ∷ zero_history journal else zero_history journal)
        → MeetsBy (passed Side.Received head payload ∷ journal) (if z then passed Side.Received head payload ∷ zero_history journal else zero_history journal)
    of true k = meets-zero head payload (passed Side.Received head payload ∷ journal) (zero_history journal) k (b.under head k.0) b.unasked
    of false k = inr (inr b)

-- ---- items that come

channel-where : (item : Item) (journal : List Item) → KeepsExchangeRules (zero_history (item ∷ journal)) → KeepsExchangeRules (zero_history journal)
channel-where item journal keeps = keeps-where (channel_of item == 0) item (zero_history journal) keeps

pub meets-join : (gained journal : List Item) → Join gained journal → KeepsExchangeRules (zero_history (gained ++ journal)) → Meets journal → Meets (gained ++ journal)
meets-join [] journal join keeps m = m
meets-join (began by head ∷ gained) journal join keeps m =
    let before = meets-join gained journal join.1 (channel-where (began by head) (gained ++ journal) keeps) m in
    subst (λ (side : Side). Meets (began side head ∷ (gained ++ journal))) (sym join.0.0)
    (meets-began head (gained ++ journal) join.0.3 (subst (λ (side : Side). KeepsExchangeRules (zero_history (began side head ∷ (gained ++ journal)))) join.0.0 keeps) before)
meets-join (passed by head payload ∷ gained) journal join keeps m =
    let before = meets-join gained journal join.1 (channel-where (passed by head payload) (gained ++ journal) keeps) m in
    subst (λ (side : Side). Meets (passed side head payload ∷ (gained ++ journal))) (sym join.0.0)
    (meets-passed head payload (gained ++ journal) join.0.2 (subst (λ (side : Side). KeepsExchangeRules (zero_history (passed side head payload ∷ (gained ++ journal)))) join.0.0 keeps) before)
meets-join (told by seq ∷ gained) journal join keeps m =
    meets-told by seq (gained ++ journal) (meets-join gained journal join.1 (channel-where (told by seq) (gained ++ journal) keeps) m)

-- a message of channel zero that is settled
pub meets-settled : (head : Head) (payload : List ℕ) (journal : List Item) → under_way Side.Received journal ≡ Some head
    → KeepsExchangeRules (zero_history (passed Side.Received head payload ∷ journal)) → Meets journal → Meets (passed Side.Received head payload ∷ journal)
meets-settled = meets-passed

-- ---- a request that comes

pub zero-under : (journal : List Item) (head : Head) → (head.channel == 0) ≡ true → under_way Side.Received journal ≡ Some head → under_way Side.Received (zero_history journal) ≡ Some head
zero-under [] head zero e = absurd (let h : None ≡ Some head = e in cc)
zero-under (began Side.Received h ∷ journal) head zero e =
    let same : h ≡ head = same-some h head e in
    ap (λ (b : Bool). under_way Side.Received (if b then began Side.Received h ∷ zero_history journal else zero_history journal)) (ap (λ (x : Head). x.channel == 0) same ∙ zero) ∙ e
zero-under (began Side.Sent h ∷ journal) head zero e = of (h.channel == 0) (zero-under journal head zero e)
  where
    of : (b : Bool) → under_way Side.Received (zero_history journal) ≡ Some head → under_way Side.Received (if b then began Side.Sent h ∷ zero_history journal else zero_history journal) ≡ Some head
    of true is = is
    of false is = is
zero-under (passed Side.Received h payload ∷ journal) head zero e = absurd (let x : None ≡ Some head = e in cc)
zero-under (passed Side.Sent h payload ∷ journal) head zero e = of (h.channel == 0) (zero-under journal head zero e)
  where
    of : (b : Bool) → under_way Side.Received (zero_history journal) ≡ Some head → under_way Side.Received (if b then passed Side.Sent h payload ∷ zero_history journal else zero_history journal) ≡ Some head
    of true is = is
    of false is = is
zero-under (told by seq ∷ journal) head zero e = of (seq.channel == 0) (zero-under journal head zero e)
  where
    of : (b : Bool) → under_way Side.Received (zero_history journal) ≡ Some head → under_way Side.Received (if b then told by seq ∷ zero_history journal else zero_history journal) ≡ Some head
    of true is = is
    of false is = is

-- the greeting came before it
pub request-met : (journal : List Item) (head : Head) → under_way Side.Received journal ≡ Some head → (head.channel == 0) ≡ true → is_msg head.kind ≡ true → Meets journal
    → is_answered Side.Sent 0 (zero_history journal) ≡ true
request-met journal head under zero request (inl met) = met
request-met journal head under zero request (inr (inl a)) =
    absurd (let h : true ≡ false = sym request ∙ single-apart head.kind (greeting-single head (a.under head under)) in cc)
request-met journal head under zero request (inr (inr b)) =
    absurd (let h : true ≡ false = sym request ∙ single-apart head.kind (b.under head (zero-under journal head zero under)) in cc)

-- as it comes the peer has asked nothing
pub greets-first : (item : Item) (journal : List Item) → KeepsExchangeRules (zero_history (item ∷ journal)) → Meets journal → grants_own 0 item journal ≡ true
    → asked Side.Received (zero_history journal) ≡ None ∷ []
greets-first item journal keeps (inl met) e = absurd (let h : true ≡ false = sym met ∙ (grant-answers 0 item journal keeps e).0 in cc)
greets-first item journal keeps (inr (inl a)) e = due-unasked journal a.none
greets-first item journal keeps (inr (inr b)) e = b.unasked

-- nothing has come
pub meets-none : Meets []
meets-none = inr (inl (record { none = refl; under = λ h is. absurd (let x : None ≡ Some h = is in cc) }))
