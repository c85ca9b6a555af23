-- The requests of channel zero that wait, over a frame of channel zero.
use Rattle.std.proofs.Common.{◌≡◌, ℕ, suc, ◌+◌, ◌-◌, ◌<◌, ◌≤◌, ◌==◌, nat_lt, Bool, true, false, not, ◌&&◌, ◌||◌, if◌then◌else◌, List, [], ◌∷◌, ◌++◌, length, length-append, Option, Some, refl, sym, ap, ◌∙◌, arith, subst}
use Rattle.std.specs.List.{list_any}
use Rattle.std.specs.Option.{option_map_or}
use Rattle.std.proofs.lemmas.Bool.{ltb-true}
use Rattle.std.proofs.lemmas.Bool.Decides.{nat_tests}
use Rattle.beep_frame.specs.declared.head.Head.{Head}
use Rattle.beep_frame.specs.Frame.{is_msg, is_reply}
use Rattle.beep_mgmt.specs.Form.{Form}
use Rattle.beep_mgmt.specs.Message.{message_said}
use Rattle.beep_history.specs.declared.journal.Side.{Side}
use Rattle.beep_history.specs.Journal.{Item, passed, other}
use Rattle.beep_history.specs.Marks.{requests, latest, previous, is_whole, reply, ends_reply, named, position_of}
use Rattle.beep_history.specs.Broken.{under_way, KeepsExchangeRules}
use Rattle.beep_history.proofs.StepsLemmas.{whole-passed-mine, reply-passed-mine}
use Rattle.beep_history.proofs.SoundLemmas.{IsDue, Sound, is_open}
use Rattle.beep_history.proofs.PassedLemmas.{sound, answered-ended}
use Rattle.beep_exchange.proofs.TagLemmas.{asked-of}
use Rattle.beep_journal.specs.Lives.{Event, life_named}
use Rattle.beep_journal.specs.Zero.{zero_events, gathered, asked, said_at, said_to}
use Rattle.beep_judge.specs.declared.half.Request as kept
use Rattle.beep_judge.specs.declared.channels.Channels.{Channels}
use Rattle.beep_judge.specs.Judges.{Names, IsAsked, AreAsked, IsQueue}
use Rattle.beep_journal.proofs.MomentLemmas.{same-number, apart-more}
use Rattle.beep_judge.proofs.KeptLemmas.{asked-stays}

module _ (head : Head) (payload : List ℕ) (zero : List Item) where
  pub asked-mine : (side : Side) → asked side (passed side head payload ∷ zero)
      ≡ (if is_msg head.kind && not head.more then message_said (gathered side zero ++ payload) ∷ asked side zero else asked side zero)
  asked-mine Side.Received = refl
  asked-mine Side.Sent = refl

  pub asked-theirs : (side : Side) → asked (other side) (passed side head payload ∷ zero) ≡ asked (other side) zero
  asked-theirs Side.Received = refl
  asked-theirs Side.Sent = refl

  pub gathered-mine : (side : Side) → gathered side (passed side head payload ∷ zero) ≡ (if head.more then gathered side zero ++ payload else [])
  gathered-mine Side.Received = refl
  gathered-mine Side.Sent = refl

  pub gathered-theirs : (side : Side) → gathered (other side) (passed side head payload ∷ zero) ≡ gathered (other side) zero
  gathered-theirs Side.Received = refl
  gathered-theirs Side.Sent = refl

  whole-theirs : (side : Side) (p : ℕ) → is_whole (other side) p (passed side head payload ∷ zero) ≡ is_whole (other side) p zero
  whole-theirs Side.Received p = refl
  whole-theirs Side.Sent p = refl

  reply-theirs : (side : Side) (p : ℕ) → reply (other side) p (passed side head payload ∷ zero)
      ≡ (if is_reply head.kind && option_map_or (λ request. request.position == p) (latest (other side) head.msgno zero) false
      then head ∷ reply (other side) p zero else reply (other side) p zero)
  reply-theirs Side.Received p = refl
  reply-theirs Side.Sent p = refl

-- ---- the side whose frame passes

no-request : (a b x y : Bool) → (a && b) ≡ false → ((a && b && x) || y) ≡ y
no-request true true x y e = cc
no-request true false x y e = refl
no-request false b x y e = refl

same-threshold : (a b : ℕ) → ((p : ℕ) → nat_lt p a ≡ nat_lt (p + 1) b) → 0 < b → b ≡ a + 1
same-threshold a b same some =
    let x : nat_lt a a ≡ nat_lt (a + 1) b = same a in
    let y : nat_lt (a - 1) a ≡ nat_lt (a - 1 + 1) b = same (a - 1) in
    grind (arith, nat_tests)

module _ (side : Side) (zero : List Item) (head : Head) (payload : List ℕ) (old new : Channels) (requests_kept : List kept.Request)
    (names : (n stamp count : ℕ) → (n == 0) ≡ false → Names old (zero_events zero) n stamp count → Names new (zero_events (passed side head payload ∷ zero)) n stamp count)
    (named-on : (n p : ℕ) → p < length (asked side zero) → life_named n side p (zero_events (passed side head payload ∷ zero)) ≡ life_named n side p (zero_events zero))
    (q : IsQueue old side zero requests_kept) where
  abbrev later : List Item
  later = passed side head payload ∷ zero

  moved : AreAsked new side (zero_events later) requests_kept (asked side zero)
  moved = asked-stays old new side (zero_events zero) (zero_events later) names (length (asked side zero)) named-on requests_kept (asked side zero) (omega arith) q.asked

  -- no request has wholly passed
  pub queue-on : (is_msg head.kind && not head.more) ≡ false → IsQueue new side later requests_kept
  queue-on none =
      let same : asked side later ≡ asked side zero = asked-mine head payload zero side ∙ rw none refl in
      record {
        whole = λ p. whole-passed-mine head payload zero side p ∙ no-request (is_msg head.kind) (not head.more) _ _ none ∙ q.whole p
            ∙ ap (λ (fs : List (Option Form)). nat_lt p (length fs)) (sym same);
        answered = λ p. ap (list_any ends_reply) (reply-passed-mine head payload zero side p) ∙ q.answered p
            ∙ ap (λ (fs : List (Option Form)). nat_lt (p + length requests_kept) (length fs)) (sym same);
        within = subst (λ (fs : List (Option Form)). length requests_kept ≤ length fs) (sym same) q.within;
        asked = subst (λ (fs : List (Option Form)). AreAsked new side (zero_events later) requests_kept fs) (sym same) moved;
      }

  -- one has, and waits before the others
  module _ (msg : is_msg head.kind ≡ true) (last : head.more ≡ false) (u : KeepsExchangeRules zero) (under : under_way side zero ≡ Some head) where
    one-begun : length (requests side zero) ≡ length (asked side zero) + 1
    one-begun =
        let s = sound side zero u in
        let opened : is_open (under_way side zero) (previous side zero) ≡ true = rw (under, msg) refl in
        same-threshold (length (asked side zero)) (length (requests side zero))
        (λ p. sym (q.whole p) ∙ s.whole p ∙ ap (λ (b : Bool). nat_lt (p + (if b then 1 else 0)) (length (requests side zero))) opened)
        ((asked-of side zero u).under (ap (λ (o : Option Head). option_map_or (λ (h : Head). is_msg h.kind) o false) under ∙ msg))

    pub queue-new : (request : kept.Request) → IsAsked new side (zero_events later) (length (asked side zero)) request (message_said (gathered side zero ++ payload))
        → IsQueue new side later (request ∷ requests_kept)
    queue-new request a =
        let more : asked side later ≡ message_said (gathered side zero ++ payload) ∷ asked side zero = asked-mine head payload zero side ∙ rw (msg, last) refl in
        record {
          whole = λ p. whole-passed-mine head payload zero side p
              ∙ rw (msg, last, one-begun, q.whole p) (one-more p (length (asked side zero)))
              ∙ ap (λ (fs : List (Option Form)). nat_lt p (length fs)) (sym more);
          answered = λ p. ap (list_any ends_reply) (reply-passed-mine head payload zero side p) ∙ q.answered p ∙ shift p (length requests_kept) (length (asked side zero))
              ∙ ap (λ (fs : List (Option Form)). nat_lt (p + suc (length requests_kept)) (length fs)) (sym more);
          within = subst (λ (fs : List (Option Form)). suc (length requests_kept) ≤ length fs) (sym more) (omega (arith, q.within));
          asked = subst (λ (fs : List (Option Form)). AreAsked new side (zero_events later) (request ∷ requests_kept) fs) (sym more) (a, moved);
        }
      where
        one-more : (p c : ℕ) → ((c + 1 == p + 1) || nat_lt p c) ≡ nat_lt p (suc c)
        one-more p c = grind (arith, nat_tests)

        shift : (p w c : ℕ) → nat_lt (p + w) c ≡ nat_lt (p + suc w) (suc c)
        shift p w c = grind (arith, nat_tests)

-- ---- the other side

no-end : (a x e : Bool) (rest : Bool) → (a && e) ≡ false → (if a && x then e || rest else rest) ≡ rest
no-end false x e rest none = refl
no-end true x true rest none = cc
no-end true true false rest none = refl
no-end true false false rest none = refl

any-if : (b : Bool) (head : Head) (frames : List Head) → list_any ends_reply (if b then head ∷ frames else frames)
    ≡ (if b then ends_reply head || list_any ends_reply frames else list_any ends_reply frames)
any-if true head frames = refl
any-if false head frames = refl

-- what a reply under way answers
pub due-of : (side : Side) (zero : List Item) (head : Head) → KeepsExchangeRules zero → under_way side zero ≡ Some head → is_reply head.kind ≡ true
    → (s : Sound (other side) zero) × IsDue (other side) s.oldest zero head
due-of Side.Received zero head u under r = let s = sound Side.Sent zero u in (s, s.due head under r)
due-of Side.Sent zero head u under r = let s = sound Side.Received zero u in (s, s.due head under r)

module _ (side : Side) (zero : List Item) (head : Head) (payload : List ℕ) (old new : Channels)
    (names : (n stamp count : ℕ) → (n == 0) ≡ false → Names old (zero_events zero) n stamp count → Names new (zero_events (passed side head payload ∷ zero)) n stamp count)
    (named-on : (n p : ℕ) → life_named n (other side) p (zero_events (passed side head payload ∷ zero)) ≡ life_named n (other side) p (zero_events zero)) where
  abbrev after : List Item
  after = passed side head payload ∷ zero

  moved-theirs : (rs : List kept.Request) → AreAsked old (other side) (zero_events zero) rs (asked (other side) zero) → AreAsked new (other side) (zero_events after) rs (asked (other side) zero)
  moved-theirs rs a =
      asked-stays old new (other side) (zero_events zero) (zero_events after) names (length (asked (other side) zero)) (λ n p below. named-on n p) rs (asked (other side) zero) (omega arith) a

  -- no reply has wholly passed
  pub queue-theirs-on : (rs : List kept.Request) → IsQueue old (other side) zero rs → (is_reply head.kind && ends_reply head) ≡ false → IsQueue new (other side) after rs
  queue-theirs-on rs q none =
      let same = asked-theirs head payload zero side in
      record {
        whole = λ p. whole-theirs head payload zero side p ∙ q.whole p ∙ ap (λ (fs : List (Option Form)). nat_lt p (length fs)) (sym same);
        answered = λ p. ap (list_any ends_reply) (reply-theirs head payload zero side p)
            ∙ any-if _ head (reply (other side) p zero)
            ∙ no-end (is_reply head.kind) _ (ends_reply head) _ none ∙ q.answered p
            ∙ ap (λ (fs : List (Option Form)). nat_lt (p + length rs) (length fs)) (sym same);
        within = subst (λ (fs : List (Option Form)). length rs ≤ length fs) (sym same) q.within;
        asked = subst (λ (fs : List (Option Form)). AreAsked new (other side) (zero_events after) rs fs) (sym same) (moved-theirs rs q.asked);
      }

-- the last of the requests kept, at its position
pub record IsLast (channels : Channels) (side : Side) (es : List Event) (rest : List kept.Request) (request : kept.Request) (forms : List (Option Form)) : Type 0 where
  pub position : ℕ
  pub at : position + suc (length rest) ≡ length forms
  pub one : IsAsked channels side es position request (said_at position forms)
  pub others : AreAsked channels side es rest forms

pub last-asked : (channels : Channels) (side : Side) (es : List Event) (rest : List kept.Request) (request : kept.Request) (forms : List (Option Form))
    → AreAsked channels side es (rest ++ request ∷ []) forms → IsLast channels side es rest request forms
last-asked channels side es [] request [] a = absurd a
last-asked channels side es [] request (form ∷ forms) a =
    record {
      position = length forms;
      at = omega arith;
      one = subst (λ (o : Option Form). IsAsked channels side es (length forms) request o) (sym (rw (same-number (length forms)) refl)) a.0;
      others = tt;
    }
last-asked channels side es (r ∷ rest) request [] a = absurd a
last-asked channels side es (r ∷ rest) request (form ∷ forms) a =
    let l = last-asked channels side es rest request forms a.1 in
    record {
      position = l.position;
      at = omega (arith, l.at);
      one = subst (λ (o : Option Form). IsAsked channels side es l.position request o)
          (sym (rw (apart-more (length forms) l.position (omega (arith, l.at))) refl)) l.one;
      others = (a.0, l.others);
    }

-- a reply that ends answers the oldest request
module _ (side : Side) (zero : List Item) (head : Head) (old : Channels) (replies : is_reply head.kind ≡ true) (rs : List kept.Request) (q : IsQueue old (other side) zero rs)
    (s : Sound (other side) zero) (d : IsDue (other side) s.oldest zero head) where
  oldest-is : s.oldest + length rs ≡ length (asked (other side) zero)
  oldest-is = of-threshold s.oldest (length rs) (length (asked (other side) zero)) (λ p. sym (s.answered p) ∙ q.answered p) q.within
    where
      of-threshold : (o w a : ℕ) → ((p : ℕ) → nat_lt p o ≡ nat_lt (p + w) a) → w ≤ a → o + w ≡ a
      of-threshold o w a same within =
          let x : nat_lt o o ≡ nat_lt (o + w) a = same o in
          let y : nat_lt (o - 1) o ≡ nat_lt (o - 1 + w) a = same (o - 1) in
          grind (arith, nat_tests)

  -- some request waits
  pub some-waits : 0 < length rs
  some-waits =
      let below : s.oldest < length (asked (other side) zero) = ltb-true s.oldest (length (asked (other side) zero)) (sym (q.whole s.oldest) ∙ d.whole) in
      omega (arith, below, oldest-is)

  -- the reply names the oldest
  pub position-oldest : position_of side zero head ≡ s.oldest
  position-oldest = rw (not-msg (is_msg head.kind) replies, found-mine) d.at
    where
      not-msg : (b : Bool) → not b ≡ true → b ≡ false
      not-msg true e = cc
      not-msg false e = refl

      found-mine : named side zero head ≡ Some d.request
      found-mine = d.found

  module _ (rest : List kept.Request) (request : kept.Request) (split : rs ≡ rest ++ request ∷ []) where
    pub last : IsLast old (other side) (zero_events zero) rest request (asked (other side) zero)
    last = last-asked old (other side) (zero_events zero) rest request (asked (other side) zero)
        (subst (λ (xs : List kept.Request). AreAsked old (other side) (zero_events zero) xs (asked (other side) zero)) split q.asked)

    size : length rs ≡ suc (length rest)
    size = ap length split ∙ length-append rest (request ∷ []) ∙ omega arith

    pub position-last : last.position ≡ position_of side zero head
    position-last = of last.position (position_of side zero head) position-oldest last.at
      where
        of : (a b : ℕ) → b ≡ s.oldest → a + suc (length rest) ≡ length (asked (other side) zero) → a ≡ b
        of a b e f = omega (arith, e, f, oldest-is, size)

    -- what is kept of the request that the reply names
    pub oldest-asked : IsAsked old (other side) (zero_events zero) (position_of side zero head) request (said_to side head zero)
    oldest-asked = subst (λ (p : ℕ). IsAsked old (other side) (zero_events zero) p request (said_at p (asked (other side) zero))) position-last last.one

    pub queue-less : (payload : List ℕ) (new : Channels)
        → ((n stamp count : ℕ) → (n == 0) ≡ false → Names old (zero_events zero) n stamp count → Names new (zero_events (passed side head payload ∷ zero)) n stamp count)
        → ((n p : ℕ) → life_named n (other side) p (zero_events (passed side head payload ∷ zero)) ≡ life_named n (other side) p (zero_events zero))
        → ends_reply head ≡ true → IsQueue new (other side) (passed side head payload ∷ zero) rest
    queue-less payload new names named-on ends =
        let same = asked-theirs head payload zero side in
        record {
          whole = λ p. whole-theirs head payload zero side p ∙ q.whole p ∙ ap (λ (fs : List (Option Form)). nat_lt p (length fs)) (sym same);
          answered = λ p. ap (list_any ends_reply) (reply-theirs head payload zero side p ∙ named-here p)
              ∙ answered-ended s.oldest p head (reply (other side) p zero) (s.oldest == p) refl ends (s.answered p)
              ∙ fewer p s.oldest (length rest) (length (asked (other side) zero)) (omega (arith, oldest-is, size))
              ∙ ap (λ (fs : List (Option Form)). nat_lt (p + length rest) (length fs)) (sym same);
          within = subst (λ (fs : List (Option Form)). length rest ≤ length fs) (sym same) (omega (arith, q.within, size));
          asked = subst (λ (fs : List (Option Form)). AreAsked new (other side) (zero_events (passed side head payload ∷ zero)) rest fs) (sym same)
              (moved-theirs side zero head payload old new names named-on rest last.others);
        }
      where
        named-here : (p : ℕ) → (if is_reply head.kind && option_map_or (λ request. request.position == p) (latest (other side) head.msgno zero) false
            then head ∷ reply (other side) p zero else reply (other side) p zero)
            ≡ (if s.oldest == p then head ∷ reply (other side) p zero else reply (other side) p zero)
        named-here p = rw (replies, d.found, d.at) refl

        fewer : (p o w a : ℕ) → o + suc w ≡ a → nat_lt p (suc o) ≡ nat_lt (p + w) a
        fewer p o w a e = grind (arith, nat_tests)
