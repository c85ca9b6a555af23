-- The requests of channel zero that wait, over an item of channel zero.
use Rattle.std.proofs.Common.{◌≡◌, ℕ, suc, ◌+◌, ◌-◌, ◌<◌, ◌≤◌, ◌==◌, nat_lt, Bool, true, false, not, ◌&&◌, ◌||◌, if◌then◌else◌, List, [], ◌∷◌, ◌++◌, length, length-append, Option, Some, refl, sym, ap, ◌∙◌, arith, subst}
use Rattle.std.specs.List.{list_any}
use Rattle.std.specs.Option.{option_map_or}
use Rattle.std.proofs.lemmas.Bool.{ltb-true}
use Rattle.std.proofs.lemmas.Bool.Decides.{nat_tests}
use Rattle.beep_standing.specs.beep_frame.specs.declared.head.Head.{Head}
use Rattle.beep_standing.specs.beep_frame.specs.Frame.{is_msg, is_reply}
use Rattle.beep_standing.specs.beep_mgmt.specs.Form.{Form}
use Rattle.beep_standing.specs.beep_mgmt.specs.Message.{message_said}
use Rattle.beep_standing.specs.beep_history.specs.declared.journal.Side.{Side}
use Rattle.beep_standing.specs.beep_history.specs.Journal.{Item, passed, other}
use Rattle.beep_standing.specs.beep_history.specs.Marks.{requests, latest, previous, is_whole, reply, ends_reply, named, position_of}
use Rattle.beep_standing.specs.beep_history.specs.Broken.{under_way, KeepsExchangeRules}
use Rattle.beep_standing.specs.beep_history.proofs.StepsLemmas.{whole-passed-mine, reply-passed-mine}
use Rattle.beep_standing.specs.beep_history.proofs.SoundLemmas.{IsDue, Sound, is_open}
use Rattle.beep_standing.specs.beep_history.proofs.PassedLemmas.{sound, answered-ended}
use Rattle.beep_standing.specs.beep_exchange.proofs.TagLemmas.{asked-of}
use Rattle.beep_standing.specs.beep_journal.specs.Lives.{Event}
use Rattle.beep_standing.specs.beep_journal.specs.Zero.{zero_events, gathered, asked, said_at, said_to}
use Rattle.beep_standing.specs.beep_journal.proofs.MomentLemmas.{same-number, apart-more}
use Rattle.beep_asked.specs.Kept.{Kept}
use Rattle.beep_asked.specs.Asked.{IsAsked, AreAsked, AreWaiting}

module _ (head : Head) (payload : List ℕ) (zero : List Item) where
  asked-mine : (side : Side) → asked side (passed side head payload ∷ zero)
      ≡ (if is_msg head.kind && not head.more then message_said (gathered side zero ++ payload) ∷ asked side zero else asked side zero)
  asked-mine Side.Received = refl
  asked-mine Side.Sent = refl

  asked-theirs : (side : Side) → asked (other side) (passed side head payload ∷ zero) ≡ asked (other side) zero
  asked-theirs Side.Received = refl
  asked-theirs Side.Sent = refl

  whole-theirs : (side : Side) (p : ℕ) → is_whole (other side) p (passed side head payload ∷ zero) ≡ is_whole (other side) p zero
  whole-theirs Side.Received p = refl
  whole-theirs Side.Sent p = refl

  reply-theirs : (side : Side) (p : ℕ) → reply (other side) p (passed side head payload ∷ zero)
      ≡ (if is_reply head.kind && option_map_or (λ request. request.position == p) (latest (other side) head.msgno zero) false
      then head ∷ reply (other side) p zero else reply (other side) p zero)
  reply-theirs Side.Received p = refl
  reply-theirs Side.Sent p = refl

-- ---- the side whose frame passes

no-request : (a b x y : Bool) → (a && b) ≡ false → ((a && b && x) || y) ≡ y
no-request true true x y e = cc
no-request true false x y e = refl
no-request false b x y e = refl

same-threshold : (a b : ℕ) → ((p : ℕ) → nat_lt p a ≡ nat_lt (p + 1) b) → 0 < b → b ≡ a + 1
same-threshold a b same some =
    let x : nat_lt a a ≡ nat_lt (a + 1) b = same a in
    let y : nat_lt (a - 1) a ≡ nat_lt (a - 1 + 1) b = same (a - 1) in
    grind (arith, nat_tests)

module _ (side : Side) (zero : List Item) (head : Head) (payload : List ℕ) (old new : List Kept) (w : AreWaiting side zero old) (size : length new ≡ length old)
    (moved : AreAsked side (zero_events (passed side head payload ∷ zero)) new (asked side zero)) where
  abbrev later : List Item
  later = passed side head payload ∷ zero

  answered-by : (p : ℕ) → list_any ends_reply (reply side p (passed side head payload ∷ zero)) ≡ nat_lt (p + length new) (length (asked side zero))
  answered-by p = ap (list_any ends_reply) (reply-passed-mine head payload zero side p) ∙ w.answered p ∙ ap (λ (n : ℕ). nat_lt (p + n) (length (asked side zero))) (sym size)

  -- no request has wholly passed
  pub mine-on : (is_msg head.kind && not head.more) ≡ false → AreWaiting side later new
  mine-on none =
      let same : asked side later ≡ asked side zero = asked-mine head payload zero side ∙ rw none refl in
      record {
        begun = subst (λ (fs : List (Option Form)). 0 < length fs) (sym same) w.begun;
        whole = λ p. whole-passed-mine head payload zero side p ∙ no-request (is_msg head.kind) (not head.more) _ _ none ∙ w.whole p
            ∙ ap (λ (fs : List (Option Form)). nat_lt p (length fs)) (sym same);
        answered = λ p. answered-by p ∙ ap (λ (fs : List (Option Form)). nat_lt (p + length new) (length fs)) (sym same);
        within = subst (λ (fs : List (Option Form)). length new ≤ length fs) (sym same) (omega (arith, size, w.within));
        asked = subst (λ (fs : List (Option Form)). AreAsked side (zero_events later) new fs) (sym same) moved;
      }

  -- one has, and waits before the others
  module _ (msg : is_msg head.kind ≡ true) (last : head.more ≡ false) (u : KeepsExchangeRules zero) (under : under_way side zero ≡ Some head) where
    one-begun : length (requests side zero) ≡ length (asked side zero) + 1
    one-begun =
        let s = sound side zero u in
        let opened : is_open (under_way side zero) (previous side zero) ≡ true = rw (under, msg) refl in
        same-threshold (length (asked side zero)) (length (requests side zero))
        (λ p. sym (w.whole p) ∙ s.whole p ∙ ap (λ (b : Bool). nat_lt (p + (if b then 1 else 0)) (length (requests side zero))) opened)
        ((asked-of side zero u).under (ap (λ (o : Option Head). option_map_or (λ (h : Head). is_msg h.kind) o false) under ∙ msg))

    pub mine-new : (kept : Kept) → IsAsked side (zero_events later) (length (asked side zero)) kept (message_said (gathered side zero ++ payload))
        → AreWaiting side later (kept ∷ new)
    mine-new kept a =
        let more : asked side later ≡ message_said (gathered side zero ++ payload) ∷ asked side zero = asked-mine head payload zero side ∙ rw (msg, last) refl in
        record {
          begun = subst (λ (fs : List (Option Form)). 0 < length fs) (sym more) (omega arith);
          whole = λ p. whole-passed-mine head payload zero side p
              ∙ rw (msg, last, one-begun, w.whole p) (one-more p (length (asked side zero)))
              ∙ ap (λ (fs : List (Option Form)). nat_lt p (length fs)) (sym more);
          answered = λ p. answered-by p ∙ shift p (length new) (length (asked side zero))
              ∙ ap (λ (fs : List (Option Form)). nat_lt (p + suc (length new)) (length fs)) (sym more);
          within = subst (λ (fs : List (Option Form)). suc (length new) ≤ length fs) (sym more) (omega (arith, size, w.within));
          asked = subst (λ (fs : List (Option Form)). AreAsked side (zero_events later) (kept ∷ new) fs) (sym more) (a, moved);
        }
      where
        one-more : (p c : ℕ) → ((c + 1 == p + 1) || nat_lt p c) ≡ nat_lt p (suc c)
        one-more p c = grind (arith, nat_tests)

        shift : (p w c : ℕ) → nat_lt (p + w) c ≡ nat_lt (p + suc w) (suc c)
        shift p w c = grind (arith, nat_tests)

-- ---- the other side

no-end : (a x e : Bool) (rest : Bool) → (a && e) ≡ false → (if a && x then e || rest else rest) ≡ rest
no-end false x e rest none = refl
no-end true x true rest none = cc
no-end true true false rest none = refl
no-end true false false rest none = refl

any-if : (b : Bool) (head : Head) (frames : List Head) → list_any ends_reply (if b then head ∷ frames else frames)
    ≡ (if b then ends_reply head || list_any ends_reply frames else list_any ends_reply frames)
any-if true head frames = refl
any-if false head frames = refl

-- no reply has wholly passed
pub theirs-on : (side : Side) (zero : List Item) (head : Head) (payload : List ℕ) (old : List Kept) → AreWaiting (other side) zero old
    → AreAsked (other side) (zero_events (passed side head payload ∷ zero)) old (asked (other side) zero)
    → (is_reply head.kind && ends_reply head) ≡ false → AreWaiting (other side) (passed side head payload ∷ zero) old
theirs-on side zero head payload old w moved none =
    let same = asked-theirs head payload zero side in
    record {
      begun = subst (λ (fs : List (Option Form)). 0 < length fs) (sym same) w.begun;
      whole = λ p. whole-theirs head payload zero side p ∙ w.whole p ∙ ap (λ (fs : List (Option Form)). nat_lt p (length fs)) (sym same);
      answered = λ p. ap (list_any ends_reply) (reply-theirs head payload zero side p)
          ∙ any-if _ head (reply (other side) p zero)
          ∙ no-end (is_reply head.kind) _ (ends_reply head) _ none ∙ w.answered p
          ∙ ap (λ (fs : List (Option Form)). nat_lt (p + length old) (length fs)) (sym same);
      within = subst (λ (fs : List (Option Form)). length old ≤ length fs) (sym same) w.within;
      asked = subst (λ (fs : List (Option Form)). AreAsked (other side) (zero_events (passed side head payload ∷ zero)) old fs) (sym same) moved;
    }

-- what a reply under way answers
pub due-of : (side : Side) (zero : List Item) (head : Head) → KeepsExchangeRules zero → under_way side zero ≡ Some head → is_reply head.kind ≡ true
    → (s : Sound (other side) zero) × IsDue (other side) s.oldest zero head
due-of Side.Received zero head u under r = let s = sound Side.Sent zero u in (s, s.due head under r)
due-of Side.Sent zero head u under r = let s = sound Side.Received zero u in (s, s.due head under r)

-- the last of the requests kept, at its position
pub record IsLast (side : Side) (es : List Event) (rest : List Kept) (kept : Kept) (forms : List (Option Form)) : Type 0 where
  pub position : ℕ
  pub at : position + suc (length rest) ≡ length forms
  pub one : IsAsked side es position kept (said_at position forms)
  pub others : AreAsked side es rest forms

last-asked : (side : Side) (es : List Event) (rest : List Kept) (kept : Kept) (forms : List (Option Form))
    → AreAsked side es (rest ++ kept ∷ []) forms → IsLast side es rest kept forms
last-asked side es [] kept [] a = absurd a
last-asked side es [] kept (form ∷ forms) a =
    record {
      position = length forms;
      at = omega arith;
      one = subst (λ (o : Option Form). IsAsked side es (length forms) kept o) (sym (rw (same-number (length forms)) refl)) a.0;
      others = tt;
    }
last-asked side es (r ∷ rest) kept [] a = absurd a
last-asked side es (r ∷ rest) kept (form ∷ forms) a =
    let l = last-asked side es rest kept forms a.1 in
    record {
      position = l.position;
      at = omega (arith, l.at);
      one = subst (λ (o : Option Form). IsAsked side es l.position kept o)
          (sym (rw (apart-more (length forms) l.position (omega (arith, l.at))) refl)) l.one;
      others = (a.0, l.others);
    }

-- a reply answers the oldest request
module _ (side : Side) (zero : List Item) (head : Head) (replies : is_reply head.kind ≡ true) (old : List Kept) (w : AreWaiting (other side) zero old)
    (s : Sound (other side) zero) (d : IsDue (other side) s.oldest zero head) where
  oldest-is : s.oldest + length old ≡ length (asked (other side) zero)
  oldest-is = of-threshold s.oldest (length old) (length (asked (other side) zero)) (λ p. sym (s.answered p) ∙ w.answered p) w.within
    where
      of-threshold : (o w a : ℕ) → ((p : ℕ) → nat_lt p o ≡ nat_lt (p + w) a) → w ≤ a → o + w ≡ a
      of-threshold o w a same within =
          let x : nat_lt o o ≡ nat_lt (o + w) a = same o in
          let y : nat_lt (o - 1) o ≡ nat_lt (o - 1 + w) a = same (o - 1) in
          grind (arith, nat_tests)

  -- some request waits
  pub some-waits : 0 < length old
  some-waits =
      let below : s.oldest < length (asked (other side) zero) = ltb-true s.oldest (length (asked (other side) zero)) (sym (w.whole s.oldest) ∙ d.whole) in
      omega (arith, below, oldest-is)

  -- the reply names the oldest
  position-oldest : position_of side zero head ≡ s.oldest
  position-oldest = rw (not-msg (is_msg head.kind) replies, found-mine) d.at
    where
      not-msg : (b : Bool) → not b ≡ true → b ≡ false
      not-msg true e = cc
      not-msg false e = refl

      found-mine : named side zero head ≡ Some d.request
      found-mine = d.found

  module _ (rest : List Kept) (kept : Kept) (split : old ≡ rest ++ kept ∷ []) where
    last : IsLast (other side) (zero_events zero) rest kept (asked (other side) zero)
    last = last-asked (other side) (zero_events zero) rest kept (asked (other side) zero)
        (subst (λ (ks : List Kept). AreAsked (other side) (zero_events zero) ks (asked (other side) zero)) split w.asked)

    size : length old ≡ suc (length rest)
    size = ap length split ∙ length-append rest (kept ∷ []) ∙ omega arith

    position-last : last.position ≡ position_of side zero head
    position-last = of last.position (position_of side zero head) position-oldest last.at
      where
        of : (a b : ℕ) → b ≡ s.oldest → a + suc (length rest) ≡ length (asked (other side) zero) → a ≡ b
        of a b e f = omega (arith, e, f, oldest-is, size)

    -- what is kept of the request that the reply names
    pub oldest-asked : IsAsked (other side) (zero_events zero) (position_of side zero head) kept (said_to side head zero)
    oldest-asked = subst (λ (p : ℕ). IsAsked (other side) (zero_events zero) p kept (said_at p (asked (other side) zero))) position-last last.one

    -- those after it
    pub rest-asked : AreAsked (other side) (zero_events zero) rest (asked (other side) zero)
    rest-asked = last.others

    pub theirs-less : (payload : List ℕ) (new : List Kept) → length new ≡ length rest
        → AreAsked (other side) (zero_events (passed side head payload ∷ zero)) new (asked (other side) zero)
        → ends_reply head ≡ true → AreWaiting (other side) (passed side head payload ∷ zero) new
    theirs-less payload new count moved ends =
        let same = asked-theirs head payload zero side in
        record {
          begun = subst (λ (fs : List (Option Form)). 0 < length fs) (sym same) w.begun;
          whole = λ p. whole-theirs head payload zero side p ∙ w.whole p ∙ ap (λ (fs : List (Option Form)). nat_lt p (length fs)) (sym same);
          answered = λ p. ap (list_any ends_reply) (reply-theirs head payload zero side p ∙ named-here p)
              ∙ answered-ended s.oldest p head (reply (other side) p zero) (s.oldest == p) refl ends (s.answered p)
              ∙ fewer p s.oldest (length new) (length (asked (other side) zero)) (omega (arith, oldest-is, size, count))
              ∙ ap (λ (fs : List (Option Form)). nat_lt (p + length new) (length fs)) (sym same);
          within = subst (λ (fs : List (Option Form)). length new ≤ length fs) (sym same) (omega (arith, w.within, size, count));
          asked = subst (λ (fs : List (Option Form)). AreAsked (other side) (zero_events (passed side head payload ∷ zero)) new fs) (sym same) moved;
        }
      where
        named-here : (p : ℕ) → (if is_reply head.kind && option_map_or (λ request. request.position == p) (latest (other side) head.msgno zero) false
            then head ∷ reply (other side) p zero else reply (other side) p zero)
            ≡ (if s.oldest == p then head ∷ reply (other side) p zero else reply (other side) p zero)
        named-here p = rw (replies, d.found, d.at) refl

        fewer : (p o w a : ℕ) → o + suc w ≡ a → nat_lt p (suc o) ≡ nat_lt (p + w) a
        fewer p o w a e = grind (arith, nat_tests)
