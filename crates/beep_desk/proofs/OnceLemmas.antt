-- A sender asks each of its requests once: where one is listed what it comes after has been answered.
use Rattle.std.proofs.Common.{◌≡◌, ◌∙◌, refl, sym, ap, subst, ℕ, ◌-◌, ◌<◌, ◌≤◌, ◌==◌, Bool, true, false, not, ◌&&◌, ◌||◌, if◌then◌else◌, List, [], ◌∷◌, ◌++◌, length, Option, None, arith}
use Rattle.std.specs.Prelude.{nat_lt}
use Rattle.std.specs.List.{list_any}
use Rattle.std.specs.Option.{option_map_or}
use Rattle.std.proofs.lemmas.Bool.Decides.{nat_tests}
use Rattle.beep_peer.specs.beep_frame.specs.declared.head.Head.{Head}
use Rattle.beep_peer.specs.beep_frame.specs.declared.kind.Kind.{Kind}
use Rattle.beep_peer.specs.beep_frame.specs.Frame.{is_ans, is_msg, is_reply, same_kind}
use Rattle.beep_peer.specs.beep_history.specs.declared.journal.Side.{Side}
use Rattle.beep_peer.specs.beep_history.specs.Journal.{Item, began, passed, told}
use Rattle.beep_peer.specs.beep_history.specs.Marks.{Request, answers, ends_reply, is_answered, latest, position_of, reply, requests}
use Rattle.beep_peer.specs.beep_history.specs.Broken.{KeepsExchangeRules}
use Rattle.beep_peer.specs.beep_history.proofs.SoundLemmas.{IsDue, Sound}
use Rattle.beep_peer.specs.beep_history.proofs.PassedLemmas.{sound}
use Rattle.beep_peer.specs.beep_mgmt.specs.Form.{close, start}
use Rattle.beep_peer.specs.beep_journal.specs.Zero.{channel_of, completes_form, zero_history}
use Rattle.beep_peer.specs.beep_journal.proofs.MomentLemmas.{equal-number, same-number}
use Rattle.beep_script.specs.beep_talk.specs.declared.plan.Command.{Command}
use Rattle.beep_script.specs.beep_talk.specs.AtZero.{profile_of}
use Rattle.beep_script.specs.beep_talk.specs.Plan.{PlainPlan}
use Rattle.beep_script.specs.Desk.{asks, asks_where, desk, ends_lines, grants_own}
use Rattle.beep_desk.specs.Listed.{ArePlacedFrom, AskInTurn, asked_positions}
use Rattle.beep_desk.proofs.EventLemmas.{answered-more}
use Rattle.beep_desk.proofs.StepLemmas.{asked-more}

-- ---- the reply that grants a request answers it

both-left : (a b : Bool) → (a && b) ≡ true → a ≡ true
both-left true b e = refl
both-left false b e = absurd cc

both-right : (a b : Bool) → (a && b) ≡ true → b ≡ true
both-right true b e = e
both-right false b e = absurd cc

rpy-reply : (kind : Kind) → same_kind Kind.Rpy kind ≡ true → (is_reply kind ≡ true) × (is_msg kind ≡ false) × (is_ans kind ≡ false)
rpy-reply Kind.Msg e = absurd cc
rpy-reply Kind.Rpy e = (refl, refl, refl)
rpy-reply Kind.Err e = absurd cc
rpy-reply Kind.Ans e = absurd cc
rpy-reply Kind.Nul e = absurd cc

-- what such an item is
pub record Granting (p : ℕ) (head : Head) (journal : List Item) : Type 0 where
  pub zero : (head.channel == 0) ≡ true
  pub rpy : same_kind Kind.Rpy head.kind ≡ true
  pub last : head.more ≡ false
  pub at : position_of Side.Received (zero_history journal) head ≡ p

pub granting : (p : ℕ) (head : Head) (payload : List ℕ) (journal : List Item) → grants_own p (passed Side.Received head payload) journal ≡ true → Granting p head journal
granting p head payload journal e =
    let z = head.channel == 0 in
    let k = same_kind Kind.Rpy head.kind in
    let m = not head.more in
    let n = position_of Side.Received (zero_history journal) head == p in
    let c = completes_form Side.Received head payload (zero_history journal) in
    let four = both-left (z && k && m && n) c e in
    let three = both-left (z && k && m) n four in
    let two = both-left (z && k) m three in
    record {
      zero = both-left z k two;
      rpy = both-right z k two;
      last = turned head.more (both-right (z && k) m three);
      at = equal-number (position_of Side.Received (zero_history journal) head) p (both-right (z && k && m) n four);
    }
  where
    turned : (b : Bool) → not b ≡ true → b ≡ false
    turned true e = absurd cc
    turned false e = refl

not-less : (n : ℕ) → nat_lt n n ≡ false
not-less n = grind (arith, nat_tests)

module _ (p : ℕ) (head : Head) (payload : List ℕ) (zero : List Item) (keeps : KeepsExchangeRules (passed Side.Received head payload ∷ zero)) (rpy : same_kind Kind.Rpy head.kind ≡ true)
    (last : head.more ≡ false) (at : position_of Side.Received zero head ≡ p) where
  s : Sound Side.Sent zero
  s = sound Side.Sent zero keeps.2

  due : IsDue Side.Sent s.oldest zero head
  due = s.due head keeps.0 (rpy-reply head.kind rpy).0

  reply-place : position_of Side.Received zero head ≡ due.request.position
  reply-place =
      ap (λ (b : Bool). if b then length (requests Side.Received zero) - 1 else option_map_or (λ (r : Request). r.position) (latest Side.Sent head.msgno zero) 0) (rpy-reply head.kind rpy).1
      ∙ ap (λ (o : Option Request). option_map_or (λ (r : Request). r.position) o 0) due.found

  place : s.oldest ≡ p
  place = sym due.at ∙ sym reply-place ∙ at

  -- so many requests have begun
  pub some-begun : p < length (requests Side.Sent zero)
  some-begun = subst (λ (n : ℕ). n < length (requests Side.Sent zero)) place due.waits

  pub unanswered : is_answered Side.Sent p zero ≡ false
  unanswered = s.answered p ∙ ap (λ (n : ℕ). nat_lt p n) place ∙ not-less p

  ends : ends_reply head ≡ true
  ends = ap (λ (b : Bool). not b && not (is_ans head.kind)) last ∙ ap not (rpy-reply head.kind rpy).2

  named : answers Side.Sent p zero Side.Received head ≡ true
  named =
      ap (λ (b : Bool). b && option_map_or (λ (r : Request). r.position == p) (latest Side.Sent head.msgno zero) false) (rpy-reply head.kind rpy).0
      ∙ ap (λ (o : Option Request). option_map_or (λ (r : Request). r.position == p) o false) due.found ∙ ap (λ (n : ℕ). n == p) (due.at ∙ place) ∙ same-number p

  pub answered : is_answered Side.Sent p (passed Side.Received head payload ∷ zero) ≡ true
  answered =
      ap (λ (b : Bool). list_any ends_reply (if b then head ∷ reply Side.Sent p zero else reply Side.Sent p zero)) named
      ∙ ap (λ (b : Bool). b || list_any ends_reply (reply Side.Sent p zero)) ends

-- ---- what a sender's requests come after

pub keeps-where : (b : Bool) (item : Item) (past : List Item) → KeepsExchangeRules (if b then item ∷ past else past) → KeepsExchangeRules past
keeps-where true (began by head) past k = k.2
keeps-where true (passed by head payload) past k = k.2
keeps-where true (told by seq) past k = k
keeps-where false item past k = k

-- the start comes after the peer's greeting, and the release after the grant of the close
abbrev pub Follows : List Item → ℕ → Type 0
Follows zero position = (position ≡ 1 → is_answered Side.Sent 0 zero ≡ true) × (position ≡ 3 → is_answered Side.Sent 2 zero ≡ true)

abbrev pub AllFollow : List Item → List ℕ → Type 0
AllFollow zero [] = Unit {0}
AllFollow zero (position ∷ positions) = Follows zero position × AllFollow zero positions

follow-append : (zero : List Item) (xs ys : List ℕ) → AllFollow zero xs → AllFollow zero ys → AllFollow zero (xs ++ ys)
follow-append zero [] ys a b = b
follow-append zero (x ∷ xs) ys a b = (a.0, follow-append zero xs ys a.1 b)

follow-more : (item : Item) (journal : List Item) (xs : List ℕ) → AllFollow (zero_history journal) xs → AllFollow (zero_history (item ∷ journal)) xs
follow-more item journal [] a = tt
follow-more item journal (x ∷ xs) a = (
  ((λ e. answered-more Side.Sent 0 item journal (a.0.0 e)), (λ e. answered-more Side.Sent 2 item journal (a.0.1 e))),
  follow-more item journal xs a.1,
)

where-follow : (zero : List Item) (uri : List ℕ) (a b c : Bool) → (a ≡ true → is_answered Side.Sent 0 zero ≡ true) → (c ≡ true → is_answered Side.Sent 2 zero ≡ true)
    → AllFollow zero (asked_positions (asks_where a 1 (start 1 None (profile_of uri ∷ [])) ++ asks_where b 2 (close 1 200 []) ++ asks_where c 3 (close 0 200 [])))
where-follow zero uri a b c f g = of a b c f g
  where
    first : is_answered Side.Sent 0 zero ≡ true → Follows zero 1
    first e = ((λ i. e), (λ i. absurd (omega (arith, i))))

    second : Follows zero 2
    second = ((λ i. absurd (omega (arith, i))), (λ i. absurd (omega (arith, i))))

    third : is_answered Side.Sent 2 zero ≡ true → Follows zero 3
    third e = ((λ i. absurd (omega (arith, i))), (λ i. e))

    of : (a b c : Bool) → (a ≡ true → is_answered Side.Sent 0 zero ≡ true) → (c ≡ true → is_answered Side.Sent 2 zero ≡ true)
        → AllFollow zero (asked_positions (asks_where a 1 (start 1 None (profile_of uri ∷ [])) ++ asks_where b 2 (close 1 200 []) ++ asks_where c 3 (close 0 200 [])))
    of true true true f g = (first (f refl), (second, (third (g refl), tt)))
    of true true false f g = (first (f refl), (second, tt))
    of true false true f g = (first (f refl), (third (g refl), tt))
    of true false false f g = (first (f refl), tt)
    of false true true f g = (second, (third (g refl), tt))
    of false true false f g = (second, tt)
    of false false true f g = (third (g refl), tt)
    of false false false f g = tt

-- an item that grants a request answers it, which wasn't
pub grant-answers : (p : ℕ) (item : Item) (journal : List Item) → KeepsExchangeRules (zero_history (item ∷ journal)) → grants_own p item journal ≡ true
    → (is_answered Side.Sent p (zero_history journal) ≡ false) × (is_answered Side.Sent p (zero_history (item ∷ journal)) ≡ true)
grant-answers p (began by head) journal keeps e = absurd cc
grant-answers p (told by seq) journal keeps e = absurd cc
grant-answers p (passed Side.Sent head payload) journal keeps e = absurd cc
grant-answers p (passed Side.Received head payload) journal keeps e =
    let item = passed Side.Received head payload in
    let g = granting p head payload journal e in
    let same : zero_history (item ∷ journal) ≡ item ∷ zero_history journal = ap (λ (b : Bool). if b then item ∷ zero_history journal else zero_history journal) g.zero in
    let k : KeepsExchangeRules (item ∷ zero_history journal) = subst KeepsExchangeRules same keeps in (
      unanswered p head payload (zero_history journal) k g.rpy g.last g.at,
      subst (λ (zero : List Item). is_answered Side.Sent p zero ≡ true) (sym same) (answered p head payload (zero_history journal) k g.rpy g.last g.at),
    )

pub asks-follow : (plan : PlainPlan) (journal : List Item) → plan.command ≡ Command.Send → KeepsExchangeRules (zero_history journal)
    → AllFollow (zero_history journal) (asked_positions (desk plan journal).listed)
asks-follow plan [] sends keeps = tt
asks-follow plan (item ∷ journal) sends keeps =
    let zero = zero_history (item ∷ journal) in
    let before = asks-follow plan journal sends (keeps-where (channel_of item == 0) item (zero_history journal) keeps) in
    let more : AllFollow zero (asked_positions (asks plan.command plan item journal)) =
    subst (λ (c : Command). AllFollow zero (asked_positions (asks c plan item journal))) (sym sends)
    (where-follow zero plan.raw_uri (grants_own 0 item journal) (ends_lines plan item journal) (grants_own 2 item journal)
    (λ e. (grant-answers 0 item journal keeps e).1) (λ e. (grant-answers 2 item journal keeps e).1)) in
    subst (AllFollow zero) (sym (asked-more plan item journal))
    (follow-append zero (asked_positions (desk plan journal).listed) (asked_positions (asks plan.command plan item journal)) (follow-more item journal (asked_positions (desk plan journal).listed) before) more)

-- ---- how many were asked

one-follows : (zero : List Item) (xs : List ℕ) → AllFollow zero xs → ArePlacedFrom 1 xs → 1 ≤ length xs → is_answered Side.Sent 0 zero ≡ true
one-follows zero [] a p some = absurd (omega (arith, some))
one-follows zero (x ∷ xs) a p some = a.0.0 p.0

three-follow : (zero : List Item) (xs : List ℕ) → AllFollow zero xs → ArePlacedFrom 1 xs → 3 ≤ length xs → is_answered Side.Sent 2 zero ≡ true
three-follow zero [] a p some = absurd (omega (arith, some))
three-follow zero (x ∷ []) a p some = absurd (omega (arith, some))
three-follow zero (x ∷ y ∷ []) a p some = absurd (omega (arith, some))
three-follow zero (x ∷ y ∷ z ∷ xs) a p some = a.1.1.0.1 p.1.1.0

module _ (plan : PlainPlan) (item : Item) (journal : List Item) (sends : plan.command ≡ Command.Send) (keeps : KeepsExchangeRules (zero_history (item ∷ journal))) (placed : AskInTurn plan journal) where
  abbrev positions : List ℕ
  positions = asked_positions (desk plan journal).listed

  follow : AllFollow (zero_history journal) positions
  follow = asks-follow plan journal sends (keeps-where (channel_of item == 0) item (zero_history journal) keeps)

  -- as the peer's greeting comes nothing was asked
  pub none-asked-yet : grants_own 0 item journal ≡ true → length positions ≡ 0
  none-asked-yet e = of positions follow placed refl
    where
      of : (xs : List ℕ) → AllFollow (zero_history journal) xs → ArePlacedFrom 1 xs → positions ≡ xs → length positions ≡ 0
      of [] a p same = ap length same
      of (x ∷ xs) a p same =
          absurd (let h : true ≡ false = sym (one-follows (zero_history journal) (x ∷ xs) a p (omega arith)) ∙ (grant-answers 0 item journal keeps e).0 in cc)

  -- as the close is granted the release wasn't asked
  pub two-asked-yet : grants_own 2 item journal ≡ true → length positions ≤ 2
  two-asked-yet e = of positions follow placed refl
    where
      of : (xs : List ℕ) → AllFollow (zero_history journal) xs → ArePlacedFrom 1 xs → positions ≡ xs → length positions ≤ 2
      of [] a p same = let n = ap length same in omega (arith, n)
      of (x ∷ []) a p same = let n = ap length same in omega (arith, n)
      of (x ∷ y ∷ []) a p same = let n = ap length same in omega (arith, n)
      of (x ∷ y ∷ z ∷ xs) a p same =
          absurd (let h : true ≡ false = sym (three-follow (zero_history journal) (x ∷ y ∷ z ∷ xs) a p (omega arith)) ∙ (grant-answers 2 item journal keeps e).0 in cc)
