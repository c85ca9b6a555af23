-- A take leaves the channel standing for the same history, with the marks of the part taken more.
use Rattle.std.proofs.Common.{◌≡◌, ℕ, zero, suc, ◌+◌, ◌-◌, ◌≤◌, ◌==◌, nat_lt, Bool, true, false, not, ◌&&◌, if◌then◌else◌, List, [], ◌∷◌, ◌++◌, length, take, drop, map, Option, Some, None, refl, sym, ap, ◌∙◌, arith, subst, append_assoc, take-append-drop}
use Rattle.std.specs.Prelude.{is_some}
use Rattle.std.proofs.lemmas.Bool.Decides.{nat_tests}
use Rattle.std.proofs.Math.Logic.{∥∥₁_elim, ∥∥₁_map}
use denote.Struct.Props.{props}
use Rattle.beep_frame.specs.declared.kind.Kind.{Kind}
use Rattle.beep_frame.specs.declared.tag.Tag.{Tag}
use Rattle.beep_history.specs.declared.journal.Side.{Side}
use Rattle.beep_frame.specs.Frame.{is_msg}
use Rattle.beep_history.specs.Journal.{Item}
use Rattle.beep_history.specs.Marks.{requests, waiting, Mark, octet, end}
use Rattle.beep_history.proofs.PassedLemmas.{sound}
use Rattle.beep_exchange.specs.declared.given.Given.{Given}
use Rattle.beep_exchange.specs.Given.{MayTake, MayTakeOf, after_taken}
use Rattle.beep_exchange.specs.Kept.{Kept}
use Rattle.beep_exchange.specs.Exchange.{Life}
use Rattle.beep_exchange.proofs.AskerLemmas.{count-waiting}
use Rattle.beep_seq.specs.Receiving.{Receiver}
use Rattle.beep_inbox.specs.declared.part.Part.{Part}
use Rattle.beep_inbox.specs.Runs.{Run, octets_of, marks_of, left_runs, marks_with}
use Rattle.beep_inbox.specs.Untaken.{IsTaken}
use Rattle.beep_inbox.specs.Laws.{part_marks}
use Rattle.beep_channel.specs.Fits.{Fits}
use Rattle.beep_channel.specs.Sums.{Sums, ended_of, filled, AreEndsFew}
use Rattle.beep_channel.specs.Held.{Held}
use Rattle.beep_channel.specs.Stands.{HeldStands, Stands, TakesPart}
use Rattle.beep_channel.proofs.CountedLemmas.{counted-take}
use Rattle.beep_channel.proofs.EndsLemmas.{take-few}
use Rattle.beep_channel.proofs.SumsLemmas.{take-sums, take-owed, given_after, may-take}

-- ---- the first run, in parts

module _ (n : ℕ) (r : Run) (rs : List Run) (few : n ≤ length r.octets) (whole : nat_lt n (length r.octets) ≡ false → n ≡ length r.octets) where
  split : (xs ys : List ℕ) (e more : List Mark) → (map (octet r.tag) xs ++ []) ++ ((map (octet r.tag) ys ++ e) ++ more) ≡ (map (octet r.tag) (xs ++ ys) ++ e) ++ more
  split [] ys e more = refl
  split (x ∷ xs) ys e more = ap (λ (l : List Mark). octet r.tag x ∷ l) (split xs ys e more)

  all-taken : (n : ℕ) (xs : List ℕ) → n ≡ length xs → take n xs ≡ xs
  all-taken zero [] p = refl
  all-taken zero (x ∷ xs) p = absurd (omega (arith, p))
  all-taken (suc n) [] p = absurd (omega (arith, p))
  all-taken (suc n) (x ∷ xs) p = ap (λ (l : List ℕ). x ∷ l) (all-taken n xs (omega (arith, p)))

  runs-split : marks_with r.tag (take n r.octets) (r.ended && not (nat_lt n (length r.octets))) ++ marks_of (left_runs n (r ∷ rs)) ≡ marks_of (r ∷ rs)
  runs-split = of (nat_lt n (length r.octets)) refl r.ended
    where
      of : (l : Bool) → nat_lt n (length r.octets) ≡ l → (e : Bool)
          → (map (octet r.tag) (take n r.octets) ++ (if e && not l then end r.tag ∷ [] else [])) ++ marks_of (if l then record r { octets = drop n r.octets; ended = e } ∷ rs else rs)
          ≡ (map (octet r.tag) r.octets ++ (if e then end r.tag ∷ [] else [])) ++ marks_of rs
      of true l true = split (take n r.octets) (drop n r.octets) (end r.tag ∷ []) (marks_of rs)
          ∙ ap (λ (os : List ℕ). (map (octet r.tag) os ++ end r.tag ∷ []) ++ marks_of rs) (take-append-drop n r.octets)
      of true l false = split (take n r.octets) (drop n r.octets) [] (marks_of rs)
          ∙ ap (λ (os : List ℕ). (map (octet r.tag) os ++ []) ++ marks_of rs) (take-append-drop n r.octets)
      of false l true = ap (λ (os : List ℕ). (map (octet r.tag) os ++ end r.tag ∷ []) ++ marks_of rs) (all-taken n r.octets (whole l))
      of false l false = ap (λ (os : List ℕ). (map (octet r.tag) os ++ []) ++ marks_of rs) (all-taken n r.octets (whole l))

  octets-left : octets_of (left_runs n (r ∷ rs)) + n ≡ octets_of (r ∷ rs)
  octets-left = of (nat_lt n (length r.octets)) refl
    where
      drop-length : (n : ℕ) (xs : List ℕ) → n ≤ length xs → length (drop n xs) + n ≡ length xs
      drop-length zero xs p = omega arith
      drop-length (suc n) [] p = absurd (omega (arith, p))
      drop-length (suc n) (x ∷ xs) p = let e = drop-length n xs (omega (arith, p)) in omega (arith, e)

      of : (l : Bool) → nat_lt n (length r.octets) ≡ l → octets_of (if l then record r { octets = drop n r.octets } ∷ rs else rs) + n ≡ length r.octets + octets_of rs
      of true l = let d = drop-length n r.octets few in omega (arith, d)
      of false l = let w = whole l in omega (arith, w)

-- ---- what is kept of what was given

answers-kept : (n : ℕ) (r : Run) (given : Given) → (given_after n r given).answers ≡ given.answers
answers-kept n r given = of (r.ended && not (nat_lt n (length r.octets))) r.tag.kind
  where
    of : (b : Bool) (k : Kind) → (if b then after_taken given k else given).answers ≡ given.answers
    of false k = refl
    of true Kind.Msg = refl
    of true Kind.Rpy = refl
    of true Kind.Err = refl
    of true Kind.Ans = refl
    of true Kind.Nul = refl

owed-more : (n : ℕ) (r : Run) (given : Given) → given.owed ≤ (given_after n r given).owed
owed-more n r given = of (r.ended && not (nat_lt n (length r.octets))) r.tag.kind
  where
    of : (b : Bool) (k : Kind) → given.owed ≤ (if b then after_taken given k else given).owed
    of false k = omega arith
    of true Kind.Msg = omega arith
    of true Kind.Rpy = omega arith
    of true Kind.Err = omega arith
    of true Kind.Ans = omega arith
    of true Kind.Nul = omega arith

asked-less : (n : ℕ) (r : Run) (given : Given) → (given_after n r given).asked ≤ given.asked
asked-less n r given = of (r.ended && not (nat_lt n (length r.octets))) r.tag.kind
  where
    of : (b : Bool) (k : Kind) → (if b then after_taken given k else given).asked ≤ given.asked
    of false k = omega arith
    of true Kind.Msg = omega arith
    of true Kind.Rpy = omega arith
    of true Kind.Err = omega arith
    of true Kind.Ans = omega arith
    of true Kind.Nul = omega arith

module _ (size : ℕ) (c : Held) (past : List Item) (s : HeldStands size c past) (n : ℕ) (r : Run) (rs : List Run) (is : c.inbox ≡ r ∷ rs) (few : n ≤ length r.octets)
    (whole : nat_lt n (length r.octets) ≡ false → n ≡ length r.octets) where
  abbrev pub taken-held : Held
  taken-held = record c {
    life = record c.life { given = given_after n r c.life.given };
    receives = record c.receives { untaken = c.receives.untaken - n };
    inbox = left_runs n (r ∷ rs);
  }

  take-held : HeldStands size taken-held past
  take-held =
      let sums : Sums c.life.given c.queue (r ∷ rs) c.life.sent c.life.received (length (requests Side.Sent past)) (length (requests Side.Received past))
      = subst (λ (xs : List Run). Sums c.life.given c.queue xs c.life.sent c.life.received (length (requests Side.Sent past)) (length (requests Side.Received past))) is s.sums in
      let fits : Fits (length (requests Side.Sent past)) (c.life.given.owed + ended_of is_msg (r ∷ rs)) c.queue c.life.sent c.life.received
      = subst (λ (xs : List Run). Fits (length (requests Side.Sent past)) (c.life.given.owed + ended_of is_msg xs) c.queue c.life.sent c.life.received) is s.fits in
      let inbox : c.receives.untaken ≡ octets_of (r ∷ rs) = s.inbox ∙ ap octets_of is in
      let left = octets-left n r rs few whole in
      let answers = answers-kept n r c.life.given in
      let more = owed-more n r c.life.given in
      record {
        exchange = record { unbroken = s.exchange.unbroken; received = s.exchange.received; sent = s.exchange.sent };
        seqno = s.seqno;
        sends = s.sends;
        taken = s.taken + n;
        receives = record {
          sized = s.receives.sized;
          is_window = s.receives.is_window;
          next = s.receives.next;
          untaken = (let u = s.receives.untaken in omega (arith, u, inbox, left));
          room = s.receives.room;
          within = (let u = s.receives.within in omega (arith, u));
        };
        inbox = omega (arith, inbox, left);
        room = s.room;
        channel = s.channel;
        fits = subst (λ (o : ℕ). Fits (length (requests Side.Sent past)) o c.queue c.life.sent c.life.received) (sym (take-owed n r rs c.life.given)) fits;
        sums = take-sums c.life.given c.queue c.life.sent c.life.received (length (requests Side.Sent past)) (length (requests Side.Received past)) n r rs sums;
        tagged = s.tagged;
        small = s.small;
        answers = s.answers ∙ ap (λ (a : Option ℕ). if is_some a then Some Kind.Ans else None) (sym answers);
        answering = λ e. let a = s.answering (ap (λ (a : Option ℕ). is_some a) (sym answers) ∙ e) in omega (arith, a, more);
        own_implied = s.own_implied;
        their_implied = s.their_implied;
        few = (let f = s.few in let a = asked-less n r c.life.given in omega (arith, f, a));
        full = s.full;
        ends = take-few (filled c.life.sent.answers) n r rs (subst (λ (xs : List Run). AreEndsFew (filled c.life.sent.answers) xs) is s.ends);
      }

  take-within : n ≤ c.receives.untaken
  take-within = let i : c.receives.untaken ≡ octets_of (r ∷ rs) = s.inbox ∙ ap octets_of is in omega (arith, i, few)

-- ---- the call

abbrev pub Reached : Held → Type 0
Reached c = ∥ ((size : ℕ) × (past : List Item) × (given : List Mark) × (taken : List Mark) × Stands size c past given taken) ∥₁

module _ (part : Part) (old new : List Run) (before after : List ℕ) (k : IsTaken part old new before after) where
  first-len : part.len ≤ length k.first.octets
  first-len = let e = k.len in omega (arith, e)

  whole-len : nat_lt part.len (length k.first.octets) ≡ false → part.len ≡ length k.first.octets
  whole-len e = let f = first-len in let g : length k.first.octets ≤ part.len = grind (arith, nat_tests, e) in omega (arith, f, g)

  all-is : (part.len == length k.first.octets) ≡ not (nat_lt part.len (length k.first.octets))
  all-is = let f = first-len in grind (arith, nat_tests, f)

  ended-is : part.ended ≡ (k.first.ended && not (nat_lt part.len (length k.first.octets)))
  ended-is = k.ended ∙ ap (λ (b : Bool). k.first.ended && b) all-is

  take-front : (n : ℕ) (xs ys : List ℕ) → n ≤ length xs → take n (take n xs ++ ys) ≡ take n xs
  take-front zero xs ys p = refl
  take-front (suc n) [] ys p = absurd (omega (arith, p))
  take-front (suc n) (x ∷ xs) ys p = ap (λ (l : List ℕ). x ∷ l) (take-front n xs ys (omega (arith, p)))

  marks-taken : part_marks part after ++ marks_of new ≡ marks_of old
  marks-taken =
      let octets : take part.len after ≡ take part.len k.first.octets = ap (λ (xs : List ℕ). take part.len xs) k.octets ∙ take-front part.len k.first.octets (drop part.len before) first-len in
      ap (λ (xs : List ℕ). marks_with part.tag xs part.ended ++ marks_of new) octets
      ∙ ap (λ (t : Tag). marks_with t (take part.len k.first.octets) part.ended ++ marks_of new) k.tag
      ∙ ap (λ (b : Bool). marks_with k.first.tag (take part.len k.first.octets) b ++ marks_of new) ended-is
      ∙ ap (λ (i : List Run). marks_with k.first.tag (take part.len k.first.octets) (k.first.ended && not (nat_lt part.len (length k.first.octets))) ++ marks_of i) (k.left ∙ ap (left_runs part.len) k.is)
      ∙ runs-split part.len k.first k.others first-len whole-len
      ∙ sym (ap marks_of k.is)

pub taken-within : (c : Held) → Reached c → (part : Part) (new : List Run) (before after : List ℕ) → IsTaken part c.inbox new before after → part.len ≤ c.receives.untaken
taken-within c t part new before after k = ∥∥₁_elim t (hlevel props) (λ s.
    take-within s.0 c s.1 s.4.held part.len k.first k.others k.is (first-len part c.inbox new before after k) (whole-len part c.inbox new before after k))

one-may : (given : Given) (k : Kind) (p : ℕ) → ∥ MayTakeOf given k p ∥₁ → MayTakeOf given k p
one-may given Kind.Msg p t = ∥∥₁_elim t (hlevel props) (λ x. x)
one-may given Kind.Rpy p t = ∥∥₁_elim t (hlevel props) (λ x. x)
one-may given Kind.Err p t = ∥∥₁_elim t (hlevel props) (λ x. x)
one-may given Kind.Ans p t = ∥∥₁_elim t (hlevel props) (λ x. x)
one-may given Kind.Nul p t = ∥∥₁_elim t (hlevel props) (λ x. x)

pub received-few : (size : ℕ) (c : Held) (past : List Item) → HeldStands size c past → c.life.received.waiting ≤ 1024
received-few size c past s =
    let d = sound Side.Received past s.exchange.unbroken in let w = count-waiting Side.Received past d in let f = d.few in
    let e : c.life.received.waiting ≡ length (waiting Side.Received past) = ap (λ (k : Kept). k.waiting) s.exchange.received in omega (arith, w, f, e)

-- MayTake is a product of equations and orders, so it falls from a mere history
may-of : (c : Held) (part : Part) (new : List Run) (before after : List ℕ) → IsTaken part c.inbox new before after → (size : ℕ) (past : List Item) → HeldStands size c past
    → part.ended ≡ true → MayTake c.life.given part.tag
may-of c part new before after k size past s ended =
    let r : Run = k.first in
    let end : r.ended ≡ true = both r.ended _ (sym k.ended ∙ ended) in
    let sums : Sums c.life.given c.queue (r ∷ k.others) c.life.sent c.life.received (length (requests Side.Sent past)) (length (requests Side.Received past))
    = subst (λ (xs : List Run). Sums c.life.given c.queue xs c.life.sent c.life.received (length (requests Side.Sent past)) (length (requests Side.Received past))) k.is s.sums in
    let whole : Sums c.life.given c.queue (record { tag = record { kind = r.tag.kind; request = r.tag.request; ansno = r.tag.ansno }; octets = r.octets; ended = true } ∷ k.others) c.life.sent c.life.received (length (requests Side.Sent past)) (length (requests Side.Received past))
    = subst (λ (b : Bool). Sums c.life.given c.queue (record { tag = record { kind = r.tag.kind; request = r.tag.request; ansno = r.tag.ansno }; octets = r.octets; ended = b } ∷ k.others) c.life.sent c.life.received (length (requests Side.Sent past)) (length (requests Side.Received past))) end sums in
    subst (λ (tag : Tag). MayTake c.life.given tag) (sym k.tag)
    (may-take c.life.given c.queue c.life.sent c.life.received (length (requests Side.Sent past)) (length (requests Side.Received past)) r.tag.kind r.tag.request r.tag.ansno r.octets k.others whole (received-few size c past s))
  where
    both : (a b : Bool) → (a && b) ≡ true → a ≡ true
    both true b e = refl
    both false b e = e

pub taken-may : (c : Held) → Reached c → (part : Part) (new : List Run) (before after : List ℕ) → IsTaken part c.inbox new before after → part.ended ≡ true
    → MayTake c.life.given part.tag
taken-may c t part new before after k ended = one-may c.life.given part.tag.kind part.tag.request
    (∥∥₁_map {A = (size : ℕ) × (past : List Item) × (given : List Mark) × (taken : List Mark) × Stands size c past given taken} {B = MayTake c.life.given part.tag} t
    (λ s. may-of c part new before after k s.0 s.1 s.4.held ended))

pub life-eq : (a : Life) (r s : Kept) (g : Given) → a.received ≡ r → a.sent ≡ s → a.given ≡ g → a ≡ record { received = r; sent = s; given = g }
life-eq a r s g e f h = rw (← e, ← f, ← h) refl

pub take-goal : (old : Held) (part : Part) (inbox : List Run) (before after : List ℕ) → IsTaken part old.inbox inbox before after
    → (life : Life) → life.given ≡ (if part.ended then after_taken old.life.given part.tag.kind else old.life.given) → life.received ≡ old.life.received → life.sent ≡ old.life.sent
    → (receives : Receiver) → receives ≡ record old.receives { untaken = old.receives.untaken - part.len }
    → TakesPart part old (record old { life = life; receives = receives; inbox = inbox }) before after
take-goal old part inbox before after k life ge rce se receives re = record {
  is_taken = k;
  stands = λ size past given taken t. record {
    held = of size past t.held;
    all_given = t.all_given;
    all_arrived = t.all_arrived ∙ ap (λ (xs : List Mark). taken ++ xs) (sym (marks-taken part old.inbox inbox before after k))
        ∙ sym (append_assoc taken (part_marks part after) (marks_of inbox));
    counted = rw ge (counted-take (old.number == 0) old.life.given given taken t.counted part.tag.request part.tag.ansno (take part.len after) part.tag.kind part.ended
        (may-of old part inbox before after k size past t.held));
  };
  same = record { number = refl; queue = refl; seqno = refl; sends = refl };
}
  where
    of : (size : ℕ) (past : List Item) → HeldStands size old past → HeldStands size (record old { life = life; receives = receives; inbox = inbox }) past
    of size past s =
        let r : Run = k.first in
        let after-given : life.given ≡ given_after part.len r old.life.given
        = ge ∙ ap (λ (b : Bool). if b then after_taken old.life.given part.tag.kind else old.life.given) (ended-is part old.inbox inbox before after k)
        ∙ ap (λ (t : Tag). if r.ended && not (nat_lt part.len (length r.octets)) then after_taken old.life.given t.kind else old.life.given) k.tag in
        let life-is : life ≡ record { received = old.life.received; sent = old.life.sent; given = given_after part.len r old.life.given } = life-eq life _ _ _ rce se after-given in
        let base = take-held size old past s part.len r k.others k.is (first-len part old.inbox inbox before after k) (whole-len part old.inbox inbox before after k) in
        subst (λ (l : Life). HeldStands size (record old { life = l; receives = receives; inbox = inbox }) past) (sym life-is)
        (subst (λ (v : Receiver). HeldStands size (record old { life = record { received = old.life.received; sent = old.life.sent; given = given_after part.len r old.life.given }; receives = v; inbox = inbox }) past) (sym re)
        (subst (λ (i : List Run). HeldStands size (record old { life = record { received = old.life.received; sent = old.life.sent; given = given_after part.len r old.life.given }; receives = record old.receives { untaken = old.receives.untaken - part.len }; inbox = i }) past) (sym (k.left ∙ ap (left_runs part.len) k.is)) base))
