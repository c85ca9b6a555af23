-- A received header and a received frame leave the channel standing for the history with them, and so does a take for the same history.
use Rattle.std.proofs.Common.{◌≡◌, ℕ, zero, suc, ◌+◌, ◌-◌, ◌≤◌, ◌==◌, Bool, true, false, not, ◌&&◌, ◌||◌, if◌then◌else◌, List, [], ◌∷◌, length, take, Option, Some, None, refl, sym, ap, ◌∙◌, arith, subst}
use Rattle.std.specs.Option.{option_map_or}
use Rattle.std.proofs.lemmas.List.{take-take}
use Rattle.beep_frame.specs.declared.head.Head.{Head}
use Rattle.beep_frame.specs.declared.rule.Rule.{Rule}
use Rattle.beep_history.specs.declared.journal.Side.{Side}
use Rattle.beep_history.specs.declared.limits.TheConstants.{MAX_REQUESTS}
use Rattle.beep_frame.specs.Frame.{is_msg}
use Rattle.beep_history.specs.Journal.{Item, began}
use Rattle.beep_history.specs.Marks.{Request, requests, waiting, begins_request, goes_on}
use Rattle.beep_history.specs.Broken.{breaks_nul_shape}
use Rattle.beep_history.proofs.KeptLemmas.{pass}
use Rattle.beep_history.proofs.AnswersLemmas.{has}
use Rattle.beep_history.proofs.SoundLemmas.{IsApartFirst, numbers}
use Rattle.beep_history.proofs.PassedLemmas.{sound}
use Rattle.beep_exchange.specs.Kept.{Kept, begins, is_open, judged, breaks_not_continued, began_kept, breaks_empty_answer}
use Rattle.beep_exchange.specs.Exchange.{Life, IsExchange}
use Rattle.beep_exchange.proofs.ExchangeLemmas.{judged-room, began-received}
use Rattle.beep_exchange.proofs.AskerLemmas.{count-waiting}
use Rattle.beep_channel.specs.Fits.{Fits}
use Rattle.beep_channel.specs.Sums.{Sums, ended_of, IsTagged}
use Rattle.beep_channel.specs.Held.{Held}
use Rattle.beep_channel.specs.Stands.{HeldStands, HasImplied, first_own, first_reply}
use Rattle.beep_channel.proofs.EndsLemmas.{judged-full}
use Rattle.beep_channel.proofs.GiveLemmas.{header-fits}
use Rattle.beep_channel.proofs.SmallLemmas.{small-same}
use Rattle.beep_channel.proofs.OpenLemmas.{implied-began}
use Rattle.beep_channel.proofs.SumsLemmas.{header-sums}

-- ---- a header

-- no request is open where another begins
open-apart : (mine theirs : Kept) (head : Head) → judged mine theirs head ≡ None → mine.under_way ≡ None → is_msg head.kind ≡ true → begins mine head ≡ true → is_open mine ≡ false
unfolding judged
open-apart mine theirs head e idle m b =
    let a = pass Rule.NulShape (breaks_nul_shape head) _ e in
    let n = pass Rule.NotContinued (breaks_not_continued mine head) _ a.1 in
    rw idle (of (is_msg head.kind) mine.before n.0 b)
  where
    of : (m : Bool) (before : Option Head) → option_map_or (λ (b : Head). b.more && not (b.msgno == head.msgno)) before false ≡ false
        → (m && not (option_map_or (λ (b : Head). is_msg b.kind && goes_on head b) before false)) ≡ true
        → (option_map_or (λ (h : Head). is_msg h.kind) None false || option_map_or (λ (h : Head). is_msg h.kind && h.more) before false) ≡ false
    of m None x y = refl
    of m (Some p) x y = more m (is_msg p.kind) p.more (p.msgno == head.msgno) x y
      where
        more : (m k o s : Bool) → (o && not s) ≡ false → (m && not (k && (o && s))) ≡ true → (k && o) ≡ false
        more m true true true x y = absurd (let g : false ≡ true = sym (off m) ∙ y in cc)
          where
            off : (m : Bool) → (m && false) ≡ false
            off true = refl
            off false = refl
        more m true true false x y = absurd (let g : true ≡ false = x in cc)
        more m true false s x y = refl
        more m false o s x y = refl

apart-take : (w m : ℕ) (ns : List ℕ) → w ≤ m → IsApartFirst w ns → IsApartFirst w (take m ns)
apart-take zero m ns p a = tt
apart-take (suc w) zero ns p a = absurd (omega (arith, p))
apart-take (suc w) (suc m) [] p a = a
apart-take (suc w) (suc m) (n ∷ ns) p a =
    (ap (λ (xs : List ℕ). has n xs) (take-take w m ns (omega (arith, p))) ∙ a.0, apart-take w m ns (omega (arith, p)) a.1)

-- the numbers of the requests that wait are apart, as far as they are kept
kept-apart : (life : Life) (past : List Item) (s : IsExchange life past) → IsApartFirst life.received.waiting life.received.numbers
kept-apart life past s =
    let sd = sound Side.Received past s.unbroken in
    let w = count-waiting Side.Received past sd in
    let few : length (requests Side.Received past) - sd.oldest ≤ MAX_REQUESTS = (let f = sd.few in omega (arith, f)) in
    let a : IsApartFirst (length (requests Side.Received past) - sd.oldest) (take MAX_REQUESTS (numbers Side.Received past)) = apart-take _ MAX_REQUESTS _ few sd.apart in
    let b : IsApartFirst (length (waiting Side.Received past)) (take MAX_REQUESTS (numbers Side.Received past)) = subst (λ (n : ℕ). IsApartFirst n (take MAX_REQUESTS (numbers Side.Received past))) (sym w) a in
    subst (λ (k : Kept). IsApartFirst k.waiting k.numbers) (sym s.received) b

module _ (size : ℕ) (c : Held) (past : List Item) (s : HeldStands size c past) (head : Head) (idle : c.life.received.under_way ≡ None)
    (none : judged c.life.received c.life.sent head ≡ None) (roomy : head.size ≤ c.receives.room) (own : head.channel ≡ c.number) where
  abbrev pub begun-life : Life
  begun-life = record c.life { received = began_kept c.life.received head }

  abbrev now : List Item
  now = began Side.Received head ∷ past

  noted : IsExchange begun-life now
  noted = began-received c.life past s.exchange head idle none

  begins-is : begins c.life.received head ≡ begins_request Side.Received past head
  begins-is = rw s.exchange.received refl

  count-is : (if begins c.life.received head then length (requests Side.Received past) + 1 else length (requests Side.Received past)) ≡ length (requests Side.Received now)
  count-is = ap (λ (b : Bool). if b then length (requests Side.Received past) + 1 else length (requests Side.Received past)) begins-is
      ∙ of (begins_request Side.Received past head) (record { position = length (requests Side.Received past); number = head.msgno }) (requests Side.Received past)
    where
      of : (b : Bool) (r : Request) (rs : List Request) → (if b then length rs + 1 else length rs) ≡ length (if b then r ∷ rs else rs)
      of true r rs = omega arith
      of false r rs = refl

  new-fits : Fits (length (requests Side.Sent past)) (c.life.given.owed + ended_of is_msg c.inbox) c.queue c.life.sent (began_kept c.life.received head)
  new-fits = header-fits (length (requests Side.Sent past)) (c.life.given.owed + ended_of is_msg c.inbox) c.queue c.life.sent c.life.received head s.fits idle (judged-room c.life.received c.life.sent head none) (kept-apart begun-life now noted)

  new-sums : Sums c.life.given c.queue c.inbox c.life.sent (began_kept c.life.received head) (length (requests Side.Sent past)) (length (requests Side.Received now))
  new-sums = subst (λ (n : ℕ). Sums c.life.given c.queue c.inbox c.life.sent (began_kept c.life.received head) (length (requests Side.Sent past)) n) count-is
      (header-sums c.life.given c.queue c.inbox c.life.sent c.life.received (length (requests Side.Sent past)) (length (requests Side.Received past)) head s.sums idle (open-apart c.life.received c.life.sent head none idle))

  reply-same : first_reply (length (requests Side.Received now)) (began_kept c.life.received head) ≡ first_reply (length (requests Side.Received past)) c.life.received
  reply-same = ap (λ (n : ℕ). n - (began_kept c.life.received head).waiting) (sym count-is) ∙ of (begins c.life.received head)
    where
      of : (b : Bool) → (if b then length (requests Side.Received past) + 1 else length (requests Side.Received past)) - (if b then c.life.received.waiting + 1 else c.life.received.waiting)
          ≡ length (requests Side.Received past) - c.life.received.waiting
      of true = omega arith
      of false = refl

  pub begin-held : HeldStands size (record c { life = begun-life }) now
  begin-held = record {
    exchange = noted;
    seqno = s.seqno;
    sends = s.sends;
    taken = s.taken;
    receives = s.receives;
    inbox = s.inbox;
    room = λ h e.
        let sizes : head.size ≡ h.size = ap (λ (o : Option Head). option_map_or (λ (x : Head). x.size) o 0) e in
        let r = s.receives.room in omega (arith, sizes, r, roomy);
    channel = λ h e. ap (λ (o : Option Head). option_map_or (λ (x : Head). x.channel) o 0) (sym e) ∙ own;
    fits = new-fits;
    sums = new-sums;
    tagged = subst (λ (n : ℕ). IsTagged (first_own (length (requests Side.Sent past)) c.life.sent) n c.queue) (sym reply-same) s.tagged;
    small = λ z. small-same c.queue c.life.sent c.life.sent c.life.received (began_kept c.life.received head) refl refl refl (s.small z);
    answers = s.answers;
    answering = s.answering;
    own_implied = s.own_implied;
    their_implied = λ z. subst (λ (n : ℕ). HasImplied n (began_kept c.life.received head)) count-is (implied-began (length (requests Side.Received past)) c.life.received head (s.their_implied z));
    few = s.few;
    full = λ h e. let same : head ≡ h = ap (λ (o : Option Head). option_map_or (λ (x : Head). x) o head) e in subst (λ (x : Head). breaks_empty_answer c.life.sent x ≡ false) same (judged-full c.life.received c.life.sent head none);
    ends = s.ends;
  }
