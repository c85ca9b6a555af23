-- An own item that is no SEQ arrives where its life is live.
use Rattle.std.proofs.Common.{◌≡◌, ◌⊎◌, inl, inr, ℕ, ◌<◌, ◌≤◌, ◌==◌, Bool, true, false, not, ◌&&◌, if◌then◌else◌, List, [], ◌∷◌, ◌++◌, length, Option, Some, None, refl, sym, ap, ◌∙◌, arith, subst, length-append, append_assoc}
use Rattle.std.specs.Option.{option_map_or}
use Rattle.std.proofs.lemmas.Bool.{ltb-true}
use Rattle.std.proofs.lemmas.Bool.Decides.{nat_tests}
use Rattle.std.proofs.lemmas.List.{append_cancel_right}
use Rattle.beep_frame.specs.declared.head.Head.{Head}
use Rattle.beep_history.specs.declared.journal.Side.{Side}
use Rattle.beep_frame.specs.Frame.{is_msg, is_reply}
use Rattle.beep_history.specs.Journal.{turned, Item, began, passed, told, other}
use Rattle.beep_history.specs.Marks.{first, frames, previous, goes_on, requests, is_answered}
use Rattle.beep_history.specs.Broken.{under_way, KeepsExchangeRules}
use Rattle.beep_history.proofs.KeptLemmas.{kept_reply}
use Rattle.beep_history.proofs.SoundLemmas.{due_of}
use Rattle.beep_history.proofs.PassedLemmas.{sound}
use Rattle.beep_two_ends.specs.Seen.{is_received, arrived, sent}
use Rattle.beep_history.specs.Moments.{replies_ended}
use Rattle.beep_two_ends.specs.OneLife.{IsLawful, IsLawfulHead}
use Rattle.beep_two_journals.proofs.Entries.{Says, Entry, asks, replies, on, is_close, asked, replied, said, answers_to, lives, ended, names, is_live, life, IsLawfulEnd, came, went, SeesAll, Causal}
use Rattle.beep_two_journals.proofs.Entries.{IsDrained, DrainedSince, CloseWaits, NoneBegins, IsLawfulLives, NeverBrokeAll, is_told, BothEnds, StaysLive}
use Rattle.beep_history.proofs.RepliesLemmas.{answered, same-threshold}
use Rattle.beep_two_ends.proofs.WaysLemmas.{frames-arrived, requests-arrived, under_way-arrived, frames-sent, requests-sent, under_way-sent, requests-before}
use Rattle.beep_two_ends.proofs.WindowLemmas.{kept_of, unbroken}
use Rattle.beep_two_journals.proofs.CountLemmas.{same_count, zero_agrees}
use Rattle.beep_two_journals.proofs.WalkLemmas.{turned-flips, ended-still, ended-earlier, same_life, when_all, sent-before, end-earlier, end-twice, causal-earlier, live_parts, live_of}
use Rattle.beep_two_journals.proofs.EndsLemmas.{came-append, sent_all, said-later, length-grows, names-later, lives-later, names_same, end_moment}
use Rattle.beep_two_journals.proofs.TailLemmas.{lives-earlier, whole-all-earlier, causal-parts, life-lawful, life-whole, NoData, no-data, nothing-sent, told-since, frames-told, under_way-told, went-append, no-data-append}
use Rattle.beep_two_journals.proofs.OkLemmas.{replied-grows, ends-here, true-false, ended-by-mine, close-waits}

-- ---- nothing goes on in a life that was drained

-- what both ends know of a life that the other end has ended
record Over (mine theirs : List Item) : Type 0 where
  same_frames : frames Side.Sent mine ≡ frames Side.Received theirs
  same_under : under_way Side.Sent mine ≡ under_way Side.Received theirs
  few : length (requests Side.Received mine) ≤ length (requests Side.Sent theirs)

all-whole : (head : Head) (before : Option Head) → option_map_or (λ (h : Head). is_msg h.kind && h.more) before false ≡ false
    → not (option_map_or (λ (b : Head). is_msg b.kind && goes_on head b) before false) ≡ true
all-whole head None e = refl
all-whole head (Some b) e = not-both (is_msg b.kind) b.more (b.msgno == head.msgno) e
  where
    not-both : (a c d : Bool) → (a && c) ≡ false → not (a && (c && d)) ≡ true
    not-both true true d e = cc
    not-both true false d e = refl
    not-both false c d e = refl

-- a reply names a request that isn't answered
no-reply : (mine theirs : List Item) (head : Head) → KeepsExchangeRules mine → KeepsExchangeRules theirs → Over mine theirs → IsDrained theirs
    → IsLawfulHead mine head → is_reply head.kind ≡ true → ⊥
no-reply mine theirs head u v o d l r =
    let s = sound Side.Received mine u in
    let due = due_of Side.Received mine head s.oldest (kept_reply Side.Received mine head (kept_of Side.Sent mine head l.rules).shape r) s.answered in
    let oldest : s.oldest ≡ replies_ended (frames Side.Sent mine) =
    same-threshold _ _ (λ p. sym (s.answered p) ∙ answered Side.Received mine u p) in
    let done : is_answered Side.Sent s.oldest theirs ≡ true = d.own_answered s.oldest (omega (arith, due.waits, o.few)) in
    let below : s.oldest < replies_ended (frames Side.Received theirs) = ltb-true _ _ (sym (answered Side.Sent theirs v s.oldest) ∙ done) in
    over-end s.oldest _ _ oldest (ap replies_ended o.same_frames) below
  where
    over-end : (a b c : ℕ) → a ≡ b → b ≡ c → a < c → ⊥
    over-end a b c e f h = omega arith

no-head : (n p : ℕ) (mine : List Entry) (theirs : List Item) (head : Head) → KeepsExchangeRules (life n (lives n mine) mine) → KeepsExchangeRules theirs
    → Over (life n (lives n mine) mine) theirs → IsDrained theirs → IsLawfulHead (life n (lives n mine) mine) head
    → NoneBegins n (began Side.Sent head) mine → CloseWaits n p mine → (b : Bool) → is_msg head.kind ≡ b → ⊥
no-head n p mine theirs head u v o d l none waits false m = no-reply (life n (lives n mine) mine) theirs head u v o d l (ap not m)
no-head n p mine theirs head u v o d l none waits true m =
    none (rw m (all-whole head (previous Side.Sent (life n (lives n mine) mine)) (ap (λ (fs : List Head). option_map_or (λ (h : Head). is_msg h.kind && h.more) (first fs) false) o.same_frames ∙ d.whole))) p waits

no-item : (n p : ℕ) (mine : List Entry) (theirs : List Item) (item : Item) → KeepsExchangeRules (life n (lives n mine) mine) → KeepsExchangeRules theirs
    → Over (life n (lives n mine) mine) theirs → IsDrained theirs → is_told item ≡ false → is_received item ≡ false
    → IsLawful (item ∷ life n (lives n mine) mine) → NoneBegins n item mine → CloseWaits n p mine → ⊥
no-item n p mine theirs (began Side.Received head) u v o d t r l none waits = cc
no-item n p mine theirs (passed Side.Received head payload) u v o d t r l none waits = cc
no-item n p mine theirs (told side seq) u v o d t r l none waits = cc
no-item n p mine theirs (began Side.Sent head) u v o d t r l none waits =
    no-head n p mine theirs head u v o d l.0 none waits (is_msg head.kind) refl
no-item n p mine theirs (passed Side.Sent head payload) u v o d t r l none waits =
    let e : Some head ≡ None = sym l.0.begun ∙ o.same_under ∙ d.idle in cc

-- names never name more lives than have begun
names-most : (n : ℕ) (side : Side) (p : ℕ) (past : List Entry) → names n side p past ≤ lives n past
names-most n side p [] = omega arith
names-most n Side.Received p (asks Side.Received says ∷ past) = pick (length (asked Side.Received past) == p) (names-most n Side.Received p past)
  where
    pick : (b : Bool) → names n Side.Received p past ≤ lives n past → (if b then lives n past else names n Side.Received p past) ≤ lives n past
    pick true h = omega arith
    pick false h = h
names-most n Side.Sent p (asks Side.Sent says ∷ past) = pick (length (asked Side.Sent past) == p) (names-most n Side.Sent p past)
  where
    pick : (b : Bool) → names n Side.Sent p past ≤ lives n past → (if b then lives n past else names n Side.Sent p past) ≤ lives n past
    pick true h = omega arith
    pick false h = h
names-most n Side.Received p (asks Side.Sent says ∷ past) = names-most n Side.Received p past
names-most n Side.Sent p (asks Side.Received says ∷ past) = names-most n Side.Sent p past
names-most n side p (replies by ok ∷ past) = let h = names-most n side p past in let g = lives-later n (replies by ok ∷ []) past in omega (arith, h, g)
names-most n side p (on m item ∷ past) = names-most n side p past

-- what is known of a life at an end where all that arrived since a moment at the other end is SEQs
over-of : (own : ℕ → Bool) (mine theirs : List Entry) (n k : ℕ) → BothEnds own mine theirs → 0 < k → ended n k mine ≡ false
    → (later past : List Entry) → theirs ≡ later ++ past → NoData n (came later) → ended n k past ≡ false
    → length (requests Side.Sent (life n k theirs)) ≤ length (requests Side.Sent (life n k past)) → Over (life n k mine) (life n k past)
over-of own mine theirs n k x pos going later past is quiet before least =
    let e : went mine ≡ came later ++ came past = sym x.sees.all ∙ ap came is ∙ came-append later past in
    let m = when_all mine (came later) (came past) e in
    let tails : went m.later ≡ came later =
    append_cancel_right (went m.later) (came later) (came past)
    (ap (λ (xs : List Entry). went m.later ++ xs) (sym m.at) ∙ sym (went-append m.later m.earlier) ∙ ap went (sym m.is) ∙ e) in
    let t = told-since n k m.later m.earlier (subst (λ (xs : List Entry). NoData n xs) (sym tails) quiet) in
    let l' = end-earlier own m.later m.earlier (subst (λ (xs : List Entry). IsLawfulEnd own xs) m.is x.mine_end) in
    let w' = end-earlier (λ j. not (own j)) later past (subst (λ (xs : List Entry). IsLawfulEnd (λ j. not (own j)) xs) is x.theirs_end) in
    let c' : Causal m.earlier past =
    causal-parts m.later m.earlier later past
    (subst (λ (xs : List Entry). Causal (m.later ++ m.earlier) xs) is (subst (λ (xs : List Entry). Causal xs theirs) m.is x.there)) in
    let known : arrived (life n k past) ≡ sent (life n k m.earlier) = same_life own m.earlier past n k l' w' c' (sym m.at) pos before in
    let all : sent (life n k mine) ≡ t.newer ++ arrived (life n k past) =
    ap (λ (xs : List Entry). sent (life n k xs)) m.is ∙ t.is ∙ ap (λ (xs : List Item). t.newer ++ xs) (sym known) in
    let q = when_all theirs x.sees.newer (came mine) x.sees.some in
    let back : arrived (life n k mine) ≡ sent (life n k q.earlier) =
    same_life (λ j. not (own j)) q.earlier mine n k
    (end-earlier (λ j. not (own j)) q.later q.earlier (subst (λ (xs : List Entry). IsLawfulEnd (λ j. not (own j)) xs) q.is x.theirs_end))
    (end-twice own mine x.mine_end)
    (causal-earlier q.later q.earlier mine (subst (λ (xs : List Entry). Causal xs mine) q.is x.back)) (sym q.at) pos going in
    let b = sent-before n k q.later q.earlier in
    let asked_is : sent (life n k theirs) ≡ b.newer ++ arrived (life n k mine) =
    ap (λ (xs : List Entry). sent (life n k xs)) q.is ∙ b.is ∙ ap (λ (xs : List Item). b.newer ++ xs) (sym back) in
    let r = requests-before b.newer (arrived (life n k mine)) in
    let few : length (requests Side.Received (life n k mine)) ≤ length (requests Side.Sent (life n k theirs)) =
    rw (← requests-arrived (life n k mine), ← requests-sent (life n k theirs), asked_is, r.is) (omega (arith, length-append r.newer (requests Side.Received (arrived (life n k mine))))) in
    record {
      same_frames = sym (frames-sent (life n k mine)) ∙ ap (frames Side.Received) all ∙ frames-told t.newer (arrived (life n k past)) t.all ∙ frames-arrived (life n k past);
      same_under = sym (under_way-sent (life n k mine)) ∙ ap (under_way Side.Received) all ∙ under_way-told t.newer (arrived (life n k past)) t.all ∙ under_way-arrived (life n k past);
      few = omega (arith, few, least);
    }

-- earlier moments of both ends
both_earlier : (own : ℕ → Bool) (mine theirs l m before since : List Entry) (y z : Entry) → BothEnds own mine theirs → mine ≡ l ++ y ∷ before → theirs ≡ m ++ z ∷ since
    → SeesAll before since → BothEnds own before since
both_earlier own mine theirs l m before since y z x a b s =
    let a' : mine ≡ (l ++ y ∷ []) ++ before = a ∙ sym (append_assoc l (y ∷ []) before) in
    let b' : theirs ≡ (m ++ z ∷ []) ++ since = b ∙ sym (append_assoc m (z ∷ []) since) in
    record {
      mine_end = end-earlier own (l ++ y ∷ []) before (subst (λ (xs : List Entry). IsLawfulEnd own xs) a' x.mine_end);
      mine_lives = lives-earlier (l ++ y ∷ []) before (subst (λ (xs : List Entry). IsLawfulLives xs) a' x.mine_lives);
      mine_whole = whole-all-earlier (l ++ y ∷ []) before (subst (λ (xs : List Entry). NeverBrokeAll xs) a' x.mine_whole);
      theirs_end = end-earlier (λ j. not (own j)) (m ++ z ∷ []) since (subst (λ (xs : List Entry). IsLawfulEnd (λ j. not (own j)) xs) b' x.theirs_end);
      theirs_lives = lives-earlier (m ++ z ∷ []) since (subst (λ (xs : List Entry). IsLawfulLives xs) b' x.theirs_lives);
      theirs_whole = whole-all-earlier (m ++ z ∷ []) since (subst (λ (xs : List Entry). NeverBrokeAll xs) b' x.theirs_whole);
      there = causal-parts (l ++ y ∷ []) before (m ++ z ∷ []) since (subst (λ (xs : List Entry). Causal ((l ++ y ∷ []) ++ before) xs) b' (subst (λ (xs : List Entry). Causal xs theirs) a' x.there));
      back = causal-parts (m ++ z ∷ []) since (l ++ y ∷ []) before (subst (λ (xs : List Entry). Causal ((m ++ z ∷ []) ++ since) xs) a' (subst (λ (xs : List Entry). Causal xs mine) b' x.back));
      sees = s;
    }

length-requests-later : (n k : ℕ) (later past : List Entry) → length (requests Side.Sent (life n k past)) ≤ length (requests Side.Sent (life n k (later ++ past)))
length-requests-later n k later past =
    let b = sent-before n k later past in
    let r = requests-before b.newer (sent (life n k past)) in
    rw (← requests-sent (life n k past), ← requests-sent (life n k (later ++ past)), b.is, r.is) (omega (arith, length-append r.newer (requests Side.Received (sent (life n k past)))))

length-replied-later : (later past : List Entry) → length (replied Side.Sent past) ≤ length (replied Side.Sent (later ++ past))
length-replied-later later past =
    let g = replied-grows Side.Sent later past in rw g.is (omega (arith, length-append g.newer (replied Side.Sent past)))

told-turned : (item : Item) → is_told (turned item) ≡ is_told item
told-turned (began side head) = refl
told-turned (passed side head payload) = refl
told-turned (told side seq) = refl

not-false' : (b : Bool) → (b ≡ false → ⊥) → b ≡ true
not-false' true h = refl
not-false' false h = absurd (h refl)

number : (a b : ℕ) → (a == b) ≡ true → a ≡ b
number a b e = grind (arith, nat_tests)

-- since a drained moment nothing but SEQs has arrived
module _ (own : ℕ → Bool) (mine theirs : List Entry) (n k p : ℕ) (x : BothEnds own mine theirs) (pos : 0 < k) (count : lives n theirs ≡ k)
    (over over' : List Entry) (drained : IsDrained (life n k over)) (close_came : p < length (asked Side.Received over))
    (close : is_close n (said p (asked Side.Received over)) ≡ true) (named : names n Side.Received p over ≡ k) where
  -- an item that arrives then is a SEQ
  no-item-then : (front later : List Entry) (item : Item) → theirs ≡ front ++ on n item ∷ (later ++ over) → is_received item ≡ true → NoData n (came later)
      → ended n k (later ++ over) ≡ false → length (requests Side.Sent (life n k (later ++ over))) ≤ length (requests Side.Sent (life n k over))
      → length (replied Side.Sent (later ++ over)) ≤ p → is_told item ≡ false → ⊥
  no-item-then front later item is r quiet before least place plain =
      let came_is : came theirs ≡ came front ++ on n item ∷ came (later ++ over) =
      ap came is ∙ came-append front (on n item ∷ (later ++ over)) ∙ ap (λ (xs : List Entry). came front ++ xs) (received-first (later ++ over) r) in
      let s = sent_all mine (on n item) (came front) (came (later ++ over)) (sym x.sees.all ∙ came_is) in
      let sees : SeesAll s.earlier (later ++ over) = x.there s.later s.earlier front (later ++ over) (on n item) s.is is r (sym s.at) in
      let y = both_earlier own mine theirs s.later front s.earlier (later ++ over) (on n (turned item)) (on n item) x s.is is sees in
      let l = end-earlier own s.later (on n (turned item) ∷ s.earlier) (subst (λ (xs : List Entry). IsLawfulEnd own xs) s.is x.mine_end) in
      let v = lives-earlier s.later (on n (turned item) ∷ s.earlier) (subst (λ (xs : List Entry). IsLawfulLives xs) s.is x.mine_lives) in
      let out : is_received (turned item) ≡ false = turned-flips item ∙ ap not r in
      let live : is_live n s.earlier ≡ true = l.0 out in
      let parts = live_parts n s.earlier live in
      let same : lives n (later ++ over) ≡ lives n s.earlier = same_count own s.earlier (later ++ over) n y.mine_end y.theirs_end sees live in
      let most : lives n (later ++ over) ≤ lives n theirs =
      subst (λ (xs : List Entry). lives n (later ++ over) ≤ lives n xs) (sym (is ∙ sym (append_assoc front (on n item ∷ []) (later ++ over)))) (lives-later n (front ++ on n item ∷ []) (later ++ over)) in
      let least_count : k ≤ lives n (later ++ over) = let a = names-most n Side.Received p over in let b = lives-later n later over in omega (arith, a, b, named) in
      let k_is : k ≡ lives n s.earlier = omega (arith, same, most, least_count, count) in
      let z = zero_agrees s.earlier (later ++ over) sees in
      let many : p < length (asked Side.Received (later ++ over)) = let g = length-grows Side.Received later over in omega (arith, g, close_came) in
      let said_is : said p (asked Side.Received (later ++ over)) ≡ said p (asked Side.Received over) = said-later Side.Received p later over close_came in
      let close' : is_close n (said p (asked Side.Received (later ++ over))) ≡ true = ap (is_close n) said_is ∙ close in
      let names_is = names_same own s.earlier (later ++ over) n p y.mine_end y.theirs_end y.there [] s.at many close' in
      let own_named : names n Side.Sent p s.earlier ≡ lives n s.earlier = sym names_is ∙ names-later n Side.Received p later over close_came ∙ named ∙ k_is in
      let few_replies : length (replied Side.Received s.earlier) ≤ length (replied Side.Sent (later ++ over)) =
      rw z.more_replied.is (omega (arith, length-append z.more_replied.newer (replied Side.Received s.earlier))) in
      let waits : CloseWaits n p s.earlier =
      (omega (arith, few_replies, place), omega (arith, many, ap length z.same_asked), ap (λ (ss : List Says). is_close n (said p ss)) (sym z.same_asked) ∙ close', own_named) in
      let o : Over (life n k s.earlier) (life n k over) =
      over-of own s.earlier (later ++ over) n k y pos (subst (λ (j : ℕ). ended n j s.earlier ≡ false) (sym k_is) parts.1) later over refl quiet (ended-before over later before) least in
      let o' : Over (life n (lives n s.earlier) s.earlier) (life n k over) = subst (λ (j : ℕ). Over (life n j s.earlier) (life n k over)) k_is o in
      let ls = lives-earlier later over y.theirs_lives in
      let ws = whole-all-earlier later over y.theirs_whole in
      no-item n p s.earlier (life n k over) (turned item)
      (unbroken (life n (lives n s.earlier) s.earlier) (life-lawful n (lives n s.earlier) s.earlier parts.0 y.mine_lives) (life-whole n (lives n s.earlier) s.earlier parts.0 y.mine_whole))
      (unbroken (life n k over) (life-lawful n k over pos ls) (life-whole n k over pos ws)) o' drained
      (told-turned item ∙ plain) out (v.0 out).0 (v.0 out).1 waits
    where
      received-first : (xs : List Entry) → is_received item ≡ true → came (on n item ∷ xs) ≡ on n item ∷ came xs
      received-first xs e = rw e

      ended-before : (xs later : List Entry) → ended n k (later ++ xs) ≡ false → ended n k xs ≡ false
      ended-before xs later e = ended-earlier n k later xs e

  quiet-if : (front later : List Entry) (m : ℕ) (item : Item) → theirs ≡ front ++ on m item ∷ (later ++ over) → NoData n (came later)
      → ended n k (later ++ over) ≡ false → length (requests Side.Sent (life n k (later ++ over))) ≤ length (requests Side.Sent (life n k over))
      → length (replied Side.Sent (later ++ over)) ≤ p → (b : Bool) → is_received item ≡ b → NoData n (if b then on m item ∷ came later else came later)
  quiet-if front later m item is quiet before least place false r = quiet
  quiet-if front later m item is quiet before least place true r = (
    λ same. not-false' _ (λ plain. no-item-then front later item
        (subst (λ (j : ℕ). theirs ≡ front ++ on j item ∷ (later ++ over)) (number m n same) is) r quiet before least place plain),
    quiet,
  )

  quiet-since : (later front : List Entry) → theirs ≡ front ++ (later ++ over) → ended n k (later ++ over) ≡ false
      → length (requests Side.Sent (life n k (later ++ over))) ≤ length (requests Side.Sent (life n k over))
      → length (replied Side.Sent (later ++ over)) ≤ p → NoData n (came later)
  quiet-since [] front is before least place = tt
  quiet-since (y ∷ later) front is before least place =
      let before' : ended n k (later ++ over) ≡ false = ended-still n k (later ++ over) y before in
      let g = length-requests-later n k (y ∷ []) (later ++ over) in
      let h = length-replied-later (y ∷ []) (later ++ over) in
      let ih = quiet-since later (front ++ y ∷ []) (is ∙ sym (append_assoc front (y ∷ []) (later ++ over))) before' (omega (arith, g, least)) (omega (arith, h, place)) in
      quiet-step y front later is ih before' (omega (arith, g, least)) (omega (arith, h, place))
    where
      quiet-step : (y : Entry) (front later : List Entry) → theirs ≡ front ++ y ∷ (later ++ over) → NoData n (came later)
          → ended n k (later ++ over) ≡ false → length (requests Side.Sent (life n k (later ++ over))) ≤ length (requests Side.Sent (life n k over))
          → length (replied Side.Sent (later ++ over)) ≤ p → NoData n (came (y ∷ later))
      quiet-step (asks Side.Received says) front later is ih before least place = ih
      quiet-step (asks Side.Sent says) front later is ih before least place = ih
      quiet-step (replies Side.Received ok) front later is ih before least place = ih
      quiet-step (replies Side.Sent ok) front later is ih before least place = ih
      quiet-step (on m item) front later is ih before least place =
          quiet-if front later m item is ih before least place (is_received item) refl

module _ (own : ℕ → Bool) (mine theirs : List Entry) (n : ℕ) (item : Item) (x : BothEnds own mine theirs)
    (live : is_live n mine ≡ true) (plain : is_told item ≡ false) (out : is_received item ≡ false)
    (law : IsLawful (item ∷ life n (lives n mine) mine)) (none : NoneBegins n item mine) (above : 0 < n) where
  not-drained : (later past : List Entry) → theirs ≡ later ++ replies Side.Sent true ∷ past → is_close n (answers_to Side.Sent past) ≡ true
      → names n Side.Received (length (replied Side.Sent past)) past ≡ lives n mine → ended n (lives n mine) past ≡ false
      → DrainedSince n (lives n mine) (length (replied Side.Sent past)) past → ⊥
  not-drained later past is close named before d =
      let k : ℕ = lives n mine in
      let p : ℕ = length (replied Side.Sent past) in
      let parts = live_parts n mine live in
      let count : lives n theirs ≡ lives n mine = same_count own mine theirs n x.mine_end x.theirs_end x.sees live in
      let waits = close-waits own mine theirs n (lives n mine) x parts.1 later past is close named refl in
      let is' : theirs ≡ (later ++ replies Side.Sent true ∷ []) ++ (d.later ++ d.earlier) =
      is ∙ ap (λ (xs : List Entry). later ++ replies Side.Sent true ∷ xs) d.is ∙ sym (append_assoc later (replies Side.Sent true ∷ []) (d.later ++ d.earlier)) in
      let said_is : said p (asked Side.Received past) ≡ said p (asked Side.Received d.earlier) =
      ap (λ (xs : List Entry). said p (asked Side.Received xs)) d.is ∙ said-later Side.Received p d.later d.earlier d.close_came in
      let named' : names n Side.Received p d.earlier ≡ lives n mine =
      sym (names-later n Side.Received p d.later d.earlier d.close_came) ∙ ap (names n Side.Received p) (sym d.is) ∙ named in
      let before' : ended n (lives n mine) (d.later ++ d.earlier) ≡ false = ap (ended n (lives n mine)) (sym d.is) ∙ before in
      let least : length (requests Side.Sent (life n (lives n mine) (d.later ++ d.earlier))) ≤ length (requests Side.Sent (life n (lives n mine) d.earlier)) =
      omega (arith, ap (λ (xs : List Entry). length (requests Side.Sent (life n (lives n mine) xs))) d.is, d.none) in
      let place : length (replied Side.Sent (d.later ++ d.earlier)) ≤ p = omega (arith, ap (λ (xs : List Entry). length (replied Side.Sent xs)) d.is) in
      let quiet_then = quiet-since own mine theirs n (lives n mine) p x parts.0 count d.earlier [] d.drained d.close_came (ap (is_close n) (sym said_is) ∙ close) named'
      d.later (later ++ replies Side.Sent true ∷ []) is' before' least place in
      let over : ended n (lives n mine) (replies Side.Sent true ∷ past) ≡ true = ends-here n (lives n mine) Side.Sent past close named in
      let many : lives n mine ≤ lives n (replies Side.Sent true ∷ past) =
      let a = names-most n Side.Received p past in let b = lives-later n (replies Side.Sent true ∷ []) past in omega (arith, a, b, named) in
      let most : lives n (later ++ replies Side.Sent true ∷ past) ≤ lives n mine = omega (arith, ap (lives n) is, count) in
      let quiet_now = no-data n (lives n mine) (replies Side.Sent true ∷ past) over many later (subst (λ (xs : List Entry). NeverBrokeAll xs) is x.theirs_whole) most in
      let quiet : NoData n (came ((later ++ replies Side.Sent true ∷ []) ++ d.later)) =
      subst (λ (xs : List Entry). NoData n xs) (sym (came-append (later ++ replies Side.Sent true ∷ []) d.later))
      (no-data-append n (came (later ++ replies Side.Sent true ∷ [])) (came d.later)
      (subst (λ (xs : List Entry). NoData n xs) (sym (came-append later (replies Side.Sent true ∷ []))) (no-data-append n (came later) [] quiet_now tt)) quiet_then) in
      let sent_is : sent (life n (lives n mine) theirs) ≡ sent (life n (lives n mine) past) =
      ap (λ (xs : List Entry). sent (life n (lives n mine) xs)) is ∙ nothing-sent n (lives n mine) (replies Side.Sent true ∷ past) over many parts.0 later most in
      let asked_is : length (requests Side.Sent (life n (lives n mine) theirs)) ≡ length (requests Side.Sent (life n (lives n mine) past)) =
      ap length (sym (requests-sent (life n (lives n mine) theirs)) ∙ ap (requests Side.Received) sent_is ∙ requests-sent (life n (lives n mine) past)) in
      let o = over-of own mine theirs n (lives n mine) x parts.0 parts.1 ((later ++ replies Side.Sent true ∷ []) ++ d.later) d.earlier
      (is' ∙ sym (append_assoc (later ++ replies Side.Sent true ∷ []) d.later d.earlier)) quiet (ended-earlier n (lives n mine) d.later d.earlier before') (omega (arith, asked_is, d.none)) in
      let ls = lives-earlier ((later ++ replies Side.Sent true ∷ []) ++ d.later) d.earlier
      (subst (λ (xs : List Entry). IsLawfulLives xs) (is' ∙ sym (append_assoc (later ++ replies Side.Sent true ∷ []) d.later d.earlier)) x.theirs_lives) in
      let ws = whole-all-earlier ((later ++ replies Side.Sent true ∷ []) ++ d.later) d.earlier
      (subst (λ (xs : List Entry). NeverBrokeAll xs) (is' ∙ sym (append_assoc (later ++ replies Side.Sent true ∷ []) d.later d.earlier)) x.theirs_whole) in
      no-item n p mine (life n (lives n mine) d.earlier) item
      (unbroken (life n (lives n mine) mine) (life-lawful n (lives n mine) mine parts.0 x.mine_lives) (life-whole n (lives n mine) mine parts.0 x.mine_whole))
      (unbroken (life n (lives n mine) d.earlier) (life-lawful n (lives n mine) d.earlier parts.0 ls) (life-whole n (lives n mine) d.earlier parts.0 ws))
      o d.drained plain out law none waits

  not-ended-by : (by : Side) (later past : List Entry) → theirs ≡ later ++ replies by true ∷ past → is_close n (answers_to by past) ≡ true
      → names n (other by) (length (replied by past)) past ≡ lives n mine → ended n (lives n mine) past ≡ false → ⊥
  not-ended-by Side.Received later past is close named before =
      ended-by-mine own mine theirs n (lives n mine) x (live_parts n mine live).1 later past is close named
  not-ended-by Side.Sent later past is close named before =
      let ls = lives-earlier later (replies Side.Sent true ∷ past) (subst (λ (xs : List Entry). IsLawfulLives xs) is x.theirs_lives) in
      by-law (subst (λ (j : ℕ). (ended n j past ≡ true) ⊎ DrainedSince n j (length (replied Side.Sent past)) past) named (ls.0 n close above (omega (arith, named, (live_parts n mine live).0))))
    where
      by-law : (ended n (lives n mine) past ≡ true) ⊎ DrainedSince n (lives n mine) (length (replied Side.Sent past)) past → ⊥
      by-law (inl e) = true-false _ e before
      by-law (inr d) = not-drained later past is close named before d

  not-ended : (b : Bool) → ended n (lives n mine) theirs ≡ b → b ≡ false
  not-ended false e = refl
  not-ended true e =
      let m = end_moment n (lives n mine) theirs e in
      absurd (not-ended-by m.by m.later m.earlier m.is m.close m.named m.before)

  pub stays-live : is_live n theirs ≡ true
  stays-live =
      let p = live_parts n mine live in
      let count : lives n theirs ≡ lives n mine = same_count own mine theirs n x.mine_end x.theirs_end x.sees live in
      live_of n theirs (omega (arith, p.0, count)) (ap (λ (j : ℕ). ended n j theirs) count ∙ not-ended _ refl)

pub stays_live : StaysLive
stays_live own mine theirs n item x live plain out law none above = stays-live own mine theirs n item x live plain out law none above
