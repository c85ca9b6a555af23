-- What items make of what a listener gave in each live life, and of what it sent.
use Rattle.std.proofs.Common.{◌≡◌, ℕ, ◌<◌, ◌==◌, Bool, true, false, not, ◌&&◌, ◌||◌, if◌then◌else◌, List, [], ◌∷◌, ◌++◌, map, refl, sym, ap, ◌∙◌, subst, arith}
use Rattle.std.specs.Prelude.{nat_lt}
use Rattle.std.specs.List.{list_any}
use Rattle.std.proofs.lemmas.Bool.Decides.{nat_tests}
use Rattle.std.proofs.lemmas.List.{map-append}
use Rattle.beep_session.specs.beep_frame.specs.declared.head.Head.{Head}
use Rattle.beep_session.specs.beep_frame.specs.declared.seq.Seq.{Seq}
use Rattle.beep_session.specs.beep_history.specs.declared.journal.Side.{Side}
use Rattle.beep_session.specs.beep_history.specs.Journal.{Item, began, passed, told}
use Rattle.beep_session.specs.beep_history.specs.Marks.{Mark, marks, mark_modulo_2_64}
use Rattle.beep_session.specs.beep_journal.specs.Lives.{Event, lives, is_live, has_ended}
use Rattle.beep_session.specs.beep_journal.specs.Zero.{events}
use Rattle.beep_session.specs.beep_journal.specs.Life.{is_there, life, life_now, life_under_way}
use Rattle.beep_session.specs.beep_journal.specs.Laws.{IsLiveLife}
use Rattle.beep_session.specs.beep_journal.proofs.JournalLemmas.{began-events, began-there, began-now, told-events, above-events, above-there, above-now}
use Rattle.beep_session.specs.beep_journal.proofs.MomentLemmas.{equal-number}
use Rattle.beep_session.specs.beep_lawful.proofs.LawfulLemmas.{both-one, both-two}
use Rattle.beep_session.specs.beep_standing.specs.Standing.{Marks}
use Rattle.beep_session.specs.beep_hearing.specs.Hears.{Join, ends_zero}
use Rattle.beep_session.specs.beep_peer.specs.Peering.{Carries}
use Rattle.beep_desk.specs.beep_talk.specs.Plan.{PlainPlan}
use Rattle.beep_desk.specs.beep_script.specs.Script.{script_marks, BeginsWith}
use Rattle.beep_replies.specs.Replies.{first_said, sends_in}
use Rattle.beep_replies.proofs.StayLemmas.{more-front, marks-grow, same-sent}
use Rattle.beep_steps.specs.Speaking.{IsSaid, KeepsSaid}
use Rattle.beep_steps.proofs.SpeakLemmas.{first-same}
use Rattle.beep_steps.proofs.StepLemmas.{Turns, frame-turns}

-- ---- lives

-- no moment of channel zero is made, and nothing is asked
pub record Quiet (plan : PlainPlan) (old new : List Item) : Type 0 where
  pub events_are : events new ≡ events old
  pub first : (n c : ℕ) → first_said plan n c new ≡ first_said plan n c old

-- each life goes on as the same or a later one begins, and where it goes on nothing is asked
pub record Passing (plan : PlainPlan) (old new : List Item) : Type 0 where
  pub turns : (n : ℕ) → Turns n (events old) (events new)
  pub first : (n c : ℕ) → lives n (events new) ≡ lives n (events old) → first_said plan n c new ≡ first_said plan n c old

pub quiet-here : (plan : PlainPlan) (journal : List Item) → Quiet plan journal journal
quiet-here plan journal = record { events_are = refl; first = λ n c. refl }

pub quiet-then : (plan : PlainPlan) (a b c : List Item) → Quiet plan a b → Quiet plan b c → Quiet plan a c
quiet-then plan a b c p q = record { events_are = q.events_are ∙ p.events_are; first = λ n k. q.first n k ∙ p.first n k }

same-turns : (n : ℕ) (old new : List Event) → new ≡ old → Turns n old new
same-turns n old new e = record {
  stays = λ a b. ap (lives n) e;
  begins = λ a b. absurd (let h : true ≡ false = sym b ∙ ap (is_live n) e ∙ a in cc);
}

pub quiet-passing : (plan : PlainPlan) (old new : List Item) → Quiet plan old new → Passing plan old new
quiet-passing plan old new q = record { turns = λ n. same-turns n (events old) (events new) q.events_are; first = λ n c same. q.first n c }

pub passing-then : (plan : PlainPlan) (a b c : List Item) → Quiet plan a b → Passing plan b c → Passing plan a c
passing-then plan a b c p q = record {
  turns = λ n. subst (λ (es : List Event). Turns n es (events c)) p.events_are (q.turns n);
  first = λ n k same. q.first n k (same ∙ ap (lives n) (sym p.events_are)) ∙ p.first n k;
}

pub item-quiet : (plan : PlainPlan) (item : Item) (journal : List Item) → events (item ∷ journal) ≡ events journal → Quiet plan journal (item ∷ journal)
item-quiet plan item journal same = record { events_are = same; first = λ n c. first-same plan n c item journal (ap (lives n) same) }

pub frame-passing : (plan : PlainPlan) (by : Side) (head : Head) (payload : List ℕ) (journal : List Item) → Passing plan journal (passed by head payload ∷ journal)
frame-passing plan by head payload journal = record {
  turns = λ n. frame-turns n by head payload journal;
  first = λ n c same. first-same plan n c (passed by head payload) journal same;
}

-- what comes without a whole message of channel zero
pub gained-quiet : (plan : PlainPlan) (gained journal : List Item) → list_any ends_zero gained ≡ false → Quiet plan journal (gained ++ journal)
gained-quiet plan [] journal quiet = quiet-here plan journal
gained-quiet plan (began by head ∷ gained) journal quiet =
    quiet-then plan journal (gained ++ journal) (began by head ∷ (gained ++ journal)) (gained-quiet plan gained journal quiet)
    (item-quiet plan (began by head) (gained ++ journal) (began-events by head (gained ++ journal)))
gained-quiet plan (told by seq ∷ gained) journal quiet =
    quiet-then plan journal (gained ++ journal) (told by seq ∷ (gained ++ journal)) (gained-quiet plan gained journal quiet)
    (item-quiet plan (told by seq) (gained ++ journal) (told-events by seq (gained ++ journal)))
gained-quiet plan (passed by head payload ∷ gained) journal quiet = of (head.channel == 0) head.more refl refl quiet (λ q. gained-quiet plan gained journal q)
  where
    all : List Item
    all = gained ++ journal

    part-events : (head.channel == 0) ≡ true → head.more ≡ true → events (passed by head payload ∷ all) ≡ events all
    part-events zero more = rw (zero, more) refl

    of : (z m : Bool) → (head.channel == 0) ≡ z → head.more ≡ m → ((z && not m) || list_any ends_zero gained) ≡ false
        → (list_any ends_zero gained ≡ false → Quiet plan journal all) → Quiet plan journal (passed by head payload ∷ all)
    of true true e f q rest = quiet-then plan journal all (passed by head payload ∷ all) (rest q) (item-quiet plan (passed by head payload) all (part-events e f))
    of true false e f q rest = absurd (let h : true ≡ false = q in cc)
    of false m e f q rest = quiet-then plan journal all (passed by head payload ∷ all) (rest q) (item-quiet plan (passed by head payload) all (above-events by head payload all e))

-- ---- the live life of a number

pub live-of : (n : ℕ) (journal : List Item) → (n == 0) ≡ false → is_there n journal ≡ true → is_live n (events journal) ≡ true
live-of n journal above there = sym (ap (λ (b : Bool). b || is_live n (events journal)) above) ∙ there

pub dead-of : (n : ℕ) (journal : List Item) → (n == 0) ≡ false → is_there n journal ≡ false → is_live n (events journal) ≡ false
dead-of n journal above there = sym (ap (λ (b : Bool). b || is_live n (events journal)) above) ∙ there

pub now-of : (n : ℕ) (journal : List Item) → (n == 0) ≡ false → is_there n journal ≡ true → life_now n journal ≡ lives n (events journal)
now-of n journal above there = ap (λ (b : Bool). if b then lives n (events journal) else 0) (live-of n journal above there)

some-less : (m : ℕ) → nat_lt 0 m ≡ true → 0 < m
some-less m e = grind (arith, nat_tests)

turned-not : (b : Bool) → not b ≡ true → b ≡ false
turned-not true e = absurd cc
turned-not false e = refl

pub live-life : (n : ℕ) (journal : List Item) → (n == 0) ≡ false → is_there n journal ≡ true → IsLiveLife n (life_now n journal) (events journal)
live-life n journal above there =
    let es = events journal in
    let is = live-of n journal above there in
    subst (λ (k : ℕ). IsLiveLife n k es) (sym (now-of n journal above there)) (record {
      first = some-less (lives n es) (both-one (nat_lt 0 (lives n es)) (not (has_ended n (lives n es) es)) is);
      begun = omega arith;
      goes_on = turned-not (has_ended n (lives n es) es) (both-two (nat_lt 0 (lives n es)) (not (has_ended n (lives n es) es)) is);
    })

-- ---- what was given

module _ (plan : PlainPlan) (old new : List Item) (given now : Marks) (p : Passing plan old new) (carries : Carries old new given now) where
  same-lives : (n : ℕ) → (n == 0) ≡ false → is_there n old ≡ true → is_there n new ≡ true → lives n (events new) ≡ lives n (events old)
  same-lives n above was there = (p.turns n).stays (live-of n old above was) (live-of n new above there)

  same-now : (n : ℕ) → (n == 0) ≡ false → is_there n old ≡ true → is_there n new ≡ true → life_now n new ≡ life_now n old
  same-now n above was there = now-of n new above there ∙ same-lives n above was there ∙ sym (now-of n old above was)

  same-first : (n : ℕ) → (n == 0) ≡ false → is_there n old ≡ true → is_there n new ≡ true → first_said plan n (life_now n new) new ≡ first_said plan n (life_now n old) old
  same-first n above was there = p.first n (life_now n new) (same-lives n above was there) ∙ ap (λ (k : ℕ). first_said plan n k old) (same-now n above was there)

  pub said-on : (n : ℕ) → (n == 0) ≡ false → is_there n old ≡ true → is_there n new ≡ true → IsSaid plan (first_said plan n (life_now n old) old) (given n)
      → IsSaid plan (first_said plan n (life_now n new) new) (now n)
  said-on n above was there s =
      subst (λ (first : List _). IsSaid plan first (now n)) (sym (same-first n above was there)) (subst (IsSaid plan (first_said plan n (life_now n old) old)) (sym (carries.same n above was)) s)

  pub silent-on : (n : ℕ) → (n == 0) ≡ false → (is_there n old ≡ true → given n ≡ []) → is_there n new ≡ true → now n ≡ []
  silent-on n above none there = of (is_there n old) refl
    where
      of : (b : Bool) → is_there n old ≡ b → now n ≡ []
      of true was = carries.same n above was ∙ none was
      of false was = carries.fresh n was there

-- ---- what was sent

pub map-front : (whole front : List Mark) → BeginsWith whole front → BeginsWith (map mark_modulo_2_64 whole) (map mark_modulo_2_64 front)
map-front whole front more = record {
  rest = map mark_modulo_2_64 more.rest;
  whole_is = ap (map mark_modulo_2_64) more.whole_is ∙ map-append mark_modulo_2_64 front more.rest;
}

-- what was sent in one life is the beginning of its script, positions modulo 2^64
abbrev pub SaidAt : PlainPlan → ℕ → ℕ → List Item → Type 0
SaidAt plan n c journal = BeginsWith (map mark_modulo_2_64 (script_marks plan n c journal)) (map mark_modulo_2_64 (marks Side.Sent (life n c journal)))

pub said-item : (plan : PlainPlan) (n c : ℕ) (item : Item) (journal : List Item) → (n == 0) ≡ false → sends_in n c item journal ≡ false → SaidAt plan n c journal → SaidAt plan n c (item ∷ journal)
said-item plan n c item journal above none at =
    subst (λ (ms : List Mark). BeginsWith (map mark_modulo_2_64 (script_marks plan n c (item ∷ journal))) (map mark_modulo_2_64 ms)) (sym (same-sent n c item journal none))
    (more-front (map mark_modulo_2_64 (script_marks plan n c (item ∷ journal))) (map mark_modulo_2_64 (script_marks plan n c journal)) (map mark_modulo_2_64 (marks Side.Sent (life n c journal)))
    (map-front (script_marks plan n c (item ∷ journal)) (script_marks plan n c journal) (marks-grow plan n c (item ∷ []) journal above)) at)

pub came-said : (plan : PlainPlan) (head : Head) (payload : List ℕ) (journal : List Item) → KeepsSaid plan journal → KeepsSaid plan (passed Side.Received head payload ∷ journal)
came-said plan head payload journal keeps n c above = said-item plan n c (passed Side.Received head payload) journal above refl (keeps n c above)

pub began-said : (plan : PlainPlan) (by : Side) (head : Head) (journal : List Item) → KeepsSaid plan journal → KeepsSaid plan (began by head ∷ journal)
began-said plan by head journal keeps n c above = said-item plan n c (began by head) journal above refl (keeps n c above)

pub seq-said : (plan : PlainPlan) (by : Side) (seq : Seq) (journal : List Item) → KeepsSaid plan journal → KeepsSaid plan (told by seq ∷ journal)
seq-said plan by seq journal keeps n c above = said-item plan n c (told by seq) journal above refl (keeps n c above)

pub gained-said : (plan : PlainPlan) (gained journal : List Item) → Join gained journal → KeepsSaid plan journal → KeepsSaid plan (gained ++ journal)
gained-said plan [] journal join keeps = keeps
gained-said plan (began by head ∷ gained) journal join keeps = began-said plan by head (gained ++ journal) (gained-said plan gained journal join.1 keeps)
gained-said plan (told by seq ∷ gained) journal join keeps = seq-said plan by seq (gained ++ journal) (gained-said plan gained journal join.1 keeps)
gained-said plan (passed by head payload ∷ gained) journal join keeps =
    subst (λ (side : Side). KeepsSaid plan (passed side head payload ∷ (gained ++ journal))) (sym join.0.0)
    (came-said plan head payload (gained ++ journal) (gained-said plan gained journal join.1 keeps))

-- a frame that goes out, of a live life above zero or of channel zero
module _ (plan : PlainPlan) (head : Head) (payload : List ℕ) (journal : List Item) (there : is_there head.channel journal ≡ true) where
  abbrev sent-then : List Item
  sent-then = passed Side.Sent head payload ∷ began Side.Sent head ∷ journal

  pub sent-said : KeepsSaid plan journal → ((head.channel == 0) ≡ false → is_there head.channel sent-then ≡ true → SaidAt plan head.channel (life_now head.channel sent-then) sent-then) → KeepsSaid plan sent-then
  sent-said keeps here n c above = of (sends_in n c (passed Side.Sent head payload) (began Side.Sent head ∷ journal)) refl
    where
      own : (head.channel == n) ≡ true → (life_under_way n Side.Sent (began Side.Sent head ∷ journal) == c) ≡ true → SaidAt plan n c sent-then
      own same counts =
          let is : head.channel ≡ n = equal-number head.channel n same in
          let up : (head.channel == 0) ≡ false = ap (λ (m : ℕ). m == 0) is ∙ above in
          let now : life_now head.channel sent-then ≡ life_now head.channel journal = above-now Side.Sent head payload (began Side.Sent head ∷ journal) up head.channel ∙ began-now Side.Sent head journal head.channel in
          let under : life_under_way n Side.Sent (began Side.Sent head ∷ journal) ≡ life_now n journal = ap (λ (b : Bool). if b then life_now n journal else 0) same in
          let count : life_now n journal ≡ c = sym under ∙ equal-number (life_under_way n Side.Sent (began Side.Sent head ∷ journal)) c counts in
          let alive : is_there head.channel sent-then ≡ true = above-there Side.Sent head payload (began Side.Sent head ∷ journal) up head.channel ∙ began-there Side.Sent head journal head.channel ∙ there in
          subst (λ (k : ℕ). SaidAt plan n k sent-then) (ap (λ (m : ℕ). life_now m sent-then) (sym is) ∙ now ∙ ap (λ (m : ℕ). life_now m journal) is ∙ count)
          (subst (λ (m : ℕ). SaidAt plan m (life_now m sent-then) sent-then) is (here up alive))

      of : (b : Bool) → sends_in n c (passed Side.Sent head payload) (began Side.Sent head ∷ journal) ≡ b → SaidAt plan n c sent-then
      of true is =
          own (both-one (head.channel == n) (life_under_way n Side.Sent (began Side.Sent head ∷ journal) == c) is)
          (both-two (head.channel == n) (life_under_way n Side.Sent (began Side.Sent head ∷ journal) == c) is)
      of false none =
          said-item plan n c (passed Side.Sent head payload) (began Side.Sent head ∷ journal) above none
          (said-item plan n c (began Side.Sent head) journal above refl (keeps n c above))
