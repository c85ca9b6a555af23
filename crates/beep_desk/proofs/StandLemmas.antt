-- What a session keeps of channel zero stands alike with what was given and prepared there.
use Rattle.std.proofs.Common.{◌≡◌, ◌∙◌, refl, sym, ap, subst, ℕ, suc, ◌+◌, ◌-◌, ◌==◌, Bool, true, false, not, ◌&&◌, ◌||◌, if◌then◌else◌, List, [], ◌∷◌, ◌++◌, length, map, take, drop, filter, reverse, Option, arith, append_assoc, length-append, take-append-drop}
use Rattle.std.specs.Prelude.{nat_lt}
use Rattle.std.proofs.lemmas.Bool.Decides.{nat_tests}
use Rattle.std.proofs.lemmas.Grind.{flat_map-append}
use Rattle.std.proofs.lemmas.List.{map-append, length-reverse}
use Rattle.std.proofs.lemmas.List.Elements.{filter-append}
use Rattle.std.proofs.Math.Seq.{drop-append_seam}
use Rattle.beep_peer.specs.beep_frame.specs.Frame.{is_msg}
use Rattle.beep_peer.specs.beep_history.specs.declared.journal.Side.{Side}
use Rattle.beep_peer.specs.beep_history.specs.Journal.{Item}
use Rattle.beep_peer.specs.beep_history.specs.Broken.{KeepsExchangeRules}
use Rattle.beep_peer.specs.beep_mgmt.specs.Form.{Form}
use Rattle.beep_peer.specs.beep_journal.specs.Lives.{Event, lives, is_live, live_life, life_named}
use Rattle.beep_peer.specs.beep_journal.specs.Zero.{zero_history, asked, events}
use Rattle.beep_peer.specs.beep_journal.specs.Laws.{contents}
use Rattle.beep_peer.specs.beep_journal.proofs.MomentLemmas.{equal-number, named-within}
use Rattle.beep_peer.specs.beep_standing.specs.Standing.{Marks, AreLiveBy}
use Rattle.beep_peer.specs.beep_decide.specs.Decide.{is_among}
use Rattle.beep_peer.specs.beep_spoken.specs.Spoken.{Spoken}
use Rattle.beep_peer.specs.beep_asked.specs.Kept.{Kept, closes, is_leaving}
use Rattle.beep_peer.specs.beep_asked.proofs.MovesLemmas.{none-of-zero as no-lives}
use Rattle.beep_peer.specs.beep_standing.proofs.ZeroLemmas.{none-of-zero, now-of-zero}
use Rattle.beep_peer.specs.beep_management.specs.Managed.{numbers_of, numbers_granted, requests_among, replies_among}
use Rattle.beep_peer.specs.beep_management.specs.Manages.{AllFit, IsManaged, unsent}
use Rattle.beep_peer.specs.declared.peer.Peer.{Peer}
use Rattle.beep_peer.specs.Standing.{standing_of, live_above, closing_in}
use Rattle.beep_script.specs.beep_talk.specs.AtZero.{ZeroMessage, Answer, Desk, answer_message}
use Rattle.beep_script.specs.beep_talk.specs.Plan.{PlainPlan}
use Rattle.beep_script.specs.Desk.{desk, standing, live_numbers, own_starting, peer_starting, is_closing}
use Rattle.beep_script.specs.Laws.{replied_positions, answered_positions}
use Rattle.beep_desk.specs.Alike.{StandsAlike}
use Rattle.beep_desk.specs.Listed.{ArePlacedFrom, AreInTurn, IsListed, asked_positions, spoken_of, spoken_as}
use Rattle.beep_desk.proofs.NumberLemmas.{among-append, among-filter, rest-distinct, rest-live, rest-zero, same-length}
use Rattle.beep_desk.proofs.LiveLemmas.{among-numbers, numbers-distinct}
use Rattle.beep_desk.proofs.OwnLemmas.{waiting-said}
use Rattle.beep_desk.proofs.KeptLemmas.{fresh-numbers, own-leaving, starting-same}
use Rattle.beep_desk.proofs.TheirLemmas.{closes-zero, granted-listed, granted-said, granted_by, peer-closes, reply-kind}

-- ---- small lemmas

pub fit-count : (ones : List Spoken) (requests : List Kept) → AllFit ones requests → length ones ≡ length requests
fit-count [] [] f = refl
fit-count [] (kept ∷ requests) f = absurd f
fit-count (one ∷ ones) [] f = absurd f
fit-count (one ∷ ones) (kept ∷ requests) f = ap suc (fit-count ones requests f.1)

pub replied-append : (xs ys : List ZeroMessage) → replied_positions (xs ++ ys) ≡ replied_positions xs ++ replied_positions ys
replied-append xs ys =
    ap (map (λ (one : ZeroMessage). one.tag.request)) (filter-append (λ (one : ZeroMessage). not (is_msg one.tag.kind)) xs ys)
    ∙ map-append (λ (one : ZeroMessage). one.tag.request) (filter (λ (one : ZeroMessage). not (is_msg one.tag.kind)) xs) (filter (λ (one : ZeroMessage). not (is_msg one.tag.kind)) ys)

pub replied-answers : (answers : List Answer) → replied_positions (map answer_message answers) ≡ map (λ (answer : Answer). answer.position) answers
replied-answers [] = refl
replied-answers (answer ∷ answers) = rw (reply-kind answer.form) (ap (λ ps. answer.position ∷ ps) (replied-answers answers))

-- replies and answers without their places
pub replies-of : (ones : List ZeroMessage) → length (replies_among (map spoken_of ones)) ≡ length (replied_positions ones)
replies-of [] = refl
replies-of (one ∷ ones) = by (is_msg one.tag.kind) (replies-of ones)
  where
    by : (b : Bool) → length (replies_among (map spoken_of ones)) ≡ length (replied_positions ones)
        → length (if not b then spoken_of one ∷ replies_among (map spoken_of ones) else replies_among (map spoken_of ones))
        ≡ length (map (λ (one : ZeroMessage). one.tag.request) (if not b then one ∷ filter (λ (one : ZeroMessage). not (is_msg one.tag.kind)) ones else filter (λ (one : ZeroMessage). not (is_msg one.tag.kind)) ones))
    by true rest = rest
    by false rest = ap suc rest

answers-of : (answers : List Answer) → replies_among (map spoken_of (map answer_message answers)) ≡ map spoken_as answers
answers-of [] = refl
answers-of (answer ∷ answers) = rw (reply-kind answer.form) (ap (λ l. spoken_as answer ∷ l) (answers-of answers))

-- ---- a desk

-- the messages that were given are those that a desk lists, and those that are prepared are those that it owes
pub record AreThose (d : Desk) (spoken prepared : List Spoken) : Type 0 where
  pub listed : map spoken_of d.listed ≡ spoken
  pub owed : map spoken_as d.owed ≡ prepared

-- its requests have the positions after the implied one, and each request of the peer has one answer, in turn
pub record StandInTurn (d : Desk) (journal : List Item) : Type 0 where
  pub requests : ArePlacedFrom 1 (asked_positions d.listed)
  pub replies : ArePlacedFrom 0 (answered_positions d)
  pub each : length (answered_positions d) ≡ length (asked Side.Received (zero_history journal))

pub those-of : (plan : PlainPlan) (journal : List Item) (spoken prepared : List Spoken) → IsListed plan journal spoken prepared → AreThose (desk plan journal) spoken prepared
those-of plan journal spoken prepared l = record { listed = l.listed; owed = l.owed }

pub turn-of : (plan : PlainPlan) (journal : List Item) → AreInTurn plan journal → StandInTurn (desk plan journal) journal
turn-of plan journal t = record { requests = t.requests; replies = t.replies; each = t.each }

module _ (plan : PlainPlan) (size : ℕ) (journal : List Item) (given taken : Marks) (peer : Peer) (spoken prepared : List Spoken) (keeps : KeepsExchangeRules (zero_history journal))
    (live : AreLiveBy size journal given taken peer.lives) (managed : IsManaged size journal given peer.management spoken prepared) (d : Desk) (those : AreThose d spoken prepared)
    (turns : StandInTurn d journal) where
  abbrev pub past : List Item
  past = zero_history journal

  abbrev pub es : List Event
  es = events journal

  abbrev pub mine : List Kept
  mine = peer.management.mine.requests

  abbrev pub acts : List Kept
  acts = peer.management.acts.requests

  abbrev pub theirs : List Kept
  theirs = peer.management.theirs.requests

  abbrev pub ours : List ZeroMessage
  ours = d.listed

  abbrev pub owed : List Answer
  owed = d.owed

  abbrev pub forms : List (Option Form)
  forms = asked Side.Received past

  -- ---- live numbers

  live-same : (n : ℕ) → is_among n (live_numbers journal) ≡ is_among n (live_above peer)
  live-same n = by (n == 0) refl
    where
      by : (b : Bool) → (n == 0) ≡ b → is_among n (live_numbers journal) ≡ is_among n (live_above peer)
      by true e =
          let same = equal-number n 0 e in
          subst (λ m. is_among m (live_numbers journal) ≡ is_among m (live_above peer)) (sym same)
          (among-numbers 0 journal ∙ none-of-zero journal ∙ sym (rest-zero peer.lives live.ascending (sym (live.there 0))))
      by false e =
          among-numbers n journal ∙ ap (λ b. b || is_live n es) (sym e) ∙ live.there n ∙ sym (rest-live peer.lives live.ascending (sym (live.there 0)) n e)

  -- ---- own requests

  asked-same : requests_among (map spoken_of ours) ≡ requests_among spoken
  asked-same = ap requests_among those.listed

  -- ---- the peer's requests

  abbrev pub first : ℕ
  first = length forms - length theirs

  abbrev all : List ZeroMessage
  all = ours ++ map answer_message owed

  positions : replied_positions all ≡ answered_positions d
  positions = replied-append ours (map answer_message owed) ∙ ap (λ l. replied_positions ours ++ l) (replied-answers owed)

  replies : replies_among (map spoken_of all) ≡ replies_among spoken ++ prepared
  replies =
      ap replies_among (map-append spoken_of ours (map answer_message owed))
      ∙ filter-append (λ (one : Spoken). not (is_msg one.kind)) (map spoken_of ours) (map spoken_of (map answer_message owed))
      ∙ ap (λ l. replies_among l ++ replies_among (map spoken_of (map answer_message owed))) those.listed
      ∙ ap (λ l. replies_among spoken ++ l) (answers-of owed ∙ those.owed)

  -- the replies that are sent, and those that aren't
  pub parted : replies_among spoken ≡ replies_among (take (length (contents Side.Sent journal)) spoken) ++ replies_among (unsent spoken journal)
  parted =
      let sent = length (contents Side.Sent journal) in
      ap replies_among (sym (take-append-drop sent spoken)) ∙ filter-append (λ (one : Spoken). not (is_msg one.kind)) (take sent spoken) (drop sent spoken)

  -- as many replies are sent as requests of the peer are answered
  pub first-count : first ≡ length (replies_among (take (length (contents Side.Sent journal)) spoken))
  first-count =
      let sent = length (contents Side.Sent journal) in
      let front = replies_among (take sent spoken) in
      let back = replies_among (unsent spoken journal) in
      let kept : length (back ++ prepared) ≡ length (reverse theirs) = fit-count (back ++ prepared) (reverse theirs) managed.fit in
      let kept-count : length (reverse theirs) ≡ length theirs = length-reverse theirs in
      let total : length (replies_among spoken ++ prepared) ≡ length forms = ap length (sym replies) ∙ replies-of all ∙ ap length positions ∙ turns.each in
      let split : length (replies_among spoken ++ prepared) ≡ length front + length (back ++ prepared) =
      ap (λ l. length (l ++ prepared)) parted ∙ ap length (append_assoc front back prepared) ∙ length-append front (back ++ prepared) in
      omega (arith, kept, kept-count, total, split)

  waiting-replies : drop first (replies_among spoken ++ prepared) ≡ replies_among (unsent spoken journal) ++ prepared
  waiting-replies =
      let front = replies_among (take (length (contents Side.Sent journal)) spoken) in
      let back = replies_among (unsent spoken journal) in
      ap (λ n. drop n (replies_among spoken ++ prepared)) first-count ∙ ap (λ l. drop (length front) (l ++ prepared)) parted
      ∙ ap (drop (length front)) (append_assoc front back prepared) ∙ drop-append_seam front (back ++ prepared)

  granted-same : numbers_of peer.management.granted ≡ peer_starting past forms ours ++ peer_starting past forms (map answer_message owed)
  granted-same =
      fresh-numbers size (numbers_granted (replies_among (unsent spoken journal) ++ prepared) (reverse theirs)) peer.management.granted managed.granted
      ∙ granted-said (replies_among (unsent spoken journal) ++ prepared) (reverse theirs)
      ∙ ap (granted_by (replies_among (unsent spoken journal) ++ prepared)) (waiting-said Side.Received past theirs managed.theirs)
      ∙ ap (λ l. granted_by l (drop first (reverse forms))) (sym waiting-replies ∙ ap (drop first) (sym replies))
      ∙ ap (λ n. granted_by (drop n (replies_among (map spoken_of all))) (drop first (reverse forms))) (none first)
      ∙ ap (λ n. granted_by (drop (first - 0) (replies_among (map spoken_of all))) (drop n (reverse forms))) (over first)
      ∙ sym (granted-listed past forms (length theirs) managed.theirs.answered 0 all (subst (ArePlacedFrom 0) (sym positions) turns.replies))
      ∙ flat_map-append _ ours (map answer_message owed)
    where
      none : (n : ℕ) → n ≡ n - 0
      none n = omega arith

      over : (n : ℕ) → n ≡ n + (0 - n)
      over n = omega arith

  -- ---- closes

  close-same : (n : ℕ) → (n == 0 || is_live n es) ≡ true → is_closing n journal ≡ closes n theirs
  close-same n there =
      peer-closes n es past (length forms) (length theirs) managed.theirs.answered named theirs forms managed.theirs.asked refl
    where
      zero-named : (p : ℕ) → (life_named 0 Side.Received p es == live_life 0 es) ≡ true
      zero-named p =
          let within = named-within 0 Side.Received p es in
          let lives-none = no-lives past in
          let named-none : life_named 0 Side.Received p es ≡ 0 = omega (arith, within, lives-none) in
          ap (λ m. m == live_life 0 es) named-none ∙ ap (λ m. 0 == m) (now-of-zero journal)

      above : (m : ℕ) → (m == 0) ≡ false → nat_lt 0 m ≡ true
      above m e = grind (arith, nat_tests, e)

      named : (p : ℕ) → (life_named n Side.Received p es == live_life n es) ≡ (n == 0 || (nat_lt 0 n && (is_live n es && life_named n Side.Received p es == lives n es)))
      named p = by (n == 0) refl there
        where
          by : (b : Bool) → (n == 0) ≡ b → (b || is_live n es) ≡ true
              → (life_named n Side.Received p es == live_life n es) ≡ (b || (nat_lt 0 n && (is_live n es && life_named n Side.Received p es == lives n es)))
          by true e there = subst (λ m. (life_named m Side.Received p es == live_life m es) ≡ true) (sym (equal-number n 0 e)) (zero-named p)
          by false e there =
              ap (λ b. life_named n Side.Received p es == (if b then lives n es else 0)) there
              ∙ sym (ap (λ b. b && (is_live n es && life_named n Side.Received p es == lives n es)) (above n e)
              ∙ ap (λ b. b && life_named n Side.Received p es == lives n es) there)

  closing-same : (n : ℕ) → is_among n (filter (λ (number : ℕ). is_closing number journal) (0 ∷ live_numbers journal)) ≡ is_among n (closing_in peer)
  closing-same n =
      among-filter (λ (number : ℕ). is_closing number journal) n (0 ∷ live_numbers journal) ∙ by (0 == n) refl
      ∙ sym (among-append n (if is_leaving theirs then 0 ∷ [] else []) (filter (λ (number : ℕ). closes number theirs) (live_above peer))
      ∙ ap (λ b. b || is_among n (filter (λ (number : ℕ). closes number theirs) (live_above peer))) (zero-first (is_leaving theirs))
      ∙ ap (λ b. (is_leaving theirs && 0 == n) || b) (among-filter (λ (number : ℕ). closes number theirs) n (live_above peer)))
    where
      zero-first : (b : Bool) → is_among n (if b then 0 ∷ [] else []) ≡ (b && 0 == n)
      zero-first true = or-none (0 == n)
        where
          or-none : (c : Bool) → (c || false) ≡ c
          or-none true = refl
          or-none false = refl
      zero-first false = refl

      here : (a b c : Bool) → a ≡ b → (a && true) ≡ ((b && true) || (c && false))
      here true true c e = refl
      here true false c e = absurd cc
      here false true c e = absurd cc
      here false false true e = refl
      here false false false e = refl

      there : (l c : Bool) → is_live n es ≡ l → (n == 0) ≡ false → (is_closing n journal && l) ≡ ((c && false) || (closes n theirs && l))
      there true true live apart = both (is_closing n journal) (closes n theirs) (close-same n (ap (λ b. b || is_live n es) apart ∙ live))
        where
          both : (a b : Bool) → a ≡ b → (a && true) ≡ (b && true)
          both a b e = ap (λ x. x && true) e
      there true false live apart = both (is_closing n journal) (closes n theirs) (close-same n (ap (λ b. b || is_live n es) apart ∙ live))
        where
          both : (a b : Bool) → a ≡ b → (a && true) ≡ (b && true)
          both a b e = ap (λ x. x && true) e
      there false true live apart = neither (is_closing n journal) (closes n theirs)
        where
          neither : (a b : Bool) → (a && false) ≡ (b && false)
          neither true true = refl
          neither true false = refl
          neither false true = refl
          neither false false = refl
      there false false live apart = neither (is_closing n journal) (closes n theirs)
        where
          neither : (a b : Bool) → (a && false) ≡ (b && false)
          neither true true = refl
          neither true false = refl
          neither false true = refl
          neither false false = refl

      turn : (m k : ℕ) → (m == k) ≡ false → (k == m) ≡ false
      turn m k e = grind (arith, nat_tests, e)

      by : (b : Bool) → (0 == n) ≡ b → (is_closing n journal && (b || is_among n (live_numbers journal)))
          ≡ ((is_leaving theirs && b) || (closes n theirs && is_among n (live_above peer)))
      by true e =
          let same : 0 ≡ n = equal-number 0 n e in
          subst (λ m. (is_closing m journal && true) ≡ ((is_leaving theirs && true) || (closes m theirs && is_among m (live_above peer)))) same
          (here (is_closing 0 journal) (is_leaving theirs) (closes 0 theirs) (close-same 0 refl ∙ closes-zero theirs)
          ∙ ap (λ b. (is_leaving theirs && true) || (closes 0 theirs && b)) (sym (rest-zero peer.lives live.ascending (sym (live.there 0)))))
      by false e =
          ap (λ b. is_closing n journal && b) (among-numbers n journal) ∙ there (is_live n es) (is_leaving theirs) refl (turn 0 n e)
          ∙ ap (λ b. (is_leaving theirs && false) || (closes n theirs && b)) (sym (among-numbers n journal) ∙ live-same n)

  -- ---- all of it

  pub desk-alike : StandsAlike (standing plan d journal) (standing_of plan.terms.role plan.offers peer)
  desk-alike =
      let starting : (own_starting past ours ++ peer_starting past forms ours) ++ peer_starting past forms (map answer_message owed)
      ≡ numbers_of peer.management.starting ++ numbers_of peer.management.granted =
      append_assoc (own_starting past ours) (peer_starting past forms ours) (peer_starting past forms (map answer_message owed))
      ∙ ap (λ l. l ++ (peer_starting past forms ours ++ peer_starting past forms (map answer_message owed))) (sym (starting-same size journal given taken peer spoken prepared keeps live managed ours asked-same turns.requests))
      ∙ ap (λ l. numbers_of peer.management.starting ++ l) (sym granted-same) in
      let counted : length (live_numbers journal) ≡ length (live_above peer) =
      same-length (live_numbers journal) (live_above peer) (numbers-distinct journal) (rest-distinct peer.lives live.ascending (sym (live.there 0))) live-same in
      record {
        role = refl;
        offers = refl;
        live = live-same;
        starting = λ n. ap (is_among n) starting;
        count = ap (λ n. n + length ((own_starting past ours ++ peer_starting past forms ours) ++ peer_starting past forms (map answer_message owed))) counted
            ∙ ap (λ l. length (live_above peer) + length l) starting;
        closing = closing-same;
        leaving = ap (λ b. b || is_closing 0 journal) (sym (own-leaving size journal given taken peer spoken prepared keeps live managed ours asked-same turns.requests)) ∙ ap (λ b. (is_leaving mine || is_leaving acts) || b) (close-same 0 refl ∙ closes-zero theirs);
      }

-- what the script lists and owes
pub stands-alike : (plan : PlainPlan) (size : ℕ) (journal : List Item) (given taken : Marks) (peer : Peer) (spoken prepared : List Spoken) → KeepsExchangeRules (zero_history journal)
    → AreLiveBy size journal given taken peer.lives → IsManaged size journal given peer.management spoken prepared → IsListed plan journal spoken prepared → AreInTurn plan journal
    → StandsAlike (standing plan (desk plan journal) journal) (standing_of plan.terms.role plan.offers peer)
stands-alike plan size journal given taken peer spoken prepared keeps live managed listed turns =
    desk-alike plan size journal given taken peer spoken prepared keeps live managed (desk plan journal) (those-of plan journal spoken prepared listed) (turn-of plan journal turns)
