-- What the answers of a session wait for is what those that its script owes wait for.
use Rattle.std.proofs.Common.{◌≡◌, ◌∙◌, refl, sym, ap, subst, ℕ, zero, suc, ◌+◌, ◌-◌, ◌≤◌, Bool, true, false, not, if◌then◌else◌, List, [], ◌∷◌, ◌++◌, length, map, take, drop, reverse, Option, arith, length-append}
use Rattle.std.proofs.Math.Seq.{drop-append_seam}
use Rattle.beep_peer.specs.beep_frame.specs.declared.kind.Kind.{Kind}
use Rattle.beep_peer.specs.beep_frame.specs.Frame.{is_msg}
use Rattle.beep_peer.specs.beep_history.specs.declared.journal.Side.{Side}
use Rattle.beep_peer.specs.beep_history.specs.Journal.{Item}
use Rattle.beep_peer.specs.beep_history.specs.Broken.{KeepsExchangeRules}
use Rattle.beep_peer.specs.beep_history.specs.Marks.{marks}
use Rattle.beep_peer.specs.beep_mgmt.specs.Form.{Form}
use Rattle.beep_peer.specs.beep_journal.specs.Laws.{contents}
use Rattle.beep_peer.specs.beep_journal.proofs.PiecesLemmas.{are-cut}
use Rattle.beep_peer.specs.beep_journal.specs.Lives.{Event}
use Rattle.beep_peer.specs.beep_journal.specs.Zero.{asked, events, zero_history}
use Rattle.beep_peer.specs.beep_lawful.specs.declared.terms.Terms.{Terms}
use Rattle.beep_peer.specs.beep_standing.specs.Standing.{Marks, AreLiveBy}
use Rattle.beep_peer.specs.beep_spoken.specs.Spoken.{Spoken, kinds_of}
use Rattle.beep_peer.specs.beep_asked.specs.Kept.{Kept}
use Rattle.beep_peer.specs.beep_management.specs.Managed.{Prepared, replies_among}
use Rattle.beep_peer.specs.beep_management.specs.Manages.{ArePrepared, IsManaged, unsent}
use Rattle.beep_peer.specs.beep_upright.specs.Turns.{kinds_at, reply_kinds}
use Rattle.beep_peer.specs.beep_upright.specs.Upright.{AreAnswered, IsUpright, all_asked, asked_at}
use Rattle.beep_peer.specs.declared.peer.Peer.{Peer}
use Rattle.beep_peer.proofs.KindsLemmas.{kinds-by}
use Rattle.beep_script.specs.beep_talk.specs.AtZero.{Answer}
use Rattle.beep_script.specs.beep_talk.specs.Plan.{PlainPlan}
use Rattle.beep_script.specs.Desk.{desk}
use Rattle.beep_script.specs.Laws.{replied_positions}
use Rattle.beep_desk.specs.Listed.{ArePlacedFrom, AreInTurn, IsListed}
use Rattle.beep_desk.specs.Waiting.{AllWait, OnlyGrantsWait}
use Rattle.beep_desk.proofs.OwedLemmas.{owed-true}
use Rattle.beep_desk.proofs.OwnLemmas.{kinds-count}
use Rattle.beep_desk.proofs.StandLemmas.{AreThose, StandInTurn, first-count, fit-count, parted, replies-of, those-of, turn-of}
use Rattle.beep_desk.proofs.WaitLemmas.{AreKeptFrom, all-wait, kept-from}

-- ---- lists

placed-after : (k : ℕ) (xs ys : List ℕ) → ArePlacedFrom k (xs ++ ys) → ArePlacedFrom (k + length xs) ys
placed-after k [] ys p = subst (λ n. ArePlacedFrom n ys) (none k) p
  where
    none : (n : ℕ) → n ≡ n + 0
    none n = omega arith
placed-after k (x ∷ xs) ys p = subst (λ n. ArePlacedFrom n ys) (more k (length xs)) (placed-after (k + 1) xs ys p.1)
  where
    more : (n m : ℕ) → (n + 1) + m ≡ n + suc m
    more n m = omega arith

kept-drop : (es : List Event) (forms : List (Option Form)) (k u : ℕ) (xs : List Kept) → AreKeptFrom es forms k xs → AreKeptFrom es forms (k + u) (drop u xs)
kept-drop es forms k zero xs a = subst (λ n. AreKeptFrom es forms n xs) (none k) a
  where
    none : (n : ℕ) → n ≡ n + 0
    none n = omega arith
kept-drop es forms k (suc u) [] a = tt
kept-drop es forms k (suc u) (x ∷ xs) a = subst (λ n. AreKeptFrom es forms n (drop u xs)) (more k u) (kept-drop es forms (k + 1) u xs a.1)
  where
    more : (n m : ℕ) → (n + 1) + m ≡ n + suc m
    more n m = omega arith

-- after the replies that were given come the answers that weren't
answered-drop : (aforms : List (Option Form)) (journal : List Item) (asks : ℕ → ℕ) (place : ℕ) (kinds : List Kind) (answers : List Prepared) (requests : List Kept)
    → AreAnswered aforms journal asks place kinds answers requests → length kinds ≤ length requests
    → AreAnswered aforms journal asks (place + length kinds) [] answers (drop (length kinds) requests)
answered-drop aforms journal asks place [] answers requests a less = subst (λ n. AreAnswered aforms journal asks n [] answers requests) (none place) a
  where
    none : (n : ℕ) → n ≡ n + 0
    none n = omega arith
answered-drop aforms journal asks place (kind ∷ kinds) answers [] a less = absurd (omega (arith, less))
answered-drop aforms journal asks place (kind ∷ kinds) answers (kept ∷ requests) a less =
    subst (λ n. AreAnswered aforms journal asks n [] answers (drop (length kinds) requests)) (more place (length kinds))
    (answered-drop aforms journal asks (place + 1) kinds answers requests a.1 (omega (arith, less)))
  where
    more : (n m : ℕ) → (n + 1) + m ≡ n + suc m
    more n m = omega arith

drop-count : {X : Type 0} (m : ℕ) (xs : List X) → length (drop m xs) ≡ length xs - m
drop-count zero xs = omega arith
drop-count (suc m) [] = omega arith
drop-count (suc m) (x ∷ xs) = let rest = drop-count m xs in omega (arith, rest)

pub prepared-count : (answers : List Prepared) (ones : List Spoken) → ArePrepared answers ones → length answers ≡ length ones
prepared-count [] [] p = refl
prepared-count [] (one ∷ ones) p = absurd p
prepared-count (answer ∷ answers) [] p = absurd p
prepared-count (answer ∷ answers) (one ∷ ones) p = ap suc (prepared-count answers ones p.1)

reply-count : (ones : List Spoken) → length (reply_kinds (map (λ (one : Spoken). one.kind) ones)) ≡ length (replies_among ones)
reply-count [] = refl
reply-count (one ∷ ones) = by (is_msg one.kind) (reply-count ones)
  where
    by : (b : Bool) → length (reply_kinds (map (λ (one : Spoken). one.kind) ones)) ≡ length (replies_among ones)
        → length (if not b then one.kind ∷ reply_kinds (map (λ (one : Spoken). one.kind) ones) else reply_kinds (map (λ (one : Spoken). one.kind) ones))
        ≡ length (if not b then one ∷ replies_among ones else replies_among ones)
    by true rest = rest
    by false rest = ap suc rest

drop-map : {X Y : Type 0} (f : X → Y) (n : ℕ) (xs : List X) → drop n (map f xs) ≡ map f (drop n xs)
drop-map f zero xs = refl
drop-map f (suc n) [] = refl
drop-map f (suc n) (x ∷ xs) = drop-map f n xs

-- as many messages were wholly sent to channel zero as messages ended there
sent-count : (journal : List Item) → KeepsExchangeRules (zero_history journal) → length (kinds_of (marks Side.Sent (zero_history journal))) ≡ length (contents Side.Sent journal)
sent-count journal keeps = kinds-count [] (marks Side.Sent (zero_history journal)) ∙ ap length (are-cut Side.Sent journal keeps).pieces

-- ---- all of it

module _ (plan : PlainPlan) (terms : Terms) (size : ℕ) (journal : List Item) (given taken : Marks) (peer : Peer) (spoken prepared : List Spoken) (keeps : KeepsExchangeRules (zero_history journal))
    (live : AreLiveBy size journal given taken peer.lives) (managed : IsManaged size journal given peer.management spoken prepared) (listed : IsListed plan journal spoken prepared)
    (turns : AreInTurn plan journal) (upright : IsUpright terms journal peer.lives peer.management) (plain : OnlyGrantsWait peer.management.answers) where
  -- the messages of channel zero that aren't wholly sent
  zero-kinds : kinds_at 0 peer.lives ≡ map (λ (one : Spoken). one.kind) (unsent spoken journal)
  zero-kinds =
      let ms = marks Side.Sent (zero_history journal) in
      let count : length (kinds_of ms) ≡ length (contents Side.Sent journal) = sent-count journal keeps in
      let all : kinds_of ms ++ kinds_at 0 peer.lives ≡ map (λ (one : Spoken). one.kind) spoken =
      sym (kinds-by size journal journal given taken peer.lives live) ∙ managed.spoken_is.kinds in
      sym (drop-append_seam (kinds_of ms) (kinds_at 0 peer.lives))
      ∙ ap (λ n. drop n (kinds_of ms ++ kinds_at 0 peer.lives)) count
      ∙ ap (drop (length (contents Side.Sent journal))) all
      ∙ drop-map (λ (one : Spoken). one.kind) (length (contents Side.Sent journal)) spoken

  pub desk-waits : AllWait (events journal) (desk plan journal).owed peer.management.answers
  desk-waits =
      let past = zero_history journal in
      let forms = asked Side.Received past in
      let requests = reverse peer.management.theirs.requests in
      let first = length forms - length peer.management.theirs.requests in
      let kinds = reply_kinds (kinds_at 0 peer.lives) in
      let back = replies_among (unsent spoken journal) in
      let front = replies_among (take (length (contents Side.Sent journal)) spoken) in
      let ours = (desk plan journal).listed in
      let those : AreThose (desk plan journal) spoken prepared = those-of plan journal spoken prepared listed in
      let turn : StandInTurn (desk plan journal) journal = turn-of plan journal turns in
      let owed = (desk plan journal).owed in
      let unsent-count : length kinds ≡ length back = ap (λ ks. length (reply_kinds ks)) zero-kinds ∙ reply-count (unsent spoken journal) in
      let fit : length (back ++ prepared) ≡ length requests = fit-count (back ++ prepared) requests managed.fit in
      let split : length (back ++ prepared) ≡ length back + length prepared = length-append back prepared in
      let answers-count : length peer.management.answers ≡ length prepared = prepared-count peer.management.answers prepared managed.answers in
      let first-is : first ≡ length front = first-count plan size journal given taken peer spoken prepared keeps live managed (desk plan journal) those turn in
      let parts : length (replies_among spoken) ≡ length front + length back =
      ap length (parted plan size journal given taken peer spoken prepared keeps live managed (desk plan journal) those turn) ∙ length-append front back in
      let said : length (replied_positions ours) ≡ length (replies_among spoken) = sym (replies-of ours) ∙ ap (λ l. length (replies_among l)) listed.listed in
      let here : 0 + length (replied_positions ours) ≡ first + length kinds = omega (arith, unsent-count, first-is, parts, said) in
      let left : length (drop (length kinds) requests) ≡ length requests - length kinds = drop-count (length kinds) requests in
      all-wait (events journal) forms (all_asked journal peer.management) journal (asked_at peer.lives) (first + length kinds) (first + length kinds) owed peer.management.answers (drop (length kinds) requests)
      (owed-true plan journal)
      (subst (λ n. ArePlacedFrom n (map (λ (answer : Answer). answer.position) owed)) here
      (placed-after 0 (replied_positions ours) (map (λ (answer : Answer). answer.position) owed) turns.replies))
      (subst (ArePrepared peer.management.answers) (sym listed.owed) managed.answers)
      (answered-drop (all_asked journal peer.management) journal (asked_at peer.lives) first kinds peer.management.answers requests upright.theirs (omega (arith, unsent-count, fit, split)))
      (kept-drop (events journal) forms first (length kinds) requests (kept-from (events journal) peer.management.theirs.requests forms managed.theirs.asked managed.theirs.within))
      (omega (arith, left, fit, split, unsent-count, answers-count))
      plain
