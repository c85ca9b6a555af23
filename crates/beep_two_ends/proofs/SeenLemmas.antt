-- What an end that has received all of the other's items knows of what that one knew.
use Rattle.std.proofs.Common.{◌≡◌, ℕ, zero, suc, ◌+◌, ◌-◌, ◌<◌, ◌≤◌, ◌==◌, Bool, true, false, cond, ◌||◌, List, [], ◌∷◌, ◌++◌, length, take, map, Some, refl, sym, ap, ◌∙◌, arith, subst, length-append}
use Rattle.std.specs.List.{find}
use Rattle.std.proofs.lemmas.Bool.{lt-ltb, ltb-true}
use Rattle.std.proofs.lemmas.Bool.Decides.{nat_tests}
use Rattle.beep_history.specs.declared.journal.Side.{Side}
use Rattle.beep_history.specs.Journal.{Item}
use Rattle.beep_history.specs.Marks.{frames, Request, requests, is_whole, reply, is_answered}
use Rattle.beep_history.specs.Broken.{KeepsExchangeRules}
use Rattle.beep_history.proofs.AnswersLemmas.{has}
use Rattle.beep_history.proofs.ListsLemmas.{IsNumbered, find-below}
use Rattle.beep_history.proofs.SoundLemmas.{IsApartFirst}
use Rattle.beep_history.specs.Moments.{replies_ended, reply_at}
use Rattle.beep_two_ends.specs.Seen.{arrived, Sees}
use Rattle.beep_history.proofs.RepliesLemmas.{replies, answered}
use Rattle.beep_two_ends.proofs.WaysLemmas.{frames-arrived, requests-arrived, whole-arrived, frames-sent, requests-sent, whole-sent, Before, requests-before, whole-before, ended-before}

-- what the two ends agree on, and what the other knows more of
pub record Agrees (mine theirs : List Item) : Type 0 where
  pub same_frames : frames Side.Received theirs ≡ frames Side.Sent mine
  pub same_requests : requests Side.Received theirs ≡ requests Side.Sent mine
  pub same_whole : (p : ℕ) → is_whole Side.Received p theirs ≡ is_whole Side.Sent p mine
  pub same_reply : (p : ℕ) → reply Side.Sent p theirs ≡ reply Side.Received p mine
  pub earlier : Before (requests Side.Received mine) (requests Side.Sent theirs)
  pub whole_then : (p : ℕ) → is_whole Side.Received p mine ≡ true → is_whole Side.Sent p theirs ≡ true
  pub answered_then : (p : ℕ) → is_answered Side.Sent p mine ≡ true → is_answered Side.Received p theirs ≡ true

pub agrees : (mine theirs : List Item) → KeepsExchangeRules mine → KeepsExchangeRules theirs → Sees mine theirs → Agrees mine theirs
agrees mine theirs u v s =
    let theirs_frames : frames Side.Received theirs ≡ frames Side.Sent mine =
    sym (frames-arrived theirs) ∙ ap (frames Side.Received) s.all ∙ frames-sent mine in
    let few : replies_ended (frames Side.Received mine) ≤ replies_ended (frames Side.Sent theirs) =
    rw (← frames-arrived mine, ← frames-sent theirs, s.some) (ended-before s.newer (arrived mine)) in
    record {
      same_frames = theirs_frames;
      same_requests = sym (requests-arrived theirs) ∙ ap (requests Side.Received) s.all ∙ requests-sent mine;
      same_whole = λ p. sym (whole-arrived p theirs) ∙ ap (is_whole Side.Received p) s.all ∙ whole-sent p mine;
      same_reply = λ p. replies Side.Sent theirs v p ∙ ap (reply_at p) theirs_frames ∙ sym (replies Side.Received mine u p);
      earlier = subst (λ (rs : List Request). Before rs (requests Side.Sent theirs)) (requests-arrived mine)
          (subst (λ (rs : List Request). Before (requests Side.Received (arrived mine)) rs)
          (ap (requests Side.Received) (sym s.some) ∙ requests-sent theirs) (requests-before s.newer (arrived mine)));
      whole_then = λ p e. sym (whole-sent p theirs) ∙ ap (is_whole Side.Received p) s.some
          ∙ whole-before p s.newer (arrived mine) (whole-arrived p mine ∙ e);
      answered_then = λ p e.
          let below : p < replies_ended (frames Side.Received mine) = ltb-true _ _ (sym (answered Side.Sent mine u p) ∙ e) in
          answered Side.Received theirs v p ∙ lt-ltb _ _ (omega arith);
    }

-- ---- the request that a reply names

or-right-true : (a b : Bool) → b ≡ true → (a || b) ≡ true
or-right-true true b e = refl
or-right-true false b e = e

-- a request at or after a place is among the newest
has-found : (n oldest : ℕ) (rs : List Request) (r : Request) → IsNumbered rs → find (λ x. x.number == n) rs ≡ Some r → oldest ≤ r.position
    → has n (take (length rs - oldest) (map (λ (x : Request). x.number) rs)) ≡ true
has-found n oldest [] r numbered found least = cc
has-found n oldest (x ∷ rs) r numbered found least = has-found-by (λ f. has-found n oldest rs r numbered.1 f least) (x.number == n) refl found
  where
    has-found-by : (find (λ (y : Request). y.number == n) rs ≡ Some r → has n (take (length rs - oldest) (map (λ (y : Request). y.number) rs)) ≡ true)
        → (b : Bool) → (x.number == n) ≡ b → cond b (Some x) (find (λ (y : Request). y.number == n) rs) ≡ Some r
        → has n (take (suc (length rs) - oldest) (x.number ∷ map (λ (y : Request). y.number) rs)) ≡ true
    has-found-by later true e f =
        let same : x ≡ r = cc in
        let at : r.position ≡ length rs = rw (← same) numbered.0 in
        let more : suc (length rs) - oldest ≡ suc (length rs - oldest) = omega arith in
        rw (more, e)
    has-found-by later false e f =
        let below = find-below (λ (y : Request). y.number == n) rs r numbered.1 f in
        let more : suc (length rs) - oldest ≡ suc (length rs - oldest) = omega arith in
        rw more (or-right-true (x.number == n) _ (later f))

other-number : (n m : ℕ) (ns : List ℕ) → has m ns ≡ false → has n ns ≡ true → (m == n) ≡ false
other-number n m [] none some = cc
other-number n m (x ∷ ns) none some = other-number-by (other-number n m ns) (x == m) refl (x == n) refl none some
  where
    other-number-by : (has m ns ≡ false → has n ns ≡ true → (m == n) ≡ false) → (a : Bool) → (x == m) ≡ a → (b : Bool) → (x == n) ≡ b → (a || has m ns) ≡ false → (b || has n ns) ≡ true → (m == n) ≡ false
    other-number-by later true e b f none' some' = cc
    other-number-by later false e true f none' some' = grind (arith, nat_tests)
    other-number-by later false e false f none' some' = later none' some'

-- what is found at or after a place stays found after newer requests, where the numbers from that place on are apart
pub find-after : (n oldest : ℕ) (newer rs : List Request) (r : Request) → IsNumbered (newer ++ rs) → IsNumbered rs
    → find (λ x. x.number == n) rs ≡ Some r → oldest ≤ r.position
    → IsApartFirst (length (newer ++ rs) - oldest) (map (λ (x : Request). x.number) (newer ++ rs))
    → find (λ x. x.number == n) (newer ++ rs) ≡ Some r
find-after n oldest [] rs r numbered numbered' found least apart = found
find-after n oldest (x ∷ newer) rs r numbered numbered' found least apart =
    let below = find-below (λ (y : Request). y.number == n) rs r numbered' found in
    let more : suc (length (newer ++ rs)) - oldest ≡ suc (length (newer ++ rs) - oldest) = omega (arith, length-append newer rs) in
    let apart' = rw more at apart in
    let rest = find-after n oldest newer rs r numbered.1 numbered' found least apart'.1 in
    let other = other-number n x.number _ apart'.0 (has-found n oldest (newer ++ rs) r numbered.1 rest least) in
    rw other rest

-- what is found near the newest is found among as many
pub find-near : (p : Request → Bool) (rs : List Request) (r : Request) (v : ℕ) → IsNumbered rs → find p rs ≡ Some r → length rs ≤ r.position + v
    → find p (take v rs) ≡ Some r
find-near p [] r v numbered found near = cc
find-near p (x ∷ rs) r zero numbered found near = let below = find-below p (x ∷ rs) r numbered found in absurd (omega arith)
find-near p (x ∷ rs) r (suc v) numbered found near = find-near-by (λ f. find-near p rs r v numbered.1 f (omega arith)) (p x) found
  where
    find-near-by : (find p rs ≡ Some r → find p (take v rs) ≡ Some r) → (b : Bool) → cond b (Some x) (find p rs) ≡ Some r → cond b (Some x) (find p (take v rs)) ≡ Some r
    find-near-by later true f = f
    find-near-by later false f = later f
