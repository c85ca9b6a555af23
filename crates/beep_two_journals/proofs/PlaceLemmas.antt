-- Where no rule was broken, the p-th reply of a side answers the p-th request of the other.
use Rattle.std.proofs.Common.{◌≡◌, ℕ, ◌<◌, true, List, length, Some, sym, ap, ◌∙◌, arith}
use Rattle.beep_frame.specs.declared.head.Head.{Head}
use Rattle.beep_history.specs.declared.journal.Side.{Side}
use Rattle.beep_frame.specs.Frame.{is_reply}
use Rattle.beep_history.specs.Journal.{Item, other}
use Rattle.beep_history.specs.Marks.{frames, Request, requests, latest, is_whole}
use Rattle.beep_history.specs.Broken.{under_way, KeepsExchangeRules}
use Rattle.beep_history.proofs.PassedLemmas.{sound}
use Rattle.beep_history.specs.Moments.{replies_ended}
use Rattle.beep_history.proofs.RepliesLemmas.{same-threshold, answered}

-- a reply under way answers the request at the place of its reply, which has begun and is whole
pub record InPlace (asker : Side) (past : List Item) (head : Head) : Type 0 where
  pub request : Request
  pub found : latest asker head.msgno past ≡ Some request
  pub at : request.position ≡ replies_ended (frames (other asker) past)
  pub asked : replies_ended (frames (other asker) past) < length (requests asker past)
  pub whole : is_whole asker (replies_ended (frames (other asker) past)) past ≡ true

pub in_place : (asker : Side) (past : List Item) (head : Head) → KeepsExchangeRules past → under_way (other asker) past ≡ Some head → is_reply head.kind ≡ true
    → InPlace asker past head
in_place asker past head u under r =
    let s = sound asker past u in
    let d = s.due head under r in
    let oldest : s.oldest ≡ replies_ended (frames (other asker) past) = same-threshold _ _ (λ p. sym (s.answered p) ∙ answered asker past u p) in
    record {
      request = d.request;
      found = d.found;
      at = d.at ∙ oldest;
      asked = omega (arith, d.waits, oldest);
      whole = ap (λ (p : ℕ). is_whole asker p past) (sym oldest) ∙ d.whole;
    }
