-- How many channels stand as a request comes.
use Rattle.std.proofs.Common.{◌≡◌, ◌+◌, true, List, [], ◌∷◌, length, map, sym, ap, ◌∙◌, arith, length-append}
use Rattle.std.specs.Prelude.{IsSome}
use Rattle.std.specs.List.{list_all}
use Rattle.std.proofs.lemmas.List.{length-map}
use Rattle.std.proofs.lemmas.List.Folds.{list_all-map}
use Rattle.beep_giving.specs.beep_journal.specs.declared.role.Role.{Role}
use Rattle.beep_giving.specs.beep_channel.specs.Held.{Live}
use Rattle.beep_giving.specs.beep_lives.specs.Lives.{live_at, numbers}
use Rattle.beep_giving.specs.beep_decide.specs.declared.decision.Offer.{Offer}
use Rattle.beep_giving.specs.beep_decide.specs.Decide.{PlainOffer, PlainStanding}
use Rattle.beep_giving.specs.beep_decide.specs.Plain.{plain_offer}
use Rattle.beep_giving.specs.beep_management.specs.Managed.{numbers_of}
use Rattle.beep_giving.specs.beep_peer.specs.declared.peer.Peer.{Peer}
use Rattle.beep_giving.specs.beep_peer.specs.Standing.{rest_of}
use Rattle.beep_giving.specs.beep_answering.specs.Sent.{is_uri}
use Rattle.beep_giving.specs.beep_peer.specs.Standing.{standing_of}

-- ---- how many stand

first-there : (channels : List Live) → IsSome (live_at 0 channels) → length (rest_of (numbers channels)) + 1 ≡ length channels
first-there [] there = absurd (cc there)
first-there (channel ∷ channels) there = omega (arith, length-map channels (λ (c : Live). c.held.number))

-- all but channel zero
pub stand-room : (role : Role) (offers : List PlainOffer) (peer : Peer) (standing : PlainStanding) → standing ≡ standing_of role offers peer
    → IsSome (live_at 0 peer.lives) → length standing.live + length standing.starting + 1
    ≡ length peer.lives + (length peer.management.starting + length peer.management.granted)
stand-room role offers peer standing are there =
    let m = peer.management in
    omega (
      arith,
      first-there peer.lives there,
      ap (λ (s : PlainStanding). length s.live) are,
      ap (λ (s : PlainStanding). length s.starting) are,
      length-append (numbers_of m.starting) (numbers_of m.granted),
      length-map m.starting (λ (c : Live). c.held.number),
      length-map m.granted (λ (c : Live). c.held.number),
    )

-- the offers of the code have the URIs of the offers that they stand for
pub uris-plain : (offers : List Offer) → list_all (λ offer. is_uri offer.uri) (map plain_offer offers) ≡ true
    → list_all (λ offer. is_uri offer.uri) offers ≡ true
uris-plain offers are = sym (list_all-map (λ (offer : PlainOffer). is_uri offer.uri) plain_offer offers) ∙ are
