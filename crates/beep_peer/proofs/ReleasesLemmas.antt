-- A release that isn't refused may be asked.
use Rattle.std.proofs.Common.{◌≡◌, ℕ, suc, ◌+◌, ◌-◌, ◌<◌, ◌≤◌, ◌==◌, nat_lt, Bool, true, false, not, ◌&&◌, if◌then◌else◌, List, [], ◌∷◌, ◌++◌, length, map, filter, Option, Some, None, is_some, refl, sym, ap, ◌∙◌, arith}
use Rattle.std.specs.List.{list_any}
use Rattle.std.specs.Option.{option_map_or}
use Rattle.std.proofs.lemmas.Bool.Decides.{nat_tests}
use Rattle.beep_upright.specs.beep_frame.specs.declared.head.Head.{Head}
use Rattle.beep_upright.specs.beep_frame.specs.Frame.{is_msg}
use Rattle.beep_upright.specs.beep_history.specs.declared.journal.Side.{Side}
use Rattle.beep_upright.specs.beep_history.specs.Journal.{Item}
use Rattle.beep_upright.specs.beep_history.specs.Marks.{Request, requests, waiting, is_answered, previous}
use Rattle.beep_upright.specs.beep_history.specs.Broken.{under_way}
use Rattle.beep_upright.specs.beep_history.proofs.ListsLemmas.{IsNumbered, filter-agree}
use Rattle.beep_upright.specs.beep_history.proofs.SoundLemmas.{Sound, is_open, requests-numbered}
use Rattle.beep_upright.specs.beep_history.proofs.PassedLemmas.{sound}
use Rattle.beep_upright.specs.beep_exchange.specs.Kept.{Kept as KeptOf}
use Rattle.beep_upright.specs.beep_outbox.specs.Queue.{Message}
use Rattle.beep_upright.specs.beep_journal.specs.Zero.{zero_history, asked}
use Rattle.beep_upright.specs.beep_channel.specs.Held.{Live}
use Rattle.beep_upright.specs.beep_channel.specs.Fits.{asks as asks_in, as_number}
use Rattle.beep_upright.specs.beep_channel.specs.Sums.{is_partly}
use Rattle.beep_upright.specs.beep_channel.specs.Stands.{Stands}
use Rattle.beep_upright.specs.beep_lives.specs.Lives.{live_at, numbers}
use Rattle.beep_upright.specs.beep_standing.specs.Standing.{Marks}
use Rattle.beep_upright.specs.beep_management.specs.Managed.{Managed, lowest, numbers_of}
use Rattle.beep_upright.specs.Turns.{kinds_in}
use Rattle.beep_upright.proofs.MoreLemmas.{request_kinds}
use Rattle.beep_upright.proofs.KindsLemmas.{count-requests}
use Rattle.beep_peer.specs.declared.refusals.ReleaseError.{ReleaseError}
use Rattle.beep_peer.specs.declared.peer.Peer.{Peer}
use Rattle.beep_peer.specs.Peering.{Holds}
use Rattle.beep_peer.specs.Standing.{rest_of}
use Rattle.beep_peer.specs.Acts.{first_asked_of, asked_of, either_cause, numbered_cause, lowest_used, release_refusal}
use Rattle.beep_peer.specs.Asking.{MayRelease}
use Rattle.beep_peer.proofs.HeardLemmas.{live-rest}
use Rattle.beep_peer.proofs.MayLemmas.{none-asked}

-- ---- no own request waits

-- those from a position on are all but so many
from-on : (x : ℕ) (rs : List Request) → IsNumbered rs → length rs ≤ length (filter (λ (r : Request). not (nat_lt r.position x)) rs) + x
from-on x [] numbered = omega arith
from-on x (r ∷ rs) numbered = of (nat_lt r.position x) refl (from-on x rs numbered.1)
  where
    below : (p n x : ℕ) → p ≡ n → nat_lt p x ≡ true → n < x
    below p n x e f = grind (arith, nat_tests)

    of : (b : Bool) → nat_lt r.position x ≡ b → length rs ≤ length (filter (λ (r : Request). not (nat_lt r.position x)) rs) + x
        → suc (length rs) ≤ length (if not b then r ∷ filter (λ (r : Request). not (nat_lt r.position x)) rs else filter (λ (r : Request). not (nat_lt r.position x)) rs) + x
    of true e rest = let less = below r.position (length rs) x numbered.0 e in omega (arith, less)
    of false e rest = omega (arith, rest)

shifted : (p x k : ℕ) → nat_lt (p + k) (x + k) ≡ nat_lt p x
shifted p x k = grind (arith, nat_tests)

queue-asks : (queue : List Message) → asks_in queue ≡ length (request_kinds (map (λ (m : Message). m.tag.kind) queue))
queue-asks [] = refl
queue-asks (m ∷ queue) = of (is_msg m.tag.kind) (queue-asks queue)
  where
    of : (b : Bool) → asks_in queue ≡ length (request_kinds (map (λ (m : Message). m.tag.kind) queue))
        → (if b then asks_in queue + 1 else asks_in queue)
        ≡ length (if b then m.tag.kind ∷ request_kinds (map (λ (m : Message). m.tag.kind) queue) else request_kinds (map (λ (m : Message). m.tag.kind) queue))
    of true e = omega (arith, e)
    of false e = e

module _ (size : ℕ) (journal : List Item) (given taken : Marks) (channels : List Live) (m : Managed) (h : Holds size journal given taken channels m)
    (c : Live) (at : live_at 0 channels ≡ Some c) (none : c.held.life.given.asked ≡ 0) where
  t : Stands size c.held (zero_history journal) (given 0) (taken 0)
  t = h.live.zero c at

  sent : Sound Side.Sent (zero_history journal)
  sent = sound Side.Sent (zero_history journal) t.held.exchange.unbroken

  abbrev all : ℕ
  all = length (asked Side.Sent (zero_history journal))

  waits : length (waiting Side.Sent (zero_history journal)) ≡ 0
  waits =
      let is : c.held.life.sent.waiting ≡ length (waiting Side.Sent (zero_history journal)) = ap (λ (k : KeptOf). k.waiting) t.held.exchange.sent in
      let a = t.held.sums.asked in let b = t.held.sums.replied in omega (arith, none, is, a, b)

  count : length (requests Side.Sent (zero_history journal)) + length m.mine.requests ≤ length (waiting Side.Sent (zero_history journal)) + all
  count =
      let within : length m.mine.requests ≤ all = h.manages.is.mine.within in
      let x : all ≡ (all - length m.mine.requests) + length m.mine.requests = omega (arith, within) in
      let same : length (waiting Side.Sent (zero_history journal))
      ≡ length (filter (λ (r : Request). not (nat_lt r.position (all - length m.mine.requests))) (requests Side.Sent (zero_history journal))) =
      ap length (filter-agree (λ (r : Request). not (is_answered Side.Sent r.position (zero_history journal))) (λ (r : Request). not (nat_lt r.position (all - length m.mine.requests)))
      (requests Side.Sent (zero_history journal)) (λ r. ap not (h.manages.is.mine.answered r.position ∙ ap (nat_lt (r.position + length m.mine.requests)) x
      ∙ shifted r.position (all - length m.mine.requests) (length m.mine.requests)))) in
      let few = from-on (all - length m.mine.requests) (requests Side.Sent (zero_history journal)) (requests-numbered Side.Sent (zero_history journal)) in
      omega (arith, few, same, within)

  idle : under_way Side.Sent (zero_history journal) ≡ None
  idle = sym (ap (λ (k : KeptOf). k.under_way) t.held.exchange.sent) ∙ t.held.fits.idle

  open-is : is_open (under_way Side.Sent (zero_history journal)) (previous Side.Sent (zero_history journal)) ≡ is_partly c.held.life.sent
  open-is =
      ap (λ (o : Option Head). is_open o (previous Side.Sent (zero_history journal))) idle
      ∙ ap (λ (o : Option Head). option_map_or (λ (head : Head). is_msg head.kind && head.more) o false) (sym (ap (λ (k : KeptOf). k.before) t.held.exchange.sent))

  -- as many have begun as have wholly passed, and one more where one has passed in part
  began-all : (b : Bool) → is_partly c.held.life.sent ≡ b → all + (if b then 1 else 0) ≤ length (requests Side.Sent (zero_history journal))
  began-all b is = of all (length (requests Side.Sent (zero_history journal))) (if b then 1 else 0) h.manages.is.mine.begun (λ p. sym (h.manages.is.mine.whole p) ∙ sent.whole p
      ∙ ap (λ (x : Bool). nat_lt (p + (if x then 1 else 0)) (length (requests Side.Sent (zero_history journal)))) (open-is ∙ is))
    where
      of : (a r o : ℕ) → 0 < a → ((p : ℕ) → nat_lt p a ≡ nat_lt (p + o) r) → a + o ≤ r
      of a r o some same = let x : nat_lt (a - 1) a ≡ nat_lt ((a - 1) + o) r = same (a - 1) in grind (arith, nat_tests)

  pub no-mine : length m.mine.requests ≡ 0
  no-mine = of (is_partly c.held.life.sent) refl
    where
      of : (b : Bool) → is_partly c.held.life.sent ≡ b → length m.mine.requests ≡ 0
      of true is = let b = began-all true is in omega (arith, b, count, waits)
      of false is = let b = began-all false is in omega (arith, b, count, waits)

  pub no-acts : length m.acts.requests ≡ 0
  no-acts = of (is_partly c.held.life.sent) refl
    where
      kept : asks_in c.held.queue ≡ length m.acts.requests
      kept =
          queue-asks c.held.queue ∙ ap (λ ks. length (request_kinds ks)) (sym (ap kinds_in at))
          ∙ count-requests size journal journal given taken channels m h.manages.spoken h.manages.prepared h.live h.manages.is

      of : (b : Bool) → is_partly c.held.life.sent ≡ b → length m.acts.requests ≡ 0
      of true is = absurd (let b = began-all true is in omega (arith, b, count, waits))
      of false is =
          let a = t.held.sums.asked in let r = t.held.sums.replied in
          let new : asks_in c.held.queue - as_number (is_partly c.held.life.sent) ≡ asks_in c.held.queue - 0 = ap (λ (x : Bool). asks_in c.held.queue - as_number x) is in
          omega (arith, none, a, r, new, kept)

-- ---- the refusal

both-none : {E : Type 0} (a b : Option E) → either_cause a b ≡ None → (a ≡ None) × (b ≡ None)
both-none None b e = (refl, e)
both-none (Some x) b e = cc

unnumbered : {E : Type 0} (cause : ℕ → E) (o : Option ℕ) → numbered_cause cause o ≡ None → o ≡ None
unnumbered cause None e = refl
unnumbered cause (Some n) e = cc

no-number : (ns : List ℕ) → lowest ns ≡ None → ns ≡ []
no-number [] e = refl
no-number (n ∷ ns) e = cc

none-first : (xs ys : List ℕ) → xs ++ ys ≡ [] → xs ≡ []
none-first [] ys e = refl
none-first (x ∷ xs) ys e = cc

none-later : (xs ys : List ℕ) → xs ++ ys ≡ [] → ys ≡ []
none-later [] ys e = e
none-later (x ∷ xs) ys e = cc

no-channel : (channels : List Live) → numbers_of channels ≡ [] → channels ≡ []
no-channel [] e = refl
no-channel (c ∷ channels) e = cc

pub may-release : (size : ℕ) (journal : List Item) (given taken : Marks) (peer : Peer) → Holds size journal given taken peer.lives peer.management
    → release_refusal peer ≡ None → MayRelease peer false
may-release size journal given taken peer h none = of (live_at 0 peer.lives) refl
  where
    rest : either_cause (numbered_cause ReleaseError.Busy (lowest_used peer)) (numbered_cause ReleaseError.Unanswered (first_asked_of (live_at 0 peer.lives))) ≡ None
    rest = (both-none _ (either_cause (numbered_cause ReleaseError.Busy (lowest_used peer)) (numbered_cause ReleaseError.Unanswered (first_asked_of (live_at 0 peer.lives)))) none).1

    two : (numbered_cause ReleaseError.Busy (lowest_used peer) ≡ None) × (numbered_cause ReleaseError.Unanswered (first_asked_of (live_at 0 peer.lives)) ≡ None)
    two = both-none (numbered_cause ReleaseError.Busy (lowest_used peer)) (numbered_cause ReleaseError.Unanswered (first_asked_of (live_at 0 peer.lives))) rest

    unused : rest_of (numbers peer.lives) ++ (numbers_of peer.management.starting ++ numbers_of peer.management.granted) ≡ []
    unused = no-number _ (unnumbered ReleaseError.Busy (lowest_used peer) two.0)

    later : numbers_of peer.management.starting ++ numbers_of peer.management.granted ≡ []
    later = none-later (rest_of (numbers peer.lives)) _ unused

    asked-none : asked_of (live_at 0 peer.lives) ≡ 0
    asked-none = none-asked (live_at 0 peer.lives) (unnumbered ReleaseError.Unanswered (first_asked_of (live_at 0 peer.lives)) two.1)

    of : (o : Option Live) → live_at 0 peer.lives ≡ o → MayRelease peer false
    of None at = absurd (let e : true ≡ false = h.live.there 0 ∙ ap (λ (o : Option Live). is_some o) at in cc)
    of (Some c) at = record {
      unnamed = refl;
      mine = no-mine size journal given taken peer.lives peer.management h c at (sym (ap asked_of at) ∙ asked-none);
      acts = no-acts size journal given taken peer.lives peer.management h c at (sym (ap asked_of at) ∙ asked-none);
      starting = no-channel peer.management.starting (none-first (numbers_of peer.management.starting) _ later);
      granted = no-channel peer.management.granted (none-later (numbers_of peer.management.starting) _ later);
      none = λ n above. live-rest peer.lives h.live.ascending (sym (h.live.there 0)) n above
          ∙ ap (λ (ns : List ℕ). list_any (λ (k : ℕ). k == n) ns) (none-first (rest_of (numbers peer.lives)) _ unused);
    }
