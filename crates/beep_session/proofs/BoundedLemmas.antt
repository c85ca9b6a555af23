-- What a session holds of what arrived is bounded, by the windows of its lives and by what can be read.
use Rattle.std.proofs.Common.{◌≡◌, ℕ, ◌+◌, ◌*◌, ◌≤◌, ◌==◌, Bool, true, false, if◌then◌else◌, List, [], ◌∷◌, ◌++◌, length, Option, None, Some, refl, sym, ap, ◌∙◌, arith, subst}
use Rattle.std.specs.Option.{option_map_or}
use Rattle.std.specs.List.{AllByRecursion}
use Rattle.std.proofs.Math.Logic.{∥∥₁_elim}
use Rattle.std.proofs.Math.Nat.{suc-mul}
use Rattle.std.proofs.lemmas.Bool.Decides.{nat_tests}
use Rattle.std.proofs.lemmas.List.{length-take}
use Rattle.std.specs.Prelude.{drop}
use denote.Struct.Props.{props}
use Rattle.beep_giving.specs.beep_frame.specs.declared.head.Head.{Head}
use Rattle.beep_giving.specs.beep_frame.specs.declared.limits.TheConstants.{MAX_PAYLOAD}
use Rattle.beep_giving.specs.beep_frame.specs.Frame.{Frame, framed}
use Rattle.beep_giving.specs.beep_frame.specs.Spelling.{header}
use Rattle.beep_giving.specs.beep_frame.specs.Stream.{IsWithin}
use Rattle.beep_giving.specs.beep_frame.specs.Decoding.{DecoderState, WasFed}
use Rattle.beep_giving.specs.beep_frame.specs.Fed.{fed_of}
use Rattle.beep_giving.specs.beep_history.specs.Journal.{Item}
use Rattle.beep_giving.specs.beep_history.specs.declared.journal.Side.{Side}
use Rattle.beep_giving.specs.beep_history.specs.Broken.{under_way}
use Rattle.beep_giving.specs.beep_history.specs.Marks.{Mark}
use Rattle.beep_giving.specs.beep_channel.specs.Held.{Live}
use Rattle.beep_giving.specs.beep_channel.specs.Stands.{Stands}
use Rattle.beep_giving.specs.beep_channel.proofs.BoundedLemmas.{ends-bounded}
use Rattle.beep_giving.specs.beep_channel.proofs.CallLemmas.{bounded-any}
use Rattle.std.proofs.lemmas.Grind.{merely}
use Rattle.beep_giving.specs.beep_lives.specs.Lives.{live_at, IsAscendingFrom}
use Rattle.beep_giving.specs.beep_standing.specs.Standing.{Marks, AreLive}
use Rattle.beep_giving.specs.beep_hearing.specs.declared.ear.Ear.{Ear}
use Rattle.beep_giving.specs.beep_hearing.specs.Hears.{Hears, Waits}
use Rattle.beep_giving.specs.beep_peer.specs.Peering.{AreStanding}
use Rattle.beep_session.specs.Bounded.{octets_held, all_held, frame_held, IsLifeBounded}
use Rattle.beep_session.proofs.ActLemmas.{SomeStanding}

-- ---- one life

stands-bounded : (size : ℕ) (c : Live) (past : List Item) (given taken : List Mark) → Stands size c.held past given taken → IsLifeBounded size c
stands-bounded size c past given taken s = record {
  octets = let b = bounded-any c.held (merely (size, past, given, taken, s)) in let r = s.held.receives.sized in omega (arith, b, r);
  ends = ends-bounded c.held (merely (size, past, given, taken, s));
}

live-bounded : (size : ℕ) (lives journal : List Item) (given taken : Marks) (channels : List Live) → AreLive size lives journal given taken channels
    → (n : ℕ) (c : Live) → live_at n channels ≡ Some c → IsLifeBounded size c
live-bounded size lives journal given taken channels s n c at = of (n == 0) refl
  where
    zero-is : (n : ℕ) → (n == 0) ≡ true → n ≡ 0
    zero-is n e = grind (arith, nat_tests)

    of : (b : Bool) → (n == 0) ≡ b → IsLifeBounded size c
    of true zero = stands-bounded size c _ _ _ (s.zero c (sym (ap (λ (k : ℕ). live_at k channels) (zero-is n zero)) ∙ at))
    of false above = stands-bounded size c _ _ _ (s.above n c above at)

-- ---- all of them

none-below : (least n : ℕ) (channels : List Live) (c : Live) → IsAscendingFrom least channels → live_at n channels ≡ Some c → least ≤ n
none-below least n [] c up at = absurd (let e : None ≡ Some c = at in cc)
none-below least n (first ∷ others) c up at = of (first.held.number == n) refl at (none-below (first.held.number + 1) n others c up.1)
  where
    same : (a b : ℕ) → (a == b) ≡ true → a ≡ b
    same a b e = grind (arith, nat_tests)

    of : (b : Bool) → (first.held.number == n) ≡ b → (if b then Some first else live_at n others) ≡ Some c
        → (live_at n others ≡ Some c → first.held.number + 1 ≤ n) → least ≤ n
    of true e is later = let i = same first.held.number n e in omega (arith, i, up.0)
    of false e is later = let h = later is in omega (arith, h, up.0)

pub all-bounded : (window least : ℕ) (channels : List Live) → IsAscendingFrom least channels → ((n : ℕ) (c : Live) → live_at n channels ≡ Some c → octets_held c ≤ window)
    → all_held channels ≤ length channels * window
all-bounded window least [] up each = omega arith
all-bounded window least (first ∷ others) up each =
    let here = each first.held.number first (of (first.held.number == first.held.number) (itself first.held.number)) in
    let rest = all-bounded window (first.held.number + 1) others up.1 later in
    step (octets_held first) (all_held others) window (length others * window) (length (first ∷ others) * window) here rest (suc-mul (length others) window)
  where
    step : (a b x y t : ℕ) → a ≤ x → b ≤ y → t ≡ y + x → a + b ≤ t
    step a b x y t p q e = omega (arith, p, q, e)

    itself : (a : ℕ) → (a == a) ≡ true
    itself a = grind (arith, nat_tests)

    of : (b : Bool) → b ≡ true → (if b then Some first else live_at first.held.number others) ≡ Some first
    of true e = refl
    of false e = absurd (let h : false ≡ true = e in cc)

    apart : (a b : ℕ) → a + 1 ≤ b → (a == b) ≡ false
    apart a b less = grind (arith, nat_tests)

    later : (n : ℕ) (c : Live) → live_at n others ≡ Some c → octets_held c ≤ window
    later n c at = each n c (ap (λ (b : Bool). if b then Some first else live_at n others) (apart first.held.number n (none-below (first.held.number + 1) n others c up.1 at)) ∙ at)

-- ---- what stands

pub some-bounded : (size : ℕ) (channels : List Live) → SomeStanding size channels → (n : ℕ) (c : Live) → live_at n channels ≡ Some c → IsLifeBounded size c
some-bounded size channels s = live-bounded size s.0 s.1 s.2 s.3 channels s.4

pub standing-bounded : (size : ℕ) (channels : List Live) → AreStanding size channels → (n : ℕ) (c : Live) → live_at n channels ≡ Some c → IsLifeBounded size c
standing-bounded size channels held n c at = record {
  octets = ∥∥₁_elim held (hlevel props) (λ s. (some-bounded size channels s n c at).octets);
  ends = ∥∥₁_elim held (hlevel props) (λ s. (some-bounded size channels s n c at).ends);
}

pub standing-all : (size : ℕ) (channels : List Live) → AreStanding size channels → all_held channels ≤ length channels * size
standing-all size channels held = ∥∥₁_elim held (hlevel props) (λ s.
    all-bounded size 0 channels s.4.ascending (λ n c at. (some-bounded size channels s n c at).octets))

-- ---- the frame under way

-- the payload so far of a frame whose header is known is no longer than a frame may be
known-short : (d : DecoderState) (fed : List ℕ) (frames : List Frame) (rest : List ℕ) (head : Head) → WasFed d (fed_of fed frames rest (Some head)) → d.tracker.max ≡ MAX_PAYLOAD
    → length d.payload.octets ≤ MAX_PAYLOAD
known-short d fed frames rest head w max =
    let keeps = w.keeps in let within = w.tracks.known_within in
    omega (arith, ap length keeps.1, length-take head.size (drop (length (header head)) rest), within, max)

under-short : (d : DecoderState) (fed : List ℕ) (frames : List Frame) (rest : List ℕ) (known : Option Head) → WasFed d (fed_of fed frames rest known) → d.tracker.max ≡ MAX_PAYLOAD
    → option_map_or (λ head. length d.payload.octets) known 0 ≤ MAX_PAYLOAD
under-short d fed frames rest None w max = omega arith
under-short d fed frames rest (Some head) w max = known-short d fed frames rest head w max

pub hears-short : (fed rest : List ℕ) (journal : List Item) (ear : Ear) → Hears fed rest journal ear → frame_held ear ≤ MAX_PAYLOAD
hears-short fed rest journal ear h =
    subst (λ (o : Option Head). option_map_or (λ head. length ear.decoder.payload.octets) o 0 ≤ MAX_PAYLOAD) (sym h.under)
    (under-short ear.decoder fed h.is_fed.frames rest (under_way Side.Received journal) h.is_fed.was_fed h.is_fed.max)

-- the last of some frames
last-of : (P : Frame → Type 0) (xs : List Frame) (x : Frame) → AllByRecursion P (xs ++ x ∷ []) → P x
last-of P [] x all = all.0
last-of P (y ∷ xs) x all = last-of P xs x all.1

pub waits-short : (size : ℕ) (fed : List ℕ) (journal : List Item) (given taken : Marks) (head : Head) (payload : List ℕ) (ear : Ear) (channels : List Live)
    → Waits size fed journal given taken head payload ear channels → frame_held ear ≤ MAX_PAYLOAD
waits-short size fed journal given taken head payload ear channels w =
    let keeps = w.was_fed.keeps w.whole w.frames head payload refl in
    let within : head.size ≤ ear.decoder.tracker.max = last-of (IsWithin ear.decoder.tracker.max) w.frames (framed head payload) w.was_fed.tracks.within in
    subst (λ (o : Option Head). option_map_or (λ head. length ear.decoder.payload.octets) o 0 ≤ MAX_PAYLOAD) (sym w.under)
    (omega (arith, ap length keeps.1, w.is_frame.1, within, w.max))

-- ---- together

pub sum-bounded : (a b c x y z : ℕ) → a ≤ x → b ≤ y → c ≤ z → a + b + c ≤ x + y + z
sum-bounded a b c x y z p q r = omega (arith, p, q, r)
