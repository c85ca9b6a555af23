-- What arrives leaves a session lawful.
use Rattle.std.proofs.Common.{◌≡◌, ℕ, ◌≤◌, ◌==◌, Bool, true, false, ◌||◌, if◌then◌else◌, List, [], ◌∷◌, ◌++◌, append-nil, refl, sym, ap, ◌∙◌, subst, arith}
use Rattle.std.specs.List.{list_any}
use Rattle.std.proofs.lemmas.Bool.Decides.{nat_tests}
use Rattle.std.proofs.lemmas.List.{append_cancel_left}
use Rattle.beep_giving.specs.beep_frame.specs.declared.kind.Kind.{Kind}
use Rattle.beep_giving.specs.beep_history.specs.declared.journal.Side.{Side}
use Rattle.beep_giving.specs.beep_history.specs.Journal.{Item, began, passed, told}
use Rattle.beep_giving.specs.beep_history.specs.Marks.{marks}
use Rattle.beep_giving.specs.beep_journal.specs.Zero.{zero_history}
use Rattle.beep_giving.specs.beep_journal.specs.Lives.{Event as Moment, is_live}
use Rattle.beep_giving.specs.beep_journal.specs.Life.{is_there}
use Rattle.beep_giving.specs.beep_journal.specs.Broken.{none_tunes}
use Rattle.beep_giving.specs.beep_exchange.specs.Given.{ends_reply}
use Rattle.beep_giving.specs.beep_channel.specs.Held.{Live}
use Rattle.beep_giving.specs.beep_channel.specs.Stands.{ends_of}
use Rattle.beep_giving.specs.beep_standing.specs.Standing.{Marks, AreLiveBy}
use Rattle.beep_giving.specs.beep_spoken.specs.Spoken.{kinds_of}
use Rattle.beep_giving.specs.beep_hearing.specs.Hears.{Join, MayJoin, ends_zero, SameAbove}
use Rattle.beep_giving.specs.beep_lawful.specs.declared.terms.Terms.{Terms}
use Rattle.beep_giving.specs.beep_lawful.specs.Lawful.{IsLawful}
use Rattle.beep_giving.specs.beep_management.specs.Managed.{Managed}
use Rattle.beep_giving.specs.beep_management.specs.Manages.{Manages}
use Rattle.beep_giving.specs.beep_upright.specs.Turns.{kinds_at}
use Rattle.beep_giving.specs.beep_upright.specs.Upright.{asked_at, AreReady, IsUpright}
use Rattle.beep_giving.specs.beep_upright.proofs.ReadyLemmas.{less-asked}
use Rattle.beep_giving.specs.beep_upright.proofs.StillLemmas.{header-heard, part-heard, seq-passes}
use Rattle.beep_giving.specs.beep_peer.specs.declared.peer.Peer.{Peer}
use Rattle.beep_giving.specs.beep_peer.specs.Peering.{is_over}
use Rattle.beep_giving.specs.beep_peer.specs.Lawfully.{IsLawfulPeer}
use Rattle.beep_giving.specs.beep_peer.proofs.GainLemmas.{gained-events, gained-managed}
use Rattle.beep_giving.specs.beep_peer.proofs.KindsLemmas.{kinds-by, asked-by, asked-none}
use Rattle.beep_session.specs.declared.event.Event.{Event}
use Rattle.beep_session.specs.Feeds.{Feeds}
use Rattle.beep_session.specs.Lawfully.{FeedsLawfully}

none-first : (a b : Bool) → (a || b) ≡ false → a ≡ false
none-first true b e = cc
none-first false b e = refl

none-later : (a b : Bool) → (a || b) ≡ false → b ≡ false
none-later true b e = cc
none-later false b e = e

-- a session that goes on isn't released
pub not-released : (peer : Peer) → is_over peer ≡ false → peer.released ≡ false
not-released peer going = none-first peer.released _ going

-- ---- items that arrive

module _ (terms : Terms) (kinds : List Kind) (asks : ℕ → ℕ) (m : Managed) where
  item-ready : (item : Item) (journal : List Item) → MayJoin item journal → ends_zero item ≡ false → (given : Marks) → Manages terms.window journal given m
      → AreReady terms journal kinds asks m → AreReady terms (item ∷ journal) kinds asks m
  item-ready (began side head) journal j quiet given x r =
      subst (λ (by : Side). AreReady terms (began by head ∷ journal) kinds asks m) (sym j.0) (header-heard terms journal kinds asks m x.is.theirs r head)
  item-ready (passed side head payload) journal j quiet given x r =
      subst (λ (by : Side). AreReady terms (passed by head payload ∷ journal) kinds asks m) (sym j.0) (part-heard terms journal kinds asks m x.is.theirs r head payload quiet)
  item-ready (told side seq) journal j quiet given x r = seq-passes terms journal kinds asks m x.is.theirs r side seq

  gained-ready : (gained journal : List Item) → Join gained journal → list_any ends_zero gained ≡ false → (given : Marks) → Manages terms.window journal given m
      → AreReady terms journal kinds asks m → AreReady terms (gained ++ journal) kinds asks m
  gained-ready [] journal j quiet given x r = r
  gained-ready (item ∷ gained) journal j quiet given x r =
      item-ready item (gained ++ journal) j.0 (none-first (ends_zero item) _ quiet) given
      (gained-managed terms.window given m gained journal (none-later (ends_zero item) _ quiet) x)
      (gained-ready gained journal j.1 (none-later (ends_zero item) _ quiet) given x r)

pub received-lawful : (terms : Terms) (item : Item) (journal : List Item) → MayJoin item journal → IsLawful terms none_tunes journal → IsLawful terms none_tunes (item ∷ journal)
received-lawful terms (began side head) journal j lawful = subst (λ (by : Side). IsLawful terms none_tunes (began by head ∷ journal)) (sym j.0) lawful
received-lawful terms (passed side head payload) journal j lawful = subst (λ (by : Side). IsLawful terms none_tunes (passed by head payload ∷ journal)) (sym j.0) lawful
received-lawful terms (told side seq) journal j lawful = subst (λ (by : Side). IsLawful terms none_tunes (told by seq ∷ journal)) (sym j.0) lawful

gained-lawful : (terms : Terms) (gained journal : List Item) → Join gained journal → IsLawful terms none_tunes journal → IsLawful terms none_tunes (gained ++ journal)
gained-lawful terms [] journal j lawful = lawful
gained-lawful terms (item ∷ gained) journal j lawful = received-lawful terms item (gained ++ journal) j.0 (gained-lawful terms gained journal j.1 lawful)

-- nothing more is sent
item-marks : (item : Item) (journal : List Item) → MayJoin item journal → marks Side.Sent (zero_history (item ∷ journal)) ≡ marks Side.Sent (zero_history journal)
item-marks (began side head) journal j = of (head.channel == 0)
  where
    of : (z : Bool) → marks Side.Sent (if z then began side head ∷ zero_history journal else zero_history journal) ≡ marks Side.Sent (zero_history journal)
    of true = refl
    of false = refl
item-marks (told side seq) journal j = of (seq.channel == 0)
  where
    of : (z : Bool) → marks Side.Sent (if z then told side seq ∷ zero_history journal else zero_history journal) ≡ marks Side.Sent (zero_history journal)
    of true = refl
    of false = refl
item-marks (passed side head payload) journal j =
    subst (λ (by : Side). marks Side.Sent (zero_history (passed by head payload ∷ journal)) ≡ marks Side.Sent (zero_history journal)) (sym j.0) (of (head.channel == 0))
  where
    of : (z : Bool) → marks Side.Sent (if z then passed Side.Received head payload ∷ zero_history journal else zero_history journal) ≡ marks Side.Sent (zero_history journal)
    of true = append-nil (marks Side.Sent (zero_history journal))
    of false = refl

gained-marks : (gained journal : List Item) → Join gained journal → marks Side.Sent (zero_history (gained ++ journal)) ≡ marks Side.Sent (zero_history journal)
gained-marks [] journal j = refl
gained-marks (item ∷ gained) journal j = item-marks item (gained ++ journal) j.0 ∙ gained-marks gained journal j.1

turned : (n : ℕ) → (n == 0) ≡ false → (0 == n) ≡ false
turned n e = grind (arith, nat_tests)

-- the channels that stand after it ask as much, and have the same to say
module _ (terms : Terms) (journal gained : List Item) (given taken taken_now : Marks) (old new : List Live) (m : Managed) (j : Join gained journal)
    (quiet : list_any ends_zero gained ≡ false) (same : SameAbove taken taken_now) (s : AreLiveBy terms.window journal given taken old)
    (t : AreLiveBy terms.window (gained ++ journal) given taken_now new) (x : Manages terms.window journal given m) where
  kinds-same : kinds_at 0 new ≡ kinds_at 0 old
  kinds-same =
      append_cancel_left (kinds_of (marks Side.Sent (zero_history journal))) (kinds_at 0 new) (kinds_at 0 old)
      (ap (λ ms. kinds_of ms ++ kinds_at 0 new) (sym (gained-marks gained journal j))
      ∙ sym (kinds-by terms.window (gained ++ journal) (gained ++ journal) given taken_now new t) ∙ kinds-by terms.window journal journal given taken old s)

  there-same : (n : ℕ) → is_there n (gained ++ journal) ≡ is_there n journal
  there-same n = ap (λ (es : List Moment). n == 0 || is_live n es) (gained-events gained journal quiet)

  asks-same : (n : ℕ) → (n == 0) ≡ false → asked_at new n ≤ asked_at old n
  asks-same n above = of (is_there n journal) refl
    where
      of : (b : Bool) → is_there n journal ≡ b → asked_at new n ≤ asked_at old n
      of true there =
          let a = asked-by terms.window journal journal given taken old s n above there in
          let b = asked-by terms.window (gained ++ journal) (gained ++ journal) given taken_now new t n above (there-same n ∙ there) in
          let c = ap (ends_of ends_reply) (same n (turned n above)) in omega (arith, a, b, c)
      of false none = let a = asked-none terms.window (gained ++ journal) (gained ++ journal) given taken_now new t n (there-same n ∙ none) in omega (arith, a)

  gained-upright : IsUpright terms journal old m → IsUpright terms (gained ++ journal) new m
  gained-upright u =
      less-asked terms (gained ++ journal) (kinds_at 0 new) (asked_at old) (asked_at new) m asks-same
      (subst (λ (ks : List Kind). AreReady terms (gained ++ journal) ks (asked_at old) m) (sym kinds-same)
      (gained-ready terms (kinds_at 0 old) (asked_at old) m gained journal j quiet given x u))

module _ (terms : Terms) (octets fed rest : List ℕ) (journal : List Item) (given taken : Marks) (old new : Peer) (s : IsLawfulPeer terms fed rest journal given taken old)
    (same : new.management ≡ old.management) where
  now : (gained : List Item) → IsUpright terms (gained ++ journal) new.lives old.management → IsUpright terms (gained ++ journal) new.lives new.management
  now gained u = subst (λ (m : Managed). IsUpright terms (gained ++ journal) new.lives m) (sym same) u

  pub feeds-lawfully : (event : Event) → Feeds event terms.window octets fed journal given taken new → FeedsLawfully event terms octets fed journal given taken new
  feeds-lawfully Event.More f = record {
    gained = f.gained;
    gains = f.gains;
    lawful = record {
      stands = f.gains.stands;
      upright = now f.gained (gained-upright terms journal f.gained given taken f.gains.taken_now old.lives new.lives old.management f.gains.join f.gains.quiet f.gains.same
          s.stands.holds.live f.gains.stands.holds.live s.stands.holds.manages s.upright);
      lawful = gained-lawful terms f.gained journal f.gains.join s.lawful;
    };
  }
  feeds-lawfully (Event.Arrived number) f = record {
    gained = passed Side.Received f.head f.payload ∷ f.gained;
    gains = f.gains;
    lawful = record {
      stands = f.gains.stands;
      upright = now (passed Side.Received f.head f.payload ∷ f.gained) (gained-upright terms journal (passed Side.Received f.head f.payload ∷ f.gained) given taken f.gains.taken_now
          old.lives new.lives old.management f.gains.join f.gains.quiet f.gains.same s.stands.holds.live f.gains.stands.holds.live s.stands.holds.manages s.upright);
      lawful = gained-lawful terms (passed Side.Received f.head f.payload ∷ f.gained) journal f.gains.join s.lawful;
    };
  }
  feeds-lawfully Event.Zero f = record {
    zero = f;
    upright = now f.gained (gained-upright terms journal f.gained given taken f.taken_now old.lives new.lives old.management f.join f.quiet f.same
        s.stands.holds.live f.waits.waits.live s.stands.holds.manages s.upright);
    lawful = gained-lawful terms f.gained journal f.join s.lawful;
  }
  feeds-lawfully Event.Released f = tt
  feeds-lawfully (Event.Broken rule place) f = tt
  feeds-lawfully Event.NoMemory f = record {
    gained = f.gained;
    gains = f.gains;
    lawful = record {
      stands = f.gains.stands;
      upright = now f.gained (gained-upright terms journal f.gained given taken f.gains.taken_now old.lives new.lives old.management f.gains.join f.gains.quiet f.gains.same
          s.stands.holds.live f.gains.stands.holds.live s.stands.holds.manages s.upright);
      lawful = gained-lawful terms f.gained journal f.gains.join s.lawful;
    };
  }
