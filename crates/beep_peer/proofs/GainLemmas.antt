-- What is kept of channel zero, over items of which none ends a message of it.
use Rattle.std.proofs.Common.{◌≡◌, ℕ, ◌+◌, ◌≤◌, ◌==◌, Bool, true, false, ◌||◌, List, [], ◌∷◌, ◌++◌, length, refl, sym, ap, ◌∙◌, subst}
use Rattle.std.specs.List.{list_any}
use Rattle.beep_upright.specs.beep_history.specs.Journal.{Item, began, passed, told}
use Rattle.beep_upright.specs.beep_journal.specs.Zero.{zero_history, zero_events, events, channel_of}
use Rattle.beep_upright.specs.beep_journal.specs.Lives.{Event, is_live, has_release}
use Rattle.beep_upright.specs.beep_journal.specs.Life.{is_released}
use Rattle.beep_upright.specs.beep_channel.specs.Held.{Live}
use Rattle.beep_upright.specs.beep_turns.specs.declared.turns.TheConstants.{MAX_CHANNELS}
use Rattle.beep_upright.specs.beep_standing.specs.Standing.{Marks, AreLiveBy}
use Rattle.beep_hearing.specs.Hears.{ends_zero}
use Rattle.beep_upright.specs.beep_asked.proofs.LawsLemmas.{part-events}
use Rattle.beep_upright.specs.beep_management.specs.Managed.{Managed}
use Rattle.beep_upright.specs.beep_management.specs.Manages.{Manages}
use Rattle.beep_upright.specs.beep_management.proofs.ItemLemmas.{header-stays, seq-stays, above-stays, part-stays}
use Rattle.beep_peer.specs.Peering.{AreFew}
use Rattle.beep_peer.proofs.CountLemmas.{same-count}

-- ---- one item

module _ (journal : List Item) where
  events-if : (b : Bool) (item : Item) → (channel_of item == 0) ≡ b → (b ≡ true → zero_events (item ∷ zero_history journal) ≡ zero_events (zero_history journal))
      → events (item ∷ journal) ≡ events journal
  events-if true item e same = rw e (same refl)
  events-if false item e same = rw e refl

  pub quiet-events : (item : Item) → ends_zero item ≡ false → events (item ∷ journal) ≡ events journal
  quiet-events (began side head) quiet = events-if (head.channel == 0) (began side head) refl (λ e. refl)
  quiet-events (told side seq) quiet = events-if (seq.channel == 0) (told side seq) refl (λ e. refl)
  quiet-events (passed side head payload) quiet = of (head.channel == 0) refl head.more refl
    where
      of : (b : Bool) → (head.channel == 0) ≡ b → (m : Bool) → head.more ≡ m → events (passed side head payload ∷ journal) ≡ events journal
      of true e true part = events-if true (passed side head payload) e (λ x. part-events head payload (zero_history journal) part side)
      of true e false last = absurd (let h : true ≡ false = sym (rw (e, last) refl) ∙ quiet in cc)
      of false e m part = events-if false (passed side head payload) e (λ x. absurd (let h : false ≡ true = x in cc))

  module _ (size : ℕ) (given : Marks) (m : Managed) where
    pub quiet-managed : (item : Item) → ends_zero item ≡ false → Manages size journal given m → Manages size (item ∷ journal) given m
    quiet-managed (began side head) quiet s = header-stays size journal given m side head s
    quiet-managed (told side seq) quiet s = seq-stays size journal given m side seq s
    quiet-managed (passed side head payload) quiet s = of (head.channel == 0) refl head.more refl
      where
        of : (b : Bool) → (head.channel == 0) ≡ b → (more : Bool) → head.more ≡ more → Manages size (passed side head payload ∷ journal) given m
        of true e true part = part-stays size journal given m side head payload part s
        of true e false last = absurd (let h : true ≡ false = sym (rw (e, last) refl) ∙ quiet in cc)
        of false e more part = above-stays size journal given m side head payload e s

-- ---- some items

none-first : (a b : Bool) → (a || b) ≡ false → a ≡ false
none-first true b e = cc
none-first false b e = refl

none-later : (a b : Bool) → (a || b) ≡ false → b ≡ false
none-later true b e = cc
none-later false b e = e

pub gained-events : (gained journal : List Item) → list_any ends_zero gained ≡ false → events (gained ++ journal) ≡ events journal
gained-events [] journal quiet = refl
gained-events (item ∷ gained) journal quiet =
    quiet-events (gained ++ journal) item (none-first (ends_zero item) _ quiet)
    ∙ gained-events gained journal (none-later (ends_zero item) _ quiet)

pub gained-managed : (size : ℕ) (given : Marks) (m : Managed) (gained journal : List Item) → list_any ends_zero gained ≡ false
    → Manages size journal given m → Manages size (gained ++ journal) given m
gained-managed size given m [] journal quiet s = s
gained-managed size given m (item ∷ gained) journal quiet s =
    quiet-managed (gained ++ journal) size given m item (none-first (ends_zero item) _ quiet)
    (gained-managed size given m gained journal (none-later (ends_zero item) _ quiet) s)

pub gained-released : (gained journal : List Item) → list_any ends_zero gained ≡ false → is_released (gained ++ journal) ≡ is_released journal
gained-released gained journal quiet = ap has_release (gained-events gained journal quiet)

-- as many channels are there as before
pub gained-few : (size : ℕ) (gained journal : List Item) (given old_taken new_taken : Marks) (old new : List Live) (m : Managed) → list_any ends_zero gained ≡ false
    → AreLiveBy size journal given old_taken old → AreLiveBy size (gained ++ journal) given new_taken new → AreFew old m → AreFew new m
gained-few size gained journal given old_taken new_taken old new m quiet was now few =
    let same : length new ≡ length old = same-count old new was.ascending now.ascending
    (λ n. sym (now.there n) ∙ ap (λ (e : List Event). (n == 0) || is_live n e) (gained-events gained journal quiet) ∙ was.there n) in
    subst (λ (k : ℕ). k + (length m.starting + length m.granted) ≤ MAX_CHANNELS + 1) (sym same) few
