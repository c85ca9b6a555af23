-- Frames that go out and end no message of channel zero leave what is ready so.
use Rattle.std.proofs.Common.{◌≡◌, ℕ, ◌+◌, ◌<◌, ◌==◌, true, false, not, ◌&&◌, List, ◌∷◌, ◌++◌, length, reverse, None, Some, refl, ap, ◌∙◌}
use Rattle.beep_management.specs.beep_frame.specs.declared.head.Head.{Head}
use Rattle.beep_management.specs.beep_frame.specs.declared.kind.Kind.{Kind}
use Rattle.beep_management.specs.beep_frame.specs.Frame.{same_kind}
use Rattle.beep_management.specs.beep_history.specs.declared.journal.Side.{Side}
use Rattle.beep_management.specs.beep_history.specs.Journal.{Item, began, passed}
use Rattle.beep_management.specs.beep_history.specs.Marks.{begins_request}
use Rattle.beep_management.specs.beep_history.specs.Broken.{KeepsExchangeRules}
use Rattle.beep_management.specs.beep_journal.specs.Lives.{Event, is_live, lives, life_named}
use Rattle.beep_management.specs.beep_journal.specs.Zero.{zero_history, asked, events}
use Rattle.beep_management.specs.beep_journal.specs.Life.{is_there, history}
use Rattle.beep_management.specs.beep_journal.proofs.JournalLemmas.{began-events}
use Rattle.beep_lawful.specs.declared.terms.Terms.{Terms}
use Rattle.beep_management.specs.beep_asked.specs.Kept.{Kept, names_one}
use Rattle.beep_management.specs.beep_asked.specs.Asked.{names_life, AreWaiting}
use Rattle.beep_management.specs.Managed.{Managed}
use Rattle.beep_upright.specs.Turns.{reply_kinds}
use Rattle.beep_upright.specs.Upright.{WasIdle, all_asked, WasQuiet, IsLetGo, place_of, AreReady}
use Rattle.beep_upright.proofs.HeardLemmas.{idle-close, quiet-close}
use Rattle.beep_upright.proofs.ReadyLemmas.{names-from, each-answered}
use Rattle.beep_upright.proofs.StillLemmas.{IsStill, still-ready, events-part, asked-part, asked-header}
use Rattle.beep_upright.proofs.BegunLemmas.{above-idle, above-quiet, zero-idle, zero-quiet}

module _ (terms : Terms) (journal : List Item) (kinds : List Kind) (asks : ℕ → ℕ) (m : Managed) (w : AreWaiting Side.Received (zero_history journal) m.theirs.requests)
    (r : AreReady terms journal kinds asks m) (head : Head) (payload : List ℕ) (quiet : (head.channel == 0 && not head.more) ≡ false) where
  abbrev begun : List Item
  begun = began Side.Sent head ∷ journal

  abbrev whole : List Item
  whole = passed Side.Sent head payload ∷ began Side.Sent head ∷ journal

  begun-events : events begun ≡ events journal
  begun-events = began-events Side.Sent head journal

  whole-events : events whole ≡ events begun
  whole-events = events-part Side.Sent head payload begun quiet

  still : IsStill journal whole
  still = record {
    moments = whole-events ∙ begun-events;
    asks = λ side. asked-part side Side.Sent head payload begun quiet ∙ asked-header side Side.Sent head journal;
    idle = refl;
    before = λ none. absurd (let g : Some head ≡ None = none in cc);
  }

  -- from the header on
  both : (rest : List Kind) → rest ≡ kinds
      → ((p : ℕ) (before : List Kept) (kept : Kept) (after : List Kept) → reverse m.acts.requests ≡ before ++ kept ∷ after
      → p ≡ length (asked Side.Sent (zero_history journal)) + length before
      → kept.names ≡ names_one (λ n. is_live n (events journal)) kept.said → WasIdle journal p kept.said → WasIdle begun p kept.said)
      → ((p : ℕ) (before : List Kind) (kind : Kind) (after : List Kind) (earlier : List Kept) (kept : Kept) (later : List Kept) → reply_kinds kinds ≡ before ++ kind ∷ after
      → reverse m.theirs.requests ≡ earlier ++ kept ∷ later → length earlier ≡ length before → kept.names ≡ names_life Side.Received p kept.said (events journal)
      → IsLetGo (all_asked journal m) journal asks p kind kept → same_kind Kind.Rpy kind ≡ true → WasQuiet (all_asked journal m) begun p kept.said)
      → AreReady terms whole rest asks m
  both rest same idles quiets =
      still-ready terms journal whole kinds rest asks m still r same
      (λ before kept after split named i.
      idle-close (length (asked Side.Sent (zero_history journal)) + length before) (passed Side.Sent head payload) begun kept.said tt
      (λ n closes. ap (λ (es : List Event). lives n es) whole-events)
      (idles (length (asked Side.Sent (zero_history journal)) + length before) before kept after split refl named i))
      (each-answered (all_asked journal m) (all_asked journal m) journal whole asks asks (place_of m.theirs.requests (asked Side.Received (zero_history journal)))
      (reply_kinds kinds) m.answers (reverse m.theirs.requests) (names-from journal m.theirs.requests w)
      (λ before kind after earlier kept later split ksplit count named l. record {
        quiet = λ rpy.
            quiet-close (all_asked journal m) (place_of m.theirs.requests (asked Side.Received (zero_history journal)) + length before) (passed Side.Sent head payload) begun kept.said tt
            (λ n. ap (λ (es : List Event). life_named n Side.Received (place_of m.theirs.requests (asked Side.Received (zero_history journal)) + length before) es) whole-events)
            (quiets (place_of m.theirs.requests (asked Side.Received (zero_history journal)) + length before) before kind after earlier kept later split ksplit count named l rpy);
        still = l.still;
      }) r.theirs)

  -- of a channel above zero
  pub frame-sent : (head.channel == 0) ≡ false → is_there head.channel journal ≡ true
      → (begins_request Side.Sent (history head.channel journal) head ≡ true → 0 < asks head.channel) → AreReady terms whole kinds asks m
  frame-sent above there some =
      both kinds refl
      (λ p before kept after split place named i. above-idle terms journal kinds asks m r head above there some p before kept after split named i)
      (λ p before kind after earlier kept later split ksplit count named l rpy.
      above-quiet terms journal kinds asks m r head above there some (all_asked journal m) p kind kept named l rpy)

  -- of channel zero
  pub part-sent : (head.channel == 0) ≡ true → KeepsExchangeRules (began Side.Sent head ∷ zero_history journal) → AreWaiting Side.Sent (zero_history journal) m.mine.requests
      → (after : List Kind) → kinds ≡ head.kind ∷ after → AreReady terms whole kinds asks m
  part-sent zero keeps mine others unsent =
      both kinds refl
      (λ p before kept after split place named i. zero-idle terms journal kinds others asks m r head zero keeps mine unsent p before kept after split place i)
      (λ p before kind after earlier kept later split ksplit count named l rpy.
      zero-quiet terms journal kinds others asks m r head zero keeps mine unsent p before kind after earlier kept later split ksplit count l rpy)
