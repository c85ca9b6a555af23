-- The last frame of a request of the peer, as it comes.
use Rattle.std.proofs.Common.{◌≡◌, ℕ, suc, ◌+◌, ◌<◌, ◌==◌, Bool, true, false, not, ◌&&◌, ◌||◌, if◌then◌else◌, List, [], ◌∷◌, ◌++◌, length, Option, None, Some, refl, sym, ap, ◌∙◌, subst}
use Rattle.beep_management.specs.beep_frame.specs.declared.head.Head.{Head}
use Rattle.beep_management.specs.beep_frame.specs.declared.kind.Kind.{Kind}
use Rattle.beep_management.specs.beep_frame.specs.Frame.{is_msg}
use Rattle.beep_management.specs.beep_mgmt.specs.Form.{Form, greeting, start, chosen, close, okay, fault}
use Rattle.beep_management.specs.beep_mgmt.specs.Message.{message_said}
use Rattle.beep_management.specs.beep_history.specs.declared.journal.Side.{Side}
use Rattle.beep_management.specs.beep_history.specs.Journal.{Item, passed}
use Rattle.beep_management.specs.beep_journal.specs.Lives.{Event, life_named}
use Rattle.beep_management.specs.beep_journal.specs.Zero.{zero_history, zero_events, gathered, asked, coming, events}
use Rattle.beep_management.specs.beep_journal.proofs.MomentLemmas.{apart-more}
use Rattle.beep_management.specs.beep_decide.specs.Numbers.{other_role}
use Rattle.beep_lawful.specs.declared.terms.Terms.{Terms}
use Rattle.beep_management.specs.beep_standing.specs.Moving.{MovesNone}
use Rattle.beep_management.specs.beep_standing.proofs.ZeroLemmas.{coming-none}
use Rattle.beep_management.specs.beep_asked.specs.Kept.{Kept, is_leaving}
use Rattle.beep_management.specs.beep_asked.specs.Asked.{AreWaiting}
use Rattle.beep_management.specs.Managed.{Prepared, Managed}
use Rattle.beep_upright.specs.Turns.{reply_kinds}
use Rattle.beep_upright.specs.Upright.{MayBegin, said_before, IsHeldBack, AreReady}
use Rattle.beep_upright.proofs.HeardLemmas.{idle-close, quiet-close}
use Rattle.beep_upright.proofs.CameLemmas.{request-came}

-- earlier closes name what they named
named-earlier : (q : ℕ) (form : Option Form) (es : List Event) (n p : ℕ) → p < q → life_named n Side.Received p (coming Side.Received q form ++ es) ≡ life_named n Side.Received p es
named-earlier q None es n p below = refl
named-earlier q (Some (greeting features localize profiles)) es n p below = refl
named-earlier q (Some (start number server profiles)) es n p below = refl
named-earlier q (Some (chosen profile)) es n p below = refl
named-earlier q (Some (close number code note)) es n p below = rw (apart-more q p below) refl
named-earlier q (Some okay) es n p below = refl
named-earlier q (Some (fault code note)) es n p below = refl

module _ (terms : Terms) (journal : List Item) (kinds : List Kind) (asks : ℕ → ℕ) (m new : Managed) (r : AreReady terms journal kinds asks m) (head : Head) (payload : List ℕ)
    (zero : (head.channel == 0) ≡ true) (last : head.more ≡ false) (request : is_msg head.kind ≡ true)
    (w : AreWaiting Side.Received (zero_history journal) m.theirs.requests) (count : length (reply_kinds kinds) + length m.answers ≡ length m.theirs.requests) where
  abbrev now : List Item
  now = passed Side.Received head payload ∷ journal

  abbrev place : ℕ
  place = length (asked Side.Received (zero_history journal))

  abbrev form : Option Form
  form = message_said (gathered Side.Received (zero_history journal) ++ payload)

  now-events : events now ≡ coming Side.Received place form ++ events journal
  now-events =
      ap (λ (b : Bool). zero_events (if b then passed Side.Received head payload ∷ zero_history journal else zero_history journal)) zero
      ∙ ap (λ (l : List Event). l ++ events journal) (by head.more (is_msg head.kind) _ _ last request)
    where
      by : (a b : Bool) (x y : List Event) → a ≡ false → b ≡ true → (if a then [] else if b then x else y) ≡ x
      by false true x y e f = refl
      by false false x y e f = cc
      by true b x y e f = cc

  moves : MovesNone (events journal) (events now)
  moves = subst (λ (es : List Event). MovesNone (events journal) es) (sym now-events) (coming-none Side.Received place form (events journal))

  asked-sent : asked Side.Sent (zero_history now) ≡ asked Side.Sent (zero_history journal)
  asked-sent = ap (λ (b : Bool). asked Side.Sent (if b then passed Side.Received head payload ∷ zero_history journal else zero_history journal)) zero

  asked-more : length (asked Side.Received (zero_history now)) ≡ suc (length (asked Side.Received (zero_history journal)))
  asked-more =
      ap (λ (b : Bool). length (asked Side.Received (if b then passed Side.Received head payload ∷ zero_history journal else zero_history journal))) zero
      ∙ ap (λ (b : Bool). length (if b then form ∷ asked Side.Received (zero_history journal) else asked Side.Received (zero_history journal))) test
    where
      test : (is_msg head.kind && not head.more) ≡ true
      test = rw (request, last) refl

  -- the answer is held back as it has to be, and what it grants may begin
  pub request-heard : (answer : Prepared) (kept : Kept) → IsHeldBack answer kept → new.theirs.requests ≡ kept ∷ m.theirs.requests → new.answers ≡ m.answers ++ answer ∷ []
      → new.mine ≡ m.mine → new.acts ≡ m.acts → new.starting ≡ m.starting → MayBegin (other_role terms.role) journal new.granted
      → ((is_leaving m.mine.requests || is_leaving m.acts.requests) ≡ true → m.granted ≡ [] → new.granted ≡ []) → AreReady terms now kinds asks new
  request-heard answer kept held theirs answers mine acts starting granted leaving =
      request-came terms journal now kinds asks m new r answer kept moves.live asked-sent asked-more w.within count r.idle (λ e. e)
      (λ p said i. idle-close p (passed Side.Received head payload) journal said tt (λ n closes. moves.lives n) i)
      (λ p said below q. quiet-close (said_before m.acts.requests (asked Side.Sent (zero_history journal))) p (passed Side.Received head payload) journal said tt
      (λ n. ap (λ (es : List Event). life_named n Side.Received p es) now-events ∙ named-earlier place form (events journal) n p below) q)
      held theirs answers mine acts starting granted leaving
