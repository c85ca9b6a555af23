-- A new peer is upright: its greeting is the first that goes.
use Rattle.std.proofs.Common.{◌≡◌, ℕ, List, [], ◌∷◌, ◌++◌, append-nil, refl, sym, ap, ◌∙◌, subst}
use Rattle.beep_upright.specs.beep_frame.specs.declared.kind.Kind.{Kind}
use Rattle.beep_upright.specs.beep_history.specs.declared.journal.Side.{Side}
use Rattle.beep_upright.specs.beep_history.specs.Marks.{marks}
use Rattle.beep_upright.specs.beep_journal.specs.Zero.{zero_history}
use Rattle.beep_upright.specs.beep_outbox.specs.Queue.{message_marks}
use Rattle.beep_upright.specs.beep_lawful.specs.declared.terms.Terms.{Terms}
use Rattle.beep_upright.specs.beep_standing.specs.Standing.{no_marks}
use Rattle.beep_upright.specs.beep_spoken.specs.Spoken.{kinds_of}
use Rattle.beep_upright.specs.beep_asked.specs.Kept.{implied_request}
use Rattle.beep_upright.specs.beep_management.specs.Managed.{Managed}
use Rattle.beep_upright.specs.Turns.{kinds_at}
use Rattle.beep_upright.specs.Upright.{asked_at, AreReady, IsUpright}
use Rattle.beep_upright.proofs.NewLemmas.{new-ready}
use Rattle.beep_peer.specs.declared.peer.Peer.{Peer}
use Rattle.beep_peer.specs.Calls.{Begins}
use Rattle.beep_peer.proofs.KindsLemmas.{queue-kinds, kinds-by}

none-sent : kinds_of (marks Side.Sent (zero_history [])) ≡ []
none-sent = refl

pub begin-upright : (terms : Terms) (size : ℕ) (octets : List ℕ) (peer : Peer) → Begins size octets peer → (old : Managed)
    → peer.management ≡ record old { answers = peer.management.answers } → old.mine.requests ≡ implied_request ∷ [] → old.acts.requests ≡ [] → old.theirs.requests ≡ implied_request ∷ []
    → old.starting ≡ [] → old.granted ≡ [] → peer.management.answers ≡ [] → IsUpright terms [] peer.lives peer.management
begin-upright terms size octets peer b old same mine acts theirs starting granted answers =
    subst (λ ks. AreReady terms [] ks (asked_at peer.lives) peer.management) (sym kinds)
    (new-ready terms (asked_at peer.lives) peer.management (ap (λ (m : Managed). m.mine.requests) same ∙ mine) (ap (λ (m : Managed). m.acts.requests) same ∙ acts)
    (ap (λ (m : Managed). m.theirs.requests) same ∙ theirs) answers (ap (λ (m : Managed). m.starting) same ∙ starting) (ap (λ (m : Managed). m.granted) same ∙ granted))
  where
    kinds : kinds_at 0 peer.lives ≡ Kind.Rpy ∷ []
    kinds =
        ap (λ ks. ks ++ kinds_at 0 peer.lives) (sym none-sent)
        ∙ sym (kinds-by size [] [] b.given no_marks peer.lives b.stands.holds.live)
        ∙ ap kinds_of (b.given_is ∙ sym (append-nil (message_marks b.message)))
        ∙ queue-kinds (b.message ∷ []) ∙ ap (λ (k : Kind). k ∷ []) b.is_rpy
