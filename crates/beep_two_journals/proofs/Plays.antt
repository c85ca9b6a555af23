-- A run of two sessions that meets the premises: the first frame of a greeting goes out and arrives.
use Rattle.std.proofs.Common.{true, [], ◌∷◌, refl}
use Rattle.beep_frame.specs.declared.head.Head.{Head}
use Rattle.beep_frame.specs.declared.kind.Kind.{Kind}
use Rattle.beep_frame.specs.Frame.{head_of}
use Rattle.beep_history.specs.declared.journal.Side.{Side}
use Rattle.beep_history.specs.Journal.{began, passed}
use Rattle.beep_history.specs.Broken.{broken_rule, broken_within}
use Rattle.beep_text.specs.Said.{element_said}
use Rattle.beep_mgmt.specs.Message.{message_said}
use Rattle.beep_journal.specs.declared.role.Role.{Role}
use Rattle.beep_journal.specs.Broken.{none_tunes, broken_head, broken_content}
use Rattle.beep_lawful.specs.declared.terms.Terms.{Terms}
use Rattle.beep_lawful.specs.Lawful.{unlawful_head, unlawful_frame, IsLawful}
use Rattle.beep_two_ends.specs.Run.{a_sends, b_gets}
use Rattle.beep_two_journals.specs.Session.{IsRun}

abbrev initiator : Terms
initiator = record { role = Role.Initiator; window = 4096; piece = 4096 }

abbrev listener : Terms
listener = record { role = Role.Listener; window = 4096; piece = 4096 }

-- more of the greeting is to come
abbrev greets : Head
greets = head_of Kind.Rpy 0 0 true 0 2 0

began_to_greet : IsLawful initiator none_tunes (began Side.Sent greets ∷ [])
unfolding unlawful_head broken_head broken_rule broken_within message_said element_said
began_to_greet = refl

has_greeted : IsLawful initiator none_tunes (passed Side.Sent greets (67 ∷ 111 ∷ []) ∷ began Side.Sent greets ∷ [])
unfolding unlawful_head unlawful_frame broken_head broken_rule broken_within broken_content message_said element_said
has_greeted = refl

a_run : IsRun initiator listener
    (b_gets ∷ b_gets ∷ a_sends (passed Side.Received greets (67 ∷ 111 ∷ [])) ∷ a_sends (began Side.Received greets) ∷ [])
    (passed Side.Sent greets (67 ∷ 111 ∷ []) ∷ began Side.Sent greets ∷ [])
    (passed Side.Received greets (67 ∷ 111 ∷ []) ∷ began Side.Received greets ∷ []) [] []
a_run = (
  began Side.Received greets ∷ [],
  passed Side.Received greets (67 ∷ 111 ∷ []),
  refl,
  (
    [],
    began Side.Received greets,
    refl,
    (
      began Side.Sent greets ∷ [],
      began Side.Received greets ∷ [],
      refl,
      refl,
      has_greeted,
      refl,
      (
        [],
        [],
        refl,
        refl,
        began_to_greet,
        refl,
        (refl, refl, refl, refl),
      ),
    ),
  ),
)
