-- The greeting of both ends, which is short.
use Rattle.std.proofs.Common.{◌≡◌, ℕ, ◌<◌, ◌≤◌, ◌+◌, true, if◌then◌else◌, List, [], ◌∷◌, ◌++◌, length, map, refl, sym, ap, ◌∙◌, arith}
use Rattle.std.specs.Prelude.{nat_le}
use Rattle.std.specs.Str.{is_utf8, chars}
use lib.Utf8.{encode}
use Rattle.std.proofs.lemmas.Bool.Decides.{nat_tests}
use Rattle.beep_two_sessions.specs.beep_frame.specs.declared.kind.Kind.{Kind}
use Rattle.beep_two_sessions.specs.beep_history.specs.Marks.{octet, end}
use Rattle.beep_two_sessions.specs.beep_mgmt.specs.Message.{message_text}
use Rattle.beep_two_sessions.specs.beep_decide.specs.Decide.{PlainOffer}
use Rattle.beep_two_sessions.specs.beep_exchange.specs.Given.{ends_reply}
use Rattle.beep_two_sessions.specs.beep_seq.specs.declared.limits.TheConstants.{INITIAL_WINDOW}
use Rattle.beep_two_sessions.specs.beep_outbox.specs.Queue.{Message, message_marks}
use Rattle.beep_two_sessions.specs.beep_channel.specs.Stands.{ends_of}
use Rattle.beep_two_sessions.specs.beep_standing.specs.Standing.{Marks}
use Rattle.beep_two_sessions.specs.beep_standing.specs.Due.{octets_among}
use Rattle.beep_two_sessions.specs.beep_answering.specs.Sent.{greeting_of}
use Rattle.beep_two_sessions.specs.beep_session.specs.Session.{Held}
use Rattle.beep_two_sessions.specs.End.{end_of_new}
use Rattle.beep_two_sessions.specs.Still.{GreetsShortly}
use Rattle.beep_pair.specs.Acts.{pair_uri}
use Rattle.beep_pair.specs.Command.{pair_offers}

greeting_fits : nat_le (length (message_text (greeting_of pair_offers))) INITIAL_WINDOW ≡ true
unfolding pair_uri is_utf8 chars encode
greeting_fits = refl

octets-of : (m : Message) → octets_among (message_marks m) ≡ length m.octets
octets-of m = of m.octets
  where
    of : (os : List ℕ) → octets_among (map (octet m.tag) os ++ end m.tag ∷ []) ≡ length os
    of [] = refl
    of (o ∷ os) = let h = of os in omega (arith, h)

ends-of : (m : Message) → m.tag.kind ≡ Kind.Rpy → ends_of ends_reply (message_marks m) ≡ 1
ends-of m e = of m.octets
  where
    of : (os : List ℕ) → ends_of ends_reply (map (octet m.tag) os ++ end m.tag ∷ []) ≡ 1
    of [] = ap (λ (k : Kind). if ends_reply k then 0 + 1 else 0) e
    of (o ∷ os) = of os

pub short_greeting : (session : Held) (message : Message) (given : Marks) (offers : List PlainOffer) → message.tag.kind ≡ Kind.Rpy → message.octets ≡ message_text (greeting_of offers)
    → given 0 ≡ message_marks message → offers ≡ pair_offers → GreetsShortly (end_of_new session given)
short_greeting session message given offers kind text is e = record {
  greets = (let n = ap (ends_of ends_reply) is ∙ ends-of message kind in omega (arith, n));
  short = (let n = ap octets_among is ∙ octets-of message ∙ ap length (text ∙ ap (λ (os : List PlainOffer). message_text (greeting_of os)) e) in within _ _ n greeting_fits);
}
  where
    within : (n m : ℕ) → n ≡ m → nat_le m INITIAL_WINDOW ≡ true → n ≤ INITIAL_WINDOW
    within n m same fits = grind (arith, nat_tests)
