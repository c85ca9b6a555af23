-- What the values of the plain program stand for.
use Rattle.std.specs.Prelude.{List, map}
use Rattle.beep_history.specs.Messages.{Message as PlainMessage}
use Rattle.beep_decide.specs.Plain.{plain_offer}
use Rattle.beep_talk.specs.declared.message.Message.{Message}
use Rattle.beep_talk.specs.declared.at_zero.ZeroMessage.{ZeroMessage}
use Rattle.beep_talk.specs.declared.at_zero.OwedAnswer.{OwedAnswer}
use Rattle.beep_talk.specs.declared.at_zero.Desk.{Desk}
use Rattle.beep_talk.specs.declared.plan.Plan.{Plan}
use Rattle.beep_talk.specs.Plan.{PlainPlan}
use Rattle.beep_talk.specs.AtZero.{ZeroMessage as PlainZero, Answer, Desk as PlainDesk}

-- what an end is to do, as a value
abbrev pub plain_plan : Plan → PlainPlan
plain_plan plan = record {
  command = plan.command;
  terms = plan.terms;
  offers = map plain_offer plan.offers.items;
  raw_uri = plan.raw_uri;
  lines = plan.lines;
}

-- a message of the code as a value
abbrev pub plain_message : Message → PlainMessage
plain_message message = record { tag = message.tag; content = message.content.octets }

-- messages, one after another
abbrev pub plain_messages : List Message → List PlainMessage
plain_messages messages = map plain_message messages

-- a message of channel zero as a value
abbrev pub plain_zero : ZeroMessage → PlainZero
plain_zero one = record { tag = one.tag; form = one.words }

-- such messages, one after another
abbrev pub plain_zeros : List ZeroMessage → List PlainZero
plain_zeros messages = map plain_zero messages

-- an answer that isn't listed, as a value
abbrev pub plain_answer : OwedAnswer → Answer
plain_answer answer =
    record { position = answer.position; form = answer.words; closes = answer.closes }

-- such answers, one after another
abbrev pub plain_answers : List OwedAnswer → List Answer
plain_answers answers = map plain_answer answers

-- what is listed and owed, as a value
abbrev pub plain_desk : Desk → PlainDesk
plain_desk desk =
    record { listed = plain_zeros desk.listed.items; owed = plain_answers desk.owed.items }
