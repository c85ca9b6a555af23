-- What the definitions give at small histories: a run that meets them, and why the sender goes by the octets that are open.
use Rattle.std.proofs.Common.{◌≡◌, ℕ, true, false, List, [], ◌∷◌, Some, None, refl, arith}
use Rattle.beep_frame.specs.declared.head.Head.{Head}
use Rattle.beep_frame.specs.declared.seq.Seq.{Seq}
use Rattle.beep_frame.specs.declared.kind.Kind.{Kind}
use Rattle.beep_frame.specs.declared.rule.Rule.{Rule}
use Rattle.beep_frame.specs.Frame.{head_of, framed}
use Rattle.beep_history.specs.declared.journal.Side.{Side}
use Rattle.beep_history.specs.Journal.{Item, began, passed, told}
use Rattle.beep_history.specs.Broken.{broken_rule, broken_within}
use Rattle.beep_history.specs.Windows.{greatest_edge, open_now}
use Rattle.beep_two_ends.specs.Seen.{arrived, sent, Sees}
use Rattle.beep_two_ends.specs.OneLife.{IsLawful, NeverBroke}
use Rattle.beep_two_ends.specs.Run.{a_sends, b_sends, a_gets, b_gets, IsRun}
use Rattle.beep_two_ends.specs.Octets.{read_items}

-- ---- a request, its reply, and a SEQ for it

abbrev question : Head
question = head_of Kind.Msg 1 0 false 0 2 0

abbrev answer : Head
answer = head_of Kind.Rpy 1 0 false 0 2 0

abbrev heard : Seq
heard = record { channel = 1; ackno = 2; window = 4096 }

abbrev asking : List Item
asking = passed Side.Sent question (7 ∷ 8 ∷ []) ∷ began Side.Sent question ∷ []

abbrev asked : List Item
asked = passed Side.Received question (7 ∷ 8 ∷ []) ∷ began Side.Received question ∷ []

abbrev answering : List Item
answering = passed Side.Sent answer (5 ∷ 6 ∷ []) ∷ began Side.Sent answer ∷ asked

abbrev answered : List Item
answered = passed Side.Received answer (5 ∷ 6 ∷ []) ∷ began Side.Received answer ∷ asking

one_asks : IsLawful (began Side.Sent question ∷ [])
unfolding broken_rule broken_within
one_asks = (record { free = refl; rules = refl }, tt)

one_has_asked : IsLawful asking
one_has_asked = (record { begun = refl; size = refl }, one_asks)

one_answers : IsLawful (began Side.Sent answer ∷ asked)
unfolding broken_rule broken_within
one_answers = (record { free = refl; rules = refl }, (tt, (tt, tt)))

one_has_answered : IsLawful answering
one_has_answered = (record { begun = refl; size = refl }, one_answers)

one_has_heard : IsLawful (told Side.Sent heard ∷ answered)
one_has_heard = (record { ackno = refl; edge = omega arith; window = omega arith }, (tt, (tt, one_has_asked)))

-- such a run is one of two lawful ends
a_run : IsRun
    (a_sends (told Side.Received heard) ∷ a_gets ∷ a_gets
    ∷ b_sends (passed Side.Received answer (5 ∷ 6 ∷ [])) ∷ b_sends (began Side.Received answer) ∷ b_gets ∷ b_gets
    ∷ a_sends (passed Side.Received question (7 ∷ 8 ∷ [])) ∷ a_sends (began Side.Received question) ∷ [])
    [] (told Side.Sent heard ∷ answered) answering [] (told Side.Received heard ∷ [])
a_run = (
  answered,
  [],
  refl,
  refl,
  one_has_heard,
  refl,
  (
    began Side.Received answer ∷ asking,
    passed Side.Received answer (5 ∷ 6 ∷ []),
    refl,
    (
      asking,
      began Side.Received answer,
      refl,
      (
        began Side.Sent answer ∷ asked,
        began Side.Received answer ∷ [],
        refl,
        refl,
        one_has_answered,
        refl,
        (
          asked,
          [],
          refl,
          refl,
          one_answers,
          refl,
          (
            began Side.Received question ∷ [],
            passed Side.Received question (7 ∷ 8 ∷ []),
            refl,
            (
              [],
              began Side.Received question,
              refl,
              (
                began Side.Sent question ∷ [],
                began Side.Received question ∷ [],
                refl,
                refl,
                one_has_asked,
                refl,
                (
                  [],
                  [],
                  refl,
                  refl,
                  one_asks,
                  refl,
                  (refl, refl, refl, refl),
                ),
              ),
            ),
          ),
        ),
      ),
    ),
  ),
)

-- in it nothing that arrived broke a rule
nothing_broke : NeverBroke answered
unfolding broken_rule broken_within
nothing_broke = ((refl, refl), ((refl, refl), (tt, (tt, tt))))

-- as the answer goes out its sender knows all that the asker had sent
both_see : Sees asked asking
both_see = record { all = refl; newer = []; some = refl }

-- ---- the greatest edge isn't enough for the sender

abbrev half : ℕ → Head
half seqno = head_of Kind.Msg 1 0 true seqno 2048 0

abbrev whole_window : Head
whole_window = head_of Kind.Msg 1 0 false 4096 4096 0

abbrev half_way : Seq
half_way = record { channel = 1; ackno = 2048; window = 4096 }

-- 4,096 octets went out, and then the SEQ for the first 2,048 of them came
abbrev sender : List Item
sender =
    told Side.Received half_way ∷ passed Side.Sent (half 2048) [] ∷ began Side.Sent (half 2048)
    ∷ passed Side.Sent (half 0) [] ∷ began Side.Sent (half 0) ∷ []

abbrev receiver : List Item
receiver =
    passed Side.Received (half 2048) [] ∷ began Side.Received (half 2048) ∷ told Side.Sent half_way
    ∷ passed Side.Received (half 0) [] ∷ began Side.Received (half 0) ∷ []

each_sees_all : (arrived receiver ≡ sent sender) × (sent receiver ≡ arrived sender)
each_sees_all = (refl, refl)

-- a further window is within the greatest edge as the sender counts it, and breaks Window where it arrives
within_the_greatest_edge : broken_within (greatest_edge Side.Sent sender) Side.Sent sender whole_window ≡ None
unfolding broken_within
within_the_greatest_edge = refl

breaks_window_there : broken_rule Side.Received receiver whole_window ≡ Some Rule.Window
unfolding broken_rule broken_within
breaks_window_there = refl

-- it is past the open octets, so that no lawful end sends it
half_is_open : open_now Side.Sent sender ≡ 2048
half_is_open = refl

not_lawful : broken_rule Side.Sent sender whole_window ≡ Some Rule.Window
unfolding broken_rule broken_within
not_lawful = refl

-- ---- octets

-- a frame and the header of the next are three items, the latest first
three_items : read_items (framed question (7 ∷ 8 ∷ []) ∷ []) (Some answer) ≡ began Side.Received answer ∷ asked
three_items = refl
