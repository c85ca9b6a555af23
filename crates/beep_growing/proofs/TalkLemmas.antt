-- What a sender has to say by two plans, where the lines of one go on with more: nothing by both, or by both a reply that ends.
use Rattle.std.proofs.Common.{◌≡◌, ◌∙◌, refl, sym, ap, subst, arith, ℕ, suc, ◌+◌, ◌%◌, ◌==◌, Bool, true, false, ◌&&◌, if◌then◌else◌, List, [], ◌∷◌, ◌++◌, flat_map, length, append_assoc, append-nil}
use Rattle.std.specs.List.{list_any}
use Rattle.std.proofs.lemmas.List.Concat.{flat_map-append}
use Rattle.beep_steps.specs.beep_frame.specs.declared.kind.Kind.{Kind}
use Rattle.beep_steps.specs.beep_frame.specs.declared.tag.Tag.{Tag}
use Rattle.beep_steps.specs.beep_history.specs.declared.journal.Side.{Side}
use Rattle.beep_steps.specs.beep_history.specs.Journal.{Item, began, passed, told}
use Rattle.beep_steps.specs.beep_history.specs.Marks.{Mark, end, position_of}
use Rattle.beep_steps.specs.beep_history.specs.Messages.{Message}
use Rattle.beep_steps.specs.beep_journal.specs.Lives.{Event}
use Rattle.beep_steps.specs.beep_journal.specs.Life.{life}
use Rattle.beep_steps.specs.beep_journal.specs.Zero.{events}
use Rattle.beep_steps.specs.beep_lawful.specs.declared.limits.TheConstants.{MESSAGE_NUMBERS}
use Rattle.beep_steps.specs.prof_raw.specs.Entries.{body_of}
use Rattle.beep_steps.specs.beep_talk.specs.declared.plan.Command.{Command}
use Rattle.beep_steps.specs.beep_talk.specs.Plan.{PlainPlan}
use Rattle.beep_steps.specs.beep_talk.specs.Talk.{answers_from, asked_first, begins_with, called_for, ends_request, has_profile, message_of, nul, replied, reply_of, talk}
use Rattle.beep_steps.specs.beep_script.specs.Script.{message_marks, BeginsWith}
use Rattle.beep_steps.specs.beep_script.specs.Sending.{ends_whole}
use Rattle.beep_steps.specs.beep_script.proofs.SentLemmas.{any-right}
use Rattle.beep_steps.specs.beep_replies.proofs.StayLemmas.{marks-front, more-front, same-front}
use Rattle.beep_growing.specs.Growing.{with_more}
use Rattle.beep_growing.proofs.FrontLemmas.{before-it}

-- ---- answers

-- the answers to a request at a position, where it is the first
abbrev pub answers_to : ℕ → List (List ℕ) → List Message
answers_to position lines = if position == 0 then answers_from position 0 lines else []

-- those of some lines, and then of others
answers-split : (position place : ℕ) (few more : List (List ℕ)) → answers_from position place (few ++ more) ≡ answers_from position place few ++ answers_from position (place + length few) more
answers-split position place [] more = ap (λ (n : ℕ). answers_from position n more) (let e : place ≡ place + 0 = omega arith in e)
answers-split position place (line ∷ few) more =
    ap (λ (ms : List Message). message_of Kind.Ans position (place % MESSAGE_NUMBERS) (body_of (line ∷ [])) ∷ ms) (answers-split position (place + 1) few more
    ∙ ap (λ (n : ℕ). answers_from position (place + 1) few ++ answers_from position n more) (let e : (place + 1) + length few ≡ place + suc (length few) = omega arith in e))

answers-front : (position : ℕ) (few more : List (List ℕ)) → BeginsWith (answers_to position (few ++ more)) (answers_to position few)
answers-front position few more = of (position == 0)
  where
    of : (b : Bool) → BeginsWith (if b then answers_from position 0 (few ++ more) else []) (if b then answers_from position 0 few else [])
    of true = record { rest = answers_from position (0 + length few) more; whole_is = answers-split position 0 few more }
    of false = same-front []

-- a reply is these and their end
abbrev nul_tag : ℕ → Tag
nul_tag position = record { kind = Kind.Nul; request = position; ansno = 0 }

reply-then : (position : ℕ) (lines : List (List ℕ)) (more : List Message)
    → flat_map message_marks (reply_of Command.Send lines position ++ more) ≡ flat_map message_marks (answers_to position lines) ++ end (nul_tag position) ∷ flat_map message_marks more
reply-then position lines more =
    let front = answers_to position lines in
    ap (flat_map message_marks) (append_assoc front (nul position ∷ []) more)
    ∙ flat_map-append message_marks front (nul position ∷ more)

-- in it a reply ends
pub reply-whole : (position : ℕ) (lines : List (List ℕ)) (more : List Message) → list_any ends_whole (flat_map message_marks (reply_of Command.Send lines position ++ more)) ≡ true
reply-whole position lines more =
    ap (list_any ends_whole) (reply-then position lines more)
    ∙ any-right ends_whole (flat_map message_marks (answers_to position lines)) (end (nul_tag position) ∷ flat_map message_marks more) refl

-- ---- by both plans

-- nothing, or a reply of each
pub data Both (few more : List (List ℕ)) (short long : List Message) : Type 0 where
  silent : short ≡ [] → long ≡ [] → Both few more short long
  replies_to : (position : ℕ) (a b : List Message) → short ≡ reply_of Command.Send few position ++ a → long ≡ reply_of Command.Send (few ++ more) position ++ b → Both few more short long

both-join : (few more : List (List ℕ)) (a b c d : List Message) → Both few more a b → Both few more c d → Both few more (a ++ c) (b ++ d)
both-join few more a b c d (silent one two) second =
    subst (λ (ms : List Message). Both few more (ms ++ c) (b ++ d)) (sym one) (subst (λ (ms : List Message). Both few more c (ms ++ d)) (sym two) second)
both-join few more a b c d (replies_to position x y one two) second =
    replies_to position (x ++ c) (y ++ d) (ap (λ (ms : List Message). ms ++ c) one ∙ append_assoc (reply_of Command.Send few position) x c)
    (ap (λ (ms : List Message). ms ++ d) two ∙ append_assoc (reply_of Command.Send (few ++ more) position) y d)

module _ (plan : PlainPlan) (more : List (List ℕ)) (send : plan.command ≡ Command.Send) (number count : ℕ) where
  -- nothing is asked first
  asks-none : (b : Bool) (es : List Event) → (if b then asked_first plan.command es else []) ≡ []
  asks-none true es = ap (λ (c : Command). asked_first c es) send
  asks-none false es = refl

  replied-both : (item : Item) (journal : List Item) → Both plan.lines more (replied plan number count item journal) (replied (with_more more plan) number count item journal)
  replied-both (began by head) journal = silent refl refl
  replied-both (told by seq) journal = silent refl refl
  replied-both (passed Side.Sent head payload) journal = silent refl refl
  replied-both (passed Side.Received head payload) journal = of (ends_request number count head journal && has_profile plan.raw_uri number count journal)
    where
      position : ℕ
      position = position_of Side.Received (life number count journal) head

      of : (b : Bool) → Both plan.lines more (if b then reply_of plan.command plan.lines position else []) (if b then reply_of plan.command (plan.lines ++ more) position else [])
      of true =
          replies_to position [] [] (ap (λ (c : Command). reply_of c plan.lines position) send ∙ sym (append-nil (reply_of Command.Send plan.lines position)))
          (ap (λ (c : Command). reply_of c (plan.lines ++ more) position) send ∙ sym (append-nil (reply_of Command.Send (plan.lines ++ more) position)))
      of false = silent refl refl

  pub talk-both : (journal : List Item) → Both plan.lines more (talk plan number count journal) (talk (with_more more plan) number count journal)
  talk-both [] = silent refl refl
  talk-both (item ∷ journal) =
      both-join plan.lines more (talk plan number count journal) (talk (with_more more plan) number count journal) (called_for plan number count item journal)
      (called_for (with_more more plan) number count item journal) (talk-both journal)
      (subst (λ (ms : List Message). Both plan.lines more (ms ++ replied plan number count item journal) (ms ++ replied (with_more more plan) number count item journal))
      (sym (asks-none (begins_with plan.raw_uri number count item journal) (events journal))) (replied-both item journal))

-- ---- what was sent

-- where no reply has ended it is the beginning of both
pub both-begin : (few more : List (List ℕ)) (short long : List Message) (sent : List Mark) → Both few more short long → list_any ends_whole sent ≡ false
    → BeginsWith (flat_map message_marks short) sent → BeginsWith (flat_map message_marks long) sent
both-begin few more short long sent (silent one two) none b = subst (λ (ms : List Message). BeginsWith (flat_map message_marks ms) sent) (one ∙ sym two) b
both-begin few more short long sent (replies_to position x y one two) none b =
    subst (λ (ms : List Mark). BeginsWith ms sent) (sym (ap (flat_map message_marks) two ∙ reply-then position (few ++ more) y))
    (more-front (flat_map message_marks (answers_to position (few ++ more)) ++ end (nul_tag position) ∷ flat_map message_marks y) (flat_map message_marks (answers_to position (few ++ more))) sent
    (record { rest = end (nul_tag position) ∷ flat_map message_marks y; whole_is = refl })
    (more-front (flat_map message_marks (answers_to position (few ++ more))) (flat_map message_marks (answers_to position few)) sent
    (marks-front (answers_to position (few ++ more)) (answers_to position few) (answers-front position few more))
    (before-it ends_whole (flat_map message_marks (answers_to position few)) (end (nul_tag position)) (flat_map message_marks x) sent b.rest
    (sym (ap (flat_map message_marks) one ∙ reply-then position few x) ∙ b.whole_is) none refl)))
