-- What a sender gives next on its channel is of its replies.
use Rattle.std.proofs.Common.{◌≡◌, ℕ, zero, suc, ◌+◌, ◌≤◌, ◌==◌, Bool, true, false, if◌then◌else◌, List, [], ◌∷◌, ◌++◌, map, flat_map, length, slice_get, Some, refl, sym, ap, ◌∙◌, arith}
use Rattle.std.proofs.lemmas.Bool.Decides.{nat_tests}
use Rattle.std.proofs.lemmas.Grind.{flat_map-append}
use Rattle.beep_steps.specs.beep_frame.specs.declared.kind.Kind.{Kind}
use Rattle.beep_steps.specs.beep_frame.specs.declared.tag.Tag.{Tag}
use Rattle.beep_steps.specs.beep_frame.specs.Modulo.{modulo_2_64}
use Rattle.beep_steps.specs.beep_history.specs.Marks.{Mark, octet, end, mark_modulo_2_64}
use Rattle.beep_steps.specs.beep_exchange.specs.Given.{ends_reply}
use Rattle.beep_steps.specs.beep_channel.specs.Stands.{ends_of}
use Rattle.beep_steps.specs.beep_outbox.specs.Queue.{message_marks as given_marks}
use Rattle.beep_steps.specs.beep_giving.specs.Giving.{next_message}
use Rattle.beep_steps.specs.prof_raw.specs.Entries.{body_of}
use Rattle.beep_steps.specs.beep_talk.specs.declared.plan.Command.{Command}
use Rattle.beep_steps.specs.beep_talk.specs.Plan.{PlainPlan}
use Rattle.beep_steps.specs.beep_talk.specs.Talk.{answers_from, nul, reply_of}
use Rattle.beep_steps.specs.beep_script.specs.Script.{message_marks}
use Rattle.beep_steps.specs.beep_replies.specs.Replies.{replies}
use Rattle.beep_steps.specs.beep_replies.proofs.SaidLemmas.{next-reply}
use Rattle.beep_steps.specs.beep_replies.proofs.PlacedLemmas.{replies_marks}
use Rattle.beep_steps.specs.Scripting.{RepliesGiven, part_given, whole_given}
use Rattle.beep_steps.proofs.ScriptLemmas.{answers-given}
use Rattle.beep_sender.proofs.GivesLemmas.{within-of, ends-append, no-ends, next-answer, next-nul}

-- ---- how many replies were given

ends-modulo : (ms : List Mark) → ends_of ends_reply (map mark_modulo_2_64 ms) ≡ ends_of ends_reply ms
ends-modulo [] = refl
ends-modulo (octet tag value ∷ ms) = ends-modulo ms
ends-modulo (end tag ∷ ms) = ap (λ (n : ℕ). if ends_reply tag.kind then n + 1 else n) (ends-modulo ms)

reply-ends : (lines : List (List ℕ)) (position : ℕ) → ends_of ends_reply (flat_map message_marks (reply_of Command.Send lines position)) ≡ 1
reply-ends lines position = of (position == 0) refl
  where
    of : (b : Bool) → (position == 0) ≡ b → ends_of ends_reply (flat_map message_marks ((if b then answers_from position 0 lines else []) ++ nul position ∷ [])) ≡ 1
    of true is =
        let first : position ≡ 0 = grind (arith, nat_tests) in
        ap (ends_of ends_reply) (flat_map-append message_marks (answers_from position 0 lines) (nul position ∷ []))
        ∙ ends-append ends_reply (flat_map message_marks (answers_from position 0 lines)) (flat_map message_marks (nul position ∷ []))
        ∙ ap (λ (n : ℕ). n + 1) (ap (λ (p : ℕ). ends_of ends_reply (flat_map message_marks (answers_from p 0 lines))) first ∙ no-ends 0 lines)
    of false is = refl

replies-ends : (plan : PlainPlan) → plan.command ≡ Command.Send → (position count : ℕ) → ends_of ends_reply (replies_marks plan position count) ≡ count
replies-ends plan send position zero = refl
replies-ends plan send position (suc count) =
    ap (ends_of ends_reply) (flat_map-append message_marks (reply_of plan.command plan.lines position) (replies plan (position + 1) count))
    ∙ ends-append ends_reply (flat_map message_marks (reply_of plan.command plan.lines position)) (replies_marks plan (position + 1) count)
    ∙ ap (λ (n : ℕ). n + ends_of ends_reply (replies_marks plan (position + 1) count)) (ap (λ (c : Command). ends_of ends_reply (flat_map message_marks (reply_of c plan.lines position))) send ∙ reply-ends plan.lines position)
    ∙ ap (λ (n : ℕ). 1 + n) (replies-ends plan send (position + 1) count) ∙ omega arith

-- ---- the next message

-- the answer of the next line
pub replies-answer : (plan : PlainPlan) (next : ℕ) (given : List Mark) (line : List ℕ) → RepliesGiven plan next given → slice_get plan.lines next ≡ Some line
    → RepliesGiven plan (next + 1) (given ++ given_marks (next_message Kind.Ans (body_of (line ∷ [])) given))
replies-answer plan next given line (whole_given count enough is) at = absurd (let within = within-of plan.lines next line at in omega (arith, within, enough))
replies-answer plan next given line (part_given is) at = part_given (next-answer plan.lines next given line is at)

map-last : (ms : List Mark) (t : Tag) → map mark_modulo_2_64 (ms ++ end t ∷ []) ≡ map mark_modulo_2_64 ms ++ mark_modulo_2_64 (end t) ∷ []
map-last [] t = refl
map-last (m ∷ ms) t = ap (λ rest. mark_modulo_2_64 m ∷ rest) (map-last ms t)

-- the reply to a further request is its end alone
further-reply : (plan : PlainPlan) → plan.command ≡ Command.Send → (count : ℕ)
    → replies_marks plan 0 ((count + 1) + 1) ≡ replies_marks plan 0 (count + 1) ++ end (record { kind = Kind.Nul; request = count + 1; ansno = 0 }) ∷ []
further-reply plan send count =
    ap (flat_map message_marks) (next-reply plan 0 (count + 1))
    ∙ flat_map-append message_marks (replies plan 0 (count + 1)) (reply_of plan.command plan.lines (0 + (count + 1)))
    ∙ ap (λ (c : Command). replies_marks plan 0 (count + 1) ++ flat_map message_marks (reply_of c plan.lines (0 + (count + 1)))) send
    ∙ ap (λ (n : ℕ). replies_marks plan 0 (count + 1) ++ flat_map message_marks (reply_of Command.Send plan.lines n)) (let e : 0 + (count + 1) ≡ count + 1 = omega arith in e)
    ∙ ap (λ (b : Bool). replies_marks plan 0 (count + 1) ++ flat_map message_marks ((if b then answers_from (count + 1) 0 plan.lines else []) ++ nul (count + 1) ∷ [])) (later count)
  where
    later : (n : ℕ) → (n + 1 == 0) ≡ false
    later n = grind (arith, nat_tests)

-- the end of the answers
pub replies-nul : (plan : PlainPlan) (next : ℕ) (given : List Mark) → plan.command ≡ Command.Send → RepliesGiven plan next given → length plan.lines ≤ next
    → RepliesGiven plan next (given ++ given_marks (next_message Kind.Nul [] given))
replies-nul plan next given send (part_given is) enough = whole_given 0 enough (next-nul plan.lines next given is enough ∙ sym (answers-given plan send))
replies-nul plan next given send (whole_given count all is) enough =
    whole_given (count + 1) all
    (ap (λ (ms : List Mark). ms ++ given_marks (next_message Kind.Nul [] ms)) is
    ∙ ap (λ (n : ℕ). map mark_modulo_2_64 (replies_marks plan 0 (count + 1)) ++ end (record { kind = Kind.Nul; request = modulo_2_64 n; ansno = 0 }) ∷ [])
    (ends-modulo (replies_marks plan 0 (count + 1)) ∙ replies-ends plan send 0 (count + 1))
    ∙ sym (map-last (replies_marks plan 0 (count + 1)) (record { kind = Kind.Nul; request = count + 1; ansno = 0 }))
    ∙ ap (map mark_modulo_2_64) (sym (further-reply plan send count)))
