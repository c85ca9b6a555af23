-- A sender's close of channel 1 is never refused: it asks nothing there, and few requests on channel zero.
use Rattle.std.proofs.Common.{◌≡◌, ◌∙◌, refl, ap, subst, ℕ, zero, suc, ◌+◌, ◌≤◌, ◌==◌, Bool, true, false, if◌then◌else◌, List, [], ◌∷◌, ◌++◌, length, flat_map, take, Option, None, Some, arith}
use Rattle.std.specs.Prelude.{is_some, nat_le}
use Rattle.std.proofs.lemmas.Bool.Decides.{nat_tests}
use Rattle.std.proofs.lemmas.Grind.{flat_map-append}
use Rattle.beep_session.specs.beep_frame.specs.Frame.{is_msg}
use Rattle.beep_session.specs.beep_history.specs.declared.limits.TheConstants.{MAX_REQUESTS}
use Rattle.beep_session.specs.beep_history.specs.Marks.{Mark, end, octet}
use Rattle.beep_session.specs.beep_history.specs.Messages.{Message}
use Rattle.beep_session.specs.beep_journal.specs.Life.{is_there}
use Rattle.beep_session.specs.beep_journal.specs.Log.{Moment}
use Rattle.beep_session.specs.beep_exchange.specs.Given.{message_number}
use Rattle.beep_session.specs.beep_channel.specs.Held.{Live}
use Rattle.beep_session.specs.beep_channel.specs.Stands.{IsCounted, ends_of}
use Rattle.beep_session.specs.beep_channel.proofs.CountedLemmas.{ends-append}
use Rattle.beep_session.specs.beep_lives.specs.Lives.{live_at}
use Rattle.beep_session.specs.beep_lives.proofs.ListLemmas.{live-number}
use Rattle.beep_session.specs.beep_giving.proofs.CountLemmas.{counted-above}
use Rattle.beep_session.specs.beep_peer.specs.Acts.{asked_of, close_refusal, either_cause, first_asked_of, first_of_causes, numbered_cause}
use Rattle.beep_session.specs.beep_peer.specs.declared.refusals.CloseError.{CloseError}
use Rattle.beep_session.specs.Session.{Held}
use Rattle.beep_desk.specs.beep_talk.specs.declared.plan.Command.{Command}
use Rattle.beep_desk.specs.beep_talk.specs.Plan.{PlainPlan}
use Rattle.beep_desk.specs.beep_talk.specs.Talk.{answers_from, nul, reply_of}
use Rattle.beep_desk.specs.beep_script.specs.Requested.{requests_from, sender_texts}
use Rattle.beep_desk.specs.beep_script.specs.Script.{message_marks}
use Rattle.beep_replies.specs.Replies.{replies}
use Rattle.beep_steps.specs.Logs.{StandsOn}
use Rattle.beep_steps.specs.Scripting.{RepliesGiven, ScriptedOn, part_given, whole_given}
use Rattle.beep_steps.specs.Sending.{Progress, SendsOn}
use Rattle.beep_steps.proofs.SendDone.{as-sender, one_line}
use Rattle.beep_steps.proofs.SpeakLives.{ends-message, ends-modulo}

-- ---- replies ask nothing

answers-ask : (p place : ℕ) (lines : List (List ℕ)) → ends_of is_msg (flat_map message_marks (answers_from p place lines)) ≡ 0
answers-ask p place [] = refl
answers-ask p place (line ∷ lines) =
    let m = one_line p place line in
    let rest = flat_map message_marks (answers_from p (place + 1) lines) in
    let split = ends-append is_msg (message_marks m) rest in
    let one = ends-message is_msg m false refl in
    let others = answers-ask p (place + 1) lines in
    omega (arith, split, one, others)

reply-asks : (lines : List (List ℕ)) (p : ℕ) → ends_of is_msg (flat_map message_marks (reply_of Command.Send lines p)) ≡ 0
reply-asks lines p =
    let front = if p == 0 then answers_from p 0 lines else [] in
    let split = ap (ends_of is_msg) (flat_map-append message_marks front (nul p ∷ [])) ∙ ends-append is_msg (flat_map message_marks front) (flat_map message_marks (nul p ∷ [])) in
    let first = of (p == 0) in
    let last = ends-append is_msg (message_marks (nul p)) [] in
    let one = ends-message is_msg (nul p) false refl in
    omega (arith, split, first, last, one)
  where
    of : (b : Bool) → ends_of is_msg (flat_map message_marks (if b then answers_from p 0 lines else [])) ≡ 0
    of true = answers-ask p 0 lines
    of false = refl

replies-ask : (plan : PlainPlan) → plan.command ≡ Command.Send → (p count : ℕ) → ends_of is_msg (flat_map message_marks (replies plan p count)) ≡ 0
replies-ask plan sends p zero = refl
replies-ask plan sends p (suc count) =
    let rest = replies plan (p + 1) count in
    let one = reply_of Command.Send plan.lines p in
    let split = ap (λ (ms : List Message). ends_of is_msg (flat_map message_marks (ms ++ rest))) (as-sender plan sends p)
    ∙ ap (ends_of is_msg) (flat_map-append message_marks one rest) ∙ ends-append is_msg (flat_map message_marks one) (flat_map message_marks rest) in
    let first = reply-asks plan.lines p in
    let others = replies-ask plan sends (p + 1) count in
    omega (arith, split, first, others)

given-asks : (plan : PlainPlan) → plan.command ≡ Command.Send → (next : ℕ) (given : List Mark) → RepliesGiven plan next given → ends_of is_msg given ≡ 0
given-asks plan sends next given (part_given is) = ap (ends_of is_msg) is ∙ answers-ask 0 0 (take next plan.lines)
given-asks plan sends next given (whole_given count enough is) =
    ap (ends_of is_msg) is ∙ ends-modulo is_msg (flat_map message_marks (replies plan 0 (count + 1))) ∙ replies-ask plan sends 0 (count + 1)

-- ---- requests among marks

requests-end : (begun : List ℕ) (ms : List Mark) → ends_of is_msg ms ≡ length (requests_from begun ms)
requests-end begun [] = refl
requests-end begun (octet tag value ∷ ms) = requests-end (begun ++ value ∷ []) ms
requests-end begun (end tag ∷ ms) = of (is_msg tag.kind) (requests-end [] ms)
  where
    of : (b : Bool) → ends_of is_msg ms ≡ length (requests_from [] ms)
        → (if b then ends_of is_msg ms + 1 else ends_of is_msg ms) ≡ length (if b then begun ∷ requests_from [] ms else requests_from [] ms)
    of true e = omega (arith, e)
    of false e = e

few-taken : {X : Type 0} (n : ℕ) (a b c : X) → length (take n (a ∷ b ∷ c ∷ [])) ≤ 3
few-taken zero a b c = omega arith
few-taken (suc zero) a b c = omega arith
few-taken (suc (suc zero)) a b c = omega arith
few-taken (suc (suc (suc zero))) a b c = omega arith
few-taken (suc (suc (suc (suc n)))) a b c = omega arith

below : (n : ℕ) → n ≤ 4 → nat_le MAX_REQUESTS n ≡ false
below n few = grind (arith, nat_tests, few)

-- ---- a sender's session

module _ (plan : PlainPlan) (p : Progress) (session : Held) (log : List Moment) where
  -- few requests on channel zero lack a reply that was taken
  pub few-asked : SendsOn plan p session log → nat_le MAX_REQUESTS (asked_of (live_at 0 session.peer.lives)) ≡ false
  few-asked s = of (live_at 0 session.peer.lives) refl
    where
      on : StandsOn session log
      on = s.on

      of : (o : Option Live) → live_at 0 session.peer.lives ≡ o → nat_le MAX_REQUESTS (asked_of o) ≡ false
      of None at = below 0 (omega arith)
      of (Some c) at =
          let stands = s.on.stands.stands.holds.live.zero c at in
          let counted = subst (λ (n : ℕ). IsCounted (n == 0) c.held.life.given (s.on.given 0) (s.on.taken 0)) (live-number 0 session.peer.lives c at) stands.counted in
          let asked = counted.asked in
          let given = requests-end [] (s.on.given 0) ∙ ap length s.sends.asked in
          let few : length (take p.asked (sender_texts plan.raw_uri)) ≤ 3 = few-taken p.asked _ _ _ in
          below c.held.life.given.asked (omega (arith, asked, given, few))

  -- none on channel 1 does
  pub none-asked : ScriptedOn plan p session log → first_asked_of (live_at 1 session.peer.lives) ≡ None
  none-asked x = of (live_at 1 session.peer.lives) refl
    where
      of : (o : Option Live) → live_at 1 session.peer.lives ≡ o → first_asked_of o ≡ None
      of None at = refl
      of (Some c) at =
          let on = x.sends.on in
          let live = on.stands.stands.holds.live in
          let there : is_there 1 on.journal ≡ true = live.there 1 ∙ ap is_some at in
          let asked = (counted-above session.limits.window 1 on.journal on.given on.taken session.peer.lives c refl live at).asked in
          let none = given-asks plan x.sends.sender.command p.next (on.given 1) (x.scripts.lines there) in
          let nothing : c.held.life.given.asked ≡ 0 = omega (arith, asked, none) in
          ap (λ (n : ℕ). if n == 0 then None else Some (message_number c.held.life.given.first_asked)) nothing

  -- and so its close isn't refused
  pub closes-freely : ScriptedOn plan p session log → close_refusal session.peer 1 ≡ None
  closes-freely x =
      ap (λ (o : Option ℕ). either_cause (numbered_cause CloseError.Busy o) (first_of_causes ((CloseError.TooManyAsked, nat_le MAX_REQUESTS (asked_of (live_at 0 session.peer.lives))) ∷ []))) (none-asked x)
      ∙ ap (λ (b : Bool). first_of_causes ((CloseError.TooManyAsked, b) ∷ [])) (few-asked x.sends)
