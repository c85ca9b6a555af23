-- What each call of a session leaves of a sender's script above channel zero.
use Rattle.std.proofs.Common.{◌≡◌, ℕ, ◌≤◌, ◌==◌, true, false, List, [], ◌∷◌, ◌++◌, take, Option, None, Some, refl, sym, ap, ◌∙◌, subst, arith}
use Rattle.std.specs.Prelude.{IfSome, IfNone}
use Rattle.std.proofs.lemmas.Bool.Decides.{nat_tests}
use Rattle.std.proofs.Common.{arith}
use Rattle.beep_session.specs.beep_frame.specs.declared.kind.Kind.{Kind}
use Rattle.beep_session.specs.beep_history.specs.Journal.{Item}
use Rattle.beep_session.specs.beep_history.specs.Marks.{Mark}
use Rattle.beep_session.specs.beep_journal.specs.Life.{is_there}
use Rattle.beep_session.specs.beep_journal.specs.Log.{Moment}
use Rattle.beep_session.specs.beep_lawful.specs.declared.terms.Terms.{Terms}
use Rattle.beep_session.specs.beep_mgmt.specs.Form.{PlainProfile, start}
use Rattle.beep_session.specs.beep_mgmt.specs.Message.{message_text}
use Rattle.beep_session.specs.beep_answering.specs.Sent.{closing_of}
use Rattle.beep_desk.specs.beep_talk.specs.AtZero.{profile_of}
use Rattle.beep_session.specs.beep_inbox.specs.declared.part.Part.{Part}
use Rattle.beep_session.specs.beep_outbox.specs.Queue.{message_marks}
use Rattle.beep_session.specs.beep_standing.specs.Standing.{Marks, with_marks}
use Rattle.beep_session.specs.beep_standing.proofs.SendLemmas.{with-same, with-other}
use Rattle.beep_session.specs.beep_giving.specs.Giving.{next_message}
use Rattle.beep_session.specs.beep_peer.specs.Acts.{IsUnchanged}
use Rattle.beep_session.specs.beep_peer.specs.Peering.{IsPeer}
use Rattle.beep_session.specs.Acts.{AsksZero, start_text}
use Rattle.beep_session.specs.Channels.{IsOfPeer, IsStill, Gives, Takes, Closes}
use Rattle.beep_session.specs.Lawfully.{KeepsUpright}
use Rattle.beep_session.specs.Session.{Held}
use Rattle.beep_desk.specs.beep_talk.specs.Plan.{PlainPlan}
use Rattle.beep_desk.specs.beep_script.specs.Requested.{sender_texts}
use Rattle.beep_desk.specs.beep_script.specs.Sending.{LinesGiven}
use Rattle.beep_steps.specs.Sending.{Progress}
use Rattle.beep_steps.specs.Scripting.{RepliesGiven, Scripts, ScriptedOn, ScriptedWaiting, KeepsScripting}
use Rattle.beep_steps.proofs.CallSends.{unchanged-sends, asks-sends, gives-sends, takes-sends}

-- ---- what was given

-- what was given on each channel above zero stays
same-given : (plan : PlainPlan) (p : Progress) (journal : List Item) (given now : Marks) → Scripts plan p journal given → ((n : ℕ) → (n == 0) ≡ false → now n ≡ given n) → Scripts plan p journal now
same-given plan p journal given now x same = record {
  kept = x.kept;
  lines = λ alive. subst (λ (ms : List Mark). RepliesGiven plan p.next ms) (sym (same 1 refl)) (x.lines alive);
  none = λ n above apart alive. same n above ∙ x.none n above apart alive;
}

zero-apart : (n : ℕ) → (n == 0) ≡ false → (0 == n) ≡ false
zero-apart n e = grind (arith, nat_tests)

one-apart : (n : ℕ) → (n == 1) ≡ false → (1 == n) ≡ false
one-apart n e = grind (arith, nat_tests)

module _ (plan : PlainPlan) (old new : Held) (same : IsOfPeer old new) where
  pub unchanged-scripts : (p : Progress) → IsUnchanged old.peer new.peer → KeepsUpright old new → KeepsScripting plan p p old new
  unchanged-scripts p g upright log s = record { sends = unchanged-sends plan old new same p g upright log s.sends; scripts = s.scripts }

  pub asks-scripts : (p q : Progress) (text : List ℕ) → take p.asked (sender_texts plan.raw_uri) ++ text ∷ [] ≡ take q.asked (sender_texts plan.raw_uri) → q ≡ record p { asked = q.asked }
      → ((2 ≤ p.asked → p.is_sent ≡ true) → 2 ≤ q.asked → p.is_sent ≡ true)
      → ((fed rest : List ℕ) (journal : List Item) (given taken : Marks) → IsPeer old.limits.window fed rest journal given taken old.peer
      → AsksZero old.limits.window fed rest journal given taken text new.peer) → KeepsUpright old new → KeepsScripting plan p q old new
  asks-scripts p q text next is_q sent f upright log s =
      let on = s.sends.on in
      let a = f on.fed on.rest on.journal on.given on.taken on.stands.stands in
      record {
        sends = asks-sends plan old new same p q text next is_q sent f upright log s.sends;
        scripts = subst (λ (r : Progress). Scripts plan r on.journal (with_marks 0 (on.given 0 ++ message_marks a.ask) on.given)) (sym is_q)
            (asked-more on.journal on.given (with_marks 0 (on.given 0 ++ message_marks a.ask) on.given)
            (λ n above. with-other 0 n (on.given 0 ++ message_marks a.ask) on.given (zero-apart n above)) s.scripts);
      }
    where
      asked-more : (journal : List Item) (given now : Marks) → ((n : ℕ) → (n == 0) ≡ false → now n ≡ given n) → Scripts plan p journal given → Scripts plan (record p { asked = q.asked }) journal now
      asked-more journal given now same x =
          let y = same-given plan p journal given now x same in record { kept = y.kept; lines = y.lines; none = y.none }

  -- a message is given on channel 1
  pub gives-scripts : (p q : Progress) (kind : Kind) (octets : List ℕ)
      → ((given : List Mark) → LinesGiven plan.lines p.next given → LinesGiven plan.lines q.next (given ++ message_marks (next_message kind octets given)))
      → ((given : List Mark) → RepliesGiven plan p.next given → RepliesGiven plan q.next (given ++ message_marks (next_message kind octets given)))
      → q ≡ record p { next = q.next } → Gives 1 kind octets old new → KeepsUpright old new
      → ((journal : List Item) (given taken : Marks) (fed rest : List ℕ) → IsPeer old.limits.window fed rest journal given taken old.peer → is_there 1 journal ≡ true)
      → KeepsScripting plan p q old new
  gives-scripts p q kind octets next more is_q g upright alive log s =
      let on = s.sends.on in
      record {
        sends = gives-sends plan old new same p q kind octets next is_q g upright alive log s.sends;
        scripts = subst (λ (r : Progress). Scripts plan r on.journal (with_marks 1 (on.given 1 ++ message_marks (next_message kind octets (on.given 1))) on.given)) (sym is_q)
            (given-more on.journal on.given (alive on.journal on.given on.taken on.fed on.rest on.stands.stands) s.scripts);
      }
    where
      given-more : (journal : List Item) (given : Marks) → is_there 1 journal ≡ true → Scripts plan p journal given
          → Scripts plan (record p { next = q.next }) journal (with_marks 1 (given 1 ++ message_marks (next_message kind octets (given 1))) given)
      given-more journal given there x = record {
        kept = x.kept;
        lines = λ is. subst (λ (ms : List Mark). RepliesGiven plan q.next ms) (sym (with-same 1 (given 1 ++ message_marks (next_message kind octets (given 1))) given)) (more (given 1) (x.lines there));
        none = λ n above apart is. with-other 1 n (given 1 ++ message_marks (next_message kind octets (given 1))) given (one-apart n apart) ∙ x.none n above apart is;
      }

  -- a part is taken
  pub takes-scripts : (p : Progress) (number : ℕ) (part : Part) (octets : List ℕ) → Takes number part octets old new → KeepsUpright old new → KeepsScripting plan p p old new
  takes-scripts p number part octets g upright log s =
      let on = s.sends.on in
      let m = g.takes on.fed on.rest on.journal on.given on.taken on.stands.stands in
      record {
        sends = takes-sends plan old new same p number part octets g upright log s.sends;
        scripts = same-given plan p on.journal on.given m.given_now s.scripts (λ n above. m.same n (zero-apart n above));
      }

-- a part that is taken, or none
pub took-scripts : (plan : PlainPlan) (p : Progress) (result : Option Part) (number : ℕ) (octets : List ℕ) (old mid new : Held) → mid ≡ old
    → IfSome result (λ part. Takes number part octets mid new) → KeepsUpright mid new → IfNone result (new ≡ mid) → KeepsScripting plan p p old new
took-scripts plan p None number octets old mid new same some upright none = subst (KeepsScripting plan p p old) (sym (none ∙ same)) (λ log s. s)
took-scripts plan p (Some part) number octets old mid new same some upright none =
    subst (λ (x : Held). KeepsScripting plan p p x new) same (takes-scripts plan mid new some.same p number part octets some upright)

-- ---- what a sender asks and gives

-- its plan has the terms of its session
pub with-terms-scripted : (plan : PlainPlan) (terms : Terms) (p : Progress) (session : Held) (log : List Moment) → terms ≡ plan.terms → ScriptedOn plan p session log
    → ScriptedOn (record plan { terms = terms }) p session log
with-terms-scripted plan terms p session log same s = subst (λ (t : Terms). ScriptedOn (record plan { terms = t }) p session log) (sym same) s

pub waits-terms-scripted : (plan : PlainPlan) (terms : Terms) (p : Progress) (session : Held) (log : List Moment) → terms ≡ plan.terms → ScriptedWaiting plan p session log
    → ScriptedWaiting (record plan { terms = terms }) p session log
waits-terms-scripted plan terms p session log same s = subst (λ (t : Terms). ScriptedWaiting (record plan { terms = t }) p session log) (sym same) s

module _ (plan : PlainPlan) (p : Progress) (old new : Held) where
  pub still-scripts : IsStill old new → KeepsUpright old new → KeepsScripting plan p p old new
  still-scripts s upright = unchanged-scripts plan old new s.same p s.peer upright

  -- the start of channel 1, its close, and the release
  pub starts-scripts : (profiles : List PlainProfile) → profiles ≡ profile_of plan.raw_uri ∷ [] → p.asked ≡ 0 → IsOfPeer old new
      → ((fed rest : List ℕ) (journal : List Item) (given taken : Marks) → IsPeer old.limits.window fed rest journal given taken old.peer
      → AsksZero old.limits.window fed rest journal given taken (start_text 1 profiles) new.peer) → KeepsUpright old new → KeepsScripting plan p (record p { asked = 1 }) old new
  starts-scripts profiles are at same f upright =
      asks-scripts plan old new same p (record p { asked = 1 }) (start_text 1 profiles)
      (ap (λ (n : ℕ). take n (sender_texts plan.raw_uri) ++ start_text 1 profiles ∷ []) at ∙ ap (λ (ps : List PlainProfile). start_text 1 ps ∷ []) are) refl (λ was two. absurd (omega (arith, two))) f upright

  pub closes-scripts : (number : ℕ) → number ≡ 1 → p.asked ≡ 1 → p.is_sent ≡ true → Closes number old new → KeepsUpright old new → KeepsScripting plan p (record p { asked = 2 }) old new
  closes-scripts number is at sent g upright =
      asks-scripts plan old new g.same p (record p { asked = 2 }) (message_text (closing_of number))
      (ap (λ (n : ℕ). take n (sender_texts plan.raw_uri) ++ message_text (closing_of number) ∷ []) at
      ∙ ap (λ (n : ℕ). message_text (start 1 None (profile_of plan.raw_uri ∷ [])) ∷ message_text (closing_of n) ∷ []) is) refl (λ was two. sent) g.closes upright

  pub releases-scripts : p.asked ≡ 2 → IsOfPeer old new
      → ((fed rest : List ℕ) (journal : List Item) (given taken : Marks) → IsPeer old.limits.window fed rest journal given taken old.peer
      → AsksZero old.limits.window fed rest journal given taken (message_text (closing_of 0)) new.peer) → KeepsUpright old new → KeepsScripting plan p (record p { asked = 3 }) old new
  releases-scripts at same f upright =
      asks-scripts plan old new same p (record p { asked = 3 }) (message_text (closing_of 0))
      (ap (λ (n : ℕ). take n (sender_texts plan.raw_uri) ++ message_text (closing_of 0) ∷ []) at) refl (λ was three. was (omega (arith, at))) f upright
