-- An answer that is given is that of the line; one that finds no room leaves a sender so far.
use Rattle.std.proofs.Common.{◌≡◌, ◌∷◌, [], rules}
use Rattle.beep_steps.specs.prof_raw.specs.Entries.{body_of}
use Rattle.beep_steps.proofs.CallSends.{still-sends}
use Rattle.beep_sender.proofs.SenderLemmas.{answers-sends}
use Rattle.beep_steps.proofs.CallScripts.{still-scripts}
use Rattle.beep_sender.proofs.ScriptedLemmas.{answers-scripts}
use Rattle.beep_steps.specs.beep_journal.proofs.MomentLemmas.{above-zero, positive}
use Rattle.beep_steps.specs.beep_frame.specs.declared.kind.Kind.{Kind}
use Rattle.beep_sender.proofs.AskingLemmas.{gives-asking, still-asking}
use Rattle.beep_sender.proofs.RestingLemmas.{full-at}
use Rattle.beep_sender.proofs.sender.giving.give_line.Goals as goal

pub returns-in-Ok-clause-sends : goal.returns-in-Ok-clause-sends
returns-in-Ok-clause-sends c plan p at is =
    let body : c.as_slice.result.now ≡ body_of (c.args.line.now ∷ []) = search rules in
    answers-sends plan p c.args.answering.now.at is c.args.answering.now.session.now c.answer.new.self.session.now c.args.answering.now.open c.answer.ensures.upright
    c.args.line.now c.as_slice.result.now at body c.in-Ok.ensures.ok

pub returns-in-Err-Full-clause-sends : goal.returns-in-Err-Full-clause-sends
returns-in-Err-Full-clause-sends c plan p at is =
    still-sends plan p c.args.answering.now.session.now c.answer.new.self.session.now c.in-Err-Full.ensures.err c.answer.ensures.upright

pub returns-in-Err-NoMemory-clause-sends : goal.returns-in-Err-NoMemory-clause-sends
returns-in-Err-NoMemory-clause-sends c plan p at is =
    still-sends plan p c.args.answering.now.session.now c.answer.new.self.session.now c.in-Err-NoMemory.ensures.err c.answer.ensures.upright

pub returns-in-Ok-clause-scripted : goal.returns-in-Ok-clause-scripted
returns-in-Ok-clause-scripted c plan p at is =
    let body : c.as_slice.result.now ≡ body_of (c.args.line.now ∷ []) = search rules in
    answers-scripts plan p c.args.answering.now.at is c.args.answering.now.session.now c.answer.new.self.session.now c.args.answering.now.open c.answer.ensures.upright
    c.args.line.now c.as_slice.result.now at body c.in-Ok.ensures.ok

pub returns-in-Err-Full-clause-scripted : goal.returns-in-Err-Full-clause-scripted
returns-in-Err-Full-clause-scripted c plan p at is =
    still-scripts plan p c.args.answering.now.session.now c.answer.new.self.session.now c.in-Err-Full.ensures.err c.answer.ensures.upright

pub returns-in-Err-NoMemory-clause-scripted : goal.returns-in-Err-NoMemory-clause-scripted
returns-in-Err-NoMemory-clause-scripted c plan p at is =
    still-scripts plan p c.args.answering.now.session.now c.answer.new.self.session.now c.in-Err-NoMemory.ensures.err c.answer.ensures.upright

pub returns-in-Ok-clause-asking : goal.returns-in-Ok-clause-asking
returns-in-Ok-clause-asking c plan =
    let one = c.args.answering.now in
    gives-asking plan one.at (above-zero one.at (positive one.at one.open.above)) Kind.Ans c.as_slice.result.now one.session.now c.answer.new.self.session.now c.in-Ok.ensures.ok c.answer.ensures.upright

pub returns-in-Err-Full-clause-asking : goal.returns-in-Err-Full-clause-asking
returns-in-Err-Full-clause-asking c plan = still-asking plan c.args.answering.now.session.now c.answer.new.self.session.now c.in-Err-Full.ensures.err c.answer.ensures.upright

pub returns-in-Err-NoMemory-clause-asking : goal.returns-in-Err-NoMemory-clause-asking
returns-in-Err-NoMemory-clause-asking c plan = still-asking plan c.args.answering.now.session.now c.answer.new.self.session.now c.in-Err-NoMemory.ensures.err c.answer.ensures.upright

-- where it finds no room something is unsent
pub returns-in-Err-Full-clause-rests : goal.returns-in-Err-Full-clause-rests
returns-in-Err-Full-clause-rests c none small =
    let one = c.args.answering.now in
    let body : c.as_slice.result.now ≡ body_of (c.args.line.now ∷ []) = search rules in
    full-at one.at one.session.now c.answer.new.self.session.now c.as_slice.result.now c.args.line.now body small _ c.in-Err-Full.ensures.err (c.in-Err-Full.ensures.refused (λ is. absurd (cc is)))
