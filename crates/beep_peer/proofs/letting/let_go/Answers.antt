-- One answer after another.
use Rattle.std.proofs.Common.{◌≡◌, ℕ, ◌≤◌, true, false, List, length, sym, subst, arith}
use Rattle.std.specs.Prelude.{IfSome}
use Rattle.beep_upright.specs.beep_outbox.specs.declared.outbox.TheConstants.{MAX_UNLIMITED}
use Rattle.beep_upright.specs.beep_outbox.specs.Queue.{message_marks}
use Rattle.beep_upright.specs.beep_channel.specs.Held.{IsReply, next_reply}
use Rattle.beep_upright.specs.beep_lives.specs.Lives.{live_at}
use Rattle.beep_upright.specs.beep_lives.specs.Edits.{Edits, Gives, UsesRoom}
use Rattle.beep_upright.specs.beep_management.specs.Values.{prepared_of}
use Rattle.beep_peer.proofs.DrainedLemmas.{drained-other, lets-one, lets-nothing, keeps-all, keeps-more}
use Rattle.beep_peer.proofs.OwedLemmas.{lets-none, lets-held, lets-more, surely-let, zero-there, answer-may, answer-fits, first-then, first-rest, rest-of}
use Rattle.beep_peer.proofs.FallLemmas.{lets-left}
use Rattle.beep_peer.proofs.LetGoLemmas.{let-upright}
use Rattle.beep_peer.proofs.letting.let_go.Goals as goal

pub loop-answer-init : goal.loop-answer-init
loop-answer-init c = record {
  goes = λ size journal given taken h. lets-none size journal given taken c.args.lives.now c.args.management.now h;
  lets = lets-nothing c.args.lives.now c.args.management.now;
  same = λ number drained. drained;
  kept = keeps-all c.args.lives.now;
  falls = omega arith;
}

pub give_reply-requires-clause-live : goal.give_reply-requires-clause-live
give_reply-requires-clause-live c =
    zero-there c.loop-answer.lives c.loop-answer.management
    (lets-held c.args.lives.now c.loop-answer.lives c.args.management.now c.loop-answer.management c.loop-answer.invariant.goes c.requires.held)

pub give_reply-requires-clause-may : goal.give_reply-requires-clause-may
give_reply-requires-clause-may c =
    let first = prepared_of c.in-Some.answer.now in
    let m = c.loop-answer.management in
    subst (λ (o : List ℕ). IfSome (live_at 0 c.loop-answer.lives) (λ channel. IsReply channel.held c.in-Some.answer.now.kind o)) (sym c.as_slice.ensures)
    (answer-may c.loop-answer.lives m (lets-held c.args.lives.now c.loop-answer.lives c.args.management.now m c.loop-answer.invariant.goes c.requires.held)
    first (rest-of m.answers) (first-then m.answers first c.in-Some.ensures.first))

pub give_reply-requires-clause-fits : goal.give_reply-requires-clause-fits
give_reply-requires-clause-fits c zero =
    let first = prepared_of c.in-Some.answer.now in
    let m = c.loop-answer.management in
    subst (λ (o : List ℕ). length o ≤ MAX_UNLIMITED) (sym c.as_slice.ensures)
    (answer-fits c.loop-answer.lives m (lets-held c.args.lives.now c.loop-answer.lives c.args.management.now m c.loop-answer.invariant.goes c.requires.held)
    first (rest-of m.answers) (first-then m.answers first c.in-Some.ensures.first))

pub loop-answer-preserved-in-Ok : goal.loop-answer-preserved-in-Ok
loop-answer-preserved-in-Ok c =
    let first = prepared_of c.in-Some.answer.now in
    let m = c.loop-answer.management in
    record {
      goes = λ size journal given taken h.
          lets-more size journal given taken c.args.management.now.answers c.loop-answer.lives c.give_reply.new.self m (c.loop-answer.invariant.goes size journal given taken h) c.take_answer-given.new.self first
          (first-rest m.answers c.take_answer-given.new.self.answers first c.take_answer-given.result c.in-Some.ensures.first c.take_answer-given.ensures.split c.take_answer-given.ensures.none)
          c.take_answer-given.ensures.same
          (subst (λ (o : List ℕ). IfSome (live_at 0 c.loop-answer.lives) (λ channel. Edits 0 (Gives (message_marks (next_reply channel.held c.in-Some.answer.now.kind o)))
          c.loop-answer.lives c.give_reply.new.self)) c.as_slice.ensures c.in-Ok.ensures.ok)
          (subst (λ (o : List ℕ). Edits 0 (UsesRoom (length o)) c.loop-answer.lives c.give_reply.new.self) c.as_slice.ensures c.in-Ok.ensures.used);
      lets = lets-one c.args.lives.now c.loop-answer.lives c.args.management.now m c.loop-answer.invariant.same c.loop-answer.invariant.lets first c.take_answer-given.new.self c.in-Some.ensures.come
          (first-rest m.answers c.take_answer-given.new.self.answers first c.take_answer-given.result c.in-Some.ensures.first c.take_answer-given.ensures.split c.take_answer-given.ensures.none)
          c.take_answer-given.ensures.same;
      same = λ number drained. c.loop-answer.invariant.same number
          (drained-other (UsesRoom (length c.as_slice.result.now)) c.loop-answer.lives c.give_reply.new.self number c.in-Ok.ensures.used drained);
      kept = keeps-more (UsesRoom (length c.as_slice.result.now)) c.args.lives.now c.loop-answer.lives c.give_reply.new.self c.loop-answer.invariant.kept c.in-Ok.ensures.used;
      falls =
          let less = lets-left c.loop-answer.lives c.give_reply.new.self m c.take_answer-given.new.self first
          (lets-held c.args.lives.now c.loop-answer.lives c.args.management.now m c.loop-answer.invariant.goes c.requires.held)
          (first-rest m.answers c.take_answer-given.new.self.answers first c.take_answer-given.result c.in-Some.ensures.first c.take_answer-given.ensures.split c.take_answer-given.ensures.none)
          c.take_answer-given.ensures.same
          (subst (λ (o : List ℕ). IfSome (live_at 0 c.loop-answer.lives) (λ channel. Edits 0 (Gives (message_marks (next_reply channel.held c.in-Some.answer.now.kind o)))
          c.loop-answer.lives c.give_reply.new.self)) c.as_slice.ensures c.in-Ok.ensures.ok) in
          omega (arith, less, c.loop-answer.invariant.falls);
    }

pub unreachable-requires : goal.unreachable-requires
unreachable-requires c =
    let first = prepared_of c.in-Some.answer.now in
    let m = c.loop-answer.management in
    let none : false ≡ true = surely-let c.loop-answer.lives m (lets-held c.args.lives.now c.loop-answer.lives c.args.management.now m c.loop-answer.invariant.goes c.requires.held)
    first (rest-of m.answers) (first-then m.answers first c.in-Some.ensures.first) c.as_slice.result.now c.as_slice.ensures c.in-Err.ensures.succeeds in
    cc

pub returns-clause-upright : goal.returns-clause-upright
returns-clause-upright c = λ terms journal given taken h u.
    let-upright terms journal given taken c.args.lives.now c.loop-answer.lives c.args.management.now c.loop-answer.management h
    (c.loop-answer.invariant.goes terms.window journal given taken h) c.loop-answer.invariant.lets c.loop-answer.invariant.kept u
