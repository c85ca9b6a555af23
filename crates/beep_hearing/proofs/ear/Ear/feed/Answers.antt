-- One step after another.
use Rattle.std.proofs.Common.{◌≡◌, ◌+◌, ◌-◌, length, take, drop, Option, None, Some, refl, sym, subst, ◌∙◌, arith, length-take, length-drop}
use Rattle.std.proofs.Math.Logic.{∥∥₁_elim}
use denote.Struct.Props.{props}
use Rattle.beep_hearing.specs.declared.heard.Heard.{Heard}
use Rattle.beep_hearing.specs.declared.stopped.Stopped.{Stopped}
use Rattle.beep_hearing.specs.Answers.{Answers, IsWaiting}
use Rattle.beep_hearing.proofs.FeedLemmas.{goes_none, goes_roomed, held_roomed, step_answers, step_held, answers_reached, answers_waiting}
use Rattle.beep_hearing.proofs.ear.Ear.feed.Goals as goal

pub loop-at-init : goal.loop-at-init
loop-at-init c =
    let none = c.over.ensures.none c.in_default.is in
    record {
      within = omega arith;
      room = λ octets messages h. h;
      held = c.requires.reached none.0 none.1;
      goes = λ size fed rest journal given taken s. goes_none size fed rest journal given taken c.args.self.now c.args.lives.now s;
    }

pub hear-count-requires-clause-held : goal.hear-count-requires-clause-held
hear-count-requires-clause-held c = held_roomed c.loop-at.self c.loop-at.lives c.make_room.new.lives c.make_room.ensures.kept c.loop-at.invariant.held

pub returns-in-Some-clause-answers : goal.returns-in-Some-clause-answers
returns-in-Some-clause-answers c size fed rest journal given taken s = absurd (cc (sym c.in-Some.is ∙ c.over.ensures.going s.hears.going s.hears.none))

pub returns-in-Err-clause-answers : goal.returns-in-Err-clause-answers
returns-in-Err-clause-answers c size fed rest journal given taken s =
    goes_roomed size (take c.loop-at.at c.args.bytes.now) fed journal given taken c.loop-at.self c.loop-at.lives c.make_room.new.lives
    (c.loop-at.invariant.goes size fed rest journal given taken s) c.make_room.ensures.kept

pub loop-at-preserved : goal.loop-at-preserved
loop-at-preserved c =
    let bytes = c.args.bytes.now in
    let at = c.loop-at.at in
    let count = c.hear-count.result.0 in
    let heard = c.hear-count.result.1 in
    let more : heard ≡ Heard.More = c.is_more.ensures.0 c.if-not-is_more.false in
    record {
      within = grind (arith, length-take, length-drop, c.hear-count.ensures.within);
      room = λ octets messages h. c.hear-count.ensures.room octets messages (c.make_room.ensures.room octets messages (c.loop-at.invariant.room octets messages h));
      held = step_held (take count (take (length bytes - at) (drop at bytes))) heard c.loop-at.self c.hear-count.new.self c.loop-at.lives c.make_room.new.lives c.hear-count.new.lives more
          c.make_room.ensures.kept c.hear-count.ensures.answers c.loop-at.invariant.held;
      goes = λ size fed rest journal given taken s.
          subst (λ (h : Heard). Answers h size (take (at + count) bytes) fed journal given taken c.hear-count.new.self c.hear-count.new.lives) more
          (step_answers bytes at count heard c.loop-at.self c.hear-count.new.self c.loop-at.lives c.make_room.new.lives c.hear-count.new.lives size fed journal given taken
          (c.loop-at.invariant.goes size fed rest journal given taken s) c.make_room.ensures.kept c.hear-count.ensures.answers);
    }

pub returns-then-not-is_more-clause-answers : goal.returns-then-not-is_more-clause-answers
returns-then-not-is_more-clause-answers c size fed rest journal given taken s =
    step_answers c.args.bytes.now c.loop-at.at c.hear-count.result.0 c.hear-count.result.1 c.loop-at.self c.hear-count.new.self c.loop-at.lives c.make_room.new.lives c.hear-count.new.lives size fed journal given taken
    (c.loop-at.invariant.goes size fed rest journal given taken s) c.make_room.ensures.kept c.hear-count.ensures.answers

pub returns-clause-answers : goal.returns-clause-answers
returns-clause-answers c size fed rest journal given taken s = c.loop-at.invariant.goes size fed rest journal given taken s

pub returns-in-Some-clause-reached : goal.returns-in-Some-clause-reached
returns-in-Some-clause-reached c = c.requires.reached

pub returns-in-Some-clause-waits : goal.returns-in-Some-clause-waits
returns-in-Some-clause-waits c head none zero = of c.args.self.now.broken refl
  where
    of : (broken : Option Stopped) → c.args.self.now.broken ≡ broken → IsWaiting c.args.self.now c.args.lives.now
    of None going = absurd (cc (sym c.in-Some.is ∙ c.over.ensures.going going none))
    of (Some stopped) broken = absurd (cc (sym zero ∙ same (sym c.in-Some.is ∙ c.over.ensures.broken stopped broken)))
      where
        same : Some c.in-Some.answer ≡ Some (Heard.Broken stopped.rule stopped.place) → c.in-Some.answer ≡ Heard.Broken stopped.rule stopped.place
        same e = cc

pub returns-in-Err-clause-reached : goal.returns-in-Err-clause-reached
returns-in-Err-clause-reached c going none = held_roomed c.loop-at.self c.loop-at.lives c.make_room.new.lives c.make_room.ensures.kept c.loop-at.invariant.held

pub returns-then-not-is_more-clause-reached : goal.returns-then-not-is_more-clause-reached
returns-then-not-is_more-clause-reached c going none =
    ∥∥₁_elim (held_roomed c.loop-at.self c.loop-at.lives c.make_room.new.lives c.make_room.ensures.kept c.loop-at.invariant.held) (hlevel props) (λ s.
    answers_reached s.0 _ s.1 s.3 s.4 s.5 c.hear-count.new.self c.hear-count.new.lives c.hear-count.result.1 (c.hear-count.ensures.answers s.0 s.1 s.2 s.3 s.4 s.5 s.6) going none)

pub returns-then-not-is_more-clause-waits : goal.returns-then-not-is_more-clause-waits
returns-then-not-is_more-clause-waits c head none zero =
    ∥∥₁_elim (held_roomed c.loop-at.self c.loop-at.lives c.make_room.new.lives c.make_room.ensures.kept c.loop-at.invariant.held) (hlevel props) (λ s.
    answers_waiting s.0 _ s.1 s.3 s.4 s.5 c.hear-count.new.self c.hear-count.new.lives c.hear-count.result.1 head zero (c.hear-count.ensures.answers s.0 s.1 s.2 s.3 s.4 s.5 s.6))

pub returns-clause-reached : goal.returns-clause-reached
returns-clause-reached c going none = c.loop-at.invariant.held

pub returns-in-Err-clause-room : goal.returns-in-Err-clause-room
returns-in-Err-clause-room c octets messages h = c.make_room.ensures.room octets messages (c.loop-at.invariant.room octets messages h)

pub returns-then-not-is_more-clause-room : goal.returns-then-not-is_more-clause-room
returns-then-not-is_more-clause-room c octets messages h =
    c.hear-count.ensures.room octets messages (c.make_room.ensures.room octets messages (c.loop-at.invariant.room octets messages h))
