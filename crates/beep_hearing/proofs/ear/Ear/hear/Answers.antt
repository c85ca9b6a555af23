-- A frame that stands whole, or one step of the decoder.
use Rattle.std.proofs.Common.{List, sym, subst₂}
use Rattle.beep_standing.specs.beep_channel.specs.Held.{Live}
use Rattle.beep_hearing.specs.declared.ear.Ear.{Ear}
use Rattle.beep_hearing.specs.Hears.{IsEar}
use Rattle.beep_hearing.specs.Answers.{IsHeld}
use Rattle.beep_hearing.specs.Left.{IfUnder}
use Rattle.beep_hearing.proofs.RoomLemmas.{room-then}
use Rattle.beep_hearing.proofs.ear.Ear.hear.Goals as goal

pub follow-requires : goal.follow-requires
follow-requires c =
    let same = c.pass_whole.ensures.none c.in_default.is in
    record {
      held = subst₂ (λ (e : Ear) (l : List Live). IsHeld e l) (sym same.0) (sym same.1) c.requires.held;
      room = subst₂ (λ (e : Ear) (l : List Live). IfUnder e l) (sym same.0) (sym same.1) c.requires.room;
      some = c.requires.some;
    }

pub returns-clause-answers : goal.returns-clause-answers
returns-clause-answers c size fed rest journal given taken s =
    let same = c.pass_whole.ensures.none c.in_default.is in
    c.follow.ensures.answers size fed rest journal given taken (subst₂ (λ (e : Ear) (l : List Live). IsEar size fed rest journal given taken e l) (sym same.0) (sym same.1) s)

pub returns-clause-room : goal.returns-clause-room
returns-clause-room c = room-then c.args.lives.now c.pass_whole.new.lives c.follow.new.lives c.pass_whole.ensures.room c.follow.ensures.room
