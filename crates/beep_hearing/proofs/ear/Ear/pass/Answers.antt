-- What a frame makes, by its channel and by whether its message goes on.
use Rattle.std.proofs.Common.{◌≡◌, ◌==◌, ℕ, List, ◌∷◌, Some, length, refl, sym, ap, subst, subst₂, ◌∙◌}
use Rattle.std.proofs.Math.Logic.{∥∥₁_elim}
use denote.Struct.Props.{props}
use Rattle.beep_standing.specs.beep_frame.specs.declared.head.Head.{Head}
use Rattle.beep_standing.specs.beep_history.specs.declared.journal.Side.{Side}
use Rattle.beep_standing.specs.beep_history.specs.Journal.{passed}
use Rattle.beep_standing.specs.beep_lives.specs.Lives.{live_at, receiving_of}
use Rattle.beep_standing.specs.Standing.{AreLiveBy}
use Rattle.beep_hearing.specs.declared.heard.Heard.{Heard}
use Rattle.beep_hearing.specs.Hears.{PassesBy}
use Rattle.beep_hearing.specs.Left.{Gathers}
use Rattle.beep_hearing.proofs.AnswerLemmas.{has-room}
use Rattle.beep_hearing.proofs.RoomLemmas.{room-others, room-then}
use Rattle.beep_hearing.proofs.ear.Ear.pass.Goals as goal

pub frame-frame-requires : goal.frame-frame-requires
frame-frame-requires c = record { whole = ∥∥₁_elim c.requires.may (hlevel props) (λ m. m.is_whole.whole) }

pub hear_frame-requires-clause-begun : goal.hear_frame-requires-clause-begun
hear_frame-requires-clause-begun c other has = ∥∥₁_elim c.requires.may (hlevel props) (λ m.
    let e = c.frame-frame.ensures m.is_whole.octets m.is_whole.frames m.head m.payload m.is_whole.was_fed in
    m.begun other (subst (λ (h : Head). receiving_of (live_at h.channel c.args.lives.now) ≡ Some other) e.0 has) ∙ sym e.0)

pub hear_frame-requires-clause-sized : goal.hear_frame-requires-clause-sized
hear_frame-requires-clause-sized c = ∥∥₁_elim c.requires.may (hlevel props) (λ m.
    let e = c.frame-frame.ensures m.is_whole.octets m.is_whole.frames m.head m.payload m.is_whole.was_fed in
    ap (λ (p : List ℕ). length p) e.1 ∙ m.is_whole.sized ∙ ap (λ (h : Head). h.size) (sym e.0))

pub hear_frame-requires-clause-room : goal.hear_frame-requires-clause-room
hear_frame-requires-clause-room c = has-room c.args.self.now c.args.lives.now c.frame-frame.result.head c.requires.may
    (λ m. (c.frame-frame.ensures m.is_whole.octets m.is_whole.frames m.head m.payload m.is_whole.was_fed).0)

pub hear_frame-requires-2-clause-begun : goal.hear_frame-requires-2-clause-begun
hear_frame-requires-2-clause-begun c other has = ∥∥₁_elim c.requires.may (hlevel props) (λ m.
    let e = c.frame-frame.ensures m.is_whole.octets m.is_whole.frames m.head m.payload m.is_whole.was_fed in
    m.begun other (subst (λ (h : Head). receiving_of (live_at h.channel c.args.lives.now) ≡ Some other) e.0 has) ∙ sym e.0)

pub hear_frame-requires-2-clause-sized : goal.hear_frame-requires-2-clause-sized
hear_frame-requires-2-clause-sized c = ∥∥₁_elim c.requires.may (hlevel props) (λ m.
    let e = c.frame-frame.ensures m.is_whole.octets m.is_whole.frames m.head m.payload m.is_whole.was_fed in
    ap (λ (p : List ℕ). length p) e.1 ∙ m.is_whole.sized ∙ ap (λ (h : Head). h.size) (sym e.0))

pub hear_frame-requires-2-clause-room : goal.hear_frame-requires-2-clause-room
hear_frame-requires-2-clause-room c = has-room c.args.self.now c.args.lives.now c.frame-frame.result.head c.requires.may
    (λ m. (c.frame-frame.ensures m.is_whole.octets m.is_whole.frames m.head m.payload m.is_whole.was_fed).0)

pub drop_untaken-requires : goal.drop_untaken-requires
drop_untaken-requires c = record { live = c.hear_frame-2.ensures.zero ∙ ∥∥₁_elim c.requires.may (hlevel props) (λ m. m.zero) }

pub returns-then-head-ne0-clause-above : goal.returns-then-head-ne0-clause-above
returns-then-head-ne0-clause-above c head payload w above =
    let e = c.frame-frame.ensures w.octets w.frames head payload w.was_fed in (
      ap (λ (h : Head). Heard.Arrived h.channel) e.0,
      refl,
      λ size journal given taken s begun.
          subst₂ (λ (h : Head) (p : List ℕ). AreLiveBy size (passed Side.Received h p ∷ journal) given taken c.hear_frame.new.lives) e.0 e.1
          (c.hear_frame.ensures.above size journal given taken s (begun ∙ ap (λ (h : Head). Some h) (sym e.0)) (ap (λ (h : Head). h.channel == 0) e.0 ∙ above)),
    )

pub returns-then-not-head-clause-last : goal.returns-then-not-head-clause-last
returns-then-not-head-clause-last c head payload w zero last =
    let e = c.frame-frame.ensures w.octets w.frames head payload w.was_fed in (
      ap (λ (h : Head). Heard.Zero h) e.0,
      ap (λ (h : Head). record c.args.self.now { waits = Some h; text = c.gather.new.self }) e.0,
      subst (λ (p : List ℕ). Gathers c.args.self.now.text c.gather.new.self p) e.1 c.gather.ensures,
      refl,
    )

pub returns-clause-part : goal.returns-clause-part
returns-clause-part c head payload w zero more =
    let e = c.frame-frame.ensures w.octets w.frames head payload w.was_fed in (
      refl,
      refl,
      subst (λ (p : List ℕ). Gathers c.args.self.now.text c.gather.new.self p) e.1 c.gather.ensures,
      λ size journal given taken s begun.
          subst₂ (λ (h : Head) (p : List ℕ). PassesBy size (passed Side.Received h p ∷ journal) given taken c.drop_untaken.new.lives) e.0 e.1
          (c.drop_untaken.ensures.passes size (passed Side.Received c.frame-frame.result.head c.frame-frame.result.payload.now ∷ journal)
          (passed Side.Received c.frame-frame.result.head c.frame-frame.result.payload.now ∷ journal) given taken
          (c.hear_frame-2.ensures.part size journal given taken s (begun ∙ ap (λ (h : Head). Some h) (sym e.0)) (ap (λ (h : Head). h.channel == 0) e.0 ∙ zero) (ap (λ (h : Head). h.more) e.0 ∙ more))),
    )

pub returns-then-head-ne0-clause-room : goal.returns-then-head-ne0-clause-room
returns-then-head-ne0-clause-room c =
    room-others c.frame-frame.result.head.channel c.args.lives.now c.hear_frame.new.lives c.hear_frame.ensures.others

pub returns-clause-room : goal.returns-clause-room
returns-clause-room c =
    room-then c.args.lives.now c.hear_frame-2.new.lives c.drop_untaken.new.lives
    (room-others c.frame-frame.result.head.channel c.args.lives.now c.hear_frame-2.new.lives c.hear_frame-2.ensures.others)
    (room-others 0 c.hear_frame-2.new.lives c.drop_untaken.new.lives c.drop_untaken.ensures.others)
