-- The frame that waits arrives, and then its octets are taken.
use Rattle.std.proofs.Common.{◌≡◌, ◌==◌, ℕ, List, ◌∷◌, Some, length, sym, ap, subst, subst₂, ◌∙◌}
use Rattle.std.proofs.Math.Logic.{∥∥₁_elim}
use denote.Struct.Props.{props}
use Rattle.beep_standing.specs.beep_frame.specs.declared.head.Head.{Head}
use Rattle.beep_standing.specs.beep_history.specs.declared.journal.Side.{Side}
use Rattle.beep_standing.specs.beep_history.specs.Journal.{passed}
use Rattle.beep_standing.specs.beep_lives.specs.Lives.{live_at, receiving_of}
use Rattle.beep_hearing.specs.Hears.{Passes, KeepsOthers}
use Rattle.beep_hearing.proofs.AnswerLemmas.{has-room}
use Rattle.beep_hearing.proofs.DropLemmas.{keeps-both}
use Rattle.beep_hearing.proofs.WaitLemmas.{may-waits, zero-channel, hears-passed}
use Rattle.beep_hearing.proofs.ear.Ear.pass_zero.Goals as goal

pub frame-frame-requires : goal.frame-frame-requires
frame-frame-requires c = record { whole = ∥∥₁_elim c.requires.waits (hlevel props) (λ s. s.7.whole) }

pub hear_frame-requires-clause-begun : goal.hear_frame-requires-clause-begun
hear_frame-requires-clause-begun c other has = ∥∥₁_elim (may-waits c.args.self.now c.args.lives.now c.requires.waits) (hlevel props) (λ m.
    let e = c.frame-frame.ensures m.is_whole.octets m.is_whole.frames m.head m.payload m.is_whole.was_fed in
    m.begun other (subst (λ (h : Head). receiving_of (live_at h.channel c.args.lives.now) ≡ Some other) e.0 has) ∙ sym e.0)

pub hear_frame-requires-clause-sized : goal.hear_frame-requires-clause-sized
hear_frame-requires-clause-sized c = ∥∥₁_elim (may-waits c.args.self.now c.args.lives.now c.requires.waits) (hlevel props) (λ m.
    let e = c.frame-frame.ensures m.is_whole.octets m.is_whole.frames m.head m.payload m.is_whole.was_fed in
    ap (λ (p : List ℕ). length p) e.1 ∙ m.is_whole.sized ∙ ap (λ (h : Head). h.size) (sym e.0))

pub hear_frame-requires-clause-room : goal.hear_frame-requires-clause-room
hear_frame-requires-clause-room c =
    has-room c.args.self.now c.args.lives.now c.frame-frame.result.head (may-waits c.args.self.now c.args.lives.now c.requires.waits)
    (λ m. (c.frame-frame.ensures m.is_whole.octets m.is_whole.frames m.head m.payload m.is_whole.was_fed).0)

pub drop_untaken-requires : goal.drop_untaken-requires
drop_untaken-requires c = record {
  live = c.hear_frame.ensures.zero ∙ ∥∥₁_elim (may-waits c.args.self.now c.args.lives.now c.requires.waits) (hlevel props) (λ m. m.zero);
}

pub returns-clause-hears : goal.returns-clause-hears
returns-clause-hears c size fed journal given taken head payload w =
    hears-passed size fed journal given taken head payload c.args.self.now c.args.lives.now w c.clear.new.self
    (c.clear.ensures _ w.text)

pub returns-clause-passes : goal.returns-clause-passes
returns-clause-passes c size fed journal given taken head payload w =
    let e = c.frame-frame.ensures fed w.frames head payload w.was_fed in
    subst₂ (λ (h : Head) (p : List ℕ). Passes size journal (passed Side.Received h p ∷ journal) given taken c.drop_untaken.new.lives) e.0 e.1
    (c.drop_untaken.ensures.passes size journal (passed Side.Received c.frame-frame.result.head c.frame-frame.result.payload.now ∷ journal) given taken
    (c.hear_frame.ensures.last size journal given taken w.live (w.begun ∙ ap (λ (h : Head). Some h) (sym e.0)) (ap (λ (h : Head). h.channel == 0) e.0 ∙ w.zero_is)))

pub returns-clause-others : goal.returns-clause-others
returns-clause-others c =
    let zero : c.frame-frame.result.head.channel ≡ 0 =
    ∥∥₁_elim c.requires.waits (hlevel props) (λ s.
    ap (λ (h : Head). h.channel) (c.frame-frame.ensures s.1 s.7.frames s.5 s.6 s.7.was_fed).0
    ∙ zero-channel s.0 s.1 s.2 s.3 s.4 s.5 s.6 c.args.self.now c.args.lives.now s.7) in
    keeps-both 0 c.args.lives.now c.hear_frame.new.lives c.drop_untaken.new.lives
    (subst (λ (n : ℕ). KeepsOthers n c.args.lives.now c.hear_frame.new.lives) zero c.hear_frame.ensures.others) c.drop_untaken.ensures.others
