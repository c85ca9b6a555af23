-- The number at each place but the first is listed.
use Rattle.std.proofs.Common.{ℕ, Vec, Global, sym, ap, ◌∙◌, rules, arith}
use Rattle.beep_upright.specs.beep_lives.specs.Lives.{numbers}
use Rattle.beep_peer.proofs.StandingLemmas.{above-more, zero-not, each-placed}
use Rattle.beep_peer.proofs.standing.list_live.Goals.{in-Some+then-i-ne0+in_ok-push, in-Some+else-i-ne0, in_default}
use Rattle.beep_peer.proofs.standing.list_live.Goals as goal

pub loop-i-preserved : goal.loop-i-preserved
loop-i-preserved c =
    let before = c.args.live.now.items in
    let ns = numbers c.args.lives.now in
    elim c.match-place.branch [
      | in-Some+then-i-ne0+in_ok-push w ↦ above-more before c.loop-i.live.items c.match-place.live.items ns c.loop-i.i w.in-Some.number c.loop-i.invariant
          (search rules) (sym c.place.ensures ∙ w.in-Some.is) w.if-i-ne0.true
      | in-Some+else-i-ne0 w ↦ ap (λ (v : Vec ℕ Global). v.items) w.live-is
          ∙ zero-not before c.loop-i.live.items ns c.loop-i.i c.loop-i.invariant w.if-i-ne0.false
      | in_default w ↦ absurd (each-placed c.args.lives.now c.loop-i.i (omega (arith, c.loop-i-test.true, c.len-i-end.ensures)) (sym c.place.ensures ∙ w.in_default.is))
    ]
