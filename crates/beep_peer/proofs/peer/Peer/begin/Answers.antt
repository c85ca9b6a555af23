-- The greeting is prepared, has room, and is let go.
use Rattle.std.proofs.Common.{ℕ, ◌≤◌, false, List, [], refl, subst}
use Rattle.std.specs.Prelude.{IfSome}
use Rattle.std.proofs.Math.Logic.{∥∥₁_map}
use Rattle.beep_upright.specs.beep_decide.specs.Decide.{PlainOffer}
use Rattle.beep_upright.specs.beep_lives.specs.Lives.{live_at}
use Rattle.beep_upright.specs.beep_standing.specs.Standing.{no_marks}
use Rattle.beep_answering.specs.Sent.{IsMessage, greeting_of}
use Rattle.beep_peer.specs.Calls.{LetsGo}
use Rattle.beep_peer.specs.declared.peer.Peer.{Peer}
use Rattle.beep_peer.proofs.BeginLemmas.{begin-upright}
use Rattle.beep_peer.proofs.NewLemmas.{zero-new, new-holds, new-held, new-begins, new-reached, new-empty}
use Rattle.beep_peer.proofs.peer.Peer.begin.Goals.{After-let_go}
use Rattle.beep_peer.proofs.peer.Peer.begin.Goals as goal

pub reserve-requires : goal.reserve-requires
reserve-requires c = record { live = zero-new c.args.window c.in_ok-lives.lives c.in_ok-lives.ensures }

pub let_go-requires : goal.let_go-requires
let_go-requires c =
    let kept = c.in_ok-management.ensures in
    record {
      held = new-held c.args.window c.in_ok-lives.lives c.reserve.new.self c.in_ok-management.management c.args.greeting.octets c.in_ok-lives.ensures c.reserve.ensures.kept
          (subst (λ (n : ℕ). IfSome (live_at 0 c.reserve.new.self) (λ channel. (n ≤ channel.octets) × (1 ≤ channel.messages))) c.len.ensures c.in_ok-reserve.ensures.ok)
          kept.mine kept.acts kept.theirs kept.answers kept.starting.0 kept.starting.1 c.requires.greeting;
    }

lets : (c : After-let_go) (offers : List PlainOffer) → IsMessage c.args.greeting.octets (greeting_of offers)
    → LetsGo c.args.window [] no_marks no_marks c.in_ok-management.management.answers c.let_go.new.lives c.let_go.new.management
lets c offers message =
    let kept = c.in_ok-management.ensures in
    c.let_go.ensures.holds c.args.window [] no_marks no_marks
    (new-holds c.args.window c.in_ok-lives.lives c.reserve.new.self c.in_ok-management.management c.args.greeting.octets c.in_ok-lives.ensures c.reserve.ensures.kept
    (subst (λ (n : ℕ). IfSome (live_at 0 c.reserve.new.self) (λ channel. (n ≤ channel.octets) × (1 ≤ channel.messages))) c.len.ensures c.in_ok-reserve.ensures.ok)
    kept.mine kept.acts kept.theirs kept.answers kept.starting.0 kept.starting.1 offers message)

some-lets : (c : After-let_go) → ∥ LetsGo c.args.window [] no_marks no_marks c.in_ok-management.management.answers c.let_go.new.lives c.let_go.new.management ∥₁
some-lets c = ∥∥₁_map {A = (offers : List PlainOffer) × IsMessage c.args.greeting.octets (greeting_of offers)} c.requires.greeting (λ s. lets c s.0 s.1)

pub returns-clause-begins : goal.returns-clause-begins
returns-clause-begins c offers message =
    new-begins c.args.window c.args.greeting.octets c.in_ok-management.management.answers c.in_ok-management.ensures.answers _ c.in_ok-ear.ensures refl c.let_go.ensures.stuck
    (lets c offers message)

pub returns-clause-reached : goal.returns-clause-reached
returns-clause-reached c =
    new-reached c.args.window c.args.greeting.octets c.in_ok-management.management.answers c.in_ok-management.ensures.answers _ c.in_ok-ear.ensures refl c.let_go.ensures.stuck
    (some-lets c)

pub returns-clause-empty : goal.returns-clause-empty
returns-clause-empty c =
    new-empty c.args.window c.args.greeting.octets c.in_ok-management.management.answers c.in_ok-management.ensures.answers
    (record { ear = c.in_ok-ear.ear; lives = c.let_go.new.lives; management = c.let_go.new.management; released = false }) c.in_ok-ear.ensures refl
    c.let_go.ensures.stuck (some-lets c)

pub returns-clause-upright : goal.returns-clause-upright
returns-clause-upright c terms offers message =
    let kept = c.in_ok-management.ensures in
    let peer : Peer = record { ear = c.in_ok-ear.ear; lives = c.let_go.new.lives; management = c.let_go.new.management; released = false } in
    begin-upright terms c.args.window c.args.greeting.octets peer
    (new-begins c.args.window c.args.greeting.octets c.in_ok-management.management.answers kept.answers peer c.in_ok-ear.ensures refl c.let_go.ensures.stuck
    (lets (goal.at.returns-clause-upright c).After-let_go offers message))
    c.in_ok-management.management c.let_go.ensures.waits.same kept.mine kept.acts kept.theirs kept.starting.0 kept.starting.1
    (new-empty c.args.window c.args.greeting.octets c.in_ok-management.management.answers kept.answers peer c.in_ok-ear.ensures refl
    c.let_go.ensures.stuck (some-lets (goal.at.returns-clause-upright c).After-let_go))
