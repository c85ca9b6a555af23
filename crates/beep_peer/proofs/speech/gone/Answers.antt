-- What the last frame of a message of channel zero says is done, and then answers are let go.
use Rattle.std.proofs.Common.{refl, sym, ◌∙◌, arith}
use Rattle.beep_peer.proofs.SpeakLemmas.{quiet-sent, gone-sent, gone-zero, quiet-holds, quiet-held, gone-held, done-held}
use Rattle.beep_peer.proofs.speech.gone.Goals as goal

pub let_go-requires-2 : goal.let_go-requires-2
let_go-requires-2 c = record { held = quiet-held c.args.head.now c.args.peer.now (λ payload. sym (c.ends_zero.ensures payload) ∙ c.if-ends_zero.false) c.requires.sent }

pub returns-clause-sent : goal.returns-clause-sent
returns-clause-sent c = λ size fed rest journal given taken payload s h r.
    let quiet = sym (c.ends_zero.ensures payload) ∙ c.if-ends_zero.false in
    quiet-sent size journal given taken c.args.head.now payload c.args.peer.now s fed rest h r _ quiet refl refl
    (c.let_go-2.ensures.holds size _ given taken (quiet-holds size journal given taken c.args.head.now payload c.args.peer.now s quiet))
    c.let_go-2.ensures.waits c.let_go-2.ensures.kept

pub went-releases-requires : goal.went-releases-requires
went-releases-requires c = record { gone = gone-held c.args.head.now c.args.peer.now (λ payload. sym (c.ends_zero.ensures payload) ∙ c.if-ends_zero.true) c.requires.sent }

pub let_go-requires : goal.let_go-requires
let_go-requires c = record {
  held = done-held c.args.head.now c.args.peer.now c.went-releases.result c.went-releases.new.lives c.went-releases.new.management
      (λ payload. sym (c.ends_zero.ensures payload) ∙ c.if-ends_zero.true) c.requires.sent c.went-releases.ensures.done;
}

pub returns-then-ends_zero-clause-sent : goal.returns-then-ends_zero-clause-sent
returns-then-ends_zero-clause-sent c = λ size fed rest journal given taken payload s h r.
    let ends = sym (c.ends_zero.ensures payload) ∙ c.if-ends_zero.true in
    gone-sent size journal given taken c.args.head.now payload c.args.peer.now s fed rest h r c.went-releases.result c.went-releases.new.lives c.went-releases.new.management _
    (c.went-releases.ensures.done size journal given taken c.args.head.now payload refl (gone-zero size journal given taken c.args.head.now payload c.args.peer.now s ends))
    refl c.either-peer.ensures (λ given_now taken_now holds. c.let_go.ensures.holds size _ given_now taken_now holds)
    c.went-releases.ensures.left c.let_go.ensures.waits c.let_go.ensures.kept

pub returns-then-ends_zero-clause-falls : goal.returns-then-ends_zero-clause-falls
returns-then-ends_zero-clause-falls c = omega (arith, c.let_go.ensures.falls, c.went-releases.ensures.falls)

pub returns-clause-upright : goal.returns-clause-upright
returns-clause-upright c = λ terms journal given taken payload s g.
    let quiet = sym (c.ends_zero.ensures payload) ∙ c.if-ends_zero.false in
    c.let_go-2.ensures.upright terms _ given taken (quiet-holds terms.window journal given taken c.args.head.now payload c.args.peer.now s quiet) (g.quiet quiet)

pub returns-then-ends_zero-clause-upright : goal.returns-then-ends_zero-clause-upright
returns-then-ends_zero-clause-upright c = λ terms journal given taken payload s g.
    let ends = sym (c.ends_zero.ensures payload) ∙ c.if-ends_zero.true in
    let gone = gone-zero terms.window journal given taken c.args.head.now payload c.args.peer.now s ends in
    let done = c.went-releases.ensures.done terms.window journal given taken c.args.head.now payload refl gone in
    c.let_go.ensures.upright terms _ done.given_now done.taken_now done.holds
    (c.went-releases.ensures.upright terms journal given taken c.args.head.now payload refl gone (g.ends ends))
