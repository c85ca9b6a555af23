-- Either side is judged as the other.
use Rattle.std.proofs.Common.{◌≡◌, ◌∷◌, Some, IfOk, OnOk, sym, subst}
use Rattle.std.proofs.Math.Logic.{∥∥₁_map}
use Rattle.beep_history.specs.declared.journal.Side.{Side}
use Rattle.beep_history.specs.Journal.{passed}
use Rattle.beep_journal.specs.Broken.{broken_content}
use Rattle.beep_judge.specs.Judges.{IsKept}
use Rattle.beep_judge.specs.Kept.{under_way_of}
use Rattle.beep_judge.proofs.ContentLemmas.{to-sent, to-received, ok-map}
use Rattle.beep_judge.proofs.session.pass_in.Goals as goal

pub pass-requires-in-Sent-clause-reached : goal.pass-requires-in-Sent-clause-reached
pass-requires-in-Sent-clause-reached c = ∥∥₁_map c.requires.reached
    (λ s. (s.0, to-sent s.0 c.args.session.now.channels c.args.session.now.received c.args.session.now.sent s.1))

pub returns-in-Received-clause-value : goal.returns-in-Received-clause-value
returns-in-Received-clause-value c journal head s =
    subst (λ (x : Side). under_way_of x c.args.session.now ≡ Some head → IfOk c.pass.result (λ rule. rule ≡ broken_content x journal head c.args.payload.now)) (sym c.in-Received.is)
    (c.pass.ensures.value journal head s)

pub returns-in-Sent-clause-value : goal.returns-in-Sent-clause-value
returns-in-Sent-clause-value c journal head s =
    subst (λ (x : Side). under_way_of x c.args.session.now ≡ Some head → IfOk c.pass-in-Sent.result (λ rule. rule ≡ broken_content x journal head c.args.payload.now)) (sym c.in-Sent.is)
    (c.pass-in-Sent.ensures.value journal head (to-sent journal c.args.session.now.channels c.args.session.now.received c.args.session.now.sent s))

pub returns-in-Sent-clause-ok : goal.returns-in-Sent-clause-ok
returns-in-Sent-clause-ok c journal head s =
    subst (λ (x : Side). under_way_of x c.args.session.now ≡ Some head → OnOk c.pass-in-Sent.result
    (IsKept Side.Received (passed x head c.args.payload.now ∷ journal) c.pass-in-Sent.new.channels c.pass-in-Sent.new.theirs c.pass-in-Sent.new.mine)) (sym c.in-Sent.is)
    (λ begun. ok-map c.pass-in-Sent.result
    (to-received (passed Side.Sent head c.args.payload.now ∷ journal) c.pass-in-Sent.new.channels c.pass-in-Sent.new.theirs c.pass-in-Sent.new.mine)
    (c.pass-in-Sent.ensures.ok journal head (to-sent journal c.args.session.now.channels c.args.session.now.received c.args.session.now.sent s) begun))
