use Rattle.std.proofs.Common.{◌≡◌, List, ℕ, length, take, arith, true, ap, sym, subst, refl, ◌∙◌}
use Rattle.std.proofs.lemmas.List.{take_all}
use Rattle.beep_history.specs.declared.journal.Side.{Side}
use Rattle.beep_record.specs.declared.replayer.Replayer.{Replayer}
use Rattle.beep_record.specs.Replaying.{Follows, many}
use Rattle.beep_record.specs.Following.{counts}
use Rattle.beep_record.proofs.ReplayLemmas.{follows_passed, follows_received, follows_sent, held_received, held_sent}
use Rattle.beep_record.proofs.PieceLemmas.{going_of}
use Rattle.beep_record.proofs.replayer.Replayer.take.Goals as goal

pub returns-then-not-counts-clause-ok : goal.returns-then-not-counts-clause-ok
returns-then-not-counts-clause-ok c log old follows =
    subst (λ (x : List ℕ). Follows c.args.self.now (many c.args.side x log) old c.args.out.now.octets) (sym (take_all (length c.args.octets.now) c.args.octets.now (omega arith)))
    (follows_passed c.args.self.now c.args.side c.args.octets.now log old c.args.out.now.octets follows (sym (c.counts.ensures log old c.args.out.now.octets follows) ∙ c.if-not-counts.true))

pub take-requires-clause-held : goal.take-requires-clause-held
take-requires-clause-held c =
    let has = c.requires.follows in
    let is : counts c.args.side has.follows.past ≡ true = sym (c.counts.ensures has.log has.old c.args.out.now.octets has.follows) ∙ c.if-not-counts.false in
    held_received c.args.self.now has.log has.old c.args.out.now.octets has.follows (ap (λ s. counts s has.follows.past) (sym c.in-Received.is) ∙ is)

pub take-requires-in-Sent-clause-held : goal.take-requires-in-Sent-clause-held
take-requires-in-Sent-clause-held c =
    let has = c.requires.follows in
    let is : counts c.args.side has.follows.past ≡ true = sym (c.counts.ensures has.log has.old c.args.out.now.octets has.follows) ∙ c.if-not-counts.false in
    held_sent c.args.self.now has.log has.old c.args.out.now.octets has.follows (ap (λ s. counts s has.follows.past) (sym c.in-Sent.is) ∙ is)

pub returns-in_ok-count-in-Received-clause-ok : goal.returns-in_ok-count-in-Received-clause-ok
returns-in_ok-count-in-Received-clause-ok c log old follows =
    let counted : counts c.args.side follows.past ≡ true = sym (c.counts.ensures log old c.args.out.now.octets follows) ∙ c.if-not-counts.false in
    let is = ap (λ s. counts s follows.past) (sym c.in-Received.is) ∙ counted in
    let both = follows.both (going_of Side.Received follows.past is) in
    let arm = c.in_ok-count-in-Received in
    let new : Replayer = record { received = c.take.new.wire; sent = c.args.self.now.sent; judge = c.take.new.judge; verdict = arm.verdict } in
    let taken = take arm.count c.args.octets.now in
    subst (λ (s : Side). Follows new (many s taken log) old c.take.new.out.octets) (sym c.in-Received.is)
    (follows_received c.args.self.now taken log old c.args.out.now.octets c.take.new.out.octets follows is new refl arm.ensures.others
    (arm.ensures.moved follows.past both.received both.judged is))

pub returns-in_ok-count-in-Sent-clause-ok : goal.returns-in_ok-count-in-Sent-clause-ok
returns-in_ok-count-in-Sent-clause-ok c log old follows =
    let counted : counts c.args.side follows.past ≡ true = sym (c.counts.ensures log old c.args.out.now.octets follows) ∙ c.if-not-counts.false in
    let is = ap (λ s. counts s follows.past) (sym c.in-Sent.is) ∙ counted in
    let both = follows.both (going_of Side.Sent follows.past is) in
    let arm = c.in_ok-count-in-Sent in
    let new : Replayer = record { received = c.args.self.now.received; sent = c.take-in-Sent.new.wire; judge = c.take-in-Sent.new.judge; verdict = arm.verdict } in
    let taken = take arm.count c.args.octets.now in
    subst (λ (s : Side). Follows new (many s taken log) old c.take-in-Sent.new.out.octets) (sym c.in-Sent.is)
    (follows_sent c.args.self.now taken log old c.args.out.now.octets c.take-in-Sent.new.out.octets follows is new refl arm.ensures.others
    (arm.ensures.moved follows.past both.sent both.judged is))
