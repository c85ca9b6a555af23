-- A reply has its form exactly where it fits the oldest own request; else it breaks ZeroReply.
use Rattle.std.proofs.Common.{◌≡◌, ℕ, false, option_map, refl, sym, ap, ◌∙◌}
use Rattle.std.specs.Option.{option_map_or}
use Rattle.beep_upright.specs.beep_frame.specs.declared.rule.Rule.{Rule}
use Rattle.beep_upright.specs.beep_mgmt.specs.Form.{form_of}
use Rattle.beep_upright.specs.beep_asked.specs.Kept.{Queue, oldest, fits}
use Rattle.beep_peer.specs.declared.settle_error.SettleError.{SettleError}
use Rattle.beep_peer.proofs.WaitingLemmas.{any-ear}
use Rattle.beep_peer.proofs.AnsweredLemmas.{form-fits}
use Rattle.beep_peer.proofs.UnchangedLemmas.{refused-upright}
use Rattle.beep_peer.proofs.settle.settle_reply.Goals.{After-fits}
use Rattle.beep_peer.proofs.settle.settle_reply.Goals as goal

pub refuse_zero-rule-requires : goal.refuse_zero-rule-requires
refuse_zero-rule-requires c = record { waits = any-ear c.args.head.now c.args.peer.now c.requires.waits }

tested : (c : After-fits) → c.fits.result ≡ option_map_or (fits c.args.head.now.kind (option_map form_of c.args.said)) (oldest c.args.peer.now.management.mine.requests) false
tested c = c.fits.ensures ∙ ap (λ (q : Queue). option_map_or (fits c.args.head.now.kind (option_map form_of c.args.said)) (oldest q.requests) false) c.mine.ensures

pub returns-then-not-fits-clause-fits : goal.returns-then-not-fits-clause-fits
returns-then-not-fits-clause-fits c size fed journal given taken payload w = (
  λ none. absurd (cc none),
  λ form. sym c.if-not-fits.true ∙ tested (goal.at.returns-then-not-fits-clause-fits c).After-fits
      ∙ sym (form-fits size fed journal given taken c.args.head.now payload c.args.peer.now w c.requires.reply (option_map form_of c.args.said) c.requires.said) ∙ form,
)

pub returns-then-not-fits-clause-broken : goal.returns-then-not-fits-clause-broken
returns-then-not-fits-clause-broken c size fed journal given taken payload w =
    ap (λ (rule : Rule). SettleError.Broken rule c.refuse_zero-rule.result.1) c.refuse_zero-rule.ensures.rule
    ∙ ap (λ (place : ℕ). SettleError.Broken Rule.ZeroReply place) (c.refuse_zero-rule.ensures.place size fed journal given taken c.args.head.now payload w.waits)

pub returns-then-not-fits-clause-passes : goal.returns-then-not-fits-clause-passes
returns-then-not-fits-clause-passes c size fed journal given taken payload w =
    c.refuse_zero-rule.ensures.passes size fed journal given taken c.args.head.now payload w.waits

pub returns-then-not-fits-clause-refused : goal.returns-then-not-fits-clause-refused
returns-then-not-fits-clause-refused c terms fed journal given taken payload w u =
    refused-upright terms fed journal given taken c.args.head.now payload c.args.peer.now w c.refuse_zero-rule.new.lives
    (c.refuse_zero-rule.ensures.passes terms.window fed journal given taken c.args.head.now payload w.waits) c.refuse_zero-rule.ensures.others u

pub returns-clause-fits : goal.returns-clause-fits
returns-clause-fits c size fed journal given taken payload w = (
  λ all. form-fits size fed journal given taken c.args.head.now payload c.args.peer.now w c.requires.reply (option_map form_of c.args.said) c.requires.said
      ∙ sym (tested (goal.at.returns-clause-fits c).After-fits) ∙ c.if-not-fits.false,
  λ form. refl,
)

pub returns-clause-ok : goal.returns-clause-ok
returns-clause-ok c size fed journal given taken payload w = (c.obey_reply.ensures.stands size fed journal given taken payload w).settles
