use Rattle.std.proofs.Common.{◌≡◌, ◌≤◌, ◌∙◌, true, false, refl, sym, subst, length, drop, arith, length-drop}
use Rattle.std.proofs.lemmas.List.{take_rest}
use Rattle.beep_pair.specs.Sessions.{Hears, begins, goes, HearsOnce}
use Rattle.beep_pair.proofs.FeedLemmas.{once_ready}
use Rattle.beep_pair.proofs.hear.hear.Goals as goal

pub loop-goes-init : goal.loop-goes-init
loop-goes-init c = record { within = omega arith; hears = begins; ready = c.requires.ready; role = refl; progress = λ none stops. absurd (let bad : true ≡ false = stops in cc) }

pub loop-goes-preserved : goal.loop-goes-preserved
loop-goes-preserved c =
    let octets = c.args.octets.now in
    let used = c.loop-goes.used in
    let fed = c.in_ok-fed.fed in
    let on : Hears c.args.at octets c.args.session.now c.args.accounts.now used true c.loop-goes.session c.loop-goes.accounts = subst (λ g. Hears c.args.at octets c.args.session.now c.args.accounts.now used g c.loop-goes.session c.loop-goes.accounts) c.loop-goes-test.true c.loop-goes.invariant.hears in
    let once : HearsOnce c.args.at (drop used octets) fed.used fed.goes c.loop-goes.session c.hear_once.new.session c.loop-goes.accounts c.hear_once.new.accounts = subst (λ xs. HearsOnce c.args.at xs fed.used fed.goes c.loop-goes.session c.hear_once.new.session c.loop-goes.accounts c.hear_once.new.accounts) (take_rest octets used) c.in_ok-fed.ensures.heard in
    let within : fed.used ≤ length (drop used octets) = subst (λ xs. fed.used ≤ length xs) (take_rest octets used) c.in_ok-fed.ensures.within in
    let kept = once_ready c.args.at (drop used octets) fed.used fed.goes c.loop-goes.session c.hear_once.new.session c.loop-goes.accounts c.hear_once.new.accounts c.loop-goes.invariant.ready once in
    record {
      within = omega (arith, within, length-drop used octets, c.loop-goes.invariant.within);
      hears = goes used fed.used fed.goes c.loop-goes.session c.hear_once.new.session c.loop-goes.accounts c.hear_once.new.accounts on once;
      ready = kept.ready;
      role = kept.role ∙ c.loop-goes.invariant.role;
      progress = λ none stops. c.in_ok-fed.ensures.progress (omega (arith, none)) (omega arith);
    }

pub returns-after-loop-goes-clause-heard : goal.returns-after-loop-goes-clause-heard
returns-after-loop-goes-clause-heard c = record {
  on = c.loop-goes.goes;
  hears = c.loop-goes.invariant.hears;
  ends = λ on. absurd (let bad : true ≡ false = sym on ∙ c.loop-goes-test.false in cc);
  within = c.loop-goes.invariant.within;
  progress = λ none some. c.loop-goes.invariant.progress none c.loop-goes-test.false;
}
