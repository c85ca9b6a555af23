-- Each refusal leaves what the session stands for.
use Rattle.std.proofs.Common.{◌≡◌, ◌∙◌, ◌==◌, ℕ, false, ap, sym, take, get_or, length, arith}
use Rattle.std.proofs.Math.Seq.{take-length}
use Rattle.beep_steps.specs.beep_decide.specs.Decide.{is_among}
use Rattle.beep_steps.specs.Resting.{HasRepliedAt}
use Rattle.beep_steps.proofs.CallLemmas.{stays, stays-trans}
use Rattle.beep_steps.proofs.RestCalls.{awake-before, still-more, still-none, still-replied}
use Rattle.beep_listener.proofs.RestingLemmas.{among-next, at-among, left-false, none-among, right-false}
use Rattle.beep_listener.proofs.asking.refuse_each.Goals as goal

pub loop-i-init : goal.loop-i-init
loop-i-init c = record {
  stays = stays c.args.session.now;
  serving = λ plan log s. s;
  speaking = λ plan notes spoken text log s. s;
  desk = λ plan log d. d;
  still = λ small none. still-none c.args.session.now;
  replied = λ small none awake n among above. absurd (none-among n c.args.numbers.now among);
}

pub loop-i-preserved : goal.loop-i-preserved
loop-i-preserved c =
    let i = c.loop-i.invariant in
    let e = c.refuse_oldest.ensures in
    let first = c.args.session.now in
    let mid = c.loop-i.session in
    let new = c.refuse_oldest.new.session in
    let numbers = c.args.numbers.now in
    record {
      stays = stays-trans first mid new i.stays e.stays;
      serving = λ plan log s. e.serving plan log (i.serving plan log s);
      speaking = λ plan notes spoken text log s.
          e.speaking plan notes (ap (is_among (get_or numbers c.loop-i.i 0)) spoken ∙ at-among numbers c.loop-i.i c.loop-i-test.true) text log (i.speaking plan notes spoken text log s);
      desk = λ plan log d. e.desk plan log (i.desk plan log d);
      still = λ small none. still-more first mid new (i.still small (left-false _ _ (sym c.is_any-is_given.ensures ∙ none))) (c.in_ok-is_refused.ensures.rests small (right-false _ _ (sym c.is_any-is_given.ensures ∙ none))).0;
      replied = λ small none awake n among above.
          let r = c.in_ok-is_refused.ensures.rests small (right-false _ _ (sym c.is_any-is_given.ensures ∙ none)) in
          among-next (λ m. (m == 0) ≡ false → HasRepliedAt m new) numbers c.loop-i.i c.loop-i-test.true
          (λ m was up. still-replied mid new r.0 m (i.replied small (left-false _ _ (sym c.is_any-is_given.ensures ∙ none)) (awake-before mid new r.0 awake) m was up)) (r.1 awake) n among above;
    }

pub returns-in_err-is_refused-clause-stays : goal.returns-in_err-is_refused-clause-stays
returns-in_err-is_refused-clause-stays c =
    stays-trans c.args.session.now c.loop-i.session c.refuse_oldest.new.session c.loop-i.invariant.stays c.refuse_oldest.ensures.stays

pub returns-in_err-is_refused-clause-serving : goal.returns-in_err-is_refused-clause-serving
returns-in_err-is_refused-clause-serving c plan log s = c.refuse_oldest.ensures.serving plan log (c.loop-i.invariant.serving plan log s)

pub returns-in_err-is_refused-clause-speaking : goal.returns-in_err-is_refused-clause-speaking
returns-in_err-is_refused-clause-speaking c plan notes spoken text log s =
    c.refuse_oldest.ensures.speaking plan notes (ap (is_among (get_or c.args.numbers.now c.loop-i.i 0)) spoken ∙ at-among c.args.numbers.now c.loop-i.i c.loop-i-test.true) text log
    (c.loop-i.invariant.speaking plan notes spoken text log s)

pub returns-in_err-is_refused-clause-desk : goal.returns-in_err-is_refused-clause-desk
returns-in_err-is_refused-clause-desk c plan log d = c.refuse_oldest.ensures.desk plan log (c.loop-i.invariant.desk plan log d)

pub returns : goal.returns
returns c =
    let i = c.loop-i.invariant in
    let whole : c.loop-i.i ≡ length c.args.numbers.now = omega (arith, c.loop-i-test.false, c.loop-i.auto.i-end) in
    record {
      stays = i.stays;
      serving = i.serving;
      speaking = i.speaking;
      desk = i.desk;
      rests = λ small none. (
        i.still small none,
        λ awake n above among. i.replied small none awake n
            (ap (λ (k : ℕ). is_among n (take k c.args.numbers.now)) whole ∙ ap (is_among n) (take-length c.args.numbers.now) ∙ among) above,
      );
    }
