use Rattle.std.proofs.Common.{◌≡◌, ◌<◌, ◌++◌, length, take, drop, subst, ap, ◌∙◌, arith, append_assoc, length-drop, refl}
use Rattle.std.proofs.lemmas.Bool.Decides.{nat_tests}
use Rattle.std.proofs.lemmas.List.{take-append-drop, take_rest}
use Rattle.beep_input.specs.Listing.{Holds}
use Rattle.beep_input.specs.Walk.{lf_len}
use Rattle.beep_input.proofs.ListingLemmas.{cut_at, line_goes_on, none_at, on_one}
use Rattle.beep_input.proofs.listing.Gathered.feed.Goals as goal

pub returns-then-end-octets : goal.returns-then-end-octets
returns-then-end-octets c = record {
  held = λ before h.
      let octets = c.args.octets.now in
      let at = c.loop-at.at in
      let whole : c.lf_place-end.result ≡ length octets = grind (arith, nat_tests, c.if-end-octets.true) in
      let none : lf_len (drop at octets) ≡ length (drop at octets) = omega (arith, whole, c.lf_place-end.ensures.value, length-drop at octets, c.loop-at.invariant.within) in
      let all : (before ++ take at octets) ++ drop at octets ≡ before ++ octets = append_assoc before (take at octets) (drop at octets) ∙ ap (λ os. before ++ os) (take-append-drop at octets) in
      on_one (λ more. subst (λ os. Holds os (record { listing = c.loop-at.self.listing; begun = c.extend.new.self })) all
      (line_goes_on (before ++ take at octets) (drop at octets) c.loop-at.self (record { listing = c.loop-at.self.listing; begun = c.extend.new.self }) (c.loop-at.invariant.held before h) none refl
      (more ∙ ap (λ os. c.loop-at.self.begun.octets ++ os) (take_rest octets at))))
      c.extend.result c.extend.ensures.appended;
}

pub loop-at-preserved : goal.loop-at-preserved
loop-at-preserved c =
    let octets = c.args.octets.now in
    let at = c.loop-at.at in
    let end = c.lf_place-end.result in
    let within : end < length octets = grind (arith, nat_tests, c.if-end-octets.false, c.lf_place-end.ensures.place) in
    record {
      within = omega (arith, within);
      few = omega (arith, c.loop-at.invariant.few, c.in_ok-end_line.ensures.counted, c.lf_place-end.ensures.place);
      held = λ before h.
          let none = none_at octets at end c.lf_place-end.ensures.value in
          let place = append_assoc before (take at octets) _ ∙ ap (λ os. before ++ os) (cut_at octets at end c.lf_place-end.ensures.value within) in
          subst (λ os. Holds os c.end_line.new.self) place (c.in_ok-end_line.ensures.held (before ++ take at octets) (c.loop-at.invariant.held before h) none);
    }
