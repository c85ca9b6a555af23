-- The numbers of the live channels are noted, and where a life begins it is spoken there.
use Rattle.std.proofs.Common.{◌≡◌, ◌∙◌, ℕ, ap, false, true, rules, subst, sym}
use Rattle.beep_steps.specs.beep_decide.specs.Decide.{is_among}
use Rattle.beep_steps.proofs.OnLemmas.{ok-then}
use Rattle.beep_listener.specs.Speaking.{notes_of}
use Rattle.beep_listener.proofs.SpeakingLemmas.{none-gone, one-gone, taken-speaking}
use Rattle.beep_listener.proofs.listener.Listener.begun.Goals as goal

pub returns-in-Some-clause-speaking : goal.returns-in-Some-clause-speaking
returns-in-Some-clause-speaking c plan log serves taken g =
    let a = c.args.self.now in
    let n = c.speak_first.new.self in
    let are : c.swap.new.x.items ≡ c.list_live.new.numbers.items = search rules in
    let number = c.in-Some.number in
    let new = one-gone plan (notes_of a) a.session log g.0 c.swap.new.x.items (are ∙ c.in_ok-list_live.ensures) number
    (ap (is_among number) are ∙ subst (λ xs. is_among number xs ≡ true) c.as_slice.ensures.value c.in-Some.ensures.some.0)
    (subst (λ xs. is_among number xs ≡ false) c.as_slice-2.ensures.value c.in-Some.ensures.some.1) in
    ok-then c.speak_first.result _ _
    (λ s. taken-speaking plan (notes_of n) n.session log (c.speak_first.ensures.serving plan log serves) (c.speak_first.ensures.stays.taken log g.0.on taken) s)
    (c.speak_first.ensures.speaking plan log serves (new, g.1))

pub returns-in-None-clause-speaking : goal.returns-in-None-clause-speaking
returns-in-None-clause-speaking c plan log serves taken g =
    let a = c.args.self.now in
    let are : c.swap.new.x.items ≡ c.list_live.new.numbers.items = search rules in
    let none = subst (λ xs. (n : ℕ) → is_among n xs ≡ true → is_among n a.spoken.items ≡ true) (c.as_slice.ensures.value ∙ sym are)
    (subst (λ xs. (n : ℕ) → is_among n c.as_slice.result.now ≡ true → is_among n xs ≡ true) c.as_slice-2.ensures.value c.in-None.ensures.none) in
    taken-speaking plan _ a.session log serves taken (none-gone plan (notes_of a) a.session log g.0 c.swap.new.x.items (are ∙ c.in_ok-list_live.ensures) none, g.1)
