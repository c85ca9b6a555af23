use Rattle.std.proofs.Common.{ap, ◌∙◌, sym, chars, Option, None, Some, option_map, refl, ◌≡◌, ℕ, slice_get}
use Rattle.std.proofs.lemmas.Iterator.{YieldsList-from_chars}
use Rattle.std.proofs.lemmas.Iterator.Consumers.{nth_from_yields_List}
use Rattle.beep_chars.proofs.text.Text.get.Goals as goal

option_map-same : (r : Option ℕ) → option_map (λ (x : ℕ). x) r ≡ r
option_map-same None = refl
option_map-same (Some x) = refl

pub returns : goal.returns
returns c =
    let given = YieldsList-from_chars _ c.deref.utf8 c.chars.ensures.rest in
    sym (option_map-same c.nth.result) ∙ nth_from_yields_List c.nth.result c.nth.new.self c.args.i c.nth.ensures.ran given ∙ ap (λ cs. slice_get cs c.args.i) (ap chars c.deref.ensures ∙ c.self.view_is)
