-- What a text is: one that says an element, or one that is refused, and then where (RFC 3080,
-- section 6.4).
-- The program asks of one prefix after another; here the outcome is that of the whole text.
use Rattle.std.specs.Prelude.{ℕ, List}
use Rattle.beep_plain.specs.declared.outcome.Outcome.{Outcome}
use Rattle.beep_text.specs.Elements.{IsBody, Stops, IsEntity}

-- the outcome is that of the text
abbrev pub Decides : List ℕ → Outcome → Type 0
Decides text (Outcome.Says e) = IsBody text e
Decides text (Outcome.Stops q) = Stops text q × ((p : ℕ) → ¬ (IsEntity text q p))
Decides text (Outcome.StopsInReference p q) = Stops text q × IsEntity text q p
