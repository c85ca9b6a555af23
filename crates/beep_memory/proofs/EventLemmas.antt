-- The entries of one link among those of all.
use Rattle.std.proofs.Common.{◌≡◌, ℕ, ◌==◌, false, List, ◌∷◌, refl, ne_eqb}
use Rattle.beep_wires.specs.Log.{Event, entries_of}

pub entries-beside : (link : ℕ) (event : Event) (events : List Event) → (event.link ≡ link → ⊥) → entries_of link (event ∷ events) ≡ entries_of link events
entries-beside link event events other =
    let ne : (event.link == link) ≡ false = ne_eqb event.link link other in
    rw ne refl
