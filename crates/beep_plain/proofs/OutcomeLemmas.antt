-- What the reader's answer for a text says of what can follow it.
use Rattle.std.proofs.Common.{◌≡◌, ℕ, suc, ◌<◌, true, false, ◌==◌, List, [], ◌∷◌, length, refl, sym, subst, append-nil, arith, eqb-true}
use Rattle.std.proofs.lemmas.Bool.{eqb-false}
use Rattle.std.proofs.lemmas.List.{take_all}
use Rattle.beep_text.specs.Tree.{Tree, nothing}
use Rattle.beep_text.specs.Elements.{IsBody, IsAlive, Stops, IsEntity}
use Rattle.beep_text.proofs.LawLemmas.{take_alive, one_place}
use Rattle.beep_text.proofs.WrittenLemmas.{canonical-body}

pub body_alive : (text : List ℕ) (e : Tree) → IsBody text e → IsAlive text
body_alive text e is = ([], e, subst (λ (x : List ℕ). IsBody x e) (sym (append-nil text)) is)

-- `<a />` can follow nothing
pub empty_alive : IsAlive []
empty_alive =
    let a : Tree = record { name = 97 ∷ []; attrs = []; items = nothing } in
    (_, a, canonical-body a (record { named = refl; attrs = refl; items = refl; nested = omega arith }))

pub alive_at : (text : List ℕ) (q : ℕ) → Stops text q → (q == length text) ≡ true → IsAlive text
alive_at text q stops same = let long = eqb-true q (length text) same in subst IsAlive (take_all q text (omega (arith, long))) stops.alive

pub dead_before : (text : List ℕ) (q : ℕ) → Stops text q → q < length text → IsAlive text → ⊥
dead_before text q stops less alive =
    stops.dead less (take_alive text (suc q) (length text) (omega (arith, less)) (subst IsAlive (sym (take_all (length text) text (omega arith))) alive))

pub dead_at : (text : List ℕ) (q : ℕ) → Stops text q → (q == length text) ≡ false → IsAlive text → ⊥
dead_at text q stops differs = let within = stops.within in let apart = eqb-false q (length text) differs in dead_before text q stops (omega (arith, within, apart))

-- the place is the one that was found
pub no_entity_at : (text : List ℕ) (q r : ℕ) → Stops text q → Stops text r → ((p : ℕ) → IsEntity text q p → ⊥) → (p : ℕ) → IsEntity text r p → ⊥
no_entity_at text q r first second none p = subst (λ (x : ℕ). IsEntity text x p → ⊥) (one_place text q r first second) (none p)

pub entity_at : (text : List ℕ) (q r p : ℕ) → Stops text q → Stops text r → IsEntity text q p → IsEntity text r p
entity_at text q r p first second is = subst (λ (x : ℕ). IsEntity text x p) (one_place text q r first second) is
