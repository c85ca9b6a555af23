-- Lines that are gathered and written in several steps.
use Rattle.std.proofs.Common.{◌≡◌, ◌∙◌, sym, ap, List, [], ◌++◌, ℕ, Option, append-nil, append_assoc}
use Rattle.std.specs.Io.KnownBytes.{Appends}
use Rattle.std.proofs.KnownBytes.{Appends-nil, Appends-trans}
use Rattle.beep_wires.specs.Transfer.{AppendsPrefix}
use Rattle.beep_link.specs.Causes.{WithText}
use Rattle.beep_lines.specs.Lines.{GathersAll, GathersSome}

-- nothing was written, and the lines are gathered after the others
pub gathers : (now : Option (List ℕ)) (old lines new : List ℕ) → new ≡ old ++ lines → GathersAll now now old lines new
gathers now old lines new e = ([], Appends-nil now, sym e)

-- all that was gathered was written
pub gathers-written : (before now : Option (List ℕ)) (old new written : List ℕ) → Appends before now written → written ≡ old → new ≡ [] → GathersAll before now old [] new
gathers-written before now old new written a e none = (written, a, append-nil old ∙ sym e ∙ sym (append-nil written) ∙ ap (λ (x : List ℕ). written ++ x) (sym none))

-- a beginning of it was
pub gathers-front : (before now : Option (List ℕ)) (old new written : List ℕ) → AppendsPrefix before now written → written ≡ old → new ≡ [] → GathersSome before now old [] new
gathers-front before now old new written p e none = (
  p.0,
  p.3,
  (
    p.1,
    append-nil old ∙ sym e ∙ p.2 ∙ ap (λ (x : List ℕ). x ++ p.1) (sym (append-nil p.0) ∙ ap (λ (x : List ℕ). p.0 ++ x) (sym none)),
  ),
)

-- some steps more
pub gathers-more : (a b c : Option (List ℕ)) (old first mid second new : List ℕ) → GathersAll a b old first mid → GathersAll b c mid second new → GathersAll a c old (first ++ second) new
gathers-more a b c old first mid second new p q = (
  p.0 ++ q.0,
  Appends-trans a b c p.0 q.0 p.1 q.1,
  sym (append_assoc old first second) ∙ ap (λ (x : List ℕ). x ++ second) p.2 ∙ append_assoc p.0 mid second
      ∙ ap (λ (x : List ℕ). p.0 ++ x) q.2 ∙ sym (append_assoc p.0 q.0 new),
)

-- some steps more, of which the last failed
pub gathers-stopped : (a b c : Option (List ℕ)) (old first mid second new : List ℕ) → GathersAll a b old first mid → GathersSome b c mid second new → GathersSome a c old (first ++ second) new
gathers-stopped a b c old first mid second new p q = (
  p.0 ++ q.0,
  Appends-trans a b c p.0 q.0 p.1 q.1,
  (
    q.2.0,
    sym (append_assoc old first second) ∙ ap (λ (x : List ℕ). x ++ second) p.2 ∙ append_assoc p.0 mid second
        ∙ ap (λ (x : List ℕ). p.0 ++ x) q.2.1 ∙ sym (append_assoc p.0 (q.0 ++ new) q.2.0) ∙ ap (λ (x : List ℕ). x ++ q.2.0) (sym (append_assoc p.0 q.0 new)),
  ),
)

-- what comes after a beginning leaves it one
pub some-longer : (a b : Option (List ℕ)) (old lines more new : List ℕ) → GathersSome a b old lines new → GathersSome a b old (lines ++ more) new
some-longer a b old lines more new p = (
  p.0,
  p.1,
  (
    p.2.0 ++ more,
    sym (append_assoc old lines more) ∙ ap (λ (x : List ℕ). x ++ more) p.2.1 ∙ append_assoc (p.0 ++ new) p.2.0 more,
  ),
)

-- all is a beginning too
pub all-some : (a b : Option (List ℕ)) (old lines new : List ℕ) → GathersAll a b old lines new → GathersSome a b old lines new
all-some a b old lines new p = (p.0, p.1, ([], p.2 ∙ sym (append-nil (p.0 ++ new))))

-- ---- entry by entry

-- one more line
pub one-more : (a b c : Option (List ℕ)) (whole self rest line others new : List ℕ) → WithText a b (λ more. whole ≡ more ++ self ++ rest) → rest ≡ line ++ others → GathersAll b c self line new
    → WithText a c (λ more. whole ≡ more ++ new ++ others)
one-more a b c whole self rest line others new p e q = (
  p.0 ++ q.0,
  Appends-trans a b c p.0 q.0 p.1 q.1,
  p.2 ∙ ap (λ (x : List ℕ). p.0 ++ self ++ x) e ∙ regroup p.0 self line others ∙ ap (λ (x : List ℕ). p.0 ++ (x ++ others)) q.2 ∙ sym (regroup-two p.0 q.0 new others),
)
  where
    regroup : (w x y z : List ℕ) → w ++ x ++ (y ++ z) ≡ w ++ ((x ++ y) ++ z)
    regroup w x y z = append_assoc w x (y ++ z) ∙ ap (λ (r : List ℕ). w ++ r) (sym (append_assoc x y z))

    regroup-two : (w x y z : List ℕ) → w ++ x ++ y ++ z ≡ w ++ ((x ++ y) ++ z)
    regroup-two w x y z = ap (λ (r : List ℕ). r ++ z) (append_assoc w x y) ∙ append_assoc w (x ++ y) z

-- a line that isn't gathered whole
pub one-stopped : (a b c : Option (List ℕ)) (old all whole self rest line others new : List ℕ) → old ++ all ≡ whole → WithText a b (λ more. whole ≡ more ++ self ++ rest) → rest ≡ line ++ others
    → GathersSome b c self line new → GathersSome a c old all new
one-stopped a b c old all whole self rest line others new w p e q = (
  p.0 ++ q.0,
  Appends-trans a b c p.0 q.0 p.1 q.1,
  (
    q.2.0 ++ others,
    w ∙ p.2 ∙ ap (λ (x : List ℕ). p.0 ++ self ++ x) e ∙ regroup p.0 self line others ∙ ap (λ (x : List ℕ). p.0 ++ (x ++ others)) q.2.1 ∙ sym (regroup-two p.0 q.0 new q.2.0 others),
  ),
)
  where
    regroup : (w x y z : List ℕ) → w ++ x ++ (y ++ z) ≡ w ++ ((x ++ y) ++ z)
    regroup w x y z = append_assoc w x (y ++ z) ∙ ap (λ (r : List ℕ). w ++ r) (sym (append_assoc x y z))

    regroup-two : (w x y z v : List ℕ) → w ++ x ++ y ++ (z ++ v) ≡ w ++ ((x ++ y ++ z) ++ v)
    regroup-two w x y z v = append_assoc (w ++ x) y (z ++ v) ∙ append_assoc w x (y ++ (z ++ v))
        ∙ ap (λ (r : List ℕ). w ++ r) (sym (append_assoc x y (z ++ v)) ∙ sym (append_assoc (x ++ y) z v))
