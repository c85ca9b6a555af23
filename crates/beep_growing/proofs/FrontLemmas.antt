-- Beginnings of a list of marks: where a reply ends in one and not in the other.
use Rattle.std.proofs.Common.{◌≡◌, ◌∙◌, refl, sym, ap, subst, arith, ◌<◌, Bool, true, false, not, ◌&&◌, ◌||◌, List, [], ◌∷◌, ◌++◌}
use Rattle.std.specs.List.{list_any}
use Rattle.beep_steps.specs.beep_frame.specs.Frame.{is_ans, is_msg}
use Rattle.beep_steps.specs.beep_history.specs.Marks.{Mark, octet, end}
use Rattle.beep_steps.specs.beep_channel.specs.Stands.{ends_of}
use Rattle.beep_steps.specs.beep_script.specs.Script.{BeginsWith}
use Rattle.beep_steps.specs.beep_script.specs.Sending.{ends_whole}
use Rattle.beep_steps.specs.beep_script.proofs.SentLemmas.{same-head, same-tail}
use Rattle.beep_steps.proofs.SpeakDone.{any}

pub or-left-none : (a b : Bool) → (a || b) ≡ false → a ≡ false
or-left-none true b e = absurd cc
or-left-none false b e = refl

pub or-right-none : (a b : Bool) → (a || b) ≡ false → b ≡ false
or-right-none true b e = absurd cc
or-right-none false b e = e

or-other : (a b : Bool) → a ≡ false → (a || b) ≡ true → b ≡ true
or-other true b none e = absurd cc
or-other false b none e = e

-- what holds of no element of a list holds of none of its beginning
pub none-before : {X : Type 0} (p : X → Bool) (whole front : List X) → BeginsWith whole front → list_any p whole ≡ false → list_any p front ≡ false
none-before {X} p whole front b none = of front b.rest (ap (list_any p) (sym b.whole_is) ∙ none)
  where
    of : (front rest : List X) → list_any p (front ++ rest) ≡ false → list_any p front ≡ false
    of [] rest e = refl
    of (x ∷ front) rest e =
        ap (λ (b : Bool). b || list_any p front) (or-left-none (p x) (list_any p (front ++ rest)) e) ∙ of front rest (or-right-none (p x) (list_any p (front ++ rest)) e)

-- a list goes on with an element that a beginning hasn't: the beginning is one of what stands before
pub before-it : {X : Type 0} (p : X → Bool) (front : List X) (x : X) (more sent rest : List X) → front ++ x ∷ more ≡ sent ++ rest → list_any p sent ≡ false → p x ≡ true → BeginsWith front sent
before-it {X} p front x more [] rest e none is = record { rest = front; whole_is = refl }
before-it {X} p [] x more (s ∷ sent) rest e none is =
    absurd (let h : true ≡ false = sym is ∙ ap p (same-head x s more (sent ++ rest) e) ∙ or-left-none (p s) (list_any p sent) none in cc)
before-it {X} p (f ∷ front) x more (s ∷ sent) rest e none is =
    let b = before-it p front x more sent rest (same-tail f s (front ++ x ∷ more) (sent ++ rest) e) (or-right-none (p s) (list_any p sent) none) is in
    record { rest = b.rest; whole_is = ap (λ (y : X). y ∷ front) (same-head f s (front ++ x ∷ more) (sent ++ rest) e) ∙ ap (λ (ys : List X). s ∷ ys) b.whole_is }

-- ---- how many messages end

-- one ends where a reply does
some-end : (ms : List Mark) → list_any ends_whole ms ≡ true → 0 < ends_of any ms
some-end [] some = absurd cc
some-end (octet tag value ∷ ms) some = some-end ms some
some-end (end tag ∷ ms) some = omega arith

-- of two beginnings the one in which no reply has ended has fewer messages than the one in which one has
pub fewer-end : (sent front rest more : List Mark) → sent ++ rest ≡ front ++ more → list_any ends_whole sent ≡ false → list_any ends_whole front ≡ true → ends_of any sent < ends_of any front
fewer-end sent [] rest more e none some = absurd cc
fewer-end [] (f ∷ front) rest more e none some = some-end (f ∷ front) some
fewer-end (s ∷ sent) (f ∷ front) rest more e none some =
    subst (λ (m : Mark). ends_of any (s ∷ sent) < ends_of any (m ∷ front)) head_is
    (of s (λ a b. fewer-end sent front rest more (same-tail s f (sent ++ rest) (front ++ more) e) a b) none (subst (λ (m : Mark). list_any ends_whole (m ∷ front) ≡ true) (sym head_is) some))
  where
    head_is : s ≡ f
    head_is = same-head s f (sent ++ rest) (front ++ more) e

    of : (m : Mark) → (list_any ends_whole sent ≡ false → list_any ends_whole front ≡ true → ends_of any sent < ends_of any front) → list_any ends_whole (m ∷ sent) ≡ false
        → list_any ends_whole (m ∷ front) ≡ true → ends_of any (m ∷ sent) < ends_of any (m ∷ front)
    of (octet tag value) step a b = step a b
    of (end tag) step a b =
        let w = not (is_msg tag.kind) && not (is_ans tag.kind) in
        let here : w ≡ false = or-left-none w (list_any ends_whole sent) a in
        let less = step (or-right-none w (list_any ends_whole sent) a) (or-other w (list_any ends_whole front) here b) in
        omega (arith, less)
