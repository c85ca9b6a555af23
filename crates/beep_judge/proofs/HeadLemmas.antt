-- The rules on a header, in their order.
use Rattle.std.proofs.Common.{◌≡◌, Bool, true, false, not, ◌&&◌, if◌then◌else◌, List, [], ◌∷◌, Option, Some, None, refl, sym, ap, ◌∙◌}
use Rattle.std.specs.Prelude.{is_some}
use Rattle.std.specs.List.{list_any}
use Rattle.beep_frame.specs.declared.head.Head.{Head}
use Rattle.beep_frame.specs.declared.rule.Rule.{Rule}
use Rattle.beep_history.specs.declared.journal.Side.{Side}
use Rattle.beep_history.specs.Journal.{Item}
use Rattle.beep_history.specs.Marks.{Request, is_whole, waiting}
use Rattle.beep_history.specs.Broken.{broken_rule}
use Rattle.beep_journal.specs.Zero.{zero_history}
use Rattle.beep_journal.specs.Life.{history, is_there}
use Rattle.beep_journal.specs.Broken.{none_tunes, is_greeting, breaks_size, breaks_no_greeting, breaks_no_such_channel, breaks_not_alone, breaks_zero_reply, or_else, broken_head}
use Rattle.beep_judge.specs.declared.life.Life.{Life}
use Rattle.beep_judge.specs.declared.half.Half.{Half}
use Rattle.beep_judge.specs.declared.channels.Channels.{Channels}
use Rattle.beep_judge.specs.Kept.{life_at}
use Rattle.beep_judge.specs.Lived.{IsLife}
use Rattle.beep_judge.specs.Judges.{IsKept}

none-any : (f : Request → Bool) (rs : List Request) → ((r : Request) → f r ≡ false) → list_any f rs ≡ false
none-any f [] none = refl
none-any f (r ∷ rs) none = rw (none r) (none-any f rs none)

none-alone : (side : Side) (journal : List Item) → breaks_not_alone none_tunes side journal ≡ false
none-alone side journal =
    none-any (λ request. none_tunes side request.position && is_whole side request.position (zero_history journal)) (waiting side (zero_history journal)) (λ r. refl)

-- the rules of one life, and that on replies of channel zero
abbrev pub rest_rules : Side → List Item → Head → Option Rule
rest_rules side journal head =
    or_else (broken_rule side (history head.channel journal) head) (if breaks_zero_reply head then Some Rule.ZeroReply else None)

head-rules : (side : Side) (journal : List Item) (head : Head) (a b c : Bool) → breaks_size head ≡ a → breaks_no_greeting side journal head ≡ b
    → breaks_no_such_channel journal head ≡ c
    → broken_head none_tunes side journal head ≡ (if a then Some Rule.Size else if b then Some Rule.NoGreeting else if c then Some Rule.NoSuchChannel else rest_rules side journal head)
unfolding broken_head
head-rules side journal head true b c size greeting there = rw size refl
head-rules side journal head false true c size greeting there = rw (size, greeting) refl
head-rules side journal head false false true size greeting there = rw (size, greeting, there) refl
head-rules side journal head false false false size greeting there = rw (size, greeting, there, none-alone side journal) refl

module _ (side : Side) (journal : List Item) (all : Channels) (mine theirs : Half) (s : IsKept side journal all mine theirs) (head : Head) where
  soon : {b : Bool} → b ≡ (not mine.heard && not (is_greeting head)) → breaks_no_greeting side journal head ≡ b
  soon e = sym (e ∙ ap (λ (h : Bool). not h && not (is_greeting head)) s.mine.heard)

  absent : {b : Bool} → is_some (life_at head.channel all) ≡ b → breaks_no_such_channel journal head ≡ not b
  absent e = ap not (s.channels.there head.channel ∙ e)

  pub too-large : {b : Bool} → b ≡ breaks_size head → b ≡ true → Some Rule.Size ≡ broken_head none_tunes side journal head
  too-large e t = sym (head-rules side journal head true _ _ (sym e ∙ t) refl refl)

  module _ {b : Bool} (e : b ≡ breaks_size head) (small : b ≡ false) where
    pub too-soon : {c : Bool} → c ≡ (not mine.heard && not (is_greeting head)) → c ≡ true → Some Rule.NoGreeting ≡ broken_head none_tunes side journal head
    too-soon f t = sym (head-rules side journal head false true _ (sym e ∙ small) (soon f ∙ t) refl)

    module _ {c : Bool} (f : c ≡ (not mine.heard && not (is_greeting head))) (greeted : c ≡ false) where
      pub not-there : life_at head.channel all ≡ None → Some Rule.NoSuchChannel ≡ broken_head none_tunes side journal head
      not-there n = sym (head-rules side journal head false false true (sym e ∙ small) (soon f ∙ greeted) (absent (ap (λ (o : Option Life). is_some o) n)))

      module _ (life : Life) (there : life_at head.channel all ≡ Some life) where
        rest-is : broken_head none_tunes side journal head ≡ rest_rules side journal head
        rest-is = head-rules side journal head false false false (sym e ∙ small) (soon f ∙ greeted) (absent (ap (λ (o : Option Life). is_some o) there))

        pub in-life : (answer : Option Rule) (rule : Rule) → ((past : List Item) → IsLife life past → answer ≡ broken_rule side past head) → answer ≡ Some rule
            → Some rule ≡ broken_head none_tunes side journal head
        in-life answer rule at some =
            sym (rest-is ∙ ap (λ (o : Option Rule). or_else o (if breaks_zero_reply head then Some Rule.ZeroReply else None))
            (sym (at (history head.channel journal) (s.channels.lives head.channel life there)) ∙ some))

        pub after-life : (answer : Option Rule) (zero : Bool) → ((past : List Item) → IsLife life past → answer ≡ broken_rule side past head) → answer ≡ None
            → breaks_zero_reply head ≡ zero → (if zero then Some Rule.ZeroReply else None) ≡ broken_head none_tunes side journal head
        after-life answer zero at none z =
            sym (rest-is ∙ ap (λ (o : Option Rule). or_else o (if breaks_zero_reply head then Some Rule.ZeroReply else None))
            (sym (at (history head.channel journal) (s.channels.lives head.channel life there)) ∙ none)
            ∙ ap (λ (b : Bool). if b then Some Rule.ZeroReply else None) z)

-- ---- a header that breaks none

-- what a header keeps that breaks no rule
pub record Lawful (side : Side) (journal : List Item) (head : Head) : Type 0 where
  pub there : is_there head.channel journal ≡ true
  pub life : broken_rule side (history head.channel journal) head ≡ None
  pub zero : breaks_zero_reply head ≡ false

pub lawful : (side : Side) (journal : List Item) (head : Head) → broken_head none_tunes side journal head ≡ None → Lawful side journal head
lawful side journal head none = of _ _ _ refl refl refl
  where
    fine : (o : Option Rule) (z : Bool) → or_else o (if z then Some Rule.ZeroReply else None) ≡ None → (o ≡ None) × (z ≡ false)
    fine None false e = (refl, refl)
    fine None true e = cc
    fine (Some rule) z e = cc

    not-not : (b : Bool) → not b ≡ false → b ≡ true
    not-not true e = refl
    not-not false e = cc

    of : (a b c : Bool) → breaks_size head ≡ a → breaks_no_greeting side journal head ≡ b → breaks_no_such_channel journal head ≡ c → Lawful side journal head
    of true b c x y z = let f : Some Rule.Size ≡ None = sym (head-rules side journal head true b c x y z) ∙ none in cc
    of false true c x y z = let f : Some Rule.NoGreeting ≡ None = sym (head-rules side journal head false true c x y z) ∙ none in cc
    of false false true x y z = let f : Some Rule.NoSuchChannel ≡ None = sym (head-rules side journal head false false true x y z) ∙ none in cc
    of false false false x y z =
        let f = fine (broken_rule side (history head.channel journal) head) (breaks_zero_reply head) (sym (head-rules side journal head false false false x y z) ∙ none) in
        record { there = not-not (is_there head.channel journal) z; life = f.0; zero = f.1 }
