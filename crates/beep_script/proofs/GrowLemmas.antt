-- A script only grows.
use Rattle.std.proofs.Common.{ℕ, ◌==◌, Bool, true, false, if◌then◌else◌, List, [], ◌∷◌, ◌++◌, map, take, refl, sym, ap, ◌∙◌}
use Rattle.std.proofs.lemmas.List.{map-append, append_assoc, append-nil}
use Rattle.beep_history.specs.Journal.{Item}
use Rattle.beep_history.specs.Messages.{Message}
use Rattle.beep_talk.specs.Plan.{PlainPlan}
use Rattle.beep_talk.specs.Talk.{talk, called_for}
use Rattle.beep_talk.specs.AtZero.{ZeroMessage, Answer, answer_message}
use Rattle.beep_script.specs.Desk.{listing, desk, asks}
use Rattle.beep_script.specs.Script.{whole_message, script, BeginsWith}

pub same-front : {X : Type 0} (xs : List X) → BeginsWith xs xs
same-front xs = record { rest = []; whole_is = sym (append-nil xs) }

pub more-front : {X : Type 0} (xs ys zs : List X) → BeginsWith xs ys → BeginsWith ys zs → BeginsWith xs zs
more-front xs ys zs first second = record {
  rest = second.rest ++ first.rest;
  whole_is = first.whole_is ∙ ap (λ front. front ++ first.rest) second.whole_is ∙ append_assoc zs second.rest first.rest;
}

listed-more : (count : ℕ) (listed : List ZeroMessage) (queue : List Answer) (own : List ZeroMessage)
    → BeginsWith (map whole_message (listing count listed queue own).listed) (map whole_message listed)
listed-more count listed queue own = record {
  rest = map whole_message (map answer_message (take count queue)) ++ map whole_message own;
  whole_is = map-append whole_message (listed ++ map answer_message (take count queue)) own
      ∙ ap (λ front. front ++ map whole_message own) (map-append whole_message listed (map answer_message (take count queue)))
      ∙ append_assoc (map whole_message listed) (map whole_message (map answer_message (take count queue))) (map whole_message own);
}

where-front : (b : Bool) (xs ys zs ws : List Message) → BeginsWith xs zs → BeginsWith ys ws → BeginsWith (if b then xs else ys) (if b then zs else ws)
where-front true xs ys zs ws first second = first
where-front false xs ys zs ws first second = second

-- an item appends
item-grows : (plan : PlainPlan) (number count : ℕ) (item : Item) (journal : List Item)
    → BeginsWith (script plan number count (item ∷ journal)) (script plan number count journal)
item-grows plan number count item journal =
    where-front (number == 0) (map whole_message (desk plan (item ∷ journal)).listed) (talk plan number count (item ∷ journal))
    (map whole_message (desk plan journal).listed) (talk plan number count journal)
    (listed-more _ (desk plan journal).listed _ (asks plan.command plan item journal))
    (record { rest = called_for plan number count item journal; whole_is = refl })

pub script-grows : (plan : PlainPlan) (number count : ℕ) (later journal : List Item)
    → BeginsWith (script plan number count (later ++ journal)) (script plan number count journal)
script-grows plan number count [] journal = same-front (script plan number count journal)
script-grows plan number count (item ∷ later) journal =
    more-front (script plan number count (item ∷ (later ++ journal))) (script plan number count (later ++ journal)) (script plan number count journal)
    (item-grows plan number count item (later ++ journal)) (script-grows plan number count later journal)
