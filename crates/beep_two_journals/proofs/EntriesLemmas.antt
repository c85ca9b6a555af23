-- The entries of a journal, side by side.
use Rattle.std.proofs.Common.{◌≡◌, ◌⊎◌, inl, inr, ◌==◌, Bool, true, false, not, ◌||◌, if◌then◌else◌, List, [], ◌∷◌, ◌++◌, map, refl, sym, ap, ◌∙◌, append_assoc}
use Rattle.beep_frame.specs.declared.kind.Kind.{Kind}
use Rattle.beep_history.specs.declared.journal.Side.{Side}
use Rattle.beep_frame.specs.Frame.{is_msg, is_ans, same_kind}
use Rattle.beep_history.specs.Journal.{turned, Item, began, passed, told, opening}
use Rattle.beep_history.specs.Marks.{frames}
use Rattle.beep_two_ends.specs.Seen.{arrived, sent, is_received}
use Rattle.beep_history.specs.Moments.{replies_ended}
use Rattle.beep_two_journals.proofs.Entries.{Entry, asks, replies, on, came, went, comes, turned_entry}
use Rattle.beep_two_journals.proofs.Entries.{read, speaks, adds, entries}
use Rattle.beep_journal.specs.Zero.{zero_history, gathered}
use Rattle.beep_two_ends.proofs.WaysLemmas.{frames-arrived, frames-sent}
use Rattle.beep_two_journals.proofs.EndsLemmas.{came-append}
use Rattle.beep_two_journals.proofs.TailLemmas.{went-append}
use Rattle.beep_two_journals.proofs.WalkLemmas.{turned-twice, entry-twice, turned-flips}
use Rattle.beep_two_journals.proofs.ZeroLemmas.{zeros, zero-arrived, zero-sent, gathered-arrived, gathered-sent}

-- what an item that arrives adds, by the items that arrived before it
abbrev pub way_adds : Item → List Item → List Entry
way_adds (began by head) way = if head.channel == 0 then [] else on head.channel (began by head) ∷ []
way_adds (passed by head payload) way =
    if head.channel == 0
    then speaks by head payload (gathered Side.Received (zeros way ++ arrived opening)) (frames Side.Received (zeros way ++ arrived opening))
    else on head.channel (passed by head payload) ∷ []
way_adds (told by seq) way = if seq.channel == 0 then [] else on seq.channel (told by seq) ∷ []

abbrev pub way_entries : List Item → List Entry
way_entries [] = []
way_entries (item ∷ way) = way_adds item way ++ way_entries way

abbrev pub turned_all : List Entry → List Entry
turned_all es = map turned_entry es

-- none, or one that came
abbrev pub AtMostOne : List Entry → Type 0
AtMostOne es = (es ≡ []) ⊎ ((entry : Entry) × (es ≡ entry ∷ []) × (comes entry ≡ true))

one-if : (b : Bool) (xs : List Entry) (entry : Entry) → AtMostOne xs → comes entry ≡ true → AtMostOne (if b then xs else entry ∷ [])
one-if true xs entry o c = o
one-if false xs entry o c = inr (entry, refl, c)

one-speaks : (more msg none : Bool) (a r : Entry) → comes a ≡ true → comes r ≡ true
    → AtMostOne (if more then [] else if msg then a ∷ [] else if none then [] else r ∷ [])
one-speaks true msg none a r c d = inl refl
one-speaks false true none a r c d = inr (a, refl, c)
one-speaks false false true a r c d = inl refl
one-speaks false false false a r c d = inr (r, refl, d)

pub at_most_one : (item : Item) (way : List Item) → is_received item ≡ true → AtMostOne (way_adds item way)
at_most_one (began Side.Received head) way e = one-if (head.channel == 0) [] _ (inl refl) refl
at_most_one (passed Side.Received head payload) way e = one-if (head.channel == 0) _ _ (one-speaks head.more (is_msg head.kind) _ _ _ refl refl) refl
at_most_one (told Side.Received seq) way e = one-if (seq.channel == 0) [] _ (inl refl) refl
at_most_one (began Side.Sent head) way e = cc
at_most_one (passed Side.Sent head payload) way e = cc
at_most_one (told Side.Sent seq) way e = cc

pub adds-received : (item : Item) (past : List Item) → is_received item ≡ true → adds item past ≡ way_adds item (arrived past)
adds-received (began Side.Received head) past e = refl
adds-received (passed Side.Received head payload) past e =
    let g : gathered Side.Received (zero_history past) ≡ gathered Side.Received (zeros (arrived past) ++ arrived opening) =
    sym (gathered-arrived (zero_history past)) ∙ ap (gathered Side.Received) (zero-arrived past) in
    let f : frames Side.Received (zero_history past) ≡ frames Side.Received (zeros (arrived past) ++ arrived opening) =
    sym (frames-arrived (zero_history past)) ∙ ap (frames Side.Received) (zero-arrived past) in
    rw (g, f)
adds-received (told Side.Received seq) past e = refl
adds-received (began Side.Sent head) past e = cc
adds-received (passed Side.Sent head payload) past e = cc
adds-received (told Side.Sent seq) past e = cc

turned-if : (b : Bool) (xs ys : List Entry) (x y : Entry) → xs ≡ turned_all ys → x ≡ turned_entry y
    → (if b then xs else x ∷ []) ≡ turned_all (if b then ys else y ∷ [])
turned-if true xs ys x y e f = e
turned-if false xs ys x y e f = ap (λ (z : Entry). z ∷ []) f

turned-speaks : (more msg none : Bool) (a r : Entry) → (if more then [] else if msg then turned_entry a ∷ [] else if none then [] else turned_entry r ∷ [])
    ≡ turned_all (if more then [] else if msg then a ∷ [] else if none then [] else r ∷ [])
turned-speaks true msg none a r = refl
turned-speaks false true none a r = refl
turned-speaks false false true a r = refl
turned-speaks false false false a r = refl

pub adds-sent : (item : Item) (past : List Item) → is_received item ≡ true → adds (turned item) past ≡ turned_all (way_adds item (sent past))
adds-sent (began Side.Received head) past e = turned-if (head.channel == 0) [] [] _ (on head.channel (began Side.Received head)) refl refl
adds-sent (passed Side.Received head payload) past e =
    let g : gathered Side.Sent (zero_history past) ≡ gathered Side.Received (zeros (sent past) ++ arrived opening) =
    sym (gathered-sent (zero_history past)) ∙ ap (gathered Side.Received) (zero-sent past) in
    let f : frames Side.Sent (zero_history past) ≡ frames Side.Received (zeros (sent past) ++ arrived opening) =
    sym (frames-sent (zero_history past)) ∙ ap (frames Side.Received) (zero-sent past) in
    rw (g, f) (turned-if (head.channel == 0) _ _ _ (on head.channel (passed Side.Received head payload))
    (turned-speaks head.more (is_msg head.kind) (is_ans head.kind || replies_ended (frames Side.Received (zeros (sent past) ++ arrived opening)) == 0)
    (asks Side.Received (read (gathered Side.Received (zeros (sent past) ++ arrived opening) ++ payload))) (replies Side.Received (same_kind Kind.Rpy head.kind))) refl)
adds-sent (told Side.Received seq) past e = turned-if (seq.channel == 0) [] [] _ (on seq.channel (told Side.Received seq)) refl refl
adds-sent (began Side.Sent head) past e = cc
adds-sent (passed Side.Sent head payload) past e = cc
adds-sent (told Side.Sent seq) past e = cc

-- ---- what came and went

came-one : (es : List Entry) → AtMostOne es → came es ≡ es
came-one es (inl e) = rw e
came-one es (inr o) = rw (o.1, o.2)

went-one : (es : List Entry) → AtMostOne es → went es ≡ []
went-one es (inl e) = rw e
went-one es (inr o) = rw (o.1, o.2)

pub entry-flips : (entry : Entry) → comes (turned_entry entry) ≡ not (comes entry)
entry-flips (asks Side.Received says) = refl
entry-flips (asks Side.Sent says) = refl
entry-flips (replies Side.Received ok) = refl
entry-flips (replies Side.Sent ok) = refl
entry-flips (on n item) = turned-flips item

came-turned : (es : List Entry) → AtMostOne es → came (turned_all es) ≡ []
came-turned es (inl e) = rw e
came-turned es (inr o) = let f : comes (turned_entry o.0) ≡ false = entry-flips o.0 ∙ ap not o.2 in rw (o.1, f)

went-turned : (es : List Entry) → AtMostOne es → went (turned_all es) ≡ es
went-turned es (inl e) = rw e
went-turned es (inr o) = let f : comes (turned_entry o.0) ≡ false = entry-flips o.0 ∙ ap not o.2 in rw (o.1, f, entry-twice o.0)

-- an item, by its side
abbrev BySide : Item → Type 0
BySide item = (is_received item ≡ true) ⊎ ((other_item : Item) × (item ≡ turned other_item) × (is_received other_item ≡ true))

by_side : (item : Item) → BySide item
by_side item = by-test (is_received item) refl
  where
    by-test : (b : Bool) → is_received item ≡ b → BySide item
    by-test true e = inl e
    by-test false e = inr (turned item, sym (turned-twice item), turned-flips item ∙ ap not e)

arrived-received' : (item : Item) (past : List Item) → is_received item ≡ true → (arrived (item ∷ past) ≡ item ∷ arrived past) × (sent (item ∷ past) ≡ sent past)
arrived-received' (began Side.Received head) past e = (refl, refl)
arrived-received' (passed Side.Received head payload) past e = (refl, refl)
arrived-received' (told Side.Received seq) past e = (refl, refl)
arrived-received' (began Side.Sent head) past e = cc
arrived-received' (passed Side.Sent head payload) past e = cc
arrived-received' (told Side.Sent seq) past e = cc

arrived-turned' : (item : Item) (past : List Item) → is_received item ≡ true → (arrived (turned item ∷ past) ≡ arrived past) × (sent (turned item ∷ past) ≡ item ∷ sent past)
arrived-turned' (began Side.Received head) past e = (refl, refl)
arrived-turned' (passed Side.Received head payload) past e = (refl, refl)
arrived-turned' (told Side.Received seq) past e = (refl, refl)
arrived-turned' (began Side.Sent head) past e = cc
arrived-turned' (passed Side.Sent head payload) past e = cc
arrived-turned' (told Side.Sent seq) past e = cc

record Ways (past : List Item) : Type 0 where
  in_ : came (entries past) ≡ way_entries (arrived past)
  out : went (entries past) ≡ way_entries (sent past)

ways-step : (item : Item) (past : List Item) → BySide item → Ways past → Ways (item ∷ past)
ways-step item past (inl r) w =
    let a = arrived-received' item past r in
    let one = at_most_one item (arrived past) r in
    record {
      in_ = ap (λ (xs : List Entry). came (xs ++ entries past)) (adds-received item past r) ∙ came-append (way_adds item (arrived past)) (entries past)
          ∙ ap (λ (xs : List Entry). xs ++ came (entries past)) (came-one _ one) ∙ ap (λ (xs : List Entry). way_adds item (arrived past) ++ xs) w.in_
          ∙ ap way_entries (sym a.0);
      out = ap (λ (xs : List Entry). went (xs ++ entries past)) (adds-received item past r) ∙ went-append (way_adds item (arrived past)) (entries past)
          ∙ ap (λ (xs : List Entry). xs ++ went (entries past)) (went-one _ one) ∙ w.out ∙ ap way_entries (sym a.1);
    }
ways-step item past (inr o) w =
    let a = arrived-turned' o.0 past o.2 in
    let one = at_most_one o.0 (sent past) o.2 in
    let e : adds item past ≡ turned_all (way_adds o.0 (sent past)) = ap (λ (i : Item). adds i past) o.1 ∙ adds-sent o.0 past o.2 in
    record {
      in_ = ap (λ (xs : List Entry). came (xs ++ entries past)) e ∙ came-append (turned_all (way_adds o.0 (sent past))) (entries past)
          ∙ ap (λ (xs : List Entry). xs ++ came (entries past)) (came-turned _ one) ∙ w.in_ ∙ ap way_entries (sym (ap (λ (i : Item). arrived (i ∷ past)) o.1 ∙ a.0));
      out = ap (λ (xs : List Entry). went (xs ++ entries past)) e ∙ went-append (turned_all (way_adds o.0 (sent past))) (entries past)
          ∙ ap (λ (xs : List Entry). xs ++ went (entries past)) (went-turned _ one) ∙ ap (λ (xs : List Entry). way_adds o.0 (sent past) ++ xs) w.out
          ∙ ap way_entries (sym (ap (λ (i : Item). sent (i ∷ past)) o.1 ∙ a.1));
    }

ways : (past : List Item) → Ways past
ways [] = record { in_ = refl; out = refl }
ways (item ∷ past) = ways-step item past (by_side item) (ways past)

pub entries-came : (past : List Item) → came (entries past) ≡ way_entries (arrived past)
entries-came past = (ways past).in_

pub entries-went : (past : List Item) → went (entries past) ≡ way_entries (sent past)
entries-went past = (ways past).out

pub record EntriesBefore (xs ys : List Entry) : Type 0 where
  pub newer : List Entry
  pub is : ys ≡ newer ++ xs

pub way-before : (newer way : List Item) → EntriesBefore (way_entries way) (way_entries (newer ++ way))
way-before [] way = record { newer = []; is = refl }
way-before (item ∷ newer) way =
    let w = way-before newer way in
    record { newer = way_adds item (newer ++ way) ++ w.newer; is = ap (λ (xs : List Entry). way_adds item (newer ++ way) ++ xs) w.is ∙ sym (append_assoc (way_adds item (newer ++ way)) w.newer (way_entries way)) }

pub entries-before : (later past : List Item) → EntriesBefore (entries past) (entries (later ++ past))
entries-before [] past = record { newer = []; is = refl }
entries-before (item ∷ later) past =
    let w = entries-before later past in
    record { newer = adds item (later ++ past) ++ w.newer; is = ap (λ (xs : List Entry). adds item (later ++ past) ++ xs) w.is ∙ sym (append_assoc (adds item (later ++ past)) w.newer (entries past)) }
