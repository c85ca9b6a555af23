-- The positions that a listener names are below 2^64, so that its marks are the same modulo 2^64: what is the beginning of its script modulo 2^64 is so as it is.
use Rattle.std.proofs.Common.{◌≡◌, ℕ, ◌+◌, ◌-◌, ◌<◌, ◌≤◌, ◌^◌, ◌==◌, Bool, true, false, ◌&&◌, if◌then◌else◌, List, [], ◌∷◌, ◌++◌, length, map, flat_map, Option, None, Some, refl, sym, ap, ◌∙◌, subst, arith}
use Rattle.std.specs.Option.{option_map_or}
use Rattle.std.proofs.lemmas.List.{map-append}
use Rattle.std.proofs.lemmas.List.Concat.{flat_map-append}
use Rattle.beep_session.specs.beep_frame.specs.declared.head.Head.{Head}
use Rattle.beep_session.specs.beep_frame.specs.declared.tag.Tag.{Tag}
use Rattle.beep_session.specs.beep_frame.specs.Frame.{is_msg}
use Rattle.beep_session.specs.beep_history.specs.declared.journal.Side.{Side}
use Rattle.beep_session.specs.beep_history.specs.declared.limits.TheConstants.{MAX_REQUESTS}
use Rattle.beep_session.specs.beep_history.specs.Journal.{Item, began, passed, told, same_side, other}
use Rattle.beep_session.specs.beep_history.specs.Marks.{Mark, Request, octet, end, marks, mark_modulo_2_64, modulo_2_64, requests, begins_request, named, position_of, tag_of, carries, frame_marks}
use Rattle.beep_session.specs.beep_history.specs.Messages.{Message}
use Rattle.beep_session.specs.beep_history.proofs.ListsLemmas.{find-below}
use Rattle.beep_session.specs.beep_history.proofs.SoundLemmas.{requests-numbered}
use Rattle.beep_session.specs.beep_journal.specs.Broken.{none_tunes}
use Rattle.beep_session.specs.beep_journal.specs.Lives.{Event}
use Rattle.beep_session.specs.beep_journal.specs.Zero.{events}
use Rattle.beep_session.specs.beep_journal.specs.Life.{is_of_life, life}
use Rattle.beep_session.specs.beep_journal.specs.Log.{Moment}
use Rattle.beep_session.specs.beep_lawful.specs.declared.terms.Terms.{Terms}
use Rattle.beep_session.specs.beep_lawful.specs.Lawful.{IsLawful, IsLawfulLog}
use Rattle.beep_session.specs.beep_lawful.proofs.LawfulLemmas.{lawful-before}
use Rattle.beep_desk.specs.beep_talk.specs.declared.plan.Command.{Command}
use Rattle.beep_desk.specs.beep_talk.specs.Plan.{PlainPlan}
use Rattle.beep_desk.specs.beep_talk.specs.Talk.{asked_first, begins_with, called_for, ends_request, has_peer_release, has_profile, ready, refusal, replied, reply_of, talk}
use Rattle.beep_desk.specs.beep_script.specs.Script.{message_marks, script_marks, BeginsWith}
use Rattle.beep_served.specs.Served.{side_of, items_got, octets_got}
use Rattle.beep_served.proofs.PositionLemmas.{few-asked}
use Rattle.beep_served.proofs.ShownLemmas.{items-shown}
use Rattle.beep_replies.specs.Replies.{KeepsAbove}
use Rattle.beep_replies.proofs.StayLemmas.{script-is}
use Rattle.beep_steps.specs.Speaking.{KeepsSaid, ShowsAbove, ShowsSaid}
use Rattle.beep_steps.proofs.SpeakLives.{one-reply}

-- ---- marks that are the same modulo 2^64

abbrev pub AreUnwrapped : List Mark → Type 0
AreUnwrapped ms = map mark_modulo_2_64 ms ≡ ms

pub unwrapped-both : (xs ys : List Mark) → AreUnwrapped xs → AreUnwrapped ys → AreUnwrapped (xs ++ ys)
unwrapped-both xs ys p q = map-append mark_modulo_2_64 xs ys ∙ ap (λ (ms : List Mark). ms ++ map mark_modulo_2_64 ys) p ∙ ap (λ (ms : List Mark). xs ++ ms) q

pub tag-unwrapped : (t : Tag) → t.request < 2 ^ 64 → modulo_2_64 t ≡ t
tag-unwrapped t less = ap (λ (n : ℕ). record { kind = t.kind; request = n; ansno = t.ansno }) (omega (arith, less))

octets-unwrapped : (t : Tag) (os : List ℕ) → modulo_2_64 t ≡ t → AreUnwrapped (map (octet t) os)
octets-unwrapped t [] e = refl
octets-unwrapped t (o ∷ os) e = ap (λ (u : Tag). octet u o ∷ map mark_modulo_2_64 (map (octet t) os)) e ∙ ap (λ (ms : List Mark). octet t o ∷ ms) (octets-unwrapped t os e)

end-unwrapped : (t : Tag) (b : Bool) → modulo_2_64 t ≡ t → AreUnwrapped (if b then [] else end t ∷ [])
end-unwrapped t true e = refl
end-unwrapped t false e = ap (λ (u : Tag). end u ∷ []) e

pub frame-unwrapped : (t : Tag) (head : Head) (payload : List ℕ) → modulo_2_64 t ≡ t → AreUnwrapped (frame_marks t head payload)
frame-unwrapped t head payload e = unwrapped-both (map (octet t) payload) (if head.more then [] else end t ∷ []) (octets-unwrapped t payload e) (end-unwrapped t head.more e)

pub message-unwrapped : (m : Message) → m.tag.request < 2 ^ 64 → AreUnwrapped (message_marks m)
message-unwrapped m less = unwrapped-both (map (octet m.tag) m.content) (end m.tag ∷ []) (octets-unwrapped m.tag m.content (tag-unwrapped m.tag less)) (end-unwrapped m.tag false (tag-unwrapped m.tag less))

-- ---- how much came

-- no more came in a life than at all
life-items : (n c : ℕ) (journal : List Item) → items_got (life n c journal) ≤ items_got journal
life-items n c [] = omega arith
life-items n c (item ∷ journal) = of (is_of_life n c item journal) (same_side (side_of item) Side.Received) (life-items n c journal)
  where
    of : (b s : Bool) → items_got (life n c journal) ≤ items_got journal
        → items_got (if b then item ∷ life n c journal else life n c journal) ≤ (if same_side (side_of item) Side.Received then items_got journal + 1 else items_got journal)
    of true s before = by (same_side (side_of item) Side.Received)
      where
        by : (t : Bool) → (if t then items_got (life n c journal) + 1 else items_got (life n c journal)) ≤ (if t then items_got journal + 1 else items_got journal)
        by true = omega (arith, before)
        by false = before
    of false s before = by (same_side (side_of item) Side.Received)
      where
        by : (t : Bool) → items_got (life n c journal) ≤ (if t then items_got journal + 1 else items_got journal)
        by true = omega (arith, before)
        by false = before

pub items-more : (item : Item) (journal : List Item) → items_got journal ≤ items_got (item ∷ journal)
items-more item journal = of (same_side (side_of item) Side.Received)
  where
    of : (b : Bool) → items_got journal ≤ (if b then items_got journal + 1 else items_got journal)
    of true = omega arith
    of false = omega arith

-- no more requests came than items
pub requests-items : (past : List Item) → length (requests Side.Received past) ≤ items_got past
requests-items [] = omega arith
requests-items (began Side.Received head ∷ past) = of (begins_request Side.Received past head) (requests-items past)
  where
    of : (b : Bool) → length (requests Side.Received past) ≤ items_got past
        → length (if b then record { position = length (requests Side.Received past); number = head.msgno } ∷ requests Side.Received past else requests Side.Received past) ≤ items_got past + 1
    of true before = omega (arith, before)
    of false before = omega (arith, before)
requests-items (began Side.Sent head ∷ past) = requests-items past
requests-items (passed Side.Received head payload ∷ past) = let before = requests-items past in omega (arith, before)
requests-items (passed Side.Sent head payload ∷ past) = requests-items past
requests-items (told Side.Received seq ∷ past) = let before = requests-items past in omega (arith, before)
requests-items (told Side.Sent seq ∷ past) = requests-items past

-- a position is one of a request of either side
pub position-most : (side : Side) (past : List Item) (head : Head) (most : ℕ) → ((s : Side) → length (requests s past) ≤ most) → position_of side past head ≤ most
position-most side past head most few = by (is_msg head.kind) (named side past head) refl
  where
    by : (b : Bool) (o : Option Request) → named side past head ≡ o → (if b then length (requests side past) - 1 else option_map_or (λ request. request.position) o 0) ≤ most
    by true o is = let own = few side in omega (arith, own)
    by false None is = omega arith
    by false (Some r) is =
        let below : r.position < length (requests (other side) past) =
        find-below (λ (x : Request). x.number == head.msgno) (requests (other side) past) r (requests-numbered (other side) past) is in
        let theirs = few (other side) in
        omega (arith, below, theirs)

-- ---- one life

module _ (terms : Terms) (n c : ℕ) (above : (n == 0) ≡ false) where
  position-less : (side : Side) (journal : List Item) (head : Head) → IsLawful terms none_tunes journal → items_got journal < 2 ^ 32 → position_of side (life n c journal) head < 2 ^ 64
  position-less side journal head lawful few =
      let all = life-items n c journal in
      let asked = few-asked terms none_tunes n c above journal lawful in
      let came = requests-items (life n c journal) in
      let most : (s : Side) → length (requests s (life n c journal)) ≤ items_got journal + MAX_REQUESTS = λ s. of s all asked came in
      let at = position-most side (life n c journal) head (items_got journal + MAX_REQUESTS) most in
      omega (arith, at, few)
    where
      of : (s : Side) → items_got (life n c journal) ≤ items_got journal → length (requests Side.Sent (life n c journal)) ≤ items_got (life n c journal) + MAX_REQUESTS
          → length (requests Side.Received (life n c journal)) ≤ items_got (life n c journal) → length (requests s (life n c journal)) ≤ items_got journal + MAX_REQUESTS
      of Side.Sent all asked came = omega (arith, all, asked)
      of Side.Received all asked came = omega (arith, all, came)

  before-few : (item : Item) (journal : List Item) → items_got (item ∷ journal) < 2 ^ 32 → items_got journal < 2 ^ 32
  before-few item journal few = let less = items-more item journal in omega (arith, few, less)

  sent-item : (item : Item) (journal : List Item) → IsLawful terms none_tunes journal → items_got journal < 2 ^ 32 → AreUnwrapped (marks Side.Sent (life n c journal))
      → AreUnwrapped (marks Side.Sent (item ∷ life n c journal))
  sent-item (began by head) journal lawful few before = before
  sent-item (told by seq) journal lawful few before = before
  sent-item (passed by head payload) journal lawful few before =
      let past = life n c journal in
      unwrapped-both (marks Side.Sent past) (if carries Side.Sent past by head then frame_marks (tag_of Side.Sent past head) head payload else []) before (of (carries Side.Sent past by head))
    where
      of : (b : Bool) → AreUnwrapped (if b then frame_marks (tag_of Side.Sent (life n c journal) head) head payload else [])
      of true = frame-unwrapped (tag_of Side.Sent (life n c journal) head) head payload (tag-unwrapped (tag_of Side.Sent (life n c journal) head) (position-less Side.Sent journal head lawful few))
      of false = refl

  pub sent-unwrapped : (journal : List Item) → IsLawful terms none_tunes journal → items_got journal < 2 ^ 32 → AreUnwrapped (marks Side.Sent (life n c journal))
  sent-unwrapped [] lawful few = refl
  sent-unwrapped (item ∷ journal) lawful few =
      let earlier = lawful-before terms none_tunes (item ∷ []) journal lawful in
      let less = before-few item journal few in
      of (is_of_life n c item journal) earlier less (sent-unwrapped journal earlier less)
    where
      of : (b : Bool) → IsLawful terms none_tunes journal → items_got journal < 2 ^ 32 → AreUnwrapped (marks Side.Sent (life n c journal))
          → AreUnwrapped (marks Side.Sent (if b then item ∷ life n c journal else life n c journal))
      of true earlier less before = sent-item item journal earlier less before
      of false earlier less before = before

  -- ---- what is to be said

  module _ (plan : PlainPlan) (listens : plan.command ≡ Command.Listen) where
    asked-unwrapped : (command : Command) (es : List Event) → AreUnwrapped (flat_map message_marks (asked_first command es))
    asked-unwrapped Command.Send es = refl
    asked-unwrapped Command.Listen es = of (has_peer_release es)
      where
        of : (b : Bool) → AreUnwrapped (flat_map message_marks (if b then [] else ready ∷ []))
        of true = refl
        of false = unwrapped-both (message_marks ready) [] (message-unwrapped ready (omega arith)) refl

    first-unwrapped : (b : Bool) (es : List Event) → AreUnwrapped (flat_map message_marks (if b then asked_first plan.command es else []))
    first-unwrapped true es = asked-unwrapped plan.command es
    first-unwrapped false es = refl

    refusal-unwrapped : (position : ℕ) → position < 2 ^ 64 → AreUnwrapped (flat_map message_marks (reply_of plan.command plan.lines position))
    refusal-unwrapped position less =
        subst (λ (ms : List Message). AreUnwrapped (flat_map message_marks ms)) (sym (one-reply plan listens position))
        (unwrapped-both (message_marks (refusal position)) [] (message-unwrapped (refusal position) less) refl)

    replied-unwrapped : (item : Item) (journal : List Item) → IsLawful terms none_tunes journal → items_got journal < 2 ^ 32 → AreUnwrapped (flat_map message_marks (replied plan n c item journal))
    replied-unwrapped (began by head) journal lawful few = refl
    replied-unwrapped (told by seq) journal lawful few = refl
    replied-unwrapped (passed Side.Sent head payload) journal lawful few = refl
    replied-unwrapped (passed Side.Received head payload) journal lawful few = of (ends_request n c head journal && has_profile plan.raw_uri n c journal)
      where
        of : (b : Bool) → AreUnwrapped (flat_map message_marks (if b then reply_of plan.command plan.lines (position_of Side.Received (life n c journal) head) else []))
        of true = refusal-unwrapped (position_of Side.Received (life n c journal) head) (position-less Side.Received journal head lawful few)
        of false = refl

    pub talk-unwrapped : (journal : List Item) → IsLawful terms none_tunes journal → items_got journal < 2 ^ 32 → AreUnwrapped (flat_map message_marks (talk plan n c journal))
    talk-unwrapped [] lawful few = refl
    talk-unwrapped (item ∷ journal) lawful few =
        let earlier = lawful-before terms none_tunes (item ∷ []) journal lawful in
        let less = before-few item journal few in
        let first = if begins_with plan.raw_uri n c item journal then asked_first plan.command (events journal) else [] in
        let more = replied plan n c item journal in
        subst AreUnwrapped (sym (flat_map-append message_marks (talk plan n c journal) (called_for plan n c item journal)))
        (unwrapped-both (flat_map message_marks (talk plan n c journal)) (flat_map message_marks (called_for plan n c item journal)) (talk-unwrapped journal earlier less)
        (subst AreUnwrapped (sym (flat_map-append message_marks first more))
        (unwrapped-both (flat_map message_marks first) (flat_map message_marks more) (first-unwrapped (begins_with plan.raw_uri n c item journal) (events journal)) (replied-unwrapped item journal earlier less))))

-- ---- all lives

pub said-above : (plan : PlainPlan) (terms : Terms) (journal : List Item) → plan.command ≡ Command.Listen → IsLawful terms none_tunes journal → items_got journal < 2 ^ 32 → KeepsSaid plan journal
    → KeepsAbove plan journal
said-above plan terms journal listens lawful few keeps n c above =
    let script : AreUnwrapped (script_marks plan n c journal) = subst AreUnwrapped (sym (script-is plan n c journal above)) (talk-unwrapped terms n c above plan listens journal lawful few) in
    subst (λ (ms : List Mark). BeginsWith ms (marks Side.Sent (life n c journal))) script
    (subst (λ (ms : List Mark). BeginsWith (map mark_modulo_2_64 (script_marks plan n c journal)) ms) (sent-unwrapped terms n c above journal lawful few) (keeps n c above))

pub shown-above : (plan : PlainPlan) (terms : Terms) (log : List Moment) → plan.command ≡ Command.Listen → IsLawfulLog terms none_tunes log → octets_got log < 2 ^ 32 → ShowsSaid plan log
    → ShowsAbove plan log
shown-above plan terms log listens lawful few t past shows =
    let most = items-shown none_tunes log past shows in
    said-above plan terms past.journal listens (lawful.items past shows) (omega (arith, few, most)) (t past shows)
