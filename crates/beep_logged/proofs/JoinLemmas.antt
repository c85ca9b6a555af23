-- Octets that were read, and the items that they brought.
use Rattle.std.proofs.Common.{◌≡◌, ℕ, ◌==◌, inl, inr, Bool, true, false, not, ◌&&◌, ◌||◌, if◌then◌else◌, List, [], ◌∷◌, ◌++◌, length, None, Some, Option, refl, sym, ap, ◌∙◌, subst, append_assoc, append-nil, arith, length-append}
use Rattle.std.specs.List.{list_any}
use Rattle.beep_peer.specs.beep_frame.specs.declared.head.Head.{Head}
use Rattle.beep_peer.specs.beep_frame.specs.declared.seq.Seq.{Seq}
use Rattle.beep_peer.specs.beep_frame.specs.declared.rule.Rule.{Rule}
use Rattle.beep_peer.specs.beep_frame.specs.Frame.{framed, seq_frame, IsHead, IsFrame, is_reply}
use Rattle.beep_peer.specs.beep_frame.specs.Spelling.{spelling, header, header_line, line_end, trailer}
use Rattle.beep_peer.specs.beep_frame.specs.Stream.{IsUnfinished, HasNoHead, HasHead, IsHeadOf}
use Rattle.beep_peer.specs.beep_frame.specs.Line.{line_start}
use Rattle.beep_peer.specs.beep_frame.proofs.AliveLemmas.{unfinished_line}
use Rattle.beep_peer.specs.beep_frame.proofs.DeadLemmas.{no_frame_alone}
use Rattle.beep_peer.specs.beep_frame.proofs.StreamLemmas.{Overlap, overlap}
use Rattle.beep_peer.specs.beep_history.specs.declared.journal.Side.{Side}
use Rattle.beep_peer.specs.beep_history.specs.Journal.{Item, began, passed, told}
use Rattle.beep_peer.specs.beep_history.specs.Broken.{under_way}
use Rattle.beep_peer.specs.beep_journal.specs.Log.{Moment}
use Rattle.beep_peer.specs.beep_journal.specs.Life.{is_released}
use Rattle.beep_peer.specs.beep_journal.specs.Zero.{zero_history, completes_form}
use Rattle.beep_peer.specs.beep_journal.specs.Broken.{none_tunes, broken_content}
use Rattle.beep_peer.specs.beep_journal.specs.Journal.{spelled}
use Rattle.beep_peer.specs.beep_journal.proofs.OctetLemmas.{unfinished_head}
use Rattle.beep_peer.specs.beep_lawful.specs.declared.terms.Terms.{Terms}
use Rattle.beep_peer.specs.beep_lawful.specs.Lawful.{IsLawful}
use Rattle.beep_peer.specs.beep_hearing.specs.Hears.{Join, MayJoin, ends_zero}
use Rattle.beep_peer.proofs.GainLemmas.{gained-released}
use Rattle.beep_logged.proofs.OctetLemmas.{At, May, many, many-append, goes, NoHeadAfter}
use Rattle.beep_logged.proofs.WholeLemmas.{header-ends, frame-ends, seq-ends, none-after}

-- ---- what items spell

-- the octets of these received items in whole frames and SEQs
abbrev pub text_of : List Item → List ℕ
text_of [] = []
text_of (began by head ∷ items) = text_of items
text_of (passed by head payload ∷ items) = text_of items ++ spelling (framed head payload)
text_of (told by seq ∷ items) = text_of items ++ spelling (seq_frame seq)

pub spelled-items : (items journal : List Item) → Join items journal → spelled Side.Received (items ++ journal) ≡ spelled Side.Received journal ++ text_of items
spelled-items [] journal j = sym (append-nil (spelled Side.Received journal))
spelled-items (began by head ∷ items) journal j = spelled-items items journal j.1
spelled-items (passed by head payload ∷ items) journal j =
    subst (λ (side : Side). spelled Side.Received (passed side head payload ∷ (items ++ journal)) ≡ spelled Side.Received journal ++ (text_of items ++ spelling (framed head payload)))
    (sym j.0.0)
    (ap (λ x. x ++ spelling (framed head payload)) (spelled-items items journal j.1) ∙ append_assoc (spelled Side.Received journal) (text_of items) (spelling (framed head payload)))
spelled-items (told by seq ∷ items) journal j =
    subst (λ (side : Side). spelled Side.Received (told side seq ∷ (items ++ journal)) ≡ spelled Side.Received journal ++ (text_of items ++ spelling (seq_frame seq)))
    (sym j.0.0)
    (ap (λ x. x ++ spelling (seq_frame seq)) (spelled-items items journal j.1) ∙ append_assoc (spelled Side.Received journal) (text_of items) (spelling (seq_frame seq)))

-- what came since the last whole frame, right after the last of these items
abbrev pub rest_now : List ℕ → List Item → List ℕ
rest_now rest [] = rest
rest_now rest (began by head ∷ items) = header head
rest_now rest (passed by head payload ∷ items) = []
rest_now rest (told by seq ∷ items) = []

-- the octets after these items go on with the header that the last of them ended
abbrev pub Follows : List Item → List ℕ → Type 0
Follows [] after = Unit {0}
Follows (began by head ∷ items) after = (more : List ℕ) × (after ≡ header head ++ more)
Follows (passed by head payload ∷ items) after = Unit {0}
Follows (told by seq ∷ items) after = Unit {0}

-- ---- small facts

none-first : (a b : Bool) → (a || b) ≡ false → a ≡ false
none-first true b e = cc
none-first false b e = refl

none-later : (a b : Bool) → (a || b) ≡ false → b ≡ false
none-later true b e = cc
none-later false b e = e

last-of : (first : ℕ) (octets : List ℕ) → (before : List ℕ) × (last : ℕ) × (first ∷ octets ≡ before ++ last ∷ [])
last-of first [] = ([], first, refl)
last-of first (second ∷ octets) =
    let more = last-of second octets in
    (first ∷ more.0, more.1, ap (λ x. first ∷ x) more.2)

no-header : (head : Head) (more : List ℕ) → [] ≡ header head ++ more → ⊥
no-header head more e = omega (arith, ap length e, length-append (header head) more, length-append (header_line head) line_end)

unfinished-none : IsUnfinished []
unfinished-none = unfinished_line [] line_start refl

-- the content of a frame breaks no rule that ends no message of channel zero
content-quiet : (journal : List Item) (head : Head) (payload : List ℕ) → ends_zero (passed Side.Received head payload) ≡ false → broken_content Side.Received journal head payload ≡ None
unfolding broken_content
content-quiet journal head payload quiet = of (head.channel == 0) head.more quiet
  where
    of : (zero more : Bool) → (zero && not more) ≡ false
        → (if zero && is_reply head.kind && not more && not (completes_form Side.Received head payload (zero_history journal)) then Some Rule.ZeroReply else None) ≡ None
    of true true e = either (is_reply head.kind)
      where
        either : (reply : Bool)
            → (if true && reply && not true && not (completes_form Side.Received head payload (zero_history journal)) then Some Rule.ZeroReply else None) ≡ None
        either true = refl
        either false = refl
    of true false e = absurd (let h : true ≡ false = e in cc)
    of false more e = refl

pub join-lawful : (terms : Terms) (items journal : List Item) → Join items journal → IsLawful terms none_tunes journal → IsLawful terms none_tunes (items ++ journal)
join-lawful terms [] journal j is = is
join-lawful terms (began by head ∷ items) journal j is = subst (λ (side : Side). IsLawful terms none_tunes (began side head ∷ (items ++ journal))) (sym j.0.0) (join-lawful terms items journal j.1 is)
join-lawful terms (passed by head payload ∷ items) journal j is =
    subst (λ (side : Side). IsLawful terms none_tunes (passed side head payload ∷ (items ++ journal))) (sym j.0.0) (join-lawful terms items journal j.1 is)
join-lawful terms (told by seq ∷ items) journal j is = subst (λ (side : Side). IsLawful terms none_tunes (told side seq ∷ (items ++ journal))) (sym j.0.0) (join-lawful terms items journal j.1 is)

-- ---- item by item

module _ (terms : Terms) (journal : List Item) (rest octets : List ℕ) (log : List Moment) (at : At terms Side.Received journal rest [] log) (unreleased : is_released journal ≡ false)
    (is : IsLawful terms none_tunes journal) (unfinished : IsUnfinished rest) (known : IsHeadOf rest (under_way Side.Received journal)) where
  -- the octets that brought these items came, and the others come after them
  pub record Reached (items : List Item) (after : List ℕ) : Type 0 where
    pub one : List ℕ
    pub two : List ℕ
    pub split : octets ≡ one ++ two
    pub at_items : At terms Side.Received (items ++ journal) (rest_now rest items) [] (many Side.Received one log)
    pub left : rest_now rest items ++ two ≡ after

  -- no header is under way after these items
  no-head-now : (items : List Item) → Join items journal → under_way Side.Received (items ++ journal) ≡ None → (head : Head) (more : List ℕ) → IsHead head
      → rest_now rest items ≡ header head ++ more → ⊥
  no-head-now [] j none head more is_head e = let bare : HasNoHead rest = subst (IsHeadOf rest) none known in bare.none head more is_head e
  no-head-now (began by first ∷ items) j none head more is_head e =
      let some : under_way Side.Received (began Side.Received first ∷ (items ++ journal)) ≡ None = subst (λ (side : Side). under_way Side.Received (began side first ∷ (items ++ journal)) ≡ None) j.0.0 none in
      let h : Some first ≡ None = some in cc
  no-head-now (passed by first payload ∷ items) j none head more is_head e = no-header head more e
  no-head-now (told by seq ∷ items) j none head more is_head e = no-header head more e

  follows-none : (items : List Item) → Join items journal → under_way Side.Received (items ++ journal) ≡ None → (after : List ℕ) → Follows items after
  follows-none [] j none after = tt
  follows-none (began by first ∷ items) j none after =
      let some : under_way Side.Received (began Side.Received first ∷ (items ++ journal)) ≡ None = subst (λ (side : Side). under_way Side.Received (began side first ∷ (items ++ journal)) ≡ None) j.0.0 none in
      absurd (let h : Some first ≡ None = some in cc)
  follows-none (passed by first payload ∷ items) j none after = tt
  follows-none (told by seq ∷ items) j none after = tt

  -- the header that is under way after these items begins what came
  head-now : (items : List Item) → Join items journal → (head : Head) → under_way Side.Received (items ++ journal) ≡ Some head
      → (part : List ℕ) × (rest_now rest items ≡ header head ++ part)
  head-now [] j head some = let has : HasHead rest head = subst (IsHeadOf rest) some known in (has.more, has.begins)
  head-now (began by first ∷ items) j head some =
      let begun : under_way Side.Received (began Side.Received first ∷ (items ++ journal)) ≡ Some head =
      subst (λ (side : Side). under_way Side.Received (began side first ∷ (items ++ journal)) ≡ Some head) j.0.0 some in
      let same : first ≡ head = let h : Some first ≡ Some head = begun in cc in
      ([], ap header same ∙ sym (append-nil (header head)))
  head-now (passed by first payload ∷ items) j head some =
      let gone : under_way Side.Received (passed Side.Received first payload ∷ (items ++ journal)) ≡ Some head =
      subst (λ (side : Side). under_way Side.Received (passed side first payload ∷ (items ++ journal)) ≡ Some head) j.0.0 some in
      absurd (let h : None ≡ Some head = gone in cc)
  head-now (told by seq ∷ items) j head some = absurd (let h : None ≡ Some head = sym j.0.2 ∙ some in cc)

  follows-head : (items : List Item) → Join items journal → (head : Head) → under_way Side.Received (items ++ journal) ≡ Some head → (more : List ℕ) → Follows items (header head ++ more)
  follows-head [] j head some more = tt
  follows-head (began by first ∷ items) j head some more =
      let begun : under_way Side.Received (began Side.Received first ∷ (items ++ journal)) ≡ Some head =
      subst (λ (side : Side). under_way Side.Received (began side first ∷ (items ++ journal)) ≡ Some head) j.0.0 some in
      let same : first ≡ head = let h : Some first ≡ Some head = begun in cc in
      (more, ap (λ (h : Head). header h ++ more) (sym same))
  follows-head (passed by first payload ∷ items) j head some more = tt
  follows-head (told by seq ∷ items) j head some more = tt

  unfinished-now : (items : List Item) → Join items journal → IsUnfinished (rest_now rest items)
  unfinished-now [] j = unfinished
  unfinished-now (began by head ∷ items) j = unfinished_head (header head) head j.0.1 refl
  unfinished-now (passed by head payload ∷ items) j = unfinished-none
  unfinished-now (told by seq ∷ items) j = unfinished-none

  -- ---- one item more

  module _ (items : List Item) (j : Join items journal) (quiet : list_any ends_zero items ≡ false) where
    may-now : May Side.Received (items ++ journal) []
    may-now = (gained-released items journal quiet ∙ unreleased, refl)

    lawful-now : IsLawful terms none_tunes (items ++ journal)
    lawful-now = join-lawful terms items journal j is

    -- the octets up to the end of this text, and those after it
    pub record Cut (two text after : List ℕ) : Type 0 where
      pub before : List ℕ
      pub last : ℕ
      pub ends : rest_now rest items ++ (before ++ last ∷ []) ≡ text
      pub two_is : two ≡ (before ++ last ∷ []) ++ after

    cut : (two text after : List ℕ) → ((more : List ℕ) → rest_now rest items ≡ text ++ more → ⊥) → Overlap (rest_now rest items) two text after → Cut two text after
    cut two text after none (inl w) = absurd (none w.0 w.1)
    cut two text after none (inr w) =
        let l = last-of w.0 w.1 in
        record {
          before = l.0;
          last = l.1;
          ends = ap (λ x. rest_now rest items ++ x) (sym l.2) ∙ sym w.2;
          two_is = w.3 ∙ ap (λ x. x ++ after) l.2;
        }

    -- the octets up to the item, in all
    joined : (item : Item) (after text : List ℕ) (r : Reached items (text ++ after)) (c : Cut r.two text after) (now : List ℕ)
        → At terms Side.Received (item ∷ (items ++ journal)) (rest_now rest (item ∷ items)) [] (many Side.Received (c.before ++ c.last ∷ []) (many Side.Received r.one log))
        → rest_now rest (item ∷ items) ++ after ≡ now → Reached (item ∷ items) now
    joined item after text r c now at_item left = record {
      one = r.one ++ (c.before ++ c.last ∷ []);
      two = after;
      split = r.split ∙ ap (λ x. r.one ++ x) c.two_is ∙ sym (append_assoc r.one (c.before ++ c.last ∷ []) after);
      at_items = subst (At terms Side.Received (item ∷ (items ++ journal)) (rest_now rest (item ∷ items)) []) (sym (many-append Side.Received r.one (c.before ++ c.last ∷ []) log)) at_item;
      left = left;
    }

    began-reached : (head : Head) → MayJoin (began Side.Received head) (items ++ journal) → (after more : List ℕ) → after ≡ header head ++ more
        → Reached items (header head ++ more) → Reached (began Side.Received head ∷ items) after
    began-reached head may after more after_is r =
        let c : Cut r.two (header head) more =
        cut r.two (header head) more (λ longer e. no-head-now items j may.2 head longer may.1 e) (overlap (rest_now rest items) r.two (header head) more r.left) in
        joined (began Side.Received head) more (header head) r c after
        (header-ends terms Side.Received (items ++ journal) (rest_now rest items) [] c.before c.last (many Side.Received r.one log) r.at_items may-now lawful-now head may.1 c.ends may.3 lawful-now)
        (sym after_is)

    passed-reached : (head : Head) (payload : List ℕ) → MayJoin (passed Side.Received head payload) (items ++ journal)
        → ends_zero (passed Side.Received head payload) ≡ false → (after : List ℕ)
        → Reached items (spelling (framed head payload) ++ after) → Reached (passed Side.Received head payload ∷ items) after
    passed-reached head payload may silent after r =
        let c : Cut r.two (spelling (framed head payload)) after =
        cut r.two (spelling (framed head payload)) after (λ longer e. no_frame_alone (framed head payload) (rest_now rest items) longer may.1 (unfinished-now items j) e)
        (overlap (rest_now rest items) r.two (spelling (framed head payload)) after r.left) in
        let begins = head-now items j head may.2 in
        joined (passed Side.Received head payload) after (spelling (framed head payload)) r c after
        (frame-ends terms Side.Received (items ++ journal) (rest_now rest items) [] c.before c.last (many Side.Received r.one log) r.at_items may-now lawful-now head payload begins.0 may.1 begins.1
        c.ends (content-quiet (items ++ journal) head payload silent) lawful-now)
        refl

    told-reached : (seq : Seq) → MayJoin (told Side.Received seq) (items ++ journal) → (after : List ℕ) → Reached items (spelling (seq_frame seq) ++ after)
        → Reached (told Side.Received seq ∷ items) after
    told-reached seq may after r =
        let c : Cut r.two (spelling (seq_frame seq)) after =
        cut r.two (spelling (seq_frame seq)) after (λ longer e. no_frame_alone (seq_frame seq) (rest_now rest items) longer may.1 (unfinished-now items j) e)
        (overlap (rest_now rest items) r.two (spelling (seq_frame seq)) after r.left) in
        joined (told Side.Received seq) after (spelling (seq_frame seq)) r c after
        (seq-ends terms Side.Received (items ++ journal) (rest_now rest items) [] c.before c.last (many Side.Received r.one log) r.at_items may-now lawful-now seq may.1 c.ends may.3 lawful-now)
        refl

  -- ---- all items

  frame-first : (head : Head) (payload after : List ℕ) → spelling (framed head payload) ++ after ≡ header head ++ (payload ++ (trailer ++ after))
  frame-first head payload after = append_assoc (header head ++ payload) trailer after ∙ append_assoc (header head) payload (trailer ++ after)

  pub reached : (items : List Item) → Join items journal → list_any ends_zero items ≡ false → (after : List ℕ) → Follows items after → rest ++ octets ≡ text_of items ++ after
      → Reached items after
  reached [] j quiet after follows e = record { one = []; two = octets; split = refl; at_items = at; left = e }
  reached (began by head ∷ items) j quiet after follows e =
      let later : list_any ends_zero items ≡ false = none-later (ends_zero (began by head)) _ quiet in
      let may : MayJoin (began Side.Received head) (items ++ journal) = subst (λ (side : Side). MayJoin (began side head) (items ++ journal)) j.0.0 j.0 in
      let before : Reached items (header head ++ follows.0) =
      reached items j.1 later (header head ++ follows.0) (follows-none items j.1 j.0.2 (header head ++ follows.0)) (e ∙ ap (λ x. text_of items ++ x) follows.1) in
      subst (λ (side : Side). Reached (began side head ∷ items) after) (sym j.0.0) (began-reached items j.1 later head may after follows.0 follows.1 before)
  reached (passed by head payload ∷ items) j quiet after follows e =
      let later : list_any ends_zero items ≡ false = none-later (ends_zero (passed by head payload)) _ quiet in
      let silent : ends_zero (passed Side.Received head payload) ≡ false = none-first (ends_zero (passed by head payload)) _ quiet in
      let may : MayJoin (passed Side.Received head payload) (items ++ journal) = subst (λ (side : Side). MayJoin (passed side head payload) (items ++ journal)) j.0.0 j.0 in
      let first : spelling (framed head payload) ++ after ≡ header head ++ (payload ++ (trailer ++ after)) = frame-first head payload after in
      let before : Reached items (spelling (framed head payload) ++ after) =
      reached items j.1 later (spelling (framed head payload) ++ after)
      (subst (Follows items) (sym first) (follows-head items j.1 head may.2 (payload ++ (trailer ++ after))))
      (e ∙ append_assoc (text_of items) (spelling (framed head payload)) after) in
      subst (λ (side : Side). Reached (passed side head payload ∷ items) after) (sym j.0.0) (passed-reached items j.1 later head payload may silent after before)
  reached (told by seq ∷ items) j quiet after follows e =
      let later : list_any ends_zero items ≡ false = none-later (ends_zero (told by seq)) _ quiet in
      let may : MayJoin (told Side.Received seq) (items ++ journal) = subst (λ (side : Side). MayJoin (told side seq) (items ++ journal)) j.0.0 j.0 in
      let before : Reached items (spelling (seq_frame seq) ++ after) =
      reached items j.1 later (spelling (seq_frame seq) ++ after) (follows-none items j.1 j.0.2 (spelling (seq_frame seq) ++ after)) (e ∙ append_assoc (text_of items) (spelling (seq_frame seq)) after) in
      subst (λ (side : Side). Reached (told side seq ∷ items) after) (sym j.0.0) (told-reached items j.1 later seq may after before)

  -- ---- and less than a frame more

  follows-rest : (items : List Item) → Join items journal → (after : List ℕ) → IsHeadOf after (under_way Side.Received (items ++ journal)) → Follows items after
  follows-rest [] j after is_head = tt
  follows-rest (began by head ∷ items) j after is_head =
      let has : HasHead after head = subst (λ (side : Side). IsHeadOf after (under_way Side.Received (began side head ∷ (items ++ journal)))) j.0.0 is_head in
      (has.more, has.begins)
  follows-rest (passed by head payload ∷ items) j after is_head = tt
  follows-rest (told by seq ∷ items) j after is_head = tt

  none-ends : (items : List Item) → Join items journal → (under : Option Head) → under_way Side.Received (items ++ journal) ≡ under → (more : List ℕ)
      → IsHeadOf (rest_now rest items ++ more) under → NoHeadAfter (rest_now rest items) (rest_now rest items ++ more)
  none-ends items j None none more is_head = λ head longer is_it e past. is_head.none head longer is_it e
  none-ends items j (Some head) some more is_head =
      let begins = head-now items j head some in
      none-after (rest_now rest items) begins.0 more head is_head.is_head begins.1

  pub all-reached : (items : List Item) → Join items journal → list_any ends_zero items ≡ false → (after : List ℕ) → IsUnfinished after
      → IsHeadOf after (under_way Side.Received (items ++ journal)) → rest ++ octets ≡ text_of items ++ after
      → At terms Side.Received (items ++ journal) after [] (many Side.Received octets log)
  all-reached items j quiet after less is_head e =
      let r : Reached items after = reached items j quiet after (follows-rest items j after is_head) e in
      let known_now : IsHeadOf (rest_now rest items ++ r.two) (under_way Side.Received (items ++ journal)) =
      subst (λ x. IsHeadOf x (under_way Side.Received (items ++ journal))) (sym r.left) is_head in
      let now : At terms Side.Received (items ++ journal) (rest_now rest items ++ r.two) [] (many Side.Received r.two (many Side.Received r.one log)) =
      goes terms Side.Received (items ++ journal) (rest_now rest items) [] r.two (many Side.Received r.one log) r.at_items (may-now items j quiet) (lawful-now items j quiet)
      (subst IsUnfinished (sym r.left) less) (none-ends items j (under_way Side.Received (items ++ journal)) refl r.two known_now) in
      subst (λ l. At terms Side.Received (items ++ journal) after [] l) (sym (ap (λ x. many Side.Received x log) r.split ∙ many-append Side.Received r.one r.two log))
      (subst (λ x. At terms Side.Received (items ++ journal) x [] (many Side.Received r.two (many Side.Received r.one log))) r.left now)

  -- ---- and the last octet of a message of channel zero

  -- before the last octet
  pub record Short (items : List Item) (text : List ℕ) : Type 0 where
    pub before : List ℕ
    pub last : ℕ
    pub octets_are : octets ≡ before ++ last ∷ []
    pub left : List ℕ
    pub whole : left ++ last ∷ [] ≡ text
    pub at_short : At terms Side.Received (items ++ journal) left [] (many Side.Received before log)

  pub short-reached : (items : List Item) → Join items journal → list_any ends_zero items ≡ false → (head : Head) (payload : List ℕ) → under_way Side.Received (items ++ journal) ≡ Some head
      → IsFrame (framed head payload) → rest ++ octets ≡ text_of items ++ spelling (framed head payload) → Short items (spelling (framed head payload))
  short-reached items j quiet head payload under is_frame e =
      let text : List ℕ = spelling (framed head payload) in
      let first : text ≡ header head ++ (payload ++ trailer) = append_assoc (header head) payload trailer in
      let r : Reached items text = reached items j quiet text (subst (Follows items) (sym first) (follows-head items j head under (payload ++ trailer))) e in
      let c : Cut items j quiet r.two text [] =
      cut items j quiet r.two text [] (λ longer f. no_frame_alone (framed head payload) (rest_now rest items) longer is_frame (unfinished-now items j) f)
      (overlap (rest_now rest items) r.two text [] (r.left ∙ sym (append-nil text))) in
      let begins = head-now items j head under in
      let whole : (rest_now rest items ++ c.before) ++ c.last ∷ [] ≡ text = append_assoc (rest_now rest items) c.before (c.last ∷ []) ∙ c.ends in
      let less : IsUnfinished (rest_now rest items ++ c.before) = record { frame = framed head payload; is_frame = is_frame; next = c.last; others = []; spelled = sym whole } in
      record {
        before = r.one ++ c.before;
        last = c.last;
        octets_are = r.split ∙ ap (λ x. r.one ++ x) (c.two_is ∙ append-nil (c.before ++ c.last ∷ [])) ∙ sym (append_assoc r.one c.before (c.last ∷ []));
        left = rest_now rest items ++ c.before;
        whole = whole;
        at_short = subst (At terms Side.Received (items ++ journal) (rest_now rest items ++ c.before) []) (sym (many-append Side.Received r.one c.before log))
            (goes terms Side.Received (items ++ journal) (rest_now rest items) [] c.before (many Side.Received r.one log) r.at_items (may-now items j quiet) (lawful-now items j quiet)
            less (none-after (rest_now rest items) begins.0 c.before head is_frame.0 begins.1));
      }
