-- The marks of each tag, cut at their ends, are its messages.
use Rattle.std.proofs.Common.{◌≡◌, ℕ, Bool, true, false, not, ◌&&◌, if◌then◌else◌, List, [], ◌∷◌, ◌++◌, map, refl, sym, ap, ◌∙◌, arith, append_assoc}
use Rattle.std.specs.List.{filter}
use Rattle.std.proofs.lemmas.Bool.{and_parts, eqb-true}
use Rattle.std.proofs.lemmas.Bool.Decides.{nat_tests}
use Rattle.std.proofs.lemmas.List.{append-nil}
use Rattle.beep_frame.specs.declared.head.Head.{Head}
use Rattle.beep_frame.specs.declared.kind.Kind.{Kind}
use Rattle.beep_frame.specs.declared.tag.Tag.{Tag}
use Rattle.beep_frame.specs.Frame.{same_kind}
use Rattle.beep_history.specs.declared.journal.Side.{Side}
use Rattle.beep_history.specs.Journal.{Item, began, passed, told}
use Rattle.beep_history.specs.Marks.{Mark, octet, end, tag_of, carries, frame_marks, marks}
use Rattle.beep_history.specs.Messages.{Message, same_tag, gathered, messages, contents_in, cut_from, left_from}
use Rattle.beep_history.specs.Moments.{mark_ends}
use Rattle.beep_history.proofs.MarksLemmas.{ends-frame}

-- ---- two tags that are one

kinds-one : (a b : Kind) → same_kind a b ≡ true → a ≡ b
kinds-one a b e = grind (arith, nat_tests)

tags-one : (a b : Tag) → same_tag a b ≡ true → a ≡ b
tags-one a b e =
    let p = and_parts _ _ e in
    let q = and_parts _ _ p.0 in
    let kind : a.kind ≡ b.kind = kinds-one a.kind b.kind q.0 in
    let request : a.request ≡ b.request = eqb-true _ _ q.1 in
    let ansno : a.ansno ≡ b.ansno = eqb-true _ _ p.1 in
    make-one a.kind b.kind a.request b.request a.ansno b.ansno kind request ansno
  where
    make : Kind → ℕ → ℕ → Tag
    make kind request ansno = record { kind = kind; request = request; ansno = ansno }

    make-one : (k k' : Kind) (r r' n n' : ℕ) → k ≡ k' → r ≡ r' → n ≡ n'
        → ◌≡◌ {A = Tag} (record { kind = k; request = r; ansno = n }) (record { kind = k'; request = r'; ansno = n' })
    make-one k k' r r' n n' e f g = rw (e, f, g)

-- ---- marks after others

module _ (tag : Tag) where
  left-append : (begun : List ℕ) (xs ys : List Mark) → left_from begun tag (xs ++ ys) ≡ left_from (left_from begun tag xs) tag ys
  left-append begun [] ys = refl
  left-append begun (octet t value ∷ xs) ys = left-append (if same_tag t tag then begun ++ value ∷ [] else begun) xs ys
  left-append begun (end t ∷ xs) ys = left-append (if same_tag t tag then [] else begun) xs ys

  cut-step : (b : Bool) (begun : List ℕ) (xs ys : List (List ℕ)) (all from : List (List ℕ)) (zs zs' : List (List ℕ))
      → all ≡ xs ++ zs → from ≡ ys ++ zs'
      → (if b then begun ∷ all else from) ≡ (if b then begun ∷ xs else ys) ++ (if b then zs else zs')
  cut-step true begun xs ys all from zs zs' e f = rw e
  cut-step false begun xs ys all from zs zs' e f = f

  choose-left : (b : Bool) (begun : List ℕ) (xs ys : List Mark)
      → (if b then cut_from (left_from [] tag xs) tag ys else cut_from (left_from begun tag xs) tag ys)
      ≡ cut_from (left_from (if b then [] else begun) tag xs) tag ys
  choose-left true begun xs ys = refl
  choose-left false begun xs ys = refl

  cut-append : (begun : List ℕ) (xs ys : List Mark)
      → cut_from begun tag (xs ++ ys) ≡ cut_from begun tag xs ++ cut_from (left_from begun tag xs) tag ys
  cut-append begun [] ys = refl
  cut-append begun (octet t value ∷ xs) ys = cut-append (if same_tag t tag then begun ++ value ∷ [] else begun) xs ys
  cut-append begun (end t ∷ xs) ys =
      cut-step (same_tag t tag) begun (cut_from [] tag xs) (cut_from begun tag xs) _ _ (cut_from (left_from [] tag xs) tag ys) (cut_from (left_from begun tag xs) tag ys)
      (cut-append [] xs ys) (cut-append begun xs ys)
      ∙ ap (λ (zs : List (List ℕ)). (if same_tag t tag then begun ∷ cut_from [] tag xs else cut_from begun tag xs) ++ zs)
      (choose-left (same_tag t tag) begun xs ys)

  -- ---- the marks of one frame

  more-octets : (b : Bool) (begun : List ℕ) (value : ℕ) (payload : List ℕ)
      → (if b then (if b then begun ++ value ∷ [] else begun) ++ payload else (if b then begun ++ value ∷ [] else begun))
      ≡ (if b then begun ++ value ∷ payload else begun)
  more-octets true begun value payload = append_assoc begun (value ∷ []) payload
  more-octets false begun value payload = refl

  left-octets : (t : Tag) (begun payload : List ℕ)
      → left_from begun tag (map (octet t) payload) ≡ (if same_tag t tag then begun ++ payload else begun)
  left-octets t begun [] = sym (by-nil (same_tag t tag))
    where
      by-nil : (b : Bool) → (if b then begun ++ [] else begun) ≡ begun
      by-nil true = append-nil begun
      by-nil false = refl
  left-octets t begun (value ∷ payload) =
      left-octets t (if same_tag t tag then begun ++ value ∷ [] else begun) payload
      ∙ more-octets (same_tag t tag) begun value payload

  cut-octets : (t : Tag) (begun payload : List ℕ) → cut_from begun tag (map (octet t) payload) ≡ []
  cut-octets t begun [] = refl
  cut-octets t begun (value ∷ payload) = cut-octets t (if same_tag t tag then begun ++ value ∷ [] else begun) payload

  cut-end : (b more : Bool) (t : Tag) (octets : List ℕ) → same_tag t tag ≡ b
      → cut_from octets tag (if more then [] else end t ∷ []) ≡ (if b && not more then octets ∷ [] else [])
  cut-end true true t octets e = refl
  cut-end true false t octets e = rw e refl
  cut-end false true t octets e = refl
  cut-end false false t octets e = rw e refl

  left-frame : (b : Bool) (t : Tag) (head : Head) (begun payload : List ℕ) → same_tag t tag ≡ b
      → left_from begun tag (frame_marks t head payload) ≡ (if b then (if head.more then begun ++ payload else []) else begun)
  left-frame b t head begun payload e =
      left-append begun (map (octet t) payload) (if head.more then [] else end t ∷ [])
      ∙ ap (λ (octets : List ℕ). left_from octets tag (if head.more then [] else end t ∷ []))
      (left-octets t begun payload ∙ ap (λ (c : Bool). if c then begun ++ payload else begun) e)
      ∙ left-by b head.more e
    where
      left-by : (b more : Bool) → same_tag t tag ≡ b
          → left_from (if b then begun ++ payload else begun) tag (if more then [] else end t ∷ [])
          ≡ (if b then (if more then begun ++ payload else []) else begun)
      left-by true true e = refl
      left-by true false e = rw e refl
      left-by false true e = refl
      left-by false false e = rw e refl

  cut-frame : (b : Bool) (t : Tag) (head : Head) (begun payload : List ℕ) → same_tag t tag ≡ b
      → cut_from begun tag (frame_marks t head payload) ≡ (if b && not head.more then (begun ++ payload) ∷ [] else [])
  cut-frame b t head begun payload e =
      cut-append begun (map (octet t) payload) (if head.more then [] else end t ∷ [])
      ∙ ap (λ (cs : List (List ℕ)). cs ++ cut_from (left_from begun tag (map (octet t) payload)) tag (if head.more then [] else end t ∷ []))
      (cut-octets t begun payload)
      ∙ cut-end b head.more t (left_from begun tag (map (octet t) payload)) e
      ∙ cut-by b e
    where
      cut-by : (b : Bool) → same_tag t tag ≡ b
          → (if b && not head.more then left_from begun tag (map (octet t) payload) ∷ [] else [])
          ≡ (if b && not head.more then (begun ++ payload) ∷ [] else [])
      cut-by false e = refl
      cut-by true e = ap (λ (octets : List ℕ). if not head.more then octets ∷ [] else []) (left-octets t begun payload ∙ rw e refl)

  -- ---- a history

  left-item : (c b more : Bool) (before frame : List Mark) (begun payload : List ℕ) → left_from [] tag before ≡ begun
      → left_from begun tag frame ≡ (if b then (if more then begun ++ payload else []) else begun)
      → left_from [] tag (before ++ (if c then frame else [])) ≡ (if c && b then (if more then begun ++ payload else []) else begun)
  left-item true b more before frame begun payload e f = left-append [] before frame ∙ ap (λ (o : List ℕ). left_from o tag frame) e ∙ f
  left-item false b more before frame begun payload e f = left-append [] before [] ∙ e

  pub marks-left : (side : Side) (past : List Item) → left_from [] tag (marks side past) ≡ gathered side tag past
  marks-left side [] = refl
  marks-left side (began by head ∷ past) = marks-left side past
  marks-left side (passed by head payload ∷ past) =
      left-item (carries side past by head) (same_tag (tag_of side past head) tag) head.more (marks side past)
      (frame_marks (tag_of side past head) head payload) (gathered side tag past) payload (marks-left side past)
      (left-frame (same_tag (tag_of side past head) tag) (tag_of side past head) head (gathered side tag past) payload refl)
  marks-left side (told by seq ∷ past) = marks-left side past

  contents-append : (xs ys : List Message) → contents_in tag (xs ++ ys) ≡ contents_in tag xs ++ contents_in tag ys
  contents-append [] ys = refl
  contents-append (x ∷ xs) ys = contents-step (same_tag x.tag tag) (contents-append xs ys)
    where
      contents-step : (b : Bool) → contents_in tag (xs ++ ys) ≡ contents_in tag xs ++ contents_in tag ys
          → map (λ (m : Message). m.content) (if b then x ∷ filter (λ (m : Message). same_tag m.tag tag) (xs ++ ys) else filter (λ (m : Message). same_tag m.tag tag) (xs ++ ys))
          ≡ map (λ (m : Message). m.content) (if b then x ∷ filter (λ (m : Message). same_tag m.tag tag) xs else filter (λ (m : Message). same_tag m.tag tag) xs)
          ++ contents_in tag ys
      contents-step true e = ap (λ (cs : List (List ℕ)). x.content ∷ cs) e
      contents-step false e = e

  one-message : (c more : Bool) (t : Tag) (own begun payload : List ℕ) (b : Bool) → same_tag t tag ≡ b → (b ≡ true → own ≡ begun)
      → contents_in tag (if c && not more then record { tag = t; content = own ++ payload } ∷ [] else [])
      ≡ (if c && (b && not more) then (begun ++ payload) ∷ [] else [])
  one-message false more t own begun payload b e f = refl
  one-message true true t own begun payload true e f = refl
  one-message true true t own begun payload false e f = refl
  one-message true false t own begun payload true e f = rw (e, f refl) refl
  one-message true false t own begun payload false e f = rw e refl

  cut-item : (c b more : Bool) (before frame : List Mark) (begun payload : List ℕ) (cs : List (List ℕ)) → cut_from [] tag before ≡ cs
      → left_from [] tag before ≡ begun → cut_from begun tag frame ≡ (if b && not more then (begun ++ payload) ∷ [] else [])
      → cut_from [] tag (before ++ (if c then frame else [])) ≡ cs ++ (if c && (b && not more) then (begun ++ payload) ∷ [] else [])
  cut-item true b more before frame begun payload cs e f g =
      cut-append [] before frame ∙ rw (e, f, g) refl
  cut-item false b more before frame begun payload cs e f g = cut-append [] before [] ∙ rw e refl

  pub marks-cut : (side : Side) (past : List Item) → cut_from [] tag (marks side past) ≡ contents_in tag (messages side past)
  marks-cut side [] = refl
  marks-cut side (began by head ∷ past) = marks-cut side past
  marks-cut side (passed by head payload ∷ past) =
      let t : Tag = tag_of side past head in
      cut-item (carries side past by head) (same_tag t tag) head.more (marks side past) (frame_marks t head payload) (gathered side tag past) payload
      (contents_in tag (messages side past)) (marks-cut side past) (marks-left side past)
      (cut-frame (same_tag t tag) t head (gathered side tag past) payload refl)
      ∙ sym (contents-append (messages side past) _
      ∙ ap (λ (cs : List (List ℕ)). contents_in tag (messages side past) ++ cs)
      (one-message (carries side past by head) head.more t (gathered side t past) (gathered side tag past) payload (same_tag t tag) refl
      (λ same. ap (λ (x : Tag). gathered side x past) (tags-one t tag same))))
  marks-cut side (told by seq ∷ past) = marks-cut side past

-- ---- the order of messages

tags-append : (xs ys : List Message) → map (λ (m : Message). m.tag) (xs ++ ys) ≡ map (λ (m : Message). m.tag) xs ++ map (λ (m : Message). m.tag) ys
tags-append [] ys = refl
tags-append (x ∷ xs) ys = ap (λ (ts : List Tag). x.tag ∷ ts) (tags-append xs ys)

tag-item : (c more : Bool) (t : Tag) (content : List ℕ)
    → map (λ (m : Message). m.tag) (if c && not more then record { tag = t; content = content } ∷ [] else []) ≡ (if c && not more then t ∷ [] else [])
tag-item true true t content = refl
tag-item true false t content = refl
tag-item false more t content = refl

-- the ends among the marks of a side are those of its messages
pub marks-order : (side : Side) (past : List Item) → mark_ends (marks side past) ≡ map (λ (m : Message). m.tag) (messages side past)
marks-order side [] = refl
marks-order side (began by head ∷ past) = marks-order side past
marks-order side (passed by head payload ∷ past) =
    let t : Tag = tag_of side past head in
    ends-frame t head payload (marks side past) (map (λ (m : Message). m.tag) (messages side past)) (carries side past by head) (marks-order side past)
    ∙ sym (tags-append (messages side past) _
    ∙ ap (λ (ts : List Tag). map (λ (m : Message). m.tag) (messages side past) ++ ts) (tag-item (carries side past by head) head.more t _))
marks-order side (told by seq ∷ past) = marks-order side past
