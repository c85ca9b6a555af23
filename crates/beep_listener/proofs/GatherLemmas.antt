-- What a listener keeps, as a journal goes on.
use Rattle.std.proofs.Common.{◌≡◌, ◌∙◌, refl, sym, ap, subst, ℕ, ◌<◌, ◌^◌, ◌==◌, Bool, true, false, not, ◌&&◌, if◌then◌else◌, List, [], ◌∷◌, ◌++◌, map, flat_map, append-nil, append_assoc, arith}
use Rattle.std.proofs.lemmas.List.{map-append}
use Rattle.std.proofs.lemmas.Grind.{flat_map-append}
use Rattle.beep_steps.specs.beep_frame.specs.declared.head.Head.{Head}
use Rattle.beep_steps.specs.beep_frame.specs.declared.kind.Kind.{Kind}
use Rattle.beep_steps.specs.beep_frame.specs.declared.tag.Tag.{Tag}
use Rattle.beep_steps.specs.beep_frame.specs.Frame.{is_ans, same_kind}
use Rattle.beep_steps.specs.beep_history.specs.declared.journal.Side.{Side}
use Rattle.beep_steps.specs.beep_history.specs.Journal.{Item, passed}
use Rattle.beep_steps.specs.beep_history.specs.Marks.{Mark, octet, end, marks, frame_marks, tag_of, position_of, mark_modulo_2_64, modulo_2_64}
use Rattle.beep_steps.specs.beep_history.specs.Messages.{same_tag, left_from, cut_from}
use Rattle.beep_steps.specs.beep_journal.specs.Lives.{lives}
use Rattle.beep_steps.specs.beep_journal.specs.Zero.{events}
use Rattle.beep_steps.specs.beep_journal.specs.Life.{history, is_there, life, life_now, life_under_way}
use Rattle.beep_steps.specs.beep_journal.proofs.JournalLemmas.{above-there, above-others}
use Rattle.beep_steps.specs.beep_journal.proofs.MomentLemmas.{same-number, equal-number}
use Rattle.beep_steps.specs.beep_inbox.specs.Runs.{marks_with}
use Rattle.beep_steps.specs.beep_speaking.specs.declared.emit.Emit.{Emit}
use Rattle.beep_lines.specs.declared.bodies.Body.{Body}
use Rattle.beep_lines.specs.Bodies.{body_of}
use Rattle.beep_lines.specs.Lines.{lines_of}
use Rattle.beep_steps.specs.beep_talk.specs.Plan.{PlainPlan}
use Rattle.beep_steps.specs.beep_talk.specs.Talk.{has_profile}
use Rattle.beep_steps.specs.beep_mime.specs.Split.{body_of as body_of_message}
use Rattle.beep_steps.specs.prof_raw.specs.Entries.{entries_of}
use Rattle.beep_steps.specs.prof_raw.specs.Line.{line_of}
use Rattle.beep_steps.specs.beep_script.specs.Lines.{lines, heard, heard_at, ends_answer, entries_in, content_with}
use Rattle.beep_steps.specs.Steps.{Says, arrived_marks}
use Rattle.beep_listener.specs.Listening.{IsServed, ServedAt, AreGathered, ArePruned, Gathers, Takes, so_far, first_answer}
use Rattle.beep_steps.specs.beep_history.proofs.MessagesLemmas.{marks-left}
use Rattle.beep_steps.proofs.StepLemmas.{Steps, dead-answer}
use Rattle.beep_steps.proofs.ArrivedLemmas.{own-marks, turn}

-- ---- what stays

pub served-then : (plan : PlainPlan) (gained journal : List Item) → IsServed plan (gained ++ journal) → IsServed plan journal
served-then plan [] journal s = s
served-then plan (item ∷ gained) journal s = served-then plan gained journal s.1

pub said-served : (plan : PlainPlan) (said : Emit) (old new : List Item) → Says said old new → IsServed plan new → IsServed plan old
said-served plan (Emit.Seq seq) old new e s = (subst (IsServed plan) e s).1
said-served plan (Emit.Data head) old new e s = (subst (IsServed plan) e.1 s).1.1
said-served plan Emit.Nothing old new e s = subst (IsServed plan) e s

pub gathers-steps : (plan : PlainPlan) (bodies : List Body) (buffer text : List ℕ) (old new : List Item) → Steps plan old new → (IsServed plan new → IsServed plan old) → ArePruned old bodies
    → Gathers plan bodies buffer text old → Gathers plan bodies buffer text new
gathers-steps plan bodies buffer text old new steps less pruned g = record {
  gathered = λ served n a above now. by n a above now (is_there n old) refl (g.gathered (less served));
  lines = λ served. steps.lines ∙ g.lines (less served);
}
  where
    by : (n a : ℕ) → (n == 0) ≡ false → is_there n new ≡ true → (b : Bool) → is_there n old ≡ b → AreGathered old bodies → body_of n a bodies ≡ so_far n a new
    by n a above now true was h = h n a above was ∙ ap (left_from [] (first_answer a)) (sym (steps.same n above was now))
    by n a above now false was h = pruned n a above was ∙ ap (left_from [] (first_answer a)) (sym (steps.fresh n above was now))

pub pruned-there : (bodies : List Body) (old new : List Item) → ((n : ℕ) → is_there n new ≡ is_there n old) → ArePruned old bodies → ArePruned new bodies
pruned-there bodies old new there p n a above none = p n a above (sym (there n) ∙ none)

-- ---- marks of one message

module _ (t : Tag) where
  pub left-append : (b : List ℕ) (xs ys : List Mark) → left_from b t (xs ++ ys) ≡ left_from (left_from b t xs) t ys
  left-append b [] ys = refl
  left-append b (octet u value ∷ xs) ys = left-append (if same_tag u t then b ++ value ∷ [] else b) xs ys
  left-append b (end u ∷ xs) ys = left-append (if same_tag u t then [] else b) xs ys

  pub cut-append : (b : List ℕ) (xs ys : List Mark) → cut_from b t (xs ++ ys) ≡ cut_from b t xs ++ cut_from (left_from b t xs) t ys
  cut-append b [] ys = refl
  cut-append b (octet u value ∷ xs) ys = cut-append (if same_tag u t then b ++ value ∷ [] else b) xs ys
  cut-append b (end u ∷ xs) ys = by (same_tag u t) (cut-append [] xs ys) (cut-append b xs ys)
    where
      by : (c : Bool) → cut_from [] t (xs ++ ys) ≡ cut_from [] t xs ++ cut_from (left_from [] t xs) t ys → cut_from b t (xs ++ ys) ≡ cut_from b t xs ++ cut_from (left_from b t xs) t ys
          → (if c then b ∷ cut_from [] t (xs ++ ys) else cut_from b t (xs ++ ys))
          ≡ (if c then b ∷ cut_from [] t xs else cut_from b t xs) ++ cut_from (left_from (if c then [] else b) t xs) t ys
      by true e f = ap (λ r. b ∷ r) e
      by false e f = f

  module _ (u : Tag) where
    left-octets : (same : Bool) → same_tag u t ≡ same → (b octets : List ℕ) → left_from b t (map (octet u) octets) ≡ (if same then b ++ octets else b)
    left-octets true e b [] = sym (append-nil b)
    left-octets false e b [] = refl
    left-octets true e b (value ∷ octets) = ap (λ (s : Bool). left_from (if s then b ++ value ∷ [] else b) t (map (octet u) octets)) e ∙ left-octets true e (b ++ value ∷ []) octets ∙ append_assoc b (value ∷ []) octets
    left-octets false e b (value ∷ octets) = ap (λ (s : Bool). left_from (if s then b ++ value ∷ [] else b) t (map (octet u) octets)) e ∙ left-octets false e b octets

    cut-octets : (b octets : List ℕ) → cut_from b t (map (octet u) octets) ≡ []
    cut-octets b [] = refl
    cut-octets b (value ∷ octets) = cut-octets (if same_tag u t then b ++ value ∷ [] else b) octets

    -- what the marks of some octets, and of an end where it follows, make
    pub left-with : (same : Bool) → same_tag u t ≡ same → (b octets : List ℕ) (ended : Bool) → left_from b t (marks_with u octets ended) ≡ (if same then (if ended then [] else b ++ octets) else b)
    left-with same e b octets true = left-append b (map (octet u) octets) (end u ∷ []) ∙ ap (λ (s : Bool). if s then [] else left_from b t (map (octet u) octets)) e
        ∙ ap (λ (r : List ℕ). if same then [] else r) (left-octets same e b octets) ∙ by same
      where
        by : (s : Bool) → (if s then [] else (if s then b ++ octets else b)) ≡ (if s then [] else b)
        by true = refl
        by false = refl
    left-with same e b octets false = left-append b (map (octet u) octets) [] ∙ left-octets same e b octets

    pub cut-with : (same : Bool) → same_tag u t ≡ same → (b octets : List ℕ) (ended : Bool) → cut_from b t (marks_with u octets ended) ≡ (if same && ended then (b ++ octets) ∷ [] else [])
    cut-with same e b octets true = cut-append b (map (octet u) octets) (end u ∷ []) ∙ ap (λ (c : List (List ℕ)). c ++ cut_from (left_from b t (map (octet u) octets)) t (end u ∷ [])) (cut-octets b octets)
        ∙ ap (λ (s : Bool). if s then left_from b t (map (octet u) octets) ∷ [] else []) e ∙ ap (λ (r : List ℕ). if same then r ∷ [] else []) (left-octets same e b octets) ∙ by same
      where
        by : (s : Bool) → (if s then (if s then b ++ octets else b) ∷ [] else []) ≡ (if s && true then (b ++ octets) ∷ [] else [])
        by true = refl
        by false = refl
    cut-with same e b octets false = cut-append b (map (octet u) octets) [] ∙ ap (λ (c : List (List ℕ)). c ++ []) (cut-octets b octets) ∙ by same
      where
        by : (s : Bool) → [] ≡ (if s && false then (b ++ octets) ∷ [] else [])
        by true = refl
        by false = refl

pub frame-with : (u : Tag) (head : Head) (payload : List ℕ) → frame_marks u head payload ≡ marks_with u payload (not head.more)
frame-with u head payload = by head.more
  where
    by : (m : Bool) → map (octet u) payload ++ (if m then [] else end u ∷ []) ≡ map (octet u) payload ++ (if not m then end u ∷ [] else [])
    by true = refl
    by false = refl

-- ---- a frame arrives

ans-same : (k : Kind) → same_kind k Kind.Ans ≡ is_ans k
ans-same Kind.Msg = refl
ans-same Kind.Rpy = refl
ans-same Kind.Err = refl
ans-same Kind.Ans = refl
ans-same Kind.Nul = refl

ans-kind : (k : Kind) → same_kind k Kind.Ans ≡ true → k ≡ Kind.Ans
ans-kind Kind.Msg e = absurd (let h : false ≡ true = e in cc)
ans-kind Kind.Rpy e = absurd (let h : false ≡ true = e in cc)
ans-kind Kind.Err e = absurd (let h : false ≡ true = e in cc)
ans-kind Kind.Ans e = refl
ans-kind Kind.Nul e = absurd (let h : false ≡ true = e in cc)

both : (a b : Bool) → (a && b) ≡ true → (a ≡ true) × (b ≡ true)
both true b e = (refl, e)
both false b e = absurd (let h : false ≡ true = e in cc)

third-false : (a b c d e : Bool) → c ≡ false → (a && b && c && d && e) ≡ false
third-false true true c d e is = rw is refl
third-false true false c d e is = refl
third-false false b c d e is = refl

-- a tag that is that of an answer to the first request
pub tag-is : (t : Tag) (a : ℕ) → same_tag t (first_answer a) ≡ true → t ≡ first_answer a
tag-is t a e =
    let one = both (same_kind t.kind Kind.Ans && t.request == 0) (t.ansno == a) e in
    let two = both (same_kind t.kind Kind.Ans) (t.request == 0) one.0 in
    ap (λ k. record { kind = k; request = t.request; ansno = t.ansno }) (ans-kind t.kind two.0)
    ∙ ap (λ r. record { kind = Kind.Ans; request = r; ansno = t.ansno }) (equal-number t.request 0 two.1)
    ∙ ap (λ n. record { kind = Kind.Ans; request = 0; ansno = n }) (equal-number t.ansno a one.1)

module _ (plan : PlainPlan) (head : Head) (payload : List ℕ) (journal : List Item) (above : (head.channel == 0) ≡ false) where
  abbrev pub now : List Item
  now = passed Side.Received head payload ∷ journal

  abbrev pub its_tag : Tag
  its_tag = tag_of Side.Received (history head.channel journal) head

  goes : Bool
  goes = life_under_way head.channel Side.Received journal == life_now head.channel journal

  arrived-is : is_there head.channel journal ≡ true → (life_under_way head.channel Side.Received journal == life_now head.channel journal) ≡ true
      → arrived_marks head payload journal ≡ frame_marks its_tag head payload
  arrived-is there e = rw (there, e) refl

  arrived-none : is_there head.channel journal ≡ true → (life_under_way head.channel Side.Received journal == life_now head.channel journal) ≡ false → arrived_marks head payload journal ≡ []
  arrived-none there e = rw (there, e) refl

  tag-small : position_of Side.Received (history head.channel journal) head < 2 ^ 64 → modulo_2_64 its_tag ≡ its_tag
  tag-small less = ap (λ r. record { kind = head.kind; request = r; ansno = head.ansno }) (omega (arith, less))

  marks-small : (u : Tag) (octets : List ℕ) → modulo_2_64 u ≡ u → map mark_modulo_2_64 (map (octet u) octets) ≡ map (octet u) octets
  marks-small u [] e = refl
  marks-small u (value ∷ octets) e = ap (λ v. octet v value ∷ map mark_modulo_2_64 (map (octet u) octets)) e ∙ ap (λ r. octet u value ∷ r) (marks-small u octets e)

  frame-small : (u : Tag) → modulo_2_64 u ≡ u → map mark_modulo_2_64 (frame_marks u head payload) ≡ frame_marks u head payload
  frame-small u e = map-append mark_modulo_2_64 (map (octet u) payload) (if head.more then [] else end u ∷ []) ∙ rw (marks-small u payload e) (ap (λ r. map (octet u) payload ++ r) (by head.more))
    where
      by : (m : Bool) → map mark_modulo_2_64 (if m then [] else end u ∷ []) ≡ (if m then [] else end u ∷ [])
      by true = refl
      by false = ap (λ v. end v ∷ []) e

  pub small : ServedAt plan (passed Side.Received head payload) journal → map mark_modulo_2_64 (arrived_marks head payload journal) ≡ arrived_marks head payload journal
  small served = by (is_there head.channel journal) (life_under_way head.channel Side.Received journal == life_now head.channel journal) (λ there. tag-small (served above there).1)
    where
      by : (th g : Bool) → (th ≡ true → modulo_2_64 its_tag ≡ its_tag) → map mark_modulo_2_64 (if th && g then frame_marks its_tag head payload else []) ≡ (if th && g then frame_marks its_tag head payload else [])
      by true true e = frame-small its_tag (e refl)
      by true false e = refl
      by false g e = refl

  -- ---- its line

  dead-now : is_there head.channel journal ≡ false → life_now head.channel journal ≡ 0
  dead-now none = ap (λ b. if b then lives head.channel (events journal) else 0) (sym (rw above refl) ∙ none)

  life-is : life head.channel (life_now head.channel journal) journal ≡ history head.channel journal
  life-is = sym (rw above refl)

  ends-is : is_there head.channel journal ≡ true → has_profile plan.raw_uri head.channel (life_now head.channel journal) journal ≡ true
      → (life_under_way head.channel Side.Received journal == life_now head.channel journal) ≡ true → ends_answer plan head journal ≡ (same_tag its_tag (first_answer head.ansno) && not head.more)
  ends-is there profile goes-on =
      order (is_ans head.kind) (not head.more) (life_under_way head.channel Side.Received journal == life_now head.channel journal)
      (position_of Side.Received (life head.channel (life_now head.channel journal) journal) head == 0) (has_profile plan.raw_uri head.channel (life_now head.channel journal) journal) goes-on profile
      ∙ ap (λ past. is_ans head.kind && position_of Side.Received past head == 0 && true && not head.more) life-is
      ∙ ap (λ k. k && position_of Side.Received (history head.channel journal) head == 0 && true && not head.more) (sym (ans-same head.kind))
      ∙ ap (λ b. same_kind head.kind Kind.Ans && position_of Side.Received (history head.channel journal) head == 0 && b && not head.more) (sym (same-number head.ansno))
    where
      order : (a l g p f : Bool) → g ≡ true → f ≡ true → (a && l && g && p && f) ≡ (a && p && true && l)
      order a l g p f e h = rw (e, h) (by a l p)
        where
          by : (a l p : Bool) → (a && l && true && p && true) ≡ (a && p && true && l)
          by true true true = refl
          by true true false = refl
          by true false true = refl
          by true false false = refl
          by false l p = refl

  -- what the answer that it ends brings
  brings : ServedAt plan (passed Side.Received head payload) journal → flat_map line_of (entries_in (heard_at plan (passed Side.Received head payload) journal))
      ≡ flat_map lines_of (cut_from (so_far head.channel head.ansno journal) (first_answer head.ansno) (arrived_marks head payload journal))
  brings served = by-there (is_there head.channel journal) refl
    where
      by-tag : ServedAt plan (passed Side.Received head payload) journal → (there : is_there head.channel journal ≡ true) → (same l : Bool) → same_tag its_tag (first_answer head.ansno) ≡ same
          → flat_map line_of (entries_in (if same && l then record {
            number = head.channel;
            count = life_now head.channel journal;
            content = content_with head payload (life head.channel (life_now head.channel journal) journal);
          } ∷ [] else []))
          ≡ flat_map lines_of (if same && l then (so_far head.channel head.ansno journal ++ payload) ∷ [] else [])
      by-tag s there false l e = refl
      by-tag s there true false e = refl
      by-tag s there true true e =
          ap (flat_map line_of) (append-nil (entries_of (body_of_message (content_with head payload (life head.channel (life_now head.channel journal) journal)))))
          ∙ ap lines_of content-is ∙ sym (append-nil (lines_of (so_far head.channel head.ansno journal ++ payload)))
        where
          content-is : content_with head payload (life head.channel (life_now head.channel journal) journal) ≡ so_far head.channel head.ansno journal ++ payload
          content-is = ap (λ past. content_with head payload past) life-is
              ∙ ap (λ r. r ++ payload) (sym (marks-left its_tag Side.Received (history head.channel journal))
              ∙ ap (λ u. left_from [] u (marks Side.Received (history head.channel journal))) (tag-is its_tag head.ansno e))

      by-goes : (there : is_there head.channel journal ≡ true) → (g : Bool) → (life_under_way head.channel Side.Received journal == life_now head.channel journal) ≡ g
          → flat_map line_of (entries_in (heard_at plan (passed Side.Received head payload) journal))
          ≡ flat_map lines_of (cut_from (so_far head.channel head.ansno journal) (first_answer head.ansno) (arrived_marks head payload journal))
      by-goes there true e =
          ap (λ b. flat_map line_of (entries_in (if b then record {
            number = head.channel;
            count = life_now head.channel journal;
            content = content_with head payload (life head.channel (life_now head.channel journal) journal);
          } ∷ [] else []))) (ends-is there (served above there).0 e)
          ∙ by-tag served there (same_tag its_tag (first_answer head.ansno)) (not head.more) refl
          ∙ ap (flat_map lines_of) (sym (cut-with (first_answer head.ansno) its_tag (same_tag its_tag (first_answer head.ansno)) refl (so_far head.channel head.ansno journal) payload (not head.more)))
          ∙ ap (λ f. flat_map lines_of (cut_from (so_far head.channel head.ansno journal) (first_answer head.ansno) f)) (sym (frame-with its_tag head payload) ∙ sym (arrived-is there e))
      by-goes there false e =
          ap (λ b. flat_map line_of (entries_in (if b then record {
            number = head.channel;
            count = life_now head.channel journal;
            content = content_with head payload (life head.channel (life_now head.channel journal) journal);
          } ∷ [] else [])))
          (third-false (is_ans head.kind) (not head.more) (life_under_way head.channel Side.Received journal == life_now head.channel journal)
          (position_of Side.Received (life head.channel (life_now head.channel journal) journal) head == 0) (has_profile plan.raw_uri head.channel (life_now head.channel journal) journal) e)
          ∙ ap (λ f. flat_map lines_of (cut_from (so_far head.channel head.ansno journal) (first_answer head.ansno) f)) (sym (arrived-none there e))

      by-there : (th : Bool) → is_there head.channel journal ≡ th → flat_map line_of (entries_in (heard_at plan (passed Side.Received head payload) journal))
          ≡ flat_map lines_of (cut_from (so_far head.channel head.ansno journal) (first_answer head.ansno) (arrived_marks head payload journal))
      by-there true e = by-goes e (life_under_way head.channel Side.Received journal == life_now head.channel journal) refl
      by-there false e = rw (dead-answer plan head journal (dead-now e), e) refl

  pub heard-lines : ServedAt plan (passed Side.Received head payload) journal → lines plan now ≡ lines plan journal ++ flat_map lines_of
      (cut_from (so_far head.channel head.ansno journal) (first_answer head.ansno) (arrived_marks head payload journal))
  heard-lines served =
      ap (flat_map line_of) (flat_map-append (λ answer. entries_of (body_of_message answer.content)) (heard plan journal) (heard_at plan (passed Side.Received head payload) journal))
      ∙ flat_map-append line_of (entries_in (heard plan journal)) (entries_in (heard_at plan (passed Side.Received head payload) journal))
      ∙ ap (λ r. lines plan journal ++ r) (brings served)

  pub all-taken : (bodies : List Body) (buffer text : List ℕ) → Takes plan bodies buffer text head (map mark_modulo_2_64 (arrived_marks head payload journal)) journal → Gathers plan bodies buffer text now
  all-taken bodies buffer text t = record {
    gathered = λ served n a up there. by-own served n a up (sym (above-there Side.Received head payload journal above n) ∙ there) (n == head.channel) refl;
    lines = λ served. heard-lines served.0 ∙ ap (λ f. lines plan journal ++ flat_map lines_of (cut_from (so_far head.channel head.ansno journal) (first_answer head.ansno) f)) (sym (small served.0)) ∙ t.lines served.1;
  }
    where
      by-own : (served : IsServed plan now) (n a : ℕ) → (n == 0) ≡ false → is_there n journal ≡ true → (b : Bool) → (n == head.channel) ≡ b → body_of n a bodies ≡ so_far n a now
      by-own served n a up there true e =
          let same : n ≡ head.channel = equal-number n head.channel e in
          subst (λ m. body_of m a bodies ≡ so_far m a now) (sym same)
          (t.own served.1 (subst (λ m. is_there m journal ≡ true) same there) a
          ∙ ap (left_from (so_far head.channel a journal) (first_answer a)) (small served.0)
          ∙ sym (left-append (first_answer a) [] (marks Side.Received (history head.channel journal)) (arrived_marks head payload journal))
          ∙ ap (left_from [] (first_answer a)) (sym (own-marks head payload journal above (subst (λ m. is_there m journal ≡ true) same there))))
      by-own served n a up there false e =
          t.others served.1 n a up e there ∙ ap (λ past. left_from [] (first_answer a) (marks Side.Received past)) (sym (above-others Side.Received head payload journal above n (turn n head.channel e)))
