-- A frame that arrived is taken, part by part.
use Rattle.std.proofs.Common.{◌≡◌, ◌∙◌, refl, sym, ap, subst, ℕ, suc, ◌==◌, ◌<◌, ◌≤◌, ◌+◌, Bool, true, false, not, ◌&&◌, if◌then◌else◌, List, [], ◌∷◌, ◌++◌, flat_map, length, map, take, Option, Some, None, append-nil, append_assoc, length-append, arith}
use Rattle.std.specs.Prelude.{is_some, nat_lt, ◌||◌, OnErr, Result, Ok, Err}
use Rattle.std.proofs.lemmas.Grind.{flat_map-append}
use Rattle.std.proofs.lemmas.Bool.Decides.{nat_tests}
use Rattle.beep_steps.specs.beep_frame.specs.declared.head.Head.{Head}
use Rattle.beep_steps.specs.beep_frame.specs.declared.tag.Tag.{Tag}
use Rattle.beep_steps.specs.beep_history.specs.declared.journal.Side.{Side}
use Rattle.beep_steps.specs.beep_history.specs.Journal.{Item, passed}
use Rattle.beep_steps.specs.beep_history.specs.Marks.{Mark, octet, end, marks, frame_marks, tag_of, mark_modulo_2_64, modulo_2_64}
use Rattle.beep_steps.specs.beep_history.specs.Moments.{mark_tag}
use Rattle.beep_steps.specs.beep_history.specs.Messages.{same_tag, left_from, cut_from}
use Rattle.beep_steps.specs.beep_inbox.specs.declared.part.Part.{Part}
use Rattle.beep_steps.specs.beep_inbox.specs.Laws.{part_marks}
use Rattle.beep_steps.specs.beep_inbox.specs.Runs.{AllMarked, Run, marks_of, marks_with}
use Rattle.beep_steps.specs.beep_journal.specs.Broken.{none_tunes}
use Rattle.beep_steps.specs.beep_journal.specs.Journal.{Past}
use Rattle.beep_steps.specs.beep_journal.specs.Life.{history, is_released, is_there, life_now, life_under_way}
use Rattle.beep_steps.specs.beep_journal.specs.Log.{Moment}
use Rattle.beep_steps.specs.beep_journal.proofs.JournalLemmas.{above-there}
use Rattle.beep_steps.specs.beep_journal.proofs.MomentLemmas.{equal-number, same-number}
use Rattle.beep_steps.specs.beep_journal.proofs.ShownLemmas.{one-shown}
use Rattle.beep_steps.specs.beep_channel.specs.Held.{Live}
use Rattle.beep_steps.specs.beep_lives.specs.Lives.{live_at}
use Rattle.beep_steps.specs.beep_session.specs.Looks.{IsTakenAt}
use Rattle.beep_steps.specs.beep_session.specs.Session.{Held}
use Rattle.beep_steps.specs.beep_talk.specs.Plan.{PlainPlan}
use Rattle.beep_steps.specs.beep_script.specs.Lines.{lines}
use Rattle.beep_steps.specs.beep_script.specs.Script.{BeginsWith}
use Rattle.beep_lines.specs.declared.bodies.Body.{Body}
use Rattle.beep_lines.specs.Bodies.{body_of, HasMore, IsOver, Others}
use Rattle.beep_lines.specs.Lines.{GathersAll, GathersSome, lines_of}
use Rattle.beep_steps.specs.beep_link.proofs.StandLemmas.{text-none}
use Rattle.beep_steps.specs.Logs.{AreTaken, StaysOn}
use Rattle.beep_steps.specs.Steps.{CameFrame, CameMore, CameZero, IsUntaken, SettledOn, TookNone, TookPart, arrived_marks}
use Rattle.beep_steps.proofs.ArrivedLemmas.{turn}
use Rattle.beep_steps.proofs.GoLemmas.{same-journal}
use Rattle.beep_steps.proofs.StepLemmas.{Rests, Steps, quiet-rests, rests-are, zero-steps}
use Rattle.beep_listener.specs.Listening.{ArePruned, Gathers, IsServed, Listens, ListensTaking, ListensWaiting, PartOf, Takes, WritesLines, first_answer, is_first, part_lines, plan_of, so_far}
use Rattle.beep_listener.specs.Pruning.{HasPruned}
use Rattle.beep_listener.proofs.GatherLemmas.{all-taken, cut-append, cut-with, frame-with, gathers-steps, heard-lines, left-append, left-with, pruned-there, served-then, small}
use Rattle.beep_listener.proofs.ListenLemmas.{prunes-all, prunes-gathered, same-plan}

-- ---- what comes

module _ (old new : Held) (bodies : List Body) (buffer text : List ℕ) (before after : List Moment) (l : Listens old bodies buffer before text) (plan_is : plan_of new ≡ plan_of old) where
  came-gathers : (gained now : List Item) → now ≡ gained ++ l.on.journal → Rests (plan_of old) l.on.journal (gained ++ l.on.journal) → Gathers (plan_of new) bodies buffer text now
  came-gathers gained now is rests =
      subst (λ p. Gathers p bodies buffer text now) (sym plan_is) (subst (Gathers (plan_of old) bodies buffer text) (sym is)
      (gathers-steps (plan_of old) bodies buffer text l.on.journal (gained ++ l.on.journal) (rests-are (plan_of old) l.on.journal (gained ++ l.on.journal) rests)
      (served-then (plan_of old) gained l.on.journal) l.pruned l.gathers))

  came-pruned : (gained now : List Item) → now ≡ gained ++ l.on.journal → Rests (plan_of old) l.on.journal (gained ++ l.on.journal) → ArePruned now bodies
  came-pruned gained now is rests = subst (λ j. ArePruned j bodies) (sym is) (pruned-there bodies l.on.journal (gained ++ l.on.journal) rests.there l.pruned)

  pub more-listens : CameMore old new l.on.journal after → Listens new bodies buffer after text
  more-listens c =
      let rests = quiet-rests (plan_of old) c.gained l.on.journal c.came.quiet c.came.none_above in
      record {
        on = c.on;
        taken = c.taken l.taken;
        gathers = came-gathers c.gained c.on.journal c.came.journal_is rests;
        pruned = came-pruned c.gained c.on.journal c.came.journal_is rests;
      }

  pub zero-waits : CameZero old new l.on.journal after → ListensWaiting new bodies buffer after text
  zero-waits c =
      let rests = quiet-rests (plan_of old) c.gained l.on.journal c.came.quiet c.came.none_above in
      record {
        on = c.waits;
        taken = c.taken l.taken;
        gathers = came-gathers c.gained c.waits.journal c.came.journal_is rests;
        pruned = came-pruned c.gained c.waits.journal c.came.journal_is rests;
      }

  counted : (t : Tag) (octets : List ℕ) → length (map (octet t) octets) ≡ length octets
  counted t [] = refl
  counted t (value ∷ octets) = ap suc (counted t octets)

  taken-count : (all : List Mark) → length (map mark_modulo_2_64 all) ≡ length all
  taken-count [] = refl
  taken-count (mark ∷ all) = ap suc (taken-count all)

  few-marks : (head : Head) (payload : List ℕ) (journal : List Item) → length payload ≤ 2147483647 → length (map mark_modulo_2_64 (arrived_marks head payload journal)) ≤ 2147483648
  few-marks head payload journal less =
      let same : length (map mark_modulo_2_64 (arrived_marks head payload journal)) ≡ length (arrived_marks head payload journal) = taken-count (arrived_marks head payload journal) in
      let most : length (arrived_marks head payload journal) ≤ length payload + 1 =
      by (is_there head.channel journal && life_under_way head.channel Side.Received journal == life_now head.channel journal) head.more (tag_of Side.Received (history head.channel journal) head) in
      omega (arith, same, most, less)
    where
      by : (b m : Bool) (t : Tag) → length (if b then map (octet t) payload ++ (if m then [] else end t ∷ []) else []) ≤ length payload + 1
      by false m t = omega arith
      by true true t = let a = length-append (map (octet t) payload) [] in let b = counted t payload in omega (arith, a, b)
      by true false t = let a = length-append (map (octet t) payload) (end t ∷ []) in let b = counted t payload in omega (arith, a, b)

  pub frame-taking : (number : ℕ) → CameFrame number old new l.on.journal after → new.peer.released ≡ false → ListensTaking number 0 new bodies buffer after text
  frame-taking number c going =
      let rests = quiet-rests (plan_of old) c.gained l.on.journal c.came.quiet c.came.none_above in
      let g : Gathers (plan_of new) bodies buffer text c.before = came-gathers c.gained c.before c.came.journal_is rests in
      record {
        on = c.on;
        before = c.before;
        head = c.head;
        payload = c.payload;
        journal_is = c.journal_is;
        channel = c.channel;
        above = c.above;
        going = sym c.on.stands.stands.released ∙ going;
        front = [];
        left = map mark_modulo_2_64 (arrived_marks c.head c.payload c.before);
        marks_are = refl;
        few = let few = few-marks c.head c.payload c.before c.framed in omega (arith, few);
        untaken = c.untaken l.taken;
        takes = record {
          own = λ served there a. g.gathered served c.head.channel a c.above there;
          others = λ served n a up apart there. g.gathered served n a up there;
          lines = λ served. append-nil (lines (plan_of new) c.before) ∙ g.lines served;
        };
        pruned = came-pruned c.gained c.before c.came.journal_is rests;
      }

-- ---- a message of channel zero is settled, and then the bodies are pruned

pub settled-listens : (old new : Held) (bodies now : List Body) (buffer text : List ℕ) (log : List Moment) (w : ListensWaiting old bodies buffer log text)
    → SettledOn old new w.on.head w.on.payload w.on.journal log → plan_of new ≡ plan_of old → HasPruned new.peer.lives bodies now → Listens new now buffer log text
settled-listens old new bodies now buffer text log w s same p =
    let item = passed Side.Received w.on.head w.on.payload in
    let steps : Steps (plan_of old) w.on.journal s.on.journal =
    subst (Steps (plan_of old) w.on.journal) (sym s.journal_is) (zero-steps (plan_of old) Side.Received w.on.head w.on.payload w.on.journal w.on.waits.waits.zero_is) in
    let less : IsServed (plan_of old) s.on.journal → IsServed (plan_of old) w.on.journal = λ served. (subst (IsServed (plan_of old)) s.journal_is served).1 in
    let g = gathers-steps (plan_of old) bodies buffer text w.on.journal s.on.journal steps less w.pruned w.gathers in
    record {
      on = s.on;
      taken = s.taken w.taken;
      gathers = subst (λ q. Gathers q now buffer text s.on.journal) (sym same) (record {
        gathered = λ served. prunes-gathered new log s.on bodies now p (g.gathered served);
        lines = g.lines;
      });
      pruned = prunes-all new log s.on bodies now p;
    }

-- ---- what a part makes of the bodies, and of the lines

same-first : (tag : Tag) (a : ℕ) → is_first tag ≡ true → same_tag tag (first_answer a) ≡ (tag.ansno == a)
same-first tag a e = ap (λ b. b && tag.ansno == a) e

not-first : (tag : Tag) (a : ℕ) → is_first tag ≡ false → same_tag tag (first_answer a) ≡ false
not-first tag a e = ap (λ b. b && tag.ansno == a) e

module _ (number : ℕ) (tag : Tag) (octets : List ℕ) (old new : List Body) where
  apart-number : (n a : ℕ) → (n == number) ≡ false → (n == number && a == tag.ansno) ≡ false
  apart-number n a e = rw e refl

  apart-ansno : (a : ℕ) → (tag.ansno == a) ≡ false → (number == number && a == tag.ansno) ≡ false
  apart-ansno a e = rw (turn tag.ansno a e) (none (number == number))
    where
      none : (b : Bool) → (b && false) ≡ false
      none true = refl
      none false = refl

  module _ (ended : Bool) (now : List ℕ) (own : body_of number tag.ansno new ≡ now) (others : Others number tag.ansno old new) where
    part-by : is_first tag ≡ true → (if ended then [] else body_of number tag.ansno old ++ octets) ≡ now → PartOf number (marks_with tag octets ended) old new
    part-by first made = record {
      own = λ a. at a (tag.ansno == a) refl;
      others = λ n a e. others n a (apart-number n a e);
    }
      where
        at : (a : ℕ) (b : Bool) → (tag.ansno == a) ≡ b → body_of number a new ≡ left_from (body_of number a old) (first_answer a) (marks_with tag octets ended)
        at a true e =
            let same : tag.ansno ≡ a = equal-number tag.ansno a e in
            subst (λ m. body_of number m new ≡ left_from (body_of number m old) (first_answer m) (marks_with tag octets ended)) same
            (own ∙ sym made ∙ sym (left-with (first_answer tag.ansno) tag true (same-first tag tag.ansno first ∙ same-number tag.ansno) (body_of number tag.ansno old) octets ended))
        at a false e =
            others number a (apart-ansno a e) ∙ sym (left-with (first_answer a) tag false (same-first tag a first ∙ e) (body_of number a old) octets ended)

  pub over-part : is_first tag ≡ true → IsOver number tag.ansno old new → PartOf number (marks_with tag octets true) old new
  over-part first o = part-by true [] o.own o.others first refl

  pub more-part : is_first tag ≡ true → HasMore number tag.ansno octets old new → PartOf number (marks_with tag octets false) old new
  more-part first m = part-by false (body_of number tag.ansno old ++ octets) m.own m.others first refl

pub other-part : (number : ℕ) (tag : Tag) (octets : List ℕ) (ended : Bool) (old : List Body) → is_first tag ≡ false → PartOf number (marks_with tag octets ended) old old
other-part number tag octets ended old none = record {
  own = λ a. sym (left-with (first_answer a) tag false (not-first tag a none) (body_of number a old) octets ended);
  others = λ n a e. refl;
}

module _ (tag : Tag) (octets begun : List ℕ) where
  pub over-lines : is_first tag ≡ true → flat_map lines_of (cut_from begun (first_answer tag.ansno) (marks_with tag octets true)) ≡ lines_of (begun ++ octets)
  over-lines first =
      ap (flat_map lines_of) (cut-with (first_answer tag.ansno) tag true (same-first tag tag.ansno first ∙ same-number tag.ansno) begun octets true) ∙ append-nil (lines_of (begun ++ octets))

  pub more-lines : is_first tag ≡ true → flat_map lines_of (cut_from begun (first_answer tag.ansno) (marks_with tag octets false)) ≡ []
  more-lines first = ap (flat_map lines_of) (cut-with (first_answer tag.ansno) tag true (same-first tag tag.ansno first ∙ same-number tag.ansno) begun octets false)

  pub other-lines : (ended : Bool) → is_first tag ≡ false → flat_map lines_of (cut_from begun (first_answer tag.ansno) (marks_with tag octets ended)) ≡ []
  other-lines ended none = ap (flat_map lines_of) (cut-with (first_answer tag.ansno) tag false (not-first tag tag.ansno none) begun octets ended)

-- by the part, whose octets are the first of these
module _ (number : ℕ) (part : Part) (octets : List ℕ) (old new : List Body) where
  pub part-over : is_first part.tag ≡ true → part.ended ≡ true → IsOver number part.tag.ansno old new → PartOf number (part_marks part octets) old new
  part-over first ended o =
      subst (λ e. PartOf number (marks_with part.tag (take part.len octets) e) old new) (sym ended) (over-part number part.tag (take part.len octets) old new first o)

  pub part-more : is_first part.tag ≡ true → part.ended ≡ false → HasMore number part.tag.ansno (take part.len octets) old new → PartOf number (part_marks part octets) old new
  part-more first ended m =
      subst (λ e. PartOf number (marks_with part.tag (take part.len octets) e) old new) (sym ended) (more-part number part.tag (take part.len octets) old new first m)

module _ (number : ℕ) (part : Part) (octets : List ℕ) (bodies : List Body) where
  pub lines-over : is_first part.tag ≡ true → part.ended ≡ true → lines_of (body_of number part.tag.ansno bodies ++ take part.len octets) ≡ part_lines number part octets bodies
  lines-over first ended =
      sym (ap (λ e. flat_map lines_of (cut_from (body_of number part.tag.ansno bodies) (first_answer part.tag.ansno) (marks_with part.tag (take part.len octets) e))) ended
      ∙ over-lines part.tag (take part.len octets) (body_of number part.tag.ansno bodies) first)

  pub lines-more : is_first part.tag ≡ true → part.ended ≡ false → part_lines number part octets bodies ≡ []
  lines-more first ended =
      ap (λ e. flat_map lines_of (cut_from (body_of number part.tag.ansno bodies) (first_answer part.tag.ansno) (marks_with part.tag (take part.len octets) e))) ended
      ∙ more-lines part.tag (take part.len octets) (body_of number part.tag.ansno bodies) first

  pub lines-other : is_first part.tag ≡ false → part_lines number part octets bodies ≡ []
  lines-other none = other-lines part.tag (take part.len octets) (body_of number part.tag.ansno bodies) part.ended none

pub empty-of : (xs : List ℕ) → (length xs == 0) ≡ true → xs ≡ []
empty-of [] e = refl
empty-of (x ∷ xs) e = absurd (apart (length xs) e)
  where
    apart : (n : ℕ) → (suc n == 0) ≡ true → ⊥
    apart n e = grind (arith, nat_tests, e)

-- no line is gathered
pub gathers-none : (now : Option (List ℕ)) (buffer lines : List ℕ) → lines ≡ [] → GathersAll now now buffer lines buffer
gathers-none now buffer lines e = text-none now (λ more. buffer ++ lines ≡ more ++ buffer) (ap (λ r. buffer ++ r) e ∙ append-nil buffer)

pub gathers-less : (now : Option (List ℕ)) (buffer lines : List ℕ) → GathersSome now now buffer lines buffer
gathers-less now buffer lines = text-none now (λ more. (rest : List ℕ) × (buffer ++ lines ≡ (more ++ buffer) ++ rest)) (lines, refl)

pub err-then : {A E : Type 0} (result : Result A E) (P Q : Type 0) → (P → Q) → OnErr result P → OnErr result Q
err-then (Ok value) P Q f h = h
err-then (Err error) P Q f h = f h

-- an answer that went on is over
pub over-then : (number ansno : ℕ) (octets : List ℕ) (old mid new : List Body) → HasMore number ansno octets old mid → IsOver number ansno mid new → IsOver number ansno old new
over-then number ansno octets old mid new m o = record { own = o.own; nowhere = o.nowhere; others = λ n a e. o.others n a e ∙ m.others n a e }

-- ---- the tags of a part

-- each mark has this tag
abbrev AllOf : Tag → List Mark → Type 0
AllOf t [] = Unit {0}
AllOf t (mark ∷ marks) = (mark_tag mark ≡ t) × AllOf t marks

of-octets : (t : Tag) (octets : List ℕ) (rest : List Mark) → AllOf t rest → AllOf t (map (octet t) octets ++ rest)
of-octets t [] rest a = a
of-octets t (value ∷ octets) rest a = (refl, of-octets t octets rest a)

of-with : (t : Tag) (octets : List ℕ) (ended : Bool) → AllOf t (marks_with t octets ended)
of-with t octets true = of-octets t octets (end t ∷ []) (refl, tt)
of-with t octets false = of-octets t octets [] tt

of-modulo : (t : Tag) (marks : List Mark) → AllOf t marks → AllOf (modulo_2_64 t) (map mark_modulo_2_64 marks)
of-modulo t [] a = tt
of-modulo t (octet u value ∷ marks) a = (ap modulo_2_64 a.0, of-modulo t marks a.1)
of-modulo t (end u ∷ marks) a = (ap modulo_2_64 a.0, of-modulo t marks a.1)

of-after : (t : Tag) (front rest : List Mark) → AllOf t (front ++ rest) → AllOf t rest
of-after t [] rest a = a
of-after t (mark ∷ front) rest a = of-after t front rest a.1

-- the first of some marks tells the tag of a part
of-part : (t u : Tag) (octets : List ℕ) (ended : Bool) (rest : List Mark) → AllOf t (marks_with u octets ended ++ rest) → 0 < length (marks_with u octets ended) → u ≡ t
of-part t u [] true rest a some = a.0
of-part t u [] false rest a some = absurd (omega (arith, some))
of-part t u (value ∷ octets) ended rest a some = a.0

-- ---- one part more

module _ (plan : PlainPlan) (head : Head) (payload : List ℕ) (before : List Item) where
  abbrev its-tag : Tag
  its-tag = tag_of Side.Received (history head.channel before) head

  arrived-of : AllOf its-tag (arrived_marks head payload before)
  arrived-of = by (is_there head.channel before && life_under_way head.channel Side.Received before == life_now head.channel before)
    where
      by : (b : Bool) → AllOf its-tag (if b then frame_marks its-tag head payload else [])
      by true = subst (AllOf its-tag) (sym (frame-with its-tag head payload)) (of-with its-tag payload (not head.more))
      by false = tt

  -- marks that arrived are of a live life
  arrived-there : (front rest : List Mark) (mark : Mark) → map mark_modulo_2_64 (arrived_marks head payload before) ≡ front ++ mark ∷ rest → is_there head.channel before ≡ true
  arrived-there front rest mark = by (is_there head.channel before)
    where
      none : (xs : List Mark) → [] ≡ xs ++ mark ∷ rest → ⊥
      none [] e = let h : [] ≡ mark ∷ rest = e in cc
      none (x ∷ xs) e = let h : [] ≡ x ∷ (xs ++ mark ∷ rest) = e in cc

      by : (b : Bool) → map mark_modulo_2_64 (if b && life_under_way head.channel Side.Received before == life_now head.channel before then frame_marks its-tag head payload else []) ≡ front ++ mark ∷ rest → b ≡ true
      by true e = refl
      by false e = absurd (none front e)

  some-first : (xs : List Mark) → 0 < length xs → (mark : Mark) × (rest : List Mark) × (xs ≡ mark ∷ rest)
  some-first [] some = absurd (omega (arith, some))
  some-first (x ∷ xs) some = (x, xs, refl)

  module _ (part : Part) (octets : List ℕ) (front rest : List Mark) (are : map mark_modulo_2_64 (arrived_marks head payload before) ≡ front ++ (part_marks part octets ++ rest))
      (some : 0 < length (part_marks part octets)) where
    part-there : is_there head.channel before ≡ true
    part-there =
        let f = some-first (part_marks part octets) some in
        arrived-there front (f.1 ++ rest) f.0 (are ∙ ap (λ x. front ++ (x ++ rest)) f.2)

    part-ansno : part.tag.ansno ≡ head.ansno
    part-ansno =
        let all : AllOf (modulo_2_64 its-tag) (part_marks part octets ++ rest) =
        of-after (modulo_2_64 its-tag) front (part_marks part octets ++ rest) (subst (AllOf (modulo_2_64 its-tag)) are (of-modulo its-tag (arrived_marks head payload before) arrived-of)) in
        ap (λ (t : Tag). t.ansno) (of-part (modulo_2_64 its-tag) part.tag (take part.len octets) part.ended rest all some)

    module _ (bodies : List Body) (buffer text : List ℕ) (t : Takes plan bodies buffer text head front before) where
      -- the lines so far, and those of the part
      pub part-lines : IsServed plan before → lines plan before ++ flat_map lines_of (cut_from (so_far head.channel head.ansno before) (first_answer head.ansno) (front ++ part_marks part octets))
          ≡ (text ++ buffer) ++ part_lines head.channel part octets bodies
      part-lines served =
          let pm = part_marks part octets in
          let a = first_answer head.ansno in
          let begun = so_far head.channel head.ansno before in
          let same : cut_from (left_from begun a front) a pm ≡ cut_from (body_of head.channel part.tag.ansno bodies) (first_answer part.tag.ansno) pm =
          ap (λ b. cut_from b a pm) (sym (t.own served part-there head.ansno)) ∙ ap (λ n. cut_from (body_of head.channel n bodies) (first_answer n) pm) (sym part-ansno) in
          ap (λ c. lines plan before ++ flat_map lines_of c) (cut-append a begun front pm)
          ∙ ap (λ r. lines plan before ++ r) (flat_map-append lines_of (cut_from begun a front) (cut_from (left_from begun a front) a pm))
          ∙ sym (append_assoc (lines plan before) (flat_map lines_of (cut_from begun a front)) (flat_map lines_of (cut_from (left_from begun a front) a pm)))
          ∙ ap (λ r. r ++ flat_map lines_of (cut_from (left_from begun a front) a pm)) (t.lines served)
          ∙ ap (λ c. (text ++ buffer) ++ flat_map lines_of c) same

      pub part-takes : (later : List Body) (more now : List ℕ) → PartOf head.channel (part_marks part octets) bodies later
          → buffer ++ part_lines head.channel part octets bodies ≡ more ++ now → Takes plan later now (text ++ more) head (front ++ part_marks part octets) before
      part-takes later more now p e = record {
        own = λ served there a.
            p.own a ∙ ap (λ b. left_from b (first_answer a) (part_marks part octets)) (t.own served there a)
            ∙ sym (left-append (first_answer a) (so_far head.channel a before) front (part_marks part octets));
        others = λ served n a up apart there. p.others n a apart ∙ t.others served n a up apart there;
        lines = λ served.
            part-lines served ∙ append_assoc text buffer (part_lines head.channel part octets bodies) ∙ ap (λ r. text ++ r) e ∙ sym (append_assoc text more now);
      }

      -- what is written of it is a beginning of the lines of the journal with the frame
      pub part-begins : (head.channel == 0) ≡ false → (more now others : List ℕ) → buffer ++ part_lines head.channel part octets bodies ≡ (more ++ now) ++ others
          → IsServed plan (passed Side.Received head payload ∷ before) → BeginsWith (lines plan (passed Side.Received head payload ∷ before)) ((text ++ more) ++ now)
      part-begins above more now others e served =
          let pm = part_marks part octets in
          let a = first_answer head.ansno in
          let begun = so_far head.channel head.ansno before in
          let tail = flat_map lines_of (cut_from (left_from begun a (front ++ pm)) a rest) in
          let marks-are : arrived_marks head payload before ≡ (front ++ pm) ++ rest =
          sym (small plan head payload before above served.0) ∙ are ∙ sym (marks-assoc front pm rest) in
          let cut : flat_map lines_of (cut_from begun a (arrived_marks head payload before)) ≡ flat_map lines_of (cut_from begun a (front ++ pm)) ++ tail =
          ap (λ m. flat_map lines_of (cut_from begun a m)) marks-are ∙ ap (flat_map lines_of) (cut-append a begun (front ++ pm) rest)
          ∙ flat_map-append lines_of (cut_from begun a (front ++ pm)) (cut_from (left_from begun a (front ++ pm)) a rest) in
          let regrouped : (text ++ buffer) ++ part_lines head.channel part octets bodies ≡ ((text ++ more) ++ now) ++ others =
          append_assoc text buffer (part_lines head.channel part octets bodies) ∙ ap (λ r. text ++ r) e ∙ regroup in
          record {
            rest = others ++ tail;
            whole_is = heard-lines plan head payload before above served.0 ∙ ap (λ r. lines plan before ++ r) cut
                ∙ sym (append_assoc (lines plan before) (flat_map lines_of (cut_from begun a (front ++ pm))) tail)
                ∙ ap (λ r. r ++ tail) (part-lines served.1 ∙ regrouped) ∙ append_assoc ((text ++ more) ++ now) others tail;
          }
        where
          regroup : text ++ ((more ++ now) ++ others) ≡ ((text ++ more) ++ now) ++ others
          regroup = sym (append_assoc text (more ++ now) others) ∙ ap (λ r. r ++ others) (sym (append_assoc text more now))

          marks-assoc : (xs ys zs : List Mark) → (xs ++ ys) ++ zs ≡ xs ++ (ys ++ zs)
          marks-assoc [] ys zs = refl
          marks-assoc (x ∷ xs) ys zs = ap (λ r. x ∷ r) (marks-assoc xs ys zs)

-- ---- a take, and what is done with it

pub taking-part : (number count : ℕ) (old new : Held) (bodies now : List Body) (buffer later text more : List ℕ) (log : List Moment) (t : ListensTaking number count old bodies buffer log text)
    (part : Part) (octets : List ℕ) → StaysOn old new → TookPart number part octets t.left new → PartOf number (part_marks part octets) bodies now
    → buffer ++ part_lines number part octets bodies ≡ more ++ later → ListensTaking number (count + 1) new now later log (text ++ more)
taking-part number count old new bodies now buffer later text more log t part octets stays took p e =
    let on = stays.stands log t.on in
    let journal_is : on.journal ≡ t.on.journal = same-journal old new log t.on on in
    let pm = part_marks part octets in
    let ch = t.channel in
    let are : map mark_modulo_2_64 (arrived_marks t.head t.payload t.before) ≡ t.front ++ (pm ++ took.rest) = t.marks_are ∙ ap (λ x. t.front ++ x) took.left_is in
    let counted : length t.left ≡ length pm + length took.rest = ap length took.left_is ∙ length-append pm took.rest in
    let few = t.few in
    let some = took.some in
    record {
      on = on;
      before = t.before;
      head = t.head;
      payload = t.payload;
      journal_is = journal_is ∙ t.journal_is;
      channel = t.channel;
      above = t.above;
      going = ap is_released journal_is ∙ t.going;
      front = t.front ++ pm;
      left = took.rest;
      marks_are = are ∙ sym (marks-assoc t.front pm took.rest);
      few = omega (arith, few, counted, some);
      untaken = subst (λ n. IsUntaken n took.rest new) (sym ch) took.untaken;
      takes = subst (λ q. Takes q now later (text ++ more) t.head (t.front ++ pm) t.before) (sym (same-plan old new stays.terms stays.offers))
          (part-takes (plan_of old) t.head t.payload t.before part octets t.front took.rest are took.some bodies buffer text t.takes now more later
          (subst (λ n. PartOf n pm bodies now) (sym ch) p) (subst (λ n. buffer ++ part_lines n part octets bodies ≡ more ++ later) (sym ch) e));
      pruned = part-pruned;
    }
  where
    marks-assoc : (xs ys zs : List Mark) → (xs ++ ys) ++ zs ≡ xs ++ (ys ++ zs)
    marks-assoc [] ys zs = refl
    marks-assoc (x ∷ xs) ys zs = ap (λ r. x ∷ r) (marks-assoc xs ys zs)

    -- another's bodies stay, and this number has a live life
    part-pruned : ArePruned t.before now
    part-pruned n a up none = by (n == number) refl
      where
        by : (b : Bool) → (n == number) ≡ b → body_of n a now ≡ []
        by false apart = p.others n a apart ∙ t.pruned n a up none
        by true same =
            let are : map mark_modulo_2_64 (arrived_marks t.head t.payload t.before) ≡ t.front ++ (part_marks part octets ++ took.rest) = t.marks_are ∙ ap (λ x. t.front ++ x) took.left_is in
            let there = part-there (plan_of old) t.head t.payload t.before part octets t.front took.rest are took.some in
            absurd (let h : true ≡ false = sym there ∙ ap (λ m. is_there m t.before) (t.channel ∙ sym (equal-number n number same)) ∙ none in cc)

-- memory ran out or a write failed as a part was used
pub taking-stops : (number count : ℕ) (old : Held) (bodies : List Body) (buffer later text more others : List ℕ) (log : List Moment) (t : ListensTaking number count old bodies buffer log text)
    (new : Held) (part : Part) (octets : List ℕ) → TookPart number part octets t.left new → buffer ++ part_lines number part octets bodies ≡ (more ++ later) ++ others
    → WritesLines (plan_of old) false log ((text ++ more) ++ later)
taking-stops number count old bodies buffer later text more others log t new part octets took e past shows served =
    let s = t.on.logged.shown in
    let now = passed Side.Received t.head t.payload ∷ t.before in
    let same : past.journal ≡ now = ap (λ (p : Past). p.journal) (one-shown none_tunes log past s.past shows s.shows) ∙ s.journal_is ∙ t.journal_is in
    let are : map mark_modulo_2_64 (arrived_marks t.head t.payload t.before) ≡ t.front ++ (part_marks part octets ++ took.rest) = t.marks_are ∙ ap (λ x. t.front ++ x) took.left_is in
    subst (λ j. BeginsWith (lines (plan_of old) j) ((text ++ more) ++ later)) (sym same)
    (part-begins (plan_of old) t.head t.payload t.before part octets t.front took.rest are took.some bodies buffer text t.takes t.above more later others
    (subst (λ n. buffer ++ part_lines n part octets bodies ≡ (more ++ later) ++ others) (sym t.channel) e) (subst (IsServed (plan_of old)) same served))

-- all of the frame is taken
pub taking-ends : (number count : ℕ) (old new : Held) (bodies : List Body) (buffer text : List ℕ) (log : List Moment) (t : ListensTaking number count old bodies buffer log text)
    → TookNone number old new → Listens new bodies buffer log text
taking-ends number count old new bodies buffer text log t none =
    subst (λ (s : Held). Listens s bodies buffer log text) (sym none.same) (record {
      on = t.on;
      taken = taken;
      gathers = subst (Gathers (plan_of old) bodies buffer text) (sym t.journal_is)
          (all-taken (plan_of old) t.head t.payload t.before t.above bodies buffer text
          (subst (λ f. Takes (plan_of old) bodies buffer text t.head f t.before) (sym (t.marks_are ∙ ap (λ x. t.front ++ x) left-none ∙ front-nil t.front)) t.takes));
      pruned = subst (λ j. ArePruned j bodies) (sym t.journal_is) (pruned-there bodies t.before (passed Side.Received t.head t.payload ∷ t.before)
          (above-there Side.Received t.head t.payload t.before t.above) t.pruned);
    })
  where
    front-nil : (xs : List Mark) → xs ++ [] ≡ xs
    front-nil [] = refl
    front-nil (x ∷ xs) = ap (λ r. x ∷ r) (front-nil xs)

    at-number : IsTakenAt number old.peer.lives
    at-number = subst (λ (s : Held). IsTakenAt number s.peer.lives) none.same none.taken

    taken : AreTaken old
    taken n = by (n == t.head.channel) refl
      where
        by : (b : Bool) → (n == t.head.channel) ≡ b → IsTakenAt n old.peer.lives
        by true e = subst (λ m. IsTakenAt m old.peer.lives) (sym t.channel ∙ sym (equal-number n t.head.channel e)) at-number
        by false e = t.untaken.others n e

    after-none : (front left : List Mark) → [] ≡ front ++ left → left ≡ []
    after-none [] left e = sym e
    after-none (x ∷ front) left e = absurd (let h : [] ≡ x ∷ (front ++ left) = e in cc)

    left-none : t.left ≡ []
    left-none = by (live_at t.head.channel old.peer.lives) refl
      where
        by : (o : Option Live) → live_at t.head.channel old.peer.lives ≡ o → t.left ≡ []
        by (Some c) at = sym (t.untaken.own c at) ∙ ap marks_of (taken t.head.channel t.above c at)
        by None at = after-none t.front t.left (sym (dead (is_there t.head.channel t.before) refl) ∙ t.marks_are)
          where
            gone : is_there t.head.channel t.before ≡ false
            gone =
                sym (above-there Side.Received t.head t.payload t.before t.above t.head.channel) ∙ ap (is_there t.head.channel) (sym t.journal_is)
                ∙ t.on.stands.stands.holds.live.there t.head.channel ∙ ap is_some at

            dead : (b : Bool) → is_there t.head.channel t.before ≡ b → map mark_modulo_2_64 (arrived_marks t.head t.payload t.before) ≡ []
            dead true e = absurd (let h : true ≡ false = sym e ∙ gone in cc)
            dead false e = rw e refl

-- marks of which only the last one ends a message
abbrev EndsLast : List Mark → Type 0
EndsLast [] = Unit {0}
EndsLast (octet tag value ∷ others) = EndsLast others
EndsLast (end tag ∷ others) = others ≡ []

ends-after : (front rest : List Mark) → EndsLast (front ++ rest) → EndsLast rest
ends-after [] rest e = e
ends-after (octet tag value ∷ front) rest e = ends-after front rest e
ends-after (end tag ∷ front) rest e = by front rest e
  where
    by : (xs ys : List Mark) → xs ++ ys ≡ [] → EndsLast ys
    by [] [] e = tt
    by [] (y ∷ ys) e = absurd (let h : y ∷ ys ≡ [] = e in cc)
    by (x ∷ xs) ys e = absurd (let h : x ∷ (xs ++ ys) ≡ [] = e in cc)

ends-with : (tag : Tag) (octets : List ℕ) (ended : Bool) → EndsLast (map mark_modulo_2_64 (marks_with tag octets ended))
ends-with tag [] true = refl
ends-with tag [] false = tt
ends-with tag (value ∷ octets) ended = ends-with tag octets ended

ends-part : (tag : Tag) (octets : List ℕ) (rest : List Mark) → EndsLast (marks_with tag octets true ++ rest) → rest ≡ []
ends-part tag [] rest e = e
ends-part tag (value ∷ octets) rest e = ends-part tag octets rest e

-- after the end of its message nothing is left of a frame
last-rest : (head : Head) (payload : List ℕ) (before : List Item) (part : Part) (octets : List ℕ) (front rest : List Mark)
    → map mark_modulo_2_64 (arrived_marks head payload before) ≡ front ++ (part_marks part octets ++ rest) → part.ended ≡ true → rest ≡ []
last-rest head payload before part octets front rest are ended =
    ends-part part.tag (take part.len octets) rest
    (subst (λ e. EndsLast (marks_with part.tag (take part.len octets) e ++ rest)) ended
    (ends-after front (part_marks part octets ++ rest) (subst EndsLast are
    (arrived (is_there head.channel before && life_under_way head.channel Side.Received before == life_now head.channel before)))))
  where
    arrived : (b : Bool) → EndsLast (map mark_modulo_2_64 (if b then frame_marks (tag_of Side.Received (history head.channel before) head) head payload else []))
    arrived true =
        let tag = tag_of Side.Received (history head.channel before) head in
        subst (λ m. EndsLast (map mark_modulo_2_64 m)) (sym (frame-with tag head payload)) (ends-with tag payload (not head.more))
    arrived false = tt

-- marked runs without a mark are none
runs-none : (runs : List Run) → AllMarked runs → marks_of runs ≡ [] → runs ≡ []
runs-none [] all e = refl
runs-none (run ∷ runs) all e = absurd (by run.octets run.ended all.0 e)
  where
    by : (octets : List ℕ) (ended : Bool) → (nat_lt 0 (length octets) || ended) ≡ true → marks_with run.tag octets ended ++ marks_of runs ≡ [] → ⊥
    by [] true h e = let k : end run.tag ∷ marks_of runs ≡ [] = e in cc
    by [] false h e = cc
    by (x ∷ octets) ended h e = let k : octet run.tag x ∷ (marks_with run.tag octets ended ++ marks_of runs) ≡ [] = e in cc

-- all of the frame is taken, by its last part
taking-done : (number count : ℕ) (session : Held) (bodies : List Body) (buffer text : List ℕ) (log : List Moment) (t : ListensTaking number count session bodies buffer log text)
    → t.left ≡ [] → Listens session bodies buffer log text
taking-done number count session bodies buffer text log t none =
    taking-ends number count session session bodies buffer text log t (record { same = refl; taken = at-number })
  where
    at-number : IsTakenAt number session.peer.lives
    at-number above channel at =
        let here : live_at t.head.channel session.peer.lives ≡ Some channel = ap (λ n. live_at n session.peer.lives) t.channel ∙ at in
        let there = t.on.stands.stands.holds.live.above t.head.channel channel t.above here in
        runs-none channel.held.inbox there.held.sums.marked (t.untaken.own channel here ∙ none)

-- a take by which the end of its message is taken takes the last of a frame
pub taking-last : (number count : ℕ) (old new : Held) (bodies now : List Body) (buffer later text more : List ℕ) (log : List Moment) (t : ListensTaking number count old bodies buffer log text)
    (part : Part) (octets : List ℕ) → part.ended ≡ true → StaysOn old new → TookPart number part octets t.left new → PartOf number (part_marks part octets) bodies now
    → buffer ++ part_lines number part octets bodies ≡ more ++ later → Listens new now later log (text ++ more)
unfolding taking-part
taking-last number count old new bodies now buffer later text more log t part octets ended stays took p e =
    taking-done number (count + 1) new now later (text ++ more) log (taking-part number count old new bodies now buffer later text more log t part octets stays took p e)
    (last-rest t.head t.payload t.before part octets t.front took.rest (t.marks_are ∙ ap (λ x. t.front ++ x) took.left_is) ended)

-- nothing is left
pub taking-over : (number count : ℕ) (session : Held) (bodies : List Body) (buffer text : List ℕ) (log : List Moment) → ListensTaking number count session bodies buffer log text
    → count ≤ 2147483648
taking-over number count session bodies buffer text log t = let few = t.few in omega (arith, few)
