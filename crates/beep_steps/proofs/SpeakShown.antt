-- What a log shows of a listener that keeps its script.
use Rattle.std.proofs.Common.{◌≡◌, ℕ, ◌+◌, ◌==◌, Bool, true, false, not, ◌&&◌, if◌then◌else◌, List, [], ◌∷◌, ◌++◌, map, flat_map, Option, None, Some, inl, inr, refl, sym, ap, ◌∙◌, subst, arith, append-nil}
use Rattle.std.specs.Prelude.{nat_lt}
use Rattle.beep_session.specs.beep_frame.specs.declared.head.Head.{Head}
use Rattle.beep_session.specs.beep_frame.specs.declared.rule.Rule.{Rule}
use Rattle.beep_session.specs.beep_frame.specs.declared.seq.Seq.{Seq}
use Rattle.beep_session.specs.beep_history.specs.declared.journal.Side.{Side}
use Rattle.beep_session.specs.beep_history.specs.Journal.{Item, began, passed, told}
use Rattle.beep_session.specs.beep_history.specs.Marks.{Mark, marks, mark_modulo_2_64}
use Rattle.beep_session.specs.beep_journal.specs.Broken.{Tuning, none_tunes, broken_head, broken_seq}
use Rattle.beep_session.specs.beep_journal.specs.Lives.{lives}
use Rattle.beep_session.specs.beep_journal.specs.Zero.{events}
use Rattle.beep_session.specs.beep_journal.specs.Life.{is_of_life, is_released, life}
use Rattle.beep_session.specs.beep_journal.specs.Log.{Moment, got, put, got_all, put_all}
use Rattle.beep_session.specs.beep_journal.specs.Journal.{Past, begins, seq_ends, TakesOctet, TakesWhere, Takes, goes_on, Shows}
use Rattle.beep_session.specs.beep_journal.proofs.LifeLemmas.{nothing-before}
use Rattle.beep_session.specs.beep_journal.proofs.MomentLemmas.{equal-number}
use Rattle.beep_session.specs.beep_journal.proofs.ShownLemmas.{one-shown}
use Rattle.beep_session.specs.beep_lawful.proofs.LawfulLemmas.{both-one, both-two}
use Rattle.beep_session.specs.Session.{Held}
use Rattle.beep_desk.specs.beep_talk.specs.Plan.{PlainPlan}
use Rattle.beep_desk.specs.beep_talk.specs.Talk.{asked_first, begins_with, chooses, replied, talk}
use Rattle.beep_desk.specs.beep_script.specs.Script.{message_marks, script_marks, BeginsWith}
use Rattle.beep_served.specs.Served.{side_of}
use Rattle.beep_served.proofs.ShownLemmas.{Adds, stays, more}
use Rattle.beep_replies.proofs.StayLemmas.{more-front, same-front, script-is}
use Rattle.beep_steps.specs.Speaking.{KeepsSaid, Notes, SpeaksOn, ShowsSaid}
use Rattle.beep_steps.proofs.SpeakSteps.{SaidAt, began-said, came-said, map-front, seq-said}

-- ---- what an octet adds

begins-adds : (rule : Option Rule) (side : Side) (octet : ℕ) (head : Head) (past : Past) → Adds side past.journal (begins rule side octet head past).journal
begins-adds None side octet head past = more (began side head) refl refl
begins-adds (Some rule) side octet head past = stays refl

ends-adds : (rule : Option Rule) (side : Side) (seq : Seq) (past : Past) → Adds side past.journal (seq_ends rule side seq past).journal
ends-adds None side seq past = more (told side seq) refl refl
ends-adds (Some rule) side seq past = stays refl

octet-adds : (tunes : Tuning) (side : Side) (octet : ℕ) (old new : Past) → TakesOctet tunes side octet old new → Adds side old.journal new.journal
octet-adds tunes side octet old new (inl on) = stays (ap (λ (p : Past). p.journal) on.new_is)
octet-adds tunes side octet old new (inr (inl h)) =
    subst (λ (p : Past). Adds side old.journal p.journal) (sym h.new_is) (begins-adds (broken_head tunes side old.journal h.head) side octet h.head old)
octet-adds tunes side octet old new (inr (inr (inl f))) =
    more (passed side f.head f.payload) refl (ap (λ (p : Past). p.journal) f.new_is)
octet-adds tunes side octet old new (inr (inr (inr (inl s)))) =
    subst (λ (p : Past). Adds side old.journal p.journal) (sym s.new_is) (ends-adds (broken_seq side old.journal s.seq) side s.seq old)
octet-adds tunes side octet old new (inr (inr (inr (inr d)))) = stays (ap (λ (p : Past). p.journal) d.new_is)

where-adds : (b : Bool) (tunes : Tuning) (side : Side) (octet : ℕ) (old new : Past) → TakesWhere b tunes side octet old new → Adds side old.journal new.journal
where-adds true tunes side octet old new takes = octet-adds tunes side octet old new takes
where-adds false tunes side octet old new takes = stays (ap (λ (p : Past). p.journal) takes)

got-adds : (tunes : Tuning) (octet : ℕ) (old new : Past) → Takes tunes (got octet) old new → Adds Side.Received old.journal new.journal
got-adds tunes octet old new takes = where-adds (goes_on old && not (is_released old.journal)) tunes Side.Received octet old new takes

put-adds : (tunes : Tuning) (octet : ℕ) (old new : Past) → Takes tunes (put octet) old new → Adds Side.Sent old.journal new.journal
put-adds tunes octet old new takes = where-adds (goes_on old) tunes Side.Sent octet old new takes

-- ---- what comes

came-item : (plan : PlainPlan) (item : Item) (journal : List Item) → side_of item ≡ Side.Received → KeepsSaid plan journal → KeepsSaid plan (item ∷ journal)
came-item plan (began by head) journal side keeps = began-said plan by head journal keeps
came-item plan (told by seq) journal side keeps = seq-said plan by seq journal keeps
came-item plan (passed Side.Received head payload) journal side keeps = came-said plan head payload journal keeps
came-item plan (passed Side.Sent head payload) journal side keeps = absurd (let g : Side.Sent ≡ Side.Received = side in cc)

came-adds : (plan : PlainPlan) (old new : List Item) → Adds Side.Received old new → KeepsSaid plan old → KeepsSaid plan new
came-adds plan old new (stays is) keeps = subst (KeepsSaid plan) (sym is) keeps
came-adds plan old new (more item side is) keeps = subst (KeepsSaid plan) (sym is) (came-item plan item old side keeps)

-- what comes is no sent frame
pub comes-said : (plan : PlainPlan) (octets : List ℕ) (log : List Moment) (before after : Past) → Shows none_tunes log before → Shows none_tunes (got_all octets log) after
    → KeepsSaid plan before.journal → KeepsSaid plan after.journal
comes-said plan [] log before after one two keeps = subst (λ (p : Past). KeepsSaid plan p.journal) (one-shown none_tunes log before after one two) keeps
comes-said plan (octet ∷ octets) log before after one two keeps =
    let mid = middle octets (got octet ∷ log) after two in
    let first : before ≡ mid.1.0 = one-shown none_tunes log before mid.1.0 one mid.1.1 in
    comes-said plan octets (got octet ∷ log) mid.0 after mid.1 two
    (came-adds plan mid.1.0.journal mid.0.journal (got-adds none_tunes octet mid.1.0 mid.0 mid.1.2) (subst (λ (p : Past). KeepsSaid plan p.journal) first keeps))
  where
    -- what was shown before the octets
    middle : (octets : List ℕ) (log : List Moment) (after : Past) → Shows none_tunes (got_all octets log) after → (mid : Past) × Shows none_tunes log mid
    middle [] log after shows = (after, shows)
    middle (octet ∷ octets) log after shows = let next = middle octets (got octet ∷ log) after shows in (next.1.0, next.1.1)

-- ---- what isn't written yet

marks-item : (item : Item) (past : List Item) → BeginsWith (marks Side.Sent (item ∷ past)) (marks Side.Sent past)
marks-item (began by head) past = same-front (marks Side.Sent past)
marks-item (told by seq) past = same-front (marks Side.Sent past)
marks-item (passed by head payload) past = record { rest = _; whole_is = refl }

marks-before : (n c : ℕ) (item : Item) (journal : List Item) → BeginsWith (marks Side.Sent (life n c (item ∷ journal))) (marks Side.Sent (life n c journal))
marks-before n c item journal = of (is_of_life n c item journal)
  where
    of : (b : Bool) → BeginsWith (marks Side.Sent (if b then item ∷ life n c journal else life n c journal)) (marks Side.Sent (life n c journal))
    of true = marks-item item (life n c journal)
    of false = same-front (marks Side.Sent (life n c journal))

none-replied : (plan : PlainPlan) (n c : ℕ) (item : Item) (journal : List Item) → side_of item ≡ Side.Sent → replied plan n c item journal ≡ []
none-replied plan n c (began by head) journal side = refl
none-replied plan n c (told by seq) journal side = refl
none-replied plan n c (passed Side.Sent head payload) journal side = refl
none-replied plan n c (passed Side.Received head payload) journal side = absurd (let g : Side.Received ≡ Side.Sent = side in cc)

went-at : (plan : PlainPlan) (n c : ℕ) (item : Item) (journal : List Item) → (n == 0) ≡ false → side_of item ≡ Side.Sent → SaidAt plan n c (item ∷ journal) → SaidAt plan n c journal
went-at plan n c item journal above side at = of (begins_with plan.raw_uri n c item journal) refl
  where
    begins : (chooses plan.raw_uri item journal && (lives n (events journal) + 1 == c && nat_lt (lives n (events journal)) (lives n (events (item ∷ journal))))) ≡ true → life n c journal ≡ []
    begins is =
        let parts = both-two (chooses plan.raw_uri item journal) (lives n (events journal) + 1 == c && nat_lt (lives n (events journal)) (lives n (events (item ∷ journal)))) is in
        let counts = equal-number (lives n (events journal) + 1) c (both-one (lives n (events journal) + 1 == c) (nat_lt (lives n (events journal)) (lives n (events (item ∷ journal)))) parts) in
        nothing-before n c journal (omega (arith, counts))

    same-talk : begins_with plan.raw_uri n c item journal ≡ false → talk plan n c (item ∷ journal) ≡ talk plan n c journal
    same-talk none =
        ap (λ (b : Bool). talk plan n c journal ++ ((if b then asked_first plan.command (events journal) else []) ++ replied plan n c item journal)) none
        ∙ ap (λ ms. talk plan n c journal ++ ms) (none-replied plan n c item journal side) ∙ append-nil (talk plan n c journal)

    of : (b : Bool) → begins_with plan.raw_uri n c item journal ≡ b → SaidAt plan n c journal
    of true is =
        subst (λ (past : List Item). BeginsWith (map mark_modulo_2_64 (script_marks plan n c journal)) (map mark_modulo_2_64 (marks Side.Sent past))) (sym (begins is))
        (record { rest = map mark_modulo_2_64 (script_marks plan n c journal); whole_is = refl })
    of false none =
        let same : script_marks plan n c (item ∷ journal) ≡ script_marks plan n c journal =
        script-is plan n c (item ∷ journal) above ∙ ap (flat_map message_marks) (same-talk none) ∙ sym (script-is plan n c journal above) in
        more-front (map mark_modulo_2_64 (script_marks plan n c journal)) (map mark_modulo_2_64 (marks Side.Sent (life n c (item ∷ journal)))) (map mark_modulo_2_64 (marks Side.Sent (life n c journal)))
        (subst (λ (ms : List Mark). BeginsWith (map mark_modulo_2_64 ms) (map mark_modulo_2_64 (marks Side.Sent (life n c (item ∷ journal))))) same at)
        (map-front (marks Side.Sent (life n c (item ∷ journal))) (marks Side.Sent (life n c journal)) (marks-before n c item journal))

went-adds : (plan : PlainPlan) (old new : List Item) → Adds Side.Sent old new → KeepsSaid plan new → KeepsSaid plan old
went-adds plan old new (stays is) keeps = subst (KeepsSaid plan) is keeps
went-adds plan old new (more item side is) keeps = λ n c above. went-at plan n c item old above side (subst (KeepsSaid plan) is keeps n c above)

pub goes-said : (plan : PlainPlan) (octets : List ℕ) (log : List Moment) (before after : Past) → Shows none_tunes log before → Shows none_tunes (put_all octets log) after
    → KeepsSaid plan after.journal → KeepsSaid plan before.journal
goes-said plan octets log before after one two keeps =
    let mid = back octets log after two keeps in
    subst (λ (p : Past). KeepsSaid plan p.journal) (one-shown none_tunes log mid.0 before mid.1.0 one) mid.1.1
  where
    back : (octets : List ℕ) (log : List Moment) (after : Past) → Shows none_tunes (put_all octets log) after → KeepsSaid plan after.journal
        → (mid : Past) × (Shows none_tunes log mid × KeepsSaid plan mid.journal)
    back [] log after shows keeps = (after, (shows, keeps))
    back (octet ∷ octets) log after shows keeps =
        let next = back octets (put octet ∷ log) after shows keeps in
        (next.1.0.0, (next.1.0.1, went-adds plan next.1.0.0.journal next.0.journal (put-adds none_tunes octet next.1.0.0 next.0 next.1.0.2) next.1.1))

-- ---- a session on its log

module _ (plan : PlainPlan) (notes : Notes) (session : Held) where
  speaking-on : (log : List Moment) (s : SpeaksOn plan notes session log) → KeepsSaid plan s.on.logged.shown.past.journal
  speaking-on log s = subst (KeepsSaid plan) (sym s.on.logged.shown.journal_is) s.scripts.keeps

  -- whatever comes, and wherever it stops
  pub shows-comes : (octets : List ℕ) (log : List Moment) → SpeaksOn plan notes session log → ShowsSaid plan (got_all octets log)
  shows-comes octets log s past shows =
      comes-said plan octets log s.on.logged.shown.past past s.on.logged.shown.shows shows (speaking-on log s)

  -- whatever of what is to be written was written
  pub shows-goes : (octets : List ℕ) (log : List Moment) → SpeaksOn plan notes session (put_all octets log) → ShowsSaid plan log
  shows-goes octets log s past shows =
      goes-said plan octets log past s.on.logged.shown.past shows s.on.logged.shown.shows (speaking-on (put_all octets log) s)
