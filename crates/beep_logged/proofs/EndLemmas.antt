-- What is read on after a release, after a broken rule, or where a session has stopped; and a
-- beginning of what is written.
use Rattle.std.proofs.Common.{◌≡◌, ◌⊎◌, inl, inr, ℕ, Bool, true, false, not, ◌&&◌, ◌==◌, List, [], ◌∷◌, ◌++◌, length, None, Some, Option, refl, sym, ap, ◌∙◌, subst}
use Rattle.std.specs.Option.{is_none}
use Rattle.beep_peer.specs.beep_frame.specs.declared.head.Head.{Head}
use Rattle.beep_peer.specs.beep_frame.specs.declared.rule.Rule.{Rule}
use Rattle.beep_peer.specs.beep_frame.specs.declared.seq.Seq.{Seq}
use Rattle.beep_peer.specs.beep_history.specs.declared.journal.Side.{Side}
use Rattle.beep_peer.specs.beep_history.specs.Journal.{Item, began, passed, told}
use Rattle.beep_peer.specs.beep_journal.specs.Log.{Moment, got, put, got_all, put_all}
use Rattle.beep_peer.specs.beep_journal.specs.Life.{is_released}
use Rattle.beep_peer.specs.beep_journal.specs.Broken.{none_tunes, broken_head, broken_seq, broken_content}
use Rattle.beep_peer.specs.beep_journal.specs.Journal.{Past, Fault, fault_at, begins, passes, seq_ends, TakesOctet, TakesWhere, Takes, goes_on, Shows}
use Rattle.beep_peer.specs.beep_journal.proofs.ShownLemmas.{one-shown}
use Rattle.beep_peer.specs.beep_lawful.specs.declared.terms.Terms.{Terms}
use Rattle.beep_peer.specs.beep_lawful.specs.Lawful.{IsLawful, IsLawfulLog, IsLawfulMoment}
use Rattle.beep_logged.specs.Logged.{IsLogged, IsLoggedBroken, IsSound}
use Rattle.beep_logged.proofs.OctetLemmas.{longer-lawful}
use Rattle.beep_logged.proofs.WriteLemmas.{earlier-lawful}

-- ---- an octet that was read

-- what is written stays as it was, the journal stays lawful, and a new fault is of the side that was read
record After (terms : Terms) (old new : Past) : Type 0 where
  pub whole : new.rest Side.Sent ≡ old.rest Side.Sent
  pub items : IsLawful terms none_tunes old.journal → IsLawful terms none_tunes new.journal
  pub faults : (fault : Fault) → new.fault ≡ Some fault → (old.fault ≡ Some fault) ⊎ (fault.side ≡ Side.Received)

same-fault : (a b : Fault) → Some a ≡ Some b → a ≡ b
same-fault a b e = cc

own-fault : (past : Past) (rule : Rule) (fault : Fault) → Some (fault_at Side.Received past rule) ≡ Some fault → fault.side ≡ Side.Received
own-fault past rule fault e = ap (λ (f : Fault). f.side) (sym (same-fault (fault_at Side.Received past rule) fault e))

module _ (terms : Terms) (old : Past) where
  begins-after : (o : Option Rule) (octet : ℕ) (head : Head) → After terms old (begins o Side.Received octet head old)
  begins-after None octet head = record { whole = refl; items = λ h. h; faults = λ fault e. inl e }
  begins-after (Some rule) octet head = record { whole = refl; items = λ h. h; faults = λ fault e. inr (own-fault old rule fault e) }

  passes-after : (o : Option Rule) (head : Head) (payload : List ℕ) → After terms old (passes o Side.Received head payload old)
  passes-after None head payload = record { whole = refl; items = λ h. h; faults = λ fault e. absurd (let h : None ≡ Some fault = e in cc) }
  passes-after (Some rule) head payload = record { whole = refl; items = λ h. h; faults = λ fault e. inr (own-fault old rule fault e) }

  seq-after : (o : Option Rule) (seq : Seq) → After terms old (seq_ends o Side.Received seq old)
  seq-after None seq = record { whole = refl; items = λ h. h; faults = λ fault e. inl e }
  seq-after (Some rule) seq = record { whole = refl; items = λ h. h; faults = λ fault e. inr (own-fault old rule fault e) }

  octet-after : (octet : ℕ) (new : Past) → TakesOctet none_tunes Side.Received octet old new → After terms old new
  octet-after octet new (inl on) = subst (After terms old) (sym on.new_is) (record { whole = refl; items = λ h. h; faults = λ fault e. inl e })
  octet-after octet new (inr (inl h)) = subst (After terms old) (sym h.new_is) (begins-after (broken_head none_tunes Side.Received old.journal h.head) octet h.head)
  octet-after octet new (inr (inr (inl f))) = subst (After terms old) (sym f.new_is) (passes-after (broken_content Side.Received old.journal f.head f.payload) f.head f.payload)
  octet-after octet new (inr (inr (inr (inl s)))) = subst (After terms old) (sym s.new_is) (seq-after (broken_seq Side.Received old.journal s.seq) s.seq)
  octet-after octet new (inr (inr (inr (inr d)))) =
      subst (After terms old) (sym d.new_is) (record { whole = refl; items = λ h. h; faults = λ fault e. inr (own-fault old d.rule fault e) })

  where-after : (b : Bool) (octet : ℕ) (new : Past) → TakesWhere b none_tunes Side.Received octet old new → After terms old new
  where-after true octet new takes = octet-after octet new takes
  where-after false octet new takes = subst (After terms old) (sym takes) (record { whole = refl; items = λ h. h; faults = λ fault e. inl e })

-- ---- whatever is read

-- a lawful log, whose written frames are whole
record Whole (terms : Terms) (log : List Moment) : Type 0 where
  pub lawful : IsLawfulLog terms none_tunes log
  pub whole : (past : Past) → Shows none_tunes log past → past.rest Side.Sent ≡ []

got-whole : (terms : Terms) (log : List Moment) (octet : ℕ) → Whole terms log → Whole terms (got octet ∷ log)
got-whole terms log octet w = record {
  lawful = record { moments = moments; items = λ past s. (after past s).items (w.lawful.items s.0 s.1); faultless = faultless };
  whole = λ past s. (after past s).whole ∙ w.whole s.0 s.1;
}
  where
    after : (past : Past) (s : Shows none_tunes (got octet ∷ log) past) → After terms s.0 past
    after past s = where-after terms s.0 (goes_on s.0 && not (is_released s.0.journal)) octet past s.2

    moments : (later earlier : List Moment) (m : Moment) (p : Past) → got octet ∷ log ≡ later ++ m ∷ earlier → Shows none_tunes earlier p → IsLawfulMoment none_tunes p m
    moments [] earlier m p e s =
        let heads : got octet ≡ m = cc in
        let tails : log ≡ earlier = cc in
        subst (λ (n : Moment). IsLawfulMoment none_tunes p n) heads (w.whole p (subst (λ (l : List Moment). Shows none_tunes l p) (sym tails) s))
    moments (first ∷ later) earlier m p e s =
        let tails : log ≡ later ++ m ∷ earlier = cc in
        w.lawful.moments later earlier m p tails s

    faultless : (past : Past) (fault : Fault) → Shows none_tunes (got octet ∷ log) past → past.fault ≡ Some fault → fault.side ≡ Side.Received
    faultless past fault s e = elim ((after past s).faults fault e) as (λ _. fault.side ≡ Side.Received) [ inl was ↦ w.lawful.faultless s.0 fault s.1 was | inr is ↦ is ]

gots-whole : (terms : Terms) (octets : List ℕ) (log : List Moment) → Whole terms log → Whole terms (got_all octets log)
gots-whole terms [] log w = w
gots-whole terms (octet ∷ octets) log w = gots-whole terms octets (got octet ∷ log) (got-whole terms log octet w)

whole-of : (terms : Terms) (rest : List ℕ) (journal : List Item) (log : List Moment) → IsLogged terms rest journal log → Whole terms log
whole-of terms rest journal log l = record {
  lawful = l.lawful;
  whole = λ past s. ap (λ (p : Past). p.rest Side.Sent) (sym (one-shown none_tunes log l.shown.past past l.shown.shows s)) ∙ l.shown.whole;
}

pub reads-lawful : (terms : Terms) (rest octets : List ℕ) (journal : List Item) (log : List Moment) → IsLogged terms rest journal log → IsLawfulLog terms none_tunes (got_all octets log)
reads-lawful terms rest octets journal log l = (gots-whole terms octets log (whole-of terms rest journal log l)).lawful

-- ---- octets that don't count

stays-where : (b : Bool) (octet : ℕ) (past : Past) → b ≡ false → TakesWhere b none_tunes Side.Received octet past past
stays-where true octet past e = absurd (let h : true ≡ false = e in cc)
stays-where false octet past e = refl

both-false : (a b : Bool) → b ≡ true → (a && not b) ≡ false
both-false true b e = ap not e
both-false false b e = refl

released-got : (terms : Terms) (rest : List ℕ) (journal : List Item) (log : List Moment) (octet : ℕ) → is_released journal ≡ true → IsLogged terms rest journal log
    → IsLogged terms rest journal (got octet ∷ log)
released-got terms rest journal log octet e l =
    let past = l.shown.past in
    let takes : Takes none_tunes (got octet) past past =
    stays-where (goes_on past && not (is_released past.journal)) octet past (both-false (goes_on past) (is_released past.journal) (ap is_released l.shown.journal_is ∙ e)) in
    record {
      shown = record {
        past = past;
        shows = (past, l.shown.shows, takes);
        journal_is = l.shown.journal_is;
        rest_is = l.shown.rest_is;
        whole = l.shown.whole;
        going = l.shown.going;
      };
      lawful = longer-lawful terms log (got octet) past past l.lawful l.shown.shows takes l.shown.whole (l.lawful.items past l.shown.shows)
          (λ fault f. l.lawful.faultless past fault l.shown.shows f);
    }

pub released-gots : (terms : Terms) (rest octets : List ℕ) (journal : List Item) (log : List Moment) → is_released journal ≡ true → IsLogged terms rest journal log
    → IsLogged terms rest journal (got_all octets log)
released-gots terms rest [] journal log e l = l
released-gots terms rest (octet ∷ octets) journal log e l = released-gots terms rest octets journal (got octet ∷ log) e (released-got terms rest journal log octet e l)

stopped-where : (fault : Option Fault) (f : Fault) (b : Bool) → fault ≡ Some f → (is_none fault && b) ≡ false
stopped-where None f b e = absurd (let h : None ≡ Some f = e in cc)
stopped-where (Some g) f b e = refl

broken-got : (terms : Terms) (rule : Rule) (place : ℕ) (log : List Moment) (octet : ℕ) → IsLoggedBroken terms rule place log → IsLoggedBroken terms rule place (got octet ∷ log)
broken-got terms rule place log octet l =
    let past = l.past in
    let takes : Takes none_tunes (got octet) past past =
    stays-where (goes_on past && not (is_released past.journal)) octet past (stopped-where past.fault _ (not (is_released past.journal)) l.fault_is) in
    record {
      past = past;
      shows = (past, l.shows, takes);
      fault_is = l.fault_is;
      written = l.written;
      lawful = longer-lawful terms log (got octet) past past l.lawful l.shows takes l.written (l.lawful.items past l.shows) (λ fault f. l.lawful.faultless past fault l.shows f);
    }

pub broken-gots : (terms : Terms) (rule : Rule) (place : ℕ) (octets : List ℕ) (log : List Moment) → IsLoggedBroken terms rule place log
    → IsLoggedBroken terms rule place (got_all octets log)
broken-gots terms rule place [] log l = l
broken-gots terms rule place (octet ∷ octets) log l = broken-gots terms rule place octets (got octet ∷ log) (broken-got terms rule place log octet l)

-- ---- a beginning of what is written

module _ (terms : Terms) (old : Past) where
  begins-before : (o : Option Rule) (octet : ℕ) (head : Head) → IsLawful terms none_tunes (begins o Side.Sent octet head old).journal → IsLawful terms none_tunes old.journal
  begins-before None octet head h = earlier-lawful terms (began Side.Sent head) old.journal h
  begins-before (Some rule) octet head h = h

  seq-before : (o : Option Rule) (seq : Seq) → IsLawful terms none_tunes (seq_ends o Side.Sent seq old).journal → IsLawful terms none_tunes old.journal
  seq-before None seq h = earlier-lawful terms (told Side.Sent seq) old.journal h
  seq-before (Some rule) seq h = h

  octet-before : (octet : ℕ) (new : Past) → TakesOctet none_tunes Side.Sent octet old new → IsLawful terms none_tunes new.journal → IsLawful terms none_tunes old.journal
  octet-before octet new (inl on) h = subst (λ (p : Past). IsLawful terms none_tunes p.journal) on.new_is h
  octet-before octet new (inr (inl e)) h =
      begins-before (broken_head none_tunes Side.Sent old.journal e.head) octet e.head (subst (λ (p : Past). IsLawful terms none_tunes p.journal) e.new_is h)
  octet-before octet new (inr (inr (inl f))) h =
      earlier-lawful terms (passed Side.Sent f.head f.payload) old.journal (subst (λ (p : Past). IsLawful terms none_tunes p.journal) f.new_is h)
  octet-before octet new (inr (inr (inr (inl s)))) h =
      seq-before (broken_seq Side.Sent old.journal s.seq) s.seq (subst (λ (p : Past). IsLawful terms none_tunes p.journal) s.new_is h)
  octet-before octet new (inr (inr (inr (inr d)))) h = subst (λ (p : Past). IsLawful terms none_tunes p.journal) d.new_is h

  where-before : (b : Bool) (octet : ℕ) (new : Past) → TakesWhere b none_tunes Side.Sent octet old new → IsLawful terms none_tunes new.journal → IsLawful terms none_tunes old.journal
  where-before true octet new takes h = octet-before octet new takes h
  where-before false octet new takes h = subst (λ (p : Past). IsLawful terms none_tunes p.journal) takes h

goes-before : (fault : Option Fault) (octet : ℕ) (old new : Past) → old.fault ≡ fault → TakesWhere (is_none fault) none_tunes Side.Sent octet old new → new.fault ≡ None → old.fault ≡ None
goes-before None octet old new is takes e = is
goes-before (Some f) octet old new is takes e = ap (λ (p : Past). p.fault) (sym takes) ∙ e

sound-before : (terms : Terms) (octet : ℕ) (log : List Moment) → IsSound terms (put octet ∷ log) → IsSound terms log
sound-before terms octet log s =
    let old : Past = s.shows.0 in
    let going : old.fault ≡ None = goes-before old.fault octet old s.past refl s.shows.2 s.going in
    let items : IsLawful terms none_tunes old.journal = where-before terms old (goes_on old) octet s.past s.shows.2 (s.lawful.items s.past s.shows) in
    record {
      past = old;
      shows = s.shows.1;
      going = going;
      lawful = record {
        moments = λ later earlier m p e shows. s.lawful.moments (put octet ∷ later) earlier m p (ap (λ (l : List Moment). put octet ∷ l) e) shows;
        items = λ past shows. subst (λ (p : Past). IsLawful terms none_tunes p.journal) (one-shown none_tunes log old past s.shows.1 shows) items;
        faultless = λ past fault shows e. absurd (let h : None ≡ Some fault = sym going ∙ ap (λ (p : Past). p.fault) (one-shown none_tunes log old past s.shows.1 shows) ∙ e in cc);
      };
    }

pub sound-puts : (terms : Terms) (octets : List ℕ) (log : List Moment) → IsSound terms (put_all octets log) → IsSound terms log
sound-puts terms [] log s = s
sound-puts terms (octet ∷ octets) log s = sound-before terms octet log (sound-puts terms octets (put octet ∷ log) s)

pub sound-of : (terms : Terms) (rest : List ℕ) (journal : List Item) (log : List Moment) → IsLogged terms rest journal log → IsSound terms log
sound-of terms rest journal log l = record { past = l.shown.past; shows = l.shown.shows; going = l.shown.going; lawful = l.lawful }

-- ---- octets in pieces

pub put-append : (one two : List ℕ) (log : List Moment) → put_all (one ++ two) log ≡ put_all two (put_all one log)
put-append [] two log = refl
put-append (octet ∷ one) two log = put-append one two (put octet ∷ log)
