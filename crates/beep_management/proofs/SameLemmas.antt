-- What is kept stands for the same, whatever room it has and whatever its answers wait for.
use Rattle.std.proofs.Common.{◌≡◌, ℕ, ◌+◌, ◌≤◌, ◌++◌, Bool, true, false, List, [], ◌∷◌, length, reverse, Option, Some, None, refl, sym, ap, ◌∙◌, subst}
use Rattle.std.proofs.lemmas.List.{length-map}
use Rattle.beep_asked.specs.beep_mgmt.specs.Form.{Form, greeting, start, chosen, close, okay, fault}
use Rattle.beep_asked.specs.beep_history.specs.declared.journal.Side.{Side}
use Rattle.beep_asked.specs.beep_history.specs.Journal.{Item}
use Rattle.beep_asked.specs.beep_journal.specs.Zero.{zero_history}
use Rattle.beep_asked.specs.beep_channel.specs.Held.{Live}
use Rattle.beep_asked.specs.beep_channel.specs.Stands.{ends_of}
use Rattle.beep_asked.specs.beep_exchange.specs.Given.{ends_reply}
use Rattle.beep_asked.specs.beep_standing.specs.Standing.{Marks}
use Rattle.beep_spoken.specs.Spoken.{Spoken}
use Rattle.beep_asked.specs.Kept.{Kept}
use Rattle.beep_asked.specs.Asked.{AreWaiting}
use Rattle.beep_management.specs.Managed.{Prepared, Managed, numbers_started, numbers_granted, requests_among, replies_among, one_without, without}
use Rattle.beep_management.specs.Manages.{unsent, AreActs, ArePrepared, AllFit, AreFresh, IsManaged}
use Rattle.beep_management.specs.Steps.{cleared_by, answers_after}

-- ---- room

pub room-same : (size : ℕ) (journal : List Item) (given : Marks) (old new : Managed) (spoken prepared : List Spoken) → IsManaged size journal given old spoken prepared
    → new.mine.requests ≡ old.mine.requests → new.acts.requests ≡ old.acts.requests → new.theirs.requests ≡ old.theirs.requests → new.answers ≡ old.answers
    → new.starting ≡ old.starting → new.granted ≡ old.granted → length new.acts.requests ≤ new.mine.room
    → IsManaged size journal given new spoken prepared
room-same size journal given old new spoken prepared d mine acts theirs answers starting granted room = record {
  spoken_is = d.spoken_is;
  sent = d.sent;
  plain = d.plain;
  mine = subst (λ (ks : List Kept). AreWaiting Side.Sent (zero_history journal) ks) (sym mine) d.mine;
  theirs = subst (λ (ks : List Kept). AreWaiting Side.Received (zero_history journal) ks) (sym theirs) d.theirs;
  acts = subst (λ (ks : List Kept). AreActs (requests_among (unsent spoken journal)) (reverse ks)) (sym acts) d.acts;
  answers = subst (λ (l : List Prepared). ArePrepared l prepared) (sym answers) d.answers;
  fit = subst (λ (ks : List Kept). AllFit (replies_among (unsent spoken journal) ++ prepared) (reverse ks)) (sym theirs) d.fit;
  starting = subst (λ (xs : List Live). AreFresh size (numbers_started (reverse new.mine.requests ++ reverse new.acts.requests)) xs) (sym starting)
      (subst (λ (ks : List Kept). AreFresh size (numbers_started (reverse ks ++ reverse new.acts.requests)) old.starting) (sym mine)
      (subst (λ (ks : List Kept). AreFresh size (numbers_started (reverse old.mine.requests ++ reverse ks)) old.starting) (sym acts) d.starting));
  granted = subst (λ (xs : List Live). AreFresh size (numbers_granted (replies_among (unsent spoken journal) ++ prepared) (reverse new.theirs.requests)) xs) (sym granted)
      (subst (λ (ks : List Kept). AreFresh size (numbers_granted (replies_among (unsent spoken journal) ++ prepared) (reverse ks)) old.granted) (sym theirs) d.granted);
  owed = ap (λ (l : List Prepared). ends_of ends_reply (given 0) + length l) answers ∙ d.owed;
  room = room;
}

-- ---- what answers wait for

without-prepared : (number : ℕ) (answers : List Prepared) (ms : List Spoken) → ArePrepared answers ms → ArePrepared (without number answers) ms
without-prepared number [] [] a = tt
without-prepared number [] (m ∷ ms) a = absurd a
without-prepared number (x ∷ answers) [] a = absurd a
without-prepared number (x ∷ answers) (m ∷ ms) a =
    (record { kind = a.0.kind; reply = a.0.reply; alone = a.0.alone; octets = a.0.octets; says = a.0.says }, without-prepared number answers ms a.1)

cleared-prepared : (form : Option Form) (names : Bool) (answers : List Prepared) (ms : List Spoken) → ArePrepared answers ms
    → ArePrepared (cleared_by form names answers) ms × (length (cleared_by form names answers) ≡ length answers)
cleared-prepared None names answers ms a = (a, refl)
cleared-prepared (Some (greeting features localize profiles)) names answers ms a = (a, refl)
cleared-prepared (Some (start number server profiles)) names answers ms a = (a, refl)
cleared-prepared (Some (chosen profile)) names answers ms a = (a, refl)
cleared-prepared (Some (close number code note)) true answers ms a = (without-prepared number answers ms a, length-map answers (one_without number))
cleared-prepared (Some (close number code note)) false answers ms a = (a, refl)
cleared-prepared (Some okay) names answers ms a = (a, refl)
cleared-prepared (Some (fault code note)) names answers ms a = (a, refl)

pub waits-same : (size : ℕ) (journal : List Item) (given : Marks) (m : Managed) (one : Kept) (spoken prepared : List Spoken) → IsManaged size journal given m spoken prepared
    → IsManaged size journal given (record m { answers = answers_after one m.answers }) spoken prepared
waits-same size journal given m one spoken prepared d =
    let cleared = cleared-prepared one.said one.names m.answers prepared d.answers in
    record {
      spoken_is = d.spoken_is;
      sent = d.sent;
      plain = d.plain;
      mine = d.mine;
      theirs = d.theirs;
      acts = d.acts;
      answers = cleared.0;
      fit = d.fit;
      starting = d.starting;
      granted = d.granted;
      owed = ap (λ (n : ℕ). ends_of ends_reply (given 0) + n) cleared.1 ∙ d.owed;
      room = d.room;
    }
