-- A session on the log of its link: what the log shows is the journal for which the session stands,
-- and what was written on it was lawful (RFC 3080, section 2.2.1; RFC 3081, section 3.1).
-- A session keeps no log.
use Rattle.std.specs.Prelude.{◌≡◌, ℕ, List, [], ◌∷◌, ◌++◌, None, Some}
use Rattle.beep_peer.specs.beep_frame.specs.declared.head.Head.{Head}
use Rattle.beep_peer.specs.beep_frame.specs.declared.rule.Rule.{Rule}
use Rattle.beep_peer.specs.beep_frame.specs.Frame.{framed}
use Rattle.beep_peer.specs.beep_frame.specs.Spelling.{spelling}
use Rattle.beep_peer.specs.beep_history.specs.declared.journal.Side.{Side}
use Rattle.beep_peer.specs.beep_history.specs.Journal.{Item}
use Rattle.beep_peer.specs.beep_journal.specs.Broken.{none_tunes}
use Rattle.beep_peer.specs.beep_journal.specs.Journal.{Past, Shows}
use Rattle.beep_peer.specs.beep_journal.specs.Log.{Moment, got}
use Rattle.beep_peer.specs.beep_lawful.specs.declared.terms.Terms.{Terms}
use Rattle.beep_peer.specs.beep_lawful.specs.Lawful.{IsLawfulLog}

-- ---- while a session goes on

-- a log shows a session with this journal, in which no rule was broken: of the received side these
-- octets came since the last whole frame or SEQ, and each written one is whole
pub record IsShown (rest : List ℕ) (journal : List Item) (log : List Moment) : Type 0 where
  pub past : Past
  pub shows : Shows none_tunes log past
  pub journal_is : past.journal ≡ journal
  pub rest_is : past.rest Side.Received ≡ rest
  pub whole : past.rest Side.Sent ≡ []
  pub going : past.fault ≡ None

-- the same of a log on which each moment was lawful
pub record IsLogged (terms : Terms) (rest : List ℕ) (journal : List Item) (log : List Moment)
    : Type 0 where
  pub shown : IsShown rest journal log
  pub lawful : IsLawfulLog terms none_tunes log

-- a log shows no broken rule, and each moment of it was lawful
pub record IsSound (terms : Terms) (log : List Moment) : Type 0 where
  pub past : Past
  pub shows : Shows none_tunes log past
  pub going : past.fault ≡ None
  pub lawful : IsLawfulLog terms none_tunes log

-- ---- while a message of channel zero waits

-- the last octet that was read ended the last frame of a message of channel zero: before it, the
-- log showed a session with this journal, and with it that frame is whole
pub record IsLoggedWaiting (terms : Terms) (head : Head) (payload : List ℕ)
    (journal : List Item) (log : List Moment) : Type 0 where
  pub earlier : List Moment
  pub rest : List ℕ
  pub octet : ℕ
  pub log_is : log ≡ got octet ∷ earlier
  pub logged : IsLogged terms rest journal earlier
  pub spelled : rest ++ octet ∷ [] ≡ spelling (framed head payload)

-- ---- after a broken rule

-- a log shows that the peer broke this rule first, at the received octet of this number; each
-- written frame is whole
pub record IsLoggedBroken (terms : Terms) (rule : Rule) (place : ℕ) (log : List Moment)
    : Type 0 where
  pub past : Past
  pub shows : Shows none_tunes log past
  pub fault_is : past.fault ≡ Some (record { side = Side.Received; rule = rule; place = place })
  pub written : past.rest Side.Sent ≡ []
  pub lawful : IsLawfulLog terms none_tunes log
