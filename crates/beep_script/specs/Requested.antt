-- The requests among marks, as their octets (RFC 3080, section 2.1).
-- The code keeps what waits; here marks are cut at their ends.
use Rattle.std.specs.Prelude.{◌≡◌, ℕ, ◌==◌, Bool, false, not, if◌then◌else◌, List, [], ◌∷◌, ◌++◌, Option, None, Some}
use Rattle.beep_frame.specs.Frame.{is_msg}
use Rattle.beep_history.specs.Marks.{Mark, octet, end}
use Rattle.beep_mgmt.specs.Form.{Form, greeting, start, chosen, close, okay, fault}
use Rattle.beep_mgmt.specs.Message.{message_said, message_text}
use Rattle.beep_talk.specs.AtZero.{profile_of}

-- the octets of each request that ends among these marks, where the first goes on from some octets
abbrev pub requests_from : List ℕ → List Mark → List (List ℕ)
requests_from begun [] = []
requests_from begun (octet tag value ∷ marks) = requests_from (begun ++ value ∷ []) marks
requests_from begun (end tag ∷ marks) =
    if is_msg tag.kind then begun ∷ requests_from [] marks else requests_from [] marks

-- ---- a sender

-- what a sender asks on channel zero: the start of channel 1, its close, and the release
abbrev pub sender_texts : List ℕ → List (List ℕ)
sender_texts uri = message_text (start 1 None (profile_of uri ∷ []))
    ∷ message_text (close 1 200 [])
    ∷ message_text (close 0 200 [])
    ∷ []

-- each of these is read as what it says
pub record SenderTexts (uri : List ℕ) : Type 0 where
  pub start_said : message_said (message_text (start 1 None (profile_of uri ∷ [])))
      ≡ Some (start 1 None (profile_of uri ∷ []))
  pub close_said : message_said (message_text (close 1 200 [])) ≡ Some (close 1 200 [])
  pub release_said : message_said (message_text (close 0 200 [])) ≡ Some (close 0 200 [])

-- a request says a close of a channel above zero
abbrev pub closes_above : Option Form → Bool
closes_above None = false
closes_above (Some (greeting features localize profiles)) = false
closes_above (Some (start number server profiles)) = false
closes_above (Some (chosen profile)) = false
closes_above (Some (close number code note)) = not (number == 0)
closes_above (Some okay) = false
closes_above (Some (fault code note)) = false
