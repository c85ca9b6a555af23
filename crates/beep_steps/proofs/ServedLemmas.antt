-- All that comes to a listener is served, as the log of its link shows.
use Rattle.std.proofs.Common.{◌≡◌, ℕ, ◌+◌, ◌<◌, ◌^◌, List, [], ◌∷◌, length, refl, ap, ◌∙◌, arith}
use Rattle.beep_session.specs.beep_journal.specs.Broken.{none_tunes}
use Rattle.beep_session.specs.beep_journal.specs.Journal.{Past, Shows}
use Rattle.beep_session.specs.beep_journal.specs.Log.{Moment, got, put, got_all, put_all}
use Rattle.beep_session.specs.beep_lawful.specs.declared.terms.Terms.{Terms}
use Rattle.beep_link.specs.beep_wires.specs.Log.{Entry, read, wrote, quiet, ended}
use Rattle.beep_link.specs.Causes.{octets_read}
use Rattle.beep_desk.specs.beep_talk.specs.Plan.{PlainPlan}
use Rattle.beep_served.specs.Served.{IsServed, octets_got}
use Rattle.beep_served.proofs.ShownLemmas.{shown-served}
use Rattle.beep_steps.specs.Logs.{moments, IsLawfulOn}
use Rattle.beep_steps.specs.Serving.{ShowsServing}

got-count : (octets : List ℕ) (log : List Moment) → octets_got (got_all octets log) ≡ length octets + octets_got log
got-count [] log = omega arith
got-count (octet ∷ octets) log = let rest = got-count octets (got octet ∷ log) in omega (arith, rest)

put-count : (octets : List ℕ) (log : List Moment) → octets_got (put_all octets log) ≡ octets_got log
put-count [] log = refl
put-count (octet ∷ octets) log = put-count octets (put octet ∷ log)

-- the octets that came are those that were read
pub moments-octets : (log : List Entry) → octets_got (moments log) ≡ octets_read log
moments-octets [] = refl
moments-octets (read octets ∷ log) = got-count octets (moments log) ∙ ap (λ (n : ℕ). length octets + n) (moments-octets log)
moments-octets (wrote octets ∷ log) = put-count octets (moments log) ∙ moments-octets log
moments-octets (quiet ∷ log) = moments-octets log
moments-octets (ended ∷ log) = moments-octets log

-- so the log of a lawful end that served one profile shows that all was served
pub shows-all-served : (plan : PlainPlan) (terms : Terms) (log : List Entry) → IsLawfulOn terms log → ShowsServing plan (moments log) → octets_read log < 2 ^ 32
    → (past : Past) → Shows none_tunes (moments log) past → IsServed plan past.journal
shows-all-served plan terms log lawful serving few past shows =
    shown-served plan terms (moments log) past lawful shows (serving past shows) (let same = moments-octets log in omega (arith, few, same))
