-- What a take of a handle is.
use Rattle.std.proofs.Common.{◌≡◌, ℕ, ◌<◌, ◌≤◌, nat_lt, Bool, true, false, if◌then◌else◌, List, [], ◌∷◌, length, take, drop, Option, None, Some, refl, sym, ap, ◌∙◌, subst, arith, length-append, length-take, length-drop}
use Rattle.std.proofs.lemmas.Bool.Decides.{nat_tests}
use Rattle.std.specs.Prelude.{IfSome, IfNone}
use Rattle.beep_two_sessions.specs.beep_inbox.specs.declared.part.Part.{Part}
use Rattle.beep_two_sessions.specs.beep_inbox.specs.Runs.{Run, left_runs}
use Rattle.beep_two_sessions.specs.beep_inbox.specs.Untaken.{IsTaken}
use Rattle.beep_two_sessions.specs.beep_lives.specs.Lives.{live_at}
use Rattle.beep_two_sessions.specs.beep_giving.specs.Looks.{inbox_of}
use Rattle.beep_two_sessions.specs.beep_session.specs.Session.{Held}
use Rattle.beep_two_sessions.specs.beep_session.specs.Channels.{Takes}
use Rattle.beep_two_sessions.specs.beep_session.specs.Lawfully.{KeepsUpright}
use Rattle.beep_pair.specs.Acts.{has_channel}
use Rattle.beep_pair.specs.Sessions.{IsLess, TakesPart}

-- a run that loses some octets, or goes
left-less : (count : ℕ) (run : Run) (runs : List Run) (b : Bool) → nat_lt count (length run.octets) ≡ b → (count < length run.octets → 0 < count)
    → IsLess (if b then record run { octets = drop count run.octets } ∷ runs else runs) (run ∷ runs)
left-less count run runs true e some =
    let within : count < length run.octets = is-less count (length run.octets) e in
    omega (arith, within, some within, length-drop count run.octets)
  where
    is-less : (a b : ℕ) → nat_lt a b ≡ true → a < b
    is-less a b e = grind (arith, nat_tests)
left-less count run runs false e some = omega arith

taken-less : (part : Part) (old new : List Run) (before after : List ℕ) → IsTaken part old new before after → 0 < length before → IsLess new old
taken-less part old new before after t some =
    let less : IsLess (left_runs part.len (t.first ∷ t.others)) (t.first ∷ t.others) =
    left-less part.len t.first t.others (nat_lt part.len (length t.first.octets)) refl (λ within. omega (arith, t.len, some, within)) in
    subst (λ xs. IsLess new xs) (sym t.is) (subst (λ xs. IsLess xs (t.first ∷ t.others)) (sym (t.left ∙ ap (left_runs part.len) t.is)) less)

taken-within : (part : Part) (old new : List Run) (before after : List ℕ) → IsTaken part old new before after → part.len ≤ length after
taken-within part old new before after t =
    omega (arith, t.len, ap length t.octets, length-append (take part.len t.first.octets) (drop part.len before), length-take part.len t.first.octets)

pub part-taken : (n : ℕ) (r : Option Part) (before after : List ℕ) (old new : Held) → has_channel n old ≡ true → 0 < length before → IfSome r (λ part. Takes n part after old new)
    → KeepsUpright old new → IfSome r (λ part. IsTaken part (inbox_of (live_at n old.peer.lives)) (inbox_of (live_at n new.peer.lives)) before after)
    → IfNone r (inbox_of (live_at n old.peer.lives) ≡ []) → IfNone r (new ≡ old) → TakesPart n r after old new
part-taken n None before after old new has room takes upright taken none kept = (kept, λ h. none)
part-taken n (Some part) before after old new has room takes upright taken none kept =
    (has, takes, upright, taken-within part (inbox_of (live_at n old.peer.lives)) (inbox_of (live_at n new.peer.lives)) before after taken, taken-less part (inbox_of (live_at n old.peer.lives)) (inbox_of (live_at n new.peer.lives)) before after taken room)

-- of the session that the handle holds
pub part-over : (n at : ℕ) (r : Option Part) (after : List ℕ) (a b old new : Held) → at ≡ n → a ≡ old → new ≡ b → TakesPart at r after a b → TakesPart n r after old new
part-over n at r after a b old new same first last t =
    subst (λ s. TakesPart n r after s new) first (subst (λ s. TakesPart n r after a s) (sym last) (subst (λ m. TakesPart m r after a b) same t))
