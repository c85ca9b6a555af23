-- What was let go was given, and what it waited for has come, also after it is given.
use Rattle.std.proofs.Common.{◌≡◌, ℕ, ◌==◌, Bool, true, false, if◌then◌else◌, List, [], ◌∷◌, ◌++◌, Option, Some, None, inl, inr, ⊎_elim, refl, sym, ap, ◌∙◌, subst}
use Rattle.std.proofs.lemmas.List.{append_cancel_right}
use Rattle.std.proofs.lemmas.Bool.{eqb-false, ne_eqb}
use Rattle.beep_upright.specs.beep_frame.specs.declared.kind.Kind.{Kind}
use Rattle.beep_upright.specs.beep_mgmt.specs.Form.{Form, greeting, start, chosen, close, okay, fault}
use Rattle.beep_upright.specs.beep_history.specs.Journal.{Item}
use Rattle.beep_upright.specs.beep_channel.specs.Held.{Live}
use Rattle.beep_upright.specs.beep_lives.specs.Lives.{live_at, numbers}
use Rattle.beep_upright.specs.beep_standing.specs.Standing.{Marks}
use Rattle.beep_upright.specs.beep_asked.specs.Kept.{Kept, asks_otherwise}
use Rattle.beep_upright.specs.beep_management.specs.declared.wait.Wait.{Wait}
use Rattle.beep_upright.specs.beep_management.specs.Managed.{Prepared, Managed, without}
use Rattle.beep_upright.specs.beep_management.specs.Steps.{cleared_by, answers_if}
use Rattle.beep_upright.specs.beep_outbox.specs.Queue.{marks_of}
use Rattle.beep_peer.specs.declared.peer.Peer.{Peer}
use Rattle.beep_peer.specs.Calls.{AreLeft, GivesFirst, LetsGo, words_of}
use Rattle.beep_peer.specs.Waiting.{IsDrainedAt, HasCome, AllHaveCome, AreLetGo, KeepsAbove}

-- ---- what they say

-- an end of a life changes nothing that they say
words-without : (number : ℕ) (answers : List Prepared) → words_of (without number answers) ≡ words_of answers
words-without number [] = refl
words-without number (answer ∷ answers) = ap (λ (ws : List (Kind × List ℕ)). (answer.kind, answer.octets) ∷ ws) (words-without number answers)

-- answers that are left say what they said
pub left-words : (channels : List Live) (old new : List Prepared) → AreLeft channels old new → words_of new ≡ words_of old
left-words channels old new left = ⊎_elim (λ same. ap words_of same) (λ less. ap words_of less.1 ∙ words-without less.0 old) left

left-if : (channels : List Live) (names : Bool) (number : ℕ) (answers : List Prepared) → (names ≡ true → live_at number channels ≡ None)
    → AreLeft channels answers (if names then without number answers else answers)
left-if channels true number answers gone = inr (number, refl, gone refl)
left-if channels false number answers gone = inl refl

-- after a grant, where the life of a close has no channel now
left-cleared : (channels : List Live) (said : Option Form) (names : Bool) (answers : List Prepared)
    → ((number code : ℕ) (note : List ℕ) → said ≡ Some (close number code note) → names ≡ true → live_at number channels ≡ None)
    → AreLeft channels answers (cleared_by said names answers)
left-cleared channels None names answers gone = inl refl
left-cleared channels (Some (greeting features localize profiles)) names answers gone = inl refl
left-cleared channels (Some (start number server profiles)) names answers gone = inl refl
left-cleared channels (Some (chosen profile)) names answers gone = inl refl
left-cleared channels (Some (close number code note)) names answers gone = left-if channels names number answers (gone number code note refl)
left-cleared channels (Some okay) names answers gone = inl refl
left-cleared channels (Some (fault code note)) names answers gone = inl refl

pub left-answered : (channels : List Live) (grants : Bool) (one : Kept) (answers : List Prepared)
    → (grants ≡ true → (number code : ℕ) (note : List ℕ) → one.said ≡ Some (close number code note) → one.names ≡ true → live_at number channels ≡ None)
    → AreLeft channels answers (answers_if grants one answers)
left-answered channels true one answers gone = left-cleared channels one.said one.names answers (gone refl)
left-answered channels false one answers gone = inl refl

-- a number without a channel has none among others of the same numbers
none-on : (n : ℕ) (old new : List Live) → numbers new ≡ numbers old → live_at n old ≡ None → live_at n new ≡ None
none-on n [] [] same none = refl
none-on n [] (channel ∷ new) same none = absurd (let h : channel.held.number ∷ numbers new ≡ [] = same in cc)
none-on n (before ∷ old) [] same none = absurd (let h : [] ≡ before.held.number ∷ numbers old = same in cc)
none-on n (before ∷ old) (channel ∷ new) same none =
    let first : channel.held.number ≡ before.held.number = cc (same) in
    let rest : numbers new ≡ numbers old = cc (same) in
    ap (λ m. if m == n then Some channel else live_at n new) first ∙ by (before.held.number == n) none (none-on n old new rest)
  where
    by : (b : Bool) → (if b then Some before else live_at n old) ≡ None → (live_at n old ≡ None → live_at n new ≡ None) → (if b then Some channel else live_at n new) ≡ None
    by true none rest = absurd (let h : Some before ≡ None = none in cc)
    by false none rest = rest none

left-on : (old new : List Live) (before now : List Prepared) → numbers new ≡ numbers old → AreLeft old before now → AreLeft new before now
left-on old new before now same left = ⊎_elim inl (λ less. inr (less.0, less.1, none-on less.0 old new same less.2)) left

-- ---- what they waited for

apart : (n : ℕ) → (n == 0) ≡ false → (0 == n) ≡ false
apart n e = ne_eqb 0 n (λ same. eqb-false n 0 e (sym same))

module _ (old new : List Live) (m n : Managed) (k : KeepsAbove old new) (mine : asks_otherwise n.mine.requests ≡ asks_otherwise m.mine.requests)
    (acts : asks_otherwise n.acts.requests ≡ asks_otherwise m.acts.requests) where
  drained-on : (number : ℕ) → IsDrainedAt number old → IsDrainedAt number new
  drained-on number drained above channel at = drained above channel (sym (k.others number (apart number above)) ∙ at)

  come-on : (waits : Wait) → HasCome waits old m → HasCome waits new n
  come-on Wait.Nothing come = tt
  come-on (Wait.Life number) come = drained-on number come
  come-on Wait.All come = (mine ∙ come.0, acts ∙ come.1, λ number. drained-on number (come.2 number))

  all-on : (gone : List Prepared) → AllHaveCome gone old m → AllHaveCome gone new n
  all-on [] come = tt
  all-on (answer ∷ gone) come = (come-on answer.waits come.0, all-on gone come.1)

-- ---- both

module _ (size : ℕ) (journal : List Item) (given taken before : Marks) (lives : List Live) (m : Managed) (answers : List Prepared) (peer : Peer)
    (zero : given 0 ≡ before 0) (same : AreLeft lives answers m.answers)
    (l : LetsGo size journal given taken m.answers peer.lives peer.management) (a : AreLetGo lives m peer.management) (k : KeepsAbove lives peer.lives) where
  same-gone : a.gone ≡ l.gone
  same-gone = append_cancel_right a.gone l.gone peer.management.answers (sym a.split ∙ l.split)

  -- the first were given, where these were the answers
  pub gives-first : GivesFirst before l.given_now answers peer
  gives-first = record {
    now = m.answers;
    left = left-on lives peer.lives answers m.answers k.order same;
    gone = l.gone;
    split = l.split;
    come = subst (λ (gone : List Prepared). AllHaveCome gone peer.lives peer.management) same-gone
        (all-on lives peer.lives m peer.management k (ap (λ (x : Managed). asks_otherwise x.mine.requests) a.same)
        (ap (λ (x : Managed). asks_otherwise x.acts.requests) a.same) a.gone a.come);
    messages = l.messages;
    are = l.are;
    given_is = l.given_is ∙ ap (λ marks. marks ++ marks_of l.messages) zero;
  }
