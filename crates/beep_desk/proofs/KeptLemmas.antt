-- The own requests that a session keeps are those that a list has.
use Rattle.std.proofs.Common.{◌≡◌, ◌∙◌, refl, sym, ap, ℕ, zero, suc, ◌-◌, true, ◌||◌, List, [], ◌∷◌, ◌++◌, length, map, drop, flat_map, reverse, Option, None, Some, arith}
use Rattle.std.specs.Prelude.{is_some}
use Rattle.std.specs.List.{list_any}
use Rattle.beep_peer.specs.beep_history.specs.declared.journal.Side.{Side}
use Rattle.beep_peer.specs.beep_history.specs.Journal.{Item}
use Rattle.beep_peer.specs.beep_history.specs.Broken.{KeepsExchangeRules}
use Rattle.beep_peer.specs.beep_mgmt.specs.Form.{Form}
use Rattle.beep_peer.specs.beep_journal.specs.Zero.{zero_history, asked}
use Rattle.beep_peer.specs.beep_channel.specs.Held.{Live}
use Rattle.beep_peer.specs.beep_channel.specs.Stands.{Stands}
use Rattle.beep_peer.specs.beep_outbox.specs.Queue.{marks_of as unsent_marks}
use Rattle.beep_peer.specs.beep_lives.specs.Lives.{live_at}
use Rattle.beep_peer.specs.beep_standing.specs.Standing.{Marks, AreLiveBy}
use Rattle.beep_peer.specs.beep_decide.specs.Asks.{is_close_of}
use Rattle.beep_peer.specs.beep_spoken.specs.Spoken.{Spoken}
use Rattle.beep_peer.specs.beep_asked.specs.Kept.{Kept, is_leaving}
use Rattle.beep_peer.specs.beep_management.specs.Managed.{numbers_of, numbers_started, requests_among}
use Rattle.beep_peer.specs.beep_management.specs.Manages.{AreFresh, IsManaged}
use Rattle.beep_peer.specs.declared.peer.Peer.{Peer}
use Rattle.beep_script.specs.beep_talk.specs.AtZero.{ZeroMessage}
use Rattle.beep_script.specs.Desk.{own_starting, number_started, has_listed}
use Rattle.beep_desk.specs.Listed.{ArePlacedFrom, asked_positions, spoken_of}
use Rattle.beep_desk.proofs.OwnLemmas.{any-append, any-map, any-reverse, form_said, listed-says, listed-waiting, own-waiting, started-said, starting-waiting, waiting_forms}

-- ---- small lemmas

pub fresh-numbers : (size : ℕ) (ones : List ℕ) (channels : List Live) → AreFresh size ones channels → numbers_of channels ≡ ones
fresh-numbers size [] [] f = refl
fresh-numbers size [] (channel ∷ channels) f = absurd f
fresh-numbers size (number ∷ ones) [] f = absurd f
fresh-numbers size (number ∷ ones) (channel ∷ channels) f = ap (λ n. n ∷ numbers_of channels) f.0.is ∙ ap (λ l. number ∷ l) (fresh-numbers size ones channels f.1)

-- the implied request says nothing
started-dropped : (c : ℕ) (forms : List (Option Form)) → flat_map number_started (drop c (None ∷ forms)) ≡ flat_map number_started (drop (c - 1) forms)
started-dropped zero forms = refl
started-dropped (suc c) forms = ap (λ n. flat_map number_started (drop n forms)) (less c)
  where
    less : (n : ℕ) → n ≡ suc n - 1
    less n = omega arith

leaving-dropped : (c : ℕ) (forms : List (Option Form)) → list_any (is_close_of 0) (drop c (None ∷ forms)) ≡ list_any (is_close_of 0) (drop (c - 1) forms)
leaving-dropped zero forms = refl
leaving-dropped (suc c) forms = ap (λ n. list_any (is_close_of 0) (drop n forms)) (less c)
  where
    less : (n : ℕ) → n ≡ suc n - 1
    less n = omega arith

-- own requests that a list has, each at its place, are those that were given
module _ (size : ℕ) (journal : List Item) (given taken : Marks) (peer : Peer) (spoken prepared : List Spoken) (keeps : KeepsExchangeRules (zero_history journal))
    (live : AreLiveBy size journal given taken peer.lives) (managed : IsManaged size journal given peer.management spoken prepared) (ours : List ZeroMessage)
    (same : requests_among (map spoken_of ours) ≡ requests_among spoken) (placed : ArePlacedFrom 1 (asked_positions ours)) where
  abbrev past : List Item
  past = zero_history journal

  abbrev mine : List Kept
  mine = peer.management.mine.requests

  abbrev acts : List Kept
  acts = peer.management.acts.requests

  zero-stands : (c : Live) × Stands size c.held past (given 0) (taken 0)
  zero-stands = by (live_at 0 peer.lives) refl (sym (live.there 0))
    where
      by : (o : Option Live) → live_at 0 peer.lives ≡ o → is_some o ≡ true → (c : Live) × Stands size c.held past (given 0) (taken 0)
      by None at e = absurd cc
      by (Some c) at e = (c, live.zero c at)

  abbrev pub own-rest : ℕ
  own-rest = length (asked Side.Sent past) - length mine

  pub own-kept : map (λ (kept : Kept). kept.said) (reverse mine ++ reverse acts) ≡ drop own-rest (None ∷ map form_said (requests_among spoken))
  own-kept =
      let c = zero-stands in
      own-waiting journal (given 0) (unsent_marks c.0.held.queue) spoken keeps managed.spoken_is c.1.all_given mine acts managed.mine managed.acts

  pub own-listed : waiting_forms past ours ≡ drop (own-rest - 1) (map form_said (requests_among spoken))
  own-listed =
      listed-waiting past (length (asked Side.Sent past)) (length mine) managed.mine.answered 1 ours placed
      ∙ ap (λ l. drop (own-rest - 1) (map form_said l)) same

  pub starting-same : numbers_of peer.management.starting ≡ own_starting past ours
  starting-same =
      fresh-numbers size (numbers_started (reverse mine ++ reverse acts)) peer.management.starting managed.starting ∙ started-said (reverse mine ++ reverse acts)
      ∙ ap (flat_map number_started) own-kept ∙ started-dropped own-rest (map form_said (requests_among spoken)) ∙ ap (flat_map number_started) (sym own-listed)
      ∙ sym (starting-waiting past ours)

  pub own-leaving : (is_leaving mine || is_leaving acts) ≡ has_listed (is_close_of 0) past ours
  own-leaving =
      sym (any-append (λ (kept : Kept). is_close_of 0 kept.said) (reverse mine) (reverse acts)
      ∙ ap (λ b. b || list_any (λ (kept : Kept). is_close_of 0 kept.said) (reverse acts)) (any-reverse (λ (kept : Kept). is_close_of 0 kept.said) mine)
      ∙ ap (λ b. is_leaving mine || b) (any-reverse (λ (kept : Kept). is_close_of 0 kept.said) acts))
      ∙ sym (any-map (is_close_of 0) (λ (kept : Kept). kept.said) (reverse mine ++ reverse acts)) ∙ ap (list_any (is_close_of 0)) own-kept
      ∙ leaving-dropped own-rest (map form_said (requests_among spoken)) ∙ ap (list_any (is_close_of 0)) (sym own-listed) ∙ sym (listed-says (is_close_of 0) past ours)
