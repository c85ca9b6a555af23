-- What a look at a life above zero tells, for every journal for which the peer stands.
use Rattle.std.proofs.Common.{◌≡◌, ℕ, ◌<◌, ◌==◌, Bool, true, false, not, if◌then◌else◌, List, [], ◌∷◌, length, map, Option, Some, None, is_some, refl, sym, ap, arith}
use Rattle.std.specs.Prelude.{IsSome, nat_lt, ◌↔◌}
use Rattle.std.proofs.lemmas.Bool.Decides.{nat_tests}
use Rattle.beep_peer.specs.beep_frame.specs.Frame.{is_msg}
use Rattle.beep_peer.specs.beep_history.specs.declared.journal.Side.{Side}
use Rattle.beep_peer.specs.beep_history.specs.Journal.{Item}
use Rattle.beep_peer.specs.beep_history.specs.Marks.{marks, mark_modulo_2_64}
use Rattle.beep_peer.specs.beep_exchange.specs.declared.given.Given.{Given}
use Rattle.beep_peer.specs.beep_exchange.specs.Given.{ends_reply, first_owed_now}
use Rattle.beep_peer.specs.beep_inbox.specs.Runs.{Run}
use Rattle.beep_peer.specs.beep_journal.specs.Life.{history}
use Rattle.beep_peer.specs.beep_channel.specs.Held.{Live}
use Rattle.beep_peer.specs.beep_channel.specs.Stands.{ends_of, answers_after, answer_number}
use Rattle.beep_peer.specs.beep_lives.specs.Lives.{live_at}
use Rattle.beep_peer.specs.beep_standing.specs.Standing.{Marks, AreLiveBy}
use Rattle.beep_peer.specs.beep_standing.proofs.DueLemmas.{channel-untaken}
use Rattle.beep_giving.specs.Looks.{owes_of, answers_of, has_untaken_of}
use Rattle.beep_giving.proofs.CountLemmas.{above-zero, counted-above}

pub owed-some : (g : Given) → is_some (first_owed_now g) ≡ nat_lt 0 g.owed
owed-some g = of (g.owed == 0) refl
  where
    of : (b : Bool) → (g.owed == 0) ≡ b → is_some (if b then None else Some g.first_owed) ≡ nat_lt 0 g.owed
    of true none = sym (let e : nat_lt 0 g.owed ≡ false = grind (arith, nat_tests) in e)
    of false some = sym (let e : nat_lt 0 g.owed ≡ true = grind (arith, nat_tests) in e)

none-untaken : (runs : List Run) → not (length runs == 0) ≡ false → runs ≡ []
none-untaken [] none = refl
none-untaken (run ∷ runs) none = absurd (let some : (length (run ∷ runs) == 0) ≡ false = grind (arith, nat_tests) in cc (ap not some, none))

module _ (size number : ℕ) (journal : List Item) (given taken : Marks) (channels : List Live) (s : AreLiveBy size journal given taken channels) (above : 0 < number) where
  module _ (c : Live) (at : live_at number channels ≡ Some c) where
    owes-at : nat_lt 0 c.held.life.given.owed ≡ nat_lt (ends_of ends_reply (given number)) (ends_of is_msg (taken number))
    owes-at =
        let k = counted-above size number journal given taken channels c (above-zero number above) s at in
        let owed = k.owed in grind (arith, nat_tests)

    answers-at : c.held.life.given.answers ≡ answer_number (answers_after 0 (given number))
    answers-at = (counted-above size number journal given taken channels c (above-zero number above) s at).answers

    untaken-at : (not (length c.held.inbox == 0) ≡ false) ↔ (map mark_modulo_2_64 (marks Side.Received (history number journal)) ≡ taken number)
    untaken-at =
        let told = channel-untaken size journal given taken channels s number c at in
        (λ none. told.0 (none-untaken c.held.inbox none), λ all. ap (λ (runs : List Run). not (length runs == 0)) (told.1 all))

  pub owes-stands : (o : Option Live) → live_at number channels ≡ o → IsSome o
      → owes_of o ≡ nat_lt (ends_of ends_reply (given number)) (ends_of is_msg (taken number))
  owes-stands None at live = absurd (let none : false ≡ true = live in cc)
  owes-stands (Some c) at live = owes-at c at

  pub answers-stand : (o : Option Live) → live_at number channels ≡ o → IsSome o → answers_of o ≡ answer_number (answers_after 0 (given number))
  answers-stand None at live = absurd (let none : false ≡ true = live in cc)
  answers-stand (Some c) at live = answers-at c at

  pub untaken-stands : (o : Option Live) → live_at number channels ≡ o → IsSome o
      → (has_untaken_of o ≡ false) ↔ (map mark_modulo_2_64 (marks Side.Received (history number journal)) ≡ taken number)
  untaken-stands None at live = absurd (let none : false ≡ true = live in cc)
  untaken-stands (Some c) at live = untaken-at c at
