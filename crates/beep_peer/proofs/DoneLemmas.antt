-- A message of channel zero that came is done: what was given and taken, and what it leaves.
use Rattle.std.proofs.Common.{◌≡◌, ℕ, ◌==◌, ◌||◌, Bool, true, false, List, [], ◌∷◌, length, refl, sym, ap, ◌∙◌, arith}
use Rattle.std.proofs.Math.Bool.{or_comm}
use Rattle.std.proofs.lemmas.Bool.Decides.{nat_tests}
use Rattle.std.proofs.lemmas.List.{length-map}
use Rattle.beep_upright.specs.beep_frame.specs.declared.head.Head.{Head}
use Rattle.beep_upright.specs.beep_history.specs.declared.journal.Side.{Side}
use Rattle.beep_upright.specs.beep_history.specs.Journal.{Item, passed}
use Rattle.beep_upright.specs.beep_journal.specs.Lives.{is_live}
use Rattle.beep_upright.specs.beep_journal.specs.Zero.{events}
use Rattle.beep_upright.specs.beep_journal.specs.Life.{is_there, is_released}
use Rattle.beep_upright.specs.beep_channel.specs.Held.{Live}
use Rattle.beep_upright.specs.beep_lives.specs.Lives.{numbers}
use Rattle.beep_upright.specs.beep_standing.specs.Standing.{Marks}
use Rattle.beep_hearing.specs.Hears.{Hears, SameAbove}
use Rattle.beep_upright.specs.beep_management.specs.Managed.{Prepared, Managed}
use Rattle.beep_peer.specs.declared.peer.Peer.{Peer}
use Rattle.beep_peer.specs.Peering.{WaitsIn, Carries}
use Rattle.beep_peer.specs.Calls.{AreLeft, LetsGo, IsDone, Settles}
use Rattle.beep_peer.specs.Waiting.{AreLetGo, KeepsAbove}
use Rattle.beep_peer.proofs.LetLemmas.{gives-first}

-- what is given or taken more in channel zero alone carries what was carried
pub carries-on : (before after : List Item) (old mid new : Marks) → Carries before after old mid → SameAbove mid new → Carries before after old new
carries-on before after old mid new c same = record {
  same = λ n above there. same n (apart n above) ∙ c.same n above there;
  fresh = λ n none there. same n (apart n (above-of n none)) ∙ c.fresh n none there;
}
  where
    apart : (n : ℕ) → (n == 0) ≡ false → (0 == n) ≡ false
    apart n above = grind (arith, nat_tests)

    above-of : (n : ℕ) → is_there n before ≡ false → (n == 0) ≡ false
    above-of n none = of (n == 0) (is_live n (events before)) none
      where
        of : (b c : Bool) → (b || c) ≡ false → b ≡ false
        of true c e = cc
        of false c e = refl

-- as many channels as before
pub same-count : (old new : List Live) → numbers new ≡ numbers old → length new ≡ length old
same-count old new order =
    sym (length-map new (λ channel. channel.held.number)) ∙ ap length order ∙ length-map old (λ channel. channel.held.number)

-- what was taken of channel zero alone, before what the message says was done
pub carries-from : (before after : List Item) (old mid new : Marks) → SameAbove old mid → Carries before after mid new → Carries before after old new
carries-from before after old mid new same c = record { same = λ n above there. c.same n above there ∙ same n (apart n above); fresh = c.fresh }
  where
    apart : (n : ℕ) → (n == 0) ≡ false → (0 == n) ≡ false
    apart n above = grind (arith, nat_tests)

-- it is done, and what may go of the answers has gone
abbrev pub done-settles : (size : ℕ) (fed : List ℕ) (journal : List Item) (given taken : Marks) (head : Head) (payload : List ℕ) (peer : Peer)
    → WaitsIn size fed journal given taken head payload peer → (channels : List Live) (m : Managed) (released : Bool)
    → (d : IsDone size journal (passed Side.Received head payload ∷ journal) given taken released channels m)
    → (after : Peer) → Hears fed [] (passed Side.Received head payload ∷ journal) after.ear → after.released ≡ (peer.released || released)
    → (answers : List Prepared) → AreLeft channels answers m.answers
    → LetsGo size (passed Side.Received head payload ∷ journal) d.given_now d.taken_now m.answers after.lives after.management
    → AreLetGo channels m after.management → KeepsAbove channels after.lives
    → Settles size fed journal given taken head payload after
done-settles size fed journal given taken head payload peer w channels m released d after hears is answers same g a k = record {
  answers = answers;
  given_now = g.given_now;
  gives = gives-first size (passed Side.Received head payload ∷ journal) d.given_now d.taken_now given channels m answers after d.zero_is same g a k;
  taken_now = d.taken_now;
  given_is = carries-on journal (passed Side.Received head payload ∷ journal) given d.given_now g.given_now d.given_is g.same;
  taken_is = d.taken_is;
  stands = record {
    hears = hears;
    holds = g.holds;
    released = is ∙ ap (λ (b : Bool). b || released) w.released ∙ or_comm (is_released journal) released ∙ sym d.releases;
  };
}
