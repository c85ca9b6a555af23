-- What arrived in channel zero is taken until nothing is left, and the other channels stay.
use Rattle.std.proofs.Common.{◌≡◌, ℕ, Bool, true, false, if◌then◌else◌, List, [], ◌++◌, Option, None, Some, refl, sym, ap, subst, ◌∙◌, arith}
use Rattle.std.specs.Prelude.{is_some, IfSome, IsSome}
use Rattle.beep_standing.specs.beep_frame.specs.declared.head.Head.{Head}
use Rattle.beep_standing.specs.beep_history.specs.Journal.{Item}
use Rattle.beep_standing.specs.beep_journal.specs.Zero.{zero_history}
use Rattle.beep_standing.specs.beep_journal.proofs.MomentLemmas.{same-number}
use Rattle.beep_standing.specs.beep_inbox.specs.declared.part.Part.{Part}
use Rattle.beep_standing.specs.beep_inbox.specs.Laws.{part_marks}
use Rattle.beep_standing.specs.beep_channel.specs.Held.{Live, HasRoomOut}
use Rattle.beep_standing.specs.beep_lives.specs.Lives.{live_at}
use Rattle.beep_standing.specs.beep_lives.specs.Edits.{Edits, EditsWhere, Arrives, Takes}
use Rattle.beep_standing.specs.Standing.{Marks, with_marks, AreLive}
use Rattle.beep_standing.proofs.SendLemmas.{taken-joins, with-other}
use Rattle.beep_standing.proofs.DueLemmas.{untaken-of}
use Rattle.beep_hearing.specs.Hears.{Passes, KeepsOthers}
use Rattle.beep_hearing.specs.Left.{Drops}

pub drops-none : (size : ℕ) (earlier journal : List Item) (given taken : Marks) (channels : List Live) → AreLive size earlier journal given taken channels → Drops size earlier journal given taken channels
drops-none size earlier journal given taken channels s = record { taken_now = taken; same = λ n above. refl; live = s }

pub drops-more : (size : ℕ) (earlier journal : List Item) (given taken : Marks) (old new : List Live) (part : Part) (before after : List ℕ)
    → Drops size earlier journal given taken old → Edits 0 (Takes part before after) old new → Drops size earlier journal given taken new
drops-more size earlier journal given taken old new part before after d e = record {
  taken_now = with_marks 0 (d.taken_now 0 ++ part_marks part after) d.taken_now;
  same = λ n above. with-other 0 n (d.taken_now 0 ++ part_marks part after) d.taken_now above ∙ d.same n above;
  live = taken-joins size 0 earlier journal given d.taken_now old new d.live part before after e;
}

pub dropped : (size : ℕ) (earlier journal : List Item) (given taken : Marks) (channels : List Live) → Drops size earlier journal given taken channels
    → IfSome (live_at 0 channels) (λ channel. channel.held.inbox ≡ []) → Passes size earlier journal given taken channels
dropped size earlier journal given taken channels d empty = of (live_at 0 channels) refl empty
  where
    of : (o : Option Live) → live_at 0 channels ≡ o → IfSome o (λ channel. channel.held.inbox ≡ []) → Passes size earlier journal given taken channels
    of None at none = absurd (cc (d.live.there 0 ∙ ap (λ (o : Option Live). is_some o) at))
    of (Some c) at none = record {
      taken_now = d.taken_now;
      same = d.same;
      zero = sym ((untaken-of size c.held (zero_history journal) (given 0) (d.taken_now 0) (d.live.zero c at)).0 none);
      live = d.live;
    }

pub zero-stays : (old new : List Live) (part : Part) (before after : List ℕ) → Edits 0 (Takes part before after) old new → IsSome (live_at 0 new)
zero-stays old new part before after e = ap (λ (o : Option Live). is_some o) (e.at 0)

-- ---- the other channels stay

pub keeps-none : (number : ℕ) (channels : List Live) → KeepsOthers number channels channels
keeps-none number channels = record {
  order = refl;
  others = λ n apart. refl;
  room = λ before was. (before, was, record { octets_left = omega arith; messages_left = omega arith });
}

same-live : (a b : Live) → Some a ≡ Some b → a ≡ b
same-live a b e = cc

pub keeps-edit : (number : ℕ) (Step : Live → Live → Type 0) (old new : List Live) → ((b a : Live) → Step b a → HasRoomOut b a 0 0) → Edits number Step old new → KeepsOthers number old new
keeps-edit number Step old new keeps e = record {
  order = e.order;
  others = λ n apart. e.at n ∙ ap (λ (b : Bool). if b then Some e.after else live_at n old) apart;
  room = λ before was. (
    e.after,
    e.at number ∙ ap (λ (b : Bool). if b then Some e.after else live_at number old) (same-number number),
    subst (λ (b : Live). HasRoomOut b e.after 0 0) (same-live e.before before (sym e.was ∙ was)) (keeps e.before e.after e.step),
  );
}

room-both : (a b c : Live) → HasRoomOut a b 0 0 → HasRoomOut b c 0 0 → HasRoomOut a c 0 0
room-both a b c one two = record {
  octets_left = omega (arith, one.octets_left, two.octets_left);
  messages_left = omega (arith, one.messages_left, two.messages_left);
}

pub keeps-both : (number : ℕ) (old mid new : List Live) → KeepsOthers number old mid → KeepsOthers number mid new → KeepsOthers number old new
keeps-both number old mid new one two = record {
  order = two.order ∙ one.order;
  others = λ n apart. two.others n apart ∙ one.others n apart;
  room = λ before was.
      let m = one.room before was in
      let n = two.room m.0 m.1 in
      (n.0, n.1, room-both before m.0 n.0 m.2 n.2);
}

pub keeps-arrived : (b : Bool) (number : ℕ) (head : Head) (payload : List ℕ) (old new : List Live) → EditsWhere b number (Arrives head payload) old new → KeepsOthers number old new
keeps-arrived true number head payload old new e = keeps-edit number (Arrives head payload) old new (λ b a s. s.keeps) e
keeps-arrived false number head payload old new same = subst (λ (ls : List Live). KeepsOthers number old ls) (sym same) (keeps-none number old)

pub keeps-taken : (part : Part) (before after : List ℕ) (old new : List Live) → Edits 0 (Takes part before after) old new → KeepsOthers 0 old new
keeps-taken part before after old new e = keeps-edit 0 (Takes part before after) old new (λ b a s. s.keeps) e
