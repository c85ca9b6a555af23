-- What channel zero had room for it has room for still.
use Rattle.std.proofs.Common.{◌≡◌, ℕ, ◌==◌, Bool, true, false, if◌then◌else◌, List, Some, refl, sym, ap, ◌∙◌, arith, eqb-true}
use Rattle.beep_standing.specs.beep_channel.specs.Held.{Live, HasRoomOut}
use Rattle.beep_standing.specs.beep_lives.specs.Lives.{live_at}
use Rattle.beep_standing.specs.beep_lives.specs.Edits.{Edits, EditsWhere}
use Rattle.beep_hearing.specs.Hears.{KeepsOthers, HasZeroRoom, KeepsZeroRoom}

pub room-same : (old new : List Live) → new ≡ old → KeepsZeroRoom old new
room-same old new same octets messages h = record {
  channel = h.channel;
  at = ap (live_at 0) same ∙ h.at;
  octets_fit = h.octets_fit;
  messages_fit = h.messages_fit;
}

pub room-then : (old mid new : List Live) → KeepsZeroRoom old mid → KeepsZeroRoom mid new → KeepsZeroRoom old new
room-then old mid new one two octets messages h = two octets messages (one octets messages h)

-- a channel for another that is the same, with no less room
room-by : (octets messages : ℕ) (old new : List Live) (h : HasZeroRoom octets messages old) (before after : Live) → Some h.channel ≡ Some before
    → live_at 0 new ≡ Some after → HasRoomOut before after 0 0 → HasZeroRoom octets messages new
room-by octets messages old new h before after was at r =
    let one : h.channel ≡ before = cc in
    record {
      channel = after;
      at = at;
      octets_fit = omega (arith, h.octets_fit, ap (λ (c : Live). c.octets) one, r.octets_left);
      messages_fit = omega (arith, h.messages_fit, ap (λ (c : Live). c.messages) one, r.messages_left);
    }

-- one step of a channel that uses no room
pub room-edit : (number : ℕ) (Step : Live → Live → Type 0) (old new : List Live) → ((b a : Live) → Step b a → HasRoomOut b a 0 0) → Edits number Step old new → KeepsZeroRoom old new
room-edit number Step old new keeps e octets messages h = of (number == 0) refl
  where
    of : (b : Bool) → (number == 0) ≡ b → HasZeroRoom octets messages new
    of true same =
        let is : number ≡ 0 = eqb-true number 0 same in
        room-by octets messages old new h e.before e.after (sym h.at ∙ ap (λ (n : ℕ). live_at n old) (sym is) ∙ e.was)
        (e.at 0 ∙ ap (λ (b : Bool). if b then Some e.after else live_at 0 old) same) (keeps e.before e.after e.step)
    of false apart = record {
      channel = h.channel;
      at = e.at 0 ∙ ap (λ (b : Bool). if b then Some e.after else live_at 0 old) apart ∙ h.at;
      octets_fit = h.octets_fit;
      messages_fit = h.messages_fit;
    }

pub room-where : (made : Bool) (number : ℕ) (Step : Live → Live → Type 0) (old new : List Live) → ((b a : Live) → Step b a → HasRoomOut b a 0 0)
    → EditsWhere made number Step old new → KeepsZeroRoom old new
room-where true number Step old new keeps e = room-edit number Step old new keeps e
room-where false number Step old new keeps same = room-same old new same

pub room-others : (number : ℕ) (old new : List Live) → KeepsOthers number old new → KeepsZeroRoom old new
room-others number old new k octets messages h = of (number == 0) refl
  where
    of : (b : Bool) → (number == 0) ≡ b → HasZeroRoom octets messages new
    of true same =
        let is : number ≡ 0 = eqb-true number 0 same in
        let r = k.room h.channel (ap (λ (n : ℕ). live_at n old) is ∙ h.at) in
        room-by octets messages old new h h.channel r.0 refl (ap (λ (n : ℕ). live_at n new) (sym is) ∙ r.1) r.2
    of false apart = record {
      channel = h.channel;
      at = k.others 0 apart ∙ h.at;
      octets_fit = h.octets_fit;
      messages_fit = h.messages_fit;
    }
