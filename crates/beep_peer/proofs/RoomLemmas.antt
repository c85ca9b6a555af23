-- Room in channel zero for the answers that wait.
use Rattle.std.proofs.Common.{◌≡◌, ℕ, ◌+◌, ◌<◌, ◌≤◌, ◌==◌, nat_lt, Bool, true, false, not, ◌&&◌, if◌then◌else◌, List, [], ◌∷◌, ◌++◌, length, Option, None, Some, refl, sym, ap, ◌∙◌, arith, subst, eqb-true, length-append}
use Rattle.std.specs.Prelude.{IfSome, IsSome}
use Rattle.std.proofs.lemmas.Bool.Decides.{nat_tests}
use Rattle.std.proofs.lemmas.List.{length-map}
use Rattle.beep_upright.specs.beep_mgmt.specs.Form.{Form, greeting, start, chosen, close, okay, fault}
use Rattle.beep_upright.specs.beep_channel.specs.Held.{Live}
use Rattle.beep_upright.specs.beep_lives.specs.Lives.{live_at, runs_of}
use Rattle.beep_upright.specs.beep_lives.specs.Edits.{Edits, KeepsHeld, UsesRoom}
use Rattle.beep_upright.specs.beep_asked.specs.Kept.{Kept}
use Rattle.beep_hearing.specs.Hears.{HasZeroRoom, KeepsZeroRoom}
use Rattle.beep_upright.specs.beep_management.specs.Managed.{Prepared, one_without, without, octets_prepared}
use Rattle.beep_upright.specs.beep_management.specs.Moved.{is_live_in, JoinsWhere, LeavesWhere, Does}
use Rattle.beep_upright.specs.beep_management.specs.Steps.{cleared_by, answers_after}
use Rattle.beep_peer.specs.Grants.{NamesAbove}
use Rattle.beep_peer.specs.Peering.{HasRoomFor}

-- ---- how much

-- room for no more than there is
pub room-less : (octets messages : ℕ) (fewer less : ℕ) (channels : List Live) → fewer ≤ octets → less ≤ messages → HasZeroRoom octets messages channels → HasZeroRoom fewer less channels
room-less octets messages fewer less channels few_octets few_messages h = record {
  channel = h.channel;
  at = h.at;
  octets_fit = omega (arith, few_octets, h.octets_fit);
  messages_fit = omega (arith, few_messages, h.messages_fit);
}

pub octets-last : (answers : List Prepared) (one : Prepared) → octets_prepared (answers ++ one ∷ []) ≡ octets_prepared answers + length one.octets
octets-last [] one = omega arith
octets-last (first ∷ answers) one = omega (arith, octets-last answers one)

-- for one more
pub room-last : (answers : List Prepared) (one : Prepared) (more : ℕ) (channels : List Live) → length one.octets ≡ more
    → HasZeroRoom (octets_prepared answers + more) (length answers + 1) channels → HasRoomFor (answers ++ one ∷ []) channels
room-last answers one more channels is h =
    room-less (octets_prepared answers + more) (length answers + 1) (octets_prepared (answers ++ one ∷ [])) (length (answers ++ one ∷ [])) channels
    (omega (arith, octets-last answers one, is)) (omega (arith, length-append answers (one ∷ []))) h

-- for the same
pub room-equal : (old now : List Prepared) (channels : List Live) → now ≡ old → HasRoomFor old channels → HasRoomFor now channels
room-equal old now channels same h = subst (λ (answers : List Prepared). HasRoomFor answers channels) (sym same) h

-- what they wait for takes none
octets-without : (number : ℕ) (answers : List Prepared) → octets_prepared (without number answers) ≡ octets_prepared answers
octets-without number [] = refl
octets-without number (first ∷ answers) = ap (λ (n : ℕ). length first.octets + n) (octets-without number answers)

room-without : (number : ℕ) (answers : List Prepared) (channels : List Live) → HasRoomFor answers channels → HasRoomFor (without number answers) channels
room-without number answers channels h =
    room-less (octets_prepared answers) (length answers) (octets_prepared (without number answers)) (length (without number answers)) channels
    (omega (arith, octets-without number answers)) (omega (arith, length-map answers (one_without number))) h

cleared : (said : Option Form) (names : Bool) (answers : List Prepared) (channels : List Live) → HasRoomFor answers channels → HasRoomFor (cleared_by said names answers) channels
cleared None names answers channels h = h
cleared (Some (greeting features localize profiles)) names answers channels h = h
cleared (Some (start number server profiles)) names answers channels h = h
cleared (Some (chosen profile)) names answers channels h = h
cleared (Some (close number code note)) true answers channels h = room-without number answers channels h
cleared (Some (close number code note)) false answers channels h = h
cleared (Some okay) names answers channels h = h
cleared (Some (fault code note)) names answers channels h = h

pub room-cleared : (one : Kept) (answers : List Prepared) (channels : List Live) → HasRoomFor answers channels → HasRoomFor (answers_after one answers) channels
room-cleared one answers channels h = cleared one.said one.names answers channels h

-- ---- channels above zero

zero-joins : (b : Bool) (size number : ℕ) (channel : Live) (old new : List Live) → JoinsWhere b size number channel old new → live_at 0 new ≡ live_at 0 old
zero-joins true size number channel old new j =
    j.1.at 0 ∙ ap (λ (b : Bool). if b then Some channel else live_at 0 old) (ap (λ (n : ℕ). n == 0) j.0.is ∙ j.0.above)
zero-joins false size number channel old new same = ap (live_at 0) same

zero-leaves : (b : Bool) (number : ℕ) (old new : List Live) → (b ≡ true → 0 < number) → LeavesWhere b number old new → live_at 0 new ≡ live_at 0 old
zero-leaves true number old new above l = l.at 0 ∙ ap (λ (b : Bool). if b then None else live_at 0 old) apart
  where
    apart : (number == 0) ≡ false
    apart = let positive : 0 < number = above refl in grind (arith, nat_tests)
zero-leaves false number old new above same = ap (live_at 0) same

zero-done : (size : ℕ) (said : Option Form) (names : Bool) (channel : Live) (old new : List Live) → NamesAbove said names → Does size said names channel old new
    → live_at 0 new ≡ live_at 0 old
zero-done size None names channel old new above same = ap (live_at 0) same
zero-done size (Some (greeting features localize profiles)) names channel old new above same = ap (live_at 0) same
zero-done size (Some (start number server profiles)) names channel old new above joins =
    zero-joins (nat_lt 0 number && not (is_live_in old number)) size number channel old new joins
zero-done size (Some (chosen profile)) names channel old new above same = ap (live_at 0) same
zero-done size (Some (close number code note)) names channel old new above leaves = zero-leaves names number old new above leaves
zero-done size (Some okay) names channel old new above same = ap (live_at 0) same
zero-done size (Some (fault code note)) names channel old new above same = ap (live_at 0) same

-- what was granted leaves channel zero
pub room-done : (size : ℕ) (said : Option Form) (names : Bool) (channel : Live) (old new : List Live) → NamesAbove said names → Does size said names channel old new
    → KeepsZeroRoom old new
room-done size said names channel old new above does octets messages h = record {
  channel = h.channel;
  at = zero-done size said names channel old new above does ∙ h.at;
  octets_fit = h.octets_fit;
  messages_fit = h.messages_fit;
}

-- ---- made and used

-- room that was made
pub room-made : (octets messages : ℕ) (old new : List Live) → Edits 0 KeepsHeld old new
    → IfSome (live_at 0 new) (λ channel. (octets ≤ channel.octets) × (messages ≤ channel.messages)) → HasZeroRoom octets messages new
room-made octets messages old new e fits = of (live_at 0 new) refl fits
  where
    of : (o : Option Live) → live_at 0 new ≡ o → IfSome o (λ channel. (octets ≤ channel.octets) × (messages ≤ channel.messages)) → HasZeroRoom octets messages new
    of None at f = absurd (let none : None ≡ Some e.after = sym at ∙ e.at 0 in cc)
    of (Some c) at f = record { channel = c; at = at; octets_fit = f.0; messages_fit = f.1 }

-- a message was given
pub room-used : (used octets messages : ℕ) (old new : List Live) → Edits 0 (UsesRoom used) old new → HasZeroRoom (octets + used) (messages + 1) old
    → HasZeroRoom octets messages new
room-used used octets messages old new e h =
    let one : h.channel ≡ e.before = same-some h.channel e.before (sym h.at ∙ e.was) in
    record {
      channel = e.after;
      at = e.at 0;
      octets_fit = omega (arith, h.octets_fit, ap (λ (c : Live). c.octets) one, e.step.used.octets_left);
      messages_fit = omega (arith, h.messages_fit, ap (λ (c : Live). c.messages) one, e.step.used.messages_left);
    }
  where
    same-some : (a b : Live) → Some a ≡ Some b → a ≡ b
    same-some a b same = cc

-- the first of the answers was
pub room-first : (first : Prepared) (answers rest : List Prepared) (old new : List Live) → answers ≡ first ∷ rest → Edits 0 (UsesRoom (length first.octets)) old new
    → HasRoomFor answers old → HasRoomFor rest new
room-first first answers rest old new split e h =
    room-used (length first.octets) (octets_prepared rest) (length rest) old new e
    (room-less (octets_prepared answers) (length answers) (octets_prepared rest + length first.octets) (length rest + 1) old
    (omega (arith, ap octets_prepared split)) (omega (arith, ap (λ (l : List Prepared). length l) split)) h)

-- room for what arrives
pub runs-stay : (old new : Option Live) → runs_of new ≡ runs_of old → IfSome old (λ channel. 0 < channel.runs) → IfSome new (λ channel. 0 < channel.runs)
runs-stay None None same some = tt
runs-stay None (Some c) same some = absurd (let none : Some c.runs ≡ None = same in cc)
runs-stay (Some b) None same some = tt
runs-stay (Some b) (Some c) same some = let is : c.runs ≡ b.runs = cc in omega (arith, is, some)

-- nothing was made
pub keeps-itself : (channels : List Live) → IsSome (live_at 0 channels) → Edits 0 KeepsHeld channels channels
keeps-itself channels some = of (live_at 0 channels) refl some
  where
    of : (o : Option Live) → live_at 0 channels ≡ o → IsSome o → Edits 0 KeepsHeld channels channels
    of None at none = absurd (cc none)
    of (Some c) at none = record {
      before = c;
      was = at;
      after = c;
      step = record { held = refl; keeps = record { octets_left = omega arith; messages_left = omega arith } };
      at = λ n. by n (0 == n) refl;
      order = refl;
    }
      where
        by : (n : ℕ) (b : Bool) → (0 == n) ≡ b → live_at n channels ≡ (if b then Some c else live_at n channels)
        by n true same = ap (λ (k : ℕ). live_at k channels) (sym (eqb-true 0 n same)) ∙ at
        by n false apart = refl
