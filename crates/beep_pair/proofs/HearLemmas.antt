-- What an end that reads makes of a world: it finds no broken rule.
use Rattle.std.proofs.Common.{◌≡◌, ◌||◌, ◌&&◌, not, inl, inr, ℕ, ◌+◌, ◌≤◌, Bool, true, false, List, [], ◌∷◌, ◌++◌, take, drop, Option, None, Some, is_some, refl, sym, ap, ap₂, ◌∙◌, subst, arith, append_assoc, append-nil, length-take}
use Rattle.std.proofs.lemmas.List.{take-take, drop-take, take-append-drop}
use Rattle.beep_two_sessions.specs.beep_frame.specs.declared.head.Head.{Head}
use Rattle.beep_two_sessions.specs.beep_frame.specs.declared.rule.Rule.{Rule}
use Rattle.beep_two_sessions.specs.beep_frame.specs.Frame.{is_msg}
use Rattle.beep_two_sessions.specs.beep_history.specs.declared.journal.Side.{Side}
use Rattle.beep_two_sessions.specs.beep_history.specs.Journal.{Item}
use Rattle.beep_two_sessions.specs.beep_journal.specs.Zero.{zero_history, completes_form}
use Rattle.beep_two_sessions.specs.beep_standing.specs.Standing.{Marks}
use Rattle.beep_two_sessions.specs.beep_hearing.specs.Hears.{Breaks}
use Rattle.beep_two_sessions.specs.beep_hearing.specs.declared.stopped.Stopped.{Stopped}
use Rattle.beep_two_sessions.specs.beep_peer.specs.declared.peer.Peer.{Peer}
use Rattle.beep_two_sessions.specs.beep_peer.specs.Peering.{IsPeer, WaitsIn, is_over, zero_waits}
use Rattle.beep_two_sessions.specs.beep_session.specs.declared.event.Event.{Event}
use Rattle.beep_two_sessions.specs.beep_session.specs.Session.{Held}
use Rattle.beep_two_sessions.specs.beep_session.specs.Channels.{IsOfPeer}
use Rattle.beep_two_sessions.specs.beep_session.specs.Lawfully.{terms_of, FeedsLawfully}
use Rattle.beep_schedule.specs.declared.event.End.{End}
use Rattle.beep_two_sessions.specs.beep_peer.specs.Standing.{live_above}
use Rattle.beep_report.specs.beep_tally.specs.Accounts.{lives_noted}
use Rattle.beep_report.specs.beep_tally.specs.declared.account.Account.{Account}
use Rattle.beep_two_sessions.specs.End.{End as OneEnd, Doing, goes, waits, StandsAs, StandsSo, StandsUnbroken, Awaits}
use Rattle.beep_two_sessions.specs.Acts.{gets, settles, Does, GetsAs, HasGained, HasMessage}
use Rattle.beep_two_sessions.specs.World.{World as Two, Move, IsReached, first_of}
use Rattle.beep_two_sessions.specs.Still.{GreetsShortly}
use Rattle.beep_two_sessions.proofs.CallLemmas.{settles-step, feeds-step}
use Rattle.beep_two_sessions.proofs.MoveLemmas.{reached, linked-flips, breaks-never, reply-fine}
use Rattle.beep_pair.specs.Sessions.{Feeding, Settling, settles as settled_so, breaks, HearsOnce, quiet, message, Hears, begins as hears_none, goes as hears_more, Gets}
use Rattle.beep_pair.specs.Ends.{other_end}
use Rattle.beep_pair.specs.World.{World, end_of, wire_to, session_of, move_at, IsWorld}
use Rattle.beep_pair.specs.Steps.{GotAt, begins, fed, settled, is_broken, GetsStep}
use Rattle.beep_pair.specs.Totals.{view_of, AreOfLives}
use Rattle.beep_pair.proofs.ReadyLemmas.{quiet-peer}
use Rattle.beep_pair.proofs.DeedLemmas.{gets-lives, settled-noted}
use Rattle.beep_pair.proofs.WorldLemmas.{Made, made, reaches, going-on, stands-at, stands-so-at, greets-on, LivesAt, lives-at, lives-from, lives-next, books-at, empty-at, Led}

abbrev is_released : Event → Bool
is_released Event.More = false
is_released (Event.Arrived number) = false
is_released Event.Zero = false
is_released Event.Released = true
is_released (Event.Broken rule place) = false
is_released Event.NoMemory = false

-- ---- no rule is broken

never-breaks : (at : End) (moves : List Move) (two : Two) → IsReached moves two → (octets later : List ℕ) (rule : Rule) (place : ℕ) (session : Held)
    → wire_to at two ≡ octets ++ later
    → Breaks rule place (end_of at two).session.limits.window octets (end_of at two).fed (end_of at two).journal (end_of at two).given (end_of at two).taken session.peer.ear session.peer.lives
    → (end_of at two).doing ≡ goes → ⊥
never-breaks End.A moves two r octets later rule place session wire s e =
    let j = reached moves two r in
    breaks-never j.of_a j.of_b two.a two.b two.to_a two.to_b j.linked octets later wire rule place session s
never-breaks End.B moves two r octets later rule place session wire s e =
    let j = reached moves two r in
    breaks-never j.of_b j.of_a two.b two.a two.to_b two.to_a (linked-flips j.of_a j.of_b two.a two.b two.to_a two.to_b j.linked) octets later wire rule place session s

form-fine : (at : End) (moves : List Move) (two : Two) → IsReached moves two → (head : Head) (payload : List ℕ) → (end_of at two).doing ≡ waits head payload
    → is_msg head.kind ≡ false → completes_form Side.Received head payload (zero_history (end_of at two).journal) ≡ true
form-fine End.A moves two r head payload =
    let j = reached moves two r in
    reply-fine j.of_a j.of_b two.a two.b two.to_a two.to_b j.linked head payload
form-fine End.B moves two r head payload =
    let j = reached moves two r in
    reply-fine j.of_b j.of_a two.b two.a two.to_b two.to_a (linked-flips j.of_a j.of_b two.a two.b two.to_a two.to_b j.linked) head payload

-- ---- where an end has come by reading

pub record Heard (at : End) (first : Two) (octets later : List ℕ) (session : Held) (accounts : List Account) : Type 0 where
  pub next : Two
  pub is_world : IsWorld (record { two = next; accounts = accounts })
  pub got : GotAt at first octets next
  pub session_is : (end_of at next).session ≡ session
  pub other_is : end_of (other_end at) next ≡ end_of (other_end at) first
  pub to_is : wire_to at next ≡ later
  pub from_is : wire_to (other_end at) next ≡ wire_to (other_end at) first

-- octets that are fed leave the accounts
fed-lives : (at : End) (event : Event) (first : World) (octets : List ℕ) → IsWorld first → (new : OneEnd) → Does (gets octets event) (end_of at first.two) new
    → AreOfLives at (view_of new) (view_of (end_of (other_end at) first.two)) first.accounts
fed-lives at event first octets w new d =
    gets-lives at (end_of at first.two) new (view_of (end_of (other_end at) first.two)) first.accounts (empty-at (other_end at) w.moves first.two w.reached)
    (lives-at at first.two first.accounts w.lives) event octets d

-- one feed after which the end goes on
heard-by : (at : End) (event : Event) (first : World) (octets later : List ℕ) (new : OneEnd) (session : Held) (accounts : List Account) → IsWorld first
    → first.accounts ≡ accounts → wire_to at first.two ≡ octets ++ later → is_broken event ≡ false → Does (gets octets event) (end_of at first.two) new → new.session ≡ session → new.doing ≡ goes
    → Heard at first.two octets later session accounts
heard-by at event first octets later new session accounts w same wire fine d e g =
    let m = made at (gets octets event) first.two new later d wire in
    record {
      next = m.next;
      is_world = record {
        moves = move_at at (gets octets event) ∷ w.moves;
        reached = reaches at (gets octets event) w.moves first.two m.next w.reached m.does;
        going = going-on at first.two m.next m.does.other w.going (ap (λ (x : OneEnd). x.doing) m.end_is ∙ g);
        short = greets-on at (gets octets event) w.moves first.two m.next w.reached m.does w.short;
        lives = lives-from at m.next accounts (lives-next at (gets octets event) first.two m.next accounts m.does
            (subst (λ (xs : List Account). AreOfLives at (view_of (end_of at m.next)) (view_of (end_of (other_end at) first.two)) xs) same (fed-lives at event first octets w (end_of at m.next) m.does.does)));
      };
      got = fed [] octets event first.two m.next begins fine m.does;
      session_is = ap (λ (x : OneEnd). x.session) m.end_is ∙ e;
      other_is = m.does.other;
      to_is = m.wire_is;
      from_is = m.does.sent ∙ append-nil (wire_to (other_end at) first.two);
    }

no_way : true ≡ false → ⊥
no_way e = cc

both-false : (a b : Bool) → a ≡ false → b ≡ false → (a || b) ≡ false
both-false true b e f = absurd (let bad : true ≡ false = e in cc)
both-false false b e f = f

none-waits : (p : Peer) → p.released ≡ false → p.ear.broken ≡ None → (head : Head) → p.ear.waits ≡ Some head → zero_waits p ≡ true
none-waits p r b head w = of (is_over p) (is_some p.ear.waits) (both-false p.released (is_some p.ear.broken) r (ap (λ (o : Option Stopped). is_some o) b)) (ap (λ (o : Option Head). is_some o) w)
  where
    of : (x y : Bool) → x ≡ false → y ≡ true → (not x && y) ≡ true
    of true y e f = absurd (let bad : true ≡ false = e in cc)
    of false y e f = f

module _ (at : End) (first : World) (w : IsWorld first) (octets : List ℕ) (used : ℕ) (later : List ℕ) (wire : wire_to at first.two ≡ take used octets ++ later) where
  abbrev one : OneEnd
  one = end_of at first.two

  stands : StandsAs goes one
  stands = stands-so-at one (w.going at) (stands-at at w.moves first.two w.reached)

  not-waiting : zero_waits one.session.peer ≡ false
  not-waiting = quiet-peer one.session.limits.window one.fed one.rest one.journal one.given one.taken one.session.peer stands.stands

  not-over : one.session.peer.released ≡ false → is_over one.session.peer ≡ false
  not-over r = both-false one.session.peer.released (is_some one.session.peer.ear.broken) r (ap (λ (o : Option Stopped). is_some o) stands.stands.hears.going)

  -- a feed that used none of the octets
  none-used : (event : Event) (session : Held) (accounts : List Account) → first.accounts ≡ accounts → is_broken event ≡ false → is_over one.session.peer ≡ true → used ≡ 0 → session ≡ one.session
      → Heard at first.two (take used octets) later session accounts
  none-used event session accounts counted fine over none same =
      let nothing : take used octets ≡ [] = ap (λ (n : ℕ). take n octets) none in
      subst (λ (xs : List ℕ). Heard at first.two xs later session accounts) (sym nothing)
      (subst (λ (s : Held). Heard at first.two [] later s accounts) (sym same)
      (heard-by at event first [] later one one.session accounts w counted (wire ∙ ap (λ (xs : List ℕ). xs ++ later) nothing) fine
      (inl (record { busy = ap (λ (b : Bool). b || zero_waits one.session.peer) over; none = refl; still = refl })) refl (w.going at)))

  calm : (event : Event) (session : Held) → Feeding octets used event one.session session → one.session.peer.released ≡ false → is_broken event ≡ false
  calm Event.More session f r = refl
  calm (Event.Arrived number) session f r = refl
  calm Event.Zero session f r = refl
  calm Event.Released session f r = refl
  calm (Event.Broken rule place) session f r =
      absurd (never-breaks at w.moves first.two w.reached (take used octets) later rule place session wire (f.answers one.fed one.rest one.journal one.given one.taken r stands.stands) (w.going at))
  calm Event.NoMemory session f r = refl

  not-released : (event : Event) → is_released event ≡ false → event ≡ Event.Released → ⊥
  not-released event fine e = let bad : false ≡ true = sym fine ∙ ap is_released e in cc

  never : (event : Event) (rule : Rule) (place : ℕ) → is_broken event ≡ false → event ≡ Event.Broken rule place → ⊥
  never event rule place fine e = let bad : false ≡ true = sym fine ∙ ap is_broken e in cc

  -- what waits where no message does
  waits-not : (session : Held) → zero_waits session.peer ≡ false → session.peer.released ≡ false → (so_far : List ℕ) (journal : List Item) (given taken : Marks) (head : Head)
      (payload : List ℕ) (size : ℕ) → WaitsIn size so_far journal given taken head payload session.peer → ⊥
  waits-not session calm r so_far journal given taken head payload size x =
      let bad : true ≡ false = sym (none-waits session.peer r x.waits.going head x.waits.waiting) ∙ calm in cc

  -- a feed of which no message of channel zero waits
  went-on : (event : Event) (session : Held) (accounts : List Account) → first.accounts ≡ accounts → is_broken event ≡ false → is_released event ≡ false → IsOfPeer one.session session
      → FeedsLawfully event (terms_of one.session) (take used octets) one.fed one.journal one.given one.taken session.peer
      → ((new : OneEnd) → GetsAs event (take used octets) one new → new.doing ≡ goes) → Heard at first.two (take used octets) later session accounts
  went-on event session accounts counted fine on same f g =
      let l = feeds-step (take used octets) one session (w.going at) same event (λ rule place e. never event rule place fine e) (not-released event on) f in
      by l.0 l.1 l.2
    where
      by : (new : OneEnd) → new.session ≡ session → Does (gets (take used octets) event) one new → Heard at first.two (take used octets) later session accounts
      by new e (inl d) = heard-by at event first (take used octets) later new session accounts w counted wire fine (inl d) e (ap (λ (x : OneEnd). x.doing) d.still ∙ w.going at)
      by new e (inr d) = heard-by at event first (take used octets) later new session accounts w counted wire fine (inr d) e (g new d)

  goes-gained : (new : OneEnd) → HasGained (take used octets) one new → new.doing ≡ goes
  goes-gained new d = ap (λ (x : OneEnd). x.doing) d.new_is ∙ w.going at

  quiet-heard : (event : Event) (session : Held) (accounts : List Account) → first.accounts ≡ accounts → Feeding octets used event one.session session → zero_waits session.peer ≡ false
      → one.session.peer.released ≡ false → Heard at first.two (take used octets) later session accounts
  quiet-heard Event.More session accounts counted f q r =
      went-on Event.More session accounts counted refl refl f.same (f.lawful one.fed one.rest one.journal one.given one.taken r stands) goes-gained
  quiet-heard (Event.Arrived number) session accounts counted f q r =
      went-on (Event.Arrived number) session accounts counted refl refl f.same (f.lawful one.fed one.rest one.journal one.given one.taken r stands) goes-gained
  quiet-heard Event.Zero session accounts counted f q r =
      let z = f.answers one.fed one.rest one.journal one.given one.taken r stands.stands in
      absurd (waits-not session q (f.kept ∙ r) (one.fed ++ take used octets) (z.gained ++ one.journal) one.given z.taken_now z.head z.payload one.session.limits.window z.waits)
  quiet-heard Event.Released session accounts counted f q r = absurd (f.answers one.fed one.rest one.journal one.given one.taken r stands.stands)
  quiet-heard (Event.Broken rule place) session accounts counted f q r = absurd (no_way (calm (Event.Broken rule place) session f r))
  quiet-heard Event.NoMemory session accounts counted f q r =
      went-on Event.NoMemory session accounts counted refl refl f.same (f.lawful one.fed one.rest one.journal one.given one.taken r stands) goes-gained

  -- the message that came, settled
  settle-heard : (middle session : Held) (accounts : List Account) → accounts ≡ lives_noted at (live_above middle.peer) (live_above session.peer) first.accounts → Settling middle session → (new : OneEnd) → HasMessage (take used octets) one new → new.session ≡ middle
      → Heard at first.two (take used octets) later session accounts
  settle-heard middle session accounts counted s new d e =
      let fed_now = made at (gets (take used octets) Event.Zero) first.two new later (inr d) wire in
      let moves = move_at at (gets (take used octets) Event.Zero) ∷ w.moves in
      let r = reaches at (gets (take used octets) Event.Zero) w.moves first.two fed_now.next w.reached fed_now.does in
      let here = end_of at fed_now.next in
      let same : here.session ≡ middle = ap (λ (x : OneEnd). x.session) fed_now.end_is ∙ e in
      let waiting : here.doing ≡ waits d.zero.head d.zero.payload = ap (λ (x : OneEnd). x.doing) (fed_now.end_is ∙ d.new_is) in
      by moves fed_now r (greets-on at (gets (take used octets) Event.Zero) w.moves first.two fed_now.next w.reached fed_now.does w.short) same waiting (subst (λ (x : Held). Settling x session) (sym same) s)
    where
      by : (moves : List Move) (m : Made at (gets (take used octets) Event.Zero) first.two new later) (r : IsReached moves m.next)
          → ((x : End) → GreetsShortly (end_of x (first_of moves m.next r))) → (end_of at m.next).session ≡ middle
          → (end_of at m.next).doing ≡ waits d.zero.head d.zero.payload → Settling (end_of at m.next).session session → Heard at first.two (take used octets) later session accounts
      by moves m r g is e (settled_so all up same) =
          let here = end_of at m.next in
          let stood : StandsUnbroken here = stands-at at moves m.next r in
          let awaits : Awaits d.zero.head d.zero.payload here = subst (λ (x : Doing). StandsSo x here) e stood in
          let l = settles-step d.zero.head d.zero.payload here session e (subst (λ (x : Doing). StandsAs x here) (sym e) awaits)
          (all here.fed here.journal here.given here.taken d.zero.head d.zero.payload awaits.waits)
          (up here.fed here.journal here.given here.taken d.zero.head d.zero.payload awaits.waits awaits.upright) same in
          let k = made at settles m.next l.0 (wire_to at m.next) l.2 refl in
          let held : (end_of at k.next).session ≡ session = ap (λ (x : OneEnd). x.session) k.end_is ∙ l.1 in
          let before : LivesAt at m.next first.accounts =
          lives-next at (gets (take used octets) Event.Zero) first.two m.next first.accounts m.does (fed-lives at Event.Zero first (take used octets) w (end_of at m.next) m.does.does) in
          let after = settled-noted at here (end_of at k.next) (view_of (end_of (other_end at) m.next)) first.accounts (empty-at (other_end at) moves m.next r) before d.zero.head d.zero.payload awaits
          (books-at at moves m.next r) k.does.does (sym k.does.does.waiting ∙ e) in
          let lives : AreOfLives at (view_of (end_of at k.next)) (view_of (end_of (other_end at) m.next)) accounts =
          subst (λ (xs : List Account). AreOfLives at (view_of (end_of at k.next)) (view_of (end_of (other_end at) m.next)) xs) (sym counted)
          (subst (λ (x : Held). AreOfLives at (view_of (end_of at k.next)) (view_of (end_of (other_end at) m.next)) (lives_noted at (live_above x.peer) (live_above session.peer) first.accounts)) is
          (subst (λ (x : Held). AreOfLives at (view_of (end_of at k.next)) (view_of (end_of (other_end at) m.next)) (lives_noted at (live_above here.session.peer) (live_above x.peer) first.accounts)) held after)) in
          record {
            next = k.next;
            is_world = record {
              moves = move_at at settles ∷ moves;
              reached = reaches at settles moves m.next k.next r k.does;
              going = going-on at first.two k.next (k.does.other ∙ m.does.other) w.going (ap (λ (x : OneEnd). x.doing) (k.end_is ∙ l.2.new_is));
              short = greets-on at settles moves m.next k.next r k.does g;
              lives = lives-from at k.next accounts (lives-next at settles m.next k.next accounts k.does lives);
            };
            got = settled (take used octets) m.next k.next (fed [] (take used octets) Event.Zero first.two m.next begins refl m.does) k.does;
            session_is = ap (λ (x : OneEnd). x.session) k.end_is ∙ l.1;
            other_is = k.does.other ∙ m.does.other;
            to_is = k.wire_is ∙ m.wire_is;
            from_is = k.does.sent ∙ append-nil (wire_to (other_end at) m.next) ∙ m.does.sent ∙ append-nil (wire_to (other_end at) first.two);
          }
      by moves m r g is e (breaks rule place stop formless same) =
          let here = end_of at m.next in
          let stood : StandsUnbroken here = stands-at at moves m.next r in
          let awaits : Awaits d.zero.head d.zero.payload here = subst (λ (x : Doing). StandsSo x here) e stood in
          let bad = formless here.fed here.journal here.given here.taken d.zero.head d.zero.payload awaits.waits in
          let no : true ≡ false = sym (form-fine at moves m.next r d.zero.head d.zero.payload e bad.0) ∙ bad.1 in
          absurd (no_way no)

  standing-quiet : (session : Held) → (so_far rest : List ℕ) (journal : List Item) (given taken : Marks) (size : ℕ) → IsPeer size so_far rest journal given taken session.peer
      → zero_waits session.peer ≡ true → ⊥
  standing-quiet session so_far rest journal given taken size s met =
      let bad : true ≡ false = sym met ∙ quiet-peer size so_far rest journal given taken session.peer s in cc

  zero-heard : (event : Event) (middle session : Held) (accounts : List Account) → accounts ≡ lives_noted at (live_above middle.peer) (live_above session.peer) first.accounts → Feeding octets used event one.session middle → zero_waits middle.peer ≡ true
      → one.session.peer.released ≡ false → Settling middle session → Heard at first.two (take used octets) later session accounts
  zero-heard Event.More middle session accounts counted f met r s =
      let g = f.answers one.fed one.rest one.journal one.given one.taken r stands.stands in
      absurd (standing-quiet middle (one.fed ++ take used octets) g.gains.rest (g.gained ++ one.journal) one.given g.gains.taken_now one.session.limits.window g.gains.stands met)
  zero-heard (Event.Arrived number) middle session accounts counted f met r s =
      let g = f.lawful one.fed one.rest one.journal one.given one.taken r stands in
      absurd (standing-quiet middle (one.fed ++ take used octets) g.gains.rest (g.gained ++ one.journal) one.given g.gains.taken_now one.session.limits.window g.gains.stands met)
  zero-heard Event.Zero middle session accounts counted f met r s =
      let l = feeds-step (take used octets) one middle (w.going at) f.same Event.Zero (λ rule place e. never Event.Zero rule place refl e) (not-released Event.Zero refl)
      (f.lawful one.fed one.rest one.journal one.given one.taken r stands) in
      by l.0 l.1 l.2
    where
      by : (new : OneEnd) → new.session ≡ middle → Does (gets (take used octets) Event.Zero) one new → Heard at first.two (take used octets) later session accounts
      by new e (inl d) = let bad : true ≡ false = sym d.busy ∙ both-false (is_over one.session.peer) (zero_waits one.session.peer) (not-over r) not-waiting in absurd (no_way bad)
      by new e (inr d) = settle-heard middle session accounts counted s new d e
  zero-heard Event.Released middle session accounts counted f met r s = absurd (f.answers one.fed one.rest one.journal one.given one.taken r stands.stands)
  zero-heard (Event.Broken rule place) middle session accounts counted f met r s = let bad : true ≡ false = calm (Event.Broken rule place) middle f r in absurd (no_way bad)
  zero-heard Event.NoMemory middle session accounts counted f met r s =
      let g = f.answers one.fed one.rest one.journal one.given one.taken r stands.stands in
      absurd (standing-quiet middle (one.fed ++ take used octets) g.gains.rest (g.gained ++ one.journal) one.given g.gains.taken_now one.session.limits.window g.gains.stands met)

  over-released : one.session.peer.released ≡ true → is_over one.session.peer ≡ true
  over-released r = ap (λ (b : Bool). b || is_some one.session.peer.ear.broken) r

  pub once-heard : (on : Bool) (session : Held) (accounts noted : List Account) → first.accounts ≡ accounts → HearsOnce at octets used on one.session session accounts noted
      → Heard at first.two (take used octets) later session noted
  once-heard on session accounts noted counted (quiet n event s t a f q) = by one.session.peer.released refl
    where
      by : (b : Bool) → one.session.peer.released ≡ b → Heard at first.two (take used octets) later session noted
      by true r =
          let k = f.released r in
          none-used event session noted counted (ap is_broken k.1) (over-released r) k.0 k.2
      by false r = quiet-heard event session noted counted f q r
  once-heard on session accounts noted counted (message n event s middle t a b f met done) = by one.session.peer.released refl
    where
      by : (b : Bool) → one.session.peer.released ≡ b → Heard at first.two (take used octets) later session noted
      by true r =
          let bad : true ≡ false = sym met ∙ ap (λ (x : Held). zero_waits x.peer) (f.released r).2 ∙ not-waiting in absurd (no_way bad)
      by false r =
          zero-heard event middle session noted (done.accounts_are ∙ ap (λ (xs : List Account). lives_noted at (live_above middle.peer) (live_above session.peer) xs) (sym counted)) f met r done.settling

-- ---- one feed after another

got-joined : (at : End) (first middle last : Two) (one other : List ℕ) → GotAt at first one middle → GotAt at middle other last → GotAt at first (one ++ other) last
got-joined at first middle last one other g begins = subst (λ (xs : List ℕ). GotAt at first xs middle) (sym (append-nil one)) g
got-joined at first middle last one other g (fed octets more event old new before fine d) =
    subst (λ (xs : List ℕ). GotAt at first xs last) (append_assoc one octets more) (fed (one ++ octets) more event old new (got-joined at first middle old one octets g before) fine d)
got-joined at first middle last one other g (settled octets old new before d) = settled (one ++ other) old new (got-joined at first middle old one other g before) d

take-within : (n count : ℕ) (xs : List ℕ) → n ≤ count → take n (take count xs) ≡ take n xs
take-within n count xs h = take-take n count xs h

take-twice : (m n : ℕ) (xs : List ℕ) → take (m + n) xs ≡ take m xs ++ take n (drop m xs)
take-twice m n xs =
    sym (take-append-drop m (take (m + n) xs)) ∙ ap₂ (λ (a b : List ℕ). a ++ b) (take-within m (m + n) xs (omega arith)) (drop-take m n xs)

pub hears-heard : (at : End) (octets : List ℕ) (first : World) (old : Held) (accounts : List Account) (used : ℕ) (on : Bool) (session : Held) (noted : List Account) → IsWorld first
    → session_of at first ≡ old → first.accounts ≡ accounts → Hears at octets old accounts used on session noted → (later : List ℕ) → wire_to at first.two ≡ take used octets ++ later
    → Heard at first.two (take used octets) later session noted
hears-heard at octets first old accounts used on session noted w e a hears_none later wire = record {
  next = first.two;
  is_world = record {
    moves = w.moves;
    reached = w.reached;
    going = w.going;
    short = w.short;
    lives = subst (λ (xs : List Account). AreOfLives End.A (view_of first.two.a) (view_of first.two.b) xs) a w.lives;
  };
  got = begins;
  session_is = e;
  other_is = refl;
  to_is = wire;
  from_is = refl;
}
hears-heard at octets first old accounts used on session noted w e a (hears_more n more o s t b c before once) later wire =
    let rest = take more (drop n octets) in
    let parts = take-twice n more octets in
    let whole : wire_to at first.two ≡ take n octets ++ (rest ++ later) = wire ∙ ap (λ (xs : List ℕ). xs ++ later) parts ∙ append_assoc (take n octets) rest later in
    let so_far = hears-heard at octets first old accounts n true s b w e a before (rest ++ later) whole in
    let between : World = record { two = so_far.next; accounts = b } in
    let now : HearsOnce at (drop n octets) more o (session_of at between) t b c = subst (λ (x : Held). HearsOnce at (drop n octets) more o x t b c) (sym so_far.session_is) once in
    let then = once-heard at between so_far.is_world (drop n octets) more later so_far.to_is o t b c refl now in
    record {
      next = then.next;
      is_world = then.is_world;
      got = subst (λ (xs : List ℕ). GotAt at first.two xs then.next) (sym parts) (got-joined at first.two so_far.next then.next (take n octets) rest so_far.got then.got);
      session_is = then.session_is;
      other_is = then.other_is ∙ so_far.other_is;
      to_is = then.to_is;
      from_is = then.from_is ∙ so_far.from_is;
    }

-- ---- one step

pub get-world : (at : End) (count used : ℕ) (first : World) (session : Held) (noted : List Account) → IsWorld first
    → Gets at (take count (wire_to at first.two)) used (session_of at first) session first.accounts noted
    → Led at (GetsStep at count used) first session (drop used (wire_to at first.two)) (wire_to (other_end at) first.two) noted
get-world at count used first session noted w g =
    let wire = wire_to at first.two in
    let octets = take count wire in
    let same : take used octets ≡ take used wire = take-within used count wire (omega (arith, g.within, length-take count wire)) in
    let h = hears-heard at octets first (session_of at first) first.accounts used g.on session noted w refl refl g.hears (drop used wire)
    (sym (take-append-drop used wire) ∙ ap (λ (xs : List ℕ). xs ++ drop used wire) (sym same)) in
    record {
      last = record { two = h.next; accounts = noted };
      is_world = h.is_world;
      step = record {
        gets = subst (λ (x : Held). Gets at octets used (session_of at first) x first.accounts noted) (sym h.session_is) g;
        got = subst (λ (xs : List ℕ). GotAt at first.two xs h.next) same h.got;
        wire_is = h.to_is;
      };
      session_is = h.session_is;
      other_is = ap (λ (x : OneEnd). x.session) h.other_is;
      to_is = h.to_is;
      from_is = h.from_is;
      accounts_are = refl;
    }
