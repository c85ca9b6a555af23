-- What a deed of one end makes of a world.
use Rattle.std.proofs.Common.{◌≡◌, ℕ, List, ◌∷◌, ◌++◌, refl, sym, ap, ◌∙◌, subst}
use Rattle.beep_two_sessions.specs.beep_upright.specs.Frames.{AreFrames}
use Rattle.beep_two_sessions.specs.beep_session.specs.Session.{Held}
use Rattle.beep_schedule.specs.declared.event.End.{End}
use Rattle.beep_report.specs.beep_tally.specs.declared.account.Account.{Account}
use Rattle.beep_two_sessions.specs.End.{End as OneEnd, Doing, goes, StandsAs, StandsSo, StandsUnbroken}
use Rattle.beep_two_sessions.specs.Acts.{Act as Deed, used_by, sent_by, Does, LeadsTo}
use Rattle.beep_two_sessions.specs.World.{World as Two, Move, IsReached, first_of}
use Rattle.beep_two_sessions.specs.Still.{GreetsShortly}
use Rattle.beep_two_sessions.proofs.BookLemmas.{BookedEnd, books}
use Rattle.beep_two_sessions.proofs.MoveLemmas.{stands-a, stands-b}
use Rattle.beep_two_sessions.proofs.FramedLemmas.{frames-at-a, frames-at-b}
use Rattle.beep_pair.specs.Sessions.{Sessions}
use Rattle.beep_pair.specs.Totals.{view_of, AreOfLives}
use Rattle.beep_pair.proofs.NotedLemmas.{IsEmptyView, turned-lives, back-lives}
use Rattle.beep_pair.proofs.DeedLemmas.{empty-view}
use Rattle.beep_pair.specs.Ends.{other_end}
use Rattle.beep_pair.specs.World.{World, kept_of, end_of, wire_to, session_of, move_at, DoesAt, IsWorld, Leading}

-- ---- what holds at each end

pub stands-at : (at : End) (moves : List Move) (two : Two) → IsReached moves two → StandsUnbroken (end_of at two)
stands-at End.A moves two r = stands-a moves two r
stands-at End.B moves two r = stands-b moves two r

pub frames-at : (at : End) (moves : List Move) (two : Two) → IsReached moves two → AreFrames (end_of at two).journal
frames-at End.A moves two r = frames-at-a moves two r
frames-at End.B moves two r = frames-at-b moves two r

pub stands-so-at : (one : OneEnd) → one.doing ≡ goes → StandsUnbroken one → StandsAs goes one
stands-so-at one e s = subst (λ (d : Doing). StandsSo d one) e s

pub stands-now : (at : End) (world : World) → IsWorld world → StandsAs goes (end_of at world.two)
stands-now at world w = stands-so-at (end_of at world.two) (w.going at) (stands-at at w.moves world.two w.reached)

-- ---- a deed

-- a deed of an end makes a world of this one
pub record Made (at : End) (deed : Deed) (two : Two) (new : OneEnd) (later : List ℕ) : Type 0 where
  pub next : Two
  pub does : DoesAt at deed two next
  pub end_is : end_of at next ≡ new
  pub wire_is : wire_to at next ≡ later

pub made : (at : End) (deed : Deed) (two : Two) (new : OneEnd) (later : List ℕ) → Does deed (end_of at two) new → wire_to at two ≡ used_by deed ++ later
    → Made at deed two new later
made End.A deed two new later d w = record {
  next = record { a = new; b = two.b; to_a = later; to_b = two.to_b ++ sent_by deed };
  does = record { does = d; other = refl; used = w; sent = refl };
  end_is = refl;
  wire_is = refl;
}
made End.B deed two new later d w = record {
  next = record { a = two.a; b = new; to_a = two.to_a ++ sent_by deed; to_b = later };
  does = record { does = d; other = refl; used = w; sent = refl };
  end_is = refl;
  wire_is = refl;
}

pub reaches : (at : End) (deed : Deed) (moves : List Move) (two next : Two) → IsReached moves two → DoesAt at deed two next → IsReached (move_at at deed ∷ moves) next
reaches End.A deed moves two next r s = (two, s.does, s.other, s.used, s.sent, r)
reaches End.B deed moves two next r s = (two, s.does, s.other, s.used, s.sent, r)

pub going-on : (at : End) (two next : Two) → end_of (other_end at) next ≡ end_of (other_end at) two → ((e : End) → (end_of e two).doing ≡ goes)
    → (end_of at next).doing ≡ goes → (e : End) → (end_of e next).doing ≡ goes
going-on End.A two next s g h End.A = h
going-on End.A two next s g h End.B = ap (λ (one : OneEnd). one.doing) s ∙ g End.B
going-on End.B two next s g h End.A = ap (λ (one : OneEnd). one.doing) s ∙ g End.A
going-on End.B two next s g h End.B = h

-- the two new sessions stay
first-stays : (at : End) (deed : Deed) (moves : List Move) (two next : Two) (r : IsReached moves two) (s : DoesAt at deed two next)
    → first_of (move_at at deed ∷ moves) next (reaches at deed moves two next r s) ≡ first_of moves two r
unfolding reaches
first-stays End.A deed moves two next r s = refl
first-stays End.B deed moves two next r s = refl

pub greets-on : (at : End) (deed : Deed) (moves : List Move) (two next : Two) (r : IsReached moves two) (s : DoesAt at deed two next)
    → ((e : End) → GreetsShortly (end_of e (first_of moves two r))) → (e : End) → GreetsShortly (end_of e (first_of (move_at at deed ∷ moves) next (reaches at deed moves two next r s)))
greets-on at deed moves two next r s g e = subst (λ (x : Two). GreetsShortly (end_of e x)) (sym (first-stays at deed moves two next r s)) (g e)

-- ---- the accounts of all lives, as an end has them

abbrev pub LivesAt : End → Two → List Account → Type 0
LivesAt at two accounts = AreOfLives at (view_of (end_of at two)) (view_of (end_of (other_end at) two)) accounts

pub lives-at : (at : End) (two : Two) (accounts : List Account) → AreOfLives End.A (view_of two.a) (view_of two.b) accounts → LivesAt at two accounts
lives-at End.A two accounts l = l
lives-at End.B two accounts l = turned-lives (view_of two.a) (view_of two.b) accounts l

pub lives-from : (at : End) (two : Two) (accounts : List Account) → LivesAt at two accounts → AreOfLives End.A (view_of two.a) (view_of two.b) accounts
lives-from End.A two accounts l = l
lives-from End.B two accounts l = back-lives (view_of two.a) (view_of two.b) accounts l

-- the other end stays
pub lives-next : (at : End) (deed : Deed) (two next : Two) (accounts : List Account) → DoesAt at deed two next
    → AreOfLives at (view_of (end_of at next)) (view_of (end_of (other_end at) two)) accounts → LivesAt at next accounts
lives-next at deed two next accounts d l = subst (λ (x : OneEnd). AreOfLives at (view_of (end_of at next)) (view_of x) accounts) (sym d.other) l

pub books-at : (at : End) (moves : List Move) (two : Two) → IsReached moves two → BookedEnd (end_of at two)
books-at End.A moves two r = (books moves two r).0
books-at End.B moves two r = (books moves two r).1

pub empty-at : (at : End) (moves : List Move) (two : Two) → IsReached moves two → IsEmptyView (view_of (end_of at two))
empty-at at moves two r = empty-view (end_of at two) (books-at at moves two r)

-- ---- what a step of an end leads to

pub record Led (at : End) (Step : World → World → Type 0) (first : World) (session : Held) (to from : List ℕ) (accounts : List Account) : Type 0 where
  pub last : World
  pub is_world : IsWorld last
  pub step : Step first last
  pub session_is : session_of at last ≡ session
  pub other_is : session_of (other_end at) last ≡ session_of (other_end at) first
  pub to_is : wire_to at last.two ≡ to
  pub from_is : wire_to (other_end at) last.two ≡ from
  pub accounts_are : last.accounts ≡ accounts

-- one deed after which the end goes on
pub led-by : (at : End) (deed : Deed) (Step : World → World → Type 0) (first : World) (session : Held) (later : List ℕ) (accounts : List Account) → IsWorld first
    → LeadsTo deed (end_of at first.two) session → wire_to at first.two ≡ used_by deed ++ later
    → ((new : OneEnd) → Does deed (end_of at first.two) new → new.doing ≡ goes)
    → ((next : Two) → DoesAt at deed first.two next → (end_of at next).session ≡ session → wire_to at next ≡ later → Step first (record { two = next; accounts = accounts }))
    → ((new : OneEnd) → Does deed (end_of at first.two) new → new.session ≡ session → AreOfLives at (view_of new) (view_of (end_of (other_end at) first.two)) accounts)
    → Led at Step first session later (wire_to (other_end at) first.two ++ sent_by deed) accounts
led-by at deed Step first session later accounts w l wire going step tally =
    let m = made at deed first.two l.0 later l.2 wire in
    let e : (end_of at m.next).session ≡ session = ap (λ (one : OneEnd). one.session) m.end_is ∙ l.1 in
    record {
      last = record { two = m.next; accounts = accounts };
      is_world = record {
        moves = move_at at deed ∷ w.moves;
        reached = reaches at deed w.moves first.two m.next w.reached m.does;
        going = going-on at first.two m.next m.does.other w.going (ap (λ (one : OneEnd). one.doing) m.end_is ∙ going l.0 l.2);
        short = greets-on at deed w.moves first.two m.next w.reached m.does w.short;
        lives = lives-from at m.next accounts (lives-next at deed first.two m.next accounts m.does (tally (end_of at m.next) m.does.does e));
      };
      step = step m.next m.does e m.wire_is;
      session_is = e;
      other_is = ap (λ (one : OneEnd). one.session) m.does.other;
      to_is = m.wire_is;
      from_is = m.does.sent;
      accounts_are = refl;
    }

-- ---- what is kept

same-kept : (world : World) (a b : Held) (to_a to_b : List ℕ) (accounts : List Account) → world.two.a.session ≡ a → world.two.b.session ≡ b → world.two.to_a ≡ to_a
    → world.two.to_b ≡ to_b → world.accounts ≡ accounts → kept_of world ≡ record { a = a; b = b; to_a = to_a; to_b = to_b; accounts = accounts }
same-kept world a b to_a to_b accounts p q r s t = rw (p, q, r, s, t) refl

pub leading-a : (Step : World → World → Type 0) (first : World) (old new : Sessions) → kept_of first ≡ old → new.b ≡ old.b
    → Led End.A Step first new.a new.to_a new.to_b new.accounts → Leading Step first new
leading-a Step first old new e b l = record {
  last = l.last;
  is_world = l.is_world;
  kept = same-kept l.last new.a new.b new.to_a new.to_b new.accounts l.session_is (l.other_is ∙ ap (λ (s : Sessions). s.b) e ∙ sym b) l.to_is l.from_is l.accounts_are;
  step = l.step;
}

pub leading-b : (Step : World → World → Type 0) (first : World) (old new : Sessions) → kept_of first ≡ old → new.a ≡ old.a
    → Led End.B Step first new.b new.to_b new.to_a new.accounts → Leading Step first new
leading-b Step first old new e b l = record {
  last = l.last;
  is_world = l.is_world;
  kept = same-kept l.last new.a new.b new.to_a new.to_b new.accounts (l.other_is ∙ ap (λ (s : Sessions). s.a) e ∙ sym b) l.session_is l.from_is l.to_is l.accounts_are;
  step = l.step;
}
