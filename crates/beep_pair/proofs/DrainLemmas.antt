-- The parts of a drain, one after another.
use Rattle.std.proofs.Common.{◌≡◌, ◌⊎◌, inl, inr, ℕ, ◌+◌, ◌-◌, ◌≤◌, ◌==◌, nat_lt, Bool, true, false, not, ◌&&◌, ◌||◌, List, [], ◌∷◌, ◌++◌, length, take, drop, get_or, Option, Some, None, is_some, refl, ap, ap₂, sym, subst, ◌∙◌, arith, append_assoc, append-nil, eqb-true}
use Rattle.std.proofs.lemmas.Bool.Decides.{nat_tests}
use Rattle.std.proofs.lemmas.List.{take_rest}
use Rattle.beep_two_sessions.specs.beep_journal.specs.Life.{is_there}
use Rattle.beep_two_sessions.specs.beep_speaking.specs.declared.emit.Emit.{Emit}
use Rattle.beep_two_sessions.specs.beep_inbox.specs.declared.part.Part.{Part}
use Rattle.beep_two_sessions.specs.beep_inbox.specs.Runs.{Run, marks_of as untaken_marks}
use Rattle.beep_two_sessions.specs.beep_channel.specs.Held.{Live}
use Rattle.beep_two_sessions.specs.beep_lives.specs.Lives.{live_at, numbers, IsAscendingFrom}
use Rattle.beep_two_sessions.specs.beep_giving.specs.Looks.{inbox_of}
use Rattle.beep_two_sessions.specs.beep_peer.specs.Peering.{is_over}
use Rattle.beep_two_sessions.specs.beep_peer.specs.Standing.{live_above, rest_of}
use Rattle.beep_two_sessions.specs.beep_peer.proofs.HeardLemmas.{live-rest}
use Rattle.beep_two_sessions.specs.beep_session.specs.Session.{Held}
use Rattle.beep_two_sessions.specs.beep_session.specs.Looks.{IsTakenAt}
use Rattle.beep_schedule.specs.declared.event.End.{End}
use Rattle.beep_two_sessions.specs.End.{End as OneEnd}
use Rattle.beep_two_sessions.specs.Acts.{HasTaken}
use Rattle.beep_two_sessions.proofs.StillLemmas.{at-end}
use Rattle.beep_pair.specs.Acts.{has_channel}
use Rattle.beep_schedule.specs.declared.limits.TheConstants.{MAX_COUNT}
use Rattle.beep_pair.specs.Sessions.{Sessions}
use Rattle.beep_pair.specs.Ends.{other_end}
use Rattle.beep_pair.specs.World.{World, kept_of, end_of, session_of, held_at, octets_to, IsWorld}
use Rattle.beep_pair.specs.Steps.{SendsStep, TakesStep}
use Rattle.beep_report.specs.Texts.{drain_line}
use Rattle.beep_pair.specs.Drains.{Pieces, GotAll, Parts, no_part, part_more, IsAllTaken, TookAll, Round, Rounds, no_round as no_rounds, round_more, is_nothing, MOST_ROUNDS}
use Rattle.beep_pair.specs.Draining.{PartsOf, begins as none_of, takes as more_of, TookOut, IsRising, is_one_of, TookEach, Turned, Rounded, Drained}
use Rattle.beep_pair.proofs.ActLemmas.{channel_goes}
use Rattle.beep_pair.proofs.WorldLemmas.{stands-now}
use Rattle.beep_pair.proofs.LeadLemmas.{of-held, of-octets}

-- ---- what was taken of one channel

-- where nothing is untaken all that arrived was taken
pub all-taken-at : (at : End) (world : World) → IsWorld world → (n : ℕ) → (n == 0) ≡ false → inbox_of (live_at n (session_of at world).peer.lives) ≡ []
    → IsAllTaken (end_of at world.two) n
all-taken-at at world w n above empty there =
    let one = end_of at world.two in
    let s = stands-now at world w in
    let c = at-end one.session.limits.window one.journal one.given one.taken one.session.peer.lives s.stands.holds.live n above there in
    let none : c.channel.held.inbox ≡ [] = sym (ap inbox_of c.at) ∙ empty in
    sym (c.stands.all_arrived ∙ ap (λ (runs : List Run). one.taken n ++ untaken_marks runs) none ∙ append-nil (one.taken n))

pub taken-inbox : (n : ℕ) (channels : List Live) → (n == 0) ≡ false → IsTakenAt n channels → inbox_of (live_at n channels) ≡ []
taken-inbox n channels above t = of (live_at n channels) refl
  where
    of : (c : Option Live) → live_at n channels ≡ c → inbox_of c ≡ []
    of None e = refl
    of (Some c) e = t above c e

-- a take of one number leaves the others
others-stay : (n m : ℕ) (part : Part) (octets : List ℕ) (old new : OneEnd) → HasTaken n part octets old new → (n == m) ≡ false → IsAllTaken old m → IsAllTaken new m
others-stay n m part octets old new t other all = subst (λ (one : OneEnd). IsAllTaken one m) (sym t.new_is) (λ there. rw other (all there))

pub parts-stay : (at : End) (n m : ℕ) (old new : World) → PartsOf at n old new → (n == m) ≡ false → IsAllTaken (end_of at old.two) m → IsAllTaken (end_of at new.two) m
parts-stay at n m old new none_of other all = all
parts-stay at n m old new (more_of part octets middle last before step) other all =
    others-stay n m part octets (end_of at middle.two) (end_of at new.two) step.took.does other (parts-stay at n m old middle before other all)

-- the live numbers stay
parts-there : (at : End) (n m : ℕ) (old new : World) → PartsOf at n old new → is_there m (end_of at new.two).journal ≡ is_there m (end_of at old.two).journal
parts-there at n m old new none_of = refl
parts-there at n m old new (more_of part octets middle last before step) =
    ap (λ (one : OneEnd). is_there m one.journal) step.took.does.new_is ∙ parts-there at n m old middle before

-- of a session that is over nothing is taken
pub over-stays : (at : End) (n : ℕ) (old new : World) → PartsOf at n old new → is_over (session_of at old).peer ≡ true → is_over (session_of at new).peer ≡ true
over-stays at n old new none_of over = over
over-stays at n old new (more_of part octets middle last before step) over =
    let bad : true ≡ false = sym (over-stays at n old middle before over) ∙ channel_goes n (session_of at middle) step.takes.0 in absurd (cc)

-- ---- channel after channel

pub parts-joined : (at : End) (first middle : World) (low n : ℕ) (last : World) → Parts at first low middle → low ≤ n → PartsOf at n middle last → (high : ℕ) × (high ≤ n) × Parts at first high last
parts-joined at first middle low n last p below none_of = (low, below, p)
parts-joined at first middle low n last p below (more_of part octets old new before step) =
    let j = parts-joined at first middle low n old p below before in
    (n, omega arith, part_more j.0 n part octets old last j.2 j.1 step)

-- no number, and nothing to take
pub took-none : (at : End) (world : World) → TookEach at [] world world
took-none at world = record {
  parts = λ first low p r. (low, p);
  there = λ n. refl;
  others = λ n e all. all;
  all = inl (λ n above e. absurd (cc));
  over = λ o. o;
}

-- one number, and the others after it
pub took-next : (at : End) (number : ℕ) (numbers : List ℕ) (first middle last : World) → TookOut at number first middle → TookEach at numbers middle last
    → TookEach at (number ∷ numbers) first last
took-next at number numbers first middle last one more = record {
  parts = λ begin low p r. let j = parts-joined at begin first low number middle p r.0 one.parts in
      more.parts begin j.0 j.2 (lower j.0 number numbers j.1 r.1);
  there = λ n. more.there n ∙ parts-there at number n first middle one.parts;
  others = λ n e all. more.others n (or-second (number == n) (is_one_of n numbers) e) (parts-stay at number n first middle one.parts (or-first (number == n) (is_one_of n numbers) e) all);
  all = by one.all more.all;
  over = λ o. more.over (over-stays at number first middle one.parts o);
}
  where
    or-first : (a b : Bool) → (a || b) ≡ false → a ≡ false
    or-first true b e = e
    or-first false b e = refl

    or-second : (a b : Bool) → (a || b) ≡ false → b ≡ false
    or-second true b e = absurd (cc)
    or-second false b e = e

    lower : (low high : ℕ) (ns : List ℕ) → low ≤ high → IsRising high ns → IsRising low ns
    lower low high [] h r = r
    lower low high (n ∷ ns) h r = (omega (arith, h, r.0), r.1)

    either : (a b : Bool) (b_is : Bool) → b ≡ b_is → (a || b) ≡ true → b_is ≡ false → a ≡ true
    either true b c e f g = refl
    either false b c e f g = absurd (let bad : true ≡ false = sym f ∙ e ∙ g in cc)

    each : ((number == 0) ≡ false → IsAllTaken (end_of at middle.two) number) → ((n : ℕ) → (n == 0) ≡ false → is_one_of n numbers ≡ true → IsAllTaken (end_of at last.two) n)
        → (n : ℕ) → (n == 0) ≡ false → is_one_of n (number ∷ numbers) ≡ true → IsAllTaken (end_of at last.two) n
    each here there n above e = of (is_one_of n numbers) refl
      where
        of : (b : Bool) → is_one_of n numbers ≡ b → IsAllTaken (end_of at last.two) n
        of true f = there n above f
        of false f =
            let same : number ≡ n = eqb-true number n (either (number == n) (is_one_of n numbers) false f e refl) in
            more.others n f (subst (λ (k : ℕ). IsAllTaken (end_of at middle.two) k) same (here (ap (λ (k : ℕ). k == 0) same ∙ above)))

    by : (((number == 0) ≡ false → IsAllTaken (end_of at middle.two) number) ⊎ (is_over (session_of at middle).peer ≡ true))
        → (((n : ℕ) → (n == 0) ≡ false → is_one_of n numbers ≡ true → IsAllTaken (end_of at last.two) n) ⊎ (is_over (session_of at last).peer ≡ true))
        → ((n : ℕ) → (n == 0) ≡ false → is_one_of n (number ∷ numbers) ≡ true → IsAllTaken (end_of at last.two) n) ⊎ (is_over (session_of at last).peer ≡ true)
    by (inl a) (inl b) = inl (each a b)
    by (inl a) (inr o) = inr o
    by (inr o) b = inr (more.over o)

-- the numbers of a slice: the first, and those after it
pub took-slice : (at : End) (numbers : List ℕ) (first middle last : World) → 1 ≤ length numbers → TookOut at (get_or numbers 0 0) first middle
    → TookEach at (take (length numbers - 1) (drop 1 numbers)) middle last → TookEach at numbers first last
took-slice at [] first middle last some one more = absurd (omega (arith, some))
took-slice at (n ∷ ns) first middle last some one more =
    took-next at n ns first middle last one (subst (λ xs. TookEach at xs middle last) (take_rest (n ∷ ns) 1) more)

-- ---- all channels

rising : (low least : ℕ) (channels : List Live) → low ≤ least → IsAscendingFrom least channels → IsRising low (numbers channels)
rising low least [] h up = tt
rising low least (c ∷ channels) h up = (omega (arith, h, up.0), rising c.held.number (c.held.number + 1) channels (omega arith) up.1)

rest-rising : (channels : List Live) → IsAscendingFrom 0 channels → IsRising 0 (rest_of (numbers channels))
rest-rising [] up = tt
rest-rising (c ∷ channels) up = rising 0 (c.held.number + 1) channels (omega arith) up.1

pub took-all-of : (at : End) (first last : World) → IsWorld first → TookEach at (live_above (session_of at first).peer) first last → TookAll at first last
took-all-of at first last w t =
    let one = end_of at first.two in
    let live = (stands-now at first w).stands.holds.live in
    let j = t.parts first 0 no_part (rest-rising one.session.peer.lives live.ascending) in
    record {
      last = j.0;
      parts = j.1;
      all = by t.all;
    }
  where
    by : (((n : ℕ) → (n == 0) ≡ false → is_one_of n (live_above (session_of at first).peer) ≡ true → IsAllTaken (end_of at last.two) n) ⊎ (is_over (session_of at last).peer ≡ true))
        → ((n : ℕ) → (n == 0) ≡ false → IsAllTaken (end_of at last.two) n) ⊎ (is_over (session_of at last).peer ≡ true)
    by (inr o) = inr o
    by (inl all) = inl (λ n above there.
        let live = (stands-now at first w).stands.holds.live in
        let was : is_there n (end_of at first.two).journal ≡ true = sym (t.there n) ∙ there in
        let among : is_one_of n (live_above (session_of at first).peer) ≡ true =
        sym (live-rest (session_of at first).peer.lives live.ascending (sym (live.there 0)) n above) ∙ sym (live.there n) ∙ was in
        all n above among there)

-- where nothing is untaken
pub took-all-none : (at : End) (world : World) → IsWorld world → ((n : ℕ) → IsTakenAt n (session_of at world).peer.lives) → TookAll at world world
took-all-none at world w t = record {
  last = 0;
  parts = no_part;
  all = inl (λ n above. all-taken-at at world w n above (taken-inbox n (session_of at world).peer.lives above (t n)));
}

-- a take that gives nothing is the last of its channel
pub took-out-of : (at : End) (n : ℕ) (first last : World) → IsWorld last → PartsOf at n first last
    → (has_channel n (session_of at last) ≡ true → inbox_of (live_at n (session_of at last).peer.lives) ≡ []) → TookOut at n first last
took-out-of at n first last w parts empty = record { parts = parts; all = by (is_over (session_of at last).peer) refl }
  where
    s : Held
    s = session_of at last

    not-zero : (n : ℕ) → (n == 0) ≡ false → nat_lt 0 n ≡ true
    not-zero n e = grind (arith, nat_tests)

    here : is_over s.peer ≡ false → (c : Option Live) → live_at n s.peer.lives ≡ c → (n == 0) ≡ false → IsAllTaken (end_of at last.two) n
    here o None e above = λ there.
        absurd (let bad : true ≡ false = sym there ∙ (stands-now at last w).stands.holds.live.there n ∙ ap (λ (c : Option Live). is_some c) e in cc)
    here o (Some c) e above =
        let has : has_channel n s ≡ true = rw (o, not-zero n above, e) refl in
        all-taken-at at last w n above (empty has)

    by : (b : Bool) → is_over s.peer ≡ b → ((n == 0) ≡ false → IsAllTaken (end_of at last.two) n) ⊎ (is_over s.peer ≡ true)
    by true o = inr o
    by false o = inl (here o (live_at n s.peer.lives) refl)

-- ---- rounds

pub turned-both : (max piece : ℕ) (a b : Bool) (before between after : List ℕ) (old middle new : World) → Turned End.A max piece a before between old middle
    → Turned End.B max piece b between after middle new → Rounded max piece (a || b) before after old new
turned-both max piece a b before between after old middle new s t = record {
  one = s.emit;
  other = t.emit;
  round = record { middle = middle; by_a = s.turn; by_b = t.turn };
  sent_is = ap₂ (λ (x y : Bool). x || y) s.sent_is t.sent_is ∙ not-both (is_nothing s.emit) (is_nothing t.emit);
  after_is = t.after_is ∙ ap (λ (xs : List ℕ). xs ++ drain_line End.B t.emit) s.after_is ∙ append_assoc before (drain_line End.A s.emit) (drain_line End.B t.emit);
}
  where
    not-both : (x y : Bool) → (not x || not y) ≡ not (x && y)
    not-both true true = refl
    not-both true false = refl
    not-both false y = refl

pub rounded-as : (max piece : ℕ) (a b : Bool) (before after : List ℕ) (old new : World) → a ≡ b → Rounded max piece a before after old new → Rounded max piece b before after old new
rounded-as max piece a b before after old new e r = subst (λ x. Rounded max piece x before after old new) e r

-- the rounds so far
pub record SoFar (max piece count : ℕ) (before after : List ℕ) (first now : World) : Type 0 where
  pub text : List ℕ
  pub rounds : Rounds max piece first count text now
  pub after_is : after ≡ before ++ text

pub no-round : (max piece : ℕ) (before : List ℕ) (first : World) → SoFar max piece 0 before before first first
no-round max piece before first = record { text = []; rounds = no_rounds; after_is = sym (append-nil before) }

pub one-round : (max piece count : ℕ) (before between after : List ℕ) (first old new : World) → SoFar max piece count before between first old
    → Rounded max piece true between after old new → SoFar max piece (count + 1) before after first new
one-round max piece count before between after first old new s r = record {
  text = s.text ++ (drain_line End.A r.one ++ drain_line End.B r.other);
  rounds = round_more count s.text r.one r.other old new s.rounds r.round (not-true (is_nothing r.one && is_nothing r.other) r.sent_is);
  after_is = r.after_is ∙ ap (λ (xs : List ℕ). xs ++ (drain_line End.A r.one ++ drain_line End.B r.other)) s.after_is
      ∙ append_assoc before s.text (drain_line End.A r.one ++ drain_line End.B r.other);
}
  where
    not-true : (b : Bool) → true ≡ not b → b ≡ false
    not-true true e = absurd (cc)
    not-true false e = refl

-- the last round: both sends were nothing
pub last-round : (max piece count : ℕ) (before between after : List ℕ) (first old new : World) → SoFar max piece count before between first old
    → Rounded max piece false between after old new → Drained max piece before after first new
last-round max piece count before between after first old new s r =
    let both : (is_nothing r.one && is_nothing r.other) ≡ true = not-false (is_nothing r.one && is_nothing r.other) r.sent_is in
    let one : r.one ≡ Emit.Nothing = nothing-is r.one (both-first (is_nothing r.one) (is_nothing r.other) both) in
    let other : r.other ≡ Emit.Nothing = nothing-is r.other (both-second (is_nothing r.one) (is_nothing r.other) both) in
    let none : drain_line End.A r.one ++ drain_line End.B r.other ≡ [] = ap₂ (λ (x y : Emit). drain_line End.A x ++ drain_line End.B y) one other in
    record {
      text = s.text;
      drains = record {
        count = count;
        last = old;
        rounds = s.rounds;
        ends = inl (subst (λ (y : Emit). Round max piece Emit.Nothing y old new) other (subst (λ (x : Emit). Round max piece x r.other old new) one r.round));
      };
      after_is = r.after_is ∙ ap (λ (xs : List ℕ). between ++ xs) none ∙ append-nil between ∙ s.after_is;
    }
  where
    not-false : (b : Bool) → false ≡ not b → b ≡ true
    not-false true e = refl
    not-false false e = absurd (cc)

    both-first : (a b : Bool) → (a && b) ≡ true → a ≡ true
    both-first true b e = refl
    both-first false b e = absurd (cc)

    both-second : (a b : Bool) → (a && b) ≡ true → b ≡ true
    both-second true b e = e
    both-second false b e = absurd (cc)

    nothing-is : (emit : Emit) → is_nothing emit ≡ true → emit ≡ Emit.Nothing
    nothing-is (Emit.Data head) e = absurd (cc)
    nothing-is (Emit.Seq seq) e = absurd (cc)
    nothing-is Emit.Nothing e = refl

-- as many rounds as there may be
pub most-rounds : (max piece count : ℕ) (before after : List ℕ) (first now : World) → SoFar max piece count before after first now → count ≡ MOST_ROUNDS
    → Drained max piece before after first now
most-rounds max piece count before after first now s e = record {
  text = s.text;
  drains = record { count = count; last = now; rounds = s.rounds; ends = inr (e, refl) };
  after_is = s.after_is;
}

-- ---- the whole wire

pub got-all : (at : End) (piece : ℕ) (first last : World) (both : Sessions) → Pieces at piece first last → kept_of last ≡ both
    → (octets_to at both ≡ []) ⊎ (is_over (held_at at both).peer ≡ true) → GotAll at piece first last
got-all at piece first last both p k (inl e) = record { pieces = p; all = inl (of-octets at last both (λ xs. xs ≡ []) k e) }
got-all at piece first last both p k (inr o) = record { pieces = p; all = inr (of-held at last both (λ (s : Held). is_over s.peer ≡ true) k o) }

-- ---- a turn

pub one-turn : (at other : End) (max piece : ℕ) (emit : Emit) (sent : Bool) (before after : List ℕ) (first said heard last : World) → other ≡ other_end at
    → SendsStep at max emit first said → GotAll other piece said heard → TookAll other heard last → sent ≡ not (is_nothing emit) → after ≡ before ++ drain_line at emit
    → Turned at max piece sent before after first last
one-turn at other max piece emit sent before after first said heard last o s g t e k = record {
  emit = emit;
  turn = record {
    said = said;
    sent = s;
    heard = heard;
    got = subst (λ x. GotAll x piece said heard) o g;
    took = subst (λ x. TookAll x heard last) o t;
  };
  sent_is = e;
  after_is = k;
}

-- ---- one take more

pub parts-more : (at : End) (n count : ℕ) (r : Option Part) (octets : List ℕ) (first old new : World) → count ≡ MAX_COUNT → PartsOf at n first old → TakesStep at n count r octets old new
    → is_some r ≡ true → PartsOf at n first new
parts-more at n count None octets first old new room p step some = absurd (let bad : false ≡ true = some in cc)
parts-more at n count (Some part) octets first old new room p step some = more_of part octets old new p (subst (λ k. TakesStep at n k (Some part) octets old new) room step)

same-world : (a b : World) → a.two ≡ b.two → a.accounts ≡ b.accounts → a ≡ b
same-world a b p q = ap₂ (λ two accounts. record { two = two; accounts = accounts }) p q

pub parts-last : (at : End) (n count : ℕ) (r : Option Part) (octets : List ℕ) (first old new : World) → IsWorld old → PartsOf at n first old → TakesStep at n count r octets old new
    → is_some r ≡ false → TookOut at n first new
parts-last at n count None octets first old new w p step none =
    let same : new ≡ old = same-world new old step.took step.accounts_are in
    subst (λ x. TookOut at n first x) (sym same) (took-out-of at n first old w p step.takes.1)
parts-last at n count (Some part) octets first old new w p step none = absurd (let bad : true ≡ false = none in cc)
