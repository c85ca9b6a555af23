-- What is given and taken in a life above zero leaves what an end has to say ready to go.
use Rattle.std.proofs.Common.{◌≡◌, ℕ, ◌+◌, ◌<◌, ◌≤◌, ◌==◌, Bool, true, false, not, ◌||◌, if◌then◌else◌, List, [], ◌∷◌, ◌++◌, length, map, reverse, Option, Some, None, refl, sym, ap, ◌∙◌, arith, subst}
use Rattle.std.specs.Prelude.{Result, Ok, Err, OnOk, OnErr, IsSome, IfSome}
use Rattle.std.specs.List.{list_any}
use Rattle.std.proofs.lemmas.Bool.Decides.{nat_tests}
use Rattle.std.proofs.lemmas.List.{append_cancel_left}
use Rattle.beep_peer.specs.beep_frame.specs.declared.kind.Kind.{Kind}
use Rattle.beep_peer.specs.beep_frame.specs.declared.tag.Tag.{Tag}
use Rattle.beep_peer.specs.beep_frame.specs.Frame.{is_msg, is_reply, same_kind}
use Rattle.beep_peer.specs.beep_history.specs.declared.journal.Side.{Side}
use Rattle.beep_peer.specs.beep_history.specs.Journal.{Item}
use Rattle.beep_peer.specs.beep_history.specs.Marks.{Mark, octet, end, marks}
use Rattle.beep_peer.specs.beep_journal.specs.Zero.{zero_history, asked}
use Rattle.beep_peer.specs.beep_journal.specs.Life.{is_there}
use Rattle.beep_peer.specs.beep_exchange.specs.Given.{ends_reply}
use Rattle.beep_peer.specs.beep_inbox.specs.declared.part.Part.{Part}
use Rattle.beep_peer.specs.beep_inbox.specs.Laws.{part_marks}
use Rattle.beep_peer.specs.beep_outbox.specs.Queue.{Message, message_marks}
use Rattle.beep_peer.specs.beep_channel.specs.Held.{Live, IsReply}
use Rattle.beep_peer.specs.beep_channel.specs.Stands.{ends_of}
use Rattle.beep_peer.specs.beep_channel.proofs.CountedLemmas.{ends-append}
use Rattle.beep_peer.specs.beep_lives.specs.Lives.{live_at}
use Rattle.beep_peer.specs.beep_lives.specs.Edits.{Edits, Takes}
use Rattle.beep_peer.specs.beep_standing.specs.Standing.{Marks, with_marks, AreLiveBy}
use Rattle.beep_peer.specs.beep_spoken.specs.Spoken.{kinds_of}
use Rattle.beep_peer.specs.beep_decide.specs.Asks.{is_close_of}
use Rattle.beep_peer.specs.beep_lawful.specs.declared.terms.Terms.{Terms}
use Rattle.beep_peer.specs.beep_asked.specs.Kept.{Kept, closes, closes_one, is_leaving}
use Rattle.beep_peer.specs.beep_asked.specs.Asked.{AreWaiting}
use Rattle.beep_peer.specs.beep_management.specs.Managed.{Managed}
use Rattle.beep_peer.specs.beep_upright.specs.Turns.{kinds_at, reply_kinds}
use Rattle.beep_peer.specs.beep_upright.specs.Upright.{asked_at, all_asked, is_of_close, IsLetGo, AreAnswered, place_of, AreReady, IsUpright}
use Rattle.beep_peer.specs.beep_upright.proofs.TestLemmas.{equal-number, or-one, or-two}
use Rattle.beep_peer.specs.beep_upright.proofs.BegunLemmas.{any-in}
use Rattle.beep_peer.specs.beep_upright.proofs.ReadyLemmas.{each-answered, names-from}
use Rattle.beep_peer.specs.declared.peer.Peer.{Peer}
use Rattle.beep_peer.specs.Peering.{Holds, IsPeer}
use Rattle.beep_peer.proofs.KindsLemmas.{kinds-by, asked-by, asked-none, upright-same}
use Rattle.beep_giving.specs.Giving.{next_message, GivesMessage}

-- ---- by what was given and taken

module _ (size : ℕ) (journal : List Item) (given taken given_now taken_now : Marks) (old new : List Live) (s : AreLiveBy size journal given taken old)
    (t : AreLiveBy size journal given_now taken_now new) where
  pub kinds-stay : given_now 0 ≡ given 0 → kinds_at 0 new ≡ kinds_at 0 old
  kinds-stay same =
      append_cancel_left (kinds_of (marks Side.Sent (zero_history journal))) (kinds_at 0 new) (kinds_at 0 old)
      (sym (kinds-by size journal journal given_now taken_now new t) ∙ ap kinds_of same ∙ kinds-by size journal journal given taken old s)

  pub asks-less : (n : ℕ) → (n == 0) ≡ false → ends_of is_msg (given_now n) + ends_of ends_reply (taken n) ≤ ends_of is_msg (given n) + ends_of ends_reply (taken_now n)
      → asked_at new n ≤ asked_at old n
  asks-less n above less = of (is_there n journal) refl
    where
      of : (b : Bool) → is_there n journal ≡ b → asked_at new n ≤ asked_at old n
      of true there =
          let a = asked-by size journal journal given taken old s n above there in
          let b = asked-by size journal journal given_now taken_now new t n above there in omega (arith, a, b, less)
      of false none = let a = asked-none size journal journal given_now taken_now new t n none in omega (arith, a)

-- ---- where more is asked

module _ (terms : Terms) (journal : List Item) (kinds : List Kind) (asks more : ℕ → ℕ) (m : Managed) (number : ℕ) (w : AreWaiting Side.Received (zero_history journal) m.theirs.requests)
    (less : (n : ℕ) → (n == 0) ≡ false → (number == n) ≡ false → more n ≤ asks n) (unclosed : (closes number m.mine.requests || closes number m.acts.requests) ≡ false)
    (staying : is_leaving m.theirs.requests ≡ false) (open_there : closes number m.theirs.requests ≡ false) (r : AreReady terms journal kinds asks m) where
  none-closing : (n : ℕ) → (n == 0) ≡ false → (closes n m.mine.requests || closes n m.acts.requests) ≡ true → more n ≡ 0
  none-closing n above closing = of (number == n) refl
    where
      of : (b : Bool) → (number == n) ≡ b → more n ≡ 0
      of true is =
          absurd (let g : true ≡ false = sym closing ∙ ap (λ (k : ℕ). closes k m.mine.requests || closes k m.acts.requests) (sym (equal-number number n is)) ∙ unclosed in cc)
      of false is = let a = r.closing n above closing in let b = less n above is in omega (arith, a, b)

  none-let : (before : List Kept) (kept : Kept) (after : List Kept) → reverse m.theirs.requests ≡ before ++ kept ∷ after → (n : ℕ) → (n == 0) ≡ false → is_of_close n kept ≡ true
      → asks n ≡ 0 → more n ≡ 0
  none-let before kept after split n above of_close none = of (number == n) refl
    where
      of : (b : Bool) → (number == n) ≡ b → more n ≡ 0
      of false is = let b = less n above is in omega (arith, b, none)
      of true is = by (is_close_of 0 kept.said) refl
        where
          by : (z : Bool) → is_close_of 0 kept.said ≡ z → more n ≡ 0
          by true e = absurd (let g : true ≡ false = sym (any-in (λ (one : Kept). is_close_of 0 one.said) m.theirs.requests before kept after split e) ∙ staying in cc)
          by false e =
              let here : closes_one n kept ≡ true = sym (ap (λ (b : Bool). b || closes_one n kept) e) ∙ of_close in
              absurd (let g : true ≡ false = sym (any-in (closes_one n) m.theirs.requests before kept after split here)
              ∙ ap (λ (k : ℕ). closes k m.theirs.requests) (sym (equal-number number n is)) ∙ open_there in cc)

  pub more-asked : AreReady terms journal kinds more m
  more-asked = record {
    idle = r.idle;
    greets = r.greets;
    starting = r.starting;
    granted = r.granted;
    order = r.order;
    acts = r.acts;
    unstarted = r.unstarted;
    closing = none-closing;
    leaving = r.leaving;
    theirs =
        each-answered (all_asked journal m) (all_asked journal m) journal journal asks more (place_of m.theirs.requests (asked Side.Received (zero_history journal)))
        (reply_kinds kinds) m.answers (reverse m.theirs.requests) (names-from journal m.theirs.requests w)
        (λ before kind after earlier kept later split ksplit count named l. record {
          quiet = l.quiet;
          still = λ rpy n above of_close. none-let earlier kept later ksplit n above of_close (l.still rpy n above of_close);
        }) r.theirs;
  }

-- ---- ends among marks

ends-octets : (test : Kind → Bool) (tag : Tag) (octets : List ℕ) (rest : List Mark) → ends_of test (map (octet tag) octets ++ rest) ≡ ends_of test rest
ends-octets test tag [] rest = refl
ends-octets test tag (value ∷ octets) rest = ends-octets test tag octets rest

ends-message : (test : Kind → Bool) (message : Message) → test message.tag.kind ≡ false → ends_of test (message_marks message) ≡ 0
ends-message test message none = ends-octets test message.tag message.octets (end message.tag ∷ []) ∙ rw none refl

reply-none : (kind : Kind) → is_reply kind ≡ true → is_msg kind ≡ false
reply-none Kind.Msg reply = cc
reply-none Kind.Rpy reply = refl
reply-none Kind.Err reply = refl
reply-none Kind.Ans reply = refl
reply-none Kind.Nul reply = refl

pub reply-is-one : (o : Option Live) (kind : Kind) (octets : List ℕ) → IsSome o → IfSome o (λ channel. IsReply channel.held kind octets) → is_reply kind ≡ true
reply-is-one None kind octets some may = absurd (let none : false ≡ true = some in cc)
reply-is-one (Some c) kind octets some may = may.reply

-- ---- the calls

with-is : (number n : ℕ) (ones : List Mark) (marks : Marks) → (number == n) ≡ false → with_marks number ones marks n ≡ marks n
with-is number n ones marks apart = rw apart refl

with-here : (number n : ℕ) (ones : List Mark) (marks : Marks) → (number == n) ≡ true → with_marks number ones marks n ≡ ones
with-here number n ones marks same = rw same refl

zero-apart : (number : ℕ) → 0 < number → (number == 0) ≡ false
zero-apart number above = grind (arith, nat_tests)

-- the two answers of a call
pub by-result : {T E : Type 0} {A B : Type 0} (result : Result T E) (P : Type 0) → OnOk result A → OnErr result B → (A → P) → (B → P) → P
by-result (Ok value) P a b f g = f a
by-result (Err error) P a b f g = g b

module _ (terms : Terms) (fed rest : List ℕ) (journal : List Item) (given taken : Marks) (old new : Peer) (s : IsPeer terms.window fed rest journal given taken old)
    (same : new.management ≡ old.management) (u : IsUpright terms journal old.lives old.management) where
  now : IsUpright terms journal new.lives old.management → IsUpright terms journal new.lives new.management
  now v = subst (λ (m : Managed). IsUpright terms journal new.lives m) (sym same) v

  module _ (number : ℕ) (above : 0 < number) (kind : Kind) (octets : List ℕ) (g : GivesMessage number terms.window fed rest journal given taken kind octets new) where
    abbrev given_now : Marks
    given_now = with_marks number (given number ++ message_marks (next_message kind octets (given number))) given

    zero-same : given_now 0 ≡ given 0
    zero-same = with-is number 0 (given number ++ message_marks (next_message kind octets (given number))) given (zero-apart number above)

    kinds-same : kinds_at 0 new.lives ≡ kinds_at 0 old.lives
    kinds-same = kinds-stay terms.window journal given taken given_now taken old.lives new.lives s.holds.live g.stands.holds.live zero-same

    other-less : (n : ℕ) → (n == 0) ≡ false → (number == n) ≡ false → asked_at new.lives n ≤ asked_at old.lives n
    other-less n high apart =
        asks-less terms.window journal given taken given_now taken old.lives new.lives s.holds.live g.stands.holds.live n high
        (let e = ap (ends_of is_msg) (with-is number n (given number ++ message_marks (next_message kind octets (given number))) given apart) in omega (arith, e))

    pub reply-upright : is_reply kind ≡ true → IsUpright terms journal new.lives new.management
    reply-upright reply = now (upright-same terms journal old.lives new.lives old.management kinds-same less u)
      where
        less : (n : ℕ) → (n == 0) ≡ false → asked_at new.lives n ≤ asked_at old.lives n
        less n high = of (number == n) refl
          where
            of : (b : Bool) → (number == n) ≡ b → asked_at new.lives n ≤ asked_at old.lives n
            of false apart = other-less n high apart
            of true here =
                asks-less terms.window journal given taken given_now taken old.lives new.lives s.holds.live g.stands.holds.live n high
                (let a = ap (ends_of is_msg) (with-here number n (given number ++ message_marks (next_message kind octets (given number))) given here) in
                let b = ends-append is_msg (given number) (message_marks (next_message kind octets (given number))) in
                let d = ends-message is_msg (next_message kind octets (given number)) (reply-none kind reply) in
                let e = ap (λ (k : ℕ). ends_of is_msg (given k)) (equal-number number n here) in
                omega (arith, a, b, d, e))

    pub ask-upright : (closes number old.management.mine.requests || closes number old.management.acts.requests) ≡ false
        → is_leaving old.management.theirs.requests ≡ false → closes number old.management.theirs.requests ≡ false → IsUpright terms journal new.lives new.management
    ask-upright unclosed staying open_there =
        now (subst (λ (ks : List Kind). AreReady terms journal ks (asked_at new.lives) old.management) (sym kinds-same)
        (more-asked terms journal (kinds_at 0 old.lives) (asked_at old.lives) (asked_at new.lives) old.management number s.holds.manages.is.theirs other-less unclosed staying open_there u))

-- ---- a part was taken

pub taken-upright : (terms : Terms) (number : ℕ) (journal : List Item) (given taken : Marks) (old new : List Live) (m : Managed) → 0 < number → (part : Part) (after : List ℕ)
    → Holds terms.window journal given taken old m → Holds terms.window journal given (with_marks number (taken number ++ part_marks part after) taken) new m
    → IsUpright terms journal old m → IsUpright terms journal new m
taken-upright terms number journal given taken old new m above part after h k u =
    upright-same terms journal old new m (kinds-stay terms.window journal given taken given taken_now old new h.live k.live refl) less u
  where
    taken_now : Marks
    taken_now = with_marks number (taken number ++ part_marks part after) taken

    less : (n : ℕ) → (n == 0) ≡ false → asked_at new n ≤ asked_at old n
    less n high = asks-less terms.window journal given taken given taken_now old new h.live k.live n high (of (number == n) refl)
      where
        of : (b : Bool) → (number == n) ≡ b → ends_of is_msg (given n) + ends_of ends_reply (taken n) ≤ ends_of is_msg (given n) + ends_of ends_reply (taken_now n)
        of false apart = let e = ap (ends_of ends_reply) (with-is number n (taken number ++ part_marks part after) taken apart) in omega (arith, e)
        of true here =
            let a = ap (ends_of ends_reply) (with-here number n (taken number ++ part_marks part after) taken here) in
            let b = ends-append ends_reply (taken number) (part_marks part after) in
            let e = ap (λ (k : ℕ). ends_of ends_reply (taken k)) (equal-number number n here) in
            omega (arith, a, b, e)
