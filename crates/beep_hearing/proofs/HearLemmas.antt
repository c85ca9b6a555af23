-- What a received header, SEQ and frame make of the live channels.
use Rattle.std.proofs.Common.{◌≡◌, ℕ, ◌≤◌, ◌==◌, Bool, true, false, not, ◌&&◌, if◌then◌else◌, List, [], ◌∷◌, Option, None, Some, refl, sym, ap, subst, ◌∙◌, arith, eqb-true}
use Rattle.std.specs.Prelude.{is_some, IfSome}
use Rattle.std.specs.List.{list_any}
use Rattle.std.proofs.lemmas.Bool.Decides.{nat_tests}
use Rattle.beep_standing.specs.beep_frame.specs.declared.head.Head.{Head}
use Rattle.beep_standing.specs.beep_frame.specs.declared.rule.Rule.{Rule}
use Rattle.beep_standing.specs.beep_frame.specs.declared.limits.TheConstants.{MAX_PAYLOAD}
use Rattle.beep_standing.specs.beep_history.specs.declared.journal.Side.{Side}
use Rattle.beep_standing.specs.beep_history.specs.Journal.{Item, passed}
use Rattle.beep_standing.specs.beep_history.specs.Marks.{Mark, Request, is_whole, waiting, previous}
use Rattle.beep_standing.specs.beep_history.specs.Broken.{broken_rule, under_way}
use Rattle.beep_standing.specs.beep_journal.specs.Zero.{zero_history}
use Rattle.beep_standing.specs.beep_journal.specs.Life.{history, is_there}
use Rattle.beep_standing.specs.beep_journal.specs.Broken.{none_tunes, is_greeting, breaks_size, breaks_no_greeting, breaks_not_alone, breaks_zero_reply, or_else, broken_head, broken_seq}
use Rattle.beep_standing.specs.beep_frame.specs.declared.seq.Seq.{Seq}
use Rattle.beep_standing.specs.beep_history.specs.Windows.{is_bad_ack}
use Rattle.beep_standing.specs.beep_channel.specs.Held.{Live}
use Rattle.beep_standing.specs.beep_channel.specs.Stands.{Stands}
use Rattle.beep_standing.specs.beep_lives.specs.Lives.{live_at, has_begun}
use Rattle.beep_standing.specs.beep_lives.specs.Edits.{Arrives, EditsWhere}
use Rattle.beep_standing.specs.Standing.{Marks, AreLiveBy}
use Rattle.beep_standing.proofs.ArriveLemmas.{zero-joins, seq-judged}
use Rattle.beep_standing.proofs.ZeroLemmas.{part-none}
use Rattle.beep_standing.proofs.LivesLemmas.{lives-stay}

none-any : (f : Request → Bool) (rs : List Request) → ((r : Request) → f r ≡ false) → list_any f rs ≡ false
none-any f [] none = refl
none-any f (r ∷ rs) none = rw (none r) (none-any f rs none)

none-alone : (journal : List Item) → breaks_not_alone none_tunes Side.Received journal ≡ false
none-alone journal =
    none-any (λ request. none_tunes Side.Received request.position && is_whole Side.Received request.position (zero_history journal)) (waiting Side.Received (zero_history journal)) (λ r. refl)

abbrev zero_rule : Head → Option Rule
zero_rule head = if breaks_zero_reply head then Some Rule.ZeroReply else None

head-rules : (journal : List Item) (head : Head) (b c : Bool) → breaks_size head ≡ false → breaks_no_greeting Side.Received journal head ≡ b
    → is_there head.channel journal ≡ c
    → broken_head none_tunes Side.Received journal head
    ≡ (if b then Some Rule.NoGreeting else if c then or_else (broken_rule Side.Received (history head.channel journal) head) (zero_rule head) else Some Rule.NoSuchChannel)
unfolding broken_head
head-rules journal head true c size greeting there = rw (size, greeting) refl
head-rules journal head false false size greeting there = rw (size, greeting, there) refl
head-rules journal head false true size greeting there = rw (size, greeting, there, none-alone journal) refl

small : (head : Head) → head.size ≤ MAX_PAYLOAD → breaks_size head ≡ false
small head within = grind (arith, nat_tests)

-- the first rule of a header, by what the channels answer
pub heard-rules : (journal : List Item) (head : Head) (heard : Bool) (judged : Option Rule) → head.size ≤ MAX_PAYLOAD → heard ≡ is_some (previous Side.Received journal)
    → judged ≡ (if is_there head.channel journal then broken_rule Side.Received (history head.channel journal) head else Some Rule.NoSuchChannel)
    → broken_head none_tunes Side.Received journal head ≡ (if not heard && not (is_greeting head) then Some Rule.NoGreeting else or_else judged (zero_rule head))
heard-rules journal head heard judged within h j =
    of (not heard && not (is_greeting head)) (is_there head.channel journal) refl refl
  where
    of : (b c : Bool) → (not heard && not (is_greeting head)) ≡ b → is_there head.channel journal ≡ c
        → broken_head none_tunes Side.Received journal head ≡ (if not heard && not (is_greeting head) then Some Rule.NoGreeting else or_else judged (zero_rule head))
    of true c e f =
        head-rules journal head true c (small head within) (ap (λ (x : Bool). not x && not (is_greeting head)) (sym h) ∙ e) f
        ∙ sym (ap (λ (x : Bool). if x then Some Rule.NoGreeting else or_else judged (zero_rule head)) e)
    of false true e f =
        head-rules journal head false true (small head within) (ap (λ (x : Bool). not x && not (is_greeting head)) (sym h) ∙ e) f
        ∙ ap (λ (o : Option Rule). or_else o (zero_rule head)) (sym (j ∙ ap (λ (x : Bool). if x then broken_rule Side.Received (history head.channel journal) head else Some Rule.NoSuchChannel) f))
        ∙ sym (ap (λ (x : Bool). if x then Some Rule.NoGreeting else or_else judged (zero_rule head)) e)
    of false false e f =
        head-rules journal head false false (small head within) (ap (λ (x : Bool). not x && not (is_greeting head)) (sym h) ∙ e) f
        ∙ ap (λ (o : Option Rule). or_else o (zero_rule head)) (sym (j ∙ ap (λ (x : Bool). if x then broken_rule Side.Received (history head.channel journal) head else Some Rule.NoSuchChannel) f))
        ∙ sym (ap (λ (x : Bool). if x then Some Rule.NoGreeting else or_else judged (zero_rule head)) e)

-- a part of a message of channel zero
pub part-joins : (size : ℕ) (journal : List Item) (given taken : Marks) (old new : List Live) (head : Head) (payload : List ℕ) (goes_on : Bool)
    → AreLiveBy size journal given taken old → under_way Side.Received journal ≡ Some head → (head.channel == 0) ≡ true → head.more ≡ true
    → EditsWhere goes_on head.channel (Arrives head payload) old new → goes_on ≡ has_begun (live_at head.channel old)
    → AreLiveBy size (passed Side.Received head payload ∷ journal) given taken new
part-joins size journal given taken old new head payload goes_on s begun zero more e has =
    lives-stay size journal given taken new (passed Side.Received head payload)
    (zero-joins size journal given taken old new head payload s begun zero goes_on e has)
    (part-none Side.Received head payload journal more) zero

-- ---- the exits of a header

module _ (journal : List Item) (head : Head) (heard : Bool) (judged : Option Rule) (within : head.size ≤ MAX_PAYLOAD) (h : heard ≡ is_some (previous Side.Received journal))
    (j : judged ≡ (if is_there head.channel journal then broken_rule Side.Received (history head.channel journal) head else Some Rule.NoSuchChannel))
    (lacks : Bool) (lacks_is : lacks ≡ (not heard && not (is_greeting head))) where
  by-lacks : broken_head none_tunes Side.Received journal head ≡ (if lacks then Some Rule.NoGreeting else or_else judged (zero_rule head))
  by-lacks = heard-rules journal head heard judged within h j ∙ ap (λ (x : Bool). if x then Some Rule.NoGreeting else or_else judged (zero_rule head)) (sym lacks_is)

  pub exit-greeting : lacks ≡ true → Some Rule.NoGreeting ≡ broken_head none_tunes Side.Received journal head
  exit-greeting e = sym (by-lacks ∙ ap (λ (x : Bool). if x then Some Rule.NoGreeting else or_else judged (zero_rule head)) e)

  pub exit-judged : (rule : Rule) → lacks ≡ false → judged ≡ Some rule → Some rule ≡ broken_head none_tunes Side.Received journal head
  exit-judged rule e f =
      sym (by-lacks ∙ ap (λ (x : Bool). if x then Some Rule.NoGreeting else or_else judged (zero_rule head)) e
      ∙ ap (λ (o : Option Rule). or_else o (zero_rule head)) f)

  pub exit-zero : (z : Bool) → lacks ≡ false → judged ≡ None → z ≡ breaks_zero_reply head → (if z then Some Rule.ZeroReply else None) ≡ broken_head none_tunes Side.Received journal head
  exit-zero z e f g =
      sym (by-lacks ∙ ap (λ (x : Bool). if x then Some Rule.NoGreeting else or_else judged (zero_rule head)) e
      ∙ ap (λ (o : Option Rule). or_else o (zero_rule head)) f ∙ ap (λ (x : Bool). if x then Some Rule.ZeroReply else None) (sym g))

-- ---- a SEQ

pub seq-heard : (size : ℕ) (journal : List Item) (given taken : Marks) (channels : List Live) (seq : Seq) (bad : Bool) → AreLiveBy size journal given taken channels
    → IfSome (live_at seq.channel channels) (λ channel. (size : ℕ) (past : List Item) (given taken : List Mark) → Stands size channel.held past given taken → bad ≡ is_bad_ack Side.Received past seq)
    → (live_at seq.channel channels ≡ None → bad ≡ false)
    → (if bad then Some Rule.BadAck else None) ≡ broken_seq Side.Received journal seq
seq-heard size journal given taken channels seq bad s some none =
    seq-judged size journal given taken channels channels seq s bad none
    (λ c at. subst (λ (o : Option Live). IfSome o (λ channel. (size : ℕ) (past : List Item) (given taken : List Mark) → Stands size channel.held past given taken → bad ≡ is_bad_ack Side.Received past seq)) at some)

-- ---- channel zero stays

pub zero-edits : (b : Bool) (number : ℕ) (Step : Live → Live → Type 0) (old new : List Live) → EditsWhere b number Step old new → is_some (live_at 0 new) ≡ is_some (live_at 0 old)
zero-edits false number Step old new same = ap (λ (cs : List Live). is_some (live_at 0 cs)) same
zero-edits true number Step old new e = of (number == 0) refl
  where
    of : (b : Bool) → (number == 0) ≡ b → is_some (live_at 0 new) ≡ is_some (live_at 0 old)
    of true f =
        ap (λ (o : Option Live). is_some o) (e.at 0) ∙ ap (λ (x : Bool). is_some (if x then Some e.after else live_at 0 old)) f
        ∙ sym (ap (λ (k : ℕ). is_some (live_at k old)) (sym (eqb-true number 0 f)) ∙ ap (λ (o : Option Live). is_some o) e.was)
    of false f = ap (λ (o : Option Live). is_some o) (e.at 0) ∙ ap (λ (x : Bool). is_some (if x then Some e.after else live_at 0 old)) f
