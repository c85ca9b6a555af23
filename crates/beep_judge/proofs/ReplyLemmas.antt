-- The last frame of a reply of channel zero.
use Rattle.std.proofs.Common.{◌≡◌, ℕ, ◌+◌, ◌<◌, ◌==◌, nat_lt, Bool, true, false, not, ◌&&◌, ◌||◌, if◌then◌else◌, List, [], ◌∷◌, ◌++◌, length, take, Option, Some, None, refl, sym, ap, ◌∙◌, arith, subst}
use Rattle.std.specs.Prelude.{is_some, option_map}
use Rattle.beep_frame.specs.declared.kind.Kind.{Kind}
use Rattle.beep_frame.specs.Frame.{is_msg, is_ans, is_nul, is_reply, same_kind}
use Rattle.beep_text.specs.declared.limits.TheConstants.{MAX_TEXT}
use Rattle.beep_mgmt.specs.Form.{Form, form_of, greeting, start, chosen, close, okay, fault}
use Rattle.beep_mgmt.specs.Message.{message_said}
use Rattle.beep_history.specs.declared.journal.Side.{Side}
use Rattle.beep_history.specs.Journal.{Item, passed, other}
use Rattle.beep_history.specs.Marks.{ends_reply, position_of}
use Rattle.beep_history.proofs.SoundLemmas.{IsDue, Sound}
use Rattle.beep_journal.specs.Lives.{Event, start_granted, life_named, has_release}
use Rattle.beep_journal.specs.Zero.{zero_history, zero_events, events, coming, granting, gathered, asked, said_to, has_form, completes_form}
use Rattle.beep_judge.specs.declared.half.Frame.{Frame}
use Rattle.beep_judge.specs.declared.half.Half.{Half}
use Rattle.beep_judge.specs.declared.half.Request.{Request}
use Rattle.beep_judge.specs.declared.channels.Channels.{Channels}
use Rattle.beep_judge.specs.Kept.{life_at}
use Rattle.beep_judge.specs.Grants.{StartsWhere, EndsWhere, Closes, Granted, GrantedWhere}
use Rattle.beep_judge.specs.Edits.{Passes, Edits}
use Rattle.beep_judge.specs.Judges.{Names, IsAsked, IsOfZero, IsSince, IsQueue, IsKept}
use Rattle.beep_judge.proofs.MovesLemmas.{Moves, moves-none, moves-granted}
use Rattle.beep_judge.proofs.PartLemmas.{live-kept}
use Rattle.beep_judge.proofs.RequestLemmas.{said-kept}
use Rattle.beep_judge.proofs.QueueLemmas.{gathered-mine, gathered-theirs, queue-on, due-of, some-waits, oldest-asked, queue-less}
use Rattle.beep_judge.proofs.ZeroLemmas.{names, passes-zero, IsZeroBegun, zero-begun}

-- ---- the moment of a reply

granting-named : (asker side : Side) (at n p : ℕ) (form : Option Form) (es : List Event) → life_named n side p (granting asker at form ++ es) ≡ life_named n side p es
granting-named asker side at n p None es = refl
granting-named asker side at n p (Some (greeting features localize profiles)) es = refl
granting-named asker side at n p (Some (start number server profiles)) es = of (nat_lt 0 number)
  where
    of : (b : Bool) → life_named n side p ((if b then start_granted number ∷ [] else []) ++ es) ≡ life_named n side p es
    of true = refl
    of false = refl
granting-named asker side at n p (Some (chosen profile)) es = refl
granting-named asker side at n p (Some (close number code note)) es = refl
granting-named asker side at n p (Some okay) es = refl
granting-named asker side at n p (Some (fault code note)) es = refl

-- ---- the release

module _ (old new : Channels) (es : List Event) (was : old.released ≡ has_release es) (asker : Side) (p stamp : ℕ) where
  started : (b live : Bool) (m : ℕ) → StartsWhere (b && live) m old new → new.released ≡ has_release ((if b then start_granted m ∷ [] else []) ++ es)
  started false live m s = s.released ∙ was
  started true false m s = s.released ∙ was
  started true true m s = s.released ∙ was

  ended : (b : Bool) (m : ℕ) → EndsWhere b m old new → new.released ≡ old.released
  ended true m s = s.released
  ended false m s = s.released

  closed : (b : Bool) (m : ℕ) → (m == 0) ≡ b → Closes b m stamp old new → new.released ≡ (m == 0 || has_release es)
  closed true m e s = s.released ∙ sym (rw e refl)
  closed false m e s = ended _ m s ∙ was ∙ sym (rw e refl)

  released-granted : (form : Option Form) → Granted form stamp old new → new.released ≡ has_release (granting asker p form ++ es)
  released-granted None s = s.released ∙ was
  released-granted (Some (greeting features localize profiles)) s = s.released ∙ was
  released-granted (Some (start number server profiles)) s = started (nat_lt 0 number) (not (is_some (life_at number old))) number s
  released-granted (Some (chosen profile)) s = s.released ∙ was
  released-granted (Some (close number code note)) s = closed (number == 0) number refl s
  released-granted (Some okay) s = s.released ∙ was
  released-granted (Some (fault code note)) s = s.released ∙ was

-- ---- the oldest request

-- a list with an element has a last one
pub record HasLast (requests : List Request) : Type 0 where
  pub later : List Request
  pub oldest : Request
  pub split : requests ≡ later ++ oldest ∷ []

has-last : (requests : List Request) → 0 < length requests → HasLast requests
has-last [] some = absurd (omega (arith, some))
has-last (r ∷ []) some = record { later = []; oldest = r; split = refl }
has-last (r ∷ (q ∷ rs)) some =
    let l = has-last (q ∷ rs) (omega arith) in
    record { later = r ∷ l.later; oldest = l.oldest; split = ap (λ (xs : List Request). r ∷ xs) l.split }

module _ (side : Side) (journal : List Item) (frame : Frame) (payload : List ℕ) (old : Channels) (mine theirs : Half) (s : IsKept side journal old mine theirs)
    (zero : (frame.head.channel == 0) ≡ true) (begun : mine.under_way ≡ Some frame) (last : frame.head.more ≡ false) (reply : is_msg frame.head.kind ≡ false) where
  abbrev history : List Item
  history = zero_history journal

  abbrev after : List Item
  after = passed side frame.head payload ∷ zero_history journal

  is-reply : is_reply frame.head.kind ≡ true
  is-reply = ap not reply

  channel : IsZeroBegun side (zero_history journal) frame.head
  channel = zero-begun side journal old mine theirs frame s begun zero

  due : (sound : Sound (other side) (zero_history journal)) × IsDue (other side) sound.oldest (zero_history journal) frame.head
  due = due-of side (zero_history journal) frame.head channel.unbroken channel.under is-reply

  ends : ends_reply frame.head ≡ true
  ends =
      let of-zero : IsOfZero old frame = (subst (λ (o : Option Frame). IsSince old side journal o) begun s.mine.frame.since).0 zero in
      of (is_ans frame.head.kind) (is_nul frame.head.kind) frame.head.more last (sym (rw zero refl) ∙ of-zero.whole_reply)
    where
      of : (a n m : Bool) → m ≡ false → (a || n) ≡ false → (not m && not a) ≡ true
      of true n m e f = cc
      of false n true e f = cc
      of false n false e f = refl

  some-request : HasLast theirs.asked.items
  some-request = has-last theirs.asked.items
      (some-waits side (zero_history journal) frame.head old is-reply theirs.asked.items s.theirs.asked due.0 due.1)

  one-asked : IsAsked old (other side) (zero_events history) (position_of side history frame.head) some-request.oldest (said_to side frame.head history)
  one-asked = oldest-asked side (zero_history journal) frame.head old is-reply theirs.asked.items s.theirs.asked due.0 due.1 some-request.later some-request.oldest some-request.split

  -- the code's test is whether the reply has its form
  pub fits-is : (fits : Bool) (said : Option Form)
      → ((later : List Request) (request : Request) (position : ℕ) → theirs.asked.items ≡ later ++ request ∷ [] → request.implied ≡ (position == 0)
      → fits ≡ has_form frame.head.kind position (option_map form_of request.said) said)
      → said ≡ message_said (mine.text.octets ++ payload) → fits ≡ completes_form side frame.head payload history
  fits-is fits said test says =
      test some-request.later some-request.oldest (position_of side history frame.head) some-request.split one-asked.implied
      ∙ ap (λ (o : Option Form). has_form frame.head.kind (position_of side history frame.head) o said) one-asked.said
      ∙ ap (λ (o : Option Form). has_form frame.head.kind (position_of side history frame.head) (said_to side frame.head history) o)
      (says ∙ said-kept mine.text.octets (gathered side history) payload s.mine.text)

  abbrev granted-events : Bool → List Event
  granted-events b = (if b then granting (other side) (position_of side history frame.head) (said_to side frame.head history) else []) ++ events journal

  its-events : (b : Bool) → b ≡ (same_kind Kind.Rpy frame.head.kind && completes_form side frame.head payload history) → zero_events after ≡ granted-events b
  its-events b e =
      ap (λ (xs : List Event). xs ++ events journal)
      (pick frame.head.more (is_msg frame.head.kind) (same_kind Kind.Rpy frame.head.kind && completes_form side frame.head payload history) b
      (coming side (length (asked side history)) (message_said (gathered side history ++ payload)))
      (granting (other side) (position_of side history frame.head) (said_to side frame.head history)) last reply e)
    where
      pick : (a m g b : Bool) (x y : List Event) → a ≡ false → m ≡ false → b ≡ g → (if a then [] else if m then x else if g then y else []) ≡ (if b then y else [])
      pick true m g b x y e f h = cc
      pick false true g b x y e f h = cc
      pick false false g b x y e f h = rw h refl

  moved : (b : Bool) (mid : Channels) → GrantedWhere b (option_map form_of some-request.oldest.said) some-request.oldest.stamp old mid → Moves old mid (events journal) (granted-events b)
  moved true mid g =
      moves-granted old mid (events journal) (live-kept side journal old mine theirs s) (other side) (position_of side history frame.head) some-request.oldest.stamp
      (said_to side frame.head history) one-asked.names (subst (λ (o : Option Form). Granted o some-request.oldest.stamp old mid) one-asked.said g)
  moved false mid g = moves-none old mid (events journal) (live-kept side journal old mine theirs s) g

  release : (b : Bool) (mid : Channels) → GrantedWhere b (option_map form_of some-request.oldest.said) some-request.oldest.stamp old mid → mid.released ≡ has_release (granted-events b)
  release true mid g =
      released-granted old mid (events journal) s.channels.released (other side) (position_of side history frame.head) some-request.oldest.stamp
      (said_to side frame.head history) (subst (λ (o : Option Form). Granted o some-request.oldest.stamp old mid) one-asked.said g)
  release false mid g = g.released ∙ s.channels.released

  named-on : (b : Bool) (of : Side) (n p : ℕ) → life_named n of p (granted-events b) ≡ life_named n of p (events journal)
  named-on true of n p = granting-named (other side) of (position_of side history frame.head) n p (said_to side frame.head history) (events journal)
  named-on false of n p = refl

  pub reply-passes : (mid new : Channels) (fits grants : Bool) → fits ≡ completes_form side frame.head payload history → grants ≡ (same_kind Kind.Rpy frame.head.kind && fits)
      → ((later : List Request) (request : Request) → theirs.asked.items ≡ later ++ request ∷ [] → GrantedWhere grants (option_map form_of request.said) request.stamp old mid)
      → Edits frame.head.channel (Passes side frame.head) mid new → length payload ≡ frame.head.size
      → (mine-later theirs-later : Half) → mine-later.under_way ≡ None → mine-later.heard ≡ true → mine-later.text.octets ≡ [] → mine-later.asked.items ≡ mine.asked.items
      → theirs-later.under_way ≡ theirs.under_way → theirs-later.heard ≡ theirs.heard → theirs-later.text.octets ≡ theirs.text.octets
      → ((later : List Request) (request : Request) → theirs.asked.items ≡ later ++ request ∷ [] → theirs-later.asked.items ≡ later)
      → IsKept side (passed side frame.head payload ∷ journal) new mine-later theirs-later
  reply-passes mid new fits grants form grants-is granted e size m t m-under m-heard m-text m-asked t-under t-heard t-text t-asked =
      passes-zero side journal frame payload old mid new mine theirs s zero begun moves-now release-now e size m t m-under m-heard
      (m-text ∙ sym (ap (λ (octets : List ℕ). take (MAX_TEXT + 1) octets) emptied))
      (subst (λ (q : List Request). IsQueue new side after q) (sym m-asked)
      (queue-on side (zero_history journal) frame.head payload old new mine.asked.items move
      (λ n p below. ap (λ (es : List Event). life_named n side p es) now ∙ named-on grants side n p) s.mine.asked (rw reply refl)))
      t-under t-heard
      (t-text ∙ s.theirs.text ∙ ap (λ (octets : List ℕ). take (MAX_TEXT + 1) octets) (sym (gathered-theirs frame.head payload (zero_history journal) side)))
      (subst (λ (q : List Request). IsQueue new (other side) after q) (sym (t-asked some-request.later some-request.oldest some-request.split))
      (queue-less side (zero_history journal) frame.head old is-reply theirs.asked.items s.theirs.asked due.0 due.1 some-request.later some-request.oldest some-request.split payload new move
      (λ n p. ap (λ (es : List Event). life_named n (other side) p es) now ∙ named-on grants (other side) n p) ends))
    where
      now : zero_events after ≡ granted-events grants
      now = its-events grants (grants-is ∙ ap (λ (b : Bool). same_kind Kind.Rpy frame.head.kind && b) form)

      step : GrantedWhere grants (option_map form_of some-request.oldest.said) some-request.oldest.stamp old mid
      step = granted some-request.later some-request.oldest some-request.split

      moves-now : Moves old mid (events journal) (zero_events after)
      moves-now = subst (λ (es : List Event). Moves old mid (events journal) es) (sym now) (moved grants mid step)

      release-now : mid.released ≡ has_release (zero_events after)
      release-now = release grants mid step ∙ sym (ap has_release now)

      move : (n stamp count : ℕ) → (n == 0) ≡ false → Names old (zero_events history) n stamp count → Names new (zero_events after) n stamp count
      move = names side journal frame payload old mid new mine theirs s zero begun moves-now release-now e size

      emptied : gathered side after ≡ []
      emptied = gathered-mine frame.head payload (zero_history journal) side ∙ rw last refl
