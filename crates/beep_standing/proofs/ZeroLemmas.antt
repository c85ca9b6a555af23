-- The moments of channel zero that move no life, and channel zero, which has none.
use Rattle.std.proofs.Common.{◌≡◌, ℕ, ◌==◌, nat_lt, Bool, true, false, not, ◌&&◌, if◌then◌else◌, List, [], ◌∷◌, ◌++◌, length, Option, Some, None, refl, sym, ap, ◌∙◌, arith, subst}
use Rattle.std.specs.Prelude.{is_some}
use Rattle.std.proofs.lemmas.Bool.Decides.{nat_tests}
use Rattle.beep_frame.specs.declared.head.Head.{Head}
use Rattle.beep_frame.specs.declared.kind.Kind.{Kind}
use Rattle.beep_frame.specs.Frame.{is_msg, same_kind}
use Rattle.beep_history.specs.declared.journal.Side.{Side}
use Rattle.beep_history.specs.Journal.{Item, began, passed, told, same_side, other}
use Rattle.beep_history.specs.Marks.{position_of}
use Rattle.beep_history.specs.Broken.{under_way}
use Rattle.beep_mgmt.specs.Form.{Form, greeting, start, chosen, close, okay, fault}
use Rattle.beep_mgmt.specs.Message.{message_said}
use Rattle.beep_journal.specs.Lives.{Event, start_granted, close_granted, lives as lives_of, has_ended, is_live, life_named}
use Rattle.beep_journal.specs.Zero.{zero_history, zero_events, events, effect, coming, granting, asked, gathered, said_to, completes_form}
use Rattle.beep_journal.specs.Life.{life_now, life_under_way}
use Rattle.beep_journal.proofs.MomentLemmas.{equal-number, again-lives, again-live, stale-live}
use Rattle.beep_channel.specs.Held.{Live}
use Rattle.beep_lives.specs.Lives.{live_at, has_begun}
use Rattle.beep_standing.specs.Standing.{Marks, AreLiveBy}
use Rattle.beep_standing.specs.Moving.{MovesNone}
use Rattle.beep_standing.proofs.EachLemmas.{under-same}

-- ---- moments

-- a request begins and ends no life
pub coming-none : (by : Side) (position : ℕ) (form : Option Form) (es : List Event) → MovesNone es (coming by position form ++ es)
coming-none by position None es = record { lives = λ n. refl; live = λ n. refl }
coming-none by position (Some (greeting features localize profiles)) es = record { lives = λ n. refl; live = λ n. refl }
coming-none by position (Some (start number server profiles)) es = record { lives = λ n. refl; live = λ n. refl }
coming-none by position (Some (chosen profile)) es = record { lives = λ n. refl; live = λ n. refl }
coming-none by position (Some (close number code note)) es = record { lives = λ n. refl; live = λ n. refl }
coming-none by position (Some okay) es = record { lives = λ n. refl; live = λ n. refl }
coming-none by position (Some (fault code note)) es = record { lives = λ n. refl; live = λ n. refl }

pub nothing-none : (es : List Event) → MovesNone es es
nothing-none es = record { lives = λ n. refl; live = λ n. refl }

-- a frame that isn't the last of its message
pub part-none : (side : Side) (head : Head) (payload : List ℕ) (journal : List Item) → head.more ≡ true
    → MovesNone (events journal) (events (passed side head payload ∷ journal))
part-none side head payload journal more = of (head.channel == 0)
  where
    nothing : effect side head payload (zero_history journal) ≡ []
    nothing = rw more refl

    of : (b : Bool) → MovesNone (events journal) (zero_events (if b then passed side head payload ∷ zero_history journal else zero_history journal))
    of true = subst (λ (es : List Event). MovesNone (events journal) (es ++ events journal)) (sym nothing) (nothing-none (events journal))
    of false = nothing-none (events journal)

-- nothing is live before the first message
pub none-live : (n : ℕ) → is_live n (events []) ≡ false
none-live n =
    (coming-none Side.Sent 0 (message_said []) (coming Side.Received 0 (message_said []) ++ [])).live n ∙ (coming-none Side.Received 0 (message_said []) []).live n

-- ---- channel zero has no life

granting-none : (by : Side) (position : ℕ) (form : Option Form) (es : List Event) → lives_of 0 (granting by position form ++ es) ≡ lives_of 0 es
granting-none by position None es = refl
granting-none by position (Some (greeting features localize profiles)) es = refl
granting-none by position (Some (start number server profiles)) es = of (nat_lt 0 number) refl
  where
    apart : (number : ℕ) → nat_lt 0 number ≡ true → (number == 0) ≡ false
    apart number e = grind (arith, nat_tests)

    of : (b : Bool) → nat_lt 0 number ≡ b → lives_of 0 ((if b then start_granted number ∷ [] else []) ++ es) ≡ lives_of 0 es
    of true e = rw (apart number e) refl
    of false e = refl
granting-none by position (Some (chosen profile)) es = refl
granting-none by position (Some (close number code note)) es = refl
granting-none by position (Some okay) es = refl
granting-none by position (Some (fault code note)) es = refl

effect-none : (more msg grants : Bool) (by : Side) (p q : ℕ) (said form : Option Form) (es : List Event)
    → lives_of 0 ((if more then [] else (if msg then coming by p said else (if grants then granting (other by) q form else []))) ++ es) ≡ lives_of 0 es
effect-none true msg grants by p q said form es = refl
effect-none false true grants by p q said form es = (coming-none by p said es).lives 0
effect-none false false true by p q said form es = granting-none (other by) q form es
effect-none false false false by p q said form es = refl

no-lives : (zero : List Item) → lives_of 0 (zero_events zero) ≡ 0
no-lives [] = refl
no-lives (began by head ∷ zero) = no-lives zero
no-lives (passed by head payload ∷ zero) =
    effect-none head.more (is_msg head.kind) (same_kind Kind.Rpy head.kind && completes_form by head payload zero) by (length (asked by zero)) (position_of by zero head)
    (message_said (gathered by zero ++ payload)) (said_to by head zero) (zero_events zero)
    ∙ no-lives zero
no-lives (told by seq ∷ zero) = no-lives zero

pub none-of-zero : (journal : List Item) → is_live 0 (events journal) ≡ false
none-of-zero journal = ap (λ (k : ℕ). nat_lt 0 k && not (has_ended 0 k (events journal))) (no-lives (zero_history journal))

pub now-of-zero : (journal : List Item) → life_now 0 journal ≡ 0
now-of-zero journal = ap (λ (b : Bool). if b then lives_of 0 (events journal) else 0) (none-of-zero journal)

pub under-of-zero : (side : Side) (journal : List Item) → life_under_way 0 side journal ≡ 0
under-of-zero side [] = refl
under-of-zero side (began by head ∷ journal) = of (same_side by side) (head.channel == 0) (under-of-zero side journal)
  where
    of : (a b : Bool) → life_under_way 0 side journal ≡ 0 → (if a then (if b then life_now 0 journal else 0) else life_under_way 0 side journal) ≡ 0
    of true true before = now-of-zero journal
    of true false before = refl
    of false b before = before
under-of-zero side (passed by head payload ∷ journal) = under-of-zero side journal
under-of-zero side (told by seq ∷ journal) = under-of-zero side journal

-- ---- grants that move no life

pub again-none : (number : ℕ) (es : List Event) → is_live number es ≡ true → MovesNone es (start_granted number ∷ es)
again-none number es live = record { lives = λ n. again-lives number es n live; live = λ n. again-live number es n live }

pub stale-none : (number position : ℕ) (side : Side) (es : List Event) → (is_live number es && life_named number side position es == lives_of number es) ≡ false
    → MovesNone es (close_granted side position number ∷ es)
stale-none number position side es stale = record { lives = λ n. refl; live = λ n. stale-live number side position es n stale }

-- a frame of channel zero that is under way is in its channel
pub begun-zero : (size : ℕ) (journal : List Item) (given taken : Marks) (channels : List Live) (head : Head) → AreLiveBy size journal given taken channels
    → under_way Side.Received journal ≡ Some head → (head.channel == 0) ≡ true → has_begun (live_at head.channel channels) ≡ true
begun-zero size journal given taken channels head s begun zero =
    subst (λ (k : ℕ). has_begun (live_at k channels) ≡ true) (sym (equal-number head.channel 0 zero)) (of (live_at 0 channels) refl)
  where
    here : (life_under_way 0 Side.Received journal == life_now 0 journal) ≡ true
    here = ap (λ (k : ℕ). k == life_now 0 journal) (under-of-zero Side.Received journal) ∙ ap (λ (k : ℕ). 0 == k) (now-of-zero journal)

    of : (o : Option Live) → live_at 0 channels ≡ o → has_begun (live_at 0 channels) ≡ true
    of None at = absurd (let g : true ≡ false = s.there 0 ∙ ap (λ (o : Option Live). is_some o) at in cc)
    of (Some c) at =
        ap has_begun at
        ∙ ap (λ (o : Option Head). is_some o) (s.under 0 c at ∙ under-same 0 (life_now 0 journal) journal head true begun zero here)
