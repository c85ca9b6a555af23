-- The last frame of a request of channel zero.
use Rattle.std.proofs.Common.{◌≡◌, ℕ, ◌+◌, ◌<◌, ◌≤◌, ◌==◌, nat_le, Bool, true, false, not, ◌&&◌, if◌then◌else◌, List, [], ◌∷◌, ◌++◌, length, length-append, take, Option, Some, None, ◌⊎◌, inl, inr, refl, sym, ap, ◌∙◌, arith, subst}
use Rattle.std.specs.Prelude.{is_some, option_map}
use Rattle.std.specs.Option.{option_map_or}
use Rattle.std.proofs.lemmas.Bool.{cases_lt}
use Rattle.std.proofs.lemmas.Bool.Decides.{nat_tests}
use Rattle.std.proofs.lemmas.List.{take_all, length-take-le}
use Rattle.beep_frame.specs.Frame.{is_msg}
use Rattle.beep_text.specs.declared.limits.TheConstants.{MAX_TEXT}
use Rattle.beep_mgmt.specs.Form.{Form, form_of, greeting, start, chosen, close, okay, fault}
use Rattle.beep_mgmt.specs.Message.{message_said}
use Rattle.beep_history.specs.declared.journal.Side.{Side}
use Rattle.beep_history.specs.Journal.{Item, began, passed, told, same_side, other}
use Rattle.beep_journal.specs.Lives.{Event, lives, is_live, life_named, has_release}
use Rattle.beep_journal.specs.Zero.{zero_history, zero_events, events, coming, gathered, asked}
use Rattle.beep_judge.specs.declared.life.Life.{Life}
use Rattle.beep_judge.specs.declared.half.Frame.{Frame}
use Rattle.beep_judge.specs.declared.half.Half.{Half}
use Rattle.beep_judge.specs.declared.half.Request.{Request}
use Rattle.beep_judge.specs.declared.channels.Channels.{Channels}
use Rattle.beep_judge.specs.Kept.{life_at}
use Rattle.beep_judge.specs.Grants.{stamp_at, stamp_of}
use Rattle.beep_judge.specs.Edits.{Passes, Edits}
use Rattle.beep_judge.specs.Judges.{Names, IsQueue, IsKept}
use Rattle.beep_journal.proofs.MomentLemmas.{same-number, apart-more}
use Rattle.beep_judge.proofs.MovesLemmas.{Moves, moves-coming}
use Rattle.beep_judge.proofs.PartLemmas.{live-kept}
use Rattle.beep_judge.proofs.QueueLemmas.{gathered-mine, gathered-theirs, queue-new, queue-theirs-on}
use Rattle.beep_judge.proofs.ZeroLemmas.{names, passes-zero, IsZeroBegun, zero-begun}

-- ---- what a message says by what is kept of its text

longer : (n : ℕ) → MAX_TEXT < n → nat_le n MAX_TEXT ≡ false
longer n h = grind (arith, nat_tests)

said-long : (message : List ℕ) → MAX_TEXT < length message → message_said message ≡ None
unfolding message_said
said-long message long = rw (longer (length message) long) refl

pub said-kept : (text whole payload : List ℕ) → text ≡ take (MAX_TEXT + 1) whole → message_said (text ++ payload) ≡ message_said (whole ++ payload)
said-kept text whole payload e = rw e (of (cases_lt (length whole) (MAX_TEXT + 1)))
  where
    of : (length whole < MAX_TEXT + 1) ⊎ (MAX_TEXT + 1 ≤ length whole) → message_said (take (MAX_TEXT + 1) whole ++ payload) ≡ message_said (whole ++ payload)
    of (inl short) = ap (λ (xs : List ℕ). message_said (xs ++ payload)) (take_all (MAX_TEXT + 1) whole (omega (arith, short)))
    of (inr long) =
        said-long (take (MAX_TEXT + 1) whole ++ payload) (omega (arith, length-append (take (MAX_TEXT + 1) whole) payload, length-take-le (MAX_TEXT + 1) whole long))
        ∙ sym (said-long (whole ++ payload) (omega (arith, length-append whole payload, long)))

-- ---- the implied request is among those asked

some-more : (b : Bool) (form : Option Form) (forms : List (Option Form)) → 0 < length forms → 0 < length (if b then form ∷ forms else forms)
some-more true form forms some = omega arith
some-more false form forms some = some

pub some-asked : (side : Side) (journal : List Item) → 0 < length (asked side (zero_history journal))
some-asked Side.Received [] = omega arith
some-asked Side.Sent [] = omega arith
some-asked side (began by head ∷ journal) = of (head.channel == 0) (some-asked side journal)
  where
    of : (b : Bool) → 0 < length (asked side (zero_history journal)) → 0 < length (asked side (if b then began by head ∷ zero_history journal else zero_history journal))
    of true some = some
    of false some = some
some-asked side (told by seq ∷ journal) = of (seq.channel == 0) (some-asked side journal)
  where
    of : (b : Bool) → 0 < length (asked side (zero_history journal)) → 0 < length (asked side (if b then told by seq ∷ zero_history journal else zero_history journal))
    of true some = some
    of false some = some
some-asked side (passed by head payload ∷ journal) = of (head.channel == 0) (some-asked side journal)
  where
    of : (b : Bool) → 0 < length (asked side (zero_history journal)) → 0 < length (asked side (if b then passed by head payload ∷ zero_history journal else zero_history journal))
    of true some = some-more (same_side by side && (is_msg head.kind && not head.more)) (message_said (gathered side (zero_history journal) ++ payload)) (asked side (zero_history journal)) some
    of false some = some

-- ---- the moment of a request

coming-named : (by side : Side) (at n p : ℕ) (form : Option Form) (es : List Event) → (same_side by side && at == p) ≡ false
    → life_named n side p (coming by at form ++ es) ≡ life_named n side p es
coming-named by side at n p None es e = refl
coming-named by side at n p (Some (greeting features localize profiles)) es e = refl
coming-named by side at n p (Some (start number server profiles)) es e = refl
coming-named by side at n p (Some (chosen profile)) es e = refl
coming-named by side at n p (Some (close number code note)) es e = rw e refl
coming-named by side at n p (Some okay) es e = refl
coming-named by side at n p (Some (fault code note)) es e = refl

coming-release : (by : Side) (at : ℕ) (form : Option Form) (es : List Event) → has_release (coming by at form ++ es) ≡ has_release es
coming-release by at None es = refl
coming-release by at (Some (greeting features localize profiles)) es = refl
coming-release by at (Some (start number server profiles)) es = refl
coming-release by at (Some (chosen profile)) es = refl
coming-release by at (Some (close number code note)) es = refl
coming-release by at (Some okay) es = refl
coming-release by at (Some (fault code note)) es = refl

same-mine : (side : Side) → same_side side side ≡ true
same-mine Side.Received = refl
same-mine Side.Sent = refl

same-theirs : (side : Side) → same_side side (other side) ≡ false
same-theirs Side.Received = refl
same-theirs Side.Sent = refl

not-first : (n : ℕ) → 0 < n → false ≡ (n == 0)
not-first n some = grind (arith, nat_tests)

module _ (side : Side) (journal : List Item) (frame : Frame) (payload : List ℕ) (old new : Channels) (mine theirs : Half) (s : IsKept side journal old mine theirs)
    (zero : (frame.head.channel == 0) ≡ true) (begun : mine.under_way ≡ Some frame) (last : frame.head.more ≡ false) (msg : is_msg frame.head.kind ≡ true)
    (e : Edits frame.head.channel (Passes side frame.head) old new) (size : length payload ≡ frame.head.size) where
  abbrev history : List Item
  history = zero_history journal

  abbrev after : List Item
  after = passed side frame.head payload ∷ zero_history journal

  abbrev form : Option Form
  form = message_said (gathered side (zero_history journal) ++ payload)

  abbrev place : ℕ
  place = length (asked side (zero_history journal))

  its-events : zero_events after ≡ coming side place form ++ events journal
  its-events = rw (last, msg) refl

  moved : Moves old old (events journal) (zero_events after)
  moved = subst (λ (es : List Event). Moves old old (events journal) es) (sym its-events)
      (moves-coming old old (events journal) (live-kept side journal old mine theirs s) side place form (record { at = λ n. refl; stamps = refl; released = refl }))

  release : old.released ≡ has_release (zero_events after)
  release = s.channels.released ∙ sym (ap has_release its-events ∙ coming-release side place form (events journal))

  move-names : (n stamp count : ℕ) → (n == 0) ≡ false → Names old (zero_events history) n stamp count → Names new (zero_events after) n stamp count
  move-names = names side journal frame payload old old new mine theirs s zero begun moved release e size

  named-mine : (n p : ℕ) → p < place → life_named n side p (zero_events after) ≡ life_named n side p (zero_events history)
  named-mine n p below =
      ap (λ (es : List Event). life_named n side p es) its-events
      ∙ coming-named side side place n p form (events journal) (rw (apart-more place p below) (and-false (same_side side side)))
    where
      and-false : (b : Bool) → (b && false) ≡ false
      and-false true = refl
      and-false false = refl

  named-theirs : (n p : ℕ) → life_named n (other side) p (zero_events after) ≡ life_named n (other side) p (zero_events history)
  named-theirs n p =
      ap (λ (es : List Event). life_named n (other side) p es) its-events
      ∙ coming-named side (other side) place n p form (events journal) (rw (same-theirs side) refl)

  -- a close names the life that is live as it comes
  close-names : (n stamp : ℕ) (code : ℕ) (note : List ℕ) → form ≡ Some (close n code note) → (n == 0) ≡ false → stamp ≡ stamp_at n old
      → Names new (zero_events after) n stamp (life_named n side place (zero_events after))
  close-names n stamp code note is above at =
      subst (λ (k : ℕ). Names new (zero_events after) n stamp k) (sym named-now)
      (move-names n stamp (lives n (events journal)) above (by (life_at n old) refl))
    where
      named-now : life_named n side place (zero_events after) ≡ lives n (events journal)
      named-now =
          ap (λ (es : List Event). life_named n side place es) (its-events ∙ ap (λ (o : Option Form). coming side place o ++ events journal) is)
          ∙ rw (same-mine side, same-number place) refl

      live : is_live n (events journal) ≡ is_some (life_at n old)
      live = live-kept side journal old mine theirs s n above

      by : (o : Option Life) → life_at n old ≡ o → Names old (events journal) n stamp (lives n (events journal))
      by (Some life) here =
          let st : stamp ≡ life.stamp = at ∙ ap (λ (o : Option Life). option_map_or (λ (l : Life). l.stamp) o 0) here in
          record {
            begun = omega arith;
            given = (let g = s.channels.given n life here in omega (arith, st, g));
            same = ap (λ (o : Option Life). option_map_or (λ (l : Life). l.stamp == stamp) o false) here
                ∙ rw (st, same-number life.stamp, live, here, same-number (lives n (events journal))) refl;
          }
      by None here =
          let st : stamp ≡ 0 = at ∙ ap (λ (o : Option Life). option_map_or (λ (l : Life). l.stamp) o 0) here in
          record {
            begun = omega arith;
            given = (let g = s.channels.given 0 old.zero refl in omega (arith, st, g));
            same = ap (λ (o : Option Life). option_map_or (λ (l : Life). l.stamp == stamp) o false) here ∙ sym (rw (live, here) refl);
          }

  pub request-passes : (request : Request) → option_map form_of request.said ≡ message_said (mine.text.octets ++ payload) → request.implied ≡ false
      → request.stamp ≡ stamp_of (option_map form_of request.said) old
      → (mine-later : Half) → mine-later.under_way ≡ None → mine-later.heard ≡ true → mine-later.text.octets ≡ [] → mine-later.asked.items ≡ request ∷ mine.asked.items
      → IsKept side (passed side frame.head payload ∷ journal) new mine-later theirs
  request-passes request said implied stamp m under heard text queue =
      passes-zero side journal frame payload old old new mine theirs s zero begun moved release e size m theirs under heard
      (text ∙ sym (ap (λ (octets : List ℕ). take (MAX_TEXT + 1) octets) emptied))
      (subst (λ (q : List Request). IsQueue new side after q) (sym queue)
      (queue-new side (zero_history journal) frame.head payload old new mine.asked.items move-names named-mine s.mine.asked msg last
      channel.unbroken channel.under request (record {
        said = said-form;
        implied = implied ∙ not-first place (some-asked side journal);
        names = λ n code note is above. close-names n request.stamp code note is above
            (stamp ∙ ap (λ (o : Option Form). stamp_of o old) (said-form ∙ is));
      })))
      refl refl
      (s.theirs.text ∙ ap (λ (octets : List ℕ). take (MAX_TEXT + 1) octets) (sym (gathered-theirs frame.head payload (zero_history journal) side)))
      (queue-theirs-on side (zero_history journal) frame.head payload old new move-names named-theirs theirs.asked.items s.theirs.asked (rw msg refl))
    where
      emptied : gathered side after ≡ []
      emptied = gathered-mine frame.head payload (zero_history journal) side ∙ rw last refl

      channel : IsZeroBegun side (zero_history journal) frame.head
      channel = zero-begun side journal old mine theirs frame s begun zero

      said-form : option_map form_of request.said ≡ form
      said-form = said ∙ said-kept mine.text.octets (gathered side (zero_history journal)) payload s.mine.text
