-- The items of one side, as the octets of that side spell them.
use Rattle.std.proofs.Common.{◌≡◌, ℕ, List, [], ◌∷◌, ◌++◌, Some, None, refl, sym, ap, ◌∙◌, subst, append_assoc, arith}
use Rattle.std.specs.List.{flat_map, AllByRecursion}
use Rattle.beep_session.specs.beep_frame.specs.declared.head.Head.{Head}
use Rattle.beep_session.specs.beep_frame.specs.declared.seq.Seq.{Seq}
use Rattle.beep_session.specs.beep_frame.specs.Frame.{Frame, framed, seq_frame, IsFrame, IsSeq}
use Rattle.beep_session.specs.beep_frame.specs.Spelling.{spelling, header, trailer}
use Rattle.beep_session.specs.beep_frame.specs.Stream.{IsHeadOf}
use Rattle.beep_session.specs.beep_frame.specs.Decoding.{DecoderState}
use Rattle.beep_session.specs.beep_frame.proofs.LawLemmas.{means}
use Rattle.beep_session.specs.beep_history.specs.declared.journal.Side.{Side}
use Rattle.beep_session.specs.beep_history.specs.Journal.{Item, began, passed, told}
use Rattle.beep_session.specs.beep_history.specs.Broken.{under_way}
use Rattle.beep_session.specs.beep_journal.specs.Journal.{spelled}
use Rattle.beep_session.specs.beep_journal.proofs.ShownLemmas.{frames_of, spelled-frames}
use Rattle.beep_session.specs.beep_hearing.specs.Hears.{MayJoin, Join, IsFed}
use Rattle.beep_two_journals.specs.beep_two_ends.specs.Seen.{arrived, sent}
use Rattle.beep_two_journals.specs.beep_two_ends.specs.Octets.{items_of, read_items}
use Rattle.beep_two_journals.specs.beep_two_ends.proofs.OctetsLemmas.{in_order, no_header}
use Rattle.beep_two_journals.proofs.ReadingLemmas.{items-last, all-last}

-- ---- items that come

-- an item comes in its place, whatever rule it breaks
abbrev pub Comes : Item → List Item → Type 0
Comes (began side head) journal = (side ≡ Side.Received) × (under_way Side.Received journal ≡ None)
Comes (passed side head payload) journal =
    (side ≡ Side.Received) × IsFrame (framed head payload) × (under_way Side.Received journal ≡ Some head)
Comes (told side seq) journal = (side ≡ Side.Received) × IsSeq seq × (under_way Side.Received journal ≡ None)

abbrev pub AllCome : List Item → List Item → Type 0
AllCome [] journal = Unit {0}
AllCome (item ∷ gained) journal = Comes item (gained ++ journal) × AllCome gained journal

item-comes : (item : Item) (journal : List Item) → MayJoin item journal → Comes item journal
item-comes (began side head) journal j = (j.0, j.2)
item-comes (passed side head payload) journal j = j
item-comes (told side seq) journal j = (j.0, j.1, j.2)

pub all-come : (gained journal : List Item) → Join gained journal → AllCome gained journal
all-come [] journal j = tt
all-come (item ∷ gained) journal j = (item-comes item (gained ++ journal) j.0, all-come gained journal j.1)

-- ---- what arrived

-- the items that arrived are those of whole frames, and the header of the frame under way
pub record Reads (journal : List Item) : Type 0 where
  pub each : AllByRecursion IsFrame (frames_of Side.Received journal)
  pub items : arrived journal ≡ read_items (frames_of Side.Received journal) (under_way Side.Received journal)

module _ (journal : List Item) where
  item-reads : (item : Item) → Comes item journal → Reads journal → Reads (item ∷ journal)
  item-reads (began side head) j r =
      subst (λ (by : Side). Reads (began by head ∷ journal)) (sym j.0) (record {
        each = r.each;
        items = ap (λ (xs : List Item). began Side.Received head ∷ xs) (r.items ∙ ap (read_items (frames_of Side.Received journal)) j.1);
      })
  item-reads (passed side head payload) j r =
      subst (λ (by : Side). Reads (passed by head payload ∷ journal)) (sym j.0) (record {
        each = all-last (frames_of Side.Received journal) (framed head payload) r.each j.1;
        items = ap (λ (xs : List Item). passed Side.Received head payload ∷ xs) (r.items ∙ ap (read_items (frames_of Side.Received journal)) j.2)
            ∙ sym (items-last (frames_of Side.Received journal) (framed head payload));
      })
  item-reads (told side seq) j r =
      subst (λ (by : Side). Reads (told by seq ∷ journal)) (sym j.0) (record {
        each = all-last (frames_of Side.Received journal) (seq_frame seq) r.each j.1;
        items = ap (λ (xs : List Item). told Side.Received seq ∷ xs) (r.items ∙ ap (read_items (frames_of Side.Received journal)) j.2)
            ∙ sym (items-last (frames_of Side.Received journal) (seq_frame seq))
            ∙ ap (read_items (frames_of Side.Received journal ++ seq_frame seq ∷ [])) (sym j.2);
      })

pub gained-reads : (gained journal : List Item) → AllCome gained journal → Reads journal → Reads (gained ++ journal)
gained-reads [] journal j r = r
gained-reads (item ∷ gained) journal j r = item-reads (gained ++ journal) item j.0 (gained-reads gained journal j.1 r)

item-arrived : (item : Item) (journal : List Item) → Comes item journal → arrived (item ∷ journal) ≡ item ∷ arrived journal
item-arrived (began side head) journal j = subst (λ (by : Side). arrived (began by head ∷ journal) ≡ began by head ∷ arrived journal) (sym j.0) refl
item-arrived (passed side head payload) journal j =
    subst (λ (by : Side). arrived (passed by head payload ∷ journal) ≡ passed by head payload ∷ arrived journal) (sym j.0) refl
item-arrived (told side seq) journal j = subst (λ (by : Side). arrived (told by seq ∷ journal) ≡ told by seq ∷ arrived journal) (sym j.0) refl

pub gained-arrived : (gained journal : List Item) → AllCome gained journal → arrived (gained ++ journal) ≡ gained ++ arrived journal
gained-arrived [] journal j = refl
gained-arrived (item ∷ gained) journal j =
    item-arrived item (gained ++ journal) j.0 ∙ ap (λ (xs : List Item). item ∷ xs) (gained-arrived gained journal j.1)

-- ---- what was sent

-- the items that were sent are those of whole frames
pub record Sends (journal : List Item) : Type 0 where
  pub each : AllByRecursion IsFrame (frames_of Side.Sent journal)
  pub items : sent journal ≡ items_of (frames_of Side.Sent journal)

-- what arrives changes nothing of it
item-beside : {X : Type 0} (f : List Item → X) (item : Item) (journal : List Item) → Comes item journal
    → ((head : Head) → f (began Side.Received head ∷ journal) ≡ f journal)
    → ((head : Head) (payload : List ℕ) → f (passed Side.Received head payload ∷ journal) ≡ f journal)
    → ((seq : Seq) → f (told Side.Received seq ∷ journal) ≡ f journal) → f (item ∷ journal) ≡ f journal
item-beside f (began side head) journal j b p t = subst (λ (by : Side). f (began by head ∷ journal) ≡ f journal) (sym j.0) (b head)
item-beside f (passed side head payload) journal j b p t = subst (λ (by : Side). f (passed by head payload ∷ journal) ≡ f journal) (sym j.0) (p head payload)
item-beside f (told side seq) journal j b p t = subst (λ (by : Side). f (told by seq ∷ journal) ≡ f journal) (sym j.0) (t seq)

pub gained-sent : (gained journal : List Item) → AllCome gained journal → sent (gained ++ journal) ≡ sent journal
gained-sent [] journal j = refl
gained-sent (item ∷ gained) journal j =
    item-beside sent item (gained ++ journal) j.0 (λ head. refl) (λ head payload. refl) (λ seq. refl) ∙ gained-sent gained journal j.1

pub gained-frames : (gained journal : List Item) → AllCome gained journal → frames_of Side.Sent (gained ++ journal) ≡ frames_of Side.Sent journal
gained-frames [] journal j = refl
gained-frames (item ∷ gained) journal j =
    item-beside (frames_of Side.Sent) item (gained ++ journal) j.0 (λ head. refl) (λ head payload. refl) (λ seq. refl) ∙ gained-frames gained journal j.1

pub gained-spelled : (gained journal : List Item) → AllCome gained journal → spelled Side.Sent (gained ++ journal) ≡ spelled Side.Sent journal
gained-spelled [] journal j = refl
gained-spelled (item ∷ gained) journal j =
    item-beside (spelled Side.Sent) item (gained ++ journal) j.0 (λ head. refl) (λ head payload. refl) (λ seq. refl) ∙ gained-spelled gained journal j.1

pub gained-sends : (gained journal : List Item) → AllCome gained journal → Sends journal → Sends (gained ++ journal)
gained-sends gained journal j s = record {
  each = subst (λ (fs : List Frame). AllByRecursion IsFrame fs) (sym (gained-frames gained journal j)) s.each;
  items = gained-sent gained journal j ∙ s.items ∙ ap items_of (sym (gained-frames gained journal j));
}

pub frame-sends : (journal : List Item) (head : Head) (payload : List ℕ) → IsFrame (framed head payload) → Sends journal
    → Sends (passed Side.Sent head payload ∷ began Side.Sent head ∷ journal)
frame-sends journal head payload w s = record {
  each = all-last (frames_of Side.Sent journal) (framed head payload) s.each w;
  items = ap (λ (xs : List Item). passed Side.Received head payload ∷ began Side.Received head ∷ xs) s.items
      ∙ sym (items-last (frames_of Side.Sent journal) (framed head payload));
}

pub seq-sends : (journal : List Item) (seq : Seq) → IsSeq seq → Sends journal → Sends (told Side.Sent seq ∷ journal)
seq-sends journal seq w s = record {
  each = all-last (frames_of Side.Sent journal) (seq_frame seq) s.each w;
  items = ap (λ (xs : List Item). told Side.Received seq ∷ xs) s.items ∙ sym (items-last (frames_of Side.Sent journal) (seq_frame seq));
}

-- ---- the octets between

-- what one end used of the octets that the other sent are the first items of these
pub reads-on : (mine theirs : List Item) (fed rest later : List ℕ) → Sends mine → Reads theirs → fed ≡ spelled Side.Received theirs ++ rest
    → IsHeadOf rest (under_way Side.Received theirs) → fed ++ later ≡ spelled Side.Sent mine → (newer : List Item) × (sent mine ≡ newer ++ arrived theirs)
reads-on mine theirs fed rest later s r is head all =
    let o = in_order (frames_of Side.Sent mine) (frames_of Side.Received theirs) rest later (under_way Side.Received theirs) s.each r.each whole head in
    (o.0, s.items ∙ o.1 ∙ ap (λ (xs : List Item). o.0 ++ xs) (sym r.items))
  where
    whole : (flat_map spelling (frames_of Side.Received theirs) ++ rest) ++ later ≡ flat_map spelling (frames_of Side.Sent mine)
    whole =
        ap (λ (xs : List ℕ). xs ++ later) (ap (λ (xs : List ℕ). xs ++ rest) (sym (spelled-frames Side.Received theirs)) ∙ sym is) ∙ all
        ∙ spelled-frames Side.Sent mine

-- the header of what is left has begun
pub head-of-fed : (fed rest : List ℕ) (journal : List Item) (decoder : DecoderState) (used : ℕ) → IsFed fed rest journal decoder used
    → IsHeadOf rest (under_way Side.Received journal)
head-of-fed fed rest journal decoder used f = (means decoder fed f.frames rest (under_way Side.Received journal) f.was_fed).is_head

pub head-of-whole : (head : Head) (payload : List ℕ) → IsFrame (framed head payload) → IsHeadOf (spelling (framed head payload)) (Some head)
head-of-whole head payload w = record { is_head = w.0; more = payload ++ trailer; begins = append_assoc (header head) payload trailer }

pub head-of-none : IsHeadOf [] None
head-of-none = record { short = omega arith; none = λ head more w e. no_header head more (sym e) }
