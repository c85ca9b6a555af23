-- A reply of channel zero has at both ends the form that its request asks for.
use Rattle.std.proofs.Common.{◌≡◌, ℕ, ◌<◌, ◌==◌, Bool, true, false, not, ◌&&◌, if◌then◌else◌, List, [], ◌∷◌, ◌++◌, length, Option, Some, None, refl, sym, ap, ◌∙◌, arith, length-append}
use Rattle.std.proofs.lemmas.Bool.Decides.{nat_tests}
use Rattle.beep_frame.specs.declared.head.Head.{Head}
use Rattle.beep_frame.specs.declared.rule.Rule.{Rule}
use Rattle.beep_frame.specs.Frame.{is_msg, is_reply}
use Rattle.beep_history.specs.declared.journal.Side.{Side}
use Rattle.beep_history.specs.Journal.{Item, began, passed, told, same_side}
use Rattle.beep_history.specs.Marks.{frames, position_of}
use Rattle.beep_history.specs.Moments.{replies_ended}
use Rattle.beep_history.specs.Broken.{under_way}
use Rattle.beep_history.proofs.RepliesLemmas.{position-is}
use Rattle.beep_mgmt.specs.Form.{Form}
use Rattle.beep_mgmt.specs.Message.{message_said}
use Rattle.beep_journal.specs.Zero.{zero_history, gathered, asked, said_at, said_to, has_form, completes_form}
use Rattle.beep_journal.specs.Broken.{broken_content}
use Rattle.beep_two_ends.specs.Seen.{arrived, sent, Sees}
use Rattle.beep_two_ends.specs.OneLife.{IsLawful, NeverBroke}
use Rattle.beep_two_ends.proofs.WaysLemmas.{frames-arrived, frames-sent, under_way-arrived, under_way-sent}
use Rattle.beep_two_ends.proofs.WindowLemmas.{unbroken}
use Rattle.beep_two_journals.proofs.ZeroLemmas.{zero_sees, gathered-arrived, gathered-sent}
use Rattle.beep_two_journals.proofs.WholesLemmas.{requests_ended, reply_after}

-- ---- what was asked, over the items of one side alone

pub forms-arrived : (past : List Item) → asked Side.Received (arrived past) ≡ asked Side.Received past
forms-arrived [] = refl
forms-arrived (began Side.Received head ∷ past) = forms-arrived past
forms-arrived (began Side.Sent head ∷ past) = forms-arrived past
forms-arrived (passed Side.Received head payload ∷ past) = rw (gathered-arrived past, forms-arrived past) refl
forms-arrived (passed Side.Sent head payload ∷ past) = forms-arrived past
forms-arrived (told Side.Received seq ∷ past) = forms-arrived past
forms-arrived (told Side.Sent seq ∷ past) = forms-arrived past

pub forms-sent : (past : List Item) → asked Side.Received (sent past) ≡ asked Side.Sent past
forms-sent [] = refl
forms-sent (began Side.Received head ∷ past) = forms-sent past
forms-sent (began Side.Sent head ∷ past) = forms-sent past
forms-sent (passed Side.Received head payload ∷ past) = forms-sent past
forms-sent (passed Side.Sent head payload ∷ past) = rw (gathered-sent past, forms-sent past) refl
forms-sent (told Side.Received seq ∷ past) = forms-sent past
forms-sent (told Side.Sent seq ∷ past) = forms-sent past

pub record FormsBefore (xs ys : List (Option Form)) : Type 0 where
  pub newer : List (Option Form)
  pub is : ys ≡ newer ++ xs

forms-if : (b : Bool) (form : Option Form) (xs ys : List (Option Form)) → FormsBefore xs ys → FormsBefore xs (if b then form ∷ ys else ys)
forms-if true form xs ys w = record { newer = form ∷ w.newer; is = ap (λ (fs : List (Option Form)). form ∷ fs) w.is }
forms-if false form xs ys w = w

pub forms-before : (newer past : List Item) → FormsBefore (asked Side.Received past) (asked Side.Received (newer ++ past))
forms-before [] past = record { newer = []; is = refl }
forms-before (began by head ∷ newer) past = forms-before newer past
forms-before (told by seq ∷ newer) past = forms-before newer past
forms-before (passed by head payload ∷ newer) past =
    forms-if (same_side by Side.Received && (is_msg head.kind && not head.more)) (message_said (gathered Side.Received (newer ++ past) ++ payload)) _ _ (forms-before newer past)

count-if : (here whole : Bool) (form : Option Form) (forms : List (Option Form)) (head : Head) (fs : List Head) → (is_msg head.kind && not head.more) ≡ whole
    → length forms ≡ requests_ended fs
    → length (if here && whole then form ∷ forms else forms) ≡ requests_ended (if here then head ∷ fs else fs)
count-if true true form forms head fs w e = rw w (omega (arith, e))
count-if true false form forms head fs w e = rw w e
count-if false whole form forms head fs w e = e

-- as many requests say something as frames have ended one
pub count-asked : (side : Side) (past : List Item) → length (asked side past) ≡ requests_ended (frames side past)
count-asked side [] = refl
count-asked side (began by head ∷ past) = count-asked side past
count-asked side (told by seq ∷ past) = count-asked side past
count-asked side (passed by head payload ∷ past) =
    count-if (same_side by side) (is_msg head.kind && not head.more) (message_said (gathered side past ++ payload)) (asked side past) head (frames side past) refl (count-asked side past)

-- what was said at an earlier position stays
pub said-before : (p : ℕ) (newer forms : List (Option Form)) → p < length forms → said_at p (newer ++ forms) ≡ said_at p forms
said-before p [] forms h = refl
said-before p (form ∷ newer) forms h =
    let e : (length (newer ++ forms) == p) ≡ false = apart (length (newer ++ forms)) p (omega (arith, length-append newer forms)) in
    rw e (said-before p newer forms h)
  where
    apart : (a b : ℕ) → b < a → (a == b) ≡ false
    apart a b h = grind (arith, nat_tests)

-- ---- the form of a reply

form-same : (head : Head) (p q : ℕ) (s t m n : Option Form) → p ≡ q → s ≡ t → m ≡ n → has_form head.kind p s m ≡ has_form head.kind q t n
form-same head p q s t m n e f g = rw (e, f, g) refl

pub form-arrives : (mine theirs : List Item) (head : Head) (payload : List ℕ) → IsLawful mine → NeverBroke mine → IsLawful theirs → NeverBroke theirs → Sees mine theirs
    → under_way Side.Sent mine ≡ Some head → is_reply head.kind ≡ true
    → completes_form Side.Sent head payload mine ≡ true → completes_form Side.Received head payload theirs ≡ true
form-arrives mine theirs head payload l w l' w' s under r c =
    let u = unbroken mine l w in
    let v = unbroken theirs l' w' in
    let under' : under_way Side.Received theirs ≡ Some head = sym (under_way-arrived theirs) ∙ ap (under_way Side.Received) s.all ∙ under_way-sent mine ∙ under in
    let same_frames : frames Side.Received theirs ≡ frames Side.Sent mine = sym (frames-arrived theirs) ∙ ap (frames Side.Received) s.all ∙ frames-sent mine in
    let at : position_of Side.Sent mine head ≡ replies_ended (frames Side.Sent mine) = position-is Side.Sent mine head u under r in
    let at' : position_of Side.Received theirs head ≡ replies_ended (frames Side.Sent mine) = position-is Side.Received theirs head v under' r ∙ ap replies_ended same_frames in
    let whole : replies_ended (frames Side.Sent mine) < length (asked Side.Received mine) =
    omega (arith, reply_after Side.Received mine head u under r, count-asked Side.Received mine) in
    let b = forms-before s.newer (arrived mine) in
    let more : asked Side.Sent theirs ≡ b.newer ++ asked Side.Received mine =
    sym (forms-sent theirs) ∙ ap (asked Side.Received) s.some ∙ b.is ∙ ap (λ (fs : List (Option Form)). b.newer ++ fs) (forms-arrived mine) in
    let said_is : said_to Side.Received head theirs ≡ said_to Side.Sent head mine =
    ap (λ (p : ℕ). said_at p (asked Side.Sent theirs)) at' ∙ ap (said_at (replies_ended (frames Side.Sent mine))) more
    ∙ said-before (replies_ended (frames Side.Sent mine)) b.newer (asked Side.Received mine) whole
    ∙ ap (λ (p : ℕ). said_at p (asked Side.Received mine)) (sym at) in
    let text : gathered Side.Received theirs ≡ gathered Side.Sent mine =
    sym (gathered-arrived theirs) ∙ ap (gathered Side.Received) s.all ∙ gathered-sent mine in
    form-same head (position_of Side.Received theirs head) (position_of Side.Sent mine head) (said_to Side.Received head theirs) (said_to Side.Sent head mine)
    (message_said (gathered Side.Received theirs ++ payload)) (message_said (gathered Side.Sent mine ++ payload))
    (at' ∙ sym at) said_is (ap (λ (t : List ℕ). message_said (t ++ payload)) text) ∙ c

-- ---- content of a journal

no-rule : (b : Bool) → (if b then Some Rule.ZeroReply else None) ≡ None → b ≡ false
no-rule true e = cc
no-rule false e = refl

content-is : (c r m f : Bool) → (c && r && not m && not f) ≡ false → c ≡ true → r ≡ true → m ≡ false → f ≡ true
content-is c r m true e a b d = refl
content-is c r m false e a b d = let bad = rw (a, b, d) at e in cc

-- a whole reply of channel zero has its form where its content breaks no rule
pub form_is : (side : Side) (past : List Item) (head : Head) (payload : List ℕ) → broken_content side past head payload ≡ None → (head.channel == 0) ≡ true
    → is_reply head.kind ≡ true → head.more ≡ false → completes_form side head payload (zero_history past) ≡ true
unfolding broken_content
form_is side past head payload e z r m =
    content-is (head.channel == 0) (is_reply head.kind) head.more (completes_form side head payload (zero_history past))
    (no-rule (head.channel == 0 && is_reply head.kind && not head.more && not (completes_form side head payload (zero_history past))) e) z r m

content-none : (c r m f : Bool) → (c ≡ true → r ≡ true → m ≡ false → f ≡ true) → (if c && r && not m && not f then Some Rule.ZeroReply else None) ≡ None
content-none true true false f h = let e = h refl refl refl in rw e refl
content-none true true true f h = refl
content-none true false m f h = refl
content-none false r m f h = refl

-- and the other way
pub content_is : (side : Side) (past : List Item) (head : Head) (payload : List ℕ)
    → ((head.channel == 0) ≡ true → is_reply head.kind ≡ true → head.more ≡ false → completes_form side head payload (zero_history past) ≡ true)
    → broken_content side past head payload ≡ None
unfolding broken_content
content_is side past head payload h = content-none (head.channel == 0) (is_reply head.kind) head.more (completes_form side head payload (zero_history past)) h

-- content that breaks no rule as it is sent breaks none where it arrives
pub content_arrives : (mine theirs : List Item) (head : Head) (payload : List ℕ) → IsLawful (zero_history mine) → NeverBroke (zero_history mine)
    → IsLawful (zero_history theirs) → NeverBroke (zero_history theirs) → Sees mine theirs → under_way Side.Sent (zero_history mine) ≡ Some head
    → broken_content Side.Sent mine head payload ≡ None → broken_content Side.Received theirs head payload ≡ None
content_arrives mine theirs head payload l w l2 w2 s under e =
    content_is Side.Received theirs head payload (λ z r m.
    form-arrives (zero_history mine) (zero_history theirs) head payload l w l2 w2 (zero_sees mine theirs s) under r (form_is Side.Sent mine head payload e z r m))
