-- Channel zero of a journal over the items of one side alone.
use Rattle.std.proofs.Common.{◌≡◌, ◌==◌, Bool, true, false, if◌then◌else◌, List, [], ◌∷◌, ◌++◌, refl, sym, ap, ◌∙◌, append_assoc}
use Rattle.beep_history.specs.declared.journal.Side.{Side}
use Rattle.beep_history.specs.Journal.{turned, Item, began, passed, told, opening}
use Rattle.beep_two_ends.specs.Seen.{arrived, sent, Sees}
use Rattle.beep_journal.specs.Zero.{zero_history, gathered}

-- the items of channel zero
abbrev pub zeros : List Item → List Item
zeros [] = []
zeros (began by head ∷ past) = if head.channel == 0 then began by head ∷ zeros past else zeros past
zeros (passed by head payload ∷ past) = if head.channel == 0 then passed by head payload ∷ zeros past else zeros past
zeros (told by seq ∷ past) = if seq.channel == 0 then told by seq ∷ zeros past else zeros past

kept : (item : Item) (xs ys zs : List Item) (b : Bool) → xs ≡ ys ++ zs → (if b then item ∷ xs else xs) ≡ (if b then item ∷ ys else ys) ++ zs
kept item xs ys zs true e = ap (λ (l : List Item). item ∷ l) e
kept item xs ys zs false e = e

pub zeros-append : (newer past : List Item) → zeros (newer ++ past) ≡ zeros newer ++ zeros past
zeros-append [] past = refl
zeros-append (began by head ∷ newer) past = kept (began by head) _ _ _ (head.channel == 0) (zeros-append newer past)
zeros-append (passed by head payload ∷ newer) past = kept (passed by head payload) _ _ _ (head.channel == 0) (zeros-append newer past)
zeros-append (told by seq ∷ newer) past = kept (told by seq) _ _ _ (seq.channel == 0) (zeros-append newer past)

-- a filter and a side commute
arrived-in : (item : Item) (xs ys : List Item) (b : Bool) → arrived (item ∷ xs) ≡ item ∷ arrived xs → arrived xs ≡ ys
    → arrived (if b then item ∷ xs else xs) ≡ (if b then item ∷ ys else ys)
arrived-in item xs ys true e h = e ∙ ap (λ (l : List Item). item ∷ l) h
arrived-in item xs ys false e h = h

arrived-out : (item : Item) (xs ys : List Item) (b : Bool) → arrived (item ∷ xs) ≡ arrived xs → arrived xs ≡ ys
    → arrived (if b then item ∷ xs else xs) ≡ ys
arrived-out item xs ys true e h = e ∙ h
arrived-out item xs ys false e h = h

sent-in : (item : Item) (xs ys : List Item) (b : Bool) → sent (item ∷ xs) ≡ turned item ∷ sent xs → sent xs ≡ ys
    → sent (if b then item ∷ xs else xs) ≡ (if b then turned item ∷ ys else ys)
sent-in item xs ys true e h = e ∙ ap (λ (l : List Item). turned item ∷ l) h
sent-in item xs ys false e h = h

sent-out : (item : Item) (xs ys : List Item) (b : Bool) → sent (item ∷ xs) ≡ sent xs → sent xs ≡ ys
    → sent (if b then item ∷ xs else xs) ≡ ys
sent-out item xs ys true e h = e ∙ h
sent-out item xs ys false e h = h

-- under the header of a frame, as `zeros` over a tail with the opening
with-opening : (item : Item) (xs ys : List Item) (b : Bool) → xs ≡ ys ++ arrived opening
    → (if b then item ∷ xs else xs) ≡ (if b then item ∷ ys else ys) ++ arrived opening
with-opening item xs ys b e = kept item xs ys (arrived opening) b e

pub zero-arrived : (past : List Item) → arrived (zero_history past) ≡ zeros (arrived past) ++ arrived opening
zero-arrived [] = refl
zero-arrived (began Side.Received head ∷ past) = arrived-in (began Side.Received head) (zero_history past) _ (head.channel == 0) refl refl ∙ with-opening _ _ _ (head.channel == 0) (zero-arrived past)
zero-arrived (began Side.Sent head ∷ past) = arrived-out (began Side.Sent head) (zero_history past) _ (head.channel == 0) refl (zero-arrived past)
zero-arrived (passed Side.Received head payload ∷ past) = arrived-in (passed Side.Received head payload) (zero_history past) _ (head.channel == 0) refl refl ∙ with-opening _ _ _ (head.channel == 0) (zero-arrived past)
zero-arrived (passed Side.Sent head payload ∷ past) = arrived-out (passed Side.Sent head payload) (zero_history past) _ (head.channel == 0) refl (zero-arrived past)
zero-arrived (told Side.Received seq ∷ past) = arrived-in (told Side.Received seq) (zero_history past) _ (seq.channel == 0) refl refl ∙ with-opening _ _ _ (seq.channel == 0) (zero-arrived past)
zero-arrived (told Side.Sent seq ∷ past) = arrived-out (told Side.Sent seq) (zero_history past) _ (seq.channel == 0) refl (zero-arrived past)

pub zero-sent : (past : List Item) → sent (zero_history past) ≡ zeros (sent past) ++ arrived opening
zero-sent [] = refl
zero-sent (began Side.Sent head ∷ past) = sent-in (began Side.Sent head) (zero_history past) _ (head.channel == 0) refl refl ∙ with-opening _ _ _ (head.channel == 0) (zero-sent past)
zero-sent (began Side.Received head ∷ past) = sent-out (began Side.Received head) (zero_history past) _ (head.channel == 0) refl (zero-sent past)
zero-sent (passed Side.Sent head payload ∷ past) = sent-in (passed Side.Sent head payload) (zero_history past) _ (head.channel == 0) refl refl ∙ with-opening _ _ _ (head.channel == 0) (zero-sent past)
zero-sent (passed Side.Received head payload ∷ past) = sent-out (passed Side.Received head payload) (zero_history past) _ (head.channel == 0) refl (zero-sent past)
zero-sent (told Side.Sent seq ∷ past) = sent-in (told Side.Sent seq) (zero_history past) _ (seq.channel == 0) refl refl ∙ with-opening _ _ _ (seq.channel == 0) (zero-sent past)
zero-sent (told Side.Received seq ∷ past) = sent-out (told Side.Received seq) (zero_history past) _ (seq.channel == 0) refl (zero-sent past)

pub zero_sees : (mine theirs : List Item) → Sees mine theirs → Sees (zero_history mine) (zero_history theirs)
zero_sees mine theirs s = record {
  all = zero-arrived theirs ∙ ap (λ (xs : List Item). zeros xs ++ arrived opening) s.all ∙ sym (zero-sent mine);
  newer = zeros s.newer;
  some = zero-sent theirs ∙ ap (λ (xs : List Item). zeros xs ++ arrived opening) s.some ∙ ap (λ (xs : List Item). xs ++ arrived opening) (zeros-append s.newer (arrived mine))
      ∙ append_assoc (zeros s.newer) (zeros (arrived mine)) (arrived opening) ∙ ap (λ (xs : List Item). zeros s.newer ++ xs) (sym (zero-arrived mine));
}

-- ---- what is gathered of one side

pub gathered-arrived : (past : List Item) → gathered Side.Received (arrived past) ≡ gathered Side.Received past
gathered-arrived [] = refl
gathered-arrived (began Side.Received head ∷ past) = gathered-arrived past
gathered-arrived (began Side.Sent head ∷ past) = gathered-arrived past
gathered-arrived (passed Side.Received head payload ∷ past) = rw (gathered-arrived past)
gathered-arrived (passed Side.Sent head payload ∷ past) = gathered-arrived past
gathered-arrived (told Side.Received seq ∷ past) = gathered-arrived past
gathered-arrived (told Side.Sent seq ∷ past) = gathered-arrived past

pub gathered-sent : (past : List Item) → gathered Side.Received (sent past) ≡ gathered Side.Sent past
gathered-sent [] = refl
gathered-sent (began Side.Received head ∷ past) = gathered-sent past
gathered-sent (began Side.Sent head ∷ past) = gathered-sent past
gathered-sent (passed Side.Received head payload ∷ past) = gathered-sent past
gathered-sent (passed Side.Sent head payload ∷ past) = rw (gathered-sent past)
gathered-sent (told Side.Received seq ∷ past) = gathered-sent past
gathered-sent (told Side.Sent seq ∷ past) = gathered-sent past
