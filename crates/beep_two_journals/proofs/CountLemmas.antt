-- Both ends count the lives of a number alike.
use Rattle.std.proofs.Common.{◌≡◌, ℕ, Bool, true, false, not, if◌then◌else◌, List, [], ◌∷◌, ◌++◌, refl, sym, ap, ◌∙◌, subst}
use Rattle.beep_history.specs.declared.journal.Side.{Side}
use Rattle.beep_history.specs.Journal.{turned, Item}
use Rattle.beep_two_ends.specs.Seen.{is_received}
use Rattle.beep_two_journals.proofs.Entries.{Says, Entry, asks, replies, on, is_start, asked, replied, said, lives, is_live, NoStart, IsLawfulEnd, came, went, SeesAll, SameCount}
use Rattle.beep_two_journals.proofs.LivesLemmas.{granted, granted-stable, granted-more, Starter, starter, Acceptor, acceptor}

asked-if : (side : Side) (n : ℕ) (item : Item) (past : List Entry) (b : Bool) → asked side (if b then on n item ∷ past else past) ≡ asked side past
asked-if side n item past true = refl
asked-if side n item past false = refl

replied-if : (side : Side) (n : ℕ) (item : Item) (past : List Entry) (b : Bool) → replied side (if b then on n item ∷ past else past) ≡ replied side past
replied-if side n item past true = refl
replied-if side n item past false = refl

asked-unless : (side : Side) (n : ℕ) (item : Item) (past : List Entry) (b : Bool) → asked side (if b then past else on n item ∷ past) ≡ asked side past
asked-unless side n item past true = refl
asked-unless side n item past false = refl

replied-unless : (side : Side) (n : ℕ) (item : Item) (past : List Entry) (b : Bool) → replied side (if b then past else on n item ∷ past) ≡ replied side past
replied-unless side n item past true = refl
replied-unless side n item past false = refl

pub asked-came : (past : List Entry) → asked Side.Received (came past) ≡ asked Side.Received past
asked-came [] = refl
asked-came (asks Side.Received says ∷ past) = rw (asked-came past)
asked-came (asks Side.Sent says ∷ past) = asked-came past
asked-came (replies Side.Received ok ∷ past) = asked-came past
asked-came (replies Side.Sent ok ∷ past) = asked-came past
asked-came (on n item ∷ past) = asked-if Side.Received n item (came past) (is_received item) ∙ asked-came past

pub replied-came : (past : List Entry) → replied Side.Received (came past) ≡ replied Side.Received past
replied-came [] = refl
replied-came (asks Side.Received says ∷ past) = replied-came past
replied-came (asks Side.Sent says ∷ past) = replied-came past
replied-came (replies Side.Received ok ∷ past) = rw (replied-came past)
replied-came (replies Side.Sent ok ∷ past) = replied-came past
replied-came (on n item ∷ past) = replied-if Side.Received n item (came past) (is_received item) ∙ replied-came past

pub asked-went : (past : List Entry) → asked Side.Received (went past) ≡ asked Side.Sent past
asked-went [] = refl
asked-went (asks Side.Received says ∷ past) = asked-went past
asked-went (asks Side.Sent says ∷ past) = rw (asked-went past)
asked-went (replies Side.Received ok ∷ past) = asked-went past
asked-went (replies Side.Sent ok ∷ past) = asked-went past
asked-went (on n item ∷ past) = asked-unless Side.Received n (turned item) (went past) (is_received item) ∙ asked-went past

pub replied-went : (past : List Entry) → replied Side.Received (went past) ≡ replied Side.Sent past
replied-went [] = refl
replied-went (asks Side.Received says ∷ past) = replied-went past
replied-went (asks Side.Sent says ∷ past) = replied-went past
replied-went (replies Side.Received ok ∷ past) = replied-went past
replied-went (replies Side.Sent ok ∷ past) = rw (replied-went past)
replied-went (on n item ∷ past) = replied-unless Side.Received n (turned item) (went past) (is_received item) ∙ replied-went past

pub record AskedBefore (xs ys : List Says) : Type 0 where
  pub newer : List Says
  pub is : ys ≡ newer ++ xs

pub asked-before : (newer past : List Entry) → AskedBefore (asked Side.Received past) (asked Side.Received (newer ++ past))
asked-before [] past = record { newer = []; is = refl }
asked-before (asks Side.Received says ∷ newer) past =
    let w = asked-before newer past in record { newer = says ∷ w.newer; is = ap (λ (xs : List Says). says ∷ xs) w.is }
asked-before (asks Side.Sent says ∷ newer) past = asked-before newer past
asked-before (replies by ok ∷ newer) past = asked-before newer past
asked-before (on n item ∷ newer) past = asked-before newer past

pub record RepliedBefore (xs ys : List Bool) : Type 0 where
  pub newer : List Bool
  pub is : ys ≡ newer ++ xs

pub replied-before : (newer past : List Entry) → RepliedBefore (replied Side.Received past) (replied Side.Received (newer ++ past))
replied-before [] past = record { newer = []; is = refl }
replied-before (asks by says ∷ newer) past = replied-before newer past
replied-before (replies Side.Received ok ∷ newer) past =
    let w = replied-before newer past in record { newer = ok ∷ w.newer; is = ap (λ (xs : List Bool). ok ∷ xs) w.is }
replied-before (replies Side.Sent ok ∷ newer) past = replied-before newer past
replied-before (on n item ∷ newer) past = replied-before newer past

-- what the two ends agree on over channel zero
pub record ZeroAgrees (mine theirs : List Entry) : Type 0 where
  pub same_asked : asked Side.Received theirs ≡ asked Side.Sent mine
  pub same_replied : replied Side.Received theirs ≡ replied Side.Sent mine
  pub more_asked : AskedBefore (asked Side.Received mine) (asked Side.Sent theirs)
  pub more_replied : RepliedBefore (replied Side.Received mine) (replied Side.Sent theirs)

pub zero_agrees : (mine theirs : List Entry) → SeesAll mine theirs → ZeroAgrees mine theirs
zero_agrees mine theirs s = record {
  same_asked = sym (asked-came theirs) ∙ ap (asked Side.Received) s.all ∙ asked-went mine;
  same_replied = sym (replied-came theirs) ∙ ap (replied Side.Received) s.all ∙ replied-went mine;
  more_asked = subst (λ (xs : List Says). AskedBefore xs (asked Side.Sent theirs)) (asked-came mine)
      (subst (λ (ys : List Says). AskedBefore (asked Side.Received (came mine)) ys) (ap (asked Side.Received) (sym s.some) ∙ asked-went theirs)
      (asked-before s.newer (came mine)));
  more_replied = subst (λ (xs : List Bool). RepliedBefore xs (replied Side.Sent theirs)) (replied-came mine)
      (subst (λ (ys : List Bool). RepliedBefore (replied Side.Received (came mine)) ys) (ap (replied Side.Received) (sym s.some) ∙ replied-went theirs)
      (replied-before s.newer (came mine)));
}

-- where no own start of n waits, each grant has arrived
count-starter : (mine theirs : List Entry) (n : ℕ) → Starter n mine → Acceptor n theirs → ZeroAgrees mine theirs
    → NoStart n mine → lives n theirs ≡ lives n mine
count-starter mine theirs n s t z none =
    t.count
    ∙ ap (λ (xs : List Says). granted n xs (replied Side.Sent theirs)) z.same_asked
    ∙ ap (λ (oks : List Bool). granted n (asked Side.Sent mine) oks) z.more_replied.is
    ∙ granted-more n (asked Side.Sent mine) z.more_replied.newer (replied Side.Received mine) none
    ∙ sym s.count

count-acceptor : (mine theirs : List Entry) (n : ℕ) → Acceptor n mine → Starter n theirs → ZeroAgrees mine theirs
    → lives n theirs ≡ lives n mine
count-acceptor mine theirs n s t z =
    t.count
    ∙ ap (λ (oks : List Bool). granted n (asked Side.Sent theirs) oks) z.same_replied
    ∙ ap (λ (xs : List Says). granted n xs (replied Side.Sent mine)) z.more_asked.is
    ∙ granted-stable n z.more_asked.newer (asked Side.Received mine) (replied Side.Sent mine) s.fit
    ∙ sym s.count

pub same_count_idle : (own : ℕ → Bool) (mine theirs : List Entry) (n : ℕ) → IsLawfulEnd own mine → IsLawfulEnd (λ m. not (own m)) theirs → SeesAll mine theirs
    → NoStart n mine → lives n theirs ≡ lives n mine
same_count_idle own mine theirs n l k s none = by-owner (own n) refl
  where
    by-owner : (b : Bool) → own n ≡ b → lives n theirs ≡ lives n mine
    by-owner true o =
        count-starter mine theirs n (starter own n mine o l) (acceptor (λ m. not (own m)) n theirs (ap not o) k) (zero_agrees mine theirs s) none
    by-owner false o =
        count-acceptor mine theirs n (acceptor own n mine o l) (starter (λ m. not (own m)) n theirs (ap not o) k) (zero_agrees mine theirs s)

-- no own start of a number that is live waits
pub live_idle : (own : ℕ → Bool) (n : ℕ) (past : List Entry) → IsLawfulEnd own past → is_live n past ≡ true → NoStart n past
live_idle own n past l live p h = by-owner (own n) refl
  where
    by-owner : (b : Bool) → own n ≡ b → is_start n (said p (asked Side.Sent past)) ≡ false
    by-owner false o = (acceptor own n past o l).never p
    by-owner true o = none-by (is_start n (said p (asked Side.Sent past))) ((starter own n past o l).idle p h)
      where
        none-by : (b : Bool) → (b ≡ true → is_live n past ≡ false) → b ≡ false
        none-by true e = let bad : true ≡ false = sym live ∙ e refl in cc
        none-by false e = refl

pub same_count : SameCount
same_count own mine theirs n l k s live = same_count_idle own mine theirs n l k s (live_idle own n mine l live)
