-- What an end stands for, as its link is read and written.
use Rattle.std.proofs.Common.{◌≡◌, ◌⊎◌, inl, inr, ◌∙◌, sym, ap, subst, ℕ, ◌≤◌, ◌<◌, Option, Some, None, List, [], ◌∷◌, ◌++◌, length, take, append-nil, append_assoc, arith}
use lib.Seq.{take-append_seam}
use Rattle.beep_wires.specs.Log.{Entry, read, wrote, quiet, ended, Logs}
use Rattle.beep_wires.specs.Writing.{AreWrites}
use Rattle.std.proofs.KnownBytes.{Appends-nil, Appends-trans}
use Rattle.beep_link.specs.Causes.{octets_read, GrewByWrites, Grows, IsBounded, IsOfReads, IsSpent, IsWithin, MayRead, ReadsWhere, SameLogReads, TellsLeft, WhereKnown, WithText}
use Rattle.beep_link.specs.declared.ended.Ended.{Ended}
use Rattle.beep_link.specs.declared.left.Reads.{Reads}
use Rattle.beep_link.specs.declared.left.Left.{Left}
use Rattle.beep_link.proofs.KeepLemmas.{octets_read-writes}

-- what stands for octets that are to be written stands for the log of those that were, and for the rest
pub stands-writes : (S : List Entry → List ℕ → Type 0) → ((log : List Entry) (front octets : List ℕ) → S log (front ++ octets) → S (wrote front ∷ log) octets)
    → (more log : List Entry) (octets rest : List ℕ) → AreWrites more octets → S log (octets ++ rest) → S (more ++ log) rest
stands-writes S law [] log octets rest h s = subst (λ (x : List ℕ). S log (x ++ rest)) h s
stands-writes S law (wrote last ∷ more) log octets rest h s =
    law (more ++ log) last rest (stands-writes S law more log h.0 (last ++ rest) h.1 (subst (S log) (ap (λ (x : List ℕ). x ++ rest) h.2 ∙ append_assoc h.0 last rest) s))
stands-writes S law (read last ∷ more) log octets rest h s = absurd h
stands-writes S law (quiet ∷ more) log octets rest h s = absurd h
stands-writes S law (ended ∷ more) log octets rest h s = absurd h

module _ (S T : List Entry → List ℕ → Type 0) (octets : List ℕ) (gathers : (log : List Entry) → S log [] → T log octets)
    (law : (log : List Entry) (front rest : List ℕ) → T log (front ++ rest) → T (wrote front ∷ log) rest) where
  -- all was written
  pub wrote-stands : (old new : Option (List Entry)) (more : List Entry) → Logs old new more → AreWrites more octets
      → WhereKnown (λ log. S log []) old → WhereKnown (λ log. T log []) new
  wrote-stands None None more p h s = tt
  wrote-stands None (Some new) more p h s = absurd p
  wrote-stands (Some old) None more p h s = absurd p
  wrote-stands (Some old) (Some new) more p h s =
      subst (λ (l : List Entry). T l []) (sym p) (stands-writes T law more old octets [] h (subst (T old) (sym (append-nil octets)) (gathers old s)))

  -- a beginning of it was written
  pub front-tells : (P : List Entry → Type 0) → ((log : List Entry) (rest : List ℕ) → T log rest → P log) → (old new : Option (List Entry)) (more : List Entry) (front rest : List ℕ)
      → octets ≡ front ++ rest → Logs old new more → AreWrites more front → WhereKnown (λ log. S log []) old → WhereKnown P new
  front-tells P stops None None more front rest e p h s = tt
  front-tells P stops None (Some new) more front rest e p h s = absurd p
  front-tells P stops (Some old) None more front rest e p h s = absurd p
  front-tells P stops (Some old) (Some new) more front rest e p h s =
      subst P (sym p) (stops (more ++ old) rest (stands-writes T law more old front rest h (subst (T old) e (gathers old s))))

-- what holds of one log holds of the other
pub known-map : (P Q : List Entry → Type 0) → ((log : List Entry) → P log → Q log) → (log : Option (List Entry)) → WhereKnown P log → WhereKnown Q log
known-map P Q f None s = tt
known-map P Q f (Some log) s = f log s

-- one entry more is on the log
pub entered : (P Q : List Entry → Type 0) (entry : Entry) → ((log : List Entry) → P log → Q (entry ∷ log)) → (old new : Option (List Entry)) → Logs old new (entry ∷ []) → WhereKnown P old → WhereKnown Q new
entered P Q entry f None None l s = tt
entered P Q entry f None (Some new) l s = absurd l
entered P Q entry f (Some old) None l s = absurd l
entered P Q entry f (Some old) (Some new) l s = subst Q (sym l) (f old s)

-- none is
pub kept : (P : List Entry → Type 0) (old new : Option (List Entry)) → Logs old new [] → WhereKnown P old → WhereKnown P new
kept P None None l s = tt
kept P None (Some new) l s = absurd l
kept P (Some old) None l s = absurd l
kept P (Some old) (Some new) l s = subst P (sym l) s

-- what follows from what holds of a log that is known holds of one that grew from it
pub known-then : (P : List Entry → Type 0) (R : Type 0) → ((log : List Entry) → P log → R) → (old new : Option (List Entry)) (more : List Entry) → Logs old new more → WhereKnown P old → WhereKnown (λ log. R) new
known-then P R f None None more l s = tt
known-then P R f None (Some new) more l s = absurd l
known-then P R f (Some old) None more l s = absurd l
known-then P R f (Some old) (Some new) more l s = f old s

-- an empty log stands as such
pub known-empty : (P : List Entry → Type 0) (log : Option (List Entry)) → P [] → (log ≡ None) ⊎ (log ≡ Some []) → WhereKnown P log
known-empty P log p (inl e) = subst (WhereKnown P) (sym e) tt
known-empty P log p (inr e) = subst (WhereKnown P) (sym e) p

-- ---- what was written to the output

-- nothing was written
pub grown-none : (now : Option (List ℕ)) → Grows now now
grown-none now = ([], Appends-nil now)

-- it grew, and then again
pub grown-more : (before mid now : Option (List ℕ)) → Grows before mid → Grows mid now → Grows before now
grown-more before mid now (text, grew) (more, next) = (text ++ more, Appends-trans before mid now text more grew next)

-- what holds of one text holds of the other
pub text-map : (before now : Option (List ℕ)) (P Q : List ℕ → Type 0) → ((text : List ℕ) → P text → Q text) → WithText before now P → WithText before now Q
text-map before now P Q f (text, grew, p) = (text, grew, f text p)

-- nothing was written
pub text-none : (now : Option (List ℕ)) (P : List ℕ → Type 0) → P [] → WithText now now P
text-none now P p = ([], Appends-nil now, p)

-- what was written once, and then again
pub text-more : (before mid now : Option (List ℕ)) (P Q : List ℕ → Type 0) → ((text : List ℕ) → P text → WithText mid now (λ more. Q (text ++ more))) → WithText before mid P → WithText before now Q
text-more before mid now P Q f (text, grew, p) = let next = f text p in (text ++ next.0, Appends-trans before mid now text next.0 grew next.1, next.2)

-- what holds of a text holds of it where nothing more was written
pub text-still : (now : Option (List ℕ)) (text : List ℕ) (P : List ℕ → Type 0) → P text → WithText now now (λ more. P (text ++ more))
text-still now text P p = ([], Appends-nil now, subst P (sym (append-nil text)) p)

-- one entry more is on the log, and as it came the output grew
pub text-entered : (P : List Entry → Type 0) (Q : List ℕ → List Entry → Type 0) (entry : Entry) (before now : Option (List ℕ)) → Grows before now
    → ((log : List Entry) → P log → WithText before now (λ more. Q more (entry ∷ log))) → (old new : Option (List Entry)) → Logs old new (entry ∷ [])
    → WhereKnown P old → WithText before now (λ more. WhereKnown (Q more) new)
text-entered P Q entry before now (text, grew) f None None l s = (text, grew, tt)
text-entered P Q entry before now grows f None (Some new) l s = absurd l
text-entered P Q entry before now grows f (Some old) None l s = absurd l
text-entered P Q entry before now grows f (Some old) (Some new) l s = let (more, grew, q) = f old s in (more, grew, subst (Q more) (sym l) q)

-- the text of a log that is known
pub known-text : (before now : Option (List ℕ)) (P : List Entry → List ℕ → Type 0) (log : Option (List Entry)) → WithText before now (λ text. WhereKnown (λ known. P known text) log) → WhereKnown (λ known. WithText before now (P known)) log
known-text before now P None s = tt
known-text before now P (Some log) s = s

-- where nothing more is read the settings end the turns
pub spent-is : (ended : Ended) (reads : Reads) (left : Left) → IsSpent ended reads left → IsOfReads ended
spent-is Ended.Released reads left s = absurd s
spent-is (Ended.Broken rule place) reads left s = absurd s
spent-is Ended.WriteFault reads left s = absurd s
spent-is Ended.WireFault reads left s = absurd s
spent-is Ended.NoMemory reads left s = absurd s
spent-is (Ended.Refused code) reads left s = absurd s
spent-is (Ended.Cut octets) reads left s = absurd s
spent-is (Ended.Idle count) reads left s = tt
spent-is (Ended.Spent count) reads left s = tt

-- the front of two lists is the first
pub take-front : (front rest : List ℕ) (n : ℕ) → length front ≡ n → take n (front ++ rest) ≡ front
take-front front rest n is = ap (λ (k : ℕ). take k (front ++ rest)) (sym is) ∙ take-append_seam front rest

-- ---- where was read

-- no entry is more
pub grew-none : (log : Option (List Entry)) → GrewByWrites log log
grew-none None = ([], [], tt, λ i. [])
grew-none (Some log) = ([], [], λ i. log, λ i. [])

more-writes : (more late : List Entry) (octets others : List ℕ) → AreWrites more octets → AreWrites late others → AreWrites (late ++ more) (octets ++ others)
more-writes more [] octets others h e = subst (AreWrites more) (sym (ap (λ (x : List ℕ). octets ++ x) e ∙ append-nil octets)) h
more-writes more (wrote last ∷ late) octets others h k =
    (octets ++ k.0, more-writes more late octets k.0 h k.1, ap (λ (x : List ℕ). octets ++ x) k.2 ∙ sym (append_assoc octets k.0 last))
more-writes more (read last ∷ late) octets others h k = absurd k
more-writes more (quiet ∷ late) octets others h k = absurd k
more-writes more (ended ∷ late) octets others h k = absurd k

logs-more : (old mid new : Option (List Entry)) (more late : List Entry) → Logs old mid more → Logs mid new late → Logs old new (late ++ more)
logs-more None None None more late p q = tt
logs-more None None (Some new) more late p q = q
logs-more None (Some mid) new more late p q = absurd p
logs-more (Some old) None new more late p q = absurd p
logs-more (Some old) (Some mid) None more late p q = q
logs-more (Some old) (Some mid) (Some new) more late p q = q ∙ ap (λ (x : List Entry). late ++ x) p ∙ sym (append_assoc late more old)

-- and then these were written
pub grew-more : (old mid new : Option (List Entry)) (late : List Entry) (octets : List ℕ) → GrewByWrites old mid → Logs mid new late → AreWrites late octets → GrewByWrites old new
grew-more old mid new late octets (more, others, logs, writes) next h = (late ++ more, others ++ octets, logs-more old mid new more late logs next, more-writes more late others octets writes h)

reads-after : (P : List Entry → Type 0) (more log : List Entry) (octets : List ℕ) → AreWrites more octets → ReadsWhere P log → ReadsWhere P (more ++ log)
reads-after P [] log octets h r = r
reads-after P (wrote last ∷ more) log octets h r = reads-after P more log h.0 h.1 r
reads-after P (read last ∷ more) log octets h r = absurd h
reads-after P (quiet ∷ more) log octets h r = absurd h
reads-after P (ended ∷ more) log octets h r = absurd h

-- writes are no reads
pub reads-grown : (P : List Entry → Type 0) (old new : Option (List Entry)) → GrewByWrites old new → WhereKnown (ReadsWhere P) old → WhereKnown (ReadsWhere P) new
reads-grown P None None g r = tt
reads-grown P None (Some new) (more, octets, logs, writes) r = absurd logs
reads-grown P (Some old) None (more, octets, logs, writes) r = absurd logs
reads-grown P (Some old) (Some new) (more, octets, logs, writes) r = subst (ReadsWhere P) (sym logs) (reads-after P more old octets writes r)

-- what holds of a log and what holds of it hold together
pub known-pair : (P Q : List Entry → Type 0) (log : Option (List Entry)) → WhereKnown P log → WhereKnown Q log → WhereKnown (λ l. P l × Q l) log
known-pair P Q None p q = tt
known-pair P Q (Some log) p q = (p, q)

-- what holds wherever was read holds there of the other
pub reads-map : (P Q : List Entry → Type 0) → ((log : List Entry) → P log → Q log) → (log : List Entry) → ReadsWhere P log → ReadsWhere Q log
reads-map P Q f [] r = tt
reads-map P Q f (read octets ∷ log) r = (f log r.0, reads-map P Q f log r.1)
reads-map P Q f (wrote octets ∷ log) r = reads-map P Q f log r
reads-map P Q f (quiet ∷ log) r = (f log r.0, reads-map P Q f log r.1)
reads-map P Q f (ended ∷ log) r = (f log r.0, reads-map P Q f log r.1)

-- ---- how much was read

-- nothing was read
pub unread-bounded : (reads : Reads) (log : Option (List Entry)) → (log ≡ None) ⊎ (log ≡ Some []) → IsBounded reads log
unread-bounded reads log unread = known-empty (IsWithin reads) log (record { octets = omega arith; each = tt }) unread

within-writes : (reads : Reads) (more log : List Entry) (octets : List ℕ) → AreWrites more octets → IsWithin reads log → IsWithin reads (more ++ log)
within-writes reads more log octets h w = record {
  octets = subst (λ (n : ℕ). n ≤ reads.octets) (sym (octets_read-writes more log octets h)) w.octets;
  each = reads-after (MayRead reads) more log octets h w.each;
}

-- writes are no reads
pub bounded-grown : (reads : Reads) (old new : Option (List Entry)) → GrewByWrites old new → IsBounded reads old → IsBounded reads new
bounded-grown reads None None g w = tt
bounded-grown reads None (Some new) (more, octets, logs, writes) w = absurd logs
bounded-grown reads (Some old) None (more, octets, logs, writes) w = absurd logs
bounded-grown reads (Some old) (Some new) (more, octets, logs, writes) w = subst (IsWithin reads) (sym logs) (within-writes reads more old octets writes w)

-- the same reads leave the same
pub tells-same : (reads : Reads) (left : Left) (old new : Option (List Entry)) → SameLogReads old new → TellsLeft reads left old → TellsLeft reads left new
tells-same reads left None None same tells = tt
tells-same reads left None (Some new) same tells = absurd same
tells-same reads left (Some old) None same tells = absurd same
tells-same reads left (Some old) (Some new) same tells = (omega (arith, same.0, tells.0), same.1 ∙ tells.1)

-- what may still be read and what was are no more than may be
pub most-read : (reads : Reads) (left : Left) (log : Option (List Entry)) → TellsLeft reads left log → WhereKnown (λ known. octets_read known ≤ reads.octets) log
most-read reads left None tells = tt
most-read reads left (Some log) tells = omega (arith, tells.0)

-- where something may still be read once more may be
may-read : (reads : Reads) (left : Left) (log : List Entry) → TellsLeft reads left (Some log) → 0 < left.octets → left.quiets < reads.idle → MayRead reads log
may-read reads left log tells some few = record {
  octets = omega (arith, tells.0, some);
  quiets = omega (arith, tells.1, few);
}

-- so it was
pub bounded-read : (reads : Reads) (left : Left) (entry : Entry) (old new : Option (List Entry))
    → ((log : List Entry) → MayRead reads log × ReadsWhere (MayRead reads) log → ReadsWhere (MayRead reads) (entry ∷ log)) → Logs old new (entry ∷ []) → TellsLeft reads left old
    → 0 < left.octets → left.quiets < reads.idle → IsBounded reads old → WhereKnown (λ known. octets_read known ≤ reads.octets) new → IsBounded reads new
bounded-read reads left entry None None is logs tells some few w most = tt
bounded-read reads left entry None (Some new) is logs tells some few w most = absurd logs
bounded-read reads left entry (Some old) None is logs tells some few w most = absurd logs
bounded-read reads left entry (Some old) (Some new) is logs tells some few w most = record {
  octets = most;
  each = subst (ReadsWhere (MayRead reads)) (sym logs) (is old (may-read reads left old tells some few, w.each));
}
