-- What stays over several reads and writes of one link.
use Rattle.std.proofs.Common.{◌≡◌, ◌∙◌, refl, sym, arith, ℕ, ◌≤◌, true, Option, Some, None, List, [], ◌∷◌, ◌++◌, ap, subst, inl, inr}
use Rattle.beep_wires.specs.Counts.{Rose}
use Rattle.beep_wires.specs.Links.{Link, Counts, SameBeside}
use Rattle.beep_wires.specs.Log.{Entry, Event, read, wrote, quiet, ended, Logs}
use Rattle.beep_wires.specs.Writing.{AreWrites, Wrote}
use Rattle.beep_link.specs.Causes.{octets_read, quiet_reads, Seen, Keeps, SameLogReads, SameReads}

-- a count that rose later rose
pub Rose-after : (a b c : ℕ) → a ≤ b → Rose b c → Rose a c
Rose-after a b c p = elim [ inl q ↦ inl (omega (arith, p, q)) | inr q ↦ inr q ]

-- what stays twice stays
pub Keeps-trans : (link : ℕ) (a b c : Seen) → Keeps link a b → Keeps link b c → Keeps link a c
Keeps-trans link a b c p q = record {
  still_open = q.still_open;
  kept = omega (arith, p.kept, q.kept);
  others = λ other ne. q.others other ne ∙ p.others other ne;
  given = q.given ∙ p.given;
  accepts = q.accepts ∙ p.accepts;
  dials = q.dials ∙ p.dials;
  quiets = omega (arith, p.quiets, q.quiets);
  same_asked = q.same_asked ∙ p.same_asked;
  same_lent = q.same_lent ∙ p.same_lent;
}

-- writes change nothing of the reads that a log shows
pub octets_read-writes : (more log : List Entry) (octets : List ℕ) → AreWrites more octets → octets_read (more ++ log) ≡ octets_read log
octets_read-writes [] log octets h = refl
octets_read-writes (wrote last ∷ more) log octets h = octets_read-writes more log h.0 h.1
octets_read-writes (read last ∷ more) log octets h = absurd h
octets_read-writes (quiet ∷ more) log octets h = absurd h
octets_read-writes (ended ∷ more) log octets h = absurd h

pub quiet_reads-writes : (more log : List Entry) (octets : List ℕ) → AreWrites more octets → quiet_reads (more ++ log) ≡ quiet_reads log
quiet_reads-writes [] log octets h = refl
quiet_reads-writes (wrote last ∷ more) log octets h = quiet_reads-writes more log h.0 h.1
quiet_reads-writes (read last ∷ more) log octets h = absurd h
quiet_reads-writes (quiet ∷ more) log octets h = absurd h
quiet_reads-writes (ended ∷ more) log octets h = absurd h

-- a log that grew by writes shows the same reads
pub SameLogReads-writes : (old new : Option (List Entry)) (more : List Entry) (octets : List ℕ) → Logs old new more → AreWrites more octets → SameLogReads old new
SameLogReads-writes None None more octets p h = tt
SameLogReads-writes None (Some new) more octets p h = absurd p
SameLogReads-writes (Some old) None more octets p h = absurd p
SameLogReads-writes (Some old) (Some new) more octets p h = (ap octets_read p ∙ octets_read-writes more old octets h, ap quiet_reads p ∙ quiet_reads-writes more old octets h)

pub SameLogReads-trans : (a b c : Option (List Entry)) → SameLogReads a b → SameLogReads b c → SameLogReads a c
SameLogReads-trans None None None p q = tt
SameLogReads-trans None None (Some c) p q = absurd q
SameLogReads-trans None (Some b) c p q = absurd p
SameLogReads-trans (Some a) None c p q = absurd p
SameLogReads-trans (Some a) (Some b) None p q = absurd q
SameLogReads-trans (Some a) (Some b) (Some c) p q = (q.0 ∙ p.0, q.1 ∙ p.1)

pub SameReads-trans : (a b c : Link) → SameReads a b → SameReads b c → SameReads a c
SameReads-trans a b c p q = record {
  logs = SameLogReads-trans a.log b.log c.log p.logs q.logs;
  end = q.end ∙ p.end;
  counted = q.counted ∙ p.counted;
}

-- a link that was written shows the same reads
pub SameReads-wrote : (link : ℕ) (a b : Link) (before after : Option (List Event)) (octets : List ℕ) → Wrote link (record { log = a.log; story = before }) (record { log = b.log; story = after }) octets → b.has_ended ≡ a.has_ended → b.reads ≡ a.reads → SameReads a b
SameReads-wrote link a b before after octets w e r = record {
  logs = SameLogReads-writes a.log b.log w.more octets w.logs w.writes;
  end = e;
  counted = r;
}

-- what stayed stays over a write
pub Keeps-wrote : (link : ℕ) (a b c : Seen) → Keeps link a b → (c.state link).is_open ≡ true → (b.state link).faults ≤ (c.state link).faults → SameBeside link b.state c.state → c.counts ≡ b.counts → c.asked ≡ b.asked → c.lent ≡ b.lent → Keeps link a c
Keeps-wrote link a b c k o f s n q l = record {
  still_open = o;
  kept = omega (arith, k.kept, f);
  others = λ other ne. s other ne ∙ k.others other ne;
  given = ap (λ (x : Counts). x.given) n ∙ k.given;
  accepts = ap (λ (x : Counts). x.accepts) n ∙ k.accepts;
  dials = ap (λ (x : Counts). x.dials) n ∙ k.dials;
  quiets = subst (λ (x : ℕ). a.counts.quiets ≤ x) (sym (ap (λ (x : Counts). x.quiets) n)) k.quiets;
  same_asked = q ∙ k.same_asked;
  same_lent = l ∙ k.same_lent;
}
