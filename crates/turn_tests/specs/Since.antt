-- What a link shows since an earlier look at it, as turns of it and of other links are taken.
use Rattle.std.specs.Prelude.{◌≡◌, ℕ, Option, Some, None}
use Rattle.beep_wires.specs.Links.{Link, Counts}
use Rattle.beep_link.specs.Causes.{CountsQuiet, CountsReads, IsCaused, Look}
use Rattle.beep_link.specs.declared.ended.Ended.{Ended}
use Rattle.beep_link.specs.declared.left.Left.{Left}
use Rattle.beep_link.specs.declared.left.Reads.{Reads}

-- a link and the count of quiet reads of all links
abbrev pub look_at : (ℕ → Link) → Counts → ℕ → Look
look_at state counts link = record { link = state link; quiets = counts.quiets }

-- since then nothing has failed on the link, and the counts rose by what was read
pub record IsSince (before : Look) (reads : Reads) (left : Left) (now : Look) : Type 0 where
  pub unfailed : before.link.faults ≡ now.link.faults
  pub counted : CountsQuiet before.quiets left now.quiets
  pub came : CountsReads reads before.link.reads left now.link.reads

-- where an end has ended the link shows by what, since then; else so it is still
abbrev pub HasCause : Option Ended → Look → Reads → Left → Look → Type 0
HasCause None before reads left now = IsSince before reads left now
HasCause (Some ended) before reads left now = IsCaused ended reads before now
