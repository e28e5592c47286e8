-- What a report counts.
use Rattle.std.specs.Prelude.{◌≡◌, ◌⊎◌, ℕ, ◌+◌, ◌-◌, ◌^◌, ◌<◌, ◌≤◌, Bool, false, min, IsTrue}
use Rattle.bao_check.specs.declared.fault.CheckFault.{CheckFault}
use Rattle.bao_check.specs.declared.fault.CheckFault.TheVariants.{Short, Mismatch, Trailing, Reader}
use Rattle.bao_check.specs.declared.fault.CheckFault.TheVariants as refusal
use Rattle.holders.specs.declared.fixed.Fixed.{Fixed}
use Rattle.holders.specs.declared.piece.Piece.{Piece}
use Rattle.holders.specs.declared.holder.HolderFault.{HolderFault}
use Rattle.holders.specs.declared.holder.HolderFault.TheVariants.{Device, Memory}
use Rattle.gather.specs.declared.report.Report.{Report}
use Rattle.gather.specs.Claims.{Among}
use Rattle.holders.specs.Holders.{IsNone}
use Rattle.holders.specs.Blobs.{IsTooLarge}

-- a count goes up, and stays at 2^64 - 1 once there
abbrev pub plus : ℕ → ℕ → ℕ
plus count more = min (count + more) (2 ^ 64 - 1)

abbrev pub no_counts : Report
no_counts = record { committed = 0; parents = 0; asked = 0; refused = 0; failed = 0; memory = 0; too_large = false }

-- one more of a kind
abbrev pub asked_once : Report → Report
asked_once report = record report { asked = plus report.asked 1 }

abbrev pub refused_once : Report → Report
refused_once report = record report { refused = plus report.refused 1 }

abbrev pub failed_once : Report → Report
failed_once report = record report { failed = plus report.failed 1 }

abbrev pub memory_once : Report → Report
memory_once report = record report { memory = plus report.memory 1 }

-- a text that a check refused, out of memory or for another cause
abbrev pub checked_once : CheckFault → Report → Report
checked_once (Short at) report = refused_once report
checked_once (Mismatch at) report = refused_once report
checked_once (Trailing at) report = refused_once report
checked_once refusal.Memory report = memory_once report
checked_once Reader report = refused_once report

-- a fetch that gave no text, by its fault
abbrev pub lost_once : HolderFault → Report → Report
lost_once Device report = failed_once report
lost_once Memory report = memory_once report

-- memory was refused: the one failure that excuses a worker. A device that fails is its holder's own, and excuses none.
abbrev pub HasFailed : Report → Type 0
HasFailed report = 0 < report.memory

-- it was so since another report: it was counted, or the count can't go up any more
abbrev pub HasFailedSince : Report → Report → Type 0
HasFailedSince old new = (old.memory < new.memory) ⊎ (2 ^ 64 - 1 ≤ new.memory)

-- counts of both go up
abbrev pub FailsNoLess : Report → Report → Type 0
FailsNoLess old new = (old.memory ≤ new.memory) × (old.failed ≤ new.failed)

-- its counts are of 64 bits
abbrev pub Fits : Report → Type 0
Fits report = (report.committed < 2 ^ 64) × (report.parents < 2 ^ 64) × (report.memory < 2 ^ 64) × (report.failed < 2 ^ 64)

-- no more texts were refused and devices failed than fetches made
abbrev pub IsAnswered : Report → Type 0
IsAnswered report = min (report.refused + report.failed) (2 ^ 64 - 1) ≤ report.asked

-- it says that the blob is too large, and one of the pieces that were handed over certifies it
abbrev pub IsToldTooLarge : Report → (Piece → Type 0) → Fixed → Type 0
IsToldTooLarge report handed fixed = IsTrue report.too_large × IsTooLarge handed fixed

-- What a worker's report gained is so, between two seats, what its holders may hand over before and after, and two sums
-- of their counts of device faults: its own calls stored the chunks and the parents that are counted, of pieces that were
-- handed over; no more device faults are counted than the holders counted; and a blob is called too large only where
-- such a piece certifies that it is, and stays so.
pub record Reports {S : Type 0} (fixed_of : S → Fixed) (gained : (Piece → Type 0) → S → S → ℕ → ℕ → Type 0) (old new : S) (handed handed' : Piece → Type 0) (before after : ℕ) (report report' : Report) : Type 0 where
  pub chunks : ℕ
  pub parents : ℕ
  pub gains : gained handed old new chunks parents
  pub no_more : (piece : Piece) → handed' piece → handed piece
  pub committed : report'.committed ≡ plus report.committed chunks
  pub stored : report'.parents ≡ plus report.parents parents
  pub failed : report'.failed + before ≤ report.failed + after
  pub answered : IsAnswered report → IsAnswered report'
  pub no_less : FailsNoLess report report'
  pub too_large : IsTrue report'.too_large → IsTrue report.too_large ⊎ IsTooLarge handed (fixed_of old)
  pub stays : IsTrue report.too_large → IsTrue report'.too_large

-- none was stored, and nothing more is claimed
abbrev pub Still : {S : Type 0} → (S → S → ℕ → ℕ → Type 0) → (S → ℕ → Bool) → S → S → Type 0
Still gained claims old new = gained old new 0 0 × Among (claims old) (claims new)

-- how a seat's calls go on: nothing at all, with the same root, mode and capacity, one after another, and of more pieces
pub record Goes {S : Type 0} (fixed_of : S → Fixed) (gained : (Piece → Type 0) → S → S → ℕ → ℕ → Type 0) : Type 1 where
  pub stays : (s : S) → gained IsNone s s 0 0
  pub keeps : (handed : Piece → Type 0) (s t : S) (n q : ℕ) → gained handed s t n q → fixed_of t ≡ fixed_of s
  pub adds : (handed : Piece → Type 0) (r s t : S) (m n p q : ℕ) → gained handed r s m p → gained handed s t n q → gained handed r t (m + n) (p + q)
  pub wider : (handed more : Piece → Type 0) → ((piece : Piece) → handed piece → more piece) → (s t : S) (n q : ℕ) → gained handed s t n q → gained more s t n q
