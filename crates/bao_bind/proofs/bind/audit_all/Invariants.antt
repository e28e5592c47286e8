use Rattle.std.proofs.Common.{◌<◌, ℕ, slice_index_or}
use Rattle.bao_check.specs.declared.checked.Checked.{Checked}
use Rattle.bao_bind.specs.Verdict.{IsOfBlob}
use Rattle.bao_bind.proofs.bind.audit_all.Given as goal

-- the pieces before this one are of the blob
abbrev pub invariant-audits : goal.invariant-audits
invariant-audits l = (k : ℕ) (d : Checked) → k < l.index → IsOfBlob l.blob (slice_index_or l.pieces k d)
