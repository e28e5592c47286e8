use Rattle.std.proofs.Common.{◌≡◌, ◌≤◌, length, Err, Ok, ap, arith, inl, inr, sym}
use Rattle.std.proofs.KnownBytes.{Appends-kept}
use Rattle.bao_text.specs.Choice.{chunk_count}
use Rattle.bao_windows.specs.declared.fault.GatherFault.{GatherFault}
use Rattle.bao_windows.specs.declared.fault.GatherFault.TheVariants.{TooLarge, Unfinished}
use Rattle.bao_windows.proofs.Answering.{answered_by, answered_length, answered_written, available_by, beside_by, copied_by, covered_by, longer}
use Rattle.bao_windows.proofs.Finishing.{the_blob}
use Rattle.bao_windows.specs.declared.fault.WindowsFault.{WindowsFault}
use Rattle.bao_windows.specs.declared.fault.WindowsFault.TheVariants.{Gather}
use Rattle.bao_windows.specs.Windows.{IsFrom, fixed_for}
use Rattle.bao_windows.proofs.driver.write_windows.Goals as goal

pub returns-in-Err-clause-missing : goal.returns-in-Err-clause-missing
returns-in-Err-clause-missing g c = λ is.
    let same : c.in-Err.missing ≡ Unfinished = cc in
    inl (c.in-Err.ensures.missing (ap (λ (f : GatherFault). Err f) same))

pub returns-in-Err-write_all-clause-missing : goal.returns-in-Err-write_all-clause-missing
returns-in-Err-write_all-clause-missing g c = λ is.
    let same : c.in-Err-write_all.fault ≡ Gather Unfinished = cc in
    inr (c.in-Ok.total, c.in-Ok.ensures.of, c.in-Ok.ensures.each, c.in-Err-write_all.ensures.missing (ap (λ (f : WindowsFault). Err f) same))

pub returns-in-Ok-flush-clause-blob : goal.returns-in-Ok-flush-clause-blob
returns-in-Ok-flush-clause-blob g c =
    let all = c.in-Ok-write_all.ensures.blob in
    let few : chunk_count (length all.0) ≤ c.args.capacity = omega (arith, all.2, c.chunk_count.ensures, c.if-chunk_count-capacity.false) in (
      all.0,
      all.1,
      few,
      sym all.2,
      the_blob (IsFrom c.args.wanted.now g.S.Source.contents g.S.Source.faultless c.args.sources.now) (fixed_for c.args.wanted.now) all.0 c.in-Ok.total all.3 all.2 c.in-Ok.ensures.each,
      Appends-kept _ _ _ all.0 all.4 c.flush.ensures.bytes,
      all.5,
    )

pub returns-in-Err-clause-covered : goal.returns-in-Err-clause-covered
returns-in-Err-clause-covered g c =
    covered_by g.S.Source.contents g.S.Source.faultless c.args.wanted.now c.args.sources.now c.args.capacity (g.W.Write.contents c.args.out.now) (g.W.Write.contents c.args.out.now) (Err (Gather c.in-Err.missing))
    (answered_length g.S.Source.contents g.S.Source.faultless c.args.wanted.now c.args.sources.now c.args.capacity (g.W.Write.contents c.args.out.now) (g.W.Write.contents c.args.out.now) c.in-Err.missing c.is_keyed.ensures c.in-Err.ensures.fault (λ same. c.in-Err.ensures.missing (ap (λ (f : GatherFault). Err f) same)))

pub returns-in-Err-clause-available : goal.returns-in-Err-clause-available
returns-in-Err-clause-available g c =
    available_by g.S.Source.contents g.S.Source.faultless c.args.wanted.now c.args.sources.now c.args.capacity (g.W.Write.contents c.args.out.now) (g.W.Write.contents c.args.out.now) (Err (Gather c.in-Err.missing))
    (answered_length g.S.Source.contents g.S.Source.faultless c.args.wanted.now c.args.sources.now c.args.capacity (g.W.Write.contents c.args.out.now) (g.W.Write.contents c.args.out.now) c.in-Err.missing c.is_keyed.ensures c.in-Err.ensures.fault (λ same. c.in-Err.ensures.missing (ap (λ (f : GatherFault). Err f) same)))

pub returns-in-Err-clause-beside : goal.returns-in-Err-clause-beside
returns-in-Err-clause-beside g c =
    beside_by g.S.Source.contents g.S.Source.faultless c.args.wanted.now c.args.sources.now c.args.capacity (g.W.Write.contents c.args.out.now) (g.W.Write.contents c.args.out.now) (Err (Gather c.in-Err.missing))
    (answered_length g.S.Source.contents g.S.Source.faultless c.args.wanted.now c.args.sources.now c.args.capacity (g.W.Write.contents c.args.out.now) (g.W.Write.contents c.args.out.now) c.in-Err.missing c.is_keyed.ensures c.in-Err.ensures.fault (λ same. c.in-Err.ensures.missing (ap (λ (f : GatherFault). Err f) same))) c.is_keyed.ensures

pub returns-in-Err-clause-copied : goal.returns-in-Err-clause-copied
returns-in-Err-clause-copied g c =
    copied_by g.S.Source.contents g.S.Source.faultless c.args.wanted.now c.args.sources.now c.args.capacity (g.W.Write.contents c.args.out.now) (g.W.Write.contents c.args.out.now) (Err (Gather c.in-Err.missing))
    (answered_length g.S.Source.contents g.S.Source.faultless c.args.wanted.now c.args.sources.now c.args.capacity (g.W.Write.contents c.args.out.now) (g.W.Write.contents c.args.out.now) c.in-Err.missing c.is_keyed.ensures c.in-Err.ensures.fault (λ same. c.in-Err.ensures.missing (ap (λ (f : GatherFault). Err f) same))) c.is_keyed.ensures

pub returns-then-chunk_count-capacity-clause-covered : goal.returns-then-chunk_count-capacity-clause-covered
returns-then-chunk_count-capacity-clause-covered g c =
    covered_by g.S.Source.contents g.S.Source.faultless c.args.wanted.now c.args.sources.now c.args.capacity (g.W.Write.contents c.args.out.now) (g.W.Write.contents c.args.out.now) (Err (Gather TooLarge))
    (answered_by g.S.Source.contents g.S.Source.faultless c.args.wanted.now c.args.sources.now c.args.capacity (g.W.Write.contents c.args.out.now) (g.W.Write.contents c.args.out.now) (Err (Gather TooLarge)) c.is_keyed.ensures tt
    (λ e. longer (IsFrom c.args.wanted.now g.S.Source.contents g.S.Source.faultless c.args.sources.now) (fixed_for c.args.wanted.now) c.args.capacity c.in-Ok.total
    (omega (arith, c.chunk_count.ensures, c.if-chunk_count-capacity.true)) c.in-Ok.ensures.each) (λ e. cc) (λ e. cc))

pub returns-then-chunk_count-capacity-clause-available : goal.returns-then-chunk_count-capacity-clause-available
returns-then-chunk_count-capacity-clause-available g c =
    available_by g.S.Source.contents g.S.Source.faultless c.args.wanted.now c.args.sources.now c.args.capacity (g.W.Write.contents c.args.out.now) (g.W.Write.contents c.args.out.now) (Err (Gather TooLarge))
    (answered_by g.S.Source.contents g.S.Source.faultless c.args.wanted.now c.args.sources.now c.args.capacity (g.W.Write.contents c.args.out.now) (g.W.Write.contents c.args.out.now) (Err (Gather TooLarge)) c.is_keyed.ensures tt
    (λ e. longer (IsFrom c.args.wanted.now g.S.Source.contents g.S.Source.faultless c.args.sources.now) (fixed_for c.args.wanted.now) c.args.capacity c.in-Ok.total
    (omega (arith, c.chunk_count.ensures, c.if-chunk_count-capacity.true)) c.in-Ok.ensures.each) (λ e. cc) (λ e. cc))

pub returns-then-chunk_count-capacity-clause-beside : goal.returns-then-chunk_count-capacity-clause-beside
returns-then-chunk_count-capacity-clause-beside g c =
    beside_by g.S.Source.contents g.S.Source.faultless c.args.wanted.now c.args.sources.now c.args.capacity (g.W.Write.contents c.args.out.now) (g.W.Write.contents c.args.out.now) (Err (Gather TooLarge))
    (answered_by g.S.Source.contents g.S.Source.faultless c.args.wanted.now c.args.sources.now c.args.capacity (g.W.Write.contents c.args.out.now) (g.W.Write.contents c.args.out.now) (Err (Gather TooLarge)) c.is_keyed.ensures tt
    (λ e. longer (IsFrom c.args.wanted.now g.S.Source.contents g.S.Source.faultless c.args.sources.now) (fixed_for c.args.wanted.now) c.args.capacity c.in-Ok.total
    (omega (arith, c.chunk_count.ensures, c.if-chunk_count-capacity.true)) c.in-Ok.ensures.each) (λ e. cc) (λ e. cc)) c.is_keyed.ensures

pub returns-then-chunk_count-capacity-clause-copied : goal.returns-then-chunk_count-capacity-clause-copied
returns-then-chunk_count-capacity-clause-copied g c =
    copied_by g.S.Source.contents g.S.Source.faultless c.args.wanted.now c.args.sources.now c.args.capacity (g.W.Write.contents c.args.out.now) (g.W.Write.contents c.args.out.now) (Err (Gather TooLarge))
    (answered_by g.S.Source.contents g.S.Source.faultless c.args.wanted.now c.args.sources.now c.args.capacity (g.W.Write.contents c.args.out.now) (g.W.Write.contents c.args.out.now) (Err (Gather TooLarge)) c.is_keyed.ensures tt
    (λ e. longer (IsFrom c.args.wanted.now g.S.Source.contents g.S.Source.faultless c.args.sources.now) (fixed_for c.args.wanted.now) c.args.capacity c.in-Ok.total
    (omega (arith, c.chunk_count.ensures, c.if-chunk_count-capacity.true)) c.in-Ok.ensures.each) (λ e. cc) (λ e. cc)) c.is_keyed.ensures

pub returns-in-Err-write_all-clause-covered : goal.returns-in-Err-write_all-clause-covered
returns-in-Err-write_all-clause-covered g c =
    covered_by g.S.Source.contents g.S.Source.faultless c.args.wanted.now c.args.sources.now c.args.capacity (g.W.Write.contents c.args.out.now) (g.W.Write.contents c.write_all.new.out) (Err c.in-Err-write_all.fault)
    (answered_written g.S.Source.contents g.S.Source.faultless c.args.wanted.now c.args.sources.now c.args.capacity c.in-Ok.total (g.W.Write.contents c.args.out.now) (g.W.Write.contents c.write_all.new.out) c.in-Err-write_all.fault c.is_keyed.ensures c.in-Err-write_all.ensures.fault c.in-Ok.ensures.of c.in-Ok.ensures.each
    (λ same. c.in-Err-write_all.ensures.none (ap (λ (f : WindowsFault). Err f) same)) (λ same. c.in-Err-write_all.ensures.missing (ap (λ (f : WindowsFault). Err f) same)))

pub returns-in-Err-write_all-clause-available : goal.returns-in-Err-write_all-clause-available
returns-in-Err-write_all-clause-available g c =
    available_by g.S.Source.contents g.S.Source.faultless c.args.wanted.now c.args.sources.now c.args.capacity (g.W.Write.contents c.args.out.now) (g.W.Write.contents c.write_all.new.out) (Err c.in-Err-write_all.fault)
    (answered_written g.S.Source.contents g.S.Source.faultless c.args.wanted.now c.args.sources.now c.args.capacity c.in-Ok.total (g.W.Write.contents c.args.out.now) (g.W.Write.contents c.write_all.new.out) c.in-Err-write_all.fault c.is_keyed.ensures c.in-Err-write_all.ensures.fault c.in-Ok.ensures.of c.in-Ok.ensures.each
    (λ same. c.in-Err-write_all.ensures.none (ap (λ (f : WindowsFault). Err f) same)) (λ same. c.in-Err-write_all.ensures.missing (ap (λ (f : WindowsFault). Err f) same)))

pub returns-in-Err-write_all-clause-beside : goal.returns-in-Err-write_all-clause-beside
returns-in-Err-write_all-clause-beside g c =
    beside_by g.S.Source.contents g.S.Source.faultless c.args.wanted.now c.args.sources.now c.args.capacity (g.W.Write.contents c.args.out.now) (g.W.Write.contents c.write_all.new.out) (Err c.in-Err-write_all.fault)
    (answered_written g.S.Source.contents g.S.Source.faultless c.args.wanted.now c.args.sources.now c.args.capacity c.in-Ok.total (g.W.Write.contents c.args.out.now) (g.W.Write.contents c.write_all.new.out) c.in-Err-write_all.fault c.is_keyed.ensures c.in-Err-write_all.ensures.fault c.in-Ok.ensures.of c.in-Ok.ensures.each
    (λ same. c.in-Err-write_all.ensures.none (ap (λ (f : WindowsFault). Err f) same)) (λ same. c.in-Err-write_all.ensures.missing (ap (λ (f : WindowsFault). Err f) same))) c.is_keyed.ensures

pub returns-in-Err-write_all-clause-copied : goal.returns-in-Err-write_all-clause-copied
returns-in-Err-write_all-clause-copied g c =
    copied_by g.S.Source.contents g.S.Source.faultless c.args.wanted.now c.args.sources.now c.args.capacity (g.W.Write.contents c.args.out.now) (g.W.Write.contents c.write_all.new.out) (Err c.in-Err-write_all.fault)
    (answered_written g.S.Source.contents g.S.Source.faultless c.args.wanted.now c.args.sources.now c.args.capacity c.in-Ok.total (g.W.Write.contents c.args.out.now) (g.W.Write.contents c.write_all.new.out) c.in-Err-write_all.fault c.is_keyed.ensures c.in-Err-write_all.ensures.fault c.in-Ok.ensures.of c.in-Ok.ensures.each
    (λ same. c.in-Err-write_all.ensures.none (ap (λ (f : WindowsFault). Err f) same)) (λ same. c.in-Err-write_all.ensures.missing (ap (λ (f : WindowsFault). Err f) same))) c.is_keyed.ensures

pub returns-in-Ok-flush-clause-covered : goal.returns-in-Ok-flush-clause-covered
returns-in-Ok-flush-clause-covered g c =
    covered_by g.S.Source.contents g.S.Source.faultless c.args.wanted.now c.args.sources.now c.args.capacity (g.W.Write.contents c.args.out.now) (g.W.Write.contents c.flush.new.self) (Ok c.in-Ok.total)
    (answered_by g.S.Source.contents g.S.Source.faultless c.args.wanted.now c.args.sources.now c.args.capacity (g.W.Write.contents c.args.out.now) (g.W.Write.contents c.flush.new.self) (Ok c.in-Ok.total) c.is_keyed.ensures (returns-in-Ok-flush-clause-blob g c) (λ e. cc) (λ e. cc) (λ e. cc))

pub returns-in-Ok-flush-clause-available : goal.returns-in-Ok-flush-clause-available
returns-in-Ok-flush-clause-available g c =
    available_by g.S.Source.contents g.S.Source.faultless c.args.wanted.now c.args.sources.now c.args.capacity (g.W.Write.contents c.args.out.now) (g.W.Write.contents c.flush.new.self) (Ok c.in-Ok.total)
    (answered_by g.S.Source.contents g.S.Source.faultless c.args.wanted.now c.args.sources.now c.args.capacity (g.W.Write.contents c.args.out.now) (g.W.Write.contents c.flush.new.self) (Ok c.in-Ok.total) c.is_keyed.ensures (returns-in-Ok-flush-clause-blob g c) (λ e. cc) (λ e. cc) (λ e. cc))

pub returns-in-Ok-flush-clause-beside : goal.returns-in-Ok-flush-clause-beside
returns-in-Ok-flush-clause-beside g c =
    beside_by g.S.Source.contents g.S.Source.faultless c.args.wanted.now c.args.sources.now c.args.capacity (g.W.Write.contents c.args.out.now) (g.W.Write.contents c.flush.new.self) (Ok c.in-Ok.total)
    (answered_by g.S.Source.contents g.S.Source.faultless c.args.wanted.now c.args.sources.now c.args.capacity (g.W.Write.contents c.args.out.now) (g.W.Write.contents c.flush.new.self) (Ok c.in-Ok.total) c.is_keyed.ensures (returns-in-Ok-flush-clause-blob g c) (λ e. cc) (λ e. cc) (λ e. cc)) c.is_keyed.ensures

pub returns-in-Ok-flush-clause-copied : goal.returns-in-Ok-flush-clause-copied
returns-in-Ok-flush-clause-copied g c =
    copied_by g.S.Source.contents g.S.Source.faultless c.args.wanted.now c.args.sources.now c.args.capacity (g.W.Write.contents c.args.out.now) (g.W.Write.contents c.flush.new.self) (Ok c.in-Ok.total)
    (answered_by g.S.Source.contents g.S.Source.faultless c.args.wanted.now c.args.sources.now c.args.capacity (g.W.Write.contents c.args.out.now) (g.W.Write.contents c.flush.new.self) (Ok c.in-Ok.total) c.is_keyed.ensures (returns-in-Ok-flush-clause-blob g c) (λ e. cc) (λ e. cc) (λ e. cc)) c.is_keyed.ensures
