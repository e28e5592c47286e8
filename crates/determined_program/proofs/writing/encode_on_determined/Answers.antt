use Rattle.std.proofs.Common.{ℕ, List, sym, subst, ◌∙◌}
use Rattle.bao_files.specs.Disks.{IsKnown}
use Rattle.bao_files.specs.Encoded.{IsAfterReading}
use Rattle.bao_files.proofs.Results.{with_fault, with_right}
use Rattle.b3tree.specs.declared.values.Hash.{Hash}
use Rattle.b3tree.specs.Hashing.{hash}
use Rattle.bao_files.specs.Encoded.{encoding_text}
use Rattle.determined_program.proofs.OnDisks.{answers_or_fault, both_give, both_kept, both_put, if_ok, none_at, same_hashes, unread_agree}
use Rattle.determined_program.proofs.writing.encode_on_determined.Goals as goal

pub returns-clause-hash : goal.returns-clause-hash
returns-clause-hash g c = λ known.
    let r = c.encode_on.result in
    let s = c.encode_on-2.result in
    same_hashes r s
    (both_give (g.D.Disk.at c.args.ours.now) (g.E.Disk.at c.args.theirs.now) (g.D.Disk.at c.encode_on.new.disk) (g.E.Disk.at c.encode_on-2.new.disk) c.requires c.args.file.now
    (λ (bytes : List ℕ). hash c.args.mode.now bytes) (λ (h : Hash). h.0) (λ (h : Hash). h.0) r s known
    (if_ok r (λ h p. (p.0, p.1, p.2)) c.encode_on.ensures.done) (if_ok s (λ h p. (p.0, p.1, p.2)) c.encode_on-2.ensures.done))

pub returns-clause-put : goal.returns-clause-put
returns-clause-put g c = λ known.
    let r = c.encode_on.result in
    let s = c.encode_on-2.result in
    both_put (g.D.Disk.at c.args.ours.now) (g.E.Disk.at c.args.theirs.now) (g.D.Disk.at c.encode_on.new.disk) (g.E.Disk.at c.encode_on-2.new.disk) c.requires c.args.file.now
    c.args.path.now (λ (bytes : List ℕ). encoding_text c.args.mode.now c.args.encoding bytes) r s known
    (if_ok r (λ h p. (p.0, p.1, p.3)) c.encode_on.ensures.done) (if_ok s (λ h p. (p.0, p.1, p.3)) c.encode_on-2.ensures.done)

pub returns-clause-kept : goal.returns-clause-kept
returns-clause-kept g c =
    both_kept (g.D.Disk.at c.args.ours.now) (g.E.Disk.at c.args.theirs.now) (g.D.Disk.at c.encode_on.new.disk) (g.E.Disk.at c.encode_on-2.new.disk) c.requires
    c.encode_on.result c.encode_on-2.result c.encode_on.ensures.kept c.encode_on-2.ensures.kept

pub returns-clause-answer : goal.returns-clause-answer
returns-clause-answer g c = λ surely also_surely known bytes there once.
    let r = c.encode_on.result in
    let s = c.encode_on-2.result in
    let also = sym (c.requires c.args.file.now) ∙ there in
    answers_or_fault (IsAfterReading c.args.path) r s (returns-clause-hash g c (subst IsKnown (sym there) tt))
    (with_fault r _ (λ f refused. refused surely known bytes there once) c.encode_on.ensures.refused)
    (with_fault s _ (λ f refused. refused also_surely (subst IsKnown (c.requires c.args.path.now) known) bytes also once) c.encode_on-2.ensures.refused)

pub returns-clause-absent : goal.returns-clause-absent
returns-clause-absent g c = λ absent.
    let ours = g.D.Disk.at c.args.ours.now in
    let theirs = g.E.Disk.at c.args.theirs.now in
    let r = c.encode_on.result in
    let s = c.encode_on-2.result in
    let also = sym (c.requires c.args.file.now) ∙ absent in
    unread_agree c.args.file r s
    (with_right r _ (λ h p. none_at (ours c.args.file.now) p.0 absent p.1) c.encode_on.ensures.done) (with_fault r _ (λ f h. h absent) c.encode_on.ensures.absent)
    (with_right s _ (λ h p. none_at (theirs c.args.file.now) p.0 also p.1) c.encode_on-2.ensures.done) (with_fault s _ (λ f h. h also) c.encode_on-2.ensures.absent)
