use Rattle.std.proofs.Common.{ℕ, List, arith, inl, inr, map, Some, refl, string_bytes, subst}
use Rattle.std.specs.Prelude.{⊤}
use Rattle.b3tree.specs.Modes.{plain}
use Rattle.b3tree.specs.Valid.{IsKeyed}
use Rattle.bao_decode.specs.Ranges.{part_bytes}
use Rattle.bao_text.specs.declared.kinds.Part.TheVariants.{Slice}
use Rattle.std.specs.Io.KnownBytes.{Appends}
use Rattle.bao_files.specs.Disks.{Puts}
use Rattle.bao_files.specs.Printed.{ok_line}
use Rattle.bao_files.specs.HeldFiles.{held_at}
use Rattle.bao_request.specs.declared.tasks.Task.TheVariants.{CutSlice}
use Rattle.determined_program.proofs.ManualRuns.{Ran, beside_facts, beside_fine, beside_refused, beside_same, digits_are, done, ended, files, held_known, refused, unchanged}
use Rattle.determined_program.proofs.PlainRequests.{AsksAlone, cut_beside_alone}
use Rattle.determined_program.proofs.manual.cut_slice_beside_is.Given.{Over}
use Rattle.determined_program.proofs.manual.cut_slice_beside_is.Goals as goal
use Rattle.determined_program.proofs.manual.cut_slice_beside_is.Goals.{After-command}

module _ (g : Over) (c : After-command g) where
  alone : AsksAlone (map string_bytes c.args.words.now) (CutSlice c.args.digits c.args.start c.args.len (Some c.args.outboard) c.args.copy c.args.path)
  alone = cut_beside_alone (map string_bytes c.args.words.now) c.args.outboard c.args.digits c.args.start c.args.len c.args.copy c.args.path (omega arith) (omega arith) c.requires.asked

  keyed : IsKeyed plain
  keyed = subst IsKeyed c.hash.ensures c.is_keyed.ensures

  ran : Ran (map string_bytes c.args.words.now) (held_at c.args.disk.now.files) (held_at c.command.new.disk.files) (g.O.Write.contents c.args.out.now) (g.O.Write.contents c.command.new.out) ⊤ c.command.result
  ran = record {
    known = held_known c.args.disk.now.files;
    most = c.command.ensures.status;
    done = c.command.ensures.done alone.one;
    files = c.command.ensures.files;
    fault = c.command.ensures.fault alone.one;
    usage = c.command.ensures.usage alone.one;
    refusal = c.command.ensures.refusal alone.one;
  }

pub returns-clause-done : goal.returns-clause-done
returns-clause-done g c = λ is.
    let did = done (ran g c) (alone g c) refl (beside_facts (ran g c) c.args.digits c.args.start c.args.len c.args.copy c.args.path c.args.root.now.0 c.requires.root (keyed g c) c.args.outboard) is in
    (did.0, part_bytes (Slice c.args.start c.args.len) did.0, did.1.0, did.1.1, did.2)

pub returns-clause-same : goal.returns-clause-same
returns-clause-same g c = λ is blob low of.
    let did = done (ran g c) (alone g c) refl (beside_facts (ran g c) c.args.digits c.args.start c.args.len c.args.copy c.args.path c.args.root.now.0 c.requires.root (keyed g c) c.args.outboard) is in
    let same = beside_same (ran g c) c.args.digits c.args.start c.args.len c.args.copy c.args.path c.args.root.now.0 c.requires.root (keyed g c) c.args.outboard did.0 did.1.0 did.1.2 blob low of in (
      subst (λ (slice : List ℕ). Puts (held_at c.args.disk.now.files) (held_at c.command.new.disk.files) c.args.path.now (Some slice)) same.0 did.1.1,
      subst (λ (count : ℕ). Appends (g.O.Write.contents c.args.out.now) (g.O.Write.contents c.command.new.out) (ok_line count)) same.1 did.2,
    )

pub returns-clause-refused : goal.returns-clause-refused
returns-clause-refused g c = λ is.
    let bad = refused (ran g c) (alone g c) refl is in
    beside_refused (ran g c) c.args.digits c.args.start c.args.len c.args.copy c.args.path c.args.root.now.0 c.requires.root (keyed g c) c.args.outboard bad.0 bad.1 bad.2

pub returns-clause-kept : goal.returns-clause-kept
returns-clause-kept g c = unchanged (ran g c) (alone g c) refl

pub returns-clause-files : goal.returns-clause-files
returns-clause-files g c =
    elim (files (ran g c) (alone g c) refl (beside_facts (ran g c) c.args.digits c.args.start c.args.len c.args.copy c.args.path c.args.root.now.0 c.requires.root (keyed g c) c.args.outboard)) [
      | inl kept ↦ inl kept
      | inr made ↦ inr (made.0, part_bytes (Slice c.args.start c.args.len) made.0, made.1.0, made.1.1)
    ]

pub returns-clause-status : goal.returns-clause-status
returns-clause-status g c =
    ended (ran g c) (alone g c) refl
    (beside_fine (ran g c) c.args.digits c.args.start c.args.len c.args.copy c.args.path c.args.root.now.0 c.requires.root (keyed g c) c.args.outboard (digits_are c.args.digits.now c.args.root.now.0 c.requires.root (omega arith)) c.requires.apart.0 c.requires.apart.1 c.requires.apart.2)
