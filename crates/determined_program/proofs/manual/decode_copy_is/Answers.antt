use Rattle.std.proofs.Common.{arith, inl, inr, map, refl, string_bytes, subst}
use Rattle.std.specs.Prelude.{⊤}
use Rattle.b3tree.specs.Valid.{IsKeyed}
use Rattle.bao_files.specs.HeldFiles.{held_at}
use Rattle.bao_request.specs.declared.tasks.Task.TheVariants.{DecodeCopy}
use Rattle.determined_program.proofs.ManualRuns.{Ran, copy_facts, copy_fine, copy_refused, digits_are, done, ended, files, held_known, refused, unchanged}
use Rattle.determined_program.proofs.PlainRequests.{AsksAlone, decode_copy_alone}
use Rattle.determined_program.proofs.manual.decode_copy_is.Given.{Over}
use Rattle.determined_program.proofs.manual.decode_copy_is.Goals as goal
use Rattle.determined_program.proofs.manual.decode_copy_is.Goals.{After-command}

module _ (g : Over) (c : After-command g) where
  alone : AsksAlone (map string_bytes c.args.words.now) (DecodeCopy c.args.digits c.args.outboard c.args.copy c.args.path)
  alone = decode_copy_alone (map string_bytes c.args.words.now) c.args.outboard c.args.digits c.args.copy c.args.path c.requires.asked

  ran : Ran (map string_bytes c.args.words.now) (held_at c.args.disk.now.files) (held_at c.command.new.disk.files) (g.O.Write.contents c.args.out.now) (g.O.Write.contents c.command.new.out) ⊤ c.command.result
  ran = record {
    known = held_known c.args.disk.now.files;
    most = c.command.ensures.status;
    done = c.command.ensures.done alone.one;
    files = c.command.ensures.files;
    fault = c.command.ensures.fault alone.one;
    usage = c.command.ensures.usage alone.one;
    refusal = c.command.ensures.refusal alone.one;
  }

pub returns-clause-done : goal.returns-clause-done
returns-clause-done g c = λ is.
    let did = done (ran g c) (alone g c) refl
    (copy_facts (ran g c) c.args.digits c.args.outboard c.args.copy c.args.path c.args.root.now.0 c.requires.root c.bytes_are.ensures (omega arith) c.held_are.ensures c.held_are-2.ensures) is in
    (did.0, did.1.0, did.1.1, did.2)

pub returns-clause-refused : goal.returns-clause-refused
returns-clause-refused g c = λ is.
    let bad = refused (ran g c) (alone g c) refl is in
    copy_refused (ran g c) c.args.digits c.args.outboard c.args.copy c.args.path c.args.root.now.0 c.requires.root (subst IsKeyed c.hash.ensures c.is_keyed.ensures) bad.0 bad.1 bad.2

pub returns-clause-kept : goal.returns-clause-kept
returns-clause-kept g c = unchanged (ran g c) (alone g c) refl

pub returns-clause-files : goal.returns-clause-files
returns-clause-files g c =
    elim (files (ran g c) (alone g c) refl
    (copy_facts (ran g c) c.args.digits c.args.outboard c.args.copy c.args.path c.args.root.now.0 c.requires.root c.bytes_are.ensures (omega arith) c.held_are.ensures c.held_are-2.ensures)) [
      | inl kept ↦ inl kept
      | inr made ↦ inr (made.0, made.1.0, made.1.1)
    ]

pub returns-clause-status : goal.returns-clause-status
returns-clause-status g c =
    ended (ran g c) (alone g c) refl
    (copy_fine (ran g c) c.args.digits c.args.outboard c.args.copy c.args.path c.args.root.now.0 c.requires.root (digits_are c.args.digits.now c.args.root.now.0 c.requires.root (omega arith)) c.requires.apart.0 c.requires.apart.1 c.requires.apart.2)
