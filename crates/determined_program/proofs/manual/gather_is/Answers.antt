use Rattle.std.proofs.Common.{arith, map, string_bytes, refl, inl, inr}
use Rattle.std.specs.Prelude.{⊤}
use Rattle.bao_files.specs.HeldFiles.{held_at}
use Rattle.bao_request.specs.declared.tasks.Task.TheVariants.{Gather}
use Rattle.determined_program.proofs.ManualRuns.{Ran, digits_are, done, ended, files, gather_enough, gather_facts, gather_fine, held_known, refused, unchanged}
use Rattle.determined_program.proofs.PlainRequests.{AsksAlone, gather_alone, plain_gathering}
use Rattle.determined_program.proofs.manual.gather_is.Given.{Over}
use Rattle.determined_program.proofs.manual.gather_is.Goals as goal
use Rattle.determined_program.proofs.manual.gather_is.Goals.{After-command}

module _ (g : Over) (c : After-command g) where
  alone : AsksAlone (map string_bytes c.args.words.now) (Gather (plain_gathering c.args.digits c.args.files.now c.args.path))
  alone = gather_alone (map string_bytes c.args.words.now) c.args.digits c.args.path c.args.files.now c.requires.few.0 c.requires.few.1 c.requires.asked

  ran : Ran (map string_bytes c.args.words.now) (held_at c.args.disk.now.files) (held_at c.command.new.disk.files) (g.O.Write.contents c.args.out.now) (g.O.Write.contents c.command.new.out) ⊤ c.command.result
  ran = record {
    known = held_known c.args.disk.now.files;
    most = c.command.ensures.status;
    done = c.command.ensures.done alone.one;
    files = c.command.ensures.files;
    fault = c.command.ensures.fault alone.one;
    usage = c.command.ensures.usage alone.one;
    refusal = c.command.ensures.refusal alone.one;
  }

pub returns-clause-done : goal.returns-clause-done
returns-clause-done g c = λ is.
    let did = done (ran g c) (alone g c) refl (gather_facts (ran g c) c.args.digits c.args.path c.args.files.now c.args.root.now.0 c.requires.root) is in
    (did.0, did.1.0, did.1.1, did.2)

pub returns-clause-files : goal.returns-clause-files
returns-clause-files g c =
    elim (files (ran g c) (alone g c) refl (gather_facts (ran g c) c.args.digits c.args.path c.args.files.now c.args.root.now.0 c.requires.root)) [
      | inl kept ↦ inl kept
      | inr made ↦ inr (made.0, made.1.0, made.1.1)
    ]

pub returns-clause-kept : goal.returns-clause-kept
returns-clause-kept g c = unchanged (ran g c) (alone g c) refl

pub returns-clause-enough : goal.returns-clause-enough
returns-clause-enough g c = λ is.
    let bad = refused (ran g c) (alone g c) refl is in
    gather_enough (ran g c) c.args.digits c.args.path c.args.files.now tt c.args.root.now c.requires.root bad.0 bad.1 bad.2

pub returns-clause-status : goal.returns-clause-status
returns-clause-status g c = λ apart.
    ended (ran g c) (alone g c) refl (gather_fine (ran g c) c.args.digits c.args.path c.args.files.now (digits_are c.args.digits.now c.args.root.now.0 c.requires.root (omega arith)) apart c.requires.few.1)
