use Rattle.std.proofs.Common.{map, string_bytes, refl, inl, inr}
use Rattle.std.specs.Prelude.{⊤}
use Rattle.bao_files.specs.HeldFiles.{held_at}
use Rattle.bao_request.specs.declared.tasks.Task.TheVariants.{Hash}
use Rattle.determined_program.proofs.ManualRuns.{Ran, done, ended_unrefused, files, hash_facts, hash_fine, hash_unrefused, held_known}
use Rattle.determined_program.proofs.PlainRequests.{AsksAlone, hash_alone}
use Rattle.determined_program.proofs.manual.hash_is.Given.{Over}
use Rattle.determined_program.proofs.manual.hash_is.Goals as goal
use Rattle.determined_program.proofs.manual.hash_is.Goals.{After-command}

module _ (g : Over) (c : After-command g) where
  alone : AsksAlone (map string_bytes c.args.words.now) (Hash 0 32 c.args.file)
  alone = hash_alone (map string_bytes c.args.words.now) c.args.file c.requires

  ran : Ran (map string_bytes c.args.words.now) (held_at c.args.disk.now.files) (held_at c.command.new.disk.files) (g.O.Write.contents c.args.out.now) (g.O.Write.contents c.command.new.out) ⊤ c.command.result
  ran = record {
    known = held_known c.args.disk.now.files;
    most = c.command.ensures.status;
    done = c.command.ensures.done alone.one;
    files = c.command.ensures.files;
    fault = c.command.ensures.fault alone.one;
    usage = c.command.ensures.usage alone.one;
    refusal = c.command.ensures.refusal alone.one;
  }

pub returns-clause-done : goal.returns-clause-done
returns-clause-done g c = λ is.
    let did = done (ran g c) (alone g c) refl (hash_facts (ran g c) c.args.file) is in
    (did.0, did.1.0, did.2)

pub returns-clause-files : goal.returns-clause-files
returns-clause-files g c = elim (files (ran g c) (alone g c) refl (hash_facts (ran g c) c.args.file)) [ inl kept ↦ kept | inr made ↦ made.1.1 ]

pub returns-clause-status : goal.returns-clause-status
returns-clause-status g c = ended_unrefused (ran g c) (alone g c) refl (hash_fine (ran g c) c.args.file) (hash_unrefused (ran g c) c.args.file)
