use Rattle.std.proofs.Common.{ℕ, List, ◌≡◌, ◌⊎◌, ◌∙◌, sym, inl, inr}
use Rattle.std.specs.Process.{exit_status}
use Rattle.b3tree.specs.declared.mode.Mode.{Mode}
use Rattle.bao_files.specs.Disks.{FileState, Unknown}
use Rattle.bao_request.specs.declared.tasks.Task.{Task}
use Rattle.bao_request.specs.declared.tasks.Task.TheVariants.{Hash, Encode, CutSlice, Decode, DecodeCopy, Gather, Replay}
use Rattle.bao_command.specs.Refused.{IsRefused}
use Rattle.bao_command.specs.Tasks.{Decodes, Gathers, Replays}
use Rattle.bao_command.proofs.program.run.Goals as goal

either_as : {m n a b : ℕ} → n ≡ m → (m ≡ a) ⊎ (m ≡ b) → (n ≡ a) ⊎ (n ≡ b)
either_as is (inl one) = inl (is ∙ one)
either_as is (inr other) = inr (is ∙ other)

-- a task that has something to refuse is one of these
may_refuse : (sure : Type 0) (at : List ℕ → FileState) (mode : Mode) (task : Task) → IsRefused sure at mode task → Decodes task ⊎ Gathers task ⊎ Replays task
may_refuse sure at mode (Hash from count file) refused = absurd refused
may_refuse sure at mode (Encode encoding file out) refused = absurd refused
may_refuse sure at mode (CutSlice root start len outboard file out) refused = inl tt
may_refuse sure at mode (Decode root part file out) refused = inl tt
may_refuse sure at mode (DecodeCopy root outboard copy out) refused = inl tt
may_refuse sure at mode (Gather task) refused = inr (inl tt)
may_refuse sure at mode (Replay root capacity script files) refused = inr (inr tt)

pub returns-clause-outcome : goal.returns-clause-outcome
returns-clause-outcome g c =
    let status : exit_status c.from.result ≡ c.command.result = c.from.ensures in
    record {
      done = λ one is. c.command.ensures.done one (sym status ∙ is);
      file_fault = λ one is. c.command.ensures.file_fault one (sym status ∙ is);
      fault = λ one some other. c.command.ensures.fault one (λ is. some (status ∙ is)) (λ is. other (status ∙ is));
      refused = λ refused. either_as status (c.command.ensures.refused refused);
      usage = λ one is. c.command.ensures.usage one (sym status ∙ is);
      refusal = λ one is. let refused = c.command.ensures.refusal one (sym status ∙ is) in (refused.0, refused.1, may_refuse ⊥ (λ _. Unknown) refused.2.0 refused.0.task refused.2.2);
      surveyed = λ many. elim (c.command.ensures.surveyed many).1 [
        | inl memory ↦ inl (status ∙ memory.0, memory.1)
        | inr ended ↦ inr (ended.0, ended.1, (ended.2.0, ended.2.1 ∙ sym status, ended.2.2))
      ];
    }
