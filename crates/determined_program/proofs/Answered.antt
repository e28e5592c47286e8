-- Two answers to one command line.
use Rattle.std.proofs.Common.{◌≡◌, ◌⊎◌, List, [], Result, Ok, Err, IfOk, inl, inr, sym, subst, ◌∙◌}
use Rattle.clap.specs.Words.{HasKind, IsAmong, Kinds, Text, fault_of, kind_of, subcommand_of}
use Rattle.clap.specs.declared.error.Error.{Error}
use Rattle.clap.specs.declared.error.kind.ErrorKind.TheVariants.{OutOfMemory}
use Rattle.bao_request.specs.CommandLine.{Asks, IsRead, program_app}
use Rattle.bao_request.specs.declared.tasks.Asked.{Asked}
use Rattle.determined_program.specs.Requests.{SameAnswer, SameKind}
use Rattle.determined_program.proofs.Pins.{pinned}
use Rattle.determined_program.proofs.Tasks.{one_asked}

-- where clap finds no fault, a fault is out of memory
lacking : (kinds : Kinds) (e : Error) → kinds ≡ [] → HasKind kinds e → kind_of e ≡ OutOfMemory
lacking kinds e empty (inl memory) = memory
lacking kinds e empty (inr among) = absurd (subst (IsAmong (kind_of e)) empty among)

refused_asked : (words : List Text) (asked : Asked) (e : Error) → fault_of program_app words ≡ [] → Asks words asked → IsRead words (Err e) → kind_of e ≡ OutOfMemory
refused_asked words asked e empty asks (inl has) = lacking (fault_of program_app words) e empty has
refused_asked words asked e empty asks (inr unasked) = absurd (unasked.none asked asks)

both_refused : (words : List Text) (e f : Error) → IsRead words (Err e) → IsRead words (Err f) → SameKind (kind_of e) (kind_of f) ⊎ (kind_of e ≡ OutOfMemory) ⊎ (kind_of f ≡ OutOfMemory)
both_refused words e f (inl (inl memory)) q = inr (inl memory)
both_refused words e f p (inl (inl memory)) = inr (inr memory)
both_refused words e f (inl (inr a)) (inl (inr b)) = inl (pinned program_app words (kind_of e) (kind_of f) a b)
both_refused words e f (inl has) (inr unasked) = inr (inl (lacking (fault_of program_app words) e unasked.faultless has))
both_refused words e f (inr unasked) (inl has) = inr (inr (lacking (fault_of program_app words) f unasked.faultless has))
both_refused words e f (inr a) (inr b) = inl (inl (a.kind ∙ sym b.kind))

pub answers_agree : (words : List Text) (r s : Result Asked Error) → IfOk r (Asks words) → IfOk s (Asks words) → IsRead words r → IsRead words s → SameAnswer r s
answers_agree words (Ok x) (Ok y) p q a b = one_asked (subcommand_of program_app words) x y p q
answers_agree words (Ok x) (Err f) p q a b = refused_asked words x f a p b
answers_agree words (Err e) (Ok y) p q a b = refused_asked words y e b q a
answers_agree words (Err e) (Err f) p q a b = both_refused words e f a b
