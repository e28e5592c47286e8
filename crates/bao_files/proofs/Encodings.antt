-- What was written of an encoded file.
use Rattle.std.specs.Borrow.{Bor}
use Rattle.std.specs.Prelude.{◌≡◌, ℕ, ◌+◌, ◌-◌, ◌*◌, List, length, Option, Result, Ok, Err}
use Rattle.std.proofs.Common.{ap, refl, sym, inl, inr, ◌∙◌}
use Rattle.b3tree.specs.declared.mode.Mode.{Mode}
use Rattle.b3tree.specs.declared.values.Hash.{Hash}
use Rattle.bao_text.specs.Choice.{chunk_count}
use Rattle.bao_text.proofs.Laws.{length-outboard_text}
use Rattle.bao_files.specs.declared.again.AgainFault.{AgainFault}
use Rattle.bao_files.specs.declared.again.AgainFault.TheVariants.{Input, Output}
use Rattle.bao_text.specs.declared.kinds.Encoding.TheVariants.{Outboard}
use Rattle.bao_files.specs.declared.fault.FileFault.{FileFault}
use Rattle.bao_files.specs.Again.{EncodesAgain, fault_at_paths}
use Rattle.bao_files.specs.Encoded.{EncodesLike, IsMadeEncoding}

-- the program's answer where a second pass has answered this
abbrev pub answer_again : Hash → Bor (List ℕ) → Bor (List ℕ) → Result Unit AgainFault → Result Hash FileFault
answer_again made file path (Ok done) = Ok made
answer_again made file path (Err fault) = Err (fault_at_paths file path fault)

-- what a second pass says, with the hash that the first one made
pub encodes_again : (contents : Option (List ℕ)) (mode : Mode) (size : ℕ) (bytes : List ℕ) (file path : Bor (List ℕ)) (old new : Option (List ℕ)) (made : Hash) (text : List ℕ)
    (written : Result Unit AgainFault) → IsMadeEncoding mode Outboard size bytes made.0 text → EncodesAgain contents mode bytes old new written
    → EncodesLike contents mode bytes file path old new (answer_again made file path written)
encodes_again contents mode size bytes file path old new made text (Ok done) is said = (said.0, said.1, said.3 is.hash_is.are, said.4, (is.hash_is.hash_is ∙ sym said.2, said.5.0))
encodes_again contents mode size bytes file path old new made text (Err Input) is said = (said.0, said.1, said.3 is.hash_is.are, said.4, inr (inr (refl, refl, said.5.1)))
encodes_again contents mode size bytes file path old new made text (Err Output) is said = (said.0, said.1, said.3 is.hash_is.are, said.4, inr (inl (refl, said.5.1)))

-- so many bytes of outboard encoding were made
pub made_len : (mode : Mode) (size : ℕ) (bytes answer text : List ℕ) → IsMadeEncoding mode Outboard size bytes answer text → length text ≡ 8 + 64 * (chunk_count size - 1)
made_len mode size bytes answer text made =
    ap length made.text_is ∙ length-outboard_text mode bytes ∙ ap (λ (n : ℕ). 8 + 64 * (chunk_count n - 1)) made.hash_is.len_is
