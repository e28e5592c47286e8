-- Verdicts on an outboard encoding and a plain copy, neither of which is checked as a whole.
use Rattle.std.proofs.Common.{◌≡◌, ◌+◌, ◌-◌, ◌*◌, ◌<◌, ℕ, false, List, length, Option, Some, None, IfSome, inl, inr, sym, ap, subst, ◌∙◌, arith}
use Rattle.b3tree.specs.declared.mode.Mode.{Mode}
use Rattle.b3tree.specs.Pieces.{piece}
use Rattle.b3par.specs.Given.{GivenAt}
use Rattle.bao_check.specs.Accepted.{slice_nodes}
use Rattle.bao_check.proofs.Laws.{first_fault-not_accepted}
use Rattle.bao_text.specs.Choice.{chunk_count}
use Rattle.bao_text.specs.declared.kinds.Part.TheVariants.{Slice}
use Rattle.bao_decode.specs.Cutting.{ClaimsLength}
use Rattle.bao_decode.specs.Damage.{HasSliceBeside, JudgesOutline, JudgesSliceOf, parent_hash}
use Rattle.bao_decode.specs.TextPass.{StopsAs, task_of_part}
use Rattle.bao_decode.specs.Weaving.{cut_beside, woven_contents}
use Rattle.bao_decode.specs.declared.copy_pass.PassFault.{PassFault}
use Rattle.bao_decode.specs.declared.copy_pass.PassFault.TheVariants.{Check, Input, Output}
use Rattle.bao_decode.proofs.Slicings.{beside_known}

module _ (mode : Mode) (root : List ℕ) (faultless : Type 0) (size total : ℕ) where
  -- the bytes are such an outboard encoding
  pub outline_is : (contents : Option (List ℕ)) → ClaimsLength contents total → size ≡ 8 + 64 * (chunk_count total - 1)
      → (1024 < total → (parent : List ℕ) × GivenAt contents 8 parent × (length parent ≡ 64) × (parent_hash mode parent ≡ root))
      → IfSome contents (λ s. size ≡ length s → JudgesOutline faultless mode root s (Some total))
  outline_is None claims sized first = tt
  outline_is (Some s) claims sized first = λ is. (
    record {
      long = claims.0;
      size = sym is ∙ sized ∙ ap (λ (n : ℕ). 8 + 64 * (chunk_count n - 1)) (sym claims.1);
      first = λ more.
          let it = first (subst (λ (n : ℕ). 1024 < n) claims.1 more) in
          ap (parent_hash mode) (sym (it.1 ∙ ap (λ (n : ℕ). piece s 8 n) it.2)) ∙ it.3;
    },
    sym claims.1,
  )

module _ (mode : Mode) (root : List ℕ) (start len : ℕ) where
  text_refused : (faultless : Type 0) (o c : List ℕ) (fault : PassFault) → StopsAs (task_of_part mode root (Slice start len)) faultless (cut_beside o c start len) fault → faultless
      → ¬ HasSliceBeside mode root start len o c
  text_refused faultless o c (Check fault) (inl first) sure has =
      first_fault-not_accepted mode root (cut_beside o c start len) (slice_nodes (cut_beside o c start len) start len) fault first has.0
  text_refused faultless o c (Check fault) (inr long) sure has = omega (arith, long.1, has.1)
  text_refused faultless o c Input stops sure has = stops sure
  text_refused faultless o c Output stops sure has = absurd stops

  -- the slice that two sources make was refused
  pub slice_refused : (mine faultless : Type 0) (outline copy ours theirs : Option (List ℕ)) (total a b : ℕ) (fault : PassFault) → ours ≡ outline → theirs ≡ copy → a ≡ start → b ≡ len
      → (faultless → mine) → ClaimsLength outline total → IfSome (woven_contents total a b ours theirs) (λ s. StopsAs (task_of_part mode root (Slice start len)) mine s fault)
      → JudgesSliceOf faultless mode root start len outline copy false
  slice_refused mine faultless None copy ours theirs total a b fault o_is c_is a_is b_is sure claims stops = tt
  slice_refused mine faultless (Some o) None ours theirs total a b fault o_is c_is a_is b_is sure claims stops = tt
  slice_refused mine faultless (Some o) (Some c) ours theirs total a b fault o_is c_is a_is b_is sure claims stops = λ never.
      text_refused mine o c fault
      (beside_known mode root start len total a b o c ours theirs (λ (s : List ℕ). StopsAs (task_of_part mode root (Slice start len)) mine s fault) a_is b_is o_is c_is
      (subst (λ (x : Option (List ℕ)). ClaimsLength x total) (sym o_is) claims) stops) (sure never)
