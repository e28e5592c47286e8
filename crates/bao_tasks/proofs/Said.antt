-- What is said of a source's bytes, where they are known.
use Rattle.std.proofs.Common.{◌≡◌, ◌⊎◌, ℕ, ◌+◌, ◌-◌, ◌*◌, ◌/◌, ◌<◌, ◌≤◌, min, List, Option, None, Some, IfSome, is_some, Bool, false, true, not, arith, inl, inr, refl, subst}
use Rattle.b3tree.specs.Pieces.{piece}
use Rattle.bao_check.proofs.BareFound.{accepted-bare, bare-accepted}
use Rattle.bao_check.specs.Accepted.{IsAccepted, slice_nodes}
use Rattle.bao_check.specs.Bare.{AreBare, bare_part}
use Rattle.bao_check.specs.Beside.{bare_len, beside_text}
use Rattle.bao_check.specs.Outline.{outline_claimed, outline_mode, outline_root, outline_text}
use Rattle.bao_check.specs.declared.checked.Checked.{Checked}
use Rattle.bao_text.specs.Choice.{chunk_count}
use Rattle.bao_text.specs.Cut.{cut_text}
use Rattle.bao_windows.proofs.Parts.{accepted_slice}
use Rattle.bao_windows.specs.Asked.{ClaimsLess, IsAnswer, made_in, mode_in, root_in}
use Rattle.bao_windows.specs.Available.{IsWithin, gives_in, span_in}
use Rattle.bao_windows.specs.declared.wanted.Wanted.{Wanted}
use Rattle.holders.specs.Lists.{part_gives}
use Rattle.holders.specs.Pieces.{nodes_of}
use Rattle.holders.specs.Places.{IsLost, OfBytes}
use Rattle.holders.specs.declared.form.Form.{Form}
use Rattle.holders.specs.declared.form.Form.TheVariants.{Slices, Bare}
use Rattle.bao_tasks.specs.Missing.{BeginsWithin}
use Rattle.bao_tasks.specs.Worth.{HasChunks, IsSaidOf, JudgesGroup}

-- two things that are said make a third
pub said_both : (contents : Option (List ℕ)) (faultless : Type 0) (P Q R : List ℕ → Type 0) → ((bytes : List ℕ) → P bytes → Q bytes → R bytes)
    → IsSaidOf contents faultless P → IsSaidOf contents faultless Q → IsSaidOf contents faultless R
said_both None faultless P Q R make p q = tt
said_both (Some s) faultless P Q R make p q = λ few sound. make s (p few sound) (q few sound)

-- or one makes another
pub said_then : (contents : Option (List ℕ)) (faultless : Type 0) (P R : List ℕ → Type 0) → ((bytes : List ℕ) → P bytes → R bytes)
    → IsSaidOf contents faultless P → IsSaidOf contents faultless R
said_then None faultless P R make p = tt
said_then (Some s) faultless P R make p = λ few sound. make s (p few sound)

-- what is so of any bytes
pub said_always : (contents : Option (List ℕ)) (faultless : Type 0) (P : List ℕ → Type 0) → ((bytes : List ℕ) → P bytes) → IsSaidOf contents faultless P
said_always None faultless P is = tt
said_always (Some s) faultless P is = λ few sound. is s

-- what is so of what a source gave, which is made of its bytes in this way
said_given : (contents : Option (List ℕ)) (faultless : Type 0) (way : List ℕ → List ℕ) (text : List ℕ) (Q : List ℕ → Type 0)
    → OfBytes contents (λ bytes. (text ≡ way bytes) ⊎ IsLost faultless text) → Q text → IsSaidOf contents faultless (λ bytes. Q (way bytes))
said_given None faultless way text Q given is = tt
said_given (Some s) faultless way text Q given is = λ few sound. elim (given few) [
  | inl same ↦ subst Q same is
  | inr lost ↦ absurd (lost.1 sound)
]

-- a verdict by what was found
judged : (found : Option Checked) (lacks : Bool) (P : Type 0) (A : Checked → Type 0) → is_some found ≡ not lacks → IfSome found A → ((piece : Checked) → A piece → P) → (found ≡ None → P → ⊥)
    → JudgesGroup lacks P
judged None true P A is some makes none = none refl
judged (Some piece) false P A is some makes none = makes piece some
judged None false P A is some makes none = let no : false ≡ true = is in cc
judged (Some piece) true P A is some makes none = let no : true ≡ false = is in cc

judged_as : (lacks : Bool) (P Q : Type 0) → (P → Q) → (Q → P) → JudgesGroup lacks P → JudgesGroup lacks Q
judged_as true P Q there back judged = λ q. judged (back q)
judged_as false P Q there back judged = there judged

-- chunks that a source is asked for
module _ {S : Type 0} (contents : S → Option (List ℕ)) (faultless : S → Type 0) (wanted : Wanted) (source : S) (first most : ℕ) (some : 0 < most) (few : most ≤ 64) where
  pub asked_within : (form : Form) → BeginsWithin form first → IsWithin form (1024 * first)
  asked_within Slices begins = tt
  asked_within (Bare outline) begins = (omega arith, omega (arith, begins.1))

  verdict_in : (form : Form) (lacks : Bool) (text : List ℕ) → BeginsWithin form first → ClaimsLess form
      → gives_in form contents faultless source (1024 * first) (span_in form (1024 * first) (1024 * most)) text
      → JudgesGroup lacks (IsAccepted (mode_in form wanted) (root_in form wanted) (made_in form (1024 * first) (1024 * most) text).text (nodes_of (made_in form (1024 * first) (1024 * most) text)))
      → IsSaidOf (contents source) (faultless source) (λ bytes. JudgesGroup lacks (HasChunks form wanted.mode wanted.root.0 first most bytes))
  verdict_in Slices lacks text begins less given verdict =
      said_given (contents source) (faultless source) (λ bytes. cut_text bytes (1024 * first) (1024 * most)) text
      (λ t. JudgesGroup lacks (IsAccepted wanted.mode wanted.root.0 t (slice_nodes t (1024 * first) (1024 * most)))) given verdict
  verdict_in (Bare outline) lacks text begins less given verdict =
      let total : ℕ = outline_claimed outline.now in
      let start : ℕ = 1024 * first in
      let count : ℕ = min (chunk_count total - first) most in
      let asked : ℕ = min (chunk_count (1024 * most)) (chunk_count total - start / 1024) in
      let same : asked ≡ count = omega (arith, some) in
      let size : bare_len total start (bare_part asked) ≡ min (total - start) (1024 * count) = omega (arith, same, some, few, begins.1, less) in
      let mode = outline_mode outline.now in
      let root : List ℕ = outline_root outline.now in
      let outboard : List ℕ = outline_text outline.now in
      let slice : ℕ → Type 0 = (λ k. IsAccepted mode root (beside_text outboard start (bare_part k) text) (slice_nodes (beside_text outboard start (bare_part k) text) start (bare_part k))) in
      let at_least : 1 ≤ count = omega (arith, some, begins.1) in
      let within : first + count ≤ chunk_count total = omega (arith, begins.1) in
      said_given (contents source) (faultless source) (λ bytes. piece bytes start (min (total - start) (1024 * count))) text
      (λ t. JudgesGroup lacks (AreBare mode root outboard first count t)) (subst (λ (n : ℕ). part_gives contents faultless source start n text) size given)
      (judged_as lacks (slice count) (AreBare mode root outboard first count text) (accepted-bare mode root outboard text first count outline.now.accepted less at_least within)
      (bare-accepted mode root outboard text first count outline.now.accepted less at_least within) (subst (λ (k : ℕ). JudgesGroup lacks (slice k)) same verdict))

  -- and whether they were found
  pub chunks_said : (found : Option Checked) (lacks : Bool) → BeginsWithin wanted.form first → is_some found ≡ not lacks
      → IsAnswer contents faultless wanted source (1024 * first) (1024 * most) found
      → IsSaidOf (contents source) (faultless source) (λ bytes. JudgesGroup lacks (HasChunks wanted.form wanted.mode wanted.root.0 first most bytes))
  chunks_said found lacks begins is answer =
      verdict_in wanted.form lacks answer.text begins answer.less answer.given
      (judged found lacks _ _ is answer.some (λ piece it. accepted_slice (mode_in wanted.form wanted) (root_in wanted.form wanted) _ piece it.0 it.1) answer.none)
