-- Plain copies beside an outboard encoding that is a blob's own.
use Rattle.std.specs.Prelude.{◌≡◌, ℕ, ◌-◌, ◌*◌, ◌/◌, ◌<◌, min, List, length, Option, Some, slice_get}
use Rattle.b3tree.specs.Pieces.{piece as part}
use Rattle.bao_check.specs.declared.outline.Outline.{Outline}
use Rattle.bao_check.specs.Outline.{outline_text}
use Rattle.bao_text.specs.Choice.{chunk_count}
use Rattle.bao_text.specs.Texts.{outboard_text}
use Rattle.holders.specs.declared.form.Form.{Form}
use Rattle.holders.specs.declared.form.Form.TheVariants.{Slices, Bare}
use Rattle.holders.specs.declared.grain.Grain.{Grain}
use Rattle.holders.specs.declared.grain.Grain.TheVariants.{Group as ByGroup, Chunk as ByChunk}
use Rattle.holders.specs.Lists.{part_gives}
use Rattle.bao_windows.specs.declared.wanted.Wanted.{Wanted}
use Rattle.bao_windows.specs.Available.{IsOfRoot}

-- The outline is the blob's own outboard encoding, and was accepted under the root in the mode.
pub record IsOwnOutline (wanted : Wanted) (outline : Outline) (blob : List ℕ) : Type 0 where
  pub of_root : IsOfRoot wanted outline
  pub text_is : outline_text outline ≡ outboard_text wanted.mode blob

-- plain copies are given, beside such an outline
abbrev pub IsOwn : Wanted → Form → List ℕ → Type 0
IsOwn wanted Slices blob = ⊥
IsOwn wanted (Bare outline) blob = IsOwnOutline wanted outline.now blob

-- one of the sources gives nothing but the blob's bytes as so many of its bytes from a place on
pub record HasPart {S : Type 0} (contents : S → Option (List ℕ)) (faultless : S → Type 0) (blob : List ℕ) (start len : ℕ) (sources : List S) : Type 0 where
  pub place : ℕ
  pub source : S
  pub there : slice_get sources place ≡ Some source
  pub gives_part : (bytes : List ℕ) → part_gives contents faultless source start len bytes → bytes ≡ part blob start len

-- the part that plain copies of a blob of `total` bytes are asked for to come by a chunk: its group, or the chunk
abbrev pub IsPartBy : Grain → ℕ → ℕ → ℕ → ℕ → Type 0
IsPartBy ByGroup total c start len = (start ≡ 65536 * (c / 64)) × (len ≡ min 65536 (total - start))
IsPartBy ByChunk total c start len = (start ≡ 1024 * c) × (len ≡ min 1024 (total - start))

-- One of them gives the last chunk, and one the part that a chunk is asked for by, for each chunk of the blob.
pub record HaveCopies {S : Type 0} (grain : Grain) (contents : S → Option (List ℕ)) (faultless : S → Type 0) (blob : List ℕ) (sources : List S) : Type 0 where
  pub end : (start len : ℕ) → IsPartBy ByChunk (length blob) (chunk_count (length blob) - 1) start len → HasPart contents faultless blob start len sources
  pub each : (c start len : ℕ) → c < chunk_count (length blob) → IsPartBy grain (length blob) c start len → HasPart contents faultless blob start len sources
