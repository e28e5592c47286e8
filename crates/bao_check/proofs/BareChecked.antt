-- From the walk through chunks beside an outline to what its check says.
use Rattle.std.proofs.Common.{◌≡◌, ℕ, ◌+◌, ◌*◌, ◌<◌, ◌≤◌, List, [], length, sym, subst, arith}
use Rattle.b3tree.specs.declared.mode.Mode.{Mode}
use Rattle.bao_text.specs.Choice.{chunk_count}
use Rattle.bao_text.specs.Cut.{claimed}
use Rattle.bao_text.specs.Nodes.{Side}
use Rattle.bao_check.specs.declared.asked.Asked.{Asked}
use Rattle.bao_check.specs.declared.bare.Bare.{Bare}
use Rattle.bao_check.specs.declared.fault.CheckFault.{CheckFault}
use Rattle.bao_check.specs.declared.fault.CheckFault.TheVariants.{Short, Mismatch, Trailing, Memory, Reader}
use Rattle.bao_check.specs.Bare.{AreBare, AreGoodBare, HasChunkValue, IsBareFault, IsGoodBare}
use Rattle.bao_check.specs.BareWalk.{IsGoodChunk, IsWantedChunk, PartPasses, PartStops, Reaches}
use Rattle.bao_check.specs.Beside.{bare_len}
use Rattle.bao_check.specs.Walk.{asked_root}
use Rattle.bao_check.proofs.BareReached.{reaches-whole}

-- what the walk through all of them finds
module _ (bare : Bare) (asked : Asked) (total count : ℕ) (mode : Mode) (root : List ℕ) (mode_is : bare.mode ≡ mode) (asked_is : asked ≡ asked_root root) (total_is : total ≡ claimed bare.outline.now)
    (after_is : bare.after ≡ bare.first + count) (within : bare.first + count ≤ chunk_count (claimed bare.outline.now)) where
  reaches : Reaches root bare.outline.now asked 0 total [] 8 8
  reaches = grind (arith, reaches-whole)

  good_is : (k : ℕ) → IsGoodChunk bare root k → IsGoodBare mode root bare.outline.now bare.first bare.chunks.now k
  good_is k good = subst (λ (m : Mode). IsGoodBare m root bare.outline.now bare.first bare.chunks.now k) mode_is good

  wanted_is : (k : ℕ) → bare.first ≤ k → k < bare.first + count → IsWantedChunk bare 0 total k
  wanted_is k first before = record { first = first; after = omega (arith, after_is); from = omega arith; below = omega (arith, total_is) }

  pub walked_good : ((root : List ℕ) (sides : List Side) (source : ℕ) → Reaches root bare.outline.now asked 0 total sides source 8 → PartPasses bare root 0 total)
      → AreGoodBare mode root bare.outline.now bare.first bare.chunks.now (bare.first + count)
  walked_good passes = λ k first before. good_is k (passes root [] 8 reaches k (wanted_is k first before))

  fault_is : (fault : CheckFault) → PartStops bare root 0 total fault → IsBareFault mode root bare.outline.now bare.first count bare.chunks.now fault
  fault_is (Short at) h = grind (arith, good_is, wanted_is)
  fault_is (Mismatch at) h = (
    h.k,
    h.wanted.first,
    omega (arith, h.wanted.after, after_is),
    h.is.0,
    (λ j first less. good_is j (h.good j less (wanted_is j first (omega (arith, less, h.wanted.after, after_is))))),
    h.is.1,
    λ has. h.is.2 (subst (λ (m : Mode). HasChunkValue m root bare.outline.now bare.first bare.chunks.now h.k) (sym mode_is) has),
  )
  fault_is (Trailing at) h = absurd h.is
  fault_is Memory h = absurd h.is
  fault_is Reader h = absurd h.is

  pub walked_fault : (fault : CheckFault) → ((root : List ℕ) (sides : List Side) (source : ℕ) → Reaches root bare.outline.now asked 0 total sides source 8 → PartStops bare root 0 total fault)
      → IsBareFault mode root bare.outline.now bare.first count bare.chunks.now fault
  walked_fault fault each = fault_is fault (each root [] 8 reaches)

module _ (mode : Mode) (root outline : List ℕ) (first count : ℕ) (chunks : List ℕ) (some : 1 ≤ count) (within : first + count ≤ chunk_count (claimed outline)) where
  -- good chunks are no fewer bytes than they should be
  pub bare_long : AreGoodBare mode root outline first chunks (first + count) → bare_len (claimed outline) (1024 * first) (1024 * count) ≤ length chunks
  bare_long good = grind arith

  -- what has a fault isn't accepted
  pub bare_apart : (fault : CheckFault) → IsBareFault mode root outline first count chunks fault → AreBare mode root outline first count chunks → ⊥
  bare_apart (Short at) h are = h.5 (are.good h.0 h.1 h.2).0
  bare_apart (Mismatch at) h are = h.6 (are.good h.0 h.1 h.2).1
  bare_apart (Trailing at) h are = omega (arith, h.2, h.1, are.ends)
  bare_apart Memory h are = h
  bare_apart Reader h are = h
