-- How the walks through the two parts of a subtree make up that through the whole, for chunks beside an outline.
use Rattle.std.proofs.Common.{◌≡◌, ℕ, ◌+◌, ◌-◌, ◌/◌, ◌<◌, ◌≤◌, List, take, drop, sym, ap, subst, arith, inl, inr}
use Rattle.std.proofs.lemmas.Bool.{cases_lt}
use Rattle.b3word.specs.declared.input.Input.{Input}
use Rattle.b3tree.specs.Chunk.{last_chunk_input}
use Rattle.b3tree.specs.Tree.{left_len}
use Rattle.bao_text.specs.Cut.{claimed}
use Rattle.bao_text.specs.Nodes.{Side}
use Rattle.bao_text.proofs.SubtreeText.{Parts, left_len-Parts}
use Rattle.bao_check.specs.declared.asked.Asked.{Asked}
use Rattle.bao_check.specs.declared.bare.Bare.{Bare}
use Rattle.bao_check.specs.declared.fault.CheckFault.{CheckFault}
use Rattle.bao_check.specs.declared.fault.CheckFault.TheVariants.{Short, Mismatch, Trailing, Memory, Reader}
use Rattle.bao_check.specs.Bare.{bare_at, bare_chunk, chunk_len}
use Rattle.bao_check.specs.BareWalk.{ChunkStops, IsBadChunk, IsChunkGood, IsGoodChunk, IsWantedChunk, PartPasses, PartStops, Reaches, bare_input}
use Rattle.bao_check.specs.Walk.{Meets}
use Rattle.bao_check.proofs.Sizes.{chunk_size}

-- a chunk alone
module _ (bare : Bare) (root : List ℕ) (asked : Asked) (number n : ℕ) (sides : List Side) (source at : ℕ) (one : n ≤ 1024)
    (reaches : Reaches root bare.outline.now asked number n sides source at) where
  abbrev total : ℕ
  total = claimed bare.outline.now

  abbrev input : Input
  input = last_chunk_input bare.mode number (bare_chunk total bare.first bare.chunks.now number)

  len_is : chunk_len total number ≡ n
  len_is = chunk_size total number n reaches.inside one

  input_is : input ≡ bare_input bare number n
  input_is = ap (λ (m : ℕ). last_chunk_input bare.mode number (take m (drop (bare_at bare.first number) bare.chunks.now))) len_is

  pub passes_chunk : IsChunkGood bare asked number n → PartPasses bare root number n
  passes_chunk good k wanted =
      let same : number ≡ k = omega (arith, one, wanted.from, wanted.below) in
      subst (IsGoodChunk bare root) same (omega (arith, good.0, len_is), (reaches.one one input).1 (subst (λ (x : Input). Meets asked x) (sym input_is) good.1))

  bad_chunk : (fault : CheckFault) → ChunkStops bare asked number n fault → IsBadChunk bare root number fault
  bad_chunk (Short from) h = (h.0, λ there. absurd (omega (arith, h.1, there, len_is)))
  bad_chunk (Mismatch from) h = (h.0, omega (arith, h.1, len_is), λ has. h.2 (subst (λ (x : Input). Meets asked x) input_is ((reaches.one one input).0 has)))
  bad_chunk (Trailing from) h = h
  bad_chunk Memory h = h
  bad_chunk Reader h = h

  pub stops_chunk : (fault : CheckFault) → bare.first ≤ number → number < bare.after → ChunkStops bare asked number n fault → PartStops bare root number n fault
  stops_chunk fault first after h = record {
    k = number;
    wanted = record { first = first; after = after; from = omega arith; below = omega arith };
    good = λ j before wanted. absurd (omega (arith, wanted.from));
    is = bad_chunk fault h;
  }

-- two parts
module _ (bare : Bare) (root : List ℕ) (number n l : ℕ) (more : 1024 < n) (l_is : l ≡ left_len n) where
  parts : Parts n l
  parts = subst (Parts n) (sym l_is) (left_len-Parts n more)

  -- a wanted chunk is one of the left part's or of the right part's
  near_wanted : (k : ℕ) → k < number + l / 1024 → IsWantedChunk bare number n k → IsWantedChunk bare number l k
  near_wanted k before wanted = record { first = wanted.first; after = wanted.after; from = wanted.from; below = omega (arith, parts.whole, parts.some) }

  far_wanted : (k : ℕ) → number + l / 1024 ≤ k → IsWantedChunk bare number n k → IsWantedChunk bare (number + l / 1024) (n - l) k
  far_wanted k after wanted = record { first = wanted.first; after = wanted.after; from = after; below = omega (arith, wanted.below, parts.whole, parts.below) }

  pub passes_parts : PartPasses bare root number l → PartPasses bare root (number + l / 1024) (n - l) → PartPasses bare root number n
  passes_parts near far k wanted = elim (cases_lt k (number + l / 1024)) [
    | inl before ↦ near k (near_wanted k before wanted)
    | inr after ↦ far k (far_wanted k after wanted)
  ]

  pub stops_near : (fault : CheckFault) → PartStops bare root number l fault → PartStops bare root number n fault
  stops_near fault h = record {
    k = h.k;
    wanted = record { first = h.wanted.first; after = h.wanted.after; from = h.wanted.from; below = omega (arith, h.wanted.below, parts.below) };
    good = λ j less wanted. h.good j less (near_wanted j (omega (arith, less, h.wanted.below, parts.whole, parts.some)) wanted);
    is = h.is;
  }

  pub stops_far : (fault : CheckFault) → PartPasses bare root number l → PartStops bare root (number + l / 1024) (n - l) fault → PartStops bare root number n fault
  stops_far fault near h = record {
    k = h.k;
    wanted = record { first = h.wanted.first; after = h.wanted.after; from = omega (arith, h.wanted.from); below = omega (arith, h.wanted.below, parts.whole, parts.below) };
    good = λ j less wanted. elim (cases_lt j (number + l / 1024)) [
      | inl before ↦ near j (near_wanted j before wanted)
      | inr after ↦ h.good j less (far_wanted j after wanted)
    ];
    is = h.is;
  }
