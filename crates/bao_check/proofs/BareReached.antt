-- Going down the parents of an outline comes to what it asks of each chunk.
use Rattle.std.proofs.Common.{◌≡◌, ℕ, ◌+◌, ◌-◌, ◌*◌, ◌/◌, ◌<◌, ◌↔◌, List, [], ◌∷◌, ◌++◌, take, drop, refl, sym, subst, arith}
use Rattle.b3word.specs.declared.input.Input.{Input}
use Rattle.b3word.specs.Compression.{cv}
use Rattle.b3tree.specs.Tree.{left_len}
use Rattle.bao_text.specs.Choice.{chunk_count, of_outboard}
use Rattle.bao_text.specs.Cut.{claimed}
use Rattle.bao_text.specs.Nodes.{Side, left, right, subtree_size}
use Rattle.bao_text.proofs.SubtreeNodes.{parent_node}
use Rattle.bao_text.proofs.SubtreeText.{Parts, left_len-Parts}
use Rattle.bao_check.specs.declared.asked.Asked.{Asked}
use Rattle.bao_check.specs.Accepted.{outboard_nodes, part_value, places_of}
use Rattle.bao_check.specs.Bare.{HasValue}
use Rattle.bao_check.specs.BareWalk.{Reaches}
use Rattle.bao_check.specs.Leaves.{WantsParents}
use Rattle.bao_check.specs.Pieces.{HasLeaf, IsLeafValue}
use Rattle.bao_check.specs.Walk.{Meets, asked_root}
use Rattle.bao_check.proofs.Outlines.{leaf-far, leaf-near, leaf-top, leaf-unique}
use Rattle.bao_check.proofs.Parts.{below}
use Rattle.bao_check.proofs.Sizes.{Inside-far, Inside-near, Inside-whole}

-- at the top it is the root
pub reaches-whole : (root outline : List ℕ) → Reaches root outline (asked_root root) 0 (claimed outline) [] 8 8
reaches-whole root outline = search (arith, Inside-whole)

-- the subtree has all its parents
pub reaches-parents : (root outline : List ℕ) (asked : Asked) (number n : ℕ) (sides : List Side) (source at : ℕ) → Reaches root outline asked number n sides source at
    → WantsParents (of_outboard (claimed outline)) number n
reaches-parents root outline asked number n sides source at reaches = record { start = omega arith; end = omega (arith, reaches.inside.within); without = refl }

-- below a parent it is the half of it
module _ {root outline : List ℕ} {asked : Asked} {number n : ℕ} {sides : List Side} {source at : ℕ} (more : 1024 < n) (reaches : Reaches root outline asked number n sides source at) where
  abbrev l : ℕ
  l = left_len n

  abbrev bytes : List ℕ
  bytes = take 64 (drop at outline)

  parts : Parts n l
  parts = left_len-Parts n more

  has : WantsParents (of_outboard (claimed outline)) number n
  has = reaches-parents root outline asked number n sides source at reaches

  half : (side : Side) (k : ℕ) → HasLeaf side (parent_node number n sides source) k → (x : Input) → HasValue root outline k x ↔ Meets (below side bytes) x
  half side k over x =
      let leaf : IsLeafValue outline (places_of (outboard_nodes outline)) k (part_value side bytes) =
      reaches.among k (part_value side bytes) (leaf-top outline k (of_outboard (claimed outline)) number n sides source at side more has over) in
      let several : 1 < chunk_count (claimed outline) = omega (arith, more, reaches.inside.within) in (
        (λ h. leaf-unique outline k (cv x) (part_value side bytes) (h.1 several) leaf),
        λ meets. ((λ single. absurd (omega arith)), λ _. subst (IsLeafValue outline (places_of (outboard_nodes outline)) k) (sym meets) leaf),
      )

  pub reaches-near : Reaches root outline (below left bytes) number l (sides ++ left ∷ []) (source + 64) (at + 64)
  reaches-near = record {
    inside = Inside-near (claimed outline) number n more reaches.inside;
    among = λ k value leaf. reaches.among k value (leaf-near outline k value (of_outboard (claimed outline)) number n sides source at more has leaf);
    one = λ small. half left number (omega (arith, parts.some), refl);
  }

  pub reaches-far : Reaches root outline (below right bytes) (number + l / 1024) (n - l) (sides ++ right ∷ []) (source + 64 + subtree_size l) (at + 64 * (l / 1024))
  reaches-far = record {
    inside = Inside-far (claimed outline) number n more reaches.inside;
    among = λ k value leaf. reaches.among k value (leaf-far outline k value (of_outboard (claimed outline)) number n sides source at more has leaf);
    one = λ small. half right (number + l / 1024) (omega (arith, parts.below), refl);
  }

  -- the same of a length and of an `asked` that are these
  pub near_reached : {m : ℕ} → m ≡ l → {a : Asked} → a ≡ below left bytes → Reaches root outline a number m (sides ++ left ∷ []) (source + 64) (at + 64)
  near_reached m_is a_is = subst (λ (T : Type 0). T) (λ i. Reaches root outline (sym a_is i) number (sym m_is i) (sides ++ left ∷ []) (source + 64) (at + 64)) reaches-near

  pub far_reached : {m : ℕ} → m ≡ l → {a : Asked} → a ≡ below right bytes
      → Reaches root outline a (number + m / 1024) (n - m) (sides ++ right ∷ []) (source + 64 + subtree_size l) (at + 64 * (m / 1024))
  far_reached m_is a_is = grind (arith, reaches-far)
