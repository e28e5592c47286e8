-- Walks through the parts of an encoding that is there as a whole.
use Rattle.std.proofs.Common.{◌≡◌, ℕ, ◌+◌, ◌-◌, ◌*◌, ◌/◌, ◌<◌, ◌≤◌, List, [], ◌++◌, ◌∷◌, length, take, drop, true, false, ap, subst, ◌∙◌, arith, inr}
use Rattle.std.proofs.lemmas.List.{take-append-le}
use Rattle.std.specs.Int.{w64, from_le_bytes}
use Rattle.b3tree.specs.declared.mode.Mode.{Mode}
use Rattle.b3tree.specs.Tree.{left_len}
use Rattle.bao_text.specs.declared.choice.Choice.{Choice}
use Rattle.bao_text.specs.Choice.{wants}
use Rattle.bao_text.specs.Cut.{claimed}
use Rattle.bao_text.specs.Nodes.{Side, TreeNode, chosen_nodes, left, placed_nodes, right, subtree_nodes, subtree_size}
use Rattle.bao_text.proofs.SubtreeNodes.{subtree_nodes-unwanted}
use Rattle.bao_check.specs.declared.asked.Asked.{Asked}
use Rattle.bao_check.specs.declared.fault.CheckFault.{CheckFault}
use Rattle.bao_check.specs.declared.fault.CheckFault.TheVariants.{Short, Mismatch, Trailing, Memory, Reader}
use Rattle.bao_check.specs.declared.form.EncodingForm.{EncodingForm}
use Rattle.bao_check.specs.Accepted.{IsAccepted, IsGoodNode, places_of}
use Rattle.bao_check.specs.Faults.{IsFaultAt, IsFirstFault, IsFirstStop, IsTrailingAt}
use Rattle.bao_check.specs.Forms.{choice_of, form_nodes}
use Rattle.bao_check.specs.Walk.{IsStop, IsTopStop, Meets, Passes, PassesIn, Stops, StopsIn, asked_root, chunk_at, parent_at}
use Rattle.bao_check.proofs.Parts.{below}
use Rattle.bao_check.proofs.EachNode.{leaf_without}
use Rattle.bao_check.proofs.Walking.{both_passes, chunk_passes, chunk_stops, far_stops, near_stops, none_passes, parent_stops}

-- a subtree without nodes: it isn't wanted, or is a chunk that the encoding leaves out
module _ (asked : Asked) (mode : Mode) (choice : Choice) (number n : ℕ) (text : List ℕ) (at : ℕ) where
  pub pass_none : at ≤ length text → ((sides : List Side) (source : ℕ) → subtree_nodes choice number n sides source ≡ []) → PassesIn asked mode choice number n text at at
  pass_none inside none = record { within = inside; passes = λ sides source. none_passes asked sides mode text at (subtree_nodes choice number n sides source) (none sides source) }

  pub pass_unwanted : at ≤ length text → wants choice (1024 * number) n ≡ false → PassesIn asked mode choice number n text at at
  pass_unwanted inside skipped = pass_none inside (λ sides source. subtree_nodes-unwanted choice number n sides source skipped)

  pub pass_without : at ≤ length text → wants choice (1024 * number) n ≡ true → n ≤ 1024 → choice.chunks ≡ false → PassesIn asked mode choice number n text at at
  pass_without inside wanted one gone = pass_none inside (λ sides source. leaf_without choice number n sides source wanted one gone)

  module _ (wanted : wants choice (1024 * number) n ≡ true) where
    -- a chunk
    pub pass_chunk : n ≤ 1024 → choice.chunks ≡ true → at + n ≤ length text → Meets asked (chunk_at mode number n text at) → PassesIn asked mode choice number n text at (at + n)
    pass_chunk one kept there meets = search (arith, chunk_passes)

    pub stop_chunk : n ≤ 1024 → choice.chunks ≡ true → (fault : CheckFault) → IsTopStop asked (chunk_at mode number n text at) text at (at + n) fault
        → StopsIn asked mode choice number n text at fault (at + n)
    stop_chunk one kept fault h = λ sides source. chunk_stops asked choice mode text at number n sides source wanted one kept fault h

    -- a parent, and its parts
    module _ (more : 1024 < n) where
      pub stop_parent : (fault : CheckFault) → IsTopStop asked (parent_at mode text at) text at (at + 64) fault → StopsIn asked mode choice number n text at fault (at + 64)
      stop_parent fault h = λ sides source. parent_stops asked choice mode text at number n sides source wanted more fault h

      module _ (asked_near asked_far : Asked) (l : ℕ) (parted : l ≡ left_len n) (there : at + 64 ≤ length text) (meets : Meets asked (parent_at mode text at))
          (is_near : asked_near ≡ below left (take 64 (drop at text))) (is_far : asked_far ≡ below right (take 64 (drop at text))) where
        near_walk : (middle : ℕ) → PassesIn asked_near mode choice number l text (at + 64) middle → (sides : List Side) (source : ℕ)
            → Passes (below left (take 64 (drop at text))) sides mode text (at + 64) middle (subtree_nodes choice number (left_len n) sides source)
        near_walk middle near sides source = grind arith

        pub both_pass : (middle end : ℕ) → PassesIn asked_near mode choice number l text (at + 64) middle
            → PassesIn asked_far mode choice (number + l / 1024) (n - l) text middle end → PassesIn asked mode choice number n text at end
        both_pass middle end near far = record {
          within = far.within;
          passes = λ sides source.
              both_passes asked choice mode text at number n sides source wanted more there meets middle end (near_walk middle near (sides ++ left ∷ []) (source + 64))
              (subst (λ (T : Type 0). T)
              (λ i. Passes (is_far i) (sides ++ right ∷ []) mode text middle end
              (subtree_nodes choice (number + parted i / 1024) (n - parted i) (sides ++ right ∷ []) (source + 64 + subtree_size (left_len n))))
              (far.passes (sides ++ right ∷ []) (source + 64 + subtree_size (left_len n))));
        }

        pub near_part_stops : (fault : CheckFault) (end : ℕ) → StopsIn asked_near mode choice number l text (at + 64) fault end → StopsIn asked mode choice number n text at fault end
        near_part_stops fault end near = grind (arith, near_stops)

        pub far_part_stops : (middle : ℕ) (fault : CheckFault) (end : ℕ) → PassesIn asked_near mode choice number l text (at + 64) middle
            → StopsIn asked_far mode choice (number + l / 1024) (n - l) text middle fault end → StopsIn asked mode choice number n text at fault end
        far_part_stops middle fault end near far = grind (arith, near_walk, far_stops)

-- what follows the first 8 bytes doesn't change the claimed length
pub claimed-append : (text more : List ℕ) → 8 ≤ length text → claimed (text ++ more) ≡ claimed text
claimed-append text more long = ap (from_le_bytes w64) (take-append-le 8 text more long)

-- the subtree of all nodes of an encoding
module _ (mode : Mode) (root text : List ℕ) (form : EncodingForm) (total : ℕ) (choice : Choice) (asked : Asked) (long : 8 ≤ length text) (total_is : total ≡ claimed text)
    (chosen : choice ≡ choice_of form total) (asks : asked ≡ asked_root root) where
  nodes_are : subtree_nodes choice 0 total [] 8 ≡ form_nodes form text
  nodes_are = (λ i. subtree_nodes (chosen i) 0 total [] 8) ∙ ap (λ (n : ℕ). chosen_nodes (choice_of form n) n) total_is

  all_pass : (end : ℕ) → PassesIn asked mode choice 0 total text 8 end → Passes (asked_root root) [] mode text 8 end (form_nodes form text)
  all_pass end h = subst (λ (T : Type 0). T) (λ i. Passes (asks i) [] mode text 8 end (nodes_are i)) (h.passes [] 8)

  pub top_accepted : (end : ℕ) → PassesIn asked mode choice 0 total text 8 end → length text ≤ end → IsAccepted mode root text (form_nodes form text)
  top_accepted end h all =
      let walk = all_pass end h in
      record { long = long; good = walk.good; ends = omega (arith, walk.ends, h.within, all) }

  pub top_trailing : (end : ℕ) → PassesIn asked mode choice 0 total text 8 end → end < length text → IsTrailingAt mode root text (form_nodes form text) end
  top_trailing end h less = let walk = all_pass end h in (long, walk.good, walk.ends, less)

  fault_is : (place : ℕ × TreeNode) (fault : CheckFault) → IsStop (asked_root root) [] mode text (places_of (form_nodes form text)) place fault
      → IsFaultAt text place fault × ¬ IsGoodNode mode root text (places_of (form_nodes form text)) place
  fault_is place (Short at) h = (h, λ good. absurd (omega (arith, h.1, good.0)))
  fault_is place (Mismatch at) h = ((h.0, h.1), λ good. h.2 good.1)
  fault_is place (Trailing at) h = absurd h
  fault_is place Memory h = absurd h
  fault_is place Reader h = absurd h

  pub top_stopped : (fault : CheckFault) (end : ℕ) → StopsIn asked mode choice 0 total text 8 fault end → IsFirstStop mode root text (form_nodes form text) fault end
  top_stopped fault end h =
      let stop : Stops (asked_root root) [] mode text (places_of (form_nodes form text)) fault end =
      subst (λ (T : Type 0). T) (λ i. Stops (asks i) [] mode text (placed_nodes 8 (nodes_are i)) fault end) (h [] 8) in
      let is = fault_is stop.place fault stop.is in
      record {
        long = long;
        place = stop.place;
        bad = record { earlier = stop.good.earlier; later = stop.good.later; split = stop.good.split; good = stop.good.good; bad = is.1 };
        ends = stop.ends;
        is = is.0;
      }

-- it is the encoding's first fault
pub first_fault : (mode : Mode) (root text : List ℕ) (nodes : List TreeNode) (fault : CheckFault) (end : ℕ) → IsFirstStop mode root text nodes fault end
    → IsFirstFault mode root text nodes fault
first_fault mode root text nodes (Short at) end h = inr (h.long, (h.place, h.bad, h.is.0, h.is.1))
first_fault mode root text nodes (Mismatch at) end h = (h.long, (h.place, h.bad, h.is.0, h.is.1))
first_fault mode root text nodes (Trailing at) end h = absurd h.is
first_fault mode root text nodes Memory end h = absurd h.is
first_fault mode root text nodes Reader end h = absurd h.is
