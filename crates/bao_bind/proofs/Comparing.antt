-- Comparing the parents of a blob's tree with those of an encoding, a subtree at a time.
use Rattle.std.proofs.Common.{◌≡◌, ◌≢◌, ℕ, ◌+◌, ◌-◌, ◌*◌, ◌/◌, ◌^◌, ◌<◌, ◌≤◌, None, Some, Option, Bool, List, ◌++◌, length, take, drop, true, false, refl, sym, ap, subst, ◌∙◌, arith, inl, inr, length-drop}
use Rattle.std.specs.List.{AllByRecursion, Contains}
use Rattle.std.specs.Prelude.{is_some}
use Rattle.std.proofs.lemmas.Bool.{cases_Bool}
use Rattle.std.proofs.lemmas.List.{length-take-le}
use Rattle.std.proofs.lemmas.List.Elements.{Contains-append_cases, Contains-append_left, Contains-append_right}
use Rattle.b3word.specs.declared.input.Input.{Input}
use Rattle.b3word.specs.Compression.{cv}
use Rattle.b3tree.specs.declared.mode.Mode.{Mode}
use Rattle.b3tree.specs.Tree.{left_len, parent_input, subtree_cv}
use Rattle.b3tree.specs.Valid.{IsKeyed}
use Rattle.bao_text.specs.declared.choice.Choice.{Choice}
use Rattle.bao_text.specs.Choice.{wants}
use Rattle.bao_text.specs.NodeNames.{boundary}
use Rattle.bao_text.specs.Nodes.{TreeNode, Side, left, right, subtree_nodes}
use Rattle.bao_text.specs.Texts.{node_text, parent_text}
use Rattle.bao_text.proofs.SubtreeNodes.{parent_node, subtree_nodes-unwanted}
use Rattle.bao_text.proofs.SubtreeText.{Parts, left_len-Parts}
use Rattle.bao_text.proofs.TextNodes.{span-left, span-right}
use Rattle.bao_check.specs.Accepted.{part_value}
use Rattle.bao_check.specs.HasPart.{part_nodes}
use Rattle.bao_check.specs.Inputs.{marked}
use Rattle.bao_check.specs.Parents.{parent_in}
use Rattle.bao_check.proofs.Binding.{left_there, parent_there, right_there, top_parent}
use Rattle.bao_check.proofs.Forks.{Fork, NoFork, fork_of, input_of, no_fork}
use Rattle.bao_check.proofs.Lists.{All-member, Contains-cons_cases, Contains-head, Contains-tail}
use Rattle.bao_check.proofs.NodeBinding.{SameParent, same_parent}
use Rattle.bao_check.proofs.SubtreeInputs.{subtree_parent}
use Rattle.bao_check.proofs.EachNode.{leaf_nodes, leaf_without}
use Rattle.bao_check.proofs.Written.{far_value, near_value}
use Rattle.bao_bind.specs.declared.pair.Pair.{Pair}
use Rattle.bao_bind.specs.Apart.{AreOurs, HasParentsOver, nodes_over}
use Rattle.bao_bind.specs.Search.{FindsOnly, part_inputs}
use Rattle.bao_bind.proofs.Walks.{part_there, there_part}

-- what comparing the parents over s told, whatever encoding has them
abbrev pub Told : (ℕ → Option (List ℕ)) → Mode → Bool → Option Pair → ℕ → List ℕ → Type 0
Told parents mode top r first s = (blob : List ℕ) (theirs : List Input) (over : HasParentsOver parents theirs mode top blob first s)
    → FindsOnly (part_inputs top mode first s) theirs (AreOurs parents mode blob (nodes_over over)) r

-- of a part that is made in another way
pub told_same : (parents : ℕ → Option (List ℕ)) (mode : Mode) (top : Bool) (r : Option Pair) (a first : ℕ) (t s : List ℕ) → a ≡ first → t ≡ s
    → Told parents mode top r a t → Told parents mode top r first s
told_same parents mode top r a first t s a_is t_is told =
    subst (λ (x : ℕ). Told parents mode top r x s) a_is (subst (λ (x : List ℕ). Told parents mode top r a x) t_is told)

-- the input of a parent that is made of the values of its two parts
pub made : (mode : Mode) (first : ℕ) (s near far : List ℕ) (near_first far_first : ℕ) (near_part far_part : List ℕ) → near ≡ subtree_cv mode near_first near_part → far ≡ subtree_cv mode far_first far_part
    → near_first ≡ first → near_part ≡ take (left_len (length s)) s → far_first ≡ first + left_len (length s) / 1024 → far_part ≡ drop (left_len (length s)) s
    → parent_input mode near far ≡ subtree_parent mode first s
made mode first s near far near_first far_first near_part far_part near_is far_is near_at near_bytes far_at far_bytes = λ i.
    parent_input mode ((near_is ∙ (λ j. subtree_cv mode (near_at j) (near_bytes j))) i) ((far_is ∙ (λ j. subtree_cv mode (far_at j) (far_bytes j))) i)

-- what is found of a fact is found of one that is the same
pub FindsOnly-within : (ours theirs more others : List Input) (P Q : Type 0) (r : Option Pair) → ((x : Input) → Contains ours x → Contains more x)
    → ((y : Input) → Contains theirs y → Contains others y) → (P → Q) → (Q → P) → FindsOnly ours theirs P r → FindsOnly more others Q r
FindsOnly-within ours theirs more others P Q None ours_kept theirs_kept next back found = next found
FindsOnly-within ours theirs more others P Q (Some pair) ours_kept theirs_kept next back found = (
  λ q. found.0 (back q),
  record { our = ours_kept pair.ours found.1.our; their = theirs_kept pair.theirs found.1.their; differ = found.1.differ; same = found.1.same },
)

-- a chunk alone has no parent
chunks_alone : (choice : Choice) (number n : ℕ) (sides : List Side) (source : ℕ) → n ≤ 1024
    → AllByRecursion (λ node. node.is_chunk ≡ true) (subtree_nodes choice number n sides source)
chunks_alone choice number n sides source one =
    let P : List TreeNode → Type 0 = AllByRecursion (λ node. node.is_chunk ≡ true) in
    elim (cases_Bool (wants choice (1024 * number) n)) [
      | inr skipped ↦ subst P (sym (subtree_nodes-unwanted choice number n sides source skipped)) tt
      | inl wanted ↦
          elim (cases_Bool choice.chunks) [
            | inl there ↦ subst P (sym (leaf_nodes choice number n sides source wanted one there)) (refl, tt)
            | inr gone ↦ subst P (sym (leaf_without choice number n sides source wanted one gone)) tt
          ]
    ]

module _ (parents : ℕ → Option (List ℕ)) (theirs : List Input) (mode : Mode) (top : Bool) (blob : List ℕ) (first : ℕ) (s : List ℕ)
    (over : HasParentsOver parents theirs mode top blob first s) where
  abbrev middle : ℕ
  middle = first + left_len (length s) / 1024

  pub ours_small : length s ≤ 1024 → AreOurs parents mode blob (nodes_over over)
  ours_small one = λ node bytes there parent known.
      let small : over.n ≤ 1024 = omega (arith, over.size) in
      let chunk : node.is_chunk ≡ true =
      All-member (λ x. x.is_chunk ≡ true) (nodes_over over) (chunks_alone over.choice first over.n over.part.sides over.part.source small) node there in
      let bad : true ≡ false = sym chunk ∙ parent in cc

  module _ (long : 1024 < length s) where
    more : 1024 < over.n
    more = omega (arith, over.size, long)

    cut : left_len (length s) ≡ left_len over.n
    cut = ap left_len over.size

    parts : Parts over.n (left_len over.n)
    parts = left_len-Parts over.n more

    -- what the encoding has at the boundary
    in_text : parent_in over.text over.places (first + left_len over.n / 1024) ≡ parents middle
    in_text = sym (over.parents_are (first + left_len over.n / 1024)) ∙ ap (λ (k : ℕ). parents (first + k / 1024)) (sym cut)

    pub ours_unknown : parents middle ≡ None → AreOurs parents mode blob (nodes_over over)
    ours_unknown none = λ node bytes there parent known.
        let gone : NoFork over.part = no_fork mode over.choice over.text over.places top over.value first over.n over.part more (in_text ∙ none) in
        absurd (All-member (λ (x : TreeNode). ⊥) (nodes_over over) (subst (AllByRecursion (λ (x : TreeNode). ⊥)) (sym gone.nodes_are) tt) node there)

    module _ (parent : List ℕ) (known : parents middle ≡ Some parent) (keyed : IsKeyed mode) (fits : 1024 * first + length s ≤ 2 ^ 64 - 1) where
      fork : Fork over.part parent
      fork = fork_of mode over.choice over.text over.places top over.value first over.n over.part more parent (in_text ∙ known)

      abbrev own : TreeNode
      own = parent_node first over.n over.part.sides over.part.source

      abbrev below : List TreeNode
      below = part_nodes fork.near ++ part_nodes fork.far

      -- the inputs of this parent, of the blob's and of the encoding's
      abbrev x : Input
      x = marked top (subtree_parent mode first s)

      abbrev y : Input
      y = marked top (input_of mode parent)

      x_value : cv x ≡ over.value
      x_value = ap (λ (z : Input). cv (marked top z)) (sym (top_parent mode first s long)) ∙ over.value_is

      x_there : Contains (part_inputs top mode first s) x
      x_there = part_there top mode first s x (parent_there top mode first s long)

      y_there : Contains theirs y
      y_there = over.inputs_are y fork.input_there

      own_there : Contains (nodes_over over) own
      own_there = subst (λ (xs : List TreeNode). Contains xs own) (sym fork.nodes_are) (Contains-head below own)

      near_within : (node : TreeNode) → Contains (part_nodes fork.near) node → Contains (nodes_over over) node
      near_within node h =
          subst (λ (xs : List TreeNode). Contains xs node) (sym fork.nodes_are)
          (Contains-tail below own node (Contains-append_left (part_nodes fork.near) (part_nodes fork.far) node h))

      far_within : (node : TreeNode) → Contains (part_nodes fork.far) node → Contains (nodes_over over) node
      far_within node h =
          subst (λ (xs : List TreeNode). Contains xs node) (sym fork.nodes_are)
          (Contains-tail below own node (Contains-append_right (part_nodes fork.near) (part_nodes fork.far) node h))

      own_text : node_text mode blob own ≡ parent_text mode first s
      own_text = ap (parent_text mode first) (sym over.ours)

      own_known : parents (boundary own) ≡ Some parent
      own_known = ap (λ (k : ℕ). parents (first + k / 1024)) (sym cut) ∙ known

      -- the blob's own parent has the blob's input
      same_input : parent ≡ parent_text mode first s → x ≡ y
      same_input is =
          let near_is = near_value mode first s keyed long (omega (arith, fits)) in
          let far_is = far_value mode first s keyed long (omega (arith, fits)) in
          (λ i. marked top (parent_input mode (sym near_is i) (sym far_is i))) ∙ ap (λ (p : List ℕ). marked top (input_of mode p)) (sym is)

      -- two that differ collide
      pub apart_here : (pair : Pair) → pair.ours ≡ x → pair.theirs ≡ y → pair.ours ≢ pair.theirs
          → FindsOnly (part_inputs top mode first s) theirs (AreOurs parents mode blob (nodes_over over)) (Some pair)
      apart_here pair x_is y_is differ = (
        λ all. differ (x_is ∙ same_input (all own parent own_there refl own_known ∙ own_text) ∙ sym y_is),
        record {
          our = subst (Contains (part_inputs top mode first s)) (sym x_is) x_there;
          their = subst (Contains theirs) (sym y_is) y_there;
          differ = differ;
          same = ap cv x_is ∙ x_value ∙ sym fork.meets ∙ ap cv (sym y_is);
        },
      )

      -- where they are the same, so are their halves
      module _ (equal : x ≡ y) where
        same : SameParent mode first s parent
        same = same_parent top mode first s parent (fork.bytes over.bytes) fork.size equal

        abbrev near_over : HasParentsOver parents theirs mode false blob first (take (left_len (length s)) s)
        near_over = record {
          text = over.text;
          places = over.places;
          choice = over.choice;
          n = left_len over.n;
          bytes = over.bytes;
          size = length-take-le (left_len (length s)) s (omega (arith, cut, over.size, parts.below)) ∙ cut;
          ours = (λ i. take (cut i) (over.ours i)) ∙ span-left blob first over.n (left_len over.n) (omega (arith, parts.below));
          parents_are = over.parents_are;
          inputs_are = over.inputs_are;
          value = part_value left parent;
          value_is = sym same.near;
          part = fork.near;
        }

        abbrev far_over : HasParentsOver parents theirs mode false blob (first + left_len over.n / 1024) (drop (left_len (length s)) s)
        far_over = record {
          text = over.text;
          places = over.places;
          choice = over.choice;
          n = over.n - left_len over.n;
          bytes = over.bytes;
          size = length-drop (left_len (length s)) s ∙ (λ i. over.size i - cut i);
          ours = (λ i. drop (cut i) (over.ours i)) ∙ span-right blob first over.n (left_len over.n) (omega (arith, parts.below)) parts.whole;
          parents_are = over.parents_are;
          inputs_are = over.inputs_are;
          value = part_value right parent;
          value_is = sym (same.far ∙ ap (λ (k : ℕ). subtree_cv mode (first + k / 1024) (drop (left_len (length s)) s)) cut);
          part = fork.far;
        }

        -- all are the blob's where those of both parts are
        ours_all : AreOurs parents mode blob (part_nodes fork.near) → AreOurs parents mode blob (part_nodes fork.far) → AreOurs parents mode blob (nodes_over over)
        ours_all near_all far_all = λ node bytes there parent_here here.
            elim (Contains-cons_cases below own node (subst (λ (xs : List TreeNode). Contains xs node) fork.nodes_are there)) [
              | inl is_own ↦
                  let e : Some parent ≡ Some bytes = sym own_known ∙ ap (λ (z : TreeNode). parents (boundary z)) (sym is_own) ∙ here in
                  let bytes_are : bytes ≡ parent = cc in
                  bytes_are ∙ same.bytes ∙ sym own_text ∙ ap (node_text mode blob) (sym is_own)
              | inr among ↦
                  elim (Contains-append_cases (part_nodes fork.near) (part_nodes fork.far) node among) [
                    | inl inner ↦ near_all node bytes inner parent_here here
                    | inr inner ↦ far_all node bytes inner parent_here here
                  ]
            ]

        near_inputs : (z : Input) → Contains (part_inputs false mode first (take (left_len (length s)) s)) z → Contains (part_inputs top mode first s) z
        near_inputs z h =
            part_there top mode first s z (left_there top mode first s long z (there_part false mode first (take (left_len (length s)) s) z h))

        far_inputs : (z : Input) → Contains (part_inputs false mode (first + left_len (length s) / 1024) (drop (left_len (length s)) s)) z → Contains (part_inputs top mode first s) z
        far_inputs z h =
            part_there top mode first s z (right_there top mode first s long z
            (there_part false mode (first + left_len (length s) / 1024) (drop (left_len (length s)) s) z h))

        -- what was found in the left part is found
        pub apart_near : (r : Option Pair) → is_some r ≡ true → Told parents mode false r first (take (left_len (length s)) s)
            → FindsOnly (part_inputs top mode first s) theirs (AreOurs parents mode blob (nodes_over over)) r
        apart_near None there told = cc
        apart_near (Some pair) there told =
            let found : FindsOnly (part_inputs false mode first (take (left_len (length s)) s)) theirs (AreOurs parents mode blob (nodes_over near_over)) (Some pair) = told blob theirs near_over in (
              λ all. found.0 (λ node bytes inner parent_here here. all node bytes (near_within node inner) parent_here here),
              record { our = near_inputs pair.ours found.1.our; their = found.1.their; differ = found.1.differ; same = found.1.same },
            )

        -- and if nothing was, what was found in the right part
        pub apart_far : (none r : Option Pair) → is_some none ≡ false → Told parents mode false none first (take (left_len (length s)) s)
            → Told parents mode false r (first + left_len (length s) / 1024) (drop (left_len (length s)) s)
            → FindsOnly (part_inputs top mode first s) theirs (AreOurs parents mode blob (nodes_over over)) r
        apart_far (Some pair) r gone near_told told = cc
        apart_far None r gone near_told told =
            let there : Told parents mode false r (first + left_len over.n / 1024) (drop (left_len (length s)) s) =
            subst (λ (k : ℕ). Told parents mode false r (first + k / 1024) (drop (left_len (length s)) s)) cut told in
            FindsOnly-within (part_inputs false mode (first + left_len over.n / 1024) (drop (left_len (length s)) s)) theirs (part_inputs top mode first s) theirs
            (AreOurs parents mode blob (nodes_over far_over)) (AreOurs parents mode blob (nodes_over over)) r
            (λ z h. far_inputs z (subst (λ (k : ℕ). Contains (part_inputs false mode (first + k / 1024) (drop (left_len (length s)) s)) z) (sym cut) h))
            (λ z h. h)
            (λ far_all. ours_all (near_told blob theirs near_over) far_all)
            (λ all node bytes inner parent_here here. all node bytes (far_within node inner) parent_here here)
            (there blob theirs far_over)
