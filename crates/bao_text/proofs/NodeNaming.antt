-- The names of a subtree's nodes, and those of the subtrees that wait.
use Rattle.std.proofs.Common.{◌≡◌, ℕ, zero, suc, ◌+◌, ◌-◌, ◌*◌, ◌/◌, ◌^◌, ◌<◌, ◌≤◌, List, [], ◌∷◌, ◌++◌, length, map, true, false, refl, sym, ap, ◌∙◌, arith, inl, inr}
use Rattle.std.proofs.Math.Pow.{pow_mono}
use Rattle.std.proofs.lemmas.Bool.{cases_Bool, cases_lt, le-leb, lt-leb}
use Rattle.std.proofs.lemmas.List.{append-nil, append_assoc, map-append}
use Rattle.std.proofs.lemmas.Simd.{map-map}
use Rattle.b3tree.specs.Tree.{IsLeftLen, left_len}
use Rattle.b3tree.proofs.TopInput.{IsLeftLen_chunks}
use Rattle.bao_text.specs.declared.choice.Choice.{Choice}
use Rattle.bao_text.specs.declared.walk.Node.{Node}
use Rattle.bao_text.specs.declared.walk.Node.TheVariants.{Chunk, Parent}
use Rattle.bao_text.specs.declared.walk.WaitingSubtree.{WaitingSubtree}
use Rattle.bao_text.specs.Choice.{wants}
use Rattle.bao_text.specs.NodeNames.{AreWaiting, IsWaiting, name, node_names, waiting_names}
use Rattle.bao_text.specs.Nodes.{TreeNode, Side, left, nodes_within, right, subtree_nodes, subtree_size}
use Rattle.bao_text.proofs.SubtreeNodes.{parent_node, subtree_nodes-leaf, subtree_nodes-parent, subtree_nodes-unwanted}

-- a node without the way to it and its place
abbrev pub bare : TreeNode → TreeNode
bare node = record { is_chunk = node.is_chunk; number = node.number; len = node.len; sides = []; source = 0 }

-- the way to a subtree and its place in an encoding change no more of its nodes
bare_within : (k : ℕ) (choice : Choice) (number n : ℕ) (sides others : List Side) (source other : ℕ)
    → map bare (nodes_within k choice number n sides source) ≡ map bare (nodes_within k choice number n others other)
unfolding nodes_within
bare_within zero choice number n sides others source other = elim (cases_Bool (wants choice (1024 * number) n)) [
  | inl wanted ↦ elim (cases_Bool choice.chunks) [ inl there ↦ rw (wanted, there) refl | inr gone ↦ rw (wanted, gone) refl ]
  | inr skipped ↦ rw skipped refl
]
bare_within (suc k) choice number n sides others source other = elim (cases_Bool (wants choice (1024 * number) n)) [
  | inl wanted ↦
      elim (cases_lt 1024 n) [
        | inl more ↦
            let l : ℕ = left_len n in
            let near = bare_within k choice number l (sides ++ left ∷ []) (others ++ left ∷ []) (source + 64) (other + 64) in
            let far = bare_within k choice (number + l / 1024) (n - l) (sides ++ right ∷ []) (others ++ right ∷ []) (source + 64 + subtree_size l) (other + 64 + subtree_size l) in
            rw (wanted, lt-leb _ _ more) (simp map-append (λ i. parent_node number n [] 0 ∷ (near i ++ far i)))
        | inr one ↦ elim (cases_Bool choice.chunks) [ inl there ↦ rw (wanted, le-leb _ _ one, there) refl | inr gone ↦ rw (wanted, le-leb _ _ one, gone) refl ]
      ]
  | inr skipped ↦ rw skipped refl
]

pub bare-anywhere : (choice : Choice) (number n : ℕ) (sides : List Side) (source : ℕ) → map bare (subtree_nodes choice number n sides source) ≡ map bare (subtree_nodes choice number n [] 0)
unfolding subtree_nodes
bare-anywhere choice number n sides source = bare_within (n / 1024) choice number n sides [] source 0

pub names-anywhere : (choice : Choice) (number n : ℕ) (sides : List Side) (source : ℕ) → map name (subtree_nodes choice number n sides source) ≡ node_names choice number n
names-anywhere choice number n sides source =
    sym (map-map name bare (subtree_nodes choice number n sides source)) ∙ ap (map name) (bare-anywhere choice number n sides source) ∙ map-map name bare (subtree_nodes choice number n [] 0)

pub names-unwanted : (choice : Choice) (number n : ℕ) → wants choice (1024 * number) n ≡ false → node_names choice number n ≡ []
names-unwanted choice number n skipped = ap (map name) (subtree_nodes-unwanted choice number n [] 0 skipped)

pub names-chunk : (choice : Choice) (number n : ℕ) → wants choice (1024 * number) n ≡ true → choice.chunks ≡ true → n ≤ 1024 → node_names choice number n ≡ Chunk number ∷ []
names-chunk choice number n wanted there one = rw (subtree_nodes-leaf choice number n [] 0 wanted one, there) refl

pub names-parent : (choice : Choice) (number n : ℕ) → wants choice (1024 * number) n ≡ true → 1024 < n
    → node_names choice number n ≡ Parent (number + left_len n / 1024) ∷ (node_names choice number (left_len n) ++ node_names choice (number + left_len n / 1024) (n - left_len n))
names-parent choice number n wanted more =
    let l : ℕ = left_len n in
    let middle : ℕ = number + l / 1024 in
    rw (subtree_nodes-parent choice number n [] 0 wanted more)
    (simp map-append (λ i. Parent middle ∷ (names-anywhere choice number l (left ∷ []) 64 i ++ names-anywhere choice middle (n - l) (right ∷ []) (64 + subtree_size l) i)))

-- a subtree put last comes first
pub waiting_names-last : (choice : Choice) (xs : List WaitingSubtree) (x : WaitingSubtree) → waiting_names choice (xs ++ x ∷ []) ≡ node_names choice x.number x.len ++ waiting_names choice xs
waiting_names-last choice [] x = sym (append-nil (node_names choice x.number x.len))
waiting_names-last choice (y ∷ ys) x =
    ap (λ (zs : List Node). zs ++ node_names choice y.number y.len) (waiting_names-last choice ys x)
    ∙ append_assoc (node_names choice x.number x.len) (waiting_names choice ys) (node_names choice y.number y.len)

pub AreWaiting-last : (choice : Choice) (levels : ℕ) (xs : List WaitingSubtree) (x : WaitingSubtree) → AreWaiting choice levels xs → IsWaiting choice (levels - length xs) x
    → AreWaiting choice levels (xs ++ x ∷ [])
AreWaiting-last choice levels [] x all is =
    let e : levels - length {A = WaitingSubtree} [] ≡ levels = omega arith in
    (rw e at is, tt)
AreWaiting-last choice levels (y ∷ ys) x all is =
    let e : levels - length (y ∷ ys) ≡ levels - 1 - length ys = omega arith in
    (all.0, AreWaiting-last choice (levels - 1) ys x all.1 (rw e at is))

AreWaiting-parted : (choice : Choice) (levels : ℕ) (xs : List WaitingSubtree) (x : WaitingSubtree) → AreWaiting choice levels (xs ++ x ∷ [])
    → AreWaiting choice levels xs × IsWaiting choice (levels - length xs) x
AreWaiting-parted choice levels [] x all =
    let e : levels - length {A = WaitingSubtree} [] ≡ levels = omega arith in
    (tt, rw e all.0)
AreWaiting-parted choice levels (y ∷ ys) x all =
    let e : levels - length (y ∷ ys) ≡ levels - 1 - length ys = omega arith in
    let rest = AreWaiting-parted choice (levels - 1) ys x all.1 in
    ((all.0, rest.0), rw e rest.1)

-- a left part has a level fewer
pub left_levels : (n l k : ℕ) → IsLeftLen n l → n ≤ 1024 * 2 ^ suc k → l ≤ 1024 * 2 ^ k
left_levels n l k is fits =
    let e : l ≡ 1024 * 2 ^ is.form.0 = is.form.1 in
    elim (cases_lt k is.form.0) [
      | inl long ↦ let bigger : 2 ^ suc k ≤ 2 ^ is.form.0 = pow_mono long in absurd (omega (arith, is.below))
      | inr short ↦ let smaller : 2 ^ is.form.0 ≤ 2 ^ k = pow_mono short in omega arith
    ]

-- the last of those that wait, taken off
pub record Taken (choice : Choice) (old new : List WaitingSubtree) (x : WaitingSubtree) : Type 0 where
  pub waiting : AreWaiting choice 54 new
  pub wanted : wants choice (1024 * x.number) x.len ≡ true
  pub within : 1024 * x.number + x.len ≤ 2 ^ 64 - 1
  pub levels : x.len ≤ 1024 * 2 ^ (54 - length new)
  pub names : waiting_names choice old ≡ node_names choice x.number x.len ++ waiting_names choice new

pub taken_last : (choice : Choice) (old new : List WaitingSubtree) (x : WaitingSubtree) → AreWaiting choice 54 old → old ≡ new ++ x ∷ [] → Taken choice old new x
taken_last choice old new x all e =
    let kept = AreWaiting-parted choice 54 new x (rw e at all) in record {
      waiting = kept.0;
      wanted = kept.1.0;
      within = kept.1.1.0;
      levels = kept.1.1.1;
      names = ap (waiting_names choice) e ∙ waiting_names-last choice new x;
    }

-- what a subtree that has parts leaves room for
pub record Parted (choice : Choice) (x : WaitingSubtree) (waiting l : ℕ) : Type 0 where
  pub room : waiting < 54
  pub middle : 1024 * (x.number + l / 1024) + (x.len - l) ≤ 2 ^ 64 - 1
  pub near : 1024 * x.number + l ≤ 2 ^ 64 - 1
  pub far_levels : x.len - l ≤ 1024 * 2 ^ (54 - waiting)
  pub near_levels : (more : ℕ) → more ≤ waiting + 1 → l ≤ 1024 * 2 ^ (54 - more)

pub parted : (choice : Choice) (old new : List WaitingSubtree) (x : WaitingSubtree) (l : ℕ) → Taken choice old new x → 1024 < x.len → l ≡ left_len x.len → IsLeftLen x.len l → Parted choice x (length new) l
parted choice old new x l taken more l_is is =
    let whole : 1024 * (l / 1024) ≡ l = (IsLeftLen_chunks x.len l is).0 in
    elim (cases_lt (length new) 54) [
      | inr full ↦
          let none : 54 - length new ≡ 0 = omega arith in
          let small = rw none at taken.levels in
          absurd (omega (arith, small))
      | inl room ↦
          let k : ℕ = 53 - length new in
          let e : 54 - length new ≡ suc k = omega arith in
          let fewer : l ≤ 1024 * 2 ^ k = left_levels x.len l k is (rw e at taken.levels) in
          record {
            room = room;
            middle = omega (arith, whole, is.below, taken.within);
            near = omega (arith, is.below, taken.within);
            far_levels = omega (arith, taken.levels);
            near_levels = λ n few. let mono : 2 ^ k ≤ 2 ^ (54 - n) = pow_mono (omega arith) in omega (arith, fewer, mono);
          }
    ]

-- how subtrees wait
pub ruleset waiting = (AreWaiting-last, waiting_names-last, names-unwanted, names-chunk, names-parent, append_assoc, taken_last, parted)
