-- Which bytes of a combined encoding a slice goes on with.
use Rattle.std.proofs.Common.{◌≡◌, ℕ, ◌+◌, ◌-◌, ◌*◌, ◌/◌, ◌^◌, ◌<◌, ◌≤◌, List, [], ◌∷◌, ◌++◌, length, take, drop, min, sum_by, true, false, Option, None, Some, IfSome, IfNone, Result, Ok, Err, IfOk, OnErr, inl, inr, refl, sym, ap, subst, ◌∙◌, arith, length-append, length-drop}
use Rattle.std.proofs.Math.Seq.{drop-append-add}
use Rattle.std.proofs.lemmas.Bool.{cases_Bool, cases_lt, le-ltb, leb-false, leb-true, lt-ltb}
use Rattle.std.proofs.lemmas.List.{append-nil, append_assoc, drop-append-le, drop-drop, drop-take, drop_all, length-take, length-take-le, take-append-le, take-take, take_all}
use Rattle.std.proofs.lemmas.List.Sums.{sum_by-append, sum_by-cons}
use Rattle.std.specs.Result.{result_ok}
use Rattle.b3tree.specs.Tree.{left_len}
use Rattle.b3par.specs.Given.{ReadsAt}
use Rattle.bao_text.specs.declared.choice.Choice.{Choice}
use Rattle.bao_text.specs.Choice.{of_slice, wants}
use Rattle.bao_text.specs.Cut.{claimed, cut_nodes, cut_text, has, has_all}
use Rattle.bao_text.specs.Nodes.{Side, TreeNode, left, nodes, right, size, subtree_nodes, subtree_size}
use Rattle.bao_text.proofs.Cutting.{cut_nodes-append, cut_nodes-append_short, has_all-append, has_all-one}
use Rattle.bao_check.proofs.EachNode.{by_nodes, chunk_node}
use Rattle.bao_text.proofs.Halves.{far_nodes, near_nodes}
use Rattle.bao_text.proofs.Runs.{IsRun, run-one}
use Rattle.bao_text.proofs.SubtreeNodes.{parent_node, subtree_nodes-parent, subtree_nodes-unwanted, subtree_size-parts}
use Rattle.bao_decode.specs.Cutting.{ClaimsLength, GoesOn, cut_as, cut_contents}

-- what is cut of nodes is no more than these are
cut_few : (s : List ℕ) (xs : List TreeNode) → length (cut_nodes s xs) ≤ sum_by size xs
cut_few s [] = omega arith
cut_few s (x ∷ xs) = elim (cases_Bool (has s x)) [
  | inl there ↦
      let fits : x.source + size x ≤ length s = leb-true (x.source + size x) (length s) there in
      let cut : length (cut_nodes s (x ∷ xs)) ≡ length (take (size x) (drop x.source s) ++ cut_nodes s xs) = rw there refl in
      let first : length (take (size x) (drop x.source s)) ≡ size x = length-take-le (size x) (drop x.source s) (omega (arith, length-drop x.source s, fits)) in
      omega (arith, cut ∙ length-append (take (size x) (drop x.source s)) (cut_nodes s xs), first, cut_few s xs, sum_by-cons size x xs)
  | inr gone ↦
      let short : length s < x.source + size x = leb-false (x.source + size x) (length s) gone in
      let cut : length (cut_nodes s (x ∷ xs)) ≡ length (drop x.source s) = rw gone refl in
      omega (arith, cut, length-drop x.source s, short, sum_by-cons size x xs)
]

-- and as many where all of them are there
cut_all : (s : List ℕ) (xs : List TreeNode) → has_all s xs ≡ true → length (cut_nodes s xs) ≡ sum_by size xs
cut_all s [] all = refl
cut_all s (x ∷ xs) all = elim (cases_Bool (has s x)) [
  | inl there ↦
      let fits : x.source + size x ≤ length s = leb-true (x.source + size x) (length s) there in
      let later : has_all s xs ≡ true = (rw there refl) ∙ all in
      let cut : length (cut_nodes s (x ∷ xs)) ≡ length (take (size x) (drop x.source s) ++ cut_nodes s xs) = rw there refl in
      let first : length (take (size x) (drop x.source s)) ≡ size x = length-take-le (size x) (drop x.source s) (omega (arith, length-drop x.source s, fits)) in
      omega (arith, cut ∙ length-append (take (size x) (drop x.source s)) (cut_nodes s xs), first, cut_all s xs later, sum_by-cons size x xs)
  | inr gone ↦ let bad : false ≡ true = (rw gone refl) ∙ all in cc
]

-- the nodes of a subtree lie in its place of the encoding
module _ (s : List ℕ) (choice : Choice) where
  abbrev EndsIn : ℕ → List TreeNode → Type 0
  EndsIn end xs = has_all s xs ≡ false → length s < end

  ends_none : (end : ℕ) (xs : List TreeNode) → xs ≡ [] → EndsIn end xs
  ends_none end xs none = λ gone. let bad : true ≡ false = ap (has_all s) (sym none) ∙ gone in cc

  ends_one : (x : TreeNode) → EndsIn (x.source + size x) (x ∷ [])
  ends_one x = λ gone. leb-false (x.source + size x) (length s) (sym (has_all-one s x) ∙ gone)

  ends_append : (end : ℕ) (xs ys : List TreeNode) → EndsIn end xs → EndsIn end ys → EndsIn end (xs ++ ys)
  ends_append end xs ys a b = λ gone. elim (cases_Bool (has_all s xs)) [
    | inl there ↦ b (sym (has_all-append s xs ys there) ∙ gone)
    | inr missing ↦ a missing
  ]

  ends_later : (end later : ℕ) (xs : List TreeNode) → end ≤ later → EndsIn end xs → EndsIn later xs
  ends_later end later xs order a = λ gone. let less : length s < end = a gone in omega (arith, less, order)

  pub ends_within : (number n : ℕ) (sides : List Side) (at : ℕ) → EndsIn (at + subtree_size n) (subtree_nodes choice number n sides at)
  ends_within = by_nodes choice (λ number n sides at nodes. EndsIn (at + subtree_size n) nodes)
      (λ number n sides at skipped. ends_none (at + subtree_size n) [] refl)
      (λ number n sides at wanted one. elim (cases_Bool choice.chunks) [
        | inl there ↦ rw there (subst (λ (k : ℕ). EndsIn k (chunk_node number n sides at ∷ [])) (omega (arith, one)) (ends_one (chunk_node number n sides at)))
        | inr gone ↦ rw gone (ends_none (at + subtree_size n) [] refl)
      ])
      (λ number n sides at wanted more parts near far.
      let l : ℕ = left_len n in
      let end : ℕ = at + subtree_size n in
      let whole : subtree_size n ≡ 64 + subtree_size l + subtree_size (n - l) = subtree_size-parts n more in
      let ns : List TreeNode = near_nodes choice number n sides at in
      let fs : List TreeNode = far_nodes choice number n sides at in
      ends_append end (parent_node number n sides at ∷ []) (ns ++ fs) (ends_later (at + 64) end (parent_node number n sides at ∷ []) (omega (arith, whole)) (ends_one (parent_node number n sides at)))
      (ends_append end ns fs (ends_later (at + 64 + subtree_size l) end ns (omega (arith, whole)) near)
      (ends_later (at + 64 + subtree_size l + subtree_size (n - l)) end fs (omega (arith, whole)) far)))

-- and no more is cut of them than the encoding has from there on
module _ (s : List ℕ) (choice : Choice) where
  abbrev FewFrom : ℕ → ℕ → List TreeNode → Type 0
  FewFrom at k xs = (length (cut_nodes s xs) ≤ k) × (length (cut_nodes s xs) ≤ length s - at)

  few_none : (at k : ℕ) (xs : List TreeNode) → xs ≡ [] → FewFrom at k xs
  few_none at k xs none =
      let size_is : length (cut_nodes s xs) ≡ 0 = ap (λ (ys : List TreeNode). length (cut_nodes s ys)) none in
      (omega (arith, size_is), omega (arith, size_is))

  few_one : (x : TreeNode) → FewFrom x.source (size x) (x ∷ [])
  few_one x =
      let run : IsRun x.source (size x) (x ∷ []) = run-one x in
      let size_is : length (cut_nodes s (x ∷ [])) ≡ min (size x) (length (drop x.source s)) = ap length (run.cut s) ∙ length-take (size x) (drop x.source s) in
      (omega (arith, size_is), omega (arith, size_is, length-drop x.source s))

  few_append : (at j k : ℕ) (xs ys : List TreeNode) → FewFrom at j xs → FewFrom (at + j) k ys → FewFrom at (j + k) (xs ++ ys)
  few_append at j k xs ys a b =
      let near : ℕ = length (cut_nodes s xs) in
      let far : ℕ = length (cut_nodes s ys) in
      let near_few : near ≤ j = a.0 in
      let near_rest : near ≤ length s - at = a.1 in
      let far_few : far ≤ k = b.0 in
      let far_rest : far ≤ length s - (at + j) = b.1 in
      elim (cases_Bool (has_all s xs)) [
        | inl there ↦
            let size_is : length (cut_nodes s (xs ++ ys)) ≡ near + far = ap length (cut_nodes-append s xs ys there) ∙ length-append (cut_nodes s xs) (cut_nodes s ys) in
            (omega (arith, size_is, near_few, far_few), omega (arith, size_is, near_few, near_rest, far_rest))
        | inr gone ↦
            let size_is : length (cut_nodes s (xs ++ ys)) ≡ near = ap length (cut_nodes-append_short s xs ys gone) in
            (omega (arith, size_is, near_few), omega (arith, size_is, near_rest))
      ]

  few_nodes : (number n : ℕ) (sides : List Side) (at : ℕ) → FewFrom at (subtree_size n) (subtree_nodes choice number n sides at)
  few_nodes = by_nodes choice (λ number n sides at nodes. FewFrom at (subtree_size n) nodes)
      (λ number n sides at skipped. few_none at (subtree_size n) [] refl)
      (λ number n sides at wanted one. elim (cases_Bool choice.chunks) [
        | inl there ↦ rw there (subst (λ (k : ℕ). FewFrom at k (chunk_node number n sides at ∷ [])) (omega (arith, one)) (few_one (chunk_node number n sides at)))
        | inr gone ↦ rw gone (few_none at (subtree_size n) [] refl)
      ])
      (λ number n sides at wanted more parts near far.
      let l : ℕ = left_len n in
      let node : TreeNode = parent_node number n sides at in
      let ns : List TreeNode = near_nodes choice number n sides at in
      let fs : List TreeNode = far_nodes choice number n sides at in
      let b : FewFrom (at + (64 + subtree_size l)) (subtree_size (n - l)) fs = subst (λ (p : ℕ). FewFrom p (subtree_size (n - l)) fs) (omega arith) far in
      let top : FewFrom at (64 + subtree_size l) (node ∷ ns) = few_append at 64 (subtree_size l) (node ∷ []) ns (few_one node) near in
      subst (λ (k : ℕ). FewFrom at k ((node ∷ ns) ++ fs)) (sym (subtree_size-parts n more)) (few_append at (64 + subtree_size l) (subtree_size (n - l)) (node ∷ ns) fs top b))

-- so a slice is no longer than the encoding
pub cut_text-few : (s : List ℕ) (start len : ℕ) → length (cut_text s start len) ≤ length s
cut_text-few s start len = elim (cases_lt (length s) 8) [
  | inl short ↦
      let same : cut_text s start len ≡ s = rw (lt-ltb (length s) 8 short) refl in
      omega (arith, ap length same)
  | inr long ↦
      let total : ℕ = claimed s in
      let choice : Choice = of_slice total start len in
      let few : FewFrom s choice 8 (subtree_size total) (nodes total start len) = few_nodes s choice 0 total [] 8 in
      let same : cut_text s start len ≡ take 8 s ++ cut_nodes s (nodes total start len) = rw (le-ltb (length s) 8 long) refl in
      let rest : length (cut_nodes s (nodes total start len)) ≤ length s - 8 = few.1 in
      omega (arith, ap length same ∙ length-append (take 8 s) (cut_nodes s (nodes total start len)), length-take-le 8 s long, rest, long)
]

-- where the nodes before aren't all there, nothing is at any place after them
module _ (s : List ℕ) where
  pub goes_after : (xs ys : List TreeNode) (skip over at len : ℕ) → skip ≡ sum_by size xs + over → (has_all s xs ≡ false → length s ≤ at) → GoesOn s (cut_nodes s ys) over at len
      → GoesOn s (cut_nodes s (xs ++ ys)) skip at len
  goes_after xs ys skip over at len skip_is short on = elim (cases_Bool (has_all s xs)) [
    | inl there ↦
        let bytes : List ℕ = cut_nodes s xs in
        let later : List ℕ = cut_nodes s ys in
        let all : cut_nodes s (xs ++ ys) ≡ bytes ++ later = cut_nodes-append s xs ys there in
        let size_is : length bytes ≡ sum_by size xs = cut_all s xs there in
        let place : skip ≡ length bytes + over = omega (arith, skip_is, size_is) in
        record {
          part = λ k most. (λ i. take k (drop (place i) (all i))) ∙ ap (take k) (drop-append-add bytes later over) ∙ on.part k most;
          ends = λ none.
              let rest : length later ≤ over = on.ends none in
              omega (arith, ap length all ∙ length-append bytes later, size_is, skip_is, rest);
        }
    | inr gone ↦
        let none : length s ≤ at = short gone in
        let few : length (cut_nodes s (xs ++ ys)) ≤ skip = omega (arith, ap length (cut_nodes-append_short s xs ys gone), cut_few s xs, skip_is) in
        record {
          part = λ k most. ap (take k) (drop_all skip (cut_nodes s (xs ++ ys)) few) ∙ ap (take k) (sym (drop_all at s none));
          ends = λ _. few;
        }
  ]

  -- within nodes that stand side by side
  pub goes_run : (xs ys : List TreeNode) (from k skip : ℕ) → IsRun from k xs → skip < k → GoesOn s (cut_nodes s (xs ++ ys)) skip (from + skip) (k - skip)
  goes_run xs ys from k skip run within =
      let some : 0 < k = omega (arith, within) in
      elim (cases_Bool (has_all s xs)) [
        | inl there ↦
            let fits : from + k ≤ length s = leb-true (from + k) (length s) (sym (run.all s some) ∙ there) in
            let bytes : List ℕ = take k (drop from s) in
            let later : List ℕ = cut_nodes s ys in
            let long : length bytes ≡ k = length-take-le k (drop from s) (omega (arith, length-drop from s, fits)) in
            let all : cut_nodes s (xs ++ ys) ≡ bytes ++ later = cut_nodes-append s xs ys there ∙ ap (λ (b : List ℕ). b ++ later) (run.cut s) in
            let split : k ≡ skip + (k - skip) = omega (arith, within) in
            let rest : drop skip bytes ≡ take (k - skip) (drop (from + skip) s) =
            ap (λ (n : ℕ). drop skip (take n (drop from s))) split ∙ drop-take skip (k - skip) (drop from s) ∙ ap (take (k - skip)) (drop-drop skip from s) in
            let rest_len : length (drop skip bytes) ≡ k - skip = length-drop skip bytes ∙ ap (λ (n : ℕ). n - skip) long in
            record {
              part = λ j most.
                  ap (λ (b : List ℕ). take j (drop skip b)) all
                  ∙ ap (take j) (drop-append-le skip bytes later (omega (arith, long, within)))
                  ∙ take-append-le j (drop skip bytes) later (omega (arith, rest_len, most))
                  ∙ ap (take j) rest
                  ∙ take-take j (k - skip) (drop (from + skip) s) most;
              ends = λ none. absurd (omega (arith, none, fits, within));
            }
        | inr gone ↦
            let short : length s < from + k = leb-false (from + k) (length s) (sym (run.all s some) ∙ gone) in
            let all : cut_nodes s (xs ++ ys) ≡ drop from s =
            cut_nodes-append_short s xs ys gone ∙ run.cut s ∙ take_all k (drop from s) (omega (arith, length-drop from s, short)) in
            record {
              part = λ j most. ap (λ (b : List ℕ). take j (drop skip b)) all ∙ ap (take j) (drop-drop skip from s);
              ends = λ none. omega (arith, ap length all ∙ length-drop from s, none);
            }
      ]

-- the length, and then the nodes
module _ (total start len : ℕ) (s : List ℕ) where
  cut_short : length s < 8 → cut_as total start len s ≡ s
  cut_short short = rw (lt-ltb (length s) 8 short) refl

  cut_long : 8 ≤ length s → cut_as total start len s ≡ take 8 s ++ cut_nodes s (nodes total start len)
  cut_long long = rw (le-ltb (length s) 8 long) refl

  pub header_goes : (at : ℕ) → at < 8 → GoesOn s (cut_as total start len s) at at (8 - at)
  header_goes at within = elim (cases_lt (length s) 8) [
    | inl short ↦ record {
      part = λ k most. ap (λ (b : List ℕ). take k (drop at b)) (cut_short short);
      ends = λ none. omega (arith, ap length (cut_short short), none);
    }
    | inr long ↦
        let header : List ℕ = take 8 s in
        let later : List ℕ = cut_nodes s (nodes total start len) in
        let size_is : length header ≡ 8 = length-take-le 8 s long in
        let split : 8 ≡ at + (8 - at) = omega (arith, within) in
        let rest : drop at header ≡ take (8 - at) (drop at s) = ap (λ (n : ℕ). drop at (take n s)) split ∙ drop-take at (8 - at) s in
        let rest_len : length (drop at header) ≡ 8 - at = length-drop at header ∙ ap (λ (n : ℕ). n - at) size_is in
        record {
          part = λ k most.
              ap (λ (b : List ℕ). take k (drop at b)) (cut_long long)
              ∙ ap (take k) (drop-append-le at header later (omega (arith, size_is, within)))
              ∙ take-append-le k (drop at header) later (omega (arith, rest_len, most))
              ∙ ap (take k) rest
              ∙ take-take k (8 - at) (drop at s) most;
          ends = λ none. absurd (omega (arith, none, long, within));
        }
  ]

  pub nodes_go : (at place k : ℕ) → 8 ≤ at → 8 ≤ place → GoesOn s (cut_nodes s (nodes total start len)) (at - 8) place k → GoesOn s (cut_as total start len s) at place k
  nodes_go at place k after there on = elim (cases_lt (length s) 8) [
    | inl short ↦ record {
      part = λ j most.
          ap (λ (b : List ℕ). take j (drop at b)) (cut_short short)
          ∙ ap (take j) (drop_all at s (omega (arith, short, after)))
          ∙ ap (take j) (sym (drop_all place s (omega (arith, short, there))));
      ends = λ none. omega (arith, ap length (cut_short short), short, after);
    }
    | inr long ↦
        let header : List ℕ = take 8 s in
        let later : List ℕ = cut_nodes s (nodes total start len) in
        let size_is : length header ≡ 8 = length-take-le 8 s long in
        let split : at ≡ length header + (at - 8) = omega (arith, size_is, after) in
        record {
          part = λ j most. (λ i. take j (drop (split i) (cut_long long i))) ∙ ap (take j) (drop-append-add header later (at - 8)) ∙ on.part j most;
          ends = λ none.
              let rest : length later ≤ at - 8 = on.ends none in
              omega (arith, ap length (cut_long long) ∙ length-append header later, size_is, rest, after);
        }
  ]

  pub cut_ends : (at over : ℕ) → 8 ≤ at → at - 8 ≡ over + sum_by size (nodes total start len) → length (cut_as total start len s) ≤ at
  cut_ends at over after past = elim (cases_lt (length s) 8) [
    | inl short ↦ omega (arith, ap length (cut_short short), short, after)
    | inr long ↦
        let header : List ℕ = take 8 s in
        let later : List ℕ = cut_nodes s (nodes total start len) in
        let size_is : length header ≡ 8 = length-take-le 8 s long in
        omega (arith, ap length (cut_long long) ∙ length-append header later, size_is, cut_few s (nodes total start len), past, after)
  ]

-- what is known of a slice's bytes is known of those that are cut out of the encoding's
pub cut_known : (total start len : ℕ) (contents : Option (List ℕ)) (F : List ℕ → Type 0) → ClaimsLength contents total → IfSome (cut_contents total start len contents) F
    → IfSome contents (λ s. length s < 2 ^ 64 → F (cut_text s start len))
cut_known total start len None F claims known = tt
cut_known total start len (Some s) F claims known = λ fits.
    let there : cut_contents total start len (Some s) ≡ Some (cut_as total start len s) = rw (lt-ltb (length s) (2 ^ 64) fits) refl in
    let same : cut_as total start len s ≡ cut_text s start len = ap (λ (n : ℕ). cut_as n start len s) (sym claims.1) in
    subst F same (subst (λ (o : Option (List ℕ)). IfSome o F) there known)

-- The search for a byte, one subtree after another:
module _ (choice : Choice) (number n : ℕ) where
  -- the nodes are the parent, and those of the two parts
  tree : (sides : List Side) (at l size_is : ℕ) → wants choice (1024 * number) n ≡ true → 1024 < n → l ≡ left_len n → size_is ≡ subtree_size l
      → subtree_nodes choice number n sides at
      ≡ parent_node number n sides at
      ∷ (subtree_nodes choice number l (sides ++ left ∷ []) (at + 64) ++ subtree_nodes choice (number + l / 1024) (n - l) (sides ++ right ∷ []) (at + 64 + size_is))
  tree sides at l size_is wanted more l_is same =
      let node : TreeNode = parent_node number n sides at in
      let near : List TreeNode = subtree_nodes choice number l (sides ++ left ∷ []) (at + 64) in
      subtree_nodes-parent choice number n sides at wanted more
      ∙ ap (λ (m : ℕ). node ∷ (subtree_nodes choice number m (sides ++ left ∷ []) (at + 64) ++ subtree_nodes choice (number + m / 1024) (n - m) (sides ++ right ∷ []) (at + 64 + subtree_size m))) (sym l_is)
      ∙ ap (λ (m : ℕ). node ∷ (near ++ subtree_nodes choice (number + l / 1024) (n - l) (sides ++ right ∷ []) (at + 64 + m))) (sym same)

  pub halves : (sides : List Side) (rest : List TreeNode) (at l size_is : ℕ) → wants choice (1024 * number) n ≡ true → 1024 < n → l ≡ left_len n → size_is ≡ subtree_size l
      → subtree_nodes choice number n sides at ++ rest
      ≡ parent_node number n sides at
      ∷ (subtree_nodes choice number l (sides ++ left ∷ []) (at + 64) ++ (subtree_nodes choice (number + l / 1024) (n - l) (sides ++ right ∷ []) (at + 64 + size_is) ++ rest))
  halves sides rest at l size_is wanted more l_is same =
      ap (λ (xs : List TreeNode). xs ++ rest) (tree sides at l size_is wanted more l_is same)
      ∙ ap (λ (xs : List TreeNode). parent_node number n sides at ∷ xs)
      (append_assoc (subtree_nodes choice number l (sides ++ left ∷ []) (at + 64)) (subtree_nodes choice (number + l / 1024) (n - l) (sides ++ right ∷ []) (at + 64 + size_is)) rest)

  -- nothing is wanted,
  pub find_none : (sides : List Side) (at skip : ℕ) → wants choice (1024 * number) n ≡ false → skip ≡ skip + sum_by size (subtree_nodes choice number n sides at)
  find_none sides at skip skipped =
      let none : sum_by size (subtree_nodes choice number n sides at) ≡ 0 = ap (sum_by size) (subtree_nodes-unwanted choice number n sides at skipped) in omega (arith, none)

  -- or it is in the parent,
  pub find_parent : (s : List ℕ) (sides : List Side) (rest : List TreeNode) (at skip : ℕ) → wants choice (1024 * number) n ≡ true → 1024 < n → skip < 64
      → GoesOn s (cut_nodes s (subtree_nodes choice number n sides at ++ rest)) skip (at + skip) (64 - skip)
  find_parent s sides rest at skip wanted more within =
      let l : ℕ = left_len n in
      let node : TreeNode = parent_node number n sides at in
      let near : List TreeNode = subtree_nodes choice number l (sides ++ left ∷ []) (at + 64) in
      let far : List TreeNode = subtree_nodes choice (number + l / 1024) (n - l) (sides ++ right ∷ []) (at + 64 + subtree_size l) in
      let tree : subtree_nodes choice number n sides at ≡ node ∷ (near ++ far) = subtree_nodes-parent choice number n sides at wanted more in
      subst (λ (xs : List TreeNode). GoesOn s (cut_nodes s (xs ++ rest)) skip (at + skip) (64 - skip)) (sym tree)
      (goes_run s (node ∷ []) ((near ++ far) ++ rest) at 64 skip (run-one node) within)

  -- or in the left part,
  pub find_left : (s : List ℕ) (sides : List Side) (rest : List TreeNode) (at skip l place k : ℕ) → wants choice (1024 * number) n ≡ true → 1024 < n → 64 ≤ skip → l ≡ left_len n → at + 64 ≤ place
      → ((later : List TreeNode) → GoesOn s (cut_nodes s (subtree_nodes choice number l (sides ++ left ∷ []) (at + 64) ++ later)) (skip - 64) place k)
      → GoesOn s (cut_nodes s (subtree_nodes choice number n sides at ++ rest)) skip place k
  find_left s sides rest at skip l place k wanted more past l_is low on =
      let node : TreeNode = parent_node number n sides at in
      let near : List TreeNode = subtree_nodes choice number l (sides ++ left ∷ []) (at + 64) in
      let far : List TreeNode = subtree_nodes choice (number + l / 1024) (n - l) (sides ++ right ∷ []) (at + 64 + subtree_size l) in
      subst (λ (xs : List TreeNode). GoesOn s (cut_nodes s xs) skip place k) (sym (halves sides rest at l (subtree_size l) wanted more l_is refl))
      (goes_after s (node ∷ []) (near ++ (far ++ rest)) skip (skip - 64) place k (omega (arith, past))
      (λ gone. let short : length s < at + 64 = ends_one s choice node gone in omega (arith, short, low)) (on (far ++ rest)))

  -- or in the right part,
  pub find_right : (s : List ℕ) (sides : List Side) (rest : List TreeNode) (at skip l size_is left' place k : ℕ) → wants choice (1024 * number) n ≡ true → 1024 < n → 64 ≤ skip → l ≡ left_len n
      → size_is ≡ subtree_size l → at + 64 + size_is ≤ place → skip - 64 ≡ left' + sum_by size (subtree_nodes choice number l (sides ++ left ∷ []) (at + 64))
      → GoesOn s (cut_nodes s (subtree_nodes choice (number + l / 1024) (n - l) (sides ++ right ∷ []) (at + 64 + size_is) ++ rest)) left' place k
      → GoesOn s (cut_nodes s (subtree_nodes choice number n sides at ++ rest)) skip place k
  find_right s sides rest at skip l size_is left' place k wanted more past l_is same low after on =
      let node : TreeNode = parent_node number n sides at in
      let near : List TreeNode = subtree_nodes choice number l (sides ++ left ∷ []) (at + 64) in
      let far : List TreeNode = subtree_nodes choice (number + l / 1024) (n - l) (sides ++ right ∷ []) (at + 64 + size_is) in
      let end : ℕ = at + 64 + size_is in
      let near_ends : has_all s near ≡ false → length s < end =
      λ gone. let less : length s < at + 64 + subtree_size l = ends_within s choice number l (sides ++ left ∷ []) (at + 64) gone in omega (arith, less, same) in
      let top_ends : has_all s (node ∷ []) ≡ false → length s < end = λ gone. let less : length s < at + 64 = ends_one s choice node gone in omega (arith, less) in
      let both : has_all s (node ∷ near) ≡ false → length s < end = ends_append s choice end (node ∷ []) near top_ends near_ends in
      subst (λ (xs : List TreeNode). GoesOn s (cut_nodes s xs) skip place k) (sym (halves sides rest at l size_is wanted more l_is same))
      (goes_after s (node ∷ near) (far ++ rest) skip left' place k (let sizes : sum_by size (node ∷ near) ≡ 64 + sum_by size near = sum_by-cons size node near in omega (arith, sizes, after, past))
      (λ gone. let short : length s < end = both gone in omega (arith, short, low)) on)

  -- or after both.
  pub find_after : (sides : List Side) (at skip l size_is left' last : ℕ) → wants choice (1024 * number) n ≡ true → 1024 < n → 64 ≤ skip → l ≡ left_len n → size_is ≡ subtree_size l
      → skip - 64 ≡ left' + sum_by size (subtree_nodes choice number l (sides ++ left ∷ []) (at + 64))
      → left' ≡ last + sum_by size (subtree_nodes choice (number + l / 1024) (n - l) (sides ++ right ∷ []) (at + 64 + size_is))
      → skip ≡ last + sum_by size (subtree_nodes choice number n sides at)
  find_after sides at skip l size_is left' last wanted more past l_is same near_is far_is =
      let node : TreeNode = parent_node number n sides at in
      let near : List TreeNode = subtree_nodes choice number l (sides ++ left ∷ []) (at + 64) in
      let far : List TreeNode = subtree_nodes choice (number + l / 1024) (n - l) (sides ++ right ∷ []) (at + 64 + size_is) in
      let sizes : sum_by size (subtree_nodes choice number n sides at) ≡ 64 + (sum_by size near + sum_by size far) =
      ap (sum_by size) (tree sides at l size_is wanted more l_is same) ∙ sum_by-cons size node (near ++ far) ∙ ap (λ (k : ℕ). 64 + k) (sum_by-append size near far) in
      omega (arith, sizes, near_is, far_is, past)

  -- where all stands side by side
  pub find_run : (s : List ℕ) (sides : List Side) (rest : List TreeNode) (at skip size_is : ℕ) → IsRun at (subtree_size n) (subtree_nodes choice number n sides at) → size_is ≡ subtree_size n → skip < size_is
      → GoesOn s (cut_nodes s (subtree_nodes choice number n sides at ++ rest)) skip (at + skip) (size_is - skip)
  find_run s sides rest at skip size_is run same within =
      goes_run s (subtree_nodes choice number n sides at) rest at size_is skip (subst (λ (k : ℕ). IsRun at k (subtree_nodes choice number n sides at)) (sym same) run) within

-- what two clauses tell of an Ok
pub paired : {X E : Type 0} (P Q : X → Type 0) (result : Result X E) → IfOk result P → IfOk result Q → IfOk result (λ x. P x × Q x)
paired P Q (Ok x) p q = (p, q)
paired P Q (Err e) p q = tt

-- what is found, and what isn't, as an option
pub ok_some : {X E : Type 0} (P : X → Type 0) (result : Result X E) (o : Option X) → o ≡ result_ok result → IfOk result P → IfSome o P
ok_some P (Ok x) o is p = subst (λ it. IfSome it P) (sym is) p
ok_some P (Err e) o is p = subst (λ it. IfSome it P) (sym is) tt

pub ok_none : {X E : Type 0} (Q : Type 0) (result : Result X E) (o : Option X) → o ≡ result_ok result → OnErr result Q → IfNone o Q
ok_none Q (Ok x) o is q = subst (λ it. IfNone it Q) (sym is) tt
ok_none Q (Err e) o is q = subst (λ it. IfNone it Q) (sym is) q

-- what the search in all of a blob finds
module _ (choice : Choice) (total start len : ℕ) where
  pub found_goes : (s : List ℕ) (at from place k : ℕ) → choice ≡ of_slice total start len → from ≡ at → 8 ≤ from → 8 ≤ place
      → GoesOn s (cut_nodes s (subtree_nodes choice 0 total [] 8 ++ [])) (from - 8) place k → GoesOn s (cut_as total start len s) at place k
  found_goes s at from place k choice_is from_is after there on =
      let all : subtree_nodes choice 0 total [] 8 ++ [] ≡ nodes total start len = append-nil (subtree_nodes choice 0 total [] 8) ∙ ap (λ (c : Choice). subtree_nodes c 0 total [] 8) choice_is in
      nodes_go total start len s at place k (omega (arith, from_is, after)) there
      (subst (λ (T : Type 0). T) (λ i. GoesOn s (cut_nodes s (all i)) (from_is i - 8) place k) on)

  pub found_none : (s : List ℕ) (at from left' : ℕ) → choice ≡ of_slice total start len → from ≡ at → 8 ≤ from → from - 8 ≡ left' + sum_by size (subtree_nodes choice 0 total [] 8)
      → length (cut_as total start len s) ≤ at
  found_none s at from left' choice_is from_is after past =
      cut_ends total start len s at left' (omega (arith, from_is, after))
      (subst (λ (n : ℕ). n - 8 ≡ left' + sum_by size (nodes total start len)) from_is (past ∙ ap (λ (c : Choice). left' + sum_by size (subtree_nodes c 0 total [] 8)) choice_is))

-- where the bytes of what is read go on in other bytes, a read there is one of these
pub reads_on : (source bytes : List ℕ) (at place k count : ℕ) (new rest : List ℕ) → GoesOn source bytes at place k → 0 < k → length new ≡ min k (length (new ++ rest))
    → count ≤ length new → ReadsAt (Some source) place count new → ReadsAt (Some bytes) at count (new ++ rest)
reads_on source bytes at place k count new rest goes some room within read = (
  take-append-le count new rest within ∙ read.0 ∙ sym (goes.part count (omega (arith, room, within))),
  λ none more. goes.ends (read.1 none (let least : 0 < length new = omega (arith, room, some, more) in least)),
)

-- a read of the encoding is one of the slice
module _ (total start len : ℕ) where
  pub cut_read : (contents : Option (List ℕ)) (at place k count : ℕ) (new rest : List ℕ) → ((s : List ℕ) → GoesOn s (cut_as total start len s) at place k) → 0 < k
      → length new ≡ min k (length (new ++ rest)) → count ≤ length new → ReadsAt contents place count new → ReadsAt (cut_contents total start len contents) at count (new ++ rest)
  cut_read None at place k count new rest on some room within read = tt
  cut_read (Some s) at place k count new rest on some room within read = elim (cases_lt (length s) (2 ^ 64)) [
    | inr long ↦ rw (le-ltb (length s) (2 ^ 64) long) tt
    | inl fits ↦
        rw (lt-ltb (length s) (2 ^ 64) fits) (reads_on s (cut_as total start len s) at place k count new rest (on s) some room within read)
  ]

  pub cut_past : (contents : Option (List ℕ)) (at : ℕ) (buf : List ℕ) → ((s : List ℕ) → length s < 2 ^ 64 → length (cut_as total start len s) ≤ at)
      → ReadsAt (cut_contents total start len contents) at 0 buf
  cut_past None at buf past = tt
  cut_past (Some s) at buf past = elim (cases_lt (length s) (2 ^ 64)) [
    | inr long ↦ rw (le-ltb (length s) (2 ^ 64) long) tt
    | inl fits ↦ rw (lt-ltb (length s) (2 ^ 64) fits) (refl, λ none more. past s fits)
  ]
