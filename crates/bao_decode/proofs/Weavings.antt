-- Where the bytes of a slice stand in an outboard encoding and a plain copy.
use Rattle.std.proofs.Common.{◌≡◌, ◌≤◌, ◌<◌, ◌+◌, ◌-◌, ◌*◌, ◌/◌, ℕ, min, List, [], ◌∷◌, ◌++◌, length, take, drop, sum_by, Bool, true, false, if◌then◌else◌, Option, None, Some, inl, inr, refl, sym, ap, subst, ◌∙◌, arith, length-append, length-drop}
use Rattle.std.proofs.Math.Seq.{drop-append-add}
use Rattle.std.proofs.lemmas.Bool.{cases_Bool, cases_lt, le-ltb, lt-ltb}
use Rattle.std.proofs.lemmas.List.{append-nil, drop-append-le, drop-drop, drop-take, length-take, length-take-le, take-append-le, take-take, take_all}
use Rattle.std.proofs.lemmas.List.Sums.{sum_by-cons}
use Rattle.b3par.specs.Given.{ReadsAt}
use Rattle.b3tree.specs.Tree.{left_len}
use Rattle.bao_text.specs.declared.choice.Choice.{Choice}
use Rattle.bao_text.specs.Choice.{of_slice, wants}
use Rattle.bao_text.specs.Nodes.{Side, TreeNode, left, nodes, right, size, subtree_nodes, subtree_size}
use Rattle.bao_text.proofs.SubtreeNodes.{parent_node}
use Rattle.bao_check.proofs.EachNode.{chunk_node, leaf_nodes}
use Rattle.bao_decode.specs.Cutting.{GoesOn}
use Rattle.bao_decode.specs.Forward.{Reaches}
use Rattle.bao_decode.specs.Weaving.{GoesOnWithin, woven_contents, woven_node, woven_nodes, woven_text}
use Rattle.bao_decode.proofs.Cuttings.{halves, reads_on}

-- the bytes go on in what they begin with
goes_within : (source x rest : List ℕ) (from j skip : ℕ) → x ≡ take j (drop from source) → from + j ≤ length source → skip < j → GoesOn source (x ++ rest) skip (from + skip) (j - skip)
goes_within source x rest from j skip is fits within =
    let long : length x ≡ j = ap length is ∙ length-take-le j (drop from source) (omega (arith, length-drop from source, fits)) in
    let split : j ≡ skip + (j - skip) = omega (arith, within) in
    let later : drop skip x ≡ take (j - skip) (drop (from + skip) source) =
    ap (drop skip) is ∙ ap (λ (n : ℕ). drop skip (take n (drop from source))) split ∙ drop-take skip (j - skip) (drop from source) ∙ ap (take (j - skip)) (drop-drop skip from source) in
    let later_len : length (drop skip x) ≡ j - skip = length-drop skip x ∙ ap (λ (n : ℕ). n - skip) long in
    record {
      part = λ i most.
          ap (take i) (drop-append-le skip x rest (omega (arith, long, within)))
          ∙ take-append-le i (drop skip x) rest (omega (arith, later_len, most))
          ∙ ap (take i) later
          ∙ take-take i (j - skip) (drop (from + skip) source) most;
      ends = λ none. absurd (omega (arith, none, fits, within));
    }

-- or past it
goes_past : (source x bytes : List ℕ) (skip j at k : ℕ) → length x ≡ j → j ≤ skip → GoesOn source bytes (skip - j) at k → GoesOn source (x ++ bytes) skip at k
goes_past source x bytes skip j at k size_is past on =
    let split : skip ≡ length x + (skip - j) = omega (arith, size_is, past) in
    record {
      part = λ i most. ap (λ (n : ℕ). take i (drop n (x ++ bytes))) split ∙ ap (take i) (drop-append-add x bytes (skip - j)) ∙ on.part i most;
      ends = λ none. let rest : length bytes ≤ skip - j = on.ends none in omega (arith, length-append x bytes, size_is, rest, past);
    }

module _ (outline copy : List ℕ) where
  abbrev own : TreeNode → List ℕ
  own x = woven_node outline copy x

  abbrev woven : List TreeNode → List ℕ
  woven xs = woven_nodes outline copy xs

  -- a node has no more bytes than it asks for,
  own_few : (x : TreeNode) → length (own x) ≤ size x
  own_few x = elim (cases_Bool x.is_chunk) [
    | inl chunk ↦ rw chunk (omega (arith, length-take x.len (drop (1024 * x.number) copy)))
    | inr parent ↦ rw parent (omega (arith, length-take 64 (drop (x.source - 1024 * x.number) outline)))
  ]

  -- and where it has all of these, the next node follows
  pub woven_whole : (x : TreeNode) (rest : List TreeNode) → size x ≤ length (own x) → woven (x ∷ rest) ≡ own x ++ woven rest
  woven_whole x rest all = rw (le-ltb (length (own x)) (size x) all) refl

  woven_short : (x : TreeNode) (rest : List TreeNode) → length (own x) < size x → woven (x ∷ rest) ≡ own x
  woven_short x rest short = rw (lt-ltb (length (own x)) (size x) short) refl

  -- nodes have no more bytes than they ask for
  woven_few : (xs : List TreeNode) → length (woven xs) ≤ sum_by size xs
  woven_few [] = omega arith
  woven_few (x ∷ xs) = elim (cases_lt (length (own x)) (size x)) [
    | inl short ↦ omega (arith, ap length (woven_short x xs short), short, sum_by-cons size x xs)
    | inr all ↦ omega (arith, ap length (woven_whole x xs all) ∙ length-append (own x) (woven xs), own_few x, woven_few xs, sum_by-cons size x xs)
  ]

  -- within a node,
  woven_within : (source : List ℕ) (from : ℕ) (x : TreeNode) (rest : List TreeNode) (skip : ℕ) → own x ≡ take (size x) (drop from source) → skip < size x
      → GoesOn source (woven (x ∷ rest)) skip (from + skip) (size x - skip)
  woven_within source from x rest skip is within =
      let k : ℕ = size x in
      let len : length (own x) ≡ min k (length source - from) = ap length is ∙ length-take k (drop from source) ∙ ap (min k) (length-drop from source) in
      elim (cases_lt (length (own x)) k) [
        | inl short ↦
            let all : woven (x ∷ rest) ≡ drop from source = woven_short x rest short ∙ is ∙ take_all k (drop from source) (omega (arith, len, short, length-drop from source)) in
            record {
              part = λ j most. ap (λ (b : List ℕ). take j (drop skip b)) all ∙ ap (take j) (drop-drop skip from source);
              ends = λ none. omega (arith, ap length all ∙ length-drop from source, none);
            }
        | inr all ↦
            subst (λ (b : List ℕ). GoesOn source b skip (from + skip) (k - skip)) (sym (woven_whole x rest all))
            (goes_within source (own x) (woven rest) from k skip is (omega (arith, len, all, within)) within)
      ]

  -- and past nodes
  woven_past : (source : List ℕ) (xs ys : List TreeNode) (skip over at k : ℕ) → skip ≡ over + sum_by size xs → GoesOnWithin source (woven ys) over at k
      → GoesOnWithin source (woven (xs ++ ys)) skip at k
  woven_past source [] ys skip over at k skip_is on = λ there.
      let same : over ≡ skip = omega (arith, skip_is) in
      subst (λ (n : ℕ). GoesOn source (woven ys) n at k) same (on (omega (arith, there, same)))
  woven_past source (x ∷ xs) ys skip over at k skip_is on = λ there.
      let sum : sum_by size (x ∷ xs) ≡ size x + sum_by size xs = sum_by-cons size x xs in
      elim (cases_lt (length (own x)) (size x)) [
        | inl short ↦ absurd (omega (arith, there, ap length (woven_short x (xs ++ ys) short), short, skip_is, sum))
        | inr all ↦
            let whole : woven (x ∷ (xs ++ ys)) ≡ own x ++ woven (xs ++ ys) = woven_whole x (xs ++ ys) all in
            let len : length (own x) ≡ size x = omega (arith, all, own_few x) in
            let later : GoesOn source (woven (xs ++ ys)) (skip - size x) at k =
            woven_past source xs ys (skip - size x) over at k (omega (arith, skip_is, sum)) on (omega (arith, there, ap length whole ∙ length-append (own x) (woven (xs ++ ys)), len)) in
            subst (λ (b : List ℕ). GoesOn source b skip at k) (sym whole) (goes_past source (own x) (woven (xs ++ ys)) skip (size x) at k len (omega (arith, skip_is, sum)) later)
      ]

  -- The search for a byte, one subtree after another: it is in a chunk,
  module _ (choice : Choice) (number n : ℕ) (sides : List Side) (rest : List TreeNode) (at skip : ℕ) (wanted : wants choice (1024 * number) n ≡ true) where
    abbrev subtree : List TreeNode
    subtree = subtree_nodes choice number n sides at

    pub place_chunk : (first len : ℕ) → choice.chunks ≡ true → first ≡ 1024 * number → len ≡ n → n ≤ 1024 → skip < len
        → GoesOnWithin copy (woven (subtree ++ rest)) skip (first + skip) (len - skip)
    place_chunk first len chunks first_is len_is one within = λ there.
        subst (λ (T : Type 0). T) (λ i. GoesOn copy (woven (sym (leaf_nodes choice number n sides at wanted one chunks) i ++ rest)) skip (sym first_is i + skip) (sym len_is i - skip))
        (woven_within copy (1024 * number) (chunk_node number n sides at) rest skip refl (omega (arith, within, len_is)))

    -- or in the parent,
    pub place_parent : (first : ℕ) → first ≡ 1024 * number → 1024 < n → skip < 64 → GoesOnWithin outline (woven (subtree ++ rest)) skip (at - first + skip) (64 - skip)
    place_parent first first_is more within = λ there.
        let node : TreeNode = parent_node number n sides at in
        let near : List TreeNode = subtree_nodes choice number (left_len n) (sides ++ left ∷ []) (at + 64) in
        let far : List TreeNode = subtree_nodes choice (number + left_len n / 1024) (n - left_len n) (sides ++ right ∷ []) (at + 64 + subtree_size (left_len n)) in
        let all : subtree ++ rest ≡ node ∷ (near ++ (far ++ rest)) = halves choice number n sides rest at (left_len n) (subtree_size (left_len n)) wanted more refl refl in
        subst (λ (T : Type 0). T) (λ i. GoesOn outline (woven (sym all i)) skip (at - sym first_is i + skip) (64 - skip))
        (woven_within outline (at - 1024 * number) node (near ++ (far ++ rest)) skip refl within)

    -- or in the left part,
    pub place_left : (source : List ℕ) (l place k : ℕ) → 1024 < n → 64 ≤ skip → l ≡ left_len n
        → ((later : List TreeNode) → GoesOnWithin source (woven (subtree_nodes choice number l (sides ++ left ∷ []) (at + 64) ++ later)) (skip - 64) place k)
        → GoesOnWithin source (woven (subtree ++ rest)) skip place k
    place_left source l place k more past l_is on =
        let node : TreeNode = parent_node number n sides at in
        let near : List TreeNode = subtree_nodes choice number l (sides ++ left ∷ []) (at + 64) in
        let far : List TreeNode = subtree_nodes choice (number + l / 1024) (n - l) (sides ++ right ∷ []) (at + 64 + subtree_size l) in
        subst (λ (xs : List TreeNode). GoesOnWithin source (woven xs) skip place k) (sym (halves choice number n sides rest at l (subtree_size l) wanted more l_is refl))
        (woven_past source (node ∷ []) (near ++ (far ++ rest)) skip (skip - 64) place k (omega (arith, past)) (on (far ++ rest)))

    -- or in the right part
    pub place_right : (source : List ℕ) (l size_is over place k : ℕ) → 1024 < n → 64 ≤ skip → l ≡ left_len n → size_is ≡ subtree_size l
        → skip - 64 ≡ over + sum_by size (subtree_nodes choice number l (sides ++ left ∷ []) (at + 64))
        → GoesOnWithin source (woven (subtree_nodes choice (number + l / 1024) (n - l) (sides ++ right ∷ []) (at + 64 + size_is) ++ rest)) over place k
        → GoesOnWithin source (woven (subtree ++ rest)) skip place k
    place_right source l size_is over place k more past l_is same after on =
        let node : TreeNode = parent_node number n sides at in
        let near : List TreeNode = subtree_nodes choice number l (sides ++ left ∷ []) (at + 64) in
        let far : List TreeNode = subtree_nodes choice (number + l / 1024) (n - l) (sides ++ right ∷ []) (at + 64 + size_is) in
        subst (λ (xs : List TreeNode). GoesOnWithin source (woven xs) skip place k) (sym (halves choice number n sides rest at l size_is wanted more l_is same))
        (woven_past source (node ∷ near) (far ++ rest) skip over place k (omega (arith, sum_by-cons size node near, after, past)) on)

-- the length, and then the nodes
module _ (total start len : ℕ) (outline copy : List ℕ) where
  abbrev text : List ℕ
  text = woven_text total start len outline copy

  abbrev after_length : List ℕ
  after_length = woven_nodes outline copy (nodes total start len)

  text_short : length outline < 8 → text ≡ outline
  text_short short = rw (lt-ltb (length outline) 8 short) refl

  pub text_long : 8 ≤ length outline → text ≡ take 8 outline ++ after_length
  text_long long = rw (le-ltb (length outline) 8 long) refl

  text_len : 8 ≤ length outline → length text ≡ 8 + length after_length
  text_len long = omega (arith, ap length (text_long long) ∙ length-append (take 8 outline) after_length, length-take-le 8 outline long)

  pub place_length : (at : ℕ) → at < 8 → GoesOnWithin outline text at at (8 - at)
  place_length at within = λ there. elim (cases_lt (length outline) 8) [
    | inl short ↦ record {
      part = λ k most. ap (λ (b : List ℕ). take k (drop at b)) (text_short short);
      ends = λ none. omega (arith, ap length (text_short short), none);
    }
    | inr long ↦
        let same : 0 + at ≡ at = omega arith in
        subst (λ (T : Type 0). T) (λ i. GoesOn outline (sym (text_long long) i) at (same i) (8 - at)) (goes_within outline (take 8 outline) after_length 0 8 at refl (omega (arith, long)) within)
  ]

  pub place_nodes : (choice : Choice) (source : List ℕ) (at from place k : ℕ) → choice ≡ of_slice total start len → from ≡ at → 8 ≤ from
      → GoesOnWithin source (woven_nodes outline copy (subtree_nodes choice 0 total [] 8 ++ [])) (from - 8) place k → GoesOnWithin source text at place k
  place_nodes choice source at from place k choice_is from_is after on = λ there. elim (cases_lt (length outline) 8) [
    | inl short ↦ absurd (omega (arith, there, ap length (text_short short), short, from_is, after))
    | inr long ↦
        let all : subtree_nodes choice 0 total [] 8 ++ [] ≡ nodes total start len = append-nil (subtree_nodes choice 0 total [] 8) ∙ ap (λ (c : Choice). subtree_nodes c 0 total [] 8) choice_is in
        let later : GoesOnWithin source after_length (at - 8) place k =
        subst (λ (T : Type 0). T) (λ i. GoesOnWithin source (woven_nodes outline copy (all i)) (from_is i - 8) place k) on in
        subst (λ (b : List ℕ). GoesOn source b at place k) (sym (text_long long))
        (goes_past source (take 8 outline) after_length at 8 place k (length-take-le 8 outline long) (omega (arith, from_is, after)) (later (omega (arith, there, text_len long))))
  ]

  pub place_none : (choice : Choice) (at from over : ℕ) → choice ≡ of_slice total start len → from ≡ at → 8 ≤ from → from - 8 ≡ over + sum_by size (subtree_nodes choice 0 total [] 8)
      → length text ≤ at
  place_none choice at from over choice_is from_is after past = elim (cases_lt (length outline) 8) [
    | inl short ↦ omega (arith, ap length (text_short short), short, from_is, after)
    | inr long ↦
        let sum : sum_by size (subtree_nodes choice 0 total [] 8) ≡ sum_by size (nodes total start len) = ap (λ (c : Choice). sum_by size (subtree_nodes c 0 total [] 8)) choice_is in
        omega (arith, text_len long, woven_few outline copy (nodes total start len), sum, past, from_is, after)
  ]

-- a read of one of the two is one of the slice
module _ (total start len : ℕ) where
  pub woven_read : (in_copy : Bool) (outline copy : Option (List ℕ)) (at place k count : ℕ) (new rest : List ℕ)
      → ((s c : List ℕ) → GoesOnWithin (if in_copy then c else s) (woven_text total start len s c) at place k) → 0 < k → length new ≡ min k (length (new ++ rest)) → count ≤ length new
      → ReadsAt (if in_copy then copy else outline) place count new → Reaches (woven_contents total start len outline copy) ⊥ at
      → ReadsAt (woven_contents total start len outline copy) at count (new ++ rest)
  woven_read in_copy outline copy at place k count new rest on some room within read (inl none) = absurd none
  woven_read in_copy None copy at place k count new rest on some room within read (inr there) = tt
  woven_read in_copy (Some s) None at place k count new rest on some room within read (inr there) = tt
  woven_read true (Some s) (Some c) at place k count new rest on some room within read (inr there) =
      reads_on c (woven_text total start len s c) at place k count new rest (on s c there) some room within read
  woven_read false (Some s) (Some c) at place k count new rest on some room within read (inr there) =
      reads_on s (woven_text total start len s c) at place k count new rest (on s c there) some room within read

  -- past all of it
  pub woven_end : (outline copy : Option (List ℕ)) (at : ℕ) (buf : List ℕ) → ((s c : List ℕ) → length (woven_text total start len s c) ≤ at)
      → ReadsAt (woven_contents total start len outline copy) at 0 buf
  woven_end None copy at buf past = tt
  woven_end (Some s) None at buf past = tt
  woven_end (Some s) (Some c) at buf past = (refl, λ none more. past s c)
