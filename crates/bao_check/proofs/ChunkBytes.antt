-- The bytes of the chunks among the nodes that a check in pieces takes.
use Rattle.std.proofs.Common.{◌≡◌, ℕ, ◌+◌, ◌-◌, ◌*◌, ◌/◌, ◌<◌, ◌≤◌, List, [], ◌∷◌, ◌++◌, length, take, drop, map, sum_by, Option, None, Some, IfSome, Bool, true, false, if◌then◌else◌, refl, sym, ap, subst, ◌∙◌, arith, inl, inr, length-append, length-drop}
use Rattle.std.proofs.Math.Seq.{take-add}
use Rattle.std.specs.Option.{option_map}
use Rattle.std.proofs.lemmas.Bool.{cases_Bool, cases_lt}
use Rattle.std.proofs.lemmas.Bool.Decides.{leb_tells}
use Rattle.std.proofs.lemmas.List.{append-nil, append_assoc, drop-append-le, drop-drop, drop_at, length-take-le, take-append-drop, take-append-le, take_all}
use Rattle.std.proofs.lemmas.List.Sums.{sum_by-append}
use Rattle.b3tree.specs.declared.mode.Mode.{Mode}
use Rattle.b3tree.specs.Tree.{left_len}
use Rattle.bao_text.specs.declared.choice.Choice.{Choice}
use Rattle.bao_text.specs.Choice.{of_slice, wants}
use Rattle.bao_text.specs.Cut.{claimed}
use Rattle.bao_text.specs.Nodes.{TreeNode, Side, size, subtree_nodes}
use Rattle.bao_text.proofs.NodeNaming.{bare, bare-anywhere}
use Rattle.bao_text.proofs.SubtreeNodes.{subtree_nodes-leaf, subtree_nodes-parent, subtree_nodes-unwanted}
use Rattle.bao_check.specs.declared.fault.CheckFault.{CheckFault}
use Rattle.bao_check.specs.declared.fault.CheckFault.TheVariants.{Short, Mismatch, Trailing, Memory, Reader}
use Rattle.bao_check.specs.declared.part.WaitingPart.{WaitingPart}
use Rattle.bao_check.specs.Checking.{IsNodeFault}
use Rattle.bao_check.specs.Decoded.{Decodes, Kind, chunk_bytes, decoded, kind, kinds_size, subtree_kinds, waiting_kinds}
use Rattle.bao_check.specs.Waiting.{AllCome, CheckTask, HasRefused, HasRefusedIn, HasTaken, IsFaultAs, chunk_waits, is_chunk_first, last_part, next_size, part_size}
use Rattle.bao_check.specs.Whole.{HasWholeAhead}
use Rattle.bao_check.specs.Walk.{Passes}
use Rattle.bao_check.proofs.Feeding.{AreParts-last, all_taken_from, before_last, before_unwanted, ends, stands}
use Rattle.bao_check.proofs.Sizes.{wants_whole}
use Rattle.bao_check.proofs.Subtrees.{claimed-append}
use Rattle.std.proofs.lemmas.Slice.{take-put_mid}

kinds-append : (xs ys : List TreeNode) → map kind (xs ++ ys) ≡ map kind xs ++ map kind ys
kinds-append [] ys = refl
kinds-append (x ∷ xs) ys = ap (λ (zs : List Kind). kind x ∷ zs) (kinds-append xs ys)

kinds-bare : (xs : List TreeNode) → map kind (map bare xs) ≡ map kind xs
kinds-bare [] = refl
kinds-bare (x ∷ xs) = ap (λ (zs : List Kind). kind x ∷ zs) (kinds-bare xs)

pub kinds-anywhere : (choice : Choice) (number n : ℕ) (sides : List Side) (source : ℕ) → map kind (subtree_nodes choice number n sides source) ≡ subtree_kinds choice number n
kinds-anywhere choice number n sides source =
    sym (kinds-bare (subtree_nodes choice number n sides source)) ∙ ap (map kind) (bare-anywhere choice number n sides source) ∙ kinds-bare (subtree_nodes choice number n [] 0)

pub kinds-unwanted : (choice : Choice) (number n : ℕ) → wants choice (1024 * number) n ≡ false → subtree_kinds choice number n ≡ []
kinds-unwanted choice number n skipped = ap (map kind) (subtree_nodes-unwanted choice number n [] 0 skipped)

pub kinds-chunk : (choice : Choice) (number n : ℕ) → wants choice (1024 * number) n ≡ true → choice.chunks ≡ true → n ≤ 1024 → subtree_kinds choice number n ≡ (true, n) ∷ []
kinds-chunk choice number n wanted there one = grind (arith, subtree_nodes-leaf)

pub kinds-parent : (choice : Choice) (number n : ℕ) → wants choice (1024 * number) n ≡ true → 1024 < n
    → subtree_kinds choice number n ≡ (false, 64) ∷ (subtree_kinds choice number (left_len n) ++ subtree_kinds choice (number + left_len n / 1024) (n - left_len n))
kinds-parent choice number n wanted more = grind (arith, subtree_nodes-parent, kinds-append, kinds-anywhere)

-- how many bytes nodes are
pub kinds_size-append : (xs ys : List Kind) → kinds_size (xs ++ ys) ≡ kinds_size xs + kinds_size ys
kinds_size-append xs ys = sum_by-append (λ (k : Kind). k.1) xs ys

pub kinds_size-cons : (x : Kind) (xs : List Kind) → kinds_size (x ∷ xs) ≡ x.1 + kinds_size xs
kinds_size-cons x xs = kinds_size-append (x ∷ []) xs ∙ omega arith

pub kinds_size-nodes : (xs : List TreeNode) → kinds_size (map kind xs) ≡ sum_by size xs
kinds_size-nodes [] = refl
kinds_size-nodes (x ∷ xs) =
    let one : sum_by size (x ∷ xs) ≡ size x + sum_by size xs = sum_by-append size (x ∷ []) xs ∙ omega arith in
    omega (arith, kinds_size-cons (kind x) (map kind xs), kinds_size-nodes xs, one)

-- the chunks' bytes of nodes, one after another
pub chunk_bytes-append : (xs ys : List Kind) (s : List ℕ) → chunk_bytes (xs ++ ys) s ≡ chunk_bytes xs s ++ chunk_bytes ys (drop (kinds_size xs) s)
chunk_bytes-append [] ys s = refl
chunk_bytes-append (x ∷ xs) ys s = grind (arith, cases_Bool, kinds_size-cons, drop-drop, append_assoc, chunk_bytes-append xs ys (drop x.1 s))

-- those that are wholly there, whatever follows
pub chunk_bytes-within : (xs : List Kind) (s more : List ℕ) → kinds_size xs ≤ length s → chunk_bytes xs (s ++ more) ≡ chunk_bytes xs s
chunk_bytes-within [] s more within = refl
chunk_bytes-within (x ∷ xs) s more within = grind (arith, cases_Bool, kinds_size-cons, take-append-le, drop-append-le, length-drop, chunk_bytes-within xs (drop x.1 s) more)

pub chunk_bytes-one : (n : ℕ) (s : List ℕ) → chunk_bytes ((true, n) ∷ []) s ≡ take n s
chunk_bytes-one n s = append-nil (take n s)

-- a chunk, and a parent with its parts
pub kinds_size-chunk : (choice : Choice) (number n : ℕ) → wants choice (1024 * number) n ≡ true → choice.chunks ≡ true → n ≤ 1024 → kinds_size (subtree_kinds choice number n) ≡ n
kinds_size-chunk choice number n wanted there one = grind (arith, kinds-chunk, kinds_size-cons)

pub chunk_bytes-chunk : (choice : Choice) (number n : ℕ) (s : List ℕ) → wants choice (1024 * number) n ≡ true → choice.chunks ≡ true → n ≤ 1024
    → chunk_bytes (subtree_kinds choice number n) s ≡ take n s
chunk_bytes-chunk choice number n s wanted there one = ap (λ (ks : List Kind). chunk_bytes ks s) (kinds-chunk choice number n wanted there one) ∙ chunk_bytes-one n s

pub kinds_size-parent : (choice : Choice) (number n l : ℕ) → wants choice (1024 * number) n ≡ true → 1024 < n → l ≡ left_len n
    → kinds_size (subtree_kinds choice number n) ≡ 64 + (kinds_size (subtree_kinds choice number l) + kinds_size (subtree_kinds choice (number + l / 1024) (n - l)))
kinds_size-parent choice number n l wanted more is =
    let near : ℕ → List Kind = λ k. subtree_kinds choice number k in
    let far : ℕ → List Kind = λ k. subtree_kinds choice (number + k / 1024) (n - k) in
    ap kinds_size (kinds-parent choice number n wanted more)
    ∙ kinds_size-cons (false, 64) (near (left_len n) ++ far (left_len n))
    ∙ ap (λ (k : ℕ). 64 + k) (kinds_size-append (near (left_len n)) (far (left_len n)))
    ∙ ap (λ (k : ℕ). 64 + (kinds_size (near k) + kinds_size (far k))) (sym is)

pub chunk_bytes-parent : (choice : Choice) (number n l : ℕ) (s : List ℕ) → wants choice (1024 * number) n ≡ true → 1024 < n → l ≡ left_len n
    → chunk_bytes (subtree_kinds choice number n) s
    ≡ chunk_bytes (subtree_kinds choice number l) (drop 64 s) ++ chunk_bytes (subtree_kinds choice (number + l / 1024) (n - l)) (drop (kinds_size (subtree_kinds choice number l)) (drop 64 s))
chunk_bytes-parent choice number n l s wanted more is = grind (arith, kinds-parent, chunk_bytes-append)

pub kinds_size-some : (choice : Choice) (number n : ℕ) → wants choice (1024 * number) n ≡ true → choice.chunks ≡ true → 0 < n → 0 < kinds_size (subtree_kinds choice number n)
kinds_size-some choice number n wanted there some = grind (arith, cases_lt, kinds_size-parent choice number n (left_len n), kinds_size-chunk)

-- nodes that stand together
pub chunk_bytes-both : (xs ys : List Kind) (s more : List ℕ) → kinds_size xs ≡ length s → chunk_bytes (xs ++ ys) (s ++ more) ≡ chunk_bytes xs s ++ chunk_bytes ys more
chunk_bytes-both xs ys s more all = grind (arith, chunk_bytes-append, chunk_bytes-within, drop_at)

-- a part that is put last comes first
pub waiting_kinds-last : (choice : Choice) (xs : List WaitingPart) (x : WaitingPart) → waiting_kinds choice (xs ++ x ∷ []) ≡ subtree_kinds choice x.number x.len ++ waiting_kinds choice xs
waiting_kinds-last choice [] x = sym (append-nil (subtree_kinds choice x.number x.len))
waiting_kinds-last choice (y ∷ ys) x = grind (arith, append_assoc, waiting_kinds-last choice ys x)

pub same_part : (o : Option WaitingPart) (one other : WaitingPart) → o ≡ Some one → o ≡ Some other → one ≡ other
same_part o one other h k = grind arith

pub waiting_kinds-put : (choice : Choice) (parts after : List WaitingPart) (part : WaitingPart) → after ≡ parts ++ part ∷ []
    → waiting_kinds choice after ≡ subtree_kinds choice part.number part.len ++ waiting_kinds choice parts
waiting_kinds-put choice parts after part is = ap (waiting_kinds choice) is ∙ waiting_kinds-last choice parts part

-- one node taken after another
text_of_both : (taken one other more : List ℕ) → ((taken ++ one) ++ other) ++ more ≡ (taken ++ (one ++ other)) ++ more
text_of_both taken one other more = ap (λ (s : List ℕ). s ++ more) (append_assoc taken one other)

text_of_first : (taken one other more : List ℕ) → (taken ++ one) ++ (other ++ more) ≡ (taken ++ (one ++ other)) ++ more
text_of_first taken one other more = sym (append_assoc (taken ++ one) other more) ∙ text_of_both taken one other more

pub taken_both : (mode : Mode) (choice : Choice) (a b c : List WaitingPart) (one other : List ℕ) → HasTaken mode choice a b one → HasTaken mode choice b c other
    → HasTaken mode choice a c (one ++ other)
taken_both mode choice a b c one other first second = record {
  comes = λ taken more o end h.
      let later : AllCome mode choice c (((taken ++ one) ++ other) ++ more) (length ((taken ++ one) ++ other)) o end =
      subst (λ (T : Type 0). T) (λ i. AllCome mode choice c (sym (text_of_both taken one other more) i) (length (sym (append_assoc taken one other) i)) o end) h in
      let middle : AllCome mode choice b (((taken ++ one) ++ other) ++ more) (length (taken ++ one)) o end = second.comes (taken ++ one) more o end later in
      subst (λ (s : List ℕ). AllCome mode choice a s (length taken) o end) (text_of_first taken one other more)
      (first.comes taken (other ++ more) o end
      (subst (λ (s : List ℕ). AllCome mode choice b s (length (taken ++ one)) o end) (append_assoc (taken ++ one) other more) middle));
}

-- a node that is refused after others were taken
pub refused_later : (mode : Mode) (choice : Choice) (a b : List WaitingPart) (at used place size : ℕ) (bytes : List ℕ) (fault : CheckFault) → used ≤ length bytes → place ≡ at + used
    → HasTaken mode choice a b (take used bytes) → HasRefused mode choice b place size (drop used bytes) fault → HasRefusedIn mode choice a b at used bytes fault
refused_later mode choice a b at used place size bytes fault within place_is taken refused = record {
  within = within;
  taken = taken;
  is = refused.is ∙ ap Mismatch place_is;
  stops = λ had more at_is.
      let front : List ℕ = take used bytes in
      let end : ℕ = length (had ++ front) + size in
      let front_len : length (had ++ front) ≡ length had + used = omega (arith, length-append had front, length-take-le used bytes within) in
      let here : AllCome mode choice b (((had ++ front) ++ drop used bytes) ++ more) (length (had ++ front)) (Some fault) end =
      refused.stops (had ++ front) more (omega (arith, front_len, at_is, place_is)) in
      let all : (had ++ front) ++ (drop used bytes ++ more) ≡ (had ++ bytes) ++ more =
      text_of_first had front (drop used bytes) more ∙ ap (λ (s : List ℕ). (had ++ s) ++ more) (take-append-drop used bytes) in (
        end,
        subst (λ (s : List ℕ). AllCome mode choice a s (length had) (Some fault) end) all
            (taken.comes had (drop used bytes ++ more) (Some fault) end
            (subst (λ (s : List ℕ). AllCome mode choice b s (length (had ++ front)) (Some fault) end) (append_assoc (had ++ front) (drop used bytes) more) here)),
      );
}

-- a node that stands at the front of more bytes is refused there
pub refused_front : (mode : Mode) (choice : Choice) (parts : List WaitingPart) (at n size : ℕ) (bytes : List ℕ) (fault : CheckFault) → n ≤ length bytes
    → HasRefused mode choice parts at size (take n bytes) fault → HasRefused mode choice parts at size bytes fault
refused_front mode choice parts at n size bytes fault within refused = record {
  is = refused.is;
  stops = λ had more at_is.
      let all : (had ++ take n bytes) ++ (drop n bytes ++ more) ≡ (had ++ bytes) ++ more =
      text_of_first had (take n bytes) (drop n bytes) more ∙ ap (λ (s : List ℕ). (had ++ s) ++ more) (take-append-drop n bytes) in
      subst (λ (s : List ℕ). AllCome mode choice parts s (length had) (Some fault) (length had + size)) all (refused.stops had (drop n bytes ++ more) at_is);
}

pub decodes_both : (choice : Choice) (a b c : List WaitingPart) (one other first second : List ℕ) → Decodes choice a b one first → Decodes choice b c other second
    → Decodes choice a c (one ++ other) (first ++ second)
decodes_both choice a b c one other first second left_is right_is = grind (arith, append_assoc)

-- all nodes of the part that comes first
pub part_decodes : (choice : Choice) (before after : List WaitingPart) (part : WaitingPart) (node : List ℕ) → before ≡ after ++ part ∷ [] → kinds_size (subtree_kinds choice part.number part.len) ≡ length node
    → Decodes choice before after node (chunk_bytes (subtree_kinds choice part.number part.len) node)
part_decodes choice before after part node is all = λ more.
    ap (λ (ks : List Kind). chunk_bytes ks (node ++ more)) (waiting_kinds-put choice after before part is)
    ∙ chunk_bytes-both (subtree_kinds choice part.number part.len) (waiting_kinds choice after) node more all

-- a chunk
pub chunk_decodes : (choice : Choice) (before after : List WaitingPart) (part : WaitingPart) (node : List ℕ) → before ≡ after ++ part ∷ [] → wants choice (1024 * part.number) part.len ≡ true
    → choice.chunks ≡ true → part.len ≤ 1024 → length node ≡ part.len → Decodes choice before after node node
chunk_decodes choice before after part node is wanted there one len =
    let kinds : subtree_kinds choice part.number part.len ≡ (true, part.len) ∷ [] = kinds-chunk choice part.number part.len wanted there one in
    let size : kinds_size (subtree_kinds choice part.number part.len) ≡ length node = ap kinds_size kinds ∙ kinds_size-cons (true, part.len) [] ∙ (let e : part.len + 0 ≡ length node = omega (arith, len) in e) in
    let own : chunk_bytes (subtree_kinds choice part.number part.len) node ≡ node =
    ap (λ (ks : List Kind). chunk_bytes ks node) kinds ∙ chunk_bytes-one part.len node ∙ take_all part.len node (omega (arith, len)) in
    subst (Decodes choice before after node) own (part_decodes choice before after part node is size)

-- its parent alone, in whose place its parts come
pub parent_decodes : (choice : Choice) (before rest after : List WaitingPart) (part : WaitingPart) (node : List ℕ) → before ≡ rest ++ part ∷ [] → wants choice (1024 * part.number) part.len ≡ true
    → 1024 < part.len → length node ≡ 64
    → waiting_kinds choice after ≡ (subtree_kinds choice part.number (left_len part.len) ++ subtree_kinds choice (part.number + left_len part.len / 1024) (part.len - left_len part.len)) ++ waiting_kinds choice rest
    → Decodes choice before after node []
parent_decodes choice before rest after part node is wanted parent len after_is = λ more.
    let kinds : waiting_kinds choice before ≡ (false, 64) ∷ waiting_kinds choice after =
    waiting_kinds-put choice rest before part is
    ∙ ap (λ (ks : List Kind). ks ++ waiting_kinds choice rest) (kinds-parent choice part.number part.len wanted parent)
    ∙ ap (λ (ks : List Kind). (false, 64) ∷ ks) (sym after_is) in
    ap (λ (ks : List Kind). chunk_bytes ks (node ++ more)) kinds
    ∙ ap (chunk_bytes (waiting_kinds choice after)) (drop_at node more 64 len)

-- a whole subtree at the front of the bytes
pub whole_size : (part : WaitingPart) (choice : Choice) (mode : Mode) (len : ℕ) (bytes : List ℕ) → HasWholeAhead part.asked choice mode part.number part.len len bytes
    → kinds_size (subtree_kinds choice part.number part.len) ≡ len
whole_size part choice mode len bytes whole =
    omega (arith, kinds_size-nodes (subtree_nodes choice part.number part.len [] 0), (whole.passes (take len bytes) 0 ([], sym (append-nil (take len bytes))) [] 0).ends)

-- is taken
pub whole_taken_from : (mode : Mode) (choice : Choice) (before after : List WaitingPart) (part : WaitingPart) (len : ℕ) (bytes : List ℕ) → before ≡ after ++ part ∷ []
    → wants choice (1024 * part.number) part.len ≡ true → HasWholeAhead part.asked choice mode part.number part.len len bytes → HasTaken mode choice before after (take len bytes)
whole_taken_from mode choice before after part len bytes is wanted whole =
    let size : length (take len bytes) ≡ len = length-take-le len bytes whole.there in
    all_taken_from mode choice before after part (take len bytes) is (λ taken more. record {
      within = omega (arith, length-append (taken ++ take len bytes) more);
      passes =
          subst (λ (k : ℕ). (sides : List Side) (source : ℕ) → Passes part.asked sides mode ((taken ++ take len bytes) ++ more) (length taken) k (subtree_nodes choice part.number part.len sides source))
          (sym (ends taken (take len bytes) len size)) (whole.passes ((taken ++ take len bytes) ++ more) (length taken) (stands taken (take len bytes) more));
    })

-- and its chunks
pub whole_decodes : (mode : Mode) (choice : Choice) (before after : List WaitingPart) (part : WaitingPart) (len : ℕ) (bytes : List ℕ) → before ≡ after ++ part ∷ []
    → HasWholeAhead part.asked choice mode part.number part.len len bytes → Decodes choice before after (take len bytes) (chunk_bytes (subtree_kinds choice part.number part.len) bytes)
whole_decodes mode choice before after part len bytes is whole =
    let kinds : List Kind = subtree_kinds choice part.number part.len in
    let size : kinds_size kinds ≡ len = whole_size part choice mode len bytes whole in
    let there : length (take len bytes) ≡ len = length-take-le len bytes whole.there in
    let own : chunk_bytes kinds (take len bytes) ≡ chunk_bytes kinds bytes =
    sym (chunk_bytes-within kinds (take len bytes) (drop len bytes) (omega (arith, size, there))) ∙ ap (chunk_bytes kinds) (take-append-drop len bytes) in
    subst (Decodes choice before after (take len bytes)) own (part_decodes choice before after part (take len bytes) is (size ∙ sym there))

pub some_of : {A : Type 0} (o : Option A) (x : A) (P : A → Type 0) → o ≡ Some x → IfSome o P → P x
some_of o x P is h = subst (λ (p : Option _). IfSome p P) is h

-- a step more
pub taken_more : (mode : Mode) (choice : Choice) (a b c : List WaitingPart) (bytes rest : List ℕ) (used len : ℕ) → rest ≡ drop used bytes → HasTaken mode choice a b (take used bytes)
    → HasTaken mode choice b c (take len rest) → HasTaken mode choice a c (take (used + len) bytes)
taken_more mode choice a b c bytes rest used len is first second = grind (arith, take-add, taken_both)

pub decodes_more : (choice : Choice) (a b c : List WaitingPart) (bytes rest had part all : List ℕ) (used len : ℕ) → rest ≡ drop used bytes → all ≡ had ++ part
    → Decodes choice a b (take used bytes) had → Decodes choice b c (take len rest) part → Decodes choice a c (take (used + len) bytes) all
decodes_more choice a b c bytes rest had part all used len is all_is first second =
    subst (λ (T : Type 0). T) (λ i. Decodes choice a c (sym (take-add used len bytes ∙ ap (λ (s : List ℕ). take used bytes ++ take len s) (sym is)) i) (sym all_is i))
    (decodes_both choice a b c (take used bytes) (take len rest) had part first second)

pub some_weaker : {A : Type 0} (o : Option A) (P Q : A → Type 0) → ((x : A) → P x → Q x) → IfSome o P → IfSome o Q
some_weaker None P Q f h = tt
some_weaker (Some x) P Q f h = f x h

-- what is decoded once the length is there
pub decoded_begun : (start len total : ℕ) (choice : Choice) (parts : List WaitingPart) (header more : List ℕ) → length header ≡ 8 → total ≡ claimed header → choice ≡ of_slice total start len
    → chunk_bytes (waiting_kinds choice parts) more ≡ chunk_bytes (subtree_kinds choice 0 total) more → decoded (header ++ more) start len ≡ chunk_bytes (waiting_kinds choice parts) more
decoded_begun start len total choice parts header more size is chosen waits =
    let claims : claimed (header ++ more) ≡ total = claimed-append header more (omega (arith, size)) ∙ sym is in
    let rest : drop 8 (header ++ more) ≡ more = drop_at header more 8 size in
    let kinds : map kind (subtree_nodes (of_slice total start len) 0 total [] 8) ≡ subtree_kinds choice 0 total =
    ap (λ (ch : Choice). map kind (subtree_nodes ch 0 total [] 8)) (sym chosen) ∙ kinds-anywhere choice 0 total [] 8 in
    (λ i. chunk_bytes (map kind (subtree_nodes (of_slice (claims i) start len) 0 (claims i) [] 8)) (rest i))
    ∙ ap (λ (ks : List Kind). chunk_bytes ks more) kinds
    ∙ sym waits

pub begun_waiting : (choice : Choice) (total : ℕ) (parts before : List WaitingPart) (more : List ℕ) → before ≡ [] → waiting_kinds choice parts ≡ subtree_kinds choice 0 total ++ waiting_kinds choice before
    → chunk_bytes (waiting_kinds choice parts) more ≡ chunk_bytes (subtree_kinds choice 0 total) more
begun_waiting choice total parts before more none kinds = grind (arith, append-nil)

-- a blob of no bytes has a chunk of none
pub begun_empty : (start len total : ℕ) (choice : Choice) (parts : List WaitingPart) (more : List ℕ) → parts ≡ [] → total ≡ 0 → choice ≡ of_slice total start len
    → chunk_bytes (waiting_kinds choice parts) more ≡ chunk_bytes (subtree_kinds choice 0 total) more
begun_empty start len total choice parts more none empty chosen = grind (arith, wants_whole, chunk_bytes-chunk)

-- where nothing waits, all is decoded
pub decoded_all : (choice : Choice) (parts : List WaitingPart) (taken blob : List ℕ) (start len : ℕ) → parts ≡ []
    → decoded (taken ++ []) start len ≡ blob ++ chunk_bytes (waiting_kinds choice parts) [] → decoded taken start len ≡ blob
decoded_all choice parts taken blob start len none h = grind (arith, append-nil)

-- what is decoded after nodes, from what was before them
pub decodes-taken : (choice : Choice) (before after : List WaitingPart) (taken node blob part : List ℕ) (start len : ℕ) → Decodes choice before after node part
    → ((more : List ℕ) → decoded (taken ++ more) start len ≡ blob ++ chunk_bytes (waiting_kinds choice before) more)
    → (more : List ℕ) → decoded ((taken ++ node) ++ more) start len ≡ (blob ++ part) ++ chunk_bytes (waiting_kinds choice after) more
decodes-taken choice before after taken node blob part start len step had more = grind (arith, append_assoc)

-- a node's fault, where more comes after it
pub node_fault_on : (task : CheckTask) (text rest : List ℕ) (fault : CheckFault) → IsNodeFault task text fault → IsNodeFault task (text ++ rest) fault
node_fault_on task text rest (Short at) h = h
node_fault_on task text rest (Mismatch at) h = λ more. subst (λ (s : List ℕ). IsFaultAs task s (Mismatch at)) (sym (append_assoc text rest more)) (h (rest ++ more))
node_fault_on task text rest (Trailing at) h = h
node_fault_on task text rest Memory h = omega (arith, h, length-append text rest)
node_fault_on task text rest Reader h = h

-- bytes that begin with a length, and what is taken of those after it
pub after_length : (taken bytes header nodes : List ℕ) (k : ℕ) → header ≡ take 8 bytes → nodes ≡ drop 8 bytes → (taken ++ header) ++ take k nodes ≡ taken ++ take (8 + k) bytes
after_length taken bytes header nodes k front back = grind (arith, append_assoc, take-add)

pub all_after_length : (taken bytes header nodes : List ℕ) → header ≡ take 8 bytes → nodes ≡ drop 8 bytes → (taken ++ header) ++ nodes ≡ taken ++ bytes
all_after_length taken bytes header nodes front back = grind (arith, append_assoc, take-append-drop)

-- what one node has of the blob: a chunk its bytes, and a parent none
one_decodes : (choice : Choice) (before after : List WaitingPart) (node : List ℕ) (first : Option WaitingPart) (n : ℕ) → last_part before ≡ first → option_map part_size first ≡ Some n
    → ((part : WaitingPart) → last_part before ≡ Some part → part.len ≤ 1024 → Decodes choice before after node node)
    → ((part : WaitingPart) → last_part before ≡ Some part → 1024 < part.len → Decodes choice before after node [])
    → Decodes choice before after node (if is_chunk_first first then node else [])
one_decodes choice before after node None n is some chunk parent = let none : None ≡ Some n = some in cc
one_decodes choice before after node (Some part) n is some chunk parent = elim (leb_tells part.len 1024) [
  | inl one ↦ subst (λ (b : Bool). Decodes choice before after node (if b then node else [])) (sym one.0) (chunk part is one.1)
  | inr more ↦ subst (λ (b : Bool). Decodes choice before after node (if b then node else [])) (sym more.0) (parent part is more.1)
]

pub node_decodes : (choice : Choice) (before after : List WaitingPart) (node : List ℕ) (n : ℕ) → next_size before ≡ Some n
    → ((part : WaitingPart) → last_part before ≡ Some part → part.len ≤ 1024 → Decodes choice before after node node)
    → ((part : WaitingPart) → last_part before ≡ Some part → 1024 < part.len → Decodes choice before after node [])
    → Decodes choice before after node (if chunk_waits before then node else [])
node_decodes choice before after node n some chunk parent = one_decodes choice before after node (last_part before) n refl some chunk parent

-- What comes after a node, once it was taken: its bytes are the blob's where it is a chunk.
pub decodes_node : (choice : Choice) (before after : List WaitingPart) (taken node blob own more : List ℕ) (start len : ℕ) → Decodes choice before after node own
    → decoded (taken ++ (node ++ more)) start len ≡ blob ++ chunk_bytes (waiting_kinds choice before) (node ++ more)
    → decoded ((taken ++ node) ++ more) start len ≡ (blob ++ own) ++ chunk_bytes (waiting_kinds choice after) more
decodes_node choice before after taken node blob own more start len decodes is = grind (arith, append_assoc)

-- what a copy of chunks goes by
pub ruleset copied_sizes = (kinds_size-chunk, kinds_size-parent, kinds-unwanted, append-nil, take-put_mid, chunk_bytes-chunk)

-- what is known once a subtree waits
pub ruleset pushed = (AreParts-last, before_last, before_unwanted, waiting_kinds-put, kinds-unwanted)
