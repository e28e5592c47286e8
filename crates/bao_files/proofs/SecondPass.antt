-- A subtree that is read again: where its parents part, and what its two parts, read again, make.
use Rattle.std.proofs.Common.{◌≡◌, ℕ, ◌+◌, ◌-◌, ◌*◌, ◌/◌, ◌^◌, ◌<◌, ◌≤◌, max, List, ◌++◌, length, take, drop, Option, Some, None, IfSome, Result, Ok, Err, IfOk, refl, sym, ap, subst, ◌∙◌, arith, length-append, length-drop}
use Rattle.std.proofs.KnownBytes.{Appends-nil, Appends-trans}
use Rattle.std.proofs.Math.Seq.{take-append-add}
use Rattle.std.proofs.lemmas.List.{drop_at, length-take-le, take-append-le, take-take, take_all, take_at}
use Rattle.std.specs.Io.KnownBytes.{Appends}
use Rattle.b3word.specs.declared.input.Input.{Input}
use Rattle.b3word.specs.Compression.{cv, out}
use Rattle.b3tree.specs.declared.mode.Mode.{Mode}
use Rattle.b3tree.specs.declared.values.Cv.{Cv}
use Rattle.b3tree.specs.Bytes.{bytes_of, words_of}
use Rattle.b3tree.specs.Hashing.{hash, root_hash, rooted}
use Rattle.b3tree.specs.Pieces.{piece}
use Rattle.b3tree.specs.Tree.{left_len, parent_input, subtree_cv, top_input}
use Rattle.b3tree.specs.Valid.{AreBytes, IsKeyed}
use Rattle.b3tree.proofs.BlockWords.{AreBytes-append, AreBytes-drop, AreBytes-take}
use Rattle.b3tree.proofs.HashOutput.{length-bytes_of, length-out}
use Rattle.b3tree.proofs.Pieces.{piece-piece}
use Rattle.b3tree.proofs.Ranges.{top_input-IsInput, words_of-cv}
use Rattle.b3par.specs.Given.{GivenAt}
use Rattle.b3par.proofs.Parts.{GivenAt-append}
use Rattle.bao_text.specs.declared.choice.Choice.{Choice}
use Rattle.bao_text.specs.Choice.{chunk_count, of_combined, of_outboard}
use Rattle.bao_text.specs.Nodes.{subtree_size}
use Rattle.bao_text.specs.Pieces.{HasParents, whole_text}
use Rattle.bao_text.specs.Texts.{combined_text, length_text, outboard_text, parent_text, subtree_text}
use Rattle.bao_text.proofs.Everything.{length-parent_text, length-subtree_text, wants_all}
use Rattle.bao_text.proofs.PieceTexts.{length-whole_text}
use Rattle.bao_text.proofs.SubtreeText.{Parts, left_len-Parts, subtree_text-leaf, subtree_text-parent}
use Rattle.bao_files.specs.declared.again.AgainFault.{AgainFault}
use Rattle.bao_files.specs.declared.ahead.ReadAhead.{ReadAhead}
use Rattle.bao_files.specs.Again.{Replaces, Sends, WritesAgain}
use Rattle.bao_files.specs.Ahead.{IsPieceOf, IsRead, IsUnread, all_of}
use Rattle.bao_files.specs.Encoded.{AppendsPart}

-- what a beginning of the first part is of both
pub part_first : (old new : Option (List ℕ)) (a b : List ℕ) → AppendsPart old new a → AppendsPart old new (a ++ b)
part_first old new a b h =
    let n : ℕ = h.0 in
    let less : n < length a = h.1 in
    let short : take n (a ++ b) ≡ take n a = take-append-le n a b (omega (arith, less)) in
    (n, omega (arith, less, length-append a b), subst (Appends old new) (sym short) h.2)

-- what a beginning of the second part is, after the first
pub part_rest : (old mid new : Option (List ℕ)) (a b : List ℕ) → Appends old mid a → AppendsPart mid new b → AppendsPart old new (a ++ b)
part_rest old mid new a b all h =
    let n : ℕ = h.0 in
    let less : n < length b = h.1 in
    (length a + n, omega (arith, less, length-append a b), subst (Appends old new) (sym (take-append-add a b n)) (Appends-trans old mid new a (take n b) all h.2))

-- nothing was written
pub part_none : (old : Option (List ℕ)) (text : List ℕ) → 0 < length text → AppendsPart old old text
part_none old text some = (0, some, Appends-nil old)

pub sends_err : (text : List ℕ) (old new : Option (List ℕ)) (result : Result Unit AgainFault) (fault : AgainFault) → result ≡ Err fault → AppendsPart old new text
    → Sends text old new result
sends_err text old new result fault is part = subst (Sends text old new) (sym is) (tt, part)

pub sends_same : (text other : List ℕ) (old new : Option (List ℕ)) (result : Result Unit AgainFault) → text ≡ other → Sends text old new result → Sends other old new result
sends_same text other old new result is sent = subst (λ (t : List ℕ). Sends t old new result) is sent

-- after a text that was written
pub sends_after : (front text : List ℕ) (old mid new : Option (List ℕ)) (result : Result Unit AgainFault) → Appends old mid front → Sends text mid new result
    → Sends (front ++ text) old new result
sends_after front text old mid new (Ok done) all sent = (Appends-trans old mid new front text all sent.0, tt)
sends_after front text old mid new (Err fault) all sent = (tt, part_rest old mid new front text all sent.1)

pub replaces_same : (contents : Option (List ℕ)) (mode : Mode) (first : ℕ) (before : List ℕ) → Replaces contents mode first before before
replaces_same contents mode first before = record { len_is = refl; value = refl; are = λ h. h; given = λ h. h }

-- bytes that were verified
pub replaces_read : (contents : Option (List ℕ)) (mode : Mode) (first : ℕ) (before again asked : List ℕ) → length again ≡ length before
    → subtree_cv mode first before ≡ asked → subtree_cv mode first again ≡ asked → AreBytes again → GivenAt contents (1024 * first) again
    → Replaces contents mode first before again
replaces_read contents mode first before again asked len_is before_is again_is bytes given = record {
  len_is = len_is;
  value = again_is ∙ sym before_is;
  are = λ _. bytes;
  given = λ _. given;
}

-- the encoding of a subtree that isn't empty isn't
pub some_text : (total : ℕ) (mode : Mode) (first : ℕ) (parents s : List ℕ) → HasParents total mode first parents s → 0 < length s
    → 0 < length (whole_text total mode first s)
some_text total mode first parents s h some =
    let size : length (whole_text total mode first s) ≡ subtree_size (length s) = length-whole_text total mode first parents s h in
    omega (arith, size, some)

length-cv : (x : Input) → length (cv x) ≡ 8
length-cv x = length-take-le 8 (out x) (omega (arith, length-out x))

-- the values that a parent's encoding has for its two parts
near_value : (mode : Mode) (first : ℕ) (s : List ℕ) → IsKeyed mode → 1024 < length s → 1024 * first + length s < 2 ^ 64
    → words_of 8 (take 32 (parent_text mode first s)) ≡ subtree_cv mode first (take (left_len (length s)) s)
near_value mode first s keyed more fits =
    let l : ℕ = left_len (length s) in
    let parts : Parts (length s) l = left_len-Parts (length s) more in
    let near : Input = top_input mode first (take l s) in
    let far : Input = top_input mode (first + l / 1024) (drop l s) in
    let size : length (bytes_of (cv near)) ≡ 32 = length-bytes_of (cv near) ∙ ap (λ (k : ℕ). 4 * k) (length-cv near) in
    ap (words_of 8) (take_at (bytes_of (cv near)) (bytes_of (cv far)) 32 size)
    ∙ words_of-cv near (top_input-IsInput mode first (take l s) keyed (omega (arith, fits)))

far_value : (mode : Mode) (first : ℕ) (s : List ℕ) → IsKeyed mode → 1024 < length s → 1024 * first + length s < 2 ^ 64
    → words_of 8 (drop 32 (parent_text mode first s)) ≡ subtree_cv mode (first + left_len (length s) / 1024) (drop (left_len (length s)) s)
far_value mode first s keyed more fits =
    let l : ℕ = left_len (length s) in
    let parts : Parts (length s) l = left_len-Parts (length s) more in
    let near : Input = top_input mode first (take l s) in
    let far : Input = top_input mode (first + l / 1024) (drop l s) in
    let size : length (bytes_of (cv near)) ≡ 32 = length-bytes_of (cv near) ∙ ap (λ (k : ℕ). 4 * k) (length-cv near) in
    ap (words_of 8) (drop_at (bytes_of (cv near)) (bytes_of (cv far)) 32 size)
    ∙ words_of-cv far (top_input-IsInput mode (first + l / 1024) (drop l s) keyed (omega (arith, parts.whole, parts.below, fits)))

-- where the kept parents of bytes part, as the tree over them does after l bytes
pub record Splits (total : ℕ) (mode : Mode) (first l : ℕ) (parent near far before : List ℕ) : Type 0 where
  pub near_has : HasParents total mode first near (take l before)
  pub far_has : HasParents total mode (first + l / 1024) far (drop l before)
  pub parent_is : parent ≡ parent_text mode first before
  pub near_value : subtree_cv mode first (take l before) ≡ words_of 8 (take 32 parent)
  pub far_value : subtree_cv mode (first + l / 1024) (drop l before) ≡ words_of 8 (drop 32 parent)
  pub near_len : length (take l before) ≡ l
  pub far_len : length (drop l before) ≡ length before - l
  pub whole : 1024 * (l / 1024) ≡ l
  pub below : l < length before
  pub begins : 1024 * first < max total 1
  pub value : l ≡ left_len (length before)

splits_there : (total : ℕ) (mode : Mode) (first : ℕ) (parents before : List ℕ) → HasParents total mode first parents before → IsKeyed mode → 1024 < length before
    → 1024 * first + length before < 2 ^ 64
    → Splits total mode first (left_len (length before)) (take 64 parents) (take (64 * (left_len (length before) / 1024 - 1)) (drop 64 parents))
    (drop (64 * (left_len (length before) / 1024 - 1)) (drop 64 parents)) before
splits_there total mode first parents s h keyed more fits =
    let o : Choice = of_outboard total in
    let m : ℕ = left_len (length s) in
    let size : ℕ = 64 * (m / 1024 - 1) in
    let parts : Parts (length s) m = left_len-Parts (length s) more in
    let start : 1024 * first < max total 1 = h.start in
    let end : 1024 * first + length s ≤ total = h.end in
    let p : List ℕ = parent_text mode first s in
    let a : List ℕ = subtree_text o mode first (take m s) in
    let b : List ℕ = subtree_text o mode (first + m / 1024) (drop m s) in
    let near_len : length (take m s) ≡ m = length-take-le m s (omega (arith, parts.below)) in
    let far_len : length (drop m s) ≡ length s - m = length-drop m s in
    let whole : parents ≡ p ++ (a ++ b) =
    h.text ∙ subtree_text-parent o mode first s (wants_all o (1024 * first) (length s) refl start) more in
    let p_len : length p ≡ 64 = length-parent_text mode first s in
    let a_size : length a ≡ size =
    length-subtree_text (length (take m s)) o mode first (take m s) (omega arith) refl start (omega (arith, parts.below))
    ∙ (let e : 0 + 64 * (chunk_count (length (take m s)) - 1) ≡ size = omega (arith, parts.whole, parts.some) in e) in
    let rest : drop 64 parents ≡ a ++ b = ap (drop 64) whole ∙ drop_at p (a ++ b) 64 p_len in
    let parent_is : take 64 parents ≡ p = ap (take 64) whole ∙ take_at p (a ++ b) 64 p_len in
    record {
      near_has = record {
        start = start;
        end = omega (arith, parts.below);
        text = ap (take size) rest ∙ take_at a b size a_size;
      };
      far_has = record {
        start = omega (arith, parts.whole, parts.below);
        end = omega (arith, parts.whole, parts.below);
        text = ap (drop size) rest ∙ drop_at a b size a_size;
      };
      parent_is = parent_is;
      near_value = sym (ap (λ (xs : List ℕ). words_of 8 (take 32 xs)) parent_is ∙ near_value mode first s keyed more fits);
      far_value = sym (ap (λ (xs : List ℕ). words_of 8 (drop 32 xs)) parent_is ∙ far_value mode first s keyed more fits);
      near_len = near_len;
      far_len = far_len;
      whole = parts.whole;
      below = parts.below;
      begins = start;
      value = refl;
    }

pub splits : (total : ℕ) (mode : Mode) (first l : ℕ) (parents parent near far before : List ℕ) → HasParents total mode first parents before → IsKeyed mode → 1024 < length before
    → 1024 * first + length before < 2 ^ 64 → l ≡ left_len (length before) → parent ≡ take 64 parents
    → near ≡ take (64 * (l / 1024 - 1)) (drop 64 parents) → far ≡ drop (64 * (l / 1024 - 1)) (drop 64 parents)
    → Splits total mode first l parent near far before
splits total mode first l parents parent near far before h keyed more fits parted parent_is near_is far_is =
    let all = splits_there total mode first parents before h keyed more fits in
    let at_l : Splits total mode first l (take 64 parents) (take (64 * (l / 1024 - 1)) (drop 64 parents)) (drop (64 * (l / 1024 - 1)) (drop 64 parents)) before =
    subst (λ (k : ℕ). Splits total mode first k (take 64 parents) (take (64 * (k / 1024 - 1)) (drop 64 parents)) (drop (64 * (k / 1024 - 1)) (drop 64 parents)) before)
    (sym parted) all in
    subst (λ (xs : List ℕ). Splits total mode first l xs near far before) (sym parent_is)
    (subst (λ (xs : List ℕ). Splits total mode first l (take 64 parents) xs far before) (sym near_is)
    (subst (λ (xs : List ℕ). Splits total mode first l (take 64 parents) (take (64 * (l / 1024 - 1)) (drop 64 parents)) xs before) (sym far_is) at_l))

-- bytes that a place gave are given in two parts
given_parts : (contents : Option (List ℕ)) (at l : ℕ) (s : List ℕ) → l ≤ length s → GivenAt contents at s → GivenAt contents at (take l s) × GivenAt contents (at + l) (drop l s)
given_parts None at l s fits given = (tt, tt)
given_parts (Some all) at l s fits given =
    let n : ℕ = length s in
    let near_len : length (take l s) ≡ l = length-take-le l s fits in
    let far_len : length (drop l s) ≡ n - l = length-drop l s in
    let front : take l s ≡ piece all at l = ap (take l) given ∙ take-take l n (drop at all) fits in
    let all_of_it : piece s l (n - l) ≡ drop l s = (λ i. take (sym far_len i) (drop l s)) ∙ take_all (length (drop l s)) (drop l s) (omega arith) in
    let back : drop l s ≡ piece all (at + l) (n - l) =
    sym all_of_it ∙ ap (λ (xs : List ℕ). piece xs l (n - l)) given ∙ piece-piece all at n l (n - l) (omega (arith, fits)) in
    (front ∙ ap (piece all at) (sym near_len), back ∙ ap (piece all (at + l)) (sym far_len))

-- The two parts of bytes, each read again, are those bytes read again: with the same top, and with the encoding that the kept
-- parent and theirs make.
pub record Joins (contents : Option (List ℕ)) (total : ℕ) (mode : Mode) (first l : ℕ) (parent before near far : List ℕ) : Type 0 where
  pub top : top_input mode first (near ++ far) ≡ top_input mode first before
  pub replaces : Replaces contents mode first before (near ++ far)
  pub text : whole_text total mode first (near ++ far) ≡ parent ++ (whole_text total mode first near ++ whole_text total mode (first + l / 1024) far)

-- the tree over so many bytes parts after l of them
abbrev pub PartsAt : Mode → ℕ → ℕ → ℕ → Type 0
PartsAt mode first n l = (s : List ℕ) → length s ≡ n → top_input mode first s ≡ parent_input mode (subtree_cv mode first (take l s)) (subtree_cv mode (first + l / 1024) (drop l s))

pub joins : (contents : Option (List ℕ)) (total : ℕ) (mode : Mode) (first l : ℕ) (parent near_parents far_parents before near far : List ℕ)
    → Splits total mode first l parent near_parents far_parents before → PartsAt mode first (length before) l → 1024 < length before
    → Replaces contents mode first (take l before) near → Replaces contents mode (first + l / 1024) (drop l before) far
    → Joins contents total mode first l parent before near far
joins contents total mode first l parent near_parents far_parents before near far parted parts more one other =
    let s : List ℕ = near ++ far in
    let near_len : length near ≡ l = one.len_is ∙ parted.near_len in
    let far_len : length far ≡ length before - l = other.len_is ∙ parted.far_len in
    let len_is : length s ≡ length before = length-append near far ∙ (λ i. near_len i + far_len i) ∙ omega (arith, parted.below) in
    let front : take l s ≡ near = take_at near far l near_len in
    let back : drop l s ≡ far = drop_at near far l near_len in
    let c : Choice = of_combined total in
    let near_same : subtree_cv mode first (take l s) ≡ subtree_cv mode first (take l before) = ap (subtree_cv mode first) front ∙ one.value in
    let far_same : subtree_cv mode (first + l / 1024) (drop l s) ≡ subtree_cv mode (first + l / 1024) (drop l before) =
    ap (subtree_cv mode (first + l / 1024)) back ∙ other.value in
    let top : top_input mode first s ≡ top_input mode first before =
    parts s len_is ∙ (λ i. parent_input mode (near_same i) (far_same i)) ∙ sym (parts before refl) in
    let place : 1024 * (first + l / 1024) ≡ 1024 * first + length near = omega (arith, near_len, parted.whole) in
    let place_before : 1024 * (first + l / 1024) ≡ 1024 * first + l = omega (arith, parted.whole) in
    let value : l ≡ left_len (length s) = parted.value ∙ ap left_len (sym len_is) in
    let value_before : l ≡ left_len (length before) = parted.value in
    let own : parent_text mode first s ≡ parent =
    (λ i. bytes_of (subtree_cv mode first (take (sym value i) s)) ++ bytes_of (subtree_cv mode (first + sym value i / 1024) (drop (sym value i) s)))
    ∙ (λ i. bytes_of (near_same i) ++ bytes_of (far_same i))
    ∙ (λ i. bytes_of (subtree_cv mode first (take (value_before i) before)) ++ bytes_of (subtree_cv mode (first + value_before i / 1024) (drop (value_before i) before)))
    ∙ sym parted.parent_is in
    record {
      top = top;
      replaces = record {
        len_is = len_is;
        value = ap cv top;
        are = λ bytes. AreBytes-append near far (one.are (AreBytes-take l before bytes)) (other.are (AreBytes-drop l before bytes));
        given = λ given.
            let halves = given_parts contents (1024 * first) l before (omega (arith, parted.below)) given in
            let far_given : GivenAt contents (1024 * (first + l / 1024)) far = other.given (subst (λ (p : ℕ). GivenAt contents p (drop l before)) (sym place_before) halves.1) in
            GivenAt-append contents (1024 * first) near far (one.given halves.0) (subst (λ (p : ℕ). GivenAt contents p far) place far_given);
      };
      text =
          subtree_text-parent c mode first s (wants_all c (1024 * first) (length s) refl parted.begins) (omega (arith, len_is, more))
          ∙ (λ i. own i ++ (subtree_text c mode first (take (sym value i) s) ++ subtree_text c mode (first + sym value i / 1024) (drop (sym value i) s)))
          ∙ (λ i. parent ++ (subtree_text c mode first (front i) ++ subtree_text c mode (first + l / 1024) (back i)));
    }

-- one chunk's encoding is its bytes
pub chunk_whole : (total : ℕ) (mode : Mode) (first : ℕ) (s : List ℕ) → 1024 * first < max total 1 → length s ≤ 1024 → whole_text total mode first s ≡ s
chunk_whole total mode first s begins one =
    subtree_text-leaf (of_combined total) mode first s (wants_all (of_combined total) (1024 * first) (length s) refl begins) one

-- of a piece of which nothing was read, all is true that is noted
pub read_none : (contents : Option (List ℕ)) (choice : Choice) (mode : Mode) (it : ReadAhead) → IsUnread it → IsRead contents choice mode it
read_none contents choice mode it is =
    subst (λ (value : Result (Option Cv) AgainFault). IfOk value (λ made. IfSome made (λ v. IsPieceOf contents choice mode it.first it.len v.0 (all_of it.text)))) (sym is) tt

-- nothing was written of a subtree
pub unread : (contents : Option (List ℕ)) (total : ℕ) (mode : Mode) (first : ℕ) (parents before : List ℕ) (old : Option (List ℕ)) (result : Result Unit AgainFault) (fault : AgainFault)
    → result ≡ Err fault → HasParents total mode first parents before → 0 < length before → WritesAgain contents total mode first before old old result
unread contents total mode first parents before old result fault is has some = (
  before,
  replaces_same contents mode first before,
  sends_err (whole_text total mode first before) old old result fault is (part_none old _ (some_text total mode first parents before has some)),
)

-- the outboard encoding after its length is the whole blob's parents
pub kept_parents : (mode : Mode) (len : ℕ) (text parents before : List ℕ) → 0 < len → text ≡ outboard_text mode before → length before ≡ len → parents ≡ drop 8 text
    → HasParents len mode 0 parents before
kept_parents mode len text parents before some text_is len_is parents_is = record {
  start = omega (arith, some);
  end = omega (arith, len_is);
  text = parents_is ∙ ap (drop 8) text_is ∙ (λ i. subtree_text (of_outboard (len_is i)) mode 0 before);
}

-- the combined encoding is the length and the whole tree's
pub combined_again : (mode : Mode) (len : ℕ) (again : List ℕ) → length again ≡ len → combined_text mode again ≡ length_text len ++ whole_text len mode 0 again
combined_again mode len again len_is = λ i. length_text (len_is i) ++ subtree_text (of_combined (len_is i)) mode 0 again

pub hash_again : (mode : Mode) (again before : List ℕ) → top_input mode 0 again ≡ top_input mode 0 before → hash mode again ≡ hash mode before
unfolding hash
hash_again mode again before top = ap (λ (x : Input). root_hash (rooted x)) top
