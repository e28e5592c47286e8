-- The text of a tree, from those of its two parts.
use Rattle.std.proofs.Common.{◌≡◌, ℕ, ◌+◌, ◌-◌, ◌*◌, ◌/◌, ◌<◌, ◌≤◌, List, [], ◌∷◌, ◌++◌, Vec, Global, length, take, drop, Option, Some, None, IfSome, Bool, true, false, if◌then◌else◌, max, ◌∙◌, sym, ap, subst, arith}
use Rattle.std.proofs.lemmas.Bool.{and_from, and_parts, false_from_ne_true, lt-ltb, ltb-true, true≢false}
use Rattle.std.proofs.lemmas.List.{append_assoc, take_at, drop_at, length-append, take_all}
use Rattle.b3word.specs.declared.input.Input.{Input}
use Rattle.b3word.specs.Compression.{cv}
use Rattle.b3tree.specs.declared.mode.Mode.{Mode}
use Rattle.b3tree.specs.Bytes.{bytes_of}
use Rattle.b3tree.specs.Hashing.{root_hash, rooted}
use Rattle.b3tree.specs.Tree.{left_len, parent_input, subtree_cv, top_input}
use Rattle.b3tree.proofs.BlockWords.{AreBytes-append}
use Rattle.b3par.specs.Given.{GivenAt, IsTopInputOf}
use Rattle.b3par.proofs.Parts.{GivenAt-append, IsHashOf-top}
use Rattle.bao_text.specs.declared.choice.Choice.{Choice}
use Rattle.bao_text.specs.Choice.{wants}
use Rattle.bao_text.specs.Texts.{joined, length_text, parent_text, subtree_text}
use Rattle.bao_text.proofs.ParentPut.{parent_put}
use Rattle.bao_text.proofs.SubtreeText.{subtree_text-parent, subtree_text-unwanted}
use Rattle.b3par.specs.Encodings.{GainsText, IsTextOf}

-- the tree over so many bytes splits after l of them
pub record SplitsAt (mode : Mode) (first len l : ℕ) : Type 0 where
  pub parts : (s : List ℕ) → length s ≡ len → top_input mode first s ≡ parent_input mode (subtree_cv mode first (take l s)) (subtree_cv mode (first + l / 1024) (drop l s))
  pub value : l ≡ left_len len
  pub whole : 1024 * (l / 1024) ≡ l
  pub below : l < len
  pub more : 1024 < len

-- of what isn't wanted no part is
unwanted_part : (choice : Choice) (at n part m : ℕ) → at ≤ part → part + max m 1 ≤ at + max n 1 → wants choice at n ≡ false → wants choice part m ≡ false
unwanted_part choice at n part m begins ends none = false_from_ne_true _ (λ there.
    let both = and_parts _ _ there in
    let before : part < choice.end = ltb-true part choice.end both.0 in
    let after : choice.start < part + max m 1 = ltb-true choice.start (part + max m 1) both.1 in
    true≢false (sym (and_from _ _ (lt-ltb at choice.end (omega arith)) (lt-ltb choice.start (at + max n 1) (omega arith))) ∙ none))

-- a parent's own text, where the choice wants it
abbrev pub own_text : Bool → Input → Input → List ℕ
own_text is_wanted left right = if is_wanted then bytes_of (cv left) ++ bytes_of (cv right) else []

-- what is wanted of a tree: a parent's own text, and what is wanted of its parts
wanted_text : (choice : Choice) (mode : Mode) (first len l : ℕ) (left right : Input) (near far : List ℕ) → (w : Bool)
    → SplitsAt mode first len l → wants choice (1024 * first) len ≡ w → length near ≡ l → length far ≡ len - l
    → left ≡ top_input mode first near → right ≡ top_input mode (first + l / 1024) far
    → own_text w left right ++ (subtree_text choice mode first near ++ subtree_text choice mode (first + l / 1024) far) ≡ subtree_text choice mode first (near ++ far)
wanted_text choice mode first len l left right near far true splits wanted near_len far_len left_is right_is =
    let s : List ℕ = near ++ far in
    let len_is : length s ≡ len = length-append near far ∙ (λ i. near_len i + far_len i) ∙ omega (arith, splits.below) in
    let front : take l s ≡ near = take_at near far l near_len in
    let back : drop l s ≡ far = drop_at near far l near_len in
    let left_cv : cv left ≡ subtree_cv mode first (take l s) = (λ i. cv (left_is i)) ∙ (λ i. subtree_cv mode first (sym front i)) in
    let right_cv : cv right ≡ subtree_cv mode (first + l / 1024) (drop l s) =
    (λ i. cv (right_is i)) ∙ (λ i. subtree_cv mode (first + l / 1024) (sym back i)) in
    let parted : l ≡ left_len (length s) = splits.value ∙ ap left_len (sym len_is) in
    let left_text : List ℕ = subtree_text choice mode first near in
    let right_text : List ℕ = subtree_text choice mode (first + l / 1024) far in
    let parent : bytes_of (cv left) ++ bytes_of (cv right) ≡ parent_text mode first s =
    (λ i. bytes_of (left_cv i) ++ bytes_of (right_cv i))
    ∙ (λ i. bytes_of (subtree_cv mode first (take (parted i) s)) ++ bytes_of (subtree_cv mode (first + parted i / 1024) (drop (parted i) s))) in
    (λ i. parent i ++ (left_text ++ right_text))
    ∙ (λ i. parent_text mode first s ++ (subtree_text choice mode first (sym front i) ++ subtree_text choice mode (first + l / 1024) (sym back i)))
    ∙ (λ i. parent_text mode first s ++ (subtree_text choice mode first (take (parted i) s) ++ subtree_text choice mode (first + parted i / 1024) (drop (parted i) s)))
    ∙ sym (subtree_text-parent choice mode first s (ap (wants choice (1024 * first)) len_is ∙ wanted) (omega (arith, len_is, splits.more)))
wanted_text choice mode first len l left right near far false splits none near_len far_len left_is right_is =
    let s : List ℕ = near ++ far in
    let len_is : length s ≡ len = length-append near far ∙ (λ i. near_len i + far_len i) ∙ omega (arith, splits.below) in
    let no_left : wants choice (1024 * first) (length near) ≡ false =
    unwanted_part choice (1024 * first) len (1024 * first) (length near) (omega arith) (omega (arith, near_len, splits.below)) none in
    let no_right : wants choice (1024 * (first + l / 1024)) (length far) ≡ false =
    unwanted_part choice (1024 * first) len (1024 * (first + l / 1024)) (length far) (omega arith) (omega (arith, far_len, splits.below, splits.whole)) none in
    (λ i. subtree_text-unwanted choice mode first near no_left i ++ subtree_text-unwanted choice mode (first + l / 1024) far no_right i)
    ∙ sym (subtree_text-unwanted choice mode first s (ap (wants choice (1024 * first)) len_is ∙ none))

-- a tree, after what was there before
pub text_of_parts : (contents : Option (List ℕ)) (choice : Choice) (mode : Mode) (first len l : ℕ) (left right : Input) (old : List ℕ) (w : Bool)
    → SplitsAt mode first len l → wants choice (1024 * first) len ≡ w
    → (a : IsTopInputOf contents mode first l left) (b : IsTopInputOf contents mode (first + l / 1024) (len - l) right)
    → GainsText contents choice mode first len old
    (old ++ (own_text w left right ++ (subtree_text choice mode first a.bytes ++ subtree_text choice mode (first + l / 1024) b.bytes)))
    (parent_input mode (cv left) (cv right))
text_of_parts contents choice mode first len l left right old w splits wanted a b =
    let s : List ℕ = a.bytes ++ b.bytes in
    let len_is : length s ≡ len = length-append a.bytes b.bytes ∙ (λ i. a.len_is i + b.len_is i) ∙ omega (arith, splits.below) in
    let place : 1024 * (first + l / 1024) ≡ 1024 * first + length a.bytes = omega (arith, a.len_is, splits.whole) in
    let front : take l s ≡ a.bytes = take_at a.bytes b.bytes l a.len_is in
    let back : drop l s ≡ b.bytes = drop_at a.bytes b.bytes l a.len_is in
    record {
      top = record {
        bytes = s;
        are = AreBytes-append a.bytes b.bytes a.are b.are;
        given = GivenAt-append contents (1024 * first) a.bytes b.bytes a.given (subst (λ p. GivenAt contents p b.bytes) place b.given);
        len_is = len_is;
        top =
            (λ i. parent_input mode (cv (a.top i)) (cv (b.top i)))
            ∙ (λ i. parent_input mode (subtree_cv mode first (sym front i)) (subtree_cv mode (first + l / 1024) (sym back i)))
            ∙ sym (splits.parts s len_is);
      };
      text = ap (λ (xs : List ℕ). old ++ xs) (wanted_text choice mode first len l left right a.bytes b.bytes w splits wanted a.len_is b.len_is a.top b.top);
    }

-- the place of a wanted parent, `zeros`, was kept free before the left part
pub text_put : (contents : Option (List ℕ)) (choice : Choice) (mode : Mode) (first len l : ℕ) (left right : Input) (old zeros middle both new : List ℕ)
    → SplitsAt mode first len l → wants choice (1024 * first) len ≡ true → length zeros ≡ 64
    → GainsText contents choice mode first l (old ++ zeros) middle left
    → GainsText contents choice mode (first + l / 1024) (len - l) middle both right
    → new ≡ take (length old) both ++ ((bytes_of (cv left) ++ bytes_of (cv right)) ++ drop (length old + 64) both)
    → GainsText contents choice mode first len old new (parent_input mode (cv left) (cv right))
text_put contents choice mode first len l left right old zeros middle both new splits wanted size a b put =
    let left_text : List ℕ = subtree_text choice mode first a.top.bytes in
    let right_text : List ℕ = subtree_text choice mode (first + l / 1024) b.top.bytes in
    let parent : List ℕ = bytes_of (cv left) ++ bytes_of (cv right) in
    let text : both ≡ ((old ++ zeros) ++ left_text) ++ right_text = b.text ∙ (λ i. a.text i ++ right_text) in
    let is : new ≡ old ++ (parent ++ (left_text ++ right_text)) =
    put
    ∙ (λ i. take (length old) (text i) ++ (parent ++ drop (length old + 64) (text i)))
    ∙ parent_put old zeros left_text right_text parent size in
    subst (λ (t : List ℕ). GainsText contents choice mode first len old t (parent_input mode (cv left) (cv right))) (sym is)
    (text_of_parts contents choice mode first len l left right old true splits wanted a.top b.top)

-- the parent isn't wanted
pub text_passed : (contents : Option (List ℕ)) (choice : Choice) (mode : Mode) (first len l : ℕ) (left right : Input) (old middle new : List ℕ)
    → SplitsAt mode first len l → wants choice (1024 * first) len ≡ false
    → GainsText contents choice mode first l old middle left
    → GainsText contents choice mode (first + l / 1024) (len - l) middle new right
    → GainsText contents choice mode first len old new (parent_input mode (cv left) (cv right))
text_passed contents choice mode first len l left right old middle new splits none a b =
    let is : new ≡ old ++ (subtree_text choice mode first a.top.bytes ++ subtree_text choice mode (first + l / 1024) b.top.bytes) =
    b.text ∙ (λ i. a.text i ++ subtree_text choice mode (first + l / 1024) b.top.bytes) ∙ append_assoc old _ _ in
    subst (λ (t : List ℕ). GainsText contents choice mode first len old t (parent_input mode (cv left) (cv right))) (sym is)
    (text_of_parts contents choice mode first len l left right old false splits none a.top b.top)

-- the texts of the two parts were made each for itself
pub text_beside : (contents : Option (List ℕ)) (choice : Choice) (mode : Mode) (first len l : ℕ) (left right top : Input) (near far new : List ℕ) (w : Bool)
    → SplitsAt mode first len l → wants choice (1024 * first) len ≡ w
    → GainsText contents choice mode first l [] near left → GainsText contents choice mode (first + l / 1024) (len - l) [] far right
    → top ≡ parent_input mode (cv left) (cv right) → new ≡ own_text w left right ++ (near ++ far)
    → GainsText contents choice mode first len [] new top
text_beside contents choice mode first len l left right top near far new w splits wanted a b top_is new_is =
    let own : List ℕ = own_text w left right in
    let is : new ≡ own ++ (subtree_text choice mode first a.top.bytes ++ subtree_text choice mode (first + l / 1024) b.top.bytes) =
    new_is ∙ (λ i. own ++ (a.text i ++ b.text i)) in
    let made = text_of_parts contents choice mode first len l left right [] w splits wanted a.top b.top in
    subst (GainsText contents choice mode first len [] new) (sym top_is)
    (subst (λ (t : List ℕ). GainsText contents choice mode first len [] t (parent_input mode (cv left) (cv right))) (sym is) made)

-- a whole tree, whose text began with the length
pub text_some : (contents : Option (List ℕ)) (choice : ℕ → Choice) (mode : Mode) (len : ℕ) (text : List ℕ) (top : Input)
    → (gains : GainsText contents (choice len) mode 0 len (length_text len) text top)
    → IsTextOf choice mode len gains.top.bytes (root_hash (rooted top)) text
text_some contents choice mode len text top gains = record {
  hash_is = IsHashOf-top contents mode len top gains.top;
  text_is = gains.text ∙ (λ i. length_text (sym gains.top.len_is i) ++ subtree_text (choice (sym gains.top.len_is i)) mode 0 gains.top.bytes);
}

-- where the contents are known and end there, they are what was given
pub text_all : (contents : Option (List ℕ)) (choice : ℕ → Choice) (mode : Mode) (len : ℕ) (text : List ℕ) (top : Input)
    → GainsText contents (choice len) mode 0 len (length_text len) text top → IfSome contents (λ s. length s ≤ len)
    → IfSome contents (λ s. IsTextOf choice mode len s (root_hash (rooted top)) text)
text_all None choice mode len text top gains ends = tt
text_all (Some s) choice mode len text top gains ends =
    let within : length s ≤ length gains.top.bytes = omega (arith, gains.top.len_is) in
    let same : gains.top.bytes ≡ s = gains.top.given ∙ take_all (length gains.top.bytes) s within in
    subst (λ (bytes : List ℕ). IsTextOf choice mode len bytes (root_hash (rooted top)) text) same (text_some (Some s) choice mode len text top gains)

-- the length stands in a text of its own, before those of the tree
pub text_after : (contents : Option (List ℕ)) (choice : Choice) (mode : Mode) (first len : ℕ) (before : Vec ℕ Global) (old : List ℕ) (rest texts : List (Vec ℕ Global)) (top : Input)
    → before.items ≡ old → texts ≡ before ∷ rest
    → GainsText contents choice mode first len [] (joined rest) top → GainsText contents choice mode first len old (joined texts) top
text_after contents choice mode first len before old rest texts top old_is texts_is gains = record {
  top = gains.top;
  text = ap joined texts_is ∙ (λ i. old_is i ++ gains.text i);
}
