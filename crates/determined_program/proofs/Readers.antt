-- What is read of readers that have the same left.
use Rattle.std.proofs.Common.{◌≡◌, ℕ, List, ◌++◌, length, Option, None, Some, IfErr, IfOk, IfSome, OnOk, Result, Ok, Err, sym, ap, subst, ◌∙◌, arith, length-append}
use Rattle.b3tree.specs.Hashing.{hash}
use Rattle.b3tree.specs.Taken.{Holds}
use Rattle.b3tree.specs.declared.hasher.Hasher.{Hasher}
use Rattle.b3tree.specs.declared.mode.Mode.{Mode}
use Rattle.b3tree.specs.declared.values.Hash.{Hash}
use Rattle.bao_files.specs.Reading.{AppendsTaken}
use Rattle.bao_files.specs.declared.input.InputFault.{InputFault}
use Rattle.bao_files.specs.declared.input.InputFault.TheVariants.{Reader}
use Rattle.determined_texts.proofs.Left.{one_cut}
use Rattle.determined_texts.proofs.OneText.{left_of}
use Rattle.determined_texts.proofs.Values.{same_hash}

-- what two vectors gain from readers
abbrev pub Gains : Option (List ℕ) → Option (List ℕ) → List ℕ → List ℕ → Type 0
Gains before after old new = (taken : List ℕ) × AppendsTaken before after old new taken

parts : (all : List ℕ) (after later : Option (List ℕ)) (old a b : List ℕ) → Gains (Some all) after old a → Gains (Some all) later old b → length a ≡ length b → (a ≡ b) × (after ≡ later)
parts all after later old a b p q size =
    let one = left_of all after p.0 p.1.given in
    let other = left_of all later q.0 q.1.given in
    let lengths : length p.0 ≡ length q.0 =
    omega (arith, size, ap (λ (s : List ℕ). length s) p.1.kept, ap (λ (s : List ℕ). length s) q.1.kept, length-append old p.0, length-append old q.0) in
    let same = one_cut all p.0 q.0 one.0 other.0 one.2 other.2 lengths in
    (p.1.kept ∙ ap (λ (s : List ℕ). old ++ s) same.front ∙ sym q.1.kept, one.1 ∙ ap (λ (s : List ℕ). Some s) same.back ∙ sym other.1)

pub parts_agree : (before also after later : Option (List ℕ)) (old other a b : List ℕ) → before ≡ also → old ≡ other → Gains before after old a → Gains also later other b
    → IfSome before (λ all. length a ≡ length b → (a ≡ b) × (after ≡ later))
parts_agree None also after later old other a b same start p q = tt
parts_agree (Some all) also after later old other a b same start p q =
    parts all after later old a b p (subst (λ (xs : List ℕ). Gains (Some all) later xs b) (sym start) (subst (λ (o : Option (List ℕ)). Gains o later other b) (sym same) q))

-- those that have all of it
pub wholes_agree : {E : Type 0} (before also after later : Option (List ℕ)) (old other a b : List ℕ) (r s : Result (Unit {0}) E) → before ≡ also → old ≡ other
    → Gains before after old a → Gains also later other b → OnOk r (IfSome before (λ all. a ≡ old ++ all)) → OnOk s (IfSome also (λ all. b ≡ other ++ all))
    → IfSome before (λ all. OnOk r (OnOk s ((a ≡ b) × (after ≡ later))))
wholes_agree None also after later old other a b r s same start p q u v = tt
wholes_agree (Some all) also after later old other a b (Err e) s same start p q u v = tt
wholes_agree (Some all) also after later old other a b (Ok x) (Err f) same start p q u v = tt
wholes_agree (Some all) also after later old other a b (Ok x) (Ok y) same start p q u v =
    let w : b ≡ other ++ all = subst (λ (o : Option (List ℕ)). IfSome o (λ all. b ≡ other ++ all)) (sym same) v in
    let e : a ≡ b = u ∙ ap (λ (s : List ℕ). s ++ all) start ∙ sym w in
    parts_agree (Some all) also after later old other a b same start p q (ap (λ (s : List ℕ). length s) e)

-- what is told of all that a reader has left
pub answers_agree : {X E : Type 0} (Same : X → X → Type 0) (Is : List ℕ → X → Type 0) → ((s : List ℕ) (x y : X) → Is s x → Is s y → Same x y)
    → (before also : Option (List ℕ)) (r s : Result X E) → before ≡ also → IfOk r (λ x. IfSome before (λ all. Is all x)) → IfOk s (λ x. IfSome also (λ all. Is all x))
    → IfSome before (λ all. IfOk r (λ x. IfOk s (λ y. Same x y)))
answers_agree Same Is one None also r s same a b = tt
answers_agree Same Is one (Some all) also (Err e) s same a b = tt
answers_agree Same Is one (Some all) also (Ok x) (Err f) same a b = tt
answers_agree Same Is one (Some all) also (Ok x) (Ok y) same a b =
    one all x y a (subst (λ o. IfSome o (λ all. Is all y)) (sym same) b)

one_hash : {E : Type 0} (found : List ℕ) (u v : Result Hash E) → IfOk u (λ a. a.0 ≡ found) → IfOk v (λ b. b.0 ≡ found) → IfOk u (λ a. IfOk v (λ b. a ≡ b))
one_hash found (Err e) v p q = tt
one_hash found (Ok a) (Err f) p q = tt
one_hash found (Ok a) (Ok b) p q = same_hash a b (p ∙ sym q)

-- the hashes of what hashers have taken in
pub hashes_agree : {E : Type 0} (mode : Mode) (before also : Option (List ℕ)) (r s : Result Hasher E) (u v : Result Hash E) → before ≡ also
    → IfOk r (λ h. IfSome before (λ all. Holds h mode all)) → IfOk s (λ h. IfSome also (λ all. Holds h mode all))
    → ((t : List ℕ) → IfOk r (λ h. Holds h mode t) → IfOk u (λ a. a.0 ≡ hash mode t)) → ((t : List ℕ) → IfOk s (λ h. Holds h mode t) → IfOk v (λ a. a.0 ≡ hash mode t))
    → IfSome before (λ all. IfOk u (λ a. IfOk v (λ b. a ≡ b)))
hashes_agree mode None also r s u v same p q f g = tt
hashes_agree mode (Some all) also r s u v same p q f g =
    one_hash (hash mode all) u v (f all p) (g all (subst (λ (o : Option (List ℕ)). IfOk s (λ h. IfSome o (λ all. Holds h mode all))) (sym same) q))

pub one_reader_fault : (r s : Result Hasher InputFault) (u v : Result Hash InputFault) → IfErr r (λ f. f ≡ Reader) → IfErr s (λ f. f ≡ Reader)
    → IfErr u (λ f. r ≡ Err f) → IfErr v (λ f. s ≡ Err f) → IfErr u (λ e. IfErr v (λ f. e ≡ f))
one_reader_fault r s (Ok x) v p q a b = tt
one_reader_fault r s (Err e) (Ok y) p q a b = tt
one_reader_fault r s (Err e) (Err f) p q a b =
    let one : e ≡ Reader = subst (λ (t : Result Hasher InputFault). IfErr t (λ f. f ≡ Reader)) a p in
    let other : f ≡ Reader = subst (λ (t : Result Hasher InputFault). IfErr t (λ f. f ≡ Reader)) b q in one ∙ sym other
