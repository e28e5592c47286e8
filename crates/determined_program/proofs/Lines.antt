-- A line says one thing.
use Rattle.std.proofs.Common.{◌≡◌, ℕ, ◌+◌, ◌*◌, slice_index, arith, List, [], ◌∷◌, Some, map, refl, sym, ap, ◌∙◌}
use Rattle.bao_script.specs.declared.line.Line.{Line}
use Rattle.bao_script.specs.declared.line.Line.TheVariants.{Claim, Hash, Write, Fill, Publish, Give, Load, Settle, Length}
use Rattle.bao_script.specs.declared.numbered.NumberedLine.{NumberedLine}
use Rattle.bao_script.specs.Forms.{AreWritten, SaysLine, name_of, numbers_of}
use Rattle.bao_script.specs.Scripts.{AreRead}
use Rattle.bao_script.specs.Words.{line_words, written_number}

-- words write one list of numbers of these bits
one_writing : (ns ms : List (ℕ × ℕ)) (words : List (List ℕ)) → map (λ (n : ℕ × ℕ). n.0) ns ≡ map (λ (n : ℕ × ℕ). n.0) ms → AreWritten ns words → AreWritten ms words → ns ≡ ms
one_writing [] [] words e a b = refl
one_writing [] (m ∷ ms) words e a b = cc
one_writing (n ∷ ns) [] words e a b = cc
one_writing (n ∷ ns) (m ∷ ms) words e a b =
    let bits : n.0 ≡ m.0 = cc in
    let rest : map (λ (k : ℕ × ℕ). k.0) ns ≡ map (λ (k : ℕ × ℕ). k.0) ms = cc in
    let word : a.0 ≡ b.0 = let e : a.0 ∷ a.1 ≡ b.0 ∷ b.1 = sym a.2 ∙ b.2 in cc in
    let after : a.1 ≡ b.1 = let e : a.0 ∷ a.1 ≡ b.0 ∷ b.1 = sym a.2 ∙ b.2 in cc in
    let both : Some n.1 ≡ Some m.1 = sym a.3 ∙ ap (λ k. written_number k a.0) bits ∙ ap (λ w. written_number m.0 w) word ∙ b.3 in
    let value : n.1 ≡ m.1 = cc in
    let later : ns ≡ ms = one_writing ns ms a.1 rest a.4 (rw after b.4) in
    ap (λ x. (x, n.1) ∷ ns) bits ∙ ap (λ y. (m.0, y) ∷ ns) value ∙ ap (λ zs. m ∷ zs) later

-- the words after its name
after_name : (words rest more : List (List ℕ)) (name other : List ℕ) → words ≡ name ∷ rest → words ≡ other ∷ more → (rest ≡ more) × (name ≡ other)
after_name words rest more name other a b = let e : name ∷ rest ≡ other ∷ more = sym a ∙ b in (cc, cc)

numbers_same : (files : ℕ) (words : List (List ℕ)) (one other : Line) → SaysLine files words one → SaysLine files words other
    → map (λ (n : ℕ × ℕ). n.0) (numbers_of one) ≡ map (λ (n : ℕ × ℕ). n.0) (numbers_of other) → numbers_of one ≡ numbers_of other
numbers_same files words one other a b bits =
    let rest : a.0 ≡ b.0 = (after_name words a.0 b.0 (name_of one) (name_of other) a.1 b.1).0 in
    one_writing (numbers_of one) (numbers_of other) a.0 bits a.2 (rw rest b.2)

names_same : (files : ℕ) (words : List (List ℕ)) (one other : Line) → SaysLine files words one → SaysLine files words other → name_of one ≡ name_of other
names_same files words one other a b = (after_name words a.0 b.0 (name_of one) (name_of other) a.1 b.1).1

-- a number for each name, by its first two letters
abbrev letters : List ℕ → ℕ
letters name = 256 * slice_index name 0 + slice_index name 1

-- a line's name tells the bits of its numbers
same_kind : (one other : Line) → name_of one ≡ name_of other → map (λ (n : ℕ × ℕ). n.0) (numbers_of one) ≡ map (λ (n : ℕ × ℕ). n.0) (numbers_of other)
same_kind (Claim s g w) (Claim t h v) e = refl
same_kind (Hash s f x l) (Hash t g y m) e = refl
same_kind (Write s c w) (Write t d v) e = refl
same_kind (Fill s c) (Fill t d) e = refl
same_kind (Publish s g) (Publish t h) e = refl
same_kind (Give s g m) (Give t h n) e = refl
same_kind (Load s x l) (Load t y m) e = refl
same_kind (Settle s) (Settle t) e = refl
same_kind (Length s) (Length t) e = refl
same_kind one other e = absurd (omega (arith, ap letters e))

-- its name and its numbers tell the line
by_parts : (one other : Line) → name_of one ≡ name_of other → map (λ (n : ℕ × ℕ). n.1) (numbers_of one) ≡ map (λ (n : ℕ × ℕ). n.1) (numbers_of other) → one ≡ other
by_parts (Claim s g w) (Claim t h v) e f = cc
by_parts (Hash s f x l) (Hash t g y m) e n = cc
by_parts (Write s c w) (Write t d v) e f = cc
by_parts (Fill s c) (Fill t d) e f = cc
by_parts (Publish s g) (Publish t h) e f = cc
by_parts (Give s g m) (Give t h n) e f = cc
by_parts (Load s x l) (Load t y m) e f = cc
by_parts (Settle s) (Settle t) e f = cc
by_parts (Length s) (Length t) e f = cc
by_parts one other e f = absurd (omega (arith, ap letters e))

pub one_line : (files : ℕ) (words : List (List ℕ)) (one other : Line) → SaysLine files words one → SaysLine files words other → one ≡ other
one_line files words one other a b =
    let name : name_of one ≡ name_of other = names_same files words one other a b in
    by_parts one other name (ap (map (λ (n : ℕ × ℕ). n.1)) (numbers_same files words one other a b (same_kind one other name)))

numbered_same : (a b : NumberedLine) → a.number ≡ b.number → a.line ≡ b.line → a ≡ b
numbered_same a b e f = λ i. record { number = e i; line = f i }

pub one_script : (files : ℕ) (lines : List (ℕ × List ℕ)) (one other : List NumberedLine) → AreRead files lines one → AreRead files lines other → one ≡ other
one_script files [] one other a b = a ∙ sym b
one_script files (line ∷ lines) one other a b =
    let head : a.0 ≡ b.0 = numbered_same a.0 b.0 (a.3 ∙ sym b.3) (one_line files (line_words line.1) a.0.line b.0.line a.4 b.4) in
    let tail : a.1 ≡ b.1 = one_script files lines a.1 b.1 a.5 b.5 in
    a.2 ∙ ap (λ x. x ∷ a.1) head ∙ ap (λ xs. b.0 ∷ xs) tail ∙ sym b.2
