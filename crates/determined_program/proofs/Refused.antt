-- The first line of a script that is refused is one, and a script that is read has none.
use Rattle.std.proofs.Common.{◌≡◌, ◌==◌, ◌⊎◌, ℕ, zero, suc, ◌+◌, ◌<◌, List, [], ◌∷◌, Bool, true, false, cond, length, take, Some, Result, Ok, Err, IfOk, inl, inr, refl, sym, ap, subst, arith}
use Rattle.std.specs.List.{slice_get}
use Rattle.std.proofs.lemmas.Bool.{cases_lt}
use Rattle.std.proofs.lemmas.Bool.Decides.{nat_tests}
use Rattle.bao_script.specs.declared.fault.ScriptFault.{ScriptFault}
use Rattle.bao_script.specs.declared.fault.ScriptFault.TheVariants as unread
use Rattle.bao_script.specs.declared.line.Line.{Line}
use Rattle.bao_script.specs.declared.numbered.NumberedLine.{NumberedLine}
use Rattle.bao_script.specs.Forms.{SaysLine}
use Rattle.bao_script.specs.Scripts.{AreRead, IsFirstRefused, IsRefusedLine, IsScript, numbered}
use Rattle.bao_script.specs.Words.{line_words, lines_of}
use Rattle.determined_program.proofs.Lines.{one_script}
use Rattle.determined_texts.specs.Agreeing.{AgreeButFor}

-- the first of lines that are read, if it isn't empty, says something; and the others are read
head_read : (files k : ℕ) (empty : Bool) (first : List ℕ) (rest : List (ℕ × List ℕ)) (said : List NumberedLine) → AreRead files (cond empty rest ((k, first) ∷ rest)) said
    → (empty ≡ true) ⊎ ((line : Line) × SaysLine files (line_words first) line)
head_read files k true first rest said read = inl refl
head_read files k false first rest said read = inr (read.0.line, read.4)

tail_read : (files k : ℕ) (empty : Bool) (first : List ℕ) (rest : List (ℕ × List ℕ)) (said : List NumberedLine) → AreRead files (cond empty rest ((k, first) ∷ rest)) said
    → (more : List NumberedLine) × AreRead files rest more
tail_read files k true first rest said read = (said, read)
tail_read files k false first rest said read = (read.1, read.5)

full : (line : List ℕ) → (length line == 0) ≡ true → 0 < length line → ⊥
full line e h = grind (arith, nat_tests)

-- of lines that are read none is refused
read_none : (files k : ℕ) (lines : List (List ℕ)) (said : List NumberedLine) (i : ℕ) (line : List ℕ) → AreRead files (numbered k lines) said → slice_get lines i ≡ Some line
    → IsRefusedLine files line → ⊥
read_none files k [] said i line read is refused = cc
read_none files k (first ∷ lines) said zero line read is refused =
    let same : first ≡ line = cc in
    elim (head_read files k (length first == 0) first (numbered (k + 1) lines) said read) [
      | inl e ↦ full first e (subst (λ (l : List ℕ). 0 < length l) (sym same) refused.0)
      | inr says ↦ refused.1 says.0 (subst (λ (l : List ℕ). SaysLine files (line_words l) says.0) same says.1)
    ]
read_none files k (first ∷ lines) said (suc i) line read is refused =
    let rest = tail_read files k (length first == 0) first (numbered (k + 1) lines) said read in read_none files (k + 1) lines rest.0 i line rest.1 is refused

at_take : (lines : List (List ℕ)) (i n : ℕ) (line : List ℕ) → i < n → slice_get lines i ≡ Some line → slice_get (take n lines) i ≡ Some line
at_take [] i n line below is = cc
at_take (first ∷ lines) i zero line below is = absurd (omega arith)
at_take (first ∷ lines) zero (suc n) line below is = is
at_take (first ∷ lines) (suc i) (suc n) line below is = at_take lines i n line (omega arith) is

not_before : (files : ℕ) (text : List ℕ) (m n : ℕ) (a : IsFirstRefused files text m) (b : IsFirstRefused files text n) → a.index < b.index → ⊥
not_before files text m n a b less =
    read_none files 1 (take b.index (lines_of text)) b.before a.index a.line b.read (at_take (lines_of text) a.index b.index a.line less a.line_is) a.refused

pub one_refused : (files : ℕ) (text : List ℕ) (m n : ℕ) → IsFirstRefused files text m → IsFirstRefused files text n → m ≡ n
one_refused files text m n a b = elim (cases_lt a.index b.index) [
  | inl less ↦ absurd (not_before files text m n a b less)
  | inr more ↦ elim (cases_lt b.index a.index) [
    | inl less ↦ absurd (not_before files text n m b a less)
    | inr even ↦ omega (arith, a.number_is, b.number_is)
  ]
]

pub refused_apart : (files : ℕ) (text : List ℕ) (n : ℕ) (said : List NumberedLine) → IsFirstRefused files text n → IsScript files text said → ⊥
refused_apart files text n said a read = read_none files 1 (lines_of text) said a.index a.line read a.line_is a.refused

pub readings_agree : (files : ℕ) (text : List ℕ) (r s : Result (List NumberedLine) ScriptFault) → IfOk r (IsScript files text) → IfOk s (IsScript files text)
    → ((n : ℕ) → r ≡ Err (unread.Line n) → IsFirstRefused files text n) → ((n : ℕ) → s ≡ Err (unread.Line n) → IsFirstRefused files text n) → AgreeButFor unread.Memory (λ x y. x ≡ y) r s
readings_agree files text (Ok x) (Ok y) p q bad worse = one_script files (numbered 1 (lines_of text)) x y p q
readings_agree files text (Ok x) (Err (unread.Line n)) p q bad worse = absurd (refused_apart files text n x (worse n refl) p)
readings_agree files text (Ok x) (Err unread.Memory) p q bad worse = refl
readings_agree files text (Err (unread.Line n)) (Ok y) p q bad worse = absurd (refused_apart files text n y (bad n refl) q)
readings_agree files text (Err unread.Memory) (Ok y) p q bad worse = refl
readings_agree files text (Err (unread.Line m)) (Err (unread.Line n)) p q bad worse = inl (ap (λ k. unread.Line k) (one_refused files text m n (bad m refl) (worse n refl)))
readings_agree files text (Err e) (Err unread.Memory) p q bad worse = inr (inr refl)
readings_agree files text (Err unread.Memory) (Err f) p q bad worse = inr (inl refl)
