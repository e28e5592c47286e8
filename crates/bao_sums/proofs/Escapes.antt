-- A path, from the way in which a line has it.
use Rattle.std.proofs.Common.{◌≡◌, ℕ, ◌==◌, Bool, true, false, if◌then◌else◌, List, [], ◌∷◌, ◌++◌, ◌||◌, inl, inr, ap, refl, ◌∙◌, arith}
use Rattle.std.proofs.lemmas.Bool.{cases_eq}
use Rattle.std.specs.List.{list_any}
use Rattle.bao_sums.specs.Sums.{escaped, escaped_byte, is_special}

-- the bytes that are written so; `second` says that a backslash came before
abbrev pub unescaped_from : Bool → List ℕ → List ℕ
unescaped_from second [] = []
unescaped_from true (byte ∷ rest) = (if byte == 110 then 10 else byte) ∷ unescaped_from false rest
unescaped_from false (byte ∷ rest) = if byte == 92 then unescaped_from true rest else byte ∷ unescaped_from false rest

byte_back : (byte : ℕ) (rest : List ℕ) → unescaped_from false (escaped_byte byte ++ rest) ≡ byte ∷ unescaped_from false rest
byte_back byte rest = elim (cases_eq byte 92) [
  | inl is ↦ rw is refl
  | inr other ↦ elim (cases_eq byte 10) [
    | inl is ↦ rw is refl
    | inr plain ↦ grind arith
  ]
]

pub path_back : (path : List ℕ) → unescaped_from false (escaped path) ≡ path
path_back [] = refl
path_back (byte ∷ path) = byte_back byte (escaped path) ∙ ap (λ (t : List ℕ). byte ∷ t) (path_back path)

or_false : (a b : Bool) → (a || b) ≡ false → (a ≡ false) × (b ≡ false)
or_false true b is = cc is
or_false false b is = (refl, is)

plain_byte : (byte : ℕ) → is_special byte ≡ false → escaped_byte byte ≡ byte ∷ []
plain_byte byte plain = grind arith

-- a path without such a byte is written as it is
pub plain_path : (path : List ℕ) → list_any is_special path ≡ false → escaped path ≡ path
plain_path [] plain = refl
plain_path (byte ∷ path) plain =
    let parts = or_false (is_special byte) (list_any is_special path) plain in
    ap (λ (t : List ℕ). t ++ escaped path) (plain_byte byte parts.0) ∙ ap (λ (t : List ℕ). byte ∷ t) (plain_path path parts.1)

pub none_left : (second : Bool) → unescaped_from second [] ≡ []
none_left true = refl
none_left false = refl
