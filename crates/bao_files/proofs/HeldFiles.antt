-- Files in memory, after one was put.
use Rattle.std.specs.Prelude.{◌≡◌, ℕ, List, Some, String, Vec, bytes_eq, string_bytes}
use Rattle.std.proofs.Common.{ap, refl, sym, ◌∙◌}
use Rattle.std.proofs.lemmas.Bool.{cond-false, cond-true, false_from_ne_true}
use Rattle.std.proofs.lemmas.Slice.Eq.{bytes_eq-Decides}
use Rattle.std.specs.BTreeMap.{BTreeMap, IsEmpty, get_by_text, is_at}
use Rattle.std.specs.Cmp.Lexicographic.{slice_cmp}
use Rattle.std.specs.Ordering.{nat_cmp}
use Rattle.std.specs.Map.{lookup, update}
use Rattle.bao_files.specs.Disks.{Absent, Puts}
use Rattle.bao_files.specs.HeldFiles.{held_at, state_of}

module _ {Y Z : Type 0} where
  -- the file is at the path, and the others are as they were
  pub puts_held : (old new : BTreeMap (String Y) (Vec ℕ Z)) (path : List ℕ) (file : Vec ℕ Z)
      → ((v : List ℕ) → get_by_text new v ≡ update bytes_eq (get_by_text old) path (Some file) v) → Puts (held_at old) (held_at new) path (Some file.items)
  puts_held old new path file sets = record {
    put = λ known. ap state_of (sets path ∙ cond-true (bytes_eq path path) (Some file) (get_by_text old path) ((bytes_eq-Decides path path).1 refl));
    kept = λ other differs.
        ap state_of (sets other ∙ cond-false (bytes_eq path other) (Some file) (get_by_text old other)
        (false_from_ne_true (bytes_eq path other) (λ same. differs (sym ((bytes_eq-Decides path other).0 same)))));
  }

  -- where there are no files none is at a path
  pub empty_held : (files : BTreeMap (String Y) (Vec ℕ Z)) (path : List ℕ) → IsEmpty files → held_at files path ≡ Absent
  empty_held files path empty = ap (λ (es : List (String Y × Vec ℕ Z)). state_of (lookup (is_at (λ k. slice_cmp nat_cmp path (string_bytes k))) es)) empty
