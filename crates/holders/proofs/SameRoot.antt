-- What it is for a root and a mode to be a store's.
use Rattle.std.proofs.lemmas.Bool.Decides.{nat_tests}
use Rattle.std.proofs.Common.{arith, ◌≡◌, ℕ, ◌%◌, ◌==◌, Bool, true, List, ap, subst, ◌∙◌, IsTrue, bytes_eq, ◌&&◌}
use Rattle.std.proofs.lemmas.Slice.Eq.{bytes_eq-Decides}
use Rattle.b3tree.specs.declared.mode.Mode.{Mode}
use Rattle.b3tree.specs.declared.values.Hash.{Hash}
use Rattle.b3tree.specs.Modes.{mode_with}
use Rattle.b3tree.proofs.SameMode.{same_mode}

mode_path : (key key' : List ℕ) → key ≡ key' → (d d' : ℕ) → d ≡ d' → (a : d % 16 ≡ 0) (b : d' % 16 ≡ 0) → mode_with key d a ≡ mode_with key' d' b
mode_path key key' e d d' f a b =
    subst (λ (x : ℕ). (p : x % 16 ≡ 0) → mode_with key d a ≡ mode_with key x p) f (λ p. same_mode key d a p) b ∙ ap (λ (k : List ℕ). mode_with k d' b) e

modes_same : (m n : Mode) → m.key ≡ n.key → m.domain ≡ n.domain → m ≡ n
modes_same m n e f = mode_path m.key n.key e m.domain n.domain f m.apart n.apart

-- the test of a hash and of a mode, as it is derived
pub is_of : (root other : Hash) (mode another : Mode) (r s : Bool) → r ≡ true → r ≡ bytes_eq root.0 other.0
    → s ≡ (bytes_eq mode.key another.key && (mode.domain == another.domain))
    → (IsTrue s → (root ≡ other) × (mode ≡ another)) × ((root ≡ other) × (mode ≡ another) → IsTrue s)
is_of root other mode another r s holds e f = grind (arith, nat_tests, bytes_eq, bytes_eq-Decides, modes_same)
