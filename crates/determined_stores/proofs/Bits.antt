-- A mask with a bit set, and the others as they were.
use Rattle.std.proofs.Common.{◌≡◌, ◌≢◌, ℕ, ◌%◌, ◌^◌, ◌<◌, true, refl, sym, ap, ◌∙◌, inl, inr}
use Rattle.std.proofs.lemmas.Bool.{cases_eq}
use Rattle.store_core.specs.Masks.{has_bit}
use Rattle.store_core.proofs.Tells.{mask_unique}

bit_same : (mask j m n k : ℕ) → has_bit m j ≡ true → has_bit n j ≡ true → ((i : ℕ) → i ≢ j → has_bit m i ≡ has_bit mask i)
    → ((i : ℕ) → i ≢ j → has_bit n i ≡ has_bit mask i) → has_bit n k ≡ has_bit m k
bit_same mask j m n k a b rest others = elim (cases_eq k j) [
  | inl is ↦ ap (λ i. has_bit n i) is ∙ b ∙ sym a ∙ ap (λ i. has_bit m i) (sym is)
  | inr not ↦ others k not ∙ sym (rest k not)
]

pub bits_same : (mask j m n : ℕ) → m < 2 ^ 64 → n < 2 ^ 64 → has_bit m j ≡ true → has_bit n j ≡ true → ((i : ℕ) → i ≢ j → has_bit m i ≡ has_bit mask i)
    → ((i : ℕ) → i ≢ j → has_bit n i ≡ has_bit mask i) → m ≡ n
bits_same mask j m n small low a b rest others =
    mask_unique 0 m n (λ c. has_bit m (c % 64)) (record { small = small; bits = λ c e. refl }) (record { small = low; bits = λ c e. bit_same mask j m n (c % 64) a b rest others })
