-- Accepted slices as pieces, and holders that give nothing but a blob's slices.
use Rattle.holders.proofs.Common.{◌≡◌, ℕ, ◌-◌, ◌^◌, List, Mode, IsPiece, Checked, piece_of}
use Rattle.holders.specs.declared.grain.Grain.{Grain}
use Rattle.holders.specs.Available.{HasSlice, HasTrue, HaveSlices}

-- the piece that it is
pub piece_is : (base : ℕ) (it : Checked) (mode : Mode) (root : List ℕ) (start len : ℕ) (text : List ℕ) → IsPiece it mode root start len text
    → piece_of base it ≡ record { base = base; start = start; len = len; text = text }
piece_is base it mode root start len text is = λ i. record { base = base; start = is.start_is i; len = is.len_is i; text = is.text_is i }

-- one that gives nothing but the slices of a blob gives each
true_slice : {H : Type 0} (gives : H → ℕ → ℕ → List ℕ → Type 0) (mode : Mode) (blob : List ℕ) (start len : ℕ) (holders : List H) → HasTrue gives mode blob holders
    → HasSlice gives mode blob start len holders
true_slice gives mode blob start len holders has =
    record { place = has.place; holder = has.holder; there = has.there; gives_slice = λ text is. has.gives_slices start len text is }

pub true_slices : {H : Type 0} (grain : Grain) (gives : H → ℕ → ℕ → List ℕ → Type 0) (mode : Mode) (blob : List ℕ) (holders : List H) → HasTrue gives mode blob holders
    → HaveSlices grain gives mode blob holders
true_slices grain gives mode blob holders has = record {
  end = true_slice gives mode blob (2 ^ 64 - 1) 1 holders has;
  each = λ c start len below asked. true_slice gives mode blob start len holders has;
}
