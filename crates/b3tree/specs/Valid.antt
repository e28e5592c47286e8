-- What the values of the types satisfy: in a clause a variable of type ℕ ranges over all numbers.
use Rattle.std.specs.Prelude.{ℕ, ◌^◌, ◌<◌, List, slice_index}
use Rattle.b3word.specs.Words.{AreWords}
use Rattle.b3tree.specs.declared.mode.Mode.{Mode}
use Rattle.b3tree.specs.Modes.{key_words, mode_flags}

-- each of these numbers is a byte
pub record AreBytes (xs : List ℕ) : Type 0 where
  pub at : (k : ℕ) → slice_index xs k < 256

-- the mode's key is made of words, and its flags are one
pub record IsKeyed (mode : Mode) : Type 0 where
  pub key : AreWords (key_words mode)
  pub flags : mode_flags mode < 2 ^ 32
