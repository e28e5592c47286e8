-- The bytes of the files that a blob is gathered from.
use Rattle.std.specs.Prelude.{ℕ, ◌+◌, ◌-◌, ◌^◌, min, List, Option, Some}
use Rattle.bao_tasks.specs.declared.given.Given.{Given}
use Rattle.bao_tasks.specs.declared.given.Given.TheVariants.{Placed, Held}
use Rattle.bao_files.specs.declared.shown.Shown.{Shown}
use Rattle.bao_text.specs.Nodes.{subtree_size}
use Rattle.holders.specs.declared.form.Form.{Form}
use Rattle.holders.specs.declared.form.Form.TheVariants.{Slices, Bare}

-- the bytes of a file, if they are known, or those that are held in memory
abbrev pub given_contents : {I : Type 0} → (I → Option (List ℕ)) → Given I → Option (List ℕ)
given_contents contents (Placed file) = contents file
given_contents contents (Held text) = Some text.items

-- no read of it fails
abbrev pub is_given_faultless : {I : Type 0} → (I → Type 0) → Given I → Type 0
is_given_faultless faultless (Placed file) = faultless file
is_given_faultless faultless (Held text) = Unit {0}

-- How many bytes of a file can help, for a blob of at most `n` bytes: those of the longest encoding, or plain copy, and one more, by which a longer file is
-- told; fewer than 2^64.
abbrev pub most_bytes : Form → ℕ → ℕ
most_bytes Slices n = min (8 + subtree_size n + 1) (2 ^ 64 - 1)
most_bytes (Bare outline) n = min (n + 1) (2 ^ 64 - 1)

-- a file whose reads are reported has the same bytes and faults
abbrev pub shown_contents : {S P : Type 0} → (S → Option (List ℕ)) → Shown S P → Option (List ℕ)
shown_contents contents shown = contents shown.source

abbrev pub shown_faultless : {S P : Type 0} → (S → Type 0) → Shown S P → Type 0
shown_faultless faultless shown = faultless shown.source
