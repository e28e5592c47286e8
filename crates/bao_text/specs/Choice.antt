-- Which positions of a blob an encoding covers (Bao specification, on encodings and slices).
use Rattle.std.specs.Prelude.{ℕ, ◌+◌, ◌-◌, ◌/◌, max, min, nat_lt, Bool, true, false, ◌&&◌}
use Rattle.bao_text.specs.declared.choice.Choice.{Choice}

-- how many chunks n bytes have: no bytes are one empty chunk
abbrev pub chunk_count : ℕ → ℕ
chunk_count n = max 1 ((n + 1023) / 1024)

-- A slice (start, len) of a blob of `total` bytes wants the positions from `slice_start` on, up to and
-- without `slice_end`. A length of 0 counts as 1, and a start at or past the end is the last position.
abbrev pub slice_start : ℕ → ℕ → ℕ
slice_start total start = min start (max total 1 - 1)

abbrev pub slice_end : ℕ → ℕ → ℕ → ℕ
slice_end total start len = max (slice_start total start + 1) (min (start + max len 1) total)

-- what a slice covers: its positions, with the chunks
abbrev pub of_slice : ℕ → ℕ → ℕ → Choice
of_slice total start len = record { start = slice_start total start; end = slice_end total start len; chunks = true }

-- what a combined encoding covers: everything
abbrev pub of_combined : ℕ → Choice
of_combined total = record { start = 0; end = max total 1; chunks = true }

-- what an outboard encoding covers: everything but the chunks
abbrev pub of_outboard : ℕ → Choice
of_outboard total = record { start = 0; end = max total 1; chunks = false }

-- no position
abbrev pub of_nothing : Choice
of_nothing = record { start = 0; end = 0; chunks = false }

-- whether the choice wants any of the n bytes from position `at` on; an n of 0 counts as 1
abbrev pub wants : Choice → ℕ → ℕ → Bool
wants choice at n = nat_lt at choice.end && nat_lt choice.start (at + max n 1)
