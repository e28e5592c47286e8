-- the line that shows how far a read has come
use Rattle.std.specs.Prelude.{ℕ, ◌-◌, ◌*◌, ◌/◌, List, [], ◌∷◌, ◌++◌, codes, nat_le, nat_lt, if◌then◌else◌}
use Rattle.std.specs.Fmt.{decimal}

-- how many of several files are done
abbrev pub files_shown : ℕ → ℕ → List ℕ
files_shown done files =
    if nat_lt 1 files then decimal done ++ (codes " of " ++ (decimal files ++ codes " files, ")) else []

-- the mean rate, and the seconds that the bytes left take at that rate, from one byte a millisecond on
abbrev pub pace_shown : ℕ → ℕ → ℕ → List ℕ
pace_shown done left millis =
    if nat_le millis done then
    codes ", " ++ (decimal (done / 1048576 * 1000 / millis) ++ (codes " MiB/s, "
    ++ (decimal (left / (done / millis) / 1000) ++ codes " s left")))
    else []

-- from the line's start on, after so many milliseconds of work, and nothing after it; `done` and `total` are bytes
abbrev pub progress_line : (files_done files done total millis : ℕ) → List ℕ
progress_line files_done files done total millis =
    13 ∷ (files_shown files_done files
    ++ (decimal (done / 1048576) ++ (codes " of " ++ (decimal (total / 1048576) ++ (codes " MiB read"
    ++ (pace_shown done (total - done) millis ++ 27 ∷ codes "[K"))))))
