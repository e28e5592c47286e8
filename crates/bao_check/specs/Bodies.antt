-- The encoding of a slice, from what it is read from.
use Rattle.std.specs.Prelude.{ℕ, ◌*◌, ◌/◌, List}
use Rattle.std.specs.Coded.{Coded-set, coded_ℕ, le_prop}
use Rattle.bao_check.specs.declared.checked.Body.{Body}
use Rattle.bao_check.specs.declared.checked.Body.TheVariants.{Text, Beside}
use Rattle.bao_check.specs.Beside.{IsOfChunks, beside_text}
use Rattle.bao_check.specs.Outline.{outline_claimed, outline_text}

-- the encoding as it was given, or the one that an outline and the chunks beside it make
abbrev pub text_of : Body → ℕ → ℕ → List ℕ
text_of (Text text) start len = text.now
text_of (Beside outline chunks) start len = beside_text (outline_text outline.now) start len chunks.now

-- if the slice is given as chunks, it consists of whole chunks
abbrev pub IsOfWhole : Body → ℕ → ℕ → Type 0
IsOfWhole (Text text) start len = Unit {0}
IsOfWhole (Beside outline chunks) start len = IsOfChunks (outline_claimed outline.now) start len

-- at most one proof, as a ghost field that says it has to have
IsOfChunks-prop : (total start len : ℕ) → IsProp (IsOfChunks total start len)
IsOfChunks-prop total start len =
    let starts = Coded-set coded_ℕ (1024 * (start / 1024)) start in
    Prim.hlevel (starts, le_prop, le_prop)

pub IsOfWhole-prop : (body : Body) (start len : ℕ) → IsProp (IsOfWhole body start len)
IsOfWhole-prop (Text text) start len = Prim.hlevel
IsOfWhole-prop (Beside outline chunks) start len = IsOfChunks-prop (outline_claimed outline.now) start len
