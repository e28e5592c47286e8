-- The steps that the lines of a script stand for.
use Rattle.std.specs.Prelude.{ℕ, ◌+◌, List, [], ◌∷◌, map}
use Rattle.std.specs.List.{range_with_len}
use Rattle.store_core.specs.declared.micro.MicroStep.{MicroStep}
use Rattle.store_core.specs.declared.micro.MicroStep.TheVariants as steps
use Rattle.bao_script.specs.declared.line.Line.{Line}
use Rattle.bao_script.specs.declared.numbered.NumberedLine.{NumberedLine}
use Rattle.bao_script.specs.declared.line.Line.TheVariants.{Claim, Hash, Write, Fill, Publish, Give, Load, Settle, Length}

-- the writes of words 0 to 128 of a chunk's cell, in order
unfoldable pub fill_steps : ℕ → ℕ → List MicroStep
fill_steps seat chunk = map (λ word. steps.Write seat chunk word) (range_with_len 0 129)

-- the steps of a line; its slice, if it has one, is the one with this index in the list
abbrev pub steps_of : ℕ → Line → List MicroStep
steps_of piece (Claim seat group want) = steps.Claim seat group want ∷ []
steps_of piece (Hash seat file start len) = steps.Hash seat piece ∷ []
steps_of piece (Write seat chunk word) = steps.Write seat chunk word ∷ []
steps_of piece (Fill seat chunk) = fill_steps seat chunk
steps_of piece (Publish seat group) = steps.Publish seat group ∷ []
steps_of piece (Give seat group mask) = steps.GiveBack seat group mask ∷ []
steps_of piece (Load seat at len) = steps.Load seat at len ∷ []
steps_of piece (Settle seat) = steps.Settle seat ∷ []
steps_of piece (Length seat) = steps.Length seat ∷ []

-- how many slices of the list are the line's own
abbrev pub pieces_in : Line → ℕ
pieces_in (Hash seat file start len) = 1
pieces_in line = 0

abbrev pub pieces_among : List NumberedLine → ℕ
pieces_among [] = 0
pieces_among (line ∷ lines) = pieces_in line.line + pieces_among lines
