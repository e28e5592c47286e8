-- The lines that replies are printed as.
use Rattle.std.specs.Prelude.{ℕ, List, [], ◌∷◌, ◌++◌, Option, None, Some, codes}
use Rattle.std.specs.Fmt.{decimal}
use Rattle.hex.specs.Hex.{encode_lower}
use Rattle.store_core.specs.declared.history.Settling.{Settling as Answer}
use Rattle.store_core.specs.declared.history.Settling.TheVariants.{Settled, Known, Differs, OtherRoot, TooLarge}
use Rattle.store_core.specs.declared.micro.Reply.{Reply}
use Rattle.store_core.specs.declared.micro.Reply.TheVariants.{Granted, Committed, Given, Bytes, NotHeld, Settling, LengthIs}

abbrev pub bytes_text : List ℕ → List ℕ
bytes_text [] = codes "bytes"
bytes_text (byte ∷ bytes) = codes "bytes " ++ encode_lower (byte ∷ bytes)

-- the result of settling a length; with a slice of another root there is no step
abbrev pub settling_text : Answer → List ℕ
settling_text Settled = codes "settled"
settling_text Known = codes "known"
settling_text Differs = codes "differs"
settling_text OtherRoot = codes "otherroot"
settling_text TooLarge = codes "toolarge"

abbrev pub length_reply_text : Option ℕ → List ℕ
length_reply_text None = codes "length none"
length_reply_text (Some length) = codes "length " ++ decimal length

abbrev pub reply_text : Reply → List ℕ
reply_text (Granted mask) = codes "granted " ++ decimal mask
reply_text (Committed mask) = codes "committed " ++ decimal mask
reply_text (Given mask) = codes "given " ++ decimal mask
reply_text (Bytes bytes) = bytes_text bytes
reply_text (NotHeld position) = codes "missing " ++ decimal position
reply_text (Settling answer) = settling_text answer
reply_text (LengthIs length) = length_reply_text length

-- the printed reply to the line with this number
abbrev pub reply_line : ℕ → Reply → List ℕ
reply_line number reply = decimal number ++ codes " " ++ reply_text reply ++ codes "\n"

-- the printed number of chunks held at the end
abbrev pub held_line : ℕ → List ℕ
held_line count = codes "held " ++ decimal count ++ codes "\n"
