-- A piece of an input that is read again, ahead of its writing.
use Rattle.std.specs.Prelude.{◌≡◌, ℕ, ◌*◌, List, ◌++◌, length, Option, None, Ok, IfOk, IfSome}
use Rattle.b3tree.specs.declared.mode.Mode.{Mode}
use Rattle.b3tree.specs.Tree.{subtree_cv}
use Rattle.b3tree.specs.Valid.{AreBytes}
use Rattle.b3par.specs.Given.{GivenAt}
use Rattle.bao_text.specs.declared.choice.Choice.{Choice}
use Rattle.bao_text.specs.Texts.{subtree_text}
use Rattle.bao_files.specs.declared.ahead.ReadAhead.{ReadAhead}
use Rattle.bao_files.specs.declared.ahead.Parts.{Parts}
use Rattle.bao_files.specs.declared.ahead.Pieces.{Pieces}

-- the text is the encoding of so many bytes, whose first chunk has the number `first`: they have this value, and are the contents' where those
-- are known
pub record IsPieceOf (contents : Option (List ℕ)) (choice : Choice) (mode : Mode) (first len : ℕ) (value text : List ℕ) : Type 0 where
  pub bytes : List ℕ
  pub are : AreBytes bytes
  pub len_is : length bytes ≡ len
  pub given : GivenAt contents (1024 * first) bytes
  pub value_is : subtree_cv mode first bytes ≡ value
  pub text_is : text ≡ subtree_text choice mode first bytes

-- nothing was read yet
abbrev pub IsUnread : ReadAhead → Type 0
IsUnread it = it.value ≡ Ok None

abbrev pub AreUnread : Pieces → Type 0
AreUnread it = IsUnread it.now × IsUnread it.next

-- all of an encoding that is in parts
abbrev pub all_of : Parts → List ℕ
all_of text = text.parent.items ++ (text.near.items ++ text.far.items)

-- what was read, if it was, is of the place and has the value that is noted
abbrev pub IsRead : Option (List ℕ) → Choice → Mode → ReadAhead → Type 0
IsRead contents choice mode it = IfOk it.value (λ made. IfSome made (λ value. IsPieceOf contents choice mode it.first it.len value.0 (all_of it.text)))

abbrev pub AreRead : Option (List ℕ) → Choice → Mode → Pieces → Type 0
AreRead contents choice mode it = IsRead contents choice mode it.now × IsRead contents choice mode it.next
