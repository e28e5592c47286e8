-- What two looks for the bytes that no source has have in common.
use Rattle.std.specs.Prelude.{◌≡◌}
use Rattle.bao_tasks.specs.declared.missing.Lack.{Lack}
use Rattle.bao_tasks.specs.declared.missing.Lack.TheVariants.{End, Missing}
use Rattle.bao_tasks.specs.declared.missing.MissingParts.{MissingParts}

abbrev pub SameParts : MissingParts → MissingParts → Type 0
SameParts a b = (a.looked ≡ b.looked) × (a.shown.items ≡ b.shown.items) × (a.count ≡ b.count) × (a.bytes ≡ b.bytes)

-- The same parts of a blob of one length, certified or claimed, or there is no length; memory may run out at any time.
abbrev pub SameLack : Lack → Lack → Type 0
SameLack (Missing a) (Missing b) = (a.total ≡ b.total) × (a.certified ≡ b.certified) × SameParts a b
SameLack (Missing a) End = ⊥
SameLack End (Missing b) = ⊥
SameLack one other = Unit {0}
