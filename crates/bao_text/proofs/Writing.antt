-- An encoding that is written in parts.
use Rattle.std.proofs.Common.{◌≡◌, ℕ, ◌+◌, ◌-◌, List, ◌++◌, length, take, Option, Result, Ok, Err, arith, length-append}
use Rattle.std.proofs.KnownBytes.{Appends-trans}
use Rattle.std.proofs.Math.Seq.{take-add, take-append-add}
use Rattle.std.proofs.lemmas.List.{take-append-le, take_rest}
use Rattle.std.specs.Io.KnownBytes.{Appends}
use Rattle.bao_text.specs.declared.fault.WriteFault.{WriteFault}
use Rattle.bao_text.specs.declared.fault.WriteFault.TheVariants.{Memory, Writer}
use Rattle.bao_text.specs.Faults.{Writes, WroteOnly}

-- the first part was not written whole
pub Writes-first : (before : ℕ) (old new : Option (List ℕ)) (a b : List ℕ) (fault : WriteFault) → Writes before old new a (Err fault) → Writes before old new (a ++ b) (Err fault)
Writes-first before old new a b Memory h = h
Writes-first before old new a b (Writer written) h =
    let short : take (written - before) (a ++ b) ≡ take (written - before) a = take-append-le (written - before) a b (omega (arith, h.1)) in
    (h.0, omega (arith, h.1, length-append a b), rw short h.2)

-- the first part was, and then came the rest
pub Writes-rest : (before gone : ℕ) (old mid new : Option (List ℕ)) (a b : List ℕ) (result : Result Unit WriteFault) → gone ≡ before + length a
    → Appends old mid a → Writes gone mid new b result → Writes before old new (a ++ b) result
Writes-rest before gone old mid new a b (Ok done) at h k = Appends-trans old mid new a b h k
Writes-rest before gone old mid new a b (Err Memory) at h k = k
Writes-rest before gone old mid new a b (Err (Writer written)) at h k =
    let count : written - before ≡ length a + (written - gone) = omega (arith, k.0) in
    let both : take (written - before) (a ++ b) ≡ a ++ take (written - gone) b = rw count (take-append-add a b (written - gone)) in
    (omega (arith, k.0), omega (arith, k.0, k.1, length-append a b), rw both (Appends-trans old mid new a (take (written - gone) b) h k.2))

-- nothing went out before
pub WroteOnly-Writes : (old new : Option (List ℕ)) (text : List ℕ) (fault : WriteFault) → Writes 0 old new text (Err fault) → WroteOnly old new text fault
WroteOnly-Writes old new text Memory h = absurd h
WroteOnly-Writes old new text (Writer written) h =
    let whole : written - 0 ≡ written = omega arith in
    (omega (arith, h.1), rw whole at h.2)

-- one write after another
pub ruleset writes = (Appends-trans, take-add, take_rest)
