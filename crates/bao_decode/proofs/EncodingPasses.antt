-- An encoding that is verified in blocks, and written as it stands.
use Rattle.std.proofs.Common.{◌≡◌, ℕ, ◌+◌, ◌-◌, ◌^◌, ◌<◌, ◌≤◌, List, [], ◌++◌, length, drop, Option, Some, None, IfSome, sym, ap, subst, ◌∙◌, arith, length-append}
use Rattle.std.proofs.KnownBytes.{Appends-trans}
use Rattle.std.proofs.lemmas.List.{append_assoc}
use Rattle.std.specs.Io.KnownBytes.{Appends}
use Rattle.b3tree.specs.declared.mode.Mode.{Mode}
use Rattle.b3tree.specs.Valid.{AreBytes}
use Rattle.b3tree.proofs.BlockWords.{AreBytes-append}
use Rattle.bao_text.specs.Cut.{claimed}
use Rattle.bao_text.specs.declared.fault.WriteFault.{WriteFault}
use Rattle.bao_text.specs.Faults.{WroteOnly}
use Rattle.bao_check.specs.declared.checking.Checking.{Checking}
use Rattle.bao_check.proofs.Subtrees.{claimed-append}
use Rattle.bao_check.specs.Checking.{HasDecodedAs}
use Rattle.bao_check.specs.Waiting.{CheckTask, IsAcceptedAs}
use Rattle.bao_text.specs.declared.kinds.Part.{Part}
use Rattle.bao_files.specs.Printed.{AppendsBeginning}
use Rattle.b3par.specs.Given.{GivenAt}
use Rattle.bao_decode.specs.declared.copy_pass.PassFault.{PassFault}
use Rattle.bao_decode.specs.declared.copy_pass.PassFault.TheVariants.{Check, Input, Output}
use Rattle.bao_decode.specs.Ranges.{first_written, last_written, written_count}
use Rattle.bao_decode.specs.TextPass.{EncodingStops, IsWholeText, StopsAs, task_of_part}
use Rattle.bao_decode.proofs.Ranges.{begins}
use Rattle.bao_decode.proofs.TextPasses.{given_more, known_all, rest_of}

-- contents that end before their length does
pub short_known : (contents : Option (List ℕ)) (count : ℕ) → count < 8 → IfSome contents (λ s. length s ≤ 0 + count) → IfSome contents (λ s. length s < 8)
short_known None count less h = tt
short_known (Some s) count less h = omega (arith, h, less)

module _ (mode : Mode) (root : List ℕ) (part : Part) where
  abbrev our_task : CheckTask
  our_task = task_of_part mode root part

  -- the encoding's first bytes were taken, and written
  pub record IsCopied (contents : Option (List ℕ)) (first last : ℕ) (check : Checking) (at : ℕ) (old new : Option (List ℕ)) (text blob : List ℕ) : Type 0 where
    pub decodes : HasDecodedAs check our_task text blob
    pub at_is : at ≡ length text
    pub long : 8 ≤ length text
    pub each : AreBytes text
    pub given : GivenAt contents 0 text
    pub first_is : first ≡ first_written part (claimed text)
    pub last_is : last ≡ last_written part (claimed text)
    pub written : Appends old new text

  pub copied_none : (contents : Option (List ℕ)) (total first last : ℕ) (check : Checking) (old new : Option (List ℕ)) (header : List ℕ) → length header ≡ 8 → AreBytes header → GivenAt contents 0 header
      → HasDecodedAs check our_task header [] → total ≡ claimed header → first ≡ first_written part total → last ≡ last_written part total → Appends old new header
      → IsCopied contents first last check 8 old new header []
  copied_none contents total first last check old new header size bytes given it is first_is last_is wrote = record {
    decodes = it;
    at_is = sym size;
    long = omega (arith, size);
    each = bytes;
    given = given;
    first_is = first_is ∙ ap (first_written part) is;
    last_is = last_is ∙ ap (last_written part) is;
    written = wrote;
  }

  -- a block more
  pub copied_more : (contents : Option (List ℕ)) (first last : ℕ) (check after : Checking) (at taken : ℕ) (old mid new : Option (List ℕ)) (text blob more piece : List ℕ)
      → IsCopied contents first last check at old mid text blob → length more ≡ taken → AreBytes more → GivenAt contents at more → HasDecodedAs after our_task (text ++ more) (blob ++ piece)
      → Appends mid new more → IsCopied contents first last after (at + taken) old new (text ++ more) (blob ++ piece)
  copied_more contents first last check after at taken old mid new text blob more piece it size bytes given next wrote =
      let claims : claimed (text ++ more) ≡ claimed text = claimed-append text more it.long in
      record {
        decodes = next;
        at_is = omega (arith, it.at_is, size, length-append text more);
        long = omega (arith, it.long, length-append text more);
        each = AreBytes-append text more it.each bytes;
        given = given_more contents text more at it.at_is it.given given;
        first_is = it.first_is ∙ ap (first_written part) (sym claims);
        last_is = it.last_is ∙ ap (last_written part) (sym claims);
        written = Appends-trans old mid new text more it.written wrote;
      }

  -- a beginning was written
  copied_beginning : (s : List ℕ) (first last : ℕ) (check : Checking) (at : ℕ) (old new : Option (List ℕ)) (text blob : List ℕ) → IsCopied (Some s) first last check at old new text blob
      → AppendsBeginning old new s
  copied_beginning s first last check at old new text blob it = (length text, subst (Appends old new) it.given it.written)

  -- where a block was
  pub copied_stops : (contents : Option (List ℕ)) (faultless : Type 0) (first last : ℕ) (check : Checking) (at : ℕ) (old new : Option (List ℕ)) (text blob : List ℕ) (fault : PassFault)
      → IsCopied contents first last check at old new text blob → IfSome contents (λ s. StopsAs our_task faultless s fault)
      → IfSome contents (λ s. EncodingStops our_task faultless s old new fault)
  copied_stops None faultless first last check at old new text blob fault it stops = tt
  copied_stops (Some s) faultless first last check at old new text blob (Check fault) it stops = (stops, copied_beginning s first last check at old new text blob it)
  copied_stops (Some s) faultless first last check at old new text blob Input it stops = (stops, copied_beginning s first last check at old new text blob it)
  copied_stops (Some s) faultless first last check at old new text blob Output it stops = absurd stops

  -- and where a write failed
  pub more_output : (contents : Option (List ℕ)) (faultless : Type 0) (at : ℕ) (old mid new : Option (List ℕ)) (text more : List ℕ) (fault : WriteFault)
      → at ≡ length text → GivenAt contents 0 text → Appends old mid text → GivenAt contents at more → WroteOnly mid new more fault
      → IfSome contents (λ s. EncodingStops our_task faultless s old new Output)
  more_output None faultless at old mid new text more fault at_is before had given wrote = tt
  more_output (Some s) faultless at old mid new text more fault at_is before had given wrote =
      let rest : List ℕ = drop (length (text ++ more)) s in
      let all : s ≡ text ++ (more ++ rest) = sym (rest_of s (text ++ more) (given_more (Some s) text more at at_is before given)) ∙ append_assoc text more rest in
      begins old mid new text more rest s fault all had wrote

  -- all of it
  pub copied_all : (contents : Option (List ℕ)) (first last : ℕ) (check : Checking) (at : ℕ) (old new : Option (List ℕ)) (text blob : List ℕ)
      → IsCopied contents first last check at old new text blob → IsAcceptedAs our_task text → IfSome contents (λ s. length s ≤ at) → at ≤ 2 ^ 63
      → (x : List ℕ) × IsWholeText contents mode root part x × (last - first ≡ written_count part x) × Appends old new x
  copied_all contents first last check at old new text blob it accepted ends fits = (
    text,
    record { accepted = accepted; each = it.each; fits = omega (arith, fits, it.at_is); known = known_all contents text at it.at_is it.given ends },
    (λ i. it.last_is i - it.first_is i),
    it.written,
  )
