-- What is said line by line, as lines are added at the end.
use Rattle.std.proofs.Common.{◌≡◌, ◌∙◌, ℕ, ◌+◌, ◌<◌, ◌≤◌, suc, take, get_or, map, Bor, List, [], ◌∷◌, ◌++◌, length, Bool, true, false, cond, ◌==◌, ap, sym, subst, refl, add-zero, arith}
use Rattle.bao_script.specs.declared.numbered.NumberedLine.{NumberedLine}
use Rattle.bao_script.specs.Scripts.{AreRead, GainsLine, IsFirstRefused, IsRefusedLine, IsScript, numbered}
use Rattle.bao_script.specs.Slices.{NameFiles}
use Rattle.bao_script.specs.Words.{lines_of}
use Rattle.std.proofs.lemmas.List.{take_more, get_or-map, length-map}
use Rattle.std.proofs.lemmas.Option.{slice_get-get_or, slice_get-map}
use Rattle.std.specs.Option.{option_map}
use Rattle.std.proofs.lemmas.Grind.{common_steps}
use Rattle.std.specs.List.{slice_get}

numbered_after : (empty : Bool) (number : ℕ) (line : List ℕ) (lines more : List (ℕ × List ℕ))
    → cond empty (lines ++ more) ((number, line) ∷ lines ++ more) ≡ cond empty lines ((number, line) ∷ lines) ++ more
numbered_after true number line lines more = refl
numbered_after false number line lines more = refl

pub numbered-append : (number : ℕ) (lines more : List (List ℕ))
    → numbered number (lines ++ more) ≡ numbered number lines ++ numbered (number + length lines) more
numbered-append number [] more = ap (λ n. numbered n more) (sym (add-zero number))
numbered-append number (line ∷ lines) more =
    let rest : numbered (number + 1) (lines ++ more) ≡ numbered (number + 1) lines ++ numbered (number + suc (length lines)) more =
    numbered-append (number + 1) lines more ∙ ap (λ n. numbered (number + 1) lines ++ numbered n more) (omega arith)
    in
    rw rest (numbered_after (length line == 0) number line (numbered (number + 1) lines) (numbered (number + suc (length lines)) more))

pub read-append : (files : ℕ) (lines more : List (ℕ × List ℕ)) (said also : List NumberedLine)
    → AreRead files lines said → AreRead files more also → AreRead files (lines ++ more) (said ++ also)
read-append files [] more said also h k = let P : List NumberedLine → Type 0 = λ all. AreRead files more (all ++ also) in subst P (sym h) k
read-append files (line ∷ lines) more said also (first, rest, is, number, says, others) k =
    (first, rest ++ also, ap (λ all. all ++ also) is, number, says, read-append files lines more rest also others k)

-- the texts behind the references
abbrev pub texts : List (Bor (List ℕ)) → List (List ℕ)
texts lines = map (λ line. line.now) lines

text_at : (lines : List (Bor (List ℕ))) (i : ℕ) (d : Bor (List ℕ)) → i < length lines → get_or (texts lines) i d.now ≡ (get_or lines i d).now
text_at lines i d below = get_or-map (λ line. line.now) lines i d d.now below

place : {i n : ℕ} → n ≡ i → 1 + n ≡ i + 1
place h = omega arith

numbered_more : (lines : List (Bor (List ℕ))) (i : ℕ) (d : Bor (List ℕ)) → i < length lines
    → numbered 1 (take (i + 1) (texts lines)) ≡ numbered 1 (take i (texts lines)) ++ numbered (i + 1) ((get_or lines i d).now ∷ [])
numbered_more lines i d below =
    let long : i < length (texts lines) = simp length-map below in
    let count : length (take i (texts lines)) ≡ i = grind (arith, common_steps) in
    ap (numbered 1) (take_more (texts lines) i d.now long)
    ∙ numbered-append 1 (take i (texts lines)) (get_or (texts lines) i d.now ∷ [])
    ∙ ap (λ n. numbered 1 (take i (texts lines)) ++ numbered n (get_or (texts lines) i d.now ∷ [])) (place count)
    ∙ ap (λ line. numbered 1 (take i (texts lines)) ++ numbered (i + 1) (line ∷ [])) (text_at lines i d below)

pub read_more : (files : ℕ) (lines : List (Bor (List ℕ))) (i : ℕ) (d : Bor (List ℕ)) (old new : List NumberedLine) → i < length lines
    → AreRead files (numbered 1 (take i (texts lines))) old → GainsLine files old new (i + 1) (get_or lines i d).now
    → AreRead files (numbered 1 (take (i + 1) (texts lines))) new
read_more files lines i d old new below h (more, is, k) =
    let read : AreRead files (numbered 1 (take i (texts lines)) ++ numbered (i + 1) ((get_or lines i d).now ∷ [])) (old ++ more) =
    read-append files (numbered 1 (take i (texts lines))) (numbered (i + 1) ((get_or lines i d).now ∷ [])) old more h k
    in
    rw is (rw (numbered_more lines i d below) read)

pub refused_at : (files : ℕ) (text : List ℕ) (lines : List (Bor (List ℕ))) (i number : ℕ) (d : Bor (List ℕ)) (before : List NumberedLine)
    → texts lines ≡ lines_of text → i < length lines → AreRead files (numbered 1 (take i (texts lines))) before
    → number ≡ i + 1 → IsRefusedLine files (get_or lines i d).now → IsFirstRefused files text number
refused_at files text lines i number d before is below h number_is refused =
    let P : List (List ℕ) → Type 0 = λ all. AreRead files (numbered 1 (take i all)) before in
    record {
      index = i;
      number_is = number_is;
      before = before;
      read = subst P is h;
      line = (get_or lines i d).now;
      line_is =
          ap (λ all. slice_get all i) (sym is) ∙ slice_get-map (λ line. line.now) lines i
          ∙ ap (option_map (λ line. line.now)) (slice_get-get_or lines i d below);
      refused = refused;
    }

pub all_read : (files : ℕ) (text : List ℕ) (lines : List (Bor (List ℕ))) (i : ℕ) (said : List NumberedLine)
    → texts lines ≡ lines_of text → length lines ≤ i → AreRead files (numbered 1 (take i (texts lines))) said
    → IsScript files text said
all_read files text lines i said is over h =
    let whole : take i (texts lines) ≡ texts lines = grind (arith, common_steps, length-map) in
    let P : List (List ℕ) → Type 0 = λ all. AreRead files (numbered 1 all) said in
    subst P (whole ∙ is) h

-- what is read names files that were given
pub names_files : (files : ℕ) (lines : List (ℕ × List ℕ)) (said : List NumberedLine) → AreRead files lines said → NameFiles files said
names_files files [] said h = let P : List NumberedLine → Type 0 = NameFiles files in subst P (sym h) tt
names_files files (line ∷ lines) said (first, rest, is, number, says, others) =
    let P : List NumberedLine → Type 0 = NameFiles files in subst P (sym is) (says.3, names_files files lines rest others)
