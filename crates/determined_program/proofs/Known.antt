-- What two runs of one command line print and write, over the same known files.
use Rattle.std.specs.Borrow.{Bor}
use Rattle.std.proofs.Common.{◌≡◌, ◌++◌, ◌^◌, ◌<◌, ℕ, zero, suc, List, [], ◌∷◌, map, length, get_or, slice_get, Option, None, Some, Ok, IfSome, inl, inr, refl, ap, sym, subst, ◌∙◌}
use Rattle.std.specs.Option.{option_copied}
use Rattle.std.proofs.lemmas.Option.{same_Some}
use Rattle.std.specs.Io.KnownBytes.{Appends}
use Rattle.b3tree.specs.declared.mode.Mode.{Mode}
use Rattle.b3tree.specs.declared.values.Hash.{Hash as Root32}
use Rattle.b3tree.specs.Hashing.{hash, stream}
use Rattle.b3tree.specs.Modes.{keyed}
use Rattle.clap.specs.Words.{Text, subcommand_of}
use Rattle.bao_text.specs.Cut.{cut_text}
use Rattle.bao_files.specs.Disks.{AreOf, FileState, IsKnown, Puts, Stored}
use Rattle.bao_files.specs.Encoded.{encoding_text}
use Rattle.bao_files.specs.Keys.{GivesKey}
use Rattle.bao_files.specs.Printed.{digits_line, ok_line}
use Rattle.bao_text.specs.declared.kinds.Part.TheVariants.{Slice}
use Rattle.bao_decode.specs.Cutting.{IsCutOf}
use Rattle.bao_decode.specs.Ranges.{part_bytes}
use Rattle.bao_decode.specs.Weaving.{IsCutBeside, cut_beside}
use Rattle.hex.specs.Hex.{decode_of}
use Rattle.bao_tasks.specs.Replayed.{IsRun}
use Rattle.bao_request.specs.CommandLine.{AsksFor, AsksForHelp, program_app}
use Rattle.bao_request.specs.declared.tasks.Request.{Request}
use Rattle.bao_request.specs.declared.tasks.Task.{Task}
use Rattle.bao_request.specs.declared.tasks.Task.TheVariants.{Hash, Encode, CutSlice, Decode, DecodeCopy, Gather, Replay}
use Rattle.bao_command.specs.Effects.{Writes, list_of}
use Rattle.bao_command.specs.ModeWords.{AsksForMode}
use Rattle.bao_command.specs.Outcome.{Done}
use Rattle.bao_command.specs.Tasks.{IsReplay, IsRight, PrintsLine, line_of, part_line}
use Rattle.determined_program.proofs.Keys.{one_key}
use Rattle.determined_program.proofs.OnDisks.{keeps_same, one_text, puts_same}
use Rattle.determined_texts.proofs.Values.{same_hash}
use Rattle.determined_program.specs.Files.{SameWhereKnown}
use Rattle.determined_program.proofs.Tasks.{one_request}
use Rattle.determined_program.specs.Requests.{SameRequest, SameTask}
use Rattle.determined_program.specs.Replays.{AreStored}
use Rattle.determined_program.proofs.Replays.{runs_one}
use Rattle.determined_program.proofs.Reruns.{of_known}
use Rattle.determined_program.specs.Commands.{IsKeyKnown, IsOfKnown, SamePrinted}

-- one text of digits gives one root
pub one_root : (digits also : List ℕ) (r s : Root32) → digits ≡ also → decode_of digits ≡ Ok r.0 → decode_of also ≡ Ok s.0 → r ≡ s
one_root digits also r s same ours theirs =
    let there : decode_of digits ≡ Ok s.0 = ap decode_of same ∙ theirs in
    same_hash r s (let first = ours in cc)

-- files of the same names
pub path_at : (xs ys : List (Bor (List ℕ))) (i : ℕ) (q : Bor (List ℕ)) → map (λ text. text.now) xs ≡ map (λ text. text.now) ys → slice_get ys i ≡ Some q
    → (p : Bor (List ℕ)) × (slice_get xs i ≡ Some p) × (p.now ≡ q.now)
path_at xs [] i q same there = absurd (let no = there in cc)
path_at [] (y ∷ ys) i q same there = absurd (let no = same in cc)
path_at (x ∷ xs) (y ∷ ys) zero q same there =
    let head : x.now ≡ y.now = cc in
    let is : y ≡ q = cc in
    (x, refl, head ∙ ap (λ (b : Bor (List ℕ)). b.now) is)
path_at (x ∷ xs) (y ∷ ys) (suc i) q same there =
    let tail : map (λ text. text.now) xs ≡ map (λ text. text.now) ys = cc in
    path_at xs ys i q tail there

pub as_many : (xs ys : List (Bor (List ℕ))) → map (λ text. text.now) xs ≡ map (λ text. text.now) ys → length xs ≡ length ys
as_many [] [] same = refl
as_many [] (y ∷ ys) same = absurd (let no = same in cc)
as_many (x ∷ xs) [] same = absurd (let no = same in cc)
as_many (x ∷ xs) (y ∷ ys) same =
    let tail : map (λ text. text.now) xs ≡ map (λ text. text.now) ys = cc in
    ap (λ (n : ℕ). suc n) (as_many xs ys tail)

module _ (at : List ℕ → FileState) where
  -- files that are known are so under these names
  pub stored_also : (xs ys : List (Bor (List ℕ))) (pieces : List (List ℕ)) → map (λ text. text.now) xs ≡ map (λ text. text.now) ys → AreStored at xs pieces → AreStored at ys pieces
  stored_also xs ys pieces same stored = record {
    count = stored.count ∙ as_many xs ys same;
    each = λ i q there.
        let p = path_at xs ys i q same there in
        subst (λ (k : List ℕ). at k ≡ Stored (get_or pieces i [])) p.2 (stored.each i p.0 p.1);
  }

  -- the run of a schedule over known files
  known_run : (digits : List ℕ) (capacity : ℕ) (script : List ℕ) (files : List (Bor (List ℕ))) (m : Mode) (text lines : List ℕ) (pieces : List (List ℕ)) → at script ≡ Stored lines
      → AreStored at files pieces → IsReplay at m digits capacity script files text
      → (root : Root32) × (decode_of digits ≡ Ok root.0) × IsRun m root capacity lines pieces text
  known_run digits capacity script files m text lines pieces there stored replay =
      (replay.0, replay.1.0, of_known at script files lines pieces there stored (λ l f. IsRun m replay.0 capacity l f text) replay.1.1)

  keyed_same : (bytes key also : List ℕ) (m n : Mode) → Some key ≡ Some also → m ≡ keyed key → n ≡ keyed also → m ≡ n
  keyed_same bytes key also m n same ours theirs = let keys : key ≡ also = cc in ours ∙ ap keyed keys ∙ sym theirs

  -- the mode is one
  pub mode_same : (k p c : Option (List ℕ)) (m n : Mode) → IfSome p (λ path. IsKnown (at path)) → AsksForMode at k p c m → AsksForMode at k p c n → m ≡ n
  mode_same None None None m n known ours theirs = cc
  mode_same None None (Some c) m n known ours theirs = cc
  mode_same (Some k) None None m n known ours theirs =
      let keys : ours.1.0 ≡ theirs.1.0 = let first = ours.1.1 in let second = theirs.1.1 in cc in
      ours.1.2 ∙ ap keyed keys ∙ sym theirs.1.2
  mode_same (Some k) None (Some c) m n known ours theirs = absurd ours
  mode_same None (Some p) None m n known ours theirs =
      let bytes : ours.0 ≡ theirs.0 = one_text (at p) ours.0 theirs.0 known ours.1 theirs.1 in
      keyed_same ours.0 ours.2.0 theirs.2.0 m n
      (one_key ours.0 (Some ours.2.0) (Some theirs.2.0) ours.2.1 (subst (λ (s : List ℕ). GivesKey s (Some theirs.2.0)) (sym bytes) theirs.2.1)) ours.2.2 theirs.2.2
  mode_same (Some k) (Some p) c m n known ours theirs = absurd ours
  mode_same None (Some p) (Some c) m n known ours theirs = absurd ours

  -- a slice that is cut out of known bytes
  pub cut_same : (file : List ℕ) (text : List ℕ) (start len : ℕ) (xs : List ℕ) → at file ≡ Stored text → length text < 2 ^ 64 → IsCutOf (at file) start len xs → xs ≡ cut_text text start len
  cut_same file text start len xs there small cut =
      let all : cut.0 ≡ text = subst (λ (s : FileState). AreOf s cut.0) there cut.1 in
      subst (λ (t : List ℕ). xs ≡ cut_text t start len) all (cut.2 (subst (λ (t : List ℕ). length t < 2 ^ 64) (sym all) small))

  -- or out of a known copy beside a known outboard encoding
  pub beside_same : (outboard copy outline bytes : List ℕ) (start len : ℕ) (xs : List ℕ) → at outboard ≡ Stored outline → at copy ≡ Stored bytes
      → IsCutBeside (at outboard) (at copy) start len xs → xs ≡ cut_beside outline bytes start len
  beside_same outboard copy outline bytes start len xs at_outboard at_copy cut =
      let o : cut.0 ≡ outline = subst (λ (s : FileState). AreOf s cut.0) at_outboard cut.2 in
      let c : cut.1 ≡ bytes = subst (λ (s : FileState). AreOf s cut.1) at_copy cut.3 in
      cut.4 (subst IsKnown (sym at_outboard) tt) (subst IsKnown (sym at_copy) tt) ∙ (λ i. cut_beside (o i) (c i) start len)

  module _ (a b : List ℕ → FileState) (m : Mode) (xs ys : List ℕ) where
    -- what is put at OUT is one text, at one path
    put_same : (out also text other : List ℕ) → out ≡ also → text ≡ other → Puts at a out (Some text) → Puts at b also (Some other) → SameWhereKnown at a b
    put_same out also text other path same ours theirs =
        puts_same at at a b (λ _. refl) out text ours (subst (λ (T : Type 0). T) (λ i. Puts at b (sym path i) (Some (sym same i))) theirs)

    bytes_same : (file also : List ℕ) → file ≡ also → IsKnown (at file) → AreOf (at file) xs → AreOf (at also) ys → xs ≡ ys
    bytes_same file also path known ours theirs = one_text (at file) xs ys known ours (subst (λ (p : List ℕ). AreOf (at p) ys) (sym path) theirs)

    -- one task of known files has one line, and leaves the files so
    task_same : (r s : Task) → SameTask r s → IsOfKnown at r → IsRight at m r xs → IsRight at m s ys → Writes at a m r (list_of r) xs → Writes at b m s (list_of s) ys
        → (line_of m r xs ≡ line_of m s ys) × SameWhereKnown at a b
    task_same (Hash from count file) (Hash from' count' file') same known ours theirs did also =
        let bytes : xs ≡ ys = bytes_same file.now file'.now same.2 known ours theirs in
        (λ i. digits_line (stream m (bytes i) (same.0 i) (same.1 i)), keeps_same at at a b (λ _. refl) did also)
    task_same (Encode encoding file out) (Encode encoding' file' out') same known ours theirs did also =
        let bytes : xs ≡ ys = bytes_same file.now file'.now same.1 known ours theirs in
        (λ i. digits_line (hash m (bytes i)), put_same out.now out'.now _ _ same.2 (λ i. encoding_text m (same.0 i) (bytes i)) did also)
    task_same (CutSlice root start len None file out) (CutSlice root' start' len' None file' out') same known ours theirs did also =
        let one : xs ≡ cut_text known.0 start len = cut_same file.now known.0 start len xs known.1 known.2 ours.1 in
        let other : ys ≡ cut_text known.0 start' len' = cut_same file'.now known.0 start' len' ys (subst (λ (p : List ℕ). at p ≡ Stored known.0) same.4 known.1) known.2 theirs.1 in
        let bytes : xs ≡ ys = one ∙ (λ i. cut_text known.0 (same.1 i) (same.2 i)) ∙ sym other in
        (λ i. part_line (Slice (same.1 i) (same.2 i)) (bytes i), put_same out.now out'.now xs ys same.5 bytes did also)
    task_same (CutSlice root start len None file out) (CutSlice root' start' len' (Some outboard) file' out') same known ours theirs did also =
        let no : None ≡ Some outboard.now = same.3 in cc
    task_same (CutSlice root start len (Some outboard) file out) (CutSlice root' start' len' None file' out') same known ours theirs did also =
        let no : Some outboard.now ≡ None = same.3 in cc
    task_same (CutSlice root start len (Some outboard) file out) (CutSlice root' start' len' (Some outboard') file' out') same known ours theirs did also =
        let path : outboard.now ≡ outboard'.now = same_Some outboard.now outboard'.now same.3 in
        let one : xs ≡ cut_beside known.0 known.1 start len =
        beside_same outboard.now file.now known.0 known.1 start len xs known.2 known.3 ours.1 in
        let other : ys ≡ cut_beside known.0 known.1 start' len' =
        beside_same outboard'.now file'.now known.0 known.1 start' len' ys (subst (λ (p : List ℕ). at p ≡ Stored known.0) path known.2)
        (subst (λ (p : List ℕ). at p ≡ Stored known.1) same.4 known.3) theirs.1 in
        let bytes : xs ≡ ys = one ∙ (λ i. cut_beside known.0 known.1 (same.1 i) (same.2 i)) ∙ sym other in
        (λ i. part_line (Slice (same.1 i) (same.2 i)) (bytes i), put_same out.now out'.now xs ys same.5 bytes did also)
    task_same (Decode root part file out) (Decode root' part' file' out') same known ours theirs did also =
        let bytes : xs ≡ ys = bytes_same file.now file'.now same.2 known ours.1 theirs.1 in
        (λ i. part_line (same.1 i) (bytes i), put_same out.now out'.now _ _ same.3 (λ i. part_bytes (same.1 i) (bytes i)) did also)
    task_same (DecodeCopy root outboard copy out) (DecodeCopy root' outboard' copy' out') same known ours theirs did also =
        let bytes : xs ≡ ys = bytes_same copy.now copy'.now same.2 known ours.1.1.2 theirs.1.1.2 in
        (λ i. ok_line (length (bytes i)), put_same out.now out'.now xs ys same.3 bytes did also)
    task_same (Gather task) s same known ours theirs did also = absurd known
    task_same (Replay root capacity script files) (Replay root' capacity' script' files') same known ours theirs did also =
        let one = known_run root.now capacity script.now files.items m xs known.0 known.1 known.2 known.3 ours.1 in
        let other = known_run root'.now capacity' script'.now files'.items m ys known.0 known.1 (subst (λ (p : List ℕ). at p ≡ Stored known.0) same.2 known.2)
        (stored_also files.items files'.items known.1 same.3 known.3) theirs.1 in
        let key : one.0 ≡ other.0 = one_root root.now root'.now one.0 other.0 same.0 one.1 other.1 in
        let run : IsRun m one.0 capacity known.0 known.1 ys = subst (λ (T : Type 0). T) (λ i. IsRun m (sym key i) (sym same.1 i) known.0 known.1 ys) other.2 in
        (runs_one m one.0 capacity known.0 known.1 xs ys one.2 run, keeps_same at at a b (λ _. refl) did also)
    task_same (Hash from count file) (Encode encoding' file' out') same known ours theirs did also = absurd same
    task_same (Hash from count file) (CutSlice root' start' len' outboard' file' out') same known ours theirs did also = absurd same
    task_same (Hash from count file) (Decode root' part' file' out') same known ours theirs did also = absurd same
    task_same (Hash from count file) (DecodeCopy root' outboard' copy' out') same known ours theirs did also = absurd same
    task_same (Hash from count file) (Gather task') same known ours theirs did also = absurd same
    task_same (Hash from count file) (Replay root' capacity' script' files') same known ours theirs did also = absurd same
    task_same (Encode encoding file out) (Hash from' count' file') same known ours theirs did also = absurd same
    task_same (Encode encoding file out) (CutSlice root' start' len' outboard' file' out') same known ours theirs did also = absurd same
    task_same (Encode encoding file out) (Decode root' part' file' out') same known ours theirs did also = absurd same
    task_same (Encode encoding file out) (DecodeCopy root' outboard' copy' out') same known ours theirs did also = absurd same
    task_same (Encode encoding file out) (Gather task') same known ours theirs did also = absurd same
    task_same (Encode encoding file out) (Replay root' capacity' script' files') same known ours theirs did also = absurd same
    task_same (CutSlice root start len None file out) (Hash from' count' file') same known ours theirs did also = absurd same
    task_same (CutSlice root start len (Some outboard) file out) (Hash from' count' file') same known ours theirs did also = absurd same
    task_same (CutSlice root start len None file out) (Encode encoding' file' out') same known ours theirs did also = absurd same
    task_same (CutSlice root start len (Some outboard) file out) (Encode encoding' file' out') same known ours theirs did also = absurd same
    task_same (CutSlice root start len None file out) (Decode root' part' file' out') same known ours theirs did also = absurd same
    task_same (CutSlice root start len (Some outboard) file out) (Decode root' part' file' out') same known ours theirs did also = absurd same
    task_same (CutSlice root start len None file out) (DecodeCopy root' outboard' copy' out') same known ours theirs did also = absurd same
    task_same (CutSlice root start len (Some outboard) file out) (DecodeCopy root' outboard' copy' out') same known ours theirs did also = absurd same
    task_same (CutSlice root start len None file out) (Gather task') same known ours theirs did also = absurd same
    task_same (CutSlice root start len (Some outboard) file out) (Gather task') same known ours theirs did also = absurd same
    task_same (CutSlice root start len None file out) (Replay root' capacity' script' files') same known ours theirs did also = absurd same
    task_same (CutSlice root start len (Some outboard) file out) (Replay root' capacity' script' files') same known ours theirs did also = absurd same
    task_same (Decode root part file out) (Hash from' count' file') same known ours theirs did also = absurd same
    task_same (Decode root part file out) (Encode encoding' file' out') same known ours theirs did also = absurd same
    task_same (Decode root part file out) (CutSlice root' start' len' outboard' file' out') same known ours theirs did also = absurd same
    task_same (Decode root part file out) (DecodeCopy root' outboard' copy' out') same known ours theirs did also = absurd same
    task_same (Decode root part file out) (Gather task') same known ours theirs did also = absurd same
    task_same (Decode root part file out) (Replay root' capacity' script' files') same known ours theirs did also = absurd same
    task_same (DecodeCopy root outboard copy out) (Hash from' count' file') same known ours theirs did also = absurd same
    task_same (DecodeCopy root outboard copy out) (Encode encoding' file' out') same known ours theirs did also = absurd same
    task_same (DecodeCopy root outboard copy out) (CutSlice root' start' len' outboard' file' out') same known ours theirs did also = absurd same
    task_same (DecodeCopy root outboard copy out) (Decode root' part' file' out') same known ours theirs did also = absurd same
    task_same (DecodeCopy root outboard copy out) (Gather task') same known ours theirs did also = absurd same
    task_same (DecodeCopy root outboard copy out) (Replay root' capacity' script' files') same known ours theirs did also = absurd same
    task_same (Replay root capacity script files) (Hash from' count' file') same known ours theirs did also = absurd same
    task_same (Replay root capacity script files) (Encode encoding' file' out') same known ours theirs did also = absurd same
    task_same (Replay root capacity script files) (CutSlice root' start' len' outboard' file' out') same known ours theirs did also = absurd same
    task_same (Replay root capacity script files) (Decode root' part' file' out') same known ours theirs did also = absurd same
    task_same (Replay root capacity script files) (DecodeCopy root' outboard' copy' out') same known ours theirs did also = absurd same
    task_same (Replay root capacity script files) (Gather task') same known ours theirs did also = absurd same

-- bytes that were appended to known ones
appended_is : (all : List ℕ) (new : Option (List ℕ)) (line : List ℕ) → Appends (Some all) new line → new ≡ Some (all ++ line)
appended_is all None line appends = absurd appends
appended_is all (Some now) line appends = ap (λ (xs : List ℕ). Some xs) appends

pub printed_same : (old one other : Option (List ℕ)) (line also : List ℕ) → line ≡ also → Appends old one line → Appends old other also → SamePrinted old one other
printed_same None one other line also same ours theirs = tt
printed_same (Some all) one other line also same ours theirs =
    appended_is all one line ours ∙ ap (λ (xs : List ℕ). Some (all ++ xs)) same ∙ sym (appended_is all other also theirs)

module _ (words : List Text) (at a b : List ℕ → FileState) (old one other : Option (List ℕ)) where
  key_known : (r : Request) → IsKeyKnown at r → IfSome (option_copied r.key_file) (λ path. IsKnown (at path))
  key_known r known = known

  prints_same : (r s : Request) → SameRequest r s → IsOfKnown at r.task → IsKeyKnown at r → PrintsLine r at a old one → PrintsLine s at b old other
      → SamePrinted old one other × SameWhereKnown at a b
  prints_same r s same known key ours theirs =
      let has : AsksForMode at (option_copied r.key) (option_copied r.key_file) (option_copied r.context) theirs.0 =
      subst (λ (T : Type 0). T) (λ i. AsksForMode at (sym same.1 i) (sym same.2 i) (sym same.3 i) theirs.0) theirs.2 in
      let mode : ours.0 ≡ theirs.0 = mode_same at (option_copied r.key) (option_copied r.key_file) (option_copied r.context) ours.0 theirs.0 (key_known r key) ours.2 has in
      let right : IsRight at ours.0 s.task theirs.1 = subst (λ (n : Mode). IsRight at n s.task theirs.1) (sym mode) theirs.4 in
      let did : Writes at b ours.0 s.task (list_of s.task) theirs.1 = subst (λ (n : Mode). Writes at b n s.task (list_of s.task) theirs.1) (sym mode) theirs.5 in
      let both = task_same at a b ours.0 ours.1 theirs.1 r.task s.task same.0 known ours.4 right ours.5 did in
      (printed_same old one other _ _ (both.0 ∙ ap (λ (n : Mode). line_of n s.task theirs.1) mode) ours.6 theirs.6, both.1)

  pub done_same : ((request : Request) → AsksFor words request → IsOfKnown at request.task × IsKeyKnown at request) → ¬ AsksForHelp words
      → Done words at a old one → Done words at b old other → SamePrinted old one other × SameWhereKnown at a b
  done_same known work (inl help) theirs = absurd (work help.0)
  done_same known work (inr ours) (inl help) = absurd (work help.0)
  done_same known work (inr ours) (inr theirs) =
      prints_same ours.0 theirs.0 (one_request (subcommand_of program_app words) ours.0 theirs.0 ours.1 theirs.1) (known ours.0 ours.1).0 (known ours.0 ours.1).1 ours.2 theirs.2
