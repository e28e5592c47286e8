-- What two runs of one command line gather of the same files.
use Rattle.std.specs.Borrow.{Bor}
use Rattle.std.proofs.Common.{◌≡◌, ◌≢◌, ◌⊎◌, ℕ, Bool, true, false, List, [], length, bytes_eq, Option, None, Some, Ok, inl, inr, refl, ap, sym, subst, ◌∙◌}
use Rattle.std.specs.Option.{option_copied}
use Rattle.std.specs.Io.KnownBytes.{Appends}
use Rattle.std.proofs.lemmas.Bool.{cases_Bool, true≢false}
use Rattle.std.proofs.lemmas.Option.{same_Some}
use Rattle.std.proofs.lemmas.Slice.Eq.{bytes_eq-Decides}
use Rattle.b3tree.specs.Valid.{AreBytes}
use Rattle.b3tree.specs.declared.mode.Mode.{Mode}
use Rattle.b3tree.specs.declared.values.Hash.{Hash as Root32}
use Rattle.b3tree.specs.Hashing.{hash}
use Rattle.clap.specs.Words.{Text, subcommand_of}
use Rattle.hex.specs.Hex.{decode_of}
use Rattle.bao_files.specs.Disks.{FileState, IsKnown, Puts, Stored}
use Rattle.bao_files.specs.Printed.{ok_line}
use Rattle.holders.specs.Blobs.{fixed_as}
use Rattle.holders.specs.Blobs.{IsBlob}
use Rattle.bao_tasks.specs.Gathered.{gathered_text}
use Rattle.bao_request.specs.CommandLine.{AsksFor, AsksForHelp, program_app}
use Rattle.bao_request.specs.declared.tasks.Request.{Request}
use Rattle.bao_request.specs.declared.tasks.Task.{Task}
use Rattle.bao_request.specs.declared.tasks.Task.TheVariants.{Hash, Encode, CutSlice, Decode, DecodeCopy, Gather, Replay}
use Rattle.bao_command.specs.Effects.{Lists, PutsBoth, Writes, list_of}
use Rattle.bao_command.specs.ModeWords.{AsksForMode, HasMode}
use Rattle.bao_command.specs.Outcome.{Done}
use Rattle.bao_command.specs.Refused.{IsBlobFor, IsBlobOf, IsEachBlob}
use Rattle.bao_command.specs.Tasks.{Gathers, IsRight, PrintsLine, line_of}
use Rattle.determined_program.proofs.OnDisks.{puts_same}
use Rattle.determined_program.specs.Files.{SameWhereKnown}
use Rattle.determined_program.proofs.Tasks.{one_request}
use Rattle.determined_program.specs.Requests.{SameRequest, SameTask}
use Rattle.determined_program.proofs.Blobs.{same_or_apart}
use Rattle.determined_program.specs.Commands.{CollidesAsked, CollidesIn, IsGatheredUnder, IsKeyKnown, PutTwo, SamePrinted}
use Rattle.determined_program.proofs.Known.{mode_same, one_root, printed_same}

-- it is still known what is at a path, once a text was put at one
known_after : (at x : List ℕ → FileState) (out text path : List ℕ) → Puts at x out (Some text) → IsKnown (at path) → (bytes_eq path out ≡ true) ⊎ (bytes_eq path out ≡ false) → IsKnown (x path)
known_after at x out text path put known (inl is) =
    let here : path ≡ out = (bytes_eq-Decides path out).0 is in
    let there : x out ≡ Stored text = put.put (subst (λ (p : List ℕ). IsKnown (at p)) here known) in
    subst (λ (p : List ℕ). IsKnown (x p)) (sym here) (subst IsKnown (sym there) tt)
known_after at x out text path put known (inr differs) =
    let apart : path ≢ out = λ here. true≢false (sym ((bytes_eq-Decides path out).1 here) ∙ differs) in
    subst IsKnown (sym (put.kept path apart)) known

-- a list of these lines is at its path after both
lists_same : (at x y a b : List ℕ → FileState) (list also : Option (Bor (List ℕ))) (lines : List ℕ) → option_copied list ≡ option_copied also → SameWhereKnown at x y
    → ((path : List ℕ) → IsKnown (at path) → IsKnown (x path)) → ((path : List ℕ) → IsKnown (at path) → IsKnown (y path)) → Lists x a list lines → Lists y b also lines → SameWhereKnown at a b
lists_same at x y a b None None lines same before known also_known ours theirs path there = ours path ∙ before path there ∙ sym (theirs path)
lists_same at x y a b None (Some other) lines same before known also_known ours theirs path there = let no : None ≡ Some other.now = same in cc
lists_same at x y a b (Some list) None lines same before known also_known ours theirs path there = let no : Some list.now ≡ None = same in cc
lists_same at x y a b (Some list) (Some other) lines same before known also_known ours theirs path there =
    let name : list.now ≡ other.now = same_Some list.now other.now same in
    let also : Puts y b list.now (Some lines) = subst (λ (p : List ℕ). Puts y b p (Some lines)) (sym name) theirs in
    elim (cases_Bool (bytes_eq path list.now)) [
      | inl is ↦
          let here : path ≡ list.now = (bytes_eq-Decides path list.now).0 is in
          let one : a list.now ≡ Stored lines = ours.put (subst (λ (p : List ℕ). IsKnown (x p)) here (known path there)) in
          let two : b list.now ≡ Stored lines = also.put (subst (λ (p : List ℕ). IsKnown (y p)) here (also_known path there)) in
          subst (λ (p : List ℕ). a p ≡ b p) (sym here) (one ∙ sym two)
      | inr differs ↦
          let apart : path ≢ list.now = λ here. true≢false (sym ((bytes_eq-Decides path list.now).1 here) ∙ differs) in
          ours.kept path apart ∙ before path there ∙ sym (also.kept path apart)
    ]

-- one text was put at OUT, and then an empty list
both_same : (at a b : List ℕ → FileState) (out also text : List ℕ) (list other : Option (Bor (List ℕ))) → out ≡ also → option_copied list ≡ option_copied other → PutsBoth at a out text list
    → PutsBoth at b also text other → SameWhereKnown at a b
both_same at a b out also text list other path lists ours theirs =
    let put : Puts at theirs.0 out (Some text) = subst (λ (p : List ℕ). Puts at theirs.0 p (Some text)) (sym path) theirs.1 in
    lists_same at ours.0 theirs.0 a b list other [] lists (puts_same at at ours.0 theirs.0 (λ _. refl) out text ours.1 put)
    (λ p known. known_after at ours.0 out text p ours.1 known (cases_Bool (bytes_eq p out)))
    (λ p known. known_after at theirs.0 out text p put known (cases_Bool (bytes_eq p out))) ours.2 theirs.2

module _ (at a b : List ℕ → FileState) (old one other : Option (List ℕ)) where
  abbrev Same : Type 0
  Same = SamePrinted old one other × SameWhereKnown at a b

  -- one blob of one task that gathers
  blob_same : (m : Mode) (r s : Task) (xs : List ℕ) → SameTask r s → Gathers r → Writes at a m r (list_of r) xs → Writes at b m s (list_of s) xs
      → Appends old one (line_of m r xs) → Appends old other (line_of m s xs) → Same
  blob_same m (Gather task) (Gather task') xs same gathers ours theirs printed also =
      let text : gathered_text task'.encode m xs ≡ gathered_text task.encode m xs = ap (λ (k : Bool). gathered_text k m xs) (sym same.6) in (
        printed_same old one other (ok_line (length xs)) (ok_line (length xs)) refl printed also,
        both_same at a b task.out.now task'.out.now (gathered_text task.encode m xs) task.missing task'.missing same.9 same.7 ours (subst (λ (t : List ℕ). PutsBoth at b task'.out.now t task'.missing) text theirs),
      )
  blob_same m (Gather task) (Hash from' count' file') xs same gathers ours theirs printed also = absurd same
  blob_same m (Gather task) (Encode encoding' file' out') xs same gathers ours theirs printed also = absurd same
  blob_same m (Gather task) (CutSlice root' start' len' outboard' file' out') xs same gathers ours theirs printed also = absurd same
  blob_same m (Gather task) (Decode root' part' file' out') xs same gathers ours theirs printed also = absurd same
  blob_same m (Gather task) (DecodeCopy root' outboard' copy' out') xs same gathers ours theirs printed also = absurd same
  blob_same m (Gather task) (Replay root' capacity' script' files') xs same gathers ours theirs printed also = absurd same
  blob_same m (Hash from count file) s xs same gathers ours theirs printed also = absurd gathers
  blob_same m (Encode encoding file out) s xs same gathers ours theirs printed also = absurd gathers
  blob_same m (CutSlice root start len outboard file out) s xs same gathers ours theirs printed also = absurd gathers
  blob_same m (Decode root part file out) s xs same gathers ours theirs printed also = absurd gathers
  blob_same m (DecodeCopy root outboard copy out) s xs same gathers ours theirs printed also = absurd gathers
  blob_same m (Replay root capacity script files) s xs same gathers ours theirs printed also = absurd gathers

  -- both are made of bytes, and have one hash
  both_are : (m : Mode) (r s : Task) (xs ys : List ℕ) → SameTask r s → Gathers r → IsRight at m r xs → IsRight at m s ys → AreBytes xs × AreBytes ys × (hash m xs ≡ hash m ys)
  both_are m (Gather task) (Gather task') xs ys same gathers ours theirs =
      let our_key = ours.1.0.0.0 in
      let their_key = theirs.1.0.0.0 in
      let there : decode_of task.root.now ≡ Ok their_key = ap decode_of same.0 ∙ theirs.1.0.0.1.0 in
      let keys : our_key ≡ their_key = let first = ours.1.0.0.1.0 in cc in
      (ours.1.0.0.1.2, theirs.1.0.0.1.2, ours.1.0.0.1.1 ∙ keys ∙ sym theirs.1.0.0.1.1)
  both_are m (Gather task) (Hash from' count' file') xs ys same gathers ours theirs = absurd same
  both_are m (Gather task) (Encode encoding' file' out') xs ys same gathers ours theirs = absurd same
  both_are m (Gather task) (CutSlice root' start' len' outboard' file' out') xs ys same gathers ours theirs = absurd same
  both_are m (Gather task) (Decode root' part' file' out') xs ys same gathers ours theirs = absurd same
  both_are m (Gather task) (DecodeCopy root' outboard' copy' out') xs ys same gathers ours theirs = absurd same
  both_are m (Gather task) (Replay root' capacity' script' files') xs ys same gathers ours theirs = absurd same
  both_are m (Hash from count file) s xs ys same gathers ours theirs = absurd gathers
  both_are m (Encode encoding file out) s xs ys same gathers ours theirs = absurd gathers
  both_are m (CutSlice root start len outboard file out) s xs ys same gathers ours theirs = absurd gathers
  both_are m (Decode root part file out) s xs ys same gathers ours theirs = absurd gathers
  both_are m (DecodeCopy root outboard copy out) s xs ys same gathers ours theirs = absurd gathers
  both_are m (Replay root capacity script files) s xs ys same gathers ours theirs = absurd gathers

  module _ (words : List Text) where
    prints_agree : (r s : Request) → AsksFor words r → AsksFor words s → SameRequest r s → Gathers r.task → IsKeyKnown at r → PrintsLine r at a old one → PrintsLine s at b old other
        → Same ⊎ PutTwo words at a b old one other
    prints_agree r s asks also same gathers key ours theirs =
        let m : Mode = ours.0 in
        let has : AsksForMode at (option_copied r.key) (option_copied r.key_file) (option_copied r.context) theirs.0 =
        subst (λ (T : Type 0). T) (λ i. AsksForMode at (sym same.1 i) (sym same.2 i) (sym same.3 i) theirs.0) theirs.2 in
        let mode : m ≡ theirs.0 = mode_same at (option_copied r.key) (option_copied r.key_file) (option_copied r.context) m theirs.0 key ours.2 has in
        let right : IsRight at m s.task theirs.1 = subst (λ (n : Mode). IsRight at n s.task theirs.1) (sym mode) theirs.4 in
        let did : Writes at b m s.task (list_of s.task) theirs.1 = subst (λ (n : Mode). Writes at b n s.task (list_of s.task) theirs.1) (sym mode) theirs.5 in
        let line : Appends old other (line_of m s.task theirs.1) = subst (λ (n : Mode). Appends old other (line_of n s.task theirs.1)) (sym mode) theirs.6 in
        elim (same_or_apart ours.1 theirs.1) [
          | inl bytes ↦ inl
              (blob_same m r.task s.task ours.1 same.0 gathers ours.5 (subst (λ (t : List ℕ). Writes at b m s.task (list_of s.task) t) (sym bytes) did) ours.6
              (subst (λ (t : List ℕ). Appends old other (line_of m s.task t)) (sym bytes) line))
          | inr apart ↦ inr (record {
            request = r;
            also = s;
            asks = asks;
            also_asks = also;
            mode = m;
            has = ours.2;
            ours = ours.1;
            theirs = theirs.1;
            apart = apart;
            our_bytes = (both_are m r.task s.task ours.1 theirs.1 same.0 gathers ours.4 right).0;
            their_bytes = (both_are m r.task s.task ours.1 theirs.1 same.0 gathers ours.4 right).1;
            same = (both_are m r.task s.task ours.1 theirs.1 same.0 gathers ours.4 right).2;
            our_files = ours.5;
            their_files = did;
            our_line = ours.6;
            their_line = line;
          })
        ]

    pub done_agree : ((request : Request) → AsksFor words request → Gathers request.task × IsKeyKnown at request) → ¬ AsksForHelp words → Done words at a old one → Done words at b old other
        → Same ⊎ PutTwo words at a b old one other
    done_agree asked work (inl help) theirs = absurd (work help.0)
    done_agree asked work (inr ours) (inl help) = absurd (work help.0)
    done_agree asked work (inr ours) (inr theirs) =
        prints_agree ours.0 theirs.0 ours.1 theirs.1 (one_request (subcommand_of program_app words) ours.0 theirs.0 ours.1 theirs.1) (asked ours.0 ours.1).0 (asked ours.0 ours.1).1 ours.2 theirs.2

-- a blob that is gathered for the one task is for the other
gathered_as : (at : List ℕ → FileState) (m : Mode) (r s : Task) (blob : List ℕ) → SameTask r s → IsGatheredUnder at m r blob → IsGatheredUnder at m s blob
gathered_as at m (Gather task) (Gather task') blob same is = (
  subst (λ (p : List ℕ). IsKnown (at p)) same.9 is.0,
  (is.1.0, (ap decode_of (sym same.0) ∙ is.1.1.0, subst (λ (n : ℕ). IsBlob (fixed_as is.1.0 m n) blob) same.2 is.1.1.1)),
)
gathered_as at m (Gather task) (Hash from' count' file') blob same is = absurd same
gathered_as at m (Gather task) (Encode encoding' file' out') blob same is = absurd same
gathered_as at m (Gather task) (CutSlice root' start' len' outboard' file' out') blob same is = absurd same
gathered_as at m (Gather task) (Decode root' part' file' out') blob same is = absurd same
gathered_as at m (Gather task) (DecodeCopy root' outboard' copy' out') blob same is = absurd same
gathered_as at m (Gather task) (Replay root' capacity' script' files') blob same is = absurd same
gathered_as at m (Hash from count file) s blob same is = absurd is
gathered_as at m (Encode encoding file out) s blob same is = absurd is
gathered_as at m (CutSlice root start len outboard file out) s blob same is = absurd is
gathered_as at m (Decode root part file out) s blob same is = absurd is
gathered_as at m (DecodeCopy root outboard copy out) s blob same is = absurd is
gathered_as at m (Replay root capacity script files) s blob same is = absurd is

-- what one run says of such a blob: it was put and its length printed, or a collision is exhibited
blob_is : (sure : Type 0) (at after : List ℕ → FileState) (m : Mode) (task : Task) (old new : Option (List ℕ)) (blob : List ℕ) → sure → IsGatheredUnder at m task blob
    → IsBlobOf sure at after m task old new → (Writes at after m task (list_of task) blob × Appends old new (line_of m task blob)) ⊎ CollidesIn at m task blob
blob_is sure at after m (Gather task) old new blob surely is of =
    let key : of.0 ≡ is.1.0 = one_root task.root.now task.root.now of.0 is.1.0 refl of.1.0 is.1.1.0 in
    let each : IsEachBlob sure at after m task.encode task.long task.capacity task.outboard task.files.items task.out.now task.missing old new is.1.0 =
    subst (λ (r : Root32). IsEachBlob sure at after m task.encode task.long task.capacity task.outboard task.files.items task.out.now task.missing old new r) key of.1.1 in
    elim (each surely is.0 blob is.1.1.1) [
      | inl put ↦ inl put
      | inr pair ↦ inr (is.1.0, (is.1.1.0, pair))
    ]
blob_is sure at after m (Hash from count file) old new blob surely is of = absurd is
blob_is sure at after m (Encode encoding file out) old new blob surely is of = absurd is
blob_is sure at after m (CutSlice root start len outboard file out) old new blob surely is of = absurd is
blob_is sure at after m (Decode root part file out) old new blob surely is of = absurd is
blob_is sure at after m (DecodeCopy root outboard copy out) old new blob surely is of = absurd is
blob_is sure at after m (Replay root capacity script files) old new blob surely is of = absurd is

-- of what a run was asked for
blob_asked : (words : List Text) (sure : Type 0) (at after : List ℕ → FileState) (m : Mode) (r s : Request) (old new : Option (List ℕ)) (blob : List ℕ) → sure → IsKeyKnown at r → AsksFor words s
    → SameRequest r s → HasMode at r m → IsGatheredUnder at m r.task blob → IsBlobFor sure at after s old new
    → (Writes at after m s.task (list_of s.task) blob × Appends old new (line_of m s.task blob)) ⊎ CollidesAsked words at m blob
blob_asked words sure at after m r s old new blob surely key asks same has is of =
    let theirs : AsksForMode at (option_copied r.key) (option_copied r.key_file) (option_copied r.context) of.0 =
    subst (λ (T : Type 0). T) (λ i. AsksForMode at (sym same.1 i) (sym same.2 i) (sym same.3 i) of.0) of.1 in
    let mode : of.0 ≡ m = sym (mode_same at (option_copied r.key) (option_copied r.key_file) (option_copied r.context) m of.0 key has theirs) in
    let each : IsBlobOf sure at after m s.task old new = subst (λ (n : Mode). IsBlobOf sure at after n s.task old new) mode of.2 in
    elim (blob_is sure at after m s.task old new blob surely (gathered_as at m r.task s.task blob same.0 is) each) [
      | inl put ↦ inl put
      | inr pair ↦ inr (s, asks, subst (λ (n : Mode). HasMode at s n) mode of.1, pair)
    ]

module _ (words : List Text) (at a b : List ℕ → FileState) (old one other : Option (List ℕ)) (sure also_sure : Type 0) where
  pub each_agree : ((request : Request) → AsksFor words request → Gathers request.task × IsKeyKnown at request) → ¬ AsksForHelp words → sure → also_sure
      → (r : Request) (m : Mode) (blob : List ℕ) → AsksFor words r → HasMode at r m → IsGatheredUnder at m r.task blob
      → (AsksForHelp words ⊎ ((s : Request) × AsksFor words s × IsBlobFor sure at a s old one))
      → (AsksForHelp words ⊎ ((s : Request) × AsksFor words s × IsBlobFor also_sure at b s old other))
      → (SamePrinted old one other × SameWhereKnown at a b) ⊎ CollidesAsked words at m blob
  each_agree asked work surely also_surely r m blob asks has is (inl help) theirs = absurd (work help)
  each_agree asked work surely also_surely r m blob asks has is (inr ours) (inl help) = absurd (work help)
  each_agree asked work surely also_surely r m blob asks has is (inr ours) (inr theirs) =
      let first = one_request (subcommand_of program_app words) r ours.0 asks ours.1 in
      let second = one_request (subcommand_of program_app words) r theirs.0 asks theirs.1 in
      let between = one_request (subcommand_of program_app words) ours.0 theirs.0 ours.1 theirs.1 in
      elim (blob_asked words sure at a m r ours.0 old one blob surely (asked r asks).1 ours.1 first has is ours.2) [
        | inr pair ↦ inr pair
        | inl put ↦ elim (blob_asked words also_sure at b m r theirs.0 old other blob also_surely (asked r asks).1 theirs.1 second has is theirs.2) [
          | inr pair ↦ inr pair
          | inl also ↦ inl (blob_same at a b old one other m ours.0.task theirs.0.task blob between.0 (asked ours.0 ours.1).0 put.0 also.0 put.1 also.1)
        ]
      ]
