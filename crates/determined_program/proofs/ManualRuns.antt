-- What a command comes to that asks for one task alone, over known files.
use Rattle.std.proofs.Common.{◌≡◌, ◌≢◌, ◌⊎◌, ◌∙◌, ℕ, ◌-◌, ◌^◌, ◌<◌, ◌≤◌, List, [], ◌∷◌, length, take, drop, false, if◌then◌else◌, map, slice_get, zero, suc, Option, Some, None, Ok, Bor, IsSome, IsSomeAnd, inl, inr, arith, refl, sym, subst, ap, length-append, length-drop, length-take}
use Rattle.std.proofs.lemmas.Bool.Decides.{eqb_tells}
use Rattle.std.proofs.lemmas.List.{take_all}
use Rattle.std.specs.Prelude.{IfSome, String, Vec, ⊤}
use Rattle.std.specs.Global.{Global}
use Rattle.std.specs.BTreeMap.{BTreeMap, get_by_text}
use Rattle.std.specs.Option.{option_copied}
use Rattle.bao_files.specs.Encoded.{encoding_text}
use Rattle.bao_files.specs.HeldFiles.{held_at, state_of}
use Rattle.std.specs.Io.KnownBytes.{Appends, Keeps}
use Rattle.clap.specs.Kinds.{IsAmong}
use Rattle.clap.specs.Words.{Text, subcommand_of}
use Rattle.b3tree.specs.declared.mode.Mode.{Mode}
use Rattle.b3tree.specs.Valid.{AreBytes, IsKeyed}
use Rattle.b3tree.specs.Hashing.{hash, stream}
use Rattle.b3tree.specs.Modes.{plain}
use Rattle.b3tree.specs.Pieces.{piece}
use Rattle.b3tree.proofs.HashOutput.{hash-stream}
use Rattle.bao_files.specs.Disks.{AreOf, FileState, IsKnown, KeepsFiles, Puts, Stored}
use Rattle.bao_files.specs.Printed.{IsDigits, digits_line, ok_line}
use Rattle.bao_request.specs.CommandLine.{AsksFor, program_app}
use Rattle.bao_request.specs.declared.tasks.Request.{Request}
use Rattle.bao_request.specs.declared.tasks.Task.{Task}
use Rattle.bao_request.specs.declared.tasks.Task.TheVariants.{Hash, Encode, CutSlice, Decode, DecodeCopy, Gather}
use Rattle.bao_tasks.specs.FromFiles.{IsFromFile, is_regular, taken_bytes}
use Rattle.bao_tasks.specs.Givens.{most_bytes}
use Rattle.holders.specs.Blobs.{HasCollision, fixed_as}
use Rattle.holders.specs.Places.{IsCutAt}
use Rattle.holders.specs.declared.form.Form.TheVariants.{Slices}
use Rattle.holders.specs.declared.grain.Grain.TheVariants.{Group as ByGroup, Chunk as ByChunk}
use Rattle.b3tree.specs.declared.values.Hash.{Hash as Root32}
use Rattle.bao_tasks.specs.Gathered.{gathered_text}
use Rattle.bao_tasks.specs.Listed.{lines_of_parts}
use Rattle.bao_text.specs.declared.kinds.Encoding.{Encoding}
use Rattle.bao_text.specs.declared.kinds.Part.{Part}
use Rattle.bao_text.specs.declared.kinds.Part.TheVariants as part
use Rattle.bao_decode.specs.Weaving.{cut_beside}
use Rattle.bao_decode.proofs.BlobWeavings.{cut_own}
use Rattle.bao_text.specs.Cut.{claimed, cut_text}
use Rattle.bao_text.specs.Choice.{chunk_count, of_combined, of_slice}
use Rattle.bao_text.specs.Texts.{combined_text, length_text, outboard_text, slice_text, subtree_text}
use Rattle.bao_text.proofs.Everything.{length-everything}
use Rattle.bao_text.proofs.Laws.{cut_text-combined}
use Rattle.bao_check.specs.Decoded.{decoded}
use Rattle.bao_check.proofs.Written.{claimed-chosen_text, combined_accepted, slice_accepted}
use Rattle.bao_decode.specs.Copies.{IsCopyBeside}
use Rattle.bao_decode.proofs.Cuttings.{cut_text-few}
use Rattle.bao_decode.specs.Ranges.{IsPartText, first_decoded, part_bytes, written_count}
use Rattle.hex.specs.Hex.{decode_of}
use Rattle.hex.proofs.HexLemmas.{decode_of-ok}
use Rattle.determined_texts.proofs.WholeEncodings.{blob_count, blob_hash, text_is}
use Rattle.bao_command.specs.declared.fault.Fault.{Fault}
use Rattle.bao_command.specs.Effects.{KeepsButList, Lists, Writes, list_of}
use Rattle.bao_command.specs.ModeWords.{AsksForMode, GivesNoKey, HasMode, IsNoKey}
use Rattle.bao_command.specs.Outcome.{Done, IsRefusable, IsUsage, LeavesAt}
use Rattle.bao_command.specs.Refused.{IsRefused, IsRefusedGathering}
use Rattle.bao_command.specs.Status.{status_of}
use Rattle.bao_command.proofs.Telling.{file_refuses_none}
use Rattle.bao_command.specs.Tasks.{HasBadScript, HasManyFiles, HasNoCapacity, HasRoot, IsListAt, IsListRead, IsMixed, IsNoOutput, IsOfFile, IsPastOutput, IsRight, LeavesFilesOf, ListClashes, ReadsListOf, ReadsOutAs, WritesApart, line_of}
use Rattle.determined_program.specs.Commands.{IsGood}
use Rattle.determined_program.specs.Manual.{HasCollidingSlice, HasRange, IsAmongThem, IsBlobSlice, IsCopyOf, IsDoneOrFailed, IsEncodingOf}
use Rattle.determined_program.specs.Requests.{SameTask}
use Rattle.determined_program.proofs.Decoded.{beside_apart}
use Rattle.determined_program.proofs.Good.{not_usage}
use Rattle.determined_program.proofs.Known.{as_many, one_root}
use Rattle.determined_program.proofs.Judged.{accepted_apart, stored_there}
use Rattle.determined_program.proofs.PlainRequests.{AsksAlone, bare_request, plain_gathering}
use Rattle.determined_program.proofs.OwnCopies.{copy_hash, outline_is, own_copy}
use Rattle.determined_program.proofs.SliceBytes.{own_range, range_binds, range_count}
use Rattle.determined_program.proofs.Tasks.{one_request}

-- what `command` says of its run, over known files
pub record Ran (words : List Text) (at after : List ℕ → FileState) (old new : Option (List ℕ)) (sure : Type 0) (status : ℕ) : Type 0 where
  pub known : (path : List ℕ) → IsKnown (at path)
  pub most : status ≤ 4
  pub done : status ≡ 0 → Done words at after old new
  pub files : status ≢ 0 → LeavesAt words at after status
  pub fault : status ≢ 0 → status ≢ 3 → Keeps old new
  pub usage : status ≡ 2 → IsUsage words at
  pub refusal : status ≡ 1 → IsRefusable words sure at

-- without a key or a context the mode is the plain one
abbrev HasNoKey : Request → Type 0
HasNoKey request = (option_copied request.key ≡ None) × (option_copied request.key_file ≡ None) × (option_copied request.context ≡ None)

plain_mode : (at : List ℕ → FileState) (request : Request) (mode : Mode) → HasNoKey request → HasMode at request mode → mode ≡ plain
plain_mode at request mode none has =
    let own : AsksForMode at None None None mode =
    subst (λ (T : Type 0). T) (λ i. AsksForMode at (none.0 i) (none.1 i) (none.2 i) mode) has in
    cc

none_there : (o : Option (Bor Text)) → option_copied o ≡ None → o ≡ None
none_there None is = refl
none_there (Some x) is = cc

-- a task with no list has none either if its texts are the same
no_list : (task other : Task) → SameTask task other → list_of task ≡ None → list_of other ≡ None
no_list (Gather task) (Gather other) same none = none_there other.missing (sym same.7 ∙ ap (λ (list : Option (Bor Text)). option_copied list) none)
no_list task (Gather other) same none = absurd same
no_list task other same none = refl

-- a fault of a file is no verdict
no_verdict : (fault : Fault) → IsOfFile fault → status_of fault ≢ 1
no_verdict fault of_file is = file_refuses_none of_file.0 (sym (ap status_of of_file.1) ∙ is)

-- it succeeded or failed, where it is neither refused nor wrong
pub done_or_failed : (status : ℕ) → status ≤ 4 → status ≢ 1 → status ≢ 2 → IsDoneOrFailed status
done_or_failed status most one two = elim (eqb_tells status 0) [
  | inl is ↦ inl is.1
  | inr some ↦
      elim (eqb_tells status 3) [
        | inl is ↦ inr (inl is.1)
        | inr other ↦ inr (inr (omega (arith, most, one, two, some.1, other.1)))
      ]
]

-- nothing is wrong with a task's arguments, where no key is named
abbrev pub IsFine : (List ℕ → FileState) → Task → Type 0
IsFine at task =
    HasRoot task × WritesApart task × (¬ ReadsOutAs (λ ours theirs. ours ≡ theirs) None task) × (¬ IsPastOutput task) × (¬ HasManyFiles task) × (¬ IsMixed task)
    × (¬ ListClashes task) × (¬ ReadsListOf None task) × (¬ HasNoCapacity task) × (¬ HasBadScript at task)

no_some : IsSome {T = Bor Text} None → ⊥
no_some bad = cc

is_good : (at : List ℕ → FileState) (request : Request) → HasNoKey request → IsFine at request.task → IsGood at request
is_good at request none fine =
    let key : request.key ≡ None = none_there request.key none.0 in
    let key_file : request.key_file ≡ None = none_there request.key_file none.1 in
    record {
      root = fine.0;
      key = λ bad. subst (λ (k : Option (Bor Text)). IsNoKey k) key bad;
      both = λ bad. no_some (subst (λ (k : Option (Bor Text)). IsSome k) key bad.0);
      keys = λ bad. no_some (subst (λ (k : Option (Bor Text)). IsSome k) key_file bad.0);
      key_file = λ bad. subst (λ (k : Option (Bor Text)). IsSomeAnd k (λ path. GivesNoKey (at path.now))) key_file bad;
      past = fine.3;
      few = fine.4;
      mixed = fine.5;
      apart = (
        fine.1,
        fine.6,
        λ bad. fine.7 (subst (λ (k : Option (Bor Text)). ReadsListOf k request.task) key_file bad),
        λ bad. fine.2 (subst (λ (k : Option (Bor Text)). ReadsOutAs (λ ours theirs. ours ≡ theirs) k request.task) key_file bad),
      );
      capacity = fine.8;
      script = fine.9;
    }

state_known : {Z : Type 0} (found : Option (Vec ℕ Z)) → IsKnown (state_of found)
state_known None = tt
state_known (Some file) = tt

-- what is at a path of files in memory is known
pub held_known : {Y Z : Type 0} (files : BTreeMap (String Y) (Vec ℕ Z)) (path : List ℕ) → IsKnown (held_at files path)
held_known files path = state_known (get_by_text files path)

-- a blob is shorter than its encoding
below : (blob : List ℕ) → length (combined_text plain blob) < 2 ^ 63 → length blob < 2 ^ 64
below blob low =
    let size = length-everything (of_combined (length blob)) plain blob refl refl in
    omega (arith, low, size, length-append (length_text (length blob)) (subtree_text (of_combined (length blob)) plain 0 blob))

-- that of at most 65,536 chunks has fewer bytes than any file
small : (blob : List ℕ) → chunk_count (length blob) ≤ 65536 → length (combined_text plain blob) < 2 ^ 64
small blob fits =
    let size = length-everything (of_combined (length blob)) plain blob refl refl in
    omega (arith, fits, size, length-append (length_text (length blob)) (subtree_text (of_combined (length blob)) plain 0 blob))

none : ⊥ → ⊥
none bad = bad

-- what gives a root is 64 digits
pub digits_are : (digits key : List ℕ) → decode_of digits ≡ Ok key → length key ≡ 32 → IsDigits digits
digits_are digits key of size = let ok = decode_of-ok digits key of in (omega (arith, ok.2, size), ok.1)

-- OUT is neither standard output nor a file that is read
out_fine : (out file given to : Bor (List ℕ)) → file.now ≡ given.now → out.now ≡ to.now → IsNoOutput out.now → out.now ≢ file.now → IsNoOutput to.now × (to.now ≢ given.now)
out_fine out file given to same put apart unread = (subst IsNoOutput put apart, λ is. unread (put ∙ is ∙ sym same))

-- a file of that path is among those of the task
named_too : (items : List (Bor (List ℕ))) (k : ℕ) (path : List ℕ) → slice_get (map (λ file. file.now) items) k ≡ Some path
    → (item : Bor (List ℕ)) × ((slice_get items k ≡ Some item) × (item.now ≡ path))
named_too [] k path is = cc
named_too (item ∷ items) zero path is = (item, (refl, cc))
named_too (item ∷ items) (suc k) path is = named_too items k path is

named_back : (items : List (Bor (List ℕ))) (k : ℕ) (item : Bor (List ℕ)) → slice_get items k ≡ Some item → slice_get (map (λ file. file.now) items) k ≡ Some item.now
named_back [] k item is = cc
named_back (other ∷ items) zero item is = cc
named_back (other ∷ items) (suc k) item is = named_back items k item is

-- no read of what is known fails
cut_known : (contents : Option (List ℕ)) (start len : ℕ) (text : List ℕ) → IsCutAt contents ⊤ start len text → IfSome contents (λ bytes. length bytes < 2 ^ 64 → text ≡ cut_text bytes start len)
cut_known None start len text cut = tt
cut_known (Some bytes) start len text cut = λ low. elim (cut low) [ inl is ↦ is | inr lost ↦ absurd (lost.1 tt) ]

-- What comes of one task, of whatever texts.
module _ {words : List Text} {at after : List ℕ → FileState} {old new : Option (List ℕ)} {sure : Type 0} {status : ℕ} (ran : Ran words at after old new sure status) where
  -- of words that ask for one task
  module _ {task : Task} (alone : AsksAlone words task) (bare : list_of task ≡ None) where
    -- each request that they make is for a task of the same texts, without a key
    same_as : (request : Request) → AsksFor words request → SameTask task request.task × HasNoKey request
    same_as request asks =
        let same = one_request (subcommand_of program_app words) (bare_request task) request alone.asked asks in
        (same.0, (sym same.1, sym same.2, sym same.3))

    -- such a task wrote what it writes of right bytes
    pub record Wrote : Type 0 where
      pub other : Task
      pub same : SameTask task other
      pub bytes : List ℕ
      pub right : IsRight at plain other bytes
      pub writes : Writes at after plain other None bytes

    wrote : (request : Request) (mode : Mode) (bytes : List ℕ) → AsksFor words request → HasMode at request mode → IsRight at mode request.task bytes
        → Writes at after mode request.task (list_of request.task) bytes ⊎ Writes at after mode request.task None bytes → (w : Wrote) × ((w.other ≡ request.task) × (w.bytes ≡ bytes))
    wrote request mode bytes asks has right writes =
        let own = same_as request asks in
        let mode_is : mode ≡ plain = plain_mode at request mode own.1 has in
        let none : list_of request.task ≡ None = no_list task request.task own.0 bare in
        let out : Writes at after mode request.task None bytes =
        elim writes [ inl all ↦ subst (λ (list : Option (Bor Text)). Writes at after mode request.task list bytes) none all | inr out ↦ out ] in (
          record {
            other = request.task;
            same = own.0;
            bytes = bytes;
            right = subst (λ (m : Mode). IsRight at m request.task bytes) mode_is right;
            writes = subst (λ (m : Mode). Writes at after m request.task None bytes) mode_is out;
          },
          (refl, refl),
        )

    -- status 0: it did so, and printed the line of these bytes
    pub did : status ≡ 0 → (w : Wrote) × Appends old new (line_of plain w.other w.bytes)
    did is = elim (ran.done is) [
      | inl help ↦ absurd (subst (λ kinds. IsAmong help.0.0 kinds) alone.taken help.0.2)
      | inr done ↦
          let w = wrote done.0 done.2.0 done.2.1 done.1 done.2.2 done.2.4 (inl done.2.5) in
          let mode_is : done.2.0 ≡ plain = plain_mode at done.0 done.2.0 (same_as done.0 done.1).1 done.2.2 in
          (w.0, subst (λ (T : Type 0). T) (λ i. Appends old new (line_of (mode_is i) (sym w.1.0 i) (sym w.1.1 i))) done.2.6)
    ]

    no_list_kept : (request : Request) → AsksFor words request → KeepsButList at after (list_of request.task) → KeepsFiles at after
    no_list_kept request asks (inl kept) = kept
    no_list_kept request asks (inr lists) =
        subst (λ (list : Option (Bor Text)). Lists at after list (lines_of_parts lists.0)) (no_list task request.task (same_as request asks).0 bare) lists.1

    left_by : (request : Request) (fault : Fault) → AsksFor words request → LeavesFilesOf at after request fault → KeepsFiles at after ⊎ (IsOfFile fault × Wrote)
    left_by request fault asks (inl kept) = inl kept
    left_by request fault asks (inr left) = elim left.2.2 [
      | inl kept ↦ inl (no_list_kept request asks kept)
      | inr made ↦ inr (made.0, (wrote request left.2.0 made.1.0 asks left.2.1 made.1.1 made.1.2).0)
    ]

    -- at any other status it did so, or nothing
    pub left : KeepsFiles at after ⊎ Wrote
    left = elim (eqb_tells status 0) [
      | inl is ↦ inr (did is.1).0
      | inr other ↦ elim (ran.files other.1) [
        | inl kept ↦ inl kept
        | inr by ↦ elim (left_by by.0 by.2.0 by.1 by.2.2) [ inl kept ↦ inl kept | inr made ↦ inr made.1 ]
      ]
    ]

    -- status 1: nothing has changed, and such a task has something to refuse
    pub unchanged : status ≡ 1 → KeepsFiles at after × Keeps old new
    unchanged is =
        let some : status ≢ 0 = (λ no. let bad : 1 ≡ 0 = sym is ∙ no in absurd (omega (arith, bad))) in
        let other : status ≢ 3 = (λ no. let bad : 1 ≡ 3 = sym is ∙ no in absurd (omega (arith, bad))) in (
          elim (ran.files some) [
            | inl kept ↦ kept
            | inr by ↦ elim (left_by by.0 by.2.0 by.1 by.2.2) [ inl kept ↦ kept | inr made ↦ absurd (no_verdict by.2.0 made.0 (by.2.1 ∙ is)) ]
          ],
          ran.fault some other,
        )

    pub refused : status ≡ 1 → (other : Task) × SameTask task other × IsRefused sure at plain other
    refused is =
        let found = ran.refusal is in
        let own = same_as found.0 found.1 in
        let mode_is : found.2.0 ≡ plain = plain_mode at found.0 found.2.0 own.1 found.2.1 in
        (found.0.task, own.0, subst (λ (m : Mode). IsRefused sure at m found.0.task) mode_is found.2.2)

    -- status 2 never comes where nothing is wrong with the task's arguments
    pub no_usage : ((other : Task) → SameTask task other → IsFine at other) → status ≢ 2
    no_usage fine is =
        not_usage at ran.known words (λ request asks. let own = same_as request asks in is_good at request own.1 (fine request.task own.0)) (bare_request task, alone.asked) alone.taken (ran.usage is)

    pub ended : ((other : Task) → SameTask task other → IsFine at other) → IsDoneOrFailed status ⊎ (status ≡ 1)
    ended fine = elim (eqb_tells status 1) [ inl is ↦ inr is.1 | inr one ↦ inl (done_or_failed status ran.most one.1 (no_usage fine)) ]

    -- a task that has nothing to refuse
    pub ended_unrefused : ((other : Task) → SameTask task other → IsFine at other) → ((other : Task) → SameTask task other → ¬ IsRefused sure at plain other) → IsDoneOrFailed status
    ended_unrefused fine none = done_or_failed status ran.most (λ is. let bad = refused is in none bad.0 bad.1 bad.2) (no_usage fine)

    -- by what such a task comes to, of something
    module _ {X : Type 0} {Facts : X → Type 0} {line : X → List ℕ}
        (facts : (other : Task) → SameTask task other → (bytes : List ℕ) → IsRight at plain other bytes → Writes at after plain other None bytes → (x : X) × Facts x × (line_of plain other bytes ≡ line x)) where
      pub done : status ≡ 0 → (x : X) × Facts x × Appends old new (line x)
      done is =
          let all = did is in
          let x = facts all.0.other all.0.same all.0.bytes all.0.right all.0.writes in
          (x.0, x.1, subst (λ (text : List ℕ). Appends old new text) x.2 all.1)

      pub files : KeepsFiles at after ⊎ ((x : X) × Facts x)
      files = elim left [ inl kept ↦ inl kept | inr w ↦ let x = facts w.other w.same w.bytes w.right w.writes in inr (x.0, x.1) ]

  -- Of a task of the same texts as this one:
  pub hash_facts : (file : Bor (List ℕ)) (other : Task) → SameTask (Hash 0 32 file) other → (bytes : List ℕ) → IsRight at plain other bytes → Writes at after plain other None bytes
      → (x : List ℕ) × ((at file.now ≡ Stored x) × KeepsFiles at after) × (line_of plain other bytes ≡ digits_line (hash plain x))
  hash_facts file (Hash from count given) same bytes right writes = (
    bytes,
    (stored_there (at file.now) bytes (ran.known file.now) (subst (λ (path : List ℕ). AreOf (at path) bytes) (sym same.2) right), writes),
    (λ i. digits_line (stream plain bytes (sym same.0 i) (sym same.1 i))) ∙ ap digits_line (sym (hash-stream plain bytes)),
  )
  hash_facts file other same bytes right writes = absurd same

  pub hash_fine : (file : Bor (List ℕ)) (other : Task) → SameTask (Hash 0 32 file) other → IsFine at other
  hash_fine file (Hash from count given) same = (tt, tt, none, λ past. past (omega (arith, same.0, same.1)), none, none, none, none, none, none)
  hash_fine file other same = absurd same

  pub hash_unrefused : (file : Bor (List ℕ)) (other : Task) → SameTask (Hash 0 32 file) other → ¬ IsRefused sure at plain other
  hash_unrefused file (Hash from count given) same bad = bad
  hash_unrefused file other same bad = absurd same

  pub encode_facts : (encoding : Encoding) (file out : Bor (List ℕ)) (other : Task) → SameTask (Encode encoding file out) other → (bytes : List ℕ) → IsRight at plain other bytes
      → Writes at after plain other None bytes
      → (x : List ℕ) × ((at file.now ≡ Stored x) × Puts at after out.now (Some (encoding_text plain encoding x))) × (line_of plain other bytes ≡ digits_line (hash plain x))
  encode_facts encoding file out (Encode kind given to) same bytes right writes = (
    bytes,
    (
      stored_there (at file.now) bytes (ran.known file.now) (subst (λ (path : List ℕ). AreOf (at path) bytes) (sym same.1) right),
      subst (λ (T : Type 0). T) (λ i. Puts at after (sym same.2 i) (Some (encoding_text plain (sym same.0 i) bytes))) writes,
    ),
    refl,
  )
  encode_facts encoding file out other same bytes right writes = absurd same

  pub encode_fine : (encoding : Encoding) (file out : Bor (List ℕ)) → IsNoOutput out.now → out.now ≢ file.now → (other : Task) → SameTask (Encode encoding file out) other → IsFine at other
  encode_fine encoding file out apart unread (Encode kind given to) same =
      let own = out_fine out file given to same.1 same.2 apart unread in
      (tt, own.0, λ reads. elim reads [ inl key ↦ key | inr (inl beside) ↦ beside | inr (inr is) ↦ own.1 is ], none, none, none, none, none, none, none)
  encode_fine encoding file out apart unread other same = absurd same

  pub encode_unrefused : (encoding : Encoding) (file out : Bor (List ℕ)) (other : Task) → SameTask (Encode encoding file out) other → ¬ IsRefused sure at plain other
  encode_unrefused encoding file out (Encode kind given to) same bad = bad
  encode_unrefused encoding file out other same bad = absurd same

  -- decoding, of a root with these digits
  module _ (root file out : Bor (List ℕ)) (part : Part) where
    pub decode_fine : IsDigits root.now → IsNoOutput out.now → out.now ≢ file.now → (other : Task) → SameTask (Decode root part file out) other → IsFine at other
    decode_fine digits apart unread (Decode given_root given_part given to) same =
        let own = out_fine out file given to same.2 same.3 apart unread in
        (subst IsDigits same.0 digits, own.0, λ reads. elim reads [ inl key ↦ key | inr (inl beside) ↦ beside | inr (inr is) ↦ own.1 is ], none, none, none, none, none, none, none)
    decode_fine digits apart unread other same = absurd same

    -- the part is accepted under the root, and was written
    pub record Decoded (key text : List ℕ) : Type 0 where
      pub there : at file.now ≡ Stored text
      pub accepted : IsPartText plain key part text
      pub valid : AreBytes text
      pub puts : Puts at after out.now (Some (part_bytes part text))

    decode_facts : (key : List ℕ) → decode_of root.now ≡ Ok key → (other : Task) → SameTask (Decode root part file out) other → (bytes : List ℕ) → IsRight at plain other bytes
        → Writes at after plain other None bytes → (x : List ℕ) × Decoded key x × (line_of plain other bytes ≡ ok_line (written_count part x))
    decode_facts key of (Decode given_root given_part given to) same bytes right writes =
        let first = right.0.1.0 in
        let key_is : right.0.0 ≡ key = (let digits = same.0 in cc) in (
          bytes,
          record {
            there = stored_there (at file.now) bytes (ran.known file.now) (subst (λ (path : List ℕ). AreOf (at path) bytes) (sym same.2) right.1);
            accepted = subst (λ (T : Type 0). T) (λ i. IsPartText plain (key_is i) (sym same.1 i) bytes) right.0.1.1.0;
            valid = right.0.1.1.1;
            puts = subst (λ (T : Type 0). T) (λ i. Puts at after (sym same.3 i) (Some (part_bytes (sym same.1 i) bytes))) writes;
          },
          ap (λ (p : Part). ok_line (written_count p bytes)) (sym same.1),
        )
    decode_facts key of other same bytes right writes = absurd same

    -- it is refused only where it isn't accepted
    pub decode_refused : (key text : List ℕ) → decode_of root.now ≡ Ok key → at file.now ≡ Stored text → length text < 2 ^ 63 → IsPartText plain key part text
        → (other : Task) → SameTask (Decode root part file out) other → IsRefused sure at plain other → ⊥
    decode_refused key text of there low accepted (Decode given_root given_part given to) same bad =
        let first = bad.1.0 in
        let key_is : bad.0 ≡ key = (let digits = same.0 in cc) in
        let fault = bad.1.1.1 (ran.known to.now) text (subst (λ (path : List ℕ). at path ≡ Stored text) same.2 there) in
        accepted_apart plain bad.0 given_part text low (subst (λ (T : Type 0). T) (λ i. IsPartText plain (sym key_is i) (same.1 i) text) accepted) fault
    decode_refused key text of there low accepted other same bad = absurd same

  -- of a whole encoding
  module _ (root file out : Bor (List ℕ)) (key : List ℕ) (of : decode_of root.now ≡ Ok key) (are : AreBytes key) (size : length key ≡ 32) where
    pub whole_facts : (other : Task) → SameTask (Decode root part.Whole file out) other → (bytes : List ℕ) → IsRight at plain other bytes → Writes at after plain other None bytes
        → (x : List ℕ) × (IsEncodingOf at file.now key x × Puts at after out.now (Some x)) × (line_of plain other bytes ≡ ok_line (length x))
    whole_facts other same bytes right writes =
        let own = decode_facts root file out part.Whole key of other same bytes right writes in
        let text : List ℕ = own.0 in
        let blob : List ℕ = decoded text 0 (2 ^ 64 - 1) in
        let count : length blob ≡ claimed text = blob_count plain key text own.1.valid are size own.1.accepted in
        let zero : first_decoded part.Whole (claimed text) ≡ 0 = omega arith in
        let start : 0 - first_decoded part.Whole (claimed text) ≡ 0 = omega arith in
        let stop : claimed text - first_decoded part.Whole (claimed text) ≡ claimed text = omega (arith, zero) in
        let all_of_it : part_bytes part.Whole text ≡ blob = (λ i. drop (start i) (take (stop i) blob)) ∙ take_all (claimed text) blob (omega (arith, count)) in (
          blob,
          (
            (own.1.there ∙ ap (λ (t : List ℕ). Stored t) (text_is plain key text own.1.valid are size own.1.accepted), blob_hash plain key text own.1.valid are size own.1.accepted),
            subst (λ (written : List ℕ). Puts at after out.now (Some written)) all_of_it own.1.puts,
          ),
          own.2 ∙ ap ok_line (let written : written_count part.Whole text ≡ length blob = omega (arith, count) in written),
        )

    pub whole_refused : IsKeyed plain → (other : Task) → SameTask (Decode root part.Whole file out) other → IsRefused sure at plain other
        → (blob : List ℕ) → length (combined_text plain blob) < 2 ^ 63 → ¬ IsEncodingOf at file.now key blob
    whole_refused keyed other same bad blob low is =
        decode_refused root file out part.Whole key (combined_text plain blob) of is.0 low
        (subst (λ (k : List ℕ). IsPartText plain k part.Whole (combined_text plain blob)) is.1 (combined_accepted plain blob keyed (below blob low))) other same bad

  -- a copy beside its outboard encoding
  module _ (root outboard copy out : Bor (List ℕ)) (key : List ℕ) (of : decode_of root.now ≡ Ok key) where
    pub copy_facts : AreBytes key → length key ≡ 32 → ((bytes : List ℕ) → at outboard.now ≡ Stored bytes → AreBytes bytes) → ((bytes : List ℕ) → at copy.now ≡ Stored bytes → AreBytes bytes)
        → (other : Task) → SameTask (DecodeCopy root outboard copy out) other → (bytes : List ℕ) → IsRight at plain other bytes → Writes at after plain other None bytes
        → (x : List ℕ) × (IsCopyOf at outboard.now copy.now key x × Puts at after out.now (Some x)) × (line_of plain other bytes ≡ ok_line (length x))
    copy_facts are size beside_bytes copy_bytes (DecodeCopy given_root beside given to) same bytes right writes =
        let first = right.1.0 in
        let key_is : right.0 ≡ key = (let digits = same.0 in cc) in
        let outline : List ℕ = right.1.1.0 in
        let held : at outboard.now ≡ Stored outline = stored_there (at outboard.now) outline (ran.known outboard.now) (subst (λ (path : List ℕ). AreOf (at path) outline) (sym same.1) right.1.1.1) in
        let there : at copy.now ≡ Stored bytes = stored_there (at copy.now) bytes (ran.known copy.now) (subst (λ (path : List ℕ). AreOf (at path) bytes) (sym same.2) right.1.1.2) in
        let good : IsCopyBeside plain key outline bytes = subst (λ (k : List ℕ). IsCopyBeside plain k outline bytes) key_is right.1.1.3 in
        let valid : AreBytes outline = beside_bytes outline held in
        let copied : AreBytes bytes = copy_bytes bytes there in (
          bytes,
          (
            (held ∙ ap (λ (text : List ℕ). Stored text) (outline_is plain key outline bytes good valid copied are size), there, copy_hash plain key outline bytes good valid copied are size),
            subst (λ (path : List ℕ). Puts at after path (Some bytes)) (sym same.3) writes,
          ),
          refl,
        )
    copy_facts are size beside_bytes copy_bytes other same bytes right writes = absurd same

    pub copy_fine : IsDigits root.now → IsNoOutput out.now → out.now ≢ outboard.now → out.now ≢ copy.now → (other : Task) → SameTask (DecodeCopy root outboard copy out) other → IsFine at other
    copy_fine digits apart unread uncopied (DecodeCopy given_root beside given to) same =
        let one = out_fine out outboard beside to same.1 same.3 apart unread in
        let two = out_fine out copy given to same.2 same.3 apart uncopied in
        (subst IsDigits same.0 digits, one.0, λ reads. elim reads [ inl none ↦ none | inr (inl is) ↦ one.1 is | inr (inr is) ↦ two.1 is ], none, none, none, none, none, none, none)
    copy_fine digits apart unread uncopied other same = absurd same

    pub copy_refused : IsKeyed plain → (other : Task) → SameTask (DecodeCopy root outboard copy out) other → IsRefused sure at plain other
        → (blob : List ℕ) → length blob < 2 ^ 64 → ¬ IsCopyOf at outboard.now copy.now key blob
    copy_refused keyed (DecodeCopy given_root beside given to) same bad blob short is =
        let first = bad.1.0 in
        let key_is : bad.0 ≡ key = (let digits = same.0 in cc) in
        let outline : List ℕ = outboard_text plain blob in
        let fault = bad.1.1.1 (ran.known to.now) outline blob (subst (λ (path : List ℕ). at path ≡ Stored outline) same.1 is.0) (subst (λ (path : List ℕ). at path ≡ Stored blob) same.2 is.1) in
        beside_apart plain bad.0 outline blob fault.0 fault.2 (subst (λ (k : List ℕ). IsCopyBeside plain k outline blob) (is.2 ∙ sym key_is) (own_copy plain blob keyed short))
    copy_refused keyed other same bad blob short is = absurd same

  -- a slice
  module _ (root : Bor (List ℕ)) (start len : ℕ) (file out : Bor (List ℕ)) (key : List ℕ) (of : decode_of root.now ≡ Ok key) (keyed : IsKeyed plain) where
    -- the bytes of its range
    abbrev range_of : List ℕ → List ℕ
    range_of slice = part_bytes (part.Slice start len) slice

    has_range : (slice : List ℕ) → IsPartText plain key (part.Slice start len) slice → AreBytes slice → HasRange key start len slice (range_of slice)
    has_range slice accepted valid = record { accepted = accepted; binds = range_binds plain key slice start len accepted keyed valid }

    -- that of a blob is accepted, and shorter than its encoding
    own_slice : (blob : List ℕ) → length (combined_text plain blob) < 2 ^ 63 → hash plain blob ≡ key
        → IsPartText plain key (part.Slice start len) (slice_text plain blob start len) × (length (slice_text plain blob start len) < 2 ^ 63)
    own_slice blob low is = (
      subst (λ (k : List ℕ). IsPartText plain k (part.Slice start len) (slice_text plain blob start len)) is (slice_accepted plain blob start len keyed (below blob low)),
      omega (arith, low, cut_text-few (combined_text plain blob) start len, ap (λ (text : List ℕ). length text) (cut_text-combined plain blob start len (below blob low))),
    )

    pub slice_facts : (other : Task) → SameTask (Decode root (part.Slice start len) file out) other → (bytes : List ℕ) → IsRight at plain other bytes → Writes at after plain other None bytes
        → (slice : List ℕ) × ((at file.now ≡ Stored slice) × HasRange key start len slice (range_of slice) × Puts at after out.now (Some (range_of slice)))
        × (line_of plain other bytes ≡ ok_line (length (range_of slice)))
    slice_facts other same bytes right writes =
        let own = decode_facts root file out (part.Slice start len) key of other same bytes right writes in
        (own.0, (own.1.there, has_range own.0 own.1.accepted own.1.valid, own.1.puts), own.2 ∙ ap ok_line (sym (range_count plain key own.0 start len own.1.accepted)))

    pub slice_refused : (other : Task) → SameTask (Decode root (part.Slice start len) file out) other → IsRefused sure at plain other
        → (blob : List ℕ) → length (combined_text plain blob) < 2 ^ 63 → ¬ IsBlobSlice at file.now key start len blob
    slice_refused other same bad blob low is =
        let own = own_slice blob low is.1 in
        decode_refused root file out (part.Slice start len) key (slice_text plain blob start len) of is.0 own.1 own.0 other same bad

    -- that of a blob has its bytes of the range
    pub slice_same : (slice : List ℕ) → at file.now ≡ Stored slice → (blob : List ℕ) → length (combined_text plain blob) < 2 ^ 63 → IsBlobSlice at file.now key start len blob
        → range_of slice ≡ piece blob start len
    slice_same slice there blob low is =
        let also = is.0 in
        let same : slice ≡ slice_text plain blob start len = cc in
        ap range_of same ∙ own_range plain blob start len keyed (below blob low)

    -- the slice that is cut out of the file
    abbrev IsCut : List ℕ → Type 0
    IsCut slice = (encoding : List ℕ) × (at file.now ≡ Stored encoding) × (length encoding < 2 ^ 64 → slice ≡ cut_text encoding start len)

    pub cut_facts : (other : Task) → SameTask (CutSlice root start len None file out) other → (bytes : List ℕ) → IsRight at plain other bytes → Writes at after plain other None bytes
        → (slice : List ℕ) × (HasRange key start len slice (range_of slice) × Puts at after out.now (Some slice) × IsCut slice) × (line_of plain other bytes ≡ ok_line (length (range_of slice)))
    cut_facts (CutSlice given_root from count None given to) same bytes right writes =
        let first = right.0.1.0 in
        let key_is : right.0.0 ≡ key = (let digits = same.0 in cc) in
        let accepted : IsPartText plain key (part.Slice start len) bytes =
        subst (λ (T : Type 0). T) (λ i. IsPartText plain (key_is i) (part.Slice (sym same.1 i) (sym same.2 i)) bytes) right.0.1.1.0 in (
          bytes,
          (
            has_range bytes accepted right.0.1.1.1,
            subst (λ (path : List ℕ). Puts at after path (Some bytes)) (sym same.5) writes,
            (
              right.1.0,
              stored_there (at file.now) right.1.0 (ran.known file.now) (subst (λ (path : List ℕ). AreOf (at path) right.1.0) (sym same.4) right.1.1),
              λ low. right.1.2 low ∙ (λ i. cut_text right.1.0 (sym same.1 i) (sym same.2 i)),
            ),
          ),
          (λ i. ok_line (written_count (part.Slice (sym same.1 i) (sym same.2 i)) bytes)) ∙ ap ok_line (sym (range_count plain key bytes start len accepted)),
        )
    cut_facts (CutSlice given_root from count (Some beside) given to) same bytes right writes = let bad : None ≡ Some beside.now = same.3 in cc
    cut_facts other same bytes right writes = absurd same

    -- of the encoding of a blob it is the blob's
    pub cut_same : (slice : List ℕ) → HasRange key start len slice (range_of slice) → IsCut slice → (blob : List ℕ) → length (combined_text plain blob) < 2 ^ 63 → IsEncodingOf at file.now key blob
        → (slice ≡ slice_text plain blob start len) × (length (range_of slice) ≡ length (piece blob start len))
    cut_same slice range cut blob low is =
        let both = cut.1 in
        let also = is.0 in
        let encoding : cut.0 ≡ combined_text plain blob = cc in
        let same : slice ≡ slice_text plain blob start len =
        cut.2 (omega (arith, low, ap (λ (text : List ℕ). length text) encoding)) ∙ ap (λ (text : List ℕ). cut_text text start len) encoding ∙ cut_text-combined plain blob start len (below blob low) in
        let claims : claimed slice ≡ length blob = ap claimed same ∙ claimed-chosen_text (of_slice (length blob) start len) plain blob (below blob low) in
        (same, omega (arith, range_count plain key slice start len range.accepted, claims, length-take len (drop start blob), length-drop start blob))

    pub cut_fine : IsDigits root.now → IsNoOutput out.now → out.now ≢ file.now → (other : Task) → SameTask (CutSlice root start len None file out) other → IsFine at other
    cut_fine digits apart unread (CutSlice given_root from count None given to) same =
        let own = out_fine out file given to same.4 same.5 apart unread in
        (subst IsDigits same.0 digits, own.0, λ reads. elim reads [ inl bad ↦ bad | inr (inl beside) ↦ beside | inr (inr is) ↦ own.1 is ], none, none, none, none, none, none, none)
    cut_fine digits apart unread (CutSlice given_root from count (Some beside) given to) same = let bad : None ≡ Some beside.now = same.3 in cc
    cut_fine digits apart unread other same = absurd same

    pub cut_refused : (other : Task) → SameTask (CutSlice root start len None file out) other → IsRefused sure at plain other
        → (blob : List ℕ) → length (combined_text plain blob) < 2 ^ 63 → ¬ IsEncodingOf at file.now key blob
    cut_refused (CutSlice given_root from count None given to) same bad blob low is =
        let first = bad.1.0 in
        let key_is : bad.0 ≡ key = (let digits = same.0 in cc) in
        let encoding : List ℕ = combined_text plain blob in
        let fault = bad.1.1.1 (ran.known to.now) encoding (subst (λ (path : List ℕ). at path ≡ Stored encoding) same.4 is.0) low in
        let own = own_slice blob low is.1 in
        let cut : slice_text plain blob start len ≡ cut_text encoding from count = sym (cut_text-combined plain blob start len (below blob low)) ∙ (λ i. cut_text encoding (same.1 i) (same.2 i)) in
        accepted_apart plain bad.0 (part.Slice from count) (cut_text encoding from count) (omega (arith, own.1, ap (λ (text : List ℕ). length text) cut))
        (subst (λ (T : Type 0). T) (λ i. IsPartText plain (sym key_is i) (part.Slice (same.1 i) (same.2 i)) (cut i)) own.0) fault
    cut_refused (CutSlice given_root from count (Some beside) given to) same bad blob low is = let no : None ≡ Some beside.now = same.3 in cc
    cut_refused other same bad blob low is = absurd same

    -- The same of a copy, beside an outboard encoding.
    module _ (outboard : Bor (List ℕ)) where
      abbrev IsCutOfBoth : List ℕ → Type 0
      IsCutOfBoth slice = (outline : List ℕ) × (bytes : List ℕ) × (at outboard.now ≡ Stored outline) × (at file.now ≡ Stored bytes) × (slice ≡ cut_beside outline bytes start len)

      pub beside_facts : (other : Task) → SameTask (CutSlice root start len (Some outboard) file out) other → (bytes : List ℕ) → IsRight at plain other bytes → Writes at after plain other None bytes
          → (slice : List ℕ) × (HasRange key start len slice (range_of slice) × Puts at after out.now (Some slice) × IsCutOfBoth slice) × (line_of plain other bytes ≡ ok_line (length (range_of slice)))
      beside_facts (CutSlice given_root from count (Some beside) given to) same bytes right writes =
          let first = right.0.1.0 in
          let key_is : right.0.0 ≡ key = (let digits = same.0 in cc) in
          let named : outboard.now ≡ beside.now = (let is : Some outboard.now ≡ Some beside.now = same.3 in cc) in
          let accepted : IsPartText plain key (part.Slice start len) bytes =
          subst (λ (T : Type 0). T) (λ i. IsPartText plain (key_is i) (part.Slice (sym same.1 i) (sym same.2 i)) bytes) right.0.1.1.0 in (
            bytes,
            (
              has_range bytes accepted right.0.1.1.1,
              subst (λ (path : List ℕ). Puts at after path (Some bytes)) (sym same.5) writes,
              (
                right.1.0,
                right.1.1,
                stored_there (at outboard.now) right.1.0 (ran.known outboard.now) (subst (λ (path : List ℕ). AreOf (at path) right.1.0) (sym named) right.1.2),
                stored_there (at file.now) right.1.1 (ran.known file.now) (subst (λ (path : List ℕ). AreOf (at path) right.1.1) (sym same.4) right.1.3),
                right.1.4 (ran.known beside.now) (ran.known given.now) ∙ (λ i. cut_beside right.1.0 right.1.1 (sym same.1 i) (sym same.2 i)),
              ),
            ),
            (λ i. ok_line (written_count (part.Slice (sym same.1 i) (sym same.2 i)) bytes)) ∙ ap ok_line (sym (range_count plain key bytes start len accepted)),
          )
      beside_facts (CutSlice given_root from count None given to) same bytes right writes = let bad : Some outboard.now ≡ None = same.3 in cc
      beside_facts other same bytes right writes = absurd same

      pub beside_same : (slice : List ℕ) → HasRange key start len slice (range_of slice) → IsCutOfBoth slice → (blob : List ℕ) → length (combined_text plain blob) < 2 ^ 63
          → IsCopyOf at outboard.now file.now key blob → (slice ≡ slice_text plain blob start len) × (length (range_of slice) ≡ length (piece blob start len))
      beside_same slice range cut blob low is =
          let held = cut.2 in
          let there = cut.3 in
          let first = is.0 in
          let second = is.1 in
          let outline_is : cut.0 ≡ outboard_text plain blob = cc in
          let copy_is : cut.1 ≡ blob = cc in
          let same : slice ≡ slice_text plain blob start len = cut.4 ∙ (λ i. cut_beside (outline_is i) (copy_is i) start len) ∙ cut_own plain blob start len (below blob low) in
          let claims : claimed slice ≡ length blob = ap claimed same ∙ claimed-chosen_text (of_slice (length blob) start len) plain blob (below blob low) in
          (same, omega (arith, range_count plain key slice start len range.accepted, claims, length-take len (drop start blob), length-drop start blob))

      pub beside_fine : IsDigits root.now → IsNoOutput out.now → out.now ≢ outboard.now → out.now ≢ file.now → (other : Task) → SameTask (CutSlice root start len (Some outboard) file out) other
          → IsFine at other
      beside_fine digits apart unread uncopied (CutSlice given_root from count (Some beside) given to) same =
          let named : outboard.now ≡ beside.now = (let is : Some outboard.now ≡ Some beside.now = same.3 in cc) in
          let one = out_fine out outboard beside to named same.5 apart unread in
          let two = out_fine out file given to same.4 same.5 apart uncopied in
          (subst IsDigits same.0 digits, two.0, λ reads. elim reads [ inl bad ↦ bad | inr (inl is) ↦ one.1 is | inr (inr is) ↦ two.1 is ], none, none, none, none, none, none, none)
      beside_fine digits apart unread uncopied (CutSlice given_root from count None given to) same = let bad : Some outboard.now ≡ None = same.3 in cc
      beside_fine digits apart unread uncopied other same = absurd same

      pub beside_refused : (other : Task) → SameTask (CutSlice root start len (Some outboard) file out) other → IsRefused sure at plain other
          → (blob : List ℕ) → length (combined_text plain blob) < 2 ^ 63 → ¬ IsCopyOf at outboard.now file.now key blob
      beside_refused (CutSlice given_root from count (Some beside) given to) same bad blob low is =
          let first = bad.1.0 in
          let key_is : bad.0 ≡ key = (let digits = same.0 in cc) in
          let named : outboard.now ≡ beside.now = (let both : Some outboard.now ≡ Some beside.now = same.3 in cc) in
          let outline : List ℕ = outboard_text plain blob in
          let fault = bad.1.1.1 (ran.known to.now) outline blob (subst (λ (path : List ℕ). at path ≡ Stored outline) named is.0) (subst (λ (path : List ℕ). at path ≡ Stored blob) same.4 is.1) in
          let own = own_slice blob low is.2 in
          let cut : slice_text plain blob start len ≡ cut_beside outline blob from count = sym (cut_own plain blob start len (below blob low)) ∙ (λ i. cut_beside outline blob (same.1 i) (same.2 i)) in
          accepted_apart plain bad.0 (part.Slice from count) (cut_beside outline blob from count) (omega (arith, own.1, ap (λ (text : List ℕ). length text) cut))
          (subst (λ (T : Type 0). T) (λ i. IsPartText plain (sym key_is i) (part.Slice (same.1 i) (same.2 i)) (cut i)) own.0) fault
      beside_refused (CutSlice given_root from count None given to) same bad blob low is = let no : Some outboard.now ≡ None = same.3 in cc
      beside_refused other same bad blob low is = absurd same

  -- gathering
  module _ (root out : Bor (List ℕ)) (files : Vec (Bor (List ℕ)) Global) where
    pub gather_fine : IsDigits root.now → IsNoOutput out.now → length files.items ≤ 64 → (other : Task) → SameTask (Gather (plain_gathering root files out)) other → IsFine at other
    gather_fine digits apart few (Gather task) same =
        let list : task.missing ≡ None = none_there task.missing (sym same.7) in
        let beside : task.outboard ≡ None = none_there task.outboard (sym same.4) in (
          subst IsDigits same.0 digits,
          subst IsNoOutput same.9 apart,
          λ reads. elim reads [ inl key ↦ key | inr (inl named) ↦ subst (λ (o : Option (Bor (List ℕ))). IsSomeAnd o (λ path. task.out.now ≡ path.now)) beside named | inr (inr file) ↦ file ],
          none,
          λ many. omega (arith, many, few, as_many files.items task.files.items same.8),
          λ mixed. mixed.1 (sym same.2),
          λ clash. subst (λ (o : Option (Bor (List ℕ))). IsListAt task.out.now o) list clash,
          λ reads. subst (λ (o : Option (Bor (List ℕ))). IsListRead None task.outboard task.files.items o) list reads,
          none,
          none,
        )
    gather_fine digits apart few other same = absurd same

    -- what was put before nothing else changed
    put_last : (between : List ℕ → FileState) (path : List ℕ) (text : List ℕ) → Puts at between path (Some text) → KeepsFiles between after → Puts at after path (Some text)
    put_last between path text puts kept = record { put = λ k. kept path ∙ puts.put k; kept = λ other apart. kept other ∙ puts.kept other apart }

    pub gather_facts : (key : List ℕ) → decode_of root.now ≡ Ok key → (other : Task) → SameTask (Gather (plain_gathering root files out)) other → (bytes : List ℕ) → IsRight at plain other bytes
        → Writes at after plain other None bytes → (x : List ℕ) × ((hash plain x ≡ key) × Puts at after out.now (Some x)) × (line_of plain other bytes ≡ ok_line (length x))
    gather_facts key of (Gather task) same bytes right writes =
        let own = right.1.0.0 in
        let first = own.1.0 in
        let key_is : own.0 ≡ key = (let digits = same.0 in cc) in
        let puts : Puts at after task.out.now (Some (gathered_text task.encode plain bytes)) = put_last writes.0 task.out.now (gathered_text task.encode plain bytes) writes.1 writes.2 in
        (bytes, (own.1.1 ∙ key_is, subst (λ (T : Type 0). T) (λ i. Puts at after (sym same.9 i) (Some (gathered_text (sym same.6 i) plain bytes))) puts), refl)
    gather_facts key of other same bytes right writes = absurd same

    pub gather_enough : sure → (key : Root32) → decode_of root.now ≡ Ok key.0 → (other : Task) → SameTask (Gather (plain_gathering root files out)) other → IsRefused sure at plain other
        → (blob : List ℕ) → AreBytes blob → hash plain blob ≡ key.0 → chunk_count (length blob) ≤ 65536 → IsAmongThem at (map (λ file. file.now) files.items) blob
        → HasCollidingSlice at (map (λ file. file.now) files.items) key.0 blob
    gather_enough there key of (Gather task) same bad blob are is fits among =
        let key_is : bad.0 ≡ key = one_root task.root.now root.now bad.0 key (sym same.0) bad.1.0 of in
        let beside : task.outboard ≡ None = none_there task.outboard (sym same.4) in
        let grain = if task.salvage then ByChunk else ByGroup in
        let none : IsRefusedGathering sure at plain grain false 65536 None task.files.items task.out.now key =
        subst (λ (T : Type 0). T) (λ i. IsRefusedGathering sure at plain grain (sym same.3 i) (sym same.2 i) (beside i) task.files.items task.out.now (key_is i)) bad.1.1 in
        let item = named_too task.files.items among.0 among.1 (ap (λ (paths : List (List ℕ)). slice_get paths among.0) (sym same.8) ∙ among.2) in
        let pair : HasCollision (IsFromFile Slices (fixed_as key plain 65536) false at task.files.items) (fixed_as key plain 65536) blob =
        none there (ran.known task.out.now) blob (record { bytes = are; root = is }) (inr fits)
        (inl ((among.0, item.0, item.1.0, ap is_regular item.1.1 ∙ among.3, ap at item.1.1 ∙ among.4), small blob fits)) in
        record {
          start = pair.piece.start;
          len = pair.piece.len;
          slice = pair.piece.text;
          cut = (
            most_bytes Slices pair.from.0,
            pair.from.2.place,
            pair.from.2.holder.now,
            ap (λ (paths : List (List ℕ)). slice_get paths pair.from.2.place) same.8 ∙ named_back task.files.items pair.from.2.place pair.from.2.holder pair.from.2.there,
            cut_known (taken_bytes (is_regular pair.from.2.holder.now) (most_bytes Slices pair.from.0) (at pair.from.2.holder.now)) pair.piece.start pair.piece.len pair.piece.text pair.from.2.given,
          );
          bytes = pair.accepted.bytes;
          accepted = pair.accepted.accepted;
          pair = pair.pair;
        }
    gather_enough there key of other same bad blob are is fits among = absurd same
