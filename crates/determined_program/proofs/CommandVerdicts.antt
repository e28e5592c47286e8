-- Arguments that one run refuses are neither done nor judged by another one, where all files are known.
use Rattle.std.specs.Borrow.{Bor}
use Rattle.std.proofs.Common.{◌≡◌, ◌≢◌, ◌⊎◌, ◌≤◌, ℕ, List, Option, None, Some, false, true, IsSome, IsSomeAnd, inl, inr, arith, refl, sym, ap, subst}
use Rattle.std.specs.Option.{option_copied}
use Rattle.std.proofs.lemmas.Bool.Decides.{eqb_tells}
use Rattle.b3tree.specs.declared.mode.Mode.{Mode}
use Rattle.clap.specs.Words.{Text, subcommand_of}
use Rattle.bao_files.specs.Disks.{FileState, Absent, IsKnown, Stored, Unknown}
use Rattle.bao_files.specs.Keys.{GivesKey}
use Rattle.bao_files.specs.Printed.{IsDigits}
use Rattle.bao_request.specs.CommandLine.{AsksFor, AsksForHelp, program_app}
use Rattle.bao_request.specs.declared.tasks.Request.{Request}
use Rattle.bao_request.specs.declared.tasks.Task.{Task}
use Rattle.bao_request.specs.declared.tasks.Task.TheVariants.{Hash, Encode, CutSlice, Decode, DecodeCopy, Gather, Replay}
use Rattle.bao_command.specs.ModeWords.{AsksForMode, GivesNoKey, IsKeyedIn, IsNoKey}
use Rattle.bao_command.specs.Outcome.{ArePassed, AreRefused, IsUsage}
use Rattle.bao_command.specs.Tasks.{HasManyFiles, HasRoot, IsMixed, IsNoOutput, IsPassed, IsPastOutput, ListClashes, ReadsListOf, ReadsOne, ReadsOutAs, WritesApart}
use Rattle.determined_program.proofs.Keys.{one_key}
use Rattle.determined_program.proofs.Tasks.{one_request}
use Rattle.determined_program.specs.Requests.{SameRequest, SameTask}
use Rattle.determined_program.specs.Commands.{IsFair, IsGood, IsOfKnown, IsOpen, SameVerdict}
use Rattle.determined_program.proofs.Good.{not_due}
use Rattle.determined_program.proofs.Known.{as_many}

-- a file that gives a key gives no other answer
keyed_given : (state : FileState) (m : Mode) → IsKnown state → IsKeyedIn state m → GivesNoKey state → ⊥
keyed_given Unknown m known keyed none = known
keyed_given Absent m known keyed none = none
keyed_given (Stored s) m known keyed none =
    let no : None ≡ Some keyed.2.0 = one_key s None (Some keyed.2.0) none (subst (λ (b : List ℕ). GivesKey b (Some keyed.2.0)) keyed.1 keyed.2.1) in
    cc

none_is_some : IsSome {T = Bor (List ℕ)} None → ⊥
none_is_some some = let no : false ≡ true = some in cc

-- a file that is named is so by its path
some_same : (P : List ℕ → Type 0) (a b : Option (Bor (List ℕ))) → option_copied a ≡ option_copied b → IsSomeAnd b (λ path. P path.now) → IsSomeAnd a (λ path. P path.now)
some_same P None None same is = is
some_same P None (Some b) same is = absurd (let no = same in cc)
some_same P (Some a) None same is = absurd is
some_same P (Some a) (Some b) same is =
    let text : Some a.now ≡ Some b.now = same in
    let path : a.now ≡ b.now = cc in
    subst P (sym path) is

one_same : (out out' : List ℕ) (k k' o o' f f' : Option (Bor (List ℕ))) → out ≡ out' → option_copied k ≡ option_copied k' → option_copied o ≡ option_copied o' → option_copied f ≡ option_copied f'
    → ReadsOne (λ path. out' ≡ path) k' o' f' → ReadsOne (λ path. out ≡ path) k o f
one_same out out' k k' o o' f f' outs keys boards files (inl key) = inl (some_same (λ path. out ≡ path) k k' keys (subst (λ (n : List ℕ). IsSomeAnd k' (λ path. n ≡ path.now)) (sym outs) key))
one_same out out' k k' o o' f f' outs keys boards files (inr (inl board)) =
    inr (inl (some_same (λ path. out ≡ path) o o' boards (subst (λ (n : List ℕ). IsSomeAnd o' (λ path. n ≡ path.now)) (sym outs) board)))
one_same out out' k k' o o' f f' outs keys boards files (inr (inr file)) =
    inr (inr (some_same (λ path. out ≡ path) f f' files (subst (λ (n : List ℕ). IsSomeAnd f' (λ path. n ≡ path.now)) (sym outs) file)))

-- OUT is read by both or by neither
out_read : (k k' : Option (Bor (List ℕ))) (r s : Task) → option_copied k ≡ option_copied k' → SameTask r s → ReadsOutAs (λ ours theirs. ours ≡ theirs) k' s → ReadsOutAs (λ ours theirs. ours ≡ theirs) k r
out_read k k' (Hash from count file) (Hash from' count' file') keys same read = absurd read
out_read k k' (Encode encoding file out) (Encode encoding' file' out') keys same read = one_same out.now out'.now k k' None None (Some file) (Some file') same.2 keys refl (ap (λ (n : List ℕ). Some n) same.1) read
out_read k k' (CutSlice root start len outboard file out) (CutSlice root' start' len' outboard' file' out') keys same read =
    one_same out.now out'.now k k' outboard outboard' (Some file) (Some file') same.5 keys same.3 (ap (λ (n : List ℕ). Some n) same.4) read
out_read k k' (Decode root part file out) (Decode root' part' file' out') keys same read =
    one_same out.now out'.now k k' None None (Some file) (Some file') same.3 keys refl (ap (λ (n : List ℕ). Some n) same.2) read
out_read k k' (DecodeCopy root outboard copy out) (DecodeCopy root' outboard' copy' out') keys same read =
    one_same out.now out'.now k k' (Some outboard) (Some outboard') (Some copy) (Some copy') same.3 keys (ap (λ (n : List ℕ). Some n) same.1) (ap (λ (n : List ℕ). Some n) same.2) read
out_read k k' (Gather task) (Gather task') keys same read =
    one_same task.out.now task'.out.now k k' task.outboard task'.outboard None None same.9 keys same.4 refl read
out_read k k' (Replay root capacity script files) (Replay root' capacity' script' files') keys same read = absurd read
out_read k k' r s keys same read = absurd same

module _ (at : List ℕ → FileState) (known : (path : List ℕ) → IsKnown (at path)) where
  keys_good : (k p c : Option (Bor (List ℕ))) (m : Mode) → AsksForMode at (option_copied k) (option_copied p) (option_copied c) m
      → (¬ IsNoKey k) × (¬ (IsSome k × IsSome c)) × (¬ (IsSome p × (IsSome k ⊎ IsSome c))) × ¬ IsSomeAnd p (λ path. GivesNoKey (at path.now))
  keys_good None None None m has = (λ no. no, λ both. none_is_some both.0, λ mixed. none_is_some mixed.0, λ no. no)
  keys_good None None (Some c) m has = (λ no. no, λ both. none_is_some both.0, λ mixed. none_is_some mixed.0, λ no. no)
  keys_good (Some k) None None m has = (λ no. no has.0, λ both. none_is_some both.1, λ mixed. none_is_some mixed.0, λ no. no)
  keys_good (Some k) None (Some c) m has = absurd has
  keys_good None (Some p) None m has =
      (λ no. no, λ both. none_is_some both.0, λ mixed. elim mixed.1 [ inl key ↦ none_is_some key | inr context ↦ none_is_some context ], λ none. keyed_given (at p.now) m (known p.now) has none)
  keys_good None (Some p) (Some c) m has = absurd has
  keys_good (Some k) (Some p) c m has = absurd has

  -- what a task without a list has passed, another one of the same names has
  Passed : Task → Type 0
  Passed task = HasRoot task × WritesApart task × (¬ IsPastOutput task) × ¬ HasManyFiles task

  also : (r s : Task) → SameTask r s → IsOfKnown at r → Passed r → Passed s
  unfolding Passed
  also (Hash from count file) (Hash from' count' file') same of p = (tt, tt, λ past. p.2 (λ fits. past (omega (arith, fits, same.0, same.1))), p.3)
  also (Encode encoding file out) (Encode encoding' file' out') same of p = (tt, subst IsNoOutput same.2 p.1, p.2, p.3)
  also (CutSlice root start len outboard file out) (CutSlice root' start' len' outboard' file' out') same of p =
      (subst IsDigits same.0 p.0, subst IsNoOutput same.5 p.1, λ past. past, λ many. many)
  also (Decode root part file out) (Decode root' part' file' out') same of p = (subst IsDigits same.0 p.0, subst IsNoOutput same.3 p.1, p.2, p.3)
  also (DecodeCopy root outboard copy out) (DecodeCopy root' outboard' copy' out') same of p = (subst IsDigits same.0 p.0, subst IsNoOutput same.3 p.1, p.2, p.3)
  also (Gather task) s same of p = absurd of
  also (Replay root capacity script files) (Replay root' capacity' script' files') same of p =
      (subst IsDigits same.0 p.0, tt, λ past. past, λ many. p.3 (omega (arith, many, as_many files.items files'.items same.3)))
  also r s same of p = absurd same

  -- such a task has none
  no_list : (key_file : Option (Bor (List ℕ))) (r s : Task) → SameTask r s → IsOfKnown at r → (¬ ListClashes s) × (¬ ReadsListOf key_file s) × ¬ IsMixed s
  no_list key_file (Gather task) s same of = absurd of
  no_list key_file r (Gather task) same of = absurd same
  no_list key_file r s same of = (λ no. no, λ no. no, λ no. no)

  -- a request that has passed has no reason to be refused with 2
  good_also : (r s : Request) → SameRequest r s → IsOfKnown at r.task → IsFair at s.task → IsPassed at r → IsGood at s
  good_also r s same of fair passed =
      let rest : Passed s.task = also r.task s.task same.0 of (unfold Passed in (passed.root, passed.apart.0, passed.past, passed.few)) in
      let open_rest : HasRoot s.task × WritesApart s.task × (¬ IsPastOutput s.task) × ¬ HasManyFiles s.task = unfold Passed in rest in
      let list = no_list s.key_file r.task s.task same.0 of in
      let has : AsksForMode at (option_copied s.key) (option_copied s.key_file) (option_copied s.context) passed.mode.0 =
      subst (λ (T : Type 0). T) (λ i. AsksForMode at (same.1 i) (same.2 i) (same.3 i) passed.mode.0) passed.mode.1 in
      let keys = keys_good s.key s.key_file s.context passed.mode.0 has in
      record {
        root = open_rest.0;
        key = keys.0;
        both = keys.1;
        keys = keys.2;
        key_file = keys.3;
        past = open_rest.2;
        few = open_rest.3;
        mixed = list.2;
        apart = (open_rest.1, list.0, list.1, λ read. passed.apart.3 (out_read r.key_file s.key_file r.task s.task same.2 same.0 read));
        capacity = fair.0;
        script = fair.1;
      }

  pub never_both : (words : List Text) → ((request : Request) → AsksFor words request → IsOfKnown at request.task) → ((request : Request) → AsksFor words request → IsFair at request.task)
      → ¬ AsksForHelp words → (other : ℕ) → (AreRefused words → (other ≡ 2) ⊎ (other ≡ 4)) → ((other ≡ 0) ⊎ (other ≡ 1) → ArePassed words at) → IsUsage words at → (other ≡ 0) ⊎ (other ≡ 1) → ⊥
  never_both words of fair work other refused passed (inl fault) is = elim (refused (fault, work)) [
    | inl two ↦ elim is [ inl zero ↦ omega (arith, two, zero) | inr one ↦ omega (arith, two, one) ]
    | inr four ↦ elim is [ inl zero ↦ omega (arith, four, zero) | inr one ↦ omega (arith, four, one) ]
  ]
  never_both words of fair work other refused passed (inr (inl none)) is = elim (passed is) [ inl help ↦ work help | inr asks ↦ none asks.0 asks.1 ]
  never_both words of fair work other refused passed (inr (inr due)) is = elim (passed is) [
    | inl help ↦ work help
    | inr asks ↦
        not_due at known due.0
        (good_also asks.0 due.0 (one_request (subcommand_of program_app words) asks.0 due.0 asks.1 due.1) (of asks.0 asks.1) (fair due.0 due.1) asks.2) due.2.0 due.2.1 due.2.2
  ]

one_of_five : (n : ℕ) → n ≤ 4 → (n ≡ 0) ⊎ (n ≡ 1) ⊎ (n ≡ 2) ⊎ IsOpen n
one_of_five n most = elim (eqb_tells n 0) [
  | inl zero ↦ inl zero.1
  | inr above ↦ elim (eqb_tells n 1) [
    | inl one ↦ inr (inl one.1)
    | inr beyond ↦ elim (eqb_tells n 2) [
      | inl two ↦ inr (inr (inl two.1))
      | inr last ↦ elim (eqb_tells n 3) [
        | inl three ↦ inr (inr (inr (inl three.1)))
        | inr rest ↦ inr (inr (inr (inr (omega (arith, most, above.1, beyond.1, last.1, rest.1)))))
      ]
    ]
  ]
]

-- so that both runs end alike, unless one ends with 3 or 4
pub one_verdict : (a b : ℕ) → a ≤ 4 → b ≤ 4 → (a ≡ 0 → b ≢ 1) → (a ≡ 1 → b ≢ 0) → (a ≡ 2 → (b ≡ 0) ⊎ (b ≡ 1) → ⊥) → (b ≡ 2 → (a ≡ 0) ⊎ (a ≡ 1) → ⊥) → SameVerdict a b
one_verdict a b most also done refused usage wrong = elim (one_of_five a most) [
  | inl zero ↦ elim (one_of_five b also) [
    | inl nought ↦ inl (omega (arith, zero, nought))
    | inr (inl one) ↦ absurd (done zero one)
    | inr (inr (inl two)) ↦ absurd (wrong two (inl zero))
    | inr (inr (inr other)) ↦ inr (inr other)
  ]
  | inr (inl one) ↦ elim (one_of_five b also) [
    | inl zero ↦ absurd (refused one zero)
    | inr (inl once) ↦ inl (omega (arith, one, once))
    | inr (inr (inl two)) ↦ absurd (wrong two (inr one))
    | inr (inr (inr other)) ↦ inr (inr other)
  ]
  | inr (inr (inl two)) ↦ elim (one_of_five b also) [
    | inl zero ↦ absurd (usage two (inl zero))
    | inr (inl one) ↦ absurd (usage two (inr one))
    | inr (inr (inl twice)) ↦ inl (omega (arith, two, twice))
    | inr (inr (inr other)) ↦ inr (inr other)
  ]
  | inr (inr (inr other)) ↦ inr (inl other)
]
