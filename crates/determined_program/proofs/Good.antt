-- A good command has no fault with status 2.
use Rattle.std.specs.Borrow.{Bor}
use Rattle.std.proofs.Common.{◌≡◌, ◌≢◌, ℕ, List, [], Option, None, Some, IsSomeAnd, codes, inl, inr, arith, sym}
use Rattle.clap.specs.Words.{Text, fault_of}
use Rattle.bao_decode.specs.declared.decode_fault.DecodeFault.{DecodeFault}
use Rattle.bao_decode.specs.declared.decode_fault.DecodeFault.TheVariants as decode
use Rattle.bao_files.specs.Disks.{FileState, IsKnown}
use Rattle.bao_tasks.specs.declared.gathered_fault.GatheredFault.{GatheredFault}
use Rattle.bao_tasks.specs.declared.gathered_fault.GatheredFault.TheVariants as gathered
use Rattle.bao_windows.specs.declared.fault.GatherFault.TheVariants as gather
use Rattle.bao_request.specs.CommandLine.{AsksFor, program_app}
use Rattle.bao_request.specs.declared.tasks.Request.{Request}
use Rattle.bao_request.specs.declared.tasks.Task.{Task}
use Rattle.bao_request.specs.declared.tasks.Task.TheVariants.{Hash, Encode, CutSlice, Decode, DecodeCopy, Gather, Replay}
use Rattle.bao_command.specs.declared.fault.Fault.{Fault}
use Rattle.bao_command.specs.declared.fault.Fault.TheVariants as fault
use Rattle.bao_command.specs.Outcome.{IsUsage}
use Rattle.bao_command.specs.Status.{decode_status_of, gathered_status_of, status_of}
use Rattle.bao_command.specs.Tasks.{IsDue, IsLedTo, IsListAt, IsListRead, IsNamed, LeadsListTo, LeadsToOther, ListClashes, ReadsListOf, ReadsOne, ReadsOutAs, WritesApart, out_of}
use Rattle.bao_command.proofs.Refusals.{check_is_no_usage}
use Rattle.bao_command.proofs.Telling.{file_is_no_usage}
use Rattle.determined_program.specs.Commands.{IsGood}

decode_is_no_usage : (cause : DecodeFault) → decode_status_of cause ≢ 2
decode_is_no_usage (decode.File cause) is = file_is_no_usage cause is
decode_is_no_usage (decode.Check cause) is = check_is_no_usage cause is

gathered_is_no_usage : (cause : GatheredFault) → gathered_status_of cause ≢ 2
gathered_is_no_usage (gathered.File cause) is = file_is_no_usage cause is
gathered_is_no_usage (gathered.Outboard cause) is = check_is_no_usage cause is
gathered_is_no_usage (gathered.Gather gather.TooLarge) is = let bad : 1 ≡ 2 = is in absurd (omega arith)
gathered_is_no_usage (gathered.Gather gather.Unfinished) is = let bad : 1 ≡ 2 = is in absurd (omega arith)
gathered_is_no_usage (gathered.Gather gather.NotTheRoot) is = let bad : 1 ≡ 2 = is in absurd (omega arith)
gathered_is_no_usage (gathered.Gather gather.Memory) is = let bad : 4 ≡ 2 = is in absurd (omega arith)
gathered_is_no_usage (gathered.Gather gather.Starved) is = let bad : 4 ≡ 2 = is in absurd (omega arith)

module _ (at : List ℕ → FileState) (known : (path : List ℕ) → IsKnown (at path)) where
  -- names of known files lead to one only where they are the same
  one_name : (ours theirs : List ℕ) → IsLedTo at ours theirs → ours ≡ theirs
  one_name ours theirs led = led (known ours) (known theirs)

  out_apart : (task : Task) → WritesApart task → IsSomeAnd (out_of task) (λ out. IsLedTo at out.now (codes "/dev/stdout")) → ⊥
  out_apart (Hash from count file) apart leads = absurd leads
  out_apart (Encode encoding file out) apart leads = apart.1 (one_name out.now (codes "/dev/stdout") leads)
  out_apart (CutSlice root start len outboard file out) apart leads = apart.1 (one_name out.now (codes "/dev/stdout") leads)
  out_apart (Decode root part file out) apart leads = apart.1 (one_name out.now (codes "/dev/stdout") leads)
  out_apart (DecodeCopy root outboard copy out) apart leads = apart.1 (one_name out.now (codes "/dev/stdout") leads)
  out_apart (Gather task) apart leads = apart.1 (one_name task.out.now (codes "/dev/stdout") leads)
  out_apart (Replay root capacity script files) apart leads = absurd leads

  -- so it is of a file that is read
  same : (out : List ℕ) (other : Option (Bor (List ℕ))) → IsSomeAnd other (λ path. IsLedTo at out path.now) → IsSomeAnd other (λ path. out ≡ path.now)
  same out None leads = absurd leads
  same out (Some path) leads = one_name out path.now leads

  one_same : (out : List ℕ) (key_file outboard file : Option (Bor (List ℕ))) → ReadsOne (IsLedTo at out) key_file outboard file → ReadsOne (λ path. out ≡ path) key_file outboard file
  one_same out key_file outboard file (inl key) = inl (same out key_file key)
  one_same out key_file outboard file (inr (inl beside)) = inr (inl (same out outboard beside))
  one_same out key_file outboard file (inr (inr other)) = inr (inr (same out file other))

  out_read : (key_file : Option (Bor (List ℕ))) (task : Task) → ReadsOutAs (IsLedTo at) key_file task → ReadsOutAs (λ ours theirs. ours ≡ theirs) key_file task
  out_read key_file (Hash from count file) leads = absurd leads
  out_read key_file (Encode encoding file out) leads = one_same out.now key_file None (Some file) leads
  out_read key_file (CutSlice root start len outboard file out) leads = one_same out.now key_file outboard (Some file) leads
  out_read key_file (Decode root part file out) leads = one_same out.now key_file None (Some file) leads
  out_read key_file (DecodeCopy root outboard copy out) leads = one_same out.now key_file (Some outboard) (Some copy) leads
  out_read key_file (Gather task) leads = one_same task.out.now key_file task.outboard None leads
  out_read key_file (Replay root capacity script files) leads = absurd leads

  named : (list : List ℕ) (other : Option (Bor (List ℕ))) → IsSomeAnd other (λ path. IsLedTo at list path.now) → IsNamed list other
  named list None leads = absurd leads
  named list (Some path) leads = sym (one_name list path.now leads)

  leads_apart : (out : List ℕ) (outboard key_file : Option (Bor (List ℕ))) (files : List (Bor (List ℕ))) (missing : Option (Bor (List ℕ))) → ¬ IsListAt out missing
      → ¬ IsListRead key_file outboard files missing → LeadsToOther at out outboard key_file files missing → ⊥
  leads_apart out outboard key_file files None clash reads leads = absurd leads
  leads_apart out outboard key_file files (Some list) clash reads leads = elim leads [
    | inl output ↦ clash (inr (λ apart. apart.1 (one_name list.now (codes "/dev/stdout") output)))
    | inr (inl to_out) ↦ clash (inl (one_name list.now out to_out))
    | inr (inr (inl to_outboard)) ↦ reads (inr (inl (named list.now outboard to_outboard)))
    | inr (inr (inr (inl to_key))) ↦ reads (inr (inr (named list.now key_file to_key)))
    | inr (inr (inr (inr file))) ↦ reads (inl (file.0, file.1, λ d. sym (one_name list.now _ (file.2 d))))
  ]

  list_apart : (key_file : Option (Bor (List ℕ))) (task : Task) → ¬ ListClashes task → ¬ ReadsListOf key_file task → LeadsListTo at key_file task → ⊥
  list_apart key_file (Gather task) clash reads leads = leads_apart task.out.now task.outboard key_file task.files.items task.missing clash reads leads
  list_apart key_file (Hash from count file) clash reads leads = absurd leads
  list_apart key_file (Encode encoding file out) clash reads leads = absurd leads
  list_apart key_file (CutSlice root start len outboard file out) clash reads leads = absurd leads
  list_apart key_file (Decode root part file out) clash reads leads = absurd leads
  list_apart key_file (DecodeCopy root outboard copy out) clash reads leads = absurd leads
  list_apart key_file (Replay root capacity script files) clash reads leads = absurd leads

  pub not_due : (request : Request) → IsGood at request → (f : Fault) → status_of f ≡ 2 → IsDue at request f → ⊥
  not_due request good fault.Word two due = due
  not_due request good fault.Root two due = due good.root
  not_due request good fault.Key two due = good.key due
  not_due request good fault.KeyAndContext two due = good.both due
  not_due request good fault.KeyFile two due = good.key_file due
  not_due request good fault.KeyFileAndOthers two due = good.keys due
  not_due request good fault.OutputRange two due = good.past due
  not_due request good fault.TooManyFiles two due = good.few due
  not_due request good fault.OutIsOutput two due = due good.apart.0
  not_due request good fault.OutLeadsToOutput two due = out_apart request.task good.apart.0 due
  not_due request good fault.OutIsRead two due = good.apart.3 (out_read request.key_file request.task due)
  not_due request good fault.LongAndCapacity two due = good.mixed due
  not_due request good fault.ListIsOut two due = good.apart.1 due
  not_due request good fault.ListIsRead two due = good.apart.2 due
  not_due request good fault.ListLeadsToOther two due = list_apart request.key_file request.task good.apart.1 good.apart.2 due
  not_due request good (fault.File cause) two due = file_is_no_usage cause two
  not_due request good (fault.Decode cause) two due = decode_is_no_usage cause two
  not_due request good (fault.Gather cause unlisted) two due = gathered_is_no_usage cause two
  not_due request good (fault.Replay cause) two due = elim (due.1 two) [ inl none ↦ good.capacity none | inr bad ↦ good.script bad ]

  pub not_usage : (words : List Text) → ((request : Request) → AsksFor words request → IsGood at request) → (request : Request) × AsksFor words request → fault_of program_app words ≡ []
      → IsUsage words at → ⊥
  not_usage words good some taken (inl fault) = fault taken
  not_usage words good some taken (inr (inl none)) = none some.0 some.1
  not_usage words good some taken (inr (inr due)) = not_due due.0 (good due.0 due.1) due.2.0 due.2.1 due.2.2
