-- What is done of a request goes apart.
use Rattle.std.proofs.Common.{◌≡◌, ◌∙◌, ℕ, List, Option, inl, inr}
use Rattle.clap.specs.Words.{Text}
use Rattle.bao_files.specs.Disks.{FileState, KeepsFiles}
use Rattle.bao_request.specs.declared.tasks.Request.{Request}
use Rattle.bao_request.specs.CommandLine.{AsksFor, AsksForHelp}
use Rattle.bao_command.specs.Outcome.{Done, LeavesAt}
use Rattle.bao_command.specs.Tasks.{GoesApart, PrintsLine}
use Rattle.determined_program.specs.Commands.{WritesOverRead}

-- no file that is read is written over then
unread : (request : Request) → GoesApart request → ¬ WritesOverRead request
unread request (writes, clashes, list, out) (inl reads) = list reads
unread request (writes, clashes, list, out) (inr reads) = out reads

printed_apart : (request : Request) (at after : List ℕ → FileState) (old new : Option (List ℕ)) → PrintsLine request at after old new → GoesApart request
printed_apart request at after old new prints = prints.3

-- so nothing is done where it would be
pub not_done : (words : List Text) (at after : List ℕ → FileState) (old new : Option (List ℕ)) → ((request : Request) → AsksFor words request → WritesOverRead request) → ¬ AsksForHelp words
    → ¬ Done words at after old new
not_done words at after old new asked work (inl help) = work help.0
not_done words at after old new asked work (inr (request, asks, prints)) = unread request (printed_apart request at after old new prints) (asked request asks)

-- nor is a file changed
pub not_left : (words : List Text) (at after : List ℕ → FileState) (status : ℕ) → ((request : Request) → AsksFor words request → WritesOverRead request)
    → LeavesAt words at after status → KeepsFiles at after
not_left words at after status reads (inl kept) = kept
not_left words at after status reads (inr left) = elim left.2.2 [ inl kept ↦ kept | inr apart ↦ absurd (unread left.0 apart.1 (reads left.0 left.1)) ]

-- wrong arguments leave all files as they were
pub usage_left : (words : List Text) (at after : List ℕ → FileState) (status : ℕ) → status ≡ 2 → LeavesAt words at after status → KeepsFiles at after
usage_left words at after status two (inl kept) = kept
usage_left words at after status two (inr left) = elim left.2.2 [ inl kept ↦ kept | inr other ↦ absurd (other.0 (left.2.1 ∙ two)) ]
