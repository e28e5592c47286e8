use Rattle.std.proofs.Common.{◌≡◌, ◌∙◌, ℕ, List, [], ap, map, sym, subst, string_bytes}
use Rattle.b3tree.specs.declared.mode.Mode.{Mode}
use Rattle.bao_check.specs.declared.checked.Checked.{Checked}
use Rattle.holders.specs.declared.fixed.Fixed.{Fixed}
use Rattle.store_core.specs.Machine.{start}
use Rattle.bao_script.proofs.Exits.{passed_on, same_error}
use Rattle.bao_script.proofs.Running.{printed}
use Rattle.bao_script.specs.declared.fault.ReplayScriptFault.TheVariants.{Capacity, Illegal}
use Rattle.bao_script.specs.declared.numbered.NumberedLine.{NumberedLine}
use Rattle.bao_script.specs.Faults.{IsEarly, IsWant}
use Rattle.bao_script.specs.ScriptRuns.{RanLines, StandsAt, StopsAtLine}
use Rattle.bao_script.specs.Slices.{ArePieces, Slice, slices_of}
use Rattle.bao_script.proofs.replay.replay_script.Goals as goal

pub returns-in_err-slices-clause-illegal : goal.returns-in_err-slices-clause-illegal
returns-in_err-slices-clause-illegal c number h =
    absurd (passed_on IsWant c.from_residual.result c.in_err-slices.field-0.0 (Illegal number) c.from_residual.ensures.1 h c.in_err-slices.ensures.fault)

pub returns-in_err-slices-clause-capacity : goal.returns-in_err-slices-clause-capacity
returns-in_err-slices-clause-capacity c h =
    absurd (passed_on IsWant c.from_residual.result c.in_err-slices.field-0.0 Capacity c.from_residual.ensures.1 h c.in_err-slices.ensures.fault)

pub returns-in_err-pieces-clause-illegal : goal.returns-in_err-pieces-clause-illegal
returns-in_err-pieces-clause-illegal c number h =
    absurd (passed_on IsEarly c.from_residual-in_err-pieces.result c.in_err-pieces.field-0.0 (Illegal number) c.from_residual-in_err-pieces.ensures.1 h c.in_err-pieces.ensures.fault)

pub returns-in_err-pieces-clause-capacity : goal.returns-in_err-pieces-clause-capacity
returns-in_err-pieces-clause-capacity c h =
    absurd (passed_on IsEarly c.from_residual-in_err-pieces.result c.in_err-pieces.field-0.0 Capacity c.from_residual-in_err-pieces.ensures.1 h c.in_err-pieces.ensures.fault)

-- the pieces that were checked are those that the script names
named : (mode : Mode) (root : List ℕ) (files : List (List ℕ)) (lines script : List NumberedLine) (cut slices : List Slice) (pieces given : List Checked)
    → lines ≡ script → slices ≡ slices_of files lines → cut ≡ slices → given ≡ pieces → ArePieces mode root cut pieces → ArePieces mode root (slices_of files script) given
named mode root files lines script cut slices pieces given lines_are slices_are cut_is given_are are =
    let P : List Slice → Type 0 = λ all. ArePieces mode root all given in
    let Q : List Checked → Type 0 = ArePieces mode root cut in
    subst P (cut_is ∙ slices_are ∙ ap (slices_of files) lines_are) (subst Q (sym given_are) are)

pub returns-clause-printed : goal.returns-clause-printed
returns-clause-printed c =
    let lines = c.lines-lines.ensures in
    let fixed : Fixed = record { root = c.args.root; mode = c.args.mode; capacity = c.args.capacity; base = 0 } in
    let files : List (List ℕ) = map (λ file. file.items) c.args.files.now in
    let pieces = named c.args.mode c.args.root.0 files c.lines-lines.result.now c.args.script.now c.as_slice.result.now c.in_ok-slices.slices.items c.in_ok-pieces.pieces.items c.as_slice-2.result.now
    lines c.in_ok-slices.ensures.ok c.as_slice.ensures.value c.as_slice-2.ensures.value c.in_ok-pieces.ensures.pieces
    in
    let stands : StandsAt fixed c.as_slice-2.result.now start c.in-Ok.run' = ([], [], [], c.in-Ok.ensures.fresh c.as_slice-2.result.now) in
    let over_lines = c.in_ok-run_lines.ensures.ok fixed start stands in
    let over_script = subst (λ (all : List NumberedLine). RanLines fixed c.as_slice-2.result.now start all (string_bytes c.new-text.result) (string_bytes c.run_lines.new.out) c.run_lines.new.run) lines over_lines in
    let ran = subst (λ (text : List ℕ). RanLines fixed c.as_slice-2.result.now start c.args.script.now text (string_bytes c.run_lines.new.out) c.run_lines.new.run) c.new-text.ensures.bytes over_script in
    printed fixed files c.args.script.now c.as_slice-2.result.now c.run_lines.new.run c.into_store.result c.held_count.result (string_bytes c.run_lines.new.out) c.into_bytes.result.items
    pieces ran c.into_store.ensures.left c.held_count.ensures
    (ap (λ v. v.items) c.into_bytes.ensures.value ∙ c.in_ok-push_held.ensures)

pub returns-in_err-run_lines-clause-illegal : goal.returns-in_err-run_lines-clause-illegal
returns-in_err-run_lines-clause-illegal c = λ number h.
    let lines = c.lines-lines.ensures in
    let fixed : Fixed = record { root = c.args.root; mode = c.args.mode; capacity = c.args.capacity; base = 0 } in
    let files : List (List ℕ) = map (λ file. file.items) c.args.files.now in
    let pieces = named c.args.mode c.args.root.0 files c.lines-lines.result.now c.args.script.now c.as_slice.result.now c.in_ok-slices.slices.items c.in_ok-pieces.pieces.items c.as_slice-2.result.now
    lines c.in_ok-slices.ensures.ok c.as_slice.ensures.value c.as_slice-2.ensures.value c.in_ok-pieces.ensures.pieces
    in
    let stands : StandsAt fixed c.as_slice-2.result.now start c.in-Ok.run' = ([], [], [], c.in-Ok.ensures.fresh c.as_slice-2.result.now) in
    record {
      pieces = c.as_slice-2.result.now;
      named = pieces;
      stops = subst (λ (all : List NumberedLine). StopsAtLine fixed c.as_slice-2.result.now 0 start all number) lines
          (c.in_err-run_lines.ensures.illegal fixed start number stands
          (same_error c.from_residual-in_err-run_lines.result c.in_err-run_lines.field-0.0 _ c.from_residual-in_err-run_lines.ensures.1 h));
    }
