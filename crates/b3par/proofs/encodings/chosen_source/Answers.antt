use Rattle.std.proofs.Common.{rules, ◌≡◌, ◌≤◌, ℕ, List, [], ◌∷◌, Vec, Global, length, IfSome, subst}
use Rattle.bao_text.specs.declared.choice.Choice.{Choice}
use Rattle.bao_text.specs.Texts.{joined, length_text}
use Rattle.b3par.specs.Encodings.{GainsText}
use Rattle.b3par.proofs.Parents.{text_after, text_all, text_some}
use Rattle.b3par.proofs.encodings.chosen_source.Goals as goal

pub returns-clause-all : goal.returns-clause-all
returns-clause-all g c = λ of is.
    let contents = g.S.Source.contents c.args.source.now in
    let choice = c.args.choice.now in
    let mode = c.args.mode.now in
    let len = c.args.len in
    let top = c.in_ok-done.done.tree.top in
    let before : Vec ℕ Global = c.extend_from_slice.new.self in
    let rest : List (Vec ℕ Global) = c.in_ok-done.done.tree.texts.items in
    let texts : List (Vec ℕ Global) = c.append.new.self.items in
    let begun : before.items ≡ length_text len = search rules in
    let all : texts ≡ before ∷ rest = search rules in
    let done : GainsText contents choice mode 0 len [] (joined rest) top = search rules in
    let made : GainsText contents (of len) mode 0 len [] (joined rest) top =
    subst (λ (k : Choice). GainsText contents k mode 0 len [] (joined rest) top) is done in
    let gains = text_after contents (of len) mode 0 len before (length_text len) rest texts top begun all made in
    let ends : IfSome contents (λ s. length s ≤ len) = search rules in
    rw (c.root_hash.ensures, c.rooted.ensures) (text_all contents of mode len (joined texts) top gains ends)

pub returns-clause-some : goal.returns-clause-some
returns-clause-some g c = λ of is.
    let contents = g.S.Source.contents c.args.source.now in
    let choice = c.args.choice.now in
    let mode = c.args.mode.now in
    let len = c.args.len in
    let top = c.in_ok-done.done.tree.top in
    let before : Vec ℕ Global = c.extend_from_slice.new.self in
    let rest : List (Vec ℕ Global) = c.in_ok-done.done.tree.texts.items in
    let texts : List (Vec ℕ Global) = c.append.new.self.items in
    let begun : before.items ≡ length_text len = search rules in
    let all : texts ≡ before ∷ rest = search rules in
    let done : GainsText contents choice mode 0 len [] (joined rest) top = search rules in
    let made : GainsText contents (of len) mode 0 len [] (joined rest) top =
    subst (λ (k : Choice). GainsText contents k mode 0 len [] (joined rest) top) is done in
    let gains = text_after contents (of len) mode 0 len before (length_text len) rest texts top begun all made in
    (gains.top.bytes, rw (c.root_hash.ensures, c.rooted.ensures) (text_some contents of mode len (joined texts) top gains))
