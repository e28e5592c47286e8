use Rattle.std.proofs.Common.{ℕ, List, IfOk, subst}
use Rattle.bao_decode.specs.Opened.{IsUnread}
use Rattle.bao_decode.specs.TextPass.{IsDecoded}
use Rattle.bao_files.proofs.Results.{with_right}
use Rattle.bao_decode.proofs.Decodings.{decoded_known, drafted_known}
use Rattle.bao_decode.proofs.Openings.{unread_of_contents, unread_of_remaining}
use Rattle.bao_decode.proofs.decode.write_input.Goals as goal

pub returns-in_default-clause-ok : goal.returns-in_default-clause-ok
returns-in_default-clause-ok g c =
    let contents = g.D.Input.Source.contents c.args.input in
    let remaining = g.D.Input.Read.remaining c.args.input in
    with_right c.write_kept.result _ (λ count done. (done.0, unread_of_remaining contents remaining done.0 done.1, done.2)) c.write_kept.ensures.ok

pub returns-then-is_same-clause-ok : goal.returns-then-is_same-clause-ok
returns-then-is_same-clause-ok g c =
    let contents = g.D.Input.Source.contents c.args.input in
    let remaining = g.D.Input.Read.remaining c.args.input in
    with_right c.write_kept-then-is_same.result _ (λ count done. (done.0, unread_of_remaining contents remaining done.0 done.1, done.2)) c.write_kept-then-is_same.ensures.ok

pub returns-then-is_replaced-clause-ok : goal.returns-then-is_replaced-clause-ok
returns-then-is_replaced-clause-ok g c =
    let remaining = g.D.Input.Read.remaining c.args.input in
    let source = c.over-shown.result.source in
    let mode = c.args.mode.now in
    let root = c.args.root.now.0 in
    let part = c.args.part.now in
    let old = g.D.Draft.Write.contents c.args.out.now in
    let new = g.D.Draft.Write.contents c.write_draft.new.out in
    subst (λ i. IfOk c.write_draft.result (λ count. (text : List ℕ) × IsUnread (g.D.Input.Source.contents i) remaining text × IsDecoded mode root part text count old new)) c.over-shown.ensures
    (with_right c.write_draft.result _ (λ count done. (done.0, unread_of_contents (g.D.Input.Source.contents source) remaining done.0 done.1, done.2))
    (drafted_known mode root part (g.D.Input.Source.contents source) (g.D.Input.Source.faultless source) c.args.file c.args.path old new c.write_draft.result c.write_draft.ensures.some c.write_draft.ensures.known))

pub returns-clause-ok : goal.returns-clause-ok
returns-clause-ok g c =
    let remaining = g.D.Input.Read.remaining c.args.input in
    let source = c.over-shown.result.source in
    let mode = c.args.mode.now in
    let root = c.args.root.now.0 in
    let part = c.args.part.now in
    let old = g.D.Draft.Write.contents c.args.out.now in
    let new = g.D.Draft.Write.contents c.write_decoded.new.out in
    subst (λ i. IfOk c.write_decoded.result (λ count. (text : List ℕ) × IsUnread (g.D.Input.Source.contents i) remaining text × IsDecoded mode root part text count old new)) c.over-shown.ensures
    (with_right c.write_decoded.result _ (λ count done. (done.0, unread_of_contents (g.D.Input.Source.contents source) remaining done.0 done.1, done.2))
    (decoded_known mode root part (g.D.Input.Source.contents source) (g.D.Input.Source.faultless source) c.args.file c.args.path old new c.write_decoded.result c.write_decoded.ensures.some c.write_decoded.ensures.known))
