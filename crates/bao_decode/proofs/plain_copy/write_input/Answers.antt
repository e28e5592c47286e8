use Rattle.std.proofs.Common.{◌≡◌, ℕ, List, length, IfOk, subst, arith}
use Rattle.std.specs.Io.KnownBytes.{Appends}
use Rattle.bao_decode.specs.CopyPass.{IsVerifiedCopy}
use Rattle.bao_decode.specs.Opened.{IsUnread}
use Rattle.bao_files.proofs.Results.{with_right}
use Rattle.bao_decode.proofs.Copying.{copied_known, kept_known}
use Rattle.bao_decode.proofs.Openings.{unread_of_contents, unread_of_remaining}
use Rattle.bao_decode.proofs.plain_copy.write_input.Goals as goal

pub returns-clause-ok : goal.returns-clause-ok
returns-clause-ok g c =
    let remaining = g.D.Input.Read.remaining c.args.input in
    let source = c.over-shown.result.source in
    let o = c.args.outline.now in
    let old = g.D.Draft.Write.contents c.args.out.now in
    let new = g.D.Draft.Write.contents c.write_copy.new.out in
    subst (λ i. IfOk c.write_copy.result (λ count. (x : List ℕ) × IsUnread (g.D.Input.Source.contents i) remaining x × IsVerifiedCopy o x × (count ≡ length x) × Appends old new x)) c.over-shown.ensures
    (with_right c.write_copy.result _ (λ count done. (done.0, unread_of_contents (g.D.Input.Source.contents source) remaining done.0 done.1, done.2, done.3, done.4))
    (copied_known o (g.D.Input.Source.contents source) (g.D.Input.Source.faultless source) c.args.file c.args.path old new c.write_copy.result c.write_copy.ensures.some c.write_copy.ensures.known))

pub returns-2-clause-ok : goal.returns-2-clause-ok
returns-2-clause-ok g c =
    let contents = g.D.Input.Source.contents c.args.input in
    let remaining = g.D.Input.Read.remaining c.args.input in
    let o = c.args.outline.now in
    let old = g.D.Draft.Write.contents c.args.out.now in
    let new = g.D.Draft.Write.contents c.write_copy-2.new.out in
    with_right c.write_copy-2.result _ (λ count done. (done.0, unread_of_remaining contents remaining done.0 done.1, done.2, done.3, done.4))
    (kept_known o remaining c.in_ok-bytes.bytes.items c.as_slice.result.now _ c.args.file c.args.path old new c.write_copy-2.result c.as_slice.ensures.value
    (omega (arith, c.as_slice.type_inv.1)) c.in_ok-bytes.ensures.most c.write_copy-2.ensures.known)
